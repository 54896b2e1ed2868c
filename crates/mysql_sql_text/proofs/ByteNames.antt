-- Names of the bytes that lemmas speak of.
use Rattle.std.specs.Prelude.{ℕ}
use Rattle.std.specs.Str.{byte}

abbrev pub newline : ℕ
newline = byte "\n"

abbrev pub carriage_return : ℕ
carriage_return = byte "\r"

abbrev pub space : ℕ
space = byte " "

abbrev pub double_quote : ℕ
double_quote = byte "\""

abbrev pub single_quote : ℕ
single_quote = byte "'"

abbrev pub backslash : ℕ
backslash = byte "\\"

abbrev pub minus : ℕ
minus = byte "-"

abbrev pub point : ℕ
point = byte "."

abbrev pub colon : ℕ
colon = byte ":"

abbrev pub digit_zero : ℕ
digit_zero = byte "0"

abbrev pub letter_x : ℕ
letter_x = byte "x"

abbrev pub capital_n : ℕ
capital_n = byte "N"
