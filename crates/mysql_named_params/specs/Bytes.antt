-- The bytes and classes of bytes that the grammar of queries names, and the first occurrence of a
-- word. Signs and white space have names here. Letters and digits are written `byte "e"`.
use Rattle.std.specs.Prelude.{◌≡◌, ◌≢◌, ℕ, Bool, false, ◌==◌, ◌&&◌, ◌||◌, nat_le, List, [], ◌∷◌, ◌++◌}
use Rattle.std.specs.Char.{is_ascii_digit}
use Rattle.std.specs.Str.{byte}

-- b'\t'
abbrev pub tab : ℕ
tab = 9

-- b'\n'
abbrev pub newline : ℕ
newline = 10

-- b'\x0c'
abbrev pub form_feed : ℕ
form_feed = 12

-- b'\r'
abbrev pub carriage_return : ℕ
carriage_return = 13

-- b' '
abbrev pub space : ℕ
space = 32

-- b'!'
abbrev pub exclamation_mark : ℕ
exclamation_mark = 33

-- b'"'
abbrev pub double_quote : ℕ
double_quote = 34

-- b'#'
abbrev pub hash : ℕ
hash = 35

-- b'$'
abbrev pub dollar : ℕ
dollar = 36

-- b'\''
abbrev pub single_quote : ℕ
single_quote = 39

-- b'*'
abbrev pub asterisk : ℕ
asterisk = 42

-- b'+'
abbrev pub plus : ℕ
plus = 43

-- b'-'
abbrev pub dash : ℕ
dash = 45

-- b'.'
abbrev pub point : ℕ
point = 46

-- b'/'
abbrev pub slash : ℕ
slash = 47

-- b':'
abbrev pub colon : ℕ
colon = 58

-- b'?'
abbrev pub question_mark : ℕ
question_mark = 63

-- b'['
abbrev pub bracket : ℕ
bracket = 91

-- b'_'
abbrev pub underscore : ℕ
underscore = 95

-- b'`'
abbrev pub backquote : ℕ
backquote = 96

-- white space, like Rust's `u8::is_ascii_whitespace`
abbrev pub is_white_space : ℕ → Bool
is_white_space b = b == tab || b == newline || b == form_feed || b == carriage_return || b == space

-- b'a' to b'z'
abbrev pub is_lower_letter : ℕ → Bool
is_lower_letter b = nat_le (byte "a") b && nat_le b (byte "z")

-- a byte that begins a name
abbrev pub is_start_byte : ℕ → Bool
is_start_byte b = is_lower_letter b || b == underscore

-- a byte that continues a name
abbrev pub is_name_byte : ℕ → Bool
is_name_byte b = is_start_byte b || is_ascii_digit b

-- either quote: a byte that opens and closes a string
abbrev pub is_string_quote : ℕ → Bool
is_string_quote b = b == single_quote || b == double_quote

-- a byte after `/*` with which it opens no comment: the text after it is executed, or a hint
abbrev pub is_extension : ℕ → Bool
is_extension b = b == exclamation_mark || b == plus

-- the text has a first byte, and this byte passes the test
abbrev pub begins : (ℕ → Bool) → List ℕ → Bool
begins test [] = false
begins test (b ∷ bs) = test b

-- the word doesn't occur in the bytes
abbrev pub Lacks : List ℕ → List ℕ → Type 0
Lacks word bytes = (front back : List ℕ) → front ++ (word ++ back) ≢ bytes

-- the word occurs only at the very end of the bytes, if at all
abbrev pub HoldsOnlyAtEnd : List ℕ → List ℕ → Type 0
HoldsOnlyAtEnd word bytes = (front back : List ℕ) → front ++ (word ++ back) ≡ bytes → back ≡ []

-- the bytes go up to the first occurrence of the word, with it, or to the end if there is none
pub data IsUpTo (word bytes rest : List ℕ) : Type 0 where
  up_to_word : (body : List ℕ) →
      body ++ word ≡ bytes → HoldsOnlyAtEnd word bytes → IsUpTo word bytes rest
  up_to_end : Lacks word bytes → rest ≡ [] → IsUpTo word bytes rest
