-- The construct at the front of a text, by the text and the length of its first token. For private
-- functions of `portable.rt`; no public contract cites it.
use Rattle.std.specs.Prelude.{◌-◌, ◌==◌, ◌&&◌, ◌||◌, not, ℕ, List, [], ◌∷◌, if◌then◌else◌, take, Option, Some, None}
use Rattle.std.specs.Char.{is_ascii_digit}
use Rattle.mysql_named_params.specs.Bytes.{asterisk, backquote, dash, double_quote, hash, slash, bracket, dollar, point}
use Rattle.mysql_portable.specs.ServerTokens.{begins_special, begins_tag, begins_fraction, holds_return, escapes_backquote}
use Rattle.mysql_portable.specs.Quiet.{is_quiet}
use Rattle.mysql_portable.specs.Portable.{stands_inside, may_open_line, begins_exponent}
use Rattle.mysql_portable.specs.FirstUnportable.{special_construct}
use Rattle.mysql_portable.specs.declared.portable.Construct.{Construct}
use Rattle.mysql_portable.specs.declared.portable.Construct.TheVariants as construct

-- the construct that a `/` opens before this text
abbrev pub block_construct : List ℕ → Option Construct
block_construct [] = None
block_construct (b ∷ bs) =
    if b == asterisk && (begins_special bs && not (is_quiet bs))
    then Some (special_construct bs)
    else None

-- the construct with which the token of `len` bytes at the front of the text begins
abbrev pub front_construct : List ℕ → ℕ → Option Construct
front_construct [] len = None
front_construct (b ∷ bs) len =
    if b == double_quote && stands_inside double_quote (take (len - 1) bs)
    then Some construct.EscapedQuote
    else if b == backquote && escapes_backquote (take (len - 1) bs)
    then Some construct.EscapedBackquote
    else if (b == hash || b == dash) && holds_return (take (len - 1) bs)
    then Some construct.ReturnInComment
    else if b == slash then block_construct bs
    else if b == dash && may_open_line bs then Some construct.Dashes
    else if b == bracket then Some construct.Bracket
    else if b == dollar && begins_tag bs then Some construct.DollarQuote
    else if b == point && begins_fraction bs then Some construct.DashesAfterExponent
    else if (is_ascii_digit b || b == point) && begins_exponent bs
    then Some construct.PlaceAfterExponent
    else None
