-- The tests of Server.antt, Quiet.antt and FrontConstruct.antt for a reading in which other bytes
-- begin a name after `:`. A test stops at the first place, so nothing else depends on the reading.
-- For private functions of `wide.rt`; no public contract cites it.
use Rattle.std.specs.Prelude.{◌==◌, ◌&&◌, ◌||◌, not, ℕ, Bool, false, List, [], ◌∷◌, drop, take, if◌then◌else◌, Option, Some, None}
use Rattle.std.specs.Char.{is_ascii_digit}
use Rattle.std.specs.Str.{byte}
use Rattle.mysql_named_params.specs.Bytes.{asterisk, backquote, bracket, colon, dash, dollar, exclamation_mark, hash, plus, point, question_mark, slash, begins, is_extension, is_string_quote}
use Rattle.mysql_portable.specs.ServerTokens.{begins_exponent_dashes, begins_special, is_tag_byte}
use Rattle.mysql_portable.specs.Quiet.{closes, is_for_client, is_quiet, is_version, stands_apart}
use Rattle.mysql_portable.specs.FirstUnportable.{special_construct}
use Rattle.mysql_portable.specs.FrontConstruct.{front_construct}
use Rattle.mysql_portable.specs.FrontInClient.{first_of, found_or_zero}
use Rattle.mysql_portable.specs.declared.portable.Construct.{Construct}
use Rattle.mysql_portable.specs.declared.portable.Construct.TheVariants as construct

-- `?`, or `:` and a byte that begins a name
abbrev pub begins_place_by : (ℕ → Bool) → List ℕ → Bool
begins_place_by start [] = false
begins_place_by start (b ∷ bs) = b == question_mark || (b == colon && begins start bs)

-- after `$`: the rest of `$$` or `$tag$`, or a place
abbrev pub begins_tag_by : (ℕ → Bool) → List ℕ → Bool
begins_tag_by start [] = false
begins_tag_by start (b ∷ bs) =
    b == dollar || (begins_place_by start (b ∷ bs) || (is_tag_byte b && begins_tag_by start bs))

-- after `.`: digits, `e` and dashes, or digits and a place
abbrev pub begins_fraction_by : (ℕ → Bool) → List ℕ → Bool
begins_fraction_by start [] = false
begins_fraction_by start (b ∷ bs) =
    begins_place_by start (b ∷ bs)
    || ((is_ascii_digit b && begins_fraction_by start bs)
    || ((b == byte "e" || b == byte "E") && begins_exponent_dashes bs))

-- `e` or `E`, then `+` or `-`, and then a place
abbrev pub begins_exponent_by : (ℕ → Bool) → List ℕ → Bool
begins_exponent_by start [] = false
begins_exponent_by start (e ∷ []) = false
begins_exponent_by start (e ∷ sign ∷ bs) =
    (e == byte "e" || e == byte "E") && ((sign == plus || sign == dash) && begins_place_by start bs)

-- this byte, before this text, opens something of some server
abbrev pub begins_own_by : (ℕ → Bool) → ℕ → List ℕ → Bool
begins_own_by start b bs =
    b == bracket
    || ((b == dollar && begins_tag_by start bs) || (b == point && begins_fraction_by start bs))

-- this byte, before this text, may begin something
abbrev pub may_begin_something_by : (ℕ → Bool) → ℕ → List ℕ → Bool
may_begin_something_by start b rest =
    is_string_quote b
    || (b == backquote
    || (b == hash
    || (b == dash
    || ((b == slash && begins (λ c. c == asterisk) rest)
    || (begins_place_by start (b ∷ rest)
    || (begins_own_by start b rest
    || (is_for_client b
    || ((closes b rest && not (stands_apart (drop 1 rest)))
    || (b == exclamation_mark && not (is_version rest))))))))))

-- the text of a quiet comment, and more
abbrev pub is_quiet_by : (ℕ → Bool) → List ℕ → Bool
is_quiet_by start [] = false
is_quiet_by start (b ∷ rest) =
    not (may_begin_something_by start b rest) && (closes b rest || is_quiet_by start rest)

-- The text after `/*` is that of a quiet comment. To the grammar `/*M!` is a comment, in which no
-- names are.
abbrev pub is_quiet_block_by : (ℕ → Bool) → List ℕ → Bool
is_quiet_block_by start bs = if begins is_extension bs then is_quiet_by start bs else is_quiet bs

-- the construct that a `/` opens before this text
abbrev pub block_construct_by : (ℕ → Bool) → List ℕ → Option Construct
block_construct_by start [] = None
block_construct_by start (b ∷ bs) =
    if b == asterisk && (begins_special bs && not (is_quiet_block_by start bs))
    then Some (special_construct bs)
    else None

-- the construct of a digit or a point before this text
abbrev pub number_construct_by : (ℕ → Bool) → ℕ → List ℕ → Option Construct
number_construct_by start b bs =
    if b == point && begins_fraction_by start bs then Some construct.DashesAfterExponent
    else if begins_exponent_by start bs then Some construct.PlaceAfterExponent
    else None

-- the construct with which the token of `len` bytes at the front of the text begins
abbrev pub front_construct_by : (ℕ → Bool) → List ℕ → ℕ → Option Construct
front_construct_by start [] len = None
front_construct_by start (b ∷ bs) len =
    if b == slash then block_construct_by start bs
    else if b == dollar then (if begins_tag_by start bs then Some construct.DollarQuote else None)
    else if is_ascii_digit b || b == point then number_construct_by start b bs
    else front_construct (b ∷ bs) len

-- a `-` directly before a place, whose value may begin with another
abbrev pub is_dash_before_place_by : (ℕ → Bool) → List ℕ → Bool
is_dash_before_place_by start [] = false
is_dash_before_place_by start (b ∷ bs) = b == dash && begins_place_by start bs

-- what is found for a client in the token of `len` bytes at the front of the text
abbrev pub found_in_front_by : (ℕ → Bool) → Bool → Bool → List ℕ → ℕ → Option Construct
found_in_front_by start statement line text len =
    first_of (front_construct_by start text len)
    (if is_dash_before_place_by start text && statement then Some construct.DashInFront
    else found_or_zero statement line (take len text) (drop len text))
