-- The first construct for which a query isn't portable: its kind and its position.
use Rattle.std.specs.Prelude.{◌+◌, ◌==◌, ◌&&◌, not, ℕ, List, [], ◌∷◌, if◌then◌else◌, length, drop, Option, Some, None}
use Rattle.mysql_named_params.specs.Bytes.{dash, exclamation_mark, plus, slash, begins, bracket, dollar, point}
use Rattle.mysql_named_params.specs.Tokens.{Token, bytes_of, text_of, QuotedString, QuotedIdentifier, HashComment, DashComment, BlockComment, Plain}
use Rattle.mysql_portable.specs.ServerTokens.{begins_fraction, holds_return}
use Rattle.mysql_portable.specs.Portable.{is_read_alike, joins_number}
use Rattle.mysql_portable.specs.declared.portable.Construct.{Construct}
use Rattle.mysql_portable.specs.declared.portable.Construct.TheVariants as construct
use Rattle.mysql_portable.specs.declared.portable.Unportable.{Unportable}

-- the construct of `/*` before a special text
abbrev pub special_construct : List ℕ → Construct
special_construct text =
    if begins (λ b. b == exclamation_mark) text then construct.ExecutableComment
    else if begins (λ b. b == plus) text then construct.Hint
    else construct.MariaDbComment

-- the construct that begins with this plain byte before this text
abbrev pub plain_construct : ℕ → List ℕ → Construct
plain_construct b rest =
    if b == slash then special_construct (drop 1 rest)
    else if b == dash then construct.Dashes
    else if b == bracket then construct.Bracket
    else if b == dollar then construct.DollarQuote
    else if b == point && begins_fraction rest then construct.DashesAfterExponent
    else construct.PlaceAfterExponent

-- The construct that begins with this token before this text. The token isn't portable, or it joins
-- a number. It is never a name or a mark.
abbrev pub construct_at : Token → List ℕ → Construct
construct_at (QuotedString quote tail) rest = construct.EscapedQuote
construct_at (QuotedIdentifier tail) rest = construct.EscapedBackquote
construct_at (HashComment tail) rest = construct.ReturnInComment
construct_at (DashComment gap tail) rest =
    if holds_return (gap ∷ tail) then construct.ReturnInComment else construct.Dashes
construct_at (BlockComment tail) rest = special_construct tail
construct_at (Plain b) rest = plain_construct b rest
construct_at t rest = construct.PlaceAfterExponent

-- kind and position of the first construct, if the tokens begin at the position `at`
abbrev pub first_unportable_from : ℕ → List Token → Option Unportable
first_unportable_from at [] = None
first_unportable_from at (t ∷ ts) =
    if is_read_alike t (text_of ts) && not (joins_number t (text_of ts))
    then first_unportable_from (at + length (bytes_of t)) ts
    else Some (record { construct = construct_at t (text_of ts); at = at })

-- kind and position of the first construct of a query
abbrev pub first_unportable : List Token → Option Unportable
first_unportable = first_unportable_from 0
