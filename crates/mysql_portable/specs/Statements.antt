-- The statements of a text: its tokens, cut at each `;` outside of strings, identifiers and
-- comments. The clients `mysql` and `mariadb` cut a text like this.
use Rattle.std.specs.Prelude.{◌==◌, if◌then◌else◌, List, [], ◌∷◌}
use Rattle.std.specs.Str.{byte}
use Rattle.mysql_named_params.specs.Tokens.{Token, Plain}

-- the lists with this token at the front of the first
abbrev pub in_first : Token → List (List Token) → List (List Token)
in_first t [] = []
in_first t (first ∷ more) = (t ∷ first) ∷ more

-- the tokens between one `;` and the next; there is one list more than there are such `;`
abbrev pub statements : List Token → List (List Token)
statements [] = [] ∷ []
statements (Plain b ∷ ts) =
    if b == byte ";" then [] ∷ statements ts else in_first (Plain b) (statements ts)
statements (t ∷ ts) = in_first t (statements ts)
