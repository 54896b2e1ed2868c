-- The tokens of a script: those of its texts, and a line with `;` after each. No token of a text
-- reaches beyond the newline after it.
use Rattle.std.specs.Prelude.{◌==◌, ◌+◌, ◌++◌, ℕ, Bool, List, [], ◌∷◌, length, map, codes, if◌then◌else◌}
use Rattle.std.specs.List.{list_any}
use Rattle.mysql_named_params.specs.Bytes.{newline}
use Rattle.mysql_named_params.specs.Tokens.{Token, HashComment, DashComment, Plain}
use Rattle.mysql_portable.specs.Client.{HoldNoOpener}
use Rattle.mysql_portable.specs.FirstUnportableInClient.{AreSentAsTheyAre}
use Rattle.mysql_portable.specs.Statements.{statements}

-- b';'
abbrev pub semicolon : ℕ
semicolon = 59

-- a newline is in the bytes
abbrev pub has_newline : List ℕ → Bool
has_newline bytes = list_any (λ b. b == newline) bytes

-- The last token of a text, and a newline after it. A comment to the end of the line that is still
-- open ends with the newline; after every other token the newline is a token of its own.
abbrev pub then_newline : Token → List Token
then_newline (HashComment tail) =
    if has_newline tail then HashComment tail ∷ Plain newline ∷ []
    else HashComment (tail ++ newline ∷ []) ∷ []
then_newline (DashComment gap tail) =
    if has_newline tail then DashComment gap tail ∷ Plain newline ∷ []
    else DashComment gap (tail ++ newline ∷ []) ∷ []
then_newline t = t ∷ Plain newline ∷ []

-- the tokens of a text, and a newline after it
abbrev pub with_newline : List Token → List Token
with_newline [] = Plain newline ∷ []
with_newline (t ∷ []) = then_newline t
with_newline (t ∷ u ∷ ts) = t ∷ with_newline (u ∷ ts)

-- the tokens of a statement: those of its text, a newline, `;` and a newline
abbrev pub statement_tokens : List Token → List Token
statement_tokens ts = with_newline ts ++ (Plain semicolon ∷ Plain newline ∷ [])

-- the tokens of the statements, in their order, by those of their texts
abbrev pub tokens_of_statements : List (List Token) → List Token
tokens_of_statements [] = []
tokens_of_statements (ts ∷ lists) = statement_tokens ts ++ tokens_of_statements lists

-- None of the constructs of a client that keeps comments is among these tokens. No block comment
-- holds `/*!`, `/*+` or `/*/`, and no token makes the client send a different text.
abbrev pub IsSentByClient : List Token → Type 0
IsSentByClient ts = HoldNoOpener ts × AreSentAsTheyAre ts

-- how many statements clients cut these texts into, together (Statements.antt of mysql_portable)
abbrev pub count_of_statements : List (List Token) → ℕ
count_of_statements [] = 0
count_of_statements (ts ∷ lists) = length (statements ts) + count_of_statements lists

-- the tokens of a statement of only words: one for each byte
abbrev pub word_tokens : List ℕ → List Token
word_tokens bytes = statement_tokens (map (λ b. Plain b) bytes)

-- the tokens of a script, by those of its texts
abbrev pub script_tokens : Bool → List (List Token) → List Token
script_tokens transaction lists =
    ((if transaction then word_tokens (codes "START TRANSACTION") else [])
    ++ tokens_of_statements lists)
    ++ (if transaction then word_tokens (codes "COMMIT") else [])
