-- The statements of a text without comments, as a client sends them. White space at the front of a
-- statement counts for nothing here: the client sends some of it with the statement before.
use Rattle.std.specs.Prelude.{ℕ, IsFalse, Bool, ◌==◌, if◌then◌else◌, List, [], ◌∷◌, ⊤}
use Rattle.std.specs.List.{list_any}
use Rattle.mysql_named_params.specs.Bytes.{carriage_return}
use Rattle.mysql_named_params.specs.Tokens.{Token, text_of, Plain}
use Rattle.mysql_portable.specs.FoundInClient.{is_comment}
use Rattle.mysql_client.specs.Outgoing.{is_space, is_empty, trimmed}
use Rattle.mysql_client.specs.ClientState.{Program}
use Rattle.mysql_client.specs.SentStatements.{opens_hint}

-- the text without white space at its front
abbrev pub past_space : List ℕ → List ℕ
past_space [] = []
past_space (b ∷ bs) = if is_space b then past_space bs else b ∷ bs

-- the text without white space at its front, and without white space, control bytes and the byte
-- 255 at its end
abbrev pub bare : List ℕ → List ℕ
bare text = trimmed (past_space text)

-- the text before these, if there is any
abbrev pub if_any : List ℕ → List (List ℕ) → List (List ℕ)
if_any text texts = if is_empty text then texts else text ∷ texts

-- the bare texts of statements, without empty ones
abbrev pub bare_texts : List (List Token) → List (List ℕ)
bare_texts [] = []
bare_texts (ts ∷ more) = if_any (bare (text_of ts)) (bare_texts more)

-- no token is a comment
abbrev pub HoldNoComment : List Token → Type 0
HoldNoComment [] = ⊤
HoldNoComment (t ∷ ts) = IsFalse (is_comment t) × HoldNoComment ts

-- no token is the `/` of a hint, which `mariadb` takes for a comment
abbrev pub HoldNoHint : Program → List Token → Type 0
HoldNoHint p [] = ⊤
HoldNoHint p (Plain b ∷ ts) = IsFalse (opens_hint p b (text_of ts)) × HoldNoHint p ts
HoldNoHint p (t ∷ ts) = HoldNoHint p ts

-- the text has a carriage return
abbrev pub has_return : List ℕ → Bool
has_return text = list_any (λ b. b == carriage_return) text
