-- A newline after the text that follows a token: what is a token before one is so before the other.
use Rattle.std.specs.Prelude.{Bool}
use Rattle.std.proofs.Common.{◌≡◌, ◌≢◌, ◌==◌, ℕ, false, List, [], ◌∷◌, ◌++◌, refl, None}
use Rattle.std.proofs.lemmas.Bool.{and_right}
use Rattle.mysql_named_params.specs.Bytes.{backquote, colon, dash, hash, newline, question_mark, slash, is_name_byte, is_start_byte, is_string_quote, begins}
use Rattle.mysql_named_params.specs.Tokens.{Token, IsToken, QuotedString, QuotedIdentifier, HashComment, DashComment, BlockComment, Name, Mark, Plain}
use Rattle.mysql_named_params.specs.FirstToken.{opens_dash_comment, opens_block_comment}
use Rattle.mysql_named_params.specs.TokensOf.{not_plain_at}
use Rattle.mysql_named_params.proofs.PlainLemmas.{plain_none}
use Rattle.mysql_named_params.proofs.RestLemmas.{dash_none, none_dash, block_none, none_block, name_none, none_name, cond_none, some_none, string-alike, up_to-alike, block-alike}
use Rattle.mysql_named_params.proofs.TokenEnds.{plain_at}

-- ---- what a token looks at

pub some_line : (x more : List ℕ) → x ++ newline ∷ more ≢ []
some_line [] more e = cc
some_line (b ∷ x) more e = cc

line_move : (x more : List ℕ) → opens_dash_comment x ≡ false → opens_dash_comment (x ++ newline ∷ more) ≡ false
line_move [] [] e = refl
line_move [] (b ∷ more) e = refl
line_move (b ∷ []) more e = and_right (b == dash) false refl
line_move (b ∷ w ∷ x) more e = e

line_back : (x more : List ℕ) → opens_dash_comment (x ++ newline ∷ more) ≡ false → opens_dash_comment x ≡ false
line_back [] more e = refl
line_back (b ∷ []) more e = refl
line_back (b ∷ w ∷ x) more e = e

block_move : (x more : List ℕ) → opens_block_comment x ≡ false → opens_block_comment (x ++ newline ∷ more) ≡ false
block_move [] more e = refl
block_move (b ∷ []) more e = e
block_move (b ∷ w ∷ x) more e = e

block_back : (x more : List ℕ) → opens_block_comment (x ++ newline ∷ more) ≡ false → opens_block_comment x ≡ false
block_back [] more e = refl
block_back (b ∷ []) more e = e
block_back (b ∷ w ∷ x) more e = e

begins_move : (test : ℕ → Bool) → test newline ≡ false → (x more : List ℕ) → begins test x ≡ false → begins test (x ++ newline ∷ more) ≡ false
begins_move test n [] more e = n
begins_move test n (b ∷ x) more e = e

begins_back : (test : ℕ → Bool) (x more : List ℕ) → begins test (x ++ newline ∷ more) ≡ false → begins test x ≡ false
begins_back test [] more e = refl
begins_back test (b ∷ x) more e = e

pub plain_move : (mode : Bool) (b : ℕ) (x more : List ℕ) → not_plain_at mode (b ∷ x) ≡ None → not_plain_at mode (b ∷ (x ++ newline ∷ more)) ≡ None
plain_move mode b x more =
    cond_none (is_string_quote b) _ _ _ _ (some_none _ _)
    (cond_none (b == backquote) _ _ _ _ (some_none _ _)
    (cond_none (b == hash) _ _ _ _ (some_none _ _)
    (cond_none (b == dash) _ _ _ _ (λ e. none_dash (x ++ newline ∷ more) (line_move x more (dash_none x e)))
    (cond_none (b == slash) _ _ _ _ (λ e. none_block (x ++ newline ∷ more) (block_move x more (block_none x e)))
    (cond_none (b == colon) _ _ _ _ (λ e. none_name (x ++ newline ∷ more) (begins_move is_start_byte refl x more (name_none x e)))
    (cond_none (b == question_mark) _ _ _ _ (some_none _ _) (λ e. refl)))))))

plain_back : (mode : Bool) (b : ℕ) (x more : List ℕ) → not_plain_at mode (b ∷ (x ++ newline ∷ more)) ≡ None → not_plain_at mode (b ∷ x) ≡ None
plain_back mode b x more =
    cond_none (is_string_quote b) _ _ _ _ (some_none _ _)
    (cond_none (b == backquote) _ _ _ _ (some_none _ _)
    (cond_none (b == hash) _ _ _ _ (some_none _ _)
    (cond_none (b == dash) _ _ _ _ (λ e. none_dash x (line_back x more (dash_none (x ++ newline ∷ more) e)))
    (cond_none (b == slash) _ _ _ _ (λ e. none_block x (block_back x more (block_none (x ++ newline ∷ more) e)))
    (cond_none (b == colon) _ _ _ _ (λ e. none_name x (begins_back is_start_byte x more (name_none (x ++ newline ∷ more) e)))
    (cond_none (b == question_mark) _ _ _ _ (some_none _ _) (λ e. refl)))))))

-- a token that is one before some text is closed: it stays one before a newline
pub token_then_newline : (mode : Bool) (t : Token) (x z more : List ℕ) → z ≢ [] → IsToken mode t z → IsToken mode t x →
    IsToken mode t (x ++ newline ∷ more)
token_then_newline mode (QuotedString quote tail) x z more some hz h = (h.0, string-alike mode quote tail z _ (λ unclosed e. absurd (some e)) hz.1)
token_then_newline mode (QuotedIdentifier tail) x z more some hz h = up_to-alike _ tail z _ (λ lacks e. absurd (some e)) hz
token_then_newline mode (HashComment tail) x z more some hz h = up_to-alike _ tail z _ (λ lacks e. absurd (some e)) hz
token_then_newline mode (DashComment gap tail) x z more some hz h = (h.0, h.1, up_to-alike _ tail z _ (λ lacks e. absurd (some e)) hz.2)
token_then_newline mode (BlockComment tail) x z more some hz h = (block-alike tail z _ (λ lacks e. absurd (some e)) hz.1 hz.0, up_to-alike _ tail z _ (λ lacks e. absurd (some e)) hz.1)
token_then_newline mode (Name name) x z more some hz h = (h.0, begins_move is_name_byte refl x more h.1)
token_then_newline mode Mark x z more some hz h = tt
token_then_newline mode (Plain b) x z more some hz h = plain_at mode b _ (plain_move mode b x more (plain_none mode b x h))

-- a token before a newline is one without it
pub token_without_newline : (mode : Bool) (t : Token) (x more : List ℕ) → IsToken mode t (x ++ newline ∷ more) → IsToken mode t x
token_without_newline mode (QuotedString quote tail) x more h = (h.0, string-alike mode quote tail _ x (λ unclosed e. absurd (some_line x more e)) h.1)
token_without_newline mode (QuotedIdentifier tail) x more h = up_to-alike _ tail _ x (λ lacks e. absurd (some_line x more e)) h
token_without_newline mode (HashComment tail) x more h = up_to-alike _ tail _ x (λ lacks e. absurd (some_line x more e)) h
token_without_newline mode (DashComment gap tail) x more h = (h.0, h.1, up_to-alike _ tail _ x (λ lacks e. absurd (some_line x more e)) h.2)
token_without_newline mode (BlockComment tail) x more h = (block-alike tail _ x (λ lacks e. absurd (some_line x more e)) h.1 h.0, up_to-alike _ tail _ x (λ lacks e. absurd (some_line x more e)) h.1)
token_without_newline mode (Name name) x more h = (h.0, begins_back is_name_byte x more h.1)
token_without_newline mode Mark x more h = tt
token_without_newline mode (Plain b) x more h = plain_at mode b x (plain_back mode b x more (plain_none mode b _ h))

pub plain_newline : (mode : Bool) (more : List ℕ) → IsToken mode (Plain newline) more
plain_newline mode more = plain_at mode newline more refl
