-- A string reads as the bytes that were escaped.
use Rattle.std.proofs.Common.{◌≡◌, ℕ, Bool, true, false, ◌&&◌, eqb, List, [], ◌∷◌, ◌++◌, refl, sym, ◌∙◌, ap, append_assoc}
use Rattle.std.specs.Prelude.{Some, option_map}
use Rattle.std.proofs.lemmas.Bool.{cond_both, eqb-true, cond-false}
use Rattle.mysql_sql_text.specs.LiteralText.{control_z, escaped_byte, escaped, quoted}
use Rattle.mysql_sql_text.specs.ReadLiteral.{byte_string, begins_pair, prefix_read, read_units, read_literal}
use Rattle.mysql_sql_text.specs.LiteralEnd.{is_single_quote, BeginsWithout}
use Rattle.mysql_sql_text.proofs.ByteNames.{newline, carriage_return, backslash, single_quote, double_quote}

-- a byte that is no quote and begins no pair stands for itself
pub read_units-ordinary : (mode : Bool) (b : ℕ) (text : List ℕ) → is_single_quote b ≡ false → begins_pair mode b ≡ false
    → read_units mode (b ∷ text) ≡ prefix_read (b ∷ []) (read_units mode text)
read_units-ordinary mode b [] no_quote no_pair = cond-false (is_single_quote b) _ _ no_quote
read_units-ordinary mode b (c ∷ text) no_quote no_pair =
    cond-false (is_single_quote b && is_single_quote c) _ _ (ap (λ t. t && is_single_quote c) no_quote)
    ∙ cond-false (is_single_quote b) _ _ no_quote ∙ cond-false (begins_pair mode b) _ _ no_pair

-- the bytes that stand for a byte are read as that byte
read_units-escaped_byte : (mode : Bool) (b : ℕ) (text : List ℕ)
    → read_units mode (escaped_byte mode b ++ text) ≡ prefix_read (b ∷ []) (read_units mode text)
read_units-escaped_byte true b text =
    cond_both (eqb b single_quote) _ _ (λ t. read_units true (t ++ text) ≡ prefix_read (b ∷ []) (read_units true text))
    (λ e. ap (λ c. prefix_read (c ∷ []) (read_units true text)) (sym (eqb-true b single_quote e)))
    (λ e. read_units-ordinary true b text e refl)
read_units-escaped_byte false b text =
    let P : List ℕ → Type 0 = λ t. read_units false (t ++ text) ≡ prefix_read (b ∷ []) (read_units false text) in
    let same : (k : ℕ) → eqb b k ≡ true
    → prefix_read (k ∷ []) (read_units false text) ≡ prefix_read (b ∷ []) (read_units false text) =
    λ k e. ap (λ c. prefix_read (c ∷ []) (read_units false text)) (sym (eqb-true b k e)) in
    cond_both (eqb b 0) _ _ P (same 0) (λ _.
    cond_both (eqb b newline) _ _ P (same newline) (λ _.
    cond_both (eqb b carriage_return) _ _ P (same carriage_return) (λ _.
    cond_both (eqb b control_z) _ _ P (same control_z) (λ _.
    cond_both (eqb b backslash) _ _ P (same backslash) (λ no_pair.
    cond_both (eqb b single_quote) _ _ P (same single_quote) (λ no_quote.
    cond_both (eqb b double_quote) _ _ P (same double_quote) (λ _. read_units-ordinary false b text no_quote no_pair)))))))

-- a quote that no quote follows ends the units
pub read_units-quote : (mode : Bool) (rest : List ℕ) → BeginsWithout is_single_quote rest → read_units mode (single_quote ∷ rest) ≡ Some ([], rest)
read_units-quote mode [] h = refl
read_units-quote mode (b ∷ rest) h = cond-false (is_single_quote b) _ _ h

read_units-escaped : (mode : Bool) (bytes rest : List ℕ) → BeginsWithout is_single_quote rest
    → read_units mode (escaped mode bytes ++ single_quote ∷ rest) ≡ Some (bytes, rest)
read_units-escaped mode [] rest h = read_units-quote mode rest h
read_units-escaped mode (b ∷ bytes) rest h =
    ap (read_units mode) (append_assoc (escaped_byte mode b) (escaped mode bytes) (single_quote ∷ rest))
    ∙ read_units-escaped_byte mode b (escaped mode bytes ++ single_quote ∷ rest)
    ∙ ap (prefix_read (b ∷ [])) (read_units-escaped mode bytes rest h)

pub read_quoted : (mode : Bool) (bytes rest : List ℕ) → BeginsWithout is_single_quote rest
    → read_literal mode (quoted (escaped mode bytes) ++ rest) ≡ Some (byte_string bytes, rest)
read_quoted mode bytes rest h =
    ap (option_map (λ r. (byte_string r.0, r.1)))
    (ap (read_units mode) (append_assoc (escaped mode bytes) (single_quote ∷ []) rest) ∙ read_units-escaped mode bytes rest h)
