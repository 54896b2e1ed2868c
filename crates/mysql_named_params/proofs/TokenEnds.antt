-- A token before a rest ends where `TokensOf` computes its end.
use Rattle.std.proofs.Common.{◌≡◌, ◌≢◌, ℕ, suc, ◌+◌, ◌≤◌, Bool, true, false, ◌==◌, List, [], ◌∷◌, ◌++◌, length, take, Some, None, refl, sym, ap, ◌∙◌, subst, inl, inr, arith, append_assoc, append-nil, length-append, eq-eqb, ne_eqb, true≢false, take_at}
use Rattle.std.specs.List.{list_all}
use Rattle.std.specs.Str.{byte}
use Rattle.std.proofs.lemmas.Bool.{cases_Bool, and_parts, or_cases, eqb-true}
use Rattle.mysql_named_params.specs.Bytes.{asterisk, backquote, double_quote, newline, single_quote, slash, is_name_byte, is_string_quote, begins, Lacks, HoldsOnlyAtEnd, IsUpTo, up_to_word, up_to_end}
use Rattle.mysql_sql_text.specs.StringUnits.{is_escape}
use Rattle.mysql_named_params.specs.Tokens.{Token, bytes_of, IsNotPlain, IsToken, IsStringTail, closed_string, open_string, open_in_escape, QuotedString, QuotedIdentifier, HashComment, DashComment, BlockComment, Name, Mark, Plain}
use Rattle.mysql_sql_text.specs.StringUnits.{AreUnits, no_units, byte_unit, escape_unit}
use Rattle.mysql_named_params.specs.TokensOf.{begins_with, len_up_to, string_len, name_len, not_plain_at}

-- ---- words

-- the word and then anything begins with the word
pub begins_with_front : (word back : List ℕ) → begins_with word (word ++ back) ≡ true
begins_with_front [] back = refl
begins_with_front (w ∷ ws) back = rw (eq-eqb w w refl) (begins_with_front ws back)

-- a word that begins a text, and is no longer than a front of it, begins that front
pub word_in_front : (word front rest : List ℕ) → begins_with word (front ++ rest) ≡ true →
    length word ≤ length front → (back : List ℕ) × (word ++ back ≡ front)
word_in_front [] front rest h le = (front, refl)
word_in_front (w ∷ ws) [] rest h le = absurd (omega arith)
word_in_front (w ∷ ws) (b ∷ bs) rest h le =
    let parts = and_parts (w == b) (begins_with ws (bs ++ rest)) h in
    let r = word_in_front ws bs rest parts.1 (omega arith) in
    let same : w ≡ b = eqb-true w b parts.0 in
    (r.0, ap (λ x. w ∷ x) r.1 ∙ ap (λ x. x ∷ bs) same)

pub word_begins : (word text : List ℕ) → begins_with word text ≡ true →
    (back : List ℕ) × (word ++ back ≡ text)
word_begins [] text h = (text, refl)
word_begins (w ∷ ws) [] h = absurd (true≢false (sym h))
word_begins (w ∷ ws) (b ∷ bs) h =
    let parts = and_parts (w == b) (begins_with ws bs) h in
    let r = word_begins ws bs parts.1 in
    let same : w ≡ b = eqb-true w b parts.0 in
    (r.0, ap (λ x. w ∷ x) r.1 ∙ ap (λ x. x ∷ bs) same)

cons_lacks : (word : List ℕ) (b : ℕ) (bs : List ℕ) → Lacks word (b ∷ bs) → Lacks word bs
cons_lacks word b bs lacks front back e = lacks (b ∷ front) back (ap (λ x. b ∷ x) e)

up_to_open : (word bytes : List ℕ) → Lacks word bytes → len_up_to word bytes ≡ length bytes
up_to_open word [] lacks = refl
up_to_open word (b ∷ bs) lacks =
    elim (cases_Bool (begins_with word (b ∷ bs))) [
      | inl h ↦ let r = word_begins word (b ∷ bs) h in absurd (lacks [] r.0 r.1)
      | inr h ↦ rw h (ap suc (up_to_open word bs (cons_lacks word b bs lacks)))
    ]

up_to_first : (word body rest : List ℕ) → 0 ≢ length word → HoldsOnlyAtEnd word (body ++ word) →
    len_up_to word ((body ++ word) ++ rest) ≡ length (body ++ word)
up_to_first [] [] rest some ends = absurd (some refl)
up_to_first (w ∷ ws) [] rest some ends = rw (eq-eqb w w refl, begins_with_front ws rest) refl
up_to_first word (b ∷ bs) rest some ends =
    elim (cases_Bool (begins_with word ((b ∷ (bs ++ word)) ++ rest))) [
      | inl h ↦
          let r = word_in_front word (b ∷ (bs ++ word)) rest h (omega (arith, length-append bs word)) in
          let nil : r.0 ≡ [] = ends [] r.0 r.1 in
          let e : length (word ++ r.0) ≡ suc (length (bs ++ word)) = ap length r.1 in
          absurd (omega (arith, e, length-append word r.0, ap length nil, length-append bs word))
      | inr h ↦ rw h (ap suc (up_to_first word bs rest some (λ front back e. ends (b ∷ front) back (ap (λ x. b ∷ x) e))))
    ]

pub up_to_is : (word bytes rest : List ℕ) → 0 ≢ length word → IsUpTo word bytes rest →
    len_up_to word (bytes ++ rest) ≡ length bytes
up_to_is word bytes rest some (up_to_word body e ends) =
    subst (λ x. len_up_to word (x ++ rest) ≡ length x) e (up_to_first word body rest some (subst (HoldsOnlyAtEnd word) (sym e) ends))
up_to_is word bytes rest some (up_to_end lacks e) =
    rw (e, append-nil bytes) (up_to_open word bytes lacks)

-- ---- strings

-- a quote is no escape
pub quote_no_escape : (mode : Bool) (q : ℕ) → is_string_quote q ≡ true → is_escape mode q ≡ false
quote_no_escape false q h =
    elim (or_cases (q == single_quote) (q == double_quote) h) [
      | inl e ↦ ap (λ x. x == byte "\\") (eqb-true q single_quote e)
      | inr e ↦ ap (λ x. x == byte "\\") (eqb-true q double_quote e)
    ]
quote_no_escape true q h = refl

-- units end where the next unit begins
string_len-units : (mode : Bool) (q : ℕ) (body rest : List ℕ) → is_string_quote q ≡ true →
    AreUnits mode q body →
    string_len mode q false (body ++ rest) ≡ length body + string_len mode q false rest
string_len-units mode q [] rest quote no_units = omega arith
string_len-units mode q (b ∷ bs) rest quote (byte_unit ne plain u) =
    let r = string_len-units mode q bs rest quote u in
    rw (ne_eqb b q ne, plain) (omega (arith, r))
string_len-units mode q (b ∷ c ∷ bs) rest quote (escape_unit escapes u) =
    let r = string_len-units mode q bs rest quote u in
    let ne : b ≢ q = λ e. true≢false (sym escapes ∙ ap (is_escape mode) e ∙ quote_no_escape mode q quote) in
    rw (ne_eqb b q ne, escapes) (omega (arith, r))

pub string_len_is : (mode : Bool) (q : ℕ) (tail rest : List ℕ) → is_string_quote q ≡ true →
    IsStringTail mode q tail rest → string_len mode q false (tail ++ rest) ≡ length tail
string_len_is mode q tail rest quote (closed_string body u e) =
    subst (λ x. string_len mode q false (x ++ rest) ≡ length x) e
    (rw append_assoc (string_len-units mode q body (q ∷ rest) quote u ∙ rw (eq-eqb q q refl) (omega (arith, length-append body (q ∷ [])))))
string_len_is mode q tail rest quote (open_string u e) =
    rw e (string_len-units mode q tail [] quote u ∙ omega arith)
string_len_is mode q tail rest quote (open_in_escape body b u escapes e nil) =
    let ne : b ≢ q = λ e. true≢false (sym escapes ∙ ap (is_escape mode) e ∙ quote_no_escape mode q quote) in
    subst (λ x. string_len mode q false (x ++ rest) ≡ length x) e
    (rw (nil, append-nil (body ++ b ∷ [])) (string_len-units mode q body (b ∷ []) quote u ∙ rw (ne_eqb b q ne) (omega (arith, length-append body (b ∷ [])))))

-- ---- names

pub name_len_is : (name rest : List ℕ) → list_all is_name_byte name ≡ true →
    begins is_name_byte rest ≡ false → name_len (name ++ rest) ≡ length name
name_len_is [] [] h e = refl
name_len_is [] (b ∷ bs) h e = rw e refl
name_len_is (b ∷ bs) rest h e =
    let parts = and_parts (is_name_byte b) (list_all is_name_byte bs) h in
    rw parts.0 (ap suc (name_len_is bs rest parts.1 e))

-- ---- tokens

-- the front of a text, by its length
pub take_front : (a rest : List ℕ) (n : ℕ) → n ≡ length a → take n (a ++ rest) ≡ a
take_front a rest n e = take_at a rest n (sym e)

-- a token other than a plain one, with which a text begins, is the one that is computed
pub not_plain_at_is : (mode : Bool) (t : Token) (rest : List ℕ) → IsNotPlain mode t rest →
    not_plain_at mode (bytes_of t ++ rest) ≡ Some t
not_plain_at_is mode (QuotedString quote tail) rest h =
    rw h.0 (ap (λ x. Some (QuotedString quote x)) (take_front tail rest _ (string_len_is mode quote tail rest h.0 h.1)))
not_plain_at_is mode (QuotedIdentifier tail) rest h =
    ap (λ x. Some (QuotedIdentifier x)) (take_front tail rest _ (up_to_is (backquote ∷ []) tail rest (omega arith) h))
not_plain_at_is mode (HashComment tail) rest h =
    ap (λ x. Some (HashComment x)) (take_front tail rest _ (up_to_is (newline ∷ []) tail rest (omega arith) h))
not_plain_at_is mode (DashComment gap tail) rest h =
    rw (h.0, ne_eqb gap newline h.1) (ap (λ x. Some (DashComment gap x)) (take_front tail rest _ (up_to_is (newline ∷ []) tail rest (omega arith) h.2)))
not_plain_at_is mode (BlockComment tail) rest h =
    rw h.0 (ap (λ x. Some (BlockComment x)) (take_front tail rest _ (up_to_is (asterisk ∷ slash ∷ []) tail rest (omega arith) h.1)))
not_plain_at_is mode (Name []) rest h = absurd h.0
not_plain_at_is mode (Name (b ∷ bs)) rest h =
    rw h.0.0 (ap (λ x. Some (Name (b ∷ x))) (take_front bs rest _ (name_len_is bs rest h.0.1 h.1)))
not_plain_at_is mode Mark rest h = refl
not_plain_at_is mode (Plain b) rest h = absurd h

-- if none is computed, the first byte is a plain token
pub plain_at : (mode : Bool) (b : ℕ) (rest : List ℕ) → not_plain_at mode (b ∷ rest) ≡ None →
    IsToken mode (Plain b) rest
plain_at mode b rest none_there t after h e =
    let found : not_plain_at mode (b ∷ rest) ≡ Some t = sym (ap (not_plain_at mode) e) ∙ not_plain_at_is mode t after h in
    cc
