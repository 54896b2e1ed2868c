-- The construct at the front of a query with wide names is that of the query with its names in
-- lower case.
use Rattle.std.specs.Prelude.{Bool}
use Rattle.std.specs.Char.{is_ascii_digit}
use Rattle.std.proofs.Common.{◌≡◌, ◌≢◌, ◌⊎◌, ℕ, ◌==◌, ◌&&◌, ◌||◌, true, false, List, [], ◌∷◌, ◌++◌, length, None, refl, sym, ap, ◌∙◌, subst, inl, inr, arith, true≢false}
use Rattle.std.proofs.lemmas.Bool.{and_right, cases_Bool, eqb-true, or_cases, or_parts}
use Rattle.std.proofs.lemmas.Bool.Decides.{nat_tests}
use Rattle.mysql_named_params.specs.Bytes.{backquote, bracket, colon, dash, dollar, double_quote, hash, point, single_quote, slash, begins, is_start_byte, is_string_quote, is_white_space}
use Rattle.mysql_named_params.specs.FirstToken.{kind_of}
use Rattle.mysql_named_params.specs.LoweredNames.{lower_names}
use Rattle.mysql_named_params.specs.Tokens.{Token, AreTokensBefore, IsToken, bytes_of, text_of, QuotedString, QuotedIdentifier, HashComment, DashComment, BlockComment, Name, Mark, Plain}
use Rattle.mysql_named_params.specs.TokensOf.{block_comment}
use Rattle.mysql_named_params.specs.WideNames.{begins_wide, is_wide_start, run, widened, widened_from}
use Rattle.mysql_named_params.specs.declared.tokens.TokenKind.TheVariants as kind
use Rattle.mysql_named_params.proofs.LoweredLemmas.{lower_start}
use Rattle.mysql_named_params.proofs.PlainLemmas.{plain_none}
use Rattle.mysql_named_params.proofs.RestLemmas.{block_none}
use Rattle.mysql_named_params.proofs.WideLemmas.{goes_on, opens, stays, plain_case, run_wide, start_wide}
use Rattle.mysql_named_params.proofs.WidePlaceLemmas.{begins_wide_is}
use Rattle.mysql_portable.specs.ByStart.{front_construct_by}
use Rattle.mysql_portable.specs.FrontConstruct.{front_construct}
use Rattle.mysql_portable.proofs.ByStartLemmas.{SameByStart, ends, same, name, stop, dashes, block, first, comment_block, exponent, fraction, line, plain_block, tag}
use Rattle.mysql_portable.proofs.FrontLemmas.{block_front, byte_construct, front_is, slash_block, unportable_at}

-- ---- the two texts

pub wide_of_start : (b : ℕ) → is_start_byte b ≡ true → is_wide_start b ≡ true
wide_of_start b h = rw h refl

quote_stops : (q : ℕ) → is_string_quote q ≡ true → (is_string_quote q || (q == backquote || q == hash)) ≡ true
quote_stops q h = rw h refl

white_no_dash : (gap : ℕ) → is_white_space gap ≡ true → (gap == dash) ≡ false
white_no_dash gap h = grind (arith, nat_tests)

-- no name begins with the byte in lower case, if none begins with it as it is
no_start : (b : ℕ) (x y : List ℕ) → begins is_start_byte x ≡ begins is_start_byte y →
    (b == colon && begins is_wide_start x) ≡ false → (b == colon && begins is_start_byte y) ≡ false
no_start b x y e n = go (b == colon) n
  where
    narrow : (x : List ℕ) → begins is_wide_start x ≡ false → begins is_start_byte x ≡ false
    narrow [] h = refl
    narrow (c ∷ x) h = by (is_start_byte c) refl h
      where
        by : (s : Bool) → is_start_byte c ≡ s → is_wide_start c ≡ false → s ≡ false
        by true f h = absurd (true≢false (sym (wide_of_start c f) ∙ h))
        by false f h = refl

    go : (c : Bool) → (c && begins is_wide_start x) ≡ false → (c && begins is_start_byte y) ≡ false
    go false n = refl
    go true n = sym e ∙ narrow x n

opened_name : (ts : List Token) (more : List Token) → begins_wide ts ≡ true →
    SameByStart is_wide_start (colon ∷ text_of ts) (text_of (lower_names (Name (run ts) ∷ more)))
opened_name [] more w = absurd (true≢false (sym w))
opened_name (Plain b ∷ ts) more w =
    subst (λ r. SameByStart is_wide_start (colon ∷ b ∷ text_of ts) (text_of (lower_names (Name r ∷ more)))) (sym (run_wide b ts (start_wide b w))) (name w (lower_start b w))
opened_name (t ∷ ts) more w = absurd (true≢false (sym w))

-- the text of tokens of the grammar, and that with the wide names in lower case
pub same_by_start : (mode : Bool) (ts : List Token) → AreTokensBefore mode [] ts →
    SameByStart is_wide_start (text_of ts) (text_of (lower_names (widened ts)))
same_by_start mode [] h = ends
same_by_start mode (Plain b ∷ ts) h = elim (plain_case false b ts) [
  | goes_on i w e ↦ absurd (true≢false (sym i))
  | opens c w e ↦
      subst (λ us. SameByStart is_wide_start (b ∷ text_of ts) (text_of (lower_names us))) (sym e)
      (subst (λ k. SameByStart is_wide_start (k ∷ text_of ts) (text_of (lower_names (Name (run ts) ∷ widened_from true ts)))) (sym c) (opened_name ts (widened_from true ts) w))
  | stays i c e ↦
      let more = same_by_start mode ts h.1 in
      let none : (b == colon && begins is_wide_start (text_of ts)) ≡ false = ap (λ x. b == colon && x) (begins_wide_is mode ts h.1) ∙ c in
      subst (λ us. SameByStart is_wide_start (b ∷ text_of ts) (text_of (lower_names us))) (sym e)
      (same none (no_start b (text_of ts) (text_of (lower_names (widened ts))) (first is_wide_start more is_start_byte) none) more)
]
same_by_start mode (Name [] ∷ ts) h = absurd h.0.0
same_by_start mode (Name (b ∷ bs) ∷ ts) h = name (wide_of_start b h.0.0.0) (lower_start b (wide_of_start b h.0.0.0))
same_by_start mode (Mark ∷ ts) h = same refl refl (same_by_start mode ts h.1)
same_by_start mode (QuotedString q tail ∷ ts) h = stop (quote_stops q h.0.0)
same_by_start mode (QuotedIdentifier tail ∷ ts) h = stop refl
same_by_start mode (HashComment tail ∷ ts) h = stop refl
same_by_start mode (DashComment gap tail ∷ ts) h = dashes (white_no_dash gap h.0.0)
same_by_start mode (BlockComment tail ∷ ts) h = block

-- ---- the construct

string_quote_first : (q : ℕ) → is_string_quote q ≡ true → (P : ℕ → Type 0) → P single_quote → P double_quote → P q
string_quote_first q h P s d = elim (or_cases (q == single_quote) (q == double_quote) h) [
  | inl e ↦ subst P (sym (eqb-true q single_quote e)) s
  | inr e ↦ subst P (sym (eqb-true q double_quote e)) d
]

number_no_dash : (b : ℕ) → (is_ascii_digit b || b == point) ≡ true → (b == dash) ≡ false
number_no_dash b h = grind (arith, nat_tests)

number_no_bracket : (b : ℕ) → (is_ascii_digit b || b == point) ≡ true → (b == bracket) ≡ false
number_no_bracket b h = grind (arith, nat_tests)

-- a plain byte has no text in it
plain_chain : (b : ℕ) (z : List ℕ) → front_construct (b ∷ z) 1 ≡ byte_construct b z
plain_chain b z =
    rw (and_right (b == double_quote) false refl, and_right (b == backquote) false refl, and_right (b == hash || b == dash) false refl) refl

-- at a plain byte
module _ (x y : List ℕ) (r : SameByStart is_wide_start x y) (b : ℕ) where
  at_other : (b == slash) ≡ false → (b == dollar) ≡ false → (is_ascii_digit b || b == point) ≡ false →
      front_construct_by is_wide_start (b ∷ x) 1 ≡ byte_construct b y
  at_other f g h =
      let p = or_parts (is_ascii_digit b) (b == point) h in
      let left : front_construct_by is_wide_start (b ∷ x) 1 ≡ front_construct (b ∷ x) 1 = rw (f, g, h) refl in
      let right : byte_construct b x ≡ byte_construct b y = rw (f, line is_wide_start r, g, p.0, p.1) refl in
      left ∙ (plain_chain b x ∙ right)

  at_number : (b == slash) ≡ false → (b == dollar) ≡ false → (is_ascii_digit b || b == point) ≡ true →
      front_construct_by is_wide_start (b ∷ x) 1 ≡ byte_construct b y
  at_number f g h = rw (f, g, number_no_dash b h, number_no_bracket b h, h, fraction is_wide_start r, exponent is_wide_start r) refl

  at_dollar : b ≡ dollar → front_construct_by is_wide_start (b ∷ x) 1 ≡ byte_construct b y
  at_dollar e = subst (λ k. front_construct_by is_wide_start (k ∷ x) 1 ≡ byte_construct k y) (sym e) (rw (tag is_wide_start r) refl)

  at_slash : b ≡ slash → block_comment x ≡ None → front_construct_by is_wide_start (b ∷ x) 1 ≡ byte_construct b y
  at_slash e n = subst (λ k. front_construct_by is_wide_start (k ∷ x) 1 ≡ byte_construct k y) (sym e) (plain_block is_wide_start r (block_none x n))

  plain_alike : (b ≡ slash → block_comment x ≡ None) → front_construct_by is_wide_start (b ∷ x) 1 ≡ front_construct (b ∷ y) 1
  plain_alike n = by_slash (cases_Bool (b == slash)) ∙ sym (plain_chain b y)
    where
      by_number : (b == slash) ≡ false → (b == dollar) ≡ false → ((is_ascii_digit b || b == point) ≡ true) ⊎ ((is_ascii_digit b || b == point) ≡ false) →
          front_construct_by is_wide_start (b ∷ x) 1 ≡ byte_construct b y
      by_number f g (inl h) = at_number f g h
      by_number f g (inr h) = at_other f g h

      by_dollar : (b == slash) ≡ false → ((b == dollar) ≡ true) ⊎ ((b == dollar) ≡ false) →
          front_construct_by is_wide_start (b ∷ x) 1 ≡ byte_construct b y
      by_dollar f (inl e) = at_dollar (eqb-true b dollar e)
      by_dollar f (inr g) = by_number f g (cases_Bool (is_ascii_digit b || b == point))

      by_slash : ((b == slash) ≡ true) ⊎ ((b == slash) ≡ false) →
          front_construct_by is_wide_start (b ∷ x) 1 ≡ byte_construct b y
      by_slash (inl e) = at_slash (eqb-true b slash e) (n (eqb-true b slash e))
      by_slash (inr f) = by_dollar f (cases_Bool (b == dollar))

module _ (mode : Bool) (x y : List ℕ) (r : SameByStart is_wide_start x y) where
  -- the construct that is found at the front of the first text is that of the token in the second
  pub front_alike : (t : Token) → IsToken mode t x → IsToken mode t y → kind_of t ≢ kind.Name →
      front_construct_by is_wide_start (bytes_of t ++ x) (length (bytes_of t)) ≡ unportable_at t y
  front_alike (QuotedString q tail) h g k =
      string_quote_first q h.0 (λ q. front_construct_by is_wide_start (q ∷ (tail ++ x)) (length (q ∷ tail)) ≡ front_construct (q ∷ (tail ++ x)) (length (q ∷ tail))) refl refl
      ∙ front_is mode (QuotedString q tail) x h
  front_alike (QuotedIdentifier tail) h g k = front_is mode (QuotedIdentifier tail) x h
  front_alike (HashComment tail) h g k = front_is mode (HashComment tail) x h
  front_alike (DashComment gap tail) h g k = front_is mode (DashComment gap tail) x h
  front_alike (BlockComment tail) h g k = comment_block is_wide_start tail x y r h.1 h.0 ∙ block_front tail y g.1
  front_alike (Name bytes) h g k = absurd (k refl)
  front_alike Mark h g k = refl
  front_alike (Plain b) h g k = plain_alike x y r b (λ e. slash_block mode b x e (plain_none mode b x h)) ∙ front_is mode (Plain b) y g
