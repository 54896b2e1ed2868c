-- The known character sets are client sets, and the set of single bytes reads as the grammar does.
use Rattle.std.specs.Prelude.{not, ◌==◌, ◌||◌, Bool, nat_le, option_map, ⊤}
use Rattle.std.proofs.Common.{◌≡◌, ◌&&◌, eqb, ℕ, zero, true, false, List, [], ◌∷◌, length, take, refl, sym, ap, ◌∙◌, inl, inr, true≢false}
use Rattle.std.proofs.lemmas.Bool.{and_parts, and_from, cases_Bool, cond-true, cond-false, cond_both, not_from_false, eqb-true, false_from_ne_true}
use Rattle.mysql_sql_text.specs.ReadLiteral.{byte_string, prefix_read, read_units}
use Rattle.mysql_sql_text.proofs.ByteNames.{backslash, single_quote}
use Rattle.mysql_sql_text.proofs.ReadStringLemmas.{read_units-ordinary}
use Rattle.mysql_steady_text.specs.SteadyReader.{read_steady_literal}
use Rattle.mysql_steady_text.specs.ClientSet.{IsClientSet, are_later, single_bytes}
use Rattle.mysql_steady_text.specs.KnownSets.{Kind, pass, set_of}
use Rattle.mysql_steady_text.specs.ReadGuarded.{read_in, read_units_in}
use Rattle.mysql_steady_text.proofs.ReadInLemmas.{high_no_backslash, high_no_quote, no_pair}

-- no test passes a single quote, and only the first may pass a backslash
abbrev pub FailBoth : List (ℕ → Bool) → Type 0
FailBoth [] = ⊤
FailBoth (test ∷ tests) = (test single_quote ≡ false) × (test backslash ≡ false) × FailBoth tests

abbrev pub FailQuotes : List (ℕ → Bool) → Type 0
FailQuotes [] = ⊤
FailQuotes (test ∷ tests) = (test single_quote ≡ false) × FailBoth tests

abbrev pub KindsFailQuotes : List Kind → Type 0
KindsFailQuotes [] = ⊤
KindsFailQuotes (kind ∷ kinds) = FailQuotes kind.later × KindsFailQuotes kinds

no_other : (test : ℕ → Bool) (k b : ℕ) → test k ≡ false → test b ≡ true → not (b == k) ≡ true
no_other test k b q h =
    not_from_false _ (false_from_ne_true (eqb b k) (λ e. absurd (true≢false (sym h ∙ ap test (eqb-true b k e) ∙ q))))

or_after : (high c : Bool) → c ≡ true → (high || c) ≡ true
or_after true c h = refl
or_after false c h = h

passed_both : (high : Bool) (tests : List (ℕ → Bool)) (text : List ℕ) → FailBoth tests → pass tests text ≡ true →
    are_later high (take (length tests) text) ≡ true
passed_both high [] text q h = refl
passed_both high (test ∷ tests) [] q h = absurd (true≢false (sym h))
passed_both high (test ∷ tests) (b ∷ text) q h =
    let p = and_parts (test b) (pass tests text) h in
    and_from _ _ (no_other test single_quote b q.0 p.0)
    (and_from _ _ (or_after high _ (no_other test backslash b q.1 p.0)) (passed_both (nat_le 128 b) tests text q.2 p.1))

passed : (tests : List (ℕ → Bool)) (text : List ℕ) → FailQuotes tests → pass tests text ≡ true →
    are_later true (take (length tests) text) ≡ true
passed [] text q h = refl
passed (test ∷ tests) [] q h = absurd (true≢false (sym h))
passed (test ∷ tests) (b ∷ text) q h =
    let p = and_parts (test b) (pass tests text) h in
    and_from _ _ (no_other test single_quote b q.0 p.0) (passed_both (nat_le 128 b) tests text q.1 p.1)

pub kinds_client : (kinds : List Kind) → KindsFailQuotes kinds → IsClientSet (set_of kinds)
kinds_client [] q b text h = refl
kinds_client (kind ∷ kinds) q b text h =
    cond_both (kind.first b && pass kind.later text) _ _ (λ n. are_later true (take n text) ≡ true)
    (λ e. passed kind.later text q.0 ((and_parts (kind.first b) (pass kind.later text) e).1))
    (λ e. kinds_client kinds q.1 b text h)

pub single_client : IsClientSet single_bytes
single_client b text h = refl

-- ---- single bytes

units_single : (mode : Bool) (text : List ℕ) → read_units_in single_bytes mode zero text ≡ read_units mode text
units_single mode [] = refl
units_single mode (a ∷ []) = refl
units_single mode (a ∷ b ∷ text) = elim (cases_Bool (nat_le 128 a)) [
  | inl high ↦
      cond-true (nat_le 128 a) _ _ high
      ∙ ap (prefix_read (a ∷ [])) (units_single mode (b ∷ text))
      ∙ sym (read_units-ordinary mode a (b ∷ text) (high_no_quote a high) (no_pair mode a (high_no_backslash a high)))
  | inr low ↦ cond-false (nat_le 128 a) _ _ low ∙ rw (units_single mode text, units_single mode (b ∷ text)) refl
]

pub reads_single : (mode : Bool) (text : List ℕ) → read_in single_bytes mode text ≡ read_steady_literal mode text
reads_single mode [] = refl
reads_single mode (b ∷ text) = elim (cases_Bool (eqb b single_quote)) [
  | inl quote ↦ rw (eqb-true b single_quote quote) (ap (option_map (λ r. (byte_string r.0, r.1))) (units_single mode text))
  | inr other ↦ cond-false (eqb b single_quote) _ _ other
]
