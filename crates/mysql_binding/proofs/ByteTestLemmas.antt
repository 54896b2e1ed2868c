-- Tests of bytes that may be beside a place.
use Rattle.std.proofs.Common.{◌≡◌, ◌++◌, ◌==◌, not, ℕ, Bool, true, false, List, [], ◌∷◌, arith, inl, inr, refl, ap, ◌∙◌, sym, true≢false}
use Rattle.std.specs.List.{list_all}
use Rattle.std.proofs.lemmas.Bool.{and_parts, or_cases, eqb-true}
use Rattle.std.proofs.lemmas.Bool.Decides.{nat_tests}
use Rattle.mysql_sql_text.specs.LiteralEnd.{BeginsWithout, continues_literal}
use Rattle.mysql_named_params.specs.Bytes.{is_white_space}
use Rattle.mysql_named_params.specs.WideNames.{is_wide_byte}
use Rattle.mysql_binding.specs.StandsAlone.{is_one_of, signs_before, signs_after, may_stand_before, may_stand_after, none_or_first}

fails : (b : Bool) → not b ≡ true → b ≡ false
fails true e = absurd (true≢false (sym e))
fails false e = refl

-- one of some bytes that all fail a test fails it
one_of_failing : (test : ℕ → Bool) (bytes : List ℕ) (b : ℕ) →
    list_all (λ c. not (test c)) bytes ≡ true → is_one_of bytes b ≡ true → test b ≡ false
one_of_failing test [] b all h = absurd (true≢false (sym h))
one_of_failing test (c ∷ bytes) b all h =
    let p = and_parts (not (test c)) (list_all (λ c. not (test c)) bytes) all in
    elim (or_cases (c == b) (is_one_of bytes b) h) [
      | inl e ↦ ap test (sym (eqb-true c b e)) ∙ fails (test c) p.0
      | inr e ↦ one_of_failing test bytes b p.1 e
    ]

space_continues_nothing : (b : ℕ) → is_white_space b ≡ true → continues_literal b ≡ false
space_continues_nothing b h = grind (arith, nat_tests)

-- a byte that may be after a place doesn't continue a literal before it
pub behind_ends : (b : ℕ) → may_stand_after b ≡ true → continues_literal b ≡ false
behind_ends b h =
    elim (or_cases (is_white_space b) _ h) [
      | inl e ↦ space_continues_nothing b e
      | inr e ↦ one_of_failing continues_literal signs_after b refl e
    ]

space_in_no_name : (b : ℕ) → is_white_space b ≡ true → is_wide_byte b ≡ false
space_in_no_name b h = grind (arith, nat_tests)

-- a byte that may be before a place is no byte of a name
before_in_no_name : (b : ℕ) → may_stand_before b ≡ true → is_wide_byte b ≡ false
before_in_no_name b h =
    elim (or_cases (is_white_space b) _ h) [
      | inl e ↦ space_in_no_name b e
      | inr e ↦ one_of_failing is_wide_byte signs_before b refl e
    ]

pub wide_byte_not_before : (b : ℕ) → is_wide_byte b ≡ true → may_stand_before b ≡ false
wide_byte_not_before b h = go (may_stand_before b) refl
  where
    go : (t : Bool) → may_stand_before b ≡ t → t ≡ false
    go true e = absurd (true≢false (sym h ∙ before_in_no_name b e))
    go false e = refl

-- a piece whose first byte may be after a place, before another text or at the end
pub piece_ends : (piece rest : List ℕ) (b : ℕ) (more : List ℕ) → may_stand_after b ≡ false →
    none_or_first may_stand_after (piece ++ b ∷ more) ≡ true →
    BeginsWithout continues_literal (piece ++ rest)
piece_ends [] rest b more f h = absurd (true≢false (sym h ∙ f))
piece_ends (c ∷ piece) rest b more f h = behind_ends c h

pub last_piece_ends : (piece : List ℕ) →
    none_or_first may_stand_after (piece ++ []) ≡ true →
    BeginsWithout continues_literal (piece ++ [])
last_piece_ends [] h = tt
last_piece_ends (c ∷ piece) h = behind_ends c h
