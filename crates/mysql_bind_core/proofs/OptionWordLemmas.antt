-- The parts of bytes before and behind the first byte that is a sign.
use Rattle.std.proofs.Common.{◌≡◌, ◌∙◌, ℕ, Bool, true, false, ◌+◌, ◌-◌, ◌<◌, ◌≤◌, List, length, take, drop, get_or, Option, None, Some, option_map, refl, ap, sym, subst, arith}
use Rattle.std.specs.Prelude.{All, if◌then◌else◌}
use Rattle.std.specs.List.{after_first, before_first, list_any, position, position_or_len}
use Rattle.std.proofs.lemmas.Grind.{common_steps}
use Rattle.std.proofs.lemmas.List.{take_rest}
use Rattle.std.proofs.lemmas.List.Folds.{list_any_at, list_any_none}
use Rattle.std.proofs.lemmas.List.Quantifiers.{position-Some}
use Rattle.std.proofs.lemmas.List.Sums.{fails_before_first}
use Rattle.mysql_bind_core.specs.OptionWords.{behind}

-- bytes cut at the first sign
abbrev cut : (ℕ → Bool) → List ℕ → Option (List ℕ × List ℕ)
cut is_sign bytes = option_map (λ others. (before_first is_sign bytes, others)) (behind is_sign bytes)

-- a cut at an index
abbrev cut_at : List ℕ → ℕ → Option (List ℕ × List ℕ)
cut_at bytes at = Some (take at bytes, drop (at + 1) bytes)

found : (is_sign : ℕ → Bool) (bytes : List ℕ) (at : ℕ) → Some at ≡ position is_sign bytes → cut_at bytes at ≡ cut is_sign bytes
found is_sign bytes at e =
    let one = position-Some is_sign bytes at 0 (sym e) in
    let first : position_or_len is_sign bytes ≡ at = grind (arith, common_steps) in
    ap (cut_at bytes) (sym first)
    ∙ ap (λ t. option_map (λ others. (before_first is_sign bytes, others)) (if t then Some (after_first is_sign bytes) else None))
    (sym (list_any_at is_sign bytes at 0 one.0 one.1))

pub parts_found : (is_sign : ℕ → Bool) (bytes : List ℕ) (at : ℕ) → Some at ≡ position is_sign bytes →
    ◌≡◌ {A = Option (List ℕ × List ℕ)} (Some (take at bytes, take (length bytes - (at + 1)) (drop (at + 1) bytes)))
    (option_map (λ others. (before_first is_sign bytes, others)) (behind is_sign bytes))
parts_found is_sign bytes at e =
    ap (λ (others : List ℕ). Some (take at bytes, others)) (take_rest bytes (at + 1)) ∙ found is_sign bytes at e

-- where no byte is a sign, nothing stands behind one
pub no_sign : (is_sign : ℕ → Bool) (bytes : List ℕ) → length bytes ≤ position_or_len is_sign bytes → None ≡ behind is_sign bytes
no_sign is_sign bytes past =
    let none : All (λ b. is_sign b ≡ false) bytes = λ k d below. fails_before_first is_sign bytes k d (omega (arith, below, past)) in
    ap (λ t. if t then Some (after_first is_sign bytes) else None) (sym (list_any_none is_sign bytes none))

pub parts_missing : (is_sign : ℕ → Bool) (bytes : List ℕ) → None ≡ position is_sign bytes →
    ◌≡◌ {A = Option (List ℕ × List ℕ)} None (option_map (λ others. (before_first is_sign bytes, others)) (behind is_sign bytes))
parts_missing is_sign bytes e =
    let past : length bytes ≤ position_or_len is_sign bytes = grind (arith, common_steps) in
    ap (λ found. option_map (λ others. (before_first is_sign bytes, others)) found) (no_sign is_sign bytes past)
