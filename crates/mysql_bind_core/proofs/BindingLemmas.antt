-- What holds of a value in another form, and what pairs give with their values borrowed.
use Rattle.std.proofs.Common.{◌≡◌, ◌∙◌, ℕ, ◌+◌, ◌<◌, List, [], ◌∷◌, ◌++◌, length, map, take, get_or, refl, sym, ap, arith, Result, Ok, Err}
use Rattle.std.specs.Prelude.{IfOk, IfErr, IsErrAnd, IsErrOf}
use Rattle.std.proofs.lemmas.List.{take_more, get_or-map, length-map, map-append}
use Rattle.std.specs.Borrow.{Bor}
use Rattle.mysql_values.specs.declared.value.Value.{Value}
use Rattle.mysql_values.specs.declared.value.ValueRef.{ValueRef}
use Rattle.mysql_values.specs.BorrowedValue.{owned}
use Rattle.mysql_params_core.specs.GivenBorrowed.{by_borrowed}
use Rattle.mysql_params_core.specs.Made as made
use Rattle.mysql_params_core.specs.Made.{pairs_made}
use Rattle.mysql_query_core.specs.WordErrors.{seen_pair}
use Rattle.mysql_bind_core.specs.Assignments.{given_of}
use Rattle.mysql_bind_core.proofs.FoundPairLemmas.{meant}

-- what holds of a value holds of it in another form
pub if_ok : {A E : Type 0} (r : Result A E) (P Q : A → Type 0) → ((a : A) → P a → Q a) → IfOk r P → IfOk r Q
if_ok (Ok a) P Q f p = f a p
if_ok (Err e) P Q f p = tt

pub if_err : {A E : Type 0} (r : Result A E) (P Q : E → Type 0) → ((e : E) → P e → Q e) → IfErr r P → IfErr r Q
if_err (Ok a) P Q f p = tt
if_err (Err e) P Q f p = f e p

-- an error that is handed on is the one that was found
pub was_error : {A E : Type 0} (r : Result A E) (e x : E) → IsErrAnd r (λ t. t ≡ e) → IsErrOf r x → e ≡ x
was_error (Ok a) e x same h = absurd same
was_error (Err t) e x same h = let is : t ≡ x = cc in sym same ∙ is

-- ---- pairs whose values are borrowed

meant_borrowed : (ps : List (Bor (List ℕ) × ValueRef)) → map meant (map by_borrowed ps) ≡ map made.seen_pair ps
meant_borrowed [] = refl
meant_borrowed (p ∷ ps) = ap (λ rest. made.seen_pair p ∷ rest) (meant_borrowed ps)

pub given_of-borrowed : (ps : List (Bor (List ℕ) × ValueRef)) → 0 < length ps → given_of (map by_borrowed ps) ≡ pairs_made (map made.seen_pair ps)
given_of-borrowed [] some = absurd (omega arith)
given_of-borrowed (p ∷ ps) some = ap pairs_made (meant_borrowed (p ∷ ps))

-- one pair more is borrowed
pub borrowed_more : (pairs : List (Bor (List ℕ) × Value)) (i : ℕ) (pair : Bor (List ℕ) × Value) (lent more : List (Bor (List ℕ) × ValueRef)) (value : ValueRef) →
    i < length pairs → pair ≡ get_or pairs i pair → owned value ≡ pair.1 → more ≡ lent ++ (pair.0, value) ∷ [] →
    map by_borrowed lent ≡ take i (map seen_pair pairs) → map by_borrowed more ≡ take (i + 1) (map seen_pair pairs)
borrowed_more pairs i pair lent more value below at same pushed so_far =
    ap (map by_borrowed) pushed ∙ map-append by_borrowed lent ((pair.0, value) ∷ [])
    ∙ ap (λ front. front ++ (pair.0.now, owned value) ∷ []) so_far
    ∙ ap (λ v. take i (map seen_pair pairs) ++ (pair.0.now, v) ∷ []) same
    ∙ ap (λ p. take i (map seen_pair pairs) ++ seen_pair p ∷ []) at
    ∙ ap (λ p. take i (map seen_pair pairs) ++ p ∷ []) (sym (get_or-map seen_pair pairs i pair (seen_pair pair) below))
    ∙ sym (take_more (map seen_pair pairs) i (seen_pair pair) (omega (arith, length-map pairs seen_pair, below)))
