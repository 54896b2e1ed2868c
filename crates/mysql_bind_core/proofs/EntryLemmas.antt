-- To insert into a hash map of fragments is to insert into the finite map that it stands for; one
-- more pair of a name and a fragment.
use Rattle.std.proofs.Common.{◌≡◌, ℕ, List, [], ◌∷◌, ◌++◌, map, refl, ap, ◌∙◌}
use Rattle.std.proofs.lemmas.List.{map-append}
use Rattle.std.proofs.lemmas.List.Sums.{fold-append}
use Rattle.std.specs.Prelude.{Some, Ok, Err, fold}
use Rattle.std.specs.Borrow.{Bor}
use Rattle.std.specs.FinMap as finite
use Rattle.mysql_fragments.specs.declared.fragment.Fragment.{Fragment}
use Rattle.mysql_fragments.specs.GivenFragments.{FragmentMap}
use Rattle.mysql_bind_core.specs.Contents.{contents_of}
use Rattle.mysql_bind_core.specs.Entries.{Entries, entries_of, pair_said, pair_seen, with_fragment}
use Rattle.mysql_bind_core.specs.Refusals.{IsContentsRefusal, IsEntriesRefusal}
use Rattle.mysql_bind_core.specs.declared.assignment.Assignment.{Assignment}
use Rattle.mysql_bind_core.specs.declared.failure.Failure.{Failure}
use Rattle.mysql_bind_core.specs.declared.failure.Failure.TheVariants as failure

-- a refusal stays
refused_stays : (name : List ℕ) (pairs : List (List ℕ × Fragment)) → fold with_fragment (Err name) pairs ≡ Err name
refused_stays name [] = refl
refused_stays name (pair ∷ pairs) = refused_stays name pairs

-- one more pair
module _ (front : List (Bor (List ℕ) × Fragment)) (pair : Bor (List ℕ) × Fragment) (entries : FragmentMap)
    (so_far : entries_of (map pair_seen front) ≡ Ok entries) where
  -- whatever follows a pair that is refused, all are refused as it is
  all_refused : (rest : List (Bor (List ℕ) × Fragment)) (made : Entries) → with_fragment (Ok entries) (pair_seen pair) ≡ made
      → entries_of (map pair_seen (front ++ pair ∷ rest)) ≡ fold with_fragment made (map pair_seen rest)
  all_refused rest made one =
      ap entries_of (map-append pair_seen front (pair ∷ rest))
      ∙ fold-append with_fragment (Ok finite.empty) (map pair_seen front) (map pair_seen (pair ∷ rest))
      ∙ ap (λ r. fold with_fragment r (map pair_seen (pair ∷ rest))) so_far
      ∙ ap (λ r. fold with_fragment r (map pair_seen rest)) one

  pub entries_of-refused : (rest : List (Bor (List ℕ) × Fragment)) (why : Failure)
      → IsEntriesRefusal (with_fragment (Ok entries) (pair_seen pair)) why
      → IsEntriesRefusal (entries_of (map pair_seen (front ++ pair ∷ rest))) why
  entries_of-refused rest (failure.Redefined name) h =
      all_refused rest (Err name.items) h ∙ refused_stays name.items (map pair_seen rest)
  entries_of-refused rest (failure.Memory error) h = tt
  entries_of-refused rest why h = absurd h

pub said_seen : (pairs : List (Bor (List ℕ) × Fragment)) → map (λ pair. pair_said (pair_seen pair)) pairs ≡ map pair_said (map pair_seen pairs)
said_seen [] = refl
said_seen (pair ∷ pairs) = ap (λ more. pair_said (pair_seen pair) ∷ more) (said_seen pairs)

pub contents_refused : (assignments : List Assignment) (pairs : List (List ℕ × Fragment)) → contents_of assignments ≡ Some (map pair_said pairs) →
    (why : Failure) → IsEntriesRefusal (entries_of pairs) why → IsContentsRefusal assignments why
contents_refused assignments pairs e failure.NoValue h = absurd h
contents_refused assignments pairs e (failure.Memory error) h = tt
contents_refused assignments pairs e why h = (pairs, e, h)
