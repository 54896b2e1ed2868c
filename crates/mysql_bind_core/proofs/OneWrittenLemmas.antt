-- The same assignments have one text: fragments that say the same are written the same, doubles too.
use Rattle.std.specs.Prelude.{Bool, fold}
use Rattle.std.specs.FinMap.{contains_key, insert}
use Rattle.std.proofs.Common.{◌≡◌, ◌∙◌, ℕ, true, false, List, [], ◌∷◌, map, Ok, Err, refl, sym, ap, subst}
use Rattle.mysql_named_params.specs.Places.{names}
use Rattle.mysql_named_params.specs.Reading.{wide_reading}
use Rattle.mysql_named_params.specs.Tokens.{Token}
use Rattle.mysql_named_params.proofs.ReadingLemmas.{one_reading}
use Rattle.mysql_binding.proofs.BoundText.{bound}
use Rattle.mysql_fragments.specs.FragmentText.{filled_text}
use Rattle.mysql_fragments.specs.GivenFragments.{FragmentMap, GivenFragments, positional}
use Rattle.mysql_fragments.specs.declared.fragment.Fragment.{Fragment}
use Rattle.mysql_bind_core.specs.Bound.{IsAssignedText}
use Rattle.mysql_bind_core.specs.Entries.{IsAskedText, asked_literal, entries_of, given_to, with_fragment}
use Rattle.mysql_bind_core.specs.Requests.{mode_of}
use Rattle.mysql_bind_core.specs.declared.assignment.Assignment.{Assignment}
use Rattle.mysql_bind_core.specs.declared.request.Literals.{Literals}
use Rattle.mysql_bind_core.specs.declared.request.Request.{Request}
use Rattle.mysql_bind_core.proofs.FewerEntryLemmas.{AreLessByName, both_made, pairs_less}
use Rattle.mysql_bind_core.proofs.FewerTextLemmas.{IsFilled, is_filled_for, same_filled}

-- entries are made only of new names
refused_stays : (name : List ℕ) (ps : List (List ℕ × Fragment)) (made : FragmentMap) → fold with_fragment (Err name) ps ≡ Ok made → ⊥
refused_stays name [] made e = absurd cc
refused_stays name (p ∷ ps) made e = refused_stays name ps made e

pub inserted_first : (m : FragmentMap) (p : List ℕ × Fragment) (ps : List (List ℕ × Fragment)) (made : FragmentMap) →
    fold with_fragment (Ok m) (p ∷ ps) ≡ Ok made → (contains_key m p.0 ≡ false) × (fold with_fragment (Ok (insert m p.0 p.1)) ps ≡ Ok made)
inserted_first m p ps made e = by (contains_key m p.0) refl
  where
    by : (b : Bool) → contains_key m p.0 ≡ b → (contains_key m p.0 ≡ false) × (fold with_fragment (Ok (insert m p.0 p.1)) ps ≡ Ok made)
    by true t = absurd (refused_stays p.0 ps made (rw t at e))
    by false t = (t, rw t at e)

module _ (asked : Literals) (ts : List Token) where
  -- the text of the same fragments
  one_filled : (given : GivenFragments) (a b : List ℕ) → IsFilled asked ts given a → IsFilled asked ts given b → a ≡ b
  one_filled given a b x y =
      let both : Ok x.fragments ≡ Ok y.fragments = sym x.given_to_places ∙ y.given_to_places in
      let same : x.fragments ≡ y.fragments = cc in
      x.text_is ∙ (ap (λ fs. bound ts (map (filled_text (asked_literal asked)) fs)) same ∙ sym y.text_is)

  one_given : (assignments : List Assignment) (ns : List (List ℕ)) (m n : FragmentMap) (a b : List ℕ) → AreLessByName m n → AreLessByName n m →
      IsFilled asked ts (given_to assignments m ns) a → IsFilled asked ts (given_to assignments n ns) b → a ≡ b
  one_given [] [] m n a b h k x y = one_filled (positional []) a b x y
  one_given assignments ns m n a b h k x y = same_filled asked ts m n a b h k x y

pub one_assigned_text : (request : Request) (query : List ℕ) (assignments : List Assignment) (a b : List ℕ) → IsAssignedText request query assignments a →
    IsAssignedText request query assignments b → a ≡ b
one_assigned_text request query assignments a b x y =
    let asked = request.literals in
    let ts = y.bound.0 in
    let tokens : x.bound.0 ≡ y.bound.0 = one_reading (wide_reading (mode_of asked)) query x.bound.0 y.bound.0 x.bound.1 y.bound.1 in
    one_given asked ts assignments (names ts) x.entries y.entries a b
    (both_made x.entries y.entries (entries_of x.pairs) (entries_of y.pairs) x.entries_are y.entries_are
    (pairs_less assignments x.pairs y.pairs x.contents_are y.contents_are))
    (both_made y.entries x.entries (entries_of y.pairs) (entries_of x.pairs) y.entries_are x.entries_are
    (pairs_less assignments y.pairs x.pairs y.contents_are x.contents_are))
    (is_filled_for asked ts (given_to assignments x.entries (names ts)) a
    (subst (λ us. IsAskedText asked us (given_to assignments x.entries (names us)) a) tokens x.bound.2))
    (is_filled_for asked ts (given_to assignments y.entries (names ts)) b y.bound.2)
