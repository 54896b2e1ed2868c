-- An insertion of a fragment into a hash map is an insertion of its content into the finite map of
-- the entries' contents.
use Rattle.std.proofs.Common.{◌≡◌, ℕ, Bool, true, false, cond, List, [], ◌∷◌, map, refl, sym, ap, ◌∙◌}
use Rattle.std.specs.Prelude.{Option, Some, None, Result, Ok, Err, option_map, is_some, nat_eq, ⊤}
use Rattle.std.specs.FinMap as finite
use Rattle.std.specs.Global.{Vec}
use Rattle.std.specs.Ordering.{nat_cmp, eq_by_cmp}
use Rattle.std.specs.Cmp.{unsigned_ties}
use Rattle.std.specs.Cmp.Lexicographic.{slice_cmp, pointwise, lists_ties, nat_list_cmp_total}
use Rattle.std.specs.FinMap.{find, get, get-from_entries, insert, get-insert, same_map, slice_cmp-IsAntisymmetric, nat_cmp-IsAntisymmetric}
use Rattle.std.specs.Map.{lookup, KeepsOthers}
use Rattle.mysql_wire_part.specs.Answer.{IsAnswer, IsExpectedRefusal}
use Rattle.mysql_values.specs.ValueOf.{too_long_duration}
use Rattle.mysql_value_core.specs.declared.value.convert.ToValueError.{ToValueError}
use Rattle.mysql_value_core.specs.declared.value.convert.ToValueError.TheVariants.{DurationTooLong, Memory}
use Rattle.mysql_params_core.specs.Errors.{of_value, to_params_refusal}
use Rattle.mysql_params_core.proofs.EqualityLemmas.{has_bytes, key_eq}
use Rattle.mysql_fragments.specs.declared.fragment.Fragment.{Fragment}
use Rattle.mysql_to_fragments.specs.FragmentContent.{content_of}
use Rattle.mysql_to_fragments.specs.Arguments.{SaidFragment}
use Rattle.mysql_to_fragments.specs.NamedContents.{ContentMap, content_map, entry_content, with_new}
use Rattle.mysql_params_core.proofs.InsertLemmas.{lookup-bytes}

-- the content of a choice
of_choice : (b : Bool) (f : Fragment) (o : Option Fragment) → cond b (Some (content_of f)) (option_map content_of o) ≡ option_map content_of (cond b (Some f) o)
of_choice true f o = refl
of_choice false f o = refl

-- a search by the names' order finds the content of the fragment that a search by their bytes finds
find-lookup : (es : List (Vec ℕ × Fragment)) (q : List ℕ) → find (slice_cmp nat_cmp) q (map entry_content es) ≡ option_map content_of (lookup (has_bytes q) es)
find-lookup [] q = refl
find-lookup (e ∷ es) q =
    ap (λ b. cond b (Some (content_of e.1)) (find (slice_cmp nat_cmp) q (map entry_content es))) (sym (lists_ties nat_cmp unsigned_ties q e.0.items))
    ∙ ap (cond (pointwise nat_eq q e.0.items) (Some (content_of e.1))) (find-lookup es q)
    ∙ of_choice (has_bytes q e.0) e.1 (lookup (has_bytes q) es)

-- the entry of the map at a name
pub get-content_map : (es : List (Vec ℕ × Fragment)) (q : List ℕ) → get (content_map es) q ≡ option_map content_of (lookup (has_bytes q) es)
get-content_map es q = get-from_entries nat_list_cmp_total _ q ∙ find-lookup es q

pub is_some-mapped : {X Y : Type 0} (f : X → Y) (o : Option X) → is_some (option_map f o) ≡ is_some o
is_some-mapped f None = refl
is_some-mapped f (Some x) = refl

module _ (es fs : List (Vec ℕ × Fragment)) (k : Vec ℕ) (v : Fragment) (keeps : KeepsOthers key_eq (key_eq k) es fs) (inserted : lookup (key_eq k) fs ≡ Some v) where
  pub content_map-insert : content_map fs ≡ insert (content_map es) k.items (content_of v)
  content_map-insert = same_map nat_list_cmp_total (slice_cmp-IsAntisymmetric nat_cmp-IsAntisymmetric) _ _ (λ q.
      get-content_map fs q ∙ ap (option_map content_of) (lookup-bytes es fs k v keeps inserted q (has_bytes q k) refl)
      ∙ sym (of_choice (has_bytes q k) v (lookup (has_bytes q) es))
      ∙ ap (λ b. cond b (Some (content_of v)) (option_map content_of (lookup (has_bytes q) es))) (lists_ties nat_cmp unsigned_ties q k.items)
      ∙ ap (cond (eq_by_cmp (slice_cmp nat_cmp) q k.items) (Some (content_of v))) (sym (get-content_map es q))
      ∙ sym (get-insert nat_list_cmp_total (content_map es) k.items (content_of v) q))

-- the map with the fragment that an argument returned
pub with_new-content : (m : ContentMap) (name : List ℕ) (said : SaidFragment) (answer : Result Fragment ToValueError) (v : Fragment)
    → answer ≡ Ok v → IsAnswer content_of too_long_duration said ⊤ answer
    → with_new m name said ≡ Ok (finite.insert m name (content_of v))
with_new-content m name said (Ok w) v is answers =
    let same : w ≡ v = cc in
    ap (with_new m name) (answers ∙ ap (λ x. Ok (content_of x)) same)
with_new-content m name said (Err (DurationTooLong d)) v is answers = cc
with_new-content m name said (Err (Memory e)) v is answers = cc

-- the refusal of an argument is that of its pair
pub with_new-refused : (m : ContentMap) (name : List ℕ) (said : SaidFragment) (error : ToValueError)
    → IsExpectedRefusal said ⊤ (too_long_duration error)
    → IsExpectedRefusal (with_new m name said) ⊤ (to_params_refusal (of_value error))
with_new-refused m name said (DurationTooLong d) refused = ap (with_new m name) refused
with_new-refused m name said (Memory e) refused = tt
