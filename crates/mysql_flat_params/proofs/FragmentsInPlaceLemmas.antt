-- The kept fragments of a form, parameter by parameter.
use Rattle.std.specs.Prelude.{Ok, Err, Option, Some, None, is_some, option_copied, ⊤}
use Rattle.std.specs.Borrow.{Bor}
use Rattle.std.specs.FinMap.{contains_key, empty, get, get-empty, get-insert, insert}
use Rattle.std.specs.Map.{lookup, KeepsOthers}
use Rattle.std.specs.Ordering.{nat_cmp}
use Rattle.std.specs.Cmp.Lexicographic.{slice_cmp, nat_list_cmp_total}
use Rattle.std.proofs.Common.{◌≡◌, ◌≢◌, ◌==◌, ℕ, ◌-◌, Bool, true, false, true≢false, eqb-true, cond, List, [], ◌∷◌, ◌++◌, length, arith, refl, sym, ap, ◌∙◌, subst}
use Rattle.mysql_wire_part.specs.Answer.{IsExpectedRefusal}
use Rattle.mysql_wire_part.proofs.AnswerLemmas.{refusal_expected_too}
use Rattle.mysql_fragments.specs.GivenFragments.{FragmentMap, GivenFragments, named, positional}
use Rattle.mysql_fragments.specs.declared.fragment.Fragment.{Fragment}
use Rattle.mysql_flat_params.specs.FlatForm.{FormReading, FormRefusal, mixed_form, read_name}
use Rattle.mysql_flat_params.specs.FlatFragments.{and_then_form, fragment_unless, map_form, name_refusal, read_fragment, read_parameter, with_parameter}
use Rattle.mysql_flat_params.specs.FormInPlace.{AreKeptAs, IsFoundAs, IsKeptAs, IsMapKeptAs, kept_at}
use Rattle.mysql_flat_params.specs.FragmentContent.{FragmentContent}
use Rattle.mysql_flat_params.specs.declared.fragment_in_place.FragmentInPlace.{FragmentInPlace}
use Rattle.mysql_params_core.proofs.SortedPairLemmas.{by_order, lookup-either, tied}
use Rattle.mysql_params_core.proofs.MapLemmas.{is_some-copied}

-- ---- lists

pub kept_more : (fragments : List FragmentInPlace) (said : List Fragment) (fragment : FragmentInPlace) (one : Fragment) →
    AreKeptAs fragments said → IsKeptAs fragment one → AreKeptAs (fragments ++ fragment ∷ []) (said ++ one ∷ [])
kept_more [] [] fragment one all h = (h, tt)
kept_more [] (s ∷ said) fragment one all h = absurd all
kept_more (f ∷ fragments) [] fragment one all h = absurd all
kept_more (f ∷ fragments) (s ∷ said) fragment one all h = (all.0, kept_more fragments said fragment one all.1 h)

-- the given fragments with one more by position
with_one_more : (said : List Fragment) (name : List ℕ) (one : Fragment) → (said ≡ [] → name ≡ []) →
    with_parameter (positional said) name one ≡ positional (said ++ one ∷ [])
with_one_more [] [] one alike = refl
with_one_more [] (b ∷ name) one alike = (let never : b ∷ name ≡ [] = alike refl in cc)
with_one_more (s ∷ said) name one alike = refl

none_said : (fragments : List FragmentInPlace) (said : List Fragment) → AreKeptAs fragments said → said ≡ [] → fragments ≡ []
none_said [] said all none = refl
none_said (f ∷ fragments) [] all none = absurd all
none_said (f ∷ fragments) (s ∷ said) all none = cc

-- one more by position
pub pushed : (list new : List FragmentInPlace) (given : GivenFragments) (name : List ℕ) (fragment : FragmentInPlace) (one : Fragment) →
    ((said : List Fragment) × (given ≡ positional said) × AreKeptAs list said) → (list ≡ [] → name ≡ []) → new ≡ list ++ fragment ∷ [] → IsKeptAs fragment one →
    (said : List Fragment) × (with_parameter given name one ≡ positional said) × AreKeptAs new said
pushed list new given name fragment one g alike new_is h = (
  g.0 ++ one ∷ [],
  ap (λ x. with_parameter x name one) g.1 ∙ with_one_more g.0 name one (λ none. alike (none_said list g.0 g.2 none)),
  subst (λ l. AreKeptAs l (g.0 ++ one ∷ [])) (sym new_is) (kept_more list g.0 fragment one g.2 h),
)

-- a length that is tested
pub some_of : (test : Bool) (n : ℕ) → test ≡ (n == 0) → test ≡ false → n ≢ 0
some_of test n is none zero = true≢false (sym (is ∙ ap (λ k. k == 0) zero) ∙ none)

pub none_of : (test : Bool) (n : ℕ) → test ≡ (n == 0) → test ≡ true → n ≡ 0
none_of test n is some = eqb-true n 0 (sym is ∙ some)

-- the first by name
pub first_by_name : (list : List FragmentInPlace) (given : GivenFragments) (name : List ℕ) (one : Fragment) →
    ((said : List Fragment) × (given ≡ positional said) × AreKeptAs list said) → length list ≡ 0 → length name ≢ 0 →
    with_parameter given name one ≡ named (insert empty name one)
first_by_name [] given [] one g none some = absurd (some refl)
first_by_name [] given (b ∷ name) one ([], is, all) none some = ap (λ x. with_parameter x (b ∷ name) one) is
first_by_name [] given (b ∷ name) one (s ∷ said, is, all) none some = absurd all
first_by_name (f ∷ list) given name one g none some = absurd (omega (arith, none))

-- a name after fragments by position
pub name_mixed : (list : List FragmentInPlace) (place position at : ℕ) (given : GivenFragments) (name : List ℕ) →
    ((said : List Fragment) × (given ≡ positional said) × AreKeptAs list said) → length list ≢ 0 → length name ≢ 0 →
    Some (mixed_form place position) ≡ name_refusal place position at given name
name_mixed [] place position at given name g some has = absurd (some refl)
name_mixed (f ∷ list) place position at given name ([], is, all) some has = absurd all
name_mixed (f ∷ list) place position at given [] (s ∷ said, is, all) some has = absurd (has refl)
name_mixed (f ∷ list) place position at given (b ∷ name) (s ∷ said, is, all) some has = sym (ap (λ x. name_refusal place position at x (b ∷ name)) is)

-- ---- maps

found_either : (b : Bool) (fragment : FragmentInPlace) (one : Fragment) (o : Option FragmentInPlace) (g : Option Fragment) →
    IsKeptAs fragment one → IsFoundAs o g → IsFoundAs (cond b (Some fragment) o) (cond b (Some one) g)
found_either true fragment one o g h others = h
found_either false fragment one o g h others = others

-- one more by name
pub inserted_more : (es fs : List (Bor (List ℕ) × FragmentInPlace)) (k : Bor (List ℕ)) (fragment : FragmentInPlace) (one : Fragment) (m : FragmentMap) →
    KeepsOthers by_order (by_order k) es fs → lookup (by_order k) fs ≡ Some fragment → IsKeptAs fragment one → IsMapKeptAs es m →
    IsMapKeptAs fs (insert m k.now one)
inserted_more es fs k fragment one m keeps inserted h all = λ q.
    subst (λ g. IsFoundAs (kept_at fs q) g) (sym (get-insert nat_list_cmp_total m k.now one q))
    (subst (λ o. IsFoundAs o (cond (tied q k) (Some one) (get m q))) (sym (lookup-either es fs k fragment keeps inserted q (tied q k) refl))
    (found_either (tied q k) fragment one (kept_at es q) (get m q) h (all q)))

pub none_kept : IsMapKeptAs [] empty
none_kept = λ q. subst (λ g. IsFoundAs None g) (sym (get-empty (slice_cmp nat_cmp) q)) tt

-- a name is in the map if something is kept under it
some_found : (o : Option FragmentInPlace) (g : Option Fragment) → IsFoundAs o g → is_some o ≡ is_some g
some_found None None h = refl
some_found None (Some s) h = absurd h
some_found (Some f) None h = absurd h
some_found (Some f) (Some s) h = refl

pub has_kept : (es : List (Bor (List ℕ) × FragmentInPlace)) (m : FragmentMap) (name : List ℕ) (o : Option (Bor FragmentInPlace)) →
    IsMapKeptAs es m → option_copied o ≡ kept_at es name → is_some o ≡ contains_key m name
has_kept es m name o all is = is_some-copied o ∙ (ap is_some is ∙ some_found (kept_at es name) (get m name) (all name))

-- ---- one parameter

-- the reading after a name that is read
abbrev after_name : (total place : ℕ) → GivenFragments → (position : ℕ) → FormReading (List ℕ) → FormReading (List ℕ × FragmentContent)
after_name total place given position read =
    and_then_form read (λ n left. fragment_unless (name_refusal place position (total - length left - length n) given n) place position n left)

module _ (total place : ℕ) (given : GivenFragments) (bytes name rest : List ℕ) (position at : ℕ)
    (position_is : position ≡ total - length bytes) (at_is : at ≡ total - length rest - length name) (named_so : read_name place position bytes ≡ Ok (name, rest)) where
  placed_so : read_parameter total place given bytes ≡ fragment_unless (name_refusal place position at given name) place position name rest
  placed_so =
      ap (λ p. after_name total place given p (read_name place p bytes)) (sym position_is)
      ∙ (ap (after_name total place given position) named_so ∙ ap (λ a. fragment_unless (name_refusal place position a given name) place position name rest) (sym at_is))

  pub parameter_is : (content : FragmentContent) (after : List ℕ) → name_refusal place position at given name ≡ None →
      read_fragment place position rest ≡ Ok (content, after) → read_parameter total place given bytes ≡ Ok ((name, content), after)
  parameter_is content after fine is =
      placed_so ∙ (ap (λ r. fragment_unless r place position name rest) fine ∙ ap (map_form (λ c. (name, c))) is)

  -- the name or the fragment is refused
  pub name_refused : (why : FormRefusal) → name_refusal place position at given name ≡ Some why → read_parameter total place given bytes ≡ Err why
  name_refused why e = placed_so ∙ ap (λ r. fragment_unless r place position name rest) e

  pub fragment_refused : (refusal : Option FormRefusal) → name_refusal place position at given name ≡ None →
      IsExpectedRefusal (read_fragment place position rest) ⊤ refusal → IsExpectedRefusal (read_parameter total place given bytes) ⊤ refusal
  fragment_refused refusal fine h =
      refusal_expected_too (read_fragment place position rest) (read_parameter total place given bytes) ⊤ ⊤ refusal
      (λ why e. placed_so ∙ (ap (λ r. fragment_unless r place position name rest) fine ∙ ap (map_form (λ c. (name, c))) e)) (λ t. t) h
