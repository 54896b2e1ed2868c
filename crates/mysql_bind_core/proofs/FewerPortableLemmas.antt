-- With fewer rows a text is portable in a client too.
use Rattle.std.specs.Prelude.{Bool, codes}
use Rattle.std.specs.Global.{Vec}
use Rattle.std.proofs.Common.{◌≡◌, ◌∙◌, ◌+◌, ◌++◌, ℕ, true, List, [], ◌∷◌, length, map, None, Some, Ok, option_map, refl, sym, ap, subst, append-nil}
use Rattle.mysql_sql_text.specs.StringUnits.{with_backslashes}
use Rattle.mysql_values.specs.declared.value.Value.{Value}
use Rattle.mysql_values.specs.Literal.{literal_of}
use Rattle.mysql_named_params.specs.LoweredNames.{lower_names}
use Rattle.mysql_named_params.specs.Places.{names}
use Rattle.mysql_named_params.specs.Reading.{IsTokensIn, wide_reading}
use Rattle.mysql_named_params.specs.Tokens.{IsTokens, Mark, Name, OnTokens, Token, text_of}
use Rattle.mysql_named_params.proofs.TokenListLemmas.{one_token_list}
use Rattle.mysql_portable.specs.FirstUnportableInClient.{IsPortableInClient}
use Rattle.mysql_portable.specs.Portable.{AreReadAlike, IsPortable}
use Rattle.mysql_portable.proofs.PlaceTextLemmas.{placeless_join_no_number}
use Rattle.mysql_params_core.specs.Given.{positional}
use Rattle.mysql_params_core.specs.Lookup.{lookup}
use Rattle.mysql_binding.specs.LiteralForm.{Literals as LiteralsOf, written_literal}
use Rattle.mysql_binding.specs.Replaced.{AreTokensOf, with_literal_tokens}
use Rattle.mysql_binding.proofs.BoundOnServerLemmas.{bound_portable}
use Rattle.mysql_binding.proofs.CauseLemmas.{map_none, or_none}
use Rattle.mysql_binding.proofs.ReplacedLemmas.{isolated_places}
use Rattle.mysql_steady_text.specs.SteadyLiteral.{steady_literal_of}
use Rattle.mysql_fragments.specs.Expanded.{IsBoundFragments, IsExpanded}
use Rattle.mysql_fragments.specs.FragmentErrors.{first_fault_from}
use Rattle.mysql_fragments.specs.FragmentFaults.{fault_of, rows_fault}
use Rattle.mysql_fragments.specs.FragmentText.{all_values, fragment_text, fragment_values, joined, mark, mark_number, row_text}
use Rattle.mysql_fragments.specs.GivenFragments.{FragmentMap, GivenFragments, fragments_for, named}
use Rattle.mysql_fragments.specs.SteadyFragments.{IsSteadyFragments}
use Rattle.mysql_fragments.specs.declared.fragment.Item.{Item}
use Rattle.mysql_fragments.specs.declared.fragment.Fragment.{Fragment}
use Rattle.mysql_fragments.specs.declared.fragment.Fragment.TheVariants as one
use Rattle.mysql_fragments.proofs.ExpandedLemmas.{expanded_alone, expanded_nameless, expanded_parts, expanded_shapes}
use Rattle.mysql_fragments.proofs.SplicedFragmentLemmas.{fragments_portable}
use Rattle.mysql_fragments.proofs.SteadyFragmentLemmas.{portable_expanded}
use Rattle.mysql_bind_core.specs.Entries.{IsAskedText}
use Rattle.mysql_bind_core.specs.Requests.{mode_of}
use Rattle.mysql_bind_core.specs.declared.request.Literals.{Literals}
use Rattle.mysql_bind_core.specs.declared.request.Literals.TheVariants as literals
use Rattle.mysql_bind_core.proofs.FewerEntryLemmas.{AreLessByName, AreLessFragments, less_places}
use Rattle.mysql_bind_core.proofs.FewerRowLemmas.{IsLess, less_rows, less_same}
use Rattle.mysql_bind_core.proofs.FewerSentLemmas.{AreLeft, left_end, left_opener, left_same, left_sent}
use Rattle.mysql_bind_core.proofs.FewerTextLemmas.{both_found, written_all}
use Rattle.mysql_bind_core.proofs.FewerTokenLemmas.{PlaceLeft, all_marked, all_tokens, left_place, literal_lists, literals_are, place_by, place_is, place_same, place_tokens, placed, row_values, rows_left, tk}
use Rattle.mysql_bind_core.proofs.FragmentTextLemmas.{IsBoundFor, bound_for}
use Rattle.mysql_bind_core.proofs.LoweredTextLemmas.{low_alone, low_joined, low_replaced, low_tokens}

-- ---- one place

module _ (mode : Bool) (write : Value → List ℕ) where
  rows_place : (xs : Vec (Vec Item)) (qs : List (Vec Item)) → map row_text xs.items ≡ map row_text qs → row_values xs.items ≡ row_values qs →
      place_tokens mode write (one.Rows xs) ≡ with_literal_tokens (tk mode (joined (codes ", ") (map row_text qs))) (literal_lists mode write (row_values qs))
  rows_place xs qs text values = place_is mode write (one.Rows xs) (joined (codes ", ") (map row_text qs)) (row_values qs) (ap (joined (codes ", ")) text) values

  less_place : (f g : Fragment) → IsLess f g → fault_of g ≡ None → PlaceLeft (place_tokens mode write f) (place_tokens mode write g)
  less_place f g (less_same a b s) none =
      place_by _ _ _ _ (place_is mode write a (fragment_text b) (fragment_values b) (s.text mark) s.values)
      (place_is mode write b (fragment_text b) (fragment_values b) refl refl) (place_same _)
  less_place f g (less_rows xs ys q qs [] s e) none =
      let same : ys.items ≡ q ∷ qs = e ∙ append-nil (q ∷ qs) in
      place_by _ _ _ _ (rows_place xs (q ∷ qs) (s.texts mark) s.values) (rows_place ys (q ∷ qs) (ap (map row_text) same) (ap row_values same)) (place_same _)
  less_place f g (less_rows xs ys q qs (p ∷ ps) s e) none =
      place_by _ _ _ _ (rows_place xs (q ∷ qs) (s.texts mark) s.values) (rows_place ys ((q ∷ qs) ++ (p ∷ ps)) (ap (map row_text) e) (ap row_values e))
      (rows_left mode write (length q.items) 0 q qs p ps (sym (ap rows_fault e) ∙ none))

  -- ---- all places

  less_tokens : (ts : List Token) (place : ℕ) (fs gs : List Fragment) → AreLessFragments fs gs → first_fault_from place gs ≡ None →
      AreLeft (with_literal_tokens ts (map (place_tokens mode write) fs)) (with_literal_tokens ts (map (place_tokens mode write) gs))
  unfolding AreLessFragments
  less_tokens [] place fs gs h e = left_end
  less_tokens (Name q ∷ ts) place [] [] h e = left_same (less_tokens ts place [] [] h e)
  less_tokens (Name q ∷ ts) place [] (g ∷ gs) h e = absurd h
  less_tokens (Name q ∷ ts) place (f ∷ fs) [] h e = absurd h
  less_tokens (Name q ∷ ts) place (f ∷ fs) (g ∷ gs) h e =
      let p = or_none (option_map (λ fault. (place, fault)) (fault_of g)) (first_fault_from (place + 1) gs) e in
      left_place (place_tokens mode write f) (place_tokens mode write g) _ _ (less_place f g h.0 (map_none _ (fault_of g) p.0)) (less_tokens ts (place + 1) fs gs h.1 p.1)
  less_tokens (Mark ∷ ts) place [] [] h e = left_same (less_tokens ts place [] [] h e)
  less_tokens (Mark ∷ ts) place [] (g ∷ gs) h e = absurd h
  less_tokens (Mark ∷ ts) place (f ∷ fs) [] h e = absurd h
  less_tokens (Mark ∷ ts) place (f ∷ fs) (g ∷ gs) h e =
      let p = or_none (option_map (λ fault. (place, fault)) (fault_of g)) (first_fault_from (place + 1) gs) e in
      left_place (place_tokens mode write f) (place_tokens mode write g) _ _ (less_place f g h.0 (map_none _ (fault_of g) p.0)) (less_tokens ts (place + 1) fs gs h.1 p.1)
  less_tokens (t ∷ ts) place fs gs h e = left_same (less_tokens ts place fs gs h e)

-- ---- the tokens of bound texts

module _ (literal : LiteralsOf) (mode : Bool) (ts : List Token) where
  bound_tokens : (given : GivenFragments) (query : List ℕ) (x : IsExpanded true mode ts given query) (vs : List Value) (ls : List (List ℕ)) (lists : List (List Token)) →
      lookup (positional (all_values x.fragments)) (names (with_literal_tokens ts x.lists)) ≡ Ok vs → map literal vs ≡ map Some ls → AreTokensOf mode ls lists →
      with_literal_tokens (with_literal_tokens ts x.lists) lists ≡ with_literal_tokens ts (map (place_tokens mode (written_literal literal)) x.fragments)
  bound_tokens given query x vs ls lists looked_up written a =
      let parts = expanded_parts true mode ts given query x in
      let none : names (with_literal_tokens ts x.lists) ≡ [] = expanded_nameless true mode ts given query x in
      let found : Ok (all_values x.fragments) ≡ Ok vs = sym (ap (lookup (positional (all_values x.fragments))) none) ∙ looked_up in
      let values_are : vs ≡ all_values x.fragments = cc in
      let texts : ls ≡ map (written_literal literal) (all_values x.fragments) = sym (written_all literal vs ls written) ∙ ap (map (written_literal literal)) values_are in
      let first = all_tokens mode fragment_text x.fragments x.lists x.tokens_of_fragments in
      let second = literals_are mode (written_literal literal) (all_values x.fragments) lists (subst (λ z. AreTokensOf mode z lists) texts a) in
      (λ i. with_literal_tokens (with_literal_tokens ts (first i)) (second i))
      ∙ placed mode (written_literal literal) ts x.fragments (all_marked mode (written_literal literal) 0 x.fragments parts.2) parts.0

  -- those of fewer rows are left of those of more
  bound_left : (m n : FragmentMap) (query other : List ℕ) (x : IsExpanded true mode ts (named m) query) (y : IsExpanded true mode ts (named n) other)
      (vs ws : List Value) (ls ks : List (List ℕ)) (us zs : List (List Token)) → AreLessByName m n →
      lookup (positional (all_values x.fragments)) (names (with_literal_tokens ts x.lists)) ≡ Ok vs → map literal vs ≡ map Some ls → AreTokensOf mode ls us →
      lookup (positional (all_values y.fragments)) (names (with_literal_tokens ts y.lists)) ≡ Ok ws → map literal ws ≡ map Some ks → AreTokensOf mode ks zs →
      AreLeft (with_literal_tokens (with_literal_tokens ts x.lists) us) (with_literal_tokens (with_literal_tokens ts y.lists) zs)
  bound_left m n query other x y vs ws ls ks us zs less a b c d e f =
      let fewer = both_found x.fragments y.fragments (fragments_for (named m) (names ts)) (fragments_for (named n) (names ts)) x.given_to_places y.given_to_places (less_places m n less (names ts)) in
      subst (λ z. AreLeft z (with_literal_tokens (with_literal_tokens ts y.lists) zs)) (sym (bound_tokens (named m) query x vs ls us a b c))
      (subst (AreLeft _) (sym (bound_tokens (named n) other y ws ks zs d e f))
      (less_tokens mode (written_literal literal) ts 0 x.fragments y.fragments fewer (expanded_parts true mode ts (named n) other y).2))

-- ---- portable texts

pub expanded_alike : (mode : Bool) (query expanded : List ℕ) (ts : List Token) (given : GivenFragments) → IsTokensIn (wide_reading mode) query ts →
    IsPortableInClient (lower_names ts) → (x : IsExpanded true mode ts given expanded) → AreReadAlike (with_literal_tokens ts x.lists)
expanded_alike mode query expanded ts given is p x =
    subst (λ us. AreReadAlike us) (low_replaced mode ts (map fragment_text x.fragments) x.lists expanded x.tokens_of_fragments x.text_is)
    (fragments_portable mode expanded (lower_names ts) (map mark_number x.fragments) (map fragment_text x.fragments) x.lists
    (low_alone mode query ts is (expanded_alone true mode ts given expanded x)) (expanded_shapes x) x.tokens_of_fragments
    (low_joined ts (map fragment_text x.fragments) expanded x.text_is) (text_of (lower_names ts)) (low_tokens mode query ts is) p.portable.alike)

plain_portable : (mode : Bool) (query text : List ℕ) (ts : List Token) (given : GivenFragments) → IsTokensIn (wide_reading mode) query ts →
    IsPortableInClient (lower_names ts) → (b : IsBoundFragments mode ts given text) →
    IsPortable (with_literal_tokens (with_literal_tokens ts b.expanded.lists) b.bound.literal_tokens)
plain_portable mode query text ts given is p b =
    let us = with_literal_tokens ts b.expanded.lists in
    record {
      alike = bound_portable mode b.query text us b.bound.literals b.bound.literal_tokens b.expanded.isolated (expanded_alike mode query b.query ts given is p b.expanded)
          b.bound.shapes b.bound.tokens_of_literals b.bound.text_is;
      apart = placeless_join_no_number mode _ b.bound.isolated.each
          (isolated_places mode text us b.bound.literals b.bound.literal_tokens b.bound.shapes b.bound.tokens_of_literals b.bound.text_is);
    }

left_portable : (mode : Bool) (text other : List ℕ) (us vs : List Token) → IsTokens mode text us → IsTokens mode other vs → AreLeft us vs → IsPortable us →
    OnTokens mode other IsPortableInClient → OnTokens mode text IsPortableInClient
left_portable mode text other us vs u v h p o =
    let q = subst IsPortableInClient (one_token_list mode other o.0 vs o.1 v) o.2 in
    (us, u, record { portable = p; no_opener = left_opener h q.no_opener; sent = left_sent h true true q.sent })

pub steady_portable : (query text : List ℕ) (ts : List Token) (given : GivenFragments) → IsTokensIn (wide_reading with_backslashes) query ts →
    IsPortableInClient (lower_names ts) → (b : IsSteadyFragments ts given text) →
    IsPortable (with_literal_tokens (with_literal_tokens ts b.expanded.lists) b.bound.literal_tokens)
steady_portable query text ts given is p b =
    portable_expanded (with_literal_tokens ts b.expanded.lists) (positional (all_values b.expanded.fragments)) b.query text b.isolated b.steady
    (expanded_alike with_backslashes query b.query ts given is p b.expanded) b.bound

fewer_bound : (asked : Literals) (query : List ℕ) (ts : List Token) (m n : FragmentMap) (text other : List ℕ) → IsTokensIn (wide_reading (mode_of asked)) query ts →
    IsPortableInClient (lower_names ts) → AreLessByName m n → IsBoundFor asked ts (named m) text →
    IsBoundFor asked ts (named n) other → OnTokens (mode_of asked) other IsPortableInClient → OnTokens (mode_of asked) text IsPortableInClient
fewer_bound literals.Steady query ts m n text other is p less x y o =
    left_portable with_backslashes text other _ _ (x.bound.isolated with_backslashes) (y.bound.isolated with_backslashes)
    (bound_left steady_literal_of with_backslashes ts m n x.query y.query x.expanded y.expanded x.bound.values y.bound.values x.bound.literals y.bound.literals x.bound.literal_tokens y.bound.literal_tokens less
    x.bound.looked_up x.bound.written (x.bound.tokens_of_literals with_backslashes) y.bound.looked_up y.bound.written (y.bound.tokens_of_literals with_backslashes))
    (steady_portable query text ts (named m) is p x) o
fewer_bound (literals.Plain mode) query ts m n text other is p less x y o =
    left_portable mode text other _ _ x.bound.isolated y.bound.isolated
    (bound_left (literal_of mode) mode ts m n x.query y.query x.expanded y.expanded x.bound.values y.bound.values x.bound.literals y.bound.literals x.bound.literal_tokens y.bound.literal_tokens less
    x.bound.looked_up x.bound.written x.bound.tokens_of_literals y.bound.looked_up y.bound.written y.bound.tokens_of_literals)
    (plain_portable mode query text ts (named m) is p x) o

pub fewer_portable : (asked : Literals) (query : List ℕ) (ts : List Token) (m n : FragmentMap) (text other : List ℕ) → IsTokensIn (wide_reading (mode_of asked)) query ts →
    IsPortableInClient (lower_names ts) → AreLessByName m n → IsAskedText asked ts (named m) text →
    IsAskedText asked ts (named n) other → OnTokens (mode_of asked) other IsPortableInClient → OnTokens (mode_of asked) text IsPortableInClient
fewer_portable asked query ts m n text other is p less x y o =
    fewer_bound asked query ts m n text other is p less (bound_for asked query text ts (named m) is x) (bound_for asked query other ts (named n) is y) o
