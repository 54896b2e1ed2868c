-- A query with fragments in its places is steady if and only if its pieces and the texts of its
-- fragments are. The promises about the text that is bound to it.
use Rattle.std.specs.Prelude.{Bool, Result, Ok, Err, IfOk, IfErr, ⊤}
use Rattle.std.specs.List.{list_all}
use Rattle.std.specs.Option.{is_some}
use Rattle.std.proofs.Common.{◌≡◌, ◌+◌, ℕ, true, false, List, [], ◌∷◌, map, length, Option, Some, None, arith, inl, inr, refl, sym, ap, ◌∙◌, subst, true≢false}
use Rattle.std.proofs.lemmas.Bool.{cases_Bool}
use Rattle.mysql_named_params.specs.Reading.{OnTokensIn, grammar_reading, reading_with}
use Rattle.mysql_named_params.specs.Tokens.{Token, IsTokens, OnTokens, bytes_of, text_of, Name, Mark}
use Rattle.mysql_named_params.specs.Places.{names, place_count}
use Rattle.mysql_named_params.proofs.ReadingLemmas.{one_reading, reading_exists, reading_text}
use Rattle.mysql_portable.specs.Portable.{IsPortable, AreReadAlikeBefore, IsReadAs}
use Rattle.mysql_portable.specs.Quiet.{DecidesWithin, IsHonest}
use Rattle.mysql_portable.specs.Server.{IsReadOn, Server}
use Rattle.mysql_portable.specs.Steady.{first_unsteady, is_steady, IsSteady}
use Rattle.mysql_portable.specs.declared.portable.Unportable.{Unportable}
use Rattle.mysql_portable.proofs.OtherModeLemmas.{all_parts}
use Rattle.mysql_portable.proofs.PlaceTextLemmas.{placeless_join_no_number}
use Rattle.mysql_portable.proofs.SteadyLemmas.{steady_other, steady_other_on, steady_seen}
use Rattle.mysql_params_core.specs.Given.{Given, positional}
use Rattle.mysql_binding.specs.Replaced.{with_literal_tokens}
use Rattle.mysql_binding.specs.StandsAlone.{first_not_alone}
use Rattle.mysql_binding.proofs.BoundText.{bound}
use Rattle.mysql_binding.proofs.CauseLemmas.{on_both, on_map}
use Rattle.mysql_binding.proofs.PieceLemmas.{joined_text_count, joined_text_is}
use Rattle.mysql_steady_text.specs.OnServers.{IsReadAnywhere}
use Rattle.mysql_steady_text.specs.SteadyText.{IsSteadyText}
use Rattle.mysql_steady_text.specs.SteadyLiteral.{steady_literal_of}
use Rattle.mysql_steady_text.specs.SteadyLiterals.{IsSteadyFor}
use Rattle.mysql_steady_text.proofs.SteadyTextLemmas.{is_steady_text, shapes_in}
use Rattle.mysql_steady_text.proofs.SteadySpliceLemmas.{steady_places, steady_portable, steady_on, steady_read, all_both}
use Rattle.mysql_steady_text.proofs.BothModesTextLemmas.{nothing_said}
use Rattle.mysql_steady_text.proofs.WideSteadyLemmas.{steady_reading}
use Rattle.mysql_fragments.specs.Expanded.{IsExpanded}
use Rattle.mysql_fragments.specs.FilledText.{ArePlaced, IsFilledQuery}
use Rattle.mysql_fragments.specs.FragmentText.{all_values, fragment_text, mark_number}
use Rattle.mysql_fragments.specs.GivenFragments.{GivenFragments, fragments_for}
use Rattle.mysql_fragments.specs.declared.fragment.Fragment.{Fragment}
use Rattle.mysql_fragments.proofs.CauseLemmas.{first_by}
use Rattle.mysql_fragments.proofs.ExpandedLemmas.{expanded_alone, expanded_shapes}
use Rattle.mysql_fragments.proofs.SplicedFragmentLemmas.{fragments_on, fragments_portable}
use Rattle.mysql_fragments.specs.SteadyFragments.{first_unsteady_from, unsteady_place, IsSteadyFragments, IsAnywhereFragments}
use Rattle.mysql_fragments.specs.SteadyFragmentsErrors.{IsFragmentsRefusal, IsSteadyRefusal}
use Rattle.mysql_fragments.specs.declared.steady_fragments_error.SteadyFragmentsError.{SteadyFragmentsError}
use Rattle.mysql_fragments.specs.declared.steady_fragments_error.SteadyFragmentsError.TheVariants.{Unsteady, Fragments, UnsteadyFragment}
use Rattle.mysql_fragments.specs.declared.steady_fragments_error.SteadyFragmentsError.TheVariants as error
use Rattle.mysql_steady_text.proofs.SteadyClientLemmas.{bound_alone}

-- ---- steady texts of fragments

unfoldable pub AllSteady : List (List ℕ) → Type 0
AllSteady [] = ⊤
AllSteady (text ∷ texts) = (list_all is_steady text ≡ true) × AllSteady texts

some_none : {A : Type 0} {x : A} → Some x ≡ None → ⊥
some_none e = cc

pub not_some : {A : Type 0} (o : Option A) → is_some o ≡ false → o ≡ None
not_some None e = refl
not_some (Some x) e = absurd (true≢false e)

pub texts_steady : (place : ℕ) (fragments : List Fragment) → first_unsteady_from place fragments ≡ None →
    AllSteady (map fragment_text fragments)
unfolding AllSteady
texts_steady place [] e = tt
texts_steady place (fragment ∷ fragments) e =
    elim (cases_Bool (list_all is_steady (fragment_text fragment))) [
      | inl h ↦ (h, texts_steady (place + 1) fragments (rw h at e))
      | inr h ↦ let none : Some place ≡ None = rw h at e in absurd (some_none none)
    ]

pub none_unsteady : (place : ℕ) (fragments : List Fragment) → AllSteady (map fragment_text fragments) →
    first_unsteady_from place fragments ≡ None
unfolding AllSteady
none_unsteady place [] s = refl
none_unsteady place (fragment ∷ fragments) s = rw s.0 (none_unsteady (place + 1) fragments s.1)

-- steady texts in the places of a steady query give a steady one,
pub bound_steady : (ts : List Token) (texts : List (List ℕ)) → list_all is_steady (text_of ts) ≡ true → AllSteady texts →
    list_all is_steady (bound ts texts) ≡ true
unfolding AllSteady
bound_steady [] texts h s = refl
bound_steady (Name name ∷ ts) [] h s =
    let p = all_parts is_steady (bytes_of (Name name)) (text_of ts) h in all_both (bytes_of (Name name)) (bound ts []) p.0 (bound_steady ts [] p.1 s)
bound_steady (Name name ∷ ts) (text ∷ texts) h s =
    all_both text (bound ts texts) s.0 (bound_steady ts texts ((all_parts is_steady (bytes_of (Name name)) (text_of ts) h).1) s.1)
bound_steady (Mark ∷ ts) [] h s =
    let p = all_parts is_steady (bytes_of Mark) (text_of ts) h in all_both (bytes_of Mark) (bound ts []) p.0 (bound_steady ts [] p.1 s)
bound_steady (Mark ∷ ts) (text ∷ texts) h s =
    all_both text (bound ts texts) s.0 (bound_steady ts texts ((all_parts is_steady (bytes_of Mark) (text_of ts) h).1) s.1)
bound_steady (t ∷ ts) texts h s =
    let p = all_parts is_steady (bytes_of t) (text_of ts) h in all_both (bytes_of t) (bound ts texts) p.0 (bound_steady ts texts p.1 s)

-- and only these do
pub bound_parts : (ts : List Token) (texts : List (List ℕ)) → length texts ≡ place_count ts → list_all is_steady (bound ts texts) ≡ true →
    AllSteady texts
unfolding AllSteady
bound_parts [] [] n h = tt
bound_parts [] (text ∷ texts) n h = absurd (omega arith)
bound_parts (Name name ∷ ts) [] n h = tt
bound_parts (Name name ∷ ts) (text ∷ texts) n h =
    let p = all_parts is_steady text (bound ts texts) h in (p.0, bound_parts ts texts (omega arith) p.1)
bound_parts (Mark ∷ ts) [] n h = tt
bound_parts (Mark ∷ ts) (text ∷ texts) n h =
    let p = all_parts is_steady text (bound ts texts) h in (p.0, bound_parts ts texts (omega arith) p.1)
bound_parts (t ∷ ts) texts n h = bound_parts ts texts n (all_parts is_steady (bytes_of t) (bound ts texts) h).1

-- ---- the text

is_steady_fragments : (ts : List Token) (given : GivenFragments) (expanded text : List ℕ) →
    (x : IsExpanded true false ts given expanded) → IsSteady expanded →
    IsSteadyText (with_literal_tokens ts x.lists) (positional (all_values x.fragments)) text → IsSteadyFragments ts given text
is_steady_fragments ts given expanded text x s b =
    let texts : List (List ℕ) = map fragment_text x.fragments in
    let is : expanded ≡ bound ts texts = joined_text_is ts texts expanded x.text_is in
    record {
      query = expanded;
      expanded = x;
      steady_fragments = none_unsteady 0 x.fragments (bound_parts ts texts (joined_text_count [] ts texts expanded x.text_is) (subst (λ z. list_all is_steady z ≡ true) is s));
      steady = s;
      isolated = λ mode. steady_other false mode expanded (with_literal_tokens ts x.lists) s x.isolated;
      bound = b;
    }

-- the text of a query whose expanded query is read alike
module _ (us : List Token) (given : Given) (query text : List ℕ) (is : (mode : Bool) → IsTokens mode query us) (steady : IsSteady query) (alike : AreReadAlikeBefore [] us) (b : IsSteadyText us given text) where
  alone : first_not_alone us ≡ None
  alone = bound_alone us given text b

  pub portable_expanded : IsPortable (with_literal_tokens us b.literal_tokens)
  portable_expanded = record {
    alike = steady_portable true text us b.literals b.literal_tokens alone (shapes_in b) (b.tokens_of_literals true) b.text_is query (is true) alike;
    apart = placeless_join_no_number true _ (b.isolated true).each (steady_places true text us b.literals b.literal_tokens alone (shapes_in b) (b.tokens_of_literals true) b.text_is);
  }

  -- servers read it by the query without the fragments, if they read the expanded query so
  pub expanded_on_servers : (own : List ℕ) (ts : List Token) (lists : List (List Token)) → IsSteady own → with_literal_tokens ts lists ≡ us →
      ((server : Server) (read : List Token) → IsHonest server → DecidesWithin server → IsReadOn server false own read →
      IsReadOn server false query (with_literal_tokens read lists)) →
      IsReadAnywhere own ts (λ read. with_literal_tokens (with_literal_tokens read lists) b.literal_tokens) text
  expanded_on_servers own ts lists s same on = record {
    read = λ server mode set vs honest v.
        subst (λ ws. IsReadAs (with_literal_tokens ws b.literal_tokens) vs) (sym same) (
        steady_read mode text us b.literals b.literal_tokens alone (shapes_in b) (b.tokens_of_literals mode) b.text_is query (is mode) alike
        server vs honest (subst (λ z. IsReadOn server mode z vs) (steady_seen set text b.steady) v)
        );
    tokens = λ server mode set read honest within u.
        subst (λ z. IsReadOn server mode z (with_literal_tokens (with_literal_tokens read lists) b.literal_tokens)) (sym (steady_seen set text b.steady)) (
        steady_on mode text us b.literals b.literal_tokens alone (shapes_in b) (b.tokens_of_literals mode) b.text_is query (is mode) alike
        server (with_literal_tokens read lists) honest within (
        steady_other_on server false mode query (with_literal_tokens read lists) steady (
        on server read honest within (steady_other_on server mode false own read s (subst (λ z. IsReadOn server mode z read) (steady_seen set own s) u))
        )
        )
        );
  }

module _ (query : List ℕ) (ts : List Token) (given : GivenFragments) (text : List ℕ) (is : IsTokens false query ts) (steady : IsSteady query) (p : IsPortable ts) (f : IsSteadyFragments ts given text) where
  abbrev expanded : List Token
  expanded = with_literal_tokens ts f.expanded.lists

  alike : AreReadAlikeBefore [] expanded
  alike =
      fragments_portable false f.query ts (map mark_number f.expanded.fragments) (map fragment_text f.expanded.fragments) f.expanded.lists (expanded_alone true false ts given f.query f.expanded)
      (expanded_shapes f.expanded) f.expanded.tokens_of_fragments f.expanded.text_is query is p.alike

  is_anywhere_fragments : IsAnywhereFragments ts given text
  is_anywhere_fragments = record {
    steady_text = f;
    portable = p;
    portable_text = portable_expanded expanded (positional (all_values f.expanded.fragments)) f.query text f.isolated f.steady alike f.bound;
  }

  pub anywhere_on_servers : IsReadAnywhere query ts (λ read. with_literal_tokens (with_literal_tokens read f.expanded.lists) f.bound.literal_tokens) text
  anywhere_on_servers =
      expanded_on_servers expanded (positional (all_values f.expanded.fragments)) f.query text f.isolated f.steady alike f.bound query ts f.expanded.lists steady refl
      (λ server read honest within u.
      fragments_on false f.query ts (map mark_number f.expanded.fragments) (map fragment_text f.expanded.fragments) f.expanded.lists (expanded_alone true false ts given f.query f.expanded)
      (expanded_shapes f.expanded) f.expanded.tokens_of_fragments f.expanded.text_is query is p.alike server read honest within u)

-- ---- as the calls promise it

module _ (wide : Bool) (query : List ℕ) (given : GivenFragments) (fragments : List Fragment) (s : IsSteady query)
    (p : OnTokensIn (reading_with wide false) query (λ ts. ArePlaced true ts given fragments)) where
  pub steady_fragments_on : (text : List ℕ) → None ≡ first_unsteady_from 0 fragments →
      OnTokensIn (reading_with wide false) query (λ ts. IsFilledQuery steady_literal_of IsSteadyFor false ts given text) →
      (mode : Bool) → OnTokensIn (reading_with wide mode) query (λ ts. IsSteadyFragments ts given text)
  steady_fragments_on text none o mode =
      let ts : List Token = o.0 in
      let f = o.2 in
      let x = f.expanded in
      let us : List Token = with_literal_tokens ts x.lists in
      let texts : List (List ℕ) = map fragment_text x.fragments in
      let looked : fragments_for given (names ts) ≡ Ok fragments = subst (λ us. fragments_for given (names us) ≡ Ok fragments) (one_reading (reading_with wide false) query p.0 ts p.1 o.1) p.2.given_to_places in
      let both : Ok x.fragments ≡ Ok fragments = sym x.given_to_places ∙ looked in
      let same : x.fragments ≡ fragments = cc in
      let all = texts_steady 0 x.fragments (ap (first_unsteady_from 0) same ∙ sym none) in
      let steady : list_all is_steady (bound ts texts) ≡ true = bound_steady ts texts (subst (λ z. list_all is_steady z ≡ true) (sym (reading_text (reading_with wide false) query ts o.1)) s) all in
      let expanded_steady : IsSteady f.query = subst (λ z. list_all is_steady z ≡ true) (sym (joined_text_is ts texts f.query x.text_is)) steady in (
        ts,
        steady_reading wide false mode query ts s o.1,
        is_steady_fragments ts given f.query text x expanded_steady
            (is_steady_text f.query us (positional (all_values x.fragments)) text (steady_other false true f.query us expanded_steady x.isolated) expanded_steady f.filled),
      )

  -- the first fragment that isn't steady
  pub place_told : (place : ℕ) → Some place ≡ first_unsteady_from 0 fragments →
      OnTokensIn (reading_with wide false) query (λ ts. IsFragmentsRefusal ts given (UnsteadyFragment place))
  place_told place e =
      (p.0, p.1, (first_by true p.0 given fragments None p.2.unmixed p.2.given_to_places p.2.no_later, ap unsteady_place p.2.given_to_places ∙ sym e))

-- a fact about the tokens of a steady query in one mode holds in each mode
pub in_either : (wide : Bool) (query : List ℕ) (P : List Token → Type 0) (mode other : Bool) → IsSteady query →
    OnTokensIn (reading_with wide mode) query P → OnTokensIn (reading_with wide other) query P
in_either wide query P mode other steady o = (o.0, steady_reading wide mode other query o.0 steady o.1, o.2)

-- a query has tokens
pub nothing_read : (wide mode : Bool) (query : List ℕ) → OnTokensIn (reading_with wide mode) query (λ ts. ⊤)
nothing_read wide mode query = let t = reading_exists (reading_with wide mode) query in (t.0, t.1, tt)

pub anywhere_fragments : {A E : Type 0} (items : A → List ℕ) (r : Result A E) (query : List ℕ) (given : GivenFragments) → IsSteady query →
    OnTokens false query IsPortable →
    ((mode : Bool) → OnTokens mode query (λ ts. IfOk r (λ text. IsSteadyFragments ts given (items text)))) →
    (mode : Bool) → OnTokens mode query (λ ts. IfOk r (λ text. IsAnywhereFragments ts given (items text)))
anywhere_fragments items (Ok text) query given steady p b mode =
    let o = on_both (grammar_reading false) query IsPortable (λ ts. IsSteadyFragments ts given (items text)) p (b false) in
    (o.0, steady_other false mode query o.0 steady o.1, is_anywhere_fragments query o.0 given (items text) o.1 steady o.2.0 o.2.1)
anywhere_fragments items (Err e) query given steady p b mode = nothing_said mode query

pub refused_fragments_answer : {A : Type 0} (wide : Bool) (r : Result A SteadyFragmentsError) (mode : Bool) (query : List ℕ) (given : GivenFragments)
    (unportable : List Token → Option Unportable) → first_unsteady query ≡ None → OnTokensIn (reading_with wide mode) query (λ ts. unportable ts ≡ None) →
    OnTokensIn (reading_with wide mode) query (λ ts. IfErr r (IsFragmentsRefusal ts given)) →
    OnTokensIn (reading_with wide mode) query (λ ts. IfErr r (IsSteadyRefusal query (unportable ts) ts given))
refused_fragments_answer wide (Ok text) mode query given unportable steady p b = nothing_read wide mode query
refused_fragments_answer wide (Err (Unsteady at)) mode query given unportable steady p b = absurd b.2
refused_fragments_answer wide (Err (error.Unportable found)) mode query given unportable steady p b = absurd b.2
refused_fragments_answer wide (Err (Fragments e)) mode query given unportable steady p b =
    on_map (reading_with wide mode) query (λ ts. (unportable ts ≡ None) × IsFragmentsRefusal ts given (Fragments e)) (λ ts. IsSteadyRefusal query (unportable ts) ts given (Fragments e))
    (λ ts is h. (steady, h.0, h.1))
    (on_both (reading_with wide mode) query (λ ts. unportable ts ≡ None) (λ ts. IsFragmentsRefusal ts given (Fragments e)) p b)
refused_fragments_answer wide (Err (UnsteadyFragment place)) mode query given unportable steady p b =
    on_map (reading_with wide mode) query (λ ts. (unportable ts ≡ None) × IsFragmentsRefusal ts given (UnsteadyFragment place)) (λ ts. IsSteadyRefusal query (unportable ts) ts given (UnsteadyFragment place))
    (λ ts is h. (steady, h.0, h.1))
    (on_both (reading_with wide mode) query (λ ts. unportable ts ≡ None) (λ ts. IsFragmentsRefusal ts given (UnsteadyFragment place)) p b)
