-- A query with fragments has one text for the same fragments, in each form of literals.
use Rattle.std.specs.Prelude.{Bool, List, [], ◌∷◌, ℕ, Ok, map, ⊤}
use Rattle.std.proofs.Common.{◌≡◌, ◌∙◌, true, ap, refl, subst, sym}
use Rattle.mysql_sql_text.specs.StringUnits.{with_backslashes}
use Rattle.mysql_named_params.specs.Tokens.{Token}
use Rattle.mysql_named_params.specs.Places.{names}
use Rattle.mysql_named_params.proofs.TokenListLemmas.{one_token_list}
use Rattle.mysql_params_core.specs.Given.{Given, positional}
use Rattle.mysql_binding.specs.Isolation.{IsBoundText}
use Rattle.mysql_binding.specs.Replaced.{AreTokensOf, with_literal_tokens}
use Rattle.mysql_binding.proofs.OneTextLemmas.{one_bound_text}
use Rattle.mysql_steady_text.specs.GuardedText.{IsGuardedText}
use Rattle.mysql_steady_text.specs.SteadyText.{IsSteadyText}
use Rattle.mysql_steady_text.proofs.OneTextLemmas.{one_guarded_text, one_steady_text}
use Rattle.mysql_fragments.specs.Expanded.{IsBoundFragments, IsExpanded}
use Rattle.mysql_fragments.specs.FragmentText.{all_values, fragment_text}
use Rattle.mysql_fragments.specs.GivenFragments.{GivenFragments, PlaceFragments, fragments_for}
use Rattle.mysql_fragments.specs.GuardedFragments.{IsGuardedFragments}
use Rattle.mysql_fragments.specs.SteadyFragments.{IsSteadyFragments}
use Rattle.mysql_fragments.specs.declared.fragment.Fragment.{Fragment}

-- each text has one list of tokens
same_lists : (mode : Bool) (texts : List (List ℕ)) (xs ys : List (List Token)) → AreTokensOf mode texts xs → AreTokensOf mode texts ys → xs ≡ ys
same_lists mode [] [] [] a b = refl
same_lists mode [] [] (y ∷ ys) a b = absurd b
same_lists mode [] (x ∷ xs) ys a b = absurd a
same_lists mode (text ∷ texts) [] ys a b = absurd a
same_lists mode (text ∷ texts) (x ∷ xs) [] a b = absurd b
same_lists mode (text ∷ texts) (x ∷ xs) (y ∷ ys) a b =
    let first : x ≡ y = one_token_list mode text x y a.0 b.0 in
    let more : xs ≡ ys = same_lists mode texts xs ys a.1 b.1 in
    λ i. first i ∷ more i

-- the tokens of the expanded query, and the values for its marks
abbrev tokens_of : (mode : Bool) (ts : List Token) (given : GivenFragments) (query : List ℕ) → IsExpanded true mode ts given query → List Token
tokens_of mode ts given query x = with_literal_tokens ts x.lists

abbrev values_of : (mode : Bool) (ts : List Token) (given : GivenFragments) (query : List ℕ) → IsExpanded true mode ts given query → Given
values_of mode ts given query x = positional (all_values x.fragments)

module _ (mode : Bool) (ts : List Token) (given : GivenFragments) (query other : List ℕ) (x : IsExpanded true mode ts given query) (y : IsExpanded true mode ts given other) where
  same_fragments : x.fragments ≡ y.fragments
  same_fragments =
      let same : ◌≡◌ {A = PlaceFragments} (Ok x.fragments) (Ok y.fragments) = sym x.given_to_places ∙ y.given_to_places in
      cc

  same_tokens : tokens_of mode ts given query x ≡ tokens_of mode ts given other y
  same_tokens =
      ap (with_literal_tokens ts) (same_lists mode (map fragment_text y.fragments) x.lists y.lists
      (subst (λ z. AreTokensOf mode (map fragment_text z) x.lists) same_fragments x.tokens_of_fragments) y.tokens_of_fragments)

  same_values : values_of mode ts given query x ≡ values_of mode ts given other y
  same_values = ap (λ z. positional (all_values z)) same_fragments

  -- a text that the tokens and the values have is that of both
  pub moved : (IsText : List Token → Given → List ℕ → Type 0) (text : List ℕ) →
      IsText (tokens_of mode ts given query x) (values_of mode ts given query x) text → IsText (tokens_of mode ts given other y) (values_of mode ts given other y) text
  moved IsText text t =
      subst (λ v. IsText (tokens_of mode ts given other y) v text) same_values (subst (λ us. IsText us (values_of mode ts given query x) text) same_tokens t)

pub one_bound_fragments : (mode : Bool) (ts : List Token) (given : GivenFragments) (a b : List ℕ) → IsBoundFragments mode ts given a → IsBoundFragments mode ts given b → a ≡ b
one_bound_fragments mode ts given a b x y =
    one_bound_text mode _ _ a b (moved mode ts given x.query y.query x.expanded y.expanded (IsBoundText mode) a x.bound) y.bound

pub one_steady_fragments : (ts : List Token) (given : GivenFragments) (a b : List ℕ) → IsSteadyFragments ts given a → IsSteadyFragments ts given b → a ≡ b
one_steady_fragments ts given a b x y =
    one_steady_text _ _ a b (moved with_backslashes ts given x.query y.query x.expanded y.expanded IsSteadyText a x.bound) y.bound

pub one_guarded_fragments : (mode : Bool) (ts : List Token) (given : GivenFragments) (a b : List ℕ) → IsGuardedFragments mode ts given a → IsGuardedFragments mode ts given b → a ≡ b
one_guarded_fragments mode ts given a b x y =
    one_guarded_text mode _ _ a b (moved with_backslashes ts given x.query y.query x.expanded y.expanded (IsGuardedText mode) a x.bound) y.bound
