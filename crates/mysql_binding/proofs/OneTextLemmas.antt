-- A query has one text for the same parameters.
use Rattle.std.specs.Prelude.{Bool, List, [], ◌∷◌, ℕ, Some, Ok, Result, map}
use Rattle.std.proofs.Common.{◌≡◌, ◌∙◌, ap, refl, subst, sym}
use Rattle.mysql_values.specs.declared.value.Value.{Value}
use Rattle.mysql_values.specs.Literal.{literal_of}
use Rattle.mysql_named_params.specs.Tokens.{Token}
use Rattle.mysql_named_params.specs.Places.{names}
use Rattle.mysql_named_params.specs.WideNames.{HasNoCapitals, widened}
use Rattle.mysql_named_params.proofs.WideLemmas.{no_capitals}
use Rattle.mysql_params_core.specs.Given.{Given}
use Rattle.mysql_params_core.specs.Lookup.{LookupRefusal, lookup}
use Rattle.mysql_binding.specs.FirstCause.{first_cause}
use Rattle.mysql_binding.specs.Isolation.{IsBoundText}
use Rattle.mysql_binding.specs.Pieces.{joined_text, pieces}

some_same : {A : Type 0} (xs ys : List A) → map (λ x. Some x) xs ≡ map (λ y. Some y) ys → xs ≡ ys
some_same [] [] e = refl
some_same [] (y ∷ ys) e = cc
some_same (x ∷ xs) [] e = cc
some_same (x ∷ xs) (y ∷ ys) e =
    let rest : map (λ x. Some x) xs ≡ map (λ y. Some y) ys = cc in
    let more : xs ≡ ys = some_same xs ys rest in
    let one : x ≡ y = cc in
    cc

pub one_bound_text : (mode : Bool) (ts : List Token) (given : Given) (a b : List ℕ) →
    IsBoundText mode ts given a → IsBoundText mode ts given b → a ≡ b
one_bound_text mode ts given a b x y =
    let found : ◌≡◌ {A = Result (List Value) LookupRefusal} (Ok x.values) (Ok y.values) = sym x.looked_up ∙ y.looked_up in
    let values : x.values ≡ y.values = cc in
    let literals : x.literals ≡ y.literals = some_same x.literals y.literals (sym x.written ∙ (ap (map (literal_of mode)) values ∙ y.written)) in
    let texts : Some a ≡ Some b = sym x.text_is ∙ (ap (joined_text (pieces ts)) literals ∙ y.text_is) in
    cc

pub same_cause : (ts : List Token) (given : Given) → HasNoCapitals ts → first_cause (widened ts) given ≡ first_cause ts given
same_cause ts given none = ap (λ us. first_cause us given) (no_capitals ts none)

pub same_text : (mode : Bool) (ts : List Token) (given : Given) (a b : List ℕ) → HasNoCapitals ts →
    IsBoundText mode ts given a → IsBoundText mode (widened ts) given b → a ≡ b
same_text mode ts given a b none x y =
    one_bound_text mode ts given a b x (subst (λ us. IsBoundText mode us given b) (no_capitals ts none) y)
