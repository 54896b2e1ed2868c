-- A query has one text for the same parameters, in each form of literals.
use Rattle.std.specs.Prelude.{Bool, List, [], ◌∷◌, ℕ, Option, Some, Ok, Result, map}
use Rattle.std.proofs.Common.{◌≡◌, ◌∙◌, ap, refl, sym}
use Rattle.mysql_values.specs.declared.value.Value.{Value}
use Rattle.mysql_named_params.specs.Tokens.{Token}
use Rattle.mysql_named_params.specs.Places.{names}
use Rattle.mysql_params_core.specs.Given.{Given}
use Rattle.mysql_params_core.specs.Lookup.{LookupRefusal, lookup}
use Rattle.mysql_binding.specs.Pieces.{joined_text, pieces}
use Rattle.mysql_steady_text.specs.BothModesText.{IsTextInBothModes}
use Rattle.mysql_steady_text.specs.GuardedLiteral.{guarded_literal_of}
use Rattle.mysql_steady_text.specs.GuardedText.{IsGuardedText}
use Rattle.mysql_steady_text.specs.SteadyLiteral.{steady_literal_of}
use Rattle.mysql_steady_text.specs.SteadyText.{IsSteadyText}

-- texts that are the literals of the same values are the same
same_texts : (xs ys : List (List ℕ)) → map (λ x. Some x) xs ≡ map (λ y. Some y) ys → xs ≡ ys
same_texts [] [] e = refl
same_texts [] (y ∷ ys) e = cc
same_texts (x ∷ xs) [] e = cc
same_texts (x ∷ xs) (y ∷ ys) e =
    let rest : map (λ x. Some x) xs ≡ map (λ y. Some y) ys = cc in
    let more : xs ≡ ys = same_texts xs ys rest in
    let one : x ≡ y = cc in
    cc

module _ (literal : Value → Option (List ℕ)) (ts : List Token) (given : Given) (a b : List ℕ) (vs ws : List Value) (xs ys : List (List ℕ)) where
  pub one_text : lookup given (names ts) ≡ Ok vs → lookup given (names ts) ≡ Ok ws → map literal vs ≡ map Some xs → map literal ws ≡ map Some ys →
      joined_text (pieces ts) xs ≡ Some a → joined_text (pieces ts) ys ≡ Some b → a ≡ b
  one_text found found_too written written_too is is_too =
      let same : ◌≡◌ {A = Result (List Value) LookupRefusal} (Ok vs) (Ok ws) = sym found ∙ found_too in
      let values : vs ≡ ws = cc in
      let literals : xs ≡ ys = same_texts xs ys (sym written ∙ (ap (map literal) values ∙ written_too)) in
      let texts : Some a ≡ Some b = sym is ∙ (ap (joined_text (pieces ts)) literals ∙ is_too) in
      cc

pub one_steady_text : (ts : List Token) (given : Given) (a b : List ℕ) → IsSteadyText ts given a → IsSteadyText ts given b → a ≡ b
one_steady_text ts given a b x y =
    one_text steady_literal_of ts given a b x.values y.values x.literals y.literals x.looked_up y.looked_up x.written y.written x.text_is y.text_is

pub one_text_in_both_modes : (ts : List Token) (given : Given) (a b : List ℕ) → IsTextInBothModes ts given a → IsTextInBothModes ts given b → a ≡ b
one_text_in_both_modes ts given a b x y =
    one_text steady_literal_of ts given a b x.values y.values x.literals y.literals x.looked_up y.looked_up x.written y.written x.text_is y.text_is

pub one_guarded_text : (mode : Bool) (ts : List Token) (given : Given) (a b : List ℕ) → IsGuardedText mode ts given a → IsGuardedText mode ts given b → a ≡ b
one_guarded_text mode ts given a b x y =
    one_text (guarded_literal_of mode) ts given a b x.values y.values x.literals y.literals x.looked_up y.looked_up x.written y.written x.text_is y.text_is
