-- Facts about a steady text, because it is a text for both modes: no place is left in it, bound
-- again it stays as it is, bound by position it is the same, and equal texts have the same
-- contents.
use Rattle.std.specs.Prelude.{Bool, Result, Ok, Err, IfOk}
use Rattle.std.proofs.Common.{◌≡◌, ℕ, List, map}
use Rattle.mysql_values.specs.Content.{content_of}
use Rattle.mysql_named_params.specs.Tokens.{Token, IsTokens, OnTokens}
use Rattle.mysql_named_params.specs.Places.{with_marks, place_count}
use Rattle.mysql_named_params.specs.Reading.{IsTokensIn, grammar_reading}
use Rattle.mysql_named_params.specs.declared.places.Reading.{Reading}
use Rattle.mysql_params_core.specs.Given.{Given, empty, positional}
use Rattle.mysql_steady_text.specs.SteadyAgain.{IsSteadyBoundAgain, IsSteadyByPosition}
use Rattle.mysql_steady_text.specs.SteadyText.{IsSteadyText}
use Rattle.mysql_steady_text.proofs.BothModesAgainLemmas as both
use Rattle.mysql_steady_text.proofs.SteadyTextLemmas.{both_of, steady_of}

-- ---- the laws

pub no_place_is_left : (mode : Bool) (ts us : List Token) (given : Given) (text : List ℕ) →
    IsSteadyText ts given text → IsTokens mode text us → place_count us ≡ 0
no_place_is_left mode ts us given text t is = both.no_place_is_left mode ts us given text (both_of ts given text t) is

pub bound_again_is_the_same : (mode : Bool) (ts us : List Token) (given : Given) (text : List ℕ) →
    IsSteadyText ts given text → IsTokens mode text us → IsSteadyText us empty text
bound_again_is_the_same mode ts us given text t is =
    steady_of us empty text (both.bound_again_is_the_same mode ts us given text (both_of ts given text t) is) t.steady

pub by_position_is_the_same : (reading : Reading) (query text : List ℕ) (ts : List Token) (given : Given) → IsTokensIn reading query ts →
    (t : IsSteadyText ts given text) → IsSteadyText (with_marks ts) (positional t.values) text
by_position_is_the_same reading query text ts given is t =
    steady_of (with_marks ts) (positional t.values) text (both.by_position_is_the_same reading query text ts given is (both_of ts given text t)) t.steady

pub equal_texts_say_the_same : (mode : Bool) (query text : List ℕ) (ts us : List Token) (a b : Given) →
    IsTokens mode query ts → IsTokens mode query us → (x : IsSteadyText ts a text) → (y : IsSteadyText us b text) →
    map content_of x.values ≡ map content_of y.values
equal_texts_say_the_same mode query text ts us a b is is' x y =
    both.equal_texts_say_the_same mode query text ts us a b is is' (both_of ts a text x) (both_of us b text y)

-- ---- as the calls promise it

pub again_of : (ts : List Token) (given : Given) (text : List ℕ) → IsSteadyText ts given text → IsSteadyBoundAgain text
again_of ts given text t mode =
    let o = both.again_of ts given text (both_of ts given text t) mode in
    (o.0, o.1, (o.2.0, steady_of o.0 empty text o.2.1 t.steady))

pub positioned_of : (reading : Reading) (query : List ℕ) (ts : List Token) (given : Given) (text : List ℕ) → IsTokensIn reading query ts →
    IsSteadyText ts given text → IsSteadyByPosition reading.no_backslash_escape ts given text
positioned_of reading query ts given text is t =
    let o = both.positioned_of reading query ts given text is (both_of ts given text t) in
    (o.0, o.1, (o.2.0, o.2.1, steady_of o.2.0 (positional o.0) text o.2.2 t.steady))

module _ {A E : Type 0} (items : A → List ℕ) (query : List ℕ) (given : Given) where
  pub answer_bound_again : (mode : Bool) (r : Result A E) → OnTokens mode query (λ ts. IfOk r (λ text. IsSteadyText ts given (items text))) →
      IfOk r (λ text. IsSteadyBoundAgain (items text))
  answer_bound_again mode (Ok text) o = again_of o.0 given (items text) o.2
  answer_bound_again mode (Err e) o = tt

  pub answer_by_position : (mode : Bool) (r : Result A E) → OnTokens mode query (λ ts. IfOk r (λ text. IsSteadyText ts given (items text))) →
      OnTokens mode query (λ ts. IfOk r (λ text. IsSteadyByPosition mode ts given (items text)))
  answer_by_position mode (Ok text) o = (o.0, o.1, positioned_of (grammar_reading mode) query o.0 given (items text) o.1 o.2)
  answer_by_position mode (Err e) o = o
