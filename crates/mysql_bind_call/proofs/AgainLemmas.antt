-- A text that is bound is bound again, and by position, as it was: from the promise of the text.
use Rattle.std.specs.Prelude.{Bool, Result, Ok, Err, IfOk}
use Rattle.std.proofs.Common.{ℕ, List}
use Rattle.mysql_named_params.specs.Tokens.{Token}
use Rattle.mysql_named_params.specs.Reading.{IsTokensIn, OnTokensIn, reading_with}
use Rattle.mysql_params_core.specs.Given.{Given}
use Rattle.mysql_binding.specs.BoundAgain.{IsSameBoundAgain, IsSameByPosition}
use Rattle.mysql_binding.specs.Isolation.{IsBoundText}
use Rattle.mysql_binding.proofs.BoundAgainLemmas.{same_bound_again, same_by_position}
use Rattle.mysql_steady_text.specs.BothModesText.{IsBoundAgainInBothModes, IsByPositionInBothModes, IsTextInBothModes}
use Rattle.mysql_steady_text.specs.SteadyAgain.{IsSteadyBoundAgain, IsSteadyByPosition}
use Rattle.mysql_steady_text.specs.SteadyText.{IsSteadyText}
use Rattle.mysql_steady_text.proofs.BothModesAgainLemmas as both
use Rattle.mysql_steady_text.proofs.SteadyAgainLemmas as steady

module _ (wide mode : Bool) (query : List ℕ) (given : Given) where
  module _ (text : List ℕ) where
    pub mode_again : OnTokensIn (reading_with wide mode) query (λ ts. IsBoundText mode ts given text) → IsSameBoundAgain mode text
    mode_again o = same_bound_again (reading_with wide mode) query text given o

    pub mode_positioned : OnTokensIn (reading_with wide mode) query (λ ts. IsBoundText mode ts given text) →
        OnTokensIn (reading_with wide mode) query (λ ts. IsSameByPosition mode ts given text)
    mode_positioned o = same_by_position (reading_with wide mode) query text given o

  -- of results
  module _ {A E : Type 0} (items : A → List ℕ) where
    pub mode_all_again : (r : Result A E) → OnTokensIn (reading_with wide mode) query (λ ts. IfOk r (λ text. IsBoundText mode ts given (items text))) →
        IfOk r (λ text. IsSameBoundAgain mode (items text))
    mode_all_again (Ok text) o = mode_again (items text) o
    mode_all_again (Err e) o = tt

    pub mode_all_positioned : (r : Result A E) → OnTokensIn (reading_with wide mode) query (λ ts. IfOk r (λ text. IsBoundText mode ts given (items text))) →
        OnTokensIn (reading_with wide mode) query (λ ts. IfOk r (λ text. IsSameByPosition mode ts given (items text)))
    mode_all_positioned (Ok text) o = mode_positioned (items text) o
    mode_all_positioned (Err e) o = o

    module _ (P : List Token → A → Type 0) (of : (ts : List Token) (text : A) → P ts text → IsSteadyText ts given (items text)) where
      pub steady_again : (r : Result A E) → OnTokensIn (reading_with wide mode) query (λ ts. IfOk r (P ts)) →
          IfOk r (λ text. IsSteadyBoundAgain (items text))
      steady_again (Ok text) o = steady.again_of o.0 given (items text) (of o.0 text o.2)
      steady_again (Err e) o = tt

      pub steady_positioned : (r : Result A E) → OnTokensIn (reading_with wide mode) query (λ ts. IfOk r (P ts)) →
          OnTokensIn (reading_with wide mode) query (λ ts. IfOk r (λ text. IsSteadyByPosition mode ts given (items text)))
      steady_positioned (Ok text) o = (o.0, o.1, steady.positioned_of (reading_with wide mode) query o.0 given (items text) o.1 (of o.0 text o.2))
      steady_positioned (Err e) o = o

    module _ (P : List Token → A → Type 0) (of : (ts : List Token) (text : A) → P ts text → IsTextInBothModes ts given (items text)) where
      pub both_again : (r : Result A E) → OnTokensIn (reading_with wide mode) query (λ ts. IfOk r (P ts)) →
          IfOk r (λ text. IsBoundAgainInBothModes (items text))
      both_again (Ok text) o = both.again_of o.0 given (items text) (of o.0 text o.2)
      both_again (Err e) o = tt

      pub both_positioned : (r : Result A E) → OnTokensIn (reading_with wide mode) query (λ ts. IfOk r (P ts)) →
          OnTokensIn (reading_with wide mode) query (λ ts. IfOk r (λ text. IsByPositionInBothModes mode ts given (items text)))
      both_positioned (Ok text) o = (o.0, o.1, both.positioned_of (reading_with wide mode) query o.0 given (items text) o.1 (of o.0 text o.2))
      both_positioned (Err e) o = o

pub steady_text_positioned : (wide mode : Bool) (query : List ℕ) (given : Given) (text : List ℕ) (ts : List Token) → IsTokensIn (reading_with wide mode) query ts →
    IsSteadyText ts given text → IsSteadyByPosition mode ts given text
steady_text_positioned wide mode query given text ts is t = steady.positioned_of (reading_with wide mode) query ts given text is t

pub both_text_positioned : (wide mode : Bool) (query : List ℕ) (given : Given) (text : List ℕ) (ts : List Token) → IsTokensIn (reading_with wide mode) query ts →
    IsTextInBothModes ts given text → IsByPositionInBothModes mode ts given text
both_text_positioned wide mode query given text ts is t = both.positioned_of (reading_with wide mode) query ts given text is t
