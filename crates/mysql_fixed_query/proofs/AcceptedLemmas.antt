-- A query that isn't refused for a purpose, and its text, in each mode of the purpose.
use Rattle.std.specs.Prelude.{Bool, true, false, Result, IfOk}
use Rattle.std.proofs.Common.{◌≡◌, ℕ, List, None, subst}
use Rattle.mysql_named_params.specs.Reading.{IsTokensWith, OnTokensIn, reading_with}
use Rattle.mysql_named_params.specs.Tokens.{Token}
use Rattle.mysql_portable.proofs.SteadyLemmas.{none_unsteady}
use Rattle.mysql_params_core.specs.Given.{Given}
use Rattle.mysql_binding.proofs.CauseLemmas.{map_none, or_none}
use Rattle.mysql_steady_text.specs.Purposes.{mode_in, query_refusal, reading_for, scope_refusal}
use Rattle.mysql_steady_text.specs.declared.purpose.Purpose.{Purpose}
use Rattle.mysql_steady_text.specs.declared.purpose.Scope.{Scope}
use Rattle.mysql_steady_text.specs.declared.purpose.Scope.TheVariants.{OneMode, EitherMode, AnyConnection}
use Rattle.mysql_steady_text.proofs.BackslashLemmas.{hold_no_escapes}
use Rattle.mysql_steady_text.proofs.BothModesAnswerLemmas.{in_each_mode}
use Rattle.mysql_steady_text.proofs.PurposeLemmas.{steady_agree}
use Rattle.mysql_steady_text.proofs.WideBothModesLemmas.{agree_of_wide, in_each_reading, in_each_wide}
use Rattle.mysql_bind_call.specs.Accepted.{IsAccepted, OnQuery}
use Rattle.mysql_bind_call.specs.BoundTexts.{IsValuesText}
use Rattle.mysql_bind_call.proofs.ResultLemmas.{ok_to}
use Rattle.mysql_fixed_query.specs.Bindable.{IsAcceptedFor, tokens_for, tokens_in}
use Rattle.mysql_fixed_query.proofs.TokensLemmas.{at_tokens, tokens_in_right}

-- a fact about the tokens of a query that the scope doesn't refuse, in each of its modes
in_each : (wide : Bool) (scope : Scope) (query : List ℕ) (P : List Token → Type 0) (ts : List Token) →
    IsTokensWith wide (mode_in scope true) query ts → scope_refusal scope query ts ≡ None → P ts →
    (mode : Bool) → OnTokensIn (reading_with wide (mode_in scope mode)) query P
in_each wide (OneMode own) query P ts is e holds mode = (ts, is, holds)
in_each false EitherMode query P ts is e holds mode =
    in_each_mode query P (ts, is, hold_no_escapes ts 0 (map_none _ _ e)) (ts, is, holds) mode
in_each true EitherMode query P ts is e holds mode =
    in_each_wide query P (agree_of_wide query ts is (map_none _ _ e)) (ts, is, holds) mode
in_each wide AnyConnection query P ts is e holds mode =
    in_each_reading wide query P (steady_agree query ((none_unsteady query).0 (map_none _ _ e))) (ts, is, holds) mode

pub accepted_in_each_mode : (purpose : Purpose) (query : List ℕ) → IsAcceptedFor purpose query → IsAccepted purpose query
accepted_in_each_mode purpose query accepted =
    in_each purpose.wide_names purpose.scope query (λ ts. query_refusal purpose query ts ≡ None)
    (tokens_for purpose query) (tokens_in_right (reading_for purpose true) query) (or_none _ _ accepted).0 accepted

-- a fact about the tokens of a query for a purpose of this scope
pub on_tokens : (purpose : Purpose) (scope : Scope) (query : List ℕ) (P : List Token → Type 0) →
    purpose.scope ≡ scope → P (tokens_for purpose query) →
    OnTokensIn (reading_with purpose.wide_names (mode_in scope true)) query P
on_tokens purpose scope query P e holds =
    subst (λ s. OnTokensIn (reading_with purpose.wide_names (mode_in s true)) query P) e
    (tokens_for purpose query, tokens_in_right (reading_for purpose true) query, holds)

-- the text, for the tokens that are computed in each mode
pub each_text : {A E : Type 0} (items : A → List ℕ) (r : Result A E) (purpose : Purpose) (query : List ℕ) (g : Given) →
    IfOk r (λ text. OnQuery purpose query (λ ts. IsValuesText purpose.scope ts g (items text))) → (mode : Bool) →
    IfOk r (λ text. IsValuesText purpose.scope (tokens_in (reading_for purpose mode) query) g (items text))
each_text items r purpose query g bound mode =
    ok_to _ _ r (λ text o. at_tokens (reading_for purpose mode) query (λ ts. IsValuesText purpose.scope ts g (items text)) (o mode)) bound
