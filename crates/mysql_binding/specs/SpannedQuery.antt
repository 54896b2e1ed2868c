-- Contracts about a query whose places are given by plain numbers.
use Rattle.std.specs.Prelude.{◌≡◌, List, ℕ, take, Some, Err}
use Rattle.mysql_named_params.specs.declared.places.Reading.{Reading}
use Rattle.mysql_params_core.specs.GivenValues.{Given}
use Rattle.mysql_params_core.specs.LookupValues.{LookupRefusal, lookup}
use Rattle.mysql_binding.specs.BindErrors.{cause_of}
use Rattle.mysql_binding.specs.FirstCause.{refused_params}
use Rattle.mysql_binding.specs.PlaceSpans.{AreSpansOf, names_at}
use Rattle.mysql_binding.specs.declared.bind_error.BindError.{BindError}
use Rattle.mysql_binding.specs.declared.binding.spanned.SpannedQuery.{SpannedQuery}

-- the survey and the spans are those of the query in the reading
abbrev pub HasOwnSpans : SpannedQuery → Reading → Type 0
HasOwnSpans spanned reading =
    AreSpansOf spanned.survey spanned.spans.now reading spanned.query.now

-- the bytes of the first places, as many as the survey has names, each without its first byte
abbrev pub spanned_names : SpannedQuery → List (List ℕ)
spanned_names spanned = names_at (take spanned.survey.names spanned.spans.now) spanned.query.now

-- if the error refuses the parameters, it does so for these names
abbrev pub RefusesNames : SpannedQuery → Given → BindError → Type 0
RefusesNames spanned given error = (refusal : LookupRefusal) →
    cause_of error ≡ Some (refused_params refusal) →
    lookup given (spanned_names spanned) ≡ Err refusal
