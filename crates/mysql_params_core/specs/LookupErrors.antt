-- The error of a lookup: the refusal that it reports, and when two are equal.
use Rattle.std.specs.Prelude.{◌≡◌, Option, None, Some, ⊤}
use Rattle.mysql_params_core.specs.LookupValues.{LookupRefusal, missing, confused}
use Rattle.mysql_params_core.specs.declared.params.errors.ParamsError.{ParamsError}
use Rattle.mysql_params_core.specs.declared.params.errors.ParamsError.TheVariants.{Missing, Confusion, Memory}

-- the refusal of a lookup that the error reports; none for out of memory
abbrev pub lookup_refusal : ParamsError → Option LookupRefusal
lookup_refusal (Missing error) = Some (missing error.0.items)
lookup_refusal (Confusion confusion) = Some (confused confusion)
lookup_refusal (Memory error) = None

-- the error reports a missing name
abbrev pub IsMissing : ParamsError → Type 0
IsMissing (Missing error) = ⊤
IsMissing _ = ⊥

-- the same variant, and the same name or confusion
abbrev pub AreEqualParamsErrors : ParamsError → ParamsError → Type 0
AreEqualParamsErrors (Missing a) (Missing b) = a.0.items ≡ b.0.items
AreEqualParamsErrors (Confusion a) (Confusion b) = a ≡ b
AreEqualParamsErrors (Memory a) (Memory b) = ⊤
AreEqualParamsErrors _ _ = ⊥
