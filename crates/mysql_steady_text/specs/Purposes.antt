-- Why a query has no text for a purpose with any parameters.
use Rattle.std.specs.Prelude.{ℕ, Bool, List, Option, None, option_map}
use Rattle.std.specs.Option.{option_or}
use Rattle.mysql_named_params.specs.LoweredNames.{lower_names}
use Rattle.mysql_named_params.specs.Reading.{reading_with}
use Rattle.mysql_named_params.specs.Tokens.{Token}
use Rattle.mysql_named_params.specs.declared.places.Reading.{Reading}
use Rattle.mysql_portable.specs.FirstUnportable.{first_unportable}
use Rattle.mysql_portable.specs.FirstUnportableInClient.{first_unportable_in_client}
use Rattle.mysql_portable.specs.Steady.{first_unsteady}
use Rattle.mysql_portable.specs.declared.portable.Unportable.{Unportable}
use Rattle.mysql_steady_text.specs.FirstBackslash.{first_backslash}
use Rattle.mysql_steady_text.specs.declared.purpose.Portability.{Portability}
use Rattle.mysql_steady_text.specs.declared.purpose.Portability.TheVariants.{Any, Servers, Clients}
use Rattle.mysql_steady_text.specs.declared.purpose.Purpose.{Purpose}
use Rattle.mysql_steady_text.specs.declared.purpose.QueryRefusal.{QueryRefusal}
use Rattle.mysql_steady_text.specs.declared.purpose.QueryRefusal.TheVariants as refusal
use Rattle.mysql_steady_text.specs.declared.purpose.Scope.{Scope}
use Rattle.mysql_steady_text.specs.declared.purpose.Scope.TheVariants.{OneMode, EitherMode, AnyConnection}

-- the mode in which a query is read: the scope's own, or else this one, which may be either
abbrev pub mode_in : Scope → Bool → Bool
mode_in (OneMode own) mode = own
mode_in EitherMode mode = mode
mode_in AnyConnection mode = mode

-- the reading of a query for a purpose; it may be in either mode, except for one mode
abbrev pub reading_for : Purpose → Bool → Reading
reading_for purpose mode = reading_with purpose.wide_names (mode_in purpose.scope mode)

-- the refusal of a query that some connections of the scope read in their own ways
abbrev pub scope_refusal : Scope → List ℕ → List Token → Option QueryRefusal
scope_refusal (OneMode own) query ts = None
scope_refusal EitherMode query ts = option_map refusal.Backslash (first_backslash ts)
scope_refusal AnyConnection query ts = option_map refusal.Unsteady (first_unsteady query)

-- The first construct that some programs read in their own ways. A query with wide names is judged
-- with its names in lower case; those of the grammar have no capitals.
abbrev pub first_construct : Portability → List Token → Option Unportable
first_construct Any ts = None
first_construct Servers ts = first_unportable (lower_names ts)
first_construct Clients ts = first_unportable_in_client (lower_names ts)

-- the refusal of a query with these tokens: that of its connections, or else the first construct
abbrev pub query_refusal : Purpose → List ℕ → List Token → Option QueryRefusal
query_refusal purpose query ts =
    option_or (scope_refusal purpose.scope query ts)
    (option_map refusal.Unportable (first_construct purpose.portability ts))
