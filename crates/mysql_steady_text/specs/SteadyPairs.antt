-- The cause of each error of binding borrowed pairs to a steady text, or to one for both modes.
use Rattle.std.specs.Prelude.{◌≡◌, ◌<◌, ◌⊎◌, ℕ, Bool, List, Option, alloc_error, length}
use Rattle.std.specs.Borrow.{Bor}
use Rattle.mysql_values.specs.declared.value.ValueRef.{ValueRef}
use Rattle.mysql_named_params.specs.Tokens.{Token, OnTokens}
use Rattle.mysql_portable.specs.FirstUnportable.{first_unportable}
use Rattle.mysql_portable.specs.declared.portable.Unportable.{Unportable}
use Rattle.mysql_params_core.specs.GivenValues.{Given}
use Rattle.mysql_params_core.specs.Made.{few_pairs, IsFirstRedefined}
use Rattle.mysql_binding.specs.BoundPairs.{OfPairs}
use Rattle.mysql_binding.specs.FirstCause.{first_cause}
use Rattle.mysql_binding.specs.declared.bind_error.BindError.TheVariants.{Memory}
use Rattle.mysql_steady_text.specs.BothModesErrors.{IsBothModesRefusal, AreEqualBothModesErrors}
use Rattle.mysql_steady_text.specs.FirstBackslash.{first_backslash}
use Rattle.mysql_steady_text.specs.SteadyTextErrors.{IsSteadyRefusal, AreEqualSteadyTextErrors}
use Rattle.mysql_steady_text.specs.declared.both_modes_error.BothModesError.{BothModesError}
use Rattle.mysql_steady_text.specs.declared.both_modes_error.BothModesError.TheVariants as modes
use Rattle.mysql_steady_text.specs.declared.steady_text_error.SteadyTextError.{SteadyTextError}
use Rattle.mysql_steady_text.specs.declared.steady_text_error.SteadyTextError.TheVariants as steady
use Rattle.mysql_steady_text.specs.declared.steady_pairs_error.SteadyPairsError.{SteadyPairsError}
use Rattle.mysql_steady_text.specs.declared.steady_pairs_error.SteadyPairsError.TheVariants.{Redefined, Bind}
use Rattle.mysql_steady_text.specs.declared.both_modes_pairs_error.BothModesPairsError.{BothModesPairsError}
use Rattle.mysql_steady_text.specs.declared.both_modes_pairs_error.BothModesPairsError.TheVariants as both

-- the pairs make no parameters, because an earlier pair has the name of this pair; or they are
-- many, and out of memory comes before their names are compared
abbrev pub AreNoPairs : List (Bor (List ℕ) × ValueRef) → SteadyPairsError → Type 0
AreNoPairs pairs (Redefined index) = IsFirstRedefined pairs index
AreNoPairs pairs (Bind error) =
    (few_pairs < length pairs) × (error ≡ steady.Bind (Memory alloc_error))

-- the same, or the pairs make parameters, and for these the query is refused by this error
abbrev pub IsPairsRefusal : (IsRefusal : Given → SteadyTextError → Type 0)
    → List (Bor (List ℕ) × ValueRef) → SteadyPairsError → Type 0
IsPairsRefusal IsRefusal pairs (Redefined index) = IsFirstRedefined pairs index
IsPairsRefusal IsRefusal pairs (Bind error) =
    AreNoPairs pairs (Bind error) ⊎ OfPairs pairs (λ given. IsRefusal given error)

-- The same for this query. The construct that isn't portable, if one is looked for, is the one that
-- is found among the query's tokens.
abbrev pub IsSteadyPairsRefusal : List ℕ → (List Token → Option Unportable)
    → List (Bor (List ℕ) × ValueRef) → SteadyPairsError → Type 0
IsSteadyPairsRefusal query unportable = IsPairsRefusal (λ given error. (mode : Bool) →
    OnTokens mode query (λ ts. IsSteadyRefusal query (unportable ts) (first_cause ts given) error))

-- `AreNoPairs` for a text for both modes
abbrev pub AreNoPairsInBothModes : List (Bor (List ℕ) × ValueRef) → BothModesPairsError → Type 0
AreNoPairsInBothModes pairs (both.Redefined index) = IsFirstRedefined pairs index
AreNoPairsInBothModes pairs (both.Bind error) =
    (few_pairs < length pairs) × (error ≡ modes.Bind (Memory alloc_error))

-- `IsPairsRefusal` for a text for both modes
abbrev pub IsPairsRefusalInBothModes : (IsRefusal : Given → BothModesError → Type 0)
    → List (Bor (List ℕ) × ValueRef) → BothModesPairsError → Type 0
IsPairsRefusalInBothModes IsRefusal pairs (both.Redefined index) = IsFirstRedefined pairs index
IsPairsRefusalInBothModes IsRefusal pairs (both.Bind error) =
    AreNoPairsInBothModes pairs (both.Bind error)
    ⊎ OfPairs pairs (λ given. IsRefusal given error)

-- the same for this query
abbrev pub IsBothModesPairsRefusal : List ℕ → List (Bor (List ℕ) × ValueRef)
    → BothModesPairsError → Type 0
IsBothModesPairsRefusal query = IsPairsRefusalInBothModes (λ given error. (mode : Bool) →
    OnTokens mode query (λ ts.
    IsBothModesRefusal (first_backslash ts) (first_unportable ts) (first_cause ts given) error))

-- the same variant, and the same fields
abbrev pub AreEqualSteadyPairsErrors : SteadyPairsError → SteadyPairsError → Type 0
AreEqualSteadyPairsErrors (Bind a) (Bind b) = AreEqualSteadyTextErrors a b
AreEqualSteadyPairsErrors (Bind a) b = ⊥
AreEqualSteadyPairsErrors a b = a ≡ b

-- the same variant, and the same fields
abbrev pub AreEqualBothModesPairsErrors : BothModesPairsError → BothModesPairsError → Type 0
AreEqualBothModesPairsErrors (both.Bind a) (both.Bind b) = AreEqualBothModesErrors a b
AreEqualBothModesPairsErrors (both.Bind a) b = ⊥
AreEqualBothModesPairsErrors a b = a ≡ b
