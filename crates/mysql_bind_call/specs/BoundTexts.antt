-- The text that `bind` promises: that of the values or fragments, in the scope of the purpose. That
-- the query is portable, or that names may have capitals, changes nothing in the text. The laws of
-- this crate say what a text of a portable query is on servers.
use Rattle.std.specs.Prelude.{◌≡◌, ◌++◌, ℕ, List}
use Rattle.mysql_named_params.specs.Tokens.{Token}
use Rattle.mysql_params_core.specs.GivenValues.{Given}
use Rattle.mysql_binding.specs.Isolation.{IsBoundText}
use Rattle.mysql_steady_text.specs.SteadyText.{IsSteadyText}
use Rattle.mysql_steady_text.specs.BothModesText.{IsTextInBothModes}
use Rattle.mysql_fragments.specs.Expanded.{IsBoundFragments}
use Rattle.mysql_fragments.specs.GivenFragments.{GivenFragments}
use Rattle.mysql_fragments.specs.SteadyFragments.{IsSteadyFragments}
use Rattle.mysql_bind_call.specs.FragmentsInBothModes.{IsFragmentsInBothModes}
use Rattle.mysql_bind_call.specs.AnyGiven.{AnyGiven, values, fragments}
use Rattle.mysql_steady_text.specs.declared.purpose.Scope.{Scope}
use Rattle.mysql_steady_text.specs.declared.purpose.Scope.TheVariants.{OneMode, EitherMode, AnyConnection}

-- the text, in the scope, of a query with these tokens and the values that are given to it
abbrev pub IsValuesText : Scope → List Token → Given → List ℕ → Type 0
IsValuesText (OneMode mode) = IsBoundText mode
IsValuesText EitherMode = IsTextInBothModes
IsValuesText AnyConnection = IsSteadyText

-- the same of fragments
abbrev pub IsFragmentsText : Scope → List Token → GivenFragments → List ℕ → Type 0
IsFragmentsText (OneMode mode) = IsBoundFragments mode
IsFragmentsText EitherMode = IsFragmentsInBothModes
IsFragmentsText AnyConnection = IsSteadyFragments

-- the same of what is given
abbrev pub IsTextFor : Scope → List Token → AnyGiven → List ℕ → Type 0
IsTextFor scope ts (values given) = IsValuesText scope ts given
IsTextFor scope ts (fragments given) = IsFragmentsText scope ts given

-- `after` is `before`, followed by a text for which `IsText` is true
abbrev pub IsAppended : (IsText : List ℕ → Type 0) → (before after : List ℕ) → Type 0
IsAppended IsText before after = (text : List ℕ) × (after ≡ before ++ text) × IsText text
