-- The text of a query with fragments in a room of the caller, its length, and its refusal.
use Rattle.std.specs.Prelude.{◌≡◌, ◌≤◌, ◌⊎◌, ◌+◌, ◌^◌, ℕ, Bool, List, length, map, Option, Some, None, alloc_error}
use Rattle.std.specs.List.{sum_by}
use Rattle.mysql_named_params.specs.Tokens.{Token}
use Rattle.mysql_binding.specs.LiteralForm.{Literals, written_literal}
use Rattle.mysql_binding.specs.MeasuredText.{IsOfFields}
use Rattle.mysql_binding.specs.TextInRoom.{HasTextOf}
use Rattle.mysql_binding.specs.TextLength.{pieces_len}
use Rattle.mysql_fragments.specs.FilledText.{IsFilledQuery}
use Rattle.mysql_fragments.specs.FragmentText.{filled_text}
use Rattle.mysql_fragments.specs.FragmentErrors.{Cause, cause_of}
use Rattle.mysql_fragments.specs.GivenFragments.{GivenFragments}
use Rattle.mysql_fragments.specs.declared.fragment.Fragment.{Fragment}
use Rattle.mysql_fragments.specs.declared.fragments_error.FragmentsError.{FragmentsError}
use Rattle.mysql_fragments.specs.declared.fragments_error.FragmentsError.TheVariants.{Memory}

-- the text of the query with these fragments, its literals in a form, has this length
abbrev pub HasFilledLength : Literals → Bool → List Token → GivenFragments → ℕ → Type 0
HasFilledLength literal mode ts given = HasTextOf (IsFilledQuery literal IsOfFields mode ts given)

-- the pieces of the query and the texts of its fragments have more bytes than `isize::MAX`
abbrev pub IsTooLong : Literals → List Token → List Fragment → Type 0
IsTooLong literal ts fragments =
    2 ^ 63 ≤ pieces_len ts + sum_by length (map (filled_text (written_literal literal)) fragments)

-- either there is a first cause and the error is this cause; or there is none, the text would be
-- too long, and the error is `Memory`
abbrev pub IsCauseOrTooLong : Option Cause → (TooLong : Type 0) → FragmentsError → Type 0
IsCauseOrTooLong cause TooLong error =
    ((cause ≡ None) × TooLong × (error ≡ Memory alloc_error))
    ⊎ ((why : Cause) × (cause ≡ Some why) × (cause_of error ≡ Some why))
