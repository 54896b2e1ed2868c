-- The contents of arguments as items, as rows and as fragments, or the duration that is too long
-- for a value. A type of the caller's own names its content.
use Rattle.std.specs.Prelude.{ℕ, List, [], ◌∷◌, ◌++◌, Result, Ok, Err, fold, if◌then◌else◌, to_bits}
use Rattle.std.specs.Float.{binary64, float_is_finite}
use Rattle.std.specs.Float.Ieee.{Float}
use Rattle.std.specs.declared.time.Duration.{Duration}
use Rattle.mysql_value_core.specs.declared.value.Value.TheVariants.{Double}
use Rattle.mysql_to_fragments.specs.FragmentContent.{ItemContent, value_item, number_item, double_item, AssignmentContent, FragmentContent, value, number, double}

-- an item, or the duration that is too long for its value
abbrev pub SaidItem : Type 0
SaidItem = Result ItemContent Duration

-- the items of a row, or the first duration that is too long
abbrev pub SaidRow : Type 0
SaidRow = Result (List ItemContent) Duration

-- an assignment, or the duration that is too long for its value
abbrev pub SaidAssignment : Type 0
SaidAssignment = Result AssignmentContent Duration

-- a fragment, or the first duration in it that is too long
abbrev pub SaidFragment : Type 0
SaidFragment = Result FragmentContent Duration

-- the content with `make` applied to it; a refusal stays
abbrev pub made_of : {X Y : Type 0} → (X → Y) → Result X Duration → Result Y Duration
made_of make (Ok said) = Ok (make said)
made_of make (Err duration) = Err duration

-- the assignment of an item to the column of these names; a refusal stays
abbrev pub said_of_column : List (List ℕ) → SaidItem → SaidAssignment
said_of_column names said = made_of (λ item. (names, item)) said

-- the contents so far, and one more; a refusal stays
abbrev pub with_one : {X : Type 0} → Result (List X) Duration → Result X Duration
    → Result (List X) Duration
with_one (Ok so_far) (Ok one) = Ok (so_far ++ one ∷ [])
with_one (Ok so_far) (Err duration) = Err duration
with_one (Err duration) one = Err duration

-- all contents, in order, or the first duration that is too long
abbrev pub all_said : {X : Type 0} → List (Result X Duration) → Result (List X) Duration
all_said each = fold with_one (Ok []) each

-- a double; a NaN and an infinity as values, since they have no number
abbrev pub said_double : Float → ItemContent
said_double x =
    if float_is_finite x then double_item x else value_item (Double (to_bits binary64 x))

-- an item as a fragment of its own
abbrev pub alone : ItemContent → FragmentContent
alone (value_item said) = value said
alone (number_item text) = number text
alone (double_item x) = double x
