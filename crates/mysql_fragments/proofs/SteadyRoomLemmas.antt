-- The text for any mode, and for any server, of a query with fragments, in a room of the caller.
use Rattle.std.specs.Prelude.{Bool, false}
use Rattle.std.proofs.Common.{◌≡◌, ℕ, true, List, None}
use Rattle.mysql_named_params.specs.Reading.{OnTokensIn, reading_with}
use Rattle.mysql_portable.specs.Steady.{IsSteady}
use Rattle.mysql_params_core.specs.Given.{positional}
use Rattle.mysql_binding.specs.Replaced.{with_literal_tokens}
use Rattle.mysql_binding.specs.TextInRoom.{HasTextOf, IsTextInRoom}
use Rattle.mysql_binding.specs.declared.binding.room.TextInRoom.{TextInRoom}
use Rattle.mysql_binding.proofs.TextInRoomLemmas.{each_in_room, known_text}
use Rattle.mysql_fragments.specs.FilledText.{ArePlaced, IsFilledQuery}
use Rattle.mysql_fragments.specs.FragmentText.{all_values}
use Rattle.mysql_fragments.specs.FragmentsInRoom.{HasFilledLength}
use Rattle.mysql_fragments.specs.GivenFragments.{GivenFragments}
use Rattle.mysql_fragments.specs.declared.fragment.Fragment.{Fragment}
use Rattle.mysql_steady_text.specs.SteadyLiteral.{steady_literal_of}
use Rattle.mysql_steady_text.proofs.BothModesTextLemmas.{steady_known}
use Rattle.mysql_steady_text.specs.SteadyLiterals.{IsSteadyFor}
use Rattle.mysql_fragments.specs.SteadyFragments.{IsSteadyFragments, first_unsteady_from}
use Rattle.mysql_fragments.proofs.SteadyFragmentLemmas.{steady_fragments_on}

-- the query is bound to the given fragments, for any mode, by wide names or by those of the grammar
abbrev pub BoundSteadily : (wide : Bool) → List ℕ → GivenFragments → List ℕ → Type 0
BoundSteadily wide query given text = (mode : Bool) → OnTokensIn (reading_with wide mode) query (λ ts. IsSteadyFragments ts given text)

-- ---- the text of a steady query

module _ (wide : Bool) (query : List ℕ) (given : GivenFragments) (said : List Fragment) (steady : IsSteady query)
    (p : OnTokensIn (reading_with wide false) query (λ ts. ArePlaced true ts given said)) (none : None ≡ first_unsteady_from 0 said) (old new : List ℕ) (text : TextInRoom) where
  pub steady_in_room : OnTokensIn (reading_with wide false) query (λ ts. IsTextInRoom (IsFilledQuery steady_literal_of IsSteadyFor false ts given) (HasFilledLength steady_literal_of false ts given) old new text) →
      IsTextInRoom (BoundSteadily wide query given) (HasTextOf (BoundSteadily wide query given)) old new text
  steady_in_room (ts, is, h) =
      each_in_room _ _ _ old new text (λ x f. steady_fragments_on wide query given said steady p x none (ts, is, f))
      (λ len (x, f, long). (
        x,
        steady_fragments_on wide query given said steady p x none (
          ts,
          is,
          record {
            query = f.query;
            expanded = f.expanded;
            filled = known_text steady_literal_of IsSteadyFor steady_known (with_literal_tokens ts f.expanded.lists) (positional (all_values f.expanded.fragments)) x f.filled;
          },
        ),
        long,
      ))
      h
