-- The text with guarded literals of a query with fragments, in a room of the caller.
use Rattle.std.specs.Prelude.{Bool, false, IfSome}
use Rattle.std.proofs.Common.{◌≡◌, ℕ, true, List, None, Some, subst}
use Rattle.mysql_values.specs.Value.{FieldsInRange}
use Rattle.mysql_values.specs.declared.value.Value.{Value}
use Rattle.mysql_named_params.specs.Reading.{OnTokensIn, wide_reading}
use Rattle.mysql_portable.specs.Steady.{IsSteady}
use Rattle.mysql_params_core.specs.Given.{positional}
use Rattle.mysql_binding.specs.Replaced.{with_literal_tokens}
use Rattle.mysql_binding.specs.TextInRoom.{HasTextOf, IsTextInRoom}
use Rattle.mysql_binding.specs.declared.binding.room.TextInRoom.{TextInRoom}
use Rattle.mysql_binding.proofs.TextInRoomLemmas.{each_in_room, known_text}
use Rattle.mysql_fragments.specs.FilledText.{ArePlaced, IsFilledQuery}
use Rattle.mysql_fragments.specs.FragmentText.{all_values}
use Rattle.mysql_fragments.specs.FragmentsInRoom.{HasFilledLength}
use Rattle.mysql_fragments.specs.GivenFragments.{GivenFragments}
use Rattle.mysql_fragments.specs.declared.fragment.Fragment.{Fragment}
use Rattle.mysql_fragments.specs.SteadyFragments.{first_unsteady_from}
use Rattle.mysql_fragments.proofs.GuardedFragmentLemmas.{guarded_fragments_on}
use Rattle.mysql_steady_text.specs.GuardedLiteral.{guarded_literal_of}
use Rattle.mysql_steady_text.specs.GuardedLiterals.{IsGuardedFor}
use Rattle.mysql_steady_text.specs.GuardedShape.{IsGuardedLiteral, KeepsApart}
use Rattle.mysql_steady_text.specs.ReadGuarded.{ReadsGuardedAs}
use Rattle.mysql_steady_text.proofs.GuardedLiteralLemmas.{guarded_kept_apart, guarded_reads, guarded_shape}
use Rattle.mysql_flat_params.specs.AnywhereCalls.{IsBoundIn}
use Rattle.mysql_flat_params.specs.declared.fragments_anywhere_room.AnywhereCall.TheVariants.{Guarded}

pub guarded_known : (mode : Bool) (v : Value) (text : List ℕ) → FieldsInRange v → guarded_literal_of mode v ≡ Some text → IsGuardedFor mode v text
guarded_known mode v text range is = (
  subst (λ o. IfSome o IsGuardedLiteral) is (guarded_shape mode v range),
  subst (λ o. IfSome o KeepsApart) is (guarded_kept_apart mode v range),
  subst (λ o. IfSome o (ReadsGuardedAs mode v)) is (guarded_reads mode v range),
)

module _ (mode : Bool) (query : List ℕ) (given : GivenFragments) (said : List Fragment) (steady : IsSteady query)
    (p : OnTokensIn (wide_reading false) query (λ ts. ArePlaced true ts given said)) (none : None ≡ first_unsteady_from 0 said) (old new : List ℕ) (text : TextInRoom) where
  pub guarded_in_room : OnTokensIn (wide_reading false) query (λ ts. IsTextInRoom (IsFilledQuery (guarded_literal_of mode) (IsGuardedFor mode) false ts given) (HasFilledLength (guarded_literal_of mode) false ts given) old new text) →
      IsTextInRoom (IsBoundIn (Guarded mode) query given) (HasTextOf (IsBoundIn (Guarded mode) query given)) old new text
  guarded_in_room (ts, is, h) =
      each_in_room _ _ _ old new text (λ x f. guarded_fragments_on mode query given said steady p x none (ts, is, f))
      (λ len (x, f, long). (
        x,
        guarded_fragments_on mode query given said steady p x none (
          ts,
          is,
          record {
            query = f.query;
            expanded = f.expanded;
            filled = known_text (guarded_literal_of mode) (IsGuardedFor mode) (guarded_known mode) (with_literal_tokens ts f.expanded.lists) (positional (all_values f.expanded.fragments)) x f.filled;
          },
        ),
        long,
      ))
      h
