-- Refusals of `bind` as the errors of the calls for one kind of what is given and one purpose. A
-- refusal that such a call never has is out of memory here.
use Rattle.std.specs.Prelude.{alloc_error}
use Rattle.mysql_binding.specs.declared.bind_error.BindError.{BindError}
use Rattle.mysql_binding.specs.declared.bind_error.BindError.TheVariants as bind
use Rattle.mysql_binding.specs.declared.bind_pairs_error.BindPairsError.{BindPairsError}
use Rattle.mysql_binding.specs.declared.bind_pairs_error.BindPairsError.TheVariants as pairs
use Rattle.mysql_steady_text.specs.declared.purpose.QueryRefusal.TheVariants as refusal
use Rattle.mysql_steady_text.specs.declared.steady_text_error.SteadyTextError.{SteadyTextError}
use Rattle.mysql_steady_text.specs.declared.steady_text_error.SteadyTextError.TheVariants as steady
use Rattle.mysql_steady_text.specs.declared.steady_pairs_error.SteadyPairsError.{SteadyPairsError}
use Rattle.mysql_steady_text.specs.declared.steady_pairs_error.SteadyPairsError.TheVariants as steady_pairs
use Rattle.mysql_steady_text.specs.declared.both_modes_error.BothModesError.{BothModesError}
use Rattle.mysql_steady_text.specs.declared.both_modes_error.BothModesError.TheVariants as both
use Rattle.mysql_steady_text.specs.declared.both_modes_pairs_error.BothModesPairsError.{BothModesPairsError}
use Rattle.mysql_steady_text.specs.declared.both_modes_pairs_error.BothModesPairsError.TheVariants as both_pairs
use Rattle.mysql_fragments.specs.declared.fragments_error.FragmentsError.{FragmentsError}
use Rattle.mysql_fragments.specs.declared.fragments_error.FragmentsError.TheVariants as fault
use Rattle.mysql_fragments.specs.declared.steady_fragments_error.SteadyFragmentsError.{SteadyFragmentsError}
use Rattle.mysql_fragments.specs.declared.steady_fragments_error.SteadyFragmentsError.TheVariants as steady_fragments
use Rattle.mysql_bind_call.specs.declared.refusal.BindRefusal.{BindRefusal}
use Rattle.mysql_bind_call.specs.declared.refusal.BindRefusal.TheVariants.{Redefined, Query, Values, Fragments, UnsteadyFragment, Memory}

-- the error of values for one mode
abbrev pub bind_error : BindRefusal → BindError
bind_error (Values error) = error
bind_error (Memory error) = bind.Memory error
bind_error refusal = bind.Memory alloc_error

-- the error of pairs for one mode
abbrev pub bind_pairs_error : BindRefusal → BindPairsError
bind_pairs_error (Redefined index) = pairs.Redefined index
bind_pairs_error refusal = pairs.Bind (bind_error refusal)

-- the error of values for any connection
abbrev pub steady_text_error : BindRefusal → SteadyTextError
steady_text_error (Query (refusal.Unsteady at)) = steady.Unsteady at
steady_text_error (Query (refusal.Unportable found)) = steady.Unportable found
steady_text_error refusal = steady.Bind (bind_error refusal)

-- the error of pairs for any connection
abbrev pub steady_pairs_error : BindRefusal → SteadyPairsError
steady_pairs_error (Redefined index) = steady_pairs.Redefined index
steady_pairs_error refusal = steady_pairs.Bind (steady_text_error refusal)

-- the error of values for either mode
abbrev pub both_modes_error : BindRefusal → BothModesError
both_modes_error (Query (refusal.Backslash at)) = both.Backslash at
both_modes_error (Query (refusal.Unportable found)) = both.Unportable found
both_modes_error refusal = both.Bind (bind_error refusal)

-- the error of pairs for either mode
abbrev pub both_modes_pairs_error : BindRefusal → BothModesPairsError
both_modes_pairs_error (Redefined index) = both_pairs.Redefined index
both_modes_pairs_error refusal = both_pairs.Bind (both_modes_error refusal)

-- the error of fragments for one mode
abbrev pub fragments_error : BindRefusal → FragmentsError
fragments_error (Fragments error) = error
fragments_error (Memory error) = fault.Memory error
fragments_error refusal = fault.Memory alloc_error

-- the error of fragments for any connection
abbrev pub steady_fragments_error : BindRefusal → SteadyFragmentsError
steady_fragments_error (Query (refusal.Unsteady at)) = steady_fragments.Unsteady at
steady_fragments_error (Query (refusal.Unportable found)) = steady_fragments.Unportable found
steady_fragments_error (UnsteadyFragment place) = steady_fragments.UnsteadyFragment place
steady_fragments_error refusal = steady_fragments.Fragments (fragments_error refusal)
