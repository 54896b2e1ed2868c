-- Fragments that are all values: they are refused for the causes of `bind_text`.
use Rattle.mysql_params_core.specs.Lookup as values
use Rattle.mysql_binding.specs.FirstCause as bound
use Rattle.mysql_fragments.specs.FragmentErrors.{Cause, mixed_query, refused_fragments, mark_count, not_alone, float_value}
use Rattle.mysql_fragments.specs.GivenFragments.{missing, confused}

-- the cause that refuses the fragments if this one refuses the values
abbrev pub same_cause : bound.Cause → Cause
same_cause bound.mixed_query = mixed_query
same_cause (bound.refused_params (values.missing name)) = refused_fragments (missing name)
same_cause (bound.refused_params (values.confused why)) = refused_fragments (confused why)
same_cause (bound.mark_count marks values) = mark_count marks values
same_cause (bound.not_alone place position) = not_alone place position
same_cause (bound.float_value place) = float_value place
