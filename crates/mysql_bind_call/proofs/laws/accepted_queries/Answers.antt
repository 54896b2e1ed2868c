use Rattle.std.specs.Prelude.{None}
use Rattle.std.proofs.Common.{◌≡◌, subst}
use Rattle.mysql_named_params.specs.LoweredNames.{lower_names}
use Rattle.mysql_portable.proofs.ClientWalkLemmas as client
use Rattle.mysql_portable.proofs.SteadyLemmas.{none_unsteady}
use Rattle.mysql_portable.proofs.UnportableLemmas.{none_is_portable}
use Rattle.mysql_binding.proofs.CauseLemmas.{map_none, or_none}
use Rattle.mysql_steady_text.specs.Purposes.{first_construct, scope_refusal}
use Rattle.mysql_steady_text.proofs.BackslashLemmas.{hold_no_escapes}
use Rattle.mysql_bind_call.proofs.laws.accepted_queries.Goals as goal

pub returns : goal.returns
returns c = record {
  servers = λ purpose query ts none e.
      none_is_portable (lower_names ts) (subst (λ p. first_construct p ts ≡ None) e (map_none _ _ (or_none _ _ none).1));
  clients = λ purpose query ts none e.
      client.none_is_portable (lower_names ts) (subst (λ p. first_construct p ts ≡ None) e (map_none _ _ (or_none _ _ none).1));
  any_connection = λ purpose query ts none e.
      (none_unsteady query).0 (map_none _ _ (subst (λ s. scope_refusal s query ts ≡ None) e (or_none _ _ none).0));
  either_mode = λ purpose query ts none e.
      hold_no_escapes ts 0 (map_none _ _ (subst (λ s. scope_refusal s query ts ≡ None) e (or_none _ _ none).0));
}
