use Rattle.mysql_params_core.proofs.params.to_params.append_value.Goals as goal

pub returns-clause-made : goal.returns-clause-made
returns-clause-made g c = c.append_answer.ensures.made (g.T.ToValue.value_of c.args.argument.now) c.to_value.ensures
