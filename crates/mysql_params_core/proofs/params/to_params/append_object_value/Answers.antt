use Rattle.mysql_params_core.proofs.params.to_params.append_object_value.Goals as goal

pub returns-clause-made : goal.returns-clause-made
returns-clause-made g c =
    c.append_answer.ensures.made ((goal.ToValue-dyn g c.args.object.now).value_of c.args.object.now.1) c.to_value.ensures
