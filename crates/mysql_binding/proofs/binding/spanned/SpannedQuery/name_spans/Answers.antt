use Rattle.mysql_binding.proofs.SpanBindLemmas.{fit_front}
use Rattle.mysql_binding.proofs.binding.spanned.SpannedQuery.name_spans.Goals as goal

pub returns-clause-fit : goal.returns-clause-fit
returns-clause-fit c = fit_front c.args.self.now.spans.now c.args.self.now.survey.names c.args.self.now.query.now c.args.self.now.fit
