use Rattle.std.proofs.Common.{length, ap, ◌∙◌}
use Rattle.mysql_named_params.specs.Tokens.{text_of}
use Rattle.mysql_named_params.proofs.TokenRowLemmas.{with_marks-nameless}
use Rattle.mysql_named_params.proofs.laws.nameless_is_unchanged.Goals as goal

pub returns : goal.returns
returns c = record {
  unchanged = λ mode query ts is none. ap text_of (with_marks-nameless ts (ap length none)) ∙ is.text;
}
