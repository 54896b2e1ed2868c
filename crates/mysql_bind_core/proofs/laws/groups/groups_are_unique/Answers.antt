use Rattle.std.proofs.Common.{◌++◌, ◌∙◌, ap, refl, sym}
use Rattle.mysql_bind_core.specs.Scripts.{script}
use Rattle.mysql_bind_core.proofs.GroupUniqueLemmas.{same_group, same_groups, same_whole}
use Rattle.mysql_bind_core.proofs.laws.groups.groups_are_unique.Goals as goal

pub returns : goal.returns
returns c = record {
  one = λ query form text records others rest behind written bytes a b. same_group query form text records others rest behind written bytes a b;
  same = λ query form text groups others rest behind before one two a b n.
      let same = same_groups query form text groups a.texts rest others b.texts behind a.are b.are n in
      (same.0, same.2, a.bytes ∙ (ap (λ texts. before ++ script texts) same.1 ∙ sym b.bytes));
  all = λ query form text groups others before one two a b.
      let same = same_whole query form text groups a.texts _ others b.texts _ a.are b.are refl refl in
      (same.0, a.bytes ∙ (ap (λ texts. before ++ script texts) same.1 ∙ sym b.bytes));
}
