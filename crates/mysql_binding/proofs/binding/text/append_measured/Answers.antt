use Rattle.std.proofs.Common.{arith, sym, ◌∙◌}
use Rattle.mysql_binding.proofs.AppendedTextLemmas.{appended_bytes}
use Rattle.mysql_binding.proofs.binding.text.append_measured.Goals as goal

pub returns-clause-appended : goal.returns-clause-appended
returns-clause-appended g c =
    let f = c.fill_after.ensures.front in
    let len = c.in_ok-resize.ensures.len in
    let end = c.in-Some.ensures.1 in (
      f.0,
      appended_bytes c.args.text.now.items c.resize.new.self.items c.fill_after.new.text f.0 _ _ _ _ c.resize.new.self.len c.in-Some.end (omega (arith, len))
          (c.fill_after.ensures.next ∙ (sym end ∙ sym len)) (omega arith) c.as_mut_slice.ensures.value (omega (arith, end)) c.in_ok-resize.ensures.items f.1,
      f.2,
    )
