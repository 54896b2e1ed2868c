use Rattle.std.proofs.Common.{◌≡◌, ◌≤◌, drop, length}
use Rattle.mysql_portable.specs.FoundInClient.{begins_word}
use Rattle.mysql_portable.proofs.client.begins_word.Given as goal

abbrev pub invariant-loop-i : goal.invariant-loop-i
invariant-loop-i l =
    (begins_word (drop l.i l.word) (drop l.i l.text) ≡ begins_word l.word l.text) × (l.i ≤ length l.text)
