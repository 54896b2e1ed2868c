use Rattle.std.proofs.Common.{◌≡◌, drop}
use Rattle.mysql_params_core.specs.Referents.{referents}
use Rattle.mysql_flat_params.specs.Keywords.{word_of}
use Rattle.mysql_flat_params.proofs.keywords.word_of.Given as goal

abbrev pub invariant-loop-word : goal.invariant-loop-word
invariant-loop-word l = word_of (referents l.words) l.text ≡ word_of (drop l.word-index (referents l.words)) l.text
