use Rattle.mysql_portable.proofs.OtherModeLemmas.{tokens_other}
use Rattle.mysql_steady_text.proofs.BothModesTextLemmas.{no_escapes_out, on_servers_in_both}
use Rattle.mysql_steady_text.proofs.WideBothModesLemmas.{wide_read_in_both}
use Rattle.mysql_steady_text.proofs.laws.anywhere.texts_in_both_modes_on_servers.Goals as goal

pub returns : goal.returns
returns c = record {
  narrow = λ mode query text ts given is b.
      let t = b.text_in_both_modes in
      on_servers_in_both query ts given text (λ other. tokens_other mode other query ts (no_escapes_out ts t.literal_tokens t.no_escapes) is) b.portable t;
  wide = wide_read_in_both;
}
