use Rattle.mysql_portable.specs.CharacterSet.{seen}
use Rattle.mysql_steady_text.proofs.GuardedSpliceLemmas.{guarded_on, guarded_read}
use Rattle.mysql_steady_text.proofs.GuardedTextLemmas.{alone_in}
use Rattle.mysql_steady_text.proofs.laws.guarded.bound_guarded_texts_on_servers.Goals as goal

pub returns : goal.returns
returns c = record {
  read = λ server set mode written query text ts vs given honest client h p b v.
      let o = b.isolated_over set client in
      guarded_read mode (seen set text) ts o.in_places.shown o.shown_tokens (alone_in written ts given text b) o.in_places.shapes
      (o.tokens_of_shown mode) o.in_places.text_is query h p server vs honest v;
  tokens = λ server set mode written query text ts us given honest within client h p b u.
      let o = b.isolated_over set client in
      guarded_on mode (seen set text) ts o.in_places.shown o.shown_tokens (alone_in written ts given text b) o.in_places.shapes
      (o.tokens_of_shown mode) o.in_places.text_is query h p server us honest within u;
}
