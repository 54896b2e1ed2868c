use Rattle.mysql_client.proofs.SharpLemmas as lemmas
use Rattle.mysql_client.proofs.laws.constructs_are_sharp.Goals as goal

pub returns : goal.returns
returns c = record {
  zero_byte = lemmas.zero_byte;
  opener_in_comment = lemmas.opener_in_comment;
  escaped_newline = lemmas.escaped_newline;
  backslash_at_end = lemmas.backslash_at_end;
  delimiter = lemmas.delimiter;
  client_command = lemmas.client_command;
  client_word = lemmas.client_word;
  mark_in_front = lemmas.mark_in_front;
  dash_in_front = lemmas.dash_in_front;
  joining_comment = lemmas.joining_comment;
}
