-- Servers and the tokens of a query on them, re-exported, and the grammar of Tokens.antt as server.
use Rattle.std.specs.Prelude.{ℕ, false, not, ◌==◌, ◌&&◌, if◌then◌else◌, List, None}
use Rattle.mysql_named_params.specs.Bytes.{newline, is_white_space, is_extension, begins}
pub use Rattle.mysql_portable.specs.ServerTokens.{keeps_dashes, begins_special, is_tag_byte, begins_place, begins_tag, begins_dashes, begins_exponent_dashes, begins_fraction, begins_own, holds_return, escapes_backquote, Block, executed, comment, comment_of, Server, opens_line, line_on, identifier_on, reads_in, block_on, IsBlockTail, usual_block, own_block, IsTailBy, usual_end, own_end, IsDashTail, ended_tail, open_tail, IsQuotedTail, usual_quotes, own_quotes, IsNotPlainOn, IsTokenOn, AreTokensOn, IsReadOn}

-- in the grammar, `/*!` and `/*+` are read, and `/*M!` is a comment
abbrev pub grammar_special : List ℕ → Block
grammar_special text = if begins is_extension text then executed else comment

-- the grammar, as a server
abbrev pub grammar : Server
grammar = record {
  special = grammar_special;
  quotes = λ b text. None;
  also_opens = λ b. is_white_space b && not (b == newline);
  lines = λ text. None;
  identifiers = λ text. None;
  ansi_quotes = false;
}
