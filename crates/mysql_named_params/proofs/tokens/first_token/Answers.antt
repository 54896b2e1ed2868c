-- Goals that must-fail edits turn are searched for: a wrong body is then refused there, since nothing proves the goal,
-- and another right body is proved.
use Rattle.std.proofs.Common.{◌≡◌, ◌⊎◌, rules, get_or, sym, ◌∙◌, arith}
use Rattle.mysql_named_params.proofs.FirstTokenLemmas.{string_first, identifier_first, hash_first, mark_first, name_first, dash_first, block_first, plain_first, plain_colon, plain_dash, plain_slash, plain_other}
use Rattle.mysql_named_params.proofs.tokens.first_token.Goals as goal

pub returns-in-63 : goal.returns-in-63
returns-in-63 c = mark_first _ _ c.requires c.in-63.is

pub returns-in-58 : goal.returns-in-58
returns-in-58 c = name_first _ _ _ c.requires c.in-58.is (sym c.opens_name.ensures ∙ c.if-opens_name.true) c.name_len.ensures.in_range c.name_len.ensures.front

pub returns-in-39 : goal.returns-in-39
returns-in-39 c = search (string_first, rules)

pub returns-in-96 : goal.returns-in-96
returns-in-96 c = identifier_first _ _ _ c.requires c.in-96.is c.len_up_to_byte.ensures.in_range c.len_up_to_byte.ensures.up_to

pub returns-in-35 : goal.returns-in-35
returns-in-35 c = search (hash_first, rules)

pub returns-in-45 : goal.returns-in-45
returns-in-45 c = dash_first _ _ _ c.requires c.in-45.is (sym c.opens_dash_comment.ensures ∙ c.if-opens_dash_comment.true) c.len_up_to_byte-in-45.ensures.in_range c.len_up_to_byte-in-45.ensures.up_to

pub returns-in-47 : goal.returns-in-47
returns-in-47 c =
    let opens = sym c.opens_block_comment.ensures ∙ c.if-opens_block_comment.true in
    search (block_first, opens, rules)

pub returns-in-58-2 : goal.returns-in-58-2
returns-in-58-2 c = plain_first _ _ c.requires (plain_colon _ _ _ c.in-58.is (sym c.opens_name.ensures ∙ c.if-opens_name.false))

pub returns-in-45-2 : goal.returns-in-45-2
returns-in-45-2 c = plain_first _ _ c.requires (plain_dash _ _ _ c.in-45.is (sym c.opens_dash_comment.ensures ∙ c.if-opens_dash_comment.false))

pub returns-in-47-2 : goal.returns-in-47-2
returns-in-47-2 c = plain_first _ _ c.requires (plain_slash _ _ _ c.in-47.is (sym c.opens_block_comment.ensures ∙ c.if-opens_block_comment.false))

pub returns-in_default : goal.returns-in_default
returns-in_default c =
    let no_quote : (get_or c.args.text.now 0 0 ≡ 34) ⊎ (get_or c.args.text.now 0 0 ≡ 39) → ⊥ = search rules in
    plain_first _ _ c.requires (plain_other _ (get_or c.args.text.now 0 0) _ no_quote (omega arith) (omega arith) (omega arith) (omega arith) (omega arith) (omega arith))
