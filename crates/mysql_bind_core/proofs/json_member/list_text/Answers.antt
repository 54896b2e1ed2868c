use Rattle.std.proofs.Common.{◌≡◌, ◌∙◌, ◌+◌, ◌++◌, ◌∷◌, [], List, sym, ap, subst, map, drop, None, Some, true}
use Rattle.std.specs.Prelude.{is_some, option_map}
use Rattle.json.specs.Print.{print}
use Rattle.json.specs.Token.{Token, begin_array, end_array}
use Rattle.json.specs.Value.{value_view}
use Rattle.mysql_bind_core.specs.Contents.{all_of}
use Rattle.mysql_bind_core.specs.JsonMembers.{item_token}
use Rattle.mysql_bind_core.proofs.ContentLemmas.{before, one_more_of, one_none_of}
use Rattle.mysql_bind_core.proofs.JsonMemberLemmas.{none_of, some_of}
use Rattle.mysql_bind_core.proofs.json_member.list_text.Goals as goal

pub returns-then-not-branch : goal.returns-then-not-branch
returns-then-not-branch c =
    let d = c.args.decimals in
    let values = c.args.items.now in
    let i = c.loop-json.json-index in
    let none : item_token d (value_view c.json-item.result) ≡ None =
    none_of (item_token d (value_view c.json-item.result))
    (sym c.in_ok-write_item.ensures.is_one ∙ c.if-not-branch.true) in
    sym (ap (option_map (λ items. print (begin_array ∷ (items ++ end_array ∷ []))))
    (one_none_of value_view (item_token d) values i c.json-item.result (drop 1 c.loop-json.writer.tokens)
    c.loop-json-test.true c.json-item.is c.loop-json.invariant.2 none))

pub loop-json-preserved : goal.loop-json-preserved
loop-json-preserved c =
    let d = c.args.decimals in
    let values = c.args.items.now in
    let i = c.loop-json.json-index in
    let token = some_of (item_token d (value_view c.json-item.result))
    (sym c.in_ok-write_item.ensures.is_one ∙ c.if-not-branch.false) in
    let written : c.write_item.new.writer.tokens ≡ c.loop-json.writer.tokens ++ token.0 ∷ [] =
    c.in_ok-write_item.ensures.written token.0 token.1 in
    let front = drop 1 c.loop-json.writer.tokens in
    let behind : c.write_item.new.writer.tokens ≡ begin_array ∷ (front ++ token.0 ∷ []) =
    written ∙ ap (λ ts. ts ++ token.0 ∷ []) c.loop-json.invariant.1 in
    let next : drop 1 c.write_item.new.writer.tokens ≡ front ++ token.0 ∷ [] = ap (drop 1) behind in (
      c.in_ok-write_item.ensures.before ∙ c.loop-json.invariant.0,
      behind ∙ ap (λ ts. begin_array ∷ ts) (sym next),
      subst (λ ts. all_of (item_token d) (map value_view values)
          ≡ before ts (all_of (item_token d) (drop (i + 1) (map value_view values)))) (sym next)
          (one_more_of value_view (item_token d) values i c.json-item.result front
          c.loop-json-test.true c.json-item.is c.loop-json.invariant.2 token.0 token.1),
    )
