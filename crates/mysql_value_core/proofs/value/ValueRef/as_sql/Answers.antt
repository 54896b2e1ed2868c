use Rattle.std.proofs.Common.{◌≡◌, sym, subst, ap, ◌∙◌, arith}
use Rattle.std.specs.Prelude.{IfSome, string_bytes, vec_items}
use Rattle.std.specs.Str.{IsUtf8}
use Rattle.mysql_value_core.specs.BorrowedValue.{owned}
use Rattle.mysql_value_core.specs.ReadBack.{ReadsAs}
use Rattle.mysql_value_core.specs.TimeLiteral.{WritesTimeText}
use Rattle.mysql_value_core.proofs.LiteralLemmas.{literal_utf8}
use Rattle.mysql_wire_part.proofs.ReadingLemmas.{take-append}
use Rattle.mysql_value_core.proofs.value.ValueRef.as_sql.Goals as goal

pub from_utf8_unchecked-requires : goal.from_utf8_unchecked-requires
from_utf8_unchecked-requires c =
    let utf8 = literal_utf8 c.args.no_backslash_escape (owned c.args.self) c.fields_in_range.ensures in
    subst IsUtf8 (sym (take-append c.in_ok-text.text.len c.put_sql.new.room _ (omega arith)))
    (subst (λ o. IfSome o IsUtf8) c.put_sql.ensures.exact utf8)

pub returns-clause-time : goal.returns-clause-time
returns-clause-time c =
    let room = c.put_sql.new.room in
    let text : string_bytes c.from_utf8_unchecked.result ≡ room =
    ap vec_items c.from_utf8_unchecked.ensures.value ∙ take-append c.in_ok-text.text.len room _ (omega arith) in
    subst (WritesTimeText (owned c.args.self)) (sym text) c.put_sql.ensures.time

pub returns-clause-reads_back : goal.returns-clause-reads_back
returns-clause-reads_back c =
    let room = c.put_sql.new.room in
    let text : string_bytes c.from_utf8_unchecked.result ≡ room =
    ap vec_items c.from_utf8_unchecked.ensures.value ∙ take-append c.in_ok-text.text.len room _ (omega arith) in
    subst (ReadsAs c.args.no_backslash_escape (owned c.args.self)) (sym text) c.put_sql.ensures.reads_back
