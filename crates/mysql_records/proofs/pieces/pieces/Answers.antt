use Rattle.std.proofs.Common.{◌≡◌, ◌∙◌, sym, subst, refl, rules, [], ◌∷◌, ◌++◌, take, drop}
use Rattle.std.proofs.lemmas.List.{take_rest}
use Rattle.mysql_records.proofs.RowLemmas.{ReadPieces, read_none, raw_and, read_one, read_longest}
use Rattle.mysql_records.proofs.pieces.pieces.Goals as goal

pub pieces-init : goal.pieces-init
pieces-init c =
    subst (λ x. ReadPieces c.args.format c.args.quoted c.args.text.now x c.args.text.now) (sym c.new-bytes.ensures.items)
    (read_none c.args.format c.args.quoted c.args.text.now)

pub pieces-preserved : goal.pieces-preserved
pieces-preserved c =
    let copied : c.extend_from_slice.new.self.items ≡ c.pieces.bytes.items ++ take c.raw_len-len.result c.pieces.rest.now = search rules in
    let pushed : c.push.new.self.items ≡ c.extend_from_slice.new.self.items ++ c.in-Some.byte ∷ [] = search rules in
    let row : ReadPieces c.args.format c.args.quoted c.args.text.now c.extend_from_slice.new.self.items (drop c.raw_len-len.result c.pieces.rest.now) =
    raw_and c.args.format c.args.quoted c.args.text.now c.pieces.bytes.items c.pieces.rest.now c.extend_from_slice.new.self.items _ c.raw_len-len.result c.pieces.invariant c.raw_len-len.ensures.raw copied refl in
    subst (λ x. ReadPieces c.args.format c.args.quoted c.args.text.now x c.in-Some.behind.now) (sym pushed)
    (read_one c.args.format c.args.quoted c.args.text.now c.extend_from_slice.new.self.items (drop c.raw_len-len.result c.pieces.rest.now) c.in-Some.behind.now c.in-Some.byte row
    c.in-Some.ensures.some.0 c.in-Some.ensures.some.1 (sym (take_rest c.pieces.rest.now c.raw_len-len.result) ∙ c.in-Some.ensures.some.2))

pub returns-in-None : goal.returns-in-None
returns-in-None c =
    let copied : c.extend_from_slice.new.self.items ≡ c.pieces.bytes.items ++ take c.raw_len-len.result c.pieces.rest.now = search rules in
    read_longest c.args.format c.args.quoted c.args.text.now c.extend_from_slice.new.self.items _
    (raw_and c.args.format c.args.quoted c.args.text.now c.pieces.bytes.items c.pieces.rest.now c.extend_from_slice.new.self.items _ c.raw_len-len.result c.pieces.invariant c.raw_len-len.ensures.raw copied
    (take_rest c.pieces.rest.now c.raw_len-len.result))
    c.in-None.ensures.none
