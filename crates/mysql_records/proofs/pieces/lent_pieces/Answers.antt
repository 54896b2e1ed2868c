use Rattle.std.proofs.Common.{take, drop, refl, sym, [], ◌≡◌, ◌++◌, List, ℕ, length, take-append-drop, ap, ◌∙◌, ◌-◌}
use Rattle.std.proofs.lemmas.List.{take_rest}
use Rattle.mysql_records.specs.LentFields.{HasPair}
use Rattle.mysql_records.proofs.LentFieldLemmas.{has_pair, no_pair, on_error}
use Rattle.mysql_records.proofs.ReadFieldLemmas.{none_of, some_of}
use Rattle.mysql_records.proofs.RowLemmas.{raw_and, read_none, read_longest}
use Rattle.mysql_records.proofs.pieces.lent_pieces.Goals as goal

whole : (text : List ℕ) (len : ℕ) → text ≡ take len text ++ take (length text - len) (drop len text)
whole text len = sym (take-append-drop len text) ∙ ap (λ x. take len text ++ x) (sym (take_rest text len))

pub returns-then-is_none-clause-read : goal.returns-then-is_none-clause-read
returns-then-is_none-clause-read c =
    let len = c.raw_len-len.result in
    let text = c.args.text.now in (
      take len text,
      refl,
      read_longest c.args.format c.args.quoted text (take len text) _
          (raw_and c.args.format c.args.quoted text [] text (take len text) _ len (read_none c.args.format c.args.quoted text)
          c.raw_len-len.ensures.raw refl (take_rest text len))
          (none_of c.pair.result _ (sym c.if-is_none.ensures) c.pair.ensures.none),
    )

pub returns-then-is_none-clause-held : goal.returns-then-is_none-clause-held
returns-then-is_none-clause-held c =
    let len = c.raw_len-len.result in
    let text = c.args.text.now in
    no_pair c.args.format c.args.quoted text (take len text) _ c.raw_len-len.ensures.raw
    (none_of c.pair.result _ (sym c.if-is_none.ensures) c.pair.ensures.none)
    (whole text len)

pub returns-in_err-bytes-clause-memory : goal.returns-in_err-bytes-clause-memory
returns-in_err-bytes-clause-memory c =
    let len = c.raw_len-len.result in
    let text = c.args.text.now in
    let read = some_of c.pair.result _ (sym c.if-is_none.ensures) c.pair.ensures.some in
    on_error c.from_residual.result (HasPair c.args.format c.args.quoted text)
    (has_pair c.args.format c.args.quoted text (take len text) _ c.raw_len-len.ensures.raw (whole text len) read.0.0 read.1.0 read.0.1.now read.1.1 read.1.3 read.1.2)

pub returns-clause-held : goal.returns-clause-held
returns-clause-held c =
    let len = c.raw_len-len.result in
    let text = c.args.text.now in
    let read = some_of c.pair.result _ (sym c.if-is_none.ensures) c.pair.ensures.some in
    has_pair c.args.format c.args.quoted text (take len text) _ c.raw_len-len.ensures.raw (whole text len) read.0.0 read.1.0 read.0.1.now read.1.1 read.1.3 read.1.2
