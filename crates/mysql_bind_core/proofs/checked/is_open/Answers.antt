use Rattle.std.proofs.Common.{◌≡◌, Bool, true, false, not, refl, sym, ap, ◌∙◌, rules, true≢false}
use Rattle.std.proofs.lemmas.Slice.Eq.{ends_is}
use Rattle.std.proofs.lemmas.Bool.Decides.{Decides-eqb}
use Rattle.mysql_bind_core.proofs.QueryEndLemmas.{some_text, first_and_rest, string_tail, string_open, string_closed, identifier_open, identifier_closed, comment_tail, comment_open, comment_closed, other_closed}
use Rattle.mysql_bind_core.proofs.checked.is_open.Goals as goal

was_true : (r : Bool) → not r ≡ false → r ≡ true
was_true true e = refl
was_true false e = absurd (true≢false e)

pub bounds-text-0 : goal.bounds-text-0
bounds-text-0 c = some_text _ _ c.requires

pub is_open_string-requires-clause-string : goal.is_open_string-requires-clause-string
is_open_string-requires-clause-string c =
    let some = some_text _ _ c.requires in
    string_tail _ _ _ _ (first_and_rest c.args.text.now _ some refl) c.requires (search rules)

pub returns-then-first-eq34-clause-open : goal.returns-then-first-eq34-clause-open
returns-then-first-eq34-clause-open c = λ is.
    let some = some_text _ _ c.requires in
    string_open _ _ _ _ (first_and_rest c.args.text.now _ some refl) (search rules) (c.is_open_string.ensures.«open» is)

pub returns-then-first-eq34-clause-closed : goal.returns-then-first-eq34-clause-closed
returns-then-first-eq34-clause-closed c = λ is.
    let some = some_text _ _ c.requires in
    string_closed _ _ _ _ (first_and_rest c.args.text.now _ some refl) (search rules) (c.is_open_string.ensures.closed is)

pub returns-then-first-eq96-clause-open : goal.returns-then-first-eq96-clause-open
returns-then-first-eq96-clause-open c = λ is.
    let some = some_text _ _ c.requires in
    let other = (ends_is Decides-eqb _ _ _ c.ends_with.ensures.value).1 in
    identifier_open _ _ _ (first_and_rest c.args.text.now _ some c.if-first-eq96.true) c.requires (λ front e. true≢false (sym is ∙ ap not (other front e)))

pub returns-then-first-eq96-clause-closed : goal.returns-then-first-eq96-clause-closed
returns-then-first-eq96-clause-closed c = λ is.
    let some = some_text _ _ c.requires in
    let ended = (ends_is Decides-eqb _ _ _ c.ends_with.ensures.value).0 in
    identifier_closed _ _ _ _ (first_and_rest c.args.text.now _ some c.if-first-eq96.true) c.requires (ended (was_true _ is))

pub returns-then-text-gt1-clause-open : goal.returns-then-text-gt1-clause-open
returns-then-text-gt1-clause-open c = λ is.
    let some = some_text _ _ c.requires in
    let held = comment_tail _ _ _ (first_and_rest c.args.text.now _ some c.if-first-eq47.true) c.if-text-gt1.true c.requires in
    let other = (ends_is Decides-eqb _ _ _ c.ends_with-then-text-gt1.ensures.value).1 in
    comment_open _ _ _ held (λ front e. true≢false (sym is ∙ ap not (other front e)))

pub returns-then-text-gt1-clause-closed : goal.returns-then-text-gt1-clause-closed
returns-then-text-gt1-clause-closed c = λ is.
    let some = some_text _ _ c.requires in
    let held = comment_tail _ _ _ (first_and_rest c.args.text.now _ some c.if-first-eq47.true) c.if-text-gt1.true c.requires in
    let ended = (ends_is Decides-eqb _ _ _ c.ends_with-then-text-gt1.ensures.value).0 in
    comment_closed _ _ _ _ held (ended (was_true _ is))

pub returns-else-first-eq47-clause-closed : goal.returns-else-first-eq47-clause-closed
returns-else-first-eq47-clause-closed c = λ is.
    let some = some_text _ _ c.requires in
    other_closed _ _ _ _ (first_and_rest c.args.text.now _ some refl) c.requires (search rules) (search rules) (search rules)
