use Rattle.std.proofs.Common.{◌≡◌, ◌∙◌, ℕ, List, Ok, refl, subst, sym}
use Rattle.mysql_named_params.specs.Reading.{OnWideTokens}
use Rattle.mysql_binding.proofs.AppendedTextLemmas.{handed_on}
use Rattle.mysql_fragments.specs.GivenFragments.{FragmentMap, fragment_map, named}
use Rattle.mysql_fragments.specs.declared.fragment.Fragment.TheVariants.{Rows}
use Rattle.mysql_bind_core.specs.Entries.{Entries, IsAskedText, with_fragment}
use Rattle.mysql_bind_core.specs.Refusals.{IsEntriesRefusal, IsFragmentsRefusal}
use Rattle.mysql_bind_core.specs.Requests.{mode_of}
use Rattle.mysql_bind_core.specs.RowItems.{rows_said}
use Rattle.mysql_bind_core.specs.RowsBound.{AreEntriesOf, IsRowsBoundRefusal, IsRowsText, of_entries, of_name, row_name}
use Rattle.mysql_bind_core.specs.declared.request.Request.{Request}
use Rattle.mysql_bind_core.proofs.BindingLemmas.{if_ok, if_err}
use Rattle.mysql_bind_core.proofs.rows_text.rows_text.Goals as goal

pub returns-in_err-insert_fragment-clause-refused : goal.returns-in_err-insert_fragment-clause-refused
returns-in_err-insert_fragment-clause-refused c =
    let found = c.in_ok-entries.ensures.given in
    let why = c.in_err-insert_fragment.field-0.0 in
    handed_on (IsRowsBoundRefusal c.args.query.now c.args.fixed.now (rows_said c.args.rows.items))
    c.from_residual-in_err-insert_fragment.result why c.from_residual-in_err-insert_fragment.ensures.1
    (of_name found.0 c.args.rows found.1 refl
    (subst (λ (made : Entries). IsEntriesRefusal (with_fragment made (row_name, Rows c.args.rows)) why) (sym found.2)
    c.in_err-insert_fragment.ensures.refused))

pub returns-clause-bound : goal.returns-clause-bound
returns-clause-bound c =
    let q = c.args.query.now in
    let found = c.in_ok-entries.ensures.given in
    let given : FragmentMap = fragment_map c.insert_fragment.new.entries.entries in
    let are : AreEntriesOf c.args.fixed.now (rows_said c.args.rows.items) given = record {
      pairs = found.0;
      items = c.args.rows;
      contents_are = found.1;
      rows_are = refl;
      entries_are = subst (λ (made : Entries). with_fragment made (row_name, Rows c.args.rows) ≡ Ok given) (sym found.2) c.in_ok-insert_fragment.ensures.made;
    } in
    if_ok c.named_text.result
    (λ text. OnWideTokens (mode_of c.request.result.literals) c.query.result.now (λ ts. IsAskedText c.request.result.literals ts (named given) text.items))
    (λ text. IsRowsText q c.args.fixed.now (rows_said c.args.rows.items) text.items)
    (λ text bound. record {
      entries = given;
      are = are;
      bound = subst (λ (query : List ℕ). OnWideTokens (mode_of q.request.literals) query (λ ts. IsAskedText q.request.literals ts (named given) text.items))
          (c.query.ensures ∙ c.parsed.ensures.query)
          (subst (λ (r : Request). OnWideTokens (mode_of r.literals) c.query.result.now (λ ts. IsAskedText r.literals ts (named given) text.items)) c.request.ensures.request bound);
    })
    c.named_text.ensures.bound

pub returns-clause-refused : goal.returns-clause-refused
returns-clause-refused c =
    let q = c.args.query.now in
    let found = c.in_ok-entries.ensures.given in
    let given : FragmentMap = fragment_map c.insert_fragment.new.entries.entries in
    let are : AreEntriesOf c.args.fixed.now (rows_said c.args.rows.items) given = record {
      pairs = found.0;
      items = c.args.rows;
      contents_are = found.1;
      rows_are = refl;
      entries_are = subst (λ (made : Entries). with_fragment made (row_name, Rows c.args.rows) ≡ Ok given) (sym found.2) c.in_ok-insert_fragment.ensures.made;
    } in
    if_err c.named_text.result
    (λ why. OnWideTokens (mode_of c.request.result.literals) c.query.result.now (λ ts. IsFragmentsRefusal c.request.result.literals ts (named given) why))
    (IsRowsBoundRefusal q c.args.fixed.now (rows_said c.args.rows.items))
    (λ why refused. of_entries given are
    (subst (λ (query : List ℕ). OnWideTokens (mode_of q.request.literals) query (λ ts. IsFragmentsRefusal q.request.literals ts (named given) why))
    (c.query.ensures ∙ c.parsed.ensures.query)
    (subst (λ (r : Request). OnWideTokens (mode_of r.literals) c.query.result.now (λ ts. IsFragmentsRefusal r.literals ts (named given) why)) c.request.ensures.request refused)))
    c.named_text.ensures.refused
