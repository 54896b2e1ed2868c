-- The script of groups of records: its tokens, that every server reads it alike, and what a client makes
-- of it.
use Rattle.std.specs.Prelude.{Bool}
use Rattle.std.proofs.Common.{◌≡◌, ◌++◌, ◌∙◌, ℕ, List, [], ◌∷◌, ap, subst}
use Rattle.mysql_named_params.specs.Tokens.{Token, IsTokens, OnTokens}
use Rattle.mysql_named_params.proofs.TokenListLemmas.{one_token_list}
use Rattle.mysql_portable.specs.FirstUnportableInClient.{IsPortableInClient}
use Rattle.mysql_portable.specs.Portable.{AreReadAlike}
use Rattle.mysql_binding.specs.Replaced.{AreTokensOf}
use Rattle.mysql_fragments.specs.GivenFragments.{named}
use Rattle.mysql_records.specs.Records.{IsTable}
use Rattle.mysql_bind_core.specs.Groups.{AreGroups, AreGroupsAppended, more_groups, no_groups, records_of}
use Rattle.mysql_bind_core.specs.Requests.{IsReadIn, mode_of}
use Rattle.mysql_bind_core.specs.RowItems.{RowsSaid}
use Rattle.mysql_bind_core.specs.RowsBound.{IsRowsWritten}
use Rattle.mysql_bind_core.specs.Scripts.{closing, opening}
use Rattle.mysql_bind_core.specs.ScriptTokens.{IsSentByClient, script_tokens}
use Rattle.mysql_bind_core.specs.Tables.{BeginsWithRecords, Fields, no_records}
use Rattle.mysql_bind_core.specs.TakenQuery.{RequestedQuery}
use Rattle.mysql_bind_core.specs.declared.assignment.Assignment.{Assignment}
use Rattle.mysql_bind_core.specs.declared.group_form.GroupForm.{GroupForm}
use Rattle.mysql_bind_core.specs.declared.request.Portability.TheVariants as portability
use Rattle.mysql_bind_core.proofs.AlikeLineLemmas.{AreLinesReadAlike, script_alike}
use Rattle.mysql_bind_core.proofs.BoundLineLemmas.{HasLine, closed_lowered}
use Rattle.mysql_bind_core.proofs.EndedTextLemmas.{line_of_fragments}
use Rattle.mysql_bind_core.proofs.RowItemLemmas.{records_behind, records_of_rows}
use Rattle.mysql_bind_core.proofs.ScriptSentLemmas.{AreInClient, script_kept}
use Rattle.mysql_bind_core.proofs.ScriptTokenLemmas.{HasLines, named_line, tokens_of_lines}
use Rattle.mysql_bind_core.proofs.TableLemmas.{table_of}

-- ---- the records of groups

pub records_of_groups : (query : RequestedQuery) (form : GroupForm) (text : List ℕ) (groups : List (List Fields)) (texts : List (List ℕ)) (rest : List ℕ) →
    AreGroups query form text groups texts rest → BeginsWithRecords form.table.format text (records_of groups) rest
records_of_groups query form text groups texts rest (no_groups t) = no_records t
records_of_groups query form text groups texts rest (more_groups r w gs ts t b e first others) =
    records_behind form.table t r b (records_of gs) e (records_of_rows form.table t r first.rows b first.begins) (records_of_groups query form b gs ts e others)

pub table_of_groups : (query : RequestedQuery) (form : GroupForm) (text : List ℕ) (groups : List (List Fields)) (texts : List (List ℕ)) (rest : List ℕ) →
    AreGroups query form text groups texts rest → rest ≡ [] → IsTable form.table.format (records_of groups) text
table_of_groups query form text groups texts rest h empty = table_of form.table.format text (records_of groups) rest (records_of_groups query form text groups texts rest h) empty

-- ---- the texts of groups

rows_line : (query : RequestedQuery) (fixed : List Assignment) (rows : RowsSaid) (text : List ℕ) (mode : Bool) → IsReadIn query.request.literals mode →
    IsRowsWritten query fixed rows text → HasLine mode text
rows_line query fixed rows text mode r w =
    let o = w.text_is.bound in
    named_line query.request.literals query.query o.0 (named w.text_is.entries) text mode r o.1
    (closed_lowered (mode_of query.request.literals) query.query o.0 o.1 w.taken.closed) o.2

groups_lines : (query : RequestedQuery) (form : GroupForm) (mode : Bool) → IsReadIn query.request.literals mode → (text : List ℕ)
    (groups : List (List Fields)) (texts : List (List ℕ)) (rest : List ℕ) → AreGroups query form text groups texts rest → HasLines mode texts
groups_lines query form mode r text groups texts rest (no_groups t) = record { lists = []; tokens_of = tt; closed = tt }
groups_lines query form mode r text groups texts rest (more_groups rs w gs ts t b e first others) =
    let one = rows_line query form.fixed.now first.rows w mode r first.is_written in
    let more = groups_lines query form mode r b gs ts e others in
    record { lists = one.tokens ∷ more.lists; tokens_of = (one.is, more.tokens_of); closed = (one.closed, more.closed) }

pub tokens_of_groups : (query : RequestedQuery) (form : GroupForm) (text : List ℕ) (groups : List (List Fields)) (rest : List ℕ) (transaction mode : Bool)
    (after bytes : List ℕ) → IsReadIn query.request.literals mode → (s : AreGroupsAppended query form text groups rest (opening transaction) after) →
    bytes ≡ after ++ closing transaction → (lists : List (List Token)) × AreTokensOf mode s.texts lists × IsTokens mode bytes (script_tokens transaction lists)
tokens_of_groups query form text groups rest transaction mode after bytes r s whole =
    tokens_of_lines transaction mode s.texts bytes (groups_lines query form mode r text groups s.texts rest s.are)
    (whole ∙ ap (λ front. front ++ closing transaction) s.bytes)

-- ---- what servers and clients read

module _ (query : RequestedQuery) (form : GroupForm) (e : query.request.portability ≡ portability.Portable) (mode : Bool) (r : IsReadIn query.request.literals mode) where
  groups_in_client : (text : List ℕ) (groups : List (List Fields)) (texts : List (List ℕ)) (rest : List ℕ) (lists : List (List Token)) →
      AreGroups query form text groups texts rest → AreTokensOf mode texts lists → AreInClient lists
  groups_in_client text groups texts rest [] (no_groups t) a = tt
  groups_in_client text groups texts rest (us ∷ lists) (no_groups t) a = absurd a
  groups_in_client text groups texts rest [] (more_groups rs w gs ts t b behind first others) a = absurd a
  groups_in_client text groups texts rest (us ∷ lists) (more_groups rs w gs ts t b behind first others) a =
      let p = first.is_written.portable_text e mode r in
      (subst IsPortableInClient (one_token_list mode w p.0 us p.1 a.0) p.2, groups_in_client b gs ts behind lists others a.1)

  groups_alike : (text : List ℕ) (groups : List (List Fields)) (texts : List (List ℕ)) (rest : List ℕ) (lists : List (List Token)) →
      AreGroups query form text groups texts rest → AreTokensOf mode texts lists → AreLinesReadAlike lists
  groups_alike text groups texts rest [] (no_groups t) a = tt
  groups_alike text groups texts rest (us ∷ lists) (no_groups t) a = absurd a
  groups_alike text groups texts rest [] (more_groups rs w gs ts t b behind first others) a = absurd a
  groups_alike text groups texts rest (us ∷ lists) (more_groups rs w gs ts t b behind first others) a =
      let x = first.is_written.text_is in (
        line_of_fragments query.request query.query first.is_written.taken e w mode r us a.0 x.bound.0 (named x.entries) x.bound.1 x.bound.2,
        groups_alike b gs ts behind lists others a.1,
      )

  pub script_of_groups_in_client : (text : List ℕ) (groups : List (List Fields)) (rest : List ℕ) (transaction : Bool) (after bytes : List ℕ) →
      AreGroupsAppended query form text groups rest (opening transaction) after → bytes ≡ after ++ closing transaction →
      OnTokens mode bytes IsSentByClient
  script_of_groups_in_client text groups rest transaction after bytes s whole =
      let t = tokens_of_groups query form text groups rest transaction mode after bytes r s whole in
      (script_tokens transaction t.0, t.2, script_kept transaction t.0 (groups_in_client text groups s.texts rest t.0 s.are t.1))

  pub script_of_groups_alike : (text : List ℕ) (groups : List (List Fields)) (rest : List ℕ) (transaction : Bool) (after bytes : List ℕ) →
      AreGroupsAppended query form text groups rest (opening transaction) after → bytes ≡ after ++ closing transaction →
      OnTokens mode bytes AreReadAlike
  script_of_groups_alike text groups rest transaction after bytes s whole =
      let t = tokens_of_groups query form text groups rest transaction mode after bytes r s whole in
      (script_tokens transaction t.0, t.2, script_alike transaction t.0 (groups_alike text groups s.texts rest t.0 s.are t.1))
