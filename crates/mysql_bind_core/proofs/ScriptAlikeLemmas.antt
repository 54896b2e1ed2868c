-- Every server reads a script of written texts alike.
use Rattle.std.specs.Prelude.{Bool}
use Rattle.std.proofs.Common.{◌≡◌, ℕ, List, [], ◌∷◌}
use Rattle.mysql_named_params.specs.Tokens.{Token, OnTokens}
use Rattle.mysql_portable.specs.Portable.{AreReadAlike}
use Rattle.mysql_binding.specs.Replaced.{AreTokensOf}
use Rattle.mysql_bind_core.specs.Requests.{IsReadIn}
use Rattle.mysql_bind_core.specs.Scripts.{AreStatements, AreWritten, IsScript}
use Rattle.mysql_bind_core.specs.ScriptTokens.{script_tokens, tokens_of_statements}
use Rattle.mysql_bind_core.specs.declared.request.Portability.TheVariants as portability
use Rattle.mysql_bind_core.specs.declared.request.Request.{Request}
use Rattle.mysql_bind_core.specs.declared.row.Row.{Row}
use Rattle.mysql_bind_core.proofs.AlikeLineLemmas.{AreLinesReadAlike, script_alike, statements_alike}
use Rattle.mysql_bind_core.proofs.EndedTextLemmas.{line_of_text}
use Rattle.mysql_bind_core.proofs.ScriptTokenLemmas.{tokens_of_script, tokens_of_statements_alone}

module _ (request : Request) (query : List ℕ) (e : request.portability ≡ portability.Portable) (mode : Bool) (r : IsReadIn request.literals mode) where
  texts_alike : (rows : List Row) (texts : List (List ℕ)) (lists : List (List Token)) → AreWritten request query rows texts →
      AreTokensOf mode texts lists → AreLinesReadAlike lists
  texts_alike rows [] [] w a = tt
  texts_alike rows [] (ts ∷ lists) w a = absurd a
  texts_alike rows (text ∷ texts) [] w a = absurd a
  texts_alike [] (text ∷ texts) (ts ∷ lists) w a = absurd w
  texts_alike (row ∷ rows) (text ∷ texts) (ts ∷ lists) w a =
      (line_of_text request query w.0.taken e text mode r ts a.0 row.assignments.items w.0.assigned, texts_alike rows texts lists w.1 a.1)

  pub script_read_alike : (rows : List Row) (transaction : Bool) (bytes : List ℕ) → IsScript request query rows transaction bytes →
      OnTokens mode bytes AreReadAlike
  script_read_alike rows transaction bytes s =
      let t = tokens_of_script request query rows transaction mode bytes r s in
      (script_tokens transaction t.0, t.2, script_alike transaction t.0 (texts_alike rows s.texts t.0 s.written t.1))

  pub statements_read_alike : (rows : List Row) (bytes : List ℕ) → AreStatements request query rows [] bytes → OnTokens mode bytes AreReadAlike
  statements_read_alike rows bytes s =
      let t = tokens_of_statements_alone request query rows mode bytes r s in
      (tokens_of_statements t.0, t.2, statements_alike t.0 [] (texts_alike rows s.texts t.0 s.written t.1))
