-- A bound text is sent as it is, if its literals are in one line.
use Rattle.std.specs.Prelude.{Bool, IfSome}
use Rattle.std.proofs.Common.{◌≡◌, ℕ, true, List, [], ◌∷◌, map, Option, Some, None, subst, ◌∙◌}
use Rattle.mysql_values.specs.declared.value.Value.{Value}
use Rattle.mysql_sql_text.specs.InLine.{AreInLine}
use Rattle.mysql_sql_text.proofs.InLineLemmas.{StandsInLine}
use Rattle.mysql_named_params.specs.Bytes.{space}
use Rattle.mysql_named_params.specs.Tokens.{Token, IsTokens}
use Rattle.mysql_portable.specs.FirstUnportableInClient.{AreSentAsTheyAre, AreSentExceptMarks}
use Rattle.mysql_params_core.specs.Given.{Given}
use Rattle.mysql_binding.specs.Isolation.{IsBoundText}
use Rattle.mysql_binding.specs.Pieces.{joined_text, pieces}
use Rattle.mysql_binding.specs.Replaced.{AreLiterals, AreTokensOf, with_literal_tokens}
use Rattle.mysql_binding.specs.StandsAlone.{first_not_alone}
use Rattle.mysql_binding.proofs.CauseLemmas.{no_cause_parts, no_place_out}
use Rattle.mysql_binding.proofs.PieceLemmas.{joined_text_count}
use Rattle.mysql_binding.proofs.ReplacedLemmas.{isolated_places}
use Rattle.mysql_binding.proofs.SentLiteralLemmas.{literal_sent, sent_alone}
use Rattle.mysql_binding.proofs.SentTextLemmas.{IsSentAt, spliced_sent, without_marks}
use Rattle.mysql_binding.proofs.SpliceLemmas.{Each, HoldsAlone, alone, as_many_lists}

-- the literals of values are in one line, if the literal of each value is
pub written_in_line : (literal : Value → Option (List ℕ)) → ((v : Value) → IfSome (literal v) StandsInLine) →
    (values : List Value) (texts : List (List ℕ)) → map literal values ≡ map Some texts → AreInLine texts
written_in_line literal each values [] e = tt
written_in_line literal each [] (text ∷ texts) e = cc
written_in_line literal each (v ∷ values) (text ∷ texts) e =
    let here : literal v ≡ Some text = cc in
    let later : map literal values ≡ map Some texts = cc in
    let stands : StandsInLine text = subst (λ o. IfSome o StandsInLine) here (each v) in
    (stands.all, written_in_line literal each values texts later)

each_sent : (mode : Bool) (literals : List (List ℕ)) (lists : List (List Token)) → AreLiterals mode literals → AreInLine literals →
    AreTokensOf mode literals lists → Each (HoldsAlone IsSentAt) lists
each_sent mode [] [] s p a = tt
each_sent mode [] (list ∷ lists) s p a = absurd a
each_sent mode (literal ∷ literals) [] s p a = absurd a
each_sent mode (literal ∷ literals) (list ∷ lists) s p a =
    (sent_alone mode literal list (literal_sent mode s.0 p.0) a.0, each_sent mode literals lists s.1 p.1 a.1)

-- a text is sent as it is with literals in line in the places of a query, which stand alone
pub literals_sent : (mode : Bool) (query text : List ℕ) (ts : List Token) (literals : List (List ℕ)) (lists : List (List Token)) → IsTokens mode query ts →
    first_not_alone ts ≡ None → AreLiterals mode literals → AreInLine literals → AreTokensOf mode literals lists →
    joined_text (pieces ts) literals ≡ Some text → AreSentExceptMarks ts → AreSentAsTheyAre (with_literal_tokens ts lists)
literals_sent mode query text ts literals lists h n s p a e k =
    without_marks (with_literal_tokens ts lists) true true (isolated_places mode text ts literals lists s a e)
    (spliced_sent mode space ts lists true true h.each
    (alone IsSentAt ts lists (each_sent mode literals lists s p a) (as_many_lists mode literals lists a ∙ joined_text_count [] ts literals text e) n) k)

-- the places of a query to which a text is bound stand alone
pub bound_alone : (mode : Bool) (ts : List Token) (given : Given) (text : List ℕ) → IsBoundText mode ts given text → first_not_alone ts ≡ None
bound_alone mode ts given text b = no_place_out ts b.values (no_cause_parts ts given b.values b.no_cause b.looked_up).1

pub bound_sent : (mode : Bool) (query text : List ℕ) (ts : List Token) (given : Given) → IsTokens mode query ts →
    (b : IsBoundText mode ts given text) → AreInLine b.literals → AreSentExceptMarks ts → AreSentAsTheyAre (with_literal_tokens ts b.literal_tokens)
bound_sent mode query text ts given h b p k =
    literals_sent mode query text ts b.literals b.literal_tokens h (bound_alone mode ts given text b) b.shapes p b.tokens_of_literals b.text_is k
