-- Steady literals that are in one line are sent as they are.
use Rattle.std.specs.Prelude.{Bool, codes}
use Rattle.std.specs.List.{list_all}
use Rattle.std.proofs.Common.{◌≡◌, ◌++◌, ℕ, true, List, [], ◌∷◌, None, Some, refl, ◌∙◌}
use Rattle.mysql_sql_text.specs.InLine.{AreInLine, is_in_line}
use Rattle.mysql_sql_text.specs.LiteralShape.{hexadecimal_literal}
use Rattle.mysql_named_params.specs.Bytes.{space, underscore}
use Rattle.mysql_named_params.specs.Tokens.{Token, IsTokens, Plain}
use Rattle.mysql_named_params.proofs.TokenEnds.{plain_at}
use Rattle.mysql_portable.specs.Client.{HoldNoOpener}
use Rattle.mysql_portable.specs.Portable.{AreReadAlikeBefore}
use Rattle.mysql_portable.specs.FoundInClient.{found_in_client, is_client_word}
use Rattle.mysql_portable.specs.FirstUnportableInClient.{AreSentAsTheyAre, AreSentExceptMarks, IsPortableInClient}
use Rattle.mysql_portable.proofs.PlaceTextLemmas.{placeless_join_no_number}
use Rattle.mysql_portable.proofs.SteadyLemmas.{steady_other}
use Rattle.mysql_binding.specs.Pieces.{pieces, joined_text}
use Rattle.mysql_binding.specs.Replaced.{AreTokensOf, with_literal_tokens}
use Rattle.mysql_binding.specs.StandsAlone.{first_not_alone}
use Rattle.mysql_binding.proofs.BoundStatementLemmas.{replaced_no_opener}
use Rattle.mysql_binding.proofs.PieceLemmas.{joined_text_count}
use Rattle.mysql_binding.proofs.SentLiteralLemmas.{and_none, SentPart, SentText, both_parts, front_and_part, literal_sent, part_of, quoted_text, run_part, sent_alone}
use Rattle.mysql_binding.proofs.SentTextLemmas.{is_sent_first, IsSentAt, spliced_sent, without_marks}
use Rattle.mysql_binding.proofs.SpliceLemmas.{Each, HoldsAlone, alone, as_many_lists}
use Rattle.mysql_steady_text.specs.SteadyShape.{IsSteadyLiteral, bare_literal, introduced_string, introduced_pairs}
use Rattle.mysql_steady_text.specs.SteadyLiterals.{AreSteadyLiterals}
use Rattle.mysql_steady_text.proofs.SteadyClientLemmas.{steady_literals_within}
use Rattle.mysql_steady_text.proofs.SteadySpliceLemmas.{steady_isolated, steady_places, steady_portable}

-- `_` is no word of a client
underscore_found : (rest : List ℕ) (statement line : Bool) → found_in_client statement line (Plain underscore) rest ≡ None
unfolding is_client_word
underscore_found rest statement line = rw (and_none line, and_none statement) refl

underscore_text : SentText true (codes "_")
unfolding is_sent_first
underscore_text = record {
  list = Plain underscore ∷ [];
  list_text = refl;
  list_each = λ rest. (plain_at true underscore rest refl, tt);
  list_front = λ rest. refl;
  list_sent = λ rest statement line. (underscore_found rest statement line, tt);
  list_statement = λ statement. refl;
  list_line = λ line. refl;
}

space_part : SentPart true (codes " ")
space_part = record {
  part = Plain space ∷ [];
  part_text = refl;
  part_each = λ rest. (plain_at true space rest refl, tt);
  part_sent = λ rest. (refl, tt);
  part_statement = refl;
  part_line = refl;
}

introducer_text : SentText true (codes "_utf8mb4")
introducer_text = front_and_part true (codes "_") (codes "utf8mb4") underscore_text (run_part true (codes "utf8mb4") refl)

pub steady_sent : {literal : List ℕ} → IsSteadyLiteral literal → list_all is_in_line literal ≡ true → SentText true literal
steady_sent (bare_literal literal h) s = literal_sent true h s
steady_sent (introduced_string literal h) s =
    front_and_part true (codes "_utf8mb4") literal introducer_text (part_of true literal (quoted_text true literal h s))
steady_sent (introduced_pairs pairs h) s =
    front_and_part true (codes "_utf8mb4") (codes " " ++ (codes "0x" ++ pairs)) introducer_text
    (both_parts true (codes " ") (codes "0x" ++ pairs) space_part (part_of true (codes "0x" ++ pairs) (literal_sent true (hexadecimal_literal pairs h) s)))

each_sent : (mode : Bool) (literals : List (List ℕ)) (lists : List (List Token)) → AreSteadyLiterals literals → AreInLine literals →
    AreTokensOf mode literals lists → Each (HoldsAlone IsSentAt) lists
each_sent mode [] [] s p a = tt
each_sent mode [] (list ∷ lists) s p a = absurd a
each_sent mode (literal ∷ literals) [] s p a = absurd a
each_sent mode (literal ∷ literals) (list ∷ lists) s p a =
    (sent_alone true literal list (steady_sent s.0 p.0) (steady_other mode true literal list s.1 a.0), each_sent mode literals lists s.2 p.1 a.1)

module _ (mode : Bool) (query text : List ℕ) (ts : List Token) (literals : List (List ℕ)) (lists : List (List Token)) (h : IsTokens mode query ts) (n : first_not_alone ts ≡ None) (s : AreSteadyLiterals literals) (p : AreInLine literals) (a : AreTokensOf mode literals lists) (e : joined_text (pieces ts) literals ≡ Some text) where
  pub steady_text_sent : AreSentExceptMarks ts → AreSentAsTheyAre (with_literal_tokens ts lists)
  steady_text_sent k =
      without_marks (with_literal_tokens ts lists) true true (steady_places mode text ts literals lists n s a e)
      (spliced_sent mode space ts lists true true h.each
      (alone IsSentAt ts lists (each_sent mode literals lists s p a) (as_many_lists mode literals lists a ∙ joined_text_count [] ts literals text e) n) k)

  pub steady_text_portable : AreReadAlikeBefore [] ts → HoldNoOpener ts → AreSentExceptMarks ts → IsPortableInClient (with_literal_tokens ts lists)
  steady_text_portable r o k = record {
    portable = record {
      alike = steady_portable mode text ts literals lists n s a e query h r;
      apart = placeless_join_no_number mode _ (steady_isolated mode text ts literals lists n s a e query h).each (steady_places mode text ts literals lists n s a e);
    };
    no_opener = replaced_no_opener ts lists (steady_literals_within mode literals lists s a) o;
    sent = steady_text_sent k;
  }
