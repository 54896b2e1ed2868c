-- Literals in the places of a query, an instance of the splice law: the tokens of the text, in
-- which no place is left. It depends only on the shape of literals.
use Rattle.std.specs.Prelude.{Bool}
use Rattle.std.proofs.Common.{◌≡◌, ℕ, List, [], ◌∷◌, length, true, Some, ◌∙◌, subst}
use Rattle.mysql_sql_text.specs.LiteralShape.{IsLiteral}
use Rattle.mysql_named_params.specs.Bytes.{space}
use Rattle.mysql_named_params.specs.Tokens.{Token, IsTokens, text_then}
use Rattle.mysql_named_params.specs.Places.{place_count}
use Rattle.mysql_named_params.proofs.TokenListLemmas.{one_token_list}
use Rattle.mysql_named_params.proofs.TokenRowLemmas.{text_then-text_of}
use Rattle.mysql_binding.specs.Replaced.{AreLiterals, AreTokensOf, with_literal_tokens}
use Rattle.mysql_binding.specs.Pieces.{pieces, joined_text}
use Rattle.mysql_binding.proofs.PieceLemmas.{joined_text_count}
use Rattle.mysql_binding.proofs.LiteralTokenLemmas.{IsCutBefore, IsLiteral-cut, IsLiteral-opens_nothing}
use Rattle.mysql_binding.proofs.SpliceLemmas.{AtPlaces, Each, IsSpliced, IsSettled, IsPlaceless, as_many_lists, everywhere, isolated_splice, spliced_places}
use Rattle.mysql_binding.proofs.UpToSpliceLemmas.{opens_nothing_after}

-- the tokens of a literal end where it ends, whatever follows
pub IsLiteral-tokens : (mode : Bool) (literal : List ℕ) (ts : List Token) → IsLiteral mode literal →
    IsTokens mode literal ts → IsCutBefore mode literal ts
IsLiteral-tokens mode literal ts h u =
    let c = IsLiteral-cut mode h in
    subst (λ x. IsCutBefore mode literal x) (one_token_list mode literal c.0 ts (record { text = c.1.cut_text; each = c.1.cut_tokens [] }) u) c.1

-- literals have tokens
pub literal_lists : (mode : Bool) (literals : List (List ℕ)) → AreLiterals mode literals →
    (lists : List (List Token)) × AreTokensOf mode literals lists
literal_lists mode [] h = ([], tt)
literal_lists mode (literal ∷ literals) h =
    let cut = IsLiteral-cut mode h.0 in
    let more = literal_lists mode literals h.1 in
    (cut.0 ∷ more.0, (record { text = cut.1.cut_text; each = cut.1.cut_tokens [] }, more.1))

-- ---- the facts of one literal, between any byte and any text

literal_opens_nothing : (mode : Bool) (literal : List ℕ) (list : List Token) → IsLiteral mode literal →
    IsTokens mode literal list → (before : ℕ) (rest : List ℕ) → opens_nothing_after before (text_then rest list) ≡ true
literal_opens_nothing mode literal list i is before rest = rw (text_then-text_of list rest, is.text) (IsLiteral-opens_nothing mode i before rest)

each_spliced : (mode : Bool) (literals : List (List ℕ)) (lists : List (List Token)) → AreLiterals mode literals →
    AreTokensOf mode literals lists → Each (λ list. (before : ℕ) (rest : List ℕ) → IsSpliced mode before list rest) lists
each_spliced mode [] [] s a = tt
each_spliced mode [] (list ∷ lists) s a = absurd a
each_spliced mode (literal ∷ literals) [] s a = absurd a
each_spliced mode (literal ∷ literals) (list ∷ lists) s a = (
  λ before rest. record {
    tokens = (IsLiteral-tokens mode literal list s.0 a.0).cut_tokens rest;
    opens_nothing = literal_opens_nothing mode literal list s.0 a.0 before rest;
  },
  each_spliced mode literals lists s.1 a.1,
)

each_settled : (mode : Bool) (literals : List (List ℕ)) (lists : List (List Token)) → AreLiterals mode literals →
    AreTokensOf mode literals lists → Each (λ list. (before : ℕ) (rest : List ℕ) → IsSettled before list rest) lists
each_settled mode [] [] s a = tt
each_settled mode [] (list ∷ lists) s a = absurd a
each_settled mode (literal ∷ literals) [] s a = absurd a
each_settled mode (literal ∷ literals) (list ∷ lists) s a =
    (λ before rest. (IsLiteral-tokens mode literal list s.0 a.0).cut_settled rest, each_settled mode literals lists s.1 a.1)

each_placeless : (mode : Bool) (literals : List (List ℕ)) (lists : List (List Token)) → AreLiterals mode literals →
    AreTokensOf mode literals lists → Each (λ list. (before : ℕ) (rest : List ℕ) → IsPlaceless before list rest) lists
each_placeless mode [] [] s a = tt
each_placeless mode [] (list ∷ lists) s a = absurd a
each_placeless mode (literal ∷ literals) [] s a = absurd a
each_placeless mode (literal ∷ literals) (list ∷ lists) s a =
    (λ before rest. (IsLiteral-tokens mode literal list s.0 a.0).cut_places, each_placeless mode literals lists s.1 a.1)

-- ---- literals in the places

module _ (mode : Bool) (text : List ℕ) (ts : List Token) (literals : List (List ℕ)) (lists : List (List Token)) (s : AreLiterals mode literals) (a : AreTokensOf mode literals lists) (e : joined_text (pieces ts) literals ≡ Some text) where
  as_many : length lists ≡ place_count ts
  as_many = as_many_lists mode literals lists a ∙ joined_text_count [] ts literals text e

  pub literals_spliced : AtPlaces (IsSpliced mode) space ts lists
  literals_spliced = everywhere (IsSpliced mode) space ts lists (each_spliced mode literals lists s a) as_many

  pub literals_settled : AtPlaces IsSettled space ts lists
  literals_settled = everywhere IsSettled space ts lists (each_settled mode literals lists s a) as_many

  literals_placeless : AtPlaces IsPlaceless space ts lists
  literals_placeless = everywhere IsPlaceless space ts lists (each_placeless mode literals lists s a) as_many

  pub isolated_places : place_count (with_literal_tokens ts lists) ≡ 0
  isolated_places = spliced_places space ts lists literals_placeless

-- isolation: the tokens of the bound text
pub isolated : (mode : Bool) (query text : List ℕ) (ts : List Token) (literals : List (List ℕ)) (lists : List (List Token)) →
    IsTokens mode query ts → AreLiterals mode literals → AreTokensOf mode literals lists →
    joined_text (pieces ts) literals ≡ Some text → IsTokens mode text (with_literal_tokens ts lists)
isolated mode query text ts literals lists is s a e =
    isolated_splice mode query text ts literals lists is (literals_spliced mode text ts literals lists s a e) a e
