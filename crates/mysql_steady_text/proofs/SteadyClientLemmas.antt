-- No steady literal holds a comment or a `;`.
use Rattle.std.specs.Prelude.{Bool, codes}
use Rattle.std.proofs.Common.{◌≡◌, ◌++◌, ℕ, true, List, [], ◌∷◌, None, refl}
use Rattle.mysql_sql_text.specs.LiteralShape.{hexadecimal_literal, quoted_literal}
use Rattle.mysql_named_params.specs.Bytes.{space, underscore}
use Rattle.mysql_named_params.specs.Tokens.{Token, Plain}
use Rattle.mysql_named_params.proofs.TokenEnds.{plain_at}
use Rattle.mysql_portable.proofs.SteadyLemmas.{steady_other}
use Rattle.mysql_params_core.specs.Given.{Given}
use Rattle.mysql_binding.specs.Replaced.{AreTokensOf}
use Rattle.mysql_binding.specs.StandsAlone.{first_not_alone}
use Rattle.mysql_binding.proofs.CauseLemmas.{no_cause_parts, no_place_out}
use Rattle.mysql_binding.proofs.BoundStatementLemmas.{StayWithin, WithinLiteral, both_within, list_within, plain_literal, within}
use Rattle.mysql_binding.proofs.SpliceLemmas.{Each}
use Rattle.mysql_steady_text.specs.SteadyShape.{IsSteadyLiteral, bare_literal, introduced_string, introduced_pairs}
use Rattle.mysql_steady_text.specs.SteadyLiterals.{AreSteadyLiterals}
use Rattle.mysql_steady_text.specs.SteadyText.{IsSteadyText}

-- one plain byte
underscore_within : WithinLiteral true (codes "_")
underscore_within = record { tokens = Plain underscore ∷ []; text = refl; each = λ rest. (plain_at true underscore rest refl, tt); stay = (refl, tt) }

space_within : WithinLiteral true (codes " ")
space_within = record { tokens = Plain space ∷ []; text = refl; each = λ rest. (plain_at true space rest refl, tt); stay = (refl, tt) }

introducer_within : WithinLiteral true (codes "_utf8mb4")
introducer_within = both_within true (codes "_") (codes "utf8mb4") underscore_within (plain_literal true (codes "utf8mb4") refl)

steady_within : {literal : List ℕ} → IsSteadyLiteral literal → WithinLiteral true literal
steady_within (bare_literal literal h) = within true h
steady_within (introduced_string literal h) =
    both_within true (codes "_utf8mb4") literal introducer_within (within true (quoted_literal literal h))
steady_within (introduced_pairs pairs h) =
    both_within true (codes "_utf8mb4") (codes " " ++ (codes "0x" ++ pairs)) introducer_within
    (both_within true (codes " ") (codes "0x" ++ pairs) space_within (within true (hexadecimal_literal pairs h)))

pub steady_literals_within : (mode : Bool) (literals : List (List ℕ)) (lists : List (List Token)) → AreSteadyLiterals literals →
    AreTokensOf mode literals lists → Each StayWithin lists
steady_literals_within mode [] [] s a = tt
steady_literals_within mode [] (list ∷ lists) s a = absurd a
steady_literals_within mode (literal ∷ literals) [] s a = absurd a
steady_literals_within mode (literal ∷ literals) (list ∷ lists) s a =
    (list_within true literal list (steady_within s.0) (steady_other mode true literal list s.1 a.0), steady_literals_within mode literals lists s.2 a.1)

-- the places of a query to which a text is bound stand alone
pub bound_alone : (ts : List Token) (given : Given) (text : List ℕ) → IsSteadyText ts given text → first_not_alone ts ≡ None
bound_alone ts given text t = no_place_out ts t.values (no_cause_parts ts given t.values t.no_cause t.looked_up).1
