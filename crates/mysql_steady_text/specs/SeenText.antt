-- A text with literals in the places of a query, as it is seen over a character set.
use Rattle.std.specs.Prelude.{◌≡◌, ℕ, Bool, List, length, map, Some}
use Rattle.mysql_named_params.specs.Tokens.{Token, IsTokens}
use Rattle.mysql_portable.specs.CharacterSet.{CharacterSet, seen}
use Rattle.mysql_binding.specs.Pieces.{pieces, joined_text}
use Rattle.mysql_binding.specs.Replaced.{AreTokensOf, with_literal_tokens}
use Rattle.mysql_steady_text.specs.GuardedShape.{AreGuardedLiterals}

-- what is seen is the pieces of the query, with a text as long as each literal in its place
pub record IsSeenInPlaces (set : CharacterSet) (ts : List Token) (literals : List (List ℕ))
    (text : List ℕ) : Type 0 where
  -- the literals as they are seen, which have the shape of guarded literals
  pub shown : List (List ℕ)
  pub shapes : AreGuardedLiterals shown
  pub as_long : map length shown ≡ map length literals
  pub text_is : joined_text (pieces ts) shown ≡ Some (seen set text)

-- isolation over a character set: what is seen has in either mode the tokens of the query, with
-- those of one literal, as it is seen, in place of each name and mark
pub record IsIsolatedOver (set : CharacterSet) (ts : List Token) (literals : List (List ℕ))
    (text : List ℕ) : Type 0 where
  pub in_places : IsSeenInPlaces set ts literals text
  pub shown_tokens : List (List Token)
  pub tokens_of_shown : (mode : Bool) → AreTokensOf mode in_places.shown shown_tokens
  pub isolated : (mode : Bool) → IsTokens mode (seen set text) (with_literal_tokens ts shown_tokens)
