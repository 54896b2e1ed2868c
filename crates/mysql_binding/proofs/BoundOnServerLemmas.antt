-- A text that is bound to a portable query, on a server: an instance of the splice law.
use Rattle.std.specs.Prelude.{Bool}
use Rattle.std.proofs.Common.{◌≡◌, ℕ, List, [], ◌∷◌, Some, sym, subst}
use Rattle.mysql_named_params.specs.Bytes.{space}
use Rattle.mysql_named_params.specs.Tokens.{Token, IsTokens}
use Rattle.mysql_portable.specs.Server.{Server, IsReadOn}
use Rattle.mysql_portable.specs.Portable.{AreReadAlikeBefore, IsReadAs}
use Rattle.mysql_portable.specs.Quiet.{IsHonest, DecidesWithin}
use Rattle.mysql_binding.specs.Pieces.{pieces, joined_text}
use Rattle.mysql_binding.specs.Replaced.{AreLiterals, AreTokensOf, with_literal_tokens}
use Rattle.mysql_binding.specs.ReadOnServer.{AreReadOn}
use Rattle.mysql_binding.proofs.ReplacedLemmas.{IsLiteral-tokens, literals_spliced, literals_settled}
use Rattle.mysql_binding.proofs.SpliceLemmas.{spliced_portable, spliced_text}
use Rattle.mysql_binding.proofs.SplicedOnServerLemmas.{spliced_on, spliced_read, list_on}

module _ (mode : Bool) (query text : List ℕ) (ts : List Token) (literals : List (List ℕ)) (lists : List (List Token)) (h : IsTokens mode query ts) (p : AreReadAlikeBefore [] ts) (s : AreLiterals mode literals) (a : AreTokensOf mode literals lists) (e : joined_text (pieces ts) literals ≡ Some text) where
  -- a text bound to a portable query is portable
  pub bound_portable : AreReadAlikeBefore [] (with_literal_tokens ts lists)
  bound_portable = spliced_portable mode space ts lists h.each p (literals_spliced mode text ts literals lists s a e) (literals_settled mode text ts literals lists s a e)

  -- isolation on a server
  pub isolated_on : (server : Server) (us : List Token) → IsHonest server → DecidesWithin server →
      IsReadOn server mode query us → IsReadOn server mode text (with_literal_tokens us lists)
  isolated_on server us honest within u =
      subst (λ x. IsReadOn server mode x (with_literal_tokens us lists)) (spliced_text mode ts literals lists text a e)
      (spliced_on server mode query ts us lists honest within h p (literals_spliced mode text ts literals lists s a e) (literals_settled mode text ts literals lists s a e) u)

  -- the tokens of the text, on a server that need not decide within
  pub bound_read : (server : Server) (vs : List Token) → IsHonest server → IsReadOn server mode text vs →
      IsReadAs (with_literal_tokens ts lists) vs
  bound_read server vs honest v =
      spliced_read server mode ts vs lists honest h.each p (literals_spliced mode text ts literals lists s a e) (literals_settled mode text ts literals lists s a e)
      (subst (λ x. IsReadOn server mode x vs) (sym (spliced_text mode ts literals lists text a e)) v)

-- the tokens of literals, each read by itself
pub literals_on : (server : Server) (mode : Bool) (literals : List (List ℕ)) (lists : List (List Token)) →
    AreLiterals mode literals → AreTokensOf mode literals lists → AreReadOn server mode literals lists
literals_on server mode [] [] s a = tt
literals_on server mode [] (list ∷ lists) s a = absurd a
literals_on server mode (literal ∷ literals) [] s a = absurd a
literals_on server mode (literal ∷ literals) (list ∷ lists) s a =
    (list_on server mode literal list a.0 ((IsLiteral-tokens mode literal list s.0 a.0).cut_settled []), literals_on server mode literals lists s.1 a.1)
