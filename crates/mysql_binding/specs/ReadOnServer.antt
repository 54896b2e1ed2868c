-- The tokens of texts on a server, each text read by itself: for the law `bound_texts_on_servers`.
use Rattle.std.specs.Prelude.{ℕ, Bool, List, [], ◌∷◌, ⊤}
use Rattle.mysql_named_params.specs.Tokens.{Token}
use Rattle.mysql_portable.specs.ServerTokens.{Server, IsReadOn}

-- as many lists as texts, and each is the tokens of its text on the server, read by itself
abbrev pub AreReadOn : Server → Bool → List (List ℕ) → List (List Token) → Type 0
AreReadOn server mode [] [] = ⊤
AreReadOn server mode [] (list ∷ lists) = ⊥
AreReadOn server mode (text ∷ texts) [] = ⊥
AreReadOn server mode (text ∷ texts) (list ∷ lists) =
    IsReadOn server mode text list × AreReadOn server mode texts lists
