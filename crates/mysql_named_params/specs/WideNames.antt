-- Wide names, which can have capitals, on the tokens of the grammar, whose names have none. A wide
-- name is a `:`, a letter or `_`, and all the letters, digits and `_` that follow. In the grammar
-- it is a name followed by plain bytes, or a plain `:` followed by plain bytes. No server and no
-- standard has wide names; this library defines them.
use Rattle.std.specs.Prelude.{◌==◌, ◌&&◌, ◌||◌, ◌++◌, nat_le, ℕ, Bool, true, false, IsTrue, IsFalse, if◌then◌else◌, List, [], ◌∷◌, ⊤}
use Rattle.std.specs.List.{list_all}
use Rattle.std.specs.Str.{byte}
use Rattle.mysql_named_params.specs.Bytes.{colon, is_start_byte, is_name_byte}
use Rattle.mysql_named_params.specs.Tokens.{Token, Name, Plain}

-- b'A' to b'Z'
abbrev pub is_capital : ℕ → Bool
is_capital b = nat_le (byte "A") b && nat_le b (byte "Z")

-- a byte that begins a wide name
abbrev pub is_wide_start : ℕ → Bool
is_wide_start b = is_start_byte b || is_capital b

-- a byte that continues a wide name
abbrev pub is_wide_byte : ℕ → Bool
is_wide_byte b = is_name_byte b || is_capital b

-- a byte that begins a wide name, followed by bytes that continue one
abbrev pub IsWideName : List ℕ → Type 0
IsWideName [] = ⊥
IsWideName (b ∷ bs) = IsTrue (is_wide_start b) × IsTrue (list_all is_wide_byte bs)

-- the plain bytes at the front that continue a wide name, without a gap
abbrev pub run : List Token → List ℕ
run [] = []
run (Plain b ∷ ts) = if is_wide_byte b then b ∷ run ts else []
run (t ∷ ts) = []

-- the first token is a plain byte that begins a wide name
abbrev pub begins_wide : List Token → Bool
begins_wide (Plain b ∷ ts) = is_wide_start b
begins_wide ts = false

-- the first token is a plain byte that continues a wide name
abbrev pub continues_wide : List Token → Bool
continues_wide (Plain b ∷ ts) = is_wide_byte b
continues_wide ts = false

-- The tokens with one name in place of those of each wide name. If `inside` is true, a wide name is
-- directly before the tokens, and the run at their front belongs to it.
abbrev pub widened_from : Bool → List Token → List Token
widened_from inside [] = []
widened_from inside (Name name ∷ ts) = Name (name ++ run ts) ∷ widened_from true ts
widened_from inside (Plain b ∷ ts) =
    if inside && is_wide_byte b then widened_from true ts
    else if b == colon && begins_wide ts then Name (run ts) ∷ widened_from true ts
    else Plain b ∷ widened_from false ts
widened_from inside (t ∷ ts) = t ∷ widened_from false ts

-- the tokens of a query with one name in place of those of each wide name
abbrev pub widened : List Token → List Token
widened = widened_from false

-- no byte that continues a wide name follows a name, and none that begins one follows a plain `:`
abbrev pub HasNoCapitals : List Token → Type 0
HasNoCapitals [] = ⊤
HasNoCapitals (Name name ∷ ts) = IsFalse (continues_wide ts) × HasNoCapitals ts
HasNoCapitals (Plain b ∷ ts) = IsFalse (b == colon && begins_wide ts) × HasNoCapitals ts
HasNoCapitals (t ∷ ts) = HasNoCapitals ts
