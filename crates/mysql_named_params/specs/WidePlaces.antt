-- A wide name at the front of a text, by its bytes. For private functions of `tokens.rt`; no public
-- contract cites it.
use Rattle.std.specs.Prelude.{◌==◌, ◌&&◌, ℕ, suc, Bool, false, if◌then◌else◌, List, [], ◌∷◌}
use Rattle.mysql_named_params.specs.Bytes.{colon, begins}
use Rattle.mysql_named_params.specs.WideNames.{is_wide_start, is_wide_byte}

-- the text begins with `:` and a byte that begins a wide name
abbrev pub opens_wide_name : List ℕ → Bool
opens_wide_name [] = false
opens_wide_name (b ∷ bs) = b == colon && begins is_wide_start bs

-- the number of bytes at the front of the text that continue a wide name
abbrev pub wide_len : List ℕ → ℕ
wide_len [] = 0
wide_len (b ∷ bs) = if is_wide_byte b then suc (wide_len bs) else 0
