-- The bits of a NaN.
use Rattle.std.proofs.Common.{◌≡◌, true, refl, sym, true≢false}
use lib.Ieee.{Float, nan, inf, fin, binary64, is_nan, to_bits}

bits_of_nan : 0x7ff8_0000_0000_0000 ≡ to_bits binary64 nan
unfolding to_bits
bits_of_nan = refl

pub nan_bits_of : (x : Float) → is_nan x ≡ true → 0x7ff8_0000_0000_0000 ≡ to_bits binary64 x
unfolding is_nan
nan_bits_of nan e = bits_of_nan
nan_bits_of (inf s) e = absurd (true≢false (sym e))
nan_bits_of (fin s m e') e = absurd (true≢false (sym e))
