-- The bits of NaNs.
use Rattle.std.proofs.Common.{◌≡◌, ℕ, ◌<◌, ◌≤◌, true, false, not, T, bit_and, refl, sym, ◌∙◌, lt-ltb}
use Rattle.std.proofs.lemmas.Nat.{and_mask}
use Rattle.std.proofs.lemmas.Float.{not_nan_f32_bits, not_nan_f64_bits}
use Rattle.std.specs.Float.{float_is_finite}
use lib.Ieee.{Float, nan, inf, fin, binary32, binary64, is_nan, of_bits, nan_bits}
use lib.Ieee.Bits.{nan_bits_is, nan_bits_above}

finite_no_nan : (x : Float) → is_nan x ≡ true → float_is_finite x ≡ false
unfolding float_is_finite is_nan
finite_no_nan nan e = refl
finite_no_nan (inf s) e = refl
finite_no_nan (fin s m e') e = sym e

-- the size above that of infinity
pub nan_above : (bits : ℕ) → 0x7ff0_0000_0000_0000 < bit_and bits 0x7fff_ffff_ffff_ffff → float_is_finite (of_bits binary64 bits) ≡ false
nan_above bits h =
    finite_no_nan (of_bits binary64 bits)
    (sym (nan_bits_is binary64 bits) ∙ (nan_bits_above binary64 bits ∙ lt-ltb _ _ (rw (and_mask bits 63) at h)))

pub number_below : (bits : ℕ) → bit_and bits 0x7fff_ffff_ffff_ffff ≤ 0x7ff0_0000_0000_0000 → T (not (nan_bits binary64 bits))
number_below bits h = not_nan_f64_bits bits (rw (and_mask bits 63) at h)

-- the same of floats
pub float_nan_above : (bits : ℕ) → 0x7f80_0000 < bit_and bits 0x7fff_ffff → float_is_finite (of_bits binary32 bits) ≡ false
float_nan_above bits h =
    finite_no_nan (of_bits binary32 bits)
    (sym (nan_bits_is binary32 bits) ∙ (nan_bits_above binary32 bits ∙ lt-ltb _ _ (rw (and_mask bits 31) at h)))

pub float_number_below : (bits : ℕ) → bit_and bits 0x7fff_ffff ≤ 0x7f80_0000 → T (not (nan_bits binary32 bits))
float_number_below bits h = not_nan_f32_bits bits (rw (and_mask bits 31) at h)
