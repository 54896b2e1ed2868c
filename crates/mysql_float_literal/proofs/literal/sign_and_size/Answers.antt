use Rattle.std.proofs.Common.{◌-◌, leb, bit_and, sym, subst}
use lib.Ieee.{binary64, top}
use Rattle.ryu.specs.Sign.{IsSignAndSize}
use Rattle.ryu.proofs.Signs.{parts, below_sign, finite_number}
use Rattle.mysql_float_literal.proofs.literal.sign_and_size.Goals as goal

pub raw_bits-bits-requires : goal.raw_bits-bits-requires
raw_bits-bits-requires c = finite_number c.args.double c.requires

pub returns : goal.returns
returns c =
    let r = c.raw_bits-bits in
    let p : IsSignAndSize binary64 c.args.double (leb (top binary64) r.result) (bit_and r.result (top binary64 - 1)) =
    subst (IsSignAndSize binary64 c.args.double (leb (top binary64) r.result)) (sym (below_sign binary64 r.result))
    (parts binary64 c.args.double r.result r.ensures.same r.ensures.bound (finite_number c.args.double c.requires)) in
    record { parts = p; finite = p.finite.0 c.requires }
