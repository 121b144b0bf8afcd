use Rattle.std.proofs.Common.{◌≡◌, ◌<◌, ◌+◌, ◌-◌, ◌^◌, ◌≤◌, nat_le, not, ap, sym, ◌∙◌, arith}
use Rattle.std.proofs.lemmas.Nat.{one_shl, pow_below}
use Rattle.flow_validate.specs.Following.{has_bit}
use Rattle.flow_validate.proofs.Bits.{has_max, has_not, has_ones, le_shifted, twice_not}
use Rattle.flow_validate.proofs.window.bits_from.Goals as goal

pub returns-in-Some : goal.returns-in-Some
returns-in-Some c = λ j lt.
    let is : c.args.number ≡ c.args.first + c.in-Some.bit = omega (arith, c.in-Some.ensures, c.from.ensures) in
    let b = c.in-Some.bit in
    let below : 2 ^ b < 2 ^ 64 = pow_below b 64 c.if-bit-lt64.true in
    ap (λ m. has_bit (18446744073709551615 - (m - 1)) j) (one_shl b 64 c.if-bit-lt64.true)
    ∙ has_not (2 ^ b - 1) j (omega arith) lt ∙ ap not (has_ones b j) ∙ twice_not (nat_le b j)
    ∙ sym (le_shifted c.args.first b j) ∙ ap (λ n. nat_le n (c.args.first + j)) (sym is)

pub returns-in-None : goal.returns-in-None
returns-in-None c = λ j lt.
    let less : c.args.number ≤ c.args.first + j = omega (arith, c.in-None.ensures, c.from.ensures) in
    has_max j lt ∙ grind (arith, less)
