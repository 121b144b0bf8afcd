use Rattle.std.proofs.Common.{◌≡◌, ◌+◌, nat_eq, ap, sym, ◌∙◌, arith}
use Rattle.flow_validate.proofs.Bits.{has_shifted, eq_shifted}
use Rattle.flow_validate.proofs.window.bit_from.Goals as goal

pub returns-in-Some : goal.returns-in-Some
returns-in-Some c = λ j lt.
    let is : c.args.number ≡ c.args.first + c.in-Some.bit = omega (arith, c.in-Some.ensures, c.from.ensures) in
    has_shifted c.in-Some.bit j c.if-bit-lt64.true ∙ sym (eq_shifted c.args.first c.in-Some.bit j) ∙ ap (λ n. nat_eq n (c.args.first + j)) (sym is)
