use Rattle.std.proofs.Common.{◌≡◌, ◌+◌, suc, refl, arith}
use Rattle.flow_parse.proofs.Looking.{not_true}
use Rattle.flow_classread.proofs.Straying.{dotted_first, dotted_next, no_strays_next, none_before, stray_now, no_stray_now, reach_end}
use Rattle.flow_classread.proofs.expr.first_stray.Goals as goal

pub names-init : goal.names-init
names-init c = (omega arith, c.requires.within, dotted_first c.args.tokens.now.spots.items c.args.from, λ k h lt s. omega (arith, h, lt))

pub names-preserved : goal.names-preserved
names-preserved c =
    let t = c.args.tokens.now in
    let i = c.names.invariant in
    let n = c.names.at in
    let e : n + 1 ≡ suc n = omega arith in (
      omega (arith, i.0),
      omega (arith, (c.names-test.ensures.0 refl).0),
      dotted_next t.spots.items c.args.from n (n + 1) c.is_sign-after_dot.result i.0 e c.is_sign-after_dot.ensures.sign.0 c.is_sign-after_dot.ensures.sign.1,
      no_strays_next t.spots.items c.args.from n (n + 1) e i.3 (λ s. not_true (c.if-is_stray.ensures.1 (stray_now t.spots.items c.args.from n c.names.after_dot i.2 s))),
    )

pub returns-then-is_stray : goal.returns-then-is_stray
returns-then-is_stray c =
    let t = c.args.tokens.now in
    let i = c.names.invariant in
    let b = c.names-test.ensures.0 refl in
    (i.0, b.0, b.1, no_stray_now t.spots.items c.args.from c.names.at c.names.after_dot i.2 (c.if-is_stray.ensures.0 refl), i.3)

pub returns : goal.returns
returns c =
    let t = c.args.tokens.now in
    let i = c.names.invariant in
    none_before t c.args.from c.names.at c.args.until.byte c.requires.rising i.3 i.1 (reach_end t c.names.at c.args.until.byte (λ h. not_true (c.names-test.ensures.1 h)))
