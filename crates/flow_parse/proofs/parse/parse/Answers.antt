use Rattle.std.proofs.Common.{◌≡◌, ◌≤◌, ◌<◌, length, arith, refl, sym, ap, ◌+◌, suc, inl}
use Rattle.std.proofs.lemmas.Result.{err_from_is_err_and}
use Rattle.flow_tree.specs.declared.limits.TheConstants.{OF_PROGRAMS}
use Rattle.flow_tree.specs.GrammarDecl.{DeclsRule}
use Rattle.flow_parse.specs.Follow.{AtEnd}
use Rattle.flow_parse.proofs.Looking.{not_true}
use Rattle.flow_parse.proofs.Leaves.{nothing, means}
use Rattle.flow_parse.proofs.DeclLoops.{some_at, decls_before, decls_step, decls_done, program_derived}
use Rattle.flow_parse.proofs.DeclFails.{decl_beyond, no_decl, decl_fails}
use Rattle.flow_parse.proofs.parse.parse.Goals as goal

pub items-init : goal.items-init
items-init c =
    let s = c.args.tokens.now.spots.items in
    let l = means OF_PROGRAMS s (decls_before c.new-decls.result.items) (λ o. ap (λ z. decls_before z o) (sym c.new-decls.ensures.items)) (nothing OF_PROGRAMS s (DeclsRule 1) AtEnd 0 (omega arith)) in
    (omega arith, omega arith, l)

pub items-preserved : goal.items-preserved
items-preserved c =
    let s = c.args.tokens.now.spots.items in
    let i = c.items.invariant in
    let n = c.items.number in
    let e : n + 1 ≡ suc n = omega arith in
    let h : c.items.at < length s = omega (arith, c.items-test.true, c.len-in-items.ensures) in
    let x = some_at s c.items.at h in
    let l = decls_step OF_PROGRAMS s c.items.at c.in_ok-next.to n (n + 1) c.items.decls.items c.push.new.self.items c.in_ok-next.next c.in_ok-push.ensures.items e c.if-number-gt-DECLARATIONS.false x.0
    x.1 i.2 c.in_ok-next.ensures.reads in
    (c.in_ok-next.ensures.moves.1, omega (arith, c.if-number-gt-DECLARATIONS.false), l)

pub returns-then-len-gt-TOKENS : goal.returns-then-len-gt-TOKENS
returns-then-len-gt-TOKENS c = rw c.refused.ensures (inl (refl, record { many = omega (arith, c.if-len-gt-TOKENS.true, c.len.ensures); place = refl }))

pub returns-then-not-begins_decl : goal.returns-then-not-begins_decl
returns-then-not-begins_decl c =
    let t = c.args.tokens.now in
    let x = some_at t.spots.items c.items.at (omega (arith, c.items-test.true, c.len-in-items.ensures)) in
    rw c.refused-then-not-begins_decl.ensures (no_decl t (omega (arith, c.if-len-gt-TOKENS.false, c.len.ensures)) c.items.invariant.2 x.0 x.1 (λ b. not_true (c.if-not-begins_decl.ensures.1 b)))

pub returns-then-number-gt-DECLARATIONS : goal.returns-then-number-gt-DECLARATIONS
returns-then-number-gt-DECLARATIONS c =
    let t = c.args.tokens.now in
    let h : c.items.at < length t.spots.items = omega (arith, c.items-test.true, c.len-in-items.ensures) in
    let x = some_at t.spots.items c.items.at h in
    rw c.refused-then-number-gt-DECLARATIONS.ensures (decl_beyond t (omega (arith, c.if-len-gt-TOKENS.false, c.len.ensures)) c.items.invariant.2 x.0 x.1 c.if-number-gt-DECLARATIONS.true h
    (c.if-not-begins_decl.ensures.0 refl))

pub returns-in_err-next : goal.returns-in_err-next
returns-in_err-next c =
    let t = c.args.tokens.now in
    let x = some_at t.spots.items c.items.at (omega (arith, c.items-test.true, c.len-in-items.ensures)) in
    let p = err_from_is_err_and c.from_residual.result c.from_residual.ensures.1 in
    rw (p.1, p.2) (decl_fails t (omega (arith, c.if-len-gt-TOKENS.false, c.len.ensures)) c.items.invariant.2 x.0 x.1 c.if-number-gt-DECLARATIONS.false _ c.in_err-next.ensures.reads)

pub returns : goal.returns
returns c =
    let t = c.args.tokens.now in
    let h : length t.spots.items ≤ c.items.at = omega (arith, c.items-test.false, c.len-in-items.ensures) in (
      omega (arith, c.if-len-gt-TOKENS.false, c.len.ensures),
      program_derived t c.items.at _ h
          (decls_done OF_PROGRAMS t.spots.items c.items.at c.items.number c.items.decls.items h c.items.invariant.2),
    )
