use Rattle.std.proofs.Common.{refl, arith, sym, ap, map, ◌++◌}
use Rattle.std.proofs.lemmas.Result.{err_from_is_err_and}
use Rattle.flow_tree.specs.declared.limits.TheConstants.{OF_CLASS_TEXT}
use Rattle.flow_parse.proofs.Looking.{not_true}
use Rattle.flow_parse.proofs.Leaves.{nothing, means}
use Rattle.flow_classread.proofs.Lists.{each_step, each_fails, each_end}
use Rattle.flow_classprint.specs.ClassGrammar.{InstrRule, InstrsRule, no_instrs, more_instrs}
use Rattle.flow_classread.specs.Parts.{NotFirst, InstrToken}
use Rattle.flow_class.specs.View.{instr_of}
use Rattle.flow_classread.proofs.BlockForms.{instrs_cut}
use Rattle.flow_classread.proofs.InstrForms.{instr_starts}
use Rattle.flow_classread.proofs.block.instrs.Goals as goal

pub items-init : goal.items-init
items-init c =
    let t = c.args.tokens.now in (
      omega arith,
      c.requires.within,
      means OF_CLASS_TEXT t.spots.items (λ ys. map instr_of c.new-instrs.result.items ++ ys) (λ ys. ap (λ z. map instr_of z ++ ys) (sym c.new-instrs.ensures.items))
          (nothing OF_CLASS_TEXT t.spots.items InstrsRule (NotFirst InstrToken) c.args.at c.requires.within),
    )

pub items-preserved : goal.items-preserved
items-preserved c =
    let t = c.args.tokens.now in
    let i = c.items.invariant in
    let l = each_step (λ k. InstrRule) (λ k. InstrsRule) InstrToken (λ k. no_instrs) (λ k x xs first rest r s. more_instrs first rest r s refl) instrs_cut (λ k w x r. instr_starts r) instr_of t 0
    c.items.instrs.items i.2 1 c.in_ok-next.to c.push.new.self.items c.in_ok-next.next (c.items-test.ensures.0 refl) refl c.in_ok-push.ensures.items c.in_ok-next.ensures.reads in
    (omega (arith, i.0, c.in_ok-next.ensures.moves.0), c.in_ok-next.ensures.moves.1, l)

pub returns-in_err-next-clause-reads : goal.returns-in_err-next-clause-reads
returns-in_err-next-clause-reads c =
    let t = c.args.tokens.now in
    let p = err_from_is_err_and c.from_residual.result c.from_residual.ensures.1 in
    rw (p.1, p.2) (each_fails (λ k. InstrRule) (λ k. InstrsRule) InstrToken (λ k. no_instrs) (λ k x xs first rest r s. more_instrs first rest r s refl) instrs_cut (λ k w x r. instr_starts r) t 0
    c.items.invariant.2 (c.items-test.ensures.0 refl) _ c.in_err-next.ensures.reads)

pub returns-clause-reads : goal.returns-clause-reads
returns-clause-reads c =
    let t = c.args.tokens.now in
    each_end (λ k. InstrRule) (λ k. InstrsRule) InstrToken (λ k. no_instrs) (λ k x xs first rest r s. more_instrs first rest r s refl) instrs_cut (λ k w x r. instr_starts r) instr_of t 0
    c.items.instrs.items c.items.invariant.2 (λ h. not_true (c.items-test.ensures.1 h))
