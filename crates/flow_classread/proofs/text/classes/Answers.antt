use Rattle.std.proofs.Common.{◌<◌, ◌≤◌, length, arith}
use Rattle.std.proofs.lemmas.Result.{err_from_is_err_and}
use Rattle.flow_classread.proofs.TextReads.{classes_init, class_step, class_fails, classes_done}
use Rattle.flow_classread.proofs.text.classes.Goals as goal

pub items-init : goal.items-init
items-init c = (omega arith, c.requires.within, classes_init c.args.version c.args.tokens.now c.args.at c.requires.within c.new-classes.result.items c.new-classes.ensures.items)

pub items-preserved : goal.items-preserved
items-preserved c =
    let t = c.args.tokens.now in
    let i = c.items.invariant in
    let h : c.items.at < length t.spots.items = omega (arith, c.items-test.true, c.len.ensures) in (
      omega (arith, i.0, c.in_ok-next.ensures.moves.0),
      c.in_ok-next.ensures.moves.1,
      class_step c.args.version t c.args.at c.requires.within c.items.at c.items.classes.items i.2 c.in_ok-next.to c.push.new.self.items c.in_ok-next.next h c.in_ok-push.ensures.items c.in_ok-next.ensures.reads,
    )

pub returns-in_err-next : goal.returns-in_err-next
returns-in_err-next c =
    let t = c.args.tokens.now in
    let h : c.items.at < length t.spots.items = omega (arith, c.items-test.true, c.len.ensures) in
    let p = err_from_is_err_and c.from_residual.result c.from_residual.ensures.1 in
    rw (p.1, p.2) (record { reads = class_fails c.args.version t c.args.at c.requires.within c.items.at c.items.classes.items c.items.invariant.2 h _ c.in_err-next.ensures.reads })

pub returns : goal.returns
returns c =
    let t = c.args.tokens.now in
    let h : length t.spots.items ≤ c.items.at = omega (arith, c.items-test.false, c.len.ensures) in
    record { reads = classes_done c.args.version t c.args.at c.requires.within c.items.at c.items.classes.items c.items.invariant.2 h }
