use Rattle.std.proofs.Common.{subst}
use Rattle.flow_tree.specs.View.{type_of}
use Rattle.flow_exprs.specs.TypeAnswer.{ReadsType, RefusesType}
use Rattle.flow_exprs.proofs.TypeLaws.{ended_type}
use Rattle.flow_exprs.proofs.TypeSteps.{bottom_ends, type_refusal}
use Rattle.flow_exprs.proofs.ty.parse_type.Goals as goal

pub returns-in-Ok : goal.returns-in-Ok
returns-in-Ok c =
    let t = type_of c.in-Ok.read.ty in
    let r = subst (λ xs. ReadsType xs c.args.from c.args.depth t c.in-Ok.read.to) c.deref.ensures.value c.in-Ok.ensures in
    ended_type c.args.tokens.now c.args.from c.args.depth t c.in-Ok.read.to (bottom_ends c.args.tokens.now.spots.items c.args.from c.args.depth t c.in-Ok.read.to r)

pub returns-in-Err : goal.returns-in-Err
returns-in-Err c =
    let r = subst (λ xs. RefusesType xs c.args.from c.args.depth c.in-Err.stop) c.deref.ensures.value c.in-Err.ensures in
    type_refusal c.args.tokens.now c.args.from c.args.depth c.in-Err.stop c.refusal.result r c.refusal.ensures
