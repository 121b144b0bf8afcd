use Rattle.std.proofs.Common.{◌-◌, ◌<◌, List, Some, take, drop, length, sym, ap, ◌∙◌, arith}
use Rattle.flow_validate.specs.declared.touch.Touch.{Touch}
use Rattle.flow_validate.proofs.Joining.{ends_many, end_here, stands}
use Rattle.flow_validate.proofs.touch.Touches.of_block.Goals as goal

pub index-end-requires : goal.index-end-requires
index-end-requires c =
    let r = c.requires in
    let many = ends_many c.args.self.now r.0 r.1 in
    let lt = r.2 in
    omega (arith, lt, many)

pub touches_between-requires-clause-order : goal.touches_between-requires-clause-order
touches_between-requires-clause-order c =
    let t = c.args.self.now in
    let r = c.requires in
    let n = c.args.number in
    (stands t r.0 n c.start-start.result c.index-end.result.now r.1 r.2 (c.start-start.ensures r.0 r.1) (end_here t r.0 n c.index-end.result.now r.1 r.2 c.index-end.ensures)).order

pub touches_between-requires-clause-within : goal.touches_between-requires-clause-within
touches_between-requires-clause-within c =
    let t = c.args.self.now in
    let r = c.requires in
    let n = c.args.number in
    let s = stands t r.0 n c.start-start.result c.index-end.result.now r.1 r.2 (c.start-start.ensures r.0 r.1) (end_here t r.0 n c.index-end.result.now r.1 r.2 c.index-end.ensures) in
    omega (arith, s.within, ap length c.deref.ensures.value)

pub returns : goal.returns
returns c =
    λ all h.
    let t = c.args.self.now in
    let r = c.requires in
    let n = c.args.number in
    let own = ends_many t r.0 r.1 in
    let many = ends_many t all h in
    let lt = r.2 in
    let within : n < length all = omega (arith, lt, own, many) in
    let s = stands t all n c.start-start.result c.index-end.result.now h within (c.start-start.ensures all h) (end_here t all n c.index-end.result.now h within c.index-end.ensures) in
    s.own ∙ ap (λ (l : List Touch). Some (take (c.index-end.result.now - c.start-start.result) (drop c.start-start.result l))) (sym c.deref.ensures.value)
    ∙ ap Some (sym c.touches_between.ensures)
