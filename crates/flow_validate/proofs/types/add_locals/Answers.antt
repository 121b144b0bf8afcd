use Rattle.std.proofs.Common.{length, sym, ap, ◌∙◌, rules, ◌++◌, take, map}
use Rattle.std.proofs.lemmas.List.{length_push}
use Rattle.std.proofs.lemmas.Slice.Zip.{zip_turn}
use Rattle.flow_tree.specs.View.{type_of}
use Rattle.flow_types.specs.MapView.{vars_of}
use Rattle.flow_valid.specs.Validity.{local_rows}
use Rattle.flow_validate.proofs.Rows.{local_step}
use Rattle.flow_validate.proofs.types.add_locals.Goals as goal

pub loop-ty-preserved : goal.loop-ty-preserved
loop-ty-preserved c =
    let locals = c.args.locals.now in
    let names = c.args.names.now in
    let done = c.loop-ty.yielded in
    let n = length done in
    let turn = zip_turn locals names done c.into_iter-ty-iterator.result c.loop-ty.ty-iterator c.next.new.self c.next.result (search rules) (search rules) c.loop-ty.yielded_by
    (c.in-Some.ty, c.in-Some.name) c.in-Some.is c.next.ensures.steps in
    local_step locals names n c.in-Some.ty.now c.bytes.result c.of.result c.args.vars.now.entries c.loop-ty.vars.entries c.insert.new.self.entries
    c.requires.before c.requires.few turn.0 turn.1 c.requires.names (turn.2 c.in-Some.ty.now) (c.bytes.ensures.bytes ∙ turn.3 c.bytes.result.now) c.of.ensures c.in_ok-insert.ensures.entries
    c.loop-ty.invariant
    ∙ ap (λ k. vars_of c.args.vars.now ++ local_rows 0 (map type_of (take k locals))) (sym (length_push done (c.in-Some.ty, c.in-Some.name)))
