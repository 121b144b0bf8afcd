use Rattle.std.proofs.Common.{◌++◌, map, length, sym, ap, ◌∙◌, rules, append-nil}
use Rattle.std.proofs.lemmas.Slice.Zip.{zip_end}
use Rattle.flow_debug.specs.Views.{variable_of}
use Rattle.flow_debug.proofs.Variables.{over}
use Rattle.flow_debug.proofs.view.variables.Goals as goal

pub returns : goal.returns
returns c =
    let slots = c.args.slots.now in
    let values = c.args.values.now in
    let done = c.loop-slot.yielded in
    let last = zip_end slots values done c.into_iter-slot-iterator.result c.loop-slot.slot-iterator c.next.new.self c.next.result (search rules) (search rules) c.loop-slot.yielded_by
    c.in-None.is c.next.ensures.steps in
    sym (append-nil (map variable_of c.loop-slot.vars.items)) ∙ ap (λ l. map variable_of c.loop-slot.vars.items ++ l) (sym (over slots values (length done) last))
    ∙ c.loop-slot.invariant
