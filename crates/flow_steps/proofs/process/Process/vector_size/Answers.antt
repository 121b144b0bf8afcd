use Rattle.std.proofs.Common.{rules, ◌≡◌, length, refl, ap, sym, ◌∙◌}
use Rattle.std.specs.declared.option.Option.TheVariants.{Some}
use Rattle.flow_value.specs.declared.value.Value.TheVariants.{rolls-List}
use Rattle.flow_value.specs.declared.value.Value.TheFolds.{fold-roll-Value}
use Rattle.flow_value.specs.declared.value.Value.TheOpen as layer
use Rattle.flow_value.specs.Values.{ValueTree, CompositeValue, ListWhole}
use Rattle.flow_value.specs.View.{value_of, value_step, values_of}
use Rattle.flow_eval.proofs.Elements.{all_counted}
use Rattle.flow_code.specs.Resolved.View.{places_in}
use Rattle.flow_steps.specs.Points.{field_path, place_held}
use Rattle.flow_steps.proofs.InPlace.{nothing_there, vector_there}
use Rattle.flow_steps.proofs.process.Process.vector_size.Goals as goal

pub returns-in_err-root-clause-none : goal.returns-in_err-root-clause-none
returns-in_err-root-clause-none c = λ _. nothing_there c.args.code.now c.args.actor.0 c.args.aim.now c.args.self.now _ refl (search rules)

pub returns-in-List-clause-done : goal.returns-in-List-clause-done
returns-in-List-clause-done c =
    let root = c.in_ok-root.root.now in
    let items = c.in-List.items.value.items in
    let held : Some root ≡ place_held c.args.actor.0 c.args.aim.now.place c.args.self.now.heap = search rules in
    let part : field_path (places_in c.args.code.now.fields) c.args.aim.now.path.items (Some (value_of root)) ≡ Some (value_of c.in_ok-items.field-0.now) = search rules in
    let is : value_of c.in_ok-items.field-0.now ≡ CompositeValue ListWhole (values_of items) =
    ap value_of c.in-List.is ∙ ap value_of (sym (rolls-List c.in-List.items)) ∙ fold-roll-Value ValueTree value_step (layer.List c.in-List.items) in
    let count : length items ≡ c.len.result = search rules in
    (values_of items, vector_there c.args.code.now c.args.actor.0 c.args.aim.now c.args.self.now root c.in_ok-items.field-0.now items held part is, all_counted items ∙ count)
