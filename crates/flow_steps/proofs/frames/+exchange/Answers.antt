use Rattle.std.proofs.Common.{rules, ◌≡◌, ◌≤◌, ◌∙◌, false, sym, ap, length}
use Rattle.std.specs.declared.option.Option.TheVariants.{None, Some}
use Rattle.flow_value.specs.declared.value.Value.TheVariants.{rolls-Int, rolls-Bool, rolls-Text, rolls-Void, rolls-Error, rolls-List, rolls-Ref}
use Rattle.flow_value.specs.declared.value.Value.TheFolds.{fold-roll-Value}
use Rattle.flow_value.specs.declared.value.Value.TheOpen as layer
use Rattle.flow_value.specs.Values.{ValueTree, RecordWhole}
use Rattle.flow_value.specs.View.{value_of, value_step, values_of}
use Rattle.flow_code.specs.Resolved.View.{places_in}
use Rattle.flow_steps.proofs.Before.{is_record, either, flat_as, flat_path, field_nowhere, field_past}
use Rattle.flow_steps.proofs.frames.+exchange.Goals as goal

pub exchange-returns : goal.exchange-returns
exchange-returns t c =
    let r = c.args.root in
    let none : is_record (value_of r) ≡ false =
    either r c.in-Int.is (λ x. flat_as r _ _ x.1 (ap value_of (sym (rolls-Int x.0)) ∙ fold-roll-Value ValueTree value_step (layer.Int x.0)))
    (λ more. either r more (λ x. flat_as r _ _ x.1 (ap value_of (sym (rolls-Bool x.0)) ∙ fold-roll-Value ValueTree value_step (layer.Bool x.0)))
    (λ more. either r more (λ x. flat_as r _ _ x.1 (ap value_of (sym (rolls-Text x.0)) ∙ fold-roll-Value ValueTree value_step (layer.Text x.0)))
    (λ more. either r more (λ x. flat_as r _ _ x (ap value_of (sym rolls-Void) ∙ fold-roll-Value ValueTree value_step layer.Void))
    (λ more. either r more (λ x. flat_as r _ _ x.1 (ap value_of (sym (rolls-Error x.0)) ∙ fold-roll-Value ValueTree value_step (layer.Error x.0)))
    (λ more. either r more (λ x. flat_as r _ _ x.1 (ap value_of (sym (rolls-List x.0)) ∙ fold-roll-Value ValueTree value_step (layer.List x.0)))
    (λ x. flat_as r _ _ x.2 (ap value_of (sym (rolls-Ref x.0 x.1)) ∙ fold-roll-Value ValueTree value_step (layer.Ref x.0 x.1)))))))) in
    record {
      done = tt;
      none = λ n. flat_path c.args.fields.now c.in-Some.name.now c.in-Some.rest.now c.args.path.now (value_of r) c.in-Some.ensures.cases.0 none;
    }

pub exchange_field-returns-in_default-clause-none : goal.exchange_field-returns-in_default-clause-none
exchange_field-returns-in_default-clause-none t c =
    let none : places_in c.args.fields.now (RecordWhole c.args.of.value.id) c.args.name ≡ None = search rules in
    λ n. field_nowhere (places_in c.args.fields.now) (RecordWhole c.args.of.value.id) c.args.name c.args.rest.now (values_of c.args.of.value.fields.items) none

pub exchange_field-returns-then-place-len-clause-none : goal.exchange_field-returns-then-place-len-clause-none
exchange_field-returns-then-place-len-clause-none t c =
    let some : places_in c.args.fields.now (RecordWhole c.args.of.value.id) c.args.name ≡ Some c.in-Some.place = search rules in
    let past : length c.args.of.value.fields.items ≤ c.in-Some.place = search rules in
    λ n. field_past (places_in c.args.fields.now) (RecordWhole c.args.of.value.id) c.args.name c.args.rest.now c.args.of.value.fields.items c.in-Some.place some past
