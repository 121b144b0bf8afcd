use Rattle.std.proofs.Common.{ℕ, List, map, position, ap₂, sym, ◌∙◌}
use Rattle.std.specs.Str.{bytes_eq}
use Rattle.flow_tree.specs.DeclView.{record_of}
use Rattle.flow_value.specs.Values.{ValueTree}
use Rattle.flow_value.specs.View.{value_of}
use Rattle.flow_eval.specs.Variables.{var_of}
use Rattle.flow_eval.proofs.Lookups.{path_none, path_some}
use Rattle.flow_eval.proofs.locals.put_path.Goals as goal

pub returns-in_default-var_place : goal.returns-in_default-var_place
returns-in_default-var_place c =
    path_none (map record_of c.args.records.now) (map var_of c.args.vars.now.items) c.args.path.now c.in-Some.name.now c.in-Some.rest.now (value_of c.args.value) c.in-Some.ensures.cases.0
    (ap₂ (λ x vs. position (λ (v : List ℕ × ValueTree). bytes_eq x v.0) (map var_of vs)) (sym c.bytes.ensures.bytes) (sym c.deref.ensures.value)
    ∙ sym c.var_place.ensures ∙ c.in_default-var_place.is)

pub returns : goal.returns
returns c =
    path_some (map record_of c.args.records.now) (map var_of c.args.vars.now.items) c.args.path.now c.in-Some.name.now c.in-Some.rest.now
    (value_of c.args.value) c.in-Some-var_place.k c.in-Some.ensures.cases.0
    (ap₂ (λ x vs. position (λ (v : List ℕ × ValueTree). bytes_eq x v.0) (map var_of vs)) (sym c.bytes.ensures.bytes) (sym c.deref.ensures.value)
    ∙ sym c.var_place.ensures ∙ c.in-Some-var_place.is)
    ∙ c.put_place.ensures
