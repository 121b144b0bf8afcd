-- When call statements of predefined names and on references go astray: they have no meaning, or a cell is missing.
use Rattle.std.specs.Prelude.{◌≡◌, ◌⊎◌, ℕ, List, map}
use Rattle.std.specs.declared.option.Option.{Option}
use Rattle.std.specs.declared.option.Option.TheVariants.{None, Some}
use Rattle.flow_base.specs.declared.ids.ActorId.{ActorId}
use Rattle.flow_base.specs.declared.ids.CellId.{CellId}
use Rattle.flow_ast.specs.declared.predefined.Predefined.{Predefined}
use Rattle.flow_ast.specs.declared.predefined.Predefined.TheVariants as predefined
use Rattle.flow_ast.specs.declared.predefined.Method.{Method}
use Rattle.flow_ast.specs.declared.predefined.Method.TheVariants as method
use Rattle.flow_value.specs.declared.value.Value.{Value}
use Rattle.flow_value.specs.declared.value.Outcome.{Outcome}
use Rattle.flow_value.specs.declared.value.Kind.{Kind}
use Rattle.flow_value.specs.declared.value.Kind.TheVariants as kind
use Rattle.flow_value.specs.Values.{ValueTree}
use Rattle.flow_value.specs.View.{value_of, outcome_of}
use Rattle.flow_eval.specs.Answers.{int_of, text_of, arg}
use Rattle.flow_cancel.specs.Heap.{HeapTree}
use Rattle.flow_meaning.specs.Evaluating.{sent}
use Rattle.flow_meaning.specs.Lines.{print_line}
use Rattle.flow_steps.specs.Holding.{outcome_refs}
use Rattle.flow_steps.specs.Points.{values}
use Rattle.flow_steps.specs.Acting.{Values, args_of}
use Rattle.flow_steps.specs.Stuck.{Missing, SomeMissing, OwnerStuck}

-- arguments are no process, port and text
abbrev pub NoMessage : List ValueTree → Type 0
NoMessage args = (int_of (arg args 0) ≡ None) ⊎ (int_of (arg args 1) ≡ None) ⊎ (text_of (arg args 2) ≡ None)

-- a call statement of a predefined name has no meaning
abbrev pub PredefinedStuck : ActorId → Predefined → Values → Type 0
PredefinedStuck i predefined.Trace args = print_line i.0 (arg (args_of args) 0) ≡ None
PredefinedStuck i predefined.SendTo args = NoMessage (args_of args)
PredefinedStuck i _ args = Unit {0}

-- An actor doesn't send: the method sends nothing, or the cell is missing, or a reference of what is sent.
pub data SendsStuck (m : Method) (kd : Kind) (k : ℕ) (arg : Option Value) (h : HeapTree) : Type 0 where
  nothing_sent : sent m (map value_of (values arg)) ≡ None → SendsStuck m kd k arg h
  cell_missing : Missing kd k h → SendsStuck m kd k arg h
  refers_stuck : (o : Outcome) → sent m (map value_of (values arg)) ≡ Some (outcome_of o)
      → SomeMissing (outcome_refs o) h → SendsStuck m kd k arg h

-- a call statement on a reference has no meaning, or isn't done
abbrev pub MethodStuck : Method → Kind → CellId → Option Value → HeapTree → Type 0
MethodStuck m kind.Promise k arg h = SendsStuck m kind.Promise k.0 arg h
MethodStuck m kind.PromiseStream k arg h = SendsStuck m kind.PromiseStream k.0 arg h
MethodStuck m kind.Future k arg h = (m ≡ method.Cancel → ⊥) ⊎ OwnerStuck k.0 h
MethodStuck m kind.FutureStream k arg h = Unit {0}
