-- What the steps of frames come to, by cases of what evaluation gives.
use Rattle.std.proofs.Common.{ℕ, List, [], ◌∷◌}
use Rattle.std.specs.declared.option.Option.{Option}
use Rattle.std.specs.declared.option.Option.TheVariants.{None, Some}
use Rattle.std.specs.Prelude.{position}
use Rattle.std.specs.Str.{bytes_eq}
use Rattle.flow_ast.specs.declared.predefined.Predefined.{Predefined}
use Rattle.flow_ast.specs.declared.predefined.Predefined.TheVariants as code
use Rattle.flow_ast.specs.declared.predefined.Method.{Method}
use Rattle.flow_ast.specs.declared.predefined.Method.TheVariants as method
use Rattle.flow_tree.specs.declared.ty.Ident.{Ident}
use Rattle.flow_tree.specs.Tree.{ExprTrees}
use Rattle.flow_tree.specs.Decls.{RoutineTree}
use Rattle.flow_ast.specs.Typing.{routine_named}
use Rattle.flow_ast.specs.TypingNames.{named, call_names, method_names}
use Rattle.flow_value.specs.declared.value.Kind.TheVariants as kind
use Rattle.flow_value.specs.Values.{ValueTree, RefValue, OutcomeTree}
use Rattle.flow_eval.specs.Answers.{int_of, text_of, arg}
use Rattle.flow_eval.specs.Eval.{Res, Done, Fails, Spent, Meaningless, then}
use Rattle.flow_eval.specs.Functions.{Call, read_in}
use Rattle.flow_meaning.specs.Requests.{Act, Goes, Cancels, Prints, Sends, SendsTo, Starts}
use Rattle.flow_meaning.specs.Process.{View}
use Rattle.flow_meaning.specs.Evaluating.{Names, Look, bind, setting, sent, cancelled, method_act, done, before_last, last_of, values, function_act, plain_act, based_act, call_act, started_act}

-- what a call statement may ask
abbrev pub IsCalled : Act → Type 0
IsCalled Goes = Unit {0}
IsCalled (Sends k o) = Unit {0}
IsCalled (Cancels k) = Unit {0}
IsCalled (Prints v) = Unit {0}
IsCalled (SendsTo q port text) = Unit {0}
IsCalled (Starts class args) = Unit {0}
IsCalled _ = ⊥

abbrev pub Comes : {A : Type 0} → (A → Type 0) → Res A → Type 0
Comes P (Done x left) = P x
Comes P (Fails e left) = Unit {0}
Comes P Spent = Unit {0}
Comes P Meaningless = Unit {0}

pub then_comes : {A B : Type 0} (P : B → Type 0) (r : Res A) (go : A → ℕ → Res B) → ((x : A) (left : ℕ) → Comes P (go x left)) → Comes P (then r go)
then_comes P (Done x left) go h = h x left
then_comes P (Fails e left) go h = tt
then_comes P Spent go h = tt
then_comes P Meaningless go h = tt

abbrev IsAny : Option Act → Type 0
IsAny None = Unit {0}
IsAny (Some act) = IsCalled act

done_called : (o : Option Act) (left : ℕ) → IsAny o → Comes IsCalled (done o left)
done_called None left h = tt
done_called (Some act) left h = h

bind_called : {A : Type 0} (o : Option A) (go : A → Option Act) → ((x : A) → IsAny (go x)) → IsAny (bind o go)
bind_called None go h = tt
bind_called (Some x) go h = h x

sends_called : (cell : ℕ) (o : Option OutcomeTree) → IsAny (Rattle.std.specs.Option.option_map (Sends cell) o)
sends_called cell None = tt
sends_called cell (Some x) = tt

cancel_called : (m : Method) (cell : ℕ) → IsAny (cancelled m cell)
cancel_called method.Cancel cell = tt
cancel_called m cell = tt

method_called : (m : Method) (v : ValueTree) (vs : List ValueTree) → IsAny (method_act m v vs)
method_called m (RefValue kind.Promise cell) vs = sends_called cell (sent m vs)
method_called m (RefValue kind.PromiseStream cell) vs = sends_called cell (sent m vs)
method_called m (RefValue kind.Future cell) vs = cancel_called m cell
method_called m v vs = tt

module _ (ns : Names) (v : View) (look : Look) where
  started_called : (o : Option ℕ) (vs : List ValueTree) (left : ℕ) → Comes IsCalled (started_act ns v look o vs left)
  started_called None vs left = tt
  started_called (Some k) vs left = tt

  function_called : (o : Option RoutineTree) (f : List ℕ) (vs : List ValueTree) (left : ℕ) → Comes IsCalled (function_act ns v look o f vs left)
  function_called None f vs left = started_called (position (bytes_eq f) ns.actors) vs left
  function_called (Some g) f vs left = then_comes IsCalled (Call (setting ns v) g vs left) (λ u left. Done Goes left) (λ u left. tt)

  plain_called : (o : Option Predefined) (f : List ℕ) (vs : List ValueTree) (left : ℕ) → Comes IsCalled (plain_act ns v look o f vs left)
  plain_called (Some code.Trace) f vs left = tt
  plain_called (Some code.SendTo) f vs left =
      done_called (bind (int_of (arg vs 0)) (λ q. bind (int_of (arg vs 1)) (λ port. bind (text_of (arg vs 2)) (λ text. Some (SendsTo q port text))))) left
      (bind_called (int_of (arg vs 0)) (λ q. bind (int_of (arg vs 1)) (λ port. bind (text_of (arg vs 2)) (λ text. Some (SendsTo q port text))))
      (λ q. bind_called (int_of (arg vs 1)) (λ port. bind (text_of (arg vs 2)) (λ text. Some (SendsTo q port text)))
      (λ port. bind_called (text_of (arg vs 2)) (λ text. Some (SendsTo q port text)) (λ text. tt))))
  plain_called (Some p) f vs left = tt
  plain_called None f vs left = function_called (routine_named ns.functions f) f vs left

  based_called : (u : Option ValueTree) (m : Option Method) (vs : List ValueTree) (left : ℕ) → Comes IsCalled (based_act ns v look u m vs left)
  based_called (Some u) (Some m) vs left = done_called (method_act m u vs) left (method_called m u vs)
  based_called (Some u) None vs left = tt
  based_called None (Some m) vs left = tt
  based_called None None vs left = tt

  pub act_called : (xs : List Ident) (es : ExprTrees) → Comes IsCalled (call_act ns v look xs es)
  act_called [] es = tt
  act_called (f ∷ []) es =
      then_comes IsCalled (values ns v look es) (λ vs left. plain_act ns v look (named call_names f.name) f.name vs left) (λ vs left. plain_called (named call_names f.name) f.name vs left)
  act_called (x ∷ y ∷ ys) es =
      then_comes IsCalled (values ns v look es) (λ vs left. based_act ns v look (read_in ns.records (look x.name) (before_last y ys)) (named method_names (last_of y ys).name) vs left)
      (λ vs left. based_called (read_in ns.records (look x.name) (before_last y ys)) (named method_names (last_of y ys).name) vs left)
