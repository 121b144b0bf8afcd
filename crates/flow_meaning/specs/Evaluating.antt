-- What both kinds of actors share: names of a program, evaluation for a step, effects and call statements.
use Rattle.std.specs.Prelude.{ℕ, pos, nat_lt, Bool, true, false, List, [], ◌∷◌, position}
use Rattle.std.specs.Option.{option_map}
use Rattle.std.specs.Str.{bytes_eq}
use Rattle.std.specs.declared.option.Option.{Option}
use Rattle.std.specs.declared.option.Option.TheVariants.{None, Some}
use Rattle.flow_base.specs.ErrorNumbers.{too_long}
use Rattle.flow_tree.specs.declared.limits.TheConstants.{ELEMENTS}
use Rattle.flow_tree.specs.declared.ty.Ident.{Ident}
use Rattle.flow_ast.specs.declared.predefined.Predefined.{Predefined}
use Rattle.flow_ast.specs.declared.predefined.Predefined.TheVariants as code
use Rattle.flow_ast.specs.declared.predefined.Method.{Method}
use Rattle.flow_ast.specs.declared.predefined.Method.TheVariants as method
use Rattle.flow_tree.specs.Tree.{ExprTree, ExprTrees, CallExpr}
use Rattle.flow_tree.specs.Decls.{RecordTree, RoutineTree}
use Rattle.flow_ast.specs.TypingNames.{named, call_names, method_names}
use Rattle.flow_ast.specs.Typing.{is_effect, routine_named}
use Rattle.flow_value.specs.declared.value.Kind.TheVariants as kind
use Rattle.flow_value.specs.Values.{ValueTree, ValueTrees, NoValues, CompositeValue, ListWhole, RefValue, OutcomeTree, GoodOutcome, BadOutcome, count_of, with_last}
use Rattle.flow_eval.specs.Answers.{int_of, text_of, error_of, arg}
use Rattle.flow_eval.specs.Eval.{Res, Done, Fails, Spent, Meaningless, Setting, then, eval_all}
pub use Rattle.flow_eval.specs.Functions.{Eval, Call}
use Rattle.flow_eval.specs.Functions.{run_function, deepest, read_in}
use Rattle.flow_meaning.specs.Requests.{ReadCall, WriteCall, SyncCall, SizeCall, Effect, Start, Draw, Delay, Never, Listen, Disk, Act, Goes, Drops, Starts, Sends, Cancels, Prints, SendsTo, Throws, RunsOut, Stuck, Ask}
use Rattle.flow_meaning.specs.Process.{View}

-- what a program names: its records and functions, and the names of its actors in the order of the text
pub record Names : Type 0 where
  pub records : List RecordTree
  pub functions : List RoutineTree
  pub actors : List (List ℕ)

abbrev pub setting : Names → View → Setting
setting ns v = record { records = ns.records; functions = ns.functions; cells = v.cells; now = pos v.now }

abbrev pub Look : Type 0
Look = List ℕ → Option ValueTree

abbrev pub bind : {A B : Type 0} → Option A → (A → Option B) → Option B
bind None go = None
bind (Some a) go = go a

-- A step of an actor: what it asks, and the actor afterwards.
abbrev pub StepOf : Type 0 → Type 0
StepOf A = Option Ask × A

abbrev pub asks : {A : Type 0} → (left : ℕ) → Act → A → StepOf A
asks left act a = (Some (record { left = left; act = act }), a)

abbrev pub quietly : {A : Type 0} → A → StepOf A
quietly a = (None, a)

abbrev pub stuck : {A : Type 0} → A → StepOf A
stuck a = asks 0 Stuck a

-- goes on where there is a thing
abbrev pub given : {A B : Type 0} → A → Option B → (B → StepOf A) → StepOf A
given a None go = stuck a
given a (Some x) go = go x

-- goes on with what evaluation gives; an error is thrown where the actor stands
abbrev pub evaluated : {A B : Type 0} → A → Res B → (B → ℕ → StepOf A) → StepOf A
evaluated a (Done x left) go = go x left
evaluated a (Fails e left) go = asks left (Throws e) a
evaluated a Spent go = asks 0 RunsOut a
evaluated a Meaningless go = stuck a

-- A call that has an effect: a predefined one, or that of the actor at a place among the actors.
pub data Effectful : Type 0 where
  World : Predefined → Effectful
  Actor : ℕ → Effectful

abbrev pub world_if : Bool → Predefined → Option Effectful
world_if true p = Some (World p)
world_if false p = None

abbrev pub effectful_of : Option Predefined → Option ℕ → Option Effectful
effectful_of (Some p) k = world_if (is_effect p) p
effectful_of None (Some k) = Some (Actor k)
effectful_of None None = None

abbrev pub effectful : Names → List ℕ → Option Effectful
effectful ns f = effectful_of (named call_names f) (position (bytes_eq f) ns.actors)

-- the effect that an expression is, with its arguments
abbrev pub effect_in : Names → ExprTree → Option (Effectful × ExprTrees)
effect_in ns (CallExpr f es) = option_map (λ g. (g, es)) (effectful ns f.name)
effect_in ns _ = None

-- an effect with its arguments known
abbrev pub world_effect : Predefined → List ValueTree → Option Effect
world_effect code.RandomInt vs = bind (int_of (arg vs 0)) (λ lo. bind (int_of (arg vs 1)) (λ hi. Some (Draw lo hi)))
world_effect code.Delay vs = bind (int_of (arg vs 0)) (λ n. Some (Delay n))
world_effect code.Never vs = Some Never
world_effect code.Listen vs = bind (int_of (arg vs 0)) (λ port. Some (Listen port))
world_effect code.ReadFile vs =
    bind (text_of (arg vs 0)) (λ file. bind (int_of (arg vs 1))
    (λ offset. bind (int_of (arg vs 2)) (λ count. Some (Disk (ReadCall file offset count)))))
world_effect code.WriteFile vs =
    bind (text_of (arg vs 0)) (λ file. bind (int_of (arg vs 1))
    (λ offset. bind (text_of (arg vs 2)) (λ text. Some (Disk (WriteCall file offset text)))))
world_effect code.SyncFile vs = bind (text_of (arg vs 0)) (λ file. Some (Disk (SyncCall file)))
world_effect code.FileSize vs = bind (text_of (arg vs 0)) (λ file. Some (Disk (SizeCall file)))
world_effect _ vs = None

abbrev pub effect_of : Effectful → List ValueTree → Option Effect
effect_of (World p) vs = world_effect p vs
effect_of (Actor k) vs = Some (Start k vs)

-- what a statement call sends: `send` a value, `sendError` an error
abbrev pub sent : Method → List ValueTree → Option OutcomeTree
sent method.Send vs = Some (GoodOutcome (arg vs 0))
sent method.SendError vs = option_map BadOutcome (error_of (arg vs 0))
sent _ vs = None

abbrev pub cancelled : Method → ℕ → Option Act
cancelled method.Cancel cell = Some (Cancels cell)
cancelled _ cell = None

-- a statement call on a reference
abbrev pub method_act : Method → ValueTree → List ValueTree → Option Act
method_act m (RefValue kind.Promise cell) vs = option_map (Sends cell) (sent m vs)
method_act m (RefValue kind.PromiseStream cell) vs = option_map (Sends cell) (sent m vs)
method_act m (RefValue kind.Future cell) vs = cancelled m cell
method_act m _ vs = None

abbrev pub done : Option Act → ℕ → Res Act
done None left = Meaningless
done (Some act) left = Done act left

-- How a statement call changes a vector in place.
pub data Change : Type 0 where
  Grows : Change
  Clears : Change

abbrev pub change_by : Option Method → Option Change
change_by (Some method.PushBack) = Some Grows
change_by (Some method.Clear) = Some Clears
change_by _ = None

-- a value that is put in place, and what is dropped then
abbrev pub Storing : Type 0
Storing = ValueTree × List ValueTree

-- a longer vector drops nothing; the empty one drops what it takes the place of
abbrev pub grown_by : (has_room : Bool) → ValueTrees → ValueTree → ℕ → Res Storing
grown_by true es u left = Done (CompositeValue ListWhole (with_last es u), []) left
grown_by false es u left = Fails too_long left

abbrev pub grown : ValueTrees → ValueTree → ℕ → Res Storing
grown es u left = grown_by (nat_lt (count_of es) ELEMENTS) es u left

abbrev pub changed : Change → List ValueTree → Option ValueTree → ℕ → Res Storing
changed Grows vs (Some (CompositeValue ListWhole es)) left = grown es (arg vs 0) left
changed Clears vs (Some (CompositeValue ListWhole es)) left =
    Done (CompositeValue ListWhole NoValues, CompositeValue ListWhole es ∷ []) left
changed _ vs _ left = Meaningless

-- the names between the first and the last of a path, and the last
abbrev pub before_last : Ident → List Ident → List Ident
before_last x [] = []
before_last x (y ∷ ys) = x ∷ before_last y ys

abbrev pub last_of : Ident → List Ident → Ident
last_of x [] = x
last_of x (y ∷ ys) = last_of y ys

-- how a call statement on what a path leads to changes a vector, where it does
abbrev pub change_of : List Ident → Option Change
change_of (x ∷ y ∷ ys) = change_by (named method_names (last_of y ys).name)
change_of _ = None

-- what a call statement is on
abbrev pub base_of : List Ident → List Ident
base_of (x ∷ y ∷ ys) = x ∷ before_last y ys
base_of _ = []

module _ (ns : Names) (v : View) (look : Look) where
  -- an expression, and arguments in order
  abbrev pub value : ExprTree → Res ValueTree
  value e = Eval (setting ns v) look e v.left

  abbrev pub values : ExprTrees → Res (List ValueTree)
  values es = eval_all (setting ns v) (run_function (setting ns v) deepest) look es v.left

  -- a call statement without a base: a predefined one, a function of the program, whose value is forgotten, or a void actor
  abbrev pub started_act : Option ℕ → List ValueTree → ℕ → Res Act
  started_act None vs left = Meaningless
  started_act (Some k) vs left = Done (Starts k vs) left

  abbrev pub function_act : Option RoutineTree → List ℕ → List ValueTree → ℕ → Res Act
  function_act None f vs left = started_act (position (bytes_eq f) ns.actors) vs left
  function_act (Some g) f vs left = then (Call (setting ns v) g vs left) (λ u left. Done Goes left)

  abbrev pub plain_act : Option Predefined → List ℕ → List ValueTree → ℕ → Res Act
  plain_act (Some code.Trace) f vs left = Done (Prints (arg vs 0)) left
  plain_act (Some code.SendTo) f vs left =
      done (bind (int_of (arg vs 0)) (λ q. bind (int_of (arg vs 1))
      (λ port. bind (text_of (arg vs 2)) (λ text. Some (SendsTo q port text))))) left
  plain_act (Some _) f vs left = Meaningless
  plain_act None f vs left = function_act (routine_named ns.functions f) f vs left

  -- a call statement on what a path leads to
  abbrev pub based_act : Option ValueTree → Option Method → List ValueTree → ℕ → Res Act
  based_act (Some u) (Some m) vs left = done (method_act m u vs) left
  based_act _ _ vs left = Meaningless

  -- what a call statement asks
  abbrev pub call_act : List Ident → ExprTrees → Res Act
  call_act [] es = Meaningless
  call_act (f ∷ []) es = then (values es) (λ vs left. plain_act (named call_names f.name) f.name vs left)
  call_act (x ∷ y ∷ ys) es =
      then (values es) (λ vs left. based_act (read_in ns.records (look x.name) (before_last y ys))
      (named method_names (last_of y ys).name) vs left)

  -- a change of the vector that a path leads to
  abbrev pub storing : Change → List Ident → ExprTrees → Res Storing
  storing how [] es = Meaningless
  storing how (x ∷ xs) es = then (values es) (λ vs left. changed how vs (read_in ns.records (look x.name) xs) left)

  -- A call statement, by an actor that is `after` behind it, and `put` once a value is put in place: both kinds of actors ask its act,
  -- or drop what a change of a vector leaves.
  abbrev pub call_by : {A : Type 0} → Option Change → (now after : A) → (put : List Ident → ValueTree → Option A) → List Ident
      → ExprTrees → StepOf A
  call_by None now after put path es = evaluated now (call_act path es) (λ act left. asks left act after)
  call_by (Some how) now after put path es = evaluated now (storing how (base_of path) es)
      (λ s left. given now (put (base_of path) s.0) (λ a. asks left (Drops s.1) a))

  abbrev pub call_statement : {A : Type 0} → (now after : A) → (put : List Ident → ValueTree → Option A) → List Ident → ExprTrees
      → StepOf A
  call_statement now after put path es = call_by (change_of path) now after put path es
