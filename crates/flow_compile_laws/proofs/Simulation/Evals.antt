-- An expression over places comes to what the expression over names comes to, with the same turns.
use Rattle.std.proofs.Common.{◌≡◌, ℕ, List, [], ◌∷◌, refl, sym, ap, ◌∙◌}
use Rattle.std.proofs.Math.Path.{fun_ext}
use Rattle.std.specs.Prelude.{option_map, position}
use Rattle.std.specs.declared.option.Option.{Option}
use Rattle.std.specs.declared.option.Option.TheVariants.{None, Some}
use Rattle.std.specs.Str.{bytes_eq}
use Rattle.flow_tree.specs.declared.ty.Ident.{Ident}
use Rattle.flow_tree.specs.Tree.{ExprTree, ExprTrees, VarExpr, CallExpr, FieldExpr, MethodExpr, NotExpr, NegExpr, BinaryExpr, ParenExpr, NoExprs, MoreExprs}
use Rattle.flow_tree.specs.Decls.{SlotTree, RoutineTree}
use Rattle.flow_ast.specs.declared.predefined.Predefined.{Predefined}
use Rattle.flow_ast.specs.declared.predefined.Predefined.TheVariants as code
use Rattle.flow_ast.specs.declared.predefined.Method.{Method}
use Rattle.flow_ast.specs.declared.predefined.Method.TheVariants as method
use Rattle.flow_ast.specs.TypingNames.{named, selected, call_names, method_names, constant_names}
use Rattle.flow_ast.specs.Typing.{routine_named}
use Rattle.flow_value.specs.declared.value.Kind.TheVariants as kind
use Rattle.flow_value.specs.Values.{ValueTree, RefValue}
use Rattle.flow_eval.specs.Answers.{int_of, text_of, arg}
use Rattle.flow_eval.specs.Operators.{inverted, negated}
use Rattle.flow_eval.specs.Records.{field, field_answer}
use Rattle.flow_eval.specs.Eval.{Res, Done, Fails, Spent, Meaningless, Setting, Runner, then, at_once, found, variable, second, method_called, called, eval, eval_all}
use Rattle.flow_eval.specs.Functions.{run_function, deepest, read_in, Call}
use Rattle.flow_class.specs.declared.class.Slotted.{Slotted}
use Rattle.flow_class.specs.Classes.{ClassTree}
use Rattle.flow_class.specs.Scopes.{Scope, place_of, var_over, name_over, over, over_all, act_over, path_over}
use Rattle.flow_meaning.specs.Requests.{Act, Goes, Sends, SendsTo, Effects, Operand, Waits}
use Rattle.flow_meaning.specs.Process.{View}
use Rattle.flow_meaning.specs.Evaluating.{Names, setting, bind, Look, Effectful, effectful, effect_in, value, values, sent, cancelled, method_act, done, before_last, last_of, function_act, plain_act, based_act, call_act, started_act, Change, changed, change_of, base_of, storing}
use Rattle.flow_meaning.specs.Variables.{flat}
use Rattle.flow_meaning.specs.Variables as source
use Rattle.flow_meaning.specs.Frame.{Memory, read}
use Rattle.flow_meaning.specs.Frame as frame
use Rattle.flow_meaning.proofs.BareEval.{then_same}
use Rattle.flow_compile_laws.specs.Simulation.Memories.{vars_of, Held}
use Rattle.flow_class.proofs.Numbers.{IsSmall, place_back}
use Rattle.flow_compile_laws.proofs.Simulation.Places.{no_constant}
use Rattle.flow_compile_laws.proofs.Simulation.Seen.{place_found, place_small}

module _ (c : ClassTree) (m : Memory) (s : Scope) (held : Held c m s) where
  abbrev named_look : Look
  named_look = source.look (vars_of c m s)

  abbrev placed_look : Look
  placed_look = frame.look m

  pub look_over : (x : List ℕ) → placed_look (var_over (place_of c.slots s x)) ≡ named_look x
  look_over x = by_place (place_of c.slots s x) (λ p e. place_small c m s held x p e) ∙ ap flat (sym (place_found c m s held x))
    where
      by_place : (o : Option Slotted) → ((p : Slotted) → o ≡ Some p → IsSmall p) → placed_look (var_over o) ≡ flat (option_map (read m) o)
      by_place None h = refl
      by_place (Some p) h = ap (λ q. bind q (read m)) (place_back p (h p refl))

  variable_over : (x : List ℕ) (o : Option ℕ) → named constant_names x ≡ o
      → variable placed_look (name_over o (place_of c.slots s x) x) (named constant_names (name_over o (place_of c.slots s x) x)) ≡ variable named_look x o
  variable_over x (Some n) e = ap (variable placed_look x) e
  variable_over x None e = ap (variable placed_look (var_over (place_of c.slots s x))) (no_constant (place_of c.slots s x)) ∙ ap found (look_over x)

  module _ (st : Setting) (run : Runner) where
    mutual
      pub eval_over : (e : ExprTree) (left : ℕ) → eval st run placed_look (over c.slots s e) left ≡ eval st run named_look e left
      eval_over (VarExpr x) left = ap (λ a. at_once a left) (variable_over x.name (named constant_names x.name) refl)
      eval_over (CallExpr f xs) left = ap (λ r. then r (λ vs left. called st run (named call_names f.name) f.name vs left)) (all_over xs left)
      eval_over (FieldExpr e x) left = ap (λ r. then r (λ v left. at_once (field_answer (field st.records v x.name)) left)) (eval_over e left)
      eval_over (MethodExpr e m xs) left =
          then_same
          (λ v left. then (eval_all st run placed_look (over_all c.slots s xs) left) (λ vs left. at_once (method_called st.cells (selected m) v vs) left))
          (λ v left. then (eval_all st run named_look xs left) (λ vs left. at_once (method_called st.cells (selected m) v vs) left))
          (eval st run placed_look (over c.slots s e) left) (eval st run named_look e left) (eval_over e left)
          (λ v l. ap (λ r. then r (λ vs left. at_once (method_called st.cells (selected m) v vs) left)) (all_over xs l))
      eval_over (NotExpr e) left = ap (λ r. then r (λ v left. at_once (inverted v) left)) (eval_over e left)
      eval_over (NegExpr e) left = ap (λ r. then r (λ v left. at_once (negated v) left)) (eval_over e left)
      eval_over (BinaryExpr op x y) left =
          then_same (λ v left. second op v (eval st run placed_look (over c.slots s y)) left) (λ v left. second op v (eval st run named_look y) left)
          (eval st run placed_look (over c.slots s x) left) (eval st run named_look x left) (eval_over x left)
          (λ v l. ap (λ g. second op v g l) (fun_ext (eval_over y)))
      eval_over (ParenExpr e) left = eval_over e left
      eval_over _ left = refl

      pub all_over : (es : ExprTrees) (left : ℕ) → eval_all st run placed_look (over_all c.slots s es) left ≡ eval_all st run named_look es left
      all_over NoExprs left = refl
      all_over (MoreExprs e es) left =
          then_same (λ v left. then (eval_all st run placed_look (over_all c.slots s es) left) (λ vs left. Done (v ∷ vs) left))
          (λ v left. then (eval_all st run named_look es left) (λ vs left. Done (v ∷ vs) left))
          (eval st run placed_look (over c.slots s e) left) (eval st run named_look e left) (eval_over e left)
          (λ v l. ap (λ r. then r (λ vs left. Done (v ∷ vs) left)) (all_over es l))

  module _ (ns : Names) (v : View) where
    pub value_over : (e : ExprTree) → value ns v placed_look (over c.slots s e) ≡ value ns v named_look e
    value_over e = eval_over (setting ns v) (run_function (setting ns v) deepest) e v.left

    pub values_over : (es : ExprTrees) → values ns v placed_look (over_all c.slots s es) ≡ values ns v named_look es
    values_over es = all_over (setting ns v) (run_function (setting ns v) deepest) es v.left

    started_same : (o : Option ℕ) (vs : List ValueTree) (left : ℕ) → started_act ns v placed_look o vs left ≡ started_act ns v named_look o vs left
    started_same None vs left = refl
    started_same (Some k) vs left = refl

    function_same : (o : Option RoutineTree) (f : List ℕ) (vs : List ValueTree) (left : ℕ) → function_act ns v placed_look o f vs left ≡ function_act ns v named_look o f vs left
    function_same None f vs left = started_same (position (bytes_eq f) ns.actors) vs left
    function_same (Some g) f vs left = refl

    plain_same : (o : Option Predefined) (f : List ℕ) (vs : List ValueTree) (left : ℕ) → plain_act ns v placed_look o f vs left ≡ plain_act ns v named_look o f vs left
    plain_same None f vs left = function_same (routine_named ns.functions f) f vs left
    plain_same (Some code.Trace) f vs left = refl
    plain_same (Some code.SendTo) f vs left = refl
    plain_same (Some p) f vs left = refl

    based_same : (o : Option ValueTree) (q : Option Method) (vs : List ValueTree) (left : ℕ) → based_act ns v placed_look o q vs left ≡ based_act ns v named_look o q vs left
    based_same (Some u) (Some m) vs left = refl
    based_same (Some u) None vs left = refl
    based_same None q vs left = refl

    -- what a call statement asks
    pub call_over : (xs : List Ident) (es : ExprTrees) → call_act ns v placed_look (act_over c.slots s xs) (over_all c.slots s es) ≡ call_act ns v named_look xs es
    call_over [] es = refl
    call_over (f ∷ []) es =
        then_same (λ vs left. plain_act ns v placed_look (named call_names f.name) f.name vs left) (λ vs left. plain_act ns v named_look (named call_names f.name) f.name vs left)
        (values ns v placed_look (over_all c.slots s es)) (values ns v named_look es) (values_over es)
        (λ vs left. plain_same (named call_names f.name) f.name vs left)
    call_over (x ∷ y ∷ ys) es =
        then_same
        (λ vs left. based_act ns v placed_look (read_in ns.records (placed_look (var_over (place_of c.slots s x.name))) (before_last y ys)) (named method_names (last_of y ys).name) vs left)
        (λ vs left. based_act ns v named_look (read_in ns.records (named_look x.name) (before_last y ys)) (named method_names (last_of y ys).name) vs left)
        (values ns v placed_look (over_all c.slots s es)) (values ns v named_look es) (values_over es)
        (λ vs left.
        ap (λ o. based_act ns v placed_look (read_in ns.records o (before_last y ys)) (named method_names (last_of y ys).name) vs left) (look_over x.name)
        ∙ based_same (read_in ns.records (named_look x.name) (before_last y ys)) (named method_names (last_of y ys).name) vs left)

    -- how it changes a vector
    pub storing_over : (how : Change) (xs : List Ident) (es : ExprTrees)
        → storing ns v placed_look how (base_of (act_over c.slots s xs)) (over_all c.slots s es) ≡ storing ns v named_look how (base_of xs) es
    storing_over how [] es = refl
    storing_over how (f ∷ []) es = refl
    storing_over how (x ∷ y ∷ ys) es =
        then_same (λ vs left. changed how vs (read_in ns.records (placed_look (var_over (place_of c.slots s x.name))) (before_last y ys)) left)
        (λ vs left. changed how vs (read_in ns.records (named_look x.name) (before_last y ys)) left)
        (values ns v placed_look (over_all c.slots s es)) (values ns v named_look es) (values_over es)
        (λ vs left. ap (λ o. changed how vs (read_in ns.records o (before_last y ys)) left) (look_over x.name))

-- the path of a call statement over places
pub change_over : (c : ClassTree) (s : Scope) (xs : List Ident) → change_of (act_over c.slots s xs) ≡ change_of xs
change_over c s [] = refl
change_over c s (f ∷ []) = refl
change_over c s (x ∷ y ∷ ys) = refl

pub base_over : (c : ClassTree) (s : Scope) (xs : List Ident) → base_of (act_over c.slots s xs) ≡ path_over c.slots s (base_of xs)
base_over c s [] = refl
base_over c s (f ∷ []) = refl
base_over c s (x ∷ y ∷ ys) = refl

-- the effect that an expression is
abbrev pub effect_over : List SlotTree → Scope → Effectful × ExprTrees → Effectful × ExprTrees
effect_over slots s g = (g.0, over_all slots s g.1)

pub effect_in_over : (ns : Names) (slots : List SlotTree) (s : Scope) (e : ExprTree) → effect_in ns (over slots s e) ≡ option_map (effect_over slots s) (effect_in ns e)
effect_in_over ns slots s (CallExpr f es) = by_name (effectful ns f.name)
  where
    by_name : (o : Option Effectful) → option_map (λ g. (g, over_all slots s es)) o ≡ option_map (effect_over slots s) (option_map (λ g. (g, es)) o)
    by_name None = refl
    by_name (Some g) = refl
effect_in_over ns slots s e = refl

-- A call statement asks for no effect and doesn't wait.
abbrev pub IsMild : Act → Type 0
IsMild (Effects goal eff) = ⊥
IsMild (Operand spot r) = ⊥
IsMild (Waits spot vs) = ⊥
IsMild act = Unit {0}

abbrev pub AllMild : Res Act → Type 0
AllMild (Done act left) = IsMild act
AllMild r = Unit {0}

abbrev SomeMild : Option Act → Type 0
SomeMild None = Unit {0}
SomeMild (Some act) = IsMild act

then_mild : {A : Type 0} (r : Res A) (go : A → ℕ → Res Act) → ((x : A) (left : ℕ) → AllMild (go x left)) → AllMild (then r go)
then_mild (Done x left) go h = h x left
then_mild (Fails e left) go h = tt
then_mild Spent go h = tt
then_mild Meaningless go h = tt

bind_mild : {A : Type 0} (o : Option A) (go : A → Option Act) → ((x : A) → SomeMild (go x)) → SomeMild (bind o go)
bind_mild None go h = tt
bind_mild (Some x) go h = h x

done_mild : (o : Option Act) (left : ℕ) → SomeMild o → AllMild (done o left)
done_mild None left h = tt
done_mild (Some act) left h = h

map_mild : {A : Type 0} (f : A → Act) (o : Option A) → ((x : A) → IsMild (f x)) → SomeMild (option_map f o)
map_mild f None h = tt
map_mild f (Some x) h = h x

cancelled_mild : (m : Method) (k : ℕ) → SomeMild (cancelled m k)
cancelled_mild method.Cancel k = tt
cancelled_mild m k = tt

method_mild : (m : Method) (u : ValueTree) (vs : List ValueTree) → SomeMild (method_act m u vs)
method_mild m (RefValue kind.Promise k) vs = map_mild (Sends k) (sent m vs) (λ o. tt)
method_mild m (RefValue kind.PromiseStream k) vs = map_mild (Sends k) (sent m vs) (λ o. tt)
method_mild m (RefValue kind.Future k) vs = cancelled_mild m k
method_mild m u vs = tt

module _ (ns : Names) (v : View) (look : Look) where
  started_mild : (o : Option ℕ) (vs : List ValueTree) (left : ℕ) → AllMild (started_act ns v look o vs left)
  started_mild None vs left = tt
  started_mild (Some k) vs left = tt

  function_mild : (o : Option RoutineTree) (f : List ℕ) (vs : List ValueTree) (left : ℕ) → AllMild (function_act ns v look o f vs left)
  function_mild None f vs left = started_mild (position (bytes_eq f) ns.actors) vs left
  function_mild (Some g) f vs left = then_mild (Call (setting ns v) g vs left) (λ u left. Done Goes left) (λ u left. tt)

  plain_mild : (o : Option Predefined) (f : List ℕ) (vs : List ValueTree) (left : ℕ) → AllMild (plain_act ns v look o f vs left)
  plain_mild None f vs left = function_mild (routine_named ns.functions f) f vs left
  plain_mild (Some code.Trace) f vs left = tt
  plain_mild (Some code.SendTo) f vs left =
      done_mild (bind (int_of (arg vs 0)) (λ q. bind (int_of (arg vs 1)) (λ port. bind (text_of (arg vs 2)) (λ text. Some (SendsTo q port text))))) left
      (bind_mild (int_of (arg vs 0)) (λ q. bind (int_of (arg vs 1)) (λ port. bind (text_of (arg vs 2)) (λ text. Some (SendsTo q port text))))
      (λ q. bind_mild (int_of (arg vs 1)) (λ port. bind (text_of (arg vs 2)) (λ text. Some (SendsTo q port text)))
      (λ port. bind_mild (text_of (arg vs 2)) (λ text. Some (SendsTo q port text)) (λ text. tt))))
  plain_mild (Some p) f vs left = tt

  based_mild : (o : Option ValueTree) (q : Option Method) (vs : List ValueTree) (left : ℕ) → AllMild (based_act ns v look o q vs left)
  based_mild (Some u) (Some m) vs left = done_mild (method_act m u vs) left (method_mild m u vs)
  based_mild (Some u) None vs left = tt
  based_mild None q vs left = tt

  pub call_mild : (xs : List Ident) (es : ExprTrees) → AllMild (call_act ns v look xs es)
  call_mild [] es = tt
  call_mild (f ∷ []) es =
      then_mild (values ns v look es) (λ vs left. plain_act ns v look (named call_names f.name) f.name vs left) (λ vs left. plain_mild (named call_names f.name) f.name vs left)
  call_mild (x ∷ y ∷ ys) es =
      then_mild (values ns v look es)
      (λ vs left. based_act ns v look (read_in ns.records (look x.name) (before_last y ys)) (named method_names (last_of y ys).name) vs left)
      (λ vs left. based_mild (read_in ns.records (look x.name) (before_last y ys)) (named method_names (last_of y ys).name) vs left)
