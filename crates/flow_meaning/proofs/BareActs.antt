-- What a step of either kind of actor evaluates doesn't depend on places.
use Rattle.std.proofs.Common.{◌≡◌, ℕ, List, [], ◌∷◌, map, refl, ap, ap₂, ◌∙◌}
use Rattle.std.specs.Prelude.{option_map, position}
use Rattle.std.specs.declared.option.Option.{Option}
use Rattle.std.specs.declared.option.Option.TheVariants.{None, Some}
use Rattle.std.specs.Str.{bytes_eq}
use Rattle.flow_tree.specs.declared.ty.Ident.{Ident}
use Rattle.flow_tree.specs.Tree.{ExprTree, ExprTrees, CallExpr}
use Rattle.flow_tree.specs.Decls.{RoutineTree}
use Rattle.flow_tree.specs.Canon.{placeless_ident, placeless_expr, placeless_exprs, placeless_record, placeless_routine}
use Rattle.flow_ast.specs.declared.predefined.Predefined.{Predefined}
use Rattle.flow_ast.specs.declared.predefined.Predefined.TheVariants as code
use Rattle.flow_ast.specs.declared.predefined.Method.{Method}
use Rattle.flow_ast.specs.TypingNames.{named, call_names, method_names}
use Rattle.flow_ast.specs.Typing.{routine_named}
use Rattle.flow_value.specs.Values.{ValueTree}
use Rattle.flow_eval.specs.Eval.{Res, then, Done}
use Rattle.flow_eval.specs.Functions.{read_in}
use Rattle.flow_meaning.specs.Requests.{Goes, Drops}
use Rattle.flow_meaning.specs.Process.{View}
use Rattle.flow_meaning.specs.Evaluating.{Names, Look, setting, StepOf, given, evaluated, Effectful, effectful, effect_in, value, values, call_act, function_act, plain_act, based_act, before_last, last_of, asks, started_act, Change, change_by, changed, change_of, base_of, storing, call_by, call_statement}
use Rattle.flow_meaning.proofs.BareParts.{routine_bare, read_in_bare}
use Rattle.flow_meaning.proofs.BareEval.{then_same, whole_bare, whole_all_bare, call_bare}

-- what a program names, with every place the first one
abbrev pub placeless_names : Names → Names
placeless_names ns = record { records = map placeless_record ns.records; functions = map placeless_routine ns.functions; actors = ns.actors }

-- a step, and what is left of it when the actor afterwards is looked at in another way
abbrev pub through : {X A B : Type 0} → (A → B) → X × A → X × B
through f p = (p.0, f p.1)

abbrev pub placeless_effect : Effectful × ExprTrees → Effectful × ExprTrees
placeless_effect g = (g.0, placeless_exprs g.1)

-- steps that go on from equal things
pub evaluated_through : {A B C : Type 0} (f : A → B) (a : A) (go : C → ℕ → StepOf A) (next : C → ℕ → StepOf B) (r q : Res C) → q ≡ r → ((x : C) (left : ℕ) → next x left ≡ through f (go x left))
    → evaluated (f a) q next ≡ through f (evaluated a r go)
evaluated_through {A = A} {B = B} {C = C} f a go next r q e h = ap (λ z. evaluated (f a) z next) e ∙ by_result r
  where
    by_result : (r : Res C) → evaluated (f a) r next ≡ through f (evaluated a r go)
    by_result (Done x left) = h x left
    by_result _ = refl

pub given_same : {A B C : Type 0} (f : A → B) (a : A) (go : C → StepOf A) (next : C → StepOf B) (o : Option C) → ((x : C) → next x ≡ through f (go x)) → given (f a) o next ≡ through f (given a o go)
given_same f a go next None h = refl
given_same f a go next (Some x) h = h x

pub given_through : {A B C D : Type 0} (f : A → B) (a : A) (go : C → StepOf A) (next : D → StepOf B) (g : C → D) (o : Option C) (u : Option D) → u ≡ option_map g o
    → ((x : C) → next (g x) ≡ through f (go x))
    → given (f a) u next ≡ through f (given a o go)
given_through {A = A} {B = B} {C = C} {D = D} f a go next g o u e h = ap (λ z. given (f a) z next) e ∙ by_thing o
  where
    by_thing : (o : Option C) → given (f a) (option_map g o) next ≡ through f (given a o go)
    by_thing None = refl
    by_thing (Some x) = h x

pub before_last_bare : (x : Ident) (xs : List Ident) → before_last (placeless_ident x) (map placeless_ident xs) ≡ map placeless_ident (before_last x xs)
before_last_bare x [] = refl
before_last_bare x (y ∷ ys) = ap (λ zs. placeless_ident x ∷ zs) (before_last_bare y ys)

last_of_bare : (x : Ident) (xs : List Ident) → (last_of (placeless_ident x) (map placeless_ident xs)).name ≡ (last_of x xs).name
last_of_bare x [] = refl
last_of_bare x (y ∷ ys) = last_of_bare y ys

-- how a call statement changes a vector, and of which path
change_of_bare : (xs : List Ident) → change_of (map placeless_ident xs) ≡ change_of xs
change_of_bare [] = refl
change_of_bare (x ∷ []) = refl
change_of_bare (x ∷ y ∷ ys) = ap (λ z. change_by (named method_names z)) (last_of_bare y ys)

base_of_bare : (xs : List Ident) → base_of (map placeless_ident xs) ≡ map placeless_ident (base_of xs)
base_of_bare [] = refl
base_of_bare (x ∷ []) = refl
base_of_bare (x ∷ y ∷ ys) = ap (λ zs. placeless_ident x ∷ zs) (before_last_bare y ys)

module _ (ns : Names) where
  pub effect_in_bare : (e : ExprTree) → effect_in (placeless_names ns) (placeless_expr e) ≡ option_map placeless_effect (effect_in ns e)
  effect_in_bare (CallExpr f es) = by_name (effectful ns f.name)
    where
      by_name : (o : Option Effectful) → option_map (λ g. (g, placeless_exprs es)) o ≡ option_map placeless_effect (option_map (λ g. (g, es)) o)
      by_name None = refl
      by_name (Some g) = refl
  effect_in_bare e = refl

  module _ (v : View) (look : Look) where
    pub value_bare : (e : ExprTree) → value (placeless_names ns) v look (placeless_expr e) ≡ value ns v look e
    value_bare e = whole_bare (setting ns v) look e v.left

    pub values_bare : (es : ExprTrees) → values (placeless_names ns) v look (placeless_exprs es) ≡ values ns v look es
    values_bare es = whole_all_bare (setting ns v) look es v.left

    started_act_bare : (o : Option ℕ) (vs : List ValueTree) (left : ℕ) → started_act (placeless_names ns) v look o vs left ≡ started_act ns v look o vs left
    started_act_bare None vs left = refl
    started_act_bare (Some k) vs left = refl

    function_act_bare : (o : Option RoutineTree) (f : List ℕ) (vs : List ValueTree) (left : ℕ)
        → function_act (placeless_names ns) v look (option_map placeless_routine o) f vs left ≡ function_act ns v look o f vs left
    function_act_bare None f vs left = started_act_bare (position (bytes_eq f) ns.actors) vs left
    function_act_bare (Some g) f vs left = ap (λ r. then r (λ u left. Done Goes left)) (call_bare (setting ns v) g vs left)

    plain_act_bare : (p : Option Predefined) (f : List ℕ) (vs : List ValueTree) (left : ℕ) → plain_act (placeless_names ns) v look p f vs left ≡ plain_act ns v look p f vs left
    plain_act_bare None f vs left =
        ap (λ o. function_act (placeless_names ns) v look o f vs left) (routine_bare ns.functions f) ∙ function_act_bare (routine_named ns.functions f) f vs left
    plain_act_bare (Some code.Trace) f vs left = refl
    plain_act_bare (Some p) f vs left = refl

    based_act_bare : (o : Option ValueTree) (m : Option Method) (vs : List ValueTree) (left : ℕ) → based_act (placeless_names ns) v look o m vs left ≡ based_act ns v look o m vs left
    based_act_bare None None vs left = refl
    based_act_bare None (Some m) vs left = refl
    based_act_bare (Some u) None vs left = refl
    based_act_bare (Some u) (Some m) vs left = refl

    path_act_bare : (x y : Ident) (ys : List Ident) (vs : List ValueTree) (left : ℕ)
        → based_act (placeless_names ns) v look (read_in (map placeless_record ns.records) (look x.name) (before_last (placeless_ident y) (map placeless_ident ys)))
        (named method_names (last_of (placeless_ident y) (map placeless_ident ys)).name) vs left
        ≡ based_act ns v look (read_in ns.records (look x.name) (before_last y ys)) (named method_names (last_of y ys).name) vs left
    path_act_bare x y ys vs left =
        ap₂ (λ zs z. based_act (placeless_names ns) v look (read_in (map placeless_record ns.records) (look x.name) zs) (named method_names z) vs left) (before_last_bare y ys) (last_of_bare y ys)
        ∙ ap (λ o. based_act (placeless_names ns) v look o (named method_names (last_of y ys).name) vs left) (read_in_bare ns.records (look x.name) (before_last y ys))
        ∙ based_act_bare (read_in ns.records (look x.name) (before_last y ys)) (named method_names (last_of y ys).name) vs left

    pub call_act_bare : (xs : List Ident) (es : ExprTrees) → call_act (placeless_names ns) v look (map placeless_ident xs) (placeless_exprs es) ≡ call_act ns v look xs es
    call_act_bare [] es = refl
    call_act_bare (f ∷ []) es =
        then_same (λ vs left. plain_act (placeless_names ns) v look (named call_names f.name) f.name vs left) (λ vs left. plain_act ns v look (named call_names f.name) f.name vs left)
        (values (placeless_names ns) v look (placeless_exprs es)) (values ns v look es) (values_bare es) (plain_act_bare (named call_names f.name) f.name)
    call_act_bare (x ∷ y ∷ ys) es =
        then_same
        (λ vs left. based_act (placeless_names ns) v look (read_in (map placeless_record ns.records) (look x.name) (before_last (placeless_ident y) (map placeless_ident ys)))
        (named method_names (last_of (placeless_ident y) (map placeless_ident ys)).name) vs left)
        (λ vs left. based_act ns v look (read_in ns.records (look x.name) (before_last y ys)) (named method_names (last_of y ys).name) vs left)
        (values (placeless_names ns) v look (placeless_exprs es)) (values ns v look es) (values_bare es) (path_act_bare x y ys)

    storing_bare : (how : Change) (xs : List Ident) (es : ExprTrees) → storing (placeless_names ns) v look how (map placeless_ident xs) (placeless_exprs es) ≡ storing ns v look how xs es
    storing_bare how [] es = refl
    storing_bare how (x ∷ xs) es =
        then_same (λ vs left. changed how vs (read_in (map placeless_record ns.records) (look x.name) (map placeless_ident xs)) left)
        (λ vs left. changed how vs (read_in ns.records (look x.name) xs) left) (values (placeless_names ns) v look (placeless_exprs es)) (values ns v look es) (values_bare es)
        (λ vs left. ap (λ o. changed how vs o left) (read_in_bare ns.records (look x.name) xs))

    -- a call statement, by actors that are equal but for places
    module _ {A : Type 0} (g : A → A) (now next : A) (put bare_put : List Ident → ValueTree → Option A)
        (same : (xs : List Ident) (u : ValueTree) → bare_put (map placeless_ident xs) u ≡ option_map g (put xs u)) (path : List Ident) (es : ExprTrees) where
      call_by_bare : (o : Option Change)
          → call_by (placeless_names ns) v look o (g now) (g next) bare_put (map placeless_ident path) (placeless_exprs es) ≡ through g (call_by ns v look o now next put path es)
      call_by_bare None =
          evaluated_through g now (λ act left. asks left act next) (λ act left. asks left act (g next)) (call_act ns v look path es)
          (call_act (placeless_names ns) v look (map placeless_ident path) (placeless_exprs es)) (call_act_bare path es) (λ act left. refl)
      call_by_bare (Some how) =
          evaluated_through g now (λ s left. given now (put (base_of path) s.0) (λ a. asks left (Drops s.1) a))
          (λ s left. given (g now) (bare_put (base_of (map placeless_ident path)) s.0) (λ a. asks left (Drops s.1) a)) (storing ns v look how (base_of path) es)
          (storing (placeless_names ns) v look how (base_of (map placeless_ident path)) (placeless_exprs es))
          (ap (λ xs. storing (placeless_names ns) v look how xs (placeless_exprs es)) (base_of_bare path) ∙ storing_bare how (base_of path) es)
          (λ s left. given_through g now (λ a. asks left (Drops s.1) a) (λ a. asks left (Drops s.1) a) g (put (base_of path) s.0) (bare_put (base_of (map placeless_ident path)) s.0)
          (ap (λ xs. bare_put xs s.0) (base_of_bare path) ∙ same (base_of path) s.0) (λ a. refl))

      pub call_through : call_statement (placeless_names ns) v look (g now) (g next) bare_put (map placeless_ident path) (placeless_exprs es)
          ≡ through g (call_statement ns v look now next put path es)
      call_through =
          ap (λ o. call_by (placeless_names ns) v look o (g now) (g next) bare_put (map placeless_ident path) (placeless_exprs es)) (change_of_bare path) ∙ call_by_bare (change_of path)
