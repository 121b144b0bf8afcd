-- What is well typed over the places of a class has a meaning where the places that it reads are filled.
use Rattle.std.proofs.Common.{◌≡◌, ℕ, nat_eq, Bool, true, false, not, ◌&&◌, ◌||◌, List, [], ◌∷◌, ◌++◌, if◌then◌else◌, refl, sym, ap, ◌∙◌, subst, arith}
use Rattle.std.specs.Prelude.{cond}
use Rattle.std.specs.Option.{option_map}
use Rattle.std.specs.Str.{bytes_eq}
use Rattle.std.specs.declared.option.Option.{Option}
use Rattle.std.specs.declared.option.Option.TheVariants.{None, Some}
use Rattle.flow_tree.specs.Tree.{TypeTree, ExprTree, ExprTrees, IntExpr, TextExpr, BoolExpr, VoidExpr, VarExpr, CallExpr, FieldExpr, MethodExpr, NotExpr, NegExpr, BinaryExpr, ParenExpr, NoExprs, MoreExprs}
use Rattle.flow_tree.specs.Decls.{ParamTree, RecordTree, RoutineTree}
use Rattle.flow_ast.specs.TypingNames.{named, selected, constant_names}
use Rattle.flow_ast.specs.Typing.{param_named, variable_in, is_there, type_in, types_in, without_effects, all_without_effects, with_type, more_types, applied, call_signature, field_type, method_in, bool_only, int_only, binary_type, effect_call}
use Rattle.flow_ast.specs.Fits.{scope_over, Yields, FunctionsFit}
use Rattle.flow_value.specs.Values.{ValueTree, values_of_list}
use Rattle.flow_eval.specs.Eval.{Setting, eval_all}
use Rattle.flow_eval.specs.Functions.{Eval, run_function, deepest}
use Rattle.flow_eval.specs.Typed.{HasType, HaveTypes, CellsFit, VariablesFit}
use Rattle.flow_eval.specs.WellTyped.{Safe}
use Rattle.flow_eval.proofs.TypedValues.{none_some, bytes_same}
use Rattle.flow_eval.proofs.TypedExprs.{eval_good, all_good}
use Rattle.flow_eval.proofs.TypedStatements.{runner_good}
use Rattle.flow_class.specs.declared.class.Slotted.{Slotted}
use Rattle.flow_class.specs.declared.class.Slotted.TheVariants.{Slot, Local}
use Rattle.flow_class.specs.Classes.{ClassTree}
use Rattle.flow_class.specs.Places.{place_named}
use Rattle.flow_valid.specs.Named.{listed, expr_places, exprs_places}
use Rattle.flow_valid.specs.Filling.{same_place, among}
use Rattle.flow_meaning.specs.Evaluating.{bind}
use Rattle.flow_meaning.specs.Frame.{Memory, read, look}
use Rattle.flow_progress.specs.Places.{AreNamed, Filled, HoldsTypes}

-- the variables that an expression reads are filled
abbrev mutual
  pub Readable : Memory → ExprTree → Type 0
  Readable m (IntExpr n) = Unit {0}
  Readable m (TextExpr t) = Unit {0}
  Readable m (BoolExpr b) = Unit {0}
  Readable m VoidExpr = Unit {0}
  Readable m (VarExpr x) = (q : Slotted) → place_named x.name ≡ Some q → Filled m q
  Readable m (CallExpr f es) = AllReadable m es
  Readable m (FieldExpr e x) = Readable m e
  Readable m (MethodExpr e k es) = Readable m e × AllReadable m es
  Readable m (NotExpr e) = Readable m e
  Readable m (NegExpr e) = Readable m e
  Readable m (BinaryExpr op a b) = Readable m a × Readable m b
  Readable m (ParenExpr e) = Readable m e

  pub AllReadable : Memory → ExprTrees → Type 0
  AllReadable m NoExprs = Unit {0}
  AllReadable m (MoreExprs e es) = Readable m e × AllReadable m es

pub same_self : (q : Slotted) → same_place q q ≡ true
same_self (Slot n) = let e : nat_eq n n ≡ true = grind arith in e
same_self (Local n) = let e : nat_eq n n ≡ true = grind arith in e

pub among_left : (xs ys : List Slotted) (q : Slotted) → among xs q ≡ true → among (xs ++ ys) q ≡ true
among_left [] ys q h = absurd (no_true h)
  where
    no_true : false ≡ true → ⊥
    no_true h = cc
among_left (x ∷ xs) ys q h = by_first (same_place q x) h (among_left xs ys q)
  where
    by_first : (b : Bool) → b || among xs q ≡ true → (among xs q ≡ true → among (xs ++ ys) q ≡ true) → b || among (xs ++ ys) q ≡ true
    by_first true h k = refl
    by_first false h k = k h

pub among_right : (xs ys : List Slotted) (q : Slotted) → among ys q ≡ true → among (xs ++ ys) q ≡ true
among_right [] ys q h = h
among_right (x ∷ xs) ys q h = by_first (same_place q x) (among_right xs ys q h)
  where
    by_first : (b : Bool) → among (xs ++ ys) q ≡ true → b || among (xs ++ ys) q ≡ true
    by_first true h = refl
    by_first false h = h

abbrev pub AllFilled : Memory → List Slotted → Type 0
AllFilled m ps = (q : Slotted) → among ps q ≡ true → Filled m q

mutual
  pub readable_by : (m : Memory) (e : ExprTree) → AllFilled m (expr_places e) → Readable m e
  readable_by m (VarExpr x) h = λ q e. h q (ap (λ o. among (listed o) q) e ∙ ap (λ b. b || false) (same_self q))
  readable_by m (CallExpr f es) h = all_readable_by m es h
  readable_by m (FieldExpr e x) h = readable_by m e h
  readable_by m (MethodExpr e k es) h = (
    readable_by m e (λ q a. h q (among_left (expr_places e) (exprs_places es) q a)),
    all_readable_by m es
        (λ q a. h q (among_right (expr_places e) (exprs_places es) q a)),
  )
  readable_by m (NotExpr e) h = readable_by m e h
  readable_by m (NegExpr e) h = readable_by m e h
  readable_by m (BinaryExpr op a b) h = (readable_by m a (λ q k. h q (among_left (expr_places a) (expr_places b) q k)), readable_by m b (λ q k. h q (among_right (expr_places a) (expr_places b) q k)))
  readable_by m (ParenExpr e) h = readable_by m e h
  readable_by m _ h = tt

  pub all_readable_by : (m : Memory) (es : ExprTrees) → AllFilled m (exprs_places es) → AllReadable m es
  all_readable_by m NoExprs h = tt
  all_readable_by m (MoreExprs e es) h = (
    readable_by m e (λ q k. h q (among_left (expr_places e) (exprs_places es) q k)),
    all_readable_by m es
        (λ q k. h q (among_right (expr_places e) (exprs_places es) q k)),
  )

-- the variables that have a value
abbrev filled_vars : Memory → List ParamTree → List ParamTree
filled_vars m [] = []
filled_vars m (p ∷ ps) = if is_there (look m p.name.name) then p ∷ filled_vars m ps else filled_vars m ps

still_none : (m : Memory) (ps : List ParamTree) (x : List ℕ) → param_named ps x ≡ None → param_named (filled_vars m ps) x ≡ None
still_none m [] x h = refl
still_none m (p ∷ ps) x h = by_name (bytes_eq p.name.name x) (is_there (look m p.name.name)) refl h (still_none m ps x)
  where
    some_none : {X Y : Type 0} {x : X} → Some x ≡ None → Y
    some_none h = absurd cc

    by_name : (b d : Bool) → bytes_eq p.name.name x ≡ b → cond b (Some p) (param_named ps x) ≡ None → (param_named ps x ≡ None → param_named (filled_vars m ps) x ≡ None)
        → param_named (if d then p ∷ filled_vars m ps else filled_vars m ps) x ≡ None
    by_name true d e h k = some_none h
    by_name false true e h k = ap (λ b. cond b (Some p) (param_named (filled_vars m ps) x)) e ∙ k h
    by_name false false e h k = k h

still_named : (m : Memory) (ps : List ParamTree) (x : List ℕ) (v : ValueTree) → look m x ≡ Some v → param_named (filled_vars m ps) x ≡ param_named ps x
still_named m [] x v h = refl
still_named m (p ∷ ps) x v h = by_name (bytes_eq p.name.name x) (is_there (look m p.name.name)) refl refl (still_named m ps x v h)
  where
    by_name : (b d : Bool) → bytes_eq p.name.name x ≡ b → is_there (look m p.name.name) ≡ d → param_named (filled_vars m ps) x ≡ param_named ps x
        → param_named (if d then p ∷ filled_vars m ps else filled_vars m ps) x ≡ cond b (Some p) (param_named ps x)
    by_name true true e f k = ap (λ b. cond b (Some p) (param_named (filled_vars m ps) x)) e
    by_name true false e f k =
        let there : is_there (look m p.name.name) ≡ true = ap (λ y. is_there (look m y)) (bytes_same p.name.name x e) ∙ ap is_there h in
        absurd (differs (sym there ∙ f))
      where
        differs : true ≡ false → ⊥
        differs h = cc
    by_name false true e f k = ap (λ b. cond b (Some p) (param_named (filled_vars m ps) x)) e ∙ k
    by_name false false e f k = k

has_value : (m : Memory) (ps : List ParamTree) (x : List ℕ) (p : ParamTree) → param_named (filled_vars m ps) x ≡ Some p → (v : ValueTree) × (look m x ≡ Some v)
has_value m [] x p h = none_some p h
has_value m (y ∷ ps) x p h = by_kept (is_there (look m y.name.name)) refl h (has_value m ps x p)
  where
    value_of : (o : Option ValueTree) → is_there o ≡ true → (v : ValueTree) × (o ≡ Some v)
    value_of None h = absurd (no_true h)
      where
        no_true : false ≡ true → ⊥
        no_true h = cc
    value_of (Some v) h = (v, refl)

    by_name : (b : Bool) → bytes_eq y.name.name x ≡ b → is_there (look m y.name.name) ≡ true → cond b (Some y) (param_named (filled_vars m ps) x) ≡ Some p
        → (param_named (filled_vars m ps) x ≡ Some p → (v : ValueTree) × (look m x ≡ Some v)) → (v : ValueTree) × (look m x ≡ Some v)
    by_name true e d h k = subst (λ z. (v : ValueTree) × (look m z ≡ Some v)) (bytes_same y.name.name x e) (value_of (look m y.name.name) d)
    by_name false e d h k = k h

    by_kept : (d : Bool) → is_there (look m y.name.name) ≡ d → param_named (if d then y ∷ filled_vars m ps else filled_vars m ps) x ≡ Some p
        → (param_named (filled_vars m ps) x ≡ Some p → (v : ValueTree) × (look m x ≡ Some v)) → (v : ValueTree) × (look m x ≡ Some v)
    by_kept true d h k = by_name (bytes_eq y.name.name x) refl d h k
    by_kept false d h k = k h

module _ (rs : List RecordTree) (fs actors : List RoutineTree) (c : ClassTree) (vars : List ParamTree) (named_so : AreNamed c vars) (m : Memory) where
  same_variable : (x : List ℕ) (o : Option ℕ) → ((q : Slotted) → place_named x ≡ Some q → Filled m q) → variable_in (filled_vars m vars) x o ≡ variable_in vars x o
  same_variable x (Some n) h = refl
  same_variable x None h = ap (option_map (λ (p : ParamTree). p.ty)) (by_found (param_named vars x) refl)
    where
      by_found : (o : Option ParamTree) → param_named vars x ≡ o → param_named (filled_vars m vars) x ≡ o
      by_found None e = still_none m vars x e
      by_found (Some p) e =
          let q = named_so x p e in
          let v = h q.0 q.1 in
          still_named m vars x v.0 (ap (λ o. bind o (read m)) q.1 ∙ v.1) ∙ e

  mutual
    types_same : (e : ExprTree) → Readable m e → type_in (scope_over rs fs actors (filled_vars m vars)) e ≡ type_in (scope_over rs fs actors vars) e
    types_same (VarExpr x) h = same_variable x.name (named constant_names x.name) h
    types_same (CallExpr f es) h = ap (λ o. with_type o (applied (call_signature (scope_over rs fs actors vars) f.name))) (all_types_same es h)
    types_same (FieldExpr e x) h = ap (λ o. with_type o (λ t. field_type rs t x.name)) (types_same e h)
    types_same (MethodExpr e k es) h =
        ap (λ o. with_type o (λ t. with_type (types_in (scope_over rs fs actors (filled_vars m vars)) es) (applied (method_in t (selected k))))) (types_same e h.0)
        ∙ ap (λ o. with_type (type_in (scope_over rs fs actors vars) e) (λ t. with_type o (applied (method_in t (selected k))))) (all_types_same es h.1)
    types_same (NotExpr e) h = ap (λ o. with_type o bool_only) (types_same e h)
    types_same (NegExpr e) h = ap (λ o. with_type o int_only) (types_same e h)
    types_same (BinaryExpr op a b) h =
        ap (λ o. with_type o (λ t. with_type (type_in (scope_over rs fs actors (filled_vars m vars)) b) (binary_type op t))) (types_same a h.0)
        ∙ ap (λ o. with_type (type_in (scope_over rs fs actors vars) a) (λ t. with_type o (binary_type op t))) (types_same b h.1)
    types_same (ParenExpr e) h = types_same e h
    types_same _ h = refl

    all_types_same : (es : ExprTrees) → AllReadable m es → types_in (scope_over rs fs actors (filled_vars m vars)) es ≡ types_in (scope_over rs fs actors vars) es
    all_types_same NoExprs h = refl
    all_types_same (MoreExprs e es) h =
        ap (λ o. more_types o (types_in (scope_over rs fs actors (filled_vars m vars)) es)) (types_same e h.0)
        ∙ ap (more_types (type_in (scope_over rs fs actors vars) e)) (all_types_same es h.1)

-- effects don't depend on the variables
module _ (rs : List RecordTree) (fs actors : List RoutineTree) (vs ws : List ParamTree) where
  mutual
    quiet_same : (e : ExprTree) → without_effects (scope_over rs fs actors vs) e ≡ without_effects (scope_over rs fs actors ws) e
    quiet_same (CallExpr f es) = ap (λ b. not (effect_call (scope_over rs fs actors ws) f.name) && b) (all_quiet_same es)
    quiet_same (FieldExpr e x) = quiet_same e
    quiet_same (MethodExpr e k es) = ap (λ b. b && all_without_effects (scope_over rs fs actors vs) es) (quiet_same e)
        ∙ ap (λ b. without_effects (scope_over rs fs actors ws) e && b) (all_quiet_same es)
    quiet_same (NotExpr e) = quiet_same e
    quiet_same (NegExpr e) = quiet_same e
    quiet_same (BinaryExpr op a b) = ap (λ z. z && without_effects (scope_over rs fs actors vs) b) (quiet_same a) ∙ ap (λ z. without_effects (scope_over rs fs actors ws) a && z) (quiet_same b)
    quiet_same (ParenExpr e) = quiet_same e
    quiet_same _ = refl

    all_quiet_same : (es : ExprTrees) → all_without_effects (scope_over rs fs actors vs) es ≡ all_without_effects (scope_over rs fs actors ws) es
    all_quiet_same NoExprs = refl
    all_quiet_same (MoreExprs e es) = ap (λ z. z && all_without_effects (scope_over rs fs actors vs) es) (quiet_same e)
        ∙ ap (λ z. without_effects (scope_over rs fs actors ws) e && z) (all_quiet_same es)

-- so what is well typed means something over a memory that fits
module _ (s : Setting) (typed : ℕ → TypeTree → Type 0) (actors : List RoutineTree) (c : ClassTree) (vars : List ParamTree) (named_so : AreNamed c vars) (m : Memory)
    (holds : HoldsTypes s.records typed c m) (cells : CellsFit s.records typed s.cells) (functions : FunctionsFit s.records s.functions actors) where
  fit : VariablesFit s.records typed (look m) (filled_vars m vars)
  fit x p e =
      let v = has_value m vars x p e in
      let same : param_named vars x ≡ Some p = sym (still_named m vars x v.0 v.1) ∙ e in
      let q = named_so x p same in
      let stands : read m q.0 ≡ Some v.0 = sym (ap (λ o. bind o (read m)) q.1) ∙ v.1 in
      (v.0, v.1, holds.types q.0 p.ty v.0 q.2 stands)

  pub value_safe : (e : ExprTree) (t : TypeTree) (left : ℕ) → Readable m e → Yields s.records s.functions actors vars e t → Safe (λ v. HasType s.records typed v t) (Eval s (look m) e left)
  value_safe e t left h y =
      eval_good s typed actors (run_function s deepest) (filled_vars m vars) (look m) fit cells (runner_good s typed actors cells functions deepest) e t left
      (types_same s.records s.functions actors c vars named_so m e h ∙ y.0) (quiet_same s.records s.functions actors (filled_vars m vars) vars e ∙ y.1)

  pub values_safe : (es : ExprTrees) (ts : List TypeTree) (left : ℕ) → AllReadable m es → types_in (scope_over s.records s.functions actors vars) es ≡ Some ts
      → all_without_effects (scope_over s.records s.functions actors vars) es ≡ true
      → Safe (λ vs. HaveTypes s.records typed (values_of_list vs) ts) (eval_all s (run_function s deepest) (look m) es left)
  values_safe es ts left h t y =
      all_good s typed actors (run_function s deepest) (filled_vars m vars) (look m) fit cells (runner_good s typed actors cells functions deepest) es ts left
      (all_types_same s.records s.functions actors c vars named_so m es h ∙ t) (all_quiet_same s.records s.functions actors (filled_vars m vars) vars es ∙ y)
