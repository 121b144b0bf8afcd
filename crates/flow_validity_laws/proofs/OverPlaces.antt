-- An expression over places is judged as it was over names.
use Rattle.std.proofs.Common.{◌≡◌, ℕ, suc, Bool, true, false, List, [], ◌∷◌, ◌++◌, slice_get, refl, ap, ap₂, sym, subst, ◌∙◌}
use Rattle.std.specs.declared.option.Option.{Option}
use Rattle.std.specs.declared.option.Option.TheVariants.{None, Some}
use Rattle.flow_tree.specs.declared.ty.Ident.{Ident}
use Rattle.flow_tree.specs.Tree.{Selector, TypeTree, IntType, BoolType, NamedType, ExprTree, ExprTrees, VarExpr, CallExpr, FieldExpr, MethodExpr, NotExpr, NegExpr, BinaryExpr, ParenExpr, NoExprs, MoreExprs}
use Rattle.flow_ast.specs.declared.predefined.Method.{Method}
use Rattle.flow_ast.specs.TypingNames.{named, constant_names, method_names}
use Rattle.flow_ast.specs.Typing.{is_there, with_type}
use Rattle.flow_class.specs.declared.class.Slotted.{Slotted}
use Rattle.flow_class.specs.Places.{place_name}
use Rattle.flow_class.specs.Classes.{ClassTree}
use Rattle.flow_class.specs.Scopes.{Scope, place_of, var_over, name_over, over, over_all, path_over, act_over}
use Rattle.flow_rules.specs.declared.rule.SemanticRule.{SemanticRule}
use Rattle.flow_rules.specs.declared.rule.SemanticRule.TheVariants.{UnknownName, WrongCount}
use Rattle.flow_rules.specs.Least.{lesser, unless}
use Rattle.flow_rules.specs.Judged.{Setting, Need, Kind, Value, OfFunction, Clock, Effect, Statement, Callee, called, called_by, called_on, needs_of, gives_of, field_form, variable_as, variable_form, sign_form, form, wants, fits, operands, placed, said, as_many, calls, calls_on, of_field, fault, faults, wanted, selected_on}
use Rattle.flow_rules.specs.Items.{path_form, path_fault, target_form, target_fault, assigned, ends_of, call_fault}
use Rattle.flow_rules.proofs.Lesser.{no_first, no_second, no_lesser, holds}
use Rattle.flow_valid.specs.Validity.{slot_rows, local_rows, is_effect_kind, calls_effect, is_effect, put_fault}
use Rattle.flow_typing_laws.proofs.Typing.Names.{some_none, there}

module _ (base : Setting) (c : ClassTree) where
  -- the places of the class by their names
  abbrev pub class_vars : List (List ℕ × TypeTree)
  class_vars = slot_rows 0 c.slots ++ local_rows 0 c.locals

  abbrev pub over_names : List (List ℕ × TypeTree) → Setting
  over_names vs = record base { vars = vs }

  abbrev pub over_class : Setting
  over_class = record base { vars = class_vars }

  -- a variable in force has a place of its type
  pub record Placed (s : Scope) (x : List ℕ) (t : TypeTree) : Type 0 where
    pub to : Slotted
    pub is : place_of c.slots s x ≡ Some to
    pub typed : named class_vars (place_name to) ≡ Some t
    pub plain : named constant_names x ≡ None
    pub variable : named constant_names (place_name to) ≡ None

  abbrev pub Sees : List (List ℕ × TypeTree) → Scope → Type 0
  Sees vs s = (x : List ℕ) (t : TypeTree) → named vs x ≡ Some t → Placed s x t

  module _ (vs : List (List ℕ × TypeTree)) where
    -- what doesn't look at variables
    field_same : (t : TypeTree) (x : List ℕ) → field_form over_class t x ≡ field_form (over_names vs) t x
    field_same (NamedType r) x = refl
    field_same t x = refl

    with_field : (o : Option TypeTree) (x : List ℕ) → with_type o (λ t. field_form over_class t x) ≡ with_type o (λ t. field_form (over_names vs) t x)
    with_field None x = refl
    with_field (Some t) x = field_same t x

    field_fault : (o : Option TypeTree) (x : List ℕ) → of_field over_class o x ≡ of_field (over_names vs) o x
    field_fault None x = refl
    field_fault (Some t) x = ap (λ q. unless (is_there q) UnknownName) (field_same t x)

    placed_same : (whole : Bool) (k : Kind) → placed over_class whole k ≡ placed (over_names vs) whole k
    placed_same whole Value = refl
    placed_same whole _ = refl

    said_same : (k : Kind) → said over_class k ≡ said (over_names vs) k
    said_same Value = refl
    said_same _ = refl

    pub path_form_same : (xs : List Ident) (o : Option TypeTree) → path_form over_class o xs ≡ path_form (over_names vs) o xs
    path_form_same [] o = refl
    path_form_same (x ∷ xs) None = refl
    path_form_same (x ∷ xs) (Some t) = ap (λ q. path_form over_class q xs) (field_same t x.name) ∙ path_form_same xs (field_form (over_names vs) t x.name)

    pub path_fault_same : (xs : List Ident) (o : Option TypeTree) → path_fault over_class o xs ≡ path_fault (over_names vs) o xs
    path_fault_same [] o = refl
    path_fault_same (x ∷ xs) None = refl
    path_fault_same (x ∷ xs) (Some t) =
        ap₂ lesser (field_fault (Some t) x.name) (ap (λ q. path_fault over_class q xs) (field_same t x.name) ∙ path_fault_same xs (field_form (over_names vs) t x.name))

  module _ (vs : List (List ℕ × TypeTree)) (s : Scope) (sees : Sees vs s) where
    as_many_same : (es : ExprTrees) (ns : List Need) → as_many (over_all c.slots s es) ns ≡ as_many es ns
    as_many_same NoExprs [] = refl
    as_many_same NoExprs (n ∷ ns) = refl
    as_many_same (MoreExprs e es) [] = refl
    as_many_same (MoreExprs e es) (n ∷ ns) = as_many_same es ns

    calls_same : (es : ExprTrees) (o : Option Callee) (may can : Kind → Option SemanticRule) → ((k : Kind) → can k ≡ may k) → calls es o may ≡ None → calls (over_all c.slots s es) o can ≡ None
    calls_same es None may can e h = h
    calls_same es (Some k) may can e h = ap₂ (λ b f. lesser (unless b WrongCount) f) (as_many_same es k.needs) (e k.kind) ∙ h

    calls_on_same : (o : Option TypeTree) (es : ExprTrees) (m : Selector) → calls_on o es (selected_on o m) (placed (over_names vs) false) ≡ None
        → calls_on o (over_all c.slots s es) (selected_on o m) (placed over_class false) ≡ None
    calls_on_same None es m h = refl
    calls_on_same (Some t) es m h = calls_same es (selected_on (Some t) m) (placed (over_names vs) false) (placed over_class false) (placed_same vs false) h

    -- a variable that is not a constant
    pub place_form : (x : List ℕ) (t : TypeTree) → Placed s x t → variable_form over_class (var_over (place_of c.slots s x)) ≡ Some t
    place_form x t p = ap (λ o. variable_form over_class (var_over o)) p.is ∙ ap (λ o. variable_as over_class (place_name p.to) o) p.variable ∙ p.typed

    by_constant : (x : List ℕ) (o : Option ℕ) → named constant_names x ≡ o → is_there (variable_as (over_names vs) x o) ≡ true
        → variable_form over_class (name_over o (place_of c.slots s x) x) ≡ variable_as (over_names vs) x o
    by_constant x (Some n) e h = ap (λ o. variable_as over_class x o) e
    by_constant x None e h = let f = there (named vs x) h in place_form x f.value (sees x f.value f.is) ∙ sym f.is

    pub record IsSame (whole : Bool) (e : ExprTree) : Type 0 where
      pub by_form : form over_class (over c.slots s e) ≡ form (over_names vs) e
      pub sound : fault over_class whole (over c.slots s e) ≡ None

    mutual
      pub same : (whole : Bool) (e : ExprTree) → fault (over_names vs) whole e ≡ None → IsSame whole e
      same whole (VarExpr x) h =
          let f = by_constant x.name (named constant_names x.name) refl (holds (is_there (variable_form (over_names vs) x.name)) UnknownName h) in
          record { by_form = f; sound = ap (λ o. unless (is_there o) UnknownName) f ∙ h }
      same whole (CallExpr f es) h =
          let o = called (over_names vs) f.name in
          let l = faults (over_names vs) 0 (needs_of o) es in
          let k = calls es o (placed (over_names vs) whole) in
          record {
            by_form = refl;
            sound = no_lesser (faults over_class 0 (needs_of o) (over_all c.slots s es)) (calls (over_all c.slots s es) o (placed over_class whole)) (all_same 0 (needs_of o) es (no_first l k h))
                (calls_same es o (placed (over_names vs) whole) (placed over_class whole) (placed_same vs whole) (no_second l k h));
          }
      same whole (FieldExpr e x) h =
          let f = of_field (over_names vs) (form (over_names vs) e) x.name in
          let i = same false e (no_first (fault (over_names vs) false e) f h) in
          record {
            by_form = ap (λ o. with_type o (λ t. field_form over_class t x.name)) i.by_form ∙ with_field vs (form (over_names vs) e) x.name;
            sound = no_lesser (fault over_class false (over c.slots s e)) (of_field over_class (form over_class (over c.slots s e)) x.name) i.sound
                (ap (λ o. of_field over_class o x.name) i.by_form ∙ field_fault vs (form (over_names vs) e) x.name ∙ no_second (fault (over_names vs) false e) f h);
          }
      same whole (MethodExpr e m es) h =
          let t = form (over_names vs) e in
          let l = faults (over_names vs) 0 (needs_of (selected_on t m)) es in
          let k = calls_on t es (selected_on t m) (placed (over_names vs) false) in
          let r = no_second (fault (over_names vs) false e) (lesser l k) h in
          let i = same false e (no_first (fault (over_names vs) false e) (lesser l k) h) in
          let args = all_same 0 (needs_of (selected_on t m)) es (no_first l k r) in
          let call = calls_on_same t es m (no_second l k r) in
          let rest = no_lesser (faults over_class 0 (needs_of (selected_on t m)) (over_all c.slots s es)) (calls_on t (over_all c.slots s es) (selected_on t m) (placed over_class false)) args
          call in
          record {
            by_form = ap (λ o. gives_of (selected_on o m)) i.by_form;
            sound = no_lesser (fault over_class false (over c.slots s e)) _ i.sound
                (subst (λ o. lesser (faults over_class 0 (needs_of (selected_on o m)) (over_all c.slots s es)) (calls_on o (over_all c.slots s es) (selected_on o m) (placed over_class false))
                ≡ None) (sym i.by_form) rest);
          }
      same whole (NotExpr e) h =
          let f = wants (form (over_names vs) e) BoolType in
          let i = same false e (no_first (fault (over_names vs) false e) f h) in
          record { by_form = refl; sound = no_lesser (fault over_class false (over c.slots s e)) _ i.sound (ap (λ o. wants o BoolType) i.by_form ∙ no_second (fault (over_names vs) false e) f h) }
      same whole (NegExpr e) h =
          let f = wants (form (over_names vs) e) IntType in
          let i = same false e (no_first (fault (over_names vs) false e) f h) in
          record { by_form = refl; sound = no_lesser (fault over_class false (over c.slots s e)) _ i.sound (ap (λ o. wants o IntType) i.by_form ∙ no_second (fault (over_names vs) false e) f h) }
      same whole (BinaryExpr op a b) h =
          let l = lesser (fault (over_names vs) false a) (fault (over_names vs) false b) in
          let o = operands op (form (over_names vs) a) (form (over_names vs) b) in
          let r = no_first l o h in
          let i = same false a (no_first (fault (over_names vs) false a) (fault (over_names vs) false b) r) in
          let j = same false b (no_second (fault (over_names vs) false a) (fault (over_names vs) false b) r) in
          record {
            by_form = ap₂ (sign_form op) i.by_form j.by_form;
            sound = no_lesser (lesser (fault over_class false (over c.slots s a)) (fault over_class false (over c.slots s b))) _
                (no_lesser (fault over_class false (over c.slots s a)) (fault over_class false (over c.slots s b)) i.sound j.sound) (ap₂ (operands op) i.by_form j.by_form ∙ no_second l o h);
          }
      same whole (ParenExpr e) h = let i = same false e h in record { by_form = i.by_form; sound = i.sound }
      same whole _ h = record { by_form = refl; sound = refl }

      pub all_same : (k : ℕ) (ns : List Need) (es : ExprTrees) → faults (over_names vs) k ns es ≡ None → faults over_class k ns (over_all c.slots s es) ≡ None
      all_same k ns NoExprs h = refl
      all_same k ns (MoreExprs e es) h =
          let f = fits (form (over_names vs) e) (slice_get ns k) in
          let one = lesser (fault (over_names vs) false e) f in
          let r = no_first one (faults (over_names vs) (suc k) ns es) h in
          let i = same false e (no_first (fault (over_names vs) false e) f r) in
          no_lesser (lesser (fault over_class false (over c.slots s e)) (fits (form over_class (over c.slots s e)) (slice_get ns k))) (faults over_class (suc k) ns (over_all c.slots s es))
          (no_lesser (fault over_class false (over c.slots s e)) _ i.sound (ap (λ o. fits o (slice_get ns k)) i.by_form ∙ no_second (fault (over_names vs) false e) f r))
          (all_same (suc k) ns es (no_second one (faults (over_names vs) (suc k) ns es) h))

    pub wanted_same : (whole : Bool) (e : ExprTree) (t : TypeTree) → wanted (over_names vs) whole e t ≡ None → wanted over_class whole (over c.slots s e) t ≡ None
    wanted_same whole e t h =
        let w = wants (form (over_names vs) e) t in
        let i = same whole e (no_first (fault (over_names vs) whole e) w h) in
        no_lesser (fault over_class whole (over c.slots s e)) _ i.sound (ap (λ o. wants o t) i.by_form ∙ no_second (fault (over_names vs) whole e) w h)

    -- targets
    pub record IsTarget (xs : List Ident) : Type 0 where
      pub sound : target_fault over_class (path_over c.slots s xs) ≡ None
      pub by_form : target_form over_class (path_over c.slots s xs) ≡ target_form (over_names vs) xs

    pub target_same : (xs : List Ident) → target_fault (over_names vs) xs ≡ None → IsTarget xs
    target_same [] h = record { sound = refl; by_form = refl }
    target_same (x ∷ xs) h =
        let f = there (named vs x.name) (holds (is_there (named vs x.name)) UnknownName (no_first (unless (is_there (named vs x.name)) UnknownName) _ h)) in
        let p = sees x.name f.value f.is in
        let e : named class_vars (var_over (place_of c.slots s x.name)) ≡ named vs x.name = ap (λ o. named class_vars (var_over o)) p.is ∙ p.typed ∙ sym f.is in
        record {
          sound = ap (λ o. lesser (unless (is_there o) UnknownName) (path_fault over_class o xs)) e
              ∙ ap (λ q. lesser (unless (is_there (named vs x.name)) UnknownName) q) (path_fault_same vs xs (named vs x.name)) ∙ h;
          by_form = ap (λ o. path_form over_class o xs) e ∙ path_form_same vs xs (named vs x.name);
        }

    pub put_same : (effect : Bool) (xs : List Ident) (e : ExprTree) → put_fault (over_names vs) effect xs e ≡ None → put_fault over_class effect (path_over c.slots s xs) (over c.slots s e) ≡ None
    put_same effect xs e h =
        let l = lesser (target_fault (over_names vs) xs) (fault (over_names vs) effect e) in
        let a = assigned (form (over_names vs) e) (target_form (over_names vs) xs) in
        let r = no_first l a h in
        let t = target_same xs (no_first (target_fault (over_names vs) xs) (fault (over_names vs) effect e) r) in
        let i = same effect e (no_second (target_fault (over_names vs) xs) (fault (over_names vs) effect e) r) in
        no_lesser (lesser (target_fault over_class (path_over c.slots s xs)) (fault over_class effect (over c.slots s e))) _
        (no_lesser (target_fault over_class (path_over c.slots s xs)) (fault over_class effect (over c.slots s e)) t.sound i.sound) (ap₂ assigned i.by_form t.by_form ∙ no_second l a h)

    -- calls as statements: a constant is no base of one
    no_base : (xs : List Ident) (es : ExprTrees) (m : List ℕ)
        → lesser (path_fault (over_names vs) (Some IntType) xs) (lesser (faults (over_names vs) 0 (needs_of (called_on (path_form (over_names vs) (Some IntType) xs) m)) es)
        (calls es (called_on (path_form (over_names vs) (Some IntType) xs) m) (said (over_names vs)))) ≡ None
        → ⊥
    no_base (x ∷ xs) es m h = some_none (no_first (Some UnknownName) (path_fault (over_names vs) None xs) (no_first (lesser (Some UnknownName) (path_fault (over_names vs) None xs)) _ h))
    no_base [] es m h = by_method (named method_names m) (no_second (faults (over_names vs) 0 (needs_of (called_on (Some IntType) m)) es) _ h)
      where
        by_method : (o : Option Method) → calls es (called_by IntType o) (said (over_names vs)) ≡ None → ⊥
        by_method None h = some_none h
        by_method (Some m) h = some_none h

    -- a call behind a base of this type
    abbrev judged : Setting → List Ident → List ℕ → Option TypeTree → ExprTrees → Option SemanticRule
    judged st zs m t es =
        lesser (lesser (unless (is_there t) UnknownName) (path_fault st t zs))
        (lesser (faults st 0 (needs_of (called_on (path_form st t zs) m)) es) (calls es (called_on (path_form st t zs) m) (said st)))

    rest_same : (m : List ℕ) (es : ExprTrees) (t : Option TypeTree) → lesser (faults (over_names vs) 0 (needs_of (called_on t m)) es) (calls es (called_on t m) (said (over_names vs))) ≡ None
        → lesser (faults over_class 0 (needs_of (called_on t m)) (over_all c.slots s es)) (calls (over_all c.slots s es) (called_on t m) (said over_class)) ≡ None
    rest_same m es t k =
        let l = faults (over_names vs) 0 (needs_of (called_on t m)) es in
        let q = calls es (called_on t m) (said (over_names vs)) in
        no_lesser (faults over_class 0 (needs_of (called_on t m)) (over_all c.slots s es)) _ (all_same 0 (needs_of (called_on t m)) es (no_first l q k))
        (calls_same es (called_on t m) (said (over_names vs)) (said over_class) (said_same vs) (no_second l q k))

    judged_same : (zs : List Ident) (m : List ℕ) (es : ExprTrees) (t : Option TypeTree) → judged (over_names vs) zs m t es ≡ None → judged over_class zs m t (over_all c.slots s es) ≡ None
    judged_same zs m es t k =
        let u = path_form (over_names vs) t zs in
        let l = lesser (unless (is_there t) UnknownName) (path_fault (over_names vs) t zs) in
        let r = lesser (faults (over_names vs) 0 (needs_of (called_on u m)) es) (calls es (called_on u m) (said (over_names vs))) in
        no_lesser (lesser (unless (is_there t) UnknownName) (path_fault over_class t zs)) _ (ap (λ q. lesser (unless (is_there t) UnknownName) q) (path_fault_same vs zs t) ∙ no_first l r k)
        (ap (λ q. lesser (faults over_class 0 (needs_of (called_on q m)) (over_all c.slots s es)) (calls (over_all c.slots s es) (called_on q m) (said over_class))) (path_form_same vs zs t)
        ∙ rest_same m es u (no_second l r k))

    by_base : (zs : List Ident) (y : Ident) (m : List ℕ) (es : ExprTrees) (o : Option ℕ) → named constant_names y.name ≡ o
        → judged (over_names vs) zs m (variable_form (over_names vs) y.name) es ≡ None
        → judged over_class zs m (variable_form over_class (var_over (place_of c.slots s y.name))) (over_all c.slots s es) ≡ None
    by_base zs y m es (Some n) e h = absurd (no_base zs es m (subst (λ q. judged (over_names vs) zs m (variable_as (over_names vs) y.name q) es ≡ None) e h))
    by_base zs y m es None e h =
        let k = subst (λ q. judged (over_names vs) zs m (variable_as (over_names vs) y.name q) es ≡ None) e h in
        let known = unless (is_there (named vs y.name)) UnknownName in
        let f = there (named vs y.name) (holds (is_there (named vs y.name)) UnknownName
        (no_first known (path_fault (over_names vs) (named vs y.name) zs) (no_first (lesser known (path_fault (over_names vs) (named vs y.name) zs)) _ k))) in
        subst (λ q. judged over_class zs m q (over_all c.slots s es) ≡ None) (sym (place_form y.name f.value (sees y.name f.value f.is) ∙ sym f.is)) (judged_same zs m es (named vs y.name) k)

    pub call_same : (xs : List Ident) (es : ExprTrees) → call_fault (over_names vs) xs es ≡ None → call_fault over_class (act_over c.slots s xs) (over_all c.slots s es) ≡ None
    call_same [] es h = refl
    call_same (f ∷ []) es h =
        let o = called (over_names vs) f.name in
        let l = faults (over_names vs) 0 (needs_of o) es in
        let k = calls es o (said (over_names vs)) in
        no_lesser (faults over_class 0 (needs_of o) (over_all c.slots s es)) _ (all_same 0 (needs_of o) es (no_first l k h))
        (calls_same es o (said (over_names vs)) (said over_class) (said_same vs) (no_second l k h))
    call_same (x ∷ (y ∷ ys)) es h = by_base (ends_of y ys).0 x (ends_of y ys).1.name es (named constant_names x.name) refl h

    -- a statement call is on a variable in force
    pub base_known : (x y : Ident) (ys : List Ident) (es : ExprTrees) → call_fault (over_names vs) (x ∷ (y ∷ ys)) es ≡ None → is_there (named vs x.name) ≡ true
    base_known x y ys es h = by_kind (named constant_names x.name) refl
      where
        by_kind : (o : Option ℕ) → named constant_names x.name ≡ o → is_there (named vs x.name) ≡ true
        by_kind (Some n) e = absurd (no_base (ends_of y ys).0 es (ends_of y ys).1.name
            (subst (λ q. judged (over_names vs) (ends_of y ys).0 (ends_of y ys).1.name (variable_as (over_names vs) x.name q) es ≡ None) e h))
        by_kind None e =
            let k = subst (λ q. judged (over_names vs) (ends_of y ys).0 (ends_of y ys).1.name (variable_as (over_names vs) x.name q) es ≡ None) e h in
            let known = unless (is_there (named vs x.name)) UnknownName in
            holds (is_there (named vs x.name)) UnknownName (no_first known (path_fault (over_names vs) (named vs x.name) (ends_of y ys).0)
            (no_first (lesser known (path_fault (over_names vs) (named vs x.name) (ends_of y ys).0)) _ k))

    -- what is no effect may stand where none may
    quiet_kind : (k : Kind) → is_effect_kind k ≡ false → placed (over_names vs) true k ≡ None → placed (over_names vs) false k ≡ None
    quiet_kind Value e h = refl
    quiet_kind OfFunction e h = refl
    quiet_kind Clock e h = h
    quiet_kind Effect e h = cc
    quiet_kind Statement e h = h

    quiet_calls : (es : ExprTrees) (o : Option Callee) → calls_effect o ≡ false → calls es o (placed (over_names vs) true) ≡ None → calls es o (placed (over_names vs) false) ≡ None
    quiet_calls es None e h = h
    quiet_calls es (Some k) e h =
        let n = unless (as_many es k.needs) WrongCount in
        no_lesser n (placed (over_names vs) false k.kind) (no_first n (placed (over_names vs) true k.kind) h) (quiet_kind k.kind e (no_second n (placed (over_names vs) true k.kind) h))

    pub quiet : (e : ExprTree) → is_effect (over_names vs) e ≡ false → fault (over_names vs) true e ≡ None → fault (over_names vs) false e ≡ None
    quiet (CallExpr f es) q h =
        let o = called (over_names vs) f.name in
        let l = faults (over_names vs) 0 (needs_of o) es in
        no_lesser l (calls es o (placed (over_names vs) false)) (no_first l (calls es o (placed (over_names vs) true)) h)
        (quiet_calls es o q (no_second l (calls es o (placed (over_names vs) true)) h))
    quiet _ q h = h
