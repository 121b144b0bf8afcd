-- The instructions of a lowered statement fit, as its parts did over names.
use Rattle.std.proofs.Common.{◌≡◌, ℕ, pos, Bool, true, false, is_none, List, [], ◌∷◌, if◌then◌else◌, refl, ap, sym, subst, ◌∙◌}
use Rattle.std.specs.Option.{option_map, option_and_then}
use Rattle.std.specs.List.{list_all}
use Rattle.std.specs.declared.option.Option.{Option}
use Rattle.std.specs.declared.option.Option.TheVariants.{None, Some}
use Rattle.flow_base.specs.declared.place.Place.{Place}
use Rattle.flow_tree.specs.declared.ty.Ident.{Ident}
use Rattle.flow_tree.specs.declared.expr.Op.TheVariants.{Add, Sub}
use Rattle.flow_tree.specs.Tree.{TypeTree, IntType, BoolType, StringType, VoidType, ErrorType, PromiseType, PromiseStreamType, ExprTree, ExprTrees, IntExpr, TextExpr, BoolExpr, VarExpr, CallExpr, FieldExpr, VectorType}
use Rattle.flow_tree.specs.Body.{IntoTree, WaitTree, ChangeTree, PlusChange, MinusChange, UpChange, DownChange}
use Rattle.flow_ast.specs.TypingNames.{named}
use Rattle.flow_ast.specs.Typing.{is_there, with_type, same_type, sum_type, int_only, binary_type}
use Rattle.flow_class.specs.declared.class.Slotted.{Slotted}
use Rattle.flow_class.specs.Places.{place_name}
use Rattle.flow_class.specs.Classes.{InstrTree, SetInstr, NewInstr, ActInstr, ThrowLast, ClassTree, ReturnLast}
use Rattle.flow_class.specs.Code.{type_at}
use Rattle.flow_class.specs.Scopes.{Scope, place_of, var_over, over, over_all, path_over, act_over}
use Rattle.flow_rules.specs.declared.rule.SemanticRule.TheVariants.{UnknownName, WrongType, NeedsValue}
use Rattle.flow_rules.specs.Least.{lesser, unless}
use Rattle.flow_rules.specs.Judged.{Setting, field_form, variable_as, variable_form, sign_form, form, wants, operands, of_field, fault, wanted, called, placed, calls, needs_of, faults, returned}
use Rattle.flow_rules.specs.Items.{has_default, value_fault, path_form, path_fault, target_form, target_fault, assigned as fits_target, assign_fault, change_fault, modify_fault, call_fault, wait_type, throw_fault}
use Rattle.flow_rules.proofs.Lesser.{no_first, no_second, no_lesser, holds}
use Rattle.flow_choose.specs.Places.{ident_at}
use Rattle.flow_meaning.specs.Evaluating.{Names, effectful, effect_in}
use Rattle.flow_meaning.specs.Items.{path_from, modified, change}
use Rattle.flow_split.specs.Lowered.{first_value, new_at, first_at, assign_by, assigned, changed, place_in, taken_in, declares, thrown, callback, cancelled}
use Rattle.flow_valid.specs.Validity.{calls_effect, is_effect, put_fault, is_made, operand_type, has_type, instr_fits, last_fits, operand_fits, taken_type, callback_fits}
use Rattle.flow_typing_laws.proofs.Typing.Names.{some_none, type_same, type_self, there}
use Rattle.flow_typing_laws.proofs.Typing.Expressions.{sum_there}
use Rattle.flow_validity_laws.proofs.Naming.{both}
use Rattle.flow_validity_laws.proofs.OverPlaces.{class_vars, over_names, over_class, Sees, place_form, same, wanted_same, put_same, call_same, quiet}
use Rattle.flow_validity_laws.proofs.Agreeing.{EffectsAgree, value_called}

pub none_is : {A : Type 0} (o : Option A) → o ≡ None → is_none o ≡ true
none_is None e = refl
none_is (Some a) e = absurd (some_none e)

-- a field that is wanted of what may have no type
none_form : (s : Setting) (xs : List Ident) → path_form s None xs ≡ None
none_form s [] = refl
none_form s (x ∷ xs) = refl

none_fault : (s : Setting) (xs : List Ident) → path_fault s None xs ≡ None
none_fault s [] = refl
none_fault s (x ∷ xs) = refl

record Step (s : Setting) (o : Option TypeTree) (x : Ident) (xs : List Ident) : Type 0 where
  here : of_field s o x.name ≡ None
  onward : path_fault s (with_type o (λ t. field_form s t x.name)) xs ≡ None
  by_form : path_form s (with_type o (λ t. field_form s t x.name)) xs ≡ path_form s o (x ∷ xs)

step_in : (s : Setting) (o : Option TypeTree) (x : Ident) (xs : List Ident) → path_fault s o (x ∷ xs) ≡ None → Step s o x xs
step_in s None x xs h = record { here = refl; onward = none_fault s xs; by_form = none_form s xs }
step_in s (Some t) x xs h =
    let a = of_field s (Some t) x.name in
    let b = path_fault s (field_form s t x.name) xs in
    record { here = no_first a b h; onward = no_second a b h; by_form = refl }

-- a path as an expression
record IsPathExpr (s : Setting) (e : ExprTree) (o : Option TypeTree) (xs : List Ident) : Type 0 where
  sound : fault s false (path_from e xs) ≡ None
  by_form : form s (path_from e xs) ≡ path_form s o xs

path_expr : (s : Setting) (xs : List Ident) (e : ExprTree) (o : Option TypeTree) → form s e ≡ o → fault s false e ≡ None → path_fault s o xs ≡ None → IsPathExpr s e o xs
path_expr s [] e o f h k = record { sound = h; by_form = f }
path_expr s (x ∷ xs) e o f h k =
    let t = step_in s o x xs k in
    let field = ap (λ q. with_type q (λ u. field_form s u x.name)) f in
    let fine = no_lesser (fault s false e) (of_field s (form s e) x.name) h (ap (λ q. of_field s q x.name) f ∙ t.here) in
    let r = path_expr s xs (FieldExpr e x) (with_type o (λ u. field_form s u x.name)) field fine t.onward in
    record { sound = r.sound; by_form = r.by_form ∙ t.by_form }

-- `x += e` as an assignment
abbrev if_typed : Bool → Option TypeTree → Option TypeTree
if_typed b o = if b then o else None

first_of : (b : Bool) (o : Option TypeTree) → is_there (if_typed b o) ≡ true → (b ≡ true) × (is_there o ≡ true)
first_of true o e = (refl, e)
first_of false o e = cc

record Changes (s : Setting) (e : ExprTree) (o : Option TypeTree) : Type 0 where
  sound : fault s false e ≡ None
  suits : fits_target (form s e) o ≡ None

int_there : (t : TypeTree) → is_there (int_only t) ≡ true → t ≡ IntType
int_there IntType e = refl
int_there t e = cc

wants_self : (t : TypeTree) → wants (Some t) t ≡ None
wants_self t = ap (λ b. unless b WrongType) (type_self t)

-- the sum of what is there and something that fits it has its type
sum_suits : (o q : Option TypeTree) → operands Add o q ≡ None → fits_target (sign_form Add o q) o ≡ None
sum_suits None q h = refl
sum_suits (Some t) None h =
    let w = holds (is_there (sum_type t)) WrongType h in
    ap (λ u. wants u t) (sum_there t w) ∙ wants_self t
sum_suits (Some t) (Some u) h =
    let w = first_of (same_type t u) (sum_type t) (holds (is_there (binary_type Add t u)) WrongType h) in
    ap (λ b. wants (if_typed b (sum_type t)) t) w.0 ∙ ap (λ v. wants v t) (sum_there t w.1) ∙ wants_self t

difference_suits : (o q : Option TypeTree) → operands Sub o q ≡ None → fits_target (Some IntType) o ≡ None
difference_suits None q h = refl
difference_suits (Some t) None h = ap (wants (Some IntType)) (int_there t (holds (is_there (int_only t)) WrongType h))
difference_suits (Some t) (Some u) h =
    let w = first_of (same_type t u) (int_only t) (holds (is_there (binary_type Sub t u)) WrongType h) in
    ap (wants (Some IntType)) (int_there t w.1)

one_more : (o : Option TypeTree) → wants o IntType ≡ None → operands Add o (Some IntType) ≡ None
one_more None h = refl
one_more (Some t) h = ap (λ u. operands Add (Some u) (Some IntType)) (type_same t IntType (holds (same_type t IntType) WrongType h))

one_less : (o : Option TypeTree) → wants o IntType ≡ None → operands Sub o (Some IntType) ≡ None
one_less None h = refl
one_less (Some t) h = ap (λ u. operands Sub (Some u) (Some IntType)) (type_same t IntType (holds (same_type t IntType) WrongType h))

changes : (s : Setting) (old : ExprTree) (o : Option TypeTree) (d : ChangeTree) → form s old ≡ o → fault s false old ≡ None → change_fault s o d ≡ None → Changes s (modified d old) o
changes s old o (PlusChange e) f h k =
    let a = operands Add o (form s e) in
    let x = no_first (fault s false e) a k in
    let y = no_second (fault s false e) a k in
    record {
      sound = no_lesser (lesser (fault s false old) (fault s false e)) _ (no_lesser (fault s false old) (fault s false e) h x) (ap (λ q. operands Add q (form s e)) f ∙ y);
      suits = ap (λ q. fits_target (sign_form Add q (form s e)) o) f ∙ sum_suits o (form s e) y;
    }
changes s old o (MinusChange e) f h k =
    let a = operands Sub o (form s e) in
    let x = no_first (fault s false e) a k in
    let y = no_second (fault s false e) a k in
    record {
      sound = no_lesser (lesser (fault s false old) (fault s false e)) _ (no_lesser (fault s false old) (fault s false e) h x) (ap (λ q. operands Sub q (form s e)) f ∙ y);
      suits = difference_suits o (form s e) y;
    }
changes s old o UpChange f h k =
    let y = one_more o k in
    record {
      sound = no_lesser (lesser (fault s false old) None) _ (no_lesser (fault s false old) None h refl) (ap (λ q. operands Add q (Some IntType)) f ∙ y);
      suits = ap (λ q. fits_target (sign_form Add q (Some IntType)) o) f ∙ sum_suits o (Some IntType) y;
    }
changes s old o DownChange f h k =
    let y = one_less o k in
    record {
      sound = no_lesser (lesser (fault s false old) None) _ (no_lesser (fault s false old) None h refl) (ap (λ q. operands Sub q (Some IntType)) f ∙ y);
      suits = difference_suits o (Some IntType) y;
    }

module _ (base : Setting) (ns : Names) (c : ClassTree) (agree : EffectsAgree base ns) (vs : List (List ℕ × TypeTree)) (s : Scope)
    (sees : Sees base c vs s) where
  abbrev names : Setting
  names = over_names base c vs

  abbrev places : Setting
  places = over_class base c

  abbrev pub InstrsFit : List InstrTree → Type 0
  InstrsFit is = list_all (instr_fits c places) is ≡ true

  one_fits : (i : InstrTree) → instr_fits c places i ≡ true → InstrsFit (i ∷ [])
  one_fits i h = both (instr_fits c places i) true h refl

  -- an effect by name is one by its kind
  mapped_there : {A B : Type 0} (f : A → B) (o : Option A) → is_there (option_map f o) ≡ is_there o
  mapped_there f None = refl
  mapped_there f (Some a) = refl

  effect_same : (e : ExprTree) → fault names true e ≡ None → is_there (effect_in ns e) ≡ is_effect names e
  effect_same (CallExpr f es) h =
      let n = value_called names es (called names f.name)
      (no_second (faults names 0 (needs_of (called names f.name)) es) (calls es (called names f.name) (placed names true)) h) in
      mapped_there (λ g. (g, es)) (effectful ns f.name) ∙ agree f.name n
  effect_same _ h = refl

  effect_over : (e : ExprTree) → is_effect places (over c.slots s e) ≡ is_effect names e
  effect_over (CallExpr f es) = refl
  effect_over _ = refl

  -- what is put at a path, by whether it is an effect
  put_by : (path : List Ident) (e : ExprTree) → fault names true e ≡ None → ((effect : Bool) → fault names effect e ≡ None → put_fault places effect path (over c.slots s e) ≡ None)
      → instr_fits c places (assigned ns c.slots s path e) ≡ true
  put_by path e h put = by_kind (is_there (effect_in ns e)) refl
    where
      by_kind : (b : Bool) → is_there (effect_in ns e) ≡ b → instr_fits c places (assign_by ns c.slots b path (over c.slots s e)) ≡ true
      by_kind true is = both (is_effect places (over c.slots s e)) _ (effect_over e ∙ sym (effect_same e h) ∙ is) (none_is (put_fault places true path (over c.slots s e)) (put true h))
      by_kind false is = none_is (put_fault places false path (over c.slots s e)) (put false (quiet base c vs s sees e (sym (effect_same e h) ∙ is) h))

  pub assign_fits : (xs : List Ident) (e : ExprTree) → assign_fault names xs e ≡ None → instr_fits c places (assigned ns c.slots s (path_over c.slots s xs) e) ≡ true
  assign_fits xs e h =
      let t = target_fault names xs in
      let l = lesser t (fault names true e) in
      let a = fits_target (form names e) (target_form names xs) in
      let r = no_first l a h in
      put_by (path_over c.slots s xs) e (no_second t (fault names true e) r)
      (λ effect k. put_same base c vs s sees effect xs e (no_lesser (lesser t (fault names effect e)) a (no_lesser t (fault names effect e) (no_first t (fault names true e) r) k) (no_second l a h)))

  pub change_fits : (xs : List Ident) (d : ChangeTree) → modify_fault names xs d ≡ None → InstrsFit (changed ns c.slots s xs (change xs d))
  change_fits [] d h = refl
  change_fits (x ∷ xs) d h =
      let t = target_fault names (x ∷ xs) in
      let o = target_form names (x ∷ xs) in
      let a = no_first t (change_fault names o d) h in
      let k = no_second t (change_fault names o d) h in
      let known = unless (is_there (named vs x.name)) UnknownName in
      let f = there (named vs x.name) (holds (is_there (named vs x.name)) UnknownName (no_first known (path_fault names (named vs x.name) xs) a)) in
      let p = sees x.name f.value f.is in
      let var : variable_form names x.name ≡ named vs x.name = ap (variable_as names x.name) p.plain in
      let sound : fault names false (VarExpr x) ≡ None = ap (λ q. unless (is_there q) UnknownName) var ∙ no_first known (path_fault names (named vs x.name) xs) a in
      let old = path_expr names xs (VarExpr x) (named vs x.name) var sound (no_second known (path_fault names (named vs x.name) xs) a) in
      let new = changes names (path_from (VarExpr x) xs) o d old.by_form old.sound k in
      let e = modified d (path_from (VarExpr x) xs) in
      one_fits (assigned ns c.slots s (path_over c.slots s (x ∷ xs)) e)
      (put_by (path_over c.slots s (x ∷ xs)) e (whole_fault d old.sound new.sound)
      (λ effect q. put_same base c vs s sees effect (x ∷ xs) e (no_lesser (lesser t (fault names effect e)) (fits_target (form names e) o) (no_lesser t (fault names effect e) a q) new.suits)))
    where
      whole_fault : (d : ChangeTree) → fault names false (path_from (VarExpr x) xs) ≡ None → fault names false (modified d (path_from (VarExpr x) xs)) ≡ None
          → fault names true (modified d (path_from (VarExpr x) xs)) ≡ None
      whole_fault (PlusChange e) k h = h
      whole_fault (MinusChange e) k h = h
      whole_fault UpChange k h = h
      whole_fault DownChange k h = h

  pub act_fits : (xs : List Ident) (es : ExprTrees) → call_fault names xs es ≡ None → instr_fits c places (ActInstr (act_over c.slots s xs) (over_all c.slots s es)) ≡ true
  act_fits xs es h = none_is (call_fault places (act_over c.slots s xs) (over_all c.slots s es)) (call_same base c vs s sees xs es h)

  -- a declared variable at its place
  pub record IsAt (o : Option Slotted) (t : TypeTree) : Type 0 where
    pub to : Slotted
    pub is : o ≡ Some to
    pub typed : type_at c to ≡ Some t
    pub variable : named (class_vars base c) (place_name to) ≡ Some t

  pub at_place : (o : Option Slotted) (to : Slotted) (t : TypeTree) → o ≡ Some to → type_at c to ≡ Some t → named (class_vars base c) (place_name to) ≡ Some t → IsAt o t
  at_place o to t e typed variable = record { to = to; is = e; typed = typed; variable = variable }

  own_form : (o : Option Slotted) (t : TypeTree) (x : Ident) → IsAt o t → named (class_vars base c) (ident_at o x).name ≡ Some t
  own_form o t x p = ap (λ q. named (class_vars base c) (var_over q)) p.is ∙ p.variable

  put_own : (effect : Bool) (o : Option Slotted) (t : TypeTree) (x : Ident) (e : ExprTree) → IsAt o t → fault places effect e ≡ None → wants (form places e) t ≡ None
      → put_fault places effect (ident_at o x ∷ []) e ≡ None
  put_own effect o t x e p h w =
      let own = own_form o t x p in
      no_lesser (lesser (target_fault places (ident_at o x ∷ [])) (fault places effect e)) _
      (no_lesser (target_fault places (ident_at o x ∷ [])) (fault places effect e) (ap (λ q. lesser (unless (is_there q) UnknownName) None) own) h) (ap (λ q. fits_target (form places e) q) own ∙ w)

  literal_fits : (t : TypeTree) (i : IntoTree) (o : Option Slotted) → has_default t ≡ true → IsAt o t → InstrsFit (first_at i o (first_value t))
  literal_fits IntType i o h p = one_fits (SetInstr (ident_at o i.name ∷ []) (IntExpr (pos 0)))
      (none_is (put_fault places false (ident_at o i.name ∷ []) (IntExpr (pos 0))) (put_own false o IntType i.name (IntExpr (pos 0)) p refl refl))
  literal_fits BoolType i o h p = one_fits (SetInstr (ident_at o i.name ∷ []) (BoolExpr false))
      (none_is (put_fault places false (ident_at o i.name ∷ []) (BoolExpr false)) (put_own false o BoolType i.name (BoolExpr false) p refl refl))
  literal_fits StringType i o h p = one_fits (SetInstr (ident_at o i.name ∷ []) (TextExpr []))
      (none_is (put_fault places false (ident_at o i.name ∷ []) (TextExpr [])) (put_own false o StringType i.name (TextExpr []) p refl refl))
  literal_fits (PromiseType t) i o h p = subst (λ q. InstrsFit (new_at q)) (sym p.is) (one_fits (NewInstr p.to) (ap is_made p.typed))
  literal_fits (PromiseStreamType t) i o h p = subst (λ q. InstrsFit (new_at q)) (sym p.is) (one_fits (NewInstr p.to) (ap is_made p.typed))
  literal_fits (VectorType t) i o h p = subst (λ q. InstrsFit (new_at q)) (sym p.is) (one_fits (NewInstr p.to) (ap is_made p.typed))
  literal_fits t i o h p = cc

  pub declare_fits : (l : ℕ) (i : IntoTree) (v : Option ExprTree) → IsAt (place_in ns c.slots i l s) i.ty → value_fault names i.ty v ≡ None → InstrsFit (declares ns c.slots s l i v)
  declare_fits l i None p h = literal_fits i.ty i (place_in ns c.slots i l s) (holds (has_default i.ty) NeedsValue h) p
  declare_fits l i (Some v) p h =
      let o = place_in ns c.slots i l s in
      let w = wants (form names v) i.ty in
      one_fits (assigned ns c.slots s (ident_at o i.name ∷ []) v)
      (put_by (ident_at o i.name ∷ []) v (no_first (fault names true v) w h)
      (λ effect k. let j = same base c vs s sees effect v k in put_own effect o i.ty i.name (over c.slots s v) p j.sound (ap (λ q. wants q i.ty) j.by_form ∙ no_second (fault names true v) w h)))

  -- tests, results, errors
  pub type_fits : (whole : Bool) (e : ExprTree) (t : TypeTree) → wanted names whole e t ≡ None → has_type places whole (over c.slots s e) t ≡ true
  type_fits whole e t h = none_is (wanted places whole (over c.slots s e) t) (wanted_same base c vs s sees whole e t h)

  -- the result of a return
  pub return_fits : (v : Option ExprTree) → returned names v c.returns ≡ None → last_fits c places (ReturnLast (option_map (over c.slots s) v)) ≡ true
  return_fits None h = none_is (returned places None c.returns) h
  return_fits (Some e) h = type_fits false e c.returns h

  -- the error of the catch around
  pub record Caught (caught : Bool) (o : Option (List ℕ)) : Type 0 where
    pub known : caught ≡ true → (x : List ℕ) × (o ≡ Some x) × (named vs x ≡ Some ErrorType)

  pub throw_fits : (at : Place) (v : Option ExprTree) (caught : Bool) (o : Option (List ℕ)) → Caught caught o → throw_fault names caught v ≡ None
      → last_fits c places (ThrowLast (thrown ns c.slots s at v o)) ≡ true
  throw_fits at (Some v) caught o k h = type_fits false v ErrorType h
  throw_fits at None caught o k h =
      let q = k.known (holds caught _ h) in
      let p = sees q.0 ErrorType q.2 in
      let e : variable_form places (var_over (option_and_then (place_of c.slots s) o)) ≡ Some ErrorType =
      ap (λ z. variable_form places (var_over (option_and_then (place_of c.slots s) z))) q.1 ∙ place_form base c vs s sees q.0 ErrorType p in
      none_is (wanted places false (thrown ns c.slots s at None o) ErrorType) (ap (λ z. lesser (unless (is_there z) UnknownName) (wants z ErrorType)) e)

  -- a callback
  waits_type : (next : Bool) (i : IntoTree) → operand_type next i.ty ≡ wait_type next (Some i)
  waits_type true i = refl
  waits_type false i = refl

  void_type : (next : Bool) → operand_type next VoidType ≡ wait_type next None
  void_type true = refl
  void_type false = refl

  abbrev pub IsTaken : Option IntoTree → Option Slotted → Type 0
  IsTaken None o = o ≡ None
  IsTaken (Some i) o = IsAt o i.ty

  taken_as : (o : Option Slotted) (next : Bool) (e : ExprTree) (into : Option IntoTree) → IsTaken into o → wanted names true e (wait_type next into) ≡ None
      → operand_fits c places (record { next = next; operand = over c.slots s e; into = o; block = 0 }) (taken_type c places o) ≡ true
  taken_as o next e None k h =
      subst (λ q. operand_fits c places (record { next = next; operand = over c.slots s e; into = q; block = 0 }) (taken_type c places q) ≡ true) (sym k)
      (type_fits true e (operand_type next VoidType) (ap (λ t. wanted names true e t) (void_type next) ∙ h))
  taken_as o next e (Some i) k h =
      ap (λ q. operand_fits c places (record { next = next; operand = over c.slots s e; into = o; block = 0 }) q) (ap (taken_type c places) k.is ∙ k.typed)
      ∙ type_fits true e (operand_type next i.ty) (ap (λ t. wanted names true e t) (waits_type next i) ∙ h)

  pub callback_suits : (w : WaitTree) (l b : ℕ) → IsTaken w.into (taken_in ns c.slots w.into l s) → wanted names true w.operand (wait_type w.next w.into) ≡ None
      → callback_fits c places (callback ns c.slots s w l b) ≡ true
  callback_suits w l b k h = taken_as (taken_in ns c.slots w.into l s) w.next w.operand w.into k h

  -- the end of a text throws an error
  pub cancelled_fits : (at : Place) → last_fits c places (cancelled at) ≡ true
  cancelled_fits at = refl
