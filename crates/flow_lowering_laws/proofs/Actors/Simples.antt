-- Statements of one instruction, and the parts of a `for`.
use Rattle.std.proofs.Common.{◌≡◌, ℕ, ◌^◌, ◌<◌, position, Bool, true, false, List, [], ◌∷◌, length, if◌then◌else◌, refl, ap, sym, subst, ◌∙◌, arith}
use Rattle.std.specs.declared.option.Option.{Option}
use Rattle.std.specs.declared.option.Option.TheVariants.{None, Some}
use Rattle.std.specs.Str.{bytes_eq}
use Rattle.std.proofs.lemmas.List.Quantifiers.{position-Some}
use Rattle.flow_base.specs.declared.place.Place.{Place}
use Rattle.flow_tree.specs.declared.ty.Ident.{Ident}
use Rattle.flow_tree.specs.Tree.{TypeTree, VoidType, IntType, BoolType, StringType, ExprTree, ExprTrees, VarExpr}
use Rattle.flow_tree.specs.Body.{IntoTree, WaitTree, ChangeTree, Body, End, DeclareStmt, AssignStmt, ModifyStmt}
use Rattle.flow_ast.specs.Typing.{is_there}
use Rattle.flow_class.specs.declared.class.Slotted.{Slotted}
use Rattle.flow_class.specs.Classes.{InstrTree, SetInstr, NewInstr, LastTree, ThrowLast, ClassTree}
use Rattle.flow_class.specs.Code.{Last}
use Rattle.flow_class.specs.Code as code
use Rattle.flow_class.specs.Places.{place_named}
use Rattle.flow_class.specs.Scopes.{Scope, Mark, Var, find, Above, place_of, var_over, over, path_over}
use Rattle.flow_class.specs.Scopes as scopes
use Rattle.flow_choose.specs.Places.{ident_at}
use Rattle.flow_tree.specs.Decls.{SlotTree}
use Rattle.flow_layout.specs.Locals.{body_locals, declared_locals, into_locals}
use Rattle.flow_meaning.specs.Requests.{Spot}
use Rattle.flow_meaning.specs.Evaluating.{Names, Effectful, effect_in}
use Rattle.flow_meaning.specs.Items.{Item, change, modified, path_from}
use Rattle.flow_meaning.specs.Carry.{Pos, after, Target, at, AssignBy, AssignAt, ChangeAt, default_expr, FirstAt, DeclareAt, DeclaredAs, SimpleAt}
use Rattle.flow_meaning.specs.Carries.{ThrowAt, TakesInto, BranchAt}
use Rattle.flow_split.specs.Around.{Part, Around}
use Rattle.flow_split.specs.Counts.{Next, taken}
use Rattle.flow_split.specs.Lowered.{acting, finished, with_into, with_taken, later, first_value, new_at, first_at, assign_by, assigned, changed, place_by, place_in, taken_in, declares, thrown, callback, lowered}
use Rattle.flow_tree.specs.Formed.{IsPath, IsInit}
use Rattle.flow_lowering_laws.specs.Actors.Parts.{HasParts}
use Rattle.flow_lowering_laws.specs.Actors.InPlace.{MayTake, IsThrown, InPlace}
use Rattle.flow_lowering_laws.proofs.Actors.Standing.{LocalsAt, locals_front, Stands, one_at, one_on}
use Rattle.flow_lowering_laws.proofs.Actors.Held.{HandIn, caught_by, lowered_held}
use Rattle.flow_lowering_laws.proofs.Actors.Around.{InClass}
use Rattle.flow_lowering_laws.proofs.Actors.Places.{names, slot_named, local_named, Placing, placing}

module _ (ns : Names) (c : ClassTree) (few_slots : length c.slots < 2 ^ 64) (few_locals : length c.locals < 2 ^ 64) where
  same_default : (t : TypeTree) → first_value t ≡ default_expr ns c t
  same_default IntType = refl
  same_default BoolType = refl
  same_default StringType = refl
  same_default _ = refl

  assign_by_at : (o : Option (Effectful × ExprTrees)) (path : List Ident) (e : ExprTree) (p : Pos) → at ns c p ≡ code.Body (assign_by ns c.slots (is_there o) path e) → AssignBy ns c o path e p
  assign_by_at None path e p h = h
  assign_by_at (Some g) path e p h = h

  pub assign_at : (s : Scope) (path : List Ident) (e : ExprTree) (p : Pos) → at ns c p ≡ code.Body (assigned ns c.slots s path e) → AssignAt ns c s path e p
  assign_at s path e p h = assign_by_at (effect_in ns e) path (over c.slots s e) p h

  -- a declaration is one instruction
  pub record Declares (s : Scope) (l : ℕ) (i : IntoTree) (e : Option ExprTree) (to : Slotted) : Type 0 where
    pub instr : InstrTree
    pub is : declares ns c.slots s l i e ≡ instr ∷ []
    pub gives : (p : Pos) → at ns c p ≡ code.Body instr → DeclareAt ns c s to i.ty e p

  first_declares : (s : Scope) (l : ℕ) (i : IntoTree) (v : Placing ns c few_slots few_locals s l i) (o : Option ExprTree) → default_expr ns c i.ty ≡ o → Declares s l i None v.to
  first_declares s l i v None e = record {
    instr = NewInstr v.to;
    is = ap (first_at i (place_in ns c.slots i l s)) (same_default i.ty ∙ e) ∙ ap new_at v.is;
    gives = λ p h. subst (λ o. FirstAt ns c v.to i.ty o p) (sym e) (h, v.type);
  }
  first_declares s l i v (Some x) e = record {
    instr = SetInstr (ident_at (Some v.to) i.name ∷ []) x;
    is = ap (first_at i (place_in ns c.slots i l s)) (same_default i.ty ∙ e) ∙ ap (λ o. SetInstr (ident_at o i.name ∷ []) x ∷ []) v.is;
    gives = λ p h. subst (λ o. FirstAt ns c v.to i.ty o p) (sym e) (ident_at (Some v.to) i.name, h, v.named);
  }

  pub declares_at : (s : Scope) (l : ℕ) (i : IntoTree) (v : Placing ns c few_slots few_locals s l i) (e : Option ExprTree) → Declares s l i e v.to
  declares_at s l i v None = first_declares s l i v (default_expr ns c i.ty) refl
  declares_at s l i v (Some e) = record {
    instr = assigned ns c.slots s (ident_at (place_in ns c.slots i l s) i.name ∷ []) e;
    is = refl;
    gives = λ p h. (ident_at (place_in ns c.slots i l s) i.name, assign_at s (ident_at (place_in ns c.slots i l s) i.name ∷ []) e p h, ap (λ o. place_named (var_over o)) v.is ∙ v.named);
  }

  -- a change in place, of what has a name
  pub record Changes (s : Scope) (xs : List Ident) (e : Option ExprTree) : Type 0 where
    pub instr : InstrTree
    pub is : changed ns c.slots s xs e ≡ instr ∷ []
    pub gives : (p : Pos) → at ns c p ≡ code.Body instr → ChangeAt ns c s xs e p

  pub changes_at : (s : Scope) (xs : List Ident) (d : ChangeTree) → IsPath xs → Changes s xs (change xs d)
  changes_at s [] d h = absurd h
  changes_at s (x ∷ xs) d h = record {
    instr = assigned ns c.slots s (path_over c.slots s (x ∷ xs)) (modified d (path_from (VarExpr x) xs));
    is = refl;
    gives = λ p e. assign_at s (path_over c.slots s (x ∷ xs)) (modified d (path_from (VarExpr x) xs)) p e;
  }

  -- the variable of a wait
  taken_state : (i : IntoTree) (s inside later : Scope) (to : Slotted) (o : Option Slotted) → o ≡ Some to → DeclaredAs ns c inside i to later → TakesInto ns c inside (Some i) o later
  taken_state i s inside later to o e d = subst (λ x. TakesInto ns c inside (Some i) x later) (sym e) d

  pub takes : (s : Scope) (l : ℕ) (o : Option IntoTree) → Above l s → LocalsAt ns c l (into_locals o) → MayTake c.slots (names s) o → TakesInto ns c s o (taken_in ns c.slots o l s) (with_taken o l s)
  takes s l None a h m = refl
  takes s l (Some i) a h m = let v = placing ns c few_slots few_locals s l i a h m in taken_state i s s (with_into i l s) v.to (taken_in ns c.slots (Some i) l s) v.is v.declared

  -- in a scope of its own the operand is that of the scope around
  pub branch_takes : (s : Scope) (l block : ℕ) (w : WaitTree) → Above l s → LocalsAt ns c l (into_locals w.into) → MayTake c.slots (names s) w.into
      → BranchAt ns c s s w (callback ns c.slots s w l block) (with_taken w.into l s)
  branch_takes s l block w a h m = (refl, refl, takes s l w.into a h m)

  same_taken : (s : Scope) (l : ℕ) (o : Option IntoTree) → taken_in ns c.slots o l s ≡ taken_in ns c.slots o l (Mark ∷ s)
  same_taken s l None = refl
  same_taken s l (Some i) = by_state i.state
    where
      by_state : (b : Bool) → place_by ns c.slots b i.name.name l s ≡ place_by ns c.slots b i.name.name l (Mark ∷ s)
      by_state true = refl
      by_state false = refl

  pub inner_takes : (s : Scope) (l block : ℕ) (w : WaitTree) → Above l s → LocalsAt ns c l (into_locals w.into) → MayTake c.slots (names s) w.into
      → BranchAt ns c s (Mark ∷ s) w (callback ns c.slots s w l block) (with_taken w.into l (Mark ∷ s))
  inner_takes s l block w a h m =
      (refl, refl, subst (λ o. TakesInto ns c (Mark ∷ s) w.into o (with_taken w.into l (Mark ∷ s))) (sym (same_taken s l w.into)) (takes (Mark ∷ s) l w.into a h m))

  -- an error that is thrown
  local_known : (s : Scope) (x : List ℕ) (n : ℕ) → InClass ns c s → find s x ≡ Some n → n < length c.locals
  local_known [] x n k e = absurd (no_some e)
    where
      no_some : {n : ℕ} → None ≡ Some n → ⊥
      no_some e = cc
  local_known (Mark ∷ s) x n k e = local_known s x n k e
  local_known (Var y m ∷ s) x n k e = by_name (bytes_eq x y) (local_known s x n k.1) e
    where
      by_name : (b : Bool) → (find s x ≡ Some n → n < length c.locals) → (if b then Some m else find s x) ≡ Some n → n < length c.locals
      by_name true f e = let same : m ≡ n = cc in subst (λ j. j < length c.locals) same k.0
      by_name false f e = f e

  read_back : (s : Scope) (x : List ℕ) (o p : Option ℕ) → InClass ns c s → find s x ≡ o → position (λ (t : SlotTree). bytes_eq x t.name) c.slots ≡ p
      → place_named (var_over (scopes.place_by o p)) ≡ scopes.place_by o p
  read_back s x (Some n) p k e f = let lt = local_known s x n k e in local_named n (omega (arith, lt, few_locals))
  read_back s x None None k e f = refl
  read_back s x None (Some n) k e f =
      let first = position-Some (λ (t : SlotTree). bytes_eq x t.name) c.slots n (record { ty = VoidType; name = [] }) f in
      slot_named n (omega (arith, first.0, few_slots))

  pub throw_at : (s : Scope) (place : Place) (e : Option ExprTree) (o q : Option (List ℕ)) (p : Pos) → InClass ns c s → o ≡ q → IsThrown (is_there q) e
      → at ns c p ≡ Last (ThrowLast (thrown ns c.slots s place e o)) → ThrowAt ns c s e q p
  throw_at s place (Some e) o q p k same t h = h
  throw_at s place None o None p k same t h = cc
  throw_at s place None o (Some x) p k same t h = (
    record { name = var_over (place_of c.slots s x); at = place },
    h ∙ ap (λ z. Last (ThrowLast (thrown ns c.slots s place None z))) same,
    read_back s x (find s x) (position (λ (t : SlotTree). bytes_eq x t.name) c.slots) k refl refl,
  )

  -- a part of a `for`, up to the last instruction of its block
  part_at : (w : Around) (last : LastTree) (s : Scope) (p : Pos) (n : ℕ) (x : Spot) → w.exit ≡ Part last → Stands ns c p n x w.hand (finished w s w.exit) → at ns c p ≡ Last last
  part_at w last s p n x e st = let h = subst (λ y. Stands ns c p n x w.hand (finished w s y)) e st in h.code

  abbrev pub PartAt : Scope → List Item → List Target → Body → Pos → Scope → LastTree → Type 0
  PartAt s r ts b p later last = (q : Pos) × SimpleAt ns c s r ts b p q later × (at ns c q ≡ Last last)

  pub init_at : (b : Body) (w : Around) (last : LastTree) (s : Scope) (n : Next) (x : Spot) (r : List Item) (ts : List Target) (p : Pos) (l t : Bool) → IsInit b → HasParts b → w.exit ≡ Part last
      → Above n.local s
      → HandIn w.hand w.depth r ts → LocalsAt ns c n.local (body_locals b) → InPlace c.slots l t (names s) b → Stands ns c p n.block x w.hand (lowered ns c.slots s w n b)
      → PartAt s r ts b p (later b n.local s) last
  init_at (DeclareStmt place i e End) w last s n x r ts p l t is parts ex a hand room ok st =
      let v = placing ns c few_slots few_locals s n.local i a (locals_front ns c n.local (declared_locals i) [] room) ok.0 in
      let d = declares_at s n.local i v e in
      let s2 = with_into i n.local s in
      let rest = lowered ns c.slots s2 w (taken (Some i) n) End in
      let one = subst (λ is. Stands ns c p n.block x w.hand (acting is rest)) d.is st in (
        after p,
        (
          caught_by ns c n.local w.depth s r ts p n.block x w.hand (lowered ns c.slots s w n (DeclareStmt place i e End)) a hand (lowered_held ns c s w n (DeclareStmt place i e End)) refl st,
          v.to,
          d.gives p (one_at ns c p n.block x w.hand d.instr rest one),
          v.declared,
          refl,
        ),
        part_at w last s2 (after p) n.block x ex (one_on ns c p n.block x w.hand d.instr rest one),
      )
  init_at End w last s n x r ts p l t is parts ex a hand room ok st = (p, (refl, refl), part_at w last s p n.block x ex st)
  init_at (AssignStmt place xs e End) w last s n x r ts p l t is parts ex a hand room ok st =
      let i = assigned ns c.slots s (path_over c.slots s xs) e in
      let rest = lowered ns c.slots s w n End in (
        after p,
        (
          caught_by ns c n.local w.depth s r ts p n.block x w.hand (lowered ns c.slots s w n (AssignStmt place xs e End)) a hand (lowered_held ns c s w n (AssignStmt place xs e End)) refl st,
          assign_at s (path_over c.slots s xs) e p (one_at ns c p n.block x w.hand i rest st),
          refl,
          refl,
        ),
        part_at w last s (after p) n.block x ex (one_on ns c p n.block x w.hand i rest st),
      )
  init_at (ModifyStmt place xs d End) w last s n x r ts p l t is parts ex a hand room ok st =
      let v = changes_at s xs d parts.0 in
      let rest = lowered ns c.slots s w n End in
      let one = subst (λ is. Stands ns c p n.block x w.hand (acting is rest)) v.is st in (
        after p,
        (
          caught_by ns c n.local w.depth s r ts p n.block x w.hand (lowered ns c.slots s w n (ModifyStmt place xs d End)) a hand (lowered_held ns c s w n (ModifyStmt place xs d End)) refl st,
          v.gives p (one_at ns c p n.block x w.hand v.instr rest one),
          refl,
          refl,
        ),
        part_at w last s (after p) n.block x ex (one_on ns c p n.block x w.hand v.instr rest one),
      )
  init_at _ w last s n x r ts p l t is parts ex a hand room ok st = absurd is
