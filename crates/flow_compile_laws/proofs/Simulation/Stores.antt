-- Declarations, assignments and changes in place.
use Rattle.std.proofs.Common.{◌≡◌, ℕ, true, false, Bool, List, [], ◌∷◌, refl, sym, ap, subst, ◌∙◌}
use Rattle.std.specs.Prelude.{pos}
use Rattle.std.specs.declared.option.Option.{Option}
use Rattle.std.specs.declared.option.Option.TheVariants.{None, Some}
use Rattle.flow_base.specs.declared.place.Place.{Place}
use Rattle.flow_tree.specs.declared.ty.Ident.{Ident}
use Rattle.flow_tree.specs.Tree.{TypeTree, IntType, BoolType, StringType, VoidType, ErrorType, NamedType, FutureType, FutureStreamType, PromiseType, PromiseStreamType, ExprTree, IntExpr, BoolExpr, TextExpr, VectorType, NothingType}
use Rattle.flow_tree.specs.Body.{IntoTree, ChangeTree, PlusChange, MinusChange, UpChange, DownChange, Body, DeclareStmt, AssignStmt, ModifyStmt}
use Rattle.flow_value.specs.declared.value.Kind.{Kind}
use Rattle.flow_value.specs.declared.value.Kind.TheVariants as kind
use Rattle.flow_value.specs.Values.{ValueTree, IntValue, BoolValue, TextValue, CompositeValue, ListWhole, NoValues}
use Rattle.flow_class.specs.declared.class.Slotted.{Slotted}
use Rattle.flow_class.specs.Classes.{ClassTree, SetInstr, NewInstr}
use Rattle.flow_class.specs.Places.{place_named}
use Rattle.flow_class.specs.Code as code
use Rattle.flow_class.specs.Code.{type_at}
use Rattle.flow_class.specs.Scopes.{Scope, path_over}
use Rattle.flow_meaning.specs.Requests.{Make, Stored, Effects}
use Rattle.flow_meaning.specs.Process.{View, Engine}
use Rattle.flow_meaning.specs.Evaluating.{Names, bind, asks, given}
use Rattle.flow_meaning.specs.Items.{Site, Declared, Path, Item, Do, actor, declare, change}
use Rattle.flow_meaning.specs.SourceStep as text
use Rattle.flow_meaning.specs.Source.{makes_cell, is_effect_in}
use Rattle.flow_meaning.specs.Frame.{Memory, Frame, put_at}
use Rattle.flow_meaning.specs.Frame as frame
use Rattle.flow_meaning.specs.Class as class
use Rattle.flow_meaning.specs.Carry as carry
use Rattle.flow_meaning.specs.Carry.{Pos, after, AssignAt, ChangeAt, DeclareAt, DeclaredAs, FirstAt, default_expr}
use Rattle.flow_compile_laws.specs.Simulation.Memories.{vars_of, Held, frame_at}
use Rattle.flow_compile_laws.specs.Simulation.Matching.{StmtsAt}
use Rattle.flow_compile_laws.proofs.Simulation.Puts.{Puts, assign_puts, declare_puts}
use Rattle.flow_compile_laws.proofs.Simulation.Row.{Agree, Replied}
use Rattle.flow_compile_laws.proofs.Simulation.Parts.{DeclaresAt, declares_at, AssignsAt, assigns_at, modifies_at}
use Rattle.flow_compile_laws.proofs.Simulation.Points.{Point, point_actor, may_go, is_due, answered, placed_agree, store_row}

-- a change in place is no effect
plain_as : (ns : Names) {a b : ExprTree} → Some a ≡ Some b → is_effect_in ns a ≡ false → is_effect_in ns b ≡ false
plain_as ns {a} {b} h f = let same : a ≡ b = cc in subst (λ z. is_effect_in ns z ≡ false) same f

change_plain : (ns : Names) (xs : List Ident) (d : ChangeTree) (e : ExprTree) → change xs d ≡ Some e → is_effect_in ns e ≡ false
change_plain ns [] d e h = cc
change_plain ns (x ∷ xs) (PlusChange g) e h = plain_as ns h refl
change_plain ns (x ∷ xs) (MinusChange g) e h = plain_as ns h refl
change_plain ns (x ∷ xs) UpChange e h = plain_as ns h refl
change_plain ns (x ∷ xs) DownChange e h = plain_as ns h refl

not_effect : {b : Bool} → b ≡ true → b ≡ false → ⊥
not_effect e f = cc

-- what is assigned to the name of a place is put there
pub named_puts : (ns : Names) (c : ClassTree) (m : Memory) (later : Scope) (y : Ident) (to : Slotted) (u : ValueTree) (a : List ValueTree × _) → place_named y.name ≡ Some to
    → Puts c later (Some a) (put_at ns.records m to [] u) → Puts c later (Some a) (frame.assign ns.records m (y ∷ []) u)
named_puts ns c m later y to u a e h = subst (λ o. Puts c later (Some a) (bind o (λ p. put_at ns.records m p [] u))) (sym e) h

module _ (d : Engine Frame) (ns : Names) (steps : (v : View) (f : Frame) → d.next v f ≡ class.next_step ns v f) (v : View) (c : ClassTree) (m : Memory) (p : Pos) (n : ℕ) (s : Scope)
    (ts : List carry.Target) (held : Held c m s) (r : List Item) (x : Site) (k : Body) where
  -- a declared variable, with the value of an expression, or of an effect, or what its type has at first
  module _ (at : Place) (i : IntoTree) where
    abbrev declare_point : (e : Option ExprTree) → DeclaresAt ns c s r ts x at i e k p → StmtsAt ns c s r ts x (DeclareStmt at i e k) p → Point ns
    declare_point e w h = record { c = c; m = m; p = p; n = n; s = s; ts = ts; rest = Do x (DeclareStmt at i e k) ∷ r; held = held; at = h; throws = w.throws }

    declare_given : (e : ExprTree) (w : DeclaresAt ns c s r ts x at i (Some e) k p) (h : StmtsAt ns c s r ts x (DeclareStmt at i (Some e) k) p)
        → Replied d ns steps v (text.store ns v (actor (vars_of c m s) (Do x (DeclareStmt at i (Some e) k) ∷ r)) (Declared i) e (Do x k ∷ r)) (frame_at c m p n)
    declare_given e w h =
        store_row d ns steps (declare_point (Some e) w h) v (Declared i) (w.puts.0 ∷ []) e w.later (Do x k ∷ r) w.puts.1
        (λ u. named_puts ns c m w.later w.puts.0 w.to u (declare i u (vars_of c m s)) w.puts.2 (declare_puts ns c m s held i w.to w.later u w.declared)) w.next (λ f. f)

    -- a first value
    first_row : (w : DeclaresAt ns c s r ts x at i None k p) (h : StmtsAt ns c s r ts x (DeclareStmt at i None k) p) (e : ExprTree) (u : ValueTree) (y : Ident)
        → carry.at ns c p ≡ code.Body (SetInstr (y ∷ []) e) → place_named y.name ≡ Some w.to
        → class.instruction ns v (frame_at c m p n) (SetInstr (y ∷ []) e) ≡ given (frame_at c m p n) (frame.assign ns.records m (y ∷ []) u) (class.placed ns v (frame_at c m p n) v.left)
        → Replied d ns steps v (text.place ns v v.left (actor (vars_of c m s) (Do x (DeclareStmt at i None k) ∷ r)) (Declared i) u (Do x k ∷ r)) (frame_at c m p n)
    first_row w h e u y stands names same =
        let t = declare_point None w h in
        answered d ns steps t v (code.Body (SetInstr (y ∷ []) e)) (text.place ns v v.left (point_actor d ns steps t) (Declared i) u (Do x k ∷ r)) stands
        (subst (λ z. Agree d ns steps (text.place ns v v.left (point_actor d ns steps t) (Declared i) u (Do x k ∷ r)) z) (sym same)
        (placed_agree d ns steps t v w.later (Do x k ∷ r) v.left (Some (declare i u (vars_of c m s))) (frame.assign ns.records m (y ∷ []) u)
        (named_puts ns c m w.later y w.to u (declare i u (vars_of c m s)) names (declare_puts ns c m s held i w.to w.later u w.declared)) w.next))

    -- a new cell, or what has no first value
    new_stands : (w : DeclaresAt ns c s r ts x at i None k p) (h : StmtsAt ns c s r ts x (DeclareStmt at i None k) p) (t : TypeTree) (o : Option Kind) → class.promise_kind t ≡ o
        → carry.at ns c p ≡ code.Body (NewInstr w.to) → type_at c w.to ≡ Some t
        → (a : _) → Agree d ns steps a (class.new_by ns v (frame_at c m p n) w.to t o) → Replied d ns steps v a (frame_at c m p n)
    new_stands w h t o eo stands type a agree =
        answered d ns steps (declare_point None w h) v (code.Body (NewInstr w.to)) a stands
        (subst (λ q. Agree d ns steps a (given (frame_at c m p n) q (λ t. class.new_by ns v (frame_at c m p n) w.to t (class.promise_kind t)))) (sym type)
        (subst (λ q. Agree d ns steps a (class.new_by ns v (frame_at c m p n) w.to t q)) (sym eo) agree))

    new_row : (w : DeclaresAt ns c s r ts x at i None k p) (h : StmtsAt ns c s r ts x (DeclareStmt at i None k) p) (t : TypeTree) → i.ty ≡ t → FirstAt ns c w.to t (default_expr ns c t) p
        → Replied d ns steps v (text.declare_new ns v (actor (vars_of c m s) (Do x (DeclareStmt at i None k) ∷ r)) i (Do x k ∷ r) t) (frame_at c m p n)
    new_row w h IntType e f = first_row w h (IntExpr (pos 0)) (IntValue (pos 0)) f.0 f.1 f.2 refl
    new_row w h BoolType e f = first_row w h (BoolExpr false) (BoolValue false) f.0 f.1 f.2 refl
    new_row w h StringType e f = first_row w h (TextExpr []) (TextValue []) f.0 f.1 f.2 refl
    new_row w h (PromiseType t) e f =
        new_stands w h (PromiseType t) (Some kind.Promise) refl f.0 f.1 _ (refl, is_due d ns steps (declare_point None w h) (ap makes_cell e))
    new_row w h (PromiseStreamType t) e f =
        new_stands w h (PromiseStreamType t) (Some kind.PromiseStream) refl f.0 f.1 _ (refl, is_due d ns steps (declare_point None w h) (ap makes_cell e))
    new_row w h VoidType e f = new_stands w h VoidType None refl f.0 f.1 _ (refl, may_go d ns steps (declare_point None w h))
    new_row w h ErrorType e f = new_stands w h ErrorType None refl f.0 f.1 _ (refl, may_go d ns steps (declare_point None w h))
    new_row w h (NamedType t) e f = new_stands w h (NamedType t) None refl f.0 f.1 _ (refl, may_go d ns steps (declare_point None w h))
    new_row w h (FutureType t) e f = new_stands w h (FutureType t) None refl f.0 f.1 _ (refl, may_go d ns steps (declare_point None w h))
    new_row w h (FutureStreamType t) e f = new_stands w h (FutureStreamType t) None refl f.0 f.1 _ (refl, may_go d ns steps (declare_point None w h))
    new_row w h NothingType e f = new_stands w h NothingType None refl f.0 f.1 _ (refl, may_go d ns steps (declare_point None w h))
    new_row w h (VectorType t) e f =
        let u = CompositeValue ListWhole NoValues in
        new_stands w h (VectorType t) None refl f.0 f.1 _
        (placed_agree d ns steps (declare_point None w h) v w.later (Do x k ∷ r) v.left (Some (declare i u (vars_of c m s))) (put_at ns.records m w.to [] u)
        (declare_puts ns c m s held i w.to w.later u w.declared) w.next)

    pub declare_row : (e : Option ExprTree) → StmtsAt ns c s r ts x (DeclareStmt at i e k) p
        → Replied d ns steps v (text.declares ns v (actor (vars_of c m s) (Do x (DeclareStmt at i e k) ∷ r)) i e (Do x k ∷ r)) (frame_at c m p n)
    declare_row (Some e) h = declare_given e (declares_at ns c s r ts x at i (Some e) k p h) h
    declare_row None h = let w = declares_at ns c s r ts x at i None k p h in new_row w h i.ty refl w.puts

  pub assign_row : (at : Place) (xs : List Ident) (e : ExprTree) → StmtsAt ns c s r ts x (AssignStmt at xs e k) p
      → Replied d ns steps v (text.store ns v (actor (vars_of c m s) (Do x (AssignStmt at xs e k) ∷ r)) (Path xs) e (Do x k ∷ r)) (frame_at c m p n)
  assign_row at xs e h =
      let w = assigns_at ns c s r ts x at xs e k p h in
      store_row d ns steps (record { c = c; m = m; p = p; n = n; s = s; ts = ts; rest = Do x (AssignStmt at xs e k) ∷ r; held = held; at = h; throws = w.throws })
      v (Path xs) (path_over c.slots s xs) e s (Do x k ∷ r) w.stands (λ u. assign_puts ns c m s held xs u) w.next (λ f. f)

  pub modify_row : (at : Place) (xs : List Ident) (g : ChangeTree) → StmtsAt ns c s r ts x (ModifyStmt at xs g k) p
      → Replied d ns steps v
      (given (actor (vars_of c m s) (Do x (ModifyStmt at xs g k) ∷ r)) (change xs g) (λ e. text.store ns v (actor (vars_of c m s) (Do x (ModifyStmt at xs g k) ∷ r)) (Path xs) e (Do x k ∷ r)))
      (frame_at c m p n)
  modify_row at xs g h = by_change (change xs g) refl w.stands
    where
      w : AssignsAt ns c s r ts x (ModifyStmt at xs g k) k (ChangeAt ns c s xs (change xs g)) p
      w = modifies_at ns c s r ts x at xs g k p h

      by_change : (o : Option ExprTree) → change xs g ≡ o → ChangeAt ns c s xs o p
          → Replied d ns steps v
          (given (actor (vars_of c m s) (Do x (ModifyStmt at xs g k) ∷ r)) o (λ e. text.store ns v (actor (vars_of c m s) (Do x (ModifyStmt at xs g k) ∷ r)) (Path xs) e (Do x k ∷ r)))
          (frame_at c m p n)
      by_change None eo stands = absurd stands
      by_change (Some e) eo stands =
          store_row d ns steps (record { c = c; m = m; p = p; n = n; s = s; ts = ts; rest = Do x (ModifyStmt at xs g k) ∷ r; held = held; at = h; throws = w.throws })
          v (Path xs) (path_over c.slots s xs) e s (Do x k ∷ r) stands (λ u. assign_puts ns c m s held xs u) w.next (λ f. absurd (not_effect f (change_plain ns xs g e eo)))
