-- No class that carries an actor is that of a frame that is over.
use Rattle.std.proofs.Common.{◌≡◌, ℕ, zero, suc, Bool, true, false, List, [], ◌∷◌, subst}
use Rattle.std.specs.Prelude.{slice_get}
use Rattle.std.specs.declared.option.Option.{Option}
use Rattle.std.specs.declared.option.Option.TheVariants.{None, Some}
use Rattle.flow_tree.specs.declared.ty.Ident.{Ident}
use Rattle.flow_tree.specs.Tree.{TypeTree, ExprTree, ExprTrees}
use Rattle.flow_tree.specs.Body.{Body, End, BlockStmt, IfStmt, IfElseStmt, WhileStmt, ForStmt, LoopStmt, BreakStmt, ContinueStmt, ReturnStmt, ThrowStmt, TryStmt, ChooseStmt, DeclareStmt, AssignStmt, ModifyStmt, CallStmt, WaitStmt}
use Rattle.flow_tree.specs.Decls.{RoutineTree}
use Rattle.flow_class.specs.declared.class.Slotted.{Slotted}
use Rattle.flow_class.specs.Classes.{InstrTree, LastTree, ClassTree}
use Rattle.flow_class.specs.Code.{Last}
use Rattle.flow_class.specs.Code as frame
use Rattle.flow_class.specs.Scopes.{Scope}
use Rattle.flow_meaning.specs.Evaluating.{Names, Effectful, effect_in}
use Rattle.flow_meaning.specs.Frame.{no_class}
use Rattle.flow_meaning.specs.Items.{Site, site_past, change}
use Rattle.flow_meaning.specs.Source.{first_site}
use Rattle.flow_meaning.specs.Carry.{Pos, entry, at, AssignBy, AssignAt, ChangeAt, FirstAt, DeclareAt, PassAt, TextEndsAt, default_expr}
use Rattle.flow_meaning.specs.Carries.{ThrowAt, BodyAt, Carries, AllCarried}

no_last : (ns : Names) (p : Pos) (l : LastTree) → at ns no_class p ≡ Last l → ⊥
no_last ns p l e = cc

no_body : (ns : Names) (p : Pos) (i : InstrTree) → at ns no_class p ≡ frame.Body i → ⊥
no_body ns p i e = cc

module _ (ns : Names) where
  no_assign_by : (o : Option (Effectful × ExprTrees)) (path : List Ident) (e : ExprTree) (p : Pos) → AssignBy ns no_class o path e p → ⊥
  no_assign_by None path e p h = no_body ns p _ h
  no_assign_by (Some g) path e p h = no_body ns p _ h

  no_assign : (s : Scope) (path : List Ident) (e : ExprTree) (p : Pos) → AssignAt ns no_class s path e p → ⊥
  no_assign s path e p h = no_assign_by (effect_in ns e) path _ p h

  no_change : (s : Scope) (xs : List Ident) (o : Option ExprTree) (p : Pos) → ChangeAt ns no_class s xs o p → ⊥
  no_change s xs None p h = h
  no_change s xs (Some e) p h = no_assign s _ e p h

  no_first : (to : Slotted) (t : TypeTree) (o : Option ExprTree) (p : Pos) → FirstAt ns no_class to t o p → ⊥
  no_first to t None p h = no_body ns p _ h.0
  no_first to t (Some e) p h = no_body ns p _ h.1

  no_declare : (s : Scope) (to : Slotted) (t : TypeTree) (o : Option ExprTree) (p : Pos) → DeclareAt ns no_class s to t o p → ⊥
  no_declare s to t None p h = no_first to t (default_expr ns no_class t) p h
  no_declare s to t (Some e) p h = no_assign s _ e p h.1

  no_throw : (s : Scope) (o : Option ExprTree) (c : Option (List ℕ)) (p : Pos) → ThrowAt ns no_class s o c p → ⊥
  no_throw s (Some e) c p h = no_last ns p _ h
  no_throw s None None p h = h
  no_throw s None (Some x) p h = no_last ns p _ h.1

  no_pass : (p : Pos) (b : ℕ) → PassAt ns no_class p b → ⊥
  no_pass p b h = no_last ns h.0 _ h.2

  no_end : (void : Bool) (p : Pos) → TextEndsAt ns no_class void p → ⊥
  no_end true p h = no_last ns h.0 _ h.2
  no_end false p h = no_last ns h.0 _ h.3

  nothing_stands : (s : Scope) (x : Site) (b : Body) (p : Pos) → BodyAt ns no_class s [] [] x b p → ⊥
  nothing_stands s x End p h = no_end x.is_void p h
  nothing_stands s x (BlockStmt at b k) p h = nothing_stands s (site_past b x) k h.0 h.2
  nothing_stands s x (IfStmt at e b k) p h = no_last ns p _ h.4
  nothing_stands s x (IfElseStmt at e b c k) p h = no_last ns p _ h.4
  nothing_stands s x (WhileStmt at e b k) p h = no_pass p h.0 h.2
  nothing_stands s x (LoopStmt at b k) p h = no_pass p h.0 h.2
  nothing_stands s x (ForStmt at i e t b k) p h = no_pass h.1 h.0 h.5
  nothing_stands s x (BreakStmt at k) p h = h.0
  nothing_stands s x (ContinueStmt at k) p h = h.0
  nothing_stands s x (ReturnStmt at e k) p h = no_last ns p _ h.1
  nothing_stands s x (ThrowStmt at e k) p h = no_throw s e x.caught p h.1
  nothing_stands s x (TryStmt at b q y c k) p h = nothing_stands s (site_past c (site_past b x)) k h.3 h.8
  nothing_stands s x (ChooseStmt at bs k) p h = no_last ns p _ h.3.0
  nothing_stands s x (DeclareStmt at i e k) p h = no_declare s h.2 i.ty e p h.4
  nothing_stands s x (AssignStmt at xs e k) p h = no_assign s _ e p h.1
  nothing_stands s x (ModifyStmt at xs c k) p h = no_change s xs (change xs c) p h.1
  nothing_stands s x (CallStmt at xs es k) p h = no_body ns p _ h.1
  nothing_stands s x (WaitStmt at w k) p h = no_last ns p _ h.4.0

  pub never_over : (ts : List RoutineTree) (cs : List ClassTree) (k : ℕ) → AllCarried ns ts cs → (t : RoutineTree) → slice_get ts k ≡ Some t → slice_get cs k ≡ Some no_class → ⊥
  never_over [] cs k h t e f = cc
  never_over (u ∷ ts) [] k h t e f = h
  never_over (u ∷ ts) (c ∷ cs) zero h t e f =
      let same : c ≡ no_class = cc in nothing_stands [] (first_site u) u.body (entry 0) (subst (Carries ns u) same h.0)
  never_over (u ∷ ts) (c ∷ cs) (suc k) h t e f = never_over ts cs k h.1 t e f
