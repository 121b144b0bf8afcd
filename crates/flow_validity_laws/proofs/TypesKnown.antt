-- The types of an actor's variables are known.
use Rattle.std.proofs.Common.{◌≡◌, ℕ, Bool, true, false, List, [], ◌∷◌, ◌++◌, if◌then◌else◌, refl, ap, sym, ◌∙◌}
use Rattle.std.specs.List.{list_all}
use Rattle.std.specs.declared.option.Option.{Option}
use Rattle.std.specs.declared.option.Option.TheVariants.{None, Some}
use Rattle.flow_base.specs.declared.place.Place.{Place}
use Rattle.flow_tree.specs.Tree.{TypeTree, ErrorType}
use Rattle.flow_tree.specs.Body.{IntoTree, WaitTree, Body, End, BlockStmt, IfStmt, IfElseStmt, WhileStmt, ForStmt, LoopStmt, BreakStmt, ContinueStmt, ReturnStmt, ThrowStmt, TryStmt, ChooseStmt, DeclareStmt, AssignStmt, ModifyStmt, CallStmt, WaitStmt, Branches, NoBranches, MoreBranches}
use Rattle.flow_tree.specs.Decls.{SlotTree}
use Rattle.flow_ast.specs.Slots.{body_slots, branch_slots, declared_slots, into_slots}
use Rattle.flow_layout.specs.Locals.{body_locals, branch_locals, declared_locals, into_locals}
use Rattle.flow_rules.specs.declared.rule.SemanticRule.TheVariants.{UnknownName}
use Rattle.flow_rules.specs.Least.{lesser, unless}
use Rattle.flow_rules.specs.Known.{Meaning, type_known}
use Rattle.flow_rules.specs.Judged.{Setting}
use Rattle.flow_rules.specs.Items.{Env, item, with_var, with_states, in_loop, in_catch, behind, declared, waited, started, written, fresh, state_here, into_fault, declare_fault, wait_fault, maybe_into, slot_names, body_refusal, branch_refusal}
use Rattle.flow_rules.proofs.Lesser.{no_first, holds, no_item}
use Rattle.flow_typing_laws.proofs.Typing.Agreement.{neither_first, neither_second}
use Rattle.flow_validity_laws.proofs.Naming.{both, all_both}

module _ (k : List ℕ → Option Meaning) where
  abbrev pub SlotsKnown : List SlotTree → Type 0
  SlotsKnown ss = list_all (λ (s : SlotTree). type_known k s.ty) ss ≡ true

  abbrev pub LocalsKnown : List TypeTree → Type 0
  LocalsKnown ts = list_all (type_known k) ts ≡ true

  -- the types of slots and of locals are known
  pub record AreKnown (ss : List SlotTree) (ts : List TypeTree) : Type 0 where
    pub slots : SlotsKnown ss
    pub locals : LocalsKnown ts

  none_known : AreKnown [] []
  none_known = record { slots = refl; locals = refl }

  and_known : (ss rs : List SlotTree) (ts us : List TypeTree) → AreKnown ss ts → AreKnown rs us → AreKnown (ss ++ rs) (ts ++ us)
  and_known ss rs ts us a b = record { slots = all_both _ ss rs a.slots b.slots; locals = all_both (type_known k) ts us a.locals b.locals }

  type_of_into : (s : Setting) (states : List (List ℕ)) (i : IntoTree) → s.known ≡ k → into_fault s states i ≡ None → type_known k i.ty ≡ true
  type_of_into s states i e h =
      let w = no_first (written s i.ty) (lesser (state_here s i.state) (fresh s states i.state i.name.name)) h in
      ap (λ j. type_known j i.ty) (sym e) ∙ holds (type_known s.known i.ty) UnknownName (no_first (unless (type_known s.known i.ty) UnknownName) _ w)

  by_state : (b : Bool) (i : IntoTree) → type_known k i.ty ≡ true → AreKnown (if b then record { ty = i.ty; name = i.name.name } ∷ [] else []) (if b then [] else i.ty ∷ [])
  by_state true i h = record { slots = both (type_known k i.ty) true h refl; locals = refl }
  by_state false i h = record { slots = refl; locals = both (type_known k i.ty) true h refl }

  into_known : (s : Setting) (states : List (List ℕ)) (i : IntoTree) → s.known ≡ k → into_fault s states i ≡ None → AreKnown (declared_slots i) (declared_locals i)
  into_known s states i e h = by_state i.state i (type_of_into s states i e h)

  maybe_known : (s : Setting) (states : List (List ℕ)) (o : Option IntoTree) → s.known ≡ k → maybe_into s states o ≡ None → AreKnown (into_slots o) (into_locals o)
  maybe_known s states None e h = none_known
  maybe_known s states (Some i) e h = into_known s states i e h

  waited_known : (e : Env) (o : Option IntoTree) → e.setting.known ≡ k → (waited e o).setting.known ≡ k
  waited_known e None h = h
  waited_known e (Some i) h = h

  started_known : (e : Env) (i : Body) → e.setting.known ≡ k → (started e i).setting.known ≡ k
  started_known e (DeclareStmt at i v b) h = h
  started_known e (WaitStmt at w b) h = waited_known e w.into h
  started_known e _ h = h

  wait_known : (e : Env) (at : Place) (w : WaitTree) → e.setting.known ≡ k → item at (wait_fault e.setting e.states w) ≡ None → AreKnown (into_slots w.into) (into_locals w.into)
  wait_known e at w g h = maybe_known e.setting e.states w.into g (no_first (maybe_into e.setting e.states w.into) _ (no_item at (wait_fault e.setting e.states w) h))

  mutual
    pub body_known : (b : Body) (e : Env) → e.setting.known ≡ k → body_refusal e b ≡ None → AreKnown (body_slots b) (body_locals b)
    body_known End e g h = none_known
    body_known (BlockStmt at b c) e g h = and_known (body_slots b) (body_slots c) (body_locals b) (body_locals c) (body_known b e g (neither_first (body_refusal e b) _ h))
        (body_known c (behind e b) g (neither_second (body_refusal e b) _ h))
    body_known (IfStmt at q b c) e g h =
        let l = neither_second (item at _) _ h in
        and_known (body_slots b) (body_slots c) (body_locals b) (body_locals c) (body_known b e g (neither_first (body_refusal e b) _ l))
        (body_known c (behind e b) g (neither_second (body_refusal e b) _ l))
    body_known (IfElseStmt at q b o c) e g h =
        let l = neither_second (item at _) _ h in
        let m = neither_second (body_refusal e b) _ l in
        and_known (body_slots b ++ body_slots o) (body_slots c) (body_locals b ++ body_locals o) (body_locals c)
        (and_known (body_slots b) (body_slots o) (body_locals b) (body_locals o) (body_known b e g (neither_first (body_refusal e b) _ l))
        (body_known o (behind e b) g (neither_first (body_refusal (behind e b) o) _ m)))
        (body_known c (behind (behind e b) o) g (neither_second (body_refusal (behind e b) o) _ m))
    body_known (WhileStmt at q b c) e g h =
        let l = neither_second (item at _) _ h in
        and_known (body_slots b) (body_slots c) (body_locals b) (body_locals c) (body_known b (in_loop e) g (neither_first (body_refusal (in_loop e) b) _ l))
        (body_known c (behind e b) g (neither_second (body_refusal (in_loop e) b) _ l))
    body_known (ForStmt at i q n b c) e g h =
        let e' = started e i in
        let g' = started_known e i g in
        let l = neither_second (body_refusal e i) _ h in
        let m = neither_second (item at _) _ l in
        let o = neither_second (body_refusal e' n) _ m in
        let inside = in_loop (behind e' n) in
        and_known (body_slots i ++ body_slots n ++ body_slots b) (body_slots c) (body_locals i ++ body_locals n ++ body_locals b) (body_locals c)
        (and_known (body_slots i ++ body_slots n) (body_slots b) (body_locals i ++ body_locals n) (body_locals b)
        (and_known (body_slots i) (body_slots n) (body_locals i) (body_locals n) (body_known i e g (neither_first (body_refusal e i) _ h)) (body_known n e' g' (neither_first (body_refusal e' n) _ m)))
        (body_known b inside g' (neither_first (body_refusal inside b) _ o)))
        (body_known c (behind (behind (behind e i) n) b) g (neither_second (body_refusal inside b) _ o))
    body_known (LoopStmt at b c) e g h =
        and_known (body_slots b) (body_slots c) (body_locals b) (body_locals c) (body_known b (in_loop e) g (neither_first (body_refusal (in_loop e) b) _ h))
        (body_known c (behind e b) g (neither_second (body_refusal (in_loop e) b) _ h))
    body_known (BreakStmt at c) e g h = body_known c e g (neither_second (item at _) _ h)
    body_known (ContinueStmt at c) e g h = body_known c e g (neither_second (item at _) _ h)
    body_known (ReturnStmt at v c) e g h = body_known c e g (neither_second (item at _) _ h)
    body_known (ThrowStmt at v c) e g h = body_known c e g (neither_second (item at _) _ h)
    body_known (TryStmt at b q x o c) e g h =
        let eb = behind e b in
        let ec = in_catch (with_var eb x.name ErrorType) in
        let l = neither_second (body_refusal e b) _ h in
        let m = neither_second (item q _) _ l in
        let kb = body_known b e g (neither_first (body_refusal e b) _ h) in
        let ko = body_known o ec g (neither_first (body_refusal ec o) _ m) in
        let kc = body_known c (behind eb o) g (neither_second (body_refusal ec o) _ m) in
        let inner = and_known (body_slots b) (body_slots o) (body_locals b) (ErrorType ∷ body_locals o) kb (record { slots = ko.slots; locals = ko.locals }) in
        and_known (body_slots b ++ body_slots o) (body_slots c) (body_locals b ++ (ErrorType ∷ body_locals o)) (body_locals c) inner kc
    body_known (ChooseStmt at bs c) e g h =
        let l = neither_second (item at _) _ h in
        and_known (branch_slots bs) (body_slots c) (branch_locals bs) (body_locals c) (branches_known bs e g (neither_first (branch_refusal e bs) _ l))
        (body_known c (with_states e (slot_names (branch_slots bs))) g (neither_second (branch_refusal e bs) _ l))
    body_known (DeclareStmt at i v c) e g h =
        let f = item at (declare_fault e.setting e.states i v) in
        and_known (declared_slots i) (body_slots c) (declared_locals i) (body_locals c)
        (into_known e.setting e.states i g (no_first (into_fault e.setting e.states i) _ (no_item at (declare_fault e.setting e.states i v) (neither_first f _ h))))
        (body_known c (declared e i) g (neither_second f _ h))
    body_known (AssignStmt at xs v c) e g h = body_known c e g (neither_second (item at _) _ h)
    body_known (ModifyStmt at xs d c) e g h = body_known c e g (neither_second (item at _) _ h)
    body_known (CallStmt at xs es c) e g h = body_known c e g (neither_second (item at _) _ h)
    body_known (WaitStmt at w c) e g h =
        let f = item at (wait_fault e.setting e.states w) in
        and_known (into_slots w.into) (body_slots c) (into_locals w.into) (body_locals c) (wait_known e at w g (neither_first f _ h))
        (body_known c (waited e w.into) (waited_known e w.into g) (neither_second f _ h))

    pub branches_known : (bs : Branches) (e : Env) → e.setting.known ≡ k → branch_refusal e bs ≡ None → AreKnown (branch_slots bs) (branch_locals bs)
    branches_known NoBranches e g h = none_known
    branches_known (MoreBranches at w b bs) e g h =
        let f = item at (wait_fault e.setting e.states w) in
        let e' = waited e w.into in
        let l = neither_second f _ h in
        and_known (into_slots w.into ++ body_slots b) (branch_slots bs) (into_locals w.into ++ body_locals b) (branch_locals bs)
        (and_known (into_slots w.into) (body_slots b) (into_locals w.into) (body_locals b) (wait_known e at w g (neither_first f _ h))
        (body_known b e' (waited_known e w.into g) (neither_first (body_refusal e' b) _ l)))
        (branches_known bs (with_states e (slot_names (into_slots w.into ++ body_slots b))) g (neither_second (body_refusal e' b) _ l))
