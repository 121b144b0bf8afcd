-- In a lowered body each group has a callback, where each `choose` of its text has a branch.
use Rattle.std.proofs.Common.{ℕ, suc, Bool, true, false, List, [], ◌∷◌, ◌++◌}
use Rattle.std.specs.Prelude.{if◌then◌else◌}
use Rattle.std.specs.List.{AllByRecursion}
use Rattle.std.specs.Option.{option_map}
use Rattle.std.specs.declared.option.Option.{Option}
use Rattle.std.specs.declared.option.Option.TheVariants.{None, Some}
use Rattle.flow_tree.specs.Tree.{ExprTree}
use Rattle.flow_tree.specs.Decls.{SlotTree}
use Rattle.flow_tree.specs.Body.{Body, End, BlockStmt, IfStmt, IfElseStmt, WhileStmt, ForStmt, LoopStmt, BreakStmt, ContinueStmt, ReturnStmt, ThrowStmt, TryStmt, ChooseStmt, DeclareStmt, AssignStmt, ModifyStmt, CallStmt, WaitStmt, Branches, NoBranches, MoreBranches}
use Rattle.flow_ast.specs.Leaving.{has_statement}
use Rattle.flow_class.specs.Classes.{InstrTree, ActInstr, LastTree, GotoLast, PassLast, TestLast, ChooseLast, ReturnLast, ThrowLast, CallbackTree}
use Rattle.flow_class.specs.Scopes.{Scope, Var, Mark, scope, path_over, act_over, over, over_all}
use Rattle.flow_meaning.specs.Evaluating.{Names}
use Rattle.flow_meaning.specs.Items.{change}
use Rattle.flow_split.specs.Around.{Exit, Text, Scoped, Part, Hand, Around, inner, pass, guarded, handling}
use Rattle.flow_split.specs.Counts.{Next, begun, taken, grouped, past, past_branches}
use Rattle.flow_split.specs.Lowered.{Chunk, joined, ends, acting, dropping, finished, before_rest, exits, exited, with_into, with_taken, later, tested, assigned, changed, declares, thrown, callback, callbacks, test_before, lowered, branches}
use Rattle.flow_invariants.specs.Unmarked.{HasCallback}
use Rattle.flow_tree.specs.Formed.{IsBranched}
use Rattle.flow_determinism.specs.Branches.{HasBranches, HaveBranches}

-- so it is in a chunk
pub record Grouped (ch : Chunk) : Type 0 where
  pub groups : AllByRecursion HasCallback ch.groups

both_grouped : (xs ys : List (List CallbackTree)) → AllByRecursion HasCallback xs → AllByRecursion HasCallback ys → AllByRecursion HasCallback (xs ++ ys)
both_grouped [] ys h k = k
both_grouped (x ∷ xs) ys h k = (h.0, both_grouped xs ys h.1 k)

joined_grouped : (h : Option Hand) {a b : Chunk} → Grouped a → Grouped b → Grouped (joined h a b)
joined_grouped h {a = a} {b = b} f g = record { groups = both_grouped a.groups b.groups f.groups g.groups }

acting_grouped : (is : List InstrTree) {a : Chunk} → Grouped a → Grouped (acting is a)
acting_grouped is f = record { groups = f.groups }

dropping_grouped : (ns : List ℕ) {a : Chunk} → Grouped a → Grouped (dropping ns a)
dropping_grouped ns f = record { groups = f.groups }

ends_grouped : (w : Around) (s : Scope) (acts : Bool) (is : List InstrTree) (l : LastTree) → Grouped (ends w s acts is l)
ends_grouped w s acts is l = record { groups = tt }

finished_grouped : (w : Around) (s : Scope) (x : Exit) → Grouped (finished w s x)
finished_grouped w s (Text at) = record { groups = tt }
finished_grouped w s (Scoped l) = record { groups = tt }
finished_grouped w s (Part l) = record { groups = tt }

rest_grouped : (h : Option Hand) (k : Body) {a b : Chunk} → Grouped a → Grouped b → Grouped (before_rest h a k b)
rest_grouped h k {a = a} {b = b} f g = by_test (has_statement k)
  where
    by_test : (x : Bool) → Grouped (if x then joined h a b else a)
    by_test true = joined_grouped h f g
    by_test false = f

exits_grouped : (t : Bool) (w : Around) (s : Scope) (n : Next) (l : LastTree) → Grouped (exits t w s n l)
exits_grouped false w s n l = record { groups = tt }
exits_grouped true w s n l = record { groups = tt }

module _ (ns : Names) (slots : List SlotTree) where
  test_grouped : (w : Around) (s : Scope) (e : Option ExprTree) (main out : ℕ) (a : Chunk) → Grouped a → Grouped (test_before ns slots w s e main out a)
  test_grouped w s None main out a f = f
  test_grouped w s (Some e) main out a f = joined_grouped w.hand f (ends_grouped w s true [] (TestLast (over slots s e) main out))

  has_first : (s : Scope) (t : Bool) (n : Next) (bs : Branches) → IsBranched bs → HasCallback (callbacks ns slots s t n bs)
  has_first s t n NoBranches h = h
  has_first s t n (MoreBranches at v b bs) h = tt

  mutual
    pub lowered_grouped : (b : Body) (s : Scope) (w : Around) (n : Next) → HasBranches b → Grouped (lowered ns slots s w n b)
    lowered_grouped End s w n h = finished_grouped w s w.exit
    lowered_grouped (BlockStmt at b k) s w n h =
        let m = past w.looped.tried b n in
        joined_grouped w.hand (lowered_grouped b (Mark ∷ s) (inner w (Scoped (GotoLast m.block))) n h.1) (lowered_grouped k s w (begun m) h.2)
    lowered_grouped (IfStmt at e b k) s w n h =
        let m = past w.looped.tried b (begun n) in
        joined_grouped w.hand (joined_grouped w.hand (ends_grouped w s true [] (TestLast (over slots s e) n.block m.block))
        (lowered_grouped b (Mark ∷ s) (inner w (Scoped (GotoLast m.block))) (begun n) h.1)) (lowered_grouped k s w (begun m) h.2)
    lowered_grouped (IfElseStmt at e b c k) s w n h =
        let m = past w.looped.tried b (begun n) in
        let j = past w.looped.tried c (begun m) in
        let v = inner w (Scoped (GotoLast j.block)) in
        joined_grouped w.hand
        (joined_grouped w.hand (joined_grouped w.hand (ends_grouped w s true [] (TestLast (over slots s e) n.block m.block)) (lowered_grouped b (Mark ∷ s) v (begun n) h.1))
        (lowered_grouped c (Mark ∷ s) v (begun m) h.2))
        (lowered_grouped k s w (begun j) h.3)
    lowered_grouped (WhileStmt at e b k) s w n h =
        let g = begun n in
        let m = past false b (begun g) in
        joined_grouped w.hand
        (joined_grouped w.hand (joined_grouped w.hand (ends_grouped w s false [] (PassLast n.block)) (ends_grouped w s true [] (TestLast (over slots s e) g.block m.block)))
        (lowered_grouped b (Mark ∷ s) (pass w 1 (PassLast n.block) m.block) (begun g) h.1))
        (lowered_grouped k s w (begun m) h.2)
    lowered_grouped (ForStmt at i e p b k) s w n h =
        let t = w.looped.tried in
        let d = past t i n in
        let g = tested e d in
        let m = past false b (begun g) in
        let o = past t p (begun m) in
        let r = later i n.local (Mark ∷ s) in
        let v = inner w (Part (PassLast d.block)) in
        joined_grouped w.hand
        (joined_grouped w.hand
        (joined_grouped w.hand (test_grouped v r e g.block o.block (lowered ns slots (Mark ∷ s) v n i) (lowered_grouped i (Mark ∷ s) v n h.1))
        (lowered_grouped b (Mark ∷ r) (pass w 2 (GotoLast m.block) o.block) (begun g) h.3))
        (lowered_grouped p r v (begun m) h.2))
        (dropping_grouped (scope (later p m.local r)) (lowered_grouped k s w (begun o) h.4))
    lowered_grouped (LoopStmt at b k) s w n h =
        let m = past false b (begun n) in
        joined_grouped w.hand (joined_grouped w.hand (ends_grouped w s false [] (PassLast n.block)) (lowered_grouped b (Mark ∷ s) (pass w 1 (PassLast n.block) m.block) (begun n) h.1))
        (lowered_grouped k s w (begun m) h.2)
    lowered_grouped (BreakStmt at k) s w n h =
        let m = exited w.looped.tried n in
        rest_grouped w.hand k (exits_grouped w.looped.tried w s n (GotoLast w.looped.out)) (lowered_grouped k s w (begun m) h.1)
    lowered_grouped (ContinueStmt at k) s w n h =
        let m = exited w.looped.tried n in
        rest_grouped w.hand k (exits_grouped w.looped.tried w s n w.looped.again) (lowered_grouped k s w (begun m) h.1)
    lowered_grouped (ReturnStmt at e k) s w n h = rest_grouped w.hand k (ends_grouped w s true [] (ReturnLast (option_map (over slots s) e))) (lowered_grouped k s w (begun n) h.1)
    lowered_grouped (ThrowStmt at e k) s w n h = rest_grouped w.hand k (ends_grouped w s true [] (ThrowLast (thrown ns slots s at e w.caught))) (lowered_grouped k s w (begun n) h.1)
    lowered_grouped (TryStmt at b p x c k) s w n h =
        let t = w.looped.tried in
        let m = past true b (begun n) in
        let g = begun (record m { local = suc m.local }) in
        let j = past t c g in
        let d : Hand = record { block = m.block; error = m.local } in
        let exit = Scoped (GotoLast j.block) in
        joined_grouped w.hand
        (joined_grouped w.hand (joined_grouped (Some d) (ends_grouped w s false [] (GotoLast n.block)) (lowered_grouped b (Mark ∷ s) (guarded w exit d) (begun n) h.1))
        (lowered_grouped c (Var x.name m.local ∷ Mark ∷ s) (handling w exit x.name) g h.2))
        (lowered_grouped k s w (begun j) h.3)
    lowered_grouped (ChooseStmt at bs k) s w n h =
        let t = w.looped.tried in
        let g = grouped n in
        let j = past_branches t bs g in
        let c : Chunk = record (ends w s true [] (ChooseLast n.group)) { groups = callbacks ns slots s t g bs ∷ [] } in
        joined_grouped w.hand (branches_grouped bs c s (inner w (Scoped (GotoLast j.block))) g h.1 (record { groups = (has_first s t g bs h.0, tt) })) (lowered_grouped k s w (begun j) h.2)
    lowered_grouped (DeclareStmt at i e k) s w n h = acting_grouped (declares ns slots s n.local i e) (lowered_grouped k (with_into i n.local s) w (taken (Some i) n) h.1)
    lowered_grouped (AssignStmt at xs e k) s w n h = acting_grouped (assigned ns slots s (path_over slots s xs) e ∷ []) (lowered_grouped k s w n h.1)
    lowered_grouped (ModifyStmt at xs d k) s w n h = acting_grouped (changed ns slots s xs (change xs d)) (lowered_grouped k s w n h.1)
    lowered_grouped (CallStmt at xs es k) s w n h = acting_grouped (ActInstr (act_over slots s xs) (over_all slots s es) ∷ []) (lowered_grouped k s w n h.1)
    lowered_grouped (WaitStmt at v k) s w n h =
        let c : Chunk = record (ends w s true [] (ChooseLast n.group)) { groups = (callback ns slots s v n.local n.block ∷ []) ∷ [] } in
        let p : Grouped c = record { groups = (tt, tt) } in
        joined_grouped w.hand p (lowered_grouped k (with_taken v.into n.local s) w (taken v.into (begun (grouped n))) h.1)

    branches_grouped : (bs : Branches) (a : Chunk) (s : Scope) (w : Around) (n : Next) → HaveBranches bs → Grouped a → Grouped (branches ns slots a s w n bs)
    branches_grouped NoBranches a s w n h f = f
    branches_grouped (MoreBranches at v b bs) a s w n h f =
        let m = taken v.into (begun n) in
        let c = lowered ns slots (with_taken v.into n.local (Mark ∷ s)) w m b in
        branches_grouped bs (joined w.hand a c) s w (past w.looped.tried b m) h.2
        (joined_grouped w.hand f (lowered_grouped b (with_taken v.into n.local (Mark ∷ s)) w m h.1))
