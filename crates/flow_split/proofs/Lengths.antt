-- A lowered body takes as many blocks and groups as were counted beforehand.
use Rattle.std.proofs.Common.{◌≡◌, ℕ, suc, ◌+◌, Bool, true, false, List, [], ◌∷◌, length, if◌then◌else◌, refl, sym, ◌∙◌, arith}
use Rattle.std.specs.Option.{option_map}
use Rattle.std.specs.declared.option.Option.{Option}
use Rattle.std.specs.declared.option.Option.TheVariants.{None, Some}
use Rattle.flow_tree.specs.Tree.{ExprTree}
use Rattle.flow_tree.specs.Body.{Body, End, BlockStmt, IfStmt, IfElseStmt, WhileStmt, ForStmt, LoopStmt, BreakStmt, ContinueStmt, ReturnStmt, ThrowStmt, TryStmt, ChooseStmt, DeclareStmt, AssignStmt, ModifyStmt, CallStmt, WaitStmt, Branches, NoBranches, MoreBranches}
use Rattle.flow_tree.specs.Decls.{SlotTree}
use Rattle.flow_ast.specs.Leaving.{has_statement}
use Rattle.flow_class.specs.Classes.{InstrTree, LastTree, GotoLast, PassLast, TestLast, ChooseLast, ReturnLast, ThrowLast}
use Rattle.flow_class.specs.Scopes.{Scope, Mark, Var, scope, over}
use Rattle.flow_meaning.specs.Evaluating.{Names}
use Rattle.flow_split.specs.Around.{Exit, Text, Scoped, Part, Hand, Around, inner, pass, guarded, handling}
use Rattle.flow_split.specs.Counts.{blocks_in, branch_blocks, groups_in, branch_group_count, test_blocks, exit_blocks, behind, Next, begun, taken, grouped, past, past_branches}
use Rattle.flow_split.specs.Lowered.{Chunk, block_with, joined, ends, before_rest, exits, exited, finished, dropping, thrown, with_into, with_taken, later, tested, callback, callbacks, test_before, lowered, branches}
use Rattle.flow_split.proofs.Joins.{join_more, join_groups}

-- how many blocks a chunk adds, and how many groups
pub record Sizes (c : Chunk) (n m : ℕ) : Type 0 where
  pub more : length c.more ≡ n
  pub groups : length c.groups ≡ m

sized : (c : Chunk) (n m k l : ℕ) → n ≡ k → m ≡ l → Sizes c n m → Sizes c k l
sized c n m k l p q h = record { more = h.more ∙ p; groups = h.groups ∙ q }

after : (h : Option Hand) (c d : Chunk) (n m k l : ℕ) → Sizes c n m → Sizes d k l → Sizes (joined h c d) (n + suc k) (m + l)
after h c d n m k l a b = record { more = join_more c.more d.more (block_with h d) n k a.more b.more; groups = join_groups c.groups d.groups m l a.groups b.groups }

none : (w : Around) (s : Scope) (acts : Bool) (is : List InstrTree) (l : LastTree) → Sizes (ends w s acts is l) 0 0
none w s acts is l = record { more = refl; groups = refl }

zero_plus : (n : ℕ) → 0 + n ≡ n
zero_plus n = omega arith

plus_zero : (n : ℕ) → n + 0 ≡ n
plus_zero n = omega arith

one_plus : (n : ℕ) → 1 + n ≡ suc n
one_plus n = omega arith

-- the step of a `for` is counted before its body, and lowered behind it
step_first : (a b c d : ℕ) → a + b + c + d ≡ a + c + b + d
step_first a b c d = omega arith

suc_plus : (a b : ℕ) → suc a + b ≡ suc (a + b)
suc_plus a b = omega arith

nat_assoc : (a b c : ℕ) → a + b + c ≡ a + (b + c)
nat_assoc a b c = omega arith

first_after : (h : Option Hand) (c d : Chunk) (k l : ℕ) → Sizes c 0 0 → Sizes d k l → Sizes (joined h c d) (suc k) l
first_after h c d k l a b = sized (joined h c d) (0 + suc k) (0 + l) (suc k) l (zero_plus (suc k)) (zero_plus l) (after h c d 0 0 k l a b)

exits_sizes : (t : Bool) (w : Around) (s : Scope) (n : Next) (l : LastTree) → Sizes (exits t w s n l) (exit_blocks t) 0
exits_sizes false w s n l = record { more = refl; groups = refl }
exits_sizes true w s n l = record { more = refl; groups = refl }

finished_sizes : (w : Around) (s : Scope) (x : Exit) → Sizes (finished w s x) 0 0
finished_sizes w s (Text close) = record { more = refl; groups = refl }
finished_sizes w s (Scoped l) = record { more = refl; groups = refl }
finished_sizes w s (Part l) = record { more = refl; groups = refl }

-- where there is no statement, there are no groups
pub none_behind : (k : Body) → has_statement k ≡ false → groups_in k ≡ 0
none_behind End e = refl
none_behind _ e = cc

rest_if : (b : Bool) (h : Option Hand) (c d : Chunk) (k : Body) (n m : ℕ) → has_statement k ≡ b → Sizes c n 0 → Sizes d m (groups_in k)
    → Sizes (if b then joined h c d else c) (n + (if b then suc m else 0)) (groups_in k)
rest_if true h c d k n m e a b = sized (joined h c d) (n + suc m) (0 + groups_in k) (n + suc m) (groups_in k) refl (zero_plus (groups_in k)) (after h c d n 0 m (groups_in k) a b)
rest_if false h c d k n m e a b = sized c n 0 (n + 0) (groups_in k) (sym (plus_zero n)) (sym (none_behind k e)) a

rest_sizes : (h : Option Hand) (c d : Chunk) (k : Body) (n m : ℕ) → Sizes c n 0 → Sizes d m (groups_in k) → Sizes (before_rest h c k d) (n + behind k m) (groups_in k)
rest_sizes h c d k n m a b = rest_if (has_statement k) h c d k n m refl a b

first_rest : (h : Option Hand) (c d : Chunk) (k : Body) (m : ℕ) → Sizes c 0 0 → Sizes d m (groups_in k) → Sizes (before_rest h c k d) (behind k m) (groups_in k)
first_rest h c d k m a b = sized (before_rest h c k d) (0 + behind k m) (groups_in k) (behind k m) (groups_in k) (zero_plus (behind k m)) refl (rest_sizes h c d k 0 m a b)

module _ (ns : Names) (slots : List SlotTree) where
  test_sizes : (w : Around) (s : Scope) (e : Option ExprTree) (x y : ℕ) (c : Chunk) (n m : ℕ) → Sizes c n m → Sizes (test_before ns slots w s e x y c) (n + test_blocks e) m
  test_sizes w s None x y c n m a = sized c n m (n + 0) m (sym (plus_zero n)) refl a
  test_sizes w s (Some e) x y c n m a =
      let d = ends w s true [] (TestLast (over slots s e) x y) in
      sized (joined w.hand c d) (n + suc 0) (m + 0) (n + 1) m refl (plus_zero m) (after w.hand c d n m 0 0 a (none w s true [] (TestLast (over slots s e) x y)))

  mutual
    pub lowered_sizes : (s : Scope) (w : Around) (n : Next) (b : Body) → Sizes (lowered ns slots s w n b) (blocks_in w.looped.tried b) (groups_in b)
    lowered_sizes s w n End = finished_sizes w s w.exit
    lowered_sizes s w n (BlockStmt at b k) =
        let t = w.looped.tried in
        let m = past t b n in
        let v = inner w (Scoped (GotoLast m.block)) in
        after w.hand (lowered ns slots (Mark ∷ s) v n b) (lowered ns slots s w (begun m) k) (blocks_in t b) (groups_in b) (blocks_in t k) (groups_in k)
        (lowered_sizes (Mark ∷ s) v n b) (lowered_sizes s w (begun m) k)
    lowered_sizes s w n (IfStmt at e b k) =
        let t = w.looped.tried in
        let m = past t b (begun n) in
        let v = inner w (Scoped (GotoLast m.block)) in
        let c0 = ends w s true [] (TestLast (over slots s e) n.block m.block) in
        let c1 = lowered ns slots (Mark ∷ s) v (begun n) b in
        after w.hand (joined w.hand c0 c1) (lowered ns slots s w (begun m) k) (suc (blocks_in t b)) (groups_in b) (blocks_in t k) (groups_in k)
        (first_after w.hand c0 c1 (blocks_in t b) (groups_in b) (none w s true [] (TestLast (over slots s e) n.block m.block)) (lowered_sizes (Mark ∷ s) v (begun n) b))
        (lowered_sizes s w (begun m) k)
    lowered_sizes s w n (IfElseStmt at e b c k) =
        let t = w.looped.tried in
        let m = past t b (begun n) in
        let j = past t c (begun m) in
        let v = inner w (Scoped (GotoLast j.block)) in
        let c0 = ends w s true [] (TestLast (over slots s e) n.block m.block) in
        let c1 = lowered ns slots (Mark ∷ s) v (begun n) b in
        let c2 = lowered ns slots (Mark ∷ s) v (begun m) c in
        after w.hand (joined w.hand (joined w.hand c0 c1) c2) (lowered ns slots s w (begun j) k) (suc (blocks_in t b) + suc (blocks_in t c)) (groups_in b + groups_in c) (blocks_in t k) (groups_in k)
        (after w.hand (joined w.hand c0 c1) c2 (suc (blocks_in t b)) (groups_in b) (blocks_in t c) (groups_in c)
        (first_after w.hand c0 c1 (blocks_in t b) (groups_in b) (none w s true [] (TestLast (over slots s e) n.block m.block)) (lowered_sizes (Mark ∷ s) v (begun n) b))
        (lowered_sizes (Mark ∷ s) v (begun m) c))
        (lowered_sizes s w (begun j) k)
    lowered_sizes s w n (WhileStmt at e b k) =
        let h = begun n in
        let m = past false b (begun h) in
        let v = pass w 1 (PassLast n.block) m.block in
        let c0 = ends w s false [] (PassLast n.block) in
        let c1 = ends w s true [] (TestLast (over slots s e) h.block m.block) in
        let c2 = lowered ns slots (Mark ∷ s) v (begun h) b in
        after w.hand (joined w.hand (joined w.hand c0 c1) c2) (lowered ns slots s w (begun m) k) (1 + suc (blocks_in false b)) (groups_in b) (blocks_in w.looped.tried k) (groups_in k)
        (sized (joined w.hand (joined w.hand c0 c1) c2) (1 + suc (blocks_in false b)) (0 + groups_in b) (1 + suc (blocks_in false b)) (groups_in b) refl (zero_plus (groups_in b))
        (after w.hand (joined w.hand c0 c1) c2 1 0 (blocks_in false b) (groups_in b)
        (first_after w.hand c0 c1 0 0 (none w s false [] (PassLast n.block)) (none w s true [] (TestLast (over slots s e) h.block m.block)))
        (lowered_sizes (Mark ∷ s) v (begun h) b)))
        (lowered_sizes s w (begun m) k)
    lowered_sizes s w n (LoopStmt at b k) =
        let m = past false b (begun n) in
        let v = pass w 1 (PassLast n.block) m.block in
        let c0 = ends w s false [] (PassLast n.block) in
        let c1 = lowered ns slots (Mark ∷ s) v (begun n) b in
        after w.hand (joined w.hand c0 c1) (lowered ns slots s w (begun m) k) (suc (blocks_in false b)) (groups_in b) (blocks_in w.looped.tried k) (groups_in k)
        (first_after w.hand c0 c1 (blocks_in false b) (groups_in b) (none w s false [] (PassLast n.block)) (lowered_sizes (Mark ∷ s) v (begun n) b))
        (lowered_sizes s w (begun m) k)
    lowered_sizes s w n (ForStmt at i e p b k) =
        let t = w.looped.tried in
        let h = past t i n in
        let g = tested e h in
        let m = past false b (begun g) in
        let o = past t p (begun m) in
        let r = later i n.local (Mark ∷ s) in
        let v = inner w (Part (PassLast h.block)) in
        let u = pass w 2 (GotoLast m.block) o.block in
        let c0 = lowered ns slots (Mark ∷ s) v n i in
        let c1 = test_before ns slots v r e g.block o.block c0 in
        let c2 = lowered ns slots (Mark ∷ r) u (begun g) b in
        let c3 = lowered ns slots r v (begun m) p in
        let c4 = lowered ns slots s w (begun o) k in
        let d4 = lowered_sizes s w (begun o) k in
        sized _ _ _ _ _ refl (step_first (groups_in i) (groups_in b) (groups_in p) (groups_in k))
        (after w.hand (joined w.hand (joined w.hand c1 c2) c3) (dropping (scope (later p m.local r)) c4) (blocks_in t i + test_blocks e + suc (blocks_in false b) + suc (blocks_in t p))
        (groups_in i + groups_in b + groups_in p)
        (blocks_in t k) (groups_in k)
        (after w.hand (joined w.hand c1 c2) c3 (blocks_in t i + test_blocks e + suc (blocks_in false b)) (groups_in i + groups_in b) (blocks_in t p) (groups_in p)
        (after w.hand c1 c2 (blocks_in t i + test_blocks e) (groups_in i) (blocks_in false b) (groups_in b)
        (test_sizes v r e g.block o.block c0 (blocks_in t i) (groups_in i) (lowered_sizes (Mark ∷ s) v n i))
        (lowered_sizes (Mark ∷ r) u (begun g) b))
        (lowered_sizes r v (begun m) p))
        (record { more = d4.more; groups = d4.groups }))
    lowered_sizes s w n (BreakStmt at k) =
        let m = exited w.looped.tried n in
        rest_sizes w.hand (exits w.looped.tried w s n (GotoLast w.looped.out)) (lowered ns slots s w (begun m) k) k (exit_blocks w.looped.tried) (blocks_in w.looped.tried k)
        (exits_sizes w.looped.tried w s n (GotoLast w.looped.out)) (lowered_sizes s w (begun m) k)
    lowered_sizes s w n (ContinueStmt at k) =
        let m = exited w.looped.tried n in
        rest_sizes w.hand (exits w.looped.tried w s n w.looped.again) (lowered ns slots s w (begun m) k) k (exit_blocks w.looped.tried) (blocks_in w.looped.tried k)
        (exits_sizes w.looped.tried w s n w.looped.again) (lowered_sizes s w (begun m) k)
    lowered_sizes s w n (ReturnStmt at e k) =
        first_rest w.hand (ends w s true [] (ReturnLast (option_map (over slots s) e))) (lowered ns slots s w (begun n) k) k (blocks_in w.looped.tried k) (none w s true [] (ReturnLast (option_map (over slots s) e)))
        (lowered_sizes s w (begun n) k)
    lowered_sizes s w n (ThrowStmt at e k) =
        first_rest w.hand (ends w s true [] (ThrowLast (thrown ns slots s at e w.caught))) (lowered ns slots s w (begun n) k) k (blocks_in w.looped.tried k)
        (none w s true [] (ThrowLast (thrown ns slots s at e w.caught))) (lowered_sizes s w (begun n) k)
    lowered_sizes s w n (TryStmt at b p x c k) =
        let t = w.looped.tried in
        let m = past true b (begun n) in
        let g = begun (record m { local = suc m.local }) in
        let j = past t c g in
        let h : Hand = record { block = m.block; error = m.local } in
        let exit = Scoped (GotoLast j.block) in
        let c0 = ends w s false [] (GotoLast n.block) in
        let c1 = lowered ns slots (Mark ∷ s) (guarded w exit h) (begun n) b in
        let c2 = lowered ns slots (Var x.name m.local ∷ Mark ∷ s) (handling w exit x.name) g c in
        after w.hand (joined w.hand (joined (Some h) c0 c1) c2) (lowered ns slots s w (begun j) k) (suc (blocks_in true b) + suc (blocks_in t c)) (groups_in b + groups_in c) (blocks_in t k)
        (groups_in k)
        (after w.hand (joined (Some h) c0 c1) c2 (suc (blocks_in true b)) (groups_in b) (blocks_in t c) (groups_in c)
        (first_after (Some h) c0 c1 (blocks_in true b) (groups_in b) (none w s false [] (GotoLast n.block)) (lowered_sizes (Mark ∷ s) (guarded w exit h) (begun n) b))
        (lowered_sizes (Var x.name m.local ∷ Mark ∷ s) (handling w exit x.name) g c))
        (lowered_sizes s w (begun j) k)
    lowered_sizes s w n (ChooseStmt at bs k) =
        let t = w.looped.tried in
        let g = grouped n in
        let j = past_branches t bs g in
        let v = inner w (Scoped (GotoLast j.block)) in
        let c0 : Chunk = record (ends w s true [] (ChooseLast n.group)) { groups = callbacks ns slots s t g bs ∷ [] } in
        sized _ _ _ _ _ refl (suc_plus (branch_group_count bs) (groups_in k))
        (after w.hand (branches ns slots c0 s v g bs) (lowered ns slots s w (begun j) k) (branch_blocks t bs) (suc (branch_group_count bs)) (blocks_in t k) (groups_in k)
        (sized (branches ns slots c0 s v g bs) (0 + branch_blocks t bs) (1 + branch_group_count bs) (branch_blocks t bs) (suc (branch_group_count bs)) (zero_plus (branch_blocks t bs))
        (one_plus (branch_group_count bs))
        (branches_sizes c0 s v g bs 0 1 (record { more = refl; groups = refl })))
        (lowered_sizes s w (begun j) k))
    lowered_sizes s w n (DeclareStmt at i e k) =
        let r = lowered_sizes (with_into i n.local s) w (taken (Some i) n) k in
        record { more = r.more; groups = r.groups }
    lowered_sizes s w n (AssignStmt at xs e k) =
        let r = lowered_sizes s w n k in
        record { more = r.more; groups = r.groups }
    lowered_sizes s w n (ModifyStmt at xs c k) =
        let r = lowered_sizes s w n k in
        record { more = r.more; groups = r.groups }
    lowered_sizes s w n (CallStmt at xs es k) =
        let r = lowered_sizes s w n k in
        record { more = r.more; groups = r.groups }
    lowered_sizes s w n (WaitStmt at v k) =
        let c0 : Chunk = record (ends w s true [] (ChooseLast n.group)) { groups = (callback ns slots s v n.local n.block ∷ []) ∷ [] } in
        let d = lowered ns slots (with_taken v.into n.local s) w (taken v.into (begun (grouped n))) k in
        sized (joined w.hand c0 d) (0 + suc (blocks_in w.looped.tried k)) (1 + groups_in k) (suc (blocks_in w.looped.tried k)) (suc (groups_in k)) (zero_plus (suc (blocks_in w.looped.tried k)))
        (one_plus (groups_in k))
        (after w.hand c0 d 0 1 (blocks_in w.looped.tried k) (groups_in k) (record { more = refl; groups = refl }) (lowered_sizes (with_taken v.into n.local s) w (taken v.into (begun (grouped n))) k))

    pub branches_sizes : (c : Chunk) (s : Scope) (w : Around) (n : Next) (bs : Branches) (x y : ℕ) → Sizes c x y
        → Sizes (branches ns slots c s w n bs) (x + branch_blocks w.looped.tried bs) (y + branch_group_count bs)
    branches_sizes c s w n NoBranches x y a = sized c x y (x + 0) (y + 0) (sym (plus_zero x)) (sym (plus_zero y)) a
    branches_sizes c s w n (MoreBranches at v b bs) x y a =
        let m = taken v.into (begun n) in
        let d = lowered ns slots (with_taken v.into n.local (Mark ∷ s)) w m b in
        let t = w.looped.tried in
        sized (branches ns slots (joined w.hand c d) s w (past t b m) bs) (x + suc (blocks_in t b) + branch_blocks t bs) (y + groups_in b + branch_group_count bs)
        (x + (suc (blocks_in t b) + branch_blocks t bs)) (y + (groups_in b + branch_group_count bs))
        (nat_assoc x (suc (blocks_in t b)) (branch_blocks t bs)) (nat_assoc y (groups_in b) (branch_group_count bs))
        (branches_sizes (joined w.hand c d) s w (past t b m) bs (x + suc (blocks_in t b)) (y + groups_in b)
        (after w.hand c d x y (blocks_in t b) (groups_in b) a (lowered_sizes (with_taken v.into n.local (Mark ∷ s)) w m b)))

  pub lowered_more : (s : Scope) (w : Around) (n : Next) (b : Body) → length (lowered ns slots s w n b).more ≡ blocks_in w.looped.tried b
  lowered_more s w n b = (lowered_sizes s w n b).more

  pub lowered_groups : (s : Scope) (w : Around) (n : Next) (b : Body) → length (lowered ns slots s w n b).groups ≡ groups_in b
  lowered_groups s w n b = (lowered_sizes s w n b).groups

  pub branches_more : (c : Chunk) (s : Scope) (w : Around) (n : Next) (bs : Branches) → length (branches ns slots c s w n bs).more ≡ length c.more + branch_blocks w.looped.tried bs
  branches_more c s w n bs = (branches_sizes c s w n bs (length c.more) (length c.groups) (record { more = refl; groups = refl })).more

  pub branches_groups : (c : Chunk) (s : Scope) (w : Around) (n : Next) (bs : Branches) → length (branches ns slots c s w n bs).groups ≡ length c.groups + branch_group_count bs
  branches_groups c s w n bs = (branches_sizes c s w n bs (length c.more) (length c.groups) (record { more = refl; groups = refl })).groups
