-- Each group of a lowered class is named by exactly one `choose`.
use Rattle.std.proofs.Common.{◌≡◌, ℕ, suc, ◌+◌, ◌<◌, ◌≤◌, Bool, true, false, nat_eq, nat_lt, List, [], ◌∷◌, ◌++◌, length, if◌then◌else◌, refl, ap, sym, subst, ◌∙◌, arith}
use Rattle.std.specs.declared.option.Option.{Option}
use Rattle.std.specs.declared.option.Option.TheVariants.{None, Some}
use Rattle.std.specs.Option.{option_map}
use Rattle.flow_tree.specs.Tree.{ExprTree}
use Rattle.flow_tree.specs.Body.{Body, End, BlockStmt, IfStmt, IfElseStmt, WhileStmt, ForStmt, LoopStmt, BreakStmt, ContinueStmt, ReturnStmt, ThrowStmt, TryStmt, ChooseStmt, DeclareStmt, AssignStmt, ModifyStmt, CallStmt, WaitStmt, Branches, NoBranches, MoreBranches}
use Rattle.flow_tree.specs.Decls.{SlotTree, RoutineTree}
use Rattle.flow_ast.specs.Leaving.{has_statement}
use Rattle.flow_class.specs.Classes.{InstrTree, LastTree, GotoLast, PassLast, TestLast, ChooseLast, ReturnLast, ThrowLast, BlockTree, CallbackTree}
use Rattle.flow_class.specs.Scopes.{Scope, Mark, Var, scope, over}
use Rattle.flow_valid.specs.Validity.{chooses, times_chosen, each_once, groups_chosen}
use Rattle.flow_layout.specs.Laying.{layout_of}
use Rattle.flow_meaning.specs.Evaluating.{Names}
use Rattle.flow_split.specs.Around.{Exit, Text, Scoped, Part, Hand, Around, whole, inner, pass, guarded, handling}
use Rattle.flow_split.specs.Counts.{Next, begun, taken, grouped, past, past_branches, groups_in, branch_group_count}
use Rattle.flow_split.specs.Lowered.{Chunk, blocks_of, joined, ends, before_rest, dropping, exits, exited, finished, thrown, with_into, with_taken, later, tested, callback, callbacks, test_before, lowered, branches, lowered_class, close_of}
use Rattle.flow_split.proofs.Lengths.{lowered_groups}
use Rattle.flow_split.proofs.Lengths.{none_behind}
use Rattle.flow_lowering_laws.proofs.Actors.Further.{exited_group}
use Rattle.flow_validity_laws.proofs.Naming.{both}

-- how often a group is named in a chunk
abbrev once : Bool → ℕ
once b = if b then 1 else 0

abbrev pub named_in : Chunk → ℕ → ℕ
named_in ch g = once (chooses g ch.last) + times_chosen g ch.more

times_append : (g : ℕ) (xs ys : List BlockTree) → times_chosen g (xs ++ ys) ≡ times_chosen g xs + times_chosen g ys
times_append g [] ys = omega arith
times_append g (x ∷ xs) ys = omega (arith, times_append g xs ys)

-- the groups from n up to k are named once, and no others
pub record Once (n k : ℕ) (f : ℕ → ℕ) : Type 0 where
  pub up : n ≤ k
  pub before : (g : ℕ) → g < n → f g ≡ 0
  pub within : (g : ℕ) → n ≤ g → g < k → f g ≡ 1
  pub behind : (g : ℕ) → k ≤ g → f g ≡ 0

once_to : (n k j : ℕ) (f : ℕ → ℕ) → k ≡ j → Once n k f → Once n j f
once_to n k j f e o = subst (λ z. Once n z f) e o

none_named : (n : ℕ) (f : ℕ → ℕ) → ((g : ℕ) → f g ≡ 0) → Once n n f
none_named n f h = record { up = omega arith; before = λ g lt. h g; within = λ g le lt. absurd (omega arith); behind = λ g le. h g }

is_less : (a b : ℕ) → nat_lt a b ≡ true → a < b
is_less a b e = grind (arith, e)

is_not : (a b : ℕ) → nat_lt a b ≡ false → b ≤ a
is_not a b e = grind (arith, e)

-- one after another
split : (n k j : ℕ) (f h : ℕ → ℕ) → Once n k f → Once k j h → (g : ℕ) → n ≤ g → g < j → f g + h g ≡ 1
split n k j f h a b g le lt = by_cases (nat_lt g k) refl
  where
    by_cases : (t : Bool) → nat_lt g k ≡ t → f g + h g ≡ 1
    by_cases true e = omega (arith, a.within g le (is_less g k e), b.before g (is_less g k e))
    by_cases false e = omega (arith, a.behind g (is_not g k e), b.within g (is_not g k e) lt)

sum_once : (n k j : ℕ) (f h : ℕ → ℕ) → Once n k f → Once k j h → Once n j (λ g. f g + h g)
sum_once n k j f h a b = record {
  up = omega (arith, a.up, b.up);
  before = λ g lt. omega (arith, a.before g lt, b.before g (omega (arith, a.up, lt)));
  within = λ g le lt. split n k j f h a b g le lt;
  behind = λ g le. omega (arith, a.behind g (omega (arith, b.up, le)), b.behind g le);
}

joined_count : (h : Option Hand) (a b : Chunk) (g : ℕ) → named_in (joined h a b) g ≡ named_in a g + named_in b g
joined_count h a b g = omega (arith, times_append g a.more (blocks_of h b))

same_once : (n k : ℕ) (f h : ℕ → ℕ) → ((g : ℕ) → h g ≡ f g) → Once n k f → Once n k h
same_once n k f h e o = record {
  up = o.up;
  before = λ g lt. e g ∙ o.before g lt;
  within = λ g le lt. e g ∙ o.within g le lt;
  behind = λ g le. e g ∙ o.behind g le;
}

joined_once : (n k j : ℕ) (h : Option Hand) (a b : Chunk) → Once n k (named_in a) → Once k j (named_in b) → Once n j (named_in (joined h a b))
joined_once n k j h a b f g = same_once n j (λ i. named_in a i + named_in b i) (named_in (joined h a b)) (joined_count h a b) (sum_once n k j (named_in a) (named_in b) f g)

-- a last instruction that names no group
abbrev pub Quiet : LastTree → Type 0
Quiet l = (g : ℕ) → chooses g l ≡ false

quiet_ends : (n : ℕ) (w : Around) (s : Scope) (a : Bool) (is : List InstrTree) (l : LastTree) → Quiet l → Once n n (named_in (ends w s a is l))
quiet_ends n w s a is l q = none_named n (named_in (ends w s a is l)) (λ g. ap (λ b. once b + 0) (q g))

quiet_exits : (n : ℕ) (t : Bool) (w : Around) (s : Scope) (m : Next) (l : LastTree) → Quiet l → Once n n (named_in (exits t w s m l))
quiet_exits n false w s m l q = none_named n (named_in (exits false w s m l)) (λ g. ap (λ b. once b + 0) (q g))
quiet_exits n true w s m l q = none_named n (named_in (exits true w s m l)) (λ g. ap (λ b. 0 + (once b + 0)) (q g))

-- a choose
chosen_once : (n : ℕ) (f : ℕ → ℕ) → ((g : ℕ) → f g ≡ once (nat_eq g n) + 0) → Once n (suc n) f
chosen_once n f e = record {
  up = omega arith;
  before = λ g lt. e g ∙ ap (λ b. once b + 0) (other g n lt);
  within = λ g le lt. e g ∙ ap (λ b. once b + 0) (this g n (omega arith));
  behind = λ g le. e g ∙ ap (λ b. once b + 0) (later_one g n le);
}
  where
    other : (g n : ℕ) → g < n → nat_eq g n ≡ false
    other g n lt = grind arith

    this : (g n : ℕ) → g ≡ n → nat_eq g n ≡ true
    this g n e = grind (arith, e)

    later_one : (g n : ℕ) → suc n ≤ g → nat_eq g n ≡ false
    later_one g n lt = grind arith

-- what is around a body names no group
abbrev pub QuietExit : Exit → Type 0
QuietExit (Text close) = Unit {0}
QuietExit (Scoped l) = Quiet l
QuietExit (Part l) = Quiet l

pub record IsQuiet (w : Around) : Type 0 where
  pub exit : QuietExit w.exit
  pub again : Quiet w.looped.again

quiet_finished : (n : ℕ) (w : Around) (s : Scope) (x : Exit) → QuietExit x → Once n n (named_in (finished w s x))
quiet_finished n w s (Text None) q = none_named n (named_in (finished w s (Text None))) (λ g. refl)
quiet_finished n w s (Text (Some close)) q = none_named n (named_in (finished w s (Text (Some close)))) (λ g. refl)
quiet_finished n w s (Scoped l) q = none_named n (named_in (finished w s (Scoped l))) (λ g. ap (λ b. once b + 0) (q g))
quiet_finished n w s (Part l) q = none_named n (named_in (finished w s (Part l))) (λ g. ap (λ b. once b + 0) (q g))

quiet_inner : (w : Around) (x : Exit) → QuietExit x → IsQuiet w → IsQuiet (inner w x)
quiet_inner w x q h = record { exit = q; again = h.again }

rest_once : (b : Bool) (n k : ℕ) (h : Option Hand) (a d : Chunk) → Once n n (named_in a) → (b ≡ true → Once n k (named_in d)) → (b ≡ false → k ≡ n)
    → Once n k (named_in (if b then joined h a d else a))
rest_once true n k h a d f g e = joined_once n n k h a d f (g refl)
rest_once false n k h a d f g e = once_to n n k (named_in a) (sym (e refl)) f

test_group : (e : Option ExprTree) (h : Next) → (tested e h).group ≡ h.group
test_group None h = refl
test_group (Some e) h = refl

module _ (ns : Names) (slots : List SlotTree) where
  test_once : (n k : ℕ) (v : Around) (s : Scope) (e : Option ExprTree) (m o : ℕ) (a : Chunk) → Once n k (named_in a) → Once n k (named_in (test_before ns slots v s e m o a))
  test_once n k v s None m o a h = h
  test_once n k v s (Some e) m o a h = joined_once n k k v.hand a (ends v s true [] (TestLast (over slots s e) m o)) h (quiet_ends k v s true [] (TestLast (over slots s e) m o) (λ g. refl))

  rest_named : (k : Body) (n : ℕ) (h : Option Hand) (a d : Chunk) → Once n n (named_in a) → Once n (n + groups_in k) (named_in d) → Once n (n + groups_in k) (named_in (before_rest h a k d))
  rest_named k n h a d f g = rest_once (has_statement k) n (n + groups_in k) h a d f (λ e. g) (λ e. omega (arith, none_behind k e))

  -- in a body the groups from the next one on
  mutual
    pub lowered_once : (s : Scope) (w : Around) (n : Next) (b : Body) → IsQuiet w → Once n.group (n.group + groups_in b) (named_in (lowered ns slots s w n b))
    lowered_once s w n End q = once_to n.group n.group (n.group + 0) (named_in (finished w s w.exit)) (omega arith) (quiet_finished n.group w s w.exit q.exit)
    lowered_once s w n (BlockStmt at b k) q =
        let m = past w.looped.tried b n in
        let v = inner w (Scoped (GotoLast m.block)) in
        let a = lowered ns slots (Mark ∷ s) v n b in
        let d = lowered ns slots s w (begun m) k in
        once_to n.group (m.group + groups_in k) (n.group + (groups_in b + groups_in k)) (named_in (joined w.hand a d)) (omega arith)
        (joined_once n.group m.group (m.group + groups_in k) w.hand a d (lowered_once (Mark ∷ s) v n b (quiet_inner w (Scoped (GotoLast m.block)) (λ g. refl) q)) (lowered_once s w (begun m) k q))
    lowered_once s w n (IfStmt at e b k) q =
        let m = past w.looped.tried b (begun n) in
        let v = inner w (Scoped (GotoLast m.block)) in
        let c0 = ends w s true [] (TestLast (over slots s e) n.block m.block) in
        let a = lowered ns slots (Mark ∷ s) v (begun n) b in
        let d = lowered ns slots s w (begun m) k in
        let h = joined_once n.group n.group m.group w.hand c0 a (quiet_ends n.group w s true [] (TestLast (over slots s e) n.block m.block) (λ g. refl))
        (lowered_once (Mark ∷ s) v (begun n) b (quiet_inner w (Scoped (GotoLast m.block)) (λ g. refl) q)) in
        once_to n.group (m.group + groups_in k) (n.group + (groups_in b + groups_in k)) (named_in (joined w.hand (joined w.hand c0 a) d)) (omega arith)
        (joined_once n.group m.group (m.group + groups_in k) w.hand (joined w.hand c0 a) d h (lowered_once s w (begun m) k q))
    lowered_once s w n (IfElseStmt at e b o k) q =
        let m = past w.looped.tried b (begun n) in
        let j = past w.looped.tried o (begun m) in
        let v = inner w (Scoped (GotoLast j.block)) in
        let qv = quiet_inner w (Scoped (GotoLast j.block)) (λ g. refl) q in
        let c0 = ends w s true [] (TestLast (over slots s e) n.block m.block) in
        let a = lowered ns slots (Mark ∷ s) v (begun n) b in
        let f = lowered ns slots (Mark ∷ s) v (begun m) o in
        let d = lowered ns slots s w (begun j) k in
        let h = joined_once n.group n.group m.group w.hand c0 a (quiet_ends n.group w s true [] (TestLast (over slots s e) n.block m.block) (λ g. refl)) (lowered_once (Mark ∷ s) v (begun n) b qv) in
        let i = joined_once n.group m.group j.group w.hand (joined w.hand c0 a) f h (lowered_once (Mark ∷ s) v (begun m) o qv) in
        once_to n.group (j.group + groups_in k) (n.group + (groups_in b + groups_in o + groups_in k)) (named_in (joined w.hand (joined w.hand (joined w.hand c0 a) f) d)) (omega arith)
        (joined_once n.group j.group (j.group + groups_in k) w.hand (joined w.hand (joined w.hand c0 a) f) d i (lowered_once s w (begun j) k q))
    lowered_once s w n (WhileStmt at e b k) q =
        let h = begun n in
        let m = past false b (begun h) in
        let v = pass w 1 (PassLast n.block) m.block in
        let c0 = ends w s false [] (PassLast n.block) in
        let c1 = ends w s true [] (TestLast (over slots s e) h.block m.block) in
        let a = lowered ns slots (Mark ∷ s) v (begun h) b in
        let d = lowered ns slots s w (begun m) k in
        let x = joined_once n.group n.group n.group w.hand c0 c1 (quiet_ends n.group w s false [] (PassLast n.block) (λ g. refl))
        (quiet_ends n.group w s true [] (TestLast (over slots s e) h.block m.block) (λ g. refl)) in
        let y = joined_once n.group n.group m.group w.hand (joined w.hand c0 c1) a x (lowered_once (Mark ∷ s) v (begun h) b (record { exit = λ g. refl; again = λ g. refl })) in
        once_to n.group (m.group + groups_in k) (n.group + (groups_in b + groups_in k)) (named_in (joined w.hand (joined w.hand (joined w.hand c0 c1) a) d)) (omega arith)
        (joined_once n.group m.group (m.group + groups_in k) w.hand (joined w.hand (joined w.hand c0 c1) a) d y (lowered_once s w (begun m) k q))
    lowered_once s w n (ForStmt at i e p b k) q =
        let t = w.looped.tried in
        let h = past t i n in
        let g = tested e h in
        let m = past false b (begun g) in
        let o = past t p (begun m) in
        let r = later i n.local (Mark ∷ s) in
        let v = inner w (Part (PassLast h.block)) in
        let qv = quiet_inner w (Part (PassLast h.block)) (λ g. refl) q in
        let c0 = lowered ns slots (Mark ∷ s) v n i in
        let c1 = test_before ns slots v r e g.block o.block c0 in
        let f = pass w 2 (GotoLast m.block) o.block in
        let c2 = lowered ns slots (Mark ∷ r) f (begun g) b in
        let c3 = lowered ns slots r v (begun m) p in
        let c4 = lowered ns slots s w (begun o) k in
        let ds = scope (later p m.local r) in
        let x1 = once_to n.group h.group g.group (named_in c1) (sym (test_group e h)) (test_once n.group h.group v r e g.block o.block c0 (lowered_once (Mark ∷ s) v n i qv)) in
        let x2 = joined_once n.group g.group m.group w.hand c1 c2 x1 (lowered_once (Mark ∷ r) f (begun g) b (record { exit = λ g. refl; again = λ g. refl })) in
        let x3 = joined_once n.group m.group o.group w.hand (joined w.hand c1 c2) c3 x2 (lowered_once r v (begun m) p qv) in
        let x4 = joined_once n.group o.group (o.group + groups_in k) w.hand (joined w.hand (joined w.hand c1 c2) c3) (dropping ds c4) x3 (lowered_once s w (begun o) k q) in
        once_to n.group (o.group + groups_in k) (n.group + (groups_in i + groups_in p + groups_in b + groups_in k)) (named_in (joined w.hand (joined w.hand (joined w.hand c1 c2) c3) (dropping ds c4)))
        (omega (arith, test_group e h)) x4
    lowered_once s w n (LoopStmt at b k) q =
        let m = past false b (begun n) in
        let v = pass w 1 (PassLast n.block) m.block in
        let c0 = ends w s false [] (PassLast n.block) in
        let a = lowered ns slots (Mark ∷ s) v (begun n) b in
        let d = lowered ns slots s w (begun m) k in
        let y = joined_once n.group n.group m.group w.hand c0 a (quiet_ends n.group w s false [] (PassLast n.block) (λ g. refl))
        (lowered_once (Mark ∷ s) v (begun n) b (record { exit = λ g. refl; again = λ g. refl })) in
        once_to n.group (m.group + groups_in k) (n.group + (groups_in b + groups_in k)) (named_in (joined w.hand (joined w.hand c0 a) d)) (omega arith)
        (joined_once n.group m.group (m.group + groups_in k) w.hand (joined w.hand c0 a) d y (lowered_once s w (begun m) k q))
    lowered_once s w n (BreakStmt at k) q =
        let m = exited w.looped.tried n in
        let d = lowered ns slots s w (begun m) k in
        rest_named k n.group w.hand (exits w.looped.tried w s n (GotoLast w.looped.out)) d (quiet_exits n.group w.looped.tried w s n (GotoLast w.looped.out) (λ g. refl))
        (subst (λ z. Once z (z + groups_in k) (named_in d)) (exited_group w.looped.tried n) (lowered_once s w (begun m) k q))
    lowered_once s w n (ContinueStmt at k) q =
        let m = exited w.looped.tried n in
        let d = lowered ns slots s w (begun m) k in
        rest_named k n.group w.hand (exits w.looped.tried w s n w.looped.again) d (quiet_exits n.group w.looped.tried w s n w.looped.again q.again)
        (subst (λ z. Once z (z + groups_in k) (named_in d)) (exited_group w.looped.tried n) (lowered_once s w (begun m) k q))
    lowered_once s w n (ReturnStmt at e k) q =
        rest_named k n.group w.hand (ends w s true [] (ReturnLast (option_map (over slots s) e))) (lowered ns slots s w (begun n) k) (quiet_ends n.group w s true [] (ReturnLast (option_map (over slots s) e)) (λ g. refl))
        (lowered_once s w (begun n) k q)
    lowered_once s w n (ThrowStmt at e k) q =
        rest_named k n.group w.hand (ends w s true [] (ThrowLast (thrown ns slots s at e w.caught))) (lowered ns slots s w (begun n) k)
        (quiet_ends n.group w s true [] (ThrowLast (thrown ns slots s at e w.caught)) (λ g. refl))
        (lowered_once s w (begun n) k q)
    lowered_once s w n (TryStmt at b p x o k) q =
        let t = w.looped.tried in
        let m = past true b (begun n) in
        let g = begun (record m { local = suc m.local }) in
        let j = past t o g in
        let h : Hand = record { block = m.block; error = m.local } in
        let exit = Scoped (GotoLast j.block) in
        let v = guarded w exit h in
        let f = handling w exit x.name in
        let c0 = ends w s false [] (GotoLast n.block) in
        let a = lowered ns slots (Mark ∷ s) v (begun n) b in
        let u = lowered ns slots (Var x.name m.local ∷ Mark ∷ s) f g o in
        let d = lowered ns slots s w (begun j) k in
        let x1 = joined_once n.group n.group m.group (Some h) c0 a (quiet_ends n.group w s false [] (GotoLast n.block) (λ g. refl))
        (lowered_once (Mark ∷ s) v (begun n) b (record { exit = λ g. refl; again = q.again })) in
        let x2 = joined_once n.group m.group j.group w.hand (joined (Some h) c0 a) u x1 (lowered_once (Var x.name m.local ∷ Mark ∷ s) f g o (record { exit = λ g. refl; again = q.again })) in
        once_to n.group (j.group + groups_in k) (n.group + (groups_in b + groups_in o + groups_in k)) (named_in (joined w.hand (joined w.hand (joined (Some h) c0 a) u) d)) (omega arith)
        (joined_once n.group j.group (j.group + groups_in k) w.hand (joined w.hand (joined (Some h) c0 a) u) d x2 (lowered_once s w (begun j) k q))
    lowered_once s w n (ChooseStmt at bs k) q =
        let t = w.looped.tried in
        let g = grouped n in
        let j = past_branches t bs g in
        let v = inner w (Scoped (GotoLast j.block)) in
        let c0 : Chunk = record (ends w s true [] (ChooseLast n.group)) { groups = callbacks ns slots s t g bs ∷ [] } in
        let a = branches ns slots c0 s v g bs in
        let d = lowered ns slots s w (begun j) k in
        let x1 = branches_once c0 n.group s v g bs (quiet_inner w (Scoped (GotoLast j.block)) (λ g. refl) q) (chosen_once n.group (named_in c0) (λ g. refl)) in
        once_to n.group (j.group + groups_in k) (n.group + suc (branch_group_count bs + groups_in k)) (named_in (joined w.hand a d)) (omega arith)
        (joined_once n.group j.group (j.group + groups_in k) w.hand a d x1 (lowered_once s w (begun j) k q))
    lowered_once s w n (DeclareStmt at i e k) q = lowered_once (with_into i n.local s) w (taken (Some i) n) k q
    lowered_once s w n (AssignStmt at xs e k) q = lowered_once s w n k q
    lowered_once s w n (ModifyStmt at xs d k) q = lowered_once s w n k q
    lowered_once s w n (CallStmt at xs es k) q = lowered_once s w n k q
    lowered_once s w n (WaitStmt at v k) q =
        let c0 : Chunk = record (ends w s true [] (ChooseLast n.group)) { groups = (callback ns slots s v n.local n.block ∷ []) ∷ [] } in
        let z = taken v.into (begun (grouped n)) in
        let d = lowered ns slots (with_taken v.into n.local s) w z k in
        once_to n.group (suc n.group + groups_in k) (n.group + suc (groups_in k)) (named_in (joined w.hand c0 d)) (omega arith)
        (joined_once n.group (suc n.group) (suc n.group + groups_in k) w.hand c0 d (chosen_once n.group (named_in c0) (λ g. refl)) (lowered_once (with_taken v.into n.local s) w z k q))

    branches_once : (a : Chunk) (first : ℕ) (s : Scope) (w : Around) (n : Next) (bs : Branches) → IsQuiet w → Once first n.group (named_in a)
        → Once first (n.group + branch_group_count bs) (named_in (branches ns slots a s w n bs))
    branches_once a first s w n NoBranches q h = once_to first n.group (n.group + 0) (named_in a) (omega arith) h
    branches_once a first s w n (MoreBranches at v b bs) q h =
        let m = taken v.into (begun n) in
        let j = past w.looped.tried b m in
        let d = lowered ns slots (with_taken v.into n.local (Mark ∷ s)) w m b in
        once_to first (j.group + branch_group_count bs) (n.group + (groups_in b + branch_group_count bs)) (named_in (branches ns slots (joined w.hand a d) s w j bs)) (omega arith)
        (branches_once (joined w.hand a d) first s w j bs q (joined_once first n.group j.group w.hand a d h (lowered_once (with_taken v.into n.local (Mark ∷ s)) w m b q)))

-- each group of a class
each : (bs : List BlockTree) (n k : ℕ) (gs : List (List CallbackTree)) → n + length gs ≡ k → ((g : ℕ) → n ≤ g → g < k → times_chosen g bs ≡ 1) → each_once bs n gs ≡ true
each bs n k [] e h = refl
each bs n k (ks ∷ gs) e h = both (nat_eq (times_chosen n bs) 1) _ (ap (λ z. nat_eq z 1) (h n (omega arith) (omega (arith, e))))
    (each bs (suc n) k gs (omega (arith, e)) (λ g le lt. h g (omega arith) lt))

pub chosen_well : (ns : Names) (a : RoutineTree) → groups_chosen (lowered_class ns (layout_of a) a) ≡ true
chosen_well ns a =
    let c = lowered_class ns (layout_of a) a in
    let n : Next = record { block = 1; local = 0; group = 1 } in
    let o = lowered_once ns c.slots [] (whole (close_of a)) n a.body (record { exit = tt; again = λ g. refl }) in
    let gs = lowered_groups ns c.slots [] (whole (close_of a)) n a.body in
    each c.blocks 1 (1 + groups_in a.body) c.groups (omega (arith, gs)) (λ g le lt. o.within g le lt)
