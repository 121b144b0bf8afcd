-- The more waits are looked for, the more uses are stale: points, and the uses at them.
use Rattle.std.proofs.Common.{◌≡◌, ℕ, zero, suc, ◌-◌, ◌<◌, ◌≤◌, Bool, true, false, ◌&&◌, ◌||◌, List, [], ◌∷◌, ◌++◌, length, refl, sym, ap, subst, ◌∙◌, arith}
use Rattle.std.specs.Prelude.{nat_le, nat_lt, slice_get, if◌then◌else◌}
use Rattle.std.specs.Str.{bytes_eq}
use Rattle.std.specs.declared.option.Option.{Option}
use Rattle.std.specs.declared.option.Option.TheVariants.{None, Some}
use Rattle.std.proofs.lemmas.Bool.{false≢true, true≢false, ltb-true, lt-ltb}
use Rattle.flow_base.specs.declared.place.Place.{Place}
use Rattle.flow_tree.specs.declared.ty.Ident.{Ident}
use Rattle.flow_tree.specs.Tree.{ExprTree, ExprTrees}
use Rattle.flow_tree.specs.Body.{IntoTree, ChangeTree, PlusChange, MinusChange, UpChange, DownChange, Body, End, BlockStmt, IfStmt, IfElseStmt, WhileStmt, ForStmt, LoopStmt, BreakStmt, ContinueStmt, ReturnStmt, ThrowStmt, TryStmt, ChooseStmt, DeclareStmt, AssignStmt, ModifyStmt, CallStmt, WaitStmt, Branches, NoBranches, MoreBranches}
use Rattle.flow_tree.proofs.Folds.{names_agree, all_names_agree}
use Rattle.flow_ast.specs.Slots.{body_groups}
use Rattle.flow_staterule.specs.declared.scope.Point.{Point}
use Rattle.flow_staterule.specs.declared.scope.Use.{Use}
use Rattle.flow_staterule.specs.declared.uses.Caught.{Caught}
use Rattle.flow_staterule.specs.declared.ways.Reached.{Reached}
use Rattle.flow_staterule.specs.Ways.{ways, never, with_step, head, round, waited_at}
use Rattle.flow_staterule.specs.Uses.{Variable, behind, is_stale, use_of, mention, named, expr_uses, exprs_uses, maybe_uses, target_uses, base_uses, change_uses, declaring, declared, caught_as, with_into, left, beyond, thrown_uses, uses, branch_uses}
use Rattle.flow_staterule.specs.StateRule.{is_stale_use}
use Rattle.flow_staterule.proofs.Growing.{Grows, same_grows, ways_grow, waited_grows, with_step_grow, head_grows, round_grows, less}

-- a point with at least as many stale variables, of d in force
pub record Staler (d : ℕ) (p q : Point) : Type 0 where
  pub from : p.from ≡ q.from
  pub stale : p.stale ≤ q.stale
  pub within : q.stale ≤ d

one_more : (d : ℕ) (p q : Point) → Staler d p q → Staler (suc d) p q
one_more d p q s = record { from = s.from; stale = s.stale; within = let w = s.within in omega (arith, w) }

behind_cases : (d f a b : ℕ) (x y u v : Bool) → a ≤ b → b ≤ d → x || y ≡ u || v → y && v ≡ y
    → Staler d (behind d (record { from = f; stale = a }) (record { fresh = x; waited = y })) (behind d (record { from = f; stale = b }) (record { fresh = u; waited = v }))
behind_cases d f a b x true u true ab bd e g = record { from = refl; stale = omega arith; within = omega arith }
behind_cases d f a b x true u false ab bd e g = absurd (false≢true g)
behind_cases d f a b true false u true ab bd e g = record { from = refl; stale = omega (arith, ab, bd); within = omega arith }
behind_cases d f a b true false true false ab bd e g = record { from = refl; stale = ab; within = bd }
behind_cases d f a b true false false false ab bd e g = absurd (true≢false e)
behind_cases d f a b false false true true ab bd e g = absurd (false≢true e)
behind_cases d f a b false false false true ab bd e g = absurd (false≢true e)
behind_cases d f a b false false true false ab bd e g = absurd (false≢true e)
behind_cases d f a b false false false false ab bd e g = record { from = refl; stale = omega arith; within = omega arith }

behind_staler : (d : ℕ) (p q : Point) (r s : Reached) → Staler d p q → Grows r s → Staler d (behind d p r) (behind d q s)
behind_staler d p q r s st g =
    subst (λ x. Staler d (behind d p r) (behind d (record q { from = x }) s)) st.from
    (behind_cases d p.from p.stale q.stale r.fresh r.waited s.fresh s.waited st.stale st.within g.reached g.waited)

-- the same uses, of which at least as many are stale
abbrev pub MoreStale : List Use → List Use → Type 0
MoreStale [] [] = Unit {0}
MoreStale [] (v ∷ vs) = ⊥
MoreStale (u ∷ us) [] = ⊥
MoreStale (u ∷ us) (v ∷ vs) = (u.stale ≡ true → v.stale ≡ true) × MoreStale us vs

then_more : (us vs ws xs : List Use) → MoreStale us vs → MoreStale ws xs → MoreStale (us ++ ws) (vs ++ xs)
then_more [] [] ws xs m n = n
then_more [] (v ∷ vs) ws xs m n = absurd m
then_more (u ∷ us) [] ws xs m n = absurd m
then_more (u ∷ us) (v ∷ vs) ws xs m n = (m.0, then_more us vs ws xs m.1 n)

pub stale_still : (i : ℕ) (us vs : List Use) → MoreStale us vs → is_stale_use (slice_get us i) ≡ true → is_stale_use (slice_get vs i) ≡ true
stale_still i [] [] m e = e
stale_still i [] (v ∷ vs) m e = absurd m
stale_still i (u ∷ us) [] m e = absurd m
stale_still zero (u ∷ us) (v ∷ vs) m e = m.0 e
stale_still (suc i) (u ∷ us) (v ∷ vs) m e = stale_still i us vs m.1 e

below : (n a b : ℕ) → a ≤ b → nat_lt n a ≡ true → nat_lt n b ≡ true
below n a b ab e = let l : n < a = ltb-true n a e in let m : n < b = omega (arith, l, ab) in lt-ltb n b m

both_true : (x y z : Bool) → (y ≡ true → z ≡ true) → x && y ≡ true → x && z ≡ true
both_true true y z f e = f e
both_true false y z f e = absurd (false≢true e)

still_stale : (d : ℕ) (p q : Point) (n : ℕ) → Staler d p q → is_stale p n ≡ true → is_stale q n ≡ true
still_stale d p q n s e =
    ap (λ x. nat_le x n && nat_lt n q.stale) (sym s.from) ∙ both_true (nat_le p.from n) (nat_lt n p.stale) (nat_lt n q.stale) (below n p.stale q.stale s.stale) e

use_more : (d : ℕ) (p q : Point) (at : Place) (local : Option Place) (n : ℕ) → Staler d p q → MoreStale (use_of at p local n) (use_of at q local n)
use_more d p q at None n s = tt
use_more d p q at (Some named) n s = (still_stale d p q n s, tt)

pick_more : (b : Bool) (us vs ws xs : List Use) → MoreStale us vs → MoreStale ws xs → MoreStale (if b then us else ws) (if b then vs else xs)
pick_more true us vs ws xs m n = m
pick_more false us vs ws xs m n = n

mention_more : (d : ℕ) (vs : List Variable) (p q : Point) (at : Place) (x : List ℕ) → Staler d p q → MoreStale (mention vs p at x) (mention vs q at x)
mention_more d [] p q at x s = tt
mention_more d (v ∷ vs) p q at x s =
    pick_more (bytes_eq v.name x) (use_of at p v.local (length vs)) (use_of at q v.local (length vs)) (mention vs p at x) (mention vs q at x)
    (use_more d p q at v.local (length vs) s) (mention_more d vs p q at x s)

expr_more : (d : ℕ) (vs : List Variable) (p q : Point) (e : ExprTree) → Staler d p q → MoreStale (expr_uses vs p e) (expr_uses vs q e)
expr_more d vs p q e s = names_agree MoreStale (named vs p) (named vs q) tt (λ x. mention_more d vs p q x.at x.name s) (λ us ws vs xs h k. then_more us vs ws xs h k) e

exprs_more : (d : ℕ) (vs : List Variable) (p q : Point) (es : ExprTrees) → Staler d p q → MoreStale (exprs_uses vs p es) (exprs_uses vs q es)
exprs_more d vs p q es s = all_names_agree MoreStale (named vs p) (named vs q) tt (λ x. mention_more d vs p q x.at x.name s) (λ us ws vs xs h k. then_more us vs ws xs h k) es

maybe_more : (d : ℕ) (vs : List Variable) (p q : Point) (e : Option ExprTree) → Staler d p q → MoreStale (maybe_uses vs p e) (maybe_uses vs q e)
maybe_more d vs p q None s = tt
maybe_more d vs p q (Some e) s = expr_more d vs p q e s

target_more : (d : ℕ) (vs : List Variable) (p q : Point) (xs : List Ident) → Staler d p q → MoreStale (target_uses vs p xs) (target_uses vs q xs)
target_more d vs p q [] s = tt
target_more d vs p q (x ∷ xs) s = mention_more d vs p q x.at x.name s

base_more : (d : ℕ) (vs : List Variable) (p q : Point) (xs : List Ident) → Staler d p q → MoreStale (base_uses vs p xs) (base_uses vs q xs)
base_more d vs p q [] s = tt
base_more d vs p q (x ∷ []) s = tt
base_more d vs p q (x ∷ (y ∷ ys)) s = mention_more d vs p q x.at x.name s

change_more : (d : ℕ) (vs : List Variable) (p q : Point) (c : ChangeTree) → Staler d p q → MoreStale (change_uses vs p c) (change_uses vs q c)
change_more d vs p q (PlusChange e) s = expr_more d vs p q e s
change_more d vs p q (MinusChange e) s = expr_more d vs p q e s
change_more d vs p q UpChange s = tt
change_more d vs p q DownChange s = tt

thrown_more : (d : ℕ) (vs : List Variable) (p q : Point) (c : Option Caught) (at : Place) (e : Option ExprTree) → Staler d p q → MoreStale (thrown_uses p c at e vs) (thrown_uses q c at e vs)
thrown_more d vs p q c at (Some e) s = expr_more d vs p q e s
thrown_more d vs p q None at None s = tt
thrown_more d vs p q (Some c) at None s = use_more d p q at (Some c.declared) c.number s

wider : {d e : ℕ} (p q : Point) → d ≤ e → Staler d p q → Staler e p q
wider p q de s = record { from = s.from; stale = s.stale; within = let w = s.within in omega (arith, w, de) }

into_wider : (vs : List Variable) (i : Option IntoTree) → length vs ≤ length (with_into vs i)
into_wider vs None = omega arith
into_wider vs (Some i) = omega arith

declaring_wider : (vs : List Variable) (b : Body) → length vs ≤ length (declaring vs b)
declaring_wider vs (WaitStmt at w k) = into_wider vs w.into
declaring_wider vs _ = omega arith

beyond_staler : (n m : ℕ) (vs : List Variable) (p q : Point) (b : Body) → n ≤ m → Staler (length vs) p q → Staler (length vs) (beyond n vs p b) (beyond m vs q b)
beyond_staler n m vs p q b le s = behind_staler (length vs) p q (ways n b).ends (ways m b).ends s (ways_grow n m b le).ends

left_less : {n m : ℕ} (b : Body) → n ≤ m → left n b ≤ left m b
left_less b le = less (length (body_groups b)) le

head_staler : (n m : ℕ) (d : ℕ) (p q : Point) (b : Body) → n ≤ m → Staler d p q → Staler d (behind d p (head (ways n b))) (behind d q (head (ways m b)))
head_staler n m d p q b le s = behind_staler d p q (head (ways n b)) (head (ways m b)) s (head_grows (ways n b) (ways m b) (ways_grow n m b le))

never_staler : (d : ℕ) (p q : Point) → Staler d p q → Staler d (behind d p never) (behind d q never)
never_staler d p q s = behind_staler d p q never never s (same_grows never)

-- the rest of a body behind its first statement
mutual
  pub uses_more : (n m : ℕ) (vs : List Variable) (p q : Point) (c : Option Caught) (b : Body) → n ≤ m → Staler (length vs) p q → MoreStale (uses n vs p c b) (uses m vs q c b)
  uses_more n m vs p q c End le s = tt
  uses_more n m vs p q c (BlockStmt at b k) le s =
      let f = BlockStmt at b End in
      then_more _ _ _ _ (uses_more n m vs p q c b le s) (uses_more (left n f) (left m f) vs (beyond n vs p f) (beyond m vs q f) c k (left_less f le) (beyond_staler n m vs p q f le s))
  uses_more n m vs p q c (IfStmt at e b k) le s =
      let f = IfStmt at e b End in
      then_more _ _ _ _ (then_more _ _ _ _ (expr_more (length vs) vs p q e s) (uses_more n m vs p q c b le s))
      (uses_more (left n f) (left m f) vs (beyond n vs p f) (beyond m vs q f) c k (left_less f le) (beyond_staler n m vs p q f le s))
  uses_more n m vs p q c (IfElseStmt at e b d k) le s =
      let f = IfElseStmt at e b d End in
      then_more _ _ _ _ (then_more _ _ _ _ (then_more _ _ _ _ (expr_more (length vs) vs p q e s) (uses_more n m vs p q c b le s)) (uses_more (left n b) (left m b) vs p q c d (left_less b le) s))
      (uses_more (left n f) (left m f) vs (beyond n vs p f) (beyond m vs q f) c k (left_less f le) (beyond_staler n m vs p q f le s))
  uses_more n m vs p q c (WhileStmt at e b k) le s =
      let f = WhileStmt at e b End in
      let h = head_staler n m (length vs) p q b le s in
      then_more _ _ _ _ (then_more _ _ _ _ (expr_more (length vs) vs _ _ e h) (uses_more n m vs _ _ c b le h))
      (uses_more (left n f) (left m f) vs (beyond n vs p f) (beyond m vs q f) c k (left_less f le) (beyond_staler n m vs p q f le s))
  uses_more n m vs p q c (ForStmt at i e t b k) le s =
      let f = ForStmt at i e t b End in
      let ws = declaring vs i in
      let li = left_less i le in
      let lt = left_less t li in
      let h = behind_staler (length ws) (beyond n vs p i) (beyond m vs q i) (head (with_step (ways (left (left n i) t) b) (ways (left n i) t)))
      (head (with_step (ways (left (left m i) t) b) (ways (left m i) t)))
      (wider _ _ (declaring_wider vs i) (beyond_staler n m vs p q i le s))
      (head_grows _ _ (with_step_grow _ _ _ _ (ways_grow (left (left n i) t) (left (left m i) t) b lt) (ways_grow (left n i) (left m i) t li))) in
      let r = behind_staler (length ws) _ _ (round (ways (left (left n i) t) b)) (round (ways (left (left m i) t) b)) h (round_grows _ _ (ways_grow (left (left n i) t) (left (left m i) t) b lt)) in
      then_more _ _ _ _
      (then_more _ _ _ _
      (then_more _ _ _ _ (then_more _ _ _ _ (uses_more n m vs p q c i le s) (maybe_more (length ws) ws _ _ e h)) (uses_more (left n i) (left m i) ws _ _ c t li r))
      (uses_more (left (left n i) t) (left (left m i) t) ws _ _ c b lt h))
      (uses_more (left n f) (left m f) vs (beyond n vs p f) (beyond m vs q f) c k (left_less f le) (beyond_staler n m vs p q f le s))
  uses_more n m vs p q c (LoopStmt at b k) le s =
      let f = LoopStmt at b End in
      then_more _ _ _ _ (uses_more n m vs _ _ c b le (head_staler n m (length vs) p q b le s))
      (uses_more (left n f) (left m f) vs (beyond n vs p f) (beyond m vs q f) c k (left_less f le) (beyond_staler n m vs p q f le s))
  uses_more n m vs p q c (BreakStmt at k) le s = uses_more n m vs _ _ c k le (never_staler (length vs) p q s)
  uses_more n m vs p q c (ContinueStmt at k) le s = uses_more n m vs _ _ c k le (never_staler (length vs) p q s)
  uses_more n m vs p q c (ReturnStmt at v k) le s = then_more _ _ _ _ (maybe_more (length vs) vs p q v s) (uses_more n m vs _ _ c k le (never_staler (length vs) p q s))
  uses_more n m vs p q c (ThrowStmt at v k) le s = then_more _ _ _ _ (thrown_more (length vs) vs p q c at v s) (uses_more n m vs _ _ c k le (never_staler (length vs) p q s))
  uses_more n m vs p q c (TryStmt at b o x h k) le s =
      let f = TryStmt at b o x h End in
      let t = behind_staler (length vs) p q (ways n b).throws (ways m b).throws s (ways_grow n m b le).throws in
      then_more _ _ _ _
      (then_more _ _ _ _ (uses_more n m vs p q c b le s)
      (uses_more (left n b) (left m b) (caught_as x ∷ vs) _ _ (Some (record { number = length vs; declared = x.at })) h (left_less b le) (one_more (length vs) _ _ t)))
      (uses_more (left n f) (left m f) vs (beyond n vs p f) (beyond m vs q f) c k (left_less f le) (beyond_staler n m vs p q f le s))
  uses_more n m vs p q c (ChooseStmt at bs k) le s =
      let f = ChooseStmt at bs End in
      then_more _ _ _ _ (branches_more (n - 1) (m - 1) vs p q _ _ c bs (less 1 le) s (behind_staler (length vs) p q (waited_at n) (waited_at m) s (waited_grows n m le)))
      (uses_more (left n f) (left m f) vs (beyond n vs p f) (beyond m vs q f) c k (left_less f le) (beyond_staler n m vs p q f le s))
  uses_more n m vs p q c (DeclareStmt at i v k) le s = then_more _ _ _ _ (maybe_more (length vs) vs p q v s) (uses_more n m (declared i ∷ vs) p q c k le (one_more (length vs) p q s))
  uses_more n m vs p q c (AssignStmt at xs v k) le s =
      then_more _ _ _ _ (then_more _ _ _ _ (target_more (length vs) vs p q xs s) (expr_more (length vs) vs p q v s)) (uses_more n m vs p q c k le s)
  uses_more n m vs p q c (ModifyStmt at xs d k) le s =
      then_more _ _ _ _ (then_more _ _ _ _ (target_more (length vs) vs p q xs s) (change_more (length vs) vs p q d s)) (uses_more n m vs p q c k le s)
  uses_more n m vs p q c (CallStmt at xs es k) le s =
      then_more _ _ _ _ (then_more _ _ _ _ (base_more (length vs) vs p q xs s) (exprs_more (length vs) vs p q es s)) (uses_more n m vs p q c k le s)
  uses_more n m vs p q c (WaitStmt at w k) le s =
      let f = WaitStmt at w End in
      then_more _ _ _ _ (expr_more (length vs) vs p q w.operand s)
      (uses_more (left n f) (left m f) (with_into vs w.into) (beyond n vs p f) (beyond m vs q f) c k (left_less f le) (wider _ _ (into_wider vs w.into) (beyond_staler n m vs p q f le s)))

  branches_more : (n m : ℕ) (vs : List Variable) (p q x y : Point) (c : Option Caught) (bs : Branches) → n ≤ m → Staler (length vs) p q → Staler (length vs) x y
      → MoreStale (branch_uses n vs p x c bs) (branch_uses m vs q y c bs)
  branches_more n m vs p q x y c NoBranches le s t = tt
  branches_more n m vs p q x y c (MoreBranches at w b bs) le s t =
      then_more _ _ _ _ (then_more _ _ _ _ (expr_more (length vs) vs p q w.operand s) (uses_more n m (with_into vs w.into) x y c b le (wider x y (into_wider vs w.into) t)))
      (branches_more (left n b) (left m b) vs p q x y c bs (left_less b le) s t)
