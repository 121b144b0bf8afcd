-- What is known at the points of a body is kept along each of its edges.
use Rattle.std.proofs.Common.{◌≡◌, ℕ, suc, ◌+◌, ◌-◌, ◌≤◌, Bool, true, false, ◌||◌, List, [], ◌∷◌, ◌++◌, length, refl, sym, ap, subst, arith}
use Rattle.std.specs.Prelude.{All, nat_lt}
use Rattle.std.proofs.lemmas.Bool.{false≢true}
use Rattle.std.proofs.lemmas.List.Elements.{All-nil, All-cons}
use Rattle.std.specs.declared.option.Option.{Option}
use Rattle.std.specs.declared.option.Option.TheVariants.{None, Some}
use Rattle.flow_tree.specs.declared.ty.Ident.{Ident}
use Rattle.flow_tree.specs.Tree.{ExprTree}
use Rattle.flow_tree.specs.Body.{IntoTree, Body, End, BlockStmt, IfStmt, IfElseStmt, WhileStmt, ForStmt, LoopStmt, BreakStmt, ContinueStmt, ReturnStmt, ThrowStmt, TryStmt, ChooseStmt, DeclareStmt, AssignStmt, ModifyStmt, CallStmt, WaitStmt, Branches, NoBranches, MoreBranches}
use Rattle.flow_tree.proofs.ForParts.{InitKind, no_init, declares, assigns, modifies, init_kind, StepKind, no_step, assigned, modified, step_kind}
use Rattle.flow_ast.specs.Slots.{branch_groups}
use Rattle.flow_ast.specs.Typing.{is_there}
use Rattle.flow_staterule.specs.declared.scope.Point.{Point}
use Rattle.flow_staterule.specs.declared.ways.Reached.{Reached}
use Rattle.flow_staterule.specs.declared.ways.Ways.{Ways}
use Rattle.flow_staterule.specs.Ways.{ways, branch_ways, never, at_once, either, onward, both, node, plain, sequence, empty, round, with_step, head, looped, waited_at}
use Rattle.flow_staterule.specs.Uses.{left}
use Rattle.flow_typing_laws.specs.ControlFlow.Control.{points, branch_points, Around, followed_by, in_loop, in_step, in_try, listed, leads, statement, first, whens, edges, branch_edges}
use Rattle.flow_typing_laws.specs.ControlFlow.Control as control
use Rattle.flow_typing_laws.specs.ControlFlow.Mentions.{Declared, Named, local_at, declared, with_into, declaring}
use Rattle.flow_typing_laws.specs.ControlFlow.Laws.{HasSimpleParts, HaveSimpleParts}
use Rattle.flow_typing_laws.proofs.ControlFlow.Notes.{Note, note, wait_note, behind_all, block_ways, if_ways, if_else_ways, for_round, for_ways, try_ways, choose_ways, notes, branch_notes, notes_many, branch_notes_many, Tells, tells_first, tells_rest}
use Rattle.flow_typing_laws.proofs.ControlFlow.Leading.{Into, Less, into_less, less_same, less_left, less_then, into_self, into_on, into_round, within_behind, Exits, exits_rest, exits_first, exits_left, exits_right, exits_follow, exits_deeper, exits_dead, exits_looped, exits_body, exits_step, exits_try, exits_handler}
use Rattle.flow_typing_laws.proofs.ControlFlow.Flowing.{Flow, Below, point_of, waited_reached, below_more, below_declared, below_into, within_into, into_point, Kept, nothing_kept, FlowsTo, flow_plain, flow_wait, flow_more, flow_into, leads_flow, listed_flow, statement_flow, to_one, to_two, then_flow, into_headed, into_first, into_next}

less_onward_cases : (f w : Bool) (s : Reached) → Less (record { fresh = f; waited = w }) (onward (record { fresh = f; waited = w }) (either at_once s))
less_onward_cases true true s = record { reached = λ e. refl; waited = λ e. refl }
less_onward_cases true false s = record { reached = λ e. refl; waited = λ e. absurd (false≢true e) }
less_onward_cases false true s = record { reached = λ e. refl; waited = λ e. refl }
less_onward_cases false false s = record { reached = λ e. absurd (false≢true e); waited = λ e. absurd (false≢true e) }

less_onward : (r s : Reached) → Less r (onward r (either at_once s))
less_onward r s = less_onward_cases r.fresh r.waited s

round_kept_cases : (f w : Bool) → w ≡ true → (onward (record { fresh = f; waited = w }) at_once).waited ≡ true
round_kept_cases f true e = refl
round_kept_cases f false e = absurd (false≢true e)

or_first : (a b : Bool) → a ≡ true → a || b ≡ true
or_first true b e = refl
or_first false b e = absurd (false≢true e)

-- a round of a `for` without a step
round_kept : (w : Ways) → (round w).waited ≡ true → (round (with_step w empty)).waited ≡ true
round_kept w e = or_first (onward (round w) at_once).waited false (round_kept_cases (round w).fresh (round w).waited e)

pub caught_point : (m : ℕ) (x : Ident) (d : Declared) → (local_at m x).local ≡ Some d → d.point ≡ m
caught_point m x d e = sym (ap point_of e)

module _ (tell : ℕ → Note) where
  -- to the catch around a statement that is left at once
  catch_flow : (w v : Ways) (m : ℕ) (vs : List Named) (p : Point) (a : Around) → tell m ≡ note vs p → Below m vs → Less at_once w.throws → Exits tell (sequence w v) vs p a
      → (t : ℕ) → a.catches ≡ Some t → FlowsTo tell m t
  catch_flow w v m vs p a e b l x t h =
      flow_plain tell m vs p t e b (into_less at_once _ vs p (tell t) (less_then at_once w.throws _ l (less_left w.throws (onward w.ends v.throws))) (x.catches t h))

  -- to the catch around a loop, from its head
  head_catch_flow : (leads : Bool) (w : Ways) (m : ℕ) (vs : List Named) (p : Point) (a : Around) → tell m ≡ note vs (behind_all vs p (head w)) → Below m vs → Exits tell (looped leads w) vs p a
      → (t : ℕ) → a.catches ≡ Some t → FlowsTo tell m t
  head_catch_flow leads w m vs p a e b x t h =
      flow_plain tell m vs (behind_all vs p (head w)) t e b (into_on (head w) vs p (tell t) (into_less (head w) _ vs p (tell t) (less_left (head w) (onward (head w) w.throws)) (x.catches t h)))

  -- past a loop, from its head
  past_flow : (w : Ways) (m : ℕ) (vs : List Named) (p : Point) (a : Around) → tell m ≡ note vs (behind_all vs p (head w)) → Below m vs → Exits tell (looped true w) vs p a → FlowsTo tell m a.follows
  past_flow w m vs p a e b x =
      flow_plain tell m vs (behind_all vs p (head w)) a.follows e b
      (into_on (head w) vs p (tell a.follows) (into_less (head w) _ vs p (tell a.follows) (less_left (head w) (onward (head w) w.breaks)) x.follows))

  maybe_past : (e : Option ExprTree) (w : Ways) (m : ℕ) (vs : List Named) (p : Point) (a : Around) → tell m ≡ note vs (behind_all vs p (head w)) → Below m vs
      → Exits tell (looped (is_there e) w) vs p a
      → (t : ℕ) → FlowsTo tell m t → All (FlowsTo tell m) (t ∷ control.past e a.follows)
  maybe_past None w m vs p a e b x t f = to_one tell m t f
  maybe_past (Some c) w m vs p a e b x t f = to_two tell m t a.follows f (past_flow w m vs p a e b x)

  -- the init of a `for`
  init_flow : (n : ℕ) (i : Body) (m : ℕ) (vs : List Named) (p : Point) (a : Around) (w : Ways) → InitKind i → Tells tell m (notes n i m vs p) → Below m vs → p.from ≤ length vs
      → Exits tell (sequence (ways n i) w) vs p a → Into at_once (declaring m i vs) (behind_all vs p (ways n i).ends) (tell (m + points i))
      → Kept tell (edges i m (followed_by a (m + points i)))
  init_flow n _ m vs p a w no_init h b l x i = nothing_kept tell
  init_flow n _ m vs p a w (declares at v e) h b l x i =
      then_flow tell (statement m (followed_by a (m + 1)) ((m + 1) ∷ [])) []
      (statement_flow tell m (followed_by a (m + 1)) ((m + 1) ∷ [])
      (to_one tell m (m + 1) (subst (λ y. Flow m y (tell (m + 1))) (sym h.0)
      (flow_more tell m (declared m v) vs p false at_once (tell (m + 1)) (λ y. absurd (false≢true y)) refl b l (into_point m v) i)))
      (catch_flow (ways n (DeclareStmt at v e End)) w m vs p a h.0 b (less_left at_once (onward at_once never)) x))
      (nothing_kept tell)
  init_flow n _ m vs p a w (assigns at xs v) h b l x i =
      then_flow tell (statement m (followed_by a (m + 1)) ((m + 1) ∷ [])) []
      (statement_flow tell m (followed_by a (m + 1)) ((m + 1) ∷ []) (to_one tell m (m + 1) (flow_plain tell m vs p (m + 1) h.0 b i))
      (catch_flow (ways n (AssignStmt at xs v End)) w m vs p a h.0 b (less_left at_once (onward at_once never)) x))
      (nothing_kept tell)
  init_flow n _ m vs p a w (modifies at xs c) h b l x i =
      then_flow tell (statement m (followed_by a (m + 1)) ((m + 1) ∷ [])) []
      (statement_flow tell m (followed_by a (m + 1)) ((m + 1) ∷ []) (to_one tell m (m + 1) (flow_plain tell m vs p (m + 1) h.0 b i))
      (catch_flow (ways n (ModifyStmt at xs c End)) w m vs p a h.0 b (less_left at_once (onward at_once never)) x))
      (nothing_kept tell)

  init_exits : (n : ℕ) (i : Body) (m : ℕ) (vs : List Named) (p : Point) (a : Around) (w : Ways) → InitKind i → Exits tell w vs p a → Exits tell w (declaring m i vs) p a
  init_exits n _ m vs p a w no_init x = x
  init_exits n _ m vs p a w (declares at v e) x = exits_deeper tell w (declared m v) vs p a x
  init_exits n _ m vs p a w (assigns at xs v) x = x
  init_exits n _ m vs p a w (modifies at xs c) x = x

  pub init_below : (i : Body) (m : ℕ) (vs : List Named) → InitKind i → Below m vs → Below (m + points i) (declaring m i vs)
  init_below _ m vs no_init b = let le : m ≤ m + 0 = omega arith in below_more m (m + 0) vs le b
  init_below _ m vs (declares at v e) b = let le : suc m ≤ m + 1 = omega arith in below_more (suc m) (m + 1) (declared m v ∷ vs) le (below_declared m (declared m v) vs (into_point m v) b)
  init_below _ m vs (assigns at xs v) b = let le : m ≤ m + 1 = omega arith in below_more m (m + 1) vs le b
  init_below _ m vs (modifies at xs c) b = let le : m ≤ m + 1 = omega arith in below_more m (m + 1) vs le b

  init_within : (i : Body) (m n : ℕ) (vs : List Named) → InitKind i → n ≤ length vs → n ≤ length (declaring m i vs)
  init_within _ m n vs no_init l = l
  init_within _ m n vs (declares at v e) l = omega (arith, l)
  init_within _ m n vs (assigns at xs v) l = l
  init_within _ m n vs (modifies at xs c) l = l

  -- the step of a `for`: where a round of the body ends
  step_into : (n : ℕ) (t : Body) (g : ℕ) (vs : List Named) (p : Point) (w : Ways) → StepKind t → tell g ≡ note vs (behind_all vs p (head (with_step w (ways n t))))
      → Tells tell (suc g) (notes n t (suc g) vs (behind_all vs (behind_all vs p (head (with_step w (ways n t)))) (round w)))
      → Into (round w) vs (behind_all vs p (head (with_step w (ways n t)))) (tell (first t (suc g) g))
  step_into n _ g vs p w no_step e h = subst (Into (round w) vs (behind_all vs p (head (with_step w empty)))) (sym e) (into_round (round w) (with_step w empty) vs p (round_kept w))
  step_into n _ g vs p w (assigned at xs v) e h = let q = behind_all vs p (head (with_step w (ways n (AssignStmt at xs v End)))) in subst (Into (round w) vs q) (sym h.0) (into_self (round w) vs q)
  step_into n _ g vs p w (modified at xs c) e h = let q = behind_all vs p (head (with_step w (ways n (ModifyStmt at xs c End)))) in subst (Into (round w) vs q) (sym h.0) (into_self (round w) vs q)

  -- the branches of a `choose`
  whens_flow : (n k : ℕ) (bs : Branches) (m x : ℕ) (vs : List Named) (p : Point) → tell x ≡ wait_note n vs p → Below x vs → Tells tell m (branch_notes k bs m vs (behind_all vs p (waited_at n)))
      → All (FlowsTo tell x) (whens bs m)
  whens_flow n k NoBranches m x vs p e b h = All-nil (FlowsTo tell x)
  whens_flow n k (MoreBranches at w c bs) m x vs p e b h =
      let q = behind_all vs p (waited_at n) in
      let u : suc m + points c ≡ suc (m + points c) = omega arith in
      All-cons (FlowsTo tell x) m (whens bs (suc (m + points c)))
      (flow_wait tell n x vs p m e b (subst (Into (waited_at n) vs p) (sym h.0) (into_self (waited_at n) vs p)))
      (whens_flow n (left k c) bs (suc (m + points c)) x vs p e b
      (subst (λ y. Tells tell y (branch_notes (left k c) bs (suc (m + points c)) vs q)) u
      (tells_rest tell (suc m) (points c) (notes k c (suc m) (with_into m w.into vs) q) _ (notes_many k c (suc m) (with_into m w.into vs) q) h.1)))

  exits_into : (m : ℕ) (o : Option IntoTree) (w : Ways) (vs : List Named) (p : Point) (a : Around) → Exits tell w vs p a → Exits tell w (with_into m o vs) p a
  exits_into m None w vs p a x = x
  exits_into m (Some i) w vs p a x = exits_deeper tell w (declared m i) vs p a x

  -- a statement that leads to what follows it, and declares nothing
  next_flows : (n : ℕ) (k : Body) (m : ℕ) (vs : List Named) (p : Point) (a : Around) → HasSimpleParts k → (tell m ≡ note vs p) × Tells tell (suc m) (notes n k (suc m) vs p) → Below m vs
      → p.from ≤ length vs
      → Exits tell (sequence (plain at_once) (ways n k)) vs p a
      → (HasSimpleParts k → Tells tell (suc m) (notes n k (suc m) vs p) → Below (suc m) vs → p.from ≤ length vs → Exits tell (ways n k) vs p a → Kept tell (edges k (suc m) a))
      → Kept tell (statement m a (first k (suc m) a.follows ∷ []) ++ edges k (suc m) a)
  next_flows n k m vs p a s h b l x rest =
      let xk = exits_rest tell (plain at_once) (ways n k) vs p a x in
      let up : m ≤ suc m = omega arith in
      then_flow tell (statement m a (first k (suc m) a.follows ∷ [])) (edges k (suc m) a)
      (statement_flow tell m a (first k (suc m) a.follows ∷ []) (to_one tell m _ (flow_plain tell m vs p _ h.0 b (into_first tell n k (suc m) vs p a.follows s h.1 xk.follows)))
      (catch_flow (plain at_once) (ways n k) m vs p a h.0 b (less_same at_once) x))
      (rest s h.1 (below_more m (suc m) vs up b) l xk)

  mutual
    pub flows : (n : ℕ) (b : Body) (m : ℕ) (vs : List Named) (p : Point) (a : Around) → HasSimpleParts b → Tells tell m (notes n b m vs p) → Below m vs → p.from ≤ length vs
        → Exits tell (ways n b) vs p a
        → Kept tell (edges b m a)
    flows n End m vs p a s h b l x = nothing_kept tell
    flows n (BlockStmt at c k) m vs p a s h b l x =
        let w = block_ways n c in
        let v = ways (left n c) k in
        let m' = suc m + points c in
        let hc = tells_first tell (suc m) (notes n c (suc m) vs p) _ h.1 in
        let hk = tells_rest tell (suc m) (points c) (notes n c (suc m) vs p) _ (notes_many n c (suc m) vs p) h.1 in
        let f = first k m' a.follows in
        let i = into_next tell w (left n c) k m' vs p a s.2 hk x in
        let xc = exits_right tell (node at_once) (ways n c) vs p (followed_by a f) (exits_first tell w v vs p a f x i) in
        let up : m ≤ suc m = omega arith in
        let up' : m ≤ m' = omega arith in
        then_flow tell _ (edges k m' a)
        (then_flow tell (statement m a (first c (suc m) f ∷ [])) (edges c (suc m) (followed_by a f))
        (statement_flow tell m a (first c (suc m) f ∷ []) (to_one tell m _ (flow_plain tell m vs p _ h.0 b (into_first tell n c (suc m) vs p f s.1 hc xc.follows)))
        (catch_flow w v m vs p a h.0 b (less_left at_once (ways n c).throws) x))
        (flows n c (suc m) vs p (followed_by a f) s.1 hc (below_more m (suc m) vs up b) l xc))
        (flows (left n c) k m' vs (behind_all vs p w.ends) a s.2 hk (below_more m m' vs up' b) (within_behind w.ends vs p l) (exits_rest tell w v vs p a x))
    flows n (IfStmt at e c k) m vs p a s h b l x =
        let w = if_ways n c in
        let v = ways (left n c) k in
        let m' = suc m + points c in
        let hc = tells_first tell (suc m) (notes n c (suc m) vs p) _ h.1 in
        let hk = tells_rest tell (suc m) (points c) (notes n c (suc m) vs p) _ (notes_many n c (suc m) vs p) h.1 in
        let f = first k m' a.follows in
        let i = into_next tell w (left n c) k m' vs p a s.2 hk x in
        let xc = exits_right tell (plain at_once) (ways n c) vs p (followed_by a f) (exits_first tell w v vs p a f x i) in
        let up : m ≤ suc m = omega arith in
        let up' : m ≤ m' = omega arith in
        then_flow tell _ (edges k m' a)
        (then_flow tell (statement m a (first c (suc m) f ∷ f ∷ [])) (edges c (suc m) (followed_by a f))
        (statement_flow tell m a (first c (suc m) f ∷ f ∷ []) (to_two tell m _ f (flow_plain tell m vs p _ h.0 b (into_first tell n c (suc m) vs p f s.1 hc xc.follows))
        (flow_plain tell m vs p f h.0 b (into_less at_once w.ends vs p (tell f) (less_left at_once (ways n c).ends) i)))
        (catch_flow w v m vs p a h.0 b (less_left at_once (ways n c).throws) x))
        (flows n c (suc m) vs p (followed_by a f) s.1 hc (below_more m (suc m) vs up b) l xc))
        (flows (left n c) k m' vs (behind_all vs p w.ends) a s.2 hk (below_more m m' vs up' b) (within_behind w.ends vs p l) (exits_rest tell w v vs p a x))
    flows n (IfElseStmt at e c d k) m vs p a s h b l x =
        let w = if_else_ways n c d in
        let n' = left (left n c) d in
        let v = ways n' k in
        let m'' = suc m + points c in
        let m' = m'' + points d in
        let hc = tells_first tell (suc m) (notes n c (suc m) vs p) _ h.1 in
        let hr = tells_rest tell (suc m) (points c) (notes n c (suc m) vs p) _ (notes_many n c (suc m) vs p) h.1 in
        let hd = tells_first tell m'' (notes (left n c) d m'' vs p) _ hr in
        let hk = tells_rest tell m'' (points d) (notes (left n c) d m'' vs p) _ (notes_many (left n c) d m'' vs p) hr in
        let f = first k m' a.follows in
        let i = into_next tell w n' k m' vs p a s.3 hk x in
        let xb = exits_right tell (node at_once) (both (ways n c) (ways (left n c) d)) vs p (followed_by a f) (exits_first tell w v vs p a f x i) in
        let xc = exits_left tell (ways n c) (ways (left n c) d) vs p (followed_by a f) xb in
        let xd = exits_right tell (ways n c) (ways (left n c) d) vs p (followed_by a f) xb in
        let up : m ≤ suc m = omega arith in
        let up' : m ≤ m' = omega arith in
        let up'' : m ≤ m'' = omega arith in
        then_flow tell _ (edges k m' a)
        (then_flow tell _ (edges d m'' (followed_by a f))
        (then_flow tell (statement m a (first c (suc m) f ∷ first d m'' f ∷ [])) (edges c (suc m) (followed_by a f))
        (statement_flow tell m a (first c (suc m) f ∷ first d m'' f ∷ []) (to_two tell m _ _ (flow_plain tell m vs p _ h.0 b (into_first tell n c (suc m) vs p f s.1 hc xc.follows))
        (flow_plain tell m vs p _ h.0 b (into_first tell (left n c) d m'' vs p f s.2 hd xd.follows)))
        (catch_flow w v m vs p a h.0 b (less_left at_once (both (ways n c) (ways (left n c) d)).throws) x))
        (flows n c (suc m) vs p (followed_by a f) s.1 hc (below_more m (suc m) vs up b) l xc))
        (flows (left n c) d m'' vs p (followed_by a f) s.2 hd (below_more m m'' vs up'' b) l xd))
        (flows n' k m' vs (behind_all vs p w.ends) a s.3 hk (below_more m m' vs up' b) (within_behind w.ends vs p l) (exits_rest tell w v vs p a x))
    flows n (WhileStmt at e c k) m vs p a s h b l x =
        let w = looped true (ways n c) in
        let v = ways (left n c) k in
        let m' = suc m + points c in
        let q = behind_all vs p (head (ways n c)) in
        let hc = tells_first tell (suc m) (notes n c (suc m) vs q) _ h.1 in
        let hk = tells_rest tell (suc m) (points c) (notes n c (suc m) vs q) _ (notes_many n c (suc m) vs q) h.1 in
        let f = first k m' a.follows in
        let i = into_next tell w (left n c) k m' vs p a s.2 hk x in
        let xl = exits_first tell w v vs p a f x i in
        let xc = exits_looped tell true (ways n c) vs p (followed_by a f) m xl h.0 in
        let up : m ≤ suc m = omega arith in
        let up' : m ≤ m' = omega arith in
        then_flow tell _ (edges k m' a)
        (then_flow tell (statement m a (first c (suc m) m ∷ f ∷ [])) (edges c (suc m) (in_loop (followed_by a f) m))
        (statement_flow tell m a (first c (suc m) m ∷ f ∷ []) (to_two tell m _ f (flow_plain tell m vs q _ h.0 b (into_first tell n c (suc m) vs q m s.1 hc xc.follows))
        (past_flow (ways n c) m vs p (followed_by a f) h.0 b xl))
        (head_catch_flow true (ways n c) m vs p (followed_by a f) h.0 b xl))
        (flows n c (suc m) vs q (in_loop (followed_by a f) m) s.1 hc (below_more m (suc m) vs up b) (within_behind (head (ways n c)) vs p l) xc))
        (flows (left n c) k m' vs (behind_all vs p w.ends) a s.2 hk (below_more m m' vs up' b) (within_behind w.ends vs p l) (exits_rest tell w v vs p a x))
    flows n (ForStmt at i e t c k) m vs p a s h b l x =
        let g = m + points i in
        let m'' = suc g + points t in
        let m' = m'' + points c in
        let kind = init_kind i s.0.0 in
        let ws = declaring m i vs in
        let nt = left n i in
        let nc = left nt t in
        let nk = left nc c in
        let wr = for_round n i t c in
        let w = for_ways n i e t c in
        let v = ways nk k in
        let p' = behind_all vs p (ways n i).ends in
        let q = behind_all ws p' (head wr) in
        let r = behind_all ws q (round (ways nc c)) in
        let hi = tells_first tell m (notes n i m vs p) _ h in
        let ho = tells_rest tell m (points i) (notes n i m vs p) _ (notes_many n i m vs p) h in
        let ht = tells_first tell (suc g) (notes nt t (suc g) ws r) _ ho.1 in
        let hr = tells_rest tell (suc g) (points t) (notes nt t (suc g) ws r) _ (notes_many nt t (suc g) ws r) ho.1 in
        let hc = tells_first tell m'' (notes nc c m'' ws q) _ hr in
        let hk = tells_rest tell m'' (points c) (notes nc c m'' ws q) _ (notes_many nc c m'' ws q) hr in
        let f = first k m' a.follows in
        let y = first t (suc g) g in
        let into_k = into_next tell w nk k m' vs p a s.4 hk x in
        let xf = exits_first tell w v vs p a f x into_k in
        let xl = init_exits n i m vs p' (followed_by a f) (looped (is_there e) wr) kind (exits_rest tell (ways n i) (looped (is_there e) wr) vs p (followed_by a f) xf) in
        let xr = exits_looped tell (is_there e) wr ws p' (followed_by a f) g xl ho.0 in
        let xc = exits_body tell (ways nc c) (ways nt t) ws q (followed_by a f) g y xr (step_into nt t g ws p' (ways nc c) (step_kind t s.0.1) ho.0 ht) in
        let xt = exits_step tell (ways nc c) (ways nt t) ws q (followed_by a f) g g xr xr.follows in
        let below_g = init_below i m vs kind b in
        let up : g ≤ suc g = omega arith in
        let up' : m ≤ m' = omega arith in
        let up'' : g ≤ m'' = omega arith in
        let lw = init_within i m p'.from vs kind (within_behind (ways n i).ends vs p l) in
        let lq = within_behind (head wr) ws p' lw in
        then_flow tell _ (edges k m' a)
        (then_flow tell _ (edges c m'' (in_loop (followed_by a f) y))
        (then_flow tell _ (edges t (suc g) (in_step a g))
        (then_flow tell (edges i m (followed_by a g)) (statement g a (first c m'' y ∷ control.past e f))
        (init_flow n i m vs p (followed_by a f) (looped (is_there e) wr) kind hi b l xf (into_headed tell wr ws p' g ho.0))
        (statement_flow tell g a (first c m'' y ∷ control.past e f)
        (maybe_past e wr g ws p' (followed_by a f) ho.0 below_g xl (first c m'' y) (flow_plain tell g ws q _ ho.0 below_g (into_first tell nc c m'' ws q y s.3 hc xc.follows)))
        (head_catch_flow (is_there e) wr g ws p' (followed_by a f) ho.0 below_g xl)))
        (flows nt t (suc g) ws r (in_step a g) (s.2) ht (below_more g (suc g) ws up below_g) (within_behind (round (ways nc c)) ws q lq) xt))
        (flows nc c m'' ws q (in_loop (followed_by a f) y) s.3 hc (below_more g m'' ws up'' below_g) lq xc))
        (flows nk k m' vs (behind_all vs p w.ends) a s.4 hk (below_more m m' vs up' b) (within_behind w.ends vs p l) (exits_rest tell w v vs p a x))
    flows n (LoopStmt at c k) m vs p a s h b l x =
        let w = looped false (ways n c) in
        let v = ways (left n c) k in
        let m' = suc m + points c in
        let q = behind_all vs p (head (ways n c)) in
        let hc = tells_first tell (suc m) (notes n c (suc m) vs q) _ h.1 in
        let hk = tells_rest tell (suc m) (points c) (notes n c (suc m) vs q) _ (notes_many n c (suc m) vs q) h.1 in
        let f = first k m' a.follows in
        let i = into_next tell w (left n c) k m' vs p a s.2 hk x in
        let xl = exits_first tell w v vs p a f x i in
        let xc = exits_looped tell false (ways n c) vs p (followed_by a f) m xl h.0 in
        let up : m ≤ suc m = omega arith in
        let up' : m ≤ m' = omega arith in
        then_flow tell _ (edges k m' a)
        (then_flow tell (statement m a (first c (suc m) m ∷ [])) (edges c (suc m) (in_loop (followed_by a f) m))
        (statement_flow tell m a (first c (suc m) m ∷ []) (to_one tell m _ (flow_plain tell m vs q _ h.0 b (into_first tell n c (suc m) vs q m s.1 hc xc.follows)))
        (head_catch_flow false (ways n c) m vs p (followed_by a f) h.0 b xl))
        (flows n c (suc m) vs q (in_loop (followed_by a f) m) s.1 hc (below_more m (suc m) vs up b) (within_behind (head (ways n c)) vs p l) xc))
        (flows (left n c) k m' vs (behind_all vs p w.ends) a s.2 hk (below_more m m' vs up' b) (within_behind w.ends vs p l) (exits_rest tell w v vs p a x))
    flows n (BreakStmt at k) m vs p a s h b l x =
        let up : m ≤ suc m = omega arith in
        then_flow tell (statement m a (listed a.breaks)) (edges k (suc m) a)
        (statement_flow tell m a (listed a.breaks) (listed_flow tell m a.breaks (λ t y. flow_plain tell m vs p t h.0 b (x.breaks t y))) (λ t y. flow_plain tell m vs p t h.0 b (x.catches t y)))
        (flows n k (suc m) vs (behind_all vs p never) a s.1 h.1 (below_more m (suc m) vs up b) (within_behind never vs p l) (exits_dead tell (ways n (BreakStmt at k)) (ways n k) vs p a x))
    flows n (ContinueStmt at k) m vs p a s h b l x =
        let up : m ≤ suc m = omega arith in
        then_flow tell (statement m a (listed a.continues)) (edges k (suc m) a)
        (statement_flow tell m a (listed a.continues) (listed_flow tell m a.continues (λ t y. flow_plain tell m vs p t h.0 b (x.continues t y)))
        (λ t y. flow_plain tell m vs p t h.0 b (x.catches t y)))
        (flows n k (suc m) vs (behind_all vs p never) a s.1 h.1 (below_more m (suc m) vs up b) (within_behind never vs p l) (exits_dead tell (ways n (ContinueStmt at k)) (ways n k) vs p a x))
    flows n (ReturnStmt at e k) m vs p a s h b l x =
        let up : m ≤ suc m = omega arith in
        then_flow tell (statement m a []) (edges k (suc m) a)
        (statement_flow tell m a [] (All-nil (FlowsTo tell m)) (λ t y. flow_plain tell m vs p t h.0 b (x.catches t y)))
        (flows n k (suc m) vs (behind_all vs p never) a s.1 h.1 (below_more m (suc m) vs up b) (within_behind never vs p l) (exits_dead tell (node at_once) (ways n k) vs p a x))
    flows n (ThrowStmt at e k) m vs p a s h b l x =
        let up : m ≤ suc m = omega arith in
        then_flow tell (statement m a []) (edges k (suc m) a)
        (statement_flow tell m a [] (All-nil (FlowsTo tell m)) (λ t y. flow_plain tell m vs p t h.0 b (x.catches t y)))
        (flows n k (suc m) vs (behind_all vs p never) a s.1 h.1 (below_more m (suc m) vs up b) (within_behind never vs p l) (exits_dead tell (node at_once) (ways n k) vs p a x))
    flows n (TryStmt at c q z d k) m vs p a s h b l x =
        let w = try_ways n c d in
        let n' = left (left n c) d in
        let v = ways n' k in
        let g = suc m + points c in
        let m' = suc g + points d in
        let t = behind_all vs p (ways n c).throws in
        let hc = tells_first tell (suc m) (notes n c (suc m) vs p) _ h.1 in
        let hg = tells_rest tell (suc m) (points c) (notes n c (suc m) vs p) _ (notes_many n c (suc m) vs p) h.1 in
        let hd = tells_first tell (suc g) (notes (left n c) d (suc g) (local_at g z ∷ vs) t) _ hg.1 in
        let hk = tells_rest tell (suc g) (points d) (notes (left n c) d (suc g) (local_at g z ∷ vs) t) _ (notes_many (left n c) d (suc g) (local_at g z ∷ vs) t) hg.1 in
        let f = first k m' a.follows in
        let i = into_next tell w n' k m' vs p a s.3 hk x in
        let xf = exits_first tell w v vs p a f x i in
        let xc = exits_try tell (ways n c) (ways (left n c) d) vs p (followed_by a f) g xf hg.0 in
        let xd = exits_deeper tell (ways (left n c) d) (local_at g z) vs t (followed_by a f) (exits_handler tell (ways n c) (ways (left n c) d) vs p (followed_by a f) xf) in
        let up : m ≤ suc m = omega arith in
        let up' : m ≤ m' = omega arith in
        let up'' : m ≤ g = omega arith in
        let below_g = below_more m g vs up'' b in
        let lt = within_behind (ways n c).throws vs p l in
        let lt' : t.from ≤ length (local_at g z ∷ vs) = omega (arith, lt) in
        then_flow tell _ (edges k m' a)
        (then_flow tell _ (edges d (suc g) (followed_by a f))
        (then_flow tell _ (leads g (first d (suc g) f ∷ []))
        (then_flow tell (statement m a (first c (suc m) f ∷ [])) (edges c (suc m) (in_try (followed_by a f) g))
        (statement_flow tell m a (first c (suc m) f ∷ []) (to_one tell m _ (flow_plain tell m vs p _ h.0 b (into_first tell n c (suc m) vs p f s.1 hc xc.follows)))
        (catch_flow w v m vs p a h.0 b (less_left at_once (onward (ways n c).throws (ways (left n c) d).throws)) x))
        (flows n c (suc m) vs p (in_try (followed_by a f) g) s.1 hc (below_more m (suc m) vs up b) l xc))
        (leads_flow tell g (first d (suc g) f ∷ []) (to_one tell g _ (subst (λ y. Flow g y (tell (first d (suc g) f))) (sym hg.0)
        (flow_more tell g (local_at g z) vs t false at_once (tell (first d (suc g) f)) (λ y. absurd (false≢true y)) refl below_g lt (caught_point g z)
        (into_first tell (left n c) d (suc g) (local_at g z ∷ vs) t f s.2 hd xd.follows))))))
        (flows (left n c) d (suc g) (local_at g z ∷ vs) t (followed_by a f) s.2 hd (below_declared g (local_at g z) vs (caught_point g z) below_g) lt' xd))
        (flows n' k m' vs (behind_all vs p w.ends) a s.3 hk (below_more m m' vs up' b) (within_behind w.ends vs p l) (exits_rest tell w v vs p a x))
    flows n (ChooseStmt at bs k) m vs p a s h b l x =
        let w = choose_ways n bs in
        let n' = n - 1 - length (branch_groups bs) in
        let v = ways n' k in
        let m' = suc m + branch_points bs in
        let q = behind_all vs p (waited_at n) in
        let hc = tells_first tell (suc m) (branch_notes (n - 1) bs (suc m) vs q) _ h.1 in
        let hk = tells_rest tell (suc m) (branch_points bs) (branch_notes (n - 1) bs (suc m) vs q) _ (branch_notes_many (n - 1) bs (suc m) vs q) h.1 in
        let f = first k m' a.follows in
        let i = into_next tell w n' k m' vs p a s.2 hk x in
        let xf = exits_first tell w v vs p a f x i in
        let xc = exits_right tell (node at_once) (branch_ways (n - 1) bs) vs q (followed_by a f)
        (exits_follow tell (waited_at n) (both (node at_once) (branch_ways (n - 1) bs)) vs p (followed_by a f) xf) in
        let up : m ≤ suc m = omega arith in
        let up' : m ≤ m' = omega arith in
        then_flow tell _ (edges k m' a)
        (then_flow tell (statement m a (whens bs (suc m))) (branch_edges bs (suc m) (followed_by a f))
        (statement_flow tell m a (whens bs (suc m)) (whens_flow n (n - 1) bs (suc m) m vs p h.0 b hc)
        (λ t y. flow_wait tell n m vs p t h.0 b (into_less (waited_at n) _ vs p (tell t) (less_onward (waited_at n) (branch_ways (n - 1) bs).throws) (xf.catches t y))))
        (branch_flows (n - 1) bs (suc m) vs q (followed_by a f) s.1 hc (below_more m (suc m) vs up b) (within_behind (waited_at n) vs p l) xc))
        (flows n' k m' vs (behind_all vs p w.ends) a s.2 hk (below_more m m' vs up' b) (within_behind w.ends vs p l) (exits_rest tell w v vs p a x))
    flows n (DeclareStmt at i e k) m vs p a s h b l x =
        let ws = declared m i ∷ vs in
        let xk = exits_deeper tell (ways n k) (declared m i) vs p a (exits_rest tell (plain at_once) (ways n k) vs p a x) in
        let lk : p.from ≤ length ws = omega (arith, l) in
        then_flow tell (statement m a (first k (suc m) a.follows ∷ [])) (edges k (suc m) a)
        (statement_flow tell m a (first k (suc m) a.follows ∷ []) (to_one tell m _ (subst (λ y. Flow m y (tell (first k (suc m) a.follows))) (sym h.0)
        (flow_more tell m (declared m i) vs p false at_once (tell (first k (suc m) a.follows)) (λ y. absurd (false≢true y)) refl b l (into_point m i)
        (into_first tell n k (suc m) ws p a.follows s.1 h.1 xk.follows))))
        (catch_flow (plain at_once) (ways n k) m vs p a h.0 b (less_same at_once) x))
        (flows n k (suc m) ws p a s.1 h.1 (below_declared m (declared m i) vs (into_point m i) b) lk xk)
    flows n (AssignStmt at xs e k) m vs p a s h b l x = next_flows n k m vs p a s.1 h b l x (flows n k (suc m) vs p a)
    flows n (ModifyStmt at xs c k) m vs p a s h b l x = next_flows n k m vs p a s.1 h b l x (flows n k (suc m) vs p a)
    flows n (CallStmt at xs es k) m vs p a s h b l x = next_flows n k m vs p a s.1 h b l x (flows n k (suc m) vs p a)
    flows n (WaitStmt at w k) m vs p a s h b l x =
        let ws = with_into m w.into vs in
        let q = behind_all vs p (waited_at n) in
        let xk = exits_into m w.into (ways (n - 1) k) vs q a (exits_rest tell (plain (waited_at n)) (ways (n - 1) k) vs p a x) in
        let lq = within_behind (waited_at n) vs p l in
        then_flow tell (statement m a (first k (suc m) a.follows ∷ [])) (edges k (suc m) a)
        (statement_flow tell m a (first k (suc m) a.follows ∷ []) (to_one tell m _ (subst (λ y. Flow m y (tell (first k (suc m) a.follows))) (sym h.0)
        (flow_into tell m w.into vs p (nat_lt 0 n) (waited_at n) (tell (first k (suc m) a.follows)) (λ y. y) (waited_reached n) b l
        (into_first tell (n - 1) k (suc m) ws q a.follows s.1 h.1 xk.follows))))
        (λ t y. flow_wait tell n m vs p t h.0 b (into_less (waited_at n) _ vs p (tell t) (less_left (waited_at n) (onward (waited_at n) (ways (n - 1) k).throws)) (x.catches t y))))
        (flows (n - 1) k (suc m) ws q a s.1 h.1 (below_into m w.into vs b) (within_into m q.from w.into vs lq) xk)

    pub branch_flows : (n : ℕ) (bs : Branches) (m : ℕ) (vs : List Named) (q : Point) (a : Around) → HaveSimpleParts bs → Tells tell m (branch_notes n bs m vs q) → Below m vs → q.from ≤ length vs
        → Exits tell (branch_ways n bs) vs q a → Kept tell (branch_edges bs m a)
    branch_flows n NoBranches m vs q a s h b l x = nothing_kept tell
    branch_flows n (MoreBranches at w c bs) m vs q a s h b l x =
        let ws = with_into m w.into vs in
        let m' = suc (m + points c) in
        let hc = tells_first tell (suc m) (notes n c (suc m) ws q) _ h.1 in
        let e : suc m + points c ≡ m' = omega arith in
        let hr = subst (λ y. Tells tell y (branch_notes (left n c) bs m' vs q)) e
        (tells_rest tell (suc m) (points c) (notes n c (suc m) ws q) (branch_notes (left n c) bs m' vs q) (notes_many n c (suc m) ws q) h.1) in
        let xc = exits_into m w.into (ways n c) vs q a (exits_left tell (ways n c) (branch_ways (left n c) bs) vs q a x) in
        let f = first c (suc m) a.follows in
        let up : m ≤ m' = omega arith in
        then_flow tell _ (branch_edges bs m' a)
        (then_flow tell (leads m (f ∷ [])) (edges c (suc m) a)
        (leads_flow tell m (f ∷ []) (to_one tell m f (subst (λ y. Flow m y (tell f)) (sym h.0)
        (flow_into tell m w.into vs q false at_once (tell f) (λ y. absurd (false≢true y)) refl b l (into_first tell n c (suc m) ws q a.follows s.1 hc xc.follows)))))
        (flows n c (suc m) ws q a s.1 hc (below_into m w.into vs b) (within_into m q.from w.into vs l) xc))
        (branch_flows (left n c) bs m' vs q a s.2 hr (below_more m m' vs up b) l (exits_right tell (ways n c) (branch_ways (left n c) bs) vs q a x))
