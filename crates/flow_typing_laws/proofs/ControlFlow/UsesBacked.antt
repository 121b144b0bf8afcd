-- The uses that the rule on state finds are the mentions of locals, and where one is stale a walk is bad for it.
use Rattle.std.proofs.Common.{◌≡◌, ℕ, suc, ◌+◌, ◌-◌, ◌≤◌, true, false, inl, List, [], ◌∷◌, ◌++◌, length, map, refl, sym, ap, subst, arith}
use Rattle.std.specs.Prelude.{Contains}
use Rattle.std.proofs.lemmas.List.Elements.{Contains-append_right}
use Rattle.std.specs.declared.option.Option.{Option}
use Rattle.std.specs.declared.option.Option.TheVariants.{Some}
use Rattle.flow_tree.specs.Body.{Body, End, BlockStmt, IfStmt, IfElseStmt, WhileStmt, ForStmt, LoopStmt, BreakStmt, ContinueStmt, ReturnStmt, ThrowStmt, TryStmt, ChooseStmt, DeclareStmt, AssignStmt, ModifyStmt, CallStmt, WaitStmt, Branches, NoBranches, MoreBranches}
use Rattle.flow_tree.proofs.ForParts.{InitKind, no_init, declares, assigns, modifies, init_kind}
use Rattle.flow_ast.specs.Slots.{body_groups, branch_groups, branch_waits}
use Rattle.flow_ast.specs.Typing.{is_there}
use Rattle.flow_staterule.specs.declared.scope.Point.{Point}
use Rattle.flow_staterule.specs.declared.uses.Caught.{Caught}
use Rattle.flow_staterule.specs.declared.ways.Reached.{Reached}
use Rattle.flow_staterule.specs.declared.ways.Ways.{Ways}
use Rattle.flow_staterule.specs.Ways.{ways, never, round, head, looped, waited_at}
use Rattle.flow_staterule.specs.Uses.{Variable, behind, beyond, left, uses, branch_uses, expr_uses, exprs_uses, maybe_uses, target_uses, base_uses, change_uses, thrown_uses}
use Rattle.flow_staterule.specs.Uses as rule
use Rattle.flow_typing_laws.specs.ControlFlow.Graph.{Edge, Leads}
use Rattle.flow_typing_laws.specs.ControlFlow.Control.{points, branch_points, Around, followed_by, in_loop, in_step, in_try, listed, leads, statement, first, whens, edges, branch_edges}
use Rattle.flow_typing_laws.specs.ControlFlow.Control as control
use Rattle.flow_typing_laws.specs.ControlFlow.Mentions.{Declared, Named, local_at, declared, with_into, declaring, mentions, branch_mentions}
use Rattle.flow_typing_laws.specs.ControlFlow.Laws.{HasSimpleParts, HaveSimpleParts}
use Rattle.flow_typing_laws.proofs.ControlFlow.Notes.{Note, behind_all, block_ways, if_ways, if_else_ways, for_round, for_ways, try_ways, choose_ways, notes, branch_notes, notes_many, branch_notes_many, Tells, tells_first, tells_rest}
use Rattle.flow_typing_laws.proofs.ControlFlow.Flowing.{Below, below_more, below_declared, below_into, into_point}
use Rattle.flow_typing_laws.proofs.ControlFlow.AlongEdges.{init_below, caught_point}
use Rattle.flow_typing_laws.proofs.ControlFlow.Walking.{Goes, goes_either, goes_before, goes_less, goes_head, goes_waiting, trail_step, Part, part_left, part_right, to_first, statement_to, statement_first, statement_second, Walked, walked_less, walked_then, walked_step, contains_first}
use Rattle.flow_typing_laws.proofs.ControlFlow.WaysWalked.{walked, branch_walked, block_walked, if_walked, if_else_walked, while_walked, loop_walked, round_walked, try_walked, choose_walked}
use Rattle.flow_typing_laws.proofs.ControlFlow.Backing.{variable_of, Real, real_then, real_dead, real_declared, Here, Each, no_uses, each_then, expr_fits, exprs_fit, maybe_fits, target_fits, base_fits, change_fits, thrown_fits, IsCaught}
use Rattle.flow_typing_laws.proofs.ControlFlow.Matching.{Alike, long, behind_alike, beyond_alike, left_one, left_two, left_three, left_more, declared_alike, into_alike, init_alike, stale_within, stale_into, here_of, here_waiting, found_alike, real_step, real_into, init_real, caught_deeper, caught_into, caught_init}

module _ (tell : ℕ → Note) (g : List (Edge ℕ)) where
  -- what is known where a part of a body begins
  pub record Begins (m : ℕ) (x : ℕ) (vs : List Named) (p : Point) : Type 0 where
    pub below : Below m vs
    pub within : p.stale ≤ length vs
    pub real : Real tell g x vs p

  begins_at : (m n x y : ℕ) (vs : List Named) (p : Point) → m ≤ n → Begins m x vs p → Real tell g y vs p → Begins n y vs p
  begins_at m n x y vs p le b r = record { below = below_more m n vs le b.below; within = b.within; real = r }

  -- behind walks from there
  begins_then : (r : Reached) (m n x y : ℕ) (vs : List Named) (p : Point) → m ≤ n → Begins m x vs p → Goes tell g r m x y → Begins n y vs (behind_all vs p r)
  begins_then r m n x y vs p le b t = record { below = below_more m n vs le b.below; within = stale_within vs p r b.within; real = real_then tell g r m x y vs p b.below t b.real }

  -- a step on
  begins_step : (m n y : ℕ) (vs : List Named) (p : Point) → m ≤ n → Leads g m y → Begins m m vs p → Begins n y vs p
  begins_step m n y vs p le l b = begins_at m n m y vs p le b (real_step tell g m y vs p l b.below b.real)

  begins_dead : (m n x y : ℕ) (vs : List Named) (p : Point) → m ≤ n → Begins m x vs p → Begins n y vs (behind_all vs p never)
  begins_dead m n x y vs p le b = record { below = below_more m n vs le b.below; within = stale_within vs p never b.within; real = real_dead tell g y vs p }

  -- from a loop to its next round
  head_goes : (w : Ways) (m x : ℕ) (a : Around) → Leads g m x → Walked tell g w m x (in_loop a m) → Goes tell g (head w) m m m
  head_goes w m x a l k = let le : m ≤ m = omega arith in goes_head tell g w m m x (trail_step tell g m m x le l) (goes_either tell g w.ends w.continues m x m k.ends (k.continues m refl))

  -- behind the init of a `for`
  init_point : (vs : List Named) (p : Point) (n : ℕ) (j : Body) → InitKind j → p ≡ behind_all vs p (ways n j).ends
  init_point vs p n _ no_init = refl
  init_point vs p n _ _ = refl

  within_init : (m k : ℕ) (j : Body) (vs : List Named) → InitKind j → k ≤ length vs → k ≤ length (declaring m j vs)
  within_init m k _ vs no_init l = l
  within_init m k _ vs (declares at i v) l = omega (arith, l)
  within_init m k _ vs (assigns at xs v) l = l
  within_init m k _ vs (modifies at xs c) l = l

  -- what follows a statement that leads to nothing behind it
  dead_backed : (n n' : ℕ) (t : Body) (m : ℕ) (vs : List Named) (vs' : List Variable) (p p' : Point) (c : Option Caught) (d : Option Declared) (a : Around) (tos : List ℕ) → Alike n n' vs vs' p p'
      → Part tell g (statement m a tos ++ edges t (suc m) a) → Begins m m vs p
      → (Alike n n' vs vs' (behind_all vs p never) (behind (length vs') p' never) → HasSimpleParts t → Tells tell (suc m) (notes n t (suc m) vs (behind_all vs p never))
      → Part tell g (edges t (suc m) a)
      → Begins (suc m) (first t (suc m) a.follows) vs (behind_all vs p never) → IsCaught tell g c d vs → Each tell g (uses n' vs' (behind (length vs') p' never) c t) (mentions t (suc m) vs d))
      → HasSimpleParts t → Tells tell (suc m) (notes n t (suc m) vs (behind_all vs p never)) → IsCaught tell g c d vs
      → Each tell g (uses n' vs' (behind (length vs') p' never) c t) (mentions t (suc m) vs d)
  dead_backed n n' t m vs vs' p p' c d a tos e i r rest s h k =
      let up : m ≤ suc m = omega arith in
      rest (record { left = e.left; named = e.named; point = behind_alike vs vs' p p' never never e.named e.point refl }) s h (part_right tell g (statement m a tos) (edges t (suc m) a) i)
      (begins_dead m (suc m) m (first t (suc m) a.follows) vs p up r) k

  -- what follows a statement that declares nothing
  next_backed : (n n' : ℕ) (t : Body) (m : ℕ) (vs : List Named) (vs' : List Variable) (p p' : Point) (c : Option Caught) (d : Option Declared) (a : Around)
      → Part tell g (statement m a (first t (suc m) a.follows ∷ []) ++ edges t (suc m) a)
      → Begins m m vs p → (Part tell g (edges t (suc m) a) → Begins (suc m) (first t (suc m) a.follows) vs p → IsCaught tell g c d vs → Each tell g (uses n' vs' p' c t) (mentions t (suc m) vs d))
      → IsCaught tell g c d vs → Each tell g (uses n' vs' p' c t) (mentions t (suc m) vs d)
  next_backed n n' t m vs vs' p p' c d a i r rest k =
      let x = first t (suc m) a.follows in
      let es = statement m a (x ∷ []) in
      let et = edges t (suc m) a in
      let up : m ≤ suc m = omega arith in
      rest (part_right tell g es et i) (begins_step m (suc m) x vs p up (statement_first tell g m a x [] (part_left tell g es et i)) r) k

  mutual
    pub backed : (n n' : ℕ) (b : Body) (m : ℕ) (vs : List Named) (vs' : List Variable) (p p' : Point) (c : Option Caught) (d : Option Declared) (a : Around) → Alike n n' vs vs' p p' → HasSimpleParts b
        → Tells tell m (notes n b m vs p) → Part tell g (edges b m a) → Begins m (first b m a.follows) vs p → IsCaught tell g c d vs → Each tell g (uses n' vs' p' c b) (mentions b m vs d)
    backed n n' End m vs vs' p p' c d a e s h i r k = no_uses
    backed n n' (BlockStmt at b t) m vs vs' p p' c d a e s h i r k =
        let w = block_ways n b in
        let m' = suc m + points b in
        let f = first t m' a.follows in
        let x = first b (suc m) f in
        let hb = tells_first tell (suc m) (notes n b (suc m) vs p) _ h.1 in
        let ht = tells_rest tell (suc m) (points b) (notes n b (suc m) vs p) _ (notes_many n b (suc m) vs p) h.1 in
        let es = statement m a (x ∷ []) in
        let eb = edges b (suc m) (followed_by a f) in
        let et = edges t m' a in
        let is = part_left tell g es eb (part_left tell g (es ++ eb) et i) in
        let ib = part_right tell g es eb (part_left tell g (es ++ eb) et i) in
        let it = part_right tell g (es ++ eb) et i in
        let up : m ≤ suc m = omega arith in
        let up' : m ≤ m' = omega arith in
        let k' = block_walked tell g n b m a f is (walked tell g n b (suc m) vs p (followed_by a f) hb ib) in
        each_then tell g _ _
        (backed n n' b (suc m) vs vs' p p' c d (followed_by a f) e s.1 hb ib (begins_step m (suc m) x vs p up (statement_first tell g m a x [] is) r) k)
        (backed (left n b) (left n' (BlockStmt at b End)) t m' vs vs' (behind_all vs p w.ends) (beyond n' vs' p' (BlockStmt at b End)) c d a
        (record {
          left = left_one n n' (body_groups b) e.left;
          named = e.named;
          point = beyond_alike vs vs' p p' w.ends (block_ways n' b).ends e.named e.point (ap (λ z. (block_ways z b).ends) e.left);
        })
        s.2 ht it (begins_then w.ends m m' m f vs p up' r k'.ends) k)
    backed n n' (IfStmt at q b t) m vs vs' p p' c d a e s h i r k =
        let w = if_ways n b in
        let m' = suc m + points b in
        let f = first t m' a.follows in
        let x = first b (suc m) f in
        let hb = tells_first tell (suc m) (notes n b (suc m) vs p) _ h.1 in
        let ht = tells_rest tell (suc m) (points b) (notes n b (suc m) vs p) _ (notes_many n b (suc m) vs p) h.1 in
        let es = statement m a (x ∷ f ∷ []) in
        let eb = edges b (suc m) (followed_by a f) in
        let et = edges t m' a in
        let is = part_left tell g es eb (part_left tell g (es ++ eb) et i) in
        let ib = part_right tell g es eb (part_left tell g (es ++ eb) et i) in
        let it = part_right tell g (es ++ eb) et i in
        let up : m ≤ suc m = omega arith in
        let up' : m ≤ m' = omega arith in
        let k' = if_walked tell g n b m a f is (walked tell g n b (suc m) vs p (followed_by a f) hb ib) in
        each_then tell g _ _
        (each_then tell g _ _ (found_alike tell g (λ v z. expr_uses v z q) vs vs' p p' _ e.named e.point (expr_fits tell g m vs p q (here_of tell g m vs p h.0 r.real)))
        (backed n n' b (suc m) vs vs' p p' c d (followed_by a f) e s.1 hb ib (begins_step m (suc m) x vs p up (statement_first tell g m a x (f ∷ []) is) r) k))
        (backed (left n b) (left n' (IfStmt at q b End)) t m' vs vs' (behind_all vs p w.ends) (beyond n' vs' p' (IfStmt at q b End)) c d a
        (record { left = left_one n n' (body_groups b) e.left; named = e.named; point = beyond_alike vs vs' p p' w.ends (if_ways n' b).ends e.named e.point (ap (λ z. (if_ways z b).ends) e.left) })
        s.2 ht it (begins_then w.ends m m' m f vs p up' r k'.ends) k)
    backed n n' (IfElseStmt at q b o t) m vs vs' p p' c d a e s h i r k =
        let w = if_else_ways n b o in
        let l = suc m + points b in
        let m' = l + points o in
        let f = first t m' a.follows in
        let x = first b (suc m) f in
        let y = first o l f in
        let hb = tells_first tell (suc m) (notes n b (suc m) vs p) _ h.1 in
        let hr = tells_rest tell (suc m) (points b) (notes n b (suc m) vs p) _ (notes_many n b (suc m) vs p) h.1 in
        let ho = tells_first tell l (notes (left n b) o l vs p) _ hr in
        let ht = tells_rest tell l (points o) (notes (left n b) o l vs p) _ (notes_many (left n b) o l vs p) hr in
        let es = statement m a (x ∷ y ∷ []) in
        let eb = edges b (suc m) (followed_by a f) in
        let eo = edges o l (followed_by a f) in
        let et = edges t m' a in
        let i1 = part_left tell g (es ++ eb ++ eo) et i in
        let i2 = part_left tell g (es ++ eb) eo i1 in
        let is = part_left tell g es eb i2 in
        let ib = part_right tell g es eb i2 in
        let io = part_right tell g (es ++ eb) eo i1 in
        let it = part_right tell g (es ++ eb ++ eo) et i in
        let up : m ≤ suc m = omega arith in
        let up' : m ≤ m' = omega arith in
        let up'' : m ≤ l = omega arith in
        let k' = if_else_walked tell g n b o m l a f up'' is (walked tell g n b (suc m) vs p (followed_by a f) hb ib) (walked tell g (left n b) o l vs p (followed_by a f) ho io) in
        each_then tell g _ _
        (each_then tell g _ _
        (each_then tell g _ _ (found_alike tell g (λ v z. expr_uses v z q) vs vs' p p' _ e.named e.point (expr_fits tell g m vs p q (here_of tell g m vs p h.0 r.real)))
        (backed n n' b (suc m) vs vs' p p' c d (followed_by a f) e s.1 hb ib (begins_step m (suc m) x vs p up (statement_first tell g m a x (y ∷ []) is) r) k))
        (backed (left n b) (left n' b) o l vs vs' p p' c d (followed_by a f) (record { left = ap (λ z. left z b) e.left; named = e.named; point = e.point }) s.2 ho io
        (begins_step m l y vs p up'' (statement_second tell g m a x y [] is) r) k))
        (backed (left (left n b) o) (left n' (IfElseStmt at q b o End)) t m' vs vs' (behind_all vs p w.ends) (beyond n' vs' p' (IfElseStmt at q b o End)) c d a
        (record {
          left = left_two n n' (body_groups b) (body_groups o) e.left;
          named = e.named;
          point = beyond_alike vs vs' p p' w.ends (if_else_ways n' b o).ends e.named e.point (ap (λ z. (if_else_ways z b o).ends) e.left);
        })
        s.3 ht it (begins_then w.ends m m' m f vs p up' r k'.ends) k)
    backed n n' (WhileStmt at q b t) m vs vs' p p' c d a e s h i r k =
        let w = looped true (ways n b) in
        let u = behind_all vs p (head (ways n b)) in
        let u' = behind (length vs') p' (head (ways n' b)) in
        let m' = suc m + points b in
        let f = first t m' a.follows in
        let x = first b (suc m) m in
        let hb = tells_first tell (suc m) (notes n b (suc m) vs u) _ h.1 in
        let ht = tells_rest tell (suc m) (points b) (notes n b (suc m) vs u) _ (notes_many n b (suc m) vs u) h.1 in
        let es = statement m a (x ∷ f ∷ []) in
        let eb = edges b (suc m) (in_loop (followed_by a f) m) in
        let et = edges t m' a in
        let is = part_left tell g es eb (part_left tell g (es ++ eb) et i) in
        let ib = part_right tell g es eb (part_left tell g (es ++ eb) et i) in
        let it = part_right tell g (es ++ eb) et i in
        let up : m ≤ suc m = omega arith in
        let up' : m ≤ m' = omega arith in
        let le : m ≤ m = omega arith in
        let kb = walked tell g n b (suc m) vs u (in_loop (followed_by a f) m) hb ib in
        let k' = while_walked tell g n b m a f is kb in
        let l = statement_first tell g m a x (f ∷ []) is in
        let rh = begins_then (head (ways n b)) m m m m vs p le r (head_goes (ways n b) m x (followed_by a f) l (walked_less tell g (ways n b) m (suc m) x (in_loop (followed_by a f) m) up kb)) in
        let pu = behind_alike vs vs' p p' (head (ways n b)) (head (ways n' b)) e.named e.point (ap (λ z. head (ways z b)) e.left) in
        each_then tell g _ _
        (each_then tell g _ _ (found_alike tell g (λ v z. expr_uses v z q) vs vs' u u' _ e.named pu (expr_fits tell g m vs u q (here_of tell g m vs u h.0 rh.real)))
        (backed n n' b (suc m) vs vs' u u' c d (in_loop (followed_by a f) m) (record { left = e.left; named = e.named; point = pu }) s.1 hb ib (begins_step m (suc m) x vs u up l rh) k))
        (backed (left n b) (left n' (WhileStmt at q b End)) t m' vs vs' (behind_all vs p w.ends) (beyond n' vs' p' (WhileStmt at q b End)) c d a
        (record {
          left = left_one n n' (body_groups b) e.left;
          named = e.named;
          point = beyond_alike vs vs' p p' w.ends (looped true (ways n' b)).ends e.named e.point (ap (λ z. (looped true (ways z b)).ends) e.left);
        })
        s.2 ht it (begins_then w.ends m m' m f vs p up' r k'.ends) k)
    backed n n' (ForStmt at j q o b t) m vs vs' p p' c d a e s h i r k =
        let y = m + points j in
        let m'' = suc y + points o in
        let m' = m'' + points b in
        let kind = init_kind j s.0.0 in
        let ws = declaring m j vs in
        let no = left n j in
        let nb = left no o in
        let nt = left nb b in
        let wr = for_round n j o b in
        let w = for_ways n j q o b in
        let p0 = behind_all vs p (ways n j).ends in
        let u = behind_all ws p0 (head wr) in
        let v = behind_all ws u (round (ways nb b)) in
        let f = first t m' a.follows in
        let z = first o (suc y) y in
        let x = first b m'' z in
        let hj = tells_first tell m (notes n j m vs p) _ h in
        let hr = tells_rest tell m (points j) (notes n j m vs p) _ (notes_many n j m vs p) h in
        let ho = tells_first tell (suc y) (notes no o (suc y) ws v) _ hr.1 in
        let hr' = tells_rest tell (suc y) (points o) (notes no o (suc y) ws v) _ (notes_many no o (suc y) ws v) hr.1 in
        let hb = tells_first tell m'' (notes nb b m'' ws u) _ hr' in
        let ht = tells_rest tell m'' (points b) (notes nb b m'' ws u) _ (notes_many nb b m'' ws u) hr' in
        let ej = edges j m (followed_by a y) in
        let es = statement y a (x ∷ control.past q f) in
        let eo = edges o (suc y) (in_step a y) in
        let eb = edges b m'' (in_loop (followed_by a f) z) in
        let et = edges t m' a in
        let i1 = part_left tell g (ej ++ es ++ eo ++ eb) et i in
        let i2 = part_left tell g (ej ++ es ++ eo) eb i1 in
        let i3 = part_left tell g (ej ++ es) eo i2 in
        let ij = part_left tell g ej es i3 in
        let is = part_right tell g ej es i3 in
        let io = part_right tell g (ej ++ es) eo i2 in
        let ib = part_right tell g (ej ++ es ++ eo) eb i1 in
        let it = part_right tell g (ej ++ es ++ eo ++ eb) et i in
        let up : m ≤ y = omega arith in
        let up' : m ≤ m' = omega arith in
        let yy : y ≤ y = omega arith in
        let ys : y ≤ suc y = omega arith in
        let yb : y ≤ m'' = omega arith in
        let mm : m ≤ m = omega arith in
        let kj = walked tell g n j m vs p (followed_by a y) hj ij in
        let kb = walked tell g nb b m'' ws u (in_loop (followed_by a f) z) hb ib in
        let kb' = walked_less tell g (ways nb b) y m'' x (in_loop (followed_by a f) z) yb kb in
        let ko = walked tell g no o (suc y) ws v (in_step a y) ho io in
        let kl = round_walked tell g n j o b q y m'' z a f yb is kb ko in
        let kw = walked_then tell g (ways n j) (looped (is_there q) wr) m (first j m y) y (followed_by a f) kj (walked_less tell g (looped (is_there q) wr) m y y (followed_by a f) up kl) in
        let l = statement_first tell g y a x (control.past q f) is in
        let kr = walked_step tell g (ways nb b) (ways no o) y x z y (followed_by a f) kb' (walked_less tell g (ways no o) y (suc y) z (in_step a y) ys ko) in
        let below_y = init_below tell j m vs kind r.below in
        let w0 = stale_within vs p (ways n j).ends r.within in
        let r0 : Begins y y ws p0 = record {
          below = below_y;
          within = within_init m p0.stale j vs kind w0;
          real = subst (λ q. Real tell g y ws q) (init_point vs p n j kind) (init_real tell g j m vs p a kind ij r.below r.within r.real);
        } in
        let ru = begins_then (head wr) y y y y ws p0 yy r0 (head_goes wr y x (followed_by a f) l kr) in
        let rv = begins_then (round (ways nb b)) y (suc y) y z ws u ys ru
        (goes_before tell g (round (ways nb b)) y y x z (trail_step tell g y y x yy l) (goes_either tell g (ways nb b).ends (ways nb b).continues y x z kb'.ends (kb'.continues z refl))) in
        let ews = init_alike m j vs vs' kind e.named in
        let ep0 = behind_alike vs vs' p p' (ways n j).ends (ways n' j).ends e.named e.point (ap (λ z. (ways z j).ends) e.left) in
        let wr' = for_round n' j o b in
        let vs'' = rule.declaring vs' j in
        let u' = behind (length vs'') (beyond n' vs' p' j) (head wr') in
        let v' = behind (length vs'') u' (round (ways (left (left n' j) o) b)) in
        let eu = behind_alike ws vs'' p0 (beyond n' vs' p' j) (head wr) (head wr') ews ep0 (ap (λ z. head (for_round z j o b)) e.left) in
        let ev = behind_alike ws vs'' u u' (round (ways nb b)) (round (ways (left (left n' j) o) b)) ews eu (ap (λ z. round (ways (left (left z j) o) b)) e.left) in
        let kc = caught_init tell g m j c d vs kind k in
        each_then tell g _ _
        (each_then tell g _ _
        (each_then tell g _ _
        (each_then tell g _ _ (backed n n' j m vs vs' p p' c d (followed_by a y) e s.1 hj ij r k)
        (found_alike tell g (λ v z. maybe_uses v z q) ws vs'' u u' _ ews eu (maybe_fits tell g y ws u q (here_of tell g y ws u hr.0 ru.real))))
        (backed no (left n' j) o (suc y) ws vs'' v v' c d (in_step a y) (record { left = ap (λ z. left z j) e.left; named = ews; point = ev }) (s.2) ho io rv kc))
        (backed nb (left (left n' j) o) b m'' ws vs'' u u' c d (in_loop (followed_by a f) z) (record { left = ap (λ z. left (left z j) o) e.left; named = ews; point = eu }) s.3 hb ib
        (begins_step y m'' x ws u yb l ru) kc))
        (backed nt (left n' (ForStmt at j q o b End)) t m' vs vs' (behind_all vs p w.ends) (beyond n' vs' p' (ForStmt at j q o b End)) c d a
        (record {
          left = left_three n n' (body_groups j) (body_groups o) (body_groups b) e.left;
          named = e.named;
          point = beyond_alike vs vs' p p' w.ends (for_ways n' j q o b).ends e.named e.point (ap (λ z. (for_ways z j q o b).ends) e.left);
        })
        s.4 ht it (begins_then w.ends m m' (first j m y) f vs p up' r kw.ends) k)
    backed n n' (LoopStmt at b t) m vs vs' p p' c d a e s h i r k =
        let w = looped false (ways n b) in
        let u = behind_all vs p (head (ways n b)) in
        let u' = behind (length vs') p' (head (ways n' b)) in
        let m' = suc m + points b in
        let f = first t m' a.follows in
        let x = first b (suc m) m in
        let hb = tells_first tell (suc m) (notes n b (suc m) vs u) _ h.1 in
        let ht = tells_rest tell (suc m) (points b) (notes n b (suc m) vs u) _ (notes_many n b (suc m) vs u) h.1 in
        let es = statement m a (x ∷ []) in
        let eb = edges b (suc m) (in_loop (followed_by a f) m) in
        let et = edges t m' a in
        let is = part_left tell g es eb (part_left tell g (es ++ eb) et i) in
        let ib = part_right tell g es eb (part_left tell g (es ++ eb) et i) in
        let it = part_right tell g (es ++ eb) et i in
        let up : m ≤ suc m = omega arith in
        let up' : m ≤ m' = omega arith in
        let le : m ≤ m = omega arith in
        let kb = walked tell g n b (suc m) vs u (in_loop (followed_by a f) m) hb ib in
        let k' = loop_walked tell g n b m a f is kb in
        let l = statement_first tell g m a x [] is in
        let rh = begins_then (head (ways n b)) m m m m vs p le r (head_goes (ways n b) m x (followed_by a f) l (walked_less tell g (ways n b) m (suc m) x (in_loop (followed_by a f) m) up kb)) in
        let pu = behind_alike vs vs' p p' (head (ways n b)) (head (ways n' b)) e.named e.point (ap (λ z. head (ways z b)) e.left) in
        each_then tell g _ _
        (backed n n' b (suc m) vs vs' u u' c d (in_loop (followed_by a f) m) (record { left = e.left; named = e.named; point = pu }) s.1 hb ib (begins_step m (suc m) x vs u up l rh) k)
        (backed (left n b) (left n' (LoopStmt at b End)) t m' vs vs' (behind_all vs p w.ends) (beyond n' vs' p' (LoopStmt at b End)) c d a
        (record {
          left = left_one n n' (body_groups b) e.left;
          named = e.named;
          point = beyond_alike vs vs' p p' w.ends (looped false (ways n' b)).ends e.named e.point (ap (λ z. (looped false (ways z b)).ends) e.left);
        })
        s.2 ht it (begins_then w.ends m m' m f vs p up' r k'.ends) k)
    backed n n' (BreakStmt at t) m vs vs' p p' c d a e s h i r k =
        dead_backed n n' t m vs vs' p p' c d a (listed a.breaks) e i r (backed n n' t (suc m) vs vs' (behind_all vs p never) (behind (length vs') p' never) c d a) s.1 h.1 k
    backed n n' (ContinueStmt at t) m vs vs' p p' c d a e s h i r k =
        dead_backed n n' t m vs vs' p p' c d a (listed a.continues) e i r (backed n n' t (suc m) vs vs' (behind_all vs p never) (behind (length vs') p' never) c d a) s.1 h.1 k
    backed n n' (ReturnStmt at q t) m vs vs' p p' c d a e s h i r k =
        each_then tell g _ _ (found_alike tell g (λ v z. maybe_uses v z q) vs vs' p p' _ e.named e.point (maybe_fits tell g m vs p q (here_of tell g m vs p h.0 r.real)))
        (dead_backed n n' t m vs vs' p p' c d a [] e i r (backed n n' t (suc m) vs vs' (behind_all vs p never) (behind (length vs') p' never) c d a) s.1 h.1 k)
    backed n n' (ThrowStmt at q t) m vs vs' p p' c d a e s h i r k =
        each_then tell g _ _ (found_alike tell g (λ v z. thrown_uses z c at q v) vs vs' p p' _ e.named e.point (thrown_fits tell g m vs p c d at q (here_of tell g m vs p h.0 r.real) k))
        (dead_backed n n' t m vs vs' p p' c d a [] e i r (backed n n' t (suc m) vs vs' (behind_all vs p never) (behind (length vs') p' never) c d a) s.1 h.1 k)
    backed n n' (TryStmt at b q z o t) m vs vs' p p' c d a e s h i r k =
        let w = try_ways n b o in
        let y = suc m + points b in
        let m' = suc y + points o in
        let us = local_at y z ∷ vs in
        let u = behind_all vs p (ways n b).throws in
        let u' = behind (length vs') p' (ways n' b).throws in
        let f = first t m' a.follows in
        let x = first b (suc m) f in
        let x' = first o (suc y) f in
        let hb = tells_first tell (suc m) (notes n b (suc m) vs p) _ h.1 in
        let hr = tells_rest tell (suc m) (points b) (notes n b (suc m) vs p) _ (notes_many n b (suc m) vs p) h.1 in
        let ho = tells_first tell (suc y) (notes (left n b) o (suc y) us u) _ hr.1 in
        let ht = tells_rest tell (suc y) (points o) (notes (left n b) o (suc y) us u) _ (notes_many (left n b) o (suc y) us u) hr.1 in
        let es = statement m a (x ∷ []) in
        let eb = edges b (suc m) (in_try (followed_by a f) y) in
        let eh = leads y (x' ∷ []) in
        let eo = edges o (suc y) (followed_by a f) in
        let et = edges t m' a in
        let i1 = part_left tell g (es ++ eb ++ eh ++ eo) et i in
        let i2 = part_left tell g (es ++ eb ++ eh) eo i1 in
        let i3 = part_left tell g (es ++ eb) eh i2 in
        let is = part_left tell g es eb i3 in
        let ib = part_right tell g es eb i3 in
        let ih = part_right tell g (es ++ eb) eh i2 in
        let io = part_right tell g (es ++ eb ++ eh) eo i1 in
        let it = part_right tell g (es ++ eb ++ eh ++ eo) et i in
        let up : m ≤ suc m = omega arith in
        let up' : m ≤ m' = omega arith in
        let my : m ≤ y = omega arith in
        let mm : m ≤ m = omega arith in
        let yy : y ≤ suc y = omega arith in
        let kb = walked tell g n b (suc m) vs p (in_try (followed_by a f) y) hb ib in
        let ko = walked tell g (left n b) o (suc y) us u (followed_by a f) ho io in
        let k' = try_walked tell g n b o m y a f my is ih kb ko in
        let l = statement_first tell g m a x [] is in
        let l' = to_first tell g y x' [] ih in
        let ry = begins_then (ways n b).throws m y m y vs p my r (goes_before tell g (ways n b).throws m m x y (trail_step tell g m m x mm l)
        (goes_less tell g (ways n b).throws m (suc m) x y up (kb.throws y refl))) in
        let rx = begins_step y (suc y) x' vs u yy l' ry in
        let wu : u.stale ≤ length us = (let q = ry.within in omega (arith, q)) in
        let ro : Begins (suc y) x' us u = record {
          below = below_declared y (local_at y z) vs (caught_point y z) ry.below;
          within = wu;
          real = real_declared tell g y x' (local_at y z) vs u l' (caught_point y z) ry.within rx.real;
        } in
        let eu = behind_alike vs vs' p p' (ways n b).throws (ways n' b).throws e.named e.point (ap (λ z. (ways z b).throws) e.left) in
        each_then tell g _ _
        (each_then tell g _ _ (backed n n' b (suc m) vs vs' p p' c d (in_try (followed_by a f) y) e s.1 hb ib (begins_at m (suc m) m x vs p up r (real_step tell g m x vs p l r.below r.real)) k)
        (backed (left n b) (left n' b) o (suc y) us (rule.caught_as z ∷ vs') u u' (Some (record { number = length vs'; declared = z.at })) (Some (record { at = z.at; point = y })) (followed_by a f)
        (record { left = ap (λ z. left z b) e.left; named = ap (λ l. rule.caught_as z ∷ l) e.named; point = eu }) s.2 ho io ro (refl, inl (sym (long vs vs' e.named), refl))))
        (backed (left (left n b) o) (left n' (TryStmt at b q z o End)) t m' vs vs' (behind_all vs p w.ends) (beyond n' vs' p' (TryStmt at b q z o End)) c d a
        (record {
          left = left_two n n' (body_groups b) (body_groups o) e.left;
          named = e.named;
          point = beyond_alike vs vs' p p' w.ends (try_ways n' b o).ends e.named e.point (ap (λ z. (try_ways z b o).ends) e.left);
        })
        s.3 ht it (begins_then w.ends m m' m f vs p up' r k'.ends) k)
    backed n n' (ChooseStmt at bs t) m vs vs' p p' c d a e s h i r k =
        let w = choose_ways n bs in
        let n'' = n - 1 - length (branch_groups bs) in
        let m' = suc m + branch_points bs in
        let u = behind_all vs p (waited_at n) in
        let u' = behind (length vs') p' (waited_at n') in
        let f = first t m' a.follows in
        let tos = whens bs (suc m) in
        let hb = tells_first tell (suc m) (branch_notes (n - 1) bs (suc m) vs u) _ h.1 in
        let ht = tells_rest tell (suc m) (branch_points bs) (branch_notes (n - 1) bs (suc m) vs u) _ (branch_notes_many (n - 1) bs (suc m) vs u) h.1 in
        let es = statement m a tos in
        let eb = branch_edges bs (suc m) (followed_by a f) in
        let et = edges t m' a in
        let is = part_left tell g es eb (part_left tell g (es ++ eb) et i) in
        let ib = part_right tell g es eb (part_left tell g (es ++ eb) et i) in
        let it = part_right tell g (es ++ eb) et i in
        let counts = ap (λ (x : Note). x.counts) h.0 in
        let up : m ≤ suc m = omega arith in
        let up' : m ≤ m' = omega arith in
        let mm : m ≤ m = omega arith in
        let to_when = λ (y : ℕ) (c : Contains tos y). goes_waiting tell g n m m y mm (statement_to tell g m a tos y is c) counts in
        let k' = choose_walked tell g n bs m a f is counts (branch_walked tell g (n - 1) bs (suc m) vs u (followed_by a f) (waited_at n) m m up hb ib) in
        let eu = behind_alike vs vs' p p' (waited_at n) (waited_at n') e.named e.point (ap waited_at e.left) in
        each_then tell g _ _
        (branch_backed (n - 1) (n' - 1) bs m (suc m) vs vs' p p' u u' c d (followed_by a f) (ap (λ z. z - 1) e.left) e.named e.point eu s.1 hb ib (here_waiting tell g n m vs p h.0 r.real)
        (below_more m (suc m) vs up r.below)
        (stale_within vs p (waited_at n) r.within) (λ y q. real_then tell g (waited_at n) m m y vs p r.below (to_when y q) r.real) k)
        (backed n'' (left n' (ChooseStmt at bs End)) t m' vs vs' (behind_all vs p w.ends) (beyond n' vs' p' (ChooseStmt at bs End)) c d a
        (record {
          left = left_more n n' (branch_waits bs) (branch_groups bs) e.left;
          named = e.named;
          point = beyond_alike vs vs' p p' w.ends (choose_ways n' bs).ends e.named e.point (ap (λ z. (choose_ways z bs).ends) e.left);
        })
        s.2 ht it (begins_then w.ends m m' m f vs p up' r k'.ends) k)
    backed n n' (DeclareStmt at j q t) m vs vs' p p' c d a e s h i r k =
        let ws = declared m j ∷ vs in
        let x = first t (suc m) a.follows in
        let es = statement m a (x ∷ []) in
        let is = part_left tell g es (edges t (suc m) a) i in
        let it = part_right tell g es (edges t (suc m) a) i in
        let l = statement_first tell g m a x [] is in
        let wp : p.stale ≤ length ws = (let z = r.within in omega (arith, z)) in
        let rt : Begins (suc m) x ws p = record {
          below = below_declared m (declared m j) vs (into_point m j) r.below;
          within = wp;
          real = real_declared tell g m x (declared m j) vs p l (into_point m j) r.within (real_step tell g m x vs p l r.below r.real);
        } in
        each_then tell g _ _ (found_alike tell g (λ v z. maybe_uses v z q) vs vs' p p' _ e.named e.point (maybe_fits tell g m vs p q (here_of tell g m vs p h.0 r.real)))
        (backed n n' t (suc m) ws (rule.declared j ∷ vs') p p' c d a (record { left = e.left; named = declared_alike m j vs vs' e.named; point = e.point }) s.1 h.1 it rt
        (caught_deeper tell g c d (declared m j) vs k))
    backed n n' (AssignStmt at xs q t) m vs vs' p p' c d a e s h i r k =
        let here = here_of tell g m vs p h.0 r.real in
        each_then tell g _ _ (each_then tell g _ _ (found_alike tell g (λ v z. target_uses v z xs) vs vs' p p' _ e.named e.point (target_fits tell g m vs p xs here))
        (found_alike tell g (λ v z. expr_uses v z q) vs vs' p p' _ e.named e.point (expr_fits tell g m vs p q here)))
        (next_backed n n' t m vs vs' p p' c d a i r (backed n n' t (suc m) vs vs' p p' c d a e s.1 h.1) k)
    backed n n' (ModifyStmt at xs q t) m vs vs' p p' c d a e s h i r k =
        let here = here_of tell g m vs p h.0 r.real in
        each_then tell g _ _ (each_then tell g _ _ (found_alike tell g (λ v z. target_uses v z xs) vs vs' p p' _ e.named e.point (target_fits tell g m vs p xs here))
        (found_alike tell g (λ v z. change_uses v z q) vs vs' p p' _ e.named e.point (change_fits tell g m vs p q here)))
        (next_backed n n' t m vs vs' p p' c d a i r (backed n n' t (suc m) vs vs' p p' c d a e s.1 h.1) k)
    backed n n' (CallStmt at xs q t) m vs vs' p p' c d a e s h i r k =
        let here = here_of tell g m vs p h.0 r.real in
        each_then tell g _ _ (each_then tell g _ _ (found_alike tell g (λ v z. base_uses v z xs) vs vs' p p' _ e.named e.point (base_fits tell g m vs p xs here))
        (found_alike tell g (λ v z. exprs_uses v z q) vs vs' p p' _ e.named e.point (exprs_fit tell g m vs p q here)))
        (next_backed n n' t m vs vs' p p' c d a i r (backed n n' t (suc m) vs vs' p p' c d a e s.1 h.1) k)
    backed n n' (WaitStmt at q t) m vs vs' p p' c d a e s h i r k =
        let ws = with_into m q.into vs in
        let u = behind_all vs p (waited_at n) in
        let x = first t (suc m) a.follows in
        let es = statement m a (x ∷ []) in
        let is = part_left tell g es (edges t (suc m) a) i in
        let it = part_right tell g es (edges t (suc m) a) i in
        let l = statement_first tell g m a x [] is in
        let mm : m ≤ m = omega arith in
        let wu = stale_within vs p (waited_at n) r.within in
        let rx = real_then tell g (waited_at n) m m x vs p r.below (goes_waiting tell g n m m x mm l (ap (λ (x : Note). x.counts) h.0)) r.real in
        let rt : Begins (suc m) x ws u = record { below = below_into m q.into vs r.below; within = stale_into m u.stale q.into vs wu; real = real_into tell g m x q.into vs u l wu rx } in
        each_then tell g _ _ (found_alike tell g (λ v z. expr_uses v z q.operand) vs vs' p p' _ e.named e.point (expr_fits tell g m vs p q.operand (here_waiting tell g n m vs p h.0 r.real)))
        (backed (n - 1) (left n' (WaitStmt at q End)) t (suc m) ws (rule.with_into vs' q.into) u (beyond n' vs' p' (WaitStmt at q End)) c d a
        (record { left = ap (λ z. z - 1) e.left; named = into_alike m q.into vs vs' e.named; point = beyond_alike vs vs' p p' (waited_at n) (waited_at n') e.named e.point (ap waited_at e.left) }) s.1
        h.1 it rt (caught_into tell g m q.into c d vs k))

    pub branch_backed : (n n' : ℕ) (bs : Branches) (o m : ℕ) (vs : List Named) (vs' : List Variable) (p p' u u' : Point) (c : Option Caught) (d : Option Declared) (a : Around) → n ≡ n'
        → map variable_of vs ≡ vs' → p ≡ p' → u ≡ u' → HaveSimpleParts bs
        → Tells tell m (branch_notes n bs m vs u) → Part tell g (branch_edges bs m a) → Here tell g o vs p → Below m vs → u.stale ≤ length vs → ((y : ℕ) → Contains (whens bs m) y → Real tell g y vs u)
        → IsCaught tell g c d vs
        → Each tell g (branch_uses n' vs' p' u' c bs) (branch_mentions bs o m vs d)
    branch_backed n n' NoBranches o m vs vs' p p' u u' c d a e ev ep eu s h i here b w r k = no_uses
    branch_backed n n' (MoreBranches at q t bs) o m vs vs' p p' u u' c d a e ev ep eu s h i here b w r k =
        let ws = with_into m q.into vs in
        let m' = suc (m + points t) in
        let x = first t (suc m) a.follows in
        let ht = tells_first tell (suc m) (notes n t (suc m) ws u) _ h.1 in
        let z : suc m + points t ≡ m' = omega arith in
        let hb = subst (λ y. Tells tell y (branch_notes (left n t) bs m' vs u)) z
        (tells_rest tell (suc m) (points t) (notes n t (suc m) ws u) (branch_notes (left n t) bs m' vs u) (notes_many n t (suc m) ws u) h.1) in
        let el = leads m (x ∷ []) in
        let et = edges t (suc m) a in
        let eb = branch_edges bs m' a in
        let i1 = part_left tell g (el ++ et) eb i in
        let l = to_first tell g m x [] (part_left tell g el et i1) in
        let up : m ≤ m' = omega arith in
        let rm = r m (contains_first m (whens bs m')) in
        let rt : Begins (suc m) x ws u = record {
          below = below_into m q.into vs b;
          within = stale_into m u.stale q.into vs w;
          real = real_into tell g m x q.into vs u l w (real_step tell g m x vs u l b rm);
        } in
        each_then tell g _ _
        (each_then tell g _ _ (found_alike tell g (λ v z. expr_uses v z q.operand) vs vs' p p' _ ev ep (expr_fits tell g o vs p q.operand here))
        (backed n n' t (suc m) ws (rule.with_into vs' q.into) u u' c d a (record { left = e; named = into_alike m q.into vs vs' ev; point = eu }) s.1 ht (part_right tell g el et i1) rt
        (caught_into tell g m q.into c d vs k)))
        (branch_backed (left n t) (left n' t) bs o m' vs vs' p p' u u' c d a (ap (λ z. left z t) e) ev ep eu s.2 hb (part_right tell g (el ++ et) eb i) here (below_more m m' vs up b) w
        (λ y q. r y (Contains-append_right (m ∷ []) (whens bs m') y q)) k)
