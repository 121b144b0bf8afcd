-- For each way out of a body there is a walk.
use Rattle.std.proofs.Common.{◌≡◌, ℕ, suc, ◌+◌, ◌-◌, ◌≤◌, true, false, List, [], ◌∷◌, ◌++◌, length, ap, subst, arith}
use Rattle.std.specs.Prelude.{Contains, nat_lt}
use Rattle.std.proofs.lemmas.Bool.{false≢true}
use Rattle.std.proofs.lemmas.List.Elements.{Contains-append_right}
use Rattle.std.specs.declared.option.Option.{Option}
use Rattle.std.specs.declared.option.Option.TheVariants.{None, Some}
use Rattle.flow_tree.specs.Tree.{ExprTree}
use Rattle.flow_tree.specs.Body.{Body, End, BlockStmt, IfStmt, IfElseStmt, WhileStmt, ForStmt, LoopStmt, BreakStmt, ContinueStmt, ReturnStmt, ThrowStmt, TryStmt, ChooseStmt, DeclareStmt, AssignStmt, ModifyStmt, CallStmt, WaitStmt, Branches, NoBranches, MoreBranches}
use Rattle.flow_ast.specs.Slots.{branch_groups}
use Rattle.flow_ast.specs.Typing.{is_there}
use Rattle.flow_staterule.specs.declared.scope.Point.{Point}
use Rattle.flow_staterule.specs.declared.ways.Reached.{Reached}
use Rattle.flow_staterule.specs.Ways.{ways, branch_ways, at_once, both, follow, node, plain, sequence, empty, round, head, looped, waited_at}
use Rattle.flow_staterule.specs.Uses.{left}
use Rattle.flow_typing_laws.specs.ControlFlow.Graph.{Edge, Leads}
use Rattle.flow_typing_laws.specs.ControlFlow.Control.{points, branch_points, Around, followed_by, in_loop, in_step, in_try, listed, leads, statement, first, whens, edge, edges, branch_edges}
use Rattle.flow_typing_laws.specs.ControlFlow.Control as control
use Rattle.flow_typing_laws.specs.ControlFlow.Mentions.{Named, local_at, declared, with_into, declaring}
use Rattle.flow_typing_laws.proofs.ControlFlow.Notes.{Note, behind_all, block_ways, if_ways, if_else_ways, for_round, for_ways, try_ways, choose_ways, notes, branch_notes, notes_many, branch_notes_many, Tells, tells_first, tells_rest}
use Rattle.flow_typing_laws.proofs.ControlFlow.Walking.{Goes, trail_stay, trail_step, goes_never, goes_waiting, Part, part_left, part_right, to_first, statement_to, statement_first, statement_second, Walked, walked_less, walked_before, walked_then, walked_both, walked_node, walked_plain, walked_wait, walked_looped, walked_step, walked_try, walked_follow, walked_apart, walked_nowhere, walked_choosing, goes_trail, contains_first, contains_listed}

module _ (tell : ℕ → Note) (g : List (Edge ℕ)) where
  past_leads : (e : Option ExprTree) (m : ℕ) (a : Around) (t f : ℕ) → Part tell g (statement m a (t ∷ control.past e f)) → is_there e ≡ true → Leads g m f
  past_leads None m a t f p e = absurd (false≢true e)
  past_leads (Some c) m a t f p e = statement_second tell g m a t f [] p

  empty_walked : (lo m : ℕ) (a : Around) → Walked tell g empty lo a.follows a
  empty_walked lo m a = record {
    ends = record { fresh = λ e. trail_stay tell g lo a.follows; waited = λ e. absurd (false≢true e) };
    breaks = λ t e. goes_never tell g lo a.follows t;
    continues = λ t e. goes_never tell g lo a.follows t;
    throws = λ t e. goes_never tell g lo a.follows t;
  }

  -- Walks from a statement, by those from its parts.
  pub block_walked : (n : ℕ) (c : Body) (m : ℕ) (a : Around) (f : ℕ) → Part tell g (statement m a (first c (suc m) f ∷ [])) → Walked tell g (ways n c) (suc m) (first c (suc m) f) (followed_by a f)
      → Walked tell g (block_ways n c) m m (followed_by a f)
  block_walked n c m a f is k =
      let x = first c (suc m) f in
      let le : m ≤ m = omega arith in
      let up : m ≤ suc m = omega arith in
      walked_both tell g (node at_once) (ways n c) m m (followed_by a f) (walked_node tell g m m (followed_by a f) (x ∷ []) le is)
      (walked_before tell g (ways n c) m m x (followed_by a f) (trail_step tell g m m x le (statement_first tell g m a x [] is)) (walked_less tell g (ways n c) m (suc m) x (followed_by a f) up k))

  pub if_walked : (n : ℕ) (c : Body) (m : ℕ) (a : Around) (f : ℕ) → Part tell g (statement m a (first c (suc m) f ∷ f ∷ [])) → Walked tell g (ways n c) (suc m) (first c (suc m) f) (followed_by a f)
      → Walked tell g (if_ways n c) m m (followed_by a f)
  if_walked n c m a f is k =
      let x = first c (suc m) f in
      let le : m ≤ m = omega arith in
      let up : m ≤ suc m = omega arith in
      walked_both tell g (plain at_once) (ways n c) m m (followed_by a f) (walked_plain tell g m m (followed_by a f) (x ∷ f ∷ []) le is (statement_second tell g m a x f [] is))
      (walked_before tell g (ways n c) m m x (followed_by a f) (trail_step tell g m m x le (statement_first tell g m a x (f ∷ []) is))
      (walked_less tell g (ways n c) m (suc m) x (followed_by a f) up k))

  pub if_else_walked : (n : ℕ) (c d : Body) (m l : ℕ) (a : Around) (f : ℕ) → m ≤ l → Part tell g (statement m a (first c (suc m) f ∷ first d l f ∷ []))
      → Walked tell g (ways n c) (suc m) (first c (suc m) f) (followed_by a f)
      → Walked tell g (ways (left n c) d) l (first d l f) (followed_by a f) → Walked tell g (if_else_ways n c d) m m (followed_by a f)
  if_else_walked n c d m l a f ml is k j =
      let x = first c (suc m) f in
      let y = first d l f in
      let le : m ≤ m = omega arith in
      let up : m ≤ suc m = omega arith in
      walked_both tell g (node at_once) (both (ways n c) (ways (left n c) d)) m m (followed_by a f) (walked_node tell g m m (followed_by a f) (x ∷ y ∷ []) le is)
      (walked_both tell g (ways n c) (ways (left n c) d) m m (followed_by a f)
      (walked_before tell g (ways n c) m m x (followed_by a f) (trail_step tell g m m x le (statement_first tell g m a x (y ∷ []) is))
      (walked_less tell g (ways n c) m (suc m) x (followed_by a f) up k))
      (walked_before tell g (ways (left n c) d) m m y (followed_by a f) (trail_step tell g m m y le (statement_second tell g m a x y [] is))
      (walked_less tell g (ways (left n c) d) m l y (followed_by a f) ml j)))

  pub while_walked : (n : ℕ) (c : Body) (m : ℕ) (a : Around) (f : ℕ) → Part tell g (statement m a (first c (suc m) m ∷ f ∷ []))
      → Walked tell g (ways n c) (suc m) (first c (suc m) m) (in_loop (followed_by a f) m) → Walked tell g (looped true (ways n c)) m m (followed_by a f)
  while_walked n c m a f is k =
      let x = first c (suc m) m in
      let le : m ≤ m = omega arith in
      let up : m ≤ suc m = omega arith in
      walked_looped tell g true (ways n c) m m x (followed_by a f) (x ∷ f ∷ []) le is (statement_first tell g m a x (f ∷ []) is) (λ e. statement_second tell g m a x f [] is)
      (walked_less tell g (ways n c) m (suc m) x (in_loop (followed_by a f) m) up k)

  pub loop_walked : (n : ℕ) (c : Body) (m : ℕ) (a : Around) (f : ℕ) → Part tell g (statement m a (first c (suc m) m ∷ []))
      → Walked tell g (ways n c) (suc m) (first c (suc m) m) (in_loop (followed_by a f) m) → Walked tell g (looped false (ways n c)) m m (followed_by a f)
  loop_walked n c m a f is k =
      let x = first c (suc m) m in
      let le : m ≤ m = omega arith in
      let up : m ≤ suc m = omega arith in
      walked_looped tell g false (ways n c) m m x (followed_by a f) (x ∷ []) le is (statement_first tell g m a x [] is) (λ e. absurd (false≢true e))
      (walked_less tell g (ways n c) m (suc m) x (in_loop (followed_by a f) m) up k)

  -- the rounds of a `for` at y, with its body from l on and its step at z
  pub round_walked : (n : ℕ) (i t c : Body) (e : Option ExprTree) (y l z : ℕ) (a : Around) (f : ℕ) → y ≤ l → Part tell g (statement y a (first c l z ∷ control.past e f))
      → Walked tell g (ways (left (left n i) t) c) l (first c l z) (in_loop (followed_by a f) z) → Walked tell g (ways (left n i) t) (suc y) z (in_step a y)
      → Walked tell g (looped (is_there e) (for_round n i t c)) y y (followed_by a f)
  round_walked n i t c e y l z a f yl is k j =
      let x = first c l z in
      let le : y ≤ y = omega arith in
      let up : y ≤ suc y = omega arith in
      walked_looped tell g (is_there e) (for_round n i t c) y y x (followed_by a f) (x ∷ control.past e f) le is (statement_first tell g y a x (control.past e f) is) (past_leads e y a x f is)
      (walked_step tell g (ways (left (left n i) t) c) (ways (left n i) t) y x z y (followed_by a f)
      (walked_less tell g (ways (left (left n i) t) c) y l x (in_loop (followed_by a f) z) yl k) (walked_less tell g (ways (left n i) t) y (suc y) z (in_step a y) up j))

  pub try_walked : (n : ℕ) (c d : Body) (m y : ℕ) (a : Around) (f : ℕ) → m ≤ y → Part tell g (statement m a (first c (suc m) f ∷ [])) → Part tell g (leads y (first d (suc y) f ∷ []))
      → Walked tell g (ways n c) (suc m) (first c (suc m) f) (in_try (followed_by a f) y)
      → Walked tell g (ways (left n c) d) (suc y) (first d (suc y) f) (followed_by a f) → Walked tell g (try_ways n c d) m m (followed_by a f)
  try_walked n c d m y a f my is ih k j =
      let x = first c (suc m) f in
      let z = first d (suc y) f in
      let le : m ≤ m = omega arith in
      let up : m ≤ suc m = omega arith in
      let up' : m ≤ suc y = omega (arith, my) in
      walked_try tell g (ways n c) (ways (left n c) d) m m x y z (followed_by a f) (x ∷ []) le my is (statement_first tell g m a x [] is) (to_first tell g y z [] ih)
      (walked_less tell g (ways n c) m (suc m) x (in_try (followed_by a f) y) up k) (walked_less tell g (ways (left n c) d) m (suc y) z (followed_by a f) up' j)

  pub choose_walked : (n : ℕ) (bs : Branches) (m : ℕ) (a : Around) (f : ℕ) → Part tell g (statement m a (whens bs (suc m))) → (tell m).counts ≡ nat_lt 0 n
      → (((y : ℕ) → Contains (whens bs (suc m)) y → Goes tell g (waited_at n) m m y) → Walked tell g (follow (waited_at n) (branch_ways (n - 1) bs)) m m (followed_by a f))
      → Walked tell g (choose_ways n bs) m m (followed_by a f)
  choose_walked n bs m a f is counts k =
      let le : m ≤ m = omega arith in
      let tos = whens bs (suc m) in
      walked_apart tell g (waited_at n) (node at_once) (branch_ways (n - 1) bs) m m (followed_by a f) (walked_choosing tell g n m m (followed_by a f) tos le is counts)
      (k (λ y c. goes_waiting tell g n m m y le (statement_to tell g m a tos y is c) counts))

  -- a statement that leads to what follows it
  next_walked : (n : ℕ) (k : Body) (m : ℕ) (a : Around) (f : ℕ) → (Part tell g (edges k (suc m) a) → Walked tell g (ways n k) (suc m) f a) → Part tell g (statement m a (f ∷ []) ++ edges k (suc m) a)
      → Walked tell g (sequence (plain at_once) (ways n k)) m m a
  next_walked n k m a f r i =
      let is = part_left tell g (statement m a (f ∷ [])) (edges k (suc m) a) i in
      let le : m ≤ m = omega arith in
      let up : m ≤ suc m = omega arith in
      walked_then tell g (plain at_once) (ways n k) m m f a (walked_plain tell g m m (followed_by a f) (f ∷ []) le is (statement_first tell g m a f [] is))
      (walked_less tell g (ways n k) m (suc m) f a up (r (part_right tell g (statement m a (f ∷ [])) (edges k (suc m) a) i)))

  mutual
    pub walked : (n : ℕ) (b : Body) (m : ℕ) (vs : List Named) (p : Point) (a : Around) → Tells tell m (notes n b m vs p) → Part tell g (edges b m a)
        → Walked tell g (ways n b) m (first b m a.follows) a
    walked n End m vs p a h i = empty_walked m m a
    walked n (BlockStmt at c k) m vs p a h i =
        let w = block_ways n c in
        let m' = suc m + points c in
        let f = first k m' a.follows in
        let hc = tells_first tell (suc m) (notes n c (suc m) vs p) _ h.1 in
        let hk = tells_rest tell (suc m) (points c) (notes n c (suc m) vs p) _ (notes_many n c (suc m) vs p) h.1 in
        let es = statement m a (first c (suc m) f ∷ []) in
        let ec = edges c (suc m) (followed_by a f) in
        let ek = edges k m' a in
        let is = part_left tell g es ec (part_left tell g (es ++ ec) ek i) in
        let ic = part_right tell g es ec (part_left tell g (es ++ ec) ek i) in
        let ik = part_right tell g (es ++ ec) ek i in
        let up : m ≤ suc m = omega arith in
        let up' : m ≤ m' = omega arith in
        let le : m ≤ m = omega arith in
        walked_then tell g w (ways (left n c) k) m m f a
        (block_walked n c m a f is (walked n c (suc m) vs p (followed_by a f) hc ic))
        (walked_less tell g (ways (left n c) k) m m' f a up' (walked (left n c) k m' vs (behind_all vs p w.ends) a hk ik))
    walked n (IfStmt at e c k) m vs p a h i =
        let w = if_ways n c in
        let m' = suc m + points c in
        let f = first k m' a.follows in
        let hc = tells_first tell (suc m) (notes n c (suc m) vs p) _ h.1 in
        let hk = tells_rest tell (suc m) (points c) (notes n c (suc m) vs p) _ (notes_many n c (suc m) vs p) h.1 in
        let es = statement m a (first c (suc m) f ∷ f ∷ []) in
        let ec = edges c (suc m) (followed_by a f) in
        let ek = edges k m' a in
        let is = part_left tell g es ec (part_left tell g (es ++ ec) ek i) in
        let ic = part_right tell g es ec (part_left tell g (es ++ ec) ek i) in
        let ik = part_right tell g (es ++ ec) ek i in
        let up : m ≤ suc m = omega arith in
        let up' : m ≤ m' = omega arith in
        let le : m ≤ m = omega arith in
        walked_then tell g w (ways (left n c) k) m m f a
        (if_walked n c m a f is (walked n c (suc m) vs p (followed_by a f) hc ic))
        (walked_less tell g (ways (left n c) k) m m' f a up' (walked (left n c) k m' vs (behind_all vs p w.ends) a hk ik))
    walked n (IfElseStmt at e c d k) m vs p a h i =
        let w = if_else_ways n c d in
        let n' = left (left n c) d in
        let m'' = suc m + points c in
        let m' = m'' + points d in
        let f = first k m' a.follows in
        let hc = tells_first tell (suc m) (notes n c (suc m) vs p) _ h.1 in
        let hr = tells_rest tell (suc m) (points c) (notes n c (suc m) vs p) _ (notes_many n c (suc m) vs p) h.1 in
        let hd = tells_first tell m'' (notes (left n c) d m'' vs p) _ hr in
        let hk = tells_rest tell m'' (points d) (notes (left n c) d m'' vs p) _ (notes_many (left n c) d m'' vs p) hr in
        let es = statement m a (first c (suc m) f ∷ first d m'' f ∷ []) in
        let ec = edges c (suc m) (followed_by a f) in
        let ed = edges d m'' (followed_by a f) in
        let ek = edges k m' a in
        let i1 = part_left tell g (es ++ ec ++ ed) ek i in
        let i2 = part_left tell g (es ++ ec) ed i1 in
        let is = part_left tell g es ec i2 in
        let ic = part_right tell g es ec i2 in
        let id = part_right tell g (es ++ ec) ed i1 in
        let ik = part_right tell g (es ++ ec ++ ed) ek i in
        let up : m ≤ suc m = omega arith in
        let up' : m ≤ m' = omega arith in
        let up'' : m ≤ m'' = omega arith in
        let le : m ≤ m = omega arith in
        walked_then tell g w (ways n' k) m m f a
        (if_else_walked n c d m m'' a f up'' is (walked n c (suc m) vs p (followed_by a f) hc ic) (walked (left n c) d m'' vs p (followed_by a f) hd id))
        (walked_less tell g (ways n' k) m m' f a up' (walked n' k m' vs (behind_all vs p w.ends) a hk ik))
    walked n (WhileStmt at e c k) m vs p a h i =
        let w = looped true (ways n c) in
        let m' = suc m + points c in
        let f = first k m' a.follows in
        let q = behind_all vs p (head (ways n c)) in
        let hc = tells_first tell (suc m) (notes n c (suc m) vs q) _ h.1 in
        let hk = tells_rest tell (suc m) (points c) (notes n c (suc m) vs q) _ (notes_many n c (suc m) vs q) h.1 in
        let es = statement m a (first c (suc m) m ∷ f ∷ []) in
        let ec = edges c (suc m) (in_loop (followed_by a f) m) in
        let ek = edges k m' a in
        let is = part_left tell g es ec (part_left tell g (es ++ ec) ek i) in
        let ic = part_right tell g es ec (part_left tell g (es ++ ec) ek i) in
        let ik = part_right tell g (es ++ ec) ek i in
        let up : m ≤ suc m = omega arith in
        let up' : m ≤ m' = omega arith in
        let le : m ≤ m = omega arith in
        walked_then tell g w (ways (left n c) k) m m f a
        (while_walked n c m a f is (walked n c (suc m) vs q (in_loop (followed_by a f) m) hc ic))
        (walked_less tell g (ways (left n c) k) m m' f a up' (walked (left n c) k m' vs (behind_all vs p w.ends) a hk ik))
    walked n (ForStmt at j e t c k) m vs p a h i =
        let y = m + points j in
        let m'' = suc y + points t in
        let m' = m'' + points c in
        let ws = declaring m j vs in
        let nt = left n j in
        let nc = left nt t in
        let nk = left nc c in
        let wr = for_round n j t c in
        let w = for_ways n j e t c in
        let p' = behind_all vs p (ways n j).ends in
        let q = behind_all ws p' (head wr) in
        let r = behind_all ws q (round (ways nc c)) in
        let hi = tells_first tell m (notes n j m vs p) _ h in
        let ho = tells_rest tell m (points j) (notes n j m vs p) _ (notes_many n j m vs p) h in
        let ht = tells_first tell (suc y) (notes nt t (suc y) ws r) _ ho.1 in
        let hr = tells_rest tell (suc y) (points t) (notes nt t (suc y) ws r) _ (notes_many nt t (suc y) ws r) ho.1 in
        let hc = tells_first tell m'' (notes nc c m'' ws q) _ hr in
        let hk = tells_rest tell m'' (points c) (notes nc c m'' ws q) _ (notes_many nc c m'' ws q) hr in
        let f = first k m' a.follows in
        let z = first t (suc y) y in
        let x = first c m'' z in
        let ei = edges j m (followed_by a y) in
        let es = statement y a (x ∷ control.past e f) in
        let et = edges t (suc y) (in_step a y) in
        let ec = edges c m'' (in_loop (followed_by a f) z) in
        let ek = edges k m' a in
        let i1 = part_left tell g (ei ++ es ++ et ++ ec) ek i in
        let i2 = part_left tell g (ei ++ es ++ et) ec i1 in
        let i3 = part_left tell g (ei ++ es) et i2 in
        let is = part_right tell g ei es i3 in
        let le : y ≤ y = omega arith in
        let up : y ≤ suc y = omega arith in
        let up' : m ≤ m' = omega arith in
        let up'' : y ≤ m'' = omega arith in
        let my : m ≤ y = omega arith in
        walked_then tell g w (ways nk k) m (first j m y) f a
        (walked_then tell g (ways n j) (looped (is_there e) wr) m (first j m y) y (followed_by a f)
        (walked n j m vs p (followed_by a y) hi (part_left tell g ei es i3))
        (walked_less tell g (looped (is_there e) wr) m y y (followed_by a f) my
        (round_walked n j t c e y m'' z a f up'' is (walked nc c m'' ws q (in_loop (followed_by a f) z) hc (part_right tell g (ei ++ es ++ et) ec i1))
        (walked nt t (suc y) ws r (in_step a y) ht (part_right tell g (ei ++ es) et i2)))))
        (walked_less tell g (ways nk k) m m' f a up' (walked nk k m' vs (behind_all vs p w.ends) a hk (part_right tell g (ei ++ es ++ et ++ ec) ek i)))
    walked n (LoopStmt at c k) m vs p a h i =
        let w = looped false (ways n c) in
        let m' = suc m + points c in
        let f = first k m' a.follows in
        let q = behind_all vs p (head (ways n c)) in
        let hc = tells_first tell (suc m) (notes n c (suc m) vs q) _ h.1 in
        let hk = tells_rest tell (suc m) (points c) (notes n c (suc m) vs q) _ (notes_many n c (suc m) vs q) h.1 in
        let es = statement m a (first c (suc m) m ∷ []) in
        let ec = edges c (suc m) (in_loop (followed_by a f) m) in
        let ek = edges k m' a in
        let is = part_left tell g es ec (part_left tell g (es ++ ec) ek i) in
        let ic = part_right tell g es ec (part_left tell g (es ++ ec) ek i) in
        let ik = part_right tell g (es ++ ec) ek i in
        let up : m ≤ suc m = omega arith in
        let up' : m ≤ m' = omega arith in
        let le : m ≤ m = omega arith in
        walked_then tell g w (ways (left n c) k) m m f a
        (loop_walked n c m a f is (walked n c (suc m) vs q (in_loop (followed_by a f) m) hc ic))
        (walked_less tell g (ways (left n c) k) m m' f a up' (walked (left n c) k m' vs (behind_all vs p w.ends) a hk ik))
    walked n (BreakStmt at k) m vs p a h i =
        let le : m ≤ m = omega arith in
        let is = part_left tell g (statement m a (listed a.breaks)) (edges k (suc m) a) i in
        let nd = walked_node tell g m m a (listed a.breaks) le is in
        record {
          ends = nd.ends;
          breaks = λ t e. goes_trail tell g m m t (trail_step tell g m m t le (statement_to tell g m a (listed a.breaks) t is (contains_listed a.breaks t e)));
          continues = nd.continues;
          throws = nd.throws;
        }
    walked n (ContinueStmt at k) m vs p a h i =
        let le : m ≤ m = omega arith in
        let is = part_left tell g (statement m a (listed a.continues)) (edges k (suc m) a) i in
        let nd = walked_node tell g m m a (listed a.continues) le is in
        record {
          ends = nd.ends;
          breaks = nd.breaks;
          continues = λ t e. goes_trail tell g m m t
              (trail_step tell g m m t le (statement_to tell g m a (listed a.continues) t is (contains_listed a.continues t e)));
          throws = nd.throws;
        }
    walked n (ReturnStmt at e k) m vs p a h i = let le : m ≤ m = omega arith in walked_node tell g m m a [] le (part_left tell g (statement m a []) (edges k (suc m) a) i)
    walked n (ThrowStmt at e k) m vs p a h i = let le : m ≤ m = omega arith in walked_node tell g m m a [] le (part_left tell g (statement m a []) (edges k (suc m) a) i)
    walked n (TryStmt at c q z d k) m vs p a h i =
        let w = try_ways n c d in
        let n' = left (left n c) d in
        let y = suc m + points c in
        let m' = suc y + points d in
        let t = behind_all vs p (ways n c).throws in
        let us = local_at y z ∷ vs in
        let f = first k m' a.follows in
        let hc = tells_first tell (suc m) (notes n c (suc m) vs p) _ h.1 in
        let hg = tells_rest tell (suc m) (points c) (notes n c (suc m) vs p) _ (notes_many n c (suc m) vs p) h.1 in
        let hd = tells_first tell (suc y) (notes (left n c) d (suc y) us t) _ hg.1 in
        let hk = tells_rest tell (suc y) (points d) (notes (left n c) d (suc y) us t) _ (notes_many (left n c) d (suc y) us t) hg.1 in
        let es = statement m a (first c (suc m) f ∷ []) in
        let ec = edges c (suc m) (in_try (followed_by a f) y) in
        let eh = leads y (first d (suc y) f ∷ []) in
        let ed = edges d (suc y) (followed_by a f) in
        let ek = edges k m' a in
        let i1 = part_left tell g (es ++ ec ++ eh ++ ed) ek i in
        let i2 = part_left tell g (es ++ ec ++ eh) ed i1 in
        let i3 = part_left tell g (es ++ ec) eh i2 in
        let is = part_left tell g es ec i3 in
        let le : m ≤ m = omega arith in
        let up : m ≤ suc m = omega arith in
        let up' : m ≤ m' = omega arith in
        let my : m ≤ y = omega arith in
        let my' : m ≤ suc y = omega arith in
        walked_then tell g w (ways n' k) m m f a
        (try_walked n c d m y a f my is (part_right tell g (es ++ ec) eh i2) (walked n c (suc m) vs p (in_try (followed_by a f) y) hc (part_right tell g es ec i3))
        (walked (left n c) d (suc y) us t (followed_by a f) hd (part_right tell g (es ++ ec ++ eh) ed i1)))
        (walked_less tell g (ways n' k) m m' f a up' (walked n' k m' vs (behind_all vs p w.ends) a hk (part_right tell g (es ++ ec ++ eh ++ ed) ek i)))
    walked n (ChooseStmt at bs k) m vs p a h i =
        let w = choose_ways n bs in
        let n' = n - 1 - length (branch_groups bs) in
        let m' = suc m + branch_points bs in
        let q = behind_all vs p (waited_at n) in
        let f = first k m' a.follows in
        let hc = tells_first tell (suc m) (branch_notes (n - 1) bs (suc m) vs q) _ h.1 in
        let hk = tells_rest tell (suc m) (branch_points bs) (branch_notes (n - 1) bs (suc m) vs q) _ (branch_notes_many (n - 1) bs (suc m) vs q) h.1 in
        let tos = whens bs (suc m) in
        let es = statement m a tos in
        let ec = branch_edges bs (suc m) (followed_by a f) in
        let ek = edges k m' a in
        let is = part_left tell g es ec (part_left tell g (es ++ ec) ek i) in
        let ic = part_right tell g es ec (part_left tell g (es ++ ec) ek i) in
        let counts = ap (λ (x : Note). x.counts) h.0 in
        let le : m ≤ m = omega arith in
        let up : m ≤ suc m = omega arith in
        let up' : m ≤ m' = omega arith in
        walked_then tell g w (ways n' k) m m f a
        (choose_walked n bs m a f is counts (branch_walked (n - 1) bs (suc m) vs q (followed_by a f) (waited_at n) m m up hc ic))
        (walked_less tell g (ways n' k) m m' f a up' (walked n' k m' vs (behind_all vs p w.ends) a hk (part_right tell g (es ++ ec) ek i)))
    walked n (DeclareStmt at j e k) m vs p a h i = next_walked n k m a _ (walked n k (suc m) (declared m j ∷ vs) p a h.1) i
    walked n (AssignStmt at xs e k) m vs p a h i = next_walked n k m a _ (walked n k (suc m) vs p a h.1) i
    walked n (ModifyStmt at xs c k) m vs p a h i = next_walked n k m a _ (walked n k (suc m) vs p a h.1) i
    walked n (CallStmt at xs es k) m vs p a h i = next_walked n k m a _ (walked n k (suc m) vs p a h.1) i
    walked n (WaitStmt at w k) m vs p a h i =
        let f = first k (suc m) a.follows in
        let es = statement m a (f ∷ []) in
        let ek = edges k (suc m) a in
        let is = part_left tell g es ek i in
        let le : m ≤ m = omega arith in
        let up : m ≤ suc m = omega arith in
        walked_then tell g (plain (waited_at n)) (ways (n - 1) k) m m f a
        (walked_wait tell g n m m (followed_by a f) (f ∷ []) le is (statement_first tell g m a f [] is) (ap (λ (x : Note). x.counts) h.0))
        (walked_less tell g (ways (n - 1) k) m (suc m) f a up (walked (n - 1) k (suc m) (with_into m w.into vs) (behind_all vs p (waited_at n)) a h.1 (part_right tell g es ek i)))

    pub branch_walked : (n : ℕ) (bs : Branches) (m : ℕ) (vs : List Named) (q : Point) (a : Around) (r : Reached) (lo x : ℕ) → lo ≤ m → Tells tell m (branch_notes n bs m vs q)
        → Part tell g (branch_edges bs m a)
        → ((y : ℕ) → Contains (whens bs m) y → Goes tell g r lo x y) → Walked tell g (follow r (branch_ways n bs)) lo x a
    branch_walked n NoBranches m vs q a r lo x le h i f = walked_nowhere tell g r lo x a
    branch_walked n (MoreBranches at w c bs) m vs q a r lo x le h i f =
        let ws = with_into m w.into vs in
        let m' = suc (m + points c) in
        let y = first c (suc m) a.follows in
        let hc = tells_first tell (suc m) (notes n c (suc m) ws q) _ h.1 in
        let e : suc m + points c ≡ m' = omega arith in
        let hr = subst (λ z. Tells tell z (branch_notes (left n c) bs m' vs q)) e
        (tells_rest tell (suc m) (points c) (notes n c (suc m) ws q) (branch_notes (left n c) bs m' vs q) (notes_many n c (suc m) ws q) h.1) in
        let el = leads m (y ∷ []) in
        let ec = edges c (suc m) a in
        let eb = branch_edges bs m' a in
        let i1 = part_left tell g (el ++ ec) eb i in
        let le' : lo ≤ m' = omega (arith, le) in
        let le'' : lo ≤ suc m = omega (arith, le) in
        walked_apart tell g r (ways n c) (branch_ways (left n c) bs) lo x a
        (walked_follow tell g r (ways n c) lo x m a (f m (contains_first m (whens bs m')))
        (walked_before tell g (ways n c) lo m y a (trail_step tell g lo m y le (to_first tell g m y [] (part_left tell g el ec i1)))
        (walked_less tell g (ways n c) lo (suc m) y a le'' (walked n c (suc m) ws q a hc (part_right tell g el ec i1)))))
        (branch_walked (left n c) bs m' vs q a r lo x le' hr (part_right tell g (el ++ ec) eb i) (λ z z'. f z (Contains-append_right (m ∷ []) (whens bs m') z z')))
