-- The more waits are looked for, the more uses are stale.
use Rattle.std.proofs.Common.{◌≡◌, ℕ, zero, suc, ◌-◌, ◌<◌, ◌≤◌, Bool, true, false, ◌&&◌, ◌||◌, length, refl, sym, ap, ap₂, subst, ◌∙◌, arith, rules}
use Rattle.std.specs.Prelude.{nat_eq, nat_lt}
use Rattle.std.proofs.lemmas.Bool.{false≢true, lt-ltb}
use Rattle.flow_tree.specs.Body.{Body, End, BlockStmt, IfStmt, IfElseStmt, WhileStmt, ForStmt, LoopStmt, BreakStmt, ContinueStmt, ReturnStmt, ThrowStmt, TryStmt, ChooseStmt, DeclareStmt, AssignStmt, ModifyStmt, CallStmt, WaitStmt, Branches, NoBranches, MoreBranches}
use Rattle.flow_ast.specs.Slots.{body_groups, branch_groups}
use Rattle.flow_ast.specs.Typing.{is_there}
use Rattle.flow_staterule.specs.declared.ways.Reached.{Reached}
use Rattle.flow_staterule.specs.declared.ways.Ways.{Ways}
use Rattle.flow_staterule.specs.Ways.{ways, branch_ways, never, at_once, either, onward, is_reached, both, follow, node, plain, sequence, empty, round, with_step, head, past, looped, handled, waited_at}

-- a point that is reached, and behind a wait at least where it was
pub record Grows (r s : Reached) : Type 0 where
  pub reached : is_reached r ≡ is_reached s
  pub waited : r.waited && s.waited ≡ r.waited

or_true : (a : Bool) → a || true ≡ true
or_true true = refl
or_true false = refl

and_self : (a : Bool) → a && a ≡ a
and_self true = refl
and_self false = refl

and_or : (a b : Bool) → b && (a || b) ≡ b
and_or a true = or_true a
and_or a false = refl

or_shuffle : (a b c d : Bool) → (a || b) || (c || d) ≡ (a || c) || (b || d)
or_shuffle a b c d = grind rules

or_kept : (a b c d : Bool) → a && c ≡ a → b && d ≡ b → (a || b) && (c || d) ≡ a || b
or_kept true b c d e f = ap (λ x. x || d) e
or_kept false true c d e f = ap (λ x. c || x) f ∙ or_true c
or_kept false false c d e f = refl

reached_onward : (r s : Reached) → is_reached (onward r s) ≡ is_reached r && is_reached s
reached_onward r s = grind rules

-- behind a wait on the first part of the way, or on the second
onward_kept : (f w r v g x y : Bool) → f || w ≡ g || x → w && x ≡ w → v && r ≡ v → v && y ≡ v
    → ((w && r) || (f && v)) && ((x && r) || (g && y)) ≡ (w && r) || (f && v)
onward_kept f true true v g x y a b c d = ap (λ z. (z && true) || (g && y)) b
onward_kept f true false true g x y a b c d = absurd (false≢true c)
onward_kept true true false false g x y a b c d = refl
onward_kept false true false false g x y a b c d = refl
onward_kept false false r v g x y a b c d = refl
onward_kept true false r false g x y a b c d = refl
onward_kept true false r true true x y a b c d = ap (λ z. (x && r) || z) d ∙ or_true (x && r)
onward_kept true false r true false x y a b c d = ap₂ (λ z t. (z && t) || false) (sym a) c

pub same_grows : (r : Reached) → Grows r r
same_grows r = record { reached = refl; waited = and_self r.waited }

either_grows : (r s t u : Reached) → Grows r s → Grows t u → Grows (either r t) (either s u)
either_grows r s t u g h = record {
  reached = or_shuffle r.fresh t.fresh r.waited t.waited ∙ ap₂ (λ x y. x || y) g.reached h.reached ∙ sym (or_shuffle s.fresh u.fresh s.waited u.waited);
  waited = or_kept r.waited t.waited s.waited u.waited g.waited h.waited;
}

onward_grows : (r s t u : Reached) → Grows r s → Grows t u → Grows (onward r t) (onward s u)
onward_grows r s t u g h = record {
  reached = reached_onward r t ∙ ap₂ (λ x y. x && y) g.reached h.reached ∙ sym (reached_onward s u);
  waited =
      subst (λ x. ((r.waited && is_reached t) || (r.fresh && t.waited)) && ((s.waited && x) || (s.fresh && u.waited)) ≡ (r.waited && is_reached t) || (r.fresh && t.waited)) h.reached
      (onward_kept r.fresh r.waited (is_reached t) t.waited s.fresh s.waited u.waited g.reached g.waited (and_or t.fresh t.waited) h.waited);
}

pub record WaysGrow (w v : Ways) : Type 0 where
  pub ends : Grows w.ends v.ends
  pub breaks : Grows w.breaks v.breaks
  pub continues : Grows w.continues v.continues
  pub throws : Grows w.throws v.throws

same_ways_grow : (w : Ways) → WaysGrow w w
same_ways_grow w = record { ends = same_grows w.ends; breaks = same_grows w.breaks; continues = same_grows w.continues; throws = same_grows w.throws }

both_grow : (w v u t : Ways) → WaysGrow w v → WaysGrow u t → WaysGrow (both w u) (both v t)
both_grow w v u t g h = record {
  ends = either_grows w.ends v.ends u.ends t.ends g.ends h.ends;
  breaks = either_grows w.breaks v.breaks u.breaks t.breaks g.breaks h.breaks;
  continues = either_grows w.continues v.continues u.continues t.continues g.continues h.continues;
  throws = either_grows w.throws v.throws u.throws t.throws g.throws h.throws;
}

follow_grow : (r s : Reached) (w v : Ways) → Grows r s → WaysGrow w v → WaysGrow (follow r w) (follow s v)
follow_grow r s w v g h = record {
  ends = onward_grows r s w.ends v.ends g h.ends;
  breaks = onward_grows r s w.breaks v.breaks g h.breaks;
  continues = onward_grows r s w.continues v.continues g h.continues;
  throws = onward_grows r s w.throws v.throws g h.throws;
}

-- by one kind of walks, or by others that go on
then_grows : (a b r s t u : Reached) → Grows a b → Grows r s → Grows t u → Grows (either a (onward r t)) (either b (onward s u))
then_grows a b r s t u g h k = either_grows a b (onward r t) (onward s u) g (onward_grows r s t u h k)

sequence_grow : (w v u t : Ways) → WaysGrow w v → WaysGrow u t → WaysGrow (sequence w u) (sequence v t)
sequence_grow w v u t g h = record {
  ends = onward_grows w.ends v.ends u.ends t.ends g.ends h.ends;
  breaks = then_grows w.breaks v.breaks w.ends v.ends u.breaks t.breaks g.breaks g.ends h.breaks;
  continues = then_grows w.continues v.continues w.ends v.ends u.continues t.continues g.continues g.ends h.continues;
  throws = then_grows w.throws v.throws w.ends v.ends u.throws t.throws g.throws g.ends h.throws;
}

pub round_grows : (w v : Ways) → WaysGrow w v → Grows (round w) (round v)
round_grows w v g = either_grows w.ends v.ends w.continues v.continues g.ends g.continues

pub with_step_grow : (w v u t : Ways) → WaysGrow w v → WaysGrow u t → WaysGrow (with_step w u) (with_step v t)
with_step_grow w v u t g h = record {
  ends = onward_grows (round w) (round v) u.ends t.ends (round_grows w v g) h.ends;
  breaks = g.breaks;
  continues = same_grows never;
  throws = then_grows w.throws v.throws (round w) (round v) u.throws t.throws g.throws (round_grows w v g) h.throws;
}

pub head_grows : (w v : Ways) → WaysGrow w v → Grows (head w) (head v)
head_grows w v g = record { reached = refl; waited = (round_grows w v g).waited }

past_grows : (leads : Bool) (r s : Reached) → Grows r s → Grows (past leads r) (past leads s)
past_grows true r s g = g
past_grows false r s g = same_grows never

looped_grow : (leads : Bool) (w v : Ways) → WaysGrow w v → WaysGrow (looped leads w) (looped leads v)
looped_grow leads w v g = record {
  ends = then_grows (past leads (head w)) (past leads (head v)) (head w) (head v) w.breaks v.breaks (past_grows leads (head w) (head v) (head_grows w v g)) (head_grows w v g) g.breaks;
  breaks = same_grows never;
  continues = same_grows never;
  throws = then_grows (head w) (head v) (head w) (head v) w.throws v.throws (head_grows w v g) (head_grows w v g) g.throws;
}

handled_grow : (w v u t : Ways) → WaysGrow w v → WaysGrow u t → WaysGrow (handled w u) (handled v t)
handled_grow w v u t g h = record {
  ends = then_grows w.ends v.ends w.throws v.throws u.ends t.ends g.ends g.throws h.ends;
  breaks = then_grows w.breaks v.breaks w.throws v.throws u.breaks t.breaks g.breaks g.throws h.breaks;
  continues = then_grows w.continues v.continues w.throws v.throws u.continues t.continues g.continues g.throws h.continues;
  throws = then_grows at_once at_once w.throws v.throws u.throws t.throws (same_grows at_once) g.throws h.throws;
}

behind_wait : (n : ℕ) → nat_lt 0 (suc n) ≡ true
behind_wait n = let some : 0 < suc n = omega arith in lt-ltb 0 (suc n) some

waited_reached : (n : ℕ) → is_reached (waited_at (suc n)) ≡ true
waited_reached n = ap (λ b. nat_eq (suc n) 0 || b) (behind_wait n) ∙ or_true (nat_eq (suc n) 0)

and_true : (a : Bool) → a && true ≡ a
and_true true = refl
and_true false = refl

pub waited_grows : (n m : ℕ) → n ≤ m → Grows (waited_at n) (waited_at m)
waited_grows zero zero le = same_grows (waited_at zero)
waited_grows zero (suc m) le = record { reached = sym (waited_reached m); waited = refl }
waited_grows (suc n) zero le = absurd (omega (arith, le))
waited_grows (suc n) (suc m) le = record {
  reached = waited_reached n ∙ sym (waited_reached m);
  waited = ap (λ b. nat_lt 0 (suc n) && b) (behind_wait m) ∙ and_true (nat_lt 0 (suc n));
}

plain_grow : (r s : Reached) → Grows r s → WaysGrow (plain r) (plain s)
plain_grow r s g = record { ends = g; breaks = same_grows never; continues = same_grows never; throws = g }

-- fewer and more waits are left behind the same part
pub less : {n m : ℕ} (k : ℕ) → n ≤ m → n - k ≤ m - k
less k le = omega (arith, le)

mutual
  pub ways_grow : (n m : ℕ) (b : Body) → n ≤ m → WaysGrow (ways n b) (ways m b)
  ways_grow n m End le = same_ways_grow empty
  ways_grow n m (BlockStmt at b k) le =
      sequence_grow _ _ _ _ (both_grow _ _ _ _ (same_ways_grow (node at_once)) (ways_grow n m b le)) (ways_grow _ _ k (less (length (body_groups b)) le))
  ways_grow n m (IfStmt at e b k) le =
      sequence_grow _ _ _ _ (both_grow _ _ _ _ (same_ways_grow (plain at_once)) (ways_grow n m b le)) (ways_grow _ _ k (less (length (body_groups b)) le))
  ways_grow n m (IfElseStmt at e b c k) le =
      let le' = less (length (body_groups b)) le in
      sequence_grow _ _ _ _ (both_grow _ _ _ _ (same_ways_grow (node at_once)) (both_grow _ _ _ _ (ways_grow n m b le) (ways_grow _ _ c le')))
      (ways_grow _ _ k (less (length (body_groups c)) le'))
  ways_grow n m (WhileStmt at e b k) le = sequence_grow _ _ _ _ (looped_grow true _ _ (ways_grow n m b le)) (ways_grow _ _ k (less (length (body_groups b)) le))
  ways_grow n m (ForStmt at i e t b k) le =
      let le' = less (length (body_groups i)) le in
      let le'' = less (length (body_groups t)) le' in
      sequence_grow _ _ _ _ (sequence_grow _ _ _ _ (ways_grow n m i le) (looped_grow (is_there e) _ _ (with_step_grow _ _ _ _ (ways_grow _ _ b le'') (ways_grow _ _ t le'))))
      (ways_grow _ _ k (less (length (body_groups b)) le''))
  ways_grow n m (LoopStmt at b k) le = sequence_grow _ _ _ _ (looped_grow false _ _ (ways_grow n m b le)) (ways_grow _ _ k (less (length (body_groups b)) le))
  ways_grow n m (BreakStmt at k) le = same_ways_grow (ways n (BreakStmt at k))
  ways_grow n m (ContinueStmt at k) le = same_ways_grow (ways n (ContinueStmt at k))
  ways_grow n m (ReturnStmt at v k) le = same_ways_grow (node at_once)
  ways_grow n m (ThrowStmt at v k) le = same_ways_grow (node at_once)
  ways_grow n m (TryStmt at b q x h k) le =
      let le' = less (length (body_groups b)) le in
      sequence_grow _ _ _ _ (handled_grow _ _ _ _ (ways_grow n m b le) (ways_grow _ _ h le')) (ways_grow _ _ k (less (length (body_groups h)) le'))
  ways_grow n m (ChooseStmt at bs k) le =
      let le' = less 1 le in
      sequence_grow _ _ _ _ (follow_grow _ _ _ _ (waited_grows n m le) (both_grow _ _ _ _ (same_ways_grow (node at_once)) (branch_ways_grow _ _ bs le')))
      (ways_grow _ _ k (less (length (branch_groups bs)) le'))
  ways_grow n m (DeclareStmt at i v k) le = sequence_grow _ _ _ _ (same_ways_grow (plain at_once)) (ways_grow n m k le)
  ways_grow n m (AssignStmt at xs v k) le = sequence_grow _ _ _ _ (same_ways_grow (plain at_once)) (ways_grow n m k le)
  ways_grow n m (ModifyStmt at xs c k) le = sequence_grow _ _ _ _ (same_ways_grow (plain at_once)) (ways_grow n m k le)
  ways_grow n m (CallStmt at xs es k) le = sequence_grow _ _ _ _ (same_ways_grow (plain at_once)) (ways_grow n m k le)
  ways_grow n m (WaitStmt at w k) le = sequence_grow _ _ _ _ (plain_grow _ _ (waited_grows n m le)) (ways_grow _ _ k (less 1 le))

  branch_ways_grow : (n m : ℕ) (bs : Branches) → n ≤ m → WaysGrow (branch_ways n bs) (branch_ways m bs)
  branch_ways_grow n m NoBranches le = same_ways_grow (node never)
  branch_ways_grow n m (MoreBranches at w b bs) le = both_grow _ _ _ _ (ways_grow n m b le) (branch_ways_grow _ _ bs (less (length (body_groups b)) le))
