-- The test by structure says what the ways out say.
use Rattle.std.proofs.Common.{◌≡◌, ℕ, ◌-◌, Bool, true, false, ◌||◌, ◌&&◌, length, refl, sym, ap, ap₂, ◌∙◌, rules}
use Rattle.std.proofs.lemmas.Bool.{false≢true, true≢false}
use Rattle.flow_tree.specs.Body.{Body, End, BlockStmt, IfStmt, IfElseStmt, WhileStmt, ForStmt, LoopStmt, TryStmt, ChooseStmt, DeclareStmt, AssignStmt, ModifyStmt, CallStmt, WaitStmt, Branches, NoBranches, MoreBranches}
use Rattle.flow_tree.proofs.ForParts.{InitKind, no_init, declares, assigns, modifies, init_kind}
use Rattle.flow_ast.specs.Slots.{branch_groups}
use Rattle.flow_ast.specs.Typing.{is_there}
use Rattle.flow_ast.specs.Leaving.{has_statement}
use Rattle.flow_rules.specs.Closing as closing
use Rattle.flow_staterule.specs.declared.ways.Reached.{Reached}
use Rattle.flow_staterule.specs.declared.ways.Ways.{Ways}
use Rattle.flow_staterule.specs.Ways.{ways, branch_ways, never, at_once, either, is_reached, onward, both, follow, node, plain, sequence, with_step, head, past, looped, handled, waited_at}
use Rattle.flow_staterule.specs.Uses.{left}
use Rattle.flow_typing_laws.specs.ControlFlow.Laws.{HasSimpleParts, HaveSimpleParts}
use Rattle.flow_typing_laws.proofs.ControlFlow.Flowing.{waited_reached}

pub record Same (c : closing.Ways) (w : Ways) : Type 0 where
  pub end : c.end ≡ is_reached w.ends
  pub breaks : c.breaks ≡ is_reached w.breaks

reached_onward : (r s : Reached) → is_reached (onward r s) ≡ is_reached r && is_reached s
reached_onward r s = grind rules

reached_either : (r s : Reached) → is_reached (either r s) ≡ is_reached r || is_reached s
reached_either r s = grind rules

or_false : (a : Bool) → a || false ≡ a
or_false true = refl
or_false false = refl

same_then : (c d : closing.Ways) (w v : Ways) → Same c w → Same d v → Same (closing.and_then c d) (sequence w v)
same_then c d w v s t = record {
  end = ap₂ (λ x y. x && y) s.end t.end ∙ sym (reached_onward w.ends v.ends);
  breaks = ap₂ (λ x y. x || y) s.breaks (ap₂ (λ x y. x && y) s.end t.breaks ∙ sym (reached_onward w.ends v.breaks)) ∙ sym (reached_either w.breaks (onward w.ends v.breaks));
}

same_either : (c d : closing.Ways) (w v : Ways) → Same c w → Same d v → Same (closing.either c d) (both w v)
same_either c d w v s t = record {
  end = ap₂ (λ x y. x || y) s.end t.end ∙ sym (reached_either w.ends v.ends);
  breaks = ap₂ (λ x y. x || y) s.breaks t.breaks ∙ sym (reached_either w.breaks v.breaks);
}

swapped : (a b : Bool) → a || b ≡ b || a
swapped true true = refl
swapped true false = refl
swapped false true = refl
swapped false false = refl

-- an `if` without an `else`
same_if : (c : closing.Ways) (w : Ways) → Same c w → Same (closing.either c closing.past) (both (plain at_once) w)
same_if c w s = record {
  end = swapped c.end true;
  breaks = or_false c.breaks ∙ s.breaks;
}

reached_past : (leads : Bool) (w : Ways) → is_reached (past leads (head w)) ≡ leads
reached_past true w = refl
reached_past false w = refl

same_looped : (leads : Bool) (c : closing.Ways) (w : Ways) → c.breaks ≡ is_reached w.breaks → Same (closing.looped leads c) (looped leads w)
same_looped leads c w e = record {
  end = ap₂ (λ x y. x || y) (sym (reached_past leads w)) (e ∙ sym (reached_onward (head w) w.breaks)) ∙ sym (reached_either (past leads (head w)) (onward (head w) w.breaks));
  breaks = refl;
}

same_handled : (some : Bool) (c d : closing.Ways) (w v : Ways) → some ≡ is_reached w.throws → (some ≡ false → c.end ≡ true) → Same c w → Same d v → Same (closing.handled some c d) (handled w v)
same_handled some c d w v e f s t = record {
  end = cut some c.end d.end f ∙ ap₂ (λ x y. x || y) s.end (ap₂ (λ x y. x && y) e t.end ∙ sym (reached_onward w.throws v.ends)) ∙ sym (reached_either w.ends (onward w.throws v.ends));
  breaks = ap₂ (λ x y. x || y) s.breaks (ap₂ (λ x y. x && y) e t.breaks ∙ sym (reached_onward w.throws v.breaks)) ∙ sym (reached_either w.breaks (onward w.throws v.breaks));
}
  where
    cut : (x y z : Bool) → (x ≡ false → y ≡ true) → y || z ≡ y || (x && z)
    cut true y z f = refl
    cut false true z f = refl
    cut false false z f = absurd (false≢true (f refl))

same_follow : (n : ℕ) (c : closing.Ways) (w : Ways) → Same c w → Same c (follow (waited_at n) w)
same_follow n c w s = record {
  end = s.end ∙ sym (reached_onward (waited_at n) w.ends ∙ ap (λ x. x && is_reached w.ends) (waited_reached n));
  breaks = s.breaks ∙ sym (reached_onward (waited_at n) w.breaks ∙ ap (λ x. x && is_reached w.breaks) (waited_reached n));
}

-- what only adds ways to the catch around
same_node : (c : closing.Ways) (w : Ways) → Same c w → Same c (both (node at_once) w)
same_node c w s = record { end = s.end; breaks = s.breaks }

same_plain : (n : ℕ) (c : closing.Ways) (v : Ways) → Same c v → Same c (sequence (plain at_once) v)
same_plain n c v s = record { end = s.end; breaks = s.breaks }

same_waiting : (n : ℕ) (c : closing.Ways) (v : Ways) → Same c v → Same c (sequence (plain (waited_at n)) v)
same_waiting n c v s = record {
  end = s.end ∙ sym (reached_onward (waited_at n) v.ends ∙ ap (λ x. x && is_reached v.ends) (waited_reached n));
  breaks = s.breaks ∙ sym (reached_either never (onward (waited_at n) v.breaks) ∙ reached_onward (waited_at n) v.breaks ∙ ap (λ x. x && is_reached v.breaks) (waited_reached n));
}

-- the parts of a `for`
same_init : (n : ℕ) (i : Body) (w : Ways) (c : closing.Ways) → InitKind i → Same c w → Same c (sequence (ways n i) w)
same_init n _ w c no_init s = record { end = s.end; breaks = s.breaks }
same_init n _ w c _ s = record { end = s.end; breaks = s.breaks }

-- a body is left to the catch around it where it has a statement
first_true : (a b : Bool) → a ≡ true → a || b ≡ true
first_true true b e = refl
first_true false b e = absurd (false≢true e)

reached_first : (r s : Reached) → is_reached r ≡ true → is_reached (either r s) ≡ true
reached_first r s e = reached_either r s ∙ first_true (is_reached r) (is_reached s) e

throws_for : (n : ℕ) (i : Body) (w v : Ways) → InitKind i → is_reached w.throws ≡ true → is_reached (sequence (sequence (ways n i) w) v).throws ≡ true
throws_for n _ w v no_init e = reached_first (either never (onward at_once w.throws)) _ e
throws_for n _ w v (declares at i x) e = refl
throws_for n _ w v (assigns at xs x) e = refl
throws_for n _ w v (modifies at xs x) e = refl

throws_there : (n : ℕ) (b : Body) → HasSimpleParts b → has_statement b ≡ is_reached (ways n b).throws
throws_there n (ForStmt at i e t b k) s = sym (throws_for n i (looped (is_there e) (with_step (ways (left (left n i) t) b) (ways (left n i) t))) (ways (left (left (left n i) t) b) k)
    (init_kind i s.0.0) refl)
throws_there n (ChooseStmt at bs k) s =
    sym (reached_first (onward (waited_at n) (either at_once (branch_ways (n - 1) bs).throws)) _
    (reached_onward (waited_at n) (either at_once (branch_ways (n - 1) bs).throws) ∙ ap (λ x. x && true) (waited_reached n)))
throws_there n (WaitStmt at w k) s = sym (reached_first (waited_at n) _ (waited_reached n))
throws_there n _ s = refl

without : (b : Body) → has_statement b ≡ false → (closing.ways b).end ≡ true
without End e = refl
without b e = absurd (true≢false e)

mutual
  pub same_ways : (n : ℕ) (b : Body) → HasSimpleParts b → Same (closing.ways b) (ways n b)
  same_ways n (BlockStmt at b k) s = same_then _ _ (both (node at_once) (ways n b)) (ways (left n b) k) (same_node _ _ (same_ways n b s.1)) (same_ways (left n b) k s.2)
  same_ways n (IfStmt at e b k) s = same_then _ _ (both (plain at_once) (ways n b)) (ways (left n b) k) (same_if _ _ (same_ways n b s.1)) (same_ways (left n b) k s.2)
  same_ways n (IfElseStmt at e b c k) s =
      same_then _ _ (both (node at_once) (both (ways n b) (ways (left n b) c))) (ways (left (left n b) c) k)
      (same_node _ (both (ways n b) (ways (left n b) c)) (same_either _ _ (ways n b) (ways (left n b) c) (same_ways n b s.1) (same_ways (left n b) c s.2))) (same_ways (left (left n b) c) k s.3)
  same_ways n (WhileStmt at e b k) s = same_then _ _ (looped true (ways n b)) (ways (left n b) k) (same_looped true (closing.ways b) (ways n b) (same_ways n b s.1).breaks) (same_ways (left n b) k s.2)
  same_ways n (ForStmt at i e t b k) s =
      let l = left (left n i) t in
      let w = with_step (ways l b) (ways (left n i) t) in
      same_then _ _ (sequence (ways n i) (looped (is_there e) w)) (ways (left l b) k)
      (same_init n i (looped (is_there e) w) _ (init_kind i s.0.0) (same_looped (is_there e) (closing.ways b) w (same_ways l b s.3).breaks)) (same_ways (left l b) k s.4)
  same_ways n (LoopStmt at b k) s = same_then _ _ (looped false (ways n b)) (ways (left n b) k) (same_looped false (closing.ways b) (ways n b) (same_ways n b s.1).breaks) (same_ways (left n b) k s.2)
  same_ways n (TryStmt at b q x h k) s =
      same_then _ _ (handled (ways n b) (ways (left n b) h)) (ways (left (left n b) h) k)
      (same_handled (has_statement b) _ _ (ways n b) (ways (left n b) h) (throws_there n b s.1) (without b) (same_ways n b s.1) (same_ways (left n b) h s.2)) (same_ways (left (left n b) h) k s.3)
  same_ways n (ChooseStmt at bs k) s =
      same_then _ _ (follow (waited_at n) (both (node at_once) (branch_ways (n - 1) bs))) (ways (n - 1 - length (branch_groups bs)) k)
      (same_follow n _ (both (node at_once) (branch_ways (n - 1) bs)) (same_node _ _ (same_branch_ways (n - 1) bs s.1))) (same_ways (n - 1 - length (branch_groups bs)) k s.2)
  same_ways n (DeclareStmt at i v k) s = same_plain n _ _ (same_ways n k s.1)
  same_ways n (AssignStmt at xs v k) s = same_plain n _ _ (same_ways n k s.1)
  same_ways n (ModifyStmt at xs c k) s = same_plain n _ _ (same_ways n k s.1)
  same_ways n (CallStmt at xs es k) s = same_plain n _ _ (same_ways n k s.1)
  same_ways n (WaitStmt at w k) s = same_waiting n _ (ways (n - 1) k) (same_ways (n - 1) k s.1)
  same_ways n _ s = record { end = refl; breaks = refl }

  pub same_branch_ways : (n : ℕ) (bs : Branches) → HaveSimpleParts bs → Same (closing.branch_ways bs) (branch_ways n bs)
  same_branch_ways n NoBranches s = record { end = refl; breaks = refl }
  same_branch_ways n (MoreBranches at w b bs) s = same_either _ _ (ways n b) (branch_ways (left n b) bs) (same_ways n b s.1) (same_branch_ways (left n b) bs s.2)
