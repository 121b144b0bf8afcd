-- Which points are waits that are looked for.
use Rattle.std.proofs.Common.{◌≡◌, ℕ, zero, suc, ◌+◌, ◌-◌, ◌<◌, true, false, List, [], ◌∷◌, ◌++◌, length, map, refl, sym, ap, ap₂, subst, subst₂, ◌∙◌, arith, length-append, append_assoc, get_or}
use Rattle.std.specs.Prelude.{nat_lt, slice_get, is_some}
use Rattle.std.proofs.lemmas.Bool.{false≢true, lt-ltb, ltb-true}
use Rattle.std.proofs.lemmas.List.{map-append}
use Rattle.std.specs.declared.option.Option.{Option}
use Rattle.std.specs.declared.option.Option.TheVariants.{None, Some}
use Rattle.flow_base.specs.declared.place.Place.{Place}
use Rattle.flow_tree.specs.Body.{Body, End, BlockStmt, IfStmt, IfElseStmt, WhileStmt, ForStmt, LoopStmt, BreakStmt, ContinueStmt, ReturnStmt, ThrowStmt, TryStmt, ChooseStmt, DeclareStmt, AssignStmt, ModifyStmt, CallStmt, WaitStmt, Branches, NoBranches, MoreBranches}
use Rattle.flow_ast.specs.Slots.{body_groups, branch_groups}
use Rattle.flow_staterule.specs.declared.scope.Point.{Point}
use Rattle.flow_staterule.specs.Ways.{ways, never, head, round, looped, waited_at}
use Rattle.flow_staterule.specs.Uses.{left}
use Rattle.flow_staterule.specs.StateRule.{wait_places, branch_places}
use Rattle.flow_typing_laws.specs.ControlFlow.Control.{points, branch_points}
use Rattle.flow_typing_laws.specs.ControlFlow.Mentions.{Named, Wait, local_at, declared, with_into, declaring, waits, branch_waits}
use Rattle.flow_typing_laws.proofs.ControlFlow.Notes.{Note, note, wait_note, behind_all, block_ways, if_ways, if_else_ways, for_ways, for_point, try_ways, choose_ways, notes, branch_notes, notes_many, branch_notes_many, Tells}

-- the places of the waits
abbrev pub place_of : Wait → Place
place_of w = w.at

joined : (xs ys : List Wait) (ps qs : List Place) → ps ≡ map place_of xs → qs ≡ map place_of ys → ps ++ qs ≡ map place_of (xs ++ ys)
joined xs ys ps qs e f = ap₂ (λ x y. x ++ y) e f ∙ sym (map-append place_of xs ys)

mutual
  pub places_of_waits : (b : Body) (m : ℕ) → wait_places b ≡ map place_of (waits b m)
  places_of_waits End m = refl
  places_of_waits (BlockStmt at b k) m = joined _ _ _ _ (places_of_waits b (suc m)) (places_of_waits k (suc m + points b))
  places_of_waits (IfStmt at e b k) m = joined _ _ _ _ (places_of_waits b (suc m)) (places_of_waits k (suc m + points b))
  places_of_waits (IfElseStmt at e b c k) m =
      let l = suc m + points b in
      joined (waits b (suc m) ++ waits c l) _ _ _ (joined _ _ _ _ (places_of_waits b (suc m)) (places_of_waits c l)) (places_of_waits k (l + points c))
  places_of_waits (WhileStmt at e b k) m = joined _ _ _ _ (places_of_waits b (suc m)) (places_of_waits k (suc m + points b))
  places_of_waits (ForStmt at i e t b k) m =
      let h = suc (m + points i) in
      let l = h + points t in
      joined (waits i m ++ waits t h ++ waits b l) _ _ _ (joined (waits i m ++ waits t h) _ _ _ (joined _ _ _ _ (places_of_waits i m) (places_of_waits t h)) (places_of_waits b l))
      (places_of_waits k (l + points b))
  places_of_waits (LoopStmt at b k) m = joined _ _ _ _ (places_of_waits b (suc m)) (places_of_waits k (suc m + points b))
  places_of_waits (BreakStmt at k) m = places_of_waits k (suc m)
  places_of_waits (ContinueStmt at k) m = places_of_waits k (suc m)
  places_of_waits (ReturnStmt at v k) m = places_of_waits k (suc m)
  places_of_waits (ThrowStmt at v k) m = places_of_waits k (suc m)
  places_of_waits (TryStmt at b q x h k) m =
      let l = suc (suc m + points b) in
      joined (waits b (suc m) ++ waits h l) _ _ _ (joined _ _ _ _ (places_of_waits b (suc m)) (places_of_waits h l)) (places_of_waits k (l + points h))
  places_of_waits (ChooseStmt at bs k) m = ap (λ l. at ∷ l) (joined _ _ _ _ (branch_places_of_waits bs (suc m)) (places_of_waits k (suc m + branch_points bs)))
  places_of_waits (DeclareStmt at i v k) m = places_of_waits k (suc m)
  places_of_waits (AssignStmt at xs v k) m = places_of_waits k (suc m)
  places_of_waits (ModifyStmt at xs c k) m = places_of_waits k (suc m)
  places_of_waits (CallStmt at xs es k) m = places_of_waits k (suc m)
  places_of_waits (WaitStmt at w k) m = ap (λ l. at ∷ l) (places_of_waits k (suc m))

  branch_places_of_waits : (bs : Branches) (m : ℕ) → branch_places bs ≡ map place_of (branch_waits bs m)
  branch_places_of_waits NoBranches m = refl
  branch_places_of_waits (MoreBranches at w b bs) m = joined _ _ _ _ (places_of_waits b (suc m)) (branch_places_of_waits bs (suc (m + points b)))

-- there are as many as groups
as_many : {A B : Type 0} (xs ys : List A) (ps qs : List B) → length xs ≡ length ps → length ys ≡ length qs → length (xs ++ ys) ≡ length (ps ++ qs)
as_many xs ys ps qs e f = length-append xs ys ∙ ap₂ (λ x y. x + y) e f ∙ sym (length-append ps qs)

mutual
  pub waits_many : (b : Body) (m : ℕ) → length (waits b m) ≡ length (body_groups b)
  waits_many End m = refl
  waits_many (BlockStmt at b k) m = as_many _ _ _ _ (waits_many b (suc m)) (waits_many k (suc m + points b))
  waits_many (IfStmt at e b k) m = as_many _ _ _ _ (waits_many b (suc m)) (waits_many k (suc m + points b))
  waits_many (IfElseStmt at e b c k) m =
      let l = suc m + points b in
      as_many (waits b (suc m) ++ waits c l) _ (body_groups b ++ body_groups c) _ (as_many _ _ _ _ (waits_many b (suc m)) (waits_many c l)) (waits_many k (l + points c))
  waits_many (WhileStmt at e b k) m = as_many _ _ _ _ (waits_many b (suc m)) (waits_many k (suc m + points b))
  waits_many (ForStmt at i e t b k) m =
      let h = suc (m + points i) in
      let l = h + points t in
      as_many (waits i m ++ waits t h ++ waits b l) _ (body_groups i ++ body_groups t ++ body_groups b) _
      (as_many (waits i m ++ waits t h) _ (body_groups i ++ body_groups t) _ (as_many _ _ _ _ (waits_many i m) (waits_many t h)) (waits_many b l)) (waits_many k (l + points b))
  waits_many (LoopStmt at b k) m = as_many _ _ _ _ (waits_many b (suc m)) (waits_many k (suc m + points b))
  waits_many (BreakStmt at k) m = waits_many k (suc m)
  waits_many (ContinueStmt at k) m = waits_many k (suc m)
  waits_many (ReturnStmt at v k) m = waits_many k (suc m)
  waits_many (ThrowStmt at v k) m = waits_many k (suc m)
  waits_many (TryStmt at b q x h k) m =
      let l = suc (suc m + points b) in
      as_many (waits b (suc m) ++ waits h l) _ (body_groups b ++ body_groups h) _ (as_many _ _ _ _ (waits_many b (suc m)) (waits_many h l)) (waits_many k (l + points h))
  waits_many (ChooseStmt at bs k) m = ap suc (as_many _ _ _ _ (branch_waits_many bs (suc m)) (waits_many k (suc m + branch_points bs)))
  waits_many (DeclareStmt at i v k) m = waits_many k (suc m)
  waits_many (AssignStmt at xs v k) m = waits_many k (suc m)
  waits_many (ModifyStmt at xs c k) m = waits_many k (suc m)
  waits_many (CallStmt at xs es k) m = waits_many k (suc m)
  waits_many (WaitStmt at w k) m = ap suc (waits_many k (suc m))

  branch_waits_many : (bs : Branches) (m : ℕ) → length (branch_waits bs m) ≡ length (branch_groups bs)
  branch_waits_many NoBranches m = refl
  branch_waits_many (MoreBranches at w b bs) m = as_many _ _ _ _ (waits_many b (suc m)) (branch_waits_many bs (suc (m + points b)))

-- Of these notes from a number on those of the waits stand in this order, and the first n count.
pub data Counted : ℕ → List Note → List Wait → ℕ → Type 0 where
  none : {m n : ℕ} → Counted m [] [] n
  over : {m n : ℕ} {ys : List Note} {ws : List Wait} (y : Note) → y.counts ≡ false → Counted (suc m) ys ws n → Counted m (y ∷ ys) ws n
  wait : {m n : ℕ} {ys : List Note} {ws : List Wait} (y : Note) (w : Wait) → w.point ≡ m → y.counts ≡ nat_lt 0 n → Counted (suc m) ys ws (n - 1) → Counted m (y ∷ ys) (w ∷ ws) n

pub counted_then : {m n : ℕ} {xs : List Note} {ws : List Wait} (m' n' : ℕ) (ys : List Note) (vs : List Wait) → Counted m xs ws n → m + length xs ≡ m' → n - length ws ≡ n' → Counted m' ys vs n'
    → Counted m (xs ++ ys) (ws ++ vs) n
counted_then {m} {n} m' n' ys vs none e f c = let g : m' ≡ m = omega (arith, e) in let h : n' ≡ n = omega (arith, f) in subst₂ (λ x y. Counted x ys vs y) g h c
counted_then {m} {n} m' n' ys vs (over {ys = xs} y z d) e f c = let g : suc m + length xs ≡ m' = omega (arith, e) in over y z (counted_then m' n' ys vs d g f c)
counted_then {m} {n} m' n' ys vs (wait {ys = xs} {ws = ws} y w p z d) e f c =
    let g : suc m + length xs ≡ m' = omega (arith, e) in
    let h : n - 1 - length ws ≡ n' = omega (arith, f) in
    wait y w p z (counted_then m' n' ys vs d g h c)

-- as many points on, and as many waits less
on_by : (m n : ℕ) (b : Body) (vs : List Named) (p : Point) → m + length (notes n b m vs p) ≡ m + points b
on_by m n b vs p = ap (λ z. m + z) (notes_many n b m vs p)

less_by : (n m : ℕ) (b : Body) → n - length (waits b m) ≡ left n b
less_by n m b = ap (λ z. n - z) (waits_many b m)

pub with_waits : {m n : ℕ} {ys : List Note} {us ws : List Wait} → us ≡ ws → Counted m ys us n → Counted m ys ws n
with_waits {m} {n} {ys} e c = subst (λ x. Counted m ys x n) e c

mutual
  pub counted : (n : ℕ) (b : Body) (m : ℕ) (vs : List Named) (p : Point) → Counted m (notes n b m vs p) (waits b m) n
  counted n End m vs p = none
  counted n (BlockStmt at b k) m vs p =
      over (note vs p) refl (counted_then (suc m + points b) (left n b) _ _ (counted n b (suc m) vs p) (on_by (suc m) n b vs p) (less_by n (suc m) b)
      (counted (left n b) k (suc m + points b) vs (behind_all vs p (block_ways n b).ends)))
  counted n (IfStmt at e b k) m vs p =
      over (note vs p) refl (counted_then (suc m + points b) (left n b) _ _ (counted n b (suc m) vs p) (on_by (suc m) n b vs p) (less_by n (suc m) b)
      (counted (left n b) k (suc m + points b) vs (behind_all vs p (if_ways n b).ends)))
  counted n (IfElseStmt at e b c k) m vs p =
      let l = suc m + points b in
      let r = counted (left (left n b) c) k (l + points c) vs (behind_all vs p (if_else_ways n b c).ends) in
      let s = counted_then (l + points c) (left (left n b) c) _ _ (counted (left n b) c l vs p) (on_by l (left n b) c vs p) (less_by (left n b) l c) r in
      with_waits (sym (append_assoc (waits b (suc m)) (waits c l) (waits k (l + points c))))
      (over (note vs p) refl (counted_then l (left n b) _ _ (counted n b (suc m) vs p) (on_by (suc m) n b vs p) (less_by n (suc m) b) s))
  counted n (WhileStmt at e b k) m vs p =
      let h = behind_all vs p (head (ways n b)) in
      over (note vs h) refl (counted_then (suc m + points b) (left n b) _ _ (counted n b (suc m) vs h) (on_by (suc m) n b vs h) (less_by n (suc m) b)
      (counted (left n b) k (suc m + points b) vs (behind_all vs p (looped true (ways n b)).ends)))
  counted n (ForStmt at i e t b k) m vs p =
      let g = m + points i in
      let l = suc g + points t in
      let ws = declaring m i vs in
      let h = for_point n m vs p i t b in
      let r = behind_all ws h (round (ways (left (left n i) t) b)) in
      let nb = left (left n i) t in
      let x1 = counted (left nb b) k (l + points b) vs (behind_all vs p (for_ways n i e t b).ends) in
      let x2 = counted_then (l + points b) (left nb b) _ _ (counted nb b l ws h) (on_by l nb b ws h) (less_by nb l b) x1 in
      let x3 = counted_then l nb _ _ (counted (left n i) t (suc g) ws r) (on_by (suc g) (left n i) t ws r) (less_by (left n i) (suc g) t) x2 in
      with_waits (sym (append_assoc (waits i m ++ waits t (suc g)) (waits b l) (waits k (l + points b)) ∙ append_assoc (waits i m) (waits t (suc g)) (waits b l ++ waits k (l + points b))))
      (counted_then g (left n i) _ _ (counted n i m vs p) (on_by m n i vs p) (less_by n m i) (over (note ws h) refl x3))
  counted n (LoopStmt at b k) m vs p =
      let h = behind_all vs p (head (ways n b)) in
      over (note vs h) refl (counted_then (suc m + points b) (left n b) _ _ (counted n b (suc m) vs h) (on_by (suc m) n b vs h) (less_by n (suc m) b)
      (counted (left n b) k (suc m + points b) vs (behind_all vs p (looped false (ways n b)).ends)))
  counted n (BreakStmt at k) m vs p = over (note vs p) refl (counted n k (suc m) vs (behind_all vs p never))
  counted n (ContinueStmt at k) m vs p = over (note vs p) refl (counted n k (suc m) vs (behind_all vs p never))
  counted n (ReturnStmt at v k) m vs p = over (note vs p) refl (counted n k (suc m) vs (behind_all vs p never))
  counted n (ThrowStmt at v k) m vs p = over (note vs p) refl (counted n k (suc m) vs (behind_all vs p never))
  counted n (TryStmt at b q x h k) m vs p =
      let c = suc m + points b in
      let t = behind_all vs p (ways n b).throws in
      let us = local_at c x ∷ vs in
      let x1 = counted (left (left n b) h) k (suc c + points h) vs (behind_all vs p (try_ways n b h).ends) in
      let x2 = counted_then (suc c + points h) (left (left n b) h) _ _ (counted (left n b) h (suc c) us t) (on_by (suc c) (left n b) h us t) (less_by (left n b) (suc c) h) x1 in
      with_waits (sym (append_assoc (waits b (suc m)) (waits h (suc c)) (waits k (suc c + points h))))
      (over (note vs p) refl (counted_then c (left n b) _ _ (counted n b (suc m) vs p) (on_by (suc m) n b vs p) (less_by n (suc m) b) (over (note vs t) refl x2)))
  counted n (ChooseStmt at bs k) m vs p =
      let q = behind_all vs p (waited_at n) in
      let n' = n - 1 - length (branch_groups bs) in
      wait (wait_note n vs p) (record { at = at; point = m }) refl refl
      (counted_then (suc m + branch_points bs) n' _ _ (branch_counted (n - 1) bs (suc m) vs q) (ap (λ z. suc m + z) (branch_notes_many (n - 1) bs (suc m) vs q))
      (ap (λ z. n - 1 - z) (branch_waits_many bs (suc m)))
      (counted n' k (suc m + branch_points bs) vs (behind_all vs p (choose_ways n bs).ends)))
  counted n (DeclareStmt at i v k) m vs p = over (note vs p) refl (counted n k (suc m) (declared m i ∷ vs) p)
  counted n (AssignStmt at xs v k) m vs p = over (note vs p) refl (counted n k (suc m) vs p)
  counted n (ModifyStmt at xs c k) m vs p = over (note vs p) refl (counted n k (suc m) vs p)
  counted n (CallStmt at xs es k) m vs p = over (note vs p) refl (counted n k (suc m) vs p)
  counted n (WaitStmt at w k) m vs p = wait (wait_note n vs p) (record { at = at; point = m }) refl refl (counted (n - 1) k (suc m) (with_into m w.into vs) (behind_all vs p (waited_at n)))

  branch_counted : (n : ℕ) (bs : Branches) (m : ℕ) (vs : List Named) (q : Point) → Counted m (branch_notes n bs m vs q) (branch_waits bs m) n
  branch_counted n NoBranches m vs q = none
  branch_counted n (MoreBranches at w b bs) m vs q =
      let ws = with_into m w.into vs in
      let e : suc m + points b ≡ suc (m + points b) = omega arith in
      over (note vs q) refl (counted_then (suc (m + points b)) (left n b) _ _ (counted n b (suc m) ws q) (on_by (suc m) n b ws q ∙ e) (less_by n (suc m) b)
      (branch_counted (left n b) bs (suc (m + points b)) vs q))

abbrev or_wait : Wait → Option Wait → Wait
or_wait w None = w
or_wait w (Some v) = v

same_wait : (v w : Wait) → Some v ≡ Some w → v ≡ w
same_wait v w e = ap (or_wait v) e

-- the first n waits count
pub counts_of : (tell : ℕ → Note) {m n : ℕ} {ys : List Note} {ws : List Wait} → Counted m ys ws n → Tells tell m ys → (k : ℕ) (w : Wait) → slice_get ws k ≡ Some w → k < n
    → (tell w.point).counts ≡ true
counts_of tell none t k w e l = absurd (false≢true (ap is_some e))
counts_of tell (over y z c) t k w e l = counts_of tell c t.1 k w e l
counts_of tell {m} {n} (wait y v p z c) t zero w e l =
    ap (λ u. (tell u.point).counts) (sym (same_wait v w e)) ∙ ap (λ x. (tell x).counts) p ∙ ap (λ (x : Note). x.counts) t.0 ∙ z ∙ lt-ltb 0 n l
counts_of tell {m} {n} (wait y v p z c) t (suc k) w e l = let l' : k < n - 1 = omega (arith, l) in counts_of tell c t.1 k w e l'

-- and no other point
abbrev Marked : ℕ → List Note → (ℕ → Type 0) → Type 0
Marked m [] Q = Unit {0}
Marked m (y ∷ ys) Q = (y.counts ≡ true → Q m) × Marked (suc m) ys Q

marked : (Q : ℕ → Type 0) {m n : ℕ} {ys : List Note} {ws : List Wait} → Counted m ys ws n → ((k : ℕ) (w : Wait) → slice_get ws k ≡ Some w → k < n → Q w.point) → Marked m ys Q
marked Q none f = tt
marked Q (over y z c) f = (λ x. absurd (false≢true (sym z ∙ x)), marked Q c f)
marked Q {m} {n} (wait y w p z c) f = (
  λ x. subst Q p (f 0 w refl (ltb-true 0 n (sym z ∙ x))),
  marked Q c (λ k v e l. let l' : suc k < n = omega (arith, l) in f (suc k) v e l'),
)

marked_at : (Q : ℕ → Type 0) (m : ℕ) (ys : List Note) (i : ℕ) (z : Note) → Marked m ys Q → z.counts ≡ false → (get_or ys i z).counts ≡ true → Q (m + i)
marked_at Q m [] i z h f e = absurd (false≢true (sym f ∙ e))
marked_at Q m (y ∷ ys) zero z h f e = let g : m ≡ m + 0 = omega arith in subst Q g (h.0 e)
marked_at Q m (y ∷ ys) (suc i) z h f e = let g : suc m + i ≡ m + suc i = omega arith in subst Q g (marked_at Q (suc m) ys i z h.1 f e)

abbrev pub Looked : List Wait → ℕ → ℕ → Type 0
Looked ws n x = (k : ℕ) × (w : Wait) × (slice_get ws k ≡ Some w) × (k < n) × (w.point ≡ x)

pub of_counts : {n : ℕ} {ys : List Note} {ws : List Wait} → Counted 0 ys ws n → (x : ℕ) (z : Note) → z.counts ≡ false → (get_or ys x z).counts ≡ true → Looked ws n x
of_counts {n} {ys} {ws} c x z f e =
    let g : 0 + x ≡ x = omega arith in
    subst (Looked ws n) g (marked_at (Looked ws n) 0 ys x z (marked (Looked ws n) c (λ k w e l. (k, w, e, l, refl))) f e)
