-- What is known at each point of a body: the variables in force, which of them reach it and which are stale, and whether it is
-- a wait that is looked for.
use Rattle.std.proofs.Common.{◌≡◌, ℕ, zero, suc, ◌+◌, ◌-◌, Bool, true, false, List, [], ◌∷◌, ◌++◌, length, get_or, refl, sym, ap, ap₂, subst, ◌∙◌, arith, length-append, append_assoc}
use Rattle.std.specs.Prelude.{nat_lt}
use Rattle.flow_tree.specs.Body.{Body, End, BlockStmt, IfStmt, IfElseStmt, WhileStmt, ForStmt, LoopStmt, BreakStmt, ContinueStmt, ReturnStmt, ThrowStmt, TryStmt, ChooseStmt, DeclareStmt, AssignStmt, ModifyStmt, CallStmt, WaitStmt, Branches, NoBranches, MoreBranches}
use Rattle.flow_staterule.specs.declared.scope.Point.{Point}
use Rattle.flow_staterule.specs.declared.ways.Reached.{Reached}
use Rattle.flow_staterule.specs.declared.ways.Ways.{Ways}
use Rattle.flow_staterule.specs.Ways.{ways, branch_ways, never, at_once, both, node, plain, follow, sequence, looped, handled, with_step, head, round, waited_at}
use Rattle.flow_tree.specs.Tree.{ExprTree}
use Rattle.flow_ast.specs.Slots.{branch_groups}
use Rattle.flow_ast.specs.Typing.{is_there}
use Rattle.std.specs.declared.option.Option.{Option}
use Rattle.flow_staterule.specs.Uses.{behind, left}
use Rattle.flow_typing_laws.specs.ControlFlow.Control.{points, branch_points}
use Rattle.flow_typing_laws.specs.ControlFlow.Mentions.{Named, local_at, declared, with_into, declaring}

pub record Note : Type 0 where
  pub named : List Named
  pub point : Point
  pub counts : Bool

abbrev pub note : List Named → Point → Note
note vs p = record { named = vs; point = p; counts = false }

-- at a wait, of which the first n are looked for
abbrev pub wait_note : ℕ → List Named → Point → Note
wait_note n vs p = record { named = vs; point = p; counts = nat_lt 0 n }

abbrev pub behind_all : List Named → Point → Reached → Point
behind_all vs p r = behind (length vs) p r

-- the ways out of each kind of statement
abbrev pub block_ways : ℕ → Body → Ways
block_ways n b = both (node at_once) (ways n b)

abbrev pub if_ways : ℕ → Body → Ways
if_ways n b = both (plain at_once) (ways n b)

abbrev pub if_else_ways : ℕ → Body → Body → Ways
if_else_ways n b c = both (node at_once) (both (ways n b) (ways (left n b) c))

abbrev pub for_round : ℕ → (init step body : Body) → Ways
for_round n i t b = with_step (ways (left (left n i) t) b) (ways (left n i) t)

abbrev pub for_ways : ℕ → Body → Option ExprTree → Body → Body → Ways
for_ways n i e t b = sequence (ways n i) (looped (is_there e) (for_round n i t b))

abbrev pub try_ways : ℕ → Body → Body → Ways
try_ways n b h = handled (ways n b) (ways (left n b) h)

abbrev pub choose_ways : ℕ → Branches → Ways
choose_ways n bs = follow (waited_at n) (both (node at_once) (branch_ways (n - 1) bs))

-- the point of a `for`
abbrev pub for_point : ℕ → (number : ℕ) → List Named → Point → (init step body : Body) → Point
for_point n m vs p i t b = behind_all (declaring m i vs) (behind_all vs p (ways n i).ends) (head (for_round n i t b))

abbrev mutual
  pub notes : ℕ → Body → (number : ℕ) → List Named → Point → List Note
  notes n End m vs p = []
  notes n (BlockStmt at b k) m vs p =
      note vs p ∷ notes n b (suc m) vs p ++ notes (left n b) k (suc m + points b) vs (behind_all vs p (block_ways n b).ends)
  notes n (IfStmt at e b k) m vs p =
      note vs p ∷ notes n b (suc m) vs p ++ notes (left n b) k (suc m + points b) vs (behind_all vs p (if_ways n b).ends)
  notes n (IfElseStmt at e b c k) m vs p =
      let l = suc m + points b in
      note vs p ∷ (notes n b (suc m) vs p ++ (notes (left n b) c l vs p ++ notes (left (left n b) c) k (l + points c) vs (behind_all vs p (if_else_ways n b c).ends)))
  notes n (WhileStmt at e b k) m vs p =
      let h = behind_all vs p (head (ways n b)) in
      note vs h ∷ notes n b (suc m) vs h ++ notes (left n b) k (suc m + points b) vs (behind_all vs p (looped true (ways n b)).ends)
  notes n (ForStmt at i e t b k) m vs p =
      let g = m + points i in
      let l = suc g + points t in
      let ws = declaring m i vs in
      let h = for_point n m vs p i t b in
      let r = behind_all ws h (round (ways (left (left n i) t) b)) in
      notes n i m vs p
      ++ (note ws h ∷ (notes (left n i) t (suc g) ws r ++ (notes (left (left n i) t) b l ws h ++ notes (left (left (left n i) t) b) k (l + points b) vs (behind_all vs p (for_ways n i e t b).ends))))
  notes n (LoopStmt at b k) m vs p =
      let h = behind_all vs p (head (ways n b)) in
      note vs h ∷ notes n b (suc m) vs h ++ notes (left n b) k (suc m + points b) vs (behind_all vs p (looped false (ways n b)).ends)
  notes n (BreakStmt at k) m vs p = note vs p ∷ notes n k (suc m) vs (behind_all vs p never)
  notes n (ContinueStmt at k) m vs p = note vs p ∷ notes n k (suc m) vs (behind_all vs p never)
  notes n (ReturnStmt at v k) m vs p = note vs p ∷ notes n k (suc m) vs (behind_all vs p never)
  notes n (ThrowStmt at v k) m vs p = note vs p ∷ notes n k (suc m) vs (behind_all vs p never)
  notes n (TryStmt at b q x h k) m vs p =
      let c = suc m + points b in
      let t = behind_all vs p (ways n b).throws in
      note vs p ∷ (notes n b (suc m) vs p
      ++ (note vs t ∷ (notes (left n b) h (suc c) (local_at c x ∷ vs) t ++ notes (left (left n b) h) k (suc c + points h) vs (behind_all vs p (try_ways n b h).ends))))
  notes n (ChooseStmt at bs k) m vs p =
      wait_note n vs p ∷ branch_notes (n - 1) bs (suc m) vs (behind_all vs p (waited_at n))
      ++ notes (n - 1 - length (branch_groups bs)) k (suc m + branch_points bs) vs (behind_all vs p (choose_ways n bs).ends)
  notes n (DeclareStmt at i v k) m vs p = note vs p ∷ notes n k (suc m) (declared m i ∷ vs) p
  notes n (AssignStmt at xs v k) m vs p = note vs p ∷ notes n k (suc m) vs p
  notes n (ModifyStmt at xs c k) m vs p = note vs p ∷ notes n k (suc m) vs p
  notes n (CallStmt at xs es k) m vs p = note vs p ∷ notes n k (suc m) vs p
  notes n (WaitStmt at w k) m vs p =
      wait_note n vs p ∷ notes (n - 1) k (suc m) (with_into m w.into vs) (behind_all vs p (waited_at n))

  pub branch_notes : ℕ → Branches → (number : ℕ) → List Named → Point → List Note
  branch_notes n NoBranches m vs q = []
  branch_notes n (MoreBranches at w b bs) m vs q =
      note vs q ∷ notes n b (suc m) (with_into m w.into vs) q ++ branch_notes (left n b) bs (suc (m + points b)) vs q

-- there are as many as points
two : {A : Type 0} (xs ys : List A) (a b : ℕ) → length xs ≡ a → length ys ≡ b → length (xs ++ ys) ≡ a + b
two xs ys a b e f = length-append xs ys ∙ ap₂ (λ x y. x + y) e f

more : (a b : ℕ) → a ≡ b → suc a ≡ suc b
more a b e = ap suc e

with_one : {A : Type 0} (x : A) (xs : List A) (a : ℕ) → length xs ≡ a → length (x ∷ xs) ≡ suc a
with_one x xs a e = ap suc e

mutual
  pub notes_many : (n : ℕ) (b : Body) (m : ℕ) (vs : List Named) (p : Point) → length (notes n b m vs p) ≡ points b
  notes_many n End m vs p = refl
  notes_many n (BlockStmt at b k) m vs p = let e = two _ _ _ _ (notes_many n b (suc m) vs p) (notes_many (left n b) k (suc m + points b) vs (behind_all vs p (block_ways n b).ends)) in omega (arith, e)
  notes_many n (IfStmt at e b k) m vs p = let f = two _ _ _ _ (notes_many n b (suc m) vs p) (notes_many (left n b) k (suc m + points b) vs (behind_all vs p (if_ways n b).ends)) in omega (arith, f)
  notes_many n (IfElseStmt at e b c k) m vs p =
      let f = two _ _ _ _ (notes_many n b (suc m) vs p) (two _ _ _ _ (notes_many (left n b) c (suc m + points b) vs p)
      (notes_many (left (left n b) c) k (suc m + points b + points c) vs (behind_all vs p (if_else_ways n b c).ends))) in
      omega (arith, f)
  notes_many n (WhileStmt at e b k) m vs p =
      let h = behind_all vs p (head (ways n b)) in
      let f = two _ _ _ _ (notes_many n b (suc m) vs h) (notes_many (left n b) k (suc m + points b) vs (behind_all vs p (looped true (ways n b)).ends)) in omega (arith, f)
  notes_many n (ForStmt at i e t b k) m vs p =
      let g = m + points i in
      let l = suc g + points t in
      let ws = declaring m i vs in
      let h = for_point n m vs p i t b in
      let r = behind_all ws h (round (ways (left (left n i) t) b)) in
      let k' = notes_many (left (left (left n i) t) b) k (l + points b) vs (behind_all vs p (for_ways n i e t b).ends) in
      let b' = two _ _ _ _ (notes_many (left (left n i) t) b l ws h) k' in
      let t' = two _ _ _ _ (notes_many (left n i) t (suc g) ws r) b' in
      let f = notes_many n i m vs p in
      let g' = length-append (notes n i m vs p) (note ws h ∷ (notes (left n i) t (suc g) ws r
      ++ (notes (left (left n i) t) b l ws h ++ notes (left (left (left n i) t) b) k (l + points b) vs (behind_all vs p (for_ways n i e t b).ends)))) in
      omega (arith, f, g', t')
  notes_many n (LoopStmt at b k) m vs p =
      let h = behind_all vs p (head (ways n b)) in
      let f = two _ _ _ _ (notes_many n b (suc m) vs h) (notes_many (left n b) k (suc m + points b) vs (behind_all vs p (looped false (ways n b)).ends)) in omega (arith, f)
  notes_many n (BreakStmt at k) m vs p = more _ _ (notes_many n k (suc m) vs (behind_all vs p never))
  notes_many n (ContinueStmt at k) m vs p = more _ _ (notes_many n k (suc m) vs (behind_all vs p never))
  notes_many n (ReturnStmt at v k) m vs p = more _ _ (notes_many n k (suc m) vs (behind_all vs p never))
  notes_many n (ThrowStmt at v k) m vs p = more _ _ (notes_many n k (suc m) vs (behind_all vs p never))
  notes_many n (TryStmt at b q x h k) m vs p =
      let c = suc m + points b in
      let t = behind_all vs p (ways n b).throws in
      let k' = notes_many (left (left n b) h) k (suc c + points h) vs (behind_all vs p (try_ways n b h).ends) in
      let h' = two _ _ _ _ (notes_many (left n b) h (suc c) (local_at c x ∷ vs) t) k' in
      let f = notes_many n b (suc m) vs p in
      let g' = length-append (notes n b (suc m) vs p) (note vs t ∷
      (notes (left n b) h (suc c) (local_at c x ∷ vs) t ++ notes (left (left n b) h) k (suc c + points h) vs (behind_all vs p (try_ways n b h).ends))) in
      omega (arith, f, g', h')
  notes_many n (ChooseStmt at bs k) m vs p =
      let f = two _ _ _ _ (branch_notes_many (n - 1) bs (suc m) vs (behind_all vs p (waited_at n)))
      (notes_many (n - 1 - length (branch_groups bs)) k (suc m + branch_points bs) vs (behind_all vs p (choose_ways n bs).ends)) in
      omega (arith, f)
  notes_many n (DeclareStmt at i v k) m vs p = more _ _ (notes_many n k (suc m) (declared m i ∷ vs) p)
  notes_many n (AssignStmt at xs v k) m vs p = more _ _ (notes_many n k (suc m) vs p)
  notes_many n (ModifyStmt at xs c k) m vs p = more _ _ (notes_many n k (suc m) vs p)
  notes_many n (CallStmt at xs es k) m vs p = more _ _ (notes_many n k (suc m) vs p)
  notes_many n (WaitStmt at w k) m vs p = more _ _ (notes_many (n - 1) k (suc m) (with_into m w.into vs) (behind_all vs p (waited_at n)))

  pub branch_notes_many : (n : ℕ) (bs : Branches) (m : ℕ) (vs : List Named) (q : Point) → length (branch_notes n bs m vs q) ≡ branch_points bs
  branch_notes_many n NoBranches m vs q = refl
  branch_notes_many n (MoreBranches at w b bs) m vs q =
      let f = two _ _ _ _ (notes_many n b (suc m) (with_into m w.into vs) q) (branch_notes_many (left n b) bs (suc (m + points b)) vs q) in omega (arith, f)

-- A function tells these notes from a number on.
abbrev pub Tells : (ℕ → Note) → ℕ → List Note → Type 0
Tells tell m [] = Unit {0}
Tells tell m (x ∷ xs) = (tell m ≡ x) × Tells tell (suc m) xs

pub tells_first : (tell : ℕ → Note) (m : ℕ) (xs ys : List Note) → Tells tell m (xs ++ ys) → Tells tell m xs
tells_first tell m [] ys t = tt
tells_first tell m (x ∷ xs) ys t = (t.0, tells_first tell (suc m) xs ys t.1)

pub tells_rest : (tell : ℕ → Note) (m a : ℕ) (xs ys : List Note) → length xs ≡ a → Tells tell m (xs ++ ys) → Tells tell (m + a) ys
tells_rest tell m a [] ys e t = let f : m ≡ m + a = omega (arith, e) in subst (λ x. Tells tell x ys) f t
tells_rest tell m zero (x ∷ xs) ys e t = absurd (omega (arith, e))
tells_rest tell m (suc a) (x ∷ xs) ys e t =
    let f : suc m + a ≡ m + suc a = omega arith in
    let g : length xs ≡ a = omega (arith, e) in
    subst (λ y. Tells tell y ys) f (tells_rest tell (suc m) a xs ys g t.1)

-- what the list itself tells
get_behind : (before xs : List Note) (x z : Note) → get_or (before ++ (x ∷ xs)) (length before) z ≡ x
get_behind [] xs x z = refl
get_behind (y ∷ ys) xs x z = get_behind ys xs x z

tells_from : (all before xs : List Note) (m : ℕ) (z : Note) → before ++ xs ≡ all → length before ≡ m → Tells (λ k. get_or all k z) m xs
tells_from all before [] m z e l = tt
tells_from all before (x ∷ xs) m z e l =
    let n : length (before ++ x ∷ []) ≡ suc m = let f = length-append before (x ∷ []) in omega (arith, f, l) in (
      ap₂ (λ a k. get_or a k z) (sym e) (sym l) ∙ get_behind before xs x z,
      tells_from all (before ++ x ∷ []) xs (suc m) z (append_assoc before (x ∷ []) xs ∙ e) n,
    )

pub tells_itself : (before xs : List Note) (z : Note) → Tells (λ m. get_or (before ++ xs) m z) (length before) xs
tells_itself before xs z = tells_from (before ++ xs) before xs (length before) z refl refl
