-- What holds of one step of an actor holds of whole bursts of a process, in both directions.
use Rattle.std.proofs.Common.{◌≡◌, ℕ, zero, suc, ◌+◌, ◌<◌, ◌≤◌, ◌⊎◌, inl, inr, ⊎_elim, nat_eq, Bool, true, false, List, [], ◌∷◌, if◌then◌else◌, refl, sym, ap, ◌∙◌, subst, arith}
use Rattle.std.proofs.lemmas.Bool.{cases_lt}
use Rattle.std.specs.declared.option.Option.{Option}
use Rattle.std.specs.declared.option.Option.TheVariants.{None, Some}
use Rattle.flow_trace.specs.declared.line.Line.{Line}
use Rattle.flow_numbered.specs.Numbered.{Numbered, thing, put}
use Rattle.flow_meaning.specs.Requests.{Ask, Request, Supply}
use Rattle.flow_meaning.specs.Process.{Task, Run, Halt, Core, Engine}
use Rattle.flow_meaning.specs.Step.{Stepped, proc, view, answer, run_next, run, popped, do_task, step_tasks, step_if, step}
use Rattle.flow_meaning.specs.Burst.{Host, Live, live, add_lines, serve, advanced, advance, Burst, rests, steps}
use Rattle.flow_meaning.specs.Orderly.{Orderly, OrderlyUnlessStopped, UnlessStopped, Phase, Free}
use Rattle.flow_meaning.specs.Law.{Quietly, still, quiet, Moves, MatchesAsk, BothOrNone, Simulates, Related, Same, BurstsFollow, BurstsReturn}
use Rattle.flow_meaning.proofs.Posture.{thing_put, same_rank, Unless, unless, unless_map, unless_both}
use Rattle.flow_meaning.proofs.Shifts.{run_of}
use Rattle.flow_meaning.proofs.TaskShifts.{popped_at}
use Rattle.flow_meaning.proofs.InOrder.{advance_in_order}
use Rattle.flow_meaning.proofs.Relating.{related_thing, related_shifts}
use Rattle.flow_meaning.proofs.Alike.{Matches, task_alike, answer_alike}

-- of two things that are put there the later one stays, and the same one changes nothing
put_put : {A : Type 0} (xs : Numbered A) (i : ℕ) (a b : A) → put (put xs i a) i b ≡ put xs i b
put_put [] i a b = refl
put_put (x ∷ xs) i a b = grind (arith, put_put xs i a b)

put_same : {A : Type 0} (xs : Numbered A) (i : ℕ) (a : A) → thing xs i ≡ Some a → put xs i a ≡ xs
put_same [] i a h = refl
put_same (x ∷ xs) i a h = grind (arith, put_same xs i a)

same_of : {X : Type 0} {x y : X} → Some x ≡ Some y → x ≡ y
same_of h = cc

-- the weights of all actors
load : {A : Type 0} → (A → ℕ) → Numbered A → ℕ
load w [] = 0
load w (x ∷ xs) = w x.1 + load w xs

load_put : {A : Type 0} (w : A → ℕ) (xs : Numbered A) (i : ℕ) (a b : A) → thing xs i ≡ Some a → w b < w a → load w (put xs i b) < load w xs
unfolding load
load_put w [] i a b h lt = cc
load_put w (x ∷ xs) i a b h lt = by_test (nat_eq i x.0) h (λ k. load_put w xs i a b k lt)
  where
    by_test : (p : Bool) → (if p then Some x.1 else thing xs i) ≡ Some a → (thing xs i ≡ Some a → load w (put xs i b) < load w xs)
        → load w (if p then (x.0, b) ∷ xs else x ∷ put xs i b) < load w (x ∷ xs)
    by_test true k below = let e : x.1 ≡ a = cc in let f = ap w e in omega arith
    by_test false k below = omega (arith, below k)

-- several steps of a process in its world
pub data Many {W A : Type 0} (e : Engine A) (h : Host W) : Live W A → Live W A → Type 0 where
  here : {s : Live W A} → Many e h s s
  after : {s t : Live W A} → (r : Live W A) → advance e h s ≡ Some r → Many e h r t → Many e h s t

many_many : {W A : Type 0} (e : Engine A) (h : Host W) {s t u : Live W A} → Many e h s t → Many e h t u → Many e h s u
many_many e h here m = m
many_many e h (after r k l) m = after r k (many_many e h l m)

many_burst : {W A : Type 0} (e : Engine A) (h : Host W) {s t u : Live W A} → Many e h s t → Burst e h t u → Burst e h s u
many_burst e h here b = b
many_burst e h (after r k l) b = steps r k (many_burst e h l b)

-- one step or more
abbrev Many1 : {W A : Type 0} → Engine A → Host W → Live W A → Live W A → Type 0
Many1 {W} {A} e h s t = (r : Live W A) × (advance e h s ≡ Some r) × Many e h r t

many_many1 : {W A : Type 0} (e : Engine A) (h : Host W) {s t u : Live W A} → Many e h s t → Many1 e h t u → Many1 e h s u
many_many1 e h here m = m
many_many1 e h (after r k l) m = (r, k, many_many e h l (after m.0 m.1 m.2))

many_of : {W A : Type 0} (e : Engine A) (h : Host W) {s t : Live W A} → Many1 e h s t → Many e h s t
many_of e h m = after m.0 m.1 m.2

-- a process whose newest task is the step of an actor that is there
step_runs : {A : Type 0} (d : Engine A) (s : Supply) (c : Core) (ys : Numbered A) (i : ℕ) (ts : List Task) (b : A) (p : Option Ask × A) → c.halted ≡ None → c.tasks ≡ Run i ∷ ts → thing ys i ≡ Some b
    → d.next (view s i c) b ≡ p → step d s (proc c ys) ≡ Some (run_next d s i ts p (proc c ys))
step_runs d s c ys i ts b p eh et en es =
    ap (λ k. step_if d s k (proc c ys)) eh
    ∙ ap (λ k. step_tasks d s k (proc c ys)) et
    ∙ ap (λ o. Some (run d s i ts o (proc c ys))) en
    ∙ ap (λ k. Some (run_next d s i ts k (proc c ys))) es

quiet_many : {W B : Type 0} (d : Engine B) (h : Host W) (w : W) (c : Core) (i : ℕ) (ts : List Task) {b g : B} → c.halted ≡ None → c.tasks ≡ Run i ∷ ts → Quietly d (view (h.supply w) i c) b g
    → (ys : Numbered B) → thing ys i ≡ Some b → Many d h (live (proc c ys) w) (live (proc c (put ys i g)) w)
quiet_many d h w c i ts {b = b} eh et still ys k = subst (λ l. Many d h (live (proc c ys) w) (live (proc c l) w)) (sym (put_same ys i b k)) here
quiet_many d h w c i ts {b = b} {g = g} eh et (quiet m e q) ys k =
    after (live (proc c (put ys i m)) w) (ap (advanced h w) (step_runs d (h.supply w) c ys i ts b (None, m) eh et k e))
    (subst (λ l. Many d h (live (proc c (put ys i m)) w) (live (proc c l) w)) (put_put ys i m g) (quiet_many d h w c i ts eh et q (put ys i m) (thing_put ys i b m k)))

-- at least one quiet step of an actor is at least one of its process
moves_many : {W B : Type 0} (d : Engine B) (h : Host W) (w : W) (c : Core) (i : ℕ) (ts : List Task) {b g : B} → c.halted ≡ None → c.tasks ≡ Run i ∷ ts → Moves d (view (h.supply w) i c) b g
    → (ys : Numbered B) → thing ys i ≡ Some b → Many1 d h (live (proc c ys) w) (live (proc c (put ys i g)) w)
moves_many d h w c i ts {b = b} {g = g} eh et m ys k = (
  live (proc c (put ys i m.0)) w,
  ap (advanced h w) (step_runs d (h.supply w) c ys i ts b (None, m.0) eh et k m.1),
  subst (λ l. Many d h (live (proc c (put ys i m.0)) w) (live (proc c l) w)) (put_put ys i m.0 g) (quiet_many d h w c i ts eh et m.2 (put ys i m.0) (thing_put ys i b m.0 k)),
)

module _ {W A B : Type 0} (e : Engine A) (d : Engine B) (h : Host W) (R : Phase → A → B → Type 0) (sim : Simulates e d R) where
  -- the second moves, or the first has become lighter
  abbrev Advances : Numbered A → Live W B → Live W A → Live W B → Type 0
  Advances xs u l m = Many1 d h u m ⊎ (Many d h u m × (load sim.weight l.proc.actors < load sim.weight xs))

  moved : (xs : Numbered A) (u : Live W B) (l : Live W A) (m : Live W B) → Advances xs u l m → Many d h u m
  moved xs u l m (inl k) = many_of d h k
  moved xs u l m (inr k) = k.0

  -- the same process but for its actors, which are related unless the event was stopped
  abbrev Near : Live W A → Live W B → Type 0
  Near l m = (l.proc.core ≡ m.proc.core) × (l.out ≡ m.out) × Unless (λ k. Related R k l.proc.actors m.proc.actors) l.proc.core

  -- what the second does for a step of the first
  abbrev Does : Numbered A → Live W B → Option (Live W A) → Type 0
  Does xs u None = advance d h u ≡ None
  Does xs u (Some l) = (m : Live W B) × Advances xs u l m × Near l m

  -- lines don't matter to what is related
  lines_related : (ls : List Line) (c : Core) (xs : Numbered A) (ys : Numbered B) → Related R c xs ys → Related R (add_lines ls c) xs ys
  lines_related ls c xs ys rs = record { all = rs.all; phases = rs.phases }

  served_near : (w : W) (r : Stepped A) (q : Stepped B) → Matches e d R sim r q → Near (serve h r.1 r.0 w) (serve h q.1 q.0 w)
  served_near w (p, o) (q, n) k = by_request o n k.1
    where
      by_request : (o n : Option Request) → o ≡ n → Near (serve h o p w) (serve h n q w)
      by_request None None f = (k.0, refl, k.2)
      by_request None (Some x) f = absurd cc
      by_request (Some x) None f = absurd cc
      by_request (Some x) (Some y) f =
          let g : x ≡ y = same_of f in (
            ap (λ z. add_lines (h.serve z w).0 p.core) g ∙ ap (add_lines (h.serve y w).0) k.0,
            ap (λ z. (h.serve z w).1) g,
            unless_map p.core.halted (lines_related (h.serve x w).0 p.core p.actors q.actors) k.2,
          )

  -- from the same core in the same world
  abbrev Does_at : Core → Numbered A → Numbered B → W → Option (Live W A) → Type 0
  Does_at c xs ys w o = Does xs (live (proc c ys) w) o

  quiet_related : (i : ℕ) (ts : List Task) (c : Core) (xs : Numbered A) (ys : Numbered B) (a0 a : A) (b0 b : B) → Orderly c → c.tasks ≡ Run i ∷ ts → Related R c xs ys → thing xs i ≡ Some a0
      → thing ys i ≡ Some b0
      → R Free a b → Related R c (put xs i a) (put ys i b)
  quiet_related i ts c xs ys a0 a b0 b o et rs ex en r =
      let pop = popped_at i c.left (Run i) ts c o et (run_of i) in
      related_shifts e d R sim i Free c c xs ys a0 a b0 b ex en rs (same_rank pop.phase, λ j n. omega arith) r

  quiet_advances : (w : W) (c : Core) (xs : Numbered A) (ys : Numbered B) (i : ℕ) (ts : List Task) (b g : B) (a0 a : A) → c.halted ≡ None → c.tasks ≡ Run i ∷ ts → thing xs i ≡ Some a0
      → thing ys i ≡ Some b
      → Moves d (view (h.supply w) i c) b g ⊎ (Quietly d (view (h.supply w) i c) b g × (sim.weight a < sim.weight a0))
      → Advances xs (live (proc c ys) w) (live (proc c (put xs i a)) w) (live (proc c (put ys i g)) w)
  quiet_advances w c xs ys i ts b g a0 a eh et ex en (inl m) = inl (moves_many d h w c i ts eh et m ys en)
  quiet_advances w c xs ys i ts b g a0 a eh et ex en (inr m) = inr (quiet_many d h w c i ts eh et m.0 ys en, load_put sim.weight xs i a0 a ex m.1)

  answered : (w : W) (c : Core) (xs : Numbered A) (ys : Numbered B) (i : ℕ) (ts : List Task) (b : B) (k : Option Ask) (a0 a : A) → Orderly c → c.halted ≡ None → c.tasks ≡ Run i ∷ ts
      → Related R c xs ys
      → thing xs i ≡ Some a0 → thing ys i ≡ Some b → MatchesAsk R d (view (h.supply w) i c) (sim.weight a < sim.weight a0) k a b
      → Does_at c xs ys w (advanced h w (Some (run_next e (h.supply w) i ts (k, a) (proc c xs))))
  answered w c xs ys i ts b None a0 a o eh et rs ex en ans = (
    live (proc c (put ys i ans.0)) w,
    quiet_advances w c xs ys i ts b ans.0 a0 a eh et ex en ans.1,
    (refl, refl, unless c.halted (quiet_related i ts c xs ys a0 a b ans.0 o et rs ex en ans.2)),
  )
  answered w c xs ys i ts b (Some ask) a0 a o eh et rs ex en ans =
      let m = ans.0 in let g = ans.1 in
      let c2 = record c { tasks = ts; left = ask.left } in
      let r = answer e (h.supply w) i ask.act (proc c2 (put xs i a)) in
      let q = answer d (h.supply w) i ask.act (proc c2 (put ys i g)) in (
        serve h q.1 q.0 w,
        inl (many_many1 d h (quiet_many d h w c i ts eh et ans.2 ys en) (
          serve h q.1 q.0 w,
          ap (advanced h w) (step_runs d (h.supply w) c (put ys i m) i ts m (Some ask, g) eh et (thing_put ys i b m en) ans.3
              ∙ ap (λ l. Some (answer d (h.supply w) i ask.act (proc c2 l))) (put_put ys i m g)),
          here,
        )),
        served_near w r q (answer_alike e d R sim (h.supply w) i ask.act c c2 xs ys a g
            (record { pop = popped_at i ask.left (Run i) ts c o et (run_of i); rs = rs; first = (a0, ex); second = (b, en); after = ans.4 })),
      )

  run_does : (w : W) (c : Core) (xs : Numbered A) (ys : Numbered B) (i : ℕ) (ts : List Task) (x : Option A) (y : Option B) → Orderly c → c.halted ≡ None → c.tasks ≡ Run i ∷ ts → Related R c xs ys
      → thing xs i ≡ x → thing ys i ≡ y → BothOrNone (R Free) x y → Does_at c xs ys w (advanced h w (Some (run e (h.supply w) i ts x (proc c xs))))
  run_does w c xs ys i ts None None o eh et rs ex en k = (
    live (run d (h.supply w) i ts None (proc c ys)).0 w,
    inl (
      _,
      ap (advanced h w) (ap (λ k. step_if d (h.supply w) k (proc c ys)) eh ∙ ap (λ k. step_tasks d (h.supply w) k (proc c ys)) et ∙ ap (λ o. Some (run d (h.supply w) i ts o (proc c ys))) en),
      here,
    ),
    (refl, refl, tt),
  )
  run_does w c xs ys i ts None (Some b) o eh et rs ex en k = absurd k
  run_does w c xs ys i ts (Some a) None o eh et rs ex en k = absurd k
  run_does w c xs ys i ts (Some a) (Some b) o eh et rs ex en k =
      let v = view (h.supply w) i c in
      answered w c xs ys i ts b (e.next v a).0 a (e.next v a).1 o eh et rs ex en (sim.next v a b k)

  -- a task but the step of an actor
  task_does : (w : W) (c : Core) (xs : Numbered A) (ys : Numbered B) (t : Task) (ts : List Task) → Orderly c → c.tasks ≡ t ∷ ts → Related R c xs ys
      → advance d h (live (proc c ys) w) ≡ advanced h w (Some (do_task d (h.supply w) t (popped ts (proc c ys))))
      → Does_at c xs ys w (advanced h w (Some (do_task e (h.supply w) t (popped ts (proc c xs)))))
  task_does w c xs ys t ts o et rs eq =
      let r = do_task e (h.supply w) t (popped ts (proc c xs)) in
      let q = do_task d (h.supply w) t (popped ts (proc c ys)) in
      (serve h q.1 q.0 w, inl (serve h q.1 q.0 w, eq, here), served_near w r q (task_alike e d R sim (h.supply w) t ts c xs ys o et rs))

  tasks_does : (w : W) (c : Core) (xs : Numbered A) (ys : Numbered B) (ts : List Task) → Orderly c → c.halted ≡ None → c.tasks ≡ ts → Related R c xs ys
      → Does_at c xs ys w (advanced h w (step_tasks e (h.supply w) ts (proc c xs)))
  tasks_does w c xs ys [] o eh et rs = ap (advanced h w) (ap (λ k. step_if d (h.supply w) k (proc c ys)) eh ∙ ap (λ k. step_tasks d (h.supply w) k (proc c ys)) et)
  tasks_does w c xs ys (Run i ∷ ts) o eh et rs = run_does w c xs ys i ts (thing xs i) (thing ys i) o eh et rs refl refl (related_thing (R Free) xs ys i rs.all)
  tasks_does w c xs ys (t ∷ ts) o eh et rs =
      task_does w c xs ys t ts o et rs (ap (advanced h w) (ap (λ k. step_if d (h.supply w) k (proc c ys)) eh ∙ ap (λ k. step_tasks d (h.supply w) k (proc c ys)) et))

  halted_does : (w : W) (c : Core) (xs : Numbered A) (ys : Numbered B) (x : Option Halt) → c.halted ≡ x → UnlessStopped x (Orderly c × Related R c xs ys)
      → Does_at c xs ys w (advanced h w (step_if e (h.supply w) x (proc c xs)))
  halted_does w c xs ys (Some x) eh k = ap (advanced h w) (ap (λ k. step_if d (h.supply w) k (proc c ys)) eh)
  halted_does w c xs ys None eh k = tasks_does w c xs ys c.tasks k.0 eh refl k.1

  does_at : (w : W) (c : Core) (xs : Numbered A) (ys : Numbered B) → UnlessStopped c.halted (Orderly c × Related R c xs ys) → Does_at c xs ys w (advance e h (live (proc c xs) w))
  does_at w c xs ys k = halted_does w c xs ys c.halted refl k

  rebuilt : (c k : Core) (w v : W) (ys : Numbered B) → c ≡ k → w ≡ v → live (proc c ys) w ≡ live (proc k ys) v
  rebuilt c k w v ys e f = ap (λ x. live (proc x ys) w) e ∙ ap (λ x. live (proc k ys) x) f

  near : (s : Live W A) (u : Live W B) → Same R s u → Does s.proc.actors u (advance e h s)
  near s u k =
      subst (λ z. Does s.proc.actors z (advance e h s)) (rebuilt s.proc.core u.proc.core s.out u.out u.proc.actors k.0.0 k.1)
      (does_at s.out s.proc.core s.proc.actors u.proc.actors k.0.1)

  -- and the process stays in order
  abbrev Steps : Numbered A → Live W B → Option (Live W A) → Type 0
  Steps xs u None = advance d h u ≡ None
  Steps xs u (Some l) = (m : Live W B) × Advances xs u l m × Same R l m

  ordered : (xs : Numbered A) (u : Live W B) (o : Option (Live W A)) → ((l : Live W A) → o ≡ Some l → OrderlyUnlessStopped l.proc.core) → Does xs u o → Steps xs u o
  ordered xs u None f k = k
  ordered xs u (Some l) f k = (k.0, k.1, ((k.2.0, unless_both _ _ l.proc.core.halted (f l refl) k.2.2), k.2.1))

  does : (s : Live W A) (u : Live W B) → Same R s u → Steps s.proc.actors u (advance e h s)
  does s u k =
      ordered s.proc.actors u (advance e h s) (λ l. advance_in_order e h s l (unless_map s.proc.core.halted (λ x. x.0) k.0.1)) (near s u k)

  pub bursts_follow : BurstsFollow e d h R
  bursts_follow s t u k (rests a) = (u, rests (subst (Steps s.proc.actors u) a (does s u k)), k)
  bursts_follow s t u k (steps r a b) =
      let one : Steps s.proc.actors u (Some r) = subst (Steps s.proc.actors u) a (does s u k) in
      let all = bursts_follow r t one.0 one.2 b in
      (all.0, many_burst d h (moved s.proc.actors u r one.0 one.1) all.1, all.2)

  -- and several steps of the first are followed by some of the second
  pub many_follow : (s t : Live W A) (u : Live W B) → Same R s u → Many e h s t → (v : Live W B) × Many d h u v × Same R t v
  many_follow s t u k here = (u, here, k)
  many_follow s t u k (after r a more) =
      let one : Steps s.proc.actors u (Some r) = subst (Steps s.proc.actors u) a (does s u k) in
      let all = many_follow r t one.0 one.2 more in (all.0, many_many d h (moved s.proc.actors u r one.0 one.1) all.1, all.2)

  -- the other way: a burst of n steps of the second
  abbrev BurstIn : ℕ → Live W B → Live W B → Type 0
  BurstIn zero u v = (advance d h u ≡ None) × (u ≡ v)
  BurstIn (suc n) u v = (q : Live W B) × (advance d h u ≡ Some q) × BurstIn n q v

  counted : {u v : Live W B} → Burst d h u v → (n : ℕ) × BurstIn n u v
  counted (rests a) = (0, (a, refl))
  counted (steps q a b) = let c = counted b in (suc c.0, (q, a, c.1))

  none_some : {o : Option (Live W B)} {q : Live W B} → o ≡ Some q → o ≡ None → ⊥
  none_some e f = cc

  same_step : {o : Option (Live W B)} {q r : Live W B} → o ≡ Some q → o ≡ Some r → q ≡ r
  same_step e f = cc

  -- what is left of a burst after some steps
  many_rest : {u q : Live W B} → Many d h u q → (n : ℕ) (v : Live W B) → BurstIn n u v → (m : ℕ) × (m ≤ n) × BurstIn m q v
  many_rest here n v b = (n, omega arith, b)
  many_rest (after r a l) zero v b = absurd (none_some a b.0)
  many_rest (after r a l) (suc n) v b =
      let rest = many_rest l n v (subst (λ z. BurstIn n z v) (same_step b.1 a) b.2) in
      (rest.0, omega (arith, rest.1), rest.2)

  many1_rest : (u q : Live W B) → Many1 d h u q → (n : ℕ) (v : Live W B) → BurstIn n u v → (m : ℕ) × (m < n) × BurstIn m q v
  many1_rest u q m zero v b = absurd (none_some m.1 b.0)
  many1_rest u q m (suc n) v b =
      let rest = many_rest m.2 n v (subst (λ z. BurstIn n z v) (same_step b.1 m.1) b.2) in
      (rest.0, omega (arith, rest.1), rest.2)

  abbrev Found : Live W A → Live W B → Type 0
  Found s v = (t : Live W A) × Burst e h s t × Same R t v

  abbrev Back : ℕ → Type 0
  Back n = (m : ℕ) (s : Live W A) (u v : Live W B) → Same R s u → load sim.weight s.proc.actors ≤ m → BurstIn n u v → Found s v

  at_rest : (n : ℕ) (s : Live W A) (u v : Live W B) → Same R s u → advance e h s ≡ None → advance d h u ≡ None → BurstIn n u v → Found s v
  at_rest zero s u v k a g b = (s, rests a, subst (Same R s) b.1 k)
  at_rest (suc n) s u v k a g b = absurd (none_some b.1 g)

  -- after one step of the first
  stepped : (s r : Live W A) (v : Live W B) → advance e h s ≡ Some r → Found r v → Found s v
  stepped s r v a f = (f.0, steps r a f.1, f.2)

  back_step : (n : ℕ) (s : Live W A) (u v : Live W B) → Same R s u → BurstIn n u v → ((k : ℕ) → k < n → Back k)
      → ((r : Live W A) (m : Live W B) → load sim.weight r.proc.actors < load sim.weight s.proc.actors → Same R r m → BurstIn n m v → Found r v) → (o : Option (Live W A)) → advance e h s ≡ o
      → Steps s.proc.actors u o → Found s v
  back_step n s u v k b prev same_n None a g = at_rest n s u v k a g b
  back_step n s u v k b prev same_n (Some r) a g = stepped s r v a (by_moves g.1)
    where
      by_moves : Advances s.proc.actors u r g.0 → Found r v
      by_moves (inl m) =
          let j = many1_rest u g.0 m n v b in
          prev j.0 j.1 (load sim.weight r.proc.actors) r g.0 v g.2 (omega arith) j.2
      by_moves (inr m) =
          let j = many_rest m.0 n v b in
          ⊎_elim
          (λ lt. prev j.0 lt (load sim.weight r.proc.actors) r g.0 v g.2 (omega arith) j.2)
          (λ le. let f : j.0 ≡ n = omega (arith, j.1) in same_n r g.0 m.1 g.2 (subst (λ i. BurstIn i g.0 v) f j.2))
          (cases_lt j.0 n)

  back_one : (n : ℕ) → ((k : ℕ) → k < n → Back k) → Back n
  back_one n prev zero s u v k w b =
      back_step n s u v k b prev (λ r m lt l j. absurd (omega arith)) (advance e h s) refl (does s u k)
  back_one n prev (suc m) s u v k w b =
      back_step n s u v k b prev (λ r i lt l j. back_one n prev m r i v l (omega arith) j) (advance e h s) refl (does s u k)

  back_below : (n k : ℕ) → k < n → Back k
  back_below zero k lt = absurd (omega arith)
  back_below (suc n) k lt = back_one k (λ j le. back_below n j (omega arith))

  pub bursts_return : BurstsReturn e d h R
  bursts_return s u v k b =
      let j = counted b in
      back_below (suc j.0) j.0 (omega arith) (load sim.weight s.proc.actors) s u v k (omega arith) j.1
