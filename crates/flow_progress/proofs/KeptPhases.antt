-- What is known of actors by their phases is kept by each step of a process.
use Rattle.std.proofs.Common.{◌≡◌, ℕ, ◌<◌, inl, List, [], ◌∷◌, refl, subst, arith}
use Rattle.std.specs.List.{AllByRecursion}
use Rattle.std.specs.declared.option.Option.{Option}
use Rattle.std.specs.declared.option.Option.TheVariants.{None, Some}
use Rattle.flow_numbered.specs.Numbered.{Numbered, thing, put}
use Rattle.flow_meaning.specs.Requests.{Ask, Supply}
use Rattle.flow_meaning.specs.Process.{Task, Run, Halt, Core, View, Engine}
use Rattle.flow_meaning.specs.Step.{Stepped, proc, view, answer, run_next, run, popped, do_task, step_tasks, step_if}
use Rattle.flow_meaning.specs.Orderly.{Orderly, UnlessStopped, Phase, Free, Due, phase_of}
use Rattle.flow_meaning.specs.Law.{still, MatchesAsk, Alike, BothOrNone, Simulates, AllRelated, Related}
use Rattle.flow_meaning.proofs.Posture.{same_rank, Unless, unless, unless_map}
use Rattle.flow_meaning.proofs.Shifts.{run_of, same_of}
use Rattle.flow_meaning.proofs.TaskShifts.{popped_at}
use Rattle.flow_meaning.proofs.Relating.{related_thing, related_shifts}
use Rattle.flow_meaning.proofs.Alike.{task_alike, answer_alike}
use Rattle.flow_progress.specs.Phases.{KnownAfter, KeepsPhases, Placed}

none_some : {X : Type 0} {x : X} → None ≡ Some x → ⊥
none_some h = cc

module _ {A : Type 0} (e : Engine A) (known : Phase → A → Type 0) (keeps : KeepsPhases e known) where
  -- an actor is related to itself
  abbrev pub Itself : Phase → A → A → Type 0
  Itself p a b = (a ≡ b) × known p a

  started : (o : Option A) → ((a : A) → o ≡ Some a → known Free a) → BothOrNone (Itself Free) o o
  started None h = tt
  started (Some a) h = (refl, h a refl)

  answers : (v : View) (a : A) (r : Option Ask × A) (lighter : Type 0) → e.next v a ≡ r → KnownAfter known r → MatchesAsk Itself e v lighter r.0 r.1 a
  answers v a (None, x) lighter q k = (x, inl (x, q, still), (refl, k))
  answers v a (Some ask, x) lighter q k = (a, x, still, q, (refl, k))

  pub itself : Simulates e e Itself
  itself = record {
    main = refl;
    label = λ k. refl;
    fresh = λ k vs. started (e.fresh k vs) (keeps.fresh k vs);
    waits = λ a b r. (r.0, keeps.waits a r.1);
    dues = λ a b r. (r.0, keeps.dues a r.1);
    risks = λ a b r. (r.0, keeps.risks a r.1);
    weight = λ a. 0;
    next = λ v a b r. subst (λ z. MatchesAsk Itself e v (0 < 0) (e.next v a).0 (e.next v a).1 z) r.0 (answers v a (e.next v a) (0 < 0) refl (keeps.next v a r.1));
    lose = λ a b r. subst (λ z. Alike (Itself Due) (e.lose a) (e.lose z)) r.0 (refl, (refl, keeps.lose a r.1));
    store = λ u a b r. subst (λ z. Alike (Itself Free) (e.store u a) (e.store u z)) r.0 (refl, (refl, keeps.store u a r.1));
    take = λ n u a b r. subst (λ z. Alike (Itself Free) (e.take n u a) (e.take n u z)) r.0 (refl, (refl, keeps.take n u a r.1));
    raise = λ err a b r. subst (λ z. Alike (Itself Free) (e.raise err a) (e.raise err z)) r.0 (refl, (refl, keeps.raise err a r.1));
    occ = λ s k a b r. subst (λ z. e.occ s k a ≡ e.occ s k z) r.0 refl;
  }

  -- between actors that are known and related ones
  all_itself : (xs : Numbered A) → AllByRecursion (λ (x : ℕ × A). known Free x.1) xs → AllRelated (Itself Free) xs xs
  all_itself [] h = tt
  all_itself (x ∷ xs) h = (refl, (refl, h.0), all_itself xs h.1)

  both_itself : (p : Phase) (o : Option A) → ((a : A) → o ≡ Some a → known p a) → BothOrNone (Itself p) o o
  both_itself p None h = tt
  both_itself p (Some a) h = (refl, h a refl)

  pub related_of : (c : Core) (xs : Numbered A) → Placed known c xs → Related Itself c xs xs
  related_of c xs h = record { all = all_itself xs h.all; phases = λ i. both_itself (phase_of c i) (thing xs i) (h.phases i) }

  all_known : (xs : Numbered A) → AllRelated (Itself Free) xs xs → AllByRecursion (λ (x : ℕ × A). known Free x.1) xs
  all_known [] h = tt
  all_known (x ∷ xs) h = (h.1.1, all_known xs h.2)

  one_known : (p : Phase) (o : Option A) (a : A) → BothOrNone (Itself p) o o → o ≡ Some a → known p a
  one_known p None a h q = absurd (none_some q)
  one_known p (Some x) a h q = subst (known p) (same_of q) h.1

  pub placed_of : (c : Core) (xs : Numbered A) → Related Itself c xs xs → Placed known c xs
  placed_of c xs h = record { all = all_known xs h.all; phases = λ i a q. one_known (phase_of c i) (thing xs i) a (h.phases i) q }

  -- after a step
  abbrev pub PlacedAfter : Stepped A → Type 0
  PlacedAfter r = Unless (λ k. Placed known k r.0.actors) r.0.core

  related_after : (r : Stepped A) → Unless (λ k. Related Itself k r.0.actors r.0.actors) r.0.core → PlacedAfter r
  related_after r h = unless_map r.0.core.halted (placed_of r.0.core r.0.actors) h

  -- an actor's step
  next_placed : (s : Supply) (i : ℕ) (ts : List Task) (c : Core) (xs : Numbered A) (a : A) (p : Option Ask × A) → Orderly c → c.tasks ≡ Run i ∷ ts → thing xs i ≡ Some a → Placed known c xs
      → KnownAfter known p
      → PlacedAfter (run_next e s i ts p (proc c xs))
  next_placed s i ts c xs a (None, b) o top at h k =
      let pop = popped_at i c.left (Run i) ts c o top (run_of i) in
      unless c.halted (placed_of c (put xs i b) (related_shifts e e Itself itself i Free c c xs xs a b a b at at (related_of c xs h) (same_rank pop.phase, λ j n. omega arith) (refl, k)))
  next_placed s i ts c xs a (Some ask, b) o top at h k =
      related_after (answer e s i ask.act (proc (record c { tasks = ts; left = ask.left }) (put xs i b)))
      (answer_alike e e Itself itself s i ask.act c (record c { tasks = ts; left = ask.left }) xs xs b b (record {
        pop = popped_at i ask.left (Run i) ts c o top (run_of i);
        rs = related_of c xs h;
        first = (a, at);
        second = (a, at);
        after = (refl, k);
      })).2

  run_placed : (s : Supply) (i : ℕ) (ts : List Task) (c : Core) (xs : Numbered A) (x : Option A) → Orderly c → c.tasks ≡ Run i ∷ ts → thing xs i ≡ x → Placed known c xs
      → PlacedAfter (run e s i ts x (proc c xs))
  run_placed s i ts c xs None o top at h = tt
  run_placed s i ts c xs (Some a) o top at h =
      let free = one_known Free (thing xs i) a (related_thing (Itself Free) xs xs i (related_of c xs h).all) at in
      next_placed s i ts c xs a (e.next (view s i c) a) o top at h (keeps.next (view s i c) a free)

  abbrev pub PlacedMaybe : Option (Stepped A) → Type 0
  PlacedMaybe None = Unit {0}
  PlacedMaybe (Some r) = PlacedAfter r

  tasks_placed : (s : Supply) (ts : List Task) (c : Core) (xs : Numbered A) → Orderly c → c.tasks ≡ ts → Placed known c xs → PlacedMaybe (step_tasks e s ts (proc c xs))
  tasks_placed s [] c xs o top h = tt
  tasks_placed s (Run i ∷ ts) c xs o top h = run_placed s i ts c xs (thing xs i) o top refl h
  tasks_placed s (t ∷ ts) c xs o top h = related_after (do_task e s t (popped ts (proc c xs))) (task_alike e e Itself itself s t ts c xs xs o top (related_of c xs h)).2

  pub step_placed : (s : Supply) (x : Option Halt) (c : Core) (xs : Numbered A) → UnlessStopped x (Orderly c × Placed known c xs) → PlacedMaybe (step_if e s x (proc c xs))
  step_placed s (Some x) c xs h = tt
  step_placed s None c xs h = tasks_placed s c.tasks c xs h.0 refl h.1
