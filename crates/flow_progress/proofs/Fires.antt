-- Drops and fires keep a process fitting.
use Rattle.std.proofs.Common.{◌≡◌, ℕ, ◌+◌, Bool, true, false, List, [], ◌∷◌, refl, sym, subst, arith}
use Rattle.std.specs.declared.option.Option.{Option}
use Rattle.std.specs.declared.option.Option.TheVariants.{None, Some}
use Rattle.flow_tree.specs.Tree.{TypeTree}
use Rattle.flow_value.specs.declared.value.Kind.{Kind}
use Rattle.flow_eval.specs.Typed.{future_side}
use Rattle.flow_class.specs.Classes.{RawTree}
use Rattle.flow_numbered.specs.Numbered.{Numbered, thing, removed}
use Rattle.flow_meaning.specs.Cells.{PromiseSide, FutureSide, side_of, Waiter, Cell, is_ready, waiters}
use Rattle.flow_meaning.specs.Process.{Task, Fire, Drop, Entry, Core}
use Rattle.flow_meaning.specs.References.{in_cells, in_entries, in_task, in_tasks, in_ports, in_requests, count_maybe, reference_count}
use Rattle.flow_meaning.specs.Work.{pushed, take_branch}
use Rattle.flow_meaning.specs.Dropping.{lose_ref, drop, fire_to, fire_at, fire_cell, fire}
use Rattle.flow_meaning.specs.Orderly.{tasks_of, is_suspended, AllWait, Orderly}
use Rattle.flow_meaning.specs.Frame.{Frame}
use Rattle.flow_meaning.proofs.Shifts.{cell_waits}
use Rattle.flow_progress.specs.Fitting.{CellTypes, WaitersAt, AllWaitFor, WaitsFor, ActorAt, PostureFits, TasksFit, ProcessFits}
use Rattle.flow_progress.specs.Alone.{frames_scan}
use Rattle.flow_progress.proofs.Ones.{PortsGone}
use Rattle.flow_progress.specs.Keeping.{Fine}
use Rattle.flow_progress.proofs.States.{fine_turn, all_but, actor_of}
use Rattle.flow_progress.proofs.CellStates.{cell_there}
use Rattle.flow_progress.proofs.HandFits.{branch_fits}
use Rattle.flow_progress.proofs.Losses.{lose_fits}

fewer_tasks : (q a b t d p e f : ℕ) → q + (a + b + (t + d) + p + e + f) ≡ 0 → q + (a + b + d + p + e + f) ≡ 0
fewer_tasks q a b t d p e f h = omega (arith, h)

popped_alone : (c : Core) (xs : Numbered Frame) (t : Task) (ts : List Task) (n : ℕ) → c.tasks ≡ t ∷ ts → PortsGone c xs → PortsGone (record c { tasks = ts; left = n }) xs
popped_alone c xs t ts n top h = record {
  alone = λ port k q. let ps = removed c.ports port in
      fewer_tasks (frames_scan xs PromiseSide k) (in_cells PromiseSide k c.cells) (in_entries PromiseSide k c.entries) (in_task PromiseSide k t) (in_tasks PromiseSide k ts) (in_ports PromiseSide k ps)
      (in_requests PromiseSide k c.requests)
      (count_maybe PromiseSide k FutureSide c.main) (subst (λ us. reference_count (frames_scan xs) PromiseSide k (record c { ports = ps; tasks = us }) ≡ 0) top (h.alone port k q));
  once = h.once;
}

suspended_of : (o : Option Entry) → is_suspended o ≡ Some true → (e : Entry) × (o ≡ Some e) × (e.suspended ≡ true)
suspended_of None h = absurd cc
suspended_of (Some e) h = (e, refl, same e.suspended h)
  where
    same : (b : Bool) → Some b ≡ Some true → b ≡ true
    same b h = cc

module _ (r : RawTree) (types : CellTypes) (c : Core) (xs : Numbered Frame) (p : ProcessFits r types c xs) (o : Orderly c) (go : c.halted ≡ None) (alone : PortsGone c xs) where
  abbrev Ok : Core → Type 0
  Ok d = Fine r types d.halted d xs

  -- a drop
  drop_popped : (kind : Kind) (k : ℕ) (ts : List Task) (n : ℕ) → c.tasks ≡ Drop kind k ∷ ts → ProcessFits r types (record c { tasks = ts; left = n }) xs
  drop_popped kind k ts n top = record {
    cells = p.cells;
    waiting = p.waiting;
    actors = λ i. subst (λ us. ActorAt r types (thing c.entries i) (thing xs i) (tasks_of i us)) top (p.actors i);
    work = (subst (TasksFit r types) top p.work).1;
    ports = p.ports;
    main = p.main;
    requests = p.requests;
    numbered = p.numbered;
    framed = p.framed;
    registered = p.registered;
  }

  pub drop_fits : (kind : Kind) (k : ℕ) (ts : List Task) → c.tasks ≡ Drop kind k ∷ ts → Ok (drop (frames_scan xs) kind k (record c { tasks = ts }))
  drop_fits kind k ts top =
      fine_turn r types (λ d. lose_ref (frames_scan xs) (side_of kind) k d) (record c { tasks = ts }) xs
      (λ n. lose_fits r types xs (record c { tasks = ts; left = n }) (drop_popped kind k ts n top) go o.numbered (popped_alone c xs (Drop kind k) ts n top alone) (side_of kind) k
      (let x = (subst (TasksFit r types) top p.work).0 in (future_side kind x.0, x.1)))

  -- a fire
  fire_popped : (k : ℕ) (ts : List Task) → c.tasks ≡ Fire k ∷ ts → ProcessFits r types (record c { tasks = ts }) xs
  fire_popped k ts top = record {
    cells = p.cells;
    waiting = p.waiting;
    actors = λ i. subst (λ us. ActorAt r types (thing c.entries i) (thing xs i) (tasks_of i us)) top (p.actors i);
    work = (subst (TasksFit r types) top p.work).1;
    ports = p.ports;
    main = p.main;
    requests = p.requests;
    numbered = p.numbered;
    framed = p.framed;
    registered = p.registered;
  }

  fire_again : (k : ℕ) (ts : List Task) → c.tasks ≡ Fire k ∷ ts → ProcessFits r types (pushed (Fire k) (record c { tasks = ts })) xs
  fire_again k ts top = record {
    cells = p.cells;
    waiting = p.waiting;
    actors = λ i. subst (λ us. ActorAt r types (thing c.entries i) (thing xs i) (tasks_of i us)) top (p.actors i);
    work = subst (TasksFit r types) top p.work;
    ports = p.ports;
    main = p.main;
    requests = p.requests;
    numbered = p.numbered;
    framed = p.framed;
    registered = p.registered;
  }

  loses : (k : ℕ) (ts : List Task) → c.tasks ≡ Fire k ∷ ts → Ok (lose_ref (frames_scan xs) FutureSide k (record c { tasks = ts }))
  loses k ts top =
      lose_fits r types xs (record c { tasks = ts }) (fire_popped k ts top) go o.numbered (popped_alone c xs (Fire k) ts c.left top alone) FutureSide k (subst (TasksFit r types) top p.work).0

  -- a waiter takes its branch
  waiter_of : (k : ℕ) (cell : Cell) (t : TypeTree) (w : Waiter) (ws : List Waiter) → thing c.cells k ≡ Some cell → types k ≡ Some t → waiters cell ≡ w ∷ ws → WaitsFor r types xs w t
  waiter_of k cell t w ws at e q =
      let h = subst (λ z. WaitersAt r types xs z (Some cell)) e (subst (WaitersAt r types xs (types k)) at (p.waiting k)) in
      let all : AllWaitFor r types xs (w ∷ ws) t = subst (λ l. AllWaitFor r types xs l t) q h in
      all.0

  takes : (k : ℕ) (cell : Cell) (t : TypeTree) (w : Waiter) (ws : List Waiter) (ts : List Task) → c.tasks ≡ Fire k ∷ ts → thing c.cells k ≡ Some cell → types k ≡ Some t → is_ready cell ≡ true
      → waiters cell ≡ w ∷ ws
      → Ok (fire_to k cell w (thing c.entries w.actor) (record c { tasks = ts }))
  takes k cell t w ws ts top at e ready q =
      let f = waiter_of k cell t w ws at e q in
      let all : AllWait c.entries (w ∷ ws) = subst (AllWait c.entries) q (cell_waits c.entries c.cells k cell o.waiting at) in
      let en = suspended_of (thing c.entries w.actor) all.0 in
      let d = pushed (Fire k) (record c { tasks = ts }) in
      let state = fire_again k ts top in
      let a = actor_of r types en.0 f.frame (thing c.entries w.actor) (thing xs w.actor) (tasks_of w.actor d.tasks) en.1 f.stands (state.actors w.actor) in
      let post = subst (λ b. PostureFits r types b a.class en.0 f.frame (tasks_of w.actor d.tasks)) en.2 a.posture in
      subst (λ x. Ok (fire_to k cell w x (record c { tasks = ts }))) (sym en.1)
      (subst (λ x. Ok (take_branch w.actor w.branch k en.0 [] x d)) at
      (branch_fits r types w.actor w.branch k en.0 en.0 [] d xs f.frame a.class t cell at ready go en.1 f.stands (all_but r types w.actor d xs state)
      (record { is = a.is; owns = a.owns }) post.0 post.1 f.operand e post.2 tt))

  fire_by : (k : ℕ) (cell : Cell) (t : TypeTree) (ts : List Task) → c.tasks ≡ Fire k ∷ ts → thing c.cells k ≡ Some cell → types k ≡ Some t → (b : Bool) → is_ready cell ≡ b → (ws : List Waiter)
      → waiters cell ≡ ws
      → Ok (fire_at (frames_scan xs) k cell b ws (record c { tasks = ts }))
  fire_by k cell t ts top at e b ready [] q = loses k ts top
  fire_by k cell t ts top at e false ready (w ∷ ws) q = loses k ts top
  fire_by k cell t ts top at e true ready (w ∷ ws) q = takes k cell t w ws ts top at e ready q

  pub fire_fits : (k : ℕ) (ts : List Task) → c.tasks ≡ Fire k ∷ ts → Ok (fire (frames_scan xs) k (record c { tasks = ts }))
  fire_fits k ts top =
      let x = (subst (TasksFit r types) top p.work).0 in
      let there = cell_there r types k x.0 (thing c.cells k) x.1 (p.cells k) in
      subst (λ y. Ok (fire_cell (frames_scan xs) k y (record c { tasks = ts }))) (sym there.1)
      (fire_by k there.0 x.0 ts top there.1 x.1 (is_ready there.0) refl (waiters there.0) refl)
