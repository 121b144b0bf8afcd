-- The end of an actor keeps a process fitting, where its result is its own alone.
use Rattle.std.proofs.Common.{◌≡◌, ℕ, zero, suc, ◌+◌, Bool, true, false, List, [], ◌∷◌, inl, refl, sym, subst, ◌∙◌, arith}
use Rattle.std.specs.declared.option.Option.{Option}
use Rattle.std.specs.declared.option.Option.TheVariants.{None, Some}
use Rattle.flow_trace.specs.declared.line.Line.{Line}
use Rattle.flow_tree.specs.Tree.{TypeTree, FutureType}
use Rattle.flow_value.specs.Values.{OutcomeTree, GoodOutcome, BadOutcome}
use Rattle.flow_class.specs.Classes.{RawTree}
use Rattle.flow_numbered.specs.Numbered.{Numbered, thing, removed}
use Rattle.flow_meaning.specs.Cells.{PromiseSide, FutureSide, Waiter, Cell, waiters}
use Rattle.flow_meaning.specs.Process.{Task, Close, Entry, Core}
use Rattle.flow_meaning.specs.Lines.{end_line}
use Rattle.flow_meaning.specs.References.{refs_in, value_in, count, in_cells, in_entries, in_tasks, in_ports, in_requests, count_maybe, reference_count}
use Rattle.flow_meaning.specs.Work.{writes, fill, dropping_values}
use Rattle.flow_meaning.specs.Dropping.{set_result, give_result, close}
use Rattle.flow_meaning.specs.Orderly.{tasks_of, is_suspended, AllWait, CellsWait, Orderly}
use Rattle.flow_meaning.specs.Frame.{Frame}
use Rattle.flow_meaning.proofs.Posture.{each_number, thing_removed_other, removed_none, Awake}
use Rattle.flow_meaning.proofs.Order.{rising_removed}
use Rattle.flow_meaning.proofs.Shifts.{cell_waits}
use Rattle.flow_progress.specs.Asking.{HaveSome, OutcomeFits, end_type}
use Rattle.flow_progress.specs.Registering.{IsRegistered}
use Rattle.flow_progress.specs.Fitting.{CellTypes, typed_by, AllWaitFor, WaitersAt, ActorAt, ProcessFits, OwnsResult}
use Rattle.flow_progress.specs.Alone.{frames_scan}
use Rattle.flow_progress.proofs.Ones.{ResultsGone}
use Rattle.flow_progress.specs.Keeping.{Fine}
use Rattle.flow_progress.proofs.Retyped.{outcome_retyped}
use Rattle.flow_progress.proofs.States.{fine_of, all_still, fine_turn, FitsBut, dropping_fits, fine_same}
use Rattle.flow_progress.proofs.CellStates.{fill_fits}
use Rattle.flow_progress.proofs.StepFits.{Actor}
use Rattle.flow_progress.proofs.Unseen.{Off, outcome_off}
use Rattle.flow_progress.proofs.Removing.{unseen, others, moves, removed_state}
use Rattle.flow_progress.proofs.Given.{end_given}

first_task : (q a b t d p e f : ℕ) → q + (a + b + (t + d) + p + e + f) ≡ 0 → t ≡ 0
first_task q a b t d p e f h = omega (arith, h)

other_tasks : (q a b t d p e f : ℕ) → q + (a + b + (t + d) + p + e + f) ≡ 0 → q + (a + b + d + p + e + f) ≡ 0
other_tasks q a b t d p e f h = omega (arith, h)

module _ (r : RawTree) (types : CellTypes) (i : ℕ) (c : Core) (xs : Numbered Frame) where
  -- whoever waits is another
  frames_stay : (ws : List Waiter) (t : TypeTree) → Awake i c → AllWait c.entries ws → AllWaitFor r types xs ws t → AllWaitFor r types (removed xs i) ws t
  frames_stay [] t a w h = tt
  frames_stay (x ∷ ws) t a w h =
      let other : i ≡ x.actor → ⊥ = (λ e. awake_asleep (subst (λ n. is_suspended (thing c.entries n) ≡ Some false) e a) w.0) in
      (record { frame = h.0.frame; stands = thing_removed_other xs i x.actor other ∙ h.0.stands; operand = h.0.operand }, frames_stay ws t a w.1 h.1)
    where
      awake_asleep : {o : Option Bool} → o ≡ Some false → o ≡ Some true → ⊥
      awake_asleep f g = cc

  waits_stay : (k : ℕ) (t : Option TypeTree) (o : Option Cell) → thing c.cells k ≡ o → Awake i c → CellsWait c.entries c.cells → WaitersAt r types xs t o → WaitersAt r types (removed xs i) t o
  waits_stay k None None at a w h = tt
  waits_stay k None (Some cell) at a w h = tt
  waits_stay k (Some t) None at a w h = tt
  waits_stay k (Some t) (Some cell) at a w h = frames_stay (waiters cell) t a (cell_waits c.entries c.cells k cell w at) h

  -- the process without the actor
  closed : (ts : List Task) (n : ℕ) (ls : List Line) → Awake i c → Orderly c → FitsBut r types i (record c { tasks = ts }) xs
      → ProcessFits r types (record c { tasks = ts; entries = removed c.entries i; left = n; lines = ls }) (removed xs i)
  closed ts n ls a o b =
      let none = removed_none c.entries 0 c.started i o.numbered in record {
        cells = b.cells;
        waiting = λ k. waits_stay k (types k) (thing c.cells k) refl a o.waiting (b.waiting k);
        actors = each_number i (λ j. ActorAt r types (thing (removed c.entries i) j) (thing (removed xs i) j) (tasks_of j ts))
            (subst (λ x. ActorAt r types x (thing (removed xs i) i) (tasks_of i ts)) (sym none) tt)
            (λ j d. subst (λ x. ActorAt r types x (thing (removed xs i) j) (tasks_of j ts)) (sym (thing_removed_other c.entries i j d))
            (subst (λ x. ActorAt r types (thing c.entries j) x (tasks_of j ts)) (sym (thing_removed_other xs i j d)) (b.actors j d)));
        work = b.work;
        ports = b.ports;
        main = b.main;
        requests = b.requests;
        numbered = b.numbered;
        framed = rising_removed xs 0 c.started i b.framed;
        registered = each_number i (λ j. IsRegistered j (removed c.entries i) c.cells) (λ e at s. absurd (no_entry (thing (removed c.entries i) i) e none at))
            (λ j d e at s. b.registered j d e (sym (thing_removed_other c.entries i j d) ∙ at) s);
      }
    where
      no_entry : (o : Option Entry) (e : Entry) → o ≡ None → o ≡ Some e → ⊥
      no_entry o e f g = cc

module _ (r : RawTree) (types : CellTypes) where
  value_some : (o : OutcomeTree) (t : TypeTree) → OutcomeFits r.records (typed_by types) o t → HaveSome r.records (typed_by types) (value_in o)
  value_some (GoodOutcome v) t h = ((t, h), tt)
  value_some (BadOutcome e) t h = tt

module _ (r : RawTree) (types : CellTypes) (k : ℕ) (o : OutcomeTree) (t : TypeTree) (d : Core) (ys : Numbered Frame) (p : ProcessFits r types d ys) (go : d.halted ≡ None)
    (has : types k ≡ Some (FutureType t)) (fits : OutcomeFits r.records (typed_by types) o t) where
  -- a result that no future refers to
  gone : reference_count (frames_scan ys) PromiseSide k d ≡ 0 → reference_count (frames_scan ys) FutureSide k d ≡ 0 → count PromiseSide k (refs_in (value_in o)) ≡ 0
      → count FutureSide k (refs_in (value_in o)) ≡ 0
      → Fine r types (set_result k o zero d).halted (set_result k o zero d) ys
  gone a b x y =
      let u = others r types k in
      let e = record d { cells = removed d.cells k } in
      let sees = unseen k d ys p.registered a b in
      fine_of r types None d.halted (dropping_values (value_in o) e) ys go (
        u,
        dropping_fits r u (value_in o) e ys (value_some r u o t (outcome_retyped r types u (Off k) (moves r types k) o t (outcome_off k o (x, y)) fits)) (removed_state r types k d ys p sees),
        all_still types u (Off k) (moves r types k) d.requests sees.requests,
        tt,
      )

  lined : (n : ℕ) → ProcessFits r types (record d { left = n }) ys
  lined n = record {
    cells = p.cells;
    waiting = p.waiting;
    actors = p.actors;
    work = p.work;
    ports = p.ports;
    main = p.main;
    requests = p.requests;
    numbered = p.numbered;
    framed = p.framed;
    registered = p.registered;
  }

  result_set : (n : ℕ) → reference_count (frames_scan ys) FutureSide k d ≡ n → reference_count (frames_scan ys) PromiseSide k d ≡ 0 → count PromiseSide k (refs_in (value_in o)) ≡ 0
      → count FutureSide k (refs_in (value_in o)) ≡ 0
      → Fine r types (set_result k o n d).halted (set_result k o n d) ys
  result_set zero b a x y = gone a b x y
  result_set (suc f) b a x y = fine_turn r types (λ d. fill k o d) d ys (λ n. fill_fits r types k o (record d { left = n }) ys (FutureType t) t go has (inl refl) fits (lined n))

module _ (r : RawTree) (types : CellTypes) (i : ℕ) (o : OutcomeTree) (ts : List Task) (c : Core) (xs : Numbered Frame) (order : Orderly c) (go : c.halted ≡ None) (top : c.tasks ≡ Close i o ∷ ts)
    (p : ProcessFits r types c xs) (alone : ResultsGone c xs) where
  pub close_fits : (a : Actor r types i (Close i o) ts c xs) → Fine r types (close (frames_scan (removed xs i)) i a.entry.result o (record c { tasks = ts })).halted
      (close (frames_scan (removed xs i)) i a.entry.result o (record c { tasks = ts })) (removed xs i)
  close_fits a =
      fine_turn r types (λ d. give_result (frames_scan (removed xs i)) a.entry.result o (writes (end_line i o) d)) (record c { tasks = ts; entries = removed c.entries i }) (removed xs i) by_turns
    where
      -- a result that is given
      given : (result n : ℕ) → a.entry.result ≡ Some result → types result ≡ Some (FutureType a.class.returns) → OutcomeFits r.records (typed_by types) o a.class.returns
          → Fine r types (give_result (frames_scan (removed xs i)) (Some result) o (writes (end_line i o) (record c { tasks = ts; entries = removed c.entries i; left = n }))).halted
          (give_result (frames_scan (removed xs i)) (Some result) o (writes (end_line i o) (record c { tasks = ts; entries = removed c.entries i; left = n }))) (removed xs i)
      given result n own gives fits =
          let d = writes (end_line i o) (record c { tasks = ts; entries = removed c.entries i; left = n }) in
          let state = closed r types i c xs ts n d.lines a.running order a.rest in
          let q = frames_scan (removed xs i) PromiseSide result in
          let ca = in_cells PromiseSide result c.cells in
          let ea = in_entries PromiseSide result (removed c.entries i) in
          let va = count PromiseSide result (refs_in (value_in o)) in
          let ta = in_tasks PromiseSide result ts in
          let pa = in_ports PromiseSide result c.ports in
          let ra = in_requests PromiseSide result c.requests in
          let ma = count_maybe PromiseSide result FutureSide c.main in
          let all_zero : reference_count (frames_scan (removed xs i)) PromiseSide result (record c { entries = removed c.entries i; tasks = Close i o ∷ ts }) ≡ 0 =
          subst (λ us. reference_count (frames_scan (removed xs i)) PromiseSide result (record c { entries = removed c.entries i; tasks = us }) ≡ 0) top
          (alone.alone i result a.entry a.at own) in
          result_set r types result o a.class.returns d (removed xs i) state go gives fits (reference_count (frames_scan (removed xs i)) FutureSide result d) refl
          (other_tasks q ca ea va ta pa ra ma all_zero) (first_task q ca ea va ta pa ra ma all_zero) (alone.apart i result a.entry o ts top a.at own)

      -- a void actor gives none
      by_result : (x : Option ℕ) (n : ℕ) → a.entry.result ≡ x → OwnsResult r types x a.class.returns
          → Fine r types (give_result (frames_scan (removed xs i)) x o (writes (end_line i o) (record c { tasks = ts; entries = removed c.entries i; left = n }))).halted
          (give_result (frames_scan (removed xs i)) x o (writes (end_line i o) (record c { tasks = ts; entries = removed c.entries i; left = n }))) (removed xs i)
      by_result None n own h =
          let d = writes (end_line i o) (record c { tasks = ts; entries = removed c.entries i; left = n }) in
          fine_same r types d.halted (dropping_values (value_in o) d) (removed xs i) go
          (dropping_fits r types (value_in o) d (removed xs i) (value_some r types o (end_type a.class.returns) a.doing.0) (closed r types i c xs ts n d.lines a.running order a.rest))
      by_result (Some result) n own h =
          given result n own h.1 (subst (OutcomeFits r.records (typed_by types) o) (end_given a.class.returns h.0) a.doing.0)

      by_turns : (n : ℕ) → Fine r types (give_result (frames_scan (removed xs i)) a.entry.result o (writes (end_line i o) (record c { tasks = ts; entries = removed c.entries i; left = n }))).halted
          (give_result (frames_scan (removed xs i)) a.entry.result o (writes (end_line i o) (record c { tasks = ts; entries = removed c.entries i; left = n }))) (removed xs i)
      by_turns n = by_result a.entry.result n refl a.owner.owns
