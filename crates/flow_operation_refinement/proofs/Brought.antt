-- What comes to a process in memory from outside, and what is sent, is what the definitions have.
use Rattle.std.proofs.Common.{◌≡◌, ℕ, nat_lt, Bool, true, false, List, [], ◌∷◌, map, if◌then◌else◌, refl, sym, ap, ◌∙◌, subst, arith}
use Rattle.std.specs.Option.{option_map, is_some}
use Rattle.std.specs.declared.option.Option.{Option}
use Rattle.std.specs.declared.option.Option.TheVariants.{None, Some}
use Rattle.flow_base.specs.ErrorNumbers.{already_set}
use Rattle.flow_base.specs.declared.ids.ActorId.{ActorId}
use Rattle.flow_base.specs.declared.ids.CellId.{CellId}
use Rattle.flow_base.specs.declared.ids.ErrorCode.{ErrorCode}
use Rattle.flow_value.specs.declared.value.Value.{Value}
use Rattle.flow_value.specs.declared.value.Outcome.{Outcome}
use Rattle.flow_value.specs.declared.value.Kind.{Kind}
use Rattle.flow_value.specs.declared.value.Kind.TheVariants as kind
use Rattle.flow_value.specs.Values.{ValueTree, OutcomeTree}
use Rattle.flow_value.specs.View.{value_of, outcome_of}
use Rattle.flow_class.specs.Classes.{RawTree}
use Rattle.flow_trace.specs.declared.line.Line.{Line}
use Rattle.flow_numbered.specs.Numbered as stored
use Rattle.flow_cell.specs.Cells.{CellTree}
use Rattle.flow_stream.specs.Streams.{StreamTree}
use Rattle.flow_cancel.specs.Heap.{HeapTree, cell_id, without_number}
use Rattle.flow_cancel.specs.Heap as heap
use Rattle.flow_cancel.specs.declared.task.Task.TheVariants as task
use Rattle.flow_numbered.specs.Numbered.{thing}
use Rattle.flow_meaning.specs.Cells.{Side, FutureSide, Ref, Waiter, Cell, Single, Stream, is_complete}
use Rattle.flow_meaning.specs.Cells as cells
use Rattle.flow_meaning.specs.Process.{Task, Run, Throw, Drop, Proc}
use Rattle.flow_meaning.specs.References.{Scan, count_maybe, in_task}
use Rattle.flow_meaning.specs.Work.{pushed, fill}
use Rattle.flow_meaning.specs.React.{send_by, send_in}
use Rattle.flow_meaning.specs.Deliver.{closed_request, stop, stop_main}
use Rattle.flow_meaning.specs.Step.{on_core}
use Rattle.flow_meaning.specs.Frame.{Frame}
use Rattle.flow_heap_refinement.specs.Representing.{Represents, CellRepresents, spot_of_actor, cell_number, error_number}
use Rattle.flow_heap_refinement.specs.Losing.{RightCell}
use Rattle.flow_heap_refinement.specs.Holds.{with_refs, There, AllThere, hold_all}
use Rattle.flow_heap_refinement.proofs.Beside.{main_shown, request_closed}
use Rattle.flow_heap_refinement.proofs.Cells.{as_single, as_stream}
use Rattle.flow_heap_refinement.proofs.Referring.{of_pushed, of_answered, of_main}
use Rattle.flow_heap_refinement.proofs.Shown.{pushed_shown}
use Rattle.flow_heap_refinement.proofs.Loss.{memory_single, memory_stream}
use Rattle.flow_steps.specs.declared.process.Process.{Process}
use Rattle.flow_steps.specs.Doing.{turned, doing}
use Rattle.flow_steps.specs.Holding.{on_heap, outcome_refs}
use Rattle.flow_steps.specs.Delivering.{content_brought, answered, main_dropped, complete_at, is_set, is_ended, sent_into, sending}
use Rattle.flow_operation_refinement.specs.Matching.{ProcessRepresents, Matches, shows, with_task}
use Rattle.flow_operation_refinement.specs.Working.{Sendable}
use Rattle.flow_operation_refinement.specs.Delivering as law
use Rattle.flow_operation_refinement.proofs.Working.{changed, as_many_shown, turn_taken, task_done, refs_held, cell_filled}

-- what stands in memory at the number of a cell
module _ (r : RawTree) (h : HeapTree) (p : Proc Frame) where
  pub found_single : (k : ℕ) (o : Option OutcomeTree) (ws : List Waiter) → Represents r h p → thing p.core.cells k ≡ Some (Single o ws)
      → (m : CellTree Outcome) × (stored.thing h.cells.things k ≡ Some m)
  found_single k o ws s at =
      memory_single (spot_of_actor p.actors) (stored.thing h.cells.things k) (stored.thing h.streams.things k) o ws
      (subst (CellRepresents (spot_of_actor p.actors) (stored.thing h.cells.things k) (stored.thing h.streams.things k)) at (s.cells k))

  pub found_stream : (k : ℕ) (q : List ValueTree) (e : Option ℕ) (w : Option Waiter) → Represents r h p → thing p.core.cells k ≡ Some (Stream q e w)
      → (m : StreamTree Value) × (stored.thing h.streams.things k ≡ Some m)
  found_stream k q e w s at =
      memory_stream (spot_of_actor p.actors) (stored.thing h.cells.things k) (stored.thing h.streams.things k) q e w
      (subst (CellRepresents (spot_of_actor p.actors) (stored.thing h.cells.things k) (stored.thing h.streams.things k)) at (s.cells k))

-- what is there stays where cells do
pub there_by : (p q : Proc Frame) (z : Ref) → q.core.cells ≡ p.core.cells → There p z → There q z
there_by p q z e t = record { cell = t.cell; at = ap (λ cs. thing cs z.1) e ∙ t.at; right = t.right }

pub all_there_by : (p q : Proc Frame) (zs : List Ref) → q.core.cells ≡ p.core.cells → AllThere p zs → AllThere q zs
all_there_by p q [] e t = tt
all_there_by p q (z ∷ zs) e t = (there_by p q z e t.0, all_there_by p q zs e t.1)

pub sendable_by : (p q : Proc Frame) (kd : Kind) (k : ℕ) → q.core.cells ≡ p.core.cells → Sendable p kd k → Sendable q kd k
sendable_by p q kd k e t = record { cell = t.cell; at = ap (λ cs. thing cs k) e ∙ t.at; right = t.right; incomplete = t.incomplete }

module _ (r : RawTree) (ls : List Line) (x : Scan) (m : Process) (p : Proc Frame) where
  filled_at_once : (kd : Kind) (k : ℕ) (o : Outcome) → ProcessRepresents r ls x m p → AllThere p (outcome_refs o) → Sendable p kd k
      → ProcessRepresents r ls x (on_heap (content_brought kd k o) m) (on_core (fill k (outcome_of o)) p)
  filled_at_once kd k o s t to = cell_filled r ls x (on_heap (hold_all (outcome_refs o)) m) p kd k o (refs_held r ls x m p (outcome_refs o) s t) to

module _ (r : RawTree) (ls : List Line) (x : Scan) (m : Process) (p : Proc Frame) where
  pub content_follows : law.ContentDelivered r ls x m p
  content_follows kd k o s t to =
      turn_taken r ls x m p x (on_heap (content_brought kd k o)) (λ d. fill k (outcome_of o) d) s (λ n e s.
      let q : Proc Frame = on_core (λ c. record c { left = n }) p in
      shows (filled_at_once r ls x (turned m) q kd k o s (all_there_by p q (outcome_refs o) refl t) (sendable_by p q kd k refl to)))

  -- an answered request
  pub request_follows : law.RequestAnswered r ls x m p
  request_follows k s open_ =
      let q : Proc Frame = on_core (λ c. record c { requests = closed_request k c.requests }) p in
      changed r ls x x m p (on_core (pushed (Drop kind.Promise k)) q) (answered k m.heap) s (record {
        shows = pushed_shown r (record m.heap { requests = without_number m.heap.requests k }) q (task.Drop kind.Promise (cell_id k)) (Drop kind.Promise k)
            (request_closed r m.heap p k s.holds.shows) refl;
        counted = λ z j. let a = of_answered p z j k open_ in let b = of_pushed q z j (Drop kind.Promise k) in let c = s.holds.counted z j in omega (arith, a, b, c);
      }) refl refl refl

  -- the hold on the result of `main`
  pub main_follows : law.MainDropped r ls x m p
  main_follows s = by_main m.heap.main refl
    where
      by_main : (o : Option CellId) → m.heap.main ≡ o → ProcessRepresents r ls x (on_heap (main_dropped o) m) (on_core stop p)
      by_main None e =
          let f : p.core.main ≡ None = s.holds.shows.main ∙ ap (option_map cell_number) e in
          subst (λ o. ProcessRepresents r ls x m (on_core (stop_main o) p)) (sym f) s
      by_main (Some k) e =
          let f : p.core.main ≡ Some k.0 = s.holds.shows.main ∙ ap (option_map cell_number) e in
          let q : Proc Frame = on_core (λ c. record c { main = None }) p in
          subst (λ o. ProcessRepresents r ls x (on_heap (main_dropped (Some k)) m) (on_core (stop_main o) p)) (sym f)
          (changed r ls x x m p (on_core (pushed (Drop kind.Future k.0)) q) (main_dropped (Some k) m.heap) s (record {
            shows = pushed_shown r (record m.heap { main = None }) q (task.Drop kind.Future k) (Drop kind.Future k.0) (main_shown r m.heap p None s.holds.shows) refl;
            counted = λ z j.
                let a = of_main p z j None in
                let b = of_pushed q z j (Drop kind.Future k.0) in
                let c = s.holds.counted z j in
                let d = ap (count_maybe z j FutureSide) f in omega (arith, a, b, c, d);
          }) refl refl refl)

  -- whether nothing more can be sent
  set_same : (o : Option Outcome) → is_some o ≡ cells.is_some (option_map outcome_of o)
  set_same None = refl
  set_same (Some o) = refl

  ended_same : (o : Option ErrorCode) → is_some o ≡ cells.is_some (option_map error_number o)
  ended_same None = refl
  ended_same (Some e) = refl

  single_complete : (k : ℕ) (o : Option OutcomeTree) (ws : List Waiter) → ProcessRepresents r ls x m p → thing p.core.cells k ≡ Some (Single o ws)
      → is_set (stored.thing m.heap.cells.things k) ≡ cells.is_some o
  single_complete k o ws s at =
      let f = found_single r m.heap p k o ws s.holds.shows at in
      let a = as_single (spot_of_actor p.actors) f.0 (stored.thing m.heap.streams.things k) (thing p.core.cells k)
      (subst (λ c. CellRepresents (spot_of_actor p.actors) c (stored.thing m.heap.streams.things k) (thing p.core.cells k)) f.1 (s.holds.shows.cells k)) in
      let same : (Single (option_map outcome_of f.0.content) a.waiters) ≡ Single o ws = let b = a.cell in cc (b, at) in
      ap is_set f.1 ∙ set_same f.0.content ∙ ap cells.is_some (cc (same))

  stream_complete : (k : ℕ) (q : List ValueTree) (d : Option ℕ) (w : Option Waiter) → ProcessRepresents r ls x m p → thing p.core.cells k ≡ Some (Stream q d w)
      → is_ended (stored.thing m.heap.streams.things k) ≡ cells.is_some d
  stream_complete k q d w s at =
      let f = found_stream r m.heap p k q d w s.holds.shows at in
      let a = as_stream (spot_of_actor p.actors) f.0 (stored.thing m.heap.cells.things k) (thing p.core.cells k)
      (subst (λ c. CellRepresents (spot_of_actor p.actors) (stored.thing m.heap.cells.things k) c (thing p.core.cells k)) f.1 (s.holds.shows.cells k)) in
      let same : (Stream (map value_of f.0.queue) (option_map error_number f.0.end) a.waiter) ≡ Stream q d w = let b = a.cell in cc (b, at) in
      ap is_ended f.1 ∙ ended_same f.0.end ∙ ap cells.is_some (cc (same))

  complete_same : (kd : Kind) (k : ℕ) (c : Cell) → ProcessRepresents r ls x m p → thing p.core.cells k ≡ Some c → RightCell kd c → complete_at kd k m.heap ≡ is_complete c
  complete_same kind.Promise k (Single o ws) s at t = single_complete k o ws s at
  complete_same kind.Future k (Single o ws) s at t = single_complete k o ws s at
  complete_same kind.PromiseStream k (Stream q d w) s at t = stream_complete k q d w s at
  complete_same kind.FutureStream k (Stream q d w) s at t = stream_complete k q d w s at
  complete_same kind.Promise k (Stream q d w) s at t = absurd t
  complete_same kind.Future k (Stream q d w) s at t = absurd t
  complete_same kind.PromiseStream k (Single o ws) s at t = absurd t
  complete_same kind.FutureStream k (Single o ws) s at t = absurd t

-- a task that holds nothing
nothing_held : (r : RawTree) (ls : List Line) (x : Scan) (m : Process) (p : Proc Frame) (u : Task) → ((z : Side) (j : ℕ) → in_task z j u ≡ 0) → ProcessRepresents r ls x m p
    → ProcessRepresents r ls (with_task u x) m p
nothing_held r ls x m p u none s = as_many_shown r ls x (with_task u x) m p (λ z j. let a = none z j in omega (arith, a)) s

module _ (r : RawTree) (ls : List Line) (x : Scan) (m : Process) (p : Proc Frame) where
  sent_at_once : (i : ActorId) (kd : Kind) (k : ℕ) (o : Outcome) → ProcessRepresents r ls x m p → AllThere p (outcome_refs o) → Sendable p kd k
      → ProcessRepresents r ls x (on_heap (sent_into i kd k o) m) (on_core (λ c. fill k (outcome_of o) (pushed (Run i.0) c)) p)
  sent_at_once i kd k o s t to =
      let held = refs_held r ls x m p (outcome_refs o) s t in
      let n : Process = on_heap (hold_all (outcome_refs o)) m in
      let q : Proc Frame = on_core (pushed (Run i.0)) p in
      let ran = task_done r ls (with_refs (outcome_refs o) x) n p (task.Run i) (Run i.0) (nothing_held r ls (with_refs (outcome_refs o) x) n p (Run i.0) (λ z j. refl) held) refl in
      cell_filled r ls x (on_heap (heap.pushed (task.Run i)) n) q kd k o ran (sendable_by p q kd k refl to)

module _ (r : RawTree) (ls : List Line) (x : Scan) (m : Process) (p : Proc Frame) where
  pub sending_follows : law.OutcomeSent r ls x m p
  sending_follows i kd k o s t to =
      subst (λ c. Matches r ls x (sending i kd k o m) (on_core (send_in c i.0 k (outcome_of o)) p)) (sym to.at)
      (by_complete (is_complete to.cell) (complete_same r ls x m p kd k to.cell s to.at to.right) refl)
    where
      by_complete : (b : Bool) → complete_at kd k m.heap ≡ b → is_complete to.cell ≡ b
          → Matches r ls x (if complete_at kd k m.heap then doing (task.Throw i (record { 0 = already_set })) m else if nat_lt 0 m.left then on_heap (sent_into i kd k o) (turned m) else turned m)
          (on_core (send_by b i.0 k (outcome_of o)) p)
      by_complete true e f =
          subst (λ b. Matches r ls x (if b then doing (task.Throw i (record { 0 = already_set })) m else if nat_lt 0 m.left then on_heap (sent_into i kd k o) (turned m) else turned m)
          (on_core (send_by true i.0 k (outcome_of o)) p)) (sym e)
          (shows (task_done r ls x m p (task.Throw i (record { 0 = already_set })) (Throw i.0 already_set) (nothing_held r ls x m p (Throw i.0 already_set) (λ z j. refl) s) refl))
      by_complete false e f =
          subst (λ b. Matches r ls x (if b then doing (task.Throw i (record { 0 = already_set })) m else if nat_lt 0 m.left then on_heap (sent_into i kd k o) (turned m) else turned m)
          (on_core (send_by false i.0 k (outcome_of o)) p)) (sym e)
          (turn_taken r ls x m p x (on_heap (sent_into i kd k o)) (λ d. fill k (outcome_of o) (pushed (Run i.0) d)) s (λ n e s.
          let q : Proc Frame = on_core (λ c. record c { left = n }) p in
          shows (sent_at_once r ls x (turned m) q i kd k o s (all_there_by p q (outcome_refs o) refl t) (record { cell = to.cell; at = to.at; right = to.right; incomplete = f }))))
