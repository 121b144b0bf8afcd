-- Tasks that need no step of an actor are done in memory as the definitions do them.
use Rattle.std.proofs.Common.{◌≡◌, ℕ, Bool, true, false, List, [], ◌∷◌, map, if◌then◌else◌, refl, sym, ap, ◌∙◌, subst, arith}
use Rattle.std.specs.Prelude.{slice_get}
use Rattle.std.specs.Option.{option_map}
use Rattle.std.specs.declared.option.Option.{Option}
use Rattle.std.specs.declared.option.Option.TheVariants.{None, Some}
use Rattle.flow_value.specs.declared.value.Value.{Value}
use Rattle.flow_value.specs.declared.value.Outcome.{Outcome}
use Rattle.flow_value.specs.declared.value.Kind.{Kind}
use Rattle.flow_value.specs.declared.value.Kind.TheVariants as kind
use Rattle.flow_class.specs.Classes.{RawTree}
use Rattle.flow_code.specs.View.{group_numbered}
use Rattle.flow_code.specs.declared.program.Code.{Code}
use Rattle.flow_trace.specs.declared.line.Line.{Line}
use Rattle.flow_numbered.specs.Numbered as stored
use Rattle.flow_cell.specs.declared.waiter.Waiter as memory
use Rattle.flow_cell.specs.Cells.{CellTree}
use Rattle.flow_stream.specs.Streams.{StreamTree}
use Rattle.flow_cancel.specs.declared.task.Task.TheVariants as task
use Rattle.flow_cancel.specs.Heap.{HeapTree, cell_id}
use Rattle.flow_numbered.specs.Numbered.{thing, put}
use Rattle.flow_meaning.specs.Requests.{Spot}
use Rattle.flow_meaning.specs.Cells.{FutureSide, side_of, Waiter, Cell, Single, Stream, waiters, is_ready, as_list}
use Rattle.flow_meaning.specs.Process.{Run, Fire, Proc}
use Rattle.flow_meaning.specs.References.{one, refs_in, value_in}
use Rattle.flow_meaning.specs.Lines.{catch_line}
use Rattle.flow_meaning.specs.Work as work
use Rattle.flow_meaning.specs.Work.{running, take_branch, is_ready_at}
use Rattle.flow_meaning.specs.Dropping.{fire_cell, fire_at, fire_to, lose_ref}
use Rattle.flow_meaning.specs.Step.{proc, on_core}
use Rattle.flow_meaning.specs.Frame.{Frame}
use Rattle.flow_heap_refinement.specs.Representing.{Represents, CellRepresents, spot_of_actor, spot_by, wait_spot, waiter_in}
use Rattle.flow_meaning.specs.Views.{spot_at}
use Rattle.flow_heap_refinement.specs.Counted.{frames_hold, nothing_in_hand}
use Rattle.flow_heap_refinement.specs.Rested.{Sorted}
use Rattle.flow_heap_refinement.specs.Losing.{RightCell}
use Rattle.flow_heap_refinement.proofs.Acted.{same_put}
use Rattle.flow_steps.specs.declared.process.Process.{Process}
use Rattle.flow_steps.specs.Doing.{turned, doing}
use Rattle.flow_steps.specs.Holding.{lost, kind_in}
use Rattle.flow_steps.specs.Waiting.{TakesBranch}
use Rattle.flow_steps.specs.Tasks.{cell_waiter, stream_waiter, next_waiter, WaiterTakes, FiresAt}
use Rattle.flow_operation_refinement.specs.Matching.{ProcessRepresents, Matches, with_task, Sound}
use Rattle.flow_operation_refinement.specs.Placing.{RepresentsActor}
use Rattle.flow_operation_refinement.specs.Taking.{MayGo, Takeable}
use Rattle.flow_operation_refinement.specs.Tasking.{Suspended, MayFire}
use Rattle.flow_operation_refinement.specs.Tasking as law
use Rattle.flow_operation_refinement.proofs.Working.{as_many_shown, turn_taken, task_done, telling_shown}
use Rattle.flow_operation_refinement.proofs.Losing.{ref_lost}
use Rattle.flow_operation_refinement.proofs.Brought.{there_by, all_there_by}
use Rattle.flow_operation_refinement.proofs.Parting.{acts_by}
use Rattle.flow_operation_refinement.proofs.Takings.{branch_follows, turned_heap, turned_asked}
use Rattle.flow_operation_refinement.proofs.Kept.{ready_same}

-- with other turns
sound_with : (p : Proc Frame) (n : ℕ) → Sound p → Sound (on_core (λ c. record c { left = n }) p)
sound_with p n s = record {
  owned = record { result = s.owned.result; request = s.owned.request; port = s.owned.port };
  numbers = record { ports = s.numbers.ports; cells = s.numbers.cells; requests = s.numbers.requests };
  entries = s.entries;
  waits = record { agree = s.waits.agree; cells = s.waits.cells; kinds = s.waits.kinds; idle = s.waits.idle };
}

module _ (r : RawTree) (ls : List Line) (m : Process) (p : Proc Frame) where
  pub drop_done : law.DropDone r ls m p
  drop_done kd k s none sound sorted there =
      turn_taken r ls (λ z j. one z j (side_of kd) k) m p nothing_in_hand (lost kd k) (λ d. lose_ref (frames_hold p.actors) (side_of kd) k d) s (λ n e now.
      let q : Proc Frame = on_core (λ c. record c { left = n }) p in
      ref_lost r ls (turned m) q kd k now (turned_asked m ∙ none) (sound_with p n sound) (subst Sorted (sym (turned_heap m)) sorted) (there_by p q (kd, k) refl there))

  pub catch_done : law.CatchDone r ls m p
  catch_done x i e s none =
      telling_shown r ls x (catch_line i.0 e.0) (doing (task.Run i) m) (on_core (work.pushed (Run i.0)) p)
      (task_done r ls x m p (task.Run i) (Run i.0) (as_many_shown r ls x (with_task (Run i.0) x) m p (λ z j. omega arith) s) refl) none

-- the oldest waiter in memory
abbrev next_of : (spots : ℕ → Spot) → (ready : Bool) → List Waiter → Option memory.Waiter
next_of spots false ws = None
next_of spots true [] = None
next_of spots true (w ∷ ws) = Some (waiter_in spots w)

module _ (r : RawTree) (h : HeapTree) (p : Proc Frame) (s : Represents r h p) (k : ℕ) where
  abbrev spots : ℕ → Spot
  spots = spot_of_actor p.actors

  first_of : (b : Bool) (ws : List Waiter) → (if b then slice_get (map (waiter_in spots) ws) 0 else None) ≡ next_of spots b ws
  first_of false ws = refl
  first_of true [] = refl
  first_of true (w ∷ ws) = refl

  only_of : (b : Bool) (w : Option Waiter) → (if b then option_map (waiter_in spots) w else None) ≡ next_of spots b (as_list w)
  only_of false w = refl
  only_of true None = refl
  only_of true (Some w) = refl

  by_memory : (kd : Kind) (a : Option (CellTree Outcome)) (b : Option (StreamTree Value)) (c : Cell) → stored.thing h.cells.things k ≡ a → stored.thing h.streams.things k ≡ b
      → thing p.core.cells k ≡ Some c
      → CellRepresents spots a b (Some c) → kind_in a b ≡ Some kd → (next_waiter kd k h ≡ next_of spots (is_ready c) (waiters c)) × RightCell kd c × (side_of kd ≡ FutureSide)
  by_memory kind.Future (Some m) None (Single o ws) ea eb ec t e = (
    ap (λ y. if y then cell_waiter (stored.thing h.cells.things k) else None) (ready_same r h p s k ∙ ap is_ready_at ec)
        ∙ ap (λ y. if is_ready (Single o ws) then cell_waiter y else None) ea
        ∙ ap (λ y. if is_ready (Single o ws) then slice_get y 0 else None) t.1
        ∙ first_of (is_ready (Single o ws)) ws,
    tt,
    refl,
  )
  by_memory kind.FutureStream None (Some m) (Stream q d w) ea eb ec t e = (
    ap (λ y. if y then stream_waiter (stored.thing h.streams.things k) else None) (ready_same r h p s k ∙ ap is_ready_at ec)
        ∙ ap (λ y. if is_ready (Stream q d w) then stream_waiter y else None) eb
        ∙ ap (λ y. if is_ready (Stream q d w) then y else None) t.2
        ∙ only_of (is_ready (Stream q d w)) w,
    tt,
    refl,
  )
  by_memory kd None None c ea eb ec t e = absurd t
  by_memory kd (Some m) (Some n) c ea eb ec t e = absurd t
  by_memory kd (Some m) None (Stream q d w) ea eb ec t e = absurd t
  by_memory kd None (Some m) (Single o ws) ea eb ec t e = absurd t
  by_memory kind.Promise (Some m) None (Single o ws) ea eb ec t e = absurd (cc (e))
  by_memory kind.PromiseStream (Some m) None (Single o ws) ea eb ec t e = absurd (cc (e))
  by_memory kind.FutureStream (Some m) None (Single o ws) ea eb ec t e = absurd (cc (e))
  by_memory kind.Promise None (Some m) (Stream q d w) ea eb ec t e = absurd (cc (e))
  by_memory kind.PromiseStream None (Some m) (Stream q d w) ea eb ec t e = absurd (cc (e))
  by_memory kind.Future None (Some m) (Stream q d w) ea eb ec t e = absurd (cc (e))

  pub next_same : (kd : Kind) (c : Cell) → thing p.core.cells k ≡ Some c → kind_in (stored.thing h.cells.things k) (stored.thing h.streams.things k) ≡ Some kd
      → (next_waiter kd k h ≡ next_of spots (is_ready c) (waiters c)) × RightCell kd c × (side_of kd ≡ FutureSide)
  next_same kd c ec e =
      by_memory kd (stored.thing h.cells.things k) (stored.thing h.streams.things k) c refl refl ec
      (subst (CellRepresents spots (stored.thing h.cells.things k) (stored.thing h.streams.things k)) ec (s.cells k)) e

module _ (r : RawTree) (ls : List Line) (m : Process) (p : Proc Frame) where
  -- the oldest waiter takes its branch
  waiter_takes : (code : Code) (k : ℕ) (n : Process) (c : Cell) (w : Waiter) → ProcessRepresents r ls (λ s j. one s j FutureSide k) m p → m.asked ≡ None → Takeable p k c → Suspended code r m p w
      → WaiterTakes code (cell_id k) (waiter_in (spot_of_actor p.actors) w) m n
      → Matches r ls nothing_in_hand n (on_core (fire_to k c w (thing p.core.entries w.actor)) p)
  waiter_takes code k n c w s none t sus takes =
      let i = w.actor in
      let e = sus.entry in
      let f = sus.frame in
      let m1 : Process = doing (task.Fire (cell_id k)) m in
      let p1 : Proc Frame = on_core (work.pushed (Fire k)) p in
      let st : RepresentsActor r ls nothing_in_hand m1 p1 i e f = record {
        shown = task_done r ls nothing_in_hand m p (task.Fire (cell_id k)) (Fire k)
            (as_many_shown r ls (λ z j. one z j FutureSide k) (with_task (Fire k) nothing_in_hand) m p (λ z j. omega arith) s) refl;
        acts = acts_by r m.heap m1.heap p p1 i e f refl refl refl refl sus.acts;
      } in
      let now = sus.stands takes.stand (record { frame = takes.stands.frame; at = takes.stands.at; stands = takes.stands.stands }) in
      let at = takes.at in
      let number : at.number ≡ sus.group = let a = at.waits in let d = now.1.last in cc (a, d) in
      let first = now.1.first at.group (subst (λ g. group_numbered g takes.stand.class.now.groups.items ≡ Some at.group) number at.of_number) in
      let here : spot_of_actor p.actors i ≡ wait_spot f = ap (spot_at wait_spot) sus.acts.acting in
      let same_first : (spot_of_actor p.actors i).first ≡ (wait_spot f).first = ap (λ (y : Spot). y.first) here in
      let branch : takes.branch ≡ w.branch = let b = at.counted in omega (arith, b, first, same_first) in
      let spot : e.spot.group ≡ sus.group =
      ap (λ (y : Spot). y.group) (sus.acts.stands.spot sus.suspended) ∙ ap (λ y. (spot_by f.code y).group) now.1.fetched in
      let go : MayGo i e p1.core = record { agree = sus.go.agree; cells = sus.go.cells; kinds = sus.go.kinds; keeps = sus.go.keeps } in
      let out = branch_follows r ls m1 p1 i e f nothing_in_hand takes.stand sus.group w.branch k c n p.core.entries st refl none now.0 now.1 spot go
      (record { at = t.at; there = λ o h. all_there_by p p1 (refs_in (value_in o)) refl (t.there o h) })
      (subst (λ b. TakesBranch takes.stand b (cell_id k) m1 n) branch takes.takes) in
      subst (λ o. Matches r ls nothing_in_hand n (on_core (fire_to k c w o) p)) (sym sus.acts.entered)
      (subst (λ xs. Matches r ls nothing_in_hand n (proc (take_branch i w.branch k e [] (Some c) p1.core) xs)) (same_put p.actors i f sus.acts.acting)
      (subst (λ l. Matches r ls nothing_in_hand n (proc (take_branch i w.branch k e l.0 (Some c) p1.core) (put p.actors i l.1))) sus.emptied out))

  fire_ends : (k : ℕ) (n : Process) (c : Cell) (kd : Kind) → ProcessRepresents r ls (λ s j. one s j FutureSide k) m p → m.asked ≡ None → Sound p → Sorted m.heap
      → Takeable p k c → RightCell kd c → side_of kd ≡ FutureSide → n ≡ lost kd k m
      → Matches r ls nothing_in_hand n (on_core (lose_ref (frames_hold p.actors) FutureSide k) p)
  fire_ends k n c kd s none sound sorted t right side is =
      subst (λ z. Matches r ls nothing_in_hand z (on_core (lose_ref (frames_hold p.actors) FutureSide k) p)) (sym is)
      (subst (λ d. Matches r ls nothing_in_hand (lost kd k m) (on_core (lose_ref (frames_hold p.actors) d k) p)) side
      (ref_lost r ls m p kd k (subst (λ d. ProcessRepresents r ls (λ z j. one z j d k) m p) (sym side) s) none sound sorted (record { cell = c; at = t.at; right = right })))

  fire_by : (code : Code) (k : ℕ) (n : Process) (c : Cell) (kd : Kind) (b : Bool) (ws : List Waiter) → ProcessRepresents r ls (λ s j. one s j FutureSide k) m p → m.asked ≡ None → Sound p
      → Sorted m.heap
      → Takeable p k c → RightCell kd c → side_of kd ≡ FutureSide → ((w : Waiter) (us : List Waiter) → ws ≡ w ∷ us → Suspended code r m p w)
      → FiresAt code kd (cell_id k) (next_of (spot_of_actor p.actors) b ws) m n
      → Matches r ls nothing_in_hand n (on_core (fire_at (frames_hold p.actors) k c b ws) p)
  fire_by code k n c kd false [] s none sound sorted t right side waits f = fire_ends k n c kd s none sound sorted t right side f
  fire_by code k n c kd true [] s none sound sorted t right side waits f = fire_ends k n c kd s none sound sorted t right side f
  fire_by code k n c kd false (w ∷ ws) s none sound sorted t right side waits f = fire_ends k n c kd s none sound sorted t right side f
  fire_by code k n c kd true (w ∷ ws) s none sound sorted t right side waits f = waiter_takes code k n c w s none t (waits w ws refl) f

  pub fire_done : law.FireDone r ls m p
  fire_done code k n s none sound sorted may fires =
      let same = next_same r m.heap p s.holds.shows k fires.kind may.cell may.takeable.at fires.at in
      subst (λ c. Matches r ls nothing_in_hand n (on_core (fire_cell (frames_hold p.actors) k c) p)) (sym may.takeable.at)
      (fire_by code k n may.cell fires.kind (is_ready may.cell) (waiters may.cell) s none sound sorted may.takeable same.1 same.2 may.waits
      (subst (λ o. FiresAt code fires.kind (cell_id k) o m n) same.0 fires.fires))
