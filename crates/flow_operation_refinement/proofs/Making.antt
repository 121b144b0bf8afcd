-- What is made in a process in memory and given to an actor is what the definitions have.
use Rattle.std.proofs.Common.{◌≡◌, ℕ, suc, ◌+◌, ◌<◌, List, [], ◌∷◌, ◌++◌, refl, sym, ap, ◌∙◌, subst, arith}
use Rattle.std.specs.declared.option.Option.{Option}
use Rattle.std.specs.declared.option.Option.TheVariants.{None, Some}
use Rattle.flow_base.specs.declared.ids.CellId.{CellId}
use Rattle.flow_value.specs.declared.value.Value.TheVariants.{Ref, rolls-Ref}
use Rattle.flow_value.specs.declared.value.Kind.{Kind}
use Rattle.flow_value.specs.declared.value.Kind.TheVariants as kind
use Rattle.flow_value.specs.Values.{ValueTree, RefValue, refs_of}
use Rattle.flow_value.specs.View.{value_of, value_step}
use Rattle.flow_value.specs.declared.value.Value.TheFolds.{fold-roll-Value}
use Rattle.flow_value.specs.declared.value.Value.TheOpen as layer
use Rattle.flow_class.specs.Classes.{RawTree}
use Rattle.flow_trace.specs.declared.line.Line.{Line}
use Rattle.flow_numbered.specs.Numbered as stored
use Rattle.flow_cancel.specs.Heap.{next_cell, with_result, with_stream}
use Rattle.flow_numbered.specs.Numbered.{thing, added}
use Rattle.flow_meaning.specs.Requests as asks
use Rattle.flow_meaning.specs.Cells.{Cell, Single, Stream}
use Rattle.flow_meaning.specs.Process.{Task, Run, Store, Keep, Proc}
use Rattle.flow_meaning.specs.References.{Scan}
use Rattle.flow_meaning.specs.Orderly.{Rising}
use Rattle.flow_meaning.specs.Work.{pushed, new_cell}
use Rattle.flow_meaning.specs.Effects.{result_task, push_result, gives, gives_open, empty_cell, open_port}
use Rattle.flow_meaning.specs.Step.{kept_by, proc, on_core}
use Rattle.flow_meaning.specs.Frame.{Frame}
use Rattle.flow_heap_refinement.specs.Representing.{spot_of_actor}
use Rattle.flow_heap_refinement.specs.Rested.{InNumbers}
use Rattle.flow_heap_refinement.specs.Losing.{RightCell}
use Rattle.flow_heap_refinement.specs.Holds.{with_refs, There, AllThere, hold}
use Rattle.flow_heap_refinement.proofs.Finds.{none_above, thing_new}
use Rattle.flow_heap_refinement.proofs.Cells.{nothing_at}
use Rattle.flow_heap_refinement.proofs.Shown.{result_made, stream_made}
use Rattle.flow_heap_refinement.proofs.Keeping.{result_keeps, new_stream_keeps}
use Rattle.flow_heap_refinement.proofs.Referring.{of_new_cell, of_request, of_port}
use Rattle.flow_heap_refinement.proofs.Beside.{request_shown, port_shown}
use Rattle.flow_steps.specs.declared.call.Goal.{Goal}
use Rattle.flow_steps.specs.declared.call.Goal.TheVariants as goal
use Rattle.flow_steps.specs.declared.process.Process.{Process}
use Rattle.flow_steps.specs.Holding.{on_heap, value_refs}
use Rattle.flow_steps.specs.Delivering.{made, requested, heard}
use Rattle.flow_operation_refinement.specs.Matching.{ProcessRepresents}
use Rattle.flow_operation_refinement.specs.Working.{SameGoal}
use Rattle.flow_operation_refinement.specs.Delivering as law
use Rattle.flow_operation_refinement.proofs.Working.{changed, ref_held}
use Rattle.flow_operation_refinement.proofs.Giving.{result_given}

-- where a result goes is the same where actors stand as before
pub same_goal_by : (p q : Proc Frame) (i : ℕ) (g : Goal) (h : asks.Goal) → q.actors ≡ p.actors → q.core.entries ≡ p.core.entries → SameGoal p i g h → SameGoal q i g h
same_goal_by p q i goal.Stored asks.Stored a b s = tt
same_goal_by p q i (goal.Kept n) (asks.Kept spot) a b s =
    (s.0 ∙ ap (λ fs. spot_of_actor fs i) (sym a), s.1 ∙ ap (λ es. spot.first + kept_by (thing es i)) (sym b))
same_goal_by p q i goal.Stored (asks.Kept spot) a b s = absurd s
same_goal_by p q i (goal.Kept n) asks.Stored a b s = absurd s

-- the view of a reference
pub ref_seen : (kd : Kind) (k : CellId) → value_of (Ref kd k) ≡ RefValue kd k.0
ref_seen kd k = ap value_of (sym (rolls-Ref kd k)) ∙ fold-roll-Value ValueTree value_step (layer.Ref kd k)

-- a new cell is of its kind
right_new : (kd : Kind) → RightCell kd (empty_cell kd)
right_new kind.Promise = tt
right_new kind.Future = tt
right_new kind.PromiseStream = tt
right_new kind.FutureStream = tt

-- the task by which a reference is given
abbrev given_task : (actor : ℕ) → asks.Goal → Kind → (cell : ℕ) → Task
given_task i asks.Stored kd k = Store i (RefValue kd k)
given_task i (asks.Kept spot) kd k = Keep i spot (kd, k)

given_as : (i : ℕ) (h : asks.Goal) (kd : Kind) (k : ℕ) → result_task i h (RefValue kd k) ≡ Some (given_task i h kd k)
given_as i asks.Stored kd k = refl
given_as i (asks.Kept spot) kd k = refl

module _ (r : RawTree) (ls : List Line) (x : Scan) (m : Process) (p : Proc Frame) where
  not_there : Rising 0 p.core.made p.core.cells → thing p.core.cells (suc p.core.made) ≡ None
  not_there rising = none_above p.core.cells 0 p.core.made (suc p.core.made) rising (omega arith)

  nothing_there : ProcessRepresents r ls x m p → Rising 0 p.core.made p.core.cells
      → (stored.thing m.heap.cells.things (next_cell m.heap) ≡ None) × (stored.thing m.heap.streams.things (next_cell m.heap) ≡ None)
  nothing_there s rising =
      nothing_at (spot_of_actor p.actors) m.heap.cells.things m.heap.streams.things p.core.cells s.holds.shows.cells (next_cell m.heap)
      (ap (thing p.core.cells) s.holds.shows.made ∙ not_there rising)

  single_made : ProcessRepresents r ls x m p → Rising 0 p.core.made p.core.cells → ProcessRepresents r ls x (on_heap (λ h. with_result (next_cell h) h) m) (on_core (new_cell (Single None [])) p)
  single_made s rising =
      let none = nothing_there s rising in
      changed r ls x x m p (on_core (new_cell (Single None [])) p) (with_result (next_cell m.heap) m.heap) s (record {
        shows = result_made r m.heap p s.holds.shows rising;
        counted = λ z j. let a = result_keeps m.heap z j none.0 none.1 in let b = of_new_cell p z j (Single None []) in let c = s.holds.counted z j in omega (arith, a, b, c);
      }) refl refl refl

  queue_made : ProcessRepresents r ls x m p → Rising 0 p.core.made p.core.cells → ProcessRepresents r ls x (on_heap (λ h. with_stream (next_cell h) h) m) (on_core (new_cell (Stream [] None None)) p)
  queue_made s rising =
      let none = nothing_there s rising in
      changed r ls x x m p (on_core (new_cell (Stream [] None None)) p) (with_stream (next_cell m.heap) m.heap) s (record {
        shows = stream_made r m.heap p s.holds.shows rising;
        counted = λ z j. let a = new_stream_keeps m.heap z j none.0 none.1 in let b = of_new_cell p z j (Stream [] None None) in let c = s.holds.counted z j in omega (arith, a, b, c);
      }) refl refl refl

  pub cell_made : law.CellMade r ls x m p
  cell_made kind.Promise s rising = single_made s rising
  cell_made kind.Future s rising = single_made s rising
  cell_made kind.PromiseStream s rising = queue_made s rising
  cell_made kind.FutureStream s rising = queue_made s rising

  pub new_there : (kd : Kind) → Rising 0 p.core.made p.core.cells → There (on_core (new_cell (empty_cell kd)) p) (kd, suc p.core.made)
  new_there kd rising = record {
    cell = empty_cell kd;
    at = thing_new p.core.cells (suc p.core.made) (empty_cell kd) (not_there rising);
    right = right_new kd;
  }

  pub cell_given : law.CellGiven r ls x m p
  cell_given g h i kd k n s rising same num gs =
      let q : Proc Frame = on_core (new_cell (empty_cell kd)) p in
      let e : k.0 ≡ suc p.core.made = num ∙ s.holds.shows.made in
      let one : AllThere q ((kd, k.0) ∷ []) = (subst (λ c. There q (kd, c)) (sym e) (new_there kd rising), tt) in
      let there : AllThere q (value_refs (Ref kd k)) = subst (λ v. AllThere q (refs_of v)) (sym (ref_seen kd k)) one in
      subst (λ v. ProcessRepresents r ls x n (on_core (gives i.0 h v) q)) (ref_seen kd k ∙ ap (RefValue kd) e)
      (result_given r ls x (on_heap (made kd) m) q g h i (Ref kd k) n (cell_made kd s rising) there (same_goal_by p q i.0 g h refl refl same) gs)

-- with an open request, and with a port
module _ (r : RawTree) (ls : List Line) (x : Scan) (m : Process) (p : Proc Frame) (numbers : InNumbers p.core) (i k : ℕ) (number : k ≡ suc p.core.made) where
  abbrev given_by : Cell → Task → Proc Frame
  given_by cell u = proc (pushed u (pushed (Run i) (new_cell cell p.core))) p.actors

  there_then : (kd : Kind) (u : Task) → There (given_by (empty_cell kd) u) (kd, k)
  there_then kd u = record {
    cell = empty_cell kd;
    at = ap (thing (added p.core.cells (suc p.core.made) (empty_cell kd))) number
        ∙ thing_new p.core.cells (suc p.core.made) (empty_cell kd) (none_above p.core.cells 0 p.core.made (suc p.core.made) numbers.cells (omega arith));
    right = right_new kd;
  }

  with_request : (o : Option Task) (u : Task) → o ≡ Some u → ProcessRepresents r ls x m (proc (push_result i o (new_cell (Single None []) p.core)) p.actors)
      → ProcessRepresents r ls x (on_heap (requested k) (on_heap (hold kind.Promise k) m))
      (proc (push_result i o (new_cell (Single None []) (record p.core { requests = p.core.requests ++ suc p.core.made ∷ [] }))) p.actors)
  with_request None u e s = absurd (cc)
  with_request (Some v) u e s =
      let q = given_by (Single None []) v in
      let held = ref_held r ls x m q (kind.Promise, k) s (there_then kind.Promise v) in
      let l : p.core.made < k = omega (arith, number) in
      subst (λ c. ProcessRepresents r ls x (on_heap (requested k) (on_heap (hold kind.Promise k) m)) (on_core (λ d. record d { requests = d.requests ++ c ∷ [] }) q)) number
      (changed r ls (with_refs ((kind.Promise, k) ∷ []) x) x (on_heap (hold kind.Promise k) m) q (on_core (λ d. record d { requests = d.requests ++ k ∷ [] }) q)
      (requested k (hold kind.Promise k m.heap)) held (record {
        shows = request_shown r (hold kind.Promise k m.heap) q k 0 p.core.made held.holds.shows numbers.requests l;
        counted = λ z j. let a = of_request q z j k in let b = held.holds.counted z j in omega (arith, a, b);
      }) refl refl refl)

  with_port : (port : ℕ) (o : Option Task) (u : Task) → o ≡ Some u → ProcessRepresents r ls x m (proc (push_result i o (new_cell (Stream [] None None) p.core)) p.actors)
      → ProcessRepresents r ls x (on_heap (heard k) (on_heap (hold kind.PromiseStream k) m))
      (proc (push_result i o (new_cell (Stream [] None None) (record p.core { ports = added p.core.ports port (suc p.core.made) }))) p.actors)
  with_port port None u e s = absurd (cc)
  with_port port (Some v) u e s =
      let q = given_by (Stream [] None None) v in
      let held = ref_held r ls x m q (kind.PromiseStream, k) s (there_then kind.PromiseStream v) in
      subst (λ c. ProcessRepresents r ls x (on_heap (heard k) (on_heap (hold kind.PromiseStream k) m)) (on_core (λ d. record d { ports = added d.ports port c }) q)) number
      (changed r ls (with_refs ((kind.PromiseStream, k) ∷ []) x) x (on_heap (hold kind.PromiseStream k) m) q (on_core (λ d. record d { ports = added d.ports port k }) q)
      (heard k (hold kind.PromiseStream k m.heap)) held (record {
        shows = port_shown r (hold kind.PromiseStream k m.heap) q port k held.holds.shows;
        counted = λ z j. let a = of_port q z j port k in let b = held.holds.counted z j in omega (arith, a, b);
      }) refl refl refl)

module _ (r : RawTree) (ls : List Line) (x : Scan) (m : Process) (p : Proc Frame) where
  pub request_given : law.RequestGiven r ls x m p
  request_given g h i k n s numbers same og =
      let number : k.0 ≡ suc p.core.made = og.number ∙ s.holds.shows.made in
      let a = cell_given r ls x m p g h i kind.Future k og.between s numbers.cells same og.number og.given in (
        number,
        subst (λ q. ProcessRepresents r ls x q (on_core (gives_open i.0 h) p)) (sym og.requested_then)
            (with_request r ls x og.between p numbers i.0 k.0 number (result_task i.0 h (RefValue kind.Future (suc p.core.made))) (given_task i.0 h kind.Future (suc p.core.made))
            (given_as i.0 h kind.Future (suc p.core.made)) a),
      )

  pub stream_given : law.StreamGiven r ls x m p
  stream_given g h i k port n s numbers same none og =
      let number : k.0 ≡ suc p.core.made = og.number ∙ s.holds.shows.made in
      let a = cell_given r ls x m p g h i kind.FutureStream k og.between s numbers.cells same og.number og.given in (
        number,
        subst (λ o. ProcessRepresents r ls x n (on_core (λ c. (open_port i.0 h port o c).0) p)) (sym none)
            (subst (λ q. ProcessRepresents r ls x q (on_core (λ c. (open_port i.0 h port None c).0) p)) (sym og.heard_then)
            (with_port r ls x og.between p numbers i.0 k.0 number port (result_task i.0 h (RefValue kind.FutureStream (suc p.core.made))) (given_task i.0 h kind.FutureStream (suc p.core.made))
            (given_as i.0 h kind.FutureStream (suc p.core.made)) a)),
      )
