-- What the loss of a reference does to a heap and to the process that it shows.
use Rattle.std.proofs.Common.{◌≡◌, ℕ, List, refl, subst}
use Rattle.std.specs.declared.option.Option.{Option}
use Rattle.std.specs.declared.option.Option.TheVariants.{None, Some}
use Rattle.flow_value.specs.declared.value.Kind.{Kind}
use Rattle.flow_value.specs.declared.value.Kind.TheVariants as kind
use Rattle.flow_value.specs.declared.value.Value.{Value}
use Rattle.flow_value.specs.declared.value.Outcome.{Outcome}
use Rattle.flow_value.specs.Values.{ValueTree, OutcomeTree}
use Rattle.flow_class.specs.Classes.{RawTree}
use Rattle.flow_numbered.specs.Numbered as stored
use Rattle.flow_cell.specs.Cells.{CellTree}
use Rattle.flow_stream.specs.Streams.{StreamTree}
use Rattle.flow_cancel.specs.Heap.{HeapTree}
use Rattle.flow_meaning.specs.Cells.{Waiter, Single, Stream}
use Rattle.flow_meaning.specs.Requests.{Spot}
use Rattle.flow_meaning.specs.Process.{Proc}
use Rattle.flow_meaning.specs.Frame.{Frame}
use Rattle.flow_heap_refinement.specs.Representing.{CellRepresents, spot_of_actor}
use Rattle.flow_heap_refinement.specs.Losing as law
use Rattle.flow_heap_refinement.specs.Losing.{RightCell, Losing}
use Rattle.flow_heap_refinement.proofs.Losing.{single_follows, single_may}
use Rattle.flow_heap_refinement.proofs.LosingStreams.{stream_follows, stream_may}

-- what stands in memory where the process has a single result, or a stream
pub memory_single : (spots : ℕ → Spot) (m : Option (CellTree Outcome)) (s : Option (StreamTree Value)) (o : Option OutcomeTree) (ws : List Waiter) → CellRepresents spots m s (Some (Single o ws))
    → (x : CellTree Outcome) × (m ≡ Some x)
memory_single spots (Some m) None o ws h = (m, refl)
memory_single spots None None o ws h = absurd h
memory_single spots None (Some s) o ws h = absurd h
memory_single spots (Some m) (Some s) o ws h = absurd h

pub memory_stream : (spots : ℕ → Spot) (m : Option (CellTree Outcome)) (s : Option (StreamTree Value)) (q : List ValueTree) (e : Option ℕ) (w : Option Waiter)
    → CellRepresents spots m s (Some (Stream q e w)) → (x : StreamTree Value) × (s ≡ Some x)
memory_stream spots None (Some s) q e w h = (s, refl)
memory_stream spots None None q e w h = absurd h
memory_stream spots (Some m) None q e w h = absurd h
memory_stream spots (Some m) (Some s) q e w h = absurd h

module _ (r : RawTree) (h : HeapTree) (p : Proc Frame) where
  pub single_at : (kd : Kind) (k : ℕ) (o : Option OutcomeTree) (ws : List Waiter) → Losing r h p kd k (Single o ws) → (x : CellTree Outcome) × (stored.thing h.cells.things k ≡ Some x)
  single_at kd k o ws l =
      memory_single (spot_of_actor p.actors) (stored.thing h.cells.things k) (stored.thing h.streams.things k) o ws
      (subst (CellRepresents (spot_of_actor p.actors) (stored.thing h.cells.things k) (stored.thing h.streams.things k)) l.cell (l.shows.cells k))

  pub stream_at : (kd : Kind) (k : ℕ) (q : List ValueTree) (e : Option ℕ) (w : Option Waiter) → Losing r h p kd k (Stream q e w) → (x : StreamTree Value) × (stored.thing h.streams.things k ≡ Some x)
  stream_at kd k q e w l =
      memory_stream (spot_of_actor p.actors) (stored.thing h.cells.things k) (stored.thing h.streams.things k) q e w
      (subst (CellRepresents (spot_of_actor p.actors) (stored.thing h.cells.things k) (stored.thing h.streams.things k)) l.cell (l.shows.cells k))

  pub may_drop_it : law.MayDrop r h p
  may_drop_it kind.Promise k (Single o ws) l = let m = single_at kind.Promise k o ws l in single_may r h p kind.Promise k o ws l m.0 m.1
  may_drop_it kind.Future k (Single o ws) l = let m = single_at kind.Future k o ws l in single_may r h p kind.Future k o ws l m.0 m.1
  may_drop_it kind.PromiseStream k (Stream q e w) l = let m = stream_at kind.PromiseStream k q e w l in stream_may r h p kind.PromiseStream k q e w l m.0 m.1
  may_drop_it kind.FutureStream k (Stream q e w) l = let m = stream_at kind.FutureStream k q e w l in stream_may r h p kind.FutureStream k q e w l m.0 m.1
  may_drop_it kind.Promise k (Stream q e w) l = absurd l.right
  may_drop_it kind.Future k (Stream q e w) l = absurd l.right
  may_drop_it kind.PromiseStream k (Single o ws) l = absurd l.right
  may_drop_it kind.FutureStream k (Single o ws) l = absurd l.right

  pub loss_follows : law.LossFollows r h p
  loss_follows kind.Promise k (Single o ws) l = let m = single_at kind.Promise k o ws l in single_follows r h p kind.Promise k o ws l m.0 m.1
  loss_follows kind.Future k (Single o ws) l = let m = single_at kind.Future k o ws l in single_follows r h p kind.Future k o ws l m.0 m.1
  loss_follows kind.PromiseStream k (Stream q e w) l = let m = stream_at kind.PromiseStream k q e w l in stream_follows r h p kind.PromiseStream k q e w l m.0 m.1
  loss_follows kind.FutureStream k (Stream q e w) l = let m = stream_at kind.FutureStream k q e w l in stream_follows r h p kind.FutureStream k q e w l m.0 m.1
  loss_follows kind.Promise k (Stream q e w) l = absurd l.right
  loss_follows kind.Future k (Stream q e w) l = absurd l.right
  loss_follows kind.PromiseStream k (Single o ws) l = absurd l.right
  loss_follows kind.FutureStream k (Single o ws) l = absurd l.right
