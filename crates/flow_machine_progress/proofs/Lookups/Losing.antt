-- What the loss of a reference leads to can be done.
use Rattle.std.proofs.Common.{◌≡◌, ℕ, zero, suc, Bool, true, false, inl, inr, refl, sym, ap, ◌∙◌, subst}
use Rattle.std.proofs.lemmas.Bool.{false≢true}
use Rattle.std.specs.Option.{IsSome, option_map}
use Rattle.std.specs.declared.option.Option.{Option}
use Rattle.std.specs.declared.option.Option.TheVariants.{None, Some}
use Rattle.flow_base.specs.declared.ids.ActorId.{ActorId}
use Rattle.flow_value.specs.declared.value.Kind.{Kind}
use Rattle.flow_value.specs.declared.value.Kind.TheVariants as kind
use Rattle.flow_value.specs.declared.value.Value.{Value}
use Rattle.flow_value.specs.declared.value.Outcome.{Outcome}
use Rattle.flow_value.specs.View.{outcome_of}
use Rattle.flow_cell.specs.Cells.{CellTree}
use Rattle.flow_stream.specs.Streams.{StreamTree}
use Rattle.flow_numbered.specs.Numbered as stored
use Rattle.flow_class.specs.Classes.{RawTree}
use Rattle.flow_cancel.specs.declared.task.Dropped.TheVariants as memory
use Rattle.flow_cancel.specs.Heap.{HeapTree}
use Rattle.flow_meaning.specs.Requests.{Spot}
use Rattle.flow_numbered.specs.Numbered.{thing}
use Rattle.flow_meaning.specs.Cells.{Side, PromiseSide, FutureSide, side_of, Cell, Single, Stream, is_some, is_complete}
use Rattle.flow_meaning.specs.Dropping.{Loss, Kept, Freed, Broken, Orphan, Unheard, loss, promises_gone, futures_gone, port_of}
use Rattle.flow_meaning.specs.Frame.{Frame}
use Rattle.flow_meaning.specs.Process.{Entry, Proc}
use Rattle.flow_meaning.specs.Work.{owner}
use Rattle.flow_heap_refinement.specs.Counted.{references}
use Rattle.flow_heap_refinement.specs.Losing.{RightCell, LossMatches}
use Rattle.flow_heap_refinement.specs.Representing.{Represents, CellRepresents, ActorRepresents, nobody, somebody, spot_of_actor}
use Rattle.flow_heap_refinement.proofs.Loss.{may_drop_it, loss_follows}
use Rattle.flow_steps.specs.Stuck.{MayNotSet, MayNotSend, MayNotFill, CancelsStuck, may_not, breaks, cancels}
use Rattle.flow_machine_progress.specs.Lookups.{LossFound}
use Rattle.flow_machine_progress.proofs.Lookups.References.{some_none}

-- a cell that is shown, and isn't complete, may be filled
content_unset : (o : Option Outcome) → is_some (option_map outcome_of o) ≡ false → IsSome o → ⊥
content_unset None e m = false≢true m
content_unset (Some x) e m = false≢true (sym e)

end_unset : {A : Type 0} (f : A → ℕ) (o : Option A) → is_some (option_map f o) ≡ false → IsSome o → ⊥
end_unset f None e m = false≢true m
end_unset f (Some x) e m = false≢true (sym e)

may_set : (spots : ℕ → Spot) (o : Option (CellTree Outcome)) (u : Option (StreamTree Value)) (c : Cell) → CellRepresents spots o u (Some c) → RightCell kind.Promise c
    → is_complete c ≡ false → MayNotSet o → ⊥
may_set spots (Some m) None (Single v ws) s right e n = content_unset m.content (ap is_some (sym s.0) ∙ e) n
may_set spots None None (Single v ws) s right e n = s
may_set spots None (Some u) (Single v ws) s right e n = s
may_set spots (Some m) (Some u) (Single v ws) s right e n = s
may_set spots o u (Stream q d w) s right e n = right

may_send : (spots : ℕ → Spot) (o : Option (CellTree Outcome)) (u : Option (StreamTree Value)) (c : Cell) → CellRepresents spots o u (Some c) → RightCell kind.PromiseStream c
    → is_complete c ≡ false → MayNotSend u → ⊥
may_send spots None (Some u) (Stream q d w) s right e n = end_unset _ u.end (ap is_some (sym s.1) ∙ e) n
may_send spots None None (Stream q d w) s right e n = s
may_send spots (Some m) None (Stream q d w) s right e n = s
may_send spots (Some m) (Some u) (Stream q d w) s right e n = s
may_send spots o u (Single v ws) s right e n = right

single_of : (c : Cell) → RightCell kind.Future c → RightCell kind.Promise c
single_of (Single v ws) right = tt
single_of (Stream q d w) right = right

stream_of : (c : Cell) → RightCell kind.FutureStream c → RightCell kind.PromiseStream c
stream_of (Stream q d w) right = tt
stream_of (Single v ws) right = right

pub may_fill : (r : RawTree) (h : HeapTree) (p : Proc Frame) (kd : Kind) (k : ℕ) (c : Cell) → Represents r h p → thing p.core.cells k ≡ Some c → RightCell kd c
    → is_complete c ≡ false → MayNotFill kd k h → ⊥
may_fill r h p kd k c shows at right e n = by kd right n
  where
    cell : CellRepresents (spot_of_actor p.actors) (stored.thing h.cells.things k) (stored.thing h.streams.things k) (Some c)
    cell = subst (CellRepresents (spot_of_actor p.actors) (stored.thing h.cells.things k) (stored.thing h.streams.things k)) at (shows.cells k)

    by : (kd : Kind) → RightCell kd c → MayNotFill kd k h → ⊥
    by kind.Promise right n = may_set (spot_of_actor p.actors) (stored.thing h.cells.things k) (stored.thing h.streams.things k) c cell right e n
    by kind.Future right n = may_set (spot_of_actor p.actors) (stored.thing h.cells.things k) (stored.thing h.streams.things k) c cell (single_of c right) e n
    by kind.PromiseStream right n = may_send (spot_of_actor p.actors) (stored.thing h.cells.things k) (stored.thing h.streams.things k) c cell right e n
    by kind.FutureStream right n = may_send (spot_of_actor p.actors) (stored.thing h.cells.things k) (stored.thing h.streams.things k) c cell (stream_of c right) e n

-- what breaks isn't complete
abbrev is_broken : Loss → Bool
is_broken Broken = true
is_broken _ = false

gone_broken : (b : Bool) → promises_gone b ≡ Broken → b ≡ false
gone_broken true e = absurd (false≢true (ap is_broken e))
gone_broken false e = refl

futures_broken : (o : Option (ℕ × Entry)) (q : Option ℕ) → futures_gone o q ≡ Broken → ⊥
futures_broken (Some o) q e = false≢true (ap is_broken e)
futures_broken None (Some q) e = false≢true (ap is_broken e)
futures_broken None None e = false≢true (ap is_broken e)

broken_open : (s : Side) (a b : ℕ) (c : Cell) (o : Option (ℕ × Entry)) (q : Option ℕ) → loss s a b c o q ≡ Broken → is_complete c ≡ false
broken_open PromiseSide zero zero c o q e = absurd (false≢true (ap is_broken e))
broken_open FutureSide zero zero c o q e = absurd (false≢true (ap is_broken e))
broken_open PromiseSide zero (suc f) c o q e = gone_broken (is_complete c) e
broken_open PromiseSide (suc p) zero c o q e = absurd (false≢true (ap is_broken e))
broken_open PromiseSide (suc p) (suc f) c o q e = absurd (false≢true (ap is_broken e))
broken_open FutureSide (suc p) zero c o q e = absurd (futures_broken o q e)
broken_open FutureSide zero (suc f) c o q e = absurd (false≢true (ap is_broken e))
broken_open FutureSide (suc p) (suc f) c o q e = absurd (false≢true (ap is_broken e))

-- an unfinished actor that is shown is there in memory, with its frame
pub may_cancel : (r : RawTree) (h : HeapTree) (p : Proc Frame) (i : ℕ) (e : Entry) → Represents r h p → thing p.core.entries i ≡ Some e → CancelsStuck i h → ⊥
may_cancel r h p i e shows at m = by (shows.actors i) m
  where
    by : ActorRepresents r (stored.thing h.actors.things i) (stored.thing h.frames.things i) (thing p.core.entries i) (thing p.actors i) → CancelsStuck i h → ⊥
    by (nobody n f none a) m = some_none (sym at ∙ none)
    by (somebody x) (inl none) = some_none (sym x.noted ∙ none)
    by (somebody x) (inr none) = some_none (sym x.framed ∙ none)

pub loss_found : LossFound
loss_found r h p kd k c l (may_not e) = false≢true (sym e ∙ may_drop_it r h p kd k c l)
loss_found r h p kd k c l (breaks g e m) =
    broken (loss (side_of kd) (references PromiseSide k p) (references FutureSide k p) c (owner k p.core.entries) (port_of k p.core.ports)) refl
    (subst (λ x. LossMatches r p k x (loss (side_of kd) (references PromiseSide k p) (references FutureSide k p) c (owner k p.core.entries) (port_of k p.core.ports))) e (loss_follows r h p kd k c l))
  where
    broken : (x : Loss) → loss (side_of kd) (references PromiseSide k p) (references FutureSide k p) c (owner k p.core.entries) (port_of k p.core.ports) ≡ x
        → LossMatches r p k (g, memory.Broken) x → ⊥
    broken Broken is same =
        may_fill r g p kd k c same.0 l.cell l.right
        (broken_open (side_of kd) (references PromiseSide k p) (references FutureSide k p) c (owner k p.core.entries) (port_of k p.core.ports) is) m
    broken Kept is f = f
    broken Freed is f = f
    broken (Orphan i x) is f = f
    broken (Unheard q) is f = f
loss_found r h p kd k c l (cancels g a e m) =
    orphan (loss (side_of kd) (references PromiseSide k p) (references FutureSide k p) c (owner k p.core.entries) (port_of k p.core.ports))
    (subst (λ x. LossMatches r p k x (loss (side_of kd) (references PromiseSide k p) (references FutureSide k p) c (owner k p.core.entries) (port_of k p.core.ports))) e (loss_follows r h p kd k c l))
  where
    orphan : (x : Loss) → LossMatches r p k (g, memory.Cancel a) x → ⊥
    orphan (Orphan i x) f = may_cancel r g p i x f.2.0 f.1 (subst (λ (b : ActorId). CancelsStuck b.0 g) f.0 m)
    orphan Kept f = f
    orphan Freed f = f
    orphan Broken f = f
    orphan (Unheard q) f = f
