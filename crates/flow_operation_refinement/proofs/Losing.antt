-- A reference is lost, and what that leads to is done, as the definitions have it.
use Rattle.std.proofs.Common.{◌≡◌, ℕ, zero, suc, Bool, true, false, List, ◌++◌, refl, sym, ap, ◌∙◌, subst}
use Rattle.std.specs.declared.option.Option.{Option}
use Rattle.std.specs.declared.option.Option.TheVariants.{None, Some}
use Rattle.flow_value.specs.declared.value.Kind.{Kind}
use Rattle.flow_class.specs.Classes.{RawTree}
use Rattle.flow_trace.specs.declared.line.Line.{Line}
use Rattle.flow_cancel.specs.declared.task.Dropped.TheVariants as after
use Rattle.flow_cancel.specs.Heap.{HeapTree, cell_id}
use Rattle.flow_cancel.specs.Dropping.{Lost, dropped}
use Rattle.flow_numbered.specs.Numbered.{thing, removed}
use Rattle.flow_meaning.specs.Cells.{Side, PromiseSide, FutureSide, side_of, Cell, is_complete}
use Rattle.flow_meaning.specs.Process.{Entry, Core, Proc}
use Rattle.flow_meaning.specs.References.{one}
use Rattle.flow_meaning.specs.Work.{owner, free, free_cell}
use Rattle.flow_meaning.specs.Dropping.{Loss, Kept, Freed, Broken, Orphan, Unheard, promises_gone, futures_gone, loss, port_of, suffer, lose_cell}
use Rattle.flow_meaning.specs.Step.{on_core}
use Rattle.flow_meaning.specs.Frame.{Frame}
use Rattle.flow_heap_refinement.specs.Counted.{references, frames_hold, nothing_in_hand}
use Rattle.flow_heap_refinement.specs.Holds.{There}
use Rattle.flow_heap_refinement.specs.Rested.{Sorted}
use Rattle.flow_heap_refinement.specs.Losing.{RightCell, Losing, Same, free_port}
use Rattle.flow_heap_refinement.specs.Losing as losing
use Rattle.flow_heap_refinement.proofs.Loss.{loss_follows}
use Rattle.flow_steps.specs.declared.call.Call.TheVariants as call
use Rattle.flow_steps.specs.declared.process.Process.{Process}
use Rattle.flow_steps.specs.Doing.{asking, stopped}
use Rattle.flow_steps.specs.Holding.{with_heap, lost_by, lost}
use Rattle.flow_operation_refinement.specs.Matching.{told, ProcessRepresents, Matches, shows, Sound}
use Rattle.flow_operation_refinement.specs.Working as law
use Rattle.flow_operation_refinement.specs.Working.{Sendable}
use Rattle.flow_operation_refinement.proofs.Working.{changed, cell_broken}
use Rattle.flow_operation_refinement.proofs.Cancelling.{actor_stopped}

-- a cell that is broken isn't complete
broken_open : (s : Side) (a b : ℕ) (c : Cell) (o : Option (ℕ × Entry)) (q : Option ℕ) → loss s a b c o q ≡ Broken → is_complete c ≡ false
broken_open PromiseSide zero zero c o q e = absurd (cc)
broken_open FutureSide zero zero c o q e = absurd (cc)
broken_open PromiseSide zero (suc b) c o q e = by_complete (is_complete c) e
  where
    by_complete : (t : Bool) → promises_gone t ≡ Broken → t ≡ false
    by_complete true f = absurd (cc)
    by_complete false f = refl
broken_open FutureSide zero (suc b) c o q e = absurd (cc)
broken_open PromiseSide (suc a) zero c o q e = absurd (cc)
broken_open PromiseSide (suc a) (suc b) c o q e = absurd (cc)
broken_open FutureSide (suc a) (suc b) c o q e = absurd (cc)
broken_open FutureSide (suc a) zero c o q e = by_owner o q e
  where
    by_owner : (o : Option (ℕ × Entry)) (q : Option ℕ) → futures_gone o q ≡ Broken → is_complete c ≡ false
    by_owner (Some x) q f = absurd (cc)
    by_owner None (Some port) f = absurd (cc)
    by_owner None None f = absurd (cc)

-- a port's stream is told to be gone, which is no line
unlisten_shown : (r : RawTree) (ls : List Line) (k : ℕ) (m : Process) (p : Proc Frame) → ProcessRepresents r ls nothing_in_hand m p → m.asked ≡ None
    → ProcessRepresents r ls nothing_in_hand (asking (call.Unlisten (cell_id k)) m) p
unlisten_shown r ls k m p s none = record {
  holds = s.holds;
  left = s.left;
  lines = s.lines ∙ ap (λ a. ls ++ told a) none;
  unspent = s.unspent;
  goes = s.goes;
}

module _ (r : RawTree) (ls : List Line) (m : Process) (p : Proc Frame) (kd : Kind) (k : ℕ) (c : Cell) (s : ProcessRepresents r ls (λ s j. one s j (side_of kd) k) m p) (none : m.asked ≡ None)
    (sound : Sound p)
    (at : thing p.core.cells k ≡ Some c) (right : RightCell kd c) where
  same_shown : (h : HeapTree) (q : Proc Frame) → Same r h q → q.core.lines ≡ p.core.lines → q.core.left ≡ p.core.left → q.core.halted ≡ p.core.halted
      → ProcessRepresents r ls nothing_in_hand (with_heap h m) q
  same_shown h q same = changed r ls (λ s j. one s j (side_of kd) k) nothing_in_hand m p q h s (record { shows = same.0; counted = same.1 })

  freed_shown : (h : HeapTree) (f : Core → Core) → ((d : Core) → (f d).cells ≡ d.cells) → ((d : Core) → (f d).lines ≡ d.lines) → ((d : Core) → (f d).left ≡ d.left)
      → ((d : Core) → (f d).halted ≡ d.halted)
      → Same r h (on_core (λ d. free k (f d)) p) → ProcessRepresents r ls nothing_in_hand (with_heap h m) (on_core (λ d. free k (f d)) p)
  freed_shown h f cs a b g same =
      let there : thing (f p.core).cells k ≡ Some c = ap (λ xs. thing xs k) (cs p.core) ∙ at in
      same_shown h (on_core (λ d. free k (f d)) p) same
      (ap (λ o. (free_cell k o (f p.core)).lines) there ∙ a p.core)
      (ap (λ o. (free_cell k o (f p.core)).left) there ∙ b p.core)
      (ap (λ o. (free_cell k o (f p.core)).halted) there ∙ g p.core)

  by_case : (l : Lost) (y : Loss) → losing.LossMatches r p k l y → (y ≡ Broken → is_complete c ≡ false)
      → Matches r ls nothing_in_hand (lost_by kd k l m) (on_core (suffer k y) p)
  by_case (h, after.Nothing) Kept f open_ = shows (same_shown h p f refl refl refl)
  by_case (h, after.Nothing) Freed f open_ = absurd f
  by_case (h, after.Nothing) Broken f open_ = absurd f
  by_case (h, after.Nothing) (Orphan i e) f open_ = absurd f
  by_case (h, after.Nothing) (Unheard q) f open_ = absurd f
  by_case (h, after.Freed) Kept f open_ = absurd f
  by_case (h, after.Freed) Freed f open_ = shows (freed_shown h (λ d. d) (λ d. refl) (λ d. refl) (λ d. refl) (λ d. refl) f)
  by_case (h, after.Freed) Broken f open_ = absurd f
  by_case (h, after.Freed) (Orphan i e) f open_ = absurd f
  by_case (h, after.Freed) (Unheard q) f open_ = absurd f
  by_case (h, after.Broken) Kept f open_ = absurd f
  by_case (h, after.Broken) Freed f open_ = absurd f
  by_case (h, after.Broken) Broken f open_ =
      cell_broken r ls nothing_in_hand (with_heap h m) p kd k (same_shown h p f refl refl refl) none (record { cell = c; at = at; right = right; incomplete = open_ refl })
  by_case (h, after.Broken) (Orphan i e) f open_ = absurd f
  by_case (h, after.Broken) (Unheard q) f open_ = absurd f
  by_case (h, after.Cancel a) Kept f open_ = absurd f
  by_case (h, after.Cancel a) Freed f open_ = absurd f
  by_case (h, after.Cancel a) Broken f open_ = absurd f
  by_case (h, after.Cancel a) (Orphan i e) f open_ =
      shows (subst (λ b. ProcessRepresents r ls nothing_in_hand (stopped b.0 (with_heap h m)) (on_core (suffer k (Orphan i e)) p)) (sym f.0)
      (actor_stopped r ls nothing_in_hand (with_heap h m) p i e (same_shown h p f.2 refl refl refl) none sound.waits f.1))
  by_case (h, after.Cancel a) (Unheard q) f open_ = absurd f
  by_case (h, after.PortFreed) Kept f open_ = absurd f
  by_case (h, after.PortFreed) Freed f open_ = absurd f
  by_case (h, after.PortFreed) Broken f open_ = absurd f
  by_case (h, after.PortFreed) (Orphan i e) f open_ = absurd f
  by_case (h, after.PortFreed) (Unheard q) f open_ =
      shows (unlisten_shown r ls k (with_heap h m) (on_core (suffer k (Unheard q)) p)
      (freed_shown h (λ d. record d { ports = removed d.ports q }) (λ d. refl) (λ d. refl) (λ d. refl) (λ d. refl) f) none)

-- the reference that is in hand may be lost
pub losing_of : (r : RawTree) (ls : List Line) (m : Process) (p : Proc Frame) (kd : Kind) (k : ℕ) → ProcessRepresents r ls (λ s j. one s j (side_of kd) k) m p → Sound p → Sorted m.heap
    → (t : There p (kd, k)) → Losing r m.heap p kd k t.cell
losing_of r ls m p kd k s sound sorted t = record {
  shows = s.holds.shows;
  counted = s.holds.counted;
  cell = t.at;
  right = t.right;
  owned = sound.owned;
  numbers = sound.numbers;
  entries = sound.entries;
  sorted = sorted;
}

pub ref_lost : (r : RawTree) (ls : List Line) (m : Process) (p : Proc Frame) → law.RefLost r ls m p
ref_lost r ls m p kd k s none sound sorted t =
    let y = loss (side_of kd) (references PromiseSide k p) (references FutureSide k p) t.cell (owner k p.core.entries) (port_of k p.core.ports) in
    let l : Losing r m.heap p kd k t.cell = losing_of r ls m p kd k s sound sorted t in
    subst (λ o. Matches r ls nothing_in_hand (lost kd k m) (on_core (lose_cell (frames_hold p.actors) (side_of kd) k o) p)) (sym t.at)
    (by_case r ls m p kd k t.cell s none sound t.at t.right (dropped kd k m.heap) y (loss_follows r m.heap p kd k t.cell l)
    (broken_open (side_of kd) (references PromiseSide k p) (references FutureSide k p) t.cell (owner k p.core.entries) (port_of k p.core.ports)))
