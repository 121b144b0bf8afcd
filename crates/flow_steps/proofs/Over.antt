-- Drops on top of tasks: none, those of one more step, and those of an actor that leaves its wait.
use Rattle.std.proofs.Common.{◌≡◌, ℕ, List, [], ◌∷◌, ◌++◌, Option, Some, None, refl, sym, ap, ◌∙◌}
use Rattle.flow_value.specs.declared.value.Kind.{Kind}
use Rattle.flow_value.specs.declared.value.Value.{Value}
use Rattle.flow_value.specs.declared.value.Outcome.{Outcome}
use Rattle.flow_numbered.specs.Numbered.{thing}
use Rattle.flow_cell.specs.Cells.{CellTree}
use Rattle.flow_cell.specs.declared.waiter.Waiter.{Waiter}
use Rattle.flow_frame.specs.declared.held.Held.{Held}
use Rattle.flow_frame.specs.Frames.{FrameTree}
use Rattle.flow_cancel.specs.declared.task.Task.{Task}
use Rattle.flow_cancel.specs.declared.task.Task.TheVariants.{Drop}
use Rattle.flow_cancel.specs.Heap.{HeapTree, pushed}
use Rattle.flow_cancel.specs.Dropping.{drops}
use Rattle.flow_cancel.specs.Leaving.{leave_cell_at, leave_one, leave_all, kind_at, waiter_of, without_callbacks, withdrawn, withdrawn_from}
use Rattle.flow_cancel.proofs.Drops.{drops_append}
use Rattle.flow_steps.specs.Drops.{DropsOver}

pub over_none : (before after : List Task) → after ≡ before → DropsOver before after
over_none before after e = record { refs = []; over = e }

pub over_these : (rs : List (Kind × ℕ)) (before after : List Task) → after ≡ drops rs before → DropsOver before after
over_these rs before after e = record { refs = rs; over = e }

pub over_then : (before between after : List Task) → DropsOver before between → DropsOver between after → DropsOver before after
over_then before between after p q = record {
  refs = q.refs ++ p.refs;
  over = q.over ∙ ap (drops q.refs) p.over ∙ sym (drops_append q.refs p.refs before);
}

left_tasks : (k : ℕ) (w : Waiter) (o : Option (CellTree Outcome)) (h : HeapTree) → (leave_cell_at k w o h).tasks ≡ h.tasks
left_tasks k w None h = refl
left_tasks k w (Some c) h = refl

over_one : (i : ℕ) (x : Held) (h : HeapTree) → DropsOver h.tasks (leave_one i x h).tasks
over_one i x h = record {
  refs = (kind_at (thing h.cells.things x.cell.0), x.cell.0) ∷ [];
  over = ap (λ ts. Drop (kind_at (thing h.cells.things x.cell.0)) x.cell ∷ ts) (left_tasks x.cell.0 (waiter_of i x) (thing h.cells.things x.cell.0) h);
}

over_all : (i : ℕ) (xs : List Held) (h : HeapTree) → DropsOver h.tasks (leave_all i xs h).tasks
over_all i [] h = over_none h.tasks h.tasks refl
over_all i (x ∷ xs) h =
    over_then h.tasks (leave_all i xs h).tasks (leave_all i (x ∷ xs) h).tasks (over_all i xs h) (over_one i x (leave_all i xs h))

over_from : (i : ℕ) (o : Option (FrameTree Value)) (h : HeapTree) → DropsOver h.tasks (withdrawn_from i o h).tasks
over_from i None h = over_none h.tasks h.tasks refl
over_from i (Some f) h = over_all i f.callbacks (without_callbacks i f h)

pub over_withdrawn : (i : ℕ) (h : HeapTree) → DropsOver h.tasks (withdrawn i h).tasks
over_withdrawn i h = over_from i (thing h.frames.things i) h

-- a task, the drops of two steps over it, and a step that leaves the tasks alone
pub over_wait : (t : Task) (h g : HeapTree) (one two three : List Task) → g ≡ pushed t h → DropsOver g.tasks one → DropsOver one two → three ≡ two → DropsOver (t ∷ h.tasks) three
over_wait t h g one two three pushes p q same =
    let r : DropsOver g.tasks two = over_then g.tasks one two p q in
    let over : two ≡ drops r.refs g.tasks = r.over in
    record { refs = r.refs; over = same ∙ over ∙ ap (λ (x : HeapTree). drops r.refs x.tasks) pushes }
