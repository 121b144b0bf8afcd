-- The end of an actor in memory is that of the definitions.
use Rattle.std.specs.Prelude.{◌≡◌, ℕ, List, []}
use Rattle.std.specs.declared.option.Option.TheVariants.{None, Some}
use Rattle.flow_base.specs.declared.ids.ActorId.{ActorId}
use Rattle.flow_value.specs.declared.value.Outcome.{Outcome}
use Rattle.flow_value.specs.View.{outcome_of}
use Rattle.flow_class.specs.Classes.{RawTree}
use Rattle.flow_trace.specs.declared.line.Line.{Line}
use Rattle.flow_cancel.specs.Heap.{HeapTree}
use Rattle.flow_numbered.specs.Numbered.{removed}
use Rattle.flow_meaning.specs.Cells.{Side}
use Rattle.flow_meaning.specs.Process.{Proc}
use Rattle.flow_meaning.specs.References.{count}
use Rattle.flow_meaning.specs.Orderly.{Rising}
use Rattle.flow_meaning.specs.Dropping.{close}
use Rattle.flow_meaning.specs.Step.{proc}
use Rattle.flow_meaning.specs.Frame.{Frame}
use Rattle.flow_heap_refinement.specs.Counted.{frames_hold, nothing_in_hand}
use Rattle.flow_heap_refinement.specs.Rested.{Sorted}
use Rattle.flow_heap_refinement.specs.Acting.{Free, At}
use Rattle.flow_heap_refinement.specs.References.{frame_holds}
use Rattle.flow_heap_refinement.specs.Holds.{with_refs}
use Rattle.flow_steps.specs.declared.process.Process.{Process}
use Rattle.flow_steps.specs.Holding.{outcome_refs}
use Rattle.flow_steps.specs.Delivering.{closed}
use Rattle.flow_operation_refinement.specs.Matching.{ProcessRepresents, Matches, Sound}

-- An actor that ends with an outcome: nothing is left for it to do, its frame holds nothing, and the outcome doesn't refer to its
-- own result.
pub record MayClose (r : RawTree) (h : HeapTree) (p : Proc Frame) (i : ℕ) (o : Outcome) : Type 0 where
  pub actor : At r h p i
  pub most : ℕ
  pub actors : Rising 0 most p.actors
  pub free : Free i p.core
  pub operands : actor.entry.operands ≡ []
  pub empty : (s : Side) (k : ℕ) → frame_holds s k actor.frame ≡ 0
  pub apart : (s : Side) (k : ℕ) → actor.entry.result ≡ Some k → count s k (outcome_refs o) ≡ 0

-- with its outcome in hand
abbrev pub ActorClosed : RawTree → List Line → Process → Proc Frame → Type 0
ActorClosed r ls m p =
    (i : ActorId) (o : Outcome) → ProcessRepresents r ls (with_refs (outcome_refs o) nothing_in_hand) m p → m.asked ≡ None → Sound p
    → Sorted m.heap → (may : MayClose r m.heap p i.0 o)
    → Matches r ls nothing_in_hand (closed i o may.actor.note.result m)
    (proc (close (frames_hold (removed p.actors i.0)) i.0 may.actor.entry.result (outcome_of o) p.core) (removed p.actors i.0))
