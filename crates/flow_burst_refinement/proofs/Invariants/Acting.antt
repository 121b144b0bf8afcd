-- Where actors of a process in memory stand, by what the process keeps.
use Rattle.std.proofs.Common.{◌≡◌, ◌⊎◌, inl, inr, ℕ, sym, ap, subst, ◌∙◌}
use Rattle.std.specs.declared.option.Option.TheVariants.{Some}
use Rattle.flow_class.specs.Classes.{ChooseLast, RawTree}
use Rattle.flow_class.specs.Code.{Fetched, Nothing, Last, fetch}
use Rattle.flow_code.specs.declared.program.Code.{Code}
use Rattle.flow_numbered.specs.Numbered as stored
use Rattle.flow_cancel.specs.Heap.{HeapTree, actor_id}
use Rattle.flow_numbered.specs.Numbered.{thing}
use Rattle.flow_meaning.specs.Process.{Entry, Proc}
use Rattle.flow_meaning.specs.Frame.{Frame}
use Rattle.flow_meaning.proofs.Shifts.{same_of}
use Rattle.flow_meaning.proofs.InOrder.{no_thing}
use Rattle.flow_heap_refinement.specs.Representing.{FrameRepresents, stands, ended, ActorRepresents, nobody, somebody, Represents}
use Rattle.flow_heap_refinement.specs.Acting.{At}
use Rattle.flow_progress.specs.Fitting.{CellTypes, Standing, Waiting}
use Rattle.flow_invariants.specs.Fitting.Laws.{AreValid}
use Rattle.flow_steps.specs.declared.frames.ControlPoint.{ControlPoint}
use Rattle.flow_steps.specs.declared.process.Process.{Process}
use Rattle.flow_steps.specs.Points.{IsAtPoint}
use Rattle.flow_operation_refinement.specs.Placing.{Acts}
use Rattle.flow_operation_refinement.specs.Seeing.{IsCodeOf}
use Rattle.flow_operation_refinement.specs.Coded.{CodedBy, PointIsCoded}
use Rattle.flow_operation_refinement.proofs.Stands.{stand_follows}
use Rattle.flow_burst_refinement.proofs.Invariants.Homes.{at_home}

-- An actor that is unfinished in the process is so in memory.
pub actor_at : (r : RawTree) (h : HeapTree) (p : Proc Frame) (i : ℕ) (e : Entry) → Represents r h p → thing p.core.entries i ≡ Some e → At r h p i
actor_at r h p i e s at = by_actor (s.actors i)
  where
    by_actor : ActorRepresents r (stored.thing h.actors.things i) (stored.thing h.frames.things i) (thing p.core.entries i) (thing p.actors i) → At r h p i
    by_actor (nobody a b c d) = absurd (no_thing (sym c ∙ at))
    by_actor (somebody x) = x

-- one that stands at an instruction acts there
pub acts_at : (r : RawTree) (h : HeapTree) (p : Proc Frame) (i : ℕ) (e : Entry) (f : Frame) → Represents r h p → thing p.core.entries i ≡ Some e → thing p.actors i ≡ Some f
    → (fetch f.code f.block f.instr ≡ Nothing → ⊥) → Acts r h p i e f
acts_at r h p i e f s at acting there =
    let x = actor_at r h p i e s at in by_frame x (same_of (sym x.entered ∙ at)) (same_of (sym x.acting ∙ acting)) x.same.frame
  where
    by_frame : (x : At r h p i) → x.entry ≡ e → x.frame ≡ f → FrameRepresents r x.memory x.entry x.frame → Acts r h p i e f
    by_frame x same_entry same_frame (stands st) = record {
      note = x.note;
      memory = x.memory;
      noted = x.noted;
      framed = x.framed;
      entered = at;
      acting = acting;
      class = sym (ap (λ (y : Entry). y.class) same_entry) ∙ x.same.class;
      result = sym (ap (λ (y : Entry). y.result) same_entry) ∙ x.same.result;
      marked = sym (ap (λ (y : Entry). y.marked) same_entry) ∙ x.same.marked;
      stands = subst (λ y. Rattle.flow_heap_refinement.specs.Representing.LiveFrameRepresents r x.memory y f) same_entry
          (subst (λ y. Rattle.flow_heap_refinement.specs.Representing.LiveFrameRepresents r x.memory x.entry y) same_frame st);
    }
    by_frame x same_entry same_frame (ended en) = absurd (there (ap (λ (y : Frame). fetch y.code y.block y.instr) (sym same_frame ∙ en.frame)))

module _ (r : RawTree) (code : Code) (valid : AreValid r) (coded : IsCodeOf r code) where
  pub by_code : CodedBy r code.classes.items
  by_code = record { names = coded.coded.names; class = coded.coded.class; are_coded = coded.coded.are_coded }

  -- where the code has an actor stand is where its frame does
  pub stands_by : (m : Process) (p : Proc Frame) (i : ℕ) (e : Entry) (f : Frame) (s : ControlPoint) → Acts r m.heap p i e f → IsAtPoint code.classes.items (actor_id i) m s → PointIsCoded by_code s i f
  stands_by m p i e f s acts now =
      stand_follows r code.classes.items m p i e f s by_code (at_home r valid.valid acts.memory.class f.code acts.stands.code) acts now

-- a frame that goes on or waits stands at an instruction
pub standing_there : (r : RawTree) (types : CellTypes) (f : Frame) → Standing r types f → fetch f.code f.block f.instr ≡ Nothing → ⊥
standing_there r types f s = s.there

not_nothing : (o : Fetched) (g : ℕ) → o ≡ Last (ChooseLast g) → o ≡ Nothing → ⊥
not_nothing o g e n = cc

pub waiting_there : (r : RawTree) (types : CellTypes) (f : Frame) → Waiting r types f → fetch f.code f.block f.instr ≡ Nothing → ⊥
waiting_there r types f w = not_nothing (fetch f.code f.block f.instr) w.group w.there

pub either_there : (r : RawTree) (types : CellTypes) (f : Frame) → Standing r types f ⊎ Waiting r types f → fetch f.code f.block f.instr ≡ Nothing → ⊥
either_there r types f (inl s) = standing_there r types f s
either_there r types f (inr w) = waiting_there r types f w
