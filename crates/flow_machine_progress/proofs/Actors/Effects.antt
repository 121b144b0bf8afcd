-- An effect by which an actor stands, or that is the next operand of its wait, makes what it asks for.
use Rattle.std.proofs.Common.{◌≡◌, inl, inr, ℕ, Bool, true, false, List, length, refl, sym, ap, ◌∙◌, subst}
use Rattle.std.specs.declared.option.Option.{Option}
use Rattle.std.specs.declared.option.Option.TheVariants.{None, Some}
use Rattle.flow_tree.specs.Tree.{TypeTree, FutureType, ExprTrees}
use Rattle.flow_value.specs.declared.value.Value.{Value}
use Rattle.flow_value.specs.Values.{ValueTree}
use Rattle.flow_eval.specs.Eval.{Res, Done}
use Rattle.flow_class.specs.Classes.{EffectInstr, RawTree}
use Rattle.flow_class.specs.Code.{Body, fetch}
use Rattle.flow_code.specs.Resolved.Evaluation.{values_at}
use Rattle.flow_code.specs.Resolved.View.{nodes_of}
use Rattle.flow_code.specs.declared.class.Effect.{Effect}
use Rattle.flow_code.specs.declared.class.Effect.TheVariants as effect
use Rattle.flow_code.specs.declared.class.Instruction.TheVariants as instruction
use Rattle.flow_code.specs.declared.program.Code.{Code}
use Rattle.flow_code.specs.View.{aim_of}
use Rattle.flow_code.specs.Coding.{Coding}
use Rattle.flow_code.specs.Coded.{coding}
use Rattle.flow_trace.specs.declared.line.Line.{Line}
use Rattle.flow_numbered.specs.Numbered as stored
use Rattle.flow_frame.specs.Frames.{FrameTree}
use Rattle.flow_cancel.specs.declared.actors.Note.{Note}
use Rattle.flow_cancel.specs.Heap.{HeapTree}
use Rattle.flow_numbered.specs.Numbered.{thing}
use Rattle.flow_meaning.specs.Requests.{Supply, Goal, Stored, Effects}
use Rattle.flow_meaning.specs.Cells.{Cell}
use Rattle.flow_meaning.specs.Evaluating.{StepOf, Effectful, World, Actor, asks, given, evaluated, effect_of, world_effect, values}
use Rattle.flow_meaning.specs.Process.{Run, Entry, Proc}
use Rattle.flow_meaning.specs.References.{Scan}
use Rattle.flow_meaning.specs.Orderly.{tasks_of}
use Rattle.flow_meaning.specs.Work.{pushed}
use Rattle.flow_meaning.specs.Step.{view, on_core}
use Rattle.flow_meaning.specs.Class.{effects, class_names}
use Rattle.flow_meaning.specs.Frame.{Frame, look}
use Rattle.flow_progress.specs.Fitting.{CellTypes, CellAt, OwnsResult, ActorAt, ActorFits}
use Rattle.flow_steps.specs.declared.frames.ControlPoint.{ControlPoint}
use Rattle.flow_steps.specs.declared.process.Process.{Process}
use Rattle.flow_steps.specs.Evaluating.{sight_in, with_left}
use Rattle.flow_steps.specs.Points.{reframed, noting, noted}
use Rattle.flow_steps.specs.Delivering.{gone_to}
use Rattle.flow_steps.specs.Acting.{Values, args_of}
use Rattle.flow_steps.specs.Stuck.{FrameMissing}
use Rattle.flow_steps.specs.StuckCalls.{EvaluatesStuck, meaningless, frame_gone, rest_stuck, MakesStuck, EffectDoneStuck}
use Rattle.flow_operation_refinement.proofs.Carrying.{old, seen, noted_follows}
use Rattle.flow_step_refinement.specs.Continuing.{MayStep, moves, chooses}
use Rattle.flow_step_refinement.specs.Decoding.{AtInstruction}
use Rattle.flow_step_refinement.specs.Executing.{coded_by}
use Rattle.flow_step_refinement.proofs.Decodes.{the_instruction}
use Rattle.flow_step_refinement.specs.Effects.Asking.{resumed, MayAsk}
use Rattle.flow_step_refinement.specs.Effects.Effects.{SameEffect, MayMake}
use Rattle.flow_step_refinement.specs.Effects.Starting.{MayStart}
use Rattle.flow_step_refinement.proofs.Effects.Answering.{resumed_stood}
use Rattle.flow_step_refinement.proofs.Effects.Decoded.{effect_coded}
use Rattle.flow_step_refinement.proofs.Effects.Starts.{may_resumed}
use Rattle.flow_burst_refinement.specs.Enabled.Allowing.{Running}
use Rattle.flow_burst_refinement.specs.Requests.Next.{MayAffect, MayAskNext}
use Rattle.flow_burst_refinement.proofs.Requests.Allowed.{ask_allowed}
use Rattle.flow_machine_progress.specs.Actors as law
use Rattle.flow_machine_progress.proofs.Actors.Here.{values_seen, step_framed, no_instruction, Fit, fits_at}
use Rattle.flow_machine_progress.proofs.Actors.Enrolling.{ResultsThere, NotesRise, enrols_found}

-- a frame that is told where it stands changes no note
reframed_notes : (g : FrameTree Value → FrameTree Value) (i : ℕ) (o : Option (FrameTree Value)) (h : HeapTree) → (reframed g i o h).actors ≡ h.actors
reframed_notes g i None h = refl
reframed_notes g i (Some f) h = refl

pub noting_notes : (b : Bool) (i k n : ℕ) (h : HeapTree) → (noting b i k n h).actors ≡ h.actors
noting_notes true i k n h = refl
noting_notes false i k n h = reframed_notes (gone_to k n) i (stored.thing h.frames.things i) h

-- the results of the actors of a process that fits have cells
module _ (r : RawTree) (p : Proc Frame) (i : ℕ) (e : Entry) (f : Frame) (run : Running r p i e f) where
  abbrev types : CellTypes
  types = run.kept.types

  typed_there : (n : ℕ) (t : TypeTree) → types n ≡ Some t → (c : Cell) × (thing p.core.cells n ≡ Some c)
  typed_there n t is = by_cell (thing p.core.cells n) refl (subst (λ o. CellAt r types o (thing p.core.cells n)) is (run.kept.fits.cells n))
    where
      by_cell : (o : Option Cell) → thing p.core.cells n ≡ o → CellAt r types (Some t) (thing p.core.cells n) → (c : Cell) × (thing p.core.cells n ≡ Some c)
      by_cell None at fits = absurd (subst (CellAt r types (Some t)) at fits)
      by_cell (Some c) at fits = (c, at)

  pub results_there : ResultsThere p
  results_there j n d at result =
      by_frame (thing p.actors j) (subst (λ o. ActorAt r types o (thing p.actors j) (tasks_of j (on_core (pushed (Run i)) p).core.tasks)) at (run.kept.fits.actors j))
    where
      of_fits : (g : Frame) → ActorFits r types d g (tasks_of j (on_core (pushed (Run i)) p).core.tasks) → (c : Cell) × (thing p.core.cells n ≡ Some c)
      of_fits g a = typed_there n (FutureType a.class.returns) (subst (λ o. OwnsResult r types o a.class.returns) result a.owns).1

      by_frame : (o : Option Frame) → ActorAt r types (Some d) o (tasks_of j (on_core (pushed (Run i)) p).core.tasks) → (c : Cell) × (thing p.core.cells n ≡ Some c)
      by_frame None a = absurd a
      by_frame (Some g) a = of_fits g a

module _ (r : RawTree) (code : Code) (w : Supply) (ls : List Line) (x : Scan) (s : ControlPoint) (m : Process) (p : Proc Frame) (i : ℕ) (e : Entry) (f : Frame)
    (run : Running r p i e f) where
  abbrev Fits : StepOf Frame → Type 0
  Fits z = Fit r w p i e f run z

  -- what an actor that asks for an effect has to be: it stands where it asks, what it asks for fits, and may be made
  pub record Asking (called : Effectful) (es : ExprTrees) (goal : Goal) : Type 0 where
    pub ask : MayAsk r ls x s m p i e f
    pub framed : FrameMissing s.actor.0 m.heap → ⊥
    pub notes : NotesRise m.heap
    pub fits : Fits (effects (class_names r) (view w i p.core) f goal (called, es))
    pub may : MayMake r code p called (values (class_names r) (view w i p.core) (look f.mem) es)

  module _ (es : ExprTrees) (goal : Goal) where
    abbrev onward : Effectful → List ValueTree → ℕ → StepOf Frame
    onward called vs left = given f (effect_of called vs) (λ a. asks left (Effects goal a) f)

    abbrev come_to : Res (List ValueTree)
    come_to = values (class_names r) (view w i p.core) (look f.mem) es

    noted_notes : (left : ℕ) → NotesRise m.heap → NotesRise (noted s (with_left left m)).heap
    noted_notes left notes =
        subst (λ (z : stored.Store Note). stored.IsRising 0 z.things z.greatest) (sym (noting_notes s.noted s.actor.0 s.place s.instruction m.heap)) notes

    makes : (called : Effectful) (eff : Effect) → SameEffect eff called → Asking called es goal → (args : Values) (left : ℕ) → come_to ≡ Done (args_of args) left
        → MakesStuck code eff args (noted s (with_left left m)).heap → ⊥
    makes (World q) (effect.World c) same a args left done none =
        let one = subst (λ z. Fits (evaluated f z (onward (World q)))) done a.fits in
        let no_effect : world_effect q (args_of args) ≡ None = ap (λ z. world_effect z (args_of args)) (sym same) ∙ none in
        (subst (λ z. Fits (given f z (λ y. asks left (Effects goal y) f))) no_effect one).0
    makes (Actor k) (effect.Actor c) same a args left done stuck =
        let there = resumed_stood r ls m p i e f x s left a.ask in
        let started : MayStart r (resumed i f left p) code k (args_of args) = may_resumed r p code k (args_of args) i f left (a.may.starts k refl (args_of args) left done) in
        enrols_found r ls x (noted s (with_left left m)) (resumed i f left p) there.shown a.may.cells code c args.items
        (subst (λ z. MayStart r (resumed i f left p) code z (args_of args)) (sym same) started)
        (noted_notes left a.notes) (results_there r p i e f run) stuck
    makes (World q) (effect.Actor c) same a args left done stuck = same
    makes (Actor k) (effect.World c) same a args left done stuck = same

    pub effect_made : (called : Effectful) (eff : Effect) (comes_to : Res (List ValueTree)) → SameEffect eff called → Asking called es goal → comes_to ≡ come_to
        → EvaluatesStuck s args_of comes_to m (EffectDoneStuck code s eff) → ⊥
    effect_made called eff comes_to same a is (meaningless none) = (subst (λ z. Fits (evaluated f z (onward called))) (sym is ∙ none) a.fits).0
    effect_made called eff comes_to same a is (frame_gone none) = a.framed none
    effect_made called eff comes_to same a is (rest_stuck args left done (inl none)) = a.framed none
    effect_made called eff comes_to same a is (rest_stuck args left done (inr stuck)) = makes called eff same a args left (sym is ∙ done) stuck

pub effect_meant : (r : RawTree) (code : Code) (w : Supply) (ls : List Line) (x : Scan) (s : ControlPoint) (m : Process) (p : Proc Frame) (i : ℕ) (e : Entry) (f : Frame)
    → law.EffectMeant r code w ls x s m p i e f
effect_meant r code w ls x s m p i e f aim eff args at there stuck = by_step at.may
  where
    by : Coding
    by = coding at.standing.program.coded.names at.standing.program.coded.class (length f.code.slots)

    by_step : MayStep r ls x s m p i e f → ⊥
    by_step (moves st zero_state) =
        let a : AtInstruction by f (instruction.Effect aim eff args) =
        the_instruction r code.classes.items s i f (coded_by at.standing.program) at.standing.standing (instruction.Effect aim eff args) st.standing st.instruction there in
        let of = effect_coded r by f.code a.text (aim_of aim) eff (nodes_of args.items) at.standing.program.coded.are_classes a.coded in
        let fetched : fetch f.code f.block f.instr ≡ Body (EffectInstr of.path of.expr) = a.fetched ∙ ap Body of.is in
        let may : MayAffect r code w p i e f of.expr =
        subst (MayAskNext r code w p i e f) fetched (ask_allowed r code w p i e f at.running at.standing.program) in
        effect_made r code w ls x s m p i e f at.running of.effect.exprs Stored of.effect.called eff
        (values_at (sight_in code s.actor.0 m) (nodes_of args.items) m.left) of.effect.same
        (record {
          ask = record { actor = st.standing.actor; stood = noted_follows r ls m p i e f x s st; asked = at.unasked };
          framed = step_framed r ls x s m p i e f at.may;
          notes = at.sorted.actors;
          fits = subst (λ o. Fit r w p i e f at.running (given f o (effects (class_names r) (view w i p.core) f Stored))) of.effect.is_effect
              (fits_at r w p i e f at.running (Body (EffectInstr of.path of.expr)) fetched);
          may = may of.effect.called of.effect.exprs of.effect.is_effect;
        })
        (values_seen r ls x m (seen r ls m p i e f x s st) i e (old r ls m p i e f x s st) st.stood code w at.standing.program at.clock at.standing.few s.actor st.standing.actor of.effect.exprs
        args.items of.effect.resolved)
        stuck
    by_step (chooses wait) = no_instruction r ls x s m p i e f code at.standing wait (instruction.Effect aim eff args) there
