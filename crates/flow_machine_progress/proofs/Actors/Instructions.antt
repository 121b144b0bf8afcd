-- A step by an instruction doesn't go astray.
use Rattle.std.proofs.Common.{◌≡◌, ℕ, List, inl, inr, sym, ap, ◌∙◌, subst}
use Rattle.std.specs.Prelude.{slice_get}
use Rattle.std.specs.declared.option.Option.TheVariants.{Some}
use Rattle.flow_ast.specs.Typing.{is_there}
use Rattle.flow_class.specs.Classes.{InstrTree, RawTree}
use Rattle.flow_class.specs.Code.{Body, fetch}
use Rattle.flow_code.specs.declared.class.Act.TheVariants as act
use Rattle.flow_code.specs.declared.class.Instruction.{Instruction}
use Rattle.flow_code.specs.declared.class.Instruction.TheVariants as instruction
use Rattle.flow_code.specs.declared.program.Code.{Code}
use Rattle.flow_code.specs.Resolved.View.{node_of}
use Rattle.flow_code.specs.Classes.{SetCode}
use Rattle.flow_code.specs.View.{aim_of, instruction_of}
use Rattle.flow_trace.specs.declared.line.Line.{Line}
use Rattle.flow_meaning.specs.Requests.{Supply}
use Rattle.flow_meaning.specs.Process.{Entry, Proc}
use Rattle.flow_meaning.specs.References.{Scan}
use Rattle.flow_meaning.specs.Frame.{Frame}
use Rattle.flow_progress.specs.Fitting.{typed_by}
use Rattle.flow_steps.specs.declared.frames.ControlPoint.{ControlPoint}
use Rattle.flow_steps.specs.declared.process.Process.{Process}
use Rattle.flow_steps.specs.StuckSteps.{DoesStuck}
use Rattle.flow_operation_refinement.specs.Continuing.{MayBeStale}
use Rattle.flow_step_refinement.specs.Decoding.{AtInstruction}
use Rattle.flow_step_refinement.specs.Continuing.{moves, chooses, MayStep}
use Rattle.flow_step_refinement.proofs.Decodes.{the_instruction}
use Rattle.flow_step_refinement.proofs.Froms.{instruction_from}
use Rattle.flow_step_refinement.proofs.Effects.Decoded.{call_coded, void_coded}
use Rattle.flow_burst_refinement.proofs.Enabled.Steps.{place_there, standing}
use Rattle.flow_machine_progress.specs.Actors.{AtStep, InstructionMeant}
use Rattle.flow_machine_progress.proofs.Actors.Here.{no_instruction, own_rules}
use Rattle.flow_machine_progress.proofs.Actors.Froms.{PartsOf, parts_of}
use Rattle.flow_machine_progress.proofs.Actors.Assigns.{by, coding_now, set_meant, new_meant, vector_meant, drop_meant}
use Rattle.flow_machine_progress.proofs.Actors.Calls.{world_meant, function_meant, void_meant}
use Rattle.flow_machine_progress.proofs.Actors.Methods.{method_meant}
use Rattle.flow_machine_progress.proofs.Actors.Parts.{always_coded}
use Rattle.flow_machine_progress.proofs.Actors.Effects.{effect_meant}

module _ (r : RawTree) (code : Code) (w : Supply) (ls : List Line) (x : Scan) (s : ControlPoint) (m : Process) (p : Proc Frame) (i : ℕ) (e : Entry) (f : Frame)
    (now : AtStep r code w ls x s m p i e f) where
  module _ (st : MayBeStale r ls x s m p i e f) (y : Instruction) (at : slice_get s.block.now.body.items s.instruction ≡ Some y) where
    -- what it stands at, and the parts of that
    there : AtInstruction (coding_now r code w ls x s m p i e f now st) f y
    there = the_instruction r code.classes.items s i f (by r code w ls x s m p i e f now st) now.standing.standing y st.standing st.instruction at

    parts : PartsOf (coding_now r code w ls x s m p i e f now st) there.text (instruction_of y)
    parts =
        subst (PartsOf (coding_now r code w ls x s m p i e f now st) there.text) (sym there.coded)
        (parts_of (coding_now r code w ls x s m p i e f now st) f.code there.text _ (instruction_from (coding_now r code w ls x s m p i e f now st) f.code there.text))

  moves_meant : (st : MayBeStale r ls x s m p i e f) (y : Instruction) → slice_get s.block.now.body.items s.instruction ≡ Some y → DoesStuck code s y m → ⊥
  moves_meant st (instruction.Set aim res) at stuck =
      let a = there st (instruction.Set aim res) at in by_parts a.text a.fetched (parts st (instruction.Set aim res) at)
    where
      by_parts : (text : InstrTree) → fetch f.code f.block f.instr ≡ Body text → PartsOf (coding_now r code w ls x s m p i e f now st) text (SetCode (aim_of aim) (node_of res)) → ⊥
      by_parts text fetched (inl of) = set_meant r code w ls x s m p i e f now st aim res of.0 of.1 (fetched ∙ ap Body of.2) of.3 of.4 stuck
      by_parts text fetched (inr of) = vector_meant r code w ls x s m p i e f now st aim res of.0 (fetched ∙ ap Body of.1) of.2 of.3 of.4 stuck
  moves_meant st (instruction.Effect aim called args) at stuck = effect_meant r code w ls x s m p i e f aim called args now at stuck
  moves_meant st (instruction.New place kd) at stuck =
      let a = there st (instruction.New place kd) at in
      let of = parts st (instruction.New place kd) at in new_meant r code w ls x s m p i e f now st place of.0 (a.fetched ∙ ap Body of.1) of.2 stuck
  moves_meant st (instruction.Act (act.World called) args) at stuck =
      let a = there st (instruction.Act (act.World called) args) at in
      let of = call_coded (coding_now r code w ls x s m p i e f now st) f.code a.text called _ a.coded in
      world_meant r code w ls x s m p i e f now st of.name of.exprs args.items (a.fetched ∙ ap Body of.is) of.resolved called of.named stuck
  moves_meant st (instruction.Act (act.Actor k) args) at stuck =
      let a = there st (instruction.Act (act.Actor k) args) at in
      let coded = now.standing.program.coded in
      let of = void_coded r (coding_now r code w ls x s m p i e f now st) f.code a.text k _ coded.are_classes coded.are_functions a.coded in
      void_meant r code w ls x s m p i e f now st of.name of.exprs args.items (a.fetched ∙ ap Body of.is) of.resolved k of.starts stuck
  moves_meant st (instruction.Act (act.Function k) args) at stuck =
      let a = there st (instruction.Act (act.Function k) args) at in
      let of = parts st (instruction.Act (act.Function k) args) at in
      function_meant r code w ls x s m p i e f now st of.0 of.1 args.items (a.fetched ∙ ap Body of.2) of.4 k of.3 stuck
  moves_meant st (instruction.Method aim called args) at stuck =
      let a = there st (instruction.Method aim called args) at in
      method_meant r code w ls x s m p i e f now st aim called args.items a.text a.fetched a.coded stuck
  moves_meant st (instruction.Drop places) at stuck =
      let a = there st (instruction.Drop places) at in
      let of = parts st (instruction.Drop places) at in drop_meant r code w ls x s m p i e f now st places.items of.0 (a.fetched ∙ ap Body of.1) of.2 stuck
  moves_meant st instruction.Invalid at stuck =
      let a = there st instruction.Invalid at in
      always_coded r code f (own_rules r w p i e f now.running)
      (λ q t is. place_there r.records (typed_by now.running.kept.types) f q (standing r w p i e f now.running).holds (ap is_there is))
      (standing r w p i e f now.running).holds.slots now.standing.program now.standing.few a.text a.fetched a.coded

pub instruction_meant : (r : RawTree) (code : Code) (w : Supply) (ls : List Line) (x : Scan) (s : ControlPoint) (m : Process) (p : Proc Frame) (i : ℕ) (e : Entry) (f : Frame)
    → InstructionMeant r code w ls x s m p i e f
instruction_meant r code w ls x s m p i e f y now at stuck = by_step now.may
  where
    by_step : MayStep r ls x s m p i e f → ⊥
    by_step (moves st zero_state) = moves_meant r code w ls x s m p i e f now st y at stuck
    by_step (chooses wait) = no_instruction r ls x s m p i e f code now.standing wait y at
