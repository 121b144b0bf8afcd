-- Event after event memory tells the view of the state of the text.
use Rattle.std.proofs.Common.{List, sym, ap, subst, ◌∙◌}
use Rattle.std.specs.Prelude.{Result}
use Rattle.flow_base.specs.declared.fault.OutFault.{OutFault}
use Rattle.flow_tree.specs.declared.decl.Program.{Program}
use Rattle.flow_tree.specs.DeclView.{program_of}
use Rattle.flow_trace.specs.declared.line.Line.{Line}
use Rattle.flow_worldfile.specs.Worlds.{seen}
use Rattle.flow_class.specs.View.{raw_of}
use Rattle.flow_class.specs.Classes.{RawTree}
use Rattle.flow_front.specs.Verdict.{IsSound}
use Rattle.flow_lower.specs.Compiled.{compiled}
use Rattle.flow_lowering_laws.proofs.Programs.Whole.{compiles_faithfully}
use Rattle.flow_typing_laws.specs.ControlFlow.Laws.{AllHaveSimpleParts}
use Rattle.flow_typing_laws.proofs.ControlFlow.SimpleParts.{program_parts}
use Rattle.flow_compile_laws.specs.Simulation.Carried.{AreCarried}
use Rattle.flow_compile_laws.proofs.Traces.{are_carried}
use Rattle.flow_determinism.proofs.Whole.{compiles_whole}
use Rattle.flow_meaning.specs.Class.{classes}
use Rattle.flow_meaning.specs.Runs.{IsRun}
use Rattle.flow_meaning.specs.Source.{source}
use Rattle.flow_meaning.proofs.LiftRuns.{traces_return}
use Rattle.flow_restore_laws.proofs.Rest.Worlds.{programs_rest}
use Rattle.flow_debug.specs.Told.{places_of_waits}
use Rattle.flow_view_laws.specs.Told.{places_told}
use Rattle.flow_view_laws.specs.Viewed.{ProgramsViewed}
use Rattle.flow_view_laws.proofs.Tied.{Stands, tied}
use Rattle.flow_view_laws.proofs.Names.{AreDistinct, valid_distinct}
use Rattle.flow_view_laws.proofs.Worlds.{world_told, all_rise, state_beside}

-- of an accepted program and its classes
module _ (text : List _) (program : Program) (sound : IsSound text program) where
  abbrev pub own : RawTree
  own = compiled (program_of program)

  pub carry : AreCarried (program_of program) own
  carry = are_carried program (compiles_faithfully text program sound.typed)

  pub differ : AreDistinct own
  differ = valid_distinct own (compiles_whole text program sound).valid.valid

  pub simple : AllHaveSimpleParts (program_of program).decls
  simple = let read = sound.typed.read in program_parts read.tokens (program_of program) read.parsed.1

module _ {A : Type 0} (puts : A → Line → Result (Unit {0}) OutFault → A → Type 0) where
  pub programs_viewed : ProgramsViewed puts
  programs_viewed text program c file with_frames first v a b sound light has range starts goes =
      let t = program_of program in
      let r = own text program sound in
      let x = programs_rest puts text program c file with_frames first v a b sound light has range starts goes in
      let run = subst (λ z. IsRun (classes z) (seen file) x.states x.run.0) has x.run.1 in
      let R = Stands t r (carry text program sound) (differ text program sound) (simple text program sound) in
      let other = traces_return (source t) (classes r) R (tied t r (carry text program sound) (differ text program sound) (simple text program sound)) (seen file) x.states x.run.0 run in
      let beside = state_beside R v.ran other.0 x.states x.state other.2 x.after_as_many in
      let out = beside.2.0 in
      let told = world_told t r (carry text program sound) (differ text program sound) (simple text program sound) x.state.out.file.processes v.places x.state beside.0
      (subst (λ z. Rattle.flow_world_refinement.specs.Order.Showing.PlacesRepresent (Rattle.flow_restore_laws.specs.Rest.Boundary.IsAtRest z) x.state.out.file.processes 0 v.places x.state.places) has x.shows.places) beside.2 in
      record {
        states = other.0;
        lines = x.run.0;
        run = other.1;
        state = beside.0;
        after_as_many = beside.1;
        ran = x.shows.ran ∙ ap (λ o. o.ran) (sym out);
        time = x.shows.outside.time ∙ ap (λ o. o.time) (sym out);
        rise = all_rise (raw_of c) x.state.out.file.processes 0 v.places x.state.places x.shows.places;
        told = ap (λ z. places_told (places_of_waits t.decls) z.classes 0 v.places) has ∙ told;
      }
