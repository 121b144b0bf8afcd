-- `main` can be called, and nothing that follows of a boot is stuck; where it breaks off, a first part of its lines was written.
use Rattle.std.proofs.Common.{◌≡◌, ◌⊎◌, inl, inr, ℕ, true, List, [], ◌∷◌, map, refl, sym, ap, ◌∙◌, subst}
use Rattle.std.proofs.lemmas.Bool.{false≢true}
use Rattle.std.specs.Prelude.{pos, is_some}
use Rattle.std.specs.Option.{option_map}
use Rattle.std.specs.declared.option.Option.{Option}
use Rattle.std.specs.declared.option.Option.TheVariants.{None, Some}
use Rattle.flow_base.specs.declared.ids.CellId.{CellId}
use Rattle.flow_tree.specs.Tree.{FutureType}
use Rattle.flow_value.specs.declared.value.Value.{Value}
use Rattle.flow_value.specs.declared.value.Value.TheVariants.{Int}
use Rattle.flow_value.specs.View.{value_of}
use Rattle.flow_class.specs.Classes.{RawTree}
use Rattle.flow_code.specs.declared.program.Code.{Code}
use Rattle.flow_trace.specs.declared.line.Line.{Line}
use Rattle.flow_trace.specs.declared.line.Line.TheVariants as line
use Rattle.flow_meaning.specs.Burst.{Host}
use Rattle.flow_meaning.specs.Class.{classes}
use Rattle.flow_meaning.specs.Deliver.{begin, boot}
use Rattle.flow_meaning.specs.Frame.{Frame}
use Rattle.flow_numbered.specs.Numbered.{Numbered, thing}
use Rattle.flow_meaning.specs.Process.{Proc}
use Rattle.flow_meaning.specs.Step.{on_core}
use Rattle.flow_heap_refinement.specs.Counted.{nothing_in_hand}
use Rattle.flow_heap_refinement.specs.Representing.{cell_number}
use Rattle.flow_progress.specs.Fitting.{OwnsResult}
use Rattle.flow_progress.proofs.CellStates.{cell_there}
use Rattle.flow_steps.specs.declared.call.Call.TheVariants as call
use Rattle.flow_steps.specs.declared.process.Process.{Process}
use Rattle.flow_steps.specs.Doing.{begun, unasked}
use Rattle.flow_steps.specs.Tasks.{MainCalled, main_waits, main_starts}
use Rattle.flow_steps.specs.StuckCalls.{EnrolsStuck}
use Rattle.flow_steps.specs.StuckTasks.{MainStartsStuck, no_main, enrols_stuck}
use Rattle.flow_machine.specs.declared.host.RunFault.{RunFault}
use Rattle.flow_machine.specs.declared.host.RunFault.TheVariants.{Stuck}
use Rattle.flow_machine.specs.Breaking.{ServingStuck, ServingBrokeIf, BreaksOff, MainBreaksOff, uncalled, main_stuck, untold, called}
use Rattle.flow_operation_refinement.specs.Matching.{ProcessRepresents, AreSpent, told}
use Rattle.flow_operation_refinement.proofs.Takings.{turned_asked}
use Rattle.flow_step_refinement.specs.Effects.Starting.{MayStart}
use Rattle.flow_step_refinement.proofs.Effects.Brings.{event_begins}
use Rattle.flow_burst_refinement.specs.Invariants.Invariant.{ProcessInvariant}
use Rattle.flow_burst_refinement.proofs.Invariants.Off.{unfinished}
use Rattle.flow_burst_refinement.specs.Bursts.{RepresentsInWorld}
use Rattle.flow_world_refinement.proofs.Effects.Mains.{may_start, main_is}
use Rattle.flow_step_refinement.proofs.Effects.Boots.{int_seen}
use Rattle.flow_world_refinement.proofs.Effects.Booting.{main_lines, main_begins}
use Rattle.flow_machine_progress.proofs.Actors.Enrolling.{ResultsThere, enrols_found}
use Rattle.flow_machine_progress.specs.Stores.{NoPromiseStored}
use Rattle.flow_machine_progress.proofs.Stores.Tasks.{main_stores}
use Rattle.flow_machine_progress.proofs.Bursts.Brought.{spent_well}
use Rattle.flow_machine_progress.proofs.Bursts.Bursts.{all_bursts_sure}
use Rattle.flow_progress.specs.Ending.{here}
use Rattle.flow_step_refinement.specs.Services as services
use Rattle.flow_end_to_end.specs.Actions as law
use Rattle.flow_end_to_end.specs.Parts.{PartOf}
use Rattle.flow_end_to_end.proofs.Parts.{nothing_of, these_in_part, spent_in_part, written_before, burst_in_part}

-- the results of actors are cells
results_there : (r : RawTree) (p : Proc Frame) → ProcessInvariant r p → ResultsThere p
results_there r p k j n e at result =
    let u = unfinished r p k j e at in
    let owns = subst (λ o. OwnsResult r k.types o u.fits.class.returns) result u.fits.owns in
    let c = cell_there r k.types n (FutureType u.fits.class.returns) (thing p.core.cells n) owns.1 (k.fits.cells n) in (c.0, c.1)

not_held : (x : Option ℕ) (o : Option CellId) → x ≡ None → x ≡ option_map cell_number o → is_some o ≡ true → ⊥
not_held x None e f h = false≢true h
not_held x (Some k) e f h = cc (e, f)

pub main_well : law.MainNeverStuck
main_well r m p now turns code me program rest kept none stuck = by_stuck stuck
  where
    start : Process
    start = begun now turns m

    begins : Proc Frame
    begins = on_core (begin turns) p

    shown : ProcessRepresents r [] nothing_in_hand start begins
    shown = event_begins r m p now turns rest.shown

    main : code.main ≡ Some (classes r).main
    main = main_is r code program begins kept refl me.0

    vs : List Value
    vs = Int (pos me.0) ∷ []

    may : MayStart r begins code (classes r).main (map value_of vs)
    may = subst (λ v. MayStart r begins code (classes r).main (v ∷ [])) (sym (int_seen (pos me.0))) (may_start r code program begins kept refl me.0)

    by_start : MainStartsStuck code me start.heap → ⊥
    by_start (no_main gone) = cc (gone, main)
    by_start (enrols_stuck class is got_stuck) =
        let same : class ≡ (classes r).main = let a = main in cc (a, is) in
        enrols_found r [] nothing_in_hand start begins shown kept.fits.numbered code (classes r).main vs may rest.sorted.actors (results_there r begins kept)
        (subst (λ c. EnrolsStuck code c vs start.heap) same got_stuck)

    by_stuck : (is_some start.heap.main ≡ true) ⊎ MainStartsStuck code me start.heap → ⊥
    by_stuck (inl held) = not_held p.core.main start.heap.main none shown.holds.shows.main held
    by_stuck (inr got_stuck) = by_start got_stuck

module _ {A W : Type 0} (serves : Host W) (shows : A → Numbered ℕ → W → Type 0) (wrote broke : A → List Line → A → Type 0) (code : Code) (processes : ℕ) (r : RawTree) where
  pub boot_well : law.BootNeverStuck serves shows wrote broke code processes r
  boot_well program steady now turns me m p w a b may stored around breaks = by_fault Stuck b refl breaks
    where
      start : Process
      start = begun now turns m

      booted : Proc Frame
      booted = boot (classes r) me.0 (on_core (begin turns) p)

      -- the call asks for a line at most
      asks_line : (n : Process) → MainCalled code me start n → ServingStuck n.asked → ⊥
      asks_line n (main_waits t is) stuck = subst ServingStuck (ap (λ (z : Process). z.asked) is ∙ turned_asked start ∙ may.resting.shown.asked) stuck
      asks_line n (main_starts t st) stuck = subst ServingStuck (ap (λ (z : Process). z.asked) st.starts.told) stuck

      by_begin : (n told : Process) (c d : A) → MainCalled code me start n → BreaksOff serves shows wrote broke code processes told c Stuck d
          → ((l : Line) × (told ≡ unasked n) × RepresentsInWorld serves shows wrote code processes r (l ∷ []) told c booted w × wrote a (l ∷ []) c)
          ⊎ (AreSpent [] told booted × (c ≡ a)) → ⊥
      by_begin n told c d calls off (inl x) =
          all_bursts_sure serves shows wrote broke code processes r program steady (x.0 ∷ []) told c d booted w x.2
          (subst (λ (z : Process). NoPromiseStored z.heap) (sym x.1) (main_stores code me start n calls stored)) off
      by_begin n told c d calls off (inr are) = spent_well serves shows wrote broke code processes r told c d are.0.spent off

      by_fault : (f : RunFault) (c : A) → f ≡ Stuck → MainBreaksOff serves shows wrote broke code processes me start a f c → ⊥
      by_fault f c e uncalled = cc (e)
      by_fault f c e (main_stuck stuck) = main_well r m p now turns code me program may.resting may.kept may.no_main stuck
      by_fault f c e (untold n _ _ calls broken stuck) = asks_line n calls (stuck e)
      by_fault f c e (called n told d _ _ calls served off) =
          by_begin n told d c calls (subst (λ g. BreaksOff serves shows wrote broke code processes told d g c) e off)
          (main_begins serves shows wrote code processes r program steady now turns me m p w a may.resting may.kept may.no_main may.booted around.shown around.clock around.time around.among n told
          d calls served)

  pub boot_in_part : law.BootInPart serves shows wrote broke code processes r
  boot_in_part program steady parts now turns me m p w a left fault may around breaks l run = by_fault fault left breaks
    where
      start : Process
      start = begun now turns m

      booted : Proc Frame
      booted = boot (classes r) me.0 (on_core (begin turns) p)

      nothing : PartOf broke [] a a l
      nothing = nothing_of serves wrote broke parts a l

      -- the line of the start is told in part
      line_in_part : (n : Process) (b : A) → MainCalled code me start n → booted.core.lines ≡ told n.asked → ServingBrokeIf serves shows wrote broke processes n.asked a b → PartOf broke [] a b l
      line_in_part n b (main_waits t is) lines part =
          absurd (subst (λ o. ServingBrokeIf serves shows wrote broke processes o a b) (ap (λ (z : Process). z.asked) is ∙ turned_asked start ∙ may.resting.shown.asked) part)
      line_in_part n b (main_starts t st) lines part =
          let x = line.Start st.actor st.starts.of.name in
          let asked : n.asked ≡ Some (call.Line x) = ap (λ (z : Process). z.asked) st.starts.told in
          these_in_part serves shows wrote broke code processes r program steady parts [] (x ∷ []) a b booted booted w w l here (lines ∙ ap told asked) run
          (subst (λ o. ServingBrokeIf serves shows wrote broke processes o a b) asked part)

      by_begin : (f : RunFault) (n told_now : Process) (d c : A) → BreaksOff serves shows wrote broke code processes told_now d f c
          → ((x : Line) × (told_now ≡ unasked n) × RepresentsInWorld serves shows wrote code processes r (x ∷ []) told_now d booted w × wrote a (x ∷ []) d)
          ⊎ (AreSpent [] told_now booted × (d ≡ a)) → PartOf broke [] a c l
      by_begin f n told_now d c off (inl x) =
          written_before serves shows wrote broke code processes r program steady parts [] (x.0 ∷ []) a d c l (services.told x.3)
          (burst_in_part serves shows wrote broke code processes r program steady parts (x.0 ∷ []) told_now d c f booted w x.2 off l run)
      by_begin f n told_now d c off (inr are) =
          subst (λ z. PartOf broke [] a z l) (sym (spent_in_part serves shows wrote broke code processes r program steady parts told_now d c f are.0.spent off ∙ are.1)) nothing

      by_fault : (f : RunFault) (c : A) → MainBreaksOff serves shows wrote broke code processes me start a f c → PartOf broke [] a c l
      by_fault f c uncalled = nothing
      by_fault f c (main_stuck stuck) = nothing
      by_fault f c (untold n _ _ calls part stuck) =
          line_in_part n c calls
          (main_lines serves shows wrote code processes r program steady now turns me m p w a may.resting may.kept may.no_main may.booted around.shown around.clock around.time around.among n calls) part
      by_fault f c (called n told_now d _ _ calls served off) =
          by_begin f n told_now d c off
          (main_begins serves shows wrote code processes r program steady now turns me m p w a may.resting may.kept may.no_main may.booted around.shown around.clock around.time around.among n told_now
          d calls served)
