-- What is told of a program's state.
use Rattle.std.proofs.Common.{◌≡◌, ℕ, List, [], ◌∷◌, ◌++◌, Ok, Err, Some, None, refl, sym, ap, subst, ◌∙◌}
use Rattle.std.specs.declared.option.Option.{Option}
use Rattle.flow_base.specs.Faults.{Rose}
use Rattle.flow_base.specs.Seen.{SinkSeen}
use Rattle.flow_base.specs.declared.fault.OutFault.{OutFault}
use Rattle.flow_base.specs.declared.fault.OutFault.TheVariants.{Failed, OutOfMemory}
use Rattle.flow_tree.specs.DeclView.{program_of}
use Rattle.flow_worldfile.specs.Worlds.{seen}
use Rattle.flow_world.specs.declared.ending.Ending.{Ending}
use Rattle.flow_world.specs.Ending.{Seen}
use Rattle.flow_world.specs.Starting.{Starts}
use Rattle.flow_world.specs.Skipping.{SkipsUpTo}
use Rattle.flow_class.specs.declared.class.RawClasses.{RawClasses}
use Rattle.flow_debug.specs.declared.waits.WaitPlaces.{WaitPlaces}
use Rattle.flow_debug.specs.Waits.{waits_seen}
use Rattle.flow_view_laws.specs.Skipped.{SkippedRise, skipped_text, skipped_status, IsView}
use Rattle.flow_view_laws.proofs.Skipped.{skips_view}
use Rattle.flow_top.specs.declared.outcome.DebugRun.{DebugRun}
use Rattle.flow_top.specs.declared.outcome.ProgramRun.{ProgramRun}
use Rattle.flow_top.specs.declared.outcome.Meant.{Meant}
use Rattle.flow_top.specs.declared.outcome.Meant.TheVariants.{Text, Classes}
use Rattle.flow_top.specs.Outcomes.{MayView, MayRun, IsText, IsRunBy, of_program, of_class_text}
use Rattle.flow_top.specs.Debugged.{IsViewBy, IsViewOf, WaitsOf}
use Rattle.flow_top.specs.Told.{GoesOut, GoesOutInPart, fault_status_of, ReportedDebug, shown_state, state_write_fault, state_no_memory_told}

-- the view of the state of the program that is run, and that the numbers rise in memory
viewed_by : (text : List ℕ) (m : Meant) (classes : RawClasses) (file : _) (waits : WaitPlaces) (first v : Seen) (most : ℕ) (e : Option Ending) → IsRunBy text m classes → IsText m
    → WaitsOf m waits → Rattle.flow_worldfile.specs.Worlds.IsInRange (seen file) → Starts classes file first → SkipsUpTo most first e v
    → SkippedRise e v × IsViewBy m (seen file) most (skipped_text (waits_seen waits) e v) (skipped_status e)
viewed_by text _ _ file waits first v most e (of_program p c passing has) is known range starts skips =
    let s = skips_view text p.value c file first v most e passing.sound passing.light has range starts skips in
    (s.0, subst (λ z. IsView (program_of p.value) (seen file) most (skipped_text z e v) (skipped_status e)) (sym known) s.1)
viewed_by text _ _ file waits first v most e (of_class_text c answer) is known range starts skips = absurd is

pub is_viewed : (d : DebugRun) (first v : Seen) (e : Option Ending) (waits : WaitPlaces) → MayView d → Starts d.run.classes d.run.world first → SkipsUpTo d.most first e v
    → waits ≡ d.run.waits → SkippedRise e v × IsViewOf d.run d.most (skipped_text (waits_seen waits) e v) (skipped_status e)
is_viewed d first v e waits may starts skips same =
    viewed_by may.0.text d.run.meant d.run.classes d.run.world waits first v d.most e may.0.is_run may.1 (subst (WaitsOf d.run.meant) (sym same) may.2) may.0.in_range starts skips

pub state_out : (d : DebugRun) (first v : Seen) (e : Option Ending) (waits : WaitPlaces) (before after : SinkSeen) → MayView d → Starts d.run.classes d.run.world first
    → SkipsUpTo d.most first e v → waits ≡ d.run.waits → (SkippedRise e v → GoesOut before after (skipped_text (waits_seen waits) e v))
    → ReportedDebug d before after (skipped_status e)
state_out d first v e waits before after may starts skips same out =
    let x = is_viewed d first v e waits may starts skips same in shown_state _ _ x.1 (out x.0)

pub state_in_part : (d : DebugRun) (first v : Seen) (e : Option Ending) (waits : WaitPlaces) (before after : SinkSeen) (fault : OutFault) → MayView d → Starts d.run.classes d.run.world first
    → SkipsUpTo d.most first e v → waits ≡ d.run.waits → (SkippedRise e v → GoesOutInPart before after (skipped_text (waits_seen waits) e v))
    → (fault ≡ Failed → Rose before.faults after.faults) → ReportedDebug d before after (fault_status_of fault)
state_in_part d first v e waits before after Failed may starts skips same out rose =
    let x = is_viewed d first v e waits may starts skips same in state_write_fault _ _ x.1 (out x.0) (rose refl)
state_in_part d first v e waits before after OutOfMemory may starts skips same out rose =
    let x = is_viewed d first v e waits may starts skips same in state_no_memory_told _ _ x.1 (out x.0)
