-- The burst that begins with the call of `main` is a burst of the class machine.
use Rattle.std.proofs.Common.{◌≡◌, ◌⊎◌, inl, inr, ℕ, Bool, true, false, List, [], ◌∷◌, ◌++◌, refl, sym, ap, ◌∙◌, subst, if◌then◌else◌}
use Rattle.std.specs.Prelude.{pos, nat_lt, ◌-◌}
use Rattle.std.specs.declared.option.Option.TheVariants.{None, Some}
use Rattle.flow_base.specs.declared.ids.ProcId.{ProcId}
use Rattle.flow_value.specs.declared.value.Kind.TheVariants as kind
use Rattle.flow_value.specs.declared.value.Value.{Value}
use Rattle.flow_value.specs.declared.value.Value.TheVariants.{Int}
use Rattle.flow_value.specs.Values.{IntValue}
use Rattle.flow_class.specs.Classes.{RawTree}
use Rattle.flow_code.specs.declared.program.Code.{Code}
use Rattle.flow_trace.specs.declared.line.Line.{Line}
use Rattle.flow_trace.specs.declared.line.Line.TheVariants as line
use Rattle.flow_cancel.specs.Heap.{HeapTree}
use Rattle.flow_cancel.specs.Dropping.{refs_in}
use Rattle.flow_cancel.specs.declared.task.Task.TheVariants as task
use Rattle.flow_numbered.specs.Numbered.{Numbered}
use Rattle.flow_meaning.specs.Process.{Proc}
use Rattle.flow_meaning.specs.Orderly.{UnlessStopped}
use Rattle.flow_meaning.specs.Burst.{Host}
use Rattle.flow_meaning.specs.Class.{classes}
use Rattle.flow_meaning.specs.Deliver.{begin, boot}
use Rattle.flow_meaning.specs.Frame.{Frame}
use Rattle.flow_meaning.specs.Step.{on_core}
use Rattle.flow_heap_refinement.specs.Counted.{nothing_in_hand}
use Rattle.flow_heap_refinement.specs.Holds.{hold}
use Rattle.flow_heap_refinement.specs.Rested.{Sorted}
use Rattle.flow_steps.specs.declared.call.Call.TheVariants as call
use Rattle.flow_steps.specs.declared.process.Process.{Process}
use Rattle.flow_steps.specs.Acting.{enrolled, with_args}
use Rattle.flow_steps.specs.Delivering.{made}
use Rattle.flow_steps.specs.Doing.{begun, turned, doing, unasked}
use Rattle.flow_steps.specs.Holding.{on_heap}
use Rattle.flow_steps.specs.Evaluating.{program_time}
use Rattle.flow_steps.specs.Tasks.{MainCalled, MainStarts, main_waits, main_starts}
use Rattle.flow_machine.specs.declared.host.Burst.{Burst}
use Rattle.flow_machine.specs.Bursts.{Bursts, MainBursts}
use Rattle.flow_machine.specs.Serving.{Served, ServedIf}
use Rattle.flow_operation_refinement.specs.Matching.{ProcessRepresents, AreSpent}
use Rattle.flow_operation_refinement.specs.Matching as memory
use Rattle.flow_operation_refinement.proofs.Takings.{turned_asked}
use Rattle.flow_step_refinement.proofs.Effects.Boots.{main_boots}
use Rattle.flow_step_refinement.proofs.Effects.Brings.{event_begins}
use Rattle.flow_step_refinement.specs.Services as serving
use Rattle.flow_step_refinement.proofs.Services.{line_written}
use Rattle.flow_step_refinement.specs.Resuming.{NoStaleWaits}
use Rattle.flow_step_refinement.proofs.Resuming.Tasks.{main_keeps}
use Rattle.flow_burst_refinement.specs.Invariants.Invariant.{ProcessInvariant}
use Rattle.flow_burst_refinement.proofs.Invariants.Once.{sorted_stays}
use Rattle.flow_burst_refinement.proofs.Invariants.Quiet.{Quiet, Speaks, quiet_then, quiet_is, quiet_speaks, speaks_is, speaks_stay, tells, on_heap_quiet, turned_quiet, doing_quiet}
use Rattle.flow_burst_refinement.proofs.Invariants.Rising.{and_then, made_stays, hold_stays, hold_all_stays, started_stays}
use Rattle.flow_burst_refinement.specs.Enabled.Tasking.{IsProgram}
use Rattle.flow_burst_refinement.specs.Bursts.{HostKeepsTime, RepresentsInWorld, and_more, SimulatesBurst}
use Rattle.flow_burst_refinement.specs.Boundaries.Delivering.{Resting}
use Rattle.flow_burst_refinement.proofs.Programs.Following.{event_follows}
use Rattle.flow_burst_refinement.proofs.Programs.Goes.{program_follows}
use Rattle.flow_world_refinement.proofs.Effects.Mains.{may_start, main_is}
use Rattle.flow_world_refinement.proofs.Effects.SamePorts.{boot_ports}

both_ways : {b : Bool} → b ≡ true → b ≡ false → ⊥
both_ways e f = cc

-- The call of `main` keeps the time and the order of a heap, and tells a line at most.
main_speaks : (code : Code) (me : ProcId) (m n : Process) → m.asked ≡ None → MainCalled code me m n → Speaks m n
main_speaks code me m n none (main_waits t e) = quiet_speaks m n none (quiet_is m n (turned m) e (turned_quiet m))
main_speaks code me m n none (main_starts t h) =
    let a = turned m in
    let vs : List Value = Int (pos me.0) ∷ [] in
    let f = enrolled h.class h.enrols.of.places vs h.cell in
    let made_one = made_stays kind.Future a.heap in
    let held = hold_all_stays (refs_in vs) (made kind.Future a.heap) in
    let enrols : Quiet a h.between =
    quiet_is a h.between (on_heap f a) h.enrols.made
    (on_heap_quiet f a (and_then a.heap (with_args vs a.heap) _ (and_then a.heap (made kind.Future a.heap) (with_args vs a.heap) made_one held)
    (started_stays h.class h.enrols.of.places _ (Some h.cell) (with_args vs a.heap)))) in
    let all = quiet_then m a h.between (turned_quiet m) enrols in
    let main : HeapTree → HeapTree = λ g. record (hold kind.Future h.cell.0 g) { main = Some h.cell } in
    let one = hold_stays kind.Future h.cell.0 h.between.heap in
    let holds : Quiet h.between (on_heap main h.between) =
    on_heap_quiet main h.between (record { rise = λ s. let z = one.rise s in record { cells = z.cells; streams = z.streams; actors = z.actors; frames = z.frames }; ports = one.ports }) in
    let held_main = quiet_then m h.between (on_heap main h.between) all holds in
    let runs = quiet_then m (on_heap main h.between) (doing (task.Run h.actor) (on_heap main h.between)) held_main (doing_quiet (task.Run h.actor) (on_heap main h.between)) in
    speaks_is m n _ h.starts.told (tells m _ _ runs.calm)

module _ {A W : Type 0} (serves : Host W) (shows : A → Numbered ℕ → W → Type 0) (wrote : A → List Line → A → Type 0) (code : Code) (processes : ℕ) (r : RawTree) (program : IsProgram r code)
    (steady : HostKeepsTime serves) where
  abbrev Goes : List Line → A → Proc Frame → W → Burst → Process → A → Type 0
  Goes ls a p w e n b = SimulatesBurst serves shows wrote code processes r ls a p w e n b

  -- one line before a burst
  after_line : (l : Line) (a b c : A) (p : Proc Frame) (w : W) (e : Burst) (n : Process) → wrote a (l ∷ []) b → Goes (l ∷ []) b p w e n c → Goes [] a p w e n c
  after_line l a b c p w e n said f = record {
    after = f.after;
    out = f.out;
    lines = (l ∷ []) ++ f.lines;
    bursts = f.bursts;
    written = and_more a b c (l ∷ []) f.lines (serving.told said) f.written;
    ends = f.ends;
  }

  module _ (now turns : ℕ) (me : ProcId) (m : Process) (p : Proc Frame) (w : W) (a : A) (rest : Resting r m p) (held : ProcessInvariant r (on_core (begin turns) p)) (no_main : p.core.main ≡ None)
      (kept : let q = boot (classes r) me.0 (on_core (begin turns) p) in UnlessStopped q.core.halted (ProcessInvariant r q)) (world : shows a p.core.ports w)
      (clock : program_time now ≡ pos now) (time : now ≡ (serves.supply w).now) (among : processes ≡ (serves.supply w).processes) where
    abbrev start : Process
    start = begun now turns m

    abbrev booted : Proc Frame
    booted = boot (classes r) me.0 (on_core (begin turns) p)

    follows : (n : Process) → MainCalled code me start n → memory.Matches r [] nothing_in_hand n booted
    follows n calls =
        main_boots r [] start (on_core (begin turns) p) nothing_in_hand code me n (event_begins r m p now turns rest.shown) rest.shown.asked no_main
        (main_is r code program (on_core (begin turns) p) held refl me.0) (may_start r code program (on_core (begin turns) p) held refl me.0) calls

    -- what the call and its service leave as it was
    module _ (n told : Process) (calls : MainCalled code me start n) (same : told ≡ unasked n) where
      still_sorted : Sorted told.heap
      still_sorted =
          subst (λ (z : Process). Sorted z.heap) (sym same)
          (sorted_stays start n (speaks_stay start n (main_speaks code me start n rest.shown.asked calls)) rest.sorted)

      still_poised : NoStaleWaits told.heap
      still_poised = subst (λ (z : Process). NoStaleWaits z.heap) (sym same) (main_keeps code me start n calls rest.poised)

      at_time : told.time ≡ now
      at_time = ap (λ (z : Process). z.time) same ∙ (main_speaks code me start n rest.shown.asked calls).calm.time

    world_after : shows a booted.core.ports w
    world_after = subst (λ ps. shows a ps w) (sym (boot_ports r ((classes r).fresh (classes r).main (IntValue (pos me.0) ∷ [])) (on_core (begin turns) p))) world

    -- no turn is left for the call: the event is spent
    waits_spent : (n told : Process) (b : A) → nat_lt 0 start.left ≡ false → n ≡ turned start → memory.Matches r [] nothing_in_hand n booted
        → ServedIf serves shows wrote processes n.asked (unasked n) a told b → AreSpent [] told booted × (told ≡ unasked n) × (b ≡ a)
    waits_spent n told b t is (memory.shows s) served = absurd (both_ways
        (ap (λ (z : Process). z.spent) is ∙ ap (λ x. (if x then record start { left = start.left - 1 } else record start { spent = true }).spent) t) s.unspent)
    waits_spent n told b t is (memory.ends s) served =
        let none : n.asked ≡ None = ap (λ (z : Process). z.asked) is ∙ turned_asked start ∙ rest.shown.asked in
        let quiet : (told ≡ unasked n) × (b ≡ a) = subst (λ o. ServedIf serves shows wrote processes o (unasked n) a told b) none served in
        let asked : told.asked ≡ None = ap (λ (z : Process). z.asked) quiet.0 in (
          record {
            spent = ap (λ (z : Process). z.spent) quiet.0 ∙ s.spent;
            halted = s.halted;
            lines = s.lines ∙ ap (λ o. [] ++ memory.told o) (none ∙ sym asked);
          },
          quiet.0,
          quiet.1,
        )

    waits_goes : (e : Burst) (n told k : Process) (b c : A) → MainCalled code me start n → nat_lt 0 start.left ≡ false → n ≡ turned start → memory.Matches r [] nothing_in_hand n booted
        → ServedIf serves shows wrote processes n.asked (unasked n) a told b → Bursts serves shows wrote code processes told b e k c → Goes [] a booted w e k c
    waits_goes e n told k b c calls t is follows_it served bursts =
        let x = waits_spent n told b t is follows_it served in
        subst (λ z. Goes [] z booted w e k c) x.2
        (event_follows serves shows wrote code processes r program steady now told k b c booted w e
        (record {
          follows = memory.ends x.0;
          sorted = still_sorted n told calls x.1;
          poised = still_poised n told calls x.1;
          asked = ap (λ (z : Process). z.asked) x.1;
          time = at_time n told calls x.1;
        })
        kept (record { shown = subst (λ z. shows z booted.core.ports w) (sym x.2) world_after; clock = clock; time = time; among = among }) bursts)

    -- a turn is left, and the line of the start is written: a burst begins
    line_abroad : (n told : Process) (b : A) (l : Line) → MainCalled code me start n → n.asked ≡ Some (call.Line l) → ProcessRepresents r [] nothing_in_hand n booted
        → Served serves shows wrote processes (call.Line l) (unasked n) a told b
        → wrote a (l ∷ []) b × (told ≡ unasked n) × RepresentsInWorld serves shows wrote code processes r (l ∷ []) told b booted w
    line_abroad n told b l calls asked s served =
        let x = line_written serves shows wrote r nothing_in_hand [] n told a b booted w processes l s asked world_after served in
        let at = at_time n told calls served.0 in (
          x.0,
          served.0,
          record {
            between = record {
              shown = x.1.shown;
              sorted = still_sorted n told calls served.0;
              kept = subst (λ h. UnlessStopped h (ProcessInvariant r booted)) x.1.shown.goes kept;
            };
            asked = x.1.served;
            world = x.1.world;
            time = at ∙ time;
            clock = subst (λ t. program_time t ≡ pos t) (sym at) clock;
            among = among;
            poised = still_poised n told calls served.0;
          },
        )

    started_unspent : (n : Process) → nat_lt 0 start.left ≡ true → MainStarts code me (turned start) n → n.spent ≡ true → ⊥
    started_unspent n t st spent =
        let one : n.spent ≡ st.between.spent = ap (λ (z : Process). z.spent) st.starts.told in
        let two : st.between.spent ≡ (turned start).spent = ap (λ (z : Process). z.spent) st.enrols.made in
        let unspent : (turned start).spent ≡ false = ap (λ x. (if x then record start { left = start.left - 1 } else record start { spent = true }).spent) t in
        both_ways spent (one ∙ two ∙ unspent)

    -- where it starts, the line of the start is asked for
    start_line : (n : Process) → (st : MainStarts code me (turned start) n) → n.asked ≡ Some (call.Line (line.Start st.actor st.starts.of.name))
    start_line n st = ap (λ (z : Process). z.asked) st.starts.told

    starts_goes : (e : Burst) (n told k : Process) (b c : A) → MainCalled code me start n → nat_lt 0 start.left ≡ true → MainStarts code me (turned start) n
        → memory.Matches r [] nothing_in_hand n booted
        → ServedIf serves shows wrote processes n.asked (unasked n) a told b → Bursts serves shows wrote code processes told b e k c → Goes [] a booted w e k c
    starts_goes e n told k b c calls t st (memory.shows s) served bursts =
        let l = line.Start st.actor st.starts.of.name in
        let x = line_abroad n told b l calls (start_line n st) s (subst (λ o. ServedIf serves shows wrote processes o (unasked n) a told b) (start_line n st) served) in
        after_line l a b c booted w e k x.0 (program_follows serves shows wrote code processes r program steady (l ∷ []) told k b c booted w e x.2 bursts)
    starts_goes e n told k b c calls t st (memory.ends s) served bursts = absurd (started_unspent n t st s.spent)

    pub boot_goes : (e : Burst) (k : Process) (c : A) → MainBursts serves shows wrote code processes me start a e k c → Goes [] a booted w e k c
    boot_goes e k c x = by_call x.calls
      where
        by_call : MainCalled code me start x.called → Goes [] a booted w e k c
        by_call (main_waits t is) = waits_goes e x.called x.told k x.between c x.calls t is (follows x.called x.calls) x.line x.bursts
        by_call (main_starts t st) = starts_goes e x.called x.told k x.between c x.calls t st (follows x.called x.calls) x.line x.bursts

    -- the lines of a boot are what the call tells
    pub main_lines : (n : Process) → MainCalled code me start n → booted.core.lines ≡ memory.told n.asked
    main_lines n calls = by_match (follows n calls)
      where
        by_match : memory.Matches r [] nothing_in_hand n booted → booted.core.lines ≡ memory.told n.asked
        by_match (memory.shows s) = s.lines
        by_match (memory.ends s) = s.lines

    -- after the call and its line a burst begins, or the event is spent
    abbrev pub MainBegins : Process → Process → A → Type 0
    MainBegins n told b =
        ((l : Line) × (told ≡ unasked n) × RepresentsInWorld serves shows wrote code processes r (l ∷ []) told b booted w × wrote a (l ∷ []) b)
        ⊎ (AreSpent [] told booted × (b ≡ a))

    pub main_begins : (n told : Process) (b : A) → MainCalled code me start n → ServedIf serves shows wrote processes n.asked (unasked n) a told b → MainBegins n told b
    main_begins n told b calls served = by_call calls (follows n calls)
      where
        by_call : MainCalled code me start n → memory.Matches r [] nothing_in_hand n booted → MainBegins n told b
        by_call (main_waits t is) f = let x = waits_spent n told b t is f served in inr (x.0, x.2)
        by_call (main_starts t st) (memory.shows s) =
            let l = line.Start st.actor st.starts.of.name in
            let x = line_abroad n told b l calls (start_line n st) s (subst (λ o. ServedIf serves shows wrote processes o (unasked n) a told b) (start_line n st) served) in
            inl (l, x.1, x.2, x.0)
        by_call (main_starts t st) (memory.ends s) = absurd (started_unspent n t st s.spent)
