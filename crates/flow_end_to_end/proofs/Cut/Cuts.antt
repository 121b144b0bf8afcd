-- From a run that a panel heard to what it leaves of what is shown.
use Rattle.std.proofs.Common.{◌≡◌, ℕ, Bool, true, false, List, [], ◌∷◌, ◌++◌, refl, sym, ap, ◌∙◌, subst, append_assoc}
use Rattle.std.specs.Prelude.{Result, Ok, Err, IsSome, nat_le, if◌then◌else◌}
use Rattle.std.specs.declared.option.Option.{Option}
use Rattle.std.specs.declared.option.Option.TheVariants.{None, Some}
use Rattle.flow_base.specs.declared.fault.OutFault.{OutFault}
use Rattle.flow_tree.specs.DeclView.{program_of}
use Rattle.flow_trace.specs.declared.line.Line.{Line}
use Rattle.flow_trace.specs.declared.line.Line.TheVariants as line
use Rattle.flow_monitor.specs.Ears.{Ears, name_at}
use Rattle.flow_monitor.specs.Cut.{is_boundary, Cut, cut_from}
use Rattle.flow_worldfile.specs.Worlds.{IsInRange, seen}
use Rattle.flow_worldfile.specs.declared.world.World0.{World0}
use Rattle.flow_class.specs.Classes.{RawTree}
use Rattle.flow_class.specs.View.{raw_of}
use Rattle.flow_class.specs.declared.class.RawClasses.{RawClasses}
use Rattle.flow_code.specs.declared.program.Code.{Code}
use Rattle.flow_machine.specs.declared.host.Burst.{Burst}
use Rattle.flow_machine.specs.declared.host.Burst.TheVariants.{Rested, Spent as SpentBurst}
use Rattle.flow_meaning.specs.Class.{classes}
use Rattle.flow_meaning.specs.Frame.{Frame}
use Rattle.flow_meaning.specs.Outside.{Outside}
use Rattle.flow_meaning.specs.Runs.{after, lines_of}
use Rattle.flow_meaning.specs.Views.{frame_spot}
use Rattle.flow_meaning.specs.World.{World, Next, Nothing, Script, Event, next_of, ending, at_start}
use Rattle.flow_lower.specs.Compiled.{compiled}
use Rattle.flow_invariants.specs.Unmarked.{AreWhole}
use Rattle.flow_burst_refinement.specs.Enabled.Tasking.{IsProgram}
use Rattle.flow_compile_laws.specs.Frames.Framed.{ClassShown, seen_if, Shows, ends, spent, event}
use Rattle.flow_compile_laws.proofs.Frames.Alike.{shown_of_classes}
use Rattle.flow_compile_laws.proofs.Traces.{are_carried}
use Rattle.flow_lowering_laws.proofs.Programs.Whole.{compiles_faithfully}
use Rattle.flow_determinism.proofs.Whole.{compiles_whole}
use Rattle.flow_class_text_laws.proofs.Compiled.{compiled_few}
use Rattle.flow_world.specs.declared.ending.Ending.TheVariants.{Idle, Bound, Spent}
use Rattle.flow_world.specs.declared.run_ending.RunEnding.{RunEnding}
use Rattle.flow_world.specs.declared.run_ending.RunEnding.TheVariants.{Own, Stopped}
use Rattle.flow_world.specs.Around.{Puts, more_lines, PutsPart, put_then}
use Rattle.flow_world.specs.Around.{no_more as no_part}
use Rattle.flow_world.specs.Ending.{Seen}
use Rattle.flow_world.specs.Starting.{Starts}
use Rattle.flow_world.specs.Ends.{LastIs}
use Rattle.flow_world.specs.FaultedLines.{Telling, tells, telling, whole, failed}
use Rattle.flow_world.specs.Happening.{Happens}
use Rattle.flow_machine.specs.declared.host.RunFault.{RunFault}
use Rattle.flow_machine.specs.declared.host.RunFault.TheVariants.{Stuck}
use Rattle.flow_world.specs.BreakingEvents.{EventFails}
use Rattle.flow_world.specs.BreakingTraces.{EventsFail, event_fails, frames_fail, counted_out, RestFails, in_events, unnamed, at_last, TraceFails, no_memory, head_fails, events_fail, no_name, end_fails}
use Rattle.flow_world.specs.Written.{put_bytes}
use Rattle.flow_world.proofs.Writing.{lines_in_part}
use Rattle.flow_meaning.proofs.InOrder.{no_thing}
use Rattle.flow_world.specs.Tracing.{lines_if, RunsEvents}
use Rattle.flow_world.specs.Watching.{Hearing, watching, hears}
use Rattle.flow_world.specs.WatchedTraces.{last_line, Quietly, StopsAfter, HeardToEnd, HeardInPart, in_event, in_frames, HeardTrace, HeardRestPart, in_rest, no_last, HeardTracePart, no_head, in_run, no_end}
use Rattle.flow_world.proofs.Putting.{puts_more, puts_one, part_more, part_all, puts_part}
use Rattle.flow_world.proofs.Telling.{no_more, whole_line}
use Rattle.flow_world.proofs.MovedEvents.{lines_by}
use Rattle.flow_world.proofs.MovedBreaking.{lines_part_by}
use Rattle.flow_world.proofs.MovedTraces.{seen_of, told_by, told_any}
use Rattle.flow_world.proofs.Watching.{frames_all}
use Rattle.flow_world_refinement.specs.Effects.Quiescence.{Quiescent}
use Rattle.flow_world_refinement.specs.Order.Showing.{WorldRepresents}
use Rattle.flow_world_refinement.specs.Traces.Traced.{KeepsOn, FramesShown}
use Rattle.flow_world_refinement.proofs.Events.Whole.{spent_happening}
use Rattle.flow_world_refinement.proofs.Order.Next.{same_end, goes_on as goes_on_now}
use Rattle.flow_world_refinement.proofs.Traces.Codes.{code_stays}
use Rattle.flow_world_refinement.proofs.Traces.Onwards.{goes_on}
use Rattle.flow_world_refinement.proofs.Traces.Whole.{Went, went}
use Rattle.flow_world_refinement.proofs.Views.Traced.{Waits, events, keeps_on, frames}
use Rattle.flow_end_to_end.specs.Cut.{ClassesCut, ClassesCutInPart, ProgramCut, ProgramCutInPart, ClassesFailInPart, ProgramFailsInPart, ClassesWrittenInPart, ProgramWrittenInPart}
use Rattle.flow_end_to_end.specs.Exact.{HaveFewPlaces}
use Rattle.flow_end_to_end.proofs.Cut.InnerLines.{AllInner}
use Rattle.flow_end_to_end.proofs.Cut.EventLines.{EventLines, event_lines, joined}
use Rattle.flow_end_to_end.proofs.Cut.Cutting.{all_put, closed_at, event_leaves, left_so_far, left_by_stop, left_by_spent}
use Rattle.flow_end_to_end.specs.Events.{MemoryWorldInvariant, NextInPart}
use Rattle.flow_end_to_end.proofs.Events.{not_stuck, memory_not_stuck, event_in_part}
use Rattle.flow_end_to_end.proofs.Sure.{frames_if_there, events_follow}
use Rattle.flow_end_to_end.proofs.Upheld.{upheld_stays}
use Rattle.flow_end_to_end.specs.Rests.{GoesOn, RestsCut, RestsCutInPart, RestsFailInPart}
use Rattle.flow_end_to_end.proofs.Going.{starts_going}
use Rattle.flow_end_to_end.proofs.Shown.{lines_shown, shown_by}

-- frames and callbacks stand within an event
views_inner : (with_frames : Bool) (w : Seen) → AllInner (lines_if with_frames w)
views_inner = frames_all (λ l. is_boundary l ≡ false) (λ p a class group. refl) (λ p a k c. refl)

-- where a run is over, and where the next event begins, a run that was stopped ends
module _ (r : RawTree) (with_frames : Bool) (k : ℕ) (ears : Ears) where
  abbrev Closed : List Line → Type 0
  Closed ls = cut_from (Some k) ears ls ≡ line.EndStop (name_at ears k) ∷ []

  abbrev ClosedIf : Option Line → Type 0
  ClosedIf None = Unit {0}
  ClosedIf (Some l) = Closed (l ∷ [])

  by_bound : (b : Bool) → ClosedIf (if b then Some line.EndBound else None)
  by_bound true = refl
  by_bound false = tt

  end_closed : (w : Outside) (n : Next) → ClosedIf (ending w n)
  end_closed w Nothing = refl
  end_closed w (Script t o left) = by_bound (nat_le w.file.events w.ran)
  end_closed w (Event p left) = by_bound (nat_le w.file.events w.ran)

  event_closed : (own rest : List Line) → EventLines own → Closed (own ++ rest)
  event_closed own rest e = subst (λ x. Closed (x ++ rest)) (sym e.is) (closed_at k ears e.first (e.more ++ rest) e.begins (e.closes (name_at ears k)))

  next_closed : (w : World Frame) (rest : List Line) → Shows (classes r) frame_spot with_frames w rest → Closed rest
  next_closed w _ (ends last g) = subst ClosedIf g (end_closed w.out (next_of w.out))
  next_closed w _ (spent b l g begins follows h) = event_closed (lines_of b l) (line.EndSpent ∷ []) (event_lines (classes r) w b l begins follows)
  next_closed w _ (event {lines = rest} b l g begins follows h more) =
      event_closed (lines_of b l) (seen_if (classes r) frame_spot with_frames (after w b l) ++ rest) (event_lines (classes r) w b l begins follows)

-- lines that were put so that a panel heard them were put where they go
heard_there : {A : Type 0} (puts : A → Line → Result (Unit {0}) OutFault → A → Type 0) (a b : Hearing A) (l : Line) (answer : Result (Unit {0}) OutFault)
    → hears puts a l answer b → puts a.out l answer b.out
heard_there puts a b l (Ok done) t = t.0
heard_there puts a b l (Err fault) t = t.0

plain : {A : Type 0} (puts : A → Line → Result (Unit {0}) OutFault → A → Type 0) (a b : Telling (Hearing A)) (ls : List Line) → Puts (tells (hears puts)) a ls b
    → Puts (tells puts) (record { out = a.out.out; fault = a.fault }) ls (record { out = b.out.out; fault = b.fault })
plain puts a b ls t =
    lines_by (seen_of (λ h. h.out)) (tells (hears puts)) (tells puts) (told_by (λ h. h.out) (hears puts) puts (heard_there puts)) a b ls t

plain_part : {A : Type 0} (puts : A → Line → Result (Unit {0}) OutFault → A → Type 0) (a b : Telling (Hearing A)) (ls : List Line) → PutsPart (tells (hears puts)) a ls b
    → PutsPart (tells puts) (telling a.out.out a.fault) ls (telling b.out.out b.fault)
plain_part puts a b ls t =
    lines_part_by (seen_of (λ h. h.out)) (tells (hears puts)) (tells puts) (told_any (λ h. h.out) (hears puts) puts (heard_there puts)) a b ls t

-- from where a world is
module _ {A : Type 0} (puts : A → Line → Result (Unit {0}) OutFault → A → Type 0) (r : RawTree) (with_frames : Bool) (ears : Ears) where
  abbrev P : Telling (Hearing A) → Line → Result (Unit {0}) OutFault → Telling (Hearing A) → Type 0
  P = tells (hears puts)

  abbrev Keeps : World Frame → Type 0
  Keeps = Waits (Quiescent r) (MemoryWorldInvariant r) (IsProgram r)

  abbrev Onwards : World Frame → List Line → Type 0
  Onwards = Shows (classes r) frame_spot with_frames

  -- what is left of all that is shown from a world on: lines that were put, and the last one
  pub record ToEnd (m : World Frame) (headed : Hearing A) (e : RunEnding) (b : Telling (Hearing A)) : Type 0 where
    pub lines : List Line
    pub front : List Line
    pub shown : Onwards m lines
    pub cut : Cut ears lines ≡ front ++ last_line ears e ∷ []
    pub put : Puts P (whole headed) front b

  -- what is left was put up to a line that failed
  pub record UpTo (m : World Frame) (headed : Hearing A) (b : Telling (Hearing A)) : Type 0 where
    pub lines : List Line
    pub shown : Onwards m lines
    pub put : Puts P (whole headed) (Cut ears lines) b

  -- a first part of what is left was told
  pub record FirstPart (m : World Frame) (headed : Hearing A) (t : Telling (Hearing A)) : Type 0 where
    pub lines : List Line
    pub shown : Onwards m lines
    pub part : PutsPart P (whole headed) (Cut ears lines) t

  module _ (m : World Frame) (first : Seen) (headed : Hearing A) (going : GoesOn r first m) (silent : headed.stop ≡ None) (same_ears : headed.ears ≡ ears) where
    -- something is shown of it
    pub whole_run : (lines : List Line) × Onwards m lines
    whole_run = shown_by (classes r) frame_spot with_frames m going.states going.lines going.runs

    abbrev Came : Seen → Telling (Hearing A) → Type 0
    Came v b = Went (Quiescent r) Keeps (IsProgram r) P r with_frames m (whole headed) v b

    frames_law : FramesShown (Quiescent r) Keeps (IsProgram r) with_frames r
    frames_law = frames (Quiescent r) (MemoryWorldInvariant r) (IsProgram r) with_frames r (λ q x s. (s.resting.shown.holds.shows, s.resting.sorted)) (λ m k. k.lasting.keeps.fits.count)

    kept_law : KeepsOn (Quiescent r) Keeps (IsProgram r) r
    kept_law = keeps_on (Quiescent r) (MemoryWorldInvariant r) (IsProgram r) r (upheld_stays r going.code.whole.valid)

    came : (v : Seen) (b : Telling (Hearing A)) → RunsEvents P with_frames first (whole headed) v b → Came v b
    came v b goes =
        went (Quiescent r) Keeps (IsProgram r) P r with_frames (events (Quiescent r) (MemoryWorldInvariant r) (IsProgram r) P r (events_follow P r)) kept_law frames_law first v
        m (whole headed) b going.code going.text going.shows (going.keeps, going.waits) goes

    put_by : (ls : List Line) (h b : Hearing A) → Puts P (whole h) ls (whole b) → Puts (hears puts) h ls b
    put_by ls h b t = all_put (hears puts) ls h b t

    -- an event that ran, with the frames after it, and what is shown from then on
    record Ran (u v : Seen) (x : World Frame) (before told : Telling (Hearing A)) : Type 0 where
      own : List Line
      next : World Frame
      put : Puts P before own told
      is_event : EventLines own
      shows : WorldRepresents (Quiescent r) v next
      kept : Keeps next
      text : raw_of v.code.program ≡ r
      on : (rest : List Line) → Onwards next rest → Onwards x (own ++ (lines_if with_frames v ++ rest))
      after_it : (all : List Line) → Onwards x all → (rest : List Line) × (all ≡ own ++ (lines_if with_frames v ++ rest)) × Onwards next rest

    ran : (u v : Seen) (h b d : Telling (Hearing A)) (x : Came u b) → Happens P u b Rested v d → Ran u v x.last b d
    ran u v h b d x happens =
        let ev = events_follow P r u v x.last b d x.code x.shows x.keeps.0 happens in
        let begun = ev.event.begun in
        let left = ev.event.left in
        let next = after x.last begun left in
        let ongoing = (same_end (Quiescent r) P u v x.last b d x.shows).2 happens in
        let text = ap (λ (z : Code). raw_of z.program) (code_stays P u v b d Rested happens) ∙ x.text in
        let kept = kept_law x.last begun left x.keeps ev.event.begins ev.event.follows ev.rests in
        let views : lines_if with_frames v ≡ seen_if (classes r) frame_spot with_frames next = frames_law v next text ev.shows kept in
        record {
          own = lines_of begun left;
          next = next;
          put = ev.event.lines;
          is_event = event_lines (classes r) x.last begun left ev.event.begins ev.event.follows;
          shows = ev.shows;
          kept = kept;
          text = text;
          on = λ rest shows.
              subst (λ vs. Onwards x.last (lines_of begun left ++ (vs ++ rest))) (sym views)
              (event begun left ongoing ev.event.begins ev.event.follows ev.rests shows);
          after_it = λ all shows.
              let z = goes_on (classes r) frame_spot with_frames x.last begun left all ongoing ev.event.begins ev.event.follows ev.rests shows in
              (z.0, z.1 ∙ ap (λ vs. lines_of begun left ++ (vs ++ z.0)) (sym views), z.2);
        }

    -- a run that a monitor stopped
    stopped : (k : ℕ) (b : Hearing A) → StopsAfter puts with_frames k first headed b → ToEnd m headed (Stopped k) (whole b)
    stopped k b t = by_rest (came t.last (whole t.before) t.quietly.goes)
      where
        vs : List Line
        vs = lines_if with_frames t.left

        by_parts : (x : Came t.last (whole t.before)) (e : Ran t.last t.left x.last (whole t.before) (whole t.told)) (rest : List Line)
            → whole_run.0 ≡ x.lines ++ (e.own ++ (vs ++ rest)) → Onwards e.next rest → ToEnd m headed (Stopped k) (whole b)
        by_parts x e rest is shows = record {
          lines = whole_run.0;
          front = x.lines ++ (e.own ++ vs);
          shown = whole_run.1;
          cut =
              ap (cut_from None ears) is
              ∙ left_by_stop puts ears k x.lines e.own vs rest headed t.before t.told b silent same_ears t.quietly.quiet t.stop e.is_event (views_inner with_frames t.left)
              (put_by x.lines headed t.before x.put) (put_by e.own t.before t.told e.put) (put_by vs t.told b t.frames) (λ others. next_closed r with_frames k others e.next rest shows);
          put =
              puts_more P (whole headed) (whole t.before) (whole b) x.lines (e.own ++ vs) x.put
              (puts_more P (whole t.before) (whole t.told) (whole b) e.own vs e.put t.frames);
        }

        by_event : (x : Came t.last (whole t.before)) → Ran t.last t.left x.last (whole t.before) (whole t.told) → (rest : List Line) → whole_run.0 ≡ x.lines ++ rest
            → Onwards x.last rest → ToEnd m headed (Stopped k) (whole b)
        by_event x e rest is shows =
            let z = e.after_it rest shows in
            by_parts x e z.0 (is ∙ ap (λ ls. x.lines ++ ls) z.1) z.2

        by_rest : Came t.last (whole t.before) → ToEnd m headed (Stopped k) (whole b)
        by_rest x =
            let y = x.onwards whole_run.0 whole_run.1 in
            by_event x (ran t.last t.left (whole headed) (whole t.before) (whole t.told) x t.happens) y.0 y.1 y.2

    -- a run that came to its own end
    quiet_end : (end : Line) (b : Hearing A) (u : Seen) (before : Hearing A) → Quietly puts with_frames first headed u before → (whole b ≡ whole before)
        → ((x : Ears) → cut_from None x (end ∷ []) ≡ end ∷ [])
        → ((w : World Frame) → WorldRepresents (Quiescent r) u w → ending w.out (next_of w.out) ≡ Some end) → (e : RunEnding) → last_line ears e ≡ end → ToEnd m headed e (whole b)
    quiet_end end b u before quietly same stays over e is = by_came (came u (whole before) quietly.goes)
      where
        by_came : Came u (whole before) → ToEnd m headed e (whole b)
        by_came x = record {
          lines = x.lines ++ end ∷ [];
          front = x.lines;
          shown = x.goes (end ∷ []) (ends end (over x.last x.shows));
          cut =
              left_so_far puts ears x.lines (end ∷ []) headed before silent same_ears quietly.quiet (put_by x.lines headed before x.put)
              ∙ ap (λ ls. x.lines ++ ls) (stays before.ears) ∙ ap (λ l. x.lines ++ l ∷ []) (sym is);
          put = subst (λ z. Puts P (whole headed) x.lines z) (sym same) x.put;
        }

    spent_lines : (u v : Seen) (b d : Telling (Hearing A)) (x : Came u b) → Happens P u b SpentBurst v d
        → (own : List Line) × EventLines own × Puts P b own d × Onwards x.last (own ++ line.EndSpent ∷ [])
    spent_lines u v b d x happens =
        let ev = spent_happening P r u v x.last b d x.code x.shows x.keeps.0.lasting happens in
        let begun = ev.event.begun in
        let left = ev.event.left in (
          lines_of begun left,
          event_lines (classes r) x.last begun left ev.event.begins ev.event.follows,
          ev.event.lines,
          spent begun left ((same_end (Quiescent r) P u v x.last b d x.shows).3 happens) ev.event.begins ev.event.follows ev.spent,
        )

    spent_end : (b : Hearing A) (u v : Seen) (before : Hearing A) → Quietly puts with_frames first headed u before → (x : Came u (whole before))
        → ((own : List Line) × EventLines own × Puts P (whole before) own (whole b) × Onwards x.last (own ++ line.EndSpent ∷ [])) → ToEnd m headed (Own Spent) (whole b)
    spent_end b u v before quietly x (own, is, put_own, shows) = record {
      lines = x.lines ++ (own ++ line.EndSpent ∷ []);
      front = x.lines ++ own;
      shown = x.goes (own ++ line.EndSpent ∷ []) shows;
      cut = left_by_spent puts ears x.lines own headed before b silent same_ears quietly.quiet is (put_by x.lines headed before x.put) (put_by own before b put_own);
      put = puts_more P (whole headed) (whole before) (whole b) x.lines own x.put put_own;
    }

    to_end : (e : RunEnding) (b : Hearing A) → HeardToEnd puts with_frames e first headed b → ToEnd m headed e (whole b)
    to_end (Stopped k) b t = stopped k b t
    to_end (Own Idle) b t =
        quiet_end line.EndIdle b t.last t.before t.quietly t.ends.2 (λ x. refl)
        (λ w s. (same_end (Quiescent r) P t.last t.left w (whole t.before) (whole b) s).0 t.ends) (Own Idle) refl
    to_end (Own Bound) b t =
        quiet_end line.EndBound b t.last t.before t.quietly t.ends.3 (λ x. refl)
        (λ w s. (same_end (Quiescent r) P t.last t.left w (whole t.before) (whole b) s).1 t.ends) (Own Bound) refl
    to_end (Own Spent) b t =
        let x = came t.last (whole t.before) t.quietly.goes in
        spent_end b t.last t.left t.before t.quietly x (spent_lines t.last t.left (whole t.before) (whole b) x t.ends)

    -- these lines stand within an event, and are left
    among : (u : Seen) (before : Hearing A) (own rest left : List Line) → Quietly puts with_frames first headed u before → (x : Came u (whole before))
        → cut_from None before.ears (own ++ rest) ≡ own ++ left → Cut ears (x.lines ++ (own ++ rest)) ≡ x.lines ++ (own ++ left)
    among u before own rest left quietly x same =
        left_so_far puts ears x.lines (own ++ rest) headed before silent same_ears quietly.quiet (put_by x.lines headed before x.put) ∙ ap (λ ls. x.lines ++ ls) same

    -- a line failed among these
    failed_among : (u : Seen) (before b : Hearing A) (own rest : List Line) → Quietly puts with_frames first headed u before → EventLines own
        → (x : Came u (whole before)) → Onwards x.last (own ++ rest) → Puts P (whole before) own (failed b) → UpTo m headed (failed b)
    failed_among u before b own rest quietly is x on t = by_left (event_leaves before.ears own rest is)
      where
        by_left : (left : List Line) × (cut_from None before.ears (own ++ rest) ≡ own ++ left) → UpTo m headed (failed b)
        by_left (left, same) = record {
          lines = x.lines ++ (own ++ rest);
          shown = x.goes (own ++ rest) on;
          put = subst (λ ls. Puts P (whole headed) ls (failed b)) (sym (among u before own rest left quietly x same))
              (puts_more P (whole headed) (whole before) (failed b) x.lines (own ++ left) x.put
              (puts_more P (whole before) (failed b) (failed b) own left t (no_more (hears puts) b left)));
        }

    -- a first part of them was told
    part_among : (u : Seen) (before : Hearing A) (own rest : List Line) (t : Telling (Hearing A)) → Quietly puts with_frames first headed u before → EventLines own
        → (x : Came u (whole before)) → Onwards x.last (own ++ rest) → PutsPart P (whole before) own t → FirstPart m headed t
    part_among u before own rest t quietly is x on part = by_left (event_leaves before.ears own rest is)
      where
        by_left : (left : List Line) × (cut_from None before.ears (own ++ rest) ≡ own ++ left) → FirstPart m headed t
        by_left (left, same) = record {
          lines = x.lines ++ (own ++ rest);
          shown = x.goes (own ++ rest) on;
          part = subst (λ ls. PutsPart P (whole headed) ls t) (sym (among u before own rest left quietly x same))
              (puts_part P (whole headed) (whole before) t x.lines (own ++ left) x.put (part_more P (whole before) t own left part));
        }

    -- all lines of the events that ran were told
    told_so_far : (u : Seen) (before : Hearing A) → Quietly puts with_frames first headed u before → Came u (whole before) → FirstPart m headed (whole before)
    told_so_far u before quietly x =
        let y = x.onwards whole_run.0 whole_run.1 in
        let cuts : Cut ears (x.lines ++ y.0) ≡ x.lines ++ cut_from None before.ears y.0 =
        left_so_far puts ears x.lines y.0 headed before silent same_ears quietly.quiet (put_by x.lines headed before x.put) in
        record {
          lines = x.lines ++ y.0;
          shown = x.goes y.0 y.2;
          part = subst (λ ls. PutsPart P (whole headed) ls (whole before)) (sym cuts)
              (puts_part P (whole headed) (whole before) (whole before) x.lines (cut_from None before.ears y.0) x.put no_part);
        }

    -- the event that failed is the next one that is shown
    next_part : (v : Seen) (b : Hearing A) (f : RunFault) (t : Telling (Hearing A)) → Quietly puts with_frames first headed v b → (x : Came v (whole b))
        → EventFails (hears puts) v (whole b) f t → NextInPart P r x.last (whole b) f t → (rest : List Line) → Onwards x.last rest → FirstPart m headed t
    next_part v b f t quietly x fails next _ (ends last z) =
        absurd (no_thing (sym (goes_on_now (Quiescent r) P v v x.last (whole b) (whole b) x.shows (subst IsSome (sym fails.comes) refl) fails.bound) ∙ z))
    next_part v b f t quietly x fails next _ (spent g l i j o q) =
        part_among v b (lines_of g l) (line.EndSpent ∷ []) t quietly (event_lines (classes r) x.last g l j o) x (spent g l i j o q) (next.1 g l j o)
    next_part v b f t quietly x fails next _ (event {lines = rest} g l i j o q more) =
        part_among v b (lines_of g l) (seen_if (classes r) frame_spot with_frames (after x.last g l) ++ rest) t quietly (event_lines (classes r) x.last g l j o) x
        (event g l i j o q more) (next.1 g l j o)

    pub events_part : (f : RunFault) (t : Telling (Hearing A)) → EventsFail puts with_frames first headed f t → (f ≡ Stuck → ⊥) × FirstPart m headed t
    events_part f t (event_fails {v = v} {b = b} quietly fails) =
        let x = came v (whole b) quietly.goes in
        let next = event_in_part (hears puts) r v x.last (whole b) f t x.code x.shows x.keeps.0 fails in
        let y = x.onwards whole_run.0 whole_run.1 in
        (next.0, next_part v b f t quietly x fails next y.0 y.2)
    events_part f t (frames_fail {u = u} {v = v} {b = before} {c = told} quietly happens fails) =
        let x = came u (whole before) quietly.goes in
        let e = ran u v (whole headed) (whole before) (whole told) x happens in
        let vs = lines_if with_frames v in
        let y = x.onwards whole_run.0 whole_run.1 in
        let z = e.after_it y.0 y.2 in (
          λ is. frames_if_there r going.code.whole with_frames v e.next e.text e.shows e.kept.0.lasting e.kept.1 (fails.stuck is),
          part_among u before (e.own ++ vs) z.0 t quietly (joined (classes r) e.own vs e.is_event (views_inner with_frames v)) x
              (subst (λ ls. Onwards x.last ls) (sym (append_assoc e.own vs z.0)) (e.on z.0 z.2)) (puts_part P (whole before) (whole told) t e.own vs e.put fails.part),
        )
    events_part f t (counted_out {v = v} {b = b} quietly is same) =
        (memory_not_stuck f is, subst (FirstPart m headed) (sym same) (told_so_far v b quietly (came v (whole b) quietly.goes)))

    pub in_part : (b : Hearing A) → HeardInPart puts with_frames first headed b → UpTo m headed (failed b)
    in_part b (in_event {u = u} {c = before} quietly t) = by_burst t.burst t.left t.happens
      where
        x : Came u (whole before)
        x = came u (whole before) quietly.goes

        by_burst : (burst : Burst) (left : Seen) → Happens P u (whole before) burst left (failed b) → UpTo m headed (failed b)
        by_burst Rested left happens =
            let e = ran u left (whole headed) (whole before) (failed b) x happens in
            let y = x.onwards whole_run.0 whole_run.1 in
            let z = e.after_it y.0 y.2 in
            failed_among u before b e.own (lines_if with_frames left ++ z.0) quietly e.is_event x (e.on z.0 z.2) e.put
        by_burst SpentBurst left happens =
            let own = spent_lines u left (whole before) (failed b) x happens in
            failed_among u before b own.0 (line.EndSpent ∷ []) quietly own.1 x own.3 own.2
    in_part b (in_frames {u = u} {v = v} {c = before} {d = told} quietly happens views) =
        let x = came u (whole before) quietly.goes in
        let e = ran u v (whole headed) (whole before) (whole told) x happens in
        let vs = lines_if with_frames v in
        let y = x.onwards whole_run.0 whole_run.1 in
        let z = e.after_it y.0 y.2 in
        failed_among u before b (e.own ++ vs) z.0 quietly (joined (classes r) e.own vs e.is_event (views_inner with_frames v)) x
        (subst (λ ls. Onwards x.last ls) (sym (append_assoc e.own vs z.0)) (e.on z.0 z.2))
        (puts_more P (whole before) (whole told) (failed b) e.own vs e.put views)

    -- all of it, with its last line, whole or up to there
    with_last : (e : RunEnding) (before : Hearing A) (b : Telling (Hearing A)) → ToEnd m headed e (whole before) → P (whole before) (last_line ears e) (Ok tt) b → UpTo m headed b
    with_last e before b t last = record {
      lines = t.lines;
      shown = t.shown;
      put = subst (λ ls. Puts P (whole headed) ls b) (sym t.cut)
          (puts_more P (whole headed) (whole before) b t.front (last_line ears e ∷ []) t.put (puts_one P (whole before) b (last_line ears e) last));
    }

    -- what is put from there
    pub rest_cut : (e : RunEnding) (before : Hearing A) (b : Telling (Hearing A)) → HeardToEnd puts with_frames e first headed before
        → P (whole before) (last_line ears e) (Ok tt) b → (up : UpTo m headed b) × LastIs (last_line ears e) (Cut ears up.lines)
    unfolding with_last
    rest_cut e before b goes last = let over = to_end e before goes in (with_last e before b over last, (over.front, over.cut))

    -- where it fails before its last line, since there is no memory for the name of who stopped it
    pub rest_unnamed : (e : RunEnding) (before : Hearing A) → HeardToEnd puts with_frames e first headed before → FirstPart m headed (whole before)
    rest_unnamed e before goes =
        let over = to_end e before goes in
        let all = part_all P (whole headed) (whole before) over.front over.put in
        record {
          lines = over.lines;
          shown = over.shown;
          part = subst (λ ls. PutsPart P (whole headed) ls (whole before)) (sym over.cut) (part_more P (whole headed) (whole before) over.front (last_line ears e ∷ []) all);
        }

-- and from the start of a run
module _ {A : Type 0} (puts : A → Line → Result (Unit {0}) OutFault → A → Type 0) (c : RawClasses) (file : World0) (with_frames : Bool) (a : A) (ears : Ears)
    (fine : AreWhole (raw_of c)) (few : HaveFewPlaces (raw_of c)) (range : IsInRange (seen file)) where
  abbrev Told : Telling (Hearing A) → Line → Result (Unit {0}) OutFault → Telling (Hearing A) → Type 0
  Told = tells (hears puts)

  -- what is shown was put up to a line that failed, and a first part of it was told
  pub record TraceUpTo (b : Telling (Hearing A)) : Type 0 where
    pub lines : List Line
    pub shown : ClassShown with_frames (raw_of c) (seen file) lines
    pub put : Puts Told (whole (watching a ears)) (Cut ears lines) b

  pub record TracePart (t : Telling (Hearing A)) : Type 0 where
    pub lines : List Line
    pub shown : ClassShown with_frames (raw_of c) (seen file) lines
    pub part : PutsPart Told (whole (watching a ears)) (Cut ears lines) t

  abbrev First : World Frame
  First = at_start (seen file)

  all_shown : (lines : List Line) × Shows (classes (raw_of c)) frame_spot with_frames First lines
  all_shown = lines_shown c file with_frames fine range

  module _ (first : Seen) (headed : Hearing A) (starts : Starts c file first) (head : hears puts (watching a ears) line.Head (Ok tt) headed) where
    going : GoesOn (raw_of c) first First
    going = starts_going c file fine few range first starts

    head_put : Told (whole (watching a ears)) line.Head (Ok tt) (whole headed)
    head_put = whole_line (hears puts) (watching a ears) headed line.Head head

    with_head : (b : Telling (Hearing A)) → UpTo puts (raw_of c) with_frames ears First headed b → TraceUpTo b
    with_head b up = record {
      lines = line.Head ∷ up.lines;
      shown = record { rest = up.lines; shows = up.shown; with_head = refl };
      put = more_lines head_put up.put;
    }

    part_with_head : (t : Telling (Hearing A)) → FirstPart puts (raw_of c) with_frames ears First headed t → TracePart t
    part_with_head t x = record {
      lines = line.Head ∷ x.lines;
      shown = record { rest = x.lines; shows = x.shown; with_head = refl };
      part = put_then head_put x.part;
    }

    in_trace : (b : Hearing A) → HeardInPart puts with_frames first headed b → TraceUpTo (failed b)
    in_trace b t = with_head (failed b) (in_part puts (raw_of c) with_frames ears First first headed going head.2 head.1 b t)

    trace_rest : (e : RunEnding) (before : Hearing A) (b : Telling (Hearing A)) → HeardToEnd puts with_frames e first headed before
        → Told (whole before) (last_line ears e) (Ok tt) b → (up : TraceUpTo b) × LastIs (last_line ears e) (Cut ears up.lines)
    unfolding with_head
    trace_rest e before b goes last =
        let x = rest_cut puts (raw_of c) with_frames ears First first headed going head.2 head.1 e before b goes last in
        (with_head b x.0, (line.Head ∷ x.1.0, ap (λ ls. line.Head ∷ ls) x.1.1))

    trace_events : (f : RunFault) (t : Telling (Hearing A)) → EventsFail puts with_frames first headed f t → (f ≡ Stuck → ⊥) × TracePart t
    trace_events f t x =
        let part = events_part puts (raw_of c) with_frames ears First first headed going head.2 head.1 f t x in
        (part.0, part_with_head t part.1)

    trace_unnamed : (e : RunEnding) (before : Hearing A) → HeardToEnd puts with_frames e first headed before → TracePart (whole before)
    trace_unnamed e before goes = part_with_head (whole before) (rest_unnamed puts (raw_of c) with_frames ears First first headed going head.2 head.1 e before goes)

  pub trace_cut : (e : RunEnding) (b : Telling (Hearing A)) → HeardTrace puts with_frames c file (watching a ears) e b
      → (up : TraceUpTo b) × LastIs (last_line ears e) (Cut ears up.lines)
  trace_cut e b t = trace_rest t.first t.headed t.starts t.head e t.before b t.goes t.ended

  pub trace_part : (f : RunFault) (t : Telling (Hearing A)) → TraceFails puts with_frames c file (watching a ears) f t → (f ≡ Stuck → ⊥) × TracePart t
  trace_part f t (no_memory is same) = (
    memory_not_stuck f is,
    record {
      lines = line.Head ∷ all_shown.0;
      shown = record { rest = all_shown.0; shows = all_shown.1; with_head = refl };
      part = subst (PutsPart Told (whole (watching a ears)) (Cut ears (line.Head ∷ all_shown.0))) (sym same) no_part;
    },
  )
  trace_part f t (head_fails fault is failed x) = (
    λ stuck. not_stuck fault (sym is ∙ stuck),
    record { lines = line.Head ∷ all_shown.0; shown = record { rest = all_shown.0; shows = all_shown.1; with_head = refl }; part = put_then x no_part },
  )
  trace_part f t (events_fail first headed starts head x) = trace_events first headed starts head f t x
  trace_part f t (no_name e first headed before is same starts head goes) =
      (memory_not_stuck f is, subst TracePart (sym same) (trace_unnamed first headed starts head e before goes))
  trace_part f t (end_fails fault e is failed x) =
      let up = (trace_cut e t x).0 in (
        λ stuck. not_stuck fault (sym is ∙ stuck),
        record { lines = up.lines; shown = up.shown; part = part_all Told (whole (watching a ears)) t (Cut ears up.lines) up.put },
      )

module _ {A : Type 0} (puts : A → Line → Result (Unit {0}) OutFault → A → Type 0) where
  part_cut : (c : RawClasses) (file : World0) (with_frames : Bool) (a : A) (ears : Ears) (fine : AreWhole (raw_of c)) (few : HaveFewPlaces (raw_of c)) (range : IsInRange (seen file))
      (b : Hearing A) → HeardTracePart puts with_frames c file (watching a ears) b → TraceUpTo puts c file with_frames a ears fine few range (failed b)
  part_cut c file with_frames a ears fine few range b (no_head t) =
      let shown = all_shown puts c file with_frames a ears fine few range in
      record {
        lines = line.Head ∷ shown.0;
        shown = record { rest = shown.0; shows = shown.1; with_head = refl };
        put = more_lines t (no_more (hears puts) b (cut_from None ears shown.0));
      }
  part_cut c file with_frames a ears fine few range b (in_run {first = first} {headed = headed} starts head t) =
      in_trace puts c file with_frames a ears fine few range first headed starts head b t
  part_cut c file with_frames a ears fine few range b (no_end {e = e} t) = (trace_cut puts c file with_frames a ears fine few range e (failed b) t).0

  pub classes_cut : ClassesCut puts
  classes_cut c file with_frames a ears e b fine few range t =
      let over = trace_cut puts c file with_frames a ears fine few range e (whole b) t in
      (over.0.lines, over.0.shown, plain puts (whole (watching a ears)) (whole b) (Cut ears over.0.lines) over.0.put, over.1)

  pub classes_cut_in_part : ClassesCutInPart puts
  classes_cut_in_part c file with_frames a ears b fine few range t =
      let part = part_cut c file with_frames a ears fine few range b t in
      (part.lines, part.shown, plain puts (whole (watching a ears)) (failed b) (Cut ears part.lines) part.put)

  pub program_cut : ProgramCut puts
  program_cut text program c file with_frames a ears e b sound light has range t =
      let fine = subst AreWhole (sym has) (compiles_whole text program sound) in
      let few = subst HaveFewPlaces (sym has) (compiled_few text program sound light) in
      let over = classes_cut c file with_frames a ears e b fine few range t in
      let by_text = shown_of_classes (program_of program) (compiled (program_of program)) (are_carried program (compiles_faithfully text program sound.typed)) with_frames (seen file) over.0
      (subst (λ (r : RawTree). ClassShown with_frames r (seen file) over.0) has over.1) in
      (over.0, by_text, over.2, over.3)

  pub program_cut_in_part : ProgramCutInPart puts
  program_cut_in_part text program c file with_frames a ears b sound light has range t =
      let fine = subst AreWhole (sym has) (compiles_whole text program sound) in
      let few = subst HaveFewPlaces (sym has) (compiled_few text program sound light) in
      let part = classes_cut_in_part c file with_frames a ears b fine few range t in
      let by_text = shown_of_classes (program_of program) (compiled (program_of program)) (are_carried program (compiles_faithfully text program sound.typed)) with_frames (seen file) part.0
      (subst (λ (r : RawTree). ClassShown with_frames r (seen file) part.0) has part.1) in
      (part.0, by_text, part.2)

  pub classes_fail : ClassesFailInPart puts
  classes_fail c file with_frames a ears f b fault fine few range t =
      let x = trace_part puts c file with_frames a ears fine few range f (telling b fault) t in
      (x.0, (x.1.lines, x.1.shown, plain_part puts (whole (watching a ears)) (telling b fault) (Cut ears x.1.lines) x.1.part))

  pub program_fails : ProgramFailsInPart puts
  program_fails text program c file with_frames a ears f b fault sound light has range t =
      let fine = subst AreWhole (sym has) (compiles_whole text program sound) in
      let few = subst HaveFewPlaces (sym has) (compiled_few text program sound light) in
      let x = classes_fail c file with_frames a ears f b fault fine few range t in
      let lines = x.1.0 in
      let by_text = shown_of_classes (program_of program) (compiled (program_of program)) (are_carried program (compiles_faithfully text program sound.typed)) with_frames (seen file) lines
      (subst (λ (r : RawTree). ClassShown with_frames r (seen file) lines) has x.1.1) in
      (x.0, (lines, by_text, x.1.2))

-- of lines that are written their bytes are
pub classes_written : ClassesWrittenInPart
classes_written c file with_frames a ears f b fault fine few range t =
    let x = classes_fail put_bytes c file with_frames a ears f b fault fine few range t in
    (x.0, (x.1.0, x.1.1, lines_in_part a (telling b.out fault) (Cut ears x.1.0) x.1.2))

pub program_written : ProgramWrittenInPart
program_written text program c file with_frames a ears f b fault sound light has range t =
    let x = program_fails put_bytes text program c file with_frames a ears f b fault sound light has range t in
    (x.0, (x.1.0, x.1.1, lines_in_part a (telling b.out fault) (Cut ears x.1.0) x.1.2))

-- what is put of a world from where it is
module _ {A : Type 0} (puts : A → Line → Result (Unit {0}) OutFault → A → Type 0) where
  pub rests_cut : RestsCut puts
  rests_cut r v m with_frames a ears e b going t =
      let over = rest_cut puts r with_frames ears m v (watching a ears) going refl refl e t.before (whole b) t.goes t.ended in
      (over.0.lines, over.0.shown, plain puts (whole (watching a ears)) (whole b) (Cut ears over.0.lines) over.0.put, over.1)

  rest_in_part : (r : RawTree) (v : Seen) (m : World Frame) (with_frames : Bool) (a : A) (ears : Ears) (b : Hearing A) → GoesOn r v m
      → HeardRestPart puts with_frames v (watching a ears) b → UpTo puts r with_frames ears m (watching a ears) (failed b)
  rest_in_part r v m with_frames a ears b going (in_rest t) = in_part puts r with_frames ears m v (watching a ears) going refl refl b t
  rest_in_part r v m with_frames a ears b going (no_last {e = e} t) =
      (rest_cut puts r with_frames ears m v (watching a ears) going refl refl e t.before (failed b) t.goes t.ended).0

  pub rests_cut_in_part : RestsCutInPart puts
  rests_cut_in_part r v m with_frames a ears b going t =
      let part = rest_in_part r v m with_frames a ears b going t in
      (part.lines, part.shown, plain puts (whole (watching a ears)) (failed b) (Cut ears part.lines) part.put)

  rest_fails : (r : RawTree) (v : Seen) (m : World Frame) (with_frames : Bool) (a : A) (ears : Ears) (f : RunFault) (t : Telling (Hearing A)) → GoesOn r v m
      → RestFails puts with_frames v (watching a ears) f t → (f ≡ Stuck → ⊥) × FirstPart puts r with_frames ears m (watching a ears) t
  rest_fails r v m with_frames a ears f t going (in_events x) = events_part puts r with_frames ears m v (watching a ears) going refl refl f t x
  rest_fails r v m with_frames a ears f t going (unnamed e before is same goes) = (
    memory_not_stuck f is,
    subst (FirstPart puts r with_frames ears m (watching a ears)) (sym same) (rest_unnamed puts r with_frames ears m v (watching a ears) going refl refl e before goes),
  )
  rest_fails r v m with_frames a ears f t going (at_last fault e is failed x) =
      let up = (rest_cut puts r with_frames ears m v (watching a ears) going refl refl e x.before t x.goes x.ended).0 in (
        λ stuck. not_stuck fault (sym is ∙ stuck),
        record { lines = up.lines; shown = up.shown; part = part_all (tells (hears puts)) (whole (watching a ears)) t (Cut ears up.lines) up.put },
      )

  pub rests_fail : RestsFailInPart puts
  rests_fail r v m with_frames a ears f b fault going t =
      let x = rest_fails r v m with_frames a ears f (telling b fault) going t in
      (x.0, (x.1.lines, x.1.shown, plain_part puts (whole (watching a ears)) (telling b fault) (Cut ears x.1.lines) x.1.part))
