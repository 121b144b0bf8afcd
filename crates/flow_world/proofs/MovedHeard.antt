-- The trace that a panel hears is the same where what is written is seen as something else, if each line that is put is put there
-- too.
use Rattle.std.proofs.Common.{Bool, ap}
use Rattle.std.specs.Prelude.{Result, Ok, Err}
use Rattle.flow_base.specs.declared.fault.OutFault.{OutFault}
use Rattle.flow_trace.specs.declared.line.Line.{Line}
use Rattle.flow_class.specs.declared.class.RawClasses.{RawClasses}
use Rattle.flow_machine.specs.declared.host.Burst.TheVariants.{Rested}
use Rattle.flow_machine.specs.declared.host.RunFault.{RunFault}
use Rattle.flow_worldfile.specs.declared.world.World0.{World0}
use Rattle.flow_world.specs.declared.run_ending.RunEnding.{RunEnding}
use Rattle.flow_world.specs.declared.run_ending.RunEnding.TheVariants.{Own, Stopped}
use Rattle.flow_world.specs.Ending.{Seen}
use Rattle.flow_world.specs.FaultedLines.{Telling, tells, whole, failed}
use Rattle.flow_world.specs.BreakingTraces.{EventsFail, event_fails, frames_fail, counted_out, TraceFails, no_memory, head_fails, events_fail, no_name, end_fails}
use Rattle.flow_world.specs.Tracing.{lines_if, last_answer}
use Rattle.flow_world.specs.Watching.{Hearing, hearing, hears}
use Rattle.flow_world.specs.WatchedTraces.{last_line, Quietly, HeardToEnd, HeardInPart, in_event, in_frames, HeardTrace, HeardTracePart, no_head, in_run, no_end}
use Rattle.flow_world.proofs.MovedEvents.{lines_by, happens_by, does_event_by}
use Rattle.flow_world.proofs.MovedBreaking.{lines_part_by}
use Rattle.flow_world.proofs.MovedTraces.{seen_of, told_by, told_any, goes_by, event_fails_by}

module _ {A B : Type 0} (f : A → B) (puts : A → Line → Result (Unit {0}) OutFault → A → Type 0) (puts_there : B → Line → Result (Unit {0}) OutFault → B → Type 0)
    (there : (a b : A) (l : Line) (answer : Result (Unit {0}) OutFault) → puts a l answer b → puts_there (f a) l answer (f b)) where
  abbrev pub heard_as : Hearing A → Hearing B
  heard_as h = hearing (f h.out) h.ears h.stop

  abbrev moved : Telling (Hearing A) → Telling (Hearing B)
  moved = seen_of heard_as

  hears_by : (a b : Hearing A) (l : Line) (answer : Result (Unit {0}) OutFault) → hears puts a l answer b → hears puts_there (heard_as a) l answer (heard_as b)
  hears_by a b l (Ok done) t = (there a.out b.out l (Ok done) t.0, t.1, t.2)
  hears_by a b l (Err fault) t = (there a.out b.out l (Err fault) t.0, t.1, t.2)

  told : (a b : Telling (Hearing A)) (l : Line) → tells (hears puts) a l (Ok tt) b → tells (hears puts_there) (moved a) l (Ok tt) (moved b)
  told = told_by heard_as (hears puts) (hears puts_there) hears_by

  module _ (frames : Bool) where
    quietly_by : (w : Seen) (a : Hearing A) (v : Seen) (b : Hearing A) → Quietly puts frames w a v b → Quietly puts_there frames w (heard_as a) v (heard_as b)
    quietly_by w a v b t = record { goes = goes_by moved (tells (hears puts)) (tells (hears puts_there)) told frames w (whole a) v (whole b) t.goes; quiet = t.quiet }

    to_end_by : (e : RunEnding) (w : Seen) (a b : Hearing A) → HeardToEnd puts frames e w a b → HeardToEnd puts_there frames e w (heard_as a) (heard_as b)
    to_end_by (Own e) w a b t = record {
      last = t.last;
      before = heard_as t.before;
      left = t.left;
      quietly = quietly_by w a t.last t.before t.quietly;
      ends = does_event_by moved (tells (hears puts)) (tells (hears puts_there)) told (last_answer e) t.last (whole t.before) t.left (whole b) t.ends;
    }
    to_end_by (Stopped k) w a b t = record {
      last = t.last;
      before = heard_as t.before;
      left = t.left;
      told = heard_as t.told;
      quietly = quietly_by w a t.last t.before t.quietly;
      happens = happens_by moved (tells (hears puts)) (tells (hears puts_there)) told t.last (whole t.before) Rested t.left (whole t.told) t.happens;
      stop = t.stop;
      frames = lines_by moved (tells (hears puts)) (tells (hears puts_there)) told (whole t.told) (whole b) (lines_if frames t.left) t.frames;
    }

    in_part_by : (w : Seen) (a b : Hearing A) → HeardInPart puts frames w a b → HeardInPart puts_there frames w (heard_as a) (heard_as b)
    in_part_by w a b (in_event {u = u} {c = c} quietly t) = in_event (quietly_by w a u c quietly) (record {
      burst = t.burst;
      left = t.left;
      happens = happens_by moved (tells (hears puts)) (tells (hears puts_there)) told u (whole c) t.burst t.left (failed b) t.happens;
      ended = t.ended;
    })
    in_part_by w a b (in_frames {u = u} {v = v} {c = c} {d = d} quietly happens views) =
        in_frames (quietly_by w a u c quietly) (happens_by moved (tells (hears puts)) (tells (hears puts_there)) told u (whole c) Rested v (whole d) happens)
        (lines_by moved (tells (hears puts)) (tells (hears puts_there)) told (whole d) (failed b) (lines_if frames v) views)

    pub heard_trace_by : (classes : RawClasses) (file : World0) (a : Hearing A) (e : RunEnding) (b : Telling (Hearing A)) → HeardTrace puts frames classes file a e b
        → HeardTrace puts_there frames classes file (heard_as a) e (moved b)
    heard_trace_by classes file a e b t = record {
      first = t.first;
      headed = heard_as t.headed;
      before = heard_as t.before;
      starts = t.starts;
      head = hears_by a t.headed _ (Ok tt) t.head;
      goes = to_end_by e t.first t.headed t.before t.goes;
      ended = told (whole t.before) b (last_line a.ears e) t.ended;
    }

    pub heard_part_by : (classes : RawClasses) (file : World0) (a b : Hearing A) → HeardTracePart puts frames classes file a b
        → HeardTracePart puts_there frames classes file (heard_as a) (heard_as b)
    heard_part_by classes file a b (no_head t) = no_head (told (whole a) (failed b) _ t)
    heard_part_by classes file a b (in_run {first = first} {headed = headed} starts head t) = in_run starts (hears_by a headed _ (Ok tt) head) (in_part_by first headed b t)
    heard_part_by classes file a b (no_end {e = e} t) = no_end {e = e} (heard_trace_by classes file a e (failed b) t)

    -- a run fails there, too
    events_fail_by : (w : Seen) (a : Hearing A) (z : RunFault) (t : Telling (Hearing A)) → EventsFail puts frames w a z t → EventsFail puts_there frames w (heard_as a) z (moved t)
    events_fail_by w a z t (event_fails {v = v} {b = b} quietly x) =
        event_fails (quietly_by w a v b quietly) (event_fails_by heard_as (hears puts) (hears puts_there) hears_by v (whole b) z t x)
    events_fail_by w a z t (frames_fail {u = u} {v = v} {b = b} {c = c} quietly happens x) =
        frames_fail (quietly_by w a u b quietly) (happens_by moved (tells (hears puts)) (tells (hears puts_there)) told u (whole b) Rested v (whole c) happens) (record {
          part = lines_part_by moved (tells (hears puts)) (tells (hears puts_there)) (told_any heard_as (hears puts) (hears puts_there) hears_by) (whole c) t (lines_if frames v) x.part;
          stuck = x.stuck;
        })
    events_fail_by w a z t (counted_out {v = v} {b = b} quietly is same) = counted_out (quietly_by w a v b quietly) is (ap moved same)

    pub trace_fails_by : (classes : RawClasses) (file : World0) (a : Hearing A) (z : RunFault) (t : Telling (Hearing A)) → TraceFails puts frames classes file a z t
        → TraceFails puts_there frames classes file (heard_as a) z (moved t)
    trace_fails_by classes file a z t (no_memory is same) = no_memory is (ap moved same)
    trace_fails_by classes file a z t (head_fails fault is failed x) = head_fails fault is failed (told (whole a) t _ x)
    trace_fails_by classes file a z t (events_fail first headed starts head x) =
        events_fail first (heard_as headed) starts (hears_by a headed _ (Ok tt) head) (events_fail_by first headed z t x)
    trace_fails_by classes file a z t (no_name e first headed before is same starts head goes) =
        no_name e first (heard_as headed) (heard_as before) is (ap moved same) starts (hears_by a headed _ (Ok tt) head) (to_end_by e first headed before goes)
    trace_fails_by classes file a z t (end_fails fault e is failed x) = end_fails fault e is failed (heard_trace_by classes file a e t x)
