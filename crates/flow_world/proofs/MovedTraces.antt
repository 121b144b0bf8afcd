-- The trace of classes in a world is the same where what is written is seen as something else, if each line that is put is put
-- there too.
use Rattle.std.proofs.Common.{ℕ, ap}
use Rattle.std.specs.Prelude.{Bool, Result, Ok, Err}
use Rattle.std.specs.declared.option.Option.{Option}
use Rattle.std.specs.declared.option.Option.TheVariants.{None, Some}
use Rattle.flow_base.specs.declared.fault.OutFault.{OutFault}
use Rattle.flow_trace.specs.declared.line.Line.{Line}
use Rattle.flow_worldfile.specs.declared.world.World0.{World0}
use Rattle.flow_class.specs.declared.class.RawClasses.{RawClasses}
use Rattle.flow_world.specs.declared.event.Event.TheVariants.{Ran}
use Rattle.flow_world.specs.Ending.{Seen}
use Rattle.flow_world.specs.FaultedLines.{Telling, TellsAfter, tells}
use Rattle.flow_world.proofs.MovedEvents.{lines_by, comes_by, does_event_by}
use Rattle.flow_world.proofs.MovedBreaking.{moment_breaks_by}
use Rattle.flow_machine.specs.declared.host.RunFault.{RunFault}
use Rattle.flow_world.specs.declared.ending.Ending.{Ending}
use Rattle.flow_world.specs.Tracing.{RunsEvents, no_event, one_more, Traces, Begins, TracesPart, begun, all}
use Rattle.flow_world.specs.BreakingEvents.{MomentFails, breaks_off, went_on, EventFails}

-- where lines are told, seen as something else
module _ {A B : Type 0} (f : A → B) (puts : A → Line → Result (Unit {0}) OutFault → A → Type 0) (puts_there : B → Line → Result (Unit {0}) OutFault → B → Type 0)
    (there : (a b : A) (l : Line) (answer : Result (Unit {0}) OutFault) → puts a l answer b → puts_there (f a) l answer (f b)) where
  told_after : (before : Option OutFault) (a : A) (b : Telling A) (l : Line) → TellsAfter puts before a l b → TellsAfter puts_there before (f a) l (record { out = f b.out; fault = b.fault })
  told_after None a b l t = (t.0, there a b.out l t.0 t.1, t.2)
  told_after (Some fault) a b l t = (ap f t.0, t.1)

  pub told_by : (a b : Telling A) (l : Line) → tells puts a l (Ok tt) b
      → tells puts_there (record { out = f a.out; fault = a.fault }) l (Ok tt) (record { out = f b.out; fault = b.fault })
  told_by a b l t = told_after a.fault a.out b l t

abbrev pub seen_of : {A B : Type 0} → (A → B) → Telling A → Telling B
seen_of f t = record { out = f t.out; fault = t.fault }

module _ {A B : Type 0} (f : A → B) (puts : A → Line → Result (Unit {0}) OutFault → A → Type 0) (puts_there : B → Line → Result (Unit {0}) OutFault → B → Type 0)
    (there : (a b : A) (l : Line) → puts a l (Ok tt) b → puts_there (f a) l (Ok tt) (f b)) where
  pub goes_by : (frames : Bool) (w : Seen) (a : A) (v : Seen) (b : A) → RunsEvents puts frames w a v b → RunsEvents puts_there frames w (f a) v (f b)
  goes_by frames w a _ _ no_event = no_event
  goes_by frames w a v d (one_more {u = u} {b = b} {c = c} goes does puts_frames) =
      one_more (goes_by frames w a u b goes) (does_event_by f puts puts_there there Ran u b v c does) (lines_by f puts puts_there there c d _ puts_frames)

  -- the trace of classes in a world
  pub traces_by : (frames : Bool) (classes : RawClasses) (file : World0) (a : A) (e : Ending) (b : A)
      → Traces puts frames classes file a e b → Traces puts_there frames classes file (f a) e (f b)
  traces_by frames classes file a e b t =
      let goes = t.goes in
      record {
        first = t.first;
        left = t.left;
        headed = f t.headed;
        before = f t.before;
        starts = t.starts;
        head = there a t.headed _ t.head;
        goes = record {
          last = goes.last;
          before = f goes.before;
          goes = goes_by frames t.first t.headed goes.last goes.before goes.goes;
          ends = does_event_by f puts puts_there there _ goes.last goes.before t.left t.before goes.ends;
        };
        ended = there t.before b _ t.ended;
      }

  -- and a first part of it
  begins_by : (frames : Bool) (classes : RawClasses) (file : World0) (a b : A) → Begins puts frames classes file a b → Begins puts_there frames classes file (f a) (f b)
  begins_by frames classes file a b t = record {
    first = t.first;
    last = t.last;
    headed = f t.headed;
    starts = t.starts;
    head = there a t.headed _ t.head;
    goes = goes_by frames t.first t.headed t.last b t.goes;
  }

  pub part_by : (frames : Bool) (classes : RawClasses) (file : World0) (a b : A) → TracesPart puts frames classes file a b → TracesPart puts_there frames classes file (f a) (f b)
  part_by frames classes file a b (begun t) = begun (begins_by frames classes file a b t)
  part_by frames classes file a b (all {e = e} t) = all (traces_by frames classes file a e b t)

-- an event fails there, too
module _ {A B : Type 0} (f : A → B) (puts : A → Line → Result (Unit {0}) OutFault → A → Type 0) (puts_there : B → Line → Result (Unit {0}) OutFault → B → Type 0)
    (there : (a b : A) (l : Line) (answer : Result (Unit {0}) OutFault) → puts a l answer b → puts_there (f a) l answer (f b)) where
  told : (a b : Telling A) (l : Line) → tells puts a l (Ok tt) b → tells puts_there (seen_of f a) l (Ok tt) (seen_of f b)
  told a b l t = told_by f puts puts_there there a b l t

  pub told_any : (a b : Telling A) (l : Line) (answer : Result (Unit {0}) OutFault) → tells puts a l answer b → tells puts_there (seen_of f a) l answer (seen_of f b)
  told_any a b l (Ok tt) t = told a b l t
  told_any a b l (Err fault) t = absurd t

  moment_fails_by : (time : ℕ) (scripted : Bool) (w : Seen) (a : Telling A) (z : RunFault) (t : Telling A)
      → MomentFails puts time scripted w a z t → MomentFails puts_there time scripted w (seen_of f a) z (seen_of f t)
  moment_fails_by time scripted w a z t (breaks_off x) = breaks_off (moment_breaks_by (seen_of f) (tells puts) (tells puts_there) told_any time scripted w a z t x)
  moment_fails_by time scripted w a z t (went_on fault e v is failed x) = went_on fault e v is failed (comes_by (seen_of f) (tells puts) (tells puts_there) told scripted _ a e v t x)

  pub event_fails_by : (w : Seen) (a : Telling A) (z : RunFault) (t : Telling A) → EventFails puts w a z t → EventFails puts_there w (seen_of f a) z (seen_of f t)
  event_fails_by w a z t x = record { time = x.time; scripted = x.scripted; comes = x.comes; bound = x.bound; fails = moment_fails_by x.time x.scripted w a z t x.fails }
