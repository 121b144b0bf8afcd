-- The trace of classes in a world, by what each event does.
use Rattle.std.specs.Prelude.{ℕ, suc, Bool, true, false, List, [], ◌∷◌, ◌++◌, map, take, drop, nat_eq, slice_get, Result, Ok, if◌then◌else◌}
use Rattle.std.specs.List.{flat_map, range_with_len}
use Rattle.std.specs.declared.option.Option.{Option}
use Rattle.std.specs.declared.option.Option.TheVariants.{None, Some}
use Rattle.flow_base.specs.declared.ids.ActorId.{ActorId}
use Rattle.flow_base.specs.declared.ids.ProcId.{ProcId}
use Rattle.flow_base.specs.declared.fault.OutFault.{OutFault}
use Rattle.flow_trace.specs.declared.line.Line.{Line}
use Rattle.flow_trace.specs.declared.line.Line.TheVariants as line
use Rattle.flow_class.specs.declared.class.Class.{Class}
use Rattle.flow_class.specs.declared.class.RawClasses.{RawClasses}
use Rattle.flow_worldfile.specs.declared.world.World0.{World0}
use Rattle.flow_steps.specs.declared.views.FrameView.{FrameView}
use Rattle.flow_steps.specs.declared.views.CallbackView.{CallbackView}
use Rattle.flow_world.specs.declared.event.Event.{Event}
use Rattle.flow_world.specs.declared.event.Event.TheVariants as event
use Rattle.flow_world.specs.Around.{Puts}
use Rattle.flow_world.specs.Ending.{Seen}
use Rattle.flow_world.specs.Happening.{EventDoes}
use Rattle.flow_world.specs.Starting.{Starts}
use Rattle.flow_world.specs.Views.{frames_at, callbacks_at}
use Rattle.flow_world.specs.declared.ending.Ending.{Ending}
use Rattle.flow_world.specs.declared.ending.Ending.TheVariants.{Idle, Bound, Spent}
use Rattle.flow_world.specs.Ends.{end_line}

-- the name of a class; none, where there is no such class
abbrev pub name_of : Option Class → List ℕ
name_of None = []
name_of (Some c) = c.name

-- how many of the first callbacks are those of an actor
abbrev pub own_count : ActorId → List CallbackView → ℕ
own_count i [] = 0
own_count i (c ∷ cs) = if nat_eq c.actor.0 i.0 then suc (own_count i cs) else 0

abbrev pub frame_line : List Class → ProcId → FrameView → Line
frame_line cs p f = line.Frame p f.actor (name_of (slice_get cs f.class)) f.state

abbrev pub callback_line : ProcId → CallbackView → Line
callback_line p c = line.Callback p c.actor c.callback c.cell

-- a frame with its own of these callbacks, which are the first ones
abbrev pub own_lines : List Class → ProcId → FrameView → List CallbackView → List Line
own_lines cs p f held = frame_line cs p f ∷ map (callback_line p) (take (own_count f.actor held) held)

-- the frames of a process, each with its own of these callbacks, which stand in the order of their actors
abbrev pub frames_lines : List Class → ProcId → List FrameView → List CallbackView → List Line
frames_lines cs p [] held = []
frames_lines cs p (f ∷ fs) held = own_lines cs p f held ++ frames_lines cs p fs (drop (own_count f.actor held) held)

abbrev pub process_lines : Seen → ProcId → List Line
process_lines w p = frames_lines w.code.program.classes.items p (frames_at (slice_get w.places p.0)) (callbacks_at (slice_get w.places p.0))

-- the frames of all processes, by their numbers
abbrev pub world_lines : Seen → List Line
world_lines w = flat_map (λ n. process_lines w (record { 0 = n })) (range_with_len 0 w.outside.net.processes)

-- where they are asked for
abbrev pub lines_if : (with_frames : Bool) → Seen → List Line
lines_if true w = world_lines w
lines_if false w = []

-- the answer to a call for the next event that ends a run
abbrev pub last_answer : Ending → Event
last_answer Idle = event.Idle
last_answer Bound = event.BoundReached
last_answer Spent = event.Spent

module _ {A : Type 0} (puts : A → Line → Result (Unit {0}) OutFault → A → Type 0) (with_frames : Bool) where
  -- events run one after another, each followed by the frames where they are asked for
  pub data RunsEvents : Seen → A → Seen → A → Type 0 where
    no_event : {w : Seen} {a : A} → RunsEvents w a w a
    one_more : {w u v : Seen} {a b c d : A} → RunsEvents w a u b → EventDoes puts event.Ran u b v c → Puts puts c (lines_if with_frames v) d
        → RunsEvents w a v d

  -- they do so up to the end of the run
  pub record RunsToEnd (w : Seen) (a : A) (e : Ending) (v : Seen) (b : A) : Type 0 where
    pub last : Seen
    pub before : A
    pub goes : RunsEvents w a last before
    pub ends : EventDoes puts (last_answer e) last before v b

  -- the trace, from its first line to its last
  pub record Traces (classes : RawClasses) (file : World0) (a : A) (e : Ending) (b : A) : Type 0 where
    pub first : Seen
    pub left : Seen
    pub headed : A
    pub before : A
    pub starts : Starts classes file first
    pub head : puts a line.Head (Ok tt) headed
    pub goes : RunsToEnd first headed e left before
    pub ended : puts before (end_line e) (Ok tt) b

  -- some of these events, or all up to the end of the run
  pub data GoesPart (w : Seen) (a b : A) : Type 0 where
    some : {v : Seen} → RunsEvents w a v b → GoesPart w a b
    to_end : {e : Ending} {v : Seen} → RunsToEnd w a e v b → GoesPart w a b

  -- the trace has begun: its first line, and some of the events
  pub record Begins (classes : RawClasses) (file : World0) (a b : A) : Type 0 where
    pub first : Seen
    pub last : Seen
    pub headed : A
    pub starts : Starts classes file first
    pub head : puts a line.Head (Ok tt) headed
    pub goes : RunsEvents first headed last b

  -- A first part of the trace, or all of it.
  pub data TracesPart (classes : RawClasses) (file : World0) (a b : A) : Type 0 where
    begun : Begins classes file a b → TracesPart classes file a b
    all : {e : Ending} → Traces classes file a e b → TracesPart classes file a b
