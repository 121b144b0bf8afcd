-- A run in memory puts what is shown of its classes, with frames and callbacks where they are asked for.
use Rattle.std.proofs.Common.{Bool, true, false, refl}
use Rattle.std.specs.Prelude.{Result}
use Rattle.flow_base.specs.declared.fault.OutFault.{OutFault}
use Rattle.flow_trace.specs.declared.line.Line.{Line}
use Rattle.flow_class.specs.Classes.{RawTree}
use Rattle.flow_class.specs.View.{raw_of}
use Rattle.flow_class.specs.declared.class.RawClasses.{RawClasses}
use Rattle.flow_code.specs.declared.program.Code.{Code}
use Rattle.flow_worldfile.specs.Worlds.{seen}
use Rattle.flow_worldfile.specs.declared.world.World0.{World0}
use Rattle.flow_meaning.specs.Frame.{Frame}
use Rattle.flow_meaning.specs.Process.{Proc}
use Rattle.flow_meaning.specs.World.{World}
use Rattle.flow_steps.specs.declared.process.Process.{Process}
use Rattle.flow_world_refinement.specs.Traces.Traced.{EventBegan, EventsFollow, SpentFollows, KeepsOn, BoundaryBegins, FramesShown}
use Rattle.flow_world_refinement.proofs.Traces.Whole.{trace_follows, beginning_follows}
use Rattle.flow_world_refinement.specs.Views.Waiting.{WorldWaits}
use Rattle.flow_world_refinement.specs.Views.FrameLines.{RestingRepresents, KeepsCount, FramesTraced, BeginningTraced}
use Rattle.flow_world_refinement.proofs.Views.Waiting.{start_waits, event_waits}
use Rattle.flow_world_refinement.proofs.Views.Worlds.{frames_follow}

module _ (Rests : Process → Proc Frame → Type 0) (Keeps : World Frame → Type 0) (IsCode : Code → Type 0) where
  -- besides, each frame that waits is in the state of its wait
  abbrev pub Waits : World Frame → Type 0
  Waits m = Keeps m × WorldWaits m

  module _ {A : Type 0} (puts : A → Line → Result (Unit {0}) OutFault → A → Type 0) (r : RawTree) where
    began : (m : World Frame) (a b : A) → EventBegan Rests Keeps IsCode puts r m a b → EventBegan Rests Waits IsCode puts r m a b
    began m a b e = record { begun = e.begun; left = e.left; begins = e.begins; follows = e.follows; lines = e.lines }

    pub events : EventsFollow Rests Keeps IsCode puts r → EventsFollow Rests Waits IsCode puts r
    unfolding began
    events law w v m a b code s k h =
        let e = law w v m a b code s k.0 h in
        record { event = began m a b e.event; rests = e.rests; shows = e.shows }

    spent : SpentFollows Rests Keeps IsCode puts r → SpentFollows Rests Waits IsCode puts r
    unfolding began
    spent law w v m a b code s k h = let e = law w v m a b code s k.0 h in record { event = began m a b e.event; spent = e.spent }

  pub keeps_on : (r : RawTree) → KeepsOn Rests Keeps IsCode r → KeepsOn Rests Waits IsCode r
  keeps_on r on m b l k begins follows rests = (on m b l k.0 begins follows rests, event_waits r m b l k.1 begins follows rests)

  waiting : (c : RawClasses) (file : World0) → BoundaryBegins Rests Keeps IsCode c file → BoundaryBegins Rests Waits IsCode c file
  waiting c file b = record { fresh = b.fresh; code = b.code; keeps = (b.keeps, start_waits (seen file)); keeps_on = keeps_on (raw_of c) b.keeps_on }

  pub frames : (with_frames : Bool) (r : RawTree) → RestingRepresents Rests Keeps IsCode r → KeepsCount Rests Keeps IsCode → FramesShown Rests Waits IsCode with_frames r
  frames true r shows count = frames_follow Rests Waits IsCode r shows (λ m k. count m k.0) (λ m k. k.1)
  frames false r shows count = λ w m text s k. refl

  pub frames_traced : {A : Type 0} (puts : A → Line → Result (Unit {0}) OutFault → A → Type 0) → FramesTraced Rests Keeps IsCode puts
  frames_traced puts with_frames c file a b e begins shows count event_law spent_law t =
      let r = raw_of c in
      trace_follows Rests Waits IsCode puts with_frames c file a b e (waiting c file begins) (frames with_frames r shows count)
      (events puts r event_law) (spent puts r spent_law) t

  pub beginning_traced : {A : Type 0} (puts : A → Line → Result (Unit {0}) OutFault → A → Type 0) → BeginningTraced Rests Keeps IsCode puts
  beginning_traced puts with_frames c file a b lines begins shows count event_law t shown =
      let r = raw_of c in
      beginning_follows Rests Waits IsCode puts with_frames c file a b lines (waiting c file begins) (frames with_frames r shows count)
      (events puts r event_law) t shown
