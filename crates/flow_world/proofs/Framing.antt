-- A line that is put before others, and a frame of no class.
use Rattle.std.proofs.Common.{◌≡◌, ◌<◌, inl, inr, ℕ, zero, suc, List, [], ◌∷◌, length, sym, ap, ◌∙◌, arith}
use Rattle.std.specs.Prelude.{Result, Ok, Err, IfErr, IsErrOf, OnErr, true, slice_get, slice_index_or}
use Rattle.std.specs.declared.option.Option.TheVariants.{None}
use Rattle.flow_base.specs.declared.fault.OutFault.{OutFault}
use Rattle.flow_trace.specs.declared.line.Line.{Line}
use Rattle.flow_class.specs.declared.class.Class.{Class}
use Rattle.flow_steps.specs.declared.views.FrameView.{FrameView}
use Rattle.flow_world.specs.Around.{Puts, more_lines, PutsPart}
use Rattle.flow_world.specs.BreakingTraces.{SomeNoClass, FramesStuck, FramesFail}
use Rattle.flow_world.specs.Ending.{Seen}
use Rattle.flow_world.specs.FaultedLines.{Telling, tells}
use Rattle.flow_world.specs.Tracing.{world_lines}
use Rattle.flow_world.proofs.Putting.{part_all}
use Rattle.flow_machine.specs.Cause.{fault_of}
use Rattle.flow_machine.specs.declared.host.RunFault.{RunFault}
use Rattle.flow_machine.specs.declared.host.RunFault.TheVariants.{Stuck}
use Rattle.flow_base.specs.declared.fault.OutFault.TheVariants as put_fault

pub line_before : {A : Type 0} (puts : A → Line → Result (Unit {0}) OutFault → A → Type 0) (a b c : A) (l : Line) (ls : List Line) → puts a l (Ok tt) b
    → Puts puts b ls c → Puts puts a (l ∷ ls) c
line_before puts a b c l ls t rest = more_lines t rest

-- a frame of no class is one of some
pub some_no_class : (cs : List Class) (fs : List FrameView) (n : ℕ) (d : FrameView) → n < length fs → slice_get cs (slice_index_or fs n d).class ≡ None → SomeNoClass cs fs
some_no_class cs [] n d lt h = absurd (omega (arith, lt))
some_no_class cs (f ∷ fs) zero d lt h = inl h
some_no_class cs (f ∷ fs) (suc n) d lt h = inr (some_no_class cs fs n d (omega (arith, lt)) h)

-- frames that break off, or that went on to their end though a put failed
module _ {A : Type 0} (puts : A → Line → Result (Unit {0}) OutFault → A → Type 0) (w : Seen) (a t : Telling A) where
  pub frames_broke : {T : Type 0} (r : Result T RunFault) → OnErr r (PutsPart (tells puts) a (world_lines w) t) → (IsErrOf r Stuck → FramesStuck w) → IfErr r (λ f. FramesFail puts true w a f t)
  frames_broke (Ok x) part stuck = tt
  frames_broke (Err f) part stuck = record { part = part; stuck = λ e. stuck (ap Err e) }

  pub frames_told : (f : RunFault) (fault : OutFault) → f ≡ fault_of fault → Puts (tells puts) a (world_lines w) t → FramesFail puts true w a f t
  frames_told f fault is put = record { part = part_all (tells puts) a t (world_lines w) put; stuck = λ e. absurd (not_stuck fault (sym is ∙ e)) }
    where
      not_stuck : (x : OutFault) → fault_of x ≡ Stuck → ⊥
      not_stuck put_fault.Failed e = cc (e)
      not_stuck put_fault.OutOfMemory e = cc (e)
