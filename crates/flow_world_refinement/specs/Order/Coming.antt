-- What comes next in a world in memory is what comes next by the definitions.
use Rattle.std.specs.Prelude.{◌≡◌, ℕ, Bool, true, false, List, ◌∷◌, Result}
use Rattle.std.specs.declared.option.Option.{Option}
use Rattle.std.specs.declared.option.Option.TheVariants.{None, Some}
use Rattle.flow_base.specs.declared.fault.OutFault.{OutFault}
use Rattle.flow_trace.specs.declared.line.Line.{Line}
use Rattle.flow_trace.specs.declared.line.Line.TheVariants as line
use Rattle.flow_worldfile.specs.declared.world.At.{At}
use Rattle.flow_worldfile.specs.declared.directive.Order.{Order}
use Rattle.flow_worldfile.specs.Worlds.{order_of}
use Rattle.flow_timers.specs.Pending.{Pending}
use Rattle.flow_meaning.specs.Frame.{Frame}
use Rattle.flow_meaning.specs.Process.{Proc}
use Rattle.flow_meaning.specs.Outside as meaning
use Rattle.flow_meaning.specs.World as meaning_world
use Rattle.flow_steps.specs.declared.process.Process.{Process}
use Rattle.flow_world.specs.declared.event.Event.TheVariants as event
use Rattle.flow_world.specs.declared.outside.What.{What}
use Rattle.flow_world.specs.Ending.{Seen, next}
use Rattle.flow_world.specs.Happening.{EventDoes}
use Rattle.flow_world.specs.Representing.{EventRepresents}
use Rattle.flow_world_refinement.specs.Order.Showing.{ScriptRepresents, WorldRepresents}

-- the first line of a script, and the first pending event, with what is left of each
pub record LineNext (time : ℕ) (lines : List At) (t : ℕ) (o : Order) (left : List (ℕ × Order)) : Type 0 where
  pub line : At
  pub rest : List At
  pub are : lines ≡ line ∷ rest
  pub at : line.time ≡ time
  pub same : time ≡ t
  pub orders : order_of line.act ≡ o
  pub shows : ScriptRepresents rest left

pub record EventNext (w : Seen) (time : ℕ) (x : Pending meaning.What) : Type 0 where
  pub first : Pending What
  pub rest : List (Pending What)
  pub are : w.outside.timers.pending ≡ first ∷ rest
  pub at : first.time ≡ time
  pub shows : EventRepresents w.outside.net.on_way first x

-- what comes next, by both
abbrev pub NextMatches : Seen → Option (ℕ × Bool) → meaning_world.Next → meaning.Outside → Type 0
NextMatches w None meaning_world.Nothing o = Unit {0}
NextMatches w (Some (t, true)) (meaning_world.Script time order left) o = LineNext t w.script time order left
NextMatches w (Some (t, false)) (meaning_world.Event x left) o = EventNext w t x × (o.events.pending ≡ x ∷ left)
NextMatches w n m o = ⊥

module _ (Rests : Process → Proc Frame → Type 0) where
  -- where a world shows, the same comes next
  abbrev pub SameNext : Type 0
  SameNext = (w : Seen) (m : meaning_world.World Frame) → WorldRepresents Rests w m
      → NextMatches w (next w) (meaning_world.next_of m.out) m.out

module _ (Rests : Process → Proc Frame → Type 0) {A : Type 0} (puts : A → Line → Result (Unit {0}) OutFault → A → Type 0) where
  -- A run is idle, and comes to its bound, where the definitions say so; and where an event ran or was spent, they have one.
  abbrev pub SameEnd : Type 0
  SameEnd =
      (w v : Seen) (m : meaning_world.World Frame) (a b : A) → WorldRepresents Rests w m
      → (EventDoes puts event.Idle w a v b → meaning_world.ending m.out (meaning_world.next_of m.out) ≡ Some line.EndIdle)
      × (EventDoes puts event.BoundReached w a v b → meaning_world.ending m.out (meaning_world.next_of m.out) ≡ Some line.EndBound)
      × (EventDoes puts event.Ran w a v b → meaning_world.ending m.out (meaning_world.next_of m.out) ≡ None)
      × (EventDoes puts event.Spent w a v b → meaning_world.ending m.out (meaning_world.next_of m.out) ≡ None)
