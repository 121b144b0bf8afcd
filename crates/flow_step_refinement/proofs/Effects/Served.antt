-- A step that asks something of the world, and its service, are a step of the class machine in its world.
use Rattle.std.proofs.Common.{◌≡◌, ℕ, List, refl, sym, subst}
use Rattle.flow_class.specs.Classes.{RawTree}
use Rattle.flow_trace.specs.declared.line.Line.{Line}
use Rattle.flow_cancel.specs.Heap.{actor_id}
use Rattle.flow_numbered.specs.Numbered.{Numbered}
use Rattle.flow_meaning.specs.Requests as asks
use Rattle.flow_meaning.specs.Process.{Proc}
use Rattle.flow_meaning.specs.References.{Scan}
use Rattle.flow_meaning.specs.Burst.{Host}
use Rattle.flow_meaning.specs.React.{react}
use Rattle.flow_meaning.specs.Step.{reacted}
use Rattle.flow_meaning.specs.Frame.{Frame}
use Rattle.flow_heap_refinement.specs.Rested.{InNumbers}
use Rattle.flow_steps.specs.declared.call.Call.{Call}
use Rattle.flow_steps.specs.declared.call.Call.TheVariants as call
use Rattle.flow_steps.specs.declared.process.Process.{Process}
use Rattle.flow_steps.specs.Doing.{unasked}
use Rattle.flow_machine.specs.Serving.{Served, ServedIf}
use Rattle.flow_step_refinement.specs.Services.{Lives, Done}
use Rattle.flow_step_refinement.proofs.Services.{number_drawn, timer_set, disk_asked, port_heard, text_sent}
use Rattle.flow_step_refinement.specs.Effects.Asking.{Asks, draws, delays, listens, disks, sends, resumed}
use Rattle.flow_step_refinement.specs.Effects.Serving as law
use Rattle.flow_step_refinement.proofs.Effects.Fresh.{port_free}

module _ {A W : Type 0} (serves : Host W) (shows : A → Numbered ℕ → W → Type 0) (wrote : A → List Line → A → Type 0)
    (r : RawTree) (x : Scan) (ls : List Line) (n k : Process) (a b : A) (q : Proc Frame) (i : ℕ) (w : W) (processes : ℕ) where
  -- what the process makes of an act
  abbrev answer : asks.Act → Type 0
  answer act = Done serves shows wrote r x ls k a b (reacted q.actors (react (serves.supply w) i act q.core)) w

  abbrev is_served : Call → Type 0
  is_served c = Served serves shows wrote processes c (unasked n) a k b

  by_kind : (c : Call) (act : asks.Act) → Asks q (actor_id i) c act → Lives serves shows wrote r x ls (unasked n) a q w → InNumbers q.core → n.time ≡ (serves.supply w).now
      → processes ≡ (serves.supply w).processes → is_served c → answer act
  by_kind c act (draws g h lo hi same c_is act_is) l numbers time few served =
      subst answer (sym act_is) (number_drawn serves shows wrote r x ls (unasked n) k a b q w processes (actor_id i) g h lo hi l same (subst is_served c_is served))
  by_kind c act (delays g h ticks same c_is act_is) l numbers time few served =
      subst answer (sym act_is) (timer_set serves shows wrote r x ls (unasked n) k a b q w processes (actor_id i) g h ticks l numbers same time (subst is_served c_is served))
  by_kind c act (listens g h port same c_is act_is) l numbers time few served =
      subst answer (sym act_is) (port_heard serves shows wrote r x ls (unasked n) k a b q w processes (actor_id i) g h port l numbers same (port_free q.core numbers) (subst is_served c_is served))
  by_kind c act (disks g h d same c_is act_is) l numbers time few served =
      subst answer (sym act_is) (disk_asked serves shows wrote r x ls (unasked n) k a b q w processes (actor_id i) g h d l numbers same (subst is_served c_is served))
  by_kind c act (sends process port text c_is act_is) l numbers time few served =
      subst answer (sym act_is) (text_sent serves shows wrote r x ls (unasked n) k a b q w (actor_id i) process port text l
      (subst (λ z. Served serves shows wrote z (call.SendTo (actor_id i) process port text) (unasked n) a k b) few (subst is_served c_is served)))

module _ {A W : Type 0} (serves : Host W) (shows : A → Numbered ℕ → W → Type 0) (wrote : A → List Line → A → Type 0) where
  pub ask_served : law.AskServed serves shows wrote
  ask_served r x ls n k a b p i w processes ask numbers time few world served =
      let q : Proc Frame = resumed i ask.frame ask.left p in record {
        after = reacted q.actors (react (serves.supply w) i ask.act q.core);
        steps = ask.steps;
        done = by_kind serves shows wrote r x ls n k a b q i w processes ask.called ask.act ask.same (record { shown = ask.shown; served = refl; world = world })
            (record { ports = numbers.ports; cells = numbers.cells; requests = numbers.requests }) time few
            (subst (λ o. ServedIf serves shows wrote processes o (unasked n) a k b) ask.asked served);
      }
