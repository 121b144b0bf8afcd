-- What an event does is the same where what is written is seen as something else, if each line that is put is put there too.
use Rattle.std.proofs.Common.{ℕ, ap}
use Rattle.std.specs.Prelude.{Bool, true, false, List, [], ◌∷◌, Result, Ok}
use Rattle.std.specs.declared.option.Option.{Option}
use Rattle.std.specs.declared.option.Option.TheVariants.{None, Some}
use Rattle.flow_base.specs.declared.ids.CellId.{CellId}
use Rattle.flow_base.specs.declared.ids.ProcId.{ProcId}
use Rattle.flow_base.specs.declared.fault.OutFault.{OutFault}
use Rattle.flow_trace.specs.declared.line.Line.{Line}
use Rattle.flow_worldfile.specs.declared.world.Act.{Act}
use Rattle.flow_worldfile.specs.declared.world.Act.TheVariants as act
use Rattle.flow_worldfile.specs.declared.world.At.{At}
use Rattle.flow_code.specs.declared.program.Code.{Code}
use Rattle.flow_timers.specs.Pending.{Pending}
use Rattle.flow_simnet.specs.declared.packet.Packet.{Packet}
use Rattle.flow_simdisk.specs.declared.ask.DiskAsk.{DiskAsk}
use Rattle.flow_meaning.specs.Outside as meaning
use Rattle.flow_machine.specs.declared.host.Burst.{Burst}
use Rattle.flow_machine.specs.declared.host.Burst.TheVariants.{Rested, Spent as SpentBurst}
use Rattle.flow_world.specs.declared.action.EventAction.{EventAction}
use Rattle.flow_world.specs.declared.event.Event.{Event}
use Rattle.flow_world.specs.declared.event.Event.TheVariants.{Ran, Idle, BoundReached, Spent, Stopped}
use Rattle.flow_world.specs.declared.outside.What.{What}
use Rattle.flow_world.specs.declared.outside.What.TheVariants as what
use Rattle.flow_world.specs.declared.place.Place.{Place}
use Rattle.flow_world.specs.Around.{Inside, Puts, no_line, more_lines, shows, wrote}
use Rattle.flow_world.specs.Changes.{Surroundings}
use Rattle.flow_world.specs.Ending.{Seen}
use Rattle.flow_world.specs.Happening.{Acts, RunsUnless, Runs, Killed, Ordered, Taken, Arrived, Answered, Happened, LineComes, EventComes, Comes, Happens, EventDoes}
use Rattle.flow_world.proofs.MovedHosts.{does_by}

module _ {A B : Type 0} (f : A → B) (puts : A → Line → Result (Unit {0}) OutFault → A → Type 0) (puts_there : B → Line → Result (Unit {0}) OutFault → B → Type 0)
    (there : (a b : A) (l : Line) → puts a l (Ok tt) b → puts_there (f a) l (Ok tt) (f b)) where
  pub lines_by : (a b : A) (ls : List Line) → Puts puts a ls b → Puts puts_there (f a) ls (f b)
  lines_by a _ [] no_line = no_line
  lines_by a b (l ∷ ls) (more_lines {b = c} t rest) = more_lines (there a c l t) (lines_by c b ls rest)

  abbrev pub inside_by : Inside A → Inside B
  inside_by g = record { me = g.me; ports = g.ports; outside = g.outside; out = f g.out }

  acts_by : (code : Code) (turns : ℕ) (p : ProcId) (d : EventAction) (at : Place) (m : Surroundings) (a : A) (e : Burst) (left : Place) (n : Surroundings) (b : A)
      → Acts puts code turns p d at m a e left n b → Acts puts_there code turns p d at m (f a) e left n (f b)
  acts_by code turns p d at m a e left n b t = record {
    me = t.me;
    does = does_by inside_by meaning.host shows (wrote puts_there) (wrote puts) (λ g h ls w. lines_by g.out h.out ls w) code m.time turns d at.machine
        (record { me = p; ports = at.ports; outside = m; out = a }) e left.machine (record { me = t.me; ports = left.ports; outside = n; out = b }) t.does;
    up = t.up;
  }

  runs_unless_by : (held : Bool) (p : ProcId) (d : EventAction) (w : Seen) (a : A) (e : Burst) (v : Seen) (b : A)
      → RunsUnless puts held p d w a e v b → RunsUnless puts_there held p d w (f a) e v (f b)
  runs_unless_by true p d w a e v b t = (t.0, t.1, ap f t.2)
  runs_unless_by false p d w a e v b t =
      let acted = t.acted in
      record {
        at = t.at;
        there = t.there;
        acted = record {
          place = acted.place;
          outside = acted.outside;
          acts = acts_by w.code w.turns p d t.at w.outside a e acted.place acted.outside b acted.acts;
          left = acted.left;
        };
      }

  runs_by : (p : ProcId) (d : EventAction) (w : Seen) (a : A) (e : Burst) (v : Seen) (b : A) → Runs puts p d w a e v b → Runs puts_there p d w (f a) e v (f b)
  runs_by p d w a e v b t = record { held = t.held; known = t.known; runs = runs_unless_by t.held p d w a e v b t.runs }

  killed_by : (p : ProcId) (w : Seen) (a : A) (e : Burst) (v : Seen) (b : A) → Killed puts p w a e v b → Killed puts_there p w (f a) e v (f b)
  killed_by p w a e v b t = record {
    between = f t.between;
    fates = t.fates;
    lost = t.lost;
    left = t.left;
    told = there a t.between _ t.told;
    loses = t.loses;
    kept = lines_by t.between b _ t.kept;
    forgotten = t.forgotten;
    vanishes = t.vanishes;
    rests = t.rests;
  }

  ordered_by : (x : Act) (w : Seen) (a : A) (e : Burst) (v : Seen) (b : A) → Ordered puts x w a e v b → Ordered puts_there x w (f a) e v (f b)
  ordered_by (act.Boot p) w a e v b t = record { between = f t.between; told = there a t.between _ t.told; rest = runs_by p _ w t.between e v b t.rest }
  ordered_by (act.Stop p) w a e v b t = record { between = f t.between; told = there a t.between _ t.told; rest = runs_by p _ w t.between e v b t.rest }
  ordered_by (act.Kill p) w a e v b t = killed_by p w a e v b t
  ordered_by (act.Cut p q) w a e v b t = (there a b _ t.0, t.1, t.2)
  ordered_by (act.Heal p q) w a e v b t = (there a b _ t.0, t.1, t.2)
  ordered_by (act.DiskFail p n) w a e v b t = (there a b _ t.0, t.1, t.2)

  taken_by : (heard : Option CellId) (p : ProcId) (l : Packet) (w : Seen) (a : A) (e : Burst) (v : Seen) (b : A)
      → Taken puts heard p l w a e v b → Taken puts_there heard p l w (f a) e v (f b)
  taken_by None p l w a e v b t = (there a b _ t.0, t.1, t.2)
  taken_by (Some k) p l w a e v b t = (t.0, t.1, runs_by p _ w a e v b t.2)

  arrived_by : (p : ProcId) (n : ℕ) (w : Seen) (a : A) (e : Burst) (v : Seen) (b : A) → Arrived puts p n w a e v b → Arrived puts_there p n w (f a) e v (f b)
  arrived_by p n w a e v b t = record {
    between = f t.between;
    letter = t.letter;
    heard = t.heard;
    told = there a t.between _ t.told;
    on_way = t.on_way;
    hears = t.hears;
    taken = taken_by t.heard p _ _ t.between e v b t.taken;
  }

  answered_by : (p : ProcId) (k : CellId) (asked : DiskAsk) (w : Seen) (a : A) (e : Burst) (v : Seen) (b : A)
      → Answered puts p k asked w a e v b → Answered puts_there p k asked w (f a) e v (f b)
  answered_by p k asked w a e v b t = record {
    served = t.served;
    reply = t.reply;
    outcome = t.outcome;
    serves = t.serves;
    answer = t.answer;
    between = f t.between;
    told = there a t.between _ t.told;
    runs = runs_by p _ _ t.between e v b t.runs;
  }

  happened_by : (x : What) (w : Seen) (a : A) (e : Burst) (v : Seen) (b : A) → Happened puts x w a e v b → Happened puts_there x w (f a) e v (f b)
  happened_by (what.Boots p) w a e v b t = ordered_by (act.Boot p) w a e v b t
  happened_by (what.Rings p k) w a e v b t = record { between = f t.between; told = there a t.between _ t.told; rest = runs_by p _ w t.between e v b t.rest }
  happened_by (what.Arrives p n) w a e v b t = arrived_by p n w a e v b t
  happened_by (what.Answers p k asked) w a e v b t = answered_by p k asked w a e v b t

  line_by : (ls : List At) (w : Seen) (a : A) (e : Burst) (v : Seen) (b : A) → LineComes puts ls w a e v b → LineComes puts_there ls w (f a) e v (f b)
  line_by [] w a e v b t = absurd t
  line_by (l ∷ ls) w a e v b t = ordered_by l.act _ a e v b t

  event_by : (xs : List (Pending What)) (w : Seen) (a : A) (e : Burst) (v : Seen) (b : A) → EventComes puts xs w a e v b → EventComes puts_there xs w (f a) e v (f b)
  event_by [] w a e v b t = absurd t
  event_by (x ∷ xs) w a e v b t = happened_by x.what _ a e v b t

  pub comes_by : (scripted : Bool) (w : Seen) (a : A) (e : Burst) (v : Seen) (b : A) → Comes puts scripted w a e v b → Comes puts_there scripted w (f a) e v (f b)
  comes_by true w a e v b t = line_by w.script w a e v b t
  comes_by false w a e v b t = event_by w.outside.timers.pending w a e v b t

  pub happens_by : (w : Seen) (a : A) (e : Burst) (v : Seen) (b : A) → Happens puts w a e v b → Happens puts_there w (f a) e v (f b)
  happens_by w a e v b t = record {
    time = t.time;
    scripted = t.scripted;
    left = t.left;
    comes = t.comes;
    bound = t.bound;
    does = comes_by t.scripted _ a e t.left b t.does;
    after = t.after;
  }

  pub does_event_by : (e : Event) (w : Seen) (a : A) (v : Seen) (b : A) → EventDoes puts e w a v b → EventDoes puts_there e w (f a) v (f b)
  does_event_by Ran w a v b t = happens_by w a Rested v b t
  does_event_by Spent w a v b t = happens_by w a SpentBurst v b t
  does_event_by Idle w a v b t = (t.0, t.1, ap f t.2)
  does_event_by BoundReached w a v b t = (t.0, t.1, t.2, ap f t.3)
  does_event_by (Stopped k) w a v b t = t
