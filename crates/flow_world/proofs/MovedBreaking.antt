-- An event breaks off, too, where what is written is seen as something else, if each put means the same there.
use Rattle.std.proofs.Common.{inl, inr, ℕ, ap}
use Rattle.std.specs.Prelude.{Bool, true, false, List, [], ◌∷◌, Result, Ok, Err}
use Rattle.std.specs.declared.option.Option.{Option}
use Rattle.std.specs.declared.option.Option.TheVariants.{None, Some}
use Rattle.flow_base.specs.declared.ids.CellId.{CellId}
use Rattle.flow_base.specs.declared.ids.ProcId.{ProcId}
use Rattle.flow_base.specs.declared.fault.OutFault.{OutFault}
use Rattle.flow_trace.specs.declared.line.Line.{Line}
use Rattle.flow_worldfile.specs.declared.world.Act.{Act}
use Rattle.flow_worldfile.specs.declared.world.Act.TheVariants as act
use Rattle.flow_worldfile.specs.declared.world.At.{At}
use Rattle.flow_code.specs.declared.program.Code.{Code}
use Rattle.flow_timers.specs.Pending.{Pending}
use Rattle.flow_simnet.specs.declared.packet.Packet.{Packet}
use Rattle.flow_simdisk.specs.declared.ask.DiskAsk.{DiskAsk}
use Rattle.flow_simdisk.specs.declared.ask.DiskReply.{DiskReply}
use Rattle.flow_meaning.specs.Burst.{Host}
use Rattle.flow_numbered.specs.Numbered.{Numbered}
use Rattle.flow_meaning.specs.Outside as meaning
use Rattle.flow_steps.specs.declared.process.Process.{Process}
use Rattle.flow_machine.specs.declared.host.RunFault.{RunFault}
use Rattle.flow_machine.specs.declared.machine.Machine.{Machine}
use Rattle.flow_world.specs.declared.action.EventAction.{EventAction}
use Rattle.flow_world.specs.declared.action.EventAction.TheVariants.{Boots, Stops, Delivers, Brings}
use Rattle.flow_world.specs.declared.outside.What.{What}
use Rattle.flow_world.specs.declared.outside.What.TheVariants as what
use Rattle.flow_world.specs.declared.place.Place.{Place}
use Rattle.flow_world.specs.Around.{Inside, PutsPart, no_more, put_then, put_fails, shows, wrote, wrote_part}
use Rattle.flow_world.specs.Changes.{Surroundings}
use Rattle.flow_world.specs.Ending.{Seen}
use Rattle.flow_world.specs.BreakingEvents.{ActionBreaks, PutFails, PutBreaks, unput, line_put, ActsBreaks, ActsAtBreaks, no_process, not_among, acts_break, RunsBreaks}
use Rattle.flow_world.specs.BreakingEvents.{LossBreaks, not_lost, lost, OnlyStuck, OrderedBreaks, NoMemory, TakenBreaks, ArrivalBreaks, not_on_way, not_taken, ReplyBreaks}
use Rattle.flow_world.specs.BreakingEvents.{AnsweredBreaks, unserved, served, HappenedBreaks, LineBreaks, PendingBreaks, ComesBreaks, MomentBreaks, too_late, comes_breaks}
use Rattle.flow_world.proofs.MovedHosts.{main_breaks_by, bringing_breaks_by}
use Rattle.flow_world.proofs.MovedEvents.{lines_by, inside_by}

-- what follows of a deed breaks off where the host is seen as something else
module _ {A B W : Type 0} (f : A → B) (serves : Host W) (shows : B → Numbered ℕ → W → Type 0) (wrote broke : B → List Line → B → Type 0)
    (written written_in_part : A → List Line → A → Type 0) (as_well : (a b : A) (ls : List Line) → written a ls b → wrote (f a) ls (f b))
    (in_part_as_well : (a b : A) (ls : List Line) → written_in_part a ls b → broke (f a) ls (f b)) where
  pub breaks_off_by : (code : Code) (d : EventAction) (m : Machine) (p : Process) (a : A) (z : RunFault) (b : A)
      → ActionBreaks serves (λ a ps w. shows (f a) ps w) written written_in_part code d m p a z b → ActionBreaks serves shows wrote broke code d m p (f a) z (f b)
  breaks_off_by code Boots m p a z b t = main_breaks_by f serves shows wrote written as_well broke written_in_part in_part_as_well code m.processes m.me p a b z t
  breaks_off_by code Stops m p a z b t = bringing_breaks_by f serves shows wrote written as_well broke written_in_part in_part_as_well code m.processes _ _ a b z t
  breaks_off_by code (Delivers k o) m p a z b t = bringing_breaks_by f serves shows wrote written as_well broke written_in_part in_part_as_well code m.processes _ _ a b z t
  breaks_off_by code (Brings k v) m p a z b t = bringing_breaks_by f serves shows wrote written as_well broke written_in_part in_part_as_well code m.processes _ _ a b z t

module _ {A B : Type 0} (f : A → B) (puts : A → Line → Result (Unit {0}) OutFault → A → Type 0) (puts_there : B → Line → Result (Unit {0}) OutFault → B → Type 0)
    (there : (a b : A) (l : Line) (answer : Result (Unit {0}) OutFault) → puts a l answer b → puts_there (f a) l answer (f b)) where
  put_there : (a b : A) (l : Line) → puts a l (Ok tt) b → puts_there (f a) l (Ok tt) (f b)
  put_there a b l t = there a b l (Ok tt) t

  abbrev inside : Inside A → Inside B
  inside g = inside_by f puts puts_there put_there g

  pub lines_part_by : (a b : A) (ls : List Line) → PutsPart puts a ls b → PutsPart puts_there (f a) ls (f b)
  lines_part_by a _ ls no_more = no_more
  lines_part_by a b (l ∷ ls) (put_then {b = c} t rest) = put_then (put_there a c l t) (lines_part_by c b ls rest)
  lines_part_by a b (l ∷ ls) (put_fails {fault = fault} t) = put_fails (there a b l (Err fault) t)

  fails_by : (l : Line) (a : A) (z : RunFault) (b : A) → PutFails puts l a z b → PutFails puts_there l (f a) z (f b)
  fails_by l a z b t = record { fault = t.fault; is = t.is; put = there a b l (Err t.fault) t.put }

  put_breaks_by : (l : Line) (then_breaks : A → Type 0) (then_there : B → Type 0) (a : A) (z : RunFault) (b : A) → ((c : A) → then_breaks c → then_there (f c))
      → PutBreaks puts l then_breaks a z b → PutBreaks puts_there l then_there (f a) z (f b)
  put_breaks_by l then_breaks then_there a z b more (unput t) = unput (fails_by l a z b t)
  put_breaks_by l then_breaks then_there a z b more (line_put c t rest) = line_put (f c) (put_there a c l t) (more c rest)

  acts_by : (code : Code) (turns : ℕ) (p : ProcId) (d : EventAction) (at : Place) (m : Surroundings) (a : A) (z : RunFault) (b : A)
      → ActsBreaks puts code turns p d at m a z b → ActsBreaks puts_there code turns p d at m (f a) z (f b)
  acts_by code turns p d at m a z b t = record {
    left = inside t.left;
    out = ap f t.out;
    breaks = breaks_off_by inside meaning.host shows (wrote puts_there) (wrote_part puts_there) (wrote puts) (wrote_part puts)
        (λ g h ls w. lines_by f puts puts_there put_there g.out h.out ls w) (λ g h ls w. lines_part_by g.out h.out ls w) code d at.machine _ _ z t.left t.breaks;
  }

  acts_at_by : (p : ProcId) (d : EventAction) (w : Seen) (a : A) (z : RunFault) (b : A) → ActsAtBreaks puts p d w a z b → ActsAtBreaks puts_there p d w (f a) z (f b)
  acts_at_by p d w a z b (no_process is t) = no_process is t
  acts_at_by p d w a z b (not_among at is there t) = not_among at is there t
  acts_at_by p d w a z b (acts_break at is t) = acts_break at is (acts_by w.code w.turns p d at w.outside a z b t)

  runs_by : (p : ProcId) (d : EventAction) (w : Seen) (a : A) (z : RunFault) (b : A) → RunsBreaks puts p d w a z b → RunsBreaks puts_there p d w (f a) z (f b)
  runs_by p d w a z b (inl t) = inl t
  runs_by p d w a z b (inr (held, t)) = inr (held, acts_at_by p d w a z b t)

  loss_by : (p : ProcId) (w : Seen) (a : A) (z : RunFault) (b : A) → LossBreaks puts p w a z b → LossBreaks puts_there p w (f a) z (f b)
  loss_by p w a z b (not_lost why same) = not_lost why (ap f same)
  loss_by p w a z b (lost fates left loses part why) = lost fates left loses (lines_part_by a b _ part) why

  only_by : (why : Type 0) (z : RunFault) (b c : A) → OnlyStuck puts why z b c → OnlyStuck puts_there why z (f b) (f c)
  only_by why z b c t = (t.0, ap f t.1)

  ordered_by : (x : Act) (w : Seen) (a : A) (z : RunFault) (b : A) → OrderedBreaks puts x w a z b → OrderedBreaks puts_there x w (f a) z (f b)
  ordered_by (act.Boot p) w a z b t = put_breaks_by _ _ _ a z b (λ c r. runs_by p Boots w c z b r) t
  ordered_by (act.Stop p) w a z b t = put_breaks_by _ _ _ a z b (λ c r. runs_by p Stops w c z b r) t
  ordered_by (act.Kill p) w a z b t = put_breaks_by _ _ _ a z b (λ c r. loss_by p w c z b r) t
  ordered_by (act.Cut p q) w a z b t = put_breaks_by _ _ _ a z b (λ c r. only_by _ z b c r) t
  ordered_by (act.Heal p q) w a z b t = put_breaks_by _ _ _ a z b (λ c r. only_by _ z b c r) t
  ordered_by (act.DiskFail p n) w a z b t = put_breaks_by _ _ _ a z b (λ c r. only_by _ z b c r) t

  no_memory_by : (a : A) (z : RunFault) (b : A) → NoMemory puts a z b → NoMemory puts_there (f a) z (f b)
  no_memory_by a z b t = (t.0, ap f t.1)

  taken_by : (heard : Option CellId) (p : ProcId) (l : Packet) (w : Seen) (a : A) (z : RunFault) (b : A) → TakenBreaks puts heard p l w a z b → TakenBreaks puts_there heard p l w (f a) z (f b)
  taken_by None p l w a z b t = fails_by _ a z b t
  taken_by (Some k) p l w a z b (inl t) = inl (no_memory_by a z b t)
  taken_by (Some k) p l w a z b (inr t) = inr (t.0, t.1, runs_by p _ w a z b t.2)

  arrival_by : (p : ProcId) (n : ℕ) (w : Seen) (a : A) (z : RunFault) (b : A) → ArrivalBreaks puts p n w a z b → ArrivalBreaks puts_there p n w (f a) z (f b)
  arrival_by p n w a z b (not_on_way is t) = not_on_way is t
  arrival_by p n w a z b (not_taken l heard on_way hears t) = not_taken l heard on_way hears (taken_by heard p _ _ a z b t)

  reply_by : (p : ProcId) (k : CellId) (reply : DiskReply) (w : Seen) (a : A) (z : RunFault) (b : A) → ReplyBreaks puts p k reply w a z b → ReplyBreaks puts_there p k reply w (f a) z (f b)
  reply_by p k reply w a z b (inl t) = inl (no_memory_by a z b t)
  reply_by p k reply w a z b (inr t) = inr (t.0, t.1, runs_by p _ w a z b t.2)

  answered_by : (p : ProcId) (k : CellId) (asked : DiskAsk) (w : Seen) (a : A) (z : RunFault) (b : A) → AnsweredBreaks puts p k asked w a z b → AnsweredBreaks puts_there p k asked w (f a) z (f b)
  answered_by p k asked w a z b (unserved why same) = unserved why (ap f same)
  answered_by p k asked w a z b (served left reply serves t) = served left reply serves (put_breaks_by _ _ _ a z b (λ c r. reply_by p k reply _ c z b r) t)

  happened_by : (x : What) (w : Seen) (a : A) (z : RunFault) (b : A) → HappenedBreaks puts x w a z b → HappenedBreaks puts_there x w (f a) z (f b)
  happened_by (what.Boots p) w a z b t = ordered_by (act.Boot p) w a z b t
  happened_by (what.Rings p k) w a z b t = put_breaks_by _ _ _ a z b (λ c r. runs_by p _ w c z b r) t
  happened_by (what.Arrives p n) w a z b t = put_breaks_by _ _ _ a z b (λ c r. arrival_by p n w c z b r) t
  happened_by (what.Answers p k asked) w a z b t = answered_by p k asked w a z b t

  line_by : (ls : List At) (w : Seen) (a : A) (z : RunFault) (b : A) → LineBreaks puts ls w a z b → LineBreaks puts_there ls w (f a) z (f b)
  line_by [] w a z b t = t
  line_by (l ∷ ls) w a z b t = ordered_by l.act _ a z b t

  pending_by : (xs : List (Pending What)) (w : Seen) (a : A) (z : RunFault) (b : A) → PendingBreaks puts xs w a z b → PendingBreaks puts_there xs w (f a) z (f b)
  pending_by [] w a z b t = t
  pending_by (x ∷ xs) w a z b t = happened_by x.what _ a z b t

  pub comes_breaks_by : (scripted : Bool) (w : Seen) (a : A) (z : RunFault) (b : A) → ComesBreaks puts scripted w a z b → ComesBreaks puts_there scripted w (f a) z (f b)
  comes_breaks_by true w a z b t = line_by w.script w a z b t
  comes_breaks_by false w a z b t = pending_by w.outside.timers.pending w a z b t

  pub moment_breaks_by : (time : ℕ) (scripted : Bool) (w : Seen) (a : A) (z : RunFault) (b : A)
      → MomentBreaks puts time scripted w a z b → MomentBreaks puts_there time scripted w (f a) z (f b)
  moment_breaks_by time scripted w a z b (too_late late t) = too_late late (no_memory_by a z b t)
  moment_breaks_by time scripted w a z b (comes_breaks t) = comes_breaks (comes_breaks_by scripted _ a z b t)
