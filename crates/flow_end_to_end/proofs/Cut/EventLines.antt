-- What an event writes: its own line, and then lines within it.
use Rattle.std.proofs.Common.{◌≡◌, ℕ, List, [], ◌∷◌, ◌++◌, map, refl, sym, subst}
use Rattle.std.specs.Prelude.{true}
use Rattle.std.specs.declared.option.Option.{Option}
use Rattle.std.specs.declared.option.Option.TheVariants.{None, Some}
use Rattle.flow_trace.specs.declared.line.Line.{Line}
use Rattle.flow_trace.specs.declared.line.Line.TheVariants as line
use Rattle.flow_simdisk.specs.declared.write.Kept.{Kept}
use Rattle.flow_simdisk.specs.declared.ask.DiskReply.{DiskReply}
use Rattle.flow_simdisk.specs.declared.ask.DiskReply.TheVariants.{Text, Done, Size, Failed}
use Rattle.flow_simnet.specs.declared.packet.Fate.{Fate}
use Rattle.flow_simnet.specs.declared.packet.Fate.TheVariants.{Cut, Drawn, At}
use Rattle.flow_worldfile.specs.declared.directive.Order.{Order}
use Rattle.flow_worldfile.specs.declared.directive.Order.TheVariants as order
use Rattle.flow_meaning.specs.Requests.{Request, Drew, Timer, Packet, Disks, Supply, DiskCall, ReadCall, WriteCall, SyncCall, SizeCall}
use Rattle.flow_meaning.specs.Process.{Task, Run, Give, Throw, Catch, Store, Keep, Close, Fire, Drop, Halt, Proc, Engine}
use Rattle.flow_meaning.specs.Step.{Stepped, step_if, step_tasks, popped}
use Rattle.flow_meaning.specs.Burst.{Live, advanced, advance, serve, Burst, rests, steps}
use Rattle.flow_meaning.specs.Outside as outside
use Rattle.flow_meaning.specs.Outside.{Outside, What, Boots, Rings, Arrives, Answers, host, sent_by}
use Rattle.flow_meaning.specs.Runs.{before, lines_of}
use Rattle.flow_meaning.specs.World.{Place, World, Begun, Next, Nothing, Script, Event, next_of, begun_by, ordered, happened, arrived, packet, alone, booted, ready, process_of, process_in, disk_line, kept_line}
use Rattle.flow_meaning.specs.Deliver.{boot_with, stop_main, deliver}
use Rattle.flow_meaning.specs.Work.{fill}
use Rattle.flow_value.specs.Values.{OutcomeTree, GoodOutcome}
use Rattle.flow_monitor.specs.Cut.{is_boundary, closing}
use Rattle.flow_end_to_end.proofs.Cut.InnerLines.{AllInner, inner_more, Inner, Adds, after_turn, filled, enrolled, ran, task_done}

-- an event line, and then lines within the event
pub record EventLines (lines : List Line) : Type 0 where
  pub first : Line
  pub more : List Line
  pub is : lines ≡ first ∷ more
  pub begins : is_boundary first ≡ true
  pub closes : (name : List ℕ) → closing name first ≡ line.EndStop name
  pub inner : AllInner more

module _ {A : Type 0} (e : Engine A) where
  abbrev OfStep : Option (Stepped A) → Type 0
  OfStep None = Unit {0}
  OfStep (Some r) = Inner r.0.core

  abbrev OfLive : Option (Live Outside A) → Type 0
  OfLive None = Unit {0}
  OfLive (Some l) = Inner l.proc.core

  tasks_step : (s : Supply) (ts : List Task) (p : Proc A) → Inner p.core → OfStep (step_tasks e s ts p)
  tasks_step s [] p h = tt
  tasks_step s (Run i ∷ ts) p h = ran e s i ts _ p h
  tasks_step s (Give i b o ∷ ts) p h = task_done e s (Give i b o) (popped ts p) h
  tasks_step s (Throw i err ∷ ts) p h = task_done e s (Throw i err) (popped ts p) h
  tasks_step s (Catch i err ∷ ts) p h = task_done e s (Catch i err) (popped ts p) h
  tasks_step s (Store i v ∷ ts) p h = task_done e s (Store i v) (popped ts p) h
  tasks_step s (Keep i spot r ∷ ts) p h = task_done e s (Keep i spot r) (popped ts p) h
  tasks_step s (Close i o ∷ ts) p h = task_done e s (Close i o) (popped ts p) h
  tasks_step s (Fire k ∷ ts) p h = task_done e s (Fire k) (popped ts p) h
  tasks_step s (Drop kind k ∷ ts) p h = task_done e s (Drop kind k) (popped ts p) h

  one_step : (s : Supply) (x : Option Halt) (p : Proc A) → Inner p.core → OfStep (step_if e s x p)
  one_step s (Some h) p k = tt
  one_step s None p k = tasks_step s p.core.tasks p k

  -- what the world writes for a request
  sent : (f : Fate) (w : Outside) (m q port : ℕ) (text : List ℕ) → AllInner (sent_by f w m q port text).0
  sent Cut w m q port text = (refl, tt)
  sent Drawn w m q port text = (refl, tt)
  sent (At time) w m q port text = tt

  served_lines : (r : Request) (w : Outside) → AllInner (outside.serve r w).0
  served_lines (Drew n) w = tt
  served_lines (Timer cell time) w = tt
  served_lines (Packet q port text) w = (refl, sent _ _ _ q port text)
  served_lines (Disks cell call) w = tt

  serves : (x : Option Request) (p : Proc A) (w : Outside) → Inner p.core → Inner (serve host x p w).proc.core
  serves None p w h = h
  serves (Some r) p w h = inner_more p.core.lines (outside.serve r w).0 h (served_lines r w)

  advances : (w : Outside) (x : Option (Stepped A)) → OfStep x → OfLive (advanced host w x)
  advances w None h = tt
  advances w (Some r) h = serves r.1 r.0 w h

  one_more : (s : Live Outside A) → Inner s.proc.core → OfLive (advance e host s)
  one_more s h = advances s.out _ (one_step (host.supply s.out) s.proc.core.halted s.proc h)

  burst_inner : (s t : Live Outside A) → Inner s.proc.core → Burst e host s t → Inner t.proc.core
  burst_inner s _ h (rests done) = h
  burst_inner s t h (steps r next more) = burst_inner r t (subst OfLive next (one_more s h)) more

  -- what is written before the burst
  record Begins (b : Begun A) : Type 0 where
    head : EventLines b.head
    start : Inner b.place.proc.core

  alone_begins : (l : Line) (place : Place A) (out : Outside) → is_boundary l ≡ true → ((name : List ℕ) → closing name l ≡ line.EndStop name) → Inner place.proc.core
      → Begins (alone l place out)
  alone_begins l place out begins closes start = record { head = record { first = l; more = []; is = refl; begins = begins; closes = closes; inner = tt }; start = start }

  booting : (me : ℕ) (x : Option A) (p : Proc A) → Inner p.core → Inner (boot_with e x p).core
  booting me None p h = h
  booting me (Some a) p h = after_turn _ (λ d k. enrolled e.main (e.label e.main) d k) p.core h

  boots : (p : ℕ) (at : Place A) (x : Option ℕ) → Inner at.proc.core → Inner (booted e p at x).proc.core
  boots p at (Some held) h = h
  boots p at None h = booting p _ at.proc h

  stops : (x : Option ℕ) → Adds (stop_main x)
  stops None c h = h
  stops (Some cell) c h = h

  fates : (ks : List Kept) → AllInner (map kept_line ks)
  fates [] = tt
  fates (k ∷ ks) = (refl, fates ks)

  ordered_begins : (o : Order) (at : Place A) (w : Outside) → Inner at.proc.core → Begins (ordered e o at w)
  ordered_begins (order.Boot p) at w h = alone_begins _ _ _ refl (λ name. refl) (boots p at at.proc.core.main h)
  ordered_begins (order.Stop p) at w h = alone_begins _ _ _ refl (λ name. refl) (stops at.proc.core.main at.proc.core h)
  ordered_begins (order.Kill p) at w h = record { head = record { first = _; more = _; is = refl; begins = refl; closes = λ name. refl; inner = fates _ }; start = tt }
  ordered_begins (order.Cut p q) at w h = alone_begins _ _ _ refl (λ name. refl) h
  ordered_begins (order.Heal p q) at w h = alone_begins _ _ _ refl (λ name. refl) h
  ordered_begins (order.DiskFail p n) at w h = alone_begins _ _ _ refl (λ name. refl) h

  arriving : (m from port : ℕ) (text : List ℕ) (at : Place A) (w : Outside) (x : Option ℕ) → Inner at.proc.core → Begins (arrived m from port text at w x)
  arriving m from port text at w None h = record { head = record { first = _; more = _; is = refl; begins = refl; closes = λ name. refl; inner = (refl, tt) }; start = h }
  arriving m from port text at w (Some cell) h = alone_begins _ _ _ refl (λ name. refl) (after_turn (λ d. fill cell (GoodOutcome (packet from port text)) d) (filled cell _) at.proc.core h)

  delivers : (k : ℕ) (o : OutcomeTree) → Adds (deliver k o)
  delivers k o c h = after_turn (λ d. fill k o d) (filled k o) _ h

  disk_begins : (call : DiskCall ℕ) (r : DiskReply) (w : Outside) (c : ℕ)
      → (is_boundary (disk_line call r w c) ≡ true) × ((name : List ℕ) → closing name (disk_line call r w c) ≡ line.EndStop name)
  disk_begins (ReadCall x offset count) (Text bs) w c = (refl, λ name. refl)
  disk_begins (ReadCall x offset count) Done w c = (refl, λ name. refl)
  disk_begins (ReadCall x offset count) (Size n) w c = (refl, λ name. refl)
  disk_begins (ReadCall x offset count) Failed w c = (refl, λ name. refl)
  disk_begins (WriteCall x offset bytes) (Text bs) w c = (refl, λ name. refl)
  disk_begins (WriteCall x offset bytes) Done w c = (refl, λ name. refl)
  disk_begins (WriteCall x offset bytes) (Size n) w c = (refl, λ name. refl)
  disk_begins (WriteCall x offset bytes) Failed w c = (refl, λ name. refl)
  disk_begins (SyncCall x) (Text bs) w c = (refl, λ name. refl)
  disk_begins (SyncCall x) Done w c = (refl, λ name. refl)
  disk_begins (SyncCall x) (Size n) w c = (refl, λ name. refl)
  disk_begins (SyncCall x) Failed w c = (refl, λ name. refl)
  disk_begins (SizeCall x) (Text bs) w c = (refl, λ name. refl)
  disk_begins (SizeCall x) Done w c = (refl, λ name. refl)
  disk_begins (SizeCall x) (Size n) w c = (refl, λ name. refl)
  disk_begins (SizeCall x) Failed w c = (refl, λ name. refl)

  happened_begins : (x : What) (at : Place A) (w : Outside) → Inner at.proc.core → Begins (happened e x at w)
  happened_begins (Boots p) at w h = ordered_begins (order.Boot p) at w h
  happened_begins (Rings p c) at w h = alone_begins _ _ _ refl (λ name. refl) (delivers c _ at.proc.core h)
  happened_begins (Arrives m from to port text) at w h = arriving m from port text at w _ h
  happened_begins (Answers p c call) at w h = alone_begins _ _ _ (disk_begins call _ w c).0 (disk_begins call _ w c).1 (delivers c _ at.proc.core h)

  abbrev OfBegun : Option (Begun A) → Type 0
  OfBegun None = Unit {0}
  OfBegun (Some b) = Begins b

  next_begins : (w : World A) (n : Next) → OfBegun (begun_by e w n)
  next_begins w Nothing = tt
  next_begins w (Script t o left) = ordered_begins o (ready w (process_of o)) _ tt
  next_begins w (Event p left) = happened_begins p.what (ready w (process_in p.what)) _ tt

  pub joined : (head lines : List Line) → EventLines head → AllInner lines → EventLines (head ++ lines)
  joined head lines h k = record {
    first = h.first;
    more = h.more ++ lines;
    is = subst (λ x. x ++ lines ≡ h.first ∷ (h.more ++ lines)) (sym h.is) refl;
    begins = h.begins;
    closes = h.closes;
    inner = inner_more h.more lines h.inner k;
  }

  -- the lines of the next event
  pub event_lines : (w : World A) (b : Begun A) (l : Live Outside A) → begun_by e w (next_of w.out) ≡ Some b → Burst e host (before b) l → EventLines (lines_of b l)
  event_lines w b l begins follows =
      let first : Begins b = subst OfBegun begins (next_begins w (next_of w.out)) in
      joined b.head l.proc.core.lines first.head (burst_inner (before b) l first.start follows)
