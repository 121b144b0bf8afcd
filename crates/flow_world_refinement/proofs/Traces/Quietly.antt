-- Events that do nothing to a process.
use Rattle.std.proofs.Common.{◌≡◌, ℕ, zero, suc, ◌+◌, ◌<◌, true, false, List, [], ◌∷◌, Some, None, length, refl, sym, ap, ◌∙◌, subst, arith}
use Rattle.std.specs.Prelude.{Result, Ok, slice_set, slice_index_or}
use Rattle.flow_base.specs.declared.fault.OutFault.{OutFault}
use Rattle.flow_trace.specs.declared.line.Line.{Line}
use Rattle.flow_trace.specs.declared.line.Line.TheVariants as line
use Rattle.flow_class.specs.Classes.{RawTree}
use Rattle.flow_code.specs.declared.program.Code.{Code}
use Rattle.flow_worldfile.specs.declared.world.At.{At}
use Rattle.flow_worldfile.specs.declared.directive.Order.{Order}
use Rattle.flow_worldfile.specs.declared.directive.Order.TheVariants as order
use Rattle.flow_worldfile.specs.Worlds.{order_of}
use Rattle.flow_meaning.specs.Burst.{advance, live, rests}
use Rattle.flow_meaning.specs.Class.{classes}
use Rattle.flow_meaning.specs.Deliver.{idle}
use Rattle.flow_meaning.specs.Frame.{Frame}
use Rattle.flow_meaning.specs.Outside.{Outside, host, healed}
use Rattle.flow_meaning.specs.Process.{Proc}
use Rattle.flow_meaning.specs.World.{World, Place, Next, Nothing, Script, Event, next_of, begun_by, ordered, counted, ready, alone, process_of, disk_of, with_disk}
use Rattle.flow_steps.specs.declared.process.Process.{Process}
use Rattle.flow_machine.specs.declared.host.Burst.TheVariants.{Rested}
use Rattle.flow_world.specs.declared.place.Place as memory
use Rattle.flow_world.specs.Changes.{Surroundings}
use Rattle.flow_world.specs.Changes as memory_disk
use Rattle.flow_world.specs.Ending.{Seen, next}
use Rattle.flow_simdisk.specs.Disk.{Disk}
use Rattle.flow_simnet.specs.Links.{cut}
use Rattle.flow_simnet.specs.Links as table
use Rattle.flow_world.specs.Happening.{Happens, Ordered, LineComes, Comes, begins}
use Rattle.flow_world.specs.Representing.{OutsideRepresents}
use Rattle.flow_world.proofs.Events.{found, link_cut, link_healed, on_time}
use Rattle.flow_world.proofs.Putting.{puts_one}
use Rattle.flow_world_refinement.specs.Order.Showing.{PlacesRepresent, ScriptRepresents, WorldRepresents}
use Rattle.flow_world_refinement.specs.Order.Coming.{NextMatches}
use Rattle.flow_world_refinement.proofs.Order.Next.{same_next}
use Rattle.flow_world_refinement.specs.Traces.Traced.{EventShown}
use Rattle.flow_world_refinement.specs.Traces.Quiet.{begun_proc, StaysQuiet, CutFollows, HealFollows, FailureFollows}

abbrev down : Place Frame
down = record { up = false; proc = idle }

abbrev quiet : (turns : ℕ) → Place Frame → Place Frame
quiet turns x = record { up = x.up; proc = begun_proc turns x.proc }

-- a disk of a process is another
disk_put : (m : Surroundings) (o : Outside) (p : ℕ) (d e : Disk) → OutsideRepresents m o → d ≡ e → OutsideRepresents (memory_disk.with_disk p d m) (with_disk o p e)
disk_put m o p d e s same = record {
  seed = s.seed;
  words = s.words;
  processes = s.processes;
  latency = s.latency;
  loss = s.loss;
  diskdelay = s.diskdelay;
  time = s.time;
  sent = s.sent;
  drawn = s.drawn;
  noted = s.noted;
  made = s.made;
  events = s.events;
  packets = s.packets;
  numbers = s.numbers;
  table = s.table;
  cuts = s.cuts;
  disks = ap (λ ds. slice_set ds p d) s.disks ∙ ap (slice_set o.disks p) same;
}

module _ (Rests : Process → Proc Frame → Type 0) (Keeps : World Frame → Type 0) (IsCode : Code → Type 0) (r : RawTree) (still : StaysQuiet Rests Keeps IsCode r) where
  places_quiet :
      (turns n k i : ℕ) (ats : List memory.Place) (xs : List (Place Frame)) (out : Outside) → PlacesRepresent Rests n k ats xs → i < length xs
      → PlacesRepresent Rests n k ats (slice_set xs i (quiet turns (slice_index_or xs i down)))
  places_quiet turns n k i [] [] out s lt = absurd (omega (arith, lt))
  places_quiet turns n k i [] (x ∷ xs) out s lt = elim s [ ]
  places_quiet turns n k i (at ∷ ats) [] out s lt = elim s [ ]
  places_quiet turns n k zero (at ∷ ats) (x ∷ xs) out s lt = (
    record { up = s.0.up; me = s.0.me; processes_are = s.0.processes_are; rests = (still turns at.machine.process x.proc out s.0.rests).1; ports = s.0.ports },
    s.1,
  )
  places_quiet turns n k (suc i) (at ∷ ats) (x ∷ xs) out s lt = (s.0, places_quiet turns n (suc k) i ats xs out s.1 (omega (arith, lt)))

  nothing_to_do :
      (turns n k i : ℕ) (ats : List memory.Place) (xs : List (Place Frame)) (out : Outside) → PlacesRepresent Rests n k ats xs → i < length xs
      → advance (classes r) host (live (quiet turns (slice_index_or xs i down)).proc out) ≡ None
  nothing_to_do turns n k i [] [] out s lt = absurd (omega (arith, lt))
  nothing_to_do turns n k i [] (x ∷ xs) out s lt = elim s [ ]
  nothing_to_do turns n k i (at ∷ ats) [] out s lt = elim s [ ]
  nothing_to_do turns n k zero (at ∷ ats) (x ∷ xs) out s lt = (still turns at.machine.process x.proc out s.0.rests).0
  nothing_to_do turns n k (suc i) (at ∷ ats) (x ∷ xs) out s lt = nothing_to_do turns n (suc k) i ats xs out s.1 (omega (arith, lt))

  module _ {A : Type 0} (puts : A → Line → Result (Unit {0}) OutFault → A → Type 0) where
    -- an event of one line, whose process does nothing
    quietly :
        (w v : Seen) (m : World Frame) (a b : A) (l : Line) (out : Outside) → WorldRepresents Rests w m → out.active < length m.places → out.file ≡ m.out.file
        → begun_by (classes r) m (next_of m.out) ≡ Some (alone l (ready m out.active) out) → puts a l (Ok tt) b → v.places ≡ w.places
        → OutsideRepresents v.outside out → ScriptRepresents v.script out.script → v.ran ≡ out.ran → v.bound ≡ w.bound → v.turns ≡ w.turns → v.ended ≡ false
        → EventShown Rests Keeps IsCode puts r m a v b
    quietly w v m a b l out s within file begins put places outside script ran bound turns going =
        let t = m.out.file.turns in
        record {
          event = record {
            begun = alone l (ready m out.active) out;
            left = live (ready m out.active).proc out;
            begins = begins;
            follows = rests (nothing_to_do t m.out.file.processes 0 out.active w.places m.places out s.places within);
            lines = puts_one puts a b l put;
          };
          rests = refl;
          shows = record {
            places =
                subst (λ f. PlacesRepresent Rests f.processes 0 v.places (slice_set m.places out.active (quiet t (slice_index_or m.places out.active down)))) (sym file)
                (subst (λ ats. PlacesRepresent Rests m.out.file.processes 0 ats (slice_set m.places out.active (quiet t (slice_index_or m.places out.active down)))) (sym places)
                (places_quiet t m.out.file.processes 0 out.active w.places m.places out s.places within));
            outside = outside;
            script = script;
            ran = ran;
            bound = bound ∙ s.bound ∙ ap (λ f. f.events) (sym file);
            turns = turns ∙ s.turns ∙ ap (λ f. f.turns) (sym file);
            going = going;
          };
        }

module _ (Rests : Process → Proc Frame → Type 0) (Keeps : World Frame → Type 0) (IsCode : Code → Type 0) (r : RawTree) {A : Type 0} (puts : A → Line → Result (Unit {0}) OutFault → A → Type 0) where
  -- the line of the script that comes, by what it orders
  line_of : (w : Seen) (a b : A) (t : ℕ) (l : At) (ls : List At) (v : Seen) → next w ≡ Some (t, true) → w.script ≡ l ∷ ls → (h : Happens puts w a Rested v b)
      → Ordered puts l.act (record (begins t w) { script = ls }) a Rested h.left b
  line_of w a b t l ls v next_is script h =
      let same : (h.time, h.scripted) ≡ (t, true) = some (sym h.comes ∙ next_is) in
      let does : Comes puts true (begins t w) a Rested h.left b = subst (λ z. Comes puts z.1 (begins z.0 w) a Rested h.left b) same h.does in
      subst (λ zs. LineComes puts zs (begins t w) a Rested h.left b) script does
    where
      some : {Y : Type 0} {x y : Y} → Some x ≡ Some y → x ≡ y
      some e = cc

  -- what an order does to what is outside, with its line and nothing else
  record IsQuiet (m : World Frame) (t : ℕ) (k : Order) (x : Line) (change : Outside → Outside) (left : List (ℕ × Order)) : Type 0 where
    does : (at : Place Frame)
        → ordered (classes r) k at (counted t (process_of k) (record m.out { script = left }))
        ≡ alone x at (change (counted t (process_of k) (record m.out { script = left })))
    active : (change (counted t (process_of k) (record m.out { script = left }))).active ≡ process_of k
    file : (change (counted t (process_of k) (record m.out { script = left }))).file ≡ m.out.file
    script : (change (counted t (process_of k) (record m.out { script = left }))).script ≡ left
    ran : (change (counted t (process_of k) (record m.out { script = left }))).ran ≡ suc m.out.ran

  -- the world after a line of the script that does nothing to a process
  abbrev after_line : Seen → Surroundings → List At → Seen
  after_line w sur ls = record w { outside = sur; script = ls; ran = w.ran + 1; ended = false }

  -- a line of the script that does nothing to a process: what it does to what is outside shows
  quiet_line :
      (w v : Seen) (m : World Frame) (a b : A) (t : ℕ) (l : At) (ls : List At) (k : Order) (x : Line) (sur : Surroundings) (change : Outside → Outside)
      → StaysQuiet Rests Keeps IsCode r → WorldRepresents Rests w m → process_of k < length m.places → next w ≡ Some (t, true) → w.script ≡ l ∷ ls → order_of l.act ≡ k
      → ((left : List (ℕ × Order)) → IsQuiet m t k x change left × OutsideRepresents sur (change (counted t (process_of k) (record m.out { script = left }))))
      → puts a x (Ok tt) b → v ≡ after_line w sur ls → EventShown Rests Keeps IsCode puts r m a v b
  quiet_line w v m a b t l ls k x sur change still s there next_is script orders shows put is_now =
      by_next (next_of m.out) refl (subst (λ n. NextMatches w n (next_of m.out) m.out) next_is (same_next Rests w m s))
    where
      head : {Y : Type 0} {x y : Y} {xs ys : List Y} → x ∷ xs ≡ y ∷ ys → x ≡ y
      head e = cc

      tail : {Y : Type 0} {x y : Y} {xs ys : List Y} → x ∷ xs ≡ y ∷ ys → xs ≡ ys
      tail e = cc

      by_next : (y : Next) → next_of m.out ≡ y → NextMatches w (Some (t, true)) y m.out → EventShown Rests Keeps IsCode puts r m a v b
      by_next Nothing e n = elim n [ ]
      by_next (Event y left) e n = elim n [ ]
      by_next (Script time o left) e n =
          let both = sym n.are ∙ script in
          let is_order : o ≡ k = sym n.orders ∙ ap (λ z. order_of z.act) (head both) ∙ orders in
          let comes : next_of m.out ≡ Script t k left = e ∙ ap (λ z. Script z o left) (sym n.same) ∙ ap (λ z. Script t z left) is_order in
          let counts : w.ran + 1 ≡ suc m.out.ran = omega (arith, s.ran) in
          let out : Outside = change (counted t (process_of k) (record m.out { script = left })) in
          let now = after_line w sur ls in
          let own = (shows left).0 in
          let begins_is : begun_by (classes r) m (next_of m.out) ≡ Some (alone x (ready m out.active) out) =
          ap (begun_by (classes r) m) comes ∙ ap (λ z. Some z) (own.does (ready m (process_of k))) ∙ ap (λ z. Some (alone x (ready m z) out)) (sym own.active)
          in
          subst (λ z. EventShown Rests Keeps IsCode puts r m a z b) (sym is_now)
          (quietly Rests Keeps IsCode r still puts w now m a b x out s (subst (λ z. z < length m.places) (sym own.active) there) own.file begins_is put refl
          (shows left).1 (subst (λ zs. ScriptRepresents ls zs) (sym own.script) (subst (λ zs. ScriptRepresents zs left) (tail both) n.shows)) (counts ∙ sym own.ran) refl refl refl)

  pub cut_follows : CutFollows Rests Keeps IsCode r puts
  cut_follows w v m a b p q still here c =
      let start : Seen = record (begins c.time w) { script = c.rest } in
      let done = subst (λ x. Ordered puts x start a Rested c.happens.left b) c.orders (line_of w a b c.time c.line c.rest v c.next_is c.script c.happens) in
      let counts : w.ran + 1 ≡ suc m.out.ran = omega (arith, c.represents.ran) in
      let sur : Surroundings = record start.outside { net = record start.outside.net { cuts = cut start.outside.net.cuts p.0 q.0 } } in
      quiet_line w v m a b c.time c.line c.rest (order.Cut p.0 q.0) (line.Cut (suc m.out.ran) c.time p q) sur
      (λ o. record o { cuts = (p.0, q.0) ∷ o.cuts })
      still c.represents here.stands c.next_is c.script (ap order_of c.orders)
      (λ left. (
        record { does = λ at. refl; active = refl; file = refl; script = refl; ran = refl },
        link_cut (record w.outside { time = c.time }) (counted c.time p.0 (record m.out { script = left })) p.0 q.0
            (on_time w.outside m.out c.time c.time p.0 left refl c.represents.outside) here.few here.first here.second,
      ))
      (subst (λ k. puts a (line.Cut k c.time p q) (Ok tt) b) counts done.0)
      (c.happens.after ∙ ap {A = Seen} (λ z. record z { ended = false }) done.2)

  pub heal_follows : HealFollows Rests Keeps IsCode r puts
  heal_follows w v m a b p q still here c =
      let start : Seen = record (begins c.time w) { script = c.rest } in
      let done = subst (λ x. Ordered puts x start a Rested c.happens.left b) c.orders (line_of w a b c.time c.line c.rest v c.next_is c.script c.happens) in
      let counts : w.ran + 1 ≡ suc m.out.ran = omega (arith, c.represents.ran) in
      let sur : Surroundings = record start.outside { net = record start.outside.net { cuts = table.healed start.outside.net.cuts p.0 q.0 } } in
      quiet_line w v m a b c.time c.line c.rest (order.Heal p.0 q.0) (line.Heal (suc m.out.ran) c.time p q) sur
      (λ o. record o { cuts = healed o.cuts p.0 q.0 })
      still c.represents here.stands c.next_is c.script (ap order_of c.orders)
      (λ left. (
        record { does = λ at. refl; active = refl; file = refl; script = refl; ran = refl },
        link_healed (record w.outside { time = c.time }) (counted c.time p.0 (record m.out { script = left })) p.0 q.0
            (on_time w.outside m.out c.time c.time p.0 left refl c.represents.outside) here.few here.first here.second,
      ))
      (subst (λ k. puts a (line.Heal k c.time p q) (Ok tt) b) counts done.0)
      (c.happens.after ∙ ap {A = Seen} (λ z. record z { ended = false }) done.2)

  pub failure_follows : FailureFollows Rests Keeps IsCode r puts
  failure_follows w v m a b p n still there c =
      let start : Seen = record (begins c.time w) { script = c.rest } in
      let done = subst (λ x. Ordered puts x start a Rested c.happens.left b) c.orders (line_of w a b c.time c.line c.rest v c.next_is c.script c.happens) in
      let failing = done.2 in
      let counts : w.ran + 1 ≡ suc m.out.ran = omega (arith, c.represents.ran) in
      let failed : Disk = record { fails = n; files = failing.disk.files } in
      let sur : Surroundings = memory_disk.with_disk p.0 failed start.outside in
      let at_disk : disk_of m.out p.0 ≡ failing.disk = ap (λ ds. slice_index_or ds p.0 (record { fails = 0; files = [] })) (sym c.represents.outside.disks)
      ∙ found w.outside.disks p.0 failing.disk _ failing.there in
      let same : failed ≡ record { fails = n; files = (disk_of m.out p.0).files } = ap {A = Disk} (λ d. record { fails = n; files = d.files }) (sym at_disk) in
      quiet_line w v m a b c.time c.line c.rest (order.DiskFail p.0 n) (line.DiskFail (suc m.out.ran) c.time p n) sur
      (λ o. with_disk o p.0 (record { fails = n; files = (disk_of o p.0).files })) still c.represents there c.next_is c.script (ap order_of c.orders)
      (λ left. (
        record { does = λ at. refl; active = refl; file = refl; script = refl; ran = refl },
        disk_put (record w.outside { time = c.time }) (counted c.time p.0 (record m.out { script = left })) p.0 failed _
            (on_time w.outside m.out c.time c.time p.0 left refl c.represents.outside) same,
      ))
      (subst (λ k. puts a (line.DiskFail k c.time p n) (Ok tt) b) counts done.0)
      (c.happens.after ∙ ap {A = Seen} (λ z. record z { ended = false }) failing.left)
