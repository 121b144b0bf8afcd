-- An event leaves a disk to each process, and what the file says.
use Rattle.std.proofs.Common.{◌≡◌, ℕ, zero, suc, List, [], ◌∷◌, length, refl, sym, ap, ◌∙◌, subst}
use Rattle.std.specs.Prelude.{replicate, slice_set}
use Rattle.std.specs.declared.option.Option.{Option}
use Rattle.std.specs.declared.option.Option.TheVariants.{None, Some}
use Rattle.flow_simdisk.specs.Disk.{Disk}
use Rattle.flow_simnet.specs.declared.packet.Fate.{Fate}
use Rattle.flow_simnet.specs.declared.packet.Fate.TheVariants.{Cut, Drawn, At}
use Rattle.flow_worldfile.specs.Worlds as file
use Rattle.flow_worldfile.specs.declared.directive.Order.{Order}
use Rattle.flow_worldfile.specs.declared.directive.Order.TheVariants as order
use Rattle.flow_class.specs.Classes.{RawTree}
use Rattle.flow_meaning.specs.Requests.{Request, Drew, Timer, Packet, Disks}
use Rattle.flow_meaning.specs.Burst as burst
use Rattle.flow_meaning.specs.Burst.{Live, Burst, rests, steps, advance, advanced}
use Rattle.flow_meaning.specs.Class.{classes}
use Rattle.flow_meaning.specs.Frame.{Frame}
use Rattle.flow_meaning.specs.Outside.{What, Boots, Rings, Arrives, Answers, Outside, host, serve, sent_by, drawn_by, fate_in}
use Rattle.flow_meaning.specs.Process.{Proc}
use Rattle.flow_meaning.specs.Runs.{before, after}
use Rattle.flow_meaning.specs.Step.{Stepped, step}
use Rattle.flow_meaning.specs.World.{Place, World, Begun, Next, Nothing, Script, Event, next_of, begun_by, ordered, arrived, listener, happened, ready, counted, with_left, process_of, process_in, at_start}
use Rattle.flow_meaning.proofs.InOrder.{no_thing}
use Rattle.flow_meaning.proofs.Shifts.{same_of}
use Rattle.flow_end_to_end.specs.Events.{HasDisks}

-- as many disks, and the same file
record AsBefore (v o : Outside) : Type 0 where
  disks : length v.disks ≡ length o.disks
  file : v.file ≡ o.file

stays : (o : Outside) → AsBefore o o
stays o = record { disks = refl; file = refl }

set_many : {X : Type 0} (xs : List X) (i : ℕ) (x : X) → length (slice_set xs i x) ≡ length xs
set_many [] i x = refl
set_many (y ∷ ys) zero x = refl
set_many (y ∷ ys) (suc i) x = ap suc (set_many ys i x)

so_many : {X : Type 0} (n : ℕ) (x : X) → length (replicate n x) ≡ n
so_many zero x = refl
so_many (suc n) x = ap suc (so_many n x)

put_disk : (o : Outside) (i : ℕ) (d : Disk) (v : Outside) → v.disks ≡ slice_set o.disks i d → v.file ≡ o.file → AsBefore v o
put_disk o i d v disks same = record { disks = ap length disks ∙ set_many o.disks i d; file = same }

-- what the world serves
sent_on : (f : Fate) (o : Outside) (m q port : ℕ) (text : List ℕ) → AsBefore (sent_by f o m q port text).1 o
sent_on Cut o m q port text = stays o
sent_on Drawn o m q port text = record { disks = refl; file = refl }
sent_on (At t) o m q port text = record { disks = refl; file = refl }

served_on : (q : Request) (o : Outside) → AsBefore (serve q o).1 o
served_on (Drew n) o = record { disks = refl; file = refl }
served_on (Timer k t) o = record { disks = refl; file = refl }
served_on (Packet q port text) o =
    let v : Outside = record o { sent = suc o.sent } in
    let s = sent_on (fate_in v q) (drawn_by (fate_in v q) v) v.sent q port text in record { disks = s.disks; file = s.file }
served_on (Disks k call) o = record { disks = refl; file = refl }

module _ (r : RawTree) where
  advanced_on : (s l : Live Outside Frame) → advance (classes r) host s ≡ Some l → AsBefore l.out s.out
  advanced_on s l a = by_step (step (classes r) (host.supply s.out) s.proc) refl a
    where
      by_asked : (q : Option Request) (p : Proc Frame) → AsBefore (burst.serve host q p s.out).out s.out
      by_asked None p = stays s.out
      by_asked (Some q) p = served_on q s.out

      by_step : (x : Option (Stepped Frame)) → step (classes r) (host.supply s.out) s.proc ≡ x → advanced host s.out x ≡ Some l → AsBefore l.out s.out
      by_step None q b = absurd (no_thing b)
      by_step (Some t) q b = subst (λ (z : Live Outside Frame). AsBefore z.out s.out) (same_of b) (by_asked t.1 t.0)

  burst_on : (s l : Live Outside Frame) → Burst (classes r) host s l → AsBefore l.out s.out
  burst_on s l (rests q) = stays s.out
  burst_on s l (steps next q k) =
      let one = advanced_on s next q in
      let more = burst_on next l k in record { disks = more.disks ∙ one.disks; file = more.file ∙ one.file }

  -- an event begins
  ordered_on : (x : Order) (at : Place Frame) (o : Outside) → AsBefore (ordered (classes r) x at o).out o
  ordered_on (order.Boot p) at o = stays o
  ordered_on (order.Stop p) at o = stays o
  ordered_on (order.Kill p) at o = put_disk o p _ (ordered (classes r) (order.Kill p) at o).out refl refl
  ordered_on (order.Cut p q) at o = record { disks = refl; file = refl }
  ordered_on (order.Heal p q) at o = record { disks = refl; file = refl }
  ordered_on (order.DiskFail p k) at o = put_disk o p _ (ordered (classes r) (order.DiskFail p k) at o).out refl refl

  arrived_on : (m from port : ℕ) (text : List ℕ) (at : Place Frame) (o : Outside) (l : Option ℕ) → AsBefore (arrived m from port text at o l).out o
  arrived_on m from port text at o None = stays o
  arrived_on m from port text at o (Some k) = stays o

  happened_on : (x : What) (at : Place Frame) (o : Outside) → AsBefore (happened (classes r) x at o).out o
  happened_on (Boots p) at o = stays o
  happened_on (Rings p k) at o = stays o
  happened_on (Arrives m from to port text) at o = arrived_on m from port text at o (listener at port)
  happened_on (Answers p k call) at o = put_disk o o.active _ (happened (classes r) (Answers p k call) at o).out refl refl

  begun_on : (w : World Frame) (b : Begun Frame) (x : Next) → begun_by (classes r) w x ≡ Some b → AsBefore b.out w.out
  begun_on w b Nothing q = absurd (no_thing q)
  begun_on w b (Script t x left) q =
      let s = ordered_on x (ready w (process_of x)) (counted t (process_of x) (record w.out { script = left })) in
      subst (λ (z : Begun Frame). AsBefore z.out w.out) (same_of q) (record { disks = s.disks; file = s.file })
  begun_on w b (Event x left) q =
      let s = happened_on x.what (ready w (process_in x.what)) (counted x.time (process_in x.what) (with_left w.out left)) in
      subst (λ (z : Begun Frame). AsBefore z.out w.out) (same_of q) (record { disks = s.disks; file = s.file })

  pub disks_stay : (w : World Frame) (b : Begun Frame) (l : Live Outside Frame) → HasDisks w.out → begun_by (classes r) w (next_of w.out) ≡ Some b → Burst (classes r) host (before b) l
      → HasDisks (after w b l).out
  disks_stay w b l h g q =
      let begins = begun_on w b (next_of w.out) g in
      let goes = burst_on (before b) l q in
      goes.disks ∙ begins.disks ∙ h ∙ ap (λ (f : file.World). f.processes) (sym (goes.file ∙ begins.file))

pub disks_start : (w : file.World) → HasDisks (at_start {A = Frame} w).out
disks_start w = so_many w.processes _
