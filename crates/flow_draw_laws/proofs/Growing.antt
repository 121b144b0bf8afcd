-- What was asked stays asked: each step, burst, event and run only adds questions.
use Rattle.std.proofs.Common.{◌≡◌, ℕ, suc, List, [], ◌∷◌, ◌++◌, refl, sym, ap, ◌∙◌, subst, append_assoc}
use Rattle.std.proofs.lemmas.List.{append-nil}
use Rattle.std.specs.declared.option.Option.{Option}
use Rattle.std.specs.declared.option.Option.TheVariants.{None, Some}
use Rattle.flow_trace.specs.declared.line.Line.{Line}
use Rattle.flow_worldfile.specs.declared.directive.Order.{Order}
use Rattle.flow_worldfile.specs.declared.directive.Order.TheVariants.{Kill, Stop, Boot, Cut as CutLink, Heal, DiskFail}
use Rattle.flow_draw.specs.declared.question.Question.{Question}
use Rattle.flow_draw.specs.declared.question.Question.TheVariants.{Among}
use Rattle.flow_simnet.specs.declared.packet.Fate.{Fate}
use Rattle.flow_simnet.specs.declared.packet.Fate.TheVariants.{Cut, Drawn as LostDraw, At}
use Rattle.flow_simnet.specs.Links.{width, questions_of}
use Rattle.flow_simdisk.specs.Disk.{power_lost}
use Rattle.flow_meaning.specs.Requests.{Request, Drew, Timer, Packet, Disks}
use Rattle.flow_meaning.specs.Process.{Proc, Engine}
use Rattle.flow_meaning.specs.Step.{Stepped, step}
use Rattle.flow_meaning.specs.Burst as burst
use Rattle.flow_meaning.specs.Burst.{Live, advance, advanced, Burst, rests, steps}
use Rattle.flow_meaning.specs.Outside.{What, Boots, Rings, Arrives, Answers, Outside, word_in, sent_by, drawn_by, fate_in, serve, supply, host}
use Rattle.flow_meaning.specs.World.{Place, World, Next, Nothing, Script, Event, Begun, disk_of, ordered, arrived, listener, happened, begun_by, process_of, process_in, ready, counted, with_left}
use Rattle.flow_draw_laws.specs.Answers.{Asks, ends, spent, event}

-- the first questions, and some behind them
pub record Grows (qs rs : List Question) : Type 0 where
  pub more : List Question
  pub is : rs ≡ qs ++ more

pub still : (qs : List Question) → Grows qs qs
still qs = record { more = []; is = sym (append-nil qs) }

grows_on : {qs rs ts : List Question} → Grows qs rs → Grows rs ts → Grows qs ts
grows_on {qs = qs} f g = record { more = f.more ++ g.more; is = g.is ∙ ap (λ x. x ++ g.more) f.is ∙ append_assoc qs f.more g.more }

by_these : (qs rs : List Question) → Grows qs (qs ++ rs)
by_these qs rs = record { more = rs; is = refl }

sent_grows : (f : Fate) (w x : Outside) (m q port : ℕ) (text : List ℕ) → Grows w.asked x.asked → Grows w.asked (sent_by f x m q port text).1.asked
sent_grows Cut w x m q port text g = g
sent_grows LostDraw w x m q port text g = g
sent_grows (At time) w x m q port text g = g

serve_grows : (q : Request) (w : Outside) → Grows w.asked (serve q w).1.asked
serve_grows (Drew n) w = by_these w.asked (Among n ∷ [])
serve_grows (Timer cell time) w = still w.asked
serve_grows (Packet q port text) w =
    let x : Outside = record w { sent = suc w.sent } in
    sent_grows (fate_in x q) x (drawn_by (fate_in x q) x) x.sent q port text (by_these w.asked (questions_of w.file.loss w.file.latency (fate_in x q)))
serve_grows (Disks cell call) w = by_these w.asked (Among (width w.file.diskdelay) ∷ [])

module _ {A : Type 0} (e : Engine A) where
  asks_grow : (q : Option Request) (p : Proc A) (w : Outside) → Grows w.asked (burst.serve host q p w).out.asked
  asks_grow None p w = still w.asked
  asks_grow (Some q) p w = serve_grows q w

  abbrev Grow_if : List Question → Option (Live Outside A) → Type 0
  Grow_if qs None = Unit {0}
  Grow_if qs (Some s) = Grows qs s.out.asked

  advanced_grows : (w : Outside) (o : Option (Stepped A)) → Grow_if w.asked (advanced host w o)
  advanced_grows w None = tt
  advanced_grows w (Some r) = asks_grow r.1 r.0 w

  pub advance_grows : (s r : Live Outside A) → advance e host s ≡ Some r → Grows s.out.asked r.out.asked
  advance_grows s r h = subst (Grow_if s.out.asked) h (advanced_grows s.out (step e (supply s.out) s.proc))

  pub burst_grows : {s t : Live Outside A} → Burst e host s t → Grows s.out.asked t.out.asked
  burst_grows {s = s} (rests a) = still s.out.asked
  burst_grows {s = s} (steps r a b) = grows_on (advance_grows s r a) (burst_grows b)

  -- an event begins
  ordered_grows : (o : Order) (at : Place A) (w : Outside) → Grows w.asked (ordered e o at w).out.asked
  ordered_grows (Kill p) at w = by_these w.asked (power_lost (word_in w) (disk_of w p).files).asked
  ordered_grows (Boot p) at w = still w.asked
  ordered_grows (Stop p) at w = still w.asked
  ordered_grows (CutLink p q) at w = still w.asked
  ordered_grows (Heal p q) at w = still w.asked
  ordered_grows (DiskFail p n) at w = still w.asked

  arrived_grows : (m from port : ℕ) (text : List ℕ) (at : Place A) (w : Outside) (o : Option ℕ) → Grows w.asked (arrived m from port text at w o).out.asked
  arrived_grows m from port text at w None = still w.asked
  arrived_grows m from port text at w (Some cell) = still w.asked

  happened_grows : (x : What) (at : Place A) (w : Outside) → Grows w.asked (happened e x at w).out.asked
  happened_grows (Boots p) at w = still w.asked
  happened_grows (Rings p c) at w = still w.asked
  happened_grows (Arrives m from to port text) at w = arrived_grows m from port text at w (listener at port)
  happened_grows (Answers p c call) at w = still w.asked

  abbrev Begin_if : List Question → Option (Begun A) → Type 0
  Begin_if qs None = Unit {0}
  Begin_if qs (Some b) = Grows qs b.out.asked

  begins_by : (w : World A) (n : Next) → Begin_if w.out.asked (begun_by e w n)
  begins_by w Nothing = tt
  begins_by w (Script t o left) = ordered_grows o (ready w (process_of o)) (counted t (process_of o) (record w.out { script = left }))
  begins_by w (Event p left) = happened_grows p.what (ready w (process_in p.what)) (counted p.time (process_in p.what) (with_left w.out left))

  begun_grows : (w : World A) (n : Next) (b : Begun A) → begun_by e w n ≡ Some b → Grows w.out.asked b.out.asked
  begun_grows w n b h = subst (Begin_if w.out.asked) h (begins_by w n)

  -- a whole run
  pub asks_grows : {w : World A} {lines : List Line} {qs : List Question} → Asks e w lines qs → Grows w.out.asked qs
  asks_grows {w = w} (ends last a) = still w.out.asked
  asks_grows {w = w} (spent b l a k n h) = grows_on (begun_grows w _ b k) (burst_grows n)
  asks_grows {w = w} (event b l a k n h r) = grows_on (begun_grows w _ b k) (grows_on (burst_grows n) (asks_grows r))
