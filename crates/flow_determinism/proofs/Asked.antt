-- Worlds that differ in what their drawn words were asked for, and not in how many there were, have runs with the same lines.
use Rattle.std.proofs.Common.{◌≡◌, ℕ, suc, ◌+◌, List, [], ◌∷◌, ◌++◌, Option, Some, None, length, refl, sym, ap, ◌∙◌, subst}
use Rattle.std.proofs.lemmas.List.{length-append}
use Rattle.flow_trace.specs.declared.line.Line.{Line}
use Rattle.flow_trace.specs.declared.line.Line.TheVariants as line
use Rattle.flow_worldfile.specs.declared.directive.Order.{Order}
use Rattle.flow_worldfile.specs.declared.directive.Order.TheVariants.{Kill, Stop, Boot, Cut, Heal, DiskFail}
use Rattle.flow_draw.specs.declared.question.Question.{Question}
use Rattle.flow_draw.specs.declared.question.Question.TheVariants.{Among}
use Rattle.flow_draw.specs.Words.{word_at}
use Rattle.flow_simnet.specs.declared.packet.Fate.{Fate}
use Rattle.flow_simnet.specs.declared.packet.Fate.TheVariants as fate
use Rattle.flow_simnet.specs.Links.{width, draw_in, fate_by, questions_of}
use Rattle.flow_simdisk.specs.declared.ask.DiskReply.{DiskReply}
use Rattle.flow_simdisk.specs.declared.ask.DiskReply.TheVariants.{Text, Done, Size, Failed}
use Rattle.flow_simdisk.specs.Disk.{File, Losing, power_lost, served as disk_served}
use Rattle.flow_meaning.specs.Requests.{Request, Drew, Timer, Packet, Disks, Supply, DiskCall, ReadCall, WriteCall, SyncCall, SizeCall}
use Rattle.flow_meaning.specs.Process.{Proc, Engine}
use Rattle.flow_meaning.specs.Deliver.{deliver}
use Rattle.flow_meaning.specs.Step.{Stepped, step}
use Rattle.flow_meaning.specs.Burst as burst
use Rattle.flow_meaning.specs.Burst.{Live, live, served, advanced, advance, Burst, rests, steps}
use Rattle.flow_meaning.specs.Outside.{What, Boots, Rings, Arrives, Answers, Outside, process_id, with_pending, with_asked, is_cut, sent_by, drawn_by, fate_in, after_line, serve, supply, host}
use Rattle.flow_meaning.specs.World.{Place, World, Begun, Next, Nothing, Script, Event, next_of, begun_by, ending, ordered, happened, arrived, listener, lost, alone, with_core, with_disk, disk_of, disk_line, disk_outcome, ready, counted, with_left, process_of, process_in}
use Rattle.flow_meaning.specs.Runs.{Runs, ends, spent, event, after}
use Rattle.flow_determinism.specs.Asked.{asked_for, LinesByDrawn}

abbrev again : List Question → Outside → Outside
again qs o = record o { asked = qs }

abbrev AsMany : List Question → Outside → Type 0
AsMany qs o = length qs ≡ length o.asked

more : (qs os rs : List Question) → length qs ≡ length os → length (qs ++ rs) ≡ length (os ++ rs)
more qs os rs h = length-append qs rs ∙ ap (λ n. n + length rs) h ∙ sym (length-append os rs)

-- the same lines, and the same world but for its questions, of which there are as many
record Served (x y : List Line × Outside) : Type 0 where
  asked : List Question
  many : AsMany asked x.1
  same : y ≡ (x.0, again asked x.1)

sent_again : (f : Fate) (l : Line) (o : Outside) (qs : List Question) (m q port : ℕ) (text : List ℕ) → AsMany qs o
    → Served (after_line l (sent_by f (drawn_by f o) m q port text)) (after_line l (sent_by f (drawn_by f (again qs o)) m q port text))
sent_again fate.Cut l o qs m q port text h = record { asked = qs ++ []; many = more qs o.asked [] h; same = refl }
sent_again fate.Drawn l o qs m q port text h =
    let rs = questions_of o.file.loss o.file.latency fate.Drawn in record { asked = qs ++ rs; many = more qs o.asked rs h; same = refl }
sent_again (fate.At time) l o qs m q port text h =
    let rs = questions_of o.file.loss o.file.latency (fate.At time) in record { asked = qs ++ rs; many = more qs o.asked rs h; same = refl }

serve_again : (q : Request) (o : Outside) (qs : List Question) → AsMany qs o → Served (serve q o) (serve q (again qs o))
serve_again (Drew n) o qs h = record { asked = qs ++ Among n ∷ []; many = more qs o.asked (Among n ∷ []) h; same = refl }
serve_again (Timer cell time) o qs h = record { asked = qs; many = h; same = refl }
serve_again (Packet q port text) o qs h =
    let v = record o { sent = suc o.sent } in
    let l = line.Send v.sent (process_id q) port text in
    let same : fate_in (again qs v) q ≡ fate_in v q =
    ap (λ n. fate_by (is_cut o.cuts o.active q) o.file.loss o.file.latency o.time (λ k. word_at o.file.seed o.file.words (n + k))) h in
    subst (λ f. Served (serve (Packet q port text) o) (after_line l (sent_by f (drawn_by f (again qs v)) v.sent q port text))) (sym same)
    (sent_again (fate_in v q) l v qs v.sent q port text h)
serve_again (Disks cell call) o qs h =
    let rs = Among (width o.file.diskdelay) ∷ [] in
    record {
      asked = qs ++ rs;
      many = more qs o.asked rs h;
      same = ap (λ n. ([], with_pending (with_asked (again qs o) rs) (o.time + draw_in o.file.diskdelay (word_at o.file.seed o.file.words (n + 0))) (Answers o.active cell call))) h;
    }

supply_again : (o : Outside) (qs : List Question) → AsMany qs o → supply (again qs o) ≡ supply o
supply_again o qs h = ap (λ n. record { now = o.time; processes = o.file.processes; word = word_at o.file.seed o.file.words (n + 0) }) h

-- the line of a disk's answer
disk_line_again : (call : DiskCall ℕ) (r : DiskReply) (o : Outside) (qs : List Question) (c : ℕ) → disk_line call r (again qs o) c ≡ disk_line call r o c
disk_line_again (ReadCall x a n) (Text ts) o qs c = refl
disk_line_again (ReadCall x a n) Done o qs c = refl
disk_line_again (ReadCall x a n) (Size k) o qs c = refl
disk_line_again (ReadCall x a n) Failed o qs c = refl
disk_line_again (WriteCall x a bs) (Text ts) o qs c = refl
disk_line_again (WriteCall x a bs) Done o qs c = refl
disk_line_again (WriteCall x a bs) (Size k) o qs c = refl
disk_line_again (WriteCall x a bs) Failed o qs c = refl
disk_line_again (SyncCall x) (Text ts) o qs c = refl
disk_line_again (SyncCall x) Done o qs c = refl
disk_line_again (SyncCall x) (Size k) o qs c = refl
disk_line_again (SyncCall x) Failed o qs c = refl
disk_line_again (SizeCall x) (Text ts) o qs c = refl
disk_line_again (SizeCall x) Done o qs c = refl
disk_line_again (SizeCall x) (Size k) o qs c = refl
disk_line_again (SizeCall x) Failed o qs c = refl

module _ {A : Type 0} (e : Engine A) where
  abbrev LiveAgain : Option (Live Outside A) → Option (Live Outside A) → Type 0
  LiveAgain None y = y ≡ None
  LiveAgain (Some l) y = (qs : List Question) × AsMany qs l.out × (y ≡ Some (live l.proc (again qs l.out)))

  advanced_again : (o : Outside) (qs : List Question) → AsMany qs o → (x : Option (Stepped A)) → LiveAgain (advanced host o x) (advanced host (again qs o) x)
  advanced_again o qs h None = refl
  advanced_again o qs h (Some s) = by_ask s.1
    where
      by_ask : (q : Option Request) → LiveAgain (Some (burst.serve host q s.0 o)) (Some (burst.serve host q s.0 (again qs o)))
      by_ask None = (qs, h, refl)
      by_ask (Some q) = let k = serve_again q o qs h in (k.asked, k.many, ap (λ y. Some (served s.0 y)) k.same)

  advance_again : (p : Proc A) (o : Outside) (qs : List Question) → AsMany qs o → LiveAgain (advance e host (live p o)) (advance e host (live p (again qs o)))
  advance_again p o qs h =
      subst (λ s. LiveAgain (advance e host (live p o)) (advanced host (again qs o) (step e s p))) (sym (supply_again o qs h)) (advanced_again o qs h (step e (supply o) p))

  burst_again : {s t : Live Outside A} → Burst e host s t → (qs : List Question) → AsMany qs s.out
      → (rs : List Question) × AsMany rs t.out × Burst e host (live s.proc (again qs s.out)) (live t.proc (again rs t.out))
  burst_again {s = s} (rests none) qs h =
      (qs, h, rests (subst (λ x. LiveAgain x (advance e host (live s.proc (again qs s.out)))) none (advance_again s.proc s.out qs h)))
  burst_again {s = s} (steps r a k) qs h =
      let one = subst (λ x. LiveAgain x (advance e host (live s.proc (again qs s.out)))) a (advance_again s.proc s.out qs h) in
      let rest = burst_again k one.0 one.1 in (rest.0, rest.1, steps (live r.proc (again one.0 r.out)) one.2 rest.2)

  abbrev begun_with : List Question → Begun A → Begun A
  begun_with qs b = record { head = b.head; place = b.place; out = again qs b.out }

  abbrev Begins : Begun A → Begun A → Type 0
  Begins b c = (qs : List Question) × AsMany qs b.out × (c ≡ begun_with qs b)

  ordered_again : (x : Order) (at : Place A) (o : Outside) (qs : List Question) → AsMany qs o → Begins (ordered e x at o) (ordered e x at (again qs o))
  ordered_again (Boot p) at o qs h = (qs, h, refl)
  ordered_again (Stop p) at o qs h = (qs, h, refl)
  ordered_again (Kill p) at o qs h =
      let loss : ℕ → Losing (List (List ℕ × File)) = λ n. power_lost (λ k. word_at o.file.seed o.file.words (n + k)) (disk_of o p).files in
      let rs = (loss (length o.asked)).asked in
      (qs ++ rs, more qs o.asked rs h, ap (λ n. lost (line.Kill o.ran o.time (process_id p) ∷ []) p at (again qs o) (loss n)) h)
  ordered_again (Cut p q) at o qs h = (qs, h, refl)
  ordered_again (Heal p q) at o qs h = (qs, h, refl)
  ordered_again (DiskFail p n) at o qs h = (qs, h, refl)

  arrived_again : (m from port : ℕ) (text : List ℕ) (at : Place A) (o : Outside) (x : Option ℕ) (qs : List Question) → AsMany qs o
      → Begins (arrived m from port text at o x) (arrived m from port text at (again qs o) x)
  arrived_again m from port text at o None qs h = (qs, h, refl)
  arrived_again m from port text at o (Some cell) qs h = (qs, h, refl)

  happened_again : (x : What) (at : Place A) (o : Outside) (qs : List Question) → AsMany qs o → Begins (happened e x at o) (happened e x at (again qs o))
  happened_again (Boots p) at o qs h = (qs, h, refl)
  happened_again (Rings p c) at o qs h = (qs, h, refl)
  happened_again (Arrives m from to port text) at o qs h = arrived_again m from port text at o (listener at port) qs h
  happened_again (Answers p c call) at o qs h =
      let r = disk_served call (disk_of o p).fails (disk_of o p).files in
      (qs, h, ap (λ l. alone l (with_core at (deliver c (disk_outcome r.1))) (with_disk (again qs o) o.active r.0)) (disk_line_again call r.1 o qs c))

  abbrev BegunAgain : Option (Begun A) → Option (Begun A) → Type 0
  BegunAgain None y = y ≡ None
  BegunAgain (Some b) y = (qs : List Question) × AsMany qs b.out × (y ≡ Some (begun_with qs b))

  begun_again : (w : World A) (n : Next) (qs : List Question) → AsMany qs w.out → BegunAgain (begun_by e w n) (begun_by e (asked_for qs w) n)
  begun_again w Nothing qs h = refl
  begun_again w (Script t x left) qs h =
      let k = ordered_again x (ready w (process_of x)) (counted t (process_of x) (record w.out { script = left })) qs h in (k.0, k.1, ap Some k.2)
  begun_again w (Event p left) qs h =
      let k = happened_again p.what (ready w (process_in p.what)) (counted p.time (process_in p.what) (with_left w.out left)) qs h in (k.0, k.1, ap Some k.2)

  ending_again : (o : Outside) (n : Next) (qs : List Question) → ending (again qs o) n ≡ ending o n
  ending_again o Nothing qs = refl
  ending_again o (Script t x left) qs = refl
  ending_again o (Event p left) qs = refl

  runs_again : {w : World A} {states : List (World A)} {lines : List Line} → Runs e w states lines → (qs : List Question) → AsMany qs w.out
      → (others : List (World A)) × Runs e (asked_for qs w) others lines
  runs_again {w = w} (ends last x) qs h = ([], ends last (ending_again w.out (next_of w.out) qs ∙ x))
  runs_again {w = w} (spent b l going begun k halted) qs h =
      let g = subst (λ x. BegunAgain x (begun_by e (asked_for qs w) (next_of w.out))) begun (begun_again w (next_of w.out) qs h) in
      let m = burst_again k g.0 g.1 in
      ([], spent (begun_with g.0 b) (live l.proc (again m.0 l.out)) (ending_again w.out (next_of w.out) qs ∙ going) g.2 m.2 halted)
  runs_again {w = w} (event b l going begun k halted rest) qs h =
      let g = subst (λ x. BegunAgain x (begun_by e (asked_for qs w) (next_of w.out))) begun (begun_again w (next_of w.out) qs h) in
      let m = burst_again k g.0 g.1 in
      let on = runs_again rest m.0 m.1 in (
        asked_for m.0 (after w b l) ∷ on.0,
        event (begun_with g.0 b) (live l.proc (again m.0 l.out)) (ending_again w.out (next_of w.out) qs ∙ going) g.2 m.2 halted on.1,
      )

  pub lines_by_drawn : LinesByDrawn e
  lines_by_drawn w qs states lines h k = runs_again k qs h
