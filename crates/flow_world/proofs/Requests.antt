-- What a process asks of the world.
use Rattle.std.proofs.Common.{◌≡◌, ℕ, suc, ◌+◌, ◌<◌, List, [], ◌∷◌, ◌++◌, length, take, refl, sym, ap, ap₂, subst, ◌∙◌, arith}
use Rattle.std.specs.Prelude.{fold}
use Rattle.std.proofs.lemmas.List.{length-append}
use Rattle.std.specs.declared.option.Option.TheVariants.{Some}
use Rattle.flow_base.specs.declared.ids.ProcId.{ProcId}
use Rattle.flow_draw.specs.declared.question.Question.{Question}
use Rattle.flow_draw.specs.declared.question.Question.TheVariants.{Among}
use Rattle.flow_draw.specs.Words.{next_word, word_at, noted_in, asked}
use Rattle.flow_draw.specs.Words as words
use Rattle.flow_draw.proofs.Asking.{first_noted}
use Rattle.flow_trace.specs.declared.line.Line.{Line}
use Rattle.flow_trace.specs.declared.line.Line.TheVariants as line
use Rattle.std.specs.Ordering.{nat_cmp}
use Rattle.std.specs.BTreeMap.{insert_entry}
use Rattle.flow_simnet.specs.declared.packet.Letter.{Letter}
use Rattle.flow_simnet.specs.declared.packet.Fate.{Fate}
use Rattle.flow_simnet.specs.declared.packet.Fate.TheVariants.{Cut, Drawn, At}
use Rattle.flow_simnet.specs.Links as table
use Rattle.flow_machine.specs.Requests.{call_of}
use Rattle.flow_meaning.specs.Outside.{What, Arrives, Answers, Outside, process_id, word_in, with_asked, with_pending, fate_in, drawn_by, sent_by, is_cut}
use Rattle.flow_world.specs.Changes.{Surroundings}
use Rattle.flow_world.specs.declared.outside.What as kept
use Rattle.flow_world.specs.declared.outside.What.TheVariants as kept_what
use Rattle.flow_world.specs.Changes as does
use Rattle.flow_world.specs.Representing.{letter_at, ArrivalRepresents, PendingRepresents, brings, coming, OutsideRepresents}
use Rattle.flow_world.specs.Laws.{WordDrawn, TimerAsked, DiskAsked, PacketSent, packet_sent, packet_lines, with_arrival, fate_lines}
use Rattle.flow_world.proofs.Numbers.{numbers_placed}
use Rattle.flow_world.proofs.Letters.{letter_put, letter_beside}
use Rattle.flow_world.proofs.Coming.{events_kept, placed_shows, once_placed, once_new, once_later}

-- words were drawn for questions: how many were drawn, and what is noted
pub more_drawn : (m : Surroundings) (w : Outside) (qs : List Question) → OutsideRepresents m w → m.draws.used + length qs ≡ length (w.asked ++ qs)
more_drawn m w qs s = ap (λ n. n + length qs) s.drawn ∙ sym (length-append w.asked qs)

pub more_noted : (m : Surroundings) (w : Outside) (qs : List Question) → OutsideRepresents m w
    → fold (noted_in m.draws.room) m.draws.noted qs ≡ take m.draws.room (w.asked ++ qs)
more_noted m w qs s = ap (λ ns. fold (noted_in m.draws.room) ns qs) s.noted ∙ first_noted m.draws.room w.asked qs

-- one more pending event that brings no packet
pub pending_more : (m : Surroundings) (w : Outside) (time : ℕ) (e : kept.What) (x : What) → ((n : ℕ) → brings n e ≡ 0)
    → ((ls : _) → PendingRepresents ls e x) → OutsideRepresents m w → OutsideRepresents (does.with_pending m time e) (with_pending w time x)
pending_more m w time e x none what s = record {
  seed = s.seed;
  words = s.words;
  processes = s.processes;
  latency = s.latency;
  loss = s.loss;
  diskdelay = s.diskdelay;
  time = s.time;
  sent = s.sent;
  drawn = s.drawn;
  noted = s.noted;
  made = ap suc s.made;
  events = placed_shows m.net.on_way _ _ m.timers.pending w.events.pending (record { time = refl; number = ap suc s.made; what = what m.net.on_way }) s.events;
  packets = once_placed m.net.sent _ m.timers.pending none s.packets;
  numbers = numbers_placed m.timers.made _ m.timers.pending refl s.numbers;
  table = s.table;
  cuts = s.cuts;
  disks = s.disks;
}

next_is : (m : Surroundings) (w : Outside) → OutsideRepresents m w → next_word m.draws ≡ word_in w 0
next_is m w s = rw (s.seed, s.words, s.drawn) (ap (word_at w.file.seed w.file.words) (omega arith))

pub word_drawn : (m : Surroundings) (w : Outside) → WordDrawn m w
word_drawn m w width s = (
  next_is m w s,
  record {
    seed = s.seed;
    words = s.words;
    processes = s.processes;
    latency = s.latency;
    loss = s.loss;
    diskdelay = s.diskdelay;
    time = s.time;
    sent = s.sent;
    drawn = more_drawn m w (Among width ∷ []) s;
    noted = more_noted m w (Among width ∷ []) s;
    made = s.made;
    events = s.events;
    packets = s.packets;
    numbers = s.numbers;
    table = s.table;
    cuts = s.cuts;
    disks = s.disks;
  },
)

pub timer_asked : (m : Surroundings) (w : Outside) → TimerAsked m w
timer_asked m w p k time s me = pending_more m w time _ _ (λ n. refl) (λ ls. rw me refl) s

pub disk_is_asked : (m : Surroundings) (w : Outside) → DiskAsked m w
disk_is_asked m w p k a s me =
    subst (λ d. OutsideRepresents (does.with_pending (does.with_word (table.width d) m) (m.time + does.next_delay m) (kept_what.Answers p k a)) after) (sym s.diskdelay)
    (subst (λ t. OutsideRepresents (does.with_pending (does.with_word width m) t (kept_what.Answers p k a)) after) (sym delayed)
    (pending_more (does.with_word width m) between time (kept_what.Answers p k a) (Answers w.active k.0 (call_of a)) (λ n. refl) (λ ls. rw me refl)
    (word_drawn m w width s).1))
  where
    width : ℕ
    width = table.width w.file.diskdelay

    between : Outside
    between = with_asked w (Among width ∷ [])

    after : Outside
    after = with_pending between (w.time + table.draw_in w.file.diskdelay (word_in w 0)) (Answers w.active k.0 (call_of a))

    time : ℕ
    time = w.time + table.draw_in w.file.diskdelay (word_in w 0)

    delayed : m.time + does.next_delay m ≡ time
    delayed = ap (λ t. t + does.next_delay m) s.time ∙ ap (λ d. w.time + table.draw_in d (next_word m.draws)) s.diskdelay ∙ ap (λ x. w.time + table.draw_in w.file.diskdelay x) (next_is m w s)

-- what becomes of a packet is the same
fate_is : (m : Surroundings) (w : Outside) (p q : ProcId) → OutsideRepresents m w → p.0 ≡ w.active → p.0 < w.file.processes → q.0 < w.file.processes
    → does.fate_of m p q ≡ fate_in w q.0
fate_is m w p q s me h i =
    ap (λ c. table.fate_by c m.net.loss m.net.latency m.time (words.word_in m.draws)) (s.cuts p.0 q.0 h i ∙ ap (λ a. is_cut w.cuts a q.0) me)
    ∙ rw (s.loss, s.latency, s.time, s.seed, s.words, s.drawn) refl

-- a packet was sent that doesn't come
lost_packet : (m : Surroundings) (w : Outside) (qs : List Question) → OutsideRepresents m w
    → OutsideRepresents (record m { net = record m.net { sent = suc m.net.sent }; draws = asked m.draws qs }) (with_asked (record w { sent = suc w.sent }) qs)
lost_packet m w qs s = record {
  seed = s.seed;
  words = s.words;
  processes = s.processes;
  latency = s.latency;
  loss = s.loss;
  diskdelay = s.diskdelay;
  time = s.time;
  sent = ap suc s.sent;
  drawn = more_drawn m w qs s;
  noted = more_noted m w qs s;
  made = s.made;
  events = s.events;
  packets = once_later m.net.sent m.timers.pending s.packets;
  numbers = s.numbers;
  table = s.table;
  cuts = s.cuts;
  disks = s.disks;
}

-- a packet was sent that comes at its time
coming_packet : (m : Surroundings) (w : Outside) (p q : ProcId) (port : ℕ) (text : List ℕ) (time : ℕ) → OutsideRepresents m w → p.0 ≡ w.active
    → OutsideRepresents (with_arrival (At time) q (suc m.net.sent) (does.sent_by (At time) (does.letter p q port text) m))
    (with_pending (with_asked (record w { sent = suc w.sent }) (table.questions_of m.net.loss m.net.latency (At time))) time
    (Arrives (suc w.sent) w.active q.0 port text))
coming_packet m w p q port text time s me = record {
  seed = s.seed;
  words = s.words;
  processes = s.processes;
  latency = s.latency;
  loss = s.loss;
  diskdelay = s.diskdelay;
  time = s.time;
  sent = ap suc s.sent;
  drawn = more_drawn m w (table.questions_of m.net.loss m.net.latency (At time)) s;
  noted = more_noted m w (table.questions_of m.net.loss m.net.latency (At time)) s;
  made = ap suc s.made;
  events = placed_shows on_way _ _ m.timers.pending w.events.pending
      (record { time = refl; number = ap suc s.made; what = subst (λ o. ArrivalRepresents q.0 (suc m.net.sent) o (Arrives (suc w.sent) w.active q.0 port text)) (sym there) (refl, arrival) })
      (events_kept m.net.on_way on_way m.timers.pending w.events.pending others s.events);
  packets = once_new m.net.sent time (suc m.timers.made) q m.timers.pending s.packets;
  numbers = numbers_placed m.timers.made _ m.timers.pending refl s.numbers;
  table = s.table;
  cuts = s.cuts;
  disks = s.disks;
}
  where
    letter : Letter
    letter = does.letter p q port text

    on_way : List (ℕ × Letter)
    on_way = insert_entry nat_cmp m.net.on_way (suc m.net.sent) letter

    there : letter_at on_way (suc m.net.sent) ≡ Some letter
    there = letter_put (suc m.net.sent) letter m.net.on_way

    arrival : Arrives (suc w.sent) w.active q.0 port text ≡ Arrives (suc m.net.sent) p.0 q.0 port text
    arrival = rw (s.sent, me) refl

    others : (n : ℕ) → 0 < coming n m.timers.pending → letter_at on_way n ≡ letter_at m.net.on_way n
    others n c = letter_beside n (suc m.net.sent) letter m.net.on_way
        (λ same. let nothing : coming n m.timers.pending ≡ 0 = (s.packets n).1 (omega (arith, same)) in omega (arith, nothing, c))

pub packet_is_sent : (m : Surroundings) (w : Outside) → PacketSent m w
packet_is_sent m w p q port text s me h i =
    subst (λ g. (packet_lines m p q port text ≡ (line.Send (suc w.sent) (process_id q.0) port text ∷ (outcome g).0)) × OutsideRepresents (packet_sent m p q port text) (outcome g).1)
    (fate_is m w p q s me h i) (by_fate (does.fate_of m p q))
  where
    sent : Outside
    sent = record w { sent = suc w.sent }

    outcome : Fate → List Line × Outside
    outcome g = sent_by g (drawn_by g sent) (suc w.sent) q.0 port text

    -- the same is asked
    questions : (f : Fate) → table.questions_of m.net.loss m.net.latency f ≡ table.questions_of w.file.loss w.file.latency f
    questions f = ap₂ (λ l r. table.questions_of l r f) s.loss s.latency

    by_fate : (f : Fate)
        → ((line.Send (suc m.net.sent) q port text ∷ fate_lines f (suc m.net.sent)) ≡ (line.Send (suc w.sent) (process_id q.0) port text ∷ (outcome f).0))
        × OutsideRepresents (with_arrival f q (suc m.net.sent) (does.sent_by f (does.letter p q port text) m)) (outcome f).1
    by_fate Cut = (rw s.sent refl, lost_packet m w [] s)
    by_fate Drawn = (
      rw s.sent refl,
      subst (λ qs. OutsideRepresents (does.sent_by Drawn (does.letter p q port text) m) (with_asked sent qs)) (questions Drawn)
          (lost_packet m w (table.questions_of m.net.loss m.net.latency Drawn) s),
    )
    by_fate (At time) = (
      rw s.sent refl,
      subst (λ qs. OutsideRepresents (with_arrival (At time) q (suc m.net.sent) (does.sent_by (At time) (does.letter p q port text) m))
          (with_pending (with_asked sent qs) time (Arrives (suc w.sent) w.active q.0 port text)))
          (questions (At time)) (coming_packet m w p q port text time s me),
    )
