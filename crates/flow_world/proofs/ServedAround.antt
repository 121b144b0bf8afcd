-- What the world around a process does for it, as the definitions say.
use Rattle.std.proofs.Common.{◌≡◌, ℕ, suc, ◌+◌, ◌<◌, List, [], ◌∷◌, refl, sym, ap, subst, ◌∙◌, arith}
use Rattle.std.specs.Prelude.{ℤ, Result, Ok, Err, IfOk, OnOk, OnErr, is_some}
use Rattle.std.specs.Option.{option_map}
use Rattle.std.specs.declared.option.Option.{Option}
use Rattle.std.specs.declared.option.Option.TheVariants.{None, Some}
use Rattle.flow_base.specs.declared.ids.CellId.{CellId}
use Rattle.flow_base.specs.declared.ids.ProcId.{ProcId}
use Rattle.flow_base.specs.declared.fault.OutFault.{OutFault}
use Rattle.flow_base.specs.declared.memory.NoMemory.{NoMemory}
use Rattle.flow_draw.specs.Words.{next_word, scaled}
use Rattle.flow_trace.specs.declared.line.Line.{Line}
use Rattle.flow_trace.specs.declared.line.Line.TheVariants.{Send, LostCut, LostDraw}
use Rattle.flow_simnet.specs.declared.packet.Fate.{Fate}
use Rattle.flow_simnet.specs.declared.packet.Fate.TheVariants.{Cut, Drawn, At}
use Rattle.flow_simnet.specs.Links as table
use Rattle.flow_simdisk.specs.declared.ask.DiskAsk.{DiskAsk}
use Rattle.flow_machine.specs.Requests.{call_of}
use Rattle.flow_numbered.specs.Numbered.{Numbered, thing, added}
use Rattle.flow_meaning.specs.Dropping.{port_of}
use Rattle.flow_meaning.specs.Requests.{Request, Drew, Timer, Packet, Disks}
use Rattle.flow_meaning.specs.Outside.{Outside, serve, supply}
use Rattle.flow_meaning.specs.Outside as meaning
use Rattle.flow_world.specs.declared.ports.Ports.{Ports}
use Rattle.flow_world.specs.declared.outside.What.TheVariants as kept
use Rattle.flow_world.specs.Changes.{Surroundings, with_pending, with_word, next_delay, fate_of, letter, sent_by}
use Rattle.flow_world.specs.Laws.{fate_lines, with_arrival, packet_sent, packet_lines, disk_asked}
use Rattle.flow_world.specs.Ports.{PortsRepresent}
use Rattle.flow_world.specs.Around.{SurroundingsRepresent, Puts, no_line, more_lines, PutsPart, put_then, put_fails}
use Rattle.flow_world.proofs.Requests.{word_drawn, timer_asked, packet_is_sent, disk_is_asked}

-- the process of the event stays the same
active_sent : (f : Fate) (w : Outside) (number to port : ℕ) (text : List ℕ) → w.active ≡ (meaning.sent_by f w number to port text).1.active
active_sent Cut w n q port text = refl
active_sent Drawn w n q port text = refl
active_sent (At time) w n q port text = refl

-- what an answer that is handed on says
pub handed_on : {T : Type 0} (P : Type 0) (r : Result T OutFault) (s : Result T NoMemory) → IfOk r (λ v. s ≡ Ok v) → OnOk s P → OnOk r P
handed_on P (Ok v) s e h = subst (λ t. OnOk t P) e h
handed_on P (Err x) s e h = tt

module _ {A : Type 0} (puts : A → Line → Result (Unit {0}) OutFault → A → Type 0) (me : ProcId) (p : Ports) (m : Surroundings) where
  -- a request is served: its lines are put, and what is outside then shows
  abbrev pub ServedTo : Request → A → A → Surroundings → Type 0
  ServedTo r o o1 n = (ps : Numbered ℕ) (w : Outside) → SurroundingsRepresent me p m ps w → Puts puts o (serve r w).0 o1 × SurroundingsRepresent me p n ps (serve r w).1

  -- a line
  pub line_written :
      (r : Result (Unit {0}) OutFault) (o o1 : A) (l : Line) → puts o l r o1
      → OnOk r (Puts puts o (l ∷ []) o1 × ((ps : Numbered ℕ) (w : Outside) → SurroundingsRepresent me p m ps w → SurroundingsRepresent me p m ps w))
  line_written (Ok done) o o1 l h = (more_lines h no_line, λ ps w s. s)
  line_written (Err e) o o1 l h = tt

  pub line_broke : (r : Result (Unit {0}) OutFault) (o o1 : A) (l : Line) → puts o l r o1 → OnErr r (PutsPart puts o (l ∷ []) o1)
  line_broke (Ok done) o o1 l h = tt
  line_broke (Err e) o o1 l h = put_fails h

  -- a drawn word
  pub word_served :
      (r : Result ℤ NoMemory) (o : A) (n : Surroundings) (lo : ℤ) (width : ℕ)
      → IfOk r (λ x. x ≡ scaled lo width (next_word m.draws)) → OnOk r (n ≡ with_word width m)
      → IfOk r (λ x. ServedTo (Drew width) o o n × ((ps : Numbered ℕ) (w : Outside) → SurroundingsRepresent me p m ps w → x ≡ scaled lo width (supply w).word))
  word_served (Ok x) o n lo width d e = (
    λ ps w h. (no_line, subst (λ z. SurroundingsRepresent me p z ps (serve (Drew width) w).1) (sym e) (record { outside = (word_drawn m w width h.outside).1; active = h.active; ports = h.ports })),
    λ ps w h. d ∙ ap (scaled lo width) (word_drawn m w width h.outside).0,
  )
  word_served (Err x) o n lo width d e = tt

  -- a timer
  pub timer_served :
      (r : Result (Unit {0}) NoMemory) (o : A) (n : Surroundings) (k : CellId) (time : ℕ) → OnOk r (n ≡ with_pending m time (kept.Rings me k))
      → OnOk r (ServedTo (Timer k.0 time) o o n)
  timer_served (Ok done) o n k time e = λ ps w h. (
    no_line,
    subst (λ z. SurroundingsRepresent me p z ps (serve (Timer k.0 time) w).1) (sym e)
        (record { outside = timer_asked m w me k time h.outside h.active; active = h.active; ports = h.ports }),
  )
  timer_served (Err x) o n k time e = tt

  -- a request to the disk
  pub disk_served :
      (r : Result (Unit {0}) NoMemory) (o : A) (n between : Surroundings) (k : CellId) (a : DiskAsk) (delay : ℕ)
      → delay ≡ next_delay m → between ≡ with_word (table.width m.disk_delay) m → OnOk r (n ≡ with_pending between (between.time + delay) (kept.Answers me k a))
      → OnOk r (ServedTo (Disks k.0 (call_of a)) o o n)
  disk_served (Ok done) o n between k a delay d b e = λ ps w h.
      let same : n ≡ disk_asked m me k a =
      e ∙ ap (λ z. with_pending z (z.time + delay) (kept.Answers me k a)) b ∙ ap (λ t. with_pending (with_word (table.width m.disk_delay) m) (m.time + t) (kept.Answers me k a)) d in (
        no_line,
        subst (λ z. SurroundingsRepresent me p z ps (serve (Disks k.0 (call_of a)) w).1) (sym same)
            (record { outside = disk_is_asked m w me k a h.outside h.active; active = h.active; ports = h.ports }),
      )
  disk_served (Err x) o n between k a delay d b e = tt

  -- a port
  pub port_opened :
      (r : Result (Unit {0}) NoMemory) (o : A) (q : Ports) (port k : ℕ)
      → OnOk r ((ps : Numbered ℕ) → PortsRepresent p ps → thing ps port ≡ None → port_of k ps ≡ None → PortsRepresent q (added ps port k))
      → OnOk r (Puts puts o [] o
      × ((ps : Numbered ℕ) (w : Outside) → SurroundingsRepresent me p m ps w → thing ps port ≡ None → port_of k ps ≡ None
      → SurroundingsRepresent me q m (added ps port k) w))
  port_opened (Ok done) o q port k f = (no_line, λ ps w h t u. record { outside = h.outside; active = h.active; ports = f ps h.ports t u })
  port_opened (Err x) o q port k f = tt

  -- a packet: its line, and what becomes of it
  module _ (q : ProcId) (port : ℕ) (text : List ℕ) (mine : me.0 < m.net.processes) (theirs : q.0 < m.net.processes) where
    packet_shown :
        (ps : Numbered ℕ) (w : Outside) → SurroundingsRepresent me p m ps w
        → (packet_lines m me q port text ≡ (serve (Packet q.0 port text) w).0)
        × SurroundingsRepresent me p (packet_sent m me q port text) ps (serve (Packet q.0 port text) w).1
    packet_shown ps w h =
        let s = packet_is_sent m w me q port text h.outside h.active (subst (λ n. me.0 < n) h.outside.processes mine) (subst (λ n. q.0 < n) h.outside.processes theirs) in
        let v : Outside = record w { sent = suc w.sent } in
        (s.0, record { outside = s.1; active = h.active ∙ active_sent (meaning.fate_in v q.0) (meaning.drawn_by (meaning.fate_in v q.0) v) v.sent q.0 port text; ports = h.ports })

    packet_served :
        (o o1 o2 : A) (n : Surroundings) (f : Fate) (number : ℕ) → number ≡ m.net.sent + 1 → f ≡ fate_of m me q
        → puts o (Send number q port text) (Ok tt) o1 → Puts puts o1 (fate_lines f number) o2
        → n ≡ with_arrival f q number (sent_by f (letter me q port text) m)
        → ServedTo (Packet q.0 port text) o o2 n
    packet_served o o1 o2 n f number e g sent rest same ps w h =
        let next : suc m.net.sent ≡ number = grind (arith, e) in
        let s = packet_shown ps w h in
        let lines : packet_lines m me q port text ≡ Send number q port text ∷ fate_lines f number =
        ap (λ j. Send j q port text ∷ fate_lines (fate_of m me q) j) next ∙ ap (λ x. Send number q port text ∷ fate_lines x number) (sym g) in
        let left : packet_sent m me q port text ≡ n =
        ap (λ j. with_arrival (fate_of m me q) q j (sent_by (fate_of m me q) (letter me q port text) m)) next
        ∙ ap (λ x. with_arrival x q number (sent_by x (letter me q port text) m)) (sym g) ∙ sym same in
        (subst (λ ls. Puts puts o ls o2) (sym lines ∙ s.0) (more_lines sent rest), subst (λ z. SurroundingsRepresent me p z ps (serve (Packet q.0 port text) w).1) left s.1)

    -- over a cut link, lost by a draw, and on its way
    pub packet_cut :
        (r : Result (Unit {0}) OutFault) (o o1 o2 : A) (n : Surroundings) (number : ℕ) → number ≡ m.net.sent + 1 → Cut ≡ fate_of m me q
        → puts o (Send number q port text) (Ok tt) o1 → puts o1 (LostCut number) r o2 → n ≡ sent_by Cut (letter me q port text) m
        → OnOk r (ServedTo (Packet q.0 port text) o o2 n)
    packet_cut (Ok done) o o1 o2 n number e g sent lost same = packet_served o o1 o2 n Cut number e g sent (more_lines lost no_line) same
    packet_cut (Err x) o o1 o2 n number e g sent lost same = tt

    pub packet_lost :
        (r : Result (Unit {0}) OutFault) (o o1 o2 : A) (n : Surroundings) (number : ℕ) → number ≡ m.net.sent + 1 → Drawn ≡ fate_of m me q
        → puts o (Send number q port text) (Ok tt) o1 → puts o1 (LostDraw number) r o2 → n ≡ sent_by Drawn (letter me q port text) m
        → OnOk r (ServedTo (Packet q.0 port text) o o2 n)
    packet_lost (Ok done) o o1 o2 n number e g sent lost same = packet_served o o1 o2 n Drawn number e g sent (more_lines lost no_line) same
    packet_lost (Err x) o o1 o2 n number e g sent lost same = tt

    pub packet_goes :
        (r : Result (Unit {0}) NoMemory) (o o1 : A) (n between : Surroundings) (number time : ℕ) → number ≡ m.net.sent + 1 → At time ≡ fate_of m me q
        → puts o (Send number q port text) (Ok tt) o1 → between ≡ sent_by (At time) (letter me q port text) m
        → OnOk r (n ≡ with_pending between time (kept.Arrives q number))
        → OnOk r (ServedTo (Packet q.0 port text) o o1 n)
    packet_goes (Ok done) o o1 n between number time e g sent b same =
        packet_served o o1 o1 n (At time) number e g sent no_line (same ∙ ap (λ z. with_pending z time (kept.Arrives q number)) b)
    packet_goes (Err x) o o1 n between number time e g sent b same = tt

    -- Where it can't be sent, a first part of its lines is put.
    abbrev pub SentInPart : A → A → Type 0
    SentInPart o b = (ps : Numbered ℕ) (w : Outside) → SurroundingsRepresent me p m ps w → PutsPart puts o (serve (Packet q.0 port text) w).0 b

    pub packet_in_part : (o b : A) (number : ℕ) → number ≡ m.net.sent + 1 → PutsPart puts o (Send number q port text ∷ fate_lines (fate_of m me q) number) b → SentInPart o b
    packet_in_part o b number e t ps w h =
        let next : suc m.net.sent ≡ number = grind (arith, e) in
        subst (λ ls. PutsPart puts o ls b) (ap (λ j. Send j q port text ∷ fate_lines (fate_of m me q) j) (sym next) ∙ (packet_shown ps w h).0) t

    pub line_in_part :
        (r : Result (Unit {0}) OutFault) (o o1 o2 : A) (number : ℕ) (f : Fate) (l : Line) → number ≡ m.net.sent + 1 → f ≡ fate_of m me q → fate_lines f number ≡ l ∷ []
        → puts o (Send number q port text) (Ok tt) o1 → puts o1 l r o2 → OnErr r (SentInPart o o2)
    line_in_part (Ok done) o o1 o2 number f l e g is sent lost = tt
    line_in_part (Err x) o o1 o2 number f l e g is sent lost =
        packet_in_part o o2 number e (subst (λ ls. PutsPart puts o (Send number q port text ∷ ls) o2) (sym is ∙ ap (λ y. fate_lines y number) g) (put_then sent (put_fails lost)))

-- whether there is a stream
pub stream_there : (r : Option CellId) (o : Option ℕ) → option_map (λ k. k.0) r ≡ o → is_some r ≡ is_some o
stream_there None o e = ap is_some e
stream_there (Some k) o e = ap is_some e
