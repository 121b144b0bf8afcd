-- Each kind of event that does something to a process.
use Rattle.std.proofs.Common.{◌≡◌, ℕ, pos, Bool, true, false, [], ◌∷◌, Option, Some, None, refl, sym, ap, ap₂, ◌∙◌, subst, arith, if◌then◌else◌}
use Rattle.std.specs.Prelude.{Result, Ok, slice_get}
use Rattle.std.specs.Option.{option_map}
use Rattle.std.specs.Map.{remove_entry}
use Rattle.std.specs.Ordering.{nat_cmp}
use Rattle.std.specs.BTreeMap.{is_at}
use Rattle.flow_base.specs.declared.ids.CellId.{CellId}
use Rattle.flow_base.specs.declared.ids.ProcId.{ProcId}
use Rattle.flow_base.specs.declared.fault.OutFault.{OutFault}
use Rattle.flow_trace.specs.declared.line.Line.{Line}
use Rattle.flow_trace.specs.declared.line.Line.TheVariants as line
use Rattle.flow_value.specs.declared.value.Kind.TheVariants as kind
use Rattle.flow_value.specs.declared.value.Value.TheVariants.{Void, rolls-Void}
use Rattle.flow_value.specs.declared.value.Value.TheFolds.{fold-roll-Value}
use Rattle.flow_value.specs.declared.value.Value.TheOpen as layer
use Rattle.flow_value.specs.declared.value.Outcome.TheVariants as outcome
use Rattle.flow_value.specs.Values.{ValueTree, VoidValue, OutcomeTree, GoodOutcome}
use Rattle.flow_value.specs.View.{value_of, value_step}
use Rattle.flow_simnet.specs.declared.packet.Letter.{Letter}
use Rattle.flow_simnet.specs.Links.{numbered}
use Rattle.flow_simdisk.specs.declared.ask.DiskAsk.{DiskAsk}
use Rattle.flow_simdisk.specs.declared.ask.DiskAsk.TheVariants as ask
use Rattle.flow_simdisk.specs.declared.ask.DiskReply.{DiskReply}
use Rattle.flow_simdisk.specs.declared.ask.DiskReply.TheVariants.{Text, Done, Size, Failed}
use Rattle.flow_simdisk.specs.Disk.{Disk, served}
use Rattle.flow_class.specs.Classes.{RawTree}
use Rattle.flow_meaning.specs.Class.{classes}
use Rattle.flow_meaning.specs.Deliver.{deliver, arrive}
use Rattle.flow_meaning.specs.Frame.{Frame}
use Rattle.flow_numbered.specs.Numbered.{thing}
use Rattle.flow_meaning.specs.References.{refs_in, value_in}
use Rattle.flow_meaning.specs.Orderly.{UnlessStopped}
use Rattle.flow_meaning.specs.Outside.{Outside, process_id}
use Rattle.flow_meaning.specs.World.{Place, World, Begun, ready, booted, alone, with_core, with_disk, disk_of, disk_line, disk_outcome, packet, listener}
use Rattle.flow_meaning.specs.World as meaning
use Rattle.flow_meaning.specs.Deliver as brings
use Rattle.flow_machine.specs.Requests.{call_of}
use Rattle.flow_machine.specs.declared.host.Burst as burst_end
use Rattle.flow_heap_refinement.specs.Holds.{There, AllThere}
use Rattle.flow_heap_refinement.specs.Rested.{has}
use Rattle.flow_steps.specs.Holding.{outcome_refs}
use Rattle.flow_steps.specs.Evaluating.{program_time}
use Rattle.flow_world.specs.declared.action.EventAction.TheVariants.{Boots, Stops, Delivers, Brings}
use Rattle.flow_world.specs.Answers.{answer_line}
use Rattle.flow_world.specs.Changes.{Surroundings}
use Rattle.flow_world.specs.Ending.{Seen}
use Rattle.flow_world.specs.Happening.{Runs, PutsThen, Taken, Arrived, Answered, HeardIn, HeardIfUp, ends, with_outside, arrived}
use Rattle.flow_world.specs.Representing.{OutsideRepresents, letter_at, coming}
use Rattle.flow_world.proofs.Coming.{events_kept}
use Rattle.flow_world.proofs.Events.{disk_served}
use Rattle.flow_world.proofs.Letters.{letter_left}
use Rattle.flow_world.proofs.Putting.{puts_one}
use Rattle.flow_world.specs.Around.{Puts, more_lines}
use Rattle.flow_burst_refinement.specs.Enabled.Tasking.{IsProgram}
use Rattle.flow_operation_refinement.specs.Working.{Sendable}
use Rattle.flow_burst_refinement.specs.Invariants.Invariant.{ProcessInvariant}
use Rattle.flow_world_refinement.specs.Effects.Actions.{ActionRefines}
use Rattle.flow_world_refinement.specs.Effects.Quiescence.{StaysQuiescent}
use Rattle.flow_world_refinement.proofs.Events.Placing.{place_of, Found}
use Rattle.flow_world_refinement.proofs.Events.Acting.{Going, Follows, shown_at, idles, runs, boots}

-- the line of a disk's answer
pub disk_line_is : (asked : DiskAsk) (reply : DiskReply) (o : Outside) (k : CellId) → disk_line (call_of asked) reply o k.0 ≡ answer_line asked reply o.ran o.time (process_id o.active) k
disk_line_is (ask.Read file offset count) (Text bytes) o k = refl
disk_line_is (ask.Read file offset count) Done o k = refl
disk_line_is (ask.Read file offset count) (Size n) o k = refl
disk_line_is (ask.Read file offset count) Failed o k = refl
disk_line_is (ask.Write file offset text) (Text bytes) o k = refl
disk_line_is (ask.Write file offset text) Done o k = refl
disk_line_is (ask.Write file offset text) (Size n) o k = refl
disk_line_is (ask.Write file offset text) Failed o k = refl
disk_line_is (ask.Sync file) (Text bytes) o k = refl
disk_line_is (ask.Sync file) Done o k = refl
disk_line_is (ask.Sync file) (Size n) o k = refl
disk_line_is (ask.Sync file) Failed o k = refl
disk_line_is (ask.Size file) (Text bytes) o k = refl
disk_line_is (ask.Size file) Done o k = refl
disk_line_is (ask.Size file) (Size n) o k = refl
disk_line_is (ask.Size file) Failed o k = refl

-- what a disk answers, and a packet, refer to nothing
pub answers_plain : (reply : DiskReply) → refs_in (value_in (disk_outcome reply)) ≡ []
answers_plain (Text bytes) = refl
answers_plain Done = refl
answers_plain (Size n) = refl
answers_plain Failed = refl

-- nothing is seen as itself
pub void_seen : value_of Void ≡ VoidValue
void_seen = ap value_of (sym rolls-Void) ∙ fold-roll-Value ValueTree value_step layer.Void

-- the packet of a number, that no pending event brings, is taken off
pub letter_taken : (m : Surroundings) (o : Outside) (n : ℕ) → coming n m.timers.pending ≡ 0 → OutsideRepresents m o
    → OutsideRepresents (record m { net = record m.net { on_way = remove_entry (is_at (nat_cmp n)) m.net.on_way } }) o
letter_taken m o n none s = record {
  seed = s.seed;
  words = s.words;
  processes = s.processes;
  latency = s.latency;
  loss = s.loss;
  diskdelay = s.diskdelay;
  time = s.time;
  sent = s.sent;
  drawn = s.drawn;
  noted = s.noted;
  made = s.made;
  events =
      events_kept m.net.on_way (remove_entry (is_at (nat_cmp n)) m.net.on_way) m.timers.pending o.events.pending
      (λ j some. letter_left j n m.net.on_way (λ same. absurd (omega (arith, some, subst (λ k. coming k m.timers.pending ≡ 0) (sym same) none)))) s.events;
  packets = s.packets;
  numbers = s.numbers;
  table = s.table;
  cuts = s.cuts;
  disks = s.disks;
}

module _ (r : RawTree) {A : Type 0} (puts : A → Line → Result (Unit {0}) OutFault → A → Type 0) where
  -- what a begun event keeps, unless it is spent
  abbrev pub GoesOn : Begun Frame → Type 0
  GoesOn g = UnlessStopped g.place.proc.core.halted (ProcessInvariant r g.place.proc)

  -- an event begun in memory and by the definitions, at a time that programs can tell
  pub record Begins (m : World Frame) (u : Seen) (o : Outside) (p : ProcId) : Type 0 where
    pub program : IsProgram r u.code
    pub deed : ActionRefines puts r u.code
    pub still : StaysQuiescent r
    pub going : Going r m u o
    pub active : p.0 ≡ o.active
    pub clock : program_time u.outside.time ≡ pos u.outside.time
    pub held : ProcessInvariant r (ready m p.0).proc

  module _ (m : World Frame) (u : Seen) (o : Outside) (p : ProcId) (g : Begins m u o p) (a b : A) (e : burst_end.Burst) (v : Seen) where
    -- the line of it
    line_put : (l : (ran time : ℕ) → Line) (c : A) → puts a (l u.ran u.outside.time) (Ok tt) c → Puts puts a (l o.ran o.time ∷ []) c
    line_put l c told = puts_one puts a c (l o.ran o.time) (subst (λ x. puts a x (Ok tt) c) (ap₂ l g.going.ran g.going.outside.time) told)

    pub boot_follows : (let x : Begun Frame = alone (line.Boot o.ran o.time (process_id p.0)) (booted (classes r) p.0 (ready m p.0) (ready m p.0).proc.core.main) o in
        GoesOn x → PutsThen puts (line.Boot u.ran u.outside.time p) (λ c. Runs puts p Boots u c e v b) a → Follows r puts m x a e (ends e v) b)
    boot_follows kept t =
        boots r puts m u o p (line.Boot o.ran o.time p ∷ []) a g.program g.deed g.going g.active g.clock g.held t.between b e v g.still
        (line_put (λ n i. line.Boot n i p) t.between t.told) kept t.rest

    pub stop_follows : (let x : Begun Frame = alone (line.Stop o.ran o.time (process_id p.0)) (with_core (ready m p.0) brings.stop) o in
        GoesOn x → PutsThen puts (line.Stop u.ran u.outside.time p) (λ c. Runs puts p Stops u c e v b) a → Follows r puts m x a e (ends e v) b)
    stop_follows kept t =
        runs r puts m u o p (line.Stop o.ran o.time p ∷ []) a g.program g.deed g.going g.active g.clock g.held Stops t.between b e v (λ k. refl)
        (line_put (λ n i. line.Stop n i p) t.between t.told) tt kept t.rest

    -- a timer answers
    pub timer_follows : (k : CellId) → has k.0 (place_of m.places p.0).proc.core.requests ≡ true → Sendable (place_of m.places p.0).proc kind.Promise k.0
        → (let x : Begun Frame = alone (line.Timer o.ran o.time (process_id p.0) (record { 0 = k.0 })) (with_core (ready m p.0) (deliver k.0 (GoodOutcome VoidValue))) o in
        GoesOn x → PutsThen puts (line.Timer u.ran u.outside.time p k) (λ c. Runs puts p (Delivers k (outcome.Value Void)) u c e v b) a → Follows r puts m x a e (ends e v) b)
    timer_follows k requested can kept t =
        subst (λ (z : ValueTree). GoesOn (of_value z) → Follows r puts m (of_value z) a e (ends e v) b) void_seen
        (λ kept. runs r puts m u o p (line.Timer o.ran o.time p k ∷ []) a g.program g.deed g.going g.active g.clock g.held (Delivers k (outcome.Value Void)) t.between b e v (λ k. refl)
        (line_put (λ n i. line.Timer n i p k) t.between t.told) (requested, can, subst (AllThere (place_of m.places p.0).proc) (ap (λ z. refs_in (value_in (GoodOutcome z))) (sym void_seen)) tt) kept
        t.rest)
        kept
      where
        of_value : ValueTree → Begun Frame
        of_value z = alone (line.Timer o.ran o.time p k) (with_core (ready m p.0) (deliver k.0 (GoodOutcome z))) o

  -- what a disk of a process serves shows
  pub serves : (m : World Frame) (u : Seen) (o : Outside) (p : ProcId) (g : Begins m u o p) (n : Surroundings) (d : Disk) → n.time ≡ u.outside.time → OutsideRepresents n (with_disk o p.0 d)
      → Begins m (with_outside n u) (with_disk o o.active d) p
  serves m u o p g n d same shown =
      let s = g.going in
      record {
        program = g.program;
        deed = g.deed;
        still = g.still;
        going = record {
          places = s.places;
          outside = subst (λ j. OutsideRepresents n (with_disk o j d)) g.active shown;
          script = s.script;
          ran = s.ran;
          bound = s.bound;
          turns = s.turns;
          file = s.file;
        };
        active = g.active;
        clock = subst (λ t. program_time t ≡ pos t) (sym same) g.clock;
        held = g.held;
      }

  module _ (m : World Frame) (u : Seen) (o : Outside) (p : ProcId) (g : Begins m u o p) (a b : A) (e : burst_end.Burst) (v : Seen) where
    -- a disk answers
    pub answer_follows : (k : CellId) (asked : DiskAsk) → has k.0 (place_of m.places p.0).proc.core.requests ≡ true → Sendable (place_of m.places p.0).proc kind.Promise k.0
        → (let x : Begun Frame = meaning.answered k.0 (call_of asked) (ready m p.0) o (served (call_of asked) (disk_of o p.0).fails (disk_of o p.0).files) in
        GoesOn x → Answered puts p k asked u a e v b → Follows r puts m x a e (ends e v) b)
    answer_follows k asked requested can kept t =
        subst (λ (z : DiskReply). GoesOn (of_reply z) → Follows r puts m (of_reply z) a e (ends e v) b) replied
        (subst (λ (z : OutcomeTree). GoesOn (of_outcome z) → Follows r puts m (of_outcome z) a e (ends e v) b) t.answer
        (λ kept. runs r puts m now (with_disk o o.active gives.0) p (disk_line (call_of asked) t.reply o k.0 ∷ []) a then_begun.program then_begun.deed then_begun.going then_begun.active
        then_begun.clock then_begun.held
        (Delivers k t.outcome) t.between b e v (λ k. refl) (puts_one puts a t.between (disk_line (call_of asked) t.reply o k.0) (subst (λ l. puts a l (Ok tt) t.between) line_is t.told))
        (requested, can, subst (AllThere (place_of m.places p.0).proc) (sym plain) tt) kept t.runs))
        kept
      where
        gives : Disk × DiskReply
        gives = served (call_of asked) (disk_of o p.0).fails (disk_of o p.0).files

        shown : (t.reply ≡ gives.1) × OutsideRepresents t.served (with_disk o p.0 gives.0)
        shown = disk_served u.outside o p (call_of asked) t.served t.reply g.going.outside t.serves

        replied : t.reply ≡ gives.1
        replied = shown.0

        now : Seen
        now = with_outside t.served u

        same : t.served.time ≡ u.outside.time
        same = ap (λ z. z.time) t.serves.left

        then_begun : Begins m now (with_disk o o.active gives.0) p
        then_begun = serves m u o p g t.served gives.0 same shown.1

        of_reply : DiskReply → Begun Frame
        of_reply z = alone (disk_line (call_of asked) z o k.0) (with_core (ready m p.0) (deliver k.0 (disk_outcome z))) (with_disk o o.active gives.0)

        of_outcome : OutcomeTree → Begun Frame
        of_outcome z = alone (disk_line (call_of asked) t.reply o k.0) (with_core (ready m p.0) (deliver k.0 z)) (with_disk o o.active gives.0)

        line_is : answer_line asked t.reply u.ran u.outside.time p k ≡ disk_line (call_of asked) t.reply o k.0
        line_is =
            ap₂ (λ n i. answer_line asked t.reply n i p k) g.going.ran g.going.outside.time ∙ ap (λ i. answer_line asked t.reply o.ran o.time (process_id i) k) g.active
            ∙ sym (disk_line_is asked t.reply o k)

        plain : outcome_refs t.outcome ≡ []
        plain = ap (λ z. refs_in (value_in z)) t.answer ∙ answers_plain t.reply

    -- who hears it, by both
    pub heard_is : (port : ℕ) (heard : Option CellId) → Found u.places p.0 → HeardIn (slice_get u.places p.0) port heard → option_map (λ k. k.0) heard ≡ listener (ready m p.0) port
    heard_is port heard f hears = by_up f.at.up refl (subst (λ z. HeardIn z port heard) f.there hears)
      where
        up_is : f.at.up ≡ (place_of m.places p.0).up
        up_is = (shown_at r m u o p f.at g.going f.there).up

        by_up : (t : Bool) → f.at.up ≡ t → HeardIfUp t f.at port heard → option_map (λ k. k.0) heard ≡ listener (ready m p.0) port
        by_up true q h =
            h (place_of m.places p.0).proc.core.ports (shown_at r m u o p f.at g.going f.there).ports
            ∙ ap (λ t. if t then thing (place_of m.places p.0).proc.core.ports port else None) (sym q ∙ up_is)
        by_up false q h = ap (option_map (λ k. k.0)) h ∙ ap (λ t. if t then thing (place_of m.places p.0).proc.core.ports port else None) (sym q ∙ up_is)

    -- a packet comes: to a stream that is heard, or it is discarded
    module _ (n : ℕ) (l : Letter) (shown : OutsideRepresents (arrived n u).outside o) where
      abbrev went : Seen
      went = arrived n u

      going : Going r m went o
      going = let s = g.going in record { places = s.places; outside = shown; script = s.script; ran = s.ran; bound = s.bound; turns = s.turns; file = s.file }

      abbrev comes_to : Option ℕ → Begun Frame
      comes_to x = meaning.arrived n l.from.0 l.port l.text (ready m p.0) o x

      arrival : (c : A) → puts a (line.Arrival u.ran u.outside.time p n) (Ok tt) c → puts a (line.Arrival o.ran o.time (process_id o.active) n) (Ok tt) c
      arrival c told =
          subst (λ i. puts a (line.Arrival o.ran o.time (process_id i) n) (Ok tt) c) g.active
          (subst (λ x. puts a x (Ok tt) c) (ap₂ (λ k i. line.Arrival k i p n) g.going.ran g.going.outside.time) told)

      by_hearing :
          (c : A) (heard : Option CellId) → Found u.places p.0 → ((k : CellId) → heard ≡ Some k → There (place_of m.places p.0).proc (kind.PromiseStream, k.0))
          → puts a (line.Arrival u.ran u.outside.time p n) (Ok tt) c → GoesOn (comes_to (option_map (λ k. k.0) heard)) → Taken puts heard p (numbered n l) went c e v b
          → Follows r puts m (comes_to (option_map (λ k. k.0) heard)) a e (ends e v) b
      by_hearing c None f can told kept t =
          subst (λ z. Follows r puts m (comes_to None) a e (ends e z) b) (sym t.2)
          (subst (λ z. Follows r puts m (comes_to None) a z (ends z went) b) (sym t.1)
          (idles r puts m went o p f.at (line.Arrival o.ran o.time (process_id o.active) n ∷ line.Discard n ∷ []) a b g.still going g.active f.there
          (more_lines (arrival c told) (puts_one puts c b (line.Discard n) t.0))))
      by_hearing c (Some k) f can told kept t =
          subst (λ (z : ValueTree). GoesOn (of_value z) → Follows r puts m (of_value z) a e (ends e v) b) t.1
          (λ kept. runs r puts m went o p (line.Arrival o.ran o.time (process_id o.active) n ∷ []) a g.program g.deed going g.active g.clock g.held (Brings k t.0) c b e v (λ k. refl)
          (puts_one puts a c (line.Arrival o.ran o.time (process_id o.active) n) (arrival c told))
          (can k refl, subst (AllThere (place_of m.places p.0).proc) (ap (λ z. refs_in (value_in (GoodOutcome z))) (sym t.1)) tt) kept t.2)
          kept
        where
          of_value : ValueTree → Begun Frame
          of_value z = alone (line.Arrival o.ran o.time (process_id o.active) n) (with_core (ready m p.0) (arrive k.0 z)) o

    pub packet_follows : (n : ℕ) (l : Letter) → letter_at u.outside.net.on_way n ≡ Some l → coming n u.outside.timers.pending ≡ 0 → Found u.places p.0
        → ((k : ℕ) → thing (place_of m.places p.0).proc.core.ports l.port ≡ Some k → There (place_of m.places p.0).proc (kind.PromiseStream, k))
        → (let x : Begun Frame = meaning.arrived n l.from.0 l.port l.text (ready m p.0) o (listener (ready m p.0) l.port) in
        GoesOn x → Arrived puts p n u a e v b → Follows r puts m x a e (ends e v) b)
    packet_follows n l there none f can kept t =
        subst (λ z. GoesOn (comes_to n l shown z) → Follows r puts m (comes_to n l shown z) a e (ends e v) b) hears
        (λ kept. by_hearing n l shown t.between t.heard f (λ k q. can k.0 (heard_up (place_of m.places p.0).up (sym hears ∙ ap (option_map (λ k. k.0)) q))) t.told kept
        (subst (λ z. Taken puts t.heard p (numbered n z) (arrived n u) t.between e v b) same t.taken))
        kept
      where
        some : {Y : Type 0} {x y : Y} → Some x ≡ Some y → x ≡ y
        some q = cc

        same : t.letter ≡ l
        same = some (sym t.on_way ∙ there)

        shown : OutsideRepresents (arrived n u).outside o
        shown = letter_taken u.outside o n none g.going.outside

        hears : option_map (λ k. k.0) t.heard ≡ listener (ready m p.0) l.port
        hears = heard_is l.port t.heard f (subst (λ z. HeardIn (slice_get u.places p.0) z.port t.heard) same t.hears)

        heard_up : {k : ℕ} (t : Bool) → (if t then thing (place_of m.places p.0).proc.core.ports l.port else None) ≡ Some k → thing (place_of m.places p.0).proc.core.ports l.port ≡ Some k
        heard_up true q = q
        heard_up false q = absurd (cc)
