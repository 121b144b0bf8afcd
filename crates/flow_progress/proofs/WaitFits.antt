-- A wait in a process that fits, and each ask.
use Rattle.std.proofs.Common.{◌≡◌, ℕ, suc, ◌+◌, Bool, true, false, List, [], ◌∷◌, ◌++◌, length, inr, if◌then◌else◌, refl, sym, ap, ◌∙◌, subst, arith}
use Rattle.std.specs.Prelude.{pos, int_le, nat_lt, ◌&&◌}
use Rattle.std.specs.declared.option.Option.{Option}
use Rattle.std.specs.declared.option.Option.TheVariants.{None, Some}
use Rattle.flow_base.specs.ErrorNumbers.{second_waiter, bad_argument}
use Rattle.flow_tree.specs.Tree.{TypeTree}
use Rattle.flow_value.specs.Values.{ValueTree, RefValue}
use Rattle.flow_eval.specs.Predefined.{natural}
use Rattle.flow_class.specs.Classes.{ClassTree, RawTree}
use Rattle.flow_numbered.specs.Numbered.{Numbered, thing, put}
use Rattle.flow_meaning.specs.Cells.{Ref, Waiter, Cell, Single, Stream, is_ready, is_busy, waiters, with_waiter}
use Rattle.flow_meaning.specs.Requests.{Spot, Act, Goes, Pass, Drops, Effects, Operand, Waits, Sends, Cancels, Prints, SendsTo, Returns, Throws, RunsOut, Stuck, Effect, Start, Goal, Stored, Kept, Packet, Supply, Starts}
use Rattle.flow_meaning.specs.Process.{Run, Throw, Keep, Entry, Core}
use Rattle.flow_meaning.specs.Lines.{wait_line, print_line}
use Rattle.flow_meaning.specs.Work.{writes, pushed, running, dropping_values, leave_for, is_ready_at, first_ready, Registration, Registered, Refused, Missing, register_at, register_one, register, owner}
use Rattle.flow_meaning.specs.Effects.{throws, is_port}
use Rattle.flow_meaning.specs.React.{at_spot, suspend, wait_by, wait, react}
use Rattle.flow_meaning.specs.Orderly.{tasks_of, Rising}
use Rattle.flow_meaning.specs.Frame.{Frame}
use Rattle.flow_meaning.proofs.Posture.{thing_put_other, thing_put}
use Rattle.flow_meaning.proofs.Order.{rising_put}
use Rattle.flow_meaning.proofs.Shifts.{throw_of, keep_of, owned}
use Rattle.flow_progress.specs.Places.{class_vars}
use Rattle.flow_progress.specs.Asking.{NextOperand, HaveSome, ActFits}
use Rattle.flow_progress.specs.Fitting.{CellTypes, typed_by, Fits, CellFits, CellAt, WaitsFor, AllWaitFor, WaitersAt, OperandsFit, Waiting, ActorAt, ProcessFits}
use Rattle.flow_progress.proofs.States.{fine_same, fine_asking, fine_turn, FitsBut, put_back, actor_at, operands_exist, dropping_fits}
use Rattle.flow_progress.proofs.CellStates.{cell_there, put_cells, put_waiters, leave_state}
use Rattle.flow_progress.proofs.KeptNone.{OfWait}
use Rattle.flow_progress.specs.Registering.{AtEach}
use Rattle.flow_progress.proofs.Registered.{same_entry, entry_registered, cells_registered, Keeping, AllNow, all_keeping, all_now}
use Rattle.flow_progress.proofs.HandFits.{HandFits, doing_actor, goes_by_two, operands_more, operand_cell, branch_fits}
use Rattle.flow_progress.proofs.ReactFits.{Ok, OkAsking, runs, throws_fit, either_fits, rehand, effect_fits, send_in_fits, owner_fits, print_fits}

module _ (r : RawTree) (types : CellTypes) (g : Frame) where
  -- the cell of an operand
  pub operand_typed : (n : ℕ) (q : Ref) (t : TypeTree) → NextOperand g n t → Fits r types (RefValue q.0 q.1) t → types q.1 ≡ Some t
  operand_typed n q t next f =
      let same = operand_cell r types q.0 q.1 next.callback.next next.takes (subst (Fits r types (RefValue q.0 q.1)) next.type f) in
      subst (λ z. types q.1 ≡ Some z) (sym next.type) same

  pub record ReadyOperand (cells : Numbered Cell) (b n : ℕ) : Type 0 where
    pub type : TypeTree
    pub next : NextOperand g b type
    pub has : types n ≡ Some type
    pub cell : Cell
    pub at : thing cells n ≡ Some cell
    pub ready : is_ready cell ≡ true

  ready_of : (cells : Numbered Cell) (k : ℕ) (o : Option Cell) → thing cells k ≡ o → is_ready_at o ≡ true → (cell : Cell) × (thing cells k ≡ Some cell) × (is_ready cell ≡ true)
  ready_of cells k None e h = absurd cc
  ready_of cells k (Some cell) e h = (cell, e, h)

  -- the first operand that is ready
  pub first_ready_fits : (cells : Numbered Cell) (b : ℕ) (qs : List Ref) (x : ℕ × ℕ) → OperandsFit r types g b qs → first_ready cells b qs ≡ Some x → ReadyOperand cells x.0 x.1
  first_ready_fits cells b [] x h e = absurd cc
  first_ready_fits cells b (q ∷ qs) x h e = by_test (is_ready_at (thing cells q.1)) refl e (first_ready_fits cells (suc b) qs x h.1)
    where
      same : {X : Type 0} {x y : X} → Some x ≡ Some y → x ≡ y
      same h = cc

      by_test : (p : Bool) → is_ready_at (thing cells q.1) ≡ p → (if p then Some (b, q.1) else first_ready cells (suc b) qs) ≡ Some x
          → (first_ready cells (suc b) qs ≡ Some x → ReadyOperand cells x.0 x.1) → ReadyOperand cells x.0 x.1
      by_test false p e k = k e
      by_test true p e k =
          let c = ready_of cells q.1 (thing cells q.1) refl p in
          subst (λ (y : ℕ × ℕ). ReadyOperand cells y.0 y.1) (same e) (record { type = h.0.0; next = h.0.1; has = operand_typed b q h.0.0 h.0.1 h.0.2; cell = c.0; at = c.1; ready = c.2 })

  -- registration at all operands
  module _ (i made : ℕ) (xs : Numbered Frame) (frame : thing xs i ≡ Some g) (k : Core) where
    abbrev CellsOk : Numbered Cell → Type 0
    CellsOk cells = ((n : ℕ) → CellAt r types (types n) (thing cells n)) × ((n : ℕ) → WaitersAt r types xs (types n) (thing cells n)) × Rising 0 made cells

    abbrev RegistrationOk : Registration → Type 0
    RegistrationOk (Registered cells) = CellsOk cells
    RegistrationOk Refused = Unit {0}
    RegistrationOk Missing = ⊥

    one_waiter : (ws : List Waiter) (w : Waiter) (t : TypeTree) → AllWaitFor r types xs ws t → WaitsFor r types xs w t → AllWaitFor r types xs (ws ++ w ∷ []) t
    one_waiter [] w t h f = (f, tt)
    one_waiter (x ∷ ws) w t h f = (h.0, one_waiter ws w t h.1 f)

    waiter_waits : (cell : Cell) (w : Waiter) (t : TypeTree) → AllWaitFor r types xs (waiters cell) t → WaitsFor r types xs w t → AllWaitFor r types xs (waiters (with_waiter cell w)) t
    waiter_waits (Single o ws) w t h f = one_waiter ws w t h f
    waiter_waits (Stream q end None) w t h f = (f, tt)
    waiter_waits (Stream q end (Some old)) w t h f = h

    waiter_fits : (cell : Cell) (w : Waiter) (t : TypeTree) → CellFits r types cell t → CellFits r types (with_waiter cell w) t
    waiter_fits (Single o ws) w t h = h
    waiter_fits (Stream q end x) w t h = h

    register_ok : (w : Waiter) (n : ℕ) (cells : Numbered Cell) (t : TypeTree) → types n ≡ Some t → WaitsFor r types xs w t → CellsOk cells → RegistrationOk (register_at w n cells (thing cells n))
    register_ok w n cells t has waits ok =
        let c = cell_there r types n t (thing cells n) has (ok.0 n) in
        subst (λ o. RegistrationOk (register_at w n cells o)) (sym c.1) (by_test c.0 c.1 c.2 (is_busy c.0))
      where
        by_test : (cell : Cell) → thing cells n ≡ Some cell → CellFits r types cell t → (b : Bool) → RegistrationOk (if b then Refused else Registered (put cells n (with_waiter cell w)))
        by_test cell at f true = tt
        by_test cell at f false =
            let d = record k { cells = cells } in (
              put_cells r types d n t cell (with_waiter cell w) at has (waiter_fits cell w t f) ok.0,
              put_waiters r types d xs n cell (with_waiter cell w) at
                  (λ h. subst (λ o. WaitersAt r types xs o (Some (with_waiter cell w))) (sym has) (waiter_waits cell w t (subst (λ o. WaitersAt r types xs o (Some cell)) has h) waits)) ok.1,
              rising_put cells 0 made n (with_waiter cell w) ok.2,
            )

    one_ok : (w : Waiter) (n : ℕ) (x : Registration) (t : TypeTree) → types n ≡ Some t → WaitsFor r types xs w t → RegistrationOk x → RegistrationOk (register_one w n x)
    one_ok w n (Registered cells) t has waits ok = register_ok w n cells t has waits ok
    one_ok w n Refused t has waits ok = tt
    one_ok w n Missing t has waits ok = ok

    pub all_ok : (b : ℕ) (qs : List Ref) (x : Registration) → OperandsFit r types g b qs → RegistrationOk x → RegistrationOk (register i b qs x)
    all_ok b [] x h ok = ok
    all_ok b (q ∷ qs) x h ok =
        let w : Waiter = record { actor = i; branch = b } in
        all_ok (suc b) qs (register_one w q.1 x) h.1 (one_ok w q.1 x h.0.0 (operand_typed b q h.0.0 h.0.1 h.0.2) (record { frame = g; stands = frame; operand = h.0.1 }) ok)

module _ (r : RawTree) (i : ℕ) (xs : Numbered Frame) (e : Entry) (g : Frame) (c : ClassTree) (code : g.code ≡ c) (types : CellTypes) where
  abbrev Good : Core → Type 0
  Good d = Ok r i xs e g c code types d

  suspend_fits : (spot : Spot) (vs : List ValueTree) (x : Registration) (k : Core) → k.halted ≡ None → (h : HandFits r types i k xs e g c) → Waiting r types g → OperandsFit r types g 0 e.operands
      → HaveSome r.records (typed_by types) vs
      → RegistrationOk r types g i k.made xs h.frame k x → ((j : ℕ) → Keeping j k.cells x) → AllNow i e.operands x → Good (suspend i spot (at_spot spot e) vs x k)
  suspend_fits spot vs Missing k go h s o some ok keep now = absurd ok
  suspend_fits spot vs Refused k go h s o some ok keep now =
      fine_same r types k.halted (leave_for i (at_spot spot e) vs (Throw i second_waiter) k) xs go
      (leave_state r types i (at_spot spot e) e vs (Throw i second_waiter) k xs g h.rest h.entry h.frame (throw_of i second_waiter) (operands_exist r types g 0 e.operands o) some
      (λ ts. doing_actor r types (running (at_spot spot e)) g c (Throw i second_waiter ∷ ts) (record { is = h.owner.is; owns = h.owner.owns }) refl
      (code, inr s, tt)))
  suspend_fits spot vs (Registered cells) k go h s o some ok keep now =
      let asleep = record (at_spot spot e) { suspended = true } in
      let d = record (writes (wait_line i spot.group) k) { cells = cells; entries = put k.entries i asleep } in
      let p = h.rest in
      let state : ProcessFits r types d xs = put_back r types i d xs (record {
        cells = ok.0;
        waiting = ok.1;
        actors = λ j n. subst (λ o. ActorAt r types o (thing xs j) (tasks_of j k.tasks)) (sym (thing_put_other k.entries i j asleep n)) (p.actors j n);
        work = p.work;
        ports = p.ports;
        main = p.main;
        requests = p.requests;
        numbered = ok.2;
        framed = p.framed;
        registered = λ j n. entry_registered i j k.entries cells asleep n (cells_registered j k.entries k.cells cells (keep j) (p.registered j n));
      }) (actor_at r types asleep g (thing (put k.entries i asleep) i) (thing xs i) (tasks_of i k.tasks) (thing_put k.entries i e asleep h.entry) h.frame
      (record { class = c; is = h.owner.is; owns = h.owner.owns; posture = (code, s, o) }))
      (λ x at q. subst (λ (z : Entry). AtEach i cells z.operands) (same_entry (sym (thing_put k.entries i e asleep h.entry) ∙ at)) now) in
      fine_same r types k.halted (dropping_values vs d) xs go (dropping_fits r types vs d xs some state)

  wait_by_fits : (spot : Spot) (vs : List ValueTree) (x : Option (ℕ × ℕ)) (k : Core) → k.halted ≡ None → HandFits r types i k xs e g c → Waiting r types g → OperandsFit r types g 0 e.operands
      → HaveSome r.records (typed_by types) vs
      → first_ready k.cells 0 e.operands ≡ x → Good (wait_by i spot (at_spot spot e) vs x k)
  wait_by_fits spot vs (Some x) k go h s o some q =
      let f = first_ready_fits r types g k.cells 0 e.operands x o q in
      branch_fits r types i x.0 x.1 (at_spot spot e) e vs k xs g c f.type f.cell f.at f.ready go h.entry h.frame h.rest
      (record { is = h.owner.is; owns = h.owner.owns }) code s f.next f.has o some
  wait_by_fits spot vs None k go h s o some q =
      suspend_fits spot vs (register i 0 e.operands (Registered k.cells)) k go h s o some
      (all_ok r types g i k.made xs h.frame k 0 e.operands (Registered k.cells) o (h.rest.cells, h.rest.waiting, h.rest.numbered))
      (λ j. all_keeping j i 0 e.operands k.cells (Registered k.cells) (λ n h. h)) (all_now i 0 e.operands (Registered k.cells))

  wait_fits : (spot : Spot) (vs : List ValueTree) (k : Core) → k.halted ≡ None → HandFits r types i k xs e g c → Waiting r types g → OperandsFit r types g 0 e.operands
      → HaveSome r.records (typed_by types) vs → Good (wait i spot (thing k.entries i) vs k)
  wait_fits spot vs k go h s o some =
      subst (λ z. Good (wait i spot z vs k)) (sym h.entry) (wait_by_fits spot vs (first_ready k.cells 0 e.operands) k go h s o some refl)

  -- each ask but the call of an actor, where operands are kept at a wait alone
  pub react_fits : (s : Supply) (act : Act) (k : Core) → k.halted ≡ None → HandFits r types i k xs e g c → Rising 0 k.started k.entries
      → ActFits r (class_vars g.code) (typed_by types) c (length e.operands) act g
      → OperandsFit r types g 0 e.operands → ((OfWait act → ⊥) → e.operands ≡ []) → ((goal : Goal) (class : ℕ) (args : List ValueTree) → act ≡ Effects goal (Start class args) → ⊥)
      → ((v : ValueTree) (vs : List ValueTree) → act ≡ Returns v vs → ⊥) → ((class : ℕ) (args : List ValueTree) → act ≡ Starts class args → ⊥)
      → OkAsking r i xs e g c code types (react s i act k)
  react_fits s Goes k go h up f o none no_start no_end no_alone = fine_same r types k.halted (pushed (Run i) k) xs go (runs r i xs e g c code types k h f o)
  react_fits s Pass k go h up f o none no_start no_end no_alone =
      fine_turn r types (pushed (Run i)) k xs
      (λ m. let d = record k { left = m } in
      let p = h.rest in
      let rest : FitsBut r types i d xs = record {
        cells = p.cells;
        waiting = p.waiting;
        actors = p.actors;
        work = p.work;
        ports = p.ports;
        main = p.main;
        requests = p.requests;
        numbered = p.numbered;
        framed = p.framed;
        registered = p.registered;
      } in
      fine_same r types k.halted (pushed (Run i) d) xs go (runs r i xs e g c code types d (rehand r i xs e g c code types k d h.entry rest h) f o))
  react_fits s (Drops vs) k go h up f o none no_start no_end no_alone =
      fine_same r types k.halted (dropping_values vs (pushed (Run i) k)) xs go (dropping_fits r types vs (pushed (Run i) k) xs f.1 (runs r i xs e g c code types k h f.0 o))
  react_fits s (Effects goal eff) k go h up f o none no_start no_end no_alone =
      effect_fits r i xs e g c code types s k goal eff f.1.0 go h f.0 o (λ q. none (λ w. stored_waits goal eff q w)) f.1.1 f.1.2 (λ class args q. no_start goal class args (ap (Effects goal) q))
    where
      stored_waits : (goal : Goal) (eff : Effect) → goal ≡ Stored → OfWait (Effects goal eff) → ⊥
      stored_waits Stored eff q w = w
      stored_waits (Kept spot) eff q w = cc
  react_fits s (Starts class args) k go h up f o none no_start no_end no_alone = absurd (no_alone class args refl)
  react_fits s (Operand spot q) k go h up f o none no_start no_end no_alone =
      let zero_plus : 0 + length e.operands ≡ length e.operands = omega arith in
      fine_same r types k.halted (pushed (Keep i spot q) (pushed (Run i) k)) xs go (goes_by_two r types i (Keep i spot q) k xs e g c h (keep_of i spot q)
      (λ ts. (code, f.0, operands_more r types g 0 e.operands q f.1.0 o (subst (λ m. NextOperand g m f.1.0) (sym zero_plus) f.1.1) f.1.2)))
  react_fits s (Waits spot vs) k go h up f o none no_start no_end no_alone = wait_fits spot vs k go h f.0 o f.1
  react_fits s (Sends n v) k go h up f o none no_start no_end no_alone = send_in_fits r i xs e g c code types n v k go h f.0 o f.1
  react_fits s (Cancels n) k go h up f o none no_start no_end no_alone =
      let d = pushed (Run i) k in
      owner_fits r i xs e g c code types (owner n k.entries) d go (owned n k (owner n k.entries) up refl) (runs r i xs e g c code types k h f o)
  react_fits s (Prints v) k go h up f o none no_start no_end no_alone = print_fits r i xs e g c code types (print_line i v) k (f.1 i) go h f.0 o
  react_fits s (SendsTo q port text) k go h up f o none no_start no_end no_alone =
      either_fits r i xs e g c code types (int_le (pos 0) q && nat_lt (natural q) s.processes && is_port port) _ (throws i bad_argument k)
      (fine_asking r types (Some (Packet (natural q) (natural port) text)) k.halted (pushed (Run i) k) xs (λ z. tt)
      (fine_same r types k.halted (pushed (Run i) k) xs go (runs r i xs e g c code types k h f o)))
      (throws_fit r i xs e g c code types bad_argument k go h f o)
  react_fits s (Returns v vs) k go h up f o none no_start no_end no_alone = absurd (no_end v vs refl)
  react_fits s (Throws err) k go h up f o none no_start no_end no_alone = throws_fit r i xs e g c code types err k go h f o
  react_fits s RunsOut k go h up f o none no_start no_end no_alone = tt
  react_fits s Stuck k go h up f o none no_start no_end no_alone = absurd f
