-- What a process does for an ask that fits keeps it fitting, and has a meaning.
use Rattle.std.proofs.Common.{◌≡◌, ℕ, suc, ◌+◌, nat_eq, Bool, true, false, List, [], ◌∷◌, ◌++◌, length, ◌⊎◌, inl, inr, if◌then◌else◌, refl, sym, ap, subst}
use Rattle.std.specs.Prelude.{codes, ℤ, ◌-ℤ◌, ◌^◌, ◌&&◌, nat_le}
use Rattle.std.specs.declared.option.Option.{Option}
use Rattle.std.specs.declared.option.Option.TheVariants.{None, Some}
use Rattle.flow_base.specs.ErrorNumbers.{already_set, port_in_use, bad_argument, out_of_range}
use Rattle.flow_tree.specs.Tree.{TypeTree, VoidType, NamedType, FutureType, FutureStreamType}
use Rattle.flow_value.specs.declared.value.Kind.{Kind}
use Rattle.flow_value.specs.declared.value.Kind.TheVariants as kind
use Rattle.flow_value.specs.Values.{ValueTree, IntValue, RefValue, OutcomeTree}
use Rattle.flow_draw.specs.Words.{scaled}
use Rattle.flow_eval.specs.Predefined.{natural}
use Rattle.flow_eval.specs.Typed.{reference_type, future_side}
use Rattle.flow_trace.specs.declared.line.Line.{Line}
use Rattle.flow_class.specs.Classes.{ClassTree, RawTree}
use Rattle.flow_numbered.specs.Numbered.{Numbered, thing, added}
use Rattle.flow_meaning.specs.Cells.{Cell, Single, Stream, is_complete, waiters}
use Rattle.flow_meaning.specs.Requests.{DiskCall, ReadCall, WriteCall, SyncCall, SizeCall, Request, Drew, Timer, Disks, Effect, Make, Start, Draw, Delay, Never, Listen, Disk, Goal, Stored, Kept, Supply}
use Rattle.flow_meaning.specs.Process.{Run, Throw, Entry, Core}
use Rattle.flow_meaning.specs.Lines.{cancel_line}
use Rattle.flow_meaning.specs.Work.{writes, pushed, new_cell, fill, cancel_by, cancel, cancel_owner}
use Rattle.flow_simdisk.specs.declared.TheConstants.{FILE_BYTES}
use Rattle.flow_meaning.specs.Effects.{Reaction, throws, gives, gives_new, gives_open, empty_cell, between, is_port, is_file, if_ok, open_port, judged, ask_disk, effect}
use Rattle.flow_meaning.specs.React.{send_by, send_in, print}
use Rattle.flow_meaning.specs.Frame.{Frame}
use Rattle.flow_meaning.proofs.Shifts.{run_of, throw_of, Owned}
use Rattle.flow_progress.specs.Places.{class_vars}
use Rattle.flow_progress.specs.Asking.{OutcomeFits, SentFits, Wanted, Gives, reply_type}
use Rattle.flow_progress.specs.Keeping.{AskFits, FineAsking}
use Rattle.flow_progress.specs.Fitting.{CellTypes, typed_by, Exists, CellFits, OperandsFit, Standing, AllExist, ProcessFits}
use Rattle.flow_progress.proofs.Retyped.{standing_retyped, operands_retyped, sees_any, operands_any, owns_retyped}
use Rattle.flow_progress.proofs.States.{Fine, fine_same, fine_since, fine_turn, FitsBut}
use Rattle.flow_progress.proofs.CellStates.{cell_there, IsOfType, fill_fits}
use Rattle.flow_progress.proofs.NewCells.{with_type, Any, new_type, kept_types, new_but}
use Rattle.flow_progress.proofs.HandFits.{Owner, HandFits, goes_by, gives_task, cancel_state}

-- what is found after one thing more was there, or is new
added_either : {A : Type 0} (ps : Numbered A) (port : ℕ) (new : A) (p : ℕ) (n : A) → thing (added ps port new) p ≡ Some n → (thing ps p ≡ Some n) ⊎ (n ≡ new)
added_either [] port new p n e = by_test (nat_eq p port) e
  where
    by_test : (b : Bool) → (if b then Some new else None) ≡ Some n → (None ≡ Some n) ⊎ (n ≡ new)
    by_test true e = inr cc
    by_test false e = inl e
added_either (x ∷ ps) port new p n e = by_test (nat_eq p x.0) e (added_either ps port new p n)
  where
    by_test : (b : Bool) → (if b then Some x.1 else thing (added ps port new) p) ≡ Some n → (thing (added ps port new) p ≡ Some n → (thing ps p ≡ Some n) ⊎ (n ≡ new))
        → ((if b then Some x.1 else thing ps p) ≡ Some n) ⊎ (n ≡ new)
    by_test true e k = inl e
    by_test false e k = k e

-- a disk call that is judged good is answered as the one that was asked
if_some : {A : Type 0} (b : Bool) (x y : A) → if_ok b x ≡ Some y → x ≡ y
if_some true x y e = cc
if_some false x y e = absurd cc

judged_reply : (call : DiskCall ℤ) (d : DiskCall ℕ) → judged call ≡ Some d → reply_type d ≡ reply_type call
judged_reply (ReadCall file offset count) d e = ap reply_type (sym
    (if_some (is_file file && between offset 0 FILE_BYTES && between count 0 65535) (ReadCall file (natural offset) (natural count)) d e))
judged_reply (WriteCall file offset text) d e = ap reply_type (sym
    (if_some (is_file file && between offset 0 FILE_BYTES && nat_le (natural offset + length text) FILE_BYTES) (WriteCall file (natural offset) text) d e))
judged_reply (SyncCall file) d e = ap reply_type (sym (if_some (is_file file) (SyncCall file) d e))
judged_reply (SizeCall file) d e = ap reply_type (sym (if_some (is_file file) (SizeCall file) d e))

module _ (r : RawTree) (i : ℕ) (xs : Numbered Frame) (e : Entry) (g : Frame) (c : ClassTree) (code : g.code ≡ c) where
  abbrev pub Ok : CellTypes → Core → Type 0
  Ok types d = Fine r types d.halted d xs

  abbrev pub OkAsking : CellTypes → Reaction → Type 0
  OkAsking types p = FineAsking r types p.1 p.0.halted p.0 xs

  abbrev pub Hand : CellTypes → Core → Type 0
  Hand types k = HandFits r types i k xs e g c

  pub runs : (types : CellTypes) (k : Core) → Hand types k → Standing r types g → OperandsFit r types g 0 e.operands → ProcessFits r types (pushed (Run i) k) xs
  runs types k h s o = goes_by r types i (Run i) k xs e g c h (run_of i) (λ ts. (code, s, o))

  pub throws_fit : (types : CellTypes) (err : ℕ) (k : Core) → k.halted ≡ None → Hand types k → Standing r types g → OperandsFit r types g 0 e.operands → OkAsking types (throws i err k)
  throws_fit types err k go h s o = fine_same r types k.halted (pushed (Throw i err) k) xs go (goes_by r types i (Throw i err) k xs e g c h (throw_of i err) (λ ts. (code, inl s, o)))

  -- the same actor in hand, in a core with the same entries and tasks
  pub rehand : (types : CellTypes) (k d : Core) → thing d.entries i ≡ Some e → FitsBut r types i d xs → Hand types k → Hand types d
  rehand types k d at p h = record { entry = at; awake = h.awake; frame = h.frame; owner = h.owner; rest = p }

  -- with a new cell
  module _ (types : CellTypes) (k : Core) (h : Hand types k) (s : Standing r types g) (o : OperandsFit r types g 0 e.operands) (t : TypeTree) where
    abbrev grown : CellTypes
    grown = with_type types (suc k.made) t

    keeps : (n : ℕ) (u : TypeTree) → Any n → types n ≡ Some u → grown n ≡ Some u
    keeps = kept_types r types t k xs i h.rest

    pub stands_more : Standing r grown g
    stands_more = standing_retyped r types grown Any keeps g (λ q v e. sees_any Any (λ n. tt) v) s

    pub keeps_more : OperandsFit r grown g 0 e.operands
    keeps_more = operands_retyped r types grown Any keeps g 0 e.operands (operands_any Any (λ n. tt) e.operands) o

    owner_more : Owner r grown e c
    owner_more = record { is = h.owner.is; owns = owns_retyped r types grown Any keeps e.result c.returns (λ n q. tt) h.owner.owns }

    pub hand_more : (cell : Cell) → CellFits r grown cell t → waiters cell ≡ [] → Hand grown (new_cell cell k)
    hand_more cell f w = record { entry = h.entry; awake = h.awake; frame = h.frame; owner = owner_more; rest = new_but r types t k xs i h.rest cell f w }

  abbrev Wants : CellTypes → Goal → TypeTree → Type 0
  Wants types goal t = Wanted r (class_vars g.code) (typed_by types) goal g (length e.operands) t

  abbrev NoneStored : Goal → Type 0
  NoneStored goal = goal ≡ Stored → e.operands ≡ []

  -- what is wanted doesn't depend on the types of cells
  pub wants_more : (types others : CellTypes) (goal : Goal) (t : TypeTree) → Wants types goal t → Wants others goal t
  wants_more types others Stored t w = w
  wants_more types others (Kept spot) t w = w

  -- a reference to the new cell goes where it is wanted
  new_given : (ask : Option Request) (types : CellTypes) (k d : Core) (goal : Goal) (kd : Kind) (u t : TypeTree) → d.halted ≡ None
      → (h : Hand types k) (s : Standing r types g) (o : OperandsFit r types g 0 e.operands) → NoneStored goal → Wants types goal t
      → t ≡ reference_type kd u → Hand (with_type types (suc k.made) (future_side kd u)) d → AskFits (with_type types (suc k.made) (future_side kd u)) ask
      → OkAsking types (gives i goal (RefValue kd (suc k.made)) d, ask)
  new_given ask types k d goal kd u t go h s o none w q m asks =
      let z = future_side kd u in
      let ts = with_type types (suc k.made) z in
      let f = gives i goal (RefValue kd (suc k.made)) d in
      fine_since r types ts ask f.halted f xs (λ n v a. kept_types r types z k xs i h.rest n v tt a)
      (gives_task r ts ask i goal (RefValue kd (suc k.made)) t d xs e g c m go code (stands_more types k h s o z) (keeps_more types k h s o z) none (wants_more types ts goal t w)
      (u, q, new_type types (suc k.made) z) asks)

  new_fits : (types : CellTypes) (k : Core) (goal : Goal) (kd : Kind) (cell : Cell) (u t : TypeTree) → k.halted ≡ None → Hand types k → Standing r types g → OperandsFit r types g 0 e.operands
      → NoneStored goal → Wants types goal t
      → t ≡ reference_type kd u → CellFits r (with_type types (suc k.made) (future_side kd u)) cell (future_side kd u) → waiters cell ≡ [] → Ok types (gives_new i goal kd cell k)
  new_fits types k goal kd cell u t go h s o none w q f no_waiters =
      new_given None types k (new_cell cell k) goal kd u t go h s o none w q (hand_more types k h s o (future_side kd u) cell f no_waiters) tt

  exist_more : (types : CellTypes) (ks : List ℕ) (n : ℕ) → AllExist r types ks → Exists r types n → AllExist r types (ks ++ n ∷ [])
  exist_more types [] n h x = (x, tt)
  exist_more types (k ∷ ks) n h x = (h.0, exist_more types ks n h.1 x)

  open_fits : (ask : Option Request) (types : CellTypes) (k : Core) (goal : Goal) (u t : TypeTree) → k.halted ≡ None → Hand types k → Standing r types g → OperandsFit r types g 0 e.operands
      → NoneStored goal → Wants types goal t → t ≡ FutureType u
      → AskFits (with_type types (suc k.made) (FutureType u)) ask → OkAsking types (gives_open i goal k, ask)
  open_fits ask types k goal u t go h s o none w q asks =
      let ts = with_type types (suc k.made) (FutureType u) in
      let m = hand_more types k h s o (FutureType u) (Single None []) (u, refl, tt) refl in
      let d = new_cell (Single None []) (record k { requests = k.requests ++ suc k.made ∷ [] }) in
      new_given ask types k d goal kind.Future u t go h s o none w q (record {
        entry = m.entry;
        awake = m.awake;
        frame = m.frame;
        owner = m.owner;
        rest = record {
          cells = m.rest.cells;
          waiting = m.rest.waiting;
          actors = m.rest.actors;
          work = m.rest.work;
          ports = m.rest.ports;
          main = m.rest.main;
          requests = exist_more ts k.requests (suc k.made) m.rest.requests (FutureType u, new_type types (suc k.made) (FutureType u));
          numbered = m.rest.numbered;
          framed = m.rest.framed;
          registered = m.rest.registered;
        };
      }) asks

  abbrev Packets : TypeTree
  Packets = NamedType (codes "Packet")

  by_port : (ts : CellTypes) (n : ℕ) {X : Type 0} {new : ℕ} → X ⊎ (n ≡ new) → (X → ts n ≡ Some (FutureStreamType Packets)) → ts new ≡ Some (FutureStreamType Packets)
      → ts n ≡ Some (FutureStreamType Packets)
  by_port ts n (inl x) f new_is = f x
  by_port ts n (inr q) f new_is = subst (λ m. ts m ≡ Some (FutureStreamType Packets)) (sym q) new_is

  port_fits : (types : CellTypes) (k : Core) (goal : Goal) (port : ℕ) (x : Option ℕ) (t : TypeTree) → thing k.ports port ≡ x → k.halted ≡ None → Hand types k → Standing r types g
      → OperandsFit r types g 0 e.operands → NoneStored goal → Wants types goal t
      → t ≡ FutureStreamType Packets → OkAsking types (open_port i goal port x k)
  port_fits types k goal port (Some cell) t at go h s o none w q = throws_fit types port_in_use k go h s o
  port_fits types k goal port None t at go h s o none w q =
      let ts = with_type types (suc k.made) (FutureStreamType Packets) in
      let m = hand_more types k h s o (FutureStreamType Packets) (Stream [] None None) (Packets, refl, tt) refl in
      let d = new_cell (Stream [] None None) (record k { ports = added k.ports port (suc k.made) }) in
      new_given None types k d goal kind.FutureStream Packets t go h s o none w q (record {
        entry = m.entry;
        awake = m.awake;
        frame = m.frame;
        owner = m.owner;
        rest = record {
          cells = m.rest.cells;
          waiting = m.rest.waiting;
          actors = m.rest.actors;
          work = m.rest.work;
          ports = λ p n z. by_port ts n (added_either k.ports port (suc k.made) p n z) (m.rest.ports p n) (new_type types (suc k.made) (FutureStreamType Packets));
          main = m.rest.main;
          requests = m.rest.requests;
          numbered = m.rest.numbered;
          framed = m.rest.framed;
          registered = m.rest.registered;
        };
      }) tt

  disk_fits : (types : CellTypes) (k : Core) (goal : Goal) (x : Option (DiskCall ℕ)) (u t : TypeTree) → k.halted ≡ None → Hand types k → Standing r types g → OperandsFit r types g 0 e.operands
      → NoneStored goal → Wants types goal t → t ≡ FutureType u
      → ((d : DiskCall ℕ) → x ≡ Some d → reply_type d ≡ u) → OkAsking types (ask_disk i goal x k)
  disk_fits types k goal None u t go h s o none w q same = throws_fit types bad_argument k go h s o
  disk_fits types k goal (Some call) u t go h s o none w q same =
      open_fits (Some (Disks (suc k.made) call)) types k goal u t go h s o none w q
      (subst (λ z. with_type types (suc k.made) (FutureType u) (suc k.made) ≡ Some (FutureType z)) (sym (same call refl)) (new_type types (suc k.made) (FutureType u)))

  pub either_fits : (types : CellTypes) (b : Bool) (p q : Reaction) → OkAsking types p → OkAsking types q → OkAsking types (if b then p else q)
  either_fits types true p q h k = h
  either_fits types false p q h k = k

  empty_fits : (types : CellTypes) (kd : Kind) (u : TypeTree) → CellFits r types (empty_cell kd) (future_side kd u) × (waiters (empty_cell kd) ≡ [])
  empty_fits types kind.Promise u = ((u, refl, tt), refl)
  empty_fits types kind.Future u = ((u, refl, tt), refl)
  empty_fits types kind.PromiseStream u = ((u, refl, tt), refl)
  empty_fits types kind.FutureStream u = ((u, refl, tt), refl)

  pub effect_fits : (types : CellTypes) (s : Supply) (k : Core) (goal : Goal) (eff : Effect) (t : TypeTree) → k.halted ≡ None → Hand types k → Standing r types g → OperandsFit r types g 0 e.operands
      → NoneStored goal → Wants types goal t
      → Gives r (typed_by types) eff t → ((class : ℕ) (args : List ValueTree) → eff ≡ Start class args → ⊥) → OkAsking types (effect s i goal eff k)
  effect_fits types s k goal (Make kd) t go h st o none w y n =
      let f = empty_fits (with_type types (suc k.made) (future_side kd y.0)) kd y.0 in new_fits types k goal kd (empty_cell kd) y.0 t go h st o none w y.1 f.0 f.1
  effect_fits types s k goal (Start class args) t go h st o none w y n = absurd (n class args refl)
  effect_fits types s k goal (Draw lo hi) t go h st o none w y n =
      either_fits types (between (hi -ℤ lo) 1 (2 ^ 32)) _ (throws i bad_argument k)
      (gives_task r types (Some (Drew (natural (hi -ℤ lo)))) i goal (IntValue (scaled lo (natural (hi -ℤ lo)) s.word)) t k xs e g c h go code st o none w y tt) (throws_fit types bad_argument k go h st o)
  effect_fits types s k goal (Delay ticks) t go h st o none w y n =
      either_fits types (nat_le (s.now + natural ticks) (2 ^ 62)) _ (throws i out_of_range k)
      (open_fits (Some (Timer (suc k.made) (s.now + natural ticks))) types k goal VoidType t go h st o none w y (new_type types (suc k.made) (FutureType VoidType)))
      (throws_fit types out_of_range k go h st o)
  effect_fits types s k goal Never t go h st o none w y n = new_fits types k goal kind.Future (Single None []) VoidType t go h st o none w y (VoidType, refl, tt) refl
  effect_fits types s k goal (Listen port) t go h st o none w y n =
      either_fits types (is_port port) _ (throws i bad_argument k) (port_fits types k goal (natural port) (thing k.ports (natural port)) t refl go h st o none w y)
      (throws_fit types bad_argument k go h st o)
  effect_fits types s k goal (Disk call) t go h st o none w y n = disk_fits types k goal (judged call) (reply_type call) t go h st o none w y (judged_reply call)

  -- sends
  send_by_fits : (types : CellTypes) (b : Bool) (n : ℕ) (v : OutcomeTree) (k : Core) (t u : TypeTree) → k.halted ≡ None → Hand types k → Standing r types g → OperandsFit r types g 0 e.operands
      → types n ≡ Some t → IsOfType r types t u
      → OutcomeFits r.records (typed_by types) v u → Ok types (send_by b i n v k)
  send_by_fits types true n v k t u go h s o at is f = throws_fit types already_set k go h s o
  send_by_fits types false n v k t u go h s o at is f =
      fine_turn r types (λ d. fill n v (pushed (Run i) d)) k xs
      (λ m. let d = record k { left = m } in
      let p = h.rest in
      let rest : FitsBut r types i d xs = record {
        cells = p.cells;
        waiting = p.waiting;
        actors = p.actors;
        work = p.work;
        ports = p.ports;
        main = p.main;
        requests = p.requests;
        numbered = p.numbered;
        framed = p.framed;
        registered = p.registered;
      } in
      fill_fits r types n v (pushed (Run i) d) xs t u go at is f (runs types d (rehand types k d h.entry rest h) s o))

  pub send_in_fits : (types : CellTypes) (n : ℕ) (v : OutcomeTree) (k : Core) → k.halted ≡ None → Hand types k → Standing r types g → OperandsFit r types g 0 e.operands
      → SentFits r.records (typed_by types) n v → Ok types (send_in (thing k.cells n) i n v k)
  send_in_fits types n v k go h s o f = by_type f.1
    where
      sent : (t : TypeTree) → types n ≡ Some t → IsOfType r types t f.0 → Ok types (send_in (thing k.cells n) i n v k)
      sent t at is =
          let cell = cell_there r types n t (thing k.cells n) at (h.rest.cells n) in
          subst (λ x. Ok types (send_in x i n v k)) (sym cell.1) (send_by_fits types (is_complete cell.0) n v k t f.0 go h s o at is f.2)

      by_type : (types n ≡ Some (FutureType f.0)) ⊎ (types n ≡ Some (FutureStreamType f.0)) → Ok types (send_in (thing k.cells n) i n v k)
      by_type (inl at) = sent (FutureType f.0) at (inl refl)
      by_type (inr at) = sent (FutureStreamType f.0) at (inr refl)

  pub owner_fits : (types : CellTypes) (o : Option (ℕ × Entry)) (d : Core) → d.halted ≡ None → Owned d o → ProcessFits r types d xs → Ok types (cancel_owner o d)
  owner_fits types None d go h p = fine_same r types d.halted d xs go (p)
  owner_fits types (Some o) d go h p = fine_same r types (cancel_owner (Some o) d).halted (cancel_owner (Some o) d) xs (cancel_goes o.0 o.1 d go) (cancel_state r types o.0 o.1 d xs h p)
    where
      by_suspended : (b : Bool) (j : ℕ) (x : Entry) (d : Core) → d.halted ≡ None → (cancel_by b j x d).halted ≡ None
      by_suspended true j x d go = go
      by_suspended false j x d go = go

      cancel_goes : (j : ℕ) (x : Entry) (d : Core) → d.halted ≡ None → (cancel j x d).halted ≡ None
      cancel_goes j x d go = by_suspended x.suspended j x (writes (cancel_line j) d) go

  pub print_fits : (types : CellTypes) (l : Option Line) (k : Core) → ((x : Line) × (l ≡ Some x)) → k.halted ≡ None → Hand types k → Standing r types g → OperandsFit r types g 0 e.operands
      → Ok types (print i l k)
  print_fits types l k x go h s o =
      let d = writes x.0 k in
      let p = h.rest in
      let rest : FitsBut r types i d xs = record {
        cells = p.cells;
        waiting = p.waiting;
        actors = p.actors;
        work = p.work;
        ports = p.ports;
        main = p.main;
        requests = p.requests;
        numbered = p.numbered;
        framed = p.framed;
        registered = p.registered;
      } in
      subst (λ z. Ok types (print i z k)) (sym x.1) (fine_same r types k.halted (pushed (Run i) d) xs go (runs types d (rehand types k d h.entry rest h) s o))
