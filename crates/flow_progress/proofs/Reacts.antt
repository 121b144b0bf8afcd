-- What a process does for an ask takes a turn, or leaves less to do for the actor, and no more for the others.
use Rattle.std.proofs.Common.{◌≡◌, ℕ, suc, ◌+◌, ◌<◌, ◌≤◌, Bool, true, false, List, [], ◌∷◌, ◌++◌, length, inl, inr, refl, sym, ap, ◌∙◌, subst, arith}
use Rattle.std.specs.Prelude.{ℤ, pos, ◌-ℤ◌, ◌^◌, int_le, nat_le, nat_lt, ◌&&◌}
use Rattle.std.specs.declared.option.Option.{Option}
use Rattle.std.specs.declared.option.Option.TheVariants.{None, Some}
use Rattle.flow_base.specs.ErrorNumbers.{operation_cancelled, second_waiter, already_set, port_in_use, bad_argument, out_of_range}
use Rattle.flow_value.specs.declared.value.Kind.{Kind}
use Rattle.flow_value.specs.declared.value.Kind.TheVariants as kind
use Rattle.flow_value.specs.Values.{ValueTree, IntValue, BoolValue, TextValue, VoidValue, ErrorValue, CompositeValue, RefValue, OutcomeTree, GoodOutcome}
use Rattle.flow_draw.specs.Words.{scaled}
use Rattle.flow_eval.specs.Predefined.{natural}
use Rattle.flow_trace.specs.declared.line.Line.{Line}
use Rattle.flow_class.specs.Code.{fetch}
use Rattle.flow_numbered.specs.Numbered.{Numbered, thing, added, put}
use Rattle.flow_meaning.specs.Cells.{Cell, Single, Stream, is_complete}
use Rattle.flow_meaning.specs.Requests.{Spot, Act, Goes, Pass, Drops, Effects, Operand, Waits, Sends, Cancels, Prints, SendsTo, Returns, Throws, RunsOut, Stuck, DiskCall, Effect, Make, Start, Draw, Delay, Never, Listen, Disk, Goal, Stored, Kept, Supply, Starts}
use Rattle.flow_meaning.specs.Process.{Run, Throw, Store, Keep, Close, Entry, Core}
use Rattle.flow_meaning.specs.Lines.{wait_line, print_line, cancel_line}
use Rattle.flow_meaning.specs.Work.{turn, writes, pushed, dropping_values, new_cell, fill, leave_for, take_branch, first_ready, Registration, Registered, Refused, Missing, register, owner, marked, cancel_by, cancel, cancel_owner}
use Rattle.flow_meaning.specs.Effects.{throws, gives, gives_new, gives_open, empty_cell, between, is_port, open_port, judged, ask_disk, effect, send_to}
use Rattle.flow_meaning.specs.React.{send_by, send_in, print, at_spot, suspend, wait_by, wait, react}
use Rattle.flow_meaning.specs.Step.{kept_by}
use Rattle.flow_meaning.specs.Orderly.{tasks_of, is_suspended, Rising}
use Rattle.flow_meaning.specs.Frame.{Frame}
use Rattle.flow_meaning.proofs.Posture.{each_number, thing_put_other, thing_put, Unless, unless, unless_map}
use Rattle.flow_meaning.proofs.Shifts.{run_of, throw_of, store_of, keep_of, close_of, either, Owned, owned}
use Rattle.flow_progress.proofs.Ahead.{behind, ahead}
use Rattle.flow_progress.proofs.Weights.{stored_room, weigh, weight, Lighter, Falls, lighter_self, falls_on, Still, still_less, all_lighter, dropping_lighter, Hand, push_falls, two_falls, leave_still, leave_fires, leave_weight, leave_falls, took}
use Rattle.flow_progress.proofs.TurnsTaken.{fill_left, branch_turns}

-- what is ahead of a frame when the result of its effect has come
abbrev pub goal_room : Goal → Frame → (kept : ℕ) → ℕ
goal_room Stored f kept = 1 + stored_room (fetch f.code f.block f.instr) f kept
goal_room (Kept spot) f kept = 1 + ahead f.code f.block f.instr (suc kept)

-- An ask leaves less than n to do for its actor, whatever the process answers, or it takes a turn.
abbrev pub Room : Act → Frame → (kept n : ℕ) → Type 0
Room Goes f kept n = ahead f.code f.block f.instr kept < n
Room Pass f kept n = Unit {0}
Room (Drops vs) f kept n = ahead f.code f.block f.instr kept < n
Room (Starts class args) f kept n = Unit {0}
Room (Effects goal eff) f kept n = (goal_room goal f kept < n) × (3 + behind f.code f.block < n)
Room (Operand spot r) f kept n = 1 + ahead f.code f.block f.instr (suc kept) < n
Room (Waits spot vs) f kept n = 4 + behind f.code f.block < n
Room (Sends k o) f kept n = 3 + behind f.code f.block < n
Room (Cancels k) f kept n = ahead f.code f.block f.instr kept < n
Room (Prints v) f kept n = ahead f.code f.block f.instr kept < n
Room (SendsTo q port text) f kept n = (ahead f.code f.block f.instr kept < n) × (3 + behind f.code f.block < n)
Room (Returns v vs) f kept n = 0 < n
Room (Throws e) f kept n = 3 + behind f.code f.block < n
Room RunsOut f kept n = Unit {0}
Room Stuck f kept n = Unit {0}

-- the same entries: the actor is at hand still
pub rehand : (i : ℕ) (c d : Core) (xs : Numbered Frame) (e : Entry) (f : Frame) → thing d.entries i ≡ Some e → Hand i c xs e f → Hand i d xs e f
rehand i c d xs e f q h = record { entry = q; awake = h.awake; frame = h.frame }

-- an actor is cancelled: a suspended one leaves its wait, and another is marked
cancelled_less : (s : Bool) (i : ℕ) (e : Entry) (c : Core) (xs : Numbered Frame) (o : Option Frame) → thing xs i ≡ o → thing c.entries i ≡ Some e → e.suspended ≡ s → Lighter c (cancel_by s i e c) xs
cancelled_less true i e c xs o fr at s =
    let t = Throw i operation_cancelled in
    let d = leave_for i (marked e) [] t c in
    let q = leave_fires i (marked e) [] t c (throw_of i operation_cancelled) in (
      omega arith,
      omega (arith, q),
      refl,
      each_number i (λ j. weight d xs j ≤ weight c xs j) (own o fr) (λ j k. still_less j c d xs (leave_still i (marked e) [] t c (throw_of i operation_cancelled) j k)),
    )
  where
    before : (f : Frame) → thing xs i ≡ Some f → weight c xs i ≡ 4 + behind f.code f.block
    before f fr =
        ap (λ x. weigh (is_suspended x) (kept_by x) (tasks_of i c.tasks) (thing xs i)) at
        ∙ ap (λ b. weigh (Some b) (length e.operands) (tasks_of i c.tasks) (thing xs i)) s
        ∙ ap (weigh (Some true) (length e.operands) (tasks_of i c.tasks)) fr

    own : (o : Option Frame) → thing xs i ≡ o → weight (leave_for i (marked e) [] (Throw i operation_cancelled) c) xs i ≤ weight c xs i
    own None fr =
        let w = leave_weight i (marked e) e [] (Throw i operation_cancelled) c xs None at fr (throw_of i operation_cancelled) in
        omega (arith, w)
    own (Some f) fr =
        let w = leave_weight i (marked e) e [] (Throw i operation_cancelled) c xs (Some f) at fr (throw_of i operation_cancelled) in
        omega (arith, w, before f fr)
cancelled_less false i e c xs o fr at s =
    let d = record c { entries = put c.entries i (marked e) } in
    all_lighter c d xs (omega arith) (omega arith) refl
    (each_number i (λ j. Still j c d) (
      (ap is_suspended (thing_put c.entries i e (marked e) at) ∙ sym (ap is_suspended at), refl),
      ap kept_by (thing_put c.entries i e (marked e) at)
          ∙ sym (ap kept_by at),
    )
    (λ j k. ((ap is_suspended (thing_put_other c.entries i j (marked e) k), refl), ap kept_by (thing_put_other c.entries i j (marked e) k))))

pub cancel_lighter : (i : ℕ) (e : Entry) (c : Core) (xs : Numbered Frame) → thing c.entries i ≡ Some e → Lighter c (cancel i e c) xs
cancel_lighter i e c xs at = cancelled_less e.suspended i e (writes (cancel_line i) c) xs (thing xs i) refl at refl

owner_lighter : (o : Option (ℕ × Entry)) (c : Core) (xs : Numbered Frame) → Owned c o → Lighter c (cancel_owner o c) xs
owner_lighter None c xs h = lighter_self c xs
owner_lighter (Some o) c xs h = cancel_lighter o.0 o.1 c xs h

-- an actor at hand asks
module _ (i n : ℕ) (xs : Numbered Frame) (e : Entry) (f : Frame) where
  abbrev Fallen : Core → Core → Type 0
  Fallen c d = Unless (λ m. Falls i n c m xs) d

  runs : (c : Core) → Hand i c xs e f → ahead f.code f.block f.instr (length e.operands) < n → Falls i n c (pushed (Run i) c) xs
  runs c h room = push_falls i n (Run i) c xs e f h (run_of i) (λ ts. room)

  throws_at : (err : ℕ) (c : Core) → Hand i c xs e f → 3 + behind f.code f.block < n → Fallen c (throws i err c).0
  throws_at err c h room = unless c.halted (push_falls i n (Throw i err) c xs e f h (throw_of i err) (λ ts. room))

  dropped : (vs : List ValueTree) (c d : Core) → Falls i n c d xs → Falls i n c (dropping_values vs d) xs
  dropped vs c d h = falls_on i n c d (dropping_values vs d) xs h (inr (dropping_lighter vs d xs))

  gives_at : (goal : Goal) (v : ValueTree) (c : Core) → Hand i c xs e f → goal_room goal f (length e.operands) < n → Fallen c (gives i goal v c)
  gives_at Stored v c h room = unless c.halted (two_falls i n (Store i v) c xs e f h (store_of i v) (run_of i) (λ ts. room))
  gives_at (Kept spot) (RefValue k cell) c h room = unless c.halted (two_falls i n (Keep i spot (k, cell)) c xs e f h (keep_of i spot (k, cell)) (run_of i) (λ ts. room))
  gives_at (Kept spot) (IntValue z) c h room = tt
  gives_at (Kept spot) (BoolValue b) c h room = tt
  gives_at (Kept spot) (TextValue t) c h room = tt
  gives_at (Kept spot) VoidValue c h room = tt
  gives_at (Kept spot) (ErrorValue z) c h room = tt
  gives_at (Kept spot) (CompositeValue z vs) c h room = tt

  new_at : (goal : Goal) (k : Kind) (cell : Cell) (c : Core) → Hand i c xs e f → goal_room goal f (length e.operands) < n → Fallen c (gives_new i goal k cell c)
  new_at goal k cell c h room = let d = new_cell cell c in gives_at goal (RefValue k (suc c.made)) d (rehand i c d xs e f h.entry h) room

  open_at : (goal : Goal) (c : Core) → Hand i c xs e f → goal_room goal f (length e.operands) < n → Fallen c (gives_open i goal c)
  open_at goal c h room =
      let d = record c { requests = c.requests ++ suc c.made ∷ [] } in
      new_at goal kind.Future (Single None []) d (rehand i c d xs e f h.entry h) room

  abbrev Rooms : Goal → Type 0
  Rooms goal = (goal_room goal f (length e.operands) < n) × (3 + behind f.code f.block < n)

  port_at : (goal : Goal) (port : ℕ) (o : Option ℕ) (c : Core) → Hand i c xs e f → Rooms goal → Fallen c (open_port i goal port o c).0
  port_at goal port (Some cell) c h room = throws_at port_in_use c h room.1
  port_at goal port None c h room =
      let d = record c { ports = added c.ports port (suc c.made) } in
      new_at goal kind.FutureStream (Stream [] None None) d (rehand i c d xs e f h.entry h) room.0

  disk_at : (goal : Goal) (call : Option (DiskCall ℕ)) (c : Core) → Hand i c xs e f → Rooms goal → Fallen c (ask_disk i goal call c).0
  disk_at goal None c h room = throws_at bad_argument c h room.1
  disk_at goal (Some call) c h room = open_at goal c h room.0

  pub effect_at : (s : Supply) (goal : Goal) (eff : Effect) (c : Core) → Hand i c xs e f → Rooms goal → Fallen c (effect s i goal eff c).0
  effect_at s goal (Make k) c h room = new_at goal k (empty_cell k) c h room.0
  effect_at s goal (Start class args) c h room = tt
  effect_at s goal (Draw lo hi) c h room =
      either (λ m. Falls i n c m xs) (between (hi -ℤ lo) 1 (2 ^ 32)) _ (throws i bad_argument c) (gives_at goal (IntValue (scaled lo (natural (hi -ℤ lo)) s.word)) c h room.0)
      (throws_at bad_argument c h room.1)
  effect_at s goal (Delay ticks) c h room =
      either (λ m. Falls i n c m xs) (nat_le (s.now + natural ticks) (2 ^ 62)) _ (throws i out_of_range c) (open_at goal c h room.0) (throws_at out_of_range c h room.1)
  effect_at s goal Never c h room = new_at goal kind.Future (Single None []) c h room.0
  effect_at s goal (Listen port) c h room =
      either (λ m. Falls i n c m xs) (is_port port) _ (throws i bad_argument c) (port_at goal (natural port) (thing c.ports (natural port)) c h room) (throws_at bad_argument c h room.1)
  effect_at s goal (Disk call) c h room = disk_at goal (judged call) c h room

  send_by_at : (b : Bool) (k : ℕ) (o : OutcomeTree) (c : Core) → Hand i c xs e f → 3 + behind f.code f.block < n → Fallen c (send_by b i k o c)
  send_by_at true k o c h room = throws_at already_set c h room
  send_by_at false k o c h room =
      let r = send_by false i k o c in
      unless_map r.halted (λ lt. inl lt)
      (took (λ d. d.left < c.left) (λ d. fill k o (pushed (Run i) d)) c (λ m lt.
      let d = pushed (Run i) (record c { left = m }) in
      unless_map (fill k o d).halted (λ le. omega (arith, le, lt)) (fill_left m k o d (omega arith))))

  send_at : (x : Option Cell) (k : ℕ) (o : OutcomeTree) (c : Core) → Hand i c xs e f → 3 + behind f.code f.block < n → Fallen c (send_in x i k o c)
  send_at None k o c h room = tt
  send_at (Some cell) k o c h room = send_by_at (is_complete cell) k o c h room

  print_at : (l : Option Line) (c : Core) → Hand i c xs e f → ahead f.code f.block f.instr (length e.operands) < n → Fallen c (print i l c)
  print_at None c h room = tt
  print_at (Some l) c h room = unless c.halted (runs (writes l c) (rehand i c (writes l c) xs e f h.entry h) room)

  send_to_at : (s : Supply) (q port : ℤ) (text : List ℕ) (c : Core) → Hand i c xs e f → Room (SendsTo q port text) f (length e.operands) n → Fallen c (send_to s i q port text c).0
  send_to_at s q port text c h room =
      either (λ m. Falls i n c m xs) (int_le (pos 0) q && nat_lt (natural q) s.processes && is_port port) _ (throws i bad_argument c) (unless c.halted (runs c h room.0))
      (throws_at bad_argument c h room.1)

  -- a wait
  asleep : (spot : Spot) (cells : Numbered Cell) (c : Core) → Hand i c xs e f → 4 + behind f.code f.block < n
      → Falls i n c (record (writes (wait_line i spot.group) c) { cells = cells; entries = put c.entries i (record (at_spot spot e) { suspended = true }) }) xs
  asleep spot cells c h room =
      let en = record (at_spot spot e) { suspended = true } in
      let d = record (writes (wait_line i spot.group) c) { cells = cells; entries = put c.entries i en } in
      let w : weight d xs i ≡ 4 + behind f.code f.block =
      ap (λ o. weigh (is_suspended o) (kept_by o) (tasks_of i c.tasks) (thing xs i)) (thing_put c.entries i e en h.entry)
      ∙ ap (weigh (Some true) (length e.operands) (tasks_of i c.tasks)) h.frame in
      inr (
        omega arith,
        omega arith,
        refl,
        omega (arith, w, room),
        λ j k. still_less j c d xs ((ap is_suspended (thing_put_other c.entries i j en k), refl), ap kept_by (thing_put_other c.entries i j en k)),
      )

  suspend_at : (spot : Spot) (vs : List ValueTree) (r : Registration) (c : Core) → Hand i c xs e f → 4 + behind f.code f.block < n → Fallen c (suspend i spot (at_spot spot e) vs r c)
  suspend_at spot vs Missing c h room = tt
  suspend_at spot vs Refused c h room =
      unless c.halted (leave_falls i n (at_spot spot e) e vs (Throw i second_waiter) c xs f h.entry h.frame (throw_of i second_waiter) (λ ts. omega (arith, room)))
  suspend_at spot vs (Registered cells) c h room =
      let d = record (writes (wait_line i spot.group) c) { cells = cells; entries = put c.entries i (record (at_spot spot e) { suspended = true }) } in
      unless c.halted (dropped vs c d (asleep spot cells c h room))

  wait_by_at : (spot : Spot) (vs : List ValueTree) (b : Option (ℕ × ℕ)) (c : Core) → Hand i c xs e f → 4 + behind f.code f.block < n → Fallen c (wait_by i spot (at_spot spot e) vs b c)
  wait_by_at spot vs None c h room = suspend_at spot vs (register i 0 e.operands (Registered c.cells)) c h room
  wait_by_at spot vs (Some b) c h room =
      let r = take_branch i b.0 b.1 (at_spot spot e) vs (thing c.cells b.1) c in
      unless_map r.halted (λ lt. inl lt) (branch_turns i b.0 b.1 (at_spot spot e) vs (thing c.cells b.1) c)

  wait_at : (spot : Spot) (vs : List ValueTree) (c : Core) → Hand i c xs e f → 4 + behind f.code f.block < n → Fallen c (wait i spot (thing c.entries i) vs c)
  wait_at spot vs c h room =
      subst (λ o. Fallen c (wait i spot o vs c)) (sym h.entry) (wait_by_at spot vs (first_ready c.cells 0 e.operands) c h room)

  pub react_falls : (s : Supply) (act : Act) (c : Core) → Rising 0 c.started c.entries → Hand i c xs e f → Room act f (length e.operands) n → Fallen c (react s i act c).0
  react_falls s Goes c o h room = unless c.halted (runs c h room)
  react_falls s Pass c o h room =
      let r = turn c (pushed (Run i)) in
      unless_map r.halted (λ lt. inl lt) (took (λ d. d.left < c.left) (pushed (Run i)) c (λ m lt. unless c.halted lt))
  react_falls s (Drops vs) c o h room = unless c.halted (dropped vs c (pushed (Run i) c) (runs c h room))
  react_falls s (Starts class args) c o h room = tt
  react_falls s (Effects goal eff) c o h room = effect_at s goal eff c h room
  react_falls s (Operand spot r) c o h room = unless c.halted (two_falls i n (Keep i spot r) c xs e f h (keep_of i spot r) (run_of i) (λ ts. room))
  react_falls s (Waits spot vs) c o h room = wait_at spot vs c h room
  react_falls s (Sends k v) c o h room = send_at (thing c.cells k) k v c h room
  react_falls s (Cancels k) c o h room =
      let d = pushed (Run i) c in
      let x = owner k c.entries in
      unless (cancel_owner x d).halted (falls_on i n c d (cancel_owner x d) xs (runs c h room) (inr (owner_lighter x d xs (owned k c x o refl))))
  react_falls s (Prints v) c o h room = print_at (print_line i v) c h room
  react_falls s (SendsTo q port text) c o h room = send_to_at s q port text c h room
  react_falls s (Returns v vs) c o h room =
      let t = Close i (GoodOutcome v) in
      unless c.halted (dropped vs c (pushed t c) (push_falls i n t c xs e f h (close_of i (GoodOutcome v)) (λ ts. room)))
  react_falls s (Throws err) c o h room = throws_at err c h room
  react_falls s RunsOut c o h room = tt
  react_falls s Stuck c o h room = tt
