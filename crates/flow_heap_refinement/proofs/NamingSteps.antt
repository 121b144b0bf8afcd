-- Each step of classes keeps a rule on references.
use Rattle.std.proofs.Common.{◌≡◌, ℕ, suc, ◌+◌, Bool, true, false, List, [], ◌∷◌, ◌++◌, length, refl, subst}
use Rattle.std.specs.Prelude.{cond, ℤ, pos, ◌-ℤ◌, ◌^◌, int_le, nat_le, nat_lt, ◌&&◌, slice_get}
use Rattle.std.specs.declared.option.Option.{Option}
use Rattle.std.specs.declared.option.Option.TheVariants.{None, Some}
use Rattle.flow_base.specs.ErrorNumbers.{operation_cancelled, already_set, port_in_use, bad_argument, out_of_range}
use Rattle.flow_value.specs.declared.value.Kind.{Kind}
use Rattle.flow_value.specs.declared.value.Kind.TheVariants as kind
use Rattle.flow_value.specs.Values.{ValueTree, IntValue, BoolValue, TextValue, VoidValue, ErrorValue, CompositeValue, RefValue, OutcomeTree, GoodOutcome, BadOutcome}
use Rattle.flow_draw.specs.Words.{scaled}
use Rattle.flow_eval.specs.Predefined.{natural}
use Rattle.flow_trace.specs.declared.line.Line.{Line}
use Rattle.flow_class.specs.Classes.{RawTree}
use Rattle.flow_class.specs.Code.{fetch}
use Rattle.flow_numbered.specs.Numbered.{Numbered, thing, added, put, removed}
use Rattle.flow_meaning.specs.Cells.{Ref, Cell, Single, Stream, is_complete, outcome}
use Rattle.flow_meaning.specs.Requests.{Spot, Act, Goes, Pass, Drops, Effects, Starts, Operand, Waits, Sends, Cancels, Prints, SendsTo, Returns, Throws, RunsOut, Stuck, DiskCall, Effect, Make, Start, Draw, Delay, Never, Listen, Disk, Goal, Stored, Kept, Ask, Supply}
use Rattle.flow_meaning.specs.Process.{Task, Run, Give, Throw, Catch, Store, Keep, Close, Fire, Drop, Entry, Halt, Core, Raised}
use Rattle.flow_meaning.specs.Lines.{throw_line, catch_line, print_line}
use Rattle.flow_meaning.specs.References.{scan_of}
use Rattle.flow_meaning.specs.Work.{writes, pushed, new_cell, fill, first_ready, is_ready_at, owner}
use Rattle.flow_meaning.specs.Effects.{Reaction, throws, result_task, push_result, gives, gives_new, gives_open, empty_cell, between, is_port, open_port, judged, ask_disk, effect, send_to}
use Rattle.flow_meaning.specs.React.{send_by, send_in, print, at_spot, wait_by, wait, react}
use Rattle.flow_meaning.specs.Step.{proc, Stepped, view, entry_of, enrol_with, enrol, start_core, start_void, start, start_alone, answer_effect, answer, run_next, run, give, store, fate, throw_core, throw, OperandFate, GoesOn, Cancelled, Ready, verdict, with_operand, below, leave_kept, keep_by, keep, close_actor, step_tasks, step_if}
use Rattle.flow_meaning.specs.Frame.{Frame, lose}
use Rattle.flow_meaning.specs.Class.{classes, class_names}
use Rattle.flow_heap_refinement.specs.Evaluation.{Rule, GivesFutures, Named, AllNamed, RefNamed}
use Rattle.flow_heap_refinement.specs.Naming as law
use Rattle.flow_heap_refinement.specs.Naming.{Each, OutcomeNamed, RefsNamed, CellNamed, TaskNamed, TasksNamed, CoreNamed, MemoryNamed, FramesNamed, ProcNamed, HoldsNew, ActMakes, AskMakes, FrameMakes, TaskMakes, HoldsNext}
use Rattle.flow_heap_refinement.proofs.NamingFrames.{EffectNamed, ActNamed, StepNamed, MaybeFrame, next_named, lose_named, store_named, take_named, raise_named, fresh_named}
use Rattle.flow_heap_refinement.proofs.NamingWork.{each_put, each_removed, each_added, each_at, dropping_named, push_named, turn_named, fill_named, leave_named, branch_named, operands_named, cancels_named, suspend_named, drop_named, fire_named, close_named}

module _ (p : Rule) where
  -- effects: the result refers to the new cell, or to nothing
  result_named : (i : ℕ) (goal : Goal) (v : ValueTree) (c : Core) → Named p v → CoreNamed p c → CoreNamed p (push_result i (result_task i goal v) c)
  result_named i Stored v c h n = push_named p (Store i v) (pushed (Run i) c) h (push_named p (Run i) c tt n)
  result_named i (Kept spot) (RefValue k cell) c h n = push_named p (Keep i spot (k, cell)) (pushed (Run i) c) h (push_named p (Run i) c tt n)
  result_named i (Kept spot) (IntValue z) c h n = n
  result_named i (Kept spot) (BoolValue b) c h n = n
  result_named i (Kept spot) (TextValue t) c h n = n
  result_named i (Kept spot) VoidValue c h n = n
  result_named i (Kept spot) (ErrorValue e) c h n = n
  result_named i (Kept spot) (CompositeValue r vs) c h n = n

  made_named : (cell : Cell) (c : Core) → CellNamed p cell → CoreNamed p c → CoreNamed p (new_cell cell c)
  made_named cell c h n = (each_added (CellNamed p) c.cells (suc c.made) cell n.0 h, n.1, n.2)

  gives_named : (i : ℕ) (goal : Goal) (k : Kind) (cell : Cell) (c : Core) → p k (suc c.made) ≡ true → CellNamed p cell → CoreNamed p c → CoreNamed p (gives_new i goal k cell c)
  gives_named i goal k cell c above h n = result_named i goal (RefValue k (suc c.made)) (new_cell cell c) above (made_named cell c h n)

  empty_named : (k : Kind) → CellNamed p (empty_cell k)
  empty_named kind.Promise = tt
  empty_named kind.Future = tt
  empty_named kind.PromiseStream = tt
  empty_named kind.FutureStream = tt

  either : (b : Bool) (x y : Reaction) → CoreNamed p x.0 → CoreNamed p y.0 → CoreNamed p (cond b x y).0
  either true x y h k = h
  either false x y h k = k

  bad_named : (i err : ℕ) (c : Core) → CoreNamed p c → CoreNamed p (throws i err c).0
  bad_named i err c n = push_named p (Throw i err) c tt n

  port_named : (i : ℕ) (goal : Goal) (port : ℕ) (o : Option ℕ) (c : Core) → p kind.FutureStream (suc c.made) ≡ true → CoreNamed p c → CoreNamed p (open_port i goal port o c).0
  port_named i goal port (Some cell) c above n = bad_named i port_in_use c n
  port_named i goal port None c above n = gives_named i goal kind.FutureStream (Stream [] None None) (record c { ports = added c.ports port (suc c.made) }) above tt n

  opened_named : (i : ℕ) (goal : Goal) (c : Core) → p kind.Future (suc c.made) ≡ true → CoreNamed p c → CoreNamed p (gives_open i goal c)
  opened_named i goal c above n = gives_named i goal kind.Future (Single None []) (record c { requests = c.requests ++ suc c.made ∷ [] }) above tt n

  disk_named : (i : ℕ) (goal : Goal) (call : Option (DiskCall ℕ)) (c : Core) → p kind.Future (suc c.made) ≡ true → CoreNamed p c → CoreNamed p (ask_disk i goal call c).0
  disk_named i goal None c above n = bad_named i bad_argument c n
  disk_named i goal (Some call) c above n = opened_named i goal c above n

  effect_named : (s : Supply) (i : ℕ) (goal : Goal) (eff : Effect) (c : Core) → HoldsNew p c.made eff → CoreNamed p c → CoreNamed p (effect s i goal eff c).0
  effect_named s i goal (Make k) c above n = gives_named i goal k (empty_cell k) c above (empty_named k) n
  effect_named s i goal (Start class args) c above n = n
  effect_named s i goal (Draw lo hi) c above n =
      either (between (hi -ℤ lo) 1 (2 ^ 32)) _ (throws i bad_argument c) (result_named i goal (IntValue (scaled lo (natural (hi -ℤ lo)) s.word)) c tt n) (bad_named i bad_argument c n)
  effect_named s i goal (Delay ticks) c above n = either (nat_le (s.now + natural ticks) (2 ^ 62)) _ (throws i out_of_range c) (opened_named i goal c above n) (bad_named i out_of_range c n)
  effect_named s i goal Never c above n = gives_named i goal kind.Future (Single None []) c above tt n
  effect_named s i goal (Listen port) c above n =
      either (is_port port) _ (throws i bad_argument c) (port_named i goal (natural port) (thing c.ports (natural port)) c above n) (bad_named i bad_argument c n)
  effect_named s i goal (Disk call) c above n = disk_named i goal (judged call) c above n

  -- sends
  send_by_named : (b : Bool) (i k : ℕ) (o : OutcomeTree) (c : Core) → OutcomeNamed p o → CoreNamed p c → CoreNamed p (send_by b i k o c)
  send_by_named true i k o c h n = push_named p (Throw i already_set) c tt n
  send_by_named false i k o c h n = turn_named p c.left c (λ d. fill k o (pushed (Run i) d)) n
      (λ m. fill_named p k o (pushed (Run i) (record c { left = m })) h (push_named p (Run i) (record c { left = m }) tt n))

  send_in_named : (x : Option Cell) (i k : ℕ) (o : OutcomeTree) (c : Core) → OutcomeNamed p o → CoreNamed p c → CoreNamed p (send_in x i k o c)
  send_in_named None i k o c h n = n
  send_in_named (Some cell) i k o c h n = send_by_named (is_complete cell) i k o c h n

  send_to_named : (s : Supply) (i : ℕ) (q port : ℤ) (text : List ℕ) (c : Core) → CoreNamed p c → CoreNamed p (send_to s i q port text c).0
  send_to_named s i q port text c n =
      either (int_le (pos 0) q && nat_lt (natural q) s.processes && is_port port) _ (throws i bad_argument c) (push_named p (Run i) c tt n) (bad_named i bad_argument c n)

  -- waits
  wait_by_named : (i : ℕ) (spot : Spot) (e : Entry) (vs : List ValueTree) (b : Option (ℕ × ℕ)) (c : Core) → RefsNamed p e.operands → AllNamed p vs → CoreNamed p c
      → CoreNamed p (wait_by i spot e vs b c)
  wait_by_named i spot e vs None c h a n = suspend_named p i spot e vs c h a n
  wait_by_named i spot e vs (Some b) c h a n = branch_named p i b.0 b.1 e vs c h a n

  wait_named : (i : ℕ) (spot : Spot) (vs : List ValueTree) (c : Core) (o : Option Entry) → thing c.entries i ≡ o → AllNamed p vs → CoreNamed p c → CoreNamed p (wait i spot o vs c)
  wait_named i spot vs c None at a n = n
  wait_named i spot vs c (Some e) at a n = wait_by_named i spot (at_spot spot e) vs (first_ready c.cells 0 e.operands) c (operands_named p i e c at n) a n

  print_named : (i : ℕ) (l : Option Line) (c : Core) → CoreNamed p c → CoreNamed p (print i l c)
  print_named i None c n = n
  print_named i (Some l) c n = push_named p (Run i) (writes l c) tt n

  react_named : (s : Supply) (i : ℕ) (act : Act) (c : Core) → ActMakes p c.made act → ActNamed p act → CoreNamed p c → CoreNamed p (react s i act c).0
  react_named s i Goes c above h n = push_named p (Run i) c tt n
  react_named s i Pass c above h n = turn_named p c.left c (pushed (Run i)) n (λ m. push_named p (Run i) (record c { left = m }) tt n)
  react_named s i (Drops vs) c above h n = dropping_named p vs (pushed (Run i) c) h (push_named p (Run i) c tt n)
  react_named s i (Effects goal eff) c above h n = effect_named s i goal eff c above n
  react_named s i (Starts class args) c above h n = n
  react_named s i (Operand spot r) c above h n = push_named p (Keep i spot r) (pushed (Run i) c) h (push_named p (Run i) c tt n)
  react_named s i (Waits spot vs) c above h n = wait_named i spot vs c (thing c.entries i) refl h n
  react_named s i (Sends k o) c above h n = send_in_named (thing c.cells k) i k o c h.0 n
  react_named s i (Cancels k) c above h n = cancels_named p k (owner k c.entries) c (pushed (Run i) c) refl n (push_named p (Run i) c tt n)
  react_named s i (Prints v) c above h n = print_named i (print_line i v) c n
  react_named s i (SendsTo q port text) c above h n = send_to_named s i q port text c n
  react_named s i (Returns v vs) c above h n = dropping_named p vs (pushed (Close i (GoodOutcome v)) c) h.1 (push_named p (Close i (GoodOutcome v)) c h.0 n)
  react_named s i (Throws e) c above h n = bad_named i e c n
  react_named s i RunsOut c above h n = n
  react_named s i Stuck c above h n = n

  enrol_with_named : (class : ℕ) (name : List ℕ) (result : Option ℕ) (c : Core) → CoreNamed p c → CoreNamed p (enrol_with class name result c)
  enrol_with_named class name result c n = (n.0, each_added (λ e. RefsNamed p e.operands) c.entries (suc c.started) (entry_of class result) n.1 tt, (tt, n.2))

  pub enrol_named : (class : ℕ) (name : List ℕ) (c : Core) → CoreNamed p c → CoreNamed p (enrol class name c)
  enrol_named class name c n =
      enrol_with_named class name (Some (suc c.made)) (new_cell (Single None []) c) (each_added (CellNamed p) c.cells (suc c.made) (Single None []) n.0 tt, n.1, n.2)

  start_named : (i : ℕ) (goal : Goal) (class : ℕ) (name : List ℕ) (c : Core) → p kind.Future (suc c.made) ≡ true → CoreNamed p c → CoreNamed p (start_core i goal class name c)
  start_named i goal class name c above n =
      turn_named p c.left c (λ d. enrol class name (push_result i (result_task i goal (RefValue kind.Future (suc d.made))) d)) n
      (λ m. enrol_named class name (push_result i (result_task i goal (RefValue kind.Future (suc c.made))) (record c { left = m }))
      (result_named i goal (RefValue kind.Future (suc c.made)) (record c { left = m }) above n))

  void_named : (i class : ℕ) (name : List ℕ) (c : Core) → CoreNamed p c → CoreNamed p (start_void i class name c)
  void_named i class name c n =
      turn_named p c.left c (λ d. enrol_with class name None (pushed (Run i) d)) n
      (λ m. enrol_with_named class name None (pushed (Run i) (record c { left = m })) (push_named p (Run i) (record c { left = m }) tt n))

  thrown_named : (i err : ℕ) (x : Raised) (o : Option Entry) (c : Core) → thing c.entries i ≡ o → AllNamed p x.values → CoreNamed p c → CoreNamed p (throw_core i err x o c)
  thrown_named i err x None c at h n = n
  thrown_named i err x (Some e) c at h n = leave_named p i e x.values (fate i err x.caught) (writes (throw_line i err) c) (operands_named p i e c at n) h (fate_named x.caught) n
    where
      fate_named : (b : Bool) → TaskNamed p (fate i err b)
      fate_named true = tt
      fate_named false = tt

  operands_more : (rs : List Ref) (r : Ref) → RefsNamed p rs → RefNamed p r → RefsNamed p (rs ++ r ∷ [])
  operands_more [] r h k = (k, tt)
  operands_more (x ∷ rs) r h k = (h.0, operands_more rs r h.1 k)

  below_named : (ts : List Task) → TasksNamed p ts → TasksNamed p (below ts)
  below_named [] h = tt
  below_named (t ∷ ts) h = h.1

  leave_kept_named : (i b : ℕ) (v : OperandFate) (r : Ref) (en : Entry) (vs : List ValueTree) (c : Core) → RefsNamed p en.operands → AllNamed p vs → CoreNamed p c
      → CoreNamed p (leave_kept i b v r en vs c)
  leave_kept_named i b GoesOn r en vs c h a n = n
  leave_kept_named i b Cancelled r en vs c h a n = leave_named p i en vs (Throw i operation_cancelled) c h a tt n
  leave_kept_named i b Ready r en vs c h a n = branch_named p i b r.1 en vs c h a n

  module _ (r : RawTree) (gives : GivesFutures p) where
    frame_at : (xs : Numbered Frame) (i : ℕ) (f : Frame) → thing xs i ≡ Some f → FramesNamed p xs → MemoryNamed p f.mem
    frame_at xs i f at h = each_at (λ f. MemoryNamed p f.mem) xs i f h at

    frames_put : (xs : Numbered Frame) (i : ℕ) (f : Frame) → FramesNamed p xs → MemoryNamed p f.mem → FramesNamed p (put xs i f)
    frames_put xs i f h m = each_put (λ f. MemoryNamed p f.mem) xs i f h m

    give_keeps : (i b : ℕ) (o : OutcomeTree) (x : Option Frame) (c : Core) (xs : Numbered Frame) → thing xs i ≡ x → OutcomeNamed p o → CoreNamed p c → FramesNamed p xs
        → ProcNamed p (give (classes r) i b o x (proc c xs)).0
    give_keeps i b o None c xs at h n m = (n, m)
    give_keeps i b (BadOutcome err) (Some f) c xs at h n m = (push_named p (Throw i err) c tt n, m)
    give_keeps i b (GoodOutcome v) (Some f) c xs at h n m =
        let t = take_named p (class_names r) b v f (fetch f.code f.block f.instr) (frame_at xs i f at m) h in
        (dropping_named p ((classes r).take b v f).0 (pushed (Run i) c) t.0 (push_named p (Run i) c tt n), frames_put xs i ((classes r).take b v f).1 m t.1)

    store_keeps : (i : ℕ) (v : ValueTree) (x : Option Frame) (c : Core) (xs : Numbered Frame) → thing xs i ≡ x → Named p v → CoreNamed p c → FramesNamed p xs
        → ProcNamed p (store (classes r) i v x (proc c xs)).0
    store_keeps i v None c xs at h n m = (n, m)
    store_keeps i v (Some f) c xs at h n m =
        let t = store_named p (class_names r) v f (fetch f.code f.block f.instr) (frame_at xs i f at m) h in
        (dropping_named p ((classes r).store v f).0 c t.0 n, frames_put xs i ((classes r).store v f).1 m t.1)

    throw_keeps : (i err : ℕ) (x : Option Frame) (c : Core) (xs : Numbered Frame) → thing xs i ≡ x → CoreNamed p c → FramesNamed p xs → ProcNamed p (throw (classes r) i err x (proc c xs)).0
    throw_keeps i err None c xs at n m = (n, m)
    throw_keeps i err (Some f) c xs at n m =
        let t = raise_named p err f (frame_at xs i f at m) in
        (thrown_named i err ((classes r).raise err f).0 (thing c.entries i) c refl t.0 n, frames_put xs i ((classes r).raise err f).1 m t.1)

    lost_keeps : (i b : ℕ) (v : OperandFate) (q : Ref) (en : Entry) (f : Frame) (c : Core) (xs : Numbered Frame) → RefsNamed p en.operands → MemoryNamed p f.mem → CoreNamed p c → FramesNamed p xs
        → ProcNamed p (proc (leave_kept i b v q en (lose f).0 (record c { tasks = below c.tasks })) (put xs i (lose f).1))
    lost_keeps i b v q en f c xs h k n m =
        let t = lose_named p f k in
        (leave_kept_named i b v q en (lose f).0 (record c { tasks = below c.tasks }) h t.0 (n.0, n.1, below_named c.tasks n.2), frames_put xs i (lose f).1 m t.1)

    keep_by_keeps : (i b : ℕ) (v : OperandFate) (q : Ref) (en : Entry) (f : Frame) (c : Core) (xs : Numbered Frame) → RefsNamed p en.operands → MemoryNamed p f.mem → CoreNamed p c → FramesNamed p xs
        → ProcNamed p (keep_by (classes r) i b v q en f (proc c xs)).0
    keep_by_keeps i b GoesOn q en f c xs h k n m = ((n.0, each_put (λ e. RefsNamed p e.operands) c.entries i en n.1 h, n.2), m)
    keep_by_keeps i b Cancelled q en f c xs h k n m = lost_keeps i b Cancelled q en f c xs h k n m
    keep_by_keeps i b Ready q en f c xs h k n m = lost_keeps i b Ready q en f c xs h k n m

    keep_keeps : (i : ℕ) (spot : Spot) (q : Ref) (x : Option Frame) (en : Option Entry) (c : Core) (xs : Numbered Frame) → thing xs i ≡ x → thing c.entries i ≡ en → RefNamed p q → CoreNamed p c
        → FramesNamed p xs
        → ProcNamed p (keep (classes r) i spot q x en (proc c xs)).0
    keep_keeps i spot q None None c xs at en h n m = (n, m)
    keep_keeps i spot q None (Some e) c xs at en h n m = (n, m)
    keep_keeps i spot q (Some f) None c xs at en h n m = (n, m)
    keep_keeps i spot q (Some f) (Some e) c xs at en h n m =
        keep_by_keeps i (length e.operands) (verdict e.marked (is_ready_at (thing c.cells q.1))) q (with_operand spot q e) f c xs (operands_more e.operands q (operands_named p i e c en n) h)
        (frame_at xs i f at m) n m

    close_keeps : (i : ℕ) (o : OutcomeTree) (en : Option Entry) (c : Core) (xs : Numbered Frame) → OutcomeNamed p o → CoreNamed p c → FramesNamed p xs
        → ProcNamed p (close_actor (classes r) i o en (proc c xs)).0
    close_keeps i o None c xs h n m = (n, m)
    close_keeps i o (Some en) c xs h n m = (close_named p (scan_of (classes r).occ (removed xs i)) i en.result o c h n, each_removed (λ f. MemoryNamed p f.mem) xs i m)

    start_keeps : (i : ℕ) (goal : Goal) (class : ℕ) (x : Option Frame) (c : Core) (xs : Numbered Frame) → p kind.Future (suc c.made) ≡ true → MaybeFrame p x → CoreNamed p c → FramesNamed p xs
        → ProcNamed p (start (classes r) i goal class x (proc c xs)).0
    start_keeps i goal class None c xs above h n m = (n, m)
    start_keeps i goal class (Some f) c xs above h n m = (start_named i goal class ((classes r).label class) c above n, each_added (λ f. MemoryNamed p f.mem) xs (suc c.started) f m h)

    alone_keeps : (i class : ℕ) (x : Option Frame) (c : Core) (xs : Numbered Frame) → MaybeFrame p x → CoreNamed p c → FramesNamed p xs
        → ProcNamed p (start_alone (classes r) i class x (proc c xs)).0
    alone_keeps i class None c xs h n m = (n, m)
    alone_keeps i class (Some f) c xs h n m = (void_named i class ((classes r).label class) c n, each_added (λ f. MemoryNamed p f.mem) xs (suc c.started) f m h)

    effect_keeps : (s : Supply) (i : ℕ) (goal : Goal) (eff : Effect) (c : Core) (xs : Numbered Frame) → HoldsNew p c.made eff → EffectNamed p eff → CoreNamed p c → FramesNamed p xs
        → ProcNamed p (answer_effect (classes r) s i goal eff (proc c xs)).0
    effect_keeps s i goal (Start class args) c xs above h n m = start_keeps i goal class ((classes r).fresh class args) c xs above (fresh_named p (slice_get r.classes class) args h) n m
    effect_keeps s i goal eff c xs above h n m = (react_named s i (Effects goal eff) c above h n, m)

    answer_keeps : (s : Supply) (i : ℕ) (act : Act) (c : Core) (xs : Numbered Frame) → ActMakes p c.made act → ActNamed p act → CoreNamed p c → FramesNamed p xs
        → ProcNamed p (answer (classes r) s i act (proc c xs)).0
    answer_keeps s i (Effects goal eff) c xs above h n m = effect_keeps s i goal eff c xs above h n m
    answer_keeps s i (Starts class args) c xs above h n m = alone_keeps i class ((classes r).fresh class args) c xs (fresh_named p (slice_get r.classes class) args h) n m
    answer_keeps s i act c xs above h n m = (react_named s i act c above h n, m)

    next_keeps : (s : Supply) (i : ℕ) (ts : List Task) (x : Option Ask × Frame) (c : Core) (xs : Numbered Frame) → AskMakes p c.made x.0 → StepNamed p x → TasksNamed p ts → CoreNamed p c
        → FramesNamed p xs → ProcNamed p (run_next (classes r) s i ts x (proc c xs)).0
    next_keeps s i ts (None, f) c xs above h k n m = (n, frames_put xs i f m h.1)
    next_keeps s i ts (Some ask, f) c xs above h k n m = answer_keeps s i ask.act (record c { tasks = ts; left = ask.left }) (put xs i f) above h.0 (n.0, n.1, k) (frames_put xs i f m h.1)

    -- what an actor sees of the cells
    seen_named : (c : Core) → CoreNamed p c → (k : ℕ) (v : ValueTree) → outcome (thing c.cells k) ≡ Some (GoodOutcome v) → Named p v
    seen_named c n k v e = by_cell (thing c.cells k) refl e
      where
        by_cell : (x : Option Cell) → thing c.cells k ≡ x → outcome x ≡ Some (GoodOutcome v) → Named p v
        by_cell None at f = absurd (cc)
        by_cell (Some (Single o ws)) at f = subst (λ y. CellNamed p (Single y ws)) f (each_at (CellNamed p) c.cells k (Single o ws) n.0 at)
        by_cell (Some (Stream q d w)) at f = absurd (cc)

    run_keeps : (s : Supply) (i : ℕ) (ts : List Task) (x : Option Frame) (c : Core) (xs : Numbered Frame) → thing xs i ≡ x → FrameMakes p r s i c x → TasksNamed p ts → CoreNamed p c → FramesNamed p xs
        → ProcNamed p (run (classes r) s i ts x (proc c xs)).0
    run_keeps s i ts None c xs at above k n m = (n, m)
    run_keeps s i ts (Some f) c xs at above k n m =
        next_keeps s i ts ((classes r).next (view s i c) f) c xs above (next_named p gives (class_names r) (view s i c) (seen_named c n) f (frame_at xs i f at m)) k n m

    abbrev MaybeKeeps : Option (Stepped Frame) → Type 0
    MaybeKeeps None = Unit {0}
    MaybeKeeps (Some t) = ProcNamed p t.0

    tasks_keep : (s : Supply) (ts : List Task) (c : Core) (xs : Numbered Frame) → TaskMakes p r s c xs ts → TasksNamed p ts → CoreNamed p c → FramesNamed p xs
        → MaybeKeeps (step_tasks (classes r) s ts (proc c xs))
    tasks_keep s [] c xs above k n m = tt
    tasks_keep s (Run i ∷ ts) c xs above k n m = run_keeps s i ts (thing xs i) c xs refl above k.1 n m
    tasks_keep s (Give i b o ∷ ts) c xs above k n m = give_keeps i b o (thing xs i) (record c { tasks = ts }) xs refl k.0 (n.0, n.1, k.1) m
    tasks_keep s (Throw i err ∷ ts) c xs above k n m = throw_keeps i err (thing xs i) (record c { tasks = ts }) xs refl (n.0, n.1, k.1) m
    tasks_keep s (Catch i err ∷ ts) c xs above k n m = (push_named p (Run i) (writes (catch_line i err) (record c { tasks = ts })) tt (n.0, n.1, k.1), m)
    tasks_keep s (Store i v ∷ ts) c xs above k n m = store_keeps i v (thing xs i) (record c { tasks = ts }) xs refl k.0 (n.0, n.1, k.1) m
    tasks_keep s (Keep i spot q ∷ ts) c xs above k n m = keep_keeps i spot q (thing xs i) (thing c.entries i) (record c { tasks = ts }) xs refl refl k.0 (n.0, n.1, k.1) m
    tasks_keep s (Close i o ∷ ts) c xs above k n m = close_keeps i o (thing c.entries i) (record c { tasks = ts }) xs k.0 (n.0, n.1, k.1) m
    tasks_keep s (Fire j ∷ ts) c xs above k n m = (fire_named p (scan_of (classes r).occ xs) j (record c { tasks = ts }) (n.0, n.1, k.1), m)
    tasks_keep s (Drop kd j ∷ ts) c xs above k n m = (drop_named p (scan_of (classes r).occ xs) kd j (record c { tasks = ts }) (n.0, n.1, k.1), m)

    if_keeps : (s : Supply) (x : Option Halt) (c : Core) (xs : Numbered Frame) → TaskMakes p r s c xs c.tasks → CoreNamed p c → FramesNamed p xs → MaybeKeeps (step_if (classes r) s x (proc c xs))
    if_keeps s (Some x) c xs above n m = tt
    if_keeps s None c xs above n m = tasks_keep s c.tasks c xs above n.2 n m

pub steps_named : law.StepsNamed
steps_named r p s q t gives above n e = subst (MaybeKeeps p r gives) e (if_keeps p r gives s q.core.halted q.core q.actors above n.0 n.1)

-- what a step makes
new_made : (p : Rule) (n : ℕ) (eff : Effect) → HoldsNext p n → HoldsNew p n eff
new_made p n (Make k) h = h k
new_made p n (Draw lo hi) h = tt
new_made p n (Listen port) h = h kind.FutureStream
new_made p n _ h = h kind.Future

act_made : (p : Rule) (n : ℕ) (act : Act) → HoldsNext p n → ActMakes p n act
act_made p n (Effects goal eff) h = new_made p n eff h
act_made p n act h = tt

ask_made : (p : Rule) (n : ℕ) (o : Option Ask) → HoldsNext p n → AskMakes p n o
ask_made p n None h = tt
ask_made p n (Some q) h = act_made p n q.act h

frame_made : (p : Rule) (r : RawTree) (s : Supply) (i : ℕ) (c : Core) (o : Option Frame) → HoldsNext p c.made → FrameMakes p r s i c o
frame_made p r s i c None h = tt
frame_made p r s i c (Some f) h = ask_made p c.made ((classes r).next (view s i c) f).0 h

task_made : (p : Rule) (r : RawTree) (s : Supply) (c : Core) (xs : Numbered Frame) (ts : List Task) → HoldsNext p c.made → TaskMakes p r s c xs ts
task_made p r s c xs (Run i ∷ ts) h = frame_made p r s i c (thing xs i) h
task_made p r s c xs _ h = tt

pub any_made : law.AnyMade
any_made r p s q h = task_made p r s q.core q.actors q.core.tasks h
