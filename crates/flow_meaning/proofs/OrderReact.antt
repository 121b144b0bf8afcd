-- What a process answers to an ask keeps the order of its tasks.
use Rattle.std.proofs.Common.{◌≡◌, ℕ, suc, ◌+◌, Bool, true, false, List, [], ◌∷◌, ◌++◌, refl, sym, ap, ◌∙◌, subst, arith}
use Rattle.std.specs.Prelude.{ℤ, pos, ◌-ℤ◌, ◌^◌, int_le, nat_le, nat_lt, ◌&&◌}
use Rattle.std.specs.declared.option.Option.{Option}
use Rattle.std.specs.declared.option.Option.TheVariants.{None, Some}
use Rattle.flow_base.specs.ErrorNumbers.{already_set, port_in_use, bad_argument, out_of_range}
use Rattle.flow_value.specs.declared.value.Kind.{Kind}
use Rattle.flow_value.specs.declared.value.Kind.TheVariants as kind
use Rattle.flow_value.specs.Values.{ValueTree, IntValue, BoolValue, TextValue, VoidValue, ErrorValue, CompositeValue, RefValue, OutcomeTree, GoodOutcome}
use Rattle.flow_draw.specs.Words.{scaled}
use Rattle.flow_eval.specs.Predefined.{natural}
use Rattle.flow_trace.specs.declared.line.Line.{Line}
use Rattle.flow_numbered.specs.Numbered.{thing, added}
use Rattle.flow_meaning.specs.Cells.{Ref, Cell, Single, Stream, waiters, is_complete}
use Rattle.flow_meaning.specs.Requests.{Spot, Act, Goes, Pass, Drops, Effects, Operand, Waits, Sends, Cancels, Prints, SendsTo, Returns, Throws, RunsOut, Stuck, DiskCall, Effect, Make, Start, Draw, Delay, Never, Listen, Disk, Goal, Stored, Kept, Supply, Starts}
use Rattle.flow_meaning.specs.Process.{Task, Run, Throw, Store, Keep, Close, Entry, Core}
use Rattle.flow_meaning.specs.Work.{pushed, new_cell, fill, first_ready, owner, cancel_owner}
use Rattle.flow_meaning.specs.Effects.{throws, result_task, push_result, gives, gives_new, gives_open, empty_cell, between, is_port, open_port, judged, ask_disk, effect, send_to}
use Rattle.flow_meaning.specs.React.{send_by, send_in, print, at_spot, wait_by, wait, react}
use Rattle.flow_meaning.specs.Step.{entry_of, enrol, start_core, enrol_with, start_void}
use Rattle.flow_meaning.specs.Orderly.{tasks_of, Proceeds, steps, stores, keeps, ends, is_suspended, Stands, AllWait, CellsWait}
use Rattle.flow_meaning.specs.Orderly as order
use Rattle.flow_meaning.proofs.Posture.{thing_added, Unless, unless, after_turn, own_task, other_task, Awake}
use Rattle.flow_meaning.proofs.Shifts.{run_of, throw_of, store_of, keep_of, close_of, either, Owned, owned}
use Rattle.flow_meaning.proofs.TaskShifts.{beyond_none, thing_new}
use Rattle.flow_meaning.proofs.Order.{Ordered, InHand, unmoved_stands, all_stand, rising_added, waits_by, waits_added}
use Rattle.flow_meaning.proofs.OrderWork.{dropping_ordered, fill_ordered, push_ordered, two_ordered, branch_ordered, suspend_ordered, cancel_ordered}

pub run_ordered : (i : ℕ) (c : Core) → InHand i c → Awake i c → Ordered (pushed (Run i) c)
run_ordered i c h a = push_ordered i (Run i) c h a (run_of i) steps h.2

pub throw_ordered : (i err : ℕ) (c : Core) → InHand i c → Awake i c → Ordered (pushed (Throw i err) c)
throw_ordered i err c h a = push_ordered i (Throw i err) c h a (throw_of i err) order.throws h.2

-- effects
gives_ordered : (i : ℕ) (goal : Goal) (v : ValueTree) (c : Core) → InHand i c → Awake i c → Unless Ordered (gives i goal v c)
gives_ordered i Stored v c h a = unless c.halted (two_ordered i (Store i v) c h a (store_of i v) (run_of i) stores h.2)
gives_ordered i (Kept spot) (RefValue k cell) c h a = unless c.halted (two_ordered i (Keep i spot (k, cell)) c h a (keep_of i spot (k, cell)) (run_of i) keeps (refl, h.2))
gives_ordered i (Kept spot) (IntValue n) c h a = tt
gives_ordered i (Kept spot) (BoolValue b) c h a = tt
gives_ordered i (Kept spot) (TextValue t) c h a = tt
gives_ordered i (Kept spot) VoidValue c h a = tt
gives_ordered i (Kept spot) (ErrorValue n) c h a = tt
gives_ordered i (Kept spot) (CompositeValue n vs) c h a = tt

gives_new_ordered : (i : ℕ) (goal : Goal) (k : Kind) (cell : Cell) (c : Core) → AllWait c.entries (waiters cell) → InHand i c → Awake i c → Unless Ordered (gives_new i goal k cell c)
gives_new_ordered i goal k cell c w h a = gives_ordered i goal (RefValue k (suc c.made)) (new_cell cell c) (h.0, h.1, h.2, waits_added c.entries c.cells (suc c.made) cell w h.3, h.4) a

empty_waits : (k : Kind) (c : Core) → AllWait c.entries (waiters (empty_cell k))
empty_waits kind.Promise c = tt
empty_waits _ c = tt

bad_ordered : (i err : ℕ) (c : Core) → InHand i c → Awake i c → Unless Ordered (throws i err c).0
bad_ordered i err c h a = unless c.halted (throw_ordered i err c h a)

opened_ordered : (i : ℕ) (goal : Goal) (c : Core) → InHand i c → Awake i c → Unless Ordered (gives_open i goal c)
opened_ordered i goal c h a = gives_new_ordered i goal kind.Future (Single None []) (record c { requests = c.requests ++ suc c.made ∷ [] }) tt h a

port_ordered : (i : ℕ) (goal : Goal) (port : ℕ) (o : Option ℕ) (c : Core) → InHand i c → Awake i c → Unless Ordered (open_port i goal port o c).0
port_ordered i goal port (Some cell) c h a = bad_ordered i port_in_use c h a
port_ordered i goal port None c h a = gives_new_ordered i goal kind.FutureStream (Stream [] None None) (record c { ports = added c.ports port (suc c.made) }) tt h a

disk_ordered : (i : ℕ) (goal : Goal) (call : Option (DiskCall ℕ)) (c : Core) → InHand i c → Awake i c → Unless Ordered (ask_disk i goal call c).0
disk_ordered i goal None c h a = bad_ordered i bad_argument c h a
disk_ordered i goal (Some call) c h a = opened_ordered i goal c h a

effect_ordered : (s : Supply) (i : ℕ) (goal : Goal) (eff : Effect) (c : Core) → InHand i c → Awake i c → Unless Ordered (effect s i goal eff c).0
effect_ordered s i goal (Make k) c h a = gives_new_ordered i goal k (empty_cell k) c (empty_waits k c) h a
effect_ordered s i goal (Start class args) c h a = tt
effect_ordered s i goal (Draw lo hi) c h a =
    either Ordered (between (hi -ℤ lo) 1 (2 ^ 32)) _ (throws i bad_argument c) (gives_ordered i goal (IntValue (scaled lo (natural (hi -ℤ lo)) s.word)) c h a) (bad_ordered i bad_argument c h a)
effect_ordered s i goal (Delay ticks) c h a = either Ordered (nat_le (s.now + natural ticks) (2 ^ 62)) _ (throws i out_of_range c) (opened_ordered i goal c h a) (bad_ordered i out_of_range c h a)
effect_ordered s i goal Never c h a = gives_new_ordered i goal kind.Future (Single None []) c tt h a
effect_ordered s i goal (Listen port) c h a =
    either Ordered (is_port port) _ (throws i bad_argument c) (port_ordered i goal (natural port) (thing c.ports (natural port)) c h a) (bad_ordered i bad_argument c h a)
effect_ordered s i goal (Disk call) c h a = disk_ordered i goal (judged call) c h a

-- sends
send_by_ordered : (b : Bool) (i k : ℕ) (o : OutcomeTree) (c : Core) → InHand i c → Awake i c → Unless Ordered (send_by b i k o c)
send_by_ordered true i k o c h a = unless c.halted (throw_ordered i already_set c h a)
send_by_ordered false i k o c h a =
    after_turn Ordered (λ d. fill k o (pushed (Run i) d)) c c.left (λ n. let d = record c { left = n } in fill_ordered k o (pushed (Run i) d) (run_ordered i d h a))

send_in_ordered : (x : Option Cell) (i k : ℕ) (o : OutcomeTree) (c : Core) → InHand i c → Awake i c → Unless Ordered (send_in x i k o c)
send_in_ordered None i k o c h a = tt
send_in_ordered (Some cell) i k o c h a = send_by_ordered (is_complete cell) i k o c h a

send_to_ordered : (s : Supply) (i : ℕ) (q port : ℤ) (text : List ℕ) (c : Core) → InHand i c → Awake i c → Unless Ordered (send_to s i q port text c).0
send_to_ordered s i q port text c h a =
    either Ordered (int_le (pos 0) q && nat_lt (natural q) s.processes && is_port port) _ (throws i bad_argument c) (unless c.halted (run_ordered i c h a))
    (unless c.halted (throw_ordered i bad_argument c h a))

-- waits
wait_by_ordered : (i : ℕ) (spot : Spot) (e e0 : Entry) (vs : List ValueTree) (b : Option (ℕ × ℕ)) (c : Core) → InHand i c → Awake i c → thing c.entries i ≡ Some e0
    → Unless Ordered (wait_by i spot e vs b c)
wait_by_ordered i spot e e0 vs None c h a at = suspend_ordered i spot e e0 vs c h a at
wait_by_ordered i spot e e0 vs (Some b) c h a at = branch_ordered i b.0 b.1 e e0 vs c h at

wait_ordered : (i : ℕ) (spot : Spot) (vs : List ValueTree) (c : Core) (o : Option Entry) → InHand i c → Awake i c → thing c.entries i ≡ o → Unless Ordered (wait i spot o vs c)
wait_ordered i spot vs c None h a at = tt
wait_ordered i spot vs c (Some e) h a at = wait_by_ordered i spot (at_spot spot e) e vs (first_ready c.cells 0 e.operands) c h a at

pub cancel_owner_ordered : (o : Option (ℕ × Entry)) (c : Core) → Ordered c → Owned c o → Ordered (cancel_owner o c)
cancel_owner_ordered None c o h = o
cancel_owner_ordered (Some x) c o h = cancel_ordered x.0 x.1 c o h

print_ordered : (i : ℕ) (l : Option Line) (c : Core) → InHand i c → Awake i c → Unless Ordered (print i l c)
print_ordered i None c h a = tt
print_ordered i (Some l) c h a = unless c.halted (run_ordered i c h a)

pub react_ordered : (s : Supply) (i : ℕ) (act : Act) (c : Core) → InHand i c → Awake i c → Unless Ordered (react s i act c).0
react_ordered s i Goes c h a = unless c.halted (run_ordered i c h a)
react_ordered s i Pass c h a = after_turn Ordered (pushed (Run i)) c c.left (λ n. unless c.halted (run_ordered i (record c { left = n }) h a))
react_ordered s i (Drops vs) c h a = unless c.halted (dropping_ordered vs (pushed (Run i) c) (run_ordered i c h a))
react_ordered s i (Effects goal eff) c h a = effect_ordered s i goal eff c h a
react_ordered s i (Starts class args) c h a = tt
react_ordered s i (Operand spot r) c h a = unless c.halted (two_ordered i (Keep i spot r) c h a (keep_of i spot r) (run_of i) keeps (refl, h.2))
react_ordered s i (Waits spot vs) c h a = wait_ordered i spot vs c (thing c.entries i) h a refl
react_ordered s i (Sends k o) c h a = send_in_ordered (thing c.cells k) i k o c h a
react_ordered s i (Cancels k) c h a =
    let d = pushed (Run i) c in
    let o = owner k c.entries in
    unless (cancel_owner o d).halted (cancel_owner_ordered o d (run_ordered i c h a) (owned k c o h.4 refl))
react_ordered s i (Prints v) c h a = print_ordered i _ c h a
react_ordered s i (SendsTo q port text) c h a = send_to_ordered s i q port text c h a
react_ordered s i (Returns v vs) c h a =
    let t = Close i (GoodOutcome v) in
    unless c.halted (dropping_ordered vs (pushed t c) (push_ordered i t c h a (close_of i (GoodOutcome v)) ends h.2))
react_ordered s i (Throws e) c h a = unless c.halted (throw_ordered i e c h a)
react_ordered s i RunsOut c h a = tt
react_ordered s i Stuck c h a = tt

-- an actor is made
alone_ordered : (class : ℕ) (name : List ℕ) (r : Option ℕ) (c : Core) → Ordered c → Ordered (enrol_with class name r c)
alone_ordered class name r c o = (
  all_stand n d (stands_new n (is_suspended (thing d.entries n)) (tasks_of n d.tasks) runs only)
      (λ j m. unmoved_stands j c d (ap is_suspended (thing_added c.entries n j e m), other_task n j (Run n) c.tasks (run_of n) m) (o.0 j)),
  o.1,
  waits_by c.entries d.entries c.cells stay o.2,
  rising_added c.entries 0 c.started e (omega arith) o.3,
)
  where
    n : ℕ
    n = suc c.started

    e : Entry
    e = entry_of class r

    d : Core
    d = enrol_with class name r c

    none : thing c.entries n ≡ None
    none = beyond_none c.entries 0 c.started n o.3 (omega arith)

    runs : is_suspended (thing d.entries n) ≡ Some false
    runs = ap is_suspended (thing_new c.entries n e none)

    idle : tasks_of n c.tasks ≡ []
    idle = subst (λ x. Stands n (is_suspended x) (tasks_of n c.tasks)) none (o.0 n)

    only : tasks_of n d.tasks ≡ Run n ∷ []
    only = own_task n (Run n) c.tasks (run_of n) ∙ ap (λ ts. Run n ∷ ts) idle

    stands_new : (i : ℕ) (s : Option Bool) (ts : List Task) → s ≡ Some false → ts ≡ Run i ∷ [] → Stands i s ts
    stands_new i s ts a b = subst (λ x. Stands i x ts) (sym a) (subst (Proceeds i) (sym b) steps)

    not_there : {b : Bool} → None ≡ Some b → ⊥
    not_there h = cc

    not_new : (j : ℕ) → n ≡ j → is_suspended (thing c.entries j) ≡ Some true → ⊥
    not_new j f s = not_there (sym (ap is_suspended (subst (λ m. thing c.entries m ≡ None) f none)) ∙ s)

    stay : (j : ℕ) → is_suspended (thing c.entries j) ≡ Some true → is_suspended (thing d.entries j) ≡ Some true
    stay j s = ap is_suspended (thing_added c.entries n j e (λ f. not_new j f s)) ∙ s

pub enrol_ordered : (class : ℕ) (name : List ℕ) (c : Core) → Ordered c → Ordered (enrol class name c)
enrol_ordered class name c o =
    alone_ordered class name (Some (suc c.made)) (new_cell (Single None []) c) (o.0, o.1, waits_added c.entries c.cells (suc c.made) (Single None []) tt o.2, o.3)

-- a void one, whose caller goes on
pub void_ordered : (i class : ℕ) (name : List ℕ) (c : Core) → InHand i c → Awake i c → Unless Ordered (start_void i class name c)
void_ordered i class name c h a =
    after_turn Ordered (λ d. enrol_with class name None (pushed (Run i) d)) c c.left
    (λ n. let d = record c { left = n } in unless c.halted (alone_ordered class name None (pushed (Run i) d) (run_ordered i d h a)))

pub start_ordered : (i : ℕ) (goal : Goal) (class : ℕ) (name : List ℕ) (c : Core) → InHand i c → Awake i c → Unless Ordered (start_core i goal class name c)
start_ordered i goal class name c h a =
    after_turn Ordered (λ d. enrol class name (push_result i (result_task i goal (RefValue kind.Future (suc d.made))) d)) c c.left (by_goal goal)
  where
    by_goal : (g : Goal) (n : ℕ) → Unless Ordered (enrol class name (push_result i (result_task i g (RefValue kind.Future (suc c.made))) (record c { left = n })))
    by_goal Stored n =
        let v = RefValue kind.Future (suc c.made) in
        let d = record c { left = n } in
        unless c.halted (enrol_ordered class name (pushed (Store i v) (pushed (Run i) d)) (two_ordered i (Store i v) d h a (store_of i v) (run_of i) stores h.2))
    by_goal (Kept spot) n =
        let r : Ref = (kind.Future, suc c.made) in
        let d = record c { left = n } in
        unless c.halted (enrol_ordered class name (pushed (Keep i spot r) (pushed (Run i) d)) (two_ordered i (Keep i spot r) d h a (keep_of i spot r) (run_of i) keeps (refl, h.2)))
