-- What the world does for a request: of one process an event more is pending, and of the others none.
use Rattle.std.proofs.Common.{◌≡◌, ℕ, suc, ◌+◌, ◌<◌, ◌≤◌, nat_eq, Bool, true, false, List, ◌∷◌, refl, ap, arith}
use Rattle.std.specs.Prelude.{◌&&◌, not}
use Rattle.std.specs.List.{AllByRecursion}
use Rattle.std.specs.declared.option.Option.TheVariants.{Some}
use Rattle.flow_timers.specs.Pending.{Pending, placed}
use Rattle.flow_simnet.specs.declared.packet.Fate.{Fate}
use Rattle.flow_simnet.specs.declared.packet.Fate.TheVariants.{Cut, Drawn, At}
use Rattle.flow_class.specs.Classes.{RawTree}
use Rattle.flow_meaning.specs.Cells.{PromiseSide}
use Rattle.flow_meaning.specs.Requests.{Request, Drew, Timer, Packet, Disks}
use Rattle.flow_meaning.specs.Process.{Proc}
use Rattle.flow_meaning.specs.References.{one, in_requests}
use Rattle.flow_meaning.specs.Outside.{What, Rings, Arrives, Answers, Outside, sent_by, drawn_by, fate_in}
use Rattle.flow_meaning.specs.Outside as outside
use Rattle.flow_meaning.specs.World.{is_of, Place, without_requests}
use Rattle.flow_meaning.specs.Frame.{Frame}
use Rattle.flow_progress.specs.Fitting.{CellTypes}
use Rattle.flow_progress.specs.Keeping.{AskFits}
use Rattle.flow_invariants.specs.Fitting.Due.{asked, sets, due, Brings, AllBring}
use Rattle.flow_invariants.specs.Fitting.Among.{FitsAmong, RestsAmong, EventNames}
use Rattle.flow_invariants.proofs.Fitting.Named.{Names}
use Rattle.flow_invariants.proofs.Fitting.Dues.{all_placed, weight, due_placed, other_sets, all_filtered, due_fewer}

-- for a process no more is pending
pub record Fewer (m : ℕ) (before after : List (Pending What)) : Type 0 where
  pub brought : (types : CellTypes) → AllBring m types before → AllBring m types after
  pub due : (k : ℕ) → due m k after ≤ due m k before

pub fewer_same : (m : ℕ) (es : List (Pending What)) → Fewer m es es
fewer_same m es = record { brought = λ types h. h; due = λ k. omega arith }

pub fewer_tail : (m : ℕ) (e : Pending What) (es : List (Pending What)) → Fewer m (e ∷ es) es
fewer_tail m e es = record { brought = λ types h. h.1; due = λ k. let a = weight (sets m k e.what) in omega arith }

pub fewer_left : (m p : ℕ) (es : List (Pending What)) → Fewer m es (without_requests p es)
fewer_left m p es = record {
  brought = λ types h. all_filtered (λ (e : Pending What). Brings m types e.what) (λ (e : Pending What). not (is_of p e.what)) es h;
  due = λ k. due_fewer m k (λ (e : Pending What). not (is_of p e.what)) es;
}

pub fewer_on : (m : ℕ) (a b c : List (Pending What)) → Fewer m a b → Fewer m b c → Fewer m a c
fewer_on m a b c h k = record {
  brought = λ types x. k.brought types (h.brought types x);
  due = λ n. let i = h.due n in let j = k.due n in omega (arith, i, j);
}

placed_fewer : (m : ℕ) (x : Pending What) (es : List (Pending What)) → ((types : CellTypes) → Brings m types x.what) → ((k : ℕ) → sets m k x.what ≡ false) → Fewer m es (placed x es)
placed_fewer m x es h none = record {
  brought = λ types k. all_placed (λ (e : Pending What). Brings m types e.what) x es (h types) k;
  due = λ k. let a = due_placed m k x es in let b = ap weight (none k) in omega (arith, a, b);
}

-- a process fits among fewer events
pub fits_fewer : (r : RawTree) (m : ℕ) (es fs : List (Pending What)) (p : Proc Frame) → Fewer m es fs → FitsAmong r m es p → FitsAmong r m fs p
fits_fewer r m es fs p l h = record {
  in_place = h.in_place;
  tied = h.tied;
  alone = h.alone;
  types = h.types;
  fits = h.fits;
  brought = l.brought h.types h.brought;
  awaited = λ k. let a = h.awaited k in let b = l.due k in omega (arith, a, b);
}

pub rests_fewer : (r : RawTree) (m : ℕ) (es fs : List (Pending What)) (a : Place Frame) → Fewer m es fs → RestsAmong r m es a → RestsAmong r m fs a
rests_fewer r m es fs a l h = (h.0, fits_fewer r m es fs a.proc l h.1)

-- the world after a request
abbrev pub after_ask : Request → Outside → Outside
after_ask q w = (outside.serve q w).1

pub record SameSide (w v : Outside) : Type 0 where
  pub file : v.file ≡ w.file
  pub active : v.active ≡ w.active
  pub script : v.script ≡ w.script

sent_side : (f : Fate) (w : Outside) (m q port : ℕ) (text : List ℕ) → SameSide w (sent_by f w m q port text).1
sent_side Cut w m q port text = record { file = refl; active = refl; script = refl }
sent_side Drawn w m q port text = record { file = refl; active = refl; script = refl }
sent_side (At time) w m q port text = record { file = refl; active = refl; script = refl }

pub asked_side : (q : Request) (w : Outside) → SameSide w (after_ask q w)
asked_side (Drew n) w = record { file = refl; active = refl; script = refl }
asked_side (Timer cell time) w = record { file = refl; active = refl; script = refl }
asked_side (Packet q port text) w =
    let v = record w { sent = suc w.sent } in
    let s = sent_side (fate_in v q) (drawn_by (fate_in v q) v) v.sent q port text in record { file = s.file; active = s.active; script = s.script }
asked_side (Disks cell call) w = record { file = refl; active = refl; script = refl }

-- the other processes
sent_others : (f : Fate) (w : Outside) (n q port : ℕ) (text : List ℕ) (m : ℕ) → Fewer m w.events.pending (sent_by f w n q port text).1.events.pending
sent_others Cut w n q port text m = fewer_same m w.events.pending
sent_others Drawn w n q port text m = fewer_same m w.events.pending
sent_others (At time) w n q port text m = placed_fewer m _ w.events.pending (λ types. tt) (λ k. refl)

pub asked_others : (q : Request) (w : Outside) (m : ℕ) → (m ≡ w.active → ⊥) → Fewer m w.events.pending (after_ask q w).events.pending
asked_others (Drew n) w m other = fewer_same m w.events.pending
asked_others (Timer cell time) w m other = placed_fewer m _ w.events.pending (λ types e. absurd (other e)) (λ k. other_sets m w.active k cell other)
asked_others (Packet q port text) w m other = let v = record w { sent = suc w.sent } in sent_others (fate_in v q) (drawn_by (fate_in v q) v) v.sent q port text m
asked_others (Disks cell call) w m other = placed_fewer m _ w.events.pending (λ types e. absurd (other e)) (λ k. other_sets m w.active k cell other)

-- the process that asked
and_less : (a b : Bool) → weight (a && b) ≤ weight b
and_less true b = omega arith
and_less false b = omega arith

sent_brought : (types : CellTypes) (f : Fate) (w : Outside) (n q port : ℕ) (text : List ℕ) (m : ℕ) → AllBring m types w.events.pending → AllBring m types (sent_by f w n q port text).1.events.pending
sent_brought types f w n q port text m h = (sent_others f w n q port text m).brought types h

pub asked_brought : (types : CellTypes) (q : Request) (w : Outside) (m : ℕ) → AskFits types (Some q) → AllBring m types w.events.pending → AllBring m types (after_ask q w).events.pending
asked_brought types (Drew n) w m a h = h
asked_brought types (Timer cell time) w m a h = all_placed (λ (e : Pending What). Brings m types e.what) _ w.events.pending (λ e. a) h
asked_brought types (Packet q port text) w m a h = let v = record w { sent = suc w.sent } in sent_brought types (fate_in v q) (drawn_by (fate_in v q) v) v.sent q port text m h
asked_brought types (Disks cell call) w m a h = all_placed (λ (e : Pending What). Brings m types e.what) _ w.events.pending (λ e. a) h

abbrev pub more_due : Request → ℕ → ℕ
more_due q k = in_requests PromiseSide k (asked (Some q))

one_more : (m n k cell : ℕ) (x : Pending What) (es : List (Pending What)) → sets m k x.what ≡ nat_eq m n && nat_eq k cell
    → due m k (placed x es) ≤ due m k es + (one PromiseSide k PromiseSide cell + 0)
one_more m n k cell x es h =
    let a = due_placed m k x es in
    let b = ap weight h in
    let c = and_less (nat_eq m n) (nat_eq k cell) in
    let d : one PromiseSide k PromiseSide cell ≡ weight (nat_eq k cell) = refl in omega (arith, a, b, c, d)

pub asked_due : (q : Request) (w : Outside) (m k : ℕ) → due m k (after_ask q w).events.pending ≤ due m k w.events.pending + more_due q k
asked_due (Drew n) w m k = omega arith
asked_due (Timer cell time) w m k = one_more m w.active k cell _ w.events.pending refl
asked_due (Packet q port text) w m k =
    let v = record w { sent = suc w.sent } in
    let a = (sent_others (fate_in v q) (drawn_by (fate_in v q) v) v.sent q port text m).due k in omega (arith, a)
asked_due (Disks cell call) w m k = one_more m w.active k cell _ w.events.pending refl

-- events name processes of the world
sent_events : (count : ℕ) (f : Fate) (w : Outside) (n q port : ℕ) (text : List ℕ) → q < count → AllByRecursion (EventNames count) w.events.pending
    → AllByRecursion (EventNames count) (sent_by f w n q port text).1.events.pending
sent_events count Cut w n q port text l h = h
sent_events count Drawn w n q port text l h = h
sent_events count (At time) w n q port text l h = all_placed (EventNames count) _ w.events.pending l h

pub asked_events : (count : ℕ) (q : Request) (w : Outside) → w.active < count → Names count (Some q) → AllByRecursion (EventNames count) w.events.pending
    → AllByRecursion (EventNames count) (after_ask q w).events.pending
asked_events count (Drew width) w l n h = h
asked_events count (Timer cell time) w l n h = all_placed (EventNames count) _ w.events.pending l h
asked_events count (Packet q port text) w l n h = let v = record w { sent = suc w.sent } in sent_events count (fate_in v q) (drawn_by (fate_in v q) v) v.sent q port text n h
asked_events count (Disks cell call) w l n h = all_placed (EventNames count) _ w.events.pending l h
