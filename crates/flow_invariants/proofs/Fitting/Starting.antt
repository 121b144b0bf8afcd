-- An event begins: its process, with what is brought to it, fits among the events that are left.
use Rattle.std.proofs.Common.{◌≡◌, ℕ, zero, suc, ◌≤◌, nat_eq, Bool, true, false, List, [], ◌∷◌, if◌then◌else◌, refl, sym, ap, subst, arith}
use Rattle.std.specs.Prelude.{not, pos}
use Rattle.std.specs.declared.option.Option.{Option}
use Rattle.std.specs.declared.option.Option.TheVariants.{None, Some}
use Rattle.flow_timers.specs.Pending.{Pending}
use Rattle.flow_tree.specs.Tree.{TypeTree, FutureType}
use Rattle.flow_tree.specs.Decls.{RoutineTree}
use Rattle.flow_value.specs.declared.value.Kind.TheVariants as kind
use Rattle.flow_value.specs.Values.{IntValue, OutcomeTree, GoodOutcome}
use Rattle.flow_simdisk.specs.Disk.{File, served}
use Rattle.flow_class.specs.Classes.{RawTree}
use Rattle.flow_valid.specs.Validity.{IsValid}
use Rattle.flow_numbered.specs.Numbered.{Numbered, thing}
use Rattle.flow_meaning.specs.Cells.{PromiseSide}
use Rattle.flow_meaning.specs.Requests.{DiskCall, ReadCall, WriteCall, SyncCall, SizeCall}
use Rattle.flow_meaning.specs.Process.{Drop, Halt, Core, Proc}
use Rattle.flow_meaning.specs.References.{in_requests}
use Rattle.flow_meaning.specs.Work.{pushed, fill}
use Rattle.flow_meaning.specs.Orderly.{UnlessStopped}
use Rattle.flow_meaning.specs.Step.{proc, enrol}
use Rattle.flow_meaning.specs.Deliver.{begin, boot, boot_core, boot_with, stop, stop_main, deliver, arrive, vanish, closed_request}
use Rattle.flow_meaning.specs.Outside.{What, Boots, Rings, Arrives, Answers}
use Rattle.flow_meaning.specs.World.{is_of, Place, with_core, booted, packet, listener, without_requests, disk_outcome}
use Rattle.flow_meaning.specs.Frame.{Frame}
use Rattle.flow_meaning.specs.Class.{classes}
use Rattle.flow_meaning.proofs.Posture.{unless}
use Rattle.flow_meaning.proofs.InOrder.{begin_in_order}
use Rattle.flow_heap_refinement.specs.Evaluation.{Named}
use Rattle.flow_heap_refinement.specs.Naming.{OutcomeNamed}
use Rattle.flow_heap_refinement.specs.Rested.{has}
use Rattle.flow_heap_refinement.specs.Alone.{spares}
use Rattle.flow_heap_refinement.specs.CellsTied.{TiedUnlessStopped}
use Rattle.flow_heap_refinement.specs.Lonely.{OwnedAlone}
use Rattle.flow_heap_refinement.proofs.Lonely.{vanished_lonely}
use Rattle.flow_heap_refinement.proofs.LonelyBrought.{deliveries_lonely, arrivals_lonely, boots_lonely, stops_lonely}
use Rattle.flow_heap_refinement.proofs.TidySteps.{deliveries_tied, arrivals_tied, boots_tied, stops_tied, vanished_tied}
use Rattle.flow_progress.specs.Rules.{ClassRules}
use Rattle.flow_progress.specs.Asking.{OutcomeFits, reply_type}
use Rattle.flow_progress.specs.Ending.{InPlace}
use Rattle.flow_progress.specs.Fitting.{CellTypes, typed_by}
use Rattle.flow_progress.specs.Keeping.{Fine}
use Rattle.flow_progress.proofs.States.{fine_same}
use Rattle.flow_progress.proofs.Begun.{vanished_fits, stopped_fits}
use Rattle.flow_progress.proofs.Brought.{arrivals_fit, deliveries_fit}
use Rattle.flow_progress.proofs.Boots.{boots_fit}
use Rattle.flow_invariants.specs.Fitting.Due.{sets, due, Brings, AllBring}
use Rattle.flow_invariants.specs.Fitting.Among.{FitsAmong}
use Rattle.flow_invariants.proofs.Fitting.Requests.{Same, turn_same, fill_same}
use Rattle.flow_invariants.proofs.Fitting.Dues.{weight, due_gone, has_request, one_closed}
use Rattle.flow_invariants.proofs.Fitting.Living.{Meant, assembled, brought_still}

pub meant_of : {X : Type 0} (o : Option Halt) → o ≡ None → X → Meant o X
meant_of None e x = x
meant_of (Some h) e x = absurd cc

-- before its event a process has its turns
pub ready_fits : (r : RawTree) (n turns : ℕ) (es : List (Pending What)) (p : Proc Frame) → FitsAmong r n es p → FitsAmong r n es (proc (begin turns p.core) p.actors)
ready_fits r n turns es p f =
    let t = f.tied in
    let m = t.numbers in
    let q = f.fits in
    let k = f.in_place.frames in
    record {
      in_place = record { orderly = begin_in_order turns p.core f.in_place.orderly; frames = record { all = k.all; phases = k.phases } };
      tied = record { agree = t.agree; numbers = record { ports = m.ports; cells = m.cells; requests = m.requests }; once = t.once };
      alone = f.alone;
      types = f.types;
      fits = record {
        cells = q.cells;
        waiting = q.waiting;
        actors = q.actors;
        work = q.work;
        ports = q.ports;
        main = q.main;
        requests = q.requests;
        numbered = q.numbered;
        framed = q.framed;
        registered = q.registered;
      };
      brought = f.brought;
      awaited = f.awaited;
    }

-- what is brought leaves the open requests, but for the one that is answered
boot_same : (class : ℕ) (name : List ℕ) (c : Core) → Same c (boot_core class name c)
boot_same class name c = turn_same (λ d. record (enrol class name d) { main = Some (suc d.made) }) c (λ n. refl)

stop_same : (x : Option ℕ) (c : Core) → Same c (stop_main x c)
stop_same None c = refl
stop_same (Some k) c = refl

stop_goes : (x : Option ℕ) (c : Core) → c.halted ≡ None → (stop_main x c).halted ≡ None
stop_goes None c e = e
stop_goes (Some k) c e = e

deliver_requests : (k : ℕ) (o : OutcomeTree) (c : Core) → (deliver k o c).requests ≡ closed_request k c.requests
deliver_requests k o c =
    let d = pushed (Drop kind.Promise k) (record c { requests = closed_request k c.requests }) in
    turn_same (λ z. fill k o z) d (λ n. fill_same k o (record d { left = n }))

-- nothing is due in a process that is gone
brings_gone : (p : ℕ) (types : CellTypes) (x : What) → is_of p x ≡ false → Brings p types x
brings_gone p types (Boots q) h = tt
brings_gone p types (Rings q n) h = λ e. absurd (let f : ⊥ = grind (arith, h, e) in f)
brings_gone p types (Arrives m from to port text) h = tt
brings_gone p types (Answers q n call) h = λ e. absurd (let f : ⊥ = grind (arith, h, e) in f)

all_gone : (p : ℕ) (types : CellTypes) (es : List (Pending What)) → AllBring p types (without_requests p es)
all_gone p types [] = tt
all_gone p types (x ∷ xs) = by_test (is_of p x.what) refl (all_gone p types xs)
  where
    rest : List (Pending What)
    rest = without_requests p xs

    by_test : (b : Bool) → is_of p x.what ≡ b → AllBring p types (without_requests p xs) → AllBring p types (if not b then x ∷ without_requests p xs else without_requests p xs)
    by_test true q h = h
    by_test false q h = (brings_gone p types x.what q, h)

-- what the disk answers has its type, and refers to nothing
pub reply_fits : (r : RawTree) (types : CellTypes) (call : DiskCall ℕ) (fails : ℕ) (fs : List (List ℕ × File))
    → OutcomeFits r.records (typed_by types) (disk_outcome (served call fails fs).1) (reply_type call)
reply_fits r types call (suc n) fs = tt
reply_fits r types (ReadCall x offset count) zero fs = refl
reply_fits r types (WriteCall x offset bytes) zero fs = refl
reply_fits r types (SyncCall x) zero fs = refl
reply_fits r types (SizeCall x) zero fs = refl

pub reply_plain : (j : ℕ) (call : DiskCall ℕ) (fails : ℕ) (fs : List (List ℕ × File)) → OutcomeNamed (spares j) (disk_outcome (served call fails fs).1)
reply_plain j call (suc n) fs = tt
reply_plain j (ReadCall x offset count) zero fs = tt
reply_plain j (WriteCall x offset bytes) zero fs = tt
reply_plain j (SyncCall x) zero fs = tt
reply_plain j (SizeCall x) zero fs = tt

module _ (r : RawTree) (valid : IsValid r) (actors : List RoutineTree) (rules : ClassRules r actors) (n : ℕ) where
  abbrev Begins : List (Pending What) → Place Frame → Type 0
  Begins es a = Meant a.proc.core.halted (FitsAmong r n es a.proc)

  abbrev Placed : Place Frame → Type 0
  Placed a = UnlessStopped a.proc.core.halted (InPlace r a.proc.core a.proc.actors)

  module _ (es : List (Pending What)) (a : Place Frame) (go : a.proc.core.halted ≡ None) (f : FitsAmong r n es a.proc) where
    pub unchanged : Begins es a
    unchanged = meant_of a.proc.core.halted go f

    -- the same requests are open
    same_requests : (c : Core) (xs : Numbered Frame) → Same a.proc.core c → UnlessStopped c.halted (InPlace r c xs) → TiedUnlessStopped c → UnlessStopped c.halted (OwnedAlone (proc c xs))
        → Fine r f.types c.halted c xs
        → Meant c.halted (FitsAmong r n es (proc c xs))
    same_requests c xs same i t alone fine =
        let awaited : (k : ℕ) → due n k es ≤ in_requests PromiseSide k c.requests = λ k. subst (λ ks. due n k es ≤ in_requests PromiseSide k ks) (sym same) (f.awaited k) in
        assembled r n f.types None es c xs c.halted (λ types still asks. brought_still r n f.types types es c.requests still awaited f.brought) awaited i t alone fine

    booted_tied : (x : Option Frame) → TiedUnlessStopped (boot_with (classes r) x a.proc).core
    booted_tied None = tt
    booted_tied (Some g) = boots_tied (classes r).main ((classes r).label (classes r).main) a.proc.core f.in_place.orderly f.tied

    booted_same : (x : Option Frame) → Same a.proc.core (boot_with (classes r) x a.proc).core
    booted_same None = refl
    booted_same (Some g) = boot_same (classes r).main ((classes r).label (classes r).main) a.proc.core

    pub boots : (held : Option ℕ) → Placed (booted (classes r) n a held) → Begins es (booted (classes r) n a held)
    boots (Some k) i = unchanged
    boots None i =
        let p = boot (classes r) n a.proc in
        let x = (classes r).fresh (classes r).main (IntValue (pos n) ∷ []) in
        same_requests p.core p.actors (booted_same x) i (booted_tied x) (boots_lonely r n a.proc f.in_place.orderly f.tied f.alone)
        (boots_fit r valid actors rules f.types n a.proc f.fits f.in_place.orderly.numbered go)

    pub stops : Placed (with_core a stop) → Begins es (with_core a stop)
    stops i =
        let c = a.proc.core in
        let d = stop c in
        same_requests d a.proc.actors (stop_same c.main c) i (unless d.halted (stops_tied c f.tied)) (unless d.halted (stops_lonely a.proc f.alone))
        (fine_same r f.types d.halted d a.proc.actors (stop_goes c.main c go) (stopped_fits r f.types c a.proc.actors f.fits))

    packet_plain : (j from port : ℕ) (text : List ℕ) → Named (spares j) (packet from port text)
    packet_plain j from port text = (tt, (tt, (tt, tt)))

    pub arrives : (from port k : ℕ) (text : List ℕ) → listener a port ≡ Some k → Placed (with_core a (arrive k (packet from port text))) → Begins es (with_core a (arrive k (packet from port text)))
    arrives from port k text at i =
        let c = a.proc.core in
        let v = packet from port text in
        same_requests (arrive k v c) a.proc.actors (turn_same (λ d. fill k (GoodOutcome v) d) c (λ m. fill_same k (GoodOutcome v) (record c { left = m }))) i (arrivals_tied k v c f.tied)
        (arrivals_lonely k v a.proc f.tied (λ j. packet_plain j from port text) f.alone)
        (arrivals_fit r f.types c a.proc.actors port k from port text f.fits go (heard a.up at))
      where
        heard : (b : Bool) → (if b then thing a.proc.core.ports port else None) ≡ Some k → thing a.proc.core.ports port ≡ Some k
        heard true h = h
        heard false h = absurd cc

    -- the process is killed
    pub kills : Placed (record { up = false; proc = vanish a.proc }) → Begins (without_requests n es) (record { up = false; proc = vanish a.proc })
    kills i =
        let v = vanished_fits r a.proc in record {
          in_place = i;
          tied = vanished_tied a.proc;
          alone = vanished_lonely a.proc;
          types = v.0;
          fits = v.1;
          brought = all_gone n v.0 es;
          awaited = λ k. let m = due_gone n k es in omega (arith, m);
        }

  -- an open request is answered
  module _ (x : Pending What) (es : List (Pending What)) (a : Place Frame) (go : a.proc.core.halted ≡ None) (f : FitsAmong r n (x ∷ es) a.proc) where
    pub answers : (k : ℕ) (o : OutcomeTree) (u : TypeTree) → ((j : ℕ) → sets n j x.what ≡ nat_eq j k) → sets n k x.what ≡ true → f.types k ≡ Some (FutureType u)
        → OutcomeFits r.records (typed_by f.types) o u
        → ((j : ℕ) → OutcomeNamed (spares j) o) → Placed (with_core a (deliver k o)) → Begins es (with_core a (deliver k o))
    answers k o u which own at fits plain i =
        let c = a.proc.core in
        let d = deliver k o c in
        let one = ap weight own in
        let many = f.awaited k in
        let there : has k c.requests ≡ true = has_request k c.requests (omega (arith, one, many)) in
        let awaited : (j : ℕ) → due n j es ≤ in_requests PromiseSide j d.requests = λ j.
        let m = f.awaited j in
        let w = ap weight (which j) in
        let z = one_closed j k c.requests there in
        let y = ap (in_requests PromiseSide j) (deliver_requests k o c) in omega (arith, m, w, z, y) in
        assembled r n f.types None es d a.proc.actors d.halted (λ types still asks. brought_still r n f.types types es d.requests still awaited f.brought.1) awaited i (deliveries_tied k o c f.tied)
        (deliveries_lonely k o a.proc f.tied there plain f.alone)
        (deliveries_fit r f.types c a.proc.actors k o u f.fits go at fits)
