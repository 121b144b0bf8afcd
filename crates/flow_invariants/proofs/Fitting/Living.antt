-- A process in its event: each step keeps that it fits among the pending events, and has a meaning.
use Rattle.std.proofs.Common.{◌≡◌, ℕ, ◌+◌, ◌≤◌, List, ◌++◌, refl, sym, ap, subst, arith}
use Rattle.std.specs.declared.option.Option.{Option}
use Rattle.std.specs.declared.option.Option.TheVariants.{None, Some}
use Rattle.flow_timers.specs.Pending.{Pending}
use Rattle.flow_trace.specs.declared.line.Line.{Line}
use Rattle.flow_class.specs.Classes.{RawTree}
use Rattle.flow_numbered.specs.Numbered.{Numbered}
use Rattle.flow_meaning.specs.Cells.{PromiseSide}
use Rattle.flow_meaning.specs.Requests.{Request}
use Rattle.flow_meaning.specs.Process.{Halt, Spent, NoMeaning, Core}
use Rattle.flow_meaning.specs.References.{in_requests}
use Rattle.flow_meaning.specs.Orderly.{UnlessStopped}
use Rattle.flow_meaning.specs.Burst.{Live, add_lines, serve, advanced, advance}
use Rattle.flow_meaning.specs.Outside.{What, Outside, host}
use Rattle.flow_meaning.specs.Step.{Stepped, step, proc}
use Rattle.flow_meaning.specs.Frame.{Frame}
use Rattle.flow_meaning.specs.Class.{classes}
use Rattle.flow_meaning.proofs.Posture.{unless_map}
use Rattle.flow_heap_refinement.specs.CellsTied.{CellsTied, TiedUnlessStopped}
use Rattle.flow_heap_refinement.specs.Lonely.{OwnedAlone}
use Rattle.flow_heap_refinement.proofs.Lonely.{steps_lonely}
use Rattle.flow_heap_refinement.proofs.TidySteps.{steps_tied}
use Rattle.flow_progress.specs.Ending.{LeadOn, InPlace}
use Rattle.flow_progress.specs.Fitting.{CellTypes, ProcessFits}
use Rattle.flow_progress.specs.Keeping.{StillTyped, AskFits, FineAsking, IsFine}
use Rattle.flow_progress.specs.Alone.{StepsKeepFitting}
use Rattle.flow_progress.proofs.Ending.{InPlaceNow, next_in_place}
use Rattle.flow_invariants.specs.Fitting.Due.{asked, due, AllBring}
use Rattle.flow_invariants.specs.Fitting.Among.{FitsAmong}
use Rattle.flow_invariants.proofs.Fitting.Requests.{step_grows}
use Rattle.flow_invariants.proofs.Fitting.Owned.{ports_alone, results_alone}
use Rattle.flow_invariants.proofs.Fitting.Dues.{requests_more, still_at, all_still_bring}
use Rattle.flow_invariants.proofs.Fitting.Served.{after_ask, more_due, asked_brought, asked_due}

-- so it is, or the event was stopped for want of turns, and never for want of meaning
abbrev pub Meant : Option Halt → Type 0 → Type 0
Meant None holds = holds
Meant (Some Spent) holds = Unit {0}
Meant (Some NoMeaning) holds = ⊥

pub meant_map : {X Y : Type 0} (o : Option Halt) → (X → Y) → Meant o X → Meant o Y
meant_map None f x = f x
meant_map (Some Spent) f x = tt
meant_map (Some NoMeaning) f x = x

-- CellsTied with other lines.
tied_lined : (ls : List Line) (c : Core) → CellsTied c → CellsTied (add_lines ls c)
tied_lined ls c t = let n = t.numbers in record { agree = t.agree; numbers = record { ports = n.ports; cells = n.cells; requests = n.requests }; once = t.once }

fits_lined : (r : RawTree) (types : CellTypes) (ls : List Line) (c : Core) (xs : Numbered Frame) → ProcessFits r types c xs → ProcessFits r types (add_lines ls c) xs
fits_lined r types ls c xs p = record {
  cells = p.cells;
  waiting = p.waiting;
  actors = p.actors;
  work = p.work;
  ports = p.ports;
  main = p.main;
  requests = p.requests;
  numbered = p.numbered;
  framed = p.framed;
  registered = p.registered;
}

module _ (r : RawTree) (n : ℕ) where
  -- put together
  pub assembled : (before : CellTypes) (q : Option Request) (es : List (Pending What)) (c : Core) (xs : Numbered Frame) (h : Option Halt)
      → ((types : CellTypes) → StillTyped before types c.requests → AskFits types q → AllBring n types es) → ((k : ℕ) → due n k es ≤ in_requests PromiseSide k c.requests)
      → UnlessStopped h (InPlace r c xs) → UnlessStopped h (CellsTied c) → UnlessStopped h (OwnedAlone (proc c xs)) → FineAsking r before q h c xs → Meant h (FitsAmong r n es (proc c xs))
  assembled before q es c xs None brought awaited i t a f =
      record { in_place = i; tied = t; alone = a; types = f.0; fits = f.1; brought = brought f.0 f.2 f.3; awaited = awaited }
  assembled before q es c xs (Some Spent) brought awaited i t a f = tt
  assembled before q es c xs (Some NoMeaning) brought awaited i t a f = f

  -- and with lines that the world writes
  lined : (ls : List Line) (es : List (Pending What)) (c : Core) (xs : Numbered Frame) → UnlessStopped c.halted (InPlace r (add_lines ls c) xs) → Meant c.halted (FitsAmong r n es (proc c xs))
      → Meant c.halted (FitsAmong r n es (proc (add_lines ls c) xs))
  lined ls es c xs i m = by_halt c.halted i m
    where
      by_halt : (h : Option Halt) → UnlessStopped h (InPlace r (add_lines ls c) xs) → Meant h (FitsAmong r n es (proc c xs)) → Meant h (FitsAmong r n es (proc (add_lines ls c) xs))
      by_halt None i m = record { in_place = i; tied = tied_lined ls c m.tied; alone = m.alone; types = m.types; fits = fits_lined r m.types ls c xs m.fits; brought = m.brought; awaited = m.awaited }
      by_halt (Some Spent) i m = tt
      by_halt (Some NoMeaning) i m = m

  -- events that were pending before, of cells that keep their types
  pub brought_still : (before after : CellTypes) (es : List (Pending What)) (ks : List ℕ) → StillTyped before after ks → ((k : ℕ) → due n k es ≤ in_requests PromiseSide k ks) → AllBring n before es
      → AllBring n after es
  brought_still before after es ks still awaited b =
      all_still_bring n before after es (λ k t l e. still_at before after ks k t still (let a = awaited k in omega (arith, a, l)) e) b

module _ (r : RawTree) (leads : LeadOn r) (steps_fit : StepsKeepFitting r) where
  abbrev pub NowFits : ℕ → Live Outside Frame → Type 0
  NowFits n l = Meant l.proc.core.halted (FitsAmong r n l.out.events.pending l.proc)

  module _ (n : ℕ) (s : Live Outside Frame) (is : n ≡ s.out.active) (f : FitsAmong r n s.out.events.pending s.proc) (go : s.proc.core.halted ≡ None) (q : Stepped Frame)
      (e : step (classes r) (host.supply s.out) s.proc ≡ Some q) where
    abbrev c : Core
    c = s.proc.core

    abbrev d : Core
    d = q.0.core

    abbrev es : List (Pending What)
    es = s.out.events.pending

    fine : FineAsking r f.types q.1 d.halted d q.0.actors
    fine = subst (IsFine r f.types) e
        (steps_fit (host.supply s.out) f.types s.proc f.in_place.orderly go f.fits (ports_alone c s.proc.actors f.tied f.alone) (results_alone c s.proc.actors f.tied f.alone))

    tied : TiedUnlessStopped d
    tied = steps_tied r (host.supply s.out) s.proc q f.in_place.orderly f.tied e

    alone : UnlessStopped d.halted (OwnedAlone q.0)
    alone = steps_lonely r (host.supply s.out) s.proc q f.in_place.orderly f.tied f.alone e

    grows : d.requests ≡ c.requests ++ asked q.1
    grows = step_grows (classes r) (host.supply s.out) s.proc q e

    -- so much is open afterwards
    open_now : (k : ℕ) → in_requests PromiseSide k d.requests ≡ in_requests PromiseSide k c.requests + in_requests PromiseSide k (asked q.1)
    open_now k =
        let a = ap (in_requests PromiseSide k) grows in
        let b = requests_more k c.requests (asked q.1) in omega (arith, a, b)

    still_due : (k : ℕ) → due n k es ≤ in_requests PromiseSide k d.requests
    still_due k = let a = f.awaited k in let b = open_now k in omega (arith, a, b)

    brought : (types : CellTypes) → StillTyped f.types types d.requests → AllBring n types es
    brought types still = brought_still r n f.types types es d.requests still still_due f.brought

    next_place : (l : Live Outside Frame) → advance (classes r) host s ≡ Some l → InPlaceNow r leads host l
    next_place l a = next_in_place r leads host s l (subst (λ x. UnlessStopped x (InPlace r c s.proc.actors)) (sym go) f.in_place) a

    by_ask : (x : Option Request) → q.1 ≡ x → InPlaceNow r leads host (serve host x q.0 s.out) → NowFits n (serve host x q.0 s.out)
    by_ask None same i =
        assembled r n f.types q.1 es d q.0.actors d.halted (λ types still asks. brought types still) still_due i tied alone fine
    by_ask (Some x) same i =
        let v = after_ask x s.out in
        lined r n (host.serve x s.out).0 v.events.pending d q.0.actors i
        (assembled r n f.types q.1 v.events.pending d q.0.actors d.halted
        (λ types still asks. asked_brought types x s.out n (subst (AskFits types) same asks) (brought types still))
        (λ k. let a = asked_due x s.out n k in
        let b = open_now k in
        let u = f.awaited k in
        let w = ap (λ (o : Option Request). in_requests PromiseSide k (asked o)) same in
        let z = more_due x k in omega (arith, a, b, u, w)) (unlined (host.serve x s.out).0 i) tied alone fine)
      where
        unlined : (ls : List Line) → UnlessStopped d.halted (InPlace r (add_lines ls d) q.0.actors) → UnlessStopped d.halted (InPlace r d q.0.actors)
        unlined ls i =
            unless_map d.halted (λ (p : InPlace r (add_lines ls d) q.0.actors).
            record {
              orderly = record { actors = p.orderly.actors; paired = p.orderly.paired; waiting = p.orderly.waiting; numbered = p.orderly.numbered };
              frames = record { all = p.frames.all; phases = p.frames.phases };
            }) i

  same_live : {x y : Live Outside Frame} → Some x ≡ Some y → x ≡ y
  same_live h = cc

  none_live : {y : Live Outside Frame} → None ≡ Some y → ⊥
  none_live h = cc

  pub advanced_fits : (n : ℕ) (s l : Live Outside Frame) → n ≡ s.out.active → FitsAmong r n s.out.events.pending s.proc → s.proc.core.halted ≡ None → advance (classes r) host s ≡ Some l → NowFits n l
  advanced_fits n s l is f go a = by_step (step (classes r) (host.supply s.out) s.proc) refl a
    where
      by_step : (x : Option (Stepped Frame)) → step (classes r) (host.supply s.out) s.proc ≡ x → advanced host s.out x ≡ Some l → NowFits n l
      by_step None e b = absurd (none_live b)
      by_step (Some q) e b =
          let m = serve host q.1 q.0 s.out in
          let i = next_place n s is f go q e m (ap (advanced host s.out) e) in subst (NowFits n) (same_live b) (by_ask n s is f go q e q.1 refl i)
