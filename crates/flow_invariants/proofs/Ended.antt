-- Within an event an actor to whose result no future refers is marked as cancelled; that it stays, and no marked actor is left at the end.
use Rattle.std.proofs.Common.{◌≡◌, ℕ, suc, ◌<◌, nat_lt, Bool, true, false, refl, sym, subst, ◌∙◌, arith}
use Rattle.std.specs.declared.option.Option.{Option}
use Rattle.std.specs.declared.option.Option.TheVariants.{None, Some}
use Rattle.flow_class.specs.Classes.{RawTree}
use Rattle.flow_numbered.specs.Numbered.{Numbered, thing, put, removed}
use Rattle.flow_meaning.specs.Process.{Entry, Halt, Proc}
use Rattle.flow_meaning.specs.Orderly.{Orderly, Rising, UnlessStopped}
use Rattle.flow_meaning.specs.Law.{AtRest}
use Rattle.flow_meaning.specs.Burst.{Live, Burst, rests, steps}
use Rattle.flow_meaning.specs.Outside.{Outside, host}
use Rattle.flow_meaning.specs.World.{World}
use Rattle.flow_meaning.specs.Runs.{before}
use Rattle.flow_meaning.specs.Frame.{Frame}
use Rattle.flow_meaning.specs.Class.{classes}
use Rattle.flow_meaning.proofs.Posture.{unless, thing_put, thing_put_other, thing_removed_other, thing_added, removed_none}
use Rattle.flow_meaning.proofs.TaskShifts.{beyond_none}
use Rattle.flow_meaning.proofs.InOrder.{no_thing, burst_at_rest}
use Rattle.flow_progress.proofs.Ending.{stopped}
use Rattle.flow_progress.proofs.Valid.{leads_on}
use Rattle.flow_invariants.specs.Ended.{Unreferred, UnreferredEnd, StatesEnd}
use Rattle.flow_invariants.specs.Fitting.Among.{FitsAmong, WorldFits}
use Rattle.flow_invariants.specs.Invariant.{KeptBySteps, HoldsInPlaces}
use Rattle.flow_invariants.specs.Unmarked.{AreWhole, EventInvariant}
use Rattle.flow_invariants.specs.Writes.{Things, HoldsOfThings, KeptByWrites, EntryBecomes}
use Rattle.flow_invariants.proofs.Fitting.Living.{Meant}
use Rattle.flow_invariants.proofs.Invariant.{Going, reached_going, burst_going, begun_going, of_worlds}
use Rattle.flow_invariants.proofs.Unmarked.Resting.{keeps}
use Rattle.flow_invariants.proofs.Unmarked.Worlds.{WholeWithin, WholeAtRest, keeps_all}
use Rattle.flow_invariants.proofs.Writes.Cells.{by_number}
use Rattle.flow_invariants.proofs.Writes.Events.{by_writes}

abbrev IsMarked : Option Entry → Type 0
IsMarked None = Unit {0}
IsMarked (Some e) = e.marked ≡ true

-- an actor that was started is marked or gone
module _ (i : ℕ) where
  abbrev Marked : Things → Type 0
  Marked t = (i < suc t.started) × IsMarked (thing t.entries i)

  put_marked : (es : Numbered Entry) (j : ℕ) (old new : Entry) → thing es j ≡ Some old → EntryBecomes old new → IsMarked (thing es i) → IsMarked (thing (put es j new) i)
  put_marked es j old new at be h =
      by_number j i (IsMarked (thing (put es j new) i))
      (λ q. subst (λ n. IsMarked (thing (put es j new) n)) q (subst IsMarked (sym (thing_put es j old new at)) (be.marked (subst IsMarked at (subst (λ n. IsMarked (thing es n)) (sym q) h)))))
      (λ o. subst IsMarked (sym (thing_put_other es j i new o)) h)

  removed_marked : (es : Numbered Entry) (n j : ℕ) → Rising 0 n es → IsMarked (thing es i) → IsMarked (thing (removed es j) i)
  removed_marked es n j up h =
      by_number j i (IsMarked (thing (removed es j) i))
      (λ q. subst (λ m. IsMarked (thing (removed es j) m)) q (subst IsMarked (sym (removed_none es 0 n j up)) tt))
      (λ o. subst IsMarked (sym (thing_removed_other es j i o)) h)

  writes_marked : KeptByWrites Marked
  writes_marked = record {
    sets = λ c j old new own at h. h;
    goes = λ c j own h. h;
    taken = λ c j old at h. h;
    waited = λ c j old waiter at h. h;
    element = λ c port j old v tied heard at h. h;
    left = λ c j h. h;
    entry = λ c j old new at be h. (h.0, put_marked c.entries j old new at be h.1);
    ends = λ c j up h. (h.0, removed_marked c.entries c.started j up h.1);
    unheard = λ c port h. h;
    answered = λ c cell there h. h;
    makes = λ c cell tied h. h;
    asks = λ c tied h. h;
    listens = λ c port tied h. h;
    starts = λ c class tied h. let n = h.0 in (
      omega (arith, n),
      subst IsMarked (sym (thing_added c.entries (suc c.started) i _ (λ q. omega (arith, q, n)))) h.1,
    );
    starts_alone = λ c class h. let n = h.0 in (
      omega (arith, n),
      subst IsMarked (sym (thing_added c.entries (suc c.started) i _ (λ q. omega (arith, q, n)))) h.1,
    );
  }

  abbrev MarkedIn : Proc Frame → Type 0
  MarkedIn p = HoldsOfThings Marked p.core

  marked_kept : (r : RawTree) → KeptBySteps r MarkedIn
  marked_kept r = by_writes r Marked writes_marked

-- an actor that is there was started
was_started : (es : Numbered Entry) (n i : ℕ) (e : Entry) → Rising 0 n es → thing es i ≡ Some e → i < suc n
was_started es n i e up at = by_test (nat_lt n i) refl
  where
    by_test : (b : Bool) → nat_lt n i ≡ b → i < suc n
    by_test true q = absurd (no_thing (sym (beyond_none es 0 n i up (grind (arith, q))) ∙ at))
    by_test false q = grind (arith, q)

module _ (r : RawTree) (v : AreWhole r) where
  -- what is stopped goes on to nothing
  never : (x : Halt) (m l : Live Outside Frame) → m.proc.core.halted ≡ Some x → Burst (classes r) host m l → l.proc.core.halted ≡ None → ⊥
  never x m l h (rests e) go = no_thing (sym go ∙ h)
  never x m l h (steps next e more) go = no_thing (sym (stopped r (leads_on r v.valid.valid) host m x h) ∙ e)

  unreferred_marked : (p : Proc Frame) (i : ℕ) → EventInvariant p → Orderly p.core → Unreferred (classes r) p i → MarkedIn i p
  unreferred_marked p i keep order u = (was_started p.core.entries p.core.started i u.entry order.numbered u.unfinished, subst IsMarked (sym u.unfinished) (by_mark u.entry.marked refl))
    where
      by_mark : (b : Bool) → u.entry.marked ≡ b → u.entry.marked ≡ true
      by_mark true q = q
      by_mark false q = absurd (let a = keep.cared.wanted i u.cell u.entry u.unfinished q u.result in let b = u.no_future in omega (arith, a, b))

  none_left : (p : Proc Frame) (i : ℕ) → EventInvariant p → AtRest p.core → MarkedIn i p → thing p.core.entries i ≡ None
  none_left p i keep rest h = by_entry (thing p.core.entries i) refl h.1
    where
      no_both : {b : Bool} → b ≡ true → b ≡ false → ⊥
      no_both f g = cc

      by_entry : (x : Option Entry) → thing p.core.entries i ≡ x → IsMarked x → x ≡ None
      by_entry None at m = refl
      by_entry (Some e) at m = absurd (no_both (rest.suspended i e at) (keep.cared.awake i e at m))

  event_ends : (w : World Frame) → WorldFits r w → HoldsInPlaces WholeAtRest w.places → UnreferredEnd (classes r) w
  event_ends w f h b m l i g reach u burst go =
      let start = begun_going r v.valid WholeWithin WholeAtRest (keeps_all r v) w b f h g in
      let mid = reached_going r v.valid WholeWithin (keeps_all r v).keeps w.places w.out.file.processes start.0 (before b) m reach start.1 in
      by_halt start.0 m.proc.core.halted refl mid mid.fits.own mid.within
    where
      whole : (n : ℕ) (p : Proc Frame) (es : _) → FitsAmong r n es p → WholeWithin p → EventInvariant p
      whole n p es f k = keeps r n es p f k.0.0 k.0.1 k.1

      at_end : (n : ℕ) → Going r v.valid WholeWithin (keeps_all r v).keeps w.places w.out.file.processes n m → Orderly m.proc.core → MarkedIn i m.proc → thing l.proc.core.entries i ≡ None
      at_end n mid order marked =
          let end = burst_going r v.valid WholeWithin (keeps_all r v).keeps w.places w.out.file.processes n m l burst mid in
          let with_mark = burst_going r v.valid (MarkedIn i) (marked_kept i r) w.places w.out.file.processes n m l burst (record { fits = mid.fits; within = unless m.proc.core.halted marked }) in
          let fits : FitsAmong r n l.out.events.pending l.proc = subst (λ x. Meant x (FitsAmong r n l.out.events.pending l.proc)) go end.fits.own in
          let within : WholeWithin l.proc = subst (λ x. UnlessStopped x (WholeWithin l.proc)) go end.within in
          let rest : AtRest l.proc.core = subst (λ x. UnlessStopped x (AtRest l.proc.core)) go (burst_at_rest (classes r) host m l (unless m.proc.core.halted order) burst) in
          none_left l.proc i (whole n l.proc l.out.events.pending fits within) rest (subst (λ x. UnlessStopped x (MarkedIn i l.proc)) go with_mark.within)

      by_halt : (n : ℕ) (x : Option Halt) → m.proc.core.halted ≡ x → Going r v.valid WholeWithin (keeps_all r v).keeps w.places w.out.file.processes n m
          → Meant x (FitsAmong r n m.out.events.pending m.proc) → UnlessStopped x (WholeWithin m.proc) → thing l.proc.core.entries i ≡ None
      by_halt n None q mid f k = at_end n mid f.in_place.orderly (unreferred_marked m.proc i (whole n m.proc m.out.events.pending f k) f.in_place.orderly u)
      by_halt n (Some x) q mid f k = absurd (never x m l q burst go)

  pub states_end : StatesEnd r
  states_end w states range run = of_worlds r v.valid WholeWithin WholeAtRest (keeps_all r v) (UnreferredEnd (classes r)) event_ends w states range run
