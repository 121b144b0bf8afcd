-- What holds of a process that keeps what it has to, once its newest task is off.
use Rattle.std.proofs.Common.{◌≡◌, inl, ℕ, ◌+◌, ◌<◌, nat_eq, Bool, true, false, List, [], ◌∷◌, ◌++◌, if◌then◌else◌, refl, sym, ap, subst, ◌∙◌, arith}
use Rattle.std.specs.Prelude.{codes}
use Rattle.std.specs.declared.option.Option.{Option}
use Rattle.std.specs.declared.option.Option.TheVariants.{None, Some}
use Rattle.flow_tree.specs.Tree.{NamedType, FutureStreamType}
use Rattle.flow_class.specs.Classes.{ClassTree, RawTree}
use Rattle.flow_numbered.specs.Numbered.{Numbered, thing}
use Rattle.flow_meaning.specs.Cells.{Ref, PromiseSide, Cell, Single, Stream}
use Rattle.flow_meaning.specs.Process.{Task, Run, Give, Throw, Catch, Store, Keep, Close, Fire, Drop, Entry, Core, Proc}
use Rattle.flow_meaning.specs.References.{one, count_maybe, in_requests}
use Rattle.flow_meaning.specs.Dropping.{port_of}
use Rattle.flow_meaning.specs.Orderly.{is_of, tasks_of, is_suspended, Stands}
use Rattle.flow_meaning.specs.Step.{popped}
use Rattle.flow_meaning.specs.Frame.{Frame}
use Rattle.flow_meaning.proofs.Posture.{same_number}
use Rattle.flow_meaning.proofs.Shifts.{same_of}
use Rattle.flow_meaning.proofs.InOrder.{no_thing}
use Rattle.flow_heap_refinement.specs.Counted.{branches_of, waiters_at, waiting_by, waiting_of, branches_at}
use Rattle.flow_heap_refinement.specs.Rested.{has, IsStream, Owned}
use Rattle.flow_heap_refinement.specs.Naming.{TasksNamed}
use Rattle.flow_heap_refinement.specs.Alone.{spares, Alone, results_at, owners_of}
use Rattle.flow_heap_refinement.specs.CellsTied.{CellsTied}
use Rattle.flow_heap_refinement.specs.Lonely.{OwnedAlone}
use Rattle.flow_heap_refinement.specs.Acting.{NoKeep, Free}
use Rattle.flow_heap_refinement.specs.Leaving.{RightKinds}
use Rattle.flow_heap_refinement.specs.Holds.{MayWait}
use Rattle.flow_heap_refinement.proofs.Beside.{one_each}
use Rattle.flow_heap_refinement.proofs.Once.{one_reference}
use Rattle.flow_progress.specs.Fitting.{CellTypes, CellFits, DoingFits, PostureFits, ActorAt, ActorFits}
use Rattle.flow_progress.proofs.CellStates.{cell_there}
use Rattle.flow_invariants.proofs.Fitting.Owned.{ports_alone, results_alone}
use Rattle.flow_invariants.specs.Owned.{awaited}
use Rattle.flow_operation_refinement.specs.Matching.{Sound}
use Rattle.flow_operation_refinement.specs.Taking.{MayGo}
use Rattle.flow_burst_refinement.specs.Invariants.Invariant.{ProcessInvariant}
use Rattle.flow_burst_refinement.proofs.Invariants.Theres.{operands_right}

-- the results of actors and open requests count
result_counts : (k i : ℕ) (es : Numbered Entry) (e : Entry) → thing es i ≡ Some e → e.result ≡ Some k → 0 < results_at k es
result_counts k i [] e at own = absurd (no_thing at)
result_counts k i (x ∷ es) e at own = by_test (nat_eq i x.0) at (λ f. result_counts k i es e f own)
  where
    by_test : (b : Bool) → (if b then Some x.1 else thing es i) ≡ Some e → (thing es i ≡ Some e → 0 < results_at k es) → 0 < count_maybe PromiseSide k PromiseSide x.1.result + results_at k es
    by_test true f rest =
        let a = ap (count_maybe PromiseSide k PromiseSide) (ap (λ (y : Entry). y.result) (same_of f) ∙ own) in
        let b : one PromiseSide k PromiseSide k ≡ 1 = ap (λ (b : Bool). if b then 1 else 0) (same_number k) in omega (arith, a, b)
    by_test false f rest = let a = rest f in omega (arith, a)

request_counts : (k : ℕ) (ks : List ℕ) → has k ks ≡ true → 0 < in_requests PromiseSide k ks
request_counts k [] h = absurd cc
request_counts k (x ∷ ks) h = by_test (nat_eq k x) refl h (request_counts k ks)
  where
    by_test : (b : Bool) → nat_eq k x ≡ b → (if b then true else has k ks) ≡ true → (has k ks ≡ true → 0 < in_requests PromiseSide k ks)
        → 0 < one PromiseSide k PromiseSide x + in_requests PromiseSide k ks
    by_test true q f rest = let a : one PromiseSide k PromiseSide x ≡ 1 = ap (λ (b : Bool). if b then 1 else 0) q in omega (arith, a)
    by_test false q f rest = let a = rest f in omega (arith, a)

-- a task that isn't of an actor keeps nothing for it
other_keep : (i : ℕ) (u : Task) (ts : List Task) → is_of i u ≡ false → NoKeep i ts → NoKeep i (u ∷ ts)
other_keep i (Run j) ts q rest = rest
other_keep i (Give j b o) ts q rest = rest
other_keep i (Throw j e) ts q rest = rest
other_keep i (Catch j e) ts q rest = rest
other_keep i (Store j v) ts q rest = rest
other_keep i (Keep j spot r) ts q rest = ((λ e. let f : ⊥ = grind (arith, q, e) in f), rest)
other_keep i (Close j o) ts q rest = rest
other_keep i (Fire k) ts q rest = rest
other_keep i (Drop kd k) ts q rest = rest

-- an actor without tasks has no operand to keep, nor one that is to take its next step
pub no_tasks_keep : (i : ℕ) (ts : List Task) → tasks_of i ts ≡ [] → NoKeep i ts
no_tasks_keep i [] h = tt
no_tasks_keep i (t ∷ ts) h = by_test (is_of i t) refl h (no_tasks_keep i ts)
  where
    by_test : (b : Bool) → is_of i t ≡ b → (if b then t ∷ tasks_of i ts else tasks_of i ts) ≡ [] → (tasks_of i ts ≡ [] → NoKeep i ts) → NoKeep i (t ∷ ts)
    by_test true q e rest = absurd (cc (e))
    by_test false q e rest = other_keep i t ts q (rest e)

pub no_run_keep : (i : ℕ) (ts : List Task) → tasks_of i ts ≡ Run i ∷ [] → NoKeep i ts
no_run_keep i [] h = cc
no_run_keep i (t ∷ ts) h = by_test (is_of i t) refl h (no_run_keep i ts)
  where
    by_run : Run i ≡ t → NoKeep i ts → NoKeep i (t ∷ ts)
    by_run q rest = subst (λ u. NoKeep i (u ∷ ts)) q rest

    by_test : (b : Bool) → is_of i t ≡ b → (if b then t ∷ tasks_of i ts else tasks_of i ts) ≡ Run i ∷ [] → (tasks_of i ts ≡ Run i ∷ [] → NoKeep i ts) → NoKeep i (t ∷ ts)
    by_test true q e rest = by_run (let a : t ≡ Run i = cc in sym a) (no_tasks_keep i ts (let a : tasks_of i ts ≡ [] = cc in a))
    by_test false q e rest = other_keep i t ts q (rest e)

pub tasks_rest : (i : ℕ) (t : Task) (ts : List Task) → tasks_of i (t ∷ ts) ≡ [] → tasks_of i ts ≡ []
tasks_rest i t ts h = by_test (is_of i t) h
  where
    by_test : (b : Bool) → (if b then t ∷ tasks_of i ts else tasks_of i ts) ≡ [] → tasks_of i ts ≡ []
    by_test true e = absurd (cc (e))
    by_test false e = e

front_right : (cs : Numbered Cell) (xs ys : List Ref) → RightKinds cs (xs ++ ys) → RightKinds cs xs
front_right cs [] ys h = tt
front_right cs (x ∷ xs) ys h = (h.0, front_right cs xs ys h.1)

none_right : (cs : Numbered Cell) (qs : List Ref) → qs ≡ [] → RightKinds cs qs
none_right cs qs e = subst (RightKinds cs) (sym e) tt

-- an unfinished actor has its frame, and both fit
pub record Unfinished (r : RawTree) (types : CellTypes) (i : ℕ) (e : Entry) (c : Core) (xs : Numbered Frame) : Type 0 where
  pub frame : Frame
  pub acting : thing xs i ≡ Some frame
  pub fits : ActorFits r types e frame (tasks_of i c.tasks)

module _ (r : RawTree) (p : Proc Frame) (k : ProcessInvariant r p) where
  pub unfinished : (i : ℕ) (e : Entry) → thing p.core.entries i ≡ Some e → Unfinished r k.types i e p.core p.actors
  unfinished i e at = by_frame (thing p.actors i) refl (subst (λ x. ActorAt r k.types x (thing p.actors i) (tasks_of i p.core.tasks)) at (k.fits.actors i))
    where
      by_frame : (x : Option Frame) → thing p.actors i ≡ x → ActorAt r k.types (Some e) x (tasks_of i p.core.tasks) → Unfinished r k.types i e p.core p.actors
      by_frame None q a = absurd a
      by_frame (Some f) q a = record { frame = f; acting = q; fits = a }

  -- the kinds of operands
  doing_right : (c : ClassTree) (e : Entry) (f : Frame) (ts : List Task) → DoingFits r k.types c e f ts → RightKinds p.core.cells e.operands
  doing_right c e f [] h = absurd h
  doing_right c e f (Run i ∷ ts) h = operands_right r k.types p k.fits.cells f 0 e.operands h.2
  doing_right c e f (Store i v ∷ ts) h = none_right p.core.cells e.operands h.3
  doing_right c e f (Keep i spot q ∷ ts) h = front_right p.core.cells e.operands (q ∷ []) (operands_right r k.types p k.fits.cells f 0 (e.operands ++ q ∷ []) h.2)
  doing_right c e f (Give i b o ∷ ts) h = none_right p.core.cells e.operands h.2
  doing_right c e f (Throw i err ∷ ts) h = operands_right r k.types p k.fits.cells f 0 e.operands h.2
  doing_right c e f (Catch i err ∷ ts) h = none_right p.core.cells e.operands h.2
  doing_right c e f (Close i o ∷ ts) h = none_right p.core.cells e.operands h.2
  doing_right c e f (Fire n ∷ ts) h = absurd h
  doing_right c e f (Drop kd n ∷ ts) h = absurd h

  pub kinds_right : (i : ℕ) (e : Entry) → thing p.core.entries i ≡ Some e → RightKinds p.core.cells e.operands
  kinds_right i e at = let u = unfinished i e at in by_posture e.suspended u.fits.class u.frame u.fits.posture
    where
      by_posture : (b : Bool) (c : ClassTree) (f : Frame) → PostureFits r k.types b c e f (tasks_of i p.core.tasks) → RightKinds p.core.cells e.operands
      by_posture true c f h = operands_right r k.types p k.fits.cells f 0 e.operands h.2
      by_posture false c f h = doing_right c e f (tasks_of i p.core.tasks) h

  -- nothing is to be done for a suspended actor
  pub idle : (i : ℕ) (e : Entry) → thing p.core.entries i ≡ Some e → e.suspended ≡ true → tasks_of i p.core.tasks ≡ []
  idle i e at s = subst (λ o. Stands i o (tasks_of i p.core.tasks)) (ap is_suspended at ∙ ap (λ b. Some b) s) (k.orderly.actors i)

  -- an actor that runs waits nowhere
  pub waits_nowhere : (i : ℕ) (e : Entry) → thing p.core.entries i ≡ Some e → e.suspended ≡ false → (j : ℕ) → branches_of i (waiters_at (thing p.core.cells j)) ≡ []
  waits_nowhere i e at s j =
      k.tied.agree i j ∙ ap (λ o. branches_at j 0 (waiting_of o)) at ∙ ap (λ b. branches_at j 0 (waiting_by b e.operands)) s

  module _ (u : Task) (below : List Task) (top : p.core.tasks ≡ u ∷ below) where
    abbrev q : Proc Frame
    q = popped below p

    pub tied_off : CellsTied q.core
    tied_off =
        let t = k.tied in
        record { agree = t.agree; numbers = record { ports = t.numbers.ports; cells = t.numbers.cells; requests = t.numbers.requests }; once = t.once }

    named_off : (n : ℕ) → Alone n p → Alone n q
    named_off n h = let c = h.0 in let t : TasksNamed (spares n) (u ∷ below) = subst (TasksNamed (spares n)) top c.2 in ((c.0, c.1, t.1), h.1)

    pub alone_off : OwnedAlone q
    alone_off n o = named_off n (k.alone n o)

    stream_at : (n port : ℕ) → port_of n p.core.ports ≡ Some port → IsStream (thing p.core.cells n)
    stream_at n port at =
        let t = FutureStreamType (NamedType (codes "Packet")) in
        let there = (one_each p.core.ports 0 p.core.made k.tied.numbers.ports port n at).0 in
        let c = cell_there r k.types n t (thing p.core.cells n) (k.fits.ports port n there) (k.fits.cells n) in subst IsStream (sym c.1) (is_stream c.0 c.2)
      where
        is_stream : (cell : Cell) → CellFits r k.types cell (FutureStreamType (NamedType (codes "Packet"))) → IsStream (Some cell)
        is_stream (Single o ws) h = absurd (let e = h.1 in cc)
        is_stream (Stream q e w) h = tt

    pub owned_off : Owned q
    owned_off = record {
      result = λ i n e at own.
          let a = result_counts n i p.core.entries e at own in
          let w : 0 < awaited n p.core = omega (arith, a) in (k.unset n w, results_alone q.core q.actors tied_off alone_off i n e at own);
      request = λ n h.
          let a = request_counts n p.core.requests h in
          let w : 0 < awaited n p.core = omega (arith, a) in
          let own : 0 < owners_of n p.core = omega (arith, a) in (k.unset n w, one_reference n q tied_off.once (alone_off n (inl own)) own);
      port = λ port n at. (stream_at n port at, (ports_alone q.core q.actors tied_off alone_off).alone port n at);
    }

    pub waits_off : MayWait q.core
    waits_off = record {
      agree = k.tied.agree;
      cells = k.fits.numbered;
      kinds = kinds_right;
      idle = λ i e at s. no_tasks_keep i below (tasks_rest i u below (ap (tasks_of i) (sym top) ∙ idle i e at s));
    }

    pub sound_off : Sound q
    sound_off = record { owned = owned_off; numbers = tied_off.numbers; entries = k.orderly.numbered; waits = waits_off }

    -- an actor that runs, and whose other tasks keep nothing, is free
    pub free_off : (i : ℕ) (e : Entry) → thing p.core.entries i ≡ Some e → e.suspended ≡ false → NoKeep i below → Free i q.core
    free_off i e at s keep = record { waits = waits_nowhere i e at s; keeps = keep }

    -- an actor whose other tasks keep nothing may leave its wait
    pub go_off : (i : ℕ) (e : Entry) → thing p.core.entries i ≡ Some e → tasks_of i below ≡ [] → MayGo i e q.core
    go_off i e at none = record { agree = k.tied.agree; cells = k.fits.numbered; kinds = kinds_right i e at; keeps = no_tasks_keep i below none }
