-- What the tasks of a process ask of it holds, by what it keeps.
use Rattle.std.proofs.Common.{◌≡◌, ◌⊎◌, inl, inr, ℕ, zero, suc, ◌<◌, Bool, true, List, [], ◌∷◌, ◌++◌, length, refl, sym, ap, subst, ◌∙◌, arith}
use Rattle.std.specs.Prelude.{map, slice_get, ◌&&◌}
use Rattle.std.specs.List.{list_all}
use Rattle.std.specs.Option.{option_map}
use Rattle.std.specs.declared.option.Option.{Option}
use Rattle.std.specs.declared.option.Option.TheVariants.{None, Some}
use Rattle.flow_tree.specs.Tree.{TypeTree, ErrorType}
use Rattle.flow_tree.specs.Decls.{RecordTree}
use Rattle.flow_value.specs.Values.{ValueTree, IntValue, BoolValue, TextValue, VoidValue, ErrorValue, CompositeValue, RefValue, OutcomeTree}
use Rattle.flow_value.specs.declared.value.Outcome.{Outcome}
use Rattle.flow_value.specs.View.{outcome_of}
use Rattle.flow_value.specs.declared.value.Kind.TheVariants as kind
use Rattle.flow_ast.specs.Typing.{is_there}
use Rattle.flow_eval.specs.Typed.{HasType}
use Rattle.flow_eval.proofs.TypedValues.{no_parts}
use Rattle.flow_class.specs.declared.class.Slotted.{Slotted}
use Rattle.flow_class.specs.declared.class.Slotted.TheVariants.{Local}
use Rattle.flow_class.specs.Classes.{CatcherTree, ClassTree, RawTree}
use Rattle.flow_class.specs.Code.{catcher_at}
use Rattle.flow_code.specs.declared.program.Code.{Code}
use Rattle.flow_valid.specs.Named.{has_place, listed}
use Rattle.flow_cancel.specs.Heap.{actor_id}
use Rattle.flow_numbered.specs.Numbered.{thing}
use Rattle.flow_meaning.specs.Cells.{Side, PromiseSide, FutureSide, Waiter, Cell, waiters}
use Rattle.flow_meaning.specs.Process.{Task, Throw, Close, Fire, Entry, Proc}
use Rattle.flow_meaning.specs.References.{count, refs_in, value_in}
use Rattle.flow_meaning.specs.Orderly.{is_suspended, AllWait, tasks_of}
use Rattle.flow_meaning.specs.Step.{popped}
use Rattle.flow_meaning.specs.Variables.{flat, filled}
use Rattle.flow_meaning.specs.Frame.{Frame, read, reversed, blanks, emptied, all_emptied, lose, over}
use Rattle.flow_meaning.proofs.Shifts.{throw_of, close_of, cell_waits}
use Rattle.flow_meaning.proofs.TaskShifts.{popped_at}
use Rattle.flow_heap_refinement.specs.References.{frame_holds}
use Rattle.flow_heap_refinement.specs.Holding.{held}
use Rattle.flow_heap_refinement.specs.Representing.{Represents}
use Rattle.flow_heap_refinement.proofs.Referring.{of_popped}
use Rattle.flow_progress.specs.Places.{class_vars, HoldsTypes}
use Rattle.flow_progress.specs.Rules.{KeepsRules, ClassRules}
use Rattle.flow_progress.specs.Fitting.{typed_by, Standing, Waiting, PostureFits, TasksFit}
use Rattle.flow_progress.specs.Written.{heads}
use Rattle.flow_progress.proofs.Aparts.{ends_apart}
use Rattle.flow_progress.proofs.CellStates.{cell_there}
use Rattle.flow_progress.proofs.Functions.{functions_kept}
use Rattle.flow_progress.proofs.KeptClasses.{class_rules}
use Rattle.flow_progress.proofs.Memories.{emptied_holds}
use Rattle.flow_progress.proofs.StepFits.{Actor, actor_here, frame_rules}
use Rattle.flow_invariants.specs.Fitting.Laws.{AreValid}
use Rattle.flow_invariants.proofs.Fitting.Owned.{results_alone}
use Rattle.flow_progress.proofs.Tops.{first_true, second_true}
use Rattle.flow_steps.specs.declared.process.Process.{Process}
use Rattle.flow_operation_refinement.specs.Placing.{Acts, HasLocals}
use Rattle.flow_operation_refinement.specs.Seeing.{IsCodeOf}
use Rattle.flow_operation_refinement.specs.Closing.{MayClose}
use Rattle.flow_operation_refinement.specs.Tasking.{Suspended, MayFire}
use Rattle.flow_operation_refinement.specs.Throwing.{CatcherFits, MayThrow}
use Rattle.flow_burst_refinement.specs.Invariants.Invariant.{ProcessInvariant}
use Rattle.flow_burst_refinement.proofs.Invariants.Homes.{catcher_there}
use Rattle.flow_burst_refinement.proofs.Invariants.Theres.{content_there}
use Rattle.flow_burst_refinement.proofs.Invariants.Off.{no_tasks_keep, tasks_rest, unfinished, idle, tied_off, alone_off, free_off, go_off}
use Rattle.flow_burst_refinement.proofs.Invariants.Acting.{actor_at, acts_at, stands_by, waiting_there, either_there}

-- an entry by whether it is suspended
suspended_entry : (o : Option Entry) → is_suspended o ≡ Some true → (e : Entry) × ((o ≡ Some e) × (e.suspended ≡ true))
suspended_entry None h = cc
suspended_entry (Some e) h = (e, (refl, let a : e.suspended ≡ true = cc in a))

-- locals that are all empty
filled_more : (os : List (Option ValueTree)) → filled (os ++ None ∷ []) ≡ filled os
filled_more [] = refl
filled_more (None ∷ os) = filled_more os
filled_more (Some v ∷ os) = ap (λ vs. v ∷ vs) (filled_more os)

empty_at : (o : Option ValueTree) (os : List (Option ValueTree)) → ((n : ℕ) → flat (slice_get (o ∷ os) n) ≡ None) → o ≡ None
empty_at o os h = let a = h 0 in by_value o a
  where
    by_value : (x : Option ValueTree) → flat (Some x) ≡ None → x ≡ None
    by_value None e = refl
    by_value (Some v) e = e

none_filled : (os : List (Option ValueTree)) → ((n : ℕ) → flat (slice_get os n) ≡ None) → filled (reversed os) ≡ []
none_filled [] h = refl
none_filled (o ∷ os) h =
    let e = empty_at o os h in
    ap (λ x. filled (reversed os ++ x ∷ [])) e ∙ filled_more (reversed os) ∙ none_filled os (λ n. h (suc n))

none_blank : (os : List (Option ValueTree)) → ((n : ℕ) → flat (slice_get os n) ≡ None) → blanks os ≡ os
none_blank [] h = refl
none_blank (o ∷ os) h = ap (λ x. x ∷ blanks os) (sym (empty_at o os h)) ∙ ap (λ xs. o ∷ xs) (none_blank os (λ n. h (suc n)))

loses_nothing : (f : Frame) → ((n : ℕ) → read f.mem (Local n) ≡ None) → lose f ≡ ([], f)
loses_nothing f h =
    ap (λ vs. (vs, record f { mem = all_emptied f.mem })) (none_filled f.mem.locals h) ∙ ap (λ ls. ([], record f { mem = record f.mem { locals = ls } })) (none_blank f.mem.locals h)

-- an error holds no references
error_holds : (rs : List RecordTree) (typed : ℕ → TypeTree → Type 0) (o : Option ValueTree) → ((v : ValueTree) → o ≡ Some v → HasType rs typed v ErrorType) → (s : Side) (j : ℕ) → held s j o ≡ 0
error_holds rs typed None h s j = refl
error_holds rs typed (Some v) h s j = by_value v (h v refl)
  where
    by_value : (v : ValueTree) → HasType rs typed v ErrorType → held s j (Some v) ≡ 0
    by_value (ErrorValue e) t = refl
    by_value (IntValue n) t = refl
    by_value (BoolValue b) t = refl
    by_value (TextValue x) t = refl
    by_value VoidValue t = refl
    by_value (CompositeValue w vs) t = no_parts rs w ErrorType t.0 refl t.1
    by_value (RefValue kind.Promise k) t = let d = t.1 in absurd cc
    by_value (RefValue kind.Future k) t = let d = t.1 in absurd cc
    by_value (RefValue kind.PromiseStream k) t = let d = t.1 in absurd cc
    by_value (RefValue kind.FutureStream k) t = let d = t.1 in absurd cc

-- a catch part has its locals
pub locals_there : (c : ClassTree) (f : Frame) (ns : List ℕ) → length f.mem.locals ≡ length c.locals → list_all (has_place c) (map Local ns) ≡ true → HasLocals f ns
locals_there c f [] long h = tt
locals_there c f (n ∷ ns) long h =
    let a = first_true (has_place c (Local n)) (list_all (has_place c) (map Local ns)) h in
    let b = below c.locals n a in
    (omega (arith, b, long), locals_there c f ns long (second_true (has_place c (Local n)) (list_all (has_place c) (map Local ns)) h))
  where
    below : (xs : List TypeTree) (n : ℕ) → is_there (slice_get xs n) ≡ true → n < length xs
    below [] n h = cc
    below (x ∷ xs) zero h = omega arith
    below (x ∷ xs) (suc n) h = let a = below xs n h in omega (arith, a)

pub both_parts : (p : Slotted → Bool) (xs ys : List Slotted) → list_all p (xs ++ ys) ≡ true → (list_all p xs ≡ true) × (list_all p ys ≡ true)
both_parts p [] ys h = (refl, h)
both_parts p (x ∷ xs) ys h =
    let a = both_parts p xs ys (second_true (p x) (list_all p (xs ++ ys)) h) in (ap (λ b. b && list_all p xs) (first_true (p x) (list_all p (xs ++ ys)) h) ∙ a.0, a.1)

module _ (r : RawTree) (code : Code) (valid : AreValid r) (coded : IsCodeOf r code) (p : Proc Frame) (k : ProcessInvariant r p) (u : Task) (below : List Task) (top : p.core.tasks ≡ u ∷ below) where
  abbrev q : Proc Frame
  q = popped below p

  rules : ClassRules r (heads r)
  rules = class_rules r valid.valid valid.written (functions_kept r valid.valid valid.functions)

  -- whoever waits at a cell is suspended
  waiter_suspended : (start : Process) → Represents r start.heap q → (j : ℕ) (cell : Cell) (w : Waiter) (ws : List Waiter) → thing p.core.cells j ≡ Some cell → waiters cell ≡ w ∷ ws
      → Suspended code r start q w
  waiter_suspended start s j cell w ws at is =
      let all : AllWait p.core.entries (w ∷ ws) = subst (AllWait p.core.entries) is (cell_waits p.core.entries p.core.cells j cell k.orderly.waiting at) in
      let en = suspended_entry (thing p.core.entries w.actor) all.0 in
      let x = unfinished r p k w.actor en.0 en.1.0 in
      let parked = subst (λ b. PostureFits r k.types b x.fits.class en.0 x.frame (tasks_of w.actor p.core.tasks)) en.1.1 x.fits.posture in
      let waits = parked.1 in
      let acts = acts_at r start.heap q w.actor en.0 x.frame s en.1.0 x.acting (waiting_there r k.types x.frame waits) in
      record {
        entry = en.0;
        frame = x.frame;
        acts = acts;
        suspended = en.1.1;
        emptied = loses_nothing x.frame waits.lost;
        go = go_off r p k u below top w.actor en.0 en.1.0 (tasks_rest w.actor u below (ap (tasks_of w.actor) (sym top) ∙ idle r p k w.actor en.0 en.1.0 en.1.1));
        group = waits.group;
        stands = λ st now. let b = stands_by r code valid coded start q w.actor en.0 x.frame st acts now in (b.standing, b.waits waits.group waits.there);
      }

  pub may_fire : (start : Process) (j : ℕ) → Represents r start.heap q → u ≡ Fire j → MayFire code r start q j
  may_fire start j s is =
      let fit : TasksFit r k.types (Fire j ∷ below) = subst (λ t. TasksFit r k.types (t ∷ below)) is (subst (TasksFit r k.types) top k.fits.work) in
      let c = cell_there r k.types j fit.0.0 (thing p.core.cells j) fit.0.1 (k.fits.cells j) in
      record {
        cell = c.0;
        takeable = record { at = c.1; there = content_there r k.types q k.fits.cells c.0 fit.0.0 c.2 };
        waits = λ w ws e. waiter_suspended start s j c.0 w ws c.1 e;
      }

  -- the catch part of a frame fits
  catcher_fits : (class : ClassTree) (key : ℕ) (f : Frame) → slice_get r.classes key ≡ Some class → f.code ≡ class → HoldsTypes r.records (typed_by k.types) f.code f.mem
      → KeepsRules r (heads r) f.code (class_vars f.code)
      → (t : CatcherTree) → catcher_at f.code f.block ≡ Some t → CatcherFits f t
  catcher_fits class key f is code_is holds keeps t e =
      let names = both_parts (has_place f.code) (listed (option_map Local t.error)) (map Local t.drops) (catcher_there r valid.valid key f.code (is ∙ ap (λ c. Some c) (sym code_is)) f.block t e) in
      record {
        drops = locals_there f.code f t.drops holds.locals names.1;
        error = λ n q.
            let one : HasLocals f (n ∷ []) = locals_there f.code f (n ∷ []) holds.locals (subst (λ o. list_all (has_place f.code) (listed (option_map Local o)) ≡ true) q names.0) in (
              one.0,
              error_holds r.records (typed_by k.types) (read (emptied t.drops f.mem) (Local n))
                  (λ v z. (emptied_holds r.records (typed_by k.types) f.code t.drops f.mem holds).types (Local n) ErrorType v ((keeps.catchers f.block t e).1 n q) z),
            );
      }

  pub may_throw : (start : Process) (i err : ℕ) → Represents r start.heap q → u ≡ Throw i err → (e : Entry) × ((f : Frame) × (Acts r start.heap q i e f × MayThrow code start q (actor_id i) e f))
  may_throw start i err s is =
      let t = top ∙ ap (λ t. t ∷ below) is in
      let a = actor_here r k.types i (Throw i err) below p.core p.actors k.orderly t (throw_of i err) k.fits in
      let rest = (popped_at i p.core.left (Throw i err) below p.core k.orderly t (throw_of i err)).rest in
      let acts = acts_at r start.heap q i a.entry a.frame s a.at a.stands (either_there r k.types a.frame a.doing.1) in (
        a.entry,
        (
          a.frame,
          (
            acts,
            record {
              go = go_off r p k u below top i a.entry a.at rest;
              stands = λ st now. let b = stands_by r code valid coded start q i a.entry a.frame st acts now in (b.standing, b.catcher);
              fits = catcher_fits a.class a.entry.class a.frame a.owner.is a.doing.0 (holds_either a.frame a.doing.1)
                  (frame_rules r (heads r) rules (record { word = 0; now = 0; processes = 0 }) k.types a.entry a.class a.frame a.owner a.doing.0);
            },
          ),
        ),
      )
    where
      holds_either : (f : Frame) → Standing r k.types f ⊎ Waiting r k.types f → HoldsTypes r.records (typed_by k.types) f.code f.mem
      holds_either f (inl s) = s.holds
      holds_either f (inr w) = w.holds

  -- a frame that is over holds nothing
  over_empty : (f : Frame) → f ≡ over → (s : Side) (j : ℕ) → frame_holds s j f ≡ 0
  over_empty f e s j = ap (frame_holds s j) e

  pub may_close : (start : Process) (i : ℕ) (o : Outcome) → Represents r start.heap q → u ≡ Close i (outcome_of o) → MayClose r start.heap q i o
  may_close start i o s is =
      let v = outcome_of o in
      let t = top ∙ ap (λ t. t ∷ below) is in
      let a = actor_here r k.types i (Close i v) below p.core p.actors k.orderly t (close_of i v) k.fits in
      let rest = (popped_at i p.core.left (Close i v) below p.core k.orderly t (close_of i v)).rest in
      let x = actor_at r start.heap q i a.entry s a.at in
      let entry : x.entry ≡ a.entry = same_entry (sym x.entered ∙ a.at) in
      let frame : x.frame ≡ a.frame = same_frame (sym x.acting ∙ a.stands) in
      record {
        actor = x;
        most = p.core.started;
        actors = k.fits.framed;
        free = free_off r p k u below top i a.entry a.at a.awake (no_tasks_keep i below rest);
        operands = ap (λ (e : Entry). e.operands) entry ∙ a.doing.2;
        empty = λ z j. over_empty x.frame (frame ∙ a.doing.1) z j;
        apart = λ z j own. by_side a v t z j (sym (ap (λ (e : Entry). e.result) entry) ∙ own);
      }
    where
      same_entry : {x y : Entry} → Some x ≡ Some y → x ≡ y
      same_entry h = cc

      same_frame : {x y : Frame} → Some x ≡ Some y → x ≡ y
      same_frame h = cc

      by_side : (a : Actor r k.types i (Close i (outcome_of o)) below p.core p.actors) (v : OutcomeTree) → p.core.tasks ≡ Close i v ∷ below → (z : Side) (j : ℕ) → a.entry.result ≡ Some j
          → count z j (refs_in (value_in v)) ≡ 0
      by_side a v t FutureSide j own = ends_apart r valid.valid k.types p.core p.actors k.fits k.orderly i j a.entry v below t a.at own
      by_side a v t PromiseSide j own =
          let one = results_alone p.core p.actors k.tied k.alone i j a.entry a.at own in
          let two = results_alone q.core q.actors (tied_off r p k u below top) (alone_off r p k u below top) i j a.entry a.at own in
          let three = of_popped p PromiseSide j (Close i v) below t in
          omega (arith, one, two, three)
