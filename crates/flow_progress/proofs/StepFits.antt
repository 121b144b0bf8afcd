-- An actor's step in a process that fits.
use Rattle.std.proofs.Common.{◌≡◌, ℕ, suc, false, List, [], ◌∷◌, refl, sym, ap, ◌∙◌, subst, arith}
use Rattle.std.specs.Prelude.{slice_get}
use Rattle.std.specs.declared.option.Option.{Option}
use Rattle.std.specs.declared.option.Option.TheVariants.{None, Some}
use Rattle.flow_tree.specs.Tree.{TypeTree, FutureType}
use Rattle.flow_tree.specs.Decls.{RoutineTree}
use Rattle.flow_value.specs.Values.{GoodOutcome}
use Rattle.flow_eval.specs.Typed.{CellsFit}
use Rattle.flow_class.specs.Classes.{ClassTree, RawTree}
use Rattle.flow_numbered.specs.Numbered.{Numbered, thing, added}
use Rattle.flow_meaning.specs.Cells.{Waiter, Cell, Single, Stream, waiters, outcome}
use Rattle.flow_meaning.specs.Requests.{Supply}
use Rattle.flow_meaning.specs.Process.{Task, Run, Entry, Core}
use Rattle.flow_meaning.specs.Step.{Stepped, view, entry_of}
use Rattle.flow_meaning.specs.Orderly.{tasks_of, Rising, Orderly}
use Rattle.flow_meaning.specs.Frame.{Frame}
use Rattle.flow_meaning.proofs.Posture.{each_number, thing_added, IsOf, own_task, other_task, awake_entry, Awake}
use Rattle.flow_meaning.proofs.Order.{rising_added}
use Rattle.flow_meaning.proofs.Shifts.{run_of}
use Rattle.flow_meaning.proofs.TaskShifts.{Popped, popped_at, beyond_none, thing_new}
use Rattle.flow_progress.specs.Places.{class_vars}
use Rattle.flow_progress.specs.Rules.{KeepsRules, ClassRules}
use Rattle.flow_progress.specs.Asking.{OutcomeFits}
use Rattle.flow_progress.specs.Keeping.{FineAsking}
use Rattle.flow_progress.specs.Fitting.{CellTypes, typed_by, Fits, CellFits, AllWaitFor, WaitersAt, Standing, DoingFits, PostureFits, ActorFits, ActorAt, ProcessFits, OwnsResult}
use Rattle.flow_progress.proofs.States.{FitsBut, popped_but, actor_at, actor_of}
use Rattle.flow_progress.proofs.CellStates.{cell_there}
use Rattle.flow_progress.proofs.HandFits.{Owner}
use Rattle.flow_progress.specs.Registering.{IsRegistered}
use Rattle.flow_progress.proofs.Registered.{awake_registered}

-- An actor with a task: its entry, its frame, its class, and that the task fits.
pub record Actor (r : RawTree) (types : CellTypes) (i : ℕ) (t : Task) (ts : List Task) (c : Core) (xs : Numbered Frame) : Type 0 where
  pub entry : Entry
  pub frame : Frame
  pub class : ClassTree
  pub at : thing c.entries i ≡ Some entry
  pub awake : entry.suspended ≡ false
  pub stands : thing xs i ≡ Some frame
  pub owner : Owner r types entry class
  pub doing : DoingFits r types class entry frame (t ∷ tasks_of i ts)
  pub rest : FitsBut r types i (record c { tasks = ts }) xs
  pub running : Awake i c

module _ (r : RawTree) (types : CellTypes) (i : ℕ) (t : Task) (ts : List Task) (c : Core) (xs : Numbered Frame) where
  pub actor_here : Orderly c → c.tasks ≡ t ∷ ts → IsOf i t → ProcessFits r types c xs → Actor r types i t ts c xs
  actor_here o top own p =
      let pop = popped_at i c.left t ts c o top own in
      let all : tasks_of i c.tasks ≡ t ∷ tasks_of i ts = ap (tasks_of i) top ∙ own_task i t ts own in
      let en = awake_entry i c (thing c.entries i) pop.awake in
      with_frame en.0 en.1 en.2 (thing xs i) refl all pop
    where
      with_frame : (e : Entry) → thing c.entries i ≡ Some e → e.suspended ≡ false → (x : Option Frame) → thing xs i ≡ x → tasks_of i c.tasks ≡ t ∷ tasks_of i ts
          → Popped i t c (record c { tasks = ts }) → Actor r types i t ts c xs
      with_frame e at a None fr all pop = absurd (subst (λ x. ActorAt r types (Some e) x (tasks_of i c.tasks)) fr (subst (λ x. ActorAt r types x (thing xs i) (tasks_of i c.tasks)) at (p.actors i)))
      with_frame e at a (Some f) fr all pop =
          let fits = actor_of r types e f (thing c.entries i) (thing xs i) (tasks_of i c.tasks) at fr (p.actors i) in record {
            entry = e;
            frame = f;
            class = fits.class;
            at = at;
            awake = a;
            stands = fr;
            owner = record { is = fits.is; owns = fits.owns };
            doing = subst (DoingFits r types fits.class e f) all (subst (λ b. PostureFits r types b fits.class e f (tasks_of i c.tasks)) a fits.posture);
            rest = popped_but r types i c.left t ts c xs p top pop.others;
            running = pop.awake;
          }

-- what evaluation sees of the cells fits
pub cells_seen : (r : RawTree) (types : CellTypes) (s : Supply) (i : ℕ) (c : Core) (xs : Numbered Frame) → ProcessFits r types c xs → CellsFit r.records (typed_by types) (view s i c).cells
cells_seen r types s i c xs p k t v has e =
    let cell = cell_there r types k (FutureType t) (thing c.cells k) has (p.cells k) in
    by_cell cell.0 cell.2 (sym (ap outcome cell.1) ∙ e)
  where
    by_cell : (cell : Cell) → CellFits r types cell (FutureType t) → outcome (Some cell) ≡ Some (GoodOutcome v) → Fits r types v t
    by_cell (Single None ws) f e = absurd cc
    by_cell (Single (Some o) ws) f e =
        let q : o ≡ GoodOutcome v = cc in
        let u : f.0 ≡ t = let d = f.1 in cc in
        subst (Fits r types v) u (subst (λ z. OutcomeFits r.records (typed_by types) z f.0) q f.2)
    by_cell (Stream q end w) f e = absurd cc

module _ (r : RawTree) (actors : List RoutineTree) (rules : ClassRules r actors) (s : Supply) where
  abbrev pub After : CellTypes → Stepped Frame → Type 0
  After types q = FineAsking r types q.1 q.0.core.halted q.0.core q.0.actors

  -- the rules of a frame's class
  pub frame_rules : (types : CellTypes) (e : Entry) (c : ClassTree) (f : Frame) → Owner r types e c → f.code ≡ c → KeepsRules r actors f.code (class_vars f.code)
  frame_rules types e c f o q = subst (λ d. KeepsRules r actors d (class_vars d)) (sym q) (rules.classes e.class c o.is)

  -- a new actor
  pub add_actor : (types : CellTypes) (k : Core) (xs : Numbered Frame) (class : ℕ) (result : Option ℕ) (d : ClassTree) (a : Frame) → Rising 0 k.started k.entries → ProcessFits r types k xs
      → slice_get r.classes class ≡ Some d → OwnsResult r types result d.returns
      → a.code ≡ d → Standing r types a
      → ProcessFits r types (record k { entries = added k.entries (suc k.started) (entry_of class result); started = suc k.started; tasks = Run (suc k.started) ∷ k.tasks }) (added xs (suc k.started) a)
  add_actor types k xs class result d a up p is has code st =
      let n = suc k.started in
      let e = entry_of class result in
      let none = beyond_none k.entries 0 k.started n up (omega arith) in
      let no_frame = beyond_none xs 0 k.started n p.framed (omega arith) in record {
        cells = p.cells;
        waiting = λ j. more_waits (types j) (thing k.cells j) (p.waiting j);
        actors = each_number n (λ j. ActorAt r types (thing (added k.entries n e) j) (thing (added xs n a) j) (tasks_of j (Run n ∷ k.tasks)))
            (actor_at r types e a (thing (added k.entries n e) n) (thing (added xs n a) n) (tasks_of n (Run n ∷ k.tasks)) (thing_new k.entries n e none) (thing_new xs n a no_frame)
            (subst (ActorFits r types e a) (sym (own_task n (Run n) k.tasks (run_of n)))
            (record { class = d; is = is; owns = has; posture = (code, st, tt) })))
            (λ j m. subst (λ o. ActorAt r types o (thing (added xs n a) j) (tasks_of j (Run n ∷ k.tasks))) (sym (thing_added k.entries n j e m))
            (subst (λ o. ActorAt r types (thing k.entries j) o (tasks_of j (Run n ∷ k.tasks))) (sym (thing_added xs n j a m))
            (subst (ActorAt r types (thing k.entries j) (thing xs j)) (sym (other_task n j (Run n) k.tasks (run_of n) m)) (p.actors j))));
        work = p.work;
        ports = p.ports;
        main = p.main;
        requests = p.requests;
        numbered = p.numbered;
        framed = rising_added xs 0 k.started a (omega arith) p.framed;
        registered = each_number n (λ j. IsRegistered j (added k.entries n e) k.cells) (awake_registered n (added k.entries n e) k.cells e (thing_new k.entries n e none) refl)
            (λ j m x at s. p.registered j x (sym (thing_added k.entries n j e m) ∙ at) s);
      }
    where
      more_frames : (ws : List Waiter) (t : TypeTree) → AllWaitFor r types xs ws t → AllWaitFor r types (added xs (suc k.started) a) ws t
      more_frames [] t h = tt
      more_frames (w ∷ ws) t h =
          let other : suc k.started ≡ w.actor → ⊥ = (λ q. no_frame (subst (λ m. thing xs m ≡ None) q (beyond_none xs 0 k.started (suc k.started) p.framed (omega arith))) h.0.stands) in
          (record { frame = h.0.frame; stands = thing_added xs (suc k.started) w.actor a other ∙ h.0.stands; operand = h.0.operand }, more_frames ws t h.1)
        where
          no_frame : {o : Option Frame} {f : Frame} → o ≡ None → o ≡ Some f → ⊥
          no_frame h q = cc

      more_waits : (o : Option TypeTree) (x : Option Cell) → WaitersAt r types xs o x → WaitersAt r types (added xs (suc k.started) a) o x
      more_waits None None h = tt
      more_waits None (Some cell) h = tt
      more_waits (Some t) None h = tt
      more_waits (Some t) (Some cell) h = more_frames (waiters cell) t h
