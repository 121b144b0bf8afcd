-- An actor that is called starts in memory as in the process.
use Rattle.std.proofs.Common.{◌≡◌, ◌≤◌, ℕ, zero, suc, ◌+◌, nat_eq, nat_lt, true, false, List, [], ◌∷◌, map, length, if◌then◌else◌, refl, sym, ap, ◌∙◌, subst, arith}
use Rattle.std.proofs.lemmas.Bool.Decides.{nat_tests}
use Rattle.std.specs.Prelude.{slice_get, unwrap_or}
use Rattle.std.specs.Option.{option_map}
use Rattle.std.specs.declared.option.Option.TheVariants.{None, Some}
use Rattle.flow_base.specs.declared.ids.ActorId.{ActorId}
use Rattle.flow_base.specs.declared.ids.CellId.{CellId}
use Rattle.flow_value.specs.declared.value.Kind.TheVariants as kind
use Rattle.flow_value.specs.declared.value.Value.{Value}
use Rattle.flow_value.specs.declared.value.Value.TheVariants.{Ref}
use Rattle.flow_value.specs.Values.{ValueTree, RefValue, refs_of}
use Rattle.flow_value.specs.View.{value_of}
use Rattle.flow_class.specs.Classes.{ClassTree, RawTree}
use Rattle.flow_trace.specs.declared.line.Line.{Line}
use Rattle.flow_trace.specs.declared.line.Line.TheVariants as line
use Rattle.flow_code.specs.declared.class.Class.{Class}
use Rattle.flow_code.specs.declared.program.Code.{Code}
use Rattle.flow_code.specs.Classes.{ClassCode}
use Rattle.flow_code.specs.View.{code_of}
use Rattle.flow_code.specs.Coded.{coded}
use Rattle.flow_cancel.specs.Heap.{actor_id, next_cell, with_result}
use Rattle.flow_cancel.specs.Dropping as dropping
use Rattle.flow_cancel.specs.declared.task.Task.TheVariants as task
use Rattle.flow_numbered.specs.Numbered.{thing, added}
use Rattle.flow_meaning.specs.Requests as asks
use Rattle.flow_meaning.specs.Cells.{Ref as Reference, Single}
use Rattle.flow_meaning.specs.Process.{Run, Proc}
use Rattle.flow_meaning.specs.References.{Scan, refs_in}
use Rattle.flow_meaning.specs.Orderly.{Rising}
use Rattle.flow_meaning.specs.Lines.{start_line}
use Rattle.flow_meaning.specs.Work.{turn, writes, pushed, new_cell}
use Rattle.flow_meaning.specs.Effects.{gives, result_task, push_result}
use Rattle.flow_meaning.specs.Step.{start, start_alone, enrol, enrol_with, entry_of, kept_by, proc, on_core}
use Rattle.flow_meaning.specs.Views.{spot_at}
use Rattle.flow_meaning.specs.Class.{classes, class_name, begun, fresh_from}
use Rattle.flow_meaning.specs.Frame.{Frame}
use Rattle.flow_meaning.proofs.Posture.{each_number, thing_added}
use Rattle.flow_heap_refinement.specs.Acting.{Free, with_actor}
use Rattle.flow_heap_refinement.specs.Holds.{with_refs, There, AllThere, hold_all}
use Rattle.flow_heap_refinement.specs.Counted.{branches_of, waiters_at}
use Rattle.flow_heap_refinement.specs.Representing.{wait_spot}
use Rattle.flow_heap_refinement.proofs.Finds.{none_above, thing_new}
use Rattle.flow_heap_refinement.proofs.Tasks.{refs_same}
use Rattle.flow_steps.specs.declared.call.Goal.{Goal}
use Rattle.flow_steps.specs.declared.call.Goal.TheVariants as goal
use Rattle.flow_steps.specs.declared.process.Process.{Process}
use Rattle.flow_steps.specs.Doing.{turned, doing, telling}
use Rattle.flow_steps.specs.Holding.{on_heap, value_refs}
use Rattle.flow_steps.specs.Delivering.{made}
use Rattle.flow_steps.specs.Acting.{with_args, Enrols, EnrolsAlone, Starts, StartsAlone, ActorCalled, VoidCalled, not_called, actor_starts, void_not_called}
use Rattle.flow_steps.specs.Acting as acting
use Rattle.flow_operation_refinement.specs.Matching.{ProcessRepresents, Matches, shows, with_task}
use Rattle.flow_operation_refinement.specs.Working.{SameGoal}
use Rattle.flow_operation_refinement.specs.Coded.{CodedBy}
use Rattle.flow_operation_refinement.proofs.Working.{as_many_shown, by_turn, task_done, refs_held, telling_shown}
use Rattle.flow_operation_refinement.proofs.Giving.{result_given}
use Rattle.flow_operation_refinement.proofs.Making.{same_goal_by, ref_seen, cell_made, new_there}
use Rattle.flow_operation_refinement.proofs.Takings.{turned_asked}
use Rattle.flow_operation_refinement.proofs.Brought.{all_there_by}
use Rattle.flow_step_refinement.specs.Effects.Asking.{resumed}
use Rattle.flow_step_refinement.specs.Effects.Starting as law
use Rattle.flow_step_refinement.specs.Effects.Starting.{MayStart}
use Rattle.flow_step_refinement.proofs.Effects.Entering.{actor_holds}

-- lists
get_mapped : {A B : Type 0} (g : A → B) (xs : List A) (n : ℕ) → slice_get (map g xs) n ≡ option_map g (slice_get xs n)
get_mapped g [] n = refl
get_mapped g (x ∷ xs) zero = refl
get_mapped g (x ∷ xs) (suc n) = get_mapped g xs n

-- the class of the code is that of the program
pub same_class : (r : RawTree) (items : List Class) (c : CodedBy r items) (class : ℕ) (of : Class) (tree : ClassTree) → slice_get items class ≡ Some of → slice_get r.classes class ≡ Some tree
    → code_of of ≡ coded c.names c.class tree
same_class r items c class of tree a b =
    let x = sym (get_mapped code_of items class) ∙ ap (λ l. slice_get l class) c.are_coded ∙ get_mapped (coded c.names c.class) r.classes class in
    let y : Some (code_of of) ≡ Some (coded c.names c.class tree) = sym (ap (option_map code_of) a) ∙ x ∙ ap (option_map (coded c.names c.class)) b in cc (y)

-- the actor that the class gives, and its name
pub fresh_actor : (r : RawTree) (class : ℕ) (tree : ClassTree) (us : List ValueTree) → slice_get r.classes class ≡ Some tree → length us ≡ tree.params
    → (classes r).fresh class us ≡ Some (begun tree us)
fresh_actor r class tree us at n =
    let t : nat_eq (length us) tree.params ≡ true = grind (arith, nat_tests, n) in
    ap (λ o. fresh_from o us) at ∙ ap (λ b. if b then Some (begun tree us) else None) t

pub label_is : (r : RawTree) (class : ℕ) (tree : ClassTree) → slice_get r.classes class ≡ Some tree → (classes r).label class ≡ tree.name
label_is r class tree at = ap (λ o. unwrap_or o []) (get_mapped class_name r.classes class ∙ ap (option_map class_name) at)

as_many : (vs : List Value) → length (map value_of vs) ≡ length vs
as_many [] = refl
as_many (v ∷ vs) = ap suc (as_many vs)

-- with a new cell
module _ (p : Proc Frame) (rising : Rising 0 p.core.made p.core.cells) where
  abbrev pub celled : Proc Frame
  celled = on_core (new_cell (Single None [])) p

  none_there : thing p.core.cells (suc p.core.made) ≡ None
  none_there = none_above p.core.cells 0 p.core.made (suc p.core.made) rising (omega arith)

  there_still : (q : Reference) → There p q → There celled q
  there_still q t = record {
    cell = t.cell;
    at = thing_added p.core.cells (suc p.core.made) q.1 (Single None []) (λ e. let a = ap (thing p.core.cells) e in let b = none_there in let c = t.at in absurd (cc (a, b, c))) ∙ t.at;
    right = t.right;
  }

  all_still : (qs : List Reference) → AllThere p qs → AllThere celled qs
  all_still [] t = tt
  all_still (q ∷ qs) t = (there_still q t.0, all_still qs t.1)

  free_still : (i : ℕ) → Free i p.core → Free i celled.core
  free_still i f = record {
    waits = each_number (suc p.core.made) (λ k. branches_of i (waiters_at (thing (added p.core.cells (suc p.core.made) (Single None [])) k)) ≡ [])
        (ap (λ o. branches_of i (waiters_at o)) (thing_new p.core.cells (suc p.core.made) (Single None []) none_there))
        (λ k d. ap (λ o. branches_of i (waiters_at o)) (thing_added p.core.cells (suc p.core.made) k (Single None []) d) ∙ f.waits k);
    keeps = f.keeps;
  }

-- An actor is enrolled: its cell and its number are the next ones.
module _ (r : RawTree) (ls : List Line) (x : Scan) (m : Process) (p : Proc Frame) where
  pub record Enrolled (class : ℕ) (f : Frame) (i : ActorId) (k : CellId) (n : Process) : Type 0 where
    pub cell : k.0 ≡ suc p.core.made
    pub actor : i.0 ≡ suc p.core.started
    pub shown : ProcessRepresents r ls x n (with_actor class (Some k.0) f (on_core (new_cell (Single None [])) p))

  pub enrolled_shown : (code : Code) (class : ℕ) (vs : List Value) (i : ActorId) (k : CellId) (n : Process) → ProcessRepresents r ls x m p → (may : MayStart r p code class (map value_of vs))
      → Enrols code class vs i k m n → Enrolled class (begun may.tree (map value_of vs)) i k n
  enrolled_shown code class vs i k n s may en =
      let us = map value_of vs in
      let number : k.0 ≡ suc p.core.made = en.cell ∙ s.holds.shows.made in
      let one = cell_made r ls x m p kind.Future s may.cells in
      let p2 = celled p may.cells in
      let m1 : Process = on_heap (made kind.Future) m in
      let held = refs_held r ls x m1 p2 (refs_in us) one (all_still p may.cells (refs_in us) may.there) in
      let heap_is : hold_all (refs_in us) (made kind.Future m.heap) ≡ with_args vs m.heap = ap (λ qs. hold_all qs (with_result (next_cell m.heap) m.heap)) (sym (refs_same vs)) in
      let two : ProcessRepresents r ls (with_refs (refs_in us) x) (on_heap (with_args vs) m) p2 =
      subst (λ h. ProcessRepresents r ls (with_refs (refs_in us) x) (record m { heap = h }) p2) heap_is held in
      let same = same_class r code.classes.items may.coded class en.of may.tree en.at may.at in
      let places : en.of.places ≡ length may.tree.slots + length may.tree.locals = ap (λ (c : ClassCode). c.places) same in
      let taken : length vs ≡ may.tree.params = sym (as_many vs) ∙ may.taken in
      let few : length vs ≤ length may.tree.slots = let a = may.fits in omega (arith, a, taken) in
      let there : There p2 (kind.Promise, k.0) = subst (λ c. There p2 (kind.Promise, c)) (sym number) (new_there r ls x m p kind.Promise may.cells) in
      record {
        cell = number;
        actor = en.actor ∙ two.holds.shows.started;
        shown = subst (λ z. ProcessRepresents r ls x z (with_actor class (Some k.0) (begun may.tree us) p2)) (sym en.made)
            (actor_holds r ls x (on_heap (with_args vs) m) p2 class en.of.places (Some k.0) may.tree vs two may.at places few taken may.entries (free_still p may.cells (suc p.core.started) may.free)
            (λ j e. let same : k.0 ≡ j = cc (e) in subst (λ c. There p2 (kind.Promise, c)) same there));
      }

-- A void actor is enrolled: its number is the next one.
module _ (r : RawTree) (ls : List Line) (x : Scan) (m : Process) (p : Proc Frame) where
  record EnrolledAlone (class : ℕ) (f : Frame) (i : ActorId) (n : Process) : Type 0 where
    actor : i.0 ≡ suc p.core.started
    shown : ProcessRepresents r ls x n (with_actor class None f p)

  alone_shown : (code : Code) (class : ℕ) (vs : List Value) (i : ActorId) (n : Process) → ProcessRepresents r ls x m p → (may : MayStart r p code class (map value_of vs))
      → EnrolsAlone code class vs i m n → EnrolledAlone class (begun may.tree (map value_of vs)) i n
  alone_shown code class vs i n s may en =
      let us = map value_of vs in
      let held = refs_held r ls x m p (refs_in us) s may.there in
      let heap_is : hold_all (refs_in us) m.heap ≡ hold_all (dropping.refs_in vs) m.heap = ap (λ qs. hold_all qs m.heap) (sym (refs_same vs)) in
      let two : ProcessRepresents r ls (with_refs (refs_in us) x) (on_heap (hold_all (dropping.refs_in vs)) m) p =
      subst (λ h. ProcessRepresents r ls (with_refs (refs_in us) x) (record m { heap = h }) p) heap_is held in
      let same = same_class r code.classes.items may.coded class en.of may.tree en.at may.at in
      let places : en.of.places ≡ length may.tree.slots + length may.tree.locals = ap (λ (c : ClassCode). c.places) same in
      let taken : length vs ≡ may.tree.params = sym (as_many vs) ∙ may.taken in
      let few : length vs ≤ length may.tree.slots = let a = may.fits in omega (arith, a, taken) in
      record {
        actor = en.actor ∙ two.holds.shows.started;
        shown = subst (λ z. ProcessRepresents r ls x z (with_actor class None (begun may.tree us) p)) (sym en.made)
            (actor_holds r ls x (on_heap (hold_all (dropping.refs_in vs)) m) p class en.of.places None may.tree vs two may.at places few taken may.entries may.free (λ j e. absurd (cc (e))));
      }

-- where a result goes stays where an actor starts
same_goal_then : (p : Proc Frame) (class k : ℕ) (f : Frame) (i : ℕ) (g : Goal) (h : asks.Goal) → (suc p.core.started ≡ i → ⊥) → SameGoal p i g h → SameGoal (with_actor class (Some k) f p) i g h
same_goal_then p class k f i goal.Stored asks.Stored d s = tt
same_goal_then p class k f i (goal.Kept n) (asks.Kept spot) d s = (
  s.0 ∙ sym (ap (spot_at wait_spot) (thing_added p.actors (suc p.core.started) i f d)),
  s.1 ∙ sym (ap (λ o. spot.first + kept_by o) (thing_added p.core.entries (suc p.core.started) i (entry_of class (Some k)) d)),
)
same_goal_then p class k f i goal.Stored (asks.Kept spot) d s = absurd s
same_goal_then p class k f i (goal.Kept n) asks.Stored d s = absurd s

-- what comes out is what the definitions have
as_enrolled : (p : Proc Frame) (class : ℕ) (f : Frame) (i : ℕ) (h : asks.Goal) (name : List ℕ)
    → on_core (writes (start_line (suc p.core.started) name)) (on_core (pushed (Run (suc p.core.started)))
    (on_core (gives i h (RefValue kind.Future (suc p.core.made))) (with_actor class (Some (suc p.core.made)) f (on_core (new_cell (Single None [])) p))))
    ≡ proc (enrol class name (push_result i (result_task i h (RefValue kind.Future (suc p.core.made))) p.core)) (added p.actors (suc p.core.started) f)
as_enrolled p class f i asks.Stored name = refl
as_enrolled p class f i (asks.Kept spot) name = refl

module _ (r : RawTree) (ls : List Line) (x : Scan) (m : Process) (p : Proc Frame) where
  -- where a turn is left
  starts_shown : (code : Code) (i : ActorId) (g : Goal) (h : asks.Goal) (class : ℕ) (vs : List Value) (n : Process) → ProcessRepresents r ls x m p → m.asked ≡ None → (suc p.core.started ≡ i.0 → ⊥)
      → (may : MayStart r p code class (map value_of vs)) → SameGoal p i.0 g h → Starts code i g class vs m n
      → ProcessRepresents r ls x n (proc (enrol class may.tree.name (push_result i.0 (result_task i.0 h (RefValue kind.Future (suc p.core.made))) p.core))
      (added p.actors (suc p.core.started) (begun may.tree (map value_of vs))))
  starts_shown code i g h class vs n s none other may same st =
      let f = begun may.tree (map value_of vs) in
      let en = enrolled_shown r ls x m p code class vs st.actor st.cell st.enrolled s may st.enrols in
      let p3 = with_actor class (Some st.cell.0) f (celled p may.cells) in
      let future : There p3 (kind.Future, st.cell.0) =
      let t = new_there r ls x m p kind.Future may.cells in record { cell = t.cell; at = ap (thing (celled p may.cells).core.cells) en.cell ∙ t.at; right = t.right } in
      let there : AllThere p3 (value_refs (Ref kind.Future st.cell)) = subst (λ v. AllThere p3 (refs_of v)) (sym (ref_seen kind.Future st.cell)) (future, tt) in
      let q3 = subst (λ v. ProcessRepresents r ls x st.given (on_core (gives i.0 h v) p3)) (ref_seen kind.Future st.cell)
      (result_given r ls x st.enrolled p3 g h i (Ref kind.Future st.cell) st.given en.shown there
      (same_goal_then (celled p may.cells) class st.cell.0 f i.0 g h other (same_goal_by p (celled p may.cells) i.0 g h refl refl same)) st.gives) in
      let p4 = on_core (gives i.0 h (RefValue kind.Future st.cell.0)) p3 in
      let u = Run st.actor.0 in
      let ran = task_done r ls x st.given p4 (task.Run st.actor) u (as_many_shown r ls x (with_task u x) st.given p4 (λ z j. omega arith) q3) refl in
      let quiet : (doing (task.Run st.actor) st.given).asked ≡ None =
      ap (λ (k : Process). k.asked) st.gives.given_by ∙ ap (λ (k : Process). k.asked) st.enrols.made ∙ none in
      let told = telling_shown r ls x (line.Start st.actor may.tree.name) (doing (task.Run st.actor) st.given) (on_core (pushed u) p4) ran quiet in
      let named : st.starts.of.name ≡ may.tree.name = ap (λ (c : ClassCode). c.name) (same_class r code.classes.items may.coded class st.starts.of may.tree st.starts.at may.at) in
      let out : n ≡ telling (line.Start st.actor may.tree.name) (doing (task.Run st.actor) st.given) =
      st.starts.told ∙ ap (λ l. telling (line.Start st.actor l) (doing (task.Run st.actor) st.given)) named in
      let actor : st.actor ≡ actor_id (suc p.core.started) = ap actor_id en.actor in
      subst (λ z. ProcessRepresents r ls x z (proc (enrol class may.tree.name (push_result i.0 (result_task i.0 h (RefValue kind.Future (suc p.core.made))) p.core))
      (added p.actors (suc p.core.started) f))) (sym out)
      (subst (λ z. ProcessRepresents r ls x (telling (line.Start st.actor may.tree.name) (doing (task.Run st.actor) st.given)) z) (as_enrolled p class f i.0 h may.tree.name)
      (subst (λ k. ProcessRepresents r ls x (telling (line.Start st.actor may.tree.name) (doing (task.Run st.actor) st.given))
      (on_core (writes (start_line (suc p.core.started) may.tree.name))
      (on_core (pushed (Run (suc p.core.started))) (on_core (gives i.0 h (RefValue kind.Future k)) (with_actor class (Some k) f (on_core (new_cell (Single None [])) p)))))) en.cell
      (subst (λ (a : ActorId). ProcessRepresents r ls x (telling (line.Start st.actor may.tree.name) (doing (task.Run st.actor) st.given))
      (on_core (writes (line.Start a may.tree.name)) (on_core (pushed (Run a.0)) p4))) actor told)))

  abbrev pub may_turned : (k : ℕ) (code : Code) (class : ℕ) (us : List ValueTree) → MayStart r p code class us → MayStart r (on_core (λ c. record c { left = k }) p) code class us
  may_turned k code class us may = record {
    coded = may.coded;
    cells = may.cells;
    entries = may.entries;
    free = record { waits = may.free.waits; keeps = may.free.keeps };
    there = all_there_by p (on_core (λ c. record c { left = k }) p) (refs_in us) refl may.there;
    tree = may.tree;
    at = may.at;
    taken = may.taken;
    fits = may.fits;
  }

  -- whether a turn is left
  pub some_left : (k : ℕ) → m.left ≡ suc k → nat_lt 0 m.left ≡ true
  some_left k e = grind (arith, nat_tests, e)

  pub none_left : m.left ≡ 0 → nat_lt 0 m.left ≡ false
  none_left e = grind (arith, nat_tests, e)

module _ (r : RawTree) (ls : List Line) (x : Scan) (m : Process) (p : Proc Frame) where
  pub call_starts : law.CallStarts r ls x m p
  call_starts code i g h class vs e f n s none acts may same called =
      subst (λ o. Matches r ls x n (start (classes r) i.0 h class o p).0) (sym (fresh_actor r class may.tree (map value_of vs) may.at may.taken))
      (subst (λ l. Matches r ls x n (proc (turn p.core (λ d. enrol class l (push_result i.0 (result_task i.0 h (RefValue kind.Future (suc d.made))) d)))
      (added p.actors (suc p.core.started) (begun may.tree (map value_of vs))))) (sym (label_is r class may.tree may.at))
      (by_turn r ls x m p x n (λ d. enrol class may.tree.name (push_result i.0 (result_task i.0 h (RefValue kind.Future (suc d.made))) d)) p.core
      (added p.actors (suc p.core.started) (begun may.tree (map value_of vs))) s refl refl
      (by_none called) (by_some called)))
    where
      other : suc p.core.started ≡ i.0 → ⊥
      other d =
          let a = none_above p.core.entries 0 p.core.started (suc p.core.started) may.entries (omega arith) in
          let b = ap (thing p.core.entries) d in
          let c = acts.entered in absurd (cc (a, b, c))

      by_none : ActorCalled code i g class vs m n → m.left ≡ 0 → n ≡ turned m
      by_none (not_called t q) l = q
      by_none (actor_starts t st) l = let a = none_left r ls x m p l in absurd (cc (a, t))

      by_some : ActorCalled code i g class vs m n → (k : ℕ) → m.left ≡ suc k → ProcessRepresents r ls x (turned m) (on_core (λ d. record d { left = k }) p)
          → Matches r ls x n (proc (enrol class may.tree.name (push_result i.0 (result_task i.0 h (RefValue kind.Future (suc p.core.made))) (record p.core { left = k })))
          (added p.actors (suc p.core.started) (begun may.tree (map value_of vs))))
      by_some (not_called t q) k l now = let a = some_left r ls x m p k l in absurd (cc (a, t))
      by_some (actor_starts t st) k l now =
          let q : Proc Frame = on_core (λ d. record d { left = k }) p in
          shows (starts_shown r ls x (turned m) q code i g h class vs n now (turned_asked m ∙ none) other (may_turned r ls x m p k code class (map value_of vs) may)
          (same_goal_by p q i.0 g h refl refl same) st)

module _ (r : RawTree) (ls : List Line) (x : Scan) (m : Process) (p : Proc Frame) where
  -- a void actor, where a turn is left
  alone_starts : (code : Code) (i : ActorId) (class : ℕ) (vs : List Value) (n : Process) → ProcessRepresents r ls x m p → m.asked ≡ None
      → (may : MayStart r p code class (map value_of vs)) → StartsAlone code i class vs m n
      → ProcessRepresents r ls x n (proc (enrol_with class may.tree.name None (pushed (Run i.0) p.core)) (added p.actors (suc p.core.started) (begun may.tree (map value_of vs))))
  alone_starts code i class vs n s none may st =
      let f = begun may.tree (map value_of vs) in
      let en = alone_shown r ls x m p code class vs st.actor st.enrolled s may st.enrols in
      let p3 = with_actor class None f p in
      let one = task_done r ls x st.enrolled p3 (task.Run i) (Run i.0) (as_many_shown r ls x (with_task (Run i.0) x) st.enrolled p3 (λ z j. omega arith) en.shown) refl in
      let p4 = on_core (pushed (Run i.0)) p3 in
      let k = doing (task.Run i) st.enrolled in
      let u = Run st.actor.0 in
      let ran = task_done r ls x k p4 (task.Run st.actor) u (as_many_shown r ls x (with_task u x) k p4 (λ z j. omega arith) one) refl in
      let quiet : (doing (task.Run st.actor) k).asked ≡ None = ap (λ (z : Process). z.asked) st.enrols.made ∙ none in
      let told = telling_shown r ls x (line.Start st.actor may.tree.name) (doing (task.Run st.actor) k) (on_core (pushed u) p4) ran quiet in
      let named : st.starts.of.name ≡ may.tree.name = ap (λ (c : ClassCode). c.name) (same_class r code.classes.items may.coded class st.starts.of may.tree st.starts.at may.at) in
      let out : n ≡ telling (line.Start st.actor may.tree.name) (doing (task.Run st.actor) k) = st.starts.told ∙ ap (λ l. telling (line.Start st.actor l) (doing (task.Run st.actor) k)) named in
      let actor : st.actor ≡ actor_id (suc p.core.started) = ap actor_id en.actor in
      subst (λ z. ProcessRepresents r ls x z (proc (enrol_with class may.tree.name None (pushed (Run i.0) p.core)) (added p.actors (suc p.core.started) f))) (sym out)
      (subst (λ (a : ActorId). ProcessRepresents r ls x (telling (line.Start st.actor may.tree.name) (doing (task.Run st.actor) k))
      (on_core (writes (line.Start a may.tree.name)) (on_core (pushed (Run a.0)) p4))) actor told)

module _ (r : RawTree) (ls : List Line) (x : Scan) (m : Process) (p : Proc Frame) where
  pub void_starts : law.VoidStarts r ls x m p
  void_starts code i class vs e f n s none acts may called =
      subst (λ o. Matches r ls x n (start_alone (classes r) i.0 class o p).0) (sym (fresh_actor r class may.tree (map value_of vs) may.at may.taken))
      (subst (λ l. Matches r ls x n (proc (turn p.core (λ d. enrol_with class l None (pushed (Run i.0) d))) (added p.actors (suc p.core.started) (begun may.tree (map value_of vs)))))
      (sym (label_is r class may.tree may.at))
      (by_turn r ls x m p x n (λ d. enrol_with class may.tree.name None (pushed (Run i.0) d)) p.core
      (added p.actors (suc p.core.started) (begun may.tree (map value_of vs))) s refl refl
      (by_none called) (by_some called)))
    where
      by_none : VoidCalled code i class vs m n → m.left ≡ 0 → n ≡ turned m
      by_none (void_not_called t q) l = q
      by_none (acting.void_starts t st) l = let a = none_left r ls x m p l in absurd (cc (a, t))

      by_some : VoidCalled code i class vs m n → (k : ℕ) → m.left ≡ suc k → ProcessRepresents r ls x (turned m) (on_core (λ d. record d { left = k }) p)
          → Matches r ls x n (proc (enrol_with class may.tree.name None (pushed (Run i.0) (record p.core { left = k }))) (added p.actors (suc p.core.started) (begun may.tree (map value_of vs))))
      by_some (void_not_called t q) k l now = let a = some_left r ls x m p k l in absurd (cc (a, t))
      by_some (acting.void_starts t st) k l now =
          let q : Proc Frame = on_core (λ d. record d { left = k }) p in
          shows (alone_starts r ls x (turned m) q code i class vs n now (turned_asked m ∙ none) (may_turned r ls x m p k code class (map value_of vs) may) st)

-- what holds of a process holds when an actor of it has evaluated
pub may_resumed : (r : RawTree) (p : Proc Frame) (code : Code) (class : ℕ) (us : List ValueTree) (i : ℕ) (f : Frame) (left : ℕ) → MayStart r p code class us
    → MayStart r (resumed i f left p) code class us
may_resumed r p code class us i f left may = record {
  coded = may.coded;
  cells = may.cells;
  entries = may.entries;
  free = record { waits = may.free.waits; keeps = may.free.keeps };
  there = all_there_by p (resumed i f left p) (refs_in us) refl may.there;
  tree = may.tree;
  at = may.at;
  taken = may.taken;
  fits = may.fits;
}
