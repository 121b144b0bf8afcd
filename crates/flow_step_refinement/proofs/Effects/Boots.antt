-- `main` starts in memory as in the process.
use Rattle.std.proofs.Common.{◌≡◌, ℕ, suc, List, [], ◌∷◌, map, refl, sym, ap, ◌∙◌, subst, arith}
use Rattle.std.specs.Prelude.{ℤ, pos, slice_get}
use Rattle.std.specs.declared.option.Option.TheVariants.{None, Some}
use Rattle.flow_base.specs.declared.ids.ActorId.{ActorId}
use Rattle.flow_base.specs.declared.ids.ProcId.{ProcId}
use Rattle.flow_value.specs.declared.value.Kind.TheVariants as kind
use Rattle.flow_value.specs.declared.value.Value.{Value}
use Rattle.flow_value.specs.declared.value.Value.TheVariants.{Int, rolls-Int}
use Rattle.flow_value.specs.declared.value.Value.TheFolds.{fold-roll-Value}
use Rattle.flow_value.specs.declared.value.Value.TheOpen as layer
use Rattle.flow_value.specs.Values.{ValueTree, IntValue}
use Rattle.flow_value.specs.View.{value_of, value_step}
use Rattle.flow_class.specs.Classes.{RawTree}
use Rattle.flow_code.specs.Classes.{ClassCode}
use Rattle.flow_code.specs.declared.program.Code.{Code}
use Rattle.flow_trace.specs.declared.line.Line.{Line}
use Rattle.flow_trace.specs.declared.line.Line.TheVariants as line
use Rattle.flow_cancel.specs.Heap.{actor_id}
use Rattle.flow_cancel.specs.declared.task.Task.TheVariants as task
use Rattle.flow_numbered.specs.Numbered.{thing, added}
use Rattle.flow_meaning.specs.Cells.{FutureSide, Single}
use Rattle.flow_meaning.specs.Process.{Run, Proc}
use Rattle.flow_meaning.specs.References.{Scan, count_maybe, refs_in}
use Rattle.flow_meaning.specs.Lines.{start_line}
use Rattle.flow_meaning.specs.Work.{turn, writes, pushed, new_cell}
use Rattle.flow_meaning.specs.Deliver.{boot_with}
use Rattle.flow_meaning.specs.Step.{enrol, proc, on_core}
use Rattle.flow_meaning.specs.Class.{classes, begun}
use Rattle.flow_meaning.specs.Frame.{Frame}
use Rattle.flow_heap_refinement.specs.Acting.{with_actor}
use Rattle.flow_heap_refinement.specs.Holds.{with_refs, There, AllThere, hold}
use Rattle.flow_heap_refinement.proofs.Beside.{main_shown}
use Rattle.flow_heap_refinement.proofs.Referring.{of_main}
use Rattle.flow_steps.specs.declared.process.Process.{Process}
use Rattle.flow_steps.specs.Doing.{turned, doing, telling}
use Rattle.flow_steps.specs.Holding.{on_heap}
use Rattle.flow_steps.specs.Acting.{Enrols}
use Rattle.flow_steps.specs.Tasks.{MainStarts, MainCalled, main_waits, main_starts}
use Rattle.flow_operation_refinement.specs.Matching.{ProcessRepresents, Matches, shows, with_task}
use Rattle.flow_operation_refinement.proofs.Working.{as_many_shown, changed, by_turn, task_done, ref_held, telling_shown}
use Rattle.flow_operation_refinement.proofs.Making.{new_there}
use Rattle.flow_operation_refinement.proofs.Takings.{turned_asked}
use Rattle.flow_step_refinement.specs.Effects.Starting as law
use Rattle.flow_step_refinement.specs.Effects.Starting.{MayStart}
use Rattle.flow_step_refinement.proofs.Effects.Starts.{same_class, fresh_actor, label_is, celled, enrolled_shown, may_turned, some_left, none_left}

-- a number is seen as itself
pub int_seen : (n : ℤ) → value_of (Int n) ≡ IntValue n
int_seen n = ap value_of (sym (rolls-Int n)) ∙ fold-roll-Value ValueTree value_step (layer.Int n)

-- what comes out is what the definitions have
as_booted : (p : Proc Frame) (class : ℕ) (f : Frame) (name : List ℕ)
    → on_core (writes (start_line (suc p.core.started) name)) (on_core (pushed (Run (suc p.core.started)))
    (on_core (λ c. record c { main = Some (suc p.core.made) }) (with_actor class (Some (suc p.core.made)) f (on_core (new_cell (Single None [])) p))))
    ≡ proc (record (enrol class name p.core) { main = Some (suc p.core.made) }) (added p.actors (suc p.core.started) f)
as_booted p class f name = refl

module _ (r : RawTree) (ls : List Line) (x : Scan) (m : Process) (p : Proc Frame) where
  -- where a turn is left
  starts_shown : (code : Code) (me : ProcId) (n : Process) → ProcessRepresents r ls x m p → m.asked ≡ None → p.core.main ≡ None → code.main ≡ Some (classes r).main
      → (may : MayStart r p code (classes r).main (IntValue (pos me.0) ∷ [])) → MainStarts code me m n
      → ProcessRepresents r ls x n (proc (record (enrol (classes r).main may.tree.name p.core) { main = Some (suc p.core.made) })
      (added p.actors (suc p.core.started) (begun may.tree (IntValue (pos me.0) ∷ []))))
  starts_shown code me n s none no_main main may st =
      let class = (classes r).main in
      let vs : List Value = Int (pos me.0) ∷ [] in
      let seen : map value_of vs ≡ IntValue (pos me.0) ∷ [] = ap (λ v. v ∷ []) (int_seen (pos me.0)) in
      let is_class : st.class ≡ class = let a = st.main in cc (a, main) in
      let f = begun may.tree (IntValue (pos me.0) ∷ []) in
      let may2 : MayStart r p code class (map value_of vs) = record {
        coded = may.coded;
        cells = may.cells;
        entries = may.entries;
        free = may.free;
        there = subst (λ us. AllThere p (refs_in us)) (sym seen) may.there;
        tree = may.tree;
        at = may.at;
        taken = may.taken;
        fits = may.fits;
      } in
      let en = enrolled_shown r ls x m p code class vs st.actor st.cell st.between s may2 (subst (λ c. Enrols code c vs st.actor st.cell m st.between) is_class st.enrols) in
      let p3 = with_actor class (Some st.cell.0) f (celled p may.cells) in
      let enrolled : ProcessRepresents r ls x st.between p3 = subst (λ us. ProcessRepresents r ls x st.between (with_actor class (Some st.cell.0) (begun may.tree us) (celled p may.cells))) seen en.shown in
      let future : There p3 (kind.Future, st.cell.0) =
      let t = new_there r ls x m p kind.Future may.cells in record { cell = t.cell; at = ap (thing (celled p may.cells).core.cells) en.cell ∙ t.at; right = t.right } in
      let held = ref_held r ls x st.between p3 (kind.Future, st.cell.0) enrolled future in
      let m4 : Process = on_heap (λ h. record (hold kind.Future st.cell.0 h) { main = Some st.cell }) st.between in
      let p4 : Proc Frame = on_core (λ c. record c { main = Some st.cell.0 }) p3 in
      let as_main : ProcessRepresents r ls x m4 p4 =
      changed r ls (with_refs ((kind.Future, st.cell.0) ∷ []) x) x (on_heap (hold kind.Future st.cell.0) st.between) p3 p4
      (record (hold kind.Future st.cell.0 st.between.heap) { main = Some st.cell }) held (record {
        shows = main_shown r (hold kind.Future st.cell.0 st.between.heap) p3 (Some st.cell) held.holds.shows;
        counted = λ z j.
            let a = of_main p3 z j (Some st.cell.0) in
            let b = held.holds.counted z j in
            let d = ap (count_maybe z j FutureSide) no_main in omega (arith, a, b, d);
      }) refl refl refl in
      let u = Run st.actor.0 in
      let ran = task_done r ls x m4 p4 (task.Run st.actor) u (as_many_shown r ls x (with_task u x) m4 p4 (λ z j. omega arith) as_main) refl in
      let quiet : (doing (task.Run st.actor) m4).asked ≡ None = ap (λ (k : Process). k.asked) st.enrols.made ∙ none in
      let told = telling_shown r ls x (line.Start st.actor may.tree.name) (doing (task.Run st.actor) m4) (on_core (pushed u) p4) ran quiet in
      let at_main : slice_get code.classes.items class ≡ Some st.starts.of = subst (λ c. slice_get code.classes.items c ≡ Some st.starts.of) is_class st.starts.at in
      let named : st.starts.of.name ≡ may.tree.name = ap (λ (c : ClassCode). c.name) (same_class r code.classes.items may.coded class st.starts.of may.tree at_main may.at) in
      let out : n ≡ telling (line.Start st.actor may.tree.name) (doing (task.Run st.actor) m4) =
      st.starts.told ∙ ap (λ l. telling (line.Start st.actor l) (doing (task.Run st.actor) m4)) named in
      let actor : st.actor ≡ actor_id (suc p.core.started) = ap actor_id en.actor in
      subst (λ z. ProcessRepresents r ls x z (proc (record (enrol class may.tree.name p.core) { main = Some (suc p.core.made) }) (added p.actors (suc p.core.started) f))) (sym out)
      (subst (λ k. ProcessRepresents r ls x (telling (line.Start st.actor may.tree.name) (doing (task.Run st.actor) m4))
      (on_core (writes (start_line (suc p.core.started) may.tree.name))
      (on_core (pushed (Run (suc p.core.started))) (on_core (λ c. record c { main = Some k }) (with_actor class (Some k) f (on_core (new_cell (Single None [])) p)))))) en.cell
      (subst (λ (a : ActorId). ProcessRepresents r ls x (telling (line.Start st.actor may.tree.name) (doing (task.Run st.actor) m4))
      (on_core (writes (line.Start a may.tree.name)) (on_core (pushed (Run a.0)) p4))) actor told))

pub main_boots : (r : RawTree) (ls : List Line) (m : Process) (p : Proc Frame) → law.MainBoots r ls m p
main_boots r ls m p x code me n s none no_main main may called =
    subst (λ o. Matches r ls x n (boot_with (classes r) o p)) (sym (fresh_actor r (classes r).main may.tree (IntValue (pos me.0) ∷ []) may.at may.taken))
    (subst (λ l. Matches r ls x n (proc (turn p.core (λ d. record (enrol (classes r).main l d) { main = Some (suc d.made) }))
    (added p.actors (suc p.core.started) (begun may.tree (IntValue (pos me.0) ∷ []))))) (sym (label_is r (classes r).main may.tree may.at))
    (by_turn r ls x m p x n (λ d. record (enrol (classes r).main may.tree.name d) { main = Some (suc d.made) }) p.core (added p.actors (suc p.core.started) (begun may.tree (IntValue (pos me.0) ∷ [])))
    s refl refl
    (by_none called) (by_some called)))
  where
    by_none : MainCalled code me m n → m.left ≡ 0 → n ≡ turned m
    by_none (main_waits t q) l = q
    by_none (main_starts t st) l = let a = none_left r ls x m p l in absurd (cc (a, t))

    by_some : MainCalled code me m n → (k : ℕ) → m.left ≡ suc k → ProcessRepresents r ls x (turned m) (on_core (λ d. record d { left = k }) p)
        → Matches r ls x n (proc (record (enrol (classes r).main may.tree.name (record p.core { left = k })) { main = Some (suc p.core.made) })
        (added p.actors (suc p.core.started) (begun may.tree (IntValue (pos me.0) ∷ []))))
    by_some (main_waits t q) k l now = let a = some_left r ls x m p k l in absurd (cc (a, t))
    by_some (main_starts t st) k l now =
        shows (starts_shown r ls x (turned m) (on_core (λ d. record d { left = k }) p) code me n now (turned_asked m ∙ none) no_main main
        (may_turned r ls x m p k code (classes r).main (IntValue (pos me.0) ∷ []) may) st)
