-- What a process in memory does to its own state is what the definitions do.
use Rattle.std.proofs.Common.{◌≡◌, ℕ, zero, suc, ◌-◌, nat_lt, Bool, true, false, List, [], ◌∷◌, ◌++◌, if◌then◌else◌, refl, sym, ap, ◌∙◌, subst, arith}
use Rattle.std.proofs.lemmas.Bool.Decides.{nat_tests}
use Rattle.std.specs.declared.option.Option.TheVariants.{None}
use Rattle.flow_base.specs.ErrorNumbers.{broken_promise}
use Rattle.flow_value.specs.declared.value.Outcome.TheVariants as outcome
use Rattle.flow_value.specs.declared.value.Kind.{Kind}
use Rattle.flow_value.specs.View.{outcome_of}
use Rattle.flow_value.specs.Values.{BadOutcome}
use Rattle.flow_class.specs.Classes.{RawTree}
use Rattle.flow_trace.specs.declared.line.Line.{Line}
use Rattle.flow_cancel.specs.Heap.{HeapTree}
use Rattle.flow_cancel.specs.Heap as heap
use Rattle.flow_numbered.specs.Numbered.{Numbered}
use Rattle.flow_meaning.specs.Cells.{Side}
use Rattle.flow_meaning.specs.Process.{Core, Proc}
use Rattle.flow_meaning.specs.References.{Scan}
use Rattle.flow_meaning.specs.Lines.{broken_line}
use Rattle.flow_meaning.specs.Work.{turn, turn_of, writes, pushed, dropping, fill, fill_cell}
use Rattle.flow_meaning.specs.Step.{proc, on_core}
use Rattle.flow_meaning.specs.Frame.{Frame}
use Rattle.flow_heap_refinement.specs.Holds.{Holds, with_refs, hold, hold_all, filled_in}
use Rattle.flow_heap_refinement.proofs.Shown.{pushed_shown, dropped_shown}
use Rattle.flow_heap_refinement.proofs.Referring.{of_pushed, of_dropped}
use Rattle.flow_heap_refinement.proofs.Holds.{held_holds, all_held, filled_holds, as_many}
use Rattle.flow_heap_refinement.proofs.Further.{aside}
use Rattle.flow_steps.specs.declared.process.Process.{Process}
use Rattle.flow_steps.specs.Doing.{turned, telling}
use Rattle.flow_steps.specs.Holding.{outcome_refs, refs_dropped, filled_broken}
use Rattle.flow_operation_refinement.specs.Matching.{told, ProcessRepresents, AreSpent, Matches, shows, ends, with_task}
use Rattle.flow_operation_refinement.specs.Working as law
use Rattle.flow_operation_refinement.specs.Working.{Sendable}

-- a turn is left, or none
pub turned_none : (m : Process) → m.left ≡ 0 → turned m ≡ record m { spent = true }
turned_none m e = ap (λ n. if nat_lt 0 n then record m { left = n - 1 } else record m { spent = true }) e

pub turned_some : (m : Process) (n : ℕ) → m.left ≡ suc n → turned m ≡ record m { left = n }
turned_some m n e =
    let t : nat_lt 0 m.left ≡ true = grind (arith, nat_tests, e) in
    let l : m.left - 1 ≡ n = omega (arith, e) in
    ap (λ b. if b then record m { left = m.left - 1 } else record m { spent = true }) t ∙ ap (λ k. record m { left = k }) l

-- a part of the heap changes, and as much of the core
pub changed : (r : RawTree) (ls : List Line) (x y : Scan) (m : Process) (p q : Proc Frame) (h : HeapTree) → ProcessRepresents r ls x m p → Holds r y h q
    → q.core.lines ≡ p.core.lines → q.core.left ≡ p.core.left → q.core.halted ≡ p.core.halted
    → ProcessRepresents r ls y (record m { heap = h }) q
changed r ls x y m p q h s hs a b c = record { holds = hs; left = b ∙ s.left; lines = a ∙ s.lines; unspent = s.unspent; goes = c ∙ s.goes }

-- other references in hand, as many
pub as_many_shown : (r : RawTree) (ls : List Line) (x y : Scan) (m : Process) (p : Proc Frame) → ((s : Side) (j : ℕ) → x s j ≡ y s j) → ProcessRepresents r ls x m p → ProcessRepresents r ls y m p
as_many_shown r ls x y m p e s = record { holds = as_many r m.heap p x y e s.holds; left = s.left; lines = s.lines; unspent = s.unspent; goes = s.goes }

-- lines and turns are seen in the process alone
pub holds_aside : (r : RawTree) (x : Scan) (h : HeapTree) (p : Proc Frame) (ls : List Line) (n : ℕ) → Holds r x h p → Holds r x h (on_core (λ c. record c { lines = ls; left = n }) p)
holds_aside r x h p ls n hs = record { shows = aside r h p ls n hs.shows; counted = hs.counted }

module _ (r : RawTree) (ls : List Line) (x : Scan) (m : Process) (p : Proc Frame) where
  -- turns
  pub with_turn : (n : ℕ) → m.left ≡ suc n → ProcessRepresents r ls x m p → ProcessRepresents r ls x (turned m) (on_core (λ c. record c { left = n }) p)
  with_turn n e s =
      subst (λ k. ProcessRepresents r ls x k (on_core (λ c. record c { left = n }) p)) (sym (turned_some m n e)) (record {
        holds = holds_aside r x m.heap p p.core.lines n s.holds;
        left = refl;
        lines = s.lines;
        unspent = s.unspent;
        goes = s.goes;
      })

  pub without_turn : (act : Core → Core) (c : Core) (xs : Numbered Frame) → m.left ≡ 0 → c.left ≡ p.core.left → c.lines ≡ p.core.lines → ProcessRepresents r ls x m p
      → AreSpent ls (turned m) (proc (turn c act) xs)
  without_turn act c xs e same lines s =
      subst (λ k. AreSpent ls k (proc (turn c act) xs)) (sym (turned_none m e))
      (subst (λ n. AreSpent ls (record m { spent = true }) (proc (turn_of n c act) xs)) (sym (same ∙ s.left ∙ e)) (record {
        spent = refl;
        halted = refl;
        lines = lines ∙ s.lines;
      }))

  -- a turn is left, or none; whatever else there is then
  pub by_turn : (y : Scan) (n : Process) (act : Core → Core) (c : Core) (xs : Numbered Frame) → ProcessRepresents r ls x m p → c.left ≡ p.core.left → c.lines ≡ p.core.lines
      → (m.left ≡ 0 → n ≡ turned m)
      → ((k : ℕ) → m.left ≡ suc k → ProcessRepresents r ls x (turned m) (on_core (λ d. record d { left = k }) p)
      → Matches r ls y n (proc (act (record c { left = k })) xs))
      → Matches r ls y n (proc (turn c act) xs)
  by_turn y n act c xs s same lines none go = by_left m.left refl
    where
      by_left : (k : ℕ) → m.left ≡ k → Matches r ls y n (proc (turn c act) xs)
      by_left zero e = subst (λ t. Matches r ls y t (proc (turn c act) xs)) (sym (none e)) (ends (without_turn act c xs e same lines s))
      by_left (suc k) e = subst (λ t. Matches r ls y n (proc (turn_of t c act) xs)) (sym (same ∙ s.left ∙ e)) (go k e (with_turn k e s))

  pub turn_taken : law.TurnTaken r ls x m p
  turn_taken y f act s go =
      by_turn y (if nat_lt 0 m.left then f (turned m) else turned m) act p.core p.actors s refl refl
      (λ e. let t : nat_lt 0 m.left ≡ false = grind (arith, nat_tests, e) in ap (λ b. if b then f (turned m) else turned m) t)
      (λ k e now.
      let t : nat_lt 0 m.left ≡ true = grind (arith, nat_tests, e) in
      subst (λ b. Matches r ls y (if b then f (turned m) else turned m) (on_core act (on_core (λ c. record c { left = k }) p))) (sym t) (go k e now))

  -- tasks
  pub task_done : law.TaskDone r ls x m p
  task_done t u s same = changed r ls (with_task u x) x m p (on_core (pushed u) p) (heap.pushed t m.heap) s (record {
    shows = pushed_shown r m.heap p t u s.holds.shows same;
    counted = λ y j. let a = of_pushed p y j u in let b = s.holds.counted y j in omega (arith, a, b);
  }) refl refl refl

  -- references count
  pub ref_held : law.RefHeld r ls x m p
  ref_held q s t = changed r ls x (with_refs (q ∷ []) x) m p p (hold q.0 q.1 m.heap) s (held_holds r m.heap p x q s.holds t) refl refl refl

  pub refs_held : law.RefsHeld r ls x m p
  refs_held qs s t = changed r ls x (with_refs qs x) m p p (hold_all qs m.heap) s (all_held r m.heap p x qs s.holds t) refl refl refl

  pub refs_dropped_shown : law.RefsDropped r ls x m p
  refs_dropped_shown qs s = changed r ls (with_refs qs x) x m p (on_core (dropping qs) p) (refs_dropped qs m.heap) s (record {
    shows = dropped_shown r m.heap p qs s.holds.shows;
    counted = λ y j. let a = of_dropped p y j qs in let b = s.holds.counted y j in omega (arith, a, b);
  }) refl refl refl

  -- content
  pub cell_filled : law.CellFilled r ls x m p
  cell_filled kd k o s t =
      let hs = filled_holds r m.heap p x kd k t.cell o s.holds t.at t.right t.incomplete in
      changed r ls (with_refs (outcome_refs o) x) x m p (on_core (fill k (outcome_of o)) p) (filled_in kd k o m.heap) s hs
      (ap (λ c. (fill_cell k (outcome_of o) c p.core).lines) t.at)
      (ap (λ c. (fill_cell k (outcome_of o) c p.core).left) t.at)
      (ap (λ c. (fill_cell k (outcome_of o) c p.core).halted) t.at)

pub no_more : (xs : List Line) → xs ++ [] ≡ xs
no_more [] = refl
no_more (y ∷ ys) = ap (λ l. y ∷ l) (no_more ys)

-- a line is told
pub telling_shown : (r : RawTree) (ls : List Line) (x : Scan) (l : Line) (m : Process) (p : Proc Frame) → ProcessRepresents r ls x m p → m.asked ≡ None
    → ProcessRepresents r ls x (telling l m) (on_core (writes l) p)
telling_shown r ls x l m p s none = record {
  holds = holds_aside r x m.heap p (p.core.lines ++ l ∷ []) p.core.left s.holds;
  left = s.left;
  lines = ap (λ k. k ++ l ∷ []) (s.lines ∙ ap (λ a. ls ++ told a) none ∙ no_more ls);
  unspent = s.unspent;
  goes = s.goes;
}

module _ (r : RawTree) (ls : List Line) (x : Scan) (m : Process) (p : Proc Frame) where
  broken_filled : (kd : Kind) (k : ℕ) → ProcessRepresents r ls x m p → m.asked ≡ None → Sendable p kd k
      → ProcessRepresents r ls x (filled_broken kd k m) (on_core (fill k (BadOutcome broken_promise)) (on_core (writes (broken_line k)) p))
  broken_filled kd k s none t =
      cell_filled r ls x (telling (broken_line k) m) (on_core (writes (broken_line k)) p) kd k (outcome.Error (record { 0 = broken_promise }))
      (as_many_shown r ls x (with_refs [] x) (telling (broken_line k) m) (on_core (writes (broken_line k)) p) (λ s j. omega arith) (telling_shown r ls x (broken_line k) m p s none))
      (record { cell = t.cell; at = t.at; right = t.right; incomplete = t.incomplete })

module _ (r : RawTree) (ls : List Line) (x : Scan) (m : Process) (p : Proc Frame) where
  pub cell_broken : law.CellBroken r ls x m p
  cell_broken kd k s none t =
      turn_taken r ls x m p x (filled_broken kd k) (λ d. fill k (BadOutcome broken_promise) (writes (broken_line k) d)) s
      (λ n e s. shows (broken_filled r ls x (turned m) (on_core (λ c. record c { left = n }) p) kd k s (still m none)
      (record { cell = t.cell; at = t.at; right = t.right; incomplete = t.incomplete })))
    where
      still : (m : Process) → m.asked ≡ None → (turned m).asked ≡ None
      still m none = by_test (nat_lt 0 m.left)
        where
          by_test : (b : Bool) → (if b then record m { left = m.left - 1 } else record m { spent = true }).asked ≡ None
          by_test true = none
          by_test false = none
