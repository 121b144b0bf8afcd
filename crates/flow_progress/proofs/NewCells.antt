-- A process that fits gets a new cell.
use Rattle.std.proofs.Common.{◌≡◌, ℕ, suc, nat_eq, List, [], ◌∷◌, if◌then◌else◌, refl, sym, ap, ◌∙◌, subst, arith}
use Rattle.std.specs.declared.option.Option.{Option}
use Rattle.std.specs.declared.option.Option.TheVariants.{None, Some}
use Rattle.flow_tree.specs.Tree.{TypeTree, FutureType}
use Rattle.flow_class.specs.Classes.{RawTree}
use Rattle.flow_numbered.specs.Numbered.{Numbered, thing, added}
use Rattle.flow_meaning.specs.Cells.{Waiter, Cell, waiters}
use Rattle.flow_meaning.specs.Process.{Task, Entry, Core}
use Rattle.flow_meaning.specs.Work.{new_cell}
use Rattle.flow_meaning.specs.Orderly.{tasks_of}
use Rattle.flow_meaning.specs.Frame.{Frame}
use Rattle.flow_meaning.proofs.Posture.{same_number, other_number, each_number, thing_added}
use Rattle.flow_meaning.proofs.Order.{rising_added}
use Rattle.flow_meaning.proofs.TaskShifts.{beyond_none, thing_new}
use Rattle.flow_progress.specs.Fitting.{CellTypes, CellFits, CellAt, AllWaitFor, WaitersAt, ActorAt}
use Rattle.flow_progress.proofs.Retyped.{cell_retyped, actor_retyped, tasks_retyped, all_exist_retyped, sees_any, cell_any, operands_any, task_any, tasks_any, seen_any, FirstSees}
use Rattle.flow_progress.proofs.States.{FitsBut}
use Rattle.flow_progress.proofs.Registered.{cells_registered, added_keeps}

-- one cell more has a type
abbrev pub with_type : CellTypes → ℕ → TypeTree → CellTypes
with_type types n t j = if nat_eq j n then Some t else types j

abbrev pub Any : ℕ → Type 0
Any k = Unit {0}

pub new_type : (types : CellTypes) (n : ℕ) (t : TypeTree) → with_type types n t n ≡ Some t
new_type types n t = ap (λ b. if b then Some t else types n) (same_number n)

other_type : (types : CellTypes) (n j : ℕ) (t : TypeTree) → (n ≡ j → ⊥) → with_type types n t j ≡ types j
other_type types n j t h = ap (λ b. if b then Some t else types j) (other_number n j h)

module _ (r : RawTree) (types : CellTypes) (t : TypeTree) (c : Core) (xs : Numbered Frame) (i : ℕ) (p : FitsBut r types i c xs) where
  abbrev pub more : CellTypes
  more = with_type types (suc c.made) t

  none_here : thing c.cells (suc c.made) ≡ None
  none_here = beyond_none c.cells 0 c.made (suc c.made) p.numbered (omega arith)

  untyped : types (suc c.made) ≡ None
  untyped = by_type (types (suc c.made)) (subst (CellAt r types (types (suc c.made))) none_here (p.cells (suc c.made)))
    where
      by_type : (o : Option TypeTree) → CellAt r types o None → o ≡ None
      by_type None h = refl
      by_type (Some u) h = absurd h

  -- what had a type has it still
  pub kept_types : (k : ℕ) (u : TypeTree) → Any k → types k ≡ Some u → more k ≡ Some u
  kept_types k u a e = other_type types (suc c.made) k t (λ q. absurd (none_some (sym untyped ∙ subst (λ n. types n ≡ Some u) (sym q) e))) ∙ e
    where
      none_some : None ≡ Some u → ⊥
      none_some h = cc

  any : (k : ℕ) → Any k
  any k = tt

  old_at : (o : Option TypeTree) (x : Option Cell) → CellAt r types o x → CellAt r more o x
  old_at None None h = h
  old_at None (Some cell) h = absurd h
  old_at (Some u) None h = absurd h
  old_at (Some u) (Some cell) h = cell_retyped r types more Any kept_types cell u (cell_any Any any cell) h

  -- the same waiters, at frames whose operands are typed as before
  old_waits : (ws : List Waiter) (u : TypeTree) → AllWaitFor r types xs ws u → AllWaitFor r more xs ws u
  old_waits [] u h = tt
  old_waits (w ∷ ws) u h = (record { frame = h.0.frame; stands = h.0.stands; operand = h.0.operand }, old_waits ws u h.1)

  old_waiters : (o : Option TypeTree) (x : Option Cell) → WaitersAt r types xs o x → WaitersAt r more xs o x
  old_waiters None None h = tt
  old_waiters None (Some cell) h = tt
  old_waiters (Some u) None h = tt
  old_waiters (Some u) (Some cell) h = old_waits (waiters cell) u h

  first_any : (ts : List Task) → FirstSees r types more Any kept_types ts
  first_any [] = tt
  first_any (x ∷ ts) = task_any Any any x

  pub old_actor : (o : Option Entry) (f : Option Frame) (ts : List Task) → ActorAt r types o f ts → ActorAt r more o f ts
  old_actor None f ts h = tt
  old_actor (Some e) None ts h = absurd h
  old_actor (Some e) (Some f) ts h =
      actor_retyped r types more Any kept_types e f ts (λ q v e. sees_any Any any v) (operands_any Any any e.operands) (first_any ts) (λ k e. tt) h

  pub new_but : (cell : Cell) → CellFits r more cell t → waiters cell ≡ [] → FitsBut r more i (new_cell cell c) xs
  new_but cell fits no_waiters = record {
    cells = each_number (suc c.made) (λ k. CellAt r more (more k) (thing (added c.cells (suc c.made) cell) k))
        (subst (λ o. CellAt r more o (thing (added c.cells (suc c.made) cell) (suc c.made))) (sym (new_type types (suc c.made) t))
        (subst (CellAt r more (Some t)) (sym (thing_new c.cells (suc c.made) cell none_here)) fits))
        (λ k n. subst (λ o. CellAt r more o (thing (added c.cells (suc c.made) cell) k)) (sym (other_type types (suc c.made) k t n))
        (subst (CellAt r more (types k)) (sym (thing_added c.cells (suc c.made) k cell n)) (old_at (types k) (thing c.cells k) (p.cells k))));
    waiting = each_number (suc c.made) (λ k. WaitersAt r more xs (more k) (thing (added c.cells (suc c.made) cell) k))
        (subst (WaitersAt r more xs (more (suc c.made))) (sym (thing_new c.cells (suc c.made) cell none_here)) (new_waiters (more (suc c.made))))
        (λ k n. subst (λ o. WaitersAt r more xs o (thing (added c.cells (suc c.made) cell) k)) (sym (other_type types (suc c.made) k t n))
        (subst (WaitersAt r more xs (types k)) (sym (thing_added c.cells (suc c.made) k cell n)) (old_waiters (types k) (thing c.cells k) (p.waiting k))));
    actors = λ j n. old_actor (thing c.entries j) (thing xs j) (tasks_of j c.tasks) (p.actors j n);
    work = tasks_retyped r types more Any kept_types c.tasks (tasks_any Any any c.tasks) p.work;
    ports = λ q k e. kept_types k _ tt (p.ports q k e);
    main = λ k e. let x = p.main k e in (x.0, kept_types k (FutureType x.0) tt x.1);
    requests = all_exist_retyped r types more Any kept_types c.requests (seen_any Any any c.requests) p.requests;
    numbered = rising_added c.cells 0 c.made cell (omega arith) p.numbered;
    framed = p.framed;
    registered = λ j n. cells_registered j c.entries c.cells (added c.cells (suc c.made) cell) (added_keeps j (suc c.made) c.cells cell none_here) (p.registered j n);
  }
    where
      new_waiters : (o : Option TypeTree) → WaitersAt r more xs o (Some cell)
      new_waiters None = tt
      new_waiters (Some u) = subst (λ ws. AllWaitFor r more xs ws u) (sym no_waiters) tt
