-- An actor that was cancelled throws at each of its waits.
use Rattle.std.specs.Prelude.{◌≡◌, ℕ, true, List, [], ◌∷◌, ◌++◌}
use Rattle.std.specs.declared.option.Option.TheVariants.{None, Some}
use Rattle.flow_base.specs.ErrorNumbers.{operation_cancelled}
use Rattle.flow_numbered.specs.Numbered.{thing}
use Rattle.flow_meaning.specs.Cells.{Ref}
use Rattle.flow_meaning.specs.Requests.{Spot, Supply}
use Rattle.flow_meaning.specs.Lines.{throw_line}
use Rattle.flow_meaning.specs.Process.{Task, Run, Throw, Keep, Entry, Proc, Engine}
use Rattle.flow_meaning.specs.Work.{drops}
use Rattle.flow_meaning.specs.Step.{silent, step}

module _ {A : Type 0} (e : Engine A) (p : Proc A) where
  -- The newest task is one of an actor that is there, and the event isn't stopped.
  pub record NextOf (i : ℕ) (t : Task) (rest : List Task) : Type 0 where
    pub going : p.core.halted ≡ None
    pub tasks : p.core.tasks ≡ t ∷ rest
    pub entry : Entry
    pub entered : thing p.core.entries i ≡ Some entry
    pub actor : A
    pub acting : thing p.actors i ≡ Some actor

  -- An actor that was cancelled has got the value of an operand of its wait, its first one. The next step keeps it; then the
  -- actor leaves the wait: it waits for nothing, what it held is to be dropped, and then `operation_cancelled` is to be thrown.
  -- No line tells that a branch was taken, and no turn is spent.
  pub record Throws (s : Supply) (i : ℕ) (kept : List Ref) (rest : List Task) : Type 0 where
    pub after : Proc A
    pub steps : step e s p ≡ Some (silent after)
    pub held : List Ref
    pub tasks : after.core.tasks ≡ drops kept (drops held (Throw i operation_cancelled ∷ rest))
    pub lines : after.core.lines ≡ p.core.lines
    pub turns : after.core.left ≡ p.core.left

  abbrev pub CancelledThrows : Type 0
  CancelledThrows =
      (s : Supply) (i : ℕ) (spot : Spot) (r : Ref) (rest : List Task) → (n : NextOf i (Keep i spot r) (Run i ∷ rest))
      → n.entry.marked ≡ true → Throws s i (n.entry.operands ++ r ∷ []) rest

  -- and the step that throws an error writes its line
  pub record Tells (s : Supply) (i error : ℕ) : Type 0 where
    pub after : Proc A
    pub steps : step e s p ≡ Some (silent after)
    pub lines : after.core.lines ≡ p.core.lines ++ throw_line i error ∷ []

  abbrev pub ThrowTells : Type 0
  ThrowTells = (s : Supply) (i error : ℕ) (rest : List Task) → NextOf i (Throw i error) rest → Tells s i error
