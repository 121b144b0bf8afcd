-- Nobody else refers to the promise side of what a process made a cell for.
use Rattle.std.proofs.Common.{◌≡◌, ◌⊎◌, inl, inr, ℕ, suc, ◌<◌, ◌≤◌, nat_eq, Bool, true, false, List, ◌∷◌, refl, ap, arith}
use Rattle.std.proofs.lemmas.Bool.Decides.{nat_tests}
use Rattle.std.specs.Prelude.{◌&&◌, not, nat_lt}
use Rattle.std.specs.declared.option.Option.{Option}
use Rattle.std.specs.declared.option.Option.TheVariants.{None, Some}
use Rattle.flow_value.specs.declared.value.Kind.{Kind}
use Rattle.flow_class.specs.Classes.{RawTree}
use Rattle.flow_numbered.specs.Numbered.{Numbered, thing, put}
use Rattle.flow_meaning.specs.Cells.{PromiseSide, side_of, Cell}
use Rattle.flow_meaning.specs.Requests.{Act, Effects, Make, Start, Draw, Delay, Never, Listen, Disk, Goal, Stored, Kept, Ask, Supply}
use Rattle.flow_meaning.specs.Process.{Task, Run, Halt, Core}
use Rattle.flow_meaning.specs.References.{same_side}
use Rattle.flow_meaning.specs.Effects.{gives_new, empty_cell}
use Rattle.flow_meaning.specs.Step.{proc, Stepped, view, answer, run_next, run, step_tasks, step_if}
use Rattle.flow_meaning.specs.Class.{classes}
use Rattle.flow_meaning.specs.Frame.{Frame}
use Rattle.flow_meaning.proofs.Posture.{unless_map}
use Rattle.flow_heap_refinement.specs.Naming.{HoldsNext, ActMakes, AskMakes, FrameMakes, TaskMakes}
use Rattle.flow_heap_refinement.specs.Alone.{spares, owners_of, Alone}
use Rattle.flow_heap_refinement.specs.Lonely as law
use Rattle.flow_heap_refinement.specs.Lonely.{OwnedAlone}
use Rattle.flow_heap_refinement.proofs.Alone.{stays_alone, futures_spared}
use Rattle.flow_heap_refinement.proofs.NamingSteps.{steps_named}
use Rattle.flow_heap_refinement.proofs.TidySteps.{owners_stay}

-- the next cell is another
other_spared : (k n : ℕ) → suc n < k → HoldsNext (spares k) n
other_spared k n l kd = other (nat_eq k (suc n)) refl
  where
    other : (b : Bool) → nat_eq k (suc n) ≡ b → spares k kd (suc n) ≡ true
    other true e = let same : k ≡ suc n = grind (arith, nat_tests) in absurd (omega (arith, same, l))
    other false e = by_side (same_side PromiseSide (side_of kd))
      where
        by_side : (b : Bool) → not (b && nat_eq k (suc n)) ≡ true
        by_side true = ap not e
        by_side false = refl

-- what a step makes is made for something, or it isn't this cell
module _ (k : ℕ) where
  abbrev Asked : Core → Type 0
  Asked c = (0 < owners_of k c) ⊎ (c.made < k)

  made_for : (i : ℕ) (goal : Goal) (kd : Kind) (cell : Cell) (c : Core) → owners_of k c ≡ 0 → Asked (gives_new i goal kd cell c) → suc c.made < k
  made_for i Stored kd cell c none (inl l) = absurd (omega (arith, none, l))
  made_for i (Kept spot) kd cell c none (inl l) = absurd (omega (arith, none, l))
  made_for i Stored kd cell c none (inr l) = l
  made_for i (Kept spot) kd cell c none (inr l) = l

  module _ (r : RawTree) where
    act_born : (s : Supply) (i : ℕ) (act : Act) (c : Core) (xs : Numbered Frame) → owners_of k c ≡ 0 → Asked (answer (classes r) s i act (proc c xs)).0.core → ActMakes (spares k) c.made act
    act_born s i (Effects goal (Make kd)) c xs none h = other_spared k c.made (made_for i goal kd (empty_cell kd) c none h) kd
    act_born s i (Effects goal (Start class args)) c xs none h = refl
    act_born s i (Effects goal (Draw lo hi)) c xs none h = tt
    act_born s i (Effects goal (Delay ticks)) c xs none h = refl
    act_born s i (Effects goal Never) c xs none h = refl
    act_born s i (Effects goal (Listen port)) c xs none h = refl
    act_born s i (Effects goal (Disk call)) c xs none h = refl
    act_born s i act c xs none h = tt

    ask_born : (s : Supply) (i : ℕ) (ts : List Task) (x : Option Ask × Frame) (c : Core) (xs : Numbered Frame) → owners_of k c ≡ 0 → Asked (run_next (classes r) s i ts x (proc c xs)).0.core
        → AskMakes (spares k) c.made x.0
    ask_born s i ts (None, f) c xs none h = tt
    ask_born s i ts (Some ask, f) c xs none h = act_born s i ask.act (record c { tasks = ts; left = ask.left }) (put xs i f) none h

    frame_born : (s : Supply) (i : ℕ) (ts : List Task) (x : Option Frame) (c : Core) (xs : Numbered Frame) → owners_of k c ≡ 0 → Asked (run (classes r) s i ts x (proc c xs)).0.core
        → FrameMakes (spares k) r s i c x
    frame_born s i ts None c xs none h = tt
    frame_born s i ts (Some f) c xs none h = ask_born s i ts ((classes r).next (view s i c) f) c xs none h

    abbrev MaybeAsked : Option (Stepped Frame) → Type 0
    MaybeAsked None = Unit {0}
    MaybeAsked (Some t) = Asked t.0.core

    task_born : (s : Supply) (ts : List Task) (c : Core) (xs : Numbered Frame) → owners_of k c ≡ 0 → MaybeAsked (step_tasks (classes r) s ts (proc c xs)) → TaskMakes (spares k) r s c xs ts
    task_born s (Run i ∷ ts) c xs none h = frame_born s i ts (thing xs i) c xs none h
    task_born s _ c xs none h = tt

    step_born : (s : Supply) (x : Option Halt) (c : Core) (xs : Numbered Frame) (t : Stepped Frame) → owners_of k c ≡ 0 → step_if (classes r) s x (proc c xs) ≡ Some t → Asked t.0.core
        → TaskMakes (spares k) r s c xs c.tasks
    step_born s (Some x) c xs t none e h = absurd (cc)
    step_born s None c xs t none e h = task_born s c.tasks c xs none (rw e h)

pub steps_lonely : law.StepsLonely
steps_lonely r s p q o t h e = unless_map q.0.core.halted all (owners_stay r s p q o t e)
  where
    all : (p.core.made ≤ q.0.core.made) × ((k : ℕ) → k < suc p.core.made → owners_of k q.0.core ≤ owners_of k p.core) → OwnedAlone q.0
    all st k asked = by_age (nat_lt p.core.made k) refl asked
      where
        by_age : (b : Bool) → nat_lt p.core.made k ≡ b → (0 < owners_of k q.0.core) ⊎ (q.0.core.made < k) → Alone k q.0
        by_age true f a =
            let l : p.core.made < k = grind (arith, nat_tests) in
            steps_named r (spares k) s p q (futures_spared k) (step_born k r s p.core.halted p.core p.actors q ((t.once k).1 l) e a) (h k (inr l)) e
        by_age false f (inl a) =
            let l : k < suc p.core.made = grind (arith, nat_tests) in
            let less = st.1 k l in stays_alone r k s p q l (h k (inl (omega (arith, a, less)))) e
        by_age false f (inr a) =
            let l : k < suc p.core.made = grind (arith, nat_tests) in
            let more = st.0 in absurd (omega (arith, a, l, more))

pub idle_lonely : law.IdleLonely
idle_lonely k h = ((tt, tt, tt), tt)

pub vanished_lonely : law.VanishedLonely
vanished_lonely p k h = ((tt, tt, tt), tt)
