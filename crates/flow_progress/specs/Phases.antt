-- What is known of actors by what they asked for last, and what it means that each step keeps it.
use Rattle.std.specs.Prelude.{◌≡◌, ℕ, List}
use Rattle.std.specs.List.{AllByRecursion}
use Rattle.std.specs.declared.option.Option.{Option}
use Rattle.std.specs.declared.option.Option.TheVariants.{None, Some}
use Rattle.flow_value.specs.Values.{ValueTree}
use Rattle.flow_numbered.specs.Numbered.{Numbered, thing}
use Rattle.flow_meaning.specs.Requests.{Ask}
use Rattle.flow_meaning.specs.Process.{Core, View, Engine}
use Rattle.flow_meaning.specs.Orderly.{Phase, Free, Risky, Due, Waiting, phase_of}
use Rattle.flow_meaning.specs.Law.{phase_after}

-- what is known of an actor after its step
abbrev pub KnownAfter : {A : Type 0} → (Phase → A → Type 0) → Option Ask × A → Type 0
KnownAfter known (None, a) = known Free a
KnownAfter known (Some ask, a) = known (phase_after ask.act) a

-- Each phase says at least what the ones before it say; and an actor that starts, that takes a step, or that is
-- handed what it asked for, is known again.
pub record KeepsPhases {A : Type 0} (e : Engine A) (known : Phase → A → Type 0) : Type 0 where
  pub fresh : (k : ℕ) (vs : List ValueTree) (a : A) → e.fresh k vs ≡ Some a → known Free a
  pub waits : (a : A) → known Waiting a → known Due a
  pub dues : (a : A) → known Due a → known Risky a
  pub risks : (a : A) → known Risky a → known Free a
  pub next : (v : View) (a : A) → known Free a → KnownAfter known (e.next v a)
  pub lose : (a : A) → known Due a → known Due (e.lose a).1
  pub store : (u : ValueTree) (a : A) → known Due a → known Free (e.store u a).1
  pub take : (n : ℕ) (u : ValueTree) (a : A) → known Due a → known Free (e.take n u a).1
  pub raise : (err : ℕ) (a : A) → known Risky a → known Free (e.raise err a).1

-- each actor of a process is known by its phase
pub record Placed {A : Type 0} (known : Phase → A → Type 0) (c : Core) (xs : Numbered A) : Type 0 where
  pub all : AllByRecursion (λ (x : ℕ × A). known Free x.1) xs
  pub phases : (i : ℕ) (a : A) → thing xs i ≡ Some a → known (phase_of c i) a
