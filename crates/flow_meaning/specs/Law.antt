-- Two kinds of actors whose steps ask alike: what that is, and what it means for whole bursts.
use Rattle.std.specs.Prelude.{◌≡◌, ◌⊎◌, ℕ, ◌<◌, true, List, [], ◌∷◌}
use Rattle.std.specs.declared.option.Option.{Option}
use Rattle.std.specs.declared.option.Option.TheVariants.{None, Some}
use Rattle.flow_value.specs.Values.{ValueTree}
use Rattle.flow_numbered.specs.Numbered.{Numbered, thing}
use Rattle.flow_meaning.specs.Cells.{Side}
use Rattle.flow_meaning.specs.Requests.{Act, Effects, Operand, Waits, Sends, SendsTo, Throws, Ask}
use Rattle.flow_meaning.specs.Process.{Entry, Core, Proc, View, Engine}
use Rattle.flow_meaning.specs.Orderly.{Orderly, UnlessStopped, Phase, Free, Risky, Due, Waiting, phase_of}
use Rattle.flow_meaning.specs.Burst.{Host, Live, Burst}

-- steps that ask for nothing
pub data Quietly {A : Type 0} (e : Engine A) (v : View) : A → A → Type 0 where
  still : {a : A} → Quietly e v a a
  quiet : {a c : A} → (b : A) → e.next v a ≡ (None, b) → Quietly e v b c → Quietly e v a c

-- the phase of an actor when it has asked
abbrev pub phase_after : Act → Phase
phase_after (Effects goal eff) = Due
phase_after (Operand spot r) = Due
phase_after (Waits spot vs) = Waiting
phase_after (Sends k o) = Risky
phase_after (SendsTo q port text) = Risky
phase_after (Throws e) = Risky
phase_after _ = Free

-- at least one of them
abbrev pub Moves : {A : Type 0} → Engine A → View → A → A → Type 0
Moves {A} e v a c = (b : A) × (e.next v a ≡ (None, b)) × Quietly e v b c

-- An ask is answered by quiet steps and then the same ask; a quiet step by quiet steps, at least one, unless the first
-- kind has become lighter.
abbrev pub MatchesAsk : {A B : Type 0} → (Phase → A → B → Type 0) → Engine B → View → (lighter : Type 0) → Option Ask → A → B → Type 0
MatchesAsk R d v lighter None a b = (c : _) × (Moves d v b c ⊎ (Quietly d v b c × lighter)) × R Free a c
MatchesAsk R d v lighter (Some ask) a b = (c : _) × (g : _) × Quietly d v b c × (d.next v c ≡ (Some ask, g)) × R (phase_after ask.act) a g

-- both hand out the same, and are related afterwards
abbrev pub Alike : {X A B : Type 0} → (A → B → Type 0) → X × A → X × B → Type 0
Alike R p q = (p.0 ≡ q.0) × R p.1 q.1

-- both are there and related, or neither is
abbrev pub BothOrNone : {A B : Type 0} → (A → B → Type 0) → Option A → Option B → Type 0
BothOrNone R None None = Unit {0}
BothOrNone R None (Some b) = ⊥
BothOrNone R (Some a) None = ⊥
BothOrNone R (Some a) (Some b) = R a b

-- The second kind does what the first does, between actors that are related by what they asked for last.
pub record Simulates {A B : Type 0} (e : Engine A) (d : Engine B) (R : Phase → A → B → Type 0) : Type 0 where
  pub main : e.main ≡ d.main
  pub label : (k : ℕ) → e.label k ≡ d.label k
  pub fresh : (k : ℕ) (vs : List ValueTree) → BothOrNone (R Free) (e.fresh k vs) (d.fresh k vs)
  -- each phase says more than those before
  pub waits : (a : A) (b : B) → R Waiting a b → R Due a b
  pub dues : (a : A) (b : B) → R Due a b → R Risky a b
  pub risks : (a : A) (b : B) → R Risky a b → R Free a b
  -- what falls with each quiet step of the first kind for which the second stays where it is
  pub weight : A → ℕ
  pub next : (v : View) (a : A) (b : B) → R Free a b → MatchesAsk R d v (weight (e.next v a).1 < weight a) (e.next v a).0 (e.next v a).1 b
  pub lose : (a : A) (b : B) → R Due a b → Alike (R Due) (e.lose a) (d.lose b)
  pub store : (u : ValueTree) (a : A) (b : B) → R Due a b → Alike (R Free) (e.store u a) (d.store u b)
  pub take : (n : ℕ) (u : ValueTree) (a : A) (b : B) → R Due a b → Alike (R Free) (e.take n u a) (d.take n u b)
  pub raise : (err : ℕ) (a : A) (b : B) → R Risky a b → Alike (R Free) (e.raise err a) (d.raise err b)
  pub occ : (s : Side) (k : ℕ) (a : A) (b : B) → R Free a b → e.occ s k a ≡ d.occ s k b

-- the same numbers, and related actors at each
abbrev pub AllRelated : {A B : Type 0} → (A → B → Type 0) → Numbered A → Numbered B → Type 0
AllRelated R [] [] = Unit {0}
AllRelated R [] (y ∷ ys) = ⊥
AllRelated R (x ∷ xs) [] = ⊥
AllRelated R (x ∷ xs) (y ∷ ys) = (x.0 ≡ y.0) × R x.1 y.1 × AllRelated R xs ys

-- All actors are related, and the one at each number by its phase.
pub record Related {A B : Type 0} (R : Phase → A → B → Type 0) (c : Core) (xs : Numbered A) (ys : Numbered B) : Type 0 where
  pub all : AllRelated (R Free) xs ys
  pub phases : (i : ℕ) → BothOrNone (R (phase_of c i)) (thing xs i) (thing ys i)

-- Equal cores, and, unless the event was stopped, in order and with related actors.
abbrev pub SameProc : {A B : Type 0} → (Phase → A → B → Type 0) → Proc A → Proc B → Type 0
SameProc R p q = (p.core ≡ q.core) × UnlessStopped p.core.halted (Orderly p.core × Related R p.core p.actors q.actors)

-- the same processes in the same worlds
abbrev pub Same : {W A B : Type 0} → (Phase → A → B → Type 0) → Live W A → Live W B → Type 0
Same R s t = SameProc R s.proc t.proc × (s.out ≡ t.out)

-- from such states each burst of the first kind has a burst of the second to such a state
abbrev pub BurstsFollow : {W A B : Type 0} → Engine A → Engine B → Host W → (Phase → A → B → Type 0) → Type 0
BurstsFollow {W} {A} {B} e d h R =
    (s t : Live W A) (u : Live W B) → Same R s u → Burst e h s t → (v : Live W B) × Burst d h u v × Same R t v

-- and each burst of the second kind one of the first
abbrev pub BurstsReturn : {W A B : Type 0} → Engine A → Engine B → Host W → (Phase → A → B → Type 0) → Type 0
BurstsReturn {W} {A} {B} e d h R =
    (s : Live W A) (u v : Live W B) → Same R s u → Burst d h u v → (t : Live W A) × Burst e h s t × Same R t v

-- a burst comes to one end
abbrev pub BurstsOnce : {W A : Type 0} → Engine A → Host W → Type 0
BurstsOnce {W} {A} e h = (s t u : Live W A) → Burst e h s t → Burst e h s u → t ≡ u

-- a burst from an orderly core comes to a stopped core or to an orderly one, at which every unfinished actor is suspended
pub record AtRest (c : Core) : Type 0 where
  pub orderly : Orderly c
  pub no_tasks : c.tasks ≡ []
  pub suspended : (i : ℕ) (e : Entry) → thing c.entries i ≡ Some e → e.suspended ≡ true

abbrev pub KeepsOrder : {W A : Type 0} → Engine A → Host W → Type 0
KeepsOrder {W} {A} e h = (s t : Live W A) → Orderly s.proc.core → Burst e h s t → UnlessStopped t.proc.core.halted (AtRest t.proc.core)
