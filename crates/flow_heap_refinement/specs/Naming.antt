-- A rule on references, kept by all that a process holds.
use Rattle.std.specs.Prelude.{◌≡◌, ℕ, suc, true, List, [], ◌∷◌}
use Rattle.std.specs.declared.option.Option.{Option}
use Rattle.std.specs.declared.option.Option.TheVariants.{None, Some}
use Rattle.flow_value.specs.declared.value.Kind.{Kind}
use Rattle.flow_value.specs.declared.value.Kind.TheVariants as kind
use Rattle.flow_value.specs.Values.{ValueTree, OutcomeTree, GoodOutcome, BadOutcome, AllListed}
use Rattle.flow_class.specs.Classes.{RawTree}
use Rattle.flow_heap_refinement.specs.Evaluation.{Rule, GivesFutures, RefNamed, Named, AllNamed, MaybeNamed}
use Rattle.flow_numbered.specs.Numbered.{Numbered, thing}
use Rattle.flow_meaning.specs.Cells.{Ref, Cell, Single, Stream}
use Rattle.flow_meaning.specs.Requests.{Act, Effects, Effect, Make, Start, Draw, Delay, Never, Listen, Disk, Ask, Supply}
use Rattle.flow_meaning.specs.Process.{Task, Run, Give, Throw, Catch, Store, Keep, Close, Fire, Drop, Entry, Core, Proc}
use Rattle.flow_meaning.specs.Step.{Stepped, view, step}
use Rattle.flow_meaning.specs.Deliver.{deliver, arrive, boot, stop}
use Rattle.flow_meaning.specs.Frame.{Memory, Frame}
use Rattle.flow_meaning.specs.Class.{classes}

-- so it is with each thing
abbrev pub Each : {A : Type 0} → (A → Type 0) → Numbered A → Type 0
Each P [] = Unit {0}
Each P (x ∷ xs) = P x.1 × Each P xs

module _ (p : Rule) where
  abbrev pub OutcomeNamed : OutcomeTree → Type 0
  OutcomeNamed (GoodOutcome v) = Named p v
  OutcomeNamed (BadOutcome e) = Unit {0}

  abbrev pub ContentNamed : Option OutcomeTree → Type 0
  ContentNamed None = Unit {0}
  ContentNamed (Some o) = OutcomeNamed o

  abbrev pub RefsNamed : List Ref → Type 0
  RefsNamed = AllListed (RefNamed p)

  -- what stands in cells, what actors keep, what tasks hold
  abbrev pub CellNamed : Cell → Type 0
  CellNamed (Single content ws) = ContentNamed content
  CellNamed (Stream queue end w) = AllNamed p queue

  abbrev pub CellsNamed : Numbered Cell → Type 0
  CellsNamed = Each CellNamed

  abbrev pub EntriesNamed : Numbered Entry → Type 0
  EntriesNamed = Each (λ e. RefsNamed e.operands)

  abbrev pub TaskNamed : Task → Type 0
  TaskNamed (Run i) = Unit {0}
  TaskNamed (Give i b o) = OutcomeNamed o
  TaskNamed (Throw i e) = Unit {0}
  TaskNamed (Catch i e) = Unit {0}
  TaskNamed (Store i v) = Named p v
  TaskNamed (Keep i spot r) = RefNamed p r
  TaskNamed (Close i o) = OutcomeNamed o
  TaskNamed (Fire k) = Unit {0}
  TaskNamed (Drop kd k) = p kd k ≡ true

  abbrev pub TasksNamed : List Task → Type 0
  TasksNamed [] = Unit {0}
  TasksNamed (t ∷ ts) = TaskNamed t × TasksNamed ts

  abbrev pub CoreNamed : Core → Type 0
  CoreNamed c = CellsNamed c.cells × EntriesNamed c.entries × TasksNamed c.tasks

  -- what stands in frames
  abbrev pub PlacesNamed : List (Option ValueTree) → Type 0
  PlacesNamed [] = Unit {0}
  PlacesNamed (o ∷ os) = MaybeNamed p o × PlacesNamed os

  pub record MemoryNamed (m : Memory) : Type 0 where
    pub slots : PlacesNamed m.slots
    pub locals : PlacesNamed m.locals

  abbrev pub FramesNamed : Numbered Frame → Type 0
  FramesNamed = Each (λ f. MemoryNamed f.mem)

  abbrev pub ProcNamed : Proc Frame → Type 0
  ProcNamed q = CoreNamed q.core × FramesNamed q.actors

-- Of the reference to a cell that an effect makes the rule holds; n cells were made before.
abbrev pub HoldsNew : Rule → ℕ → Effect → Type 0
HoldsNew p n (Make k) = p k (suc n) ≡ true
HoldsNew p n (Start class args) = p kind.Future (suc n) ≡ true
HoldsNew p n (Draw lo hi) = Unit {0}
HoldsNew p n (Delay ticks) = p kind.Future (suc n) ≡ true
HoldsNew p n Never = p kind.Future (suc n) ≡ true
HoldsNew p n (Listen port) = p kind.FutureStream (suc n) ≡ true
HoldsNew p n (Disk call) = p kind.Future (suc n) ≡ true

abbrev pub ActMakes : Rule → ℕ → Act → Type 0
ActMakes p n (Effects goal eff) = HoldsNew p n eff
ActMakes p n _ = Unit {0}

abbrev pub AskMakes : Rule → ℕ → Option Ask → Type 0
AskMakes p n None = Unit {0}
AskMakes p n (Some q) = ActMakes p n q.act

abbrev pub FrameMakes : Rule → RawTree → Supply → ℕ → Core → Option Frame → Type 0
FrameMakes p r s i c None = Unit {0}
FrameMakes p r s i c (Some f) = AskMakes p c.made ((classes r).next (view s i c) f).0

abbrev pub TaskMakes : Rule → RawTree → Supply → Core → Numbered Frame → List Task → Type 0
TaskMakes p r s c xs (Run i ∷ ts) = FrameMakes p r s i c (thing xs i)
TaskMakes p r s c xs _ = Unit {0}

-- so it is with what the next step makes
abbrev pub Makes : RawTree → Rule → Supply → Proc Frame → Type 0
Makes r p s q = TaskMakes p r s q.core q.actors q.core.tasks

-- No reference comes from nowhere: what holds of all references, and of the one to the cell that a step makes, holds of all
-- after the step.
abbrev pub StepsNamed : Type 0
StepsNamed =
    (r : RawTree) (p : Rule) (s : Supply) (q : Proc Frame) (t : Stepped Frame) → GivesFutures p
    → Makes r p s q → ProcNamed p q → step (classes r) s q ≡ Some t → ProcNamed p t.0

-- It is so where the rule holds of each kind of reference to the next cell.
abbrev pub HoldsNext : Rule → ℕ → Type 0
HoldsNext p n = (kd : Kind) → p kd (suc n) ≡ true

abbrev pub AnyMade : Type 0
AnyMade = (r : RawTree) (p : Rule) (s : Supply) (q : Proc Frame) → HoldsNext p q.core.made → Makes r p s q

-- So it is with what is brought to a process.
abbrev pub DeliveriesNamed : Type 0
DeliveriesNamed =
    (p : Rule) (k : ℕ) (o : OutcomeTree) (c : Core) → p kind.Promise k ≡ true → OutcomeNamed p o
    → CoreNamed p c → CoreNamed p (deliver k o c)

abbrev pub ArrivalsNamed : Type 0
ArrivalsNamed =
    (p : Rule) (k : ℕ) (v : ValueTree) (c : Core) → Named p v → CoreNamed p c
    → CoreNamed p (arrive k v c)

abbrev pub BootsNamed : Type 0
BootsNamed =
    (r : RawTree) (p : Rule) (me : ℕ) (q : Proc Frame) → ProcNamed p q
    → ProcNamed p (boot (classes r) me q)

abbrev pub StopsNamed : Type 0
StopsNamed =
    (p : Rule) (c : Core) → ((k : ℕ) → c.main ≡ Some k → p kind.Future k ≡ true) → CoreNamed p c
    → CoreNamed p (stop c)
