-- Where a frame stands: what every walk to here fills is filled.
use Rattle.std.specs.Prelude.{◌≡◌, ℕ, Bool, false, List}
use Rattle.std.specs.declared.option.Option.TheVariants.{None, Some}
use Rattle.flow_tree.specs.Tree.{TypeTree}
use Rattle.flow_tree.specs.Decls.{RecordTree}
use Rattle.flow_class.specs.declared.class.Slotted.{Slotted}
use Rattle.flow_class.specs.declared.class.Slotted.TheVariants.{Slot, Local}
use Rattle.flow_class.specs.Classes.{ChooseLast, ClassTree}
use Rattle.flow_class.specs.Code.{Last, Nothing, fetch, type_at}
use Rattle.flow_valid.specs.Filling.{Comes}
use Rattle.flow_meaning.specs.Frame.{Memory, Frame, read}
use Rattle.flow_progress.specs.Places.{Filled, HoldsTypes}

-- some walk comes here
abbrev pub Reached : ClassTree → (block instr : ℕ) → Type 0
Reached c b n = (q : Slotted) → (filled : Bool) × Comes c q b n filled

-- what no walk leaves empty holds a value
abbrev pub FullAt : ClassTree → Memory → (block instr : ℕ) → Type 0
FullAt c m b n = (q : Slotted) (t : TypeTree) → type_at c q ≡ Some t → (Comes c q b n false → ⊥) → Filled m q

-- A frame that goes on stands at an instruction that some walk reaches.
pub record Stands (rs : List RecordTree) (typed : ℕ → TypeTree → Type 0) (f : Frame) : Type 0 where
  pub there : fetch f.code f.block f.instr ≡ Nothing → ⊥
  pub reached : Reached f.code f.block f.instr
  pub full : FullAt f.code f.mem f.block f.instr
  pub holds : HoldsTypes rs typed f.code f.mem

-- A frame that waits, or that leaves its wait, stands at a `choose` and has lost its locals.
pub record StandsWaiting (rs : List RecordTree) (typed : ℕ → TypeTree → Type 0) (f : Frame) : Type 0 where
  pub group : ℕ
  pub there : fetch f.code f.block f.instr ≡ Last (ChooseLast group)
  pub reached : Reached f.code f.block f.instr
  pub full : (n : ℕ) (t : TypeTree) → type_at f.code (Slot n) ≡ Some t → (Comes f.code (Slot n) f.block f.instr false → ⊥)
      → Filled f.mem (Slot n)
  pub lost : (n : ℕ) → read f.mem (Local n) ≡ None
  pub holds : HoldsTypes rs typed f.code f.mem
