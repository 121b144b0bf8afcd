-- The variables of an actor, as a frame has them in its slots and locals.
use Rattle.std.specs.Prelude.{◌≡◌, ◌≢◌, ℕ, ◌<◌, ◌^◌, List, [], ◌∷◌, length}
use Rattle.std.specs.declared.option.Option.{Option}
use Rattle.std.specs.declared.option.Option.TheVariants.{None}
use Rattle.flow_tree.specs.Decls.{SlotTree}
use Rattle.flow_value.specs.Values.{ValueTree}
use Rattle.flow_class.specs.declared.class.Slotted.TheVariants as place
use Rattle.flow_class.specs.Classes.{ClassTree}
use Rattle.flow_class.specs.Scopes.{Local, Mark, Var, all_locals, Scope}
use Rattle.flow_meaning.specs.Variables.{Vars}
use Rattle.flow_meaning.specs.Frame.{Memory, Frame, read}
use Rattle.flow_meaning.specs.Carry.{Pos}

-- the locals in force, with what stands at their numbers
abbrev pub seen : Memory → Scope → List (Local (Option ValueTree))
seen m [] = []
seen m (Mark ∷ s) = Mark ∷ seen m s
seen m (Var x n ∷ s) = Var x (read m (place.Local n)) ∷ seen m s

-- the state variables, with what stands in their slots
abbrev pub slots_seen : List SlotTree → List (Option ValueTree) → List (List ℕ × Option ValueTree)
slots_seen [] os = []
slots_seen (t ∷ ts) [] = []
slots_seen (t ∷ ts) (o ∷ os) = (t.name, o) ∷ slots_seen ts os

abbrev pub vars_of : ClassTree → Memory → Scope → Vars
vars_of c m s = record { states = slots_seen c.slots m.slots; locals = seen m s }

-- numbers that fall strictly, all of them below the first
abbrev pub Falling : (top : ℕ) → List ℕ → Type 0
Falling top [] = Unit {0}
Falling top (n ∷ ns) = (n < top) × Falling n ns

abbrev pub NotIn : ℕ → List ℕ → Type 0
NotIn n [] = Unit {0}
NotIn n (k ∷ ks) = (n ≢ k) × NotIn n ks

-- Few enough slots and locals for their numbers to be written: the decimal digits of a number stand for it below 2^64.
pub record IsNumbered (c : ClassTree) : Type 0 where
  pub slots : length c.slots < 2 ^ 64
  pub locals : length c.locals < 2 ^ 64

-- A memory of a class, with these locals in force: their numbers fall, the newest first, and what isn't in force is empty.
pub record Held (c : ClassTree) (m : Memory) (s : Scope) : Type 0 where
  pub numbered : IsNumbered c
  pub slots : length m.slots ≡ length c.slots
  pub locals : length m.locals ≡ length c.locals
  pub falling : Falling (length c.locals) (all_locals s)
  pub empty : (n : ℕ) → NotIn n (all_locals s) → read m (place.Local n) ≡ None

-- a frame at a position, with its state number
abbrev pub frame_at : ClassTree → Memory → Pos → (state : ℕ) → Frame
frame_at c m p n = record { code = c; mem = m; block = p.block; instr = p.instr; state = n }
