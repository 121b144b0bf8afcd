-- What the text of a class says beside the rules: the grammar of class text has no other.
use Rattle.std.specs.Prelude.{◌≡◌, ◌<◌, ◌^◌, ℕ, List, length, slice_get}
use Rattle.std.specs.declared.option.Option.TheVariants.{Some}
use Rattle.flow_tree.specs.Decls.{RoutineTree}
use Rattle.flow_ast.specs.Fits.{FunctionsFit}
use Rattle.flow_class.specs.Classes.{InstrTree, SetInstr, EffectInstr, ActInstr, ClassTree, RawTree}
use Rattle.flow_class.specs.Code.{Body, Nothing, fetch}
use Rattle.flow_valid.specs.Heads.{all_decls}
use Rattle.flow_meaning.specs.Source.{actors_in}
use Rattle.flow_typing_laws.specs.ControlFlow.Laws.{HasSimpleParts}
use Rattle.flow_tree.specs.Formed.{IsPath}
use Rattle.flow_typing_laws.specs.Typing.Paths.{HasPaths}

-- a path that is written begins with a name
abbrev pub HasPath : InstrTree → Type 0
HasPath (SetInstr path e) = IsPath path
HasPath (EffectInstr path e) = IsPath path
HasPath (ActInstr path es) = IsPath path
HasPath _ = Unit {0}

-- a class has a block, the numbers of its places can be written, and its paths are no empty ones
pub record IsWritten (c : ClassTree) : Type 0 where
  pub begins : fetch c 0 0 ≡ Nothing → ⊥
  pub slots : length c.slots < 2 ^ 64
  pub locals : length c.locals < 2 ^ 64
  pub paths : (b n : ℕ) (i : InstrTree) → fetch c b n ≡ Body i → HasPath i

abbrev pub AreWritten : RawTree → Type 0
AreWritten r = (k : ℕ) (c : ClassTree) → slice_get r.classes k ≡ Some c → IsWritten c

-- so the functions are written: each `for` has simple parts, and no path is empty
abbrev pub HasBody : RoutineTree → Type 0
HasBody f = HasSimpleParts f.body × HasPaths f.body

abbrev pub FunctionsWritten : RawTree → Type 0
FunctionsWritten r = (k : ℕ) (f : RoutineTree) → slice_get r.functions k ≡ Some f → HasBody f

-- the heads of the actors that the classes are called as
abbrev pub heads : RawTree → List RoutineTree
heads r = actors_in (all_decls r)

-- the functions are well typed
abbrev pub FunctionsKept : RawTree → Type 0
FunctionsKept r = FunctionsFit r.records r.functions (heads r)
