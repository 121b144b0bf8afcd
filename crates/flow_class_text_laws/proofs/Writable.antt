-- Classes that can be written as class text: what stands in them can be, and their numbers are small.
use Rattle.std.specs.Prelude.{◌≤◌, ℕ, ◌+◌, List, [], ◌∷◌, ◌++◌, length}
use Rattle.std.specs.List.{AllByRecursion}
use Rattle.std.specs.declared.option.Option.{Option}
use Rattle.std.specs.declared.option.Option.TheVariants.{None, Some}
use Rattle.flow_tree.specs.declared.limits.TheConstants.{BRANCHES}
use Rattle.flow_tree.specs.declared.token.Token.TheVariants as token
use Rattle.flow_tree.specs.declared.ty.Ident.{Ident}
use Rattle.flow_tree.specs.Tree.{TypeTree, ExprTree, ExprTrees}
use Rattle.flow_tree.specs.Decls.{SlotTree}
use Rattle.flow_tree.specs.GrammarToken.{Marked}
use Rattle.flow_tree.specs.Grammar.{TypeRule, ExprRule, ArgsRule}
use Rattle.flow_class.specs.declared.class.Slotted.{Slotted}
use Rattle.flow_class.specs.Classes.{CatcherTree, InstrTree, SetInstr, EffectInstr, NewInstr, ActInstr, DropInstr, LastTree, GotoLast, PassLast, TestLast, ChooseLast, ReturnLast, ThrowLast, BlockTree, CallbackTree, ClassTree, RawTree}
use Rattle.flow_classprint.specs.declared.version.Version.TheVariants.{Two}
use Rattle.flow_classprint.specs.ClassGrammar.{IsNumber, IsPlace, AreFree, AllAreFree, VarPathRule, CalleeRule, ResultRule, HeadRecordRule, HeadFunctionRule, IsSpelled}
use Rattle.flow_class_text_laws.proofs.Spelled.{AreTokens}

-- some tokens that can be spelled are derived so
pub record Derived (R : List Marked → Type 0) : Type 0 where
  pub tokens : List Marked
  pub rule : R tokens
  pub are : AreTokens tokens

abbrev pub ExprWritable : ExprTree → Type 0
ExprWritable e = Derived (λ ts. ExprRule 0 1 ts e) × AreFree e

abbrev pub ArgsWritable : ExprTrees → Type 0
ArgsWritable es = Derived (λ ts. ArgsRule 1 ts es) × AllAreFree es

abbrev pub PathWritable : List Ident → Type 0
PathWritable xs = Derived (λ ts. VarPathRule ts xs)

abbrev pub CalleeWritable : List Ident → Type 0
CalleeWritable xs = Derived (λ ts. CalleeRule ts xs)

abbrev pub TypeWritable : TypeTree → Type 0
TypeWritable t = Derived (λ ts. TypeRule 1 ts t)

-- the result of a class, or none
abbrev pub ResultWritable : TypeTree → Type 0
ResultWritable t = Derived (λ ts. ResultRule Two ts t)

abbrev pub AreNumbers : List ℕ → Type 0
AreNumbers ns = AllByRecursion IsNumber ns

-- one or more locals
abbrev pub SomeNumbers : List ℕ → Type 0
SomeNumbers [] = ⊥
SomeNumbers (n ∷ ns) = AreNumbers (n ∷ ns)

abbrev pub InstrWritable : InstrTree → Type 0
InstrWritable (SetInstr xs e) = PathWritable xs × ExprWritable e
InstrWritable (EffectInstr xs e) = PathWritable xs × ExprWritable e
InstrWritable (NewInstr p) = IsPlace p
InstrWritable (ActInstr xs es) = CalleeWritable xs × ArgsWritable es
InstrWritable (DropInstr ns) = SomeNumbers ns

abbrev pub LastWritable : LastTree → Type 0
LastWritable (GotoLast b) = IsNumber b
LastWritable (PassLast b) = IsNumber b
LastWritable (TestLast e y n) = ExprWritable e × IsNumber y × IsNumber n
LastWritable (ChooseLast g) = IsNumber g
LastWritable (ReturnLast None) = Unit {0}
LastWritable (ReturnLast (Some e)) = ExprWritable e
LastWritable (ThrowLast e) = ExprWritable e

abbrev pub IsMaybeNumber : Option ℕ → Type 0
IsMaybeNumber None = Unit {0}
IsMaybeNumber (Some n) = IsNumber n

abbrev pub IsMaybePlace : Option Slotted → Type 0
IsMaybePlace None = Unit {0}
IsMaybePlace (Some p) = IsPlace p

abbrev pub CatchWritable : Option CatcherTree → Type 0
CatchWritable None = Unit {0}
CatchWritable (Some c) = IsNumber c.block × IsMaybeNumber c.error × AreNumbers c.drops

abbrev pub BlockWritable : BlockTree → Type 0
BlockWritable b = CatchWritable b.catcher × AllByRecursion InstrWritable b.body × LastWritable b.last

abbrev pub CallbackWritable : CallbackTree → Type 0
CallbackWritable c = ExprWritable c.operand × IsMaybePlace c.into × IsNumber c.block

-- a wait has a branch at least, and 64 at most
abbrev pub GroupWritable : List CallbackTree → Type 0
GroupWritable [] = ⊥
GroupWritable (c ∷ cs) = (length (c ∷ cs) ≤ BRANCHES) × AllByRecursion CallbackWritable (c ∷ cs)

abbrev pub SlotWritable : SlotTree → Type 0
SlotWritable s = TypeWritable s.ty × IsSpelled (token.Name s.name)

abbrev pub SomeBlocks : List BlockTree → Type 0
SomeBlocks [] = ⊥
SomeBlocks (b ∷ bs) = AllByRecursion BlockWritable (b ∷ bs)

-- things in a list, whose places have small numbers
abbrev pub FewFrom : {A : Type 0} → ℕ → List A → Type 0
FewFrom n [] = Unit {0}
FewFrom n (x ∷ xs) = IsNumber n × FewFrom (n + 1) xs

abbrev pub all_callbacks : List (List CallbackTree) → List CallbackTree
all_callbacks [] = []
all_callbacks (cs ∷ gs) = cs ++ all_callbacks gs

pub record ClassWritable (c : ClassTree) : Type 0 where
  pub name : IsSpelled (token.Name c.name)
  pub returns : ResultWritable c.returns
  pub params : IsNumber c.params
  pub slots : AllByRecursion SlotWritable c.slots
  pub few_slots : FewFrom 0 c.slots
  pub locals : AllByRecursion TypeWritable c.locals
  pub few_locals : FewFrom 0 c.locals
  pub blocks : SomeBlocks c.blocks
  pub few_blocks : FewFrom 0 c.blocks
  pub groups : AllByRecursion GroupWritable c.groups
  pub few_groups : FewFrom 1 c.groups
  pub few_callbacks : FewFrom 0 (all_callbacks c.groups)

pub record IsWritable (raw : RawTree) : Type 0 where
  pub records : AllByRecursion (λ r. Derived (λ ts. HeadRecordRule ts r)) raw.records
  pub functions : AllByRecursion (λ f. Derived (λ ts. HeadFunctionRule Two ts f)) raw.functions
  pub classes : AllByRecursion ClassWritable raw.classes
