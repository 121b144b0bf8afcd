-- What is said of the instructions of a class, of its blocks and groups, without regard to what there is in the class: expressions can
-- be written, paths can be spelled, no drop list is empty, and a group has a callback at least and 64 at most.
use Rattle.std.proofs.Common.{◌≡◌, ◌≤◌, ℕ, List, [], ◌∷◌, length, None}
use Rattle.std.specs.List.{AllByRecursion}
use Rattle.std.specs.declared.option.Option.TheVariants.{Some, None}
use Rattle.flow_tree.specs.declared.limits.TheConstants.{BRANCHES}
use Rattle.flow_tree.specs.declared.token.Token.TheVariants as token
use Rattle.flow_tree.specs.declared.ty.Ident.{Ident}
use Rattle.flow_ast.specs.TypingNames.{named, constant_names}
use Rattle.flow_class.specs.Classes.{InstrTree, SetInstr, EffectInstr, NewInstr, ActInstr, DropInstr, LastTree, GotoLast, PassLast, TestLast, ChooseLast, ReturnLast, ThrowLast, BlockTree, CallbackTree}
use Rattle.flow_classprint.specs.ClassGrammar.{IsSpelled}
use Rattle.flow_class_text_laws.proofs.Writable.{ExprWritable, ArgsWritable}
use Rattle.flow_class_text_laws.proofs.Bodies.{PathSaid}
use Rattle.flow_class_text_laws.proofs.Changes.{Reached}

-- the first name of a path is no constant
abbrev pub RootSaid : List Ident → Type 0
RootSaid [] = Unit {0}
RootSaid (x ∷ xs) = named constant_names x.name ≡ None

abbrev pub TargetSaid : List Ident → Type 0
TargetSaid xs = PathSaid xs × RootSaid xs

abbrev pub CalledSaid : List Ident → Type 0
CalledSaid [] = ⊥
CalledSaid (f ∷ []) = IsSpelled (token.Name f.name)
CalledSaid (x ∷ (y ∷ ys)) = TargetSaid (x ∷ (y ∷ ys))

-- a list of locals that is dropped
abbrev pub DropsSaid : List ℕ → Type 0
DropsSaid [] = ⊥
DropsSaid (n ∷ ns) = Unit {0}

-- the value of a change is as deep as its path is long
abbrev pub InstrSaid : InstrTree → Type 0
InstrSaid (SetInstr xs e) = TargetSaid xs × (Reached xs → ExprWritable e)
InstrSaid (EffectInstr xs e) = TargetSaid xs × (Reached xs → ExprWritable e)
InstrSaid (NewInstr p) = Unit {0}
InstrSaid (ActInstr xs es) = CalledSaid xs × ArgsWritable es
InstrSaid (DropInstr ns) = DropsSaid ns

abbrev pub LastSaid : LastTree → Type 0
LastSaid (GotoLast b) = Unit {0}
LastSaid (PassLast b) = Unit {0}
LastSaid (TestLast e y n) = ExprWritable e
LastSaid (ChooseLast g) = Unit {0}
LastSaid (ReturnLast None) = Unit {0}
LastSaid (ReturnLast (Some e)) = ExprWritable e
LastSaid (ThrowLast e) = ExprWritable e

abbrev pub InstrsSaid : List InstrTree → Type 0
InstrsSaid is = AllByRecursion InstrSaid is

abbrev pub BlockSaid : BlockTree → Type 0
BlockSaid b = InstrsSaid b.body × LastSaid b.last

abbrev pub CallbackSaid : CallbackTree → Type 0
CallbackSaid c = ExprWritable c.operand

abbrev pub GroupSaid : List CallbackTree → Type 0
GroupSaid [] = ⊥
GroupSaid (c ∷ cs) = (length (c ∷ cs) ≤ BRANCHES) × AllByRecursion CallbackSaid (c ∷ cs)
