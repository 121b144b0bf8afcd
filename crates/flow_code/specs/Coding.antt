-- What class text is coded to: each name by what it stands for, each local by its place in the frame.
use Rattle.std.specs.Prelude.{ℕ, suc, ◌+◌, Bool, true, false, List, [], ◌∷◌, map, length, replicate, slice_set, if◌then◌else◌}
use Rattle.std.specs.Option.{option_map, option_and_then}
use Rattle.std.specs.declared.option.Option.{Option}
use Rattle.std.specs.declared.option.Option.TheVariants.{None, Some}
use Rattle.flow_value.specs.declared.value.Kind.TheVariants as kind
use Rattle.flow_tree.specs.declared.ty.Ident.{Ident}
use Rattle.flow_tree.specs.Tree.{TypeTree, PromiseType, PromiseStreamType, VectorType, ExprTree, CallExpr, returned_expr}
use Rattle.flow_ast.specs.declared.predefined.Predefined.{Predefined}
use Rattle.flow_ast.specs.declared.predefined.Predefined.TheVariants.{RandomInt, Delay, Never, Listen, ReadFile, WriteFile, SyncFile, FileSize}
use Rattle.flow_ast.specs.declared.predefined.Method.{Method}
use Rattle.flow_ast.specs.TypingNames.{named, call_names, method_names}
use Rattle.flow_class.specs.declared.class.Slotted.{Slotted}
use Rattle.flow_class.specs.Classes.{CatcherTree, InstrTree, SetInstr, EffectInstr, NewInstr, ActInstr, DropInstr, LastTree, GotoLast, PassLast, TestLast, ChooseLast, ReturnLast, ThrowLast, BlockTree, CallbackTree, ClassTree}
use Rattle.flow_class.specs.Code.{type_at}
use Rattle.flow_code.specs.Resolved.Tree.{Node, Nodes, EmptyNode}
use Rattle.flow_code.specs.Resolved.Resolving.{Naming, resolved, resolved_all}
use Rattle.flow_code.specs.declared.class.Effect.{Effect}
use Rattle.flow_code.specs.declared.class.Effect.TheVariants as effect
use Rattle.flow_code.specs.declared.class.Act.{Act}
use Rattle.flow_code.specs.declared.class.Act.TheVariants as act
use Rattle.flow_code.specs.Places.{place_of}
use Rattle.flow_code.specs.Classes.{AimTree, InstructionTree, SetCode, EffectCode, NewCode, ActCode, MethodCode, DropCode, NoCode, EndTree, GotoEnd, PassEnd, TestEnd, ChooseEnd, ReturnEnd, ThrowEnd, BlockCode, OperandTree, ValueOperand, EffectOperand, BranchCode, GroupCode, ClassCode}

-- what a class is coded by: what names stand for, its own places among them, the place of the class of a name, and how
-- many slots it has
pub record Coding : Type 0 where
  pub names : Naming
  pub class : List ℕ → Option ℕ
  pub slots : ℕ

-- whether a predefined call has an effect and gives a value
abbrev pub is_effect : Predefined → Bool
is_effect RandomInt = true
is_effect Delay = true
is_effect Never = true
is_effect Listen = true
is_effect ReadFile = true
is_effect WriteFile = true
is_effect SyncFile = true
is_effect FileSize = true
is_effect _ = false

-- the numbers of the names of fields, where all are names of fields
abbrev pub one_more : Option ℕ → Option (List ℕ) → Option (List ℕ)
one_more None fs = None
one_more (Some f) fs = option_map (λ gs. f ∷ gs) fs

abbrev pub fields_of : (List ℕ → Option ℕ) → List Ident → Option (List ℕ)
fields_of field [] = Some []
fields_of field (x ∷ xs) = one_more (field x.name) (fields_of field xs)

-- an aim, where the place is one and the fields are
abbrev pub aim_at : Option ℕ → Option (List ℕ) → Option AimTree
aim_at None fs = None
aim_at (Some n) fs = option_map (λ gs. record { place = n; path = gs }) fs

-- the last of the identifiers of a path, and those before it
abbrev pub last_name : Ident → List Ident → Ident
last_name x [] = x
last_name x (y ∷ ys) = last_name y ys

abbrev pub before_last : Ident → List Ident → List Ident
before_last x [] = []
before_last x (y ∷ ys) = x ∷ before_last y ys

-- instructions whose parts are there; what no valid class has otherwise
abbrev pub set_code : Option AimTree → Node → InstructionTree
set_code None e = NoCode
set_code (Some a) e = SetCode a e

abbrev pub effect_code : Option AimTree → Option (Effect × Nodes) → InstructionTree
effect_code None f = NoCode
effect_code (Some a) None = NoCode
effect_code (Some a) (Some f) = EffectCode a f.0 f.1

-- `new` makes a cell, or puts the empty vector in place
abbrev pub new_of : ℕ → TypeTree → InstructionTree
new_of n (PromiseType t) = NewCode n kind.Promise
new_of n (PromiseStreamType t) = NewCode n kind.PromiseStream
new_of n (VectorType t) = SetCode (record { place = n; path = [] }) EmptyNode
new_of n _ = NoCode

abbrev pub new_code : Option ℕ → Option TypeTree → InstructionTree
new_code None t = NoCode
new_code (Some n) None = NoCode
new_code (Some n) (Some t) = new_of n t

abbrev pub plain_code : Option Act → Nodes → InstructionTree
plain_code None es = NoCode
plain_code (Some f) es = ActCode f es

abbrev pub method_code : Option AimTree → Option Method → Nodes → InstructionTree
method_code None m es = NoCode
method_code (Some a) None es = NoCode
method_code (Some a) (Some m) es = MethodCode a m es

-- an effect is a predefined call that has one, or a call of a class
abbrev pub effect_named : Option Predefined → Option ℕ → Option Effect
effect_named (Some p) k = if is_effect p then Some (effect.World p) else None
effect_named None k = option_map effect.Actor k

abbrev pub operand_code : Option (Effect × Nodes) → Node → OperandTree
operand_code None e = ValueOperand e
operand_code (Some f) e = EffectOperand f.0 f.1

-- a call statement without a base is a predefined call, one of a plain function, or one of a void class
abbrev pub act_named : Option Predefined → (function class : Option ℕ) → Option Act
act_named (Some p) f k = Some (act.World p)
act_named None (Some f) k = Some (act.Function f)
act_named None None k = option_map act.Actor k

-- Each block that ends in a wait is the home of its group, numbered from 1: the last of several. k is the number of the
-- first of the blocks, and the homes before are in order of the groups.
abbrev pub home_noted : LastTree → ℕ → List ℕ → List ℕ
home_noted (ChooseLast (suc g)) k homes = slice_set homes g k
home_noted _ k homes = homes

abbrev pub homes_from : ℕ → List BlockTree → List ℕ → List ℕ
homes_from k [] homes = homes
homes_from k (b ∷ bs) homes = homes_from (suc k) bs (home_noted b.last k homes)

abbrev pub homes_of : ClassTree → List ℕ
homes_of t = homes_from 0 t.blocks (replicate (length t.groups) 0)

module _ (c : Coding) where
  abbrev pub aimed : List Ident → Option AimTree
  aimed [] = None
  aimed (x ∷ xs) = aim_at (c.names.place x.name) (fields_of c.names.field xs)

  abbrev pub effect_in : ExprTree → Option (Effect × Nodes)
  effect_in (CallExpr f es) = option_map (λ e. (e, resolved_all c.names es)) (effect_named (named call_names f.name) (c.class f.name))
  effect_in _ = None

  abbrev pub coded_method : List Ident → (name : List ℕ) → Nodes → InstructionTree
  coded_method xs m es = method_code (aimed xs) (named method_names m) es

  abbrev pub act_code : List Ident → Nodes → InstructionTree
  act_code [] es = NoCode
  act_code (f ∷ []) es = plain_code (act_named (named call_names f.name) (c.names.function f.name) (c.class f.name)) es
  act_code (x ∷ y ∷ ys) es = coded_method (x ∷ before_last y ys) (last_name y ys).name es

  abbrev pub coded_set : List Ident → ExprTree → InstructionTree
  coded_set xs e = set_code (aimed xs) (resolved c.names e)

  abbrev pub coded_effect : List Ident → ExprTree → InstructionTree
  coded_effect xs e = effect_code (aimed xs) (effect_in e)

  abbrev pub coded_new : ClassTree → Slotted → InstructionTree
  coded_new t p = new_code (place_of c.slots p) (type_at t p)

  abbrev pub coded_operand : ExprTree → OperandTree
  coded_operand e = operand_code (effect_in e) (resolved c.names e)

  -- locals as places
  abbrev pub places : List ℕ → List ℕ
  places ns = map (λ n. c.slots + n) ns

  abbrev pub coded_instruction : ClassTree → InstrTree → InstructionTree
  coded_instruction t (SetInstr xs e) = coded_set xs e
  coded_instruction t (EffectInstr xs e) = coded_effect xs e
  coded_instruction t (NewInstr p) = coded_new t p
  coded_instruction t (ActInstr xs es) = act_code xs (resolved_all c.names es)
  coded_instruction t (DropInstr ns) = DropCode (places ns)

  abbrev pub ended : LastTree → EndTree
  ended (GotoLast b) = GotoEnd b
  ended (PassLast b) = PassEnd b
  ended (TestLast e b d) = TestEnd (resolved c.names e) b d
  ended (ChooseLast g) = ChooseEnd g
  ended (ReturnLast e) = ReturnEnd (resolved c.names (returned_expr e))
  ended (ThrowLast e) = ThrowEnd (resolved c.names e)

  abbrev pub caught : CatcherTree → CatcherTree
  caught h = record { block = h.block; error = option_map (λ n. c.slots + n) h.error; drops = places h.drops }

  abbrev pub coded_block : ClassTree → BlockTree → BlockCode
  coded_block t b = record { catcher = option_map caught b.catcher; body = map (coded_instruction t) b.body; last = ended b.last }

  abbrev pub coded_branch : CallbackTree → BranchCode
  coded_branch b = record {
    operand = coded_operand b.operand;
    into = option_and_then (place_of c.slots) b.into;
    block = b.block;
  }

  -- groups with their homes; branches are numbered on through all groups
  abbrev pub coded_groups : (first : ℕ) → (homes : List ℕ) → List (List CallbackTree) → List GroupCode
  coded_groups first [] gs = []
  coded_groups first (h ∷ hs) [] = []
  coded_groups first (h ∷ hs) (g ∷ gs) = record { block = h; first = first; branches = map coded_branch g }
      ∷ coded_groups (first + length g) hs gs

  abbrev pub coded_class : ClassTree → ClassCode
  coded_class t = record {
    name = t.name;
    params = t.params;
    slots = c.slots;
    places = c.slots + length t.locals;
    blocks = map (coded_block t) t.blocks;
    groups = coded_groups 0 (homes_of t) t.groups;
  }
