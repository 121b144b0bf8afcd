-- The canonical text of classes: one line for each slot, local, instruction and callback, four spaces for each level.
-- Expressions, paths, calls and types are spelled as in the canonical text of a program.
use Rattle.std.specs.Prelude.{ℕ, zero, suc, ◌+◌, Bool, true, false, List, [], ◌∷◌, ◌++◌, codes, decimal, length}
use Rattle.std.specs.declared.option.Option.{Option}
use Rattle.std.specs.declared.option.Option.TheVariants.{None, Some}
use Rattle.flow_tree.specs.Tree.{TypeTree, ExprTree}
use Rattle.flow_tree.specs.Decls.{SlotTree, RecordTree, RoutineTree, StructDecl, FunctionDecl}
use Rattle.flow_tree.specs.Canon.{type_text, expr_text, maybe_text, assign_text, call_text, line, decl_text}
use Rattle.flow_class.specs.declared.class.Slotted.{Slotted}
use Rattle.flow_class.specs.declared.class.Slotted.TheVariants.{Slot, Local}
use Rattle.flow_class.specs.Classes.{CatcherTree, InstrTree, SetInstr, EffectInstr, NewInstr, ActInstr, DropInstr, LastTree, GotoLast, PassLast, TestLast, ChooseLast, ReturnLast, ThrowLast, BlockTree, CallbackTree, ClassTree, RawTree}

-- what is spelled one after another
abbrev pub all_text : {A : Type 0} → (A → List ℕ) → List A → List ℕ
all_text text [] = []
all_text text (x ∷ xs) = text x ++ all_text text xs

-- the same, each with its place from a first one on
abbrev pub numbered : {A : Type 0} → (ℕ → A → List ℕ) → ℕ → List A → List ℕ
numbered text n [] = []
numbered text n (x ∷ xs) = text n x ++ numbered text (suc n) xs

-- a place of a frame
abbrev pub local_text : ℕ → List ℕ
local_text n = codes "l" ++ decimal n

abbrev pub place_text : Slotted → List ℕ
place_text (Slot n) = codes "s" ++ decimal n
place_text (Local n) = local_text n

-- locals with a comma between two
abbrev pub further_local : ℕ → List ℕ
further_local n = codes ", " ++ local_text n

abbrev pub locals_text : List ℕ → List ℕ
locals_text [] = []
locals_text (n ∷ ns) = local_text n ++ all_text further_local ns

-- where the errors of a block go on
abbrev pub error_text : Option ℕ → List ℕ
error_text None = []
error_text (Some n) = codes " error " ++ local_text n

abbrev pub catch_text : Option CatcherTree → List ℕ
catch_text None = []
catch_text (Some c) = codes " catch " ++ decimal c.block ++ error_text c.error ++ codes " drop(" ++ locals_text c.drops ++ codes ")"

abbrev pub instr_text : InstrTree → List ℕ
instr_text (SetInstr path e) = codes "set " ++ assign_text path e
instr_text (EffectInstr path e) = codes "do " ++ assign_text path e
instr_text (NewInstr to) = codes "new " ++ place_text to
instr_text (ActInstr path es) = codes "act " ++ call_text path es
instr_text (DropInstr ns) = codes "drop " ++ locals_text ns

abbrev pub last_text : LastTree → List ℕ
last_text (GotoLast b) = codes "goto " ++ decimal b
last_text (PassLast b) = codes "pass " ++ decimal b
last_text (TestLast e y n) = codes "test(" ++ expr_text e ++ codes ") goto " ++ decimal y ++ codes " else " ++ decimal n
last_text (ChooseLast g) = codes "choose " ++ decimal g
last_text (ReturnLast e) = codes "return" ++ maybe_text (codes " ") e
last_text (ThrowLast e) = codes "throw " ++ expr_text e

abbrev pub instr_line : InstrTree → List ℕ
instr_line i = line 2 (instr_text i ++ codes ";")

abbrev pub block_text : ℕ → BlockTree → List ℕ
block_text n b =
    line 1 (codes "block " ++ decimal n ++ catch_text b.catcher ++ codes " {") ++ all_text instr_line b.body
    ++ line 2 (last_text b.last ++ codes ";") ++ line 1 (codes "}")

-- a branch of a wait
abbrev pub wait_text : (next : Bool) → List ℕ
wait_text false = codes " wait("
wait_text true = codes " waitNext("

abbrev pub into_text : Option Slotted → List ℕ
into_text None = []
into_text (Some to) = codes " into " ++ place_text to

abbrev pub operand_text : ℕ → CallbackTree → List ℕ
operand_text n c = codes "callback " ++ decimal n ++ wait_text c.next ++ expr_text c.operand ++ codes ")"

abbrev pub destination_text : CallbackTree → List ℕ
destination_text c = into_text c.into ++ codes " goto " ++ decimal c.block ++ codes ";"

abbrev pub callback_text : ℕ → CallbackTree → List ℕ
callback_text n c = line 2 (operand_text n c ++ destination_text c)

-- the callbacks of a class are numbered through all its groups
abbrev pub group_text : (group first : ℕ) → List CallbackTree → List ℕ
group_text g k cs = line 1 (codes "group " ++ decimal g ++ codes " {") ++ numbered callback_text k cs ++ line 1 (codes "}")

abbrev pub groups_text : (group first : ℕ) → List (List CallbackTree) → List ℕ
groups_text g k [] = []
groups_text g k (cs ∷ rest) = group_text g k cs ++ groups_text (suc g) (k + length cs) rest

abbrev pub slot_text : ℕ → SlotTree → List ℕ
slot_text n s = line 1 (codes "slot " ++ decimal n ++ codes " " ++ type_text s.ty ++ codes " " ++ s.name ++ codes ";")

abbrev pub local_line : ℕ → TypeTree → List ℕ
local_line n t = line 1 (codes "local " ++ decimal n ++ codes " " ++ type_text t ++ codes ";")

-- what stands before the blocks of a class, and behind them
abbrev pub class_front : ClassTree → List ℕ
class_front c =
    line 0 (codes "class " ++ c.name ++ codes " returns " ++ type_text c.returns ++ codes " params " ++ decimal c.params ++ codes " {")
    ++ numbered slot_text 0 c.slots ++ numbered local_line 0 c.locals

abbrev pub class_back : ClassTree → List ℕ
class_back c = groups_text 1 0 c.groups ++ line 0 (codes "}")

abbrev pub class_text : ClassTree → List ℕ
class_text c = class_front c ++ numbered block_text 0 c.blocks ++ class_back c

abbrev pub record_text : RecordTree → List ℕ
record_text r = decl_text (StructDecl r)

abbrev pub function_text : RoutineTree → List ℕ
function_text f = decl_text (FunctionDecl f)

-- the records, the functions and the classes of a program, behind a line that tells the format and its version
abbrev pub front_text : RawTree → List ℕ
front_text r = line 0 (codes "classes 2") ++ all_text record_text r.records ++ all_text function_text r.functions

abbrev pub ClassText : RawTree → List ℕ
ClassText r = front_text r ++ all_text class_text r.classes
