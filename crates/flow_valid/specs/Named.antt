-- The places, groups and blocks that a class names.
use Rattle.std.specs.Prelude.{ℕ, Bool, true, ◌&&◌, nat_lt, List, [], ◌∷◌, ◌++◌, map, length}
use Rattle.std.specs.Option.{option_map}
use Rattle.std.specs.List.{list_all}
use Rattle.std.specs.declared.option.Option.{Option}
use Rattle.std.specs.declared.option.Option.TheVariants.{None, Some}
use Rattle.flow_tree.specs.declared.ty.Ident.{Ident}
use Rattle.flow_tree.specs.Tree.{ExprTree, ExprTrees, IntExpr, TextExpr, BoolExpr, VoidExpr, VarExpr, CallExpr, FieldExpr, MethodExpr, NotExpr, NegExpr, BinaryExpr, ParenExpr, NoExprs, MoreExprs}
use Rattle.flow_ast.specs.Typing.{is_there}
use Rattle.flow_class.specs.declared.class.Slotted.{Slotted}
use Rattle.flow_class.specs.declared.class.Slotted.TheVariants.{Local}
use Rattle.flow_class.specs.Places.{place_named}
use Rattle.flow_class.specs.Classes.{CatcherTree, InstrTree, SetInstr, EffectInstr, NewInstr, ActInstr, DropInstr, LastTree, GotoLast, PassLast, TestLast, ChooseLast, ReturnLast, ThrowLast, BlockTree, CallbackTree, ClassTree}
use Rattle.flow_class.specs.Code.{type_at, group_at}

-- what there is, in a list
abbrev pub listed : {A : Type 0} → Option A → List A
listed None = []
listed (Some a) = a ∷ []

-- the places that are named in an expression, in the order of the text
abbrev mutual
  pub expr_places : ExprTree → List Slotted
  expr_places (IntExpr n) = []
  expr_places (TextExpr t) = []
  expr_places (BoolExpr b) = []
  expr_places VoidExpr = []
  expr_places (VarExpr x) = listed (place_named x.name)
  expr_places (CallExpr f es) = exprs_places es
  expr_places (FieldExpr e x) = expr_places e
  expr_places (MethodExpr e m es) = expr_places e ++ exprs_places es
  expr_places (NotExpr e) = expr_places e
  expr_places (NegExpr e) = expr_places e
  expr_places (BinaryExpr op a b) = expr_places a ++ expr_places b
  expr_places (ParenExpr e) = expr_places e

  pub exprs_places : ExprTrees → List Slotted
  exprs_places NoExprs = []
  exprs_places (MoreExprs e es) = expr_places e ++ exprs_places es

abbrev pub maybe_places : Option ExprTree → List Slotted
maybe_places None = []
maybe_places (Some e) = expr_places e

-- the place that a path begins with; that of a call with a single name begins with none
abbrev pub path_place : List Ident → List Slotted
path_place [] = []
path_place (x ∷ xs) = listed (place_named x.name)

abbrev pub base_place : List Ident → List Slotted
base_place (x ∷ (y ∷ ys)) = path_place (x ∷ (y ∷ ys))
base_place _ = []

abbrev pub instr_places : InstrTree → List Slotted
instr_places (SetInstr path e) = path_place path ++ expr_places e
instr_places (EffectInstr path e) = path_place path ++ expr_places e
instr_places (NewInstr p) = p ∷ []
instr_places (ActInstr path es) = base_place path ++ exprs_places es
instr_places (DropInstr ns) = map Local ns

abbrev pub last_places : LastTree → List Slotted
last_places (TestLast e b c) = expr_places e
last_places (ReturnLast e) = maybe_places e
last_places (ThrowLast e) = expr_places e
last_places _ = []

abbrev pub catcher_places : CatcherTree → List Slotted
catcher_places k = listed (option_map Local k.error) ++ map Local k.drops

-- the blocks to which a last instruction leads by itself
abbrev pub targets : LastTree → List ℕ
targets (GotoLast b) = b ∷ []
targets (PassLast b) = b ∷ []
targets (TestLast e b c) = b ∷ c ∷ []
targets _ = []

module _ (c : ClassTree) where
  abbrev pub has_place : Slotted → Bool
  has_place p = is_there (type_at c p)

  abbrev pub has_block : ℕ → Bool
  has_block n = nat_lt n (length c.blocks)

  abbrev pub has_catcher : Option CatcherTree → Bool
  has_catcher None = true
  has_catcher (Some k) = has_block k.block && list_all has_place (catcher_places k)

  abbrev pub has_group : LastTree → Bool
  has_group (ChooseLast g) = is_there (group_at c.groups g)
  has_group _ = true

  abbrev pub has_last : LastTree → Bool
  has_last l = has_group l && list_all has_block (targets l) && list_all has_place (last_places l)

  abbrev pub has_named : BlockTree → Bool
  has_named b =
      has_catcher b.catcher && list_all (λ (i : InstrTree). list_all has_place (instr_places i)) b.body && has_last b.last

  abbrev pub has_operand : CallbackTree → Bool
  has_operand k = has_block k.block && list_all has_place (expr_places k.operand ++ listed k.into)

  -- every slot, local, group and block that is named exists
  abbrev pub names_exist : Bool
  names_exist = list_all has_named c.blocks && list_all (list_all has_operand) c.groups
