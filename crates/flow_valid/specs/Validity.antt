-- Which class programs are valid, and which rule is broken first.
use Rattle.std.specs.Prelude.{◌≡◌, ℕ, suc, ◌+◌, ◌<◌, Bool, true, false, not, ◌&&◌, nat_eq, nat_lt, is_none, List, [], ◌∷◌, ◌++◌, slice_get, if◌then◌else◌}
use Rattle.std.specs.List.{list_all, list_any}
use Rattle.std.specs.declared.option.Option.{Option}
use Rattle.std.specs.declared.option.Option.TheVariants.{None, Some}
use Rattle.flow_tree.specs.declared.ty.Ident.{Ident}
use Rattle.flow_tree.specs.Tree.{TypeTree, BoolType, VoidType, ErrorType, FutureType, FutureStreamType, PromiseType, PromiseStreamType, VectorType, ExprTree, CallExpr}
use Rattle.flow_tree.specs.Decls.{SlotTree}
use Rattle.flow_ast.specs.Typing.{same_type}
use Rattle.flow_rules.specs.declared.rule.SemanticRule.{SemanticRule}
use Rattle.flow_rules.specs.Least.{lesser}
use Rattle.flow_rules.specs.Judged.{Setting, Callee, Kind, Effect, form, fault, wanted, returned, called}
use Rattle.flow_rules.specs.Items.{target_form, target_fault, assigned, call_fault}
use Rattle.flow_rules.specs.Rules.{setting_of}
use Rattle.flow_class.specs.declared.class.Slotted.{Slotted}
use Rattle.flow_class.specs.declared.class.Slotted.TheVariants.{Slot, Local}
use Rattle.flow_class.specs.Places.{place_name}
use Rattle.flow_class.specs.Classes.{CatcherTree, InstrTree, SetInstr, EffectInstr, NewInstr, ActInstr, DropInstr, LastTree, GotoLast, TestLast, ChooseLast, ReturnLast, ThrowLast, BlockTree, CallbackTree, ClassTree, RawTree}
use Rattle.flow_class.specs.Code.{type_at}
use Rattle.flow_valid.specs.declared.rule.ClassRule.{ClassRule}
use Rattle.flow_valid.specs.declared.rule.ClassRule.TheVariants as rule
use Rattle.flow_valid.specs.Heads.{all_decls, declarations_kept, broken_head, has_main}
use Rattle.flow_valid.specs.Named.{names_exist}
use Rattle.flow_valid.specs.Filling.{ReadsEmpty, ReadsFilled}

-- each block, with its number, is so
abbrev pub all_blocks : (ℕ → BlockTree → Bool) → (from : ℕ) → List BlockTree → Bool
all_blocks p n [] = true
all_blocks p n (b ∷ bs) = p n b && all_blocks p (suc n) bs

-- `goto` and `test` lead to blocks of greater number
abbrev pub leads_on : ℕ → LastTree → Bool
leads_on n (GotoLast b) = nat_lt n b
leads_on n (TestLast e b c) = nat_lt n b && nat_lt n c
leads_on n _ = true

abbrev pub leads_forward : ClassTree → Bool
leads_forward c = all_blocks (λ n (b : BlockTree). leads_on n b.last) 0 c.blocks

-- each group, numbered from 1, is named by exactly one `choose`
abbrev pub chooses : ℕ → LastTree → Bool
chooses g (ChooseLast h) = nat_eq g h
chooses g _ = false

abbrev pub times_chosen : ℕ → List BlockTree → ℕ
times_chosen g [] = 0
times_chosen g (b ∷ bs) = (if chooses g b.last then 1 else 0) + times_chosen g bs

abbrev pub each_once : List BlockTree → (from : ℕ) → List (List CallbackTree) → Bool
each_once bs g [] = true
each_once bs g (ks ∷ gs) = nat_eq (times_chosen g bs) 1 && each_once bs (suc g) gs

abbrev pub groups_chosen : ClassTree → Bool
groups_chosen c = each_once c.blocks 1 c.groups

-- a catch part leads to a block of greater number, its error goes into a local for errors, and its drops are distinct
abbrev pub is_of : TypeTree → Option TypeTree → Bool
is_of t None = false
is_of t (Some u) = same_type t u

abbrev pub distinct : List ℕ → Bool
distinct [] = true
distinct (n ∷ ns) = not (list_any (nat_eq n) ns) && distinct ns

abbrev pub takes_error : ClassTree → Option ℕ → Bool
takes_error c None = true
takes_error c (Some n) = is_of ErrorType (type_at c (Local n))

abbrev pub catches : ClassTree → ℕ → Option CatcherTree → Bool
catches c n None = true
catches c n (Some k) = nat_lt n k.block && takes_error c k.error && distinct k.drops

abbrev pub catchers_kept : ClassTree → Bool
catchers_kept c = all_blocks (λ n (b : BlockTree). catches c n b.catcher) 0 c.blocks

-- The variables of a class are its places by their names.
abbrev pub slot_rows : (from : ℕ) → List SlotTree → List (List ℕ × TypeTree)
slot_rows n [] = []
slot_rows n (s ∷ ss) = (place_name (Slot n), s.ty) ∷ slot_rows (suc n) ss

abbrev pub local_rows : (from : ℕ) → List TypeTree → List (List ℕ × TypeTree)
local_rows n [] = []
local_rows n (t ∷ ts) = (place_name (Local n), t) ∷ local_rows (suc n) ts

abbrev pub class_setting : RawTree → ClassTree → Setting
class_setting r c = record (setting_of (all_decls r) false) { vars = slot_rows 0 c.slots ++ local_rows 0 c.locals }

-- what is called is an effect
abbrev pub is_effect_kind : Kind → Bool
is_effect_kind Effect = true
is_effect_kind _ = false

abbrev pub calls_effect : Option Callee → Bool
calls_effect None = false
calls_effect (Some k) = is_effect_kind k.kind

abbrev pub is_effect : Setting → ExprTree → Bool
is_effect s (CallExpr f es) = calls_effect (called s f.name)
is_effect s _ = false

-- an assignment, whose value may be an effect or not
abbrev pub put_fault : Setting → (effect : Bool) → List Ident → ExprTree → Option SemanticRule
put_fault s effect path e = lesser (lesser (target_fault s path) (fault s effect e)) (assigned (form s e) (target_form s path))

-- what `new` can put in place
abbrev pub is_made : Option TypeTree → Bool
is_made (Some (PromiseType t)) = true
is_made (Some (PromiseStreamType t)) = true
is_made (Some (VectorType t)) = true
is_made _ = false

-- what a branch waits for: a future, or the next of a stream, of what its place takes, or of `Void`
abbrev pub operand_type : (next : Bool) → TypeTree → TypeTree
operand_type false t = FutureType t
operand_type true t = FutureStreamType t

abbrev pub has_type : Setting → (effect : Bool) → ExprTree → TypeTree → Bool
has_type s effect e t = is_none (wanted s effect e t)

module _ (c : ClassTree) (s : Setting) where
  abbrev pub instr_fits : InstrTree → Bool
  instr_fits (SetInstr path e) = is_none (put_fault s false path e)
  instr_fits (EffectInstr path e) = is_effect s e && is_none (put_fault s true path e)
  instr_fits (NewInstr p) = is_made (type_at c p)
  instr_fits (ActInstr path es) = is_none (call_fault s path es)
  instr_fits (DropInstr ns) = true

  abbrev pub last_fits : LastTree → Bool
  last_fits (TestLast e b n) = has_type s false e BoolType
  last_fits (ReturnLast e) = is_none (returned s e c.returns)
  last_fits (ThrowLast e) = has_type s false e ErrorType
  last_fits _ = true

  abbrev pub operand_fits : CallbackTree → Option TypeTree → Bool
  operand_fits k None = false
  operand_fits k (Some t) = has_type s true k.operand (operand_type k.next t)

  abbrev pub taken_type : Option Slotted → Option TypeTree
  taken_type None = Some VoidType
  taken_type (Some p) = type_at c p

  abbrev pub callback_fits : CallbackTree → Bool
  callback_fits k = operand_fits k (taken_type k.into)

  abbrev pub block_fits : BlockTree → Bool
  block_fits b = list_all instr_fits b.body && last_fits b.last

-- Expressions, targets, arguments, operands and results fit their types, and a void class has no result; an effect stands only in
-- `do`, which takes nothing else, and as a whole operand; `act` calls a function of the program or a void class, or is a statement
-- call.
abbrev pub types_fit : RawTree → ClassTree → Bool
types_fit r c = list_all (block_fits c (class_setting r c)) c.blocks && list_all (list_all (callback_fits c (class_setting r c))) c.groups

-- the number of a rule, behind the letter V
abbrev pub number : ClassRule → ℕ
number rule.Declarations = 1
number rule.Heads = 2
number rule.Names = 3
number rule.Edges = 4
number rule.Groups = 5
number rule.Catchers = 6
number rule.Types = 7
number rule.Reads = 8

-- the first of these rules that doesn't hold
abbrev pub first_broken : List (ClassRule × Bool) → Option ClassRule
first_broken [] = None
first_broken (x ∷ xs) = if x.1 then first_broken xs else Some x.0

-- the first of the rules V3 to V7 that a class breaks
abbrev pub broken_rule : RawTree → ClassTree → Option ClassRule
broken_rule r c =
    first_broken
    ((rule.Names, names_exist c) ∷ (rule.Edges, leads_forward c) ∷ (rule.Groups, groups_chosen c)
    ∷ (rule.Catchers, catchers_kept c) ∷ (rule.Types, types_fit r c) ∷ [])

-- a class keeps V3 to V8
pub record IsSoundClass (r : RawTree) (c : ClassTree) : Type 0 where
  pub tested : broken_rule r c ≡ None
  pub filled : ReadsFilled c

-- all rules hold
pub record IsValid (r : RawTree) : Type 0 where
  pub declarations : declarations_kept r ≡ true
  pub heads : broken_head r ≡ None
  pub main : has_main r ≡ true
  pub classes : (i : ℕ) (c : ClassTree) → slice_get r.classes i ≡ Some c → IsSoundClass r c

-- the first rule that a class breaks
pub data BreaksIn (r : RawTree) (c : ClassTree) : ClassRule → Type 0 where
  tested : {k : ClassRule} → broken_rule r c ≡ Some k → BreaksIn r c k
  unfilled : broken_rule r c ≡ None → ReadsEmpty c → BreaksIn r c rule.Reads

-- The number of the first rule that a class program breaks, and the class, where there is one: V1 on all records and functions; then V2
-- on class after class, and on `main`; then V3 to V8 on class after class.
pub data Breaks (r : RawTree) : (number : ℕ) (class : Option ℕ) → Type 0 where
  declaration : declarations_kept r ≡ false → Breaks r (number rule.Declarations) None
  head : {i : ℕ} → declarations_kept r ≡ true → broken_head r ≡ Some i → Breaks r (number rule.Heads) (Some i)
  main : declarations_kept r ≡ true → broken_head r ≡ None → has_main r ≡ false → Breaks r (number rule.Heads) None
  class : {i : ℕ} {k : ClassRule} (c : ClassTree) →
      declarations_kept r ≡ true → broken_head r ≡ None → has_main r ≡ true →
      ((j : ℕ) (d : ClassTree) → j < i → slice_get r.classes j ≡ Some d → IsSoundClass r d) →
      slice_get r.classes i ≡ Some c → BreaksIn r c k → Breaks r (number k) (Some i)
