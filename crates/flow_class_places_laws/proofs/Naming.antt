-- The rules on the numbers that a class names don't see places.
use Rattle.std.proofs.Common.{◌≡◌, ℕ, zero, suc, ◌+◌, List, [], ◌∷◌, ◌++◌, Bool, ◌&&◌, map, refl, ap, ap₂, ◌∙◌, if◌then◌else◌}
use Rattle.std.proofs.Math.Path.{fun_ext}
use Rattle.std.proofs.lemmas.List.{length-map}
use Rattle.std.proofs.lemmas.Option.{slice_get-map}
use Rattle.std.specs.Prelude.{option_map, nat_lt, nat_eq}
use Rattle.std.specs.List.{list_all}
use Rattle.std.specs.declared.option.Option.{Option}
use Rattle.std.specs.declared.option.Option.TheVariants.{None, Some}
use Rattle.flow_tree.specs.declared.ty.Ident.{Ident}
use Rattle.flow_tree.specs.Tree.{ExprTree, ExprTrees, IntExpr, TextExpr, BoolExpr, VoidExpr, VarExpr, CallExpr, FieldExpr, MethodExpr, NotExpr, NegExpr, BinaryExpr, ParenExpr, NoExprs, MoreExprs}
use Rattle.flow_tree.specs.Canon.{placeless_ident, placeless_expr, placeless_exprs}
use Rattle.flow_ast.specs.Typing.{is_there}
use Rattle.flow_class.specs.declared.class.Slotted.{Slotted}
use Rattle.flow_class.specs.declared.class.Slotted.TheVariants.{Slot, Local}
use Rattle.flow_class.specs.Classes.{CatcherTree, InstrTree, SetInstr, EffectInstr, NewInstr, ActInstr, DropInstr, LastTree, GotoLast, PassLast, TestLast, ChooseLast, ReturnLast, ThrowLast, BlockTree, CallbackTree, ClassTree}
use Rattle.flow_class.specs.Code.{type_at, group_at}
use Rattle.flow_meaning.specs.Placeless.{placeless_instr, placeless_last, placeless_block, placeless_callback, placeless_class}
use Rattle.flow_valid.specs.Named.{listed, expr_places, exprs_places, path_place, base_place, instr_places, last_places, catcher_places, targets, has_place, has_block, has_catcher, has_group, has_last, has_named, has_operand, names_exist}
use Rattle.flow_valid.specs.Validity.{all_blocks, leads_on, leads_forward, chooses, times_chosen, each_once, groups_chosen, distinct, takes_error, catches, catchers_kept}
use Rattle.flow_class_places_laws.proofs.Parts.{is_there_over, list_all_over}

-- the places that are named
mutual
  pub expr_places_aside : (e : ExprTree) → expr_places (placeless_expr e) ≡ expr_places e
  expr_places_aside (IntExpr n) = refl
  expr_places_aside (TextExpr t) = refl
  expr_places_aside (BoolExpr b) = refl
  expr_places_aside VoidExpr = refl
  expr_places_aside (VarExpr x) = refl
  expr_places_aside (CallExpr f es) = exprs_places_aside es
  expr_places_aside (FieldExpr e x) = expr_places_aside e
  expr_places_aside (MethodExpr e m es) = ap₂ (λ ps qs. ps ++ qs) (expr_places_aside e) (exprs_places_aside es)
  expr_places_aside (NotExpr e) = expr_places_aside e
  expr_places_aside (NegExpr e) = expr_places_aside e
  expr_places_aside (BinaryExpr op a b) = ap₂ (λ ps qs. ps ++ qs) (expr_places_aside a) (expr_places_aside b)
  expr_places_aside (ParenExpr e) = expr_places_aside e

  pub exprs_places_aside : (es : ExprTrees) → exprs_places (placeless_exprs es) ≡ exprs_places es
  exprs_places_aside NoExprs = refl
  exprs_places_aside (MoreExprs e es) = ap₂ (λ ps qs. ps ++ qs) (expr_places_aside e) (exprs_places_aside es)

path_place_aside : (xs : List Ident) → path_place (map placeless_ident xs) ≡ path_place xs
path_place_aside [] = refl
path_place_aside (x ∷ xs) = refl

pub base_place_aside : (xs : List Ident) → base_place (map placeless_ident xs) ≡ base_place xs
base_place_aside [] = refl
base_place_aside (x ∷ []) = refl
base_place_aside (x ∷ (y ∷ ys)) = refl

instr_places_aside : (i : InstrTree) → instr_places (placeless_instr i) ≡ instr_places i
instr_places_aside (SetInstr xs e) = ap₂ (λ ps qs. ps ++ qs) (path_place_aside xs) (expr_places_aside e)
instr_places_aside (EffectInstr xs e) = ap₂ (λ ps qs. ps ++ qs) (path_place_aside xs) (expr_places_aside e)
instr_places_aside (NewInstr p) = refl
instr_places_aside (ActInstr xs es) = ap₂ (λ ps qs. ps ++ qs) (base_place_aside xs) (exprs_places_aside es)
instr_places_aside (DropInstr ns) = refl

pub last_places_aside : (l : LastTree) → last_places (placeless_last l) ≡ last_places l
last_places_aside (GotoLast b) = refl
last_places_aside (PassLast b) = refl
last_places_aside (TestLast e b c) = expr_places_aside e
last_places_aside (ChooseLast g) = refl
last_places_aside (ReturnLast None) = refl
last_places_aside (ReturnLast (Some e)) = expr_places_aside e
last_places_aside (ThrowLast e) = expr_places_aside e

pub targets_aside : (l : LastTree) → targets (placeless_last l) ≡ targets l
targets_aside (GotoLast b) = refl
targets_aside (PassLast b) = refl
targets_aside (TestLast e b c) = refl
targets_aside (ChooseLast g) = refl
targets_aside (ReturnLast e) = refl
targets_aside (ThrowLast e) = refl

pub group_aside : (gs : List (List CallbackTree)) (g : ℕ) → group_at (map (map placeless_callback) gs) g ≡ option_map (map placeless_callback) (group_at gs g)
group_aside gs zero = refl
group_aside gs (suc n) = slice_get-map (map placeless_callback) gs n

pub type_aside : (c : ClassTree) → type_at (placeless_class c) ≡ type_at c
type_aside c = fun_ext at
  where
    at : (p : Slotted) → type_at (placeless_class c) p ≡ type_at c p
    at (Slot n) = refl
    at (Local n) = refl

-- what is named exists
module _ (c : ClassTree) where
  place_aside : has_place (placeless_class c) ≡ has_place c
  place_aside = ap (λ t (p : Slotted). is_there (t p)) (type_aside c)

  block_aside : has_block (placeless_class c) ≡ has_block c
  block_aside = ap (λ k (n : ℕ). nat_lt n k) (length-map c.blocks placeless_block)

  catcher_aside : (o : Option CatcherTree) → has_catcher (placeless_class c) o ≡ has_catcher c o
  catcher_aside None = refl
  catcher_aside (Some k) = ap₂ (λ f g. f k.block && list_all g (catcher_places k)) block_aside place_aside

  has_group_aside : (l : LastTree) → has_group (placeless_class c) (placeless_last l) ≡ has_group c l
  has_group_aside (GotoLast b) = refl
  has_group_aside (PassLast b) = refl
  has_group_aside (TestLast e b n) = refl
  has_group_aside (ChooseLast g) = ap (λ o. is_there o) (group_aside c.groups g) ∙ is_there_over (map placeless_callback) (group_at c.groups g)
  has_group_aside (ReturnLast e) = refl
  has_group_aside (ThrowLast e) = refl

  last_aside : (l : LastTree) → has_last (placeless_class c) (placeless_last l) ≡ has_last c l
  last_aside l =
      ap₂ (λ x y. x && y) (ap₂ (λ x y. x && y) (has_group_aside l) (ap₂ (λ f bs. list_all f bs) block_aside (targets_aside l)))
      (ap₂ (λ f ps. list_all f ps) place_aside (last_places_aside l))

  named_aside : (b : BlockTree) → has_named (placeless_class c) (placeless_block b) ≡ has_named c b
  named_aside b =
      ap₂ (λ x y. x && y)
      (ap₂ (λ x y. x && y) (catcher_aside b.catcher)
      (list_all_over (λ (i : InstrTree). list_all (has_place (placeless_class c)) (instr_places i)) (λ (i : InstrTree). list_all (has_place c) (instr_places i)) placeless_instr
      (λ i. ap₂ (λ f ps. list_all f ps) place_aside (instr_places_aside i)) b.body))
      (last_aside b.last)

  operand_aside : (k : CallbackTree) → has_operand (placeless_class c) (placeless_callback k) ≡ has_operand c k
  operand_aside k =
      ap₂ (λ f x. f k.block && x) block_aside (ap₂ (λ f ps. list_all f (ps ++ listed k.into)) place_aside (expr_places_aside k.operand))

  pub names_aside : names_exist (placeless_class c) ≡ names_exist c
  names_aside =
      ap₂ (λ x y. x && y) (list_all_over (has_named (placeless_class c)) (has_named c) placeless_block named_aside c.blocks)
      (list_all_over (list_all (has_operand (placeless_class c))) (list_all (has_operand c)) (map placeless_callback)
      (λ ks. list_all_over (has_operand (placeless_class c)) (has_operand c) placeless_callback operand_aside ks) c.groups)

-- blocks with their numbers
blocks_over : (p q : ℕ → BlockTree → Bool) → ((n : ℕ) (b : BlockTree) → p n (placeless_block b) ≡ q n b) → (n : ℕ) (bs : List BlockTree)
    → all_blocks p n (map placeless_block bs) ≡ all_blocks q n bs
blocks_over p q h n [] = refl
blocks_over p q h n (b ∷ bs) = ap₂ (λ x y. x && y) (h n b) (blocks_over p q h (suc n) bs)

pub forward_aside : (c : ClassTree) → leads_forward (placeless_class c) ≡ leads_forward c
forward_aside c = blocks_over (λ n (b : BlockTree). leads_on n b.last) (λ n (b : BlockTree). leads_on n b.last) (λ n b. on_aside n b.last) 0 c.blocks
  where
    on_aside : (n : ℕ) (l : LastTree) → leads_on n (placeless_last l) ≡ leads_on n l
    on_aside n (GotoLast b) = refl
    on_aside n (PassLast b) = refl
    on_aside n (TestLast e b d) = refl
    on_aside n (ChooseLast g) = refl
    on_aside n (ReturnLast e) = refl
    on_aside n (ThrowLast e) = refl

pub catches_aside : (c : ClassTree) → catchers_kept (placeless_class c) ≡ catchers_kept c
catches_aside c =
    blocks_over (λ n (b : BlockTree). catches (placeless_class c) n b.catcher) (λ n (b : BlockTree). catches c n b.catcher) (λ n b. at n b.catcher) 0 c.blocks
  where
    at : (n : ℕ) (o : Option CatcherTree) → catches (placeless_class c) n o ≡ catches c n o
    at n None = refl
    at n (Some k) = ap (λ x. nat_lt n k.block && x && distinct k.drops) (error_aside k.error)
      where
        error_aside : (o : Option ℕ) → takes_error (placeless_class c) o ≡ takes_error c o
        error_aside None = refl
        error_aside (Some m) = refl

pub chosen_aside : (c : ClassTree) → groups_chosen (placeless_class c) ≡ groups_chosen c
chosen_aside c = once_aside c.groups 1
  where
    choose_aside : (g : ℕ) (l : LastTree) → chooses g (placeless_last l) ≡ chooses g l
    choose_aside g (GotoLast b) = refl
    choose_aside g (PassLast b) = refl
    choose_aside g (TestLast e b d) = refl
    choose_aside g (ChooseLast h) = refl
    choose_aside g (ReturnLast e) = refl
    choose_aside g (ThrowLast e) = refl

    times_aside : (g : ℕ) (bs : List BlockTree) → times_chosen g (map placeless_block bs) ≡ times_chosen g bs
    times_aside g [] = refl
    times_aside g (b ∷ bs) = ap₂ (λ x n. (if x then 1 else 0) + n) (choose_aside g b.last) (times_aside g bs)

    once_aside : (gs : List (List CallbackTree)) (g : ℕ) → each_once (map placeless_block c.blocks) g (map (map placeless_callback) gs) ≡ each_once c.blocks g gs
    once_aside [] g = refl
    once_aside (ks ∷ gs) g = ap₂ (λ n x. nat_eq n 1 && x) (times_aside g c.blocks) (once_aside gs (suc g))
