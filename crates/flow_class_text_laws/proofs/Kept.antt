-- A class that keeps the rules and can be said can be written: what is named in it exists, and each target is there.
use Rattle.std.proofs.Common.{◌≡◌, ℕ, zero, suc, ◌≤◌, ◌<◌, ◌+◌, ◌*◌, ◌^◌, nat_lt, Bool, true, false, ◌&&◌, List, [], ◌∷◌, ◌++◌, length, map, slice_get, if◌then◌else◌, refl, ap, sym, subst, ◌∙◌, arith, length-append}
use Rattle.std.specs.Prelude.{is_none}
use Rattle.std.specs.List.{AllByRecursion, list_all}
use Rattle.std.specs.Option.{option_map}
use Rattle.std.specs.Str.{bytes_eq}
use Rattle.std.proofs.lemmas.Bool.{false≢true}
use Rattle.std.proofs.lemmas.Bool.Decides.{nat_tests}
use Rattle.std.proofs.lemmas.List.Folds.{list_all-append}
use Rattle.std.specs.declared.option.Option.{Option}
use Rattle.std.specs.declared.option.Option.TheVariants.{None, Some}
use Rattle.flow_tree.specs.declared.limits.TheConstants.{BRANCHES}
use Rattle.flow_tree.specs.declared.token.Token.TheVariants as token
use Rattle.flow_tree.specs.declared.ty.Ident.{Ident}
use Rattle.flow_tree.specs.Tree.{TypeTree, ExprTree}
use Rattle.flow_tree.specs.Decls.{SlotTree}
use Rattle.flow_ast.specs.TypingNames.{named, constant_names}
use Rattle.flow_ast.specs.Typing.{is_there}
use Rattle.flow_class.specs.declared.class.Slotted.{Slotted}
use Rattle.flow_class.specs.declared.class.Slotted.TheVariants.{Slot, Local}
use Rattle.flow_class.specs.Places.{place_name, place_named}
use Rattle.flow_class.specs.Code.{group_at}
use Rattle.flow_class.specs.Classes.{CatcherTree, InstrTree, SetInstr, EffectInstr, NewInstr, ActInstr, DropInstr, LastTree, GotoLast, PassLast, TestLast, ChooseLast, ReturnLast, ThrowLast, BlockTree, CallbackTree, ClassTree, RawTree}
use Rattle.flow_rules.specs.Known.{known}
use Rattle.flow_rules.specs.Judged.{Setting, variable_as, variable_form, fault, form}
use Rattle.flow_rules.specs.Items.{path_fault, target_form, target_fault, assigned, base_fault, ends_of, call_fault}
use Rattle.flow_rules.proofs.Lesser.{no_first, holds}
use Rattle.flow_valid.specs.Heads.{all_decls}
use Rattle.flow_valid.specs.Named.{listed, expr_places, instr_places, has_place, has_block, has_catcher, has_group, has_last, has_named, has_operand, names_exist}
use Rattle.flow_valid.specs.Validity.{slot_rows, local_rows, class_setting, put_fault, is_effect, instr_fits, last_fits, block_fits, types_fit}
use Rattle.flow_typing_laws.proofs.Typing.Names.{none_some, there, bytes_same}
use Rattle.flow_classprint.specs.ClassGrammar.{IsNumber, IsPlace, IsSpelled, var_path, callee, method}
use Rattle.flow_class_text_laws.proofs.Writable.{PathWritable, CalleeWritable, AreNumbers, SomeNumbers, InstrWritable, LastWritable, IsMaybeNumber, IsMaybePlace, CatchWritable, BlockWritable, CallbackWritable, GroupWritable, SlotWritable, TypeWritable, ResultWritable, SomeBlocks, FewFrom, all_callbacks, ClassWritable}
use Rattle.flow_class_text_laws.proofs.Names.{place_again}
use Rattle.flow_class_text_laws.proofs.Bodies.{PathSaid, no_path}
use Rattle.flow_class_text_laws.proofs.Changes.{Reached}
use Rattle.flow_class_text_laws.proofs.Said.{CalledSaid, DropsSaid, InstrSaid, InstrsSaid, LastSaid, BlockSaid, CallbackSaid, GroupSaid}
use Rattle.flow_class_text_laws.proofs.Nesting.{AllSized, Where, where_named, front, back, reached}

-- tests that hold
pub both : (a b : Bool) → a && b ≡ true → (a ≡ true) × (b ≡ true)
both true b h = (refl, h)
both false b h = absurd (false≢true h)

three : (a b c : Bool) → a && b && c ≡ true → (a ≡ true) × (b ≡ true) × (c ≡ true)
three true true c h = (refl, refl, h)
three true false c h = absurd (false≢true h)
three false b c h = absurd (false≢true h)

in_both : {A : Type 0} (q : A → Bool) (xs ys : List A) → list_all q (xs ++ ys) ≡ true → (list_all q xs ≡ true) × (list_all q ys ≡ true)
in_both q xs ys h = both (list_all q xs) (list_all q ys) (sym (list_all-append q xs ys) ∙ h)

is_less : (a b : ℕ) → nat_lt a b ≡ true → a < b
is_less a b h = grind (arith, nat_tests, h)

pub no_fault : {A : Type 0} (o : Option A) → is_none o ≡ true → o ≡ None
no_fault None h = refl
no_fault (Some k) h = absurd (false≢true h)

within : {A : Type 0} (xs : List A) (n : ℕ) → is_there (slice_get xs n) ≡ true → n < length xs
within [] n h = absurd (false≢true h)
within (x ∷ xs) zero h = omega arith
within (x ∷ xs) (suc n) h = let l = within xs n h in omega (arith, l)

mapped : {A B : Type 0} (f : A → B) (o : Option A) → is_there (option_map f o) ≡ true → is_there o ≡ true
mapped f None h = h
mapped f (Some x) h = refl

-- a class with few slots, locals, blocks and groups
pub record IsFew (c : ClassTree) : Type 0 where
  pub params : IsNumber c.params
  pub slots : length c.slots < 2 ^ 32
  pub locals : length c.locals < 2 ^ 32
  pub blocks : length c.blocks < 2 ^ 32
  pub groups : length c.groups * BRANCHES < 2 ^ 32

-- and what can be said of it
pub record ClassSaid (c : ClassTree) : Type 0 where
  pub name : IsSpelled (token.Name c.name)
  pub returns : ResultWritable c.returns
  pub slots : AllByRecursion SlotWritable c.slots
  pub locals : AllByRecursion TypeWritable c.locals
  pub some : 0 < length c.blocks
  pub blocks : AllByRecursion BlockSaid c.blocks
  pub groups : AllByRecursion GroupSaid c.groups

-- a name of a place of a class is that of one with a small number
record Rooted (x : List ℕ) : Type 0 where
  to : Slotted
  is : place_named x ≡ Some to
  small : IsPlace to

rooted : (p : Slotted) (x : List ℕ) → IsPlace p → bytes_eq x (place_name p) ≡ true → Rooted x
rooted p x h e = record { to = p; is = ap place_named (bytes_same x (place_name p) e) ∙ place_again p h; small = h }

slot_rooted : (n : ℕ) (ss : List SlotTree) (x : List ℕ) (t : TypeTree) → n + length ss < 2 ^ 32 → named (slot_rows n ss) x ≡ Some t → Rooted x
slot_rooted n [] x t l e = absurd (none_some e)
slot_rooted n (s ∷ ss) x t l e = by_name (bytes_eq x (place_name (Slot n))) refl e (slot_rooted (suc n) ss x t (omega (arith, l)))
  where
    by_name : (b : Bool) → bytes_eq x (place_name (Slot n)) ≡ b → (if b then Some s.ty else named (slot_rows (suc n) ss) x) ≡ Some t → (named (slot_rows (suc n) ss) x ≡ Some t → Rooted x) → Rooted x
    by_name true is f rest = rooted (Slot n) x (omega (arith, l)) is
    by_name false is f rest = rest f

local_rooted : (n : ℕ) (ts : List TypeTree) (x : List ℕ) (t : TypeTree) → n + length ts < 2 ^ 32 → named (local_rows n ts) x ≡ Some t → Rooted x
local_rooted n [] x t l e = absurd (none_some e)
local_rooted n (s ∷ ts) x t l e = by_name (bytes_eq x (place_name (Local n))) refl e (local_rooted (suc n) ts x t (omega (arith, l)))
  where
    by_name : (b : Bool) → bytes_eq x (place_name (Local n)) ≡ b → (if b then Some s else named (local_rows (suc n) ts) x) ≡ Some t → (named (local_rows (suc n) ts) x ≡ Some t → Rooted x) → Rooted x
    by_name true is f rest = rooted (Local n) x (omega (arith, l)) is
    by_name false is f rest = rest f

path_written : (x : Ident) (xs : List Ident) → Rooted x.name → PathSaid (x ∷ xs) → PathWritable (x ∷ xs)
path_written x xs r h = record { tokens = h.tokens; rule = var_path r.to r.is r.small h.rule; are = h.are }

module _ (r : RawTree) (c : ClassTree) (few : IsFew c) (sized : AllSized (known (all_decls r))) where
  abbrev s : Setting
  s = class_setting r c

  variable_rooted : (x : List ℕ) → is_there (named s.vars x) ≡ true → Rooted x
  variable_rooted x h =
      let t = there (named s.vars x) h in
      by_place t.value (where_named (slot_rows 0 c.slots) (local_rows 0 c.locals) x t.value t.is)
    where
      by_place : (t : TypeTree) → Where (slot_rows 0 c.slots) (local_rows 0 c.locals) x t → Rooted x
      by_place t (front e) = slot_rooted 0 c.slots x t (omega (arith, few.slots)) e
      by_place t (back e f) = local_rooted 0 c.locals x t (omega (arith, few.locals)) f

  target_written : (xs : List Ident) → target_fault s xs ≡ None → PathSaid xs → PathWritable xs
  target_written [] e h = absurd (no_path h)
  target_written (x ∷ xs) e h = path_written x xs (variable_rooted x.name (holds (is_there (named s.vars x.name)) _ (no_first _ (path_fault s (named s.vars x.name) xs) e))) h

  target_reached : (xs : List Ident) → target_fault s xs ≡ None → Reached xs
  target_reached xs e = reached s sized.sizes sized.sized xs e

  put_target : (effect : Bool) (xs : List Ident) (e : ExprTree) → put_fault s effect xs e ≡ None → target_fault s xs ≡ None
  put_target effect xs e h = no_first (target_fault s xs) (fault s effect e) (no_first _ (assigned (form s e) (target_form s xs)) h)

  base_written : (x : Ident) (xs : List Ident) → base_fault s (x ∷ xs) ≡ None → named constant_names x.name ≡ None → Rooted x.name
  base_written x xs e plain =
      let known = holds (is_there (variable_form s x.name)) _ (no_first _ (path_fault s (variable_form s x.name) xs) e) in
      variable_rooted x.name (subst (λ o. is_there (variable_as s x.name o) ≡ true) plain known)

  called_written : (xs : List Ident) (es : _) → call_fault s xs es ≡ None → CalledSaid xs → CalleeWritable xs
  called_written [] es e h = absurd h
  called_written (f ∷ []) es e h = record { tokens = _; rule = callee f; are = ((h, tt), tt) }
  called_written (x ∷ (y ∷ ys)) es e h =
      let root = base_written x (ends_of y ys).0 (no_first (base_fault s (x ∷ (ends_of y ys).0)) _ e) h.1 in
      let path = path_written x (y ∷ ys) root h.0 in
      record { tokens = path.tokens; rule = method path.rule; are = path.are }

  -- numbers of what there is
  place_is : (p : Slotted) → has_place c p ≡ true → IsPlace p
  place_is (Slot n) h = let l = within c.slots n (mapped _ (slice_get c.slots n) h) in omega (arith, l, few.slots)
  place_is (Local n) h = let l = within c.locals n h in omega (arith, l, few.locals)

  locals_are : (ns : List ℕ) → list_all (has_place c) (map Local ns) ≡ true → AreNumbers ns
  locals_are [] h = tt
  locals_are (n ∷ ns) h = let b = both (has_place c (Local n)) (list_all (has_place c) (map Local ns)) h in (place_is (Local n) b.0, locals_are ns b.1)

  some_are : (ns : List ℕ) → DropsSaid ns → list_all (has_place c) (map Local ns) ≡ true → SomeNumbers ns
  some_are [] d h = d
  some_are (n ∷ ns) d h = locals_are (n ∷ ns) h

  listed_is : (o : Option Slotted) → list_all (has_place c) (listed o) ≡ true → IsMaybePlace o
  listed_is None h = tt
  listed_is (Some p) h = place_is p (both (has_place c p) true h).0

  block_is : (n : ℕ) → has_block c n ≡ true → IsNumber n
  block_is n h = let l = is_less n (length c.blocks) h in omega (arith, l, few.blocks)

  -- instructions
  instr_writable : (i : InstrTree) → InstrSaid i → list_all (has_place c) (instr_places i) ≡ true → instr_fits c s i ≡ true → InstrWritable i
  instr_writable (SetInstr xs e) h there fits =
      let target = put_target false xs e (no_fault _ fits) in
      (target_written xs target h.0.0, h.1 (target_reached xs target))
  instr_writable (EffectInstr xs e) h there fits =
      let target = put_target true xs e (no_fault _ (both (is_effect s e) _ fits).1) in
      (target_written xs target h.0.0, h.1 (target_reached xs target))
  instr_writable (NewInstr p) h there fits = place_is p (both (has_place c p) true there).0
  instr_writable (ActInstr xs es) h there fits = (called_written xs es (no_fault _ fits) h.0, h.1)
  instr_writable (DropInstr ns) h there fits = some_are ns h there

  instrs_writable : (is : List InstrTree) → InstrsSaid is → list_all (λ (i : InstrTree). list_all (has_place c) (instr_places i)) is ≡ true → list_all (instr_fits c s) is ≡ true
      → AllByRecursion InstrWritable is
  instrs_writable [] h there fits = tt
  instrs_writable (i ∷ is) h there fits =
      let n = both (list_all (has_place c) (instr_places i)) _ there in
      let f = both (instr_fits c s i) _ fits in
      (instr_writable i h.0 n.0 f.0, instrs_writable is h.1 n.1 f.1)

  group_is : (g : ℕ) → is_there (group_at c.groups g) ≡ true → IsNumber g
  group_is zero h = omega arith
  group_is (suc n) h = let l = within c.groups n h in omega (arith, l, few.groups)

  last_writable : (l : LastTree) → LastSaid l → has_last c l ≡ true → LastWritable l
  last_writable (GotoLast b) h n = block_is b (both (has_block c b) true (three (has_group c (GotoLast b)) (list_all (has_block c) (b ∷ [])) (list_all (has_place c) []) n).1).0
  last_writable (PassLast b) h n = block_is b (both (has_block c b) true (three (has_group c (PassLast b)) (list_all (has_block c) (b ∷ [])) (list_all (has_place c) []) n).1).0
  last_writable (TestLast e y z) h n =
      let t = both (has_block c y) _ (three (has_group c (TestLast e y z)) (list_all (has_block c) (y ∷ z ∷ [])) (list_all (has_place c) (expr_places e)) n).1 in
      (h, block_is y t.0, block_is z (both (has_block c z) true t.1).0)
  last_writable (ChooseLast g) h n = group_is g (three (has_group c (ChooseLast g)) (list_all (has_block c) []) (list_all (has_place c) []) n).0
  last_writable (ReturnLast None) h n = h
  last_writable (ReturnLast (Some e)) h n = h
  last_writable (ThrowLast e) h n = h

  catch_writable : (k : Option CatcherTree) → has_catcher c k ≡ true → CatchWritable k
  catch_writable None h = tt
  catch_writable (Some k) h =
      let b = both (has_block c k.block) _ h in
      let p = in_both (has_place c) (listed (option_map Local k.error)) (map Local k.drops) b.1 in
      (block_is k.block b.0, error_is k.error p.0, locals_are k.drops p.1)
    where
      error_is : (o : Option ℕ) → list_all (has_place c) (listed (option_map Local o)) ≡ true → IsMaybeNumber o
      error_is None h = tt
      error_is (Some n) h = place_is (Local n) (both (has_place c (Local n)) true h).0

  block_writable : (b : BlockTree) → BlockSaid b → has_named c b ≡ true → block_fits c s b ≡ true → BlockWritable b
  block_writable b h named fits =
      let n = three (has_catcher c b.catcher) (list_all (λ (i : InstrTree). list_all (has_place c) (instr_places i)) b.body) (has_last c b.last) named in
      let f = both (list_all (instr_fits c s) b.body) (last_fits c s b.last) fits in
      (catch_writable b.catcher n.0, instrs_writable b.body h.0 n.1 f.0, last_writable b.last h.1 n.2)

  blocks_writable : (bs : List BlockTree) → AllByRecursion BlockSaid bs → list_all (has_named c) bs ≡ true → list_all (block_fits c s) bs ≡ true → AllByRecursion BlockWritable bs
  blocks_writable [] h named fits = tt
  blocks_writable (b ∷ bs) h named fits =
      let n = both (has_named c b) _ named in
      let f = both (block_fits c s b) _ fits in
      (block_writable b h.0 n.0 f.0, blocks_writable bs h.1 n.1 f.1)

  callbacks_writable : (ks : List CallbackTree) → AllByRecursion CallbackSaid ks → list_all (has_operand c) ks ≡ true → AllByRecursion CallbackWritable ks
  callbacks_writable [] h named = tt
  callbacks_writable (k ∷ ks) h named =
      let n = both (has_operand c k) _ named in
      let o = both (has_block c k.block) _ n.0 in
      let p = in_both (has_place c) (expr_places k.operand) (listed k.into) o.1 in
      ((h.0, listed_is k.into p.1, block_is k.block o.0), callbacks_writable ks h.1 n.1)

  group_writable : (ks : List CallbackTree) → GroupSaid ks → list_all (has_operand c) ks ≡ true → GroupWritable ks
  group_writable [] h named = h
  group_writable (k ∷ ks) h named = (h.0, callbacks_writable (k ∷ ks) h.1 named)

  groups_writable : (gs : List (List CallbackTree)) → AllByRecursion GroupSaid gs → list_all (list_all (has_operand c)) gs ≡ true → AllByRecursion GroupWritable gs
  groups_writable [] h named = tt
  groups_writable (g ∷ gs) h named = let n = both (list_all (has_operand c) g) _ named in (group_writable g h.0 n.0, groups_writable gs h.1 n.1)

  few_from : {A : Type 0} (n : ℕ) (xs : List A) → n + length xs ≤ 2 ^ 32 → FewFrom n xs
  few_from n [] l = tt
  few_from n (x ∷ xs) l = (omega (arith, l), few_from (n + 1) xs (omega (arith, l)))

  group_size : (g : List CallbackTree) → GroupSaid g → length g ≤ BRANCHES
  group_size [] h = absurd h
  group_size (k ∷ ks) h = h.0

  callbacks_few : (gs : List (List CallbackTree)) → AllByRecursion GroupSaid gs → length (all_callbacks gs) ≤ length gs * BRANCHES
  callbacks_few [] h = omega arith
  callbacks_few (g ∷ gs) h = omega (arith, length-append g (all_callbacks gs), group_size g h.0, callbacks_few gs h.1)

  some_blocks : (bs : List BlockTree) → 0 < length bs → AllByRecursion BlockWritable bs → SomeBlocks bs
  some_blocks [] l h = absurd (omega (arith, l))
  some_blocks (b ∷ bs) l h = h

  pub class_writable : names_exist c ≡ true → types_fit r c ≡ true → ClassSaid c → ClassWritable c
  class_writable named fits h =
      let n = both (list_all (has_named c) c.blocks) _ named in
      let f = both (list_all (block_fits c s) c.blocks) _ fits in
      record {
        name = h.name;
        returns = h.returns;
        params = few.params;
        slots = h.slots;
        few_slots = few_from 0 c.slots (omega (arith, few.slots));
        locals = h.locals;
        few_locals = few_from 0 c.locals (omega (arith, few.locals));
        blocks = some_blocks c.blocks h.some (blocks_writable c.blocks h.blocks n.0 f.0);
        few_blocks = few_from 0 c.blocks (omega (arith, few.blocks));
        groups = groups_writable c.groups h.groups n.1;
        few_groups = few_from 1 c.groups (omega (arith, few.groups));
        few_callbacks = few_from 0 (all_callbacks c.groups) (omega (arith, few.groups, callbacks_few c.groups h.groups));
      }
