-- Valid classes keep the rules, instruction by instruction.
use Rattle.std.proofs.Common.{◌≡◌, ℕ, zero, suc, ◌+◌, Bool, true, false, ◌&&◌, ◌||◌, List, [], ◌∷◌, ◌++◌, refl, sym, ap, subst, arith}
use Rattle.std.specs.Prelude.{nat_lt, slice_get}
use Rattle.std.specs.List.{list_all, list_any}
use Rattle.std.specs.Option.{option_and_then}
use Rattle.std.proofs.lemmas.Bool.{false≢true}
use Rattle.std.specs.declared.option.Option.{Option}
use Rattle.std.specs.declared.option.Option.TheVariants.{None, Some}
use Rattle.flow_tree.specs.declared.ty.Ident.{Ident}
use Rattle.flow_tree.specs.Tree.{TypeTree, ErrorType}
use Rattle.flow_rules.specs.Judged.{Setting}
use Rattle.flow_class.specs.declared.class.Slotted.{Slotted}
use Rattle.flow_class.specs.declared.class.Slotted.TheVariants.{Slot, Local}
use Rattle.flow_class.specs.Classes.{CatcherTree, InstrTree, SetInstr, EffectInstr, NewInstr, ActInstr, DropInstr, LastTree, GotoLast, PassLast, TestLast, ChooseLast, ReturnLast, ThrowLast, BlockTree, CallbackTree, ClassTree, RawTree}
use Rattle.flow_class.specs.Code.{Fetched, Body, Last, Nothing, fetch_in, fetch_at, fetch, catcher_in, catcher_at, group_at, callback_at, type_at}
use Rattle.flow_valid.specs.Named.{listed, expr_places, path_place, base_place, instr_places, last_places, catcher_places, targets, has_place, has_block, has_catcher, has_group, has_last, has_named, has_operand}
use Rattle.flow_valid.specs.Filling.{same_place, among, operands, instr_reads, group_reads, reads}
use Rattle.flow_valid.specs.Validity.{IsValid, all_blocks, is_of, takes_error, distinct, catches, instr_fits, last_fits, callback_fits, block_fits}
use Rattle.flow_valid.proofs.ClassRules.{Sound, sound_of}
use Rattle.flow_typing_laws.proofs.Typing.Names.{type_same, none_some, some_same, there}
use Rattle.flow_progress.specs.Places.{class_vars}
use Rattle.flow_progress.specs.Rules.{InstrFits, BranchFits, IsBlock, LastFits, KeepsRules, ClassRules}
use Rattle.flow_progress.specs.Written.{IsWritten, AreWritten, heads, FunctionsKept}
use Rattle.flow_progress.proofs.Tops.{first_true, second_true, kept_params}
use Rattle.flow_progress.proofs.Variables.{are_named, same_setting}
use Rattle.flow_progress.proofs.Instructions.{here, instr_typed, block_there, branch_typed, last_typed}

-- what all pass, each passes
at_all : {A : Type 0} (p : A → Bool) (xs : List A) (n : ℕ) (x : A) → list_all p xs ≡ true → slice_get xs n ≡ Some x → p x ≡ true
at_all p [] n x h e = absurd (none_some e)
at_all p (y ∷ ys) zero x h e = subst (λ z. p z ≡ true) (some_same y x e) (first_true (p y) (list_all p ys) h)
at_all p (y ∷ ys) (suc n) x h e = at_all p ys n x (second_true (p y) (list_all p ys) h) e

all_first : {A : Type 0} (p : A → Bool) (xs ys : List A) → list_all p (xs ++ ys) ≡ true → list_all p xs ≡ true
all_first p [] ys h = refl
all_first p (x ∷ xs) ys h = both (p x) (list_all p xs) (first_true (p x) (list_all p (xs ++ ys)) h) (all_first p xs ys (second_true (p x) (list_all p (xs ++ ys)) h))
  where
    both : (a b : Bool) → a ≡ true → b ≡ true → a && b ≡ true
    both true b e f = f
    both false b e f = absurd (false≢true e)

all_second : {A : Type 0} (p : A → Bool) (xs ys : List A) → list_all p (xs ++ ys) ≡ true → list_all p ys ≡ true
all_second p [] ys h = h
all_second p (x ∷ xs) ys h = all_second p xs ys (second_true (p x) (list_all p (xs ++ ys)) h)

at_blocks : (p : ℕ → BlockTree → Bool) (m : ℕ) (bs : List BlockTree) (n : ℕ) (b : BlockTree) → all_blocks p m bs ≡ true → slice_get bs n ≡ Some b → p (m + n) b ≡ true
at_blocks p m [] n b h e = absurd (none_some e)
at_blocks p m (d ∷ bs) zero b h e =
    let z : m ≡ m + 0 = omega arith in
    subst (λ k. p k b ≡ true) z (subst (λ x. p m x ≡ true) (some_same d b e) (first_true (p m d) (all_blocks p (suc m) bs) h))
at_blocks p m (d ∷ bs) (suc n) b h e =
    let z : suc m + n ≡ m + suc n = omega arith in
    subst (λ k. p k b ≡ true) z (at_blocks p (suc m) bs n b (second_true (p m d) (all_blocks p (suc m) bs) h) e)

-- what is fetched stands in a block
record InBlock (c : ClassTree) (b n : ℕ) (f : Fetched) : Type 0 where
  block : BlockTree
  is : slice_get c.blocks b ≡ Some block
  at : fetch_in block.body block.last n ≡ f

in_block : (c : ClassTree) (b n : ℕ) (f : Fetched) → fetch c b n ≡ f → (f ≡ Nothing → ⊥) → InBlock c b n f
in_block c b n f e some = go (slice_get c.blocks b) refl e
  where
    go : (o : Option BlockTree) → slice_get c.blocks b ≡ o → fetch_at o n ≡ f → InBlock c b n f
    go None q e = absurd (some (sym e))
    go (Some k) q e = record { block = k; is = q; at = e }

same_body : (i j : InstrTree) → Body i ≡ Body j → i ≡ j
same_body i j e = cc

same_last : (k l : LastTree) → Last k ≡ Last l → k ≡ l
same_last k l e = cc

instr_in : (p : InstrTree → Bool) (is : List InstrTree) (l : LastTree) (n : ℕ) (i : InstrTree) → fetch_in is l n ≡ Body i → list_all p is ≡ true → p i ≡ true
instr_in p [] l zero i e h = absurd cc
instr_in p [] l (suc n) i e h = absurd cc
instr_in p (j ∷ js) l zero i e h = subst (λ k. p k ≡ true) (same_body j i e) (first_true (p j) (list_all p js) h)
instr_in p (j ∷ js) l (suc n) i e h = instr_in p js l n i e (second_true (p j) (list_all p js) h)

last_in : (is : List InstrTree) (k : LastTree) (n : ℕ) (l : LastTree) → fetch_in is k n ≡ Last l → k ≡ l
last_in [] k zero l e = same_last k l e
last_in [] k (suc n) l e = absurd cc
last_in (j ∷ js) k zero l e = absurd cc
last_in (j ∷ js) k (suc n) l e = last_in js k n l e

-- places among others
same_is : (p q : Slotted) → same_place p q ≡ true → q ≡ p
same_is (Slot m) (Slot n) e = let f : n ≡ m = grind (arith, e) in ap Slot f
same_is (Local m) (Local n) e = let f : n ≡ m = grind (arith, e) in ap Local f
same_is (Slot m) (Local n) e = absurd (false≢true e)
same_is (Local m) (Slot n) e = absurd (false≢true e)

among_all : (p : Slotted → Bool) (ps : List Slotted) (q : Slotted) → among ps q ≡ true → list_all p ps ≡ true → p q ≡ true
among_all p [] q e h = absurd (false≢true e)
among_all p (x ∷ xs) q e h = by_test (same_place q x) refl e (λ f. among_all p xs q f (second_true (p x) (list_all p xs) h))
  where
    by_test : (b : Bool) → same_place q x ≡ b → b || list_any (same_place q) xs ≡ true → (list_any (same_place q) xs ≡ true → p q ≡ true) → p q ≡ true
    by_test true s e f = subst (λ z. p z ≡ true) (same_is q x s) (first_true (p x) (list_all p xs) h)
    by_test false s e f = f e

base_all : (p : Slotted → Bool) (path : List Ident) (ps : List Slotted) → list_all p (path_place path ++ ps) ≡ true → list_all p (base_place path ++ ps) ≡ true
base_all p [] ps h = h
base_all p (x ∷ []) ps h = all_second p (path_place (x ∷ [])) ps h
base_all p (x ∷ (y ∷ ys)) ps h = h

read_all : (p : Slotted → Bool) (i : InstrTree) → list_all p (instr_places i) ≡ true → list_all p (instr_reads i) ≡ true
read_all p (SetInstr path e) h = base_all p path (expr_places e) h
read_all p (EffectInstr path e) h = base_all p path (expr_places e) h
read_all p (NewInstr q) h = refl
read_all p (ActInstr path es) h = h
read_all p (DropInstr ns) h = refl

module _ (r : RawTree) (valid : IsValid r) (k : ℕ) (c : ClassTree) (at : slice_get r.classes k ≡ Some c) (w : IsWritten c) where
  kept_names : Sound r c
  kept_names = sound_of r c (valid.classes k c at).tested

  abbrev set : Setting
  set = here r valid c

  fitting : list_all (block_fits c set) c.blocks && list_all (list_all (callback_fits c set)) c.groups ≡ true
  fitting = subst (λ s. list_all (block_fits c s) c.blocks && list_all (list_all (callback_fits c s)) c.groups ≡ true) (same_setting r c) kept_names.types

  -- a block
  block_fitting : (b : ℕ) (d : BlockTree) → slice_get c.blocks b ≡ Some d → block_fits c set d ≡ true
  block_fitting b d e = at_all (block_fits c set) c.blocks b d (first_true (list_all (block_fits c set) c.blocks) (list_all (list_all (callback_fits c set)) c.groups) fitting) e

  block_named : (b : ℕ) (d : BlockTree) → slice_get c.blocks b ≡ Some d → has_named c d ≡ true
  block_named b d e = at_all (has_named c) c.blocks b d (first_true (list_all (has_named c) c.blocks) (list_all (list_all (has_operand c)) c.groups) kept_names.names) e

  abbrev bodies : BlockTree → Bool
  bodies d = list_all (λ (i : InstrTree). list_all (has_place c) (instr_places i)) d.body

  catcher_named : (b : ℕ) (d : BlockTree) → slice_get c.blocks b ≡ Some d → has_catcher c d.catcher ≡ true
  catcher_named b d e = first_true (has_catcher c d.catcher) (bodies d) (first_true (has_catcher c d.catcher && bodies d) (has_last c d.last) (block_named b d e))

  body_named : (b : ℕ) (d : BlockTree) → slice_get c.blocks b ≡ Some d → bodies d ≡ true
  body_named b d e = second_true (has_catcher c d.catcher) (bodies d) (first_true (has_catcher c d.catcher && bodies d) (has_last c d.last) (block_named b d e))

  last_named : (b : ℕ) (d : BlockTree) → slice_get c.blocks b ≡ Some d → has_last c d.last ≡ true
  last_named b d e = second_true (has_catcher c d.catcher && bodies d) (has_last c d.last) (block_named b d e)

  -- a callback
  in_group : (p : CallbackTree → Bool) (gs : List (List CallbackTree)) (g : ℕ) (ks : List CallbackTree) → list_all (list_all p) gs ≡ true → group_at gs g ≡ Some ks → list_all p ks ≡ true
  in_group p gs zero ks h e = absurd (none_some e)
  in_group p gs (suc n) ks h e = at_all (list_all p) gs n ks h e

  at_callback : (p : CallbackTree → Bool) (g n : ℕ) (d : CallbackTree) → list_all (list_all p) c.groups ≡ true → callback_at c g n ≡ Some d → p d ≡ true
  at_callback p g n d h e = go (group_at c.groups g) refl e
    where
      go : (o : Option (List CallbackTree)) → group_at c.groups g ≡ o → option_and_then (λ cs. slice_get cs n) o ≡ Some d → p d ≡ true
      go None q e = absurd (none_some e)
      go (Some ks) q e = at_all p ks n d (in_group p c.groups g ks h q) e

  groups_named : list_all (list_all (has_operand c)) c.groups ≡ true
  groups_named = second_true (list_all (has_named c) c.blocks) (list_all (list_all (has_operand c)) c.groups) kept_names.names

  branches : (g n : ℕ) (d : CallbackTree) → callback_at c g n ≡ Some d → BranchFits r (heads r) c (class_vars c) d
  branches g n d e =
      branch_typed r valid c d (at_callback (callback_fits c set) g n d (second_true (list_all (block_fits c set) c.blocks) (list_all (list_all (callback_fits c set)) c.groups) fitting) e)
      (first_true (has_block c d.block) (list_all (has_place c) (expr_places d.operand ++ listed d.into)) (at_callback (has_operand c) g n d groups_named e))

  instructions : (b n : ℕ) (i : InstrTree) → fetch c b n ≡ Body i → InstrFits r (heads r) c (class_vars c) i
  instructions b n i e =
      let d = in_block c b n (Body i) e (λ x. cc) in
      instr_typed r valid c i (w.paths b n i e)
      (instr_in (instr_fits c set) d.block.body d.block.last n i d.at (first_true (list_all (instr_fits c set) d.block.body) (last_fits c set d.block.last) (block_fitting b d.block d.is)))

  lasts : (b n : ℕ) (l : LastTree) → fetch c b n ≡ Last l → LastFits r (heads r) c (class_vars c) l
  lasts b n l e =
      let d = in_block c b n (Last l) e (λ x. cc) in
      subst (LastFits r (heads r) c (class_vars c)) (last_in d.block.body d.block.last n l d.at)
      (last_typed r valid c d.block.last (second_true (list_all (instr_fits c set) d.block.body) (last_fits c set d.block.last) (block_fitting b d.block d.is)) (last_named b d.block d.is) branches)

  -- a catch part
  error_type : (o : Option TypeTree) → is_of ErrorType o ≡ true → o ≡ Some ErrorType
  error_type None h = absurd (false≢true h)
  error_type (Some t) h = ap Some (sym (type_same ErrorType t h))

  catcher_there : (b : ℕ) (q : CatcherTree) (o : Option BlockTree) → slice_get c.blocks b ≡ o → catcher_in o ≡ Some q → (d : BlockTree) × (slice_get c.blocks b ≡ Some d) × (d.catcher ≡ Some q)
  catcher_there b q None s e = absurd (none_some e)
  catcher_there b q (Some d) s e = (d, s, e)

  takes_local : (o : Option ℕ) (n : ℕ) → takes_error c o ≡ true → o ≡ Some n → type_at c (Local n) ≡ Some ErrorType
  takes_local None n h e = absurd (none_some e)
  takes_local (Some m) n h e = subst (λ x. type_at c (Local x) ≡ Some ErrorType) (some_same m n e) (error_type (type_at c (Local m)) h)

  catchers : (b : ℕ) (q : CatcherTree) → catcher_at c b ≡ Some q → IsBlock r (heads r) c (class_vars c) q.block × ((n : ℕ) → q.error ≡ Some n → type_at c (Local n) ≡ Some ErrorType)
  catchers b q e =
      let d = catcher_there b q (slice_get c.blocks b) refl e in
      let h = subst (λ o. has_catcher c o ≡ true) d.2 (catcher_named b d.0 d.1) in
      let m = subst (λ o. catches c (0 + b) o ≡ true) d.2 (at_blocks (λ n (x : BlockTree). catches c n x.catcher) 0 c.blocks b d.0 kept_names.catchers d.1) in
      let t = second_true (nat_lt (0 + b) q.block) (takes_error c q.error) (first_true (nat_lt (0 + b) q.block && takes_error c q.error) (distinct q.drops) m) in
      (block_there r valid c q.block (first_true (has_block c q.block) (list_all (has_place c) (catcher_places q)) h), λ n f. takes_local q.error n t f)

  -- what is read has a type
  has_type : (q : Slotted) → has_place c q ≡ true → (t : TypeTree) × (type_at c q ≡ Some t)
  has_type q h = let t = there (type_at c q) h in (t.value, t.is)

  operands_all : (ks : List CallbackTree) → list_all (has_operand c) ks ≡ true → list_all (has_place c) (operands ks) ≡ true
  operands_all [] h = refl
  operands_all (d ∷ ks) h =
      let a = first_true (has_operand c d) (list_all (has_operand c) ks) h in
      let b = second_true (has_block c d.block) (list_all (has_place c) (expr_places d.operand ++ listed d.into)) a in
      all_both (expr_places d.operand) (operands ks) (all_first (has_place c) (expr_places d.operand) (listed d.into) b)
      (operands_all ks (second_true (has_operand c d) (list_all (has_operand c) ks) h))
    where
      both : (a b : Bool) → a ≡ true → b ≡ true → a && b ≡ true
      both true b e f = f
      both false b e f = absurd (false≢true e)

      all_both : (xs ys : List Slotted) → list_all (has_place c) xs ≡ true → list_all (has_place c) ys ≡ true → list_all (has_place c) (xs ++ ys) ≡ true
      all_both [] ys h f = f
      all_both (x ∷ xs) ys h f =
          both (has_place c x) (list_all (has_place c) (xs ++ ys)) (first_true (has_place c x) (list_all (has_place c) xs) h)
          (all_both xs ys (second_true (has_place c x) (list_all (has_place c) xs) h) f)

  group_all : (g : ℕ) (o : Option (List CallbackTree)) → group_at c.groups g ≡ o → list_all (has_place c) (group_reads o) ≡ true
  group_all g None e = refl
  group_all g (Some ks) e = operands_all ks (in_group (has_operand c) c.groups g ks groups_named e)

  last_all : (l : LastTree) → has_last c l ≡ true → list_all (has_place c) (reads c (Last l)) ≡ true
  last_all (GotoLast b) h = refl
  last_all (PassLast b) h = refl
  last_all (TestLast e a b) h = second_true (has_group c (TestLast e a b) && list_all (has_block c) (targets (TestLast e a b))) (list_all (has_place c) (last_places (TestLast e a b))) h
  last_all (ChooseLast g) h = group_all g (group_at c.groups g) refl
  last_all (ReturnLast e) h = second_true (has_group c (ReturnLast e) && list_all (has_block c) (targets (ReturnLast e))) (list_all (has_place c) (last_places (ReturnLast e))) h
  last_all (ThrowLast e) h = second_true (has_group c (ThrowLast e) && list_all (has_block c) (targets (ThrowLast e))) (list_all (has_place c) (last_places (ThrowLast e))) h

  reads_all : (b n : ℕ) (f : Fetched) → fetch c b n ≡ f → list_all (has_place c) (reads c f) ≡ true
  reads_all b n Nothing e = refl
  reads_all b n (Body i) e =
      let d = in_block c b n (Body i) e (λ x. cc) in
      read_all (has_place c) i (instr_in (λ (i : InstrTree). list_all (has_place c) (instr_places i)) d.block.body d.block.last n i d.at (body_named b d.block d.is))
  reads_all b n (Last l) e =
      let d = in_block c b n (Last l) e (λ x. cc) in
      last_all l (subst (λ l. has_last c l ≡ true) (last_in d.block.body d.block.last n l d.at) (last_named b d.block d.is))

  pub keeps : KeepsRules r (heads r) c (class_vars c)
  keeps = record {
    places = are_named c w;
    params = kept_params r valid k c at;
    begins = w.begins;
    instructions = instructions;
    lasts = lasts;
    catchers = catchers;
    known = λ b n q h. has_type q (among_all (has_place c) (reads c (fetch c b n)) q h (reads_all b n (fetch c b n) refl));
    filled = (valid.classes k c at).filled;
  }

pub class_rules : (r : RawTree) → IsValid r → AreWritten r → FunctionsKept r → ClassRules r (heads r)
class_rules r valid w fs = record { classes = λ k c at. keeps r valid k c at (w k c at); functions = fs }
