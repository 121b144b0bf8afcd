-- Where all that is named exists and places are few, the code's touches are those of the definition.
use Rattle.std.proofs.Common.{◌≡◌, ℕ, zero, suc, ◌<◌, ◌^◌, Bool, true, ◌&&◌, List, [], ◌∷◌, ◌++◌, map, filter, length, slice_get, refl, sym, ap, ap₂, ◌∙◌, arith}
use Rattle.std.specs.List.{list_all}
use Rattle.std.proofs.lemmas.Bool.{and_parts, and_from, lt-ltb}
use Rattle.std.proofs.lemmas.List.Folds.{list_all-append}
use Rattle.std.specs.Option.{option_map}
use Rattle.std.specs.declared.option.Option.{Option}
use Rattle.std.specs.declared.option.Option.TheVariants.{None, Some}
use Rattle.flow_tree.specs.Decls.{SlotTree}
use Rattle.flow_tree.specs.declared.ty.Ident.{Ident}
use Rattle.flow_ast.specs.Typing.{is_there}
use Rattle.flow_class.specs.declared.class.Slotted.{Slotted}
use Rattle.flow_class.specs.declared.class.Slotted.TheVariants.{Slot, Local}
use Rattle.flow_class.specs.Classes.{InstrTree, SetInstr, EffectInstr, NewInstr, ActInstr, DropInstr, LastTree, GotoLast, PassLast, TestLast, ChooseLast, ReturnLast, ThrowLast, BlockTree, CallbackTree, ClassTree}
use Rattle.flow_class.specs.Code.{group_at}
use Rattle.flow_validate.specs.declared.touch.Touch.{Touch}
use Rattle.flow_validate.specs.declared.touch.Touch.TheVariants.{Throws, Reads, Fills, Empties, Waits}
use Rattle.flow_valid.specs.Named.{listed, expr_places, maybe_places, path_place, base_place, instr_places, last_places, has_place, has_group, has_last, has_named, has_operand, has_block, has_catcher, targets, names_exist}
use Rattle.flow_valid.specs.Filling.{filled_path, instr_reads, instr_fills, operands, group_reads}
use Rattle.flow_validate.specs.Following.{emptied_by, instr_touches, body_touches, last_touches, block_touches}
use Rattle.flow_validate.specs.Small.{is_small, small_places, reads_of, small_fills, small_instr, small_body, small_last, small_block}
use Rattle.flow_validate.specs.Sizes.{HasFewPlaces}
use Rattle.flow_validate.specs.WalkStates.{AreTouches}
use Rattle.std.proofs.lemmas.List.{length-map}

pub there_below : {A : Type 0} (xs : List A) (n : ℕ) → is_there (slice_get xs n) ≡ true → n < length xs
there_below [] n h = cc
there_below (x ∷ xs) zero h = omega arith
there_below (x ∷ xs) (suc n) h = let m : n < length xs = there_below xs n h in omega (arith, m)

pub there_mapped : {A B : Type 0} (f : A → B) (o : Option A) → is_there (option_map f o) ≡ is_there o
there_mapped f None = refl
there_mapped f (Some a) = refl

kept_all : {A : Type 0} (p : A → Bool) (xs : List A) → list_all p xs ≡ true → filter p xs ≡ xs
kept_all p [] h = refl
kept_all p (x ∷ xs) h =
    let both = and_parts (p x) (list_all p xs) h in
    by (p x) both.0 ∙ ap (λ l. x ∷ l) (kept_all p xs both.1)
  where
    by : (b : Bool) → p x ≡ true → filter p (x ∷ xs) ≡ x ∷ filter p xs
    by b e = rw e refl

all_weaker : {A : Type 0} (p q : A → Bool) → ((x : A) → p x ≡ true → q x ≡ true) → (xs : List A) → list_all p xs ≡ true → list_all q xs ≡ true
all_weaker p q f [] h = refl
all_weaker p q f (x ∷ xs) h =
    let both = and_parts (p x) (list_all p xs) h in
    and_from (q x) (list_all q xs) (f x both.0) (all_weaker p q f xs both.1)

none_some : {A : Type 0} (a : A) → None ≡ Some a → ⊥
none_some a e = cc

same_some : {A : Type 0} (a b : A) → Some a ≡ Some b → b ≡ a
same_some a b e = cc

all_at : {A : Type 0} (p : A → Bool) (xs : List A) (n : ℕ) (x : A) → list_all p xs ≡ true → slice_get xs n ≡ Some x → p x ≡ true
all_at p [] n x h e = cc
all_at p (y ∷ ys) zero x h e = let both = and_parts (p y) (list_all p ys) h in ap p (same_some y x e) ∙ both.0
all_at p (y ∷ ys) (suc n) x h e = let both = and_parts (p y) (list_all p ys) h in all_at p ys n x both.1 e

module _ (c : ClassTree) (few : HasFewPlaces c) where
  small_one : (q : Slotted) → has_place c q ≡ true → is_small q ≡ true
  small_one (Slot n) h =
      let below : n < length c.slots = there_below c.slots n (sym (there_mapped (λ (s : SlotTree). s.ty) (slice_get c.slots n)) ∙ h) in
      lt-ltb n (2 ^ 32) (omega (arith, below, few.slots))
  small_one (Local n) h = let below : n < length c.locals = there_below c.locals n h in lt-ltb n (2 ^ 32) (omega (arith, below, few.locals))

  pub all_small : (ps : List Slotted) → list_all (has_place c) ps ≡ true → small_places ps ≡ ps
  all_small ps h = kept_all is_small ps (all_weaker (has_place c) is_small small_one ps h)

  all_read : (ps : List Slotted) → list_all (has_place c) ps ≡ true → reads_of ps ≡ map Reads ps
  all_read ps h = ap (map Reads) (all_small ps h)

  front_of : (ps qs : List Slotted) → list_all (has_place c) (ps ++ qs) ≡ true → list_all (has_place c) ps ≡ true
  front_of ps qs h = (and_parts (list_all (has_place c) ps) (list_all (has_place c) qs) (sym (list_all-append (has_place c) ps qs) ∙ h)).0

  back_of : (ps qs : List Slotted) → list_all (has_place c) (ps ++ qs) ≡ true → list_all (has_place c) qs ≡ true
  back_of ps qs h = (and_parts (list_all (has_place c) ps) (list_all (has_place c) qs) (sym (list_all-append (has_place c) ps qs) ∙ h)).1

  joined : (ps qs : List Slotted) → list_all (has_place c) ps ≡ true → list_all (has_place c) qs ≡ true → list_all (has_place c) (ps ++ qs) ≡ true
  joined ps qs h i = list_all-append (has_place c) ps qs ∙ and_from (list_all (has_place c) ps) (list_all (has_place c) qs) h i

  base_there : (path : List Ident) → list_all (has_place c) (path_place path) ≡ true → list_all (has_place c) (base_place path) ≡ true
  base_there [] h = refl
  base_there (x ∷ []) h = refl
  base_there (x ∷ (y ∷ ys)) h = h

  filled_there : (path : List Ident) → list_all (has_place c) (path_place path) ≡ true → list_all (has_place c) (filled_path path) ≡ true
  filled_there [] h = refl
  filled_there (x ∷ []) h = h
  filled_there (x ∷ (y ∷ ys)) h = refl

  pub reads_there : (i : InstrTree) → list_all (has_place c) (instr_places i) ≡ true → list_all (has_place c) (instr_reads i) ≡ true
  reads_there (SetInstr path e) h = joined (base_place path) (expr_places e) (base_there path (front_of (path_place path) (expr_places e) h)) (back_of (path_place path) (expr_places e) h)
  reads_there (EffectInstr path e) h = joined (base_place path) (expr_places e) (base_there path (front_of (path_place path) (expr_places e) h)) (back_of (path_place path) (expr_places e) h)
  reads_there (NewInstr q) h = refl
  reads_there (ActInstr path es) h = h
  reads_there (DropInstr ns) h = refl

  fills_small : (i : InstrTree) → list_all (has_place c) (instr_places i) ≡ true → small_fills i ≡ instr_fills i
  fills_small (SetInstr path e) h = all_small (filled_path path) (filled_there path (front_of (path_place path) (expr_places e) h))
  fills_small (EffectInstr path e) h = all_small (filled_path path) (filled_there path (front_of (path_place path) (expr_places e) h))
  fills_small (NewInstr q) h = refl
  fills_small (ActInstr path es) h = refl
  fills_small (DropInstr ns) h = refl

  plain_instr : (i : InstrTree) → list_all (has_place c) (instr_places i) ≡ true → small_instr i ≡ instr_touches i
  plain_instr i h =
      ap₂ (λ (r f : List Touch). Throws ∷ r ++ f ++ map Empties (emptied_by i)) (all_read (instr_reads i) (reads_there i h)) (ap (map Fills) (fills_small i h))

  plain_body : (is : List InstrTree) → list_all (λ (i : InstrTree). list_all (has_place c) (instr_places i)) is ≡ true → small_body is ≡ body_touches is
  plain_body [] h = refl
  plain_body (i ∷ is) h =
      let both = and_parts (list_all (has_place c) (instr_places i)) (list_all (λ (j : InstrTree). list_all (has_place c) (instr_places j)) is) h in
      ap₂ (λ (a b : List Touch). a ++ b) (plain_instr i both.0) (plain_body is both.1)

  operands_there : (ks : List CallbackTree) → list_all (has_operand c) ks ≡ true → list_all (has_place c) (operands ks) ≡ true
  operands_there [] h = refl
  operands_there (k ∷ ks) h =
      let both = and_parts (has_operand c k) (list_all (has_operand c) ks) h in
      let own = and_parts (has_block c k.block) (list_all (has_place c) (expr_places k.operand ++ listed k.into)) both.0 in
      joined (expr_places k.operand) (operands ks) (front_of (expr_places k.operand) (listed k.into) own.1) (operands_there ks both.1)

  pub group_there : list_all (list_all (has_operand c)) c.groups ≡ true → (g : ℕ) → list_all (has_place c) (group_reads (group_at c.groups g)) ≡ true
  group_there h zero = refl
  group_there h (suc g) = by (slice_get c.groups g) refl
    where
      by : (o : Option (List CallbackTree)) → slice_get c.groups g ≡ o → list_all (has_place c) (group_reads o) ≡ true
      by None e = refl
      by (Some ks) e = operands_there ks (all_at (list_all (has_operand c)) c.groups g ks h e)

  pub last_there : (l : LastTree) → has_last c l ≡ true → list_all (has_place c) (last_places l) ≡ true
  last_there l h = (and_parts (has_group c l && list_all (has_block c) (targets l)) (list_all (has_place c) (last_places l)) h).1

  plain_last : list_all (list_all (has_operand c)) c.groups ≡ true → (l : LastTree) → has_last c l ≡ true → small_last c l ≡ last_touches c l
  plain_last g (GotoLast b) h = refl
  plain_last g (PassLast b) h = refl
  plain_last g (TestLast e a b) h = ap (λ (r : List Touch). Throws ∷ r) (all_read (expr_places e) (last_there (TestLast e a b) h))
  plain_last g (ChooseLast n) h =
      ap (λ (r : List Touch). Throws ∷ r ++ Waits ∷ Throws ∷ []) (all_read (group_reads (group_at c.groups n)) (group_there g n))
  plain_last g (ReturnLast e) h = ap (λ (r : List Touch). Throws ∷ r) (all_read (maybe_places e) (last_there (ReturnLast e) h))
  plain_last g (ThrowLast e) h = ap (λ (r : List Touch). Throws ∷ r) (all_read (expr_places e) (last_there (ThrowLast e) h))

  -- the parts of a block that exists
  pub record IsNamed (b : BlockTree) : Type 0 where
    pub catcher : has_catcher c b.catcher ≡ true
    pub body : list_all (λ (i : InstrTree). list_all (has_place c) (instr_places i)) b.body ≡ true
    pub last : has_last c b.last ≡ true

  pub block_named : names_exist c ≡ true → (n : ℕ) (b : BlockTree) → slice_get c.blocks n ≡ Some b → IsNamed b
  block_named h n b e =
      let all = (and_parts (list_all (has_named c) c.blocks) (list_all (list_all (has_operand c)) c.groups) h).0 in
      let own = all_at (has_named c) c.blocks n b all e in
      let places = list_all (λ (i : InstrTree). list_all (has_place c) (instr_places i)) b.body in
      let both = and_parts (has_catcher c b.catcher && places) (has_last c b.last) own in
      let front = and_parts (has_catcher c b.catcher) places both.0 in
      record { catcher = front.0; body = front.1; last = both.1 }

  pub groups_named : names_exist c ≡ true → list_all (list_all (has_operand c)) c.groups ≡ true
  groups_named h = (and_parts (list_all (has_named c) c.blocks) (list_all (list_all (has_operand c)) c.groups) h).1

  pub plain_block : names_exist c ≡ true → (n : ℕ) (b : BlockTree) → slice_get c.blocks n ≡ Some b → small_block c b ≡ block_touches c b
  plain_block h n b e =
      let named = block_named h n b e in
      ap₂ (λ (x y : List Touch). x ++ y) (plain_body b.body named.body) (plain_last (groups_named h) b.last named.last)

mapped_at : {A B : Type 0} (f : A → B) (xs : List A) (n : ℕ) (x : A) (y : B) → slice_get xs n ≡ Some x → slice_get (map f xs) n ≡ Some y → y ≡ f x
mapped_at f [] n x y h g = absurd (none_some x h)
mapped_at f (z ∷ zs) zero x y h g = same_some (f z) y g ∙ ap f (sym (same_some z x h))
mapped_at f (z ∷ zs) (suc n) x y h g = mapped_at f zs n x y h g

pub all_plain : (c : ClassTree) → HasFewPlaces c → names_exist c ≡ true → (touches : List (List Touch)) → touches ≡ map (small_block c) c.blocks → AreTouches c touches
all_plain c few named touches e = record {
  same_length = ap length e ∙ length-map c.blocks (small_block c);
  each = λ b k ts is at. mapped_at (small_block c) c.blocks b k ts is (ap (λ (l : List (List Touch)). slice_get l b) (sym e) ∙ at) ∙ plain_block c few named b k is;
}
