-- In a valid class each group has as its home the one block that ends in its wait; and what a catch part names is there.
use Rattle.std.proofs.Common.{◌≡◌, ℕ, zero, suc, ◌+◌, ◌<◌, nat_eq, Bool, true, false, List, [], ◌∷◌, length, if◌then◌else◌, refl, ap, subst, ◌∙◌, arith}
use Rattle.std.specs.Prelude.{◌&&◌, slice_get, slice_set, replicate}
use Rattle.std.specs.List.{list_all}
use Rattle.std.specs.declared.option.Option.{Option}
use Rattle.std.specs.declared.option.Option.TheVariants.{None, Some}
use Rattle.flow_class.specs.Classes.{GotoLast, PassLast, TestLast, ChooseLast, ReturnLast, ThrowLast, LastTree, CallbackTree, CatcherTree, BlockTree, ClassTree, RawTree}
use Rattle.flow_class.specs.Code.{catcher_in, catcher_at}
use Rattle.flow_ast.specs.Typing.{is_there}
use Rattle.flow_valid.specs.Named.{has_place, has_block, has_catcher, has_group, has_last, has_named, has_operand, instr_places, catcher_places}
use Rattle.flow_valid.specs.Validity.{chooses, times_chosen, each_once, IsValid}
use Rattle.flow_code.specs.Coding.{home_noted, homes_from, homes_of}
use Rattle.flow_meaning.proofs.Posture.{same_number}
use Rattle.flow_progress.proofs.Tops.{first_true, second_true}
use Rattle.flow_valid.proofs.ClassRules.{sound_of}
use Rattle.flow_operation_refinement.specs.Coded.{AtHome}

-- what holds of all holds of each
pub all_at : {A : Type 0} (p : A → Bool) (xs : List A) (n : ℕ) (x : A) → list_all p xs ≡ true → slice_get xs n ≡ Some x → p x ≡ true
all_at p [] n x h e = cc
all_at p (y ∷ ys) zero x h e = let s : y ≡ x = cc in subst (λ z. p z ≡ true) s (first_true (p y) (list_all p ys) h)
all_at p (y ∷ ys) (suc n) x h e = all_at p ys n x (second_true (p y) (list_all p ys) h) e

there_below : {A : Type 0} (xs : List A) (n : ℕ) → is_there (slice_get xs n) ≡ true → n < length xs
there_below [] n h = cc
there_below (x ∷ xs) zero h = omega arith
there_below (x ∷ xs) (suc n) h = let a = there_below xs n h in omega (arith, a)

-- a list in which one thing is put elsewhere
get_set : (xs : List ℕ) (n v : ℕ) → n < length xs → slice_get (slice_set xs n v) n ≡ Some v
get_set [] n v l = absurd (omega (arith, l))
get_set (x ∷ xs) zero v l = refl
get_set (x ∷ xs) (suc n) v l = get_set xs n v (omega (arith, l))

get_other : (xs : List ℕ) (n k v : ℕ) → (n ≡ k → ⊥) → slice_get (slice_set xs n v) k ≡ slice_get xs k
get_other [] n k v o = refl
get_other (x ∷ xs) zero zero v o = absurd (o refl)
get_other (x ∷ xs) zero (suc k) v o = refl
get_other (x ∷ xs) (suc n) zero v o = refl
get_other (x ∷ xs) (suc n) (suc k) v o = get_other xs n k v (λ e. o (ap suc e))

set_long : (xs : List ℕ) (n v : ℕ) → length (slice_set xs n v) ≡ length xs
set_long [] n v = refl
set_long (x ∷ xs) zero v = refl
set_long (x ∷ xs) (suc n) v = ap suc (set_long xs n v)

as_long : {A : Type 0} (n : ℕ) (x : A) → length (replicate n x) ≡ n
as_long zero x = refl
as_long (suc n) x = ap suc (as_long n x)

noted_long : (l : LastTree) (k : ℕ) (hs : List ℕ) → length (home_noted l k hs) ≡ length hs
noted_long (ChooseLast zero) k hs = refl
noted_long (ChooseLast (suc g)) k hs = set_long hs g k
noted_long (GotoLast b) k hs = refl
noted_long (PassLast b) k hs = refl
noted_long (TestLast e a b) k hs = refl
noted_long (ReturnLast e) k hs = refl
noted_long (ThrowLast e) k hs = refl

-- whether a block ends in the wait of a group
abbrev chosen : ℕ → LastTree → ℕ
chosen g l = if chooses (suc g) l then 1 else 0

-- where it doesn't, it is no home of the group
noted_other : (l : LastTree) (k g : ℕ) (hs : List ℕ) → chosen g l ≡ 0 → slice_get (home_noted l k hs) g ≡ slice_get hs g
noted_other (ChooseLast zero) k g hs h = refl
noted_other (ChooseLast (suc n)) k g hs h = get_other hs n g k (differ (nat_eq (suc g) (suc n)) refl h)
  where
    differ : (b : Bool) → nat_eq (suc g) (suc n) ≡ b → ◌≡◌ {A = ℕ} (if b then 1 else 0) 0 → n ≡ g → ⊥
    differ true q h e = cc
    differ false q h e = let f : ⊥ = grind (arith, q, e) in f
noted_other (GotoLast b) k g hs h = refl
noted_other (PassLast b) k g hs h = refl
noted_other (TestLast e a b) k g hs h = refl
noted_other (ReturnLast e) k g hs h = refl
noted_other (ThrowLast e) k g hs h = refl

homes_other : (bs : List BlockTree) (k g : ℕ) (hs : List ℕ) → times_chosen (suc g) bs ≡ 0 → slice_get (homes_from k bs hs) g ≡ slice_get hs g
homes_other [] k g hs h = refl
homes_other (b ∷ bs) k g hs h =
    homes_other bs (suc k) g (home_noted b.last k hs) (omega (arith, h)) ∙ noted_other b.last k g hs (omega (arith, h))

one_if : (b : Bool) → b ≡ true → ◌≡◌ {A = ℕ} (if b then 1 else 0) 1
one_if true e = refl
one_if false e = cc

here_chosen : (g : ℕ) (l : LastTree) → l ≡ ChooseLast (suc g) → chosen g l ≡ 1
here_chosen g l e = ap (chosen g) e ∙ one_if (nat_eq (suc g) (suc g)) (same_number (suc g))

counted_at : (bs : List BlockTree) (g b : ℕ) (block : BlockTree) → slice_get bs b ≡ Some block → block.last ≡ ChooseLast (suc g) → 0 < times_chosen (suc g) bs
counted_at [] g b block at e = cc
counted_at (x ∷ bs) g zero block at e =
    let s : x ≡ block = cc in
    let a = here_chosen g x.last (ap (λ (y : BlockTree). y.last) s ∙ e) in omega (arith, a)
counted_at (x ∷ bs) g (suc b) block at e = let a = counted_at bs g b block at e in omega (arith, a)

home_at : (bs : List BlockTree) (k g b : ℕ) (block : BlockTree) (hs : List ℕ) → slice_get bs b ≡ Some block → block.last ≡ ChooseLast (suc g) → times_chosen (suc g) bs ≡ 1 → g < length hs
    → slice_get (homes_from k bs hs) g ≡ Some (k + b)
home_at [] k g b block hs at e once l = cc
home_at (x ∷ bs) k g zero block hs at e once l =
    let s : x ≡ block = cc in
    let last : x.last ≡ ChooseLast (suc g) = ap (λ (y : BlockTree). y.last) s ∙ e in
    let a = here_chosen g x.last last in
    let z : k ≡ k + 0 = omega arith in
    homes_other bs (suc k) g (home_noted x.last k hs) (omega (arith, once, a))
    ∙ ap (λ y. slice_get (home_noted y k hs) g) last
    ∙ get_set hs g k l
    ∙ ap (λ n. Some n) z
home_at (x ∷ bs) k g (suc b) block hs at e once l =
    let n = counted_at bs g b block at e in
    let long = noted_long x.last k hs in
    let z : suc k + b ≡ k + suc b = omega arith in
    home_at bs (suc k) g b block (home_noted x.last k hs) at e (omega (arith, once, n)) (omega (arith, l, long)) ∙ ap (λ m. Some m) z

-- each group is chosen once
once_at : (bs : List BlockTree) (gs : List (List CallbackTree)) (from g : ℕ) → each_once bs from gs ≡ true → g < length gs → times_chosen (from + g) bs ≡ 1
once_at bs [] from g h l = absurd (omega (arith, l))
once_at bs (ks ∷ gs) from zero h l =
    let a = first_true (nat_eq (times_chosen from bs) 1) (each_once bs (suc from) gs) h in
    let one : times_chosen from bs ≡ 1 = grind (arith, a) in
    let z : from ≡ from + 0 = omega arith in subst (λ n. times_chosen n bs ≡ 1) z one
once_at bs (ks ∷ gs) from (suc g) h l =
    let a = second_true (nat_eq (times_chosen from bs) 1) (each_once bs (suc from) gs) h in
    let z : suc from + g ≡ from + suc g = omega arith in subst (λ n. times_chosen n bs ≡ 1) z (once_at bs gs (suc from) g a (omega (arith, l)))

module _ (r : RawTree) (valid : IsValid r) (k : ℕ) (c : ClassTree) (at : slice_get r.classes k ≡ Some c) where
  pub named_block : (b : ℕ) (d : BlockTree) → slice_get c.blocks b ≡ Some d → has_named c d ≡ true
  named_block b d e =
      let names = (sound_of r c (valid.classes k c at).tested).names in
      all_at (has_named c) c.blocks b d (first_true (list_all (has_named c) c.blocks) (list_all (list_all (has_operand c)) c.groups) names) e

  pub at_home : AtHome c
  at_home b g block is e =
      let sound = sound_of r c (valid.classes k c at).tested in
      let named = second_true (has_catcher c block.catcher && list_all (λ i. list_all (has_place c) (instr_places i)) block.body) (has_last c block.last) (named_block b block is) in
      let group = first_true (has_group c (ChooseLast (suc g))) (list_all (has_block c) [])
      (first_true (has_group c (ChooseLast (suc g)) && list_all (has_block c) []) (list_all (has_place c) []) (subst (λ l. has_last c l ≡ true) e named)) in
      let below = there_below c.groups g group in
      let long = as_long {A = ℕ} (length c.groups) 0 in
      let zero_plus : 0 + b ≡ b = omega arith in
      subst (λ n. slice_get (homes_of c) g ≡ Some n) zero_plus (home_at c.blocks 0 g b block (replicate (length c.groups) 0) is e
      (let z : 1 + g ≡ suc g = omega arith in subst (λ n. times_chosen n c.blocks ≡ 1) z (once_at c.blocks c.groups 1 g sound.groups below)) (omega (arith, below, long)))

  -- the places that the catch part of a block names
  pub catcher_there : (b : ℕ) (t : CatcherTree) → catcher_at c b ≡ Some t → list_all (has_place c) (catcher_places t) ≡ true
  catcher_there b t e = by_block (slice_get c.blocks b) refl e
    where
      by_block : (x : Option BlockTree) → slice_get c.blocks b ≡ x → catcher_in x ≡ Some t → list_all (has_place c) (catcher_places t) ≡ true
      by_block None is e = cc
      by_block (Some d) is e =
          let named = first_true (has_catcher c d.catcher) (list_all (λ i. list_all (has_place c) (instr_places i)) d.body)
          (first_true (has_catcher c d.catcher && list_all (λ i. list_all (has_place c) (instr_places i)) d.body) (has_last c d.last) (named_block b d is)) in
          second_true (has_block c t.block) (list_all (has_place c) (catcher_places t)) (subst (λ o. has_catcher c o ≡ true) e named)
