-- Each group at which a valid class chooses has a first callback, where groups are written with one.
use Rattle.std.proofs.Common.{◌≡◌, ℕ, zero, suc, Bool, true, ◌&&◌, List, [], ◌∷◌, refl, subst}
use Rattle.std.specs.Prelude.{slice_get}
use Rattle.std.specs.List.{AllByRecursion, list_all}
use Rattle.std.specs.Option.{option_and_then}
use Rattle.std.specs.declared.option.Option.{Option}
use Rattle.std.specs.declared.option.Option.TheVariants.{None, Some}
use Rattle.flow_ast.specs.Typing.{is_there}
use Rattle.flow_class.specs.Classes.{InstrTree, LastTree, ChooseLast, BlockTree, CallbackTree, ClassTree, RawTree}
use Rattle.flow_class.specs.Code.{Last, Nothing, fetch_at, fetch, group_at, callback_at}
use Rattle.flow_valid.specs.Named.{instr_places, last_places, targets, has_place, has_block, has_catcher, has_last, has_named, has_operand}
use Rattle.flow_valid.specs.Validity.{IsValid}
use Rattle.flow_progress.proofs.Ahead.{own_last}
use Rattle.flow_progress.proofs.Tops.{first_true, second_true}
use Rattle.flow_valid.proofs.ClassRules.{sound_of}
use Rattle.flow_invariants.specs.Unmarked.{HasCallback}

all_at : {A : Type 0} (p : A → Bool) (xs : List A) (n : ℕ) (x : A) → list_all p xs ≡ true → slice_get xs n ≡ Some x → p x ≡ true
all_at p [] n x h e = cc
all_at p (y ∷ ys) zero x h e = let s : y ≡ x = cc in subst (λ z. p z ≡ true) s (first_true (p y) (list_all p ys) h)
all_at p (y ∷ ys) (suc n) x h e = all_at p ys n x (second_true (p y) (list_all p ys) h) e

callback_in : (gs : List (List CallbackTree)) (n : ℕ) (ks : List CallbackTree) → AllByRecursion HasCallback gs → slice_get gs n ≡ Some ks → HasCallback ks
callback_in [] n ks h e = cc
callback_in (g ∷ gs) zero ks h e = let s : g ≡ ks = cc in subst HasCallback s h.0
callback_in (g ∷ gs) (suc n) ks h e = callback_in gs n ks h.1 e

-- a choice of the class begins with a callback
abbrev pub Begins : ClassTree → Type 0
Begins c = (b n g : ℕ) → fetch c b n ≡ Last (ChooseLast g) → callback_at c g 0 ≡ None → ⊥

module _ (r : RawTree) (valid : IsValid r) (k : ℕ) (c : ClassTree) (at : slice_get r.classes k ≡ Some c) (have : AllByRecursion HasCallback c.groups) where
  named_block : (b : ℕ) (d : BlockTree) → slice_get c.blocks b ≡ Some d → has_last c d.last ≡ true
  named_block b d e =
      let names = (sound_of r c (valid.classes k c at).tested).names in
      let named = all_at (has_named c) c.blocks b d (first_true (list_all (has_named c) c.blocks) (list_all (list_all (has_operand c)) c.groups) names) e in
      second_true (has_catcher c d.catcher && list_all (λ (i : InstrTree). list_all (has_place c) (instr_places i)) d.body) (has_last c d.last) named

  there : (g : ℕ) → has_last c (ChooseLast g) ≡ true → is_there (group_at c.groups g) ≡ true
  there g h =
      first_true (is_there (group_at c.groups g)) (list_all (has_block c) (targets (ChooseLast g)))
      (first_true (is_there (group_at c.groups g) && list_all (has_block c) (targets (ChooseLast g))) (list_all (has_place c) (last_places (ChooseLast g))) h)

  group_in : (g : ℕ) (ks : List CallbackTree) → group_at c.groups g ≡ Some ks → HasCallback ks
  group_in zero ks e = cc
  group_in (suc n) ks e = callback_in c.groups n ks have e

  by_group : (g : ℕ) (o : Option (List CallbackTree)) → group_at c.groups g ≡ o → is_there o ≡ true → option_and_then (λ cs. slice_get cs 0) o ≡ None → ⊥
  by_group g None e h none = cc
  by_group g (Some []) e h none = group_in g [] e
  by_group g (Some (x ∷ xs)) e h none = cc

  pub group_begins : Begins c
  group_begins b n g here none = by_block (slice_get c.blocks b) refl here
    where
      no_last : {l : LastTree} → Nothing ≡ Last l → ⊥
      no_last h = cc

      by_block : (o : Option BlockTree) → slice_get c.blocks b ≡ o → fetch_at o n ≡ Last (ChooseLast g) → ⊥
      by_block None e q = no_last q
      by_block (Some d) e q =
          let own = own_last c.groups d.body d.last (ChooseLast g) n q in
          by_group g (group_at c.groups g) refl (there g (subst (λ l. has_last c l ≡ true) own (named_block b d e))) none
