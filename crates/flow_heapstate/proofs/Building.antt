-- Stores in which things are added and changed.
use Rattle.std.proofs.Common.{◌≡◌, ℕ, suc, ◌+◌, ◌<◌, drop, get_or, length, nat_eq, Bool, true, false, List, [], ◌∷◌, Option, Some, None, IsSome, refl, sym, ap, ◌∙◌, arith, if◌then◌else◌}
use Rattle.std.proofs.lemmas.Bool.Decides.{nat_tests}
use Rattle.std.proofs.Math.Seq.{drop-cons}
use Rattle.flow_numbered.specs.Numbered.{Numbered, Store, thing, added, put, with_thing, IsRising}
use Rattle.flow_numbered.proofs.Things.{with_same, thing_put, thing_added, nothing_above}
use Rattle.flow_cancel.specs.Heap.{with_new}

module _ {A : Type 0} where
  pub put_put : (xs : Numbered A) (n : ℕ) (a b : A) → put (put xs n a) n b ≡ put xs n b
  put_put [] n a b = refl
  put_put (x ∷ xs) n a b = at_head (nat_eq n x.0) refl (put_put xs n a b)
    where
      at_head : (t : Bool) → nat_eq n x.0 ≡ t → put (put xs n a) n b ≡ put xs n b → put (if t then (x.0, a) ∷ xs else x ∷ put xs n a) n b ≡ (if t then (x.0, b) ∷ xs else x ∷ put xs n b)
      at_head true g rest = rw g refl
      at_head false g rest = rw g (ap (λ ys. x ∷ ys) rest)

  pub put_new : (xs : Numbered A) (n : ℕ) (a b : A) → thing xs n ≡ None → put (added xs n a) n b ≡ added xs n b
  put_new [] n a b e = let same : nat_eq n n ≡ true = grind (arith, nat_tests) in rw same refl
  put_new (x ∷ xs) n a b e = at_head (nat_eq n x.0) refl (λ f. put_new xs n a b f)
    where
      at_head : (t : Bool) → nat_eq n x.0 ≡ t → (thing xs n ≡ None → put (added xs n a) n b ≡ added xs n b) → put (x ∷ added xs n a) n b ≡ x ∷ added xs n b
      at_head true g rest = let bad = rw g at e in absurd (cc)
      at_head false g rest = rw g (ap (λ ys. x ∷ ys) (rest (rw g at e)))

  pub with_with : (s : Store A) (n : ℕ) (a b : A) → with_thing (with_thing s n a) n b ≡ with_thing s n b
  with_with s n a b = ap (λ xs. record s { things = xs }) (put_put s.things n a b)

  pub thing_new : (s : Store A) (n : ℕ) (a : A) → IsRising 0 s.things s.greatest → s.greatest < n → thing (added s.things n a) n ≡ Some a
  thing_new s n a h l = let same : nat_eq n n ≡ true = grind (arith, nat_tests) in thing_added 0 s.things s.greatest n a n h l ∙ rw same refl

  pub with_new_with : (s : Store A) (n : ℕ) (a b : A) → IsRising 0 s.things s.greatest → s.greatest < n → with_thing (with_new s n a) n b ≡ with_new s n b
  with_new_with s n a b h l = ap (λ xs. record { things = xs; greatest = n }) (put_new s.things n a b (nothing_above 0 s.things s.greatest n h l))

  pub thing_with : (s : Store A) (n : ℕ) (a b : A) → thing s.things n ≡ Some a → thing (put s.things n b) n ≡ Some b
  thing_with s n a b e = let same : nat_eq n n ≡ true = grind (arith, nat_tests) in thing_put s.things n a b n e ∙ rw same refl

  pub with_thing_is : (s t : Store A) (n : ℕ) (a b : A) → thing s.things n ≡ Some a → t ≡ with_thing s n b → thing t.things n ≡ Some b
  with_thing_is s t n a b e is = ap (λ (x : Store A). thing x.things n) is ∙ thing_with s n a b e

  -- what is done to a thing that was just added
  pub new_is : (s t : Store A) (n : ℕ) (a : A) → IsRising 0 s.things s.greatest → s.greatest < n → t ≡ with_new s n a → thing t.things n ≡ Some a
  new_is s t n a h l is = ap (λ (x : Store A). thing x.things n) is ∙ thing_new s n a h l

  pub then_new : (s t u : Store A) (n : ℕ) (a b : A) → IsRising 0 s.things s.greatest → s.greatest < n → t ≡ with_new s n a → u ≡ with_thing t n b → u ≡ with_new s n b
  then_new s t u n a b h l is e = e ∙ ap (λ x. with_thing x n b) is ∙ with_new_with s n a b h l

  pub rising_added : (low : ℕ) (xs : Numbered A) (most n : ℕ) (a : A) → IsRising low xs most → most < n → IsRising low (added xs n a) n
  rising_added low [] most n a h l = (omega (arith, h, l), omega arith)
  rising_added low (x ∷ xs) most n a h l = (h.0, rising_added x.0 xs most n a h.1 l)

-- things that get more of something, one after another
module _ {A W : Type 0} (add : A → List W → A) where
  abbrev pub more : ℕ → List W → Option A → Store A → Store A
  more n ws None s = s
  more n ws (Some a) s = with_thing s n (add a ws)

  pub more_next : ((a : A) (w : W) (ws : List W) → add (add a (w ∷ [])) ws ≡ add a (w ∷ ws)) → (s t : Store A) (n : ℕ) (a : A) (w : W) (ws : List W)
      → thing s.things n ≡ Some a → t ≡ with_thing s n (add a (w ∷ [])) → more n ws (thing t.things n) t ≡ more n (w ∷ ws) (thing s.things n) s
  more_next both s t n a w ws e is =
      rw (is, e, thing_with s n a (add a (w ∷ [])) e) (with_with s n (add a (w ∷ [])) (add (add a (w ∷ [])) ws) ∙ ap (with_thing s n) (both a w ws))

  pub more_step : ((a : A) (w : W) (ws : List W) → add (add a (w ∷ [])) ws ≡ add a (w ∷ ws)) → (s t : Store A) (n : ℕ) (a : A) (w : W) (all : List W) (i : ℕ)
      → thing s.things n ≡ Some a → t ≡ with_thing s n (add a (w ∷ [])) → drop i all ≡ w ∷ drop (i + 1) all → more n (drop (i + 1) all) (thing t.things n) t ≡ more n (drop i all) (thing s.things n) s
  more_step both s t n a w all i e is split = more_next both s t n a w (drop (i + 1) all) e is ∙ ap (λ xs. more n xs (thing s.things n) s) (sym split)

  pub more_there : (s t : Store A) (n : ℕ) (a : A) (w : W) → thing s.things n ≡ Some a → t ≡ with_thing s n (add a (w ∷ [])) → IsSome (thing t.things n)
  more_there s t n a w e is = rw (is, thing_with s n a (add a (w ∷ [])) e) refl

  pub more_none : ((a : A) → add a [] ≡ a) → (s : Store A) (n : ℕ) → more n [] (thing s.things n) s ≡ s
  more_none none s n = by_case (thing s.things n) refl
    where
      by_case : (o : Option A) → thing s.things n ≡ o → more n [] o s ≡ s
      by_case None e = refl
      by_case (Some a) e = with_same s n (add a []) (e ∙ ap (λ b. Some b) (sym (none a)))

pub drop_next : {W : Type 0} (all : List W) (i : ℕ) (d : W) → i < length all → drop i all ≡ get_or all i d ∷ drop (i + 1) all
drop_next all i d l = let next : suc i ≡ i + 1 = omega arith in drop-cons all i d l ∙ ap (λ k. get_or all i d ∷ drop k all) next
