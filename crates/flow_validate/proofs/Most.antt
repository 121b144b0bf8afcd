-- The greatest number of places in classes, one more at a time.
use Rattle.std.proofs.Common.{◌≡◌, ℕ, zero, suc, ◌+◌, ◌≤◌, ◌<◌, List, [], ◌∷◌, map, take, length, get_or, sym, ap, subst, ◌∙◌, arith, add-one}
use Rattle.std.specs.List.{slice_get}
use Rattle.std.specs.declared.option.Option.TheVariants.{Some}
use Rattle.flow_class.specs.declared.class.Class.{Class}
use Rattle.flow_class.specs.Classes.{ClassTree}
use Rattle.flow_class.specs.View.{class_of}

pub class_at : (cs : List Class) (i : ℕ) (c : Class) → i < length cs → c ≡ get_or cs i c → slice_get (map class_of cs) i ≡ Some (class_of c)
class_at [] i c lt is = absurd (omega arith)
class_at (d ∷ cs) zero c lt is = ap (λ (x : Class). Some (class_of x)) (sym is)
class_at (d ∷ cs) (suc i) c lt is =
    let lt' : i < length cs = omega arith in
    class_at cs i c lt' is

abbrev pub AreAll : (ClassTree → Type 0) → List Class → Type 0
AreAll P cs = (i : ℕ) (c : ClassTree) → slice_get (map class_of cs) i ≡ Some c → P c

one_more : (P : ClassTree → Type 0) (cs : List Class) (n : ℕ) (c : Class) → n < length cs → c ≡ get_or cs n c → P (class_of c)
    → AreAll P (take n cs) → AreAll P (take (suc n) cs)
one_more P [] n c lt is own h i d e = absurd (omega arith)
one_more P (x ∷ cs) zero c lt is own h zero d e =
    let same : class_of c ≡ d = ap class_of is ∙ inside e in
    subst P same own
  where
    inside : {A : Type 0} {a b : A} → Some a ≡ Some b → a ≡ b
    inside e = cc
one_more P (x ∷ cs) zero c lt is own h (suc i) d e = absurd cc
one_more P (x ∷ cs) (suc n) c lt is own h zero d e = h zero d e
one_more P (x ∷ cs) (suc n) c lt is own h (suc i) d e =
    let lt' : n < length cs = omega arith in
    one_more P cs n c lt' is own (λ k y g. h (suc k) y g) i d e

pub all_more : (P : ClassTree → Type 0) (cs : List Class) (n : ℕ) (c : Class) → n < length cs → c ≡ get_or cs n c → P (class_of c)
    → AreAll P (take n cs) → AreAll P (take (n + 1) cs)
all_more P cs n c lt is own h = rw add-one (one_more P cs n c lt is own h)

pub most_more : (f : ClassTree → ℕ) (cs : List Class) (n : ℕ) (c : Class) (old new : ℕ) → n < length cs → c ≡ get_or cs n c → old ≤ new → f (class_of c) ≤ new
    → AreAll (λ d. f d ≤ old) (take n cs) → AreAll (λ d. f d ≤ new) (take (n + 1) cs)
most_more f cs n c old new lt is le own h =
    all_more (λ d. f d ≤ new) cs n c lt is own (λ i d e. let less : f d ≤ old = h i d e in omega arith)
