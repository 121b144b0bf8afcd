-- Names that are the same, and types that are.
use Rattle.std.proofs.Common.{◌≡◌, ℕ, Bool, true, false, List, refl, sym, ap, subst, ◌∙◌}
use Rattle.std.specs.Prelude.{is_some}
use Rattle.std.specs.Str.{bytes_eq}
use Rattle.std.proofs.lemmas.Bool.{false≢true, true≢false}
use Rattle.std.proofs.lemmas.Slice.Eq.{bytes_eq-Decides}
use Rattle.std.specs.declared.option.Option.{Option}
use Rattle.std.specs.declared.option.Option.TheVariants.{None, Some}
use Rattle.flow_tree.specs.Tree.{TypeTree, IntType, BoolType, StringType, VoidType, ErrorType, NamedType, FutureType, FutureStreamType, PromiseType, PromiseStreamType, VectorType, NothingType}
use Rattle.flow_ast.specs.Typing.{same_type, is_there}

pub bytes_same : (x y : List ℕ) → bytes_eq x y ≡ true → x ≡ y
bytes_same x y e = (bytes_eq-Decides x y).0 e

pub bytes_self : (x : List ℕ) → bytes_eq x x ≡ true
bytes_self x = (bytes_eq-Decides x x).1 refl

turned : (x y : List ℕ) → bytes_eq x y ≡ true → bytes_eq y x ≡ true
turned x y e = subst (λ z. bytes_eq z x ≡ true) (bytes_same x y e) (bytes_self x)

symmetric : (x y : List ℕ) (a b : Bool) → bytes_eq x y ≡ a → bytes_eq y x ≡ b → a ≡ b
symmetric x y true true e h = refl
symmetric x y false false e h = refl
symmetric x y true false e h = sym (turned x y e) ∙ h
symmetric x y false true e h = sym e ∙ turned y x h

pub bytes_sym : (x y : List ℕ) → bytes_eq x y ≡ bytes_eq y x
bytes_sym x y = symmetric x y (bytes_eq x y) (bytes_eq y x) refl refl

pub type_same : (t u : TypeTree) → same_type t u ≡ true → t ≡ u
type_same IntType IntType e = refl
type_same BoolType BoolType e = refl
type_same StringType StringType e = refl
type_same VoidType VoidType e = refl
type_same ErrorType ErrorType e = refl
type_same (NamedType x) (NamedType y) e = ap NamedType (bytes_same x y e)
type_same (FutureType t) (FutureType u) e = ap FutureType (type_same t u e)
type_same (FutureStreamType t) (FutureStreamType u) e = ap FutureStreamType (type_same t u e)
type_same (PromiseType t) (PromiseType u) e = ap PromiseType (type_same t u e)
type_same (PromiseStreamType t) (PromiseStreamType u) e = ap PromiseStreamType (type_same t u e)
type_same (VectorType t) (VectorType u) e = ap VectorType (type_same t u e)
type_same NothingType NothingType e = refl
type_same t u e = absurd (false≢true e)

pub type_self : (t : TypeTree) → same_type t t ≡ true
type_self (NamedType x) = bytes_self x
type_self (FutureType t) = type_self t
type_self (FutureStreamType t) = type_self t
type_self (PromiseType t) = type_self t
type_self (PromiseStreamType t) = type_self t
type_self (VectorType t) = type_self t
type_self _ = refl

-- Options.
pub none_some : {A : Type 0} {x : A} → None ≡ Some x → ⊥
none_some e = false≢true (ap is_some e)

pub some_none : {A : Type 0} {x : A} → Some x ≡ None → ⊥
some_none e = true≢false (ap is_some e)

abbrev or_this : {A : Type 0} → A → Option A → A
or_this x None = x
or_this x (Some y) = y

pub some_same : {A : Type 0} (x y : A) → Some x ≡ Some y → x ≡ y
some_same x y e = ap (or_this x) e

pub record Held {A : Type 0} (o : Option A) : Type 0 where
  pub value : A
  pub is : o ≡ Some value

pub there : {A : Type 0} (o : Option A) → is_there o ≡ true → Held o
there None e = absurd (false≢true e)
there (Some x) e = record { value = x; is = refl }
