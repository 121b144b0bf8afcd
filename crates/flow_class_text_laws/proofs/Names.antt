-- The names of a program over places: each can be spelled, and a place that it names has a small number.
use Rattle.std.proofs.Common.{◌≡◌, ℕ, Bool, true, false, List, Option, Some, None, refl, sym, ap, ◌∙◌, subst, arith}
use Rattle.std.specs.Prelude.{codes}
use Rattle.std.specs.Str.{bytes_eq}
use Rattle.std.proofs.lemmas.Slice.Eq.{bytes_eq-Decides}
use Rattle.flow_tree.specs.declared.token.Token.TheVariants as token
use Rattle.flow_tree.specs.declared.ty.Ident.{Ident}
use Rattle.flow_tree.specs.Decls.{SlotTree}
use Rattle.flow_ast.specs.TypingNames.{named, constant_names}
use Rattle.flow_class.specs.declared.class.Slotted.{Slotted}
use Rattle.flow_class.specs.declared.class.Slotted.TheVariants.{Slot, Local}
use Rattle.flow_class.specs.Places.{place_name, place_named}
use Rattle.flow_class.specs.Scopes.{Scope, place_of, var_over, name_over, ident_over}
use Rattle.flow_class.proofs.Numbers.{place_back}
use Rattle.flow_classprint.specs.ClassGrammar.{IsPlace, IsFree, IsSpelled}
use Rattle.flow_class_text_laws.proofs.Writable.{IsMaybePlace}
use Rattle.flow_class_text_laws.proofs.Spelled.{nothing_spelled, place_spelled}

bytes_same : (x y : List ℕ) → bytes_eq x y ≡ true → x ≡ y
bytes_same x y e = (bytes_eq-Decides x y).0 e

-- no constant is called as a place
constant_free : (x : List ℕ) (n : ℕ) → named constant_names x ≡ Some n → place_named x ≡ None
constant_free x n e =
    in_rows (bytes_eq x (codes "error_code_end_of_stream")) (bytes_eq x (codes "error_code_timed_out")) (bytes_eq x (codes "error_code_broken_promise"))
    (bytes_eq x (codes "error_code_operation_cancelled"))
    (bytes_eq x (codes "error_code_actor_cancelled")) refl refl refl refl refl
  where
    is : (w : List ℕ) → bytes_eq x w ≡ true → place_named w ≡ None → place_named x ≡ None
    is w t free = ap place_named (bytes_same x w t) ∙ free

    in_rows : (a b c d f : Bool) → bytes_eq x (codes "error_code_end_of_stream") ≡ a → bytes_eq x (codes "error_code_timed_out") ≡ b → bytes_eq x (codes "error_code_broken_promise") ≡ c
        → bytes_eq x (codes "error_code_operation_cancelled") ≡ d → bytes_eq x (codes "error_code_actor_cancelled") ≡ f → place_named x ≡ None
    in_rows true b c d f p q r s t = is _ p refl
    in_rows false true c d f p q r s t = is _ q refl
    in_rows false false true d f p q r s t = is _ r refl
    in_rows false false false true f p q r s t = is _ s refl
    in_rows false false false false true p q r s t = is _ t refl
    in_rows false false false false false p q r s t = let bad = rw (p, q, r, s, t) at e in absurd (cc)

pub place_again : (p : Slotted) → IsPlace p → place_named (place_name p) ≡ Some p
place_again (Slot n) h = place_back (Slot n) (omega (arith, h))
place_again (Local n) h = place_back (Local n) (omega (arith, h))

place_free : (p : Slotted) → IsPlace p → IsFree (place_named (place_name p))
place_free (Slot n) h = subst IsFree (sym (place_again (Slot n) h)) h
place_free (Local n) h = subst IsFree (sym (place_again (Local n) h)) h

-- the name of a place that has a small number, or of none
pub over_good : (o : Option Slotted) → IsMaybePlace o → IsSpelled (token.Name (var_over o)) × IsFree (place_named (var_over o))
over_good None h = (nothing_spelled, tt)
over_good (Some p) h = (place_spelled p h, place_free p h)

some_none : {A : Type 0} {x : A} → Some x ≡ None → ⊥
some_none e = cc

place_no_constant : (p : Slotted) → IsPlace p → named constant_names (place_name p) ≡ None
place_no_constant p h = by_constant (named constant_names (place_name p)) refl
  where
    by_constant : (o : Option ℕ) → named constant_names (place_name p) ≡ o → o ≡ None
    by_constant None e = refl
    by_constant (Some n) e = absurd (some_none (sym (place_again p h) ∙ constant_free (place_name p) n e))

-- it is no constant
pub over_no_constant : (o : Option Slotted) → IsMaybePlace o → named constant_names (var_over o) ≡ None
over_no_constant None h = refl
over_no_constant (Some p) h = place_no_constant p h

module _ (slots : List SlotTree) (s : Scope) (few : (x : List ℕ) → IsMaybePlace (place_of slots s x)) where
  pub ident_good : (x : Ident) → IsSpelled (token.Name x.name) → IsSpelled (token.Name (ident_over slots s x).name) × IsFree (place_named (ident_over slots s x).name)
  ident_good x spelled = by_constant (named constant_names x.name) refl
    where
      by_constant : (o : Option ℕ) → named constant_names x.name ≡ o
          → IsSpelled (token.Name (name_over o (place_of slots s x.name) x.name)) × IsFree (place_named (name_over o (place_of slots s x.name) x.name))
      by_constant None e = over_good (place_of slots s x.name) (few x.name)
      by_constant (Some n) e = (spelled, subst IsFree (sym (constant_free x.name n e)) tt)
