-- Laws of the lesser rule.
use Rattle.std.proofs.Common.{◌≡◌, ℕ, Bool, true, false, nat_lt, if◌then◌else◌, refl, ap, ap₂, arith}
use Rattle.std.specs.declared.option.Option.{Option}
use Rattle.std.specs.declared.option.Option.TheVariants.{None, Some}
use Rattle.flow_base.specs.declared.place.Place.{Place}
use Rattle.flow_rules.specs.declared.rule.SemanticRule.{SemanticRule}
use Rattle.flow_rules.specs.Least.{number, lesser, unless}
use Rattle.flow_rules.specs.Items.{item}

pub lesser_none : (x : Option SemanticRule) → lesser x None ≡ x
lesser_none None = refl
lesser_none (Some m) = refl

-- of three the one with the least number, whichever two are compared first
module _ {A : Type 0} (f : A → ℕ) where
  abbrev first : A → A → A
  first m n = if nat_lt (f n) (f m) then n else m

  least_assoc : (m n k : A) → first (first m n) k ≡ first m (first n k)
  least_assoc m n k = by (nat_lt (f n) (f m)) (nat_lt (f k) (f n)) (nat_lt (f k) (f m)) refl refl refl
    where
      by : (p q r : Bool) → nat_lt (f n) (f m) ≡ p → nat_lt (f k) (f n) ≡ q → nat_lt (f k) (f m) ≡ r → first (first m n) k ≡ first m (first n k)
      by true true true a b c = grind arith
      by true true false a b c = grind arith
      by true false r a b c = grind arith
      by false true r a b c = grind arith
      by false false true a b c = grind arith
      by false false false a b c = grind arith

pub lesser_assoc : (x y z : Option SemanticRule) → lesser (lesser x y) z ≡ lesser x (lesser y z)
lesser_assoc None y z = refl
lesser_assoc (Some m) None z = refl
lesser_assoc (Some m) (Some n) None = refl
lesser_assoc (Some m) (Some n) (Some k) = ap Some (least_assoc number m n k)

-- where the lesser of two fails none, neither does
pub lesser_both : (x y : Option SemanticRule) → lesser x y ≡ None → (x ≡ None) × (y ≡ None)
lesser_both None y h = (refl, h)
lesser_both (Some m) None h = cc
lesser_both (Some m) (Some n) h = cc

pub no_first : (x y : Option SemanticRule) → lesser x y ≡ None → x ≡ None
no_first x y h = (lesser_both x y h).0

pub no_second : (x y : Option SemanticRule) → lesser x y ≡ None → y ≡ None
no_second x y h = (lesser_both x y h).1

-- where neither fails, the lesser of them doesn't
pub no_lesser : (x y : Option SemanticRule) → x ≡ None → y ≡ None → lesser x y ≡ None
no_lesser x y a b = ap₂ lesser a b

-- a rule that doesn't fail unless something holds: it holds
pub holds : (b : Bool) (k : SemanticRule) → unless b k ≡ None → b ≡ true
holds true k h = refl
holds false k h = cc

-- an item without a refusal fails no rule
pub no_item : (at : Place) (f : Option SemanticRule) → item at f ≡ None → f ≡ None
no_item at None h = refl
no_item at (Some k) h = cc
