-- The signs between two values, and before one.
use Rattle.std.specs.Prelude.{ℕ, ℤ, pos, ◌+ℤ◌, ◌-ℤ◌, ◌*ℤ◌, neg_ℤ, int_div, int_rem, int_le, nat_le, Bool, ◌&&◌, not, List, ◌++◌, length, if◌then◌else◌}
use Rattle.std.specs.Ordering.{is_eq, is_lt, is_le, is_gt, is_ge, int_cmp, bool_cmp, nat_cmp}
use Rattle.std.specs.Cmp.Lexicographic.{slice_cmp}
use Rattle.std.specs.declared.cmp.Ordering.{Ordering}
use Rattle.std.specs.declared.option.Option.{Option}
use Rattle.std.specs.declared.option.Option.TheVariants.{None, Some}
use Rattle.flow_base.specs.ErrorNumbers.{too_long}
use Rattle.flow_tree.specs.declared.expr.Op.{Op}
use Rattle.flow_tree.specs.declared.expr.Op.TheVariants.{Eq, Ne, Lt, Le, Gt, Ge, Add, Sub, Mul, Div, Rem}
use Rattle.flow_value.specs.Values.{ValueTree, IntValue, BoolValue, TextValue}
use Rattle.flow_eval.specs.Answers.{Answer, Given, Throws, NoMeaning, if_int, whole, truth}

abbrev pub is_zero : ℤ → Bool
is_zero z = int_le z (pos 0) && int_le (pos 0) z

-- division truncates toward zero, the remainder has the dividend's sign, and neither is there where
-- the quotient isn't an int
abbrev pub quotient : ℤ → ℤ → Option ℤ
quotient a b = if is_zero b then None else if_int (int_div a b) (int_div a b)

abbrev pub remainder : ℤ → ℤ → Option ℤ
remainder a b = if is_zero b then None else if_int (int_div a b) (int_rem a b)

-- what an equality or an order says of two values that compare so
abbrev pub compared : Op → Ordering → Option Bool
compared Eq o = Some (is_eq o)
compared Ne o = Some (not (is_eq o))
compared Lt o = Some (is_lt o)
compared Le o = Some (is_le o)
compared Gt o = Some (is_gt o)
compared Ge o = Some (is_ge o)
compared _ o = None

abbrev pub equated : Op → Bool → Option Bool
equated Eq b = Some b
equated Ne b = Some (not b)
equated _ b = None

-- two ints
abbrev pub on_ints : Op → ℤ → ℤ → Answer
on_ints Add a b = whole (if_int (a +ℤ b) (a +ℤ b))
on_ints Sub a b = whole (if_int (a -ℤ b) (a -ℤ b))
on_ints Mul a b = whole (if_int (a *ℤ b) (a *ℤ b))
on_ints Div a b = whole (quotient a b)
on_ints Rem a b = whole (remainder a b)
on_ints op a b = truth (compared op (int_cmp a b))

-- two texts, joined where the whole is short enough, or compared by bytes
abbrev pub joined : List ℕ → List ℕ → Answer
joined s t = if nat_le (length (s ++ t)) 65535 then Given (TextValue (s ++ t)) else Throws too_long

abbrev pub on_texts : Op → List ℕ → List ℕ → Answer
on_texts Add s t = joined s t
on_texts op s t = truth (compared op (slice_cmp nat_cmp s t))

abbrev pub on_bools : Op → Bool → Bool → Answer
on_bools op a b = truth (equated op (is_eq (bool_cmp a b)))

-- a sign between two values, both of which are known
abbrev pub operated : Op → ValueTree → ValueTree → Answer
operated op (IntValue a) (IntValue b) = on_ints op a b
operated op (TextValue s) (TextValue t) = on_texts op s t
operated op (BoolValue a) (BoolValue b) = on_bools op a b
operated op _ _ = NoMeaning

abbrev pub negated : ValueTree → Answer
negated (IntValue a) = whole (if_int (neg_ℤ a) (neg_ℤ a))
negated _ = NoMeaning

abbrev pub inverted : ValueTree → Answer
inverted (BoolValue b) = Given (BoolValue (not b))
inverted _ = NoMeaning
