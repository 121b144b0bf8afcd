-- Marked tokens as lists.
use Rattle.std.proofs.Common.{◌≡◌, ℕ, suc, List, [], ◌∷◌, ◌++◌, length, refl, ap, arith}
use Rattle.flow_tree.specs.declared.limits.Limits.{Limits}
use Rattle.flow_tree.specs.declared.limits.TheConstants.{OF_PROGRAMS, OF_CLASS_TEXT}
use Rattle.flow_tree.specs.GrammarToken.{Part, Declaration, Statement, Node, Variable, Branch, Marked, begin, spots_of, InLimits, InLimitsOf, AllInLimitsOf, Keeps, KeepsOf}

pub spots_append : (xs ys : List Marked) → spots_of (xs ++ ys) ≡ spots_of xs ++ spots_of ys
spots_append [] ys = refl
spots_append (x ∷ xs) ys = ap (λ zs. x.spot ∷ zs) (spots_append xs ys)

pub spots_begin : (p : Part) (xs : List Marked) → spots_of (begin p xs) ≡ spots_of xs
spots_begin p [] = refl
spots_begin p (x ∷ xs) = refl

pub keeps_append_of : (l : Limits) (n : ℕ) (xs ys : List Marked) → KeepsOf l n xs → KeepsOf l n ys → KeepsOf l n (xs ++ ys)
keeps_append_of l n [] ys h k = k
keeps_append_of l n (x ∷ xs) ys h k = (h.0, keeps_append_of l n xs ys h.1 k)

pub keeps_begin_of : (l : Limits) (n : ℕ) (p : Part) (xs : List Marked) → InLimitsOf l n p → KeepsOf l n xs → KeepsOf l n (begin p xs)
keeps_begin_of l n p [] i h = tt
keeps_begin_of l n p (x ∷ xs) i h = ((i, h.0), h.1)

pub keeps_append : (n : ℕ) (xs ys : List Marked) → Keeps n xs → Keeps n ys → Keeps n (xs ++ ys)
keeps_append = keeps_append_of OF_PROGRAMS

pub keeps_begin : (n : ℕ) (p : Part) (xs : List Marked) → InLimits n p → Keeps n xs → Keeps n (begin p xs)
keeps_begin = keeps_begin_of OF_PROGRAMS

-- what keeps the limits of programs keeps those of class text
pub class_part : (n : ℕ) (p : Part) → InLimitsOf OF_PROGRAMS n p → InLimitsOf OF_CLASS_TEXT n p
class_part n (Declaration k) h = λ l. omega (arith, h l)
class_part n (Statement k) h = λ l. omega (arith, h l)
class_part n (Node d) h = h
class_part n (Variable k) h = λ l. omega (arith, h l)
class_part n (Branch k) h = λ l. omega (arith, h l)

pub class_parts : (n : ℕ) (ps : List Part) → AllInLimitsOf OF_PROGRAMS n ps → AllInLimitsOf OF_CLASS_TEXT n ps
class_parts n [] h = tt
class_parts n (p ∷ ps) h = (class_part n p h.0, class_parts n ps h.1)

pub class_keeps : (n : ℕ) (xs : List Marked) → KeepsOf OF_PROGRAMS n xs → KeepsOf OF_CLASS_TEXT n xs
class_keeps n [] h = tt
class_keeps n (x ∷ xs) h = (class_parts n x.parts h.0, class_keeps n xs h.1)

pub length_spots : (xs : List Marked) → length (spots_of xs) ≡ length xs
length_spots [] = refl
length_spots (x ∷ xs) = ap suc (length_spots xs)
