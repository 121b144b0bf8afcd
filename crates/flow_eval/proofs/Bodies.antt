-- Variables of functions, as far as a loop has come.
use Rattle.std.proofs.Common.{◌≡◌, ℕ, zero, suc, ◌+◌, ◌<◌, List, [], ◌∷◌, ◌++◌, length, map, drop, get_or, refl, ap, sym, ◌∙◌, arith, add-one, append_assoc}
use Rattle.std.specs.declared.option.Option.{Option}
use Rattle.std.specs.declared.option.Option.TheVariants.{None, Some}
use Rattle.flow_tree.specs.declared.decl.Param.{Param}
use Rattle.flow_tree.specs.declared.ty.Ident.{Ident}
use Rattle.flow_tree.specs.DeclView.{param_of}
use Rattle.flow_tree.specs.Decls.{RecordTree}
use Rattle.flow_value.specs.Values.{ValueTree}
use Rattle.flow_eval.specs.Records.{field}
use Rattle.flow_eval.specs.Functions.{Locals, entered, with_first, read_in}

-- variables so far, before those of the rest
abbrev pub before : Locals → Option Locals → Option Locals
before xs None = None
before xs (Some ys) = Some (xs ++ ys)

before_first : (xs : Locals) (x : List ℕ × ValueTree) (o : Option Locals) → before xs (with_first x o) ≡ before (xs ++ x ∷ []) o
before_first xs x None = refl
before_first xs x (Some ys) = ap Some (sym (append_assoc xs (x ∷ []) ys))

pub before_none : (o : Option Locals) → before [] o ≡ o
before_none None = refl
before_none (Some xs) = refl

entered_at : (ps : List Param) (i : ℕ) (d : Param) (v : ValueTree) (vs : List ValueTree) → i < length ps
    → entered (map param_of (drop i ps)) (v ∷ vs) ≡ with_first ((get_or ps i d).name.name, v) (entered (map param_of (drop (suc i) ps)) vs)
entered_at [] i d v vs lt = absurd (omega arith)
entered_at (p ∷ ps) zero d v vs lt = refl
entered_at (p ∷ ps) (suc i) d v vs lt = let lt' : i < length ps = omega arith in entered_at ps i d v vs lt'

pub entered_more : (ps : List Param) (i : ℕ) (d : Param) (xs : Locals) (v : ValueTree) (vs : List ValueTree) → i < length ps
    → before xs (entered (map param_of (drop i ps)) (v ∷ vs)) ≡ before (xs ++ ((get_or ps i d).name.name, v) ∷ []) (entered (map param_of (drop (i + 1) ps)) vs)
entered_more ps i d xs v vs lt =
    rw add-one (ap (before xs) (entered_at ps i d v vs lt) ∙ before_first xs ((get_or ps i d).name.name, v) (entered (map param_of (drop (suc i) ps)) vs))

pub entered_short : (ps : List Param) (i : ℕ) (xs : Locals) → i < length ps → before xs (entered (map param_of (drop i ps)) []) ≡ None
entered_short [] i xs lt = absurd (omega arith)
entered_short (p ∷ ps) zero xs lt = refl
entered_short (p ∷ ps) (suc i) xs lt = let lt' : i < length ps = omega arith in entered_short ps i xs lt'

read_at : (rs : List RecordTree) (o : Option ValueTree) (xs : List Ident) (i : ℕ) (d : Ident) (v : ValueTree) → i < length xs → o ≡ Some v
    → read_in rs o (drop i xs) ≡ read_in rs (field rs v (get_or xs i d).name) (drop (suc i) xs)
read_at rs o [] i d v lt e = absurd (omega arith)
read_at rs o (x ∷ xs) zero d v lt e = ap (λ o. read_in rs o (x ∷ xs)) e
read_at rs o (x ∷ xs) (suc i) d v lt e = let lt' : i < length xs = omega arith in read_at rs o xs i d v lt' e

pub read_more : (rs : List RecordTree) (xs : List Ident) (i : ℕ) (d : Ident) (v w : ValueTree) → i < length xs → field rs v (get_or xs i d).name ≡ Some w
    → read_in rs (Some v) (drop i xs) ≡ read_in rs (Some w) (drop (i + 1) xs)
read_more rs xs i d v w lt e = rw add-one (read_at rs (Some v) xs i d v lt refl ∙ ap (λ o. read_in rs o (drop (suc i) xs)) e)

pub read_none : (rs : List RecordTree) (xs : List Ident) (i : ℕ) (d : Ident) (v : ValueTree) → i < length xs → field rs v (get_or xs i d).name ≡ None
    → read_in rs (Some v) (drop i xs) ≡ None
read_none rs xs i d v lt e = read_at rs (Some v) xs i d v lt refl ∙ ap (λ o. read_in rs o (drop (suc i) xs)) e
