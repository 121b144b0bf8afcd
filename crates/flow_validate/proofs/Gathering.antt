-- What a loop gathers from the elements of a list, one after another.
use Rattle.std.proofs.Common.{◌≡◌, ℕ, zero, suc, ◌<◌, ◌≤◌, List, [], ◌∷◌, ◌++◌, map, length, drop, get_or, refl, ap, ◌∙◌, arith}
use Rattle.std.proofs.lemmas.List.{map-append}
use Rattle.std.proofs.lemmas.List.Elements.{filter-append}
use Rattle.flow_tree.specs.declared.expr.Expr.{Expr}
use Rattle.flow_tree.specs.View.{exprs_of}
use Rattle.flow_class.specs.declared.class.Slotted.{Slotted}
use Rattle.flow_class.specs.declared.class.Callback.{Callback}
use Rattle.flow_class.specs.View.{callback_of}
use Rattle.flow_validate.specs.declared.touch.Touch.{Touch}
use Rattle.flow_validate.specs.declared.touch.Touch.TheVariants.{Reads}
use Rattle.flow_valid.specs.Named.{exprs_places}
use Rattle.flow_valid.specs.Filling.{operands}
use Rattle.flow_validate.specs.Small.{is_small, small_places, reads_of}

pub drop_next : {A : Type 0} (xs : List A) (i : ℕ) (d : A) → i < length xs → drop i xs ≡ get_or xs i d ∷ drop (suc i) xs
drop_next [] i d lt = absurd (omega arith)
drop_next (x ∷ xs) zero d lt = refl
drop_next (x ∷ xs) (suc i) d lt = let m : i < length xs = omega arith in drop_next xs i d m

pub dropped_all : {A : Type 0} (xs : List A) (i : ℕ) → length xs ≤ i → drop i xs ≡ []
dropped_all [] zero le = refl
dropped_all [] (suc i) le = refl
dropped_all (x ∷ xs) zero le = absurd (omega arith)
dropped_all (x ∷ xs) (suc i) le = let m : length xs ≤ i = omega arith in dropped_all xs i m

pub reads_both : (ps qs : List Slotted) → reads_of (ps ++ qs) ≡ reads_of ps ++ reads_of qs
reads_both ps qs = ap (map Reads) (filter-append is_small ps qs) ∙ map-append Reads (small_places ps) (small_places qs)

abbrev pub args_read : List Expr → List Touch
args_read es = reads_of (exprs_places (exprs_of es))

abbrev pub operands_read : List Callback → List Touch
operands_read cs = reads_of (operands (map callback_of cs))
