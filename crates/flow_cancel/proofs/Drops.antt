-- Drops of references on top of tasks.
use Rattle.std.proofs.Common.{◌≡◌, ℕ, false, List, [], ◌∷◌, ◌++◌, refl, sym, ap, ◌∙◌}
use Rattle.flow_value.specs.declared.value.Kind.{Kind}
use Rattle.flow_value.specs.declared.value.Value.{Value}
use Rattle.flow_value.specs.Values.{refs_of, refs_of_all, any_may_refer}
use Rattle.flow_value.specs.View.{value_of, values_of}
use Rattle.flow_value.proofs.References.{no_part_refs}
use Rattle.flow_cancel.specs.declared.task.Task.{Task}
use Rattle.flow_cancel.specs.declared.task.Task.TheVariants.{Drop}
use Rattle.flow_cancel.specs.Heap.{HeapTree, cell_id}
use Rattle.flow_cancel.specs.Dropping.{refs_in, drops}
use Rattle.flow_frame.specs.declared.held.Held.{Held}
use Rattle.flow_cancel.specs.Leaving.{leave_one, leave_all}

pub drops_append : (rs ss : List (Kind × ℕ)) (ts : List Task) → drops (rs ++ ss) ts ≡ drops rs (drops ss ts)
drops_append [] ss ts = refl
drops_append (r ∷ rs) ss ts = ap (λ us. Drop r.0 (cell_id r.1) ∷ us) (drops_append rs ss ts)

-- the references of the last value first
pub drops_last : (vs : List Value) (v : Value) (ts : List Task) → drops (refs_in (vs ++ v ∷ [])) ts ≡ drops (refs_in vs) (drops (refs_of (value_of v)) ts)
drops_last [] v ts = drops_append (refs_of (value_of v)) [] ts
drops_last (w ∷ ws) v ts =
    drops_append (refs_of (value_of w)) (refs_in (ws ++ v ∷ [])) ts ∙ ap (drops (refs_of (value_of w))) (drops_last ws v ts)
    ∙ sym (drops_append (refs_of (value_of w)) (refs_in ws) (drops (refs_of (value_of v)) ts))

-- the references of parts are those of the values
pub refs_all : (vs : List Value) → refs_of_all (values_of vs) ≡ refs_in vs
refs_all [] = refl
refs_all (v ∷ vs) = ap (λ rs. refs_of (value_of v) ++ rs) (refs_all vs)

pub fields_last : (vs : List Value) (v : Value) (ts : List Task) → drops (refs_of_all (values_of (vs ++ v ∷ []))) ts ≡ drops (refs_of_all (values_of vs)) (drops (refs_of (value_of v)) ts)
fields_last vs v ts =
    ap (λ rs. drops rs ts) (refs_all (vs ++ v ∷ [])) ∙ drops_last vs v ts ∙ sym (ap (λ rs. drops rs (drops (refs_of (value_of v)) ts)) (refs_all vs))

-- what can't refer leaves the tasks as they are
pub nothing_drops : (vs : List Value) (ts : List Task) → any_may_refer (values_of vs) ≡ false → ts ≡ drops (refs_of_all (values_of vs)) ts
nothing_drops vs ts e = ap (λ rs. drops rs ts) (sym (no_part_refs (values_of vs) e))

-- the last callback leaves first
pub leave_last : (i : ℕ) (xs : List Held) (x : Held) (h : HeapTree) → leave_all i (xs ++ x ∷ []) h ≡ leave_all i xs (leave_one i x h)
leave_last i [] x h = refl
leave_last i (y ∷ ys) x h = ap (leave_one i y) (leave_last i ys x h)
