-- References that lead to cells of their kinds.
use Rattle.std.proofs.Common.{◌≡◌, ℕ, [], ◌∷◌, map, inl, inr, refl, sym, ◌∙◌, subst}
use Rattle.std.specs.declared.option.Option.{Option}
use Rattle.std.specs.declared.option.Option.TheVariants.{None, Some}
use Rattle.flow_value.specs.declared.value.Kind.{Kind}
use Rattle.flow_value.specs.declared.value.Kind.TheVariants as kind
use Rattle.flow_value.specs.declared.value.Value.{Value}
use Rattle.flow_value.specs.declared.value.Outcome.{Outcome}
use Rattle.flow_cell.specs.Cells.{CellTree}
use Rattle.flow_stream.specs.Streams.{StreamTree}
use Rattle.flow_numbered.specs.Numbered as stored
use Rattle.flow_class.specs.Classes.{RawTree}
use Rattle.flow_cancel.specs.Heap.{HeapTree}
use Rattle.flow_meaning.specs.Requests.{Spot}
use Rattle.flow_meaning.specs.Cells.{Ref, Cell, Single, Stream}
use Rattle.flow_meaning.specs.Frame.{Frame}
use Rattle.flow_meaning.specs.Process.{Proc}
use Rattle.flow_heap_refinement.specs.Representing.{Represents, CellRepresents, spot_of_actor}
use Rattle.flow_heap_refinement.specs.Losing.{RightCell}
use Rattle.flow_heap_refinement.specs.Holds.{There, hold, with_refs}
use Rattle.flow_heap_refinement.proofs.Holds.{held_holds}
use Rattle.flow_steps.specs.Stuck.{Missing}
use Rattle.flow_frame.specs.declared.held.Held.{Held}
use Rattle.flow_steps.specs.StuckWaits.{NoCell}
use Rattle.flow_machine_progress.specs.Lookups.{NoneMissing, CellsFound}

pub some_none : {A : Type 0} {x : A} → Some x ≡ None → ⊥
some_none h = cc

-- where a cell of a kind is shown, it is there
shown_there : (kd : Kind) (spots : ℕ → Spot) (h : HeapTree) (k : ℕ) (o : Option (CellTree Outcome)) (u : Option (StreamTree Value)) (c : Cell) → stored.thing h.cells.things k ≡ o
    → stored.thing h.streams.things k ≡ u → CellRepresents spots o u (Some c) → RightCell kd c → Missing kd k h → ⊥
shown_there kind.Promise spots h k (Some m) u c a b s right missing = some_none (sym a ∙ missing)
shown_there kind.Future spots h k (Some m) u c a b s right missing = some_none (sym a ∙ missing)
shown_there kind.PromiseStream spots h k o (Some m) c a b s right missing = some_none (sym b ∙ missing)
shown_there kind.FutureStream spots h k o (Some m) c a b s right missing = some_none (sym b ∙ missing)
shown_there kind.Promise spots h k None None c a b s right missing = s
shown_there kind.Future spots h k None None c a b s right missing = s
shown_there kind.PromiseStream spots h k None None c a b s right missing = s
shown_there kind.FutureStream spots h k None None c a b s right missing = s
shown_there kind.Promise spots h k None (Some m) (Single v ws) a b s right missing = s
shown_there kind.Future spots h k None (Some m) (Single v ws) a b s right missing = s
shown_there kind.Promise spots h k None (Some m) (Stream q e w) a b s right missing = right
shown_there kind.Future spots h k None (Some m) (Stream q e w) a b s right missing = right
shown_there kind.PromiseStream spots h k (Some m) None (Stream q e w) a b s right missing = s
shown_there kind.FutureStream spots h k (Some m) None (Stream q e w) a b s right missing = s
shown_there kind.PromiseStream spots h k (Some m) None (Single v ws) a b s right missing = right
shown_there kind.FutureStream spots h k (Some m) None (Single v ws) a b s right missing = right

pub not_missing : (r : RawTree) (h : HeapTree) (p : Proc Frame) (q : Ref) → Represents r h p → There p q → Missing q.0 q.1 h → ⊥
not_missing r h p q s t m =
    shown_there q.0 (spot_of_actor p.actors) h q.1 (stored.thing h.cells.things q.1) (stored.thing h.streams.things q.1) t.cell refl refl
    (subst (λ o. CellRepresents (spot_of_actor p.actors) (stored.thing h.cells.things q.1) (stored.thing h.streams.things q.1) o) t.at (s.cells q.1)) t.right m

pub none_missing : NoneMissing
none_missing r x h p [] hs t m = m
none_missing r x h p (q ∷ qs) hs t (inl m) = not_missing r h p q hs.shows t.0 m
none_missing r x h p (q ∷ qs) hs t (inr m) = none_missing r (with_refs (q ∷ []) x) (hold q.0 q.1 h) p qs (held_holds r h p x q hs t.0) t.1 m

-- operands whose cells are there
no_cell : (kd : Kind) (k : ℕ) (h : HeapTree) → NoCell k h → Missing kd k h
no_cell kind.Promise k h m = m.0
no_cell kind.Future k h m = m.0
no_cell kind.PromiseStream k h m = m.1
no_cell kind.FutureStream k h m = m.1

pub cells_there : CellsFound
cells_there r x h p [] [] hs t e m = m
cells_there r x h p (q ∷ qs) [] hs t e m = m
cells_there r x h p [] (y ∷ ys) hs t e m = absurd (cc (e))
cells_there r x h p (q ∷ qs) (y ∷ ys) hs t e (inl m) =
    let same : y.cell.0 ≡ q.1 = cc (e) in
    not_missing r h p q hs.shows t.0 (no_cell q.0 q.1 h (subst (λ k. NoCell k h) same m))
cells_there r x h p (q ∷ qs) (y ∷ ys) hs t e (inr m) =
    let rest : map (λ (q : Ref). q.1) qs ≡ map (λ (x : Held). x.cell.0) ys = cc (e) in cells_there r x h p qs ys hs t.1 rest m
