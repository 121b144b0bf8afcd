-- In a process that fits, references lead to cells of their kinds.
use Rattle.std.proofs.Common.{◌≡◌, ℕ, suc, false, true, List, [], ◌∷◌, refl, sym, ap, subst, ◌∙◌}
use Rattle.std.specs.declared.option.Option.TheVariants.{None, Some}
use Rattle.flow_tree.specs.Tree.{TypeTree, FutureType, FutureStreamType}
use Rattle.flow_value.specs.declared.value.Kind.{Kind}
use Rattle.flow_value.specs.declared.value.Kind.TheVariants as kind
use Rattle.flow_value.specs.Values.{ValueTree, RefValue, refs_of, OutcomeTree, GoodOutcome, BadOutcome}
use Rattle.flow_value.proofs.References.{refs_map, listed_both, refs_listed}
use Rattle.flow_eval.specs.Typed.{future_side, HasType}
use Rattle.flow_eval.proofs.TypedReferences.{LeadsSomewhere, refs_lead}
use Rattle.flow_class.specs.Classes.{RawTree}
use Rattle.flow_valid.specs.Validity.{operand_type}
use Rattle.flow_numbered.specs.Numbered.{thing}
use Rattle.flow_meaning.specs.Cells.{Ref, Cell, Single, Stream, taken}
use Rattle.flow_meaning.specs.Process.{Proc}
use Rattle.flow_meaning.specs.References.{refs_in, value_in}
use Rattle.flow_meaning.specs.Frame.{Frame}
use Rattle.flow_heap_refinement.specs.Losing.{RightCell}
use Rattle.flow_heap_refinement.specs.Leaving.{wait_kind, RightKinds}
use Rattle.flow_heap_refinement.specs.Holds.{There, AllThere}
use Rattle.flow_progress.specs.Asking.{OutcomeFits}
use Rattle.flow_progress.specs.Fitting.{CellTypes, typed_by, Fits, CellFits, CellAt, OperandsFit}
use Rattle.flow_progress.proofs.CellStates.{cell_there}

module _ (r : RawTree) (types : CellTypes) (p : Proc Frame) (cells : (k : ℕ) → CellAt r types (types k) (thing p.core.cells k)) where
  right_by : (kd : Kind) (u : TypeTree) (c : Cell) → CellFits r types c (future_side kd u) → RightCell kd c
  right_by kind.Promise u (Single o ws) h = tt
  right_by kind.Future u (Single o ws) h = tt
  right_by kind.PromiseStream u (Stream q e w) h = tt
  right_by kind.FutureStream u (Stream q e w) h = tt
  right_by kind.Promise u (Stream q e w) h = let d = h.1 in absurd cc
  right_by kind.Future u (Stream q e w) h = let d = h.1 in absurd cc
  right_by kind.PromiseStream u (Single o ws) h = let d = h.1 in absurd cc
  right_by kind.FutureStream u (Single o ws) h = let d = h.1 in absurd cc

  pub ref_there : (kd : Kind) (k : ℕ) (u : TypeTree) → types k ≡ Some (future_side kd u) → There p (kd, k)
  ref_there kd k u e =
      let c = cell_there r types k (future_side kd u) (thing p.core.cells k) e (cells k) in
      record { cell = c.0; at = c.1; right = right_by kd u c.0 c.2 }

  led_there : (q : Ref) → LeadsSomewhere (typed_by types) q → There p q
  led_there q l = let t = ref_there q.0 q.1 l.0 l.1 in record { cell = t.cell; at = t.at; right = t.right }

  pub value_there : (v : ValueTree) (t : TypeTree) → HasType r.records (typed_by types) v t → AllThere p (refs_of v)
  value_there v t h =
      refs_listed (There p) v (refs_map (LeadsSomewhere (typed_by types)) (There p) led_there v (refs_lead r.records (typed_by types) v t h))

  pub outcome_there : (o : OutcomeTree) (u : TypeTree) → OutcomeFits r.records (typed_by types) o u → AllThere p (refs_in (value_in o))
  outcome_there (GoodOutcome v) u h = listed_both (There p) (refs_of v) [] (value_there v u h) tt
  outcome_there (BadOutcome e) u h = tt

  -- what a branch takes from a cell
  pub content_there : (c : Cell) (t : TypeTree) → CellFits r types c t → (o : OutcomeTree) → taken c ≡ Some o → AllThere p (refs_in (value_in o))
  content_there (Single None ws) t h o e = cc
  content_there (Single (Some x) ws) t h o e = let s : x ≡ o = cc in subst (λ y. AllThere p (refs_in (value_in y))) s (outcome_there x h.0 h.2)
  content_there (Stream [] None w) t h o e = cc
  content_there (Stream [] (Some n) w) t h o e = let s : BadOutcome n ≡ o = cc in subst (λ y. AllThere p (refs_in (value_in y))) s tt
  content_there (Stream (v ∷ vs) d w) t h o e = let s : GoodOutcome v ≡ o = cc in subst (λ y. AllThere p (refs_in (value_in y))) s (outcome_there (GoodOutcome v) h.0 h.2.0)

  -- the kind of an operand is that by which one waits at its cell
  waits_right : (u : TypeTree) (c : Cell) → CellFits r types c (FutureType u) → kind.Future ≡ wait_kind (Some c)
  waits_right u (Single o ws) h = refl
  waits_right u (Stream q e w) h = let d = h.1 in absurd cc

  streams_right : (u : TypeTree) (c : Cell) → CellFits r types c (FutureStreamType u) → kind.FutureStream ≡ wait_kind (Some c)
  streams_right u (Single o ws) h = let d = h.1 in absurd cc
  streams_right u (Stream q e w) h = refl

  pub record OperandCell (q : Ref) : Type 0 where
    pub cell : Cell
    pub at : thing p.core.cells q.1 ≡ Some cell
    pub kind : q.0 ≡ wait_kind (Some cell)
    pub there : There p q
    pub type : TypeTree
    pub fits : CellFits r types cell type

  pub operand_cell : (kd : Kind) (k : ℕ) (next : _) (u : TypeTree) → Fits r types (RefValue kd k) (operand_type next u) → OperandCell (kd, k)
  operand_cell kind.Future k false u h =
      let c = cell_there r types k (FutureType h.0) (thing p.core.cells k) h.2 (cells k) in
      record { cell = c.0; at = c.1; kind = waits_right h.0 c.0 c.2; there = ref_there kind.Future k h.0 h.2; type = FutureType h.0; fits = c.2 }
  operand_cell kind.FutureStream k true u h =
      let c = cell_there r types k (FutureStreamType h.0) (thing p.core.cells k) h.2 (cells k) in
      record { cell = c.0; at = c.1; kind = streams_right h.0 c.0 c.2; there = ref_there kind.FutureStream k h.0 h.2; type = FutureStreamType h.0; fits = c.2 }
  operand_cell kind.Promise k false u h = let d = h.1 in absurd cc
  operand_cell kind.Promise k true u h = let d = h.1 in absurd cc
  operand_cell kind.PromiseStream k true u h = let d = h.1 in absurd cc
  operand_cell kind.PromiseStream k false u h = let d = h.1 in absurd cc
  operand_cell kind.Future k true u h = let d = h.1 in absurd cc
  operand_cell kind.FutureStream k false u h = let d = h.1 in absurd cc

  pub operands_right : (f : Frame) (n : ℕ) (qs : List Ref) → OperandsFit r types f n qs → RightKinds p.core.cells qs
  operands_right f n [] h = tt
  operands_right f n (q ∷ qs) h =
      let next = h.0.1 in
      let c = operand_cell q.0 q.1 next.callback.next next.takes (subst (Fits r types (RefValue q.0 q.1)) next.type h.0.2) in
      (c.kind ∙ ap wait_kind (sym c.at), operands_right f (suc n) qs h.1)
