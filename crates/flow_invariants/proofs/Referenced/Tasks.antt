-- The tasks of an actor but its next step lose no reference.
use Rattle.std.proofs.Common.{◌≡◌, ℕ, suc, ◌+◌, ◌≤◌, Bool, true, false, List, [], ◌∷◌, refl, sym, ap, subst, ◌∙◌, arith}
use Rattle.std.specs.declared.option.Option.{Option}
use Rattle.std.specs.declared.option.Option.TheVariants.{Some}
use Rattle.flow_tree.specs.Tree.{TypeTree, FutureType, FutureStreamType}
use Rattle.flow_value.specs.declared.value.Kind.{Kind}
use Rattle.flow_value.specs.declared.value.Kind.TheVariants as kind
use Rattle.flow_value.specs.Values.{ValueTree, RefValue}
use Rattle.flow_class.specs.Classes.{RawTree}
use Rattle.flow_valid.specs.Validity.{operand_type}
use Rattle.flow_numbered.specs.Numbered.{Numbered, thing, put}
use Rattle.flow_meaning.specs.Cells.{Side, Ref, Cell, Single, Stream}
use Rattle.flow_meaning.specs.Process.{Task, Entry, Core}
use Rattle.flow_meaning.specs.References.{refs_in, count, in_task}
use Rattle.flow_meaning.specs.Orderly.{is_suspended}
use Rattle.flow_meaning.specs.Work.{pushed, dropping_values, leave_for}
use Rattle.flow_meaning.specs.Frame.{Frame}
use Rattle.flow_meaning.proofs.Posture.{each_number, thing_put, thing_put_other}
use Rattle.flow_heap_refinement.specs.Counted.{Agree, waiting_of}
use Rattle.flow_heap_refinement.specs.Leaving.{wait_kind, RightKinds}
use Rattle.flow_heap_refinement.proofs.Tidy.{agree_by}
use Rattle.flow_progress.specs.Fitting.{CellTypes, typed_by, CellFits, CellAt, OperandsFit}
use Rattle.flow_progress.proofs.CellStates.{cell_there}
use Rattle.flow_progress.proofs.Given.{future_ref, next_ref}
use Rattle.flow_invariants.proofs.Referenced.Onward.{no_refs, Onward, onward_on, pop_onward, drop_onward, frame_onward, leave_onward, swap_onward, drop_push_onward}

-- operands have the kinds of their cells, and are future references
module _ (r : RawTree) (types : CellTypes) (c : Core) (cells : (k : ℕ) → CellAt r types (types k) (thing c.cells k)) where
  single_kind : (x : Option Cell) (u : TypeTree) → (cell : Cell) × (x ≡ Some cell) × CellFits r types cell (FutureType u) → kind.Future ≡ wait_kind x
  single_kind x u h = subst (λ o. kind.Future ≡ wait_kind o) (sym h.1) (by_cell h.0 h.2)
    where
      by_cell : (cell : Cell) → CellFits r types cell (FutureType u) → kind.Future ≡ wait_kind (Some cell)
      by_cell (Single o ws) f = refl
      by_cell (Stream q e w) f = absurd (let d = f.1 in cc)

  stream_kind : (x : Option Cell) (u : TypeTree) → (cell : Cell) × (x ≡ Some cell) × CellFits r types cell (FutureStreamType u) → kind.FutureStream ≡ wait_kind x
  stream_kind x u h = subst (λ o. kind.FutureStream ≡ wait_kind o) (sym h.1) (by_cell h.0 h.2)
    where
      by_cell : (cell : Cell) → CellFits r types cell (FutureStreamType u) → kind.FutureStream ≡ wait_kind (Some cell)
      by_cell (Single o ws) f = absurd (let d = f.1 in cc)
      by_cell (Stream q e w) f = refl

  ref_kind : {a b : Kind} {m n : ℕ} → RefValue a m ≡ RefValue b n → (a ≡ b) × (m ≡ n)
  ref_kind e = (cc, cc)

  operand_kind : (next : Bool) (q : Ref) (u : TypeTree) → Rattle.flow_eval.specs.Typed.HasType r.records (typed_by types) (RefValue q.0 q.1) (operand_type next u) → q.0 ≡ wait_kind (thing c.cells q.1)
  operand_kind false q u h =
      let z = future_ref r.records (typed_by types) (RefValue q.0 q.1) u h in
      let e = ref_kind z.1 in
      e.0 ∙ subst (λ n. kind.Future ≡ wait_kind (thing c.cells n)) (sym e.1) (single_kind (thing c.cells z.0) u (cell_there r types z.0 (FutureType u) (thing c.cells z.0) z.2 (cells z.0)))
  operand_kind true q u h =
      let z = next_ref r.records (typed_by types) (RefValue q.0 q.1) u h in
      let e = ref_kind z.1 in
      e.0 ∙ subst (λ n. kind.FutureStream ≡ wait_kind (thing c.cells n)) (sym e.1) (stream_kind (thing c.cells z.0) u (cell_there r types z.0 (FutureStreamType u) (thing c.cells z.0) z.2 (cells z.0)))

  pub right_kinds : (f : Frame) (n : ℕ) (qs : List Ref) → OperandsFit r types f n qs → RightKinds c.cells qs
  right_kinds f n [] h = tt
  right_kinds f n (q ∷ qs) h =
      let x = h.0.1 in
      (operand_kind x.callback.next q x.takes (subst (Rattle.flow_eval.specs.Typed.HasType r.records (typed_by types) (RefValue q.0 q.1)) x.type h.0.2), right_kinds f (suc n) qs h.1)

-- waiters and operands agree where an entry is replaced by one that waits as it does
pub agree_put : (c : Core) (i : ℕ) (e0 e : Entry) → thing c.entries i ≡ Some e0 → waiting_of (Some e) ≡ waiting_of (Some e0) → Agree c → Agree (record c { entries = put c.entries i e })
agree_put c i e0 e at same h =
    agree_by c (record c { entries = put c.entries i e }) (λ k. refl)
    (each_number i (λ j. waiting_of (thing (put c.entries i e) j) ≡ waiting_of (thing c.entries j))
    (ap waiting_of (thing_put c.entries i e0 e at) ∙ same ∙ sym (ap waiting_of at))
    (λ j o. ap waiting_of (thing_put_other c.entries i j e o))) h

module _ (k : ℕ) (c : Core) (xs : Numbered Frame) (ts : List Task) where
  abbrev pub Kept : Core → Numbered Frame → Type 0
  Kept d ys = Onward k no_refs no_refs c xs d ys

  abbrev pub now : Core
  now = record c { tasks = ts }

  -- one task for another
  pub swapped : (u v : Task) → c.tasks ≡ u ∷ ts → ((s : Side) → in_task s k u ≤ in_task s k v) → Kept (pushed v now) xs
  swapped u v top h = onward_on k no_refs (λ s. in_task s k u) no_refs c xs now xs (pushed v now) xs (pop_onward k u ts c xs top) (swap_onward k u v now xs h)

  -- a value is handed to an actor, what it replaces is dropped, and a task follows that holds nothing
  pub handed_on : (u : Task) (i : ℕ) (f g : Frame) (vs : List ValueTree) (v : Task) → c.tasks ≡ u ∷ ts → thing xs i ≡ Some f
      → ((s : Side) → Rattle.flow_meaning.specs.Frame.occ_memory s k f.mem + in_task s k u ≤ Rattle.flow_meaning.specs.Frame.occ_memory s k g.mem + count s k (refs_in vs))
      → Kept (dropping_values vs (pushed v now)) (put xs i g)
  handed_on u i f g vs v top at h =
      let ys = put xs i g in
      let a : Side → ℕ = λ s. in_task s k u in
      let b : Side → ℕ = λ s. count s k (refs_in vs) in
      let first = onward_on k no_refs a b c xs now xs now ys (pop_onward k u ts c xs top) (frame_onward k a b i f g now xs at h) in
      let last = drop_push_onward k vs v now ys in
      onward_on k no_refs b no_refs c xs now ys (dropping_values vs (pushed v now)) ys first (last.0, λ s. let m = last.1 s in omega (arith, m), last.2)

  pub stored_on : (u : Task) (i : ℕ) (f g : Frame) (vs : List ValueTree) → c.tasks ≡ u ∷ ts → thing xs i ≡ Some f
      → ((s : Side) → Rattle.flow_meaning.specs.Frame.occ_memory s k f.mem + in_task s k u ≤ Rattle.flow_meaning.specs.Frame.occ_memory s k g.mem + count s k (refs_in vs))
      → Kept (dropping_values vs now) (put xs i g)
  stored_on u i f g vs top at h =
      let ys = put xs i g in
      let a : Side → ℕ = λ s. in_task s k u in
      let b : Side → ℕ = λ s. count s k (refs_in vs) in
      let first = onward_on k no_refs a b c xs now xs now ys (pop_onward k u ts c xs top) (frame_onward k a b i f g now xs at h) in
      onward_on k no_refs b no_refs c xs now ys (dropping_values vs now) ys first (drop_onward k vs now ys)

  -- an actor's frame gives values, and it leaves its wait with them
  pub leaves_on : (u : Task) (i : ℕ) (f g : Frame) (e : Entry) (vs : List ValueTree) (v : Task) (d : Core) → c.tasks ≡ u ∷ ts → thing xs i ≡ Some f
      → ((s : Side) → Rattle.flow_meaning.specs.Frame.occ_memory s k f.mem + in_task s k u ≤ Rattle.flow_meaning.specs.Frame.occ_memory s k g.mem + (count s k (refs_in vs) + in_task s k v))
      → ((b : Side → ℕ) → Onward k b b now (put xs i g) d (put xs i g)) → thing d.entries i ≡ Some e → Agree d → RightKinds d.cells e.operands
      → Rattle.flow_meaning.specs.Orderly.Rising 0 d.made d.cells → Kept (leave_for i e vs v d) (put xs i g)
  leaves_on u i f g e vs v d top at h same entry agree kinds up =
      let ys = put xs i g in
      let a : Side → ℕ = λ s. in_task s k u in
      let b : Side → ℕ = λ s. count s k (refs_in vs) + in_task s k v in
      let first = onward_on k no_refs a b c xs now xs now ys (pop_onward k u ts c xs top) (frame_onward k a b i f g now xs at h) in
      let second = onward_on k no_refs b b c xs now ys d ys first (same b) in
      onward_on k no_refs b no_refs c xs d ys (leave_for i e vs v d) ys second (leave_onward k i e vs v d ys entry agree kinds up)
