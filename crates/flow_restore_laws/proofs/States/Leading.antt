-- Each reference among the parts of a heap at rest leads to a cell of its kind.
use Rattle.std.proofs.Common.{◌≡◌, ◌<◌, ℕ, zero, suc, Bool, true, false, List, [], ◌∷◌, ◌++◌, map, length, refl, sym, ap, ◌∙◌, subst, arith}
use Rattle.std.specs.Prelude.{slice_get}
use Rattle.std.specs.List.{AllByRecursion, flat_map}
use Rattle.std.specs.Option.{option_map}
use Rattle.std.specs.declared.option.Option.{Option}
use Rattle.std.specs.declared.option.Option.TheVariants.{None, Some}
use Rattle.flow_base.specs.declared.ids.CellId.{CellId}
use Rattle.flow_tree.specs.Tree.{TypeTree}
use Rattle.flow_tree.specs.Decls.{SlotTree}
use Rattle.flow_value.specs.declared.value.Kind.{Kind}
use Rattle.flow_value.specs.declared.value.Kind.TheVariants as kind
use Rattle.flow_value.specs.declared.value.Value.{Value}
use Rattle.flow_value.specs.declared.value.Outcome.{Outcome}
use Rattle.flow_value.specs.Values.{ValueTree, OutcomeTree, GoodOutcome, BadOutcome, refs_of}
use Rattle.flow_value.specs.View.{value_of, outcome_of}
use Rattle.flow_value.proofs.References.{listed_both}
use Rattle.flow_class.specs.declared.class.Slotted.TheVariants.{Slot, Local}
use Rattle.flow_class.specs.Classes.{RawTree}
use Rattle.flow_numbered.specs.Numbered.{thing}
use Rattle.flow_cell.specs.declared.waiter.Waiter as memory
use Rattle.flow_cell.specs.Cells.{CellTree}
use Rattle.flow_stream.specs.Streams.{StreamTree}
use Rattle.flow_frame.specs.Frames.{FrameTree}
use Rattle.flow_cancel.specs.Heap.{HeapTree, has_number}
use Rattle.flow_heapstate.specs.State.{cell_part, stream_part, actor_part, result_noted, parts_of}
use Rattle.flow_heapstate.specs.Referring as parts
use Rattle.flow_heapstate.specs.Referring.{content_refs, place_refs, noted, named, waited, waits_of, cell_refs, stream_refs, actor_refs, result_refs}
use Rattle.flow_meaning.specs.Cells.{Ref, Cell, Single, Stream}
use Rattle.flow_meaning.specs.Process.{Entry, Proc}
use Rattle.flow_meaning.specs.Orderly.{Rising}
use Rattle.flow_meaning.specs.Variables.{flat}
use Rattle.flow_meaning.specs.Frame.{Frame}
use Rattle.flow_heap_refinement.specs.Holds.{There, AllThere}
use Rattle.flow_heap_refinement.specs.Representing.{cell_number}
use Rattle.flow_progress.specs.Places.{HoldsTypes}
use Rattle.flow_progress.specs.Fitting.{typed_by, ContentFits, QueueFits, CellFits, CellAt}
use Rattle.flow_burst_refinement.proofs.Invariants.Theres.{ref_there, value_there}
use Rattle.flow_restore_laws.specs.States.Heaps.{Fitting}
use Rattle.flow_restore_laws.proofs.States.Totals.{all_by, rising}
use Rattle.flow_restore_laws.proofs.States.Standing.{unset_is, single_at, stream_at, actor_stands}

-- places one by one
all_places : (P : List (Kind × ℕ) → Type 0) → P [] → ((xs ys : List (Kind × ℕ)) → P xs → P ys → P (xs ++ ys)) → (os : List (Option ValueTree))
    → ((n : ℕ) (v : ValueTree) → flat (slice_get os n) ≡ Some v → P (refs_of v)) → P (flat_map place_refs os)
all_places P none both [] h = none
all_places P none both (None ∷ os) h = both [] (flat_map place_refs os) none (all_places P none both os (λ n v e. h (suc n) v e))
all_places P none both (Some v ∷ os) h = both (refs_of v) (flat_map place_refs os) (h 0 v refl) (all_places P none both os (λ n v e. h (suc n) v e))

-- a place that is there has a type
slot_typed : (ss : List SlotTree) (n : ℕ) → n < length ss → (s : SlotTree) × (slice_get ss n ≡ Some s)
slot_typed [] n l = absurd (omega (arith, l))
slot_typed (s ∷ ss) zero l = (s, refl)
slot_typed (s ∷ ss) (suc n) l = slot_typed ss n (omega (arith, l))

local_typed : (ts : List TypeTree) (n : ℕ) → n < length ts → (t : TypeTree) × (slice_get ts n ≡ Some t)
local_typed [] n l = absurd (omega (arith, l))
local_typed (t ∷ ts) zero l = (t, refl)
local_typed (t ∷ ts) (suc n) l = local_typed ts n (omega (arith, l))

within : (os : List (Option ValueTree)) (n : ℕ) (v : ValueTree) → flat (slice_get os n) ≡ Some v → n < length os
within [] n v e = absurd (let a : None ≡ Some v = e in cc (a))
within (o ∷ os) zero v e = omega arith
within (o ∷ os) (suc n) v e = let a = within os n v e in omega (arith, a)

places_joined : (os us : List (Option ValueTree)) → flat_map place_refs (os ++ us) ≡ flat_map place_refs os ++ flat_map place_refs us
places_joined [] us = refl
places_joined (None ∷ os) us = places_joined os us
places_joined (Some v ∷ os) us = ap (λ rs. refs_of v ++ rs) (places_joined os us) ∙ sym (joined (refs_of v) (flat_map place_refs os) (flat_map place_refs us))
  where
    joined : (xs ys zs : List (Kind × ℕ)) → (xs ++ ys) ++ zs ≡ xs ++ (ys ++ zs)
    joined [] ys zs = refl
    joined (x ∷ xs) ys zs = ap (λ rs. x ∷ rs) (joined xs ys zs)

module _ (r : RawTree) (h : HeapTree) (p : Proc Frame) (f : Fitting r h p) where
  abbrev both : (xs ys : List Ref) → AllThere p xs → AllThere p ys → AllThere p (xs ++ ys)
  both = listed_both (There p)

  fits : (k : ℕ) → CellAt r f.types (f.types k) (thing p.core.cells k)
  fits = f.fits.cells

  -- a cell that is there fits its type
  fits_at : (n : ℕ) (c : Cell) → thing p.core.cells n ≡ Some c → (t : TypeTree) × CellFits r f.types c t
  fits_at n c e = by_type (f.types n) (subst (CellAt r f.types (f.types n)) e (fits n))
    where
      by_type : (o : Option TypeTree) → CellAt r f.types o (Some c) → (t : TypeTree) × CellFits r f.types c t
      by_type None x = absurd x
      by_type (Some t) x = (t, x)

  noted_there : (b : Bool) (q : Kind) (n : ℕ) → There p (q, n) → AllThere p (noted b q n)
  noted_there false q n t = tt
  noted_there true q n t = (t, tt)

  content_there : (o : Option OutcomeTree) (u : TypeTree) → ContentFits r f.types o u → AllThere p (content_refs o)
  content_there None u x = tt
  content_there (Some (GoodOutcome v)) u x = value_there r f.types p fits v u x
  content_there (Some (BadOutcome e)) u x = tt

  waits_there : (n : ℕ) (ws : List memory.Waiter) → There p (kind.Future, n) → AllThere p (waits_of n ws)
  waits_there n [] t = tt
  waits_there n (w ∷ ws) t = (t, waits_there n ws t)

  cell_leads : (n : ℕ) (m : CellTree Outcome) → thing h.cells.things n ≡ Some m → AllThere p (cell_refs (cell_part h.requests (n, m)))
  cell_leads n m e =
      let s = single_at r h p f n m e in
      let x = fits_at n (Single s.content s.waiters) s.at in
      let promise : There p (kind.Promise, n) = record { cell = Single s.content s.waiters; at = s.at; right = tt } in
      let future : There p (kind.Future, n) = record { cell = Single s.content s.waiters; at = s.at; right = tt } in
      both (content_refs (option_map outcome_of m.content)) _ (subst (λ o. AllThere p (content_refs o)) s.content_is (content_there s.content x.1.0 x.1.2))
      (both (noted (has_number h.requests n) kind.Promise n) (waits_of n m.waiters) (noted_there (has_number h.requests n) kind.Promise n promise) (waits_there n m.waiters future))

  queue_there : (vs : List ValueTree) (u : TypeTree) → QueueFits r f.types vs u → AllThere p (flat_map refs_of vs)
  queue_there [] u x = tt
  queue_there (v ∷ vs) u x = both (refs_of v) (flat_map refs_of vs) (value_there r f.types p fits v u x.0) (queue_there vs u x.1)

  waited_there : (n : ℕ) (o : Option memory.Waiter) → There p (kind.FutureStream, n) → AllThere p (waited o n)
  waited_there n None t = tt
  waited_there n (Some w) t = (t, tt)

  stream_leads : (n : ℕ) (m : StreamTree Value) → thing h.streams.things n ≡ Some m → AllThere p (stream_refs (stream_part h.ports (n, m)))
  stream_leads n m e =
      let s = stream_at r h p f n m e in
      let c : Cell = Stream s.queue s.end s.waiter in
      let x = fits_at n c s.at in
      both (flat_map refs_of (map value_of m.queue)) _ (subst (λ vs. AllThere p (flat_map refs_of vs)) s.queue_is (queue_there s.queue x.1.0 x.1.2))
      (both (noted (has_number h.ports n) kind.PromiseStream n) (waited m.waiter n) (noted_there (has_number h.ports n) kind.PromiseStream n (record { cell = c; at = s.at; right = tt }))
      (waited_there n m.waiter (record { cell = c; at = s.at; right = tt })))

  -- the places of a frame
  places_there : (g : Frame) → HoldsTypes r.records (typed_by f.types) g.code g.mem → AllThere p (flat_map place_refs (g.mem.slots ++ g.mem.locals))
  places_there g x =
      subst (AllThere p) (sym (places_joined g.mem.slots g.mem.locals))
      (both (flat_map place_refs g.mem.slots) (flat_map place_refs g.mem.locals) (all_places (AllThere p) tt both g.mem.slots slot) (all_places (AllThere p) tt both g.mem.locals local))
    where
      slot : (n : ℕ) (v : ValueTree) → flat (slice_get g.mem.slots n) ≡ Some v → AllThere p (refs_of v)
      slot n v e =
          let t = slot_typed g.code.slots n (let a = within g.mem.slots n v e in let b = x.slots in omega (arith, a, b)) in
          value_there r f.types p fits v t.0.ty (x.types (Slot n) t.0.ty v (ap (option_map (λ (s : SlotTree). s.ty)) t.1) e)

      local : (n : ℕ) (v : ValueTree) → flat (slice_get g.mem.locals n) ≡ Some v → AllThere p (refs_of v)
      local n v e =
          let t = local_typed g.code.locals n (let a = within g.mem.locals n v e in let b = x.locals in omega (arith, a, b)) in
          value_there r f.types p fits v t.0 (x.types (Local n) t.0 v t.1 e)

  actor_leads : (i : ℕ) (m : FrameTree Value) → thing h.frames.things i ≡ Some m → AllThere p (actor_refs (actor_part h.actors.things (i, m)))
  actor_leads i m e = let a = actor_stands r h p f i m e in subst (λ os. AllThere p (flat_map place_refs os)) (sym a.stands.places) (places_there a.frame a.holds)

  result_leads : (i : ℕ) (m : FrameTree Value) → thing h.frames.things i ≡ Some m → AllThere p (result_refs (actor_part h.actors.things (i, m)))
  result_leads i m e =
      let a = actor_stands r h p f i m e in
      subst (λ o. AllThere p (named (result_noted o) kind.Promise)) (sym a.noted) (by_result a.note.result a.entry a.entered a.same.result)
    where
      by_result : (o : Option CellId) (x : Entry) → thing p.core.entries i ≡ Some x → x.result ≡ option_map cell_number o → AllThere p (named o kind.Promise)
      by_result None x at q = tt
      by_result (Some k) x at q =
          let u = unset_is (thing p.core.cells k.0) (f.rested.running.owned.result i k.0 x at q).0 in (record { cell = Single None u.0; at = u.1; right = tt }, tt)

  main_leads : AllThere p (named h.main kind.Future)
  main_leads = by_main h.main f.rested.running.shows.main
    where
      by_main : (o : Option CellId) → p.core.main ≡ option_map cell_number o → AllThere p (named o kind.Future)
      by_main None e = tt
      by_main (Some k) e = let x = f.fits.main k.0 e in (ref_there r f.types p fits kind.Future k.0 x.0 x.1, tt)

  -- all of them
  all_lead : {A P : Type 0} (refs : P → List Ref) (part : ℕ × A → P) (xs : List (ℕ × A)) (low n : ℕ) → Rising low n xs → ((k : ℕ) (a : A) → thing xs k ≡ Some a → AllThere p (refs (part (k, a))))
      → AllThere p (flat_map refs (map part xs))
  all_lead {P = P} refs part xs low n up g = by_list (map part xs) (all_by (λ x. AllThere p (refs x)) part xs low n up g)
    where
      by_list : (ys : List P) → AllByRecursion (λ x. AllThere p (refs x)) ys → AllThere p (flat_map refs ys)
      by_list [] t = tt
      by_list (y ∷ ys) t = both (refs y) (flat_map refs ys) t.0 (by_list ys t.1)

  pub parts_lead : AllThere p (parts.references (parts_of h))
  parts_lead =
      let cells = rising 0 h.cells.greatest h.cells.greatest h.cells.things f.rested.running.sorted.cells (omega arith) in
      let streams = rising 0 h.streams.greatest h.streams.greatest h.streams.things f.rested.running.sorted.streams (omega arith) in
      let frames = rising 0 h.frames.greatest h.frames.greatest h.frames.things f.rested.running.sorted.frames (omega arith) in
      let q = parts_of h in
      both (flat_map result_refs q.actors) _ (all_lead result_refs (actor_part h.actors.things) h.frames.things 0 h.frames.greatest frames result_leads)
      (both (flat_map cell_refs q.cells) _ (all_lead cell_refs (cell_part h.requests) h.cells.things 0 h.cells.greatest cells cell_leads)
      (both (flat_map stream_refs q.streams) _ (all_lead stream_refs (stream_part h.ports) h.streams.things 0 h.streams.greatest streams stream_leads)
      (both (flat_map actor_refs q.actors) (named h.main kind.Future) (all_lead actor_refs (actor_part h.actors.things) h.frames.things 0 h.frames.greatest frames actor_leads) main_leads)))
