-- A cell changes in memory and in the process.
use Rattle.std.proofs.Common.{◌≡◌, ℕ, List, map, refl, sym, ap, ◌∙◌, subst}
use Rattle.std.specs.Option.{option_map}
use Rattle.std.specs.declared.option.Option.{Option}
use Rattle.std.specs.declared.option.Option.TheVariants.{None, Some}
use Rattle.flow_value.specs.declared.value.Value.{Value}
use Rattle.flow_value.specs.declared.value.Outcome.{Outcome}
use Rattle.flow_value.specs.View.{value_of, outcome_of}
use Rattle.flow_numbered.specs.Numbered as stored
use Rattle.flow_cell.specs.Cells.{CellTree}
use Rattle.flow_stream.specs.Streams.{StreamTree}
use Rattle.flow_numbered.specs.Numbered.{Numbered, thing, added, put, removed}
use Rattle.flow_meaning.specs.Cells.{Waiter, Cell, Single, Stream}
use Rattle.flow_meaning.specs.Requests.{Spot}
use Rattle.flow_meaning.specs.Orderly.{Rising}
use Rattle.flow_meaning.proofs.Posture.{each_number, thing_put, thing_put_other, thing_added, thing_removed_other}
use Rattle.flow_heap_refinement.proofs.Finds.{stored_other, stored_put, stored_added, stored_new, stored_removed, stored_gone, thing_new, thing_removed}
use Rattle.flow_heap_refinement.specs.Representing.{CellRepresents, waiter_in, error_number}

-- what stands at each number, in memory and in the process
abbrev pub CellsRepresent : (ℕ → Spot) → stored.Numbered (CellTree Outcome) → stored.Numbered (StreamTree Value) → Numbered Cell → Type 0
CellsRepresent spots ms ss cs = (k : ℕ) → CellRepresents spots (stored.thing ms k) (stored.thing ss k) (thing cs k)

-- a single result in memory is one in the process
pub record AsSingle (spots : ℕ → Spot) (m : CellTree Outcome) (s : Option (StreamTree Value)) (c : Option Cell) : Type 0 where
  pub no_stream : s ≡ None
  pub waiters : List Waiter
  pub cell : c ≡ Some (Single (option_map outcome_of m.content) waiters)
  pub waiting : m.waiters ≡ map (waiter_in spots) waiters

pub as_single : (spots : ℕ → Spot) (m : CellTree Outcome) (s : Option (StreamTree Value)) (c : Option Cell) → CellRepresents spots (Some m) s c → AsSingle spots m s c
as_single spots m None (Some (Single o ws)) h = record { no_stream = refl; waiters = ws; cell = ap (λ x. Some (Single x ws)) h.0; waiting = h.1 }
as_single spots m None (Some (Stream q e w)) h = absurd h
as_single spots m None None h = absurd h
as_single spots m (Some s) None h = absurd h
as_single spots m (Some s) (Some c) h = absurd h

-- and a stream is a stream
pub record AsStream (spots : ℕ → Spot) (m : StreamTree Value) (s : Option (CellTree Outcome)) (c : Option Cell) : Type 0 where
  pub no_single : s ≡ None
  pub waiter : Option Waiter
  pub cell : c ≡ Some (Stream (map value_of m.queue) (option_map error_number m.end) waiter)
  pub waiting : m.waiter ≡ option_map (waiter_in spots) waiter

pub as_stream : (spots : ℕ → Spot) (m : StreamTree Value) (s : Option (CellTree Outcome)) (c : Option Cell) → CellRepresents spots s (Some m) c → AsStream spots m s c
as_stream spots m None (Some (Stream q e w)) h = record { no_single = refl; waiter = w; cell = rw (h.0, h.1) refl; waiting = h.2 }
as_stream spots m None (Some (Single o ws)) h = absurd h
as_stream spots m None None h = absurd h
as_stream spots m (Some s) None h = absurd h
as_stream spots m (Some s) (Some c) h = absurd h

-- where neither stands in memory, none stands in the process
pub as_none : (spots : ℕ → Spot) (m : Option (CellTree Outcome)) (s : Option (StreamTree Value)) → CellRepresents spots m s None → (m ≡ None) × (s ≡ None)
as_none spots None None h = (refl, refl)
as_none spots (Some m) None h = absurd h
as_none spots (Some m) (Some s) h = absurd h
as_none spots None (Some s) h = absurd h

module _ (spots : ℕ → Spot) (ms : stored.Numbered (CellTree Outcome)) (ss : stored.Numbered (StreamTree Value)) (cs : Numbered Cell) (all : CellsRepresent spots ms ss cs) (k : ℕ) where
  pub single_at : (m : CellTree Outcome) → stored.thing ms k ≡ Some m → AsSingle spots m (stored.thing ss k) (thing cs k)
  single_at m e = as_single spots m (stored.thing ss k) (thing cs k) (subst (λ o. CellRepresents spots o (stored.thing ss k) (thing cs k)) e (all k))

  pub stream_at : (m : StreamTree Value) → stored.thing ss k ≡ Some m → AsStream spots m (stored.thing ms k) (thing cs k)
  stream_at m e = as_stream spots m (stored.thing ms k) (thing cs k) (subst (λ o. CellRepresents spots (stored.thing ms k) o (thing cs k)) e (all k))

  pub nothing_at : thing cs k ≡ None → (stored.thing ms k ≡ None) × (stored.thing ss k ≡ None)
  nothing_at e = as_none spots (stored.thing ms k) (stored.thing ss k) (subst (λ o. CellRepresents spots (stored.thing ms k) (stored.thing ss k) o) e (all k))

  -- a single result is another, in memory and in the process
  pub single_put : (m n : CellTree Outcome) (c d : Cell) → stored.thing ms k ≡ Some m → thing cs k ≡ Some c → CellRepresents spots (Some n) None (Some d)
      → CellsRepresent spots (stored.put ms k n) ss (put cs k d)
  single_put m n c d e f now =
      each_number k (λ j. CellRepresents spots (stored.thing (stored.put ms k n) j) (stored.thing ss j) (thing (put cs k d) j))
      (rw (stored_put ms k m n e, (single_at m e).no_stream, thing_put cs k c d f) now)
      (λ j differ. rw (stored_other ms k j n differ, thing_put_other cs k j d differ) (all j))

  -- only the counts of a single result change
  pub single_kept : (m n : CellTree Outcome) → stored.thing ms k ≡ Some m → n.content ≡ m.content → n.waiters ≡ m.waiters → CellsRepresent spots (stored.put ms k n) ss cs
  single_kept m n e f g =
      each_number k (λ j. CellRepresents spots (stored.thing (stored.put ms k n) j) (stored.thing ss j) (thing cs j))
      (let s = single_at m e in rw (stored_put ms k m n e, s.no_stream, s.cell) (ap (option_map outcome_of) (sym f), g ∙ s.waiting))
      (λ j differ. rw (stored_other ms k j n differ) (all j))

  pub single_added : (m : CellTree Outcome) (c : Cell) → thing cs k ≡ None → CellRepresents spots (Some m) None (Some c) → CellsRepresent spots (stored.added ms k m) ss (added cs k c)
  single_added m c e now =
      let n = nothing_at e in
      each_number k (λ j. CellRepresents spots (stored.thing (stored.added ms k m) j) (stored.thing ss j) (thing (added cs k c) j))
      (rw (stored_new ms k m n.0, n.1, thing_new cs k c e) now)
      (λ j differ. rw (stored_added ms k j m differ, thing_added cs k j c differ) (all j))

  pub single_gone : (m : CellTree Outcome) (most n : ℕ) → stored.thing ms k ≡ Some m → stored.IsRising 0 ms most → Rising 0 n cs → CellsRepresent spots (stored.removed ms k) ss (removed cs k)
  single_gone m most n e r q =
      each_number k (λ j. CellRepresents spots (stored.thing (stored.removed ms k) j) (stored.thing ss j) (thing (removed cs k) j))
      (rw (stored_gone ms most k r, (single_at m e).no_stream, thing_removed cs 0 n k q) tt)
      (λ j differ. rw (stored_removed ms k j differ, thing_removed_other cs k j differ) (all j))

  -- the same of a stream
  pub stream_put : (m n : StreamTree Value) (c d : Cell) → stored.thing ss k ≡ Some m → thing cs k ≡ Some c → CellRepresents spots None (Some n) (Some d)
      → CellsRepresent spots ms (stored.put ss k n) (put cs k d)
  stream_put m n c d e f now =
      each_number k (λ j. CellRepresents spots (stored.thing ms j) (stored.thing (stored.put ss k n) j) (thing (put cs k d) j))
      (rw (stored_put ss k m n e, (stream_at m e).no_single, thing_put cs k c d f) now)
      (λ j differ. rw (stored_other ss k j n differ, thing_put_other cs k j d differ) (all j))

  pub stream_kept : (m n : StreamTree Value) → stored.thing ss k ≡ Some m → n.queue ≡ m.queue → n.end ≡ m.end → n.waiter ≡ m.waiter → CellsRepresent spots ms (stored.put ss k n) cs
  stream_kept m n e f g w =
      each_number k (λ j. CellRepresents spots (stored.thing ms j) (stored.thing (stored.put ss k n) j) (thing cs j))
      (let s = stream_at m e in rw (stored_put ss k m n e, s.no_single, s.cell) (ap (map value_of) (sym f), ap (option_map error_number) (sym g), w ∙ s.waiting))
      (λ j differ. rw (stored_other ss k j n differ) (all j))

  pub stream_added : (m : StreamTree Value) (c : Cell) → thing cs k ≡ None → CellRepresents spots None (Some m) (Some c) → CellsRepresent spots ms (stored.added ss k m) (added cs k c)
  stream_added m c e now =
      let n = nothing_at e in
      each_number k (λ j. CellRepresents spots (stored.thing ms j) (stored.thing (stored.added ss k m) j) (thing (added cs k c) j))
      (rw (n.0, stored_new ss k m n.1, thing_new cs k c e) now)
      (λ j differ. rw (stored_added ss k j m differ, thing_added cs k j c differ) (all j))

  pub stream_gone : (m : StreamTree Value) (most n : ℕ) → stored.thing ss k ≡ Some m → stored.IsRising 0 ss most → Rising 0 n cs → CellsRepresent spots ms (stored.removed ss k) (removed cs k)
  stream_gone m most n e r q =
      each_number k (λ j. CellRepresents spots (stored.thing ms j) (stored.thing (stored.removed ss k) j) (thing (removed cs k) j))
      (rw ((stream_at m e).no_single, stored_gone ss most k r, thing_removed cs 0 n k q) tt)
      (λ j differ. rw (stored_removed ss k j differ, thing_removed_other cs k j differ) (all j))
