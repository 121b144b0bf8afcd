-- How the references of a process change with what it does.
use Rattle.std.specs.Prelude.{◌≡◌, ℕ, suc, ◌+◌, true, false, List, [], ◌∷◌, ◌++◌}
use Rattle.std.specs.declared.option.Option.{Option}
use Rattle.std.specs.declared.option.Option.TheVariants.{Some}
use Rattle.flow_value.specs.Values.{ValueTree, OutcomeTree}
use Rattle.flow_numbered.specs.Numbered.{thing, added, put, removed}
use Rattle.flow_meaning.specs.Cells.{Side, PromiseSide, FutureSide, Ref, Waiter, Cell, Single, Stream, waiters, held, is_complete, is_busy, taken, after_taking, with_waiter}
use Rattle.flow_meaning.specs.Process.{Task, Entry, Proc}
use Rattle.flow_meaning.specs.References.{refs_in, value_in, one, count, count_maybe, count_waiters, count_kept, in_task}
use Rattle.flow_meaning.specs.Work.{pushed, dropping, dropping_values, new_cell, fill}
use Rattle.flow_meaning.specs.Orderly.{Rising}
use Rattle.flow_meaning.specs.Step.{proc, on_core, popped}
use Rattle.flow_meaning.specs.Deliver.{closed_request}
use Rattle.flow_meaning.specs.Frame.{Frame, occ_memory}
use Rattle.flow_heap_refinement.specs.Counted.{references, Agree}
use Rattle.flow_heap_refinement.specs.Rested.{has}
use Rattle.flow_heap_refinement.specs.Changes.{put_cell, without_cell}
use Rattle.flow_heap_refinement.specs.Acting.{put_frame}
use Rattle.flow_heap_refinement.specs.Leaving.{RightKinds, left_wait}

-- the references that a cell holds to a side of one: its waiters, and what stands in it; and those of an entry
abbrev pub cell_holds : Side → ℕ → (cell : ℕ) → Cell → ℕ
cell_holds s j k c = count_waiters s j k (waiters c) + count s j (refs_in (held c))

abbrev pub entry_holds : Side → ℕ → Entry → ℕ
entry_holds s j e = count_maybe s j PromiseSide e.result + count_kept s j e.suspended e.operands

abbrev pub frame_holds : Side → ℕ → Frame → ℕ
frame_holds s j f = occ_memory s j f.mem

-- a stream gives its first element away; a single result a copy
abbrev pub given_away : Side → ℕ → Cell → OutcomeTree → ℕ
given_away s j (Single content ws) o = 0
given_away s j (Stream queue end w) o = count s j (refs_in (value_in o))

module _ (p : Proc Frame) (s : Side) (j : ℕ) where
  abbrev pub OfPushed : Type 0
  OfPushed = (u : Task) → references s j (on_core (pushed u) p) ≡ in_task s j u + references s j p

  abbrev pub OfPopped : Type 0
  OfPopped =
      (u : Task) (us : List Task) → p.core.tasks ≡ u ∷ us
      → references s j p ≡ in_task s j u + references s j (popped us p)

  abbrev pub OfDropped : Type 0
  OfDropped = (rs : List Ref) → references s j (on_core (dropping rs) p) ≡ count s j rs + references s j p

  abbrev pub OfValues : Type 0
  OfValues =
      (vs : List ValueTree)
      → references s j (on_core (dropping_values vs) p) ≡ count s j (refs_in vs) + references s j p

  abbrev pub OfNewCell : Type 0
  OfNewCell =
      (c : Cell)
      → references s j (on_core (new_cell c) p) ≡ cell_holds s j (suc p.core.made) c + references s j p

  abbrev pub OfCell : Type 0
  OfCell =
      (k : ℕ) (c d : Cell) → thing p.core.cells k ≡ Some c
      → references s j (on_core (put_cell k d) p) + cell_holds s j k c ≡ references s j p + cell_holds s j k d

  abbrev pub OfGone : Type 0
  OfGone =
      (k : ℕ) (c : Cell) → thing p.core.cells k ≡ Some c
      → references s j p ≡ cell_holds s j k c + references s j (on_core (without_cell k) p)

  -- a cell to which something can be sent gets it, and fires
  abbrev pub OfFilled : Type 0
  OfFilled =
      (k : ℕ) (c : Cell) (o : OutcomeTree) → thing p.core.cells k ≡ Some c → is_complete c ≡ false
      → references s j (on_core (fill k o) p) ≡ one s j FutureSide k + count s j (refs_in (value_in o)) + references s j p

  abbrev pub OfTaken : Type 0
  OfTaken =
      (k : ℕ) (c : Cell) (o : OutcomeTree) → thing p.core.cells k ≡ Some c → taken c ≡ Some o
      → references s j p ≡ given_away s j c o + references s j (on_core (put_cell k (after_taking c)) p)

  abbrev pub OfWaiter : Type 0
  OfWaiter =
      (k : ℕ) (c : Cell) (w : Waiter) → thing p.core.cells k ≡ Some c → is_busy c ≡ false
      → references s j (on_core (put_cell k (with_waiter c w)) p) ≡ one s j FutureSide k + references s j p

  -- an actor leaves its wait: its operands become drops
  abbrev pub OfLeft : Type 0
  OfLeft =
      (i : ℕ) (e : Entry) → thing p.core.entries i ≡ Some e → Agree p.core
      → RightKinds p.core.cells e.operands → Rising 0 p.core.made p.core.cells
      → references s j (on_core (left_wait i e) p) ≡ references s j p

  abbrev pub OfEntry : Type 0
  OfEntry =
      (i : ℕ) (d e : Entry) → thing p.core.entries i ≡ Some d
      → references s j (on_core (λ c. record c {
        entries =
            put c.entries i e;
      }) p) + entry_holds s j d ≡ references s j p + entry_holds s j e

  abbrev pub OfFrame : Type 0
  OfFrame =
      (i : ℕ) (f g : Frame) → thing p.actors i ≡ Some f
      → references s j (put_frame i g p) + frame_holds s j f ≡ references s j p + frame_holds s j g

  abbrev pub OfNewActor : Type 0
  OfNewActor =
      (i : ℕ) (e : Entry) (f : Frame)
      → references s j (proc (record p.core {
        entries =
            added p.core.entries i e;
      }) (added p.actors i f)) ≡ entry_holds s j e + frame_holds s j f + references s j p

  abbrev pub OfClosed : Type 0
  OfClosed =
      (i : ℕ) (e : Entry) (f : Frame) → thing p.core.entries i ≡ Some e → thing p.actors i ≡ Some f
      → references s j p ≡ entry_holds s j e + frame_holds s j f + references s j
      (proc (record p.core { entries = removed p.core.entries i }) (removed p.actors i))

  -- the hold on the result of `main`, ports and requests
  abbrev pub OfMain : Type 0
  OfMain =
      (o : Option ℕ)
      → references s j (on_core (λ c. record c {
        main =
            o;
      }) p) + count_maybe s j FutureSide p.core.main ≡ references s j p + count_maybe s j FutureSide o

  abbrev pub OfPort : Type 0
  OfPort =
      (q k : ℕ)
      → references s j (on_core (λ c. record c {
        ports =
            added c.ports q k;
      }) p) ≡ one s j PromiseSide k + references s j p

  abbrev pub OfPortGone : Type 0
  OfPortGone =
      (q k : ℕ) → thing p.core.ports q ≡ Some k
      → references s j p ≡ one s j PromiseSide k + references s j (on_core (λ c. record c { ports = removed c.ports q }) p)

  abbrev pub OfRequest : Type 0
  OfRequest =
      (k : ℕ)
      → references s j (on_core (λ c. record c {
        requests =
            c.requests ++ k ∷ [];
      }) p) ≡ one s j PromiseSide k + references s j p

  abbrev pub OfAnswered : Type 0
  OfAnswered =
      (k : ℕ) → has k p.core.requests ≡ true
      → references s j p ≡ one s j PromiseSide k + references s j (on_core (λ c. record c { requests = closed_request k c.requests }) p)
