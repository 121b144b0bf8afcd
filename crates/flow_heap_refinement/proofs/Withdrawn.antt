-- An actor leaves its wait in memory, and in the process.
use Rattle.std.proofs.Common.{◌≡◌, ℕ, suc, ◌+◌, Bool, true, false, List, [], ◌∷◌, map, if◌then◌else◌, refl, sym, ap, ◌∙◌, subst, arith}
use Rattle.std.specs.Prelude.{◌||◌}
use Rattle.std.specs.declared.option.Option.{Option}
use Rattle.std.specs.declared.option.Option.TheVariants.{None, Some}
use Rattle.flow_value.specs.declared.value.Value.{Value}
use Rattle.flow_value.specs.declared.value.Outcome.{Outcome}
use Rattle.flow_numbered.specs.Numbered as stored
use Rattle.flow_cell.specs.declared.waiter.Waiter as memory
use Rattle.flow_cell.specs.Cells.{CellTree}
use Rattle.flow_cell.specs.Waiting.{has_waiter, without_newest}
use Rattle.flow_stream.specs.Streams.{StreamTree}
use Rattle.flow_cancel.specs.declared.task.Task as stack
use Rattle.flow_cancel.specs.Heap.{HeapTree}
use Rattle.flow_cancel.specs.Leaving.{leave_one, leave_all, leave_cell_at, leave_stream_at, left_cells, kind_at, is_waiter}
use Rattle.flow_numbered.specs.Numbered.{Numbered, thing}
use Rattle.flow_meaning.specs.Cells.{Ref, Waiter, Cell, Single, Stream}
use Rattle.flow_meaning.specs.Requests.{Spot}
use Rattle.flow_meaning.specs.Process.{Task, Drop}
use Rattle.flow_meaning.specs.Work.{drops}
use Rattle.flow_meaning.proofs.Posture.{same_number, other_number, each_number}
use Rattle.flow_heap_refinement.specs.Representing.{CellRepresents, TasksRepresent, waiter_in, held_from}
use Rattle.flow_heap_refinement.specs.Counted.{branches_at}
use Rattle.flow_heap_refinement.specs.Leaving.{wait_kind, RightKinds}
use Rattle.flow_heap_refinement.proofs.Finds.{stored_other, stored_put}
use Rattle.flow_heap_refinement.proofs.Leaving.{is_branch, has_branch, without_branch, less_one, less, has_as, without_as, unhad}

-- a cell which some branches of an actor have left, one by one
abbrev pub less_maybe : (actor : ℕ) → List ℕ → Option Waiter → Option Waiter
less_maybe i [] w = w
less_maybe i (b ∷ bs) w = less_one i b (less_maybe i bs w)

abbrev pub cell_less : (actor : ℕ) → List ℕ → Option Cell → Option Cell
cell_less i bs None = None
cell_less i bs (Some (Single o ws)) = Some (Single o (less i bs ws))
cell_less i bs (Some (Stream q e w)) = Some (Stream q e (less_maybe i bs w))

module _ (spots : ℕ → Spot) (i : ℕ) where
  -- one branch leaves
  abbrev one_cell : (branch : ℕ) → Option Cell → Option Cell
  one_cell b None = None
  one_cell b (Some (Single o ws)) = Some (Single o (without_branch ws i b))
  one_cell b (Some (Stream q e w)) = Some (Stream q e (less_one i b w))

  one_more : (b : ℕ) (bs : List ℕ) (c : Option Cell) → one_cell b (cell_less i bs c) ≡ cell_less i (b ∷ bs) c
  one_more b bs None = refl
  one_more b bs (Some (Single o ws)) = refl
  one_more b bs (Some (Stream q e w)) = refl

  abbrev the_waiter : ℕ → memory.Waiter
  the_waiter b = waiter_in spots (record { actor = i; branch = b })

  -- the single result or the stream of a number without that branch
  abbrev single_less : (branch : ℕ) → Option (CellTree Outcome) → Option (CellTree Outcome)
  single_less b None = None
  single_less b (Some m) = if has_waiter m.waiters (the_waiter b) then Some (record m { waiters = without_newest m.waiters (the_waiter b) }) else Some m

  abbrev stream_less : (branch : ℕ) → Option (StreamTree Value) → Option (StreamTree Value)
  stream_less b None = None
  stream_less b (Some m) = if is_waiter (the_waiter b) m.waiter then Some (record m { waiter = None }) else Some m

  single_leaves : (b : ℕ) (m : CellTree Outcome) (o : Option _) (ws : List Waiter) → CellRepresents spots (Some m) None (Some (Single o ws))
      → CellRepresents spots (single_less b (Some m)) None (Some (Single o (without_branch ws i b)))
  single_leaves b m o ws s = by_test (has_waiter m.waiters (the_waiter b)) refl
    where
      found : has_waiter m.waiters (the_waiter b) ≡ has_branch ws i b
      found = ap (λ vs. has_waiter vs (the_waiter b)) s.1 ∙ has_as spots i b ws

      by_test : (t : Bool) → has_waiter m.waiters (the_waiter b) ≡ t
          → CellRepresents spots (if t then Some (record m { waiters = without_newest m.waiters (the_waiter b) }) else Some m) None (Some (Single o (without_branch ws i b)))
      by_test true e = (s.0, ap (λ vs. without_newest vs (the_waiter b)) s.1 ∙ without_as spots i b ws)
      by_test false e = (s.0, s.1 ∙ ap (map (waiter_in spots)) (sym (unhad spots i b ws (sym found ∙ e))))

  stream_leaves : (b : ℕ) (m : StreamTree Value) (q : List _) (x : Option ℕ) (w : Option Waiter) → CellRepresents spots None (Some m) (Some (Stream q x w))
      → CellRepresents spots None (stream_less b (Some m)) (Some (Stream q x (less_one i b w)))
  stream_leaves b m q x None s = by_test (is_waiter (the_waiter b) m.waiter) (ap (is_waiter (the_waiter b)) s.2)
    where
      by_test : (t : Bool) → t ≡ false → CellRepresents spots None (if t then Some (record m { waiter = None }) else Some m) (Some (Stream q x None))
      by_test true e = absurd (cc)
      by_test false e = s
  stream_leaves b m q x (Some w) s = by_test (is_waiter (the_waiter b) m.waiter) (is_branch i b w) (ap (is_waiter (the_waiter b)) s.2 ∙ same_waiters)
    where
      same_waiters : is_waiter (the_waiter b) (Some (waiter_in spots w)) ≡ is_branch i b w
      same_waiters = one_of (has_as spots i b (w ∷ []))
        where
          or_none : (t : Bool) → (t || false) ≡ t
          or_none true = refl
          or_none false = refl

          one_of : has_waiter (map (waiter_in spots) (w ∷ [])) (the_waiter b) ≡ has_branch (w ∷ []) i b → is_waiter (the_waiter b) (Some (waiter_in spots w)) ≡ is_branch i b w
          one_of e = sym (or_none (is_waiter (the_waiter b) (Some (waiter_in spots w)))) ∙ e ∙ or_none (is_branch i b w)

      by_test : (t u : Bool) → t ≡ u → CellRepresents spots None (if t then Some (record m { waiter = None }) else Some m) (Some (Stream q x (if u then None else Some w)))
      by_test true true e = (s.0, s.1, refl)
      by_test true false e = absurd (cc)
      by_test false true e = absurd (cc)
      by_test false false e = s

  -- what stands at each number afterwards
  abbrev AllRepresent : HeapTree → (ℕ → Option Cell) → Type 0
  AllRepresent h c = (k : ℕ) → CellRepresents spots (stored.thing h.cells.things k) (stored.thing h.streams.things k) (c k)

  -- a heap whose cells and tasks alone are others
  pub record SameBeside (d h : HeapTree) : Type 0 where
    pub frames : d.frames ≡ h.frames
    pub actors : d.actors ≡ h.actors
    pub made : d.made ≡ h.made
    pub cells : d.cells.greatest ≡ h.cells.greatest
    pub streams : d.streams.greatest ≡ h.streams.greatest
    pub main : d.main ≡ h.main
    pub ports : d.ports ≡ h.ports
    pub requests : d.requests ≡ h.requests

  same_left : (k : ℕ) (w : memory.Waiter) (h : HeapTree) (o : Option (CellTree Outcome)) (x : Option (StreamTree Value)) → stored.thing h.streams.things k ≡ x → SameBeside (leave_cell_at k w o h) h
  same_left k w h (Some m) x e = by_test (has_waiter m.waiters w)
    where
      by_test : (t : Bool) → SameBeside (record h { cells = if t then stored.with_thing h.cells k (record m { waiters = without_newest m.waiters w }) else h.cells }) h
      by_test true = record { frames = refl; actors = refl; made = refl; cells = refl; streams = refl; main = refl; ports = refl; requests = refl }
      by_test false = record { frames = refl; actors = refl; made = refl; cells = refl; streams = refl; main = refl; ports = refl; requests = refl }
  same_left k w h None x e = by_stream (stored.thing h.streams.things k)
    where
      by_stream : (y : Option (StreamTree Value)) → SameBeside (record h { streams = leave_stream_at k w y h.streams }) h
      by_stream None = record { frames = refl; actors = refl; made = refl; cells = refl; streams = refl; main = refl; ports = refl; requests = refl }
      by_stream (Some m) = by_test (is_waiter w m.waiter)
        where
          by_test : (t : Bool) → SameBeside (record h { streams = if t then stored.with_thing h.streams k (record m { waiter = None }) else h.streams }) h
          by_test true = record { frames = refl; actors = refl; made = refl; cells = refl; streams = refl; main = refl; ports = refl; requests = refl }
          by_test false = record { frames = refl; actors = refl; made = refl; cells = refl; streams = refl; main = refl; ports = refl; requests = refl }

  -- one branch leaves a cell
  there : (b k : ℕ) (h : HeapTree) (o : Option (CellTree Outcome)) (x : Option (StreamTree Value)) (c : Option Cell) → stored.thing h.cells.things k ≡ o → stored.thing h.streams.things k ≡ x
      → CellRepresents spots o x c
      → CellRepresents spots (stored.thing (leave_cell_at k (the_waiter b) o h).cells.things k) (stored.thing (leave_cell_at k (the_waiter b) o h).streams.things k) (one_cell b c)
  there b k h None None None e f s = rw (f, e) (rw f tt)
  there b k h (Some m) None (Some (Single v ws)) e f s =
      subst (λ z. CellRepresents spots (stored.thing (left_cells k (the_waiter b) m h.cells).things k) z (Some (Single v (without_branch ws i b)))) (sym f)
      (subst (λ z. CellRepresents spots z None (Some (Single v (without_branch ws i b)))) (sym (by_test (has_waiter m.waiters (the_waiter b)))) (single_leaves b m v ws s))
    where
      by_test : (t : Bool) → stored.thing (if t then stored.with_thing h.cells k (record m { waiters = without_newest m.waiters (the_waiter b) }) else h.cells).things k
          ≡ (if t then Some (record m { waiters = without_newest m.waiters (the_waiter b) }) else Some m)
      by_test true = stored_put h.cells.things k m (record m { waiters = without_newest m.waiters (the_waiter b) }) e
      by_test false = e
  there b k h None (Some m) (Some (Stream q x w)) e f s =
      subst (λ z. CellRepresents spots z (stored.thing (leave_stream_at k (the_waiter b) (stored.thing h.streams.things k) h.streams).things k) (Some (Stream q x (less_one i b w)))) (sym e)
      (subst (λ z. CellRepresents spots None (stored.thing (leave_stream_at k (the_waiter b) z h.streams).things k) (Some (Stream q x (less_one i b w)))) (sym f)
      (subst (λ z. CellRepresents spots None z (Some (Stream q x (less_one i b w)))) (sym (by_test (is_waiter (the_waiter b) m.waiter))) (stream_leaves b m q x w s)))
    where
      by_test : (t : Bool) → stored.thing (if t then stored.with_thing h.streams k (record m { waiter = None }) else h.streams).things k ≡ (if t then Some (record m { waiter = None }) else Some m)
      by_test true = stored_put h.streams.things k m (record m { waiter = None }) f
      by_test false = f
  there b k h None None (Some c) e f s = absurd s
  there b k h (Some m) None None e f s = absurd s
  there b k h (Some m) None (Some (Stream q x w)) e f s = absurd s
  there b k h None (Some m) None e f s = absurd s
  there b k h None (Some m) (Some (Single v ws)) e f s = absurd s
  there b k h (Some m) (Some y) None e f s = absurd s
  there b k h (Some m) (Some y) (Some c) e f s = absurd s

  -- and no other
  elsewhere : (k j : ℕ) (w : memory.Waiter) (h : HeapTree) (o : Option (CellTree Outcome)) → (k ≡ j → ⊥)
      → (stored.thing (leave_cell_at k w o h).cells.things j ≡ stored.thing h.cells.things j) × (stored.thing (leave_cell_at k w o h).streams.things j ≡ stored.thing h.streams.things j)
  elsewhere k j w h (Some m) n = by_test (has_waiter m.waiters w)
    where
      by_test : (t : Bool) → (stored.thing (if t then stored.with_thing h.cells k (record m { waiters = without_newest m.waiters w }) else h.cells).things j ≡ stored.thing h.cells.things j)
          × (stored.thing h.streams.things j ≡ stored.thing h.streams.things j)
      by_test true = (stored_other h.cells.things k j (record m { waiters = without_newest m.waiters w }) n, refl)
      by_test false = (refl, refl)
  elsewhere k j w h None n = by_stream (stored.thing h.streams.things k)
    where
      by_stream : (y : Option (StreamTree Value)) → (stored.thing h.cells.things j ≡ stored.thing h.cells.things j)
          × (stored.thing (leave_stream_at k w y h.streams).things j ≡ stored.thing h.streams.things j)
      by_stream None = (refl, refl)
      by_stream (Some m) = by_test (is_waiter w m.waiter)
        where
          by_test : (t : Bool) → (stored.thing h.cells.things j ≡ stored.thing h.cells.things j)
              × (stored.thing (if t then stored.with_thing h.streams k (record m { waiter = None }) else h.streams).things j ≡ stored.thing h.streams.things j)
          by_test true = (refl, stored_other h.streams.things k j (record m { waiter = None }) n)
          by_test false = (refl, refl)

  -- the kind by which it waited
  kind_as : (o : Option (CellTree Outcome)) (x : Option (StreamTree Value)) (c : Option Cell) → CellRepresents spots o x c → kind_at o ≡ wait_kind c
  kind_as None None None s = refl
  kind_as (Some m) None (Some (Single v ws)) s = refl
  kind_as None (Some m) (Some (Stream q e w)) s = refl
  kind_as None None (Some c) s = absurd s
  kind_as (Some m) None None s = absurd s
  kind_as (Some m) None (Some (Stream q e w)) s = absurd s
  kind_as None (Some m) None s = absurd s
  kind_as None (Some m) (Some (Single v ws)) s = absurd s
  kind_as (Some m) (Some y) None s = absurd s
  kind_as (Some m) (Some y) (Some c) s = absurd s

  less_kind : (bs : List ℕ) (c : Option Cell) → wait_kind (cell_less i bs c) ≡ wait_kind c
  less_kind bs None = refl
  less_kind bs (Some (Single v ws)) = refl
  less_kind bs (Some (Stream q e w)) = refl

  -- the tasks stay
  tasks_left : (k : ℕ) (w : memory.Waiter) (h : HeapTree) (o : Option (CellTree Outcome)) → (leave_cell_at k w o h).tasks ≡ h.tasks
  tasks_left k w h (Some m) = refl
  tasks_left k w h None = refl

  both : (d g h : HeapTree) (ts : List stack.Task) → SameBeside d g → SameBeside g h → SameBeside (record d { tasks = ts }) h
  both d g h ts a b = record {
    frames = a.frames ∙ b.frames;
    actors = a.actors ∙ b.actors;
    made = a.made ∙ b.made;
    cells = a.cells ∙ b.cells;
    streams = a.streams ∙ b.streams;
    main = a.main ∙ b.main;
    ports = a.ports ∙ b.ports;
    requests = a.requests ∙ b.requests;
  }

  -- all of them leave
  pub record Left (kept : ℕ → ℕ) (d h : HeapTree) (c : ℕ → Option Cell) (us : List Task) : Type 0 where
    pub cells : AllRepresent d c
    pub tasks : TasksRepresent spots kept d.tasks us
    pub beside : SameBeside d h

  pub leave_these : (kept : ℕ → ℕ) (h : HeapTree) (cs : Numbered Cell) (us : List Task) → AllRepresent h (λ k. thing cs k) → TasksRepresent spots kept h.tasks us
      → (rs : List Ref) (b n : ℕ) → n ≡ (spots i).first + b → RightKinds cs rs → Left kept (leave_all i (held_from n rs) h) h (λ k. cell_less i (branches_at k b rs) (thing cs k)) (drops rs us)
  leave_these kept h cs us all ts [] b n e kinds = record {
    cells = λ k. subst (λ z. CellRepresents spots (stored.thing h.cells.things k) (stored.thing h.streams.things k) z) (same_cell (thing cs k)) (all k);
    tasks = ts;
    beside = record { frames = refl; actors = refl; made = refl; cells = refl; streams = refl; main = refl; ports = refl; requests = refl };
  }
    where
      same_cell : (c : Option Cell) → c ≡ cell_less i [] c
      same_cell None = refl
      same_cell (Some (Single v ws)) = refl
      same_cell (Some (Stream q x w)) = refl
  leave_these kept h cs us all ts (r ∷ rs) b n e kinds =
      after (leave_all i (held_from (suc n) rs) h) (leave_these kept h cs us all ts rs (suc b) (suc n) (omega (arith, e)) kinds.1)
    where
      after : (g : HeapTree) → Left kept g h (λ k. cell_less i (branches_at k (suc b) rs) (thing cs k)) (drops rs us)
          → Left kept (leave_one i (record { callback = n; cell = record { 0 = r.1 } }) g) h (λ k. cell_less i (branches_at k b (r ∷ rs)) (thing cs k)) (drops (r ∷ rs) us)
      after g l = record {
        cells =
            each_number r.1 (λ k. CellRepresents spots (stored.thing d.cells.things k) (stored.thing d.streams.things k) (cell_less i (branches_at k b (r ∷ rs)) (thing cs k)))
            (subst (λ z. CellRepresents spots (stored.thing d.cells.things r.1) (stored.thing d.streams.things r.1) z) here_less
            (subst (λ m. CellRepresents spots (stored.thing (leave_cell_at r.1 (record { actor = record { 0 = i }; callback = m }) o g).cells.things r.1)
            (stored.thing (leave_cell_at r.1 (record { actor = record { 0 = i }; callback = m }) o g).streams.things r.1) (one_cell b (cell_less i (branches_at r.1 (suc b) rs) (thing cs r.1))))
            (sym e)
            (there b r.1 g o (stored.thing g.streams.things r.1) (cell_less i (branches_at r.1 (suc b) rs) (thing cs r.1)) refl refl (l.cells r.1))))
            (λ j differ. let x = elsewhere r.1 j (record { actor = record { 0 = i }; callback = n }) g o differ in
            subst (λ z. CellRepresents spots (stored.thing d.cells.things j) (stored.thing d.streams.things j) z) (other_less j differ) (rw (x.0, x.1) (l.cells j)));
        tasks = (
          ap (λ z. Drop z r.1) (kinds.0 ∙ sym (less_kind (branches_at r.1 (suc b) rs) (thing cs r.1))
              ∙ sym (kind_as o (stored.thing g.streams.things r.1) (cell_less i (branches_at r.1 (suc b) rs) (thing cs r.1)) (l.cells r.1))),
          rw
              (tasks_left r.1 (record { actor = record { 0 = i }; callback = n }) g o) l.tasks,
        );
        beside = both d g h (leave_one i (record { callback = n; cell = record { 0 = r.1 } }) g).tasks
            (same_left r.1 (record { actor = record { 0 = i }; callback = n }) g o (stored.thing g.streams.things r.1) refl) l.beside;
      }
        where
          o : Option (CellTree Outcome)
          o = stored.thing g.cells.things r.1

          d : HeapTree
          d = leave_cell_at r.1 (record { actor = record { 0 = i }; callback = n }) o g

          here_less : one_cell b (cell_less i (branches_at r.1 (suc b) rs) (thing cs r.1)) ≡ cell_less i (branches_at r.1 b (r ∷ rs)) (thing cs r.1)
          here_less =
              one_more b (branches_at r.1 (suc b) rs) (thing cs r.1)
              ∙ ap (λ t. cell_less i (if t then b ∷ branches_at r.1 (suc b) rs else branches_at r.1 (suc b) rs) (thing cs r.1)) (sym (same_number r.1))

          other_less : (j : ℕ) → (r.1 ≡ j → ⊥) → cell_less i (branches_at j (suc b) rs) (thing cs j) ≡ cell_less i (branches_at j b (r ∷ rs)) (thing cs j)
          other_less j n = ap (λ t. cell_less i (if t then b ∷ branches_at j (suc b) rs else branches_at j (suc b) rs) (thing cs j)) (sym (other_number j r.1 (λ f. n (sym f))))
