-- A cell that nothing refers to is removed from a process that fits.
use Rattle.std.proofs.Common.{◌≡◌, ℕ, ◌+◌, nat_eq, Bool, true, false, List, [], ◌∷◌, refl, sym, subst, arith, if◌then◌else◌}
use Rattle.std.specs.declared.option.Option.{Option}
use Rattle.std.specs.declared.option.Option.TheVariants.{None, Some}
use Rattle.flow_tree.specs.Tree.{TypeTree, FutureType}
use Rattle.flow_value.specs.Values.{ValueTree, GoodOutcome, BadOutcome}
use Rattle.flow_class.specs.Classes.{RawTree}
use Rattle.flow_numbered.specs.Numbered.{Numbered, thing, removed}
use Rattle.flow_meaning.specs.Cells.{PromiseSide, FutureSide, Ref, Waiter, Cell, Single, Stream, waiters, held}
use Rattle.flow_meaning.specs.Process.{Task, Entry, Core}
use Rattle.flow_meaning.specs.References.{in_cells, in_entries, in_tasks, in_ports, in_requests, count_kept, count_maybe, in_core, reference_count}
use Rattle.flow_meaning.specs.Work.{free_cell}
use Rattle.flow_meaning.specs.Orderly.{is_of, tasks_of}
use Rattle.flow_meaning.specs.Frame.{Frame}
use Rattle.flow_meaning.proofs.Posture.{each_number, thing_removed_other, removed_none}
use Rattle.flow_meaning.proofs.Order.{rising_removed}
use Rattle.flow_progress.specs.Asking.{HaveSome}
use Rattle.flow_progress.specs.Registering.{Among, WaitsAt, AtEach, IsRegistered}
use Rattle.flow_progress.specs.Fitting.{CellTypes, typed_by, CellFits, CellAt, QueueFits, AllWaitFor, WaitersAt, ActorAt, ProcessFits}
use Rattle.flow_progress.specs.Alone.{frames_scan}
use Rattle.flow_progress.specs.Keeping.{Fine}
use Rattle.flow_progress.proofs.Retyped.{CellSees, MemorySees, OperandsSee, TasksSee, AllSeen, FirstSees, cell_retyped, actor_retyped, tasks_retyped, all_exist_retyped}
use Rattle.flow_progress.proofs.Registered.{cells_registered, removed_keeps}
use Rattle.flow_progress.proofs.States.{fine_of, all_still, dropping_fits}
use Rattle.flow_progress.proofs.Unseen.{Off, zero_first, zero_second, refs_off, cell_off, memory_off, tasks_off, requests_off, maybe_off, main_off, ports_off, entry_zero, cell_zero, none_wait, frame_zero}

-- nothing in a process refers to a cell
pub record StateSees (k : ℕ) (c : Core) (xs : Numbered Frame) : Type 0 where
  pub cells : (n : ℕ) (cell : Cell) → thing c.cells n ≡ Some cell → CellSees (Off k) cell
  pub quiet : (cell : Cell) → thing c.cells k ≡ Some cell → waiters cell ≡ []
  pub frames : (i : ℕ) (f : Frame) → thing xs i ≡ Some f → MemorySees (Off k) f.mem
  pub operands : (i : ℕ) (e : Entry) → thing c.entries i ≡ Some e → OperandsSee (Off k) e.operands
  pub results : (i n : ℕ) (e : Entry) → thing c.entries i ≡ Some e → e.result ≡ Some n → Off k n
  pub tasks : TasksSee (Off k) c.tasks
  pub ports : (p n : ℕ) → thing c.ports p ≡ Some n → Off k n
  pub main : (n : ℕ) → c.main ≡ Some n → Off k n
  pub requests : AllSeen (Off k) c.requests

record Parts (a b d e f g : ℕ) : Type 0 where
  cells : a ≡ 0
  entries : b ≡ 0
  tasks : d ≡ 0
  ports : e ≡ 0
  requests : f ≡ 0
  main : g ≡ 0

parts : (a b d e f g : ℕ) → a + b + d + e + f + g ≡ 0 → Parts a b d e f g
parts a b d e f g h = record { cells = omega (arith, h); entries = omega (arith, h); tasks = omega (arith, h); ports = omega (arith, h); requests = omega (arith, h); main = omega (arith, h) }

-- nobody waits where nobody is
no_wait : (i k : ℕ) (cells : Numbered Cell) → ((cell : Cell) → thing cells k ≡ Some cell → waiters cell ≡ []) → WaitsAt i (thing cells k) → ⊥
no_wait i k cells q h = go (thing cells k) refl h
  where
    go : (o : Option Cell) → thing cells k ≡ o → WaitsAt i o → ⊥
    go None e h = h
    go (Some cell) e h = subst (Among i) (q cell e) h

asleep_off : (i k : ℕ) (cells : Numbered Cell) (qs : List Ref) → ((cell : Cell) → thing cells k ≡ Some cell → waiters cell ≡ []) → AtEach i cells qs → OperandsSee (Off k) qs
asleep_off i k cells [] q h = tt
asleep_off i k cells (x ∷ xs) q h = ((λ e. no_wait i k cells q (subst (λ n. WaitsAt i (thing cells n)) e h.0)), asleep_off i k cells xs q h.1)

pub unseen : (k : ℕ) (c : Core) (xs : Numbered Frame) → ((i : ℕ) → IsRegistered i c.entries c.cells) → reference_count (frames_scan xs) PromiseSide k c ≡ 0
    → reference_count (frames_scan xs) FutureSide k c ≡ 0 → StateSees k c xs
unseen k c xs reg a b =
    let pa = parts (in_cells PromiseSide k c.cells) (in_entries PromiseSide k c.entries) (in_tasks PromiseSide k c.tasks) (in_ports PromiseSide k c.ports) (in_requests PromiseSide k c.requests)
    (count_maybe PromiseSide k FutureSide c.main)
    (zero_second (frames_scan xs PromiseSide k) (in_core PromiseSide k c) a) in
    let pb = parts (in_cells FutureSide k c.cells) (in_entries FutureSide k c.entries) (in_tasks FutureSide k c.tasks) (in_ports FutureSide k c.ports) (in_requests FutureSide k c.requests)
    (count_maybe FutureSide k FutureSide c.main)
    (zero_second (frames_scan xs FutureSide k) (in_core FutureSide k c) b) in
    let quiet : (cell : Cell) → thing c.cells k ≡ Some cell → waiters cell ≡ [] = λ cell at. none_wait k (waiters cell) (cell_zero k FutureSide c.cells k cell pb.cells at).0 in
    record {
      cells = λ n cell at. cell_off k cell ((cell_zero k PromiseSide c.cells n cell pa.cells at).1, (cell_zero k FutureSide c.cells n cell pb.cells at).1);
      quiet = quiet;
      frames = λ i f at. memory_off k f.mem (
        frame_zero k PromiseSide xs i f (zero_first (frames_scan xs PromiseSide k) (in_core PromiseSide k c) a) at,
        frame_zero k FutureSide xs i f
            (zero_first (frames_scan xs FutureSide k) (in_core FutureSide k c) b) at,
      );
      operands = λ i e at. by_sleep i e at e.suspended refl quiet (entry_zero k PromiseSide c.entries i e pa.entries at).1 (entry_zero k FutureSide c.entries i e pb.entries at).1;
      results = λ i n e at q. maybe_off k e.result n (entry_zero k PromiseSide c.entries i e pa.entries at).0 q;
      tasks = tasks_off k c.tasks pa.tasks pb.tasks;
      ports = λ p n at. ports_off k c.ports p n pa.ports at;
      main = λ n at. main_off k c.main n pb.main at;
      requests = requests_off k c.requests pa.requests;
    }
  where
    by_sleep : (i : ℕ) (e : Entry) → thing c.entries i ≡ Some e → (b : Bool) → e.suspended ≡ b → ((cell : Cell) → thing c.cells k ≡ Some cell → waiters cell ≡ [])
        → count_kept PromiseSide k b e.operands ≡ 0 → count_kept FutureSide k b e.operands ≡ 0 → OperandsSee (Off k) e.operands
    by_sleep i e at true s q a b = asleep_off i k c.cells e.operands q (reg i e at s)
    by_sleep i e at false s q a b = refs_off k e.operands (a, b)

module _ (r : RawTree) (types : CellTypes) (k : ℕ) where
  abbrev pub others : CellTypes
  others n = if nat_eq n k then None else types n

  pub moves : (n : ℕ) (t : TypeTree) → Off k n → types n ≡ Some t → others n ≡ Some t
  moves n t off e = by_test (nat_eq n k) refl
    where
      by_test : (b : Bool) → nat_eq n k ≡ b → (if b then None else types n) ≡ Some t
      by_test true q = absurd (off (let f : n ≡ k = grind (arith, q) in f))
      by_test false q = e

  others_none : others k ≡ None
  others_none = by_test (nat_eq k k) refl
    where
      by_test : (b : Bool) → nat_eq k k ≡ b → (if b then None else types k) ≡ None
      by_test true q = refl
      by_test false q = absurd (let f : ⊥ = grind (arith, q) in f)

  others_same : (n : ℕ) → (k ≡ n → ⊥) → types n ≡ others n
  others_same n o = by_test (nat_eq n k) refl
    where
      by_test : (b : Bool) → nat_eq n k ≡ b → types n ≡ (if b then None else types n)
      by_test true q = absurd (o (let f : k ≡ n = grind (arith, q) in f))
      by_test false q = refl

  waits_again : (xs : Numbered Frame) (ws : List Waiter) (t : TypeTree) → AllWaitFor r types xs ws t → AllWaitFor r others xs ws t
  waits_again xs [] t h = tt
  waits_again xs (w ∷ ws) t h = (record { frame = h.0.frame; stands = h.0.stands; operand = h.0.operand }, waits_again xs ws t h.1)

  waiters_again : (xs : Numbered Frame) (o : Option TypeTree) (x : Option Cell) → WaitersAt r types xs o x → WaitersAt r others xs o x
  waiters_again xs None None h = tt
  waiters_again xs None (Some cell) h = tt
  waiters_again xs (Some t) None h = tt
  waiters_again xs (Some t) (Some cell) h = waits_again xs (waiters cell) t h

  cell_again : (o : Option TypeTree) (x : Option Cell) → ((cell : Cell) → x ≡ Some cell → CellSees (Off k) cell) → CellAt r types o x → CellAt r others o x
  cell_again None None s h = tt
  cell_again None (Some cell) s h = absurd h
  cell_again (Some t) None s h = absurd h
  cell_again (Some t) (Some cell) s h = cell_retyped r types others (Off k) moves cell t (s cell refl) h

  first_seen : (i : ℕ) (ts : List Task) → TasksSee (Off k) ts → FirstSees r types others (Off k) moves (tasks_of i ts)
  first_seen i [] s = tt
  first_seen i (t ∷ ts) s = by_test (is_of i t) (first_seen i ts s.1)
    where
      by_test : (b : Bool) → FirstSees r types others (Off k) moves (tasks_of i ts) → FirstSees r types others (Off k) moves (if b then t ∷ tasks_of i ts else tasks_of i ts)
      by_test true f = s.0
      by_test false f = f

  module _ (c : Core) (xs : Numbered Frame) (p : ProcessFits r types c xs) (s : StateSees k c xs) where
    actor_again : (i : ℕ) (o : Option Entry) (x : Option Frame) → thing c.entries i ≡ o → thing xs i ≡ x → ActorAt r types o x (tasks_of i c.tasks) → ActorAt r others o x (tasks_of i c.tasks)
    actor_again i None x a b h = tt
    actor_again i (Some e) None a b h = absurd h
    actor_again i (Some e) (Some f) a b h =
        actor_retyped r types others (Off k) moves e f (tasks_of i c.tasks) (s.frames i f b) (s.operands i e a) (first_seen i c.tasks s.tasks) (λ n q. s.results i n e a q) h

    pub removed_state : ProcessFits r others (record c { cells = removed c.cells k }) xs
    removed_state = record {
      cells = each_number k (λ n. CellAt r others (others n) (thing (removed c.cells k) n))
          (subst (λ o. CellAt r others o (thing (removed c.cells k) k)) (sym others_none) (subst (CellAt r others None) (sym (removed_none c.cells 0 c.made k p.numbered)) tt))
          (λ n o. subst (λ z. CellAt r others z (thing (removed c.cells k) n)) (others_same n o)
          (subst (CellAt r others (types n)) (sym (thing_removed_other c.cells k n o)) (cell_again (types n) (thing c.cells n) (λ cell at. s.cells n cell at) (p.cells n))));
      waiting = each_number k (λ n. WaitersAt r others xs (others n) (thing (removed c.cells k) n))
          (subst (λ o. WaitersAt r others xs o (thing (removed c.cells k) k)) (sym others_none) (subst (WaitersAt r others xs None) (sym (removed_none c.cells 0 c.made k p.numbered)) tt))
          (λ n o. subst (λ z. WaitersAt r others xs z (thing (removed c.cells k) n)) (others_same n o)
          (subst (WaitersAt r others xs (types n)) (sym (thing_removed_other c.cells k n o)) (waiters_again xs (types n) (thing c.cells n) (p.waiting n))));
      actors = λ i. actor_again i (thing c.entries i) (thing xs i) refl refl (p.actors i);
      work = tasks_retyped r types others (Off k) moves c.tasks s.tasks p.work;
      ports = λ q n at. moves n _ (s.ports q n at) (p.ports q n at);
      main = λ n at. let e = p.main n at in (e.0, moves n (FutureType e.0) (s.main n at) e.1);
      requests = all_exist_retyped r types others (Off k) moves c.requests s.requests p.requests;
      numbered = rising_removed c.cells 0 c.made k p.numbered;
      framed = p.framed;
      registered = λ i. cells_registered i c.entries c.cells (removed c.cells k) (removed_keeps i k c.cells (no_wait i k c.cells s.quiet)) (p.registered i);
    }

    -- and what stood in it is dropped
    queue_some : (vs : List ValueTree) (t : TypeTree) → QueueFits r others vs t → HaveSome r.records (typed_by others) vs
    queue_some [] t h = tt
    queue_some (v ∷ vs) t h = ((t, h.0), queue_some vs t h.1)

    held_some : (cell : Cell) (t : TypeTree) → CellFits r others cell t → HaveSome r.records (typed_by others) (held cell)
    held_some (Single None ws) t h = tt
    held_some (Single (Some (GoodOutcome v)) ws) t h = ((h.0, h.2), tt)
    held_some (Single (Some (BadOutcome e)) ws) t h = tt
    held_some (Stream q end w) t h = queue_some q h.0 h.2

    pub freed_fits : (cell : Cell) (t : TypeTree) → c.halted ≡ None → thing c.cells k ≡ Some cell → CellFits r types cell t
        → Fine r types (free_cell k (Some cell) c).halted (free_cell k (Some cell) c) xs
    freed_fits cell t go at h =
        let d = record c { cells = removed c.cells k } in
        fine_of r types None c.halted (free_cell k (Some cell) c) xs go (
          others,
          dropping_fits r others (held cell) d xs (held_some cell t (cell_retyped r types others (Off k) moves cell t (s.cells k cell at) h)) removed_state,
          all_still types others (Off k) moves c.requests s.requests,
          tt,
        )
