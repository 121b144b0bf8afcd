-- A process that fits, with one actor in hand, and put together again.
use Rattle.std.proofs.Common.{◌≡◌, ℕ, zero, suc, Bool, true, false, List, [], ◌∷◌, refl, sym, ◌∙◌, subst}
use Rattle.std.specs.Prelude.{codes}
use Rattle.std.specs.declared.option.Option.{Option}
use Rattle.std.specs.declared.option.Option.TheVariants.{None, Some}
use Rattle.flow_tree.specs.Tree.{TypeTree, NamedType, FutureStreamType}
use Rattle.flow_value.specs.Values.{ValueTree, refs_of, AllListed}
use Rattle.flow_value.proofs.References.{refs_listed, listed_both}
use Rattle.flow_value.specs.declared.value.Kind.TheVariants.{Future}
use Rattle.flow_eval.proofs.TypedReferences.{refs_lead}
use Rattle.flow_class.specs.Classes.{RawTree}
use Rattle.flow_numbered.specs.Numbered.{Numbered, thing, put}
use Rattle.flow_meaning.specs.Cells.{Ref, Waiter, Cell, waiters}
use Rattle.flow_meaning.specs.Process.{Task, Fire, Drop, Entry, Halt, Spent, NoMeaning, Core}
use Rattle.flow_meaning.specs.Requests.{Request}
use Rattle.flow_meaning.specs.References.{refs_in}
use Rattle.flow_meaning.specs.Work.{turn_of, turn, pushed, drops, dropping_values}
use Rattle.flow_meaning.specs.Orderly.{is_of, tasks_of, is_suspended, AllWait, CellsWait, Rising}
use Rattle.flow_meaning.specs.Frame.{Frame}
use Rattle.flow_meaning.proofs.Posture.{each_number, thing_put_other, drops_tasks, Unmoved, IsOf, own_task, other_task, Awake}
use Rattle.flow_meaning.proofs.Shifts.{cell_waits}
use Rattle.flow_meaning.proofs.Order.{rising_put}
use Rattle.flow_progress.specs.Asking.{HaveSome}
pub use Rattle.flow_progress.specs.Keeping.{Fine}
use Rattle.flow_progress.specs.Keeping.{StillTyped, AskFits, FitsStill, FineAsking}
use Rattle.flow_progress.proofs.Retyped.{AllSeen}
use Rattle.flow_progress.specs.Registering.{IsRegistered}
use Rattle.flow_progress.specs.Fitting.{CellTypes, typed_by, Fits, Leads, CellAt, AllWaitFor, WaitersAt, OperandsFit, ActorFits, ActorAt, TasksFit, AllExist, ProcessFits}

pub fine_of : (r : RawTree) (before : CellTypes) (q : Option Request) (o : Option Halt) (c : Core) (xs : Numbered Frame) → o ≡ None → FitsStill r before q c xs → FineAsking r before q o c xs
fine_of r before q None c xs e h = h
fine_of r before q (Some x) c xs e h = absurd cc

-- types that stay, of cells that are seen
pub all_still : (before after : CellTypes) (P : ℕ → Type 0) → ((k : ℕ) (t : TypeTree) → P k → before k ≡ Some t → after k ≡ Some t) → (ks : List ℕ) → AllSeen P ks → StillTyped before after ks
all_still before after P moves [] s = tt
all_still before after P moves (k ∷ ks) s = ((λ t e. moves k t s.0 e), all_still before after P moves ks s.1)

pub still_same : (types : CellTypes) (ks : List ℕ) → StillTyped types types ks
still_same types [] = tt
still_same types (k ∷ ks) = ((λ t e. e), still_same types ks)

pub fine_same : (r : RawTree) (types : CellTypes) (o : Option Halt) (c : Core) (xs : Numbered Frame) → o ≡ None → ProcessFits r types c xs → Fine r types o c xs
fine_same r types o c xs e p = fine_of r types None o c xs e (types, p, still_same types c.requests, tt)

-- since earlier types
still_since : (first before after : CellTypes) → ((k : ℕ) (t : TypeTree) → first k ≡ Some t → before k ≡ Some t) → (ks : List ℕ) → StillTyped before after ks → StillTyped first after ks
still_since first before after h [] s = tt
still_since first before after h (k ∷ ks) s = ((λ t e. s.0 t (h k t e)), still_since first before after h ks s.1)

pub fine_since : (r : RawTree) (first before : CellTypes) (q : Option Request) (o : Option Halt) (c : Core) (xs : Numbered Frame) → ((k : ℕ) (t : TypeTree) → first k ≡ Some t → before k ≡ Some t)
    → FineAsking r before q o c xs → FineAsking r first q o c xs
fine_since r first before q None c xs h f = (f.0, f.1, still_since first before f.0 h c.requests f.2, f.3)
fine_since r first before q (Some Spent) c xs h f = tt
fine_since r first before q (Some NoMeaning) c xs h f = f

-- and something is asked of the world
pub fine_asking : (r : RawTree) (before : CellTypes) (q : Option Request) (o : Option Halt) (c : Core) (xs : Numbered Frame) → ((types : CellTypes) → AskFits types q) → Fine r before o c xs
    → FineAsking r before q o c xs
fine_asking r before q None c xs h f = (f.0, f.1, f.2, h f.0)
fine_asking r before q (Some Spent) c xs h f = tt
fine_asking r before q (Some NoMeaning) c xs h f = f

pub fine_turn : (r : RawTree) (before : CellTypes) (f : Core → Core) (c : Core) (xs : Numbered Frame) → ((n : ℕ) → Fine r before (f (record c { left = n })).halted (f (record c { left = n })) xs)
    → Fine r before (turn c f).halted (turn c f) xs
fine_turn r before f c xs h = by_left c.left
  where
    by_left : (l : ℕ) → Fine r before (turn_of l c f).halted (turn_of l c f) xs
    by_left zero = tt
    by_left (suc n) = h n

module _ (r : RawTree) (types : CellTypes) where
  -- all but one actor
  pub record FitsBut (i : ℕ) (c : Core) (xs : Numbered Frame) : Type 0 where
    pub cells : (k : ℕ) → CellAt r types (types k) (thing c.cells k)
    pub waiting : (k : ℕ) → WaitersAt r types xs (types k) (thing c.cells k)
    pub actors : (j : ℕ) → (i ≡ j → ⊥) → ActorAt r types (thing c.entries j) (thing xs j) (tasks_of j c.tasks)
    pub work : TasksFit r types c.tasks
    pub ports : (p k : ℕ) → thing c.ports p ≡ Some k → types k ≡ Some (FutureStreamType (NamedType (codes "Packet")))
    pub main : (k : ℕ) → c.main ≡ Some k → Leads r types Future k
    pub requests : AllExist r types c.requests
    pub numbered : Rising 0 c.made c.cells
    pub framed : Rising 0 c.started xs
    pub registered : (j : ℕ) → (i ≡ j → ⊥) → IsRegistered j c.entries c.cells

  -- the actor is there with its task
  pub put_back : (i : ℕ) (c : Core) (xs : Numbered Frame) → FitsBut i c xs → ActorAt r types (thing c.entries i) (thing xs i) (tasks_of i c.tasks) → IsRegistered i c.entries c.cells
      → ProcessFits r types c xs
  put_back i c xs h a own = record {
    cells = h.cells;
    waiting = h.waiting;
    actors = each_number i (λ j. ActorAt r types (thing c.entries j) (thing xs j) (tasks_of j c.tasks)) a h.actors;
    work = h.work;
    ports = h.ports;
    main = h.main;
    requests = h.requests;
    numbered = h.numbered;
    framed = h.framed;
    registered = each_number i (λ j. IsRegistered j c.entries c.cells) own h.registered;
  }

  pub all_but : (i : ℕ) (c : Core) (xs : Numbered Frame) → ProcessFits r types c xs → FitsBut i c xs
  all_but i c xs h = record {
    cells = h.cells;
    waiting = h.waiting;
    actors = λ j k. h.actors j;
    work = h.work;
    ports = h.ports;
    main = h.main;
    requests = h.requests;
    numbered = h.numbered;
    framed = h.framed;
    registered = λ j n. h.registered j;
  }

  -- what is left of the tasks
  rest_fits : (t : Task) (ts : List Task) → TasksFit r types (t ∷ ts) → TasksFit r types ts
  rest_fits (Fire k) ts h = h.1
  rest_fits (Drop kd k) ts h = h.1
  rest_fits _ ts h = h

  pub own_fits : (i : ℕ) (t : Task) (ts : List Task) → is_of i t ≡ true → TasksFit r types ts → TasksFit r types (t ∷ ts)
  own_fits i (Fire k) ts own h = absurd cc
  own_fits i (Drop kd k) ts own h = absurd cc
  own_fits i _ ts own h = h

  -- the newest task is off
  pub popped_but : (i left : ℕ) (t : Task) (ts : List Task) (c : Core) (xs : Numbered Frame) → ProcessFits r types c xs → c.tasks ≡ t ∷ ts
      → ((j : ℕ) → (i ≡ j → ⊥) → Unmoved j c (record c { tasks = ts })) → FitsBut i (record c { tasks = ts; left = left }) xs
  popped_but i left t ts c xs h top others = record {
    cells = h.cells;
    waiting = h.waiting;
    actors = λ j k. subst (ActorAt r types (thing c.entries j) (thing xs j)) (sym (others j k).1) (h.actors j);
    work = rest_fits t ts (subst (TasksFit r types) top h.work);
    ports = h.ports;
    main = h.main;
    requests = h.requests;
    numbered = h.numbered;
    framed = h.framed;
    registered = λ j n. h.registered j;
  }

  -- whoever waits isn't in hand
  frames_wait : (i : ℕ) (c : Core) (xs : Numbered Frame) (g : Frame) (ws : List Waiter) (t : TypeTree) → Awake i c → AllWait c.entries ws → AllWaitFor r types xs ws t
      → AllWaitFor r types (put xs i g) ws t
  frames_wait i c xs g [] t a w h = tt
  frames_wait i c xs g (x ∷ ws) t a w h =
      let other : i ≡ x.actor → ⊥ = (λ e. awake_asleep (subst (λ n. is_suspended (thing c.entries n) ≡ Some false) e a) w.0) in
      (record { frame = h.0.frame; stands = thing_put_other xs i x.actor g other ∙ h.0.stands; operand = h.0.operand }, frames_wait i c xs g ws t a w.1 h.1)
    where
      awake_asleep : {o : Option Bool} → o ≡ Some false → o ≡ Some true → ⊥
      awake_asleep f g = cc

  waits_put_frame : (i : ℕ) (c : Core) (xs : Numbered Frame) (g : Frame) (k : ℕ) (t : Option TypeTree) (o : Option Cell) → thing c.cells k ≡ o → Awake i c → CellsWait c.entries c.cells
      → WaitersAt r types xs t o → WaitersAt r types (put xs i g) t o
  waits_put_frame i c xs g k None None at a w h = tt
  waits_put_frame i c xs g k None (Some cell) at a w h = tt
  waits_put_frame i c xs g k (Some t) None at a w h = tt
  waits_put_frame i c xs g k (Some t) (Some cell) at a w h = frames_wait i c xs g (waiters cell) t a (cell_waits c.entries c.cells k cell w at) h

  -- an actor in hand that runs gets another frame
  pub frame_but : (i : ℕ) (c : Core) (xs : Numbered Frame) (g : Frame) → Awake i c → CellsWait c.entries c.cells → FitsBut i c xs → FitsBut i c (put xs i g)
  frame_but i c xs g a w h = record {
    cells = h.cells;
    waiting = λ k. waits_put_frame i c xs g k (types k) (thing c.cells k) refl a w (h.waiting k);
    actors = λ j k. subst (λ o. ActorAt r types (thing c.entries j) o (tasks_of j c.tasks)) (sym (thing_put_other xs i j g k)) (h.actors j k);
    work = h.work;
    ports = h.ports;
    main = h.main;
    requests = h.requests;
    numbered = h.numbered;
    framed = rising_put xs 0 c.started i g h.framed;
    registered = h.registered;
  }

  -- references of values that have types lead to cells of their kinds
  abbrev pub RefExists : Ref → Type 0
  RefExists q = Leads r types q.0 q.1

  abbrev pub RefsExist : List Ref → Type 0
  RefsExist = AllListed RefExists

  value_refs : (v : ValueTree) (t : TypeTree) → Fits r types v t → RefsExist (refs_of v)
  value_refs v t h = refs_listed RefExists v (refs_lead r.records (typed_by types) v t h)

  pub some_refs : (vs : List ValueTree) → HaveSome r.records (typed_by types) vs → RefsExist (refs_in vs)
  some_refs [] h = tt
  some_refs (v ∷ vs) h = listed_both RefExists (refs_of v) (refs_in vs) (value_refs v h.0.0 h.0.1) (some_refs vs h.1)

  pub drops_fit : (qs : List Ref) (ts : List Task) → RefsExist qs → TasksFit r types ts → TasksFit r types (drops qs ts)
  drops_fit [] ts h k = k
  drops_fit (q ∷ qs) ts h k = (h.0, drops_fit qs ts h.1 k)

  pub operands_exist : (f : Frame) (n : ℕ) (qs : List Ref) → OperandsFit r types f n qs → RefsExist qs
  operands_exist f n [] h = tt
  operands_exist f n (q ∷ qs) h = ((h.0.2.0, h.0.2.2), operands_exist f (suc n) qs h.1)

  pub dropping_fits : (vs : List ValueTree) (c : Core) (xs : Numbered Frame) → HaveSome r.records (typed_by types) vs → ProcessFits r types c xs → ProcessFits r types (dropping_values vs c) xs
  dropping_fits vs c xs h p = record {
    cells = p.cells;
    waiting = p.waiting;
    actors = λ j. subst (ActorAt r types (thing c.entries j) (thing xs j)) (sym (drops_tasks j (refs_in vs) c.tasks)) (p.actors j);
    work = drops_fit (refs_in vs) c.tasks (some_refs vs h) p.work;
    ports = p.ports;
    main = p.main;
    requests = p.requests;
    numbered = p.numbered;
    framed = p.framed;
    registered = p.registered;
  }

  -- an actor in hand goes on by a task
  pub push_fits : (i : ℕ) (t : Task) (c : Core) (xs : Numbered Frame) → FitsBut i c xs → IsOf i t → ActorAt r types (thing c.entries i) (thing xs i) (t ∷ tasks_of i c.tasks)
      → IsRegistered i c.entries c.cells → ProcessFits r types (pushed t c) xs
  push_fits i t c xs h own a reg =
      put_back i (pushed t c) xs (record {
        cells = h.cells;
        waiting = h.waiting;
        actors = λ j k. subst (ActorAt r types (thing c.entries j) (thing xs j)) (sym (other_task i j t c.tasks own k)) (h.actors j k);
        work = own_fits i t c.tasks own.own h.work;
        ports = h.ports;
        main = h.main;
        requests = h.requests;
        numbered = h.numbered;
        framed = h.framed;
        registered = h.registered;
      }) (subst (ActorAt r types (thing c.entries i) (thing xs i)) (sym (own_task i t c.tasks own)) a) reg

  pub actor_at : (e : Entry) (f : Frame) (o : Option Entry) (p : Option Frame) (ts : List Task) → o ≡ Some e → p ≡ Some f → ActorFits r types e f ts → ActorAt r types o p ts
  actor_at e f o p ts a b h = subst (λ x. ActorAt r types x p ts) (sym a) (subst (λ y. ActorAt r types (Some e) y ts) (sym b) h)

  pub actor_of : (e : Entry) (f : Frame) (o : Option Entry) (p : Option Frame) (ts : List Task) → o ≡ Some e → p ≡ Some f → ActorAt r types o p ts → ActorFits r types e f ts
  actor_of e f o p ts a b h = subst (λ y. ActorAt r types (Some e) y ts) b (subst (λ x. ActorAt r types x p ts) a h)
