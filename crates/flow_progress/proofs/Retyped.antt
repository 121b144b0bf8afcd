-- What fits fits with other types of cells, where those that it refers to keep theirs.
use Rattle.std.proofs.Common.{◌≡◌, ℕ, suc, Bool, true, false, List, [], ◌∷◌, ◌++◌, ◌⊎◌, inl, inr, refl}
use Rattle.std.specs.declared.option.Option.{Option}
use Rattle.std.specs.declared.option.Option.TheVariants.{None, Some}
use Rattle.flow_tree.specs.Tree.{TypeTree, FutureType}
use Rattle.flow_value.specs.Values.{ValueTree, RefValue, OutcomeTree, GoodOutcome, BadOutcome, AllRefs, AllListed}
use Rattle.flow_value.specs.declared.value.Kind.{Kind}
use Rattle.flow_value.proofs.References.{any_refs}
use Rattle.flow_eval.specs.Typed.{future_side}
use Rattle.flow_eval.proofs.TypedReferences.{type_moves}
use Rattle.flow_class.specs.declared.class.Slotted.{Slotted}
use Rattle.flow_class.specs.Classes.{ClassTree, RawTree}
use Rattle.flow_meaning.specs.Cells.{Ref, Cell, Single, Stream}
use Rattle.flow_meaning.specs.Process.{Task, Run, Give, Throw, Catch, Store, Keep, Close, Fire, Drop, Entry}
use Rattle.flow_meaning.specs.Frame.{Memory, Frame, read}
use Rattle.flow_progress.specs.Places.{HoldsTypes}
use Rattle.flow_progress.specs.Asking.{OutcomeFits, end_type}
use Rattle.flow_progress.specs.Fitting.{CellTypes, typed_by, Fits, Exists, Leads, ContentFits, QueueFits, CellFits, OperandsFit, Standing, Waiting, GivenFits, DoingFits, PostureFits, ActorFits, TasksFit, AllExist, OwnsResult}

-- the cells to which things refer
module _ (P : ℕ → Type 0) where
  abbrev pub Seen : Ref → Type 0
  Seen q = P q.1

  abbrev pub Sees : ValueTree → Type 0
  Sees = AllRefs Seen

  abbrev pub OutcomeSees : OutcomeTree → Type 0
  OutcomeSees (GoodOutcome v) = Sees v
  OutcomeSees (BadOutcome e) = Unit {0}

  abbrev pub QueueSees : List ValueTree → Type 0
  QueueSees [] = Unit {0}
  QueueSees (v ∷ vs) = Sees v × QueueSees vs

  abbrev pub ContentSees : Option OutcomeTree → Type 0
  ContentSees None = Unit {0}
  ContentSees (Some o) = OutcomeSees o

  abbrev pub CellSees : Cell → Type 0
  CellSees (Single o ws) = ContentSees o
  CellSees (Stream q end w) = QueueSees q

  abbrev pub MemorySees : Memory → Type 0
  MemorySees m = (q : Slotted) (v : ValueTree) → read m q ≡ Some v → Sees v

  abbrev pub OperandsSee : List Ref → Type 0
  OperandsSee = AllListed Seen

  abbrev pub TaskSees : Task → Type 0
  TaskSees (Run i) = Unit {0}
  TaskSees (Give i b o) = OutcomeSees o
  TaskSees (Throw i e) = Unit {0}
  TaskSees (Catch i e) = Unit {0}
  TaskSees (Store i v) = Sees v
  TaskSees (Keep i spot q) = P q.1
  TaskSees (Close i o) = OutcomeSees o
  TaskSees (Fire k) = P k
  TaskSees (Drop kd k) = P k

  abbrev pub TasksSee : List Task → Type 0
  TasksSee [] = Unit {0}
  TasksSee (t ∷ ts) = TaskSees t × TasksSee ts

  abbrev pub AllSeen : List ℕ → Type 0
  AllSeen [] = Unit {0}
  AllSeen (k ∷ ks) = P k × AllSeen ks

module _ (r : RawTree) (types others : CellTypes) (P : ℕ → Type 0) (moves : (k : ℕ) (t : TypeTree) → P k → types k ≡ Some t → others k ≡ Some t) where
  pub retyped : (v : ValueTree) (t : TypeTree) → Sees P v → Fits r types v t → Fits r others v t
  retyped = type_moves r.records (typed_by types) (typed_by others) (Seen P) (λ q u s e. moves q.1 (future_side q.0 u) s e)

  pub outcome_retyped : (o : OutcomeTree) (t : TypeTree) → OutcomeSees P o → OutcomeFits r.records (typed_by types) o t → OutcomeFits r.records (typed_by others) o t
  outcome_retyped (GoodOutcome v) t s h = retyped v t s h
  outcome_retyped (BadOutcome e) t s h = tt

  content_retyped : (o : Option OutcomeTree) (t : TypeTree) → ContentSees P o → ContentFits r types o t → ContentFits r others o t
  content_retyped None t s h = tt
  content_retyped (Some o) t s h = outcome_retyped o t s h

  queue_retyped : (vs : List ValueTree) (t : TypeTree) → QueueSees P vs → QueueFits r types vs t → QueueFits r others vs t
  queue_retyped [] t s h = tt
  queue_retyped (v ∷ vs) t s h = (retyped v t s.0 h.0, queue_retyped vs t s.1 h.1)

  pub cell_retyped : (cell : Cell) (t : TypeTree) → CellSees P cell → CellFits r types cell t → CellFits r others cell t
  cell_retyped (Single o ws) t s h = (h.0, h.1, content_retyped o h.0 s h.2)
  cell_retyped (Stream q end w) t s h = (h.0, h.1, queue_retyped q h.0 s h.2)

  memory_retyped : (c : ClassTree) (m : Memory) → MemorySees P m → HoldsTypes r.records (typed_by types) c m → HoldsTypes r.records (typed_by others) c m
  memory_retyped c m s h = record { slots = h.slots; locals = h.locals; types = λ q t v at e. retyped v t (s q v e) (h.types q t v at e) }

  pub standing_retyped : (f : Frame) → MemorySees P f.mem → Standing r types f → Standing r others f
  standing_retyped f s h = record { there = h.there; reached = h.reached; full = h.full; holds = memory_retyped f.code f.mem s h.holds }

  pub waiting_retyped : (f : Frame) → MemorySees P f.mem → Waiting r types f → Waiting r others f
  waiting_retyped f s h = record { group = h.group; there = h.there; reached = h.reached; full = h.full; lost = h.lost; holds = memory_retyped f.code f.mem s h.holds }

  pub operands_retyped : (f : Frame) (n : ℕ) (qs : List Ref) → OperandsSee P qs → OperandsFit r types f n qs → OperandsFit r others f n qs
  operands_retyped f n [] s h = tt
  operands_retyped f n (q ∷ qs) s h = ((h.0.0, h.0.1, retyped (RefValue q.0 q.1) h.0.0 s.0 h.0.2), operands_retyped f (suc n) qs s.1 h.1)

  given_retyped : (f : Frame) (b : ℕ) (o : OutcomeTree) → MemorySees P f.mem → OutcomeSees P o → GivenFits r types f b o → GivenFits r others f b o
  unfolding waiting_retyped
  given_retyped f b o s k h = record {
    waiting = waiting_retyped f s h.waiting;
    callback = h.callback;
    takes = h.takes;
    there = h.there;
    into = h.into;
    outcome = outcome_retyped o h.takes k h.outcome;
  }

  either_retyped : (f : Frame) → MemorySees P f.mem → Standing r types f ⊎ Waiting r types f → Standing r others f ⊎ Waiting r others f
  either_retyped f s (inl h) = inl (standing_retyped f s h)
  either_retyped f s (inr h) = inr (waiting_retyped f s h)

  -- what the first task of an actor sees
  abbrev pub FirstSees : List Task → Type 0
  FirstSees [] = Unit {0}
  FirstSees (t ∷ ts) = TaskSees P t

  see_more : (qs : List Ref) (q : Ref) → OperandsSee P qs → P q.1 → OperandsSee P (qs ++ q ∷ [])
  see_more [] q s k = (k, tt)
  see_more (x ∷ qs) q s k = (s.0, see_more qs q s.1 k)

  pub doing_retyped : (c : ClassTree) (e : Entry) (f : Frame) (ts : List Task) → MemorySees P f.mem → OperandsSee P e.operands → FirstSees ts → DoingFits r types c e f ts → DoingFits r others c e f ts
  doing_retyped c e f [] s o k h = h
  doing_retyped c e f (Run i ∷ ts) s o k h = (h.0, standing_retyped f s h.1, operands_retyped f 0 e.operands o h.2)
  doing_retyped c e f (Store i v ∷ ts) s o k h = (h.0, standing_retyped f s h.1, (h.2.0, h.2.1, retyped v h.2.0 k h.2.2), h.3)
  doing_retyped c e f (Keep i spot q ∷ ts) s o k h = (h.0, standing_retyped f s h.1, operands_retyped f 0 (e.operands ++ q ∷ []) (see_more e.operands q o k) h.2)
  doing_retyped c e f (Give i b v ∷ ts) s o k h = (h.0, given_retyped f b v s k h.1, h.2)
  doing_retyped c e f (Throw i err ∷ ts) s o k h = (h.0, either_retyped f s h.1, operands_retyped f 0 e.operands o h.2)
  doing_retyped c e f (Catch i err ∷ ts) s o k h = (h.0, standing_retyped f s h.1, h.2)
  doing_retyped c e f (Close i v ∷ ts) s o k h = (outcome_retyped v (end_type c.returns) k h.0, h.1, h.2)
  doing_retyped c e f (Fire n ∷ ts) s o k h = h
  doing_retyped c e f (Drop kd n ∷ ts) s o k h = h

  posture_retyped : (b : Bool) (c : ClassTree) (e : Entry) (f : Frame) (ts : List Task) → MemorySees P f.mem → OperandsSee P e.operands → FirstSees ts → PostureFits r types b c e f ts
      → PostureFits r others b c e f ts
  posture_retyped true c e f ts s o k h = (h.0, waiting_retyped f s h.1, operands_retyped f 0 e.operands o h.2)
  posture_retyped false c e f ts s o k h = doing_retyped c e f ts s o k h

  pub owns_retyped : (o : Option ℕ) (t : TypeTree) → ((k : ℕ) → o ≡ Some k → P k) → OwnsResult r types o t → OwnsResult r others o t
  owns_retyped None t own h = h
  owns_retyped (Some k) t own h = (h.0, moves k (FutureType t) (own k refl) h.1)

  pub actor_retyped : (e : Entry) (f : Frame) (ts : List Task) → MemorySees P f.mem → OperandsSee P e.operands → FirstSees ts → ((k : ℕ) → e.result ≡ Some k → P k) → ActorFits r types e f ts
      → ActorFits r others e f ts
  actor_retyped e f ts s o k own h = record {
    class = h.class;
    is = h.is;
    owns = owns_retyped e.result h.class.returns own h.owns;
    posture = posture_retyped e.suspended h.class e f ts s o k h.posture;
  }

  exists_retyped : (k : ℕ) → P k → Exists r types k → Exists r others k
  exists_retyped k s h = (h.0, moves k h.0 s h.1)

  leads_retyped : (kd : Kind) (k : ℕ) → P k → Leads r types kd k → Leads r others kd k
  leads_retyped kd k s h = (h.0, moves k (future_side kd h.0) s h.1)

  pub tasks_retyped : (ts : List Task) → TasksSee P ts → TasksFit r types ts → TasksFit r others ts
  tasks_retyped [] s h = tt
  tasks_retyped (Fire k ∷ ts) s h = (exists_retyped k s.0 h.0, tasks_retyped ts s.1 h.1)
  tasks_retyped (Drop kd k ∷ ts) s h = (leads_retyped kd k s.0 h.0, tasks_retyped ts s.1 h.1)
  tasks_retyped (Run i ∷ ts) s h = tasks_retyped ts s.1 h
  tasks_retyped (Give i b o ∷ ts) s h = tasks_retyped ts s.1 h
  tasks_retyped (Throw i e ∷ ts) s h = tasks_retyped ts s.1 h
  tasks_retyped (Catch i e ∷ ts) s h = tasks_retyped ts s.1 h
  tasks_retyped (Store i v ∷ ts) s h = tasks_retyped ts s.1 h
  tasks_retyped (Keep i spot q ∷ ts) s h = tasks_retyped ts s.1 h
  tasks_retyped (Close i o ∷ ts) s h = tasks_retyped ts s.1 h

  pub all_exist_retyped : (ks : List ℕ) → AllSeen P ks → AllExist r types ks → AllExist r others ks
  all_exist_retyped [] s h = tt
  all_exist_retyped (k ∷ ks) s h = (exists_retyped k s.0 h.0, all_exist_retyped ks s.1 h.1)

-- everything is seen where nothing is asked
module _ (P : ℕ → Type 0) (any : (k : ℕ) → P k) where
  pub sees_any : (v : ValueTree) → Sees P v
  sees_any = any_refs (Seen P) (λ q. any q.1)

  pub outcome_any : (o : OutcomeTree) → OutcomeSees P o
  outcome_any (GoodOutcome v) = sees_any v
  outcome_any (BadOutcome e) = tt

  content_any : (o : Option OutcomeTree) → ContentSees P o
  content_any None = tt
  content_any (Some o) = outcome_any o

  queue_any : (vs : List ValueTree) → QueueSees P vs
  queue_any [] = tt
  queue_any (v ∷ vs) = (sees_any v, queue_any vs)

  pub cell_any : (cell : Cell) → CellSees P cell
  cell_any (Single o ws) = content_any o
  cell_any (Stream q end w) = queue_any q

  pub operands_any : (qs : List Ref) → OperandsSee P qs
  operands_any [] = tt
  operands_any (q ∷ qs) = (any q.1, operands_any qs)

  pub task_any : (t : Task) → TaskSees P t
  task_any (Run i) = tt
  task_any (Give i b o) = outcome_any o
  task_any (Throw i e) = tt
  task_any (Catch i e) = tt
  task_any (Store i v) = sees_any v
  task_any (Keep i spot q) = any q.1
  task_any (Close i o) = outcome_any o
  task_any (Fire k) = any k
  task_any (Drop kd k) = any k

  pub tasks_any : (ts : List Task) → TasksSee P ts
  tasks_any [] = tt
  tasks_any (t ∷ ts) = (task_any t, tasks_any ts)

  pub seen_any : (ks : List ℕ) → AllSeen P ks
  seen_any [] = tt
  seen_any (k ∷ ks) = (any k, seen_any ks)
