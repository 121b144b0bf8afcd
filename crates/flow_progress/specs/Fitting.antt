-- What fits: a process whose cells have types, and whose values, waiters, frames and tasks fit them.
use Rattle.std.specs.Prelude.{◌≡◌, ◌⊎◌, ℕ, suc, Bool, true, false, List, [], ◌∷◌, ◌++◌, codes, slice_get}
use Rattle.std.specs.declared.option.Option.{Option}
use Rattle.std.specs.declared.option.Option.TheVariants.{None, Some}
use Rattle.flow_tree.specs.Tree.{TypeTree, NamedType, FutureType, FutureStreamType}
use Rattle.flow_value.specs.declared.value.Kind as reference
use Rattle.flow_value.specs.declared.value.Kind.TheVariants.{Future}
use Rattle.flow_value.specs.Values.{ValueTree, RefValue, OutcomeTree}
use Rattle.flow_ast.specs.Typing.{is_nothing}
use Rattle.flow_eval.specs.Typed.{future_side, HasType}
use Rattle.flow_class.specs.Classes.{CallbackTree, ClassTree, RawTree}
use Rattle.flow_class.specs.Code.{fetch, callback_at}
use Rattle.flow_numbered.specs.Numbered.{Numbered, thing}
use Rattle.flow_meaning.specs.Cells.{Ref, Waiter, Cell, Single, Stream, waiters}
use Rattle.flow_meaning.specs.Process.{Task, Run, Give, Throw, Catch, Store, Keep, Close, Fire, Drop, Entry, Core}
use Rattle.flow_meaning.specs.Orderly.{tasks_of, Rising}
use Rattle.flow_meaning.specs.Frame.{Frame, over}
use Rattle.flow_progress.specs.Places.{class_vars}
use Rattle.flow_progress.specs.FramesAtPoints.{Stands, StandsWaiting}
use Rattle.flow_progress.specs.Rules.{takes_type}
use Rattle.flow_progress.specs.Registering.{IsRegistered}
use Rattle.flow_progress.specs.Asking.{Stores, NextOperand, OutcomeFits, end_type}

-- The type of a cell is that of its futures.
abbrev pub CellTypes : Type 0
CellTypes = ℕ → Option TypeTree

abbrev pub typed_by : CellTypes → ℕ → TypeTree → Type 0
typed_by types k t = types k ≡ Some t

module _ (r : RawTree) (types : CellTypes) where
  abbrev pub Fits : ValueTree → TypeTree → Type 0
  Fits v t = HasType r.records (typed_by types) v t

  abbrev pub Exists : ℕ → Type 0
  Exists k = (t : TypeTree) × (types k ≡ Some t)

  -- a reference of a kind is to a cell of that kind
  abbrev pub Leads : reference.Kind → ℕ → Type 0
  Leads kind k = (u : TypeTree) × (types k ≡ Some (future_side kind u))

  -- what a cell holds has the type of what it is of
  abbrev pub ContentFits : Option OutcomeTree → TypeTree → Type 0
  ContentFits None u = Unit {0}
  ContentFits (Some o) u = OutcomeFits r.records (typed_by types) o u

  abbrev pub QueueFits : List ValueTree → TypeTree → Type 0
  QueueFits [] u = Unit {0}
  QueueFits (v ∷ vs) u = Fits v u × QueueFits vs u

  abbrev pub CellFits : Cell → TypeTree → Type 0
  CellFits (Single content ws) t = (u : TypeTree) × (t ≡ FutureType u) × ContentFits content u
  CellFits (Stream queue end w) t = (u : TypeTree) × (t ≡ FutureStreamType u) × QueueFits queue u

  -- each cell has a type, and what has a type is a cell
  abbrev pub CellAt : Option TypeTree → Option Cell → Type 0
  CellAt None None = Unit {0}
  CellAt (Some t) (Some cell) = CellFits cell t
  CellAt _ _ = ⊥

  -- whoever waits at a cell waits for what it holds
  pub record WaitsFor (xs : Numbered Frame) (w : Waiter) (t : TypeTree) : Type 0 where
    pub frame : Frame
    pub stands : thing xs w.actor ≡ Some frame
    pub operand : NextOperand frame w.branch t

  abbrev pub AllWaitFor : Numbered Frame → List Waiter → TypeTree → Type 0
  AllWaitFor xs [] t = Unit {0}
  AllWaitFor xs (w ∷ ws) t = WaitsFor xs w t × AllWaitFor xs ws t

  abbrev pub WaitersAt : Numbered Frame → Option TypeTree → Option Cell → Type 0
  WaitersAt xs (Some t) (Some cell) = AllWaitFor xs (waiters cell) t
  WaitersAt xs _ _ = Unit {0}

  -- the operands that are kept, from a branch on
  abbrev pub OperandsFit : Frame → (branch : ℕ) → List Ref → Type 0
  OperandsFit f n [] = Unit {0}
  OperandsFit f n (q ∷ qs) = ((t : TypeTree) × NextOperand f n t × Fits (RefValue q.0 q.1) t) × OperandsFit f (suc n) qs

  abbrev pub Standing : Frame → Type 0
  Standing f = Stands r.records (typed_by types) f

  abbrev pub Waiting : Frame → Type 0
  Waiting f = StandsWaiting r.records (typed_by types) f

  -- the result of an effect has the type of where it is stored
  abbrev pub ResultFits : Frame → ValueTree → Type 0
  ResultFits f v = (t : TypeTree) × Stores r f.code (class_vars f.code) (fetch f.code f.block f.instr) t × Fits v t

  -- a branch that was taken, with what it takes
  pub record GivenFits (f : Frame) (branch : ℕ) (o : OutcomeTree) : Type 0 where
    pub waiting : Waiting f
    pub callback : CallbackTree
    pub takes : TypeTree
    pub there : callback_at f.code waiting.group branch ≡ Some callback
    pub into : takes_type f.code callback.into ≡ Some takes
    pub outcome : OutcomeFits r.records (typed_by types) o takes

  -- what is first to be done for an actor of a class, and its frame
  abbrev pub DoingFits : ClassTree → Entry → Frame → List Task → Type 0
  DoingFits c e f (Run i ∷ ts) = (f.code ≡ c) × Standing f × OperandsFit f 0 e.operands
  DoingFits c e f (Store i v ∷ ts) = (f.code ≡ c) × Standing f × ResultFits f v × (e.operands ≡ [])
  DoingFits c e f (Keep i spot q ∷ ts) = (f.code ≡ c) × Standing f × OperandsFit f 0 (e.operands ++ q ∷ [])
  DoingFits c e f (Give i b o ∷ ts) = (f.code ≡ c) × GivenFits f b o × (e.operands ≡ [])
  DoingFits c e f (Throw i err ∷ ts) = (f.code ≡ c) × (Standing f ⊎ Waiting f) × OperandsFit f 0 e.operands
  DoingFits c e f (Catch i err ∷ ts) = (f.code ≡ c) × Standing f × (e.operands ≡ [])
  DoingFits c e f (Close i o ∷ ts) =
      OutcomeFits r.records (typed_by types) o (end_type c.returns) × (f ≡ over) × (e.operands ≡ [])
  DoingFits c e f ts = ⊥

  abbrev pub PostureFits : Bool → ClassTree → Entry → Frame → List Task → Type 0
  PostureFits true c e f ts = (f.code ≡ c) × Waiting f × OperandsFit f 0 e.operands
  PostureFits false c e f ts = DoingFits c e f ts

  -- an actor owns its result, and a void one has none
  abbrev pub OwnsResult : Option ℕ → TypeTree → Type 0
  OwnsResult None t = is_nothing t ≡ true
  OwnsResult (Some k) t = (is_nothing t ≡ false) × (types k ≡ Some (FutureType t))

  -- an unfinished actor: its class, its result, and what is to be done for it
  pub record ActorFits (e : Entry) (f : Frame) (ts : List Task) : Type 0 where
    pub class : ClassTree
    pub is : slice_get r.classes e.class ≡ Some class
    pub owns : OwnsResult e.result class.returns
    pub posture : PostureFits e.suspended class e f ts

  abbrev pub ActorAt : Option Entry → Option Frame → List Task → Type 0
  ActorAt None o ts = Unit {0}
  ActorAt (Some e) None ts = ⊥
  ActorAt (Some e) (Some f) ts = ActorFits e f ts

  -- the cells of fires are there, and those of drops are of their kinds
  abbrev pub TasksFit : List Task → Type 0
  TasksFit [] = Unit {0}
  TasksFit (Fire k ∷ ts) = Exists k × TasksFit ts
  TasksFit (Drop kind k ∷ ts) = Leads kind k × TasksFit ts
  TasksFit (t ∷ ts) = TasksFit ts

  abbrev pub AllExist : List ℕ → Type 0
  AllExist [] = Unit {0}
  AllExist (k ∷ ks) = Exists k × AllExist ks

  pub record ProcessFits (c : Core) (xs : Numbered Frame) : Type 0 where
    pub cells : (k : ℕ) → CellAt (types k) (thing c.cells k)
    pub waiting : (k : ℕ) → WaitersAt xs (types k) (thing c.cells k)
    pub actors : (i : ℕ) → ActorAt (thing c.entries i) (thing xs i) (tasks_of i c.tasks)
    pub work : TasksFit c.tasks
    pub ports : (p k : ℕ) → thing c.ports p ≡ Some k → types k ≡ Some (FutureStreamType (NamedType (codes "Packet")))
    pub main : (k : ℕ) → c.main ≡ Some k → Leads Future k
    pub requests : AllExist c.requests
    pub numbered : Rising 0 c.made c.cells
    pub framed : Rising 0 c.started xs
    pub registered : (i : ℕ) → IsRegistered i c.entries c.cells
