-- What a frame that fits asks for: each value that it hands out has a type, and the frame stands where it is afterwards.
use Rattle.std.specs.Prelude.{◌≡◌, ◌⊎◌, ℕ, true, false, List, [], ◌∷◌, codes, slice_get}
use Rattle.std.specs.declared.option.Option.{Option}
use Rattle.std.specs.declared.option.Option.TheVariants.{None, Some}
use Rattle.flow_tree.specs.Tree.{TypeTree, IntType, StringType, VoidType, NamedType, FutureType, FutureStreamType, NothingType}
use Rattle.flow_tree.specs.Decls.{ParamTree, RecordTree}
use Rattle.flow_ast.specs.Typing.{is_nothing}
use Rattle.flow_ast.specs.Fits.{path_type}
use Rattle.flow_trace.specs.declared.line.Line.{Line}
use Rattle.flow_value.specs.Values.{ValueTree, RefValue, OutcomeTree, GoodOutcome, BadOutcome, values_of_list}
use Rattle.flow_eval.specs.Typed.{reference_type, HasType, HaveTypes}
use Rattle.flow_class.specs.Classes.{EffectInstr, NewInstr, ChooseLast, CallbackTree, ClassTree, RawTree}
use Rattle.flow_class.specs.Code.{Fetched, Body, Last, fetch, callback_at, type_at}
use Rattle.flow_valid.specs.Validity.{operand_type}
use Rattle.flow_meaning.specs.Lines.{print_line}
use Rattle.flow_meaning.specs.Requests.{DiskCall, ReadCall, WriteCall, SyncCall, SizeCall, Effect, Make, Start, Draw, Delay, Never, Listen, Disk, Goal, Stored, Kept, Ask, Act, Goes, Pass, Drops, Effects, Starts, Operand, Waits, Sends, Cancels, Prints, SendsTo, Returns, Throws, RunsOut, Stuck}
use Rattle.flow_meaning.specs.Frame.{Frame, over}
use Rattle.flow_progress.specs.Rules.{first_types, takes_type}
use Rattle.flow_progress.specs.FramesAtPoints.{Stands, StandsWaiting}

-- what a disk answers to a call
abbrev pub reply_type : {A : Type 0} → DiskCall A → TypeTree
reply_type (ReadCall file offset count) = StringType
reply_type (WriteCall file offset text) = VoidType
reply_type (SyncCall file) = VoidType
reply_type (SizeCall file) = IntType

-- the type of the result that an instruction stores
abbrev pub Stores : RawTree → ClassTree → List ParamTree → Fetched → TypeTree → Type 0
Stores r c vars (Body (EffectInstr path e)) t = path_type r.records vars path ≡ Some t
Stores r c vars (Body (NewInstr p)) t = type_at c p ≡ Some t
Stores r c vars _ t = ⊥

-- the type of the next operand of a frame at a `choose`, with so many kept
pub record NextOperand (f : Frame) (kept : ℕ) (t : TypeTree) : Type 0 where
  pub group : ℕ
  pub callback : CallbackTree
  pub takes : TypeTree
  pub there : fetch f.code f.block f.instr ≡ Last (ChooseLast group)
  pub next : callback_at f.code group kept ≡ Some callback
  pub into : takes_type f.code callback.into ≡ Some takes
  pub type : t ≡ operand_type callback.next takes

module _ (rs : List RecordTree) (typed : ℕ → TypeTree → Type 0) where
  abbrev pub OutcomeFits : OutcomeTree → TypeTree → Type 0
  OutcomeFits (GoodOutcome v) t = HasType rs typed v t
  OutcomeFits (BadOutcome e) t = Unit {0}

  -- each of these values has some type
  abbrev pub HaveSome : List ValueTree → Type 0
  HaveSome [] = Unit {0}
  HaveSome (v ∷ vs) = ((t : TypeTree) × HasType rs typed v t) × HaveSome vs

  -- what is sent into a cell has the type of what it holds
  abbrev pub SentFits : ℕ → OutcomeTree → Type 0
  SentFits k o = (u : TypeTree) × (typed k (FutureType u) ⊎ typed k (FutureStreamType u)) × OutcomeFits o u

abbrev pub CanPrint : ValueTree → Type 0
CanPrint v = (i : ℕ) → (l : Line) × (print_line i v ≡ Some l)

-- the type of what an actor ends with: a void one, which gives nothing, ends with `Void()`
abbrev pub end_type : TypeTree → TypeTree
end_type NothingType = VoidType
end_type t = t

module _ (r : RawTree) (typed : ℕ → TypeTree → Type 0) where
  -- a class with these parameters is called
  abbrev pub Called : (class : ℕ) → ClassTree → List ValueTree → Type 0
  Called class d args =
      (slice_get r.classes class ≡ Some d) × HaveTypes r.records typed (values_of_list args) (first_types d.params d.slots)

  -- an effect gives a value of this type
  abbrev pub Gives : Effect → TypeTree → Type 0
  Gives (Make k) t = (u : TypeTree) × (t ≡ reference_type k u)
  Gives (Start class args) t = (d : ClassTree) × Called class d args × (is_nothing d.returns ≡ false) × (t ≡ FutureType d.returns)
  Gives (Draw lo hi) t = t ≡ IntType
  Gives (Delay ticks) t = t ≡ FutureType VoidType
  Gives Never t = t ≡ FutureType VoidType
  Gives (Listen port) t = t ≡ FutureStreamType (NamedType (codes "Packet"))
  Gives (Disk call) t = t ≡ FutureType (reply_type call)

module _ (r : RawTree) (vars : List ParamTree) (typed : ℕ → TypeTree → Type 0) where
  -- it is wanted where it goes
  abbrev pub Wanted : Goal → Frame → (kept : ℕ) → TypeTree → Type 0
  Wanted Stored f kept t = Stores r f.code vars (fetch f.code f.block f.instr) t
  Wanted (Kept spot) f kept t = NextOperand f kept t

  abbrev pub Standing : Frame → Type 0
  Standing f = Stands r.records typed f

  -- what is asked for by a frame of this class, with so many operands kept, which is this frame afterwards
  abbrev pub ActFits : ClassTree → (kept : ℕ) → Act → Frame → Type 0
  ActFits c kept Goes g = Standing g
  ActFits c kept Pass g = Standing g
  ActFits c kept (Drops vs) g = Standing g × HaveSome r.records typed vs
  ActFits c kept (Effects goal eff) g = Standing g × ((t : TypeTree) × Wanted goal g kept t × Gives r typed eff t)
  ActFits c kept (Starts class args) g = Standing g × ((d : ClassTree) × Called r typed class d args × (is_nothing d.returns ≡ true))
  ActFits c kept (Operand spot q) g = Standing g × ((t : TypeTree) × NextOperand g kept t × HasType r.records typed (RefValue q.0 q.1) t)
  ActFits c kept (Waits spot vs) g =
      StandsWaiting r.records typed g × HaveSome r.records typed vs
      × ((group : ℕ) → fetch g.code g.block g.instr ≡ Last (ChooseLast group) → callback_at g.code group kept ≡ None)
  ActFits c kept (Sends k o) g = Standing g × SentFits r.records typed k o
  ActFits c kept (Cancels k) g = Standing g
  ActFits c kept (Prints v) g = Standing g × CanPrint v
  ActFits c kept (SendsTo q port text) g = Standing g
  ActFits c kept (Returns v vs) g =
      HasType r.records typed v (end_type c.returns) × HaveSome r.records typed vs × (g ≡ over)
  ActFits c kept (Throws e) g = Standing g
  ActFits c kept RunsOut g = Unit {0}
  ActFits c kept Stuck g = ⊥

  -- the frame keeps its class, unless it ends
  abbrev pub StaysIn : ClassTree → Act → Frame → Type 0
  StaysIn c (Returns v vs) g = Unit {0}
  StaysIn c act g = g.code ≡ c

  abbrev pub AsksFit : ClassTree → (kept : ℕ) → Option Ask × Frame → Type 0
  AsksFit c kept (None, g) = Standing g × (g.code ≡ c)
  AsksFit c kept (Some ask, g) = ActFits c kept ask.act g × StaysIn c ask.act g
