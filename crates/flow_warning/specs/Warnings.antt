-- What is warned of in a program that the rules accept.
--
-- A local that holds a future, a stream or a promise is lost at a wait and at the end of its scope. So a warning is due where some walk
-- leads from the declaration to a wait, or out of the scope, at its end or by a `return`, `throw`, `break` or `continue`, and no node of
-- it mentions the local. And a loop without a condition, or with the condition `true`, is warned of that has no wait, no `return`, no
-- `throw` and no `break` on any walk through it: it comes round for ever within one event. No variable has the empty name, which stands
-- for no mention.
use Rattle.std.specs.Prelude.{Bool, true, false, ◌||◌, is_some, List, [], ◌∷◌, ◌++◌, if◌then◌else◌}
use Rattle.std.specs.declared.option.Option.{Option}
use Rattle.std.specs.declared.option.Option.TheVariants.{None, Some}
use Rattle.flow_base.specs.declared.place.Place.{Place}
use Rattle.flow_tree.specs.Tree.{TypeTree, FutureType, FutureStreamType, PromiseType, PromiseStreamType, ExprTree, BoolExpr}
use Rattle.flow_tree.specs.Body.{IntoTree, Body, End, BlockStmt, IfStmt, IfElseStmt, WhileStmt, ForStmt, LoopStmt, BreakStmt, ContinueStmt, ReturnStmt, ThrowStmt, TryStmt, ChooseStmt, DeclareStmt, AssignStmt, ModifyStmt, CallStmt, WaitStmt, Branches, NoBranches, MoreBranches}
use Rattle.flow_tree.specs.Decls.{DeclTree, StructDecl, FunctionDecl, ActorDecl}
use Rattle.flow_warning.specs.declared.walks.Walks.{Walks}
use Rattle.flow_warning.specs.declared.warning.Held.{Held}
use Rattle.flow_warning.specs.declared.warning.Held.TheVariants.{Future, Stream, Promise}
use Rattle.flow_warning.specs.declared.warning.Warning.{Warning}
use Rattle.flow_warning.specs.declared.warning.Warning.TheVariants.{Unused, Lost, Endless}
use Rattle.flow_warning.specs.Walks.{alone, round, in_turn}

-- what a variable of a type holds that ends with it
abbrev pub held : TypeTree → Option Held
held (FutureType t) = Some Future
held (FutureStreamType t) = Some Stream
held (PromiseType t) = Some Promise
held (PromiseStreamType t) = Some Promise
held t = None

-- what is lost of a local that is declared here, where these walks lead on from its declaration
abbrev pub lost_at : Held → Place → (wait : Option Place) → (out : Bool) → List Warning
lost_at h at (Some wait) out = Lost h at wait ∷ []
lost_at h at None true = Unused h at ∷ []
lost_at h at None false = []

abbrev pub lost : Option Held → Place → Walks → List Warning
lost None at w = []
lost (Some h) at w = lost_at h at w.wait (w.ends || w.breaks || w.continues || w.leaves)

-- what is lost of a declared variable whose scope is this body
abbrev pub lost_of : IntoTree → (scope : Body) → List Warning
lost_of i k = if i.state then [] else lost (held i.ty) i.name.at (alone i.name.name k)

abbrev pub lost_of_wait : Option IntoTree → (scope : Body) → List Warning
lost_of_wait None k = []
lost_of_wait (Some i) k = lost_of i k

-- a loop without a condition, at this place and with this round
abbrev pub endless : Place → Walks → List Warning
endless at w = if w.breaks || w.leaves || is_some w.wait then [] else Endless at ∷ []

abbrev pub endless_for : Place → Option ExprTree → Walks → List Warning
endless_for at (Some e) w = []
endless_for at None w = endless at w

-- a condition that is always true
abbrev pub always : ExprTree → Bool
always (BoolExpr b) = b
always _ = false

abbrev pub endless_while : Place → ExprTree → Walks → List Warning
endless_while at e w = if always e then endless at w else []

-- what the init of a `for` declares has the rest of the `for` as its scope
abbrev pub lost_of_init : Body → (scope : Body) → List Warning
lost_of_init (DeclareStmt at i v k) scope = lost_of i scope
lost_of_init _ scope = []

-- what is warned of in a body, in the order of the text
abbrev mutual
  pub warnings : Body → List Warning
  warnings End = []
  warnings (BlockStmt at b k) = warnings b ++ warnings k
  warnings (IfStmt at e b k) = warnings b ++ warnings k
  warnings (IfElseStmt at e b c k) = warnings b ++ warnings c ++ warnings k
  warnings (WhileStmt at e b k) = endless_while at e (alone [] b) ++ warnings b ++ warnings k
  warnings (ForStmt at i e t b k) =
      lost_of_init i (ForStmt at End e t b End) ++ endless_for at e (in_turn (round (alone [] b)) (alone [] t)) ++ warnings b ++ warnings k
  warnings (LoopStmt at b k) = endless at (alone [] b) ++ warnings b ++ warnings k
  warnings (BreakStmt at k) = warnings k
  warnings (ContinueStmt at k) = warnings k
  warnings (ReturnStmt at v k) = warnings k
  warnings (ThrowStmt at v k) = warnings k
  warnings (TryStmt at b q x h k) = warnings b ++ warnings h ++ warnings k
  warnings (ChooseStmt at bs k) = branch_warnings bs ++ warnings k
  warnings (DeclareStmt at i v k) = lost_of i k ++ warnings k
  warnings (AssignStmt at xs v k) = warnings k
  warnings (ModifyStmt at xs d k) = warnings k
  warnings (CallStmt at xs es k) = warnings k
  warnings (WaitStmt at w k) = lost_of_wait w.into k ++ warnings k

  pub branch_warnings : Branches → List Warning
  branch_warnings NoBranches = []
  branch_warnings (MoreBranches at w b bs) = lost_of_wait w.into b ++ warnings b ++ branch_warnings bs

abbrev pub else_warnings : Option Body → List Warning
else_warnings None = []
else_warnings (Some c) = warnings c

-- those of a program
abbrev pub decl_warnings : DeclTree → List Warning
decl_warnings (StructDecl r) = []
decl_warnings (FunctionDecl f) = warnings f.body
decl_warnings (ActorDecl f) = warnings f.body

abbrev pub program_warnings : List DeclTree → List Warning
program_warnings [] = []
program_warnings (d ∷ ds) = decl_warnings d ++ program_warnings ds
