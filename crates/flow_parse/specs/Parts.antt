-- The parts of a program that are read one by one.
use Rattle.std.specs.Prelude.{◌≡◌, ℕ, suc, Bool, true, false, List, [], ◌∷◌, ◌++◌, length, ◌<◌}
use Rattle.std.specs.declared.option.Option.{Option}
use Rattle.std.specs.declared.option.Option.TheVariants.{None, Some}
use Rattle.flow_base.specs.declared.place.Place.{Place}
use Rattle.flow_tree.specs.declared.token.Token.TheVariants as token
use Rattle.flow_tree.specs.declared.token.Word.TheVariants as word
use Rattle.flow_tree.specs.declared.token.Sign.TheVariants as sign
use Rattle.flow_tree.specs.declared.ty.Ident.{Ident}
use Rattle.flow_tree.specs.declared.decl.RoutineKind.{RoutineKind}
use Rattle.flow_tree.specs.Tree.{TypeTree, NothingType, ExprTree, ExprTrees}
use Rattle.flow_tree.specs.Body.{IntoTree, WaitTree, PlusChange, MinusChange, UpChange, DownChange, Body, End, BlockStmt, IfStmt, IfElseStmt, WhileStmt, ForStmt, LoopStmt, BreakStmt, ContinueStmt, ReturnStmt, ThrowStmt, TryStmt, ChooseStmt, DeclareStmt, AssignStmt, ModifyStmt, CallStmt, WaitStmt, Branches, MoreBranches}
use Rattle.flow_tree.specs.Decls.{ParamTree, RecordTree, RoutineTree}
use Rattle.flow_tree.specs.GrammarToken.{Part, Marked, begin}
use Rattle.flow_tree.specs.Grammar.{sign_at, word_at, name_at, node_name, in_angle, TypeRule, ExprRule, ArgsRule, MoreArgsRule}
use Rattle.flow_tree.specs.GrammarStmt.{Counts, StartsAt, begin_statement, StateRule, IntoRule, OperandRule, WaitingRule, PathRule, AssignRule, InitRule, InitPart, StepPart, MaybeExprRule, ReturnedRule, PlainRule, StmtRule, BodyRule, StmtsRule, WhensRule, WhenRule}
use Rattle.flow_tree.specs.GrammarDecl.{FieldsRule, MoreParamsRule, ParamsRule, RecordRule, RoutineRule, FunctionRule, ActorRule}
use Rattle.flow_parse.specs.Follow.{NotBefore}

-- a statement, or a body: its tree, the counts behind it, and whether it ends in an `if` that has no
-- `else`
pub record Out : Type 0 where
  pub body : Body
  pub counts : Counts
  pub ends_if : Bool

-- statements and the place of the brace that closes them
pub record BlockOut : Type 0 where
  pub body : Body
  pub counts : Counts
  pub close : Place

-- a statement that ends in an `if` that has no `else` has no `else` behind it
abbrev pub NoElse : Out → List Marked → Type 0
NoElse o z = o.ends_if ≡ true → NotBefore (token.Word word.Else) o z

-- "(" expr ")"
abbrev pub Test : ℕ → List Marked → ExprTree → Type 0
Test d w e = (p q : Place) × (of : List Marked) × ExprRule 0 d of e
    × (w ≡ sign_at sign.OpenRound p ∷ (of ++ sign_at sign.CloseRound q ∷ []))

-- arguments and the bracket that closes them; behind a first argument
abbrev pub Args : ℕ → List Marked → ExprTrees → Type 0
Args d w ts = (q : Place) × (of : List Marked) × ArgsRule d of ts × (w ≡ of ++ sign_at sign.CloseRound q ∷ [])

abbrev pub MoreArgs : ℕ → List Marked → ExprTrees → Type 0
MoreArgs d w ts = (q : Place) × (of : List Marked) × MoreArgsRule d of ts × (w ≡ of ++ sign_at sign.CloseRound q ∷ [])

-- what stands behind the first name of a path
abbrev pub MoreNames : Ident → List Marked → List Ident → Type 0
MoreNames x w xs = PathRule (name_at x ∷ w) xs

-- an expression, or nothing, and a semicolon
abbrev pub MaybeExpr : ℕ → List Marked → Option ExprTree → Type 0
MaybeExpr d w e = (q : Place) × (of : List Marked) × MaybeExprRule d of e × (w ≡ of ++ sign_at sign.Semicolon q ∷ [])

-- what a `return` gives, and its semicolon
abbrev pub Returned : RoutineKind → ℕ → List Marked → Option ExprTree → Type 0
Returned home d w e = (q : Place) × (of : List Marked) × ReturnedRule home d of e × (w ≡ of ++ sign_at sign.Semicolon q ∷ [])

-- a name that is a type of this depth
abbrev pub NodeName : ℕ → List Marked → Ident → Type 0
NodeName d w x = w ≡ node_name d x ∷ []

-- a part and the place of its first token
abbrev pub Placed : {A : Type 0} → (List Marked → A → Type 0) → List Marked → Place × A → Type 0
Placed R w x = StartsAt w x.0 × R w x.1

-- a part that is a statement of this depth, after those counted
abbrev pub Begun : {A : Type 0} → Counts → ℕ → (List Marked → A → Type 0) → List Marked → A → Type 0
Begun c d R w x = (xs : List Marked) × R xs x × (w ≡ begin_statement c d xs)

abbrev pub StatePart : RoutineKind → Counts → List Marked → Bool × Counts → Type 0
StatePart home c w x = StateRule home c x.1 w x.0

abbrev pub IntoPart : RoutineKind → ℕ → Counts → List Marked → IntoTree × Counts → Type 0
IntoPart home d c w x = IntoRule home d c x.1 w x.0

abbrev pub OperandPart : ℕ → List Marked → Bool × ExprTree → Type 0
OperandPart d w x = OperandRule d w x.0 x.1

abbrev pub WaitingPart : RoutineKind → ℕ → Counts → List Marked → WaitTree × Counts → Type 0
WaitingPart home d c w x = WaitingRule home d c x.1 w x.0

-- a change of a variable, behind its path
pub data ChangeRule (d : ℕ) (at : Place) (xs : List Ident) : List Marked → Body → Type 0 where
  assigns : {e : ExprTree} {all : List Marked} (p : Place) (value : List Marked) → ExprRule 0 (suc d) value e
      → all ≡ sign_at sign.Assign p ∷ value → ChangeRule d at xs all (AssignStmt at xs e End)
  adds : {e : ExprTree} {all : List Marked} (p : Place) (value : List Marked) → ExprRule 0 (suc d) value e
      → all ≡ sign_at sign.PlusAssign p ∷ value → ChangeRule d at xs all (ModifyStmt at xs (PlusChange e) End)
  takes : {e : ExprTree} {all : List Marked} (p : Place) (value : List Marked) → ExprRule 0 (suc d) value e
      → all ≡ sign_at sign.MinusAssign p ∷ value → ChangeRule d at xs all (ModifyStmt at xs (MinusChange e) End)
  goes_up : (p : Place) → ChangeRule d at xs (sign_at sign.PlusPlus p ∷ []) (ModifyStmt at xs UpChange End)
  goes_down : (p : Place) → ChangeRule d at xs (sign_at sign.MinusMinus p ∷ []) (ModifyStmt at xs DownChange End)

-- a change or a call, behind its path
pub data ChangedRule (d : ℕ) (at : Place) (xs : List Ident) : List Marked → Body → Type 0 where
  changes : {body : Body} {all : List Marked} → ChangeRule d at xs all body → ChangedRule d at xs all body
  calls : {ts : ExprTrees} {all : List Marked} (p : Place) (args : List Marked) → Args (suc d) args ts
      → all ≡ sign_at sign.OpenRound p ∷ args → ChangedRule d at xs all (CallStmt at xs ts End)

-- what stands behind a declared variable: nothing, or a value
pub data DeclaredRule (d : ℕ) (at : Place) (i : IntoTree) : List Marked → Body → Type 0 where
  no_value : DeclaredRule d at i [] (DeclareStmt at i None End)
  value : {e : ExprTree} {all : List Marked} (p : Place) (of : List Marked) → ExprRule 0 (suc d) of e
      → all ≡ sign_at sign.Assign p ∷ of
      → DeclaredRule d at i all (DeclareStmt at i (Some e) End)

-- in a statement also a wait
pub data ValuedRule (d : ℕ) (at : Place) (i : IntoTree) : List Marked → Body → Type 0 where
  declares : {body : Body} {all : List Marked} → DeclaredRule d at i all body → ValuedRule d at i all body
  waits : {next : Bool} {e : ExprTree} {all : List Marked} (p : Place) (of : List Marked) → OperandRule d of next e
      → all ≡ sign_at sign.Assign p ∷ of
      → ValuedRule d at i all (WaitStmt at (record { into = Some i; next = next; operand = e }) End)

-- a declaration, a change, a wait or a call, without its semicolon
pub data UnendedRule (home : RoutineKind) (d : ℕ) (c : Counts) : List Marked → Counts → Body → Type 0 where
  declaring : {c' : Counts} {i : IntoTree} {body : Body} {all : List Marked} (at : Place) (left right : List Marked)
      → IntoRule home d c c' left i → ValuedRule d at i right body → all ≡ left ++ right → StartsAt all at
      → UnendedRule home d c all c' body
  changing : {x : Ident} {xs : List Ident} {body : Body} {all : List Marked} (left right : List Marked) → PathRule (name_at x ∷ left) xs
      → ChangedRule d x.at xs right body → all ≡ name_at x ∷ (left ++ right) → UnendedRule home d c all c body
  waiting : {next : Bool} {e : ExprTree} {all : List Marked} (at : Place) → OperandRule d all next e → StartsAt all at
      → UnendedRule home d c all c (WaitStmt at (record { into = None; next = next; operand = e }) End)

abbrev pub Unended : RoutineKind → ℕ → Counts → List Marked → Out → Type 0
Unended home d c w o = UnendedRule home d c w o.counts o.body × (o.ends_if ≡ false)

abbrev pub Simple : RoutineKind → ℕ → Counts → List Marked → Out → Type 0
Simple home d c w o = (q : Place) × (of : List Marked) × Unended home d c of o × (w ≡ of ++ sign_at sign.Semicolon q ∷ [])

abbrev pub Init : RoutineKind → ℕ → Counts → List Marked → Out → Type 0
Init home d c w o = (at : Place) × InitRule home d c o.counts w at End o.body × (o.ends_if ≡ false)

abbrev pub Assignment : ℕ → List Marked → Body → Type 0
Assignment d w body = (at : Place) × AssignRule d w at End body

-- the parts of a `for`, each with what closes it
abbrev pub StartPart : RoutineKind → ℕ → Counts → List Marked → Body × Counts → Type 0
StartPart home d c w x = (q : Place) × (of : List Marked) × InitPart home d c x.1 of x.0
    × (w ≡ of ++ sign_at sign.Semicolon q ∷ [])

abbrev pub NextPart : ℕ → Counts → List Marked → Body × Counts → Type 0
NextPart d c w x = (q : Place) × (of : List Marked) × StepPart d c x.1 of x.0 × (w ≡ of ++ sign_at sign.CloseRound q ∷ [])

abbrev pub Plain : RoutineKind → ℕ → Counts → List Marked → Out → Type 0
Plain home d c w o = (at : Place) × PlainRule home d c o.counts w at End o.body o.ends_if

abbrev pub One : RoutineKind → ℕ → Counts → List Marked → Out → Type 0
One home d c w o = StmtRule home d c o.counts w End o.body o.ends_if

abbrev pub BodyPart : RoutineKind → ℕ → Counts → List Marked → Out → Type 0
BodyPart home d c w o = BodyRule home d c o.counts w o.body o.ends_if

-- statements and the brace that closes them, and the brace that opens them
abbrev pub Closing : RoutineKind → ℕ → Counts → List Marked → BlockOut → Type 0
Closing home d c w o = (xs : List Marked) × StmtsRule home d c o.counts xs o.body × (w ≡ xs ++ sign_at sign.CloseCurly o.close ∷ [])

abbrev pub Block : RoutineKind → ℕ → Counts → List Marked → BlockOut → Type 0
Block home d c w o = (p : Place) × (xs : List Marked) × StmtsRule home d c o.counts xs o.body
    × (w ≡ sign_at sign.OpenCurly p ∷ (xs ++ sign_at sign.CloseCurly o.close ∷ []))

-- "catch" "(" "Error" "&" name ")"
abbrev pub Catch : List Marked → Place × Ident → Type 0
Catch w x = (q r s u : Place) × (w ≡ word_at word.Catch x.0 ∷ sign_at sign.OpenRound q ∷ word_at word.Error r ∷ sign_at sign.Amp s
    ∷ name_at x.1 ∷ sign_at sign.CloseRound u ∷ [])

pub record WhenOut : Type 0 where
  pub at : Place
  pub waiting : WaitTree
  pub body : Body
  pub counts : Counts

-- a branch, put before any others
abbrev pub WhenPart : RoutineKind → ℕ → ℕ → Counts → List Marked → WhenOut → Type 0
WhenPart home d n c w o = (bs : Branches) → WhenRule home d n c o.counts w bs (MoreBranches o.at o.waiting o.body bs)

-- branches and the brace that closes them
abbrev pub WhensPart : RoutineKind → ℕ → ℕ → Counts → List Marked → Branches × Counts → Type 0
WhensPart home d n c w x = (q : Place) × (of : List Marked) × WhensRule home d n c x.1 of x.0
    × (w ≡ of ++ sign_at sign.CloseCurly q ∷ [])

abbrev pub AllWhens : RoutineKind → ℕ → Counts → List Marked → Branches × Counts → Type 0
AllWhens home d c w x = (q : Place) × (first more : List Marked) × (c1 : Counts) × (bs : Branches)
    × WhenRule home d 1 c c1 first bs x.0
    × WhensRule home d 2 c1 x.1 more bs × (w ≡ first ++ (more ++ sign_at sign.CloseCurly q ∷ []))

abbrev pub FieldsPart : ℕ → List Marked → List ParamTree → Type 0
FieldsPart n w fs = (q : Place) × (of : List Marked) × FieldsRule n of fs × (w ≡ of ++ sign_at sign.CloseCurly q ∷ [])

-- one field at least
abbrev pub AllFields : List Marked → List ParamTree → Type 0
AllFields w fs = FieldsPart 1 w fs × (0 < length fs)

abbrev pub MoreParams : ℕ → List Marked → List ParamTree → Type 0
MoreParams n w fs = (q : Place) × (of : List Marked) × MoreParamsRule n of fs × (w ≡ of ++ sign_at sign.CloseRound q ∷ [])

abbrev pub Params : List Marked → List ParamTree → Type 0
Params w fs = (q : Place) × (of : List Marked) × ParamsRule of fs × (w ≡ of ++ sign_at sign.CloseRound q ∷ [])

-- a name, parameters and a body
pub record RoutineOut : Type 0 where
  pub name : Ident
  pub params : List ParamTree
  pub body : Body
  pub close : Place

abbrev pub Routine : RoutineKind → List Marked → RoutineOut → Type 0
Routine home w o = (at : Place) (t : TypeTree)
    → RoutineRule home at t w (record { at = at; returns = t; name = o.name; params = o.params; body = o.body; close = o.close })

abbrev pub Record : List Marked → RecordTree → Type 0
Record w r = RecordRule w r

abbrev pub Function : RoutineKind → List Marked → RoutineTree → Type 0
Function home w f = FunctionRule home w f

-- what an actor gives: "Future" "<" type ">", or "void" for nothing
pub data Gives : List Marked → TypeTree → Type 0 where
  gives : {t : TypeTree} {all : List Marked} (p q r : Place) (of : List Marked) → TypeRule 2 of t
      → all ≡ word_at word.Future p ∷ in_angle q of r [] → Gives all t
  gives_nothing : (p : Place) → Gives (word_at word.NoResult p ∷ []) NothingType

abbrev pub Actor : List Marked → RoutineTree → Type 0
Actor w f = ActorRule w f

-- a first statement alone, put before others
abbrev pub put_before : Body → Body → Body
put_before End rest = rest
put_before (BlockStmt at b _) rest = BlockStmt at b rest
put_before (IfStmt at e b _) rest = IfStmt at e b rest
put_before (IfElseStmt at e b b2 _) rest = IfElseStmt at e b b2 rest
put_before (WhileStmt at e b _) rest = WhileStmt at e b rest
put_before (ForStmt at i e s b _) rest = ForStmt at i e s b rest
put_before (LoopStmt at b _) rest = LoopStmt at b rest
put_before (BreakStmt at _) rest = BreakStmt at rest
put_before (ContinueStmt at _) rest = ContinueStmt at rest
put_before (ReturnStmt at e _) rest = ReturnStmt at e rest
put_before (ThrowStmt at e _) rest = ThrowStmt at e rest
put_before (TryStmt at b q x h _) rest = TryStmt at b q x h rest
put_before (ChooseStmt at bs _) rest = ChooseStmt at bs rest
put_before (DeclareStmt at i e _) rest = DeclareStmt at i e rest
put_before (AssignStmt at xs e _) rest = AssignStmt at xs e rest
put_before (ModifyStmt at xs c _) rest = ModifyStmt at xs c rest
put_before (CallStmt at xs ts _) rest = CallStmt at xs ts rest
put_before (WaitStmt at w _) rest = WaitStmt at w rest

-- a part with which another begins
abbrev pub Marks : {A : Type 0} → Part → (List Marked → A → Type 0) → List Marked → A → Type 0
Marks p R w x = (xs : List Marked) × R xs x × (w ≡ begin p xs)
