-- What fits in an actor: beside what a function has, waits, and effects that are a whole right-hand side, operand or statement.
use Rattle.std.specs.Prelude.{◌≡◌, ℕ, Bool, true, false, List, [], ◌∷◌, ◌++◌, slice_get}
use Rattle.std.specs.declared.option.Option.{Option}
use Rattle.std.specs.declared.option.Option.TheVariants.{None, Some}
use Rattle.flow_tree.specs.Tree.{TypeTree, BoolType, ErrorType, ExprTree}
use Rattle.flow_tree.specs.Body.{IntoTree, Body, End, BlockStmt, IfStmt, IfElseStmt, WhileStmt, ForStmt, LoopStmt, BreakStmt, ContinueStmt, ReturnStmt, ThrowStmt, TryStmt, ChooseStmt, DeclareStmt, AssignStmt, ModifyStmt, CallStmt, WaitStmt, Branches, NoBranches, MoreBranches}
use Rattle.flow_tree.specs.Decls.{ParamTree, RoutineTree, DeclTree}
use Rattle.flow_ast.specs.Typing.{type_in, is_nothing}
use Rattle.flow_ast.specs.Fits.{declared_in, path_type, Yields, MaybeYields, ChangeFits, ThrowFits}
use Rattle.flow_rules.specs.Closing.{ways}
use Rattle.flow_rules.specs.Items.{has_default, wait_type}
use Rattle.flow_meaning.specs.Source.{records_in, functions_in, actors_in}
use Rattle.flow_typing_laws.specs.Typing.Scopes.{scope_in, QuietInside}
use Rattle.flow_typing_laws.specs.Typing.CallsFit.{CallStands}

abbrev pub into_param : IntoTree → ParamTree
into_param i = record { ty = i.ty; name = i.name }

abbrev pub waited_params : List ParamTree → Option IntoTree → List ParamTree
waited_params vars None = vars
waited_params vars (Some i) = vars ++ into_param i ∷ []

module _ (ds : List DeclTree) where
  -- a whole expression has this type, and no effects inside
  abbrev pub Gives : List ParamTree → ExprTree → TypeTree → Type 0
  Gives vars e t = (type_in (scope_in ds vars) e ≡ Some t) × QuietInside (scope_in ds vars) e

  abbrev pub ValueGiven : List ParamTree → TypeTree → Option ExprTree → Type 0
  ValueGiven vars t None = has_default t ≡ true
  ValueGiven vars t (Some e) = Gives vars e t

  -- a value of the result's type is returned, and none by a void actor
  abbrev pub ResultGiven : List ParamTree → TypeTree → Option ExprTree → Type 0
  ResultGiven vars t None = is_nothing t ≡ true
  ResultGiven vars t (Some e) = Yields (records_in ds) (functions_in ds) (actors_in ds) vars e t

  -- Each statement of an actor's body, where the actor gives this type, is well typed over the variables in force, in a loop
  -- or not, and with the variable of the innermost catch around it.
  abbrev mutual
    pub StandsWell : TypeTree → Bool → Option (List ℕ) → List ParamTree → Body → Type 0
    StandsWell r loop c vars End = Unit {0}
    StandsWell r loop c vars (BlockStmt at b k) = StandsWell r loop c vars b × StandsWell r loop c vars k
    StandsWell r loop c vars (IfStmt at e b k) =
        Yields (records_in ds) (functions_in ds) (actors_in ds) vars e BoolType
        × StandsWell r loop c vars b
        × StandsWell r loop c vars k
    StandsWell r loop c vars (IfElseStmt at e b d k) =
        Yields (records_in ds) (functions_in ds) (actors_in ds) vars e BoolType
        × StandsWell r loop c vars b
        × StandsWell r loop c vars d
        × StandsWell r loop c vars k
    StandsWell r loop c vars (WhileStmt at e b k) =
        Yields (records_in ds) (functions_in ds) (actors_in ds) vars e BoolType
        × StandsWell r true c vars b
        × StandsWell r loop c vars k
    StandsWell r loop c vars (ForStmt at i e t b k) =
        StandsWell r false c vars i
        × MaybeYields (records_in ds) (functions_in ds) (actors_in ds) (vars ++ declared_in i) e BoolType
        × StandsWell r false c (vars ++ declared_in i) t
        × StandsWell r true c (vars ++ declared_in i) b
        × StandsWell r loop c vars k
    StandsWell r loop c vars (LoopStmt at b k) = StandsWell r true c vars b × StandsWell r loop c vars k
    StandsWell r loop c vars (BreakStmt at k) = (loop ≡ true) × StandsWell r loop c vars k
    StandsWell r loop c vars (ContinueStmt at k) = (loop ≡ true) × StandsWell r loop c vars k
    StandsWell r loop c vars (ReturnStmt at e k) = ResultGiven vars r e × StandsWell r loop c vars k
    StandsWell r loop c vars (ThrowStmt at e k) =
        ThrowFits (records_in ds) (functions_in ds) (actors_in ds) vars c e × StandsWell r loop c vars k
    StandsWell r loop c vars (TryStmt at b q x h k) =
        StandsWell r loop c vars b
        × StandsWell r loop (Some x.name) (vars ++ record { ty = ErrorType; name = x } ∷ []) h
        × StandsWell r loop c vars k
    StandsWell r loop c vars (ChooseStmt at bs k) = StandWell r loop c vars bs × StandsWell r loop c vars k
    StandsWell r loop c vars (DeclareStmt at i e k) = ValueGiven vars i.ty e × StandsWell r loop c (vars ++ into_param i ∷ []) k
    StandsWell r loop c vars (AssignStmt at xs e k) =
        ((t : TypeTree) × (path_type (records_in ds) vars xs ≡ Some t) × Gives vars e t) × StandsWell r loop c vars k
    StandsWell r loop c vars (ModifyStmt at xs d k) =
        ((t : TypeTree) × (path_type (records_in ds) vars xs ≡ Some t)
        × ChangeFits (records_in ds) (functions_in ds) (actors_in ds) vars d t)
        × StandsWell r loop c vars k
    StandsWell r loop c vars (CallStmt at xs es k) = CallStands ds vars xs es × StandsWell r loop c vars k
    StandsWell r loop c vars (WaitStmt at w k) =
        Gives vars w.operand (wait_type w.next w.into) × StandsWell r loop c (waited_params vars w.into) k

    pub StandWell : TypeTree → Bool → Option (List ℕ) → List ParamTree → Branches → Type 0
    StandWell r loop c vars NoBranches = Unit {0}
    StandWell r loop c vars (MoreBranches at w b bs) =
        Gives vars w.operand (wait_type w.next w.into)
        × StandsWell r loop c (waited_params vars w.into) b
        × StandWell r loop c vars bs

  -- an actor fits: its statements over its parameters do, and the control graph doesn't lead to its end, unless it is void
  abbrev pub ActorFits : RoutineTree → Type 0
  ActorFits a = StandsWell a.returns false None a.params a.body × (is_nothing a.returns ≡ false → (ways a.body).end ≡ false)

  abbrev pub ActorsFit : Type 0
  ActorsFit = (k : ℕ) (a : RoutineTree) → slice_get (actors_in ds) k ≡ Some a → ActorFits a
