-- The grammar of statements. A rule says of which tokens a statement consists, and which parts begin
-- with each: numbers of statements and of state variables go on from one part to the next.
use Rattle.std.specs.Prelude.{◌≡◌, ℕ, suc, Bool, true, false, List, [], ◌∷◌, ◌++◌}
use Rattle.std.specs.declared.option.Option.{Option}
use Rattle.std.specs.declared.option.Option.TheVariants.{None, Some}
use Rattle.flow_base.specs.declared.place.Place.{Place}
use Rattle.flow_tree.specs.declared.token.Word.TheVariants as word
use Rattle.flow_tree.specs.declared.token.Sign.TheVariants as sign
use Rattle.flow_tree.specs.declared.token.Token.TheVariants as token
use Rattle.flow_tree.specs.declared.ty.Ident.{Ident}
use Rattle.flow_tree.specs.declared.decl.RoutineKind.{RoutineKind}
use Rattle.flow_tree.specs.declared.decl.RoutineKind.TheVariants.{Actor, Function, OldFunction}
use Rattle.flow_tree.specs.Tree.{TypeTree, ExprTree, ExprTrees}
use Rattle.flow_tree.specs.Body.{IntoTree, WaitTree, PlusChange, MinusChange, UpChange, DownChange, Body, End, BlockStmt, IfStmt, IfElseStmt, WhileStmt, ForStmt, LoopStmt, BreakStmt, ContinueStmt, ReturnStmt, ThrowStmt, TryStmt, ChooseStmt, DeclareStmt, AssignStmt, ModifyStmt, CallStmt, WaitStmt, Branches, NoBranches, MoreBranches}
use Rattle.flow_tree.specs.GrammarToken.{Part, Statement, Node, Variable, Branch, Marked, opens, begin}
use Rattle.flow_tree.specs.Grammar.{sign_at, word_at, name_at, in_round, in_curly, TypeRule, ExprRule, ArgsRule}

-- how many statements, and how many parameters and state variables, have begun in a routine
pub record Counts : Type 0 where
  pub statements : ℕ
  pub variables : ℕ

abbrev pub one_statement : Counts → Counts
one_statement c = record { statements = suc c.statements; variables = c.variables }

-- `return;` stands in each routine but a function of a class text of version 1
abbrev pub has_bare_return : RoutineKind → Bool
has_bare_return Actor = true
has_bare_return Function = true
has_bare_return OldFunction = false

-- in an actor a state variable counts, in a function it doesn't
abbrev pub one_state : RoutineKind → Counts → Counts
one_state Actor c = record { statements = c.statements; variables = suc c.variables }
one_state Function c = c
one_state OldFunction c = c

abbrev pub state_parts : RoutineKind → Counts → List Part
state_parts Actor c = Variable (suc c.variables) ∷ []
state_parts Function c = []
state_parts OldFunction c = []

-- a statement begins with the first of these tokens
abbrev pub begin_statement : Counts → ℕ → List Marked → List Marked
begin_statement c d xs = begin (Statement (suc c.statements)) (begin (Node d) xs)

-- the first of these tokens stands here
abbrev pub StartsAt : List Marked → Place → Type 0
StartsAt [] p = ⊥
StartsAt (x ∷ xs) p = x.spot.at ≡ p

-- the word `state`, or nothing
pub data StateRule : RoutineKind → Counts → Counts → List Marked → Bool → Type 0 where
  no_state : {home : RoutineKind} {c : Counts} → StateRule home c c [] false
  some_state : {home : RoutineKind} {c : Counts} (p : Place)
      → StateRule home c (one_state home c) (opens (state_parts home c) (token.Word word.State) p ∷ []) true

-- [ "state" ] type name
pub data IntoRule : RoutineKind → ℕ → Counts → Counts → List Marked → IntoTree → Type 0 where
  declared : {home : RoutineKind} {d : ℕ} {c c' : Counts} {s : Bool} {t : TypeTree} {all : List Marked}
      (x : Ident) (kept of : List Marked)
      → StateRule home c c' kept s → TypeRule d of t
      → all ≡ kept ++ (of ++ name_at x ∷ [])
      → IntoRule home d c c' all (record { state = s; ty = t; name = x })

-- ( "wait" | "waitNext" ) "(" expr ")"
pub data OperandRule : ℕ → List Marked → Bool → ExprTree → Type 0 where
  wait : {d : ℕ} {e : ExprTree} {all : List Marked} (p q r : Place) (of : List Marked)
      → ExprRule 0 (suc d) of e
      → all ≡ word_at word.Wait p ∷ in_round q of r []
      → OperandRule d all false e
  wait_next : {d : ℕ} {e : ExprTree} {all : List Marked} (p q r : Place) (of : List Marked)
      → ExprRule 0 (suc d) of e
      → all ≡ word_at word.WaitNext p ∷ in_round q of r []
      → OperandRule d all true e

-- [ [ "state" ] type name "=" ] ( "wait" | "waitNext" ) "(" expr ")"
pub data WaitingRule : RoutineKind → ℕ → Counts → Counts → List Marked → WaitTree → Type 0 where
  plain_wait : {home : RoutineKind} {d : ℕ} {c : Counts} {next : Bool} {e : ExprTree} {all : List Marked}
      → OperandRule d all next e
      → WaitingRule home d c c all (record { into = None; next = next; operand = e })
  into_wait : {home : RoutineKind} {d : ℕ} {c c' : Counts} {i : IntoTree} {next : Bool} {e : ExprTree} {all : List Marked}
      (p : Place) (left right : List Marked)
      → IntoRule home d c c' left i → OperandRule d right next e
      → all ≡ left ++ (sign_at sign.Assign p ∷ right)
      → WaitingRule home d c c' all (record { into = Some i; next = next; operand = e })

-- name { "." name }
pub data PathRule : List Marked → List Ident → Type 0 where
  last_name : (x : Ident) → PathRule (name_at x ∷ []) (x ∷ [])
  more_names : {xs : List Ident} {all : List Marked} (x : Ident) (p : Place) (more : List Marked)
      → PathRule more xs
      → all ≡ name_at x ∷ sign_at sign.Dot p ∷ more
      → PathRule all (x ∷ xs)

-- a change of a variable: path ( "=" | "+=" | "-=" ) expr | path ( "++" | "--" ), put before a body
pub data AssignRule : ℕ → List Marked → Place → Body → Body → Type 0 where
  assign : {d : ℕ} {rest : Body} {xs : List Ident} {e : ExprTree} {all : List Marked} (at p : Place) (path value : List Marked)
      → PathRule path xs → ExprRule 0 (suc d) value e
      → all ≡ path ++ (sign_at sign.Assign p ∷ value)
      → StartsAt all at → AssignRule d all at rest (AssignStmt at xs e rest)
  plus : {d : ℕ} {rest : Body} {xs : List Ident} {e : ExprTree} {all : List Marked} (at p : Place) (path value : List Marked)
      → PathRule path xs → ExprRule 0 (suc d) value e
      → all ≡ path ++ (sign_at sign.PlusAssign p ∷ value)
      → StartsAt all at → AssignRule d all at rest (ModifyStmt at xs (PlusChange e) rest)
  minus : {d : ℕ} {rest : Body} {xs : List Ident} {e : ExprTree} {all : List Marked} (at p : Place) (path value : List Marked)
      → PathRule path xs → ExprRule 0 (suc d) value e
      → all ≡ path ++ (sign_at sign.MinusAssign p ∷ value)
      → StartsAt all at → AssignRule d all at rest (ModifyStmt at xs (MinusChange e) rest)
  up : {d : ℕ} {rest : Body} {xs : List Ident} {all : List Marked} (at p : Place) (path : List Marked)
      → PathRule path xs
      → all ≡ path ++ (sign_at sign.PlusPlus p ∷ [])
      → StartsAt all at → AssignRule d all at rest (ModifyStmt at xs UpChange rest)
  down : {d : ℕ} {rest : Body} {xs : List Ident} {all : List Marked} (at p : Place) (path : List Marked)
      → PathRule path xs
      → all ≡ path ++ (sign_at sign.MinusMinus p ∷ [])
      → StartsAt all at → AssignRule d all at rest (ModifyStmt at xs DownChange rest)

-- init: a declaration with a value or without one, or a change, put before a body
pub data InitRule : RoutineKind → ℕ → Counts → Counts → List Marked → Place → Body → Body → Type 0 where
  declare : {home : RoutineKind} {d : ℕ} {c c' : Counts} {rest : Body} {i : IntoTree} {all : List Marked} (at : Place)
      → IntoRule home d c c' all i
      → StartsAt all at → InitRule home d c c' all at rest (DeclareStmt at i None rest)
  declare_value : {home : RoutineKind} {d : ℕ} {c c' : Counts} {rest : Body} {i : IntoTree} {e : ExprTree} {all : List Marked}
      (at p : Place) (left value : List Marked)
      → IntoRule home d c c' left i → ExprRule 0 (suc d) value e
      → all ≡ left ++ (sign_at sign.Assign p ∷ value)
      → StartsAt all at → InitRule home d c c' all at rest (DeclareStmt at i (Some e) rest)
  change : {home : RoutineKind} {d : ℕ} {c : Counts} {rest body : Body} {all : List Marked} (at : Place)
      → AssignRule d all at rest body
      → InitRule home d c c all at rest body

-- the init and the step of a `for`, each a statement by itself, or absent
pub data InitPart : RoutineKind → ℕ → Counts → Counts → List Marked → Body → Type 0 where
  no_init : {home : RoutineKind} {d : ℕ} {c : Counts} → InitPart home d c c [] End
  some_init : {home : RoutineKind} {d : ℕ} {c c' : Counts} {body : Body} {all : List Marked} (at : Place) (xs : List Marked)
      → InitRule home d (one_statement c) c' xs at End body
      → all ≡ begin_statement c d xs
      → InitPart home d c c' all body

pub data StepPart : ℕ → Counts → Counts → List Marked → Body → Type 0 where
  no_step : {d : ℕ} {c : Counts} → StepPart d c c [] End
  some_step : {d : ℕ} {c : Counts} {body : Body} {all : List Marked} (at : Place) (xs : List Marked)
      → AssignRule d xs at End body
      → all ≡ begin_statement c d xs
      → StepPart d c (one_statement c) all body

-- an expression, or nothing
pub data MaybeExprRule : ℕ → List Marked → Option ExprTree → Type 0 where
  no_expr : {d : ℕ} → MaybeExprRule d [] None
  some_expr : {d : ℕ} {e : ExprTree} {all : List Marked} → ExprRule 0 d all e → MaybeExprRule d all (Some e)

-- what a `return` gives: [ expr ], where it may be absent
pub data ReturnedRule : RoutineKind → ℕ → List Marked → Option ExprTree → Type 0 where
  nothing : {home : RoutineKind} {d : ℕ} → has_bare_return home ≡ true → ReturnedRule home d [] None
  something : {home : RoutineKind} {d : ℕ} {e : ExprTree} {all : List Marked} → ExprRule 0 d all e → ReturnedRule home d all (Some e)

-- Statements. The first argument says in what routine they stand, then come the depth and the
-- counts before and after. A rule puts its statement before a body. The last argument says whether
-- the tokens end in an `if` that has no `else`: an `else` belongs to the nearest such `if`.
mutual
  -- a statement that is no block
  pub data PlainRule : RoutineKind → ℕ → Counts → Counts → List Marked → Place → Body → Body → Bool → Type 0 where
    -- "if" "(" expr ")" stmt
    if_stmt : {home : RoutineKind} {d : ℕ} {c c' : Counts} {rest body1 : Body} {e : ExprTree} {ends_if : Bool} {all : List Marked}
        (at p q : Place) (test body : List Marked)
        → ExprRule 0 (suc d) test e → BodyRule home (suc d) c c' body body1 ends_if
        → all ≡ word_at word.If at ∷ in_round p test q body
        → PlainRule home d c c' all at rest (IfStmt at e body1 rest) true
    -- "if" "(" expr ")" stmt "else" stmt
    if_else_stmt : {home : RoutineKind} {d : ℕ} {c c1 c' : Counts} {rest body1 body2 : Body} {e : ExprTree} {ends_if : Bool}
        {all : List Marked}
        (at p q r : Place) (test body other : List Marked)
        → ExprRule 0 (suc d) test e → BodyRule home (suc d) c c1 body body1 false → BodyRule home (suc d) c1 c' other body2 ends_if
        → all ≡ word_at word.If at ∷ in_round p test q (body ++ (word_at word.Else r ∷ other))
        → PlainRule home d c c' all at rest (IfElseStmt at e body1 body2 rest) ends_if
    -- "while" "(" expr ")" stmt
    while_stmt : {home : RoutineKind} {d : ℕ} {c c' : Counts} {rest inner : Body} {e : ExprTree} {ends_if : Bool} {all : List Marked}
        (at p q : Place) (test body : List Marked)
        → ExprRule 0 (suc d) test e → BodyRule home (suc d) c c' body inner ends_if
        → all ≡ word_at word.While at ∷ in_round p test q body
        → PlainRule home d c c' all at rest (WhileStmt at e inner rest) ends_if
    -- "for" "(" [ init ] ";" [ expr ] ";" [ assign ] ")" stmt
    for_stmt : {home : RoutineKind} {d : ℕ} {c c1 c2 c' : Counts} {rest start next inner : Body} {e : Option ExprTree} {ends_if : Bool}
        {all : List Marked} (at p q r s : Place) (init test step body : List Marked)
        → InitPart home (suc d) c c1 init start → MaybeExprRule (suc d) test e → StepPart (suc d) c1 c2 step next
        → BodyRule home (suc d) c2 c' body inner ends_if
        → all ≡ word_at word.For at ∷ sign_at sign.OpenRound p ∷ (init ++ (sign_at sign.Semicolon q
        ∷ (test ++ (sign_at sign.Semicolon r ∷ (step ++ (sign_at sign.CloseRound s ∷ body))))))
        → PlainRule home d c c' all at rest (ForStmt at start e next inner rest) ends_if
    -- "loop" stmt
    loop_stmt : {home : RoutineKind} {d : ℕ} {c c' : Counts} {rest inner : Body} {ends_if : Bool} {all : List Marked}
        (at : Place) (body : List Marked)
        → BodyRule home (suc d) c c' body inner ends_if
        → all ≡ word_at word.Loop at ∷ body
        → PlainRule home d c c' all at rest (LoopStmt at inner rest) ends_if
    -- "break" ";" and "continue" ";"
    break_stmt : {home : RoutineKind} {d : ℕ} {c : Counts} {rest : Body} (at p : Place)
        → PlainRule home d c c (word_at word.Break at ∷ sign_at sign.Semicolon p ∷ []) at rest (BreakStmt at rest) false
    continue_stmt : {home : RoutineKind} {d : ℕ} {c : Counts} {rest : Body} (at p : Place)
        → PlainRule home d c c (word_at word.Continue at ∷ sign_at sign.Semicolon p ∷ []) at rest (ContinueStmt at rest) false
    -- "return" [ expr ] ";"
    return_stmt : {home : RoutineKind} {d : ℕ} {c : Counts} {rest : Body} {e : Option ExprTree} {all : List Marked}
        (at p : Place) (value : List Marked)
        → ReturnedRule home (suc d) value e
        → all ≡ word_at word.Return at ∷ (value ++ sign_at sign.Semicolon p ∷ [])
        → PlainRule home d c c all at rest (ReturnStmt at e rest) false
    -- "throw" [ expr ] ";"
    throw_stmt : {home : RoutineKind} {d : ℕ} {c : Counts} {rest : Body} {e : Option ExprTree} {all : List Marked}
        (at p : Place) (value : List Marked)
        → MaybeExprRule (suc d) value e
        → all ≡ word_at word.Throw at ∷ (value ++ sign_at sign.Semicolon p ∷ [])
        → PlainRule home d c c all at rest (ThrowStmt at e rest) false
    -- "try" block "catch" "(" "Error" "&" name ")" block
    try_stmt : {home : RoutineKind} {d : ℕ} {c c1 c' : Counts} {rest inner handler : Body} {all : List Marked}
        (at p q r s u : Place) (x : Ident) (body caught : List Marked)
        → BlockRule home (suc d) c c1 body inner → BlockRule home (suc d) c1 c' caught handler
        → all ≡ word_at word.Try at ∷ (body ++ (word_at word.Catch p
        ∷ in_round q (word_at word.Error r ∷ sign_at sign.Amp s ∷ name_at x ∷ []) u caught))
        → PlainRule home d c c' all at rest (TryStmt at inner p x handler rest) false
    -- "choose" "{" when { when } "}"
    choose_stmt : {home : RoutineKind} {d : ℕ} {c c1 c' : Counts} {rest : Body} {b bs : Branches} {all : List Marked}
        (at p q : Place) (first more : List Marked)
        → WhenRule home (suc d) 1 c c1 first bs b → WhensRule home (suc d) 2 c1 c' more bs
        → all ≡ word_at word.Choose at ∷ sign_at sign.OpenCurly p ∷ (first ++ (more ++ sign_at sign.CloseCurly q ∷ []))
        → PlainRule home d c c' all at rest (ChooseStmt at b rest) false
    -- init ";"
    init_stmt : {home : RoutineKind} {d : ℕ} {c c' : Counts} {rest body : Body} {all : List Marked} (at p : Place) (xs : List Marked)
        → InitRule home d c c' xs at rest body
        → all ≡ xs ++ sign_at sign.Semicolon p ∷ []
        → PlainRule home d c c' all at rest body false
    -- waiting ";"
    wait_stmt : {home : RoutineKind} {d : ℕ} {c c' : Counts} {rest : Body} {w : WaitTree} {all : List Marked} (at p : Place)
        (xs : List Marked)
        → WaitingRule home d c c' xs w
        → all ≡ xs ++ sign_at sign.Semicolon p ∷ []
        → StartsAt all at → PlainRule home d c c' all at rest (WaitStmt at w rest) false
    -- path "(" args ")" ";"
    call_stmt : {home : RoutineKind} {d : ℕ} {c : Counts} {rest : Body} {xs : List Ident} {ts : ExprTrees} {all : List Marked}
        (at p q r : Place) (path args : List Marked)
        → PathRule path xs → ArgsRule (suc d) args ts
        → all ≡ path ++ in_round p args q (sign_at sign.Semicolon r ∷ [])
        → StartsAt all at → PlainRule home d c c all at rest (CallStmt at xs ts rest) false

  -- a statement
  pub data StmtRule : RoutineKind → ℕ → Counts → Counts → List Marked → Body → Body → Bool → Type 0 where
    block_stmt : {home : RoutineKind} {d : ℕ} {c c' : Counts} {rest inner : Body} {all : List Marked} (at : Place) (xs : List Marked)
        → BlockRule home (suc d) (one_statement c) c' xs inner → StartsAt xs at
        → all ≡ begin_statement c d xs
        → StmtRule home d c c' all rest (BlockStmt at inner rest) false
    plain_stmt : {home : RoutineKind} {d : ℕ} {c c' : Counts} {rest body : Body} {ends_if : Bool} {all : List Marked}
        (at : Place) (xs : List Marked)
        → PlainRule home d (one_statement c) c' xs at rest body ends_if
        → all ≡ begin_statement c d xs
        → StmtRule home d c c' all rest body ends_if

  -- statements in braces, of this depth
  pub data BlockRule : RoutineKind → ℕ → Counts → Counts → List Marked → Body → Type 0 where
    braces : {home : RoutineKind} {d : ℕ} {c c' : Counts} {body : Body} {all : List Marked} (p q : Place) (xs : List Marked)
        → StmtsRule home d c c' xs body
        → all ≡ in_curly p xs q []
        → BlockRule home d c c' all body

  -- a body: a block gives the list of its statements, another statement a list of one
  pub data BodyRule : RoutineKind → ℕ → Counts → Counts → List Marked → Body → Bool → Type 0 where
    block_body : {home : RoutineKind} {d : ℕ} {c c' : Counts} {body : Body} {all : List Marked}
        → BlockRule home d c c' all body
        → BodyRule home d c c' all body false
    one_body : {home : RoutineKind} {d : ℕ} {c c' : Counts} {body : Body} {ends_if : Bool} {all : List Marked} (at : Place)
        (xs : List Marked)
        → PlainRule home d (one_statement c) c' xs at End body ends_if
        → all ≡ begin_statement c d xs
        → BodyRule home d c c' all body ends_if

  -- statements one after another
  pub data StmtsRule : RoutineKind → ℕ → Counts → Counts → List Marked → Body → Type 0 where
    no_stmts : {home : RoutineKind} {d : ℕ} {c : Counts} → StmtsRule home d c c [] End
    more_stmts : {home : RoutineKind} {d : ℕ} {c c1 c' : Counts} {rest body : Body} {ends_if : Bool} {all : List Marked}
        (first more : List Marked)
        → StmtRule home d c c1 first rest body ends_if → StmtsRule home d c1 c' more rest
        → all ≡ first ++ more
        → StmtsRule home d c c' all body

  -- branches one after another; the number is that of the first
  pub data WhensRule : RoutineKind → ℕ → ℕ → Counts → Counts → List Marked → Branches → Type 0 where
    no_whens : {home : RoutineKind} {d n : ℕ} {c : Counts} → WhensRule home d n c c [] NoBranches
    more_whens : {home : RoutineKind} {d n : ℕ} {c c1 c' : Counts} {b bs : Branches} {all : List Marked} (first more : List Marked)
        → WhenRule home d n c c1 first bs b → WhensRule home d (suc n) c1 c' more bs
        → all ≡ first ++ more
        → WhensRule home d n c c' all b

  -- "when" "(" waiting ")" stmt, put before the branches that follow
  pub data WhenRule : RoutineKind → ℕ → ℕ → Counts → Counts → List Marked → Branches → Branches → Type 0 where
    branch : {home : RoutineKind} {d n : ℕ} {c c1 c' : Counts} {bs : Branches} {w : WaitTree} {inner : Body} {ends_if : Bool}
        {all : List Marked}
        (at p q : Place) (xs body : List Marked)
        → WaitingRule home d c c1 xs w → BodyRule home (suc d) c1 c' body inner ends_if
        → all ≡ opens (Branch n ∷ Node d ∷ []) (token.Word word.When) at ∷ in_round p xs q body
        → WhenRule home d n c c' all bs (MoreBranches at w inner bs)
