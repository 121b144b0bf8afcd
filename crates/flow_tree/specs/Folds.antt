-- Walks over a body: what holds of each statement, and what statements give one after another, in the order of the text;
-- and over an expression: what its names give.
use Rattle.std.specs.Prelude.{ℕ, ◌+◌, List, [], ◌++◌}
use Rattle.flow_tree.specs.declared.ty.Ident.{Ident}
use Rattle.flow_tree.specs.Tree.{ExprTree, ExprTrees, IntExpr, TextExpr, BoolExpr, VoidExpr, VarExpr, CallExpr, FieldExpr, MethodExpr, NotExpr, NegExpr, BinaryExpr, ParenExpr, NoExprs, MoreExprs}
use Rattle.flow_tree.specs.Body.{WaitTree, Body, End, BlockStmt, IfStmt, IfElseStmt, WhileStmt, ForStmt, LoopStmt, BreakStmt, ContinueStmt, ReturnStmt, ThrowStmt, TryStmt, ChooseStmt, DeclareStmt, AssignStmt, ModifyStmt, CallStmt, WaitStmt, Branches, NoBranches, MoreBranches}

-- P holds of each statement of a body and inside of its statements; it is said of the body that begins with the statement.
-- A branch of a `choose` counts as its wait with its body behind.
module _ (P : Body → Type 0) where
  abbrev mutual
    pub EachStmt : Body → Type 0
    EachStmt End = Unit {0}
    EachStmt (BlockStmt at b k) = P (BlockStmt at b k) × EachStmt b × EachStmt k
    EachStmt (IfStmt at e b k) = P (IfStmt at e b k) × EachStmt b × EachStmt k
    EachStmt (IfElseStmt at e b c k) = P (IfElseStmt at e b c k) × EachStmt b × EachStmt c × EachStmt k
    EachStmt (WhileStmt at e b k) = P (WhileStmt at e b k) × EachStmt b × EachStmt k
    EachStmt (ForStmt at i e t b k) = P (ForStmt at i e t b k) × EachStmt i × EachStmt t × EachStmt b × EachStmt k
    EachStmt (LoopStmt at b k) = P (LoopStmt at b k) × EachStmt b × EachStmt k
    EachStmt (BreakStmt at k) = P (BreakStmt at k) × EachStmt k
    EachStmt (ContinueStmt at k) = P (ContinueStmt at k) × EachStmt k
    EachStmt (ReturnStmt at e k) = P (ReturnStmt at e k) × EachStmt k
    EachStmt (ThrowStmt at e k) = P (ThrowStmt at e k) × EachStmt k
    EachStmt (TryStmt at b q x h k) = P (TryStmt at b q x h k) × EachStmt b × EachStmt h × EachStmt k
    EachStmt (ChooseStmt at bs k) = P (ChooseStmt at bs k) × EachBranch bs × EachStmt k
    EachStmt (DeclareStmt at i e k) = P (DeclareStmt at i e k) × EachStmt k
    EachStmt (AssignStmt at xs e k) = P (AssignStmt at xs e k) × EachStmt k
    EachStmt (ModifyStmt at xs c k) = P (ModifyStmt at xs c k) × EachStmt k
    EachStmt (CallStmt at xs es k) = P (CallStmt at xs es k) × EachStmt k
    EachStmt (WaitStmt at w k) = P (WaitStmt at w k) × EachStmt k

    pub EachBranch : Branches → Type 0
    EachBranch NoBranches = Unit {0}
    EachBranch (MoreBranches at w b bs) = P (WaitStmt at w b) × EachStmt b × EachBranch bs

-- What is put together: what nothing gives, how two parts give one, and what a statement puts before what is inside of it and behind
-- it; besides what the variable of a `catch` puts before its handler, and the wait of a branch before its body.
pub record Fold (R : Type 0) : Type 0 where
  pub nothing : R
  pub both : R → R → R
  pub of_stmt : Body → R → R
  pub of_catch : Ident → R → R
  pub of_wait : WaitTree → R → R

-- what a body gives: each statement first, then what is inside of it, then what is behind it
module _ {R : Type 0} (f : Fold R) where
  abbrev mutual
    pub folded : Body → R
    folded End = f.nothing
    folded (BlockStmt at b k) = f.of_stmt (BlockStmt at b k) (f.both (folded b) (folded k))
    folded (IfStmt at e b k) = f.of_stmt (IfStmt at e b k) (f.both (folded b) (folded k))
    folded (IfElseStmt at e b c k) = f.of_stmt (IfElseStmt at e b c k) (f.both (f.both (folded b) (folded c)) (folded k))
    folded (WhileStmt at e b k) = f.of_stmt (WhileStmt at e b k) (f.both (folded b) (folded k))
    folded (ForStmt at i e t b k) =
        f.of_stmt (ForStmt at i e t b k) (f.both (f.both (f.both (folded i) (folded t)) (folded b)) (folded k))
    folded (LoopStmt at b k) = f.of_stmt (LoopStmt at b k) (f.both (folded b) (folded k))
    folded (BreakStmt at k) = f.of_stmt (BreakStmt at k) (folded k)
    folded (ContinueStmt at k) = f.of_stmt (ContinueStmt at k) (folded k)
    folded (ReturnStmt at e k) = f.of_stmt (ReturnStmt at e k) (folded k)
    folded (ThrowStmt at e k) = f.of_stmt (ThrowStmt at e k) (folded k)
    folded (TryStmt at b q x h k) =
        f.of_stmt (TryStmt at b q x h k) (f.both (f.both (folded b) (f.of_catch x (folded h))) (folded k))
    folded (ChooseStmt at bs k) = f.of_stmt (ChooseStmt at bs k) (f.both (folded_branches bs) (folded k))
    folded (DeclareStmt at i e k) = f.of_stmt (DeclareStmt at i e k) (folded k)
    folded (AssignStmt at xs e k) = f.of_stmt (AssignStmt at xs e k) (folded k)
    folded (ModifyStmt at xs c k) = f.of_stmt (ModifyStmt at xs c k) (folded k)
    folded (CallStmt at xs es k) = f.of_stmt (CallStmt at xs es k) (folded k)
    folded (WaitStmt at w k) = f.of_stmt (WaitStmt at w k) (folded k)

    pub folded_branches : Branches → R
    folded_branches NoBranches = f.nothing
    folded_branches (MoreBranches at w b bs) = f.both (f.of_wait w (folded b)) (folded_branches bs)

-- lists one after another, in the order of the text
abbrev pub listing : {A : Type 0} → (Body → List A) → (Ident → List A) → (WaitTree → List A) → Fold (List A)
listing s c w = record {
  nothing = [];
  both = λ xs ys. xs ++ ys;
  of_stmt = λ b xs. s b ++ xs;
  of_catch = λ x xs. c x ++ xs;
  of_wait = λ t xs. w t ++ xs;
}

-- sums; a statement, a variable and a wait say what they make of the sum that they stand before
abbrev pub counting : (Body → ℕ → ℕ) → (Ident → ℕ → ℕ) → (WaitTree → ℕ → ℕ) → Fold ℕ
counting s c w = record { nothing = 0; both = λ m n. m + n; of_stmt = s; of_catch = c; of_wait = w }

-- what gives nothing
abbrev pub no_items : {A X : Type 0} → X → List A
no_items x = []

-- what the names in an expression give, in the order of the text; what is called, a field and a method give nothing
module _ {A : Type 0} (of_name : Ident → List A) where
  abbrev mutual
    pub names_listed : ExprTree → List A
    names_listed (IntExpr n) = []
    names_listed (TextExpr t) = []
    names_listed (BoolExpr b) = []
    names_listed VoidExpr = []
    names_listed (VarExpr x) = of_name x
    names_listed (CallExpr f es) = all_names_listed es
    names_listed (FieldExpr e x) = names_listed e
    names_listed (MethodExpr e m es) = names_listed e ++ all_names_listed es
    names_listed (NotExpr e) = names_listed e
    names_listed (NegExpr e) = names_listed e
    names_listed (BinaryExpr op a b) = names_listed a ++ names_listed b
    names_listed (ParenExpr e) = names_listed e

    pub all_names_listed : ExprTrees → List A
    all_names_listed NoExprs = []
    all_names_listed (MoreExprs e es) = names_listed e ++ all_names_listed es
