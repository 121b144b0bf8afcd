-- Walks over a body and over an expression: from one thing that holds of each statement to another, and from one fold to another.
use Rattle.std.proofs.Common.{List, [], ◌++◌}
use Rattle.flow_base.specs.declared.place.Place.{Place}
use Rattle.flow_tree.specs.declared.ty.Ident.{Ident}
use Rattle.flow_tree.specs.Tree.{ExprTree, ExprTrees, IntExpr, TextExpr, BoolExpr, VoidExpr, VarExpr, CallExpr, FieldExpr, MethodExpr, NotExpr, NegExpr, BinaryExpr, ParenExpr, NoExprs, MoreExprs}
use Rattle.flow_tree.specs.Body.{WaitTree, Body, End, BlockStmt, IfStmt, IfElseStmt, WhileStmt, ForStmt, LoopStmt, BreakStmt, ContinueStmt, ReturnStmt, ThrowStmt, TryStmt, ChooseStmt, DeclareStmt, AssignStmt, ModifyStmt, CallStmt, WaitStmt, Branches, NoBranches, MoreBranches}
use Rattle.flow_tree.specs.Folds.{EachStmt, EachBranch, Fold, folded, folded_branches, names_listed, all_names_listed}

-- what holds of a statement wherever P does holds of each statement where P holds of each
module _ (P Q : Body → Type 0) (f : (s : Body) → P s → Q s) where
  mutual
    pub each_follows : (b : Body) → EachStmt P b → EachStmt Q b
    each_follows End h = tt
    each_follows (BlockStmt at b k) h = (f (BlockStmt at b k) h.0, each_follows b h.1, each_follows k h.2)
    each_follows (IfStmt at e b k) h = (f (IfStmt at e b k) h.0, each_follows b h.1, each_follows k h.2)
    each_follows (IfElseStmt at e b c k) h = (f (IfElseStmt at e b c k) h.0, each_follows b h.1, each_follows c h.2, each_follows k h.3)
    each_follows (WhileStmt at e b k) h = (f (WhileStmt at e b k) h.0, each_follows b h.1, each_follows k h.2)
    each_follows (ForStmt at i e t b k) h = (f (ForStmt at i e t b k) h.0, each_follows i h.1, each_follows t h.2, each_follows b h.3, each_follows k h.4)
    each_follows (LoopStmt at b k) h = (f (LoopStmt at b k) h.0, each_follows b h.1, each_follows k h.2)
    each_follows (BreakStmt at k) h = (f (BreakStmt at k) h.0, each_follows k h.1)
    each_follows (ContinueStmt at k) h = (f (ContinueStmt at k) h.0, each_follows k h.1)
    each_follows (ReturnStmt at e k) h = (f (ReturnStmt at e k) h.0, each_follows k h.1)
    each_follows (ThrowStmt at e k) h = (f (ThrowStmt at e k) h.0, each_follows k h.1)
    each_follows (TryStmt at b q x c k) h = (f (TryStmt at b q x c k) h.0, each_follows b h.1, each_follows c h.2, each_follows k h.3)
    each_follows (ChooseStmt at bs k) h = (f (ChooseStmt at bs k) h.0, branches_follow bs h.1, each_follows k h.2)
    each_follows (DeclareStmt at i e k) h = (f (DeclareStmt at i e k) h.0, each_follows k h.1)
    each_follows (AssignStmt at xs e k) h = (f (AssignStmt at xs e k) h.0, each_follows k h.1)
    each_follows (ModifyStmt at xs c k) h = (f (ModifyStmt at xs c k) h.0, each_follows k h.1)
    each_follows (CallStmt at xs es k) h = (f (CallStmt at xs es k) h.0, each_follows k h.1)
    each_follows (WaitStmt at w k) h = (f (WaitStmt at w k) h.0, each_follows k h.1)

    pub branches_follow : (bs : Branches) → EachBranch P bs → EachBranch Q bs
    branches_follow NoBranches h = tt
    branches_follow (MoreBranches at w b bs) h = (f (WaitStmt at w b) h.0, each_follows b h.1, branches_follow bs h.2)

-- two folds agree by Rel where P holds of each statement
pub record Agree {R S : Type 0} (Rel : R → S → Type 0) (P : Body → Type 0) (f : Fold R) (g : Fold S) : Type 0 where
  pub nothing : Rel f.nothing g.nothing
  pub both : (a b : R) (c d : S) → Rel a c → Rel b d → Rel (f.both a b) (g.both c d)
  pub of_stmt : (s : Body) (a : R) (b : S) → P s → Rel a b → Rel (f.of_stmt s a) (g.of_stmt s b)
  pub of_catch : (x : Ident) (a : R) (b : S) → Rel a b → Rel (f.of_catch x a) (g.of_catch x b)
  pub of_wait : (at : Place) (w : WaitTree) (k : Body) (a : R) (b : S) → P (WaitStmt at w k) → Rel a b → Rel (f.of_wait w a) (g.of_wait w b)

module _ {R S : Type 0} (Rel : R → S → Type 0) (P : Body → Type 0) (f : Fold R) (g : Fold S) (m : Agree Rel P f g) where
  mutual
    pub folds_agree : (b : Body) → EachStmt P b → Rel (folded f b) (folded g b)
    folds_agree End h = m.nothing
    folds_agree (BlockStmt at b k) h = m.of_stmt (BlockStmt at b k) _ _ h.0 (m.both _ _ _ _ (folds_agree b h.1) (folds_agree k h.2))
    folds_agree (IfStmt at e b k) h = m.of_stmt (IfStmt at e b k) _ _ h.0 (m.both _ _ _ _ (folds_agree b h.1) (folds_agree k h.2))
    folds_agree (IfElseStmt at e b c k) h =
        m.of_stmt (IfElseStmt at e b c k) _ _ h.0 (m.both _ _ _ _ (m.both _ _ _ _ (folds_agree b h.1) (folds_agree c h.2)) (folds_agree k h.3))
    folds_agree (WhileStmt at e b k) h = m.of_stmt (WhileStmt at e b k) _ _ h.0 (m.both _ _ _ _ (folds_agree b h.1) (folds_agree k h.2))
    folds_agree (ForStmt at i e t b k) h =
        m.of_stmt (ForStmt at i e t b k) _ _ h.0
        (m.both _ _ _ _ (m.both _ _ _ _ (m.both _ _ _ _ (folds_agree i h.1) (folds_agree t h.2)) (folds_agree b h.3)) (folds_agree k h.4))
    folds_agree (LoopStmt at b k) h = m.of_stmt (LoopStmt at b k) _ _ h.0 (m.both _ _ _ _ (folds_agree b h.1) (folds_agree k h.2))
    folds_agree (BreakStmt at k) h = m.of_stmt (BreakStmt at k) _ _ h.0 (folds_agree k h.1)
    folds_agree (ContinueStmt at k) h = m.of_stmt (ContinueStmt at k) _ _ h.0 (folds_agree k h.1)
    folds_agree (ReturnStmt at e k) h = m.of_stmt (ReturnStmt at e k) _ _ h.0 (folds_agree k h.1)
    folds_agree (ThrowStmt at e k) h = m.of_stmt (ThrowStmt at e k) _ _ h.0 (folds_agree k h.1)
    folds_agree (TryStmt at b q x c k) h =
        m.of_stmt (TryStmt at b q x c k) _ _ h.0
        (m.both _ _ _ _ (m.both _ _ _ _ (folds_agree b h.1) (m.of_catch x _ _ (folds_agree c h.2))) (folds_agree k h.3))
    folds_agree (ChooseStmt at bs k) h = m.of_stmt (ChooseStmt at bs k) _ _ h.0 (m.both _ _ _ _ (branches_agree bs h.1) (folds_agree k h.2))
    folds_agree (DeclareStmt at i e k) h = m.of_stmt (DeclareStmt at i e k) _ _ h.0 (folds_agree k h.1)
    folds_agree (AssignStmt at xs e k) h = m.of_stmt (AssignStmt at xs e k) _ _ h.0 (folds_agree k h.1)
    folds_agree (ModifyStmt at xs c k) h = m.of_stmt (ModifyStmt at xs c k) _ _ h.0 (folds_agree k h.1)
    folds_agree (CallStmt at xs es k) h = m.of_stmt (CallStmt at xs es k) _ _ h.0 (folds_agree k h.1)
    folds_agree (WaitStmt at w k) h = m.of_stmt (WaitStmt at w k) _ _ h.0 (folds_agree k h.1)

    pub branches_agree : (bs : Branches) → EachBranch P bs → Rel (folded_branches f bs) (folded_branches g bs)
    branches_agree NoBranches h = m.nothing
    branches_agree (MoreBranches at w b bs) h =
        m.both _ _ _ _ (m.of_wait at w b _ _ h.0 (folds_agree b h.1)) (branches_agree bs h.2)

-- what holds of any statement holds of each
module _ (P : Body → Type 0) (f : (s : Body) → P s) where
  mutual
    pub each_holds : (b : Body) → EachStmt P b
    each_holds End = tt
    each_holds (BlockStmt at b k) = (f (BlockStmt at b k), each_holds b, each_holds k)
    each_holds (IfStmt at e b k) = (f (IfStmt at e b k), each_holds b, each_holds k)
    each_holds (IfElseStmt at e b c k) = (f (IfElseStmt at e b c k), each_holds b, each_holds c, each_holds k)
    each_holds (WhileStmt at e b k) = (f (WhileStmt at e b k), each_holds b, each_holds k)
    each_holds (ForStmt at i e t b k) = (f (ForStmt at i e t b k), each_holds i, each_holds t, each_holds b, each_holds k)
    each_holds (LoopStmt at b k) = (f (LoopStmt at b k), each_holds b, each_holds k)
    each_holds (BreakStmt at k) = (f (BreakStmt at k), each_holds k)
    each_holds (ContinueStmt at k) = (f (ContinueStmt at k), each_holds k)
    each_holds (ReturnStmt at e k) = (f (ReturnStmt at e k), each_holds k)
    each_holds (ThrowStmt at e k) = (f (ThrowStmt at e k), each_holds k)
    each_holds (TryStmt at b q x c k) = (f (TryStmt at b q x c k), each_holds b, each_holds c, each_holds k)
    each_holds (ChooseStmt at bs k) = (f (ChooseStmt at bs k), branches_hold bs, each_holds k)
    each_holds (DeclareStmt at i e k) = (f (DeclareStmt at i e k), each_holds k)
    each_holds (AssignStmt at xs e k) = (f (AssignStmt at xs e k), each_holds k)
    each_holds (ModifyStmt at xs c k) = (f (ModifyStmt at xs c k), each_holds k)
    each_holds (CallStmt at xs es k) = (f (CallStmt at xs es k), each_holds k)
    each_holds (WaitStmt at w k) = (f (WaitStmt at w k), each_holds k)

    pub branches_hold : (bs : Branches) → EachBranch P bs
    branches_hold NoBranches = tt
    branches_hold (MoreBranches at w b bs) = (f (WaitStmt at w b), each_holds b, branches_hold bs)

-- two folds that agree whatever the statements are
module _ {R S : Type 0} (Rel : R → S → Type 0) (f : Fold R) (g : Fold S) (m : Agree Rel (λ s. Unit {0}) f g) where
  pub folds_alike : (b : Body) → Rel (folded f b) (folded g b)
  folds_alike b = folds_agree Rel (λ s. Unit {0}) f g m b (each_holds (λ s. Unit {0}) (λ s. tt) b)

  pub branches_alike : (bs : Branches) → Rel (folded_branches f bs) (folded_branches g bs)
  branches_alike bs = branches_agree Rel (λ s. Unit {0}) f g m bs (branches_hold (λ s. Unit {0}) (λ s. tt) bs)

-- what names give by f and by g in an expression agrees where it does of each name
module _ {A B : Type 0} (Rel : List A → List B → Type 0) (f : Ident → List A) (g : Ident → List B) (nothing : Rel [] []) (one : (x : Ident) → Rel (f x) (g x))
    (both : (us vs : List A) (ws xs : List B) → Rel us ws → Rel vs xs → Rel (us ++ vs) (ws ++ xs)) where
  mutual
    pub names_agree : (e : ExprTree) → Rel (names_listed f e) (names_listed g e)
    names_agree (IntExpr n) = nothing
    names_agree (TextExpr t) = nothing
    names_agree (BoolExpr b) = nothing
    names_agree VoidExpr = nothing
    names_agree (VarExpr x) = one x
    names_agree (CallExpr h es) = all_names_agree es
    names_agree (FieldExpr e x) = names_agree e
    names_agree (MethodExpr e m es) = both _ _ _ _ (names_agree e) (all_names_agree es)
    names_agree (NotExpr e) = names_agree e
    names_agree (NegExpr e) = names_agree e
    names_agree (BinaryExpr op a b) = both _ _ _ _ (names_agree a) (names_agree b)
    names_agree (ParenExpr e) = names_agree e

    pub all_names_agree : (es : ExprTrees) → Rel (all_names_listed f es) (all_names_listed g es)
    all_names_agree NoExprs = nothing
    all_names_agree (MoreExprs e es) = both _ _ _ _ (names_agree e) (all_names_agree es)
