-- Tokens have one meaning as a part of a statement.
use Rattle.std.proofs.Common.{◌≡◌, ℕ, zero, suc, true, false, List, [], ◌∷◌, ◌++◌, length, refl, sym, ap, ◌∙◌, subst, arith, ◌⊎◌, inl, inr}
use Rattle.std.specs.declared.option.Option.{Option}
use Rattle.std.specs.declared.option.Option.TheVariants.{None, Some}
use Rattle.flow_base.specs.declared.place.Place.{Place}
use Rattle.flow_tree.specs.declared.token.Token.{Token}
use Rattle.flow_tree.specs.declared.token.Token.TheVariants as token
use Rattle.flow_tree.specs.declared.token.Word.TheVariants as word
use Rattle.flow_tree.specs.declared.token.Sign.{Sign}
use Rattle.flow_tree.specs.declared.token.Sign.TheVariants as sign
use Rattle.flow_tree.specs.declared.token.Spot.{Spot}
use Rattle.flow_tree.specs.declared.ty.Ident.{Ident}
use Rattle.flow_tree.specs.declared.decl.RoutineKind.{RoutineKind}
use Rattle.flow_tree.specs.Tree.{ExprTree, ExprTrees, NoExprs, MoreExprs}
use Rattle.flow_tree.specs.Body.{IntoTree, PlusChange, MinusChange, UpChange, DownChange, Body, End, DeclareStmt, AssignStmt, ModifyStmt, CallStmt, WaitStmt}
use Rattle.flow_tree.specs.GrammarToken.{Marked, spots_of}
use Rattle.flow_tree.specs.Grammar.{sign_at, name_at, node_name, TypeRule, ExprRule, MoreArgsRule, end_args, more_args}
use Rattle.flow_tree.specs.GrammarStmt.{Counts, one_state, state_parts}
use Rattle.flow_exprs.specs.Machine.{ident}
use Rattle.flow_parse.specs.Openers.{AsFirst, TypeToken, WaitToken}
use Rattle.flow_parse.specs.Reading.{Opening, Tok, Named, Then, Any}
use Rattle.flow_parse.specs.Follow.{ExprEnds, Before, NotBefore}
use Rattle.flow_parse.specs.Parts.{Out, Test, Args, MoreArgs, MoreNames, Placed, StatePart, IntoPart, OperandPart, WaitingPart, ChangeRule, ChangedRule, calls, changes, DeclaredRule, ValuedRule, Unended, Simple, Init, Assignment}
use Rattle.flow_parse.proofs.Shapes.{closed}
use Rattle.flow_parse.proofs.Begins.{starts_looks}
use Rattle.flow_parse.proofs.Narrow.{starts_not, not_before_is, ends_is, before_is, ends_same, before_same}
use Rattle.flow_parse.proofs.SimpleBacks.{test_back, state_back, no_state_back, into_back, type_name_starts, wait_back, wait_next_back, no_wait, plain_wait_back, into_wait_back, dot_back, no_dot_back, end_of_args, first_arg, next_arg, no_more_args, ChangeSign, change_starts, change_back, call_back, no_call_back, value_back, no_value_back, Given, given_back, not_given_back, given_wait_back, given_value_back}
use Rattle.flow_parse.proofs.UnendedBacks.{AnyName, of_name, assignment_back, AfterName, AfterInit, named_value_back, changed_back, named_declared_back, change_init_back, unended_wait, unended_into, unended_name, init_into, init_name, simple_back}
use Rattle.flow_parse.proofs.UniqueExprs.{uniq_expr}
use Rattle.flow_parse.proofs.UniqueTypes.{uniq_type}
use Rattle.flow_parse.proofs.Unique.{Uniq, UniqAt, uniq_by, at_nil, at_none, at_narrow, narrowed, uniq_opening, uniq_name, uniq_placed, seq, seq_tok, same_tok, at_close, at_open, at_comma, at_assign, at_dot, at_state, at_wait, at_name}

-- "(" expr ")"
pub uniq_test : (d k : ℕ) → Uniq k (Test d) Any
uniq_test d k = narrowed (Test d) Any (Then (Tok (token.Sign sign.OpenRound)) (λ p. Then (ExprRule 0 d) (λ e. Tok (token.Sign sign.CloseRound)))) Any (λ x. x.1.0) k (λ w z b r f. test_back z r)
    (same_tok [] (token.Sign sign.OpenRound) (λ p. Then (ExprRule 0 d) (λ e. Tok (token.Sign sign.CloseRound))) Any k
    (λ p. seq (ExprRule 0 d) ExprEnds (λ e. Tok (token.Sign sign.CloseRound)) Any k (λ a b v z r f. ends_is a (sign_at sign.CloseRound b) v [] z r tt) (uniq_expr d k)
    (λ e. uniq_opening [] (token.Sign sign.CloseRound) k)))

pub uniq_state : (home : RoutineKind) (c : Counts) (k : ℕ) → Uniq k (StatePart home c) (NotBefore (token.Word word.State))
uniq_state home c k = uniq_by (StatePart home c) (NotBefore (token.Word word.State)) k (λ o. elim (at_state o) [
  | inl e ↦ subst (λ x. UniqAt x k (StatePart home c) (NotBefore (token.Word word.State))) (sym e)
      (at_narrow (StatePart home c) (NotBefore (token.Word word.State)) (Opening (state_parts home c) (token.Word word.State)) Any (λ p. (true, one_state home c)) k (Some (token.Word word.State))
      (λ w z b r f l. state_back z r f l) (uniq_opening (state_parts home c) (token.Word word.State) k))
  | inr n ↦ at_nil (StatePart home c) (NotBefore (token.Word word.State)) k o (false, c) (λ w z b r f l. no_state_back z o n r l)
])

pub uniq_into : (home : RoutineKind) (d : ℕ) (c : Counts) (k : ℕ) → Uniq k (IntoPart home d c) Any
uniq_into home d c k = narrowed (IntoPart home d c) Any (Then (StatePart home c) (λ s. Then (TypeRule d) (λ y. Named))) Any (λ x. (record { state = x.0.0; ty = x.1.0; name = x.1.1 }, x.0.1)) k
    (λ w z b r f. into_back z r)
    (seq (StatePart home c) (NotBefore (token.Word word.State)) (λ s. Then (TypeRule d) (λ y. Named)) Any k
    (λ a b v z r f. starts_not a TypeToken (token.Word word.State) (λ h. h) v z (type_name_starts r)) (uniq_state home c k)
    (λ s. seq (TypeRule d) Any (λ y. Named) Any k (λ a b v z r f. tt) (uniq_type k d) (λ y. uniq_name k)))

pub which_wait : (o : Option Token) → AsFirst WaitToken o → (o ≡ Some (token.Word word.Wait)) ⊎ (o ≡ Some (token.Word word.WaitNext))
which_wait (Some (token.Word word.Wait)) h = inl refl
which_wait (Some (token.Word word.WaitNext)) h = inr refl
which_wait _ h = absurd h

pub uniq_operand : (d k : ℕ) → Uniq k (OperandPart d) Any
uniq_operand d k = uniq_by (OperandPart d) Any k (λ o. elim (at_wait o) [
  | inl h ↦ elim (which_wait o h) [
    | inl e ↦ subst (λ x. UniqAt x k (OperandPart d) Any) (sym e) (at_narrow (OperandPart d) Any (Then (Tok (token.Word word.Wait)) (λ p. Test (suc d))) Any (λ x. (false, x.1)) k
        (Some (token.Word word.Wait)) (λ w z b r f l. wait_back z r l) (same_tok [] (token.Word word.Wait) (λ p. Test (suc d)) Any k (λ p. uniq_test (suc d) k)))
    | inr e ↦ subst (λ x. UniqAt x k (OperandPart d) Any) (sym e) (at_narrow (OperandPart d) Any (Then (Tok (token.Word word.WaitNext)) (λ p. Test (suc d))) Any (λ x. (true, x.1)) k
        (Some (token.Word word.WaitNext)) (λ w z b r f l. wait_next_back z r l) (same_tok [] (token.Word word.WaitNext) (λ p. Test (suc d)) Any k (λ p. uniq_test (suc d) k)))
  ]
  | inr n ↦ at_none (OperandPart d) Any k o (λ w z b r f l. no_wait z o n r l)
])

pub uniq_waiting : (home : RoutineKind) (d : ℕ) (c : Counts) (k : ℕ) → Uniq k (WaitingPart home d c) Any
uniq_waiting home d c k = uniq_by (WaitingPart home d c) Any k (λ o. elim (at_wait o) [
  | inl h ↦ at_narrow (WaitingPart home d c) Any (OperandPart d) Any (λ y. (record { into = None; next = y.0; operand = y.1 }, c)) k o (λ w z b r f l. plain_wait_back z o h r l) (uniq_operand d k)
  | inr n ↦ at_narrow (WaitingPart home d c) Any (Then (IntoPart home d c) (λ i. Then (Tok (token.Sign sign.Assign)) (λ p. OperandPart d))) Any
      (λ y. (record { into = Some y.0.0; next = y.1.1.0; operand = y.1.1.1 }, y.0.1)) k o (λ w z b r f l. into_wait_back z o n r l)
      (seq (IntoPart home d c) Any (λ i. Then (Tok (token.Sign sign.Assign)) (λ p. OperandPart d)) Any k (λ a b v z r f. tt) (uniq_into home d c k)
      (λ i. same_tok [] (token.Sign sign.Assign) (λ p. OperandPart d) Any k (λ p. uniq_operand d k)))
])

-- names
pub uniq_names : (k : ℕ) (x : Ident) → Uniq k (MoreNames x) (NotBefore (token.Sign sign.Dot))
uniq_names zero x = λ w z v u a b lt r g s h e. absurd (omega arith)
uniq_names (suc k) x = uniq_by (MoreNames x) (NotBefore (token.Sign sign.Dot)) (suc k) (λ o. elim (at_dot o) [
  | inl e ↦ subst (λ y. UniqAt y (suc k) (MoreNames x) (NotBefore (token.Sign sign.Dot))) (sym e)
      (at_narrow (MoreNames x) (NotBefore (token.Sign sign.Dot)) (Then (Tok (token.Sign sign.Dot)) (λ p. Then Named MoreNames)) (λ y. NotBefore (token.Sign sign.Dot) y.1.1) (λ y. x ∷ y.1.1) (suc k)
      (Some (token.Sign sign.Dot)) (λ w z b r f l. dot_back z r f l)
      (seq_tok [] (token.Sign sign.Dot) (λ p. Then Named MoreNames) (λ y. NotBefore (token.Sign sign.Dot) y.1.1) k
      (λ p. seq Named Any MoreNames (λ y. NotBefore (token.Sign sign.Dot) y.1) k (λ a b v z r f. tt) (uniq_name k) (λ y. uniq_names k y))))
  | inr n ↦ at_nil (MoreNames x) (NotBefore (token.Sign sign.Dot)) (suc k) o (x ∷ []) (λ w z b r f l. no_dot_back z o n r l)
])

-- arguments
pub more_args_ends : {d : ℕ} {ts : ExprTrees} (a : ExprTree) (v z : List Marked) → MoreArgs d v ts → ExprEnds a (v ++ z)
more_args_ends a v z r = by_rule a v z r.0 r.1 r.2 r.3
  where
    by_rule : {d : ℕ} {ts : ExprTrees} (a : ExprTree) (v z : List Marked) (q : Place) (of : List Marked) → MoreArgsRule d of ts → v ≡ of ++ sign_at sign.CloseRound q ∷ [] → ExprEnds a (v ++ z)
    by_rule a v z q of end_args e = ends_is a (sign_at sign.CloseRound q) v [] z e tt
    by_rule a v z q of (more_args p next more x m f) e = ends_is a (sign_at sign.Comma p) v ((next ++ more) ++ sign_at sign.CloseRound q ∷ []) z
        (e ∙ ap (λ k. k ++ sign_at sign.CloseRound q ∷ []) f) tt

uniq_more_args : (k d : ℕ) → Uniq k (MoreArgs d) Any
uniq_more_args zero d = λ w z v u a b lt r g s h e. absurd (omega arith)
uniq_more_args (suc k) d = uniq_by (MoreArgs d) Any (suc k) (λ o. elim (at_comma o) [
  | inl e ↦ subst (λ y. UniqAt y (suc k) (MoreArgs d) Any) (sym e)
      (at_narrow (MoreArgs d) Any (Then (Tok (token.Sign sign.Comma)) (λ p. Then (ExprRule 0 d) (λ e. MoreArgs d))) Any (λ x. MoreExprs x.1.0 x.1.1) (suc k) (Some (token.Sign sign.Comma))
      (λ w z b r f l. next_arg z r l)
      (seq_tok [] (token.Sign sign.Comma) (λ p. Then (ExprRule 0 d) (λ e. MoreArgs d)) Any k
      (λ p. seq (ExprRule 0 d) ExprEnds (λ e. MoreArgs d) Any k (λ a b v z r f. more_args_ends a v z r) (uniq_expr d k) (λ e. uniq_more_args k d))))
  | inr n ↦ at_narrow (MoreArgs d) Any (Tok (token.Sign sign.CloseRound)) Any (λ p. NoExprs) (suc k) o (λ w z b r f l. no_more_args z o n r l) (uniq_opening [] (token.Sign sign.CloseRound) (suc k))
])

pub uniq_args : (k d : ℕ) → Uniq k (Args d) Any
uniq_args k d = uniq_by (Args d) Any k (λ o. elim (at_close o) [
  | inl e ↦ subst (λ y. UniqAt y k (Args d) Any) (sym e) (at_narrow (Args d) Any (Tok (token.Sign sign.CloseRound)) Any (λ p. NoExprs) k (Some (token.Sign sign.CloseRound))
      (λ w z b r f l. end_of_args z r l) (uniq_opening [] (token.Sign sign.CloseRound) k))
  | inr n ↦ at_narrow (Args d) Any (Then (ExprRule 0 d) (λ e. MoreArgs d)) Any (λ x. MoreExprs x.0 x.1) k o (λ w z b r f l. first_arg z o n r l)
      (seq (ExprRule 0 d) ExprEnds (λ e. MoreArgs d) Any k (λ a b v z r f. more_args_ends a v z r) (uniq_expr d k) (λ e. uniq_more_args k d))
])

-- changes
module _ (d : ℕ) (at : Place) (xs : List Ident) (k : ℕ) where
  with_value : (s : Sign) → Uniq k (Then (Tok (token.Sign s)) (λ p. ExprRule 0 (suc d))) (λ x. ExprEnds x.1)
  with_value s = same_tok [] (token.Sign s) (λ p. ExprRule 0 (suc d)) (λ x. ExprEnds x.1) k (λ p. uniq_expr (suc d) k)

  by_sign : (s : Sign) → UniqAt (Some (token.Sign s)) k (ChangeRule d at xs) ExprEnds
  by_sign sign.Assign = at_narrow (ChangeRule d at xs) ExprEnds (Then (Tok (token.Sign sign.Assign)) (λ p. ExprRule 0 (suc d))) (λ x. ExprEnds x.1) (λ x. AssignStmt at xs x.1 End) k
      (Some (token.Sign sign.Assign)) (λ w z b r f l. let q = change_back z sign.Assign r l in record { tree = q.tree; rule = q.rule; is = q.is; follows = ends_same b q.tree.1 z f })
      (with_value sign.Assign)
  by_sign sign.PlusAssign = at_narrow (ChangeRule d at xs) ExprEnds (Then (Tok (token.Sign sign.PlusAssign)) (λ p. ExprRule 0 (suc d))) (λ x. ExprEnds x.1)
      (λ x. ModifyStmt at xs (PlusChange x.1) End) k (Some (token.Sign sign.PlusAssign))
      (λ w z b r f l. let q = change_back z sign.PlusAssign r l in record { tree = q.tree; rule = q.rule; is = q.is; follows = ends_same b q.tree.1 z f }) (with_value sign.PlusAssign)
  by_sign sign.MinusAssign = at_narrow (ChangeRule d at xs) ExprEnds (Then (Tok (token.Sign sign.MinusAssign)) (λ p. ExprRule 0 (suc d))) (λ x. ExprEnds x.1)
      (λ x. ModifyStmt at xs (MinusChange x.1) End) k (Some (token.Sign sign.MinusAssign))
      (λ w z b r f l. let q = change_back z sign.MinusAssign r l in record { tree = q.tree; rule = q.rule; is = q.is; follows = ends_same b q.tree.1 z f }) (with_value sign.MinusAssign)
  by_sign sign.PlusPlus = at_narrow (ChangeRule d at xs) ExprEnds (Tok (token.Sign sign.PlusPlus)) Any (λ p. ModifyStmt at xs UpChange End) k (Some (token.Sign sign.PlusPlus))
      (λ w z b r f l. let q = change_back z sign.PlusPlus r l in record { tree = q.tree; rule = q.rule; is = q.is; follows = tt }) (uniq_opening [] (token.Sign sign.PlusPlus) k)
  by_sign sign.MinusMinus = at_narrow (ChangeRule d at xs) ExprEnds (Tok (token.Sign sign.MinusMinus)) Any (λ p. ModifyStmt at xs DownChange End) k (Some (token.Sign sign.MinusMinus))
      (λ w z b r f l. let q = change_back z sign.MinusMinus r l in record { tree = q.tree; rule = q.rule; is = q.is; follows = tt }) (uniq_opening [] (token.Sign sign.MinusMinus) k)
  by_sign s = at_none (ChangeRule d at xs) ExprEnds k (Some (token.Sign s)) (λ w z b r f l. change_back z s r l)

  which_sign : (o : Option Token) → ((s : Sign) × (o ≡ Some (token.Sign s))) ⊎ (AsFirst ChangeSign o → ⊥)
  which_sign (Some (token.Sign s)) = inl (s, refl)
  which_sign _ = inr (λ h. h)

  pub uniq_change : Uniq k (ChangeRule d at xs) ExprEnds
  uniq_change = uniq_by (ChangeRule d at xs) ExprEnds k (λ o. elim (which_sign o) [
    | inl p ↦ subst (λ y. UniqAt y k (ChangeRule d at xs) ExprEnds) (sym p.1) (by_sign p.0)
    | inr n ↦ at_none (ChangeRule d at xs) ExprEnds k o (λ w z b r f l. n (starts_looks ChangeSign w z o (change_starts r) l))
  ])

  pub uniq_changed : Uniq k (ChangedRule d at xs) ExprEnds
  uniq_changed = uniq_by (ChangedRule d at xs) ExprEnds k (λ o. elim (at_open o) [
    | inl e ↦ subst (λ y. UniqAt y k (ChangedRule d at xs) ExprEnds) (sym e)
        (at_narrow (ChangedRule d at xs) ExprEnds (Then (Tok (token.Sign sign.OpenRound)) (λ q. Args (suc d))) Any (λ x. CallStmt at xs x.1 End) k (Some (token.Sign sign.OpenRound))
        (λ w z b r f l. call_back z r l) (same_tok [] (token.Sign sign.OpenRound) (λ q. Args (suc d)) Any k (λ q. uniq_args k (suc d))))
    | inr n ↦ at_narrow (ChangedRule d at xs) ExprEnds (ChangeRule d at xs) ExprEnds (λ b. b) k o (λ w z b r f l. record { tree = b; rule = no_call_back z o n r l; is = refl; follows = f })
        uniq_change
  ])

-- behind a declared variable
module _ (d : ℕ) (at : Place) (i : IntoTree) (k : ℕ) where
  pub uniq_declared : Uniq k (DeclaredRule d at i) (Before (token.Sign sign.Semicolon))
  uniq_declared = uniq_by (DeclaredRule d at i) (Before (token.Sign sign.Semicolon)) k (λ o. elim (at_assign o) [
    | inl e ↦ subst (λ y. UniqAt y k (DeclaredRule d at i) (Before (token.Sign sign.Semicolon))) (sym e)
        (at_narrow (DeclaredRule d at i) (Before (token.Sign sign.Semicolon)) (Then (Tok (token.Sign sign.Assign)) (λ q. ExprRule 0 (suc d))) (λ x. ExprEnds x.1)
        (λ x. DeclareStmt at i (Some x.1) End) k (Some (token.Sign sign.Assign)) (λ w z b r f l. value_back z r f l)
        (same_tok [] (token.Sign sign.Assign) (λ p. ExprRule 0 (suc d)) (λ x. ExprEnds x.1) k (λ p. uniq_expr (suc d) k)))
    | inr n ↦ at_nil (DeclaredRule d at i) (Before (token.Sign sign.Semicolon)) k o (DeclareStmt at i None End) (λ w z b r f l. no_value_back z o n r l)
  ])

  uniq_given : Uniq k (Given d at i) (Before (token.Sign sign.Semicolon))
  uniq_given = uniq_by (Given d at i) (Before (token.Sign sign.Semicolon)) k (λ o. elim (at_wait o) [
    | inl h ↦ at_narrow (Given d at i) (Before (token.Sign sign.Semicolon)) (OperandPart d) Any (λ x. WaitStmt at (record { into = Some i; next = x.0; operand = x.1 }) End) k o
        (λ w z b r f l. given_wait_back z o h r l) (uniq_operand d k)
    | inr n ↦ at_narrow (Given d at i) (Before (token.Sign sign.Semicolon)) (ExprRule 0 (suc d)) ExprEnds (λ e. DeclareStmt at i (Some e) End) k o (λ w z b r f l. given_value_back z o n r f l)
        (uniq_expr (suc d) k)
  ])

  pub uniq_valued : Uniq k (ValuedRule d at i) (Before (token.Sign sign.Semicolon))
  uniq_valued = uniq_by (ValuedRule d at i) (Before (token.Sign sign.Semicolon)) k (λ o. elim (at_assign o) [
    | inl e ↦ subst (λ y. UniqAt y k (ValuedRule d at i) (Before (token.Sign sign.Semicolon))) (sym e)
        (at_narrow (ValuedRule d at i) (Before (token.Sign sign.Semicolon)) (Then (Tok (token.Sign sign.Assign)) (λ q. Given d at i)) (λ x. Before (token.Sign sign.Semicolon) x.1) (λ x. x.1) k
        (Some (token.Sign sign.Assign)) (λ w z b r f l. given_back z r f l)
        (same_tok [] (token.Sign sign.Assign) (λ p. Given d at i) (λ x. Before (token.Sign sign.Semicolon) x.1) k (λ p. uniq_given)))
    | inr n ↦ at_nil (ValuedRule d at i) (Before (token.Sign sign.Semicolon)) k o (DeclareStmt at i None End) (λ w z b r f l. not_given_back z o n r l)
  ])

-- behind a path
pub changed_no_dot : {d : ℕ} {at : Place} {xs : List Ident} {b : Body} (a : List Ident) (v z : List Marked) → ChangedRule d at xs v b → NotBefore (token.Sign sign.Dot) a (v ++ z)
changed_no_dot a v z (changes r) = starts_not a ChangeSign (token.Sign sign.Dot) (λ h. h) v z (change_starts r)
changed_no_dot a v z (calls p args x e) = not_before_is a (token.Sign sign.Dot) (sign_at sign.OpenRound p) v args z e open_dot
  where
    open_dot : token.Sign sign.OpenRound ≡ token.Sign sign.Dot → ⊥
    open_dot e = cc

module _ (d : ℕ) (x : Ident) (k : ℕ) where
  named_path : Uniq k (Then (MoreNames x) (λ xs. ChangeRule d x.at xs)) (λ v. ExprEnds v.1)
  named_path = seq (MoreNames x) (NotBefore (token.Sign sign.Dot)) (λ xs. ChangeRule d x.at xs) (λ v. ExprEnds v.1) k (λ a b v z r f. changed_no_dot a v z (changes r)) (uniq_names k x)
      (λ xs. uniq_change d x.at xs k)

  uniq_after_name : Uniq k (AfterName d x) (Before (token.Sign sign.Semicolon))
  uniq_after_name = uniq_by (AfterName d x) (Before (token.Sign sign.Semicolon)) k (λ o. elim (at_name o) [
    | inl p ↦ subst (λ y. UniqAt y k (AfterName d x) (Before (token.Sign sign.Semicolon))) (sym p.1)
        (at_narrow (AfterName d x) (Before (token.Sign sign.Semicolon)) (Then Named (λ y. ValuedRule d x.at (of_name x y))) (λ v. Before (token.Sign sign.Semicolon) v.1) (λ v. v.1) k
        (Some (token.Name p.0)) (λ w z b r f l. named_value_back z p.0 r f l)
        (seq Named Any (λ y. ValuedRule d x.at (of_name x y)) (λ v. Before (token.Sign sign.Semicolon) v.1) k (λ a b v z r f. tt) (uniq_name k) (λ y. uniq_valued d x.at (of_name x y) k)))
    | inr n ↦ at_narrow (AfterName d x) (Before (token.Sign sign.Semicolon)) (Then (MoreNames x) (λ xs. ChangedRule d x.at xs)) (λ v. ExprEnds v.1) (λ v. v.1) k o
        (λ w z b r f l. changed_back z o n r f l)
        (seq (MoreNames x) (NotBefore (token.Sign sign.Dot)) (λ xs. ChangedRule d x.at xs) (λ v. ExprEnds v.1) k (λ a b v z r f. changed_no_dot a v z r) (uniq_names k x)
        (λ xs. uniq_changed d x.at xs k))
  ])

  uniq_after_init : Uniq k (AfterInit d x) (Before (token.Sign sign.Semicolon))
  uniq_after_init = uniq_by (AfterInit d x) (Before (token.Sign sign.Semicolon)) k (λ o. elim (at_name o) [
    | inl p ↦ subst (λ y. UniqAt y k (AfterInit d x) (Before (token.Sign sign.Semicolon))) (sym p.1)
        (at_narrow (AfterInit d x) (Before (token.Sign sign.Semicolon)) (Then Named (λ y. DeclaredRule d x.at (of_name x y))) (λ v. Before (token.Sign sign.Semicolon) v.1) (λ v. v.1) k
        (Some (token.Name p.0)) (λ w z b r f l. named_declared_back z p.0 r f l)
        (seq Named Any (λ y. DeclaredRule d x.at (of_name x y)) (λ v. Before (token.Sign sign.Semicolon) v.1) k (λ a b v z r f. tt) (uniq_name k) (λ y. uniq_declared d x.at (of_name x y) k)))
    | inr n ↦ at_narrow (AfterInit d x) (Before (token.Sign sign.Semicolon)) (Then (MoreNames x) (λ xs. ChangeRule d x.at xs)) (λ v. ExprEnds v.1) (λ v. v.1) k o
        (λ w z b r f l. change_init_back z o n r f l) named_path
  ])

pub uniq_assignment : (d k : ℕ) → Uniq k (Assignment d) ExprEnds
uniq_assignment d k = narrowed (Assignment d) ExprEnds (Then Named (λ x. Then (MoreNames x) (λ xs. ChangeRule d x.at xs))) (λ v. ExprEnds v.1.1) (λ v. v.1.1) k (λ w z b r f. assignment_back z r f)
    (seq Named Any (λ x. Then (MoreNames x) (λ xs. ChangeRule d x.at xs)) (λ v. ExprEnds v.1.1) k (λ a b v z r f. tt) (uniq_name k) (λ x. named_path d x k))

-- a name, alone or as a type
uniq_any_name : (d k : ℕ) → Uniq k (AnyName d) Any
uniq_any_name d k w z v u a b lt r g s h e =
    let x = one_name a r in
    let y = one_name b s in
    (sym x.2 ∙ ap ident (one_spot x.0 y.0 x.1 y.1) ∙ y.2, ap length x.1 ∙ sym (ap length y.1))
  where
    one_name : {w : List Marked} (a : Ident) → AnyName d w a → (m : Marked) × (w ≡ m ∷ []) × (ident m.spot ≡ a)
    one_name a (inl r) = (name_at a, r, refl)
    one_name a (inr r) = (node_name d a, r, refl)

    first_or : Marked → List Spot → Spot
    first_or m [] = m.spot
    first_or m (t ∷ ts) = t

    one_spot : (m n : Marked) → w ≡ m ∷ [] → v ≡ n ∷ [] → m.spot ≡ n.spot
    one_spot m n i j = ap (first_or m) (sym (ap (λ y. spots_of (y ++ z)) i) ∙ e ∙ ap (λ y. spots_of (y ++ u)) j)

-- a statement without its semicolon, and the init of a `for`
pub out_is : (o : Out) (x : Body × Counts) → ◌≡◌ {A = Body × Counts} (o.body, o.counts) x → o.ends_if ≡ false → o ≡ closed x.0 x.1
out_is o x e f = ap (λ y. record { body = y.0; counts = y.1; ends_if = o.ends_if }) e ∙ ap (λ h. record { body = x.0; counts = x.1; ends_if = h }) f

module _ (home : RoutineKind) (d : ℕ) (c : Counts) (k : ℕ) where
  pub uniq_unended : Uniq k (Unended home d c) (Before (token.Sign sign.Semicolon))
  uniq_unended = uniq_by (Unended home d c) (Before (token.Sign sign.Semicolon)) k (λ o. elim (at_wait o) [
    | inl h ↦ at_narrow (Unended home d c) (Before (token.Sign sign.Semicolon)) (Placed (OperandPart d)) Any (λ x. closed (WaitStmt x.0 (record { into = None; next = x.1.0; operand = x.1.1 }) End) c)
        k o
        (λ w z b r f l. let q = unended_wait z o h r.0 l in record {
          tree = q.tree;
          rule = q.rule;
          is = out_is b (WaitStmt q.tree.0 (record { into = None; next = q.tree.1.0; operand = q.tree.1.1 }) End, c) q.is r.1;
          follows = tt;
        }) (uniq_placed (OperandPart d) Any k (uniq_operand d k))
    | inr n ↦ elim (at_name o) [
      | inl p ↦ subst (λ y. UniqAt y k (Unended home d c) (Before (token.Sign sign.Semicolon))) (sym p.1)
          (at_narrow (Unended home d c) (Before (token.Sign sign.Semicolon)) (Then (AnyName d) (AfterName d)) (λ x. Before (token.Sign sign.Semicolon) x.1) (λ x. closed x.1 c) k
          (Some (token.Name p.0))
          (λ w z b r f l. let q = unended_name z p.0 r.0 l in record {
            tree = q.tree;
            rule = q.rule;
            is = out_is b (q.tree.1, c) q.is r.1;
            follows = before_same (token.Sign sign.Semicolon) b q.tree.1 z f;
          })
          (seq (AnyName d) Any (AfterName d) (λ x. Before (token.Sign sign.Semicolon) x.1) k (λ a b v z r f. tt) (uniq_any_name d k) (λ x. uniq_after_name d x k)))
      | inr m ↦ at_narrow (Unended home d c) (Before (token.Sign sign.Semicolon)) (Then (Placed (IntoPart home d c)) (λ x. ValuedRule d x.0 x.1.0)) (λ x. Before (token.Sign sign.Semicolon) x.1)
          (λ x. closed x.1 x.0.1.1) k o
          (λ w z b r f l. let q = unended_into z o n m r.0 l in record {
            tree = q.tree;
            rule = q.rule;
            is = out_is b (q.tree.1, q.tree.0.1.1) q.is r.1;
            follows = before_same (token.Sign sign.Semicolon) b q.tree.1 z f;
          })
          (seq (Placed (IntoPart home d c)) Any (λ x. ValuedRule d x.0 x.1.0) (λ x. Before (token.Sign sign.Semicolon) x.1) k (λ a b v z r f. tt)
          (uniq_placed (IntoPart home d c) Any k (uniq_into home d c k)) (λ x. uniq_valued d x.0 x.1.0 k))
    ]
  ])

  pub uniq_init : Uniq k (Init home d c) (Before (token.Sign sign.Semicolon))
  uniq_init = uniq_by (Init home d c) (Before (token.Sign sign.Semicolon)) k (λ o. elim (at_name o) [
    | inl p ↦ subst (λ y. UniqAt y k (Init home d c) (Before (token.Sign sign.Semicolon))) (sym p.1)
        (at_narrow (Init home d c) (Before (token.Sign sign.Semicolon)) (Then (AnyName d) (AfterInit d)) (λ x. Before (token.Sign sign.Semicolon) x.1) (λ x. closed x.1 c) k (Some (token.Name p.0))
        (λ w z b r f l. let q = init_name z p.0 r.1 l in record {
          tree = q.tree;
          rule = q.rule;
          is = out_is b (q.tree.1, c) q.is r.2;
          follows = before_same (token.Sign sign.Semicolon) b q.tree.1 z f;
        })
        (seq (AnyName d) Any (AfterInit d) (λ x. Before (token.Sign sign.Semicolon) x.1) k (λ a b v z r f. tt) (uniq_any_name d k) (λ x. uniq_after_init d x k)))
    | inr m ↦ at_narrow (Init home d c) (Before (token.Sign sign.Semicolon)) (Then (Placed (IntoPart home d c)) (λ x. DeclaredRule d x.0 x.1.0)) (λ x. Before (token.Sign sign.Semicolon) x.1)
        (λ x. closed x.1 x.0.1.1) k o
        (λ w z b r f l. let q = init_into z o m r.1 l in record {
          tree = q.tree;
          rule = q.rule;
          is = out_is b (q.tree.1, q.tree.0.1.1) q.is r.2;
          follows = before_same (token.Sign sign.Semicolon) b q.tree.1 z f;
        })
        (seq (Placed (IntoPart home d c)) Any (λ x. DeclaredRule d x.0 x.1.0) (λ x. Before (token.Sign sign.Semicolon) x.1) k (λ a b v z r f. tt)
        (uniq_placed (IntoPart home d c) Any k (uniq_into home d c k)) (λ x. uniq_declared d x.0 x.1.0 k))
  ])

  pub uniq_simple : Uniq k (Simple home d c) Any
  uniq_simple = narrowed (Simple home d c) Any (Then (Unended home d c) (λ o. Tok (token.Sign sign.Semicolon))) Any (λ x. x.0) k (λ w z b r f. simple_back z r)
      (seq (Unended home d c) (Before (token.Sign sign.Semicolon)) (λ o. Tok (token.Sign sign.Semicolon)) Any k (λ a b v z r f. before_is a (sign_at sign.Semicolon b) v [] z r) uniq_unended
      (λ o. uniq_opening [] (token.Sign sign.Semicolon) k))
