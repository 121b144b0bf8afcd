-- How declarations of variables, waits, paths, changes and calls are read.
use Rattle.std.proofs.Common.{◌≡◌, ℕ, suc, ◌+◌, ◌≤◌, ◌<◌, true, false, List, [], ◌∷◌, ◌++◌, length, refl, sym, ap, ◌∙◌, subst, arith, append_assoc}
use Rattle.std.specs.declared.option.Option.{Option}
use Rattle.std.specs.declared.option.Option.TheVariants.{None, Some}
use Rattle.flow_tree.specs.declared.limits.Limits.{Limits}
use Rattle.flow_base.specs.declared.place.Place.{Place}
use Rattle.flow_tree.specs.declared.token.Token.{Token}
use Rattle.flow_tree.specs.declared.token.Token.TheVariants as token
use Rattle.flow_tree.specs.declared.token.Word.TheVariants as word
use Rattle.flow_tree.specs.declared.token.Sign.TheVariants as sign
use Rattle.flow_tree.specs.declared.token.Spot.{Spot}
use Rattle.flow_tree.specs.declared.token.Tokens.{Tokens}
use Rattle.flow_tree.specs.declared.ty.Ident.{Ident}
use Rattle.flow_tree.specs.declared.decl.RoutineKind.{RoutineKind}
use Rattle.flow_tree.specs.declared.decl.RoutineKind.TheVariants.{Actor, Function, OldFunction}
use Rattle.flow_tree.specs.Tree.{ExprTrees, NoExprs, MoreExprs}
use Rattle.flow_tree.specs.Body.{IntoTree, PlusChange, MinusChange, UpChange, DownChange, Body, End, DeclareStmt, AssignStmt, ModifyStmt, CallStmt}
use Rattle.flow_tree.specs.GrammarToken.{Marked}
use Rattle.flow_tree.specs.Grammar.{sign_at, name_at, TypeRule, ExprRule, no_args, some_args, end_args, more_args}
use Rattle.flow_tree.specs.GrammarStmt.{Counts, one_state, state_parts, StateRule, no_state, some_state, declared, wait, wait_next, PathRule, last_name, more_names}
use Rattle.flow_parse.specs.Openers.{TypeToken}
use Rattle.flow_parse.specs.Reading.{token_at, Opening, Tok, Named, Then, Any, Reads}
use Rattle.flow_parse.specs.Follow.{ExprEnds, Before, NotBefore}
use Rattle.flow_parse.specs.Parts.{Test, Args, MoreArgs, MoreNames, StatePart, IntoPart, OperandPart, ChangeRule, assigns, adds, takes, goes_up, goes_down, ChangedRule, changes, calls, DeclaredRule, no_value, value}
use Rattle.flow_parse.proofs.Looking.{Looks, Back}
use Rattle.flow_parse.proofs.Backs.{tok_front}
use Rattle.flow_parse.proofs.Begins.{looks_is, looks_first}
use Rattle.flow_parse.proofs.Narrow.{starts_not, ends_is, ends_same}
use Rattle.flow_parse.proofs.Inhabitants.{some_then, some_opening, some_named, some_type, some_expr, some_test, some_args as args_inhabited, some_more_args, some_names}
use Rattle.flow_parse.proofs.SimpleBacks.{test_back, state_back, no_state_back, into_back, type_name_starts, wait_back, wait_next_back, dot_back, no_dot_back, end_of_args, first_arg, next_arg, no_more_args, change_back, call_back, no_call_back, value_back, no_value_back}
use Rattle.flow_parse.proofs.UniqueParts.{more_args_ends}
use Rattle.flow_parse.proofs.Leaves.{Leaves, Link, free, Turns, nothing, narrow, opening_reads, tok_reads, become, empty, glue, behind}

-- what follows each part of a sequence, and that there is some
pub test_link : (d : ℕ) → Link (Tok (token.Sign sign.OpenRound)) Any (λ p. Then (ExprRule 0 d) (λ e. Tok (token.Sign sign.CloseRound))) Any
test_link d = free (λ p. some_then (ExprRule 0 d) (λ e. Tok (token.Sign sign.CloseRound)) (some_expr d) (λ e. some_opening [] (token.Sign sign.CloseRound)))

-- an expression and then this sign, with which no expression goes on
pub expr_link : (d : ℕ) → Link (ExprRule 0 d) ExprEnds (λ e. Tok (token.Sign sign.CloseRound)) Any
expr_link d = record { follows = λ a b v z r f. ends_is a (sign_at sign.CloseRound b) v [] z r tt; more = λ e. some_opening [] (token.Sign sign.CloseRound) }

pub state_link : (home : RoutineKind) (d : ℕ) (c : Counts) → Link (StatePart home c) (NotBefore (token.Word word.State)) (λ s. Then (TypeRule d) (λ y. Named)) Any
state_link home d c = record {
  follows = λ a b v z r f. starts_not a TypeToken (token.Word word.State) (λ h. h) v z (type_name_starts r);
  more = λ s. some_then (TypeRule d) (λ y. Named) (some_type d) (λ y. some_named);
}

pub type_link : (d : ℕ) → Link (TypeRule d) Any (λ y. Named) Any
type_link d = free (λ y. some_named)

pub wait_link : (k : Token) (d : ℕ) → Link (Tok k) Any (λ p. Test d) Any
wait_link k d = free (λ p. some_test d)

pub args_link : (d : ℕ) → Link (ExprRule 0 d) ExprEnds (λ e. MoreArgs d) Any
args_link d = record { follows = λ a b v z r f. more_args_ends a v z r; more = λ e. some_more_args d }

pub comma_link : (d : ℕ) → Link (Tok (token.Sign sign.Comma)) Any (λ p. Then (ExprRule 0 d) (λ e. MoreArgs d)) Any
comma_link d = free (λ p. some_then (ExprRule 0 d) (λ e. MoreArgs d) (some_expr d) (λ e. some_more_args d))

pub dot_link : Link (Tok (token.Sign sign.Dot)) Any (λ p. Then Named MoreNames) (λ y. NotBefore (token.Sign sign.Dot) y.1.1)
dot_link = free (λ p. some_then Named MoreNames some_named some_names)

pub next_name_link : (p : Place) → Link Named Any MoreNames (λ y. NotBefore (token.Sign sign.Dot) y.1)
next_name_link p = free some_names

pub value_link : (s : Token) (d : ℕ) → Link (Tok s) Any (λ p. ExprRule 0 d) (λ x. ExprEnds x.1)
value_link s d = free (λ p. some_expr d)

pub call_link : (d : ℕ) → Link (Tok (token.Sign sign.OpenRound)) Any (λ p. Args d) Any
call_link d = free (λ p. args_inhabited d)

module _ (limits : Limits) (t : Tokens) (at : ℕ) where
  -- "(" expr ")"
  pub test_left : (d : ℕ) → at ≤ length t.spots.items
      → Leaves limits (Test d) Any (Then (Tok (token.Sign sign.OpenRound)) (λ p. Then (ExprRule 0 d) (λ e. Tok (token.Sign sign.CloseRound)))) Any (λ x. x.1.0) t.spots.items at at
  test_left d h = narrow limits t.spots.items refl (record {
    back = λ w z b r f l. test_back z r;
    forth = λ u x r. (x.0, x.1.1, r.back.first, r.back.front, behind r.is r.front (glue _ r.back.is r.back.back));
  }) (nothing limits t.spots.items (Test d) Any at h)

  pub no_state_reads : (home : RoutineKind) (c : Counts) → at ≤ length t.spots.items → (token_at t.spots.items at ≡ Some (token.Word word.State) → ⊥)
      → Reads limits (StatePart home c) (NotBefore (token.Word word.State)) t.spots.items at (false, c) at
  no_state_reads home c h n = empty limits t.spots.items (StatePart home c) _ at (false, c) (token_at t.spots.items at) h refl no_state
      (λ w z b r f l. no_state_back z (token_at t.spots.items at) n r l)

  pub state_turns : (home : RoutineKind) (c : Counts) → Turns (StatePart home c) (NotBefore (token.Word word.State)) (Opening (state_parts home c) (token.Word word.State)) Any
      (λ p. (true, one_state home c)) (Some (token.Word word.State))
  state_turns home c = record { back = λ w z b r f l. state_back z r f l; forth = λ w p e. subst (λ z. StateRule home c (one_state home c) z true) (sym e) (some_state p) }

  pub free_state_reads : (home : RoutineKind) (c : Counts) → (home ≡ Actor → ⊥) → token_at t.spots.items at ≡ Some (token.Word word.State)
      → Reads limits (StatePart home c) (NotBefore (token.Word word.State)) t.spots.items at (true, c) (at + 1)
  free_state_reads Actor c n h = absurd (n refl)
  free_state_reads Function c n h = become limits t.spots.items h (state_turns Function c) (tok_reads limits t at (token.Word word.State) h)
  free_state_reads OldFunction c n h = become limits t.spots.items h (state_turns OldFunction c) (tok_reads limits t at (token.Word word.State) h)

  pub state_reads : (c : Counts) → token_at t.spots.items at ≡ Some (token.Word word.State) → c.variables < limits.variables
      → Reads limits (StatePart Actor c) (NotBefore (token.Word word.State)) t.spots.items at (true, record { statements = c.statements; variables = c.variables + 1 }) (at + 1)
  state_reads c h k =
      let e : suc c.variables ≡ c.variables + 1 = omega arith in
      subst (λ v. Reads limits (StatePart Actor c) (NotBefore (token.Word word.State)) t.spots.items at (true, record { statements = c.statements; variables = v }) (at + 1)) e
      (become limits t.spots.items h (state_turns Actor c) (opening_reads limits t at (state_parts Actor c) (token.Word word.State) h ((λ l. omega arith), tt)))

  -- [ "state" ] type name
  pub into_left : (home : RoutineKind) (d : ℕ) (c : Counts) → at ≤ length t.spots.items
      → Leaves limits (IntoPart home d c) Any (Then (StatePart home c) (λ s. Then (TypeRule d) (λ y. Named))) Any (λ x. (record { state = x.0.0; ty = x.1.0; name = x.1.1 }, x.0.1)) t.spots.items at
      at
  into_left home d c h = narrow limits t.spots.items refl (record
      { back = λ w z b r f l. into_back z r; forth = λ u x r. declared x.1.1 r.first r.back.first r.front r.back.front (glue _ r.is (glue _ r.back.is r.back.back)) })
      (nothing limits t.spots.items (IntoPart home d c) Any at h)

  -- the wait itself
  pub wait_left : (d : ℕ) → at ≤ length t.spots.items → token_at t.spots.items at ≡ Some (token.Word word.Wait)
      → Leaves limits (OperandPart d) Any (Then (Tok (token.Word word.Wait)) (λ p. Test (suc d))) Any (λ x. (false, x.1)) t.spots.items at at
  wait_left d h e = narrow limits t.spots.items e (record { back = λ w z b r f l. wait_back z r l; forth = λ u x r. wait x.0 r.back.0 r.back.1 r.back.2 r.back.3 (behind r.is r.front r.back.4) })
      (nothing limits t.spots.items (OperandPart d) Any at h)

  pub wait_next_left : (d : ℕ) → at ≤ length t.spots.items → token_at t.spots.items at ≡ Some (token.Word word.WaitNext)
      → Leaves limits (OperandPart d) Any (Then (Tok (token.Word word.WaitNext)) (λ p. Test (suc d))) Any (λ x. (true, x.1)) t.spots.items at at
  wait_next_left d h e = narrow limits t.spots.items e (record {
    back = λ w z b r f l. wait_next_back z r l;
    forth = λ u x r. wait_next x.0 r.back.0 r.back.1 r.back.2 r.back.3 (behind r.is r.front r.back.4);
  }) (nothing limits t.spots.items (OperandPart d) Any at h)

  -- arguments
  pub no_args_left : (d : ℕ) → at ≤ length t.spots.items → token_at t.spots.items at ≡ Some (token.Sign sign.CloseRound)
      → Leaves limits (Args d) Any (Tok (token.Sign sign.CloseRound)) Any (λ p. NoExprs) t.spots.items at at
  no_args_left d h e = narrow limits t.spots.items e (record { back = λ w z b r f l. end_of_args z r l; forth = λ u p r. (p, [], no_args, r) }) (nothing limits t.spots.items (Args d) Any at h)

  pub args_left : (d : ℕ) → at ≤ length t.spots.items → (token_at t.spots.items at ≡ Some (token.Sign sign.CloseRound) → ⊥)
      → Leaves limits (Args d) Any (Then (ExprRule 0 d) (λ e. MoreArgs d)) Any (λ x. MoreExprs x.0 x.1) t.spots.items at at
  args_left d h n = narrow limits t.spots.items refl (record {
    back = λ w z b r f l. first_arg z (token_at t.spots.items at) n r l;
    forth = λ u x r. (r.back.0, r.first ++ r.back.1, some_args r.first r.back.1 r.front r.back.2 refl, glue _ r.is r.back.3 ∙ sym (append_assoc r.first r.back.1 _));
  })
      (nothing limits t.spots.items (Args d) Any at h)

module _ (limits : Limits) (spots : List Spot) where
  pub more_args_left : {A : Type 0} {W : List Marked → A → Type 0} {FW : A → List Marked → Type 0} {g : ExprTrees → A} {from at d : ℕ} → token_at spots at ≡ Some (token.Sign sign.Comma)
      → Leaves limits W FW (MoreArgs d) Any g spots from at
      → Leaves limits W FW (Then (Tok (token.Sign sign.Comma)) (λ p. Then (ExprRule 0 d) (λ e. MoreArgs d))) Any (λ x. g (MoreExprs x.1.0 x.1.1)) spots from at
  more_args_left e l = narrow limits spots e (record {
    back = λ w z b r f k. next_arg z r k;
    forth = λ u x r. (
      r.back.back.0,
      _,
      more_args x.0 r.back.first r.back.back.1 r.back.front r.back.back.2 refl,
      behind r.is r.front
          (glue _ r.back.is r.back.back.3 ∙ sym (append_assoc r.back.first r.back.back.1 _)),
    );
  }) l

  pub end_args_left : {A : Type 0} {W : List Marked → A → Type 0} {FW : A → List Marked → Type 0} {g : ExprTrees → A} {from at d : ℕ} → (token_at spots at ≡ Some (token.Sign sign.Comma) → ⊥)
      → Leaves limits W FW (MoreArgs d) Any g spots from at
      → Leaves limits W FW (Tok (token.Sign sign.CloseRound)) Any (λ p. g NoExprs) spots from at
  end_args_left {at = at} n l = narrow limits spots refl (record { back = λ w z b r f k. no_more_args z (token_at spots at) n r k; forth = λ u p r. (p, [], end_args, r) }) l

  -- the names of a path
  pub dot_left : {A : Type 0} {W : List Marked → A → Type 0} {FW : A → List Marked → Type 0} {g : List Ident → A} {from at : ℕ} {x : Ident} → token_at spots at ≡ Some (token.Sign sign.Dot)
      → Leaves limits W FW (MoreNames x) (NotBefore (token.Sign sign.Dot)) g spots from at
      → Leaves limits W FW (Then (Tok (token.Sign sign.Dot)) (λ p. Then Named MoreNames)) (λ y. NotBefore (token.Sign sign.Dot) y.1.1) (λ y. g (x ∷ y.1.1)) spots from at
  dot_left {x = x} e l = narrow limits spots e (record {
    back = λ w z b r f k. dot_back z r f k;
    forth = λ u y r. more_names x y.0 (r.back.first ++ r.back.rest) (subst (λ z. PathRule (z ++ r.back.rest) y.1.1) (sym r.back.front) r.back.back)
        (ap (λ z. name_at x ∷ z) (behind r.is r.front r.back.is));
  }) l

  pub no_dot_reads : (at : ℕ) (x : Ident) → at ≤ length spots → (token_at spots at ≡ Some (token.Sign sign.Dot) → ⊥) → Reads limits (MoreNames x) (NotBefore (token.Sign sign.Dot)) spots at (x ∷ []) at
  no_dot_reads at x h n = empty limits spots (MoreNames x) _ at (x ∷ []) (token_at spots at) h refl (last_name x) (λ w z b r f l. no_dot_back z (token_at spots at) n r l)

module _ (limits : Limits) (t : Tokens) (at d : ℕ) (p : Place) (xs : List Ident) (h : at ≤ length t.spots.items) where
  -- a change of a variable
  plain_back : {w : List Marked} {b : Body} (z : List Marked) (o : Option Token) → (o ≡ Some (token.Sign sign.PlusPlus) → ⊥) → (o ≡ Some (token.Sign sign.MinusMinus) → ⊥)
      → (o ≡ Some (token.Sign sign.PlusAssign) → ⊥) → (o ≡ Some (token.Sign sign.MinusAssign) → ⊥) → ChangeRule d p xs w b → ExprEnds b z → Looks o (w ++ z)
      → Back (ChangeRule d p xs) ExprEnds (Then (Tok (token.Sign sign.Assign)) (λ q. ExprRule 0 (suc d))) (λ x. ExprEnds x.1) (λ x. AssignStmt p xs x.1 End) w z b
  plain_back z o u v m n (assigns {e = e} q of x g) f l = record { tree = (q, e); rule = tok_front (token.Sign sign.Assign) q e of g x; is = refl; follows = ends_same (AssignStmt p xs e End) e z f }
  plain_back z o u v m n (adds q of x g) f l = absurd (m (looks_is o (sign_at sign.PlusAssign q) of z g l))
  plain_back z o u v m n (takes q of x g) f l = absurd (n (looks_is o (sign_at sign.MinusAssign q) of z g l))
  plain_back z o u v m n (goes_up q) f l = absurd (u (looks_first o (sign_at sign.PlusPlus q) z l))
  plain_back z o u v m n (goes_down q) f l = absurd (v (looks_first o (sign_at sign.MinusMinus q) z l))

  -- with no other sign of a change
  pub assign_left : (token_at t.spots.items at ≡ Some (token.Sign sign.PlusPlus) → ⊥) → (token_at t.spots.items at ≡ Some (token.Sign sign.MinusMinus) → ⊥)
      → (token_at t.spots.items at ≡ Some (token.Sign sign.PlusAssign) → ⊥) → (token_at t.spots.items at ≡ Some (token.Sign sign.MinusAssign) → ⊥)
      → Leaves limits (ChangeRule d p xs) ExprEnds (Then (Tok (token.Sign sign.Assign)) (λ q. ExprRule 0 (suc d))) (λ x. ExprEnds x.1) (λ x. AssignStmt p xs x.1 End) t.spots.items at at
  assign_left u v m n = narrow limits t.spots.items refl (record {
    back = λ w z b r f l. plain_back z (token_at t.spots.items at) u v m n r f l;
    forth = λ u x r. assigns x.0 r.rest r.back (behind r.is r.front refl);
  }) (nothing limits t.spots.items (ChangeRule d p xs) ExprEnds at h)

  pub plus_left : token_at t.spots.items at ≡ Some (token.Sign sign.PlusAssign)
      → Leaves limits (ChangeRule d p xs) ExprEnds (Then (Tok (token.Sign sign.PlusAssign)) (λ q. ExprRule 0 (suc d))) (λ x. ExprEnds x.1)
      (λ x. ModifyStmt p xs (PlusChange x.1) End) t.spots.items at at
  plus_left e = narrow limits t.spots.items e (record {
    back = λ w z b r f l. let q = change_back z sign.PlusAssign r l
        in record { tree = q.tree; rule = q.rule; is = q.is; follows = ends_same b q.tree.1 z f };
    forth = λ u x r. adds x.0 r.rest r.back (behind r.is r.front refl);
  })
      (nothing limits t.spots.items (ChangeRule d p xs) ExprEnds at h)

  pub minus_left : token_at t.spots.items at ≡ Some (token.Sign sign.MinusAssign)
      → Leaves limits (ChangeRule d p xs) ExprEnds (Then (Tok (token.Sign sign.MinusAssign)) (λ q. ExprRule 0 (suc d))) (λ x. ExprEnds x.1)
      (λ x. ModifyStmt p xs (MinusChange x.1) End) t.spots.items at at
  minus_left e = narrow limits t.spots.items e (record {
    back = λ w z b r f l. let q = change_back z sign.MinusAssign r l
        in record { tree = q.tree; rule = q.rule; is = q.is; follows = ends_same b q.tree.1 z f };
    forth = λ u x r. takes x.0 r.rest r.back (behind r.is r.front refl);
  })
      (nothing limits t.spots.items (ChangeRule d p xs) ExprEnds at h)

  pub up_reads : token_at t.spots.items at ≡ Some (token.Sign sign.PlusPlus) → Reads limits (ChangeRule d p xs) ExprEnds t.spots.items at (ModifyStmt p xs UpChange End) (at + 1)
  up_reads e = become limits t.spots.items {h = λ q. ModifyStmt p xs UpChange End} e
      (record {
        back = λ w z b r f l. let q = change_back z sign.PlusPlus r l in record { tree = q.tree; rule = q.rule; is = q.is; follows = tt };
        forth = λ w q r. subst (λ z. ChangeRule d p xs z (ModifyStmt p xs UpChange End)) (sym r) (goes_up q);
      }) (tok_reads limits t at (token.Sign sign.PlusPlus) e)

  pub down_reads : token_at t.spots.items at ≡ Some (token.Sign sign.MinusMinus) → Reads limits (ChangeRule d p xs) ExprEnds t.spots.items at (ModifyStmt p xs DownChange End) (at + 1)
  down_reads e = become limits t.spots.items {h = λ q. ModifyStmt p xs DownChange End} e
      (record {
        back = λ w z b r f l. let q = change_back z sign.MinusMinus r l in record { tree = q.tree; rule = q.rule; is = q.is; follows = tt };
        forth = λ w q r. subst (λ z. ChangeRule d p xs z (ModifyStmt p xs DownChange End)) (sym r) (goes_down q);
      }) (tok_reads limits t at (token.Sign sign.MinusMinus) e)

  pub call_left : token_at t.spots.items at ≡ Some (token.Sign sign.OpenRound)
      → Leaves limits (ChangedRule d p xs) ExprEnds (Then (Tok (token.Sign sign.OpenRound)) (λ q. Args (suc d))) Any (λ x. CallStmt p xs x.1 End) t.spots.items at at
  call_left e = narrow limits t.spots.items e (record { back = λ w z b r f l. call_back z r l; forth = λ u x r. calls x.0 r.rest r.back (behind r.is r.front refl) })
      (nothing limits t.spots.items (ChangedRule d p xs) ExprEnds at h)

  -- no call, so a change
  pub change_turns : (token_at t.spots.items at ≡ Some (token.Sign sign.OpenRound) → ⊥) → Turns (ChangedRule d p xs) ExprEnds (ChangeRule d p xs) ExprEnds (λ b. b) (token_at t.spots.items at)
  change_turns n = record { back = λ w z b r f l. record { tree = b; rule = no_call_back z (token_at t.spots.items at) n r l; is = refl; follows = f }; forth = λ w b r. changes r }

module _ (limits : Limits) (t : Tokens) (at d : ℕ) (p : Place) (i : IntoTree) (h : at ≤ length t.spots.items) where
  -- what stands behind a declared variable
  pub no_value_reads : (token_at t.spots.items at ≡ Some (token.Sign sign.Assign) → ⊥)
      → Reads limits (DeclaredRule d p i) (Before (token.Sign sign.Semicolon)) t.spots.items at (DeclareStmt p i None End) at
  no_value_reads n = empty limits t.spots.items (DeclaredRule d p i) _ at (DeclareStmt p i None End) (token_at t.spots.items at) h refl no_value
      (λ w z b r f l. no_value_back z (token_at t.spots.items at) n r l)

  pub value_left : token_at t.spots.items at ≡ Some (token.Sign sign.Assign)
      → Leaves limits (DeclaredRule d p i) (Before (token.Sign sign.Semicolon)) (Then (Tok (token.Sign sign.Assign)) (λ q. ExprRule 0 (suc d))) (λ x. ExprEnds x.1)
      (λ x. DeclareStmt p i (Some x.1) End) t.spots.items at at
  value_left e = narrow limits t.spots.items e (record { back = λ w z b r f l. value_back z r f l; forth = λ u x r. value x.0 r.rest r.back (behind r.is r.front refl) })
      (nothing limits t.spots.items (DeclaredRule d p i) _ at h)
