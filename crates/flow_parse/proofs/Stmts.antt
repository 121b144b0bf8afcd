-- How statements, bodies and branches are read.
use Rattle.std.proofs.Common.{◌≡◌, ℕ, suc, ◌≤◌, true, false, List, [], ◌∷◌, ◌++◌, length, refl, sym, ap, ◌∙◌, subst, append_assoc}
use Rattle.std.proofs.lemmas.List.{append-nil}
use Rattle.std.specs.declared.option.Option.{Option}
use Rattle.std.specs.declared.option.Option.TheVariants.{None, Some}
use Rattle.flow_tree.specs.declared.limits.Limits.{Limits}
use Rattle.flow_base.specs.declared.place.Place.{Place}
use Rattle.flow_tree.specs.declared.token.Token.{Token}
use Rattle.flow_tree.specs.declared.token.Token.TheVariants as token
use Rattle.flow_tree.specs.declared.token.Word.TheVariants as word
use Rattle.flow_tree.specs.declared.token.Sign.TheVariants as sign
use Rattle.flow_tree.specs.declared.token.Spot.{Spot}
use Rattle.flow_tree.specs.declared.token.Tokens.{Tokens}
use Rattle.flow_tree.specs.declared.decl.RoutineKind.{RoutineKind}
use Rattle.flow_tree.specs.Tree.{ExprTree}
use Rattle.flow_tree.specs.Body.{Body, End, BlockStmt, WhileStmt, ForStmt, LoopStmt, BreakStmt, ContinueStmt, ReturnStmt, ThrowStmt, TryStmt, ChooseStmt, Branches, NoBranches, MoreBranches}
use Rattle.flow_tree.specs.GrammarToken.{Node, Branch, Marked}
use Rattle.flow_tree.specs.Grammar.{sign_at, ExprRule}
use Rattle.flow_tree.specs.GrammarStmt.{Counts, one_statement, has_bare_return, MaybeExprRule, no_expr, some_expr, ReturnedRule, nothing as nothing_given, something, no_init, some_init, no_step, some_step, if_stmt, if_else_stmt, while_stmt, for_stmt, loop_stmt, break_stmt, continue_stmt, return_stmt, throw_stmt, try_stmt, choose_stmt, PlainRule, block_stmt, plain_stmt, BlockRule, braces, BodyRule, block_body, one_body, no_stmts, more_stmts, no_whens, more_whens, branch}
use Rattle.flow_parse.specs.Reading.{token_at, Opening, Tok, Named, Then, Any, Reads}
use Rattle.flow_parse.specs.Follow.{ExprEnds, Before, NotBefore}
use Rattle.flow_parse.specs.Parts.{NoElse, Out, BlockOut, Test, MaybeExpr, Returned, Placed, Begun, Init, Assignment, StartPart, NextPart, Plain, One, BodyPart, Closing, Block, Catch, WaitingPart, WhenPart, WhensPart, AllWhens, put_before}
use Rattle.flow_parse.proofs.Leaves.{Leaves, Link, free, Turns, nothing, narrow, empty, glue, behind}
use Rattle.flow_parse.proofs.Inhabitants.{some_then, some_opening, some_named, some_test, some_waiting, some_maybe, some_returned, some_start, some_next, some_else, some_body, some_block, some_catch, some_closing, some_whens, some_all_whens}
use Rattle.flow_parse.proofs.Narrow.{ends_is, before_is}
use Rattle.flow_parse.proofs.Shapes.{closed, with}
use Rattle.flow_parse.proofs.Lift.{lift}
use Rattle.flow_parse.proofs.StmtBacks.{keyword_back, ElsePart, ElseFollow, if_out, IfParts, if_back, else_back, no_else_back, no_expr_back, some_expr_back, maybe_returned_back, returned_back, no_start_back, start_back, no_next_back, next_back, one_block_back, one_plain_back, body_block_back, body_plain_back, block_back, end_back, more_back, closing_no_else, WhenSeq, when_of, when_back, all_whens_back, no_when_back, word_no_sign, more_whens_back, whens_no_else}
use Rattle.flow_parse.proofs.UniqueStmts.{CatchSeq, catch_back, else_as, else_follows}

-- a part and what closes it
pub closed_by : {w a r b : List Marked} (of : List Marked) (x : Marked) → w ≡ a ++ r → a ≡ of ++ x ∷ [] → r ≡ b → w ≡ of ++ (x ∷ b)
closed_by {r} of x e f g = e ∙ ap (λ z. z ++ r) f ∙ append_assoc of (x ∷ []) r ∙ ap (λ z. of ++ (x ∷ z)) g

in_brackets : {w a r b : List Marked} {y : Marked} (of : List Marked) (x : Marked) → w ≡ a ++ r → a ≡ y ∷ (of ++ x ∷ []) → r ≡ b → w ≡ y ∷ (of ++ (x ∷ b))
in_brackets {r} {y} of x e f g = e ∙ ap (λ z. z ++ r) f ∙ ap (λ z. y ∷ z) (append_assoc of (x ∷ []) r) ∙ ap (λ z. y ∷ (of ++ (x ∷ z))) g

block_rule : {home : RoutineKind} {d : ℕ} {c : Counts} {w : List Marked} {o : BlockOut} → Block home d c w o → BlockRule home d c o.counts w o.body
block_rule {o} r = braces r.0 o.close r.1 r.2 r.3

-- what follows each part of a sequence, and that there is some
pub semicolon_link : {A : Type 0} {R : List Marked → A → Type 0} → Link R Any (λ a. Tok (token.Sign sign.Semicolon)) Any
semicolon_link = free (λ a. some_opening [] (token.Sign sign.Semicolon))

pub value_semicolon : (d : ℕ) → Link (ExprRule 0 d) ExprEnds (λ e. Tok (token.Sign sign.Semicolon)) Any
value_semicolon d = record { follows = λ a b v z r f. ends_is a (sign_at sign.Semicolon b) v [] z r tt; more = λ e. some_opening [] (token.Sign sign.Semicolon) }

pub init_semicolon : {R : List Marked → Out → Type 0} → Link R (Before (token.Sign sign.Semicolon)) (λ o. Tok (token.Sign sign.Semicolon)) Any
init_semicolon = record { follows = λ a b v z r f. before_is a (sign_at sign.Semicolon b) v [] z r; more = λ o. some_opening [] (token.Sign sign.Semicolon) }

pub step_close : {R : List Marked → Body → Type 0} → Link R ExprEnds (λ b. Tok (token.Sign sign.CloseRound)) Any
step_close = record { follows = λ a b v z r f. ends_is a (sign_at sign.CloseRound b) v [] z r tt; more = λ b. some_opening [] (token.Sign sign.CloseRound) }

pub return_word : (k : Token) (home : RoutineKind) (d : ℕ) → Link (Tok k) Any (λ p. Returned home d) Any
return_word k home d = free (λ p. some_returned home d)

pub throw_word : (k : Token) (d : ℕ) → Link (Tok k) Any (λ p. MaybeExpr d) Any
throw_word k d = free (λ p. some_maybe d)

module _ (home : RoutineKind) (d : ℕ) (c : Counts) where
  pub body_link : {A : Type 0} (R : List Marked → A → Type 0) → Link R Any (λ a. BodyPart home d c) (λ x. NoElse x.1)
  body_link R = free (λ a. some_body home d c)

  pub test_body : Link (Test d) Any (λ e. BodyPart home d c) (λ x. NoElse x.1)
  test_body = body_link (Test d)

  pub while_word : Link (Tok (token.Word word.While)) Any (λ p. Then (Test d) (λ e. BodyPart home d c)) (λ x. NoElse x.1.1)
  while_word = free (λ p. some_then (Test d) (λ e. BodyPart home d c) (some_test d) (λ e. some_body home d c))

  pub then_else : Link (BodyPart home d c) NoElse (ElsePart home d) (λ x. ElseFollow x.1)
  then_else = record { follows = λ a b v z r f. else_follows home d a b v z r f; more = some_else home d }

  pub if_test : Link (Test d) Any (λ e. Then (BodyPart home d c) (ElsePart home d)) (λ x. ElseFollow x.1.1)
  if_test = free (λ e. some_then (BodyPart home d c) (ElsePart home d) (some_body home d c) (some_else home d))

  pub if_word : Link (Tok (token.Word word.If)) Any (λ p. Then (Test d) (λ e. Then (BodyPart home d c) (ElsePart home d))) (λ x. ElseFollow x.1.1.1)
  if_word = free (λ p. some_then (Test d) (λ e. Then (BodyPart home d c) (ElsePart home d)) (some_test d) if_test.more)

  -- the parts of a `for`, from the last on
  pub next_body : Link (NextPart d c) Any (λ b. BodyPart home d b.1) (λ x. NoElse x.1)
  next_body = free (λ b. some_body home d b.1)

  pub test_next : Link (MaybeExpr d) Any (λ e. Then (NextPart d c) (λ b. BodyPart home d b.1)) (λ x. NoElse x.1.1)
  test_next = free (λ e. some_then (NextPart d c) (λ b. BodyPart home d b.1) (some_next d c) next_body.more)

  pub block_open : Link (Tok (token.Sign sign.OpenCurly)) Any (λ p. Closing home d c) Any
  block_open = free (λ p. some_closing home d c)

  pub stmt_more : Link (One home d c) NoElse (λ o. Closing home d o.counts) Any
  stmt_more = record { follows = λ a b v z r f. closing_no_else a z r; more = λ o. some_closing home d o.counts }

  pub caught_link : Link Catch Any (λ x. Block home d c) Any
  caught_link = free (λ x. some_block home d c)

  pub choose_open : Link (Tok (token.Sign sign.OpenCurly)) Any (λ q. AllWhens home d c) Any
  choose_open = free (λ q. some_all_whens home d c)

  pub choose_word : Link (Tok (token.Word word.Choose)) Any (λ p. Then (Tok (token.Sign sign.OpenCurly)) (λ q. AllWhens home d c)) Any
  choose_word = free (λ p. some_then (Tok (token.Sign sign.OpenCurly)) (λ q. AllWhens home d c) (some_opening [] (token.Sign sign.OpenCurly)) choose_open.more)

  pub when_more : (n : ℕ) → Link (WhenPart home d n c) (NotBefore (token.Word word.Else)) (λ o. WhensPart home d (suc n) o.counts) Any
  when_more n = record { follows = λ a b v z r f. whens_no_else a z r; more = λ o. some_whens home d (suc n) o.counts }

module _ (home : RoutineKind) (d : ℕ) (c : Counts) where
  pub start_test : Link (StartPart home d c) Any (λ a. Then (MaybeExpr d) (λ e. Then (NextPart d a.1) (λ b. BodyPart home d b.1))) (λ x. NoElse x.1.1.1)
  start_test = free (λ a. some_then (MaybeExpr d) (λ e. Then (NextPart d a.1) (λ b. BodyPart home d b.1)) (some_maybe d) (test_next home d a.1).more)

  pub for_open : Link (Tok (token.Sign sign.OpenRound)) Any (λ q. Then (StartPart home d c) (λ a. Then (MaybeExpr d) (λ e. Then (NextPart d a.1) (λ b. BodyPart home d b.1)))) (λ x. NoElse x.1.1.1.1)
  for_open = free (λ q. some_then (StartPart home d c) (λ a. Then (MaybeExpr d) (λ e. Then (NextPart d a.1) (λ b. BodyPart home d b.1))) (some_start home d c) start_test.more)

  pub for_word : Link (Tok (token.Word word.For)) Any (λ p. Then (Tok (token.Sign sign.OpenRound))
      (λ q. Then (StartPart home d c) (λ a. Then (MaybeExpr d) (λ e. Then (NextPart d a.1) (λ b. BodyPart home d b.1))))) (λ x. NoElse x.1.1.1.1.1)
  for_word = free (λ p. some_then (Tok (token.Sign sign.OpenRound)) (λ q. Then (StartPart home d c) (λ a. Then (MaybeExpr d) (λ e. Then (NextPart d a.1) (λ b. BodyPart home d b.1))))
      (some_opening [] (token.Sign sign.OpenRound)) for_open.more)

  pub try_inner : Link (Block home d c) Any (λ o. Then Catch (λ x. Block home d o.counts)) Any
  try_inner = free (λ o. some_then Catch (λ x. Block home d o.counts) some_catch (λ x. some_block home d o.counts))

  pub try_word : Link (Tok (token.Word word.Try)) Any (λ p. Then (Block home d c) (λ o. Then Catch (λ x. Block home d o.counts))) Any
  try_word = free (λ p. some_then (Block home d c) (λ o. Then Catch (λ x. Block home d o.counts)) (some_block home d c) try_inner.more)

  -- the parts of a branch, whose body is one deeper
  pub when_close : Link (Tok (token.Sign sign.CloseRound)) Any (λ s. BodyPart home (suc d) c) (λ x. NoElse x.1)
  when_close = body_link home (suc d) c (Tok (token.Sign sign.CloseRound))

  pub when_waiting : Link (WaitingPart home d c) Any (λ y. Then (Tok (token.Sign sign.CloseRound)) (λ s. BodyPart home (suc d) y.1)) (λ x. NoElse x.1.1)
  when_waiting = free (λ y. some_then (Tok (token.Sign sign.CloseRound)) (λ s. BodyPart home (suc d) y.1) (some_opening [] (token.Sign sign.CloseRound)) (λ s. some_body home (suc d) y.1))

  pub when_open : Link (Tok (token.Sign sign.OpenRound)) Any (λ q. Then (WaitingPart home d c) (λ y. Then (Tok (token.Sign sign.CloseRound)) (λ s. BodyPart home (suc d) y.1))) (λ x. NoElse x.1.1.1)
  when_open = free (λ q. some_then (WaitingPart home d c) (λ y. Then (Tok (token.Sign sign.CloseRound)) (λ s. BodyPart home (suc d) y.1)) (some_waiting home d c) when_waiting.more)

  pub when_word : (n : ℕ) → Link (Opening (Branch n ∷ Node d ∷ []) (token.Word word.When)) Any
      (λ p. Then (Tok (token.Sign sign.OpenRound)) (λ q. Then (WaitingPart home d c) (λ y. Then (Tok (token.Sign sign.CloseRound)) (λ s. BodyPart home (suc d) y.1)))) (λ x. NoElse x.1.1.1.1)
  when_word n = free (λ p. some_then (Tok (token.Sign sign.OpenRound)) (λ q. Then (WaitingPart home d c) (λ y. Then (Tok (token.Sign sign.CloseRound)) (λ s. BodyPart home (suc d) y.1)))
      (some_opening [] (token.Sign sign.OpenRound)) when_open.more)

-- the parts of a `catch`
pub catch_name : Link Named Any (λ x. Tok (token.Sign sign.CloseRound)) Any
catch_name = free (λ x. some_opening [] (token.Sign sign.CloseRound))

pub catch_amp : Link (Tok (token.Sign sign.Amp)) Any (λ s. Then Named (λ x. Tok (token.Sign sign.CloseRound))) Any
catch_amp = free (λ s. some_then Named (λ x. Tok (token.Sign sign.CloseRound)) some_named catch_name.more)

pub catch_error : Link (Tok (token.Word word.Error)) Any (λ r. Then (Tok (token.Sign sign.Amp)) (λ s. Then Named (λ x. Tok (token.Sign sign.CloseRound)))) Any
catch_error = free (λ r. some_then (Tok (token.Sign sign.Amp)) (λ s. Then Named (λ x. Tok (token.Sign sign.CloseRound))) (some_opening [] (token.Sign sign.Amp)) catch_amp.more)

pub catch_open : Link (Tok (token.Sign sign.OpenRound)) Any (λ q. Then (Tok (token.Word word.Error)) (λ r. Then (Tok (token.Sign sign.Amp)) (λ s. Then Named (λ x. Tok (token.Sign sign.CloseRound)))))
    Any
catch_open = free (λ q. some_then (Tok (token.Word word.Error)) (λ r. Then (Tok (token.Sign sign.Amp)) (λ s. Then Named (λ x. Tok (token.Sign sign.CloseRound))))
    (some_opening [] (token.Word word.Error)) catch_error.more)

pub catch_word : Link (Tok (token.Word word.Catch)) Any (λ p. Then (Tok (token.Sign sign.OpenRound))
    (λ q. Then (Tok (token.Word word.Error)) (λ r. Then (Tok (token.Sign sign.Amp)) (λ s. Then Named (λ x. Tok (token.Sign sign.CloseRound)))))) Any
catch_word = free (λ p. some_then (Tok (token.Sign sign.OpenRound))
    (λ q. Then (Tok (token.Word word.Error)) (λ r. Then (Tok (token.Sign sign.Amp)) (λ s. Then Named (λ x. Tok (token.Sign sign.CloseRound)))))
    (some_opening [] (token.Sign sign.OpenRound)) catch_open.more)

-- an `if`, with its `else` or without one
if_forth : (home : RoutineKind) (d : ℕ) (c : Counts) (w : List Marked) (p : Place) (e : ExprTree) (o : Out) (m : Option Out) → IfParts home d c w (p, (e, (o, m))) → Plain home d c w (if_out p e o m)
if_forth home d c w p e o None r =
    let k = r.back.front in
    let b = r.back.back in
    (p, if_stmt p k.0 k.1 k.2 b.first k.3 b.front (behind r.is r.front (in_brackets k.2 _ r.back.is k.4 (b.is ∙ ap (λ z. b.first ++ z) b.back ∙ append-nil b.first))))
if_forth home d c w p e o (Some u) r =
    let k = r.back.front in
    let b = r.back.back in
    let then = subst (λ z. BodyRule home (suc d) c o.counts b.first o.body z) b.back.0 b.front in
    (p, if_else_stmt p k.0 k.1 b.back.1 k.2 b.first b.back.2 k.3 then b.back.3 (behind r.is r.front (in_brackets k.2 _ r.back.is k.4 (glue b.first b.is b.back.4))))

module _ (limits : Limits) (t : Tokens) (at : ℕ) (home : RoutineKind) (d : ℕ) (c : Counts) (h : at ≤ length t.spots.items) where
  pub if_left : token_at t.spots.items at ≡ Some (token.Word word.If)
      → Leaves limits (Plain home d c) NoElse (IfParts home d c) (λ x. ElseFollow x.1.1.1) (λ x. if_out x.0 x.1.0 x.1.1.0 x.1.1.1) t.spots.items at at
  if_left e = narrow limits t.spots.items e (record { back = λ w z b r f l. if_back z (keyword_back z word.If (λ h. h) r.1 l) f; forth = λ w x r. if_forth home d c w x.0 x.1.0 x.1.1.0 x.1.1.1 r })
      (nothing limits t.spots.items (Plain home d c) NoElse at h)

  pub while_left : token_at t.spots.items at ≡ Some (token.Word word.While)
      → Leaves limits (Plain home d c) NoElse (Then (Tok (token.Word word.While)) (λ p. Then (Test (suc d)) (λ e. BodyPart home (suc d) c))) (λ x. NoElse x.1.1)
      (λ x. with (WhileStmt x.0 x.1.0 x.1.1.body End) x.1.1) t.spots.items at at
  while_left e = narrow limits t.spots.items e (record {
    back = λ w z b r f l. let q = keyword_back z word.While (λ h. h) r.1 l in record { tree = q.tree; rule = q.rule; is = q.is; follows = else_as b q.tree.1.1 z (ap (λ v. v.ends_if) q.is) f };
    forth = λ u x r. (x.0, while_stmt x.0 r.back.front.0 r.back.front.1 r.back.front.2 r.back.rest r.back.front.3 r.back.back (behind r.is r.front (in_brackets _ _ r.back.is r.back.front.4 refl)));
  }) (nothing limits t.spots.items (Plain home d c) NoElse at h)

  pub loop_left : token_at t.spots.items at ≡ Some (token.Word word.Loop)
      → Leaves limits (Plain home d c) NoElse (Then (Tok (token.Word word.Loop)) (λ p. BodyPart home (suc d) c)) (λ x. NoElse x.1) (λ x. with (LoopStmt x.0 x.1.body End) x.1) t.spots.items at at
  loop_left e = narrow limits t.spots.items e (record {
    back = λ w z b r f l. let q = keyword_back z word.Loop (λ h. h) r.1 l in record { tree = q.tree; rule = q.rule; is = q.is; follows = else_as b q.tree.1 z (ap (λ v. v.ends_if) q.is) f };
    forth = λ u x r. (x.0, loop_stmt x.0 r.rest r.back (behind r.is r.front refl));
  }) (nothing limits t.spots.items (Plain home d c) NoElse at h)

  pub for_left : token_at t.spots.items at ≡ Some (token.Word word.For)
      → Leaves limits (Plain home d c) NoElse (Then (Tok (token.Word word.For))
      (λ p. Then (Tok (token.Sign sign.OpenRound)) (λ q. Then (StartPart home (suc d) c) (λ a. Then (MaybeExpr (suc d)) (λ e. Then (NextPart (suc d) a.1) (λ b. BodyPart home (suc d) b.1))))))
      (λ x. NoElse x.1.1.1.1.1)
      (λ x. with (ForStmt x.0 x.1.1.0.0 x.1.1.1.0 x.1.1.1.1.0.0 x.1.1.1.1.1.body End) x.1.1.1.1.1) t.spots.items at at
  for_left e = narrow limits t.spots.items e (record {
    back = λ w z b r f l. let q = keyword_back z word.For (λ h. h) r.1 l in record { tree = q.tree; rule = q.rule; is = q.is; follows = else_as b q.tree.1.1.1.1.1 z (ap (λ v. v.ends_if) q.is) f };
    forth = λ u x r.
        let a = r.back.back.front in
        let e = r.back.back.back.front in
        let b = r.back.back.back.back.front in
        let o = r.back.back.back.back in (
          x.0,
          for_stmt x.0 x.1.0 a.0 e.0 b.0 a.1 e.1 b.1 o.rest a.2 e.2 b.2 o.back
              (behind r.is r.front (behind r.back.is r.back.front (closed_by _ _ r.back.back.is a.3 (closed_by _ _ r.back.back.back.is e.3 (closed_by _ _ o.is b.3 refl))))),
        );
  }) (nothing limits t.spots.items (Plain home d c) NoElse at h)

  pub break_left : token_at t.spots.items at ≡ Some (token.Word word.Break)
      → Leaves limits (Plain home d c) NoElse (Then (Tok (token.Word word.Break)) (λ p. Tok (token.Sign sign.Semicolon))) Any (λ x. closed (BreakStmt x.0 End) c) t.spots.items at at
  break_left e = narrow limits t.spots.items e (record {
    back = λ w z b r f l. let q = keyword_back z word.Break (λ h. h) r.1 l in record { tree = q.tree; rule = q.rule; is = q.is; follows = tt };
    forth = λ u x r. (x.0, subst (λ z. PlainRule home d c c z x.0 End (BreakStmt x.0 End) false) (sym (behind r.is r.front r.back)) (break_stmt x.0 x.1));
  }) (nothing limits t.spots.items (Plain home d c) NoElse at h)

  pub continue_left : token_at t.spots.items at ≡ Some (token.Word word.Continue)
      → Leaves limits (Plain home d c) NoElse (Then (Tok (token.Word word.Continue)) (λ p. Tok (token.Sign sign.Semicolon))) Any (λ x. closed (ContinueStmt x.0 End) c) t.spots.items at at
  continue_left e = narrow limits t.spots.items e (record {
    back = λ w z b r f l. let q = keyword_back z word.Continue (λ h. h) r.1 l in record { tree = q.tree; rule = q.rule; is = q.is; follows = tt };
    forth = λ u x r. (x.0, subst (λ z. PlainRule home d c c z x.0 End (ContinueStmt x.0 End) false) (sym (behind r.is r.front r.back)) (continue_stmt x.0 x.1));
  }) (nothing limits t.spots.items (Plain home d c) NoElse at h)

  pub return_left : token_at t.spots.items at ≡ Some (token.Word word.Return)
      → Leaves limits (Plain home d c) NoElse (Then (Tok (token.Word word.Return)) (λ p. Returned home (suc d))) Any (λ x. closed (ReturnStmt x.0 x.1 End) c) t.spots.items at at
  return_left e = narrow limits t.spots.items e (record {
    back = λ w z b r f l. let q = keyword_back z word.Return (λ h. h) r.1 l in record { tree = q.tree; rule = q.rule; is = q.is; follows = tt };
    forth = λ u x r. (x.0, return_stmt x.0 r.back.0 r.back.1 r.back.2 (behind r.is r.front r.back.3));
  }) (nothing limits t.spots.items (Plain home d c) NoElse at h)

  pub throw_left : token_at t.spots.items at ≡ Some (token.Word word.Throw)
      → Leaves limits (Plain home d c) NoElse (Then (Tok (token.Word word.Throw)) (λ p. MaybeExpr (suc d))) Any (λ x. closed (ThrowStmt x.0 x.1 End) c) t.spots.items at at
  throw_left e = narrow limits t.spots.items e (record {
    back = λ w z b r f l. let q = keyword_back z word.Throw (λ h. h) r.1 l in record { tree = q.tree; rule = q.rule; is = q.is; follows = tt };
    forth = λ u x r. (x.0, throw_stmt x.0 r.back.0 r.back.1 r.back.2 (behind r.is r.front r.back.3));
  }) (nothing limits t.spots.items (Plain home d c) NoElse at h)

  pub try_left : token_at t.spots.items at ≡ Some (token.Word word.Try)
      → Leaves limits (Plain home d c) NoElse (Then (Tok (token.Word word.Try)) (λ p. Then (Block home (suc d) c) (λ o. Then Catch (λ x. Block home (suc d) o.counts)))) Any
      (λ x. closed (TryStmt x.0 x.1.0.body x.1.1.0.0 x.1.1.0.1 x.1.1.1.body End) x.1.1.1.counts) t.spots.items at at
  try_left e = narrow limits t.spots.items e (record {
    back = λ w z b r f l. let q = keyword_back z word.Try (λ h. h) r.1 l in record { tree = q.tree; rule = q.rule; is = q.is; follows = tt };
    forth = λ u x r.
        let k = r.back.back.front in (
          x.0,
          try_stmt x.0 x.1.1.0.0 k.0 k.1 k.2 k.3 x.1.1.0.1 r.back.first r.back.back.rest (block_rule r.back.front) (block_rule r.back.back.back)
              (behind r.is r.front (glue _ r.back.is (r.back.back.is ∙ ap (λ z. z ++ r.back.back.rest) k.4))),
        );
  }) (nothing limits t.spots.items (Plain home d c) NoElse at h)

  pub choose_left : token_at t.spots.items at ≡ Some (token.Word word.Choose)
      → Leaves limits (Plain home d c) NoElse (Then (Tok (token.Word word.Choose)) (λ p. Then (Tok (token.Sign sign.OpenCurly)) (λ q. AllWhens home (suc d) c))) Any
      (λ x. closed (ChooseStmt x.0 x.1.1.0 End) x.1.1.1) t.spots.items at at
  choose_left e = narrow limits t.spots.items e (record {
    back = λ w z b r f l. let q = keyword_back z word.Choose (λ h. h) r.1 l in record { tree = q.tree; rule = q.rule; is = q.is; follows = tt };
    forth = λ u x r.
        let k = r.back.back in
        (x.0, choose_stmt x.0 x.1.0 k.0 k.1 k.2 k.5 k.6 (behind r.is r.front (behind r.back.is r.back.front k.7)));
  }) (nothing limits t.spots.items (Plain home d c) NoElse at h)

  -- branches
  pub whens_left : Leaves limits (AllWhens home d c) Any (Then (WhenPart home d 1 c) (λ o. WhensPart home d 2 o.counts)) Any
      (λ x. (MoreBranches x.0.at x.0.waiting x.0.body x.1.0, x.1.1)) t.spots.items at at
  whens_left = narrow limits t.spots.items refl (record {
    back = λ w z b r f l. all_whens_back z r;
    forth = λ u x r. (r.back.0, r.first, r.back.1, x.0.counts, x.1.0, r.front x.1.0, r.back.2, glue _ r.is r.back.3);
  }) (nothing limits t.spots.items (AllWhens home d c) Any at h)

  pub when_left : (n : ℕ) → Leaves limits (WhenPart home d n c) (NotBefore (token.Word word.Else)) (WhenSeq home d n c) (λ x. NoElse x.1.1.1.1) when_of t.spots.items at at
  when_left n = narrow limits t.spots.items refl (record {
    back = λ w z b r f l. when_back z r f;
    forth = λ u x r bs. branch x.0 x.1.0 x.1.1.1.0 r.back.back.first r.back.back.back.rest r.back.back.front r.back.back.back.back
        (behind r.is r.front (behind r.back.is r.back.front (glue _ r.back.back.is (behind r.back.back.back.is r.back.back.back.front refl))));
  }) (nothing limits t.spots.items (WhenPart home d n c) _ at h)

  -- the parts of a `for`
  pub no_start : token_at t.spots.items at ≡ Some (token.Sign sign.Semicolon) → Leaves limits (StartPart home d c) Any (Tok (token.Sign sign.Semicolon)) Any (λ p. (End, c)) t.spots.items at at
  no_start e = narrow limits t.spots.items e (record { back = λ w z b r f l. no_start_back z r l; forth = λ u p r. (p, [], no_init, r) }) (nothing limits t.spots.items (StartPart home d c) Any at h)

  pub start_left : (token_at t.spots.items at ≡ Some (token.Sign sign.Semicolon) → ⊥)
      → Leaves limits (StartPart home d c) Any (Then (Begun c d (Init home d (one_statement c))) (λ o. Tok (token.Sign sign.Semicolon))) Any (λ x. (x.0.body, x.0.counts)) t.spots.items at at
  start_left n = narrow limits t.spots.items refl (record {
    back = λ w z b r f l. start_back z (token_at t.spots.items at) n r l;
    forth = λ u x r. (x.1, r.first, some_init r.front.1.0 r.front.0 r.front.1.1 r.front.2, glue _ r.is r.back);
  }) (nothing limits t.spots.items (StartPart home d c) Any at h)

-- a statement in a list, and a body
module _ (home : RoutineKind) (d : ℕ) (c : Counts) where
  pub one_plain : (o : Option Token) → (o ≡ Some (token.Sign sign.OpenCurly) → ⊥) → Turns (One home d c) NoElse (Begun c d (Plain home d (one_statement c))) NoElse (λ x. x) o
  one_plain o n = record { back = λ w z b r f l. one_plain_back z o n r f l; forth = λ w x r. plain_stmt r.1.0 r.0 r.1.1 r.2 }

  pub one_block : Turns (One home d c) NoElse (Begun c d (Placed (Block home (suc d) (one_statement c)))) Any (λ x. closed (BlockStmt x.0 x.1.body End) x.1.counts) (Some (token.Sign sign.OpenCurly))
  one_block = record { back = λ w z b r f l. one_block_back z r l; forth = λ w x r. block_stmt x.0 r.0 (block_rule r.1.1) r.1.0 r.2 }

  pub body_plain : (o : Option Token) → (o ≡ Some (token.Sign sign.OpenCurly) → ⊥) → Turns (BodyPart home d c) NoElse (Begun c d (Plain home d (one_statement c))) NoElse (λ x. x) o
  body_plain o n = record { back = λ w z b r f l. body_plain_back z o n r f l; forth = λ w x r. one_body r.1.0 r.0 r.1.1 r.2 }

  pub body_block : Turns (BodyPart home d c) NoElse (Block home d c) Any (λ o. closed o.body o.counts) (Some (token.Sign sign.OpenCurly))
  body_block = record { back = λ w z b r f l. body_block_back z r l; forth = λ u x r. block_body (block_rule r) }

  pub block_turns : (o : Option Token) → Turns (Block home d c) Any (Then (Tok (token.Sign sign.OpenCurly)) (λ p. Closing home d c)) Any (λ x. x.1) o
  block_turns o = record { back = λ w z b r f l. block_back z r; forth = λ u x r. (x.0, r.back.0, r.back.1, behind r.is r.front r.back.2) }

module _ (limits : Limits) (t : Tokens) (at d : ℕ) (c : Counts) (h : at ≤ length t.spots.items) where
  pub no_next : token_at t.spots.items at ≡ Some (token.Sign sign.CloseRound) → Leaves limits (NextPart d c) Any (Tok (token.Sign sign.CloseRound)) Any (λ p. (End, c)) t.spots.items at at
  no_next e = narrow limits t.spots.items e (record { back = λ w z b r f l. no_next_back z r l; forth = λ u p r. (p, [], no_step, r) }) (nothing limits t.spots.items (NextPart d c) Any at h)

  pub next_left : (token_at t.spots.items at ≡ Some (token.Sign sign.CloseRound) → ⊥)
      → Leaves limits (NextPart d c) Any (Then (Begun c d (Assignment d)) (λ b. Tok (token.Sign sign.CloseRound))) Any (λ x. (x.0, one_statement c)) t.spots.items at at
  next_left n = narrow limits t.spots.items refl (record {
    back = λ w z b r f l. next_back z (token_at t.spots.items at) n r l;
    forth = λ u x r. (x.1, r.first, some_step r.front.1.0 r.front.0 r.front.1.1 r.front.2, glue _ r.is r.back);
  }) (nothing limits t.spots.items (NextPart d c) Any at h)

module _ (limits : Limits) (t : Tokens) (at d : ℕ) (h : at ≤ length t.spots.items) where
  pub no_expr_left : token_at t.spots.items at ≡ Some (token.Sign sign.Semicolon) → Leaves limits (MaybeExpr d) Any (Tok (token.Sign sign.Semicolon)) Any (λ p. None) t.spots.items at at
  no_expr_left e = narrow limits t.spots.items e (record { back = λ w z b r f l. no_expr_back z r l; forth = λ u p r. (p, [], no_expr, r) }) (nothing limits t.spots.items (MaybeExpr d) Any at h)

  pub some_expr_left : (token_at t.spots.items at ≡ Some (token.Sign sign.Semicolon) → ⊥)
      → Leaves limits (MaybeExpr d) Any (Then (ExprRule 0 d) (λ e. Tok (token.Sign sign.Semicolon))) Any (λ x. Some x.0) t.spots.items at at
  some_expr_left n = narrow limits t.spots.items refl (record {
    back = λ w z b r f l. some_expr_back z (token_at t.spots.items at) n r l;
    forth = λ u x r. (x.1, r.first, some_expr r.front, glue _ r.is r.back);
  }) (nothing limits t.spots.items (MaybeExpr d) Any at h)

-- what a `return` gives, where it may be nothing
pub maybe_returned_turns : (home : RoutineKind) (d : ℕ) (o : Option Token) → has_bare_return home ≡ true → Turns (Returned home d) Any (MaybeExpr d) Any (λ x. x) o
maybe_returned_turns home d o b = record { back = λ w z e r f l. maybe_returned_back z r; forth = λ u x r. (r.0, r.1, by_rule r.2, r.3) }
  where
    by_rule : {of : List Marked} {e : Option ExprTree} → MaybeExprRule d of e → ReturnedRule home d of e
    by_rule no_expr = nothing_given b
    by_rule (some_expr x) = something x

-- and where it may not
pub returned_left : (limits : Limits) (t : Tokens) (at : ℕ) (home : RoutineKind) (d : ℕ) → at ≤ length t.spots.items → has_bare_return home ≡ false
    → Leaves limits (Returned home d) Any (Then (ExprRule 0 d) (λ e. Tok (token.Sign sign.Semicolon))) Any (λ x. Some x.0) t.spots.items at at
returned_left limits t at home d h b = narrow limits t.spots.items refl (record { back = λ w z e r f l. returned_back z b r; forth = λ u x r. (x.1, r.first, something r.front, glue _ r.is r.back) })
    (nothing limits t.spots.items (Returned home d) Any at h)

pub catch_left : (limits : Limits) (t : Tokens) (at : ℕ) → at ≤ length t.spots.items → Leaves limits Catch Any CatchSeq Any (λ x. (x.0, x.1.1.1.1.0)) t.spots.items at at
catch_left limits t at h = narrow limits t.spots.items refl (record {
  back = λ w z b r f l. catch_back z r;
  forth = λ u x r. (
    x.1.0,
    x.1.1.0,
    x.1.1.1.0,
    x.1.1.1.1.1,
    behind r.is r.front
        (behind r.back.is r.back.front (behind r.back.back.is r.back.back.front
        (behind r.back.back.back.is r.back.back.back.front (behind r.back.back.back.back.is r.back.back.back.back.front r.back.back.back.back.back)))),
  );
}) (nothing limits t.spots.items Catch Any at h)

-- behind the body of an `if`
pub else_none : (limits : Limits) (spots : List Spot) (at : ℕ) (home : RoutineKind) (d : ℕ) (o : Out) → at ≤ length spots → o.ends_if ≡ true → Reads limits (ElsePart home d o) ElseFollow spots at None at
else_none limits spots at home d o h e = empty limits spots (ElsePart home d o) ElseFollow at None (token_at spots at) h refl refl (λ w z u r f l. no_second w u r)
  where
    no_second : (w : List Marked) (u : Option Out) → ElsePart home d o w u → (u ≡ None) × (w ≡ [])
    no_second w None r = (refl, r)
    no_second w (Some u) r = let f : true ≡ false = sym e ∙ r.0 in absurd (cc)

pub no_else : (limits : Limits) (spots : List Spot) (at : ℕ) (home : RoutineKind) (d : ℕ) (o : Out) → at ≤ length spots → (token_at spots at ≡ Some (token.Word word.Else) → ⊥)
    → Reads limits (ElsePart home d o) ElseFollow spots at None at
no_else limits spots at home d o h n = empty limits spots (ElsePart home d o) ElseFollow at None (token_at spots at) h refl refl (λ w z u r f l. no_else_back home d o z (token_at spots at) n r l)

module _ (limits : Limits) (spots : List Spot) where
  pub else_left : {A : Type 0} {W : List Marked → A → Type 0} {FW : A → List Marked → Type 0} {g : Option Out → A} {from at : ℕ} (home : RoutineKind) (d : ℕ) (o : Out)
      → token_at spots at ≡ Some (token.Word word.Else) → o.ends_if ≡ false → Leaves limits W FW (ElsePart home d o) ElseFollow g spots from at
      → Leaves limits W FW (Then (Tok (token.Word word.Else)) (λ p. BodyPart home d o.counts)) (λ x. NoElse x.1) (λ x. g (Some x.1)) spots from at
  else_left home d o e f l = narrow limits spots e (record { back = λ w z b r f l. else_back home d o z r f l; forth = λ w x r. (f, x.0, r.rest, r.back, behind r.is r.front refl) }) l

  -- one statement more
  pub stmt_left : {A : Type 0} {W : List Marked → A → Type 0} {FW : A → List Marked → Type 0} {g : BlockOut → A} {from at d : ℕ} {home : RoutineKind} {c : Counts}
      → (token_at spots at ≡ Some (token.Sign sign.CloseCurly) → ⊥) → Leaves limits W FW (Closing home d c) Any g spots from at
      → Leaves limits W FW (Then (One home d c) (λ o. Closing home d o.counts)) Any (λ x. g (record { body = put_before x.0.body x.1.body; counts = x.1.counts; close = x.1.close })) spots from at
  stmt_left {at = at} n l = narrow limits spots refl (record {
    back = λ w z b r f k. more_back z (token_at spots at) n r k;
    forth = λ u x r. (r.first ++ r.back.0, more_stmts r.first r.back.0 (lift x.1.body r.front) r.back.1 refl, glue _ r.is r.back.2 ∙ sym (append_assoc r.first r.back.0 _));
  }) l

  pub end_left : {A : Type 0} {W : List Marked → A → Type 0} {FW : A → List Marked → Type 0} {g : BlockOut → A} {from at d : ℕ} {home : RoutineKind} {c : Counts}
      → token_at spots at ≡ Some (token.Sign sign.CloseCurly) → Leaves limits W FW (Closing home d c) Any g spots from at
      → Leaves limits W FW (Tok (token.Sign sign.CloseCurly)) Any (λ p. g (record { body = End; counts = c; close = p })) spots from at
  end_left {c = c} e l = narrow limits spots e (record { back = λ w z b r f k. end_back z r k; forth = λ u p r. ([], no_stmts, r) }) l

  -- one branch more
  pub more_left : {A : Type 0} {W : List Marked → A → Type 0} {FW : A → List Marked → Type 0} {g : Branches × Counts → A} {from at d n : ℕ} {home : RoutineKind} {c : Counts}
      → token_at spots at ≡ Some (token.Word word.When) → Leaves limits W FW (WhensPart home d n c) Any g spots from at
      → Leaves limits W FW (Then (WhenPart home d n c) (λ o. WhensPart home d (suc n) o.counts)) Any (λ x. g (MoreBranches x.0.at x.0.waiting x.0.body x.1.0, x.1.1)) spots from at
  more_left e l = narrow limits spots e (record {
    back = λ w z b r f k. more_whens_back z (Some (token.Word word.When)) (λ f. word_no_sign (Some (token.Word word.When)) refl f) r k;
    forth = λ u x r. (r.back.0, r.first ++ r.back.1, more_whens r.first r.back.1 (r.front x.1.0) r.back.2 refl, glue _ r.is r.back.3 ∙ sym (append_assoc r.first r.back.1 _));
  }) l

  -- no branch more: what isn't a branch has to close them
  pub end_whens : {A : Type 0} {W : List Marked → A → Type 0} {FW : A → List Marked → Type 0} {g : Branches × Counts → A} {from at d n : ℕ} {home : RoutineKind} {c : Counts}
      → (token_at spots at ≡ Some (token.Word word.When) → ⊥) → Leaves limits W FW (WhensPart home d n c) Any g spots from at
      → Leaves limits W FW (Tok (token.Sign sign.CloseCurly)) Any (λ p. g (NoBranches, c)) spots from at
  end_whens {at = at} {c = c} m l = narrow limits spots refl (record { back = λ w z b r f k. no_when_back z (token_at spots at) m r k; forth = λ u p r. (p, [], no_whens, r) }) l
