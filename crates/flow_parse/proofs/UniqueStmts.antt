-- Tokens have one meaning as a statement.
use Rattle.std.proofs.Common.{◌≡◌, ℕ, zero, suc, true, false, List, [], ◌∷◌, ◌++◌, refl, sym, ap, ◌∙◌, subst, arith, inl, inr}
use Rattle.std.specs.declared.option.Option.{Option}
use Rattle.std.specs.declared.option.Option.TheVariants.{None, Some}
use Rattle.flow_base.specs.declared.place.Place.{Place}
use Rattle.flow_tree.specs.declared.token.Token.TheVariants as token
use Rattle.flow_tree.specs.declared.token.Word.{Word}
use Rattle.flow_tree.specs.declared.token.Word.TheVariants as word
use Rattle.flow_tree.specs.declared.token.Sign.TheVariants as sign
use Rattle.flow_tree.specs.declared.ty.Ident.{Ident}
use Rattle.flow_tree.specs.declared.decl.RoutineKind.{RoutineKind}
use Rattle.flow_tree.specs.Body.{End, BlockStmt, WhileStmt, ForStmt, LoopStmt, BreakStmt, ContinueStmt, ReturnStmt, ThrowStmt, TryStmt, ChooseStmt, NoBranches, MoreBranches}
use Rattle.flow_tree.specs.GrammarToken.{Node, Branch, Marked}
use Rattle.flow_tree.specs.Grammar.{sign_at, word_at, name_at, ExprRule}
use Rattle.flow_tree.specs.GrammarStmt.{Counts, one_statement}
use Rattle.flow_parse.specs.Openers.{StmtToken, WhenToken}
use Rattle.flow_parse.specs.Reading.{Tok, Named, Then, Any}
use Rattle.flow_parse.specs.Follow.{ExprEnds, Before, NotBefore}
use Rattle.flow_parse.specs.Parts.{Out, NoElse, Test, MaybeExpr, Returned, StartPart, NextPart, Placed, Begun, WaitingPart, Init, Assignment, Simple, Plain, One, BodyPart, Closing, Block, Catch, WhenPart, WhensPart, AllWhens, put_before}
use Rattle.flow_parse.proofs.Shapes.{closed}
use Rattle.flow_parse.proofs.Shapes.{with}
use Rattle.flow_parse.proofs.Looking.{Back}
use Rattle.flow_parse.proofs.Backs.{tok_front, front}
use Rattle.flow_parse.proofs.Narrow.{ends_is, before_is, not_before_same}
use Rattle.flow_parse.proofs.StmtBacks.{stmt_starts, IsKeyword, at_keyword, keyword_back, plain_back, ElsePart, ElseFollow, if_out, IfParts, if_back, else_back, no_else_back, no_expr_back, some_expr_back, maybe_returned_back, no_start_back, start_back, no_next_back, next_back, one_block_back, one_plain_back, body_block_back, body_plain_back, block_back, end_back, more_back, closing_no_else, WhenSeq, when_of, when_back, all_whens_back, end_whens_back, more_whens_back, whens_no_else, when_starts}
use Rattle.flow_parse.proofs.Unique.{Uniq, UniqAt, uniq_by, at_nil, at_narrow, narrowed, uniq_opening, uniq_name, uniq_begun, uniq_placed, seq, seq_less, seq_tok, same_tok, at_close, at_semicolon, at_open_curly, at_close_curly, at_else}
use Rattle.flow_parse.proofs.UniqueExprs.{uniq_expr}
use Rattle.flow_parse.proofs.UniqueParts.{uniq_test, uniq_waiting, uniq_assignment, uniq_init, uniq_simple}

-- the parts of a `for`
uniq_maybe : (d k : ℕ) → Uniq k (MaybeExpr d) Any
uniq_maybe d k = uniq_by (MaybeExpr d) Any k (λ o. elim (at_semicolon o) [
  | inl e ↦ subst (λ y. UniqAt y k (MaybeExpr d) Any) (sym e) (at_narrow (MaybeExpr d) Any (Tok (token.Sign sign.Semicolon)) Any (λ p. None) k (Some (token.Sign sign.Semicolon))
      (λ w z b r f l. no_expr_back z r l) (uniq_opening [] (token.Sign sign.Semicolon) k))
  | inr n ↦ at_narrow (MaybeExpr d) Any (Then (ExprRule 0 d) (λ e. Tok (token.Sign sign.Semicolon))) Any (λ x. Some x.0) k o (λ w z b r f l. some_expr_back z o n r l)
      (seq (ExprRule 0 d) ExprEnds (λ e. Tok (token.Sign sign.Semicolon)) Any k (λ a b v z r f. ends_is a (sign_at sign.Semicolon b) v [] z r tt) (uniq_expr d k)
      (λ e. uniq_opening [] (token.Sign sign.Semicolon) k))
])

-- of what a `return` may give there is no more than an expression or nothing
uniq_returned : (home : RoutineKind) (d k : ℕ) → Uniq k (Returned home d) Any
uniq_returned home d k = narrowed (Returned home d) Any (MaybeExpr d) Any (λ x. x) k (λ w z b r f. maybe_returned_back z r) (uniq_maybe d k)

uniq_start : (home : RoutineKind) (d : ℕ) (c : Counts) (k : ℕ) → Uniq k (StartPart home d c) Any
uniq_start home d c k = uniq_by (StartPart home d c) Any k (λ o. elim (at_semicolon o) [
  | inl e ↦ subst (λ y. UniqAt y k (StartPart home d c) Any) (sym e)
      (at_narrow (StartPart home d c) Any (Tok (token.Sign sign.Semicolon)) Any (λ p. (End, c)) k (Some (token.Sign sign.Semicolon)) (λ w z b r f l. no_start_back z r l)
      (uniq_opening [] (token.Sign sign.Semicolon) k))
  | inr n ↦ at_narrow (StartPart home d c) Any (Then (Begun c d (Init home d (one_statement c))) (λ o. Tok (token.Sign sign.Semicolon))) Any (λ x. (x.0.body, x.0.counts)) k o
      (λ w z b r f l. start_back z o n r l)
      (seq (Begun c d (Init home d (one_statement c))) (Before (token.Sign sign.Semicolon)) (λ o. Tok (token.Sign sign.Semicolon)) Any k
      (λ a b v z r f. before_is a (sign_at sign.Semicolon b) v [] z r)
      (uniq_begun (Init home d (one_statement c)) (Before (token.Sign sign.Semicolon)) c d k (uniq_init home d (one_statement c) k)) (λ o. uniq_opening [] (token.Sign sign.Semicolon) k))
])

uniq_next : (d : ℕ) (c : Counts) (k : ℕ) → Uniq k (NextPart d c) Any
uniq_next d c k = uniq_by (NextPart d c) Any k (λ o. elim (at_close o) [
  | inl e ↦ subst (λ y. UniqAt y k (NextPart d c) Any) (sym e) (at_narrow (NextPart d c) Any (Tok (token.Sign sign.CloseRound)) Any (λ p. (End, c)) k (Some (token.Sign sign.CloseRound))
      (λ w z b r f l. no_next_back z r l) (uniq_opening [] (token.Sign sign.CloseRound) k))
  | inr n ↦ at_narrow (NextPart d c) Any (Then (Begun c d (Assignment d)) (λ b. Tok (token.Sign sign.CloseRound))) Any (λ x. (x.0, one_statement c)) k o (λ w z b r f l. next_back z o n r l)
      (seq (Begun c d (Assignment d)) ExprEnds (λ o. Tok (token.Sign sign.CloseRound)) Any k (λ a b v z r f. ends_is a (sign_at sign.CloseRound b) v [] z r tt)
      (uniq_begun (Assignment d) ExprEnds c d k (uniq_assignment d k)) (λ o. uniq_opening [] (token.Sign sign.CloseRound) k))
])

abbrev pub CatchSeq : List Marked → Place × (Place × (Place × (Place × (Ident × Place)))) → Type 0
CatchSeq w x = Then (Tok (token.Word word.Catch)) (λ p. Then (Tok (token.Sign sign.OpenRound))
    (λ q. Then (Tok (token.Word word.Error)) (λ r. Then (Tok (token.Sign sign.Amp)) (λ s. Then Named (λ x. Tok (token.Sign sign.CloseRound)))))) w x

pub catch_back : {w : List Marked} {x : Place × Ident} (z : List Marked) → Catch w x → Back Catch Any CatchSeq Any (λ y. (y.0, y.1.1.1.1.0)) w z x
catch_back {x = x} z r = record {
  tree = (x.0, (r.0, (r.1, (r.2, (x.1, r.3)))));
  rule = tok_front (token.Word word.Catch) x.0 (r.0, (r.1, (r.2, (x.1, r.3))))
      (sign_at sign.OpenRound r.0 ∷ word_at word.Error r.1 ∷ sign_at sign.Amp r.2 ∷ name_at x.1 ∷ sign_at sign.CloseRound r.3 ∷ []) r.4
      (tok_front (token.Sign sign.OpenRound) r.0 (r.1, (r.2, (x.1, r.3))) (word_at word.Error r.1 ∷ sign_at sign.Amp r.2 ∷ name_at x.1 ∷ sign_at sign.CloseRound r.3 ∷ []) refl
      (tok_front (token.Word word.Error) r.1 (r.2, (x.1, r.3)) (sign_at sign.Amp r.2 ∷ name_at x.1 ∷ sign_at sign.CloseRound r.3 ∷ []) refl
      (tok_front (token.Sign sign.Amp) r.2 (x.1, r.3) (name_at x.1 ∷ sign_at sign.CloseRound r.3 ∷ []) refl
      (front Named x.1 r.3 (name_at x.1 ∷ []) (sign_at sign.CloseRound r.3 ∷ []) refl refl refl))));
  is = refl;
  follows = tt;
}

uniq_catch : (k : ℕ) → Uniq k Catch Any
uniq_catch k = narrowed Catch Any CatchSeq Any (λ y. (y.0, y.1.1.1.1.0)) k (λ w z b r f. catch_back z r)
    (same_tok [] (token.Word word.Catch) (λ p. Then (Tok (token.Sign sign.OpenRound))
    (λ q. Then (Tok (token.Word word.Error)) (λ r. Then (Tok (token.Sign sign.Amp)) (λ s. Then Named (λ x. Tok (token.Sign sign.CloseRound)))))) Any k (λ p.
    same_tok [] (token.Sign sign.OpenRound) (λ q. Then (Tok (token.Word word.Error)) (λ r. Then (Tok (token.Sign sign.Amp)) (λ s. Then Named (λ x. Tok (token.Sign sign.CloseRound))))) Any k (λ q.
    same_tok [] (token.Word word.Error) (λ r. Then (Tok (token.Sign sign.Amp)) (λ s. Then Named (λ x. Tok (token.Sign sign.CloseRound)))) Any k (λ r.
    same_tok [] (token.Sign sign.Amp) (λ s. Then Named (λ x. Tok (token.Sign sign.CloseRound))) Any k (λ s.
    seq Named Any (λ x. Tok (token.Sign sign.CloseRound)) Any k (λ a b v z r f. tt) (uniq_name k) (λ x. uniq_opening [] (token.Sign sign.CloseRound) k))))))

-- what of fewer than k tokens has one meaning
record AllUniq (k : ℕ) : Type 0 where
  body : (home : RoutineKind) (d : ℕ) (c : Counts) → Uniq k (BodyPart home d c) NoElse
  block : (home : RoutineKind) (d : ℕ) (c : Counts) → Uniq k (Block home d c) Any
  closing : (home : RoutineKind) (d : ℕ) (c : Counts) → Uniq k (Closing home d c) Any
  whens : (home : RoutineKind) (d n : ℕ) (c : Counts) → Uniq k (WhensPart home d n c) Any
  all_whens : (home : RoutineKind) (d : ℕ) (c : Counts) → Uniq k (AllWhens home d c) Any

pub else_as : (u v : Out) (z : List Marked) → u.ends_if ≡ v.ends_if → NoElse u z → NoElse v z
else_as u v z e f = λ h. not_before_same (token.Word word.Else) u v z (f (e ∙ h))

pub else_follows : (home : RoutineKind) (d : ℕ) (a : Out) (b : Option Out) (v z : List Marked) → ElsePart home d a v b → ElseFollow b z → NoElse a (v ++ z)
else_follows home d a None v z r f = λ h. subst (λ y. NotBefore (token.Word word.Else) a (y ++ z)) (sym r) (not_before_same {A = Option Out} {B = Out} (token.Word word.Else) None a z f)
else_follows home d a (Some b) v z r f = λ h. let e : true ≡ false = sym h ∙ r.0 in absurd (cc)

module _ (k : ℕ) (all : AllUniq k) (home : RoutineKind) (d : ℕ) (c : Counts) where
  uniq_else : (o : Out) → Uniq k (ElsePart home (suc d) o) ElseFollow
  uniq_else o = uniq_by (ElsePart home (suc d) o) ElseFollow k (λ t. elim (at_else t) [
    | inl e ↦ subst (λ y. UniqAt y k (ElsePart home (suc d) o) ElseFollow) (sym e)
        (at_narrow (ElsePart home (suc d) o) ElseFollow (Then (Tok (token.Word word.Else)) (λ p. BodyPart home (suc d) o.counts)) (λ x. NoElse x.1) (λ x. Some x.1) k (Some (token.Word word.Else))
        (λ w z b r f l. else_back home (suc d) o z r f l)
        (same_tok [] (token.Word word.Else) (λ p. BodyPart home (suc d) o.counts) (λ x. NoElse x.1) k (λ p. all.body home (suc d) o.counts)))
    | inr n ↦ at_nil (ElsePart home (suc d) o) ElseFollow k t None (λ w z b r f l. no_else_back home (suc d) o z t n r l)
  ])

  by_word : (j : Word) → IsKeyword j → UniqAt (Some (token.Word j)) (suc k) (Plain home d c) NoElse
  by_word word.If h = at_narrow (Plain home d c) NoElse (IfParts home d c) (λ x. ElseFollow x.1.1.1) (λ x. if_out x.0 x.1.0 x.1.1.0 x.1.1.1) (suc k) (Some (token.Word word.If))
      (λ w z b r f l. if_back z (keyword_back z word.If (λ h. h) r.1 l) f)
      (seq_tok [] (token.Word word.If) (λ p. Then (Test (suc d)) (λ e. Then (BodyPart home (suc d) c) (ElsePart home (suc d)))) (λ x. ElseFollow x.1.1.1) k (λ p.
      seq (Test (suc d)) Any (λ e. Then (BodyPart home (suc d) c) (ElsePart home (suc d))) (λ x. ElseFollow x.1.1) k (λ a b v z r f. tt) (uniq_test (suc d) k) (λ e.
      seq (BodyPart home (suc d) c) NoElse (ElsePart home (suc d)) (λ x. ElseFollow x.1) k (λ a b v z r f. else_follows home (suc d) a b v z r f) (all.body home (suc d) c) uniq_else)))
  by_word word.While h = at_narrow (Plain home d c) NoElse (Then (Tok (token.Word word.While)) (λ p. Then (Test (suc d)) (λ e. BodyPart home (suc d) c))) (λ x. NoElse x.1.1)
      (λ x. with (WhileStmt x.0 x.1.0 x.1.1.body End) x.1.1) (suc k) (Some (token.Word word.While))
      (λ w z b r f l. let q = keyword_back z word.While (λ h. h) r.1 l in record { tree = q.tree; rule = q.rule; is = q.is; follows = else_as b q.tree.1.1 z (ap (λ v. v.ends_if) q.is) f })
      (seq_tok [] (token.Word word.While) (λ p. Then (Test (suc d)) (λ e. BodyPart home (suc d) c)) (λ x. NoElse x.1.1) k
      (λ p. seq (Test (suc d)) Any (λ e. BodyPart home (suc d) c) (λ x. NoElse x.1) k (λ a b v z r f. tt) (uniq_test (suc d) k) (λ e. all.body home (suc d) c)))
  by_word word.For h = at_narrow (Plain home d c) NoElse (Then (Tok (token.Word word.For))
      (λ p. Then (Tok (token.Sign sign.OpenRound)) (λ q. Then (StartPart home (suc d) c) (λ a. Then (MaybeExpr (suc d)) (λ e. Then (NextPart (suc d) a.1) (λ b. BodyPart home (suc d) b.1))))))
      (λ x. NoElse x.1.1.1.1.1) (λ x. with (ForStmt x.0 x.1.1.0.0 x.1.1.1.0 x.1.1.1.1.0.0 x.1.1.1.1.1.body End) x.1.1.1.1.1) (suc k) (Some (token.Word word.For))
      (λ w z b r f l. let q = keyword_back z word.For (λ h. h) r.1 l in record { tree = q.tree; rule = q.rule; is = q.is; follows = else_as b q.tree.1.1.1.1.1 z (ap (λ v. v.ends_if) q.is) f })
      (seq_tok [] (token.Word word.For) (λ p. Then (Tok (token.Sign sign.OpenRound))
      (λ q. Then (StartPart home (suc d) c) (λ a. Then (MaybeExpr (suc d)) (λ e. Then (NextPart (suc d) a.1) (λ b. BodyPart home (suc d) b.1))))) (λ x. NoElse x.1.1.1.1.1) k (λ p.
      same_tok [] (token.Sign sign.OpenRound) (λ q. Then (StartPart home (suc d) c) (λ a. Then (MaybeExpr (suc d)) (λ e. Then (NextPart (suc d) a.1) (λ b. BodyPart home (suc d) b.1))))
      (λ x. NoElse x.1.1.1.1) k (λ q.
      seq (StartPart home (suc d) c) Any (λ a. Then (MaybeExpr (suc d)) (λ e. Then (NextPart (suc d) a.1) (λ b. BodyPart home (suc d) b.1))) (λ x. NoElse x.1.1.1) k (λ a b v z r f. tt)
      (uniq_start home (suc d) c k) (λ a.
      seq (MaybeExpr (suc d)) Any (λ e. Then (NextPart (suc d) a.1) (λ b. BodyPart home (suc d) b.1)) (λ x. NoElse x.1.1) k (λ a b v z r f. tt) (uniq_maybe (suc d) k) (λ e.
      seq (NextPart (suc d) a.1) Any (λ b. BodyPart home (suc d) b.1) (λ x. NoElse x.1) k (λ a b v z r f. tt) (uniq_next (suc d) a.1 k) (λ b. all.body home (suc d) b.1))))))
  by_word word.Loop h = at_narrow (Plain home d c) NoElse (Then (Tok (token.Word word.Loop)) (λ p. BodyPart home (suc d) c)) (λ x. NoElse x.1) (λ x. with (LoopStmt x.0 x.1.body End) x.1) (suc k)
      (Some (token.Word word.Loop))
      (λ w z b r f l. let q = keyword_back z word.Loop (λ h. h) r.1 l in record { tree = q.tree; rule = q.rule; is = q.is; follows = else_as b q.tree.1 z (ap (λ v. v.ends_if) q.is) f })
      (seq_tok [] (token.Word word.Loop) (λ p. BodyPart home (suc d) c) (λ x. NoElse x.1) k (λ p. all.body home (suc d) c))
  by_word word.Break h = at_narrow (Plain home d c) NoElse (Then (Tok (token.Word word.Break)) (λ p. Tok (token.Sign sign.Semicolon))) Any (λ x. closed (BreakStmt x.0 End) c) (suc k)
      (Some (token.Word word.Break))
      (λ w z b r f l. let q = keyword_back z word.Break (λ h. h) r.1 l in record { tree = q.tree; rule = q.rule; is = q.is; follows = tt })
      (seq_tok [] (token.Word word.Break) (λ p. Tok (token.Sign sign.Semicolon)) Any k (λ p. uniq_opening [] (token.Sign sign.Semicolon) k))
  by_word word.Continue h = at_narrow (Plain home d c) NoElse (Then (Tok (token.Word word.Continue)) (λ p. Tok (token.Sign sign.Semicolon))) Any (λ x. closed (ContinueStmt x.0 End) c) (suc k)
      (Some (token.Word word.Continue))
      (λ w z b r f l. let q = keyword_back z word.Continue (λ h. h) r.1 l in record { tree = q.tree; rule = q.rule; is = q.is; follows = tt })
      (seq_tok [] (token.Word word.Continue) (λ p. Tok (token.Sign sign.Semicolon)) Any k (λ p. uniq_opening [] (token.Sign sign.Semicolon) k))
  by_word word.Return h = at_narrow (Plain home d c) NoElse (Then (Tok (token.Word word.Return)) (λ p. Returned home (suc d))) Any (λ x. closed (ReturnStmt x.0 x.1 End) c) (suc k)
      (Some (token.Word word.Return))
      (λ w z b r f l. let q = keyword_back z word.Return (λ h. h) r.1 l in record { tree = q.tree; rule = q.rule; is = q.is; follows = tt })
      (seq_tok [] (token.Word word.Return) (λ p. Returned home (suc d)) Any k (λ p. uniq_returned home (suc d) k))
  by_word word.Throw h = at_narrow (Plain home d c) NoElse (Then (Tok (token.Word word.Throw)) (λ p. MaybeExpr (suc d))) Any (λ x. closed (ThrowStmt x.0 x.1 End) c) (suc k)
      (Some (token.Word word.Throw))
      (λ w z b r f l. let q = keyword_back z word.Throw (λ h. h) r.1 l in record { tree = q.tree; rule = q.rule; is = q.is; follows = tt })
      (seq_tok [] (token.Word word.Throw) (λ p. MaybeExpr (suc d)) Any k (λ p. uniq_maybe (suc d) k))
  by_word word.Try h = at_narrow (Plain home d c) NoElse (Then (Tok (token.Word word.Try)) (λ p. Then (Block home (suc d) c) (λ o. Then Catch (λ x. Block home (suc d) o.counts)))) Any
      (λ x. closed (TryStmt x.0 x.1.0.body x.1.1.0.0 x.1.1.0.1 x.1.1.1.body End) x.1.1.1.counts) (suc k) (Some (token.Word word.Try))
      (λ w z b r f l. let q = keyword_back z word.Try (λ h. h) r.1 l in record { tree = q.tree; rule = q.rule; is = q.is; follows = tt })
      (seq_tok [] (token.Word word.Try) (λ p. Then (Block home (suc d) c) (λ o. Then Catch (λ x. Block home (suc d) o.counts))) Any k
      (λ p. seq (Block home (suc d) c) Any (λ o. Then Catch (λ x. Block home (suc d) o.counts)) Any k (λ a b v z r f. tt) (all.block home (suc d) c)
      (λ o. seq Catch Any (λ x. Block home (suc d) o.counts) Any k (λ a b v z r f. tt) (uniq_catch k) (λ x. all.block home (suc d) o.counts))))
  by_word word.Choose h = at_narrow (Plain home d c) NoElse (Then (Tok (token.Word word.Choose)) (λ p. Then (Tok (token.Sign sign.OpenCurly)) (λ q. AllWhens home (suc d) c))) Any
      (λ x. closed (ChooseStmt x.0 x.1.1.0 End) x.1.1.1) (suc k) (Some (token.Word word.Choose))
      (λ w z b r f l. let q = keyword_back z word.Choose (λ h. h) r.1 l in record { tree = q.tree; rule = q.rule; is = q.is; follows = tt })
      (seq_tok [] (token.Word word.Choose) (λ p. Then (Tok (token.Sign sign.OpenCurly)) (λ q. AllWhens home (suc d) c)) Any k
      (λ p. same_tok [] (token.Sign sign.OpenCurly) (λ q. AllWhens home (suc d) c) Any k (λ q. all.all_whens home (suc d) c)))
  by_word _ h = absurd h

  uniq_plain : Uniq (suc k) (Plain home d c) NoElse
  uniq_plain = uniq_by (Plain home d c) NoElse (suc k) (λ o. elim (at_keyword o) [
    | inl x ↦ subst (λ y. UniqAt y (suc k) (Plain home d c) NoElse) (sym x.1) (by_word x.0 x.2)
    | inr n ↦ at_narrow (Plain home d c) NoElse (Simple home d c) Any (λ x. x) (suc k) o (λ w z b r f l. plain_back z o n r l) (uniq_simple home d c (suc k))
  ])

module _ (k : ℕ) (all : AllUniq k) where
  new_block : (home : RoutineKind) (d : ℕ) (c : Counts) → Uniq (suc k) (Block home d c) Any
  new_block home d c = narrowed (Block home d c) Any (Then (Tok (token.Sign sign.OpenCurly)) (λ p. Closing home d c)) Any (λ x. x.1) (suc k) (λ w z b r f. block_back z r)
      (seq_tok [] (token.Sign sign.OpenCurly) (λ p. Closing home d c) Any k (λ p. all.closing home d c))

  begun_plain : (home : RoutineKind) (d : ℕ) (c : Counts) → Uniq (suc k) (Begun c d (Plain home d (one_statement c))) NoElse
  begun_plain home d c = uniq_begun (Plain home d (one_statement c)) NoElse c d (suc k) (uniq_plain k all home d (one_statement c))

  new_body : (home : RoutineKind) (d : ℕ) (c : Counts) → Uniq (suc k) (BodyPart home d c) NoElse
  new_body home d c = uniq_by (BodyPart home d c) NoElse (suc k) (λ o. elim (at_open_curly o) [
    | inl e ↦ subst (λ y. UniqAt y (suc k) (BodyPart home d c) NoElse) (sym e)
        (at_narrow (BodyPart home d c) NoElse (Block home d c) Any (λ o. closed o.body o.counts) (suc k) (Some (token.Sign sign.OpenCurly)) (λ w z b r f l. body_block_back z r l)
        (new_block home d c))
    | inr n ↦ at_narrow (BodyPart home d c) NoElse (Begun c d (Plain home d (one_statement c))) NoElse (λ x. x) (suc k) o (λ w z b r f l. body_plain_back z o n r f l) (begun_plain home d c)
  ])

  new_one : (home : RoutineKind) (d : ℕ) (c : Counts) → Uniq (suc k) (One home d c) NoElse
  new_one home d c = uniq_by (One home d c) NoElse (suc k) (λ o. elim (at_open_curly o) [
    | inl e ↦ subst (λ y. UniqAt y (suc k) (One home d c) NoElse) (sym e)
        (at_narrow (One home d c) NoElse (Begun c d (Placed (Block home (suc d) (one_statement c)))) Any (λ x. closed (BlockStmt x.0 x.1.body End) x.1.counts) (suc k)
        (Some (token.Sign sign.OpenCurly)) (λ w z b r f l. one_block_back z r l)
        (uniq_begun (Placed (Block home (suc d) (one_statement c))) Any c d (suc k) (uniq_placed (Block home (suc d) (one_statement c)) Any (suc k) (new_block home (suc d) (one_statement c)))))
    | inr n ↦ at_narrow (One home d c) NoElse (Begun c d (Plain home d (one_statement c))) NoElse (λ x. x) (suc k) o (λ w z b r f l. one_plain_back z o n r f l) (begun_plain home d c)
  ])

  new_closing : (home : RoutineKind) (d : ℕ) (c : Counts) → Uniq (suc k) (Closing home d c) Any
  new_closing home d c = uniq_by (Closing home d c) Any (suc k) (λ o. elim (at_close_curly o) [
    | inl e ↦ subst (λ y. UniqAt y (suc k) (Closing home d c) Any) (sym e)
        (at_narrow (Closing home d c) Any (Tok (token.Sign sign.CloseCurly)) Any (λ p. record { body = End; counts = c; close = p }) (suc k) (Some (token.Sign sign.CloseCurly))
        (λ w z b r f l. end_back z r l) (uniq_opening [] (token.Sign sign.CloseCurly) (suc k)))
    | inr n ↦ at_narrow (Closing home d c) Any (Then (One home d c) (λ o. Closing home d o.counts)) Any (λ x. record { body = put_before x.0.body x.1.body; counts = x.1.counts; close = x.1.close })
        (suc k) o (λ w z b r f l. more_back z o n r l)
        (seq_less (One home d c) NoElse (λ o. Closing home d o.counts) Any k (λ a b v z r f. closing_no_else a z r) (new_one home d c) (λ o. all.closing home d o.counts) StmtToken
        (λ w a r. stmt_starts r))
  ])

  new_when : (home : RoutineKind) (d n : ℕ) (c : Counts) → Uniq (suc k) (WhenPart home d n c) (NotBefore (token.Word word.Else))
  new_when home d n c = narrowed (WhenPart home d n c) (NotBefore (token.Word word.Else)) (WhenSeq home d n c) (λ x. NoElse x.1.1.1.1) when_of (suc k) (λ w z b r f. when_back z r f)
      (seq_tok (Branch n ∷ Node d ∷ []) (token.Word word.When) (λ p. Then (Tok (token.Sign sign.OpenRound))
      (λ q. Then (WaitingPart home d c) (λ y. Then (Tok (token.Sign sign.CloseRound)) (λ s. BodyPart home (suc d) y.1)))) (λ x. NoElse x.1.1.1.1) k (λ p.
      same_tok [] (token.Sign sign.OpenRound) (λ q. Then (WaitingPart home d c) (λ y. Then (Tok (token.Sign sign.CloseRound)) (λ s. BodyPart home (suc d) y.1))) (λ x. NoElse x.1.1.1) k (λ q.
      seq (WaitingPart home d c) Any (λ y. Then (Tok (token.Sign sign.CloseRound)) (λ s. BodyPart home (suc d) y.1)) (λ x. NoElse x.1.1) k (λ a b v z r f. tt) (uniq_waiting home d c k) (λ y.
      same_tok [] (token.Sign sign.CloseRound) (λ s. BodyPart home (suc d) y.1) (λ x. NoElse x.1) k (λ s. all.body home (suc d) y.1)))))

  when_then : (home : RoutineKind) (d n : ℕ) (c : Counts) → Uniq (suc k) (Then (WhenPart home d n c) (λ o. WhensPart home d (suc n) o.counts)) Any
  when_then home d n c = seq_less (WhenPart home d n c) (NotBefore (token.Word word.Else)) (λ o. WhensPart home d (suc n) o.counts) Any k (λ a b v z r f. whens_no_else a z r) (new_when home d n c)
      (λ o. all.whens home d (suc n) o.counts) WhenToken (λ w a r. when_starts w (r NoBranches))

  new_whens : (home : RoutineKind) (d n : ℕ) (c : Counts) → Uniq (suc k) (WhensPart home d n c) Any
  new_whens home d n c = uniq_by (WhensPart home d n c) Any (suc k) (λ o. elim (at_close_curly o) [
    | inl e ↦ subst (λ y. UniqAt y (suc k) (WhensPart home d n c) Any) (sym e)
        (at_narrow (WhensPart home d n c) Any (Tok (token.Sign sign.CloseCurly)) Any (λ p. (NoBranches, c)) (suc k) (Some (token.Sign sign.CloseCurly)) (λ w z b r f l. end_whens_back z r l)
        (uniq_opening [] (token.Sign sign.CloseCurly) (suc k)))
    | inr m ↦ at_narrow (WhensPart home d n c) Any (Then (WhenPart home d n c) (λ o. WhensPart home d (suc n) o.counts)) Any (λ x. (MoreBranches x.0.at x.0.waiting x.0.body x.1.0, x.1.1)) (suc k) o
        (λ w z b r f l. more_whens_back z o m r l) (when_then home d n c)
  ])

  new_all_whens : (home : RoutineKind) (d : ℕ) (c : Counts) → Uniq (suc k) (AllWhens home d c) Any
  new_all_whens home d c = narrowed (AllWhens home d c) Any (Then (WhenPart home d 1 c) (λ o. WhensPart home d 2 o.counts)) Any (λ x. (MoreBranches x.0.at x.0.waiting x.0.body x.1.0, x.1.1))
      (suc k) (λ w z b r f. all_whens_back z r) (when_then home d 1 c)

nothing_shorter : {A : Type 0} (R : List Marked → A → Type 0) (F : A → List Marked → Type 0) → Uniq 0 R F
nothing_shorter R F = λ w z v u a b lt r g s h e. absurd (omega arith)

all_uniq : (k : ℕ) → AllUniq k
all_uniq zero = record {
  body = λ a d c. nothing_shorter (BodyPart a d c) NoElse;
  block = λ a d c. nothing_shorter (Block a d c) Any;
  closing = λ a d c. nothing_shorter (Closing a d c) Any;
  whens = λ a d n c. nothing_shorter (WhensPart a d n c) Any;
  all_whens = λ a d c. nothing_shorter (AllWhens a d c) Any;
}
all_uniq (suc k) =
    let all = all_uniq k in
    record { body = new_body k all; block = new_block k all; closing = new_closing k all; whens = new_whens k all; all_whens = new_all_whens k all }

-- a block has one meaning
pub uniq_block : (home : RoutineKind) (d : ℕ) (c : Counts) (k : ℕ) → Uniq k (Block home d c) Any
uniq_block home d c k = (all_uniq k).block home d c
