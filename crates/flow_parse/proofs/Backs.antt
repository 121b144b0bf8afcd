-- A statement that is no block, by its first token: the other way round.
use Rattle.std.proofs.Common.{◌≡◌, ℕ, suc, Bool, true, false, List, [], ◌∷◌, ◌++◌, refl, sym, ap, append_assoc, ◌⊎◌, inl, inr}
use Rattle.std.specs.declared.option.Option.{Option}
use Rattle.std.specs.declared.option.Option.TheVariants.{None, Some}
use Rattle.flow_base.specs.declared.place.Place.{Place}
use Rattle.flow_tree.specs.declared.token.Token.{Token}
use Rattle.flow_tree.specs.declared.token.Token.TheVariants as token
use Rattle.flow_tree.specs.declared.token.Word.{Word}
use Rattle.flow_tree.specs.declared.token.Word.TheVariants as word
use Rattle.flow_tree.specs.declared.token.Sign.TheVariants as sign
use Rattle.flow_tree.specs.declared.decl.RoutineKind.{RoutineKind}
use Rattle.flow_tree.specs.Body.{Body, End, IfStmt, IfElseStmt, WhileStmt, ForStmt, LoopStmt, BreakStmt, ContinueStmt, ReturnStmt, ThrowStmt, TryStmt, ChooseStmt}
use Rattle.flow_tree.specs.GrammarToken.{Marked, opens}
use Rattle.flow_tree.specs.Grammar.{sign_at, word_at, name_at}
use Rattle.flow_tree.specs.GrammarStmt.{Counts, BlockRule, braces, PlainRule, if_stmt, if_else_stmt, while_stmt, for_stmt, loop_stmt, break_stmt, continue_stmt, return_stmt, throw_stmt, try_stmt, choose_stmt, init_stmt, wait_stmt, call_stmt}
use Rattle.flow_parse.specs.Reading.{Tok, Then}
use Rattle.flow_parse.specs.Parts.{Out, Test, MaybeExpr, Returned, StartPart, NextPart, BodyPart, Block, Catch, AllWhens}
use Rattle.flow_parse.proofs.Shapes.{closed}
use Rattle.flow_parse.proofs.Shapes.{with, ClosedBody}

-- the first word of a statement
abbrev pub opener : {home : RoutineKind} {d : ℕ} {c c' : Counts} {w : List Marked} {p : Place} {rest body : Body} {b : Bool} → PlainRule home d c c' w p rest body b → Option Word
opener (if_stmt at p q test body e b f) = Some word.If
opener (if_else_stmt at p q r test body other e b o f) = Some word.If
opener (while_stmt at p q test body e b f) = Some word.While
opener (for_stmt at p q r s init test step body i e n b f) = Some word.For
opener (loop_stmt at body b f) = Some word.Loop
opener (break_stmt at p) = Some word.Break
opener (continue_stmt at p) = Some word.Continue
opener (return_stmt at p value e f) = Some word.Return
opener (throw_stmt at p value e f) = Some word.Throw
opener (try_stmt at p q r s u x body caught b h f) = Some word.Try
opener (choose_stmt at p q first more w ws f) = Some word.Choose
opener (init_stmt at p xs i f) = None
opener (wait_stmt at p xs w f s) = None
opener (call_stmt at p q r path args x a f s) = None

-- the tokens are this part, and it means this
pub record Formed {A B : Type 0} (U : List Marked → B → Type 0) (h : B → A) (w : List Marked) (a : A) : Type 0 where
  pub tree : B
  pub rule : U w tree
  pub is : a ≡ h tree

-- what a statement with this first word consists of
abbrev pub Form : Option Word → RoutineKind → ℕ → Counts → List Marked → Out → Type 0
Form (Some word.If) home d c w o =
    Formed (Then (Tok (token.Word word.If)) (λ p. Then (Test (suc d)) (λ e. BodyPart home (suc d) c))) (λ x. record { body = IfStmt x.0 x.1.0 x.1.1.body End; counts = x.1.1.counts; ends_if = true })
    w o
    ⊎ Formed (Then (Tok (token.Word word.If)) (λ p. Then (Test (suc d)) (λ e. Then (ClosedBody home (suc d) c) (λ o. Then (Tok (token.Word word.Else)) (λ q. BodyPart home (suc d) o.counts)))))
    (λ x. with (IfElseStmt x.0 x.1.0 x.1.1.0.body x.1.1.1.1.body End) x.1.1.1.1) w o
Form (Some word.While) home d c w o = Formed (Then (Tok (token.Word word.While)) (λ p. Then (Test (suc d)) (λ e. BodyPart home (suc d) c))) (λ x. with (WhileStmt x.0 x.1.0 x.1.1.body End) x.1.1) w o
Form (Some word.For) home d c w o = Formed (Then (Tok (token.Word word.For))
    (λ p. Then (Tok (token.Sign sign.OpenRound)) (λ q. Then (StartPart home (suc d) c) (λ a. Then (MaybeExpr (suc d)) (λ e. Then (NextPart (suc d) a.1) (λ b. BodyPart home (suc d) b.1))))))
    (λ x. with (ForStmt x.0 x.1.1.0.0 x.1.1.1.0 x.1.1.1.1.0.0 x.1.1.1.1.1.body End) x.1.1.1.1.1) w o
Form (Some word.Loop) home d c w o = Formed (Then (Tok (token.Word word.Loop)) (λ p. BodyPart home (suc d) c)) (λ x. with (LoopStmt x.0 x.1.body End) x.1) w o
Form (Some word.Break) home d c w o = Formed (Then (Tok (token.Word word.Break)) (λ p. Tok (token.Sign sign.Semicolon))) (λ x. closed (BreakStmt x.0 End) c) w o
Form (Some word.Continue) home d c w o = Formed (Then (Tok (token.Word word.Continue)) (λ p. Tok (token.Sign sign.Semicolon))) (λ x. closed (ContinueStmt x.0 End) c) w o
Form (Some word.Return) home d c w o = Formed (Then (Tok (token.Word word.Return)) (λ p. Returned home (suc d))) (λ x. closed (ReturnStmt x.0 x.1 End) c) w o
Form (Some word.Throw) home d c w o = Formed (Then (Tok (token.Word word.Throw)) (λ p. MaybeExpr (suc d))) (λ x. closed (ThrowStmt x.0 x.1 End) c) w o
Form (Some word.Try) home d c w o = Formed (Then (Tok (token.Word word.Try)) (λ p. Then (Block home (suc d) c) (λ o. Then Catch (λ x. Block home (suc d) o.counts))))
    (λ x. closed (TryStmt x.0 x.1.0.body x.1.1.0.0 x.1.1.0.1 x.1.1.1.body End) x.1.1.1.counts) w o
Form (Some word.Choose) home d c w o = Formed (Then (Tok (token.Word word.Choose)) (λ p. Then (Tok (token.Sign sign.OpenCurly)) (λ q. AllWhens home (suc d) c)))
    (λ x. closed (ChooseStmt x.0 x.1.1.0 End) x.1.1.1) w o
Form _ home d c w o = Unit {0}

pub front : {A B : Type 0} {S : A → List Marked → B → Type 0} (R : List Marked → A → Type 0) (a : A) (b : B) (first rest : List Marked) {w : List Marked} → w ≡ first ++ rest → R first a → S a rest b
    → Then R S w (a, b)
front R a b first rest e r s = record { first = first; rest = rest; is = e; front = r; back = s }

pub tok_front : {B : Type 0} {S : Place → List Marked → B → Type 0} (x : Token) (p : Place) (b : B) (rest : List Marked) {w : List Marked} → w ≡ opens [] x p ∷ rest → S p rest b
    → Then (Tok x) S w (p, b)
tok_front x p b rest e s = record { first = opens [] x p ∷ []; rest = rest; is = e; front = refl; back = s }

regroup : (y q : Marked) (of body : List Marked) → y ∷ (of ++ (q ∷ body)) ≡ (y ∷ (of ++ q ∷ [])) ++ body
regroup y q of body = ap (λ z. y ∷ z) (sym (append_assoc of (q ∷ []) body))

pub block_of : {home : RoutineKind} {d : ℕ} {c c' : Counts} {w : List Marked} {body : Body} → BlockRule home d c c' w body
    → (close : Place) × Block home d c w (record { body = body; counts = c'; close = close })
block_of (braces p q xs r e) = (q, (p, xs, r, e))

pub form : {home : RoutineKind} {d : ℕ} {c c' : Counts} {w : List Marked} {p : Place} {body : Body} {b : Bool} → (r : PlainRule home d c c' w p End body b)
    → Form (opener r) home d c w (record { body = body; counts = c'; ends_if = b })
form {home = home} {d = d} {c' = c'} (if_stmt {body1 = inner} {e = t} {ends_if = k} at p q test body e o f) = inl (record {
  tree = (at, (t, record { body = inner; counts = c'; ends_if = k }));
  rule = tok_front (token.Word word.If) at _ _ f (front (Test (suc d)) t _ (sign_at sign.OpenRound p ∷ (test ++ sign_at sign.CloseRound q ∷ [])) body
      (regroup (sign_at sign.OpenRound p) (sign_at sign.CloseRound q) test body) (p, q, test, e, refl) o);
  is = refl;
})
form {home = home} {d = d} {c = c} {c' = c'} {b = b} (if_else_stmt {c1 = c1} {body1 = inner} {body2 = otherwise} {e = t} at p q r test body other e o u f) = inr (record {
  tree = (at, (t, (record { body = inner; counts = c1; ends_if = false }, (r, record { body = otherwise; counts = c'; ends_if = b }))));
  rule = tok_front (token.Word word.If) at _ _ f (front (Test (suc d)) t _ (sign_at sign.OpenRound p ∷ (test ++ sign_at sign.CloseRound q ∷ [])) (body ++ (word_at word.Else r ∷ other))
      (regroup (sign_at sign.OpenRound p) (sign_at sign.CloseRound q) test (body ++ (word_at word.Else r ∷ other))) (p, q, test, e, refl)
      (front (ClosedBody home (suc d) c) (record { body = inner; counts = c1; ends_if = false }) _ body (word_at word.Else r ∷ other) refl (o, refl)
      (tok_front (token.Word word.Else) r _ other refl u)));
  is = refl;
})
form {d = d} {c' = c'} {b = b} (while_stmt {inner = inner} {e = t} at p q test body e o f) = record {
  tree = (at, (t, record { body = inner; counts = c'; ends_if = b }));
  rule = tok_front (token.Word word.While) at _ _ f (front (Test (suc d)) t _ (sign_at sign.OpenRound p ∷ (test ++ sign_at sign.CloseRound q ∷ [])) body
      (regroup (sign_at sign.OpenRound p) (sign_at sign.CloseRound q) test body) (p, q, test, e, refl) o);
  is = refl;
}
form {home = home} {d = d} {c = c} {c' = c'} {b = b} (for_stmt {c1 = c1} {c2 = c2} {start = start} {next = next} {inner = inner} {e = t} at p q r s init test step body i e n o f) = record {
  tree = (at, (p, ((start, c1), (t, ((next, c2), record { body = inner; counts = c'; ends_if = b })))));
  rule = tok_front (token.Word word.For) at _ _ f (tok_front (token.Sign sign.OpenRound) p _ _ refl
      (front (StartPart home (suc d) c) (start, c1) _ (init ++ sign_at sign.Semicolon q ∷ []) (test ++ (sign_at sign.Semicolon r ∷ (step ++ (sign_at sign.CloseRound s ∷ body))))
      (sym (append_assoc init (sign_at sign.Semicolon q ∷ []) (test ++ (sign_at sign.Semicolon r ∷ (step ++ (sign_at sign.CloseRound s ∷ body)))))) (q, init, i, refl)
      (front (MaybeExpr (suc d)) t _ (test ++ sign_at sign.Semicolon r ∷ []) (step ++ (sign_at sign.CloseRound s ∷ body))
      (sym (append_assoc test (sign_at sign.Semicolon r ∷ []) (step ++ (sign_at sign.CloseRound s ∷ body)))) (r, test, e, refl)
      (front (NextPart (suc d) c1) (next, c2) _ (step ++ sign_at sign.CloseRound s ∷ []) body (sym (append_assoc step (sign_at sign.CloseRound s ∷ []) body)) (s, step, n, refl) o))));
  is = refl;
}
form {c' = c'} {b = b} (loop_stmt {inner = inner} at body o f) = record {
  tree = (at, record { body = inner; counts = c'; ends_if = b });
  rule = tok_front (token.Word word.Loop) at _ body f o;
  is = refl;
}
form (break_stmt at p) = record { tree = (at, p); rule = tok_front (token.Word word.Break) at p _ refl refl; is = refl }
form (continue_stmt at p) = record { tree = (at, p); rule = tok_front (token.Word word.Continue) at p _ refl refl; is = refl }
form {d = d} (return_stmt {e = t} at p value e f) = record { tree = (at, t); rule = tok_front (token.Word word.Return) at t _ f (p, value, e, refl); is = refl }
form {d = d} (throw_stmt {e = t} at p value e f) = record { tree = (at, t); rule = tok_front (token.Word word.Throw) at t _ f (p, value, e, refl); is = refl }
form {home = home} {d = d} {c = c} {c' = c'} (try_stmt {c1 = c1} {inner = inner} {handler = handler} at p q r s u x body caught o h f) =
    let a = block_of o in
    let b = block_of h in
    record {
      tree = (at, (record { body = inner; counts = c1; close = a.0 }, ((p, x), record { body = handler; counts = c'; close = b.0 })));
      rule = tok_front (token.Word word.Try) at _ _ f (front (Block home (suc d) c) (record { body = inner; counts = c1; close = a.0 }) _ body
          (word_at word.Catch p ∷ sign_at sign.OpenRound q ∷ word_at word.Error r ∷ sign_at sign.Amp s ∷ name_at x ∷ sign_at sign.CloseRound u ∷ caught) refl a.1
          (front Catch (p, x) _ (word_at word.Catch p ∷ sign_at sign.OpenRound q ∷ word_at word.Error r ∷ sign_at sign.Amp s ∷ name_at x ∷ sign_at sign.CloseRound u ∷ []) caught refl
          (q, r, s, u, refl) b.1));
      is = refl;
    }
form {home = home} {d = d} {c = c} {c' = c'} (choose_stmt {c1 = c1} {b = br} {bs = bs} at p q first more w ws f) = record {
  tree = (at, (p, (br, c')));
  rule = tok_front (token.Word word.Choose) at _ _ f (tok_front (token.Sign sign.OpenCurly) p _ _ refl (q, first, more, c1, bs, w, ws, refl));
  is = refl;
}
form (init_stmt at p xs i f) = tt
form (wait_stmt at p xs w f s) = tt
form (call_stmt at p q r path args x a f s) = tt
