-- Statements, bodies, blocks, branches and the parts of a `for` by their next token: the other way
-- round.
use Rattle.std.proofs.Common.{◌≡◌, ℕ, suc, Bool, true, false, List, [], ◌∷◌, ◌++◌, refl, sym, ap, ◌∙◌, subst, append_assoc, ◌⊎◌, inl, inr}
use Rattle.std.proofs.lemmas.List.{append-nil}
use Rattle.std.specs.declared.option.Option.{Option}
use Rattle.std.specs.declared.option.Option.TheVariants.{None, Some}
use Rattle.flow_base.specs.declared.place.Place.{Place}
use Rattle.flow_tree.specs.declared.token.Token.{Token}
use Rattle.flow_tree.specs.declared.token.Token.TheVariants as token
use Rattle.flow_tree.specs.declared.token.Word.{Word}
use Rattle.flow_tree.specs.declared.token.Word.TheVariants as word
use Rattle.flow_tree.specs.declared.token.Sign.TheVariants as sign
use Rattle.flow_tree.specs.declared.decl.RoutineKind.{RoutineKind}
use Rattle.flow_tree.specs.Tree.{ExprTree}
use Rattle.flow_tree.specs.Body.{WaitTree, Body, End, BlockStmt, IfStmt, IfElseStmt, WhileStmt, ForStmt, LoopStmt, BreakStmt, ContinueStmt, ReturnStmt, ThrowStmt, TryStmt, ChooseStmt, DeclareStmt, AssignStmt, ModifyStmt, CallStmt, WaitStmt, PlusChange, MinusChange, UpChange, DownChange, Branches, NoBranches, MoreBranches}
use Rattle.flow_tree.specs.GrammarToken.{Node, Branch, Marked, opens}
use Rattle.flow_tree.specs.Grammar.{sign_at, word_at, ExprRule}
use Rattle.flow_tree.specs.GrammarStmt.{Counts, one_statement, begin_statement, has_bare_return, AssignRule, assign, plus, minus, up, down, InitRule, declare, declare_value, change, InitPart, no_init, some_init, StepPart, no_step, some_step, MaybeExprRule, no_expr, some_expr, ReturnedRule, nothing, something, PlainRule, if_stmt, if_else_stmt, while_stmt, for_stmt, loop_stmt, break_stmt, continue_stmt, return_stmt, throw_stmt, try_stmt, choose_stmt, init_stmt, wait_stmt, call_stmt, StmtRule, block_stmt, plain_stmt, BodyRule, block_body, one_body, BlockRule, braces, StmtsRule, no_stmts, more_stmts, WhensRule, no_whens, more_whens, WhenRule, branch}
use Rattle.flow_parse.specs.Openers.{ExprToken, StartsWord, StmtWord, PlainToken, StmtToken, WhenToken}
use Rattle.flow_parse.specs.Reading.{Opening, Tok, Then, Any}
use Rattle.flow_parse.specs.Follow.{NotBefore}
use Rattle.flow_parse.specs.Parts.{Out, BlockOut, NoElse, Test, MaybeExpr, Returned, StartPart, NextPart, Placed, Begun, WaitingPart, Init, Assignment, Simple, Plain, One, BodyPart, Closing, Block, WhenOut, WhenPart, WhensPart, AllWhens, put_before}
use Rattle.flow_parse.proofs.Shapes.{closed}
use Rattle.flow_parse.proofs.Shapes.{with}
use Rattle.flow_parse.proofs.Looking.{Looks, Back}
use Rattle.flow_parse.proofs.Backs.{opener, Form, form, front, tok_front, block_of}
use Rattle.flow_parse.proofs.Begins.{Starts, starts_weaken, starts_is, starts_looks, looks_first, looks_is, expr_starts}
use Rattle.flow_parse.proofs.Firsts.{Begins, StartsSimple, OpenerIs, opener_is, init_begins, waiting_begins, path_begins, assign_begins}
use Rattle.flow_parse.proofs.Narrow.{not_before_same, not_before_is, starts_not}
use Rattle.flow_parse.proofs.UnendedBacks.{plain_simple}

simple_word : (k : Word) → StartsWord k → StmtWord k
simple_word word.State h = tt
simple_word word.Wait h = tt
simple_word word.WaitNext h = tt
simple_word word.Int h = tt
simple_word word.Bool h = tt
simple_word word.Str h = tt
simple_word word.Void h = tt
simple_word word.Error h = tt
simple_word word.Future h = tt
simple_word word.FutureStream h = tt
simple_word word.Promise h = tt
simple_word word.PromiseStream h = tt
simple_word word.Vector h = tt
simple_word _ h = absurd h

simple_token : (t : Token) → StartsSimple t → PlainToken t
simple_token (token.Name n) h = tt
simple_token (token.Word k) h = simple_word k h
simple_token (token.Number n) h = absurd h
simple_token (token.Text n) h = absurd h
simple_token (token.Sign n) h = absurd h

pub stmt_token : (t : Token) → PlainToken t → StmtToken t
stmt_token (token.Name n) h = tt
stmt_token (token.Word k) h = h
stmt_token (token.Number n) h = absurd h
stmt_token (token.Text n) h = absurd h
stmt_token (token.Sign n) h = absurd h

begins_starts : (w : List Marked) → Begins w → Starts PlainToken w
begins_starts [] h = absurd h
begins_starts (x ∷ w) h = simple_token x.spot.token h

pub plain_starts : {home : RoutineKind} {d : ℕ} {c c' : Counts} {w : List Marked} {p : Place} {rest body : Body} {b : Bool} → PlainRule home d c c' w p rest body b → Starts PlainToken w
plain_starts (if_stmt at p q test body e b f) = subst (Starts PlainToken) (sym f) tt
plain_starts (if_else_stmt at p q r test body other e b o f) = subst (Starts PlainToken) (sym f) tt
plain_starts (while_stmt at p q test body e b f) = subst (Starts PlainToken) (sym f) tt
plain_starts (for_stmt at p q r s init test step body i e n b f) = subst (Starts PlainToken) (sym f) tt
plain_starts (loop_stmt at body b f) = subst (Starts PlainToken) (sym f) tt
plain_starts (break_stmt at p) = tt
plain_starts (continue_stmt at p) = tt
plain_starts (return_stmt at p of e f) = subst (Starts PlainToken) (sym f) tt
plain_starts (throw_stmt at p of e f) = subst (Starts PlainToken) (sym f) tt
plain_starts (try_stmt at p q r s u x body caught b h f) = subst (Starts PlainToken) (sym f) tt
plain_starts (choose_stmt at p q first more w ws f) = subst (Starts PlainToken) (sym f) tt
plain_starts (init_stmt at p xs i f) = starts_is PlainToken xs _ f (begins_starts xs (init_begins i))
plain_starts (wait_stmt at p xs o f s) = starts_is PlainToken xs _ f (begins_starts xs (waiting_begins o))
plain_starts (call_stmt at p q r path args x a f s) = starts_is PlainToken path _ f (begins_starts path (path_begins x))

-- which parts begin with a token doesn't matter
pub starts_begun : (P : Token → Type 0) (c : Counts) (d : ℕ) (w : List Marked) → Starts P w → Starts P (begin_statement c d w)
starts_begun P c d [] h = h
starts_begun P c d (x ∷ w) h = h

looks_begun : (o : Option Token) (c : Counts) (d : ℕ) (w z : List Marked) → Looks o (begin_statement c d w ++ z) → Looks o (w ++ z)
looks_begun o c d [] z l = l
looks_begun None c d (x ∷ w) z l = l
looks_begun (Some t) c d (x ∷ w) z l = l

pub stmt_starts : {home : RoutineKind} {d : ℕ} {c c' : Counts} {w : List Marked} {rest body : Body} {b : Bool} → StmtRule home d c c' w rest body b → Starts StmtToken w
stmt_starts {d = d} {c = c} (block_stmt at xs r s e) = subst (Starts StmtToken) (sym e) (starts_begun StmtToken c d xs (curly r))
  where
    curly : {home : RoutineKind} {d : ℕ} {c c' : Counts} {w : List Marked} {body : Body} → BlockRule home d c c' w body → Starts StmtToken w
    curly (braces p q xs r e) = subst (Starts StmtToken) (sym e) tt
stmt_starts {d = d} {c = c} (plain_stmt at xs r e) = subst (Starts StmtToken) (sym e) (starts_begun StmtToken c d xs (starts_weaken PlainToken StmtToken stmt_token xs (plain_starts r)))

-- a statement that begins with a word of its own
opener_word : (m : Option Word) (k : Word) → (StartsWord k → ⊥) → OpenerIs m (token.Word k) → m ≡ Some k
opener_word None k n h = absurd (n h)
opener_word (Some j) k n h = let e : j ≡ k = cc in ap Some e

pub keyword_back : {home : RoutineKind} {d : ℕ} {c c' : Counts} {w : List Marked} {p : Place} {body : Body} {b : Bool} (z : List Marked) (k : Word) → (StartsWord k → ⊥)
    → PlainRule home d c c' w p End body b → Looks (Some (token.Word k)) (w ++ z) → Form (Some k) home d c w (record { body = body; counts = c'; ends_if = b })
keyword_back {home = home} {d = d} {c = c} {c' = c'} {w = w} {body = body} {b = b} z k n r l =
    subst (λ m. Form m home d c w (record { body = body; counts = c'; ends_if = b })) (opener_word (opener r) k n (opener_is z (token.Word k) r l)) (form r)

-- and one that doesn't
abbrev pub IsKeyword : Word → Type 0
IsKeyword word.If = Unit {0}
IsKeyword word.While = Unit {0}
IsKeyword word.For = Unit {0}
IsKeyword word.Loop = Unit {0}
IsKeyword word.Break = Unit {0}
IsKeyword word.Continue = Unit {0}
IsKeyword word.Return = Unit {0}
IsKeyword word.Throw = Unit {0}
IsKeyword word.Try = Unit {0}
IsKeyword word.Choose = Unit {0}
IsKeyword _ = ⊥

abbrev pub Keyword : Option Token → Type 0
Keyword o = (k : Word) × (o ≡ Some (token.Word k)) × IsKeyword k

keyword_or : (k : Word) → IsKeyword k ⊎ (IsKeyword k → ⊥)
keyword_or word.If = inl tt
keyword_or word.While = inl tt
keyword_or word.For = inl tt
keyword_or word.Loop = inl tt
keyword_or word.Break = inl tt
keyword_or word.Continue = inl tt
keyword_or word.Return = inl tt
keyword_or word.Throw = inl tt
keyword_or word.Try = inl tt
keyword_or word.Choose = inl tt
keyword_or _ = inr (λ h. h)

-- whether a word of this kind is the next token
pub at_keyword : (o : Option Token) → Keyword o ⊎ (Keyword o → ⊥)
at_keyword (Some (token.Word k)) = elim (keyword_or k) [
  | inl h ↦ inl (k, refl, h)
  | inr n ↦ inr (λ x. n (subst IsKeyword (same_word k x.0 x.1) x.2))
]
  where
    same_word : (k j : Word) → Some (token.Word k) ≡ Some (token.Word j) → j ≡ k
    same_word k j e = cc
at_keyword _ = inr (λ x. let e = x.1 in cc)

keyword_opens : {home : RoutineKind} {d : ℕ} {c c' : Counts} {w : List Marked} {p : Place} {rest body : Body} {b : Bool} (z : List Marked) (o : Option Token) → (r : PlainRule home d c c' w p rest body b)
    → Looks o (w ++ z) → (opener r ≡ None) ⊎ Keyword o
keyword_opens z o (if_stmt at p q test body e b f) l = inr (word.If, looks_is o (word_at word.If at) _ z f l, tt)
keyword_opens z o (if_else_stmt at p q r test body other e b u f) l = inr (word.If, looks_is o (word_at word.If at) _ z f l, tt)
keyword_opens z o (while_stmt at p q test body e b f) l = inr (word.While, looks_is o (word_at word.While at) _ z f l, tt)
keyword_opens z o (for_stmt at p q r s init test step body i e n b f) l = inr (word.For, looks_is o (word_at word.For at) _ z f l, tt)
keyword_opens z o (loop_stmt at body b f) l = inr (word.Loop, looks_is o (word_at word.Loop at) _ z f l, tt)
keyword_opens z o (break_stmt at p) l = inr (word.Break, looks_first o (word_at word.Break at) _ l, tt)
keyword_opens z o (continue_stmt at p) l = inr (word.Continue, looks_first o (word_at word.Continue at) _ l, tt)
keyword_opens z o (return_stmt at p of e f) l = inr (word.Return, looks_is o (word_at word.Return at) _ z f l, tt)
keyword_opens z o (throw_stmt at p of e f) l = inr (word.Throw, looks_is o (word_at word.Throw at) _ z f l, tt)
keyword_opens z o (try_stmt at p q r s u x body caught b h f) l = inr (word.Try, looks_is o (word_at word.Try at) _ z f l, tt)
keyword_opens z o (choose_stmt at p q first more w ws f) l = inr (word.Choose, looks_is o (word_at word.Choose at) _ z f l, tt)
keyword_opens z o (init_stmt at p xs i f) l = inl refl
keyword_opens z o (wait_stmt at p xs w f s) l = inl refl
keyword_opens z o (call_stmt at p q r path args x a f s) l = inl refl

pub plain_back : {home : RoutineKind} {d : ℕ} {c : Counts} {w : List Marked} {u : Out} (z : List Marked) (o : Option Token) → (Keyword o → ⊥) → Plain home d c w u → Looks o (w ++ z)
    → Back (Plain home d c) NoElse (Simple home d c) Any (λ x. x) w z u
plain_back {u = u} z o n r l = elim (keyword_opens z o r.1 l) [
  | inl e ↦ record { tree = u; rule = plain_simple r.1 e; is = refl; follows = tt }
  | inr k ↦ absurd (n k)
]

-- behind the body of an `if`: an `else` with its body, or nothing
abbrev pub ElsePart : RoutineKind → ℕ → Out → List Marked → Option Out → Type 0
ElsePart home d o w None = w ≡ []
ElsePart home d o w (Some u) = (o.ends_if ≡ false) × (p : Place) × (of : List Marked) × BodyPart home d o.counts of u × (w ≡ word_at word.Else p ∷ of)

abbrev pub ElseFollow : Option Out → List Marked → Type 0
ElseFollow None z = NotBefore (token.Word word.Else) {A = Option Out} None z
ElseFollow (Some u) z = NoElse u z

abbrev pub if_out : Place → ExprTree → Out → Option Out → Out
if_out p e o None = record { body = IfStmt p e o.body End; counts = o.counts; ends_if = true }
if_out p e o (Some u) = with (IfElseStmt p e o.body u.body End) u

abbrev pub IfParts : RoutineKind → ℕ → Counts → List Marked → Place × (ExprTree × (Out × Option Out)) → Type 0
IfParts home d c w x = Then (Tok (token.Word word.If)) (λ p. Then (Test (suc d)) (λ e. Then (BodyPart home (suc d) c) (ElsePart home (suc d)))) w x

pub if_back : {home : RoutineKind} {d : ℕ} {c : Counts} {w : List Marked} {u : Out} (z : List Marked) → Form (Some word.If) home d c w u → NoElse u z
    → Back (Plain home d c) NoElse (IfParts home d c) (λ x. ElseFollow x.1.1.1) (λ x. if_out x.0 x.1.0 x.1.1.0 x.1.1.1) w z u
if_back {home = home} {d = d} {c = c} {u = u} z (inl k) f =
    let r = k.rule in
    let o = k.tree.1.1 in
    record {
      tree = (k.tree.0, (k.tree.1.0, (o, None)));
      rule = front (Tok (token.Word word.If)) k.tree.0 (k.tree.1.0, (o, None)) r.first r.rest r.is r.front
          (front (Test (suc d)) k.tree.1.0 (o, None) r.back.first r.back.rest r.back.is r.back.front
          (front (BodyPart home (suc d) c) o None r.back.rest [] (sym (append-nil r.back.rest)) r.back.back refl));
      is = k.is;
      follows = not_before_same {A = Out} {B = Option Out} (token.Word word.Else) u None z (f (ap (λ v. v.ends_if) k.is));
    }
if_back {home = home} {d = d} {c = c} {u = u} z (inr k) f =
    let r = k.rule in
    let o = k.tree.1.1.0 in
    let v = k.tree.1.1.1.1 in
    let b = r.back.back in
    record {
      tree = (k.tree.0, (k.tree.1.0, (o, Some v)));
      rule = front (Tok (token.Word word.If)) k.tree.0 (k.tree.1.0, (o, Some v)) r.first r.rest r.is r.front
          (front (Test (suc d)) k.tree.1.0 (o, Some v) r.back.first r.back.rest r.back.is r.back.front
          (front (BodyPart home (suc d) c) o (Some v) b.first b.rest b.is b.front.0 (b.front.1, k.tree.1.1.1.0, b.back.rest, b.back.back, b.back.is ∙ ap (λ y. y ++ b.back.rest) b.back.front)));
      is = k.is;
      follows = λ e. not_before_same (token.Word word.Else) u v z (f (ap (λ y. y.ends_if) k.is ∙ e));
    }

pub else_back : (home : RoutineKind) (d : ℕ) (o : Out) {w : List Marked} {u : Option Out} (z : List Marked) → ElsePart home d o w u → ElseFollow u z → Looks (Some (token.Word word.Else)) (w ++ z)
    → Back (ElsePart home d o) ElseFollow (Then (Tok (token.Word word.Else)) (λ p. BodyPart home d o.counts)) (λ x. NoElse x.1) (λ x. Some x.1) w z u
else_back home d o {u = None} z r f l = absurd (here z f (subst (λ v. Looks (Some (token.Word word.Else)) (v ++ z)) r l))
  where
    here : (z : List Marked) → NotBefore (token.Word word.Else) {A = Option Out} None z → Looks (Some (token.Word word.Else)) z → ⊥
    here [] f l = l
    here (y ∷ z) f l = f l
else_back home d o {u = Some v} z r f l = record { tree = (r.1, v); rule = tok_front (token.Word word.Else) r.1 v r.2 r.4 r.3; is = refl; follows = f }

pub no_else_back : (home : RoutineKind) (d : ℕ) (o : Out) {w : List Marked} {u : Option Out} (z : List Marked) (t : Option Token) → (t ≡ Some (token.Word word.Else) → ⊥) → ElsePart home d o w u
    → Looks t (w ++ z) → (u ≡ None) × (w ≡ [])
no_else_back home d o {u = None} z t n r l = (refl, r)
no_else_back home d o {u = Some v} z t n r l = absurd (n (looks_is t (word_at word.Else r.1) r.2 z r.4 l))

-- an expression, or nothing, and a semicolon
pub no_expr_back : {d : ℕ} {w : List Marked} {e : Option ExprTree} (z : List Marked) → MaybeExpr d w e → Looks (Some (token.Sign sign.Semicolon)) (w ++ z)
    → Back (MaybeExpr d) Any (Tok (token.Sign sign.Semicolon)) Any (λ p. None) w z e
no_expr_back z r l = by_rule z r.0 r.1 r.2 r.3 l
  where
    by_rule : {d : ℕ} {w : List Marked} {e : Option ExprTree} (z : List Marked) (q : Place) (of : List Marked) → MaybeExprRule d of e → w ≡ of ++ sign_at sign.Semicolon q ∷ []
        → Looks (Some (token.Sign sign.Semicolon)) (w ++ z) → Back (MaybeExpr d) Any (Tok (token.Sign sign.Semicolon)) Any (λ p. None) w z e
    by_rule z q of no_expr f l = record { tree = q; rule = f; is = refl; follows = tt }
    by_rule {w = w} z q of (some_expr x) f l = absurd (starts_looks ExprToken w z (Some (token.Sign sign.Semicolon)) (starts_is ExprToken of (sign_at sign.Semicolon q ∷ []) f (expr_starts x)) l)

pub some_expr_back : {d : ℕ} {w : List Marked} {e : Option ExprTree} (z : List Marked) (o : Option Token) → (o ≡ Some (token.Sign sign.Semicolon) → ⊥) → MaybeExpr d w e → Looks o (w ++ z)
    → Back (MaybeExpr d) Any (Then (ExprRule 0 d) (λ e. Tok (token.Sign sign.Semicolon))) Any (λ x. Some x.0) w z e
some_expr_back z o n r l = by_rule z o n r.0 r.1 r.2 r.3 l
  where
    by_rule : {d : ℕ} {w : List Marked} {e : Option ExprTree} (z : List Marked) (o : Option Token) → (o ≡ Some (token.Sign sign.Semicolon) → ⊥) → (q : Place) (of : List Marked) → MaybeExprRule d of e
        → w ≡ of ++ sign_at sign.Semicolon q ∷ [] → Looks o (w ++ z) → Back (MaybeExpr d) Any (Then (ExprRule 0 d) (λ e. Tok (token.Sign sign.Semicolon))) Any (λ x. Some x.0) w z e
    by_rule z o n q of no_expr f l = absurd (n (looks_is o (sign_at sign.Semicolon q) [] z f l))
    by_rule {d = d} z o n q of (some_expr {e = t} x) f l = record { tree = (t, q); rule = front (ExprRule 0 d) t q of (sign_at sign.Semicolon q ∷ []) f x refl; is = refl; follows = tt }

-- what a `return` gives, where it may be nothing
pub maybe_returned_back : {home : RoutineKind} {d : ℕ} {w : List Marked} {e : Option ExprTree} (z : List Marked) → Returned home d w e → Back (Returned home d) Any (MaybeExpr d) Any (λ x. x) w z e
maybe_returned_back {e = e} z r = record { tree = e; rule = (r.0, r.1, by_rule r.2, r.3); is = refl; follows = tt }
  where
    by_rule : {home : RoutineKind} {d : ℕ} {of : List Marked} {e : Option ExprTree} → ReturnedRule home d of e → MaybeExprRule d of e
    by_rule (nothing h) = no_expr
    by_rule (something x) = some_expr x

-- and where it may not
pub returned_back : {home : RoutineKind} {d : ℕ} {w : List Marked} {e : Option ExprTree} (z : List Marked) → has_bare_return home ≡ false → Returned home d w e
    → Back (Returned home d) Any (Then (ExprRule 0 d) (λ e. Tok (token.Sign sign.Semicolon))) Any (λ x. Some x.0) w z e
returned_back z h r = by_rule z h r.0 r.1 r.2 r.3
  where
    by_rule : {home : RoutineKind} {d : ℕ} {w : List Marked} {e : Option ExprTree} (z : List Marked) → has_bare_return home ≡ false → (q : Place) (of : List Marked) → ReturnedRule home d of e
        → w ≡ of ++ sign_at sign.Semicolon q ∷ [] → Back (Returned home d) Any (Then (ExprRule 0 d) (λ e. Tok (token.Sign sign.Semicolon))) Any (λ x. Some x.0) w z e
    by_rule z h q of (nothing b) f = let k : true ≡ false = sym b ∙ h in absurd (cc)
    by_rule {d = d} z h q of (something {e = t} x) f = record { tree = (t, q); rule = front (ExprRule 0 d) t q of (sign_at sign.Semicolon q ∷ []) f x refl; is = refl; follows = tt }

-- the parts of a `for`
init_starts : {home : RoutineKind} {d : ℕ} {c c' : Counts} {w : List Marked} {p : Place} {rest body : Body} → InitRule home d c c' w p rest body → Starts PlainToken w
init_starts {w = w} r = begins_starts w (init_begins r)

assign_starts : {d : ℕ} {w : List Marked} {p : Place} {rest body : Body} → AssignRule d w p rest body → Starts PlainToken w
assign_starts {w = w} r = begins_starts w (assign_begins r)

pub no_start_back : {home : RoutineKind} {d : ℕ} {c : Counts} {w : List Marked} {u : Body × Counts} (z : List Marked) → StartPart home d c w u → Looks (Some (token.Sign sign.Semicolon)) (w ++ z)
    → Back (StartPart home d c) Any (Tok (token.Sign sign.Semicolon)) Any (λ p. (End, c)) w z u
no_start_back z r l = by_rule z r.0 r.1 r.2 r.3 l
  where
    by_rule : {home : RoutineKind} {d : ℕ} {c c' : Counts} {w : List Marked} {b : Body} (z : List Marked) (q : Place) (of : List Marked) → InitPart home d c c' of b
        → w ≡ of ++ sign_at sign.Semicolon q ∷ [] → Looks (Some (token.Sign sign.Semicolon)) (w ++ z) → Back (StartPart home d c) Any (Tok (token.Sign sign.Semicolon)) Any (λ p. (End, c)) w z (b, c')
    by_rule z q of no_init f l = record { tree = q; rule = f; is = refl; follows = tt }
    by_rule {d = d} {c = c} {w = w} z q of (some_init at xs i e) f l =
        absurd (starts_looks PlainToken w z (Some (token.Sign sign.Semicolon))
        (starts_is PlainToken of (sign_at sign.Semicolon q ∷ []) f (subst (Starts PlainToken) (sym e) (starts_begun PlainToken c d xs (init_starts i)))) l)

pub start_back : {home : RoutineKind} {d : ℕ} {c : Counts} {w : List Marked} {u : Body × Counts} (z : List Marked) (o : Option Token) → (o ≡ Some (token.Sign sign.Semicolon) → ⊥) → StartPart home d c w u
    → Looks o (w ++ z)
    → Back (StartPart home d c) Any (Then (Begun c d (Init home d (one_statement c))) (λ o. Tok (token.Sign sign.Semicolon))) Any (λ x. (x.0.body, x.0.counts)) w z u
start_back z o n r l = by_rule z o n r.0 r.1 r.2 r.3 l
  where
    by_rule : {home : RoutineKind} {d : ℕ} {c c' : Counts} {w : List Marked} {b : Body} (z : List Marked) (o : Option Token) → (o ≡ Some (token.Sign sign.Semicolon) → ⊥) → (q : Place) (of : List Marked)
        → InitPart home d c c' of b → w ≡ of ++ sign_at sign.Semicolon q ∷ [] → Looks o (w ++ z)
        → Back (StartPart home d c) Any (Then (Begun c d (Init home d (one_statement c))) (λ o. Tok (token.Sign sign.Semicolon))) Any (λ x. (x.0.body, x.0.counts)) w z (b, c')
    by_rule z o n q of no_init f l = absurd (n (looks_is o (sign_at sign.Semicolon q) [] z f l))
    by_rule {home = home} {d = d} {c = c} {c' = c'} {b = b} z o n q of (some_init at xs i e) f l =
        record {
          tree = (closed b c', q);
          rule = front (Begun c d (Init home d (one_statement c))) (closed b c') q of (sign_at sign.Semicolon q ∷ []) f (xs, (at, i, refl), e) refl;
          is = refl;
          follows = tt;
        }

pub no_next_back : {d : ℕ} {c : Counts} {w : List Marked} {u : Body × Counts} (z : List Marked) → NextPart d c w u → Looks (Some (token.Sign sign.CloseRound)) (w ++ z)
    → Back (NextPart d c) Any (Tok (token.Sign sign.CloseRound)) Any (λ p. (End, c)) w z u
no_next_back z r l = by_rule z r.0 r.1 r.2 r.3 l
  where
    by_rule : {d : ℕ} {c c' : Counts} {w : List Marked} {b : Body} (z : List Marked) (q : Place) (of : List Marked) → StepPart d c c' of b → w ≡ of ++ sign_at sign.CloseRound q ∷ []
        → Looks (Some (token.Sign sign.CloseRound)) (w ++ z) → Back (NextPart d c) Any (Tok (token.Sign sign.CloseRound)) Any (λ p. (End, c)) w z (b, c')
    by_rule z q of no_step f l = record { tree = q; rule = f; is = refl; follows = tt }
    by_rule {d = d} {c = c} {w = w} z q of (some_step at xs i e) f l =
        absurd (starts_looks PlainToken w z (Some (token.Sign sign.CloseRound))
        (starts_is PlainToken of (sign_at sign.CloseRound q ∷ []) f (subst (Starts PlainToken) (sym e) (starts_begun PlainToken c d xs (assign_starts i)))) l)

pub next_back : {d : ℕ} {c : Counts} {w : List Marked} {u : Body × Counts} (z : List Marked) (o : Option Token) → (o ≡ Some (token.Sign sign.CloseRound) → ⊥) → NextPart d c w u → Looks o (w ++ z)
    → Back (NextPart d c) Any (Then (Begun c d (Assignment d)) (λ b. Tok (token.Sign sign.CloseRound))) Any (λ x. (x.0, one_statement c)) w z u
next_back z o n r l = by_rule z o n r.0 r.1 r.2 r.3 l
  where
    by_rule : {d : ℕ} {c c' : Counts} {w : List Marked} {b : Body} (z : List Marked) (o : Option Token) → (o ≡ Some (token.Sign sign.CloseRound) → ⊥) → (q : Place) (of : List Marked)
        → StepPart d c c' of b → w ≡ of ++ sign_at sign.CloseRound q ∷ [] → Looks o (w ++ z)
        → Back (NextPart d c) Any (Then (Begun c d (Assignment d)) (λ b. Tok (token.Sign sign.CloseRound))) Any (λ x. (x.0, one_statement c)) w z (b, c')
    by_rule z o n q of no_step f l = absurd (n (looks_is o (sign_at sign.CloseRound q) [] z f l))
    by_rule {d = d} {c = c} {b = b} z o n q of (some_step at xs i e) f l =
        record { tree = (b, q); rule = front (Begun c d (Assignment d)) b q of (sign_at sign.CloseRound q ∷ []) f (xs, (at, i), e) refl; is = refl; follows = tt }

-- a statement in a list, and a body
begun_plain : {w : List Marked} (xs : List Marked) (c : Counts) (d : ℕ) (z : List Marked) → w ≡ begin_statement c d xs → Starts PlainToken xs → Looks (Some (token.Sign sign.OpenCurly)) (w ++ z) → ⊥
begun_plain {w = w} xs c d z e h l = starts_looks PlainToken w z (Some (token.Sign sign.OpenCurly)) (subst (Starts PlainToken) (sym e) (starts_begun PlainToken c d xs h)) l

block_looks : {home : RoutineKind} {d : ℕ} {c c' : Counts} {w : List Marked} {body : Body} (z : List Marked) (o : Option Token) → BlockRule home d c c' w body → Looks o (w ++ z)
    → o ≡ Some (token.Sign sign.OpenCurly)
block_looks z o (braces p q xs r e) l = looks_is o (sign_at sign.OpenCurly p) _ z e l

pub one_block_back : {home : RoutineKind} {d : ℕ} {c : Counts} {w : List Marked} {u : Out} (z : List Marked) → One home d c w u → Looks (Some (token.Sign sign.OpenCurly)) (w ++ z)
    → Back (One home d c) NoElse (Begun c d (Placed (Block home (suc d) (one_statement c)))) Any (λ x. closed (BlockStmt x.0 x.1.body End) x.1.counts) w z u
one_block_back z r l = by_rule z r l
  where
    by_rule : {home : RoutineKind} {d : ℕ} {c c' : Counts} {w : List Marked} {b : Body} {h : Bool} (z : List Marked) → StmtRule home d c c' w End b h → Looks (Some (token.Sign sign.OpenCurly)) (w ++ z)
        → Back (One home d c) NoElse (Begun c d (Placed (Block home (suc d) (one_statement c)))) Any (λ x. closed (BlockStmt x.0 x.1.body End) x.1.counts) w z
        (record { body = b; counts = c'; ends_if = h })
    by_rule {c' = c'} z (block_stmt {inner = inner} at xs r s e) l = let k =
        block_of r in record { tree = (at, record { body = inner; counts = c'; close = k.0 }); rule = (xs, (s, k.1), e); is = refl; follows = tt }
    by_rule {d = d} {c = c} z (plain_stmt at xs r e) l = absurd (begun_plain xs c d z e (plain_starts r) l)

pub one_plain_back : {home : RoutineKind} {d : ℕ} {c : Counts} {w : List Marked} {u : Out} (z : List Marked) (o : Option Token) → (o ≡ Some (token.Sign sign.OpenCurly) → ⊥) → One home d c w u → NoElse u z
    → Looks o (w ++ z)
    → Back (One home d c) NoElse (Begun c d (Plain home d (one_statement c))) NoElse (λ x. x) w z u
one_plain_back {u = u} z o n r f l = record { tree = u; rule = by_rule z o n r l; is = refl; follows = f }
  where
    by_rule : {home : RoutineKind} {d : ℕ} {c c' : Counts} {w : List Marked} {b : Body} {h : Bool} (z : List Marked) (o : Option Token) → (o ≡ Some (token.Sign sign.OpenCurly) → ⊥)
        → StmtRule home d c c' w End b h → Looks o (w ++ z) → Begun c d (Plain home d (one_statement c)) w (record { body = b; counts = c'; ends_if = h })
    by_rule {d = d} {c = c} z o n (block_stmt at xs r s e) l = absurd (n (block_looks z o r (looks_begun o c d xs z (subst (λ k. Looks o (k ++ z)) e l))))
    by_rule z o n (plain_stmt at xs r e) l = (xs, (at, r), e)

pub body_block_back : {home : RoutineKind} {d : ℕ} {c : Counts} {w : List Marked} {u : Out} (z : List Marked) → BodyPart home d c w u → Looks (Some (token.Sign sign.OpenCurly)) (w ++ z)
    → Back (BodyPart home d c) NoElse (Block home d c) Any (λ o. closed o.body o.counts) w z u
body_block_back z r l = by_rule z r l
  where
    by_rule : {home : RoutineKind} {d : ℕ} {c c' : Counts} {w : List Marked} {b : Body} {h : Bool} (z : List Marked) → BodyRule home d c c' w b h → Looks (Some (token.Sign sign.OpenCurly)) (w ++ z)
        → Back (BodyPart home d c) NoElse (Block home d c) Any (λ o. closed o.body o.counts) w z (record { body = b; counts = c'; ends_if = h })
    by_rule {c' = c'} z (block_body {body = b} r) l = let k = block_of r in record { tree = record { body = b; counts = c'; close = k.0 }; rule = k.1; is = refl; follows = tt }
    by_rule {d = d} {c = c} z (one_body at xs r e) l = absurd (begun_plain xs c d z e (plain_starts r) l)

pub body_plain_back : {home : RoutineKind} {d : ℕ} {c : Counts} {w : List Marked} {u : Out} (z : List Marked) (o : Option Token) → (o ≡ Some (token.Sign sign.OpenCurly) → ⊥) → BodyPart home d c w u
    → NoElse u z → Looks o (w ++ z)
    → Back (BodyPart home d c) NoElse (Begun c d (Plain home d (one_statement c))) NoElse (λ x. x) w z u
body_plain_back {u = u} z o n r f l = record { tree = u; rule = by_rule z o n r l; is = refl; follows = f }
  where
    by_rule : {home : RoutineKind} {d : ℕ} {c c' : Counts} {w : List Marked} {b : Body} {h : Bool} (z : List Marked) (o : Option Token) → (o ≡ Some (token.Sign sign.OpenCurly) → ⊥)
        → BodyRule home d c c' w b h → Looks o (w ++ z) → Begun c d (Plain home d (one_statement c)) w (record { body = b; counts = c'; ends_if = h })
    by_rule z o n (block_body r) l = absurd (n (block_looks z o r l))
    by_rule z o n (one_body at xs r e) l = (xs, (at, r), e)

pub block_back : {home : RoutineKind} {d : ℕ} {c : Counts} {w : List Marked} {u : BlockOut} (z : List Marked) → Block home d c w u
    → Back (Block home d c) Any (Then (Tok (token.Sign sign.OpenCurly)) (λ p. Closing home d c)) Any (λ x. x.1) w z u
block_back {u = u} z r = record { tree = (r.0, u); rule = tok_front (token.Sign sign.OpenCurly) r.0 u (r.1 ++ sign_at sign.CloseCurly u.close ∷ []) r.3 (r.1, r.2, refl); is = refl; follows = tt }

-- a statement before others is one alone
alone_assign : {d : ℕ} {w : List Marked} {p : Place} {rest s : Body} → AssignRule d w p rest s → (b : Body) × AssignRule d w p End b × (s ≡ put_before b rest)
alone_assign (assign {xs = xs} {e = t} at p path of r e f g) = (AssignStmt at xs t End, assign at p path of r e f g, refl)
alone_assign (plus {xs = xs} {e = t} at p path of r e f g) = (ModifyStmt at xs (PlusChange t) End, plus at p path of r e f g, refl)
alone_assign (minus {xs = xs} {e = t} at p path of r e f g) = (ModifyStmt at xs (MinusChange t) End, minus at p path of r e f g, refl)
alone_assign (up {xs = xs} at p path r f g) = (ModifyStmt at xs UpChange End, up at p path r f g, refl)
alone_assign (down {xs = xs} at p path r f g) = (ModifyStmt at xs DownChange End, down at p path r f g, refl)

alone_init : {home : RoutineKind} {d : ℕ} {c c' : Counts} {w : List Marked} {p : Place} {rest s : Body} → InitRule home d c c' w p rest s
    → (b : Body) × InitRule home d c c' w p End b × (s ≡ put_before b rest)
alone_init (declare {i = i} at r s) = (DeclareStmt at i None End, declare at r s, refl)
alone_init (declare_value {i = i} {e = t} at p left of r e f s) = (DeclareStmt at i (Some t) End, declare_value at p left of r e f s, refl)
alone_init (change at r) = let k = alone_assign r in (k.0, change at k.1, k.2)

alone_plain : {home : RoutineKind} {d : ℕ} {c c' : Counts} {w : List Marked} {p : Place} {rest s : Body} {h : Bool} → PlainRule home d c c' w p rest s h
    → (b : Body) × PlainRule home d c c' w p End b h × (s ≡ put_before b rest)
alone_plain (if_stmt {body1 = i} {e = t} at p q test body e b f) = (IfStmt at t i End, if_stmt at p q test body e b f, refl)
alone_plain (if_else_stmt {body1 = i} {body2 = j} {e = t} at p q r test body other e b o f) = (IfElseStmt at t i j End, if_else_stmt at p q r test body other e b o f, refl)
alone_plain (while_stmt {inner = i} {e = t} at p q test body e b f) = (WhileStmt at t i End, while_stmt at p q test body e b f, refl)
alone_plain (for_stmt {start = v} {next = x} {inner = y} {e = t} at p q r s init test step body i e n b f) = (ForStmt at v t x y End, for_stmt at p q r s init test step body i e n b f, refl)
alone_plain (loop_stmt {inner = i} at body b f) = (LoopStmt at i End, loop_stmt at body b f, refl)
alone_plain (break_stmt at p) = (BreakStmt at End, break_stmt at p, refl)
alone_plain (continue_stmt at p) = (ContinueStmt at End, continue_stmt at p, refl)
alone_plain (return_stmt {e = t} at p of e f) = (ReturnStmt at t End, return_stmt at p of e f, refl)
alone_plain (throw_stmt {e = t} at p of e f) = (ThrowStmt at t End, throw_stmt at p of e f, refl)
alone_plain (try_stmt {inner = i} {handler = j} at p q r s u x body caught b h f) = (TryStmt at i p x j End, try_stmt at p q r s u x body caught b h f, refl)
alone_plain (choose_stmt {b = b} at p q first more w ws f) = (ChooseStmt at b End, choose_stmt at p q first more w ws f, refl)
alone_plain (init_stmt at p xs i f) = let k = alone_init i in (k.0, init_stmt at p xs k.1 f, k.2)
alone_plain (wait_stmt {w = x} at p xs w f s) = (WaitStmt at x End, wait_stmt at p xs w f s, refl)
alone_plain (call_stmt {xs = xs} {ts = ts} at p q r path args x a f s) = (CallStmt at xs ts End, call_stmt at p q r path args x a f s, refl)

pub alone : {home : RoutineKind} {d : ℕ} {c c' : Counts} {w : List Marked} {rest s : Body} {h : Bool} → StmtRule home d c c' w rest s h
    → (b : Body) × StmtRule home d c c' w End b h × (s ≡ put_before b rest)
alone (block_stmt {inner = i} at xs b s f) = (BlockStmt at i End, block_stmt at xs b s f, refl)
alone (plain_stmt at xs r f) = let k = alone_plain r in (k.0, plain_stmt at xs k.1 f, k.2)

-- statements up to a closing brace
pub end_back : {home : RoutineKind} {d : ℕ} {c : Counts} {w : List Marked} {u : BlockOut} (z : List Marked) → Closing home d c w u → Looks (Some (token.Sign sign.CloseCurly)) (w ++ z)
    → Back (Closing home d c) Any (Tok (token.Sign sign.CloseCurly)) Any (λ p. record { body = End; counts = c; close = p }) w z u
end_back z r l = by_rule z r.0 r.1 r.2 l
  where
    by_rule : {home : RoutineKind} {d : ℕ} {c c' : Counts} {w : List Marked} {b : Body} {q : Place} (z : List Marked) (xs : List Marked) → StmtsRule home d c c' xs b
        → w ≡ xs ++ sign_at sign.CloseCurly q ∷ [] → Looks (Some (token.Sign sign.CloseCurly)) (w ++ z)
        → Back (Closing home d c) Any (Tok (token.Sign sign.CloseCurly)) Any (λ p. record { body = End; counts = c; close = p }) w z (record { body = b; counts = c'; close = q })
    by_rule {q = q} z xs no_stmts e l = record { tree = q; rule = e; is = refl; follows = tt }
    by_rule {w = w} {q = q} z xs (more_stmts first more s m f) e l =
        absurd (starts_looks StmtToken w z (Some (token.Sign sign.CloseCurly))
        (starts_is StmtToken first (more ++ sign_at sign.CloseCurly q ∷ []) (e ∙ ap (λ k. k ++ sign_at sign.CloseCurly q ∷ []) f ∙ append_assoc first more _) (stmt_starts s)) l)

pub more_back : {home : RoutineKind} {d : ℕ} {c : Counts} {w : List Marked} {u : BlockOut} (z : List Marked) (o : Option Token) → (o ≡ Some (token.Sign sign.CloseCurly) → ⊥) → Closing home d c w u
    → Looks o (w ++ z)
    → Back (Closing home d c) Any (Then (One home d c) (λ o. Closing home d o.counts)) Any (λ x. record { body = put_before x.0.body x.1.body; counts = x.1.counts; close = x.1.close }) w z u
more_back z o n r l = by_rule z o n r.0 r.1 r.2 l
  where
    by_rule : {home : RoutineKind} {d : ℕ} {c c' : Counts} {w : List Marked} {b : Body} {q : Place} (z : List Marked) (o : Option Token) → (o ≡ Some (token.Sign sign.CloseCurly) → ⊥) → (xs : List Marked)
        → StmtsRule home d c c' xs b → w ≡ xs ++ sign_at sign.CloseCurly q ∷ [] → Looks o (w ++ z)
        → Back (Closing home d c) Any (Then (One home d c) (λ o. Closing home d o.counts)) Any (λ x. record { body = put_before x.0.body x.1.body; counts = x.1.counts; close = x.1.close }) w z
        (record { body = b; counts = c'; close = q })
    by_rule {q = q} z o n xs no_stmts e l = absurd (n (looks_is o (sign_at sign.CloseCurly q) [] z e l))
    by_rule {home = home} {d = d} {c = c} {c' = c'} {q = q} z o n xs (more_stmts {c1 = c1} {rest = rest} {ends_if = h} first more s m f) e l =
        let k = alone s in
        record {
          tree = (record { body = k.0; counts = c1; ends_if = h }, record { body = rest; counts = c'; close = q });
          rule = front (One home d c) (record { body = k.0; counts = c1; ends_if = h }) (record { body = rest; counts = c'; close = q }) first (more ++ sign_at sign.CloseCurly q ∷ [])
              (e ∙ ap (λ y. y ++ sign_at sign.CloseCurly q ∷ []) f ∙ append_assoc first more _) k.1 (more, m, refl);
          is = ap (λ y. record { body = y; counts = c'; close = q }) k.2;
          follows = tt;
        }

-- no `else` stands where statements go on
pub closing_no_else : {home : RoutineKind} {d : ℕ} {c : Counts} {w : List Marked} {u : BlockOut} (o : Out) (z : List Marked) → Closing home d c w u → NoElse o (w ++ z)
closing_no_else {u = u} o z r h = by_rule u.close o z r.0 r.1 r.2
  where
    by_rule : {home : RoutineKind} {d : ℕ} {c c' : Counts} {w : List Marked} {b : Body} (q : Place) (o : Out) (z xs : List Marked) → StmtsRule home d c c' xs b → w ≡ xs ++ sign_at sign.CloseCurly q ∷ []
        → NotBefore (token.Word word.Else) o (w ++ z)
    by_rule {w = w} q o z xs no_stmts e = not_before_is o (token.Word word.Else) (sign_at sign.CloseCurly q) w [] z e sign_no_word
      where
        sign_no_word : token.Sign sign.CloseCurly ≡ token.Word word.Else → ⊥
        sign_no_word f = cc
    by_rule {w = w} q o z xs (more_stmts first more s m f) e = starts_not o StmtToken (token.Word word.Else) (λ h. h) w z
        (starts_is StmtToken first (more ++ sign_at sign.CloseCurly q ∷ []) (e ∙ ap (λ k. k ++ sign_at sign.CloseCurly q ∷ []) f ∙ append_assoc first more _) (stmt_starts s))

-- branches
abbrev pub WhenSeq : RoutineKind → ℕ → ℕ → Counts → List Marked → Place × (Place × ((WaitTree × Counts) × (Place × Out))) → Type 0
WhenSeq home d n c w x = Then (Opening (Branch n ∷ Node d ∷ []) (token.Word word.When))
    (λ p. Then (Tok (token.Sign sign.OpenRound)) (λ q. Then (WaitingPart home d c) (λ y. Then (Tok (token.Sign sign.CloseRound)) (λ s. BodyPart home (suc d) y.1)))) w x

abbrev pub when_of : Place × (Place × ((WaitTree × Counts) × (Place × Out))) → WhenOut
when_of x = record { at = x.0; waiting = x.1.1.0.0; body = x.1.1.1.1.body; counts = x.1.1.1.1.counts }

record Branching (home : RoutineKind) (d n : ℕ) (c c' : Counts) (w : List Marked) (bs b : Branches) : Type 0 where
  tree : Place × (Place × ((WaitTree × Counts) × (Place × Out)))
  rule : WhenSeq home d n c w tree
  counts : (when_of tree).counts ≡ c'
  is : b ≡ MoreBranches (when_of tree).at (when_of tree).waiting (when_of tree).body bs
  part : WhenPart home d n c w (when_of tree)

branching : {home : RoutineKind} {d n : ℕ} {c c' : Counts} {w : List Marked} {bs b : Branches} → WhenRule home d n c c' w bs b → Branching home d n c c' w bs b
branching {home = home} {d = d} {n = n} {c = c} {c' = c'} (branch {c1 = c1} {w = y} {inner = inner} {ends_if = h} at p q xs body r o e) =
    let u : Out = record { body = inner; counts = c'; ends_if = h } in
    record {
      tree = (at, (p, ((y, c1), (q, u))));
      rule = front (Opening (Branch n ∷ Node d ∷ []) (token.Word word.When)) at (p, ((y, c1), (q, u))) (opens (Branch n ∷ Node d ∷ []) (token.Word word.When) at ∷ [])
          (sign_at sign.OpenRound p ∷ (xs ++ (sign_at sign.CloseRound q ∷ body))) e refl
          (tok_front (token.Sign sign.OpenRound) p ((y, c1), (q, u)) (xs ++ (sign_at sign.CloseRound q ∷ body)) refl
          (front (WaitingPart home d c) (y, c1) (q, u) xs (sign_at sign.CloseRound q ∷ body) refl r (tok_front (token.Sign sign.CloseRound) q u body refl o)));
      counts = refl;
      is = refl;
      part = λ bs. branch at p q xs body r o e;
    }

same_branch : (p q : Place) (x y : WaitTree) (b e : Body) (bs : Branches) → MoreBranches p x b bs ≡ MoreBranches q y e bs → (p ≡ q) × (x ≡ y) × (b ≡ e)
same_branch p q x y b e bs h = (cc, cc, cc)

pub when_back : {home : RoutineKind} {d n : ℕ} {c : Counts} {w : List Marked} {u : WhenOut} (z : List Marked) → WhenPart home d n c w u → NotBefore (token.Word word.Else) u z
    → Back (WhenPart home d n c) (NotBefore (token.Word word.Else)) (WhenSeq home d n c) (λ x. NoElse x.1.1.1.1) when_of w z u
when_back {u = u} z r f =
    let k = branching (r NoBranches) in
    let v = when_of k.tree in
    let h = same_branch u.at v.at u.waiting v.waiting u.body v.body NoBranches k.is in
    record {
      tree = k.tree;
      rule = k.rule;
      is = ap (λ x. record { at = x; waiting = u.waiting; body = u.body; counts = u.counts }) h.0 ∙ ap (λ x. record { at = v.at; waiting = x; body = u.body; counts = u.counts }) h.1
          ∙ ap (λ x. record { at = v.at; waiting = v.waiting; body = x; counts = u.counts }) h.2 ∙ ap (λ x. record { at = v.at; waiting = v.waiting; body = v.body; counts = x }) (sym k.counts);
      follows = λ e. not_before_same (token.Word word.Else) u k.tree.1.1.1.1 z f;
    }

when_looks : {home : RoutineKind} {d n : ℕ} {c c' : Counts} {w : List Marked} {bs b : Branches} (z : List Marked) (o : Option Token) → WhenRule home d n c c' w bs b → Looks o (w ++ z)
    → o ≡ Some (token.Word word.When)
when_looks {d = d} {n = n} z o (branch at p q xs body r u e) l = looks_is o (opens (Branch n ∷ Node d ∷ []) (token.Word word.When) at) _ z e l

pub word_no_sign : (o : Option Token) → o ≡ Some (token.Word word.When) → o ≡ Some (token.Sign sign.CloseCurly) → ⊥
word_no_sign o e f = cc

pub all_whens_back : {home : RoutineKind} {d : ℕ} {c : Counts} {w : List Marked} {u : Branches × Counts} (z : List Marked) → AllWhens home d c w u
    → Back (AllWhens home d c) Any (Then (WhenPart home d 1 c) (λ o. WhensPart home d 2 o.counts)) Any (λ x. (MoreBranches x.0.at x.0.waiting x.0.body x.1.0, x.1.1)) w z u
all_whens_back {home = home} {d = d} {c = c} {u = u} z r =
    let k = branching r.5 in
    record {
      tree = (when_of k.tree, (r.4, u.1));
      rule = front (WhenPart home d 1 c) (when_of k.tree) (r.4, u.1) r.1 (r.2 ++ sign_at sign.CloseCurly r.0 ∷ []) r.7 k.part
          (r.0, r.2, subst (λ y. WhensRule home d 2 y u.1 r.2 r.4) (sym k.counts) r.6, refl);
      is = ap (λ y. (y, u.1)) k.is;
      follows = tt;
    }

pub no_when_back : {home : RoutineKind} {d n : ℕ} {c : Counts} {w : List Marked} {u : Branches × Counts} (z : List Marked) (o : Option Token) → (o ≡ Some (token.Word word.When) → ⊥)
    → WhensPart home d n c w u → Looks o (w ++ z) → Back (WhensPart home d n c) Any (Tok (token.Sign sign.CloseCurly)) Any (λ p. (NoBranches, c)) w z u
no_when_back z o m r l = by_rule z o m r.0 r.1 r.2 r.3 l
  where
    by_rule : {home : RoutineKind} {d n : ℕ} {c c' : Counts} {w : List Marked} {b : Branches} (z : List Marked) (o : Option Token) → (o ≡ Some (token.Word word.When) → ⊥) → (q : Place) (of : List Marked)
        → WhensRule home d n c c' of b → w ≡ of ++ sign_at sign.CloseCurly q ∷ [] → Looks o (w ++ z)
        → Back (WhensPart home d n c) Any (Tok (token.Sign sign.CloseCurly)) Any (λ p. (NoBranches, c)) w z (b, c')
    by_rule z o m q of no_whens e l = record { tree = q; rule = e; is = refl; follows = tt }
    by_rule z o m q of (more_whens first more w v f) e l =
        let g = e ∙ ap (λ k. k ++ sign_at sign.CloseCurly q ∷ []) f ∙ append_assoc first more (sign_at sign.CloseCurly q ∷ []) in
        absurd (m (when_looks ((more ++ sign_at sign.CloseCurly q ∷ []) ++ z) o w (subst (Looks o) (ap (λ k. k ++ z) g ∙ append_assoc first (more ++ sign_at sign.CloseCurly q ∷ []) z) l)))

pub end_whens_back : {home : RoutineKind} {d n : ℕ} {c : Counts} {w : List Marked} {u : Branches × Counts} (z : List Marked) → WhensPart home d n c w u → Looks (Some (token.Sign sign.CloseCurly)) (w ++ z)
    → Back (WhensPart home d n c) Any (Tok (token.Sign sign.CloseCurly)) Any (λ p. (NoBranches, c)) w z u
end_whens_back z r l = no_when_back z (Some (token.Sign sign.CloseCurly)) (λ e. word_no_sign (Some (token.Sign sign.CloseCurly)) e refl) r l

pub more_whens_back : {home : RoutineKind} {d n : ℕ} {c : Counts} {w : List Marked} {u : Branches × Counts} (z : List Marked) (o : Option Token) → (o ≡ Some (token.Sign sign.CloseCurly) → ⊥)
    → WhensPart home d n c w u → Looks o (w ++ z)
    → Back (WhensPart home d n c) Any (Then (WhenPart home d n c) (λ o. WhensPart home d (suc n) o.counts)) Any (λ x. (MoreBranches x.0.at x.0.waiting x.0.body x.1.0, x.1.1)) w z u
more_whens_back z o n r l = by_rule z o n r.0 r.1 r.2 r.3 l
  where
    by_rule : {home : RoutineKind} {d n : ℕ} {c c' : Counts} {w : List Marked} {b : Branches} (z : List Marked) (o : Option Token) → (o ≡ Some (token.Sign sign.CloseCurly) → ⊥)
        → (q : Place) (of : List Marked) → WhensRule home d n c c' of b → w ≡ of ++ sign_at sign.CloseCurly q ∷ [] → Looks o (w ++ z)
        → Back (WhensPart home d n c) Any (Then (WhenPart home d n c) (λ o. WhensPart home d (suc n) o.counts)) Any (λ x. (MoreBranches x.0.at x.0.waiting x.0.body x.1.0, x.1.1)) w z (b, c')
    by_rule z o h q of no_whens e l = absurd (h (looks_is o (sign_at sign.CloseCurly q) [] z e l))
    by_rule {home = home} {d = d} {n = n} {c = c} {c' = c'} z o h q of (more_whens {bs = bs} first more w m f) e l =
        let k = branching w in
        record {
          tree = (when_of k.tree, (bs, c'));
          rule = front (WhenPart home d n c) (when_of k.tree) (bs, c') first (more ++ sign_at sign.CloseCurly q ∷ [])
              (e ∙ ap (λ y. y ++ sign_at sign.CloseCurly q ∷ []) f ∙ append_assoc first more (sign_at sign.CloseCurly q ∷ [])) k.part
              (q, more, subst (λ y. WhensRule home d (suc n) y c' more bs) (sym k.counts) m, refl);
          is = ap (λ y. (y, c')) k.is;
          follows = tt;
        }

-- no `else` stands where branches go on
pub whens_no_else : {A : Type 0} {home : RoutineKind} {d n : ℕ} {c : Counts} {w : List Marked} {u : Branches × Counts} (a : A) (z : List Marked) → WhensPart home d n c w u
    → NotBefore (token.Word word.Else) a (w ++ z)
whens_no_else {A = A} a z r = by_rule r.0 r.1 r.2 r.3
  where
    curly : token.Sign sign.CloseCurly ≡ token.Word word.Else → ⊥
    curly e = cc

    when_else : token.Word word.When ≡ token.Word word.Else → ⊥
    when_else e = cc

    by_when : {home : RoutineKind} {d n : ℕ} {c c' : Counts} {w v : List Marked} {bs b : Branches} → WhenRule home d n c c' v bs b → (more : List Marked) → w ≡ v ++ more
        → NotBefore (token.Word word.Else) a (w ++ z)
    by_when {d = d} {n = n} {w = w} (branch at p q xs body r u e) more g =
        not_before_is a (token.Word word.Else) (opens (Branch n ∷ Node d ∷ []) (token.Word word.When) at) w _ z (g ∙ ap (λ k. k ++ more) e) when_else

    by_rule : {home : RoutineKind} {d n : ℕ} {c c' : Counts} {w : List Marked} {b : Branches} (q : Place) (of : List Marked) → WhensRule home d n c c' of b → w ≡ of ++ sign_at sign.CloseCurly q ∷ []
        → NotBefore (token.Word word.Else) a (w ++ z)
    by_rule {w = w} q of no_whens e = not_before_is a (token.Word word.Else) (sign_at sign.CloseCurly q) w [] z e curly
    by_rule q of (more_whens first more v m f) e = by_when v (more ++ sign_at sign.CloseCurly q ∷ [])
        (e ∙ ap (λ k. k ++ sign_at sign.CloseCurly q ∷ []) f ∙ append_assoc first more (sign_at sign.CloseCurly q ∷ []))

pub when_starts : {home : RoutineKind} {d n : ℕ} {c c' : Counts} {bs b : Branches} (w : List Marked) → WhenRule home d n c c' w bs b → Starts WhenToken w
when_starts w (branch at p q xs body r o e) = subst (Starts WhenToken) (sym e) tt
