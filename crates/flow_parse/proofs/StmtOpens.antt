-- With each token that a statement may begin with, one begins; where no statement begins; and where
-- there can be none more.
use Rattle.std.proofs.Common.{◌≡◌, ℕ, suc, ◌≤◌, ◌<◌, Bool, true, false, List, [], ◌∷◌, ◌++◌, length, take, drop, refl, sym, ◌∙◌, subst, arith, append_assoc, inl, inr}
use Rattle.std.specs.declared.option.Option.{Option}
use Rattle.std.specs.declared.option.Option.TheVariants.{None, Some}
use Rattle.flow_tree.specs.declared.limits.Limits.{Limits}
use Rattle.flow_base.specs.declared.place.Place.{Place}
use Rattle.flow_tree.specs.declared.fault.Rule.TheVariants as rule
use Rattle.flow_tree.specs.declared.fault.SourceFault.{SourceFault}
use Rattle.flow_tree.specs.declared.fault.SourceFault.TheVariants.{Refused}
use Rattle.flow_tree.specs.declared.token.Token.{Token}
use Rattle.flow_tree.specs.declared.token.Token.TheVariants as token
use Rattle.flow_tree.specs.declared.token.Word.{Word}
use Rattle.flow_tree.specs.declared.token.Word.TheVariants as word
use Rattle.flow_tree.specs.declared.token.Sign.TheVariants as sign
use Rattle.flow_tree.specs.declared.token.Spot.{Spot}
use Rattle.flow_tree.specs.declared.token.Tokens.{Tokens}
use Rattle.flow_tree.specs.declared.ty.Ident.{Ident}
use Rattle.flow_tree.specs.declared.decl.RoutineKind.{RoutineKind}
use Rattle.flow_tree.specs.declared.decl.RoutineKind.TheVariants.{Actor, Function, OldFunction}
use Rattle.flow_tree.specs.Tree.{IntType}
use Rattle.flow_tree.specs.Body.{IntoTree, Body, End, NoBranches, IfStmt, WhileStmt, ForStmt, LoopStmt, BreakStmt, ContinueStmt, ReturnStmt, ThrowStmt, TryStmt, DeclareStmt, ModifyStmt, WaitStmt, UpChange}
use Rattle.flow_tree.specs.GrammarAnswer.{place_at}
use Rattle.flow_tree.specs.GrammarToken.{Part, Statement, Node, Marked, opens, begin, AllInLimitsOf, GoodOf}
use Rattle.flow_tree.specs.Grammar.{sign_at, word_at, name_at, node_word, int_type}
use Rattle.flow_tree.specs.GrammarStmt.{Counts, StartsAt, one_statement, one_state, state_parts, no_state, some_state, declared, wait, wait_next, plain_wait, PathRule, last_name, more_names, AssignRule, assign, plus, minus, up, down, InitRule, declare, declare_value, change, no_init, no_step, no_expr, something, if_stmt, while_stmt, for_stmt, loop_stmt, break_stmt, continue_stmt, return_stmt, throw_stmt, try_stmt, choose_stmt, init_stmt, wait_stmt, BodyRule, block_body, one_body, braces, no_stmts, no_whens}
use Rattle.flow_exprs.proofs.Goes.{nowhere}
use Rattle.flow_parse.specs.Beyond.{Beyond}
use Rattle.flow_parse.specs.Failing.{Fails}
use Rattle.flow_parse.specs.Openers.{AsFirst, NameToken, TypeToken, IntoWord, IntoToken, StmtWord, PlainToken, StmtToken}
use Rattle.flow_parse.specs.Parts.{Out, BlockOut, NoElse, Placed, Begun, Marks, Init, Assignment, Simple, Plain, One, BodyPart, Block}
use Rattle.flow_parse.specs.Follow.{ExprEnds, Before}
use Rattle.flow_parse.specs.Reading.{token_at, Opening, Any}
use Rattle.flow_parse.proofs.Begins.{Starts, looks_is, starts_is, starts_looks, starts_weaken, type_starts, into_starts}
use Rattle.flow_parse.proofs.Failing.{Inhabited, good_marks}
use Rattle.flow_parse.proofs.Inhabitants.{some_begun, some_opening, some_expr, some_body, some_when, some_init, some_assignment, some_plain, some_one}
use Rattle.flow_parse.proofs.Leaves.{Turns, narrow, nothing, fails, next_is, none_fails, beyond_fails, marks_fails, begun_turns}
use Rattle.flow_parse.proofs.Looking.{first_of}
use Rattle.flow_parse.proofs.StmtBacks.{plain_starts, stmt_starts, stmt_token, starts_begun, Keyword, IsKeyword, plain_back}
use Rattle.flow_parse.proofs.Stmts.{one_plain, one_block, body_plain}
use Rattle.flow_parse.proofs.TreeOpens.{type_opens}
use Rattle.flow_parse.proofs.Unended.{simple_plain}
use Rattle.flow_parse.proofs.Unique.{at_open_curly}

-- with which tokens a declaration or a change of a variable begins
path_names : {w : List Marked} {xs : List Ident} → PathRule w xs → Starts NameToken w
path_names (last_name x) = tt
path_names (more_names x p more r e) = subst (Starts NameToken) (sym e) tt

assign_names : {d : ℕ} {w : List Marked} {p : Place} {rest body : Body} → AssignRule d w p rest body → Starts NameToken w
assign_names (assign at p path of r x e s) = starts_is NameToken path _ e (path_names r)
assign_names (plus at p path of r x e s) = starts_is NameToken path _ e (path_names r)
assign_names (minus at p path of r x e s) = starts_is NameToken path _ e (path_names r)
assign_names (up at p path r e s) = starts_is NameToken path _ e (path_names r)
assign_names (down at p path r e s) = starts_is NameToken path _ e (path_names r)

name_into : (t : Token) → NameToken t → IntoToken t
name_into (token.Name n) h = tt
name_into _ h = absurd h

init_intos : {home : RoutineKind} {d : ℕ} {c c' : Counts} {w : List Marked} {p : Place} {rest body : Body} → InitRule home d c c' w p rest body → Starts IntoToken w
init_intos (declare at i s) = into_starts i
init_intos (declare_value at p left of i x e s) = starts_is IntoToken left _ e (into_starts i)
init_intos {w = w} (change at r) = starts_weaken NameToken IntoToken name_into w (assign_names r)

place_of : (P : Token → Type 0) (w : List Marked) → Starts P w → (p : Place) × StartsAt w p
place_of P [] h = absurd h
place_of P (x ∷ w) h = (x.spot.at, refl)

-- one token with these parts, read of a part
with_token : (limits : Limits) → {A : Type 0} {R : List Marked → A → Type 0} (m : ℕ) (ps : List Part) (x : Token) (p : Place) (ts : List Spot) (rest : List Marked) (a : A) → AllInLimitsOf limits m ps
    → R (opens ps x p ∷ rest) a → GoodOf limits R m (take 1 (record { token = x; at = p } ∷ ts))
with_token limits m ps x p ts rest a k r = record { read = opens ps x p ∷ []; rest = rest; tree = a; rule = r; is = refl; keeps = (k, tt) }

name_with : (limits : Limits) (m d : ℕ) (n : List ℕ) (p : Place) (ts : List Spot) → GoodOf limits (Assignment d) m (take 1 (record { token = token.Name n; at = p } ∷ ts))
name_with limits m d n p ts =
    let x : Ident = record { name = n; at = p } in
    (with_token limits) m [] (token.Name n) p ts (sign_at sign.PlusPlus nowhere ∷ []) (ModifyStmt p (x ∷ []) UpChange End) tt (p, up p nowhere (name_at x ∷ []) (last_name x) refl refl)

assignment_opens : (limits : Limits) (m d : ℕ) (ts : List Spot) → AsFirst NameToken (first_of ts) → GoodOf limits (Assignment d) m (take 1 ts)
assignment_opens limits m d [] h = absurd h
assignment_opens limits m d (x ∷ ts) h = by_token x.token x.at h
  where
    by_token : (y : Token) (p : Place) → NameToken y → GoodOf limits (Assignment d) m (take 1 (record { token = y; at = p } ∷ ts))
    by_token (token.Name n) p h = name_with limits m d n p ts
    by_token _ p h = absurd h

module _ (limits : Limits) (m : ℕ) (low : m < 5) (home : RoutineKind) (d : ℕ) (c : Counts) where
  state_keeps : (a : RoutineKind) → AllInLimitsOf limits m (state_parts a c)
  state_keeps Actor = ((λ l. absurd (omega arith)), tt)
  state_keeps Function = tt
  state_keeps OldFunction = tt

  abbrev a_name : Ident
  a_name = record { name = []; at = nowhere }

  -- a declaration of a state variable
  state_with : (p : Place) (ts : List Spot) → GoodOf limits (Init home d c) m (take 1 (record { token = token.Word word.State; at = p } ∷ ts))
  state_with p ts =
      let o : Out = record { body = DeclareStmt p (record { state = true; ty = IntType; name = a_name }) None End; counts = one_state home c; ends_if = false } in
      (with_token limits) m (state_parts home c) (token.Word word.State) p ts (node_word d word.Int nowhere ∷ name_at a_name ∷ []) o (state_keeps home)
      (p, declare p (declared a_name (opens (state_parts home c) (token.Word word.State) p ∷ []) (node_word d word.Int nowhere ∷ []) (some_state p) (int_type nowhere) refl) refl, refl)

  -- a declaration that begins with a type
  type_init : (ts : List Spot) → AsFirst TypeToken (first_of ts) → GoodOf limits (Init home d c) m (take 1 ts)
  type_init ts h =
      let g = type_opens limits m d (λ l. absurd (omega arith)) ts h in
      let w = g.read ++ (g.rest ++ name_at a_name ∷ []) in
      let e : w ≡ (g.read ++ g.rest) ++ name_at a_name ∷ [] = sym (append_assoc g.read g.rest (name_at a_name ∷ [])) in
      let s = place_of TypeToken w (starts_is TypeToken (g.read ++ g.rest) _ e (type_starts g.rule)) in
      let i : IntoTree = record { state = false; ty = g.tree; name = a_name } in
      record {
        read = g.read;
        rest = g.rest ++ name_at a_name ∷ [];
        tree = record { body = DeclareStmt s.0 i None End; counts = c; ends_if = false };
        rule = (s.0, declare s.0 (declared a_name [] (g.read ++ g.rest) no_state g.rule e) s.1, refl);
        is = g.is;
        keeps = g.keeps;
      }

  init_name : (n : List ℕ) (p : Place) (ts : List Spot) → GoodOf limits (Init home d c) m (take 1 (record { token = token.Name n; at = p } ∷ ts))
  init_name n p ts =
      let g = name_with limits m d n p ts in
      record { read = g.read; rest = g.rest; tree = record { body = g.tree; counts = c; ends_if = false }; rule = (g.rule.0, change g.rule.0 g.rule.1, refl); is = g.is; keeps = g.keeps }

  init_word : (k : Word) (p : Place) (ts : List Spot) → IntoWord k → GoodOf limits (Init home d c) m (take 1 (record { token = token.Word k; at = p } ∷ ts))
  init_word word.State p ts h = state_with p ts
  init_word word.Int p ts h = type_init (record { token = token.Word word.Int; at = p } ∷ ts) tt
  init_word word.Bool p ts h = type_init (record { token = token.Word word.Bool; at = p } ∷ ts) tt
  init_word word.Str p ts h = type_init (record { token = token.Word word.Str; at = p } ∷ ts) tt
  init_word word.Void p ts h = type_init (record { token = token.Word word.Void; at = p } ∷ ts) tt
  init_word word.Error p ts h = type_init (record { token = token.Word word.Error; at = p } ∷ ts) tt
  init_word word.Future p ts h = type_init (record { token = token.Word word.Future; at = p } ∷ ts) tt
  init_word word.FutureStream p ts h = type_init (record { token = token.Word word.FutureStream; at = p } ∷ ts) tt
  init_word word.Promise p ts h = type_init (record { token = token.Word word.Promise; at = p } ∷ ts) tt
  init_word word.PromiseStream p ts h = type_init (record { token = token.Word word.PromiseStream; at = p } ∷ ts) tt
  init_word word.Vector p ts h = type_init (record { token = token.Word word.Vector; at = p } ∷ ts) tt
  init_word _ p ts h = absurd h

  init_with : (x : Token) (p : Place) (ts : List Spot) → IntoToken x → GoodOf limits (Init home d c) m (take 1 (record { token = x; at = p } ∷ ts))
  init_with (token.Name n) p ts h = init_name n p ts
  init_with (token.Word k) p ts h = init_word k p ts h
  init_with _ p ts h = absurd h

  init_opens : (ts : List Spot) → AsFirst IntoToken (first_of ts) → GoodOf limits (Init home d c) m (take 1 ts)
  init_opens [] h = absurd h
  init_opens (x ∷ ts) h = init_with x.token x.at ts h

  -- a declaration or a change, with its semicolon
  init_plain : (ts : List Spot) → GoodOf limits (Init home d c) m ts → GoodOf limits (Plain home d c) m ts
  init_plain ts g = record {
    read = g.read;
    rest = g.rest ++ sign_at sign.Semicolon nowhere ∷ [];
    tree = record { body = g.tree.body; counts = g.tree.counts; ends_if = false };
    rule = (g.rule.0, init_stmt g.rule.0 nowhere (g.read ++ g.rest) g.rule.1 (sym (append_assoc g.read g.rest (sign_at sign.Semicolon nowhere ∷ []))));
    is = g.is;
    keeps = g.keeps;
  }

  -- a statement that begins with a word of its own
  word_with : (k : Word) (p : Place) (ts : List Spot) (rest : List Marked) (a : Out) → Plain home d c (word_at k p ∷ rest) a
      → GoodOf limits (Plain home d c) m (take 1 (record { token = token.Word k; at = p } ∷ ts))
  word_with k p ts rest a r = with_token limits m [] (token.Word k) p ts rest a tt r

  plain_word : (k : Word) (p : Place) (ts : List Spot) → StmtWord k → GoodOf limits (Plain home d c) m (take 1 (record { token = token.Word k; at = p } ∷ ts))
  plain_word word.If p ts h =
      let e = some_expr (suc d) in
      let b = some_body home (suc d) c in
      word_with word.If p ts _ (record { body = IfStmt p e.tree b.tree.body End; counts = b.tree.counts; ends_if = true }) (p, if_stmt p nowhere nowhere e.marked b.marked e.rule b.rule refl)
  plain_word word.While p ts h =
      let e = some_expr (suc d) in
      let b = some_body home (suc d) c in
      word_with word.While p ts _ (record { body = WhileStmt p e.tree b.tree.body End; counts = b.tree.counts; ends_if = b.tree.ends_if })
      (p, while_stmt p nowhere nowhere e.marked b.marked e.rule b.rule refl)
  plain_word word.For p ts h =
      let b = some_body home (suc d) c in
      word_with word.For p ts _ (record { body = ForStmt p End None End b.tree.body End; counts = b.tree.counts; ends_if = b.tree.ends_if })
      (p, for_stmt p nowhere nowhere nowhere nowhere [] [] [] b.marked no_init no_expr no_step b.rule refl)
  plain_word word.Loop p ts h =
      let b = some_body home (suc d) c in
      word_with word.Loop p ts b.marked (record { body = LoopStmt p b.tree.body End; counts = b.tree.counts; ends_if = b.tree.ends_if }) (p, loop_stmt p b.marked b.rule refl)
  plain_word word.Break p ts h = word_with word.Break p ts (sign_at sign.Semicolon nowhere ∷ []) (record { body = BreakStmt p End; counts = c; ends_if = false }) (p, break_stmt p nowhere)
  plain_word word.Continue p ts h = word_with word.Continue p ts (sign_at sign.Semicolon nowhere ∷ []) (record { body = ContinueStmt p End; counts = c; ends_if = false }) (p, continue_stmt p nowhere)
  plain_word word.Return p ts h =
      let e = some_expr (suc d) in
      word_with word.Return p ts _ (record { body = ReturnStmt p (Some e.tree) End; counts = c; ends_if = false }) (p, return_stmt p nowhere e.marked (something e.rule) refl)
  plain_word word.Throw p ts h = word_with word.Throw p ts _ (record { body = ThrowStmt p None End; counts = c; ends_if = false }) (p, throw_stmt p nowhere [] no_expr refl)
  plain_word word.Try p ts h =
      let b = sign_at sign.OpenCurly nowhere ∷ sign_at sign.CloseCurly nowhere ∷ [] in
      word_with word.Try p ts _ (record { body = TryStmt p End nowhere a_name End End; counts = c; ends_if = false })
      (p, try_stmt p nowhere nowhere nowhere nowhere nowhere a_name b b (braces nowhere nowhere [] no_stmts refl) (braces nowhere nowhere [] no_stmts refl) refl)
  plain_word word.Choose p ts h =
      let x = some_when home (suc d) 1 c in
      word_with word.Choose p ts _ _ (p, choose_stmt p nowhere nowhere x.marked [] (x.rule NoBranches) no_whens refl)
  plain_word word.Wait p ts h =
      let e = some_expr (suc d) in
      word_with word.Wait p ts _ (record { body = WaitStmt p (record { into = None; next = false; operand = e.tree }) End; counts = c; ends_if = false })
      (p, wait_stmt p nowhere _ (plain_wait (wait p nowhere nowhere e.marked e.rule refl)) refl refl)
  plain_word word.WaitNext p ts h =
      let e = some_expr (suc d) in
      word_with word.WaitNext p ts _ (record { body = WaitStmt p (record { into = None; next = true; operand = e.tree }) End; counts = c; ends_if = false })
      (p, wait_stmt p nowhere _ (plain_wait (wait_next p nowhere nowhere e.marked e.rule refl)) refl refl)
  plain_word word.State p ts h = init_plain _ (init_word word.State p ts tt)
  plain_word word.Int p ts h = init_plain _ (init_word word.Int p ts tt)
  plain_word word.Bool p ts h = init_plain _ (init_word word.Bool p ts tt)
  plain_word word.Str p ts h = init_plain _ (init_word word.Str p ts tt)
  plain_word word.Void p ts h = init_plain _ (init_word word.Void p ts tt)
  plain_word word.Error p ts h = init_plain _ (init_word word.Error p ts tt)
  plain_word word.Future p ts h = init_plain _ (init_word word.Future p ts tt)
  plain_word word.FutureStream p ts h = init_plain _ (init_word word.FutureStream p ts tt)
  plain_word word.Promise p ts h = init_plain _ (init_word word.Promise p ts tt)
  plain_word word.PromiseStream p ts h = init_plain _ (init_word word.PromiseStream p ts tt)
  plain_word word.Vector p ts h = init_plain _ (init_word word.Vector p ts tt)
  plain_word _ p ts h = absurd h

  plain_with : (x : Token) (p : Place) (ts : List Spot) → PlainToken x → GoodOf limits (Plain home d c) m (take 1 (record { token = x; at = p } ∷ ts))
  plain_with (token.Name n) p ts h = init_plain _ (init_name n p ts)
  plain_with (token.Word k) p ts h = plain_word k p ts h
  plain_with _ p ts h = absurd h

  plain_opens : (ts : List Spot) → AsFirst PlainToken (first_of ts) → GoodOf limits (Plain home d c) m (take 1 ts)
  plain_opens [] h = absurd h
  plain_opens (x ∷ ts) h = plain_with x.token x.at ts h

  block_with : (p : Place) (ts : List Spot) → GoodOf limits (Placed (Block home d c)) m (take 1 (record { token = token.Sign sign.OpenCurly; at = p } ∷ ts))
  block_with p ts = with_token limits m [] (token.Sign sign.OpenCurly) p ts (sign_at sign.CloseCurly nowhere ∷ []) (p, record { body = End; counts = c; close = nowhere }) tt
      (refl, (p, [], no_stmts, refl))

  block_opens : (ts : List Spot) → first_of ts ≡ Some (token.Sign sign.OpenCurly) → GoodOf limits (Placed (Block home d c)) m (take 1 ts)
  block_opens [] h = absurd (cc)
  block_opens (x ∷ ts) h = let e : x.token ≡ token.Sign sign.OpenCurly =
      cc in subst (λ y. GoodOf limits (Placed (Block home d c)) m (take 1 (record { token = y; at = x.at } ∷ ts))) (sym e) (block_with x.at ts)

-- there can be no statement more, whichever part it is
module _ (limits : Limits) {A : Type 0} (R : List Marked → A → Type 0) (F : A → List Marked → Type 0) (P : Token → Type 0) (begins : (w : List Marked) (b : A) → R w b → Starts P w) (any : Inhabited R)
    (t : Tokens) (at : ℕ) (c : Counts) (d : ℕ) (lt : at < length t.spots.items) (good : (m : ℕ) → m < 5 → GoodOf limits R m (take 1 (drop at t.spots.items))) where
  marks_begin : (w : List Marked) (b : A) → Marks (Node d) R w b → Starts P w
  marks_begin w b r = subst (Starts P) (sym r.2) (still r.0 (begins r.0 b r.1))
    where
      still : (xs : List Marked) → Starts P xs → Starts P (begin (Node d) xs)
      still [] h = h
      still (x ∷ xs) h = h

  begun_of : (e : SourceFault) → Fails limits (Marks (Statement (suc c.statements)) (Marks (Node d) R)) F t at e → Fails limits (Begun c d R) F t at e
  begun_of e a = let h : at ≤ length t.spots.items = omega (arith, lt) in fails limits t
      (narrow limits t.spots.items refl (begun_turns R F c d (token_at t.spots.items at)) (nothing limits t.spots.items (Begun c d R) F at h)) e a

  too_many : limits.statements ≤ c.statements → Fails limits (Begun c d R) F t at (Refused (rule.L 4) (place_at t at))
  too_many h = begun_of (Refused (rule.L 4) (place_at t at)) (beyond_fails limits (Marks (Node d) R) F (Statement (suc c.statements)) 4 t at (omega arith) (omega arith) lt
      (λ k. omega (arith, h, k (omega arith))) (λ m l i. absurd (omega (arith, l, i))) P marks_begin
      (record { marked = begin (Node d) any.marked; tree = any.tree; rule = (any.marked, any.rule, refl) })
      (λ m l. good_marks limits R F (Node d) m (take 1 (drop at t.spots.items)) (λ i. absurd (omega (arith, l, i))) (good m (omega (arith, l)))))

  too_deep : c.statements < limits.statements → 64 < d → Fails limits (Begun c d R) F t at (Refused (rule.L 5) (place_at t at))
  too_deep f h = begun_of (Refused (rule.L 5) (place_at t at)) (marks_fails limits (Marks (Node d) R) F (Statement (suc c.statements)) t at (λ m l i. omega (arith, f))
      (Refused (rule.L 5) (place_at t at))
      (beyond_fails limits R F (Node d) 5 t at (omega arith) (omega arith) lt (λ k. omega (arith, h, k (omega arith))) (λ m l i. absurd (omega (arith, l, i))) P begins any good))

  begun_beyond : (e : SourceFault) → Beyond limits c d (place_at t at) e → Fails limits (Begun c d R) F t at e
  begun_beyond e h = elim h [
    | inl x ↦ subst (Fails limits (Begun c d R) F t at) (sym x.1) (too_many x.0)
    | inr x ↦ subst (Fails limits (Begun c d R) F t at) (sym x.2) (too_deep x.0 x.1)
  ]

-- a token that a statement begins with, if not a brace, begins a statement that is no block
no_brace : (o : Option Token) → AsFirst StmtToken o → (o ≡ Some (token.Sign sign.OpenCurly) → ⊥) → AsFirst PlainToken o
no_brace None h n = h
no_brace (Some (token.Name k)) h n = tt
no_brace (Some (token.Word k)) h n = h
no_brace (Some (token.Number k)) h n = absurd h
no_brace (Some (token.Text k)) h n = absurd h
no_brace (Some (token.Sign sign.OpenCurly)) h n = absurd (n refl)
no_brace (Some (token.Sign _)) h n = absurd h

module _ (limits : Limits) (t : Tokens) (at : ℕ) (home : RoutineKind) (d : ℕ) (c : Counts) where
  plain_beyond : at < length t.spots.items → AsFirst PlainToken (token_at t.spots.items at) → (e : SourceFault) → Beyond limits c d (place_at t at) e
      → Fails limits (Begun c d (Plain home d (one_statement c))) NoElse t at e
  plain_beyond lt f e h = begun_beyond limits (Plain home d (one_statement c)) NoElse PlainToken (λ w b r. plain_starts r.1) (some_plain home d (one_statement c)) t at c d lt
      (λ m l. plain_opens limits m l home d (one_statement c) (drop at t.spots.items) (subst (AsFirst PlainToken) (sym (next_is t.spots.items at)) f)) e h

  pub init_beyond : at < length t.spots.items → AsFirst IntoToken (token_at t.spots.items at) → (e : SourceFault) → Beyond limits c d (place_at t at) e
      → Fails limits (Begun c d (Init home d (one_statement c))) (Before (token.Sign sign.Semicolon)) t at e
  init_beyond lt f e h = begun_beyond limits (Init home d (one_statement c)) (Before (token.Sign sign.Semicolon)) IntoToken (λ w b r. init_intos r.1) (some_init home d (one_statement c)) t at c d lt
      (λ m l. init_opens limits m l home d (one_statement c) (drop at t.spots.items) (subst (AsFirst IntoToken) (sym (next_is t.spots.items at)) f)) e h

  block_beyond : at < length t.spots.items → token_at t.spots.items at ≡ Some (token.Sign sign.OpenCurly) → (e : SourceFault) → Beyond limits c d (place_at t at) e
      → Fails limits (Begun c d (Placed (Block home (suc d) (one_statement c)))) Any t at e
  block_beyond lt f e h =
      (begun_beyond limits) (Placed (Block home (suc d) (one_statement c))) Any StmtToken (λ w b r. subst (Starts StmtToken) (sym r.1.3) tt)
      (record {
        marked = sign_at sign.OpenCurly nowhere ∷ sign_at sign.CloseCurly nowhere ∷ [];
        tree = (nowhere, record { body = End; counts = one_statement c; close = nowhere });
        rule = (refl, (nowhere, [], no_stmts, refl));
      }) t at c d lt (λ m l. block_opens limits m l home (suc d) (one_statement c) (drop at t.spots.items) (next_is t.spots.items at ∙ f)) e h

  pub one_beyond : at < length t.spots.items → AsFirst StmtToken (token_at t.spots.items at) → (e : SourceFault) → Beyond limits c d (place_at t at) e → Fails limits (One home d c) NoElse t at e
  one_beyond lt f e h =
      let k : at ≤ length t.spots.items = omega (arith, lt) in
      elim (at_open_curly (token_at t.spots.items at)) [
        | inl x ↦ fails limits t (narrow limits t.spots.items x (one_block home d c) (nothing limits t.spots.items (One home d c) NoElse at k)) e (block_beyond lt x e h)
        | inr n ↦ fails limits t (narrow limits t.spots.items refl (one_plain home d c (token_at t.spots.items at) n) (nothing limits t.spots.items (One home d c) NoElse at k)) e
            (plain_beyond lt (no_brace (token_at t.spots.items at) f n) e h)
      ]

  pub body_beyond : at < length t.spots.items → AsFirst StmtToken (token_at t.spots.items at) → (token_at t.spots.items at ≡ Some (token.Sign sign.OpenCurly) → ⊥) → (e : SourceFault)
      → Beyond limits c d (place_at t at) e → Fails limits (BodyPart home d c) NoElse t at e
  body_beyond lt f n e h =
      let k : at ≤ length t.spots.items = omega (arith, lt) in
      (fails limits) t (narrow limits t.spots.items refl (body_plain home d c (token_at t.spots.items at) n) (nothing limits t.spots.items (BodyPart home d c) NoElse at k)) e
      (plain_beyond lt (no_brace (token_at t.spots.items at) f n) e h)

  -- where none begins
  pub one_none : (AsFirst StmtToken (token_at t.spots.items at) → ⊥) → Fails limits (One home d c) NoElse t at (Refused (rule.S 5) (place_at t at))
  one_none n = none_fails limits (One home d c) NoElse t at (some_one home d c) (λ w z b r f l. n (starts_looks StmtToken w z (token_at t.spots.items at) (stmt_starts r) l))

  body_starts : {c' : Counts} {w : List Marked} {body : Body} {h : Bool} → BodyRule home d c c' w body h → Starts StmtToken w
  body_starts (block_body (braces p q xs r e)) = subst (Starts StmtToken) (sym e) tt
  body_starts (one_body at xs r e) = subst (Starts StmtToken) (sym e) (starts_begun StmtToken c d xs (starts_weaken PlainToken StmtToken stmt_token xs (plain_starts r)))

  pub body_none : (AsFirst StmtToken (token_at t.spots.items at) → ⊥) → Fails limits (BodyPart home d c) NoElse t at (Refused (rule.S 5) (place_at t at))
  body_none n = none_fails limits (BodyPart home d c) NoElse t at (some_body home d c) (λ w z b r f l. n (starts_looks StmtToken w z (token_at t.spots.items at) (body_starts r) l))

  pub init_none : (AsFirst IntoToken (token_at t.spots.items at) → ⊥)
      → Fails limits (Begun c d (Init home d (one_statement c))) (Before (token.Sign sign.Semicolon)) t at (Refused (rule.S 5) (place_at t at))
  init_none n = none_fails limits (Begun c d (Init home d (one_statement c))) (Before (token.Sign sign.Semicolon)) t at
      (some_begun (Init home d (one_statement c)) c d (some_init home d (one_statement c)))
      (λ w z b r f l. n (starts_looks IntoToken w z (token_at t.spots.items at) (subst (Starts IntoToken) (sym r.2) (starts_begun IntoToken c d r.0 (init_intos r.1.1))) l))

module _ (limits : Limits) (t : Tokens) (at d : ℕ) (c : Counts) where
  pub step_beyond : at < length t.spots.items → AsFirst NameToken (token_at t.spots.items at) → (e : SourceFault) → Beyond limits c d (place_at t at) e
      → Fails limits (Begun c d (Assignment d)) ExprEnds t at e
  step_beyond lt f e h = begun_beyond limits (Assignment d) ExprEnds NameToken (λ w b r. assign_names r.1) (some_assignment d) t at c d lt
      (λ m l. assignment_opens limits m d (drop at t.spots.items) (subst (AsFirst NameToken) (sym (next_is t.spots.items at)) f)) e h

  pub step_none : (AsFirst NameToken (token_at t.spots.items at) → ⊥) → Fails limits (Begun c d (Assignment d)) ExprEnds t at (Refused (rule.S 5) (place_at t at))
  step_none n = none_fails limits (Begun c d (Assignment d)) ExprEnds t at (some_begun (Assignment d) c d (some_assignment d))
      (λ w z b r f l. n (starts_looks NameToken w z (token_at t.spots.items at) (subst (Starts NameToken) (sym r.2) (starts_begun NameToken c d r.0 (assign_names r.1.1))) l))

-- another token stands here
pub opening_none : (limits : Limits) (ps : List Part) (x : Token) (t : Tokens) (at : ℕ) → (token_at t.spots.items at ≡ Some x → ⊥)
    → Fails limits (Opening ps x) Any t at (Refused (rule.S 5) (place_at t at))
opening_none limits ps x t at n = none_fails limits (Opening ps x) Any t at (some_opening ps x) (λ w z b r f l. n (looks_is (token_at t.spots.items at) (opens ps x b) [] z r l))

-- no statement with a word of its own stands here
pub no_keyword : (o : Option Token) → (o ≡ Some (token.Word word.If) → ⊥) → (o ≡ Some (token.Word word.While) → ⊥) → (o ≡ Some (token.Word word.For) → ⊥) → (o ≡ Some (token.Word word.Loop) → ⊥)
    → (o ≡ Some (token.Word word.Try) → ⊥) → (o ≡ Some (token.Word word.Choose) → ⊥)
    → (o ≡ Some (token.Word word.Return) → ⊥) → (o ≡ Some (token.Word word.Throw) → ⊥) → (o ≡ Some (token.Word word.Break) → ⊥) → (o ≡ Some (token.Word word.Continue) → ⊥) → Keyword o → ⊥
no_keyword o i w f l t c r h b n k = by_word k.0 k.1 k.2
  where
    by_word : (j : Word) → o ≡ Some (token.Word j) → IsKeyword j → ⊥
    by_word word.If e x = i e
    by_word word.While e x = w e
    by_word word.For e x = f e
    by_word word.Loop e x = l e
    by_word word.Try e x = t e
    by_word word.Choose e x = c e
    by_word word.Return e x = r e
    by_word word.Throw e x = h e
    by_word word.Break e x = b e
    by_word word.Continue e x = n e
    by_word _ e x = x

pub simple_turns : (home : RoutineKind) (d : ℕ) (c : Counts) (o : Option Token) → (Keyword o → ⊥) → Turns (Plain home d c) NoElse (Simple home d c) Any (λ x. x) o
simple_turns home d c o n = record { back = λ w z b r f l. plain_back z o n r l; forth = λ w x r. simple_plain home d c w x r }

pub block_starts : {home : RoutineKind} {d : ℕ} {c : Counts} (w : List Marked) (o : BlockOut) → Block home d c w o → Starts StmtToken w
block_starts w o r = subst (Starts StmtToken) (sym r.3) tt
