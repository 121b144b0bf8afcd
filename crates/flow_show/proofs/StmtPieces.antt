-- Statements are read back from their texts.
use Rattle.std.proofs.Common.{◌≡◌, ℕ, suc, ◌<◌, List, [], ◌∷◌, ◌++◌, length, refl, sym, ap, ap₂, ◌∙◌, subst, arith, append_assoc, append-nil, Bool, true, false}
use Rattle.std.specs.Prelude.{codes}
use Rattle.std.specs.declared.option.Option.{Option}
use Rattle.std.specs.declared.option.Option.TheVariants.{None, Some}
use Rattle.flow_base.specs.declared.place.Place.{Place}
use Rattle.flow_tree.specs.declared.token.Word.TheVariants as word
use Rattle.flow_tree.specs.declared.token.Sign.TheVariants as sign
use Rattle.flow_tree.specs.declared.decl.RoutineKind.{RoutineKind}
use Rattle.flow_tree.specs.Tree.{ExprTree}
use Rattle.flow_tree.specs.Body.{Body, End, BlockStmt, IfStmt, IfElseStmt, WhileStmt, ForStmt, LoopStmt, BreakStmt, ContinueStmt, ReturnStmt, ThrowStmt, TryStmt, ChooseStmt, CallStmt, WaitStmt, Branches, MoreBranches}
use Rattle.flow_tree.specs.GrammarToken.{Node, Branch, Marked}
use Rattle.flow_tree.specs.Grammar.{sign_at}
use Rattle.flow_tree.specs.GrammarStmt.{Counts, begin_statement, StartsAt, assign, plus, minus, up, down, InitRule, declare, declare_value, change, PlainRule, if_stmt, if_else_stmt, while_stmt, for_stmt, loop_stmt, break_stmt, continue_stmt, return_stmt, throw_stmt, try_stmt, choose_stmt, init_stmt, wait_stmt, call_stmt, StmtRule, block_stmt, plain_stmt, BlockRule, braces, BodyRule, block_body, one_body, StmtsRule, no_stmts, more_stmts, WhensRule, no_whens, more_whens, WhenRule, branch}
use Rattle.flow_tree.specs.Canon.{expr_text, args_text, path_text, waiting_text, maybe_text, part_text, line, indent, body_text, branches_text, first_place, placeless_ident, placeless_body, placeless_branches}
use Rattle.flow_show.proofs.Going.{Piece, Any, all_parts, parts_cat, nothing, both, as_rule, behind, spaced, lined, under, blank, indent_gap, no_gap, reparted}
use Rattle.flow_show.proofs.TokenPieces.{Apart, name_piece, word_piece, sign_piece, open_round_ends, close_round_ends, open_curly_ends, close_curly_ends, semicolon_ends, space_ends}
use Rattle.flow_show.proofs.Valid.{AllValid, valid_head, valid_tail, valid_left, valid_right}
use Rattle.flow_show.proofs.ExprPieces.{some_in, expr_piece, args_piece, closing}
use Rattle.flow_show.proofs.PartPieces.{first_at, starts, starts_some, waiting_piece, path_piece, init_piece, stated, valid_stated, init_part_piece, step_part_piece, maybe_piece, returned_piece}

-- signs behind which anything may stand
pub sign_open : (p : Place) → Piece {X = Place} (λ x. sign_at sign.OpenRound x ∷ []) (sign_at sign.OpenRound p ∷ []) (40 ∷ []) Any
sign_open p = under (sign_piece [] sign.OpenRound p) (λ rest g. open_round_ends rest)

pub sign_shut : (p : Place) → Piece {X = Place} (λ x. sign_at sign.CloseRound x ∷ []) (sign_at sign.CloseRound p ∷ []) (41 ∷ []) Any
sign_shut p = under (sign_piece [] sign.CloseRound p) (λ rest g. close_round_ends rest)

pub sign_end : (p : Place) → Piece {X = Place} (λ x. sign_at sign.Semicolon x ∷ []) (sign_at sign.Semicolon p ∷ []) (59 ∷ []) Any
sign_end p = under (sign_piece [] sign.Semicolon p) (λ rest g. semicolon_ends rest)

pub curly_open : (p : Place) → Piece {X = Place} (λ x. sign_at sign.OpenCurly x ∷ []) (sign_at sign.OpenCurly p ∷ []) (123 ∷ []) Any
curly_open p = under (sign_piece [] sign.OpenCurly p) (λ rest g. open_curly_ends rest)

pub curly_close : (p : Place) → Piece {X = Place} (λ x. sign_at sign.CloseCurly x ∷ []) (sign_at sign.CloseCurly p ∷ []) (125 ∷ []) Any
curly_close p = under (sign_piece [] sign.CloseCurly p) (λ rest g. close_curly_ends rest)

-- a body in braces, from the opening one to the closing one, which stands at this level
abbrev pub braced : ℕ → List ℕ → List ℕ
braced k inner = 123 ∷ (10 ∷ (inner ++ (indent k ++ 125 ∷ [])))

pub in_braces : {X : Type 0} {mx : X → List Marked} {o : List Marked} {w : List ℕ} (k : ℕ) (p q : Place) → Piece mx o w Any
    → Piece {X = Place × (X × Place)} (λ y. sign_at sign.OpenCurly y.0 ∷ (mx y.1.0 ++ sign_at sign.CloseCurly y.1.1 ∷ [])) (sign_at sign.OpenCurly p ∷ (o ++ sign_at sign.CloseCurly q ∷ []))
    (braced k w) Any
in_braces k p q inner = both (curly_open p) (behind (blank 10 refl) (both inner (behind (indent_gap k) (curly_close q)) (λ rest g. tt))) (λ rest g. tt)

-- what the new tokens put before a body

pub record PlainKept (home : RoutineKind) (d : ℕ) (c c' : Counts) (rest body : Body) : Type 0 where
  pub marked : List Marked
  pub at : Place
  pub make : Body → Body
  pub ends : Bool
  pub rule : (r : Body) → PlainRule home d c c' marked at r (make r) ends
  pub like : (r : Body) → placeless_body r ≡ placeless_body rest → placeless_body (make r) ≡ placeless_body body
  pub some : 0 < length marked

pub record StmtKept (home : RoutineKind) (d : ℕ) (c c' : Counts) (rest body : Body) : Type 0 where
  pub marked : List Marked
  pub make : Body → Body
  pub ends : Bool
  pub rule : (r : Body) → StmtRule home d c c' marked r (make r) ends
  pub like : (r : Body) → placeless_body r ≡ placeless_body rest → placeless_body (make r) ≡ placeless_body body

pub record BlockKept (home : RoutineKind) (d : ℕ) (c c' : Counts) (body : Body) : Type 0 where
  pub marked : List Marked
  pub tree : Body
  pub rule : BlockRule home d c c' marked tree
  pub like : placeless_body tree ≡ placeless_body body

pub record StmtsKept (home : RoutineKind) (d : ℕ) (c c' : Counts) (body : Body) : Type 0 where
  pub marked : List Marked
  pub tree : Body
  pub rule : StmtsRule home d c c' marked tree
  pub like : placeless_body tree ≡ placeless_body body

pub record WhensKept (home : RoutineKind) (d n : ℕ) (c c' : Counts) (bs : Branches) : Type 0 where
  pub marked : List Marked
  pub tree : Branches
  pub rule : WhensRule home d n c c' marked tree
  pub like : placeless_branches tree ≡ placeless_branches bs

pub record WhenKept (home : RoutineKind) (d n : ℕ) (c c' : Counts) (rest bs : Branches) : Type 0 where
  pub marked : List Marked
  pub make : Branches → Branches
  pub rule : (r : Branches) → WhenRule home d n c c' marked r (make r)
  pub like : (r : Branches) → placeless_branches r ≡ placeless_branches rest → placeless_branches (make r) ≡ placeless_branches bs

-- a statement's own text, which the text of what follows comes behind
pub record Own {X : Type 0} (mx : X → List Marked) (m : List Marked) (k : ℕ) (rest body : Body) : Type 0 where
  pub own : List ℕ
  pub text : body_text k body ≡ own ++ body_text k rest
  pub piece : Piece mx m own Any

pub record OwnBranch {X : Type 0} (mx : X → List Marked) (m : List Marked) (k : ℕ) (rest bs : Branches) : Type 0 where
  pub own : List ℕ
  pub text : branches_text k bs ≡ own ++ branches_text k rest
  pub piece : Piece mx m own Any

-- a body as its level gives it, and the same tokens in braces
one_body_parts : (xs : List Marked) (p q : Place) → all_parts (sign_at sign.OpenCurly p ∷ (xs ++ sign_at sign.CloseCurly q ∷ [])) ≡ all_parts xs
one_body_parts xs p q = parts_cat xs (sign_at sign.CloseCurly q ∷ []) ∙ append-nil (all_parts xs)

-- texts of lines
pub headed : (k : ℕ) (h b : List ℕ) → line k (h ++ codes " {") ++ b ++ line k (codes "}") ≡ line k (h ++ (32 ∷ braced k b))
headed k h b = simp append_assoc refl

with_else : (k : ℕ) (h b o : List ℕ) → line k (h ++ codes ") {") ++ b ++ line k (codes "} else {") ++ o ++ line k (codes "}")
    ≡ line k (h ++ (41 ∷ (32 ∷ (braced k b ++ (32 ∷ (codes "else" ++ (32 ∷ braced k o)))))))
with_else k h b o = simp append_assoc refl

with_catch : (k : ℕ) (x b o : List ℕ) → line k (codes "try {") ++ b ++ line k (codes "} catch (Error& " ++ x ++ codes ") {") ++ o ++ line k (codes "}")
    ≡ line k (116 ∷ (114 ∷ (121 ∷ (32 ∷ (braced k b ++ (32 ∷ (codes "catch (Error& " ++ (x ++ (41 ∷ (32 ∷ braced k o))))))))))
with_catch k x b o = simp append_assoc refl

with_for : (k : ℕ) (i e s b : List ℕ) → line k (codes "for (" ++ i ++ codes "; " ++ e ++ codes "; " ++ s ++ codes ") {") ++ b ++ line k (codes "}")
    ≡ line k (codes "for (" ++ (i ++ (59 ∷ (32 ∷ (e ++ (59 ∷ (32 ∷ (s ++ (41 ∷ (32 ∷ braced k b))))))))))
with_for k i e s b = simp append_assoc refl

with_test : (k : ℕ) (h b : List ℕ) → line k (h ++ codes ") {") ++ b ++ line k (codes "}") ≡ line k (h ++ (41 ∷ (32 ∷ braced k b)))
with_test k h b = simp append_assoc refl

with_block : (k : ℕ) (b : List ℕ) → line k (codes "{") ++ b ++ line k (codes "}") ≡ line k (braced k b)
with_block k b = simp append_assoc refl

with_choose : (k : ℕ) (w v : List ℕ) → line k (codes "choose {") ++ (w ++ v) ++ line k (codes "}") ≡ line k (codes "choose " ++ (123 ∷ (10 ∷ (w ++ (v ++ (indent k ++ 125 ∷ []))))))
with_choose k w v = simp append_assoc refl

maybe_apart : (t : Option ExprTree) (rest : List ℕ) → Apart (maybe_text (codes " ") t ++ (59 ∷ rest))
maybe_apart None rest = refl
maybe_apart (Some t) rest = refl

ended : (p e : List ℕ) → p ++ codes "(" ++ e ++ codes ")" ++ codes ";" ≡ p ++ (40 ∷ (e ++ (41 ∷ (59 ∷ []))))
ended p e = simp append_assoc refl

-- the line of a change or a declaration
init_text : {home : RoutineKind} {d : ℕ} {c c' : Counts} {m : List Marked} {at : Place} {rest body : Body} (k : ℕ) → InitRule home d c c' m at rest body
    → body_text k body ≡ line k (part_text body ++ codes ";") ++ body_text k rest
init_text k (declare at r st) = refl
init_text k (declare_value at p left value r s e st) = refl
init_text k (change at (assign at' p path value r s e st)) = refl
init_text k (change at (plus at' p path value r s e st)) = refl
init_text k (change at (minus at' p path value r s e st)) = refl
init_text k (change at (up at' p path r e st)) = refl
init_text k (change at (down at' p path r e st)) = refl

pub plain_some : {home : RoutineKind} {d : ℕ} {c c' : Counts} {m : List Marked} {at : Place} {rest body : Body} {ends : Bool} → PlainRule home d c c' m at rest body ends → 0 < length m
plain_some (if_stmt at p q test body r b e) = some_in [] _ _ e
plain_some (if_else_stmt at p q s test body other r b o e) = some_in [] _ _ e
plain_some (while_stmt at p q test body r b e) = some_in [] _ _ e
plain_some (for_stmt at p q r s init test step body i t u b e) = some_in [] _ _ e
plain_some (loop_stmt at body b e) = some_in [] _ _ e
plain_some (break_stmt at p) = omega arith
plain_some (continue_stmt at p) = omega arith
plain_some (return_stmt at p value r e) = some_in [] _ _ e
plain_some (throw_stmt at p value r e) = some_in [] _ _ e
plain_some (try_stmt at p q r s u x body caught b h e) = some_in [] _ _ e
plain_some (choose_stmt at p q first more w ws e) = some_in [] _ _ e
plain_some (init_stmt at p xs r e) = some_in xs _ _ e
plain_some (wait_stmt at p xs r e st) = starts_some _ at st
plain_some (call_stmt at p q r path args a b e st) = starts_some _ at st

block_some : {home : RoutineKind} {d : ℕ} {c c' : Counts} {m : List Marked} {body : Body} → BlockRule home d c c' m body → 0 < length m
block_some (braces p q xs r e) = some_in [] _ _ e

mutual
  pub plain_piece : {home : RoutineKind} {d : ℕ} {c c' : Counts} {m : List Marked} {at : Place} {rest body : Body} {ends : Bool} (k : ℕ) → PlainRule home d c c' m at rest body ends → AllValid m
      → Own {X = PlainKept home d c c' rest body} (λ y. y.marked) m k rest body
  plain_piece k (if_stmt {body1 = b1} {e = t} at p q test body r b e) v =
      let a = valid_tail (valid_tail (subst AllValid e v)) in
      record {
        own = _;
        text = refl;
        piece = as_rule
            (lined k (both (word_piece [] word.If at) (spaced (both (sign_open p)
            (both (expr_piece r (valid_left test _ a)) (both (sign_shut q) (spaced (body_piece k b (valid_tail (valid_right test _ a)))) (λ rest g. tt)) (λ rest g. refl)) (λ rest g. tt)))
            (λ rest g. refl)) (λ rest. tt))
            (λ y. record {
              marked = _;
              at = y.0;
              make = λ r. IfStmt y.0 y.1.1.0.tree y.1.1.1.1.tree r;
              ends = true;
              rule = λ r. if_stmt y.0 y.1.0 y.1.1.1.0 y.1.1.0.marked y.1.1.1.1.marked y.1.1.0.rule (block_body y.1.1.1.1.rule) refl;
              like = λ r h. λ i. IfStmt first_place (y.1.1.0.like i) (y.1.1.1.1.like i) (h i);
              some = omega arith;
            })
            (λ y. refl) e (with_test k (codes "if (" ++ expr_text t) (body_text (suc k) b1));
      }
  plain_piece k (if_else_stmt {body1 = b1} {body2 = b2} {e = t} at p q s test body other r b o e) v =
      let a = valid_tail (valid_tail (subst AllValid e v)) in
      let bodies = valid_tail (valid_right test _ a) in
      record {
        own = _;
        text = refl;
        piece = as_rule
            (lined k (both (word_piece [] word.If at) (spaced (both (sign_open p)
            (both (expr_piece r (valid_left test _ a)) (both (sign_shut q) (spaced (both (body_piece k b (valid_left body _ bodies))
            (spaced (both (word_piece [] word.Else s) (spaced (body_piece k o (valid_tail (valid_right body _ bodies)))) (λ rest g. refl))) (λ rest g. tt))) (λ rest g. tt)) (λ rest g. refl))
            (λ rest g. tt))) (λ rest g. refl)) (λ rest. tt))
            (λ y. record {
              marked = _;
              at = y.0;
              make = λ r. IfElseStmt y.0 y.1.1.0.tree y.1.1.1.1.0.tree y.1.1.1.1.1.1.tree r;
              ends = false;
              rule = λ r. if_else_stmt y.0 y.1.0 y.1.1.1.0 y.1.1.1.1.1.0 y.1.1.0.marked y.1.1.1.1.0.marked y.1.1.1.1.1.1.marked y.1.1.0.rule (block_body y.1.1.1.1.0.rule)
                  (block_body y.1.1.1.1.1.1.rule) refl;
              like = λ r h. λ i. IfElseStmt first_place (y.1.1.0.like i) (y.1.1.1.1.0.like i) (y.1.1.1.1.1.1.like i) (h i);
              some = omega arith;
            })
            (λ y. refl) e (with_else k (codes "if (" ++ expr_text t) (body_text (suc k) b1) (body_text (suc k) b2));
      }
  plain_piece k (while_stmt {inner = b1} {e = t} at p q test body r b e) v =
      let a = valid_tail (valid_tail (subst AllValid e v)) in
      record {
        own = _;
        text = refl;
        piece = as_rule
            (lined k (both (word_piece [] word.While at) (spaced (both (sign_open p)
            (both (expr_piece r (valid_left test _ a)) (both (sign_shut q) (spaced (body_piece k b (valid_tail (valid_right test _ a)))) (λ rest g. tt)) (λ rest g. refl)) (λ rest g. tt)))
            (λ rest g. refl)) (λ rest. tt))
            (λ y. record {
              marked = _;
              at = y.0;
              make = λ r. WhileStmt y.0 y.1.1.0.tree y.1.1.1.1.tree r;
              ends = false;
              rule = λ r. while_stmt y.0 y.1.0 y.1.1.1.0 y.1.1.0.marked y.1.1.1.1.marked y.1.1.0.rule (block_body y.1.1.1.1.rule) refl;
              like = λ r h. λ i. WhileStmt first_place (y.1.1.0.like i) (y.1.1.1.1.like i) (h i);
              some = omega arith;
            })
            (λ y. refl) e (with_test k (codes "while (" ++ expr_text t) (body_text (suc k) b1));
      }
  plain_piece k (for_stmt {start = i0} {next = s0} {inner = b1} {e = t} at p q r s init test step body i u w b e) v =
      let a = valid_tail (valid_tail (subst AllValid e v)) in
      let second = valid_tail (valid_right init _ a) in
      let third = valid_tail (valid_right test _ second) in
      record {
        own = _;
        text = refl;
        piece = as_rule
            (lined k (both (word_piece [] word.For at) (spaced (both (sign_open p)
            (both (init_part_piece i (valid_left init _ a)) (both (sign_end q) (spaced (both (maybe_piece no_gap u (valid_left test _ second))
            (both (sign_end r) (spaced (both (step_part_piece w (valid_left step _ third)) (both (sign_shut s) (spaced (body_piece k b (valid_tail (valid_right step _ third)))) (λ rest g. tt))
            (λ rest g. refl))) (λ rest g. tt)) (λ rest g. refl))) (λ rest g. tt)) (λ rest g. refl)) (λ rest g. tt))) (λ rest g. refl)) (λ rest. tt))
            (λ y. record {
              marked = _;
              at = y.0;
              make = λ r. ForStmt y.0 y.1.1.0.tree y.1.1.1.1.0.tree y.1.1.1.1.1.1.0.tree y.1.1.1.1.1.1.1.1.tree r;
              ends = false;
              rule = λ r. for_stmt y.0 y.1.0 y.1.1.1.0 y.1.1.1.1.1.0 y.1.1.1.1.1.1.1.0 y.1.1.0.marked y.1.1.1.1.0.marked y.1.1.1.1.1.1.0.marked y.1.1.1.1.1.1.1.1.marked y.1.1.0.rule y.1.1.1.1.0.rule
                  y.1.1.1.1.1.1.0.rule (block_body y.1.1.1.1.1.1.1.1.rule) refl;
              like = λ r h. λ j. ForStmt first_place (y.1.1.0.like j) (y.1.1.1.1.0.like j) (y.1.1.1.1.1.1.0.like j) (y.1.1.1.1.1.1.1.1.like j) (h j);
              some = omega arith;
            })
            (λ y. refl) e (with_for k (part_text i0) (maybe_text [] t) (part_text s0) (body_text (suc k) b1));
      }
  plain_piece k (loop_stmt {inner = b1} at body b e) v =
      record {
        own = _;
        text = refl;
        piece = as_rule
            (lined k (both (word_piece [] word.Loop at) (spaced (body_piece k b (valid_tail (subst AllValid e v)))) (λ rest g. refl)) (λ rest. tt))
            (λ y. record {
              marked = _;
              at = y.0;
              make = λ r. LoopStmt y.0 y.1.tree r;
              ends = false;
              rule = λ r. loop_stmt y.0 y.1.marked (block_body y.1.rule) refl;
              like = λ r h. λ i. LoopStmt first_place (y.1.like i) (h i);
              some = omega arith;
            })
            (λ y. refl) e (headed k (codes "loop") (body_text (suc k) b1));
      }
  plain_piece k (break_stmt at p) v =
      record {
        own = _;
        text = refl;
        piece = as_rule (lined k (both (word_piece [] word.Break at) (sign_end p) (λ rest g. refl)) (λ rest. tt))
            (λ y. record { marked = _; at = y.0; make = λ r. BreakStmt y.0 r; ends = false; rule = λ r. break_stmt y.0 y.1; like = λ r h. ap (BreakStmt first_place) h; some = omega arith })
            (λ y. refl) refl refl;
      }
  plain_piece k (continue_stmt at p) v =
      record {
        own = _;
        text = refl;
        piece = as_rule (lined k (both (word_piece [] word.Continue at) (sign_end p) (λ rest g. refl)) (λ rest. tt))
            (λ y. record { marked = _; at = y.0; make = λ r. ContinueStmt y.0 r; ends = false; rule = λ r. continue_stmt y.0 y.1; like = λ r h. ap (ContinueStmt first_place) h; some = omega arith })
            (λ y. refl) refl refl;
      }
  plain_piece k (return_stmt {e = t} at p value r e) v =
      record {
        own = _;
        text = refl;
        piece = as_rule
            (lined k (both (word_piece [] word.Return at) (both (returned_piece (blank 32 refl) r (valid_left value _ (valid_tail (subst AllValid e v)))) (sign_end p) (λ rest g. refl))
            (λ rest g. subst Apart (sym (append_assoc (maybe_text (codes " ") t) (59 ∷ []) rest)) (maybe_apart t rest))) (λ rest. tt))
            (λ y. record {
              marked = _;
              at = y.0;
              make = λ r. ReturnStmt y.0 y.1.0.tree r;
              ends = false;
              rule = λ r. return_stmt y.0 y.1.1 y.1.0.marked y.1.0.rule refl;
              like = λ r h. ap₂ (ReturnStmt first_place) y.1.0.like h;
              some = omega arith;
            })
            (λ y. refl) e refl;
      }
  plain_piece k (throw_stmt {e = t} at p value r e) v =
      record {
        own = _;
        text = refl;
        piece = as_rule
            (lined k (both (word_piece [] word.Throw at) (both (maybe_piece (blank 32 refl) r (valid_left value _ (valid_tail (subst AllValid e v)))) (sign_end p) (λ rest g. refl))
            (λ rest g. subst Apart (sym (append_assoc (maybe_text (codes " ") t) (59 ∷ []) rest)) (maybe_apart t rest))) (λ rest. tt))
            (λ y. record {
              marked = _;
              at = y.0;
              make = λ r. ThrowStmt y.0 y.1.0.tree r;
              ends = false;
              rule = λ r. throw_stmt y.0 y.1.1 y.1.0.marked y.1.0.rule refl;
              like = λ r h. ap₂ (ThrowStmt first_place) y.1.0.like h;
              some = omega arith;
            })
            (λ y. refl) e refl;
      }
  plain_piece k (try_stmt {inner = b1} {handler = b2} at p q r s u x body caught b h e) v =
      let a = valid_tail (subst AllValid e v) in
      let tail = valid_right body _ a in
      let named = valid_tail (valid_tail (valid_tail (valid_tail tail))) in
      record {
        own = _;
        text = refl;
        piece = as_rule
            (lined k (both (word_piece [] word.Try at) (spaced (both (block_piece k b (valid_left body _ a))
            (spaced (both (word_piece [] word.Catch p) (spaced (both (sign_open q) (both (word_piece [] word.Error r)
            (both (sign_piece [] sign.Amp s) (spaced (both (name_piece [] x.name x.at (valid_head named)) (both (sign_shut u) (spaced (block_piece k h (valid_tail (valid_tail named)))) (λ rest g. tt))
            (λ rest g. refl))) (λ rest g. space_ends sign.Amp _)) (λ rest g. refl)) (λ rest g. tt))) (λ rest g. refl))) (λ rest g. tt))) (λ rest g. refl)) (λ rest. tt))
            (λ y. record {
              marked = _;
              at = y.0;
              make = λ r. TryStmt y.0 y.1.0.tree y.1.1.0 (record { name = x.name; at = y.1.1.1.1.1.1.0 }) y.1.1.1.1.1.1.1.1.tree r;
              ends = false;
              rule = λ r. try_stmt y.0 y.1.1.0 y.1.1.1.0 y.1.1.1.1.0 y.1.1.1.1.1.0 y.1.1.1.1.1.1.1.0 (record { name = x.name; at = y.1.1.1.1.1.1.0 }) y.1.0.marked y.1.1.1.1.1.1.1.1.marked y.1.0.rule
                  y.1.1.1.1.1.1.1.1.rule refl;
              like = λ r h. λ i. TryStmt first_place (y.1.0.like i) first_place (placeless_ident x) (y.1.1.1.1.1.1.1.1.like i) (h i);
              some = omega arith;
            })
            (λ y. refl) e (with_catch k x.name (body_text (suc k) b1) (body_text (suc k) b2));
      }
  plain_piece k (choose_stmt {b = b} {bs = bs} at p q first more w ws e) v =
      let a = valid_tail (valid_tail (subst AllValid e v)) in
      let one = when_piece (suc k) w (valid_left first _ a) in
      record {
        own = line k (codes "choose {") ++ branches_text (suc k) b ++ line k (codes "}");
        text = refl;
        piece = as_rule
            (lined k (both (word_piece [] word.Choose at) (spaced (both (curly_open p) (behind (blank 10 refl) (both one.piece
            (both (whens_piece (suc k) ws (valid_left more _ (valid_right first _ a))) (behind (indent_gap k) (curly_close q)) (λ rest g. tt)) (λ rest g. tt))) (λ rest g. tt))) (λ rest g. refl))
            (λ rest. tt))
            (λ y. record {
              marked = _;
              at = y.0;
              make = λ r. ChooseStmt y.0 (y.1.1.0.make y.1.1.1.0.tree) r;
              ends = false;
              rule = λ r. choose_stmt y.0 y.1.0 y.1.1.1.1 y.1.1.0.marked y.1.1.1.0.marked (y.1.1.0.rule y.1.1.1.0.tree) y.1.1.1.0.rule refl;
              like = λ r h. ap₂ (ChooseStmt first_place) (y.1.1.0.like y.1.1.1.0.tree y.1.1.1.0.like) h;
              some = omega arith;
            })
            (λ y. refl) e (ap (λ l. line k (codes "choose {") ++ l ++ line k (codes "}")) one.text ∙ with_choose k one.own (branches_text (suc k) bs));
      }
  plain_piece k (init_stmt {body = b} at p xs r e) v =
      record {
        own = line k (part_text b ++ codes ";");
        text = init_text k r;
        piece = as_rule
            (lined k (both (init_piece r (valid_left xs _ (subst AllValid e v))) (sign_end p) (λ rest g. refl)) (λ rest. tt))
            (λ y. record {
              marked = _;
              at = y.0.at;
              make = y.0.make;
              ends = false;
              rule = λ r. init_stmt y.0.at y.1 y.0.marked (y.0.rule r) refl;
              like = y.0.like;
              some = some_in y.0.marked _ _ refl;
            })
            (λ y. refl) e refl;
      }
  plain_piece k (wait_stmt {w = w} at p xs r e st) v =
      record {
        own = _;
        text = refl;
        piece = as_rule
            (lined k (both (waiting_piece r (valid_left xs _ (subst AllValid e v))) (sign_end p) (λ rest g. refl)) (λ rest. tt))
            (λ y. record {
              marked = _;
              at = first_at y.0.marked;
              make = λ r. WaitStmt (first_at y.0.marked) y.0.tree r;
              ends = false;
              rule = λ r. wait_stmt (first_at y.0.marked) y.1 y.0.marked y.0.rule refl (starts y.0.marked _ y.0.some);
              like = λ r h. ap₂ (WaitStmt first_place) y.0.like h;
              some = some_in y.0.marked _ _ refl;
            })
            (λ y. refl) e refl;
      }
  plain_piece k (call_stmt {xs = xs} {ts = ts} at p q r path args a b e st) v =
      let w = subst AllValid e v in
      record {
        own = _;
        text = refl;
        piece = as_rule
            (lined k (both (path_piece a (valid_left path _ w)) (both (sign_open p)
            (both (args_piece b (valid_left args _ (valid_tail (valid_right path _ w)))) (both (sign_shut q) (sign_end r) (λ rest g. tt)) (λ rest g. closing _)) (λ rest g. tt)) (λ rest g. refl))
            (λ rest. tt))
            (λ y. record {
              marked = _;
              at = first_at y.0.marked;
              make = λ r. CallStmt (first_at y.0.marked) y.0.tree y.1.1.0.trees r;
              ends = false;
              rule = λ r. call_stmt (first_at y.0.marked) y.1.0 y.1.1.1.0 y.1.1.1.1 y.0.marked y.1.1.0.marked y.0.rule y.1.1.0.rule refl (starts y.0.marked _ y.0.some);
              like = λ r h. λ i. CallStmt first_place (y.0.like i) (y.1.1.0.like i) (h i);
              some = some_in y.0.marked _ _ refl;
            })
            (λ y. refl) e (ap (line k) (ended (path_text xs) (args_text ts)));
      }

  pub stmt_piece : {home : RoutineKind} {d : ℕ} {c c' : Counts} {m : List Marked} {rest body : Body} {ends : Bool} (k : ℕ) → StmtRule home d c c' m rest body ends → AllValid m
      → Own {X = StmtKept home d c c' rest body} (λ y. y.marked) m k rest body
  stmt_piece {d = d} {c = c} k (block_stmt {inner = b1} at xs b st e) v =
      record {
        own = _;
        text = refl;
        piece = as_rule (lined k (stated c d (λ y. block_some y.rule) (block_some b) (block_piece k b (valid_stated c d xs (subst AllValid e v)))) (λ rest. tt))
            (λ y. record {
              marked = _;
              make = λ r. BlockStmt (first_at y.marked) y.tree r;
              ends = false;
              rule = λ r. block_stmt (first_at y.marked) y.marked y.rule (subst (λ l. StartsAt l (first_at y.marked)) (append-nil y.marked) (starts y.marked [] (block_some y.rule))) refl;
              like = λ r h. ap₂ (BlockStmt first_place) y.like h;
            })
            (λ y. refl) e (with_block k (body_text (suc k) b1));
      }
  stmt_piece {d = d} {c = c} k (plain_stmt at xs r e) v =
      let a = plain_piece k r (valid_stated c d xs (subst AllValid e v)) in
      record {
        own = a.own;
        text = a.text;
        piece = as_rule (stated c d (λ y. y.some) (plain_some r) a.piece)
            (λ y. record { marked = _; make = y.make; ends = y.ends; rule = λ r. plain_stmt y.at y.marked (y.rule r) refl; like = y.like }) (λ y. refl) e refl;
      }

  pub block_piece : {home : RoutineKind} {d : ℕ} {c c' : Counts} {m : List Marked} {body : Body} (k : ℕ) → BlockRule home d c c' m body → AllValid m
      → Piece {X = BlockKept home d c c' body} (λ y. y.marked) m (braced k (body_text (suc k) body)) Any
  block_piece k (braces p q xs r e) v =
      as_rule (in_braces k p q (stmts_piece (suc k) r (valid_left xs _ (valid_tail (subst AllValid e v)))))
      (λ y. record { marked = _; tree = y.1.0.tree; rule = braces y.0 y.1.1 y.1.0.marked y.1.0.rule refl; like = y.1.0.like }) (λ y. refl) e refl

  pub body_piece : {home : RoutineKind} {d : ℕ} {c c' : Counts} {m : List Marked} {body : Body} {ends : Bool} (k : ℕ) → BodyRule home d c c' m body ends → AllValid m
      → Piece {X = BlockKept home d c c' body} (λ y. y.marked) m (braced k (body_text (suc k) body)) Any
  body_piece k (block_body b) v = block_piece k b v
  body_piece {home} {d} {c} {c'} k (one_body at xs r e) v =
      let a = plain_piece (suc k) r (valid_stated c d xs (subst AllValid e v)) in
      as_rule (reparted (begin_statement c d xs) (one_body_parts (begin_statement c d xs) first_place first_place)
      (in_braces k first_place first_place (stated c d (λ y. y.some) (plain_some r) a.piece)))
      (λ y. record {
        marked = _;
        tree = y.1.0.make End;
        rule = braces y.0 y.1.1 _ (more_stmts _ [] (plain_stmt y.1.0.at y.1.0.marked (y.1.0.rule End) refl) no_stmts (sym (append-nil (begin_statement c d y.1.0.marked)))) refl;
        like = y.1.0.like End refl;
      })
      (λ y. refl) e (ap (braced k) (a.text ∙ append-nil a.own))

  pub stmts_piece : {home : RoutineKind} {d : ℕ} {c c' : Counts} {m : List Marked} {body : Body} (k : ℕ) → StmtsRule home d c c' m body → AllValid m
      → Piece {X = StmtsKept home d c c' body} (λ y. y.marked) m (body_text k body) Any
  stmts_piece k no_stmts v = as_rule nothing (λ y. record { marked = _; tree = _; rule = no_stmts; like = refl }) (λ y. refl) refl refl
  stmts_piece k (more_stmts first more s r e) v =
      let w = subst AllValid e v in
      let a = stmt_piece k s (valid_left first more w) in
      as_rule (both a.piece (stmts_piece k r (valid_right first more w)) (λ rest g. tt))
      (λ y. record { marked = _; tree = y.0.make y.1.tree; rule = more_stmts y.0.marked y.1.marked (y.0.rule y.1.tree) y.1.rule refl; like = y.0.like y.1.tree y.1.like }) (λ y. refl) e a.text

  pub whens_piece : {home : RoutineKind} {d n : ℕ} {c c' : Counts} {m : List Marked} {bs : Branches} (k : ℕ) → WhensRule home d n c c' m bs → AllValid m
      → Piece {X = WhensKept home d n c c' bs} (λ y. y.marked) m (branches_text k bs) Any
  whens_piece k no_whens v = as_rule nothing (λ y. record { marked = _; tree = _; rule = no_whens; like = refl }) (λ y. refl) refl refl
  whens_piece k (more_whens first more s r e) v =
      let w = subst AllValid e v in
      let a = when_piece k s (valid_left first more w) in
      as_rule (both a.piece (whens_piece k r (valid_right first more w)) (λ rest g. tt))
      (λ y. record { marked = _; tree = y.0.make y.1.tree; rule = more_whens y.0.marked y.1.marked (y.0.rule y.1.tree) y.1.rule refl; like = y.0.like y.1.tree y.1.like }) (λ y. refl) e a.text

  pub when_piece : {home : RoutineKind} {d n : ℕ} {c c' : Counts} {m : List Marked} {rest bs : Branches} (k : ℕ) → WhenRule home d n c c' m rest bs → AllValid m
      → OwnBranch {X = WhenKept home d n c c' rest bs} (λ y. y.marked) m k rest bs
  when_piece {d = d} {n = n} k (branch {w = w} {inner = b1} at p q xs body r b e) v =
      let a = valid_tail (valid_tail (subst AllValid e v)) in
      record {
        own = _;
        text = refl;
        piece = as_rule
            (lined k (both (word_piece (Branch n ∷ Node d ∷ []) word.When at)
            (spaced (both (sign_open p) (both (waiting_piece r (valid_left xs _ a)) (both (sign_shut q) (spaced (body_piece k b (valid_tail (valid_right xs _ a)))) (λ rest g. tt))
            (λ rest g. refl)) (λ rest g. tt))) (λ rest g. refl)) (λ rest. tt))
            (λ y. record {
              marked = _;
              make = λ r. MoreBranches y.0 y.1.1.0.tree y.1.1.1.1.tree r;
              rule = λ r. branch y.0 y.1.0 y.1.1.1.0 y.1.1.0.marked y.1.1.1.1.marked y.1.1.0.rule (block_body y.1.1.1.1.rule) refl;
              like = λ r h. λ i. MoreBranches first_place (y.1.1.0.like i) (y.1.1.1.1.like i) (h i);
            })
            (λ y. refl) e (with_test k (codes "when (" ++ waiting_text w) (body_text (suc k) b1));
      }
