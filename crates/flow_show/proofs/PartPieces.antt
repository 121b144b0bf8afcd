-- Declared variables, waits, paths and changes are read back from their texts.
use Rattle.std.proofs.Common.{◌≡◌, ℕ, suc, ◌<◌, List, [], ◌∷◌, ◌++◌, map, length, refl, ap, subst, arith, append_assoc, append-nil, Bool}
use Rattle.std.specs.Prelude.{codes, if◌then◌else◌}
use Rattle.std.specs.Option.{option_map}
use Rattle.std.specs.declared.option.Option.{Option}
use Rattle.std.specs.declared.option.Option.TheVariants.{None, Some}
use Rattle.flow_base.specs.declared.place.Place.{Place}
use Rattle.flow_tree.specs.declared.token.Word.TheVariants as word
use Rattle.flow_tree.specs.declared.token.Sign.TheVariants as sign
use Rattle.flow_tree.specs.declared.ty.Ident.{Ident}
use Rattle.flow_tree.specs.declared.decl.RoutineKind.{RoutineKind}
use Rattle.flow_tree.specs.Tree.{TypeTree, ExprTree}
use Rattle.flow_tree.specs.Body.{IntoTree, WaitTree, PlusChange, MinusChange, UpChange, DownChange, Body, End, DeclareStmt, AssignStmt, ModifyStmt}
use Rattle.flow_tree.specs.GrammarToken.{Statement, Node, Marked, begin}
use Rattle.flow_tree.specs.Grammar.{name_at, TypeRule}
use Rattle.flow_tree.specs.GrammarStmt.{Counts, state_parts, begin_statement, StartsAt, StateRule, no_state, some_state, IntoRule, declared, OperandRule, wait, wait_next, WaitingRule, plain_wait, into_wait, PathRule, last_name, more_names, AssignRule, assign, plus, minus, up, down, InitRule, declare, declare_value, change, InitPart, no_init, some_init, StepPart, no_step, some_step, MaybeExprRule, no_expr, some_expr, ReturnedRule, nothing as no_value, something}
use Rattle.flow_tree.specs.Canon.{type_text, expr_text, path_text, into_text, waiting_text, maybe_text, part_text, first_place, placeless_ident, placeless_expr, placeless_into, placeless_wait, placeless_body}
use Rattle.flow_show.proofs.Going.{Piece, Gap, nothing, both, as_rule, begun, begin_some, behind, spaced, under}
use Rattle.flow_show.proofs.TokenPieces.{Apart, name_piece, word_piece, sign_piece, open_round_ends, dot_ends, plus_plus_ends, minus_minus_ends, space_ends}
use Rattle.flow_show.proofs.Valid.{AllValid, valid_head, valid_tail, valid_left, valid_right, valid_begun}
use Rattle.flow_show.proofs.ExprPieces.{some_in, space, type_piece, expr_piece, shut}

-- where the first of some tokens stands
abbrev pub first_at : List Marked → Place
first_at [] = first_place
first_at (x ∷ xs) = x.spot.at

pub starts : (a b : List Marked) → 0 < length a → StartsAt (a ++ b) (first_at a)
starts [] b some = absurd (omega arith)
starts (x ∷ a) b some = refl

pub starts_some : (xs : List Marked) (p : Place) → StartsAt xs p → 0 < length xs
starts_some [] p s = absurd s
starts_some (x ∷ xs) p s = omega arith

-- declared variables

pub record IntoKept (home : RoutineKind) (d : ℕ) (c c' : Counts) (i : IntoTree) : Type 0 where
  pub marked : List Marked
  pub tree : IntoTree
  pub rule : IntoRule home d c c' marked tree
  pub like : placeless_into tree ≡ placeless_into i
  pub some : 0 < length marked

named_is : (t n : List ℕ) → t ++ codes " " ++ n ≡ t ++ (32 ∷ n)
named_is t n = append_assoc t (codes " ") n

pub into_by : {home : RoutineKind} {d : ℕ} {c c' : Counts} {s : Bool} {t : TypeTree} {m : List Marked} (x : Ident) (kept of : List Marked) → StateRule home c c' kept s → TypeRule d of t
    → m ≡ kept ++ (of ++ name_at x ∷ []) → AllValid (kept ++ (of ++ name_at x ∷ []))
    → Piece {X = IntoKept home d c c' (record { state = s; ty = t; name = x })} (λ y. y.marked) m (into_text (record { state = s; ty = t; name = x })) Apart
into_by {t = t} x kept of no_state r e v =
    as_rule (both (type_piece r (valid_left of _ v)) (spaced (name_piece [] x.name x.at (valid_head (valid_right of _ v)))) (λ rest g. space _))
    (λ y. record {
      marked = _;
      tree = _;
      rule = declared (record { name = x.name; at = y.1 }) [] y.0.marked no_state y.0.rule refl;
      like = refl;
      some = some_in y.0.marked _ [] refl;
    })
    (λ y. refl) e (named_is (type_text t) x.name)
into_by {home} {d} {c} {t = t} x kept of (some_state p) r e v =
    let w = valid_tail v in
    as_rule
    (both (word_piece (state_parts home c) word.State p)
    (spaced (both (type_piece r (valid_left of _ w)) (spaced (name_piece [] x.name x.at (valid_head (valid_right of _ w)))) (λ rest g. space _))) (λ rest g. refl))
    (λ y. record {
      marked = _;
      tree = _;
      rule = declared (record { name = x.name; at = y.1.1 }) _ y.1.0.marked (some_state y.0) y.1.0.rule refl;
      like = refl;
      some = omega arith;
    })
    (λ y. refl) e (ap (λ l. codes "state " ++ l) (named_is (type_text t) x.name))

pub into_piece : {home : RoutineKind} {d : ℕ} {c c' : Counts} {m : List Marked} {i : IntoTree} → IntoRule home d c c' m i → AllValid m
    → Piece {X = IntoKept home d c c' i} (λ y. y.marked) m (into_text i) Apart
into_piece (declared x kept of s r e) v = into_by x kept of s r e (subst AllValid e v)

-- waits

abbrev pub wait_word : Bool → List ℕ
wait_word next = if next then codes "waitNext(" else codes "wait("

pub record OperandKept (d : ℕ) (next : Bool) (t : ExprTree) : Type 0 where
  pub marked : List Marked
  pub tree : ExprTree
  pub rule : OperandRule d marked next tree
  pub like : placeless_expr tree ≡ placeless_expr t
  pub some : 0 < length marked

pub operand_piece : {d : ℕ} {m : List Marked} {next : Bool} {t : ExprTree} → OperandRule d m next t → AllValid m
    → Piece {X = OperandKept d next t} (λ y. y.marked) m (wait_word next ++ (expr_text t ++ codes ")")) Apart
operand_piece (wait p q r of rule e) v =
    as_rule
    (both (word_piece [] word.Wait p) (both (sign_piece [] sign.OpenRound q) (both (expr_piece rule (valid_left of _ (valid_tail (valid_tail (subst AllValid e v))))) (shut r) (λ rest g. refl))
    (λ rest g. open_round_ends _)) (λ rest g. refl))
    (λ y. record { marked = _; tree = _; rule = wait y.0 y.1.0 y.1.1.1 y.1.1.0.marked y.1.1.0.rule refl; like = y.1.1.0.like; some = omega arith })
    (λ y. refl) e refl
operand_piece (wait_next p q r of rule e) v =
    as_rule
    (both (word_piece [] word.WaitNext p) (both (sign_piece [] sign.OpenRound q) (both (expr_piece rule (valid_left of _ (valid_tail (valid_tail (subst AllValid e v))))) (shut r) (λ rest g. refl))
    (λ rest g. open_round_ends _)) (λ rest g. refl))
    (λ y. record { marked = _; tree = _; rule = wait_next y.0 y.1.0 y.1.1.1 y.1.1.0.marked y.1.1.0.rule refl; like = y.1.1.0.like; some = omega arith })
    (λ y. refl) e refl

pub record WaitKept (home : RoutineKind) (d : ℕ) (c c' : Counts) (w : WaitTree) : Type 0 where
  pub marked : List Marked
  pub tree : WaitTree
  pub rule : WaitingRule home d c c' marked tree
  pub like : placeless_wait tree ≡ placeless_wait w
  pub some : 0 < length marked

wait_text : (i w e : List ℕ) → i ++ codes " = " ++ w ++ e ++ codes ")" ≡ i ++ (32 ∷ (61 ∷ (32 ∷ (w ++ (e ++ codes ")")))))
wait_text i w e = simp append_assoc refl

pub waiting_piece : {home : RoutineKind} {d : ℕ} {c c' : Counts} {m : List Marked} {w : WaitTree} → WaitingRule home d c c' m w → AllValid m
    → Piece {X = WaitKept home d c c' w} (λ y. y.marked) m (waiting_text w) Apart
waiting_piece {home} {d} {c} (plain_wait {next = next} {e = t} r) v =
    as_rule (operand_piece r v)
    (λ y. record { marked = y.marked; tree = _; rule = plain_wait y.rule; like = λ i. record { into = None; next = next; operand = y.like i }; some = y.some })
    (λ y. refl) refl (append_assoc (wait_word next) (expr_text t) (codes ")"))
waiting_piece (into_wait {i = i} {next = next} {e = t} p left right r s e) v =
    let a = subst AllValid e v in
    as_rule
    (both (into_piece r (valid_left left _ a)) (spaced (both (sign_piece [] sign.Assign p) (spaced (operand_piece s (valid_tail (valid_right left _ a)))) (λ rest g. space_ends sign.Assign _)))
    (λ rest g. refl))
    (λ y. record {
      marked = _;
      tree = _;
      rule = into_wait y.1.0 y.0.marked y.1.1.marked y.0.rule y.1.1.rule refl;
      like = λ j. record { into = Some (y.0.like j); next = next; operand = y.1.1.like j };
      some = some_in y.0.marked _ _ refl;
    })
    (λ y. refl) e (wait_text (into_text i) (wait_word next) (expr_text t))

-- paths

pub record PathKept (xs : List Ident) : Type 0 where
  pub marked : List Marked
  pub tree : List Ident
  pub rule : PathRule marked tree
  pub like : map placeless_ident tree ≡ map placeless_ident xs
  pub some : 0 < length marked

path_more : {m : List Marked} {xs : List Ident} (x : Ident) → PathRule m xs → path_text (x ∷ xs) ≡ x.name ++ (46 ∷ path_text xs)
path_more x (last_name y) = append_assoc x.name (codes ".") y.name
path_more x (more_names {xs = ys} y p more r e) = append_assoc x.name (codes ".") (path_text (y ∷ ys))

pub path_piece : {m : List Marked} {xs : List Ident} → PathRule m xs → AllValid m → Piece {X = PathKept xs} (λ y. y.marked) m (path_text xs) Apart
path_piece (last_name x) v =
    as_rule (name_piece [] x.name x.at (valid_head v)) (λ p. record { marked = _; tree = _; rule = last_name (record { name = x.name; at = p }); like = refl; some = omega arith })
    (λ y. refl) refl refl
path_piece (more_names x p more r e) v =
    let a = subst AllValid e v in
    as_rule (both (name_piece [] x.name x.at (valid_head a)) (both (sign_piece [] sign.Dot p) (path_piece r (valid_tail (valid_tail a))) (λ rest g. dot_ends _)) (λ rest g. refl))
    (λ y. record {
      marked = _;
      tree = _;
      rule = more_names (record { name = x.name; at = y.0 }) y.1.0 y.1.1.marked y.1.1.rule refl;
      like = ap (λ l. placeless_ident x ∷ l) y.1.1.like;
      some = omega arith;
    })
    (λ y. refl) e (path_more x r)

-- what is put before a body: the new tokens put something equal, places aside, before any body

pub record PutKept (R : List Marked → Place → Body → Body → Type 0) (rest body : Body) : Type 0 where
  pub marked : List Marked
  pub at : Place
  pub make : Body → Body
  pub rule : (r : Body) → R marked at r (make r)
  pub like : (r : Body) → placeless_body r ≡ placeless_body rest → placeless_body (make r) ≡ placeless_body body
  pub some : 0 < length marked

assign_is : (p e : List ℕ) → p ++ codes " = " ++ e ≡ p ++ (32 ∷ (61 ∷ (32 ∷ e)))
assign_is p e = append_assoc p (codes " = ") e

pub assign_piece : {d : ℕ} {m : List Marked} {at : Place} {rest body : Body} → AssignRule d m at rest body → AllValid m
    → Piece {X = PutKept (AssignRule d) rest body} (λ y. y.marked) m (part_text body) Apart
assign_piece (assign {xs = xs} {e = t} at p path value r s e st) v =
    let a = subst AllValid e v in
    as_rule
    (both (path_piece r (valid_left path _ a)) (spaced (both (sign_piece [] sign.Assign p) (spaced (expr_piece s (valid_tail (valid_right path _ a)))) (λ rest g. space_ends sign.Assign _)))
    (λ rest g. refl))
    (λ y. record {
      marked = _;
      at = first_at y.0.marked;
      make = λ r. AssignStmt (first_at y.0.marked) y.0.tree y.1.1.tree r;
      rule = λ r. assign (first_at y.0.marked) y.1.0 y.0.marked y.1.1.marked y.0.rule y.1.1.rule refl (starts y.0.marked _ y.0.some);
      like = λ r h. λ i. AssignStmt first_place (y.0.like i) (y.1.1.like i) (h i);
      some = some_in y.0.marked _ _ refl;
    })
    (λ y. refl) e (assign_is (path_text xs) (expr_text t))
assign_piece (plus {xs = xs} {e = t} at p path value r s e st) v =
    let a = subst AllValid e v in
    as_rule
    (both (path_piece r (valid_left path _ a)) (spaced (both (sign_piece [] sign.PlusAssign p) (spaced (expr_piece s (valid_tail (valid_right path _ a)))) (λ rest g. space_ends sign.PlusAssign _)))
    (λ rest g. refl))
    (λ y. record {
      marked = _;
      at = first_at y.0.marked;
      make = λ r. ModifyStmt (first_at y.0.marked) y.0.tree (PlusChange y.1.1.tree) r;
      rule = λ r. plus (first_at y.0.marked) y.1.0 y.0.marked y.1.1.marked y.0.rule y.1.1.rule refl (starts y.0.marked _ y.0.some);
      like = λ r h. λ i. ModifyStmt first_place (y.0.like i) (PlusChange (y.1.1.like i)) (h i);
      some = some_in y.0.marked _ _ refl;
    })
    (λ y. refl) e refl
assign_piece (minus {xs = xs} {e = t} at p path value r s e st) v =
    let a = subst AllValid e v in
    as_rule
    (both (path_piece r (valid_left path _ a)) (spaced (both (sign_piece [] sign.MinusAssign p) (spaced (expr_piece s (valid_tail (valid_right path _ a)))) (λ rest g. space_ends sign.MinusAssign _)))
    (λ rest g. refl))
    (λ y. record {
      marked = _;
      at = first_at y.0.marked;
      make = λ r. ModifyStmt (first_at y.0.marked) y.0.tree (MinusChange y.1.1.tree) r;
      rule = λ r. minus (first_at y.0.marked) y.1.0 y.0.marked y.1.1.marked y.0.rule y.1.1.rule refl (starts y.0.marked _ y.0.some);
      like = λ r h. λ i. ModifyStmt first_place (y.0.like i) (MinusChange (y.1.1.like i)) (h i);
      some = some_in y.0.marked _ _ refl;
    })
    (λ y. refl) e refl
assign_piece (up {xs = xs} at p path r e st) v =
    let a = subst AllValid e v in
    as_rule
    (both (path_piece r (valid_left path _ a)) (under (sign_piece [] sign.PlusPlus p) (λ rest g. plus_plus_ends rest)) (λ rest g. refl))
    (λ y. record {
      marked = _;
      at = first_at y.0.marked;
      make = λ r. ModifyStmt (first_at y.0.marked) y.0.tree UpChange r;
      rule = λ r. up (first_at y.0.marked) y.1 y.0.marked y.0.rule refl (starts y.0.marked _ y.0.some);
      like = λ r h. λ i. ModifyStmt first_place (y.0.like i) UpChange (h i);
      some = some_in y.0.marked _ _ refl;
    })
    (λ y. refl) e refl
assign_piece (down {xs = xs} at p path r e st) v =
    let a = subst AllValid e v in
    as_rule
    (both (path_piece r (valid_left path _ a)) (under (sign_piece [] sign.MinusMinus p) (λ rest g. minus_minus_ends rest)) (λ rest g. refl))
    (λ y. record {
      marked = _;
      at = first_at y.0.marked;
      make = λ r. ModifyStmt (first_at y.0.marked) y.0.tree DownChange r;
      rule = λ r. down (first_at y.0.marked) y.1 y.0.marked y.0.rule refl (starts y.0.marked _ y.0.some);
      like = λ r h. λ i. ModifyStmt first_place (y.0.like i) DownChange (h i);
      some = some_in y.0.marked _ _ refl;
    })
    (λ y. refl) e refl

pub init_piece : {home : RoutineKind} {d : ℕ} {c c' : Counts} {m : List Marked} {at : Place} {rest body : Body} → InitRule home d c c' m at rest body → AllValid m
    → Piece {X = PutKept (InitRule home d c c') rest body} (λ y. y.marked) m (part_text body) Apart
init_piece (declare {i = i} at r st) v =
    as_rule (into_piece r v)
    (λ y. record {
      marked = y.marked;
      at = first_at y.marked;
      make = λ r. DeclareStmt (first_at y.marked) y.tree None r;
      rule = λ r. declare (first_at y.marked) y.rule (subst (λ l. StartsAt l (first_at y.marked)) (append-nil y.marked) (starts y.marked [] y.some));
      like = λ r h. λ j. DeclareStmt first_place (y.like j) None (h j);
      some = y.some;
    })
    (λ y. refl) refl (append-nil (into_text i))
init_piece (declare_value {i = i} {e = t} at p left value r s e st) v =
    let a = subst AllValid e v in
    as_rule
    (both (into_piece r (valid_left left _ a)) (spaced (both (sign_piece [] sign.Assign p) (spaced (expr_piece s (valid_tail (valid_right left _ a)))) (λ rest g. space_ends sign.Assign _)))
    (λ rest g. refl))
    (λ y. record {
      marked = _;
      at = first_at y.0.marked;
      make = λ r. DeclareStmt (first_at y.0.marked) y.0.tree (Some y.1.1.tree) r;
      rule = λ r. declare_value (first_at y.0.marked) y.1.0 y.0.marked y.1.1.marked y.0.rule y.1.1.rule refl (starts y.0.marked _ y.0.some);
      like = λ r h. λ j. DeclareStmt first_place (y.0.like j) (Some (y.1.1.like j)) (h j);
      some = some_in y.0.marked _ _ refl;
    })
    (λ y. refl) e refl
init_piece (change at r) v =
    as_rule (assign_piece r v)
    (λ y. record { marked = y.marked; at = y.at; make = y.make; rule = λ r. change y.at (y.rule r); like = y.like; some = y.some })
    (λ y. refl) refl refl

assign_some : {d : ℕ} {m : List Marked} {at : Place} {rest body : Body} → AssignRule d m at rest body → 0 < length m
assign_some (assign at p path value r s e st) = starts_some _ at st
assign_some (plus at p path value r s e st) = starts_some _ at st
assign_some (minus at p path value r s e st) = starts_some _ at st
assign_some (up at p path r e st) = starts_some _ at st
assign_some (down at p path r e st) = starts_some _ at st

pub init_some_in : {home : RoutineKind} {d : ℕ} {c c' : Counts} {m : List Marked} {at : Place} {rest body : Body} → InitRule home d c c' m at rest body → 0 < length m
init_some_in (declare at r st) = starts_some _ at st
init_some_in (declare_value at p left value r s e st) = starts_some _ at st
init_some_in (change at r) = assign_some r

-- a part of a `for`
pub record PartKept (R : List Marked → Body → Type 0) (body : Body) : Type 0 where
  pub marked : List Marked
  pub tree : Body
  pub rule : R marked tree
  pub like : placeless_body tree ≡ placeless_body body

-- a statement's first token begins it
pub stated : {X : Type 0} {mx : X → List Marked} {o : List Marked} {w : List ℕ} {F : List ℕ → Type 0} (c : Counts) (d : ℕ) → ((x : X) → 0 < length (mx x)) → 0 < length o
    → Piece mx o w F → Piece (λ x. begin_statement c d (mx x)) (begin_statement c d o) w F
stated c d some has p = begun (Statement (suc c.statements)) (λ x. begin_some (Node d) _ (some x)) (begin_some (Node d) _ has) (begun (Node d) some has p)

pub valid_stated : (c : Counts) (d : ℕ) (xs : List Marked) → AllValid (begin_statement c d xs) → AllValid xs
valid_stated c d xs v = valid_begun (Node d) xs (valid_begun (Statement (suc c.statements)) (begin (Node d) xs) v)

pub init_part_piece : {home : RoutineKind} {d : ℕ} {c c' : Counts} {m : List Marked} {body : Body} → InitPart home d c c' m body → AllValid m
    → Piece {X = PartKept (InitPart home d c c') body} (λ y. y.marked) m (part_text body) Apart
init_part_piece no_init v = as_rule nothing (λ y. record { marked = _; tree = _; rule = no_init; like = refl }) (λ y. refl) refl refl
init_part_piece {home} {d} {c} (some_init at xs r e) v =
    as_rule (stated c d (λ y. y.some) (init_some_in r) (init_piece r (valid_stated c d xs (subst AllValid e v))))
    (λ y. record { marked = _; tree = _; rule = some_init y.at y.marked (y.rule End) refl; like = y.like End refl }) (λ y. refl) e refl

pub step_part_piece : {d : ℕ} {c c' : Counts} {m : List Marked} {body : Body} → StepPart d c c' m body → AllValid m
    → Piece {X = PartKept (StepPart d c c') body} (λ y. y.marked) m (part_text body) Apart
step_part_piece no_step v = as_rule nothing (λ y. record { marked = _; tree = _; rule = no_step; like = refl }) (λ y. refl) refl refl
step_part_piece {d} {c} (some_step at xs r e) v =
    as_rule (stated c d (λ y. y.some) (assign_some r) (assign_piece r (valid_stated c d xs (subst AllValid e v))))
    (λ y. record { marked = _; tree = _; rule = some_step y.at y.marked (y.rule End) refl; like = y.like End refl }) (λ y. refl) e refl

-- an expression, or nothing
pub record MaybeKept (d : ℕ) (t : Option ExprTree) : Type 0 where
  pub marked : List Marked
  pub tree : Option ExprTree
  pub rule : MaybeExprRule d marked tree
  pub like : option_map placeless_expr tree ≡ option_map placeless_expr t

pub maybe_piece : {d : ℕ} {m : List Marked} {t : Option ExprTree} {w : List ℕ} → Gap w → MaybeExprRule d m t → AllValid m
    → Piece {X = MaybeKept d t} (λ y. y.marked) m (maybe_text w t) Apart
maybe_piece g no_expr v = as_rule nothing (λ y. record { marked = _; tree = _; rule = no_expr; like = refl }) (λ y. refl) refl refl
maybe_piece g (some_expr r) v = as_rule (behind g (expr_piece r v)) (λ y. record { marked = y.marked; tree = _; rule = some_expr y.rule; like = ap Some y.like }) (λ y. refl) refl refl

-- what a `return` gives
pub record ReturnedKept (home : RoutineKind) (d : ℕ) (t : Option ExprTree) : Type 0 where
  pub marked : List Marked
  pub tree : Option ExprTree
  pub rule : ReturnedRule home d marked tree
  pub like : option_map placeless_expr tree ≡ option_map placeless_expr t

pub returned_piece : {home : RoutineKind} {d : ℕ} {m : List Marked} {t : Option ExprTree} {w : List ℕ} → Gap w → ReturnedRule home d m t → AllValid m
    → Piece {X = ReturnedKept home d t} (λ y. y.marked) m (maybe_text w t) Apart
returned_piece g (no_value may) v = as_rule nothing (λ y. record { marked = _; tree = _; rule = no_value may; like = refl }) (λ y. refl) refl refl
returned_piece g (something r) v = as_rule (behind g (expr_piece r v)) (λ y. record { marked = y.marked; tree = _; rule = something y.rule; like = ap Some y.like }) (λ y. refl) refl refl
