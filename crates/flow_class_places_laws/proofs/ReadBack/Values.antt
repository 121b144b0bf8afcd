-- Expressions, paths and instructions of class text are read back from their texts.
use Rattle.std.proofs.Common.{◌≡◌, ℕ, List, [], ◌∷◌, ◌++◌, map, refl, sym, ap, ap₂, ◌∙◌, subst, append_assoc, decimal}
use Rattle.std.specs.Prelude.{codes}
use Rattle.std.specs.declared.option.Option.TheVariants.{None, Some}
use Rattle.flow_tree.specs.declared.token.Word.TheVariants as word
use Rattle.flow_tree.specs.declared.token.Sign.TheVariants as sign
use Rattle.flow_tree.specs.declared.ty.Ident.{Ident}
use Rattle.flow_tree.specs.Tree.{ExprTree, ExprTrees, VarExpr, CallExpr, FieldExpr, MethodExpr, NotExpr, NegExpr, BinaryExpr, ParenExpr, NoExprs, MoreExprs}
use Rattle.flow_tree.specs.GrammarToken.{Marked}
use Rattle.flow_tree.specs.GrammarStmt.{PathRule}
use Rattle.flow_tree.specs.Canon.{expr_text, args_text, path_text, placeless_ident, placeless_expr, placeless_exprs}
use Rattle.flow_class.specs.Places.{place_named}
use Rattle.flow_class.specs.Classes.{InstrTree, SetInstr, EffectInstr, NewInstr, ActInstr, DropInstr, LastTree, GotoLast, PassLast, TestLast, ChooseLast, ReturnLast, ThrowLast}
use Rattle.flow_meaning.specs.Placeless.{placeless_instr, placeless_last}
use Rattle.flow_classprint.specs.declared.version.Version.TheVariants.{Two}
use Rattle.flow_classprint.specs.ClassGrammar.{AreFree, AllAreFree, WholeRule, VarPathRule, var_path, CalleeRule, callee, method, AssignRule, assign, InstrRule, set, effect, new, act, drop, InstrsRule, no_instrs, more_instrs, nothing as no_value, something, LastRule, goto, pass, test, choose, return, throw}
use Rattle.flow_classprint.specs.ClassText.{all_text, instr_text, instr_line, last_text}
use Rattle.flow_show.proofs.Going.{Piece, Any, nothing, both, as_rule, spaced, lined}
use Rattle.flow_show.proofs.TokenPieces.{Apart, name_piece, word_piece, sign_piece, space_ends}
use Rattle.flow_show.proofs.Valid.{AllValid, valid_head, valid_tail, valid_left, valid_right}
use Rattle.flow_show.proofs.ExprPieces.{expr_piece, args_piece, closing}
use Rattle.flow_show.proofs.PartPieces.{path_piece}
use Rattle.flow_show.proofs.StmtPieces.{sign_open, sign_shut, sign_end}
use Rattle.flow_class_places_laws.proofs.ReadBack.Pieces.{Kept, number_here, place_here, locals_piece}

-- the names of an expression are those of an equal one
mutual
  free_bare : (e : ExprTree) → AreFree e → AreFree (placeless_expr e)
  free_bare (VarExpr x) h = h
  free_bare (CallExpr f es) h = all_free_bare es h
  free_bare (FieldExpr e x) h = free_bare e h
  free_bare (MethodExpr e f es) h = (free_bare e h.0, all_free_bare es h.1)
  free_bare (NotExpr e) h = free_bare e h
  free_bare (NegExpr e) h = free_bare e h
  free_bare (BinaryExpr op a b) h = (free_bare a h.0, free_bare b h.1)
  free_bare (ParenExpr e) h = free_bare e h
  free_bare _ h = tt

  all_free_bare : (es : ExprTrees) → AllAreFree es → AllAreFree (placeless_exprs es)
  all_free_bare NoExprs h = tt
  all_free_bare (MoreExprs e es) h = (free_bare e h.0, all_free_bare es h.1)

mutual
  bare_free : (e : ExprTree) → AreFree (placeless_expr e) → AreFree e
  bare_free (VarExpr x) h = h
  bare_free (CallExpr f es) h = all_bare_free es h
  bare_free (FieldExpr e x) h = bare_free e h
  bare_free (MethodExpr e f es) h = (bare_free e h.0, all_bare_free es h.1)
  bare_free (NotExpr e) h = bare_free e h
  bare_free (NegExpr e) h = bare_free e h
  bare_free (BinaryExpr op a b) h = (bare_free a h.0, bare_free b h.1)
  bare_free (ParenExpr e) h = bare_free e h
  bare_free _ h = tt

  all_bare_free : (es : ExprTrees) → AllAreFree (placeless_exprs es) → AllAreFree es
  all_bare_free NoExprs h = tt
  all_bare_free (MoreExprs e es) h = (bare_free e h.0, all_bare_free es h.1)

pub free_like : (a b : ExprTree) → placeless_expr a ≡ placeless_expr b → AreFree b → AreFree a
free_like a b e h = bare_free a (subst AreFree (sym e) (free_bare b h))

pub all_free_like : (a b : ExprTrees) → placeless_exprs a ≡ placeless_exprs b → AllAreFree b → AllAreFree a
all_free_like a b e h = all_bare_free a (subst AllAreFree (sym e) (all_free_bare b h))

pub whole_piece : {m : List Marked} {t : ExprTree} → WholeRule m t → AllValid m → Piece {X = Kept placeless_expr WholeRule t} (λ y. y.marked) m (expr_text t) Apart
whole_piece {t = t} r v =
    as_rule (expr_piece r.rule v)
    (λ y. record { marked = y.marked; tree = y.tree; rule = record { rule = y.rule; free = free_like y.tree t y.like r.free }; like = y.like }) (λ y. refl) refl refl

-- paths that begin with a place
abbrev bare_path : List Ident → List Ident
bare_path xs = map placeless_ident xs

abbrev first_name : List Ident → List ℕ
first_name [] = []
first_name (x ∷ xs) = x.name

pub var_path_piece : {m : List Marked} {xs : List Ident} → VarPathRule m xs → AllValid m → Piece {X = Kept bare_path VarPathRule xs} (λ y. y.marked) m (path_text xs) Apart
var_path_piece (var_path {x = x} {xs = xs} q is small r) v =
    as_rule (path_piece r v) (λ y. record { marked = y.marked; tree = y.tree; rule = begins y.tree y.like y.rule; like = y.like }) (λ y. refl) refl refl
  where
    begins : {m : List Marked} (ys : List Ident) → map placeless_ident ys ≡ map placeless_ident (x ∷ xs) → PathRule m ys → VarPathRule m ys
    begins [] h r = absurd cc
    begins (y ∷ ys) h r = var_path q (ap (λ n. place_named n) (ap first_name h) ∙ is) small r

pub callee_piece : {m : List Marked} {xs : List Ident} → CalleeRule m xs → AllValid m → Piece {X = Kept bare_path CalleeRule xs} (λ y. y.marked) m (path_text xs) Apart
callee_piece (callee x) v =
    as_rule (name_piece [] x.name x.at (valid_head v))
    (λ p. record { marked = _; tree = _; rule = callee (record { name = x.name; at = p }); like = refl }) (λ p. refl) refl refl
callee_piece (method {x = x} {y = y} {ys = ys} r) v =
    as_rule (var_path_piece r v) (λ k. record { marked = k.marked; tree = k.tree; rule = called k.tree k.like k.rule; like = k.like }) (λ k. refl) refl refl
  where
    called : {m : List Marked} (zs : List Ident) → map placeless_ident zs ≡ map placeless_ident (x ∷ (y ∷ ys)) → VarPathRule m zs → CalleeRule m zs
    called [] h r = absurd cc
    called (z ∷ []) h r = absurd cc
    called (z ∷ (u ∷ us)) h r = method r

-- an assignment behind a word
record AssignKept (w : List ℕ) (xs : List Ident) (e : ExprTree) : Type 0 where
  pub marked : List Marked
  pub path : List Ident
  pub value : ExprTree
  pub rule : AssignRule w marked path value
  pub path_like : map placeless_ident path ≡ map placeless_ident xs
  pub value_like : placeless_expr value ≡ placeless_expr e

abbrev assigned_text : List Ident → ExprTree → List ℕ
assigned_text xs e = path_text xs ++ (32 ∷ (61 ∷ (32 ∷ (expr_text e ++ (59 ∷ [])))))

assign_piece : {w : List ℕ} {m : List Marked} {xs : List Ident} {e : ExprTree} → AssignRule w m xs e → AllValid m
    → Piece {X = AssignKept w xs e} (λ y. y.marked) m (w ++ (32 ∷ assigned_text xs e)) Any
assign_piece {w} (assign {xs = xs} {e = t} p q r path value pr vr e) v =
    let a = subst AllValid e v in
    let b = valid_right path _ (valid_tail a) in
    as_rule
    (both (name_piece [] w p (valid_head a)) (spaced (both (var_path_piece pr (valid_left path _ (valid_tail a)))
    (spaced (both (sign_piece [] sign.Assign q) (spaced (both (whole_piece vr (valid_left value _ (valid_tail b))) (sign_end r) (λ u g. refl))) (λ u g. space_ends sign.Assign _)))
    (λ u g. refl))) (λ u g. refl))
    (λ y. record {
      marked = _;
      path = y.1.0.tree;
      value = y.1.1.1.0.tree;
      rule = assign y.0 y.1.1.0 y.1.1.1.1 y.1.0.marked y.1.1.1.0.marked y.1.0.rule y.1.1.1.0.rule refl;
      path_like = y.1.0.like;
      value_like = y.1.1.1.0.like;
    })
    (λ y. refl) e refl

set_is : (p e : List ℕ) → codes "set " ++ (p ++ codes " = " ++ e) ++ codes ";" ≡ codes "set" ++ (32 ∷ (p ++ (32 ∷ (61 ∷ (32 ∷ (e ++ (59 ∷ [])))))))
set_is p e = simp append_assoc refl

do_is : (p e : List ℕ) → codes "do " ++ (p ++ codes " = " ++ e) ++ codes ";" ≡ codes "do" ++ (32 ∷ (p ++ (32 ∷ (61 ∷ (32 ∷ (e ++ (59 ∷ [])))))))
do_is p e = simp append_assoc refl

act_is : (p e : List ℕ) → codes "act " ++ (p ++ codes "(" ++ e ++ codes ")") ++ codes ";" ≡ codes "act" ++ (32 ∷ (p ++ (40 ∷ (e ++ (41 ∷ (59 ∷ []))))))
act_is p e = simp append_assoc refl

-- an instruction with its semicolon
pub instr_piece : {m : List Marked} {i : InstrTree} → InstrRule m i → AllValid m
    → Piece {X = Kept placeless_instr InstrRule i} (λ y. y.marked) m (instr_text i ++ codes ";") Any
instr_piece (set {xs = xs} {e = t} r) v =
    as_rule (assign_piece r v)
    (λ y. record { marked = y.marked; tree = _; rule = set y.rule; like = ap₂ SetInstr y.path_like y.value_like }) (λ y. refl) refl (set_is (path_text xs) (expr_text t))
instr_piece (effect {xs = xs} {e = t} r) v =
    as_rule (assign_piece r v)
    (λ y. record { marked = y.marked; tree = _; rule = effect y.rule; like = ap₂ EffectInstr y.path_like y.value_like }) (λ y. refl) refl (do_is (path_text xs) (expr_text t))
instr_piece (new to p q r small) v =
    as_rule
    (both (name_piece [] (codes "new") p (valid_head v)) (spaced (both (place_here to q (valid_head (valid_tail v))) (sign_end r) (λ u g. refl))) (λ u g. refl))
    (λ y. record { marked = _; tree = NewInstr to; rule = new to y.0 y.1.0 y.1.1 small; like = refl }) (λ y. refl) refl refl
instr_piece (act {xs = xs} {es = es} p q r s path args cr ar free e) v =
    let a = valid_tail (subst AllValid e v) in
    as_rule
    (both (name_piece [] (codes "act") p (valid_head (subst AllValid e v))) (spaced (both (callee_piece cr (valid_left path _ a))
    (both (sign_open q) (both (args_piece ar (valid_left args _ (valid_tail (valid_right path _ a))))
    (both (sign_shut r) (sign_end s) (λ u g. tt)) (λ u g. closing _)) (λ u g. tt)) (λ u g. refl))) (λ u g. refl))
    (λ y. record {
      marked = _;
      tree = ActInstr y.1.0.tree y.1.1.1.0.trees;
      rule = act y.0 y.1.1.0 y.1.1.1.1.0 y.1.1.1.1.1 y.1.0.marked y.1.1.1.0.marked y.1.0.rule y.1.1.1.0.rule
          (all_free_like y.1.1.1.0.trees es y.1.1.1.0.like free) refl;
      like = ap₂ ActInstr y.1.0.like y.1.1.1.0.like;
    })
    (λ y. refl) e (act_is (path_text xs) (args_text es))
instr_piece (drop {ns = ns} p q of lr e) v =
    let a = subst AllValid e v in
    as_rule
    (both (name_piece [] (codes "drop") p (valid_head a)) (spaced (both (locals_piece lr (valid_left of _ (valid_tail a))) (sign_end q) (λ u g. refl))) (λ u g. refl))
    (λ y. record { marked = _; tree = DropInstr ns; rule = drop y.0 y.1.1 y.1.0.marked y.1.0.rule refl; like = refl }) (λ y. refl) e refl

pub instrs_piece : {m : List Marked} {is : List InstrTree} → InstrsRule m is → AllValid m
    → Piece {X = Kept (map placeless_instr) InstrsRule is} (λ y. y.marked) m (all_text instr_line is) Any
instrs_piece no_instrs v = as_rule nothing (λ y. record { marked = _; tree = []; rule = no_instrs; like = refl }) (λ y. refl) refl refl
instrs_piece (more_instrs first rest r s e) v =
    let a = subst AllValid e v in
    as_rule (both (lined 2 (instr_piece r (valid_left first rest a)) (λ u. tt)) (instrs_piece s (valid_right first rest a)) (λ u g. tt))
    (λ y. record { marked = _; tree = y.0.tree ∷ y.1.tree; rule = more_instrs y.0.marked y.1.marked y.0.rule y.1.rule refl; like = ap₂ (λ i is. i ∷ is) y.0.like y.1.like })
    (λ y. refl) e refl

test_is : (e y n : List ℕ) → codes "test(" ++ e ++ codes ") goto " ++ y ++ codes " else " ++ n ++ codes ";"
    ≡ codes "test" ++ (40 ∷ (e ++ (41 ∷ (32 ∷ (codes "goto" ++ (32 ∷ (y ++ (32 ∷ (codes "else" ++ (32 ∷ (n ++ (59 ∷ []))))))))))))
test_is e y n = simp append_assoc refl

-- the last instruction of a block with its semicolon
pub last_piece : {m : List Marked} {l : LastTree} → LastRule Two m l → AllValid m → Piece {X = Kept placeless_last (LastRule Two) l} (λ y. y.marked) m (last_text l ++ codes ";") Any
last_piece (goto {b = b} p q r h) v =
    as_rule (both (name_piece [] (codes "goto") p (valid_head v)) (spaced (both (number_here q h) (sign_end r) (λ u g. refl))) (λ u g. refl))
    (λ y. record { marked = _; tree = GotoLast b; rule = goto y.0 y.1.0 y.1.1 h; like = refl }) (λ y. refl) refl refl
last_piece (pass {b = b} p q r h) v =
    as_rule (both (name_piece [] (codes "pass") p (valid_head v)) (spaced (both (number_here q h) (sign_end r) (λ u g. refl))) (λ u g. refl))
    (λ y. record { marked = _; tree = PassLast b; rule = pass y.0 y.1.0 y.1.1 h; like = refl }) (λ y. refl) refl refl
last_piece (test {e = t} {y = to} {n = away} p q r s i u k w of er h j e) v =
    let a = subst AllValid e v in
    let b = valid_tail (valid_right of _ (valid_tail (valid_tail a))) in
    as_rule
    (both (name_piece [] (codes "test") p (valid_head a)) (both (sign_open q) (both (whole_piece er (valid_left of _ (valid_tail (valid_tail a)))) (both (sign_shut r)
    (spaced (both (name_piece [] (codes "goto") s (valid_head b)) (spaced (both (number_here i h) (spaced (both (word_piece [] word.Else u)
    (spaced (both (number_here k j) (sign_end w) (λ x g. refl))) (λ x g. refl))) (λ x g. refl))) (λ x g. refl))) (λ x g. tt)) (λ x g. refl)) (λ x g. tt)) (λ x g. refl))
    (λ y. record {
      marked = _;
      tree = TestLast y.1.1.0.tree to away;
      rule = test y.0 y.1.0 y.1.1.1.0 y.1.1.1.1.0 y.1.1.1.1.1.0 y.1.1.1.1.1.1.0 y.1.1.1.1.1.1.1.0 y.1.1.1.1.1.1.1.1 y.1.1.0.marked y.1.1.0.rule h j refl;
      like = ap (λ z. TestLast z to away) y.1.1.0.like;
    })
    (λ y. refl) e (test_is (expr_text t) (decimal to) (decimal away))
last_piece (choose {g = g} p q r h) v =
    as_rule (both (word_piece [] word.Choose p) (spaced (both (number_here q h) (sign_end r) (λ u x. refl))) (λ u x. refl))
    (λ y. record { marked = _; tree = ChooseLast g; rule = choose y.0 y.1.0 y.1.1 h; like = refl }) (λ y. refl) refl refl
last_piece (return p q of no_value e) v =
    as_rule (both (word_piece [] word.Return p) (sign_end q) (λ u x. refl))
    (λ y. record { marked = _; tree = ReturnLast None; rule = return y.0 y.1 [] no_value refl; like = refl }) (λ y. refl) e refl
last_piece (return p q of (something r) e) v =
    let a = subst AllValid e v in
    as_rule (both (word_piece [] word.Return p) (spaced (both (whole_piece r (valid_left of _ (valid_tail a))) (sign_end q) (λ u x. refl))) (λ u x. refl))
    (λ y. record {
      marked = _;
      tree = ReturnLast (Some y.1.0.tree);
      rule = return y.0 y.1.1 y.1.0.marked (something y.1.0.rule) refl;
      like = ap (λ z. ReturnLast (Some z)) y.1.0.like;
    })
    (λ y. refl) e refl
last_piece (throw {e = t} p q of r e) v =
    let a = subst AllValid e v in
    as_rule (both (word_piece [] word.Throw p) (spaced (both (whole_piece r (valid_left of _ (valid_tail a))) (sign_end q) (λ u x. refl))) (λ u x. refl))
    (λ y. record { marked = _; tree = ThrowLast y.1.0.tree; rule = throw y.0 y.1.1 y.1.0.marked y.1.0.rule refl; like = ap ThrowLast y.1.0.like }) (λ y. refl) e refl
