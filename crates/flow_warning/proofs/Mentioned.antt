-- Mentions in lists.
use Rattle.std.proofs.Common.{◌≡◌, ℕ, ◌+◌, ◌<◌, ◌≤◌, Bool, true, false, ◌||◌, List, length, drop, get_or, sym, ap, ◌∙◌}
use Rattle.std.proofs.lemmas.List.{drop_more, drop_all}
use Rattle.flow_tree.specs.declared.expr.Expr.{Expr}
use Rattle.flow_tree.specs.declared.stmt.When.{When, out-When}
use Rattle.flow_tree.specs.View.{expr_of, exprs_of}
use Rattle.flow_tree.specs.StmtView.{branch_of, branches_of}
use Rattle.flow_layout.proofs.StmtKinds.{when_is}
use Rattle.flow_warning.specs.Walks.{mentions, mention, branches_mention}

split : (x : List ℕ) (es : List Expr) (i : ℕ) (e : Expr) → i < length es → e ≡ get_or es i e
    → mention x (exprs_of (drop i es)) ≡ (mentions x (expr_of e) || mention x (exprs_of (drop (i + 1) es)))
split x es i e lt got =
    ap (λ l. mention x (exprs_of l)) (drop_more es i e lt) ∙ sym (ap (λ y. mentions x (expr_of y) || mention x (exprs_of (drop (i + 1) es))) got)

pub mention_next : (x : List ℕ) (es : List Expr) (i : ℕ) (e : Expr) (b whole : Bool) → i < length es → e ≡ get_or es i e → b ≡ mentions x (expr_of e) → b ≡ false
    → mention x (exprs_of (drop i es)) ≡ whole → mention x (exprs_of (drop (i + 1) es)) ≡ whole
mention_next x es i e b whole lt got is missing inv =
    sym (ap (λ c. c || mention x (exprs_of (drop (i + 1) es))) (sym is ∙ missing)) ∙ sym (split x es i e lt got) ∙ inv

pub mention_found : (x : List ℕ) (es : List Expr) (i : ℕ) (e : Expr) (b whole : Bool) → i < length es → e ≡ get_or es i e → b ≡ mentions x (expr_of e) → b ≡ true
    → mention x (exprs_of (drop i es)) ≡ whole → true ≡ whole
mention_found x es i e b whole lt got is there inv =
    sym (ap (λ c. c || mention x (exprs_of (drop (i + 1) es))) (sym is ∙ there)) ∙ sym (split x es i e lt got) ∙ inv

pub mention_end : (x : List ℕ) (es : List Expr) (i : ℕ) (whole : Bool) → length es ≤ i → mention x (exprs_of (drop i es)) ≡ whole → false ≡ whole
mention_end x es i whole le inv = sym (ap (λ l. mention x (exprs_of l)) (drop_all i es le)) ∙ inv

branch_split : (x : List ℕ) (ws : List When) (i : ℕ) (w : When) → i < length ws → w ≡ get_or ws i w
    → branches_mention x (branches_of (drop i ws)) ≡ (mentions x (expr_of (out-When w).waiting.operand) || branches_mention x (branches_of (drop (i + 1) ws)))
branch_split x ws i w lt got =
    let rest = branches_of (drop (i + 1) ws) in
    ap (λ l. branches_mention x (branches_of l)) (drop_more ws i w lt) ∙ sym (ap (λ y. branches_mention x (branch_of y rest)) got)
    ∙ ap (λ f. branches_mention x (f rest)) (when_is w)

pub branch_next : (x : List ℕ) (ws : List When) (i : ℕ) (w : When) (b whole : Bool) → i < length ws → w ≡ get_or ws i w → b ≡ mentions x (expr_of (out-When w).waiting.operand) → b ≡ false
    → branches_mention x (branches_of (drop i ws)) ≡ whole → branches_mention x (branches_of (drop (i + 1) ws)) ≡ whole
branch_next x ws i w b whole lt got is missing inv =
    sym (ap (λ c. c || branches_mention x (branches_of (drop (i + 1) ws))) (sym is ∙ missing)) ∙ sym (branch_split x ws i w lt got) ∙ inv

pub branch_found : (x : List ℕ) (ws : List When) (i : ℕ) (w : When) (b whole : Bool) → i < length ws → w ≡ get_or ws i w → b ≡ mentions x (expr_of (out-When w).waiting.operand) → b ≡ true
    → branches_mention x (branches_of (drop i ws)) ≡ whole → true ≡ whole
branch_found x ws i w b whole lt got is there inv =
    sym (ap (λ c. c || branches_mention x (branches_of (drop (i + 1) ws))) (sym is ∙ there)) ∙ sym (branch_split x ws i w lt got) ∙ inv

pub branch_end : (x : List ℕ) (ws : List When) (i : ℕ) (whole : Bool) → length ws ≤ i → branches_mention x (branches_of (drop i ws)) ≡ whole → false ≡ whole
branch_end x ws i whole le inv = sym (ap (λ l. branches_mention x (branches_of l)) (drop_all i ws le)) ∙ inv
