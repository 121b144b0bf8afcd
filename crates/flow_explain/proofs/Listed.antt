-- The waits of a text are listed one after another.
use Rattle.std.proofs.Common.{◌≡◌, ℕ, ◌+◌, ◌<◌, ◌≤◌, List, ◌++◌, length, drop, get_or, sym, ap, ◌∙◌, append-nil}
use Rattle.std.proofs.lemmas.List.{drop_more, drop_all}
use Rattle.flow_tree.specs.declared.stmt.Stmt.{Stmt}
use Rattle.flow_tree.specs.declared.stmt.When.{When}
use Rattle.flow_tree.specs.StmtView.{stmt_of, body_of, branch_of, branches_of}
use Rattle.flow_tree.specs.Body.{Body, Branches}
use Rattle.flow_explain.specs.Texts.{WaitText, waits_in, branch_waits}

pub body_next : (ss : List Stmt) (i : ℕ) (s : Stmt) (ps new whole : List WaitText) → i < length ss → s ≡ get_or ss i s
    → ((k : Body) → new ++ waits_in k ≡ ps ++ waits_in (stmt_of s k)) → ps ++ waits_in (body_of (drop i ss)) ≡ whole
    → new ++ waits_in (body_of (drop (i + 1) ss)) ≡ whole
body_next ss i s ps new whole lt got is inv =
    let k = body_of (drop (i + 1) ss) in
    is k ∙ ap (λ x. ps ++ waits_in (stmt_of x k)) got ∙ ap (λ l. ps ++ waits_in (body_of l)) (sym (drop_more ss i s lt)) ∙ inv

pub body_end : (ss : List Stmt) (i : ℕ) (ps whole : List WaitText) → length ss ≤ i → ps ++ waits_in (body_of (drop i ss)) ≡ whole → ps ≡ whole
body_end ss i ps whole le inv = sym (append-nil ps) ∙ ap (λ l. ps ++ waits_in (body_of l)) (sym (drop_all i ss le)) ∙ inv

pub branches_next : (ws : List When) (i : ℕ) (w : When) (ps new whole : List WaitText) → i < length ws → w ≡ get_or ws i w
    → ((bs : Branches) → new ++ branch_waits bs ≡ ps ++ branch_waits (branch_of w bs)) → ps ++ branch_waits (branches_of (drop i ws)) ≡ whole
    → new ++ branch_waits (branches_of (drop (i + 1) ws)) ≡ whole
branches_next ws i w ps new whole lt got is inv =
    let k = branches_of (drop (i + 1) ws) in
    is k ∙ ap (λ x. ps ++ branch_waits (branch_of x k)) got ∙ ap (λ l. ps ++ branch_waits (branches_of l)) (sym (drop_more ws i w lt)) ∙ inv

pub branches_end : (ws : List When) (i : ℕ) (ps whole : List WaitText) → length ws ≤ i → ps ++ branch_waits (branches_of (drop i ws)) ≡ whole → ps ≡ whole
branches_end ws i ps whole le inv = sym (append-nil ps) ∙ ap (λ l. ps ++ branch_waits (branches_of l)) (sym (drop_all i ws le)) ∙ inv
