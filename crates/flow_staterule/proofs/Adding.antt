-- Uses are added one after another.
use Rattle.std.proofs.Common.{◌≡◌, ℕ, ◌+◌, ◌-◌, ◌<◌, ◌≤◌, List, [], ◌∷◌, ◌++◌, length, map, drop, get_or, sym, ap, ap₂, ◌∙◌, append_assoc, append-nil, refl, reverse, take, arith}
use Rattle.std.proofs.lemmas.List.{drop_more, drop_all, take_more, take_all, map-append, reverse-append}
use Rattle.flow_tree.specs.declared.expr.Expr.{Expr}
use Rattle.flow_tree.specs.declared.decl.Param.{Param}
use Rattle.flow_tree.specs.Decls.{ParamTree}
use Rattle.flow_tree.specs.declared.stmt.Stmt.{Stmt}
use Rattle.flow_tree.specs.declared.stmt.When.{When}
use Rattle.flow_tree.specs.View.{expr_of, exprs_of}
use Rattle.flow_tree.specs.StmtView.{stmt_of, body_of, branch_of, branches_of}
use Rattle.flow_tree.specs.Body.{Body, Branches, End}
use Rattle.flow_staterule.specs.declared.scope.Point.{Point}
use Rattle.flow_ast.specs.Slots.{body_groups}
use Rattle.flow_staterule.specs.declared.scope.Use.{Use}
use Rattle.flow_staterule.specs.declared.scope.Variables.{Variables}
use Rattle.flow_staterule.specs.declared.ways.Ways.{Ways}
use Rattle.flow_staterule.specs.Ways.{ways, sequence}
use Rattle.flow_staterule.proofs.Sequences.{sequence_empty}
use Rattle.flow_staterule.specs.declared.uses.Here.{Here}
use Rattle.flow_staterule.specs.declared.uses.Finder.{Finder}
use Rattle.flow_staterule.specs.Uses.{Variable, behind, expr_uses, exprs_uses}
use Rattle.flow_staterule.specs.View.{in_force, Extends, Finds, found, in_branches, known_behind}

-- what is added in two parts
pub two_added : (old mid new a b c d : List Use) → mid ≡ old ++ a → a ≡ c → new ≡ mid ++ b → b ≡ d → new ≡ old ++ (c ++ d)
two_added old mid new a b c d first ac second bd =
    second ∙ ap (λ l. l ++ b) (first ∙ ap (λ l. old ++ l) ac) ∙ append_assoc old c b ∙ ap (λ l. old ++ (c ++ l)) bd

pub exprs_next : (vs : List Variable) (p : Point) (es : List Expr) (i : ℕ) (e : Expr) (us new whole : List Use) → i < length es → e ≡ get_or es i e
    → new ≡ us ++ expr_uses vs p (expr_of e) → us ++ exprs_uses vs p (exprs_of (drop i es)) ≡ whole → new ++ exprs_uses vs p (exprs_of (drop (i + 1) es)) ≡ whole
exprs_next vs p es i e us new whole lt got is inv =
    let rest = exprs_uses vs p (exprs_of (drop (i + 1) es)) in
    ap (λ l. l ++ rest) is ∙ append_assoc us (expr_uses vs p (expr_of e)) rest
    ∙ ap (λ x. us ++ (expr_uses vs p (expr_of x) ++ rest)) got ∙ ap (λ l. us ++ exprs_uses vs p (exprs_of l)) (sym (drop_more es i e lt)) ∙ inv

pub exprs_end : (vs : List Variable) (p : Point) (es : List Expr) (i : ℕ) (us whole : List Use) → length es ≤ i → us ++ exprs_uses vs p (exprs_of (drop i es)) ≡ whole → us ≡ whole
exprs_end vs p es i us whole le inv = sym (append-nil us) ∙ ap (λ l. us ++ exprs_uses vs p (exprs_of l)) (sym (drop_all i es le)) ∙ inv

pub body_next : (f g : Finder) (h j : Here) (ss : List Stmt) (i : ℕ) (s : Stmt) (whole : List Use) → i < length ss → s ≡ get_or ss i s
    → Finds f g h (stmt_of s) → j ≡ known_behind (in_force f.variables) h (stmt_of s End) → found f h (body_of (drop i ss)) ≡ whole → found g j (body_of (drop (i + 1) ss)) ≡ whole
body_next f g h j ss i s whole lt got is je inv =
    let rest = body_of (drop (i + 1) ss) in
    ap (λ x. found g x rest) je ∙ is.uses rest ∙ ap (λ x. found f h (stmt_of x rest)) got ∙ ap (λ l. found f h (body_of l)) (sym (drop_more ss i s lt)) ∙ inv

pub body_end : (f : Finder) (h : Here) (ss : List Stmt) (i : ℕ) (whole : List Use) → length ss ≤ i → found f h (body_of (drop i ss)) ≡ whole → f.uses.items ≡ whole
body_end f h ss i whole le inv = sym (append-nil f.uses.items) ∙ ap (λ l. found f h (body_of l)) (sym (drop_all i ss le)) ∙ inv

pub branches_next : (f g : Finder) (p : Point) (h j : Here) (ws : List When) (i : ℕ) (w : When) (whole : List Use) → i < length ws → w ≡ get_or ws i w
    → ((bs : Branches) → in_branches g p j bs ≡ in_branches f p h (branch_of w bs)) → in_branches f p h (branches_of (drop i ws)) ≡ whole → in_branches g p j (branches_of (drop (i + 1) ws)) ≡ whole
branches_next f g p h j ws i w whole lt got is inv =
    let rest = branches_of (drop (i + 1) ws) in
    is rest ∙ ap (λ x. in_branches f p h (branch_of x rest)) got ∙ ap (λ l. in_branches f p h (branches_of l)) (sym (drop_more ws i w lt)) ∙ inv

pub branches_end : (f : Finder) (p : Point) (h : Here) (ws : List When) (i : ℕ) (whole : List Use) → length ws ≤ i → in_branches f p h (branches_of (drop i ws)) ≡ whole → f.uses.items ≡ whole
branches_end f p h ws i whole le inv = sym (append-nil f.uses.items) ∙ ap (λ l. in_branches f p h (branches_of l)) (sym (drop_all i ws le)) ∙ inv

-- one more parameter, newest first
pub params_next : (f : Param → Variable) (ps : List Param) (i : ℕ) (p : Param) (vs new : List Variable) → i < length ps → p ≡ get_or ps i p → vs ≡ reverse (map f (take i ps)) → new ≡ f p ∷ vs
    → new ≡ reverse (map f (take (i + 1) ps))
params_next f ps i p vs new lt got inv is =
    is ∙ ap (λ l. f p ∷ l) inv ∙ sym (
    ap (λ l. reverse (map f l)) (take_more ps i p lt) ∙ ap (λ x. reverse (map f (take i ps ++ x ∷ []))) (sym got) ∙ ap reverse (map-append f (take i ps) (p ∷ []))
    ∙ reverse-append (map f (take i ps)) (f p ∷ [])
    )

map_twice : {A B C : Type 0} (f : A → B) (g : B → C) (xs : List A) → map (λ x. g (f x)) xs ≡ map g (map f xs)
map_twice f g [] = refl
map_twice f g (x ∷ xs) = ap (λ l. g (f x) ∷ l) (map_twice f g xs)

pub params_end : (f : Param → ParamTree) (g : ParamTree → Variable) (ps : List Param) (i : ℕ) (vs : List Variable) → length ps ≤ i → vs ≡ reverse (map (λ p. g (f p)) (take i ps))
    → vs ≡ reverse (map g (map f ps))
params_end f g ps i vs le inv = inv ∙ ap (λ l. reverse (map (λ p. g (f p)) l)) (take_all i ps le) ∙ ap reverse (map_twice f g ps)

none_left : (n : ℕ) → n - 0 ≡ n
none_left n = omega arith

-- what is known behind a statement, by its ways out
pub behind_is : (h r : Here) (vs : List Variable) (s : Stmt) (w : Ways) (m d : ℕ) → ((k : Body) → ways h.looked.0 (stmt_of s k) ≡ sequence w (ways m k))
    → ((k : Body) → h.looked.0 - length (body_groups (stmt_of s k)) ≡ m - length (body_groups k)) → d ≡ length vs
    → r.looked.0 ≡ m → r.point ≡ behind d h.point w.ends → r.caught ≡ h.caught → r ≡ known_behind vs h (stmt_of s End)
behind_is h r vs s w m d out less dv l p c i = record {
  looked = record { 0 = (l ∙ sym (none_left m) ∙ sym (less End)) i };
  point = (p ∙ ap₂ (λ n x. behind n h.point x.ends) dv (sym (out End ∙ sequence_empty w))) i;
  caught = c i;
}

-- nothing stands in an absent part of a `for`
pub none_behind : (h : Here) (vs : List Variable) → h ≡ known_behind vs h End
none_behind h vs i = record { looked = record { 0 = (sym (none_left h.looked.0)) i }; point = h.point; caught = h.caught }

pub none_found : (f : Finder) (h : Here) → f.uses.items ≡ found f h End
none_found f h = sym (append-nil f.uses.items)

pub part_found : (f g : Finder) (h : Here) (s : Stmt) → Finds f g h (stmt_of s) → g.uses.items ≡ found f h (stmt_of s End)
part_found f g h s is = sym (append-nil g.uses.items) ∙ is.uses End

-- variables that are the same, or have been cut back
pub same_extends : (v w : Variables) → w.list.items ≡ v.list.items → Extends v w
same_extends v w e = ap (take (length v.list.items)) e ∙ take_length v.list.items
  where
    take_length : {A : Type 0} (xs : List A) → take (length xs) xs ≡ xs
    take_length [] = refl
    take_length (x ∷ xs) = ap (λ l. x ∷ l) (take_length xs)
