-- The walks through a statement of each kind.
use Rattle.std.proofs.Common.{◌≡◌, ℕ, Bool, List, sym, ap, ap₂, ◌∙◌}
use Rattle.std.specs.Option.{option_map}
use Rattle.std.specs.declared.option.Option.{Option}
use Rattle.std.specs.declared.option.Option.TheVariants.{None, Some}
use Rattle.std.specs.declared.alloc.Global.{Global}
use Rattle.std.specs.declared.boxed.Box.{Box}
use Rattle.std.specs.declared.vec.Vec.{Vec}
use Rattle.flow_tree.specs.declared.expr.Expr.{Expr}
use Rattle.flow_tree.specs.declared.stmt.Stmt.{Stmt}
use Rattle.flow_tree.specs.declared.stmt.StmtKind.TheVariants as kind
use Rattle.flow_tree.specs.View.{expr_of}
use Rattle.flow_tree.specs.StmtView.{stmt_of, body_of, simple_of, else_of}
use Rattle.flow_tree.specs.Body.{Body}
use Rattle.flow_layout.proofs.StmtKinds.{is_if, is_if_else, is_for}
use Rattle.flow_warning.specs.declared.walks.Walks.{Walks}
use Rattle.flow_warning.specs.Walks.{mentions, branching, in_turn, round, tested, alone}

-- the walks through a statement by its kind
pub alone_as : (x : List ℕ) (s : Stmt) (put : Body → Body) (w v : Walks) → ((k : Body) → stmt_of s k ≡ put k) → w ≡ v
    → ((k : Body) → alone x (put k) ≡ in_turn v (alone x k)) → (k : Body) → alone x (stmt_of s k) ≡ in_turn w (alone x k)
alone_as x s put w v is we h k = ap (alone x) (is k) ∙ h k ∙ sym (ap (λ y. in_turn y (alone x k)) we)

pub alone_if : (x : List ℕ) (s : Stmt) (e : Expr) (b : Vec Stmt Global) (o : Option (Vec Stmt Global)) (m : Bool) (w v : Walks) → s.kind ≡ kind.If e b o
    → m ≡ mentions x (expr_of e) → v ≡ alone x (body_of b.items) → w ≡ branching x m v (else_of o) → (k : Body) → alone x (stmt_of s k) ≡ in_turn w (alone x k)
alone_if x s e b None m w v is me ve we k =
    ap (alone x) (is_if s e b k is) ∙ sym (ap (λ y. in_turn y (alone x k)) (we ∙ ap₂ (λ n y. branching x n y None) me ve))
alone_if x s e b (Some c) m w v is me ve we k =
    ap (alone x) (is_if_else s e b c k is) ∙ sym (ap (λ y. in_turn y (alone x k)) (we ∙ ap₂ (λ n y. branching x n y (Some (body_of c.items))) me ve))

pub alone_for : (x : List ℕ) (s : Stmt) (i : Option (Box Stmt Global)) (e : Option Expr) (t : Option (Box Stmt Global)) (b : Vec Stmt Global) (w v r : Walks)
    → s.kind ≡ kind.For i e t b → v ≡ alone x (simple_of i) → r ≡ in_turn (round (alone x (body_of b.items))) (alone x (simple_of t))
    → w ≡ in_turn v (tested x (option_map expr_of e) r) → (k : Body) → alone x (stmt_of s k) ≡ in_turn w (alone x k)
alone_for x s i e t b w v r is ve re we k =
    ap (alone x) (is_for s i e t b k is) ∙ sym (ap (λ y. in_turn y (alone x k)) (we ∙ ap₂ (λ y z. in_turn y (tested x (option_map expr_of e) z)) ve re))
