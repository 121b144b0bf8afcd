-- What is written for a kind of statement that is put before a body.
use Rattle.std.proofs.Common.{◌≡◌, ℕ, suc, List, [], ◌++◌, refl, sym, ap, ◌∙◌, append_assoc}
use Rattle.std.specs.Prelude.{codes}
use Rattle.std.specs.Option.{option_map}
use Rattle.std.specs.declared.alloc.Global.{Global}
use Rattle.std.specs.declared.boxed.Box.{Box}
use Rattle.std.specs.declared.option.Option.{Option}
use Rattle.std.specs.declared.option.Option.TheVariants.{None, Some}
use Rattle.std.specs.declared.vec.Vec.{Vec}
use Rattle.flow_base.specs.declared.place.Place.{Place}
use Rattle.flow_tree.specs.declared.expr.Expr.{Expr}
use Rattle.flow_tree.specs.declared.stmt.Stmt.{Stmt}
use Rattle.flow_tree.specs.declared.stmt.StmtKind.{StmtKind}
use Rattle.flow_tree.specs.declared.stmt.StmtKind.TheVariants as kind
use Rattle.flow_tree.specs.View.{expr_of}
use Rattle.flow_tree.specs.StmtView.{kind_of, stmt_of, body_of, else_of, simple_of}
use Rattle.flow_tree.proofs.Views.{stmt_is, kind_if, kind_if_else}
use Rattle.flow_tree.specs.Canon.{line, expr_text, maybe_text, part_text, body_text}
use Rattle.flow_show.specs.Lines.{PutsBefore, else_text}
use Rattle.flow_tree.specs.Body.{Body}

-- a kind of statement is the function that puts it before a body, at a place
abbrev Puts : Type 0
Puts = Place → Body → Body

-- a statement puts its own text before that of any body
pub puts_kind : (k : ℕ) (s : Stmt) (kind : StmtKind) (f : Place → Body → Body) (old new own : List ℕ) → s.kind ≡ kind → kind_of kind ≡ f
    → ((at : Place) (rest : Body) → body_text k (f at rest) ≡ own ++ body_text k rest) → new ≡ old ++ own → PutsBefore k (stmt_of s) old new
puts_kind k s kind f old new own e kf text h rest =
    ap (λ l. l ++ body_text k rest) h ∙ append_assoc old own (body_text k rest) ∙ ap (λ l. old ++ l) (sym (text s.at rest))
    ∙ ap (λ g. old ++ body_text k (g s.at rest)) (sym (ap kind_of e ∙ kf)) ∙ ap (λ g. old ++ body_text k (g rest)) (sym (stmt_is s))

-- an `if` with its `else`, if it has one
abbrev if_line : ℕ → Expr → List ℕ
if_line k e = line k (codes "if (" ++ expr_text (expr_of e) ++ codes ") {")

pub puts_if : (k : ℕ) (s : Stmt) (e : Expr) (b : Vec Stmt Global) (o : Option (Vec Stmt Global)) (old new : List ℕ) → s.kind ≡ kind.If e b o
    → new ≡ old ++ (line k (codes "if (" ++ expr_text (expr_of e) ++ codes ") {") ++ body_text (suc k) (body_of b.items) ++ else_text k (else_of o)) → PutsBefore k (stmt_of s) old new
puts_if k s e b None old new is h = puts_kind k s _ _ old new _ is (kind_if e b) (λ at rest. refl) h
puts_if k s e b (Some o) old new is h =
    let opened = if_line k e ++ body_text (suc k) (body_of b.items) in
    let other = line k (codes "} else {") in
    let inner = body_text (suc k) (body_of o.items) in
    let closed = line k (codes "}") in
    puts_kind k s _ _ old new (opened ++ other ++ inner ++ closed) is (kind_if_else e b o) (λ at rest. refl)
    (h ∙ ap (λ l. old ++ l) (sym (append_assoc (opened ++ other) inner closed ∙ append_assoc opened other (inner ++ closed))))

-- the line at which a `for` begins
abbrev pub for_text : ℕ → Option (Box Stmt Global) → Option Expr → Option (Box Stmt Global) → List ℕ
for_text k init e step =
    line k (codes "for (" ++ part_text (simple_of init) ++ codes "; " ++ maybe_text [] (option_map expr_of e) ++ codes "; " ++ part_text (simple_of step) ++ codes ") {")
