-- Statements one after another, and the scopes around them.
use Rattle.std.proofs.Common.{◌≡◌, ℕ, suc, ◌+◌, ◌<◌, ◌≤◌, Bool, true, false, ◌||◌, List, ◌∷◌, length, drop, get_or, refl, ap, sym, subst, ◌∙◌, arith}
use Rattle.std.proofs.lemmas.List.{drop_more, drop_all}
use Rattle.std.specs.declared.alloc.Global.{Global}
use Rattle.std.specs.declared.boxed.Box.{Box}
use Rattle.flow_base.specs.declared.place.Place.{Place}
use Rattle.flow_tree.specs.declared.stmt.Stmt.{Stmt, fold_out-Stmt}
use Rattle.flow_tree.specs.declared.stmt.StmtKind.{StmtKind-F, fold_out-StmtKind}
use Rattle.flow_tree.specs.declared.stmt.StmtKind.TheOpen as layer
use Rattle.std.specs.declared.option.Option.TheVariants.{None, Some}
use Rattle.flow_tree.specs.StmtView.{kind_step, stmt_step, branch_step, stmt_of, body_of, simple_of}
use Rattle.flow_tree.specs.Body.{IntoTree, Body, End, Branches}
use Rattle.flow_tree.specs.Decls.{SlotTree}
use Rattle.flow_ast.specs.Leaving.{has_statement}
use Rattle.std.specs.declared.option.Option.{Option}
use Rattle.flow_class.specs.Scopes.{Mark, Var, scope, outside}
use Rattle.flow_meaning.specs.Evaluating.{Names}
use Rattle.flow_split.specs.Around.{Exit, Text, Scoped, Part, Around}
use Rattle.flow_split.specs.Counts.{locals_in}
use Rattle.flow_split.specs.Lowered.{drop_of, text_end, finished}
use Rattle.flow_split.specs.Emitting.{Emitted, At, Fresh, opened, closed_by, ended_if, ended_by, taking, in_scope, with_rest, with_rest_if, rest_of, Emits, EmitsAll, EmitsPart, EmitsScope, EmitsBranch, EmitsHandler}
use Rattle.flow_split.proofs.Steps.{ended, ended_plain}
use Rattle.flow_split.proofs.Bodies.{outside_later, outside_taken}

-- a statement put before a body
abbrev Puts : Type 0
Puts = Place → Body → Body

kind_has : (f : StmtKind-F Puts (Body → Body) (Branches → Branches)) (at : Place) (k : Body) → has_statement (kind_step f at k) ≡ true
kind_has (layer.Block fs) at k = refl
kind_has (layer.If e fs None) at k = refl
kind_has (layer.If e fs (Some gs)) at k = refl
kind_has (layer.While e fs) at k = refl
kind_has (layer.For i e t fs) at k = refl
kind_has (layer.Loop fs) at k = refl
kind_has layer.Break at k = refl
kind_has layer.Continue at k = refl
kind_has (layer.Return e) at k = refl
kind_has (layer.Throw e) at k = refl
kind_has (layer.Try fs p x hs) at k = refl
kind_has (layer.Choose bs) at k = refl
kind_has (layer.Declare i e) at k = refl
kind_has (layer.Assign t e) at k = refl
kind_has (layer.Modify t c) at k = refl
kind_has (layer.Call t es) at k = refl
kind_has (layer.Wait w) at k = refl

pub stmt_has : (s : Stmt) (k : Body) → has_statement (stmt_of s k) ≡ true
stmt_has s k =
    ap (λ f. has_statement (f k)) (fold_out-Stmt Puts (Body → Body) (Branches → Branches) kind_step stmt_step branch_step s)
    ∙ ap (λ f. has_statement (f s.at k)) (fold_out-StmtKind Puts (Body → Body) (Branches → Branches) kind_step stmt_step branch_step s.kind)
    ∙ kind_has _ s.at k

or_true : (b : Bool) → b || true ≡ true
or_true true = refl
or_true false = refl

plus_zero : (n : ℕ) → n + 0 ≡ n
plus_zero n = omega arith

module _ (ns : Names) (slots : List SlotTree) (w : Around) where
  -- so far: what is emitted, with what the rest adds to it, is what the whole body adds
  pub record Going (whole rest : Body) (old now : Emitted) : Type 0 where
    pub code : with_rest ns slots now w rest ≡ with_rest ns slots old w whole
    pub next : now.next + locals_in rest ≡ old.next + locals_in whole
    pub scopes : outside now.scopes ≡ outside old.scopes
    pub shut : now.is_open ≡ false → Fresh now

  pub going_first : (b : Body) (e : Emitted) → e.is_open ≡ true → Going b b e e
  going_first b e o = record { code = refl; next = refl; scopes = refl; shut = λ h. absurd (no_false (sym o ∙ h)) }
    where
      no_false : true ≡ false → ⊥
      no_false h = cc

  pub going_next : (whole : Body) (ss : List Stmt) (i : ℕ) (s : Stmt) (e0 e e1 e2 : Emitted) → i < length ss → s ≡ get_or ss i s → e1 ≡ opened e → Emits ns slots w (stmt_of s) e1 e2
      → Going whole (body_of (drop i ss)) e0 e → Going whole (body_of (drop (i + 1) ss)) e0 e2
  going_next whole ss i s e0 e e1 e2 lt got be h g =
      let k = body_of (drop (i + 1) ss) in
      let split : stmt_of s k ≡ body_of (drop i ss) = ap (λ x. stmt_of x k) got ∙ ap body_of (sym (drop_more ss i s lt)) in
      record {
        code =
            h.code k ∙ ap (λ x. with_rest ns slots x w (stmt_of s k)) be
            ∙ sym (ap (λ x. with_rest_if ns slots x e w (stmt_of s k)) (ap (λ x. e.is_open || x) (stmt_has s k) ∙ or_true e.is_open))
            ∙ ap (with_rest ns slots e w) split ∙ g.code;
        next = h.next k ∙ ap (λ x. x.next + locals_in (stmt_of s k)) be ∙ ap (λ x. e.next + locals_in x) split ∙ g.next;
        scopes = ap outside h.scopes ∙ outside_later (stmt_of s End) e1.next e1.scopes ∙ ap (λ x. outside x.scopes) be ∙ g.scopes;
        shut = h.shut;
      }

  -- the end of a body
  pub record Over (b : Body) (old now new : Emitted) : Type 0 where
    pub all : At w.hand old (rest_of ns slots old w b) new
    pub next : new.next ≡ old.next + locals_in b
    pub scopes : new.scopes ≡ now.scopes

  finished_at : (x : Exit) (e : Emitted) → At w.hand e (finished w e.scopes x) (closed_by w e x)
  finished_at (Text close) e = (ended_plain w (text_end close) e _ refl).at
  finished_at (Scoped last) e = (ended w (drop_of (scope e.scopes)) last e _ refl).at
  finished_at (Part last) e = (ended_plain w last e _ refl).at

  finished_next : (x : Exit) (e : Emitted) → (closed_by w e x).next ≡ e.next
  finished_next (Text close) e = refl
  finished_next (Scoped last) e = refl
  finished_next (Part last) e = refl

  finished_scopes : (x : Exit) (e : Emitted) → (closed_by w e x).scopes ≡ e.scopes
  finished_scopes (Text close) e = refl
  finished_scopes (Scoped last) e = refl
  finished_scopes (Part last) e = refl

  over_if : (o : Bool) (b : Body) (e0 e : Emitted) → e0.is_open ≡ true → e.is_open ≡ o → Going b End e0 e → Over b e0 e (ended_if o w e)
  over_if true b e0 e o h g =
      let f = finished_at w.exit e in
      record {
        all = record {
          all =
              f.all ∙ ap (λ x. with_rest_if ns slots (x || false) e w End) (sym h) ∙ g.code
              ∙ ap (λ x. with_rest_if ns slots (x || has_statement b) e0 w b) o;
          fresh = f.fresh;
        };
        next = finished_next w.exit e ∙ sym (plus_zero e.next) ∙ g.next;
        scopes = finished_scopes w.exit e;
      }
  over_if false b e0 e o h g = record {
    all = record {
      all = ap (λ x. with_rest_if ns slots (x || false) e w End) (sym h) ∙ g.code ∙ ap (λ x. with_rest_if ns slots (x || has_statement b) e0 w b) o;
      fresh = g.shut h;
    };
    next = sym (plus_zero e.next) ∙ g.next;
    scopes = refl;
  }

  pub over : (b : Body) (e0 e new : Emitted) → e0.is_open ≡ true → Going b End e0 e → new ≡ ended_by w e → Over b e0 e new
  over b e0 e new o g h = subst (Over b e0 e) (sym h) (over_if e.is_open b e0 e o refl g)

  pub whole_body : (ss : List Stmt) (i : ℕ) (e0 e new : Emitted) → e0.is_open ≡ true → length ss ≤ i → Going (body_of ss) (body_of (drop i ss)) e0 e → new ≡ ended_by w e
      → EmitsAll ns slots w (body_of ss) e0 new
  whole_body ss i e0 e new o le g h =
      let g2 : Going (body_of ss) End e0 e = subst (λ x. Going (body_of ss) (body_of x) e0 e) (drop_all i ss le) g in
      let r = over (body_of ss) e0 e new o g2 h in
      record { all = r.all; next = r.next; scopes = ap outside r.scopes ∙ g.scopes }

  -- a body in a scope of its own
  pub in_own_scope : (b : Body) (e e1 e2 new : Emitted) → e1 ≡ in_scope e → EmitsAll ns slots w b e1 e2 → new ≡ record e2 { scopes = outside e2.scopes } → EmitsScope ns slots w b e new
  in_own_scope b e e1 e2 new h a nw =
      let r = subst (λ x. EmitsAll ns slots w b x e2) h a in
      subst (EmitsScope ns slots w b e) (sym nw) (record { all = record { all = r.all.all; fresh = record { body = r.all.fresh.body; acts = r.all.fresh.acts } }; next = r.next; scopes = r.scopes })

  pub in_branch_scope : (i : Option IntoTree) (b : Body) (e e1 e2 new : Emitted) → e1 ≡ taking i (in_scope e) → EmitsAll ns slots w b e1 e2 → new ≡ record e2 { scopes = outside e2.scopes }
      → EmitsBranch ns slots w i b e new
  in_branch_scope i b e e1 e2 new h a nw =
      let r = subst (λ x. EmitsAll ns slots w b x e2) h a in
      subst (EmitsBranch ns slots w i b e) (sym nw)
      (record { all = record { all = r.all.all; fresh = record { body = r.all.fresh.body; acts = r.all.fresh.acts } }; next = r.next; scopes = r.scopes ∙ outside_taken i e.next (Mark ∷ e.scopes) })

  pub in_handler_scope : (x : List ℕ) (b : Body) (e e1 e2 new : Emitted) → e1 ≡ record e { scopes = Var x e.next ∷ Mark ∷ e.scopes; next = suc e.next } → EmitsAll ns slots w b e1 e2
      → new ≡ record e2 { scopes = outside e2.scopes } → EmitsHandler ns slots w x b e new
  in_handler_scope x b e e1 e2 new h a nw =
      let r = subst (λ y. EmitsAll ns slots w b y e2) h a in
      subst (EmitsHandler ns slots w x b e) (sym nw) (record {
        all = record { all = r.all.all; fresh = record { body = r.all.fresh.body; acts = r.all.fresh.acts } };
        next = r.next;
        scopes = r.scopes;
      })

  -- a part of a `for`
  pub no_part : (e new : Emitted) → e.is_open ≡ true → new ≡ ended_by w e → EmitsPart ns slots w End e new
  no_part e new o h =
      let r = over End e e new o (going_first End e o) h in
      record { all = r.all; next = r.next; scopes = r.scopes }

  pub some_part : (s : Stmt) (e e1 new : Emitted) → e.is_open ≡ true → Emits ns slots w (stmt_of s) e e1 → new ≡ ended_by w e1 → EmitsPart ns slots w (stmt_of s End) e new
  some_part s e e1 new o h nw =
      let g : Going (stmt_of s End) End e e1 = record { code = h.code End; next = h.next End; scopes = ap outside h.scopes ∙ outside_later (stmt_of s End) e.next e.scopes; shut = h.shut } in
      let r = over (stmt_of s End) e e1 new o g nw in
      record { all = r.all; next = r.next; scopes = r.scopes ∙ h.scopes }

  pub part_none : (p : Option (Box Stmt Global)) (e new : Emitted) → p ≡ None → e.is_open ≡ true → new ≡ ended_by w e → EmitsPart ns slots w (simple_of p) e new
  part_none p e new h o k = subst (λ q. EmitsPart ns slots w (simple_of q) e new) (sym h) (no_part e new o k)

  pub part_some : (p : Option (Box Stmt Global)) (b : Box Stmt Global) (s : Stmt) (e e1 new : Emitted) → p ≡ Some b → s ≡ b.value → e.is_open ≡ true → Emits ns slots w (stmt_of s) e e1
      → new ≡ ended_by w e1
      → EmitsPart ns slots w (simple_of p) e new
  part_some p b s e e1 new h d o a k =
      subst (λ q. EmitsPart ns slots w (simple_of q) e new) (sym h) (subst (λ x. EmitsPart ns slots w (stmt_of x End) e new) d (some_part s e e1 new o a k))
