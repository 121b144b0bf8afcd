-- What the parts of the walk leave in force, and what is asked of them.
use Rattle.std.proofs.Common.{◌≡◌, ℕ, Bool, true, false, List, [], ◌∷◌, ◌++◌, map, take, length, Result, Ok, Err, IfOk, IfErr, refl, sym, ap, ap₂, subst, ◌∙◌, append-nil}
use Rattle.std.specs.Option.{option_map}
use Rattle.std.specs.declared.option.Option.{Option}
use Rattle.std.specs.declared.option.Option.TheVariants.{None, Some}
use Rattle.std.specs.declared.alloc.Global.{Global}
use Rattle.std.specs.declared.boxed.Box.{Box}
use Rattle.std.specs.declared.vec.Vec.{Vec}
use Rattle.flow_base.specs.declared.place.Place.{Place}
use Rattle.flow_tree.specs.declared.fault.SourceFault.{SourceFault}
use Rattle.flow_tree.specs.declared.fault.SourceFault.TheVariants.{Refused, AcrossWait, OutOfMemory}
use Rattle.flow_tree.specs.declared.stmt.Stmt.{Stmt}
use Rattle.flow_tree.specs.declared.stmt.When.{When}
use Rattle.flow_tree.specs.Tree.{TypeTree, ExprTree}
use Rattle.flow_tree.specs.Body.{IntoTree, WaitTree, Body, End, DeclareStmt, WaitStmt}
use Rattle.flow_tree.specs.StmtView.{stmt_of, body_of, branches_of, simple_of, else_of}
use Rattle.flow_ast.specs.Slots.{body_slots, branch_slots}
use Rattle.flow_types.specs.declared.type_view.TypeView as code
use Rattle.flow_types.specs.declared.walk.Walk.{Walk}
use Rattle.flow_types.specs.declared.walk.Around.{Around}
use Rattle.flow_rules.specs.declared.rule.SemanticRule.{SemanticRule}
use Rattle.flow_rules.specs.Judged.{Setting}
use Rattle.flow_rules.specs.Items.{Env, item, with_states, with_var, if_state, declared, waited, fresh, into_fault, maybe_into, declare_fault, wait_fault, body_refusal, branch_refusal}
use Rattle.flow_rules.proofs.Lesser.{lesser_both}
use Rattle.flow_types.specs.View.{found_of}
use Rattle.flow_types.specs.WalkView.{env_of, Says, StmtAnswer, BodyAnswer, PartAnswer, Leads, else_refusal, else_slots}
use Rattle.flow_types.proofs.Ends.{part_some}
use Rattle.flow_types.proofs.Exits.{declare_ok, wait_ok, memory_stmt}

-- the variables of a walk, put in place of others
abbrev pub with_vars : Env → List (List ℕ × TypeTree) → Env
with_vars e vs = record e { setting = record e.setting { vars = vs } }

-- the name of a state variable is noted, and of no other
pub noted_none : (e : Env) (b : Bool) (x : List ℕ) → b ≡ false → e ≡ with_states e (if_state b x)
noted_none e true x h = cc
noted_none e false x h = ap (λ ss. record e { states = ss }) (sym (append-nil e.states))

pub noted_some : (e : Env) (b : Bool) (x : List ℕ) (new : List (List ℕ)) → b ≡ true → new ≡ e.states ++ x ∷ [] → record e { states = new } ≡ with_states e (if_state b x)
noted_some e true x new h is = ap (λ ss. record e { states = ss }) is
noted_some e false x new h is = cc

pub declared_after : (old mid new : Walk) (i : IntoTree) (t : code.TypeView) (r : Result (Unit {0}) SourceFault)
    → ((g : Around) → env_of mid g ≡ with_states (env_of old g) (if_state i.state i.name.name)) → found_of t ≡ i.ty
    → IfOk r (λ _. (g : Around) → env_of new g ≡ with_var (env_of mid g) i.name.name (found_of t)) → IfOk r (λ _. (g : Around) → env_of new g ≡ declared (env_of old g) i)
declared_after old mid new i t (Ok u) noted ty h = λ g. h g ∙ ap₂ (λ e k. with_var e i.name.name k) (noted g) ty
declared_after old mid new i t (Err x) noted ty h = h

-- where no rule fails, the name of a new variable is free
pub into_fresh : (s : Setting) (ss : List (List ℕ)) (i : IntoTree) → into_fault s ss i ≡ None → fresh s ss i.state i.name.name ≡ None
into_fresh s ss i h = (lesser_both _ _ (lesser_both _ _ h).1).1

pub declare_fresh : (s : Setting) (ss : List (List ℕ)) (i : IntoTree) (v : Option ExprTree) → declare_fault s ss i v ≡ None → fresh s ss i.state i.name.name ≡ None
declare_fresh s ss i v h = into_fresh s ss i (lesser_both _ _ h).0

pub wait_fresh : (s : Setting) (ss : List (List ℕ)) (w : WaitTree) → wait_fault s ss w ≡ None → maybe_into s ss w.into ≡ None
wait_fresh s ss w h = (lesser_both _ _ h).0

-- an item by what fails in it
pub says_at : (at : Place) (f g : Option SemanticRule) (r : Result (Unit {0}) SourceFault) → f ≡ g → Says (item at f) r → Says (item at g) r
says_at at f g r is h = subst (λ k. Says (item at k) r) is h

-- bodies by their statements
pub leads_at : (e new : Env) (ss ts : List Stmt) (r : Result (Unit {0}) SourceFault) → ts ≡ ss
    → Leads e new (body_refusal e (body_of ts)) (body_slots (body_of ts)) r → Leads e new (body_refusal e (body_of ss)) (body_slots (body_of ss)) r
leads_at e new ss ts r is h = subst (λ l. Leads e new (body_refusal e (body_of l)) (body_slots (body_of l)) r) is h

pub handled_at : (e f new : Env) (ss ts : List Stmt) (r : Result (Unit {0}) SourceFault) → ts ≡ ss
    → Leads e new (body_refusal f (body_of ts)) (body_slots (body_of ts)) r → Leads e new (body_refusal f (body_of ss)) (body_slots (body_of ss)) r
handled_at e f new ss ts r is h = subst (λ l. Leads e new (body_refusal f (body_of l)) (body_slots (body_of l)) r) is h

pub body_at : (e new : Env) (ss ts : List Stmt) (r : Result (Unit {0}) SourceFault) → ts ≡ ss → BodyAnswer e new (body_of ts) r → BodyAnswer e new (body_of ss) r
body_at e new ss ts r is h = subst (λ l. BodyAnswer e new (body_of l) r) is h

pub branches_at : (e new : Env) (ss ts : List When) (r : Result (Unit {0}) SourceFault) → ts ≡ ss
    → Leads e new (branch_refusal e (branches_of ts)) (branch_slots (branches_of ts)) r → Leads e new (branch_refusal e (branches_of ss)) (branch_slots (branches_of ss)) r
branches_at e new ss ts r is h = subst (λ l. Leads e new (branch_refusal e (branches_of l)) (branch_slots (branches_of l)) r) is h

pub else_some : (e new : Env) (o : Option (Vec Stmt Global)) (v : Vec Stmt Global) (ts : List Stmt) (r : Result (Unit {0}) SourceFault) → o ≡ Some v → ts ≡ v.items
    → Leads e new (body_refusal e (body_of ts)) (body_slots (body_of ts)) r → Leads e new (else_refusal e (else_of o)) (else_slots (else_of o)) r
else_some e new o v ts r is at h =
    subst (λ p. Leads e new (else_refusal e (else_of p)) (else_slots (else_of p)) r) (sym is) (leads_at e new v.items ts r at h)

pub part_is : (e new : Env) (o : Option (Box Stmt Global)) (b : Box Stmt Global) (s : Stmt) (r : Result (Unit {0}) SourceFault) → o ≡ Some b → s ≡ b.value
    → StmtAnswer e new (stmt_of s) r → PartAnswer e new (simple_of o) r
part_is e new o b s r is at h =
    subst (λ p. PartAnswer e new (simple_of p) r) (sym is) (part_some e new (stmt_of b.value) r (subst (λ q. StmtAnswer e new (stmt_of q) r) at h))

-- a declaration and a wait, whose variables are then in force
pub declare_last : (old new : Walk) (a : Around) (at : Place) (i : IntoTree) (v : Option ExprTree) (u : Unit {0}) (r : Result (Unit {0}) SourceFault)
    → Says (item at (declare_fault (env_of old a).setting (env_of old a).states i v)) (Ok u) → IfOk r (λ _. (g : Around) → env_of new g ≡ declared (env_of old g) i) → IfErr r (λ x. x ≡ OutOfMemory)
    → StmtAnswer (env_of old a) (env_of new a) (DeclareStmt at i v) r
declare_last old new a at i v u (Ok w) h is mem = declare_ok (env_of old a) (env_of new a) at i v u w h (is a)
declare_last old new a at i v u (Err x) h is mem = memory_stmt (env_of old a) (env_of new a) (DeclareStmt at i v) x mem

pub wait_last : (old new : Walk) (a : Around) (at : Place) (w : WaitTree) (u : Unit {0}) (r : Result (Unit {0}) SourceFault)
    → Says (item at (wait_fault (env_of old a).setting (env_of old a).states w)) (Ok u) → IfOk r (λ _. (g : Around) → env_of new g ≡ waited (env_of old g) w.into) → IfErr r (λ x. x ≡ OutOfMemory)
    → StmtAnswer (env_of old a) (env_of new a) (WaitStmt at w) r
wait_last old new a at w u (Ok v) h is mem = wait_ok (env_of old a) (env_of new a) at w u v h (is a)
wait_last old new a at w u (Err x) h is mem = memory_stmt (env_of old a) (env_of new a) (WaitStmt at w) x mem
