-- What the grammar derives of declarations: records and functions can be written, and of an actor its name, its types and its body can be
-- said.
use Rattle.std.proofs.Common.{ℕ, Bool, true, false, List, [], ◌∷◌, map, if◌then◌else◌, subst, arith}
use Rattle.std.specs.List.{AllByRecursion}
use Rattle.std.specs.declared.option.Option.{Option}
use Rattle.std.specs.declared.option.Option.TheVariants.{None, Some}
use Rattle.flow_base.specs.declared.place.Place.{Place}
use Rattle.flow_tree.specs.declared.token.Token.TheVariants as token
use Rattle.flow_tree.specs.declared.token.Word.TheVariants as word
use Rattle.flow_tree.specs.declared.decl.RoutineKind.{RoutineKind}
use Rattle.flow_tree.specs.Tree.{TypeTree, ErrorType}
use Rattle.flow_tree.specs.Body.{IntoTree, WaitTree, Body, DeclareStmt, WaitStmt}
use Rattle.flow_tree.specs.Decls.{ParamTree, SlotTree, RoutineTree, DeclTree, StructDecl, FunctionDecl, ActorDecl}
use Rattle.flow_tree.specs.GrammarToken.{Declaration, Node, Variable, Marked, begin}
use Rattle.flow_tree.specs.Grammar.{error_type}
use Rattle.flow_tree.specs.GrammarDecl.{ParamRule, param, MoreParamsRule, end_params, more_params, ParamsRule, no_params, some_params, RoutineRule, routine, actor, void_actor, DeclRule, record_decl, function_decl, actor_decl, DeclsRule, no_decls, more_decls}
use Rattle.flow_tree.specs.declared.ty.Ident.{Ident}
use Rattle.flow_tree.specs.Folds.{Fold, folded, listing, no_items}
use Rattle.flow_tree.proofs.Folds.{folds_agree}
use Rattle.flow_ast.specs.Slots.{param_slot, declared_slots, into_slots, waited_slots, stmt_slots, body_slots, slots_of}
use Rattle.flow_layout.specs.Locals.{declared_locals, into_locals, waited_locals, stmt_locals, body_locals}
use Rattle.flow_meaning.specs.Source.{records_in, functions_in}
use Rattle.flow_classprint.specs.declared.version.Version.TheVariants.{Two}
use Rattle.flow_classprint.specs.ClassGrammar.{IsSpelled, result, no_result, HeadRecordRule, record_rule, HeadFunctionRule, function_rule}
use Rattle.flow_class_text_laws.proofs.Writable.{Derived, TypeWritable, ResultWritable, SlotWritable}
use Rattle.flow_class_text_laws.proofs.Spelled.{word_spelled}
use Rattle.flow_class_text_laws.proofs.Written.{p}
use Rattle.flow_class_text_laws.proofs.Paths.{retyped}
use Rattle.flow_class_text_laws.proofs.Lexed.{Fine, fine_front, fine_back, fine_are, unbegun}
use Rattle.flow_class_text_laws.proofs.Bodies.{IntoSaid, TakenSaid, WaitSaid, StmtSaid, BodySaid, stmts}
use Rattle.flow_class_text_laws.proofs.Chunks.{all_more}

-- the slots and locals of a body
abbrev pub SlotsSaid : List SlotTree → Type 0
SlotsSaid ss = AllByRecursion SlotWritable ss

abbrev pub TypesSaid : List TypeTree → Type 0
TypesSaid ts = AllByRecursion TypeWritable ts

declared_said : (i : IntoTree) → IntoSaid i → SlotsSaid (declared_slots i)
declared_said i h = by_state i.state
  where
    by_state : (b : Bool) → SlotsSaid (if b then record { ty = i.ty; name = i.name.name } ∷ [] else [])
    by_state true = (h, tt)
    by_state false = tt

taken_said : (o : Option IntoTree) → TakenSaid o → SlotsSaid (into_slots o)
taken_said None h = tt
taken_said (Some i) h = declared_said i h

-- a fold that says nothing
abbrev nothing_said : Fold (Unit {0})
nothing_said = record { nothing = tt; both = λ u v. tt; of_stmt = λ s u. tt; of_catch = λ x u. tt; of_wait = λ t u. tt }

-- lists that statements give, of which each item can be said where the statements can
module _ {A : Type 0} (P : A → Type 0) (c : Ident → List A) (w : WaitTree → List A) (f : Body → List A) where
  pub listed_said : ((s : Body) → StmtSaid s → AllByRecursion P (f s)) → ((x : Ident) → AllByRecursion P (c x)) → ((t : WaitTree) → WaitSaid t → AllByRecursion P (w t))
      → (b : Body) → BodySaid b → AllByRecursion P (folded (listing f c w) b)
  listed_said said caught waited b h = folds_agree (λ xs (u : Unit {0}). AllByRecursion P xs) StmtSaid (listing f c w) nothing_said (record {
    nothing = tt;
    both = λ xs ys u v k l. all_more P xs ys k l;
    of_stmt = λ s xs u k l. all_more P (f s) xs (said s k) l;
    of_catch = λ x xs u l. all_more P (c x) xs (caught x) l;
    of_wait = λ at t k xs u q l. all_more P (w t) xs (waited t q) l;
  }) b h

stmt_slots_said : (s : Body) → StmtSaid s → SlotsSaid (stmt_slots s)
stmt_slots_said (DeclareStmt at i e k) h = declared_said i h.0
stmt_slots_said (WaitStmt at w k) h = taken_said w.into h.0
stmt_slots_said _ h = tt

slots_said : (b : Body) → BodySaid b → SlotsSaid (body_slots b)
slots_said b h = listed_said SlotWritable no_items waited_slots stmt_slots stmt_slots_said (λ x. tt) (λ t k. taken_said t.into k.0) b h

local_said : (i : IntoTree) → IntoSaid i → TypesSaid (declared_locals i)
local_said i h = by_state i.state
  where
    by_state : (b : Bool) → TypesSaid (if b then [] else i.ty ∷ [])
    by_state true = tt
    by_state false = (h.0, tt)

into_said : (o : Option IntoTree) → TakenSaid o → TypesSaid (into_locals o)
into_said None h = tt
into_said (Some i) h = local_said i h

errors_said : TypesSaid (ErrorType ∷ [])
errors_said = (record { tokens = _; rule = error_type p; are = ((word_spelled word.Error, ((λ j. omega arith), tt)), tt) }, tt)

stmt_locals_said : (s : Body) → StmtSaid s → TypesSaid (stmt_locals s)
stmt_locals_said (DeclareStmt at i e k) h = local_said i h.0
stmt_locals_said (WaitStmt at w k) h = into_said w.into h.0
stmt_locals_said _ h = tt

pub locals_said : (b : Body) → BodySaid b → TypesSaid (body_locals b)
locals_said b h = listed_said TypeWritable (λ x. ErrorType ∷ []) waited_locals stmt_locals stmt_locals_said (λ x. errors_said) (λ t k. into_said t.into k.0) b h

-- declarations
pub record ActorSaid (a : RoutineTree) : Type 0 where
  pub name : IsSpelled (token.Name a.name.name)
  pub returns : ResultWritable a.returns
  pub slots : SlotsSaid (slots_of a)
  pub body : BodySaid a.body

abbrev pub DeclSaid : DeclTree → Type 0
DeclSaid (StructDecl r) = Derived (λ ts. HeadRecordRule ts r)
DeclSaid (FunctionDecl f) = Derived (λ ts. HeadFunctionRule Two ts f)
DeclSaid (ActorDecl a) = ActorSaid a

one_param : {n : ℕ} {all : List Marked} {q : ParamTree} → ParamRule n all q → Fine all → SlotWritable (param_slot q)
one_param {n = n} (param x of t eq) h =
    let u = unbegun (Variable n) _ (subst Fine eq h) in
    (retyped 1 (omega arith) t (fine_are of (fine_front of _ u)), (fine_back of _ u).0.0)

params_after : {n : ℕ} {all : List Marked} {qs : List ParamTree} → MoreParamsRule n all qs → Fine all → SlotsSaid (map param_slot qs)
params_after end_params h = tt
params_after (more_params at xs more q qs eq) h =
    let t = subst Fine eq h in
    (one_param q (fine_front xs _ t.1), params_after qs (fine_back xs _ t.1))

params_said : {all : List Marked} {qs : List ParamTree} → ParamsRule all qs → Fine all → SlotsSaid (map param_slot qs)
params_said no_params h = tt
params_said (some_params first more q qs eq) h =
    let t = subst Fine eq h in
    (one_param q (fine_front first _ t), params_after qs (fine_back first _ t))

-- a type is a result
given : {t : TypeTree} → TypeWritable t → ResultWritable t
given h = record { tokens = h.tokens; rule = result h.rule; are = h.are }

actor_said : {home : RoutineKind} {at : Place} {t : TypeTree} {all : List Marked} {a : RoutineTree} → RoutineRule home at t all a → Fine all → ResultWritable t → ActorSaid a
actor_said (routine {ps = ps} {body = body} q r s close x params xs qs b eq) h t =
    let u = subst Fine eq h in
    let v = (fine_back params _ u.1.1).1.1 in
    let said = stmts b (omega arith) (fine_front xs _ v) in
    record {
      name = u.0.0;
      returns = t;
      slots = all_more SlotWritable (map param_slot ps) (body_slots body) (params_said qs (fine_front params _ u.1.1)) (slots_said body said);
      body = said;
    }

decl_said : {all : List Marked} {d : DeclTree} → DeclRule all d → Fine (begin (Node 1) all) → DeclSaid d
decl_said {all = all} (record_decl r) h = record { tokens = begin (Node 1) all; rule = record_rule all r; are = fine_are (begin (Node 1) all) h }
decl_said {all = all} (function_decl f) h = record { tokens = begin (Node 1) all; rule = function_rule all f; are = fine_are (begin (Node 1) all) h }
decl_said {all = all} (actor_decl (actor at q r s of xs t f eq)) h =
    let u = subst Fine eq (unbegun (Node 1) all h) in
    actor_said f (fine_back of _ u.1.1.1).1 (given (retyped 1 (omega arith) t (fine_are of (fine_front of _ u.1.1.1))))
decl_said {all = all} (actor_decl (void_actor at q xs f eq)) h =
    let u = subst Fine eq (unbegun (Node 1) all h) in
    actor_said f u.1.1 (record { tokens = _; rule = no_result p; are = ((word_spelled word.NoResult, tt), tt) })

abbrev pub DeclsSaid : List DeclTree → Type 0
DeclsSaid ds = AllByRecursion DeclSaid ds

pub decls_said : {n : ℕ} {all : List Marked} {ds : List DeclTree} → DeclsRule n all ds → Fine all → DeclsSaid ds
decls_said no_decls h = tt
decls_said {n = n} (more_decls first more d ds eq) h =
    let t = subst Fine eq h in (
      decl_said d (unbegun (Declaration n) (begin (Node 1) first) (fine_front (begin (Declaration n) (begin (Node 1) first)) more t)),
      decls_said ds
          (fine_back (begin (Declaration n) (begin (Node 1) first)) more t),
    )

pub records_written : (ds : List DeclTree) → DeclsSaid ds → AllByRecursion (λ r. Derived (λ ts. HeadRecordRule ts r)) (records_in ds)
records_written [] h = tt
records_written (StructDecl r ∷ ds) h = (h.0, records_written ds h.1)
records_written (FunctionDecl f ∷ ds) h = records_written ds h.1
records_written (ActorDecl a ∷ ds) h = records_written ds h.1

pub functions_written : (ds : List DeclTree) → DeclsSaid ds → AllByRecursion (λ f. Derived (λ ts. HeadFunctionRule Two ts f)) (functions_in ds)
functions_written [] h = tt
functions_written (StructDecl r ∷ ds) h = functions_written ds h.1
functions_written (FunctionDecl f ∷ ds) h = (h.0, functions_written ds h.1)
functions_written (ActorDecl a ∷ ds) h = functions_written ds h.1
