-- The classes of a program that the front accepts carry its actors.
use Rattle.std.proofs.Common.{◌≡◌, ℕ, suc, ◌+◌, ◌^◌, ◌<◌, ◌≤◌, Bool, false, List, [], ◌∷◌, ◌++◌, length, map, refl, ap, sym, ◌∙◌, arith, length-append}
use Rattle.std.specs.List.{AllByRecursion}
use Rattle.std.proofs.lemmas.List.{append-nil}
use Rattle.std.specs.declared.option.Option.{Option}
use Rattle.std.specs.declared.option.Option.TheVariants.{None}
use Rattle.flow_base.specs.declared.place.Place.{Place}
use Rattle.flow_tree.specs.declared.limits.TheConstants.{TOKENS}
use Rattle.flow_tree.specs.declared.token.Sign.TheVariants as sign
use Rattle.flow_tree.specs.declared.decl.Program.{Program}
use Rattle.flow_tree.specs.declared.decl.RoutineKind.{RoutineKind}
use Rattle.flow_tree.specs.Tree.{TypeTree}
use Rattle.flow_tree.specs.Decls.{ParamTree, RoutineTree, DeclTree, StructDecl, FunctionDecl, ActorDecl, ProgramTree}
use Rattle.flow_tree.specs.DeclView.{program_of}
use Rattle.flow_tree.specs.GrammarToken.{Declaration, Node, Variable, Marked, begin, spots_of}
use Rattle.flow_tree.specs.Grammar.{sign_at, name_at}
use Rattle.flow_tree.specs.GrammarDecl.{ParamRule, param, MoreParamsRule, end_params, more_params, ParamsRule, no_params, some_params, RoutineRule, routine, actor, void_actor, DeclRule, record_decl, function_decl, actor_decl, DeclsRule, no_decls, more_decls, ProgramRule, program}
use Rattle.flow_ast.specs.Slots.{param_slot, body_slots, slots_of}
use Rattle.flow_meaning.specs.Evaluating.{Names}
use Rattle.flow_meaning.specs.Source.{names_of, actors_in}
use Rattle.flow_meaning.specs.Shape.{AreClassesOf}
use Rattle.flow_meaning.specs.Carries.{AllCarried}
use Rattle.flow_rules.specs.Known.{Meaning, known}
use Rattle.flow_rules.specs.Judged.{Setting}
use Rattle.flow_rules.specs.Items.{slot_names, item, body_refusal}
use Rattle.flow_rules.specs.Rules.{setting_of, header_fault, param_name, body_env, routine_refusal, decl_refusal, decls_refusal}
use Rattle.flow_lower.specs.Compiled.{class_in}
use Rattle.flow_front.specs.Verdict.{IsTyped}
use Rattle.flow_lowering_laws.specs.Actors.Parts.{HasParts}
use Rattle.flow_lowering_laws.specs.Actors.InPlace.{InPlace}
use Rattle.flow_lowering_laws.specs.Actors.Laws.{IsSmall}
use Rattle.flow_lowering_laws.proofs.Actors.Further.{locals_count}
use Rattle.flow_lowering_laws.proofs.Actors.Shapes.{keeps_shape}
use Rattle.flow_lowering_laws.proofs.Actors.Whole.{keeps_text}
use Rattle.flow_lowering_laws.specs.Programs.{HasFewPlaces, IsFaithful}
use Rattle.flow_lowering_laws.proofs.Programs.Grammar.{begun, variables, slots_count, stmts_make, stmts_parts}
use Rattle.flow_lowering_laws.proofs.Programs.Rules.{neither, in_place}

-- something holds of each actor
abbrev pub EachActor : (RoutineTree → Type 0) → List DeclTree → Type 0
EachActor P [] = Unit {0}
EachActor P (StructDecl r ∷ ds) = EachActor P ds
EachActor P (FunctionDecl f ∷ ds) = EachActor P ds
EachActor P (ActorDecl a ∷ ds) = P a × EachActor P ds

-- what the grammar says of an actor in so many tokens
pub record Formed (tokens : ℕ) (a : RoutineTree) : Type 0 where
  pub parts : HasParts a.body
  pub few : length a.params + variables a.body ≤ tokens

formed_more : (m n : ℕ) (ds : List DeclTree) → m ≤ n → EachActor (Formed m) ds → EachActor (Formed n) ds
formed_more m n [] le h = tt
formed_more m n (StructDecl r ∷ ds) le h = formed_more m n ds le h
formed_more m n (FunctionDecl f ∷ ds) le h = formed_more m n ds le h
formed_more m n (ActorDecl a ∷ ds) le h = (record { parts = h.0.parts; few = omega (arith, h.0.few) }, formed_more m n ds le h.1)

one_param : {n : ℕ} {all : List Marked} {p : ParamTree} → ParamRule n all p → 1 ≤ length all
one_param {n = n} (param x of t eq) = omega (arith, ap length eq, begun (Variable n) (of ++ name_at x ∷ []), length-append of (name_at x ∷ []))

params_after : {n : ℕ} {all : List Marked} {ps : List ParamTree} → MoreParamsRule n all ps → length ps ≤ length all
params_after end_params = omega arith
params_after (more_params p xs more f r eq) = omega (arith, one_param f, params_after r, ap length eq, length-append xs more)

params_few : {all : List Marked} {ps : List ParamTree} → ParamsRule all ps → length ps ≤ length all
params_few no_params = omega arith
params_few (some_params first more f r eq) = omega (arith, one_param f, params_after r, ap length eq, length-append first more)

routine_formed : {home : RoutineKind} {at : Place} {t : TypeTree} {all : List Marked} {a : RoutineTree} → RoutineRule home at t all a → Formed (length all) a
routine_formed (routine p q r close x params xs ps b eq) =
    let m = stmts_make b in
    record {
      parts = stmts_parts b;
      few = omega (
        arith,
        m,
        params_few ps,
        ap length eq,
        length-append params (sign_at sign.CloseRound q ∷ sign_at sign.OpenCurly r ∷ (xs ++ sign_at sign.CloseCurly close ∷ [])),
        length-append xs (sign_at sign.CloseCurly close ∷ []),
      );
    }

decl_formed : {all : List Marked} {d : DeclTree} → DeclRule all d → EachActor (Formed (length all)) (d ∷ [])
decl_formed (record_decl r) = tt
decl_formed (function_decl f) = tt
decl_formed (actor_decl (actor at p q r of xs t f eq)) =
    let m = routine_formed f in
    (record { parts = m.parts; few = omega (arith, m.few, ap length eq, length-append of (sign_at sign.Greater r ∷ xs)) }, tt)
decl_formed (actor_decl (void_actor at p xs f eq)) = let m = routine_formed f in (record { parts = m.parts; few = omega (arith, m.few, ap length eq) }, tt)

with_first : (P : RoutineTree → Type 0) (d : DeclTree) (ds : List DeclTree) → EachActor P (d ∷ []) → EachActor P ds → EachActor P (d ∷ ds)
with_first P (StructDecl r) ds h k = k
with_first P (FunctionDecl f) ds h k = k
with_first P (ActorDecl a) ds h k = (h.0, k)

pub decls_formed : {n : ℕ} {all : List Marked} {ds : List DeclTree} → DeclsRule n all ds → EachActor (Formed (length all)) ds
decls_formed no_decls = tt
decls_formed {n = n} {all = all} (more_decls {x = x} {xs = xs} first more d r eq) =
    let e = ap length eq in
    let sum = length-append (begin (Declaration n) (begin (Node 1) first)) more in
    let b = begun (Declaration n) (begin (Node 1) first) ∙ begun (Node 1) first in
    with_first (Formed (length all)) x xs
    (formed_more (length first) (length all) (x ∷ []) (omega (arith, e, sum, b)) (decl_formed d))
    (formed_more (length more) (length all) xs (omega (arith, e, sum)) (decls_formed r))

pub program_decls : (end : Place) (m : List Marked) (p : ProgramTree) → ProgramRule end m p → DeclsRule 1 m p.decls
program_decls end m p (program d) = d

pub as_many : (xs : List Marked) → length (spots_of xs) ≡ length xs
as_many [] = refl
as_many (x ∷ xs) = ap suc (as_many xs)

-- what the rules say of an actor
param_names : (ps : List ParamTree) → slot_names (map param_slot ps) ≡ map param_name ps
param_names [] = refl
param_names (p ∷ ps) = ap (λ l. p.name.name ∷ l) (param_names ps)

abbrev pub Placed : RoutineTree → Type 0
Placed a = InPlace (slots_of a) false false [] a.body

routine_placed : (before : List ℕ → Option Meaning) (s : Setting) (a : RoutineTree) → HasParts a.body → routine_refusal before s a ≡ None → Placed a
routine_placed before s a parts h =
    let b = neither (body_refusal (body_env s a) a.body) _ (neither (item a.at (header_fault before s a)) _ h).1 in
    in_place (slots_of a) a.body (body_env s a) false false [] (map param_slot a.params) [] parts b.0 refl refl
    (record { known = λ x e. tt; names = param_names a.params; slots = ap (λ l. map param_slot a.params ++ l) (sym (append-nil (body_slots a.body))) })

pub decls_placed : (all : Bool → Setting) (before ds : List DeclTree) (n : ℕ) → EachActor (Formed n) ds → decls_refusal all before ds ≡ None → EachActor Placed ds
decls_placed all before [] n f h = tt
decls_placed all before (StructDecl r ∷ ds) n f h = decls_placed all (before ++ StructDecl r ∷ []) ds n f (neither (decl_refusal all (known before) (StructDecl r)) _ h).1
decls_placed all before (FunctionDecl g ∷ ds) n f h = decls_placed all (before ++ FunctionDecl g ∷ []) ds n f (neither (decl_refusal all (known before) (FunctionDecl g)) _ h).1
decls_placed all before (ActorDecl a ∷ ds) n f h =
    let b = neither (decl_refusal all (known before) (ActorDecl a)) _ h in
    (routine_placed (known before) (all false) a f.0.parts b.0, decls_placed all (before ++ ActorDecl a ∷ []) ds n f.1 b.1)

-- the classes
pub small : (n : ℕ) (a : RoutineTree) → n < 2 ^ 64 → Formed n a → IsSmall a
small n a lt f = record {
  slots = omega (arith, f.few, lt, length-append (map param_slot a.params) (body_slots a.body), length-map a.params, slots_count a.body);
  locals = omega (arith, f.few, lt, locals_count a.body);
}
  where
    length-map : (ps : List ParamTree) → length (map param_slot ps) ≡ length ps
    length-map [] = refl
    length-map (p ∷ ps) = ap suc (length-map ps)

all_shaped : (ns : Names) (n : ℕ) (ds : List DeclTree) → EachActor (Formed n) ds → AreClassesOf (actors_in ds) (map (class_in ns) (actors_in ds))
all_shaped ns n [] f = tt
all_shaped ns n (StructDecl r ∷ ds) f = all_shaped ns n ds f
all_shaped ns n (FunctionDecl g ∷ ds) f = all_shaped ns n ds f
all_shaped ns n (ActorDecl a ∷ ds) f = (keeps_shape ns a f.0.parts, all_shaped ns n ds f.1)

all_carried : (ns : Names) (n : ℕ) (ds : List DeclTree) → n < 2 ^ 64 → EachActor (Formed n) ds → EachActor Placed ds → AllCarried ns (actors_in ds) (map (class_in ns) (actors_in ds))
all_carried ns n [] lt f p = tt
all_carried ns n (StructDecl r ∷ ds) lt f p = all_carried ns n ds lt f p
all_carried ns n (FunctionDecl g ∷ ds) lt f p = all_carried ns n ds lt f p
all_carried ns n (ActorDecl a ∷ ds) lt f p = (keeps_text ns a (small n a lt f.0) f.0.parts p.0, all_carried ns n ds lt f.1 p.1)

all_few : (ns : Names) (n : ℕ) (ds : List DeclTree) → n < 2 ^ 64 → EachActor (Formed n) ds → AllByRecursion HasFewPlaces (map (class_in ns) (actors_in ds))
all_few ns n [] lt f = tt
all_few ns n (StructDecl r ∷ ds) lt f = all_few ns n ds lt f
all_few ns n (FunctionDecl g ∷ ds) lt f = all_few ns n ds lt f
all_few ns n (ActorDecl a ∷ ds) lt f = let m = small n a lt f.0 in (record { slots = m.slots; locals = m.locals }, all_few ns n ds lt f.1)

pub compiles_faithfully : (text : List ℕ) (p : Program) → IsTyped text p → IsFaithful p
compiles_faithfully text p h =
    let t = program_of p in
    let d = h.read.parsed.1 in
    let decls = program_decls _ d.marked t d.rule in
    let formed = decls_formed decls in
    let tokens = sym (as_many d.marked) ∙ ap length d.is in
    let few : length d.marked < 2 ^ 64 = few_tokens (length d.marked) _ tokens h.read.parsed.0 in
    let placed = decls_placed (setting_of t.decls) [] t.decls (length d.marked) formed (neither (decls_refusal (setting_of t.decls) [] t.decls) _ h.accepted).0 in
    record {
      shape = record { records = refl; functions = refl; classes = all_shaped (names_of t) (length d.marked) t.decls formed };
      carries = all_carried (names_of t) (length d.marked) t.decls few formed placed;
      few = all_few (names_of t) (length d.marked) t.decls few formed;
    }
  where
    few_tokens : (m n : ℕ) → m ≡ n → n ≤ TOKENS → m < 2 ^ 64
    few_tokens m n e le = omega (arith, e, le)
