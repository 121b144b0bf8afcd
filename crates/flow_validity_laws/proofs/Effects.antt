-- A call has an effect where the rules say that it is one.
use Rattle.std.proofs.Common.{◌≡◌, ℕ, ◌+◌, Bool, true, false, ◌||◌, cond, List, [], ◌∷◌, ◌++◌, map, position, if◌then◌else◌, refl, ap, sym, ◌∙◌}
use Rattle.std.specs.Str.{bytes_eq}
use Rattle.std.specs.Option.{option_map}
use Rattle.std.specs.List.{list_any, position_from}
use Rattle.std.proofs.lemmas.Iterator.Adapters.{position_from-zero}
use Rattle.std.specs.declared.option.Option.{Option}
use Rattle.std.specs.declared.option.Option.TheVariants.{None, Some}
use Rattle.flow_tree.specs.Decls.{RoutineTree, DeclTree, StructDecl, FunctionDecl, ActorDecl, ProgramTree}
use Rattle.flow_tree.specs.Tree.{TypeTree, NothingType}
use Rattle.flow_ast.specs.declared.predefined.Predefined.{Predefined}
use Rattle.flow_ast.specs.declared.predefined.Predefined.TheVariants.{ToString}
use Rattle.flow_ast.specs.TypingNames.{named, call_names}
use Rattle.flow_ast.specs.Typing.{is_there, is_packet, is_effect, signature}
use Rattle.flow_rules.specs.Known.{Meaning, RecordOf, FunctionOf, ActorOf, row_of, packet_row, known}
use Rattle.flow_rules.specs.Judged.{Setting, declared_callee, predefined_callee, called_as, called, actor_callee}
use Rattle.flow_rules.specs.Items.{item, body_refusal}
use Rattle.flow_rules.specs.Rules.{setting_of, header_fault, body_env, decl_refusal, decls_refusal}
use Rattle.flow_rules.proofs.Lesser.{no_item}
use Rattle.flow_meaning.specs.Evaluating.{world_if, effectful_of, effectful}
use Rattle.flow_meaning.specs.Source.{actors_in, routine_name, names_of}
use Rattle.flow_valid.specs.Validity.{calls_effect}
use Rattle.flow_typing_laws.proofs.Typing.Names.{bytes_same, bytes_sym}
use Rattle.flow_typing_laws.proofs.Typing.Agreement.{neither_first, neither_second, Apart, Distinct}
use Rattle.flow_lowering_laws.proofs.Programs.Whole.{EachActor}
use Rattle.flow_validity_laws.proofs.Sorting.{rows}
use Rattle.flow_validity_laws.proofs.Declaring.{Accepted, header_new, no_packet}
use Rattle.flow_validity_laws.proofs.Agreeing.{is_said, EffectsAgree}

-- what the rules say of an actor
pub record IsJudged (s : Setting) (a : RoutineTree) : Type 0 where
  pub before : List ℕ → Option Meaning
  pub header : header_fault before s a ≡ None
  pub body : body_refusal (body_env s a) a.body ≡ None

pub actors_judged : (all : Bool → Setting) (before ds : List DeclTree) → decls_refusal all before ds ≡ None → EachActor (IsJudged (all false)) ds
actors_judged all before [] h = tt
actors_judged all before (StructDecl r ∷ ds) h = actors_judged all (before ++ StructDecl r ∷ []) ds (neither_second (decl_refusal all (known before) (StructDecl r)) _ h)
actors_judged all before (FunctionDecl f ∷ ds) h = actors_judged all (before ++ FunctionDecl f ∷ []) ds (neither_second (decl_refusal all (known before) (FunctionDecl f)) _ h)
actors_judged all before (ActorDecl a ∷ ds) h =
    let d = decl_refusal all (known before) (ActorDecl a) in
    let here = neither_first d _ h in
    let head = item a.at (header_fault (known before) (all false) a) in (
      record {
        before = known before;
        header = no_item a.at (header_fault (known before) (all false) a) (neither_first head _ here);
        body = neither_first (body_refusal (body_env (all false) a) a.body) _ (neither_second head _ here);
      },
      actors_judged all (before ++ ActorDecl a ∷ []) ds (neither_second d _ h),
    )

-- a name among names
any_there : (t : List ℕ → Bool) (i : ℕ) (xs : List (List ℕ)) → is_there (position_from t i xs) ≡ list_any t xs
any_there t i [] = refl
any_there t i (x ∷ xs) = by_test (t x) (any_there t (i + 1) xs)
  where
    by_test : (b : Bool) → is_there (position_from t (i + 1) xs) ≡ list_any t xs → is_there (cond b (Some i) (position_from t (i + 1) xs)) ≡ (b || list_any t xs)
    by_test true h = refl
    by_test false h = h

position_there : (t : List ℕ → Bool) (xs : List (List ℕ)) → is_there (position t xs) ≡ list_any t xs
position_there t xs = ap (λ (o : Option ℕ). is_there o) (position_from-zero t xs) ∙ any_there t 0 xs

abbrev actor_names : List DeclTree → List (List ℕ)
actor_names ds = map routine_name (actors_in ds)

-- an actor by its meaning
abbrev is_actor : Option Meaning → Bool
is_actor (Some (ActorOf ts t)) = true
is_actor _ = false

not_among : (ds : List DeclTree) (x : List ℕ) → Apart x ds → list_any (bytes_eq x) (actor_names ds) ≡ false
not_among [] x a = refl
not_among (StructDecl r ∷ ds) x a = not_among ds x a.1
not_among (FunctionDecl r ∷ ds) x a = not_among ds x a.1
not_among (ActorDecl r ∷ ds) x a = ap (λ b. b || list_any (bytes_eq x) (actor_names ds)) a.0 ∙ not_among ds x a.1

apart_as : (x y : List ℕ) (ds : List DeclTree) → bytes_eq x y ≡ true → Apart y ds → list_any (bytes_eq x) (actor_names ds) ≡ false
apart_as x y ds e a = ap (λ z. list_any (bytes_eq z) (actor_names ds)) (bytes_same x y e) ∙ not_among ds y a

actor_at : (ds : List DeclTree) (x : List ℕ) → Distinct ds → list_any (bytes_eq x) (actor_names ds) ≡ is_actor (named (rows ds) x)
actor_at [] x d = refl
actor_at (StructDecl r ∷ ds) x d = by_name (bytes_eq x r.name.name) refl (actor_at ds x d.1)
  where
    by_name : (b : Bool) → bytes_eq x r.name.name ≡ b → list_any (bytes_eq x) (actor_names ds) ≡ is_actor (named (rows ds) x)
        → list_any (bytes_eq x) (actor_names ds) ≡ is_actor (if b then Some (row_of (StructDecl r)).1 else named (rows ds) x)
    by_name true e h = apart_as x r.name.name ds e d.0
    by_name false e h = h
actor_at (FunctionDecl r ∷ ds) x d = by_name (bytes_eq x r.name.name) refl (actor_at ds x d.1)
  where
    by_name : (b : Bool) → bytes_eq x r.name.name ≡ b → list_any (bytes_eq x) (actor_names ds) ≡ is_actor (named (rows ds) x)
        → list_any (bytes_eq x) (actor_names ds) ≡ is_actor (if b then Some (row_of (FunctionDecl r)).1 else named (rows ds) x)
    by_name true e h = apart_as x r.name.name ds e d.0
    by_name false e h = h
actor_at (ActorDecl r ∷ ds) x d = by_name (bytes_eq x r.name.name) (actor_at ds x d.1)
  where
    by_name : (b : Bool) → list_any (bytes_eq x) (actor_names ds) ≡ is_actor (named (rows ds) x)
        → (b || list_any (bytes_eq x) (actor_names ds)) ≡ is_actor (if b then Some (row_of (ActorDecl r)).1 else named (rows ds) x)
    by_name true h = refl
    by_name false h = h

-- no actor has the name of the predefined record
no_packet_among : (s : Setting) (ds : List DeclTree) (x : List ℕ) → EachActor (IsJudged s) ds → is_packet x ≡ true → list_any (bytes_eq x) (actor_names ds) ≡ false
no_packet_among s [] x j e = refl
no_packet_among s (StructDecl r ∷ ds) x j e = no_packet_among s ds x j e
no_packet_among s (FunctionDecl r ∷ ds) x j e = no_packet_among s ds x j e
no_packet_among s (ActorDecl a ∷ ds) x j e =
    let n = no_packet a.name.name (header_new j.0.before s a j.0.header) in
    let other : bytes_eq x a.name.name ≡ false = ap (λ z. bytes_eq z a.name.name) (bytes_same x packet_row.0 e) ∙ bytes_sym packet_row.0 a.name.name ∙ n in
    ap (λ b. b || list_any (bytes_eq x) (actor_names ds)) other ∙ no_packet_among s ds x j.1 e

known_actor : (s : Setting) (ds : List DeclTree) (x : List ℕ) → EachActor (IsJudged s) ds → Distinct ds → list_any (bytes_eq x) (actor_names ds) ≡ is_actor (known ds x)
known_actor s ds x j d = by_name (bytes_eq x packet_row.0) refl
  where
    by_name : (b : Bool) → bytes_eq x packet_row.0 ≡ b → list_any (bytes_eq x) (actor_names ds) ≡ is_actor (if b then Some packet_row.1 else named (rows ds) x)
    by_name true e = no_packet_among s ds x j e
    by_name false e = actor_at ds x d

actor_effect : (ts : List TypeTree) (t : TypeTree) → is_said (Some (actor_callee ts t)) ≡ false → calls_effect (Some (actor_callee ts t)) ≡ true
actor_effect ts NothingType h = absurd cc
actor_effect ts t h = refl

declared_effect : (f : List ℕ) (m : Option Meaning) → is_said (option_map (declared_callee f) m) ≡ false → calls_effect (option_map (declared_callee f) m) ≡ is_actor m
declared_effect f None h = refl
declared_effect f (Some (RecordOf fs)) h = refl
declared_effect f (Some (FunctionOf ts t)) h = refl
declared_effect f (Some (ActorOf ts t)) h = actor_effect ts t h

predefined_effect : (p : Predefined) → is_there (world_if (is_effect p) p) ≡ calls_effect (Some (predefined_callee p (signature p)))
predefined_effect ToString = refl
predefined_effect _ = refl

actor_there : (k : Option ℕ) → is_there (effectful_of None k) ≡ is_there k
actor_there None = refl
actor_there (Some k) = refl

pub effects_agree : (p : ProgramTree) → Accepted p → EffectsAgree (setting_of p.decls false) (names_of p)
effects_agree p h f = by_call (named call_names f)
  where
    by_call : (o : Option Predefined) → is_said (called_as (setting_of p.decls false) f o) ≡ false → is_there (effectful_of o (position (bytes_eq f) (actor_names p.decls))) ≡ calls_effect (called_as (setting_of p.decls false) f o)
    by_call (Some q) n = predefined_effect q
    by_call None n =
        actor_there (position (bytes_eq f) (actor_names p.decls)) ∙ position_there (bytes_eq f) (actor_names p.decls)
        ∙ known_actor (setting_of p.decls false) p.decls f (actors_judged (setting_of p.decls) [] p.decls h.decls) h.apart ∙ sym (declared_effect f (known p.decls f) n)
