-- What the names at the top of an accepted program mean, its scope has.
use Rattle.std.proofs.Common.{◌≡◌, ℕ, Bool, true, false, not, cond, ◌&&◌, ◌||◌, List, [], ◌∷◌, ◌++◌, map, refl, sym, ap, ap₂, subst, ◌∙◌}
use Rattle.std.specs.Prelude.{if◌then◌else◌}
use Rattle.std.specs.Str.{bytes_eq}
use Rattle.std.specs.Option.{option_map, option_and_then}
use Rattle.std.proofs.lemmas.Bool.{false≢true, true≢false}
use Rattle.std.proofs.lemmas.List.{map-append}
use Rattle.std.specs.declared.option.Option.{Option}
use Rattle.std.specs.declared.option.Option.TheVariants.{None, Some}
use Rattle.flow_tree.specs.Tree.{TypeTree, NamedType, FutureType}
use Rattle.flow_tree.specs.Decls.{ParamTree, RecordTree, RoutineTree, DeclTree, StructDecl, FunctionDecl, ActorDecl}
use Rattle.flow_ast.specs.TypingNames.{named}
use Rattle.flow_ast.specs.Typing.{ScopeTree, takes, or_else, is_there, is_packet, packet_fields, record_named, routine_named, param_named, param_types, function_call, actor_call, declared_field, record_field, field_type, actor_gives}
use Rattle.flow_rules.specs.declared.rule.SemanticRule.TheVariants.{TakenName}
use Rattle.flow_rules.specs.Least.{lesser}
use Rattle.flow_rules.specs.Known.{Meaning, RecordOf, FunctionOf, ActorOf, field_row, row_of, packet_row, known, is_predefined}
use Rattle.flow_rules.specs.Judged.{Setting, field_of, field_form}
use Rattle.flow_rules.specs.Items.{item, written}
use Rattle.flow_rules.specs.Rules.{name_fault, fields_fault, record_fault, params_fault, header_fault, routine_refusal, decl_refusal, decls_refusal}
use Rattle.flow_rules.proofs.Lesser.{no_first, holds, no_item}
use Rattle.flow_meaning.specs.Source.{records_in, functions_in, actors_in}
use Rattle.flow_typing_laws.specs.Typing.Agreeing.{IsDeclared, Agrees}
use Rattle.flow_typing_laws.specs.Typing.Scopes.{scope_in, setting_in}
use Rattle.flow_typing_laws.proofs.Typing.Names.{bytes_same, bytes_self, bytes_sym, some_none}

-- no refusal comes of two parts
pub neither_first : {A : Type 0} (x y : Option A) → or_else x y ≡ None → x ≡ None
neither_first None y e = refl
neither_first (Some a) y e = absurd (some_none e)

pub neither_second : {A : Type 0} (x y : Option A) → or_else x y ≡ None → y ≡ None
neither_second None y e = e
neither_second (Some a) y e = absurd (some_none e)

pub not_true : (b : Bool) → not b ≡ true → b ≡ false
not_true true e = absurd (false≢true e)
not_true false e = refl

pub neither_left : (a b : Bool) → a || b ≡ false → a ≡ false
neither_left true b e = absurd (true≢false e)
neither_left false b e = refl

pub neither_right : (a b : Bool) → a || b ≡ false → b ≡ false
neither_right true b e = absurd (true≢false e)
neither_right false b e = e

abbrev name_of : DeclTree → List ℕ
name_of d = (row_of d).0

-- a declaration that is not refused has a new name
new_name : (before : List DeclTree) (x : List ℕ) → name_fault (known before) x ≡ None → is_there (known before x) ≡ false
new_name before x e =
    let h = not_true (is_predefined x || is_there (known before x)) (holds (not (is_predefined x || is_there (known before x))) TakenName e) in
    neither_right (is_predefined x) (is_there (known before x)) h

routine_new : (before : List DeclTree) (s : Setting) (f : RoutineTree) → routine_refusal (known before) s f ≡ None → is_there (known before f.name.name) ≡ false
routine_new before s f e =
    let h = no_item f.at (header_fault (known before) s f) (neither_first (item f.at (header_fault (known before) s f)) _ e) in
    new_name before f.name.name (no_first (name_fault (known before) f.name.name) (lesser (written s f.returns) (params_fault s (λ x. false) f.params)) h)

new_decl : (all : Bool → Setting) (before : List DeclTree) (d : DeclTree) → decl_refusal all (known before) d ≡ None → is_there (known before (name_of d)) ≡ false
new_decl all before (StructDecl r) e = new_name before r.name.name
    (no_first (name_fault (known before) r.name.name) (fields_fault (known before) (λ x. false) r.fields) (no_item r.at (record_fault (known before) r) e))
new_decl all before (FunctionDecl f) e = routine_new before (all true) f e
new_decl all before (ActorDecl f) e = routine_new before (all false) f e

-- no declaration has this name, and no two have one
abbrev pub Apart : List ℕ → List DeclTree → Type 0
Apart x [] = Unit {0}
Apart x (d ∷ ds) = (bytes_eq x (name_of d) ≡ false) × Apart x ds

abbrev pub Distinct : List DeclTree → Type 0
Distinct [] = Unit {0}
Distinct (d ∷ ds) = Apart (name_of d) ds × Distinct ds

found_more : {A : Type 0} (rows more : List (List ℕ × A)) (x : List ℕ) → is_there (named rows x) ≡ true → is_there (named (rows ++ more) x) ≡ true
found_more [] more x e = absurd (false≢true e)
found_more (r ∷ rows) more x e = go (bytes_eq x r.0) e (found_more rows more x)
  where
    go : (b : Bool) → is_there (if b then Some r.1 else named rows x) ≡ true → (is_there (named rows x) ≡ true → is_there (named (rows ++ more) x) ≡ true)
        → is_there (if b then Some r.1 else named (rows ++ more) x) ≡ true
    go true e f = e
    go false e f = f e

found_last : {A : Type 0} (rows : List (List ℕ × A)) (x : List ℕ) (v : A) → is_there (named (rows ++ (x, v) ∷ []) x) ≡ true
found_last [] x v = ap (λ b. is_there (if b then Some v else None)) (bytes_self x)
found_last (r ∷ rows) x v = go (bytes_eq x r.0) (found_last rows x v)
  where
    go : (b : Bool) → is_there (named (rows ++ (x, v) ∷ []) x) ≡ true → is_there (if b then Some r.1 else named (rows ++ (x, v) ∷ []) x) ≡ true
    go true e = refl
    go false e = e

known_rows : (before : List DeclTree) (d : DeclTree) → packet_row ∷ map row_of (before ++ d ∷ []) ≡ (packet_row ∷ map row_of before) ++ row_of d ∷ []
known_rows before d = ap (λ l. packet_row ∷ l) (map-append row_of before (d ∷ []))

known_more : (before : List DeclTree) (d : DeclTree) (x : List ℕ) → is_there (known before x) ≡ true → is_there (known (before ++ d ∷ []) x) ≡ true
known_more before d x e = subst (λ rows. is_there (named rows x) ≡ true) (sym (known_rows before d)) (found_more (packet_row ∷ map row_of before) (row_of d ∷ []) x e)

known_last : (before : List DeclTree) (d : DeclTree) → is_there (known (before ++ d ∷ []) (name_of d)) ≡ true
known_last before d = subst (λ rows. is_there (named rows (name_of d)) ≡ true) (sym (known_rows before d)) (found_last (packet_row ∷ map row_of before) (name_of d) (row_of d).1)

differ : (x y : List ℕ) (k : List ℕ → Option Meaning) (b : Bool) → bytes_eq x y ≡ b → is_there (k x) ≡ true → is_there (k y) ≡ false → b ≡ false
differ x y k true e t f = absurd (true≢false (sym (ap (λ z. is_there (k z)) (sym (bytes_same x y e)) ∙ t) ∙ f))
differ x y k false e t f = refl

apart_from : (all : Bool → Setting) (before ds : List DeclTree) (x : List ℕ) → decls_refusal all before ds ≡ None → is_there (known before x) ≡ true → Apart x ds
apart_from all before [] x e t = tt
apart_from all before (d ∷ ds) x e t = (
  differ x (name_of d) (known before) (bytes_eq x (name_of d)) refl t (new_decl all before d (neither_first (decl_refusal all (known before) d) _ e)),
  apart_from all (before ++ d ∷ []) ds x (neither_second (decl_refusal all (known before) d) _ e) (known_more before d x t),
)

pub distinct : (all : Bool → Setting) (before ds : List DeclTree) → decls_refusal all before ds ≡ None → Distinct ds
distinct all before [] e = tt
distinct all before (d ∷ ds) e =
    let r = neither_second (decl_refusal all (known before) d) _ e in
    (apart_from all (before ++ d ∷ []) ds (name_of d) r (known_last before d), distinct all (before ++ d ∷ []) ds r)

-- what is found in a scope by a name
record NoneNamed (ds : List DeclTree) (x : List ℕ) : Type 0 where
  no_record : record_named (records_in ds) x ≡ None
  no_function : routine_named (functions_in ds) x ≡ None
  no_actor : routine_named (actors_in ds) x ≡ None

not_here : {A : Type 0} (y x : List ℕ) (a : A) (o : Option A) → bytes_eq x y ≡ false → cond (bytes_eq y x) (Some a) o ≡ o
not_here y x a o e = ap (λ b. cond b (Some a) o) (bytes_sym y x ∙ e)

is_here : {A : Type 0} (y x : List ℕ) (a : A) (o : Option A) → bytes_eq x y ≡ true → cond (bytes_eq y x) (Some a) o ≡ Some a
is_here y x a o e = ap (λ b. cond b (Some a) o) (bytes_sym y x ∙ e)

none_named : (ds : List DeclTree) (x : List ℕ) → Apart x ds → NoneNamed ds x
none_named [] x a = record { no_record = refl; no_function = refl; no_actor = refl }
none_named (StructDecl r ∷ ds) x a = let n = none_named ds x a.1 in record { no_record = not_here r.name.name x r _ a.0 ∙ n.no_record; no_function = n.no_function; no_actor = n.no_actor }
none_named (FunctionDecl f ∷ ds) x a = let n = none_named ds x a.1 in record { no_record = n.no_record; no_function = not_here f.name.name x f _ a.0 ∙ n.no_function; no_actor = n.no_actor }
none_named (ActorDecl f ∷ ds) x a = let n = none_named ds x a.1 in record { no_record = n.no_record; no_function = n.no_function; no_actor = not_here f.name.name x f _ a.0 ∙ n.no_actor }

-- by what a name means
abbrev Found : Option RecordTree → Option RoutineTree → Option RoutineTree → Option Meaning → Type 0
Found r f a None = (r ≡ None) × (f ≡ None) × (a ≡ None)
Found r f a (Some (RecordOf fs)) = (d : RecordTree) × (r ≡ Some d) × (fs ≡ map field_row d.fields)
Found r f a (Some (FunctionOf ts t)) = (d : RoutineTree) × (r ≡ None) × (f ≡ Some d) × (ts ≡ param_types d.params) × (t ≡ d.returns)
Found r f a (Some (ActorOf ts t)) = (d : RoutineTree) × (r ≡ None) × (f ≡ None) × (a ≡ Some d) × (ts ≡ param_types d.params) × (t ≡ d.returns)

abbrev FoundIn : List DeclTree → List ℕ → Option Meaning → Type 0
FoundIn ds x m = Found (record_named (records_in ds) x) (routine_named (functions_in ds) x) (routine_named (actors_in ds) x) m

found_here : (d : DeclTree) (ds : List DeclTree) (x : List ℕ) → bytes_eq x (name_of d) ≡ true → NoneNamed ds x → FoundIn (d ∷ ds) x (Some (row_of d).1)
found_here (StructDecl r) ds x e n = (r, is_here r.name.name x r _ e, refl)
found_here (FunctionDecl f) ds x e n = (f, n.no_record, is_here f.name.name x f _ e, refl, refl)
found_here (ActorDecl f) ds x e n = (f, n.no_record, n.no_function, is_here f.name.name x f _ e, refl, refl)

found_there : (d : DeclTree) (ds : List DeclTree) (x : List ℕ) (m : Option Meaning) → bytes_eq x (name_of d) ≡ false → FoundIn ds x m → FoundIn (d ∷ ds) x m
found_there (StructDecl r) ds x m e f = subst (λ o. Found o (routine_named (functions_in ds) x) (routine_named (actors_in ds) x) m) (sym (not_here r.name.name x r _ e)) f
found_there (FunctionDecl g) ds x m e f = subst (λ o. Found (record_named (records_in ds) x) o (routine_named (actors_in ds) x) m) (sym (not_here g.name.name x g _ e)) f
found_there (ActorDecl g) ds x m e f = subst (λ o. Found (record_named (records_in ds) x) (routine_named (functions_in ds) x) o m) (sym (not_here g.name.name x g _ e)) f

apart_same : (x y : List ℕ) (ds : List DeclTree) → bytes_eq x y ≡ true → Apart y ds → Apart x ds
apart_same x y ds e a = subst (λ z. Apart z ds) (sym (bytes_same x y e)) a

pub found : (ds : List DeclTree) (x : List ℕ) → Distinct ds → FoundIn ds x (named (map row_of ds) x)
found [] x d = (refl, refl, refl)
found (d ∷ ds) x k = go (bytes_eq x (name_of d)) refl (found ds x k.1)
  where
    go : (b : Bool) → bytes_eq x (name_of d) ≡ b → FoundIn ds x (named (map row_of ds) x) → FoundIn (d ∷ ds) x (if b then Some (row_of d).1 else named (map row_of ds) x)
    go true e f = found_here d ds x e (none_named ds x (apart_same x (name_of d) ds e k.0))
    go false e f = found_there d ds x (named (map row_of ds) x) e f

-- fields and parameters
pub rows_named : (ps : List ParamTree) (x : List ℕ) → named (map field_row ps) x ≡ option_map (λ (p : ParamTree). p.ty) (param_named ps x)
rows_named [] x = refl
rows_named (p ∷ ps) x = go (bytes_eq x p.name.name) (bytes_eq p.name.name x) (bytes_sym x p.name.name) (rows_named ps x)
  where
    go : (b d : Bool) → b ≡ d → named (map field_row ps) x ≡ option_map (λ (p : ParamTree). p.ty) (param_named ps x)
        → (if b then Some p.ty else named (map field_row ps) x) ≡ option_map (λ (p : ParamTree). p.ty) (cond d (Some p) (param_named ps x))
    go true true e f = refl
    go false false e f = f
    go true false e f = absurd (true≢false e)
    go false true e f = absurd (false≢true e)

row_types : (ps : List ParamTree) → map (λ (f : List ℕ × TypeTree). f.1) (map field_row ps) ≡ param_types ps
row_types [] = refl
row_types (p ∷ ps) = ap (λ l. p.ty ∷ l) (row_types ps)

module _ (ds : List DeclTree) (vars : List ParamTree) (apart : Distinct ds) where
  abbrev scope : ScopeTree
  scope = scope_in ds vars

  -- a name that isn't that of the predefined record
  declared_as : (x : List ℕ) (m : Option Meaning) → is_packet x ≡ false → FoundIn ds x m → IsDeclared scope x m
  declared_as x None e f = tt
  declared_as x (Some (RecordOf fs)) e f =
      let r = ap (λ b. if b then takes (map (λ (f : List ℕ × TypeTree). f.1) packet_fields) (NamedType x) else option_map
      (λ (r : RecordTree). record { params = param_types r.fields; gives = NamedType x }) (record_named (records_in ds) x)) e
      ∙ ap (option_map (λ (r : RecordTree). record { params = param_types r.fields; gives = NamedType x })) f.1 in
      let t = ap (λ ts. takes ts (NamedType x)) (sym (ap (map (λ (f : List ℕ × TypeTree). f.1)) f.2 ∙ row_types f.0.fields)) in (
        ap (λ o. or_else o (or_else (function_call (functions_in ds) x) (actor_call (actors_in ds) x))) r ∙ t,
        ap (λ o. not (is_there o) && not (is_there (routine_named (functions_in ds) x)) && is_there (routine_named (actors_in ds) x)) r,
      )
  declared_as x (Some (FunctionOf ts t)) e f =
      let r = ap (λ b. if b then takes (map (λ (f : List ℕ × TypeTree). f.1) packet_fields) (NamedType x) else option_map
      (λ (r : RecordTree). record { params = param_types r.fields; gives = NamedType x }) (record_named (records_in ds) x)) e
      ∙ ap (option_map (λ (r : RecordTree). record { params = param_types r.fields; gives = NamedType x })) f.1 in (
        ap (λ o. or_else o (or_else (function_call (functions_in ds) x) (actor_call (actors_in ds) x))) r
            ∙ ap (λ o. or_else (option_map (λ (f : RoutineTree). record { params = param_types f.params; gives = f.returns }) o) (actor_call (actors_in ds) x)) f.2 ∙ ap₂ takes (sym f.3) (sym f.4),
        ap₂ (λ o q. not (is_there o) && not (is_there q) && is_there (routine_named (actors_in ds) x)) r f.2,
        f.0,
        f.2,
        sym f.3,
      )
  declared_as x (Some (ActorOf ts t)) e f =
      let r = ap (λ b. if b then takes (map (λ (f : List ℕ × TypeTree). f.1) packet_fields) (NamedType x) else option_map
      (λ (r : RecordTree). record { params = param_types r.fields; gives = NamedType x }) (record_named (records_in ds) x)) e
      ∙ ap (option_map (λ (r : RecordTree). record { params = param_types r.fields; gives = NamedType x })) f.1 in (
        ap (λ o. or_else o (or_else (function_call (functions_in ds) x) (actor_call (actors_in ds) x))) r
            ∙ ap₂ (λ o q. or_else (option_map (λ (f : RoutineTree). record { params = param_types f.params; gives = f.returns }) o)
            (option_and_then (λ (f : RoutineTree). actor_gives (param_types f.params) f.returns) q)) f.2 f.3
            ∙ ap₂ actor_gives (sym f.4) (sym f.5),
        f.0,
        f.2,
        f.3,
        sym f.5,
        sym f.4,
      )

  packet_as : (x : List ℕ) → is_packet x ≡ true → IsDeclared scope x (Some (RecordOf packet_fields))
  packet_as x e =
      let r = ap (λ b. if b then takes (map (λ (f : List ℕ × TypeTree). f.1) packet_fields) (NamedType x) else option_map
      (λ (r : RecordTree). record { params = param_types r.fields; gives = NamedType x }) (record_named (records_in ds) x)) e in (
        ap (λ o. or_else o (or_else (function_call (functions_in ds) x) (actor_call (actors_in ds) x))) r,
        ap (λ o. not (is_there o) && not (is_there (routine_named (functions_in ds) x)) && is_there (routine_named (actors_in ds) x)) r,
      )

  names_declared : (x : List ℕ) → IsDeclared scope x (known ds x)
  names_declared x = go (is_packet x) refl
    where
      go : (b : Bool) → is_packet x ≡ b → IsDeclared scope x (if b then Some (RecordOf packet_fields) else named (map row_of ds) x)
      go true e = packet_as x e
      go false e = declared_as x (named (map row_of ds) x) e (found ds x apart)

  field_as : (m : Option Meaning) (r x : List ℕ) → FoundIn ds r m → field_of m x ≡ declared_field (record_named (records_in ds) r) x
  field_as None r x f = ap (λ o. declared_field o x) (sym f.0)
  field_as (Some (RecordOf fs)) r x f = ap (λ l. named l x) f.2 ∙ rows_named f.0.fields x ∙ ap (λ o. declared_field o x) (sym f.1)
  field_as (Some (FunctionOf ts t)) r x f = ap (λ o. declared_field o x) (sym f.1)
  field_as (Some (ActorOf ts t)) r x f = ap (λ o. declared_field o x) (sym f.1)

  record_fields : (r x : List ℕ) → field_of (known ds r) x ≡ record_field (records_in ds) r x
  record_fields r x = go (is_packet r)
    where
      go : (b : Bool) → field_of (if b then Some (RecordOf packet_fields) else named (map row_of ds) r) x ≡ (if b then named packet_fields x else declared_field (record_named (records_in ds) r) x)
      go true = refl
      go false = field_as (named (map row_of ds) r) r x (found ds r apart)

  fields_same : (plain : Bool) (t : TypeTree) (x : List ℕ) → field_form (setting_in ds plain vars) t x ≡ field_type (records_in ds) t x
  fields_same plain (NamedType r) x = record_fields r x
  fields_same plain _ x = refl

  pub agrees : (plain : Bool) → Agrees (setting_in ds plain vars) scope
  agrees plain = record { names = names_declared; fields = fields_same plain; vars = rows_named vars }
