-- The first refusal of a program: by the least rule of K1 to K12 at its first item in which one fails,
-- and where none does by L8 at its first record that is too large.
use Rattle.std.specs.Prelude.{ℕ, suc, Bool, true, false, not, ◌||◌, List, [], ◌∷◌, ◌++◌, map, length, codes, nat_lt, ◌+◌, max, if◌then◌else◌}
use Rattle.std.specs.Str.{bytes_eq}
use Rattle.std.specs.declared.option.Option.{Option}
use Rattle.std.specs.declared.option.Option.TheVariants.{None, Some}
use Rattle.flow_tree.specs.declared.fault.Rule.TheVariants.{L}
use Rattle.flow_tree.specs.declared.limits.TheConstants.{NESTING, LEAF_FIELDS}
use Rattle.flow_tree.specs.Tree.{TypeTree, IntType, VoidType, NamedType}
use Rattle.flow_tree.specs.Decls.{ParamTree, RecordTree, RoutineTree, DeclTree, StructDecl, FunctionDecl, ActorDecl, ProgramTree}
use Rattle.flow_ast.specs.TypingNames.{named}
use Rattle.flow_ast.specs.Typing.{or_else, is_there}
use Rattle.flow_rules.specs.declared.rule.SemanticRule.{SemanticRule}
use Rattle.flow_rules.specs.declared.rule.SemanticRule.TheVariants.{UnknownName, TakenName, FallsOff, NoMain}
use Rattle.flow_rules.specs.Least.{lesser, unless}
use Rattle.flow_rules.specs.Known.{Meaning, ActorOf, field_row, known, type_known, holds, is_predefined}
use Rattle.flow_rules.specs.Judged.{Setting, is_void}
use Rattle.flow_rules.specs.Items.{Env, Refusal, item, written, body_refusal}
use Rattle.flow_rules.specs.Closing.{ways}

-- what is in force in a program's routines before their parameters
abbrev pub setting_of : List DeclTree → Bool → Setting
setting_of ds plain = record { known = known ds; holds = holds (known ds) (suc (length ds)); vars = []; plain = plain }

-- a name at the top is not predefined, and not that of a declaration before it
abbrev pub name_fault : (List ℕ → Option Meaning) → List ℕ → Option SemanticRule
name_fault before x = unless (not (is_predefined x || is_there (before x))) TakenName

-- this name is taken too
abbrev pub with_name : List ℕ → (List ℕ → Bool) → List ℕ → Bool
with_name y taken x = bytes_eq x y || taken x

-- the records of a record's fields are declared before it, and no two fields have one name
abbrev pub fields_fault : (List ℕ → Option Meaning) → (List ℕ → Bool) → List ParamTree → Option SemanticRule
fields_fault before taken [] = None
fields_fault before taken (f ∷ fs) =
    lesser (lesser (unless (type_known before f.ty) UnknownName) (unless (not (taken f.name.name)) TakenName))
    (fields_fault before (with_name f.name.name taken) fs)

abbrev pub record_fault : (List ℕ → Option Meaning) → RecordTree → Option SemanticRule
record_fault before r = lesser (name_fault before r.name.name) (fields_fault before (λ x. false) r.fields)

-- a parameter's type is known, and its name that of none before it, not predefined, and none at the top
abbrev pub param_fault : Setting → (List ℕ → Bool) → ParamTree → Option SemanticRule
param_fault s taken p =
    lesser (written s p.ty) (unless (not (taken p.name.name || is_predefined p.name.name || is_there (s.known p.name.name))) TakenName)

abbrev pub params_fault : Setting → (List ℕ → Bool) → List ParamTree → Option SemanticRule
params_fault s taken [] = None
params_fault s taken (p ∷ ps) = lesser (param_fault s taken p) (params_fault s (with_name p.name.name taken) ps)

abbrev pub header_fault : (List ℕ → Option Meaning) → Setting → RoutineTree → Option SemanticRule
header_fault before s f = lesser (name_fault before f.name.name) (lesser (written s f.returns) (params_fault s (λ x. false) f.params))

abbrev pub param_name : ParamTree → List ℕ
param_name p = p.name.name

-- what is in force where a routine's body begins
abbrev pub body_env : Setting → RoutineTree → Env
body_env s f = record {
  setting = record s { vars = map field_row f.params };
  returns = f.returns;
  states = map param_name f.params;
  looped = false;
  caught = false;
}

-- its header, its body, and the closing brace, which the control graph doesn't reach, but for a void actor
abbrev pub routine_refusal : (List ℕ → Option Meaning) → Setting → RoutineTree → Option Refusal
routine_refusal before s f =
    or_else (item f.at (header_fault before s f))
    (or_else (body_refusal (body_env s f) f.body) (item f.close (unless (is_void s f.returns || not (ways f.body).end) FallsOff)))

-- a declaration, in a program in whose functions and in whose actors this is in force
abbrev pub decl_refusal : (Bool → Setting) → (List ℕ → Option Meaning) → DeclTree → Option Refusal
decl_refusal all before (StructDecl r) = item r.at (record_fault before r)
decl_refusal all before (FunctionDecl f) = routine_refusal before (all true) f
decl_refusal all before (ActorDecl f) = routine_refusal before (all false) f

-- the declarations of a program, from those on that stand behind these
abbrev pub decls_refusal : (Bool → Setting) → List DeclTree → List DeclTree → Option Refusal
decls_refusal all before [] = None
decls_refusal all before (d ∷ ds) = or_else (decl_refusal all (known before) d) (decls_refusal all (before ++ d ∷ []) ds)

-- what `main` is: an actor with one int and the result `Void`
abbrev pub one_int : List TypeTree → Bool
one_int (IntType ∷ []) = true
one_int _ = false

abbrev pub is_main : Option Meaning → Bool
is_main (Some (ActorOf ts VoidType)) = one_int ts
is_main _ = false

-- how deep records lie inside one another in a type, and how many fields that are no records it has
pub record Size : Type 0 where
  pub nesting : ℕ
  pub leaves : ℕ

abbrev pub leaf : Size
leaf = record { nesting = 0; leaves = 1 }

abbrev pub packet_size : Size
packet_size = record { nesting = 1; leaves = 3 }

abbrev pub or_leaf : Option Size → Size
or_leaf None = leaf
or_leaf (Some n) = n

-- the sizes of records by their names
abbrev pub type_size : List (List ℕ × Size) → TypeTree → Size
type_size ns (NamedType x) = or_leaf (named ns x)
type_size ns _ = leaf

abbrev pub beside : Size → Size → Size
beside m n = record { nesting = max m.nesting n.nesting; leaves = m.leaves + n.leaves }

abbrev pub fields_size : List (List ℕ × Size) → List ParamTree → Size
fields_size ns [] = record { nesting = 0; leaves = 0 }
fields_size ns (f ∷ fs) = beside (type_size ns f.ty) (fields_size ns fs)

abbrev pub record_size : List (List ℕ × Size) → RecordTree → Size
record_size ns r = let inner = fields_size ns r.fields in record { nesting = suc inner.nesting; leaves = inner.leaves }

abbrev pub too_large : Size → Bool
too_large n = nat_lt NESTING n.nesting || nat_lt LEAF_FIELDS n.leaves

abbrev pub large_record : Bool → RecordTree → Option Refusal
large_record true r = Some (L 8, r.at)
large_record false r = None

-- of several records with one name the first has its size
abbrev pub with_size : List (List ℕ × Size) → RecordTree → List (List ℕ × Size)
with_size ns r = if is_there (named ns r.name.name) then ns else ns ++ (r.name.name, record_size ns r) ∷ []

-- the first record that is too large, where each is made of those before it
abbrev pub first_large : List (List ℕ × Size) → List DeclTree → Option Refusal
first_large ns [] = None
first_large ns (StructDecl r ∷ ds) = or_else (large_record (too_large (record_size ns r)) r) (first_large (with_size ns r) ds)
first_large ns (FunctionDecl f ∷ ds) = first_large ns ds
first_large ns (ActorDecl f ∷ ds) = first_large ns ds

-- the first refusal of a program by K1 to K12 and L8
abbrev pub refusal_of : ProgramTree → Option Refusal
refusal_of p =
    or_else (decls_refusal (setting_of p.decls) [] p.decls)
    (or_else (item p.end (unless (is_main (known p.decls (codes "main"))) NoMain))
    (first_large ((codes "Packet", packet_size) ∷ []) p.decls))
