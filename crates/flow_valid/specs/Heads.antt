-- A class as the head of the actor that it is called as; the rules on the records, functions and heads of a program.
use Rattle.std.specs.Prelude.{ℕ, suc, Bool, not, ◌&&◌, ◌||◌, nat_le, is_none, List, [], ◌∷◌, ◌++◌, map, length, take, codes, if◌then◌else◌}
use Rattle.std.specs.List.{list_all}
use Rattle.std.specs.declared.option.Option.{Option}
use Rattle.std.specs.declared.option.Option.TheVariants.{None, Some}
use Rattle.flow_tree.specs.declared.ty.Ident.{Ident}
use Rattle.flow_tree.specs.Canon.{first_place}
use Rattle.flow_tree.specs.Body.{End}
use Rattle.flow_tree.specs.Decls.{ParamTree, SlotTree, DeclTree, StructDecl, FunctionDecl, ActorDecl}
use Rattle.flow_ast.specs.Typing.{or_else, is_there}
use Rattle.flow_rules.specs.Known.{Meaning, known, type_known, is_predefined}
use Rattle.flow_rules.specs.Rules.{setting_of, decls_refusal, first_large, packet_size, is_main}
use Rattle.flow_class.specs.Classes.{ClassTree, RawTree}

abbrev pub ident : List ℕ → Ident
ident x = record { name = x; at = first_place }

-- the first slots are the parameters
abbrev pub slot_param : SlotTree → ParamTree
slot_param s = record { ty = s.ty; name = ident s.name }

abbrev pub head_of : ClassTree → DeclTree
head_of c = ActorDecl (record {
  at = first_place;
  returns = c.returns;
  name = ident c.name;
  params = map slot_param (take c.params c.slots);
  body = End;
  close = first_place;
})

-- the records and functions, and all that has a name at the top
abbrev pub plain_decls : RawTree → List DeclTree
plain_decls r = map StructDecl r.records ++ map FunctionDecl r.functions

abbrev pub all_decls : RawTree → List DeclTree
all_decls r = plain_decls r ++ map head_of r.classes

-- Records and functions keep the rules of a program's records and functions; the name of a class counts in them as that
-- of an actor.
abbrev pub declarations_kept : RawTree → Bool
declarations_kept r =
    is_none (or_else (decls_refusal (setting_of (all_decls r)) [] (plain_decls r))
    (first_large ((codes "Packet", packet_size) ∷ []) (plain_decls r)))

-- The name of a class is not predefined and not that of a declaration before it, it has a slot for each parameter, and
-- the types of its places are known.
abbrev pub head_kept : (before all : List ℕ → Option Meaning) → ClassTree → Bool
head_kept before all c =
    not (is_predefined c.name || is_there (before c.name))
    && nat_le c.params (length c.slots)
    && list_all (λ (s : SlotTree). type_known all s.ty) c.slots
    && list_all (type_known all) c.locals

-- the first of these classes, numbered from i, whose head doesn't stand behind these declarations
abbrev pub first_head : (all : List ℕ → Option Meaning) → List DeclTree → (i : ℕ) → List ClassTree → Option ℕ
first_head all ds i [] = None
first_head all ds i (c ∷ cs) = if head_kept (known ds) all c then first_head all (ds ++ head_of c ∷ []) (suc i) cs else Some i

abbrev pub broken_head : RawTree → Option ℕ
broken_head r = first_head (known (all_decls r)) (plain_decls r) 0 r.classes

abbrev pub has_main : RawTree → Bool
has_main r = is_main (known (all_decls r) (codes "main"))
