-- The declarations and programs of the code, seen as plain data.
use Rattle.std.specs.Prelude.{List, map}
use Rattle.flow_tree.specs.declared.decl.Param.{Param}
use Rattle.flow_tree.specs.declared.decl.Slot.{Slot}
use Rattle.flow_tree.specs.declared.decl.RecordDecl.{RecordDecl}
use Rattle.flow_tree.specs.declared.decl.FunctionDecl as function
use Rattle.flow_tree.specs.declared.decl.ActorDecl as actor
use Rattle.flow_tree.specs.declared.decl.Decl.{Decl}
use Rattle.flow_tree.specs.declared.decl.Decl.TheVariants.{Struct, Function, Actor}
use Rattle.flow_tree.specs.declared.decl.Program.{Program}
use Rattle.flow_tree.specs.View.{type_of, result_of}
use Rattle.flow_tree.specs.StmtView.{body_of}
use Rattle.flow_tree.specs.Decls.{ParamTree, SlotTree, RecordTree, RoutineTree, DeclTree, StructDecl, FunctionDecl, ActorDecl, ProgramTree}

abbrev pub param_of : Param → ParamTree
param_of p = record { ty = type_of p.ty; name = p.name }

abbrev pub params_of : List Param → List ParamTree
params_of ps = map param_of ps

abbrev pub slot_of : Slot → SlotTree
slot_of s = record { ty = type_of s.ty; name = s.name }

abbrev pub record_of : RecordDecl → RecordTree
record_of r = record { at = r.at; name = r.name; fields = params_of r.fields.items }

abbrev pub function_of : function.FunctionDecl → RoutineTree
function_of f = record {
  at = f.at;
  returns = type_of f.returns;
  name = f.name;
  params = params_of f.params.items;
  body = body_of f.body.items;
  close = f.close;
}

abbrev pub actor_of : actor.ActorDecl → RoutineTree
actor_of a = record {
  at = a.at;
  returns = result_of a.returns;
  name = a.name;
  params = params_of a.params.items;
  body = body_of a.body.items;
  close = a.close;
}

abbrev pub decl_of : Decl → DeclTree
decl_of (Struct r) = StructDecl (record_of r)
decl_of (Function f) = FunctionDecl (function_of f)
decl_of (Actor a) = ActorDecl (actor_of a)

abbrev pub program_of : Program → ProgramTree
program_of p = record { decls = map decl_of p.decls.items; end = p.end }
