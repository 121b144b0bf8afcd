-- What the code finds, seen as plain data.
use Rattle.std.specs.Prelude.{ℕ, List, [], ◌∷◌, map, codes}
use Rattle.std.specs.Option.{option_map}
use Rattle.flow_tree.specs.Tree.{TypeTree, IntType, BoolType, StringType, VoidType, ErrorType, NamedType, FutureType, FutureStreamType, PromiseType, PromiseStreamType, VectorType, NothingType}
use Rattle.flow_tree.specs.View.{type_of, result_of}
use Rattle.flow_tree.specs.DeclView.{params_of}
use Rattle.flow_tree.specs.Decls.{ParamTree}
use Rattle.flow_ast.specs.Typing.{param_types}
use Rattle.flow_types.specs.declared.type_view.TypeView as code
use Rattle.flow_types.specs.declared.type_view.TypeView.TheVariants as found
use Rattle.flow_types.specs.declared.type_view.ElementView as inners
use Rattle.flow_types.specs.declared.type_view.ElementView.TheVariants as inner
use Rattle.flow_types.specs.declared.callee.Meaning as meant
use Rattle.flow_types.specs.declared.callee.Meaning.TheVariants as meaning
use Rattle.flow_types.specs.declared.callee.Basic.{Basic}
use Rattle.flow_types.specs.declared.callee.Basic.TheVariants as basic
use Rattle.flow_types.specs.declared.callee.Need as needed
use Rattle.flow_types.specs.declared.callee.Need.TheVariants as need
use Rattle.flow_types.specs.declared.callee.Needs.{Needs}
use Rattle.flow_types.specs.declared.callee.Needs.TheVariants as needs
use Rattle.flow_types.specs.declared.callee.Kind as kinds
use Rattle.flow_types.specs.declared.callee.Kind.TheVariants as kind
use Rattle.flow_types.specs.declared.callee.Callee as callees
use Rattle.flow_rules.specs.Known.{Meaning, RecordOf, FunctionOf, ActorOf, field_row}
use Rattle.flow_rules.specs.Judged.{Need, Exactly, Traced, Kind, Value, OfFunction, Clock, Effect, Statement, Callee}

abbrev pub inner_of : inners.ElementView → TypeTree
inner_of (inner.Written t) = type_of t.now
inner_of inner.Void = VoidType
inner_of inner.Int = IntType
inner_of inner.Text = StringType
inner_of inner.Packet = NamedType (codes "Packet")

abbrev pub found_of : code.TypeView → TypeTree
found_of found.Int = IntType
found_of found.Bool = BoolType
found_of found.Str = StringType
found_of found.Void = VoidType
found_of found.Error = ErrorType
found_of (found.Named n) = NamedType n.now
found_of (found.Future t) = FutureType (inner_of t)
found_of (found.FutureStream t) = FutureStreamType (inner_of t)
found_of (found.Promise t) = PromiseType (type_of t.now)
found_of (found.PromiseStream t) = PromiseStreamType (type_of t.now)
found_of (found.Vector t) = VectorType (type_of t.now)
found_of found.Nothing = NothingType

abbrev pub meaning_of : meant.Meaning → Meaning
meaning_of (meaning.Record ps) = RecordOf (map field_row (params_of ps.now))
meaning_of (meaning.Function ps t) = FunctionOf (param_types (params_of ps.now)) (type_of t.now)
meaning_of (meaning.Actor ps t) = ActorOf (param_types (params_of ps.now)) (result_of t.now)

abbrev pub basic_need : Basic → Need
basic_need basic.Int = Exactly IntType
basic_need basic.Text = Exactly StringType
basic_need basic.Error = Exactly ErrorType
basic_need basic.Traced = Traced

abbrev pub need_of : needed.Need → Need
need_of (need.Exactly t) = Exactly (found_of t)
need_of need.Traced = Traced

abbrev pub needs_view : Needs → List Need
needs_view (needs.Params ps) = map Exactly (param_types (params_of ps.now))
needs_view (needs.Fixed bs) = map basic_need bs.now
needs_view (needs.One t) = Exactly (type_of t.now) ∷ []

abbrev pub kind_of : kinds.Kind → Kind
kind_of kind.Value = Value
kind_of kind.Function = OfFunction
kind_of kind.Clock = Clock
kind_of kind.Effect = Effect
kind_of kind.Statement = Statement

abbrev pub callee_of : callees.Callee → Callee
callee_of c = record { needs = needs_view c.needs; gives = option_map found_of c.gives; kind = kind_of c.kind }
