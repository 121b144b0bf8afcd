-- Parts and trees that several proofs name.
use Rattle.std.specs.Prelude.{◌≡◌, ℕ, false, List}
use Rattle.flow_tree.specs.declared.ty.Ident.{Ident}
use Rattle.flow_tree.specs.declared.decl.RoutineKind.{RoutineKind}
use Rattle.flow_tree.specs.Tree.{TypeTree}
use Rattle.flow_tree.specs.Body.{Body}
use Rattle.flow_tree.specs.GrammarToken.{Marked}
use Rattle.flow_tree.specs.Grammar.{TypeRule}
use Rattle.flow_tree.specs.GrammarStmt.{Counts}
use Rattle.flow_parse.specs.Reading.{Named, Then}
use Rattle.flow_parse.specs.Parts.{Out, BodyPart}

abbrev pub closed : Body → Counts → Out
closed b c = record { body = b; counts = c; ends_if = false }

abbrev pub with : Body → Out → Out
with b o = record { body = b; counts = o.counts; ends_if = o.ends_if }

abbrev pub ClosedBody : RoutineKind → ℕ → Counts → List Marked → Out → Type 0
ClosedBody home d c w o = BodyPart home d c w o × (o.ends_if ≡ false)

abbrev pub TypeName : List Marked → TypeTree × Ident → Type 0
TypeName w x = Then (TypeRule 1) (λ y. Named) w x
