-- What the readers give, seen as plain data.
use Rattle.std.specs.Prelude.{◌≡◌, ℕ, List}
use Rattle.flow_tree.specs.declared.stmt.Stmt.{Stmt}
use Rattle.flow_tree.specs.declared.decl.RoutineKind.{RoutineKind}
use Rattle.flow_tree.specs.Body.{IntoTree, WaitTree, Body, End, Branches}
use Rattle.flow_tree.specs.StmtView.{into_of, waiting_of, stmt_of, body_of, branches_of, simple_of}
use Rattle.flow_tree.specs.GrammarStmt.{Counts}
use Rattle.flow_tree.specs.GrammarToken.{Marked}
use Rattle.flow_parse.specs.declared.simple.Counts as code
use Rattle.flow_parse.specs.declared.simple.Around.{Around}
use Rattle.flow_parse.specs.declared.simple.ReadInto.{ReadInto}
use Rattle.flow_parse.specs.declared.simple.ReadStmt.{ReadStmt}
use Rattle.flow_parse.specs.declared.simple.ReadWaiting.{ReadWaiting}
use Rattle.flow_parse.specs.declared.stmt.ReadBody.{ReadBody}
use Rattle.flow_parse.specs.declared.stmt.ReadBlock.{ReadBlock}
use Rattle.flow_parse.specs.declared.stmt.ReadWhen.{ReadWhen}
use Rattle.flow_parse.specs.declared.stmt.ReadWhens.{ReadWhens}
use Rattle.flow_parse.specs.declared.stmt.ReadPart.{ReadPart}
use Rattle.flow_parse.specs.declared.decl.ReadRoutine.{ReadRoutine}
use Rattle.flow_tree.specs.DeclView.{params_of}
use Rattle.flow_parse.specs.Parts.{RoutineOut, Out, BlockOut, WhenOut, put_before}

abbrev pub counts_of : code.Counts → Counts
counts_of c = record { statements = c.statements; variables = c.variables }

-- a part of a routine that stands there
abbrev pub Within : {A : Type 0} → (RoutineKind → ℕ → Counts → List Marked → A → Type 0) → Around → List Marked → A → Type 0
Within P z = P z.routine z.depth (counts_of z.counts)

abbrev pub into_out : ReadInto → IntoTree × Counts
into_out r = (into_of r.into, counts_of r.counts)

abbrev pub stmt_out : ReadStmt → Out
stmt_out r = record { body = stmt_of r.stmt End; counts = counts_of r.counts; ends_if = r.ends_if }

abbrev pub waiting_out : ReadWaiting → WaitTree × Counts
waiting_out r = (waiting_of r.waiting, counts_of r.counts)

abbrev pub body_out : ReadBody → Out
body_out r = record { body = body_of r.body.items; counts = counts_of r.counts; ends_if = r.ends_if }

abbrev pub block_out : ReadBlock → BlockOut
block_out r = record { body = body_of r.body.items; counts = counts_of r.counts; close = r.close }

abbrev pub when_out : ReadWhen → WhenOut
when_out r = record { at = r.at; waiting = waiting_of r.waiting; body = body_of r.body.items; counts = counts_of r.counts }

abbrev pub whens_out : ReadWhens → Branches × Counts
whens_out r = (branches_of r.branches.items, counts_of r.counts)

abbrev pub part_out : ReadPart → Body × Counts
part_out r = (simple_of r.part, counts_of r.counts)

abbrev pub routine_out : ReadRoutine → RoutineOut
routine_out r = record { name = r.name; params = params_of r.params.items; body = body_of r.body.items; close = r.close }

-- the statement puts the same before any others
abbrev pub Stands : Stmt → Type 0
Stands s = (rest : Body) → stmt_of s rest ≡ put_before (stmt_of s End) rest
