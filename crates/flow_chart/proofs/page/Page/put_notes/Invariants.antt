use Rattle.std.proofs.Common.{◌≡◌, ◌++◌, drop}
use Rattle.flow_chart.proofs.Gathered.{notes_bytes}
use Rattle.flow_chart.proofs.page.Page.put_notes.Given as goal

abbrev pub invariant-loop-note : goal.invariant-loop-note
invariant-loop-note l = l.self ++ notes_bytes (drop l.note-index l.notes) ≡ l.initial.self ++ notes_bytes l.notes
