-- Notes in memory, as plain data.
use Rattle.flow_chart.specs.declared.notes.Note as code
use Rattle.flow_chart.specs.declared.notes.Note.TheVariants as code_note
use Rattle.flow_chart.specs.Drawing.{Note, Event, Mark}

abbrev pub note_of : code.Note → Note
note_of (code_note.Event n t at) = Event n t at
note_of (code_note.Mark tone at text) = Mark tone at text.items
