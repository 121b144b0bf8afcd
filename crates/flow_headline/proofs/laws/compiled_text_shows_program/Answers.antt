use Rattle.flow_headline.proofs.Reading.{text_shows}
use Rattle.flow_headline.proofs.laws.compiled_text_shows_program.Goals as goal

pub returns : goal.returns
returns c = text_shows (record {
  back = c.written_classes_are_read_back.ensures.compiled;
  whole = c.read_classes_are_written.ensures.whole;
  aside = c.shown_lines_without_places.ensures.classes;
  kept = c.compile_preserves_shown_lines.ensures.kept;
  returned = c.compile_preserves_shown_lines.ensures.returned;
})
