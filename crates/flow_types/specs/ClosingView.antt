-- How the code sees that a body is left.
use Rattle.flow_types.specs.declared.closing.Ways as code
use Rattle.flow_rules.specs.Closing.{Ways}

abbrev pub ways_view : code.Ways → Ways
ways_view w = record { end = w.end; breaks = w.breaks }
