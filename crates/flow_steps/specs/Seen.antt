-- What an actor sees while it evaluates.
use Rattle.std.specs.Prelude.{ℕ}
use Rattle.std.specs.Option.{option_map, option_and_then}
use Rattle.std.specs.declared.option.Option.{Option}
use Rattle.std.specs.declared.option.Option.TheVariants.{None, Some}
use Rattle.flow_value.specs.declared.value.Value.{Value}
use Rattle.flow_value.specs.declared.value.Outcome.{Outcome}
use Rattle.flow_value.specs.Values.{ValueTree, OutcomeTree}
use Rattle.flow_value.specs.View.{value_of, outcome_of}
use Rattle.flow_numbered.specs.Numbered.{Store, thing}
use Rattle.flow_cell.specs.Cells.{CellTree}
use Rattle.flow_frame.specs.Frames.{FrameTree, held_in}
use Rattle.flow_steps.specs.declared.seen.Contents.{Contents}

-- what a variable of an actor holds
abbrev pub value_in : Store (FrameTree Value) → (actor : ℕ) → Option ℕ → Option ValueTree
value_in frames i place = option_and_then (λ n. option_map value_of (held_in n (thing frames.things i))) place

-- what a single result holds
abbrev pub content_of : Option (CellTree Outcome) → Option OutcomeTree
content_of None = None
content_of (Some c) = option_map outcome_of c.content

abbrev pub content_in : Store (CellTree Outcome) → ℕ → Option OutcomeTree
content_in cells k = content_of (thing cells.things k)

abbrev pub contents_seen : Contents → ℕ → Option OutcomeTree
contents_seen v k = content_in v.cells.now k
