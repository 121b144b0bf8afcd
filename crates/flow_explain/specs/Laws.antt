-- What holds of traces in words: each line is read back, but for what its words leave out.
use Rattle.std.specs.Prelude.{◌≡◌, ℕ, ◌<◌, ◌^◌, List}
use Rattle.std.specs.List.{AllByRecursion}
use Rattle.std.specs.declared.option.Option.{Option}
use Rattle.std.specs.declared.option.Option.TheVariants.{Some}
use Rattle.flow_base.specs.Names.{IsName}
use Rattle.flow_base.specs.declared.ids.CellId.{CellId}
use Rattle.flow_base.specs.declared.place.Place.{Place}
use Rattle.flow_trace.specs.Bytes.{IsLine}
use Rattle.flow_trace.specs.declared.line.Line.{Line}
use Rattle.flow_trace.specs.declared.line.Line.TheVariants.{Timer, Read, Write, Sync, Size, Wait, Take}
use Rattle.flow_explain.specs.Texts.{ActorText}
use Rattle.flow_explain.specs.Living.{Telling}
use Rattle.flow_explain.specs.Phrases.{actor_text, wait_of, wait_place, branch_place, spot}
use Rattle.flow_explain.specs.Words.{line_in_words}

-- a line, but for the cell of a timer or of an answer of a disk, which its words leave out
abbrev pub no_cell : CellId
no_cell = record { 0 = 0 }

abbrev pub without_cell : Line → Line
without_cell (Timer n t p c) = Timer n t p no_cell
without_cell (Read n t p c x) = Read n t p no_cell x
without_cell (Write n t p c ok) = Write n t p no_cell ok
without_cell (Sync n t p c ok) = Sync n t p no_cell ok
without_cell (Size n t p c x) = Size n t p no_cell x
without_cell l = l

-- a place of a text
pub record IsPlace (at : Place) : Type 0 where
  pub line : at.line < 2 ^ 32
  pub column : at.column < 2 ^ 32

-- a place that is there
abbrev pub IsKnown : Option Place → Type 0
IsKnown place = (at : Place) × (place ≡ Some at) × IsPlace at

-- where a line tells a place in the text, that is known
abbrev pub IsPlaced : List ActorText → Telling → Line → Type 0
IsPlaced texts s (Wait a group) = IsKnown (wait_place (wait_of (actor_text texts s a.0) group))
IsPlaced texts s (Take a group branch) = IsKnown (branch_place (wait_of (actor_text texts s a.0) group) branch)
IsPlaced texts s _ = Unit {0}

-- an actor of a program: it has a name, and no two of its waits stand at one place, nor go two branches on at one
pub record IsActorText (t : ActorText) : Type 0 where
  pub name : IsName t.name
  pub waits : (g h : ℕ) (p q : Place) → wait_place (wait_of (Some t) g) ≡ Some p → wait_place (wait_of (Some t) h) ≡ Some q
      → spot (Some p) ≡ spot (Some q) → g ≡ h
  pub branches : (g h b c : ℕ) (p q : Place) → branch_place (wait_of (Some t) g) b ≡ Some p
      → branch_place (wait_of (Some t) h) c ≡ Some q → spot (Some p) ≡ spot (Some q) → (g ≡ h) × (b ≡ c)

-- From a line in words, from what lines told before it, and from the actors of the program the line is read back, but for such a
-- cell. So no two lines have the same words, but for that.
abbrev pub ReadsBack : List ActorText → Telling → Type 0
ReadsBack texts s =
    (read : List ℕ → Option Line)
    × ((l : Line) → IsLine l → IsPlaced texts s l → read (line_in_words texts s l) ≡ Some (without_cell l))

abbrev pub ReadBack : Type 0
ReadBack = (texts : List ActorText) (s : Telling) → AllByRecursion IsActorText texts → ReadsBack texts s
