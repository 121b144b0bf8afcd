-- The trace of a run, and what is seen at the boundaries of its events where frames are asked for.
use Rattle.std.specs.Prelude.{◌≡◌, ℕ, suc, Bool, true, false, List, [], ◌∷◌, ◌++◌, map}
use Rattle.std.specs.List.{flat_map}
use Rattle.std.specs.declared.option.Option.TheVariants.{None, Some}
use Rattle.flow_base.specs.declared.ids.ProcId.{ProcId}
use Rattle.flow_trace.specs.declared.line.Line.{Line}
use Rattle.flow_trace.specs.declared.line.Line.TheVariants as line
use Rattle.flow_worldfile.specs.Worlds as file
use Rattle.flow_tree.specs.Decls.{ProgramTree}
use Rattle.flow_class.specs.Classes.{RawTree}
use Rattle.flow_meaning.specs.Requests.{Spot}
use Rattle.flow_meaning.specs.Burst.{Live, Burst}
use Rattle.flow_meaning.specs.Class.{classes}
use Rattle.flow_numbered.specs.Numbered.{thing}
use Rattle.flow_meaning.specs.Outside.{Outside, host}
use Rattle.flow_meaning.specs.Process.{Entry, Proc, Engine, Spent}
use Rattle.flow_meaning.specs.Runs.{before, after, lines_of}
use Rattle.flow_meaning.specs.Source.{source}
use Rattle.flow_meaning.specs.Views.{WaitingBranch, spot_at, branches_from, actor_spot, frame_spot}
use Rattle.flow_meaning.specs.World.{Place, World, Begun, next_of, begun_by, ending, at_start}

abbrev pub branch_line : ProcId → WaitingBranch → Line
branch_line p b = line.Callback p (record { 0 = b.actor }) b.branch (record { 0 = b.cell })

module _ {A : Type 0} (e : Engine A) (spot : A → Spot) where
  -- an unfinished actor with the branches at which it waits
  abbrev pub actor_lines : ProcId → (actor : ℕ) → Entry → Spot → List Line
  actor_lines p i x s =
      line.Frame p (record { 0 = i }) (e.label x.class) s.group
      ∷ map (branch_line p) (branches_from i s.first x.operands)

  -- those of a process, by rising number, and those of processes by their numbers
  abbrev pub process_lines : ProcId → Proc A → List Line
  process_lines p x =
      flat_map (λ a. actor_lines p a.0 a.1 (spot_at spot (thing x.actors a.0))) x.core.entries

  abbrev pub places_lines : (first : ℕ) → List (Place A) → List Line
  places_lines n [] = []
  places_lines n (x ∷ xs) = process_lines (record { 0 = n }) x.proc ++ places_lines (suc n) xs

  -- where they are asked for
  abbrev pub seen_if : (with_frames : Bool) → World A → List Line
  seen_if true w = places_lines 0 w.places
  seen_if false w = []

  -- The lines of a run from a world on; after each event, unless it is spent, those of what is seen then.
  pub data Shows (with_frames : Bool) : World A → List Line → Type 0 where
    ends : {w : World A} (last : Line) → ending w.out (next_of w.out) ≡ Some last
        → Shows with_frames w (last ∷ [])
    spent : {w : World A} (b : Begun A) (l : Live Outside A) → ending w.out (next_of w.out) ≡ None
        → begun_by e w (next_of w.out) ≡ Some b → Burst e host (before b) l
        → l.proc.core.halted ≡ Some Spent
        → Shows with_frames w (lines_of b l ++ line.EndSpent ∷ [])
    event : {w : World A} {lines : List Line} (b : Begun A) (l : Live Outside A)
        → ending w.out (next_of w.out) ≡ None → begun_by e w (next_of w.out) ≡ Some b
        → Burst e host (before b) l → l.proc.core.halted ≡ None
        → Shows with_frames (after w b l) lines
        → Shows with_frames w (lines_of b l ++ (seen_if with_frames (after w b l) ++ lines))

  pub record IsShown (with_frames : Bool) (w : file.World) (lines : List Line) : Type 0 where
    pub rest : List Line
    pub shows : Shows with_frames (at_start w) rest
    pub with_head : lines ≡ line.Head ∷ rest

-- What is shown of a program in a world, by its text; and of classes, by their frames.
abbrev pub SourceShown : (with_frames : Bool) → ProgramTree → file.World → List Line → Type 0
SourceShown with_frames p w lines = IsShown (source p) actor_spot with_frames w lines

abbrev pub ClassShown : (with_frames : Bool) → RawTree → file.World → List Line → Type 0
ClassShown with_frames c w lines = IsShown (classes c) frame_spot with_frames w lines
