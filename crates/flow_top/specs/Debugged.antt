-- What the state of a program after so many events comes to.
use Rattle.std.specs.Prelude.{◌≡◌, ℕ, List, slice_get}
use Rattle.std.specs.List.{flat_map}
use Rattle.flow_base.specs.declared.place.Place.{Place}
use Rattle.flow_class.specs.View.{raw_of}
use Rattle.flow_world.specs.Ending.{Seen}
use Rattle.flow_world.specs.Views.{actors_at}
use Rattle.flow_debug.specs.ViewText.{actor_lines}
use Rattle.flow_tree.specs.DeclView.{program_of}
use Rattle.flow_worldfile.specs.Worlds.{World, seen}
use Rattle.flow_debug.specs.declared.waits.WaitPlaces.{WaitPlaces}
use Rattle.flow_debug.specs.Waits.{waits_seen}
use Rattle.flow_debug.specs.Told.{places_of_waits, actors_told}
use Rattle.flow_view_laws.specs.Skipped.{IsView}
use Rattle.flow_words.specs.Asked.{Request, debug}
use Rattle.flow_top.specs.declared.outcome.Meant.{Meant}
use Rattle.flow_top.specs.declared.outcome.Meant.TheVariants.{Text, Classes}
use Rattle.flow_top.specs.declared.outcome.ProgramRun.{ProgramRun}

abbrev pub IsViewBy : Meant → World → (most : ℕ) (text : List ℕ) (status : ℕ) → Type 0
IsViewBy (Text p) w most text status = IsView (program_of p.value) w most text status
IsViewBy Classes w most text status = ⊥

-- of the program that is run
abbrev pub IsViewOf : ProgramRun → (most : ℕ) (text : List ℕ) (status : ℕ) → Type 0
IsViewOf r most text status = IsViewBy r.meant (seen r.world) most text status

-- where the waits of a program stand
abbrev pub WaitsOf : Meant → WaitPlaces → Type 0
WaitsOf (Text p) waits = waits_seen waits ≡ places_of_waits (program_of p.value).decls
WaitsOf Classes waits = ⊥

-- they are known where the program's state is asked for
abbrev pub WaitsFor : Request → Meant → WaitPlaces → Type 0
WaitsFor (debug program world most) meant waits = WaitsOf meant waits
WaitsFor _ meant waits = Unit {0}

-- the lines of the unfinished actors of a process of a world in memory
abbrev pub process_text : List (List Place) → Seen → (process : ℕ) → List ℕ
process_text waits v p = flat_map actor_lines (actors_told waits (raw_of v.code.program).classes p (actors_at (slice_get v.places p)))
