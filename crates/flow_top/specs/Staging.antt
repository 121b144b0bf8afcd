-- A world that begins again for each run, and the lines that a monitor hears of it.
use Rattle.std.specs.Prelude.{◌≡◌, ℕ, List, [], true, false, Result, Ok, Err}
use Rattle.std.specs.declared.option.Option.{Option}
use Rattle.std.specs.declared.option.Option.TheVariants.{None, Some}
use Rattle.flow_base.specs.declared.fault.OutFault.{OutFault}
use Rattle.flow_trace.specs.declared.line.Line.{Line}
use Rattle.flow_monitor.specs.Ears.{Ear, Ears}
use Rattle.flow_shrink.specs.Shrinking.{Hearing, hears, deaf, said, over, after_line, is_stopped}
use Rattle.flow_code.specs.declared.program.Code.{Code}
use Rattle.flow_world.specs.declared.ending.Ending.{Ending}
use Rattle.flow_world.specs.Ending.{Seen}
use Rattle.flow_world.specs.Ends.{end_line}
use Rattle.flow_world.specs.Watching.{hearing, watching}
use Rattle.flow_world.specs.WatchedTraces.{Quietly, EndsItself}
use Rattle.flow_world.specs.Starting.{IsCodeOf}
use Rattle.flow_top.specs.declared.outcome.Meant.{Meant}
use Rattle.flow_top.specs.declared.stage.Progress.{Progress}
use Rattle.flow_top.specs.declared.stage.Progress.TheVariants.{Hears, Deaf, Said, Over}
use Rattle.flow_top.specs.Outcomes.{IsRunBy, IsText}

-- how a monitor stands to a run, by how far that has come
abbrev pub standing : Progress → Ear → Hearing
standing Hears ear = hears ear
standing Deaf ear = deaf
standing Said ear = said
standing (Over stopped) ear = over stopped

-- what a put means to it
abbrev pub HearsLine : Hearing → Line → Result (Unit {0}) OutFault → Hearing → Type 0
HearsLine h l (Ok done) k = k ≡ after_line l h
HearsLine h l (Err fault) k = ⊥

-- What was heard of the events of a world: all of them, to an end of the run by itself; or those up to one that comes after a Stop.
abbrev pub HeardEvents : {A : Type 0} (view : A → Hearing) (puts : A → Line → Result (Unit {0}) OutFault → A → Type 0) → Option Ending
    → Seen → A → A → Type 0
HeardEvents view puts (Some e) w a b =
    (others : Ears) × (stop : Option ℕ) × EndsItself puts false e w (watching a []) (hearing b others stop)
HeardEvents view puts None w a b =
    (v : Seen) × Quietly puts false w (watching a []) v (watching b []) × (is_stopped (view b) ≡ true)

-- What was heard of a world: all lines, to the last; or those up to an event that comes after a Stop.
pub data HeardRun {A : Type 0} (view : A → Hearing) (puts : A → Line → Result (Unit {0}) OutFault → A → Type 0)
    (w : Seen) (a b : A) : Type 0 where
  to_end : (e : Ending) (mid : A) → HeardEvents view puts (Some e) w a mid → puts mid (end_line e) (Ok tt) b → HeardRun view puts w a b
  broken_off : HeardEvents view puts None w a b → HeardRun view puts w a b

-- The classes that begin again are those of a program that passes.
pub record IsReady (meant : Meant) (code : Code) : Type 0 where
  pub text : List ℕ
  pub is_run : IsRunBy text meant code.program
  pub is_text : IsText meant
  pub is_code : IsCodeOf code.program code
