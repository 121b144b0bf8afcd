-- The answer to a command line.
use Rattle.std.specs.Prelude.{ℕ, List}
use Rattle.std.specs.declared.option.Option.{Option}
use Rattle.flow_base.specs.Seen.{FilesSeen, SinkSeen}
use Rattle.flow_monitor.specs.Attaching.{Handed}
use Rattle.flow_words.specs.Asked.{Request}
use Rattle.flow_top.specs.declared.outcome.Outcome.{Outcome}
use Rattle.flow_top.specs.Requests.{request_by, panel_for}
use Rattle.flow_top.specs.Decided.{Decided}
use Rattle.flow_top.specs.Told.{Reported}

-- The answer to what is asked for, over files and a sink, with monitors that are handed in: an outcome was decided, and it was told.
pub record AnswersTo (q : Option Request) (handed : List Handed) (files files' : FilesSeen) (sink sink' : SinkSeen) (status : ℕ)
    : Type 0 where
  pub outcome : Outcome
  pub decided : Decided q files files' outcome
  pub reported : Reported (panel_for q handed) outcome sink sink' status

-- the answer to a command line
abbrev pub Answers : (words : List (List ℕ)) (handed : List Handed) (files files' : FilesSeen) (sink sink' : SinkSeen) (status : ℕ) → Type 0
Answers words handed files files' sink sink' status = AnswersTo (request_by words handed) handed files files' sink sink' status
