-- What is due by a request is one.
use Rattle.std.specs.Prelude.{◌≡◌, ◌≢◌, ℕ, List}
use Rattle.std.specs.declared.option.Option.{Option}
use Rattle.flow_base.specs.Seen.{Content, Untold}
use Rattle.flow_tree.specs.DeclView.{program_of}
use Rattle.flow_class.specs.View.{raw_of}
use Rattle.flow_worldfile.specs.Worlds.{seen}
use Rattle.flow_words.specs.Asked.{Request}
use Rattle.flow_top.specs.declared.outcome.Outcome.{Outcome}
use Rattle.flow_top.specs.declared.outcome.Outcome.TheVariants.{Answered, Run, Bench, Shrink, Debug}
use Rattle.flow_top.specs.declared.outcome.ProgramRun.{ProgramRun}
use Rattle.flow_top.specs.declared.outcome.Meant.{Meant}
use Rattle.flow_top.specs.declared.outcome.Meant.TheVariants.{Text, Classes}
use Rattle.flow_top.specs.Sources.{FileText, AreTexts}
use Rattle.flow_top.specs.Outcomes.{text_of, status_of}
use Rattle.flow_top.specs.Due.{Due}

-- of each name it is told that there is no such file, or the bytes of the file
abbrev pub TellsAll : (List ℕ → Content) → Type 0
TellsAll content = (name : List ℕ) → content name ≢ Untold

-- both mean one program, places and all, or both mean the classes themselves
abbrev pub SameMeant : Meant → Meant → Type 0
SameMeant (Text p) (Text q) = program_of p.value ≡ program_of q.value
SameMeant Classes Classes = Unit {0}
SameMeant _ _ = ⊥

-- Two runs mean the same, by the same classes, in one world, and both with frames or both without.
pub record SameRun (r s : ProgramRun) : Type 0 where
  pub meant : SameMeant r.meant s.meant
  pub classes : raw_of r.classes ≡ raw_of s.classes
  pub world : seen r.world ≡ seen s.world
  pub frames : r.frames ≡ s.frames

-- Two outcomes are the same run, or no runs, with one text and one status.
abbrev pub SameOutcome : Outcome → Outcome → Type 0
SameOutcome (Answered a) (Answered b) = (text_of a ≡ text_of b) × (status_of a ≡ status_of b)
SameOutcome (Run r) (Run s) = SameRun r s
SameOutcome (Shrink r) (Shrink s) = SameRun r s
SameOutcome (Debug a) (Debug b) = SameRun a.run b.run × (a.most ≡ b.most)
SameOutcome (Bench a) (Bench b) = SameRun a.run b.run × (a.clients ≡ b.clients) × (a.seed ≡ b.seed)
SameOutcome _ _ = ⊥

-- Over files that tell, what is due by a request is one outcome, by the same files in the same order, with the same texts.
abbrev pub OneAnswer : Type 0
OneAnswer = (asked : Option Request) (content : List ℕ → Content) (o p : Outcome) (fs gs : List FileText) → TellsAll content
    → Due asked o fs → AreTexts content fs → Due asked p gs → AreTexts content gs → (fs ≡ gs) × SameOutcome o p
