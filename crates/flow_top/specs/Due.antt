-- What is due by a request and by the texts that it is about.
use Rattle.std.specs.Prelude.{◌≡◌, ◌≢◌, ℕ, List, [], ◌++◌, Ok, Err}
use Rattle.std.specs.declared.option.Option.{Option}
use Rattle.std.specs.declared.option.Option.TheVariants.{None, Some}
use Rattle.flow_base.specs.declared.place.Place.{Place}
use Rattle.flow_tree.specs.declared.decl.Program.{Program}
use Rattle.flow_tree.specs.declared.fault.SourceFault.TheVariants as source
use Rattle.flow_tree.specs.declared.fault.Rule.{Rule}
use Rattle.flow_tree.specs.DeclView.{program_of}
use Rattle.flow_worldfile.specs.declared.world.WorldFault.{WorldFault}
use Rattle.flow_worldfile.specs.declared.world.WorldFault.TheVariants as world
use Rattle.flow_worldfile.specs.Reading as reading
use Rattle.flow_class.specs.declared.class.RawClasses.{RawClasses}
use Rattle.flow_class.specs.View.{raw_of}
use Rattle.flow_classread.specs.declared.fault.ClassFault.{ClassFault}
use Rattle.flow_classread.specs.declared.fault.ClassFault.TheVariants as class
use Rattle.flow_classread.specs.ClassAnswer.{ClassAnswer}
use Rattle.flow_staterule.specs.declared.rule.Lost.{Lost}
use Rattle.flow_front.specs.Verdict.{IsUnread, IsRefused, IsProgram, IsSound, IsLost}
use Rattle.flow_lower.specs.Weighing.{first_heavy}
use Rattle.flow_lower.specs.Compiled.{Has}
use Rattle.flow_words.specs.Asked.{Request, format, check, compile, exec, upgrade}
use Rattle.flow_top.specs.declared.outcome.Outcome.{Outcome}
use Rattle.flow_top.specs.declared.outcome.Outcome.TheVariants.{Answered}
use Rattle.flow_top.specs.declared.outcome.ProgramRun.{ProgramRun}
use Rattle.flow_top.specs.declared.outcome.Meant.{Meant}
use Rattle.flow_top.specs.declared.outcome.Answered as told
use Rattle.flow_top.specs.declared.outcome.Answered.TheVariants.{Usage, Refused, NoClasses, NoWorld, Passed, Printed, Formatted}
use Rattle.flow_top.specs.Requests.{tells_frames}
use Rattle.flow_top.specs.Sources.{Source, first_source, world_source, FileText, read_for, IsOf}
use Rattle.flow_top.specs.Outcomes.{heavy_outcome, IsPassing, IsRunBy, IsMeantBy, run_for}

-- Why a program text is refused that all rules judge.
pub data IsRefusedBy (text : List ℕ) : told.Answered → Type 0 where
  by_rule : (rule : Rule) (at : Place) → IsRefused text rule at → IsRefusedBy text (Refused (source.Refused rule at))
  lost_local : (p : Program) (l : Lost) → IsLost text p l → IsRefusedBy text (Refused (source.AcrossWait l.at l.declared l.wait))
  -- an actor of the program weighs too much
  heavy : (p : Program) (at : Place) → IsSound text p → first_heavy (program_of p).decls ≡ Some at
      → IsRefusedBy text (heavy_outcome at)

-- the request has a program judged by all rules
abbrev pub HasProgram : Request → Type 0
HasProgram (format program) = ⊥
HasProgram (exec r) = ⊥
HasProgram (upgrade classes) = ⊥
HasProgram _ = Unit {0}

-- the request has a class text
abbrev pub HasClassText : Request → Type 0
HasClassText (exec r) = Unit {0}
HasClassText (upgrade classes) = Unit {0}
HasClassText _ = ⊥

-- What is due by the first text alone.
pub data DueBy (text : List ℕ) : Request → Outcome → Type 0 where
  unread : (p : List ℕ) (rule : Rule) (at : Place) → IsUnread text rule at
      → DueBy text (format p) (Answered (Refused (source.Refused rule at)))
  formatted : (p : List ℕ) (program : Program) → IsProgram text program → DueBy text (format p) (Answered (Formatted program))
  refused : (q : Request) (a : told.Answered) → HasProgram q → IsRefusedBy text a → DueBy text q (Answered a)
  passed : (p : List ℕ) (program : Program) → IsPassing text program → DueBy text (check p) (Answered Passed)
  compiled : (p : List ℕ) (program : Program) (classes : RawClasses) → IsPassing text program
      → Has (program_of program) (raw_of classes)
      → DueBy text (compile p) (Answered (Printed classes))
  -- the class text is refused, and not for want of memory
  no_classes : (q : Request) (fault : ClassFault) → HasClassText q → ClassAnswer text (Err fault) → fault ≢ class.OutOfMemory
      → DueBy text q (Answered (NoClasses fault))
  upgraded : (c : List ℕ) (classes : RawClasses) → ClassAnswer text (Ok classes) → DueBy text (upgrade c) (Answered (Printed classes))

-- These classes are run for the request, by its text.
pub record IsRunFor (text : List ℕ) (q : Request) (meant : Meant) (classes : RawClasses) : Type 0 where
  pub is_run : IsRunBy text meant classes
  pub is_meant : IsMeantBy q meant

-- What is due by the first text and by that of the world.
pub data DueIn (text world_text : List ℕ) (q : Request) : Outcome → Type 0 where
  -- the world is refused, and not for want of memory
  no_world : (meant : Meant) (classes : RawClasses) (fault : WorldFault) → IsRunFor text q meant classes
      → reading.ReadsWorld world_text (Err fault) → fault ≢ world.OutOfMemory → DueIn text world_text q (Answered (NoWorld fault))
  -- classes are run in the world
  runs : (r : ProgramRun) → IsRunFor text q r.meant r.classes → reading.ReadsWorld world_text (Ok r.world)
      → r.frames ≡ tells_frames q
      → DueIn text world_text q (run_for q r)

-- What is due by the request and by the texts of these files, in the order in which they were asked for.
pub data Due : Option Request → Outcome → List FileText → Type 0 where
  usage : Due None (Answered Usage) []
  by_text : (q : Request) (text : List ℕ) (o : Outcome) → IsOf (first_source q) text → DueBy text q o
      → Due (Some q) o (read_for (first_source q) text)
  in_world : (q : Request) (text world_text : List ℕ) (s : Source) (o : Outcome) → IsOf (first_source q) text
      → world_source q ≡ Some s
      → IsOf s world_text → DueIn text world_text q o → Due (Some q) o (read_for (first_source q) text ++ read_for s world_text)
