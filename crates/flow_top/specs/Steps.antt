-- What the steps of a command come to.
use Rattle.std.specs.Prelude.{◌≡◌, ◌≢◌, ℕ, List, true, is_some, Result, Ok, Err}
use Rattle.std.specs.declared.option.Option.{Option}
use Rattle.std.specs.declared.option.Option.TheVariants.{None, Some}
use Rattle.std.specs.declared.vec.Vec.{Vec}
use Rattle.std.specs.declared.alloc.Global.{Global}
use Rattle.flow_base.specs.Faults.{next_count}
use Rattle.flow_base.specs.Seen.{FilesSeen}
use Rattle.flow_base.specs.declared.place.Place.{Place}
use Rattle.flow_tree.specs.Decls.{ProgramTree}
use Rattle.flow_tree.specs.DeclView.{program_of}
use Rattle.flow_tree.specs.declared.decl.Program.{Program}
use Rattle.flow_debug.specs.declared.waits.WaitPlaces.{WaitPlaces}
use Rattle.flow_debug.specs.Waits.{waits_seen}
use Rattle.flow_debug.specs.Told.{places_of_waits}
use Rattle.flow_class.specs.declared.class.RawClasses.{RawClasses}
use Rattle.flow_class.specs.View.{raw_of}
use Rattle.flow_front.specs.Verdict.{IsSound}
use Rattle.flow_lower.specs.Weighing.{first_heavy}
use Rattle.flow_lower.specs.Compiled.{Has}
use Rattle.flow_staterule.specs.declared.sound.Sound.{Sound}
use Rattle.flow_worldfile.specs.declared.world.World0.{World0}
use Rattle.flow_worldfile.specs.declared.world.WorldFault.{WorldFault}
use Rattle.flow_worldfile.specs.declared.world.WorldFault.TheVariants as world
use Rattle.flow_worldfile.specs.Reading as reading
use Rattle.flow_monitor.specs.declared.attach.PanelFault.{PanelFault}
use Rattle.flow_words.specs.Asked.{Request, request_of}
use Rattle.flow_words.specs.declared.asked.Asked.{Asked}
use Rattle.flow_top.specs.declared.outcome.Answered as told
use Rattle.flow_top.specs.declared.outcome.Answered.TheVariants.{Usage, ReadFault, OutOfMemory, NoWorld}
use Rattle.flow_top.specs.declared.outcome.Outcome.TheVariants.{Answered}
use Rattle.flow_top.specs.declared.outcome.Runnable.{Runnable}
use Rattle.flow_top.specs.declared.outcome.Meant.TheVariants.{Text}
use Rattle.flow_top.specs.Sources.{Source, IsOf, read_for, names_of, AreTexts}
use Rattle.flow_top.specs.Outcomes.{IsRunBy, heavy_outcome}
use Rattle.flow_top.specs.Due.{IsRefusedBy, DueBy, IsRunFor}
use Rattle.flow_top.specs.Decided.{ReadsFiles, AskedFor}

-- A step comes to a value, to an outcome without one, or there is no memory.
pub data Step {T : Type 0} (Good : T → Type 0) (Told : told.Answered → Type 0) : Result T told.Answered → Type 0 where
  goes : (x : T) → Good x → Step Good Told (Ok x)
  stops : (a : told.Answered) → Told a → Step Good Told (Err a)
  starves : Step Good Told (Err OutOfMemory)

-- So does a step that has no value.
pub data Ends (Told : told.Answered → Type 0) : told.Answered → Type 0 where
  ends : (a : told.Answered) → Told a → Ends Told a
  no_room : Ends Told OutOfMemory

-- what the words ask for, or that they ask for nothing
abbrev pub NotAsked : Option Request → told.Answered → Type 0
NotAsked asked Usage = asked ≡ None
NotAsked asked OutOfMemory = Unit {0}
NotAsked asked _ = ⊥

abbrev pub AsksFor : Option Request → Result Asked told.Answered → Type 0
AsksFor asked (Ok a) = asked ≡ Some (request_of a)
AsksFor asked (Err a) = NotAsked asked a

-- a panel is had exactly where no item fails that is wanted, but for want of memory
abbrev pub NotAttached : Option PanelFault → told.Answered → Type 0
NotAttached fault Usage = is_some fault ≡ true
NotAttached fault OutOfMemory = Unit {0}
NotAttached fault _ = ⊥

abbrev pub Attaches : {P : Type 0} → Option PanelFault → Result P told.Answered → Type 0
Attaches fault (Ok panel) = fault ≡ None
Attaches fault (Err a) = NotAttached fault a

-- A text was had from a source, by what was read of its file, if it has one, and no call failed.
pub record HasText (s : Source) (before after : FilesSeen) (text : List ℕ) : Type 0 where
  pub is_of : IsOf s text
  pub reads : ReadsFiles before after (names_of (read_for s text)) (read_for s text)
  pub are : AreTexts before.content (read_for s text)
  pub no_fault : after.faults ≡ before.faults

-- What having a text from a source came to: a call of the files failed exactly where it is unread.
pub data TextRead (s : Source) (before after : FilesSeen) : Result (Vec ℕ Global) told.Answered → Type 0 where
  is_read : (v : Vec ℕ Global) → HasText s before after v.items → TextRead s before after (Ok v)
  is_unread : (names : List (List ℕ)) (files : _) → AskedFor s names files → ReadsFiles before after names files
      → after.faults ≡ next_count before.faults → TextRead s before after (Err ReadFault)
  starved : (names : List (List ℕ)) (files : _) → AskedFor s names files → ReadsFiles before after names files
      → after.faults ≡ before.faults → TextRead s before after (Err OutOfMemory)

-- what judging a program text comes to
abbrev pub JudgesTo : List ℕ → Result Sound told.Answered → Type 0
JudgesTo text = Step (λ (s : Sound). IsSound text s.typed.program) (IsRefusedBy text)

-- what is due of a text by a request alone
abbrev pub EndsBy : List ℕ → Request → told.Answered → Type 0
EndsBy text q = Ends (λ a. DueBy text q (Answered a))

-- the classes of a program, or that an actor of it weighs too much
pub data LowersTo (p : ProgramTree) : Result RawClasses told.Answered → Type 0 where
  are_classes : (c : RawClasses) → Has p (raw_of c) → first_heavy p.decls ≡ None → LowersTo p (Ok c)
  is_heavy : (at : Place) → first_heavy p.decls ≡ Some at → LowersTo p (Err (heavy_outcome at))
  no_classes : LowersTo p (Err OutOfMemory)

-- the program that a text is, with its classes
pub record IsCompiled (text : List ℕ) (x : Runnable) : Type 0 where
  pub is_run : IsRunBy text x.meant x.classes
  pub is_text : (program : _) × (x.meant ≡ Text program)

abbrev pub CompilesTo : List ℕ → Result Runnable told.Answered → Type 0
CompilesTo text = Step (IsCompiled text) (IsRefusedBy text)

-- what a request comes to by its first text
abbrev pub RunsTo : List ℕ → Request → Result Runnable told.Answered → Type 0
RunsTo text q = Step (λ (x : Runnable). IsRunFor text q x.meant x.classes) (λ a. DueBy text q (Answered a))

-- the world of a text, or its refusal; want of memory is none
pub data WorldOf (text : List ℕ) : Result World0 told.Answered → Type 0 where
  is_world : (w : World0) → reading.ReadsWorld text (Ok w) → WorldOf text (Ok w)
  is_none : (fault : WorldFault) → reading.ReadsWorld text (Err fault) → fault ≢ world.OutOfMemory → WorldOf text (Err (NoWorld fault))
  no_room_for_it : WorldOf text (Err OutOfMemory)

-- The places of a program's waits, if there was memory for them.
abbrev pub WaitsAre : Program → Result WaitPlaces told.Answered → Type 0
WaitsAre p (Ok waits) = waits_seen waits ≡ places_of_waits (program_of p).decls
WaitsAre p (Err outcome) = outcome ≡ OutOfMemory
