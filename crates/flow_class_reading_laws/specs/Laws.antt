-- What holds of class text that is read.
use Rattle.std.specs.Prelude.{◌≡◌, ℕ, ◌≤◌, List, length, Result, Ok, Err}
use Rattle.flow_tree.specs.declared.decl.Program.{Program}
use Rattle.flow_tree.specs.DeclView.{program_of}
use Rattle.flow_front.specs.Verdict.{IsSound}
use Rattle.flow_lower.specs.Compiled.{compiled}
use Rattle.flow_class_text_laws.specs.Laws.{AreLight}
use Rattle.flow_class.specs.declared.class.RawClasses.{RawClasses}
use Rattle.flow_class.specs.Classes.{RawTree}
use Rattle.flow_class.specs.View.{raw_of}
use Rattle.flow_classprint.specs.ClassGrammar.{IsWritten}
use Rattle.flow_classprint.specs.ClassText.{ClassText}
use Rattle.flow_valid.specs.Validity.{IsValid}
use Rattle.flow_classread.specs.declared.fault.ClassFault.{ClassFault}
use Rattle.flow_classread.specs.declared.fault.ClassFault.TheVariants.{OutOfMemory}
use Rattle.flow_classread.specs.declared.read.TheConstants.{CLASS_BYTES}
use Rattle.flow_classread.specs.ClassAnswer.{IsClassText, ClassAnswer}
use Rattle.flow_meaning.specs.Placeless.{placeless_classes}
use Rattle.flow_invariants.specs.Unmarked.{AreWhole}

-- an answer as the caller sees it: what was read, or the refusal
abbrev pub told : Result RawClasses ClassFault → Result RawTree ClassFault
told (Ok c) = Ok (raw_of c)
told (Err e) = Err e

-- a text has one answer at most, want of memory aside
abbrev pub OneAnswer : Type 0
OneAnswer =
    (bytes : List ℕ) (r s : Result RawClasses ClassFault) → ClassAnswer bytes r → ClassAnswer bytes s → (r ≡ Err OutOfMemory → ⊥)
    → (s ≡ Err OutOfMemory → ⊥) → told r ≡ told s

-- Valid classes that a text derives are as the laws on runs ask: each has a block, no path is empty, and each group has a callback.
abbrev pub ReadsWhole : Type 0
ReadsWhole = (bytes : List ℕ) (raw : RawTree) → IsClassText bytes raw → IsValid raw → AreWhole raw

-- Some class text of version 2 derives what one of any version does, in tokens that can be spelled.
abbrev pub ReadsWritten : Type 0
ReadsWritten = (bytes : List ℕ) (raw : RawTree) → IsClassText bytes raw → IsWritten raw

-- equal classes were read, places aside, or there was no memory
abbrev pub IsReadAs : RawTree → Result RawClasses ClassFault → Type 0
IsReadAs raw (Ok c) = placeless_classes (raw_of c) ≡ placeless_classes raw
IsReadAs raw (Err OutOfMemory) = Unit {0}
IsReadAs raw (Err _) = ⊥

-- The canonical text of valid classes that some class text derives, within the limit on bytes, is read back.
abbrev pub WrittenIsReadBack : Type 0
WrittenIsReadBack =
    (raw : RawTree) (answer : Result RawClasses ClassFault) → IsWritten raw → IsValid raw → length (ClassText raw) ≤ CLASS_BYTES
    → ClassAnswer (ClassText raw) answer → IsReadAs raw answer

-- So are the classes of a text that the front accepts, in which no actor weighs too much;
abbrev pub CompiledIsReadBack : Type 0
CompiledIsReadBack =
    (text : List ℕ) (program : Program) (answer : Result RawClasses ClassFault) → IsSound text program → AreLight program
    → length (ClassText (compiled (program_of program))) ≤ CLASS_BYTES
    → ClassAnswer (ClassText (compiled (program_of program))) answer → IsReadAs (compiled (program_of program)) answer

-- and those that were read.
abbrev pub ReadIsReadBack : Type 0
ReadIsReadBack =
    (bytes : List ℕ) (raw : RawTree) (answer : Result RawClasses ClassFault) → IsClassText bytes raw → IsValid raw
    → length (ClassText raw) ≤ CLASS_BYTES → ClassAnswer (ClassText raw) answer → IsReadAs raw answer
