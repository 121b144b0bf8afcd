-- From what the laws on class text and on shown lines say to what is read of a program's class text.
use Rattle.std.proofs.Common.{◌≡◌, ℕ, ◌≤◌, List, length, Result, Ok, Err, sym, subst, arith}
use Rattle.std.specs.declared.option.Option.TheVariants.{None}
use Rattle.flow_tree.specs.declared.decl.Program.{Program}
use Rattle.flow_tree.specs.DeclView.{program_of}
use Rattle.flow_class.specs.declared.class.RawClasses.{RawClasses}
use Rattle.flow_class.specs.Classes.{RawTree}
use Rattle.flow_class.specs.View.{raw_of}
use Rattle.flow_classprint.specs.ClassText.{ClassText}
use Rattle.flow_classread.specs.declared.fault.ClassFault.{ClassFault}
use Rattle.flow_classread.specs.declared.fault.ClassFault.TheVariants.{Form, Invalid, TooLarge, OutOfMemory}
use Rattle.flow_classread.specs.declared.read.TheConstants.{CLASS_BYTES}
use Rattle.flow_classread.specs.ClassAnswer.{ClassAnswer, HaveSmallFrames}
use Rattle.flow_front.specs.Verdict.{IsSound}
use Rattle.flow_lower.specs.Weighing.{first_heavy}
use Rattle.flow_lower.specs.Compiled.{compiled, Has}
use Rattle.flow_meaning.specs.Placeless.{placeless_classes}
use Rattle.flow_compile_laws.specs.Frames.Laws.{ShownKept, ShownReturned}
use Rattle.flow_class_places_laws.specs.Shown.{ClassesShownAside}
use Rattle.flow_class_reading_laws.specs.Laws.{IsReadAs, ReadsWhole, CompiledIsReadBack}
use Rattle.flow_end_to_end.specs.Exact.{HaveFewPlaces}
use Rattle.flow_headline.specs.ReadBack.{ShowsProgram, IsReadAsProgram}

small_few : (raw : RawTree) → HaveSmallFrames raw → HaveFewPlaces raw
small_few raw h k c e = let small = h k c e in omega (arith, small)

-- the laws that this rests on
pub record Rests : Type 0 where
  pub back : CompiledIsReadBack
  pub whole : ReadsWhole
  pub aside : ClassesShownAside
  pub kept : ShownKept
  pub returned : ShownReturned

module _ (laws : Rests) (text : List ℕ) (program : Program) (sound : IsSound text program) where
  same_shows : (bytes : List ℕ) (c : RawClasses) → placeless_classes (raw_of c) ≡ placeless_classes (compiled (program_of program)) → ClassAnswer bytes (Ok c)
      → ShowsProgram (program_of program) (raw_of c)
  same_shows bytes c same a = record {
    whole = laws.whole bytes (raw_of c) a.0 a.1;
    few = small_few (raw_of c) a.2;
    of_text = λ f w lines s. laws.aside (compiled (program_of program)) (raw_of c) f w lines (sym same) (laws.kept text program f w lines sound.typed s);
    of_classes = λ f w lines s. laws.returned text program f w lines sound.typed (laws.aside (raw_of c) (compiled (program_of program)) f w lines same s);
  }

  by_answer : (bytes : List ℕ) (answer : Result RawClasses ClassFault) → IsReadAs (compiled (program_of program)) answer → ClassAnswer bytes answer
      → IsReadAsProgram (program_of program) answer
  by_answer bytes (Ok c) same a = same_shows bytes c same a
  by_answer bytes (Err (Form line)) h a = absurd h
  by_answer bytes (Err (Invalid rule at)) h a = absurd h
  by_answer bytes (Err TooLarge) h a = absurd h
  by_answer bytes (Err OutOfMemory) h a = tt

  compiled_shows : first_heavy (program_of program).decls ≡ None → (answer : Result RawClasses ClassFault) → length (ClassText (compiled (program_of program))) ≤ CLASS_BYTES
      → ClassAnswer (ClassText (compiled (program_of program))) answer → IsReadAsProgram (program_of program) answer
  compiled_shows light answer short a =
      by_answer (ClassText (compiled (program_of program))) answer
      (laws.back text program answer sound light short a) a

-- of any classes that are the program's
pub text_shows : Rests → (text : List ℕ) (program : Program) (raw : RawTree) (answer : Result RawClasses ClassFault) → IsSound text program
    → first_heavy (program_of program).decls ≡ None → Has (program_of program) raw → length (ClassText raw) ≤ CLASS_BYTES
    → ClassAnswer (ClassText raw) answer → IsReadAsProgram (program_of program) answer
text_shows laws text program raw answer sound light has short a =
    compiled_shows laws text program sound light answer (subst (λ r. length (ClassText r) ≤ CLASS_BYTES) has short) (subst (λ r. ClassAnswer (ClassText r) answer) has a)
