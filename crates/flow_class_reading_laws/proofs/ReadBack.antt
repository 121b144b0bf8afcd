-- What was written is read back.
use Rattle.std.proofs.Common.{◌≡◌, ℕ, ◌≤◌, length, Result, Ok, Err, sym, ap, ◌∙◌, subst, arith}
use Rattle.flow_class.specs.declared.class.RawClasses.{RawClasses}
use Rattle.flow_class.specs.Classes.{RawTree}
use Rattle.flow_class.specs.View.{raw_of}
use Rattle.flow_classprint.specs.declared.version.Version.TheVariants.{Two}
use Rattle.flow_classprint.specs.ClassGrammar.{of_version}
use Rattle.flow_classprint.specs.ClassText.{ClassText}
use Rattle.flow_valid.specs.Validity.{IsValid}
use Rattle.flow_meaning.specs.Placeless.{placeless_classes}
use Rattle.flow_tree.specs.DeclView.{program_of}
use Rattle.flow_lower.specs.Compiled.{compiled}
use Rattle.flow_validity_laws.proofs.Filled.{all_valid}
use Rattle.flow_class_text_laws.proofs.Compiled.{class_text_exists}
use Rattle.flow_class_places_laws.specs.Laws.{AreReadBack}
use Rattle.flow_class_places_laws.proofs.Validity.{breach_over}
use Rattle.flow_class_places_laws.proofs.ReadBack.Texts.{class_text_read_back}
use Rattle.flow_classread.specs.declared.fault.ClassFault.{ClassFault}
use Rattle.flow_classread.specs.declared.fault.ClassFault.TheVariants.{Form, Invalid, TooLarge, OutOfMemory}
use Rattle.flow_classread.specs.declared.read.TheConstants.{CLASS_BYTES}
use Rattle.flow_classread.specs.ClassAnswer.{DerivesClasses, IsClassText, BreaksFirst, ClassAnswer}
use Rattle.flow_class_reading_laws.specs.Laws.{IsReadAs, WrittenIsReadBack, CompiledIsReadBack, ReadIsReadBack}
use Rattle.flow_class_reading_laws.proofs.Written.{reads_written}
use Rattle.flow_class_reading_laws.proofs.Once.{same_spots, no_failure, valid_unbroken}

module _ (raw : RawTree) (b : AreReadBack raw) where
  derived : DerivesClasses b.spots b.tree
  derived = record { marked = b.derives.marked; rule = of_version Two b.derives.rule; is = b.derives.is; keeps = b.derives.keeps }

  -- what the canonical text derives is what was written, places aside
  read_as : (other : RawTree) → IsClassText (ClassText raw) other → placeless_classes other ≡ placeless_classes raw
  read_as other t =
      let e = same_spots (ClassText raw) b.spots t.spots b.end t.end b.lexes t.lexes in
      ap placeless_classes (sym (t.only b.tree (subst (λ s. DerivesClasses s b.tree) e derived))) ∙ b.same

  unbroken : (rule : ℕ) (at : _) → IsValid raw → BreaksFirst (ClassText raw) rule at → ⊥
  unbroken rule at v f = valid_unbroken raw rule f.number v (breach_over f.raw raw rule f.number (read_as f.raw f.text) f.breaks)

  reads_back : (answer : Result RawClasses ClassFault) → IsValid raw → length (ClassText raw) ≤ CLASS_BYTES → ClassAnswer (ClassText raw) answer → IsReadAs raw answer
  reads_back (Ok c) v short a = read_as (raw_of c) a.0
  reads_back (Err (Form line)) v short a = absurd (no_failure (ClassText raw) line b.tree b.spots b.end b.lexes derived a)
  reads_back (Err (Invalid rule at)) v short a = absurd (unbroken rule at v a)
  reads_back (Err TooLarge) v short a = absurd (omega (arith, short, a))
  reads_back (Err OutOfMemory) v short a = tt

pub written_is_read_back : WrittenIsReadBack
written_is_read_back raw answer written v short a = reads_back raw (class_text_read_back raw written) answer v short a

pub compiled_is_read_back : CompiledIsReadBack
compiled_is_read_back text program answer sound light short a =
    written_is_read_back (compiled (program_of program)) answer (class_text_exists text program sound light) (all_valid text program sound) short a

pub read_is_read_back : ReadIsReadBack
read_is_read_back bytes raw answer t v short a = written_is_read_back raw answer (reads_written bytes raw t) v short a
