-- What the rules say of a class of a valid class program.
use Rattle.flow_class.specs.Classes.{RawTree}
use Rattle.flow_valid.specs.Validity.{IsValid}
use Rattle.flow_valid.proofs.ClassRules.{sound_of}
use Rattle.flow_progress.specs.Ending.{LeadOn}

pub leads_on : (r : RawTree) → IsValid r → LeadOn r
leads_on r v k c at = let s = sound_of r c (v.classes k c at).tested in (s.forward, s.catchers)
