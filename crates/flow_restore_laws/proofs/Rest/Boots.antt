-- The call of `main` in memory and the burst that follows are a boot of the class machine and its burst.
use Rattle.std.proofs.Common.{ℕ, List}
use Rattle.flow_class.specs.Classes.{RawTree}
use Rattle.flow_code.specs.declared.program.Code.{Code}
use Rattle.flow_trace.specs.declared.line.Line.{Line}
use Rattle.flow_meaning.specs.Burst.{Host}
use Rattle.flow_numbered.specs.Numbered.{Numbered}
use Rattle.flow_world_refinement.proofs.Effects.Booting.{boot_goes}
use Rattle.flow_restore_laws.specs.Rest.Booting as law

module _ {A W : Type 0} (serves : Host W) (shows : A → Numbered ℕ → W → Type 0) (wrote : A → List Line → A → Type 0) where
  pub boot_follows : (code : Code) (processes : ℕ) (r : RawTree) → law.BootFollows serves shows wrote code processes r
  boot_follows code processes r program steady now turns me m n a b p w e may around does =
      boot_goes serves shows wrote code processes r program steady now turns me m p w a may.resting may.kept may.no_main may.booted around.shown around.clock around.time around.among e n b does
