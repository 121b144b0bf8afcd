-- What is noted on a line that tells a fault.
use Rattle.std.proofs.Common.{◌≡◌, ℕ, List, [], ◌++◌, codes}
use Rattle.flow_tree.specs.declared.fault.SourceFault.{SourceFault}
use Rattle.flow_classread.specs.declared.fault.ClassFault.{ClassFault}
use Rattle.flow_worldfile.specs.declared.world.WorldFault.{WorldFault}
use Rattle.flow_refusal.specs.Refusal.{refusal_text, class_refusal, world_refusal, script_refusal}
use Rattle.flow_refusal.specs.Note.{program_note, class_note, world_note, Notes, on_program, on_class, on_world, on_words, on_file, on_script, none, overall}

pub program_noted : {answer name text world world_text v : List ℕ} (words more : List ℕ) (fault : SourceFault) → answer ≡ refusal_text fault
    → v ≡ program_note words name text fault ++ more → Notes answer name text world world_text v
program_noted words more fault is told = on_program words more fault is told

pub class_noted : {answer name text world world_text v : List ℕ} (words more : List ℕ) (fault : ClassFault) → answer ≡ class_refusal fault
    → v ≡ class_note words name text fault ++ more → Notes answer name text world world_text v
class_noted words more fault is told = on_class words more fault is told

pub world_noted : {answer name text world world_text v : List ℕ} (words more : List ℕ) (fault : WorldFault) → answer ≡ world_refusal fault
    → v ≡ world_note words world world_text fault ++ more → Notes answer name text world world_text v
world_noted words more fault is told = on_world words more fault is told

pub usage_noted : {answer name text world world_text v : List ℕ} → answer ≡ codes "usage\n" → Notes answer name text world world_text v
usage_noted is = on_words is

pub file_noted : {answer name text world world_text v : List ℕ} → answer ≡ codes "read fault\n" → Notes answer name text world world_text v
file_noted is = on_file is

pub script_noted : {answer name text world world_text v : List ℕ} → answer ≡ script_refusal → (words : List ℕ) × (v ≡ overall world words)
    → Notes answer name text world world_text v
script_noted is told = on_script is told

pub nothing_noted : {answer name text world world_text v : List ℕ} → v ≡ [] → Notes answer name text world world_text v
nothing_noted is = none is
