-- The line that tells why a program text, a class text or a world file is refused, and the status.
use Rattle.std.specs.Prelude.{ℕ, List, [], ◌++◌, ◌==◌, codes, decimal, if◌then◌else◌}
use Rattle.std.specs.declared.option.Option.{Option}
use Rattle.std.specs.declared.option.Option.TheVariants.{None, Some}
use Rattle.flow_base.specs.declared.place.Place.{Place}
use Rattle.flow_tree.specs.declared.fault.Rule.{Rule}
use Rattle.flow_tree.specs.declared.fault.Rule.TheVariants.{S, L, K}
use Rattle.flow_tree.specs.declared.fault.SourceFault.{SourceFault}
use Rattle.flow_tree.specs.declared.fault.SourceFault.TheVariants.{Refused, AcrossWait, OutOfMemory}
use Rattle.flow_classread.specs.declared.fault.ClassFault.{ClassFault}
use Rattle.flow_classread.specs.declared.fault.ClassFault.TheVariants as class
use Rattle.flow_worldfile.specs.Faults.{fault_text}
use Rattle.flow_worldfile.specs.declared.world.WorldFault.{WorldFault}

-- a place by its line and its column
abbrev pub place_text : Place → List ℕ
place_text p = decimal p.line ++ codes ":" ++ decimal p.column

-- a rule by its letter and its number
abbrev pub rule_text : Rule → List ℕ
rule_text (S n) = codes "S" ++ decimal n
rule_text (L n) = codes "L" ++ decimal n
rule_text (K n) = codes "K" ++ decimal n

-- where a rule fails; L1, the limit on the bytes of the text, names no place
abbrev pub where_text : Rule → Place → List ℕ
where_text (S n) at = codes " at " ++ place_text at
where_text (L n) at = if n == 1 then [] else codes " at " ++ place_text at
where_text (K n) at = codes " at " ++ place_text at

-- what is told of a fault; want of memory tells nothing
abbrev pub refusal_text : SourceFault → List ℕ
refusal_text (Refused rule at) = codes "refused " ++ rule_text rule ++ where_text rule at ++ codes "\n"
refusal_text (AcrossWait at declared wait) =
    codes "refused U1 at " ++ place_text at ++ codes " declared " ++ place_text declared ++ codes " wait " ++ place_text wait ++ codes "\n"
refusal_text OutOfMemory = []

-- the status: 10 where a limit is passed, 1 for another rule, 7 for want of memory
abbrev pub refusal_status : SourceFault → ℕ
refusal_status (Refused (S n) at) = 1
refusal_status (Refused (L n) at) = 10
refusal_status (Refused (K n) at) = 1
refusal_status (AcrossWait at declared wait) = 1
refusal_status OutOfMemory = 7

-- the line of a refusal of a world file
abbrev pub world_refusal : WorldFault → List ℕ
world_refusal fault = codes "refused " ++ (fault_text fault ++ codes "\n")

-- the class that breaks a rule, where it is one
abbrev pub in_class : Option (List ℕ) → List ℕ
in_class None = []
in_class (Some name) = codes " in " ++ name

-- the line of a refusal of a class text; want of memory tells nothing
abbrev pub class_refusal : ClassFault → List ℕ
class_refusal (class.Form line) = codes "refused C1 at line " ++ decimal line ++ codes "\n"
class_refusal (class.Invalid rule name) = codes "refused C2 V" ++ decimal rule ++ in_class name ++ codes "\n"
class_refusal class.TooLarge = codes "refused L11\n"
class_refusal class.OutOfMemory = []

-- its status: 10 where the limit on bytes is passed, 9 for another rule, 7 for want of memory
abbrev pub class_status : ClassFault → ℕ
class_status (class.Form line) = 9
class_status (class.Invalid rule name) = 9
class_status class.TooLarge = 10
class_status class.OutOfMemory = 7

-- the line where a script has too many lines to be made smaller
abbrev pub script_refusal : List ℕ
script_refusal = codes "refused L13\n"
