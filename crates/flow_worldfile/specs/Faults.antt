-- How a fault of a world file is shown.
use Rattle.std.specs.Prelude.{ℕ, List, ◌++◌, codes}
use Rattle.std.specs.Fmt.{decimal}
use Rattle.flow_worldfile.specs.declared.world.WorldFault.{WorldFault}
use Rattle.flow_worldfile.specs.declared.world.WorldFault.TheVariants.{Form, Range, Twice, NoProcess, TooLarge, OutOfMemory}

-- the rule and the line, the limit, or the want of memory
abbrev pub fault_text : WorldFault → List ℕ
fault_text (Form line) = codes "W1 at line " ++ decimal line
fault_text (Range line) = codes "W2 at line " ++ decimal line
fault_text (Twice line) = codes "W3 at line " ++ decimal line
fault_text (NoProcess line) = codes "W4 at line " ++ decimal line
fault_text TooLarge = codes "L10"
fault_text OutOfMemory = codes "out of memory"
