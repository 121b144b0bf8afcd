use Rattle.std.proofs.Common.{◌≡◌, ◌++◌, map, take}
use Rattle.std.specs.List.{flat_map}
use Rattle.std.specs.String.{string_bytes}
use Rattle.flow_worldfile.specs.declared.directive.Directive.TheVariants.{Word}
use Rattle.flow_worldfile.specs.Directives.{line_text}
use Rattle.flow_worldfile.proofs.printing.push_words.Given as goal

abbrev pub invariant-loop-word : goal.invariant-loop-word
invariant-loop-word l = string_bytes l.out ≡ string_bytes l.initial.out ++ flat_map line_text (map Word (take l.word-index l.words))
