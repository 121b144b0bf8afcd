use Rattle.std.proofs.Common.{◌≡◌}
use Rattle.std.specs.List.{AllByRecursion}
use Rattle.flow_worldfile.specs.declared.directive.Directive.TheVariants.{Word}
use Rattle.flow_worldfile.specs.Directives.{InRange}
use Rattle.flow_worldfile.specs.Worlds.{seen}
use Rattle.flow_draw.specs.Words.{drawn_from}
use Rattle.flow_simplify.specs.Pinning.{first_words}
use Rattle.flow_simplify.proofs.pinning.first_words.Given as goal

abbrev pub invariant-loop-word : goal.invariant-loop-word
invariant-loop-word l = record {
  words : l.words.items ≡ first_words (seen l.world) l._word;
  range : AllByRecursion (λ n. InRange (Word n)) l.words.items;
  draws : l.draws ≡ drawn_from l.world.seed l.world.words.items l._word;
}
