use Rattle.std.proofs.Common.{◌^◌, [], ◌∷◌, ap, ◌∙◌}
use Rattle.flow_draw.specs.declared.question.Question.TheVariants.{Among}
use Rattle.flow_worldfile.specs.Worlds.{seen}
use Rattle.flow_draw.specs.Words.{next_word, asked}
use Rattle.flow_simplify.proofs.WithWords.{one_word_more, first_words_more}
use Rattle.flow_simplify.proofs.pinning.first_words.Goals as goal

pub loop-word-preserved : goal.loop-word-preserved
loop-word-preserved c =
    let was = c.loop-word.invariant in
    record {
      words = first_words_more (seen c.args.world.now) c.loop-word._word _ _ _ was.words c.in_ok-push.ensures.items (c.next.ensures.word ∙ ap next_word was.draws);
      range = one_word_more _ _ _ _ c.in_ok-push.ensures.items was.range c.next.type_inv;
      draws = c.next.ensures.taken ∙ ap (λ d. asked d (Among (2 ^ 32) ∷ [])) was.draws;
    }
