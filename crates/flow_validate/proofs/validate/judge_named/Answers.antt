use Rattle.std.proofs.Common.{map, take, sym, ap, subst, ◌∙◌}
use Rattle.std.proofs.lemmas.Result.{err_from_is_err_and}
use Rattle.std.proofs.lemmas.List.{take-map}
use Rattle.flow_tree.specs.DeclView.{decl_of}
use Rattle.flow_class.specs.View.{class_of}
use Rattle.flow_validate.specs.Sizes.{AreFew}
use Rattle.flow_validate.specs.PlaceNames.{AreEnoughFor}
use Rattle.flow_validate.proofs.Verdicts.{is_valid, then_ok}
use Rattle.flow_validate.proofs.validate.judge_named.Goals as goal

pub judge_classes-requires-clause-few : goal.judge_classes-requires-clause-few
judge_classes-requires-clause-few c = subst (λ l. AreFew (map class_of l)) (sym c.deref-4.ensures.value) c.requires.few

pub judge_classes-requires-clause-places : goal.judge_classes-requires-clause-places
judge_classes-requires-clause-places c =
    let places = c.args.gathered.now.places in
    subst (λ l. AreEnoughFor places.slots.items places.locals.items (map class_of l)) (sym c.deref-4.ensures.value) c.requires.places

pub returns-in_err-judge_heads-clause-refused : goal.returns-in_err-judge_heads-clause-refused
returns-in_err-judge_heads-clause-refused c = λ r sees parts.
    let n = c.args.gathered.now.count in
    let plain = parts.plain ∙ ap (λ l. take n (map decl_of l)) (sym c.deref-2.ensures.value) ∙ take-map decl_of n c.deref-2.result.now in
    let classes = parts.kept ∙ ap (map class_of) (sym c.deref-3.ensures.value) in
    let p = err_from_is_err_and c.from_residual.result c.from_residual.ensures.1 in
    rw (p.1, p.2) (c.in_err-judge_heads.ensures.refused r sees plain classes)

pub returns-clause-valid : goal.returns-clause-valid
returns-clause-valid c = λ r sees parts.
    let n = c.args.gathered.now.count in
    let plain = parts.plain ∙ ap (λ l. take n (map decl_of l)) (sym c.deref-2.ensures.value) ∙ take-map decl_of n c.deref-2.result.now in
    let classes = parts.kept ∙ ap (map class_of) (sym c.deref-3.ensures.value) in
    let heads = c.in_ok-judge_heads.ensures.kept r sees plain classes in
    then_ok c.judge_classes.result (λ sound. is_valid r heads sound) (c.judge_classes.ensures.sound r sees (parts.kept ∙ ap (map class_of) (sym c.deref-4.ensures.value)))

pub returns-clause-refused : goal.returns-clause-refused
returns-clause-refused c = λ r sees parts.
    let n = c.args.gathered.now.count in
    let plain = parts.plain ∙ ap (λ l. take n (map decl_of l)) (sym c.deref-2.ensures.value) ∙ take-map decl_of n c.deref-2.result.now in
    let classes = parts.kept ∙ ap (map class_of) (sym c.deref-3.ensures.value) in
    let heads = c.in_ok-judge_heads.ensures.kept r sees plain classes in
    c.judge_classes.ensures.refused r sees (parts.kept ∙ ap (map class_of) (sym c.deref-4.ensures.value)) heads
