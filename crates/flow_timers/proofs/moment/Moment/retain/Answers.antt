use Rattle.std.proofs.Common.{rules, ◌∙◌, ap, sym, subst, filter}
use Rattle.std.proofs.lemmas.Fn.{filter_same}
use Rattle.std.proofs.lemmas.List.Kept.{IsNonDecreasingBy-filter}
use Rattle.std.specs.List.Sorted.{IsNonDecreasingBy}
use Rattle.flow_timers.specs.declared.moment.Event.{Event}
use Rattle.flow_timers.proofs.moment.Moment.retain.Goals as goal

pub invariant_of-self : goal.invariant_of-self
invariant_of-self g c =
    let stays = λ (e : Event g.row.T.Denot). g.K.Keeps.keeps c.args.test.now e.what in
    let same = filter_same _ stays _ (λ x b f' k. search rules) _ _ c.retain.ensures.filtered in
    subst (IsNonDecreasingBy (λ e. e.number)) (sym same) (IsNonDecreasingBy-filter (λ e. e.number) stays c.self.inside.events.items c.self.invariant)

pub returns : goal.returns
returns g c =
    let stays = λ (e : Event g.row.T.Denot). g.K.Keeps.keeps c.args.test.now e.what in
    filter_same _ stays _ (λ x b f' k. search rules) _ _ c.retain.ensures.filtered ∙ ap (filter stays) c.self.view_is
