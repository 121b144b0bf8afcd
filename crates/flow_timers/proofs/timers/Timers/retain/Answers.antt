use Rattle.std.proofs.Common.{rules, ◌∙◌, ap, sym, subst, filter}
use Rattle.flow_timers.specs.Pending.{StandInOrder}
use Rattle.flow_timers.specs.Moments.{events_of}
use Rattle.flow_timers.proofs.Keeping.{kept_times, kept_stand}
use Rattle.flow_timers.proofs.timers.Timers.retain.Goals as goal

pub invariant_of-self : goal.invariant_of-self
invariant_of-self g c =
    let keep = g.K.Keeps.keeps c.args.test.now in
    let ms = c.self.inside.moments.entries in
    let (events, all) = kept_times keep _ _ (λ t xs b ys f' k. search rules) ms c.retain.new.self.entries c.retain.ensures.filtered in
    (all, subst StandInOrder (sym events) (kept_stand (λ e. keep e.what) (events_of ms) c.self.invariant.1))

pub returns : goal.returns
returns g c =
    let keep = g.K.Keeps.keeps c.args.test.now in
    let ms = c.self.inside.moments.entries in
    let (events, all) = kept_times keep _ _ (λ t xs b ys f' k. search rules) ms c.retain.new.self.entries c.retain.ensures.filtered in
    ap (λ es. record { made = c.self.inside.made; pending = es }) events
    ∙ ap (λ q. record { made = q.made; pending = filter (λ e. keep e.what) q.pending }) c.self.view_is
