use Rattle.std.proofs.Common.{rules, ◌≡◌, ap, ◌∙◌}
use Rattle.std.proofs.lemmas.Result.{IfErr-weaker, IfOk-weaker}
use Rattle.flow_meaning.specs.Outside as meaning
use Rattle.flow_world.specs.Around.{Puts, PutsPart, shows, wrote, wrote_part}
use Rattle.flow_world.specs.Changes.{seen}
use Rattle.flow_world.proofs.MovedHosts.{does_to}
use Rattle.flow_world.proofs.MovedBreaking.{breaks_off_by}
use Rattle.flow_world.proofs.action.acts.Goals as goal

pub returns-clause-acts : goal.returns-clause-acts
returns-clause-acts g c =
    let h = c.does-burst.new.host in
    let ports : h.ports.now ≡ c.place-2-1.given.0 = search rules in
    let outside : h.outside.now ≡ c.outside-1.given.0 = search rules in
    let out : h.out.now ≡ c.out-1.given.0 = search rules in
    IfOk-weaker c.does-burst.result _ _
    (λ e does.
    let same =
    ap (λ q. record { me = h.me; ports = q; outside = seen h.outside.now; out = h.out.now }) ports
    ∙ ap (λ q. record { me = h.me; ports = c.place-2-1.given.0; outside = seen q; out = h.out.now }) outside
    ∙ ap (λ q. record { me = h.me; ports = c.place-2-1.given.0; outside = seen c.outside-1.given.0; out = q }) out
    in
    record {
      me = h.me;
      does = does_to (λ k. record { me = k.me; ports = k.ports.now; outside = seen k.outside.now; out = k.out.now }) meaning.host shows (wrote g.L.LineOut.puts)
          (λ k ls n. Puts g.L.LineOut.puts k.out.now ls n.out.now) (λ a b ls w. w) _ _ _ _ _ _ _ _ _ _ same does;
      up = c.up_after-place.ensures;
    })
    c.does-burst.ensures.does

pub returns-clause-breaks : goal.returns-clause-breaks
returns-clause-breaks g c =
    let h = c.does-burst.new.host in
    let out : h.out.now ≡ c.out-1.given.0 = search rules in
    IfErr-weaker c.does-burst.result _ _
    (λ f t. record {
      left = record { me = h.me; ports = h.ports.now; outside = seen h.outside.now; out = h.out.now };
      out = out;
      breaks = breaks_off_by (λ k. record { me = k.me; ports = k.ports.now; outside = seen k.outside.now; out = k.out.now }) meaning.host shows (wrote g.L.LineOut.puts)
          (wrote_part g.L.LineOut.puts) (λ k ls n. Puts g.L.LineOut.puts k.out.now ls n.out.now) (λ k ls n. PutsPart g.L.LineOut.puts k.out.now ls n.out.now)
          (λ a b ls w. w) (λ a b ls w. w) _ _ _ _ _ _ _ t;
    })
    c.does-burst.ensures.breaks
