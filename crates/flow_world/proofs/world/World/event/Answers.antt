use Rattle.std.proofs.Common.{rules, ◌≡◌, refl, ap, ◌∙◌}
use Rattle.std.specs.Prelude.{Err}
use Rattle.flow_world.specs.Watching.{hearing}
use Rattle.flow_world.proofs.Watching.{event_heard, break_heard, fails_heard, answer_does, known_event, known_break, known_fails}
use Rattle.flow_world.proofs.Putting.{err_is}
use Rattle.flow_world.proofs.world.World.event.Goals as goal

pub returns-clause-does : goal.returns-clause-does
returns-clause-does g c =
    let kept = c.next_event-event.ensures.kept in
    let panel_name = ap (λ k. k.0) kept in
    let out_name = ap (λ k. k.1) kept in
    let does = event_heard (λ w. hearing w.out.now (g.P.Audience.ears w.panel.now) w.stop) g.L.LineOut.puts _ (λ a b l answer t. t) _ _ _ _ _ c.in_ok-event.ensures.does in
    known_event g.L.LineOut.puts g.P.Audience.ears _ _ _ _ _ _ _ _ _ _ (search rules) (search rules) c.settle.ensures.event
    (answer_does g.L.LineOut.puts _ _ _ _ _ _ _ refl c.settle.ensures.world does)

pub returns-in_err-event-clause-breaks : goal.returns-in_err-event-clause-breaks
returns-in_err-event-clause-breaks g c = λ fails.
    let kept = c.next_event-event.ensures.kept in
    let panel_name = ap (λ k. k.0) kept in
    let out_name = ap (λ k. k.1) kept in
    let breaks = break_heard (λ w. hearing w.out.now (g.P.Audience.ears w.panel.now) w.stop) g.L.LineOut.puts _ (λ a b l answer t. t) _ _ _ _ (c.next_event-event.ensures.breaks (search rules)) in
    known_break g.L.LineOut.puts g.P.Audience.ears _ _ _ _ _ _ _ _ (search rules) (search rules) breaks

pub returns-in_err-event-clause-fails : goal.returns-in_err-event-clause-fails
returns-in_err-event-clause-fails g c =
    let kept = c.next_event-event.ensures.kept in
    let panel_name = ap (λ k. k.0) kept in
    let out_name = ap (λ k. k.1) kept in
    let fails = c.in_err-event.ensures.fails in
    let moved = fails_heard (λ w. hearing w.out.now (g.P.Audience.ears w.panel.now) w.stop) g.L.LineOut.puts _ (λ a b l answer t. t) _ _ _ fails.0 fails.2 in
    let last = fails.0.out in
    let out_is = ap (λ w. w.out.now) fails.1 in
    let panel_is = ap (λ w. w.panel.now) fails.1 in
    let is : c.from_residual.result ≡ Err c.in_err-event.field-0.0 = search rules in
    err_is _ _ _ is (known_fails g.L.LineOut.puts g.P.Audience.ears _ _ _ last.out.now _ last.panel.now _ last.stop fails.0.fault (out_is ∙ (search rules)) (panel_is ∙ (search rules)) moved)
