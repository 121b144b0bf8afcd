use Rattle.std.proofs.Common.{[], ◌∷◌, ◌++◌, ap, ap₂, ◌∙◌, map, option_map}
use Rattle.std.specs.String.{string_bytes}
use Rattle.flow_monitor.specs.Ears.{Listener}
use Rattle.flow_monitor.proofs.attach.push_begun.Goals as goal

pub returns : goal.returns
returns g c =
    let f : _ → Listener = λ s. record { name = string_bytes s.name; ear = option_map (λ m. (goal.Monitor-dyn g (m.vtable, m.value)).ear m.value) s.monitor } in
    c.in_ok-push_seat.ensures ∙ ap (λ l. map f c.args.seats.now.items ++ l ∷ []) (ap₂ (λ n e. record { name = n; ear = e }) c.in_ok-seat.ensures.name c.in_ok-seat.ensures.ear)
