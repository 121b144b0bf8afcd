use Rattle.std.proofs.Common.{rules, ◌≡◌, ◌+◌, ◌<◌, refl, subst}
use Rattle.std.specs.Prelude.{Ok, Err}
use Rattle.flow_trace.specs.declared.line.Line.TheVariants.{Send, LostCut, LostDraw}
use Rattle.flow_simnet.specs.declared.packet.Fate.TheVariants.{Cut, Drawn, At}
use Rattle.flow_world.specs.Changes.{seen, fate_of, letter, sent_by}
use Rattle.flow_world.proofs.ServedAround.{handed_on, packet_cut, packet_lost, packet_goes, packet_in_part, line_in_part}
use Rattle.flow_world.proofs.Putting.{on_err}
use Rattle.flow_world.specs.Around.{no_more, put_then, put_fails}
use Rattle.flow_world.proofs.around.AroundHost.packet.Goals as goal

pub returns-in-Cut-clause-served : goal.returns-in-Cut-clause-served
returns-in-Cut-clause-served g c =
    let here = seen c.args.self.now.outside.now in
    let text : c.in_ok-copy.copy ≡ c.args.text = search rules in
    let number : c.in_ok-number.number ≡ here.net.sent + 1 = search rules in
    let mine : c.args.self.now.me.0 < here.net.processes = search rules in
    let theirs : c.args.to.0 < here.net.processes = search rules in
    let sent : g.L.LineOut.puts c.args.self.now.out.now (Send c.in_ok-number.number c.args.to c.args.port c.args.text) (Ok tt) c.tell.new.out =
    subst (λ t. g.L.LineOut.puts c.args.self.now.out.now (Send c.in_ok-number.number c.args.to c.args.port t) (Ok tt) c.tell.new.out) text c.in_ok-tell.ensures.puts in
    let fate : Cut ≡ fate_of here c.args.self.now.me c.args.to = search rules in
    let left : seen c.send.new.self ≡ sent_by Cut (letter c.args.self.now.me c.args.to c.args.port c.args.text) here = search rules in
    packet_cut g.L.LineOut.puts c.args.self.now.me c.args.self.now.ports.now (seen c.args.self.now.outside.now)
    c.args.to c.args.port c.args.text mine theirs
    c.tell-in-Cut.result c.args.self.now.out.now c.tell.new.out c.tell-in-Cut.new.out (seen c.send.new.self) c.in_ok-number.number
    number fate sent c.tell-in-Cut.ensures.puts left

pub returns-in-Drawn-clause-served : goal.returns-in-Drawn-clause-served
returns-in-Drawn-clause-served g c =
    let here = seen c.args.self.now.outside.now in
    let text : c.in_ok-copy.copy ≡ c.args.text = search rules in
    let number : c.in_ok-number.number ≡ here.net.sent + 1 = search rules in
    let mine : c.args.self.now.me.0 < here.net.processes = search rules in
    let theirs : c.args.to.0 < here.net.processes = search rules in
    let sent : g.L.LineOut.puts c.args.self.now.out.now (Send c.in_ok-number.number c.args.to c.args.port c.args.text) (Ok tt) c.tell.new.out =
    subst (λ t. g.L.LineOut.puts c.args.self.now.out.now (Send c.in_ok-number.number c.args.to c.args.port t) (Ok tt) c.tell.new.out) text c.in_ok-tell.ensures.puts in
    let fate : Drawn ≡ fate_of here c.args.self.now.me c.args.to = search rules in
    let left : seen c.send.new.self ≡ sent_by Drawn (letter c.args.self.now.me c.args.to c.args.port c.args.text) here = search rules in
    packet_lost g.L.LineOut.puts c.args.self.now.me c.args.self.now.ports.now (seen c.args.self.now.outside.now)
    c.args.to c.args.port c.args.text mine theirs
    c.tell-in-Drawn.result c.args.self.now.out.now c.tell.new.out c.tell-in-Drawn.new.out (seen c.send.new.self) c.in_ok-number.number
    number fate sent c.tell-in-Drawn.ensures.puts left

pub returns-in-At-clause-served : goal.returns-in-At-clause-served
returns-in-At-clause-served g c =
    let here = seen c.args.self.now.outside.now in
    let text : c.in_ok-copy.copy ≡ c.args.text = search rules in
    let number : c.in_ok-number.number ≡ here.net.sent + 1 = search rules in
    let mine : c.args.self.now.me.0 < here.net.processes = search rules in
    let theirs : c.args.to.0 < here.net.processes = search rules in
    let sent : g.L.LineOut.puts c.args.self.now.out.now (Send c.in_ok-number.number c.args.to c.args.port c.args.text) (Ok tt) c.tell.new.out =
    subst (λ t. g.L.LineOut.puts c.args.self.now.out.now (Send c.in_ok-number.number c.args.to c.args.port t) (Ok tt) c.tell.new.out) text c.in_ok-tell.ensures.puts in
    let fate : At c.in-At.time ≡ fate_of here c.args.self.now.me c.args.to = search rules in
    let left : seen c.send.new.self ≡ sent_by (At c.in-At.time) (letter c.args.self.now.me c.args.to c.args.port c.args.text) here = search rules in
    handed_on _ c.or_fault-in-At.result c.add.result c.or_fault-in-At.ensures.same (packet_goes g.L.LineOut.puts c.args.self.now.me c.args.self.now.ports.now (seen c.args.self.now.outside.now)
    c.args.to c.args.port c.args.text mine theirs
    c.add.result c.args.self.now.out.now c.tell.new.out (seen c.add.new.self) (seen c.send.new.self) c.in_ok-number.number c.in-At.time
    number fate sent left c.add.ensures.added)

pub returns-in_err-number-clause-broke : goal.returns-in_err-number-clause-broke
returns-in_err-number-clause-broke g c = on_err _ c.from_residual.result (λ ps w h. no_more)

pub returns-in_err-copy-clause-broke : goal.returns-in_err-copy-clause-broke
returns-in_err-copy-clause-broke g c = on_err _ c.from_residual-in_err-copy.result (λ ps w h. no_more)

pub returns-in_err-tell-clause-broke : goal.returns-in_err-tell-clause-broke
returns-in_err-tell-clause-broke g c =
    let here = seen c.args.self.now.outside.now in
    let text : c.in_ok-copy.copy ≡ c.args.text = search rules in
    let number : c.in_ok-number.number ≡ here.net.sent + 1 = search rules in
    let mine : c.args.self.now.me.0 < here.net.processes = search rules in
    let theirs : c.args.to.0 < here.net.processes = search rules in
    on_err _ c.from_residual-in_err-tell.result (packet_in_part g.L.LineOut.puts c.args.self.now.me c.args.self.now.ports.now here c.args.to c.args.port c.args.text mine theirs
    c.args.self.now.out.now c.tell.new.out c.in_ok-number.number number
    (put_fails (subst (λ t. g.L.LineOut.puts c.args.self.now.out.now (Send c.in_ok-number.number c.args.to c.args.port t) (Err c.in_err-tell.field-0.0) c.tell.new.out) text c.in_err-tell.ensures.puts)))

pub returns-in_err-or_fault-clause-broke : goal.returns-in_err-or_fault-clause-broke
returns-in_err-or_fault-clause-broke g c =
    let here = seen c.args.self.now.outside.now in
    let text : c.in_ok-copy.copy ≡ c.args.text = search rules in
    let number : c.in_ok-number.number ≡ here.net.sent + 1 = search rules in
    let mine : c.args.self.now.me.0 < here.net.processes = search rules in
    let theirs : c.args.to.0 < here.net.processes = search rules in
    let sent : g.L.LineOut.puts c.args.self.now.out.now (Send c.in_ok-number.number c.args.to c.args.port c.args.text) (Ok tt) c.tell.new.out =
    subst (λ t. g.L.LineOut.puts c.args.self.now.out.now (Send c.in_ok-number.number c.args.to c.args.port t) (Ok tt) c.tell.new.out) text c.in_ok-tell.ensures.puts in
    on_err _ c.from_residual-in_err-or_fault.result (packet_in_part g.L.LineOut.puts c.args.self.now.me c.args.self.now.ports.now here c.args.to c.args.port c.args.text mine theirs
    c.args.self.now.out.now c.tell.new.out c.in_ok-number.number number (put_then sent no_more))

pub returns-in-Cut-clause-broke : goal.returns-in-Cut-clause-broke
returns-in-Cut-clause-broke g c =
    let here = seen c.args.self.now.outside.now in
    let text : c.in_ok-copy.copy ≡ c.args.text = search rules in
    let number : c.in_ok-number.number ≡ here.net.sent + 1 = search rules in
    let mine : c.args.self.now.me.0 < here.net.processes = search rules in
    let theirs : c.args.to.0 < here.net.processes = search rules in
    let sent : g.L.LineOut.puts c.args.self.now.out.now (Send c.in_ok-number.number c.args.to c.args.port c.args.text) (Ok tt) c.tell.new.out =
    subst (λ t. g.L.LineOut.puts c.args.self.now.out.now (Send c.in_ok-number.number c.args.to c.args.port t) (Ok tt) c.tell.new.out) text c.in_ok-tell.ensures.puts in
    let fate : Cut ≡ fate_of here c.args.self.now.me c.args.to = search rules in
    line_in_part g.L.LineOut.puts c.args.self.now.me c.args.self.now.ports.now here c.args.to c.args.port c.args.text mine theirs
    c.tell-in-Cut.result c.args.self.now.out.now c.tell.new.out c.tell-in-Cut.new.out c.in_ok-number.number Cut (LostCut c.in_ok-number.number)
    number fate refl sent c.tell-in-Cut.ensures.puts

pub returns-in-Drawn-clause-broke : goal.returns-in-Drawn-clause-broke
returns-in-Drawn-clause-broke g c =
    let here = seen c.args.self.now.outside.now in
    let text : c.in_ok-copy.copy ≡ c.args.text = search rules in
    let number : c.in_ok-number.number ≡ here.net.sent + 1 = search rules in
    let mine : c.args.self.now.me.0 < here.net.processes = search rules in
    let theirs : c.args.to.0 < here.net.processes = search rules in
    let sent : g.L.LineOut.puts c.args.self.now.out.now (Send c.in_ok-number.number c.args.to c.args.port c.args.text) (Ok tt) c.tell.new.out =
    subst (λ t. g.L.LineOut.puts c.args.self.now.out.now (Send c.in_ok-number.number c.args.to c.args.port t) (Ok tt) c.tell.new.out) text c.in_ok-tell.ensures.puts in
    let fate : Drawn ≡ fate_of here c.args.self.now.me c.args.to = search rules in
    line_in_part g.L.LineOut.puts c.args.self.now.me c.args.self.now.ports.now here c.args.to c.args.port c.args.text mine theirs
    c.tell-in-Drawn.result c.args.self.now.out.now c.tell.new.out c.tell-in-Drawn.new.out c.in_ok-number.number Drawn (LostDraw c.in_ok-number.number)
    number fate refl sent c.tell-in-Drawn.ensures.puts

pub returns-in-At-clause-broke : goal.returns-in-At-clause-broke
returns-in-At-clause-broke g c =
    let here = seen c.args.self.now.outside.now in
    let text : c.in_ok-copy.copy ≡ c.args.text = search rules in
    let number : c.in_ok-number.number ≡ here.net.sent + 1 = search rules in
    let mine : c.args.self.now.me.0 < here.net.processes = search rules in
    let theirs : c.args.to.0 < here.net.processes = search rules in
    let sent : g.L.LineOut.puts c.args.self.now.out.now (Send c.in_ok-number.number c.args.to c.args.port c.args.text) (Ok tt) c.tell.new.out =
    subst (λ t. g.L.LineOut.puts c.args.self.now.out.now (Send c.in_ok-number.number c.args.to c.args.port t) (Ok tt) c.tell.new.out) text c.in_ok-tell.ensures.puts in
    on_err _ c.or_fault-in-At.result (packet_in_part g.L.LineOut.puts c.args.self.now.me c.args.self.now.ports.now here c.args.to c.args.port c.args.text mine theirs
    c.args.self.now.out.now c.tell.new.out c.in_ok-number.number number (put_then sent no_more))
