use Rattle.std.specs.Io.KnownBytes.{Keeps}
use Rattle.std.proofs.KnownBytes.{Keeps-refl}
use Rattle.flow_system.proofs.OverOpener.{advances_none, on_err}
use Rattle.flow_system.proofs.opened.Opened.read_on.Goals as goal

pub returns-in_err-reserve-clause-unread : goal.returns-in_err-reserve-clause-unread
returns-in_err-reserve-clause-unread g c =
    on_err c.from_residual.result (advances_none _ _ _ _ _ c.reserve.ensures.items (Keeps-refl (g.R.Read.remaining c.args.self.now.file)))

pub returns-in_err-count-clause-unread : goal.returns-in_err-count-clause-unread
returns-in_err-count-clause-unread g c =
    on_err c.from_residual-in_err-count.result (advances_none _ _ _ _ _ c.reserve.ensures.items c.in_err-count.ensures.bytes)
