use Rattle.std.proofs.Common.{[], take, subst, sym}
use Rattle.std.specs.Io.KnownBytes.{IsAtEnd}
use Rattle.flow_system.specs.Opened.{opened_seen}
use Rattle.flow_base.specs.Seen.{Opening}
use Rattle.flow_system.proofs.OverOpener.{advances_at, opened_then}
use Rattle.flow_system.proofs.opened.OpenedFilesFiles.read.Goals as goal

pub returns-in-Ok-clause-reads : goal.returns-in-Ok-clause-reads
returns-in-Ok-clause-reads g c =
    advances_at (opened_seen g.O.File.Read.remaining) c.args.self.now.openings.items c.args.file.0 _ c.index_mut.result.now c.read_on.new.self
    (take c.in-Ok.count c.read_on.new.buf) c.requires c.index_mut.ensures.value c.in-Ok.ensures.reads

pub returns-in-Ok-clause-end : goal.returns-in-Ok-clause-end
returns-in-Ok-clause-end g c = λ none room.
    subst (λ (o : Opening). IsAtEnd o.left)
    (sym (opened_then (opened_seen g.O.File.Read.remaining) c.args.self.now.openings.items c.args.file.0 c.read_on.new.self c.requires))
    (c.in-Ok.ensures.end none room)

pub returns-in-Err-clause-unread : goal.returns-in-Err-clause-unread
returns-in-Err-clause-unread g c =
    advances_at (opened_seen g.O.File.Read.remaining) c.args.self.now.openings.items c.args.file.0 _ c.index_mut.result.now c.read_on.new.self
    [] c.requires c.index_mut.ensures.value c.in-Err.ensures.unread
