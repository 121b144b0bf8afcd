use Rattle.flow_base.proofs.MemoryFiles.{reads_seen, ends_seen, unread_seen}
use Rattle.flow_base.proofs.mem_files.MemFilesFiles.read.Goals as goal

pub returns-clause-reads : goal.returns-clause-reads
returns-clause-reads c =
    reads_seen c.args.self.now c.read_next.new.self c.args.file.0 c.args.buf.now c.read_next.new.buf c.read_next.result c.requires c.read_next.ensures

pub returns-clause-end : goal.returns-clause-end
returns-clause-end c =
    ends_seen c.args.self.now c.read_next.new.self c.args.file.0 c.args.buf.now c.read_next.new.buf c.read_next.result c.requires c.read_next.ensures

pub returns-clause-unread : goal.returns-clause-unread
returns-clause-unread c =
    unread_seen c.args.self.now c.read_next.new.self c.args.file.0 c.args.buf.now c.read_next.new.buf c.read_next.result c.read_next.ensures
