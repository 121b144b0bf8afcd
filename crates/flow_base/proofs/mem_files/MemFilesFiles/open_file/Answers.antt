use Rattle.flow_base.proofs.MemoryFiles.{opens_seen}
use Rattle.flow_base.proofs.mem_files.MemFilesFiles.open_file.Goals as goal

pub returns-clause-opens : goal.returns-clause-opens
returns-clause-opens c = opens_seen c.args.self.now c.open_next.new.self c.args.name.now c.open_next.result c.open_next.ensures
