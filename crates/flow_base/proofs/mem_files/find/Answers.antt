use Rattle.std.proofs.Common.{sym, ◌∙◌}
use Rattle.flow_base.proofs.MemoryFiles.{place_is}
use Rattle.flow_base.proofs.mem_files.find.Goals as goal

pub returns : goal.returns
returns c = c.first_named.ensures ∙ sym (place_is c.args.files.now c.args.name.now)
