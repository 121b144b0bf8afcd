use Rattle.flow_validate.proofs.Passing.{throws, reads, fills, empties, waits}
use Rattle.flow_validate.proofs.window.Passage.touched.Goals as goal

pub returns-in-Throws : goal.returns-in-Throws
returns-in-Throws c = λ s h. throws c.args.window c.args.self s c.args.touch h c.in-Throws.is

pub returns-in-Reads : goal.returns-in-Reads
returns-in-Reads c = λ s h. reads c.args.window c.args.self s c.args.touch c.in-Reads.place c.bit.result c.bit.ensures h c.in-Reads.is

pub returns-in-Fills : goal.returns-in-Fills
returns-in-Fills c = λ s h.
    fills c.args.window c.args.self s c.args.touch c.in-Fills.place c.bit-in-Fills.result c.bit-in-Fills.type_inv c.bit-in-Fills.ensures h c.in-Fills.is

pub returns-in-Empties : goal.returns-in-Empties
returns-in-Empties c = λ s h.
    empties c.args.window c.args.self s c.args.touch c.in-Empties.number c.bit-in-Empties.result c.bit-in-Empties.ensures h c.in-Empties.is

pub returns-in-Waits : goal.returns-in-Waits
returns-in-Waits c = λ s h. waits c.args.window c.args.self s c.args.touch c.all_locals.result c.all_locals.ensures h c.in-Waits.is
