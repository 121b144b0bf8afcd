use Rattle.flow_tree.specs.declared.limits.TheConstants.{OF_CLASS_TEXT}
use Rattle.flow_classread.proofs.WholeReads.{whole_none, whole_memory, whole_stray}
use Rattle.flow_classread.proofs.expr.whole.Goals as goal

pub returns-in_default-clause-reads : goal.returns-in_default-clause-reads
returns-in_default-clause-reads c = whole_memory c.args.tokens.now c.args.at c.requires.within c.expr-read.result (c.in_default.ensures) (c.expr-read.ensures.reads OF_CLASS_TEXT)

pub returns-in-Some-first_stray-clause-reads : goal.returns-in-Some-first_stray-clause-reads
returns-in-Some-first_stray-clause-reads c =
    rw c.refused.ensures (whole_stray c.args.tokens.now c.args.at c.requires.within c.requires.rising c.in-Some.until c.in-Some-first_stray.stray c.in-Some-first_stray.ensures c.expr-read.result
    c.in-Some.ensures (c.expr-read.ensures.reads OF_CLASS_TEXT))

pub returns-in-None-clause-reads : goal.returns-in-None-clause-reads
returns-in-None-clause-reads c =
    whole_none c.args.tokens.now c.args.at c.requires.within c.requires.rising c.in-Some.until c.in-None.ensures c.expr-read.result c.in-Some.ensures (c.expr-read.ensures.reads OF_CLASS_TEXT)
