use Rattle.std.proofs.Common.{sym, ◌∙◌, ◌≡◌, ◌+◌, subst, arith}
use Rattle.std.proofs.lemmas.Result.{err_from_is_err_and}
use Rattle.flow_tree.specs.declared.token.Token.TheVariants as token
use Rattle.flow_tree.specs.declared.token.Sign.TheVariants as sign
use Rattle.flow_tree.specs.StmtView.{into_of}
use Rattle.flow_parse.specs.Openers.{IntoToken}
use Rattle.flow_parse.specs.Reading.{Named, Any, Reads}
use Rattle.flow_parse.specs.Follow.{Before}
use Rattle.flow_parse.specs.Parts.{IntoPart, DeclaredRule}
use Rattle.flow_parse.specs.Views.{counts_of}
use Rattle.flow_parse.proofs.Begins.{into_starts}
use Rattle.flow_parse.proofs.Leaves.{then_reads, done, moved, placed_reads, placed_fails, first_fails, fails, name_reads, nameless, name_token}
use Rattle.flow_parse.proofs.Deeper.{moved_fails}
use Rattle.flow_parse.proofs.Unended.{init_left, init_named, init_change, declared_link, named_declared_link, path_change_link}
use Rattle.flow_parse.proofs.simple.init.Goals as goal

pub returns-in_err-read-clause-reads : goal.returns-in_err-read-clause-reads
returns-in_err-read-clause-reads c =
    let t = c.args.tokens.now in
    let l = init_left c.args.around.limits t c.args.at c.args.around.routine c.args.around.depth (counts_of c.args.around.counts) c.requires.within
    (nameless t c.args.at (sym c.in_ok-first.ensures.is ∙ c.in_default.is)) in
    let p = err_from_is_err_and c.from_residual-in_err-read.result c.from_residual-in_err-read.ensures.1 in
    rw (p.1, p.2) (first_fails c.args.around.limits t (declared_link c.args.around.routine c.args.around.depth (counts_of c.args.around.counts)) l c.in_err-read.field-0.0
    (placed_fails c.args.around.limits (IntoPart c.args.around.routine c.args.around.depth (counts_of c.args.around.counts)) Any IntoToken
    (λ w a r. into_starts r) t c.args.at c.in_err-read.field-0.0 c.in_err-read.ensures.reads))

pub returns-in_err-stmt-clause-reads : goal.returns-in_err-stmt-clause-reads
returns-in_err-stmt-clause-reads c =
    let t = c.args.tokens.now in
    let l = init_left c.args.around.limits t c.args.at c.args.around.routine c.args.around.depth (counts_of c.args.around.counts) c.requires.within
    (nameless t c.args.at (sym c.in_ok-first.ensures.is ∙ c.in_default.is)) in
    let m = then_reads c.args.around.limits t.spots.items (declared_link c.args.around.routine c.args.around.depth (counts_of c.args.around.counts)) l
    (placed_reads c.args.around.limits t c.args.at c.in_ok-read.read.to c.in_ok-read.ensures.moves.0 c.in_ok-read.ensures.reads) in
    let p = err_from_is_err_and c.from_residual-in_err-stmt.result c.from_residual-in_err-stmt.ensures.1 in
    rw (p.1, p.2) (fails c.args.around.limits t m c.in_err-stmt.field-0.0
    (moved_fails c.args.around.limits (λ p. DeclaredRule c.args.around.depth p (into_of c.in_ok-read.read.into)) (Before (token.Sign sign.Semicolon)) t c.in_ok-read.read.to c.in_err-stmt.field-0.0
    c.place-here.ensures (c.in_err-stmt.ensures.reads c.args.around.limits)))

pub returns-in_default-clause-reads : goal.returns-in_default-clause-reads
returns-in_default-clause-reads c =
    let t = c.args.tokens.now in
    let l = init_left c.args.around.limits t c.args.at c.args.around.routine c.args.around.depth (counts_of c.args.around.counts) c.requires.within
    (nameless t c.args.at (sym c.in_ok-first.ensures.is ∙ c.in_default.is)) in
    let m = then_reads c.args.around.limits t.spots.items (declared_link c.args.around.routine c.args.around.depth (counts_of c.args.around.counts)) l
    (placed_reads c.args.around.limits t c.args.at c.in_ok-read.read.to c.in_ok-read.ensures.moves.0 c.in_ok-read.ensures.reads) in
    rw c.ended.ensures.is (done c.args.around.limits t.spots.items m
    (moved c.args.around.limits (λ p. DeclaredRule c.args.around.depth p (into_of c.in_ok-read.read.into)) c.place-here.ensures (c.in_ok-stmt.ensures.reads c.args.around.limits)))

pub returns-in_err-path-clause-reads : goal.returns-in_err-path-clause-reads
returns-in_err-path-clause-reads c =
    let t = c.args.tokens.now in
    let x = c.in-Some.first in
    let r = name_reads c.args.around.limits t c.args.at x (sym c.in_ok-first.ensures.is ∙ c.in-Some.is) in
    let l = init_change c.args.around.limits t c.args.at c.args.around.routine c.args.around.depth (counts_of c.args.around.counts) x r
    (nameless t (c.args.at + 1) (sym c.in_ok-second.ensures.is ∙ c.in_default-2.is)) in
    let p = err_from_is_err_and c.from_residual-in_err-path.result c.from_residual-in_err-path.ensures.1 in
    rw (p.1, p.2) (first_fails c.args.around.limits t (path_change_link c.args.around.depth x) l c.in_err-path.field-0.0 (c.in_err-path.ensures.reads c.args.around.limits))

pub returns-in_err-stmt-2-clause-reads : goal.returns-in_err-stmt-2-clause-reads
returns-in_err-stmt-2-clause-reads c =
    let t = c.args.tokens.now in
    let x = c.in-Some.first in
    let r = name_reads c.args.around.limits t c.args.at x (sym c.in_ok-first.ensures.is ∙ c.in-Some.is) in
    let l = init_change c.args.around.limits t c.args.at c.args.around.routine c.args.around.depth (counts_of c.args.around.counts) x r
    (nameless t (c.args.at + 1) (sym c.in_ok-second.ensures.is ∙ c.in_default-2.is)) in
    let m = then_reads c.args.around.limits t.spots.items (path_change_link c.args.around.depth x) l (c.in_ok-path.ensures.reads c.args.around.limits) in
    let p = err_from_is_err_and c.from_residual-in_err-stmt-2.result c.from_residual-in_err-stmt-2.ensures.1 in
    rw (p.1, p.2) (fails c.args.around.limits t m c.in_err-stmt-2.field-0.0 (c.in_err-stmt-2.ensures.reads c.args.around.limits))

pub returns-in_default-2-clause-reads : goal.returns-in_default-2-clause-reads
returns-in_default-2-clause-reads c =
    let t = c.args.tokens.now in
    let x = c.in-Some.first in
    let r = name_reads c.args.around.limits t c.args.at x (sym c.in_ok-first.ensures.is ∙ c.in-Some.is) in
    let l = init_change c.args.around.limits t c.args.at c.args.around.routine c.args.around.depth (counts_of c.args.around.counts) x r
    (nameless t (c.args.at + 1) (sym c.in_ok-second.ensures.is ∙ c.in_default-2.is)) in
    let m = then_reads c.args.around.limits t.spots.items (path_change_link c.args.around.depth x) l (c.in_ok-path.ensures.reads c.args.around.limits) in
    rw c.ended-in_default-2.ensures.is (done c.args.around.limits t.spots.items m (c.in_ok-stmt-2.ensures.reads c.args.around.limits))

pub returns-in_err-stmt-3-clause-reads : goal.returns-in_err-stmt-3-clause-reads
returns-in_err-stmt-3-clause-reads c =
    let t = c.args.tokens.now in
    let x = c.in-Some.first in
    let r = name_reads c.args.around.limits t c.args.at x (sym c.in_ok-first.ensures.is ∙ c.in-Some.is) in
    let y = c.in-Some-2.second in
    let e = sym c.in_ok-second.ensures.is ∙ c.in-Some-2.is in
    let l = init_named c.args.around.limits t c.args.at c.args.around.routine c.args.around.depth (counts_of c.args.around.counts) x r y.name c.requires.shallow (name_token t (c.args.at + 1) y e) in
    let j : c.args.at + 1 + 1 ≡ c.args.at + 2 = omega arith in
    let m = then_reads c.args.around.limits t.spots.items (named_declared_link c.args.around.depth x) l
    (subst (λ k. Reads c.args.around.limits Named Any t.spots.items (c.args.at + 1) y k) j (name_reads c.args.around.limits t (c.args.at + 1) y e)) in
    let p = err_from_is_err_and c.from_residual-in_err-stmt-3.result c.from_residual-in_err-stmt-3.ensures.1 in
    rw (p.1, p.2) (fails c.args.around.limits t m c.in_err-stmt-3.field-0.0
    (moved_fails c.args.around.limits (DeclaredRule c.args.around.depth x.at) (Before (token.Sign sign.Semicolon)) t (c.args.at + 2) c.in_err-stmt-3.field-0.0 c.named_into.ensures
    (c.in_err-stmt-3.ensures.reads c.args.around.limits)))

pub returns-clause-reads : goal.returns-clause-reads
returns-clause-reads c =
    let t = c.args.tokens.now in
    let x = c.in-Some.first in
    let r = name_reads c.args.around.limits t c.args.at x (sym c.in_ok-first.ensures.is ∙ c.in-Some.is) in
    let y = c.in-Some-2.second in
    let e = sym c.in_ok-second.ensures.is ∙ c.in-Some-2.is in
    let l = init_named c.args.around.limits t c.args.at c.args.around.routine c.args.around.depth (counts_of c.args.around.counts) x r y.name c.requires.shallow (name_token t (c.args.at + 1) y e) in
    let j : c.args.at + 1 + 1 ≡ c.args.at + 2 = omega arith in
    let m = then_reads c.args.around.limits t.spots.items (named_declared_link c.args.around.depth x) l
    (subst (λ k. Reads c.args.around.limits Named Any t.spots.items (c.args.at + 1) y k) j (name_reads c.args.around.limits t (c.args.at + 1) y e)) in
    rw c.ended-2.ensures.is (done c.args.around.limits t.spots.items m
    (moved c.args.around.limits (DeclaredRule c.args.around.depth x.at) c.named_into.ensures (c.in_ok-stmt-3.ensures.reads c.args.around.limits)))
