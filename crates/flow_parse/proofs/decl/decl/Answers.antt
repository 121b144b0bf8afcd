use Rattle.std.proofs.Common.{refl}
use Rattle.std.proofs.lemmas.Result.{err_from_is_err_and}
use Rattle.flow_tree.specs.GrammarDecl.{DeclRule}
use Rattle.flow_parse.specs.Reading.{Any, token_at}
use Rattle.flow_parse.proofs.Looking.{not_true}
use Rattle.flow_parse.proofs.Leaves.{nothing, narrow, become, fails}
use Rattle.flow_parse.proofs.Decls.{record_turns, actor_turns, function_turns}
use Rattle.flow_parse.proofs.decl.decl.Goals as goal

pub returns-in_err-record-clause-reads : goal.returns-in_err-record-clause-reads
returns-in_err-record-clause-reads c =
    let t = c.args.tokens.now in
    let l = narrow c.args.limits t.spots.items (c.if-is_word.ensures.word.0 refl) record_turns (nothing c.args.limits t.spots.items DeclRule Any c.args.at c.requires.within) in
    let p = err_from_is_err_and c.from_residual.result c.from_residual.ensures.1 in
    rw (p.1, p.2) (fails c.args.limits t l _ c.in_err-record.ensures.reads)

pub returns-then-is_word-clause-reads : goal.returns-then-is_word-clause-reads
returns-then-is_word-clause-reads c = become c.args.limits c.args.tokens.now.spots.items (c.if-is_word.ensures.word.0 refl) record_turns c.in_ok-record.ensures.reads

pub returns-in_err-actor-clause-reads : goal.returns-in_err-actor-clause-reads
returns-in_err-actor-clause-reads c =
    let t = c.args.tokens.now in
    let l = narrow c.args.limits t.spots.items (c.if-is_word-2.ensures.word.0 refl) actor_turns (nothing c.args.limits t.spots.items DeclRule Any c.args.at c.requires.within) in
    let p = err_from_is_err_and c.from_residual-in_err-actor.result c.from_residual-in_err-actor.ensures.1 in
    rw (p.1, p.2) (fails c.args.limits t l _ c.in_err-actor.ensures.reads)

pub returns-then-is_word-2-clause-reads : goal.returns-then-is_word-2-clause-reads
returns-then-is_word-2-clause-reads c = become c.args.limits c.args.tokens.now.spots.items (c.if-is_word-2.ensures.word.0 refl) actor_turns c.in_ok-actor.ensures.reads

pub returns-in_err-function-clause-reads : goal.returns-in_err-function-clause-reads
returns-in_err-function-clause-reads c =
    let t = c.args.tokens.now in
    let u = function_turns (token_at t.spots.items c.args.at) (λ e. not_true (c.if-is_word.ensures.word.1 e)) (λ e. not_true (c.if-is_word-2.ensures.word.1 e)) in
    let l = narrow c.args.limits t.spots.items refl u (nothing c.args.limits t.spots.items DeclRule Any c.args.at c.requires.within) in
    let p = err_from_is_err_and c.from_residual-in_err-function.result c.from_residual-in_err-function.ensures.1 in
    rw (p.1, p.2) (fails c.args.limits t l _ c.in_err-function.ensures.reads)

pub returns-clause-reads : goal.returns-clause-reads
returns-clause-reads c =
    let t = c.args.tokens.now in
    let u = function_turns (token_at t.spots.items c.args.at) (λ e. not_true (c.if-is_word.ensures.word.1 e)) (λ e. not_true (c.if-is_word-2.ensures.word.1 e)) in
    become c.args.limits t.spots.items refl u c.in_ok-function.ensures.reads
