use Rattle.std.proofs.Common.{refl}
use Rattle.std.proofs.lemmas.Result.{err_from_is_err_and}
use Rattle.flow_tree.specs.declared.limits.TheConstants.{OF_CLASS_TEXT}
use Rattle.flow_parse.specs.Reading.{token_at, Any}
use Rattle.flow_parse.proofs.Looking.{not_true}
use Rattle.flow_parse.proofs.Leaves.{nothing, narrow, done, fails}
use Rattle.flow_classread.proofs.Combine.{behind_here, behind_reads, behind_fails}
use Rattle.std.specs.Prelude.{codes}
use Rattle.flow_tree.specs.declared.token.Token.TheVariants as token
use Rattle.flow_classprint.specs.ClassGrammar.{InstrRule}
use Rattle.flow_classread.proofs.InstrForms.{set_turns, do_turns, new_turns, act_turns, drop_else, some_assignment, some_new, some_act, some_drop}
use Rattle.flow_classread.proofs.instr.instr.Goals as goal

pub returns-in_err-to-clause-reads : goal.returns-in_err-to-clause-reads
returns-in_err-to-clause-reads c =
    let t = c.args.tokens.now in
    let l = behind_here t (token.Name (codes "set")) some_assignment
    (narrow OF_CLASS_TEXT t.spots.items (c.if-says.ensures.says.0 refl) set_turns (nothing OF_CLASS_TEXT t.spots.items InstrRule Any c.args.at c.requires.within))
    (c.if-says.ensures.says.0 refl) in
    let p = err_from_is_err_and c.from_residual.result c.from_residual.ensures.1 in
    rw (p.1, p.2) (fails OF_CLASS_TEXT t l _ c.in_err-to.ensures.reads)

pub returns-then-says-clause-reads : goal.returns-then-says-clause-reads
returns-then-says-clause-reads c =
    let t = c.args.tokens.now in
    let l = behind_here t (token.Name (codes "set")) some_assignment
    (narrow OF_CLASS_TEXT t.spots.items (c.if-says.ensures.says.0 refl) set_turns (nothing OF_CLASS_TEXT t.spots.items InstrRule Any c.args.at c.requires.within))
    (c.if-says.ensures.says.0 refl) in
    done OF_CLASS_TEXT t.spots.items l c.in_ok-to.ensures.reads

pub returns-in_err-to-2-clause-reads : goal.returns-in_err-to-2-clause-reads
returns-in_err-to-2-clause-reads c =
    let t = c.args.tokens.now in
    let l = behind_here t (token.Name (codes "do")) some_assignment
    (narrow OF_CLASS_TEXT t.spots.items (c.if-says-2.ensures.says.0 refl) do_turns (nothing OF_CLASS_TEXT t.spots.items InstrRule Any c.args.at c.requires.within))
    (c.if-says-2.ensures.says.0 refl) in
    let p = err_from_is_err_and c.from_residual-in_err-to-2.result c.from_residual-in_err-to-2.ensures.1 in
    rw (p.1, p.2) (fails OF_CLASS_TEXT t l _ c.in_err-to-2.ensures.reads)

pub returns-then-says-2-clause-reads : goal.returns-then-says-2-clause-reads
returns-then-says-2-clause-reads c =
    let t = c.args.tokens.now in
    let l = behind_here t (token.Name (codes "do")) some_assignment
    (narrow OF_CLASS_TEXT t.spots.items (c.if-says-2.ensures.says.0 refl) do_turns (nothing OF_CLASS_TEXT t.spots.items InstrRule Any c.args.at c.requires.within))
    (c.if-says-2.ensures.says.0 refl) in
    done OF_CLASS_TEXT t.spots.items l c.in_ok-to-2.ensures.reads

pub returns-in_err-instr-clause-reads : goal.returns-in_err-instr-clause-reads
returns-in_err-instr-clause-reads c =
    let t = c.args.tokens.now in
    let l = behind_here t (token.Name (codes "new")) some_new (narrow OF_CLASS_TEXT t.spots.items (c.if-says-3.ensures.says.0 refl) new_turns
    (nothing OF_CLASS_TEXT t.spots.items InstrRule Any c.args.at c.requires.within)) (c.if-says-3.ensures.says.0 refl) in
    let p = err_from_is_err_and c.from_residual-in_err-instr.result c.from_residual-in_err-instr.ensures.1 in
    rw (p.1, p.2) (fails OF_CLASS_TEXT t l _ c.in_err-instr.ensures.reads)

pub returns-then-says-3-clause-reads : goal.returns-then-says-3-clause-reads
returns-then-says-3-clause-reads c =
    let t = c.args.tokens.now in
    let l = behind_here t (token.Name (codes "new")) some_new (narrow OF_CLASS_TEXT t.spots.items (c.if-says-3.ensures.says.0 refl) new_turns
    (nothing OF_CLASS_TEXT t.spots.items InstrRule Any c.args.at c.requires.within)) (c.if-says-3.ensures.says.0 refl) in
    done OF_CLASS_TEXT t.spots.items l c.in_ok-instr.ensures.reads

pub returns-in_err-instr-2-clause-reads : goal.returns-in_err-instr-2-clause-reads
returns-in_err-instr-2-clause-reads c =
    let t = c.args.tokens.now in
    let l = behind_here t (token.Name (codes "act")) some_act (narrow OF_CLASS_TEXT t.spots.items (c.if-says-4.ensures.says.0 refl) act_turns
    (nothing OF_CLASS_TEXT t.spots.items InstrRule Any c.args.at c.requires.within)) (c.if-says-4.ensures.says.0 refl) in
    let p = err_from_is_err_and c.from_residual-in_err-instr-2.result c.from_residual-in_err-instr-2.ensures.1 in
    rw (p.1, p.2) (fails OF_CLASS_TEXT t l _ c.in_err-instr-2.ensures.reads)

pub returns-then-says-4-clause-reads : goal.returns-then-says-4-clause-reads
returns-then-says-4-clause-reads c =
    let t = c.args.tokens.now in
    let l = behind_here t (token.Name (codes "act")) some_act (narrow OF_CLASS_TEXT t.spots.items (c.if-says-4.ensures.says.0 refl) act_turns
    (nothing OF_CLASS_TEXT t.spots.items InstrRule Any c.args.at c.requires.within)) (c.if-says-4.ensures.says.0 refl) in
    done OF_CLASS_TEXT t.spots.items l c.in_ok-instr-2.ensures.reads

pub returns-in_err-at-clause-reads : goal.returns-in_err-at-clause-reads
returns-in_err-at-clause-reads c =
    let t = c.args.tokens.now in
    let l = narrow OF_CLASS_TEXT t.spots.items refl (drop_else (token_at t.spots.items c.args.at) (λ e. not_true (c.if-says.ensures.says.1 e)) (λ e. not_true (c.if-says-2.ensures.says.1 e))
    (λ e. not_true (c.if-says-3.ensures.says.1 e)) (λ e. not_true (c.if-says-4.ensures.says.1 e))) (nothing OF_CLASS_TEXT t.spots.items InstrRule Any c.args.at c.requires.within) in
    let p = err_from_is_err_and c.from_residual-in_err-at.result c.from_residual-in_err-at.ensures.1 in
    rw (p.1, p.2) (behind_fails t (token.Name (codes "drop")) some_drop l _ c.in_err-at.ensures.reads)

pub returns-in_err-instr-3-clause-reads : goal.returns-in_err-instr-3-clause-reads
returns-in_err-instr-3-clause-reads c =
    let t = c.args.tokens.now in
    let l = behind_reads t (token.Name (codes "drop")) some_drop (narrow OF_CLASS_TEXT t.spots.items refl
    (drop_else (token_at t.spots.items c.args.at) (λ e. not_true (c.if-says.ensures.says.1 e)) (λ e. not_true (c.if-says-2.ensures.says.1 e)) (λ e. not_true (c.if-says-3.ensures.says.1 e))
    (λ e. not_true (c.if-says-4.ensures.says.1 e))) (nothing OF_CLASS_TEXT t.spots.items InstrRule Any c.args.at c.requires.within)) c.in_ok-at.ensures.reads in
    let p = err_from_is_err_and c.from_residual-in_err-instr-3.result c.from_residual-in_err-instr-3.ensures.1 in
    rw (p.1, p.2) (fails OF_CLASS_TEXT t l _ c.in_err-instr-3.ensures.reads)

pub returns-clause-reads : goal.returns-clause-reads
returns-clause-reads c =
    let t = c.args.tokens.now in
    let l = behind_reads t (token.Name (codes "drop")) some_drop (narrow OF_CLASS_TEXT t.spots.items refl
    (drop_else (token_at t.spots.items c.args.at) (λ e. not_true (c.if-says.ensures.says.1 e)) (λ e. not_true (c.if-says-2.ensures.says.1 e)) (λ e. not_true (c.if-says-3.ensures.says.1 e))
    (λ e. not_true (c.if-says-4.ensures.says.1 e))) (nothing OF_CLASS_TEXT t.spots.items InstrRule Any c.args.at c.requires.within)) c.in_ok-at.ensures.reads in
    done OF_CLASS_TEXT t.spots.items l c.in_ok-instr-3.ensures.reads
