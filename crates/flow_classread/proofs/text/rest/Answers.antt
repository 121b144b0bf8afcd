use Rattle.std.proofs.Common.{refl, arith}
use Rattle.std.proofs.lemmas.Result.{err_from_is_err_and}
use Rattle.flow_parse.proofs.Looking.{not_true}
use Rattle.flow_classread.proofs.TextReads.{rest_init, record_fails, record_reads, function_fails, function_reads, rest_done, rest_fails}
use Rattle.flow_classread.proofs.text.rest.Goals as goal

pub items-init : goal.items-init
items-init c = (
  omega arith,
  c.requires.within,
  rest_init c.args.version c.args.tokens.now c.args.at c.requires.within c.new-records.result.items c.new-functions.result.items c.new-records.ensures.items
      c.new-functions.ensures.items,
)

pub items-preserved-then-is_word : goal.items-preserved-then-is_word
items-preserved-then-is_word c =
    let t = c.args.tokens.now in
    let i = c.items.invariant in
    let l = record_reads c.args.version t c.args.at c.requires.within c.items.at c.items.records.items c.items.functions.items i.2 c.in_ok-next.to c.push.new.self.items c.in_ok-next.next
    (c.if-is_word.ensures.word.0 refl) c.in_ok-push.ensures.items c.in_ok-next.ensures.reads in
    (omega (arith, i.0, c.in_ok-next.ensures.moves.0), c.in_ok-next.ensures.moves.1, l)

pub items-preserved : goal.items-preserved
items-preserved c =
    let t = c.args.tokens.now in
    let i = c.items.invariant in
    let h = c.items-test.ensures in
    let l = function_reads c.args.version t c.args.at c.requires.within c.items.at c.items.records.items c.items.functions.items i.2 _ c.functions_of.ensures c.in_ok-next-2.to c.push-else-is_word.new.self.items
    c.in_ok-next-2.next h.0 h.1 (λ e. not_true (c.if-is_word.ensures.word.1 e)) c.in_ok-push-2.ensures.items c.in_ok-next-2.ensures.reads in
    (omega (arith, i.0, c.in_ok-next-2.ensures.moves.0), c.in_ok-next-2.ensures.moves.1, l)

pub returns-in_err-next : goal.returns-in_err-next
returns-in_err-next c =
    let t = c.args.tokens.now in
    let p = err_from_is_err_and c.from_residual.result c.from_residual.ensures.1 in
    rw (p.1, p.2) (record {
      reads = record_fails c.args.version t c.args.at c.requires.within c.items.at c.items.records.items c.items.functions.items c.items.invariant.2 (c.if-is_word.ensures.word.0 refl) _
          c.in_err-next.ensures.reads;
    })

pub returns-in_err-next-2 : goal.returns-in_err-next-2
returns-in_err-next-2 c =
    let t = c.args.tokens.now in
    let h = c.items-test.ensures in
    let p = err_from_is_err_and c.from_residual-in_err-next-2.result c.from_residual-in_err-next-2.ensures.1 in
    rw (p.1, p.2) (record {
      reads = function_fails c.args.version t c.args.at c.requires.within c.items.at c.items.records.items c.items.functions.items c.items.invariant.2 _ c.functions_of.ensures h.0 h.1 (λ e. not_true (c.if-is_word.ensures.word.1 e)) _
          c.in_err-next-2.ensures.reads;
    })

pub returns-in_err-classes : goal.returns-in_err-classes
returns-in_err-classes c =
    let t = c.args.tokens.now in
    let p = err_from_is_err_and c.from_residual-in_err-classes.result c.from_residual-in_err-classes.ensures.1 in
    rw (p.1, p.2) (record {
      reads = rest_fails c.args.version t c.args.at c.requires.within c.items.at c.items.records.items c.items.functions.items c.items.invariant.2 c.items-test.ensures _
          c.in_err-classes.ensures.reads;
    })

pub returns : goal.returns
returns c =
    let t = c.args.tokens.now in
    record { reads = rest_done c.args.version t c.args.at c.requires.within c.items.at c.items.records.items c.items.functions.items c.items.invariant.2 c.items-test.ensures _ _ c.in_ok-classes.ensures.reads }
