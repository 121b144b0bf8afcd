use Rattle.std.proofs.Common.{◌≡◌, ◌+◌, suc, refl, arith, ap, ◌∙◌, ◌++◌, ◌∷◌, []}
use Rattle.std.proofs.lemmas.Result.{err_from_is_err_and}
use Rattle.flow_tree.specs.declared.limits.TheConstants.{OF_CLASS_TEXT}
use Rattle.std.specs.Prelude.{codes}
use Rattle.flow_tree.specs.declared.token.Token.TheVariants as token
use Rattle.flow_parse.specs.Reading.{token_at}
use Rattle.flow_parse.proofs.Looking.{not_true}
use Rattle.flow_classread.proofs.Lists.{each_step, each_fails, each_end, first_is, is_first}
use Rattle.flow_classread.proofs.BlockForms.{numbered_cons, numbered_cut}
use Rattle.flow_classprint.specs.ClassGrammar.{NumberedRule, BlockRule, none}
use Rattle.flow_classread.proofs.ClassForms.{IsWord, blocks_init, blocks_left, first_block}
use Rattle.flow_classread.proofs.BlockForms.{block_starts}
use Rattle.flow_class.specs.View.{block_of}
use Rattle.flow_parse.proofs.Leaves.{first_fails}
use Rattle.flow_classread.proofs.class.blocks.Goals as goal

pub items-init : goal.items-init
items-init c =
    let t = c.args.tokens.now in
    let q = c.in_ok-push.ensures.items ∙ ap (λ z. z ++ c.in_ok-first.first ∷ []) c.new-blocks.ensures.items in (
      omega (arith, c.in_ok-first.ensures.moves.0),
      c.in_ok-first.ensures.moves.1,
      omega (arith, c.in_ok-first.ensures.moves.0),
      blocks_init t c.args.at c.requires.within c.args.version c.in_ok-first.at 1
          c.push.new.self.items c.in_ok-first.first refl q c.in_ok-first.ensures.reads,
    )

pub items-preserved : goal.items-preserved
items-preserved c =
    let t = c.args.tokens.now in
    let i = c.items.invariant in
    let e : c.items.n + 1 ≡ suc c.items.n = omega arith in
    let l = each_step (BlockRule c.args.version) (NumberedRule (BlockRule c.args.version)) (IsWord (codes "block")) (λ k. none) (numbered_cons (BlockRule c.args.version)) (numbered_cut (BlockRule c.args.version)) (block_starts c.args.version) block_of t c.items.n c.items.blocks.items
    i.3 (c.items.n + 1) c.in_ok-next.to c.push-in-items.new.self.items c.in_ok-next.next
    (first_is (IsWord (codes "block")) (token_at t.spots.items c.items.at) (token.Name (codes "block")) (c.items-test.ensures.says.0 refl) refl) e c.in_ok-push-2.ensures.items
    c.in_ok-next.ensures.reads in
    (omega (arith, i.0, c.in_ok-next.ensures.moves.0), c.in_ok-next.ensures.moves.1, omega (arith, i.2, c.in_ok-next.ensures.moves.0), l)

pub returns-in_err-next-clause-reads : goal.returns-in_err-next-clause-reads
returns-in_err-next-clause-reads c =
    let t = c.args.tokens.now in
    let p = err_from_is_err_and c.from_residual-in_err-next.result c.from_residual-in_err-next.ensures.1 in
    rw (p.1, p.2) (each_fails (BlockRule c.args.version) (NumberedRule (BlockRule c.args.version)) (IsWord (codes "block")) (λ k. none) (numbered_cons (BlockRule c.args.version)) (numbered_cut (BlockRule c.args.version)) (block_starts c.args.version) t c.items.n c.items.invariant.3
    (first_is (IsWord (codes "block")) (token_at t.spots.items c.items.at) (token.Name (codes "block")) (c.items-test.ensures.says.0 refl) refl) _ c.in_err-next.ensures.reads)

pub returns-clause-reads : goal.returns-clause-reads
returns-clause-reads c =
    let t = c.args.tokens.now in
    each_end (BlockRule c.args.version) (NumberedRule (BlockRule c.args.version)) (IsWord (codes "block")) (λ k. none) (numbered_cons (BlockRule c.args.version)) (numbered_cut (BlockRule c.args.version)) (block_starts c.args.version) block_of t c.items.n c.items.blocks.items
    c.items.invariant.3 (λ h. not_true (c.items-test.ensures.says.1 (is_first (token_at t.spots.items c.items.at) (token.Name (codes "block")) h)))

pub returns-in_err-first-clause-reads : goal.returns-in_err-first-clause-reads
returns-in_err-first-clause-reads c =
    let t = c.args.tokens.now in
    let p = err_from_is_err_and c.from_residual.result c.from_residual.ensures.1 in
    rw (p.1, p.2) (first_fails OF_CLASS_TEXT t (first_block t c.args.at c.requires.within c.args.version) (blocks_left t c.args.at c.requires.within c.args.version) _ c.in_err-first.ensures.reads)
