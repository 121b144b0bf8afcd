use Rattle.std.proofs.Common.{◌≡◌, ◌+◌, suc, refl, arith}
use Rattle.std.proofs.lemmas.Result.{err_from_is_err_and}
use Rattle.std.specs.Prelude.{codes}
use Rattle.flow_tree.specs.declared.token.Token.TheVariants as token
use Rattle.flow_parse.specs.Reading.{token_at}
use Rattle.flow_parse.proofs.Looking.{not_true}
use Rattle.flow_classread.proofs.Lists.{each_step, each_fails, each_end, first_is, is_first}
use Rattle.flow_classread.proofs.BlockForms.{numbered_cons, numbered_cut}
use Rattle.flow_classprint.specs.ClassGrammar.{NumberedRule, LocalRule, none}
use Rattle.flow_classread.proofs.ClassForms.{IsWord, listed_left, local_starts}
use Rattle.flow_tree.specs.View.{type_of}
use Rattle.flow_classread.proofs.class.locals.Goals as goal

pub items-init : goal.items-init
items-init c =
    let t = c.args.tokens.now in (
      omega arith,
      c.requires.within,
      omega arith,
      listed_left t c.args.at c.requires.within (NumberedRule LocalRule) type_of (token.Name (codes "local")) 0 c.new-locals.result.items refl
          c.new-locals.ensures.items,
    )

pub items-preserved : goal.items-preserved
items-preserved c =
    let t = c.args.tokens.now in
    let i = c.items.invariant in
    let e : c.items.n + 1 ≡ suc c.items.n = omega arith in
    let l = each_step LocalRule (NumberedRule LocalRule) (IsWord (codes "local")) (λ k. none) (numbered_cons LocalRule) (numbered_cut LocalRule) local_starts type_of t c.items.n c.items.locals.items
    i.3 (c.items.n + 1) c.in_ok-next.to c.push.new.self.items c.in_ok-next.next
    (first_is (IsWord (codes "local")) (token_at t.spots.items c.items.at) (token.Name (codes "local")) (c.items-test.ensures.says.0 refl) refl) e c.in_ok-push.ensures.items
    c.in_ok-next.ensures.reads in
    (omega (arith, i.0, c.in_ok-next.ensures.moves.0), c.in_ok-next.ensures.moves.1, omega (arith, i.2, c.in_ok-next.ensures.moves.0), l)

pub returns-in_err-next-clause-reads : goal.returns-in_err-next-clause-reads
returns-in_err-next-clause-reads c =
    let t = c.args.tokens.now in
    let p = err_from_is_err_and c.from_residual.result c.from_residual.ensures.1 in
    rw (p.1, p.2) (each_fails LocalRule (NumberedRule LocalRule) (IsWord (codes "local")) (λ k. none) (numbered_cons LocalRule) (numbered_cut LocalRule) local_starts t c.items.n c.items.invariant.3
    (first_is (IsWord (codes "local")) (token_at t.spots.items c.items.at) (token.Name (codes "local")) (c.items-test.ensures.says.0 refl) refl) _ c.in_err-next.ensures.reads)

pub returns-clause-reads : goal.returns-clause-reads
returns-clause-reads c =
    let t = c.args.tokens.now in
    each_end LocalRule (NumberedRule LocalRule) (IsWord (codes "local")) (λ k. none) (numbered_cons LocalRule) (numbered_cut LocalRule) local_starts type_of t c.items.n c.items.locals.items
    c.items.invariant.3 (λ h. not_true (c.items-test.ensures.says.1 (is_first (token_at t.spots.items c.items.at) (token.Name (codes "local")) h)))
