use Rattle.std.proofs.Common.{◌≡◌, ◌+◌, suc, refl, arith}
use Rattle.std.proofs.lemmas.Result.{err_from_is_err_and}
use Rattle.std.specs.Prelude.{codes}
use Rattle.flow_tree.specs.declared.token.Token.TheVariants as token
use Rattle.flow_parse.specs.Reading.{token_at}
use Rattle.flow_parse.proofs.Looking.{not_true}
use Rattle.flow_classread.proofs.Lists.{each_step, each_fails, each_end, first_is, is_first}
use Rattle.flow_classread.proofs.BlockForms.{numbered_cons, numbered_cut}
use Rattle.flow_classprint.specs.ClassGrammar.{NumberedRule, SlotRule, none}
use Rattle.flow_classread.proofs.ClassForms.{IsWord, listed_left, slot_starts}
use Rattle.flow_tree.specs.DeclView.{slot_of}
use Rattle.flow_classread.proofs.class.slots.Goals as goal

pub items-init : goal.items-init
items-init c =
    let t = c.args.tokens.now in (
      omega arith,
      c.requires.within,
      omega arith,
      listed_left t c.args.at c.requires.within (NumberedRule SlotRule) slot_of (token.Name (codes "slot")) 0 c.new-slots.result.items refl
          c.new-slots.ensures.items,
    )

pub items-preserved : goal.items-preserved
items-preserved c =
    let t = c.args.tokens.now in
    let i = c.items.invariant in
    let e : c.items.n + 1 ≡ suc c.items.n = omega arith in
    let l = each_step SlotRule (NumberedRule SlotRule) (IsWord (codes "slot")) (λ k. none) (numbered_cons SlotRule) (numbered_cut SlotRule) slot_starts slot_of t c.items.n c.items.slots.items i.3
    (c.items.n + 1) c.in_ok-next.to c.push.new.self.items c.in_ok-next.next
    (first_is (IsWord (codes "slot")) (token_at t.spots.items c.items.at) (token.Name (codes "slot")) (c.items-test.ensures.says.0 refl) refl) e c.in_ok-push.ensures.items
    c.in_ok-next.ensures.reads in
    (omega (arith, i.0, c.in_ok-next.ensures.moves.0), c.in_ok-next.ensures.moves.1, omega (arith, i.2, c.in_ok-next.ensures.moves.0), l)

pub returns-in_err-next-clause-reads : goal.returns-in_err-next-clause-reads
returns-in_err-next-clause-reads c =
    let t = c.args.tokens.now in
    let p = err_from_is_err_and c.from_residual.result c.from_residual.ensures.1 in
    rw (p.1, p.2) (each_fails SlotRule (NumberedRule SlotRule) (IsWord (codes "slot")) (λ k. none) (numbered_cons SlotRule) (numbered_cut SlotRule) slot_starts t c.items.n c.items.invariant.3
    (first_is (IsWord (codes "slot")) (token_at t.spots.items c.items.at) (token.Name (codes "slot")) (c.items-test.ensures.says.0 refl) refl) _ c.in_err-next.ensures.reads)

pub returns-clause-reads : goal.returns-clause-reads
returns-clause-reads c =
    let t = c.args.tokens.now in
    each_end SlotRule (NumberedRule SlotRule) (IsWord (codes "slot")) (λ k. none) (numbered_cons SlotRule) (numbered_cut SlotRule) slot_starts slot_of t c.items.n c.items.slots.items
    c.items.invariant.3 (λ h. not_true (c.items-test.ensures.says.1 (is_first (token_at t.spots.items c.items.at) (token.Name (codes "slot")) h)))
