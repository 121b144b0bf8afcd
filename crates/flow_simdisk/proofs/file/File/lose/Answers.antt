use Rattle.std.proofs.Common.{◌≡◌, ◌≤◌, ◌∙◌, length, get_or, ap, ap₂, sym, subst, rules, refl, arith}
use Rattle.std.specs.Prelude.{fold}
use Rattle.std.proofs.lemmas.List.{take_all}
use Rattle.flow_draw.specs.Words.{Drawn, word_in}
use Rattle.flow_simdisk.specs.declared.TheConstants.{FILE_BYTES}
use Rattle.flow_simdisk.specs.Disk.{lose_write}
use Rattle.flow_simdisk.specs.Stored.{losing, HasCome}
use Rattle.flow_simdisk.proofs.Losses.{none_lost, writes_go_on}
use Rattle.flow_simdisk.proofs.file.File.lose.Goals as goal

pub loop-write-init : goal.loop-write-init
loop-write-init c =
    let same = c.in_ok-left.ensures.items_if_clones_equal (λ y same h. h) ∙ c.deref.ensures.value in
    record {
      lost = none_lost c.in_ok-left.left.items c.args.fates.now.items c.args.draws.now;
      drawn = refl;
      few = omega arith;
      fits = subst (λ bs. length bs ≤ FILE_BYTES) (sym same) c.self.invariant.durable_fits;
    }

pub loop-write-preserved : goal.loop-write-preserved
loop-write-preserved c =
    let inv = c.loop-write.invariant in
    let new = c.lose_write.new.draws in
    let w = c.write-item.result in
    let ws = c.deref-write-items.result.now in
    let at : get_or ws c.loop-write.write-index w ≡ w = search rules in
    record {
      lost =
          writes_go_on c.args.name.now c.in_ok-left.left.items c.args.fates.now.items ws c.loop-write.write-index w
          _ _ _ _ _ _ _ c.loop-write-test.true at inv.lost c.in_ok-lose_write.ensures.lost;
      drawn = c.lose_write.ensures.drawn ∙ ap {A = Drawn} {B = Drawn} (λ d. record d { used = new.used; noted = new.noted }) inv.drawn;
      few = omega (arith, inv.few, c.lose_write.ensures.few);
      fits = c.in_ok-lose_write.ensures.fits;
    }

pub returns-clause-lost : goal.returns-clause-lost
returns-clause-lost c =
    let ws = c.deref-write-items.result.now in
    let x = c.args.name.now in
    let fates = c.args.fates.now.items in
    let past : length ws ≤ c.loop-write.write-index = search rules in
    let same = c.in_ok-left.ensures.items_if_clones_equal (λ y same h. h) ∙ c.deref.ensures.value ∙ ap (λ f. f.durable) c.self.view_is in
    let all = take_all c.loop-write.write-index ws past ∙ c.deref-write-items.ensures.value ∙ ap (λ f. f.unsynced) c.self.view_is in
    λ start qs was.
    subst (λ l. HasCome l start c.loop-write.left.items c.loop-write.fates.items c.loop-write.draws)
    (ap₂ (λ bs vs. fold (lose_write (word_in start) x) (losing bs qs fates) vs) same all)
    (c.loop-write.invariant.lost start qs was)
