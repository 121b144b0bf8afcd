use Rattle.std.proofs.Common.{ℕ, List, map, length, nat_eq, sym, ap, ap₂, ◌∙◌}
use Rattle.std.specs.List.{list_all}
use Rattle.std.proofs.lemmas.List.{length-map}
use Rattle.flow_class.specs.declared.class.Block.{Block}
use Rattle.flow_class.specs.View.{class_of, block_of, group_of}
use Rattle.flow_validate.specs.Counting.{counted}
use Rattle.flow_validate.proofs.Leading.{chosen_once}
use Rattle.flow_validate.proofs.blocks.groups_chosen.Goals as goal

pub returns : goal.returns
returns c =
    let class = class_of c.args.class.now in
    let groups = c.deref.result.now in
    c.are_all_one.ensures
    ∙ ap (list_all (nat_eq 1)) (c.deref-3.ensures.value ∙ c.count_chosen.ensures
    ∙ ap₂ (λ (bs : List Block) (ns : List ℕ). counted (map block_of bs) ns) c.deref-2.ensures.value c.in_ok-counts.ensures)
    ∙ chosen_once class.blocks groups class.groups (ap length c.deref.ensures.value ∙ sym (length-map c.args.class.now.groups.items group_of))
