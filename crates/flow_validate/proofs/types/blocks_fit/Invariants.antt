use Rattle.std.proofs.Common.{◌≡◌, drop, map}
use Rattle.std.specs.List.{list_all}
use Rattle.flow_class.specs.View.{class_of, block_of}
use Rattle.flow_types.specs.SettingView.{setting_view}
use Rattle.flow_valid.specs.Validity.{block_fits}
use Rattle.flow_validate.proofs.types.blocks_fit.Given as goal

abbrev pub invariant-loop-block : goal.invariant-loop-block
invariant-loop-block l =
    list_all (block_fits (class_of l.class) (setting_view l.setting)) (map block_of (drop l.block-index l.class.blocks.items))
    ≡ list_all (block_fits (class_of l.class) (setting_view l.setting)) (map block_of l.class.blocks.items)
