use Rattle.std.proofs.Common.{◌≡◌, drop, map}
use Rattle.std.specs.List.{list_all}
use Rattle.flow_class.specs.View.{class_of, callback_of}
use Rattle.flow_types.specs.SettingView.{setting_view}
use Rattle.flow_valid.specs.Validity.{callback_fits}
use Rattle.flow_validate.proofs.types.group_fits.Given as goal

abbrev pub invariant-loop-callback : goal.invariant-loop-callback
invariant-loop-callback l =
    list_all (callback_fits (class_of l.class) (setting_view l.setting)) (map callback_of (drop l.callback-index l.group.callbacks.items))
    ≡ list_all (callback_fits (class_of l.class) (setting_view l.setting)) (map callback_of l.group.callbacks.items)
