use Rattle.std.proofs.Common.{◌≡◌, drop, map}
use Rattle.std.specs.List.{list_all}
use Rattle.flow_class.specs.View.{class_of, instr_of}
use Rattle.flow_types.specs.SettingView.{setting_view}
use Rattle.flow_valid.specs.Validity.{instr_fits}
use Rattle.flow_validate.proofs.types.body_fits.Given as goal

abbrev pub invariant-loop-instr : goal.invariant-loop-instr
invariant-loop-instr l =
    list_all (instr_fits (class_of l.class) (setting_view l.setting)) (map instr_of (drop l.instr-index l.body))
    ≡ list_all (instr_fits (class_of l.class) (setting_view l.setting)) (map instr_of l.body)
