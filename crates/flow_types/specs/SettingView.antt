-- The setting of the code, seen as plain data.
use Rattle.flow_types.specs.declared.judge.Setting as code
use Rattle.flow_rules.specs.Known.{holds_by}
use Rattle.flow_rules.specs.Judged.{Setting}
use Rattle.flow_types.specs.MapView.{known_by, flag_of, vars_of}

abbrev pub setting_view : code.Setting → Setting
setting_view s = record { known = known_by s.names.now; holds = holds_by (flag_of s.names.now); vars = vars_of s.vars; plain = s.plain }
