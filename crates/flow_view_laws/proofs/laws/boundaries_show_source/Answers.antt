use Rattle.flow_view_laws.proofs.Law.{programs_viewed}
use Rattle.flow_view_laws.proofs.laws.boundaries_show_source.Goals as goal

pub returns : goal.returns
returns g c = programs_viewed g.L.LineOut.puts
