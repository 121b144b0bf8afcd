use Rattle.flow_chart.proofs.Formed.{well_formed}
use Rattle.flow_chart.proofs.laws.well_formed_pictures.Goals as goal

pub returns : goal.returns
returns c = well_formed
