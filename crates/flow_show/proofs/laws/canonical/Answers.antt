use Rattle.flow_show.proofs.RoundTrip.{one_text, round_trip, twice_is_once}
use Rattle.flow_show.proofs.laws.canonical.Goals as goal

pub returns : goal.returns
returns c = record { one = one_text; read_back = round_trip; twice = twice_is_once }
