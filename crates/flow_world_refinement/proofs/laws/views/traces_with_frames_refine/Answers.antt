use Rattle.flow_world_refinement.proofs.Views.Worlds.{frames_follow}
use Rattle.flow_world_refinement.proofs.Views.Told.{world_told}
use Rattle.flow_world_refinement.proofs.Views.Traced.{frames_traced, beginning_traced}
use Rattle.flow_world_refinement.proofs.laws.views.traces_with_frames_refine.Goals as goal

pub returns-clause-frames : goal.returns-clause-frames
returns-clause-frames g c = λ r. frames_follow g.B.Boundary.rests g.B.Boundary.keeps g.B.Boundary.is_code r

pub returns-clause-traces : goal.returns-clause-traces
returns-clause-traces g c = frames_traced g.B.Boundary.rests g.B.Boundary.keeps g.B.Boundary.is_code g.L.LineOut.puts

pub returns-clause-told : goal.returns-clause-told
returns-clause-told g c = λ r. world_told g.B.Boundary.rests r

pub returns-clause-part : goal.returns-clause-part
returns-clause-part g c = beginning_traced g.B.Boundary.rests g.B.Boundary.keeps g.B.Boundary.is_code g.L.LineOut.puts
