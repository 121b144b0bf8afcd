use Rattle.std.proofs.Common.{◌≡◌, ℕ, suc, ◌-◌, ◌<◌, take, length, ap, ◌∙◌, arith}
use Rattle.flow_validate.specs.Joined.{joined}
use Rattle.flow_validate.proofs.Joining.{ends_many, end_here}
use Rattle.flow_validate.proofs.touch.Touches.start.Goals as goal

pub index-requires : goal.index-requires
index-requires c =
    let r = c.requires in
    let many = ends_many c.args.self.now r.0 r.1 in
    let lt = r.2 in
    omega (arith, lt, many, c.if-number-eq0.false)

pub returns : goal.returns
returns c =
    λ all h.
    let r = c.requires in
    let own = ends_many c.args.self.now r.0 r.1 in
    let many = ends_many c.args.self.now all h in
    let lt = r.2 in
    let within : c.args.number - 1 < length all = omega (arith, lt, own, many, c.if-number-eq0.false) in
    let same : suc (c.args.number - 1) ≡ c.args.number = omega (arith, c.if-number-eq0.false) in
    end_here c.args.self.now all (c.args.number - 1) c.index.result.now h within c.index.ensures ∙ ap (λ (n : ℕ). length (joined (take n all))) same
