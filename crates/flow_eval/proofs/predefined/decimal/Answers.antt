use Rattle.std.proofs.Common.{◌≡◌, ◌<◌, ◌^◌, ◌∙◌, ap, rules}
use Rattle.std.proofs.lemmas.Int.{to_z-of_z}
use Rattle.std.specs.Fmt.{signed_decimal}
use mir.Val.{to_z, of_z}
use mir.Syntax.{w64}
use lib.Signed.{mag}
use Rattle.flow_eval.proofs.Numbers.{short_decimal}
use Rattle.flow_eval.proofs.predefined.decimal.Goals as goal

pub new-requires : goal.new-requires
new-requires c =
    let small : mag c.args.n < 2 ^ 63 = search rules in
    let same : to_z w64 (of_z w64 c.args.n) ≡ c.args.n = search (rules, to_z-of_z) in
    short_decimal c.args.n c.as_bytes.result.now small (c.as_bytes.ensures.value ∙ c.in_ok-text.ensures.ok ∙ ap signed_decimal same)
