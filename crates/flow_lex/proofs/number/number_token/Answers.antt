use Rattle.std.proofs.Common.{subst, ◌≤◌, ◌^◌}
use Rattle.std.specs.Str.Parse.{digits_value}
use Rattle.flow_lex.proofs.Tokens.{big_token, number_over}
use Rattle.flow_lex.proofs.number.number_token.Goals as goal

pub returns-in_default : goal.returns-in_default
returns-in_default c =
    big_token c.args.text.now _ c.number_len-n.result c.args.at c.requires.apart c.number_len-n.ensures
    (number_over _ (subst (λ w. 2 ^ 63 ≤ digits_value 10 w) c.front.ensures c.in_default.ensures))
