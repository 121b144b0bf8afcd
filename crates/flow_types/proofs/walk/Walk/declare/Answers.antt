use Rattle.std.proofs.Common.{map, ap, ◌++◌, ◌∷◌, [], ◌∙◌}
use Rattle.flow_ast.specs.TypingNames.{named}
use Rattle.flow_types.specs.View.{found_of}
use Rattle.flow_types.specs.MapView.{bound, vars_of}
use Rattle.flow_types.specs.WalkView.{env_of}
use Rattle.flow_types.proofs.Inserts.{row_inserted}
use Rattle.flow_types.proofs.Parts.{with_vars}
use Rattle.flow_types.proofs.walk.Walk.declare.Goals as goal

pub returns-clause-declared : goal.returns-clause-declared
returns-clause-declared c = λ around.
    let vars = vars_of c.args.self.now.setting.vars in
    ap (with_vars (env_of c.args.self.now around))
    (ap (map (bound found_of)) c.in_ok-insert.ensures.entries
    ∙ row_inserted found_of c.bytes.result c.args.ty c.args.self.now.setting.vars.entries (ap (named vars) c.bytes.ensures.bytes ∙ c.requires)
    ∙ ap (λ x. vars ++ (x, found_of c.args.ty) ∷ []) c.bytes.ensures.bytes)
