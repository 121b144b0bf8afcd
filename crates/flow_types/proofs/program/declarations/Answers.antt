use Rattle.std.proofs.Common.{[], map}
use Rattle.flow_tree.specs.DeclView.{decl_of}
use Rattle.flow_ast.specs.TypingNames.{named}
use Rattle.flow_rules.specs.Rules.{decls_refusal}
use Rattle.flow_types.specs.MapView.{rows_of}
use Rattle.flow_types.specs.ProgramView.{setting_by}
use Rattle.flow_types.proofs.Programs.{decl_new, decls_step}
use Rattle.flow_types.proofs.program.declarations.Goals as goal

pub declare-requires : goal.declare-requires
declare-requires c = decl_new (setting_by c.args.names.now) (named (rows_of c.loop-decl.before)) (decl_of c.decl-item.result) c.in_ok-declaration.ensures

pub loop-decl-preserved : goal.loop-decl-preserved
loop-decl-preserved c =
    let all = setting_by c.args.names.now in
    let ds = c.args.decls.now in
    decls_step all ds c.loop-decl.decl-index c.decl-item.result (rows_of c.loop-decl.before) (rows_of c.declare.new.before) (decls_refusal all [] (map decl_of ds))
    c.loop-decl-test.true c.decl-item.is c.loop-decl.invariant.0 c.in_ok-declare.ensures c.in_ok-declaration.ensures c.loop-decl.invariant.1
