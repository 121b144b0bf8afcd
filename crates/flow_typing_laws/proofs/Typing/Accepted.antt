-- A program that no rule refuses is well typed.
use Rattle.std.proofs.Common.{◌≡◌, []}
use Rattle.std.specs.declared.option.Option.TheVariants.{None}
use Rattle.flow_tree.specs.Decls.{ProgramTree}
use Rattle.flow_tree.specs.declared.token.Tokens.{Tokens}
use Rattle.flow_tree.specs.GrammarDecl.{IsProgram}
use Rattle.flow_rules.specs.Rules.{setting_of, decls_refusal, refusal_of}
use Rattle.flow_typing_laws.specs.ControlFlow.Laws.{AllHaveSimpleParts}
use Rattle.flow_typing_laws.specs.Typing.Paths.{AllHavePaths}
use Rattle.flow_typing_laws.specs.Typing.Scopes.{scope_in, setting_in}
use Rattle.flow_typing_laws.specs.Typing.Joined.{AcceptedFits}
use Rattle.flow_typing_laws.proofs.Typing.Expressions.{typed}
use Rattle.flow_typing_laws.proofs.Typing.Agreement.{distinct, agrees, neither_first}
use Rattle.flow_typing_laws.proofs.Typing.Bodies.{all_fit}
use Rattle.flow_typing_laws.proofs.Typing.Actors.{actors_fit}
use Rattle.flow_typing_laws.proofs.Typing.PathsDerived.{program_paths}

fits : (p : ProgramTree) → refusal_of p ≡ None → AllHaveSimpleParts p.decls → AllHavePaths p.decls → AcceptedFits p
fits p h s q =
    let r = neither_first (decls_refusal (setting_of p.decls) [] p.decls) _ h in
    let d = distinct (setting_of p.decls) [] p.decls r in
    record {
      expressions = λ plain whole vars e n. typed (setting_in p.decls plain vars) (scope_in p.decls vars) (agrees p.decls vars d plain) whole e n;
      functions = all_fit p.decls d r s q;
      actors = actors_fit p.decls d [] p.decls r s q;
    }

-- with what the grammar derives
pub accepted : ((t : Tokens) (p : ProgramTree) → IsProgram t p → AllHaveSimpleParts p.decls) → (t : Tokens) (p : ProgramTree) → IsProgram t p → refusal_of p ≡ None → AcceptedFits p
accepted parts t p d h = fits p h (parts t p d) (program_paths t p d)
