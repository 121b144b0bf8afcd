-- The classes of a sound program are valid, and written as class text has classes.
use Rattle.std.proofs.Common.{◌≡◌, ℕ, zero, suc, false, List, [], ◌∷◌, subst}
use Rattle.std.specs.Prelude.{slice_get}
use Rattle.std.specs.declared.option.Option.TheVariants.{None, Some}
use Rattle.flow_tree.specs.Decls.{RoutineTree, DeclTree, StructDecl, FunctionDecl, ActorDecl}
use Rattle.flow_tree.specs.DeclView.{program_of}
use Rattle.flow_rules.specs.Judged.{Setting}
use Rattle.flow_rules.specs.Rules.{setting_of}
use Rattle.flow_meaning.specs.Evaluating.{Names}
use Rattle.flow_meaning.specs.Source.{functions_in, names_of}
use Rattle.flow_split.specs.Around.{whole}
use Rattle.flow_split.specs.Lowered.{block_with, lowered, close_of}
use Rattle.flow_lower.specs.Compiled.{class_in}
use Rattle.flow_typing_laws.specs.ControlFlow.Laws.{AllHaveSimpleParts}
use Rattle.flow_typing_laws.proofs.ControlFlow.SimpleParts.{program_parts}
use Rattle.flow_lowering_laws.proofs.Programs.Whole.{EachActor}
use Rattle.flow_typing_laws.specs.Typing.Paths.{HasPaths, AllHavePaths}
use Rattle.flow_typing_laws.proofs.Typing.PathsDerived.{program_paths}
use Rattle.flow_validity_laws.proofs.Tested.{IsWell, actors_well, class_of}
use Rattle.flow_validity_laws.proofs.Filled.{all_valid}
use Rattle.flow_progress.specs.Written.{IsWritten, HasBody}
use Rattle.flow_determinism.specs.Laws.{CompilesWritten}
use Rattle.flow_determinism.proofs.Paths.{lowered_pathed, blocks_pathed, begins_there}

-- an actor of an accepted program, with its paths
record IsPathed (s : Setting) (a : RoutineTree) : Type 0 where
  well : IsWell s a
  paths : HasPaths a.body

all_pathed : (s : Setting) (ds : List DeclTree) → EachActor (IsWell s) ds → AllHavePaths ds → EachActor (IsPathed s) ds
all_pathed s [] w p = tt
all_pathed s (StructDecl r ∷ ds) w p = all_pathed s ds w p.1
all_pathed s (FunctionDecl f ∷ ds) w p = all_pathed s ds w p.1
all_pathed s (ActorDecl a ∷ ds) w p = (record { well = w.0; paths = p.0 }, all_pathed s ds w.1 p.1)

class_written : (s : Setting) (ns : Names) (a : RoutineTree) → IsPathed s a → IsWritten (class_in ns a)
class_written s ns a k =
    let c = class_in ns a in
    let ch = lowered ns c.slots [] (whole (close_of a)) (record { block = 1; local = 0; group = 1 }) a.body in
    let f = lowered_pathed ns c.slots a.body [] (whole (close_of a)) (record { block = 1; local = 0; group = 1 }) k.paths in
    record {
      begins = begins_there ch.body ch.last;
      slots = k.well.small.slots;
      locals = k.well.small.locals;
      paths = λ b n i e. blocks_pathed (block_with None ch ∷ ch.more) b n i (f.body, f.more) e;
    }

functions_written : (ds : List DeclTree) → AllHaveSimpleParts ds → AllHavePaths ds → (k : ℕ) (f : RoutineTree) → slice_get (functions_in ds) k ≡ Some f → HasBody f
functions_written [] s p k f e = absurd cc
functions_written (StructDecl r ∷ ds) s p k f e = functions_written ds s.1 p.1 k f e
functions_written (ActorDecl a ∷ ds) s p k f e = functions_written ds s.1 p.1 k f e
functions_written (FunctionDecl g ∷ ds) s p zero f e = subst HasBody (same e) (s.0, p.0)
  where
    same : {a b : RoutineTree} → Some a ≡ Some b → a ≡ b
    same q = cc
functions_written (FunctionDecl g ∷ ds) s p (suc k) f e = functions_written ds s.1 p.1 k f e

pub compiles_written : CompilesWritten
compiles_written text p h =
    let t = program_of p in
    let s = setting_of t.decls false in
    let read = h.typed.read in
    let parts = program_parts read.tokens t read.parsed.1 in
    let paths = program_paths read.tokens t read.parsed.1 in
    let all = all_pathed s t.decls (actors_well text p h.typed) paths in
    record {
      valid = all_valid text p h;
      written = λ i c e. let k = class_of (IsPathed s) (names_of t) t.decls i c all e in subst IsWritten k.is (class_written s (names_of t) k.actor k.holds);
      functions = functions_written t.decls parts paths;
    }
