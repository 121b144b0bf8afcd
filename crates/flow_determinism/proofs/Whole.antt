-- The classes of a sound program have a callback in each group, so no unfinished actor of it is marked at a boundary.
use Rattle.std.proofs.Common.{List, [], ◌∷◌, subst}
use Rattle.std.specs.List.{AllByRecursion}
use Rattle.flow_tree.specs.Decls.{RoutineTree, DeclTree, StructDecl, FunctionDecl, ActorDecl}
use Rattle.flow_tree.specs.DeclView.{program_of}
use Rattle.flow_class.specs.Classes.{ClassTree}
use Rattle.flow_meaning.specs.Source.{names_of}
use Rattle.flow_split.specs.Around.{whole}
use Rattle.flow_split.specs.Lowered.{close_of}
use Rattle.flow_lower.specs.Compiled.{class_in}
use Rattle.flow_lowering_laws.proofs.Programs.Whole.{EachActor}
use Rattle.flow_validity_laws.proofs.Tested.{class_of}
use Rattle.flow_invariants.specs.Unmarked.{HasCallback}
use Rattle.flow_invariants.proofs.Unmarked.Worlds.{whole_rest, whole_keep}
use Rattle.flow_determinism.specs.Branches.{HasBranches, AllHaveBranches}
use Rattle.flow_determinism.specs.Laws.{CompilesWhole, ProgramsRest, ProgramsKeep}
use Rattle.flow_determinism.proofs.BranchesDerived.{program_branches}
use Rattle.flow_determinism.proofs.Grouped.{lowered_grouped}
use Rattle.flow_determinism.proofs.Written.{compiles_written}

abbrev Chooses : RoutineTree → Type 0
Chooses a = HasBranches a.body

actors_choose : (ds : List DeclTree) → AllHaveBranches ds → EachActor Chooses ds
actors_choose [] h = tt
actors_choose (StructDecl r ∷ ds) h = actors_choose ds h.1
actors_choose (FunctionDecl f ∷ ds) h = actors_choose ds h.1
actors_choose (ActorDecl a ∷ ds) h = (h.0, actors_choose ds h.1)

pub compiles_whole : CompilesWhole
compiles_whole text p h =
    let t = program_of p in
    let read = h.typed.read in
    let all = actors_choose t.decls (program_branches read.tokens t read.parsed.1) in
    record {
      valid = compiles_written text p h;
      groups = λ i c e.
          let k = class_of Chooses (names_of t) t.decls i c all e in
          subst (λ (d : ClassTree). AllByRecursion HasCallback d.groups) k.is
          (lowered_grouped (names_of t) (class_in (names_of t) k.actor).slots k.actor.body [] (whole (close_of k.actor)) (record { block = 1; local = 0; group = 1 }) k.holds).groups;
    }

pub programs_rest : ProgramsRest
programs_rest text p h = whole_rest _ (compiles_whole text p h)

pub programs_keep : ProgramsKeep
programs_keep text p h = whole_keep _ (compiles_whole text p h)
