-- The classes of a program have fewer than 2^32 places each.
use Rattle.std.proofs.Common.{◌≡◌, ◌<◌, ◌≤◌, ℕ, zero, suc, ◌+◌, ◌^◌, List, [], ◌∷◌, length, map, sym, ap, subst, ◌∙◌, arith, length-append}
use Rattle.std.proofs.lemmas.List.{length-map}
use Rattle.std.specs.Prelude.{slice_get}
use Rattle.std.specs.declared.option.Option.TheVariants.{Some}
use Rattle.flow_tree.specs.declared.limits.TheConstants.{TOKENS}
use Rattle.flow_tree.specs.declared.decl.Program.{Program}
use Rattle.flow_tree.specs.Decls.{RoutineTree, DeclTree, StructDecl, FunctionDecl, ActorDecl}
use Rattle.flow_tree.specs.DeclView.{program_of}
use Rattle.flow_ast.specs.Slots.{param_slot, body_slots}
use Rattle.flow_class.specs.Classes.{ClassTree}
use Rattle.flow_meaning.specs.Evaluating.{Names}
use Rattle.flow_meaning.specs.Source.{names_of, actors_in}
use Rattle.flow_meaning.proofs.InOrder.{no_thing}
use Rattle.flow_meaning.proofs.Shifts.{same_of}
use Rattle.flow_lower.specs.Compiled.{class_in, compiled}
use Rattle.flow_lowering_laws.proofs.Actors.Further.{locals_count}
use Rattle.flow_front.specs.Verdict.{IsSound}
use Rattle.flow_lowering_laws.proofs.Programs.Grammar.{slots_count}
use Rattle.flow_lowering_laws.proofs.Programs.Whole.{EachActor, Formed, decls_formed, program_decls, as_many}
use Rattle.flow_restore_laws.specs.States.Heaps.{HaveFewerPlaces}

places_few : (ns : Names) (a : RoutineTree) (n : ℕ) → n ≤ TOKENS → Formed n a → let c = class_in ns a in length c.slots + length c.locals < 2 ^ 32
places_few ns a n le formed =
    omega (arith, formed.few, le, length-append (map param_slot a.params) (body_slots a.body), length-map a.params param_slot, slots_count a.body, locals_count a.body)

classes_few : (ns : Names) (n : ℕ) → n ≤ TOKENS → (ds : List DeclTree) → EachActor (Formed n) ds → (k : ℕ) (c : ClassTree)
    → slice_get (map (class_in ns) (actors_in ds)) k ≡ Some c → length c.slots + length c.locals < 2 ^ 32
classes_few ns n le [] f k c e = absurd (no_thing e)
classes_few ns n le (StructDecl q ∷ ds) f k c e = classes_few ns n le ds f k c e
classes_few ns n le (FunctionDecl q ∷ ds) f k c e = classes_few ns n le ds f k c e
classes_few ns n le (ActorDecl a ∷ ds) f zero c e = subst (λ (x : ClassTree). length x.slots + length x.locals < 2 ^ 32) (same_of e) (places_few ns a n le f.0)
classes_few ns n le (ActorDecl a ∷ ds) f (suc k) c e = classes_few ns n le ds f.1 k c e

few_tokens : (m n : ℕ) → m ≡ n → n ≤ TOKENS → m ≤ TOKENS
few_tokens m n e le = omega (arith, e, le)

pub compiled_fewer : (text : List ℕ) (program : Program) → IsSound text program → HaveFewerPlaces (compiled (program_of program))
compiled_fewer text program sound =
    let t = program_of program in
    let d = sound.typed.read.parsed.1 in
    let decls = program_decls _ d.marked t d.rule in
    let few : length d.marked ≤ TOKENS = few_tokens (length d.marked) _ (sym (as_many d.marked) ∙ ap length d.is) sound.typed.read.parsed.0 in
    classes_few (names_of t) (length d.marked) few t.decls (decls_formed decls)
