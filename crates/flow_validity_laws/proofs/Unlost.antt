-- Where the rule on state tells nothing, no use in an actor is stale.
use Rattle.std.proofs.Common.{◌≡◌, ℕ, zero, suc, Bool, true, false, ◌&&◌, not, List, [], ◌∷◌, length, refl, sym, ap, subst, ◌∙◌, arith}
use Rattle.std.specs.Prelude.{Contains, slice_get}
use Rattle.std.specs.List.{list_all}
use Rattle.std.proofs.lemmas.List.{length-map}
use Rattle.std.specs.declared.option.Option.{Option}
use Rattle.std.specs.declared.option.Option.TheVariants.{None, Some}
use Rattle.flow_tree.specs.Body.{Body}
use Rattle.flow_tree.specs.Decls.{ParamTree, RoutineTree, DeclTree, StructDecl, FunctionDecl, ActorDecl}
use Rattle.flow_ast.specs.Slots.{body_groups}
use Rattle.flow_staterule.specs.declared.rule.Lost.{Lost}
use Rattle.flow_staterule.specs.declared.scope.Use.{Use}
use Rattle.flow_staterule.specs.StateRule.{wait_places, routine_uses, is_stale_use, lost_in, lost_in_decl, first_of, first_lost}
use Rattle.flow_typing_laws.specs.ControlFlow.Mentions.{waits}
use Rattle.flow_typing_laws.specs.ControlFlow.Laws.{HasSimpleParts, AllHaveSimpleParts, LostIn}
use Rattle.flow_typing_laws.proofs.ControlFlow.Counting.{place_of, places_of_waits, waits_many}
use Rattle.flow_typing_laws.proofs.ControlFlow.FirstBad.{lost_bad, lost_by_walk}
use Rattle.flow_lowering_laws.proofs.Programs.Whole.{EachActor}
use Rattle.flow_typing_laws.proofs.Typing.Names.{none_some}
use Rattle.flow_validity_laws.proofs.Lines.{AllFresh}

-- all waits of a body
pub waits_in : (b : Body) → length (wait_places b) ≡ length (body_groups b)
waits_in b = ap length (places_of_waits b 1) ∙ length-map (waits b 1) place_of ∙ waits_many b 1

get_contains : {A : Type 0} (xs : List A) (k : ℕ) (x : A) → slice_get xs k ≡ Some x → Contains xs x
get_contains [] k x e = absurd (none_some e)
get_contains (y ∷ ys) zero x e = (0, omega arith, ap (or_else x) e)
  where
    or_else : {A : Type 0} → A → Option A → A
    or_else x None = x
    or_else x (Some y) = y
get_contains (y ∷ ys) (suc k) x e = let r = get_contains ys k x e in let l = r.1 in (suc r.0, omega (arith, l), r.2)

none_stale : (us : List Use) → ((i : ℕ) → is_stale_use (slice_get us i) ≡ true → ⊥) → AllFresh us
none_stale [] f = refl
none_stale (u ∷ us) f = by_stale u.stale refl (none_stale us (λ i e. f (suc i) e))
  where
    by_stale : (b : Bool) → u.stale ≡ b → AllFresh us → not u.stale && list_all (λ (v : Use). not v.stale) us ≡ true
    by_stale true e h = absurd (f 0 e)
    by_stale false e h = ap (λ z. not z && list_all (λ (v : Use). not v.stale) us) e ∙ h

pub uses_fresh : (ps : List ParamTree) (b : Body) → HasSimpleParts b → lost_in ps b ≡ None → AllFresh (routine_uses ps b (length (wait_places b)))
uses_fresh ps b s e =
    none_stale (routine_uses ps b (length (wait_places b))) (λ i h.
    let x = lost_bad ps b s (length (wait_places b)) i h in
    let none : LostIn ps b None = subst (LostIn ps b) e (lost_by_walk ps b s) in
    none x.mention (get_contains _ i x.mention x.is_mention) (x.wait, get_contains (waits b 1) x.number x.wait x.is_wait, x.bad))

first_none : (o p : Option Lost) → first_of o p ≡ None → o ≡ None
first_none None p e = refl
first_none (Some l) p e = e

then_none : (o p : Option Lost) → first_of o p ≡ None → p ≡ None
then_none None p e = e
then_none (Some l) p e = absurd (none_some (sym e))

-- each actor loses nothing
pub record IsUnlost (a : RoutineTree) : Type 0 where
  pub fresh : AllFresh (routine_uses a.params a.body (length (wait_places a.body)))

pub actors_unlost : (ds : List DeclTree) → AllHaveSimpleParts ds → first_lost ds ≡ None → EachActor IsUnlost ds
actors_unlost [] s e = tt
actors_unlost (StructDecl r ∷ ds) s e = actors_unlost ds s.1 (then_none (lost_in_decl (StructDecl r)) (first_lost ds) e)
actors_unlost (FunctionDecl f ∷ ds) s e = actors_unlost ds s.1 (then_none (lost_in_decl (FunctionDecl f)) (first_lost ds) e)
actors_unlost (ActorDecl a ∷ ds) s e = (
  record { fresh = uses_fresh a.params a.body s.0 (first_none (lost_in_decl (ActorDecl a)) (first_lost ds) e) },
  actors_unlost ds s.1 (then_none (lost_in_decl (ActorDecl a)) (first_lost ds) e),
)
