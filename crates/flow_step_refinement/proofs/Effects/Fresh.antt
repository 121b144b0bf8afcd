-- The numbers of new cells and of new actors are new.
use Rattle.std.proofs.Common.{◌≡◌, ℕ, suc, nat_eq, Bool, true, false, List, [], ◌∷◌, if◌then◌else◌, refl, sym, ap, ◌∙◌, subst, arith}
use Rattle.std.proofs.lemmas.Bool.Decides.{nat_tests}
use Rattle.std.specs.declared.option.Option.TheVariants.{None, Some}
use Rattle.flow_numbered.specs.Numbered.{Numbered, thing}
use Rattle.flow_meaning.specs.Process.{Task, Run, Give, Throw, Catch, Store, Keep, Close, Fire, Drop}
use Rattle.flow_meaning.specs.Orderly.{Stands, is_of, is_suspended, tasks_of}
use Rattle.flow_meaning.specs.Dropping.{port_of}
use Rattle.flow_heap_refinement.specs.Counted.{branches_at, waiting_of}
use Rattle.flow_heap_refinement.specs.Rested.{PortsRise}
use Rattle.flow_heap_refinement.specs.Acting.{NoKeep}
use Rattle.flow_heap_refinement.proofs.Finds.{none_above}
use Rattle.flow_step_refinement.specs.Effects.Numbers as law

none_next : (ps : Numbered ℕ) (above n : ℕ) → PortsRise above n ps → port_of (suc n) ps ≡ None
none_next [] above n h = refl
none_next (x ∷ xs) above n h =
    let l = h.1 in
    let differ : nat_eq (suc n) x.1 ≡ false = grind (arith, nat_tests, l) in
    ap (λ b. if b then Some x.0 else port_of (suc n) xs) differ ∙ none_next xs x.1 n h.3

pub port_free : law.PortFree
port_free c numbers = none_next c.ports 0 c.made numbers.ports

-- an actor without tasks has no operand to keep
others : (i : ℕ) (t : Task) (ts : List Task) → tasks_of i (t ∷ ts) ≡ [] → tasks_of i ts ≡ []
others i t ts h = by_test (is_of i t) h
  where
    by_test : (b : Bool) → (if b then t ∷ tasks_of i ts else tasks_of i ts) ≡ [] → tasks_of i ts ≡ []
    by_test true g = absurd (cc (g))
    by_test false g = g

no_keep : (i : ℕ) (ts : List Task) → tasks_of i ts ≡ [] → NoKeep i ts
no_keep i [] h = tt
no_keep i (Keep j spot r ∷ ts) h = (not_its_own, no_keep i ts (others i (Keep j spot r) ts h))
  where
    not_its_own : i ≡ j → ⊥
    not_its_own same =
        let t : nat_eq i j ≡ true = grind (arith, nat_tests, same) in
        let g : Keep j spot r ∷ tasks_of i ts ≡ [] = sym (ap (λ b. if b then Keep j spot r ∷ tasks_of i ts else tasks_of i ts) t) ∙ h in cc (g)
no_keep i (Run j ∷ ts) h = no_keep i ts (others i (Run j) ts h)
no_keep i (Give j b o ∷ ts) h = no_keep i ts (others i (Give j b o) ts h)
no_keep i (Throw j e ∷ ts) h = no_keep i ts (others i (Throw j e) ts h)
no_keep i (Catch j e ∷ ts) h = no_keep i ts (others i (Catch j e) ts h)
no_keep i (Store j v ∷ ts) h = no_keep i ts (others i (Store j v) ts h)
no_keep i (Close j o ∷ ts) h = no_keep i ts (others i (Close j o) ts h)
no_keep i (Fire k ∷ ts) h = no_keep i ts (others i (Fire k) ts h)
no_keep i (Drop kd k ∷ ts) h = no_keep i ts (others i (Drop kd k) ts h)

pub actor_free : law.ActorFree
actor_free c agree orderly =
    let none : thing c.entries (suc c.started) ≡ None = none_above c.entries 0 c.started (suc c.started) orderly.numbered (omega arith) in record {
      waits = λ k. agree (suc c.started) k ∙ ap (λ o. branches_at k 0 (waiting_of o)) none;
      keeps = no_keep (suc c.started) c.tasks (subst (λ o. Stands (suc c.started) (is_suspended o) (tasks_of (suc c.started) c.tasks)) none (orderly.actors (suc c.started)));
    }
