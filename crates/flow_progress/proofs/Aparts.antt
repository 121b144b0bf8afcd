-- The value that an actor ends with doesn't refer to its own result.
use Rattle.std.proofs.Common.{◌≡◌, ℕ, nat_eq, Bool, true, false, List, [], ◌∷◌, refl, sym, ap, ◌∙◌, arith, subst}
use Rattle.std.specs.declared.option.Option.TheVariants.{Some}
use Rattle.flow_tree.specs.Tree.{TypeTree, FutureType}
use Rattle.flow_value.specs.declared.value.Kind.{Kind}
use Rattle.flow_value.specs.declared.value.Kind.TheVariants as kind
use Rattle.flow_value.specs.Values.{ValueTree, OutcomeTree, GoodOutcome, BadOutcome, refs_of, AllListed}
use Rattle.flow_value.proofs.References.{refs_listed}
use Rattle.flow_class.specs.Classes.{RawTree}
use Rattle.flow_valid.specs.Validity.{IsValid}
use Rattle.flow_numbered.specs.Numbered.{Numbered, thing}
use Rattle.flow_meaning.specs.Cells.{FutureSide, Ref, side_of}
use Rattle.flow_meaning.specs.Process.{Task, Close, Entry, Core}
use Rattle.flow_meaning.specs.References.{refs_in, value_in, one, count}
use Rattle.flow_meaning.specs.Orderly.{Orderly}
use Rattle.flow_meaning.specs.Frame.{Frame}
use Rattle.flow_meaning.proofs.Shifts.{close_of}
use Rattle.flow_progress.specs.Asking.{OutcomeFits}
use Rattle.flow_progress.specs.Fitting.{CellTypes, typed_by, ProcessFits, OwnsResult}
use Rattle.flow_progress.proofs.Retyped.{Seen, Sees}
use Rattle.flow_progress.proofs.StepFits.{actor_here}
use Rattle.flow_progress.proofs.Unseen.{Off, mark, count_append}
use Rattle.flow_progress.proofs.Depths.{apart}
use Rattle.flow_progress.proofs.Given.{end_given}

module _ (k : ℕ) where
  not_marked : (n : ℕ) → Off k n → mark (nat_eq k n) ≡ 0
  not_marked n off = by_test (nat_eq k n) refl
    where
      by_test : (b : Bool) → nat_eq k n ≡ b → mark b ≡ 0
      by_test true e = absurd (off (let f : n ≡ k = grind (arith, e) in f))
      by_test false e = refl

  one_zero : (kd : Kind) (n : ℕ) → Off k n → one FutureSide k (side_of kd) n ≡ 0
  one_zero kind.Promise n off = refl
  one_zero kind.PromiseStream n off = refl
  one_zero kind.Future n off = not_marked n off
  one_zero kind.FutureStream n off = not_marked n off

  refs_zero : (qs : List Ref) → AllListed (Seen (Off k)) qs → count FutureSide k qs ≡ 0
  refs_zero [] h = refl
  refs_zero (q ∷ qs) h = let a = one_zero q.0 q.1 h.0 in let b = refs_zero qs h.1 in omega (arith, a, b)

  value_zero : (v : ValueTree) → Sees (Off k) v → count FutureSide k (refs_of v) ≡ 0
  value_zero v h = refs_zero (refs_of v) (refs_listed (Seen (Off k)) v h)

  outcome_zero : (r : RawTree) → IsValid r → (types : CellTypes) (o : OutcomeTree) (t : TypeTree) → types k ≡ Some (FutureType t) → OutcomeFits r.records (typed_by types) o t
      → count FutureSide k (refs_in (value_in o)) ≡ 0
  outcome_zero r valid types (BadOutcome e) t g h = refl
  outcome_zero r valid types (GoodOutcome v) t g h =
      let a = value_zero v (apart r valid types k v t g h) in
      let c = count_append FutureSide k (refs_of v) [] in omega (arith, a, c)

some_entry : (d e : Entry) → Some d ≡ Some e → d ≡ e
some_entry d e h = cc

pub ends_apart : (r : RawTree) → IsValid r → (types : CellTypes) (c : Core) (xs : Numbered Frame) → ProcessFits r types c xs → Orderly c → (i k : ℕ) (e : Entry) (o : OutcomeTree) (ts : List Task)
    → c.tasks ≡ Close i o ∷ ts
    → thing c.entries i ≡ Some e → e.result ≡ Some k → count FutureSide k (refs_in (value_in o)) ≡ 0
ends_apart r valid types c xs p order i k e o ts top at own =
    let a = actor_here r types i (Close i o) ts c xs order top (close_of i o) p in
    let here : a.entry.result ≡ Some k = ap (λ (e : Entry). e.result) (some_entry a.entry e (sym a.at ∙ at)) ∙ own in
    let owns = subst (λ x. OwnsResult r types x a.class.returns) here a.owner.owns in
    outcome_zero k r valid types o a.class.returns owns.1 (subst (OutcomeFits r.records (typed_by types) o) (end_given a.class.returns owns.0) a.doing.0)
