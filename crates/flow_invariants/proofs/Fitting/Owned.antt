-- What a process made a cell for is its own alone.
use Rattle.std.proofs.Common.{◌≡◌, ℕ, ◌+◌, ◌<◌, nat_eq, Bool, true, false, [], ◌∷◌, if◌then◌else◌, refl, sym, ap, subst, ◌∙◌, inl, arith}
use Rattle.std.specs.declared.option.Option.TheVariants.{None, Some}
use Rattle.flow_numbered.specs.Numbered.{Numbered, thing, removed}
use Rattle.flow_meaning.specs.Cells.{PromiseSide}
use Rattle.flow_meaning.specs.Process.{Entry, Core}
use Rattle.flow_meaning.specs.References.{one, count_maybe, in_ports}
use Rattle.flow_meaning.specs.Dropping.{port_of}
use Rattle.flow_meaning.specs.Step.{proc}
use Rattle.flow_meaning.specs.Frame.{Frame}
use Rattle.flow_meaning.proofs.Posture.{same_number}
use Rattle.flow_heap_refinement.specs.Rested.{PortsRise}
use Rattle.flow_heap_refinement.specs.Alone.{results_at, owners_of}
use Rattle.flow_heap_refinement.specs.CellsTied.{CellsTied}
use Rattle.flow_heap_refinement.specs.Lonely.{OwnedAlone}
use Rattle.flow_heap_refinement.proofs.Once.{one_reference}
use Rattle.flow_progress.specs.Alone.{PortsAlone, ResultsAlone}

one_self : (k : ℕ) → one PromiseSide k PromiseSide k ≡ 1
one_self k = ap (λ (b : Bool). if b then 1 else 0) (same_number k)

-- a port's stream is owned, and so is an actor's result
port_owned : (k : ℕ) (ps : Numbered ℕ) (port : ℕ) → port_of k ps ≡ Some port → 0 < in_ports PromiseSide k ps
port_owned k [] port e = absurd cc
port_owned k (x ∷ ps) port e = by_test (nat_eq k x.1) refl e (port_owned k ps port)
  where
    by_test : (b : Bool) → nat_eq k x.1 ≡ b → (if b then Some x.0 else port_of k ps) ≡ Some port → (port_of k ps ≡ Some port → 0 < in_ports PromiseSide k ps)
        → 0 < one PromiseSide k PromiseSide x.1 + in_ports PromiseSide k ps
    by_test true q f rest = let m : one PromiseSide k PromiseSide x.1 ≡ 1 = ap (λ (b : Bool). if b then 1 else 0) q in omega (arith, m)
    by_test false q f rest = let m = rest f in omega (arith, m)

result_owned : (k i : ℕ) (es : Numbered Entry) (e : Entry) → thing es i ≡ Some e → e.result ≡ Some k → 0 < results_at k es
result_owned k i [] e at own = absurd cc
result_owned k i (x ∷ es) e at own = by_test (nat_eq i x.0) at (λ f. result_owned k i es e f own)
  where
    same : Some x.1 ≡ Some e → x.1 ≡ e
    same q = cc

    by_test : (b : Bool) → (if b then Some x.1 else thing es i) ≡ Some e → (thing es i ≡ Some e → 0 < results_at k es) → 0 < count_maybe PromiseSide k PromiseSide x.1.result + results_at k es
    by_test true f rest =
        let m : count_maybe PromiseSide k PromiseSide x.1.result ≡ 1 = ap (count_maybe PromiseSide k PromiseSide) (ap (λ (y : Entry). y.result) (same f) ∙ own) ∙ one_self k in
        omega (arith, m)
    by_test false f rest = let m = rest f in omega (arith, m)

-- ports differ
no_port : (above made : ℕ) (ps : Numbered ℕ) → PortsRise above made ps → (port : ℕ) → thing (removed ps port) port ≡ None
no_port above made [] h port = refl
no_port above made (x ∷ ps) h port = by_test (nat_eq port x.0) refl (no_port x.1 made ps h.3 port)
  where
    by_test : (b : Bool) → nat_eq port x.0 ≡ b → thing (removed ps port) port ≡ None → thing (if b then ps else x ∷ removed ps port) port ≡ None
    by_test true q rest = let same : port ≡ x.0 = grind (arith, q) in subst (λ n. thing ps n ≡ None) (sym same) h.2
    by_test false q rest = ap (λ (b : Bool). if b then Some x.1 else thing (removed ps port) port) q ∙ rest

pub ports_alone : (c : Core) (xs : Numbered Frame) → CellsTied c → OwnedAlone (proc c xs) → PortsAlone c xs
ports_alone c xs t h = record {
  alone = λ port k q.
      let m = port_owned k c.ports port q in
      let own : 0 < owners_of k c = omega (arith, m) in one_reference k (proc c xs) t.once (h k (inl own)) own;
  once = no_port 0 c.made c.ports t.numbers.ports;
}

pub results_alone : (c : Core) (xs : Numbered Frame) → CellsTied c → OwnedAlone (proc c xs) → ResultsAlone c xs
results_alone c xs t h i k e at q =
    let m = result_owned k i c.entries e at q in
    let own : 0 < owners_of k c = omega (arith, m) in one_reference k (proc c xs) t.once (h k (inl own)) own
