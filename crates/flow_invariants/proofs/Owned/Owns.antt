-- A process that fits, whose own cells are unset, owns what it made a cell for.
use Rattle.std.proofs.Common.{◌≡◌, ℕ, ◌+◌, ◌<◌, nat_eq, Bool, true, false, List, [], ◌∷◌, if◌then◌else◌, refl, sym, ap, subst, ◌∙◌, inl, arith}
use Rattle.std.specs.Prelude.{codes}
use Rattle.std.specs.declared.option.Option.TheVariants.{Some}
use Rattle.flow_tree.specs.Tree.{NamedType, FutureStreamType}
use Rattle.flow_numbered.specs.Numbered.{Numbered, thing}
use Rattle.flow_meaning.specs.Cells.{PromiseSide, Cell, Single, Stream}
use Rattle.flow_meaning.specs.Process.{Entry}
use Rattle.flow_meaning.specs.References.{one, count_maybe, in_requests}
use Rattle.flow_meaning.specs.Dropping.{port_of}
use Rattle.flow_meaning.proofs.Posture.{same_number}
use Rattle.flow_meaning.proofs.Shifts.{same_of}
use Rattle.flow_meaning.proofs.InOrder.{no_thing}
use Rattle.flow_heap_refinement.specs.Rested.{has, IsStream}
use Rattle.flow_heap_refinement.specs.Alone.{results_at, owners_of}
use Rattle.flow_heap_refinement.proofs.Beside.{one_each}
use Rattle.flow_heap_refinement.proofs.Once.{one_reference}
use Rattle.flow_progress.specs.Fitting.{CellFits}
use Rattle.flow_progress.proofs.CellStates.{cell_there}
use Rattle.flow_invariants.proofs.Fitting.Owned.{ports_alone, results_alone}
use Rattle.flow_invariants.specs.Owned.{awaited, ProcessesOwn}

result_counts : (k i : ℕ) (es : Numbered Entry) (e : Entry) → thing es i ≡ Some e → e.result ≡ Some k → 0 < results_at k es
result_counts k i [] e at own = absurd (no_thing at)
result_counts k i (x ∷ es) e at own = by_test (nat_eq i x.0) at (λ f. result_counts k i es e f own)
  where
    by_test : (b : Bool) → (if b then Some x.1 else thing es i) ≡ Some e → (thing es i ≡ Some e → 0 < results_at k es) → 0 < count_maybe PromiseSide k PromiseSide x.1.result + results_at k es
    by_test true f rest =
        let a = ap (count_maybe PromiseSide k PromiseSide) (ap (λ (y : Entry). y.result) (same_of f) ∙ own) in
        let b : one PromiseSide k PromiseSide k ≡ 1 = ap (λ (b : Bool). if b then 1 else 0) (same_number k) in omega (arith, a, b)
    by_test false f rest = let a = rest f in omega (arith, a)

request_counts : (k : ℕ) (ks : List ℕ) → has k ks ≡ true → 0 < in_requests PromiseSide k ks
request_counts k [] h = absurd cc
request_counts k (x ∷ ks) h = by_test (nat_eq k x) refl h (request_counts k ks)
  where
    by_test : (b : Bool) → nat_eq k x ≡ b → (if b then true else has k ks) ≡ true → (has k ks ≡ true → 0 < in_requests PromiseSide k ks)
        → 0 < one PromiseSide k PromiseSide x + in_requests PromiseSide k ks
    by_test true q f rest = let a : one PromiseSide k PromiseSide x ≡ 1 = ap (λ (b : Bool). if b then 1 else 0) q in omega (arith, a)
    by_test false q f rest = let a = rest f in omega (arith, a)

pub owns : ProcessesOwn
owns r n es p f u = record {
  result = λ i k e at own.
      let a = result_counts k i p.core.entries e at own in
      let w : 0 < awaited k p.core = omega (arith, a) in (u k w, results_alone p.core p.actors f.tied f.alone i k e at own);
  request = λ k h.
      let a = request_counts k p.core.requests h in
      let w : 0 < awaited k p.core = omega (arith, a) in
      let own : 0 < owners_of k p.core = omega (arith, a) in (u k w, one_reference k p f.tied.once (f.alone k (inl own)) own);
  port = λ q k at. (stream_at q k at, (ports_alone p.core p.actors f.tied f.alone).alone q k at);
}
  where
    is_stream : (cell : Cell) → CellFits r f.types cell (FutureStreamType (NamedType (codes "Packet"))) → IsStream (Some cell)
    is_stream (Single o ws) h = absurd (let e = h.1 in cc)
    is_stream (Stream q e w) h = tt

    stream_at : (q k : ℕ) → port_of k p.core.ports ≡ Some q → IsStream (thing p.core.cells k)
    stream_at q k at =
        let t = FutureStreamType (NamedType (codes "Packet")) in
        let there = (one_each p.core.ports 0 p.core.made f.tied.numbers.ports q k at).0 in
        let c = cell_there r f.types k t (thing p.core.cells k) (f.fits.ports q k there) (f.fits.cells k) in subst IsStream (sym c.1) (is_stream c.0 c.2)
