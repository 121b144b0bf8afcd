-- The next cell is the stream of no port, in memory either.
use Rattle.std.proofs.Common.{◌≡◌, ℕ, suc, ◌<◌, nat_eq, Bool, true, false, List, [], ◌∷◌, if◌then◌else◌, refl, sym, ap, subst, ◌∙◌, arith}
use Rattle.std.proofs.lemmas.Bool.Decides.{nat_tests}
use Rattle.std.specs.Prelude.{nat_lt, ◌||◌, is_some}
use Rattle.std.specs.declared.option.Option.TheVariants.{None, Some}
use Rattle.flow_class.specs.Classes.{RawTree}
use Rattle.flow_cancel.specs.Heap.{HeapTree, has_number, with_number, next_cell}
use Rattle.flow_cancel.proofs.Noted.{has_with}
use Rattle.flow_numbered.specs.Numbered.{Numbered}
use Rattle.flow_meaning.specs.Process.{Proc}
use Rattle.flow_meaning.specs.Dropping.{port_of}
use Rattle.flow_meaning.specs.Frame.{Frame}
use Rattle.flow_heap_refinement.specs.Representing.{Represents}
use Rattle.flow_heap_refinement.specs.Rested.{PortsRise, InNumbers}
use Rattle.flow_burst_refinement.proofs.Invariants.Once.{Once, has_first, with_first, first_alone, others_once, nor_second, not_either}

none_above : (above n k : ℕ) (ps : Numbered ℕ) → n < k → PortsRise above n ps → port_of k ps ≡ None
none_above above n k [] l h = refl
none_above above n k (x ∷ ps) l h = by_test (nat_eq k x.1) refl (none_above x.1 n k ps l h.3)
  where
    by_test : (b : Bool) → nat_eq k x.1 ≡ b → port_of k ps ≡ None → (if b then Some x.0 else port_of k ps) ≡ None
    by_test true e rest = absurd (let f : ⊥ = grind (arith, nat_tests, e, l, h.1) in f)
    by_test false e rest = rest

pub no_port : (r : RawTree) (h : HeapTree) (p : Proc Frame) → Represents r h p → InNumbers p.core → has_number h.ports (next_cell h) ≡ false
no_port r h p s n =
    ap (has_number h.ports) s.made ∙ s.ports (suc p.core.made) ∙ ap is_some (none_above 0 p.core.made (suc p.core.made) p.core.ports (omega arith) n.ports)

-- a new number stands once
pub once_more : (n : ℕ) (ns : List ℕ) → has_number ns n ≡ false → Once ns → Once (with_number ns n)
once_more n [] none h = with_first n [] refl h
once_more n (x ∷ xs) none h =
    let e = sym (has_first n x xs) ∙ none in
    by_order (nat_lt n x) refl (not_either (nat_eq n x) (has_number xs n) e)
    (once_more n xs (nor_second (nat_eq n x) (has_number xs n) e) (others_once x xs h))
  where
    apart : nat_eq n x ≡ false → has_number (with_number xs n) x ≡ false
    apart e =
        let f : nat_eq x n ≡ false = grind (arith, nat_tests, e) in
        has_with x n xs ∙ ap (λ b. b || has_number xs x) f ∙ first_alone x xs h

    front : nat_lt n x ≡ true → with_number (x ∷ xs) n ≡ n ∷ x ∷ xs
    front q = rw q refl

    behind : nat_lt n x ≡ false → nat_eq n x ≡ false → with_number (x ∷ xs) n ≡ x ∷ with_number xs n
    behind q e = rw (q, e) refl

    by_order : (t : Bool) → nat_lt n x ≡ t → nat_eq n x ≡ false → Once (with_number xs n) → Once (with_number (x ∷ xs) n)
    by_order true q e rest = subst Once (sym (front q)) (with_first n (x ∷ xs) none h)
    by_order false q e rest = subst Once (sym (behind q e)) (with_first x (with_number xs n) (apart e) rest)
