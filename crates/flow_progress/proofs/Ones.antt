-- Without its owner nothing refers to the promise side that is owned alone.
use Rattle.std.proofs.Common.{◌≡◌, ℕ, suc, ◌+◌, nat_eq, Bool, true, false, List, [], ◌∷◌, refl, sym, ap, ◌∙◌, arith, if◌then◌else◌}
use Rattle.std.specs.declared.option.Option.TheVariants.{None, Some}
use Rattle.flow_value.specs.Values.{OutcomeTree}
use Rattle.flow_numbered.specs.Numbered.{Numbered, thing, removed}
use Rattle.flow_meaning.specs.Cells.{Side, PromiseSide, FutureSide}
use Rattle.flow_meaning.specs.Process.{Task, Close, Entry, Core}
use Rattle.flow_meaning.specs.References.{refs_in, value_in, one, count, count_maybe, count_kept, in_cells, in_entries, in_tasks, in_ports, in_requests, reference_count}
use Rattle.flow_meaning.specs.Dropping.{port_of}
use Rattle.flow_meaning.specs.Frame.{Frame, occ_memory}
use Rattle.flow_progress.specs.Alone.{frames_scan, PortsAlone, ResultsAlone}
use Rattle.flow_progress.proofs.Unseen.{mark}

-- Without a port nothing refers to the promise side of its stream; and a port is there once.
pub record PortsGone (c : Core) (xs : Numbered Frame) : Type 0 where
  pub alone : (port k : ℕ) → port_of k c.ports ≡ Some port → reference_count (frames_scan xs) PromiseSide k (record c { ports = removed c.ports port }) ≡ 0
  pub once : (port : ℕ) → thing (removed c.ports port) port ≡ None

-- Without an actor nothing refers to the promise side of its result; and the value that it ends with doesn't refer to that
-- result, which no value of its type can.
pub record ResultsGone (c : Core) (xs : Numbered Frame) : Type 0 where
  pub alone : (i k : ℕ) (e : Entry) → thing c.entries i ≡ Some e → e.result ≡ Some k → reference_count (frames_scan (removed xs i)) PromiseSide k (record c { entries = removed c.entries i }) ≡ 0
  pub apart : (i k : ℕ) (e : Entry) (o : OutcomeTree) (ts : List Task) → c.tasks ≡ Close i o ∷ ts → thing c.entries i ≡ Some e → e.result ≡ Some k → count FutureSide k (refs_in (value_in o)) ≡ 0

marked : (b : Bool) → b ≡ true → mark b ≡ 1
marked true e = refl
marked false e = absurd cc

same_number : (n : ℕ) → nat_eq n n ≡ true
same_number n = by_test (nat_eq n n) refl
  where
    by_test : (b : Bool) → nat_eq n n ≡ b → nat_eq n n ≡ true
    by_test true e = e
    by_test false e = absurd (let f : ⊥ = grind (arith, e) in f)

some_number : (m n : ℕ) → Some m ≡ Some n → m ≡ n
some_number m n e = cc

-- a port
port_there : (k : ℕ) (ps : Numbered ℕ) (port : ℕ) → port_of k ps ≡ Some port → thing ps port ≡ None → ⊥
port_there k [] port e h = cc
port_there k (x ∷ xs) port e h = by_tests (nat_eq k x.1) (nat_eq port x.0) refl e h (port_there k xs port)
  where
    by_tests : (b d : Bool) → nat_eq port x.0 ≡ d → (if b then Some x.0 else port_of k xs) ≡ Some port → (if d then Some x.1 else thing xs port) ≡ None
        → (port_of k xs ≡ Some port → thing xs port ≡ None → ⊥) → ⊥
    by_tests b true q e h f = cc
    by_tests true false q e h f = let m = some_number x.0 port e in let z : ⊥ = grind (arith, q, m) in z
    by_tests false false q e h f = f e h

port_removed : (k : ℕ) (ps : Numbered ℕ) (port : ℕ) → port_of k ps ≡ Some port → thing (removed ps port) port ≡ None → in_ports PromiseSide k ps ≡ suc (in_ports PromiseSide k (removed ps port))
port_removed k [] port e h = absurd cc
port_removed k (x ∷ xs) port e h = by_tests (nat_eq k x.1) (nat_eq port x.0) refl refl e h (port_removed k xs port)
  where
    by_tests : (b d : Bool) → nat_eq k x.1 ≡ b → nat_eq port x.0 ≡ d → (if b then Some x.0 else port_of k xs) ≡ Some port → thing (if d then xs else x ∷ removed xs port) port ≡ None
        → (port_of k xs ≡ Some port → thing (removed xs port) port ≡ None → in_ports PromiseSide k xs ≡ suc (in_ports PromiseSide k (removed xs port)))
        → one PromiseSide k PromiseSide x.1 + in_ports PromiseSide k xs ≡ suc (in_ports PromiseSide k (if d then xs else x ∷ removed xs port))
    by_tests true true p q e h f = let m : one PromiseSide k PromiseSide x.1 ≡ 1 = marked (nat_eq k x.1) p in omega (arith, m)
    by_tests true false p q e h f = let m = some_number x.0 port e in absurd (let z : ⊥ = grind (arith, q, m) in z)
    by_tests false true p q e h f = absurd (port_there k xs port e h)
    by_tests false false p q e h f =
        let g = f e (sym (ap (λ b. if b then Some x.1 else thing (removed xs port) port) q) ∙ h) in omega (arith, g)

-- an actor
entry_removed : (k : ℕ) (es : Numbered Entry) (i : ℕ) (e : Entry) → thing es i ≡ Some e → e.result ≡ Some k
    → (n : ℕ) × (in_entries PromiseSide k es ≡ suc (n + in_entries PromiseSide k (removed es i)))
entry_removed k [] i e at h = absurd cc
entry_removed k (x ∷ xs) i e at h = by_test (nat_eq i x.0) at (entry_removed k xs i e)
  where
    same_entry : Some x.1 ≡ Some e → x.1 ≡ e
    same_entry q = cc

    by_test : (b : Bool) → (if b then Some x.1 else thing xs i) ≡ Some e
        → (thing xs i ≡ Some e → e.result ≡ Some k → (n : ℕ) × (in_entries PromiseSide k xs ≡ suc (n + in_entries PromiseSide k (removed xs i))))
        → (n : ℕ) × (count_maybe PromiseSide k PromiseSide x.1.result + count_kept PromiseSide k x.1.suspended x.1.operands + in_entries PromiseSide k xs
        ≡ suc (n + in_entries PromiseSide k (if b then xs else x ∷ removed xs i)))
    by_test true at f =
        let own : x.1.result ≡ Some k = ap (λ (e : Entry). e.result) (same_entry at) ∙ h in
        let m : count_maybe PromiseSide k PromiseSide x.1.result ≡ 1 = ap (count_maybe PromiseSide k PromiseSide) own ∙ marked (nat_eq k k) (same_number k) in
        (count_kept PromiseSide k x.1.suspended x.1.operands, omega (arith, m))
    by_test false at f = let g = f at h in let w = g.1 in (g.0, omega (arith, w))

scan_removed : (s : Side) (k : ℕ) (xs : Numbered Frame) (i : ℕ) → (n : ℕ) × (frames_scan xs s k ≡ n + frames_scan (removed xs i) s k)
scan_removed s k [] i = (0, refl)
scan_removed s k (x ∷ xs) i = by_test (nat_eq i x.0) (scan_removed s k xs i)
  where
    by_test : (b : Bool) → (n : ℕ) × (frames_scan xs s k ≡ n + frames_scan (removed xs i) s k)
        → (n : ℕ) × (occ_memory s k x.1.mem + frames_scan xs s k ≡ n + frames_scan (if b then xs else x ∷ removed xs i) s k)
    by_test true f = (occ_memory s k x.1.mem, refl)
    by_test false f = let w = f.1 in (f.0, omega (arith, w))

less_port : (q a b d p p2 e f : ℕ) → q + (a + b + d + p + e + f) ≡ 1 → p ≡ suc p2 → q + (a + b + d + p2 + e + f) ≡ 0
less_port q a b d p p2 e f h k = omega (arith, h, k)

less_entry : (q q2 m n a b b2 d p e f : ℕ) → q + (a + b + d + p + e + f) ≡ 1 → q ≡ m + q2 → b ≡ suc (n + b2) → q2 + (a + b2 + d + p + e + f) ≡ 0
less_entry q q2 m n a b b2 d p e f h k l = omega (arith, h, k, l)

pub ports_gone : (c : Core) (xs : Numbered Frame) → PortsAlone c xs → PortsGone c xs
ports_gone c xs h = record {
  alone = λ port k q. less_port (frames_scan xs PromiseSide k) (in_cells PromiseSide k c.cells) (in_entries PromiseSide k c.entries) (in_tasks PromiseSide k c.tasks) (in_ports PromiseSide k c.ports)
      (in_ports PromiseSide k (removed c.ports port))
      (in_requests PromiseSide k c.requests) (count_maybe PromiseSide k FutureSide c.main) (h.alone port k q) (port_removed k c.ports port q (h.once port));
  once = h.once;
}

pub results_gone : (c : Core) (xs : Numbered Frame) → ResultsAlone c xs
    → ((i k : ℕ) (e : Entry) (o : OutcomeTree) (ts : List Task) → c.tasks ≡ Close i o ∷ ts → thing c.entries i ≡ Some e → e.result ≡ Some k → count FutureSide k (refs_in (value_in o)) ≡ 0)
    → ResultsGone c xs
results_gone c xs h apart = record {
  alone = λ i k e at own. let s = scan_removed PromiseSide k xs i in let d = entry_removed k c.entries i e at own in
      less_entry (frames_scan xs PromiseSide k) (frames_scan (removed xs i) PromiseSide k) s.0 d.0 (in_cells PromiseSide k c.cells) (in_entries PromiseSide k c.entries)
      (in_entries PromiseSide k (removed c.entries i)) (in_tasks PromiseSide k c.tasks)
      (in_ports PromiseSide k c.ports) (in_requests PromiseSide k c.requests) (count_maybe PromiseSide k FutureSide c.main) (h i k e at own) s.1 d.1;
  apart = apart;
}
