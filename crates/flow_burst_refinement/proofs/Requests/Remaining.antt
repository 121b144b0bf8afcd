-- Which ports are left after steps, by what memory shows before and after them.
use Rattle.std.proofs.Common.{◌≡◌, ◌⊎◌, inl, inr, ◌≤◌, ◌<◌, ℕ, suc, nat_eq, Bool, true, false, List, [], ◌∷◌, if◌then◌else◌, refl, sym, ap, ◌∙◌, subst, arith}
use Rattle.std.proofs.lemmas.Bool.Decides.{nat_tests}
use Rattle.std.specs.Prelude.{cond, ◌||◌, is_some}
use Rattle.std.specs.Ordering.{nat_cmp}
use Rattle.std.specs.BTreeMap.{is_at}
use Rattle.std.specs.declared.option.Option.{Option}
use Rattle.std.specs.declared.option.Option.TheVariants.{None, Some}
use Rattle.flow_class.specs.Classes.{RawTree}
use Rattle.flow_cancel.specs.Heap.{has_number, without_number}
use Rattle.flow_cancel.proofs.Noted.{at_number}
use Rattle.flow_numbered.specs.Numbered.{Numbered, added, removed}
use Rattle.flow_meaning.specs.Requests.{Supply}
use Rattle.flow_meaning.specs.Process.{Core, Proc}
use Rattle.flow_meaning.specs.Dropping.{port_of}
use Rattle.flow_meaning.specs.Step.{silent}
use Rattle.flow_meaning.specs.Frame.{Frame}
use Rattle.flow_heap_refinement.specs.Rested.{PortsRise, InNumbers}
use Rattle.flow_heap_refinement.proofs.Beside.{one_each, port_gone}
use Rattle.flow_steps.specs.declared.call.Call.{Call}
use Rattle.flow_steps.specs.declared.call.Call.TheVariants as call
use Rattle.flow_machine.specs.Hosting.{unheard_at, unheard}
use Rattle.flow_operation_refinement.specs.Stepped.{OnlyTells}
use Rattle.flow_burst_refinement.specs.Invariants.Staying.{ports_after}
use Rattle.flow_burst_refinement.specs.Bursts.{ports_left}
use Rattle.flow_step_refinement.specs.Continuing.{Silent, no_more, then_on}
use Rattle.flow_burst_refinement.specs.Requests.Ports as law
use Rattle.flow_burst_refinement.specs.Requests.Ports.{PortsChange, same, more}
use Rattle.flow_burst_refinement.proofs.Requests.Changing.{step_ports}

-- streams with numbers above n
abbrev Above : ℕ → Numbered ℕ → Type 0
Above n [] = Unit {0}
Above n (x ∷ xs) = (n < x.1) × Above n xs

-- Of some ports some are left, in their order, and others come after them, with streams above n.
abbrev Thinned : ℕ → Numbered ℕ → Numbered ℕ → Type 0
Thinned n [] ys = Above n ys
Thinned n (x ∷ xs) ys = ((zs : Numbered ℕ) × (ys ≡ x ∷ zs) × Thinned n xs zs) ⊎ Thinned n xs ys

whole : (n : ℕ) (xs : Numbered ℕ) → Thinned n xs xs
whole n [] = tt
whole n (x ∷ xs) = inl (xs, refl, whole n xs)

above_removed : (n port : ℕ) (es : Numbered ℕ) → Above n es → Above n (removed es port)
above_removed n port [] h = tt
above_removed n port (x ∷ xs) h = by_test (nat_eq port x.0) (above_removed n port xs h.1)
  where
    by_test : (b : Bool) → Above n (removed xs port) → Above n (if b then xs else x ∷ removed xs port)
    by_test true rest = h.1
    by_test false rest = (h.0, rest)

above_added : (n port k : ℕ) (es : Numbered ℕ) → n < k → Above n es → Above n (added es port k)
above_added n port k [] l h = (l, tt)
above_added n port k (x ∷ xs) l h = (h.0, above_added n port k xs l h.1)

thinned_removed : (n port : ℕ) (xs ys : Numbered ℕ) → Thinned n xs ys → Thinned n xs (removed ys port)
thinned_removed n port [] ys h = above_removed n port ys h
thinned_removed n port (x ∷ xs) ys (inl t) = subst (λ l. Thinned n (x ∷ xs) (removed l port)) (sym t.1) (by_test (nat_eq port x.0) (thinned_removed n port xs t.0 t.2))
  where
    by_test : (b : Bool) → Thinned n xs (removed t.0 port) → Thinned n (x ∷ xs) (if b then t.0 else x ∷ removed t.0 port)
    by_test true rest = inr t.2
    by_test false rest = inl (removed t.0 port, refl, rest)
thinned_removed n port (x ∷ xs) ys (inr t) = inr (thinned_removed n port xs ys t)

thinned_added : (n port k : ℕ) (xs ys : Numbered ℕ) → n < k → Thinned n xs ys → Thinned n xs (added ys port k)
thinned_added n port k [] ys l h = above_added n port k ys l h
thinned_added n port k (x ∷ xs) ys l (inl t) = inl (added t.0 port k, ap (λ z. added z port k) t.1, thinned_added n port k xs t.0 l t.2)
thinned_added n port k (x ∷ xs) ys l (inr t) = inr (thinned_added n port k xs ys l t)

-- a number between is that of no stream that is left
beyond : (n k : ℕ) (es : Numbered ℕ) → k ≤ n → Above n es → port_of k es ≡ None
beyond n k [] b h = refl
beyond n k (x ∷ xs) b h =
    let l = h.0 in
    let differ : nat_eq k x.1 ≡ false = grind (arith, nat_tests, l, b) in ap (λ t. if t then Some x.0 else port_of k xs) differ ∙ beyond n k xs b h.1

none_above : (low n k : ℕ) (xs ys : Numbered ℕ) → k ≤ low → k ≤ n → PortsRise low n xs → Thinned n xs ys → port_of k ys ≡ None
none_above low n k [] ys a b h t = beyond n k ys b t
none_above low n k (x ∷ xs) ys a b h (inl t) =
    let l = h.0 in
    let differ : nat_eq k x.1 ≡ false = grind (arith, nat_tests, l, a) in
    ap (port_of k) t.1 ∙ ap (λ u. if u then Some x.0 else port_of k t.0) differ ∙ none_above x.1 n k xs t.0 (omega (arith, l, a)) b h.3 t.2
none_above low n k (x ∷ xs) ys a b h (inr t) = let l = h.0 in none_above x.1 n k xs ys (omega (arith, l, a)) b h.3 t

-- the stream of the first is there
first_there : (x : ℕ × ℕ) (ys : Numbered ℕ) → port_of x.1 (x ∷ ys) ≡ Some x.0
first_there x ys = let t : nat_eq x.1 x.1 ≡ true = grind (arith, nat_tests) in ap (λ b. if b then Some x.0 else port_of x.1 ys) t

-- which streams are those of ports
abbrev AsMany : Numbered ℕ → Numbered ℕ → Type 0
AsMany ys zs = (k : ℕ) → is_some (port_of k ys) ≡ is_some (port_of k zs)

-- Of the same ports, where as many streams are left on both sides, and none comes on one of them, the same are left.
same_left : (low n : ℕ) (xs ys zs : Numbered ℕ) → PortsRise low n xs → Thinned n xs ys → Thinned n xs zs → ((k : ℕ) → n < k → port_of k zs ≡ None) → AsMany ys zs → ys ≡ zs
same_left low n [] ys zs h a b none many = both ys zs a b many none
  where
    nothing : (x : ℕ × ℕ) (es fs : Numbered ℕ) → n < x.1 → is_some (port_of x.1 (x ∷ es)) ≡ is_some (port_of x.1 fs) → ((k : ℕ) → n < k → port_of k fs ≡ None) → ⊥
    nothing x es fs l e none = let a = ap is_some (first_there x es) in let b = ap is_some (none x.1 l) in absurd (cc (a, e, b))

    both : (es fs : Numbered ℕ) → Above n es → Above n fs → AsMany es fs → ((k : ℕ) → n < k → port_of k fs ≡ None) → es ≡ fs
    both [] [] a b many none = refl
    both [] (x ∷ fs) a b many none = let u = first_there x fs in let v = none x.1 b.0 in absurd (cc (u, v))
    both (x ∷ es) fs a b many none = absurd (nothing x es fs a.0 (many x.1) none)
same_left low n (x ∷ xs) ys zs h (inl a) (inl b) none many = a.1 ∙ ap (λ l. x ∷ l) (same_left x.1 n xs a.0 b.0 h.3 a.2 b.2 others fewer) ∙ sym b.1
  where
    apart : (k : ℕ) (us : Numbered ℕ) → nat_eq k x.1 ≡ false → port_of k (x ∷ us) ≡ port_of k us
    apart k us e = ap (λ t. if t then Some x.0 else port_of k us) e

    others : (k : ℕ) → n < k → port_of k b.0 ≡ None
    others k l = let m = h.1 in let differ : nat_eq k x.1 ≡ false = grind (arith, nat_tests, l, m) in sym (apart k b.0 differ) ∙ ap (port_of k) (sym b.1) ∙ none k l

    fewer : AsMany a.0 b.0
    fewer k = by_test (nat_eq k x.1) refl
      where
        by_test : (t : Bool) → nat_eq k x.1 ≡ t → is_some (port_of k a.0) ≡ is_some (port_of k b.0)
        by_test false e = ap is_some (sym (apart k a.0 e) ∙ ap (port_of k) (sym a.1)) ∙ many k ∙ ap is_some (ap (port_of k) b.1 ∙ apart k b.0 e)
        by_test true e =
            let is : k ≡ x.1 = grind (arith, nat_tests, e) in
            let m = h.1 in
            let l1 : k ≤ x.1 = omega (arith, is) in
            let l2 : k ≤ n = omega (arith, is, m) in
            ap is_some (none_above x.1 n k xs a.0 l1 l2 h.3 a.2 ∙ sym (none_above x.1 n k xs b.0 l1 l2 h.3 b.2))
same_left low n (x ∷ xs) ys zs h (inr a) (inr b) none many = same_left x.1 n xs ys zs h.3 a b none many
same_left low n (x ∷ xs) ys zs h (inl a) (inr b) none many =
    let m = h.1 in
    let u = ap is_some (ap (port_of x.1) a.1 ∙ first_there x a.0) in
    let v = ap is_some (none_above x.1 n x.1 xs zs (omega arith) (omega (arith, m)) h.3 b) in
    let w = many x.1 in absurd (cc (u, v, w))
same_left low n (x ∷ xs) ys zs h (inr a) (inl b) none many =
    let m = h.1 in
    let u = ap is_some (ap (port_of x.1) b.1 ∙ first_there x b.0) in
    let v = ap is_some (none_above x.1 n x.1 xs ys (omega arith) (omega (arith, m)) h.3 a) in
    let w = many x.1 in absurd (cc (u, v, w))

-- a number above all is that of no stream
none_over : (low n k : ℕ) (xs : Numbered ℕ) → n < k → PortsRise low n xs → port_of k xs ≡ None
none_over low n k [] l h = refl
none_over low n k (x ∷ xs) l h =
    let m = h.1 in
    let differ : nat_eq k x.1 ≡ false = grind (arith, nat_tests, l, m) in ap (λ t. if t then Some x.0 else port_of k xs) differ ∙ none_over x.1 n k xs l h.3

none_removed : (k port : ℕ) (xs : Numbered ℕ) → port_of k xs ≡ None → port_of k (removed xs port) ≡ None
none_removed k port [] e = refl
none_removed k port (x ∷ xs) e = by_stream (nat_eq k x.1) refl e (none_removed k port xs)
  where
    by_stream : (t : Bool) → nat_eq k x.1 ≡ t → (if t then Some x.0 else port_of k xs) ≡ None → (port_of k xs ≡ None → port_of k (removed xs port) ≡ None) → port_of k (removed (x ∷ xs) port) ≡ None
    by_stream true f g rest = absurd (cc (g))
    by_stream false f g rest = by_port (nat_eq port x.0)
      where
        by_port : (u : Bool) → port_of k (if u then xs else x ∷ removed xs port) ≡ None
        by_port true = g
        by_port false = ap (λ t. if t then Some x.0 else port_of k (removed xs port)) f ∙ rest g

-- a number that isn't there is none less
has_without : (j k : ℕ) (ns : List ℕ) → has_number ns k ≡ false → has_number (without_number ns k) j ≡ has_number ns j
has_without j k [] e = refl
has_without j k (x ∷ xs) e = rw (at_number k x) (by_test (nat_eq k x) refl (has_without j k xs))
  where
    by_test : (t : Bool) → nat_eq k x ≡ t → (has_number xs k ≡ false → has_number (without_number xs k) j ≡ has_number xs j)
        → has_number (cond t xs (x ∷ without_number xs k)) j ≡ (is_at (nat_cmp j) x || has_number xs j)
    by_test true f rest = let g = sym (ap (λ t. t || has_number xs k) (at_number k x ∙ f)) ∙ e in absurd (cc (g))
    by_test false f rest = ap (λ t. is_at (nat_cmp j) x || t) (rest (sym (ap (λ t. t || has_number xs k) (at_number k x ∙ f)) ∙ e))

-- steps leave some ports, and others come with new streams
step_thins : (n : ℕ) (ps : Numbered ℕ) (c d : Core) → PortsChange c d → n ≤ c.made → Thinned n ps c.ports → (n ≤ d.made) × Thinned n ps d.ports
step_thins n ps c d (same e m) l t = (omega (arith, l, m), subst (Thinned n ps) (sym e) t)
step_thins n ps c d (law.lost port e m) l t = (omega (arith, l, m), subst (Thinned n ps) (sym e) (thinned_removed n port ps c.ports t))
step_thins n ps c d (more port e m) l t = (omega (arith, l, m), subst (Thinned n ps) (sym e) (thinned_added n port (suc c.made) ps c.ports (omega (arith, l)) t))

steps_thin : (r : RawTree) (s : Supply) (n : ℕ) (ps : Numbered ℕ) (p q : Proc Frame) → n ≤ p.core.made → Thinned n ps p.core.ports → Silent r s p q → Thinned n ps q.core.ports
steps_thin r s n ps p q l t (no_more _) = t
steps_thin r s n ps p q l t (then_on _ b _ h rest) = let a = step_thins n ps p.core b.core (step_ports r s p (silent b) h) l t in steps_thin r s n ps b q a.0 a.1 rest

pub ports_remain : law.PortsLeft
ports_remain r s h g p q told sh sg numbers once steps is_told streams = by_told told is_told streams
  where
    thin : Thinned p.core.made p.core.ports q.core.ports
    thin = steps_thin r s p.core.made p.core.ports p q (omega arith) (whole p.core.made p.core.ports) steps

    all_left : g.ports ≡ h.ports → q.core.ports ≡ p.core.ports
    all_left e =
        same_left 0 p.core.made p.core.ports q.core.ports p.core.ports numbers.ports thin (whole p.core.made p.core.ports) (λ k l. none_over 0 p.core.made k p.core.ports l numbers.ports)
        (λ k. sym (sg.ports k) ∙ ap (λ ns. has_number ns k) e ∙ sh.ports k)

    one_gone : (k : ℕ) → g.ports ≡ without_number h.ports k → q.core.ports ≡ unheard k p.core.ports
    one_gone k e = by_port (port_of k p.core.ports) refl
      where
        by_port : (o : Option ℕ) → port_of k p.core.ports ≡ o → q.core.ports ≡ unheard_at o p.core.ports
        by_port None f =
            let none : has_number h.ports k ≡ false = sh.ports k ∙ ap is_some f in
            same_left 0 p.core.made p.core.ports q.core.ports p.core.ports numbers.ports thin (whole p.core.made p.core.ports) (λ j l. none_over 0 p.core.made j p.core.ports l numbers.ports)
            (λ j. sym (sg.ports j) ∙ ap (λ ns. has_number ns j) e ∙ has_without j k h.ports none ∙ sh.ports j)
        by_port (Some port) f =
            let gone = port_gone r h p port k sh f (one_each p.core.ports 0 p.core.made numbers.ports) (once k) in
            same_left 0 p.core.made p.core.ports q.core.ports (removed p.core.ports port) numbers.ports thin
            (thinned_removed p.core.made port p.core.ports p.core.ports (whole p.core.made p.core.ports))
            (λ j l. none_removed j port p.core.ports (none_over 0 p.core.made j p.core.ports l numbers.ports))
            (λ j. sym (sg.ports j) ∙ ap (λ ns. has_number ns j) e ∙ gone.ports j)

    by_told : (told : Option Call) → OnlyTells told → g.ports ≡ ports_after told h.ports → q.core.ports ≡ ports_left told p.core.ports
    by_told None t e = all_left e
    by_told (Some (call.Line l)) t e = all_left e
    by_told (Some (call.Unlisten k)) t e = one_gone k.0 e
    by_told (Some c) t e = absurd t

-- Where as many streams have a port before and after such steps, the ports are the same.
pub ports_stay : (r : RawTree) (s : Supply) (p q : Proc Frame) → InNumbers p.core → Silent r s p q → ((k : ℕ) → is_some (port_of k q.core.ports) ≡ is_some (port_of k p.core.ports))
    → q.core.ports ≡ p.core.ports
ports_stay r s p q numbers steps many =
    same_left 0 p.core.made p.core.ports q.core.ports p.core.ports numbers.ports (steps_thin r s p.core.made p.core.ports p q (omega arith) (whole p.core.made p.core.ports) steps)
    (whole p.core.made p.core.ports)
    (λ k l. none_over 0 p.core.made k p.core.ports l numbers.ports) many
