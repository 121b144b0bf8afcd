-- The hold on `main`, ports and requests of a heap and of the process that it shows.
use Rattle.std.proofs.Common.{◌≡◌, ℕ, ◌<◌, nat_eq, nat_lt, Bool, true, false, List, [], ◌∷◌, ◌++◌, if◌then◌else◌, refl, sym, ap, ◌∙◌, arith, ◌≤◌, subst}
use Rattle.std.specs.Prelude.{◌||◌, cond}
use Rattle.std.proofs.lemmas.Bool.Decides.{nat_tests}
use Rattle.std.specs.Ordering.{nat_cmp, match_ordering}
use Rattle.std.specs.BTreeMap.{is_at}
use Rattle.std.specs.BTreeSet.{insert_key}
use Rattle.std.specs.Set.{remove_key}
use Rattle.std.specs.Option.{option_map}
use Rattle.std.specs.declared.option.Option.{Option}
use Rattle.std.specs.declared.option.Option.TheVariants.{None, Some}
use Rattle.flow_base.specs.declared.ids.CellId.{CellId}
use Rattle.flow_class.specs.Classes.{RawTree}
use Rattle.flow_cancel.specs.Heap.{HeapTree, has_number, with_number, without_number}
use Rattle.flow_cancel.proofs.Noted.{at_number, has_with}
use Rattle.flow_numbered.specs.Numbered.{Numbered, thing, added, removed}
use Rattle.flow_meaning.specs.Cells.{is_some}
use Rattle.flow_meaning.specs.Process.{Proc}
use Rattle.flow_meaning.specs.Dropping.{port_of}
use Rattle.flow_meaning.specs.Deliver.{closed_request}
use Rattle.flow_meaning.specs.Frame.{Frame}
use Rattle.flow_meaning.proofs.Posture.{same_number, each_number, other_number}
use Rattle.flow_meaning.specs.Step.{on_core}
use Rattle.flow_heap_refinement.specs.Representing.{Represents, nobody, cell_number}
use Rattle.flow_heap_refinement.specs.Rested.{NumbersRise, PortsRise, OneEach}
use Rattle.flow_heap_refinement.specs.Beside as change

greater : (k x : ℕ) → x < k → nat_cmp k x ≡ nat_cmp 1 0
greater k x l = let e : nat_lt k x ≡ false = grind (arith, nat_tests, l) in let f : nat_eq k x ≡ false = grind (arith, nat_tests, l) in rw (e, f) refl

-- a number above all comes last
last_number : (k above most : ℕ) (ns : List ℕ) → NumbersRise above most ns → most < k → insert_key nat_cmp ns k ≡ ns ++ k ∷ []
last_number k above most [] h l = refl
last_number k above most (n ∷ ns) h l =
    ap (λ o. match_ordering o (k ∷ n ∷ ns) (n ∷ ns) (n ∷ insert_key nat_cmp ns k)) (greater k n (omega (arith, h.1, l))) ∙ ap (λ ks. n ∷ ks) (last_number k n most ns h.2 l)

closed_same : (k : ℕ) (ns : List ℕ) → closed_request k ns ≡ remove_key (is_at (nat_cmp k)) ns
closed_same k [] = refl
closed_same k (n ∷ ns) = rw (at_number k n) (by_test (nat_eq k n) (closed_same k ns))
  where
    by_test : (t : Bool) → closed_request k ns ≡ remove_key (is_at (nat_cmp k)) ns → (if t then ns else n ∷ closed_request k ns) ≡ cond t ns (n ∷ remove_key (is_at (nat_cmp k)) ns)
    by_test true e = refl
    by_test false e = ap (λ ks. n ∷ ks) e

-- which numbers are among them afterwards
port_added : (j port k : ℕ) (xs : Numbered ℕ) → is_some (port_of j (added xs port k)) ≡ (nat_eq j k || is_some (port_of j xs))
port_added j port k [] = by_test (nat_eq j k)
  where
    by_test : (t : Bool) → is_some (if t then Some port else None) ≡ (t || false)
    by_test true = refl
    by_test false = refl
port_added j port k (x ∷ xs) = by_test (nat_eq j x.1) (port_added j port k xs)
  where
    always : (b : Bool) → true ≡ (b || true)
    always true = refl
    always false = refl

    by_test : (t : Bool) → is_some (port_of j (added xs port k)) ≡ (nat_eq j k || is_some (port_of j xs))
        → is_some (if t then Some x.0 else port_of j (added xs port k)) ≡ (nat_eq j k || is_some (if t then Some x.0 else port_of j xs))
    by_test true e = always (nat_eq j k)
    by_test false e = e

-- without a number
has_without : (j k : ℕ) (ns : List ℕ) → (k ≡ j → ⊥) → has_number (without_number ns k) j ≡ has_number ns j
has_without j k [] n = refl
has_without j k (x ∷ xs) n = rw (at_number k x) (by_test (nat_eq k x) refl (has_without j k xs n))
  where
    by_test : (t : Bool) → nat_eq k x ≡ t → has_number (without_number xs k) j ≡ has_number xs j → has_number (cond t xs (x ∷ without_number xs k)) j ≡ (is_at (nat_cmp j) x || has_number xs j)
    by_test true e rest =
        let same : k ≡ x = grind (arith, nat_tests, e) in
        let f : nat_eq j x ≡ false = other_number x j (λ g. n (same ∙ g)) in
        sym (ap (λ t. t || has_number xs j) (at_number j x ∙ f))
    by_test false e rest = ap (λ t. is_at (nat_cmp j) x || t) rest

port_removed : (j port k : ℕ) (xs : Numbered ℕ) → thing xs port ≡ Some k → (k ≡ j → ⊥) → is_some (port_of j (removed xs port)) ≡ is_some (port_of j xs)
port_removed j port k [] e n = refl
port_removed j port k (x ∷ xs) e n = by_test (nat_eq port x.0) e (port_removed j port k xs)
  where
    by_test : (t : Bool) → (if t then Some x.1 else thing xs port) ≡ Some k → (thing xs port ≡ Some k → (k ≡ j → ⊥) → is_some (port_of j (removed xs port)) ≡ is_some (port_of j xs))
        → is_some (port_of j (if t then xs else x ∷ removed xs port)) ≡ is_some (if nat_eq j x.1 then Some x.0 else port_of j xs)
    by_test true f rest =
        let same : x.1 ≡ k = cc (f) in
        let g : nat_eq j x.1 ≡ false = other_number x.1 j (λ i. n (sym same ∙ i)) in
        sym (ap (λ t. is_some (if t then Some x.0 else port_of j xs)) g)
    by_test false f rest = on (nat_eq j x.1) (rest f n)
      where
        on : (u : Bool) → is_some (port_of j (removed xs port)) ≡ is_some (port_of j xs)
            → is_some (if u then Some x.0 else port_of j (removed xs port)) ≡ is_some (if u then Some x.0 else port_of j xs)
        on true i = refl
        on false i = i

-- where ports differ and the numbers of their streams rise, each has a stream of its own
above_ports : (k above n : ℕ) (xs : Numbered ℕ) → PortsRise above n xs → k ≤ above → port_of k xs ≡ None
above_ports k above n [] h l = refl
above_ports k above n (x ∷ xs) h l =
    let f : nat_eq k x.1 ≡ false = other_number x.1 k (λ e. omega (arith, e, l, h.0)) in
    ap (λ b. if b then Some x.0 else port_of k xs) f ∙ above_ports k x.1 n xs h.3 (omega (arith, l, h.0))

found_port : (q k above n : ℕ) (xs : Numbered ℕ) → PortsRise above n xs → port_of k xs ≡ Some q → above < k
found_port q k above n [] h e = absurd (cc)
found_port q k above n (x ∷ xs) h e = by_test (nat_eq k x.1) refl e (λ f. found_port q k x.1 n xs h.3 f)
  where
    by_test : (t : Bool) → nat_eq k x.1 ≡ t → (if t then Some x.0 else port_of k xs) ≡ Some q → (port_of k xs ≡ Some q → x.1 < k) → above < k
    by_test true g f rest = let same : k ≡ x.1 = grind (arith, nat_tests) in omega (arith, same, h.0)
    by_test false g f rest = let a = rest f in omega (arith, a, h.0)

pub one_each : (xs : Numbered ℕ) (above n : ℕ) → PortsRise above n xs → OneEach xs
one_each [] above n h q k e = absurd (cc)
one_each (x ∷ xs) above n h q k e = by_test (nat_eq k x.1) refl e (one_each xs x.1 n h.3 q k)
  where
    by_test : (t : Bool) → nat_eq k x.1 ≡ t → (if t then Some x.0 else port_of k xs) ≡ Some q → (port_of k xs ≡ Some q → (thing xs q ≡ Some k) × (port_of k (removed xs q) ≡ None))
        → (thing (x ∷ xs) q ≡ Some k) × (port_of k (removed (x ∷ xs) q) ≡ None)
    by_test true g f rest =
        let same : k ≡ x.1 = grind (arith, nat_tests) in
        let port : x.0 ≡ q = cc (f) in
        let u : nat_eq q x.0 ≡ true = subst (λ m. nat_eq m x.0 ≡ true) port (same_number x.0) in (
          ap (λ b. if b then Some x.1 else thing xs q) u ∙ ap Some (sym same),
          ap (λ b. port_of k (if b then xs else x ∷ removed xs q)) u ∙ above_ports k x.1 n xs h.3 (omega (arith, same)),
        )
    by_test false g f rest =
        let r = rest f in
        let u : nat_eq q x.0 ≡ false = other_number x.0 q (λ i. not_there (sym (ap (thing xs) i) ∙ h.2) r.0) in (
          ap (λ b. if b then Some x.1 else thing xs q) u ∙ r.0,
          ap (λ b. port_of k (if b then xs else x ∷ removed xs q)) u ∙ ap (λ b. if b then Some x.0 else port_of k (removed xs q)) g ∙ r.1,
        )
      where
        not_there : thing xs q ≡ None → thing xs q ≡ Some k → ⊥
        not_there a b = cc

module _ (r : RawTree) (h : HeapTree) (p : Proc Frame) where
  -- with another hold, other ports and other requests
  with_others : (o : Option CellId) (ps rs : List ℕ) (m : Option ℕ) (xs : Numbered ℕ) (qs : List ℕ) → Represents r h p → m ≡ option_map cell_number o
      → ((k : ℕ) → has_number ps k ≡ is_some (port_of k xs)) → qs ≡ rs
      → Represents r (record h { main = o; ports = ps; requests = rs }) (on_core (λ c. record c { main = m; ports = xs; requests = qs }) p)
  with_others o ps rs m xs qs s a b c =
      record { cells = s.cells; actors = s.actors; tasks = s.tasks; made = s.made; started = s.started; main = a; ports = b; requests = c }

  pub main_shown : change.MainHeld r h p
  main_shown o s = with_others o h.ports h.requests (option_map cell_number o) p.core.ports p.core.requests s refl s.ports s.requests

  pub port_shown : change.PortAdded r h p
  port_shown port k s =
      with_others h.main (with_number h.ports k) h.requests p.core.main (added p.core.ports port k) p.core.requests s s.main
      (λ j. has_with j k h.ports ∙ ap (λ t. nat_eq j k || t) (s.ports j) ∙ sym (port_added j port k p.core.ports)) s.requests

  pub port_gone : change.PortGone r h p
  port_gone port k s e each gone =
      with_others h.main (without_number h.ports k) h.requests p.core.main (removed p.core.ports port) p.core.requests s s.main
      (each_number k (λ j. has_number (without_number h.ports k) j ≡ is_some (port_of j (removed p.core.ports port)))
      (gone ∙ sym (ap is_some (each port k e).1))
      (λ j n. has_without j k h.ports n ∙ s.ports j ∙ sym (port_removed j port k p.core.ports (each port k e).0 n))) s.requests

  pub request_shown : change.RequestAdded r h p
  request_shown k above most s rise l =
      with_others h.main h.ports (with_number h.requests k) p.core.main p.core.ports (p.core.requests ++ k ∷ []) s s.main s.ports
      (sym (last_number k above most p.core.requests rise l) ∙ ap (λ ns. with_number ns k) s.requests)

  pub request_closed : change.RequestClosed r h p
  request_closed k s =
      with_others h.main h.ports (without_number h.requests k) p.core.main p.core.ports (closed_request k p.core.requests) s s.main s.ports
      (closed_same k p.core.requests ∙ ap (λ ns. without_number ns k) s.requests)

  pub vanished_shown : change.Vanished r h p
  vanished_shown s = record {
    cells = λ k. tt;
    actors = λ i. nobody refl refl refl refl;
    tasks = tt;
    made = s.made;
    started = s.started;
    main = refl;
    ports = λ k. refl;
    requests = refl;
  }
