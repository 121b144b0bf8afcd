-- A port and its stream, more or less.
use Rattle.std.proofs.Common.{◌≡◌, ℕ, nat_eq, Bool, true, false, [], ◌∷◌, refl, sym, ap, subst, ◌∙◌, arith, ◌⊎◌, inl, inr, if◌then◌else◌}
use Rattle.std.specs.Prelude.{cond}
use Rattle.std.specs.Map.{lookup}
use Rattle.std.specs.Ordering.{nat_cmp}
use Rattle.std.specs.BTreeMap.{get, is_at}
use Rattle.std.specs.declared.option.Option.{Option}
use Rattle.std.specs.declared.option.Option.TheVariants.{None, Some}
use Rattle.flow_cancel.proofs.Noted.{at_number}
use Rattle.flow_numbered.specs.Numbered.{Numbered, thing, added, removed}
use Rattle.flow_meaning.specs.Dropping.{port_of}
use Rattle.flow_meaning.proofs.Posture.{same_number, other_number, each_number, thing_added, thing_removed_other}
use Rattle.flow_heap_refinement.proofs.Finds.{thing_new}
use Rattle.flow_machine.specs.Hosting.{unheard_at, unheard}
use Rattle.flow_world.specs.declared.ports.Ports.{Ports}
use Rattle.flow_world.specs.Ports.{Once, PortsRepresent}

-- nothing is found, or something
some_isnt : {A : Type 0} (a : A) → Some a ≡ None → ⊥
some_isnt a e = cc

none_isnt : {A : Type 0} (a : A) → None ≡ Some a → ⊥
none_isnt a e = cc

-- what isn't found isn't the first, and not among the others
tested : {A : Type 0} (t : Bool) (a : A) (o : Option A) → (if t then Some a else o) ≡ None → (t ≡ false) × (o ≡ None)
tested true a o e = absurd (some_isnt a e)
tested false a o e = (refl, e)

differ : (i j : ℕ) → nat_eq i j ≡ false → i ≡ j → ⊥
differ i j e f = grind (arith, e, f)

-- one port more
port_new : (ps : Numbered ℕ) (port k : ℕ) → port_of k ps ≡ None → port_of k (added ps port k) ≡ Some port
port_new [] port k e = ap (λ t. if t then Some port else None) (same_number k)
port_new (x ∷ xs) port k e =
    let f : (nat_eq k x.1 ≡ false) × (port_of k xs ≡ None) = tested (nat_eq k x.1) x.0 (port_of k xs) e in
    ap (λ t. if t then Some x.0 else port_of k (added xs port k)) f.0 ∙ port_new xs port k f.1

port_beside : (ps : Numbered ℕ) (port k j : ℕ) → (k ≡ j → ⊥) → port_of j (added ps port k) ≡ port_of j ps
port_beside [] port k j n = ap (λ t. if t then Some port else None) (other_number k j n)
port_beside (x ∷ xs) port k j n = ap (λ o. if nat_eq j x.1 then Some x.0 else o) (port_beside xs port k j n)

once_added : (ps : Numbered ℕ) (port k : ℕ) → thing ps port ≡ None → port_of k ps ≡ None → Once ps → Once (added ps port k)
once_added [] port k e f h = (refl, refl, tt)
once_added (x ∷ xs) port k e f h =
    let d : (nat_eq port x.0 ≡ false) × (thing xs port ≡ None) = tested (nat_eq port x.0) x.1 (thing xs port) e in
    let c : (nat_eq k x.1 ≡ false) × (port_of k xs ≡ None) = tested (nat_eq k x.1) x.0 (port_of k xs) f in
    (thing_added xs port x.0 k (differ port x.0 d.0) ∙ h.0, port_beside xs port k x.1 (differ k x.1 c.0) ∙ h.1, once_added xs port k d.1 c.1 h.2)

-- one port less
port_there : (ps : Numbered ℕ) (port k : ℕ) → port_of k ps ≡ Some port → thing ps port ≡ None → ⊥
port_there [] port k f e = none_isnt port f
port_there (x ∷ xs) port k f e =
    let d : (nat_eq port x.0 ≡ false) × (thing xs port ≡ None) = tested (nat_eq port x.0) x.1 (thing xs port) e in
    by_test (nat_eq k x.1) d.0 f (λ g. port_there xs port k g d.1)
  where
    by_test : (t : Bool) → nat_eq port x.0 ≡ false → (if t then Some x.0 else port_of k xs) ≡ Some port → (port_of k xs ≡ Some port → ⊥) → ⊥
    by_test true n g rest = grind (arith, n, g)
    by_test false n g rest = rest g

thing_gone : (ps : Numbered ℕ) (port : ℕ) → Once ps → thing (removed ps port) port ≡ None
thing_gone [] port h = refl
thing_gone (x ∷ xs) port h = by_test (nat_eq port x.0) refl (thing_gone xs port h.2)
  where
    by_test : (t : Bool) → nat_eq port x.0 ≡ t → thing (removed xs port) port ≡ None → thing (if t then xs else x ∷ removed xs port) port ≡ None
    by_test true e rest = let n : x.0 ≡ port = grind (arith, e) in subst (λ m. thing xs m ≡ None) n h.0
    by_test false e rest = ap (λ t. if t then Some x.1 else thing (removed xs port) port) e ∙ rest

-- where the port of a stream stands: it is the first, or among the others
abbrev Stands : (x : ℕ × ℕ) (xs : Numbered ℕ) (port k : ℕ) → Type 0
Stands x xs port k = ((k ≡ x.1) × (port ≡ x.0)) ⊎ ((nat_eq k x.1 ≡ false) × (nat_eq port x.0 ≡ false) × (port_of k xs ≡ Some port))

stands : (x : ℕ × ℕ) (xs : Numbered ℕ) (port k : ℕ) → thing xs x.0 ≡ None → port_of k (x ∷ xs) ≡ Some port → Stands x xs port k
stands x xs port k h f = by_test (nat_eq k x.1) refl (nat_eq port x.0) refl f
  where
    by_test : (t : Bool) → nat_eq k x.1 ≡ t → (u : Bool) → nat_eq port x.0 ≡ u → (if t then Some x.0 else port_of k xs) ≡ Some port → Stands x xs port k
    by_test true e u d g = inl (grind (arith, e), grind (arith, g))
    by_test false e true d g = let n : x.0 ≡ port = grind (arith, d) in absurd (port_there xs port k g (subst (λ m. thing xs m ≡ None) n h))
    by_test false e false d g = inr (e, d, g)

port_gone : (ps : Numbered ℕ) (port k : ℕ) → Once ps → port_of k ps ≡ Some port → port_of k (removed ps port) ≡ None
port_gone [] port k h f = refl
port_gone (x ∷ xs) port k h f = by_place (stands x xs port k h.0 f) (port_gone xs port k h.2)
  where
    by_place : Stands x xs port k → (port_of k xs ≡ Some port → port_of k (removed xs port) ≡ None) → port_of k (removed (x ∷ xs) port) ≡ None
    by_place (inl (e, d)) rest =
        ap (λ t. port_of k (if t then xs else x ∷ removed xs port)) (subst (λ m. nat_eq m x.0 ≡ true) (sym d) (same_number x.0)) ∙ subst (λ m. port_of m xs ≡ None) (sym e) h.1
    by_place (inr (e, d, g)) rest =
        ap (λ t. port_of k (if t then xs else x ∷ removed xs port)) d ∙ ap (λ t. if t then Some x.0 else port_of k (removed xs port)) e ∙ rest g

port_stays : (ps : Numbered ℕ) (port k j : ℕ) → Once ps → port_of k ps ≡ Some port → (k ≡ j → ⊥) → port_of j (removed ps port) ≡ port_of j ps
port_stays [] port k j h f n = refl
port_stays (x ∷ xs) port k j h f n = by_place (stands x xs port k h.0 f) (λ g. port_stays xs port k j h.2 g n)
  where
    by_place : Stands x xs port k → (port_of k xs ≡ Some port → port_of j (removed xs port) ≡ port_of j xs) → port_of j (removed (x ∷ xs) port) ≡ port_of j (x ∷ xs)
    by_place (inl (e, d)) rest =
        ap (λ t. port_of j (if t then xs else x ∷ removed xs port)) (subst (λ m. nat_eq m x.0 ≡ true) (sym d) (same_number x.0))
        ∙ sym (ap (λ t. if t then Some x.0 else port_of j xs) (subst (λ m. nat_eq j m ≡ false) e (other_number k j n)))
    by_place (inr (e, d, g)) rest =
        ap (λ t. port_of j (if t then xs else x ∷ removed xs port)) d ∙ ap (λ o. if nat_eq j x.1 then Some x.0 else o) (rest g)

port_none : (ps : Numbered ℕ) (port j : ℕ) → port_of j ps ≡ None → port_of j (removed ps port) ≡ None
port_none [] port j e = refl
port_none (x ∷ xs) port j e = by_test (nat_eq port x.0) (tested (nat_eq j x.1) x.0 (port_of j xs) e) (port_none xs port j)
  where
    by_test : (t : Bool) → (nat_eq j x.1 ≡ false) × (port_of j xs ≡ None) → (port_of j xs ≡ None → port_of j (removed xs port) ≡ None)
        → port_of j (if t then xs else x ∷ removed xs port) ≡ None
    by_test true f rest = f.1
    by_test false f rest = ap (λ t. if t then Some x.0 else port_of j (removed xs port)) f.0 ∙ rest f.1

once_removed : (ps : Numbered ℕ) (port : ℕ) → Once ps → Once (removed ps port)
once_removed [] port h = tt
once_removed (x ∷ xs) port h = by_test (nat_eq port x.0) refl (once_removed xs port h.2)
  where
    by_test : (t : Bool) → nat_eq port x.0 ≡ t → Once (removed xs port) → Once (if t then xs else x ∷ removed xs port)
    by_test true e rest = h.2
    by_test false e rest = (thing_removed_other xs port x.0 (differ port x.0 e) ∙ h.0, port_none xs port x.1 h.1, rest)

-- a look-up after one that is put in, or taken out
own : {A : Type 0} (k : ℕ) (new old : Option A) → cond (is_at (nat_cmp k) k) new old ≡ new
own k new old = ap (λ t. cond t new old) (at_number k k ∙ same_number k)

other : {A : Type 0} (k j : ℕ) (new old : Option A) → (k ≡ j → ⊥) → cond (is_at (nat_cmp k) j) new old ≡ old
other k j new old n = ap (λ t. cond t new old) (at_number k j ∙ other_number j k (λ e. n (sym e)))

pub ports_opened :
    (p q : Ports) (port k : ℕ)
    → ((j : ℕ) → get nat_cmp q.streams j ≡ cond (is_at (nat_cmp port) j) (Some k) (get nat_cmp p.streams j))
    → ((j : ℕ) → get nat_cmp q.ports j ≡ cond (is_at (nat_cmp k) j) (Some port) (get nat_cmp p.ports j))
    → (ps : Numbered ℕ) → PortsRepresent p ps → thing ps port ≡ None → port_of k ps ≡ None → PortsRepresent q (added ps port k)
ports_opened p q port k s t ps h e f = record {
  streams = each_number port (λ j. get nat_cmp q.streams j ≡ thing (added ps port k) j)
      (s port ∙ own port (Some k) (get nat_cmp p.streams port) ∙ sym (thing_new ps port k e))
      (λ j n. s j ∙ other port j (Some k) (get nat_cmp p.streams j) n ∙ h.streams j ∙ sym (thing_added ps port j k n));
  ports = each_number k (λ j. get nat_cmp q.ports j ≡ port_of j (added ps port k))
      (t k ∙ own k (Some port) (get nat_cmp p.ports k) ∙ sym (port_new ps port k f))
      (λ j n. t j ∙ other k j (Some port) (get nat_cmp p.ports j) n ∙ h.ports j ∙ sym (port_beside ps port k j n));
  once = once_added ps port k e f h.once;
}

pub ports_closed :
    (p q : Ports) (port k : ℕ) → Some port ≡ get nat_cmp p.ports k
    → ((j : ℕ) → get nat_cmp q.streams j ≡ cond (is_at (nat_cmp port) j) None (get nat_cmp p.streams j))
    → ((j : ℕ) → get nat_cmp q.ports j ≡ cond (is_at (nat_cmp k) j) None (get nat_cmp p.ports j))
    → (ps : Numbered ℕ) → PortsRepresent p ps → PortsRepresent q (unheard k ps)
ports_closed p q port k e s t ps h =
    let f : port_of k ps ≡ Some port = sym (h.ports k) ∙ sym e in
    subst (λ o. PortsRepresent q (unheard_at o ps)) (sym f) (record {
      streams = each_number port (λ j. get nat_cmp q.streams j ≡ thing (removed ps port) j)
          (s port ∙ own port None (get nat_cmp p.streams port) ∙ sym (thing_gone ps port h.once))
          (λ j n. s j ∙ other port j None (get nat_cmp p.streams j) n ∙ h.streams j ∙ sym (thing_removed_other ps port j n));
      ports = each_number k (λ j. get nat_cmp q.ports j ≡ port_of j (removed ps port))
          (t k ∙ own k None (get nat_cmp p.ports k) ∙ sym (port_gone ps port k h.once f))
          (λ j n. t j ∙ other k j None (get nat_cmp p.ports j) n ∙ h.ports j ∙ sym (port_stays ps port k j h.once f n));
      once = once_removed ps port h.once;
    })

pub ports_same :
    (p q : Ports) (k : ℕ) → None ≡ get nat_cmp p.ports k → q.streams.entries ≡ p.streams.entries → q.ports.entries ≡ p.ports.entries
    → (ps : Numbered ℕ) → PortsRepresent p ps → PortsRepresent q (unheard k ps)
ports_same p q k e s t ps h =
    subst (λ o. PortsRepresent q (unheard_at o ps)) (e ∙ h.ports k) (record {
      streams = λ j. subst (λ es. lookup (is_at (nat_cmp j)) es ≡ thing ps j) (sym s) (h.streams j);
      ports = λ j. subst (λ es. lookup (is_at (nat_cmp j)) es ≡ port_of j ps) (sym t) (h.ports j);
      once = h.once;
    })

pub no_ports : (p : Ports) → p.streams.entries ≡ [] → p.ports.entries ≡ [] → PortsRepresent p []
no_ports p s t = record {
  streams = λ j. ap (lookup (is_at (nat_cmp j))) s;
  ports = λ j. ap (lookup (is_at (nat_cmp j))) t;
  once = tt;
}
