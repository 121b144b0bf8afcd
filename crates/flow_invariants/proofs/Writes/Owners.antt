-- A cell isn't, or is no more, one that the process made for itself.
use Rattle.std.proofs.Common.{◌≡◌, ◌⊎◌, inl, inr, ℕ, zero, suc, ◌+◌, ◌<◌, ◌≤◌, nat_eq, Bool, true, false, [], ◌∷◌, if◌then◌else◌, refl, sym, ap, subst, ◌∙◌, arith}
use Rattle.std.specs.Prelude.{not}
use Rattle.std.specs.declared.option.Option.{Option}
use Rattle.std.specs.declared.option.Option.TheVariants.{None, Some}
use Rattle.flow_value.specs.declared.value.Kind.TheVariants as kind
use Rattle.flow_value.specs.Values.{ValueTree, OutcomeTree, GoodOutcome}
use Rattle.flow_class.specs.Classes.{RawTree}
use Rattle.flow_numbered.specs.Numbered.{Numbered, thing, removed}
use Rattle.flow_meaning.specs.Cells.{PromiseSide, Cell, Single, Stream}
use Rattle.flow_meaning.specs.Cells as cells
use Rattle.flow_meaning.specs.Requests.{Act, Goes, Pass, Drops, Effects, Starts, Operand, Waits as WaitsFor, Sends, Cancels, Prints, SendsTo, Returns, Throws, RunsOut, Stuck, Ask, Supply}
use Rattle.flow_meaning.specs.Process.{Entry, Core, Proc}
use Rattle.flow_meaning.specs.References.{Scan, reference_count, one, count_maybe, count_kept, in_entries, in_ports}
use Rattle.flow_meaning.specs.Deliver.{closed_request}
use Rattle.flow_meaning.specs.Dropping.{port_of}
use Rattle.flow_meaning.specs.Step.{view}
use Rattle.flow_meaning.specs.Frame.{Frame}
use Rattle.flow_meaning.specs.Class.{classes, class_names}
use Rattle.flow_meaning.proofs.Posture.{same_number}
use Rattle.flow_meaning.proofs.Shifts.{same_of}
use Rattle.flow_meaning.proofs.InOrder.{no_thing}
use Rattle.flow_heap_refinement.specs.Alone.{spares, results_at, owners_of, OwnedOnce}
use Rattle.flow_heap_refinement.specs.Evaluation.{Named}
use Rattle.flow_heap_refinement.specs.Lonely.{OwnedAlone}
use Rattle.flow_heap_refinement.specs.Naming.{CellNamed, OutcomeNamed, ContentNamed, Each, CellsNamed, MemoryNamed}
use Rattle.flow_heap_refinement.specs.Rested.{has, PortsRise}
use Rattle.flow_heap_refinement.proofs.Alone.{futures_spared}
use Rattle.flow_heap_refinement.proofs.Beside.{one_each}
use Rattle.flow_heap_refinement.proofs.NamingFrames.{ActNamed, AskNamed, next_named}
use Rattle.flow_invariants.proofs.Fitting.Dues.{weight, one_closed}

-- what rules say of each thing
each_at : {A : Type 0} (Q : A → Type 0) (xs : Numbered A) (n : ℕ) (a : A) → Each Q xs → thing xs n ≡ Some a → Q a
each_at Q [] n a h e = absurd (no_thing e)
each_at Q (x ∷ xs) n a h e = by_test (nat_eq n x.0) e (each_at Q xs n a h.1)
  where
    by_test : (b : Bool) → (if b then Some x.1 else thing xs n) ≡ Some a → (thing xs n ≡ Some a → Q a) → Q a
    by_test true f rest = subst Q (same_of f) h.0
    by_test false f rest = rest f

pub not_one : (k n : ℕ) → (n ≡ k → ⊥) → one PromiseSide k PromiseSide n ≡ 0
not_one k n o = by_test (nat_eq k n) refl
  where
    by_test : (b : Bool) → nat_eq k n ≡ b → weight b ≡ 0
    by_test true q = absurd (o (grind (arith, q)))
    by_test false q = refl

module _ (k : ℕ) where
  one_itself : one PromiseSide k PromiseSide k ≡ 1
  one_itself = ap weight (same_number k)

  -- what it made for itself is referred to
  results_least : (es : Numbered Entry) → results_at k es ≤ in_entries PromiseSide k es
  results_least [] = omega arith
  results_least (x ∷ es) = let a = results_least es in let b = count_kept PromiseSide k x.1.suspended x.1.operands in omega (arith, a)

  pub without_promise : (scan : Scan) (c : Core) → reference_count scan PromiseSide k c ≡ 0 → owners_of k c ≡ 0
  without_promise scan c none = let a = results_least c.entries in omega (arith, a, none)

  -- the stream of a port that is gone
  pub port_counts : (ps : Numbered ℕ) (port : ℕ) → port_of k ps ≡ Some port → 0 < in_ports PromiseSide k ps
  port_counts [] port e = absurd cc
  port_counts (x ∷ ps) port e = by_test (nat_eq k x.1) refl e (port_counts ps port)
    where
      by_test : (b : Bool) → nat_eq k x.1 ≡ b → (if b then Some x.0 else port_of k ps) ≡ Some port → (port_of k ps ≡ Some port → 0 < in_ports PromiseSide k ps)
          → 0 < one PromiseSide k PromiseSide x.1 + in_ports PromiseSide k ps
      by_test true q f rest = let m : one PromiseSide k PromiseSide x.1 ≡ 1 = ap weight q in omega (arith, m)
      by_test false q f rest = let m = rest f in omega (arith, m)

  pub port_there : (ps : Numbered ℕ) (port : ℕ) → thing ps port ≡ Some k → 0 < in_ports PromiseSide k ps
  port_there [] port e = absurd (no_thing e)
  port_there (x ∷ ps) port e = by_test (nat_eq port x.0) e (port_there ps port)
    where
      by_test : (b : Bool) → (if b then Some x.1 else thing ps port) ≡ Some k → (thing ps port ≡ Some k → 0 < in_ports PromiseSide k ps)
          → 0 < one PromiseSide k PromiseSide x.1 + in_ports PromiseSide k ps
      by_test true f rest = let a : one PromiseSide k PromiseSide x.1 ≡ 1 = ap weight (subst (λ n. nat_eq k n ≡ true) (sym (same_of f)) (same_number k)) in omega (arith, a)
      by_test false f rest = let a = rest f in omega (arith, a)

  none_counts : (ps : Numbered ℕ) → port_of k ps ≡ None → in_ports PromiseSide k ps ≡ 0
  none_counts [] e = refl
  none_counts (x ∷ ps) e = by_test (nat_eq k x.1) refl e (none_counts ps)
    where
      by_test : (b : Bool) → nat_eq k x.1 ≡ b → (if b then Some x.0 else port_of k ps) ≡ None → (port_of k ps ≡ None → in_ports PromiseSide k ps ≡ 0)
          → one PromiseSide k PromiseSide x.1 + in_ports PromiseSide k ps ≡ 0
      by_test true q f rest = absurd (no_thing (sym f))
      by_test false q f rest = let m : one PromiseSide k PromiseSide x.1 ≡ 0 = ap weight q in let a = rest f in omega (arith, m, a)

  pub without_port : (c : Core) (port : ℕ) → OwnedOnce c → PortsRise 0 c.made c.ports → port_of k c.ports ≡ Some port → owners_of k (record c { ports = removed c.ports port }) ≡ 0
  without_port c port once up at =
      let a = port_counts c.ports port at in
      let b = none_counts (removed c.ports port) (one_each c.ports 0 c.made up port k at).1 in
      let d = (once k).0 in omega (arith, a, b, d)

  -- the result of an actor that is gone
  one_less : (es : Numbered Entry) (i : ℕ) (e : Entry) → thing es i ≡ Some e → e.result ≡ Some k → results_at k es ≡ suc (results_at k (removed es i))
  one_less [] i e at own = absurd (no_thing at)
  one_less (x ∷ es) i e at own = by_test (nat_eq i x.0) at (λ f. one_less es i e f own)
    where
      by_test : (b : Bool) → (if b then Some x.1 else thing es i) ≡ Some e → (thing es i ≡ Some e → results_at k es ≡ suc (results_at k (removed es i)))
          → count_maybe PromiseSide k PromiseSide x.1.result + results_at k es ≡ suc (results_at k (if b then es else x ∷ removed es i))
      by_test true f rest =
          let a = ap (count_maybe PromiseSide k PromiseSide) (ap (λ (y : Entry). y.result) (same_of f) ∙ own) in
          let b : one PromiseSide k PromiseSide k ≡ 1 = one_itself in omega (arith, a, b)
      by_test false f rest = let a = rest f in omega (arith, a)

  pub without_actor : (c : Core) (i : ℕ) (e : Entry) → OwnedOnce c → thing c.entries i ≡ Some e → e.result ≡ Some k → owners_of k (record c { entries = removed c.entries i }) ≡ 0
  without_actor c i e once at own = let a = one_less c.entries i e at own in let b = (once k).0 in omega (arith, a, b)

  -- the cell of a request that is answered
  pub without_request : (c : Core) → OwnedOnce c → has k c.requests ≡ true → owners_of k (record c { requests = closed_request k c.requests }) ≡ 0
  without_request c once there =
      let a = one_closed k k c.requests there in
      let b : weight (nat_eq k k) ≡ 1 = one_itself in
      let d = (once k).0 in omega (arith, a, b, d)

  -- nobody is given a promise of it
  spared_other : not (nat_eq k k) ≡ true → ⊥
  spared_other h = no_true (sym (ap not (same_number k)) ∙ h)
    where
      no_true : false ≡ true → ⊥
      no_true e = cc

  no_promise : (spares k kind.Promise k ≡ true) ⊎ (spares k kind.PromiseStream k ≡ true) → ⊥
  no_promise (inl x) = spared_other x
  no_promise (inr x) = spared_other x

none_of : (n : ℕ) → (0 < n → ⊥) → n ≡ 0
none_of zero h = refl
none_of (suc n) h = absurd (h (omega arith))

-- An actor sends to no cell that the process made for itself.
abbrev pub NotOwn : Core → Act → Type 0
NotOwn c (Sends k o) = owners_of k c ≡ 0
NotOwn c _ = Unit {0}

not_own : (c : Core) (act : Act) → ((k : ℕ) → 0 < owners_of k c → ActNamed (spares k) act) → NotOwn c act
not_own c (Sends k o) n = none_of (owners_of k c) (λ own. no_promise k (n k own).1)
not_own c Goes n = tt
not_own c Pass n = tt
not_own c (Drops vs) n = tt
not_own c (Effects goal eff) n = tt
not_own c (Starts class args) n = tt
not_own c (Operand spot r) n = tt
not_own c (WaitsFor spot vs) n = tt
not_own c (Cancels j) n = tt
not_own c (Prints v) n = tt
not_own c (SendsTo q port text) n = tt
not_own c (Returns v vs) n = tt
not_own c (Throws e) n = tt
not_own c RunsOut n = tt
not_own c Stuck n = tt

seen : (k : ℕ) (c : Core) → CellsNamed (spares k) c.cells → (j : ℕ) (v : ValueTree) → cells.outcome (thing c.cells j) ≡ Some (GoodOutcome v) → Named (spares k) v
seen k c n j v e = by_cell (thing c.cells j) refl e
  where
    by_content : (x : Option OutcomeTree) → ContentNamed (spares k) x → x ≡ Some (GoodOutcome v) → Named (spares k) v
    by_content None m q = absurd (no_thing q)
    by_content (Some o) m q = subst (OutcomeNamed (spares k)) (same_of q) m

    by_cell : (x : Option Cell) → thing c.cells j ≡ x → cells.outcome x ≡ Some (GoodOutcome v) → Named (spares k) v
    by_cell None q f = absurd (no_thing f)
    by_cell (Some (Single content ws)) q f = by_content content (each_at (CellNamed (spares k)) c.cells j (Single content ws) n q) f
    by_cell (Some (Stream vs x w)) q f = absurd (no_thing f)

-- what an actor asks for
abbrev pub AskNotOwn : Core → Option Ask → Type 0
AskNotOwn c None = Unit {0}
AskNotOwn c (Some ask) = NotOwn c ask.act

pub asks_not_own : (r : RawTree) (s : Supply) (p : Proc Frame) (i : ℕ) (f : Frame) → OwnedAlone p → thing p.actors i ≡ Some f → AskNotOwn p.core ((classes r).next (view s i p.core) f).0
asks_not_own r s p i f alone at = by_ask ((classes r).next (view s i p.core) f).0 named
  where
    named : (k : ℕ) → 0 < owners_of k p.core → AskNamed (spares k) ((classes r).next (view s i p.core) f).0
    named k own =
        let n = alone k (inl own) in
        (next_named (spares k) (futures_spared k) (class_names r) (view s i p.core) (seen k p.core n.0.0) f (each_at (λ (f : Frame). MemoryNamed (spares k) f.mem) p.actors i f n.1 at)).0

    by_ask : (x : Option Ask) → ((k : ℕ) → 0 < owners_of k p.core → AskNamed (spares k) x) → AskNotOwn p.core x
    by_ask None n = tt
    by_ask (Some ask) n = not_own p.core ask.act n
