-- What a memory holds in its locals after writes and drops.
use Rattle.std.proofs.Common.{◌≡◌, ◌≢◌, ℕ, zero, suc, ◌<◌, ◌≤◌, List, [], ◌∷◌, ◌++◌, length, refl, sym, ap, subst, ◌∙◌, ◌⊎◌, inl, inr, arith}
use Rattle.std.proofs.lemmas.Bool.{cases_lt}
use Rattle.std.specs.declared.option.Option.{Option}
use Rattle.std.specs.declared.option.Option.TheVariants.{None, Some}
use Rattle.flow_value.specs.Values.{ValueTree}
use Rattle.flow_class.specs.declared.class.Slotted.TheVariants as place
use Rattle.flow_class.specs.Scopes.{Scope, Apart, Covers, none, this, extra, all_locals, Mark, Var}
use Rattle.flow_meaning.specs.Variables.{filled}
use Rattle.flow_meaning.specs.Frame.{Memory, read, write, held_in, emptied, blanks}
use Rattle.flow_compile_laws.specs.Simulation.Memories.{NotIn, Falling}
use Rattle.flow_compile_laws.proofs.Simulation.Lists.{at_number, at_numbers, at-set_none, at-set_other, length-slice_set, below_out}

abbrev pub local : Memory → ℕ → Option ValueTree
local m n = read m (place.Local n)

abbrev pub without : Memory → ℕ → Memory
without m n = write m (place.Local n) None

-- numbers are equal or differ
pub either : (n k : ℕ) (P : Type 0) → (n ≡ k → P) → (n ≢ k → P) → P
either n k P same other = by_cases (cases_lt n k) (cases_lt k n)
  where
    by_cases : (n < k) ⊎ (k ≤ n) → (k < n) ⊎ (n ≤ k) → P
    by_cases (inl lt) o = other (λ e. omega arith)
    by_cases (inr le) (inl lt) = other (λ e. omega arith)
    by_cases (inr le) (inr ge) = same (omega arith)

pub without_other : (m : Memory) (n k : ℕ) → k ≢ n → local (without m n) k ≡ local m k
without_other m n k h = at-set_other m.locals n k None h

pub without_same : (m : Memory) (n : ℕ) → local (without m n) n ≡ None
without_same m n = at-set_none m.locals n

-- the values at numbers, and those after a write at none of them
pub written_out : (m : Memory) (n : ℕ) (o : Option ValueTree) (ks : List ℕ) → NotIn n ks → at_numbers (write m (place.Local n) o).locals ks ≡ at_numbers m.locals ks
written_out m n o [] h = refl
written_out m n o (k ∷ ks) h = one (at-set_other m.locals n k o (λ e. h.0 (sym e))) (written_out m n o ks h.1)
  where
    one : {x y : Option ValueTree} {xs ys : List (Option ValueTree)} → x ≡ y → xs ≡ ys → x ∷ xs ≡ y ∷ ys
    one p q = cc

-- locals that are dropped: what stands outside a list stays
pub emptied_out : (ds : List ℕ) (m : Memory) (n : ℕ) → NotIn n ds → local (emptied ds m) n ≡ local m n
emptied_out [] m n h = refl
emptied_out (d ∷ ds) m n h = emptied_out ds (without m d) n h.1 ∙ without_other m d n h.0

pub emptied_stays : (ds : List ℕ) (m : Memory) (n : ℕ) → local m n ≡ None → local (emptied ds m) n ≡ None
emptied_stays [] m n h = h
emptied_stays (d ∷ ds) m n h =
    emptied_stays ds (without m d) n
    (either n d (local (without m d) n ≡ None) (λ e. subst (λ k. local (without m d) k ≡ None) (sym e) (without_same m d)) (λ ne. without_other m d n ne ∙ h))

-- what is in the list is empty afterwards, and so is what was
pub emptied_or : (ds : List ℕ) (m : Memory) (n : ℕ) → (NotIn n ds → local m n ≡ None) → local (emptied ds m) n ≡ None
emptied_or [] m n h = h tt
emptied_or (d ∷ ds) m n h =
    either n d (local (emptied ds (without m d)) n ≡ None)
    (λ e. emptied_stays ds (without m d) n (subst (λ k. local (without m d) k ≡ None) (sym e) (without_same m d)))
    (λ ne. emptied_or ds (without m d) n (λ out. without_other m d n ne ∙ h (ne, out)))

pub emptied_slots : (ds : List ℕ) (m : Memory) → (emptied ds m).slots ≡ m.slots
emptied_slots [] m = refl
emptied_slots (d ∷ ds) m = emptied_slots ds (without m d)

pub emptied_length : (ds : List ℕ) (m : Memory) → length (emptied ds m).locals ≡ length m.locals
emptied_length [] m = refl
emptied_length (d ∷ ds) m = emptied_length ds (without m d) ∙ length-slice_set m.locals d None

-- all at once
pub blank : {A : Type 0} (os : List A) (n : ℕ) → at_number (blanks os) n ≡ None
blank [] n = refl
blank (o ∷ os) zero = refl
blank (o ∷ os) (suc n) = blank os n

pub length-blanks : {A : Type 0} (os : List A) → length (blanks os) ≡ length os
length-blanks [] = refl
length-blanks (o ∷ os) = ap suc (length-blanks os)

-- numbers of no local in force
pub apart_out : (n : ℕ) (s : Scope) → Apart n s → NotIn n (all_locals s)
apart_out n [] a = tt
apart_out n (Mark ∷ s) a = apart_out n s a
apart_out n (Var x k ∷ s) a = (a.0, apart_out n s a.1)

still_empty : (m : Memory) (n k : ℕ) → local m k ≡ None → local (without m n) k ≡ None
still_empty m n k h = emptied_stays (n ∷ []) m k h

all_same : (m : Memory) (n : ℕ) → local m n ≡ None → (ks : List ℕ) → at_numbers (without m n).locals ks ≡ at_numbers m.locals ks
all_same m n e [] = refl
all_same m n e (k ∷ ks) = one (same k) (all_same m n e ks)
  where
    one : {x y : Option ValueTree} {xs ys : List (Option ValueTree)} → x ≡ y → xs ≡ ys → x ∷ xs ≡ y ∷ ys
    one p q = cc

    same : (k : ℕ) → local (without m n) k ≡ local m k
    same k =
        either k n (local (without m n) k ≡ local m k)
        (λ i. subst (λ j. local (without m n) j ≡ local m j) (sym i) (without_same m n ∙ sym e)) (λ ne. without_other m n k ne)

first_values : (o : Option ValueTree) (vs : List ValueTree) (os : List (Option ValueTree)) → vs ≡ filled os → filled (o ∷ []) ++ vs ≡ filled (o ∷ os)
first_values None vs os e = e
first_values (Some v) vs os e = ap (λ l. v ∷ l) e

no_value : (o : Option ValueTree) (vs : List ValueTree) → o ≡ None → filled (o ∷ []) ++ vs ≡ vs
no_value None vs e = refl
no_value (Some v) vs e = cc

-- A drop list that covers locals gives their values: what it names besides is empty.
pub covered_values : (s : Scope) (m : Memory) {ds ns : List ℕ} (top : ℕ) → Covers s ds ns → Falling top ns → ((n : ℕ) → NotIn n (all_locals s) → local m n ≡ None)
    → held_in m ds ≡ filled (at_numbers m.locals ns)
covered_values s m top none f h = refl
covered_values s m top (this {n = n} {ds = ds} {ps = ps} c) f h =
    first_values (local m n) (held_in (without m n) ds) (at_numbers m.locals ps)
    (covered_values s (without m n) n c f.1 (λ k out. still_empty m n k (h k out)) ∙ ap filled (written_out m n None ps (below_out n ps f.1)))
covered_values s m top (extra {n = n} {ds = ds} {ps = ps} a c) f h =
    let nothing : local m n ≡ None = h n (apart_out n s a) in
    no_value (local m n) (held_in (without m n) ds) nothing
    ∙ covered_values s (without m n) top c f (λ k out. still_empty m n k (h k out)) ∙ ap filled (all_same m n nothing ps)

-- each number that it covers is in it
pub covered_out : (s : Scope) (n : ℕ) {ds ns : List ℕ} → Covers s ds ns → NotIn n ds → NotIn n ns
covered_out s n none h = tt
covered_out s n (this c) h = (h.0, covered_out s n c h.1)
covered_out s n (extra a c) h = covered_out s n c h.1

-- numbers that are all dropped
pub covers_all : (s : Scope) (ns : List ℕ) → Covers s ns ns
covers_all s [] = none
covers_all s (n ∷ ns) = this (covers_all s ns)
