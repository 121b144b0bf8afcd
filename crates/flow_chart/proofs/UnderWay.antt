-- What is known of one packet among others under way.
use Rattle.std.proofs.Common.{◌≡◌, ℕ, List, [], ◌∷◌, Bool, true, false, cond, refl, sym, ap, ◌∙◌, nat_lt}
use Rattle.std.specs.Bool.{◌==◌}
use Rattle.std.specs.Cmp.{nat_cmp_is}
use Rattle.std.specs.Ordering.{nat_cmp, is_eq, match_ordering}
use Rattle.std.specs.declared.cmp.Ordering.{Ordering}
use Rattle.std.specs.declared.cmp.Ordering.TheVariants.{Less, Equal, Greater}
use Rattle.std.specs.declared.option.Option.TheVariants.{None, Some}
use Rattle.std.specs.Map.{lookup, remove_entry}
use Rattle.std.specs.BTreeMap.{is_at, insert_entry}
use Rattle.std.proofs.lemmas.Bool.{cond-true, cond-false, cond_both, eqb-true, eq-eqb, false≢true, false_from_ne_true}

abbrev at : ℕ → ℕ → Bool
at m x = is_at (nat_cmp m) x

-- a number is found at itself alone
hit : (m x : ℕ) → at m x ≡ true → m ≡ x
hit m x =
    cond_both (nat_lt m x) Less (cond (m == x) Equal Greater) (λ o. is_eq o ≡ true → m ≡ x)
    (λ _ e. absurd (false≢true e))
    (λ _. cond_both (m == x) Equal Greater (λ o. is_eq o ≡ true → m ≡ x) (λ same _. eqb-true m x same) (λ _ e. absurd (false≢true e)))

miss : (m x : ℕ) → (m == x) ≡ false → at m x ≡ false
miss m x apart = false_from_ne_true (at m x) (λ yes. false≢true (sym apart ∙ eq-eqb m x (hit m x yes)))

itself : (m : ℕ) → at m m ≡ true
itself m = ap is_eq (sym (nat_cmp_is m m Equal refl))

-- one that stands at an equal number isn't found by another
miss_same : (m k x : ℕ) → (m == k) ≡ false → k ≡ x → at m x ≡ false
miss_same m k x apart same = ap (at m) (sym same) ∙ miss m k apart

module _ {A : Type 0} where
  -- the entries with one more, by how its number stands to the first one's
  abbrev with_one : Ordering → ℕ → A → ℕ × A → List (ℕ × A) → List (ℕ × A)
  with_one o k v e es = match_ordering o ((k, v) ∷ e ∷ es) ((e.0, v) ∷ es) (e ∷ insert_entry nat_cmp es k v)

  other_by : (m k : ℕ) (v : A) → (m == k) ≡ false → (e : ℕ × A) (es : List (ℕ × A)) → lookup (at m) (insert_entry nat_cmp es k v) ≡ lookup (at m) es
      → (o : Ordering) → nat_cmp k e.0 ≡ o → lookup (at m) (with_one o k v e es) ≡ lookup (at m) (e ∷ es)
  other_by m k v apart e es later Less is = cond-false (at m k) (Some v) (lookup (at m) (e ∷ es)) (miss m k apart)
  other_by m k v apart e es later Equal is =
      let gone = miss_same m k e.0 apart (hit k e.0 (ap is_eq is)) in
      cond-false (at m e.0) (Some v) (lookup (at m) es) gone ∙ sym (cond-false (at m e.0) (Some e.1) (lookup (at m) es) gone)
  other_by m k v apart e es later Greater is = ap (λ o. cond (at m e.0) (Some e.1) o) later

  pub other_inserted : (m k : ℕ) (v : A) → (m == k) ≡ false → (es : List (ℕ × A)) → lookup (at m) (insert_entry nat_cmp es k v) ≡ lookup (at m) es
  other_inserted m k v apart [] = cond-false (at m k) (Some v) None (miss m k apart)
  other_inserted m k v apart (e ∷ es) = other_by m k v apart e es (other_inserted m k v apart es) (nat_cmp k e.0) refl

  here_by : (k : ℕ) (v : A) (e : ℕ × A) (es : List (ℕ × A)) → lookup (at k) (insert_entry nat_cmp es k v) ≡ Some v
      → (o : Ordering) → nat_cmp k e.0 ≡ o → lookup (at k) (with_one o k v e es) ≡ Some v
  here_by k v e es later Less is = cond-true (at k k) (Some v) (lookup (at k) (e ∷ es)) (itself k)
  here_by k v e es later Equal is = cond-true (at k e.0) (Some v) (lookup (at k) es) (ap is_eq is)
  here_by k v e es later Greater is = cond-false (at k e.0) (Some e.1) (lookup (at k) (insert_entry nat_cmp es k v)) (ap is_eq is) ∙ later

  pub here_inserted : (k : ℕ) (v : A) (es : List (ℕ × A)) → lookup (at k) (insert_entry nat_cmp es k v) ≡ Some v
  here_inserted k v [] = cond-true (at k k) (Some v) None (itself k)
  here_inserted k v (e ∷ es) = here_by k v e es (here_inserted k v es) (nat_cmp k e.0) refl

  pub other_removed : (m k : ℕ) → (m == k) ≡ false → (es : List (ℕ × A)) → lookup (at m) (remove_entry (at k) es) ≡ lookup (at m) es
  other_removed m k apart [] = refl
  other_removed m k apart (e ∷ es) =
      cond_both (at k e.0) es (e ∷ remove_entry (at k) es) (λ l. lookup (at m) l ≡ lookup (at m) (e ∷ es))
      (λ here. sym (cond-false (at m e.0) (Some e.1) (lookup (at m) es) (miss_same m k e.0 apart (hit k e.0 here))))
      (λ _. ap (λ o. cond (at m e.0) (Some e.1) o) (other_removed m k apart es))
