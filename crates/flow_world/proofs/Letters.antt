-- Packets on their way, found by number.
use Rattle.std.proofs.Common.{◌≡◌, ℕ, nat_eq, nat_lt, Bool, true, false, List, [], ◌∷◌, refl, sym, ap, ◌∙◌, arith}
use Rattle.std.specs.Prelude.{cond}
use Rattle.std.proofs.lemmas.Bool.Decides.{nat_tests}
use Rattle.std.specs.Map.{remove_entry}
use Rattle.std.specs.Ordering.{nat_cmp}
use Rattle.std.specs.BTreeMap.{is_at, insert_entry}
use Rattle.std.specs.Option.{option_map}
use Rattle.std.specs.declared.option.Option.{Option}
use Rattle.std.specs.declared.option.Option.TheVariants.{None, Some}
use Rattle.flow_cancel.proofs.Noted.{at_number}
use Rattle.flow_simnet.specs.Links.{numbered}
use Rattle.flow_simnet.specs.declared.packet.Letter.{Letter}
use Rattle.flow_simnet.specs.declared.packet.Packet.{Packet}
use Rattle.flow_world.specs.Representing.{letter_at}

pub same_number : (k : ℕ) → nat_eq k k ≡ true
same_number k = grind (arith, nat_tests)

pub other_number : (j k : ℕ) → (j ≡ k → ⊥) → nat_eq j k ≡ false
other_number j k n = grind (arith, nat_tests, n)

-- a packet that is put on its way is there
pub letter_put : (k : ℕ) (l : Letter) (es : List (ℕ × Letter)) → letter_at (insert_entry nat_cmp es k l) k ≡ Some l
letter_put k l [] = ap (λ t. cond t (Some l) None) (at_number k k ∙ same_number k)
letter_put k l (e ∷ es) = by_order (nat_lt k e.0) refl (nat_eq k e.0) refl (letter_put k l es)
  where
    by_order : (t : Bool) → nat_lt k e.0 ≡ t → (u : Bool) → nat_eq k e.0 ≡ u → letter_at (insert_entry nat_cmp es k l) k ≡ Some l
        → letter_at (insert_entry nat_cmp (e ∷ es) k l) k ≡ Some l
    by_order true h u f rest = rw h (ap (λ t. cond t (Some l) (letter_at (e ∷ es) k)) (at_number k k ∙ same_number k))
    by_order false h true f rest = rw (h, f) (ap (λ t. cond t (Some l) (letter_at es k)) (at_number k e.0 ∙ f))
    by_order false h false f rest = rw (h, f) (ap (λ t. cond t (Some e.1) (letter_at (insert_entry nat_cmp es k l) k)) (at_number k e.0 ∙ f) ∙ rest)

-- the others stay
pub letter_beside : (j k : ℕ) (l : Letter) (es : List (ℕ × Letter)) → (j ≡ k → ⊥) → letter_at (insert_entry nat_cmp es k l) j ≡ letter_at es j
letter_beside j k l [] n = ap (λ t. cond t (Some l) None) (at_number j k ∙ other_number j k n)
letter_beside j k l (e ∷ es) n = by_order (nat_lt k e.0) refl (nat_eq k e.0) refl (letter_beside j k l es n)
  where
    by_order : (t : Bool) → nat_lt k e.0 ≡ t → (u : Bool) → nat_eq k e.0 ≡ u → letter_at (insert_entry nat_cmp es k l) j ≡ letter_at es j
        → letter_at (insert_entry nat_cmp (e ∷ es) k l) j ≡ letter_at (e ∷ es) j
    by_order true h u f rest = rw h (ap (λ t. cond t (Some l) (letter_at (e ∷ es) j)) (at_number j k ∙ other_number j k n))
    by_order false h true f rest =
        let gone : is_at (nat_cmp j) e.0 ≡ false = at_number j e.0 ∙ other_number j e.0 (λ same. n (grind (arith, nat_tests, same, f))) in
        rw (h, f) (ap (λ t. cond t (Some l) (letter_at es j)) gone ∙ sym (ap (λ t. cond t (Some e.1) (letter_at es j)) gone))
    by_order false h false f rest = rw (h, f) (ap (λ o. cond (is_at (nat_cmp j) e.0) (Some e.1) o) rest)

-- and so do they where a packet is taken off
pub letter_left : (j k : ℕ) (es : List (ℕ × Letter)) → (j ≡ k → ⊥) → letter_at (remove_entry (is_at (nat_cmp k)) es) j ≡ letter_at es j
letter_left j k [] n = refl
letter_left j k (e ∷ es) n = by_test (nat_eq k e.0) refl (letter_left j k es n)
  where
    by_test : (u : Bool) → nat_eq k e.0 ≡ u → letter_at (remove_entry (is_at (nat_cmp k)) es) j ≡ letter_at es j
        → letter_at (remove_entry (is_at (nat_cmp k)) (e ∷ es)) j ≡ letter_at (e ∷ es) j
    by_test true f rest =
        let gone : is_at (nat_cmp j) e.0 ≡ false = at_number j e.0 ∙ other_number j e.0 (λ same. n (grind (arith, nat_tests, same, f))) in
        ap (λ t. letter_at (cond t es (e ∷ remove_entry (is_at (nat_cmp k)) es)) j) (at_number k e.0 ∙ f) ∙ sym (ap (λ t. cond t (Some e.1) (letter_at es j)) gone)
    by_test false f rest =
        ap (λ t. letter_at (cond t es (e ∷ remove_entry (is_at (nat_cmp k)) es)) j) (at_number k e.0 ∙ f) ∙ ap (λ o. cond (is_at (nat_cmp j) e.0) (Some e.1) o) rest

-- one that comes was on its way
pub letter_comes : (n : ℕ) (o : Option Letter) (r : Option Packet) (k : Packet) → r ≡ option_map (numbered n) o → r ≡ Some k
    → (l : Letter) × (o ≡ Some l) × (k ≡ numbered n l)
letter_comes n None r k h e = let a : None ≡ Some k = sym h ∙ e in absurd (cc (a))
letter_comes n (Some l) r k h e = let a : Some k ≡ Some (numbered n l) = sym e ∙ h in (l, refl, cc (a))
