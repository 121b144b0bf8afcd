-- The ways that lead out of a block, in bits.
use Rattle.std.proofs.Common.{◌≡◌, ℕ, zero, suc, ◌+◌, ◌-◌, ◌^◌, ◌<◌, Bool, not, ◌&&◌, ◌||◌, List, [], ◌∷◌, ◌++◌, map, length, take, get_or, bit_and, bit_or, sym, ap, ◌∙◌, arith, add-one}
use Rattle.flow_class.specs.declared.class.Slotted.{Slotted}
use Rattle.flow_class.specs.Classes.{CatcherTree, CallbackTree, ClassTree}
use Rattle.flow_validate.specs.declared.window.Window.{Window}
use Rattle.flow_valid.specs.Named.{listed}
use Rattle.flow_valid.specs.Filling.{among, dropped, is_error}
use Rattle.flow_validate.specs.Following.{AreBits, place_in, has_bit}
use Rattle.flow_validate.specs.WalkStates.{WalkState, plain_way, handler_ways, branch_way, Entered}
use Rattle.std.specs.declared.option.Option.TheVariants.{Some}
use Rattle.flow_validate.proofs.Bits.{has_or, has_and, has_not}
use Rattle.flow_validate.proofs.Entering.{entered_as}

without_bits : (w : Window) (e bit : ℕ) (f : Slotted → Bool) → bit < 2 ^ 64 → AreBits w bit f → (j : ℕ) → j < 64
    → has_bit (bit_and e (18446744073709551615 - bit)) j ≡ (has_bit e j && not (f (place_in w j)))
without_bits w e bit f small own j lt = has_and e (18446744073709551615 - bit) j ∙ ap (λ (y : Bool). has_bit e j && y) (has_not bit j small lt ∙ ap not (own j lt))

pub branch_entered : (a b : WalkState) (w : Window) (k : CallbackTree) (e bit : ℕ) → bit < 2 ^ 64 → AreBits w bit (among (listed k.into))
    → Entered a b (plain_way (bit_and e (18446744073709551615 - bit)) k.block ∷ []) → Entered a b (branch_way w e k ∷ [])
branch_entered a b w k e bit small own h =
    entered_as a b k.block (has_bit (bit_and e (18446744073709551615 - bit))) (λ j. has_bit e j && not (among (listed k.into) (place_in w j)))
    (without_bits w e bit (among (listed k.into)) small own) h

pub handler_entered : (a b : WalkState) (c : ClassTree) (w : Window) (h : CatcherTree) (t drops bit : ℕ) → bit < 2 ^ 64
    → AreBits w drops (dropped h.drops) → AreBits w bit (λ p. is_error c p h.error p)
    → Entered a b (plain_way (bit_and (bit_or t drops) (18446744073709551615 - bit)) h.block ∷ [])
    → Entered a b (handler_ways c w (Some h) t)
handler_entered a b c w h t drops bit small d own g =
    entered_as a b h.block (has_bit (bit_and (bit_or t drops) (18446744073709551615 - bit)))
    (λ j. (has_bit t j || dropped h.drops (place_in w j)) && not (is_error c (place_in w j) h.error (place_in w j)))
    (λ j lt. without_bits w (bit_or t drops) bit (λ p. is_error c p h.error p) small own j lt
    ∙ ap (λ (x : Bool). x && not (is_error c (place_in w j) h.error (place_in w j))) (has_or t drops j ∙ ap (λ (y : Bool). has_bit t j || y) (d j lt)))
    g

next_mapped : {A B C : Type 0} (f : B → C) (g : A → B) (xs : List A) (i : ℕ) (x : A) → i < length xs → x ≡ get_or xs i x
    → map f (map g (take (suc i) xs)) ≡ map f (map g (take i xs)) ++ f (g x) ∷ []
next_mapped f g [] i x lt e = absurd (omega arith)
next_mapped f g (y ∷ ys) zero x lt e = ap (λ z. f (g z) ∷ []) (sym e)
next_mapped f g (y ∷ ys) (suc i) x lt e = let m : i < length ys = omega arith in ap (λ l. f (g y) ∷ l) (next_mapped f g ys i x m e)

pub more_mapped : {A B C : Type 0} (f : B → C) (g : A → B) (xs : List A) (i : ℕ) (x : A) → i < length xs → x ≡ get_or xs i x
    → map f (map g (take (i + 1) xs)) ≡ map f (map g (take i xs)) ++ f (g x) ∷ []
more_mapped f g xs i x lt e = rw add-one (next_mapped f g xs i x lt e)
