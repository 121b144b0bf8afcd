-- A block is passed, 64 places at a time.
use Rattle.std.proofs.Common.{◌≡◌, ◌⊎◌, inl, inr, ℕ, zero, suc, ◌+◌, ◌-◌, ◌^◌, ◌<◌, nat_eq, Bool, true, false, not, List, [], ◌∷◌, ◌++◌, map, length, slice_get, Contains, if◌then◌else◌, refl, sym, subst, ap, ap₂, ◌∙◌, arith}
use Rattle.std.specs.Option.{option_and_then}
use Rattle.std.proofs.lemmas.Bool.{cases_eq}
use Rattle.std.proofs.lemmas.Nat.Bits.{same_from_bits_below, bit_at-zero, bit_at-lt}
use Rattle.std.specs.Int.{bit_at}
use Rattle.std.specs.declared.option.Option.{Option}
use Rattle.std.specs.declared.option.Option.TheVariants.{None, Some}
use Rattle.flow_class.specs.declared.class.Slotted.{Slotted}
use Rattle.flow_class.specs.declared.class.Slotted.TheVariants as place
use Rattle.flow_class.specs.Classes.{CatcherTree, LastTree, GotoLast, PassLast, TestLast, ChooseLast, ReturnLast, ThrowLast, BlockTree, CallbackTree, ClassTree}
use Rattle.flow_class.specs.Code.{catcher_in, catcher_at, callback_at, group_at}
use Rattle.flow_validate.specs.declared.touch.Touch.{Touch}
use Rattle.flow_validate.specs.declared.window.Window.{Window}
use Rattle.flow_validate.specs.declared.window.Passage.{Passage}
use Rattle.flow_valid.specs.Named.{targets}
use Rattle.flow_valid.specs.Filling.{Comes, ReadsEmpty}
use Rattle.flow_validate.specs.Following.{Passing, entering, passed, block_touches, place_in, has_bit, ArePassing}
use Rattle.flow_validate.specs.Entered.{Covers, Enters, empty_handled, empty_taken, IsPassed}
use Rattle.flow_validate.specs.WalkStates.{WalkState, Way, AnyBit, entry_of, handler_ways, branch_way, group_ways, plain_way, last_ways, IsCovered, AreCovered, Led, Entered, AreSound, AllPassed, Passes}
use Rattle.flow_validate.proofs.Bits.{has_zero}
use Rattle.flow_validate.proofs.Sound.{Leads, leads}

same_some : {A : Type 0} (a b : A) → Some a ≡ Some b → a ≡ b
same_some a b e = cc

none_some : {A : Type 0} (a : A) → None ≡ Some a → ⊥
none_some a e = cc

-- the places of a window as a block is entered
number_of : Slotted → ℕ
number_of (place.Slot n) = n
number_of (place.Local n) = n

pub seen : Window → (entry : ℕ) → Slotted → Passing
seen w x q = entering (has_bit x (number_of q - w.first))

number_in : (b : Bool) (n : ℕ) → number_of (if b then place.Local n else place.Slot n) ≡ n
unfolding number_of
number_in true n = refl
number_in false n = refl

pub seen_in : (w : Window) (x j : ℕ) → seen w x (place_in w j) ≡ entering (has_bit x j)
unfolding seen
seen_in w x j = ap (λ n. entering (has_bit x n)) (ap (λ n. n - w.first) (number_in w.locals (w.first + j)) ∙ back w.first j)
  where
    back : (f i : ℕ) → f + i - f ≡ i
    back f i = omega arith

pub entered_passing : (w : Window) (x : ℕ) → ArePassing w (record { empty = x; thrown = 0; misread = 0 }) (seen w x)
unfolding seen
entered_passing w x = record {
  empty = λ j lt. sym (ap (λ (s : Passing). s.empty) (seen_in w x j));
  thrown = λ j lt. has_zero j;
  misread = λ j lt. has_zero j;
}

-- a number that isn't 0 has a bit
find_bit : (n k : ℕ) → ((j : ℕ) × (j < k) × (has_bit n j ≡ true)) ⊎ ((j : ℕ) → j < k → has_bit n j ≡ false)
find_bit n zero = inr (λ j lt. absurd (omega (arith, lt)))
find_bit n (suc k) = by (has_bit n k) refl (find_bit n k)
  where
    by : (b : Bool) → has_bit n k ≡ b → ((j : ℕ) × (j < k) × (has_bit n j ≡ true)) ⊎ ((j : ℕ) → j < k → has_bit n j ≡ false)
        → ((j : ℕ) × (j < suc k) × (has_bit n j ≡ true)) ⊎ ((j : ℕ) → j < suc k → has_bit n j ≡ false)
    by true e f = inl (k, omega arith, e)
    by false e (inl (j, lt, h)) = inl (j, omega (arith, lt), h)
    by false e (inr none) = inr (λ j lt. last j lt (cases_eq j k))
      where
        last : (j : ℕ) → j < suc k → (j ≡ k) ⊎ (j ≡ k → ⊥) → has_bit n j ≡ false
        last j lt (inl same) = ap (has_bit n) same ∙ e
        last j lt (inr other) = none j (omega (arith, lt, other))

no_bit : (x : ℕ) → x < 2 → nat_eq x 1 ≡ false → x ≡ 0
no_bit zero lt h = refl
no_bit (suc zero) lt h = cc
no_bit (suc (suc x)) lt h = absurd (omega arith)

pub some_bit : (n : ℕ) → n < 2 ^ 64 → (n ≡ 0 → ⊥) → (j : ℕ) × (j < 64) × (has_bit n j ≡ true)
some_bit n small ne = by (find_bit n 64)
  where
    by : ((j : ℕ) × (j < 64) × (has_bit n j ≡ true)) ⊎ ((j : ℕ) → j < 64 → has_bit n j ≡ false) → (j : ℕ) × (j < 64) × (has_bit n j ≡ true)
    by (inl h) = h
    by (inr none) = absurd (ne (same_from_bits_below 64 n 0 small (omega arith) (λ j lt. no_bit (bit_at n j) (bit_at-lt n j) (none j lt) ∙ sym (bit_at-zero j))))

-- ways in lists
covered_left : (es : List (Option ℕ)) (vs ws : List Way) → AreCovered es (vs ++ ws) → AreCovered es vs
covered_left es [] ws h = tt
covered_left es (v ∷ vs) ws h = (h.0, covered_left es vs ws h.1)

covered_right : (es : List (Option ℕ)) (vs ws : List Way) → AreCovered es (vs ++ ws) → AreCovered es ws
covered_right es [] ws h = h
covered_right es (v ∷ vs) ws h = covered_right es vs ws h.1

led_cases : (vs ws : List Way) (b j : ℕ) (e : Bool) → Led (vs ++ ws) b j e → Led vs b j e ⊎ Led ws b j e
led_cases [] ws b j e h = inr h
led_cases (v ∷ vs) ws b j e (inl h) = inl (inl h)
led_cases (v ∷ vs) ws b j e (inr h) = by (led_cases vs ws b j e h)
  where
    by : Led vs b j e ⊎ Led ws b j e → Led (v ∷ vs) b j e ⊎ Led ws b j e
    by (inl g) = inl (inr g)
    by (inr g) = inr g

covered_target : (es : List (Option ℕ)) (e : ℕ) (ts : List ℕ) (to i : ℕ) → AreCovered es (map (plain_way e) ts) → slice_get ts i ≡ Some to → IsCovered es (plain_way e to)
covered_target es e [] to i h g = absurd (none_some to g)
covered_target es e (t ∷ ts) to zero h g = subst (λ (x : ℕ). IsCovered es (plain_way e x)) (same_some t to g) h.0
covered_target es e (t ∷ ts) to (suc i) h g = covered_target es e ts to i h.1 g

covered_branch : (es : List (Option ℕ)) (w : Window) (e : ℕ) (ks : List CallbackTree) (k : CallbackTree) (i : ℕ) → AreCovered es (map (branch_way w e) ks) → slice_get ks i ≡ Some k
    → IsCovered es (branch_way w e k)
covered_branch es w e [] k i h g = absurd (none_some k g)
covered_branch es w e (l ∷ ls) k zero h g = subst (λ (x : CallbackTree). IsCovered es (branch_way w e x)) (same_some l k g) h.0
covered_branch es w e (l ∷ ls) k (suc i) h g = covered_branch es w e ls k i h.1 g

led_target : (e : ℕ) (ts : List ℕ) (b j : ℕ) (x : Bool) → Led (map (plain_way e) ts) b j x → (i : ℕ) × (slice_get ts i ≡ Some b) × (has_bit e j ≡ x)
led_target e [] b j x h = absurd h
led_target e (t ∷ ts) b j x (inl (at, bit)) = (0, ap Some at, bit)
led_target e (t ∷ ts) b j x (inr h) = let r = led_target e ts b j x h in (suc r.0, r.1, r.2)

pub led_branch : (w : Window) (e : ℕ) (ks : List CallbackTree) (b j : ℕ) (x : Bool) → Led (map (branch_way w e) ks) b j x
    → (i : ℕ) × (k : CallbackTree) × (slice_get ks i ≡ Some k) × (k.block ≡ b) × (empty_taken (place_in w j) k (has_bit e j) ≡ x)
led_branch w e [] b j x h = absurd h
led_branch w e (k ∷ ks) b j x (inl (at, bit)) = (0, k, refl, at, bit)
led_branch w e (k ∷ ks) b j x (inr h) = let r = led_branch w e ks b j x h in (suc r.0, r.1, r.2, r.3, r.4)

-- the callback of a branch
module _ (c : ClassTree) (g : ℕ) where
  callback_there : (ks : List CallbackTree) (i : ℕ) (k : CallbackTree) → group_at c.groups g ≡ Some ks → slice_get ks i ≡ Some k → callback_at c g i ≡ Some k
  callback_there ks i k h f = ap (option_and_then (λ (x : List CallbackTree). slice_get x i)) h ∙ f

  group_led : (w : Window) (e b j : ℕ) (x : Bool) (o : Option (List CallbackTree)) → group_at c.groups g ≡ o → Led (group_ways w e o) b j x
      → (i : ℕ) × (k : CallbackTree) × (callback_at c g i ≡ Some k) × (k.block ≡ b) × (empty_taken (place_in w j) k (has_bit e j) ≡ x)
  group_led w e b j x None h l = absurd l
  group_led w e b j x (Some ks) h l = let r = led_branch w e ks b j x l in (r.0, r.1, callback_there ks r.0 r.1 h r.2, r.3, r.4)

  group_covered : (es : List (Option ℕ)) (w : Window) (e i : ℕ) (k : CallbackTree) (o : Option (List CallbackTree)) → group_at c.groups g ≡ o → AreCovered es (group_ways w e o)
      → callback_at c g i ≡ Some k → IsCovered es (branch_way w e k)
  group_covered es w e i k None h cov f = absurd (none_some k (sym (ap (option_and_then (λ (x : List CallbackTree). slice_get x i)) h) ∙ f))
  group_covered es w e i k (Some ks) h cov f = covered_branch es w e ks k i cov (sym (ap (option_and_then (λ (x : List CallbackTree). slice_get x i)) h) ∙ f)

contains_at : (ts : List ℕ) (i to : ℕ) → slice_get ts i ≡ Some to → Contains ts to
contains_at [] i to h = absurd (none_some to h)
contains_at (t ∷ ts) zero to h = (0, omega arith, same_some t to h)
contains_at (t ∷ ts) (suc i) to h = let r = contains_at ts i to h in let lt : r.0 < length ts = r.1 in (suc r.0, omega (arith, lt), r.2)

target_at : (ts : List ℕ) (to : ℕ) → Contains ts to → (i : ℕ) × (slice_get ts i ≡ Some to)
target_at [] to h = let lt : h.0 < 0 = h.1 in absurd (omega (arith, lt))
target_at (t ∷ ts) to (zero, lt, e) = (0, ap Some e)
target_at (t ∷ ts) to (suc i, lt, e) = let less : i < length ts = omega (arith, lt) in let r = target_at ts to (i, less, e) in (suc r.0, r.1)

module _ (c : ClassTree) (w : Window) (k : BlockTree) (b x : ℕ) (is : slice_get c.blocks b ≡ Some k) (ts : List Touch) (same : ts ≡ block_touches c k) (q : Passage)
    (h : ArePassing w q (λ p. passed p ts (seen w x p))) where
  final : ℕ → Passing
  final j = passed (place_in w j) (block_touches c k) (entering (has_bit x j))

  sees : (j : ℕ) → passed (place_in w j) ts (seen w x (place_in w j)) ≡ final j
  unfolding final
  sees j = ap₂ (passed (place_in w j)) same (seen_in w x j)

  empty_bit : (j : ℕ) → j < 64 → has_bit q.empty j ≡ (final j).empty
  empty_bit j lt = h.empty j lt ∙ ap (λ (s : Passing). s.empty) (sees j)

  thrown_bit : (j : ℕ) → j < 64 → has_bit q.thrown j ≡ (final j).thrown
  thrown_bit j lt = h.thrown j lt ∙ ap (λ (s : Passing). s.thrown) (sees j)

  misread_bit : (j : ℕ) → j < 64 → has_bit q.misread j ≡ (final j).misread
  misread_bit j lt = h.misread j lt ∙ ap (λ (s : Passing). s.misread) (sees j)

  -- a place that is read while it is empty
  pub misreads : AnyBit q.misread true → (es : List (Option ℕ)) → slice_get es b ≡ Some (Some x) → AreSound c w es → ReadsEmpty c
  unfolding final
  misreads bit es at sound =
      (leads c (place_in w bit.0) b k (has_bit x bit.0) is (sound b x bit.0 at bit.1)).misread (sym (misread_bit bit.0 bit.1) ∙ bit.2)

  module _ (old new : WalkState) (at : slice_get old.entries b ≡ Some (Some x)) (filled : q.misread ≡ 0)
      (e : Entered old new (handler_ways c w k.catcher q.thrown ++ last_ways c w k.last q.empty)) where
    catcher_is : catcher_at c b ≡ k.catcher
    catcher_is = ap catcher_in is

    module _ (sound : AreSound c w old.entries) (to j : ℕ) (lt : j < 64) where
      leading : Leads c (place_in w j) b k (final j)
      unfolding final
      leading = leads c (place_in w j) b k (has_bit x j) is (sound b x j at lt)

      handler_comes : (o : Option CatcherTree) (y : Bool) → k.catcher ≡ o → Led (handler_ways c w o q.thrown) to j y → Comes c (place_in w j) to 0 (not y)
      handler_comes None y f l = absurd l
      handler_comes (Some r) y f (inr l) = absurd l
      handler_comes (Some r) y f (inl (goes, bit)) =
          subst (λ (n : ℕ). Comes c (place_in w j) n 0 (not y)) goes
          (subst (λ (z : Bool). Comes c (place_in w j) r.block 0 (not z)) (ap (empty_handled c (place_in w j) r) (sym (thrown_bit j lt)) ∙ bit)
          (leading.handler r (catcher_is ∙ f)))

      target_comes : (y : Bool) → Led (map (plain_way q.empty) (targets k.last)) to j y → Comes c (place_in w j) to 0 (not y)
      target_comes y l =
          let r = led_target q.empty (targets k.last) to j y l in
          subst (λ (z : Bool). Comes c (place_in w j) to 0 (not z)) (sym (empty_bit j lt) ∙ r.2) (leading.targets to (contains_at (targets k.last) r.0 to r.1))

      branch_comes : (g : ℕ) (y : Bool) → k.last ≡ ChooseLast g → Led (group_ways w q.empty (group_at c.groups g)) to j y → Comes c (place_in w j) to 0 (not y)
      branch_comes g y f l =
          let r = group_led c g w q.empty to j y (group_at c.groups g) refl l in
          subst (λ (n : ℕ). Comes c (place_in w j) n 0 (not y)) r.3
          (subst (λ (z : Bool). Comes c (place_in w j) r.1.block 0 (not z)) (ap (empty_taken (place_in w j) r.1) (sym (empty_bit j lt)) ∙ r.4)
          (leading.branches g r.0 r.1 f r.2))

      last_comes : (l : LastTree) (y : Bool) → k.last ≡ l → Led (last_ways c w l q.empty) to j y → Comes c (place_in w j) to 0 (not y)
      last_comes (ChooseLast g) y f l = branch_comes g y f l
      last_comes (GotoLast t) y f l = target_comes y (subst (λ (z : LastTree). Led (map (plain_way q.empty) (targets z)) to j y) (sym f) l)
      last_comes (PassLast t) y f l = target_comes y (subst (λ (z : LastTree). Led (map (plain_way q.empty) (targets z)) to j y) (sym f) l)
      last_comes (TestLast v t u) y f l = target_comes y (subst (λ (z : LastTree). Led (map (plain_way q.empty) (targets z)) to j y) (sym f) l)
      last_comes (ReturnLast v) y f l = absurd l
      last_comes (ThrowLast v) y f l = absurd l

      led_comes : (y : Bool) → Led (handler_ways c w k.catcher q.thrown ++ last_ways c w k.last q.empty) to j y → Comes c (place_in w j) to 0 (not y)
      led_comes y l = by (led_cases (handler_ways c w k.catcher q.thrown) (last_ways c w k.last q.empty) to j y l)
        where
          by : Led (handler_ways c w k.catcher q.thrown) to j y ⊎ Led (last_ways c w k.last q.empty) to j y → Comes c (place_in w j) to 0 (not y)
          by (inl g) = handler_comes k.catcher y refl g
          by (inr g) = last_comes k.last y refl g

    still_sound : AreSound c w old.entries → AreSound c w new.entries
    still_sound sound = λ i y j f lt. by sound i y j lt (e.from i y j f lt)
      where
        by : AreSound c w old.entries → (i y j : ℕ) → j < 64
            → ((z : ℕ) × (slice_get old.entries i ≡ Some (Some z)) × (has_bit z j ≡ has_bit y j)) ⊎ Led (handler_ways c w k.catcher q.thrown ++ last_ways c w k.last q.empty) i j (has_bit y j)
            → Comes c (place_in w j) i 0 (not (has_bit y j))
        by s i y j lt (inl (z, there, bit)) = subst (λ (v : Bool). Comes c (place_in w j) i 0 (not v)) bit (s i z j there lt)
        by s i y j lt (inr l) = led_comes s i j lt (has_bit y j) l

    module _ (long : length new.entries ≡ length c.blocks) (j : ℕ) (lt : j < 64) where
      enters_way : (v : Way) (y : Bool) → IsCovered new.entries v → v.empty j ≡ y → Enters c (place_in w j) (entry_of new.entries j) v.block y
      enters_way v y cov f = λ less. subst (Covers (entry_of new.entries j v.block)) f (cov j lt (subst (λ (n : ℕ). v.block < n) (sym long) less))

      handler_enters : (o : Option CatcherTree) (r : CatcherTree) → AreCovered new.entries (handler_ways c w o q.thrown) → o ≡ Some r
          → Enters c (place_in w j) (entry_of new.entries j) r.block (empty_handled c (place_in w j) r (final j).thrown)
      handler_enters None r cov f = absurd (none_some r f)
      handler_enters (Some s) r cov f =
          subst (λ (z : CatcherTree). Enters c (place_in w j) (entry_of new.entries j) z.block (empty_handled c (place_in w j) z (final j).thrown)) (same_some s r f)
          (enters_way (record { block = s.block; empty = λ i. empty_handled c (place_in w i) s (has_bit q.thrown i) }) (empty_handled c (place_in w j) s (final j).thrown) cov.0
          (ap (empty_handled c (place_in w j) s) (thrown_bit j lt)))

      plain_enters : (ts' : List ℕ) (to : ℕ) → AreCovered new.entries (map (plain_way q.empty) ts') → Contains ts' to → Enters c (place_in w j) (entry_of new.entries j) to (final j).empty
      plain_enters ts' to cov f =
          let r = target_at ts' to f in
          enters_way (plain_way q.empty to) (final j).empty (covered_target new.entries q.empty ts' to r.0 cov r.1) (empty_bit j lt)

      target_enters : (l : LastTree) (to : ℕ) → AreCovered new.entries (last_ways c w l q.empty) → Contains (targets l) to → Enters c (place_in w j) (entry_of new.entries j) to (final j).empty
      target_enters (ChooseLast g) to cov f = plain_enters [] to tt f
      target_enters (GotoLast t) to cov f = plain_enters (t ∷ []) to cov f
      target_enters (PassLast t) to cov f = plain_enters (t ∷ []) to cov f
      target_enters (TestLast v t u) to cov f = plain_enters (t ∷ u ∷ []) to cov f
      target_enters (ReturnLast v) to cov f = plain_enters [] to tt f
      target_enters (ThrowLast v) to cov f = plain_enters [] to tt f

      branch_enters : (l : LastTree) (g n : ℕ) (r : CallbackTree) → AreCovered new.entries (last_ways c w l q.empty) → l ≡ ChooseLast g → callback_at c g n ≡ Some r
          → Enters c (place_in w j) (entry_of new.entries j) r.block (empty_taken (place_in w j) r (final j).empty)
      branch_enters l g n r cov f at_n =
          let own : AreCovered new.entries (group_ways w q.empty (group_at c.groups g)) = subst (λ (z : LastTree). AreCovered new.entries (last_ways c w z q.empty)) f cov in
          enters_way (branch_way w q.empty r) (empty_taken (place_in w j) r (final j).empty) (group_covered c g new.entries w q.empty n r (group_at c.groups g) refl own at_n)
          (ap (empty_taken (place_in w j) r) (empty_bit j lt))

      is_passed : IsPassed c (place_in w j) (entry_of new.entries j) k (passed (place_in w j) (block_touches c k) (entering (has_bit x j)))
      unfolding final
      is_passed =
          let hs = covered_left new.entries (handler_ways c w k.catcher q.thrown) (last_ways c w k.last q.empty) e.covers in
          let ls = covered_right new.entries (handler_ways c w k.catcher q.thrown) (last_ways c w k.last q.empty) e.covers in
          record {
            misread = sym (misread_bit j lt) ∙ ap (λ z. has_bit z j) filled ∙ has_zero j;
            handler = λ r f. handler_enters k.catcher r hs f;
            targets = λ to f. target_enters k.last to ls f;
            branches = λ g n r f i. branch_enters k.last g n r ls f i;
          }

    pub block_passes : length old.entries ≡ length c.blocks → Passes c w old new b
    block_passes long = record {
      grows = e.grows;
      sound = still_sound;
      passed = λ l y f g.
          let own : k ≡ l = same_some k l (sym is ∙ f) in
          let bits : x ≡ y = same_some x y (same_some (Some x) (Some y) (sym at ∙ g)) in
          subst (AllPassed c w new.entries l) bits (subst (λ (z : BlockTree). AllPassed c w new.entries z x) own (λ j lt. is_passed (e.grows.same_length ∙ long) j lt));
    }
