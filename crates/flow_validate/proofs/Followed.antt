-- All blocks are passed to which a walk leads, one after another.
use Rattle.std.proofs.Common.{◌≡◌, ◌⊎◌, inl, inr, ℕ, zero, suc, ◌+◌, ◌*◌, ◌<◌, Bool, not, List, [], ◌∷◌, ◌++◌, length, slice_get, Contains, refl, sym, subst, ap, ◌∙◌, arith}
use Rattle.std.specs.List.{sum_by}
use Rattle.std.proofs.lemmas.List.Elements.{Contains-push_cases}
use Rattle.std.specs.declared.option.Option.{Option}
use Rattle.std.specs.declared.option.Option.TheVariants.{None, Some}
use Rattle.flow_class.specs.declared.class.Slotted.{Slotted}
use Rattle.flow_class.specs.declared.class.Slotted.TheVariants.{Slot, Local}
use Rattle.flow_class.specs.Classes.{BlockTree, ClassTree}
use Rattle.flow_validate.specs.declared.window.Window.{Window}
use Rattle.flow_validate.specs.Apart.{is_parameter_of}
use Rattle.flow_valid.specs.Filling.{is_parameter, Comes, begins}
use Rattle.flow_validate.specs.Following.{Passing, entering, passed, block_touches, place_in, has_bit, AreBits}
use Rattle.flow_validate.specs.Entered.{Covers, Enters, IsPassed, AreFollowed}
use Rattle.flow_validate.specs.WalkStates.{WalkState, entry_bit, entry_of, plain_way, room, work, Grows, Led, Entered, AreSound, AllPassed, Passes, AreWalks, IsFilled, nothing_entered}
use Rattle.flow_validate.proofs.Bits.{twice_not}
use Rattle.flow_validate.proofs.Entering.{covers_then}
use Rattle.flow_validate.proofs.Closed.{read_filled}

same_some : {A : Type 0} (a b : A) → Some a ≡ Some b → a ≡ b
same_some a b e = cc

none_some : {A : Type 0} (a : A) → None ≡ Some a → ⊥
none_some a e = cc

none_there : (to : ℕ) → Contains [] to → ⊥
none_there to h = let less : h.0 < 0 = h.1 in omega (arith, less)

length_push : (xs : List ℕ) (x : ℕ) → length (xs ++ x ∷ []) ≡ length xs + 1
length_push [] x = refl
length_push (y ∷ ys) x = let m = length_push ys x in omega (arith, m)

-- one block less is to be passed
pub popped_work : (s t : WalkState) (b : ℕ) → t.entries ≡ s.entries → s.todo ≡ t.todo ++ b ∷ [] → work t < work s
popped_work s t b same rest =
    let sums : sum_by room t.entries ≡ sum_by room s.entries = ap (sum_by room) same in
    let lengths : length s.todo ≡ length t.todo + 1 = ap length rest ∙ length_push t.todo b in
    numbers (sum_by room t.entries) (sum_by room s.entries) (length t.todo) (length s.todo) sums lengths
  where
    numbers : (x y l m : ℕ) → x ≡ y → m ≡ l + 1 → 2 * x + l < 2 * y + m
    numbers x y l m e f = omega arith

module _ (c : ClassTree) (w : Window) where
  enters_on : (a b : WalkState) → Grows a b → length b.entries ≡ length c.blocks → (j i : ℕ) (e : Bool)
      → Enters c (place_in w j) (entry_of a.entries j) i e → Enters c (place_in w j) (entry_of b.entries j) i e
  enters_on a b g long j i e h = λ less. covers_then a b g j i e (subst (λ (n : ℕ). i < n) (sym long) less) (h less)

  passed_on : (a b : WalkState) → Grows a b → length b.entries ≡ length c.blocks → (j : ℕ) (k : BlockTree) (s : Passing)
      → IsPassed c (place_in w j) (entry_of a.entries j) k s → IsPassed c (place_in w j) (entry_of b.entries j) k s
  passed_on a b g long j k s h = record {
    misread = h.misread;
    handler = λ r f. enters_on a b g long j r.block _ (h.handler r f);
    targets = λ to f. enters_on a b g long j to _ (h.targets to f);
    branches = λ n m r f i. enters_on a b g long j r.block _ (h.branches n m r f i);
  }

  pub passed_more : (s t new : WalkState) (b : ℕ) → t.entries ≡ s.entries → s.todo ≡ t.todo ++ b ∷ [] → AreWalks c w s → Passes c w t new b → AreWalks c w new
  passed_more s t new b same rest h p = record {
    same_length = long;
    sound = p.sound (subst (AreSound c w) (sym same) h.sound);
    begin = λ j lt. enters_on t new p.grows long j 0 _ (subst (λ (es : List (Option ℕ)). Enters c (place_in w j) (entry_of es j) 0 (not (is_parameter c (place_in w j) (place_in w j)))) (sym same)
        (h.begin j lt));
    passed = λ i x k is at. by_change i x k is at (p.grows.changed i);
  }
    where
      long : length new.entries ≡ length c.blocks
      long = p.grows.same_length ∙ ap length same ∙ h.same_length

      by_todo : (i x : ℕ) (k : BlockTree) → slice_get c.blocks i ≡ Some k → slice_get t.entries i ≡ Some (Some x) → Contains t.todo i ⊎ (b ≡ i) → Contains new.todo i ⊎ AllPassed c w new.entries k x
      by_todo i x k is at (inl there) = inl (p.grows.todo i there)
      by_todo i x k is at (inr here) = inr (p.passed k x (ap (slice_get c.blocks) here ∙ is) (ap (slice_get t.entries) here ∙ at))

      by_before : (i x : ℕ) (k : BlockTree) → slice_get c.blocks i ≡ Some k → slice_get t.entries i ≡ Some (Some x) → Contains s.todo i ⊎ AllPassed c w s.entries k x
          → Contains new.todo i ⊎ AllPassed c w new.entries k x
      by_before i x k is at (inl there) = by_todo i x k is at (Contains-push_cases t.todo b i (subst (λ (l : List ℕ). Contains l i) rest there))
      by_before i x k is at (inr all) =
          inr (λ j lt. passed_on t new p.grows long j k _ (subst (λ (es : List (Option ℕ)). AllPassed c w es k x) (sym same) all j lt))

      by_change : (i x : ℕ) (k : BlockTree) → slice_get c.blocks i ≡ Some k → slice_get new.entries i ≡ Some (Some x)
          → (slice_get new.entries i ≡ slice_get t.entries i) ⊎ Contains new.todo i → Contains new.todo i ⊎ AllPassed c w new.entries k x
      by_change i x k is at (inr there) = inl there
      by_change i x k is at (inl kept) =
          let before : slice_get t.entries i ≡ Some (Some x) = sym kept ∙ at in
          by_before i x k is before (h.passed i x k is (ap (λ (es : List (Option ℕ)). slice_get es i) (sym same) ∙ before))

  entry_there : (o : Option (Option ℕ)) (j : ℕ) (e : Bool) → entry_bit o j ≡ Some e → (x : ℕ) × (o ≡ Some (Some x)) × (has_bit x j ≡ e)
  entry_there None j e h = absurd (none_some e h)
  entry_there (Some None) j e h = absurd (none_some e h)
  entry_there (Some (Some x)) j e h = (x, refl, same_some (has_bit x j) e h)

  followed : (s : WalkState) → s.todo ≡ [] → AreWalks c w s → (j : ℕ) → j < 64 → AreFollowed c (place_in w j) (entry_of s.entries j)
  followed s none h j lt = record { begin = h.begin j lt; all = λ b k e is at. by b k e is (entry_there (slice_get s.entries b) j e at) }
    where
      no_more : (b x : ℕ) (k : BlockTree) → Contains s.todo b ⊎ AllPassed c w s.entries k x → AllPassed c w s.entries k x
      no_more b x k (inl there) = absurd (none_there b (subst (λ (l : List ℕ). Contains l b) none there))
      no_more b x k (inr all) = all

      by : (b : ℕ) (k : BlockTree) (e : Bool) → slice_get c.blocks b ≡ Some k → ((x : ℕ) × (slice_get s.entries b ≡ Some (Some x)) × (has_bit x j ≡ e))
          → IsPassed c (place_in w j) (entry_of s.entries j) k (passed (place_in w j) (block_touches c k) (entering e))
      by b k e is (x, at, bit) =
          subst (λ (z : Bool). IsPassed c (place_in w j) (entry_of s.entries j) k (passed (place_in w j) (block_touches c k) (entering z))) bit
          (no_more b x k (h.passed b x k is at) j lt)

  pub all_filled : (s : WalkState) → s.todo ≡ [] → AreWalks c w s → (j : ℕ) → j < 64 → IsFilled c (place_in w j)
  all_filled s none h j lt = λ b n walk. read_filled c (place_in w j) (entry_of s.entries j) (followed s none h j lt) walk

  -- walks that only begin
  nothing_there : {A : Type 0} (xs : List A) (i x : ℕ) → slice_get (nothing_entered xs) i ≡ Some (Some x) → ⊥
  nothing_there [] i x h = none_some (Some x) h
  nothing_there (y ∷ ys) zero x h = none_some x (same_some None (Some x) h)
  nothing_there (y ∷ ys) (suc i) x h = nothing_there ys i x h

  nothing_long : {A : Type 0} (xs : List A) → length (nothing_entered xs) ≡ length xs
  nothing_long [] = refl
  nothing_long (y ∷ ys) = ap suc (nothing_long ys)

  parameters : (p q : Slotted) → is_parameter_of c.params q ≡ is_parameter c p q
  parameters p (Slot n) = refl
  parameters p (Local n) = refl

  pub first_enters : {A : Type 0} (xs : List A) (old new : WalkState) (bits : ℕ) → length xs ≡ length c.blocks → old.entries ≡ nothing_entered xs
      → AreBits w bits (λ p. not (is_parameter_of c.params p)) → Entered old new (plain_way bits 0 ∷ []) → AreWalks c w new
  first_enters {A = A} xs old new bits same none own h = record {
    same_length = long;
    sound = λ b y j f lt. by_from b y j lt (h.from b y j f lt);
    begin = λ j lt less. subst (Covers (entry_of new.entries j 0)) (bit j lt) (h.covers.0 j lt (subst (λ (n : ℕ). 0 < n) (sym long) less));
    passed = λ i x k is at. by_change i x k at (h.grows.changed i);
  }
    where
      long : length new.entries ≡ length c.blocks
      long = h.grows.same_length ∙ ap length none ∙ nothing_long xs ∙ same

      bit : (j : ℕ) → j < 64 → has_bit bits j ≡ not (is_parameter c (place_in w j) (place_in w j))
      bit j lt = own j lt ∙ ap not (parameters (place_in w j) (place_in w j))

      before : (i x : ℕ) → slice_get old.entries i ≡ Some (Some x) → ⊥
      before i x f = nothing_there xs i x (ap (λ (es : List (Option ℕ)). slice_get es i) (sym none) ∙ f)

      by_from : (b y j : ℕ) → j < 64 → ((x : ℕ) × (slice_get old.entries b ≡ Some (Some x)) × (has_bit x j ≡ has_bit y j)) ⊎ Led (plain_way bits 0 ∷ []) b j (has_bit y j)
          → Comes c (place_in w j) b 0 (not (has_bit y j))
      by_from b y j lt (inl (x, there, e)) = absurd (before b x there)
      by_from b y j lt (inr (inr led)) = absurd led
      by_from b y j lt (inr (inl (at, e))) =
          subst (λ (n : ℕ). Comes c (place_in w j) n 0 (not (has_bit y j))) at
          (subst (Comes c (place_in w j) 0 0) (sym (ap not (sym e ∙ bit j lt) ∙ twice_not (is_parameter c (place_in w j) (place_in w j)))) begins)

      by_change : (i x : ℕ) (k : BlockTree) → slice_get new.entries i ≡ Some (Some x) → (slice_get new.entries i ≡ slice_get old.entries i) ⊎ Contains new.todo i
          → Contains new.todo i ⊎ AllPassed c w new.entries k x
      by_change i x k at (inr there) = inl there
      by_change i x k at (inl kept) = absurd (before i x (sym kept ∙ at))
