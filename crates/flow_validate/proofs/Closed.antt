-- Where all blocks are passed to which a walk leads, no walk reads a place while it is empty.
use Rattle.std.proofs.Common.{◌≡◌, ◌⊎◌, inl, inr, ℕ, zero, suc, Bool, true, false, not, ◌&&◌, ◌||◌, List, [], ◌∷◌, ◌++◌, map, drop, slice_get, Contains, refl, sym, subst, ap, ◌∙◌}
use Rattle.std.proofs.lemmas.Bool.{false≢true}
use Rattle.std.proofs.lemmas.Option.{slice_get_within}
use Rattle.std.specs.declared.option.Option.{Option}
use Rattle.std.specs.declared.option.Option.TheVariants.{None, Some}
use Rattle.flow_class.specs.declared.class.Slotted.{Slotted}
use Rattle.flow_class.specs.Classes.{CatcherTree, InstrTree, LastTree, GotoLast, PassLast, TestLast, ChooseLast, ReturnLast, ThrowLast, BlockTree, ClassTree}
use Rattle.flow_class.specs.Code.{Fetched, Body, Last, Nothing, fetch_in, fetch_at, fetch, catcher_in, catcher_at, group_at}
use Rattle.flow_validate.specs.declared.touch.Touch.{Touch}
use Rattle.flow_validate.specs.declared.touch.Touch.TheVariants.{Throws, Reads, Waits}
use Rattle.flow_valid.specs.Named.{listed, last_places, targets}
use Rattle.flow_valid.specs.Filling.{among, is_local, dropped, reads, group_reads, instr_reads, instr_fills, behind, waited, is_parameter, is_error, Comes, begins, goes_on, jumps, is_taken, fails, wait_fails}
use Rattle.flow_validate.specs.Following.{Passing, entering, passed, instr_touches, body_touches, last_touches, block_touches}
use Rattle.flow_validate.specs.Entered.{Covers, Enters, IsPassed, AreFollowed}
use Rattle.flow_validate.proofs.Touching.{passed_both, passed_instr, passed_wait, passed_end, filled_behind}
use Rattle.flow_validate.proofs.Sound.{rest_throws, misread_kept, still_empty, waited_empty}

no_body : (l : LastTree) (i : InstrTree) → Last l ≡ Body i → ⊥
no_body l i e = cc

no_last : (i : InstrTree) (l : LastTree) → Body i ≡ Last l → ⊥
no_last i l e = cc

nothing_body : (i : InstrTree) → Nothing ≡ Body i → ⊥
nothing_body i e = cc

nothing_last : (l : LastTree) → Nothing ≡ Last l → ⊥
nothing_last l e = cc

same_body : (i j : InstrTree) → Body i ≡ Body j → i ≡ j
same_body i j e = cc

same_last : (i j : LastTree) → Last i ≡ Last j → i ≡ j
same_last i j e = cc

same_some : {A : Type 0} (a b : A) → Some a ≡ Some b → a ≡ b
same_some a b e = cc

none_some : {A : Type 0} (a : A) → None ≡ Some a → ⊥
none_some a e = cc

-- what is left of a block where an instruction is fetched, or the last one
fetched_body : (is : List InstrTree) (l : LastTree) (n : ℕ) (i : InstrTree) → fetch_in is l n ≡ Body i → drop n is ≡ i ∷ drop (suc n) is
fetched_body [] l zero i h = absurd (no_body l i h)
fetched_body [] l (suc n) i h = absurd (nothing_body i h)
fetched_body (j ∷ js) l zero i h = ap (λ x. x ∷ js) (same_body j i h)
fetched_body (j ∷ js) l (suc n) i h = fetched_body js l n i h

fetched_last : (is : List InstrTree) (l : LastTree) (n : ℕ) (m : LastTree) → fetch_in is l n ≡ Last m → (drop n is ≡ []) × (l ≡ m)
fetched_last [] l zero m h = (refl, same_last l m h)
fetched_last [] l (suc n) m h = absurd (nothing_last m h)
fetched_last (j ∷ js) l zero m h = absurd (no_last j m h)
fetched_last (j ∷ js) l (suc n) m h = fetched_last js l n m h

-- the block where something is fetched, or that has a catch part
last_block : (c : ClassTree) (b n : ℕ) (l : LastTree) → fetch c b n ≡ Last l → (k : BlockTree) × (slice_get c.blocks b ≡ Some k)
last_block c b n l h = by (slice_get c.blocks b) refl
  where
    by : (o : Option BlockTree) → slice_get c.blocks b ≡ o → (k : BlockTree) × (slice_get c.blocks b ≡ Some k)
    by None e = absurd (nothing_last l (sym (ap (λ x. fetch_at x n) e) ∙ h))
    by (Some k) e = (k, e)

caught_block : (c : ClassTree) (b : ℕ) (h : CatcherTree) → catcher_at c b ≡ Some h → (k : BlockTree) × (slice_get c.blocks b ≡ Some k) × (k.catcher ≡ Some h)
caught_block c b h i = by (slice_get c.blocks b) refl
  where
    by : (o : Option BlockTree) → slice_get c.blocks b ≡ o → (k : BlockTree) × (slice_get c.blocks b ≡ Some k) × (k.catcher ≡ Some h)
    by None e = absurd (none_some h (sym (ap catcher_in e) ∙ i))
    by (Some k) e = (k, e, sym (ap catcher_in e) ∙ i)

turned : (x : Bool) → not x ≡ false → x ≡ true
turned true h = refl
turned false h = cc

turned_true : (x : Bool) → x ≡ true → not x ≡ false
turned_true true h = refl
turned_true false h = cc

less_filled : (a d f e : Bool) → (f ≡ false → e ≡ true) → a || (f && not d) ≡ false → a || (not e && not d) ≡ false
less_filled true d f e g h = h
less_filled false true f e g h = by e
  where
    by : (x : Bool) → (false || (not x && not true)) ≡ false
    by true = refl
    by false = refl
less_filled false false true e g h = cc
less_filled false false false e g h = ap (λ (x : Bool). false || (not x && not false)) (g refl)

less_taken : (a l f e : Bool) → (f ≡ false → e ≡ true) → a || (f && not l) ≡ false → (e || l) && not a ≡ true
less_taken true l f e g h = cc
less_taken false true f e g h = by e
  where
    by : (x : Bool) → ((x || true) && not false) ≡ true
    by true = refl
    by false = refl
less_taken false false true e g h = cc
less_taken false false false e g h = ap (λ (x : Bool). (x || false) && not false) (g refl)

less_handled : (r d f t : Bool) → (f ≡ false → t ≡ true) → r || (f && not d) ≡ false → (t || d) && not r ≡ true
less_handled r d f t g h = less_taken r d f t g h

not_misread : (m e x : Bool) → m || (e && x) ≡ false → e ≡ true → x ≡ false
not_misread true e x h i = cc
not_misread false true x h i = h
not_misread false false x h i = cc

is_false : (x : Bool) → (x ≡ true → ⊥) → x ≡ false
is_false true h = absurd (h refl)
is_false false h = refl

module _ (c : ClassTree) (p : Slotted) (entry : ℕ → Option Bool) (all : AreFollowed c p entry) where
  -- where a walk has come in a block
  record Stands (b n : ℕ) (k : BlockTree) (filled : Bool) : Type 0 where
    empty : Bool
    entered : entry b ≡ Some empty
    now : Passing
    on : passed p (body_touches (drop n k.body) ++ last_touches c k.last) now ≡ passed p (block_touches c k) (entering empty)
    covers : filled ≡ false → now.empty ≡ true

  enters : (to : ℕ) (e filled : Bool) → Enters c p entry to e → (filled ≡ false → e ≡ true) → (k : BlockTree) → slice_get c.blocks to ≡ Some k → Stands to 0 k filled
  enters to e filled h f k is = by (entry to) refl (h (slice_get_within c.blocks to k is))
    where
      by : (o : Option Bool) → entry to ≡ o → Covers o e → Stands to 0 k filled
      by None i cov = absurd cov
      by (Some x) i cov = record { empty = x; entered = i; now = entering x; on = refl; covers = λ u. cov (f u) }

  passes : {b n : ℕ} {filled : Bool} (k : BlockTree) → slice_get c.blocks b ≡ Some k → (s : Stands b n k filled) → IsPassed c p entry k (passed p (block_touches c k) (entering s.empty))
  passes {b = b} k is s = all.all b k s.empty is s.entered

  one_step : {b n : ℕ} {filled : Bool} (i : InstrTree) (k : BlockTree) → slice_get c.blocks b ≡ Some k → fetch c b n ≡ Body i → Stands b n k filled → Stands b (suc n) k (behind c p i filled)
  one_step {n = n} {filled = filled} i k is f s =
      let left = fetched_body k.body k.last n i (sym (ap (λ o. fetch_at o n) is) ∙ f) in
      let rest = body_touches (drop (suc n) k.body) in
      record {
        empty = s.empty;
        entered = s.entered;
        now = passed p (instr_touches i) s.now;
        on =
            sym (passed_both p (instr_touches i) (rest ++ last_touches c k.last) s.now)
            ∙ passed_same (instr_touches i) rest (last_touches c k.last) s.now
            ∙ ap (λ (x : List InstrTree). passed p (body_touches x ++ last_touches c k.last) s.now) (sym left) ∙ s.on;
        covers = λ u.
            ap (λ (x : Passing). x.empty) (passed_instr p i s.now)
            ∙ turned _ (filled_behind p c i s.now.empty ∙ behind_less i s.now.empty u s.covers);
      }
    where
      passed_same : (ts us vs : List Touch) (t : Passing) → passed p (ts ++ (us ++ vs)) t ≡ passed p ((ts ++ us) ++ vs) t
      passed_same ts us vs t =
          passed_both p ts (us ++ vs) t ∙ passed_both p us vs (passed p ts t) ∙ ap (passed p vs) (sym (passed_both p ts us t)) ∙ sym (passed_both p (ts ++ us) vs t)

      behind_less : (j : InstrTree) (e : Bool) → behind c p j filled ≡ false → (filled ≡ false → e ≡ true) → behind c p j (not e) ≡ false
      behind_less j e u g = less_filled (among (instr_fills j) p) _ filled e g u

  at_end : {b n : ℕ} {filled : Bool} (l : LastTree) (k : BlockTree) → slice_get c.blocks b ≡ Some k → fetch c b n ≡ Last l → (s : Stands b n k filled)
      → (k.last ≡ l) × (passed p (block_touches c k) (entering s.empty) ≡ passed p (last_touches c k.last) s.now)
  at_end {n = n} l k is f s =
      let left = fetched_last k.body k.last n l (sym (ap (λ o. fetch_at o n) is) ∙ f) in
      (left.1, sym s.on ∙ ap (λ (x : List InstrTree). passed p (body_touches x ++ last_touches c k.last) s.now) left.0)

  thrown_here : {b n : ℕ} {filled : Bool} (k : BlockTree) (s : Stands b n k filled) → filled ≡ false → (passed p (block_touches c k) (entering s.empty)).thrown ≡ true
  thrown_here {n = n} k s u = sym (ap (λ (x : Passing). x.thrown) s.on) ∙ rest_throws p c (drop n k.body) k.last s.now (s.covers u)

  waited_thrown : (x : Bool) → (x || true) ≡ true
  waited_thrown true = refl
  waited_thrown false = refl

  or_right : (x y : Bool) → y ≡ true → (x || y) ≡ true
  or_right true y h = refl
  or_right false y h = h

  lost : (f l : Bool) → (f && not l) ≡ false → (f ≡ false) ⊎ (l ≡ true)
  lost true true h = inr refl
  lost true false h = cc
  lost false l h = inl refl

  -- where the wait itself fails
  wait_thrown : {b n : ℕ} {filled : Bool} (g : ℕ) (k : BlockTree) → slice_get c.blocks b ≡ Some k → fetch c b n ≡ Last (ChooseLast g) → (s : Stands b n k filled)
      → waited c p filled ≡ false → (passed p (block_touches c k) (entering s.empty)).thrown ≡ true
  wait_thrown {filled = filled} g k is f s u =
      let e = at_end (ChooseLast g) k is f s in
      ap (λ (x : Passing). x.thrown) (e.1 ∙ ap (λ (x : LastTree). passed p (last_touches c x) s.now) e.0 ∙ passed_wait p (group_reads (group_at c.groups g)) s.now)
      ∙ or_right (s.now.thrown || s.now.empty) (s.now.empty || is_local p) (by (lost filled (is_local p) u))
    where
      local : (x y : Bool) → y ≡ true → (x || y) ≡ true
      local x y h = or_right x y h

      own : (x y : Bool) → x ≡ true → (x || y) ≡ true
      own true y h = refl
      own false y h = cc

      by : (filled ≡ false) ⊎ (is_local p ≡ true) → (s.now.empty || is_local p) ≡ true
      by (inl v) = own s.now.empty (is_local p) (s.covers v)
      by (inr v) = local s.now.empty (is_local p) v

  stands : {b n : ℕ} {filled : Bool} → Comes c p b n filled → (k : BlockTree) → slice_get c.blocks b ≡ Some k → Stands b n k filled
  stands begins k is = enters 0 (not (is_parameter c p p)) (is_parameter c p p) all.begin (λ u. ap not u) k is
  stands (goes_on i w f) k is = one_step i k is f (stands w k is)
  stands (jumps {b = b} {n = n} l to w f h) k is =
      let from = last_block c b n l f in
      let s = stands w from.0 from.1 in
      let e = at_end l from.0 from.1 f s in
      let q = passes from.0 from.1 s in
      let there : Contains (targets from.0.last) to = subst (λ (x : LastTree). Contains (targets x) to) (sym e.0) h in
      enters to _ _ (q.targets to there) (λ u. ap (λ (x : Passing). x.empty) e.1 ∙ still_empty c p b from.0.last to s.now there ∙ s.covers u) k is
  stands (is_taken {b = b} {n = n} {filled = filled} g branch cb w f h) k is =
      let from = last_block c b n (ChooseLast g) f in
      let s = stands w from.0 from.1 in
      let e = at_end (ChooseLast g) from.0 from.1 f s in
      let q = passes from.0 from.1 s in
      let same = ap (λ (x : Passing). x.empty) (e.1 ∙ ap (λ (x : LastTree). passed p (last_touches c x) s.now) e.0) ∙ waited_empty c p b g s.now in
      enters cb.block _ _ (q.branches g branch cb e.0 h)
      (λ u. ap (λ (x : Bool). x && not (among (listed cb.into) p)) same ∙ less_taken (among (listed cb.into) p) (is_local p) filled s.now.empty s.covers u) k is
  stands (fails {b = b} {filled = filled} h w i) k is =
      let from = caught_block c b h i in
      let s = stands w from.0 from.1 in
      let q = passes from.0 from.1 s in
      enters h.block _ _ (q.handler h from.2) (λ u. less_handled (is_error c p h.error p) (dropped h.drops p) filled _ (thrown_here from.0 s) u) k is
  stands (wait_fails {b = b} {filled = filled} g h w f i) k is =
      let from = caught_block c b h i in
      let s = stands w from.0 from.1 in
      let q = passes from.0 from.1 s in
      enters h.block _ _ (q.handler h from.2)
      (λ u. less_handled (is_error c p h.error p) (dropped h.drops p) (waited c p filled) _ (wait_thrown g from.0 from.1 f s) u) k is

  module _ {b n : ℕ} (w : Comes c p b n false) where
    not_here : (ts us : List Touch) (s t : Passing) → passed p (ts ++ us) s ≡ t → t.misread ≡ false → (passed p ts s).misread ≡ false
    not_here ts us s t e f =
        is_false (passed p ts s).misread
        (λ h. absurd (false≢true (sym f ∙ sym (ap (λ (x : Passing). x.misread) e) ∙ ap (λ (x : Passing). x.misread) (passed_both p ts us s) ∙ misread_kept p us (passed p ts s) h)))

    module _ (k : BlockTree) (is : slice_get c.blocks b ≡ Some k) where
      here : Stands b n k false
      here = stands w k is

      none_misread : (passed p (block_touches c k) (entering here.empty)).misread ≡ false
      none_misread = (passes k is here).misread

      instr_filled : (i : InstrTree) → fetch c b n ≡ Body i → among (instr_reads i) p ≡ false
      instr_filled i f =
          let left = fetched_body k.body k.last n i (sym (ap (λ o. fetch_at o n) is) ∙ f) in
          let rest = body_touches (drop (suc n) k.body) in
          let on = sym (ap (λ (x : List InstrTree). passed p (body_touches x ++ last_touches c k.last) here.now) left) ∙ here.on in
          let told = not_here (instr_touches i ++ rest) (last_touches c k.last) here.now (passed p (block_touches c k) (entering here.empty)) on none_misread in
          let own = not_here (instr_touches i) rest here.now (passed p (instr_touches i ++ rest) here.now) refl told in
          not_misread here.now.misread here.now.empty (among (instr_reads i) p) (sym (ap (λ (x : Passing). x.misread) (passed_instr p i here.now)) ∙ own) (here.covers refl)

      end_filled : (ps : List Slotted) → (passed p (Throws ∷ map Reads ps) here.now).misread ≡ false → among ps p ≡ false
      end_filled ps h = not_misread here.now.misread here.now.empty (among ps p) (sym (ap (λ (x : Passing). x.misread) (passed_end p ps here.now)) ∙ h) (here.covers refl)

      wait_filled : (ps : List Slotted) → (passed p (Throws ∷ map Reads ps ++ Waits ∷ Throws ∷ []) here.now).misread ≡ false → among ps p ≡ false
      wait_filled ps h = not_misread here.now.misread here.now.empty (among ps p) (sym (ap (λ (x : Passing). x.misread) (passed_wait p ps here.now)) ∙ h) (here.covers refl)

      last_filled : (l : LastTree) → (passed p (last_touches c l) here.now).misread ≡ false → among (reads c (Last l)) p ≡ false
      last_filled (GotoLast t) h = refl
      last_filled (PassLast t) h = refl
      last_filled (TestLast e t f) h = end_filled (last_places (TestLast e t f)) h
      last_filled (ChooseLast g) h = wait_filled (group_reads (group_at c.groups g)) h
      last_filled (ReturnLast e) h = end_filled (last_places (ReturnLast e)) h
      last_filled (ThrowLast e) h = end_filled (last_places (ThrowLast e)) h

      end_read : (l : LastTree) → fetch c b n ≡ Last l → among (reads c (Last l)) p ≡ false
      end_read l f =
          let e = at_end l k is f here in
          last_filled l (sym (ap (λ (x : Passing). x.misread) (e.1 ∙ ap (λ (x : LastTree). passed p (last_touches c x) here.now) e.0)) ∙ none_misread)

      by_fetched : (o : Fetched) → fetch c b n ≡ o → among (reads c o) p ≡ false
      by_fetched (Body i) f = instr_filled i f
      by_fetched (Last l) f = end_read l f
      by_fetched Nothing f = refl

    pub read_filled : among (reads c (fetch c b n)) p ≡ false
    read_filled = by (slice_get c.blocks b) refl
      where
        by : (o : Option BlockTree) → slice_get c.blocks b ≡ o → among (reads c (fetch c b n)) p ≡ false
        by None e = ap (λ (x : Option BlockTree). among (reads c (fetch_at x n)) p) e
        by (Some k) e = by_fetched k e (fetch c b n) refl
