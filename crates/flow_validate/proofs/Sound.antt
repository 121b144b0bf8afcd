-- What a block's touches tell of a place is so on some walk.
use Rattle.std.proofs.Common.{◌≡◌, ◌⊎◌, inl, inr, ℕ, suc, ◌+◌, ◌<◌, Bool, true, false, not, ◌&&◌, ◌||◌, List, [], ◌∷◌, ◌++◌, map, slice_get, Contains, refl, sym, subst, ap, ◌∙◌, arith}
use Rattle.std.proofs.lemmas.Bool.{and_parts, or_cases, false≢true}
use Rattle.std.specs.declared.option.Option.TheVariants.{Some}
use Rattle.flow_class.specs.declared.class.Slotted.{Slotted}
use Rattle.flow_class.specs.Classes.{CatcherTree, InstrTree, LastTree, GotoLast, PassLast, TestLast, ChooseLast, ReturnLast, ThrowLast, BlockTree, CallbackTree, ClassTree}
use Rattle.flow_class.specs.Code.{Body, Last, fetch_in, fetch_at, fetch, catcher_at, callback_at, group_at}
use Rattle.flow_validate.specs.declared.touch.Touch.{Touch}
use Rattle.flow_validate.specs.declared.touch.Touch.TheVariants.{Throws, Reads, Fills, Empties, Waits}
use Rattle.flow_valid.specs.Named.{listed, last_places, targets}
use Rattle.flow_valid.specs.Filling.{among, is_local, dropped, reads, group_reads, instr_reads, instr_fills, handled, is_error, Comes, goes_on, jumps, is_taken, fails, wait_fails, ReadsEmpty}
use Rattle.flow_validate.specs.Following.{Passing, entering, touched, passed, emptied_by, instr_touches, body_touches, last_touches, block_touches}
use Rattle.flow_validate.specs.Entered.{empty_handled, empty_taken}
use Rattle.flow_validate.proofs.Touching.{passed_both, passed_instr, passed_wait, passed_end, filled_behind}

either_true : (a b : Bool) → a ≡ true → (a || b) ≡ true
either_true true b h = refl
either_true false b h = cc

module _ (p : Slotted) where
  thrown_one : (t : Touch) (s : Passing) → s.thrown ≡ true → (touched p t s).thrown ≡ true
  thrown_one Throws s h = either_true s.thrown s.empty h
  thrown_one (Reads q) s h = h
  thrown_one (Fills q) s h = h
  thrown_one (Empties n) s h = h
  thrown_one Waits s h = h

  pub thrown_kept : (ts : List Touch) (s : Passing) → s.thrown ≡ true → (passed p ts s).thrown ≡ true
  thrown_kept [] s h = h
  thrown_kept (t ∷ ts) s h = thrown_kept ts (touched p t s) (thrown_one t s h)

  misread_one : (t : Touch) (s : Passing) → s.misread ≡ true → (touched p t s).misread ≡ true
  misread_one Throws s h = h
  misread_one (Reads q) s h = either_true s.misread _ h
  misread_one (Fills q) s h = h
  misread_one (Empties n) s h = h
  misread_one Waits s h = h

  pub misread_kept : (ts : List Touch) (s : Passing) → s.misread ≡ true → (passed p ts s).misread ≡ true
  misread_kept [] s h = h
  misread_kept (t ∷ ts) s h = misread_kept ts (touched p t s) (misread_one t s h)

  throws_here : (ts : List Touch) (s : Passing) → s.empty ≡ true → (passed p (Throws ∷ ts) s).thrown ≡ true
  throws_here ts s h = thrown_kept ts (touched p Throws s) (by s.thrown s.empty h)
    where
      by : (a b : Bool) → b ≡ true → (a || b) ≡ true
      by true b i = refl
      by false b i = i

  -- an error may be thrown before whatever is left of a block
  pub rest_throws : (c : ClassTree) (is : List InstrTree) (l : LastTree) (s : Passing) → s.empty ≡ true → (passed p (body_touches is ++ last_touches c l) s).thrown ≡ true
  rest_throws c (i ∷ is) l s h =
      throws_here (((map Reads (instr_reads i) ++ map Fills (instr_fills i) ++ map Empties (emptied_by i)) ++ body_touches is) ++ last_touches c l) s h
  rest_throws c [] (GotoLast b) s h = throws_here [] s h
  rest_throws c [] (PassLast b) s h = throws_here [] s h
  rest_throws c [] (TestLast e a b) s h = throws_here (map Reads (last_places (TestLast e a b))) s h
  rest_throws c [] (ChooseLast g) s h = throws_here (map Reads (group_reads (group_at c.groups g)) ++ Waits ∷ Throws ∷ []) s h
  rest_throws c [] (ReturnLast e) s h = throws_here (map Reads (last_places (ReturnLast e))) s h
  rest_throws c [] (ThrowLast e) s h = throws_here (map Reads (last_places (ThrowLast e))) s h

plus_zero : (n : ℕ) → n + 0 ≡ n
plus_zero n = omega arith

plus_suc : (n j : ℕ) → suc n + j ≡ n + suc j
plus_suc n j = omega arith

zero_plus : (j : ℕ) → 0 + j ≡ j
zero_plus j = omega arith

turned_false : (e : Bool) → e ≡ true → not e ≡ false
turned_false true h = refl
turned_false false h = cc

module _ (c : ClassTree) (p : Slotted) (b : ℕ) where
  -- what has been told so far
  pub record IsTold (s : Passing) : Type 0 where
    pub thrown : s.thrown ≡ true → (k : CatcherTree) → catcher_at c b ≡ Some k → Comes c p k.block 0 (handled c p k false)
    pub misread : s.misread ≡ true → ReadsEmpty c

  -- and where a walk has come
  pub record IsSound (n : ℕ) (s : Passing) : Type 0 where
    pub comes : Comes c p b n (not s.empty)
    pub told : IsTold s

  empty_here : {n : ℕ} (s : Passing) → IsSound n s → s.empty ≡ true → Comes c p b n false
  empty_here {n = n} s h e = subst (Comes c p b n) (turned_false s.empty e) h.comes

  told_thrown : {n : ℕ} (s : Passing) → IsSound n s → s.thrown || s.empty ≡ true → (k : CatcherTree) → catcher_at c b ≡ Some k → Comes c p k.block 0 (handled c p k false)
  told_thrown {n = n} s h e k is = by (or_cases s.thrown s.empty e)
    where
      by : (s.thrown ≡ true) ⊎ (s.empty ≡ true) → Comes c p k.block 0 (handled c p k false)
      by (inl t) = h.told.thrown t k is
      by (inr t) = fails k (empty_here s h t) is

  told_misread : {n : ℕ} (s : Passing) (ps : List Slotted) → IsSound n s → reads c (fetch c b n) ≡ ps → s.misread || (s.empty && among ps p) ≡ true → ReadsEmpty c
  told_misread {n = n} s ps h r e = by (or_cases s.misread (s.empty && among ps p) e)
    where
      by : (s.misread ≡ true) ⊎ ((s.empty && among ps p) ≡ true) → ReadsEmpty c
      by (inl t) = h.told.misread t
      by (inr t) = let both = and_parts s.empty (among ps p) t in (p, b, n, empty_here s h both.0, ap (λ (x : List Slotted). among x p) r ∙ both.1)

  sound_instr : (i : InstrTree) (n : ℕ) (s : Passing) → IsSound n s → fetch c b n ≡ Body i → IsSound (suc n) (passed p (instr_touches i) s)
  sound_instr i n s h f =
      subst (IsSound (suc n)) (sym (passed_instr p i s)) (record {
        comes = subst (Comes c p b (suc n)) (sym (filled_behind p c i s.empty)) (goes_on i h.comes f);
        told = record {
          thrown = told_thrown s h;
          misread = told_misread s (instr_reads i) h (ap (reads c) f);
        };
      })

  pub record Ends (l : LastTree) (s : Passing) : Type 0 where
    pub at : ℕ
    pub sound : IsSound at s
    pub last : fetch c b at ≡ Last l

  sound_body : (is : List InstrTree) (l : LastTree) (n : ℕ) (s : Passing) → IsSound n s → ((m : ℕ) → fetch c b (n + m) ≡ fetch_in is l m) → Ends l (passed p (body_touches is) s)
  sound_body [] l n s h f = record { at = n; sound = h; last = sym (ap (fetch c b) (plus_zero n)) ∙ f 0 }
  sound_body (i ∷ is) l n s h f =
      subst (Ends l) (sym (passed_both p (instr_touches i) (body_touches is) s))
      (sound_body is l (suc n) (passed p (instr_touches i) s) (sound_instr i n s h (sym (ap (fetch c b) (plus_zero n)) ∙ f 0)) (λ m. ap (fetch c b) (plus_suc n m) ∙ f (suc m)))

  told_end : (ps : List Slotted) (l : LastTree) (s : Passing) (h : Ends l s) → reads c (Last l) ≡ ps → IsTold (passed p (Throws ∷ map Reads ps) s)
  told_end ps l s h r =
      subst IsTold (sym (passed_end p ps s)) (record {
        thrown = told_thrown s h.sound;
        misread = told_misread s ps h.sound (ap (reads c) h.last ∙ r);
      })

  lost_local : (x y : Bool) → y ≡ true → (x && not y) ≡ false
  lost_local true true h = refl
  lost_local false y h = refl
  lost_local true false h = cc

  told_wait : (g : ℕ) (s : Passing) (h : Ends (ChooseLast g) s) → IsTold (passed p (last_touches c (ChooseLast g)) s)
  told_wait g s h =
      subst IsTold (sym (passed_wait p (group_reads (group_at c.groups g)) s)) (record {
        thrown = λ e k is. by k is (or_cases (s.thrown || s.empty) (s.empty || is_local p) e);
        misread = told_misread s (group_reads (group_at c.groups g)) h.sound (ap (reads c) h.last);
      })
    where
      lost : (k : CatcherTree) → catcher_at c b ≡ Some k → (s.empty ≡ true) ⊎ (is_local p ≡ true) → Comes c p k.block 0 (handled c p k false)
      lost k is (inl t) = fails k (empty_here s h.sound t) is
      lost k is (inr t) = subst (λ (x : Bool). Comes c p k.block 0 (handled c p k x)) (lost_local (not s.empty) (is_local p) t) (wait_fails g k h.sound.comes h.last is)

      by : (k : CatcherTree) → catcher_at c b ≡ Some k → ((s.thrown || s.empty) ≡ true) ⊎ ((s.empty || is_local p) ≡ true) → Comes c p k.block 0 (handled c p k false)
      by k is (inl t) = told_thrown s h.sound t k is
      by k is (inr t) = lost k is (or_cases s.empty (is_local p) t)

  told_last : (l : LastTree) (s : Passing) → Ends l s → IsTold (passed p (last_touches c l) s)
  told_last (GotoLast t) s h = told_end [] (GotoLast t) s h refl
  told_last (PassLast t) s h = told_end [] (PassLast t) s h refl
  told_last (TestLast e t f) s h = told_end (last_places (TestLast e t f)) (TestLast e t f) s h refl
  told_last (ChooseLast g) s h = told_wait g s h
  told_last (ReturnLast e) s h = told_end (last_places (ReturnLast e)) (ReturnLast e) s h refl
  told_last (ThrowLast e) s h = told_end (last_places (ThrowLast e)) (ThrowLast e) s h refl

  none_there : (to : ℕ) → Contains [] to → ⊥
  none_there to h = let less : h.0 < 0 = h.1 in omega (arith, less)

  end_empty : (ps : List Slotted) (s : Passing) → (passed p (Throws ∷ map Reads ps) s).empty ≡ s.empty
  end_empty ps s = ap (λ (x : Passing). x.empty) (passed_end p ps s)

  pub still_empty : (l : LastTree) (to : ℕ) (s : Passing) → Contains (targets l) to → (passed p (last_touches c l) s).empty ≡ s.empty
  still_empty (GotoLast t) to s h = refl
  still_empty (PassLast t) to s h = refl
  still_empty (TestLast e t f) to s h = end_empty (last_places (TestLast e t f)) s
  still_empty (ChooseLast g) to s h = absurd (none_there to h)
  still_empty (ReturnLast e) to s h = absurd (none_there to h)
  still_empty (ThrowLast e) to s h = absurd (none_there to h)

  pub waited_empty : (g : ℕ) (s : Passing) → (passed p (last_touches c (ChooseLast g)) s).empty ≡ (s.empty || is_local p)
  waited_empty g s = ap (λ (x : Passing). x.empty) (passed_wait p (group_reads (group_at c.groups g)) s)

  taken_so : (e l a : Bool) → not ((e || l) && not a) ≡ (a || (not e && not l))
  taken_so true l true = refl
  taken_so true l false = refl
  taken_so false true true = refl
  taken_so false true false = refl
  taken_so false false true = refl
  taken_so false false false = refl

  handled_thrown : (d e : Bool) → (e || (false && not d)) ≡ not ((true || d) && not e)
  handled_thrown d true = refl
  handled_thrown d false = refl

  handled_whole : (d e : Bool) → (e || (true && not d)) ≡ not ((false || d) && not e)
  handled_whole true true = refl
  handled_whole true false = refl
  handled_whole false true = refl
  handled_whole false false = refl

  -- where a block that a walk enters leads
  pub record Leads (k : BlockTree) (s : Passing) : Type 0 where
    pub misread : s.misread ≡ true → ReadsEmpty c
    pub handler : (h : CatcherTree) → catcher_at c b ≡ Some h → Comes c p h.block 0 (not (empty_handled c p h s.thrown))
    pub targets : (to : ℕ) → Contains (targets k.last) to → Comes c p to 0 (not s.empty)
    pub branches : (g n : ℕ) (cb : CallbackTree) → k.last ≡ ChooseLast g → callback_at c g n ≡ Some cb → Comes c p cb.block 0 (not (empty_taken p cb s.empty))

  module _ (k : BlockTree) (e : Bool) (is : slice_get c.blocks b ≡ Some k) (enters : Comes c p b 0 (not e)) where
    to_end : Ends k.last (passed p (body_touches k.body) (entering e))
    to_end =
        sound_body k.body k.last 0 (entering e) (record { comes = enters; told = record { thrown = λ i. absurd (false≢true i); misread = λ i. absurd (false≢true i) } })
        (λ m. ap (fetch c b) (zero_plus m) ∙ ap (λ o. fetch_at o m) is)

    whole : passed p (block_touches c k) (entering e) ≡ passed p (last_touches c k.last) (passed p (body_touches k.body) (entering e))
    whole = passed_both p (body_touches k.body) (last_touches c k.last) (entering e)

    told_whole : IsTold (passed p (block_touches c k) (entering e))
    told_whole = subst IsTold (sym whole) (told_last k.last (passed p (body_touches k.body) (entering e)) to_end)

    by_thrown : (h : CatcherTree) → catcher_at c b ≡ Some h → (t : Bool) → (passed p (block_touches c k) (entering e)).thrown ≡ t → Comes c p h.block 0 (not (empty_handled c p h t))
    by_thrown h i true t = subst (Comes c p h.block 0) (handled_thrown (dropped h.drops p) (is_error c p h.error p)) (told_whole.thrown t h i)
    by_thrown h i false t = from e refl
      where
        from : (x : Bool) → e ≡ x → Comes c p h.block 0 (not (empty_handled c p h false))
        from true x = absurd (false≢true (sym t ∙ rest_throws p c k.body k.last (entering e) x))
        from false x =
            subst (Comes c p h.block 0) (handled_whole (dropped h.drops p) (is_error c p h.error p)) (fails h (subst (λ (y : Bool). Comes c p b 0 (not y)) x enters) i)

    pub leads : Leads k (passed p (block_touches c k) (entering e))
    leads =
        let s = passed p (body_touches k.body) (entering e) in
        record {
          misread = told_whole.misread;
          handler = λ h i. by_thrown h i (passed p (block_touches c k) (entering e)).thrown refl;
          targets = λ to h.
              subst (λ (x : Bool). Comes c p to 0 (not x)) (sym (ap (λ (x : Passing). x.empty) whole ∙ still_empty k.last to s h))
              (jumps k.last to to_end.sound.comes to_end.last h);
          branches = λ g n cb l i.
              let same : (passed p (block_touches c k) (entering e)).empty ≡ (s.empty || is_local p) =
              ap (λ (x : Passing). x.empty) whole ∙ ap (λ (x : LastTree). (passed p (last_touches c x) s).empty) l ∙ waited_empty g s
              in
              subst (Comes c p cb.block 0) (sym (ap (λ (x : Bool). not (x && not (among (listed cb.into) p))) same ∙ taken_so s.empty (is_local p) (among (listed cb.into) p)))
              (is_taken g n cb to_end.sound.comes (to_end.last ∙ ap Last l) i);
        }
