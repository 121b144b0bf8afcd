-- The lists of waiters: one link more, and the newest of a waiter's links gone.
use Rattle.std.proofs.Common.{◌≡◌, ◌≢◌, ◌⊎◌, ℕ, nat_eq, Bool, true, false, ◌&&◌, ◌||◌, List, [], ◌∷◌, ◌++◌, length, map, Option, Some, None, is_some, refl, sym, ap, ap₂, ◌∙◌, subst, arith, inl, inr, if◌then◌else◌}
use Rattle.std.proofs.lemmas.Bool.Decides.{nat_tests}
use Rattle.flow_numbered.specs.declared.links.Link.{Link}
use Rattle.flow_numbered.specs.declared.links.Ends.{Ends}
use Rattle.flow_numbered.specs.Links.{Slots, no_links, longer, pushed, unlinked, shorter, walk}
use Rattle.flow_numbered.specs.Lists.{first_of, IsChain, IsApart, IsList}
use Rattle.flow_numbered.proofs.Chains.{back_of, walked_far, agreed, agree_all, pushed_list, unlinked_list, pushed_elsewhere, unlinked_elsewhere}
use Rattle.flow_cell.specs.declared.waiter.Waiter.{Waiter}
use Rattle.flow_cell.specs.declared.queue.Spot.{Spot}
use Rattle.flow_cell.specs.declared.queue.Waiting.{Waiting}
use Rattle.flow_cell.specs.Waiting.{same_spot, spot_waiter, waiter_of, waiters_in, newer, newest_in, KnowOlder, AreAt, nowhere, same_waiter, has_waiter, without_newest, IsQueue, AreQueues}

-- spots
and_true : (a b : Bool) → (a && b) ≡ true → (a ≡ true) × (b ≡ true)
and_true true b e = (refl, e)
and_true false b e = absurd (cc)

pub spot_is : (x y : Spot) → same_spot x y ≡ true → x ≡ y
spot_is x y e =
    let one = and_true (nat_eq x.cell y.cell) (nat_eq x.actor y.actor && nat_eq x.callback y.callback) e in
    let two = and_true (nat_eq x.actor y.actor) (nat_eq x.callback y.callback) one.1 in
    let cell : x.cell ≡ y.cell = grind (arith, nat_tests, one.0) in
    let actor : x.actor ≡ y.actor = grind (arith, nat_tests, two.0) in
    let callback : x.callback ≡ y.callback = grind (arith, nat_tests, two.1) in
    ap (λ (c : ℕ). record x { cell = c }) cell ∙ ap₂ (λ (a b : ℕ). record { cell = y.cell; actor = a; callback = b }) actor callback

same_nat : (n : ℕ) → nat_eq n n ≡ true
same_nat n = grind (arith, nat_tests)

pub spot_same : (x : Spot) → same_spot x x ≡ true
spot_same x = rw (same_nat x.cell, same_nat x.actor, same_nat x.callback) refl

other_way : (x y : Spot) → same_spot x y ≡ false → same_spot y x ≡ false
other_way x y e = by_case (same_spot y x) refl
  where
    by_case : (t : Bool) → same_spot y x ≡ t → t ≡ false
    by_case false g = refl
    by_case true g = let is = spot_is y x g in let bad : same_spot x x ≡ false = subst (λ z. same_spot x z ≡ false) is e in absurd (cc (bad, spot_same x))

other_cell : (x y : Spot) → x.cell ≢ y.cell → same_spot x y ≡ false
other_cell x y differs = by_case (same_spot x y) refl
  where
    by_case : (t : Bool) → same_spot x y ≡ t → t ≡ false
    by_case false g = refl
    by_case true g = absurd (differs (ap (λ (z : Spot). z.cell) (spot_is x y g)))

-- what is newest among some links depends on what was newest before at the same spot alone
passes : (f g : Spot → Option ℕ) (ps : List (ℕ × Waiting)) (s : Spot) → f s ≡ g s → newest_in f ps s ≡ newest_in g ps s
passes f g [] s e = e
passes f g (p ∷ ps) s e = passes (newer f p) (newer g p) ps s (ap (λ o. if same_spot p.1.spot s then Some p.0 else o) e)

-- one link more
newest_more : (f : Spot → Option ℕ) (ps : List (ℕ × Waiting)) (p : ℕ × Waiting) (s : Spot) → newest_in f (ps ++ p ∷ []) s ≡ newer (newest_in f ps) p s
newest_more f [] p s = refl
newest_more f (q ∷ ps) p s = newest_more (newer f q) ps p s

know_more : (f : Spot → Option ℕ) (ps : List (ℕ × Waiting)) (p : ℕ × Waiting) → KnowOlder f ps → p.1.older ≡ newest_in f ps p.1.spot → KnowOlder f (ps ++ p ∷ [])
know_more f [] p h e = (e, tt)
know_more f (q ∷ ps) p h e = (h.0, know_more (newer f q) ps p h.1 e)

at_more : (n : ℕ) (ps : List (ℕ × Waiting)) (p : ℕ × Waiting) → AreAt n ps → p.1.spot.cell ≡ n → AreAt n (ps ++ p ∷ [])
at_more n [] p h e = (e, tt)
at_more n (q ∷ ps) p h e = (h.0, at_more n ps p h.1 e)

-- no link of this waiter
abbrev pub NoSame : Spot → List (ℕ × Waiting) → Type 0
NoSame s [] = Unit {0}
NoSame s (p ∷ ps) = (same_spot p.1.spot s ≡ false) × NoSame s ps

unchanged : (f : Spot → Option ℕ) (ps : List (ℕ × Waiting)) (s : Spot) → NoSame s ps → newest_in f ps s ≡ f s
unchanged f [] s h = refl
unchanged f (p ∷ ps) s h = unchanged (newer f p) ps s h.1 ∙ ap (λ t. if t then Some p.0 else f s) h.0

-- the newest link of a waiter
pub record Spotted (ps : List (ℕ × Waiting)) (s : Spot) (k : ℕ) : Type 0 where
  pub front : List (ℕ × Waiting)
  pub here : Waiting
  pub back : List (ℕ × Waiting)
  pub whole : ps ≡ front ++ (k, here) ∷ back
  pub spot : here.spot ≡ s
  pub none : NoSame s back

locate : (f : Spot → Option ℕ) (ps : List (ℕ × Waiting)) (s : Spot) (k : ℕ) → newest_in f ps s ≡ Some k → Spotted ps s k ⊎ ((f s ≡ Some k) × NoSame s ps)
locate f [] s k e = inr (e, tt)
locate f (p ∷ ps) s k e = onward (locate (newer f p) ps s k e)
  where
    at_head : (t : Bool) → same_spot p.1.spot s ≡ t → newer f p s ≡ Some k → NoSame s ps → Spotted (p ∷ ps) s k ⊎ ((f s ≡ Some k) × NoSame s (p ∷ ps))
    at_head true g e none =
        let key : p.0 ≡ k = cc (rw g at e) in
        inl (record { front = []; here = p.1; back = ps; whole = ap (λ j. (j, p.1) ∷ ps) key; spot = spot_is _ _ g; none = none })
    at_head false g e none = inr (rw g at e, (g, none))

    onward : Spotted ps s k ⊎ ((newer f p s ≡ Some k) × NoSame s ps) → Spotted (p ∷ ps) s k ⊎ ((f s ≡ Some k) × NoSame s (p ∷ ps))
    onward (inl d) = inl (record { front = p ∷ d.front; here = d.here; back = d.back; whole = ap (λ qs. p ∷ qs) d.whole; spot = d.spot; none = d.none })
    onward (inr d) = at_head (same_spot p.1.spot s) refl d.0 d.1

-- that link gone
know_same : (f g : Spot → Option ℕ) (s : Spot) (ps : List (ℕ × Waiting)) → ((t : Spot) → same_spot s t ≡ false → g t ≡ f t) → NoSame s ps → KnowOlder f ps → KnowOlder g ps
know_same f g s [] same none h = tt
know_same f g s (p ∷ ps) same none h =
    (h.0 ∙ sym (same p.1.spot (other_way p.1.spot s none.0)), know_same (newer f p) (newer g p) s ps (λ t d. ap (λ o. if same_spot p.1.spot t then Some p.0 else o) (same t d)) none.1 h.1)

module _ (s : Spot) (k : ℕ) (here : Waiting) (back : List (ℕ × Waiting)) (is : here.spot ≡ s) (none : NoSame s back) where
  before : (f : Spot → Option ℕ) (t : Spot) → same_spot s t ≡ false → f t ≡ newer f (k, here) t
  before f t d = ap (λ b. if b then Some k else f t) (sym (ap (λ z. same_spot z t) is ∙ d))

  know_without : (f : Spot → Option ℕ) (front : List (ℕ × Waiting)) → KnowOlder f (front ++ (k, here) ∷ back) → KnowOlder f (front ++ back)
  know_without f [] h = know_same (newer f (k, here)) f s back (λ t d. before f t d) none h.1
  know_without f (p ∷ ps) h = (h.0, know_without (newer f p) ps h.1)

  newest_without : (f : Spot → Option ℕ) (front : List (ℕ × Waiting)) (t : Spot) → KnowOlder f (front ++ (k, here) ∷ back)
      → newest_in f (front ++ back) t ≡ (if same_spot s t then here.older else newest_in f (front ++ (k, here) ∷ back) t)
  newest_without f [] t h = at_spot (same_spot s t) refl
    where
      at_spot : (b : Bool) → same_spot s t ≡ b → newest_in f back t ≡ (if same_spot s t then here.older else newest_in (newer f (k, here)) back t)
      at_spot true g =
          let same : s ≡ t = spot_is s t g in
          rw g (ap (newest_in f back) (sym same) ∙ unchanged f back s none ∙ ap f (sym is) ∙ sym h.0)
      at_spot false g = rw g (passes f (newer f (k, here)) back t (before f t g))
  newest_without f (p ∷ ps) t h = newest_without (newer f p) ps t h.1

at_without : (n : ℕ) (front : List (ℕ × Waiting)) (p : ℕ × Waiting) (back : List (ℕ × Waiting)) → AreAt n (front ++ p ∷ back) → AreAt n (front ++ back)
at_without n [] p back h = h.1
at_without n (q ∷ qs) p back h = (h.0, at_without n qs p back h.1)

-- a link of another cell stands in no list of this one
apart_from : (at : Slots Waiting) (n : ℕ) (b : Option ℕ) (ps : List (ℕ × Waiting)) (a : Option ℕ) (k : ℕ) (l : Link Waiting) → IsChain at b ps a → AreAt n ps
    → at k ≡ Some l → l.item.spot.cell ≢ n → IsApart k ps
apart_from at n b [] a k l h here e other = tt
apart_from at n b (p ∷ ps) a k l h here e other = (differs (nat_eq p.0 k) refl, apart_from at n (Some p.0) ps a k l h.1 here.1 e other)
  where
    cell_of : (l m : Link Waiting) → at k ≡ Some l → at k ≡ Some m → l.item.spot.cell ≡ m.item.spot.cell
    cell_of l m x y = cc

    differs : (t : Bool) → nat_eq p.0 k ≡ t → t ≡ false
    differs false g = refl
    differs true g =
        let same : p.0 ≡ k = grind (arith, nat_tests) in
        absurd (other (cell_of l (record { item = p.1; before = b; after = first_of ps a }) e (ap at (sym same) ∙ h.0) ∙ here.0))

-- what the list tells
abbrev pub waiters_of : List (ℕ × Waiting) → List Waiter
waiters_of ps = map (λ p. waiter_of p.1) ps

-- the waiters alone
waiter_test : (n : ℕ) (p : Waiting) (s : Spot) → p.spot.cell ≡ n → s.cell ≡ n → same_waiter (waiter_of p) (spot_waiter s) ≡ same_spot p.spot s
waiter_test n p s x y =
    let same : nat_eq p.spot.cell s.cell ≡ true = grind (arith, nat_tests) in
    sym (ap (λ t. t && (nat_eq p.spot.actor s.actor && nat_eq p.spot.callback s.callback)) same)

no_waiter : (n : ℕ) (s : Spot) (ps : List (ℕ × Waiting)) → s.cell ≡ n → AreAt n ps → NoSame s ps → has_waiter (waiters_of ps) (spot_waiter s) ≡ false
no_waiter n s [] c h none = refl
no_waiter n s (p ∷ ps) c h none = ap₂ (λ a b. a || b) (waiter_test n p.1 s h.0 c ∙ none.0) (no_waiter n s ps c h.1 none.1)

has_here : (xs : List Waiter) (w : Waiter) (ys : List Waiter) → same_waiter w w ≡ true → has_waiter (xs ++ w ∷ ys) w ≡ true
has_here [] w ys e = ap (λ t. t || has_waiter ys w) e
has_here (x ∷ xs) w ys e = either (same_waiter x w) (has_here xs w ys e)
  where
    either : (b : Bool) → has_waiter (xs ++ w ∷ ys) w ≡ true → (b || has_waiter (xs ++ w ∷ ys) w) ≡ true
    either true h = refl
    either false h = h

without_last : (xs : List Waiter) (w : Waiter) (ys : List Waiter) → same_waiter w w ≡ true → has_waiter ys w ≡ false → without_newest (xs ++ w ∷ ys) w ≡ xs ++ ys
without_last [] w ys e none = rw (none, e) refl
without_last (x ∷ xs) w ys e none = rw (has_here xs w ys e) (ap (λ zs. x ∷ zs) (without_last xs w ys e none))

same_self : (w : Waiter) → same_waiter w w ≡ true
same_self w = rw (same_nat w.actor.0, same_nat w.callback) refl

waiters_append : (xs ys : List (ℕ × Waiting)) → waiters_of (xs ++ ys) ≡ waiters_of xs ++ waiters_of ys
waiters_append [] ys = refl
waiters_append (x ∷ xs) ys = ap (λ ws. waiter_of x.1 ∷ ws) (waiters_append xs ys)

at_back : (n : ℕ) (front back : List (ℕ × Waiting)) → AreAt n (front ++ back) → AreAt n back
at_back n [] back h = h
at_back n (q ∷ qs) back h = at_back n qs back h.1

without_here : (n : ℕ) (s : Spot) (front : List (ℕ × Waiting)) (k : ℕ) (here : Waiting) (back : List (ℕ × Waiting)) → here.spot ≡ s → NoSame s back → s.cell ≡ n
    → AreAt n (front ++ (k, here) ∷ back) → without_newest (waiters_of (front ++ (k, here) ∷ back)) (spot_waiter s) ≡ waiters_of (front ++ back)
without_here n s front k here back is none c h =
    let w : Waiter = spot_waiter s in
    let this : waiter_of here ≡ w = ap (λ (t : Spot). spot_waiter t) is in
    let rest = at_back n front ((k, here) ∷ back) h in
    ap (λ ws. without_newest ws w) (waiters_append front ((k, here) ∷ back) ∙ ap (λ v. waiters_of front ++ v ∷ waiters_of back) this)
    ∙ without_last (waiters_of front) w (waiters_of back) (same_self w) (no_waiter n s back c rest.1 none) ∙ sym (waiters_append front back)

kept_newest : (f : Spot → Option ℕ) (ps : List (ℕ × Waiting)) (s : Spot) (j : ℕ) → f s ≡ Some j → (k : ℕ) × (newest_in f ps s ≡ Some k)
kept_newest f [] s j e = (j, e)
kept_newest f (p ∷ ps) s j e = at_head (same_spot p.1.spot s) refl (kept_newest (newer f p) ps s)
  where
    at_head : (t : Bool) → same_spot p.1.spot s ≡ t → ((i : ℕ) → newer f p s ≡ Some i → (k : ℕ) × (newest_in (newer f p) ps s ≡ Some k)) → (k : ℕ) × (newest_in (newer f p) ps s ≡ Some k)
    at_head true g rest = rest p.0 (rw g refl)
    at_head false g rest = rest j (rw g e)

some_newest : (n : ℕ) (s : Spot) (f : Spot → Option ℕ) (ps : List (ℕ × Waiting)) → s.cell ≡ n → AreAt n ps → has_waiter (waiters_of ps) (spot_waiter s) ≡ true
    → (k : ℕ) × (newest_in f ps s ≡ Some k)
some_newest n s f [] c h e = absurd (cc)
some_newest n s f (p ∷ ps) c h e = at_head (same_spot p.1.spot s) refl (λ x. some_newest n s (newer f p) ps c h.1 x)
  where
    at_head : (t : Bool) → same_spot p.1.spot s ≡ t → (has_waiter (waiters_of ps) (spot_waiter s) ≡ true → (k : ℕ) × (newest_in (newer f p) ps s ≡ Some k))
        → (k : ℕ) × (newest_in (newer f p) ps s ≡ Some k)
    at_head true g rest = kept_newest (newer f p) ps s p.0 (rw g refl)
    at_head false g rest = rest (sym (ap (λ t. t || has_waiter (waiters_of ps) (spot_waiter s)) (waiter_test n p.1 s h.0 c ∙ g)) ∙ e)

queue_read : (at : Slots Waiting) (e : Ends) (ps : List (ℕ × Waiting)) → IsList at e ps → waiters_in at e ≡ waiters_of ps
queue_read at e ps h = ap (map waiter_of) (ap₂ (λ n k. walk at n k) h.length_is h.first ∙ walked_far at None ps (length ps) (omega arith) h.chain) ∙ twice ps
  where
    twice : (qs : List (ℕ × Waiting)) → map waiter_of (map (λ p. p.1) qs) ≡ map (λ p. waiter_of p.1) qs
    twice [] = refl
    twice (q ∷ qs) = ap (λ ws. waiter_of q.1 ∷ ws) (twice qs)

-- a list that nothing was written to
list_same : (at new : Slots Waiting) (e : Ends) (ps : List (ℕ × Waiting)) → IsList at e ps → ((k : ℕ) → new k ≡ at k) → IsList new e ps
list_same at new e ps h same =
    record { chain = agreed at new None ps None (agree_all at new ps same) h.chain; apart = h.apart; first = h.first; last = h.last; length_is = h.length_is }

-- the list of another cell than the one that was written to
module _ (at new : Slots Waiting) (n m : ℕ) (e : Ends) (ps : List (ℕ × Waiting)) (h : IsList at e ps) (here : AreAt m ps) (other : m ≢ n)
    (elsewhere : (k : ℕ) (l : Link Waiting) → at k ≡ Some l → l.item.spot.cell ≢ n → new k ≡ at k) where
  chain_elsewhere : (b : Option ℕ) (qs : List (ℕ × Waiting)) (a : Option ℕ) → AreAt m qs → IsChain at b qs a → IsChain new b qs a
  chain_elsewhere b [] a t c = tt
  chain_elsewhere b (q ∷ qs) a t c =
      (elsewhere q.0 _ c.0 (λ is. other (sym t.0 ∙ is)) ∙ c.0, chain_elsewhere (Some q.0) qs a t.1 c.1)

  list_elsewhere : IsList new e ps
  list_elsewhere = record { chain = chain_elsewhere None ps None here h.chain; apart = h.apart; first = h.first; last = h.last; length_is = h.length_is }

-- without cells
pub no_queues : (ends : ℕ → Option Ends) (at : Slots Waiting) (newest : Spot → Option ℕ) → ((n : ℕ) → ends n ≡ None) → ((s : Spot) → newest s ≡ None) → AreQueues ends at newest
no_queues ends at newest none nobody = record { each = λ n e is. no_end n e (none n) is; none = λ s is. nobody s }
  where
    no_end : (n : ℕ) (e : Ends) → ends n ≡ None → ends n ≡ Some e → IsQueue at newest n e
    no_end n e x y = absurd (cc (x, y))

module _ (ends : ℕ → Option Ends) (at : Slots Waiting) (newest : Spot → Option ℕ) (h : AreQueues ends at newest) where
  -- nothing changes
  pub same_queues : (new_ends : ℕ → Option Ends) (new_at : Slots Waiting) (new_newest : Spot → Option ℕ) → ((n : ℕ) → new_ends n ≡ ends n)
      → ((k : ℕ) → new_at k ≡ at k) → ((s : Spot) → new_newest s ≡ newest s) → AreQueues new_ends new_at new_newest
  same_queues new_ends new_at new_newest same_ends same_at same_newest = record {
    each = λ n e is. let q = h.each n e (sym (same_ends n) ∙ is) in
        record { list = q.list; linked = list_same at new_at e q.list q.linked same_at; here = q.here; known = q.known; newest_is = λ s c. same_newest s ∙ q.newest_is s c };
    none = λ s is. same_newest s ∙ h.none s (sym (same_ends s.cell) ∙ is);
  }

  pub same_waiters : (new_at : Slots Waiting) (n : ℕ) (e : Ends) → ends n ≡ Some e → ((k : ℕ) → new_at k ≡ at k) → waiters_in new_at e ≡ waiters_in at e
  same_waiters new_at n e is same_at =
      let q = h.each n e is in
      queue_read new_at e q.list (list_same at new_at e q.list q.linked same_at) ∙ sym (queue_read at e q.list q.linked)

  -- a cell more
  pub made_queues : (new_ends : ℕ → Option Ends) (n : ℕ) → ends n ≡ None → ((m : ℕ) → new_ends m ≡ (if nat_eq m n then Some no_links else ends m))
      → AreQueues new_ends at newest
  made_queues new_ends n absent tells = record {
    each = λ m e is. at_cell m e (nat_eq m n) refl (sym (tells m) ∙ is);
    none = λ s is. none_at s (nat_eq s.cell n) refl (sym (tells s.cell) ∙ is);
  }
    where
      at_cell : (m : ℕ) (e : Ends) (t : Bool) → nat_eq m n ≡ t → (if nat_eq m n then Some no_links else ends m) ≡ Some e → IsQueue at newest m e
      at_cell m e true g is =
          let same : m ≡ n = grind (arith, nat_tests) in
          let empty : no_links ≡ e = cc (rw g at is) in
          subst (IsQueue at newest m) empty (record {
            list = [];
            linked = record { chain = tt; apart = tt; first = refl; last = refl; length_is = refl };
            here = tt;
            known = tt;
            newest_is = λ s c. h.none s (ap ends (c ∙ same) ∙ absent);
          })
      at_cell m e false g is = h.each m e (rw g at is)

      none_at : (s : Spot) (t : Bool) → nat_eq s.cell n ≡ t → (if nat_eq s.cell n then Some no_links else ends s.cell) ≡ None → newest s ≡ None
      none_at s true g is = let bad = rw g at is in absurd (cc)
      none_at s false g is = h.none s (rw g at is)

  -- a cell at which nobody waits less
  pub gone_queues : (new_ends : ℕ → Option Ends) (n : ℕ) (e : Ends) → ends n ≡ Some e → waiters_in at e ≡ [] → ((m : ℕ) → new_ends m ≡ (if nat_eq m n then None else ends m))
      → AreQueues new_ends at newest
  gone_queues new_ends n e there nobody tells = record {
    each = λ m d is. at_cell m d (nat_eq m n) refl (sym (tells m) ∙ is);
    none = λ s is. none_at s (nat_eq s.cell n) refl (sym (tells s.cell) ∙ is);
  }
    where
      at_cell : (m : ℕ) (d : Ends) (t : Bool) → nat_eq m n ≡ t → (if nat_eq m n then None else ends m) ≡ Some d → IsQueue at newest m d
      at_cell m d true g is = let bad = rw g at is in absurd (cc)
      at_cell m d false g is = h.each m d (rw g at is)

      no_link : (qs : List (ℕ × Waiting)) → waiters_of qs ≡ [] → qs ≡ []
      no_link [] x = refl
      no_link (q ∷ qs) x = absurd (cc)

      none_at : (s : Spot) (t : Bool) → nat_eq s.cell n ≡ t → (if nat_eq s.cell n then None else ends s.cell) ≡ None → newest s ≡ None
      none_at s true g is =
          let same : s.cell ≡ n = grind (arith, nat_tests) in
          let q = h.each n e there in
          let empty = no_link q.list (sym (queue_read at e q.list q.linked) ∙ nobody) in
          q.newest_is s same ∙ ap (λ qs. newest_in nowhere qs s) empty
      none_at s false g is = h.none s (rw g at is)

  -- a waiter more
  module _ (n key : ℕ) (e : Ends) (spot : Spot) (new_ends : ℕ → Option Ends) (new_at : Slots Waiting) (new_newest : Spot → Option ℕ)
      (there : ends n ≡ Some e) (is_here : spot.cell ≡ n) (vacant : at key ≡ None)
      (writes : (k : ℕ) → new_at k ≡ pushed at e.last key (record { spot = spot; older = newest spot }) k)
      (tells : (m : ℕ) → new_ends m ≡ (if nat_eq m n then Some (longer e key) else ends m))
      (notes : (s : Spot) → new_newest s ≡ (if same_spot spot s then Some key else newest s)) where
    abbrev item : Waiting
    item = record { spot = spot; older = newest spot }

    abbrev q : IsQueue at newest n e
    q = h.each n e there

    more_list : IsList new_at (longer e key) (q.list ++ (key, item) ∷ [])
    more_list = pushed_list at new_at e q.list key item q.linked vacant writes

    elsewhere : (k : ℕ) (l : Link Waiting) → at k ≡ Some l → l.item.spot.cell ≢ n → new_at k ≡ at k
    elsewhere k l is other =
        let off = apart_from at n None q.list None k l q.linked.chain q.here is other in
        let apart : nat_eq k key ≡ false = not_vacant (nat_eq k key) refl in
        writes k ∙ ap (λ o. pushed at o key item k) q.linked.last ∙ pushed_elsewhere at q.list key item k apart off
      where
        not_vacant : (t : Bool) → nat_eq k key ≡ t → t ≡ false
        not_vacant false g = refl
        not_vacant true g = let same : k ≡ key = grind (arith, nat_tests) in absurd (cc (ap at same, is, vacant))

    pub joined_queues : AreQueues new_ends new_at new_newest
    joined_queues = record {
      each = λ m d is. at_cell m d (nat_eq m n) refl (sym (tells m) ∙ is);
      none = λ s is. none_at s (nat_eq s.cell n) refl (sym (tells s.cell) ∙ is);
    }
      where
        at_cell : (m : ℕ) (d : Ends) (t : Bool) → nat_eq m n ≡ t → (if nat_eq m n then Some (longer e key) else ends m) ≡ Some d → IsQueue new_at new_newest m d
        at_cell m d true g is =
            let same : n ≡ m = grind (arith, nat_tests) in
            let grown : longer e key ≡ d = cc (rw g at is) in
            subst (λ j. IsQueue new_at new_newest j d) same (subst (IsQueue new_at new_newest n) grown (record {
              list = q.list ++ (key, item) ∷ [];
              linked = more_list;
              here = at_more n q.list (key, item) q.here is_here;
              known = know_more nowhere q.list (key, item) q.known (q.newest_is spot is_here);
              newest_is = λ s c. notes s ∙ ap (λ o. if same_spot spot s then Some key else o) (q.newest_is s c) ∙ sym (newest_more nowhere q.list (key, item) s);
            }))
        at_cell m d false g is =
            let r = h.each m d (rw g at is) in
            let other : m ≢ n = grind (arith, nat_tests) in
            record {
              list = r.list;
              linked = list_elsewhere at new_at n m d r.list r.linked r.here other elsewhere;
              here = r.here;
              known = r.known;
              newest_is = λ s c. notes s ∙ ap (λ t. if t then Some key else newest s) (other_cell spot s (λ x. other (sym c ∙ sym x ∙ is_here))) ∙ r.newest_is s c;
            }

        none_at : (s : Spot) (t : Bool) → nat_eq s.cell n ≡ t → (if nat_eq s.cell n then Some (longer e key) else ends s.cell) ≡ None → new_newest s ≡ None
        none_at s true g is = let bad = rw g at is in absurd (cc)
        none_at s false g is =
            let other : s.cell ≢ n = grind (arith, nat_tests) in
            notes s ∙ ap (λ t. if t then Some key else newest s) (other_cell spot s (λ x. other (sym x ∙ is_here))) ∙ h.none s (rw g at is)

    pub joined_waiters : waiters_in new_at (longer e key) ≡ waiters_in at e ++ waiter_of item ∷ []
    joined_waiters = queue_read new_at (longer e key) _ more_list ∙ one_more q.list ∙ ap (λ ws. ws ++ waiter_of item ∷ []) (sym (queue_read at e q.list q.linked))
      where
        one_more : (qs : List (ℕ × Waiting)) → waiters_of (qs ++ (key, item) ∷ []) ≡ waiters_of qs ++ waiter_of item ∷ []
        one_more [] = refl
        one_more (r ∷ rs) = ap (λ ws. waiter_of r.1 ∷ ws) (one_more rs)

    pub joined_others : (m : ℕ) (d : Ends) → ends m ≡ Some d → m ≢ n → waiters_in new_at d ≡ waiters_in at d
    joined_others m d is other =
        let r = h.each m d is in
        queue_read new_at d r.list (list_elsewhere at new_at n m d r.list r.linked r.here other elsewhere) ∙ sym (queue_read at d r.list r.linked)

  -- a waiter's newest link less
  module _ (n key : ℕ) (e : Ends) (l : Link Waiting) (spot : Spot) (new_ends : ℕ → Option Ends) (new_at : Slots Waiting) (new_newest : Spot → Option ℕ)
      (there : ends n ≡ Some e) (is_here : spot.cell ≡ n) (told : newest spot ≡ Some key) (stands : at key ≡ Some l)
      (writes : (k : ℕ) → new_at k ≡ unlinked at l key k)
      (tells : (m : ℕ) → new_ends m ≡ (if nat_eq m n then Some (shorter e l) else ends m))
      (notes : (s : Spot) → new_newest s ≡ (if same_spot spot s then l.item.older else newest s)) where
    abbrev p : IsQueue at newest n e
    p = h.each n e there

    spotted : Spotted p.list spot key
    spotted = by_case (locate nowhere p.list spot key (sym (p.newest_is spot is_here) ∙ told))
      where
        by_case : Spotted p.list spot key ⊎ ((nowhere spot ≡ Some key) × NoSame spot p.list) → Spotted p.list spot key
        by_case (inl d) = d
        by_case (inr d) = absurd (cc (d.0))

    abbrev left : List (ℕ × Waiting)
    left = spotted.front ++ spotted.back

    whole_list : IsList at e (spotted.front ++ (key, spotted.here) ∷ spotted.back)
    whole_list = subst (IsList at e) spotted.whole p.linked

    less_list : IsList new_at (shorter e l) left
    less_list = unlinked_list at new_at e spotted.front (key, spotted.here) spotted.back l whole_list stands writes

    whole_known : KnowOlder nowhere (spotted.front ++ (key, spotted.here) ∷ spotted.back)
    whole_known = subst (KnowOlder nowhere) spotted.whole p.known

    item_is : l.item ≡ spotted.here
    item_is = the_item l _ stands (back_of at None spotted.front ((key, spotted.here) ∷ spotted.back) None whole_list.chain).0
      where
        the_item : (l m : Link Waiting) → at key ≡ Some l → at key ≡ Some m → l.item ≡ m.item
        the_item l m x y = cc

    gone_elsewhere : (k : ℕ) (m : Link Waiting) → at k ≡ Some m → m.item.spot.cell ≢ n → new_at k ≡ at k
    gone_elsewhere k m is other =
        let off = apart_from at n None p.list None k m p.linked.chain p.here is other in
        writes k ∙ unlinked_elsewhere at spotted.front (key, spotted.here) spotted.back l k whole_list.chain stands (subst (IsApart k) spotted.whole off)

    pub left_queues : AreQueues new_ends new_at new_newest
    left_queues = record {
      each = λ m d is. at_cell m d (nat_eq m n) refl (sym (tells m) ∙ is);
      none = λ s is. none_at s (nat_eq s.cell n) refl (sym (tells s.cell) ∙ is);
    }
      where
        at_cell : (m : ℕ) (d : Ends) (t : Bool) → nat_eq m n ≡ t → (if nat_eq m n then Some (shorter e l) else ends m) ≡ Some d → IsQueue new_at new_newest m d
        at_cell m d true g is =
            let same : n ≡ m = grind (arith, nat_tests) in
            let shrunk : shorter e l ≡ d = cc (rw g at is) in
            subst (λ j. IsQueue new_at new_newest j d) same (subst (IsQueue new_at new_newest n) shrunk (record {
              list = left;
              linked = less_list;
              here = at_without n spotted.front (key, spotted.here) spotted.back (subst (AreAt n) spotted.whole p.here);
              known = know_without spot key spotted.here spotted.back spotted.spot spotted.none nowhere spotted.front whole_known;
              newest_is = λ s c. notes s ∙ ap₂ (λ o w. if same_spot spot s then o else w) (ap (λ (i : Waiting). i.older) item_is) (p.newest_is s c ∙ ap (λ qs. newest_in nowhere qs s) spotted.whole)
                  ∙ sym (newest_without spot key spotted.here spotted.back spotted.spot spotted.none nowhere spotted.front s whole_known);
            }))
        at_cell m d false g is =
            let r = h.each m d (rw g at is) in
            let other : m ≢ n = grind (arith, nat_tests) in
            record {
              list = r.list;
              linked = list_elsewhere at new_at n m d r.list r.linked r.here other gone_elsewhere;
              here = r.here;
              known = r.known;
              newest_is = λ s c. notes s ∙ ap (λ t. if t then l.item.older else newest s) (other_cell spot s (λ x. other (sym c ∙ sym x ∙ is_here))) ∙ r.newest_is s c;
            }

        none_at : (s : Spot) (t : Bool) → nat_eq s.cell n ≡ t → (if nat_eq s.cell n then Some (shorter e l) else ends s.cell) ≡ None → new_newest s ≡ None
        none_at s true g is = let bad = rw g at is in absurd (cc)
        none_at s false g is =
            let other : s.cell ≢ n = grind (arith, nat_tests) in
            notes s ∙ ap (λ t. if t then l.item.older else newest s) (other_cell spot s (λ x. other (sym x ∙ is_here))) ∙ h.none s (rw g at is)

    pub left_others : (m : ℕ) (d : Ends) → ends m ≡ Some d → m ≢ n → waiters_in new_at d ≡ waiters_in at d
    left_others m d is other =
        let r = h.each m d is in
        queue_read new_at d r.list (list_elsewhere at new_at n m d r.list r.linked r.here other gone_elsewhere) ∙ sym (queue_read at d r.list r.linked)

    pub left_waiters : waiters_in new_at (shorter e l) ≡ without_newest (waiters_in at e) (spot_waiter spot)
    left_waiters =
        let w : Waiter = spot_waiter spot in
        let whole_here = subst (AreAt n) spotted.whole p.here in
        queue_read new_at (shorter e l) _ less_list ∙ sym (without_here n spot spotted.front key spotted.here spotted.back spotted.spot spotted.none is_here whole_here)
        ∙ ap (λ ws. without_newest ws w) (ap waiters_of (sym spotted.whole) ∙ sym (queue_read at e p.list p.linked))

  -- a waiter that is there has a link
  pub key_there : (n : ℕ) (e : Ends) (spot : Spot) → ends n ≡ Some e → spot.cell ≡ n → has_waiter (waiters_in at e) (spot_waiter spot) ≡ true
      → (k : ℕ) × (newest spot ≡ Some k) × ((l : Link Waiting) × (at k ≡ Some l))
  key_there n e spot there is_here waits =
      let q = h.each n e there in
      let found = some_newest n spot nowhere q.list is_here q.here (sym (ap (λ ws. has_waiter ws (spot_waiter spot)) (queue_read at e q.list q.linked)) ∙ waits) in
      let told = q.newest_is spot is_here ∙ found.1 in
      (found.0, told, link_of found.0 q (locate nowhere q.list spot found.0 found.1))
    where
      link_of : (k : ℕ) (q : IsQueue at newest n e) → Spotted q.list spot k ⊎ ((nowhere spot ≡ Some k) × NoSame spot q.list) → (l : Link Waiting) × (at k ≡ Some l)
      link_of k q (inl d) = (_, (back_of at None d.front ((k, d.here) ∷ d.back) None (subst (λ ps. IsChain at None ps None) d.whole q.linked.chain)).0)
      link_of k q (inr d) = absurd (cc (d.0))

  -- the map knows who waits
  pub told_waits : (n : ℕ) (e : Ends) (spot : Spot) → ends n ≡ Some e → spot.cell ≡ n → is_some (newest spot) ≡ has_waiter (waiters_in at e) (spot_waiter spot)
  told_waits n e spot there is_here = by_case (newest spot) refl (has_waiter (waiters_in at e) (spot_waiter spot)) refl
    where
      q : IsQueue at newest n e
      q = h.each n e there

      found : (k : ℕ) → Spotted q.list spot k ⊎ ((nowhere spot ≡ Some k) × NoSame spot q.list) → has_waiter (waiters_in at e) (spot_waiter spot) ≡ true
      found k (inl d) =
          let w : Waiter = spot_waiter spot in
          ap (λ ws. has_waiter ws w) (queue_read at e q.list q.linked ∙ ap waiters_of d.whole ∙ waiters_append d.front ((k, d.here) ∷ d.back))
          ∙ ap (λ s. has_waiter (waiters_of d.front ++ spot_waiter s ∷ waiters_of d.back) w) d.spot ∙ has_here (waiters_of d.front) w (waiters_of d.back) (same_self w)
      found k (inr d) = absurd (cc (d.0))

      by_case : (o : Option ℕ) → newest spot ≡ o → (b : Bool) → has_waiter (waiters_in at e) (spot_waiter spot) ≡ b → is_some o ≡ b
      by_case None x false y = refl
      by_case None x true y = let link = key_there n e spot there is_here y in absurd (cc (x, link.1))
      by_case (Some k) x true y = refl
      by_case (Some k) x false y = let is = found k (locate nowhere q.list spot k (sym (q.newest_is spot is_here) ∙ x)) in absurd (cc (is, y))

  -- nobody waits where there is no cell
  pub told_nobody : (spot : Spot) → ends spot.cell ≡ None → is_some (newest spot) ≡ false
  told_nobody spot e = ap is_some (h.none spot e)
