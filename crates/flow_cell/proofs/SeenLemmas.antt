-- Cells seen as plain data: what a change of one cell makes of what is seen.
use Rattle.std.proofs.Common.{◌≡◌, ◌≢◌, ℕ, ◌<◌, nat_eq, nat_lt, Bool, true, false, [], ◌∷◌, Option, Some, None, IsSome, refl, sym, ap, ap₂, ◌∙◌, arith, if◌then◌else◌}
use Rattle.std.proofs.lemmas.Bool.Decides.{nat_tests}
use Rattle.flow_numbered.specs.declared.links.Ends.{Ends}
use Rattle.flow_numbered.specs.Links.{Slots}
use Rattle.flow_numbered.specs.Numbered.{Numbered, thing, added, put, removed, next_above, with_thing, IsRising}
use Rattle.flow_numbered.proofs.Things.{put_same, above, nothing_above, thing_put, thing_added, thing_removed}
use Rattle.flow_cell.specs.Cells.{CellTree}
use Rattle.flow_cell.specs.Waiting.{waiters_in}
use Rattle.flow_cell.specs.Lines.{list_ends, waiters_at}
use Rattle.flow_cell.specs.declared.waiters.Waiters.{Waiters}
use Rattle.flow_cell.specs.declared.waiters.Waiters.TheVariants.{Nobody, One, Listed}
use Rattle.flow_cell.specs.Seen.{tree, seen, ends_of, ends_in}
use Rattle.flow_cell.specs.declared.queue.Waiting.{Waiting}
use Rattle.flow_cell.specs.declared.cell.Cell.{Cell}

module _ {T : Type 0} (at : Slots Waiting) where
  abbrev pub tree_of : Option (Cell T) → Option (CellTree T)
  tree_of None = None
  tree_of (Some c) = Some (tree at c)

  pub thing_seen : (xs : Numbered (Cell T)) (n : ℕ) → thing (seen at xs) n ≡ tree_of (thing xs n)
  thing_seen [] n = refl
  thing_seen (x ∷ xs) n = at_head (nat_eq n x.0) (thing_seen xs n)
    where
      at_head : (t : Bool) → thing (seen at xs) n ≡ tree_of (thing xs n)
          → (if t then Some (tree at x.1) else thing (seen at xs) n) ≡ tree_of (if t then Some x.1 else thing xs n)
      at_head true rest = refl
      at_head false rest = rest

  -- a cell that is seen is there
  pub cell_there : (xs : Numbered (Cell T)) (n : ℕ) → IsSome (thing (seen at xs) n) → IsSome (thing xs n)
  cell_there xs n there = by_case (thing xs n) refl
    where
      by_case : (o : Option (Cell T)) → thing xs n ≡ o → IsSome (thing xs n)
      by_case None e = let bad = rw (thing_seen xs n ∙ ap tree_of e) at there in absurd (cc)
      by_case (Some c) e = rw e refl

  pub seen_is : (xs : Numbered (Cell T)) (n : ℕ) (c : Cell T) → thing xs n ≡ Some c → thing (seen at xs) n ≡ Some (tree at c)
  seen_is xs n c e = thing_seen xs n ∙ ap tree_of e

  pub the_cell : (xs : Numbered (Cell T)) (n : ℕ) (c : Cell T) (x : CellTree T) → thing xs n ≡ Some c → thing (seen at xs) n ≡ Some x → x ≡ tree at c
  the_cell xs n c x e is = let told = seen_is xs n c e in cc (told, is)

  pub seen_above : (xs : Numbered (Cell T)) (n : ℕ) → next_above (seen at xs) n ≡ next_above xs n
  seen_above [] n = refl
  seen_above (x ∷ xs) n = ap (λ o. if nat_lt n x.0 then Some x.0 else o) (seen_above xs n)

  pub seen_added : (xs : Numbered (Cell T)) (n : ℕ) (c : Cell T) → seen at (added xs n c) ≡ added (seen at xs) n (tree at c)
  seen_added [] n c = refl
  seen_added (x ∷ xs) n c = ap (λ ys. (x.0, tree at x.1) ∷ ys) (seen_added xs n c)

  pub seen_removed : (xs : Numbered (Cell T)) (n : ℕ) → seen at (removed xs n) ≡ removed (seen at xs) n
  seen_removed [] n = refl
  seen_removed (x ∷ xs) n = at_head (nat_eq n x.0) (seen_removed xs n)
    where
      at_head : (t : Bool) → seen at (removed xs n) ≡ removed (seen at xs) n
          → seen at (if t then xs else x ∷ removed xs n) ≡ (if t then seen at xs else (x.0, tree at x.1) ∷ removed (seen at xs) n)
      at_head true rest = refl
      at_head false rest = ap (λ ys. (x.0, tree at x.1) ∷ ys) rest

-- the waiters of the other cells stay
module _ {T : Type 0} (at new : Slots Waiting) where
  abbrev pub Stays : Cell T → Type 0
  Stays d = waiters_at new d.waiters ≡ waiters_at at d.waiters

  tree_stays : (d : Cell T) → Stays d → tree new d ≡ tree at d
  tree_stays d e = ap (λ ws. record { content = d.content; references = d.references; waiters = ws }) e

  -- what stands in the rest of a list stands in the list
  in_rest : (x : ℕ × Cell T) (xs : Numbered (Cell T)) (most m : ℕ) (d : Cell T) → IsRising x.0 xs most → thing xs m ≡ Some d → thing (x ∷ xs) m ≡ Some d
  in_rest x xs most m d h e =
      let r = above x.0 xs most m d h e in
      let other : nat_eq m x.0 ≡ false = grind (arith, nat_tests, r.0) in rw other e

  at_first : (x : ℕ × Cell T) (xs : Numbered (Cell T)) → thing (x ∷ xs) x.0 ≡ Some x.1
  at_first x xs = let same : nat_eq x.0 x.0 ≡ true = grind (arith, nat_tests) in rw same refl

  seen_stays : (low : ℕ) (xs : Numbered (Cell T)) (most : ℕ) → IsRising low xs most → ((m : ℕ) (d : Cell T) → thing xs m ≡ Some d → Stays d) → seen new xs ≡ seen at xs
  seen_stays low [] most h stays = refl
  seen_stays low (x ∷ xs) most h stays =
      ap₂ (λ t ys. (x.0, t) ∷ ys) (tree_stays x.1 (stays x.0 x.1 (at_first x xs)))
      (seen_stays x.0 xs most h.1 (λ m d e. stays m d (in_rest x xs most m d h.1 e)))

  -- one cell changes
  pub seen_changed : (low : ℕ) (xs : Numbered (Cell T)) (most n : ℕ) (c : Cell T) → IsRising low xs most
      → ((m : ℕ) (d : Cell T) → thing xs m ≡ Some d → m ≢ n → Stays d) → seen new (put xs n c) ≡ put (seen at xs) n (tree new c)
  seen_changed low [] most n c h stays = refl
  seen_changed low (x ∷ xs) most n c h stays =
      at_head (nat_eq n x.0) refl (seen_changed x.0 xs most n c h.1 (λ m d e. stays m d (in_rest x xs most m d h.1 e)))
    where
      at_head : (t : Bool) → nat_eq n x.0 ≡ t → seen new (put xs n c) ≡ put (seen at xs) n (tree new c)
          → seen new (if t then (x.0, c) ∷ xs else x ∷ put xs n c) ≡ (if t then (x.0, tree new c) ∷ seen at xs else (x.0, tree at x.1) ∷ put (seen at xs) n (tree new c))
      at_head true g rest =
          let same : n ≡ x.0 = grind (arith, nat_tests) in
          let others : (m : ℕ) (d : Cell T) → thing xs m ≡ Some d → Stays d =
          λ m d e. let r = above x.0 xs most m d h.1 e in stays m d (in_rest x xs most m d h.1 e) (grind (arith, r.0)) in
          ap (λ ys. (x.0, tree new c) ∷ ys) (seen_stays x.0 xs most h.1 others)
      at_head false g rest =
          let other : x.0 ≢ n = grind (arith, nat_tests) in
          ap₂ (λ t ys. (x.0, t) ∷ ys) (tree_stays x.1 (stays x.0 x.1 (at_first x xs) other)) rest

  -- what is seen of all cells once one was written
  pub written : (xs : Numbered (Cell T)) (greatest n : ℕ) (old c : Cell T) (x : CellTree T) (f : CellTree T → CellTree T) → IsRising 0 xs greatest → thing xs n ≡ Some old
      → thing (seen at xs) n ≡ Some x → tree new c ≡ f (tree at old) → ((m : ℕ) (d : Cell T) → thing xs m ≡ Some d → m ≢ n → Stays d)
      → record { things = seen new (put xs n c); greatest = greatest } ≡ with_thing (record { things = seen at xs; greatest = greatest }) n (f x)
  written xs greatest n old c x f h e is change stays =
      ap (λ ys. record { things = ys; greatest = greatest }) (seen_changed 0 xs greatest n c h stays ∙ ap (put (seen at xs) n) (change ∙ ap f (sym (the_cell at xs n old x e is))))

  -- one was written, and nothing that is seen
  pub unwritten : (xs : Numbered (Cell T)) (greatest n : ℕ) (old c : Cell T) → IsRising 0 xs greatest → thing xs n ≡ Some old → tree new c ≡ tree at old
      → ((m : ℕ) (d : Cell T) → thing xs m ≡ Some d → m ≢ n → Stays d) → seen new (put xs n c) ≡ seen at xs
  unwritten xs greatest n old c h e same stays =
      seen_changed 0 xs greatest n c h stays ∙ ap (put (seen at xs) n) same ∙ put_same (seen at xs) n (tree at old) (seen_is at xs n old e)

-- waiters stay where those of the list do, and nobody waits where nobody is in it
waiters_stay : (at new : Slots Waiting) (ws : Waiters) → waiters_in new (list_ends ws) ≡ waiters_in at (list_ends ws) → waiters_at new ws ≡ waiters_at at ws
waiters_stay at new Nobody e = refl
waiters_stay at new (One w) e = refl
waiters_stay at new (Listed b) e = e

pub no_waiters : (at : Slots Waiting) (ws : Waiters) → waiters_at at ws ≡ [] → waiters_in at (list_ends ws) ≡ []
no_waiters at Nobody e = refl
no_waiters at (One w) e = refl
no_waiters at (Listed b) e = e

-- the ends of the lists of waiters
module _ {T : Type 0} where
  ends_if : (t : Bool) (c : Cell T) (o : Option (Cell T)) → ends_of (if t then Some c else o) ≡ (if t then Some (list_ends c.waiters) else ends_of o)
  ends_if true c o = refl
  ends_if false c o = refl

  none_if : (t : Bool) (o : Option (Cell T)) → ends_of (if t then None else o) ≡ (if t then None else ends_of o)
  none_if true o = refl
  none_if false o = refl

  pub ends_are : (xs : Numbered (Cell T)) (n : ℕ) (c : Cell T) → thing xs n ≡ Some c → ends_in xs n ≡ Some (list_ends c.waiters)
  ends_are xs n c e = ap ends_of e

  pub ends_put : (xs : Numbered (Cell T)) (n : ℕ) (old c : Cell T) (m : ℕ) → thing xs n ≡ Some old → ends_in (put xs n c) m ≡ (if nat_eq m n then Some (list_ends c.waiters) else ends_in xs m)
  ends_put xs n old c m e = ap ends_of (thing_put xs n old c m e) ∙ ends_if (nat_eq m n) c (thing xs m)

  -- a cell changes, and not its waiters
  pub ends_stay : (xs : Numbered (Cell T)) (n : ℕ) (old c : Cell T) (m : ℕ) → thing xs n ≡ Some old → list_ends c.waiters ≡ list_ends old.waiters → ends_in (put xs n c) m ≡ ends_in xs m
  ends_stay xs n old c m e same = ends_put xs n old c m e ∙ by_case (nat_eq m n) refl
    where
      by_case : (t : Bool) → nat_eq m n ≡ t → (if t then Some (list_ends c.waiters) else ends_in xs m) ≡ ends_in xs m
      by_case false g = refl
      by_case true g =
          let is : m ≡ n = grind (arith, nat_tests) in
          ap (λ w. Some w) same ∙ sym (ends_are xs n old e) ∙ sym (ap (ends_in xs) is)

  pub ends_added : (xs : Numbered (Cell T)) (most n : ℕ) (c : Cell T) (m : ℕ) → IsRising 0 xs most → most < n
      → ends_in (added xs n c) m ≡ (if nat_eq m n then Some (list_ends c.waiters) else ends_in xs m)
  ends_added xs most n c m h l = ap ends_of (thing_added 0 xs most n c m h l) ∙ ends_if (nat_eq m n) c (thing xs m)

  pub no_ends : (xs : Numbered (Cell T)) (most n : ℕ) → IsRising 0 xs most → most < n → ends_in xs n ≡ None
  no_ends xs most n h l = ap ends_of (nothing_above 0 xs most n h l)

  pub ends_removed : (xs : Numbered (Cell T)) (most n m : ℕ) → IsRising 0 xs most → ends_in (removed xs n) m ≡ (if nat_eq m n then None else ends_in xs m)
  ends_removed xs most n m h = ap ends_of (thing_removed 0 xs most n m h) ∙ none_if (nat_eq m n) (thing xs m)

  pub stays_by_ends : (at new : Slots Waiting) (xs : Numbered (Cell T)) (n : ℕ) → ((m : ℕ) (d : Ends) → ends_in xs m ≡ Some d → m ≢ n → waiters_in new d ≡ waiters_in at d)
      → (m : ℕ) (d : Cell T) → thing xs m ≡ Some d → m ≢ n → waiters_at new d.waiters ≡ waiters_at at d.waiters
  stays_by_ends at new xs n keeps m d e other = waiters_stay at new d.waiters (keeps m (list_ends d.waiters) (ends_are xs m d e) other)
