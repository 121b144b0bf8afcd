-- How the waiters of a cell change.
use Rattle.std.proofs.Common.{◌≡◌, ◌≢◌, ℕ, nat_eq, Bool, true, false, List, [], ◌∷◌, ◌++◌, Option, Some, None, refl, sym, ap, ◌∙◌, arith, if◌then◌else◌}
use Rattle.std.proofs.lemmas.Bool.Decides.{nat_tests}
use Rattle.flow_numbered.specs.declared.links.Link.{Link}
use Rattle.flow_numbered.specs.declared.links.Ends.{Ends}
use Rattle.flow_numbered.specs.Links.{Slots, longer, pushed, unlinked, shorter}
use Rattle.flow_cell.specs.declared.waiter.Waiter.{Waiter}
use Rattle.flow_cell.specs.declared.queue.Spot.{Spot}
use Rattle.flow_cell.specs.declared.queue.Waiting.{Waiting}
use Rattle.flow_cell.specs.Waiting.{same_spot, spot_waiter, waiters_in, without_newest, AreQueues}
use Rattle.flow_cell.specs.Lines.{Line, AreEnds, Becomes}
use Rattle.flow_cell.proofs.Queues.{same_queues, same_waiters, joined_queues, joined_waiters, joined_others, left_queues, left_waiters, left_others}

-- the ends of all lists, once those of one cell's changed
abbrev pub with_ends : ℕ → Ends → (ℕ → Option Ends) → ℕ → Option Ends
with_ends n e ends m = if nat_eq m n then Some e else ends m

same_ends : (n : ℕ) (e : Ends) (ends : ℕ → Option Ends) → ends n ≡ Some e → (m : ℕ) → with_ends n e ends m ≡ ends m
same_ends n e ends here m = by_case (nat_eq m n) refl
  where
    by_case : (t : Bool) → nat_eq m n ≡ t → with_ends n e ends m ≡ ends m
    by_case false g = rw g refl
    by_case true g = let same : m ≡ n = grind (arith, nat_tests) in rw g (sym (ap ends same ∙ here))

-- nothing changes
module _ (n : ℕ) (a b : Line) (ends_same : b.ends ≡ a.ends) (at_same : (k : ℕ) → b.at k ≡ a.at k) (newest_same : (s : Spot) → b.newest s ≡ a.newest s) where
  still : (ends new : ℕ → Option Ends) → AreEnds n a ends → ((m : ℕ) → new m ≡ with_ends n b.ends ends m) → AreQueues new b.at b.newest
  still ends new are tells =
      same_queues ends a.at a.newest are.queues new b.at b.newest
      (λ m. tells m ∙ ap (λ e. with_ends n e ends m) ends_same ∙ same_ends n a.ends ends are.here m) at_same newest_same

  others_still : (ends : ℕ → Option Ends) → AreEnds n a ends → (m : ℕ) (d : Ends) → ends m ≡ Some d → m ≢ n → waiters_in b.at d ≡ waiters_in a.at d
  others_still ends are m d is other = same_waiters ends a.at a.newest are.queues b.at m d is at_same

  pub becomes_same : b.waiters ≡ a.waiters → Becomes n (λ ws. ws) a b
  becomes_same same = record { queues = still; told = λ ends are. same; others = others_still }

-- the same, where the waiters stand in a list
pub list_same : (n : ℕ) (at new_at : Slots Waiting) (newest new_newest : Spot → Option ℕ) (e d : Ends) → d ≡ e → ((k : ℕ) → new_at k ≡ at k) → ((s : Spot) → new_newest s ≡ newest s)
    → Becomes n (λ ws. ws) (record { at = at; newest = newest; ends = e; waiters = waiters_in at e }) (record { at = new_at; newest = new_newest; ends = d; waiters = waiters_in new_at d })
list_same n at new_at newest new_newest e d ends_same at_same newest_same =
    let a : Line = record { at = at; newest = newest; ends = e; waiters = waiters_in at e } in
    let b : Line = record { at = new_at; newest = new_newest; ends = d; waiters = waiters_in new_at d } in
    record {
      queues = still n a b ends_same at_same newest_same;
      told = λ ends are. ap (waiters_in new_at) ends_same ∙ same_waiters ends at newest are.queues new_at n e are.here at_same;
      others = others_still n a b ends_same at_same newest_same;
    }

-- a waiter more in a list
pub list_longer : (n key : ℕ) (at new_at : Slots Waiting) (newest new_newest : Spot → Option ℕ) (e d : Ends) (spot : Spot) → spot.cell ≡ n → at key ≡ None
    → ((k : ℕ) → new_at k ≡ pushed at e.last key (record { spot = spot; older = newest spot }) k) → d ≡ longer e key
    → ((s : Spot) → new_newest s ≡ (if same_spot spot s then Some key else newest s))
    → Becomes n (λ ws. ws ++ spot_waiter spot ∷ []) (record { at = at; newest = newest; ends = e; waiters = waiters_in at e })
    (record { at = new_at; newest = new_newest; ends = d; waiters = waiters_in new_at d })
list_longer n key at new_at newest new_newest e d spot cell vacant writes is notes = record {
  queues = λ ends new are tells. joined_queues ends at newest are.queues n key e spot new new_at new_newest are.here cell vacant writes
      (λ m. tells m ∙ ap (λ x. with_ends n x ends m) is) notes;
  told = λ ends are. ap (waiters_in new_at) is ∙ joined_waiters ends at newest are.queues n key e spot (with_ends n (longer e key) ends) new_at new_newest are.here cell vacant writes
      (λ m. refl) notes;
  others = λ ends are m x there other. joined_others ends at newest are.queues n key e spot (with_ends n (longer e key) ends) new_at new_newest are.here cell vacant writes
      (λ m. refl) notes m x there other;
}

-- a waiter less in a list
pub list_shorter : (n key : ℕ) (l : Link Waiting) (at new_at : Slots Waiting) (newest new_newest : Spot → Option ℕ) (e d : Ends) (spot : Spot) → spot.cell ≡ n → newest spot ≡ Some key
    → at key ≡ Some l → ((k : ℕ) → new_at k ≡ unlinked at l key k) → d ≡ shorter e l → ((s : Spot) → new_newest s ≡ (if same_spot spot s then l.item.older else newest s))
    → Becomes n (λ ws. without_newest ws (spot_waiter spot)) (record { at = at; newest = newest; ends = e; waiters = waiters_in at e })
    (record { at = new_at; newest = new_newest; ends = d; waiters = waiters_in new_at d })
list_shorter n key l at new_at newest new_newest e d spot cell told stands writes is notes = record {
  queues = λ ends new are tells. left_queues ends at newest are.queues n key e l spot new new_at new_newest are.here cell told stands writes
      (λ m. tells m ∙ ap (λ x. with_ends n x ends m) is) notes;
  told = λ ends are. ap (waiters_in new_at) is ∙ left_waiters ends at newest are.queues n key e l spot (with_ends n (shorter e l) ends) new_at new_newest are.here cell told stands writes
      (λ m. refl) notes;
  others = λ ends are m x there other. left_others ends at newest are.queues n key e l spot (with_ends n (shorter e l) ends) new_at new_newest are.here cell told stands writes
      (λ m. refl) notes m x there other;
}

-- one change after another
module _ (n : ℕ) (f g : List Waiter → List Waiter) (a b c : Line) (first : Becomes n f a b) (second : Becomes n g b c) where
  between : (ends : ℕ → Option Ends) → AreEnds n a ends → AreEnds n b (with_ends n b.ends ends)
  between ends are =
      let same : nat_eq n n ≡ true = grind (arith, nat_tests) in
      record { here = rw same refl; queues = first.queues ends (with_ends n b.ends ends) are (λ m. refl) }

  over : (ends : ℕ → Option Ends) (m : ℕ) → with_ends n c.ends (with_ends n b.ends ends) m ≡ with_ends n c.ends ends m
  over ends m = by_case (nat_eq m n)
    where
      by_case : (t : Bool) → (if t then Some c.ends else if t then Some b.ends else ends m) ≡ (if t then Some c.ends else ends m)
      by_case true = refl
      by_case false = refl

  pub becomes_both : Becomes n (λ ws. g (f ws)) a c
  becomes_both = record {
    queues = λ ends new are tells. second.queues (with_ends n b.ends ends) new (between ends are) (λ m. tells m ∙ sym (over ends m));
    told = λ ends are. second.told (with_ends n b.ends ends) (between ends are) ∙ ap g (first.told ends are);
    others = λ ends are m d is other. second.others (with_ends n b.ends ends) (between ends are) m d (elsewhere ends m other ∙ is) other ∙ first.others ends are m d is other;
  }
    where
      elsewhere : (ends : ℕ → Option Ends) (m : ℕ) → m ≢ n → with_ends n b.ends ends m ≡ ends m
      elsewhere ends m other = let apart : nat_eq m n ≡ false = grind (arith, nat_tests) in rw apart refl

-- the waiters of the first line told another way
pub retold : (n : ℕ) (f g : List Waiter → List Waiter) (a b : Line) (ws : List Waiter) → f a.waiters ≡ g ws → Becomes n f a b → Becomes n g (record a { waiters = ws }) b
retold n f g a b ws same h = record {
  queues = λ ends new are tells. h.queues ends new (record { here = are.here; queues = are.queues }) tells;
  told = λ ends are. h.told ends (record { here = are.here; queues = are.queues }) ∙ same;
  others = λ ends are m d is other. h.others ends (record { here = are.here; queues = are.queues }) m d is other;
}
