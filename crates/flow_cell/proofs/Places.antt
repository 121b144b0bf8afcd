-- Waiters along the links.
use Rattle.std.proofs.Common.{◌≡◌, ℕ, zero, suc, ◌+◌, ◌-◌, ◌<◌, ◌≤◌, Option, Some, None, map, length, slice_get, sym, ap, ◌∙◌, arith}
use Rattle.std.proofs.lemmas.Option.{slice_get_past}
use Rattle.flow_numbered.specs.Links.{Slots, walk, walk_on, slot_at}
use Rattle.flow_numbered.specs.declared.links.Link.{Link}
use Rattle.flow_numbered.proofs.Chains.{walk_step}
use Rattle.flow_cell.specs.Waiting.{waiter_of}
use Rattle.flow_cell.specs.declared.queue.Waiting.{Waiting}

module _ (at : Slots Waiting) where
  short : (most : ℕ) (key : Option ℕ) → length (map waiter_of (walk at most key)) ≤ most
  short zero key = omega arith
  short (suc n) key = on_link (slot_at at key) (λ next. short n next)
    where
      on_link : (o : Option (Link Waiting)) → ((next : Option ℕ) → length (map waiter_of (walk at n next)) ≤ n)
          → length (map waiter_of (walk_on o (λ next. walk at n next))) ≤ suc n
      on_link None rest = omega arith
      on_link (Some l) rest = let r = rest l.after in omega (arith, r)

  -- no more waiters than links
  pub none_past : (most : ℕ) (key : Option ℕ) (place : ℕ) → most ≤ place → slice_get (map waiter_of (walk at most key)) place ≡ None
  none_past most key place past = let s = short most key in slice_get_past _ place (omega (arith, s))

  -- one link passed
  pub passed : (most place read key : ℕ) (l : Link Waiting) → place < most → read < place → at key ≡ Some l
      → slice_get (map waiter_of (walk at (most - (read + 1)) l.after)) (place - (read + 1)) ≡ slice_get (map waiter_of (walk at (most - read) (Some key))) (place - read)
  passed most place read key l within more here =
      let one : place - read ≡ suc (place - (read + 1)) = omega arith in
      let step = walk_step at most read key l (omega arith) here in
      sym (ap (λ k. slice_get (map waiter_of (walk at (most - read) (Some key))) k) one ∙ ap (λ ws. slice_get (map waiter_of ws) (suc (place - (read + 1)))) step)
