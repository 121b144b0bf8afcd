-- When a reference may be dropped, and what stands there then.
use Rattle.std.proofs.Common.{◌≡◌, ℕ, zero, suc, ◌<◌, ◌-◌, nat_eq, nat_lt, Bool, true, false, not, ◌&&◌, ◌||◌, is_none, slice_get, List, [], ◌∷◌, Option, Some, None, refl, sym, ap, ◌∙◌, subst, arith, if◌then◌else◌}
use Rattle.std.proofs.lemmas.Bool.Decides.{nat_tests}
use Rattle.flow_value.specs.declared.value.Value.{Value}
use Rattle.flow_value.specs.declared.value.Outcome.{Outcome}
use Rattle.flow_numbered.specs.Numbered.{thing, with_thing}
use Rattle.flow_cell.specs.declared.waiter.Waiter.{Waiter}
use Rattle.flow_cell.specs.declared.counts.Side.{Side}
use Rattle.flow_cell.specs.declared.counts.Side.TheVariants.{Promise, Future}
use Rattle.flow_cell.specs.declared.counts.Loss.{Loss}
use Rattle.flow_cell.specs.declared.counts.Loss.TheVariants as loss
use Rattle.flow_cell.specs.Cells.{CellTree, Counts, no_counts, count_of, released, loss, loss_by, own_loss, last_of}
use Rattle.flow_stream.specs.Streams.{StreamTree}
use Rattle.flow_cancel.specs.Heap.{HeapTree, without, without_number}
use Rattle.flow_cancel.specs.Dropping.{dropping, content, put_cell, put_stream, freed_cell, freed_stream, without_port, cell_less, stream_less, one_promise, loss_of, cell_may_lose, stream_may_lose, may_drop_cell, may_drop_stream}
use Rattle.flow_cancel.proofs.Puts.{found_put, removed_put}

-- no reference is left where a loss leaves none
pub none_left : (s : Side) (c : Counts) → loss s c ≡ loss.Gone → c ≡ no_counts
none_left s c e = by_counts c.promises c.futures (count_of s c) refl refl e
  where
    own : (n : ℕ) → own_loss s n ≡ loss.Gone → ⊥
    own zero f = by_side s f
      where
        by_side : (t : Side) → last_of t ≡ loss.Gone → ⊥
        by_side Promise g = cc
        by_side Future g = cc
    own (suc n) f = cc

    by_counts : (p f n : ℕ) → c.promises ≡ p → c.futures ≡ f → loss_by s p f n ≡ loss.Gone → c ≡ no_counts
    by_counts zero zero n x y g = ap (λ m. record { promises = m; futures = c.futures }) x ∙ ap (λ m. record { promises = 0; futures = m }) y
    by_counts zero (suc f) n x y g = absurd (own n g)
    by_counts (suc p) f n x y g = absurd (own n g)

-- the last future is gone where a loss leaves no future
pub no_future : (s : Side) (c : Counts) → loss s c ≡ loss.LastFuture → c.futures ≡ 0
no_future Promise c e = absurd (by_counts c.promises c.futures c.promises e)
  where
    own : (n : ℕ) → own_loss Promise n ≡ loss.LastFuture → ⊥
    own zero f = cc
    own (suc n) f = cc

    by_counts : (p f n : ℕ) → loss_by Promise p f n ≡ loss.LastFuture → ⊥
    by_counts zero zero n g = cc
    by_counts zero (suc f) n g = own n g
    by_counts (suc p) f n g = own n g
no_future Future c e = by_counts c.promises c.futures e
  where
    own : (n : ℕ) → own_loss Future n ≡ loss.LastFuture → n ≡ 0
    own zero f = refl
    own (suc n) f = absurd (cc)

    by_counts : (p f : ℕ) → loss_by Future p f f ≡ loss.LastFuture → f ≡ 0
    by_counts zero zero g = refl
    by_counts zero (suc f) g = own (suc f) g
    by_counts (suc p) f g = own f g

-- the promises are the same where a future is lost
pub a_future : (s : Side) (c : Counts) → loss s (released s c) ≡ loss.LastFuture → (released s c).promises ≡ c.promises
a_future Promise c e = absurd (by_counts (c.promises - 1) c.futures (c.promises - 1) e)
  where
    own : (n : ℕ) → own_loss Promise n ≡ loss.LastFuture → ⊥
    own zero f = cc
    own (suc n) f = cc

    by_counts : (p f n : ℕ) → loss_by Promise p f n ≡ loss.LastFuture → ⊥
    by_counts zero zero n g = cc
    by_counts zero (suc f) n g = own n g
    by_counts (suc p) f n g = own n g
a_future Future c e = refl

nobody : (ws : List Waiter) → is_none (slice_get ws 0) ≡ true → ws ≡ []
nobody [] e = refl
nobody (w ∷ ws) e = absurd (cc)

no_waiter : (o : Option Waiter) → is_none o ≡ true → o ≡ None
no_waiter None e = refl
no_waiter (Some w) e = absurd (cc)

-- the side counts
counts : (s : Side) (c : Counts) (l : Loss) → loss_of s c ≡ Some l → (0 < count_of s c) × (loss s (released s c) ≡ l)
counts s c l e = by_test (nat_lt 0 (count_of s c)) refl e
  where
    by_test : (t : Bool) → nat_lt 0 (count_of s c) ≡ t → (if nat_lt 0 (count_of s c) then Some (loss s (released s c)) else None) ≡ Some l
        → (0 < count_of s c) × (loss s (released s c) ≡ l)
    by_test true g f = (grind (arith, nat_tests), cc (rw g at f))
    by_test false g f = let bad = rw g at f in absurd (cc (bad))

-- what stands where a reference to a single result may be dropped
pub record CellLoses (s : Side) (o : Option (CellTree Outcome)) : Type 0 where
  pub cell : CellTree Outcome
  pub there : o ≡ Some cell
  pub counts_side : 0 < count_of s cell.references
  pub alone : loss s (released s cell.references) ≡ loss.Gone → cell.waiters ≡ []

pub cell_loses : (s : Side) (o : Option (CellTree Outcome)) → may_drop_cell s o ≡ true → CellLoses s o
cell_loses s None e = absurd (cc)
cell_loses s (Some c) e = by_loss (loss_of s c.references) refl e
  where
    by_loss : (l : Option Loss) → loss_of s c.references ≡ l → cell_may_lose (is_none (slice_get c.waiters 0)) l ≡ true → CellLoses s (Some c)
    by_loss None f g = absurd (cc)
    by_loss (Some l) f g =
        let r = counts s c.references l f in
        record { cell = c; there = refl; counts_side = r.0; alone = λ x. nobody c.waiters (gone l (sym r.1 ∙ x) g) }
      where
        gone : (m : Loss) → m ≡ loss.Gone → cell_may_lose (is_none (slice_get c.waiters 0)) (Some m) ≡ true → is_none (slice_get c.waiters 0) ≡ true
        gone loss.Gone x y = y
        gone loss.Kept x y = absurd (cc)
        gone loss.LastPromise x y = absurd (cc)
        gone loss.LastFuture x y = absurd (cc)

-- the same of a stream
pub record StreamLoses (s : Side) (port : Bool) (o : Option (StreamTree Value)) : Type 0 where
  pub stream : StreamTree Value
  pub there : o ≡ Some stream
  pub counts_side : 0 < count_of s stream.references
  pub alone : loss s (released s stream.references) ≡ loss.Gone → stream.waiter ≡ None
  pub one : loss s (released s stream.references) ≡ loss.LastFuture → port ≡ true → stream.references.promises ≡ 1
  pub unheard : loss s (released s stream.references) ≡ loss.LastFuture → port ≡ true → stream.waiter ≡ None

both : (a b : Bool) → (a && b) ≡ true → (a ≡ true) × (b ≡ true)
both true b e = (refl, e)
both false b e = absurd (cc)

pub stream_loses : (s : Side) (port : Bool) (o : Option (StreamTree Value)) → may_drop_stream s port o ≡ true → StreamLoses s port o
stream_loses s port None e = absurd (cc)
stream_loses s port (Some c) e = by_loss (loss_of s c.references) refl e
  where
    gone : (m : Loss) → m ≡ loss.Gone → stream_may_lose (is_none c.waiter) port (nat_eq c.references.promises 1) (Some m) ≡ true → is_none c.waiter ≡ true
    gone loss.Gone x y = y
    gone loss.Kept x y = absurd (cc)
    gone loss.LastPromise x y = absurd (cc)
    gone loss.LastFuture x y = absurd (cc)

    last : (m : Loss) → m ≡ loss.LastFuture → stream_may_lose (is_none c.waiter) port (nat_eq c.references.promises 1) (Some m) ≡ true → port ≡ true
        → (nat_eq c.references.promises 1 ≡ true) × (is_none c.waiter ≡ true)
    last loss.LastFuture x y p = both (nat_eq c.references.promises 1) (is_none c.waiter) (rw p at y)
    last loss.Kept x y p = absurd (cc)
    last loss.LastPromise x y p = absurd (cc)
    last loss.Gone x y p = absurd (cc)

    by_loss : (l : Option Loss) → loss_of s c.references ≡ l → stream_may_lose (is_none c.waiter) port (nat_eq c.references.promises 1) l ≡ true → StreamLoses s port (Some c)
    by_loss None f g = absurd (cc)
    by_loss (Some l) f g =
        let r = counts s c.references l f in
        record {
          stream = c;
          there = refl;
          counts_side = r.0;
          alone = λ x. no_waiter c.waiter (gone l (sym r.1 ∙ x) g);
          one = λ x p. let t = (last l (sym r.1 ∙ x) g p).0 in grind (arith, nat_tests);
          unheard = λ x p. no_waiter c.waiter (last l (sym r.1 ∙ x) g p).1;
        }

-- a cell or stream goes after its loss was counted
pub freed_less : (k : ℕ) (c d : CellTree Outcome) (h : HeapTree) → thing h.cells.things k ≡ Some c
    → freed_cell k (put_cell k d h) (thing (put_cell k d h).cells.things k) ≡ freed_cell k h (Some d)
freed_less k c d h e =
    ap (freed_cell k (put_cell k d h)) (found_put h.cells.things k c d e)
    ∙ ap (λ xs. dropping (content d.content) (record h { cells = record { things = xs; greatest = h.cells.greatest } })) (removed_put h.cells.things k d)

pub freed_less_stream : (k : ℕ) (c d : StreamTree Value) (h : HeapTree) → thing h.streams.things k ≡ Some c
    → freed_stream k (put_stream k d h) (thing (put_stream k d h).streams.things k) ≡ freed_stream k h (Some d)
freed_less_stream k c d h e =
    ap (freed_stream k (put_stream k d h)) (found_put h.streams.things k c d e)
    ∙ ap (λ xs. dropping d.queue (record h { streams = record { things = xs; greatest = h.streams.greatest } })) (removed_put h.streams.things k d)
