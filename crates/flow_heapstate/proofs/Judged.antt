-- What is judged sound is sound.
use Rattle.std.proofs.Common.{◌≡◌, ◌<◌, ◌≤◌, ◌+◌, ◌^◌, ℕ, nat_eq, nat_lt, nat_le, Bool, true, false, ◌&&◌, List, [], ◌∷◌, map, length, Option, Some, None, IsSome, is_some, is_none, refl, sym, ap, ◌∙◌, arith}
use Rattle.std.proofs.lemmas.Bool.{and_parts, and_from}
use Rattle.std.proofs.lemmas.Bool.Decides.{nat_tests}
use Rattle.std.specs.Bool.{Decides}
use Rattle.std.specs.List.{AllByRecursion, list_all}
use Rattle.flow_base.specs.declared.ids.CellId.{CellId}
use Rattle.flow_value.specs.declared.value.Kind.TheVariants.{Promise, Future, PromiseStream, FutureStream}
use Rattle.flow_cell.specs.declared.waiter.Waiter.{Waiter}
use Rattle.flow_cancel.specs.Leaving.{waits}
use Rattle.flow_heapstate.specs.State.{CellPart, StreamPart, ActorPart, Parts}
use Rattle.flow_heapstate.specs.Referring.{Ref, references, times}
use Rattle.flow_heapstate.specs.Sound.{RiseTo, cell_at, stream_at, results, value_refs, IsNamed, IsWaiting, WaitsAt, SoundCell, SoundStream, SoundActor, OwnResult, SoundHeap}
use Rattle.flow_heapstate.specs.Judging.{rise_to, is_empty, only_if, is_named, is_waiting, waits_at, cell_unowned, cell_fits, cell_sound, waiter_waits, stream_unnamed, stream_fits, stream_sound, is_unset, result_sound, actor_sound, parts_rise, parts_sound, is_sound}

-- what a test says
all_hold : {A : Type 0} (f : A → Bool) (P : A → Type 0) → ((a : A) → f a ≡ true → P a) → (xs : List A) → list_all f xs ≡ true → AllByRecursion P xs
all_hold f P h [] e = tt
all_hold f P h (x ∷ xs) e = let both = and_parts (f x) (list_all f xs) e in (h x both.0, all_hold f P h xs both.1)

below : (a b : ℕ) → nat_lt a b ≡ true → a < b
below a b e = grind (arith, nat_tests)

at_most : (a b : ℕ) → nat_le a b ≡ true → a ≤ b
at_most a b e = grind (arith, nat_tests)

same : (a b : ℕ) → nat_eq a b ≡ true → a ≡ b
same a b e = grind (arith, nat_tests)

where_so : (a b : Bool) → only_if a b ≡ true → a ≡ true → b ≡ true
where_so true b e g = e
where_so false b e g = absurd (cc)

absent : {A : Type 0} (o : Option A) → is_none o ≡ true → o ≡ None
absent None e = refl
absent (Some a) e = absurd (cc)

empty : {A : Type 0} (xs : List A) → is_empty xs ≡ true → xs ≡ []
empty [] e = refl
empty (x ∷ xs) e = absurd (cc)

rises : (low : ℕ) (ns : List ℕ) (most : ℕ) → rise_to low ns most ≡ true → RiseTo low ns most
rises low [] most e = at_most low most e
rises low (n ∷ ns) most e = let both = and_parts (nat_lt low n) (rise_to n ns most) e in (below low n both.0, rises n ns most both.1)

module _ (p : Parts) where
  leads : (r : Ref) → is_named p r ≡ true → IsNamed p r
  leads (Promise, n) e = e
  leads (Future, n) e = e
  leads (PromiseStream, n) e = e
  leads (FutureStream, n) e = e

  cell_is : (c : CellPart) → cell_sound p c ≡ true → SoundCell p c
  cell_is c e =
      let e1 = and_parts (is_none (stream_at p c.cell)) _ e in
      let e2 = and_parts (nat_lt 0 (times Promise c.cell (references p) + times Future c.cell (references p))) _ e1.1 in
      let e4 = and_parts (list_all (is_waiting p c.cell) c.waiters) _ e2.1 in
      let e3 = and_parts (only_if (is_some c.content) (is_empty c.waiters)) _ e4.1 in
      let own : c.requested ≡ true → (is_none c.content && cell_unowned p c.cell) ≡ true = where_so c.requested _ e3.1 in
      let parts : c.requested ≡ true → (is_none c.content ≡ true) × (cell_unowned p c.cell ≡ true) = λ g. and_parts (is_none c.content) (cell_unowned p c.cell) (own g) in
      let none : c.requested ≡ true → (nat_eq (times Promise c.cell (results p)) 0 ≡ true) × (nat_eq (times Promise c.cell (value_refs p)) 0 ≡ true) =
      λ g. and_parts (nat_eq (times Promise c.cell (results p)) 0) (nat_eq (times Promise c.cell (value_refs p)) 0) (parts g).1 in
      record {
        apart = absent (stream_at p c.cell) e1.0;
        referenced = below 0 (times Promise c.cell (references p) + times Future c.cell (references p)) e2.0;
        alone = λ h. empty c.waiters (where_so (is_some c.content) (is_empty c.waiters) e3.0 h);
        waiters = all_hold (is_waiting p c.cell) (IsWaiting p c.cell) (λ w g. g) c.waiters e4.0;
        unset = λ g. absent c.content (parts g).0;
        own = λ g. same (times Promise c.cell (results p)) 0 (none g).0;
        unnamed = λ g. same (times Promise c.cell (value_refs p)) 0 (none g).1;
      }

  waiter_is : (k : ℕ) (o : Option Waiter) → waiter_waits p k o ≡ true → (w : Waiter) → o ≡ Some w → IsWaiting p k w
  waiter_is k None e w g = absurd (cc)
  waiter_is k (Some v) e w g = ap (waiter_waits p k) (sym g) ∙ e

  stream_is : (s : StreamPart) → stream_sound p s ≡ true → SoundStream p s
  stream_is s e =
      let e1 = and_parts (nat_lt 0 (times PromiseStream s.cell (references p) + times FutureStream s.cell (references p))) _ e in
      let e3 = and_parts (waiter_waits p s.cell s.waiter) _ e1.1 in
      let e2 = and_parts (only_if (is_some s.waiter) (is_empty s.queue && is_none s.end)) _ e3.1 in
      let alone : IsSome s.waiter → (is_empty s.queue ≡ true) × (is_none s.end ≡ true) =
      λ h. and_parts (is_empty s.queue) (is_none s.end) (where_so (is_some s.waiter) _ e2.0 h) in
      let port : s.port ≡ true → (is_none s.end ≡ true) × (nat_eq (times PromiseStream s.cell (value_refs p)) 0 ≡ true) =
      λ g. and_parts (is_none s.end) (nat_eq (times PromiseStream s.cell (value_refs p)) 0) (where_so s.port _ e2.1 g) in
      record {
        referenced = below 0 (times PromiseStream s.cell (references p) + times FutureStream s.cell (references p)) e1.0;
        alone = λ h. (empty s.queue (alone h).0, absent s.end (alone h).1);
        waiter = waiter_is s.cell s.waiter e3.0;
        open_port = λ g. absent s.end (port g).0;
        unnamed = λ g. same (times PromiseStream s.cell (value_refs p)) 0 (port g).1;
      }

  unset_is : (o : Option CellPart) → is_unset o ≡ true → (c : CellPart) × (o ≡ Some c) × (c.content ≡ None)
  unset_is None e = absurd (cc)
  unset_is (Some c) e = (c, refl, absent c.content e)

  own_is : (k : CellId) → result_sound p (Some k) ≡ true → OwnResult p k.0
  own_is k e =
      let e1 = and_parts (is_unset (cell_at p k.0)) _ e in
      let e2 = and_parts (nat_eq (times Promise k.0 (results p)) 1) _ e1.1 in
      let e3 = and_parts (nat_lt 0 (times Future k.0 (references p))) _ e2.1 in
      let unset = unset_is (cell_at p k.0) e1.0 in
      record {
        cell = unset.0;
        there = unset.1;
        unset = unset.2;
        own = same (times Promise k.0 (results p)) 1 e2.0;
        awaited = below 0 (times Future k.0 (references p)) e3.0;
        unnamed = same (times Promise k.0 (value_refs p)) 0 e3.1;
      }

  result_is : (o : Option CellId) → result_sound p o ≡ true → (k : CellId) → o ≡ Some k → OwnResult p k.0
  result_is None e k g = absurd (cc)
  result_is (Some j) e k g = own_is k (ap (result_sound p) (sym g) ∙ e)

  actor_is : (a : ActorPart) → actor_sound p a ≡ true → SoundActor p a
  actor_is a e =
      let e1 = and_parts (waits a.state a.callbacks) _ e in
      let e2 = and_parts (list_all (waits_at p a.actor) a.callbacks) _ e1.1 in
      let e3 = and_parts (result_sound p a.result) _ e2.1 in
      record {
        suspended = e1.0;
        callbacks = all_hold (waits_at p a.actor) (WaitsAt p a.actor) (λ x g. g) a.callbacks e2.0;
        result = result_is a.result e3.0;
        few = below (length a.places) (2 ^ 32) e3.1;
      }

  sound_is : is_sound p ≡ true → SoundHeap p
  sound_is e =
      let e1 = and_parts (parts_rise p) _ e in
      let r1 = and_parts (rise_to 0 (map (λ c. c.cell) p.cells) p.cells_made) _ e1.0 in
      let r2 = and_parts (rise_to 0 (map (λ s. s.cell) p.streams) p.cells_made) _ r1.1 in
      let e2 = and_parts (list_all (is_named p) (references p)) _ e1.1 in
      let e3 = and_parts (list_all (cell_sound p) p.cells) _ e2.1 in
      let e4 = and_parts (list_all (stream_sound p) p.streams) _ e3.1 in
      record {
        cells_rise = rises 0 (map (λ c. c.cell) p.cells) p.cells_made r1.0;
        streams_rise = rises 0 (map (λ s. s.cell) p.streams) p.cells_made r2.0;
        actors_rise = rises 0 (map (λ a. a.actor) p.actors) p.actors_made r2.1;
        named = all_hold (is_named p) (IsNamed p) leads (references p) e2.0;
        cells = all_hold (cell_sound p) (SoundCell p) cell_is p.cells e3.0;
        streams = all_hold (stream_sound p) (SoundStream p) stream_is p.streams e4.0;
        actors = all_hold (actor_sound p) (SoundActor p) actor_is p.actors e4.1;
      }

-- and what is sound is judged so
all_tested : {A : Type 0} (f : A → Bool) (P : A → Type 0) → ((a : A) → P a → f a ≡ true) → (xs : List A) → AllByRecursion P xs → list_all f xs ≡ true
all_tested f P h [] e = refl
all_tested f P h (x ∷ xs) e = and_from (f x) (list_all f xs) (h x e.0) (all_tested f P h xs e.1)

is_below : (a b : ℕ) → a < b → nat_lt a b ≡ true
is_below a b e = grind (arith, nat_tests)

is_at_most : (a b : ℕ) → a ≤ b → nat_le a b ≡ true
is_at_most a b e = grind (arith, nat_tests)

is_same : (a b : ℕ) → a ≡ b → nat_eq a b ≡ true
is_same a b e = grind (arith, nat_tests)

if_so : (a b : Bool) → (a ≡ true → b ≡ true) → only_if a b ≡ true
if_so true b f = f refl
if_so false b f = refl

is_absent : {A : Type 0} (o : Option A) → o ≡ None → is_none o ≡ true
is_absent o e = ap is_none e

has_none : {A : Type 0} (xs : List A) → xs ≡ [] → is_empty xs ≡ true
has_none xs e = ap is_empty e

is_rising : (low : ℕ) (ns : List ℕ) (most : ℕ) → RiseTo low ns most → rise_to low ns most ≡ true
is_rising low [] most h = is_at_most low most h
is_rising low (n ∷ ns) most h = and_from (nat_lt low n) (rise_to n ns most) (is_below low n h.0) (is_rising n ns most h.1)

module _ (p : Parts) where
  is_led : (r : Ref) → IsNamed p r → is_named p r ≡ true
  is_led (Promise, n) h = h
  is_led (Future, n) h = h
  is_led (PromiseStream, n) h = h
  is_led (FutureStream, n) h = h

  cell_tested : (c : CellPart) → SoundCell p c → cell_sound p c ≡ true
  cell_tested c h =
      let own : c.requested ≡ true → (is_none c.content && cell_unowned p c.cell) ≡ true =
      λ g. and_from (is_none c.content) (cell_unowned p c.cell) (is_absent c.content (h.unset g))
      (and_from (nat_eq (times Promise c.cell (results p)) 0) (nat_eq (times Promise c.cell (value_refs p)) 0) (is_same (times Promise c.cell (results p)) 0 (h.own g))
      (is_same (times Promise c.cell (value_refs p)) 0 (h.unnamed g))) in
      let fits : cell_fits p c ≡ true =
      and_from (only_if (is_some c.content) (is_empty c.waiters)) (only_if c.requested (is_none c.content && cell_unowned p c.cell))
      (if_so (is_some c.content) (is_empty c.waiters) (λ e. has_none c.waiters (h.alone e))) (if_so c.requested (is_none c.content && cell_unowned p c.cell) own) in
      and_from (is_none (stream_at p c.cell)) _ (is_absent (stream_at p c.cell) h.apart)
      (and_from (nat_lt 0 (times Promise c.cell (references p) + times Future c.cell (references p))) _
      (is_below 0 (times Promise c.cell (references p) + times Future c.cell (references p)) h.referenced)
      (and_from (list_all (is_waiting p c.cell) c.waiters) (cell_fits p c) (all_tested (is_waiting p c.cell) (IsWaiting p c.cell) (λ w g. g) c.waiters h.waiters) fits))

  waiter_tested : (k : ℕ) (o : Option Waiter) → ((w : Waiter) → o ≡ Some w → IsWaiting p k w) → waiter_waits p k o ≡ true
  waiter_tested k None h = refl
  waiter_tested k (Some v) h = h v refl

  stream_tested : (s : StreamPart) → SoundStream p s → stream_sound p s ≡ true
  stream_tested s h =
      let alone : is_some s.waiter ≡ true → (is_empty s.queue && is_none s.end) ≡ true =
      λ e. and_from (is_empty s.queue) (is_none s.end) (has_none s.queue (h.alone e).0) (is_absent s.end (h.alone e).1) in
      let port : s.port ≡ true → (is_none s.end && stream_unnamed p s.cell) ≡ true =
      λ g. and_from (is_none s.end) (stream_unnamed p s.cell) (is_absent s.end (h.open_port g)) (is_same (times PromiseStream s.cell (value_refs p)) 0 (h.unnamed g)) in
      let fits : stream_fits p s ≡ true =
      and_from (only_if (is_some s.waiter) (is_empty s.queue && is_none s.end)) (only_if s.port (is_none s.end && stream_unnamed p s.cell))
      (if_so (is_some s.waiter) (is_empty s.queue && is_none s.end) alone) (if_so s.port (is_none s.end && stream_unnamed p s.cell) port) in
      and_from (nat_lt 0 (times PromiseStream s.cell (references p) + times FutureStream s.cell (references p))) _
      (is_below 0 (times PromiseStream s.cell (references p) + times FutureStream s.cell (references p)) h.referenced)
      (and_from (waiter_waits p s.cell s.waiter) (stream_fits p s) (waiter_tested s.cell s.waiter h.waiter) fits)

  own_tested : (k : CellId) → OwnResult p k.0 → result_sound p (Some k) ≡ true
  own_tested k r =
      and_from (is_unset (cell_at p k.0)) _ (ap is_unset r.there ∙ is_absent r.cell.content r.unset)
      (and_from (nat_eq (times Promise k.0 (results p)) 1) _ (is_same (times Promise k.0 (results p)) 1 r.own)
      (and_from (nat_lt 0 (times Future k.0 (references p))) (nat_eq (times Promise k.0 (value_refs p)) 0) (is_below 0 (times Future k.0 (references p)) r.awaited)
      (is_same (times Promise k.0 (value_refs p)) 0 r.unnamed)))

  result_tested : (o : Option CellId) → ((k : CellId) → o ≡ Some k → OwnResult p k.0) → result_sound p o ≡ true
  result_tested None h = refl
  result_tested (Some k) h = own_tested k (h k refl)

  actor_tested : (a : ActorPart) → SoundActor p a → actor_sound p a ≡ true
  actor_tested a h =
      and_from (waits a.state a.callbacks) _ h.suspended
      (and_from (list_all (waits_at p a.actor) a.callbacks) _ (all_tested (waits_at p a.actor) (WaitsAt p a.actor) (λ x g. g) a.callbacks h.callbacks)
      (and_from (result_sound p a.result) (nat_lt (length a.places) (2 ^ 32)) (result_tested a.result h.result) (is_below (length a.places) (2 ^ 32) h.few)))

  sound_tested : SoundHeap p → is_sound p ≡ true
  sound_tested h =
      let rising : parts_rise p ≡ true =
      and_from (rise_to 0 (map (λ c. c.cell) p.cells) p.cells_made) _ (is_rising 0 (map (λ c. c.cell) p.cells) p.cells_made h.cells_rise)
      (and_from (rise_to 0 (map (λ s. s.cell) p.streams) p.cells_made) (rise_to 0 (map (λ a. a.actor) p.actors) p.actors_made)
      (is_rising 0 (map (λ s. s.cell) p.streams) p.cells_made h.streams_rise) (is_rising 0 (map (λ a. a.actor) p.actors) p.actors_made h.actors_rise)) in
      let parts : parts_sound p ≡ true =
      and_from (list_all (cell_sound p) p.cells) _ (all_tested (cell_sound p) (SoundCell p) cell_tested p.cells h.cells)
      (and_from (list_all (stream_sound p) p.streams) (list_all (actor_sound p) p.actors)
      (all_tested (stream_sound p) (SoundStream p) stream_tested p.streams h.streams) (all_tested (actor_sound p) (SoundActor p) actor_tested p.actors h.actors)) in
      and_from (parts_rise p) _ rising (and_from (list_all (is_named p) (references p)) (parts_sound p) (all_tested (is_named p) (IsNamed p) is_led (references p) h.named) parts)

pub sound_decided : (p : Parts) (b : Bool) → b ≡ is_sound p → Decides b (SoundHeap p)
sound_decided p b e = (λ t. sound_is p (sym e ∙ t), λ h. e ∙ sound_tested p h)
