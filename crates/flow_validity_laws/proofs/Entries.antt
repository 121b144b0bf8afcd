-- The entries of blocks, and chunks that keep them.
use Rattle.std.proofs.Common.{◌≡◌, ◌⊎◌, inl, inr, ℕ, suc, ◌+◌, ◌<◌, ◌≤◌, Bool, true, false, not, ◌&&◌, ◌||◌, nat_eq, List, [], ◌∷◌, ◌++◌, length, refl, ap, sym, subst, ◌∙◌, arith, length-append}
use Rattle.std.proofs.lemmas.Bool.{false≢true, or_left, or_right}
use Rattle.std.specs.List.{list_any}
use Rattle.std.specs.declared.option.Option.{Option}
use Rattle.std.specs.declared.option.Option.TheVariants.{None, Some}
use Rattle.flow_class.specs.declared.class.Slotted.{Slotted}
use Rattle.flow_class.specs.declared.class.Slotted.TheVariants as place
use Rattle.flow_class.specs.Classes.{CatcherTree, DropInstr, BlockTree, CallbackTree, ClassTree}
use Rattle.flow_class.specs.Code.{group_at}
use Rattle.flow_split.specs.Around.{Hand}
use Rattle.flow_split.specs.Lowered.{Chunk, catch_part, blocks_of, joined}
use Rattle.flow_valid.specs.Filling.{among, is_local, dropped}
use Rattle.flow_validity_laws.proofs.Walks.{Places, is_caught, after, waited, handled, Enters, Catches, Kept}
use Rattle.flow_validity_laws.proofs.Waysides.{Meets}
use Rattle.flow_validity_laws.proofs.Lines.{and_true, Has, has_below, Sub, Holds, filled, filled_holds, Covers, covers_filled, same_self}

abbrev pub Entry : Type 0
Entry = Option (List Slotted)

-- all these numbers are at least that
abbrev pub AllFrom : ℕ → List ℕ → Type 0
AllFrom u [] = Unit {0}
AllFrom u (n ∷ ns) = (u ≤ n) × AllFrom u ns

pub from_both : (u : ℕ) (ns ms : List ℕ) → AllFrom u ns → AllFrom u ms → AllFrom u (ns ++ ms)
from_both u [] ms h k = k
from_both u (n ∷ ns) ms h k = (h.0, from_both u ns ms h.1 k)

pub not_dropped : (u m : ℕ) (ns : List ℕ) → m < u → AllFrom u ns → dropped ns (place.Local m) ≡ false
not_dropped u m [] lt h = refl
not_dropped u m (n ∷ ns) lt h = ap (λ b. b || list_any (nat_eq m) ns) (unlike m n (omega (arith, h.0))) ∙ not_dropped u m ns lt h.1
  where
    unlike : (m n : ℕ) → m < n → nat_eq m n ≡ false
    unlike m n lt = grind arith

-- Where a way out of a body leads: the variables in force there, the locals that may be lost there, and a number that is
-- above those of all these locals.
pub record Aim : Type 0 where
  pub places : List Slotted
  pub stale : ℕ
  pub from : ℕ

abbrev pub IsBelow : Aim → Type 0
IsBelow a = (j k : ℕ) → Has a.places j (place.Local k) → k < a.from

-- it lies around a body in which these numbers are dropped
pub record Lies (a : Aim) (gs : List Slotted) (ds : List ℕ) (l : ℕ) : Type 0 where
  pub sub : Sub a.places gs
  pub below : IsBelow a
  pub from : AllFrom a.from ds
  pub low : a.from ≤ l

-- what is dropped is not there
pub safe_drop : (a : Aim) (ds : List ℕ) (q : Slotted) → IsBelow a → AllFrom a.from ds → (st : ℕ) → Holds a.places st q → dropped ds q ≡ false
safe_drop a ds (place.Slot n) below from st h = refl
safe_drop a ds (place.Local n) below from st h = not_dropped a.from n ds (below h.0 n h.1) from

pub covers_dropped : (a : Aim) (ds : List ℕ) (st : ℕ) (s : Places) → IsBelow a → AllFrom a.from ds → Covers s a.places st → Covers (after (DropInstr ds) s) a.places st
covers_dropped a ds st s below from cover q h = and_true (s q) (dropped ds q) (cover q h) (safe_drop a ds q below from st h)

-- at a wait the locals are lost
pub covers_waited : (gs : List Slotted) (st : ℕ) (s : Places) → Covers s gs st → Covers (waited s) gs (length gs)
covers_waited gs st s cover q h = by_kind (is_local q) refl
  where
    too_old : st ≤ st → length gs ≤ h.0 → ⊥
    too_old le k = omega (arith, k, has_below gs h.0 q h.1)

    by_kind : (b : Bool) → is_local q ≡ b → s q && not (is_local q) ≡ true
    by_kind true e = absurd (too_old (omega arith) (h.2 e))
    by_kind false e = and_true (s q) (is_local q) (cover q (h.0, h.1, λ k. absurd (false≢true (sym e ∙ k)))) e

abbrev caught_by : Option ℕ → Slotted → Bool
caught_by o q = is_caught o q

module _ (c : ClassTree) where
  abbrev pub Entries : Type 0
  Entries = ℕ → Entry

  -- a block is entered by what covers its entry
  pub enters : (e : Entries) (s : Places) (t : ℕ) (gs hs : List Slotted) (st wanted : ℕ) → Covers s gs st → e t ≡ Some (filled hs wanted) → Sub hs gs → Meets st wanted (length hs) → Enters c e s t
  enters e s t gs hs st wanted cover is sub meets = (filled hs wanted, is, λ q h. within q (filled_holds hs wanted q h))
    where
      kept : (j : ℕ) → j < length hs → Meets st wanted (length hs) → wanted ≤ j → st ≤ j
      kept j lt (inl m) le = absurd (omega arith)
      kept j lt (inr m) le = omega arith

      within : (q : Slotted) → Holds hs wanted q → s q ≡ true
      within q h = cover q (h.0, sub h.0 q h.1, λ l. kept h.0 (has_below hs h.0 q h.1) meets (h.2 l))

  -- what is known of the handler around
  abbrev pub HandFact : Entries → Option Hand → Aim → (stale : ℕ) → Type 0
  HandFact e None a st = Unit {0}
  HandFact e (Some k) a st = (e k.block ≡ Some (filled (place.Local k.error ∷ a.places) a.stale)) × Meets st a.stale (length a.places)

  -- the catch part of a block at hand: none, or that of the handler around
  pub record Guards (e : Entries) (h : Option Hand) (a : Aim) (kc : CatcherTree) (st : ℕ) : Type 0 where
    pub hand : Hand
    pub around : h ≡ Some hand
    pub block : kc.block ≡ hand.block
    pub error : kc.error ≡ Some hand.error
    pub from : AllFrom a.from kc.drops
    pub fact : HandFact e (Some hand) a st

  abbrev pub Guard : Entries → Option Hand → Aim → Option CatcherTree → (stale : ℕ) → Type 0
  Guard e h a None st = Unit {0}
  Guard e h a (Some kc) st = Guards e h a kc st

  pub guard_at : (e : Entries) (h : Option Hand) (a : Aim) (kc : Option CatcherTree) (st z : ℕ) → (Meets st a.stale (length a.places) → Meets z a.stale (length a.places)) → Guard e h a kc st
      → Guard e h a kc z
  guard_at e h a None st z f g = tt
  guard_at e h a (Some kc) st z f g = record { hand = g.hand; around = g.around; block = g.block; error = g.error; from = g.from; fact = (g.fact.0, f g.fact.1) }

  pub catches : (e : Entries) (h : Option Hand) (a : Aim) (kc : Option CatcherTree) (st : ℕ) (s : Places) → IsBelow a → Guard e h a kc st → Covers s a.places st → Catches c e kc s
  catches e h a None st s below g cover = tt
  catches e h a (Some kc) st s below g cover = (
    filled (place.Local g.hand.error ∷ a.places) a.stale,
    ap e g.block
        ∙ g.fact.0,
    λ q k. within q (filled_holds (place.Local g.hand.error ∷ a.places) a.stale q k),
  )
    where
      kept : (j : ℕ) → j < length a.places → Meets st a.stale (length a.places) → a.stale ≤ j → st ≤ j
      kept j lt (inl m) le = absurd (omega arith)
      kept j lt (inr m) le = omega arith

      by_side : (q : Slotted) (j : ℕ) → ((j ≡ length a.places) × (place.Local g.hand.error ≡ q)) ⊎ Has a.places j q → (is_local q ≡ true → a.stale ≤ j) → handled kc s q ≡ true
      by_side q j (inl k) l =
          subst (λ z. handled kc s z ≡ true) k.1
          (or_left (caught_by kc.error (place.Local g.hand.error)) (s (place.Local g.hand.error) && not (dropped kc.drops (place.Local g.hand.error)))
          (ap (λ o. caught_by o (place.Local g.hand.error)) g.error ∙ same_self (place.Local g.hand.error)))
      by_side q j (inr k) l =
          let holds : Holds a.places st q = (j, k, λ m. kept j (has_below a.places j q k) g.fact.1 (l m)) in
          or_right (caught_by kc.error q) (s q && not (dropped kc.drops q)) (and_true (s q) (dropped kc.drops q) (cover q holds) (safe_drop a kc.drops q below g.from st holds))

      within : (q : Slotted) → Holds (place.Local g.hand.error ∷ a.places) a.stale q → handled kc s q ≡ true
      within q k = by_side q k.0 k.1 k.2

  -- entries of blocks one after another
  abbrev pub EntriesAt : Entries → ℕ → List Entry → Type 0
  EntriesAt e n [] = Unit {0}
  EntriesAt e n (o ∷ os) = (e n ≡ o) × EntriesAt e (suc n) os

  pub entries_front : (e : Entries) (n : ℕ) (xs ys : List Entry) → EntriesAt e n (xs ++ ys) → EntriesAt e n xs
  entries_front e n [] ys h = tt
  entries_front e n (x ∷ xs) ys h = (h.0, entries_front e (suc n) xs ys h.1)

  pub entries_back : (e : Entries) (n m : ℕ) (xs ys : List Entry) → n + length xs ≡ m → EntriesAt e n (xs ++ ys) → EntriesAt e m ys
  entries_back e n m [] ys k h = let same : n ≡ m = omega (arith, k) in subst (λ z. EntriesAt e z ys) same h
  entries_back e n m (x ∷ xs) ys k h = entries_back e (suc n) m xs ys (omega (arith, k)) h.1

  abbrev pub EntryKept : Entries → Entry → BlockTree → Type 0
  EntryKept e None b = Unit {0}
  EntryKept e (Some ps) b = Kept c e b.catcher (among ps) b.body b.last

  abbrev pub AllKept : Entries → List Entry → List BlockTree → Type 0
  AllKept e [] [] = Unit {0}
  AllKept e [] (b ∷ bs) = ⊥
  AllKept e (o ∷ os) [] = ⊥
  AllKept e (o ∷ os) (b ∷ bs) = EntryKept e o b × AllKept e os bs

  pub all_append : (e : Entries) (os ps : List Entry) (bs ds : List BlockTree) → AllKept e os bs → AllKept e ps ds → AllKept e (os ++ ps) (bs ++ ds)
  all_append e [] ps [] ds h k = k
  all_append e [] ps (b ∷ bs) ds h k = absurd h
  all_append e (o ∷ os) ps [] ds h k = absurd h
  all_append e (o ∷ os) ps (b ∷ bs) ds h k = (h.0, all_append e os ps bs ds h.1 k)

  -- groups one after another
  abbrev pub Located : ℕ → List (List CallbackTree) → Type 0
  Located g [] = Unit {0}
  Located g (ks ∷ gs) = (group_at c.groups g ≡ Some ks) × Located (suc g) gs

  pub located_front : (g : ℕ) (xs ys : List (List CallbackTree)) → Located g (xs ++ ys) → Located g xs
  located_front g [] ys h = tt
  located_front g (x ∷ xs) ys h = (h.0, located_front (suc g) xs ys h.1)

  pub located_back : (g i : ℕ) (xs ys : List (List CallbackTree)) → g + length xs ≡ i → Located g (xs ++ ys) → Located i ys
  located_back g i [] ys k h = let same : g ≡ i = omega (arith, k) in subst (λ z. Located z ys) same h
  located_back g i (x ∷ xs) ys k h = located_back (suc g) i xs ys (omega (arith, k)) h.1

  -- A chunk at a point that is reached: where its block is covered there, and catches as the handler around says, it is
  -- kept, with its further blocks.
  pub record IsLive (e : Entries) (h : Option Hand) (a : Aim) (gs : List Slotted) (st : ℕ) (entries : List Entry) (ch : Chunk) : Type 0 where
    pub first : (kc : Option CatcherTree) (s : Places) → Covers s gs st → Guard e h a kc st → Kept c e kc s ch.body ch.last
    pub more : AllKept e entries ch.more

  pub record Live (h : Option Hand) (a : Aim) (gs : List Slotted) (st : ℕ) (outer : Entries → Type 0) (n m g i : ℕ) (ch : Chunk) : Type 0 where
    pub entries : List Entry
    pub size : n + length entries ≡ m
    pub gsize : g + length ch.groups ≡ i
    pub acts : ch.acts ≡ true → (e : Entries) → EntriesAt e n entries → outer e → HandFact e h a st
    pub held : AllFrom a.from ch.held
    pub kept : (e : Entries) → EntriesAt e n entries → outer e → Located g ch.groups → IsLive e h a gs st entries ch

  -- a chunk in a block of its own, which is reached or not
  pub record Later (h : Option Hand) (outer : Entries → Type 0) (n m g i : ℕ) (ch : Chunk) : Type 0 where
    pub entry : Entry
    pub entries : List Entry
    pub size : suc n + length entries ≡ m
    pub gsize : g + length ch.groups ≡ i
    pub kept : (e : Entries) → e n ≡ entry → EntriesAt e (suc n) entries → outer e → Located g ch.groups → AllKept e (entry ∷ entries) (blocks_of h ch)

  guarded_part : (e : Entries) (h : Option Hand) (a : Aim) (st : ℕ) (acts : Bool) (held : List ℕ) → AllFrom a.from held → (acts ≡ true → HandFact e h a st) → Guard e h a (catch_part acts h held) st
  guarded_part e None a st true held from f = tt
  guarded_part e h a st false held from f = tt
  guarded_part e (Some k) a st true held from f = record { hand = k; around = refl; block = refl; error = refl; from = from; fact = f refl }

  pub later_live : (h : Option Hand) (a : Aim) (gs : List Slotted) (st : ℕ) (outer : Entries → Type 0) (n m g i : ℕ) (ch : Chunk) → Live h a gs st outer (suc n) m g i ch → Later h outer n m g i ch
  later_live h a gs st outer n m g i ch v = record {
    entry = Some (filled gs st);
    entries = v.entries;
    size = v.size;
    gsize = v.gsize;
    kept = λ e is at o gr.
        let k = v.kept e at o gr in
        (k.first (catch_part ch.acts h ch.held) (among (filled gs st)) (covers_filled gs st) (guarded_part e h a st ch.acts ch.held v.held (λ t. v.acts t e at o)), k.more);
  }

  pub later_entry : (h : Option Hand) (a : Aim) (gs : List Slotted) (st : ℕ) (outer : Entries → Type 0) (n m g i : ℕ) (ch : Chunk) (v : Live h a gs st outer (suc n) m g i ch)
      → (later_live h a gs st outer n m g i ch v).entry ≡ Some (filled gs st)
  unfolding later_live
  later_entry h a gs st outer n m g i ch v = refl

  nones : List BlockTree → List Entry
  nones [] = []
  nones (b ∷ bs) = None ∷ nones bs

  none_size : (bs : List BlockTree) → length (nones bs) ≡ length bs
  unfolding nones
  none_size [] = refl
  none_size (b ∷ bs) = ap suc (none_size bs)

  none_kept : (e : Entries) (bs : List BlockTree) → AllKept e (nones bs) bs
  unfolding nones
  none_kept e [] = tt
  none_kept e (b ∷ bs) = (tt, none_kept e bs)

  pub later_dead : (h : Option Hand) (outer : Entries → Type 0) (n m g i : ℕ) (ch : Chunk) → suc n + length ch.more ≡ m → g + length ch.groups ≡ i → Later h outer n m g i ch
  later_dead h outer n m g i ch size gsize = record {
    entry = None;
    entries = nones ch.more;
    size = omega (arith, size, none_size ch.more);
    gsize = gsize;
    kept = λ e is at o gr. (tt, none_kept e ch.more);
  }

  -- a chunk, and then another one in a block of its own
  pub join : (h k : Option Hand) (a : Aim) (gs : List Slotted) (st : ℕ) (outer near far : Entries → Type 0) (n m o g i j : ℕ) (x y : Chunk) → Live h a gs st near n m g i x
      → (z : Later k far m o i j y)
      → ((e : Entries) → outer e → e m ≡ z.entry → near e) → ((e : Entries) → outer e → e m ≡ z.entry → far e) → Live h a gs st outer n o g j (joined k x y)
  join h k a gs st outer near far n m o g i j x y v z f f2 = record {
    entries = v.entries ++ z.entry ∷ z.entries;
    size = omega (arith, v.size, z.size, length-append v.entries (z.entry ∷ z.entries));
    gsize = omega (arith, v.gsize, z.gsize, length-append x.groups y.groups);
    acts = λ t e at q. let back = entries_back e n m v.entries (z.entry ∷ z.entries) v.size at in v.acts t e (entries_front e n v.entries (z.entry ∷ z.entries) at) (f e q back.0);
    held = v.held;
    kept = λ e at q gr.
        let back = entries_back e n m v.entries (z.entry ∷ z.entries) v.size at in
        let l = v.kept e (entries_front e n v.entries (z.entry ∷ z.entries) at) (f e q back.0) (located_front g x.groups y.groups gr) in
        record {
          first = l.first;
          more = all_append e v.entries (z.entry ∷ z.entries) x.more (blocks_of k y) l.more (z.kept e back.0 back.1 (f2 e q back.0) (located_back g i x.groups y.groups v.gsize gr));
        };
  }

  -- two chunks behind, whose entries all may know
  pub join_two : (h k k2 : Option Hand) (a : Aim) (gs : List Slotted) (st : ℕ) (outer near far far2 : Entries → Type 0) (n m o q g i j r : ℕ) (x y z : Chunk) → Live h a gs st near n m g i x
      → (y' : Later k far m o i j y) → (z' : Later k2 far2 o q j r z)
      → ((e : Entries) → outer e → e m ≡ y'.entry → e o ≡ z'.entry → near e) → ((e : Entries) → outer e → e m ≡ y'.entry → e o ≡ z'.entry → far e)
      → ((e : Entries) → outer e → e m ≡ y'.entry → e o ≡ z'.entry → far2 e)
      → Live h a gs st outer n q g r (joined k2 (joined k x y) z)
  join_two h k k2 a gs st outer near far far2 n m o q g i j r x y z v y' z' f f1 f2 =
      let ys = y'.entry ∷ y'.entries in
      let zs = z'.entry ∷ z'.entries in
      let size : n + length (v.entries ++ ys) ≡ o = omega (arith, v.size, y'.size, length-append v.entries ys) in
      let gsize : g + length (x.groups ++ y.groups) ≡ j = omega (arith, v.gsize, y'.gsize, length-append x.groups y.groups) in
      record {
        entries = (v.entries ++ ys) ++ zs;
        size = omega (arith, size, z'.size, length-append (v.entries ++ ys) zs);
        gsize = omega (arith, gsize, z'.gsize, length-append (x.groups ++ y.groups) z.groups);
        acts = λ t e at s.
            let front = entries_front e n (v.entries ++ ys) zs at in
            let two = entries_back e n o (v.entries ++ ys) zs size at in
            let one = entries_back e n m v.entries ys v.size front in
            v.acts t e (entries_front e n v.entries ys front) (f e s one.0 two.0);
        held = v.held;
        kept = λ e at s gr.
            let front = entries_front e n (v.entries ++ ys) zs at in
            let two = entries_back e n o (v.entries ++ ys) zs size at in
            let one = entries_back e n m v.entries ys v.size front in
            let grf = located_front g (x.groups ++ y.groups) z.groups gr in
            let l = v.kept e (entries_front e n v.entries ys front) (f e s one.0 two.0) (located_front g x.groups y.groups grf) in
            record {
              first = l.first;
              more = all_append e (v.entries ++ ys) zs (x.more ++ blocks_of k y) (blocks_of k2 z)
                  (all_append e v.entries ys x.more (blocks_of k y) l.more (y'.kept e one.0 one.1 (f1 e s one.0 two.0) (located_back g i x.groups y.groups v.gsize grf)))
                  (z'.kept e two.0 two.1 (f2 e s one.0 two.0) (located_back g j (x.groups ++ y.groups) z.groups gsize gr));
            };
      }

  -- and a third one
  pub join_three : (h k k2 k3 : Option Hand) (a : Aim) (gs : List Slotted) (st : ℕ) (outer near far far2 far3 : Entries → Type 0) (n m o q s g i j r d : ℕ) (x y z u : Chunk)
      → Live h a gs st near n m g i x → (y' : Later k far m o i j y) → (z' : Later k2 far2 o q j r z)
      → (u' : Later k3 far3 q s r d u) → ((e : Entries) → outer e → e m ≡ y'.entry → e o ≡ z'.entry → e q ≡ u'.entry → near e)
      → ((e : Entries) → outer e → e m ≡ y'.entry → e o ≡ z'.entry → e q ≡ u'.entry → far e)
      → ((e : Entries) → outer e → e m ≡ y'.entry → e o ≡ z'.entry → e q ≡ u'.entry → far2 e) → ((e : Entries) → outer e → e m ≡ y'.entry → e o ≡ z'.entry → e q ≡ u'.entry → far3 e)
      → Live h a gs st outer n s g d (joined k3 (joined k2 (joined k x y) z) u)
  join_three h k k2 k3 a gs st outer near far far2 far3 n m o q s g i j r d x y z u v y' z' u' f f1 f2 f3 =
      let ys = y'.entry ∷ y'.entries in
      let zs = z'.entry ∷ z'.entries in
      let us = u'.entry ∷ u'.entries in
      let two = (v.entries ++ ys) ++ zs in
      let gs2 = x.groups ++ y.groups in
      let gs3 = gs2 ++ z.groups in
      let size1 : n + length (v.entries ++ ys) ≡ o = omega (arith, v.size, y'.size, length-append v.entries ys) in
      let size2 : n + length two ≡ q = omega (arith, size1, z'.size, length-append (v.entries ++ ys) zs) in
      let gsize1 : g + length gs2 ≡ j = omega (arith, v.gsize, y'.gsize, length-append x.groups y.groups) in
      let gsize2 : g + length gs3 ≡ r = omega (arith, gsize1, z'.gsize, length-append gs2 z.groups) in
      record {
        entries = two ++ us;
        size = omega (arith, size2, u'.size, length-append two us);
        gsize = omega (arith, gsize2, u'.gsize, length-append gs3 u.groups);
        acts = λ t e at w.
            let f0 = entries_front e n two us at in
            let b3 = entries_back e n q two us size2 at in
            let f1' = entries_front e n (v.entries ++ ys) zs f0 in
            let b2 = entries_back e n o (v.entries ++ ys) zs size1 f0 in
            let b1 = entries_back e n m v.entries ys v.size f1' in
            v.acts t e (entries_front e n v.entries ys f1') (f e w b1.0 b2.0 b3.0);
        held = v.held;
        kept = λ e at w gr.
            let f0 = entries_front e n two us at in
            let b3 = entries_back e n q two us size2 at in
            let f1' = entries_front e n (v.entries ++ ys) zs f0 in
            let b2 = entries_back e n o (v.entries ++ ys) zs size1 f0 in
            let b1 = entries_back e n m v.entries ys v.size f1' in
            let gr3 = located_front g gs3 u.groups gr in
            let gr2 = located_front g gs2 z.groups gr3 in
            let l = v.kept e (entries_front e n v.entries ys f1') (f e w b1.0 b2.0 b3.0) (located_front g x.groups y.groups gr2) in
            record {
              first = l.first;
              more = all_append e two us ((x.more ++ blocks_of k y) ++ blocks_of k2 z) (blocks_of k3 u)
                  (all_append e (v.entries ++ ys) zs (x.more ++ blocks_of k y) (blocks_of k2 z)
                  (all_append e v.entries ys x.more (blocks_of k y) l.more (y'.kept e b1.0 b1.1 (f1 e w b1.0 b2.0 b3.0) (located_back g i x.groups y.groups v.gsize gr2)))
                  (z'.kept e b2.0 b2.1 (f2 e w b1.0 b2.0 b3.0) (located_back g j gs2 z.groups gsize1 gr3)))
                  (u'.kept e b3.0 b3.1 (f3 e w b1.0 b2.0 b3.0) (located_back g r gs3 u.groups gsize2 gr));
            };
      }
