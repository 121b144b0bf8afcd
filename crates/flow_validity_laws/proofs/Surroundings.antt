-- The ways out of a body, and what is filled where they lead.
use Rattle.std.proofs.Common.{◌≡◌, inl, ℕ, zero, suc, ◌≤◌, Bool, true, false, ◌&&◌, ◌||◌, List, [], ◌∷◌, ◌++◌, length, map, refl, ap}
use Rattle.std.specs.declared.option.Option.{Option}
use Rattle.std.specs.declared.option.Option.TheVariants.{None, Some}
use Rattle.flow_class.specs.declared.class.Slotted.TheVariants as place
use Rattle.flow_class.specs.Classes.{CatcherTree, DropInstr, LastTree, GotoLast, PassLast, ClassTree}
use Rattle.flow_class.specs.Code.{Last}
use Rattle.flow_class.specs.Scopes.{Scope, scope, outside}
use Rattle.flow_catch.specs.Inner.{inner_locals, listed as with_list, left_lists}
use Rattle.flow_staterule.specs.declared.scope.Point.{Point}
use Rattle.flow_staterule.specs.declared.ways.Reached.{Reached}
use Rattle.flow_staterule.specs.declared.ways.Ways.{Ways}
use Rattle.flow_staterule.specs.Ways.{at_once, either, is_reached, onward, both, follow, sequence, empty}
use Rattle.flow_staterule.specs.Uses.{behind}
use Rattle.flow_split.specs.Around.{Exit, Text, Scoped, Part, Hand, Around}
use Rattle.flow_split.specs.Lowered.{drop_of}
use Rattle.flow_valid.specs.Filling.{reads}
use Rattle.flow_validity_laws.proofs.Walks.{Places, AllIn, after, Leads, Kept}
use Rattle.flow_validity_laws.proofs.Waysides.{Meets, Exits, exits_left, exits_right, exits_onward, reached_left, reached_right, reached_onward}
use Rattle.flow_validity_laws.proofs.Lines.{filled, Covers, in_none}
use Rattle.flow_validity_laws.proofs.Entries.{AllFrom, Aim, IsBelow, covers_dropped, Entries, enters, HandFact, Guard, catches}

-- walks that go on at once are as they were
pub onward_once : (r : Reached) → onward r at_once ≡ r
onward_once r = λ i. record { fresh = same_fresh r.fresh i; waited = same_waited r.fresh r.waited i }
  where
    same_fresh : (f : Bool) → f && true ≡ f
    same_fresh true = refl
    same_fresh false = refl

    same_waited : (f w : Bool) → (w && true) || (f && false) ≡ w
    same_waited true true = refl
    same_waited true false = refl
    same_waited false true = refl
    same_waited false false = refl

pub behind_once : (d : ℕ) (p : Point) (u : Ways) → behind d p (sequence u empty).ends ≡ behind d p u.ends
behind_once d p u = ap (behind d p) (onward_once u.ends)

-- where a loop around, its rounds, the end of a body and the handler around lead
pub record Aims : Type 0 where
  pub end : Aim
  pub out : Aim
  pub again : Aim
  pub hand : Aim

pub from_split : (u : ℕ) (ns ms : List ℕ) → AllFrom u (ns ++ ms) → AllFrom u ns × AllFrom u ms
from_split u [] ms h = (tt, h)
from_split u (n ∷ ns) ms h = let r = from_split u ns ms h.1 in ((h.0, r.0), r.1)

abbrev EachFrom : ℕ → List (List ℕ) → Type 0
EachFrom u [] = Unit {0}
EachFrom u (ns ∷ lists) = AllFrom u ns × EachFrom u lists

with_from : (u : ℕ) (ns : List ℕ) (lists : List (List ℕ)) → AllFrom u ns → EachFrom u lists → EachFrom u (with_list ns lists)
with_from u [] lists h k = k
with_from u (n ∷ ns) lists h k = (h, k)

pub lists_from : (u d : ℕ) (s : Scope) → AllFrom u (inner_locals d s) → EachFrom u (left_lists d s)
lists_from u zero s h = tt
lists_from u (suc d) s h =
    let r = from_split u (scope s) (inner_locals d (outside s)) h in
    with_from u (scope s) (left_lists d (outside s)) r.0 (lists_from u d (outside s) r.1)

module _ (c : ClassTree) (e : Entries c) where
  pub record Way (t : ℕ) (a : Aim) (p : Point) (r : Reached) : Type 0 where
    pub reached : is_reached r ≡ true → e t ≡ Some (filled a.places a.stale)
    pub exits : Exits a.stale (length a.places) p.stale r

  pub way_left : (t : ℕ) (a : Aim) (p : Point) (r q : Reached) → Way t a p (either r q) → Way t a p r
  way_left t a p r q w = record { reached = λ h. w.reached (reached_left r q h); exits = exits_left a.stale (length a.places) p.stale r q w.exits }

  pub way_right : (t : ℕ) (a : Aim) (p : Point) (r q : Reached) → Way t a p (either r q) → Way t a p q
  way_right t a p r q w = record { reached = λ h. w.reached (reached_right r q h); exits = exits_right a.stale (length a.places) p.stale r q w.exits }

  pub way_onward : (t : ℕ) (a : Aim) (d : ℕ) (p : Point) (r q : Reached) → is_reached r ≡ true → Way t a p (onward r q) → Way t a (behind d p r) q
  way_onward t a d p r q h w = record { reached = λ k. w.reached (reached_onward r q h k); exits = exits_onward a.stale (length a.places) d p r q h w.exits }

  abbrev pub LastWay : LastTree → Aim → Point → Reached → Type 0
  LastWay (GotoLast t) a p r = Way t a p r
  LastWay (PassLast t) a p r = Way t a p r
  LastWay _ a p r = ⊥

  pub last_left : (l : LastTree) (a : Aim) (p : Point) (r q : Reached) → LastWay l a p (either r q) → LastWay l a p r
  last_left (GotoLast t) a p r q w = way_left t a p r q w
  last_left (PassLast t) a p r q w = way_left t a p r q w
  last_left _ a p r q w = absurd w

  pub last_right : (l : LastTree) (a : Aim) (p : Point) (r q : Reached) → LastWay l a p (either r q) → LastWay l a p q
  last_right (GotoLast t) a p r q w = way_right t a p r q w
  last_right (PassLast t) a p r q w = way_right t a p r q w
  last_right _ a p r q w = absurd w

  pub last_onward : (l : LastTree) (a : Aim) (d : ℕ) (p : Point) (r q : Reached) → is_reached r ≡ true → LastWay l a p (onward r q) → LastWay l a (behind d p r) q
  last_onward (GotoLast t) a d p r q h w = way_onward t a d p r q h w
  last_onward (PassLast t) a d p r q h w = way_onward t a d p r q h w
  last_onward _ a d p r q h w = absurd w

  abbrev pub EndWay : Exit → Aim → Point → Reached → Type 0
  EndWay (Text close) a p r = Unit {0}
  EndWay (Scoped l) a p r = LastWay l a p r
  EndWay (Part l) a p r = ⊥

  pub end_onward : (x : Exit) (a : Aim) (d : ℕ) (p : Point) (r q : Reached) → is_reached r ≡ true → EndWay x a p (onward r q) → EndWay x a (behind d p r) q
  end_onward (Text close) a d p r q h w = tt
  end_onward (Scoped l) a d p r q h w = last_onward l a d p r q h w
  end_onward (Part l) a d p r q h w = absurd w

  pub record HandSide (k : Hand) (a : Aim) (p : Point) (r : Reached) : Type 0 where
    pub reached : is_reached r ≡ true → e k.block ≡ Some (filled (place.Local k.error ∷ a.places) a.stale)
    pub exits : Exits a.stale (length a.places) p.stale r

  abbrev pub HandWay : Option Hand → Aim → Point → Reached → Type 0
  HandWay None a p r = Unit {0}
  HandWay (Some k) a p r = HandSide k a p r

  pub hand_left : (h : Option Hand) (a : Aim) (p : Point) (r q : Reached) → HandWay h a p (either r q) → HandWay h a p r
  hand_left None a p r q w = tt
  hand_left (Some k) a p r q w = record { reached = λ h. w.reached (reached_left r q h); exits = exits_left a.stale (length a.places) p.stale r q w.exits }

  pub hand_right : (h : Option Hand) (a : Aim) (p : Point) (r q : Reached) → HandWay h a p (either r q) → HandWay h a p q
  hand_right None a p r q w = tt
  hand_right (Some k) a p r q w = record { reached = λ h. w.reached (reached_right r q h); exits = exits_right a.stale (length a.places) p.stale r q w.exits }

  pub hand_onward : (h : Option Hand) (a : Aim) (d : ℕ) (p : Point) (r q : Reached) → is_reached r ≡ true → HandWay h a p (onward r q) → HandWay h a (behind d p r) q
  hand_onward None a d p r q h w = tt
  hand_onward (Some k) a d p r q h w = record { reached = λ z. w.reached (reached_onward r q h z); exits = exits_onward a.stale (length a.places) d p r q h w.exits }

  -- a statement that is reached knows the handler around
  meets_by : (w t s : ℕ) (f x : Bool) → f || x ≡ true → (x ≡ true → t ≤ w) → (f ≡ true → Meets s w t) → Meets s w t
  meets_by w t s true x h k m = m refl
  meets_by w t s false true h k m = inl (k refl)
  meets_by w t s false false h k m = cc

  pub hand_fact : (h : Option Hand) (a : Aim) (p : Point) (r : Reached) → is_reached r ≡ true → HandWay h a p r → HandFact c e h a p.stale
  hand_fact None a p r h w = tt
  hand_fact (Some k) a p r h w = (w.reached h, meets_by a.stale (length a.places) p.stale r.fresh r.waited h w.exits.waited w.exits.fresh)

  -- the ways beside the end
  pub record Sides (l : Bool) (w : Around) (a : Aims) (p : Point) (v : Ways) : Type 0 where
    pub out : l ≡ true → Way w.looped.out a.out p v.breaks
    pub again : l ≡ true → LastWay w.looped.again a.again p v.continues
    pub hand : HandWay w.hand a.hand p v.throws

  pub sides_left : (l : Bool) (w : Around) (a : Aims) (p : Point) (u v : Ways) → Sides l w a p (both u v) → Sides l w a p u
  sides_left l w a p u v s = record {
    out = λ h. way_left w.looped.out a.out p u.breaks v.breaks (s.out h);
    again = λ h. last_left w.looped.again a.again p u.continues v.continues (s.again h);
    hand = hand_left w.hand a.hand p u.throws v.throws s.hand;
  }

  pub sides_right : (l : Bool) (w : Around) (a : Aims) (p : Point) (u v : Ways) → Sides l w a p (both u v) → Sides l w a p v
  sides_right l w a p u v s = record {
    out = λ h. way_right w.looped.out a.out p u.breaks v.breaks (s.out h);
    again = λ h. last_right w.looped.again a.again p u.continues v.continues (s.again h);
    hand = hand_right w.hand a.hand p u.throws v.throws s.hand;
  }

  pub sides_onward : (l : Bool) (w : Around) (a : Aims) (d : ℕ) (p : Point) (r : Reached) (v : Ways) → is_reached r ≡ true → Sides l w a p (follow r v) → Sides l w a (behind d p r) v
  sides_onward l w a d p r v h s = record {
    out = λ z. way_onward w.looped.out a.out d p r v.breaks h (s.out z);
    again = λ z. last_onward w.looped.again a.again d p r v.continues h (s.again z);
    hand = hand_onward w.hand a.hand d p r v.throws h s.hand;
  }

  pub sides_first : (l : Bool) (w : Around) (a : Aims) (p : Point) (u v : Ways) → Sides l w a p (sequence u v) → Sides l w a p u
  sides_first l w a p u v s = record {
    out = λ h. way_left w.looped.out a.out p u.breaks (onward u.ends v.breaks) (s.out h);
    again = λ h. last_left w.looped.again a.again p u.continues (onward u.ends v.continues) (s.again h);
    hand = hand_left w.hand a.hand p u.throws (onward u.ends v.throws) s.hand;
  }

  pub sides_second : (l : Bool) (w : Around) (a : Aims) (d : ℕ) (p : Point) (u v : Ways) → is_reached u.ends ≡ true → Sides l w a p (sequence u v) → Sides l w a (behind d p u.ends) v
  sides_second l w a d p u v h s = record {
    out = λ z. way_onward w.looped.out a.out d p u.ends v.breaks h (way_right w.looped.out a.out p u.breaks (onward u.ends v.breaks) (s.out z));
    again = λ z. last_onward w.looped.again a.again d p u.ends v.continues h (last_right w.looped.again a.again p u.continues (onward u.ends v.continues) (s.again z));
    hand = hand_onward w.hand a.hand d p u.ends v.throws h (hand_right w.hand a.hand p u.throws (onward u.ends v.throws) s.hand);
  }

  -- a jump
  pub leads_last : (kc : Option CatcherTree) (s : Places) (l : LastTree) (a : Aim) (p : Point) (r : Reached) → is_reached r ≡ true → LastWay l a p r → Covers s a.places p.stale → Leads c e kc s l
  leads_last kc s (GotoLast t) a p r h w cover = enters c e s t a.places a.places p.stale a.stale cover (w.reached h) (λ j q k. k)
      (meets_by a.stale (length a.places) p.stale r.fresh r.waited h w.exits.waited w.exits.fresh)
  leads_last kc s (PassLast t) a p r h w cover = enters c e s t a.places a.places p.stale a.stale cover (w.reached h) (λ j q k. k)
      (meets_by a.stale (length a.places) p.stale r.fresh r.waited h w.exits.waited w.exits.fresh)
  leads_last kc s _ a p r h w cover = absurd w

  reads_no_place : (s : Places) (l : LastTree) (a : Aim) (p : Point) (r : Reached) → LastWay l a p r → AllIn (reads c (Last l)) s
  reads_no_place s (GotoLast t) a p r w = in_none s
  reads_no_place s (PassLast t) a p r w = in_none s
  reads_no_place s _ a p r w = absurd w

  -- scopes are left, and then comes a jump
  pub lists_kept : (h : Option Hand) (hand : Aim) (kc : Option CatcherTree) (lists : List (List ℕ)) (l : LastTree) (a : Aim) (p : Point) (r : Reached) (s : Places) → is_reached r ≡ true
      → LastWay l a p r → IsBelow a → IsBelow hand
      → EachFrom a.from lists → EachFrom hand.from lists → Covers s a.places p.stale → Covers s hand.places p.stale → Guard c e h hand kc p.stale → Kept c e kc s (map DropInstr lists) l
  lists_kept h hand kc [] l a p r s reached way below under from over cover near g =
      (reads_no_place s l a p r way, catches c e h hand kc p.stale s under g near, leads_last kc s l a p r reached way cover)
  lists_kept h hand kc (ns ∷ lists) l a p r s reached way below under from over cover near g = (
    in_none s,
    catches c e h hand kc p.stale s under g near,
    lists_kept h hand kc lists l a p r (after (DropInstr ns) s) reached way below under from.1 over.1 (covers_dropped a ns p.stale s below from.0 cover)
        (covers_dropped hand ns p.stale s under over.0 near) g,
  )

  pub drop_kept : (h : Option Hand) (hand : Aim) (kc : Option CatcherTree) (ds : List ℕ) (l : LastTree) (a : Aim) (p : Point) (r : Reached) (s : Places) → is_reached r ≡ true → LastWay l a p r
      → IsBelow a → IsBelow hand
      → AllFrom a.from ds → AllFrom hand.from ds → Covers s a.places p.stale → Covers s hand.places p.stale → Guard c e h hand kc p.stale → Kept c e kc s (drop_of ds) l
  drop_kept h hand kc [] l a p r s reached way below under from over cover near g = lists_kept h hand kc [] l a p r s reached way below under tt tt cover near g
  drop_kept h hand kc (d ∷ ds) l a p r s reached way below under from over cover near g = lists_kept h hand kc ((d ∷ ds) ∷ []) l a p r s reached way below under (from, tt) (over, tt) cover near g
