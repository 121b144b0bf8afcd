-- What is lost where a body is left: the points to which its ways lead.
use Rattle.std.proofs.Common.{◌≡◌, ◌⊎◌, inl, inr, ℕ, ◌≤◌, Bool, true, false, ◌&&◌, ◌||◌, if◌then◌else◌, refl, ap, sym, subst, ◌∙◌, arith}
use Rattle.std.proofs.lemmas.Bool.{or_left, or_right}
use Rattle.flow_staterule.specs.declared.scope.Point.{Point}
use Rattle.flow_staterule.specs.declared.ways.Reached.{Reached}
use Rattle.flow_staterule.specs.Ways.{at_once, either, is_reached, onward}
use Rattle.flow_staterule.specs.Uses.{behind}

-- with so many locals there, those that are wanted from number `wanted` on are not lost
abbrev pub Meets : (stale wanted there : ℕ) → Type 0
Meets stale wanted there = (there ≤ wanted) ⊎ (stale ≤ wanted)

-- whatever walk leads from a point there, passing a wait or not
pub record Exits (wanted there stale : ℕ) (r : Reached) : Type 0 where
  pub waited : r.waited ≡ true → there ≤ wanted
  pub fresh : r.fresh ≡ true → Meets stale wanted there

and_both : (a b : Bool) → a ≡ true → b ≡ true → a && b ≡ true
and_both true b e f = f
and_both false b e f = cc

or_split : (a b : Bool) → a || b ≡ true → (a ≡ true) ⊎ (b ≡ true)
or_split true b e = inl refl
or_split false b e = inr e

pub exits_left : (w t s : ℕ) (a b : Reached) → Exits w t s (either a b) → Exits w t s a
exits_left w t s a b e = record { waited = λ h. e.waited (or_left a.waited b.waited h); fresh = λ h. e.fresh (or_left a.fresh b.fresh h) }

pub exits_right : (w t s : ℕ) (a b : Reached) → Exits w t s (either a b) → Exits w t s b
exits_right w t s a b e = record { waited = λ h. e.waited (or_right a.waited b.waited h); fresh = λ h. e.fresh (or_right a.fresh b.fresh h) }

pub reached_left : (a b : Reached) → is_reached a ≡ true → is_reached (either a b) ≡ true
reached_left a b h = either_way (or_split a.fresh a.waited h)
  where
    either_way : (a.fresh ≡ true) ⊎ (a.waited ≡ true) → (a.fresh || b.fresh) || (a.waited || b.waited) ≡ true
    either_way (inl e) = or_left (a.fresh || b.fresh) (a.waited || b.waited) (or_left a.fresh b.fresh e)
    either_way (inr e) = or_right (a.fresh || b.fresh) (a.waited || b.waited) (or_left a.waited b.waited e)

pub reached_right : (a b : Reached) → is_reached b ≡ true → is_reached (either a b) ≡ true
reached_right a b h = either_way (or_split b.fresh b.waited h)
  where
    either_way : (b.fresh ≡ true) ⊎ (b.waited ≡ true) → (a.fresh || b.fresh) || (a.waited || b.waited) ≡ true
    either_way (inl e) = or_left (a.fresh || b.fresh) (a.waited || b.waited) (or_right a.fresh b.fresh e)
    either_way (inr e) = or_right (a.fresh || b.fresh) (a.waited || b.waited) (or_right a.waited b.waited e)

-- the number of the locals that are lost behind
pub lost_behind : (d stale : ℕ) (waited : Bool) → ℕ
lost_behind d stale true = d
lost_behind d stale false = stale

-- where a walk leads on from a point to which another one led
pub record Behind (d : ℕ) (p : Point) (r : Reached) : Type 0 where
  pub from : (behind d p r).from ≡ p.from
  pub waited : r.waited ≡ true → (behind d p r).stale ≡ d
  pub fresh : r.waited ≡ false → behind d p r ≡ p

pub behind_is : (d : ℕ) (p : Point) (r : Reached) → is_reached r ≡ true → Behind d p r
behind_is d p r h = record { from = by_from r.fresh r.waited h; waited = λ e. ap (λ b. (behind_by b r.fresh).stale) e; fresh = λ e. by_fresh r.fresh r.waited h e }
  where
    behind_by : (waited fresh : Bool) → Point
    behind_by w f = if w then record p { stale = d } else if f then p else record { from = d; stale = d }

    by_from : (f w : Bool) → f || w ≡ true → (behind_by w f).from ≡ p.from
    by_from f true e = refl
    by_from true false e = refl
    by_from false false e = cc

    by_fresh : (f w : Bool) → f || w ≡ true → w ≡ false → behind_by w f ≡ p
    by_fresh f true e k = cc
    by_fresh true false e k = refl
    by_fresh false false e k = cc

pub exits_onward : (w t d : ℕ) (p : Point) (a b : Reached) → is_reached a ≡ true → Exits w t p.stale (onward a b) → Exits w t (behind d p a).stale b
exits_onward w t d p a b h e = record { waited = λ k. e.waited (passes (or_split a.fresh a.waited h) k); fresh = λ k. by_wait a.waited refl k }
  where
    k : Behind d p a
    k = behind_is d p a h

    passes : (a.fresh ≡ true) ⊎ (a.waited ≡ true) → b.waited ≡ true → (a.waited && is_reached b) || (a.fresh && b.waited) ≡ true
    passes (inl f) q = or_right (a.waited && is_reached b) (a.fresh && b.waited) (and_both a.fresh b.waited f q)
    passes (inr f) q = or_left (a.waited && is_reached b) (a.fresh && b.waited) (and_both a.waited (is_reached b) f (or_right b.fresh b.waited q))

    by_wait : (x : Bool) → a.waited ≡ x → b.fresh ≡ true → Meets (behind d p a).stale w t
    by_wait true f q = inl (e.waited (or_left (a.waited && is_reached b) (a.fresh && b.waited) (and_both a.waited (is_reached b) f (or_left b.fresh b.waited q))))
    by_wait false f q = subst (λ z. Meets z w t) (sym (ap (λ (z : Point). z.stale) (k.fresh f))) (e.fresh (and_both a.fresh b.fresh (fresh_of (or_split a.fresh a.waited h)) q))
      where
        fresh_of : (a.fresh ≡ true) ⊎ (a.waited ≡ true) → a.fresh ≡ true
        fresh_of (inl g) = g
        fresh_of (inr g) = absurd (unlike (sym g ∙ f))
          where
            unlike : true ≡ false → ⊥
            unlike z = cc

pub reached_onward : (a b : Reached) → is_reached a ≡ true → is_reached b ≡ true → is_reached (onward a b) ≡ true
reached_onward a b h k = by_cases a.fresh a.waited b.fresh b.waited h k
  where
    by_cases : (f w g v : Bool) → f || w ≡ true → g || v ≡ true → (f && g) || ((w && (g || v)) || (f && v)) ≡ true
    by_cases true true true v e q = refl
    by_cases true false true v e q = refl
    by_cases true true false true e q = refl
    by_cases true false false true e q = refl
    by_cases false true true v e q = refl
    by_cases false true false true e q = refl
    by_cases f w false false e q = cc
    by_cases false false g v e q = cc

-- the point behind itself
pub exits_self : (d : ℕ) (p : Point) (r : Reached) → Exits (behind d p r).stale d p.stale r
exits_self d p r = record { waited = λ h. passes h; fresh = λ h. by_wait r.waited refl h }
  where
    passes : r.waited ≡ true → d ≤ (behind d p r).stale
    passes h =
        let k = behind_is d p r (or_right r.fresh r.waited h) in
        let e = k.waited h in
        omega (arith, e)

    by_wait : (x : Bool) → r.waited ≡ x → r.fresh ≡ true → Meets p.stale (behind d p r).stale d
    by_wait true f h = inl (passes f)
    by_wait false f h =
        let k = behind_is d p r (or_left r.fresh r.waited h) in
        let e = ap (λ (z : Point). z.stale) (k.fresh f) in
        inr (omega (arith, e))

-- from a point that is no worse
pub exits_less : (w t s z : ℕ) (r : Reached) → Meets z s t → Exits w t s r → ((r.fresh ≡ true) → Meets z w t) → Exits w t z r
exits_less w t s z r m e f = record { waited = e.waited; fresh = f }

-- with fewer locals there
pub fewer : (w t u s : ℕ) (r : Reached) → u ≤ t → Exits w t s r → Exits w u s r
fewer w t u s r le e = record { waited = λ h. less (e.waited h); fresh = λ h. meets (e.fresh h) }
  where
    less : t ≤ w → u ≤ w
    less h = omega arith

    meets : Meets s w t → Meets s w u
    meets (inl h) = inl (omega arith)
    meets (inr h) = inr h

pub at_once_meets : (w t s : ℕ) → Exits w t s at_once → Meets s w t
at_once_meets w t s e = e.fresh refl
