-- What is known behind walks of some kind: the variables in force are the oldest of those before, those that reached the point
-- reach what follows, and those that were stale, or are led past a wait, are stale.
use Rattle.std.proofs.Common.{◌≡◌, ℕ, ◌<◌, ◌≤◌, Bool, true, false, ◌||◌, ◌&&◌, ◌⊎◌, inl, inr, List, [], ◌∷◌, length, refl, sym, ap, subst, arith}
use Rattle.std.proofs.lemmas.Bool.{false≢true}
use Rattle.std.specs.Prelude.{is_some}
use Rattle.std.specs.declared.option.Option.{Option}
use Rattle.std.specs.declared.option.Option.TheVariants.{None, Some}
use Rattle.flow_staterule.specs.declared.scope.Point.{Point}
use Rattle.flow_staterule.specs.declared.ways.Reached.{Reached}
use Rattle.flow_staterule.specs.declared.ways.Ways.{Ways}
use Rattle.flow_staterule.specs.Ways.{never, at_once, either, is_reached, onward, both, follow, sequence, round, with_step, head, past, looped, handled}
use Rattle.flow_staterule.specs.Uses.{behind}
use Rattle.flow_typing_laws.specs.ControlFlow.Control.{Around, followed_by, in_loop, in_step, in_try}
use Rattle.flow_typing_laws.specs.ControlFlow.Mentions.{Declared, Named}
use Rattle.flow_typing_laws.proofs.ControlFlow.Notes.{Note, note, behind_all}

-- the j-th variable, from the oldest, is a local that is declared so
abbrev pub Has : List Named → ℕ → Declared → Type 0
Has [] j d = ⊥
Has (v ∷ vs) j d = ((j ≡ length vs) × (v.local ≡ Some d)) ⊎ Has vs j d

pub has_below : (vs : List Named) (j : ℕ) (d : Declared) → Has vs j d → j < length vs
has_below [] j d h = absurd h
has_below (v ∷ vs) j d (inl e) = let f = e.0 in omega (arith, f)
has_below (v ∷ vs) j d (inr h) = let f = has_below vs j d h in omega (arith, f)

pub record Into (r : Reached) (vs : List Named) (p : Point) (y : Note) : Type 0 where
  pub keeps : (j : ℕ) (d : Declared) → Has y.named j d → Has vs j d
  pub from : (j : ℕ) (d : Declared) → Has y.named j d → is_reached r ≡ true → p.from ≤ j → y.point.from ≤ j
  pub stale : (j : ℕ) (d : Declared) → Has y.named j d → is_reached r ≡ true → p.from ≤ j → (r.waited ≡ true) ⊎ (j < p.stale) → j < y.point.stale

-- walks of the one kind are among those of the other
pub record Less (r s : Reached) : Type 0 where
  pub reached : is_reached r ≡ true → is_reached s ≡ true
  pub waited : r.waited ≡ true → s.waited ≡ true

pub into_less : (r s : Reached) (vs : List Named) (p : Point) (y : Note) → Less r s → Into s vs p y → Into r vs p y
into_less r s vs p y l i = record {
  keeps = i.keeps;
  from = λ j d h e f. i.from j d h (l.reached e) f;
  stale = λ j d h e f. elim [ inl w ↦ i.stale j d h (l.reached e) f (inl (l.waited w)) | inr o ↦ i.stale j d h (l.reached e) f (inr o) ];
}

or_left : (a b : Bool) → a ≡ true → a || b ≡ true
or_left true b e = refl
or_left false b e = absurd (false≢true e)

or_right : (a b : Bool) → b ≡ true → a || b ≡ true
or_right true b e = refl
or_right false b e = e

or_cases : (a b : Bool) → a || b ≡ true → (a ≡ true) ⊎ (b ≡ true)
or_cases true b e = inl refl
or_cases false b e = inr e

and_both : (a b : Bool) → a ≡ true → b ≡ true → a && b ≡ true
and_both true b e f = f
and_both false b e f = absurd (false≢true e)

pub less_same : (r : Reached) → Less r r
less_same r = record { reached = λ e. e; waited = λ e. e }

pub less_left : (r s : Reached) → Less r (either r s)
less_left r s = record {
  reached = λ e. elim (or_cases r.fresh r.waited e) [
    | inl f ↦ or_left (r.fresh || s.fresh) (r.waited || s.waited) (or_left r.fresh s.fresh f)
    | inr w ↦ or_right (r.fresh || s.fresh) (r.waited || s.waited) (or_left r.waited s.waited w)
  ];
  waited = λ e. or_left r.waited s.waited e;
}

pub less_right : (r s : Reached) → Less s (either r s)
less_right r s = record {
  reached = λ e. elim (or_cases s.fresh s.waited e) [
    | inl f ↦ or_left (r.fresh || s.fresh) (r.waited || s.waited) (or_right r.fresh s.fresh f)
    | inr w ↦ or_right (r.fresh || s.fresh) (r.waited || s.waited) (or_right r.waited s.waited w)
  ];
  waited = λ e. or_right r.waited s.waited e;
}

pub less_then : (r s t : Reached) → Less r s → Less s t → Less r t
less_then r s t a b = record { reached = λ e. b.reached (a.reached e); waited = λ e. b.waited (a.waited e) }

pub less_never : (r : Reached) → Less never r
less_never r = record { reached = λ e. absurd (false≢true e); waited = λ e. absurd (false≢true e) }

-- at once, or behind rounds
pub less_head : (w : Ways) → Less at_once (head w)
less_head w = record { reached = λ e. refl; waited = λ e. absurd (false≢true e) }

-- a part of the way, and then the rest
into_then_cases : (f w : Bool) (s : Reached) (vs : List Named) (p : Point) (y : Note) → Into (onward (record { fresh = f; waited = w }) s) vs p y
    → Into s vs (behind (length vs) p (record { fresh = f; waited = w })) y
into_then_cases f true s vs p y i = record {
  keeps = i.keeps;
  from = λ j d h e g. i.from j d h (or_right (f && s.fresh) (is_reached s || (f && s.waited)) (or_left (is_reached s) (f && s.waited) e)) g;
  stale = λ j d h e g o. i.stale j d h (or_right (f && s.fresh) (is_reached s || (f && s.waited)) (or_left (is_reached s) (f && s.waited) e)) g (inl (or_left (is_reached s) (f && s.waited) e));
}
into_then_cases true false s vs p y i = i
into_then_cases false false s vs p y i = record {
  keeps = i.keeps;
  from = λ j d h e g. let l = has_below vs j d (i.keeps j d h) in absurd (omega (arith, l, g));
  stale = λ j d h e g o. let l = has_below vs j d (i.keeps j d h) in absurd (omega (arith, l, g));
}

pub into_then : (r s : Reached) (vs : List Named) (p : Point) (y : Note) → Into (onward r s) vs p y → Into s vs (behind_all vs p r) y
into_then r s vs p y i = into_then_cases r.fresh r.waited s vs p y i

-- with more variables in force
pub into_deeper : (r : Reached) (v : Named) (vs : List Named) (p : Point) (y : Note) → Into r vs p y → Into r (v ∷ vs) p y
into_deeper r v vs p y i = record { keeps = λ j d h. inr (i.keeps j d h); from = i.from; stale = i.stale }

-- the point itself
into_self_cases : (f w : Bool) (vs : List Named) (p : Point) → Into (record { fresh = f; waited = w }) vs p (note vs (behind (length vs) p (record { fresh = f; waited = w })))
into_self_cases f true vs p = record { keeps = λ j d h. h; from = λ j d h e g. g; stale = λ j d h e g o. has_below vs j d h }
into_self_cases true false vs p = record { keeps = λ j d h. h; from = λ j d h e g. g; stale = λ j d h e g. elim [ inl x ↦ absurd (false≢true x) | inr l ↦ l ] }
into_self_cases false false vs p = record { keeps = λ j d h. h; from = λ j d h e g. absurd (false≢true e); stale = λ j d h e g o. absurd (false≢true e) }

pub into_self : (r : Reached) (vs : List Named) (p : Point) → Into r vs p (note vs (behind_all vs p r))
into_self r vs p = into_self_cases r.fresh r.waited vs p

-- on from the point behind, and back to the point before
less_cut_cases : (f w : Bool) → Less (onward (record { fresh = f; waited = w }) at_once) (record { fresh = f; waited = w })
less_cut_cases true true = record { reached = λ e. refl; waited = λ e. refl }
less_cut_cases true false = record { reached = λ e. refl; waited = λ e. absurd (false≢true e) }
less_cut_cases false true = record { reached = λ e. refl; waited = λ e. refl }
less_cut_cases false false = record { reached = λ e. e; waited = λ e. e }

pub into_on : (r : Reached) (vs : List Named) (p : Point) (y : Note) → Into r vs p y → Into at_once vs (behind_all vs p r) y
into_on r vs p y i = into_then r at_once vs p y (into_less (onward r at_once) r vs p y (less_cut_cases r.fresh r.waited) i)

behind_from_cases : (f w : Bool) (d j : ℕ) (p : Point) → f || w ≡ true → p.from ≤ j → (behind d p (record { fresh = f; waited = w })).from ≤ j
behind_from_cases f true d j p e l = l
behind_from_cases true false d j p e l = l
behind_from_cases false false d j p e l = absurd (false≢true e)

pub behind_from : (r : Reached) (vs : List Named) (j : ℕ) (p : Point) → is_reached r ≡ true → p.from ≤ j → (behind_all vs p r).from ≤ j
behind_from r vs j p e l = behind_from_cases r.fresh r.waited (length vs) j p e l

behind_stale_cases : (f w : Bool) (d j : ℕ) (p : Point) → j < d → f || w ≡ true → (w ≡ true) ⊎ (j < p.stale) → j < (behind d p (record { fresh = f; waited = w })).stale
behind_stale_cases f true d j p l e o = l
behind_stale_cases true false d j p l e (inl x) = absurd (false≢true x)
behind_stale_cases true false d j p l e (inr x) = x
behind_stale_cases false false d j p l e o = absurd (false≢true e)

pub behind_stale : (r : Reached) (vs : List Named) (j : ℕ) (p : Point) → j < length vs → is_reached r ≡ true → (r.waited ≡ true) ⊎ (j < p.stale) → j < (behind_all vs p r).stale
behind_stale r vs j p l e o = behind_stale_cases r.fresh r.waited (length vs) j p l e o

within_behind_cases : (f w : Bool) (d : ℕ) (p : Point) → p.from ≤ d → (behind d p (record { fresh = f; waited = w })).from ≤ d
within_behind_cases f true d p l = l
within_behind_cases true false d p l = l
within_behind_cases false false d p l = omega arith

pub within_behind : (r : Reached) (vs : List Named) (p : Point) → p.from ≤ length vs → (behind_all vs p r).from ≤ length vs
within_behind r vs p l = within_behind_cases r.fresh r.waited (length vs) p l

pub into_back : (r : Reached) (vs : List Named) (p : Point) (y : Note) → Into at_once vs (behind_all vs p r) y → Into r vs p y
into_back r vs p y i = record {
  keeps = i.keeps;
  from = λ j d h e l. i.from j d h refl (behind_from r vs j p e l);
  stale = λ j d h e l o. i.stale j d h refl (behind_from r vs j p e l) (inr (behind_stale r vs j p (has_below vs j d (i.keeps j d h)) e o));
}

into_dead : (r s : Reached) (vs : List Named) (p : Point) (y : Note) → Into r vs p y → Into s vs (behind_all vs p never) y
into_dead r s vs p y i = record {
  keeps = i.keeps;
  from = λ j d h e g. let l = has_below vs j d (i.keeps j d h) in absurd (omega (arith, l, g));
  stale = λ j d h e g o. let l = has_below vs j d (i.keeps j d h) in absurd (omega (arith, l, g));
}

-- behind a round of a loop
into_round_cases : (r : Reached) (w : Bool) (vs : List Named) (p : Point) → (r.waited ≡ true → w ≡ true)
    → Into r vs (behind (length vs) p (record { fresh = true; waited = w })) (note vs (behind (length vs) p (record { fresh = true; waited = w })))
into_round_cases r true vs p f = record { keeps = λ j d h. h; from = λ j d h e g. g; stale = λ j d h e g o. has_below vs j d h }
into_round_cases r false vs p f = record { keeps = λ j d h. h; from = λ j d h e g. g; stale = λ j d h e g. elim [ inl x ↦ absurd (false≢true (f x)) | inr l ↦ l ] }

pub into_round : (r : Reached) (w : Ways) (vs : List Named) (p : Point) → (r.waited ≡ true → (round w).waited ≡ true) → Into r vs (behind_all vs p (head w)) (note vs (behind_all vs p (head w)))
into_round r w vs p f = into_round_cases r (round w).waited vs p f

abbrev pub or_zero : Option ℕ → ℕ
or_zero None = 0
or_zero (Some n) = n

pub some_same : (m n : ℕ) → Some m ≡ Some n → m ≡ n
some_same m n e = ap or_zero e

pub none_some : (n : ℕ) → None ≡ Some n → ⊥
none_some n e = false≢true (ap is_some e)

-- Where a part of a body leads, in the words of what is known there.
module _ (tell : ℕ → Note) where
  pub record Exits (w : Ways) (vs : List Named) (p : Point) (a : Around) : Type 0 where
    pub follows : Into w.ends vs p (tell a.follows)
    pub breaks : (n : ℕ) → a.breaks ≡ Some n → Into w.breaks vs p (tell n)
    pub continues : (n : ℕ) → a.continues ≡ Some n → Into w.continues vs p (tell n)
    pub catches : (n : ℕ) → a.catches ≡ Some n → Into w.throws vs p (tell n)

  -- what follows the first part of a sequence
  pub exits_rest : (w v : Ways) (vs : List Named) (p : Point) (a : Around) → Exits (sequence w v) vs p a → Exits v vs (behind_all vs p w.ends) a
  exits_rest w v vs p a e = record {
    follows = into_then w.ends v.ends vs p (tell a.follows) e.follows;
    breaks = λ n h. into_then w.ends v.breaks vs p (tell n) (into_less (onward w.ends v.breaks) _ vs p (tell n) (less_right w.breaks (onward w.ends v.breaks)) (e.breaks n h));
    continues = λ n h. into_then w.ends v.continues vs p (tell n) (into_less (onward w.ends v.continues) _ vs p (tell n) (less_right w.continues (onward w.ends v.continues)) (e.continues n h));
    catches = λ n h. into_then w.ends v.throws vs p (tell n) (into_less (onward w.ends v.throws) _ vs p (tell n) (less_right w.throws (onward w.ends v.throws)) (e.catches n h));
  }

  -- the first part
  pub exits_first : (w v : Ways) (vs : List Named) (p : Point) (a : Around) (f : ℕ) → Exits (sequence w v) vs p a → Into w.ends vs p (tell f) → Exits w vs p (followed_by a f)
  exits_first w v vs p a f e i = record {
    follows = i;
    breaks = λ n h. into_less w.breaks _ vs p (tell n) (less_left w.breaks (onward w.ends v.breaks)) (e.breaks n h);
    continues = λ n h. into_less w.continues _ vs p (tell n) (less_left w.continues (onward w.ends v.continues)) (e.continues n h);
    catches = λ n h. into_less w.throws _ vs p (tell n) (less_left w.throws (onward w.ends v.throws)) (e.catches n h);
  }

  pub exits_left : (w v : Ways) (vs : List Named) (p : Point) (a : Around) → Exits (both w v) vs p a → Exits w vs p a
  exits_left w v vs p a e = record {
    follows = into_less w.ends _ vs p (tell a.follows) (less_left w.ends v.ends) e.follows;
    breaks = λ n h. into_less w.breaks _ vs p (tell n) (less_left w.breaks v.breaks) (e.breaks n h);
    continues = λ n h. into_less w.continues _ vs p (tell n) (less_left w.continues v.continues) (e.continues n h);
    catches = λ n h. into_less w.throws _ vs p (tell n) (less_left w.throws v.throws) (e.catches n h);
  }

  pub exits_right : (w v : Ways) (vs : List Named) (p : Point) (a : Around) → Exits (both w v) vs p a → Exits v vs p a
  exits_right w v vs p a e = record {
    follows = into_less v.ends _ vs p (tell a.follows) (less_right w.ends v.ends) e.follows;
    breaks = λ n h. into_less v.breaks _ vs p (tell n) (less_right w.breaks v.breaks) (e.breaks n h);
    continues = λ n h. into_less v.continues _ vs p (tell n) (less_right w.continues v.continues) (e.continues n h);
    catches = λ n h. into_less v.throws _ vs p (tell n) (less_right w.throws v.throws) (e.catches n h);
  }

  -- behind a wait
  pub exits_follow : (r : Reached) (w : Ways) (vs : List Named) (p : Point) (a : Around) → Exits (follow r w) vs p a → Exits w vs (behind_all vs p r) a
  exits_follow r w vs p a e = record {
    follows = into_then r w.ends vs p (tell a.follows) e.follows;
    breaks = λ n h. into_then r w.breaks vs p (tell n) (e.breaks n h);
    continues = λ n h. into_then r w.continues vs p (tell n) (e.continues n h);
    catches = λ n h. into_then r w.throws vs p (tell n) (e.catches n h);
  }

  pub exits_deeper : (w : Ways) (v : Named) (vs : List Named) (p : Point) (a : Around) → Exits w vs p a → Exits w (v ∷ vs) p a
  exits_deeper w v vs p a e = record {
    follows = into_deeper w.ends v vs p (tell a.follows) e.follows;
    breaks = λ n h. into_deeper w.breaks v vs p (tell n) (e.breaks n h);
    continues = λ n h. into_deeper w.continues v vs p (tell n) (e.continues n h);
    catches = λ n h. into_deeper w.throws v vs p (tell n) (e.catches n h);
  }

  -- what is dead
  pub exits_dead : (w v : Ways) (vs : List Named) (p : Point) (a : Around) → Exits w vs p a → Exits v vs (behind_all vs p never) a
  exits_dead w v vs p a e = record {
    follows = into_dead w.ends v.ends vs p (tell a.follows) e.follows;
    breaks = λ n h. into_dead w.breaks v.breaks vs p (tell n) (e.breaks n h);
    continues = λ n h. into_dead w.continues v.continues vs p (tell n) (e.continues n h);
    catches = λ n h. into_dead w.throws v.throws vs p (tell n) (e.catches n h);
  }

  -- the rounds of a loop, which end at a point at which their begin is known
  pub exits_looped : (leads : Bool) (w : Ways) (vs : List Named) (p : Point) (a : Around) (m : ℕ) → Exits (looped leads w) vs p a → tell m ≡ note vs (behind_all vs p (head w))
      → Exits w vs (behind_all vs p (head w)) (in_loop a m)
  exits_looped leads w vs p a m e t = record {
    follows = subst (Into w.ends vs (behind_all vs p (head w))) (sym t) (into_round w.ends w vs p (λ x. or_left w.ends.waited w.continues.waited x));
    breaks = λ n h. into_then (head w) w.breaks vs p (tell n) (subst (λ x. Into (onward (head w) w.breaks) vs p (tell x)) (some_same a.follows n h)
        (into_less (onward (head w) w.breaks) _ vs p (tell a.follows) (less_right (past leads (head w)) (onward (head w) w.breaks)) e.follows));
    continues = λ n h. subst (λ x. Into w.continues vs (behind_all vs p (head w)) (tell x)) (some_same m n h)
        (subst (Into w.continues vs (behind_all vs p (head w))) (sym t) (into_round w.continues w vs p (λ x. or_right w.ends.waited w.continues.waited x)));
    catches = λ n h. into_then (head w) w.throws vs p (tell n) (into_less (onward (head w) w.throws) _ vs p (tell n) (less_right (head w) (onward (head w) w.throws)) (e.catches n h));
  }

  -- a round of a `for`, whose body is followed by the step or by the begin of the next round
  pub exits_body : (w s : Ways) (vs : List Named) (h : Point) (a : Around) (l m : ℕ) → Exits (with_step w s) vs h (in_loop a l) → Into (round w) vs h (tell m) → Exits w vs h (in_loop a m)
  exits_body w s vs h a l m e i = record {
    follows = into_less w.ends (round w) vs h (tell m) (less_left w.ends w.continues) i;
    breaks = e.breaks;
    continues = λ n x. subst (λ y. Into w.continues vs h (tell y)) (some_same m n x) (into_less w.continues (round w) vs h (tell m) (less_right w.ends w.continues) i);
    catches = λ n x. into_less w.throws _ vs h (tell n) (less_left w.throws (onward (round w) s.throws)) (e.catches n x);
  }

  -- the step
  pub exits_step : (w s : Ways) (vs : List Named) (h : Point) (a : Around) (m l : ℕ) → Exits (with_step w s) vs h (in_loop a l) → Into (with_step w s).ends vs h (tell m)
      → Exits s vs (behind_all vs h (round w)) (in_step a m)
  exits_step w s vs h a m l e i = record {
    follows = into_then (round w) s.ends vs h (tell m) i;
    breaks = λ n x. absurd (none_some n x);
    continues = λ n x. absurd (none_some n x);
    catches = λ n x. into_then (round w) s.throws vs h (tell n) (into_less (onward (round w) s.throws) _ vs h (tell n) (less_right w.throws (onward (round w) s.throws)) (e.catches n x));
  }

  -- the body of a `try`, and its handler
  pub exits_try : (b h : Ways) (vs : List Named) (p : Point) (a : Around) (m : ℕ) → Exits (handled b h) vs p a → tell m ≡ note vs (behind_all vs p b.throws) → Exits b vs p (in_try a m)
  exits_try b h vs p a m e t = record {
    follows = into_less b.ends _ vs p (tell a.follows) (less_left b.ends (onward b.throws h.ends)) e.follows;
    breaks = λ n x. into_less b.breaks _ vs p (tell n) (less_left b.breaks (onward b.throws h.breaks)) (e.breaks n x);
    continues = λ n x. into_less b.continues _ vs p (tell n) (less_left b.continues (onward b.throws h.continues)) (e.continues n x);
    catches = λ n x. subst (λ y. Into b.throws vs p (tell y)) (some_same m n x) (subst (Into b.throws vs p) (sym t) (into_self b.throws vs p));
  }

  pub exits_handler : (b h : Ways) (vs : List Named) (p : Point) (a : Around) → Exits (handled b h) vs p a → Exits h vs (behind_all vs p b.throws) a
  exits_handler b h vs p a e = record {
    follows = into_then b.throws h.ends vs p (tell a.follows) (into_less (onward b.throws h.ends) _ vs p (tell a.follows) (less_right b.ends (onward b.throws h.ends)) e.follows);
    breaks = λ n x. into_then b.throws h.breaks vs p (tell n) (into_less (onward b.throws h.breaks) _ vs p (tell n) (less_right b.breaks (onward b.throws h.breaks)) (e.breaks n x));
    continues = λ n x. into_then b.throws h.continues vs p (tell n) (into_less (onward b.throws h.continues) _ vs p (tell n) (less_right b.continues (onward b.throws h.continues)) (e.continues n x));
    catches = λ n x. into_then b.throws h.throws vs p (tell n) (into_less (onward b.throws h.throws) _ vs p (tell n) (less_right at_once (onward b.throws h.throws)) (e.catches n x));
  }
