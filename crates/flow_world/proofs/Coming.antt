-- Pending events in memory and in the definitions, and the packets that they bring.
use Rattle.std.proofs.Common.{◌≡◌, ℕ, suc, ◌+◌, ◌<◌, ◌≤◌, nat_eq, Bool, true, false, not, List, [], ◌∷◌, refl, sym, ap, subst, ◌∙◌, arith, if◌then◌else◌}
use Rattle.std.proofs.lemmas.Bool.Decides.{nat_tests}
use Rattle.std.specs.declared.option.Option.TheVariants.{None, Some}
use Rattle.flow_base.specs.declared.ids.ProcId.{ProcId}
use Rattle.flow_timers.specs.Pending.{Pending, comes_before, placed}
use Rattle.flow_simnet.specs.declared.packet.Letter.{Letter}
use Rattle.flow_meaning.specs.Outside.{What}
use Rattle.flow_meaning.specs.World as meant
use Rattle.flow_world.specs.declared.outside.What as kept
use Rattle.flow_world.specs.declared.outside.What.TheVariants as kept_what
use Rattle.flow_world.specs.Changes.{is_request_of, requests_gone}
use Rattle.flow_world.specs.Representing.{letter_at, ArrivalRepresents, PendingRepresents, EventRepresents, EventsRepresent, brings, coming, PacketsOnce}
use Rattle.flow_world.proofs.Letters.{same_number}

-- an event shows what it did where its packet is on its way as before
pub what_kept : (ls ms : List (ℕ × Letter)) (e : kept.What) (x : What) → ((m : ℕ) → 0 < brings m e → letter_at ms m ≡ letter_at ls m) → PendingRepresents ls e x → PendingRepresents ms e x
what_kept ls ms (kept_what.Boots p) x k h = h
what_kept ls ms (kept_what.Rings p c) x k h = h
what_kept ls ms (kept_what.Arrives p m) x k h = subst (λ o. ArrivalRepresents p.0 m o x) (sym (k m (positive (nat_eq m m) (same_number m)))) h
  where
    positive : (t : Bool) → t ≡ true → 0 < (if t then 1 else 0)
    positive true e = omega arith
    positive false e = absurd (cc)
what_kept ls ms (kept_what.Answers p c a) x k h = h

pub events_kept : (ls ms : List (ℕ × Letter)) (es : List (Pending kept.What)) (xs : List (Pending What)) → ((m : ℕ) → 0 < coming m es → letter_at ms m ≡ letter_at ls m)
    → EventsRepresent ls es xs → EventsRepresent ms es xs
events_kept ls ms [] [] k h = h
events_kept ls ms [] (x ∷ xs) k h = absurd h
events_kept ls ms (e ∷ es) [] k h = absurd h
events_kept ls ms (e ∷ es) (x ∷ xs) k h = (
  record { time = h.0.time; number = h.0.number; what = what_kept ls ms e.what x.what (λ m b. k m (omega (arith, b))) h.0.what },
  events_kept ls ms es xs (λ m b. k m (omega (arith, b))) h.1,
)

-- an event takes the same place
same_order : (ls ms : List (ℕ × Letter)) (d e : Pending kept.What) (x y : Pending What) → EventRepresents ls d x → EventRepresents ms e y → comes_before d e ≡ comes_before x y
same_order ls ms d e x y s t = rw (s.time, s.number, t.time, t.number) refl

pub placed_shows : (ls : List (ℕ × Letter)) (d : Pending kept.What) (x : Pending What) (es : List (Pending kept.What)) (xs : List (Pending What))
    → EventRepresents ls d x → EventsRepresent ls es xs → EventsRepresent ls (placed d es) (placed x xs)
placed_shows ls d x [] [] s h = (s, h)
placed_shows ls d x [] (y ∷ ys) s h = absurd h
placed_shows ls d x (e ∷ es) [] s h = absurd h
placed_shows ls d x (e ∷ es) (y ∷ ys) s h = by_order (comes_before d e) (comes_before x y) (same_order ls ls d e x y s h.0) (placed_shows ls d x es ys s h.1)
  where
    by_order : (t u : Bool) → t ≡ u → EventsRepresent ls (placed d es) (placed x ys)
        → EventsRepresent ls (if t then d ∷ e ∷ es else e ∷ placed d es) (if u then x ∷ y ∷ ys else y ∷ placed x ys)
    by_order true true q rest = (s, h)
    by_order true false q rest = absurd (cc)
    by_order false true q rest = absurd (cc)
    by_order false false q rest = (h.0, rest)

-- the packets that come once an event has taken its place, and once some are gone
pub coming_placed : (m : ℕ) (d : Pending kept.What) (es : List (Pending kept.What)) → coming m (placed d es) ≡ brings m d.what + coming m es
coming_placed m d [] = refl
coming_placed m d (e ∷ es) = by_order (comes_before d e) (coming_placed m d es)
  where
    by_order : (t : Bool) → coming m (placed d es) ≡ brings m d.what + coming m es
        → coming m (if t then d ∷ e ∷ es else e ∷ placed d es) ≡ brings m d.what + coming m (e ∷ es)
    by_order true q = refl
    by_order false q = omega (arith, q)

coming_gone : (m : ℕ) (p : ProcId) (es : List (Pending kept.What)) → coming m (requests_gone p es) ≤ coming m es
coming_gone m p [] = omega arith
coming_gone m p (e ∷ es) = by_test (not (is_request_of p e.what)) (coming_gone m p es)
  where
    by_test : (t : Bool) → coming m (requests_gone p es) ≤ coming m es → coming m (if t then e ∷ requests_gone p es else requests_gone p es) ≤ coming m (e ∷ es)
    by_test true q = omega (arith, q)
    by_test false q = omega (arith, q)

-- no packet comes twice afterwards
pub once_placed : (n : ℕ) (d : Pending kept.What) (es : List (Pending kept.What)) → ((m : ℕ) → brings m d.what ≡ 0) → PacketsOnce n es → PacketsOnce n (placed d es)
once_placed n d es none h m =
    let all = coming_placed m d es in
    (omega (arith, all, none m, (h m).0), λ l. let nothing : coming m es ≡ 0 = (h m).1 l in omega (arith, all, none m, nothing))

pub once_new : (n : ℕ) (time number : ℕ) (p : ProcId) (es : List (Pending kept.What)) → PacketsOnce n es
    → PacketsOnce (suc n) (placed (record { time = time; number = number; what = kept_what.Arrives p (suc n) }) es)
once_new n time number p es h m = by_test (nat_eq m (suc n)) refl
  where
    all : coming m (placed (record { time = time; number = number; what = kept_what.Arrives p (suc n) }) es) ≡ (if nat_eq m (suc n) then 1 else 0) + coming m es
    all = coming_placed m (record { time = time; number = number; what = kept_what.Arrives p (suc n) }) es

    by_test : (t : Bool) → nat_eq m (suc n) ≡ t
        → (coming m (placed (record { time = time; number = number; what = kept_what.Arrives p (suc n) }) es) ≤ 1)
        × (suc n < m → coming m (placed (record { time = time; number = number; what = kept_what.Arrives p (suc n) }) es) ≡ 0)
    by_test true e =
        let same : m ≡ suc n = grind (arith, nat_tests, e) in
        let nothing : coming m es ≡ 0 = (h m).1 (omega (arith, same)) in
        let more : coming m (placed (record { time = time; number = number; what = kept_what.Arrives p (suc n) }) es) ≡ 1 + coming m es = all ∙ ap (λ t. (if t then 1 else 0) + coming m es) e in
        let one : coming m (placed (record { time = time; number = number; what = kept_what.Arrives p (suc n) }) es) ≡ 1 = omega (arith, more, nothing) in
        (omega (arith, one), λ l. absurd (omega (arith, same, l)))
    by_test false e =
        let as_before : coming m (placed (record { time = time; number = number; what = kept_what.Arrives p (suc n) }) es) ≡ 0 + coming m es = all ∙ ap (λ t. (if t then 1 else 0) + coming m es) e in
        (omega (arith, as_before, (h m).0), λ l. let nothing : coming m es ≡ 0 = (h m).1 (omega (arith, l)) in omega (arith, as_before, nothing))

pub once_gone : (n : ℕ) (p : ProcId) (es : List (Pending kept.What)) → PacketsOnce n es → PacketsOnce n (requests_gone p es)
once_gone n p es h m =
    let fewer = coming_gone m p es in
    (omega (arith, fewer, (h m).0), λ l. let nothing : coming m es ≡ 0 = (h m).1 l in omega (arith, fewer, nothing))

pub once_later : (n : ℕ) (es : List (Pending kept.What)) → PacketsOnce n es → PacketsOnce (suc n) es
once_later n es h m = ((h m).0, λ l. (h m).1 (omega (arith, l)))

pub once_left : (n : ℕ) (e : Pending kept.What) (es : List (Pending kept.What)) → PacketsOnce n (e ∷ es) → PacketsOnce n es
once_left n e es h m = (omega (arith, (h m).0), λ l. let nothing : coming m (e ∷ es) ≡ 0 = (h m).1 l in omega (arith, nothing))

either_order : (a b : ℕ) → nat_eq a b ≡ nat_eq b a
either_order a b = by_tests (nat_eq a b) refl (nat_eq b a) refl
  where
    by_tests : (t : Bool) → nat_eq a b ≡ t → (u : Bool) → nat_eq b a ≡ u → nat_eq a b ≡ nat_eq b a
    by_tests true e true f = e ∙ sym f
    by_tests false e false f = e ∙ sym f
    by_tests true e false f = absurd (grind (arith, nat_tests, e, f))
    by_tests false e true f = absurd (grind (arith, nat_tests, e, f))

-- the timers and disk requests of a process are the same
same_request : (ls : List (ℕ × Letter)) (p : ProcId) (e : kept.What) (x : What) → PendingRepresents ls e x → is_request_of p e ≡ meant.is_of p.0 x
same_request ls p (kept_what.Boots q) x h = rw h refl
same_request ls p (kept_what.Rings q c) x h = rw h (either_order q.0 p.0)
same_request ls p (kept_what.Arrives q m) x h = by_letter (letter_at ls m) h
  where
    by_letter : (o : _) → ArrivalRepresents q.0 m o x → false ≡ meant.is_of p.0 x
    by_letter None h = absurd h
    by_letter (Some l) h = rw h.1 refl
same_request ls p (kept_what.Answers q c a) x h = rw h (either_order q.0 p.0)

pub gone_shows : (ls : List (ℕ × Letter)) (p : ProcId) (es : List (Pending kept.What)) (xs : List (Pending What))
    → EventsRepresent ls es xs → EventsRepresent ls (requests_gone p es) (meant.without_requests p.0 xs)
gone_shows ls p [] [] h = h
gone_shows ls p [] (x ∷ xs) h = absurd h
gone_shows ls p (e ∷ es) [] h = absurd h
gone_shows ls p (e ∷ es) (x ∷ xs) h = by_test (is_request_of p e.what) (meant.is_of p.0 x.what) (same_request ls p e.what x.what h.0.what) (gone_shows ls p es xs h.1)
  where
    by_test : (t u : Bool) → t ≡ u → EventsRepresent ls (requests_gone p es) (meant.without_requests p.0 xs)
        → EventsRepresent ls (if not t then e ∷ requests_gone p es else requests_gone p es) (if not u then x ∷ meant.without_requests p.0 xs else meant.without_requests p.0 xs)
    by_test true true q rest = rest
    by_test true false q rest = absurd (cc)
    by_test false true q rest = absurd (cc)
    by_test false false q rest = (h.0, rest)
