-- Walks that go as the ways out of a body say.
use Rattle.std.proofs.Common.{◌≡◌, ℕ, zero, suc, ◌<◌, ◌≤◌, Bool, true, false, ◌||◌, ◌&&◌, List, [], ◌∷◌, ◌++◌, length, map, get_or, refl, sym, ap, subst, ◌∙◌, arith, rules}
use Rattle.std.specs.Prelude.{Contains, nat_lt, is_some}
use Rattle.std.proofs.lemmas.Bool.{false≢true}
use Rattle.std.proofs.lemmas.List.Elements.{Contains-append_left, Contains-append_right}
use Rattle.std.specs.declared.option.Option.{Option}
use Rattle.std.specs.declared.option.Option.TheVariants.{None, Some}
use Rattle.flow_staterule.specs.declared.ways.Reached.{Reached}
use Rattle.flow_staterule.specs.declared.ways.Ways.{Ways}
use Rattle.flow_staterule.specs.Ways.{never, at_once, either, onward, both, follow, node, plain, sequence, round, with_step, head, past, looped, handled, waited_at}
use Rattle.flow_typing_laws.specs.ControlFlow.Graph.{Edge, Leads, Walk, stay, go}
use Rattle.flow_typing_laws.specs.ControlFlow.Control.{Around, followed_by, in_loop, in_step, in_try, listed, leads, statement, edge}
use Rattle.flow_typing_laws.proofs.ControlFlow.Notes.{Note}
use Rattle.flow_typing_laws.proofs.ControlFlow.Leading.{some_same}

-- from this number on
abbrev pub AtLeast : ℕ → List ℕ → Type 0
AtLeast lo [] = Unit {0}
AtLeast lo (x ∷ xs) = (lo ≤ x) × AtLeast lo xs

pub least_both : (lo : ℕ) (xs ys : List ℕ) → AtLeast lo xs → AtLeast lo ys → AtLeast lo (xs ++ ys)
least_both lo [] ys a b = b
least_both lo (x ∷ xs) ys a b = (a.0, least_both lo xs ys a.1 b)

pub least_less : (lo hi : ℕ) (xs : List ℕ) → lo ≤ hi → AtLeast hi xs → AtLeast lo xs
least_less lo hi [] le a = tt
least_less lo hi (x ∷ xs) le a = (let l = a.0 in omega (arith, le, l), least_less lo hi xs le a.1)

pub walk_on : {g : List (Edge ℕ)} {a b c : ℕ} {xs ys : List ℕ} → Walk g a xs b → Walk g b ys c → Walk g a (xs ++ ys) c
walk_on (stay a) v = v
walk_on (go a b e w) v = go a b e (walk_on w v)

contains_map : {A B : Type 0} (f : A → B) (xs : List A) (k : ℕ) (x : A) → k < length xs → get_or xs k x ≡ x → (k < length (map f xs)) × (get_or (map f xs) k (f x) ≡ f x)
contains_map f [] k x lt e = absurd (omega (arith, lt))
contains_map f (y ∷ ys) zero x lt e = (omega arith, ap f e)
contains_map f (y ∷ ys) (suc k) x lt e = let l : k < length ys = omega (arith, lt) in let r = contains_map f ys k x l e in let s = r.0 in (omega (arith, s), r.1)

contains_leads : (m : ℕ) (tos : List ℕ) (t : ℕ) → Contains tos t → Contains (leads m tos) (edge m t)
contains_leads m tos t c = let r = contains_map (edge m) tos c.0 t c.1 c.2 in (c.0, r.0, r.1)

pub contains_first : (t : ℕ) (ts : List ℕ) → Contains (t ∷ ts) t
contains_first t ts = (0, omega arith, refl)

pub contains_listed : (o : Option ℕ) (t : ℕ) → o ≡ Some t → Contains (listed o) t
contains_listed None t e = absurd (false≢true (ap is_some e))
contains_listed (Some s) t e = subst (λ x. Contains (listed (Some s)) x) (some_same s t e) (contains_first s [])

module _ (tell : ℕ → Note) (g : List (Edge ℕ)) where
  pub record Trail (lo a b : ℕ) : Type 0 where
    pub left : List ℕ
    pub walk : Walk g a left b
    pub least : AtLeast lo left

  pub record WaitTrail (lo a b : ℕ) : Type 0 where
    pub trail : Trail lo a b
    pub wait : ℕ
    pub passed : Contains trail.left wait
    pub counts : (tell wait).counts ≡ true

  pub record Goes (r : Reached) (lo a b : ℕ) : Type 0 where
    pub fresh : r.fresh ≡ true → Trail lo a b
    pub waited : r.waited ≡ true → WaitTrail lo a b

  pub trail_stay : (lo a : ℕ) → Trail lo a a
  trail_stay lo a = record { left = []; walk = stay a; least = tt }

  abbrev pub trail_step : (lo a b : ℕ) → lo ≤ a → Leads g a b → Trail lo a b
  trail_step lo a b le e = record { left = a ∷ []; walk = go a b e (stay b); least = (le, tt) }

  abbrev pub trail_on : (lo a b c : ℕ) → Trail lo a b → Trail lo b c → Trail lo a c
  trail_on lo a b c s t = record { left = s.left ++ t.left; walk = walk_on s.walk t.walk; least = least_both lo s.left t.left s.least t.least }

  pub wait_on : (lo a b c : ℕ) → WaitTrail lo a b → Trail lo b c → WaitTrail lo a c
  wait_on lo a b c s t = record { trail = trail_on lo a b c s.trail t; wait = s.wait; passed = Contains-append_left s.trail.left t.left s.wait s.passed; counts = s.counts }

  pub on_wait : (lo a b c : ℕ) → Trail lo a b → WaitTrail lo b c → WaitTrail lo a c
  on_wait lo a b c s t = record { trail = trail_on lo a b c s t.trail; wait = t.wait; passed = Contains-append_right s.left t.trail.left t.wait t.passed; counts = t.counts }

  abbrev pub trail_less : (lo hi a b : ℕ) → lo ≤ hi → Trail hi a b → Trail lo a b
  trail_less lo hi a b le t = record { left = t.left; walk = t.walk; least = least_less lo hi t.left le t.least }

  pub goes_less : (r : Reached) (lo hi a b : ℕ) → lo ≤ hi → Goes r hi a b → Goes r lo a b
  goes_less r lo hi a b le t = record {
    fresh = λ e. trail_less lo hi a b le (t.fresh e);
    waited = λ e. let w = t.waited e in record { trail = trail_less lo hi a b le w.trail; wait = w.wait; passed = w.passed; counts = w.counts };
  }

  pub goes_never : (lo a b : ℕ) → Goes never lo a b
  goes_never lo a b = record { fresh = λ e. absurd (false≢true e); waited = λ e. absurd (false≢true e) }

  pub goes_trail : (lo a b : ℕ) → Trail lo a b → Goes at_once lo a b
  goes_trail lo a b t = record { fresh = λ e. t; waited = λ e. absurd (false≢true e) }

  pub reached_trail : (f w : Bool) (lo a b : ℕ) → Goes (record { fresh = f; waited = w }) lo a b → f || w ≡ true → Trail lo a b
  reached_trail true w lo a b t e = t.fresh refl
  reached_trail false true lo a b t e = (t.waited refl).trail
  reached_trail false false lo a b t e = absurd (false≢true e)

  -- by a walk and then another
  goes_then_cases : (f w h x : Bool) (lo a b c : ℕ) → Goes (record { fresh = f; waited = w }) lo a b → Goes (record { fresh = h; waited = x }) lo b c
      → Goes (onward (record { fresh = f; waited = w }) (record { fresh = h; waited = x })) lo a c
  goes_then_cases f w h x lo a b c s t = record { fresh = fresh f h s.fresh t.fresh; waited = waited f w h x s t }
    where
      fresh : (f h : Bool) → (f ≡ true → Trail lo a b) → (h ≡ true → Trail lo b c) → f && h ≡ true → Trail lo a c
      fresh true true s t e = trail_on lo a b c (s refl) (t refl)
      fresh true false s t e = absurd (false≢true e)
      fresh false h s t e = absurd (false≢true e)

      waited : (f w h x : Bool) → Goes (record { fresh = f; waited = w }) lo a b → Goes (record { fresh = h; waited = x }) lo b c → (w && (h || x)) || (f && x) ≡ true → WaitTrail lo a c
      waited f true true x s t e = wait_on lo a b c (s.waited refl) (t.fresh refl)
      waited f true false true s t e = wait_on lo a b c (s.waited refl) (t.waited refl).trail
      waited true true false false s t e = absurd (false≢true e)
      waited false true false false s t e = absurd (false≢true e)
      waited true false h true s t e = on_wait lo a b c (s.fresh refl) (t.waited refl)
      waited true false h false s t e = absurd (false≢true e)
      waited false false h x s t e = absurd (false≢true e)

  pub goes_then : (r s : Reached) (lo a b c : ℕ) → Goes r lo a b → Goes s lo b c → Goes (onward r s) lo a c
  goes_then r s lo a b c x y = goes_then_cases r.fresh r.waited s.fresh s.waited lo a b c x y

  -- by walks of one kind or of another
  pub goes_either : (r s : Reached) (lo a b : ℕ) → Goes r lo a b → Goes s lo a b → Goes (either r s) lo a b
  goes_either r s lo a b x y = record { fresh = choose r.fresh s.fresh (Trail lo a b) x.fresh y.fresh; waited = choose r.waited s.waited (WaitTrail lo a b) x.waited y.waited }
    where
      choose : (f h : Bool) (A : Type 0) → (f ≡ true → A) → (h ≡ true → A) → f || h ≡ true → A
      choose true h A x y e = x refl
      choose false h A x y e = y e

  pub goes_on : (r : Reached) (lo a b c : ℕ) → Goes r lo a b → Trail lo b c → Goes r lo a c
  goes_on r lo a b c s t = record { fresh = λ e. trail_on lo a b c (s.fresh e) t; waited = λ e. wait_on lo a b c (s.waited e) t }

  pub goes_before : (r : Reached) (lo a b c : ℕ) → Trail lo a b → Goes r lo b c → Goes r lo a c
  goes_before r lo a b c s t = record { fresh = λ e. trail_on lo a b c s (t.fresh e); waited = λ e. on_wait lo a b c s (t.waited e) }

  -- a step from a wait
  pub goes_waiting : (n : ℕ) (lo a b : ℕ) → lo ≤ a → Leads g a b → (tell a).counts ≡ nat_lt 0 n → Goes (waited_at n) lo a b
  goes_waiting n lo a b le e c = record {
    fresh = λ x. trail_step lo a b le e;
    waited = λ x. record { trail = trail_step lo a b le e; wait = a; passed = contains_first a []; counts = c ∙ x };
  }

  -- edges that are in the graph
  pub record Part (es : List (Edge ℕ)) : Type 0 where
    pub holds : (e : Edge ℕ) → Contains es e → Contains g e

  pub part_left : (xs ys : List (Edge ℕ)) → Part (xs ++ ys) → Part xs
  part_left xs ys p = record { holds = λ e c. p.holds e (Contains-append_left xs ys e c) }

  pub part_right : (xs ys : List (Edge ℕ)) → Part (xs ++ ys) → Part ys
  part_right xs ys p = record { holds = λ e c. p.holds e (Contains-append_right xs ys e c) }

  pub to_of : (m : ℕ) (tos : List ℕ) (t : ℕ) → Part (leads m tos) → Contains tos t → Leads g m t
  to_of m tos t p c = p.holds (edge m t) (contains_leads m tos t c)

  pub to_first : (m t : ℕ) (ts : List ℕ) → Part (leads m (t ∷ ts)) → Leads g m t
  to_first m t ts p = to_of m (t ∷ ts) t p (contains_first t ts)

  pub statement_to : (m : ℕ) (a : Around) (tos : List ℕ) (t : ℕ) → Part (statement m a tos) → Contains tos t → Leads g m t
  statement_to m a tos t p c = to_of m (tos ++ listed a.catches) t p (Contains-append_left tos (listed a.catches) t c)

  pub statement_first : (m : ℕ) (a : Around) (t : ℕ) (ts : List ℕ) → Part (statement m a (t ∷ ts)) → Leads g m t
  statement_first m a t ts p = statement_to m a (t ∷ ts) t p (contains_first t ts)

  pub statement_second : (m : ℕ) (a : Around) (t u : ℕ) (ts : List ℕ) → Part (statement m a (t ∷ u ∷ ts)) → Leads g m u
  statement_second m a t u ts p = statement_to m a (t ∷ u ∷ ts) u p (1, omega arith, refl)

  pub statement_catch : (m : ℕ) (a : Around) (tos : List ℕ) (t : ℕ) → Part (statement m a tos) → a.catches ≡ Some t → Leads g m t
  statement_catch m a tos t p e = to_of m (tos ++ listed a.catches) t p (Contains-append_right tos (listed a.catches) t (contains_listed a.catches t e))

  -- Walks from a point go as ways out say.
  pub record Walked (w : Ways) (lo x : ℕ) (a : Around) : Type 0 where
    pub ends : Goes w.ends lo x a.follows
    pub breaks : (t : ℕ) → a.breaks ≡ Some t → Goes w.breaks lo x t
    pub continues : (t : ℕ) → a.continues ≡ Some t → Goes w.continues lo x t
    pub throws : (t : ℕ) → a.catches ≡ Some t → Goes w.throws lo x t

  pub walked_less : (w : Ways) (lo hi x : ℕ) (a : Around) → lo ≤ hi → Walked w hi x a → Walked w lo x a
  walked_less w lo hi x a le k = record {
    ends = goes_less w.ends lo hi x a.follows le k.ends;
    breaks = λ t e. goes_less w.breaks lo hi x t le (k.breaks t e);
    continues = λ t e. goes_less w.continues lo hi x t le (k.continues t e);
    throws = λ t e. goes_less w.throws lo hi x t le (k.throws t e);
  }

  pub walked_before : (w : Ways) (lo x y : ℕ) (a : Around) → Trail lo x y → Walked w lo y a → Walked w lo x a
  walked_before w lo x y a t k = record {
    ends = goes_before w.ends lo x y a.follows t k.ends;
    breaks = λ u e. goes_before w.breaks lo x y u t (k.breaks u e);
    continues = λ u e. goes_before w.continues lo x y u t (k.continues u e);
    throws = λ u e. goes_before w.throws lo x y u t (k.throws u e);
  }

  pub walked_then : (w v : Ways) (lo x f : ℕ) (a : Around) → Walked w lo x (followed_by a f) → Walked v lo f a → Walked (sequence w v) lo x a
  walked_then w v lo x f a k l = record {
    ends = goes_then w.ends v.ends lo x f a.follows k.ends l.ends;
    breaks = λ t e. goes_either w.breaks (onward w.ends v.breaks) lo x t (k.breaks t e) (goes_then w.ends v.breaks lo x f t k.ends (l.breaks t e));
    continues = λ t e. goes_either w.continues (onward w.ends v.continues) lo x t (k.continues t e) (goes_then w.ends v.continues lo x f t k.ends (l.continues t e));
    throws = λ t e. goes_either w.throws (onward w.ends v.throws) lo x t (k.throws t e) (goes_then w.ends v.throws lo x f t k.ends (l.throws t e));
  }

  pub walked_both : (w v : Ways) (lo x : ℕ) (a : Around) → Walked w lo x a → Walked v lo x a → Walked (both w v) lo x a
  walked_both w v lo x a k l = record {
    ends = goes_either w.ends v.ends lo x a.follows k.ends l.ends;
    breaks = λ t e. goes_either w.breaks v.breaks lo x t (k.breaks t e) (l.breaks t e);
    continues = λ t e. goes_either w.continues v.continues lo x t (k.continues t e) (l.continues t e);
    throws = λ t e. goes_either w.throws v.throws lo x t (k.throws t e) (l.throws t e);
  }

  pub walked_node : (lo m : ℕ) (a : Around) (tos : List ℕ) → lo ≤ m → Part (statement m a tos) → Walked (node at_once) lo m a
  walked_node lo m a tos le p = record {
    ends = goes_never lo m a.follows;
    breaks = λ t e. goes_never lo m t;
    continues = λ t e. goes_never lo m t;
    throws = λ t e. goes_trail lo m t (trail_step lo m t le (statement_catch m a tos t p e));
  }

  -- a statement that leads to what follows it too
  pub walked_plain : (lo m : ℕ) (a : Around) (tos : List ℕ) → lo ≤ m → Part (statement m a tos) → Leads g m a.follows → Walked (plain at_once) lo m a
  walked_plain lo m a tos le p l = record {
    ends = goes_trail lo m a.follows (trail_step lo m a.follows le l);
    breaks = λ t e. goes_never lo m t;
    continues = λ t e. goes_never lo m t;
    throws = λ t e. goes_trail lo m t (trail_step lo m t le (statement_catch m a tos t p e));
  }

  pub walked_wait : (n : ℕ) (lo m : ℕ) (a : Around) (tos : List ℕ) → lo ≤ m → Part (statement m a tos) → Leads g m a.follows → (tell m).counts ≡ nat_lt 0 n → Walked (plain (waited_at n)) lo m a
  walked_wait n lo m a tos le p l c = record {
    ends = goes_waiting n lo m a.follows le l c;
    breaks = λ t e. goes_never lo m t;
    continues = λ t e. goes_never lo m t;
    throws = λ t e. goes_waiting n lo m t le (statement_catch m a tos t p e) c;
  }

  -- from the head of a loop round to it
  pub goes_head : (w : Ways) (lo m x : ℕ) → Trail lo m x → Goes (round w) lo x m → Goes (head w) lo m m
  goes_head w lo m x t r = record { fresh = λ e. trail_stay lo m; waited = λ e. on_wait lo m x m t (r.waited e) }

  goes_past : (leads : Bool) (r : Reached) (lo a b : ℕ) → (leads ≡ true → Goes r lo a b) → Goes (past leads r) lo a b
  goes_past true r lo a b f = f refl
  goes_past false r lo a b f = goes_never lo a b

  pub walked_looped : (leads : Bool) (w : Ways) (lo m x : ℕ) (a : Around) (tos : List ℕ) → lo ≤ m → Part (statement m a tos) → Leads g m x → (leads ≡ true → Leads g m a.follows)
      → Walked w lo x (in_loop a m) → Walked (looped leads w) lo m a
  walked_looped leads w lo m x a tos le p s f k =
      let st = trail_step lo m x le s in
      let h = goes_head w lo m x st (goes_either w.ends w.continues lo x m k.ends (k.continues m refl)) in
      record {
        ends = goes_either (past leads (head w)) (onward (head w) w.breaks) lo m a.follows
            (goes_past leads (head w) lo m a.follows (λ e. goes_on (head w) lo m m a.follows h (trail_step lo m a.follows le (f e))))
            (goes_then (head w) w.breaks lo m m a.follows h (goes_before w.breaks lo m x a.follows st (k.breaks a.follows refl)));
        breaks = λ t e. goes_never lo m t;
        continues = λ t e. goes_never lo m t;
        throws = λ t e. goes_either (head w) (onward (head w) w.throws) lo m t
            (goes_on (head w) lo m m t h (trail_step lo m t le (statement_catch m a tos t p e)))
            (goes_then (head w) w.throws lo m m t h (goes_before w.throws lo m x t st (k.throws t e)));
      }

  pub walked_step : (w s : Ways) (lo x y m : ℕ) (a : Around) → Walked w lo x (in_loop a y) → Walked s lo y (in_step a m) → Walked (with_step w s) lo x (in_loop a m)
  walked_step w s lo x y m a k l =
      let r = goes_either w.ends w.continues lo x y k.ends (k.continues y refl) in
      record {
        ends = goes_then (round w) s.ends lo x y m r l.ends;
        breaks = k.breaks;
        continues = λ t e. goes_never lo x t;
        throws = λ t e. goes_either w.throws (onward (round w) s.throws) lo x t (k.throws t e) (goes_then (round w) s.throws lo x y t r (l.throws t e));
      }

  -- a `try` at m, whose `catch` at c leads to y
  pub walked_try : (b h : Ways) (lo m x c y : ℕ) (a : Around) (tos : List ℕ) → lo ≤ m → lo ≤ c → Part (statement m a tos) → Leads g m x → Leads g c y → Walked b lo x (in_try a c) → Walked h lo y a
      → Walked (handled b h) lo m a
  walked_try b h lo m x c y a tos le lc p s j k l =
      let st = trail_step lo m x le s in
      let k' = walked_before b lo m x (in_try a c) st k in
      let l' = walked_before h lo c y a (trail_step lo c y lc j) l in
      let t = k'.throws c refl in
      record {
        ends = goes_either b.ends (onward b.throws h.ends) lo m a.follows k'.ends (goes_then b.throws h.ends lo m c a.follows t l'.ends);
        breaks = λ u e. goes_either b.breaks (onward b.throws h.breaks) lo m u (k'.breaks u e) (goes_then b.throws h.breaks lo m c u t (l'.breaks u e));
        continues = λ u e. goes_either b.continues (onward b.throws h.continues) lo m u (k'.continues u e) (goes_then b.throws h.continues lo m c u t (l'.continues u e));
        throws = λ u e. goes_either at_once (onward b.throws h.throws) lo m u (goes_trail lo m u (trail_step lo m u le (statement_catch m a tos u p e)))
            (goes_then b.throws h.throws lo m c u t (l'.throws u e));
      }

  -- behind walks to a point
  pub walked_follow : (r : Reached) (w : Ways) (lo m x : ℕ) (a : Around) → Goes r lo m x → Walked w lo x a → Walked (follow r w) lo m a
  walked_follow r w lo m x a t k = record {
    ends = goes_then r w.ends lo m x a.follows t k.ends;
    breaks = λ u e. goes_then r w.breaks lo m x u t (k.breaks u e);
    continues = λ u e. goes_then r w.continues lo m x u t (k.continues u e);
    throws = λ u e. goes_then r w.throws lo m x u t (k.throws u e);
  }

  onward_either : (r s t : Reached) → onward r (either s t) ≡ either (onward r s) (onward r t)
  onward_either r s t = grind rules

  onward_once : (r : Reached) → onward r at_once ≡ r
  onward_once r = grind rules

  onward_never : (r : Reached) → onward r never ≡ never
  onward_never r = grind rules

  goes_apart : (r s t : Reached) (lo a b : ℕ) → Goes (onward r s) lo a b → Goes (onward r t) lo a b → Goes (onward r (either s t)) lo a b
  goes_apart r s t lo a b x y = subst (λ z. Goes z lo a b) (sym (onward_either r s t)) (goes_either (onward r s) (onward r t) lo a b x y)

  goes_nowhere : (r : Reached) (lo a b : ℕ) → Goes (onward r never) lo a b
  goes_nowhere r lo a b = subst (λ z. Goes z lo a b) (sym (onward_never r)) (goes_never lo a b)

  pub walked_apart : (r : Reached) (w v : Ways) (lo m : ℕ) (a : Around) → Walked (follow r w) lo m a → Walked (follow r v) lo m a → Walked (follow r (both w v)) lo m a
  walked_apart r w v lo m a k l = record {
    ends = goes_apart r w.ends v.ends lo m a.follows k.ends l.ends;
    breaks = λ u e. goes_apart r w.breaks v.breaks lo m u (k.breaks u e) (l.breaks u e);
    continues = λ u e. goes_apart r w.continues v.continues lo m u (k.continues u e) (l.continues u e);
    throws = λ u e. goes_apart r w.throws v.throws lo m u (k.throws u e) (l.throws u e);
  }

  pub walked_nowhere : (r : Reached) (lo m : ℕ) (a : Around) → Walked (follow r (node never)) lo m a
  walked_nowhere r lo m a = record { ends = goes_nowhere r lo m a.follows; breaks = λ t e. goes_nowhere r lo m t; continues = λ t e. goes_nowhere r lo m t; throws = λ t e. goes_nowhere r lo m t }

  -- a `choose` leads to the `catch` around it
  pub walked_choosing : (n : ℕ) (lo m : ℕ) (a : Around) (tos : List ℕ) → lo ≤ m → Part (statement m a tos) → (tell m).counts ≡ nat_lt 0 n → Walked (follow (waited_at n) (node at_once)) lo m a
  walked_choosing n lo m a tos le p c = record {
    ends = goes_nowhere (waited_at n) lo m a.follows;
    breaks = λ t e. goes_nowhere (waited_at n) lo m t;
    continues = λ t e. goes_nowhere (waited_at n) lo m t;
    throws = λ t e. subst (λ z. Goes z lo m t) (sym (onward_once (waited_at n))) (goes_waiting n lo m t le (statement_catch m a tos t p e) c);
  }
