-- What the rule on state tells is the first bad use, by walks.
use Rattle.std.proofs.Common.{◌≡◌, ℕ, zero, suc, ◌+◌, ◌-◌, ◌<◌, ◌≤◌, Bool, true, false, ◌&&◌, inl, inr, List, [], ◌∷◌, ◌++◌, length, map, get_or, reverse, refl, sym, ap, ap₂, subst, ◌∙◌, arith, append-nil}
use Rattle.std.specs.Prelude.{Contains, slice_get, nat_le, nat_lt, is_some, if◌then◌else◌}
use Rattle.std.proofs.lemmas.Bool.{false≢true, true≢false, le-leb, lt-ltb}
use Rattle.std.proofs.lemmas.List.{map-append, reverse-append, length-map}
use Rattle.std.specs.declared.option.Option.{Option}
use Rattle.std.specs.declared.option.Option.TheVariants.{None, Some}
use Rattle.flow_base.specs.declared.place.Place.{Place}
use Rattle.flow_tree.specs.Body.{Body}
use Rattle.flow_tree.specs.Decls.{ParamTree, DeclTree, StructDecl, FunctionDecl, ActorDecl}
use Rattle.flow_tree.specs.Formed.{InDecl}
use Rattle.flow_staterule.specs.declared.rule.Lost.{Lost}
use Rattle.flow_staterule.specs.declared.scope.Use.{Use}
use Rattle.flow_staterule.specs.Ways.{at_once}
use Rattle.flow_staterule.specs.Uses.{begins}
use Rattle.flow_staterule.specs.Uses as rule
use Rattle.flow_staterule.specs.StateRule.{wait_places, routine_uses, first_stale, is_stale_use, is_lost_with, first_with, lost_at, told_of, lost_in, lost_in_decl, first_of, first_lost}
use Rattle.flow_typing_laws.specs.ControlFlow.Graph.{Edge}
use Rattle.flow_typing_laws.specs.ControlFlow.Control.{control, closing, first}
use Rattle.flow_typing_laws.specs.ControlFlow.Mentions.{Declared, Named, Mention, Wait, parameter, routine_mentions, waits}
use Rattle.flow_typing_laws.specs.ControlFlow.Laws.{HasSimpleParts, IsBad, IsFirstBad, LostIn, LostInDecl, FirstLost, nothing, here, later, LostByWalk}
use Rattle.flow_typing_laws.proofs.ControlFlow.Notes.{Note, note, Tells, tells_itself}
use Rattle.flow_typing_laws.proofs.ControlFlow.Leading.{Has}
use Rattle.flow_typing_laws.proofs.ControlFlow.Flowing.{Below, Kept, flow_from}
use Rattle.flow_typing_laws.proofs.ControlFlow.Walking.{AtLeast}
use Rattle.flow_typing_laws.proofs.ControlFlow.WholeBody.{around, told, told_body, all_notes, last_note, routine_kept, routine_part, same_or}
use Rattle.flow_typing_laws.proofs.ControlFlow.Counting.{place_of, places_of_waits, Counted, none, over, counted_then, with_waits, counted, counts_of, Looked, of_counts}
use Rattle.flow_typing_laws.proofs.ControlFlow.StaleWalks.{bad_is_stale}
use Rattle.flow_typing_laws.proofs.ControlFlow.Backing.{variable_of, Fits, Each, no_uses, and_use}
use Rattle.flow_typing_laws.proofs.ControlFlow.UsesBacked.{Begins, backed}

-- Parameters are no locals.
abbrev NoLocals : List Named → Type 0
NoLocals [] = Unit {0}
NoLocals (v ∷ vs) = (v.local ≡ None) × NoLocals vs

no_local : (vs : List Named) → NoLocals vs → (j : ℕ) (d : Declared) → Has vs j d → ⊥
no_local [] n j d h = h
no_local (v ∷ vs) n j d (inl o) = false≢true (ap is_some (sym n.0 ∙ o.1))
no_local (v ∷ vs) n j d (inr h) = no_local vs n.1 j d h

no_locals_both : (vs ws : List Named) → NoLocals vs → NoLocals ws → NoLocals (vs ++ ws)
no_locals_both [] ws n k = k
no_locals_both (v ∷ vs) ws n k = (n.0, no_locals_both vs ws n.1 k)

reverse_more : {A : Type 0} (x : A) (xs : List A) → reverse (x ∷ xs) ≡ reverse xs ++ x ∷ []
reverse_more x xs = reverse-append (x ∷ []) xs

abbrev params : List ParamTree → List Named
params ps = reverse (map parameter ps)

params_no_locals : (ps : List ParamTree) → NoLocals (params ps)
params_no_locals [] = tt
params_no_locals (p ∷ ps) = subst NoLocals (sym (reverse_more (parameter p) (map parameter ps))) (no_locals_both (params ps) (parameter p ∷ []) (params_no_locals ps) (refl, tt))

params_alike : (ps : List ParamTree) → map variable_of (params ps) ≡ reverse (map rule.parameter ps)
params_alike [] = refl
params_alike (p ∷ ps) =
    ap (map variable_of) (reverse_more (parameter p) (map parameter ps)) ∙ map-append variable_of (params ps) (parameter p ∷ []) ∙ ap (λ l. l ++ rule.parameter p ∷ []) (params_alike ps)
    ∙ sym (reverse_more (rule.parameter p) (map rule.parameter ps))

-- what is known in a routine
abbrev tells : ℕ → List ParamTree → Body → ℕ → Note
tells n ps b = told n b (params ps) (params ps)

params_below : (m : ℕ) (ps : List ParamTree) → Below m (params ps)
params_below m ps j d h = absurd (no_local (params ps) (params_no_locals ps) j d h)

kept : (n : ℕ) (ps : List ParamTree) (b : Body) → HasSimpleParts b → Kept (tells n ps b) (control b)
kept n ps b s =
    routine_kept n b (params ps) (params ps) s (params_below 1 ps)
    (λ y i. flow_from (tells n ps b) 0 (params ps) begins false at_once y (λ e. absurd (false≢true e)) refl (params_below 0 ps) i)

each : (n : ℕ) (ps : List ParamTree) (b : Body) → HasSimpleParts b → Each (tells n ps b) (control b) (routine_uses ps b n) (routine_mentions ps b)
each n ps b s =
    let z : 0 ≤ length (params ps) = omega arith in
    let r : Begins (tells n ps b) (control b) 1 (first b 1 (closing b)) (params ps) begins = record {
      below = params_below 1 ps;
      within = z;
      real = record { led = λ j d h e. absurd (no_local (params ps) (params_no_locals ps) j d h); bad = λ j d h e k. absurd (no_local (params ps) (params_no_locals ps) j d h) };
    } in
    backed (tells n ps b) (control b) n n b 1 (params ps) (reverse (map rule.parameter ps)) begins begins None None (around b) (record { left = refl; named = params_alike ps; point = refl }) s
    (told_body n b (params ps) (params ps)) (routine_part n b (params ps) (params ps)) r tt

all_counted : (n : ℕ) (ps : List ParamTree) (b : Body) → Counted 0 (all_notes n b (params ps) (params ps)) (waits b 1) n
all_counted n ps b =
    with_waits (append-nil (waits b 1))
    (over (note (params ps) begins) refl (counted_then _ _ (last_note n b (params ps) ∷ []) [] (counted n b 1 (params ps) begins) refl refl (over (last_note n b (params ps)) refl none)))

all_told : (n : ℕ) (ps : List ParamTree) (b : Body) → Tells (tells n ps b) 0 (all_notes n b (params ps) (params ps))
all_told n ps b = tells_itself [] (all_notes n b (params ps) (params ps)) (note (params ps) begins)

-- a wait that is looked for
counts : (n : ℕ) (ps : List ParamTree) (b : Body) (k : ℕ) (w : Wait) → slice_get (waits b 1) k ≡ Some w → k < n → (tells n ps b w.point).counts ≡ true
counts n ps b k w e l = counts_of (tells n ps b) (all_counted n ps b) (all_told n ps b) k w e l

looked : (n : ℕ) (ps : List ParamTree) (b : Body) (x : ℕ) → (tells n ps b x).counts ≡ true → Looked (waits b 1) n x
looked n ps b x e = of_counts (all_counted n ps b) x (note (params ps) begins) refl e

-- use by use
abbrev or_use : Use → Option Use → Use
or_use u None = u
or_use u (Some v) = v

abbrev or_mention : Mention → Option Mention → Mention
or_mention u None = u
or_mention u (Some v) = v

none_some : {A : Type 0} (x : A) → None ≡ Some x → ⊥
none_some x e = false≢true (ap is_some e)

module _ (tell : ℕ → Note) (g : List (Edge ℕ)) where
  pub record Pair (us : List Use) (ms : List Mention) (i : ℕ) : Type 0 where
    pub found : Use
    pub mention : Mention
    pub is_use : slice_get us i ≡ Some found
    pub is_mention : slice_get ms i ≡ Some mention
    pub fits : Fits tell g found mention

  pair_on : (u : Use) (us : List Use) (m : Mention) (ms : List Mention) (i : ℕ) → Pair us ms i → Pair (u ∷ us) (m ∷ ms) (suc i)
  pair_on u us m ms i p = record { found = p.found; mention = p.mention; is_use = p.is_use; is_mention = p.is_mention; fits = p.fits }

  -- at a stale use, and at a mention
  stale_pair : {us : List Use} {ms : List Mention} → Each tell g us ms → (i : ℕ) → is_stale_use (slice_get us i) ≡ true → Pair us ms i
  stale_pair no_uses i e = absurd (false≢true e)
  stale_pair (and_use {us = us} {ns = ms} u m f r) zero e = record { found = u; mention = m; is_use = refl; is_mention = refl; fits = f }
  stale_pair (and_use {us = us} {ns = ms} u m f r) (suc i) e = pair_on u us m ms i (stale_pair r i e)

  mention_pair : {us : List Use} {ms : List Mention} → Each tell g us ms → (i : ℕ) (n : Mention) → slice_get ms i ≡ Some n → Pair us ms i
  mention_pair no_uses i n e = absurd (none_some n e)
  mention_pair (and_use {us = us} {ns = ms} u m f r) zero n e = record { found = u; mention = m; is_use = refl; is_mention = refl; fits = f }
  mention_pair (and_use {us = us} {ns = ms} u m f r) (suc i) n e = pair_on u us m ms i (mention_pair r i n e)

least_avoids : (d : ℕ) (left : List ℕ) → AtLeast (suc d) left → (k x : ℕ) → k < length left → get_or left k x ≡ d → ⊥
least_avoids d [] a k x l e = absurd (omega (arith, l))
least_avoids d (y ∷ ys) a zero x l e = let f = a.0 in absurd (omega (arith, f, e))
least_avoids d (y ∷ ys) a (suc k) x l e = let m : k < length ys = omega (arith, l) in least_avoids d ys a.1 k x m e

-- a use with this number is bad by a wait that is looked for
pub record BadBy (ps : List ParamTree) (b : Body) (n i : ℕ) : Type 0 where
  pub mention : Mention
  pub is_mention : slice_get (routine_mentions ps b) i ≡ Some mention
  pub number : ℕ
  pub wait : Wait
  pub is_wait : slice_get (waits b 1) number ≡ Some wait
  pub within : number < n
  pub bad : IsBad b mention wait

pub lost_bad : (ps : List ParamTree) (b : Body) → HasSimpleParts b → (n i : ℕ) → is_lost_with ps b i n ≡ true → BadBy ps b n i
lost_bad ps b s n i e =
    let p = stale_pair (tells n ps b) (control b) (each n ps b s) i e in
    let stale : p.found.stale ≡ true = ap is_stale_use (sym p.is_use) ∙ e in
    let x = p.fits.bad stale in
    let w = looked n ps b x.wait x.counts in
    record {
      mention = p.mention;
      is_mention = p.is_mention;
      number = w.0;
      wait = w.1;
      is_wait = w.2;
      within = w.3;
      bad = (x.led.left, x.led.walk, subst (Contains x.led.left) (sym w.4) x.passed, λ c. least_avoids p.mention.declared.point x.led.left x.led.later c.0 p.mention.declared.point c.1 c.2);
    }

both_hold : (a b : Bool) → a ≡ true → b ≡ true → a && b ≡ true
both_hold true b e f = f
both_hold false b e f = absurd (false≢true e)

bad_lost : (ps : List ParamTree) (b : Body) → HasSimpleParts b → (n i : ℕ) (m : Mention) → slice_get (routine_mentions ps b) i ≡ Some m → (k : ℕ) (w : Wait) → slice_get (waits b 1) k ≡ Some w → k < n
    → IsBad b m w
    → is_lost_with ps b i n ≡ true
bad_lost ps b s n i m e k w f l x =
    let p = mention_pair (tells n ps b) (control b) (each n ps b s) i m e in
    let same : m ≡ p.mention = sym (ap (or_mention m) (sym p.is_mention ∙ e)) in
    let x' = subst (λ y. IsBad b y w) same x in
    let r = bad_is_stale (tells n ps b) (control b) (kept n ps b s) p.mention.declared.point p.mention.point x'.0 x'.1 x'.3 w.point x'.2 (counts n ps b k w f l) in
    let q = (tells n ps b p.mention.point).point in
    let from = r.0 p.fits.number p.mention.declared p.fits.has refl in
    let stale = r.1 p.fits.number p.mention.declared p.fits.has refl in
    ap is_stale_use p.is_use ∙ p.fits.stale ∙ both_hold (nat_le q.from p.fits.number) (nat_lt p.fits.number q.stale) (le-leb q.from p.fits.number from) (lt-ltb p.fits.number q.stale stale)

-- The first stale use.
first_none : (us : List Use) (n i : ℕ) → first_stale n us ≡ None → is_stale_use (slice_get us i) ≡ true → ⊥
first_none [] n i e s = false≢true s
first_none (u ∷ us) n i e s = go u.stale i refl e s (λ k. first_none us (n + 1) k)
  where
    go : (x : Bool) (i : ℕ) → u.stale ≡ x → (if x then Some n else first_stale (n + 1) us) ≡ None → is_stale_use (slice_get (u ∷ us) i) ≡ true
        → ((k : ℕ) → first_stale (n + 1) us ≡ None → is_stale_use (slice_get us k) ≡ true → ⊥) → ⊥
    go true i f e s r = true≢false (ap is_some e)
    go false zero f e s r = true≢false (sym s ∙ f)
    go false (suc i) f e s r = r i e s

pub record IsFirstStale (us : List Use) (n m : ℕ) : Type 0 where
  pub number : ℕ
  pub is_number : m ≡ n + number
  pub stale : is_stale_use (slice_get us number) ≡ true
  pub before : (i : ℕ) → i < number → is_stale_use (slice_get us i) ≡ true → ⊥

abbrev or_zero : Option ℕ → ℕ
or_zero None = 0
or_zero (Some n) = n

stale_before : (u : Use) (us : List Use) (k : ℕ) → u.stale ≡ false → ((i : ℕ) → i < k → is_stale_use (slice_get us i) ≡ true → ⊥) → (i : ℕ) → i < suc k → is_stale_use (slice_get (u ∷ us) i) ≡ true → ⊥
stale_before u us k f g zero l s = true≢false (sym s ∙ f)
stale_before u us k f g (suc i) l s = let l' : i < k = omega (arith, l) in g i l' s

first_some : (us : List Use) (n m : ℕ) → first_stale n us ≡ Some m → IsFirstStale us n m
first_some [] n m e = absurd (none_some m e)
first_some (u ∷ us) n m e = go u.stale refl e (first_some us (n + 1) m)
  where
    go : (x : Bool) → u.stale ≡ x → (if x then Some n else first_stale (n + 1) us) ≡ Some m → (first_stale (n + 1) us ≡ Some m → IsFirstStale us (n + 1) m) → IsFirstStale (u ∷ us) n m
    go true f e r = let q : n ≡ m = ap or_zero e in record { number = 0; is_number = omega (arith, q); stale = f; before = λ i l s. omega (arith, l) }
    go false f e r =
        let p = r e in
        let q = p.is_number in
        record { number = suc p.number; is_number = omega (arith, q); stale = p.stale; before = stale_before u us p.number f p.before }

-- The first wait with which something holds.
with_none : (holds : ℕ → Bool) (n : ℕ) (ws : List Place) → first_with holds n ws ≡ None → (k : ℕ) → k < length ws → holds (n + k + 1) ≡ true → ⊥
with_none holds n [] e k l h = omega (arith, l)
with_none holds n (w ∷ ws) e k l h = go (holds (n + 1)) k refl e l h (with_none holds (n + 1) ws)
  where
    go : (x : Bool) (k : ℕ) → holds (n + 1) ≡ x → (if x then Some w else first_with holds (n + 1) ws) ≡ None → k < length (w ∷ ws) → holds (n + k + 1) ≡ true
        → (first_with holds (n + 1) ws ≡ None → (k : ℕ) → k < length ws → holds (n + 1 + k + 1) ≡ true → ⊥) → ⊥
    go true k f e l h r = true≢false (ap is_some e)
    go false zero f e l h r = let q : n + 0 + 1 ≡ n + 1 = omega arith in true≢false (sym h ∙ ap holds q ∙ f)
    go false (suc k) f e l h r = let q : n + suc k + 1 ≡ n + 1 + k + 1 = omega arith in let l' : k < length ws = omega (arith, l) in r e k l' (ap holds (sym q) ∙ h)

pub record IsFirstWith (holds : ℕ → Bool) (n : ℕ) (ws : List Place) (w : Place) : Type 0 where
  pub number : ℕ
  pub is_wait : slice_get ws number ≡ Some w
  pub it_holds : holds (n + number + 1) ≡ true
  pub before : (i : ℕ) → i < number → holds (n + i + 1) ≡ true → ⊥

holds_before : (holds : ℕ → Bool) (n k : ℕ) → holds (n + 1) ≡ false → ((i : ℕ) → i < k → holds (n + 1 + i + 1) ≡ true → ⊥) → (i : ℕ) → i < suc k → holds (n + i + 1) ≡ true → ⊥
holds_before holds n k f g zero l h = let q : n + 0 + 1 ≡ n + 1 = omega arith in true≢false (sym h ∙ ap holds q ∙ f)
holds_before holds n k f g (suc i) l h = let q : n + suc i + 1 ≡ n + 1 + i + 1 = omega arith in let l' : i < k = omega (arith, l) in g i l' (ap holds (sym q) ∙ h)

with_some : (holds : ℕ → Bool) (n : ℕ) (ws : List Place) (w : Place) → first_with holds n ws ≡ Some w → IsFirstWith holds n ws w
with_some holds n [] w e = absurd (none_some w e)
with_some holds n (v ∷ ws) w e = go (holds (n + 1)) refl e (with_some holds (n + 1) ws w)
  where
    go : (x : Bool) → holds (n + 1) ≡ x → (if x then Some v else first_with holds (n + 1) ws) ≡ Some w → (first_with holds (n + 1) ws ≡ Some w → IsFirstWith holds (n + 1) ws w)
        → IsFirstWith holds n (v ∷ ws) w
    go true f e r = let q : n + 0 + 1 ≡ n + 1 = omega arith in record { number = 0; is_wait = e; it_holds = ap holds q ∙ f; before = λ i l h. omega (arith, l) }
    go false f e r =
        let p = r e in
        let q : n + suc p.number + 1 ≡ n + 1 + p.number + 1 = omega arith in
        record { number = suc p.number; is_wait = p.is_wait; it_holds = ap holds q ∙ p.it_holds; before = holds_before holds n p.number f p.before }

-- elements by number
contains_get : {A : Type 0} (xs : List A) (k : ℕ) (x : A) → k < length xs → get_or xs k x ≡ x → slice_get xs k ≡ Some x
contains_get [] k x l e = absurd (omega (arith, l))
contains_get (y ∷ ys) zero x l e = ap Some e
contains_get (y ∷ ys) (suc k) x l e = let l' : k < length ys = omega (arith, l) in contains_get ys k x l' e

get_within : {A : Type 0} (xs : List A) (k : ℕ) (x : A) → slice_get xs k ≡ Some x → k < length xs
get_within [] k x e = absurd (none_some x e)
get_within (y ∷ ys) zero x e = omega arith
get_within (y ∷ ys) (suc k) x e = let l = get_within ys k x e in omega (arith, l)

get_map : {A B : Type 0} (f : A → B) (xs : List A) (k : ℕ) (x : A) → slice_get xs k ≡ Some x → slice_get (map f xs) k ≡ Some (f x)
get_map f [] k x e = absurd (none_some x e)
get_map f (y ∷ ys) zero x e = ap (mapped f) e
  where
    mapped : {A B : Type 0} → (A → B) → Option A → Option B
    mapped f None = None
    mapped f (Some x) = Some (f x)
get_map f (y ∷ ys) (suc k) x e = get_map f ys k x e

abbrev lost_of : (a d w : Place) → Lost
lost_of a d w = record { at = a; declared = d; wait = w }

told_same : (a a' d d' w w' : Place) → a ≡ a' → d ≡ d' → w ≡ w' → lost_of a d w ≡ lost_of a' d' w'
told_same a a' d d' w w' e f g = ap₂ (λ x y. lost_of x y w) e f ∙ ap (λ z. lost_of a' d' z) g

-- what is told of the first stale use
module _ (ps : List ParamTree) (b : Body) (s : HasSimpleParts b) where
  abbrev many : ℕ
  many = length (wait_places b)

  abbrev Stale : ℕ → ℕ → Type 0
  Stale n i = is_lost_with ps b i n ≡ true

  within_all : (k : ℕ) (w : Wait) → slice_get (waits b 1) k ≡ Some w → k < many
  within_all k w e =
      let l = get_within (waits b 1) k w e in
      let f = ap length (places_of_waits b 1) ∙ length-map (waits b 1) place_of in
      omega (arith, l, f)

  -- a bad use is stale where all waits are looked for
  bad_stale : (i : ℕ) (u : Mention) (w : Wait) → slice_get (routine_mentions ps b) i ≡ Some u → Contains (waits b 1) w → IsBad b u w → Stale many i
  bad_stale i u w e c x =
      let f = contains_get (waits b 1) c.0 w c.1 c.2 in
      bad_lost ps b s many i u e c.0 w f (within_all c.0 w f) x

  none_lost : first_stale 0 (routine_uses ps b many) ≡ None → LostIn ps b None
  none_lost e u c x = first_none (routine_uses ps b many) 0 c.0 e (bad_stale c.0 u x.0 (contains_get (routine_mentions ps b) c.0 u c.1 c.2) x.1 x.2)

  some_lost : (m : ℕ) (u : Use) (w : Place) → first_stale 0 (routine_uses ps b many) ≡ Some m → slice_get (routine_uses ps b many) m ≡ Some u
      → first_with (is_lost_with ps b m) 0 (wait_places b) ≡ Some w
      → IsFirstBad ps b (record { at = u.at; declared = u.declared; wait = w })
  some_lost m u w e f g =
      let r = first_some (routine_uses ps b many) 0 m e in
      let q = with_some (is_lost_with ps b m) 0 (wait_places b) w g in
      let x = lost_bad ps b s (0 + q.number + 1) m q.it_holds in
      let n = r.is_number in
      let mr : m ≡ r.number = omega (arith, n) in
      let same = only q.number x.number x.within (λ l. q.before x.number l
      (let l' : x.number < 0 + x.number + 1 = omega arith in bad_lost ps b s (0 + x.number + 1) m x.mention x.is_mention x.number x.wait x.is_wait l' x.bad)) in
      let is_wait = subst (λ k. slice_get (waits b 1) k ≡ Some x.wait) same x.is_wait in
      let p = mention_pair (tells many ps b) (control b) (each many ps b s) m x.mention x.is_mention in
      let same_use : p.found ≡ u = ap (or_use p.found) (sym p.is_use ∙ f) in
      let same_mention : p.mention ≡ x.mention = ap (or_mention p.mention) (sym p.is_mention ∙ x.is_mention) in
      let placed : w ≡ x.wait.at = ap (or_place w) (sym q.is_wait ∙ ap (λ l. slice_get l q.number) (places_of_waits b 1) ∙ get_map place_of (waits b 1) q.number x.wait is_wait) in
      record {
        use_number = m;
        wait_number = q.number;
        mention = x.mention;
        wait = x.wait;
        is_use = x.is_mention;
        is_wait = is_wait;
        told = told_same u.at x.mention.at u.declared x.mention.declared.at w x.wait.at (ap (λ (z : Use). z.at) (sym same_use) ∙ p.fits.at ∙ ap (λ (z : Mention). z.at) same_mention)
            (ap (λ (z : Use). z.declared) (sym same_use) ∙ p.fits.declared ∙ ap (λ (z : Mention). z.declared.at) same_mention) placed;
        bad = x.bad;
        no_use_before = λ i v l h z. r.before i (let l' : i < r.number = omega (arith, l, mr) in l') (bad_stale i v z.0 h z.1 z.2);
        no_wait_before = λ i y l h z. q.before i l (let l' : i < 0 + i + 1 = omega arith in bad_lost ps b s (0 + i + 1) m x.mention x.is_mention i y h l' z);
      }
    where
      or_place : Place → Option Place → Place
      or_place x None = x
      or_place x (Some y) = y

      only : (k n : ℕ) → n < 0 + k + 1 → (n < k → ⊥) → n ≡ k
      only k n l f = elim (same_or n k) [ inl e ↦ e | inr d ↦ absurd (f (omega (arith, l, d))) ]

  pub lost_by_walk : LostIn ps b (lost_in ps b)
  lost_by_walk = of_first (first_stale 0 (routine_uses ps b many)) refl
    where
      of_wait : (m : ℕ) (u : Use) (o : Option Place) → first_stale 0 (routine_uses ps b many) ≡ Some m → slice_get (routine_uses ps b many) m ≡ Some u
          → first_with (is_lost_with ps b m) 0 (wait_places b) ≡ o → LostIn ps b (lost_at (Some u) o)
      of_wait m u (Some w) e f g = some_lost m u w e f g
      of_wait m u None e f g =
          let r = first_some (routine_uses ps b many) 0 m e in
          let n = r.is_number in
          let mr : r.number ≡ m = omega (arith, n) in
          let stale : Stale many m = subst (Stale many) mr r.stale in
          let x = lost_bad ps b s many m stale in
          let l = x.within in
          let k : 0 + (many - 1) + 1 ≡ many = omega (arith, l) in
          let l' : many - 1 < many = omega (arith, l) in
          absurd (with_none (is_lost_with ps b m) 0 (wait_places b) g (many - 1) l' (ap (is_lost_with ps b m) k ∙ stale))

      of_use : (m : ℕ) (o : Option Use) → first_stale 0 (routine_uses ps b many) ≡ Some m → slice_get (routine_uses ps b many) m ≡ o
          → LostIn ps b (lost_at o (first_with (is_lost_with ps b m) 0 (wait_places b)))
      of_use m (Some u) e f = of_wait m u (first_with (is_lost_with ps b m) 0 (wait_places b)) e f refl
      of_use m None e f =
          let r = first_some (routine_uses ps b many) 0 m e in
          let n = r.is_number in
          let mr : r.number ≡ m = omega (arith, n) in
          absurd (false≢true (sym (ap is_stale_use f) ∙ subst (Stale many) mr r.stale))

      of_first : (o : Option ℕ) → first_stale 0 (routine_uses ps b many) ≡ o → LostIn ps b (told_of ps b (routine_uses ps b many) o)
      of_first None e = none_lost e
      of_first (Some m) e = of_use m (slice_get (routine_uses ps b many) m) e refl

-- declaration by declaration
decl_lost : (d : DeclTree) → InDecl HasSimpleParts d → LostInDecl d (lost_in_decl d)
decl_lost (StructDecl r) s = refl
decl_lost (FunctionDecl f) s = lost_by_walk f.params f.body s
decl_lost (ActorDecl f) s = lost_by_walk f.params f.body s

decl_then : (d : DeclTree) (ds : List DeclTree) (o : Option Lost) → LostInDecl d o → FirstLost ds (first_lost ds) → FirstLost (d ∷ ds) (first_of o (first_lost ds))
decl_then d ds None l r = later d ds (first_lost ds) l r
decl_then d ds (Some x) l r = here d ds x l

pub first_by_walk : (ds : List DeclTree) → LostByWalk ds
first_by_walk [] s = nothing
first_by_walk (d ∷ ds) s = decl_then d ds (lost_in_decl d) (decl_lost d s.0) (first_by_walk ds s.1)
