-- What is left of a part when some of its tokens have been read.
use Rattle.std.proofs.Common.{◌≡◌, ℕ, zero, suc, ◌+◌, ◌-◌, ◌≤◌, ◌<◌, List, [], ◌∷◌, ◌++◌, length, drop, take, refl, sym, ap, ◌∙◌, subst, arith, append_assoc, slice_get, length-append, length-drop}
use Rattle.std.specs.Prelude.{unwrap_or, Result, Ok, Err}
use Rattle.std.specs.Option.{option_map}
use Rattle.std.specs.declared.option.Option.{Option}
use Rattle.std.specs.declared.option.Option.TheVariants.{None, Some}
use Rattle.std.proofs.lemmas.Option.{slice_get_within}
use Rattle.flow_tree.specs.declared.limits.Limits.{Limits}
use Rattle.flow_base.specs.declared.place.Place.{Place}
use Rattle.flow_tree.specs.declared.token.Token.{Token}
use Rattle.flow_tree.specs.declared.token.Token.TheVariants as token
use Rattle.flow_tree.specs.declared.token.Spot.{Spot}
use Rattle.flow_tree.specs.declared.token.Tokens.{Tokens}
use Rattle.flow_tree.specs.declared.ty.Ident.{Ident}
use Rattle.flow_tree.specs.declared.fault.Rule.TheVariants as rule
use Rattle.flow_tree.specs.declared.fault.SourceFault.{SourceFault}
use Rattle.flow_tree.specs.declared.fault.SourceFault.TheVariants.{Refused, AcrossWait, OutOfMemory}
use Rattle.flow_tree.specs.Grammar.{name_at}
use Rattle.flow_tree.specs.GrammarStmt.{Counts, StartsAt}
use Rattle.flow_tree.specs.GrammarToken.{Part, Statement, Node, Marked, opens, begin, spots_of, InLimitsOf, AllInLimitsOf, KeepsOf, GoodOf}
use Rattle.flow_tree.specs.GrammarAnswer.{place_at}
use Rattle.flow_tree.proofs.GrammarLists.{spots_append, spots_begin, keeps_append_of, keeps_begin_of, length_spots}
use Rattle.flow_exprs.specs.Answer.{ident_of, ident_in, ident_at}
use Rattle.flow_parse.specs.Reading.{token_at, Opening, Tok, Named, Then, Any, Reads, Answer}
use Rattle.flow_parse.specs.Parts.{NodeName, Placed, Begun, Marks}
use Rattle.flow_parse.specs.Failing.{Only, Stops, StopsAt, Fails}
use Rattle.flow_parse.proofs.Looking.{Looks, first_of, Back}
use Rattle.flow_parse.proofs.Begins.{Starts, looks_is}
use Rattle.flow_parse.proofs.Exact.{only_then, only_narrow, opening_only, named_only}
use Rattle.flow_parse.proofs.ExactParts.{nil_only, marks_only, placed_only}
use Rattle.flow_parse.proofs.Failing.{Inhabited, stops_first, stops_then, stops_narrow, stops_none, stops_marks, stops_beyond, stops_placed}

drop_nothing : (i : ℕ) → drop {A = Spot} i [] ≡ []
drop_nothing zero = refl
drop_nothing (suc i) = refl

pub drop_drop : (i j : ℕ) (xs : List Spot) → drop i (drop j xs) ≡ drop (j + i) xs
drop_drop i zero xs = let e : 0 + i ≡ i = omega arith in ap (λ n. drop n xs) (sym e)
drop_drop i (suc j) [] = drop_nothing i ∙ sym (drop_nothing (suc j + i))
drop_drop i (suc j) (x ∷ xs) = let e : suc j + i ≡ suc (j + i) = omega arith in drop_drop i j xs ∙ ap (λ n. drop n (x ∷ xs)) (sym e)

-- the next token, as the code looks at it
pub next_is : (spots : List Spot) (at : ℕ) → first_of (drop at spots) ≡ token_at spots at
next_is [] zero = refl
next_is [] (suc at) = refl
next_is (x ∷ xs) zero = refl
next_is (x ∷ xs) (suc at) = next_is xs at

drop_one : (xs : List Spot) (i : ℕ) (x : Spot) → slice_get xs i ≡ Some x → drop i xs ≡ x ∷ drop (i + 1) xs
drop_one [] i x h = absurd (cc)
drop_one (y ∷ ys) zero x h = let e : y ≡ x = cc in ap (λ z. z ∷ ys) e
drop_one (y ∷ ys) (suc i) x h = let e : suc (i + 1) ≡ suc i + 1 = omega arith in drop_one ys i x h ∙ ap (λ n. x ∷ drop n (y ∷ ys)) e

pub record Here (t : Tokens) (at : ℕ) (x : Token) : Type 0 where
  pub within : at < length t.spots.items
  pub is : drop at t.spots.items ≡ record { token = x; at = place_at t at } ∷ drop (at + 1) t.spots.items

spot_is : (s : Spot) (x : Token) (p : Place) → s.token ≡ x → s.at ≡ p → s ≡ record { token = x; at = p }
spot_is s x p e f = ap (λ y. record { token = y; at = s.at }) e ∙ ap (λ q. record { token = x; at = q }) f

here_of : (t : Tokens) (at : ℕ) (x : Token) (o : Option Spot) → slice_get t.spots.items at ≡ o → option_map (λ s. s.token) o ≡ Some x → Here t at x
here_of t at x None g e = absurd (cc)
here_of t at x (Some s) g e =
    let f : s.token ≡ x = cc in
    let p : s.at ≡ place_at t at = sym (ap (λ o. unwrap_or (option_map (λ s. s.at) o) t.end) g) in
    record { within = slice_get_within t.spots.items at s g; is = drop_one t.spots.items at s g ∙ ap (λ y. y ∷ drop (at + 1) t.spots.items) (spot_is s x (place_at t at) f p) }

pub here : (t : Tokens) (at : ℕ) (x : Token) → token_at t.spots.items at ≡ Some x → Here t at x
here t at x e = here_of t at x (slice_get t.spots.items at) refl e

-- one token
pub opening_reads : (limits : Limits) (t : Tokens) (at : ℕ) (ps : List Part) (x : Token) → token_at t.spots.items at ≡ Some x → AllInLimitsOf limits 7 ps
    → Reads limits (Opening ps x) Any t.spots.items at (place_at t at) (at + 1)
opening_reads limits t at ps x e k =
    let h = here t at x e in
    let i : 1 ≡ at + 1 - at = omega arith in
    record {
      after = omega arith;
      within = omega (arith, h.within);
      marked = opens ps x (place_at t at) ∷ [];
      rule = refl;
      is = h.is;
      keeps = (k, tt);
      only = subst (λ j. Only limits (Opening ps x) Any (place_at t at) j (drop at t.spots.items)) i
          (subst (Only limits (Opening ps x) Any (place_at t at) 1) (sym h.is) (opening_only limits ps x (place_at t at) (drop (at + 1) t.spots.items)));
    }

pub tok_reads : (limits : Limits) (t : Tokens) (at : ℕ) (x : Token) → token_at t.spots.items at ≡ Some x → Reads limits (Tok x) Any t.spots.items at (place_at t at) (at + 1)
tok_reads limits t at x e = opening_reads limits t at [] x e tt

-- Of W, which begins at one token, V is left at another: whatever the tokens from there are as V, those
-- from the first on are as W, and where they stop to be V, they stop to be W.
pub record Leaves (limits : Limits) {A B : Type 0} (W : List Marked → A → Type 0) (FW : A → List Marked → Type 0) (V : List Marked → B → Type 0) (FV : B → List Marked → Type 0) (g : B → A)
    (spots : List Spot) (from at : ℕ) : Type 0 where
  pub after : from ≤ at
  pub within : at ≤ length spots
  pub marked : List Marked
  pub is : drop from spots ≡ spots_of marked ++ drop at spots
  pub keeps : KeepsOf limits 7 marked
  pub sound : (v : List Marked) (b : B) → V v b → W (marked ++ v) (g b)
  pub only : (b : B) (i : ℕ) → Only limits V FV b i (drop at spots) → Only limits W FW (g b) ((at - from) + i) (drop from spots)
  pub stops : (n k : ℕ) → n ≤ 7 → Stops limits V FV n (drop at spots) k → Stops limits W FW n (drop from spots) ((at - from) + k)

-- One part is another where the next token is this one: whatever is the first is the second.
pub record Turns {B C : Type 0} (V : List Marked → B → Type 0) (FV : B → List Marked → Type 0) (U : List Marked → C → Type 0) (FU : C → List Marked → Type 0) (h : C → B)
    (o : Option Token) : Type 0 where
  pub back : (w z : List Marked) (b : B) → V w b → FV b z → Looks o (w ++ z) → Back V FV U FU h w z b
  pub forth : (w : List Marked) (c : C) → U w c → V w (h c)

-- One part and then another: what may follow the first where the second is read, and that there is
-- always a second.
pub record Link {A B : Type 0} (R : List Marked → A → Type 0) (FR : A → List Marked → Type 0) (S : A → List Marked → B → Type 0) (F : A × B → List Marked → Type 0) : Type 0 where
  pub follows : (a : A) (b : B) (v z : List Marked) → S a v b → F (a, b) z → FR a (v ++ z)
  pub more : (a : A) → Inhabited (S a)

-- anything may follow the first
pub free : {A B : Type 0} {R : List Marked → A → Type 0} {S : A → List Marked → B → Type 0} {F : A × B → List Marked → Type 0} → ((a : A) → Inhabited (S a)) → Link R Any S F
free more = record { follows = λ a b v z s f. tt; more = more }

module _ (limits : Limits) (spots : List Spot) where
  pub nothing : {A : Type 0} (W : List Marked → A → Type 0) (FW : A → List Marked → Type 0) (at : ℕ) → at ≤ length spots → Leaves limits W FW W FW (λ b. b) spots at at
  nothing W FW at h = record {
    after = omega arith;
    within = h;
    marked = [];
    is = refl;
    keeps = tt;
    sound = λ v b r. r;
    only = λ b i o. let e : i ≡ at - at + i = omega arith in subst (λ j. Only limits W FW b j (drop at spots)) e o;
    stops = λ n k le s. let e : k ≡ at - at + k = omega arith in subst (Stops limits W FW n (drop at spots)) e s;
  }

  -- the next token says that what is left is another part
  pub narrow : {A B C : Type 0} {W : List Marked → A → Type 0} {FW : A → List Marked → Type 0} {V : List Marked → B → Type 0} {FV : B → List Marked → Type 0} {U : List Marked → C → Type 0}
      {FU : C → List Marked → Type 0} {g : B → A} {h : C → B} {o : Option Token} {from at : ℕ}
      → token_at spots at ≡ o → Turns V FV U FU h o → Leaves limits W FW V FV g spots from at → Leaves limits W FW U FU (λ c. g (h c)) spots from at
  narrow {V = V} {FV = FV} {U = U} {FU = FU} {h = h} {o = o} {at = at} e u l =
      let f : first_of (drop at spots) ≡ o = next_is spots at ∙ e in
      record {
        after = l.after;
        within = l.within;
        marked = l.marked;
        is = l.is;
        keeps = l.keeps;
        sound = λ v c r. l.sound v (h c) (u.forth v c r);
        only = λ c i p. l.only (h c) i (only_narrow limits V FV U FU h o u.back i (drop at spots) c f p);
        stops = λ n k le s. l.stops n k le (stops_narrow limits V FV U FU h o n k (drop at spots) f u.back u.forth s);
      }

  -- a first part has been read
  pub then_reads : {A B C : Type 0} {W : List Marked → A → Type 0} {FW : A → List Marked → Type 0} {R : List Marked → B → Type 0} {FR : B → List Marked → Type 0} {S : B → List Marked → C → Type 0}
      {FV : B × C → List Marked → Type 0} {g : B × C → A} {from at to : ℕ} {b : B}
      → Link R FR S FV → Leaves limits W FW (Then R S) FV g spots from at → Reads limits R FR spots at b to → Leaves limits W FW (S b) (λ c. FV (b, c)) (λ c. g (b, c)) spots from to
  then_reads {W = W} {FW = FW} {R = R} {FR = FR} {S = S} {FV = FV} {g = g} {from = from} {at = at} {to = to} {b = b} k l r =
      let m : length r.marked ≡ to - at = omega (
        arith,
        r.after,
        r.within,
        ap length r.is,
        length-append (spots_of r.marked)
            (drop to spots),
        length-drop at spots,
        length-drop to spots,
        length_spots r.marked,
      ) in
      let d : drop (to - at) (drop at spots) ≡ drop to spots = drop_drop (to - at) at spots ∙ (let e : at + (to - at) ≡ to = omega (arith, r.after) in ap (λ n. drop n spots) e) in
      let o2 : Only limits R FR b (length r.marked) (spots_of r.marked ++ drop to spots) =
      subst (λ ts. Only limits R FR b (length r.marked) ts) r.is (subst (λ i. Only limits R FR b i (drop at spots)) (sym m) r.only) in
      record {
        after = omega (arith, l.after, r.after);
        within = r.within;
        marked = l.marked ++ r.marked;
        is = l.is ∙ ap (λ z. spots_of l.marked ++ z) r.is ∙ sym (append_assoc (spots_of l.marked) (spots_of r.marked) (drop to spots))
            ∙ ap (λ z. z ++ drop to spots) (sym (spots_append l.marked r.marked));
        keeps = keeps_append_of limits 7 l.marked r.marked l.keeps r.keeps;
        sound = λ v c s. subst (λ z. W z (g (b, c))) (sym (append_assoc l.marked r.marked v))
            (l.sound (r.marked ++ v) (b, c) (record { first = r.marked; rest = v; is = refl; front = r.rule; back = s }));
        only = λ c i p.
            let q = only_then limits R FR S FV k.follows (to - at) i (drop at spots) b c r.only (subst (Only limits (S b) (λ c. FV (b, c)) c i) (sym d) p) in
            let e : at - from + (to - at + i) ≡ to - from + i = omega (arith, l.after, r.after) in
            subst (λ j. Only limits W FW (g (b, c)) j (drop from spots)) e (l.only (b, c) (to - at + i) q);
        stops = λ n j le s.
            let q = stops_then limits R FR S FV k.follows n j r.marked b (drop to spots) le r.rule r.keeps o2 s in
            let q2 = subst (λ ts. Stops limits (Then R S) FV n ts (length r.marked + j)) (sym r.is) q in
            let e : at - from + (length r.marked + j) ≡ to - from + j = omega (arith, l.after, r.after, m) in
            subst (Stops limits W FW n (drop from spots)) e (l.stops n (length r.marked + j) le q2);
      }

  -- the rest has been read
  pub done : {A B : Type 0} {W : List Marked → A → Type 0} {FW : A → List Marked → Type 0} {V : List Marked → B → Type 0} {FV : B → List Marked → Type 0} {g : B → A} {from at to : ℕ} {b : B}
      → Leaves limits W FW V FV g spots from at → Reads limits V FV spots at b to → Reads limits W FW spots from (g b) to
  done {W = W} {FW = FW} {V = V} {FV = FV} {g = g} {from = from} {at = at} {to = to} {b = b} l r =
      let e : at - from + (to - at) ≡ to - from = omega (arith, l.after, r.after) in
      record {
        after = omega (arith, l.after, r.after);
        within = r.within;
        marked = l.marked ++ r.marked;
        rule = l.sound r.marked _ r.rule;
        is = l.is ∙ ap (λ z. spots_of l.marked ++ z) r.is ∙ sym (append_assoc (spots_of l.marked) (spots_of r.marked) (drop to spots))
            ∙ ap (λ z. z ++ drop to spots) (sym (spots_append l.marked r.marked));
        keeps = keeps_append_of limits 7 l.marked r.marked l.keeps r.keeps;
        only = subst (λ j. Only limits W FW (g b) j (drop from spots)) e (l.only b (to - at) r.only);
      }

  -- nothing is left to be read
  pub ended : {A B : Type 0} {W : List Marked → A → Type 0} {FW : A → List Marked → Type 0} {V : List Marked → B → Type 0} {FV : B → List Marked → Type 0} {g : B → A} {from at : ℕ} (b : B)
      → Reads limits V FV spots at b at → Leaves limits W FW V FV g spots from at → Reads limits W FW spots from (g b) at
  ended b r l = done l r

  -- the same meaning in other words
  pub means : {A B : Type 0} {W : List Marked → A → Type 0} {FW : A → List Marked → Type 0} {V : List Marked → B → Type 0} {FV : B → List Marked → Type 0} {g : B → A} {from at : ℕ} (h : B → A)
      → ((b : B) → g b ≡ h b)
      → Leaves limits W FW V FV g spots from at → Leaves limits W FW V FV h spots from at
  means {W = W} {FW = FW} {g = g} {from = from} {at = at} h e l = record {
    after = l.after;
    within = l.within;
    marked = l.marked;
    is = l.is;
    keeps = l.keeps;
    sound = λ v b r. subst (λ a. W (l.marked ++ v) a) (e b) (l.sound v b r);
    only = λ b i o. subst (λ a. Only limits W FW a ((at - from) + i) (drop from spots)) (e b) (l.only b i o);
    stops = l.stops;
  }

  -- what was read is also another part, which the next token says
  pub become : {A B : Type 0} {W : List Marked → A → Type 0} {FW : A → List Marked → Type 0} {R : List Marked → B → Type 0} {FR : B → List Marked → Type 0} {h : B → A} {o : Option Token} {from to : ℕ}
      {b : B} → token_at spots from ≡ o → Turns W FW R FR h o
      → Reads limits R FR spots from b to → Reads limits W FW spots from (h b) to
  become {W = W} {FW = FW} {from = from} e u r = done (narrow e u (nothing W FW from (omega (arith, r.after, r.within)))) r

  -- nothing stands here, which the next token says
  pub empty : {A : Type 0} (W : List Marked → A → Type 0) (FW : A → List Marked → Type 0) (at : ℕ) (a : A) (o : Option Token) → at ≤ length spots → token_at spots at ≡ o → W [] a
      → ((w z : List Marked) (b : A) → W w b → FW b z → Looks o (w ++ z) → (b ≡ a) × (w ≡ [])) → Reads limits W FW spots at a at
  empty W FW at a o h e r f =
      let i : 0 ≡ at - at = omega arith in
      record {
        after = omega arith;
        within = h;
        marked = [];
        rule = r;
        is = refl;
        keeps = tt;
        only = subst (λ j. Only limits W FW a j (drop at spots)) i (nil_only limits W FW a o (drop at spots) (next_is spots at ∙ e) f);
      }

-- What is refused of what is left is refused of the whole.
module _ (limits : Limits) {A B : Type 0} {W : List Marked → A → Type 0} {FW : A → List Marked → Type 0} {V : List Marked → B → Type 0} {FV : B → List Marked → Type 0} {g : B → A} (t : Tokens)
    {from at : ℕ} (l : Leaves limits W FW V FV g t.spots.items from at) where
  stops_at : (n : ℕ) (p : Place) → n ≤ 7 → StopsAt limits V FV n t at p → StopsAt limits W FW n t from p
  stops_at n p le s =
      let e : at + s.number ≡ from + ((at - from) + s.number) = omega (arith, l.after) in
      record { number = (at - from) + s.number; place = s.place ∙ ap (place_at t) e; stops = l.stops n s.number le s.stops }

  pub fails : (e : SourceFault) → Fails limits V FV t at e → Fails limits W FW t from e
  fails (Refused (rule.S n) p) a = (a.0, stops_at 2 p (omega arith) a.1)
  fails (Refused (rule.L n) p) a = (a.0, a.1, stops_at n p a.1 a.2)
  fails (Refused (rule.K n) p) a = a
  fails (AcrossWait p q r) a = a
  fails OutOfMemory a = tt

-- a first part of what is left is refused
module _ (limits : Limits) {B C : Type 0} {R : List Marked → B → Type 0} {FR : B → List Marked → Type 0} {S : B → List Marked → C → Type 0} {FV : B × C → List Marked → Type 0} (k : Link R FR S FV)
    (t : Tokens) (at : ℕ) where
  stops_at_first : (n : ℕ) (p : Place) → StopsAt limits R FR n t at p → StopsAt limits (Then R S) FV n t at p
  stops_at_first n p s = record { number = s.number; place = s.place; stops = stops_first limits R FR S FV k.follows n s.number (drop at t.spots.items) k.more s.stops }

  fails_at_first : (e : SourceFault) → Fails limits R FR t at e → Fails limits (Then R S) FV t at e
  fails_at_first (Refused (rule.S n) p) a = (a.0, stops_at_first 2 p a.1)
  fails_at_first (Refused (rule.L n) p) a = (a.0, a.1, stops_at_first n p a.2)
  fails_at_first (Refused (rule.K n) p) a = a
  fails_at_first (AcrossWait p q r) a = a
  fails_at_first OutOfMemory a = tt

pub first_fails : (limits : Limits) → {A B C : Type 0} {W : List Marked → A → Type 0} {FW : A → List Marked → Type 0} {R : List Marked → B → Type 0} {FR : B → List Marked → Type 0}
    {S : B → List Marked → C → Type 0} {FV : B × C → List Marked → Type 0} {g : B × C → A} (t : Tokens) {from at : ℕ}
    → Link R FR S FV → Leaves limits W FW (Then R S) FV g t.spots.items from at → (e : SourceFault) → Fails limits R FR t at e → Fails limits W FW t from e
first_fails limits t {at = at} k l e a = fails limits t l e (fails_at_first limits k t at e a)

-- a list of its parts
pub glue : {w r b : List Marked} (a : List Marked) → w ≡ a ++ r → r ≡ b → w ≡ a ++ b
glue a e f = e ∙ ap (λ z. a ++ z) f

pub behind : {w a r b : List Marked} {x : Marked} → w ≡ a ++ r → a ≡ x ∷ [] → r ≡ b → w ≡ x ∷ b
behind {r} {x} e f g = e ∙ ap (λ z. z ++ r) f ∙ ap (λ z. x ∷ z) g

-- the first token of a part
starts_first : (xs : List Marked) (rest ys : List Spot) (p : Place) → 0 < length xs → ys ≡ spots_of xs ++ rest → ((x : Spot) (zs : List Spot) → ys ≡ x ∷ zs → x.at ≡ p) → StartsAt xs p
starts_first [] rest ys p h e f = absurd (omega arith)
starts_first (x ∷ xs) rest ys p h e f = f x.spot (spots_of xs ++ rest) e

get_drop : (xs : List Spot) (a : ℕ) (x : Spot) (zs : List Spot) → drop a xs ≡ x ∷ zs → slice_get xs a ≡ Some x
get_drop [] zero x zs e = absurd (cc)
get_drop [] (suc a) x zs e = absurd (cc)
get_drop (y ∷ ys) zero x zs e = let h : y ≡ x = cc in ap (λ z. Some z) h
get_drop (y ∷ ys) (suc a) x zs e = get_drop ys a x zs e

pub placed_reads : (limits : Limits) → {A : Type 0} {R : List Marked → A → Type 0} {F : A → List Marked → Type 0} {a : A} (t : Tokens) (from to : ℕ) → from < to
    → Reads limits R F t.spots.items from a to → Reads limits (Placed R) (λ x. F x.1) t.spots.items from (place_at t from, a) to
placed_reads limits {R = R} {F = F} {a = a} t from to lt r =
    let spots = t.spots.items in
    let n : 0 < length r.marked = omega (arith, ap length r.is, length-append (spots_of r.marked) (drop to spots), length-drop from spots, length-drop to spots, length_spots r.marked, r.within) in
    let place = λ (x : Spot) (zs : List Spot) (e : drop from spots ≡ x ∷ zs). sym (ap (λ o. unwrap_or (option_map (λ s. s.at) o) t.end) (get_drop spots from x zs e)) in
    record {
      after = r.after;
      within = r.within;
      marked = r.marked;
      rule = (starts_first r.marked (drop to spots) (drop from spots) (place_at t from) n r.is place, r.rule);
      is = r.is;
      keeps = r.keeps;
      only = placed_where (drop from spots) (place_at t from) (to - from) (omega (arith, length-drop from spots, r.within)) place r.only;
    }
  where
    placed_where : (ts : List Spot) (p : Place) (i : ℕ) → 0 < length ts → ((x : Spot) (zs : List Spot) → ts ≡ x ∷ zs → x.at ≡ p) → Only limits R F a i ts
        → Only limits (Placed R) (λ x. F x.1) (p, a) i ts
    placed_where [] p i h f o = absurd (omega arith)
    placed_where (x ∷ zs) p i h f o = subst (λ q. Only limits (Placed R) (λ y. F y.1) (q, a) i (x ∷ zs)) (f x zs refl) (placed_only limits R F a i x zs o)

pub starts_append : (xs ys : List Marked) (p : Place) → StartsAt xs p → StartsAt (xs ++ ys) p
starts_append [] ys p h = absurd h
starts_append (x ∷ xs) ys p h = h

-- a part that begins with another
pub marks_reads : (limits : Limits) → {A : Type 0} {R : List Marked → A → Type 0} {F : A → List Marked → Type 0} {a : A} {from to : ℕ} (spots : List Spot) (p : Part) → InLimitsOf limits 7 p
    → Reads limits R F spots from a to → Reads limits (Marks p R) F spots from a to
marks_reads limits {R = R} {F = F} {a = a} {from = from} {to = to} spots p l r = record {
  after = r.after;
  within = r.within;
  marked = begin p r.marked;
  rule = (r.marked, r.rule, refl);
  is = r.is ∙ ap (λ z. z ++ drop to spots) (sym (spots_begin p r.marked));
  keeps = keeps_begin_of limits 7 p r.marked l r.keeps;
  only = marks_only limits R F p a (to - from) (drop from spots) r.only;
}

-- a name that is a type
node_turns : (d : ℕ) (o : Option Token) → Turns (NodeName d) Any (Marks (Node d) Named) Any (λ x. x) o
node_turns d o = record { back = λ w z b r f l. record { tree = b; rule = (name_at b ∷ [], refl, r); is = refl; follows = tt }; forth = λ w c r. r.2 ∙ ap (begin (Node d)) r.1 }

pub node_reads : (limits : Limits) (spots : List Spot) (d from to : ℕ) (x : Ident) → d ≤ 64 → Reads limits Named Any spots from x to → Reads limits (NodeName d) Any spots from x to
node_reads limits spots d from to x h r = become limits spots refl (node_turns d (token_at spots from)) (marks_reads limits spots (Node d) (λ l. h) r)

-- a part that is a statement
pub begun_turns : {A : Type 0} (R : List Marked → A → Type 0) (F : A → List Marked → Type 0) (c : Counts) (d : ℕ) (o : Option Token)
    → Turns (Begun c d R) F (Marks (Statement (suc c.statements)) (Marks (Node d) R)) F (λ x. x) o
begun_turns R F c d o = record {
  back = λ w z b r f l. record { tree = b; rule = (begin (Node d) r.0, (r.0, r.1, refl), r.2); is = refl; follows = f };
  forth = λ w x r. (r.1.0, r.1.1, r.2 ∙ ap (begin (Statement (suc c.statements))) r.1.2);
}

-- an answer for one part is one for another, which the next token says
pub answer_become : (limits : Limits) → {A B X : Type 0} {W : List Marked → A → Type 0} {FW : A → List Marked → Type 0} {R : List Marked → B → Type 0} {FR : B → List Marked → Type 0} {h : B → A}
    {o : Option Token} (v : X → B) (to : X → ℕ) (t : Tokens) (from : ℕ) → from ≤ length t.spots.items → token_at t.spots.items from ≡ o → Turns W FW R FR h o
    → (r : Result X SourceFault) → Answer limits R FR v to t from r → Answer limits W FW (λ x. h (v x)) to t from r
answer_become limits v to t from b e u (Ok x) a = become limits t.spots.items e u a
answer_become limits {W = W} {FW = FW} v to t from b e u (Err f) a = fails limits t (narrow limits t.spots.items e u (nothing limits t.spots.items W FW from b)) f a

-- a part that begins with another and keeps its limit is refused where it is refused alone
pub marks_fails : (limits : Limits) → {A : Type 0} (R : List Marked → A → Type 0) (F : A → List Marked → Type 0) (p : Part) (t : Tokens) (from : ℕ) → ((m : ℕ) → m ≤ 7 → InLimitsOf limits m p)
    → (e : SourceFault) → Fails limits R F t from e → Fails limits (Marks p R) F t from e
marks_fails limits R F p t from k = each
  where
    at_place : (n : ℕ) (q : Place) → n ≤ 7 → StopsAt limits R F n t from q → StopsAt limits (Marks p R) F n t from q
    at_place n q le s = record { number = s.number; place = s.place; stops = stops_marks limits R F p n s.number (drop from t.spots.items) le k s.stops }

    each : (e : SourceFault) → Fails limits R F t from e → Fails limits (Marks p R) F t from e
    each (Refused (rule.S n) q) a = (a.0, at_place 2 q (omega arith) a.1)
    each (Refused (rule.L n) q) a = (a.0, a.1, at_place n q a.1 a.2)
    each (Refused (rule.K n) q) a = a
    each (AcrossWait q r s) a = a
    each OutOfMemory a = tt

pub answer_marks : (limits : Limits) → {A X : Type 0} (R : List Marked → A → Type 0) (F : A → List Marked → Type 0) (p : Part) (v : X → A) (to : X → ℕ) (t : Tokens) (from : ℕ)
    → ((m : ℕ) → m ≤ 7 → InLimitsOf limits m p) → (r : Result X SourceFault) → Answer limits R F v to t from r → Answer limits (Marks p R) F v to t from r
answer_marks limits R F p v to t from k (Ok x) a = marks_reads limits t.spots.items p (k 7 (omega arith)) a
answer_marks limits R F p v to t from k (Err e) a = marks_fails limits R F p t from k e a

pub answer_begun : (limits : Limits) → {A X : Type 0} (R : List Marked → A → Type 0) (F : A → List Marked → Type 0) (v : X → A) (to : X → ℕ) (t : Tokens) (from : ℕ) (c : Counts) (d : ℕ)
    → from ≤ length t.spots.items → c.statements < limits.statements → d ≤ 64
    → (r : Result X SourceFault) → Answer limits R F v to t from r → Answer limits (Begun c d R) F v to t from r
answer_begun limits R F v to t from c d b l m r a =
    (answer_become limits) v to t from b refl (begun_turns R F c d (token_at t.spots.items from)) r
    (answer_marks limits (Marks (Node d) R) F (Statement (suc c.statements)) v to t from (λ n le h. omega arith) r (answer_marks limits R F (Node d) v to t from (λ n le h. m) r a))

-- a part with the place of its first token
pub placed_fails : (limits : Limits) → {A : Type 0} (R : List Marked → A → Type 0) (F : A → List Marked → Type 0) (P : Token → Type 0) → ((w : List Marked) (a : A) → R w a → Starts P w)
    → (t : Tokens) (from : ℕ) → (e : SourceFault) → Fails limits R F t from e → Fails limits (Placed R) (λ x. F x.1) t from e
placed_fails limits R F P begins t from = each
  where
    at_place : (n : ℕ) (q : Place) → StopsAt limits R F n t from q → StopsAt limits (Placed R) (λ x. F x.1) n t from q
    at_place n q s = record { number = s.number; place = s.place; stops = stops_placed limits R F P begins n s.number (drop from t.spots.items) s.stops }

    each : (e : SourceFault) → Fails limits R F t from e → Fails limits (Placed R) (λ x. F x.1) t from e
    each (Refused (rule.S n) q) a = (a.0, at_place 2 q a.1)
    each (Refused (rule.L n) q) a = (a.0, a.1, at_place n q a.2)
    each (Refused (rule.K n) q) a = a
    each (AcrossWait q r s) a = a
    each OutOfMemory a = tt

-- no such part can begin here, as the next token says
pub none_fails : (limits : Limits) → {A : Type 0} (R : List Marked → A → Type 0) (F : A → List Marked → Type 0) (t : Tokens) (at : ℕ) → Inhabited R
    → ((w z : List Marked) (b : A) → R w b → F b z → Looks (token_at t.spots.items at) (w ++ z) → ⊥) → Fails limits R F t at (Refused (rule.S 5) (place_at t at))
none_fails limits R F t at any f =
    let e : at ≡ at + 0 = omega arith in
    (refl, record { number = 0; place = ap (place_at t) e; stops = stops_none limits R F (token_at t.spots.items at) (drop at t.spots.items) (next_is t.spots.items at) any f })

-- another token stands here
pub tok_fails : (limits : Limits) (t : Tokens) (at : ℕ) (x : Token) → (token_at t.spots.items at ≡ Some x → ⊥) → Fails limits (Tok x) Any t at (Refused (rule.S 5) (place_at t at))
tok_fails limits t at x f = none_fails limits (Tok x) Any t at (record { marked = opens [] x (place_at t at) ∷ []; tree = place_at t at; rule = refl })
    (λ w z p r g l. f (looks_is (token_at t.spots.items at) (opens [] x p) [] z r l))

-- A part could begin here, but not with this number or at this depth.
pub beyond_fails : (limits : Limits) → {A : Type 0} (R : List Marked → A → Type 0) (F : A → List Marked → Type 0) (p : Part) (n : ℕ) (t : Tokens) (at : ℕ) → 3 ≤ n → n ≤ 7 → at < length t.spots.items
    → (InLimitsOf limits n p → ⊥) → ((m : ℕ) → m < n → InLimitsOf limits m p) → (P : Token → Type 0) → ((w : List Marked) (b : A) → R w b → Starts P w)
    → Inhabited R → ((m : ℕ) → m < n → GoodOf limits R m (take 1 (drop at t.spots.items))) → Fails limits (Marks p R) F t at (Refused (rule.L n) (place_at t at))
beyond_fails limits R F p n t at l h lt out keep P begins any here =
    let e : at ≡ at + 0 = omega arith in
    (l, h, record { number = 0; place = ap (place_at t) e; stops = stops_beyond limits R F p n (drop at t.spots.items) (omega (arith, length-drop at t.spots.items)) out keep P begins any here })

-- a name
name_of : (limits : Limits) (t : Tokens) (at : ℕ) (s : Spot) (x : Ident) → slice_get t.spots.items at ≡ Some s → s.token ≡ token.Name x.name → s.at ≡ x.at
    → Reads limits Named Any t.spots.items at x (at + 1)
name_of limits t at s x g e f =
    let d : drop at t.spots.items ≡ record { token = token.Name x.name; at = x.at } ∷ drop (at + 1) t.spots.items =
    drop_one t.spots.items at s g ∙ ap (λ y. y ∷ drop (at + 1) t.spots.items) (spot_is s (token.Name x.name) x.at e f) in
    let i : 1 ≡ at + 1 - at = omega arith in
    record {
      after = omega arith;
      within = omega (arith, slice_get_within t.spots.items at s g);
      marked = name_at x ∷ [];
      rule = refl;
      is = d;
      keeps = (tt, tt);
      only = subst (λ j. Only limits Named Any x j (drop at t.spots.items)) i (subst (Only limits Named Any x 1) (sym d) (named_only limits x (drop (at + 1) t.spots.items)));
    }

names : (x : Token) (p : Place) (y : Ident) → ident_of x p ≡ Some y → (x ≡ token.Name y.name) × (p ≡ y.at)
names (token.Name n) p y e = let f : record { name = n; at = p } ≡ y = cc in (ap (λ i. token.Name i.name) f, ap (λ i. i.at) f)
names (token.Number n) p y e = absurd (cc)
names (token.Text n) p y e = absurd (cc)
names (token.Word n) p y e = absurd (cc)
names (token.Sign n) p y e = absurd (cc)

name_in : (limits : Limits) (t : Tokens) (at : ℕ) (o : Option Spot) (y : Ident) → slice_get t.spots.items at ≡ o → ident_in o ≡ Some y → Reads limits Named Any t.spots.items at y (at + 1)
name_in limits t at None y g e = absurd (cc)
name_in limits t at (Some s) y g e = let r = names s.token s.at y e in name_of limits t at s y g r.0 r.1

pub name_reads : (limits : Limits) (t : Tokens) (at : ℕ) (y : Ident) → ident_at t.spots.items at ≡ Some y → Reads limits Named Any t.spots.items at y (at + 1)
name_reads limits t at y e = name_in limits t at (slice_get t.spots.items at) y refl e

-- no name stands here
no_name : (o : Option Spot) (y : Ident) → ident_in o ≡ None → option_map (λ s. s.token) o ≡ Some (token.Name y.name) → ⊥
no_name None y g e = cc
no_name (Some s) y g e = not_a_name s.token s.at y g (let f : s.token ≡ token.Name y.name = cc in f)
  where
    not_a_name : (x : Token) (p : Place) (y : Ident) → ident_of x p ≡ None → x ≡ token.Name y.name → ⊥
    not_a_name (token.Name n) p y g e = cc
    not_a_name (token.Number n) p y g e = cc
    not_a_name (token.Text n) p y g e = cc
    not_a_name (token.Word n) p y g e = cc
    not_a_name (token.Sign n) p y g e = cc

-- where a name stands, and where none does
pub nameless : (t : Tokens) (at : ℕ) → ident_at t.spots.items at ≡ None → (m : List ℕ) → token_at t.spots.items at ≡ Some (token.Name m) → ⊥
nameless t at e m f = no_name (slice_get t.spots.items at) (record { name = m; at = place_at t at }) e f

named_token : (o : Option Spot) (y : Ident) → ident_in o ≡ Some y → option_map (λ s. s.token) o ≡ Some (token.Name y.name)
named_token None y e = absurd (cc)
named_token (Some s) y e = ap (λ x. Some x) (names s.token s.at y e).0

pub name_token : (t : Tokens) (at : ℕ) (y : Ident) → ident_at t.spots.items at ≡ Some y → token_at t.spots.items at ≡ Some (token.Name y.name)
name_token t at y e = named_token (slice_get t.spots.items at) y e

pub name_fails : (limits : Limits) (t : Tokens) (at : ℕ) → ident_at t.spots.items at ≡ None → Fails limits Named Any t at (Refused (rule.S 5) (place_at t at))
name_fails limits t at e = none_fails limits Named Any t at (record { marked = name_at (record { name = []; at = place_at t at }) ∷ []; tree = record { name = []; at = place_at t at }; rule = refl })
    (λ w z y r g l. no_name (slice_get t.spots.items at) y e (looks_is (token_at t.spots.items at) (name_at y) [] z r l))

-- a depth, or a number, in the two ways in which it is written
pub deeper : (limits : Limits) → {A : Type 0} {F : A → List Marked → Type 0} {spots : List Spot} {from to : ℕ} {a : A} (R : ℕ → List Marked → A → Type 0) (d : ℕ)
    → Reads limits (R (d + 1)) F spots from a to → Reads limits (R (suc d)) F spots from a to
deeper limits {F = F} {spots = spots} {from = from} {to = to} {a = a} R d r = let e : d + 1 ≡ suc d = omega arith in subst (λ k. Reads limits (R k) F spots from a to) e r

-- an answer for what is left
pub answer_done : (limits : Limits) → {A B X : Type 0} {W : List Marked → A → Type 0} {FW : A → List Marked → Type 0} {V : List Marked → B → Type 0} {FV : B → List Marked → Type 0} {g : B → A}
    {from at : ℕ} (v : X → B) (to : X → ℕ) (t : Tokens)
    → Leaves limits W FW V FV g t.spots.items from at → (r : Result X SourceFault) → Answer limits V FV v to t at r → Answer limits W FW (λ x. g (v x)) to t from r
answer_done limits v to t l (Ok x) a = done limits t.spots.items l a
answer_done limits v to t l (Err e) a = fails limits t l e a

-- a part with another parameter
pub moved : (limits : Limits) → {P A : Type 0} {F : A → List Marked → Type 0} {spots : List Spot} {from to : ℕ} {a : A} {p q : P} (R : P → List Marked → A → Type 0) → p ≡ q
    → Reads limits (R p) F spots from a to → Reads limits (R q) F spots from a to
moved limits {F = F} {spots = spots} {from = from} {to = to} {a = a} R e r = subst (λ k. Reads limits (R k) F spots from a to) e r
