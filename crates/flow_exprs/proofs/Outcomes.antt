-- Where the machine stops is where the grammar says.
use Rattle.std.proofs.Common.{◌≡◌, ℕ, zero, suc, ◌+◌, ◌≤◌, ◌<◌, List, [], ◌∷◌, ◌++◌, refl, sym, ap, ◌∙◌, subst, arith, Bool, true, false, cond, ◌⊎◌, inl, inr}
use Rattle.std.specs.Prelude.{nat_le}
use Rattle.std.proofs.lemmas.List.{append-nil}
use Rattle.flow_base.specs.declared.place.Place.{Place}
use Rattle.flow_tree.specs.declared.token.Spot.{Spot}
use Rattle.flow_tree.specs.Tree.{ExprTree, NotExpr, NegExpr, BinaryExpr}
use Rattle.flow_tree.specs.GrammarToken.{Marked, spots_of, Keeps, Good}
use Rattle.flow_tree.specs.Grammar.{level, ExprRule}
use Rattle.flow_tree.proofs.GrammarLists.{spots_append}
use Rattle.flow_exprs.specs.Machine.{Negation, Minus, Stack, Top, InParen, InUnary, InTwo, InArgs, InIndex, State, Want, Have, WantArgs, WantName, WantOpen, WantClose, Dead, closed_tree, closed_stack, step, height, hole, fits_stack, fits}
use Rattle.std.proofs.Common.{◌-◌, length, take, drop}
use Rattle.flow_base.proofs.Bools.{and_left, and_right, bool_cases}
use Rattle.flow_tree.specs.declared.token.Tokens.{Tokens}
use Rattle.flow_tree.specs.GrammarToken.{Derives}
use Rattle.flow_tree.specs.GrammarAnswer.{place_at, ReadsAll, IsRead, IsMissing, IsTooDeep}
use Rattle.flow_exprs.specs.Machine.{Outcome, Ended, ShortAt, DeepAt, at_end, halt, turn, run}
use Rattle.flow_exprs.proofs.Sound.{HasRead, HaveRead, Front}
use Rattle.flow_exprs.proofs.Steps.{nat_lt_ge, closed}
use Rattle.flow_exprs.proofs.Reading.{le_true}
use Rattle.flow_exprs.proofs.Goes.{Alive, good_state, feed, has_read, feed_dead, feed_append, alive_or_dead, whole_derived}
use Rattle.flow_exprs.proofs.Complete.{settle, reads}
use Rattle.flow_exprs.proofs.Fits.{Along, FirstKeep, fit}

-- a run halts with this state, or would begin a part too deep
record Halts (S : State) (k : ℕ) (xs : List Spot) (o : Outcome) : Type 0 where
  count : ℕ
  within : count ≤ length xs
  alive : Alive (feed S (take count xs))
  fit : fits (feed S (take count xs)) ≡ true
  stuck : count < length xs → feed S (take (suc count) xs) ≡ Dead
  is : o ≡ halt (k + count) (feed S (take count xs))

record Deepens (S : State) (k : ℕ) (xs : List Spot) (o : Outcome) : Type 0 where
  count : ℕ
  within : count < length xs
  before : Alive (feed S (take count xs))
  alive : Alive (feed S (take (suc count) xs))
  fit : fits (feed S (take count xs)) ≡ true
  deep : fits (feed S (take (suc count) xs)) ≡ false
  is : o ≡ DeepAt (k + count)

turn_dead : (k : ℕ) (S T : State) (o : Outcome) → T ≡ Dead → turn k S T o ≡ halt k S
turn_dead k S T o e = ap (λ Q. turn k S Q o) e

pub turn_alive : (k : ℕ) (S T : State) (o : Outcome) → Alive T → turn k S T o ≡ cond (fits T) o (DeepAt k)
turn_alive k S (Want K) o a = refl
turn_alive k S (Have t K) o a = refl
turn_alive k S (WantArgs h K) o a = refl
turn_alive k S (WantName t K) o a = refl
turn_alive k S (WantOpen K) o a = refl
turn_alive k S (WantClose K) o a = refl
turn_alive k S Dead o a = absurd a

runs : (xs : List Spot) (S : State) (k : ℕ) → Alive S → fits S ≡ true → Halts S k xs (run k S xs) ⊎ Deepens S k xs (run k S xs)
runs [] S k a f = inl (record { count = 0; within = omega arith; alive = a; fit = f; stuck = λ h. absurd (omega arith); is = let e : k ≡ k + 0 = omega arith in ap (λ n. halt n S) e })
runs (x ∷ xs) S k a f =
    elim (alive_or_dead (step S x)) [
      | inr d ↦ inl (record {
        count = 0;
        within = omega arith;
        alive = a;
        fit = f;
        stuck = λ h. d;
        is = turn_dead k S (step S x) (run (suc k) (step S x) xs) d ∙ (let e : k ≡ k + 0 = omega arith in ap (λ n. halt n S) e);
      })
      | inl l ↦ elim (bool_cases (fits (step S x))) [
        | inr over ↦ inr (record {
          count = 0;
          within = omega arith;
          before = a;
          alive = l;
          fit = f;
          deep = over;
          is = turn_alive k S (step S x) (run (suc k) (step S x) xs) l ∙ ap (λ b. cond b (run (suc k) (step S x) xs) (DeepAt k)) over ∙ (let e : k ≡ k + 0 = omega arith in ap DeepAt e);
        })
        | inl okay ↦
            let same : run k S (x ∷ xs) ≡ run (suc k) (step S x) xs = turn_alive k S (step S x) (run (suc k) (step S x) xs) l ∙ ap (λ b. cond b (run (suc k) (step S x) xs) (DeepAt k)) okay in
            elim (runs xs (step S x) (suc k) l okay) [
              | inl h ↦ inl (record {
                count = suc h.count;
                within = omega (arith, h.within);
                alive = h.alive;
                fit = h.fit;
                stuck = λ z. h.stuck (omega arith);
                is = same ∙ h.is ∙ (let e : suc k + h.count ≡ k + suc h.count = omega arith in ap (λ n. halt n (feed (step S x) (take h.count xs))) e);
              })
              | inr h ↦ inr (record {
                count = suc h.count;
                within = omega (arith, h.within);
                before = h.before;
                alive = h.alive;
                fit = h.fit;
                deep = h.deep;
                is = same ∙ h.is ∙ (let e : suc k + h.count ≡ k + suc h.count = omega arith in ap DeepAt e);
              })
            ]
      ]
    ]

record AtEnd (k : ℕ) (t : ExprTree) (Q : Stack) (u : ExprTree) (j : ℕ) : Type 0 where
  depth : ℕ
  stack : Q ≡ Top depth
  tree : t ≡ u
  number : k ≡ j

end_is : (k : ℕ) (t : ExprTree) (Q : Stack) (u : ExprTree) (j : ℕ) → at_end k t Q ≡ Ended u j → AtEnd k t Q u j
end_is k t (Top d) u j h = record { depth = d; stack = refl; tree = cc; number = cc }
end_is k t (InParen K) u j h = absurd (cc)
end_is k t (InUnary v K) u j h = absurd (cc)
end_is k t (InTwo op l K) u j h = absurd (cc)
end_is k t (InArgs c ts K) u j h = absurd (cc)
end_is k t (InIndex l K) u j h = absurd (cc)

-- closing keeps the limit
closed_fits : (t : ExprTree) (K : Stack) → fits_stack K ≡ true → hole K + height t ≤ 65 → hole (closed_stack 0 K) + height (closed_tree 0 t K) ≤ 65
closed_fits t (Top d) f h = h
closed_fits t (InParen K) f h = h
closed_fits t (InUnary Negation K) f h = closed_fits (NotExpr t) K (and_right (nat_le (hole K) 64) (fits_stack K) f) (omega arith)
closed_fits t (InUnary Minus K) f h = closed_fits (NegExpr t) K (and_right (nat_le (hole K) 64) (fits_stack K) f) (omega arith)
closed_fits t (InTwo op l K) f h =
    let b : hole K + height l ≤ 64 = le_true (hole K + height l) 64 (and_left (nat_le (hole K + height l) 64) (fits_stack K) f) in
    rw (nat_lt_ge (level op) 0 (omega arith)) (closed_fits (BinaryExpr op l t) K (and_right (nat_le (hole K + height l) 64) (fits_stack K) f) (omega arith))
closed_fits t (InArgs c ts K) f h = h
closed_fits t (InIndex l K) f h = h

halt_ended : (base k : ℕ) (xs : List Spot) (S : State) (u : ExprTree) (j : ℕ) → feed (Want (Top base)) xs ≡ S → fits S ≡ true → halt k S ≡ Ended u j → (k ≡ j) × Derives (ExprRule 0 base) 5 xs u
halt_ended base k xs (Have t K) u j e f h =
    let r = end_is k (closed_tree 0 t K) (closed_stack 0 K) u j h in
    let le = closed_fits t K (and_right (nat_le (hole K + height t) 65) (fits_stack K) f) (le_true (hole K + height t) 65 (and_left (nat_le (hole K + height t) 65) (fits_stack K) f)) in
    let le2 : r.depth + height u ≤ 65 = subst (λ w. r.depth + height w ≤ 65) r.tree (subst (λ Q. hole Q + height (closed_tree 0 t K) ≤ 65) r.stack le) in
    let hv : HaveRead base t K xs = subst (λ T. HasRead base T xs) e (has_read base xs) in
    let c = closed base 0 t K xs (omega arith) hv in
    let fr : (r.depth ≡ base) × (c.front ≡ []) = subst (λ Q. Front base Q c.front) r.stack c.stack in
    (r.number, whole_derived base xs t u K r.depth 5 e r.stack r.tree (λ z. omega (arith, fr.0, le2)))
halt_ended base k xs (Want K) u j e f h = absurd (cc)
halt_ended base k xs (WantArgs c K) u j e f h = absurd (cc)
halt_ended base k xs (WantName t K) u j e f h = absurd (cc)
halt_ended base k xs (WantOpen K) u j e f h = absurd (cc)
halt_ended base k xs (WantClose K) u j e f h = absurd (cc)
halt_ended base k xs Dead u j e f h = absurd (cc)

settle_halt : (k : ℕ) (S : State) (u : ExprTree) (d : ℕ) → settle S ≡ Have u (Top d) → halt k S ≡ Ended u k
settle_halt k (Have t K) u d h =
    let s : closed_stack 0 K ≡ Top d = cc in
    let e : closed_tree 0 t K ≡ u = cc in
    ap (at_end k (closed_tree 0 t K)) s ∙ ap (λ w. Ended w k) e
settle_halt k (Want K) u d h = absurd (cc)
settle_halt k (WantArgs c K) u d h = absurd (cc)
settle_halt k (WantName t K) u d h = absurd (cc)
settle_halt k (WantOpen K) u d h = absurd (cc)
settle_halt k (WantClose K) u d h = absurd (cc)
settle_halt k Dead u d h = absurd (cc)

-- what is derived is read to the end
pub derived_settles : {d : ℕ} {xs : List Marked} {t : ExprTree} → ExprRule 0 d xs t → settle (feed (Want (Top d)) (spots_of xs)) ≡ Have t (Top d)
derived_settles {d} {xs} r = ap (λ z. settle (feed (Want (Top d)) z)) (sym (append-nil (spots_of xs))) ∙ reads r (Top d) [] tt tt

settle_dead : (u : ExprTree) (d : ℕ) → settle Dead ≡ Have u (Top d) → ⊥
settle_dead u d h = cc

-- nothing derived begins with what kills the machine
pub dead_bad : (d n : ℕ) (toks : List Spot) → feed (Want (Top d)) toks ≡ Dead → Good (ExprRule 0 d) n toks → ⊥
dead_bad d n toks e g =
    let flat : spots_of (g.read ++ g.rest) ≡ toks ++ spots_of g.rest = spots_append g.read g.rest ∙ ap (λ z. z ++ spots_of g.rest) g.is in
    let dead : feed (Want (Top d)) (toks ++ spots_of g.rest) ≡ Dead = feed_append toks (spots_of g.rest) (Want (Top d)) ∙ ap (λ S. feed S (spots_of g.rest)) e ∙ feed_dead (spots_of g.rest) in
    settle_dead g.tree d (sym (ap settle (ap (feed (Want (Top d))) flat ∙ dead)) ∙ derived_settles g.rule)

along_feed : (ys zs : List Spot) (S : State) → fits S ≡ true → Along (length ys) S (ys ++ zs) → fits (feed S ys) ≡ true
along_feed [] zs S f a = f
along_feed (y ∷ ys) zs S f a = along_feed ys zs (step S y) a.0 a.1

along_nil : (j : ℕ) (S : State) → Along j S []
along_nil zero S = tt
along_nil (suc j) S = tt

keeps_first : (xs ys : List Marked) → Keeps 5 xs → FirstKeep (length (spots_of xs)) (xs ++ ys)
keeps_first [] ys k = tt
keeps_first (x ∷ xs) ys k = (k.0, keeps_first xs ys k.1)

-- what begins within the limit fits
pub good_fits : (d : ℕ) (toks : List Spot) → Good (ExprRule 0 d) 5 toks → fits (feed (Want (Top d)) toks) ≡ true
good_fits d toks g =
    let j = length (spots_of g.read) in
    let a = fit g.rule (Top d) tt (omega arith) refl j [] tt (keeps_first g.read g.rest g.keeps) (λ h. along_nil (j - length (g.read ++ g.rest)) (Have g.tree (Top d))) in
    let flat : spots_of (g.read ++ g.rest) ++ [] ≡ spots_of g.read ++ spots_of g.rest = append-nil (spots_of (g.read ++ g.rest)) ∙ spots_append g.read g.rest in
    let b = subst (Along j (Want (Top d))) flat a in
    subst (λ z. fits (feed (Want (Top d)) z) ≡ true) g.is (along_feed (spots_of g.read) (spots_of g.rest) (Want (Top d)) refl b)

-- at most one tree
pub one_tree : (d n m : ℕ) (toks : List Spot) (t u : ExprTree) → Derives (ExprRule 0 d) n toks t → Derives (ExprRule 0 d) m toks u → t ≡ u
one_tree d n m toks t u a b =
    let x = derived_settles a.rule in
    let y = derived_settles b.rule in
    let e = ap (λ z. settle (feed (Want (Top d)) z)) (a.is ∙ sym b.is) in
    let w : Have t (Top d) ≡ Have u (Top d) = sym x ∙ e ∙ y in
    cc

good_at : (d n : ℕ) (toks : List Spot) → Alive (feed (Want (Top d)) toks) → (5 ≤ n → fits (feed (Want (Top d)) toks) ≡ true) → Good (ExprRule 0 d) n toks
good_at d n toks a f = good_state n d (feed (Want (Top d)) toks) toks (has_read d toks) a f

true_false : (b : Bool) → b ≡ true → b ≡ false → ⊥
true_false b x y = cc

ended_short : (u : ExprTree) (k j : ℕ) → Ended u k ≡ ShortAt j → ⊥
ended_short u k j h = cc

ended_deep : (u : ExprTree) (k j : ℕ) → Ended u k ≡ DeepAt j → ⊥
ended_deep u k j h = cc

halt_deep : (k : ℕ) (S : State) (j : ℕ) → halt k S ≡ DeepAt j → ⊥
halt_deep k (Have t K) j h = end_deep k (closed_tree 0 t K) (closed_stack 0 K) j h
  where
    end_deep : (k : ℕ) (t : ExprTree) (Q : Stack) (j : ℕ) → at_end k t Q ≡ DeepAt j → ⊥
    end_deep k t (Top d) j h = cc
    end_deep k t (InParen K) j h = cc
    end_deep k t (InUnary v K) j h = cc
    end_deep k t (InTwo op l K) j h = cc
    end_deep k t (InArgs c ts K) j h = cc
    end_deep k t (InIndex l K) j h = cc
halt_deep k (Want K) j h = cc
halt_deep k (WantArgs c K) j h = cc
halt_deep k (WantName t K) j h = cc
halt_deep k (WantOpen K) j h = cc
halt_deep k (WantClose K) j h = cc
halt_deep k Dead j h = cc

short_at : (k : ℕ) (S : State) (j : ℕ) → halt k S ≡ ShortAt j → k ≡ j
short_at k (Have t K) j h = end_short k (closed_tree 0 t K) (closed_stack 0 K) j h
  where
    end_short : (k : ℕ) (t : ExprTree) (Q : Stack) (j : ℕ) → at_end k t Q ≡ ShortAt j → k ≡ j
    end_short k t (Top d) j h = absurd (cc)
    end_short k t (InParen K) j h = cc
    end_short k t (InUnary v K) j h = cc
    end_short k t (InTwo op l K) j h = cc
    end_short k t (InArgs c ts K) j h = cc
    end_short k t (InIndex l K) j h = cc
short_at k (Want K) j h = cc
short_at k (WantArgs c K) j h = cc
short_at k (WantName t K) j h = cc
short_at k (WantOpen K) j h = cc
short_at k (WantClose K) j h = cc
short_at k Dead j h = cc

deep_same : (k j : ℕ) → DeepAt k ≡ DeepAt j → k ≡ j
deep_same k j h = cc

deep_ended : (k : ℕ) (u : ExprTree) (j : ℕ) → DeepAt k ≡ Ended u j → ⊥
deep_ended k u j h = cc

deep_short : (k j : ℕ) → DeepAt k ≡ ShortAt j → ⊥
deep_short k j h = cc

reads_all : (d k : ℕ) (xs : List Spot) (o : Outcome) → (h : Halts (Want (Top d)) k xs o) → ReadsAll (ExprRule 0 d) xs h.count
reads_all d k xs o h = record {
  within = h.within;
  good = good_at d 5 (take h.count xs) h.alive (λ z. h.fit);
  most = λ lt g. dead_bad d 2 (take (suc h.count) xs) (h.stuck lt) g;
}

pub ended_reads : (t : Tokens) (from d : ℕ) (u : ExprTree) (j : ℕ) → run from (Want (Top d)) (drop from t.spots.items) ≡ Ended u j → IsRead (ExprRule 0 d) t from u j
ended_reads t from d u j e =
    let xs = drop from t.spots.items in
    elim (runs xs (Want (Top d)) from tt refl) [
      | inl h ↦
          let r = halt_ended d (from + h.count) (take h.count xs) (feed (Want (Top d)) (take h.count xs)) u j refl h.fit (sym h.is ∙ e) in
          let n : h.count ≡ j - from = omega (arith, r.0) in
          record {
            after = omega (arith, r.0);
            reads = subst (ReadsAll (ExprRule 0 d) xs) n (reads_all d from xs _ h);
            derived = subst (λ i. Derives (ExprRule 0 d) 5 (take i xs) u) n r.1;
          }
      | inr h ↦ absurd (deep_ended (from + h.count) u j (sym h.is ∙ e))
    ]

pub short_missing : (t : Tokens) (from d : ℕ) (at : Place) (j : ℕ) → run from (Want (Top d)) (drop from t.spots.items) ≡ ShortAt j → at ≡ place_at t j → IsMissing (ExprRule 0 d) t from at
short_missing t from d at j e p =
    let xs = drop from t.spots.items in
    elim (runs xs (Want (Top d)) from tt refl) [
      | inl h ↦
          let S = feed (Want (Top d)) (take h.count xs) in
          let s = sym h.is ∙ e in
          record {
            count = h.count;
            reads = reads_all d from xs _ h;
            nothing = λ u w. let q = ap (λ z. settle (feed (Want (Top d)) z)) (sym w.is) ∙ derived_settles w.rule in ended_short u (from + h.count) j (sym (settle_halt (from + h.count) S u d q) ∙ s);
            place = p ∙ ap (place_at t) (sym (short_at (from + h.count) S j s));
          }
      | inr h ↦ absurd (deep_short (from + h.count) j (sym h.is ∙ e))
    ]

pub deep_refused : (t : Tokens) (from d : ℕ) (at : Place) (j : ℕ) → run from (Want (Top d)) (drop from t.spots.items) ≡ DeepAt j → at ≡ place_at t j → IsTooDeep (ExprRule 0 d) t from at
deep_refused t from d at j e p =
    let xs = drop from t.spots.items in
    elim (runs xs (Want (Top d)) from tt refl) [
      | inl h ↦ absurd (halt_deep (from + h.count) (feed (Want (Top d)) (take h.count xs)) j (sym h.is ∙ e))
      | inr h ↦ record {
        number = h.count;
        deep = record {
          within = h.within;
          read = good_at d 2 (take (suc h.count) xs) h.alive (λ z. absurd (omega arith));
          before = good_at d 5 (take h.count xs) h.before (λ z. h.fit);
          deep = λ g. true_false (fits (feed (Want (Top d)) (take (suc h.count) xs))) (good_fits d (take (suc h.count) xs) g) h.deep;
        };
        place = p ∙ ap (place_at t) (sym (deep_same (from + h.count) j (sym h.is ∙ e)));
      }
    ]
