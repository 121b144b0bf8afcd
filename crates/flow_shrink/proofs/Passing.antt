-- What a pass over the places of an edit finds, place by place, and one pass after another.
use Rattle.std.proofs.Common.{◌≡◌, ◌≢◌, ℕ, zero, suc, ◌+◌, ◌*◌, ◌<◌, ◌≤◌, Bool, true, false, true≢false, add-mul, mul-le-mul_right, List, refl, sym, ap, ◌∙◌, arith, subst, ◌⊎◌, inl, inr}
use Rattle.flow_trace.specs.declared.line.Line.{Line}
use Rattle.flow_monitor.specs.Ears.{Ear}
use Rattle.flow_worldfile.specs.Worlds.{World, seen}
use Rattle.flow_shrink.specs.declared.shrinking.Shrunk.{Shrunk}
use Rattle.flow_shrink.specs.declared.shrinking.Shrunk.TheVariants.{Least, NotStopped}
use Rattle.flow_shrink.specs.Shrinking.{Stops, Shrinks}
use Rattle.flow_shrink.specs.Editing.{Edit, TakesAPlace, line_goes, Leads, itself, edits, Tried, made, refused, TriedFrom, IsLeastBy, ShrinksBy}
use Rattle.flow_shrink.proofs.Removing.{least_lines}

-- edits of edits
pub led_on : (e : Edit) (a b c : World) → Leads e a b → Leads e b c → Leads e a c
led_on e a b _ first itself = first
led_on e a b _ first (edits {w} k within more) = edits k within (led_on e a b w first more)

module _ (e : Edit) (fewer : TakesAPlace e) where
  -- edits leave no more places
  pub places_fall : (a b : World) → Leads e a b → e.places b ≤ e.places a
  places_fall a _ itself = omega arith
  places_fall a _ (edits {w} k within led) =
      let now = places_fall a w led in
      let less = fewer w k within in
      omega (arith, now, less)

module _ (e : Edit) (fewer : TakesAPlace e) (S : World → Type 0) where
  -- before the first place is tried
  pub none_tried : (w : World) (k : ℕ) → k ≡ e.places w → S w → TriedFrom e S k w w
  none_tried w k is stops = record {
    leads = itself;
    stops = stops;
    left = omega (arith, is);
    none = λ same. (refl, λ j from below s. absurd (omega (arith, is, from, below)));
  }

  -- from which place on it is refused, with the one that was tried
  here_or_on : (first now : World) (k j : ℕ) → now ≡ first → (S (e.edited k now) → ⊥) → k ≤ j
      → (k + 1 ≤ j → S (e.edited j first) → ⊥) → S (e.edited j first) → ⊥
  here_or_on first now k j is never from on s = elim (split k j from)
      [ inl at ↦ never (subst (λ (w : World). S (e.edited k w)) (sym is) (subst (λ i. S (e.edited i first)) at s)) | inr later ↦ on later s ]
    where
      split : (k j : ℕ) → k ≤ j → (j ≡ k) ⊎ (k + 1 ≤ j)
      split zero zero le = inl refl
      split zero (suc j) le = inr (omega arith)
      split (suc k) zero le = absurd (omega (arith, le))
      split (suc k) (suc j) le = elim (split k j (omega (arith, le))) [ inl at ↦ inl (ap suc at) | inr l ↦ inr (omega (arith, l)) ]

  -- one place more
  pub one_tried : (first now next : World) (k l : ℕ) → l ≡ k + 1 → TriedFrom e S l first now → Tried e S k now next → TriedFrom e S k first next
  one_tried first now next k l is t (made same s) =
      let lt : k < e.places now = omega (arith, is, t.left) in
      let less : e.places next + 1 ≡ e.places now = ap (λ w. e.places w + 1) same ∙ fewer now k lt in
      let few = places_fall e fewer first now t.leads in
      record {
        leads = subst (Leads e first) (sym same) (edits k lt t.leads);
        stops = s;
        left = omega (arith, is, t.left, less);
        none = λ full. absurd (omega (arith, full, less, few));
      }
  one_tried first now next k l is t (refused same never) =
      let at : e.places next ≡ e.places now = ap e.places same in
      record {
        leads = subst (Leads e first) (sym same) t.leads;
        stops = subst S (sym same) t.stops;
        left = omega (arith, is, t.left, at);
        none = λ full. let was = t.none (sym at ∙ full) in
            (same ∙ was.0, λ j from below. here_or_on first now k j was.0 never from (λ later. was.1 j (omega (arith, is, later)) below));
      }

  -- once all are tried
  pub all_tried : (first now : World) (k : ℕ) → k ≡ 0 → TriedFrom e S k first now → TriedFrom e S 0 first now
  all_tried first now k is t = subst (λ i. TriedFrom e S i first now) is t

  -- After some passes, each of which made an edit at least.
  pub record Going (passes : ℕ) (first now : World) : Type 0 where
    pub leads : Leads e first now
    pub stops : S now
    pub short : e.places now + passes ≤ e.places first

  pub no_pass : (w : World) → S w → Going 0 w w
  no_pass w s = record { leads = itself; stops = s; short = omega arith }

  -- with one pass more, which made an edit
  pub one_pass : (first now next : World) (p : ℕ) → Going p first now → TriedFrom e S 0 now next → e.places next ≢ e.places now
      → Going (p + 1) first next
  one_pass first now next p g t ne =
      let few = places_fall e fewer now next t.leads in
      record { leads = led_on e first now next g.leads t.leads; stops = t.stops; short = omega (arith, g.short, few, ne) }

  -- with one that made none
  pub last_pass : (first now next : World) (p : ℕ) → Going p first now → TriedFrom e S 0 now next → e.places next ≡ e.places now
      → IsLeastBy e S first next
  last_pass first now next p g t same =
      let was = t.none same in
      record {
        leads = led_on e first now next g.leads t.leads;
        stops = t.stops;
        each = λ k lt s. was.1 k (omega arith) (omega (arith, lt, same)) (subst (λ (w : World). S (e.edited k w)) was.0 s);
      }

  -- after as many as there were places none is left
  pub none_left : (first now : World) (p : ℕ) → Going p first now → e.places first ≤ p → IsLeastBy e S first now
  none_left first now p g all = record {
    leads = g.leads;
    stops = g.stops;
    each = λ k lt s. absurd (omega (arith, lt, all, g.short));
  }

-- What is said of worlds by what a runner keeps and by what a monitor begins as is so wherever both are the same.
pub moved : {K : Type 0} (means : K → World → List Line → Type 0) (k k' : K) (e e' : ℕ → Ear) (limit : ℕ) (P : (World → Type 0) → Type 0)
    → k ≡ k' → e ≡ e' → P (λ w. Stops (means k w) (e limit)) → P (λ w. Stops (means k' w) (e' limit))
moved means k k' e e' limit P ke ee h =
    subst (λ x. P (λ w. Stops (means x w) (e' limit))) ke (subst (λ x. P (λ w. Stops (means k w) (x limit))) ee h)

-- what the edits of lines come to
pub shrinks_lines : (S : World → Type 0) (first : World) (x : Shrunk) → ShrinksBy line_goes S first x → Shrinks S first x
shrinks_lines S first (Least w) h = (h.0, least_lines S first (seen w) h.1)
shrinks_lines S first NotStopped h = h

pub not_both : {b : Bool} → b ≡ true → b ≡ false → ⊥
not_both t f = true≢false (sym t ∙ f)

-- runs of as many passes, and of one more
pub one_more : (runs more start passes lines before : ℕ) → runs ≤ start + passes * lines → more ≤ runs + before → before ≤ lines
    → more ≤ start + (passes + 1) * lines
one_more runs more start passes lines before so_far this few =
    let one : 1 * lines ≡ lines = omega arith in
    let next : (passes + 1) * lines ≡ passes * lines + lines = add-mul passes 1 lines ∙ ap (λ x. passes * lines + x) one in
    omega (arith, next, so_far, this, few)

pub enough : (more start passes lines : ℕ) → more ≤ start + passes * lines → passes ≤ lines → more ≤ start + lines * lines
enough more start passes lines so_far few = let all : passes * lines ≤ lines * lines = mul-le-mul_right lines few in omega (arith, so_far, all)
