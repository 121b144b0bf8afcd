-- A text has one verdict.
use Rattle.std.proofs.Common.{◌≡◌, ℕ, ◌+◌, ◌⊎◌, inl, inr, List, [], ◌∷◌, ◌++◌, length, ap, ap₂, subst, sym, ◌∙◌, refl}
use Rattle.flow_worldfile.specs.declared.directive.Directive.{Directive}
use Rattle.flow_worldfile.specs.declared.directive.Directive.TheVariants.{Processes}
use Rattle.flow_worldfile.specs.Lines.{lines}
use Rattle.flow_worldfile.specs.Worlds.{said}
use Rattle.flow_worldfile.specs.Reading.{Rule, Breaks, Say, AllKept, IsFirstFault, WorldVerdict, accepted, refused, Judges, IsCount}
use Rattle.flow_worldfile.specs.Laws.{OneVerdict}
use Rattle.flow_worldfile.proofs.FormLemmas.{one_form}
use Rattle.flow_worldfile.proofs.RuleLemmas.{over_or_breaks, keeps_or_breaks, one_rule}
use Rattle.flow_worldfile.proofs.SayLemmas.{say_once, say_split}
use Rattle.flow_worldfile.proofs.KeptLemmas.{kept_at}

-- no line of those that keep the rules breaks one
no_fault_there : (count : ℕ) (line : List ℕ) (mid : List (List ℕ)) (before there es : List Directive) (rule : Rule) → es ≡ before ++ there
    → Say (line ∷ mid) there → AllKept count es → Breaks count (said before) line rule → ⊥
no_fault_there count line mid before there es rule is (inl over) kept breaks = over_or_breaks count (said before) line rule over.0 breaks
no_fault_there count line mid before there es rule is (inr h) kept breaks =
    let all : es ≡ before ++ h.0 ∷ h.1 = is ∙ ap (λ l. before ++ l) h.2 in
    keeps_or_breaks count (said before) line h.0 rule (kept_at count line before h.0 h.1 h.3 (subst (AllKept count) all kept)) breaks

no_fault_within : (count : ℕ) (front : List (List ℕ)) (line : List ℕ) (mid : List (List ℕ)) (before es : List Directive) (rule : Rule)
    → Say (front ++ line ∷ mid) es → AllKept count es → Say front before → Breaks count (said before) line rule → ⊥
no_fault_within count front line mid before es rule says kept first breaks =
    let s = say_split front (line ∷ mid) es says in
    let same : s.here ≡ before = say_once front s.here before s.says_front first in
    no_fault_there count line mid before s.there es rule (s.is ∙ ap (λ l. l ++ s.there) same) s.says_others kept breaks

-- two places in one list
meet : {X : Type 0} (a b : List X) (x y : X) (xs ys : List X) → a ++ x ∷ xs ≡ b ++ y ∷ ys
    → ((a ≡ b) × (x ≡ y)) ⊎ (((mid : List X) × (b ≡ a ++ x ∷ mid)) ⊎ ((mid : List X) × (a ≡ b ++ y ∷ mid)))
meet [] [] x y xs ys e = inl (refl, cc)
meet [] (z ∷ zs) x y xs ys e =
    let same : z ≡ x = cc in
    inr (inl (zs, ap (λ h. h ∷ zs) same))
meet (w ∷ ws) [] x y xs ys e =
    let same : w ≡ y = cc in
    inr (inr (ws, ap (λ h. h ∷ ws) same))
meet (w ∷ ws) (z ∷ zs) x y xs ys e =
    let heads : w ≡ z = cc in
    let tails : ws ++ x ∷ xs ≡ zs ++ y ∷ ys = cc in
    elim (meet ws zs x y xs ys tails) [
      | inl h ↦ inl (ap₂ (λ p ps. p ∷ ps) heads h.0, h.1)
      | inr h ↦ elim h [
        | inl m ↦ inr (inl (m.0, ap₂ (λ p ps. p ∷ ps) (sym heads) m.1))
        | inr m ↦ inr (inr (m.0, ap₂ (λ p ps. p ∷ ps) heads m.1))
      ]
    ]

-- the first line that breaks a rule, and the rule
one_fault : (count : ℕ) (ls : List (List ℕ)) (j k : ℕ) (p q : Rule) → IsFirstFault count ls j p → IsFirstFault count ls k q → refused j p ≡ refused k q
one_fault count ls j k p q f g =
    elim (meet f.front g.front f.line g.line f.more g.more (sym f.splits ∙ g.splits)) [
      | inl same ↦
          let before : g.before ≡ f.before = say_once g.front g.before f.before g.says (subst (λ l. Say l f.before) same.0 f.says) in
          let breaks : Breaks count (said f.before) f.line q =
          subst (λ l. Breaks count (said f.before) l q) (sym same.1) (subst (λ l. Breaks count (said l) g.line q) before g.breaks) in
          ap₂ refused (f.number ∙ ap (λ l. length l + 1) same.0 ∙ sym g.number) (one_rule count (said f.before) f.line p q f.breaks breaks)
      | inr h ↦ elim h [
        | inl m ↦ absurd (no_fault_within count f.front f.line m.0 f.before g.before p (subst (λ l. Say l g.before) m.1 g.says) g.kept f.says f.breaks)
        | inr m ↦ absurd (no_fault_within count g.front g.line m.0 g.before f.before q (subst (λ l. Say l f.before) m.1 f.says) f.kept g.says g.breaks)
      ]
    ]

not_both : (count : ℕ) (ls : List (List ℕ)) (ds : List Directive) (k : ℕ) (rule : Rule) → Say ls ds → AllKept count ds → IsFirstFault count ls k rule → ⊥
not_both count ls ds k rule says kept f =
    no_fault_within count f.front f.line f.more f.before ds rule (subst (λ l. Say l ds) f.splits says) kept f.says f.breaks

judged_once : (count : ℕ) (ls : List (List ℕ)) (v w : WorldVerdict) → Judges count ls v → Judges count ls w → v ≡ w
judged_once count ls (accepted ds) (accepted es) g h = ap accepted (say_once ls ds es g.0 h.0)
judged_once count ls (accepted ds) (refused k rule) g h = absurd (not_both count ls ds k rule g.0 g.1 h)
judged_once count ls (refused k rule) (accepted es) g h = absurd (not_both count ls es k rule h.0 h.1 g)
judged_once count ls (refused j p) (refused k q) g h = one_fault count ls j k p q g h

-- the count of processes
one_count : (ls : List (List ℕ)) (m n : ℕ) → IsCount ls m → IsCount ls n → m ≡ n
one_count [] m n g h = g ∙ sym h
one_count (line ∷ more) m n (inl g) (inl h) =
    let same : Processes m ≡ Processes n = one_form line (Processes m) (Processes n) g.0 h.0 in
    cc
one_count (line ∷ more) m n (inl g) (inr h) = absurd (h.0 m g)
one_count (line ∷ more) m n (inr g) (inl h) = absurd (g.0 n h)
one_count (line ∷ more) m n (inr g) (inr h) = one_count more m n g.1 h.1

pub one_verdict : OneVerdict
one_verdict bytes v w (m, counted, judged) (n, there, again) =
    let same : n ≡ m = one_count (lines bytes) n m there counted in
    judged_once m (lines bytes) v w judged (subst (λ count. Judges count (lines bytes) w) same again)
