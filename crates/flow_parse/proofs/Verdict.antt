-- What `parse` may answer is one answer, want of memory aside.
use Rattle.std.proofs.Common.{◌≡◌, ℕ, zero, suc, ◌≤◌, ◌<◌, List, [], ◌∷◌, length, take, drop, refl, sym, ap, ◌∙◌, subst, arith, ◌⊎◌, inl, inr}
use Rattle.std.proofs.lemmas.List.{take-append-drop}
use Rattle.flow_tree.specs.declared.limits.Limits.{Limits}
use Rattle.flow_tree.specs.declared.limits.TheConstants.{OF_PROGRAMS}
use Rattle.flow_base.specs.declared.place.Place.{Place}
use Rattle.flow_tree.specs.declared.token.Tokens.{Tokens}
use Rattle.flow_tree.specs.declared.token.Spot.{Spot}
use Rattle.flow_tree.specs.Decls.{ProgramTree}
use Rattle.flow_tree.specs.GrammarToken.{Part, Declaration, Statement, Node, Variable, Branch, Marked, InLimitsOf, AllInLimitsOf, KeepsOf, Derives, GoodOf}
use Rattle.flow_tree.specs.GrammarDecl.{ProgramRule, IsProgram}
use Rattle.flow_tree.specs.GrammarAnswer.{place_at}
use Rattle.flow_parse.specs.ParseAnswer.{GoodTo, begun, whole, FailsBy, FailsLimit}
use Rattle.flow_parse.proofs.Spots.{spots_take}

-- fewer limits are kept too
fewer_part : (limits : Limits) (m n : ℕ) (p : Part) → m ≤ n → InLimitsOf limits n p → InLimitsOf limits m p
fewer_part limits m n (Declaration k) h l = λ x. l (omega arith)
fewer_part limits m n (Statement k) h l = λ x. l (omega arith)
fewer_part limits m n (Node k) h l = λ x. l (omega arith)
fewer_part limits m n (Variable k) h l = λ x. l (omega arith)
fewer_part limits m n (Branch k) h l = λ x. l (omega arith)

fewer_parts : (limits : Limits) (m n : ℕ) (ps : List Part) → m ≤ n → AllInLimitsOf limits n ps → AllInLimitsOf limits m ps
fewer_parts limits m n [] h l = tt
fewer_parts limits m n (p ∷ ps) h l = (fewer_part limits m n p h l.0, fewer_parts limits m n ps h l.1)

pub fewer : (limits : Limits) (m n : ℕ) (xs : List Marked) → m ≤ n → KeepsOf limits n xs → KeepsOf limits m xs
fewer limits m n [] h k = tt
fewer limits m n (x ∷ xs) h k = (fewer_parts limits m n x.parts h k.0, fewer limits m n xs h k.1)

pub fewer_good : (limits : Limits) → {A : Type 0} {R : List Marked → A → Type 0} (m n : ℕ) (ts : List Spot) → m ≤ n → GoodOf limits R n ts → GoodOf limits R m ts
fewer_good limits m n ts h g = record { read = g.read; rest = g.rest; tree = g.tree; rule = g.rule; is = g.is; keeps = fewer limits m n g.read h g.keeps }

pub fewer_to : (t : Tokens) (m n k : ℕ) → m ≤ n → GoodTo t n k → GoodTo t m k
fewer_to t m n k h (begun l g) = begun l (fewer_good OF_PROGRAMS m n (take (suc k) t.spots.items) h g)
fewer_to t m n k h (whole p d) = whole p (record { marked = d.marked; rule = d.rule; is = d.is; keeps = fewer OF_PROGRAMS m n d.marked h d.keeps })

keeps_take : (limits : Limits) (n k : ℕ) (xs : List Marked) → KeepsOf limits n xs → KeepsOf limits n (take k xs)
keeps_take limits n zero xs h = tt
keeps_take limits n (suc k) [] h = tt
keeps_take limits n (suc k) (x ∷ xs) h = (h.0, keeps_take limits n k xs h.1)

-- a program is good up to each of its tokens, and up to the end
pub program_good : (t : Tokens) (n k : ℕ) (p : ProgramTree) → k ≤ length t.spots.items → Derives (ProgramRule t.end) n t.spots.items p → GoodTo t n k
program_good t n k p h d = elim (last k (length t.spots.items) h) [
  | inl l ↦ begun l (record {
    read = take (suc k) d.marked;
    rest = drop (suc k) d.marked;
    tree = p;
    rule = subst (λ z. ProgramRule t.end z p) (sym (take-append-drop (suc k) d.marked)) d.rule;
    is = spots_take (suc k) d.marked ∙ ap (take (suc k)) d.is;
    keeps = keeps_take OF_PROGRAMS n (suc k) d.marked d.keeps;
  })
  | inr e ↦ subst (GoodTo t n) (sym e) (whole p d)
]
  where
    last : (a b : ℕ) → a ≤ b → (a < b) ⊎ (a ≡ b)
    last zero zero h = inr refl
    last zero (suc b) h = inl (omega arith)
    last (suc a) zero h = absurd (omega arith)
    last (suc a) (suc b) h = elim (last a b (omega arith)) [
      | inl l ↦ inl (omega arith)
      | inr e ↦ inr (ap suc e)
    ]

-- where the tokens are a program, none fails
pub program_never_fails : (t : Tokens) (n : ℕ) (at : Place) (p : ProgramTree) → n ≤ 7 → IsProgram t p → FailsBy n t at → ⊥
program_never_fails t n at p h d f = f.bad (fewer_to t n 7 f.number h (program_good t 7 f.number p f.within d))

-- one token fails
pub one_token : (t : Tokens) (m n : ℕ) (p q : Place) → m ≤ 7 → n ≤ 7 → (f : FailsBy m t p) → (g : FailsBy n t q) → f.number ≡ g.number
one_token t m n p q hm hn f g = same f.number g.number
    (λ l. f.bad (fewer_to t m 7 f.number hm (g.first f.number l)))
    (λ l. g.bad (fewer_to t n 7 g.number hn (f.first g.number l)))
  where
    same : (a b : ℕ) → (a < b → ⊥) → (b < a → ⊥) → a ≡ b
    same zero zero f g = refl
    same zero (suc b) f g = absurd (f (omega arith))
    same (suc a) zero f g = absurd (g (omega arith))
    same (suc a) (suc b) f g = ap suc (same a b (λ l. f (omega arith)) (λ l. g (omega arith)))

-- and by one rule
pub limit_above : (t : Tokens) (m n : ℕ) (p q : Place) → m < n → FailsBy m t p → FailsLimit n t q → ⊥
limit_above t m n p q l f g = f.bad (subst (GoodTo t m) (sym (one_token t m n p q (omega (arith, g.greatest)) g.greatest f g.fails)) (g.below m l))

pub one_place : (t : Tokens) (m n : ℕ) (p q : Place) → m ≤ 7 → n ≤ 7 → FailsBy m t p → FailsBy n t q → p ≡ q
one_place t m n p q hm hn f g = f.place ∙ ap (place_at t) (one_token t m n p q hm hn f g) ∙ sym g.place
