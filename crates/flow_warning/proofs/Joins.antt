-- Walks through parts that follow one another.
use Rattle.std.proofs.Common.{◌≡◌, ℕ, ◌+◌, ◌<◌, ◌≤◌, Bool, true, false, ◌||◌, List, length, drop, get_or, refl, sym, ap, ap₂, ◌∙◌}
use Rattle.std.specs.Prelude.{if◌then◌else◌}
use Rattle.std.specs.declared.option.Option.{Option}
use Rattle.std.specs.declared.option.Option.TheVariants.{None, Some}
use Rattle.std.proofs.lemmas.List.{drop_more, drop_all}
use Rattle.flow_base.specs.declared.place.Place.{Place}
use Rattle.flow_tree.specs.Body.{Body}
use Rattle.flow_tree.specs.StmtView.{stmt_of, body_of}
use Rattle.flow_tree.specs.declared.stmt.Stmt.{Stmt}
use Rattle.flow_warning.specs.declared.walks.Walks.{Walks}
use Rattle.flow_warning.specs.Walks.{empty, left, waiting, unless_mentioned, first_wait, either, in_turn, alone}

or_assoc : (a b c : Bool) → ((a || b) || c) ≡ (a || (b || c))
or_assoc true b c = refl
or_assoc false b c = refl

or_false : (a : Bool) → (a || false) ≡ a
or_false true = refl
or_false false = refl

first_assoc : (a b c : Option Place) → first_wait (first_wait a b) c ≡ first_wait a (first_wait b c)
first_assoc (Some p) b c = refl
first_assoc None b c = refl

first_none : (a : Option Place) → first_wait a None ≡ a
first_none (Some p) = refl
first_none None = refl

abbrev of : (ends breaks continues throws leaves : Bool) (wait : Option Place) → Walks
of a b c d e w = record { ends = a; breaks = b; continues = c; throws = d; leaves = e; wait = w }

same_walks : {a b c d e a' b' c' d' e' : Bool} {w w' : Option Place} → a ≡ a' → b ≡ b' → c ≡ c' → d ≡ d' → e ≡ e' → w ≡ w'
    → of a b c d e w ≡ of a' b' c' d' e' w'
same_walks {a} {b} {c} {d} {e} {a'} {b'} {c'} {d'} {e'} {w} {w'} p q r s t u =
    ap₂ (λ x y. of x y c d e w) p q ∙ ap₂ (λ x y. of a' b' x y e w) r s ∙ ap₂ (λ x y. of a' b' c' d' x y) t u

either_assoc : (w r k : Walks) → either (either w r) k ≡ either w (either r k)
either_assoc w r k =
    same_walks (or_assoc w.ends r.ends k.ends) (or_assoc w.breaks r.breaks k.breaks) (or_assoc w.continues r.continues k.continues) (or_assoc w.throws r.throws k.throws)
    (or_assoc w.leaves r.leaves k.leaves) (first_assoc w.wait r.wait k.wait)

-- these, that don't end
abbrev cut : Walks → Walks
cut w = record w { ends = false }

abbrev by_end : Bool → Walks → Walks → Walks
by_end b w v = if b then either (cut w) v else w

assoc_by : (e f : Bool) (w r k : Walks) → w.ends ≡ e → r.ends ≡ f → in_turn (by_end e w r) k ≡ by_end e w (by_end f r k)
assoc_by false f w r k p q = ap (λ b. by_end b w k) p
assoc_by true false w r k p q = ap (λ b. by_end b (either (cut w) r) k) q
assoc_by true true w r k p q = ap (λ b. by_end b (either (cut w) r) k) q ∙ either_assoc (cut w) (cut r) k

pub in_turn_assoc : (w r k : Walks) → in_turn (in_turn w r) k ≡ in_turn w (in_turn r k)
in_turn_assoc w r k = assoc_by w.ends r.ends w r k refl refl

empty_by : (e : Bool) (w : Walks) → w.ends ≡ e → by_end e w empty ≡ w
empty_by false w p = refl
empty_by true w p = same_walks (sym p) (or_false w.breaks) (or_false w.continues) (or_false w.throws) (or_false w.leaves) (first_none w.wait)

pub in_turn_empty : (w : Walks) → in_turn w empty ≡ w
in_turn_empty w = empty_by w.ends w refl

pub in_turn_over : (w k : Walks) → w.ends ≡ false → w ≡ in_turn w k
in_turn_over w k p = sym (ap (λ b. by_end b w k) p)

pub left_over : (m : Bool) (k : Walks) → unless_mentioned m left ≡ in_turn (unless_mentioned m left) k
left_over true k = refl
left_over false k = refl

pub waiting_over : (m : Bool) (at : Place) (k : Walks) → unless_mentioned m (waiting at) ≡ in_turn (unless_mentioned m (waiting at)) k
waiting_over true at k = refl
waiting_over false at k = refl

-- a body is its next statement before the others
split_body : (ss : List Stmt) (i : ℕ) (s : Stmt) → i < length ss → s ≡ get_or ss i s → body_of (drop i ss) ≡ stmt_of s (body_of (drop (i + 1) ss))
split_body ss i s lt got = ap body_of (drop_more ss i s lt) ∙ sym (ap (λ y. stmt_of y (body_of (drop (i + 1) ss))) got)

pub alone_next : (x : List ℕ) (ss : List Stmt) (i : ℕ) (s : Stmt) (w v u whole : Walks) → i < length ss → s ≡ get_or ss i s → u ≡ in_turn w v
    → ((k : Body) → alone x (stmt_of s k) ≡ in_turn v (alone x k)) → in_turn w (alone x (body_of (drop i ss))) ≡ whole
    → in_turn u (alone x (body_of (drop (i + 1) ss))) ≡ whole
alone_next x ss i s w v u whole lt got ue h inv =
    let k = body_of (drop (i + 1) ss) in
    ap (λ y. in_turn y (alone x k)) ue ∙ in_turn_assoc w v (alone x k) ∙ sym (ap (in_turn w) (ap (alone x) (split_body ss i s lt got) ∙ h k)) ∙ inv

-- the walks end with a statement
pub alone_stops : (x : List ℕ) (ss : List Stmt) (i : ℕ) (s : Stmt) (w v u whole : Walks) → i < length ss → s ≡ get_or ss i s → u ≡ in_turn w v
    → ((k : Body) → alone x (stmt_of s k) ≡ in_turn v (alone x k)) → in_turn w (alone x (body_of (drop i ss))) ≡ whole → u.ends ≡ false → u ≡ whole
alone_stops x ss i s w v u whole lt got ue h inv over =
    in_turn_over u (alone x (body_of (drop (i + 1) ss))) over ∙ alone_next x ss i s w v u whole lt got ue h inv

pub alone_end : (x : List ℕ) (ss : List Stmt) (i : ℕ) (w whole : Walks) → length ss ≤ i → in_turn w (alone x (body_of (drop i ss))) ≡ whole → w ≡ whole
alone_end x ss i w whole le inv = sym (ap (λ y. in_turn w (alone x (body_of y))) (drop_all i ss le) ∙ in_turn_empty w) ∙ inv
