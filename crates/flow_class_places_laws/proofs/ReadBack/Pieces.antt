-- Parts of class text that have no places are read back from their texts: numbers, places of frames, catch parts.
use Rattle.std.proofs.Common.{◌≡◌, ℕ, List, [], ◌∷◌, ◌++◌, refl, ap, subst, arith, append_assoc, append-nil, decimal}
use Rattle.std.specs.Prelude.{codes}
use Rattle.std.specs.declared.option.Option.{Option}
use Rattle.std.specs.declared.option.Option.TheVariants.{None, Some}
use Rattle.flow_base.specs.declared.place.Place.{Place}
use Rattle.flow_tree.specs.declared.token.Word.TheVariants as word
use Rattle.flow_tree.specs.GrammarToken.{Marked}
use Rattle.flow_class.specs.declared.class.Slotted.{Slotted}
use Rattle.flow_class.specs.declared.class.Slotted.TheVariants.{Slot, Local}
use Rattle.flow_class.specs.Places.{place_name}
use Rattle.flow_class.specs.Classes.{CatcherTree}
use Rattle.flow_classprint.specs.ClassGrammar.{number_at, place_at, IsNumber, LocalsRule, one, more, MaybeLocalsRule, no_locals, locals, ErrorRule, no_error, error, CatchRule, no_catch, catch, IntoRule, nowhere, into}
use Rattle.flow_classprint.specs.ClassText.{all_text, local_text, place_text, further_local, locals_text, error_text, catch_text, into_text}
use Rattle.flow_show.proofs.Going.{Piece, Any, nothing, both, as_rule, spaced}
use Rattle.flow_show.proofs.TokenPieces.{Apart, IsNameToken, name_piece, word_piece}
use Rattle.flow_show.proofs.ValuePieces.{number_piece}
use Rattle.flow_show.proofs.Valid.{AllValid, valid_head, valid_tail, valid_left, valid_right}
use Rattle.flow_show.proofs.StmtPieces.{sign_open, sign_shut}
use Rattle.flow_show.proofs.DeclPieces.{sign_comma}

-- other tokens of the same thing
pub record Again {A : Type 0} (R : List Marked → A → Type 0) (t : A) : Type 0 where
  pub marked : List Marked
  pub rule : R marked t

-- other tokens of a thing that is equal, places aside
pub record Kept {A : Type 0} (bare : A → A) (R : List Marked → A → Type 0) (t : A) : Type 0 where
  pub marked : List Marked
  pub tree : A
  pub rule : R marked tree
  pub like : bare tree ≡ bare t

pub number_here : {n : ℕ} (p : Place) → IsNumber n → Piece {X = Place} (λ x. number_at n x ∷ []) (number_at n p ∷ []) (decimal n) Apart
number_here {n} p h = number_piece [] n p (omega (arith, h))

pub place_is : (q : Slotted) → place_text q ≡ place_name q
place_is (Slot n) = refl
place_is (Local n) = refl

pub place_here : (q : Slotted) (p : Place) → IsNameToken (place_name q) → Piece {X = Place} (λ x. place_at q x ∷ []) (place_at q p ∷ []) (place_text q) Apart
place_here q p v = as_rule (name_piece [] (place_name q) p v) (λ x. x) (λ x. refl) refl (place_is q)

pub local_here : (n : ℕ) (p : Place) → IsNameToken (place_name (Local n)) → Piece {X = Place} (λ x. place_at (Local n) x ∷ []) (place_at (Local n) p ∷ []) (local_text n) Apart
local_here n p v = name_piece [] (place_name (Local n)) p v

-- locals with a comma between two
pub locals_piece : {m : List Marked} {ns : List ℕ} → LocalsRule m ns → AllValid m → Piece {X = Again LocalsRule ns} (λ y. y.marked) m (locals_text ns) Apart
locals_piece (one {n = n} p h) v =
    as_rule (local_here n p (valid_head v)) (λ y. record { marked = _; rule = one y h }) (λ y. refl) refl (append-nil (local_text n))
locals_piece (more {n = n} p q rest h r e) v =
    let a = subst AllValid e v in
    as_rule
    (both (local_here n p (valid_head a)) (both (sign_comma q) (spaced (locals_piece r (valid_tail (valid_tail a)))) (λ w g. tt)) (λ w g. refl))
    (λ y. record { marked = _; rule = more y.0 y.1.0 y.1.1.marked h y.1.1.rule refl }) (λ y. refl) e (ap (λ l. local_text n ++ l) (further r))
  where
    further : {m : List Marked} {ns : List ℕ} → LocalsRule m ns → all_text further_local ns ≡ 44 ∷ (32 ∷ locals_text ns)
    further (one p h) = refl
    further (more p q rest h r e) = refl

pub maybe_locals_piece : {m : List Marked} {ns : List ℕ} → MaybeLocalsRule m ns → AllValid m → Piece {X = Again MaybeLocalsRule ns} (λ y. y.marked) m (locals_text ns) Apart
maybe_locals_piece no_locals v = as_rule nothing (λ y. record { marked = _; rule = no_locals }) (λ y. refl) refl refl
maybe_locals_piece (locals r) v = as_rule (locals_piece r v) (λ y. record { marked = y.marked; rule = locals y.rule }) (λ y. refl) refl refl

-- where the errors of a block go on
error_piece : {m : List Marked} {o : Option ℕ} → ErrorRule m o → AllValid m → Piece {X = Again ErrorRule o} (λ y. y.marked) m (error_text o) Apart
error_piece no_error v = as_rule nothing (λ y. record { marked = _; rule = no_error }) (λ y. refl) refl refl
error_piece (error {n = n} p q h) v =
    as_rule (spaced (both (name_piece [] (codes "error") p (valid_head v)) (spaced (local_here n q (valid_head (valid_tail v)))) (λ w g. refl)))
    (λ y. record { marked = _; rule = error y.0 y.1 h }) (λ y. refl) refl refl

error_apart : (o : Option ℕ) (u rest : List ℕ) → Apart ((error_text o ++ (32 ∷ u)) ++ rest)
error_apart None u rest = refl
error_apart (Some n) u rest = refl

catch_is : (b e l : List ℕ) → codes " catch " ++ b ++ e ++ codes " drop(" ++ l ++ codes ")" ≡ 32 ∷ (codes "catch" ++ (32 ∷ (b ++ (e ++ (32 ∷ (codes "drop" ++ (40 ∷ (l ++ (41 ∷ [])))))))))
catch_is b e l = simp append_assoc refl

pub catch_piece : {m : List Marked} {o : Option CatcherTree} → CatchRule m o → AllValid m → Piece {X = Again CatchRule o} (λ y. y.marked) m (catch_text o) Any
catch_piece no_catch v = as_rule nothing (λ y. record { marked = _; rule = no_catch }) (λ y. refl) refl refl
catch_piece (catch {block = b} {error = o} {drops = ns} p q r s t named of h er lr e) v =
    let a = valid_tail (valid_tail (subst AllValid e v)) in
    let drop = valid_right named _ a in
    as_rule
    (spaced (both (word_piece [] word.Catch p) (spaced (both (number_here q h)
    (both (error_piece er (valid_left named _ a)) (spaced (both (name_piece [] (codes "drop") r (valid_head drop))
    (both (sign_open s) (both (maybe_locals_piece lr (valid_left of _ (valid_tail (valid_tail drop)))) (sign_shut t) (λ w g. refl)) (λ w g. tt)) (λ w g. refl))) (λ w g. refl))
    (λ w g. error_apart o (codes "drop" ++ (40 ∷ (locals_text ns ++ (41 ∷ [])))) w))) (λ w g. refl)))
    (λ y. record { marked = _; rule = catch y.0 y.1.0 y.1.1.1.0 y.1.1.1.1.0 y.1.1.1.1.1.1 y.1.1.0.marked y.1.1.1.1.1.0.marked h y.1.1.0.rule y.1.1.1.1.1.0.rule refl })
    (λ y. refl) e (catch_is (decimal b) (error_text o) (locals_text ns))

pub catch_apart : (o : Option CatcherTree) (u rest : List ℕ) → Apart ((catch_text o ++ (32 ∷ u)) ++ rest)
catch_apart None u rest = refl
catch_apart (Some k) u rest = refl

-- where a value goes
pub into_piece : {m : List Marked} {o : Option Slotted} → IntoRule m o → AllValid m → Piece {X = Again IntoRule o} (λ y. y.marked) m (into_text o) Apart
into_piece nowhere v = as_rule nothing (λ y. record { marked = _; rule = nowhere }) (λ y. refl) refl refl
into_piece (into {to = to} p q h) v =
    as_rule (spaced (both (name_piece [] (codes "into") p (valid_head v)) (spaced (place_here to q (valid_head (valid_tail v)))) (λ w g. refl)))
    (λ y. record { marked = _; rule = into y.0 y.1 h }) (λ y. refl) refl refl

pub into_apart : (o : Option Slotted) (u rest : List ℕ) → Apart ((into_text o ++ (32 ∷ u)) ++ rest)
into_apart None u rest = refl
into_apart (Some q) u rest = refl
