-- Tokens have one meaning as a type.
use Rattle.std.proofs.Common.{◌≡◌, ℕ, zero, suc, List, [], ◌∷◌, ◌++◌, refl, subst, arith}
use Rattle.std.specs.declared.option.Option.{Option}
use Rattle.std.specs.declared.option.Option.TheVariants.{None, Some}
use Rattle.flow_base.specs.declared.place.Place.{Place}
use Rattle.flow_tree.specs.declared.token.Token.{Token}
use Rattle.flow_tree.specs.declared.token.Token.TheVariants as token
use Rattle.flow_tree.specs.declared.token.Word.TheVariants as word
use Rattle.flow_tree.specs.declared.token.Sign.TheVariants as sign
use Rattle.flow_tree.specs.Tree.{TypeTree, IntType, BoolType, StringType, VoidType, ErrorType, NamedType, FutureType, FutureStreamType, PromiseType, PromiseStreamType, VectorType}
use Rattle.flow_tree.specs.GrammarToken.{Node, Marked, opens}
use Rattle.flow_tree.specs.Grammar.{sign_at, node_word, Wrapper, FutureOf, FutureStreamOf, PromiseOf, PromiseStreamOf, VectorOf, wrapper_word, TypeRule, int_type, bool_type, string_type, void_type, error_type, named_type, wrapped_type}
use Rattle.flow_parse.specs.Openers.{TypeToken}
use Rattle.flow_parse.specs.Reading.{Opening, Tok, Then, Any}
use Rattle.flow_parse.proofs.Looking.{Looks}
use Rattle.flow_parse.proofs.Backs.{Formed, front, tok_front}
use Rattle.flow_parse.proofs.Begins.{looks_first, looks_is, starts_looks, type_starts}
use Rattle.flow_parse.proofs.Unique.{Uniq, UniqAt, uniq_by, at_none, at_narrow, uniq_opening, seq, seq_tok, same_tok}

-- the first token of a type
abbrev first_token : {d : ℕ} {w : List Marked} {t : TypeTree} → TypeRule d w t → Token
first_token (int_type p) = token.Word word.Int
first_token (bool_type p) = token.Word word.Bool
first_token (string_type p) = token.Word word.Str
first_token (void_type p) = token.Word word.Void
first_token (error_type p) = token.Word word.Error
first_token (named_type x) = token.Name x.name
first_token (wrapped_type w p q r of t e) = token.Word (wrapper_word w)

abbrev Inner : ℕ → Wrapper → List Marked → Place × (Place × (TypeTree × Place)) → Type 0
Inner d w u x = Then (Opening (Node d ∷ []) (token.Word (wrapper_word w))) (λ p. Then (Tok (token.Sign sign.Less)) (λ q. Then (TypeRule (suc d)) (λ t. Tok (token.Sign sign.Greater)))) u x

-- what a type with this first token consists of
abbrev TypeForm : Token → ℕ → List Marked → TypeTree → Type 0
TypeForm (token.Name n) d w t = Formed (Opening (Node d ∷ []) (token.Name n)) (λ p. NamedType n) w t
TypeForm (token.Word word.Int) d w t = Formed (Opening (Node d ∷ []) (token.Word word.Int)) (λ p. IntType) w t
TypeForm (token.Word word.Bool) d w t = Formed (Opening (Node d ∷ []) (token.Word word.Bool)) (λ p. BoolType) w t
TypeForm (token.Word word.Str) d w t = Formed (Opening (Node d ∷ []) (token.Word word.Str)) (λ p. StringType) w t
TypeForm (token.Word word.Void) d w t = Formed (Opening (Node d ∷ []) (token.Word word.Void)) (λ p. VoidType) w t
TypeForm (token.Word word.Error) d w t = Formed (Opening (Node d ∷ []) (token.Word word.Error)) (λ p. ErrorType) w t
TypeForm (token.Word word.Future) d w t = Formed (Inner d FutureOf) (λ x. FutureType x.1.1.0) w t
TypeForm (token.Word word.FutureStream) d w t = Formed (Inner d FutureStreamOf) (λ x. FutureStreamType x.1.1.0) w t
TypeForm (token.Word word.Promise) d w t = Formed (Inner d PromiseOf) (λ x. PromiseType x.1.1.0) w t
TypeForm (token.Word word.PromiseStream) d w t = Formed (Inner d PromiseStreamOf) (λ x. PromiseStreamType x.1.1.0) w t
TypeForm (token.Word word.Vector) d w t = Formed (Inner d VectorOf) (λ x. VectorType x.1.1.0) w t
TypeForm _ d w t = ⊥

inner : {d : ℕ} {u : List Marked} {t : TypeTree} (w : Wrapper) (p q r : Place) (of : List Marked) → TypeRule (suc d) of t
    → u ≡ node_word d (wrapper_word w) p ∷ sign_at sign.Less q ∷ (of ++ sign_at sign.Greater r ∷ []) → Inner d w u (p, (q, (t, r)))
inner {d = d} {t = t} w p q r of h e = front (Opening (Node d ∷ []) (token.Word (wrapper_word w))) p (q, (t, r)) (node_word d (wrapper_word w) p ∷ [])
    (sign_at sign.Less q ∷ (of ++ sign_at sign.Greater r ∷ [])) e refl
    (tok_front (token.Sign sign.Less) q (t, r) (of ++ sign_at sign.Greater r ∷ []) refl (front (TypeRule (suc d)) t r of (sign_at sign.Greater r ∷ []) refl h refl))

type_form : {d : ℕ} {w : List Marked} {t : TypeTree} → (r : TypeRule d w t) → TypeForm (first_token r) d w t
type_form (int_type p) = record { tree = p; rule = refl; is = refl }
type_form (bool_type p) = record { tree = p; rule = refl; is = refl }
type_form (string_type p) = record { tree = p; rule = refl; is = refl }
type_form (void_type p) = record { tree = p; rule = refl; is = refl }
type_form (error_type p) = record { tree = p; rule = refl; is = refl }
type_form (named_type x) = record { tree = x.at; rule = refl; is = refl }
type_form (wrapped_type {t = t} FutureOf p q r of h e) = record { tree = (p, (q, (t, r))); rule = inner FutureOf p q r of h e; is = refl }
type_form (wrapped_type {t = t} FutureStreamOf p q r of h e) = record { tree = (p, (q, (t, r))); rule = inner FutureStreamOf p q r of h e; is = refl }
type_form (wrapped_type {t = t} PromiseOf p q r of h e) = record { tree = (p, (q, (t, r))); rule = inner PromiseOf p q r of h e; is = refl }
type_form (wrapped_type {t = t} PromiseStreamOf p q r of h e) = record { tree = (p, (q, (t, r))); rule = inner PromiseStreamOf p q r of h e; is = refl }
type_form (wrapped_type {t = t} VectorOf p q r of h e) = record { tree = (p, (q, (t, r))); rule = inner VectorOf p q r of h e; is = refl }

type_looks : {d : ℕ} {w : List Marked} {t : TypeTree} (z : List Marked) (o : Option Token) → (r : TypeRule d w t) → Looks o (w ++ z) → o ≡ Some (first_token r)
type_looks {d = d} z o (int_type p) l = looks_first o (node_word d word.Int p) z l
type_looks {d = d} z o (bool_type p) l = looks_first o (node_word d word.Bool p) z l
type_looks {d = d} z o (string_type p) l = looks_first o (node_word d word.Str p) z l
type_looks {d = d} z o (void_type p) l = looks_first o (node_word d word.Void p) z l
type_looks {d = d} z o (error_type p) l = looks_first o (node_word d word.Error p) z l
type_looks {d = d} z o (named_type x) l = looks_first o (opens (Node d ∷ []) (token.Name x.name) x.at) z l
type_looks {d = d} z o (wrapped_type w p q r of h e) l = looks_is o (node_word d (wrapper_word w) p) _ z e l

some_same : (x y : Token) → Some x ≡ Some y → y ≡ x
some_same x y e = cc

type_back : {d : ℕ} {w : List Marked} {t : TypeTree} (z : List Marked) (x : Token) → TypeRule d w t → Looks (Some x) (w ++ z) → TypeForm x d w t
type_back {d = d} {w = w} {t = t} z x r l = subst (λ y. TypeForm y d w t) (some_same x (first_token r) (type_looks z (Some x) r l)) (type_form r)

plain_at : (d k : ℕ) (x : Token) (t : TypeTree) → ((w : List Marked) (u : TypeTree) → TypeForm x d w u → Formed (Opening (Node d ∷ []) x) (λ p. t) w u) → UniqAt (Some x) k (TypeRule d) Any
plain_at d k x t f = at_narrow (TypeRule d) Any (Opening (Node d ∷ []) x) Any (λ p. t) k (Some x)
    (λ w z b r g l. let q = f w b (type_back z x r l) in record { tree = q.tree; rule = q.rule; is = q.is; follows = tt }) (uniq_opening (Node d ∷ []) x k)

inner_at : (d k : ℕ) (w : Wrapper) (h : TypeTree → TypeTree) → Uniq k (TypeRule (suc d)) Any
    → ((v : List Marked) (u : TypeTree) → TypeForm (token.Word (wrapper_word w)) d v u → Formed (Inner d w) (λ x. h x.1.1.0) v u) → UniqAt (Some (token.Word (wrapper_word w))) (suc k) (TypeRule d) Any
inner_at d k w h later f = at_narrow (TypeRule d) Any (Inner d w) Any (λ x. h x.1.1.0) (suc k) (Some (token.Word (wrapper_word w)))
    (λ v z b r g l. let q = f v b (type_back z (token.Word (wrapper_word w)) r l) in record { tree = q.tree; rule = q.rule; is = q.is; follows = tt })
    (seq_tok (Node d ∷ []) (token.Word (wrapper_word w)) (λ p. Then (Tok (token.Sign sign.Less)) (λ q. Then (TypeRule (suc d)) (λ t. Tok (token.Sign sign.Greater)))) Any k (λ p.
    same_tok [] (token.Sign sign.Less) (λ q. Then (TypeRule (suc d)) (λ t. Tok (token.Sign sign.Greater))) Any k (λ q.
    seq (TypeRule (suc d)) Any (λ t. Tok (token.Sign sign.Greater)) Any k (λ a b v z r f. tt) later (λ t. uniq_opening [] (token.Sign sign.Greater) k))))

by_token : (d k : ℕ) → Uniq k (TypeRule (suc d)) Any → (x : Token) → UniqAt (Some x) (suc k) (TypeRule d) Any
by_token d k later (token.Name n) = plain_at d (suc k) (token.Name n) (NamedType n) (λ w u f. f)
by_token d k later (token.Word word.Int) = plain_at d (suc k) (token.Word word.Int) IntType (λ w u f. f)
by_token d k later (token.Word word.Bool) = plain_at d (suc k) (token.Word word.Bool) BoolType (λ w u f. f)
by_token d k later (token.Word word.Str) = plain_at d (suc k) (token.Word word.Str) StringType (λ w u f. f)
by_token d k later (token.Word word.Void) = plain_at d (suc k) (token.Word word.Void) VoidType (λ w u f. f)
by_token d k later (token.Word word.Error) = plain_at d (suc k) (token.Word word.Error) ErrorType (λ w u f. f)
by_token d k later (token.Word word.Future) = inner_at d k FutureOf FutureType later (λ w u f. f)
by_token d k later (token.Word word.FutureStream) = inner_at d k FutureStreamOf FutureStreamType later (λ w u f. f)
by_token d k later (token.Word word.Promise) = inner_at d k PromiseOf PromiseType later (λ w u f. f)
by_token d k later (token.Word word.PromiseStream) = inner_at d k PromiseStreamOf PromiseStreamType later (λ w u f. f)
by_token d k later (token.Word word.Vector) = inner_at d k VectorOf VectorType later (λ w u f. f)
by_token d k later x = at_none (TypeRule d) Any (suc k) (Some x) (λ w z b r g l. type_back z x r l)

by_next : (d k : ℕ) → Uniq k (TypeRule (suc d)) Any → (o : Option Token) → UniqAt o (suc k) (TypeRule d) Any
by_next d k later None = at_none (TypeRule d) Any (suc k) None (λ w z b r g l. starts_looks TypeToken w z None (type_starts r) l)
by_next d k later (Some x) = by_token d k later x

pub uniq_type : (k d : ℕ) → Uniq k (TypeRule d) Any
uniq_type zero d = λ w z v u a b lt r g s h e. absurd (omega arith)
uniq_type (suc k) d = uniq_by (TypeRule d) Any (suc k) (by_next d k (uniq_type k (suc d)))
