-- The steps of the functions that read types against the machine's.
use Rattle.std.proofs.Common.{◌≡◌, ℕ, suc, ◌+◌, ◌≤◌, ◌<◌, List, [], ◌∷◌, length, drop, refl, sym, ap, ◌∙◌, subst, arith, true, false, cond, ◌⊎◌, slice_get, add-one}
use Rattle.std.specs.Prelude.{Err}
use Rattle.std.specs.Option.{option_map}
use Rattle.std.specs.declared.option.Option.{Option}
use Rattle.std.specs.declared.option.Option.TheVariants.{None, Some}
use Rattle.std.proofs.lemmas.Option.{slice_get_within}
use Rattle.flow_tree.specs.declared.token.Token.{Token}
use Rattle.flow_tree.specs.declared.token.Token.TheVariants as token
use Rattle.flow_tree.specs.declared.token.Word.{Word}
use Rattle.flow_tree.specs.declared.token.Word.TheVariants as word
use Rattle.flow_tree.specs.declared.token.Sign.{Sign}
use Rattle.flow_tree.specs.declared.token.Sign.TheVariants as sign
use Rattle.flow_tree.specs.declared.token.Spot.{Spot}
use Rattle.flow_tree.specs.declared.token.Tokens.{Tokens}
use Rattle.flow_tree.specs.declared.fault.SourceFault.{SourceFault}
use Rattle.flow_tree.specs.Tree.{TypeTree, IntType, BoolType, StringType, VoidType, ErrorType, NamedType}
use Rattle.flow_tree.specs.View.{type_of}
use Rattle.flow_tree.specs.Grammar.{Wrapper, TypeRule}
use Rattle.flow_tree.specs.GrammarAnswer.{place_at, ReaderAnswer}
use Rattle.flow_exprs.specs.declared.stop.Stop.{Stop}
use Rattle.flow_exprs.specs.declared.stop.Stop.TheVariants.{Short, Deep, NoMemory}
use Rattle.flow_exprs.specs.declared.ty.TypeKind.{TypeKind}
use Rattle.flow_exprs.specs.declared.ty.TypeKind.TheVariants as kind
use Rattle.flow_exprs.specs.Answer.{RefusalIs}
use Rattle.flow_exprs.specs.TypeMachine.{type_word_kind, type_sign_kind, type_kind_of, type_kind_at, plain_of_word, plain_of, plain_in, plain_at, type_or_void, IsWrapper, wrapper_of, wrapped_by, Around, Bottom, Inside, TypeState, WantType, WantLess, HaveType, DeadType, type_step_kind, type_step, type_height, type_hole, around_fits, type_fits, TypeOutcome, TypeEnded, TypeDeep, type_halt, type_turn, type_run}
use Rattle.flow_exprs.specs.TypeAnswer.{TypeFit, ReadsType, TypeEnds, RefusesType}
use Rattle.flow_exprs.proofs.Fits.{and_true}
use Rattle.flow_exprs.proofs.ExprSteps.{first, first_drop, drop_some, and_false}
use Rattle.flow_exprs.proofs.TypeLaws.{AliveType, type_turn_alive, wrapped_height, short_type, deep_type}

here_in : (o : Option Spot) (k : TypeKind) → option_map (λ s. type_kind_of s.token) o ≡ Some k → (x : Spot) × (o ≡ Some x) × (type_kind_of x.token ≡ k)
here_in None k h = absurd (cc)
here_in (Some x) k h = (x, refl, cc)

type_ends_is : (o p : TypeOutcome) (s : Stop) → o ≡ p → TypeEnds p s → TypeEnds o s
type_ends_is o p (Short k) e h = e ∙ h
type_ends_is o p (Deep k) e h = e ∙ h
type_ends_is o p NoMemory e h = tt

none_some : (k : TypeKind) → None ≡ Some k → ⊥
none_some k h = cc

module _ (spots : List Spot) where
  one_kind : (i : ℕ) (S : TypeState) (k : TypeKind) → type_kind_at spots i ≡ Some k
      → (x : Spot) × (slice_get spots i ≡ Some x) × (type_run i S (drop i spots) ≡ type_turn i S (type_step_kind S k x) (type_run (i + 1) (type_step_kind S k x) (drop (i + 1) spots)))
  one_kind i S k h =
      let r = here_in (slice_get spots i) k h in
      let x = r.0 in (
        x,
        r.1,
        ap (λ z. type_run i S z) (drop_some spots i x r.1) ∙ ap (λ n. type_turn i S (type_step S x) (type_run n (type_step S x) (drop (i + 1) spots))) (sym (add-one i))
            ∙ ap (λ q. type_turn i S (type_step_kind S q x) (type_run (i + 1) (type_step_kind S q x) (drop (i + 1) spots))) r.2,
      )

  go : (i : ℕ) (S T : TypeState) (k : TypeKind) → type_kind_at spots i ≡ Some k → ((x : Spot) → slice_get spots i ≡ Some x → type_step_kind S k x ≡ T) → AliveType T → type_fits T ≡ true
      → type_run i S (drop i spots) ≡ type_run (i + 1) T (drop (i + 1) spots)
  go i S T k h t a f =
      let r = one_kind i S k h in
      r.2 ∙ ap (λ Q. type_turn i S Q (type_run (i + 1) Q (drop (i + 1) spots))) (t r.0 r.1) ∙ type_turn_alive i S T (type_run (i + 1) T (drop (i + 1) spots)) a
      ∙ ap (λ b. cond b (type_run (i + 1) T (drop (i + 1) spots)) (TypeDeep i)) f

  deep : (i : ℕ) (S : TypeState) (k : TypeKind) → type_kind_at spots i ≡ Some k → ((x : Spot) → AliveType (type_step_kind S k x) × (type_fits (type_step_kind S k x) ≡ false))
      → type_run i S (drop i spots) ≡ TypeDeep i
  deep i S k h t =
      let r = one_kind i S k h in
      let T = type_step_kind S k r.0 in
      r.2 ∙ type_turn_alive i S T (type_run (i + 1) T (drop (i + 1) spots)) (t r.0).0 ∙ ap (λ b. cond b (type_run (i + 1) T (drop (i + 1) spots)) (TypeDeep i)) (t r.0).1

  halt_in : (i : ℕ) (S : TypeState) (rest : List Spot) → ((x : Spot) → first rest ≡ Some x → type_step S x ≡ DeadType) → type_run i S rest ≡ type_halt i S
  halt_in i S [] t = refl
  halt_in i S (x ∷ xs) t = ap (λ Q. type_turn i S Q (type_run (suc i) (type_step S x) xs)) (t x refl)

  stuck : (i : ℕ) (S : TypeState) → ((k : TypeKind) (x : Spot) → type_kind_at spots i ≡ Some k → type_step_kind S k x ≡ DeadType) → type_run i S (drop i spots) ≡ type_halt i S
  stuck i S t = halt_in i S (drop i spots) (λ x h. t (type_kind_of x.token) x (ap (option_map (λ s. type_kind_of s.token)) (sym (first_drop spots i) ∙ h)))

  pub type_kind_within : (i : ℕ) (k : TypeKind) → type_kind_at spots i ≡ Some k → i < length spots
  type_kind_within i k h = let r = here_in (slice_get spots i) k h in slice_get_within spots i r.0 r.1

  some_same : (j k : TypeKind) → Some j ≡ Some k → j ≡ k
  some_same j k h = cc

  not_kind : (i : ℕ) (j k : TypeKind) → (type_kind_at spots i ≡ Some j → ⊥) → type_kind_at spots i ≡ Some k → k ≡ j → ⊥
  not_kind i j k differs h e = differs (h ∙ ap (λ q. Some q) e)

  pub type_at_end : (i d : ℕ) → type_kind_at spots i ≡ None → RefusesType spots i d (Short i)
  type_at_end i d h K f = stuck i (WantType K) (λ q x e. absurd (none_some q (sym h ∙ e)))

  other_dead : (k : TypeKind) (K : Around) (x : Spot) → ((k ≡ kind.Less) ⊎ ((k ≡ kind.Greater) ⊎ (k ≡ kind.Other))) → type_step_kind (WantType K) k x ≡ DeadType
  other_dead kind.Less K x e = refl
  other_dead kind.Greater K x e = refl
  other_dead kind.Other K x e = refl
  other_dead _ K x e = absurd (grind (arith, e))

  pub other_type : (i d : ℕ) (k : TypeKind) → type_kind_at spots i ≡ Some k → ((k ≡ kind.Less) ⊎ ((k ≡ kind.Greater) ⊎ (k ≡ kind.Other))) → RefusesType spots i d (Short i)
  other_type i d k h e K f = stuck i (WantType K) (λ q x w. subst (λ y. type_step_kind (WantType K) y x ≡ DeadType) (some_same k q (sym h ∙ w)) (other_dead k K x e))

  -- a type by itself
  height_some : (t : TypeTree) → 1 ≤ type_height t
  height_some t = height_word t
    where
      height_word : (t : TypeTree) → 1 ≤ type_height t
      height_word IntType = omega arith
      height_word _ = omega arith

  pub plain_deep : (i d : ℕ) → type_kind_at spots i ≡ Some kind.Plain → 64 < d → RefusesType spots i d (Deep i)
  plain_deep i d h lt K f = deep i (WantType K) kind.Plain h (λ x.
      (tt, and_false (type_hole K + type_height (type_or_void (plain_of x.token))) 65 (around_fits K) (omega (arith, f.depth_is, height_some (type_or_void (plain_of x.token))))))

  plain_same : (x : Token) (t : TypeTree) → plain_of x ≡ Some t → (type_or_void (plain_of x) ≡ t) × (type_height t ≡ 1)
  plain_same (token.Name n) t h = let e : NamedType n ≡ t = cc in (e, sym (ap type_height e))
  plain_same (token.Word w) t h = word_same w t h
    where
      word_same : (w : Word) (t : TypeTree) → plain_of_word w ≡ Some t → (type_or_void (plain_of_word w) ≡ t) × (type_height t ≡ 1)
      word_same word.Int t h = let e : IntType ≡ t = cc in (e, sym (ap type_height e))
      word_same word.Bool t h = let e : BoolType ≡ t = cc in (e, sym (ap type_height e))
      word_same word.Str t h = let e : StringType ≡ t = cc in (e, sym (ap type_height e))
      word_same word.Void t h = let e : VoidType ≡ t = cc in (e, sym (ap type_height e))
      word_same word.Error t h = let e : ErrorType ≡ t = cc in (e, sym (ap type_height e))
      word_same _ t h = absurd (cc)
  plain_same (token.Number n) t h = absurd (cc)
  plain_same (token.Text b) t h = absurd (cc)
  plain_same (token.Sign s) t h = absurd (cc)

  plain_is : (i : ℕ) (t : TypeTree) (x : Spot) → plain_at spots i ≡ Some t → slice_get spots i ≡ Some x → plain_of x.token ≡ Some t
  plain_is i t x h e = sym (ap plain_in e) ∙ h

  pub plain_reads : (i d : ℕ) (t : TypeTree) → type_kind_at spots i ≡ Some kind.Plain → plain_at spots i ≡ Some t → d ≤ 64 → ReadsType spots i d t (i + 1)
  plain_reads i d t h l le =
      let r = here_in (slice_get spots i) kind.Plain h in
      let s = plain_same r.0.token t (plain_is i t r.0 l r.1) in
      record {
        after = omega arith;
        within = omega (arith, type_kind_within i kind.Plain h);
        fits_in = omega (arith, s.1);
        comes = λ K f. go i (WantType K) (HaveType t K) kind.Plain h (λ x e. ap (λ w. HaveType w K) (plain_same x.token t (plain_is i t x l e)).0) tt
            (and_true (type_hole K + type_height t) 65 (around_fits K) (omega (arith, f.depth_is, s.1)) f.fits_is);
      }

  token_some : (x : Token) → type_kind_of x ≡ kind.Plain → plain_of x ≡ None → ⊥
  token_some (token.Name n) k h = some_no (NamedType n) h
    where
      some_no : (t : TypeTree) → Some t ≡ None → ⊥
      some_no t h = cc
  token_some (token.Word w) k h = word_some w k h
    where
      word_some : (w : Word) → type_word_kind w ≡ kind.Plain → plain_of_word w ≡ None → ⊥
      word_some word.Int k h = cc
      word_some _ k h = cc
  token_some (token.Number n) k h = other_plain k
    where
      other_plain : kind.Other ≡ kind.Plain → ⊥
      other_plain h = cc
  token_some (token.Text b) k h = other_plain k
    where
      other_plain : kind.Other ≡ kind.Plain → ⊥
      other_plain h = cc
  token_some (token.Sign s) k h = sign_some s k
    where
      sign_some : (s : Sign) → type_sign_kind s ≡ kind.Plain → ⊥
      sign_some sign.Less k = cc
      sign_some _ k = cc

  pub plain_some : (i : ℕ) → type_kind_at spots i ≡ Some kind.Plain → plain_at spots i ≡ None → ⊥
  plain_some i h l = let r = here_in (slice_get spots i) kind.Plain h in token_some r.0.token r.2 (sym (ap plain_in r.1) ∙ l)

  -- a type of an argument
  wrapper_step : (k : TypeKind) (K : Around) (x : Spot) → IsWrapper k → type_step_kind (WantType K) k x ≡ WantLess (wrapper_of k) K
  wrapper_step kind.Future K x w = refl
  wrapper_step kind.FutureStream K x w = refl
  wrapper_step kind.Promise K x w = refl
  wrapper_step kind.PromiseStream K x w = refl
  wrapper_step kind.Vector K x w = refl
  wrapper_step _ K x w = absurd w

  pub argument_deep : (i d : ℕ) (k : TypeKind) → type_kind_at spots i ≡ Some k → IsWrapper k → 64 < d → RefusesType spots i d (Deep i)
  argument_deep i d k h w lt K f = deep i (WantType K) k h (λ x. (
    subst AliveType (sym (wrapper_step k K x w)) tt,
    ap type_fits (wrapper_step k K x w) ∙ and_false (type_hole K) 64 (around_fits K) (omega (arith, f.depth_is)),
  ))

  less_comes : (i d : ℕ) (k : TypeKind) (K : Around) → type_kind_at spots i ≡ Some k → IsWrapper k → d ≤ 64 → TypeFit d K
      → type_run i (WantType K) (drop i spots) ≡ type_run (i + 1) (WantLess (wrapper_of k) K) (drop (i + 1) spots)
  less_comes i d k K h w le f = go i (WantType K) (WantLess (wrapper_of k) K) k h (λ x e. wrapper_step k K x w) tt (and_true (type_hole K) 64 (around_fits K) (omega (arith, f.depth_is)) f.fits_is)

  less_only : (w : Wrapper) (K : Around) (k : TypeKind) (x : Spot) → (k ≡ kind.Less → ⊥) → type_step_kind (WantLess w K) k x ≡ DeadType
  less_only w K kind.Less x h = absurd (h refl)
  less_only w K _ x h = refl

  pub argument_open : (i d : ℕ) (k : TypeKind) → type_kind_at spots i ≡ Some k → IsWrapper k → d ≤ 64 → (type_kind_at spots (i + 1) ≡ Some kind.Less → ⊥) → RefusesType spots i d (Short (i + 1))
  argument_open i d k h w le n K f = less_comes i d k K h w le f ∙ stuck (i + 1) (WantLess (wrapper_of k) K) (λ q x e. less_only (wrapper_of k) K q x (not_kind (i + 1) kind.Less q n e))

  inside_fit : (d : ℕ) (w : Wrapper) (K : Around) → d ≤ 64 → TypeFit d K → TypeFit (d + 1) (Inside w K)
  inside_fit d w K le f = record { depth_is = omega (arith, f.depth_is); fits_is = and_true (type_hole K) 64 (around_fits K) (omega (arith, f.depth_is)) f.fits_is }

  inside_comes : (i d : ℕ) (k : TypeKind) (K : Around) → type_kind_at spots i ≡ Some k → IsWrapper k → d ≤ 64 → type_kind_at spots (i + 1) ≡ Some kind.Less → TypeFit d K
      → type_run i (WantType K) (drop i spots) ≡ type_run (i + 2) (WantType (Inside (wrapper_of k) K)) (drop (i + 2) spots)
  inside_comes i d k K h w le l f =
      let e1 : i + 1 + 1 ≡ i + 2 = omega arith in
      let g = inside_fit d (wrapper_of k) K le f in
      less_comes i d k K h w le f
      ∙ go (i + 1) (WantLess (wrapper_of k) K) (WantType (Inside (wrapper_of k) K)) kind.Less l (λ x e. refl) tt g.fits_is
      ∙ ap (λ n. type_run n (WantType (Inside (wrapper_of k) K)) (drop n spots)) e1

  pub argument_refused : (i d : ℕ) (k : TypeKind) (s : Stop) → type_kind_at spots i ≡ Some k → IsWrapper k → d ≤ 64 → type_kind_at spots (i + 1) ≡ Some kind.Less → RefusesType spots (i + 2) (d + 1) s
      → RefusesType spots i d s
  argument_refused i d k s h w le l r K f = type_ends_is (type_run i (WantType K) (drop i spots)) (type_run (i + 2) (WantType (Inside (wrapper_of k) K)) (drop (i + 2) spots)) s
      (inside_comes i d k K h w le l f) (r (Inside (wrapper_of k) K) (inside_fit d (wrapper_of k) K le f))

  greater_only : (t : TypeTree) (K : Around) (k : TypeKind) (x : Spot) → (k ≡ kind.Greater → ⊥) → type_step_kind (HaveType t K) k x ≡ DeadType
  greater_only t K kind.Greater x h = absurd (h refl)
  greater_only t K _ x h = refl

  pub argument_unclosed : (i d : ℕ) (k : TypeKind) (t : TypeTree) (to : ℕ) → type_kind_at spots i ≡ Some k → IsWrapper k → d ≤ 64 → type_kind_at spots (i + 1) ≡ Some kind.Less
      → ReadsType spots (i + 2) (d + 1) t to → (type_kind_at spots to ≡ Some kind.Greater → ⊥) → RefusesType spots i d (Short to)
  argument_unclosed i d k t to h w le l r n K f =
      inside_comes i d k K h w le l f ∙ r.comes (Inside (wrapper_of k) K) (inside_fit d (wrapper_of k) K le f)
      ∙ stuck to (HaveType t (Inside (wrapper_of k) K)) (λ q x e. greater_only t (Inside (wrapper_of k) K) q x (not_kind to kind.Greater q n e))

  pub argument_reads : (i d : ℕ) (k : TypeKind) (t u : TypeTree) (to : ℕ) → type_kind_at spots i ≡ Some k → IsWrapper k → d ≤ 64 → type_kind_at spots (i + 1) ≡ Some kind.Less
      → ReadsType spots (i + 2) (d + 1) t to → type_kind_at spots to ≡ Some kind.Greater → u ≡ wrapped_by k t → ReadsType spots i d u (to + 1)
  argument_reads i d k t u to h w le l r n e = subst (λ v. ReadsType spots i d v (to + 1)) (sym e) (record {
    after = omega (arith, r.after);
    within = omega (arith, type_kind_within to kind.Greater n);
    fits_in = omega (arith, r.fits_in, wrapped_height (wrapper_of k) t);
    comes = λ K f.
        inside_comes i d k K h w le l f ∙ r.comes (Inside (wrapper_of k) K) (inside_fit d (wrapper_of k) K le f)
        ∙ go to (HaveType t (Inside (wrapper_of k) K)) (HaveType (wrapped_by k t) K) kind.Greater n (λ x e. refl) tt
        (and_true (type_hole K + type_height (wrapped_by k t)) 65 (around_fits K) (omega (arith, r.fits_in, f.depth_is, wrapped_height (wrapper_of k) t)) f.fits_is);
  })

  -- the whole
  bottom_fit : (d : ℕ) → TypeFit d (Bottom d)
  bottom_fit d = record { depth_is = refl; fits_is = refl }

  bottom_stuck : (t : TypeTree) (d : ℕ) (k : TypeKind) (x : Spot) → type_step_kind (HaveType t (Bottom d)) k x ≡ DeadType
  bottom_stuck t d kind.Greater x = refl
  bottom_stuck t d _ x = refl

  pub bottom_ends : (i d : ℕ) (t : TypeTree) (to : ℕ) → ReadsType spots i d t to → type_run i (WantType (Bottom d)) (drop i spots) ≡ TypeEnded t to
  bottom_ends i d t to r = r.comes (Bottom d) (bottom_fit d) ∙ stuck to (HaveType t (Bottom d)) (λ k x e. bottom_stuck t d k x)

pub type_refusal : (t : Tokens) (from d : ℕ) (s : Stop) (e : SourceFault) → RefusesType t.spots.items from d s → RefusalIs t s e → ReaderAnswer (TypeRule d) type_of t from (Err e)
type_refusal t from d (Short k) e r q = subst (λ x. ReaderAnswer (TypeRule d) type_of t from (Err x)) (sym q)
    (refl, short_type t from d (place_at t k) k (r (Bottom d) (bottom_fit t.spots.items d)) refl)
type_refusal t from d (Deep k) e r q = subst (λ x. ReaderAnswer (TypeRule d) type_of t from (Err x)) (sym q)
    (refl, deep_type t from d (place_at t k) k (r (Bottom d) (bottom_fit t.spots.items d)) refl)
type_refusal t from d NoMemory e r q = subst (λ x. ReaderAnswer (TypeRule d) type_of t from (Err x)) (sym q) tt
