-- A text has one answer at most.
use Rattle.std.proofs.Common.{◌≡◌, ℕ, zero, suc, ◌≤◌, ◌<◌, List, [], ◌∷◌, length, take, drop, Ok, Err, refl, sym, ap, ap₂, ◌∙◌, subst, arith, ◌⊎◌, inl, inr}
use Rattle.std.proofs.lemmas.List.{take-append-drop}
use Rattle.std.specs.Prelude.{slice_get, unwrap_or}
use Rattle.std.specs.Option.{option_map}
use Rattle.std.specs.declared.option.Option.{Option}
use Rattle.std.specs.declared.option.Option.TheVariants.{None, Some}
use Rattle.flow_tree.specs.declared.limits.TheConstants.{OF_CLASS_TEXT}
use Rattle.flow_tree.specs.declared.token.Spot.{Spot}
use Rattle.flow_tree.specs.declared.token.Tokens.{Tokens}
use Rattle.flow_tree.specs.Lexing.{Lexes}
use Rattle.flow_tree.specs.GrammarToken.{Marked, KeepsOf, GoodOf}
use Rattle.flow_tree.specs.GrammarAnswer.{place_at}
use Rattle.flow_lex.proofs.Once.{reads_once}
use Rattle.flow_parse.proofs.Spots.{spots_take}
use Rattle.flow_class.specs.Classes.{ClassTree, RawTree}
use Rattle.flow_class.specs.View.{raw_of}
use Rattle.flow_classprint.specs.ClassGrammar.{TextRule}
use Rattle.flow_valid.specs.declared.rule.ClassRule.{ClassRule}
use Rattle.flow_valid.specs.Filling.{ReadsFilled, ReadsEmpty}
use Rattle.flow_valid.specs.Validity.{number, IsSoundClass, IsValid, BreaksIn, tested, unfilled, Breaks, declaration, head, main, class}
use Rattle.flow_classread.specs.declared.fault.ClassFault.TheVariants.{Form, Invalid, TooLarge, OutOfMemory}
use Rattle.flow_classread.specs.declared.read.TheConstants.{CLASS_BYTES}
use Rattle.flow_classread.specs.ClassAnswer.{DerivesClasses, BeginsText, begun, whole, FailsIn, IsClassText, IsNoText, lexical, form, BreaksFirst, class_name}
use Rattle.flow_class_reading_laws.specs.Laws.{OneAnswer}

-- reads are filled or one is of an empty place
filled_empty : (c : ClassTree) → ReadsFilled c → ReadsEmpty c → ⊥
filled_empty c f e = cc (f e.0 e.1 e.2 e.3, e.4)

sound_unbroken : (r : RawTree) (c : ClassTree) (k : ClassRule) → IsSoundClass r c → BreaksIn r c k → ⊥
sound_unbroken r c k s (tested h) = none_some (sym s.tested ∙ h)
  where
    none_some : {A : Type 0} {x : A} → None ≡ Some x → ⊥
    none_some e = cc
sound_unbroken r c k s (unfilled h w) = filled_empty c s.filled w

-- valid classes break no rule
pub valid_unbroken : (r : RawTree) (rule : ℕ) (at : Option ℕ) → IsValid r → Breaks r rule at → ⊥
valid_unbroken r rule at v (declaration h) = absurd (let e = sym v.declarations ∙ h in cc)
valid_unbroken r rule at v (head d h) = absurd (let e = sym v.heads ∙ h in cc)
valid_unbroken r rule at v (main d h m) = absurd (let e = sym v.main ∙ m in cc)
valid_unbroken r rule at v (class {i} {k} c d h m before there broken) = sound_unbroken r c k (v.classes i c there) broken

-- one rule is broken first, in one class
one_in : (r : RawTree) (c : ClassTree) (j k : ClassRule) → BreaksIn r c j → BreaksIn r c k → j ≡ k
one_in r c j k (tested h) (tested g) = some_same (sym h ∙ g)
  where
    some_same : {x y : ClassRule} → Some x ≡ Some y → x ≡ y
    some_same e = cc
one_in r c j k (tested h) (unfilled g w) = absurd (let e = sym h ∙ g in cc)
one_in r c j k (unfilled h w) (tested g) = absurd (let e = sym h ∙ g in cc)
one_in r c j k (unfilled h w) (unfilled g v) = refl

record IsOne (m n : ℕ) (a b : Option ℕ) : Type 0 where
  rule : m ≡ n
  class : a ≡ b

in_order : (i j : ℕ) → (i < j) ⊎ ((j < i) ⊎ (i ≡ j))
in_order zero zero = inr (inr refl)
in_order zero (suc j) = inl (omega arith)
in_order (suc i) zero = inr (inl (omega arith))
in_order (suc i) (suc j) = elim (in_order i j) [
  | inl l ↦ inl (omega (arith, l))
  | inr k ↦ elim k [
    | inl l ↦ inr (inl (omega (arith, l)))
    | inr e ↦ inr (inr (ap suc e))
  ]
]

module _ (r : RawTree) where
  one_class : {i j : ℕ} {k l : ClassRule} (c d : ClassTree) → ((n : ℕ) (e : ClassTree) → n < i → slice_get r.classes n ≡ Some e → IsSoundClass r e)
      → ((n : ℕ) (e : ClassTree) → n < j → slice_get r.classes n ≡ Some e → IsSoundClass r e) → slice_get r.classes i ≡ Some c → slice_get r.classes j ≡ Some d
      → BreaksIn r c k → BreaksIn r d l → IsOne (number k) (number l) (Some i) (Some j)
  one_class {i} {j} {k} {l} c d before earlier at there broken breach = elim (in_order i j) [
    | inl lt ↦ absurd (sound_unbroken r c k (earlier i c lt at) broken)
    | inr g ↦ elim g [
      | inl lt ↦ absurd (sound_unbroken r d l (before j d lt there) breach)
      | inr e ↦ same e
    ]
  ]
    where
      same : i ≡ j → IsOne (number k) (number l) (Some i) (Some j)
      same e =
          let q : c ≡ d = some_same (sym at ∙ ap (slice_get r.classes) e ∙ there) in
          record { rule = ap number (one_in r d k l (subst (λ x. BreaksIn r x k) q broken) breach); class = ap Some e }
        where
          some_same : {x y : ClassTree} → Some x ≡ Some y → x ≡ y
          some_same e = cc

  one_breach : (m n : ℕ) (a b : Option ℕ) → Breaks r m a → Breaks r n b → IsOne m n a b
  one_breach m n a b (declaration h) (declaration g) = record { rule = refl; class = refl }
  one_breach m n a b (declaration h) (head d g) = absurd (let e = sym h ∙ d in cc)
  one_breach m n a b (declaration h) (main d g k) = absurd (let e = sym h ∙ d in cc)
  one_breach m n a b (declaration h) (class c d g k before there broken) = absurd (let e = sym h ∙ d in cc)
  one_breach m n a b (head d h) (declaration g) = absurd (let e = sym g ∙ d in cc)
  one_breach m n a b (head d h) (head f g) = record { rule = refl; class = sym h ∙ g }
  one_breach m n a b (head d h) (main f g k) = absurd (let e = sym h ∙ g in cc)
  one_breach m n a b (head d h) (class c f g k before there broken) = absurd (let e = sym h ∙ g in cc)
  one_breach m n a b (main d h q) (declaration g) = absurd (let e = sym g ∙ d in cc)
  one_breach m n a b (main d h q) (head f g) = absurd (let e = sym h ∙ g in cc)
  one_breach m n a b (main d h q) (main f g k) = record { rule = refl; class = refl }
  one_breach m n a b (main d h q) (class c f g k before there broken) = absurd (let e = sym q ∙ k in cc)
  one_breach m n a b (class c d h q before there broken) (declaration g) = absurd (let e = sym g ∙ d in cc)
  one_breach m n a b (class c d h q before there broken) (head f g) = absurd (let e = sym h ∙ g in cc)
  one_breach m n a b (class c d h q before there broken) (main f g k) = absurd (let e = sym k ∙ q in cc)
  one_breach m n a b (class c d h q before there broken) (class e f g k earlier at breach) = one_class c e before earlier there at broken breach

-- a text derives one thing
module _ (bytes : List ℕ) where
  pub same_spots : (s t : List Spot) (p q : _) → Lexes bytes s p → Lexes bytes t q → s ≡ t
  same_spots s t p q a b = ((reads_once bytes).tokens s t p q a b).0

  pub one_raw : (a b : RawTree) → IsClassText bytes a → IsClassText bytes b → a ≡ b
  one_raw a b t u = u.only a (subst (λ s. DerivesClasses s a) (same_spots t.spots u.spots t.end u.end t.lexes u.lexes) t.derives)

first_marked : (n k : ℕ) (xs : List Marked) → KeepsOf OF_CLASS_TEXT n xs → KeepsOf OF_CLASS_TEXT n (take k xs)
first_marked n zero xs h = tt
first_marked n (suc k) [] h = tt
first_marked n (suc k) (x ∷ xs) h = (h.0, first_marked n k xs h.1)

-- up to each of its tokens, and to the end, a class text begins one
pub text_begins : (t : Tokens) (k : ℕ) (raw : RawTree) → k ≤ length t.spots.items → DerivesClasses t.spots.items raw → BeginsText t k
text_begins t k raw h d = elim (last k (length t.spots.items) h) [
  | inl l ↦ begun l (record {
    read = take (suc k) d.marked;
    rest = drop (suc k) d.marked;
    tree = raw;
    rule = subst (λ z. TextRule z raw) (sym (take-append-drop (suc k) d.marked)) d.rule;
    is = spots_take (suc k) d.marked ∙ ap (take (suc k)) d.is;
    keeps = first_marked 7 (suc k) d.marked d.keeps;
  })
  | inr e ↦ subst (BeginsText t) (sym e) (whole raw d)
]
  where
    last : (a b : ℕ) → a ≤ b → (a < b) ⊎ (a ≡ b)
    last zero zero h = inr refl
    last zero (suc b) h = inl (omega arith)
    last (suc a) zero h = absurd (omega (arith, h))
    last (suc a) (suc b) h = elim (last a b (omega (arith, h))) [
      | inl l ↦ inl (omega (arith, l))
      | inr e ↦ inr (ap suc e)
    ]

-- so a text that derives something fails nowhere
pub no_failure : (bytes : List ℕ) (line : ℕ) (raw : RawTree) (spots : List Spot) (end : _) → Lexes bytes spots end → DerivesClasses spots raw → IsNoText bytes line → ⊥
no_failure bytes line raw spots end l d (lexical rule at short f e) = (reads_once bytes).either spots end rule at l f
no_failure bytes line raw spots end l d (form t short m f) =
    f.bad (text_begins t f.number raw f.within (subst (λ s. DerivesClasses s raw) (same_spots bytes spots t.spots.items end t.end l m) d))

-- tokens and their end alone count
begins_there : (t u : Tokens) → u.spots.items ≡ t.spots.items → (k : ℕ) → BeginsText u k → BeginsText t k
begins_there t u e k (begun lt g) = begun (subst (λ s. k < length s) e lt) (subst (λ s. GoodOf OF_CLASS_TEXT TextRule 7 (take (suc k) s)) e g)
begins_there t u e k (whole raw d) = subst (BeginsText t) (ap length (sym e)) (whole raw (subst (λ s. DerivesClasses s raw) e d))

place_there : (t u : Tokens) → t.spots.items ≡ u.spots.items → t.end ≡ u.end → (k : ℕ) → place_at t k ≡ place_at u k
place_there t u e f k = ap₂ (λ s p. unwrap_or (option_map (λ x. x.at) (slice_get s k)) p) e f

neither_less : (a b : ℕ) → (a < b → ⊥) → (b < a → ⊥) → a ≡ b
neither_less a b f g = omega (arith, f, g)

-- the first token with which no class text begins is one
one_failure : (t u : Tokens) (m n : ℕ) → t.spots.items ≡ u.spots.items → t.end ≡ u.end → FailsIn t m → FailsIn u n → m ≡ n
one_failure t u m n e q f g =
    let same = neither_less f.number g.number (λ lt. f.bad (begins_there t u (sym e) f.number (g.first f.number lt)))
    (λ lt. g.bad (begins_there u t e g.number (f.first g.number lt))) in
    f.line_is ∙ ap (λ p. p.line) (place_there t u e q f.number ∙ ap (place_at u) same) ∙ sym g.line_is

one_line : (bytes : List ℕ) (m n : ℕ) → IsNoText bytes m → IsNoText bytes n → m ≡ n
one_line bytes m n (lexical rule at short f e) (lexical other to still g q) = e ∙ ap (λ p. p.line) ((reads_once bytes).fault rule other at to f g).1 ∙ sym q
one_line bytes m n (lexical rule at short f e) (form t still l g) = absurd ((reads_once bytes).either t.spots.items t.end rule at l f)
one_line bytes m n (form t short l f) (lexical rule at still g q) = absurd ((reads_once bytes).either t.spots.items t.end rule at l g)
one_line bytes m n (form t short l f) (form u still k g) =
    let s = (reads_once bytes).tokens t.spots.items u.spots.items t.end u.end l k in
    one_failure t u m n s.0 s.1 f g

-- a text that derives something is refused by a rule alone, and by one
module _ (bytes : List ℕ) where
  pub text_no_failure : (raw : RawTree) (line : ℕ) → IsClassText bytes raw → IsNoText bytes line → ⊥
  text_no_failure raw line t f = no_failure bytes line raw t.spots t.end t.lexes t.derives f

  valid_no_breach : (raw : RawTree) (rule : ℕ) (at : Option (List ℕ)) → IsClassText bytes raw → IsValid raw → BreaksFirst bytes rule at → ⊥
  valid_no_breach raw rule at t v b = valid_unbroken raw rule b.number v (subst (λ r. Breaks r rule b.number) (one_raw bytes b.raw raw b.text t) b.breaks)

  one_refusal : (m n : ℕ) (a b : Option (List ℕ)) → BreaksFirst bytes m a → BreaksFirst bytes n b → Invalid m a ≡ Invalid n b
  one_refusal m n a b f g =
      let e = one_raw bytes f.raw g.raw f.text g.text in
      let k = one_breach g.raw m n f.number g.number (subst (λ r. Breaks r m f.number) e f.breaks) g.breaks in
      ap₂ (λ x y. Invalid x y) k.rule (f.name ∙ ap₂ class_name e k.class ∙ sym g.name)

short_text : (bytes : List ℕ) (line : ℕ) → IsNoText bytes line → length bytes ≤ CLASS_BYTES
short_text bytes line (lexical rule at short f e) = short
short_text bytes line (form t short l f) = short

pub one_answer : OneAnswer
one_answer bytes (Ok c) (Ok d) a b h k = ap Ok (one_raw bytes (raw_of c) (raw_of d) a.0 b.0)
one_answer bytes (Ok c) (Err (Form line)) a b h k = absurd (text_no_failure bytes (raw_of c) line a.0 b)
one_answer bytes (Ok c) (Err (Invalid rule at)) a b h k = absurd (valid_no_breach bytes (raw_of c) rule at a.0 a.1 b)
one_answer bytes (Ok c) (Err TooLarge) a b h k = absurd (omega (arith, a.0.short, b))
one_answer bytes (Err (Form line)) (Ok d) a b h k = absurd (text_no_failure bytes (raw_of d) line b.0 a)
one_answer bytes (Err (Form line)) (Err (Form other)) a b h k = ap (λ n. Err (Form n)) (one_line bytes line other a b)
one_answer bytes (Err (Form line)) (Err (Invalid rule at)) a b h k = absurd (text_no_failure bytes b.raw line b.text a)
one_answer bytes (Err (Form line)) (Err TooLarge) a b h k = absurd (omega (arith, short_text bytes line a, b))
one_answer bytes (Err (Invalid rule at)) (Ok d) a b h k = absurd (valid_no_breach bytes (raw_of d) rule at b.0 b.1 a)
one_answer bytes (Err (Invalid rule at)) (Err (Form line)) a b h k = absurd (text_no_failure bytes a.raw line a.text b)
one_answer bytes (Err (Invalid rule at)) (Err (Invalid other to)) a b h k = ap Err (one_refusal bytes rule other at to a b)
one_answer bytes (Err (Invalid rule at)) (Err TooLarge) a b h k = absurd (omega (arith, a.text.short, b))
one_answer bytes (Err TooLarge) (Ok d) a b h k = absurd (omega (arith, b.0.short, a))
one_answer bytes (Err TooLarge) (Err (Form line)) a b h k = absurd (omega (arith, short_text bytes line b, a))
one_answer bytes (Err TooLarge) (Err (Invalid rule at)) a b h k = absurd (omega (arith, b.text.short, a))
one_answer bytes (Err TooLarge) (Err TooLarge) a b h k = refl
one_answer bytes (Err OutOfMemory) s a b h k = absurd (h refl)
one_answer bytes r (Err OutOfMemory) a b h k = absurd (k refl)
