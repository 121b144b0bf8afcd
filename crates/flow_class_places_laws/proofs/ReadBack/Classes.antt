-- Blocks, groups and classes of class text are read back from their texts.
use Rattle.std.proofs.Common.{◌≡◌, ℕ, suc, ◌+◌, ◌≤◌, List, [], ◌∷◌, ◌++◌, map, length, refl, sym, ap, ap₂, ◌∙◌, subst, append_assoc, decimal, Bool, true, false}
use Rattle.std.specs.Prelude.{codes}
use Rattle.std.proofs.lemmas.List.{length-map}
use Rattle.flow_tree.specs.declared.limits.TheConstants.{BRANCHES}
use Rattle.flow_tree.specs.declared.token.Word.TheVariants as word
use Rattle.flow_tree.specs.declared.token.Sign.TheVariants as sign
use Rattle.flow_tree.specs.Tree.{TypeTree}
use Rattle.flow_tree.specs.Decls.{SlotTree}
use Rattle.flow_tree.specs.GrammarToken.{Marked}
use Rattle.flow_tree.specs.Grammar.{sign_at}
use Rattle.flow_tree.specs.Canon.{type_text, expr_text, line, indent}
use Rattle.flow_class.specs.Classes.{BlockTree, CallbackTree, ClassTree}
use Rattle.flow_meaning.specs.Placeless.{placeless_block, placeless_callback, placeless_class}
use Rattle.flow_classprint.specs.declared.version.Version.TheVariants.{Two}
use Rattle.flow_classprint.specs.ClassGrammar.{said, number_at, BlockRule, block, NumberedRule, none, next, CallbackRule, callback, GroupsRule, no_groups, more_groups, SlotRule, slot, LocalRule, local, ResultRule, result, no_result, ClassRule, class, ClassesRule, no_classes, more_classes}
use Rattle.flow_classprint.specs.ClassText.{all_text, numbered, catch_text, last_text, instr_line, block_text, wait_text, into_text, callback_text, groups_text, slot_text, local_line, class_text}
use Rattle.flow_show.proofs.Going.{Piece, Any, nothing, both, as_rule, behind, spaced, lined, under, blank, indent_gap}
use Rattle.flow_show.proofs.TokenPieces.{Apart, name_piece, word_piece}
use Rattle.flow_show.proofs.Valid.{AllValid, valid_head, valid_tail, valid_left, valid_right}
use Rattle.flow_show.proofs.ExprPieces.{AfterType, type_piece, space, closed, semicolon}
use Rattle.flow_show.proofs.PartPieces.{operand_piece, wait_word}
use Rattle.flow_show.proofs.StmtPieces.{sign_end, curly_open, curly_close, headed}
use Rattle.flow_class_places_laws.proofs.ReadBack.Pieces.{Again, Kept, number_here, catch_piece, catch_apart, into_piece, into_apart}
use Rattle.flow_class_places_laws.proofs.ReadBack.Values.{free_like, instrs_piece, last_piece}

-- things one after another with their numbers
abbrev EachPiece : {A : Type 0} → (A → A) → (ℕ → List Marked → A → Type 0) → (ℕ → A → List ℕ) → Type 0
EachPiece {A} bare R spell = (n : ℕ) (m : List Marked) (x : A) → R n m x → AllValid m → Piece {X = Kept bare (R n) x} (λ y. y.marked) m (spell n x) Any

numbered_piece : {A : Type 0} (bare : A → A) (R : ℕ → List Marked → A → Type 0) (spell : ℕ → A → List ℕ) → EachPiece bare R spell
    → {n : ℕ} {m : List Marked} {xs : List A} → NumberedRule R n m xs → AllValid m
    → Piece {X = Kept (map bare) (NumberedRule R n) xs} (λ y. y.marked) m (numbered spell n xs) Any
numbered_piece bare R spell one none v = as_rule nothing (λ y. record { marked = _; tree = []; rule = none; like = refl }) (λ y. refl) refl refl
numbered_piece bare R spell one {n} (next {x = x} first rest r s e) v =
    let a = subst AllValid e v in
    as_rule (both (one n first x r (valid_left first rest a)) (numbered_piece bare R spell one s (valid_right first rest a)) (λ u g. tt))
    (λ y. record { marked = _; tree = y.0.tree ∷ y.1.tree; rule = next y.0.marked y.1.marked y.0.rule y.1.rule refl; like = ap₂ (λ u us. u ∷ us) y.0.like y.1.like })
    (λ y. refl) e refl

-- slots and locals
slot_is : (n t x : List ℕ) → codes "slot " ++ n ++ codes " " ++ t ++ codes " " ++ x ++ codes ";" ≡ codes "slot" ++ (32 ∷ (n ++ (32 ∷ (t ++ (32 ∷ (x ++ (59 ∷ [])))))))
slot_is n t x = simp append_assoc refl

slot_piece : {n : ℕ} {m : List Marked} {x : SlotTree} → SlotRule n m x → AllValid m → Piece {X = Kept (λ y. y) (SlotRule n) x} (λ y. y.marked) m (slot_text n x) Any
slot_piece {n} (slot {t = t} {x = name} p q r s of h tr e) v =
    let a = subst AllValid e v in
    let b = valid_right of _ (valid_tail (valid_tail a)) in
    as_rule
    (lined 1 (both (name_piece [] (codes "slot") p (valid_head a)) (spaced (both (number_here q h) (spaced (both (type_piece tr (valid_left of _ (valid_tail (valid_tail a))))
    (spaced (both (name_piece [] name r (valid_head b)) (sign_end s) (λ u g. refl))) (λ u g. space _))) (λ u g. refl))) (λ u g. refl)) (λ u. tt))
    (λ y. record { marked = _; tree = record { ty = t; name = name }; rule = slot y.0 y.1.0 y.1.1.1.0 y.1.1.1.1 y.1.1.0.marked h y.1.1.0.rule refl; like = refl })
    (λ y. refl) e (ap (λ l. line 1 l) (slot_is (decimal n) (type_text t) name))

local_is : (n t : List ℕ) → codes "local " ++ n ++ codes " " ++ t ++ codes ";" ≡ codes "local" ++ (32 ∷ (n ++ (32 ∷ (t ++ (59 ∷ [])))))
local_is n t = simp append_assoc refl

local_piece : {n : ℕ} {m : List Marked} {t : TypeTree} → LocalRule n m t → AllValid m → Piece {X = Kept (λ y. y) (LocalRule n) t} (λ y. y.marked) m (local_line n t) Any
local_piece {n} {t = t} (local p q r of h tr e) v =
    let a = subst AllValid e v in
    as_rule
    (lined 1 (both (name_piece [] (codes "local") p (valid_head a)) (spaced (both (number_here q h) (spaced (both (type_piece tr (valid_left of _ (valid_tail (valid_tail a))))
    (sign_end r) (λ u g. semicolon _))) (λ u g. refl))) (λ u g. refl)) (λ u. tt))
    (λ y. record { marked = _; tree = t; rule = local y.0 y.1.0 y.1.1.1 y.1.1.0.marked h y.1.1.0.rule refl; like = refl })
    (λ y. refl) e (ap (λ l. line 1 l) (local_is (decimal n) (type_text t)))

-- blocks
block_by : (k : ℕ) (h c b l : List ℕ) → line k (h ++ c ++ codes " {") ++ b ++ l ++ line k (codes "}")
    ≡ line k (h ++ (c ++ (32 ∷ (123 ∷ (10 ∷ (b ++ (l ++ (indent k ++ 125 ∷ []))))))))
block_by k h c b l = simp append_assoc refl

block_piece : {n : ℕ} {m : List Marked} {x : BlockTree} → BlockRule Two n m x → AllValid m → Piece {X = Kept placeless_block (BlockRule Two n) x} (λ y. y.marked) m (block_text n x) Any
block_piece {n} (block {c = c} {is = is} {l = l} p q r s caught body last h cr ir lr e) v =
    let a = subst AllValid e v in
    let b = valid_tail (valid_right caught _ (valid_tail (valid_tail a))) in
    as_rule
    (lined 1 (both (name_piece [] (codes "block") p (valid_head a)) (spaced (both (number_here q h) (both (catch_piece cr (valid_left caught _ (valid_tail (valid_tail a))))
    (spaced (both (curly_open r) (behind (blank 10 refl) (both (instrs_piece ir (valid_left body _ b))
    (both (lined 2 (last_piece lr (valid_left last _ (valid_right body _ b))) (λ u. tt)) (behind (indent_gap 1) (curly_close s)) (λ u g. tt)) (λ u g. tt))) (λ u g. tt))) (λ u g. tt))
    (λ u g. catch_apart c (123 ∷ (10 ∷ (all_text instr_line is ++ (line 2 (last_text l ++ codes ";") ++ (indent 1 ++ 125 ∷ []))))) u))) (λ u g. refl)) (λ u. tt))
    (λ y. record {
      marked = _;
      tree = record { catcher = c; body = y.1.1.1.1.0.tree; last = y.1.1.1.1.1.0.tree };
      rule = block y.0 y.1.0 y.1.1.1.0 y.1.1.1.1.1.1 y.1.1.0.marked y.1.1.1.1.0.marked y.1.1.1.1.1.0.marked h y.1.1.0.rule y.1.1.1.1.0.rule y.1.1.1.1.1.0.rule refl;
      like = λ i. record { catcher = c; body = y.1.1.1.1.0.like i; last = y.1.1.1.1.1.0.like i };
    })
    (λ y. refl) e (block_by 1 (codes "block " ++ decimal n) (catch_text c) (all_text instr_line is) (line 2 (last_text l ++ codes ";")))

-- callbacks
wait_is : (next : Bool) → wait_text next ≡ 32 ∷ wait_word next
wait_is false = refl
wait_is true = refl

callback_by : (h w e i b : List ℕ) → (h ++ (32 ∷ w) ++ e ++ codes ")") ++ (i ++ codes " goto " ++ b ++ codes ";")
    ≡ h ++ (32 ∷ ((w ++ (e ++ codes ")")) ++ (i ++ (codes " goto " ++ (b ++ codes ";")))))
callback_by h w e i b = simp append_assoc refl

callback_piece : {n : ℕ} {m : List Marked} {k : CallbackTree} → CallbackRule n m k → AllValid m
    → Piece {X = Kept placeless_callback (CallbackRule n) k} (λ y. y.marked) m (callback_text n k) Any
callback_piece {n} (callback {next = after} {e = t} {to = to} {b = b} p q r s z waits put h j or free ir e) v =
    let a = subst AllValid e v in
    let c = valid_right waits _ (valid_tail (valid_tail a)) in
    let d = valid_right put _ c in
    as_rule
    (lined 2 (both (name_piece [] (codes "callback") p (valid_head a)) (spaced (both (number_here q h) (spaced (both (operand_piece or (valid_left waits _ (valid_tail (valid_tail a))))
    (both (into_piece ir (valid_left put _ c)) (spaced (both (name_piece [] (codes "goto") r (valid_head d)) (spaced (both (number_here s j) (sign_end z) (λ u g. refl))) (λ u g. refl)))
    (λ u g. refl)) (λ u g. into_apart to (codes "goto" ++ (32 ∷ (decimal b ++ (59 ∷ [])))) u))) (λ u g. refl))) (λ u g. refl)) (λ u. tt))
    (λ y. record {
      marked = _;
      tree = record { next = after; operand = y.1.1.0.tree; into = to; block = b };
      rule = callback y.0 y.1.0 y.1.1.1.1.0 y.1.1.1.1.1.0 y.1.1.1.1.1.1 y.1.1.0.marked y.1.1.1.0.marked h j y.1.1.0.rule (free_like y.1.1.0.tree t y.1.1.0.like free) y.1.1.1.0.rule refl;
      like = λ i. record { next = after; operand = y.1.1.0.like i; into = to; block = b };
    })
    (λ y. refl) e
    (ap (λ w. line 2 ((codes "callback " ++ decimal n ++ w ++ expr_text t ++ codes ")") ++ (into_text to ++ codes " goto " ++ decimal b ++ codes ";"))) (wait_is after)
    ∙ ap (λ l. line 2 l) (callback_by (codes "callback " ++ decimal n) (wait_word after) (expr_text t) (into_text to) (decimal b)))

-- things of which there is one at least
record SomeKept {A : Type 0} (bare : A → A) (R : ℕ → List Marked → A → Type 0) (n : ℕ) (x : A) (xs : List A) : Type 0 where
  pub marked : List Marked
  pub first : A
  pub others : List A
  pub rule : NumberedRule R n marked (first ∷ others)
  pub like : map bare (first ∷ others) ≡ map bare (x ∷ xs)

some_piece : {A : Type 0} (bare : A → A) (R : ℕ → List Marked → A → Type 0) (spell : ℕ → A → List ℕ) → EachPiece bare R spell
    → {n : ℕ} {m : List Marked} {x : A} {xs : List A} → NumberedRule R n m (x ∷ xs) → AllValid m
    → Piece {X = SomeKept bare R n x xs} (λ y. y.marked) m (numbered spell n (x ∷ xs)) Any
some_piece bare R spell one {n} (next {x = x} first rest r s e) v =
    let a = subst AllValid e v in
    as_rule (both (one n first x r (valid_left first rest a)) (numbered_piece bare R spell one s (valid_right first rest a)) (λ u g. tt))
    (λ y. record {
      marked = _;
      first = y.0.tree;
      others = y.1.tree;
      rule = next y.0.marked y.1.marked y.0.rule y.1.rule refl;
      like = ap₂ (λ u us. u ∷ us) y.0.like y.1.like;
    })
    (λ y. refl) e refl

-- groups
same_length : {A : Type 0} (bare : A → A) (xs ys : List A) → map bare xs ≡ map bare ys → length xs ≡ length ys
same_length bare xs ys e = sym (length-map xs bare) ∙ ap length e ∙ length-map ys bare

abbrev bare_groups : List (List CallbackTree) → List (List CallbackTree)
bare_groups gs = map (map placeless_callback) gs

groups_piece : {g k : ℕ} {m : List Marked} {gs : List (List CallbackTree)} → GroupsRule g k m gs → AllValid m
    → Piece {X = Kept bare_groups (GroupsRule g k) gs} (λ y. y.marked) m (groups_text g k gs) Any
groups_piece no_groups v = as_rule nothing (λ y. record { marked = _; tree = []; rule = no_groups; like = refl }) (λ y. refl) refl refl
groups_piece {g} {k} (more_groups {c = x} {cs = xs} {rest = gs} p q r s of more h few cr gr e) v =
    let a = subst AllValid e v in
    let b = valid_tail (valid_tail (valid_tail a)) in
    as_rule
    (both (lined 1 (both (name_piece [] (codes "group") p (valid_head a)) (spaced (both (number_here q h) (spaced (both (curly_open r) (behind (blank 10 refl)
    (both (some_piece placeless_callback CallbackRule callback_text (λ n m c h w. callback_piece h w) cr (valid_left of _ b)) (behind (indent_gap 1) (curly_close s)) (λ u w. tt))) (λ u w. tt)))
    (λ u w. refl))) (λ u w. refl)) (λ u. tt))
    (groups_piece gr (valid_tail (valid_right of _ b))) (λ u w. tt))
    (λ y.
    let cs = y.0.1.1.1.0 in
    let long = same_length placeless_callback (cs.first ∷ cs.others) (x ∷ xs) cs.like in
    record {
      marked = said (codes "group") y.0.0 ∷ number_at g y.0.1.0 ∷ sign_at sign.OpenCurly y.0.1.1.0 ∷ (cs.marked ++ (sign_at sign.CloseCurly y.0.1.1.1.1 ∷ y.1.marked));
      tree = (cs.first ∷ cs.others) ∷ y.1.tree;
      rule = more_groups y.0.0 y.0.1.0 y.0.1.1.0 y.0.1.1.1.1 cs.marked y.1.marked h (subst (λ l. l ≤ BRANCHES) (sym long) few) cs.rule
          (subst (λ l. GroupsRule (suc g) (k + l) y.1.marked y.1.tree) (sym long) y.1.rule) refl;
      like = ap₂ (λ u us. u ∷ us) cs.like y.1.like;
    })
    (λ y.
    sym (ap (λ l. said (codes "group") y.0.0 ∷ number_at g y.0.1.0 ∷ sign_at sign.OpenCurly y.0.1.1.0 ∷ l)
    (append_assoc y.0.1.1.1.0.marked (sign_at sign.CloseCurly y.0.1.1.1.1 ∷ []) y.1.marked)))
    (e ∙ sym (ap (λ l. said (codes "group") p ∷ number_at g q ∷ sign_at sign.OpenCurly r ∷ l) (append_assoc of (sign_at sign.CloseCurly s ∷ []) more)))
    (ap (λ l. l ++ groups_text (suc g) (k + length (x ∷ xs)) gs) (headed 1 (codes "group " ++ decimal g) (numbered callback_text k (x ∷ xs))))

-- what a class gives
word_ends : (w : List ℕ) → AfterType w → Apart w
word_ends w (space v) = refl
word_ends w (closed v) = refl
word_ends w (semicolon v) = refl

result_piece : {m : List Marked} {t : TypeTree} → ResultRule Two m t → AllValid m → Piece {X = Again (ResultRule Two) t} (λ y. y.marked) m (type_text t) AfterType
result_piece (result r) v = as_rule (type_piece r v) (λ y. record { marked = y.marked; rule = result y.rule }) (λ y. refl) refl refl
result_piece (no_result p) v = under (as_rule (word_piece [] word.NoResult p) (λ x. record { marked = _; rule = no_result x }) (λ x. refl) refl refl) word_ends

-- a class
class_by : (k : ℕ) (h t n s l b g : List ℕ)
    → line k (h ++ codes " returns " ++ t ++ codes " params " ++ n ++ codes " {") ++ s ++ l ++ b ++ (g ++ line k (codes "}"))
    ≡ line k (h ++ (codes " returns " ++ (t ++ (codes " params " ++ (n ++ (32 ∷ (123 ∷ (10 ∷ (s ++ (l ++ (b ++ (g ++ (indent k ++ 125 ∷ [])))))))))))))
class_by k h t n s l b g = simp append_assoc refl

same_list : {A : Type 0} (xs ys : List A) → map (λ (z : A). z) xs ≡ map (λ (z : A). z) ys → xs ≡ ys
same_list xs ys e = sym (all_same xs) ∙ e ∙ all_same ys
  where
    all_same : {A : Type 0} (xs : List A) → map (λ (z : A). z) xs ≡ xs
    all_same [] = refl
    all_same (x ∷ xs) = ap (λ us. x ∷ us) (all_same xs)

pub class_piece : {m : List Marked} {c : ClassTree} → ClassRule Two m c → AllValid m → Piece {X = Kept placeless_class (ClassRule Two) c} (λ y. y.marked) m (class_text c) Any
class_piece (class {x = x} {t = t} {params = n} {ss = ss} {ls = ls} {b = b} {bs = bs} {gs = gs} p q r s u i w of slots locals blocks groups tr h sr lr br gr e) v =
    let a = subst AllValid e v in
    let typed = valid_tail (valid_tail (valid_tail a)) in
    let counted = valid_right of _ typed in
    let in_slots = valid_tail (valid_tail (valid_tail counted)) in
    let in_locals = valid_right slots _ in_slots in
    let in_blocks = valid_right locals _ in_locals in
    let in_groups = valid_right blocks _ in_blocks in
    as_rule
    (lined 0 (both (name_piece [] (codes "class") p (valid_head a)) (spaced (both (name_piece [] x q (valid_head (valid_tail a)))
    (spaced (both (name_piece [] (codes "returns") r (valid_head (valid_tail (valid_tail a)))) (spaced (both (result_piece tr (valid_left of _ typed))
    (spaced (both (name_piece [] (codes "params") s (valid_head counted)) (spaced (both (number_here u h) (spaced (both (curly_open i) (behind (blank 10 refl)
    (both (numbered_piece (λ z. z) SlotRule slot_text (λ z m c j k. slot_piece j k) sr (valid_left slots _ in_slots))
    (both (numbered_piece (λ z. z) LocalRule local_line (λ z m c j k. local_piece j k) lr (valid_left locals _ in_locals))
    (both (some_piece placeless_block (BlockRule Two) block_text (λ z m c j k. block_piece j k) br (valid_left blocks _ in_blocks))
    (both (groups_piece gr (valid_left groups _ in_groups)) (curly_close w)
    (λ z g. tt)) (λ z g. tt)) (λ z g. tt)) (λ z g. tt))) (λ z g. tt))) (λ z g. refl))) (λ z g. refl))) (λ z g. space _))) (λ z g. refl))) (λ z g. refl))) (λ z g. refl)) (λ z. tt))
    (λ y.
    let inner = y.1.1.1.1.1.1.1 in
    record {
      marked = _;
      tree = record {
        name = x;
        returns = t;
        params = n;
        slots = inner.0.tree;
        locals = inner.1.0.tree;
        blocks = inner.1.1.0.first ∷ inner.1.1.0.others;
        groups = inner.1.1.1.0.tree;
      };
      rule = class y.0 y.1.0 y.1.1.0 y.1.1.1.1.0 y.1.1.1.1.1.0 y.1.1.1.1.1.1.0 inner.1.1.1.1 y.1.1.1.0.marked inner.0.marked inner.1.0.marked inner.1.1.0.marked inner.1.1.1.0.marked
          y.1.1.1.0.rule h inner.0.rule inner.1.0.rule inner.1.1.0.rule inner.1.1.1.0.rule refl;
      like = λ j. record {
        name = x;
        returns = t;
        params = n;
        slots = same_list inner.0.tree ss inner.0.like j;
        locals = same_list inner.1.0.tree ls inner.1.0.like j;
        blocks = inner.1.1.0.like j;
        groups = inner.1.1.1.0.like j;
      };
    })
    (λ y. refl) e
    (class_by 0 (codes "class " ++ x) (type_text t) (decimal n) (numbered slot_text 0 ss) (numbered local_line 0 ls) (numbered block_text 0 (b ∷ bs)) (groups_text 1 0 gs))

pub classes_piece : {m : List Marked} {cs : List ClassTree} → ClassesRule Two m cs → AllValid m
    → Piece {X = Kept (map placeless_class) (ClassesRule Two) cs} (λ y. y.marked) m (all_text class_text cs) Any
classes_piece no_classes v = as_rule nothing (λ y. record { marked = _; tree = []; rule = no_classes; like = refl }) (λ y. refl) refl refl
classes_piece (more_classes first rest r s e) v =
    let a = subst AllValid e v in
    as_rule (both (class_piece r (valid_left first rest a)) (classes_piece s (valid_right first rest a)) (λ u g. tt))
    (λ y. record { marked = _; tree = y.0.tree ∷ y.1.tree; rule = more_classes y.0.marked y.1.marked y.0.rule y.1.rule refl; like = ap₂ (λ c cs. c ∷ cs) y.0.like y.1.like })
    (λ y. refl) e refl
