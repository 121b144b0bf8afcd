-- How great the classes of a class text can be: each thing of one has a token.
use Rattle.std.proofs.Common.{◌≡◌, ℕ, zero, suc, ◌+◌, ◌^◌, ◌≤◌, ◌<◌, List, [], ◌∷◌, ◌++◌, length, ap, arith, length-append}
use Rattle.std.specs.Prelude.{codes, slice_get}
use Rattle.std.specs.declared.option.Option.TheVariants.{Some}
use Rattle.flow_tree.specs.declared.token.Sign.TheVariants as sign
use Rattle.flow_tree.specs.Grammar.{sign_at}
use Rattle.flow_tree.specs.Tree.{TypeTree}
use Rattle.flow_tree.specs.Decls.{SlotTree}
use Rattle.flow_tree.specs.GrammarToken.{Marked}
use Rattle.flow_tree.proofs.GrammarLists.{length_spots}
use Rattle.flow_class.specs.Classes.{ClassTree, RawTree}
use Rattle.flow_classprint.specs.declared.version.Version.{Version}
use Rattle.flow_classprint.specs.ClassGrammar.{said, number_at, NumberedRule, none, next, SlotRule, slot, LocalRule, local, ClassRule, class, ClassesRule, no_classes, more_classes, text, TextRule, of_version}
use Rattle.flow_validate.specs.Sizes.{AreFew}
use Rattle.flow_classread.specs.declared.read.TheConstants.{CLASS_BYTES}
use Rattle.flow_classread.specs.ClassAnswer.{IsClassText, HaveSmallFrames}
use Rattle.flow_classread.proofs.RisingTokens.{no_more_than_bytes}

numbered_small : {A : Type 0} (rule : ℕ → List Marked → A → Type 0) → ((n : ℕ) (w : List Marked) (x : A) → rule n w x → 0 < length w)
    → (n : ℕ) (w : List Marked) (xs : List A) → NumberedRule rule n w xs → length xs ≤ length w
numbered_small rule some n w [] none = omega arith
numbered_small rule some n w (x ∷ xs) (next first rest r more e) =
    omega (arith, ap length e, length-append first rest, some n first x r, numbered_small rule some (suc n) rest xs more)

slot_small : (n : ℕ) (w : List Marked) (s : SlotTree) → SlotRule n w s → 0 < length w
slot_small n w s (slot p q r v of k t e) = omega (arith, ap length e)

local_small : (n : ℕ) (w : List Marked) (t : TypeTree) → LocalRule n w t → 0 < length w
local_small n w t (local p q r of k h e) = omega (arith, ap length e)

class_small : {version : Version} (w : List Marked) (c : ClassTree) → ClassRule version w c → length c.slots + length c.locals < length w
class_small w c (class {params = params} {ss = ss} {ls = ls} p q r s u v z of slots locals blocks groups t k a b d f e) =
    let x = numbered_small SlotRule slot_small 0 slots ss a in
    let y = numbered_small LocalRule local_small 0 locals ls b in
    let back = blocks ++ (groups ++ sign_at sign.CloseCurly z ∷ []) in
    let front = said (codes "params") s ∷ number_at params u ∷ sign_at sign.OpenCurly v ∷ (slots ++ (locals ++ back)) in
    omega (arith, ap length e, x, y, length-append of front, length-append slots (locals ++ back), length-append locals back)

classes_small : {v : Version} (w : List Marked) (cs : List ClassTree) → ClassesRule v w cs → length cs ≤ length w
classes_small w [] no_classes = omega arith
classes_small w (c ∷ cs) (more_classes first rest r more e) = omega (arith, ap length e, length-append first rest, class_small first c r, classes_small rest cs more)

each_small : {v : Version} (w : List Marked) (cs : List ClassTree) → ClassesRule v w cs → (k : ℕ) (c : ClassTree) → slice_get cs k ≡ Some c → length c.slots + length c.locals ≤ length w
each_small w [] no_classes k c h = cc
each_small w (c ∷ cs) (more_classes first rest r more e) zero d h =
    let same : c ≡ d = cc in
    omega (arith, ap length e, length-append first rest, class_small first c r, ap (λ (x : ClassTree). length x.slots + length x.locals) same)
each_small w (c ∷ cs) (more_classes first rest r more e) (suc k) d h = omega (arith, ap length e, length-append first rest, each_small rest cs more k d h)

text_small : (w : List Marked) (raw : RawTree) → TextRule w raw → (v : Version) × (cs : List Marked) × ClassesRule v cs raw.classes × (length cs < length w)
text_small w raw (of_version v (text p q heads classes h r e)) = (v, classes, r, omega (arith, ap length e, length-append heads classes))

module _ (bytes : List ℕ) (raw : RawTree) (t : IsClassText bytes raw) where
  tokens_small : length t.derives.marked ≤ CLASS_BYTES
  tokens_small = omega (arith, length_spots t.derives.marked, ap length t.derives.is, no_more_than_bytes bytes t.spots t.end t.lexes, t.short)

  pub few_classes : length raw.classes < 2 ^ 32
  few_classes = let x = text_small t.derives.marked raw t.derives.rule in omega (arith, classes_small x.1 raw.classes x.2, x.3, tokens_small)

  pub small_frames : HaveSmallFrames raw
  small_frames k c h = let x = text_small t.derives.marked raw t.derives.rule in omega (arith, each_small x.1 raw.classes x.2 k c h, x.3, tokens_small)

  pub few_places : AreFew raw.classes
  few_places k c h = record { slots = omega (arith, small_frames k c h); locals = omega (arith, small_frames k c h) }
