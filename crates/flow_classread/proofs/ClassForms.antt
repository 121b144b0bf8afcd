-- Classes of class text.
use Rattle.std.proofs.Common.{◌≡◌, ℕ, ◌+◌, ◌≤◌, ◌<◌, List, [], ◌∷◌, ◌++◌, map, length, refl, sym, ap, ◌∙◌, subst, arith, ◌⊎◌, inl, inr}
use Rattle.std.specs.Prelude.{codes}
use Rattle.std.specs.declared.option.Option.{Option}
use Rattle.std.specs.declared.option.Option.TheVariants.{None, Some}
use Rattle.flow_base.specs.declared.place.Place.{Place}
use Rattle.flow_tree.specs.declared.limits.TheConstants.{OF_CLASS_TEXT}
use Rattle.flow_tree.specs.declared.token.Token.{Token}
use Rattle.flow_tree.specs.declared.token.Token.TheVariants as token
use Rattle.flow_tree.specs.declared.token.Word.TheVariants as word
use Rattle.flow_tree.specs.declared.token.Sign.TheVariants as sign
use Rattle.flow_tree.specs.declared.token.Tokens.{Tokens}
use Rattle.flow_tree.specs.declared.ty.Ident.{Ident}
use Rattle.flow_tree.specs.GrammarToken.{Marked}
use Rattle.flow_tree.specs.Grammar.{sign_at, word_at}
use Rattle.flow_parse.specs.Reading.{token_at, Tok, Named, Any, Reads}
use Rattle.flow_parse.specs.Follow.{NotBefore}
use Rattle.flow_parse.specs.Openers.{TypeToken}
use Rattle.flow_parse.proofs.Looking.{Looks, Back}
use Rattle.flow_parse.proofs.Begins.{Starts, starts_append, starts_looks, looks_is, type_starts}
use Rattle.flow_parse.proofs.Failing.{Inhabited}
use Rattle.flow_parse.proofs.Leaves.{Leaves, Link, Turns}
use Rattle.flow_parse.proofs.Leaves.{nothing, narrow}
use Rattle.flow_classread.specs.Parts.{Behind}
-- nothing stands there, or a token and a part
use Rattle.flow_tree.specs.Tree.{TypeTree, NothingType}
use Rattle.flow_tree.specs.Decls.{SlotTree}
use Rattle.flow_tree.specs.Grammar.{TypeRule}
use Rattle.flow_parse.proofs.Inhabitants.{some_type, some_named}
use Rattle.flow_parse.proofs.Leaves.{nothing, narrow, free, then_reads, means, become, tok_reads}
use Rattle.flow_class.specs.declared.class.Block.{Block}
use Rattle.flow_class.specs.Classes.{BlockTree, CallbackTree, ClassTree}
use Rattle.flow_class.specs.View.{block_of}
use Rattle.flow_classprint.specs.declared.version.Version.{Version}
use Rattle.flow_classprint.specs.declared.version.Version.TheVariants.{Two}
use Rattle.flow_classprint.specs.ClassGrammar.{said, number_at, IsNumber, NumberedRule, none, next, BlockRule, GroupsRule, no_groups, more_groups, SlotRule, slot, LocalRule, local, ResultRule, result, no_result, ClassRule, class, ClassesRule, no_classes, more_classes}
use Rattle.flow_classread.specs.Parts.{Behind, Closed, Both, NotFirst, Numbered, NumberPart, Blocks}
use Rattle.flow_classread.proofs.Combine.{some_behind, some_closed, some_both}
use Rattle.flow_classread.proofs.Single.{some_number}
use Rattle.flow_classread.proofs.Lists.{Cut, no_more, one_more, starts_not, not_before, not_first}
use Rattle.flow_classread.proofs.Words.{apart, name_no_sign}
use Rattle.flow_classread.proofs.Equal.{then_same, before_same, one_then, part_then}
use Rattle.flow_classread.proofs.BlockForms.{numbered_then, block_starts, some_block}

-- "slot" number type name ";"
abbrev pub SlotShape : ℕ → List Marked → Place × (TypeTree × Ident) → Type 0
SlotShape n = Both (Numbered (codes "slot") n) (Both (TypeRule 1) (Closed (token.Sign sign.Semicolon) Named))

abbrev pub slot_tree : Place × (TypeTree × Ident) → SlotTree
slot_tree x = record { ty = x.1.0; name = x.1.1.name }

some_slot_name : Inhabited (Closed (token.Sign sign.Semicolon) Named)
some_slot_name = some_closed (token.Sign sign.Semicolon) Named some_named

pub slot_type_link : Link (TypeRule 1) Any (λ t. Closed (token.Sign sign.Semicolon) Named) Any
slot_type_link = free (λ t. some_slot_name)

pub slot_number_link : (n : ℕ) → Link (Numbered (codes "slot") n) Any (λ p. Both (TypeRule 1) (Closed (token.Sign sign.Semicolon) Named)) Any
slot_number_link n = free (λ p. some_both (TypeRule 1) (Closed (token.Sign sign.Semicolon) Named) (some_type 1) some_slot_name)

pub slot_turns : (n : ℕ) (o : Option Token) → IsNumber n → Turns (SlotRule n) Any (SlotShape n) Any slot_tree o
slot_turns n o h = record {
  back = λ w z b r f l. of w z b r;
  forth = λ w x r.
      let c = r.back in
      let d = c.back in
      slot r.front.0 x.0 x.1.1.at d.0 c.first h c.front (numbered_then r.is r.front.3 r.front.2 (part_then c.first c.is (before_same _ d.3 d.2)));
}
  where
    of : (w z : List Marked) (b : SlotTree) → SlotRule n w b → Back (SlotRule n) Any (SlotShape n) Any slot_tree w z b
    of w z b (slot {t} {x} p q r s inner k ht e) = record {
      tree = (q, (t, record { name = x; at = r }));
      rule = record {
        first = said (codes "slot") p ∷ number_at n q ∷ [];
        rest = inner ++ (said x r ∷ sign_at sign.Semicolon s ∷ []);
        is = e;
        front = (p, number_at n q ∷ [], refl, refl);
        back = record { first = inner; rest = said x r ∷ sign_at sign.Semicolon s ∷ []; is = refl; front = ht; back = (s, said x r ∷ [], refl, refl) };
      };
      is = refl;
      follows = tt;
    }

pub slot_starts : (n : ℕ) (w : List Marked) (b : SlotTree) → SlotRule n w b → Starts (λ t. t ≡ token.Name (codes "slot")) w
slot_starts n w b (slot p q r s of k ht e) = subst (Starts (λ t. t ≡ token.Name (codes "slot"))) (sym e) refl

-- "local" number type ";"
abbrev pub LocalShape : ℕ → List Marked → Place × TypeTree → Type 0
LocalShape n = Both (Numbered (codes "local") n) (Closed (token.Sign sign.Semicolon) (TypeRule 1))

pub local_number_link : (n : ℕ) → Link (Numbered (codes "local") n) Any (λ p. Closed (token.Sign sign.Semicolon) (TypeRule 1)) Any
local_number_link n = free (λ p. some_closed (token.Sign sign.Semicolon) (TypeRule 1) (some_type 1))

pub local_turns : (n : ℕ) (o : Option Token) → IsNumber n → Turns (LocalRule n) Any (LocalShape n) Any (λ x. x.1) o
local_turns n o h = record {
  back = λ w z b r f l. of w z b r;
  forth = λ w x r. let d = r.back in local r.front.0 x.0 d.0 d.1 h d.2 (numbered_then r.is r.front.3 r.front.2 d.3);
}
  where
    of : (w z : List Marked) (b : TypeTree) → LocalRule n w b → Back (LocalRule n) Any (LocalShape n) Any (λ x. x.1) w z b
    of w z b (local p q r inner k ht e) = record {
      tree = (q, b);
      rule =
          record {
            first = said (codes "local") p ∷ number_at n q ∷ [];
            rest = inner ++ sign_at sign.Semicolon r ∷ [];
            is = e;
            front = (p, number_at n q ∷ [], refl, refl);
            back = (r, inner, ht, refl);
          };
      is = refl;
      follows = tt;
    }

pub local_starts : (n : ℕ) (w : List Marked) (b : TypeTree) → LocalRule n w b → Starts (λ t. t ≡ token.Name (codes "local")) w
local_starts n w b (local p q r of k ht e) = subst (Starts (λ t. t ≡ token.Name (codes "local"))) (sym e) refl

-- blocks, one at least
abbrev pub IsWord : List ℕ → Token → Type 0
IsWord w t = t ≡ token.Name w

pub some_blocks : (v : Version) → Inhabited (Blocks v)
some_blocks v =
    let b = some_block v 0 (omega arith) in
    record { marked = b.marked ++ []; tree = b.tree ∷ []; rule = (omega arith, next b.marked [] b.rule none refl) }

blocks_link : (v : Version) → Link (BlockRule v 0) Any (λ b. NumberedRule (BlockRule v) 1) (λ x. NotFirst (IsWord (codes "block")) x.1)
blocks_link v = free (λ b. record { marked = []; tree = []; rule = none })

blocks_turns : (v : Version) (o : Option Token)
    → Turns (Blocks v) (NotBefore (token.Name (codes "block"))) (Both (BlockRule v 0) (NumberedRule (BlockRule v) 1)) (λ x. NotFirst (IsWord (codes "block")) x.1) (λ x. x.0 ∷ x.1) o
blocks_turns v o = record { back = λ w z b r f l. of w z b r.0 f r.1; forth = λ w x r. (omega arith, next r.first r.rest r.front r.back r.is) }
  where
    of : (w z : List Marked) (b : List BlockTree) → 0 < length b → NotBefore (token.Name (codes "block")) b z → NumberedRule (BlockRule v) 0 w b
        → Back (Blocks v) (NotBefore (token.Name (codes "block"))) (Both (BlockRule v 0) (NumberedRule (BlockRule v) 1)) (λ x. NotFirst (IsWord (codes "block")) x.1) (λ x. x.0 ∷ x.1) w z b
    of w z b h f none = absurd (omega (arith, h))
    of w z b h f (next {x = x} {xs = xs} first rest r s e) =
        record { tree = (x, xs); rule = record { first = first; rest = rest; is = e; front = r; back = s }; is = refl; follows = not_before (token.Name (codes "block")) b xs z f }

module _ (t : Tokens) (at : ℕ) (within : at ≤ length t.spots.items) where
  pub blocks_left : (v : Version)
      → Leaves OF_CLASS_TEXT (Blocks v) (NotBefore (token.Name (codes "block"))) (Both (BlockRule v 0) (NumberedRule (BlockRule v) 1)) (λ x. NotFirst (IsWord (codes "block")) x.1) (λ x. x.0 ∷ x.1)
      t.spots.items at at
  blocks_left v =
      narrow OF_CLASS_TEXT t.spots.items refl (blocks_turns v (token_at t.spots.items at)) (nothing OF_CLASS_TEXT t.spots.items (Blocks v) (NotBefore (token.Name (codes "block"))) at within)

  pub first_block : (v : Version) → Link (BlockRule v 0) Any (λ b. NumberedRule (BlockRule v) 1) (λ x. NotFirst (IsWord (codes "block")) x.1)
  first_block v = blocks_link v

  pub blocks_init : (v : Version) (to n : ℕ) (bs : List Block) (b : Block) → n ≡ 1 → bs ≡ b ∷ [] → Reads OF_CLASS_TEXT (BlockRule v 0) Any t.spots.items at (block_of b) to
      → Leaves OF_CLASS_TEXT (Blocks v) (NotBefore (token.Name (codes "block"))) (NumberedRule (BlockRule v) n) (NotFirst (IsWord (codes "block"))) (λ ys. map block_of bs ++ ys) t.spots.items at to
  blocks_init v to n bs b e q r =
      subst (λ i. Leaves OF_CLASS_TEXT (Blocks v) (NotBefore (token.Name (codes "block"))) (NumberedRule (BlockRule v) i) (NotFirst (IsWord (codes "block"))) (λ ys. map block_of bs ++ ys) t.spots.items at to)
      (sym e) (means OF_CLASS_TEXT t.spots.items (λ ys. map block_of bs ++ ys) (λ ys. ap (λ z. map block_of z ++ ys) (sym q)) (then_reads OF_CLASS_TEXT t.spots.items (blocks_link v) (blocks_left v) r))

  -- a list whose items all begin with one word
  listed_turns : {A : Type 0} (L : List Marked → List A → Type 0) (x : Token) (o : Option Token) → Turns L (NotBefore x) L (NotFirst (λ t. t ≡ x)) (λ l. l) o
  listed_turns L x o = record { back = λ w z b r f l. record { tree = b; rule = r; is = refl; follows = not_before x b b z f }; forth = λ w l r. r }

  pub listed_left : {A X : Type 0} (L : ℕ → List Marked → List A → Type 0) (view : X → A) (x : Token) (n : ℕ) (xs : List X) → n ≡ 0 → xs ≡ []
      → Leaves OF_CLASS_TEXT (L 0) (NotBefore x) (L n) (NotFirst (λ t. t ≡ x)) (λ ys. map view xs ++ ys) t.spots.items at at
  listed_left L view x n xs e q = subst (λ i. Leaves OF_CLASS_TEXT (L 0) (NotBefore x) (L i) (NotFirst (λ t. t ≡ x)) (λ ys. map view xs ++ ys) t.spots.items at at) (sym e)
      (means OF_CLASS_TEXT t.spots.items (λ ys. map view xs ++ ys) (λ ys. ap (λ z. map view z ++ ys) (sym q))
      (narrow OF_CLASS_TEXT t.spots.items refl (listed_turns (L 0) x (token_at t.spots.items at)) (nothing OF_CLASS_TEXT t.spots.items (L 0) (NotBefore x) at within)))

-- "class" name "returns" result "params" number "{" slots locals blocks groups "}"
abbrev pub Slots : List Marked → List SlotTree → Type 0
Slots = NumberedRule SlotRule 0

abbrev pub Locals : List Marked → List TypeTree → Type 0
Locals = NumberedRule LocalRule 0

abbrev pub GroupsEnd : List Marked → List (List CallbackTree) → Type 0
GroupsEnd = Closed (token.Sign sign.CloseCurly) (GroupsRule 1 0)

abbrev pub AfterLocals : Version → List Marked → List BlockTree × List (List CallbackTree) → Type 0
AfterLocals v = Both (Blocks v) GroupsEnd

abbrev pub AfterSlots : Version → List Marked → List TypeTree × (List BlockTree × List (List CallbackTree)) → Type 0
AfterSlots v = Both Locals (AfterLocals v)

abbrev pub ClassBody : Version → List Marked → List SlotTree × (List TypeTree × (List BlockTree × List (List CallbackTree))) → Type 0
ClassBody v = Both Slots (AfterSlots v)

abbrev pub AfterParams : Version → List Marked → ℕ × (List SlotTree × (List TypeTree × (List BlockTree × List (List CallbackTree)))) → Type 0
AfterParams v = Both NumberPart (Behind (token.Sign sign.OpenCurly) (ClassBody v))

abbrev pub AfterReturns : Version → List Marked → TypeTree × (ℕ × (List SlotTree × (List TypeTree × (List BlockTree × List (List CallbackTree))))) → Type 0
AfterReturns v = Both (ResultRule v) (Behind (token.Name (codes "params")) (AfterParams v))

abbrev pub AfterClass : Version → List Marked → Ident × (TypeTree × (ℕ × (List SlotTree × (List TypeTree × (List BlockTree × List (List CallbackTree)))))) → Type 0
AfterClass v = Both Named (Behind (token.Name (codes "returns")) (AfterReturns v))

abbrev pub class_tree : Ident × (TypeTree × (ℕ × (List SlotTree × (List TypeTree × (List BlockTree × List (List CallbackTree)))))) → ClassTree
class_tree x = record { name = x.0.name; returns = x.1.0; params = x.1.1.0; slots = x.1.1.1.0; locals = x.1.1.1.1.0; blocks = x.1.1.1.1.1.0; groups = x.1.1.1.1.1.1 }

-- what a class gives: a type, or the word of none
pub some_result : (v : Version) → Inhabited (ResultRule v)
some_result v = let t = some_type 1 in record { marked = t.marked; tree = t.tree; rule = result t.rule }

type_no_word : TypeToken (token.Word word.NoResult) → ⊥
type_no_word h = h

pub word_turns : Turns (ResultRule Two) Any (Tok (token.Word word.NoResult)) Any (λ p. NothingType) (Some (token.Word word.NoResult))
word_turns = record { back = λ w z b r f l. of w z b r l; forth = λ w p r. subst (λ k. ResultRule Two k NothingType) (sym r) (no_result p) }
  where
    of : (w z : List Marked) (b : TypeTree) → ResultRule Two w b → Looks (Some (token.Word word.NoResult)) (w ++ z) → Back (ResultRule Two) Any (Tok (token.Word word.NoResult)) Any (λ p. NothingType) w z b
    of w z b (no_result p) l = record { tree = p; rule = refl; is = refl; follows = tt }
    of w z b (result t) l = absurd (type_no_word (starts_looks TypeToken w z (Some (token.Word word.NoResult)) (type_starts t) l))

pub word_reads : (t : Tokens) (at : ℕ) (v : Version) → v ≡ Two → token_at t.spots.items at ≡ Some (token.Word word.NoResult)
    → Reads OF_CLASS_TEXT (ResultRule v) Any t.spots.items at NothingType (at + 1)
word_reads t at v e f = subst (λ u. Reads OF_CLASS_TEXT (ResultRule u) Any t.spots.items at NothingType (at + 1)) (sym e)
    (become OF_CLASS_TEXT t.spots.items f word_turns (tok_reads OF_CLASS_TEXT t at (token.Word word.NoResult) f))

-- version 1 hasn't the word
pub type_turns : (v : Version) (o : Option Token) → (v ≡ Two → o ≡ Some (token.Word word.NoResult) → ⊥) → Turns (ResultRule v) Any (TypeRule 1) Any (λ t. t) o
type_turns v o nope = record { back = λ w z b r f l. record { tree = b; rule = of v refl w z b r l; is = refl; follows = tt }; forth = λ w t r. result r }
  where
    of : (u : Version) → v ≡ u → (w z : List Marked) (b : TypeTree) → ResultRule u w b → Looks o (w ++ z) → TypeRule 1 w b
    of u e w z b (result t) l = t
    of Two e w z b (no_result p) l = absurd (nope e (looks_is o (word_at word.NoResult p) [] z refl l))

some_groups_end : Inhabited GroupsEnd
some_groups_end = some_closed (token.Sign sign.CloseCurly) (GroupsRule 1 0) (record { marked = []; tree = []; rule = no_groups })

some_after_locals : (v : Version) → Inhabited (AfterLocals v)
some_after_locals v = some_both (Blocks v) GroupsEnd (some_blocks v) some_groups_end

some_after_slots : (v : Version) → Inhabited (AfterSlots v)
some_after_slots v = some_both Locals (AfterLocals v) (record { marked = []; tree = []; rule = none }) (some_after_locals v)

pub some_class_body : (v : Version) → Inhabited (ClassBody v)
some_class_body v = some_both Slots (AfterSlots v) (record { marked = []; tree = []; rule = none }) (some_after_slots v)

pub some_after_params : (v : Version) → Inhabited (AfterParams v)
some_after_params v = some_both NumberPart (Behind (token.Sign sign.OpenCurly) (ClassBody v)) some_number (some_behind (token.Sign sign.OpenCurly) (ClassBody v) (some_class_body v))

pub some_after_returns : (v : Version) → Inhabited (AfterReturns v)
some_after_returns v = some_both (ResultRule v) (Behind (token.Name (codes "params")) (AfterParams v)) (some_result v) (some_behind (token.Name (codes "params")) (AfterParams v) (some_after_params v))

pub some_after_class : (v : Version) → Inhabited (AfterClass v)
some_after_class v = some_both Named (Behind (token.Name (codes "returns")) (AfterReturns v)) some_named (some_behind (token.Name (codes "returns")) (AfterReturns v) (some_after_returns v))

pub class_name_link : (v : Version) → Link Named Any (λ x. Behind (token.Name (codes "returns")) (AfterReturns v)) Any
class_name_link v = free (λ x. some_behind (token.Name (codes "returns")) (AfterReturns v) (some_after_returns v))

pub class_type_link : (v : Version) → Link (ResultRule v) Any (λ t. Behind (token.Name (codes "params")) (AfterParams v)) Any
class_type_link v = free (λ t. some_behind (token.Name (codes "params")) (AfterParams v) (some_after_params v))

pub class_params_link : (v : Version) → Link NumberPart Any (λ n. Behind (token.Sign sign.OpenCurly) (ClassBody v)) Any
class_params_link v = free (λ n. some_behind (token.Sign sign.OpenCurly) (ClassBody v) (some_class_body v))

-- what stands first
after_blocks : (b : List (List CallbackTree)) (v : List Marked) → GroupsEnd v b → Starts (λ t. (t ≡ token.Name (codes "group")) ⊎ (t ≡ token.Sign sign.CloseCurly)) v
after_blocks b v r = of b r.0 r.1 r.2 r.3
  where
    of : (b : List (List CallbackTree)) (p : Place) (inner : List Marked) → GroupsRule 1 0 inner b → v ≡ inner ++ sign_at sign.CloseCurly p ∷ []
        → Starts (λ t. (t ≡ token.Name (codes "group")) ⊎ (t ≡ token.Sign sign.CloseCurly)) v
    of b p k no_groups e = subst (Starts (λ t. (t ≡ token.Name (codes "group")) ⊎ (t ≡ token.Sign sign.CloseCurly))) (sym e) (inr refl)
    of b p k (more_groups q r s u inner more hg le ns gs f) e =
        subst (Starts (λ t. (t ≡ token.Name (codes "group")) ⊎ (t ≡ token.Sign sign.CloseCurly))) (sym (e ∙ ap (λ y. y ++ sign_at sign.CloseCurly p ∷ []) f)) (inl refl)

blocks_first : (version : Version) (b : List BlockTree) (v : List Marked) → Blocks version v b → Starts (λ t. t ≡ token.Name (codes "block")) v
blocks_first version b v r = of b v r.0 r.1
  where
    of : (b : List BlockTree) (v : List Marked) → 0 < length b → NumberedRule (BlockRule version) 0 v b → Starts (λ t. t ≡ token.Name (codes "block")) v
    of b v h none = absurd (omega (arith, h))
    of b v h (next first rest r s e) = subst (Starts (λ t. t ≡ token.Name (codes "block"))) (sym e) (starts_append (λ t. t ≡ token.Name (codes "block")) first rest (block_starts version 0 first _ r))

after_locals : (version : Version) (x : List BlockTree × List (List CallbackTree)) (v : List Marked) → AfterLocals version v x → Starts (λ t. t ≡ token.Name (codes "block")) v
after_locals version x v r = subst (Starts (λ t. t ≡ token.Name (codes "block"))) (sym r.is) (starts_append (λ t. t ≡ token.Name (codes "block")) r.first r.rest (blocks_first version x.0 r.first r.front))

after_slots : (version : Version) (x : List TypeTree × (List BlockTree × List (List CallbackTree))) (v : List Marked) → AfterSlots version v x
    → Starts (λ t. (t ≡ token.Name (codes "local")) ⊎ (t ≡ token.Name (codes "block"))) v
after_slots version x v r = subst (Starts (λ t. (t ≡ token.Name (codes "local")) ⊎ (t ≡ token.Name (codes "block")))) (sym r.is) (of x.0 r.first r.front)
  where
    right : (w : List Marked) → Starts (λ t. t ≡ token.Name (codes "block")) w → Starts (λ t. (t ≡ token.Name (codes "local")) ⊎ (t ≡ token.Name (codes "block"))) w
    right [] h = h
    right (y ∷ w) h = inr h

    left : (w : List Marked) → Starts (λ t. t ≡ token.Name (codes "local")) w → Starts (λ t. (t ≡ token.Name (codes "local")) ⊎ (t ≡ token.Name (codes "block"))) w
    left [] h = h
    left (y ∷ w) h = inl h

    of : (ls : List TypeTree) (w : List Marked) → NumberedRule LocalRule 0 w ls → Starts (λ t. (t ≡ token.Name (codes "local")) ⊎ (t ≡ token.Name (codes "block"))) (w ++ r.rest)
    of ls w none = right r.rest (after_locals version x.1 r.rest r.back)
    of ls w (next first rest s u e) =
        left (w ++ r.rest) (starts_append (λ t. t ≡ token.Name (codes "local")) w r.rest
        (subst (Starts (λ t. t ≡ token.Name (codes "local"))) (sym e) (starts_append (λ t. t ≡ token.Name (codes "local")) first rest (local_starts 0 first _ s))))

no_block : (t : Token) → (t ≡ token.Name (codes "group")) ⊎ (t ≡ token.Sign sign.CloseCurly) → t ≡ token.Name (codes "block") → ⊥
no_block t (inl e) f = apart 0 (codes "group") (codes "block") refl (sym e ∙ f)
no_block t (inr e) f = name_no_sign (codes "block") sign.CloseCurly (sym f ∙ e)

no_local : (t : Token) → t ≡ token.Name (codes "block") → t ≡ token.Name (codes "local") → ⊥
no_local t e f = apart 0 (codes "block") (codes "local") refl (sym e ∙ f)

no_slot : (t : Token) → (t ≡ token.Name (codes "local")) ⊎ (t ≡ token.Name (codes "block")) → t ≡ token.Name (codes "slot") → ⊥
no_slot t (inl e) f = apart 0 (codes "local") (codes "slot") refl (sym e ∙ f)
no_slot t (inr e) f = apart 0 (codes "block") (codes "slot") refl (sym e ∙ f)

follow : {A : Type 0} (x : Token) (Q : Token → Type 0) (a : A) (v z : List Marked) → ((t : Token) → Q t → t ≡ x → ⊥) → Starts Q v → NotBefore x a (v ++ z)
follow x Q a v z f s = not_first x a a (v ++ z) (starts_not (λ t. t ≡ x) Q a v z f s)

pub slots_link : (version : Version) → Link Slots (NotBefore (token.Name (codes "slot"))) (λ s. AfterSlots version) Any
slots_link version = record {
  follows = λ a b v z s f. follow (token.Name (codes "slot")) (λ t. (t ≡ token.Name (codes "local")) ⊎ (t ≡ token.Name (codes "block"))) a v z no_slot (after_slots version b v s);
  more = λ s. some_after_slots version;
}

pub locals_link : (version : Version) → Link Locals (NotBefore (token.Name (codes "local"))) (λ s. AfterLocals version) Any
locals_link version = record {
  follows = λ a b v z s f. follow (token.Name (codes "local")) (λ t. t ≡ token.Name (codes "block")) a v z no_local (after_locals version b v s);
  more = λ s. some_after_locals version;
}

pub blocks_end_link : (version : Version) → Link (Blocks version) (NotBefore (token.Name (codes "block"))) (λ s. GroupsEnd) Any
blocks_end_link version = record {
  follows = λ a b v z s f. follow (token.Name (codes "block")) (λ t. (t ≡ token.Name (codes "group")) ⊎ (t ≡ token.Sign sign.CloseCurly)) a v z no_block (after_blocks b v s);
  more = λ s. some_groups_end;
}

class_of_blocks : {version : Version} {w : List Marked} (x : List ℕ) (t : TypeTree) (params : ℕ) (ss : List SlotTree) (ls : List TypeTree) (bs : List BlockTree) (gs : List (List CallbackTree))
    (p q r s u v k : Place) (of slots locals blocks groups : List Marked) → ResultRule version of t → IsNumber params → NumberedRule SlotRule 0 slots ss → NumberedRule LocalRule 0 locals ls → 0 < length bs
    → NumberedRule (BlockRule version) 0 blocks bs → GroupsRule 1 0 groups gs
    → w ≡ said (codes "class") p ∷ said x q ∷ said (codes "returns") r ∷ (of ++ (said (codes "params") s ∷ number_at params u
    ∷ sign_at sign.OpenCurly v ∷ (slots ++ (locals ++ (blocks ++ (groups ++ sign_at sign.CloseCurly k ∷ []))))))
    → ClassRule version w (record { name = x; returns = t; params = params; slots = ss; locals = ls; blocks = bs; groups = gs })
class_of_blocks x t params ss ls [] gs p q r s u v k of slots locals blocks groups ht hp hs hl lt hb hg e = absurd (omega (arith, lt))
class_of_blocks x t params ss ls (b ∷ bs) gs p q r s u v k of slots locals blocks groups ht hp hs hl lt hb hg e = class p q r s u v k of slots locals blocks groups ht hp hs hl hb hg e

pub class_turns : (version : Version) (o : Option Token) → Turns (ClassRule version) Any (Behind (token.Name (codes "class")) (AfterClass version)) Any class_tree o
class_turns version o = record {
  back = λ w z b r f l. of w z b r;
  forth = λ w x r.
      let a = r.2 in
      let b = a.back in
      let c = b.2 in
      let d = c.back in
      let e = d.2 in
      let f = e.back in
      let g = f.2 in
      let h = g.back in
      let i = h.back in
      let j = i.back in
      class_of_blocks x.0.name x.1.0 x.1.1.0 x.1.1.1.0 x.1.1.1.1.0 x.1.1.1.1.1.0 x.1.1.1.1.1.1 r.0 x.0.at b.0 d.0 e.front.0 f.0 j.0 c.first g.first h.first i.first j.1 c.front e.front.1 g.front
      h.front
      i.front.0 i.front.1 j.2
      (then_same r.3 (one_then a.is a.front (then_same b.3 (part_then c.first c.is (then_same d.3 (one_then e.is e.front.2 (then_same f.3
      (part_then g.first g.is (part_then h.first h.is (part_then i.first i.is j.3))))))))));
}
  where
    of : (w z : List Marked) (b : ClassTree) → ClassRule version w b → Back (ClassRule version) Any (Behind (token.Name (codes "class")) (AfterClass version)) Any class_tree w z b
    of w z b0 (class {x} {t} {params} {ss} {ls} {b} {bs} {gs} p q r s u v k inner slots locals blocks groups ht hp hs hl hb hg e) =
        let end = groups ++ sign_at sign.CloseCurly k ∷ [] in
        let body = slots ++ (locals ++ (blocks ++ end)) in
        let counted = number_at params u ∷ sign_at sign.OpenCurly v ∷ body in
        record {
          tree = (record { name = x; at = q }, (t, (params, (ss, (ls, (b ∷ bs, gs))))));
          rule = (
            p,
            said x q ∷ said (codes "returns") r ∷ (inner ++ (said (codes "params") s ∷ counted)),
            record {
              first = said x q ∷ [];
              rest = said (codes "returns") r ∷ (inner ++ (said (codes "params") s ∷ counted));
              is = refl;
              front = refl;
              back = (
                r,
                inner ++ (said (codes "params") s ∷ counted),
                record {
                  first = inner;
                  rest = said (codes "params") s ∷ counted;
                  is = refl;
                  front = ht;
                  back = (
                    s,
                    counted,
                    record {
                      first = number_at params u ∷ [];
                      rest = sign_at sign.OpenCurly v ∷ body;
                      is = refl;
                      front = (u, hp, refl);
                      back = (
                        v,
                        body,
                        record {
                          first = slots;
                          rest = locals ++ (blocks ++ end);
                          is = refl;
                          front = hs;
                          back =
                              record {
                                first = locals;
                                rest = blocks ++ end;
                                is = refl;
                                front = hl;
                                back = record
                                    { first = blocks; rest = end; is = refl; front = (omega arith, hb); back = (k, groups, hg, refl) };
                              };
                        },
                        refl,
                      );
                    },
                    refl,
                  );
                },
                refl,
              );
            },
            e,
          );
          is = refl;
          follows = tt;
        }

pub class_starts : (version : Version) (n : ℕ) (w : List Marked) (b : ClassTree) → ClassRule version w b → Starts (λ t. t ≡ token.Name (codes "class")) w
class_starts version n w b (class p q r s u v k of slots locals blocks groups ht hp hs hl hb hg e) = subst (Starts (λ t. t ≡ token.Name (codes "class"))) (sym e) refl

pub some_class : (version : Version) → Inhabited (ClassRule version)
some_class version =
    let y = some_behind (token.Name (codes "class")) (AfterClass version) (some_after_class version) in
    record { marked = y.marked; tree = class_tree y.tree; rule = (let u = class_turns version None in u.forth y.marked y.tree y.rule) }

-- classes one after another
pub classes_cut : (version : Version) (n : ℕ) (w : List Marked) (l : List ClassTree) → ClassesRule version w l → Cut (λ k. ClassRule version) (λ k. ClassesRule version) n w l
classes_cut version n w l no_classes = no_more refl refl
classes_cut version n w l (more_classes {c} {cs} first rest r s e) = one_more c cs first rest r s e refl
