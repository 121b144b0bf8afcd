-- Classes that can be written are derived by some tokens, and so is a text of them.
use Rattle.std.proofs.Common.{◌≡◌, ℕ, suc, ◌+◌, List, [], ◌∷◌, ◌++◌, length, refl, sym, subst, arith}
use Rattle.std.specs.Prelude.{codes}
use Rattle.std.specs.List.{AllByRecursion}
use Rattle.flow_tree.specs.declared.token.Sign.TheVariants as sign
use Rattle.flow_tree.specs.Tree.{TypeTree}
use Rattle.flow_tree.specs.Decls.{SlotTree, RecordTree, RoutineTree}
use Rattle.flow_tree.specs.GrammarToken.{Marked}
use Rattle.flow_class.specs.Classes.{BlockTree, CallbackTree, ClassTree, RawTree}
use Rattle.flow_classprint.specs.declared.version.Version.TheVariants.{Two}
use Rattle.flow_classprint.specs.ClassGrammar as rules
use Rattle.flow_classprint.specs.ClassGrammar.{IsNumber, NumberedRule, CallbackRule, GroupsRule, SlotRule, LocalRule, BlockRule, ClassRule, ClassesRule, IsWritten}
use Rattle.flow_class_text_laws.proofs.Writable.{Derived, TypeWritable, CallbackWritable, GroupWritable, SlotWritable, SomeBlocks, BlockWritable, FewFrom, all_callbacks, ClassWritable, IsWritable}
use Rattle.flow_class_text_laws.proofs.Spelled.{AreTokens, sign_spelled, said_spelled, number_spelled, both_are, said_params, said_classes, said_class, said_returns, said_slot, said_local, said_group, are_spelled, are_kept}
use Rattle.flow_class_text_laws.proofs.Written.{p, block_written, callback_written}

next_few : {A : Type 0} (n : ℕ) (xs : List A) → FewFrom (n + 1) xs → FewFrom (suc n) xs
next_few n xs h = let same : n + 1 ≡ suc n = omega arith in subst (λ k. FewFrom k xs) same h

-- numbered things
numbered : {A : Type 0} (rule : ℕ → List Marked → A → Type 0) (Fits : A → Type 0) → ((n : ℕ) → IsNumber n → (x : A) → Fits x → Derived (λ ts. rule n ts x))
    → (n : ℕ) (xs : List A) → FewFrom n xs → AllByRecursion Fits xs → Derived (λ ts. NumberedRule rule n ts xs)
numbered rule Fits each n [] few h = record { tokens = []; rule = rules.none; are = tt }
numbered rule Fits each n (x ∷ xs) few h =
    let first = each n few.0 x h.0 in
    let rest = numbered rule Fits each (suc n) xs (next_few n xs few.1) h.1 in
    record { tokens = first.tokens ++ rest.tokens; rule = rules.next first.tokens rest.tokens first.rule rest.rule refl; are = both_are first.tokens rest.tokens first.are rest.are }

slot_written : (n : ℕ) → IsNumber n → (s : SlotTree) → SlotWritable s → Derived (λ ts. SlotRule n ts s)
slot_written n small s h = record {
  tokens = _;
  rule = rules.slot p p p p h.0.tokens small h.0.rule refl;
  are = ((said_spelled (codes "slot") said_slot, tt), ((number_spelled n small, tt), both_are h.0.tokens _ h.0.are ((h.1, tt), ((sign_spelled sign.Semicolon, tt), tt))));
}

local_written : (n : ℕ) → IsNumber n → (t : TypeTree) → TypeWritable t → Derived (λ ts. LocalRule n ts t)
local_written n small t h = record {
  tokens = _;
  rule = rules.local p p p h.tokens small h.rule refl;
  are = ((said_spelled (codes "local") said_local, tt), ((number_spelled n small, tt), both_are h.tokens _ h.are ((sign_spelled sign.Semicolon, tt), tt)));
}

-- groups: their callbacks are numbered through
few_front : {A : Type 0} (n : ℕ) (xs ys : List A) → FewFrom n (xs ++ ys) → FewFrom n xs
few_front n [] ys h = tt
few_front n (x ∷ xs) ys h = (h.0, few_front (n + 1) xs ys h.1)

few_back : {A : Type 0} (n : ℕ) (xs ys : List A) → FewFrom n (xs ++ ys) → FewFrom (n + length xs) ys
few_back n [] ys h = let same : n ≡ n + 0 = omega arith in subst (λ k. FewFrom k ys) same h
few_back n (x ∷ xs) ys h =
    let same : n + 1 + length xs ≡ n + length (x ∷ xs) = omega arith in subst (λ k. FewFrom k ys) same (few_back (n + 1) xs ys h.1)

groups_written : (g k : ℕ) (gs : List (List CallbackTree)) → FewFrom g gs → FewFrom k (all_callbacks gs) → AllByRecursion GroupWritable gs → Derived (λ ts. GroupsRule g k ts gs)
groups_written g k [] few calls h = record { tokens = []; rule = rules.no_groups; are = tt }
groups_written g k ([] ∷ gs) few calls h = absurd h.0
groups_written g k ((c ∷ cs) ∷ gs) few calls h =
    let of = numbered CallbackRule CallbackWritable callback_written k (c ∷ cs) (few_front k (c ∷ cs) (all_callbacks gs) calls) h.0.1 in
    let more = groups_written (suc g) (k + length (c ∷ cs)) gs (next_few g gs few.1) (few_back k (c ∷ cs) (all_callbacks gs) calls) h.1 in
    record {
      tokens = _;
      rule = rules.more_groups p p p p of.tokens more.tokens few.0 h.0.0 of.rule more.rule refl;
      are = (
        (said_spelled (codes "group") said_group, tt),
        (
          (number_spelled g few.0, tt),
          ((sign_spelled sign.OpenCurly, tt), both_are of.tokens _ of.are ((sign_spelled sign.CloseCurly, tt), more.are)),
        ),
      );
    }

some_blocks : (bs : List BlockTree) → SomeBlocks bs → (b : BlockTree) × (cs : List BlockTree) × (bs ≡ b ∷ cs) × AllByRecursion BlockWritable (b ∷ cs)
some_blocks [] h = absurd h
some_blocks (b ∷ bs) h = (b, bs, refl, h)

class_written : (c : ClassTree) → ClassWritable c → Derived (λ ts. ClassRule Two ts c)
class_written c h =
    let some = some_blocks c.blocks h.blocks in
    let slots = numbered SlotRule SlotWritable slot_written 0 c.slots h.few_slots h.slots in
    let locals = numbered LocalRule TypeWritable local_written 0 c.locals h.few_locals h.locals in
    let blocks = numbered (BlockRule Two) BlockWritable block_written 0 (some.0 ∷ some.1) (subst (FewFrom 0) some.2 h.few_blocks) some.3 in
    let groups = groups_written 1 0 c.groups h.few_groups h.few_callbacks h.groups in
    subst (λ bs. Derived (λ ts. ClassRule Two ts (record c { blocks = bs }))) (sym some.2) (record {
      tokens = _;
      rule = rules.class p p p p p p p h.returns.tokens slots.tokens locals.tokens blocks.tokens groups.tokens h.returns.rule h.params slots.rule locals.rule blocks.rule groups.rule refl;
      are = (
        (said_spelled (codes "class") said_class, tt),
        (
          (h.name, tt),
          (
            (said_spelled (codes "returns") said_returns, tt),
            both_are h.returns.tokens _ h.returns.are (
              (said_spelled (codes "params") said_params, tt),
              (
                (number_spelled c.params h.params, tt),
                (
                  (sign_spelled sign.OpenCurly, tt),
                  both_are slots.tokens _ slots.are
                      (both_are locals.tokens _ locals.are (both_are blocks.tokens _ blocks.are (both_are groups.tokens _ groups.are ((sign_spelled sign.CloseCurly, tt), tt)))),
                ),
              ),
            ),
          ),
        ),
      );
    })

-- records before functions, each in its order
functions_written : (fs : List RoutineTree) → AllByRecursion (λ f. Derived (λ ts. rules.HeadFunctionRule Two ts f)) fs → Derived (λ ts. rules.HeadsRule Two ts [] fs)
functions_written [] h = record { tokens = []; rule = rules.no_heads; are = tt }
functions_written (f ∷ fs) h =
    let rest = functions_written fs h.1 in
    record {
      tokens = h.0.tokens ++ rest.tokens;
      rule = rules.more_functions h.0.tokens rest.tokens h.0.rule rest.rule refl;
      are = both_are h.0.tokens rest.tokens h.0.are rest.are;
    }

heads_written : (rs : List RecordTree) (fs : List RoutineTree) → AllByRecursion (λ r. Derived (λ ts. rules.HeadRecordRule ts r)) rs
    → AllByRecursion (λ f. Derived (λ ts. rules.HeadFunctionRule Two ts f)) fs → Derived (λ ts. rules.HeadsRule Two ts rs fs)
heads_written [] fs h g = functions_written fs g
heads_written (r ∷ rs) fs h g =
    let rest = heads_written rs fs h.1 g in
    record {
      tokens = h.0.tokens ++ rest.tokens;
      rule = rules.more_records h.0.tokens rest.tokens h.0.rule rest.rule refl;
      are = both_are h.0.tokens rest.tokens h.0.are rest.are;
    }

classes_written : (cs : List ClassTree) → AllByRecursion ClassWritable cs → Derived (λ ts. ClassesRule Two ts cs)
classes_written [] h = record { tokens = []; rule = rules.no_classes; are = tt }
classes_written (c ∷ cs) h =
    let first = class_written c h.0 in
    let rest = classes_written cs h.1 in
    record {
      tokens = first.tokens ++ rest.tokens;
      rule = rules.more_classes first.tokens rest.tokens first.rule rest.rule refl;
      are = both_are first.tokens rest.tokens first.are rest.are;
    }

pub text_written : (raw : RawTree) → IsWritable raw → IsWritten raw
text_written raw h =
    let heads = heads_written raw.records raw.functions h.records h.functions in
    let classes = classes_written raw.classes h.classes in
    let two : IsNumber 2 = omega arith in
    let tokens = rules.said (codes "classes") p ∷ rules.number_at 2 p ∷ (heads.tokens ++ classes.tokens) in
    let are : AreTokens tokens =
    ((said_spelled (codes "classes") said_classes, tt), ((number_spelled 2 two, tt), both_are heads.tokens _ heads.are classes.are)) in
    record {
      tokens = tokens;
      rule = rules.text p p heads.tokens classes.tokens heads.rule classes.rule refl;
      spelled = are_spelled tokens are;
      keeps = are_kept tokens are;
    }
