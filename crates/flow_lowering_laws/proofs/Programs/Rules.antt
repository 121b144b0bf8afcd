-- What the rules say of a body: its breaks stand in loops, its throws of nothing in catches, and each of its state variables
-- has a slot of its own.
use Rattle.std.proofs.Common.{◌≡◌, ℕ, ◌<◌, nat_lt, Bool, true, false, not, ◌&&◌, ◌||◌, cond, List, [], ◌∷◌, ◌++◌, length, position, slice_get, if◌then◌else◌, refl, ap, sym, subst, ◌∙◌, arith}
use Rattle.std.specs.List.{find, position_or_len}
use Rattle.std.specs.Str.{bytes_eq}
use Rattle.std.specs.Option.{option_and_then}
use Rattle.std.proofs.lemmas.List.{append-nil, append_assoc, map-append}
use Rattle.std.proofs.lemmas.List.Folds.{find_at}
use Rattle.std.proofs.lemmas.Option.{slice_get_within}
use Rattle.std.proofs.lemmas.Slice.Eq.{bytes_eq-Decides}
use Rattle.std.specs.declared.option.Option.{Option}
use Rattle.std.specs.declared.option.Option.TheVariants.{None, Some}
use Rattle.flow_base.specs.declared.place.Place.{Place}
use Rattle.flow_tree.specs.Tree.{TypeTree, ErrorType, ExprTree}
use Rattle.flow_tree.specs.Body.{IntoTree, Body, End, BlockStmt, IfStmt, IfElseStmt, WhileStmt, ForStmt, LoopStmt, BreakStmt, ContinueStmt, ReturnStmt, ThrowStmt, TryStmt, ChooseStmt, DeclareStmt, AssignStmt, ModifyStmt, CallStmt, WaitStmt, Branches, NoBranches, MoreBranches}
use Rattle.flow_tree.specs.Decls.{SlotTree}
use Rattle.flow_ast.specs.Slots.{body_slots, branch_slots, declared_slots, into_slots}
use Rattle.flow_ast.specs.TypingNames.{named}
use Rattle.flow_ast.specs.Typing.{or_else, is_there}
use Rattle.flow_rules.specs.declared.rule.SemanticRule.{SemanticRule}
use Rattle.flow_rules.specs.Least.{lesser, unless}
use Rattle.flow_rules.specs.Known.{is_predefined}
use Rattle.flow_rules.specs.Judged.{Setting}
use Rattle.flow_rules.specs.Items.{Env, item, with_var, with_states, in_loop, in_catch, slot_names, behind, if_state, declared, waited, written, among, fresh, state_here, into_fault, maybe_into, throw_fault, declare_fault, started, body_refusal, branch_refusal}
use Rattle.flow_rules.proofs.Lesser.{lesser_both, holds, no_item}
use Rattle.flow_tree.specs.Formed.{IsInit}
use Rattle.flow_lowering_laws.specs.Actors.Parts.{HasParts, HaveParts}
use Rattle.flow_lowering_laws.specs.Actors.InPlace.{NotAmong, naming_if, naming, naming_any, IsThrown, MayDeclare, MayTake, InPlace, AllInPlace}
use Rattle.flow_lowering_laws.specs.Actors.InPlace as place

-- what can't be
some_none : {A : Type 0} {x : A} → Some x ≡ None → ⊥
some_none h = cc

false_true : false ≡ true → ⊥
false_true h = cc

true_false : true ≡ false → ⊥
true_false h = cc

-- nothing is refused
pub neither : {A : Type 0} (a b : Option A) → or_else a b ≡ None → (a ≡ None) × (b ≡ None)
neither None b h = (refl, h)
neither (Some x) b h = absurd (some_none h)

not_there : {A : Type 0} (o : Option A) → is_there o ≡ false → o ≡ None
not_there None h = refl
not_there (Some x) h = cc

four : (a b c d : Bool) → not (a || b || c || d) ≡ true → (a ≡ false) × (d ≡ false)
four false false false false h = (refl, refl)
four true b c d h = absurd (false_true h)
four false true c d h = absurd (false_true h)
four false false true d h = absurd (false_true h)
four false false false true h = absurd (false_true h)

-- a new name is that of nothing in force, and a state variable's that of no slot before it
record New (vars : List (List ℕ × TypeTree)) (states : List (List ℕ)) (state : Bool) (x : List ℕ) : Type 0 where
  unknown : named vars x ≡ None
  first : state ≡ true → among states x ≡ false

is_new : (s : Setting) (states : List (List ℕ)) (state : Bool) (x : List ℕ) → fresh s states state x ≡ None → New s.vars states state x
is_new s states state x h =
    let r = four (is_there (named s.vars x)) (is_predefined x) (is_there (s.known x)) (state && among states x) (holds _ _ h) in
    record { unknown = not_there (named s.vars x) r.0; first = λ t. sym (ap (λ b. b && among states x) t) ∙ r.1 }

new_into : (s : Setting) (states : List (List ℕ)) (i : IntoTree) → into_fault s states i ≡ None → New s.vars states i.state i.name.name
new_into s states i h =
    let a = lesser_both (written s i.ty) (lesser (state_here s i.state) (fresh s states i.state i.name.name)) h in
    let b = lesser_both (state_here s i.state) (fresh s states i.state i.name.name) a.1 in
    is_new s states i.state i.name.name b.1

-- a name that one more row doesn't know
record Unknown (vars : List (List ℕ × TypeTree)) (y x : List ℕ) : Type 0 where
  before : named vars x ≡ None
  apart : bytes_eq x y ≡ false

last_unknown : (b : Bool) (t : TypeTree) → (if b then Some t else None) ≡ None → b ≡ false
last_unknown true t h = cc
last_unknown false t h = refl

row_unknown : (b : Bool) (t : TypeTree) (o : Option TypeTree) → (if b then Some t else o) ≡ None → (b ≡ false) × (o ≡ None)
row_unknown true t o h = absurd (some_none h)
row_unknown false t o h = (refl, h)

unknown_more : (vars : List (List ℕ × TypeTree)) (y x : List ℕ) (t : TypeTree) → named (vars ++ (y, t) ∷ []) x ≡ None → Unknown vars y x
unknown_more [] y x t h = record { before = refl; apart = last_unknown (bytes_eq x y) t h }
unknown_more (r ∷ vars) y x t h =
    let a = row_unknown (bytes_eq x r.0) r.1 (named (vars ++ (y, t) ∷ []) x) h in
    let b = unknown_more vars y x t a.1 in
    record { before = ap (λ z. if z then Some r.1 else named vars x) a.0 ∙ b.before; apart = b.apart }

-- the first slot of a name
either_false : (a b : Bool) → a || b ≡ false → (a ≡ false) × (b ≡ false)
either_false true b h = absurd (true_false h)
either_false false b h = (refl, h)

found_behind : (before more : List SlotTree) (s : SlotTree) (x : List ℕ) → among (slot_names before) x ≡ false → bytes_eq x s.name ≡ true
    → find (λ (t : SlotTree). bytes_eq x t.name) (before ++ s ∷ more) ≡ Some s
found_behind [] more s x h e = ap (λ b. cond b (Some s) (find (λ (t : SlotTree). bytes_eq x t.name) more)) e
found_behind (r ∷ before) more s x h e =
    let a = either_false (bytes_eq x r.name) (among (slot_names before) x) h in
    ap (λ b. cond b (Some r) (find (λ (t : SlotTree). bytes_eq x t.name) (before ++ s ∷ more))) a.0 ∙ found_behind before more s x a.1 e

found_at : (p : SlotTree → Bool) (xs : List SlotTree) (s : SlotTree) → find p xs ≡ Some s → option_and_then (slice_get xs) (position p xs) ≡ Some s
found_at p xs s h =
    let at : slice_get xs (position_or_len p xs) ≡ Some s = sym (find_at p xs) ∙ h in
    let within = slice_get_within xs (position_or_len p xs) s at in
    ap (λ b. option_and_then (slice_get xs) (cond b (Some (position_or_len p xs)) None)) (below (position_or_len p xs) (length xs) within) ∙ at
  where
    below : (m n : ℕ) → m < n → nat_lt m n ≡ true
    below m n h = grind arith

same_text : (x : List ℕ) → bytes_eq x x ≡ true
same_text x = (bytes_eq-Decides x x).1 refl

module _ (all_slots : List SlotTree) where
  -- Where statements stand: the variables in force know the locals xs, and the slots are those before, those that the
  -- statements declare, and those behind.
  pub record Stand (vars : List (List ℕ × TypeTree)) (states : List (List ℕ)) (xs : List (List ℕ)) (before mine behind_ : List SlotTree) : Type 0 where
    pub known : (x : List ℕ) → named vars x ≡ None → NotAmong xs x
    pub names : slot_names before ≡ states
    pub slots : all_slots ≡ before ++ (mine ++ behind_)

  first_of_two : (vars : List (List ℕ × TypeTree)) (states xs : List (List ℕ)) (before m n rest : List SlotTree) → Stand vars states xs before (m ++ n) rest → Stand vars states xs before m (n ++ rest)
  first_of_two vars states xs before m n rest s = record { known = s.known; names = s.names; slots = s.slots ∙ ap (λ l. before ++ l) (append_assoc m n rest) }

  second_of_two : (vars : List (List ℕ × TypeTree)) (states xs : List (List ℕ)) (before m n rest : List SlotTree) → Stand vars states xs before (m ++ n) rest
      → Stand vars (states ++ slot_names m) xs (before ++ m) n rest
  second_of_two vars states xs before m n rest s = record {
    known = s.known;
    names = map-append (λ (t : SlotTree). t.name) before m ∙ ap (λ l. l ++ slot_names m) s.names;
    slots = s.slots ∙ ap (λ l. before ++ l) (append_assoc m n rest) ∙ sym (append_assoc before m (n ++ rest));
  }

  regrouped : (vars : List (List ℕ × TypeTree)) (states xs : List (List ℕ)) (before m n o rest : List SlotTree) → Stand vars states xs before (m ++ n ++ o) rest
      → Stand vars states xs before (m ++ (n ++ o)) rest
  regrouped vars states xs before m n o rest s = record { known = s.known; names = s.names; slots = s.slots ∙ ap (λ l. before ++ (l ++ rest)) (append_assoc m n o) }

  -- with one more local
  with_local : (vars : List (List ℕ × TypeTree)) (states xs : List (List ℕ)) (before mine rest : List SlotTree) (y : List ℕ) (t : TypeTree) → Stand vars states xs before mine rest
      → Stand (vars ++ (y, t) ∷ []) states (y ∷ xs) before mine rest
  with_local vars states xs before mine rest y t s = record {
    known = λ x h. let u = unknown_more vars y x t h in (u.apart, s.known x u.before);
    names = s.names;
    slots = s.slots;
  }

  -- a declaration
  record Declares (vars : List (List ℕ × TypeTree)) (states xs : List (List ℕ)) (before m rest : List SlotTree) (i : IntoTree) : Type 0 where
    may : MayDeclare all_slots xs i
    stands : Stand (vars ++ (i.name.name, i.ty) ∷ []) (states ++ if_state i.state i.name.name) (naming i xs) (before ++ declared_slots i) m rest

  has_slot : (vars : List (List ℕ × TypeTree)) (states xs : List (List ℕ)) (before m rest : List SlotTree) (i : IntoTree) → New vars states i.state i.name.name
      → Stand vars states xs before (declared_slots i ++ m) rest → MayDeclare all_slots xs i
  has_slot vars states xs before m rest i n s t =
      let own : SlotTree = record { ty = i.ty; name = i.name.name } in
      let mine : declared_slots i ≡ own ∷ [] = ap (λ b. if b then own ∷ [] else []) t in
      let slots : all_slots ≡ before ++ (own ∷ (m ++ rest)) = s.slots ∙ ap (λ l. before ++ (l ++ m ++ rest)) mine in
      let none : among (slot_names before) i.name.name ≡ false = ap (λ l. among l i.name.name) s.names ∙ n.first t in
      record {
        apart = s.known i.name.name n.unknown;
        slot = found_at (λ (u : SlotTree). bytes_eq i.name.name u.name) all_slots own
            (ap (find (λ (u : SlotTree). bytes_eq i.name.name u.name)) slots ∙ found_behind before (m ++ rest) own i.name.name none (same_text i.name.name));
      }

  known_if : (b : Bool) (vars : List (List ℕ × TypeTree)) (xs : List (List ℕ)) (y : List ℕ) (t : TypeTree) → ((x : List ℕ) → named vars x ≡ None → NotAmong xs x) → (x : List ℕ)
      → named (vars ++ (y, t) ∷ []) x ≡ None → NotAmong (naming_if b y xs) x
  known_if true vars xs y t known x h = known x (unknown_more vars y x t h).before
  known_if false vars xs y t known x h = let u = unknown_more vars y x t h in (u.apart, known x u.before)

  names_if : (b : Bool) (s : SlotTree) → slot_names (if b then s ∷ [] else []) ≡ if_state b s.name
  names_if true s = refl
  names_if false s = refl

  declares : (s : Setting) (states xs : List (List ℕ)) (before m rest : List SlotTree) (i : IntoTree) → into_fault s states i ≡ None → Stand s.vars states xs before (declared_slots i ++ m) rest
      → Declares s.vars states xs before m rest i
  declares s states xs before m rest i h st =
      let two = second_of_two s.vars states xs before (declared_slots i) m rest st in
      record {
        may = has_slot s.vars states xs before m rest i (new_into s states i h) st;
        stands = record {
          known = known_if i.state s.vars xs i.name.name i.ty st.known;
          names = two.names ∙ ap (λ l. states ++ l) (names_if i.state (record { ty = i.ty; name = i.name.name }));
          slots = two.slots;
        };
      }

  record Takes (e : Env) (xs : List (List ℕ)) (before m rest : List SlotTree) (o : Option IntoTree) : Type 0 where
    may : MayTake all_slots xs o
    stands : Stand (waited e o).setting.vars (waited e o).states (naming_any o xs) (before ++ into_slots o) m rest

  takes : (e : Env) (xs : List (List ℕ)) (before m rest : List SlotTree) (o : Option IntoTree) → maybe_into e.setting e.states o ≡ None
      → Stand e.setting.vars e.states xs before (into_slots o ++ m) rest → Takes e xs before m rest o
  takes e xs before m rest None h st = record {
    may = tt;
    stands = record { known = st.known; names = ap slot_names (append-nil before) ∙ st.names; slots = st.slots ∙ ap (λ l. l ++ (m ++ rest)) (sym (append-nil before)) };
  }
  takes e xs before m rest (Some i) h st = let d = declares e.setting e.states xs before m rest i h st in record { may = d.may; stands = d.stands }

  waited_looped : (e : Env) (o : Option IntoTree) → (waited e o).looped ≡ e.looped
  waited_looped e None = refl
  waited_looped e (Some i) = refl

  waited_caught : (e : Env) (o : Option IntoTree) → (waited e o).caught ≡ e.caught
  waited_caught e None = refl
  waited_caught e (Some i) = refl

  -- the init of a `for`
  starts : (i : Body) (e : Env) (xs : List (List ℕ)) (before m rest : List SlotTree) → IsInit i → body_refusal e i ≡ None → Stand e.setting.vars e.states xs before (body_slots i ++ m) rest
      → Stand (started e i).setting.vars (started e i).states (place.started i xs) (before ++ body_slots i) m rest
  starts (DeclareStmt at i v End) e xs before m rest is h st =
      let a = neither (item at (declare_fault e.setting e.states i v)) None h in
      let b = lesser_both (into_fault e.setting e.states i) _ (no_item at _ a.0) in
      let alone = append-nil (declared_slots i) in
      let d = declares e.setting e.states xs before m rest i b.0 (subst (λ l. Stand e.setting.vars e.states xs before (l ++ m) rest) alone st) in
      subst (λ l. Stand (declared e i).setting.vars (declared e i).states (naming i xs) (before ++ l) m rest) (sym alone) d.stands
  starts End e xs before m rest is h st = second_of_two e.setting.vars e.states xs before [] m rest st
  starts (AssignStmt at ys v End) e xs before m rest is h st = second_of_two e.setting.vars e.states xs before [] m rest st
  starts (ModifyStmt at ys d End) e xs before m rest is h st = second_of_two e.setting.vars e.states xs before [] m rest st
  starts _ e xs before m rest is h st = absurd is

  started_looped : (e : Env) (i : Body) → IsInit i → (started e i).looped ≡ e.looped
  started_looped e (DeclareStmt at i v End) is = refl
  started_looped e End is = refl
  started_looped e (AssignStmt at ys v End) is = refl
  started_looped e (ModifyStmt at ys d End) is = refl
  started_looped e _ is = absurd is

  started_caught : (e : Env) (i : Body) → IsInit i → (started e i).caught ≡ e.caught
  started_caught e (DeclareStmt at i v End) is = refl
  started_caught e End is = refl
  started_caught e (AssignStmt at ys v End) is = refl
  started_caught e (ModifyStmt at ys d End) is = refl
  started_caught e _ is = absurd is

  is_thrown : (s : Setting) (c t : Bool) (v : Option ExprTree) → c ≡ t → throw_fault s c v ≡ None → IsThrown t v
  is_thrown s c t None e h = sym e ∙ holds _ _ h
  is_thrown s c t (Some v) e h = tt

  mutual
    pub in_place : (b : Body) (e : Env) (l t : Bool) (xs : List (List ℕ)) (before rest : List SlotTree) → HasParts b → body_refusal e b ≡ None → e.looped ≡ l → e.caught ≡ t
        → Stand e.setting.vars e.states xs before (body_slots b) rest → InPlace all_slots l t xs b
    in_place End e l t xs before rest p h el ec st = tt
    in_place (BlockStmt at b k) e l t xs before rest p h el ec st =
        let a = neither (body_refusal e b) _ h in (
          in_place b e l t xs before (body_slots k ++ rest) p.1 a.0 el ec (first_of_two e.setting.vars e.states xs before (body_slots b) (body_slots k) rest st),
          in_place k (behind e b) l t xs (before ++ body_slots b) rest p.2 a.1 el ec (second_of_two e.setting.vars e.states xs before (body_slots b) (body_slots k) rest st),
        )
    in_place (IfStmt at v b k) e l t xs before rest p h el ec st =
        let a = neither (body_refusal e b) _ (neither _ _ h).1 in (
          in_place b e l t xs before (body_slots k ++ rest) p.1 a.0 el ec (first_of_two e.setting.vars e.states xs before (body_slots b) (body_slots k) rest st),
          in_place k (behind e b) l t xs (before ++ body_slots b) rest p.2 a.1 el ec (second_of_two e.setting.vars e.states xs before (body_slots b) (body_slots k) rest st),
        )
    in_place (IfElseStmt at v b d k) e l t xs before rest p h el ec st =
        let a = neither (body_refusal e b) _ (neither _ _ h).1 in
        let c = neither (body_refusal (behind e b) d) _ a.1 in
        let s = regrouped e.setting.vars e.states xs before (body_slots b) (body_slots d) (body_slots k) rest st in
        let s2 = second_of_two e.setting.vars e.states xs before (body_slots b) (body_slots d ++ body_slots k) rest s in
        let f = behind e b in (
          in_place b e l t xs before (body_slots d ++ body_slots k ++ rest) p.1 a.0 el ec (first_of_two e.setting.vars e.states xs before (body_slots b) (body_slots d ++ body_slots k) rest s),
          in_place d f l t xs (before ++ body_slots b) (body_slots k ++ rest) p.2 c.0 el ec (first_of_two f.setting.vars f.states xs (before ++ body_slots b) (body_slots d) (body_slots k) rest s2),
          in_place k (behind f d) l t xs (before ++ body_slots b ++ body_slots d) rest p.3 c.1 el ec
              (second_of_two f.setting.vars f.states xs (before ++ body_slots b) (body_slots d) (body_slots k) rest s2),
        )
    in_place (WhileStmt at v b k) e l t xs before rest p h el ec st =
        let a = neither (body_refusal (in_loop e) b) _ (neither _ _ h).1 in (
          in_place b (in_loop e) true t xs before (body_slots k ++ rest) p.1 a.0 refl ec (first_of_two e.setting.vars e.states xs before (body_slots b) (body_slots k) rest st),
          in_place k (behind e b) l t xs (before ++ body_slots b) rest p.2 a.1 el ec (second_of_two e.setting.vars e.states xs before (body_slots b) (body_slots k) rest st),
        )
    in_place (LoopStmt at b k) e l t xs before rest p h el ec st =
        let a = neither (body_refusal (in_loop e) b) _ h in (
          in_place b (in_loop e) true t xs before (body_slots k ++ rest) p.1 a.0 refl ec (first_of_two e.setting.vars e.states xs before (body_slots b) (body_slots k) rest st),
          in_place k (behind e b) l t xs (before ++ body_slots b) rest p.2 a.1 el ec (second_of_two e.setting.vars e.states xs before (body_slots b) (body_slots k) rest st),
        )
    in_place (ForStmt at i v n b k) e l t xs before rest p h el ec st =
        let a = neither (body_refusal e i) _ h in
        let c = neither (body_refusal (started e i) n) _ (neither _ _ a.1).1 in
        let d = neither (body_refusal (in_loop (behind (started e i) n)) b) _ c.1 in
        let vars = e.setting.vars in
        let i1 = body_slots i in
        let n1 = body_slots n in
        let b1 = body_slots b in
        let k1 = body_slots k in
        let f = started e i in
        let ys = place.started i xs in
        let s = regrouped vars e.states xs before i1 n1 b1 (k1 ++ rest) (first_of_two vars e.states xs before (i1 ++ n1 ++ b1) k1 rest st) in
        let after = starts i e xs before (n1 ++ b1) (k1 ++ rest) p.0.0 a.0 s in
        let whole = regrouped vars e.states xs before i1 n1 (b1 ++ k1) rest (regrouped vars e.states xs before (i1 ++ n1) b1 k1 rest st) in
        let g = behind e i in
        let j = behind g n in
        let fl = started_looped e i p.0.0 ∙ el in
        let fc = started_caught e i p.0.0 ∙ ec in
        let s2 = second_of_two vars e.states xs before i1 (n1 ++ (b1 ++ k1)) rest whole in
        let s3 = second_of_two vars g.states xs (before ++ i1) n1 (b1 ++ k1) rest s2 in (
          in_place i e l t xs before (n1 ++ b1 ++ (k1 ++ rest)) p.1 a.0 el ec (first_of_two vars e.states xs before i1 (n1 ++ b1) (k1 ++ rest) s),
          in_place n f l t ys (before ++ i1) (b1 ++ (k1 ++ rest)) p.2 c.0 fl fc (first_of_two f.setting.vars f.states ys (before ++ i1) n1 b1 (k1 ++ rest) after),
          in_place b (in_loop (behind f n)) true t ys (before ++ i1 ++ n1) (k1 ++ rest) p.3 d.0 refl fc (second_of_two f.setting.vars f.states ys (before ++ i1) n1 b1 (k1 ++ rest) after),
          in_place k (behind j b) l t xs (before ++ i1 ++ n1 ++ b1) rest p.4 d.1 el ec (second_of_two vars j.states xs (before ++ i1 ++ n1) b1 k1 rest s3),
        )
    in_place (BreakStmt at k) e l t xs before rest p h el ec st =
        let a = neither _ (body_refusal e k) h in
        (sym el ∙ holds _ _ (no_item at _ a.0), in_place k e l t xs before rest p.1 a.1 el ec st)
    in_place (ContinueStmt at k) e l t xs before rest p h el ec st =
        let a = neither _ (body_refusal e k) h in
        (sym el ∙ holds _ _ (no_item at _ a.0), in_place k e l t xs before rest p.1 a.1 el ec st)
    in_place (ReturnStmt at v k) e l t xs before rest p h el ec st = in_place k e l t xs before rest p.1 (neither _ (body_refusal e k) h).1 el ec st
    in_place (ThrowStmt at v k) e l t xs before rest p h el ec st =
        let a = neither _ (body_refusal e k) h in
        (is_thrown e.setting e.caught t v ec (no_item at _ a.0), in_place k e l t xs before rest p.1 a.1 el ec st)
    in_place (TryStmt at b q x d k) e l t xs before rest p h el ec st =
        let a = neither (body_refusal e b) _ h in
        let f = behind e b in
        let c = neither (body_refusal (in_catch (with_var f x.name ErrorType)) d) _ (neither _ _ a.1).1 in
        let s = regrouped e.setting.vars e.states xs before (body_slots b) (body_slots d) (body_slots k) rest st in
        let s2 = second_of_two e.setting.vars e.states xs before (body_slots b) (body_slots d ++ body_slots k) rest s in
        let caught = with_local f.setting.vars f.states xs (before ++ body_slots b) (body_slots d) (body_slots k ++ rest) x.name ErrorType
        (first_of_two f.setting.vars f.states xs (before ++ body_slots b) (body_slots d) (body_slots k) rest s2) in (
          in_place b e l t xs before (body_slots d ++ body_slots k ++ rest) p.1 a.0 el ec (first_of_two e.setting.vars e.states xs before (body_slots b) (body_slots d ++ body_slots k) rest s),
          in_place d (in_catch (with_var f x.name ErrorType)) l true (x.name ∷ xs) (before ++ body_slots b) (body_slots k ++ rest) p.2 c.0 el refl caught,
          in_place k (behind f d) l t xs (before ++ body_slots b ++ body_slots d) rest p.3 c.1 el ec
              (second_of_two f.setting.vars f.states xs (before ++ body_slots b) (body_slots d) (body_slots k) rest s2),
        )
    in_place (ChooseStmt at bs k) e l t xs before rest p h el ec st =
        let a = neither (branch_refusal e bs) _ (neither _ _ h).1 in (
          all_in_place bs e l t xs before (body_slots k ++ rest) p.1 a.0 el ec (first_of_two e.setting.vars e.states xs before (branch_slots bs) (body_slots k) rest st),
          in_place k (with_states e (slot_names (branch_slots bs))) l t xs (before ++ branch_slots bs) rest p.2 a.1 el ec
              (second_of_two e.setting.vars e.states xs before (branch_slots bs) (body_slots k) rest st),
        )
    in_place (DeclareStmt at i v k) e l t xs before rest p h el ec st =
        let a = neither _ (body_refusal (declared e i) k) h in
        let b = lesser_both (into_fault e.setting e.states i) _ (no_item at _ a.0) in
        let d = declares e.setting e.states xs before (body_slots k) rest i b.0 st in
        (d.may, in_place k (declared e i) l t (naming i xs) (before ++ declared_slots i) rest p.1 a.1 el ec d.stands)
    in_place (AssignStmt at ys v k) e l t xs before rest p h el ec st = in_place k e l t xs before rest p.1 (neither _ (body_refusal e k) h).1 el ec st
    in_place (ModifyStmt at ys d k) e l t xs before rest p h el ec st = in_place k e l t xs before rest p.1 (neither _ (body_refusal e k) h).1 el ec st
    in_place (CallStmt at ys es k) e l t xs before rest p h el ec st = in_place k e l t xs before rest p.1 (neither _ (body_refusal e k) h).1 el ec st
    in_place (WaitStmt at w k) e l t xs before rest p h el ec st =
        let a = neither _ (body_refusal (waited e w.into) k) h in
        let b = lesser_both (maybe_into e.setting e.states w.into) _ (no_item at _ a.0) in
        let d = takes e xs before (body_slots k) rest w.into b.0 st in
        (d.may, in_place k (waited e w.into) l t (naming_any w.into xs) (before ++ into_slots w.into) rest p.1 a.1 (waited_looped e w.into ∙ el) (waited_caught e w.into ∙ ec) d.stands)

    all_in_place : (bs : Branches) (e : Env) (l t : Bool) (xs : List (List ℕ)) (before rest : List SlotTree) → HaveParts bs → branch_refusal e bs ≡ None → e.looped ≡ l → e.caught ≡ t
        → Stand e.setting.vars e.states xs before (branch_slots bs) rest → AllInPlace all_slots l t xs bs
    all_in_place NoBranches e l t xs before rest p h el ec st = tt
    all_in_place (MoreBranches at w b bs) e l t xs before rest p h el ec st =
        let a = neither _ _ h in
        let c = neither (body_refusal (waited e w.into) b) _ a.1 in
        let f = lesser_both (maybe_into e.setting e.states w.into) _ (no_item at _ a.0) in
        let mine = into_slots w.into in
        let s = regrouped e.setting.vars e.states xs before mine (body_slots b) (branch_slots bs) rest st in
        let d = takes e xs before (body_slots b ++ branch_slots bs) rest w.into f.0 s in
        let g = waited e w.into in (
          d.may,
          in_place b g l t (naming_any w.into xs) (before ++ mine) (branch_slots bs ++ rest) p.1 c.0 (waited_looped e w.into ∙ el) (waited_caught e w.into ∙ ec)
              (first_of_two g.setting.vars g.states (naming_any w.into xs) (before ++ mine) (body_slots b) (branch_slots bs) rest d.stands),
          all_in_place bs (with_states e (slot_names (mine ++ body_slots b))) l t xs (before ++ (mine ++ body_slots b)) rest p.2 c.1 el ec
              (second_of_two e.setting.vars e.states xs before (mine ++ body_slots b) (branch_slots bs) rest st),
        )
