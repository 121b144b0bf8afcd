-- What holds of the blocks of a chunk holds of the blocks that chunks are joined to.
use Rattle.std.proofs.Common.{◌≡◌, ℕ, suc, ◌+◌, ◌^◌, ◌<◌, ◌≤◌, Bool, true, false, ◌&&◌, nat_lt, List, [], ◌∷◌, ◌++◌, length, map, refl, ap, sym, subst, ◌∙◌, arith, length-append}
use Rattle.std.specs.List.{list_all}
use Rattle.std.specs.declared.option.Option.{Option}
use Rattle.std.specs.declared.option.Option.TheVariants.{None, Some}
use Rattle.flow_tree.specs.Tree.{ErrorType, ExprTree}
use Rattle.flow_ast.specs.Typing.{is_there}
use Rattle.flow_class.specs.declared.class.Slotted.TheVariants as place
use Rattle.flow_class.specs.Classes.{InstrTree, DropInstr, LastTree, GotoLast, PassLast, TestLast, BlockTree, ClassTree}
use Rattle.flow_class.specs.Code.{type_at}
use Rattle.flow_class.specs.Scopes.{Scope}
use Rattle.flow_valid.specs.Named.{last_places, has_place, has_last, has_catcher, has_named, has_operand}
use Rattle.flow_valid.specs.Validity.{leads_on, is_of, catches}
use Rattle.flow_catch.specs.Inner.{left_lists}
use Rattle.flow_split.specs.Around.{Hand, Around}
use Rattle.flow_split.specs.Counts.{Next, exit_blocks}
use Rattle.flow_split.specs.Lowered.{Chunk, catch_part, block_with, blocks_of, joined, ends, acting, drop_of, dropping, exits}
use Rattle.flow_validity_laws.proofs.Naming.{both, all_both, less_is, Falling, Falls, inner_falls, falls_distinct, falls_there, AllInstrsNamed, drop_named, left_named}

module _ (c : ClassTree) (few_slots : length c.slots < 2 ^ 64) (few_locals : length c.locals < 2 ^ 64) where
  -- a block with this number names what there is, leads on, and catches further on
  pub record Sound (m : ℕ) (b : BlockTree) : Type 0 where
    pub named : has_named c b ≡ true
    pub on : leads_on m b.last ≡ true
    pub caught : catches c m b.catcher ≡ true

  abbrev pub AllSound : ℕ → List BlockTree → Type 0
  AllSound n [] = Unit {0}
  AllSound n (b ∷ bs) = Sound n b × AllSound (suc n) bs

  pub sound_append : (n k : ℕ) (xs ys : List BlockTree) → n + length xs ≡ k → AllSound n xs → AllSound k ys → AllSound n (xs ++ ys)
  sound_append n k [] ys e h j = subst (λ z. AllSound z ys) (sym (omega (arith, e))) j
  sound_append n k (x ∷ xs) ys e h j = (h.0, sound_append (suc n) k xs ys (omega (arith, e)) h.1 j)

  -- A chunk in block m, with its further blocks from n up to k.
  pub record Good (m n k : ℕ) (ch : Chunk) : Type 0 where
    pub body : AllInstrsNamed c few_slots few_locals ch.body
    pub last : has_last c ch.last ≡ true
    pub on : leads_on m ch.last ≡ true
    pub held : Falls (length c.locals) ch.held
    pub more : AllSound n ch.more
    pub size : n + length ch.more ≡ k
    pub groups : list_all (list_all (has_operand c)) ch.groups ≡ true

  pub good_up_to : (m n k j : ℕ) (ch : Chunk) → k ≡ j → Good m n k ch → Good m n j ch
  good_up_to m n k j ch e g = record { body = g.body; last = g.last; on = g.on; held = g.held; more = g.more; size = g.size ∙ e; groups = g.groups }

  -- a handler stands from block e on, and takes an error
  abbrev pub HandGood : ℕ → Option Hand → Type 0
  HandGood e None = Unit {0}
  HandGood e (Some h) = (e ≤ h.block) × (h.block < length c.blocks) × (type_at c (place.Local h.error) ≡ Some ErrorType)

  pub hand_less : (e f : ℕ) (h : Option Hand) → f ≤ e → HandGood e h → HandGood f h
  hand_less e f None le h = tt
  hand_less e f (Some k) le h = (omega (arith, h.0), h.1, h.2)

  record Caught (m : ℕ) (a : Bool) (h : Option Hand) (held : List ℕ) : Type 0 where
    named : has_catcher c (catch_part a h held) ≡ true
    kept : catches c m (catch_part a h held) ≡ true

  caught_part : (e m : ℕ) (a : Bool) (h : Option Hand) (held : List ℕ) → HandGood e h → m < e → Falls (length c.locals) held → Caught m a h held
  caught_part e m true None held g lt f = record { named = refl; kept = refl }
  caught_part e m false h held g lt f = record { named = refl; kept = refl }
  caught_part e m true (Some h) held g lt f = record {
    named = both (nat_lt h.block (length c.blocks)) _ (less_is h.block (length c.blocks) g.1)
        (both (has_place c (place.Local h.error)) _ (ap is_there g.2) (falls_there c few_slots few_locals (length c.locals) held (omega arith) f));
    kept = both (nat_lt m h.block && is_of ErrorType (type_at c (place.Local h.error))) _
        (both (nat_lt m h.block) _ (less_is m h.block (omega (arith, g.0))) (ap (is_of ErrorType) g.2)) (falls_distinct (length c.locals) held f);
  }

  pub block_sound : (e m n k : ℕ) (h : Option Hand) (ch : Chunk) → HandGood e h → m < e → Good m n k ch → Sound m (block_with h ch)
  block_sound e m n k h ch hand lt g =
      let q = caught_part e m ch.acts h ch.held hand lt g.held in
      record {
        named = both (has_catcher c (catch_part ch.acts h ch.held) && _) (has_last c ch.last) (both (has_catcher c (catch_part ch.acts h ch.held)) _ q.named g.body) g.last;
        on = g.on;
        caught = q.kept;
      }

  pub joined_good : (e m n k j : ℕ) (h : Option Hand) (a b : Chunk) → HandGood e h → k < e → Good m n k a → Good k (suc k) j b → Good m n j (joined h a b)
  joined_good e m n k j h a b hand lt f g = record {
    body = f.body;
    last = f.last;
    on = f.on;
    held = f.held;
    more = sound_append n k a.more (blocks_of h b) f.size f.more (block_sound e k (suc k) j h b hand lt g, g.more);
    size = omega (arith, f.size, g.size, length-append a.more (blocks_of h b));
    groups = all_both (list_all (has_operand c)) a.groups b.groups f.groups g.groups;
  }

  pub acting_good : (m n k : ℕ) (is : List InstrTree) (ch : Chunk) → AllInstrsNamed c few_slots few_locals is → Good m n k ch → Good m n k (acting is ch)
  acting_good m n k is ch h g = record {
    body = all_both _ is ch.body h g.body;
    last = g.last;
    on = g.on;
    held = g.held;
    more = g.more;
    size = g.size;
    groups = g.groups;
  }

  pub dropping_good : (m n k : ℕ) (ns : List ℕ) (ch : Chunk) → Falls (length c.locals) ns → Good m n k ch → Good m n k (dropping ns ch)
  dropping_good m n k ns ch f g = record {
    body = all_both _ (drop_of ns) ch.body (drop_named c few_slots few_locals (length c.locals) ns (omega arith) f) g.body;
    last = g.last;
    on = g.on;
    held = g.held;
    more = g.more;
    size = g.size;
    groups = g.groups;
  }

  -- a last instruction in block m names what there is, and leads on
  pub record LastGood (m : ℕ) (l : LastTree) : Type 0 where
    pub named : has_last c l ≡ true
    pub on : leads_on m l ≡ true

  pub ends_good : (m n : ℕ) (w : Around) (s : Scope) (acts : Bool) (is : List InstrTree) (l : LastTree) → Falling (length c.locals) s → AllInstrsNamed c few_slots few_locals is → LastGood m l
      → Good m n n (ends w s acts is l)
  ends_good m n w s acts is l f h g = record {
    body = h;
    last = g.named;
    on = g.on;
    held = inner_falls w.depth (length c.locals) s f;
    more = tt;
    size = omega arith;
    groups = refl;
  }

  -- it leads to blocks from e on
  abbrev pub Leads : ℕ → LastTree → Type 0
  Leads e (GotoLast t) = (e ≤ t) × (t < length c.blocks)
  Leads e (PassLast t) = t < length c.blocks
  Leads e _ = ⊥

  pub leads_less : (e f : ℕ) (l : LastTree) → f ≤ e → Leads e l → Leads f l
  leads_less e f (GotoLast t) le h = (omega (arith, h.0), h.1)
  leads_less e f (PassLast t) le h = h
  leads_less e f _ le h = absurd h

  one_block : (t : ℕ) → t < length c.blocks → nat_lt t (length c.blocks) && true ≡ true
  one_block t lt = both (nat_lt t (length c.blocks)) true (less_is t (length c.blocks) lt) refl

  pub goto_good : (m t : ℕ) → m < t → t < length c.blocks → LastGood m (GotoLast t)
  goto_good m t lt le = record { named = both (true && (nat_lt t (length c.blocks) && true)) true (one_block t le) refl; on = less_is m t lt }

  pub pass_good : (m t : ℕ) → t < length c.blocks → LastGood m (PassLast t)
  pass_good m t le = record { named = both (true && (nat_lt t (length c.blocks) && true)) true (one_block t le) refl; on = refl }

  pub leads_good : (e m : ℕ) (l : LastTree) → m < e → Leads e l → LastGood m l
  leads_good e m (GotoLast t) lt h = goto_good m t (omega (arith, h.0)) h.1
  leads_good e m (PassLast t) lt h = pass_good m t h
  leads_good e m _ lt h = absurd h

  pub test_good : (m y n : ℕ) (e : ExprTree) → m < y → m < n → y < length c.blocks → n < length c.blocks → list_all (has_place c) (last_places (TestLast e y n)) ≡ true → LastGood m (TestLast e y n)
  test_good m y n e ly ln by bn h = record {
    named = both (true && (nat_lt y (length c.blocks) && (nat_lt n (length c.blocks) && true))) _ (both (nat_lt y (length c.blocks)) _ (less_is y (length c.blocks) by) (one_block n bn)) h;
    on = both (nat_lt m y) (nat_lt m n) (less_is m y ly) (less_is m n ln);
  }

  pub exits_good : (e m : ℕ) (t : Bool) (w : Around) (s : Scope) (n : Next) (l : LastTree) → Falling (length c.locals) s → m < n.block → n.block + exit_blocks t ≤ e
      → n.block + exit_blocks t ≤ length c.blocks → Leads e l
      → Good m n.block (n.block + exit_blocks t) (exits t w s n l)
  exits_good e m false w s n l f lt le lb h =
      let g = ends_good m n.block w s false (map DropInstr (left_lists w.looped.depth s)) l f (left_named c few_slots few_locals w.looped.depth (length c.locals) s (omega arith) f)
      (leads_good e m l (omega arith) h) in
      good_up_to m n.block n.block (n.block + 0) (exits false w s n l) (omega arith) g
  exits_good e m true w s n l f lt le lb h =
      let g = ends_good m n.block w s false [] (GotoLast n.block) f refl (goto_good m n.block lt (omega arith)) in
      let q = leads_good e n.block l (omega arith) h in
      let drops = left_named c few_slots few_locals w.looped.depth (length c.locals) s (omega arith) f in
      record {
        body = g.body;
        last = g.last;
        on = g.on;
        held = g.held;
        more = (record { named = both _ (has_last c l) drops q.named; on = q.on; caught = refl }, tt);
        size = refl;
        groups = refl;
      }
