-- The numbers of a lowered body are within its class.
use Rattle.std.proofs.Common.{◌≡◌, ℕ, suc, ◌+◌, ◌^◌, ◌<◌, ◌≤◌, Bool, true, false, List, length, if◌then◌else◌, refl, sym, subst, arith}
use Rattle.std.specs.declared.option.Option.{Option}
use Rattle.std.specs.declared.option.Option.TheVariants.{None, Some}
use Rattle.flow_tree.specs.Body.{IntoTree, Body, End, DeclareStmt, AssignStmt, ModifyStmt}
use Rattle.flow_ast.specs.Leaving.{has_statement}
use Rattle.flow_class.specs.Classes.{LastTree, GotoLast, ClassTree}
use Rattle.flow_class.specs.Scopes.{Scope}
use Rattle.flow_layout.specs.Locals.{body_locals}
use Rattle.flow_meaning.specs.Evaluating.{Names}
use Rattle.flow_split.specs.Around.{Exit, Text, Scoped, Part, Hand, Around, inner, pass, guarded, handling}
use Rattle.flow_split.specs.Counts.{Next, begun, behind, blocks_in, local_count, into_count, locals_in, groups_in}
use Rattle.flow_split.specs.Lowered.{Chunk, joined, before_rest, with_local, with_into, with_taken, later, lowered}
use Rattle.flow_tree.specs.Formed.{IsInit}
use Rattle.flow_lowering_laws.specs.Actors.Parts.{HasParts}
use Rattle.flow_lowering_laws.specs.Actors.InPlace.{InPlace}
use Rattle.flow_lowering_laws.proofs.Actors.Standing.{LocalsAt}
use Rattle.flow_validity_laws.proofs.Naming.{Falling, falling_more}
use Rattle.flow_validity_laws.proofs.Chunks.{Good, good_up_to, HandGood, hand_less, Leads, leads_less, joined_good}

module _ (ns : Names) (c : ClassTree) (few_slots : length c.slots < 2 ^ 64) (few_locals : length c.locals < 2 ^ 64) where
  abbrev pub GoodHere : (m n k : ℕ) → Chunk → Type 0
  GoodHere m n k ch = Good c few_slots few_locals m n k ch

  abbrev pub ExitGood : ℕ → Exit → Type 0
  ExitGood e (Text close) = Unit {0}
  ExitGood e (Scoped l) = Leads c few_slots few_locals e l
  ExitGood e (Part l) = Leads c few_slots few_locals e l

  exit_less : (e f : ℕ) (x : Exit) → f ≤ e → ExitGood e x → ExitGood f x
  exit_less e f (Text close) le h = tt
  exit_less e f (Scoped l) le h = leads_less c few_slots few_locals e f l le h
  exit_less e f (Part l) le h = leads_less c few_slots few_locals e f l le h

  -- What is around a body, in a loop or not, leads to blocks from e on.
  pub record Fits (looped : Bool) (e : ℕ) (w : Around) : Type 0 where
    pub within : e ≤ length c.blocks
    pub exit : ExitGood e w.exit
    pub hand : HandGood c few_slots few_locals e w.hand
    pub out : looped ≡ true → Leads c few_slots few_locals e (GotoLast w.looped.out)
    pub again : looped ≡ true → Leads c few_slots few_locals e w.looped.again

  pub fits_inner : (l : Bool) (e f : ℕ) (w : Around) (x : Exit) → f ≤ e → ExitGood f x → Fits l e w → Fits l f (inner w x)
  fits_inner l e f w x le ex h = record {
    within = omega (arith, h.within);
    exit = ex;
    hand = hand_less c few_slots few_locals e f w.hand le h.hand;
    out = λ t. leads_less c few_slots few_locals e f (GotoLast w.looped.out) le (h.out t);
    again = λ t. leads_less c few_slots few_locals e f w.looped.again le (h.again t);
  }

  -- a body of its own, from which a block behind it follows
  pub fits_scoped : (l : Bool) (e f g : ℕ) (w : Around) → f ≤ e → f ≤ g → g < length c.blocks → Fits l e w → Fits l f (inner w (Scoped (GotoLast g)))
  fits_scoped l e f g w le lg lt h = fits_inner l e f w (Scoped (GotoLast g)) le (lg, lt) h

  pub fits_handling : (l : Bool) (e f g : ℕ) (w : Around) (x : List ℕ) → f ≤ e → f ≤ g → g < length c.blocks → Fits l e w → Fits l f (handling w (Scoped (GotoLast g)) x)
  fits_handling l e f g w x le lg lt h =
      let i = fits_scoped l e f g w le lg lt h in
      record { within = i.within; exit = i.exit; hand = i.hand; out = i.out; again = i.again }

  pub fits_guarded : (l : Bool) (e f g : ℕ) (w : Around) (k : Hand) → f ≤ e → f ≤ g → g < length c.blocks → HandGood c few_slots few_locals f (Some k) → Fits l e w
      → Fits l f (guarded w (Scoped (GotoLast g)) k)
  fits_guarded l e f g w k le lg lt hand h =
      let i = fits_scoped l e f g w le lg lt h in
      record { within = i.within; exit = i.exit; hand = hand; out = i.out; again = i.again }

  -- the body of a loop
  pub fits_loop : (l : Bool) (e f d : ℕ) (w : Around) (again : LastTree) (out : ℕ) → f ≤ e → f ≤ out → out < length c.blocks → Leads c few_slots few_locals f again → Fits l e w
      → Fits true f (pass w d again out)
  fits_loop l e f d w again out le lo lt leads h = record {
    within = omega (arith, h.within);
    exit = leads;
    hand = hand_less c few_slots few_locals e f w.hand le h.hand;
    out = λ t. (lo, lt);
    again = λ t. leads;
  }

  -- There is room for the blocks of a body up to e, its locals and its groups.
  pub record Room (t : Bool) (n : Next) (e : ℕ) (b : Body) : Type 0 where
    pub blocks : n.block + blocks_in t b ≤ e
    pub locals : n.local + locals_in b ≤ length c.locals
    pub groups : n.group + groups_in b ≤ suc (length c.groups)
    pub first : 0 < n.group
    pub types : LocalsAt ns c n.local (body_locals b)

  -- A lowered body is good wherever there is room for it.
  abbrev pub Kept : Body → Type 0
  Kept b =
      (l t : Bool) (xs : List (List ℕ)) (s : Scope) (w : Around) (n : Next) (m e : ℕ) → Fits l e w → Room w.looped.tried n e b → Falling n.local s → m < n.block → HasParts b → InPlace c.slots l t xs b
      → GoodHere m n.block (n.block + blocks_in w.looped.tried b) (lowered ns c.slots s w n b)

  -- what stands behind a statement, in a block of its own
  pub rest_kept : (k : Body) → Kept k → (l t : Bool) (xs : List (List ℕ)) (s : Scope) (w : Around) (n j : Next) (m e : ℕ) (a : Chunk) → Fits l e w → Room w.looped.tried (begun j) e k
      → Falling n.local s → n.local ≤ j.local
      → HasParts k → InPlace c.slots l t xs k → GoodHere m n.block j.block a → GoodHere m n.block (suc j.block + blocks_in w.looped.tried k) (joined w.hand a (lowered ns c.slots s w (begun j) k))
  rest_kept k kept l t xs s w n j m e a fits room fall le parts ok g =
      joined_good c few_slots few_locals e m n.block j.block (suc j.block + blocks_in w.looped.tried k) w.hand a (lowered ns c.slots s w (begun j) k) fits.hand (omega (arith, room.blocks)) g
      (kept l t xs s w (begun j) j.block e fits room (falling_more n.local j.local s le fall) (omega arith) parts ok)

  -- what stands behind a statement that nothing goes on from, if anything does
  behind_if : (b : Bool) (x : ℕ) → b ≡ true → (if b then suc x else 0) ≡ suc x
  behind_if true x e = refl
  behind_if false x e = cc

  dead_if : (b : Bool) (e m n j x : ℕ) (h : Option Hand) (a d : Chunk) → HandGood c few_slots few_locals e h → GoodHere m n j a → (b ≡ true → j < e) → (b ≡ true → GoodHere j (suc j) (suc j + x) d)
      → GoodHere m n (j + (if b then suc x else 0)) (if b then joined h a d else a)
  dead_if true e m n j x h a d hand g lt f =
      good_up_to c few_slots few_locals m n (suc j + x) (j + suc x) (joined h a d) (omega arith) (joined_good c few_slots few_locals e m n j (suc j + x) h a d hand (lt refl) g (f refl))
  dead_if false e m n j x h a d hand g lt f = good_up_to c few_slots few_locals m n j (j + 0) a (omega arith) g

  pub dead_kept : (k : Body) → Kept k → (l t : Bool) (xs : List (List ℕ)) (s : Scope) (w : Around) (n j : Next) (m e : ℕ) (a : Chunk) → Fits l e w → j.block + behind k (blocks_in w.looped.tried k) ≤ e
      → n.local + locals_in k ≤ length c.locals → n.group + groups_in k ≤ suc (length c.groups) → 0 < n.group → LocalsAt ns c n.local (body_locals k) → Falling n.local s → j.local ≡ n.local
      → j.group ≡ n.group
      → HasParts k → InPlace c.slots l t xs k → GoodHere m n.block j.block a
      → GoodHere m n.block (j.block + behind k (blocks_in w.looped.tried k)) (before_rest w.hand a k (lowered ns c.slots s w (begun j) k))
  dead_kept k kept l t xs s w n j m e a fits blocks locals groups first types fall el eg parts ok g =
      let x = blocks_in w.looped.tried k in
      let enough : has_statement k ≡ true → j.block + suc x ≤ e = λ h. subst (λ z. j.block + z ≤ e) (behind_if (has_statement k) x h) blocks in
      dead_if (has_statement k) e m n.block j.block x w.hand a (lowered ns c.slots s w (begun j) k) fits.hand g (λ h. omega (arith, enough h))
      (λ h. kept l t xs s w (begun j) j.block e fits
      (record {
        blocks = omega (arith, enough h);
        locals = omega (arith, locals, el);
        groups = omega (arith, groups, eg);
        first = omega (arith, first, eg);
        types = subst (λ z. LocalsAt ns c z (body_locals k)) (sym el) types;
      })
      (subst (λ z. Falling z s) (sym el) fall) (omega arith) parts ok)

  -- with a declared variable
  falling_local : (b : Bool) (x : List ℕ) (l : ℕ) (s : Scope) → Falling l s → Falling ((if b then 0 else 1) + l) (with_local b x l s)
  falling_local true x l s f = falling_more l (0 + l) s (omega arith) f
  falling_local false x l s f = (omega arith, f)

  pub falling_into : (i : IntoTree) (l : ℕ) (s : Scope) → Falling l s → Falling (local_count i + l) (with_into i l s)
  falling_into i l s f = falling_local i.state i.name.name l s f

  pub falling_taken : (o : Option IntoTree) (l : ℕ) (s : Scope) → Falling l s → Falling (into_count o + l) (with_taken o l s)
  falling_taken None l s f = falling_more l (0 + l) s (omega arith) f
  falling_taken (Some i) l s f = falling_into i l s f

  pub falling_later : (i : Body) (l : ℕ) (s : Scope) → IsInit i → Falling l s → Falling (l + locals_in i) (later i l s)
  falling_later (DeclareStmt at i e End) l s is f = falling_more (local_count i + l) (l + (local_count i + 0)) (with_into i l s) (omega arith) (falling_into i l s f)
  falling_later End l s is f = falling_more l (l + 0) s (omega arith) f
  falling_later (AssignStmt at xs e End) l s is f = falling_more l (l + 0) s (omega arith) f
  falling_later (ModifyStmt at xs d End) l s is f = falling_more l (l + 0) s (omega arith) f
  falling_later _ l s is f = absurd is
