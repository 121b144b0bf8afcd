-- What is known where a body begins, and chunks that are kept from there.
use Rattle.std.proofs.Common.{◌≡◌, inr, ℕ, zero, suc, ◌+◌, ◌^◌, ◌<◌, ◌≤◌, Bool, true, false, List, [], ◌∷◌, ◌++◌, length, if◌then◌else◌, refl, ap, sym, subst, ◌∙◌, arith}
use Rattle.std.proofs.lemmas.Bool.{false≢true, true≢false}
use Rattle.std.specs.declared.option.Option.{Option}
use Rattle.std.specs.declared.option.Option.TheVariants.{None, Some}
use Rattle.flow_tree.specs.Tree.{TypeTree}
use Rattle.flow_tree.specs.Body.{IntoTree}
use Rattle.flow_ast.specs.Typing.{is_there}
use Rattle.flow_class.specs.declared.class.Slotted.{Slotted}
use Rattle.flow_class.specs.declared.class.Slotted.TheVariants as place
use Rattle.flow_class.specs.Classes.{CatcherTree, InstrTree, LastTree, ClassTree}
use Rattle.flow_class.specs.Scopes.{Scope, Mark, Var, scope}
use Rattle.flow_catch.specs.Inner.{inner_locals}
use Rattle.flow_staterule.specs.declared.scope.Point.{Point}
use Rattle.flow_staterule.specs.declared.ways.Reached.{Reached}
use Rattle.flow_staterule.specs.declared.ways.Ways.{Ways}
use Rattle.flow_staterule.specs.Ways.{is_reached}
use Rattle.flow_staterule.specs.Uses.{Variable, behind, declared}
use Rattle.flow_rules.specs.Judged.{Setting}
use Rattle.flow_meaning.specs.Evaluating.{Names}
use Rattle.flow_meaning.specs.Carry.{DeclaredAs}
use Rattle.flow_split.specs.Around.{Exit, Hand, Around, inner, pass, guarded}
use Rattle.flow_split.specs.Counts.{local_count}
use Rattle.flow_split.specs.Lowered.{Chunk, ends, acting, with_local, with_into}
use Rattle.flow_valid.specs.Filling.{is_local, reads, instr_reads}
use Rattle.flow_lowering_laws.proofs.Actors.Places.{Placing}
use Rattle.flow_validity_laws.proofs.InForce.{New, grows_declared}
use Rattle.flow_validity_laws.proofs.Walks.{Places, AllIn, after, Kept}
use Rattle.flow_validity_laws.proofs.Waysides.{Exits, exits_self}
use Rattle.flow_validity_laws.proofs.Lines.{Has, Sub, filled, Covers, covers_sub, Lined, lined_marked, lined_past, lined_more}
use Rattle.flow_validity_laws.proofs.Entries.{AllFrom, Aim, IsBelow, Lies, Entries, HandFact, Guard, catches, Live, Later, later_live, later_entry, later_dead}
use Rattle.flow_validity_laws.proofs.Surroundings.{Aims}

from_inner : (b : Bool) (u d : ℕ) (x : List ℕ) (l : ℕ) (s : Scope) → u ≤ l → AllFrom u (inner_locals d s) → AllFrom u (inner_locals d (with_local b x l s))
from_inner true u d x l s le h = h
from_inner false u zero x l s le h = tt
from_inner false u (suc d) x l s le h = (le, h)

pub from_scope : (b : Bool) (u : ℕ) (x : List ℕ) (l : ℕ) (s : Scope) → u ≤ l → AllFrom u (scope s) → AllFrom u (scope (with_local b x l s))
from_scope true u x l s le h = h
from_scope false u x l s le h = (le, h)

pub lies_past : (a : Aim) (gs : List Slotted) (ds : List ℕ) (l m : ℕ) → l ≤ m → Lies a gs ds l → Lies a gs ds m
lies_past a gs ds l m le h = record { sub = h.sub; below = h.below; from = h.from; low = omega (arith, h.low) }

-- with one more place
pub lies_more : (a : Aim) (gs : List Slotted) (to : Slotted) (ds es : List ℕ) (l m : ℕ) → l ≤ m → (a.from ≤ l → AllFrom a.from ds → AllFrom a.from es) → Lies a gs ds l → Lies a (to ∷ gs) es m
lies_more a gs to ds es l m le f h = record { sub = λ j q k. inr (h.sub j q k); below = h.below; from = f h.low h.from; low = omega (arith, h.low) }

abbrev pub no_aim : Aim
no_aim = record { places = []; stale = 0; from = 0 }

pub lies_nowhere : (gs : List Slotted) (ds : List ℕ) (l : ℕ) → Lies no_aim gs ds l
lies_nowhere gs ds l = record { sub = λ j q k. absurd k; below = λ j k h. absurd h; from = from_zero ds; low = omega arith }
  where
    from_zero : (ns : List ℕ) → AllFrom 0 ns
    from_zero [] = tt
    from_zero (n ∷ ns) = (omega arith, from_zero ns)

abbrev pub here_aim : List Slotted → ℕ → ℕ → Aim
here_aim gs st l = record { places = gs; stale = st; from = l }

-- an aim that is the place itself
pub lies_here : (gs : List Slotted) (st l : ℕ) (ds : List ℕ) → ((j k : ℕ) → Has gs j (place.Local k) → k < l) → AllFrom l ds → Lies (here_aim gs st l) gs ds l
lies_here gs st l ds below from = record { sub = λ j q k. k; below = below; from = from; low = omega arith }

abbrev pub number_in : Slotted → ℕ
number_in (place.Slot n) = n
number_in (place.Local n) = n

abbrev first_number : Scope → ℕ
first_number (Var x k ∷ s) = k
first_number _ = 0

module _ (base : Setting) (ns : Names) (c : ClassTree) (few_slots : length c.slots < 2 ^ 64) (few_locals : length c.locals < 2 ^ 64) where
  pub record Ground (w : Around) (s : Scope) (l : ℕ) (rows : List (List ℕ × TypeTree)) (vs : List Variable) (gs : List Slotted) (p : Point) (a : Aims) : Type 0 where
    pub line : Lined base c vs gs rows s l
    pub start : p.from ≡ 0
    pub end : Lies a.end gs (scope s) l
    pub out : Lies a.out gs (inner_locals w.looped.depth s) l
    pub again : Lies a.again gs (inner_locals w.looped.depth s) l
    pub hand : Lies a.hand gs (inner_locals w.depth s) l
    pub scoped : AllFrom a.hand.from (scope s)
    pub looped : w.looped.tried ≡ false → AllFrom a.hand.from (inner_locals w.looped.depth s)

  -- further on, at another point
  pub ground_past : (w : Around) (s : Scope) (l m : ℕ) (rows : List (List ℕ × TypeTree)) (vs : List Variable) (gs : List Slotted) (p q : Point) (a : Aims) → l ≤ m → q.from ≡ 0
      → Ground w s l rows vs gs p a → Ground w s m rows vs gs q a
  ground_past w s l m rows vs gs p q a le z g = record {
    line = lined_past base c vs gs rows s l m le g.line;
    start = z;
    end = lies_past a.end gs (scope s) l m le g.end;
    out = lies_past a.out gs (inner_locals w.looped.depth s) l m le g.out;
    again = lies_past a.again gs (inner_locals w.looped.depth s) l m le g.again;
    hand = lies_past a.hand gs (inner_locals w.depth s) l m le g.hand;
    scoped = g.scoped;
    looped = g.looped;
  }

  -- with a declared variable
  line_into : (vs : List Variable) (gs : List Slotted) (rows : List (List ℕ × TypeTree)) (s : Scope) (l : ℕ) (i : IntoTree) (pl : Placing ns c few_slots few_locals s l i) → Lined base c vs gs rows s l
      → New rows i.name.name
      → Lined base c (declared i ∷ vs) (pl.to ∷ gs) (rows ++ (i.name.name, i.ty) ∷ []) (with_into i l s) (local_count i + l)
  line_into vs gs rows s l i pl h new =
      lined_more base c ns few_slots few_locals vs gs rows s (with_into i l s) l (local_count i + l) (declared i) i.ty pl.to h new
      (grows_declared base ns c few_slots few_locals s (with_into i l s) i pl.to pl.declared) pl.named
      (kind_of pl.to pl.declared) (omega arith) (λ k e. small pl.to pl.declared k e)
    where
      kind_of : (to : Slotted) → DeclaredAs ns c s i to (with_into i l s) → is_local to ≡ is_there (declared i).local
      kind_of (place.Slot n) d = sym (ap (λ b. is_there (if b then None else Some i.name.at)) d.0)
      kind_of (place.Local n) d = sym (ap (λ b. is_there (if b then None else Some i.name.at)) d.0)

      small : (to : Slotted) → DeclaredAs ns c s i to (with_into i l s) → (k : ℕ) → to ≡ place.Local k → k < local_count i + l
      small (place.Slot n) d k e = cc
      small (place.Local n) d k e =
          let same : n ≡ k = ap number_in e in
          let first : l ≡ n = sym (ap (λ b. first_number (with_local b i.name.name l s)) d.0) ∙ ap first_number d.2 in
          let one : local_count i ≡ 1 = ap (λ b. if b then 0 else 1) d.0 in
          omega (arith, same, first, one)

  pub ground_into : (w : Around) (s : Scope) (l : ℕ) (rows : List (List ℕ × TypeTree)) (vs : List Variable) (gs : List Slotted) (p : Point) (a : Aims) (i : IntoTree)
      (pl : Placing ns c few_slots few_locals s l i) → New rows i.name.name
      → Ground w s l rows vs gs p a → Ground w (with_into i l s) (local_count i + l) (rows ++ (i.name.name, i.ty) ∷ []) (declared i ∷ vs) (pl.to ∷ gs) p a
  ground_into w s l rows vs gs p a i pl new g = record {
    line = line_into vs gs rows s l i pl g.line new;
    start = g.start;
    end = lies_more a.end gs pl.to (scope s) (scope (with_into i l s)) l (local_count i + l) (omega arith) (λ le h. from_scope i.state a.end.from i.name.name l s le h) g.end;
    out = lies_more a.out gs pl.to (inner_locals w.looped.depth s) (inner_locals w.looped.depth (with_into i l s)) l (local_count i + l) (omega arith)
        (λ le h. from_inner i.state a.out.from w.looped.depth i.name.name l s le h) g.out;
    again = lies_more a.again gs pl.to (inner_locals w.looped.depth s) (inner_locals w.looped.depth (with_into i l s)) l (local_count i + l) (omega arith)
        (λ le h. from_inner i.state a.again.from w.looped.depth i.name.name l s le h) g.again;
    hand = lies_more a.hand gs pl.to (inner_locals w.depth s) (inner_locals w.depth (with_into i l s)) l (local_count i + l) (omega arith)
        (λ le h. from_inner i.state a.hand.from w.depth i.name.name l s le h) g.hand;
    scoped = from_scope i.state a.hand.from i.name.name l s g.hand.low g.scoped;
    looped = λ t. from_inner i.state a.hand.from w.looped.depth i.name.name l s g.hand.low (g.looped t);
  }

  -- a scope of its own, whose end leads there
  pub ground_inner : (w : Around) (x : Exit) (s : Scope) (l m : ℕ) (rows : List (List ℕ × TypeTree)) (vs : List Variable) (gs : List Slotted) (p q : Point) (a : Aims) (st : ℕ) → l ≤ m → q.from ≡ 0
      → Ground w s l rows vs gs p a
      → Ground (inner w x) (Mark ∷ s) m rows vs gs q (record a { end = here_aim gs st m })
  ground_inner w x s l m rows vs gs p q a st le z g = record {
    line = lined_marked base c vs gs rows s l m le g.line;
    start = z;
    end = lies_here gs st m [] (λ j k h. (lined_past base c vs gs rows s l m le g.line).below j k h) tt;
    out = lies_past a.out gs (inner_locals w.looped.depth s) l m le g.out;
    again = lies_past a.again gs (inner_locals w.looped.depth s) l m le g.again;
    hand = lies_past a.hand gs (inner_locals w.depth s) l m le g.hand;
    scoped = tt;
    looped = g.looped;
  }

  -- the body of a loop
  pub ground_pass : (w : Around) (s : Scope) (d k : ℕ) (l m : ℕ) (again : LastTree) (out : ℕ) (rows : List (List ℕ × TypeTree)) (vs : List Variable) (gs : List Slotted) (q : Point) (hand : Aim)
      (st lost : ℕ) → l ≤ m → q.from ≡ 0 → Lined base c vs gs rows s l
      → Lies hand gs (inner_locals d s) l → w.depth + k ≡ suc d
      → Ground (pass w k again out) (Mark ∷ s) m rows vs gs q (record { end = here_aim gs st m; out = here_aim gs lost m; again = here_aim gs st m; hand = hand })
  ground_pass w s d k l m again out rows vs gs q hand st lost le z line h e =
      let below = (lined_past base c vs gs rows s l m le line).below in
      record {
        line = lined_marked base c vs gs rows s l m le line;
        start = z;
        end = lies_here gs st m [] below tt;
        out = lies_here gs lost m [] below tt;
        again = lies_here gs st m [] below tt;
        hand = subst (λ n. Lies hand gs (inner_locals n (Mark ∷ s)) m) (sym e) (lies_past hand gs (inner_locals d s) l m le h);
        scoped = tt;
        looped = λ t. tt;
      }

  -- a try body
  pub ground_guarded : (w : Around) (x : Exit) (k : Hand) (s : Scope) (l m : ℕ) (rows : List (List ℕ × TypeTree)) (vs : List Variable) (gs : List Slotted) (p q : Point) (a : Aims) (st lost : ℕ)
      → l ≤ m → q.from ≡ 0 → Ground w s l rows vs gs p a
      → Ground (guarded w x k) (Mark ∷ s) m rows vs gs q (record a { end = here_aim gs st m; hand = here_aim gs lost m })
  ground_guarded w x k s l m rows vs gs p q a st lost le z g =
      let below = (lined_past base c vs gs rows s l m le g.line).below in
      record {
        line = lined_marked base c vs gs rows s l m le g.line;
        start = z;
        end = lies_here gs st m [] below tt;
        out = lies_past a.out gs (inner_locals w.looped.depth s) l m le g.out;
        again = lies_past a.again gs (inner_locals w.looped.depth s) l m le g.again;
        hand = lies_here gs lost m [] below tt;
        scoped = tt;
        looped = λ t. absurd (true≢false t);
      }

  -- chunks
  pub live_to : (h : Option Hand) (a : Aim) (gs : List Slotted) (st : ℕ) (outer : Entries c → Type 0) (n m o g i j : ℕ) (ch : Chunk) → m ≡ o → i ≡ j → Live c h a gs st outer n m g i ch
      → Live c h a gs st outer n o g j ch
  live_to h a gs st outer n m o g i j ch e f v = record { entries = v.entries; size = v.size ∙ e; gsize = v.gsize ∙ f; acts = v.acts; held = v.held; kept = v.kept }

  pub later_map : (h : Option Hand) (outer near : Entries c → Type 0) (n m g i : ℕ) (ch : Chunk) → ((e : Entries c) → near e → outer e) → Later c h outer n m g i ch → Later c h near n m g i ch
  later_map h outer near n m g i ch f v = record { entry = v.entry; entries = v.entries; size = v.size; gsize = v.gsize; kept = λ e is at o gr. v.kept e is at (f e o) gr }

  -- the end of a block without further ones
  pub leaf : (w : Around) (s : Scope) (gs : List Slotted) (p : Point) (a : Aims) (near : Entries c → Type 0) (n g : ℕ) (acts : Bool) (is : List InstrTree) (l : LastTree)
      → AllFrom a.hand.from (inner_locals w.depth s)
      → (acts ≡ true → (e : Entries c) → near e → HandFact c e w.hand a.hand p.stale)
      → ((e : Entries c) → near e → (kc : Option CatcherTree) (z : Places) → Covers z gs p.stale → Guard c e w.hand a.hand kc p.stale → Kept c e kc z is l)
      → Live c w.hand a.hand gs p.stale near n n g g (ends w s acts is l)
  leaf w s gs p a near n g acts is l from f k = record {
    entries = [];
    size = omega arith;
    gsize = omega arith;
    acts = λ t e at o. f t e o;
    held = from;
    kept = λ e at o gr. record { first = λ kc z cover guard. k e o kc z cover guard; more = tt };
  }

  -- an instruction before a chunk
  pub acting_live : (h : Option Hand) (a : Aim) (gs hs : List Slotted) (st : ℕ) (near far : Entries c → Type 0) (n m g j : ℕ) (i : InstrTree) (ch : Chunk) → Live c h a hs st far n m g j ch
      → ((e : Entries c) → near e → far e)
      → ((z : Places) → Covers z gs st → AllIn (instr_reads i) z) → ((z : Places) → Covers z gs st → Covers (after i z) hs st) → Sub a.places gs → IsBelow a
      → ((e : Entries c) → near e → HandFact c e h a st)
      → Live c h a gs st near n m g j (acting (i ∷ []) ch)
  acting_live h a gs hs st near far n m g j i ch v f reads grows sub below fact = record {
    entries = v.entries;
    size = v.size;
    gsize = v.gsize;
    acts = λ t e at o. fact e o;
    held = v.held;
    kept = λ e at o gr.
        let k = v.kept e at (f e o) gr in
        record {
          first = λ kc z cover guard. (reads z cover, catches c e h a kc st z below guard (covers_sub z gs a.places st sub cover), k.first kc (after i z) (grows z cover) guard);
          more = k.more;
        };
  }

  -- what stands behind a statement: it is reached or not
  pub record Rest (h : Option Hand) (outer : Entries c → Type 0) (gs : List Slotted) (d : ℕ) (p : Point) (u : Ways) (n m g i : ℕ) (ch : Chunk) : Type 0 where
    pub later : Later c h outer n m g i ch
    pub entry_is : is_reached u.ends ≡ true → later.entry ≡ Some (filled gs (behind d p u.ends).stale)

  pub rest_of : (h : Option Hand) (a : Aim) (outer near : Entries c → Type 0) (gs : List Slotted) (d : ℕ) (p : Point) (u : Ways) (n m g i : ℕ) (ch : Chunk) → suc n + length ch.more ≡ m
      → g + length ch.groups ≡ i
      → (is_reached u.ends ≡ true → (e : Entries c) → near e → outer e) → (is_reached u.ends ≡ true → Live c h a gs (behind d p u.ends).stale outer (suc n) m g i ch) → Rest h near gs d p u n m g i ch
  unfolding later_map
  rest_of h a outer near gs d p u n m g i ch size gsize f live = by_way (is_reached u.ends) refl
    where
      by_way : (b : Bool) → is_reached u.ends ≡ b → Rest h near gs d p u n m g i ch
      by_way true e = record {
        later = later_map h outer near n m g i ch (f e) (later_live c h a gs (behind d p u.ends).stale outer n m g i ch (live e));
        entry_is = λ t. later_entry c h a gs (behind d p u.ends).stale outer n m g i ch (live e);
      }
      by_way false e = record { later = later_dead c h near n m g i ch size gsize; entry_is = λ t. absurd (false≢true (sym e ∙ t)) }

  -- what a point behind asks of the one before
  pub exits_here : (vs : List Variable) (gs : List Slotted) (p : Point) (r : Reached) → length vs ≡ length gs → Exits (behind (length vs) p r).stale (length gs) p.stale r
  exits_here vs gs p r e = subst (λ d. Exits (behind (length vs) p r).stale d p.stale r) e (exits_self (length vs) p r)
