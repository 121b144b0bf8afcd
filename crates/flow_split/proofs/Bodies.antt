-- What the code emits for a `try` and a `for`.
use Rattle.std.proofs.Common.{◌≡◌, ℕ, suc, ◌+◌, Bool, true, false, ◌||◌, List, [], ◌∷◌, ◌++◌, refl, ap, ap₂, sym, subst, ◌∙◌, arith, append_assoc}
use Rattle.std.specs.declared.option.Option.{Option}
use Rattle.std.specs.declared.option.Option.TheVariants.{None, Some}
use Rattle.flow_base.specs.declared.place.Place.{Place}
use Rattle.flow_tree.specs.declared.ty.Ident.{Ident}
use Rattle.flow_tree.specs.Tree.{ExprTree}
use Rattle.flow_tree.specs.Body.{IntoTree, Body, ForStmt, TryStmt, DeclareStmt, WaitStmt}
use Rattle.flow_tree.specs.Decls.{SlotTree}
use Rattle.flow_class.specs.Classes.{InstrTree, GotoLast, PassLast, TestLast}
use Rattle.flow_class.specs.Scopes.{Scope, Mark, scope, outside, over}
use Rattle.flow_meaning.specs.Evaluating.{Names}
use Rattle.flow_split.specs.Around.{Scoped, Part, Hand, Around, inner, pass, guarded, handling}
use Rattle.flow_split.specs.Counts.{locals_in, test_blocks, Next, begun, past}
use Rattle.flow_split.specs.Lowered.{Chunk, blocks_of, ends, drop_of, dropping, with_local, with_taken, later, tested, test_before, lowered}
use Rattle.flow_split.specs.Emitting.{Emitted, At, coming, going, opened, closed, put, acted, onto, in_scope, testing, with_chunk, with_rest_if, Emits, EmitsPart, EmitsScope, EmitsHandler}
use Rattle.flow_split.proofs.Joins.{join, and_then}
use Rattle.flow_split.proofs.Steps.{Stands, ended_plain, ended_acting, scope_begins, scope_in, handler_begins, part_in, reopen, finish}

try_sums : (a b c d : ℕ) → suc (a + b) + c + d ≡ a + (b + suc c + d)
try_sums a b c d = omega arith

for_sums : (a i b p k : ℕ) → a + i + b + p + k ≡ a + (i + p + b + k)
for_sums a i b p k = omega arith

plus_zero : (n : ℕ) → n + 0 ≡ n
plus_zero n = omega arith

plus_one : (n : ℕ) → n + 1 ≡ suc n
plus_one n = omega arith

-- a declaration changes nothing outside of its scope
outside_local : (b : Bool) (x : List ℕ) (l : ℕ) (s : Scope) → outside (with_local b x l s) ≡ outside s
outside_local true x l s = refl
outside_local false x l s = refl

pub outside_taken : (i : Option IntoTree) (l : ℕ) (s : Scope) → outside (with_taken i l s) ≡ outside s
outside_taken None l s = refl
outside_taken (Some i) l s = outside_local i.state i.name.name l s

pub outside_later : (b : Body) (l : ℕ) (s : Scope) → outside (later b l s) ≡ outside s
outside_later (DeclareStmt at i e k) l s = outside_local i.state i.name.name l s
outside_later (WaitStmt at w k) l s = outside_taken w.into l s
outside_later _ l s = refl

module _ (ns : Names) (slots : List SlotTree) (w : Around) where
  pub try_emits : (v u : Around) (e e1 e2 f f2 g new : Emitted) (at catch : Place) (b : Body) (x : Ident) (c : Body) (y hb he q : ℕ) → e.is_open ≡ true
      → y ≡ (going e).block → hb ≡ (past true b (begun (going e))).block → he ≡ (past true b (begun (going e))).local
      → q ≡ (past w.looped.tried c (begun (record (past true b (begun (going e))) { local = suc (past true b (begun (going e))).local }))).block
      → e1 ≡ closed w (GotoLast y) e → e2 ≡ opened e1 → v ≡ guarded w (Scoped (GotoLast q)) (record { block = hb; error = he }) → EmitsScope ns slots v b e2 f
      → f2 ≡ opened f → u ≡ handling w (Scoped (GotoLast q)) x.name → EmitsHandler ns slots u x.name c f2 g → new ≡ opened g
      → Emits ns slots w (TryStmt at b catch x c) e new
  try_emits v u e e1 e2 f f2 g new at catch b x c y hb he q o ye be ee qe h1 oe ve hs oc ue ks nw =
      let h : EmitsScope ns slots v b (opened e1) f = subst (λ z. EmitsScope ns slots v b z f) oe hs in
      let k : EmitsHandler ns slots u x.name c (opened f) g = subst (λ z. EmitsHandler ns slots u x.name c z g) oc ks in
      let n = going e in
      let m = past true b (begun n) in
      let r : Next = begun (record m { local = suc m.local }) in
      let j = past w.looped.tried c r in
      let hand : Hand = record { block = m.block; error = m.local } in
      let exit = Scoped (GotoLast j.block) in
      let one = ended_plain w (GotoLast n.block) e e1 (h1 ∙ ap (λ z. closed w (GotoLast z) e) ye) in
      let vs : v ≡ guarded w exit hand = ve ∙ (λ i. guarded w (Scoped (GotoLast (qe i))) (record { block = be i; error = ee i })) in
      let us : u ≡ handling w exit x.name = ue ∙ ap (λ z. handling w (Scoped (GotoLast z)) x.name) qe in
      let s = scope_begins ns slots (guarded w exit hand) e.scopes n b e1 f one.stands (subst (λ z. EmitsScope ns slots z b (opened e1) f) vs h) in
      let t = handler_begins ns slots (handling w exit x.name) x.name e.scopes m c f g s.stands (subst (λ z. EmitsHandler ns slots z x.name c (opened f) g) us k) in
      finish ns slots w e g new _ _ (TryStmt at b catch x c) o nw (and_then w.hand w.hand e f g _ _ (and_then w.hand (Some hand) e e1 f _ _ one.at s.at) t.at) t.stands (λ z. refl)
      (λ z. try_sums e.next (locals_in b) (locals_in c) (locals_in z)) refl

  tested_local : (t : Option ExprTree) (h : Next) → (tested t h).local ≡ h.local
  tested_local None h = refl
  tested_local (Some e) h = refl

  pub tested_block : (t : Option ExprTree) (h : Next) (m : ℕ) → m ≡ h.block + test_blocks t → m ≡ (tested t h).block
  tested_block None h m e = e ∙ plus_zero h.block
  tested_block (Some x) h m e = e ∙ plus_one h.block

  -- the test of a `for`
  record Tested (v : Around) (s : Scope) (t : Option ExprTree) (main out : ℕ) (h : Next) (e : Emitted) (c : Chunk) (f : Emitted) : Type 0 where
    at : At v.hand e (test_before ns slots v s t main out c) f
    stands : Stands f s (tested t h)
    is_open : f.is_open ≡ true

  tested_by : (v : Around) (s : Scope) (t : Option ExprTree) (main out : ℕ) (h : Next) (e f g : Emitted) (c : Chunk) → At v.hand e c f → Stands f s h → g ≡ testing slots v t main out (opened f)
      → Tested v s t main out h e c g
  tested_by v s None main out h e f g c a st eq =
      subst (Tested v s None main out h e c) (sym eq) (record {
        at = record { all = a.all; fresh = record { body = a.fresh.body; acts = a.fresh.acts } };
        stands = record { scopes = st.scopes; coming = st.coming };
        is_open = refl;
      })
  tested_by v s (Some t) main out h e f g c a st eq =
      let f2 = closed v (TestLast (over slots f.scopes t) main out) (acted [] (opened f)) in
      let r = ended_acting v [] (TestLast (over slots f.scopes t) main out) (opened f) f2 refl in
      let b = subst (λ x. At v.hand f (ends v x true [] (TestLast (over slots x t) main out)) f2) st.scopes (reopen v.hand f f2 _ r.at) in
      let d = and_then v.hand v.hand e f f2 _ _ a b in
      subst (Tested v s (Some t) main out h e c) (sym eq)
      (record {
        at = record { all = d.all; fresh = record { body = d.fresh.body; acts = d.fresh.acts } };
        stands = record { scopes = r.stands.scopes ∙ st.scopes; coming = r.stands.coming ∙ ap begun st.coming };
        is_open = refl;
      })

  -- drops at the begin of a block
  onto_put : (ds : List InstrTree) (f : Emitted) (c : Chunk) → onto (put ds f) c ≡ onto f (record c { body = ds ++ c.body })
  onto_put ds f c i = record c { body = append_assoc f.body ds c.body i; acts = c.acts || f.acts }

  pub for_emits : (v u : Around) (e d e1 d1 e2 f d2 g d3 new : Emitted) (at : Place) (i : Body) (t : Option ExprTree) (p b : Body) (hd main again out : ℕ) → e.is_open ≡ true
      → hd ≡ (past w.looped.tried i (going e)).block → main ≡ (tested t (past w.looped.tried i (going e))).block
      → again ≡ (past false b (begun (tested t (past w.looped.tried i (going e))))).block
      → out ≡ (past w.looped.tried p (begun (past false b (begun (tested t (past w.looped.tried i (going e))))))).block
      → v ≡ inner w (Part (PassLast hd)) → u ≡ pass w 2 (GotoLast again) out
      → d ≡ in_scope e → EmitsPart ns slots v i d e1 → d1 ≡ opened e1 → e2 ≡ testing slots v t main out d1
      → EmitsScope ns slots u b e2 f → d2 ≡ opened f → EmitsPart ns slots v p d2 g
      → d3 ≡ opened g → new ≡ record (put (drop_of (scope d3.scopes)) d3) { scopes = outside d3.scopes }
      → Emits ns slots w (ForStmt at i t p b) e new
  for_emits v u e d e1 d1 e2 f d2 g d3 new at i t p b hd main again out o he me ae oe ve ue de hs d1e hx hb d2e hq d3e nx =
      let hi : EmitsPart ns slots v i (in_scope e) e1 = subst (λ z. EmitsPart ns slots v i z e1) de hs in
      let ht = hx ∙ ap (testing slots v t main out) d1e in
      let hp : EmitsPart ns slots v p (opened f) g = subst (λ z. EmitsPart ns slots v p z g) d2e hq in
      let nw = nx ∙ ap (λ z. record (put (drop_of (scope z.scopes)) z) { scopes = outside z.scopes }) d3e in
      let n = going e in
      let h = past w.looped.tried i n in
      let k = tested t h in
      let m = past false b (begun k) in
      let j = past w.looped.tried p (begun m) in
      let r = later i n.local (Mark ∷ e.scopes) in
      let part = inner w (Part (PassLast h.block)) in
      let body = pass w 2 (GotoLast m.block) j.block in
      let vs : v ≡ part = ve ∙ ap (λ z. inner w (Part (PassLast z))) he in
      let us : u ≡ body = ue ∙ (λ z. pass w 2 (GotoLast (ae z)) (oe z)) in
      let one = part_in ns slots part (Mark ∷ e.scopes) (coming e) i (in_scope e) e1 (record { scopes = refl; coming = refl }) (subst (λ z. EmitsPart ns slots z i (in_scope e) e1) vs hi) in
      let first : At w.hand e (lowered ns slots (Mark ∷ e.scopes) part n i) e1 = record { all = one.at.all; fresh = one.at.fresh } in
      let two = tested_by part r t k.block j.block h e e1 e2 _ first one.stands (ht ∙ (λ z. testing slots (vs z) t (me z) (oe z) (opened e1))) in
      let s = scope_in ns slots body r k b e2 f two.stands (subst (λ z. EmitsScope ns slots z b e2 f) us hb) in
      let q = part_in ns slots part r m p (opened f) g (record { scopes = s.stands.scopes; coming = s.stands.coming }) (subst (λ z. EmitsPart ns slots z p (opened f) g) vs hp) in
      let all = and_then w.hand w.hand e f g _ _ (and_then w.hand w.hand e e2 f _ _ two.at s.at) (reopen w.hand f g _ q.at) in
      let last = later p m.local r in
      let outer : outside g.scopes ≡ e.scopes = ap outside q.stands.scopes ∙ outside_later p m.local r ∙ outside_later i n.local (Mark ∷ e.scopes) in
      subst (Emits ns slots w (ForStmt at i t p b) e) (sym nw)
      (record {
        code = λ z.
            ap₂ (λ x y. with_chunk w.hand (put (drop_of (scope g.scopes)) g) (lowered ns slots x w (begun y) z)) outer q.stands.coming
            ∙ (λ y. record {
              blocks = g.blocks ++ blocks_of w.hand (onto_put (drop_of (scope g.scopes)) g (lowered ns slots e.scopes w (begun j) z) y);
              groups = g.groups ++ (lowered ns slots e.scopes w (begun j) z).groups;
            })
            ∙ ap (λ y. with_chunk w.hand g (dropping (scope y) (lowered ns slots e.scopes w (begun j) z))) q.stands.scopes
            ∙ join w.hand w.hand e g _ (dropping (scope last) (lowered ns slots e.scopes w (begun j) z)) all
            ∙ ap (λ y. with_rest_if ns slots (y || true) e w (ForStmt at i t p b z)) (sym o);
        next = λ z. ap (λ y. y.local + locals_in z) q.stands.coming ∙ ap (λ y. y + locals_in b + locals_in p + locals_in z) (tested_local t (past w.looped.tried i (going e)))
            ∙ for_sums e.next (locals_in i) (locals_in b) (locals_in p) (locals_in z);
        scopes = outer;
        shut = λ z. absurd (no_false z);
      })
    where
      no_false : true ≡ false → ⊥
      no_false h = cc
