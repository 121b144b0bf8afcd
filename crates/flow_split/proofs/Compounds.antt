-- What the code emits for each statement that has bodies.
use Rattle.std.proofs.Common.{◌≡◌, ℕ, ◌+◌, true, false, List, [], refl, ap, subst, ◌∙◌, arith}
use Rattle.flow_base.specs.declared.place.Place.{Place}
use Rattle.flow_tree.specs.Tree.{ExprTree}
use Rattle.flow_tree.specs.Body.{Body, BlockStmt, IfStmt, IfElseStmt, WhileStmt, LoopStmt}
use Rattle.flow_tree.specs.Decls.{SlotTree}
use Rattle.flow_class.specs.Classes.{GotoLast, PassLast, TestLast}
use Rattle.flow_class.specs.Scopes.{over}
use Rattle.flow_meaning.specs.Evaluating.{Names}
use Rattle.flow_split.specs.Around.{Scoped, Around, inner, pass}
use Rattle.flow_split.specs.Counts.{locals_in, begun, past}
use Rattle.flow_split.specs.Lowered.{ends}
use Rattle.flow_split.specs.Emitting.{Emitted, At, going, opened, closed, acted, Emits, EmitsScope}
use Rattle.flow_split.proofs.Joins.{and_then}
use Rattle.flow_split.proofs.Steps.{Stands, ended_plain, ended_acting, scope_begins, scope_goes_on, reopen, finish}

three_sums : (a b c : ℕ) → a + b + c ≡ a + (b + c)
three_sums a b c = omega arith

four_sums : (a b c d : ℕ) → a + b + c + d ≡ a + (b + c + d)
four_sums a b c d = omega arith

module _ (ns : Names) (slots : List SlotTree) (w v : Around) where
  pub block_emits : (e f new : Emitted) (at : Place) (b : Body) (q : ℕ) → e.is_open ≡ true → q ≡ (past w.looped.tried b (going e)).block → v ≡ inner w (Scoped (GotoLast q))
      → EmitsScope ns slots v b e f → new ≡ opened f → Emits ns slots w (BlockStmt at b) e new
  block_emits e f new at b q o qe ve h nw =
      let g : EmitsScope ns slots (inner w (Scoped (GotoLast (past w.looped.tried b (going e)).block))) b e f =
      subst (λ x. EmitsScope ns slots x b e f) (ve ∙ ap (λ x. inner w (Scoped (GotoLast x))) qe) h in
      let s = scope_goes_on ns slots _ b e f g in
      finish ns slots w e f new _ _ (BlockStmt at b) o nw s.at s.stands (λ k. refl) (λ k. three_sums e.next (locals_in b) (locals_in k)) refl

  pub if_emits : (e e1 e2 f new : Emitted) (at : Place) (t x : ExprTree) (b : Body) (y q : ℕ) → e.is_open ≡ true → y ≡ (going e).block → q ≡ (past w.looped.tried b (begun (going e))).block
      → x ≡ over slots e.scopes t → e1 ≡ closed w (TestLast x y q) (acted [] e) → e2 ≡ opened e1 → v ≡ inner w (Scoped (GotoLast q)) → EmitsScope ns slots v b e2 f → new ≡ opened f
      → Emits ns slots w (IfStmt at t b) e new
  if_emits e e1 e2 f new at t x b y q o ye qe xe hx be ve hs nw =
      let h1 = hx ∙ ap (λ z. closed w (TestLast z y q) (acted [] e)) xe in
      let h : EmitsScope ns slots v b (opened e1) f = subst (λ z. EmitsScope ns slots v b z f) be hs in
      let m = past w.looped.tried b (begun (going e)) in
      let one = ended_acting w [] (TestLast (over slots e.scopes t) (going e).block m.block) e e1
      (h1 ∙ ap (λ x. closed w (TestLast (over slots e.scopes t) x q) (acted [] e)) ye ∙ ap (λ x. closed w (TestLast (over slots e.scopes t) (going e).block x) (acted [] e)) qe) in
      let g : EmitsScope ns slots (inner w (Scoped (GotoLast m.block))) b (opened e1) f = subst (λ x. EmitsScope ns slots x b (opened e1) f) (ve ∙ ap (λ x. inner w (Scoped (GotoLast x))) qe) h in
      let s = scope_begins ns slots _ e.scopes (going e) b e1 f one.stands g in
      finish ns slots w e f new _ _ (IfStmt at t b) o nw (and_then w.hand w.hand e e1 f _ _ one.at s.at) s.stands (λ k. refl) (λ k. three_sums e.next (locals_in b) (locals_in k)) refl

  pub if_else_emits : (e e1 e2 f f2 g new : Emitted) (at : Place) (t x : ExprTree) (b c : Body) (y m q : ℕ) → e.is_open ≡ true → y ≡ (going e).block
      → m ≡ (past w.looped.tried b (begun (going e))).block
      → q ≡ (past w.looped.tried c (begun (past w.looped.tried b (begun (going e))))).block
      → x ≡ over slots e.scopes t → e1 ≡ closed w (TestLast x y m) (acted [] e) → e2 ≡ opened e1 → v ≡ inner w (Scoped (GotoLast q)) → EmitsScope ns slots v b e2 f → f2 ≡ opened f
      → EmitsScope ns slots v c f2 g
      → new ≡ opened g → Emits ns slots w (IfElseStmt at t b c) e new
  if_else_emits e e1 e2 f f2 g new at t x b c y m q o ye me qe xe hx be ve hs ce hr nw =
      let h1 = hx ∙ ap (λ z. closed w (TestLast z y m) (acted [] e)) xe in
      let h : EmitsScope ns slots v b (opened e1) f = subst (λ z. EmitsScope ns slots v b z f) be hs in
      let h2 : EmitsScope ns slots v c (opened f) g = subst (λ z. EmitsScope ns slots v c z g) ce hr in
      let n = past w.looped.tried b (begun (going e)) in
      let j = past w.looped.tried c (begun n) in
      let to : v ≡ inner w (Scoped (GotoLast j.block)) = ve ∙ ap (λ x. inner w (Scoped (GotoLast x))) qe in
      let one = ended_acting w [] (TestLast (over slots e.scopes t) (going e).block n.block) e e1
      (h1 ∙ ap (λ x. closed w (TestLast (over slots e.scopes t) x m) (acted [] e)) ye ∙ ap (λ x. closed w (TestLast (over slots e.scopes t) (going e).block x) (acted [] e)) me) in
      let s = scope_begins ns slots (inner w (Scoped (GotoLast j.block))) e.scopes (going e) b e1 f one.stands (subst (λ x. EmitsScope ns slots x b (opened e1) f) to h) in
      let r = scope_begins ns slots (inner w (Scoped (GotoLast j.block))) e.scopes n c f g s.stands (subst (λ x. EmitsScope ns slots x c (opened f) g) to h2) in
      finish ns slots w e g new _ _ (IfElseStmt at t b c) o nw (and_then w.hand w.hand e f g _ _ (and_then w.hand w.hand e e1 f _ _ one.at s.at) r.at) r.stands (λ k. refl)
      (λ k. four_sums e.next (locals_in b) (locals_in c) (locals_in k)) refl

  pub loop_emits : (e e1 e2 f new : Emitted) (at : Place) (b : Body) (y q : ℕ) → e.is_open ≡ true → y ≡ (going e).block → q ≡ (past false b (begun (going e))).block
      → e1 ≡ closed w (PassLast y) e → e2 ≡ opened e1 → v ≡ pass w 1 (PassLast y) q → EmitsScope ns slots v b e2 f → new ≡ opened f → Emits ns slots w (LoopStmt at b) e new
  loop_emits e e1 e2 f new at b y q o ye qe h1 be ve hs nw =
      let h : EmitsScope ns slots v b (opened e1) f = subst (λ z. EmitsScope ns slots v b z f) be hs in
      let m = past false b (begun (going e)) in
      let one = ended_plain w (PassLast (going e).block) e e1 (h1 ∙ ap (λ x. closed w (PassLast x) e) ye) in
      let g : EmitsScope ns slots (pass w 1 (PassLast (going e).block) m.block) b (opened e1) f =
      subst (λ x. EmitsScope ns slots x b (opened e1) f) (ve ∙ ap (λ x. pass w 1 (PassLast x) q) ye ∙ ap (λ x. pass w 1 (PassLast (going e).block) x) qe) h in
      let s = scope_begins ns slots _ e.scopes (going e) b e1 f one.stands g in
      finish ns slots w e f new _ _ (LoopStmt at b) o nw (and_then w.hand w.hand e e1 f _ _ one.at s.at) s.stands (λ k. refl) (λ k. three_sums e.next (locals_in b) (locals_in k)) refl

  pub while_emits : (e e1 d1 e2 d2 f new : Emitted) (at : Place) (t x : ExprTree) (b : Body) (y z q : ℕ) → e.is_open ≡ true → y ≡ (going e).block → z ≡ (begun (going e)).block
      → q ≡ (past false b (begun (begun (going e)))).block
      → x ≡ over slots e.scopes t → e1 ≡ closed w (PassLast y) e → d1 ≡ opened e1 → e2 ≡ closed w (TestLast x z q) (acted [] d1) → d2 ≡ opened e2 → v ≡ pass w 1 (PassLast y) q
      → EmitsScope ns slots v b d2 f → new ≡ opened f → Emits ns slots w (WhileStmt at t b) e new
  while_emits e e1 d1 e2 d2 f new at t x b y z q o ye ze qe xe h1 be hx ce ve hs nw =
      let h2 = hx ∙ ap (λ d. closed w (TestLast x z q) (acted [] d)) be ∙ ap (λ u. closed w (TestLast u z q) (acted [] (opened e1))) xe in
      let h : EmitsScope ns slots v b (opened e2) f = subst (λ u. EmitsScope ns slots v b u f) ce hs in
      let n = going e in
      let m = past false b (begun (begun n)) in
      let one = ended_plain w (PassLast n.block) e e1 (h1 ∙ ap (λ x. closed w (PassLast x) e) ye) in
      let two = ended_acting w [] (TestLast (over slots e.scopes t) (begun n).block m.block) (opened e1) e2
      (h2 ∙ ap (λ x. closed w (TestLast (over slots e.scopes t) x q) (acted [] (opened e1))) ze ∙ ap (λ x. closed w (TestLast (over slots e.scopes t) (begun n).block x) (acted [] (opened e1))) qe) in
      let test : At w.hand e1 (ends w e.scopes true [] (TestLast (over slots e.scopes t) (begun n).block m.block)) e2 =
      subst (λ s. At w.hand e1 (ends w s true [] (TestLast (over slots e.scopes t) (begun n).block m.block)) e2) one.stands.scopes (reopen w.hand e1 e2 _ two.at) in
      let st : Stands e2 e.scopes (begun n) = record { scopes = two.stands.scopes ∙ one.stands.scopes; coming = two.stands.coming ∙ ap begun one.stands.coming } in
      let g : EmitsScope ns slots (pass w 1 (PassLast n.block) m.block) b (opened e2) f =
      subst (λ x. EmitsScope ns slots x b (opened e2) f) (ve ∙ ap (λ x. pass w 1 (PassLast x) q) ye ∙ ap (λ x. pass w 1 (PassLast n.block) x) qe) h in
      let s = scope_begins ns slots _ e.scopes (begun n) b e2 f st g in
      finish ns slots w e f new _ _ (WhileStmt at t b) o nw (and_then w.hand w.hand e e2 f _ _ (and_then w.hand w.hand e e1 e2 _ _ one.at test) s.at) s.stands (λ k. refl)
      (λ k. three_sums e.next (locals_in b) (locals_in k)) refl
