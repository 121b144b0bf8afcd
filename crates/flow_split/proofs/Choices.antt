-- The callbacks of a choose, and its branches one after another.
use Rattle.std.proofs.Common.{◌≡◌, ℕ, suc, ◌+◌, ◌<◌, ◌≤◌, Bool, List, [], ◌∷◌, ◌++◌, length, drop, get_or, refl, ap, ap₂, sym, subst, ◌∙◌, arith, append_assoc}
use Rattle.std.proofs.lemmas.List.{drop_more, drop_all, append-nil, map-append}
use Rattle.flow_tree.specs.declared.stmt.When.{When, out-When}
use Rattle.flow_tree.specs.StmtView.{waiting_of, body_of, branch_of, branches_of}
use Rattle.flow_tree.specs.Body.{Branches, NoBranches, MoreBranches}
use Rattle.flow_tree.specs.Decls.{SlotTree}
use Rattle.flow_class.specs.Classes.{CallbackTree}
use Rattle.flow_class.specs.View.{callback_of}
use Rattle.flow_class.specs.declared.class.Callback.{Callback}
use Rattle.flow_class.specs.Scopes.{Scope, Mark}
use Rattle.flow_meaning.specs.Evaluating.{Names}
use Rattle.flow_split.specs.Around.{Around}
use Rattle.flow_split.specs.Counts.{blocks_in, branch_blocks, groups_in, locals_in, branch_local_count, into_count, Next, begun, taken, grouped}
use Rattle.flow_split.specs.Lowered.{Chunk, joined, with_taken, callback, callbacks, lowered, branches}
use Rattle.flow_split.specs.Emitting.{Emitted, At, coming, going, opened, callbacks_of, waiting_for, EmitsWhen, EmitsBranch, EmitsBranches}
use Rattle.flow_split.proofs.Joins.{and_then}
use Rattle.flow_split.proofs.Steps.{branch_begins}
use Rattle.flow_layout.proofs.StmtKinds.{when_is}

branch_sums : (a b c d : ℕ) → (a + b) + c + d ≡ b + (a + c + d)
branch_sums a b c d = omega arith

block_sum : (a b n : ℕ) → suc b + 0 ≡ n + 0 → suc a + b ≡ a + n
block_sum a b n h = omega (arith, h)

local_sum : (c a b m : ℕ) → c + b + 0 ≡ m + 0 → (c + a) + b ≡ a + m
local_sum c a b m h = omega (arith, h)

module _ (ns : Names) (slots : List SlotTree) where
  -- the number of a group has no part in them
  pub same_callbacks : (bs : Branches) (s : Scope) (t : Bool) (b l g h : ℕ)
      → callbacks ns slots s t (record { block = b; local = l; group = g }) bs ≡ callbacks ns slots s t (record { block = b; local = l; group = h }) bs
  same_callbacks NoBranches s t b l g h = refl
  same_callbacks (MoreBranches at w body bs) s t b l g h =
      ap (λ x. callback ns slots s w l b ∷ x) (same_callbacks bs s t (suc b + blocks_in t body) (into_count w.into + l + locals_in body) (g + groups_in body) (h + groups_in body))

  pub choose_waits : (w : Around) (e e1 : Emitted) (bs : Branches) (cs : List CallbackTree) (first : ℕ) → first ≡ (going e).block
      → cs ≡ callbacks ns slots e.scopes w.looped.tried (record { block = first; local = e.next; group = 0 }) bs → e1 ≡ waiting_for w cs e
      → e1 ≡ waiting_for w (callbacks ns slots e.scopes w.looped.tried (grouped (going e)) bs) e
  choose_waits w e e1 bs cs first fe ce h =
      h ∙ ap (λ x. waiting_for w x e)
      (ce ∙ ap (λ b. callbacks ns slots e.scopes w.looped.tried (record { block = b; local = e.next; group = 0 }) bs) fe
      ∙ same_callbacks bs e.scopes w.looped.tried (going e).block e.next 0 (grouped (going e)).group)

  -- one callback more
  pub callbacks_next : (s : Scope) (t : Bool) (ws : List When) (i : ℕ) (v : When) (xs ys : List Callback) (k : Callback) (block next n m : ℕ) (whole : List CallbackTree) → i < length ws
      → v ≡ get_or ws i v
      → ys ≡ xs ++ k ∷ [] → callback_of k ≡ callback ns slots s (waiting_of (out-When v).waiting) next block
      → ((bs : Branches) → branch_blocks t (branch_of v bs) ≡ n + branch_blocks t bs) → ((bs : Branches) → branch_local_count (branch_of v bs) ≡ m + branch_local_count bs)
      → callbacks_of xs ++ callbacks ns slots s t (record { block = block; local = next; group = 0 }) (branches_of (drop i ws)) ≡ whole
      → callbacks_of ys ++ callbacks ns slots s t (record { block = block + n; local = next + m; group = 0 }) (branches_of (drop (i + 1) ws)) ≡ whole
  callbacks_next s t ws i v xs ys k block next n m whole lt got push one hb hl h =
      let rest = branches_of (drop (i + 1) ws) in
      let b = body_of (out-When v).body.items in
      let w = waiting_of (out-When v).waiting in
      let split : branches_of (drop i ws) ≡ branch_of v rest = ap branches_of (drop_more ws i v lt) ∙ sym (ap (λ x. branch_of x rest) got) in
      let as_branch : (r : Branches) → branch_of v r ≡ MoreBranches (out-When v).at w b r = λ r. ap (λ f. f r) (when_is v) in
      let eb : suc block + blocks_in t b ≡ block + n = block_sum block (blocks_in t b) n (ap (branch_blocks t) (sym (as_branch NoBranches)) ∙ hb NoBranches) in
      let el : (into_count w.into + next) + locals_in b ≡ next + m = local_sum (into_count w.into) next (locals_in b) m (ap branch_local_count (sym (as_branch NoBranches)) ∙ hl NoBranches) in
      ap (λ x. callbacks_of x ++ callbacks ns slots s t (record { block = block + n; local = next + m; group = 0 }) rest) push
      ∙ ap (λ x. x ++ callbacks ns slots s t (record { block = block + n; local = next + m; group = 0 }) rest) (map-append callback_of xs (k ∷ []))
      ∙ append_assoc (callbacks_of xs) (callback_of k ∷ []) (callbacks ns slots s t (record { block = block + n; local = next + m; group = 0 }) rest)
      ∙ ap (λ x. callbacks_of xs ++ x ∷ callbacks ns slots s t (record { block = block + n; local = next + m; group = 0 }) rest) one
      ∙ ap (λ x. callbacks_of xs ++ callback ns slots s w next block ∷ x)
      (same_callbacks rest s t (block + n) (next + m) 0 (0 + groups_in b) ∙ ap₂ (λ x y. callbacks ns slots s t (record { block = x; local = y; group = 0 + groups_in b }) rest) (sym eb) (sym el))
      ∙ ap (λ x. callbacks_of xs ++ callbacks ns slots s t (record { block = block; local = next; group = 0 }) x) (sym (split ∙ as_branch rest))
      ∙ h

  pub callbacks_more : (s : Scope) (t : Bool) (ws : List When) (i : ℕ) (v : When) (xs ys : List Callback) (k : Callback) (block next n m block2 next2 : ℕ) (whole : List CallbackTree) → i < length ws
      → v ≡ get_or ws i v
      → ys ≡ xs ++ k ∷ [] → callback_of k ≡ callback ns slots s (waiting_of (out-When v).waiting) next block
      → ((bs : Branches) → branch_blocks t (branch_of v bs) ≡ n + branch_blocks t bs) → ((bs : Branches) → branch_local_count (branch_of v bs) ≡ m + branch_local_count bs)
      → block2 ≡ block + n → next2 ≡ next + m
      → callbacks_of xs ++ callbacks ns slots s t (record { block = block; local = next; group = 0 }) (branches_of (drop i ws)) ≡ whole
      → callbacks_of ys ++ callbacks ns slots s t (record { block = block2; local = next2; group = 0 }) (branches_of (drop (i + 1) ws)) ≡ whole
  callbacks_more s t ws i v xs ys k block next n m block2 next2 whole lt got push one hb hl be le h =
      ap₂ (λ x y. callbacks_of ys ++ callbacks ns slots s t (record { block = x; local = y; group = 0 }) (branches_of (drop (i + 1) ws))) be le
      ∙ callbacks_next s t ws i v xs ys k block next n m whole lt got push one hb hl h

  pub callbacks_end : (s : Scope) (t : Bool) (ws : List When) (i : ℕ) (n : Next) (cs whole : List CallbackTree) → length ws ≤ i
      → cs ++ callbacks ns slots s t n (branches_of (drop i ws)) ≡ whole → cs ≡ whole
  callbacks_end s t ws i n cs whole le h = sym (append-nil cs) ∙ ap (λ x. cs ++ callbacks ns slots s t n (branches_of x)) (sym (drop_all i ws le)) ∙ h

  -- so far: the branches from here on come behind what was emitted
  pub record Branching (w : Around) (whole rest : Branches) (old now : Emitted) : Type 0 where
    pub all : (e : Emitted) (c : Chunk) → At w.hand e c old
        → (d : Chunk) × (At w.hand e d now × (branches ns slots c old.scopes w (coming old) whole ≡ branches ns slots d now.scopes w (coming now) rest))
    pub next : now.next + branch_local_count rest ≡ old.next + branch_local_count whole
    pub scopes : now.scopes ≡ old.scopes

  pub branching_first : (w : Around) (bs : Branches) (e : Emitted) → Branching w bs bs e e
  branching_first w bs e = record { all = λ x c a. (c, (a, refl)); next = refl; scopes = refl }

  only_branch : (w : Around) (v : When) (e f : Emitted) → EmitsWhen ns slots w (branch_of v) e f
      → EmitsBranch ns slots w (waiting_of (out-When v).waiting).into (body_of (out-When v).body.items) e f
  only_branch w v e f h = subst (λ g. EmitsWhen ns slots w g e f) (when_is v) h

  pub when_branch : (w : Around) (v : When) (e f : Emitted) → EmitsBranch ns slots w (waiting_of (out-When v).waiting).into (body_of (out-When v).body.items) e f
      → EmitsWhen ns slots w (branch_of v) e f
  when_branch w v e f h = subst (λ g. EmitsWhen ns slots w g e f) (sym (when_is v)) h

  next_by : (w : Around) (v : When) (k : Branches) (whole : Branches) (e0 e e1 e2 : Emitted) → e1 ≡ opened e
      → EmitsBranch ns slots w (waiting_of (out-When v).waiting).into (body_of (out-When v).body.items) e1 e2
      → Branching w whole (branch_of v k) e0 e → Branching w whole k e0 e2
  next_by w v k whole e0 e e1 e2 be h g =
      let i = (waiting_of (out-When v).waiting).into in
      let b = body_of (out-When v).body.items in
      let hb : EmitsBranch ns slots w i b (opened e) e2 = subst (λ x. EmitsBranch ns slots w i b x e2) be h in
      let r = branch_begins ns slots w i e.scopes (coming e) b e e2 (record { scopes = refl; coming = refl }) hb in
      let split : branch_of v k ≡ MoreBranches (out-When v).at (waiting_of (out-When v).waiting) b k = ap (λ f. f k) (when_is v) in
      let body = lowered ns slots (with_taken i e.next (Mark ∷ e.scopes)) w (taken i (begun (coming e))) b in
      record {
        all = λ x c a.
            let d = g.all x c a in
            let more = joined w.hand d.0 body in (
              more,
              (
                and_then w.hand w.hand x e e2 _ _ d.1.0 r.at,
                d.1.1 ∙ ap (branches ns slots d.0 e.scopes w (coming e)) split ∙ ap₂ (λ s n. branches ns slots more s w n k) (sym r.stands.scopes) (sym r.stands.coming),
              ),
            );
        next = ap (λ n. n + branch_local_count k) h.next ∙ ap (λ x. ((into_count i + x.next) + locals_in b) + branch_local_count k) be
            ∙ branch_sums (into_count i) e.next (locals_in b) (branch_local_count k) ∙ ap (λ x. e.next + branch_local_count x) (sym split) ∙ g.next;
        scopes = h.scopes ∙ ap (λ x. x.scopes) be ∙ g.scopes;
      }

  pub branching_next : (w : Around) (whole : Branches) (ws : List When) (i : ℕ) (v : When) (e0 e e1 e2 : Emitted) → i < length ws → v ≡ get_or ws i v → e1 ≡ opened e
      → EmitsWhen ns slots w (branch_of v) e1 e2 → Branching w whole (branches_of (drop i ws)) e0 e → Branching w whole (branches_of (drop (i + 1) ws)) e0 e2
  branching_next w whole ws i v e0 e e1 e2 lt got be h g =
      let k = branches_of (drop (i + 1) ws) in
      let split : branch_of v k ≡ branches_of (drop i ws) = ap (λ x. branch_of x k) got ∙ ap branches_of (sym (drop_more ws i v lt)) in
      next_by w v k whole e0 e e1 e2 be (only_branch w v e1 e2 h) (subst (λ x. Branching w whole x e0 e) (sym split) g)

  pub all_branches : (w : Around) (ws : List When) (i : ℕ) (e0 e : Emitted) → length ws ≤ i → Branching w (branches_of ws) (branches_of (drop i ws)) e0 e
      → EmitsBranches ns slots w (branches_of ws) e0 e
  all_branches w ws i e0 e le g =
      let r : Branching w (branches_of ws) NoBranches e0 e = subst (λ x. Branching w (branches_of ws) (branches_of x) e0 e) (drop_all i ws le) g in
      record {
        all = λ x c a. let d = r.all x c a in subst (λ z. At w.hand x z e) (sym d.1.1) d.1.0;
        next = sym (plus_zero e.next) ∙ r.next;
        scopes = r.scopes;
      }
    where
      plus_zero : (n : ℕ) → n + 0 ≡ n
      plus_zero n = omega arith
