-- An assignment to a path of its type, and where the frame stands behind its instruction.
use Rattle.std.proofs.Common.{◌≡◌, ℕ, Bool, true, false, ◌||◌, List, [], ◌∷◌, refl, sym, ap, ◌∙◌, subst}
use Rattle.std.specs.Option.{option_map}
use Rattle.std.specs.declared.option.Option.{Option}
use Rattle.std.specs.declared.option.Option.TheVariants.{None, Some}
use Rattle.flow_tree.specs.declared.ty.Ident.{Ident}
use Rattle.flow_tree.specs.Tree.{TypeTree}
use Rattle.flow_tree.specs.Decls.{ParamTree, RecordTree}
use Rattle.flow_ast.specs.Typing.{param_named, field_type}
use Rattle.flow_ast.specs.Fits.{fields_type, path_type}
use Rattle.flow_value.specs.Values.{ValueTree}
use Rattle.flow_eval.specs.Records.{field}
use Rattle.flow_eval.specs.Functions.{put_in, read_in, put_at as put_field, place_of}
use Rattle.flow_eval.specs.Typed.{HasType}
use Rattle.flow_eval.proofs.TypedValues.{some_same, none_some}
use Rattle.flow_eval.proofs.TypedAnswers.{field_typed}
use Rattle.flow_eval.proofs.TypedLocals.{field_put}
use Rattle.flow_class.specs.declared.class.Slotted.{Slotted}
use Rattle.flow_class.specs.Classes.{InstrTree, ClassTree}
use Rattle.flow_class.specs.Code.{Body, fetch, type_at}
use Rattle.flow_class.specs.Places.{place_named}
use Rattle.flow_valid.specs.Named.{listed, base_place}
use Rattle.flow_valid.specs.Filling.{same_place, among, filled_path, instr_fills}
use Rattle.flow_meaning.specs.Variables.{filled}
use Rattle.flow_meaning.specs.Evaluating.{bind}
use Rattle.flow_meaning.specs.Frame.{Memory, Frame, read, write, put_root, put_at, assign, next_instr}
use Rattle.flow_progress.specs.Places.{AreNamed, Filled, HoldsTypes}
use Rattle.flow_progress.specs.FramesAtPoints.{Stands}
use Rattle.flow_progress.specs.Asking.{HaveSome}
use Rattle.flow_progress.proofs.Evaluates.{same_self}
use Rattle.flow_progress.proofs.Memories.{place_eq, write_other, write_same, within_of, write_holds}
use Rattle.flow_progress.proofs.Stood.{next_there, reached_next, full_next}

-- a path leads to a value of its type, and one of that type may be put there
module _ (rs : List RecordTree) (typed : ℕ → TypeTree → Type 0) where
  abbrev Reads : List Ident → TypeTree → Type 0
  Reads xs t = (v : ValueTree) (u : TypeTree) → HasType rs typed v u → fields_type rs (Some u) xs ≡ Some t
      → (w : ValueTree) × (read_in rs (Some v) xs ≡ Some w) × HasType rs typed w t

  read_on : (x : Ident) (xs : List Ident) (t : TypeTree) (v : ValueTree) (u : TypeTree) → Reads xs t → HasType rs typed v u
      → (o : Option TypeTree) → field_type rs u x.name ≡ o → fields_type rs o xs ≡ Some t
      → (w : ValueTree) × (read_in rs (field rs v x.name) xs ≡ Some w) × HasType rs typed w t
  read_on x xs t v u go h None is e = none_of xs e
    where
      none_of : (xs : List Ident) → fields_type rs None xs ≡ Some t → (w : ValueTree) × (read_in rs (field rs v x.name) xs ≡ Some w) × HasType rs typed w t
      none_of [] e = none_some t e
      none_of (y ∷ ys) e = none_some t e
  read_on x xs t v u go h (Some y) is e =
      let inner = field_typed rs typed v u x.name y h is in
      let got = go inner.0 y inner.2 e in
      (got.0, ap (λ o. read_in rs o xs) inner.1 ∙ got.1, got.2)

  pub reads_typed : (xs : List Ident) (t : TypeTree) → Reads xs t
  reads_typed [] t v u h e = (v, refl, subst (HasType rs typed v) (some_same u t e) h)
  reads_typed (x ∷ xs) t v u h e = read_on x xs t v u (reads_typed xs t) h (field_type rs u x.name) refl e

  abbrev Puts : List Ident → TypeTree → ValueTree → Type 0
  Puts xs t w = (v : ValueTree) (u : TypeTree) → HasType rs typed v u → fields_type rs (Some u) xs ≡ Some t
      → (z : ValueTree) × (put_in rs (Some v) xs w ≡ Some z) × HasType rs typed z u

  put_on : (x : Ident) (xs : List Ident) (t : TypeTree) (w v : ValueTree) (u : TypeTree) → Puts xs t w → HasType rs typed v u
      → (o : Option TypeTree) → field_type rs u x.name ≡ o → fields_type rs o xs ≡ Some t
      → (z : ValueTree) × (put_field v (place_of rs v x.name) (put_in rs (field rs v x.name) xs w) ≡ Some z) × HasType rs typed z u
  put_on x xs t w v u go h None is e = none_of xs e
    where
      none_of : (xs : List Ident) → fields_type rs None xs ≡ Some t → (z : ValueTree) × (put_field v (place_of rs v x.name) (put_in rs (field rs v x.name) xs w) ≡ Some z) × HasType rs typed z u
      none_of [] e = none_some t e
      none_of (y ∷ ys) e = none_some t e
  put_on x xs t w v u go h (Some y) is e =
      let inner = field_typed rs typed v u x.name y h is in
      let part = go inner.0 y inner.2 e in
      let all = field_put rs typed v u x.name y part.0 h is part.2 in
      (all.0, ap (λ o. put_field v (place_of rs v x.name) (put_in rs o xs w)) inner.1 ∙ ap (put_field v (place_of rs v x.name)) part.1 ∙ all.1, all.2)

  puts_typed : (xs : List Ident) (t : TypeTree) (w : ValueTree) → HasType rs typed w t → Puts xs t w
  puts_typed [] t w k v u h e = (w, refl, subst (HasType rs typed w) (sym (some_same u t e)) k)
  puts_typed (x ∷ xs) t w k v u h e = put_on x xs t w v u (puts_typed xs t w k) h (field_type rs u x.name) refl e

  pub read_some : (c : ClassTree) (m : Memory) (q : Slotted) (t : TypeTree) → HoldsTypes rs typed c m → type_at c q ≡ Some t → HaveSome rs typed (filled (read m q ∷ []))
  read_some c m q t holds at = by_value (read m q) refl
    where
      by_value : (o : Option ValueTree) → read m q ≡ o → HaveSome rs typed (filled (o ∷ []))
      by_value None e = tt
      by_value (Some v) e = ((t, holds.types q t v at e), tt)

-- what an assignment comes to: one place is written
pub record Assigned (rs : List RecordTree) (typed : ℕ → TypeTree → Type 0) (c : ClassTree) (m : Memory) (path : List Ident) (u : ValueTree) : Type 0 where
  pub place : Slotted
  pub type : TypeTree
  pub value : ValueTree
  pub old : List ValueTree
  pub is : assign rs m path u ≡ Some (old, write m place (Some value))
  pub at : type_at c place ≡ Some type
  pub fits : HasType rs typed value type
  pub dropped : HaveSome rs typed old
  pub fills : (q : Slotted) → among (filled_path path) q ≡ true → q ≡ place

module _ (rs : List RecordTree) (typed : ℕ → TypeTree → Type 0) (c : ClassTree) (vars : List ParamTree) (named_so : AreNamed c vars) (m : Memory) (holds : HoldsTypes rs typed c m) where
  only : (o : Option Slotted) (p : Slotted) → o ≡ Some p → (q : Slotted) → among (listed o) q ≡ true → q ≡ p
  only None p e q h = none_some p e
  only (Some x) p e q h = place_eq q x (first (same_place q x) h) ∙ some_same x p e
    where
      first : (b : Bool) → b || false ≡ true → b ≡ true
      first true h = refl
      first false h = h

  at_place : (x : Ident) (xs : List Ident) (t : TypeTree) (u : ValueTree) (p : ParamTree) (q : Slotted) → place_named x.name ≡ Some q → type_at c q ≡ Some p.ty → fields_type rs (Some p.ty) xs ≡ Some t
      → HasType rs typed u t
      → ((z : Slotted) → among (base_place (x ∷ xs)) z ≡ true → Filled m z) → Assigned rs typed c m (x ∷ xs) u
  at_place x [] t u p q named at e k full = record {
    place = q;
    type = p.ty;
    value = u;
    old = filled (read m q ∷ []);
    is = ap (λ o. bind o (λ p. put_at rs m p [] u)) named;
    at = at;
    fits = subst (HasType rs typed u) (sym (some_same p.ty t e)) k;
    dropped = read_some rs typed c m q p.ty holds at;
    fills = only (place_named x.name) q named;
  }
  at_place x (y ∷ ys) t u p q named at e k full =
      let v = full q (ap (λ o. among (listed o) q) named ∙ ap (λ b. b || false) (same_self q)) in
      let h = holds.types q p.ty v.0 at v.1 in
      let put = puts_typed rs typed (y ∷ ys) t u k v.0 p.ty h e in
      let got = reads_typed rs typed (y ∷ ys) t v.0 p.ty h e in record {
        place = q;
        type = p.ty;
        value = put.0;
        old = filled (read_in rs (read m q) (y ∷ ys) ∷ []);
        is = ap (λ o. bind o (λ p. put_at rs m p (y ∷ ys) u)) named ∙ ap (put_root m q (filled (read_in rs (read m q) (y ∷ ys) ∷ []))) (ap (λ o. put_in rs o (y ∷ ys) u) v.1 ∙ put.1);
        at = at;
        fits = put.2;
        dropped = subst (λ o. HaveSome rs typed (filled (o ∷ []))) (sym (ap (λ o. read_in rs o (y ∷ ys)) v.1 ∙ got.1)) ((t, got.2), tt);
        fills = λ z h. absurd (no_true h);
      }
    where
      no_true : false ≡ true → ⊥
      no_true h = cc

  pub assigns : (path : List Ident) (t : TypeTree) (u : ValueTree) → path_type rs vars path ≡ Some t → HasType rs typed u t → ((z : Slotted) → among (base_place path) z ≡ true → Filled m z)
      → Assigned rs typed c m path u
  assigns [] t u e k full = none_some t e
  assigns (x ∷ xs) t u e k full = by_var (param_named vars x.name) refl e
    where
      no_fields : (xs : List Ident) → fields_type rs None xs ≡ Some t → Assigned rs typed c m (x ∷ xs) u
      no_fields [] e = none_some t e
      no_fields (y ∷ ys) e = none_some t e

      by_var : (o : Option ParamTree) → param_named vars x.name ≡ o → fields_type rs (option_map (λ (p : ParamTree). p.ty) o) xs ≡ Some t → Assigned rs typed c m (x ∷ xs) u
      by_var None q e = no_fields xs e
      by_var (Some p) q e = let n = named_so x.name p q in at_place x xs t u p n.0 n.1 n.2 e k full

-- behind an instruction that wrote one place
pub written_next : (rs : List RecordTree) (typed : ℕ → TypeTree → Type 0) (f : Frame) (i : InstrTree) (q : Slotted) (t : TypeTree) (z : ValueTree) → Stands rs typed f
    → fetch f.code f.block f.instr ≡ Body i
    → type_at f.code q ≡ Some t → HasType rs typed z t → ((p : Slotted) → among (instr_fills i) p ≡ true → p ≡ q) → Stands rs typed (next_instr (write f.mem q (Some z)) f)
written_next rs typed f i q t z s at has fits only = record {
  there = next_there f.code f.block f.instr i at;
  reached = reached_next f.code f.block f.instr i at s.reached;
  full = full_next f.code f.mem (write f.mem q (Some z)) f.block f.instr i at s.reached s.full (λ p u e h. subst (Filled (write f.mem q (Some z))) (sym (only p h)) (z, here))
      (λ p a b k. kept p k (same_place p q) refl);
  holds = write_holds rs typed f.code f.mem q t z s.holds has fits;
}
  where
    here : read (write f.mem q (Some z)) q ≡ Some z
    here = write_same f.mem q (Some z) (within_of f.code f.mem q t s.holds.slots s.holds.locals has)

    kept : (p : Slotted) → Filled f.mem p → (b : Bool) → same_place p q ≡ b → Filled (write f.mem q (Some z)) p
    kept p k true e = subst (Filled (write f.mem q (Some z))) (sym (place_eq p q e)) (z, here)
    kept p k false e = (k.0, write_other f.mem q p (Some z) e ∙ k.1)

-- behind one that wrote nothing
pub untouched_next : (rs : List RecordTree) (typed : ℕ → TypeTree → Type 0) (f : Frame) (i : InstrTree) → Stands rs typed f → fetch f.code f.block f.instr ≡ Body i
    → ((p : Slotted) → among (instr_fills i) p ≡ true → ⊥) → Stands rs typed (next_instr f.mem f)
untouched_next rs typed f i s at no_fills = record {
  there = next_there f.code f.block f.instr i at;
  reached = reached_next f.code f.block f.instr i at s.reached;
  full = full_next f.code f.mem f.mem f.block f.instr i at s.reached s.full (λ p u e h. absurd (no_fills p h)) (λ p a b k. k);
  holds = s.holds;
}
