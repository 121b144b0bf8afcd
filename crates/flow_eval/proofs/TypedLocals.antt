-- Well-typed variables of a function: look-ups, declarations, scopes, and assignments into fields.
use Rattle.std.proofs.Common.{◌≡◌, ℕ, zero, suc, Bool, true, false, cond, not, List, [], ◌∷◌, ◌++◌, length, take, position, slice_get, refl, ap, sym, subst, ◌∙◌, one-add, ◌+◌, ltb, if◌then◌else◌}
use Rattle.std.specs.Prelude.{slice_set}
use Rattle.std.specs.List.{position_or_len}
use Rattle.std.specs.Option.{option_map}
use Rattle.std.specs.Str.{bytes_eq}
use Rattle.std.specs.declared.option.Option.{Option}
use Rattle.std.specs.declared.option.Option.TheVariants.{None, Some}
use Rattle.flow_tree.specs.declared.ty.Ident.{Ident}
use Rattle.flow_tree.specs.Tree.{TypeTree}
use Rattle.flow_tree.specs.Decls.{ParamTree, RecordTree}
use Rattle.flow_ast.specs.TypingNames.{named}
use Rattle.flow_ast.specs.Typing.{param_named, param_types, field_type}
use Rattle.flow_value.specs.declared.value.Kind.TheVariants.{Promise, Future, PromiseStream, FutureStream}
use Rattle.flow_value.specs.Values.{ValueTree, IntValue, BoolValue, TextValue, VoidValue, ErrorValue, CompositeValue, RefValue, values_of_list, value_put, RecordWhole, ListWhole}
use Rattle.flow_eval.specs.Records.{field}
use Rattle.flow_eval.specs.Functions.{Locals, bound, with_first, entered, put_at, place_of, put_in, read_in, read_path, put_at_var, put_place, put_path}
use Rattle.flow_ast.specs.Fits.{fields_type, path_type}
use Rattle.flow_eval.specs.Typed.{HasType, HaveTypes, VariablesFit}
use Rattle.flow_eval.proofs.TypedValues.{some_same, none_some, bytes_sym, ltb_yes, there_within, field_at, value_put_fits}
use Rattle.flow_eval.proofs.TypedAnswers.{field_typed}

module _ (rs : List RecordTree) (typed : ℕ → TypeTree → Type 0) where
  -- variables stand in the order of these names and types
  abbrev pub LocalsFit : List ParamTree → Locals → Type 0
  LocalsFit [] [] = Unit {0}
  LocalsFit [] (v ∷ ls) = ⊥
  LocalsFit (p ∷ ps) [] = ⊥
  LocalsFit (p ∷ ps) (v ∷ ls) = (p.name.name ≡ v.0) × HasType rs typed v.1 p.ty × LocalsFit ps ls

  found_by : (b : Bool) (p q : ParamTree) (v : ValueTree) (o : Option ParamTree) (r : Option ValueTree) → HasType rs typed v p.ty
      → (o ≡ Some q → (w : ValueTree) × (r ≡ Some w) × HasType rs typed w q.ty)
      → cond b (Some p) o ≡ Some q → (w : ValueTree) × ((if b then Some v else r) ≡ Some w) × HasType rs typed w q.ty
  found_by true p q v o r h k e = (v, refl, subst (λ (p : ParamTree). HasType rs typed v p.ty) (some_same p q e) h)
  found_by false p q v o r h k e = k e

  pub locals_look : (ps : List ParamTree) (ls : Locals) → LocalsFit ps ls → VariablesFit rs typed (named ls) ps
  locals_look [] [] h x q e = none_some q e
  locals_look [] (v ∷ ls) h x q e = absurd h
  locals_look (p ∷ ps) [] h x q e = absurd h
  locals_look (p ∷ ps) (v ∷ ls) h x q e =
      let turned : bytes_eq p.name.name x ≡ bytes_eq x v.0 = bytes_sym p.name.name x ∙ ap (bytes_eq x) h.0 in
      found_by (bytes_eq x v.0) p q v.1 (param_named ps x) (named ls x) h.1 (locals_look ps ls h.2 x q)
      (subst (λ b. cond b (Some p) (param_named ps x) ≡ Some q) turned e)

  pub bound_fits : (ps : List ParamTree) (ls : Locals) (x : Ident) (t : TypeTree) (v : ValueTree) → LocalsFit ps ls → HasType rs typed v t
      → LocalsFit (ps ++ record { ty = t; name = x } ∷ []) (bound ls x.name v)
  bound_fits [] [] x t v h k = (refl, k, tt {0})
  bound_fits [] (w ∷ ls) x t v h k = absurd h
  bound_fits (p ∷ ps) [] x t v h k = absurd h
  bound_fits (p ∷ ps) (w ∷ ls) x t v h k = (h.0, h.1, bound_fits ps ls x t v h.2 k)

  pub entered_fits : (ps : List ParamTree) (vs : List ValueTree) → HaveTypes rs typed (values_of_list vs) (param_types ps) → (ls : Locals) × (entered ps vs ≡ Some ls) × LocalsFit ps ls
  entered_fits [] [] h = ([], refl, tt {0})
  entered_fits [] (v ∷ vs) h = let d = h.2 in absurd (cc)
  entered_fits (p ∷ ps) [] h = absurd (cc)
  entered_fits (p ∷ ps) (v ∷ vs) h =
      let first : p.ty ≡ h.0 = let d = h.2 in cc in
      let rest : param_types ps ≡ h.1 = let d = h.2 in cc in
      let k = entered_fits ps vs (subst (HaveTypes rs typed (values_of_list vs)) (sym rest) h.4) in
      ((p.name.name, v) ∷ k.0, ap (with_first (p.name.name, v)) k.1, (refl, subst (HasType rs typed v) (sym first) h.3, k.2))

  pub locals_count : (ps : List ParamTree) (ls : Locals) → LocalsFit ps ls → length ls ≡ length ps
  locals_count [] [] h = refl
  locals_count [] (v ∷ ls) h = absurd h
  locals_count (p ∷ ps) [] h = absurd h
  locals_count (p ∷ ps) (v ∷ ls) h = ap suc (locals_count ps ls h.2)

  pub cut_fits : (ps qs : List ParamTree) (ls : Locals) → LocalsFit (ps ++ qs) ls → LocalsFit ps (take (length ps) ls)
  cut_fits [] qs ls h = tt {0}
  cut_fits (p ∷ ps) qs [] h = absurd h
  cut_fits (p ∷ ps) qs (v ∷ ls) h = (h.0, h.1, cut_fits ps qs ls h.2)

  -- a variable's place, its value, and that another value of its type may stand there
  abbrev pub PlaceFits : List ParamTree → Locals → List ℕ → TypeTree → Type 0
  PlaceFits ps ls x t =
      (k : ℕ) × (v : List ℕ × ValueTree) × (position_or_len (λ (v : List ℕ × ValueTree). bytes_eq x v.0) ls ≡ k) × (slice_get ls k ≡ Some v)
      × HasType rs typed v.1 t × ((u : ValueTree) → HasType rs typed u t → LocalsFit ps (slice_set ls k (v.0, u)))

  place_by : (b : Bool) (p q : ParamTree) (ps : List ParamTree) (v : List ℕ × ValueTree) (ls : Locals) (x : List ℕ) (o : Option ParamTree) (n : ℕ)
      → LocalsFit (p ∷ ps) (v ∷ ls)
      → (o ≡ Some q → (k : ℕ) × (w : List ℕ × ValueTree) × (n ≡ k) × (slice_get ls k ≡ Some w)
      × HasType rs typed w.1 q.ty × ((u : ValueTree) → HasType rs typed u q.ty → LocalsFit ps (slice_set ls k (w.0, u))))
      → cond b (Some p) o ≡ Some q
      → (k : ℕ) × (w : List ℕ × ValueTree) × (cond (not b) (1 + n) zero ≡ k) × (slice_get (v ∷ ls) k ≡ Some w)
      × HasType rs typed w.1 q.ty × ((u : ValueTree) → HasType rs typed u q.ty → LocalsFit (p ∷ ps) (slice_set (v ∷ ls) k (w.0, u)))
  place_by true p q ps v ls x o n h k e =
      let same : p ≡ q = some_same p q e in (
        zero,
        v,
        refl,
        refl,
        subst (λ (p : ParamTree). HasType rs typed v.1 p.ty) same h.1,
        λ u g. (h.0, subst (λ (p : ParamTree). HasType rs typed u p.ty) (sym same) g, h.2),
      )
  place_by false p q ps v ls x o n h k e =
      let at = k e in
      (suc at.0, at.1, ap (λ n. 1 + n) at.2 ∙ one-add at.0, at.3, at.4, λ u g. (h.0, h.1, at.5 u g))

  pub place_fits : (ps : List ParamTree) (ls : Locals) (x : List ℕ) (q : ParamTree) → LocalsFit ps ls → param_named ps x ≡ Some q → PlaceFits ps ls x q.ty
  place_fits [] [] x q h e = none_some q e
  place_fits [] (v ∷ ls) x q h e = absurd h
  place_fits (p ∷ ps) [] x q h e = absurd h
  place_fits (p ∷ ps) (v ∷ ls) x q h e =
      let turned : bytes_eq p.name.name x ≡ bytes_eq x v.0 = bytes_sym p.name.name x ∙ ap (bytes_eq x) h.0 in
      place_by (bytes_eq x v.0) p q ps v ls x (param_named ps x) (position_or_len (λ (v : List ℕ × ValueTree). bytes_eq x v.0) ls) h (place_fits ps ls x q h.2)
      (subst (λ b. cond b (Some p) (param_named ps x) ≡ Some q) turned e)

  -- a field with another value of its type
  pub field_put : (v : ValueTree) (u : TypeTree) (x : List ℕ) (t : TypeTree) (w : ValueTree) → HasType rs typed v u → field_type rs u x ≡ Some t → HasType rs typed w t
      → (z : ValueTree) × (put_at v (place_of rs v x) (Some w) ≡ Some z) × HasType rs typed z u
  field_put (IntValue n) u x t w h e k = none_some t (sym (ap (λ u. field_type rs u x) h) ∙ e)
  field_put (BoolValue b) u x t w h e k = none_some t (sym (ap (λ u. field_type rs u x) h) ∙ e)
  field_put (TextValue s) u x t w h e k = none_some t (sym (ap (λ u. field_type rs u x) h) ∙ e)
  field_put VoidValue u x t w h e k = none_some t (sym (ap (λ u. field_type rs u x) h) ∙ e)
  field_put (ErrorValue n) u x t w h e k = none_some t (sym (ap (λ u. field_type rs u x) h) ∙ e)
  field_put (CompositeValue (RecordWhole r) vs) u x t w h e k =
      let m = h.1 in
      let at = field_at rs m.name r m.call x t m.placed m.called (sym (ap (λ u. field_type rs u x) m.named) ∙ e) in (
        CompositeValue (RecordWhole r) (value_put vs at.0 w),
        ap (λ o. put_at (CompositeValue (RecordWhole r) vs) o (Some w)) at.1,
        (h.0, m, value_put_fits rs typed vs h.0 at.0 t w h.2 (ap (λ l. slice_get l at.0) m.fields ∙ at.2) k),
      )
  field_put (CompositeValue ListWhole vs) u x t w h e k = none_some t (sym (ap (λ u. field_type rs u x) h.1.1) ∙ e)
  field_put (RefValue Promise c) u x t w h e k = none_some t (sym (ap (λ u. field_type rs u x) h.1) ∙ e)
  field_put (RefValue Future c) u x t w h e k = none_some t (sym (ap (λ u. field_type rs u x) h.1) ∙ e)
  field_put (RefValue PromiseStream c) u x t w h e k = none_some t (sym (ap (λ u. field_type rs u x) h.1) ∙ e)
  field_put (RefValue FutureStream c) u x t w h e k = none_some t (sym (ap (λ u. field_type rs u x) h.1) ∙ e)

  -- a path leads to a value of its type, and one of that type may be put there
  abbrev ReadsIn : List Ident → TypeTree → Type 0
  ReadsIn xs t = (v : ValueTree) (u : TypeTree) → HasType rs typed v u → fields_type rs (Some u) xs ≡ Some t
      → (w : ValueTree) × (read_in rs (Some v) xs ≡ Some w) × HasType rs typed w t

  read_on : (x : Ident) (xs : List Ident) (t : TypeTree) (v : ValueTree) (u : TypeTree) → ReadsIn xs t → HasType rs typed v u
      → (o : Option TypeTree) → field_type rs u x.name ≡ o → fields_type rs o xs ≡ Some t
      → (w : ValueTree) × (read_in rs (field rs v x.name) xs ≡ Some w) × HasType rs typed w t
  read_on x xs t v u go h None is e = none_some t e
  read_on x xs t v u go h (Some y) is e =
      let inner = field_typed rs typed v u x.name y h is in
      let got = go inner.0 y inner.2 e in
      (got.0, ap (λ o. read_in rs o xs) inner.1 ∙ got.1, got.2)

  read_in_fits : (xs : List Ident) (t : TypeTree) → ReadsIn xs t
  read_in_fits [] t v u h e = (v, refl, subst (HasType rs typed v) (some_same u t e) h)
  read_in_fits (x ∷ xs) t v u h e = read_on x xs t v u (read_in_fits xs t) h (field_type rs u x.name) refl e

  abbrev PutsIn : List Ident → TypeTree → ValueTree → Type 0
  PutsIn xs t w = (v : ValueTree) (u : TypeTree) → HasType rs typed v u → fields_type rs (Some u) xs ≡ Some t
      → (z : ValueTree) × (put_in rs (Some v) xs w ≡ Some z) × HasType rs typed z u

  put_on : (x : Ident) (xs : List Ident) (t : TypeTree) (w v : ValueTree) (u : TypeTree) → PutsIn xs t w → HasType rs typed v u
      → (o : Option TypeTree) → field_type rs u x.name ≡ o → fields_type rs o xs ≡ Some t
      → (z : ValueTree) × (put_at v (place_of rs v x.name) (put_in rs (field rs v x.name) xs w) ≡ Some z) × HasType rs typed z u
  put_on x xs t w v u go h None is e = none_some t e
  put_on x xs t w v u go h (Some y) is e =
      let inner = field_typed rs typed v u x.name y h is in
      let part = go inner.0 y inner.2 e in
      let whole = field_put v u x.name y part.0 h is part.2 in
      (whole.0, ap (λ o. put_at v (place_of rs v x.name) (put_in rs o xs w)) inner.1 ∙ ap (put_at v (place_of rs v x.name)) part.1 ∙ whole.1, whole.2)

  put_in_fits : (xs : List Ident) (t : TypeTree) (w : ValueTree) → HasType rs typed w t → PutsIn xs t w
  put_in_fits [] t w k v u h e = (w, refl, subst (HasType rs typed w) (sym (some_same u t e)) k)
  put_in_fits (x ∷ xs) t w k v u h e = put_on x xs t w v u (put_in_fits xs t w k) h (field_type rs u x.name) refl e

  pub path_reads : (ps : List ParamTree) (ls : Locals) (xs : List Ident) (t : TypeTree) → LocalsFit ps ls → path_type rs ps xs ≡ Some t
      → (w : ValueTree) × (read_path rs ls xs ≡ Some w) × HasType rs typed w t
  path_reads ps ls [] t h e = none_some t e
  path_reads ps ls (x ∷ xs) t h e = by (param_named ps x.name) refl e
    where
      by : (o : Option ParamTree) → param_named ps x.name ≡ o → fields_type rs (option_map (λ (p : ParamTree). p.ty) o) xs ≡ Some t
          → (w : ValueTree) × (read_in rs (named ls x.name) xs ≡ Some w) × HasType rs typed w t
      by None is e = none_some t e
      by (Some p) is e =
          let v = locals_look ps ls h x.name p is in
          let got = read_in_fits xs t v.0 p.ty v.2 e in
          (got.0, ap (λ o. read_in rs o xs) v.1 ∙ got.1, got.2)

  pub path_puts : (ps : List ParamTree) (ls : Locals) (xs : List Ident) (t : TypeTree) (w : ValueTree) → LocalsFit ps ls → path_type rs ps xs ≡ Some t → HasType rs typed w t
      → (ks : Locals) × (put_path rs ls xs w ≡ Some ks) × LocalsFit ps ks
  path_puts ps ls [] t w h e k = none_some t e
  path_puts ps ls (x ∷ xs) t w h e k = by (param_named ps x.name) refl e
    where
      by : (o : Option ParamTree) → param_named ps x.name ≡ o → fields_type rs (option_map (λ (p : ParamTree). p.ty) o) xs ≡ Some t
          → (ks : Locals) × (put_place rs ls (position (λ (v : List ℕ × ValueTree). bytes_eq x.name v.0) ls) xs w ≡ Some ks) × LocalsFit ps ks
      by None is e = none_some t e
      by (Some p) is e =
          let at = place_fits ps ls x.name p h is in
          let put = put_in_fits xs t w k at.1.1 p.ty at.4 e in
          let there : position (λ (v : List ℕ × ValueTree). bytes_eq x.name v.0) ls ≡ Some at.0 =
          ap (λ n. cond (ltb n (length ls)) (Some n) None) at.2 ∙ ap (λ b. cond b (Some at.0) None) (ltb_yes at.0 (length ls) (there_within ls at.0 at.1 at.3)) in (
            slice_set ls at.0 (at.1.0, put.0),
            ap (λ o. put_place rs ls o xs w) there ∙ ap (λ o. put_at_var rs ls at.0 o xs w) at.3 ∙ ap (option_map (λ u. slice_set ls at.0 (at.1.0, u))) put.1,
            at.5 put.0 put.2,
          )
