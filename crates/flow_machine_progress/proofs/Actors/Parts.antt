-- The parts of what a valid class has at a position are there in its code, so each instruction of it is coded.
use Rattle.std.proofs.Common.{◌≡◌, ◌⊎◌, ◌≤◌, inl, inr, ℕ, ◌+◌, ◌^◌, nat_lt, Bool, true, false, List, [], ◌∷◌, length, map, if◌then◌else◌, refl, sym, ap, ◌∙◌, arith}
use Rattle.std.proofs.lemmas.Bool.Decides.{nat_tests}
use Rattle.std.specs.Option.{option_map, option_and_then}
use Rattle.std.specs.declared.option.Option.{Option}
use Rattle.std.specs.declared.option.Option.TheVariants.{None, Some}
use Rattle.flow_ast.specs.declared.predefined.Predefined.{Predefined}
use Rattle.flow_ast.specs.Typing.{Signature, is_packet, packet_fields, param_named, param_types, record_named, record_call, declared_field, field_type, takes}
use Rattle.flow_ast.specs.TypingNames.{named, call_names, method_names}
use Rattle.flow_ast.specs.Fits.{fields_type, path_type}
use Rattle.flow_tree.specs.declared.ty.Ident.{Ident}
use Rattle.flow_tree.specs.Tree.{TypeTree, IntType, BoolType, StringType, VoidType, ErrorType, NamedType, FutureType, FutureStreamType, PromiseType, PromiseStreamType, VectorType, NothingType, ExprTree, ExprTrees}
use Rattle.flow_tree.specs.Decls.{ParamTree, RecordTree}
use Rattle.flow_value.specs.declared.value.RecordId.{RecordId}
use Rattle.flow_value.specs.Values.{Whole, RecordWhole}
use Rattle.flow_eval.specs.Records.{field_place}
use Rattle.flow_eval.specs.Functions.{routine_at}
use Rattle.flow_eval.proofs.TypedValues.{id_there, field_at}
use Rattle.flow_code.specs.Resolved.Tree.{Nodes}
use Rattle.flow_code.specs.Resolved.View.{places_in}
use Rattle.flow_code.specs.Resolved.Resolving.{IsNumbering, place_by, resolved, resolved_all}
use Rattle.flow_class.specs.declared.class.Slotted.{Slotted}
use Rattle.flow_class.specs.declared.class.Slotted.TheVariants.{Slot, Local}
use Rattle.flow_class.specs.Classes.{InstrTree, SetInstr, EffectInstr, NewInstr, ActInstr, DropInstr, RawTree}
use Rattle.flow_class.specs.Code.{Body, fetch, type_at}
use Rattle.flow_class.specs.Places.{small_place}
use Rattle.flow_code.specs.declared.class.Act.{Act}
use Rattle.flow_code.specs.declared.class.Act.TheVariants as act
use Rattle.flow_code.specs.declared.class.Effect.{Effect}
use Rattle.flow_code.specs.declared.program.Code.{Code}
use Rattle.flow_code.specs.Classes.{AimTree, NoCode}
use Rattle.flow_code.specs.Coding as code_of
use Rattle.flow_code.specs.Coding.{Coding, new_of, fields_of, one_more, aim_at, act_named, set_code, effect_code, new_code, plain_code, method_code, aimed, coded_instruction}
use Rattle.flow_code.specs.Coded.{coding}
use Rattle.flow_code.specs.Places.{place_of, place_in}
use Rattle.flow_meaning.specs.Evaluating as meaning
use Rattle.flow_meaning.specs.Frame.{Frame}
use Rattle.flow_heap_refinement.specs.FrameChanges.{HasPlace}
use Rattle.flow_progress.specs.Places.{class_vars}
use Rattle.flow_progress.specs.Rules.{InstrFits, EffectFits, FunctionFits, VoidFits, SayFits, KeepsRules}
use Rattle.flow_progress.specs.Written.{heads}
use Rattle.flow_operation_refinement.specs.Seeing.{IsCodeOf}
use Rattle.flow_step_refinement.proofs.Effects.Decoded.{before_same, last_same}
use Rattle.flow_step_refinement.specs.Decoding.{effect_of_name}
use Rattle.flow_step_refinement.specs.Executing.{coded_by}
use Rattle.flow_step_refinement.proofs.Named.{class_place, effect_there}

-- a field that has a type has a place in a record
no_record : (b : Bool) (o : Option RecordTree) (n x : List ℕ) (t : TypeTree)
    → (if b then takes (map (λ (f : List ℕ × TypeTree). f.1) packet_fields) (NamedType n) else option_map (λ (q : RecordTree). record { params = param_types q.fields; gives = NamedType n }) o) ≡ None
    → (if b then named packet_fields x else declared_field o x) ≡ Some t → ⊥
no_record true o n x t none e = cc (none)
no_record false None n x t none e = cc (e)
no_record false (Some q) n x t none e = cc (none)

field_placed : (rs : List RecordTree) (u : TypeTree) (x : List ℕ) (t : TypeTree) → field_type rs u x ≡ Some t → (r : RecordId) × (k : ℕ) × (field_place rs (RecordWhole r) x ≡ Some k)
field_placed rs (NamedType n) x t e = by_call (record_call rs n) refl
  where
    by_call : (o : Option Signature) → record_call rs n ≡ o → (r : RecordId) × (k : ℕ) × (field_place rs (RecordWhole r) x ≡ Some k)
    by_call None is = absurd (no_record (is_packet n) (record_named rs n) n x t is e)
    by_call (Some s) is = let id = id_there rs n s is in let at = field_at rs n id.0 s x t id.1 is e in (id.0, at.0, at.1)
field_placed rs IntType x t e = absurd (cc (e))
field_placed rs BoolType x t e = absurd (cc (e))
field_placed rs StringType x t e = absurd (cc (e))
field_placed rs VoidType x t e = absurd (cc (e))
field_placed rs ErrorType x t e = absurd (cc (e))
field_placed rs (FutureType u) x t e = absurd (cc (e))
field_placed rs (FutureStreamType u) x t e = absurd (cc (e))
field_placed rs (PromiseType u) x t e = absurd (cc (e))
field_placed rs (PromiseStreamType u) x t e = absurd (cc (e))
field_placed rs (VectorType u) x t e = absurd (cc (e))
field_placed rs NothingType x t e = absurd (cc (e))

-- so its name has a number
module _ (rs : List RecordTree) (field : List ℕ → Option ℕ) (at : Whole → ℕ → Option ℕ) (numbering : IsNumbering rs field at) where
  field_numbered : (u : TypeTree) (x : List ℕ) (t : TypeTree) → field_type rs u x ≡ Some t → (n : ℕ) × (field x ≡ Some n)
  field_numbered u x t e = by_number (field x) refl
    where
      by_number : (o : Option ℕ) → field x ≡ o → (n : ℕ) × (field x ≡ Some n)
      by_number None is =
          let placed = field_placed rs u x t e in
          let none : field_place rs (RecordWhole placed.0) x ≡ None = sym (numbering (RecordWhole placed.0) x) ∙ ap (place_by at (RecordWhole placed.0)) is in
          let some = placed.2 in absurd (cc (none, some))
      by_number (Some n) is = (n, is)

  fields_numbered : (xs : List Ident) (o : Option TypeTree) (t : TypeTree) → fields_type rs o xs ≡ Some t → (ns : List ℕ) × (fields_of field xs ≡ Some ns)
  fields_numbered [] o t e = ([], refl)
  fields_numbered (x ∷ xs) None t e = absurd (cc (e))
  fields_numbered (x ∷ xs) (Some u) t e = by_type (field_type rs u x.name) refl e (fields_numbered xs)
    where
      by_type : (o : Option TypeTree) → field_type rs u x.name ≡ o → fields_type rs o xs ≡ Some t
          → ((o : Option TypeTree) (t : TypeTree) → fields_type rs o xs ≡ Some t → (ns : List ℕ) × (fields_of field xs ≡ Some ns)) → (ns : List ℕ) × (fields_of field (x ∷ xs) ≡ Some ns)
      by_type None is g rest = absurd (cc (g))
      by_type (Some v) is g rest =
          let number = field_numbered u x.name v is in
          let others = rest (Some v) t g in
          (number.0 ∷ others.0, ap (λ o. one_more o (fields_of field xs)) number.1 ∙ ap (one_more (Some number.0)) others.1)

-- a place that a frame has is coded, by its number and by its name
place_coded : (f : Frame) (q : Slotted) → length f.mem.slots ≡ length f.code.slots → length f.code.slots + length f.mem.locals ≤ 2 ^ 32 → HasPlace f q
    → (n : ℕ) × (place_of (length f.code.slots) q ≡ Some n) × (small_place (Some q) ≡ Some q)
place_coded f (Slot n) same few has =
    let in_place : nat_lt n (length f.code.slots) ≡ true = grind (arith, nat_tests, same, has) in
    let small : nat_lt n (2 ^ 32) ≡ true = grind (arith, nat_tests, same, few, has) in
    (n, ap (λ b. if b then Some n else None) in_place, ap (λ b. option_map Slot (if b then Some n else None)) small)
place_coded f (Local n) same few has =
    let in_place : nat_lt (length f.code.slots + n) (2 ^ 32) ≡ true = grind (arith, nat_tests, few, has) in
    let small : nat_lt n (2 ^ 32) ≡ true = grind (arith, nat_tests, few, has) in
    (length f.code.slots + n, ap (λ b. if b then Some (length f.code.slots + n) else None) in_place, ap (λ b. option_map Local (if b then Some n else None)) small)

module _ (r : RawTree) (code : Code) (f : Frame) (own : KeepsRules r (heads r) f.code (class_vars f.code)) (has_place : (q : Slotted) (t : TypeTree) → type_at f.code q ≡ Some t → HasPlace f q)
    (slots : length f.mem.slots ≡ length f.code.slots) (program : IsCodeOf r code) (few : length f.code.slots + length f.mem.locals ≤ 2 ^ 32) where
  abbrev now : Coding
  now = coding program.coded.names program.coded.class (length f.code.slots)

  coded_place : (q : Slotted) (t : TypeTree) → type_at f.code q ≡ Some t → (n : ℕ) × (place_of (length f.code.slots) q ≡ Some n) × (small_place (Some q) ≡ Some q)
  coded_place q t at = place_coded f q slots few (has_place q t at)

  -- a path that has a type is an aim
  aim_coded : (xs : List Ident) (t : TypeTree) → path_type r.records (class_vars f.code) xs ≡ Some t → (a : AimTree) × (aimed now xs ≡ Some a)
  aim_coded [] t e = absurd (cc (e))
  aim_coded (x ∷ xs) t e = by_root (param_named (class_vars f.code) x.name) refl e
    where
      by_root : (o : Option ParamTree) → param_named (class_vars f.code) x.name ≡ o → fields_type r.records (option_map (λ (p : ParamTree). p.ty) o) xs ≡ Some t
          → (a : AimTree) × (aimed now (x ∷ xs) ≡ Some a)
      by_root None is g = absurd (cc (g))
      by_root (Some d) is g =
          let of = own.places x.name d is in
          let place = coded_place of.0 d.ty of.2 in
          let fields = fields_numbered r.records program.coded.names.field (places_in code.fields) program.coded.are_numbers xs (Some d.ty) t g in
          let here : place_in (length f.code.slots) x.name ≡ Some place.0 =
          ap (λ o. option_and_then (place_of (length f.code.slots)) (small_place o)) of.1 ∙ ap (option_and_then (place_of (length f.code.slots))) place.2 ∙ place.1 in
          (record { place = place.0; path = fields.0 }, ap (λ o. aim_at o (fields_of program.coded.names.field xs)) here ∙ ap (aim_at (Some place.0)) fields.1)

  -- an effect, a new cell, and a call are coded
  abbrev effect_named : meaning.Effectful × ExprTrees → Effect × Nodes
  effect_named g = (effect_of_name g.0, resolved_all now.names g.1)

  effect_coded : (t : ExprTree) (u : TypeTree) → EffectFits r (heads r) f.code (class_vars f.code) t u → (g : Effect × Nodes) × (code_of.effect_in now t ≡ Some g)
  effect_coded t u fits =
      (effect_named (fits.effect, fits.args), effect_there r code.classes.items f t (coded_by program) program.coded.are_classes ∙ ap (option_map effect_named) fits.is)

  -- what is put in place at once makes a cell, or is a vector
  new_coded : (n : ℕ) (t u : TypeTree) → (t ≡ PromiseType u) ⊎ ((t ≡ PromiseStreamType u) ⊎ (t ≡ VectorType u)) → NoCode ≡ new_of n t → ⊥
  new_coded n t u (inl is) none = let e = none ∙ ap (new_of n) is in cc (e)
  new_coded n t u (inr (inl is)) none = let e = none ∙ ap (new_of n) is in cc (e)
  new_coded n t u (inr (inr is)) none = let e = none ∙ ap (new_of n) is in cc (e)

  -- a call is coded by what it names
  abbrev act_for : Ident → Option Act
  act_for g = act_named (named call_names g.name) (program.coded.names.function g.name) (program.coded.class g.name)

  call_coded : (g : Ident) (ts : List TypeTree) (o : Option Predefined) → named call_names g.name ≡ o → SayFits r (heads r) f.code (class_vars f.code) o g ts → (a : Act) × (act_for g ≡ Some a)
  call_coded g ts (Some called) is fits = (act.World called, ap (λ o. act_named o (program.coded.names.function g.name) (program.coded.class g.name)) is)
  call_coded g ts None is fits = by_function (program.coded.names.function g.name) refl fits
    where
      as_own : (o : Option ℕ) → program.coded.names.function g.name ≡ o → act_for g ≡ act_named None o (program.coded.class g.name)
      as_own o same =
          ap (λ p. act_named p (program.coded.names.function g.name) (program.coded.class g.name)) is ∙ ap (λ k. act_named None k (program.coded.class g.name)) same

      by_function : (o : Option ℕ) → program.coded.names.function g.name ≡ o → FunctionFits r (heads r) f.code (class_vars f.code) g ts ⊎ VoidFits r (heads r) f.code (class_vars f.code) g ts
          → (a : Act) × (act_for g ≡ Some a)
      by_function None none (inl function) =
          let same = (program.coded.are_functions g.name).0 ∙ ap (routine_at r.functions) none in
          let there = function.1 in absurd (cc (same, there))
      by_function None none (inr class) =
          let place = program.coded.are_classes g.name ∙ class_place r.classes g.name ∙ class.named in
          (act.Actor class.place, as_own None none ∙ ap (act_named None None) place)
      by_function (Some k) some fits = (act.Function k, as_own (Some k) some)

  -- so no instruction of a valid class is left out of its code
  pub always_coded : (text : InstrTree) → fetch f.code f.block f.instr ≡ Body text → NoCode ≡ coded_instruction now f.code text → ⊥
  always_coded text there none = by_text text (own.instructions f.block f.instr text there) none
    where
      by_text : (text : InstrTree) → InstrFits r (heads r) f.code (class_vars f.code) text → NoCode ≡ coded_instruction now f.code text → ⊥
      by_text (SetInstr xs t) fits none = let aim = aim_coded xs fits.0 fits.1 in let is = none ∙ ap (λ o. set_code o (resolved now.names t)) aim.1 in cc (is)
      by_text (EffectInstr xs t) fits none =
          let aim = aim_coded xs fits.0 fits.1 in
          let effect = effect_coded t fits.0 fits.2 in
          let is = none ∙ ap (λ o. effect_code o (code_of.effect_in now t)) aim.1 ∙ ap (effect_code (Some aim.0)) effect.1 in cc (is)
      by_text (NewInstr q) fits none =
          let place = coded_place q fits.0 fits.1 in
          new_coded place.0 fits.0 fits.2.0 fits.2.1 (none ∙ ap (λ o. new_code o (type_at f.code q)) place.1 ∙ ap (new_code (Some place.0)) fits.1)
      by_text (ActInstr [] es) fits none = fits.2
      by_text (ActInstr (g ∷ []) es) fits none =
          let called = call_coded g fits.0 (named call_names g.name) refl fits.2 in
          let is = none ∙ ap (λ o. plain_code o (resolved_all now.names es)) called.1 in cc (is)
      by_text (ActInstr (y ∷ z ∷ ys) es) fits none =
          let on = fits.2 in
          let aim = aim_coded (y ∷ code_of.before_last z ys) on.0 (ap (λ l. path_type r.records (class_vars f.code) (y ∷ l)) (before_same z ys) ∙ on.2) in
          let called = ap (λ (n : Ident). named method_names n.name) (last_same z ys) ∙ on.3 in
          let is = none ∙ ap (λ o. method_code o (named method_names (code_of.last_name z ys).name) (resolved_all now.names es)) aim.1
          ∙ ap (λ o. method_code (Some aim.0) o (resolved_all now.names es)) called in cc (is)
      by_text (DropInstr ns) fits none = cc (none)
