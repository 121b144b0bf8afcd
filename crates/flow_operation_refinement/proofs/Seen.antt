-- What an actor in memory evaluates is what the frame evaluates that it shows.
use Rattle.std.proofs.Common.{◌≡◌, ◌≤◌, ◌<◌, ◌^◌, ℕ, zero, suc, ◌+◌, nat_lt, Bool, true, false, List, [], ◌∷◌, length, if◌then◌else◌, refl, sym, ap, ◌∙◌, subst, arith}
use Rattle.std.proofs.lemmas.Bool.Decides.{nat_tests}
use Rattle.std.proofs.Math.Path.{fun_ext}
use Rattle.std.specs.Prelude.{slice_get, slice_index_or}
use Rattle.std.specs.Option.{option_map, option_and_then}
use Rattle.std.specs.declared.option.Option.{Option}
use Rattle.std.specs.declared.option.Option.TheVariants.{None, Some}
use Rattle.flow_value.specs.declared.value.Value.{Value}
use Rattle.flow_value.specs.declared.value.Outcome.{Outcome}
use Rattle.flow_value.specs.Values.{ValueTree}
use Rattle.flow_value.specs.View.{value_of}
use Rattle.flow_eval.specs.Functions.{Eval}
use Rattle.flow_class.specs.declared.class.Slotted.{Slotted}
use Rattle.flow_class.specs.declared.class.Slotted.TheVariants.{Slot, Local}
use Rattle.flow_class.specs.Classes.{RawTree}
use Rattle.flow_class.specs.Places.{place_named, small_place, small}
use Rattle.flow_code.specs.Places.{place_of, place_in}
use Rattle.flow_code.specs.Resolved.Resolving.{Naming, held_by, AreRecords, AreFunctions, IsNumbering}
use Rattle.flow_code.specs.Resolved.View.{places_in}
use Rattle.flow_code.proofs.Resolved.Alike.{resolved_alike}
use Rattle.flow_trace.specs.declared.line.Line.{Line}
use Rattle.flow_numbered.specs.Numbered as stored
use Rattle.flow_cell.specs.Cells.{CellTree}
use Rattle.flow_stream.specs.Streams.{StreamTree}
use Rattle.flow_frame.specs.Frames.{held_in}
use Rattle.flow_numbered.specs.Numbered.{thing}
use Rattle.flow_meaning.specs.Cells.{Cell, Single, Stream, outcome}
use Rattle.flow_meaning.specs.Requests.{Spot}
use Rattle.flow_meaning.specs.Process.{Entry, Proc}
use Rattle.flow_meaning.specs.References.{Scan}
use Rattle.flow_meaning.specs.Evaluating.{bind, setting}
use Rattle.flow_meaning.specs.Variables.{flat}
use Rattle.flow_meaning.specs.Step.{view}
use Rattle.flow_meaning.specs.Class.{class_names}
use Rattle.flow_meaning.specs.Frame.{Frame, read, look}
use Rattle.flow_heap_refinement.specs.Representing.{CellRepresents, spot_of_actor}
use Rattle.flow_steps.specs.declared.process.Process.{Process}
use Rattle.flow_steps.specs.Seen.{value_in, content_of, content_in}
use Rattle.flow_steps.specs.Evaluating.{setting_in, sight_in, program_time}
use Rattle.flow_operation_refinement.specs.Placing.{RepresentsActor}
use Rattle.flow_operation_refinement.specs.Seeing.{IsCodeOf}
use Rattle.flow_operation_refinement.specs.Seeing as law
use Rattle.flow_operation_refinement.proofs.Places.{place_seen}
use Rattle.flow_operation_refinement.proofs.Emptied.{all_places}

-- what is beyond the places of a frame
beyond : (xs : List (Option ValueTree)) (n : ℕ) → length xs ≤ n → flat (slice_get xs n) ≡ None
beyond [] n l = refl
beyond (x ∷ xs) zero l = absurd (omega (arith, l))
beyond (x ∷ xs) (suc n) l = beyond xs n (omega (arith, l))

module _ (r : RawTree) (ls : List Line) (x : Scan) (m : Process) (p : Proc Frame) (i : ℕ) (e : Entry) (f : Frame) (st : RepresentsActor r ls x m p i e f) where
  abbrev held : ℕ → Option ValueTree
  held n = value_in m.heap.frames i (Some n)

  held_seen : (n : ℕ) → held n ≡ option_map value_of (held_in n (Some st.acts.memory))
  held_seen n = ap (λ o. option_map value_of (held_in n o)) st.acts.framed

  as_long : length f.mem.slots ≡ length f.code.slots
  as_long = st.acts.stands.slots

  slot_seen : (n : ℕ) → length f.code.slots + length f.mem.locals ≤ 2 ^ 32
      → held_by held (option_and_then (place_of (length f.code.slots)) (option_map Slot (small (Some n)))) ≡ read f.mem (Slot n)
  slot_seen n few = by_tests (nat_lt n (2 ^ 32)) refl (nat_lt n (length f.code.slots)) refl
    where
      by_tests : (a : Bool) → nat_lt n (2 ^ 32) ≡ a → (b : Bool) → nat_lt n (length f.code.slots) ≡ b
          → held_by held (option_and_then (place_of (length f.code.slots)) (option_map Slot (if a then Some n else None))) ≡ read f.mem (Slot n)
      by_tests true g true h =
          let l : n < length f.mem.slots = let a = as_long in grind (arith, nat_tests, h, a) in
          ap (λ b. held_by held (if b then Some n else None)) h ∙ place_seen r ls m p i e f x (Slot n) st l
      by_tests true g false h =
          let l : length f.mem.slots ≤ n = let a = as_long in grind (arith, nat_tests, h, a) in
          ap (λ b. held_by held (if b then Some n else None)) h ∙ sym (beyond f.mem.slots n l)
      by_tests false g b h =
          let l : length f.mem.slots ≤ n = let a = as_long in grind (arith, nat_tests, g, a, few) in sym (beyond f.mem.slots n l)

  local_seen : (n : ℕ) → length f.code.slots + length f.mem.locals ≤ 2 ^ 32
      → held_by held (option_and_then (place_of (length f.code.slots)) (option_map Local (small (Some n)))) ≡ read f.mem (Local n)
  local_seen n few = by_tests (nat_lt n (2 ^ 32)) refl (nat_lt (length f.code.slots + n) (2 ^ 32)) refl (nat_lt n (length f.mem.locals)) refl
    where
      not_held : length f.mem.locals ≤ n → held (length f.code.slots + n) ≡ None
      not_held l =
          let a = all_places r st.acts.memory e f st.acts.stands in
          let b = as_long in
          let out : nat_lt (length f.code.slots + n) (length st.acts.memory.places) ≡ false = grind (arith, nat_tests, a, b, l) in
          held_seen (length f.code.slots + n) ∙ ap (λ t. option_map value_of (if t then slice_index_or st.acts.memory.places (length f.code.slots + n) None else None)) out

      by_tests : (a : Bool) → nat_lt n (2 ^ 32) ≡ a → (b : Bool) → nat_lt (length f.code.slots + n) (2 ^ 32) ≡ b → (c : Bool) → nat_lt n (length f.mem.locals) ≡ c
          → held_by held (option_and_then (place_of (length f.code.slots)) (option_map Local (if a then Some n else None))) ≡ read f.mem (Local n)
      by_tests true g true h true k =
          let l : n < length f.mem.locals = grind (arith, nat_tests, k) in
          ap (λ b. held_by held (if b then Some (length f.code.slots + n) else None)) h ∙ place_seen r ls m p i e f x (Local n) st l
      by_tests true g true h false k =
          let l : length f.mem.locals ≤ n = grind (arith, nat_tests, k) in
          ap (λ b. held_by held (if b then Some (length f.code.slots + n) else None)) h ∙ not_held l ∙ sym (beyond f.mem.locals n l)
      by_tests true g false h c k =
          let l : length f.mem.locals ≤ n = grind (arith, nat_tests, h, few) in
          ap (λ b. held_by held (if b then Some (length f.code.slots + n) else None)) h ∙ sym (beyond f.mem.locals n l)
      by_tests false g b h c k =
          let l : length f.mem.locals ≤ n = grind (arith, nat_tests, g, few) in sym (beyond f.mem.locals n l)

  pub seen : length f.code.slots + length f.mem.locals ≤ 2 ^ 32 → (name : List ℕ) → look f.mem name ≡ held_by held (place_in (length f.code.slots) name)
  seen few name = by_name (place_named name)
    where
      by_name : (o : Option Slotted) → bind o (read f.mem) ≡ held_by held (option_and_then (place_of (length f.code.slots)) (small_place o))
      by_name None = refl
      by_name (Some (Slot n)) = sym (slot_seen n few)
      by_name (Some (Local n)) = sym (local_seen n few)

-- what set cells hold
pub content_same : (a : Option (CellTree Outcome)) (b : Option (StreamTree Value)) (c : Option Cell) (spots : ℕ → Spot) → CellRepresents spots a b c → content_of a ≡ outcome c
content_same None None None spots t = refl
content_same None None (Some c) spots t = absurd t
content_same (Some y) None None spots t = absurd t
content_same (Some y) (Some z) c spots t = absurd t
content_same None (Some z) None spots t = absurd t
content_same (Some y) None (Some (Single o ws)) spots t = sym t.0
content_same (Some y) None (Some (Stream q d w)) spots t = absurd t
content_same None (Some z) (Some (Stream q d w)) spots t = refl
content_same None (Some z) (Some (Single o ws)) spots t = absurd t

pub expr_follows : law.ExprFollows
expr_follows r ls x m p i e f code s t st c time few =
    (resolved_alike names (sight_in code i m) (look f.mem)
    (subst (λ (y : RawTree). AreRecords y.records names.record_of) (sym c.program) c.coded.are_records)
    (subst (λ (y : RawTree). AreFunctions y.functions names.function) (sym c.program) c.coded.are_functions)
    (subst (λ (y : RawTree). IsNumbering y.records names.field (places_in code.fields)) (sym c.program) c.coded.are_numbers)
    (seen r ls x m p i e f st few)).same t m.left
    ∙ ap (λ k. Eval k (look f.mem) t m.left) same_setting
    ∙ ap (Eval (setting (class_names r) (view s i p.core)) (look f.mem) t) (sym st.shown.left)
  where
    names : Naming
    names = record c.coded.names { place = place_in (length f.code.slots) }

    cells : content_in m.heap.cells ≡ (λ k. outcome (thing p.core.cells k))
    cells = fun_ext (λ k. content_same (stored.thing m.heap.cells.things k) (stored.thing m.heap.streams.things k) (thing p.core.cells k) (spot_of_actor p.actors) (st.shown.holds.shows.cells k))

    same_setting : setting_in code m ≡ setting (class_names r) (view s i p.core)
    same_setting =
        ap (λ (y : RawTree). record { records = y.records; functions = y.functions; cells = content_in m.heap.cells; now = program_time m.time }) c.program
        ∙ ap (λ y. record { records = r.records; functions = r.functions; cells = y; now = program_time m.time }) cells
        ∙ ap (λ y. record { records = r.records; functions = r.functions; cells = λ k. outcome (thing p.core.cells k); now = y }) time
