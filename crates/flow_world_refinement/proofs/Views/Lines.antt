-- The lines of a process's views, each frame with its own callbacks.
use Rattle.std.proofs.Common.{◌≡◌, ℕ, suc, ◌≤◌, nat_eq, false, List, [], ◌∷◌, ◌++◌, map, length, if◌then◌else◌, refl, ap, ap₂, ◌∙◌, arith}
use Rattle.std.proofs.lemmas.Bool.Decides.{nat_tests}
use Rattle.std.specs.Prelude.{take, drop, slice_get}
use Rattle.std.proofs.lemmas.List.{map-append}
use Rattle.std.specs.List.{flat_map}
use Rattle.flow_base.specs.declared.ids.ProcId.{ProcId}
use Rattle.flow_trace.specs.declared.line.Line.TheVariants as line
use Rattle.flow_class.specs.declared.class.Class.{Class}
use Rattle.flow_steps.specs.declared.views.CallbackView.{CallbackView}
use Rattle.flow_cancel.specs.Heap.{actor_id}
use Rattle.flow_world.specs.Tracing.{name_of, own_count, callback_line, own_lines, frames_lines}
use Rattle.flow_meaning.specs.Requests.{Spot}
use Rattle.flow_meaning.specs.Cells.{Ref}
use Rattle.flow_numbered.specs.Numbered.{Numbered, thing}
use Rattle.flow_meaning.specs.Orderly.{Rising}
use Rattle.flow_meaning.specs.Process.{Entry, Proc, Engine}
use Rattle.flow_meaning.specs.Views.{spot_at, unfinished, branches_from, waiting}
use Rattle.flow_meaning.proofs.Posture.{same_number}
use Rattle.flow_compile_laws.specs.Frames.Framed.{branch_line, actor_lines, process_lines}
use Rattle.flow_world_refinement.specs.Views.Views.{told_frame, told_callback}

-- the branches of an actor as they are told, before those of others
abbrev told_from : (actor branch : ℕ) → List Ref → List CallbackView
told_from i n rs = map told_callback (branches_from i n rs)

count_own : (i n : ℕ) (rs : List Ref) (others : List CallbackView) → own_count (actor_id i) others ≡ 0 → own_count (actor_id i) (told_from i n rs ++ others) ≡ length rs
count_own i n [] others h = h
count_own i n (q ∷ rs) others h =
    ap (λ t. if t then suc (own_count (actor_id i) (told_from i (suc n) rs ++ others)) else 0) (same_number i) ∙ ap suc (count_own i (suc n) rs others h)

take_own : (i n : ℕ) (rs : List Ref) (others : List CallbackView) → take (length rs) (told_from i n rs ++ others) ≡ told_from i n rs
take_own i n [] others = refl
take_own i n (q ∷ rs) others = ap (λ vs. told_callback (record { actor = i; branch = n; cell = q.1 }) ∷ vs) (take_own i (suc n) rs others)

drop_own : (i n : ℕ) (rs : List Ref) (others : List CallbackView) → drop (length rs) (told_from i n rs ++ others) ≡ others
drop_own i n [] others = refl
drop_own i n (q ∷ rs) others = drop_own i (suc n) rs others

-- and their lines
lines_own : (p : ProcId) (i n : ℕ) (rs : List Ref) → map (callback_line p) (told_from i n rs) ≡ map (branch_line p) (branches_from i n rs)
lines_own p i n [] = refl
lines_own p i n (q ∷ rs) = ap (λ ls. branch_line p (record { actor = i; branch = n; cell = q.1 }) ∷ ls) (lines_own p i (suc n) rs)

module _ {A : Type 0} (e : Engine A) (spot : A → Spot) (cs : List Class) (labels : (k : ℕ) → name_of (slice_get cs k) ≡ e.label k) (p : ProcId) (xs : Numbered A) where
  -- the branches of all these actors, as they are told
  abbrev branches : Numbered Entry → List CallbackView
  branches es = map told_callback (waiting spot xs es)

  -- none of them is of an actor with a lesser number
  none_before : (above n i : ℕ) (es : Numbered Entry) → Rising above n es → i ≤ above → own_count (actor_id i) (branches es) ≡ 0
  none_before above n i [] h le = refl
  none_before above n i (x ∷ es) h le =
      ap (own_count (actor_id i)) (map-append told_callback (branches_from x.0 (spot_at spot (thing xs x.0)).first x.1.operands) (waiting spot xs es))
      ∙ by_own (spot_at spot (thing xs x.0)).first x.1.operands (none_before x.0 n i es h.2 (omega (arith, h.0, le)))
    where
      by_own : (k : ℕ) (rs : List Ref) → own_count (actor_id i) (branches es) ≡ 0 → own_count (actor_id i) (told_from x.0 k rs ++ branches es) ≡ 0
      by_own k [] later = later
      by_own k (q ∷ rs) later =
          let other : nat_eq x.0 i ≡ false = grind (arith, nat_tests, h.0, le) in
          ap (λ t. if t then suc (own_count (actor_id i) (told_from x.0 (suc k) rs ++ branches es)) else 0) other

  -- the lines of one actor
  one_lines : (i : ℕ) (x : Entry) (s : Spot) (held others : List CallbackView) → held ≡ told_from i s.first x.operands ++ others → own_count (actor_id i) others ≡ 0
      → (own_lines cs p (told_frame (record { actor = i; class = x.class; group = s.group })) held ≡ actor_lines e spot p i x s) × (drop (own_count (actor_id i) held) held ≡ others)
  one_lines i x s held others h none =
      let mine = told_from i s.first x.operands in
      let count : own_count (actor_id i) held ≡ length x.operands = ap (own_count (actor_id i)) h ∙ count_own i s.first x.operands others none in
      let taken : take (own_count (actor_id i) held) held ≡ mine = ap₂ (λ n vs. take n vs) count h ∙ take_own i s.first x.operands others in
      let left : drop (own_count (actor_id i) held) held ≡ others = ap₂ (λ n vs. drop n vs) count h ∙ drop_own i s.first x.operands others in (
        ap₂ (λ name ls. line.Frame p (actor_id i) name s.group ∷ ls) (labels x.class) (ap (map (callback_line p)) taken ∙ lines_own p i s.first x.operands),
        left,
      )

  actors_lines : (above n : ℕ) (es : Numbered Entry) (held : List CallbackView) → Rising above n es → held ≡ branches es
      → frames_lines cs p (map told_frame (unfinished spot xs es)) held ≡ flat_map (λ a. actor_lines e spot p a.0 a.1 (spot_at spot (thing xs a.0))) es
  actors_lines above n [] held h same = refl
  actors_lines above n (x ∷ es) held h same =
      let s = spot_at spot (thing xs x.0) in
      let parts = same ∙ map-append told_callback (branches_from x.0 s.first x.1.operands) (waiting spot xs es) in
      let one = one_lines x.0 x.1 s held (branches es) parts (none_before x.0 n x.0 es h.2 (omega arith)) in
      ap₂ (λ ls ms. ls ++ ms) one.0 (actors_lines x.0 n es (drop (own_count (actor_id x.0) held) held) h.2 one.1)

-- so of a process
pub views_lines : {A : Type 0} (e : Engine A) (spot : A → Spot) (cs : List Class) (labels : (k : ℕ) → name_of (slice_get cs k) ≡ e.label k) (p : ProcId) (x : Proc A)
    → Rising 0 x.core.started x.core.entries
    → frames_lines cs p (map told_frame (unfinished spot x.actors x.core.entries)) (map told_callback (waiting spot x.actors x.core.entries)) ≡ process_lines e spot p x
views_lines e spot cs labels p x h = actors_lines e spot cs labels p x.actors 0 x.core.started x.core.entries _ h refl
