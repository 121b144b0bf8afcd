-- Frames as plain data.
use Rattle.std.specs.Prelude.{◌≡◌, ◌≤◌, ℕ, zero, suc, nat_lt, Bool, true, false, List, [], ◌∷◌, ◌++◌, length, slice_index_or, slice_set, if◌then◌else◌, refl}
use Rattle.std.specs.declared.option.Option.{Option}
use Rattle.std.specs.declared.option.Option.TheVariants.{None, Some}
use Rattle.std.specs.Coded.{Coded, code_by, coded×, coded_ℕ, coded_list, coded_option}
use Rattle.flow_frame.specs.declared.held.Held.{Held}
use Rattle.flow_frame.specs.declared.standing.Standing.{Standing}

-- A frame: its class, its state, the block and instruction at which it stands, what its places hold, and its
-- callbacks, the first first.
pub record FrameTree (T : Type 0) : Type 0 where
  pub class : ℕ
  pub state : ℕ
  pub block : ℕ
  pub instruction : ℕ
  pub places : List (Option T)
  pub callbacks : List Held

-- how a frame is stored
abbrev pub held_code : Coded Held
held_code = code_by (ℕ × ℕ) (coded× coded_ℕ coded_ℕ) (λ h. (h.callback, h.cell.0))
    (λ p. record { callback = p.0; cell = record { 0 = p.1 } }) (λ _. refl)

abbrev pub frame_code : {T : Type 0} → Coded T → Coded (FrameTree T)
frame_code {T} code =
    code_by
    ((ℕ × ℕ) × ((ℕ × ℕ) × (List (Option T) × List Held)))
    (coded× (coded× coded_ℕ coded_ℕ) (coded× (coded× coded_ℕ coded_ℕ) (coded× (coded_list (coded_option code)) (coded_list held_code))))
    (λ f. ((f.class, f.state), ((f.block, f.instruction), (f.places, f.callbacks))))
    (λ p. record { class = p.0.0; state = p.0.1; block = p.1.0.0; instruction = p.1.0.1; places = p.1.1.0; callbacks = p.1.1.1 })
    (λ _. refl)

-- the first callback, and the others
abbrev pub first_held : List Held → Option Held
first_held [] = None
first_held (h ∷ hs) = Some h

abbrev pub other_held : List Held → List Held
other_held [] = []
other_held (h ∷ hs) = hs

module _ {T : Type 0} where
  -- so many places, of which the first hold these and the others nothing
  abbrev pub padded : (places : ℕ) → List (Option T) → List (Option T)
  padded zero xs = []
  padded (suc n) [] = None ∷ padded n []
  padded (suc n) (x ∷ xs) = x ∷ padded n xs

  -- a frame that begins
  abbrev pub fresh : (class places : ℕ) → FrameTree T
  fresh class places =
      record { class = class; state = 0; block = 0; instruction = 0; places = padded places []; callbacks = [] }

  -- a frame that begins, of whose places the first hold these
  abbrev pub holding : (class places : ℕ) → List (Option T) → FrameTree T
  holding class places xs = record (fresh class places) { places = padded places xs }

  -- these are what the first places of a frame hold, if there is one
  abbrev pub IsFilled : Option (FrameTree T) → List (Option T) → Type 0
  IsFilled None xs = xs ≡ []
  IsFilled (Some f) xs = (padded (length f.places) xs ≡ f.places) × (length xs ≤ length f.places)

  -- In a state other than 0 the actor waits, and stands at no instruction.
  abbrev pub in_state : ℕ → FrameTree T → FrameTree T
  in_state zero f = record f { state = zero }
  in_state (suc n) f = record f { state = suc n; block = 0; instruction = 0 }

  abbrev pub standing_of : FrameTree T → Standing
  standing_of f = record { class = f.class; state = f.state; block = f.block; instruction = f.instruction }

  -- what a place holds, if there is such a place, and such a frame
  abbrev pub held_at : ℕ → FrameTree T → Option T
  held_at n f = if nat_lt n (length f.places) then slice_index_or f.places n None else None

  abbrev pub held_in : ℕ → Option (FrameTree T) → Option T
  held_in n None = None
  held_in n (Some f) = held_at n f

  abbrev pub with_place : FrameTree T → ℕ → Option T → FrameTree T
  with_place f n value = record f { places = slice_set f.places n value }

  abbrev pub with_callback : FrameTree T → Held → FrameTree T
  with_callback f held = record f { callbacks = f.callbacks ++ held ∷ [] }

  -- every place is empty, and nothing is waited for
  abbrev pub all_empty : List (Option T) → Bool
  all_empty [] = true
  all_empty (None ∷ xs) = all_empty xs
  all_empty (Some v ∷ xs) = false
