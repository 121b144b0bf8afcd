-- Lists in a slab: each link names the keys of the ones before and after it, and the ends name the first and the last.
use Rattle.std.specs.Prelude.{ℕ, zero, suc, ◌+◌, ◌-◌, nat_eq, List, [], ◌∷◌, if◌then◌else◌}
use Rattle.std.specs.declared.option.Option.{Option}
use Rattle.std.specs.declared.option.Option.TheVariants.{None, Some}
use Rattle.flow_numbered.specs.declared.links.Link.{Link}
use Rattle.flow_numbered.specs.declared.links.Ends.{Ends}

-- the ends of a list without a link
abbrev pub no_links : Ends
no_links = record { first = None; last = None; length = 0 }

-- the ends after a link was added behind the last
abbrev pub or_key : Option ℕ → ℕ → Option ℕ
or_key None new = Some new
or_key (Some old) new = Some old

abbrev pub longer : Ends → (key : ℕ) → Ends
longer e key = record { first = or_key e.first key; last = Some key; length = e.length + 1 }

-- an end of the list after a link left it: the link's other neighbour, where it stood at this end
abbrev pub end_after : (neighbour end other : Option ℕ) → Option ℕ
end_after None end other = other
end_after (Some k) end other = end

-- what stands at each key of the slab
abbrev pub Slots : Type 0 → Type 0
Slots T = ℕ → Option (Link T)

module _ {T : Type 0} where
  abbrev pub after_set : Option ℕ → Option (Link T) → Option (Link T)
  after_set after None = None
  after_set after (Some l) = Some (record l { after = after })

  abbrev pub before_set : Option ℕ → Option (Link T) → Option (Link T)
  before_set before None = None
  before_set before (Some l) = Some (record l { before = before })

  -- the link at a key, where there is one, is followed by another
  abbrev pub with_after : Slots T → (key after : Option ℕ) → Slots T
  with_after at None after k = at k
  with_after at (Some key) after k = if nat_eq k key then after_set after (at k) else at k

  -- the link at a key, where there is one, follows another
  abbrev pub with_before : Slots T → (key before : Option ℕ) → Slots T
  with_before at None before k = at k
  with_before at (Some key) before k = if nat_eq k key then before_set before (at k) else at k

  -- a new link behind the last
  abbrev pub placed : Slots T → (key : ℕ) → Link T → Slots T
  placed at key l k = if nat_eq k key then Some l else at k

  abbrev pub pushed : Slots T → (last : Option ℕ) → (key : ℕ) → T → Slots T
  pushed at last key item = with_after (placed at key (record { item = item; before = last; after = None })) last (Some key)

  -- a link gone, and its neighbours joined
  abbrev pub unlinked : Slots T → Link T → (key : ℕ) → Slots T
  unlinked at l key k =
      if nat_eq k key then None else with_before (with_after at l.before l.after) l.after l.before k

  -- the ends after this link left
  abbrev pub shorter : Ends → Link T → Ends
  shorter e l =
      record { first = end_after l.before e.first l.after; last = end_after l.after e.last l.before; length = e.length - 1 }

  -- the items from a key on, at most so many
  abbrev pub slot_at : Slots T → Option ℕ → Option (Link T)
  slot_at at None = None
  slot_at at (Some key) = at key

  -- an item, and those that the rest gives from the next key on
  abbrev pub walk_on : Option (Link T) → (rest : Option ℕ → List T) → List T
  walk_on None rest = []
  walk_on (Some l) rest = l.item ∷ rest l.after

  abbrev pub walk : Slots T → (most : ℕ) → (key : Option ℕ) → List T
  walk at zero key = []
  walk at (suc n) key = walk_on (slot_at at key) (λ next. walk at n next)
