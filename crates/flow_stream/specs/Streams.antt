-- Streams as plain data.
use Rattle.std.specs.Prelude.{Bool, true, false, List, [], ◌∷◌, ◌++◌}
use Rattle.std.specs.declared.option.Option.{Option}
use Rattle.std.specs.declared.option.Option.TheVariants.{None, Some}
use Rattle.flow_base.specs.declared.ids.ErrorCode.{ErrorCode}
use Rattle.flow_cell.specs.Cells.{Counts, no_counts}
use Rattle.flow_cell.specs.declared.waiter.Waiter.{Waiter}
use Rattle.flow_stream.specs.declared.head.Head.{Head}
use Rattle.flow_stream.specs.declared.head.Head.TheVariants.{Item, End, Nothing}

-- a stream: the references that count, the elements, oldest first, perhaps its end, and perhaps a waiter
pub record StreamTree (T : Type 0) : Type 0 where
  pub references : Counts
  pub queue : List T
  pub end : Option ErrorCode
  pub waiter : Option Waiter

-- a waiter comes where none stands
abbrev pub or_waiter : Option Waiter → Waiter → Option Waiter
or_waiter None new = Some new
or_waiter (Some old) new = Some old

module _ {T : Type 0} where
  -- no reference, no element, no end and no waiter
  abbrev pub empty : StreamTree T
  empty = record { references = no_counts; queue = []; end = None; waiter = None }

  abbrev pub with_item : StreamTree T → T → StreamTree T
  with_item s item = record s { queue = s.queue ++ item ∷ [] }

  -- a wait needn't suspend
  abbrev pub ready : List T → Option ErrorCode → Bool
  ready [] None = false
  ready [] (Some e) = true
  ready (v ∷ vs) e = true

  -- what is taken next: the first element, or else the end
  abbrev pub head : List T → Option ErrorCode → Head T
  head [] None = Nothing
  head [] (Some e) = End e
  head (v ∷ vs) e = Item v

  abbrev pub tail : List T → List T
  tail [] = []
  tail (v ∷ vs) = vs
