-- Cells of single results as plain data.
use Rattle.std.specs.Prelude.{ℕ, zero, suc, ◌+◌, ◌-◌, List, []}
use Rattle.std.specs.declared.option.Option.{Option}
use Rattle.std.specs.declared.option.Option.TheVariants.{None}
use Rattle.flow_cell.specs.declared.waiter.Waiter.{Waiter}
use Rattle.flow_cell.specs.declared.counts.Side.{Side}
use Rattle.flow_cell.specs.declared.counts.Side.TheVariants.{Promise, Future}
use Rattle.flow_cell.specs.declared.counts.Loss.{Loss}
use Rattle.flow_cell.specs.declared.counts.Loss.TheVariants.{Kept, LastPromise, LastFuture, Gone}

-- how many references of each side count
pub record Counts : Type 0 where
  pub promises : ℕ
  pub futures : ℕ

abbrev pub no_counts : Counts
no_counts = record { promises = 0; futures = 0 }

abbrev pub count_of : Side → Counts → ℕ
count_of Promise c = c.promises
count_of Future c = c.futures

-- one reference more, and one less
abbrev pub held : Side → Counts → Counts
held Promise c = record c { promises = c.promises + 1 }
held Future c = record c { futures = c.futures + 1 }

abbrev pub released : Side → Counts → Counts
released Promise c = record c { promises = c.promises - 1 }
released Future c = record c { futures = c.futures - 1 }

-- What a released reference leaves, by the counts afterwards: none on either side; none on its own side; or else one.
abbrev pub last_of : Side → Loss
last_of Promise = LastPromise
last_of Future = LastFuture

abbrev pub own_loss : Side → ℕ → Loss
own_loss s zero = last_of s
own_loss s (suc n) = Kept

abbrev pub loss_by : Side → (promises futures own : ℕ) → Loss
loss_by s zero zero own = Gone
loss_by s zero (suc f) own = own_loss s own
loss_by s (suc p) f own = own_loss s own

abbrev pub loss : Side → Counts → Loss
loss s c = loss_by s c.promises c.futures (count_of s c)

-- a cell: what it holds, the references that count, and who waits for it, oldest first
pub record CellTree (T : Type 0) : Type 0 where
  pub content : Option T
  pub references : Counts
  pub waiters : List Waiter

-- unset, without a reference and without a waiter
abbrev pub unset : {T : Type 0} → CellTree T
unset = record { content = None; references = no_counts; waiters = [] }
