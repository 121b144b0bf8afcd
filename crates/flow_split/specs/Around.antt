-- What is around a body that is lowered.
use Rattle.std.specs.Prelude.{ℕ, suc, ◌+◌, Bool, true, false, List}
use Rattle.std.specs.declared.option.Option.{Option}
use Rattle.std.specs.declared.option.Option.TheVariants.{None, Some}
use Rattle.flow_base.specs.declared.place.Place.{Place}
use Rattle.flow_class.specs.Classes.{LastTree, GotoLast}

-- How a body goes on at its end: it is the whole text, which ends at a brace that nothing reaches, or else returns, as that of a void
-- actor does; its locals are dropped and a jump follows; or it is a part of a `for`, whose locals stay, and a jump follows.
pub data Exit : Type 0 where
  Text : (close : Option Place) → Exit
  Scoped : LastTree → Exit
  Part : LastTree → Exit

-- the handler of a try body: its block, and the local that takes the error
pub record Hand : Type 0 where
  pub block : ℕ
  pub error : ℕ

-- the loop around: how many scopes a break or a continue leaves, whether it leaves a try body, the block behind the
-- loop, and how a continue goes on
pub record Looped : Type 0 where
  pub depth : ℕ
  pub tried : Bool
  pub out : ℕ
  pub again : LastTree

-- What is around a body: its exit; the handler of its errors, with the number of scopes within that try body; its loop;
-- and the variable of the catch around.
pub record Around : Type 0 where
  pub exit : Exit
  pub hand : Option Hand
  pub depth : ℕ
  pub looped : Looped
  pub caught : Option (List ℕ)

-- The text of an actor. A break or a continue outside of all loops, which no text has, goes to the first block.
abbrev pub whole : Option Place → Around
whole close = record {
  exit = Text close;
  hand = None;
  depth = 0;
  looped = record { depth = 0; tried = false; out = 0; again = GotoLast 0 };
  caught = None;
}

abbrev pub deeper : Looped → Looped
deeper l = record l { depth = suc l.depth }

-- a scope further in, with an exit of its own
abbrev pub inner : Around → Exit → Around
inner w exit = record w { exit = exit; depth = suc w.depth; looped = deeper w.looped }

-- the body of a loop, so many scopes further in
abbrev pub pass : Around → (scopes : ℕ) → (again : LastTree) → (out : ℕ) → Around
pass w scopes again out = record w {
  exit = Scoped again;
  depth = w.depth + scopes;
  looped = record { depth = 1; tried = false; out = out; again = again };
}

-- a try body
abbrev pub guarded : Around → Exit → Hand → Around
guarded w exit hand = record w { exit = exit; hand = Some hand; depth = 1; looped = record (deeper w.looped) { tried = true } }

-- the body of a catch
abbrev pub handling : Around → Exit → List ℕ → Around
handling w exit name = record (inner w exit) { caught = Some name }
