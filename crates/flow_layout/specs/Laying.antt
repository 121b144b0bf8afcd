-- A layout, seen as plain data, and what statements add to one.
use Rattle.std.specs.Prelude.{◌≡◌, ℕ, List, [], ◌∷◌, ◌++◌, map}
use Rattle.flow_tree.specs.Tree.{TypeTree}
use Rattle.flow_tree.specs.Decls.{SlotTree, RoutineTree}
use Rattle.std.specs.declared.option.Option.{Option}
use Rattle.std.specs.declared.option.Option.TheVariants.{None, Some}
use Rattle.flow_tree.specs.Body.{Body, End, Branches}
use Rattle.flow_tree.specs.View.{type_of}
use Rattle.flow_tree.specs.DeclView.{slot_of}
use Rattle.flow_ast.specs.Slots.{slots_of, body_slots, branch_slots, body_groups, branch_groups}
use Rattle.flow_layout.specs.declared.places.Layout.{Layout}
use Rattle.flow_layout.specs.Locals.{body_locals, branch_locals, counts, locals_of, branches_of}

pub record LayoutTree : Type 0 where
  pub slots : List SlotTree
  pub locals : List TypeTree
  pub branches : List ℕ

abbrev pub laid : Layout → LayoutTree
laid l = record { slots = map slot_of l.slots.items; locals = map type_of l.locals.items; branches = l.branches.items }

-- the layout of an actor
abbrev pub layout_of : RoutineTree → LayoutTree
layout_of a = record { slots = slots_of a; locals = locals_of a; branches = branches_of a }

-- a layout with that of more statements, or of more branches
abbrev pub with_body : LayoutTree → Body → LayoutTree
with_body l b = record {
  slots = l.slots ++ body_slots b;
  locals = l.locals ++ body_locals b;
  branches = l.branches ++ counts (body_groups b);
}

abbrev pub with_branches : LayoutTree → Branches → LayoutTree
with_branches l bs = record {
  slots = l.slots ++ branch_slots bs;
  locals = l.locals ++ branch_locals bs;
  branches = l.branches ++ counts (branch_groups bs);
}

-- The layout grows by a statement: with that of any body behind it, it is what it was, with that of the body that the
-- statement and these make.
abbrev pub LaysBefore : (Body → Body) → LayoutTree → LayoutTree → Type 0
LaysBefore stmt old new = (rest : Body) → with_body new rest ≡ with_body old (stmt rest)

-- what a variable adds
abbrev pub with_more : LayoutTree → List SlotTree → List TypeTree → LayoutTree
with_more l ss ts = record { slots = l.slots ++ ss; locals = l.locals ++ ts; branches = l.branches }

-- the body of an `else`, which is empty where there is none
abbrev pub else_body : Option Body → Body
else_body None = End
else_body (Some b) = b

-- what a group of so many branches adds
abbrev pub with_group : LayoutTree → ℕ → LayoutTree
with_group l n = record l { branches = l.branches ++ n ∷ [] }
