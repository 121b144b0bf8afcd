-- What the code knows of an actor and of what is around a body, seen as plain data.
use Rattle.std.specs.Prelude.{List}
use Rattle.std.specs.Option.{option_map}
use Rattle.flow_tree.specs.Decls.{SlotTree}
use Rattle.flow_tree.specs.DeclView.{program_of}
use Rattle.flow_class.specs.Classes.{LastTree, GotoLast, PassLast}
use Rattle.flow_choose.specs.Places.{slots_seen}
use Rattle.flow_meaning.specs.Evaluating.{Names}
use Rattle.flow_meaning.specs.Source.{names_of}
use Rattle.flow_split.specs.declared.context.Context.{Context}
use Rattle.flow_split.specs.declared.around.Jump.{Jump}
use Rattle.flow_split.specs.declared.around.Jump.TheVariants.{Goto, Pass}
use Rattle.flow_split.specs.declared.around.Exit as code_exit
use Rattle.flow_split.specs.declared.around.Exit.TheVariants as exit
use Rattle.flow_split.specs.declared.around.Handler.{Handler}
use Rattle.flow_split.specs.declared.around.Looped as code_looped
use Rattle.flow_split.specs.declared.around.Around as code_around
use Rattle.flow_split.specs.Around.{Exit, Text, Scoped, Part, Hand, Looped, Around}

abbrev pub names_in : Context → Names
names_in c = names_of (program_of c.program.now)

abbrev pub slots_in : Context → List SlotTree
slots_in c = slots_seen c.layout.now.slots.items

abbrev pub jump_of : Jump → LastTree
jump_of (Goto b) = GotoLast b
jump_of (Pass b) = PassLast b

abbrev pub exit_of : code_exit.Exit → Exit
exit_of (exit.Text close) = Text close
exit_of (exit.Scope jump) = Scoped (jump_of jump)
exit_of (exit.Part jump) = Part (jump_of jump)

abbrev pub hand_of : Handler → Hand
hand_of h = record { block = h.block; error = h.error }

abbrev pub looped_of : code_looped.Looped → Looped
looped_of l = record { depth = l.depth; tried = l.tried; out = l.out; again = jump_of l.again }

abbrev pub around_of : code_around.Around → Around
around_of w = record {
  exit = exit_of w.exit;
  hand = option_map hand_of w.handler;
  depth = w.depth;
  looped = looped_of w.looped;
  caught = option_map (λ x. x.now) w.caught;
}
