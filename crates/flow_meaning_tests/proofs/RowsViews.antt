-- What is seen at the boundaries of worked runs, computed: of the program and of its classes the same.
use Rattle.std.proofs.Common.{◌≡◌, ℕ, List, [], ◌∷◌, refl}
use Rattle.std.specs.Prelude.{map}
use Rattle.std.specs.Option.{option_map}
use Rattle.std.specs.declared.option.Option.{Option}
use Rattle.std.specs.declared.option.Option.TheVariants.{Some}
use Rattle.flow_worldfile.specs.Worlds.{World}
use Rattle.flow_tree.specs.Decls.{ProgramTree}
use Rattle.flow_class.specs.Classes.{RawTree}
use Rattle.flow_meaning.specs.World.{at_start}
use Rattle.flow_meaning.specs.Source.{source}
use Rattle.flow_meaning.specs.Class.{classes}
use Rattle.flow_meaning.specs.Views.{Unfinished, WaitingBranch}
use Rattle.flow_meaning.specs.Boundaries.{LiveIn, PendingIn, FramesIn, CallbacksIn}
use Rattle.flow_meaning.proofs.Following.{run_for}
use Rattle.flow_meaning_tests.proofs.RowsPlain.{state_in_loop_program, state_in_loop_world, state_in_loop_classes}
use Rattle.flow_meaning_tests.proofs.RowsWaits.{choose_twice_on_one_future_program, choose_twice_on_one_future_world, choose_twice_on_one_future_classes}
use Rattle.flow_meaning_tests.proofs.RowsCancel.{stop_cancels_in_order_program, stop_cancels_in_order_world, stop_cancels_in_order_classes}
use Rattle.flow_meaning_tests.proofs.RowsStreams.{request_server_program, request_server_world, request_server_classes}
use Rattle.flow_meaning_tests.proofs.RowsVectors.{clear_cancels_program, clear_cancels_world, clear_cancels_classes}
use Rattle.flow_meaning_tests.proofs.RowsVoid.{void_actor_outlives_main_program, void_actor_outlives_main_world, void_actor_outlives_main_classes}
use Rattle.flow_meaning_tests.proofs.RowsWorld.{packets_out_of_order_program, packets_out_of_order_world, packets_out_of_order_classes}

-- at each boundary, process by process: the unfinished actors, and the branches at which they wait
abbrev Seen : Type 0
Seen = Option (List (List (List Unfinished) × List (List WaitingBranch)))

abbrev of_program : ProgramTree → World → Seen
of_program p w = option_map (λ r. map (λ s. (LiveIn s, PendingIn s)) r.0) (run_for 400 (source p) 20 (at_start w))

abbrev of_classes : RawTree → World → Seen
of_classes c w = option_map (λ r. map (λ s. (FramesIn s, CallbacksIn s)) r.0) (run_for 400 (classes c) 20 (at_start w))

abbrev actor : (number class group : ℕ) → Unfinished
actor i k g = record { actor = i; class = k; group = g }

abbrev waits : (number branch cell : ℕ) → WaitingBranch
waits i b k = record { actor = i; branch = b; cell = k }

-- a `main` with three actors, of which the second event leaves none
stop_cancels_in_order_seen : of_program stop_cancels_in_order_program stop_cancels_in_order_world ≡ Some (
    ((actor 1 1 1 ∷ actor 2 0 1 ∷ actor 3 0 1 ∷ actor 4 0 1 ∷ []) ∷ [], (waits 1 0 8 ∷ waits 2 0 3 ∷ waits 3 0 5 ∷ waits 4 0 7 ∷ []) ∷ [])
    ∷ ([] ∷ [], [] ∷ [])
    ∷ [])
unfolding stop_cancels_in_order_program stop_cancels_in_order_world
stop_cancels_in_order_seen = refl

stop_cancels_in_order_views : of_program stop_cancels_in_order_program stop_cancels_in_order_world ≡ of_classes stop_cancels_in_order_classes stop_cancels_in_order_world
unfolding stop_cancels_in_order_program stop_cancels_in_order_world stop_cancels_in_order_classes
stop_cancels_in_order_views = refl

state_in_loop_views : of_program state_in_loop_program state_in_loop_world ≡ of_classes state_in_loop_classes state_in_loop_world
unfolding state_in_loop_program state_in_loop_world state_in_loop_classes
state_in_loop_views = refl

choose_twice_on_one_future_views : of_program choose_twice_on_one_future_program choose_twice_on_one_future_world ≡ of_classes choose_twice_on_one_future_classes choose_twice_on_one_future_world
unfolding choose_twice_on_one_future_program choose_twice_on_one_future_world choose_twice_on_one_future_classes
choose_twice_on_one_future_views = refl

request_server_views : of_program request_server_program request_server_world ≡ of_classes request_server_classes request_server_world
unfolding request_server_program request_server_world request_server_classes
request_server_views = refl

packets_out_of_order_views : of_program packets_out_of_order_program packets_out_of_order_world ≡ of_classes packets_out_of_order_classes packets_out_of_order_world
unfolding packets_out_of_order_program packets_out_of_order_world packets_out_of_order_classes
packets_out_of_order_views = refl

-- a void actor is there at the boundary of the event in which `main` ended
void_actor_outlives_main_seen : of_program void_actor_outlives_main_program void_actor_outlives_main_world ≡ Some (
    ((actor 2 0 1 ∷ []) ∷ [], (waits 2 0 2 ∷ []) ∷ [])
    ∷ ([] ∷ [], [] ∷ [])
    ∷ [])
unfolding void_actor_outlives_main_program void_actor_outlives_main_world
void_actor_outlives_main_seen = refl

void_actor_outlives_main_views : of_program void_actor_outlives_main_program void_actor_outlives_main_world ≡ of_classes void_actor_outlives_main_classes void_actor_outlives_main_world
unfolding void_actor_outlives_main_program void_actor_outlives_main_world void_actor_outlives_main_classes
void_actor_outlives_main_views = refl

clear_cancels_views : of_program clear_cancels_program clear_cancels_world ≡ of_classes clear_cancels_classes clear_cancels_world
unfolding clear_cancels_program clear_cancels_world clear_cancels_classes
clear_cancels_views = refl
