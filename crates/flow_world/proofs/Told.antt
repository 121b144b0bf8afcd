-- Where nothing is left that could be told, all is.
use Rattle.std.proofs.Common.{◌≡◌, ◌≤◌, ℕ, zero, suc, List, [], ◌∷◌, ◌++◌, length, drop, refl, sym, subst, arith}
use Rattle.std.proofs.lemmas.List.{append-nil}
use Rattle.flow_simnet.specs.declared.packet.Packet.{Packet}
use Rattle.flow_simdisk.specs.Disk.{Disk}
use Rattle.flow_timers.specs.Pending.{Pending}
use Rattle.flow_saved.specs.declared.state.PendingEvent.{PendingEvent}
use Rattle.flow_saved.specs.Saved.{SavedProcess}
use Rattle.flow_world.specs.declared.outside.What.{What}
use Rattle.flow_world.specs.declared.place.Place.{Place}
use Rattle.flow_world.specs.Saving.{EventsTold, ProcessesTold}

left_none : {A : Type 0} (xs : List A) (i : ℕ) → length xs ≤ i → drop i xs ≡ []
left_none [] zero le = refl
left_none [] (suc i) le = refl
left_none (x ∷ xs) zero le = absurd (omega (arith, le))
left_none (x ∷ xs) (suc i) le = let less : length xs ≤ i = omega (arith, le) in left_none xs i less

pub processes_all :
    (ats : List Place) (ds : List Disk) (i : ℕ) (told : List SavedProcess) → length ats ≤ i
    → ((xs : List SavedProcess) → ProcessesTold (drop i ats) (drop i ds) xs → ProcessesTold ats ds (told ++ xs)) → ProcessesTold ats ds told
processes_all ats ds i told le h =
    subst (ProcessesTold ats ds) (append-nil told) (h [] (subst (λ xs. ProcessesTold xs (drop i ds) []) (sym (left_none ats i le)) refl))

pub events_all :
    (on_way : List Packet) (all : List (Pending What)) (told : List PendingEvent)
    → ((xs : List PendingEvent) → EventsTold on_way [] xs → EventsTold on_way all (told ++ xs)) → EventsTold on_way all told
events_all on_way all told h = subst (EventsTold on_way all) (append-nil told) (h [] tt)
