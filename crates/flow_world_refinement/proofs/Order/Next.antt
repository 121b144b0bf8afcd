-- What comes next, by both.
use Rattle.std.proofs.Common.{◌≡◌, ℕ, ◌<◌, ◌≤◌, Bool, true, false, List, [], ◌∷◌, Option, Some, None, IsSome, nat_le, refl, sym, ap, ◌∙◌, subst, arith, if◌then◌else◌}
use Rattle.std.specs.Prelude.{Result}
use Rattle.std.proofs.lemmas.Bool.Decides.{nat_tests}
use Rattle.flow_base.specs.declared.fault.OutFault.{OutFault}
use Rattle.flow_trace.specs.declared.line.Line.{Line}
use Rattle.flow_trace.specs.declared.line.Line.TheVariants as line
use Rattle.flow_worldfile.specs.declared.world.At.{At}
use Rattle.flow_worldfile.specs.declared.directive.Order.{Order}
use Rattle.flow_worldfile.specs.Worlds.{order_of}
use Rattle.flow_timers.specs.Pending.{Pending, next_event}
use Rattle.flow_meaning.specs.Frame.{Frame}
use Rattle.flow_meaning.specs.Process.{Proc}
use Rattle.flow_meaning.specs.Outside as meaning
use Rattle.flow_meaning.specs.World.{World, Next, Nothing, Script, Event, first_of, soonest, next_of, ending}
use Rattle.flow_steps.specs.declared.process.Process.{Process}
use Rattle.flow_world.specs.declared.outside.What.{What}
use Rattle.flow_world.specs.Ending.{Seen, script_time}
use Rattle.flow_world.specs.Ending as memory
use Rattle.flow_world.specs.Representing.{EventsRepresent}
use Rattle.flow_world_refinement.specs.Order.Showing.{ScriptRepresents, WorldRepresents}
use Rattle.flow_world_refinement.specs.Order.Coming.{LineNext, EventNext, NextMatches, SameNext, SameEnd}

-- by what is left of the script and of the pending events
comes :
    (w : Seen) (o : meaning.Outside) (ls : List At) (es : List (Pending What)) (xs : List (ℕ × Order)) (ys : List (Pending meaning.What)) → w.script ≡ ls
    → w.outside.timers.pending ≡ es → o.events.pending ≡ ys → ScriptRepresents ls xs → EventsRepresent w.outside.net.on_way es ys
    → NextMatches w (memory.next_of (script_time ls) (next_event es)) (first_of (soonest xs) ys) o
comes w o [] [] xs [] script events pending s t = subst (λ zs. NextMatches w None (first_of (soonest zs) []) o) (sym s) tt
comes w o [] [] xs (y ∷ ys) script events pending s t = elim t [ ]
comes w o [] (e ∷ es) xs [] script events pending s t = elim t [ ]
comes w o (l ∷ ls) [] xs (y ∷ ys) script events pending s t = elim t [ ]
comes w o (l ∷ ls) (e ∷ es) xs [] script events pending s t = elim t [ ]
comes w o [] (e ∷ es) xs (y ∷ ys) script events pending s t =
    let shown : EventNext w e.time y = record { first = e; rest = es; are = events; at = refl; shows = t.0 } in
    subst (λ zs. NextMatches w (Some (e.time, false)) (first_of (soonest zs) (y ∷ ys)) o) (sym s) (shown, pending)
comes w o (l ∷ ls) [] xs [] script events pending s t =
    let shown : LineNext l.time w.script l.time (order_of l.act) s.0 = record { line = l; rest = ls; are = script; at = refl; same = refl; orders = refl; shows = s.2 } in
    subst (λ z. NextMatches w (Some (l.time, true)) (first_of z []) o) (sym s.1) shown
comes w o (l ∷ ls) (e ∷ es) xs (y ∷ ys) script events pending s t =
    subst
    (λ z. NextMatches w (if nat_le l.time e.time then Some (l.time, true) else Some (e.time, false)) (first_of z (y ∷ ys)) o)
    (sym s.1)
    (subst
    (λ u. NextMatches w (if nat_le l.time e.time then Some (l.time, true) else Some (e.time, false)) (if nat_le l.time u then Script l.time (order_of l.act) s.0 else Event y ys) o)
    t.0.time
    (by_test (nat_le l.time e.time)))
  where
    line_next : LineNext l.time w.script l.time (order_of l.act) s.0
    line_next = record { line = l; rest = ls; are = script; at = refl; same = refl; orders = refl; shows = s.2 }

    event_next : EventNext w e.time y
    event_next = record { first = e; rest = es; are = events; at = refl; shows = t.0 }

    by_test : (b : Bool) → NextMatches w (if b then Some (l.time, true) else Some (e.time, false)) (if b then Script l.time (order_of l.act) s.0 else Event y ys) o
    by_test true = line_next
    by_test false = (event_next, pending)

module _ (Rests : Process → Proc Frame → Type 0) where
  pub same_next : SameNext Rests
  same_next w m s = comes w m.out w.script w.outside.timers.pending m.out.script m.out.events.pending refl refl refl s.script s.outside.events

-- how a run ends before what comes next
idle : (w : Seen) (o : meaning.Outside) (n : Option (ℕ × Bool)) (x : Next) → n ≡ None → NextMatches w n x o → ending o x ≡ Some line.EndIdle
idle w o None Nothing e h = refl
idle w o None (Script time order left) e h = elim h [ ]
idle w o None (Event x left) e h = elim h [ ]
idle w o (Some p) x e h = absurd (cc)

something : (w : Seen) (o : meaning.Outside) (n : Option (ℕ × Bool)) (x : Next) → IsSome n → NextMatches w n x o
    → ending o x ≡ (if nat_le o.file.events o.ran then Some line.EndBound else None)
something w o None x some h = absurd (cc)
something w o (Some (t, true)) Nothing some h = elim h [ ]
something w o (Some (t, true)) (Event x left) some h = elim h [ ]
something w o (Some (t, false)) Nothing some h = elim h [ ]
something w o (Some (t, false)) (Script time order left) some h = elim h [ ]
something w o (Some (t, true)) (Script time order left) some h = refl
something w o (Some (t, false)) (Event x left) some h = refl

module _ (Rests : Process → Proc Frame → Type 0) {A : Type 0} (puts : A → Line → Result (Unit {0}) OutFault → A → Type 0) where
  pub goes_on : (w v : Seen) (m : World Frame) (a b : A) → WorldRepresents Rests w m → IsSome (memory.next w) → w.ran < w.bound → ending m.out (next_of m.out) ≡ None
  goes_on w v m a b s some within =
      let fewer : nat_le m.out.file.events m.out.ran ≡ false = grind (arith, nat_tests, s.ran, s.bound) in
      something w m.out (memory.next w) (next_of m.out) some (same_next Rests w m s) ∙ ap (λ t. if t then Some line.EndBound else None) fewer

  bound : (w v : Seen) (m : World Frame) (a b : A) → WorldRepresents Rests w m → IsSome (memory.next w) → w.bound ≤ w.ran → ending m.out (next_of m.out) ≡ Some line.EndBound
  bound w v m a b s some reached =
      let enough : nat_le m.out.file.events m.out.ran ≡ true = grind (arith, nat_tests, s.ran, s.bound) in
      something w m.out (memory.next w) (next_of m.out) some (same_next Rests w m s) ∙ ap (λ t. if t then Some line.EndBound else None) enough

  pub same_end : SameEnd Rests puts
  same_end w v m a b s = (
    λ e. idle w m.out (memory.next w) (next_of m.out) e.0 (same_next Rests w m s),
    λ e. bound w v m a b s e.0 e.1,
    λ h. goes_on w v m a b s (is_some h.comes) h.bound,
    λ h. goes_on w v m a b s (is_some h.comes) h.bound,
  )
    where
      is_some : {n : Option (ℕ × Bool)} {p : ℕ × Bool} → n ≡ Some p → IsSome n
      is_some e = rw e refl
