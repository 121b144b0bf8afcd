-- What a process answers to an ask with more turns: the same, or more where the turns ran out.
use Rattle.std.proofs.Common.{◌≡◌, ℕ, suc, ◌+◌, List, [], ◌∷◌, ◌++◌, ◌⊎◌, inl, inr, refl, sym, ap, subst}
use Rattle.std.specs.Prelude.{ℤ, pos, ◌-ℤ◌, ◌^◌, int_le, nat_le, nat_lt, Bool, true, false, ◌&&◌, if◌then◌else◌}
use Rattle.std.specs.declared.option.Option.{Option}
use Rattle.std.specs.declared.option.Option.TheVariants.{None, Some}
use Rattle.flow_base.specs.ErrorNumbers.{second_waiter, already_set, port_in_use, bad_argument, out_of_range}
use Rattle.flow_value.specs.declared.value.Kind.{Kind}
use Rattle.flow_value.specs.declared.value.Kind.TheVariants as kind
use Rattle.flow_value.specs.Values.{ValueTree, IntValue, RefValue, OutcomeTree, GoodOutcome}
use Rattle.flow_trace.specs.declared.line.Line.{Line}
use Rattle.flow_draw.specs.Words.{scaled}
use Rattle.flow_eval.specs.Predefined.{natural}
use Rattle.flow_numbered.specs.Numbered.{thing, added}
use Rattle.flow_meaning.specs.Cells.{Cell, Single, Stream, is_complete}
use Rattle.flow_meaning.specs.Requests.{Spot, Act, Goes, Pass, Drops, Effects, Operand, Waits, Sends, Cancels, Prints, SendsTo, Returns, Throws, RunsOut, Stuck, DiskCall, Effect, Make, Start, Draw, Delay, Never, Listen, Disk, Goal, Request, Drew, Timer, Packet, Disks, Supply}
use Rattle.flow_meaning.specs.Requests as requests
use Rattle.flow_meaning.specs.Process.{Task, Run, Throw, Keep, Close, Entry, Spent, NoMeaning, Core}
use Rattle.flow_meaning.specs.Lines.{wait_line, print_line}
use Rattle.flow_meaning.specs.References.{refs_in}
use Rattle.flow_meaning.specs.Work.{halt, turn, writes, pushed, dropping, dropping_values, new_cell, fill, take_branch, first_ready, Registration, Registered, Refused, Missing, register, owner, cancel_owner}
use Rattle.flow_meaning.specs.Effects.{Reaction, quiet, throws, result_task, push_result, gives, gives_new, gives_open, empty_cell, between, draw, delay, is_port, open_port, listen, judged, ask_disk, effect, send_to}
use Rattle.flow_meaning.specs.React.{send_by, send_in, print, at_spot, suspend, wait_by, wait, react}
use Rattle.flow_meaning.specs.Turns.{Starts, more, IsHalted}
use Rattle.flow_meaning.proofs.More.{Ahead, Fair, Even, fair, still, after_turn, then_even, own_fair, own_even, halt_even, writes_even, pushed_even, dropping_even, fill_even, leave_for_even, take_branch_fair, cancel_owner_even}

-- the same of what also asks something of the world
abbrev pub more_asked : ℕ → Reaction → Reaction
more_asked k r = (more k r.0, r.1)

abbrev pub AheadAsked : ℕ → Reaction → Reaction → Type 0
AheadAsked k r s = (s ≡ more_asked k r) ⊎ (IsHalted r.0 × (r.1 ≡ None) × Starts r.0.lines s.0.lines)

pub record FairAsk (f : Core → Reaction) : Type 0 where
  pub alike : (k : ℕ) (c : Core) → AheadAsked k (f c) (f (more k c))
  pub grows : (c : Core) → Starts c.lines (f c).0.lines

quiet_ahead : (k : ℕ) (c d : Core) → Ahead k c d → AheadAsked k (quiet c) (quiet d)
quiet_ahead k c d (inl e) = inl (ap quiet e)
quiet_ahead k c d (inr s) = inr (s.0, refl, s.1)

quiet_fair : (f : Core → Core) → Fair f → FairAsk (λ c. quiet (f c))
quiet_fair f h = record { alike = λ k c. quiet_ahead k (f c) (f (more k c)) (h.alike k c); grows = h.grows }

-- a request that doesn't depend on the turns
asking : (f : Core → Core) (q : Core → Option Request) → Even f → ((k : ℕ) (c : Core) → q (more k c) ≡ q c) → FairAsk (λ c. (f c, q c))
asking f q h e = record {
  alike = λ k c. inl (asked (h.even k c) (e k c));
  grows = h.adds;
}
  where
    reaction : Core → Option Request → Reaction
    reaction c q = (c, q)

    asked : {c d : Core} {q r : Option Request} → c ≡ d → q ≡ r → reaction c q ≡ reaction d r
    asked h k = cc

either : (b : Bool) (f g : Core → Reaction) → FairAsk f → FairAsk g → FairAsk (λ c. if b then f c else g c)
either true f g h k = h
either false f g h k = k

own_ask : {X : Type 0} (f : X → Core → Reaction) (x : Core → X) → ((k : ℕ) (c : Core) → x (more k c) ≡ x c) → ((y : X) → FairAsk (f y)) → FairAsk (λ c. f (x c) c)
own_ask f x e h = record {
  alike = λ k c. subst (λ y. AheadAsked k (f (x c) c) (f y (more k c))) (sym (e k c)) ((h (x c)).alike k c);
  grows = λ c. (h (x c)).grows c;
}

throws_fair : (i e : ℕ) → FairAsk (throws i e)
throws_fair i e = quiet_fair (pushed (Throw i e)) (fair _ (pushed_even (Throw i e)))

new_cell_even : (x : Cell) → Even (new_cell x)
new_cell_even x = still (new_cell x) (λ k c. refl) (λ c. refl)

pub push_result_even : (i : ℕ) (t : Option Task) → Even (push_result i t)
push_result_even i None = halt_even NoMeaning
push_result_even i (Some t) = then_even (pushed (Run i)) (pushed t) (pushed_even (Run i)) (pushed_even t)

gives_even : (i : ℕ) (g : Goal) (v : ValueTree) → Even (gives i g v)
gives_even i g v = push_result_even i (result_task i g v)

gives_new_even : (i : ℕ) (g : Goal) (kd : Kind) (x : Cell) → Even (gives_new i g kd x)
gives_new_even i g kd x =
    own_even (λ n c. gives i g (RefValue kd (suc n)) (new_cell x c)) (λ c. c.made) (λ k c. refl)
    (λ n. then_even (new_cell x) (gives i g (RefValue kd (suc n))) (new_cell_even x) (gives_even i g (RefValue kd (suc n))))

gives_open_even : (i : ℕ) (g : Goal) → Even (gives_open i g)
gives_open_even i g =
    then_even (λ c. record c { requests = c.requests ++ suc c.made ∷ [] }) (gives_new i g kind.Future (Single None []))
    (still (λ c. record c { requests = c.requests ++ suc c.made ∷ [] }) (λ k c. refl) (λ c. refl)) (gives_new_even i g kind.Future (Single None []))

draw_fair : (s : Supply) (i : ℕ) (g : Goal) (lo hi : ℤ) → FairAsk (draw s i g lo hi)
draw_fair s i g lo hi =
    either (between (hi -ℤ lo) 1 (2 ^ 32)) (λ c. (gives i g (IntValue (scaled lo (natural (hi -ℤ lo)) s.word)) c, Some (Drew (natural (hi -ℤ lo))))) (throws i bad_argument)
    (asking (gives i g (IntValue (scaled lo (natural (hi -ℤ lo)) s.word))) (λ c. Some (Drew (natural (hi -ℤ lo)))) (gives_even i g _) (λ k c. refl)) (throws_fair i bad_argument)

delay_fair : (i : ℕ) (g : Goal) (time : ℕ) → FairAsk (delay i g time)
delay_fair i g time =
    either (nat_le time (2 ^ 62)) (λ c. (gives_open i g c, Some (Timer (suc c.made) time))) (throws i out_of_range)
    (asking (gives_open i g) (λ c. Some (Timer (suc c.made) time)) (gives_open_even i g) (λ k c. refl)) (throws_fair i out_of_range)

open_port_fair : (i : ℕ) (g : Goal) (port : ℕ) (o : Option ℕ) → FairAsk (open_port i g port o)
open_port_fair i g port (Some cell) = throws_fair i port_in_use
open_port_fair i g port None =
    quiet_fair (λ c. gives_new i g kind.FutureStream (Stream [] None None) (record c { ports = added c.ports port (suc c.made) }))
    (fair _ (then_even (λ c. record c { ports = added c.ports port (suc c.made) }) (gives_new i g kind.FutureStream (Stream [] None None))
    (still (λ c. record c { ports = added c.ports port (suc c.made) }) (λ k c. refl) (λ c. refl)) (gives_new_even i g kind.FutureStream (Stream [] None None))))

listen_fair : (i : ℕ) (g : Goal) (port : ℤ) → FairAsk (listen i g port)
listen_fair i g port =
    either (is_port port) (λ c. open_port i g (natural port) (thing c.ports (natural port)) c) (throws i bad_argument)
    (own_ask (open_port i g (natural port)) (λ c. thing c.ports (natural port)) (λ k c. refl) (open_port_fair i g (natural port))) (throws_fair i bad_argument)

ask_disk_fair : (i : ℕ) (g : Goal) (call : Option (DiskCall ℕ)) → FairAsk (ask_disk i g call)
ask_disk_fair i g None = throws_fair i bad_argument
ask_disk_fair i g (Some call) = asking (gives_open i g) (λ c. Some (Disks (suc c.made) call)) (gives_open_even i g) (λ k c. refl)

pub effect_fair : (s : Supply) (i : ℕ) (g : Goal) (e : Effect) → FairAsk (effect s i g e)
effect_fair s i g (Make kd) = quiet_fair (gives_new i g kd (empty_cell kd)) (fair _ (gives_new_even i g kd (empty_cell kd)))
effect_fair s i g (Start class args) = quiet_fair (halt NoMeaning) (fair _ (halt_even NoMeaning))
effect_fair s i g (Draw lo hi) = draw_fair s i g lo hi
effect_fair s i g (Delay ticks) = delay_fair i g (s.now + natural ticks)
effect_fair s i g Never = quiet_fair (gives_new i g kind.Future (Single None [])) (fair _ (gives_new_even i g kind.Future (Single None [])))
effect_fair s i g (Listen port) = listen_fair i g port
effect_fair s i g (Disk call) = ask_disk_fair i g (judged call)

send_to_fair : (s : Supply) (i : ℕ) (q port : ℤ) (text : List ℕ) → FairAsk (send_to s i q port text)
send_to_fair s i q port text =
    either (int_le (pos 0) q && nat_lt (natural q) s.processes && is_port port) (λ c. (pushed (Run i) c, Some (Packet (natural q) (natural port) text))) (throws i bad_argument)
    (asking (pushed (Run i)) (λ c. Some (Packet (natural q) (natural port) text)) (pushed_even (Run i)) (λ k c. refl)) (throws_fair i bad_argument)

-- asks
send_by_fair : (b : Bool) (i k : ℕ) (o : OutcomeTree) → Fair (send_by b i k o)
send_by_fair true i k o = fair _ (pushed_even (Throw i already_set))
send_by_fair false i k o = after_turn (λ d. fill k o (pushed (Run i) d)) (fair _ (then_even (pushed (Run i)) (fill k o) (pushed_even (Run i)) (fill_even k o)))

send_in_fair : (i k : ℕ) (o : OutcomeTree) (x : Option Cell) → Fair (send_in x i k o)
send_in_fair i k o None = fair _ (halt_even NoMeaning)
send_in_fair i k o (Some cell) = send_by_fair (is_complete cell) i k o

print_even : (i : ℕ) (l : Option Line) → Even (print i l)
print_even i None = halt_even NoMeaning
print_even i (Some l) = then_even (writes l) (pushed (Run i)) (writes_even l) (pushed_even (Run i))

suspend_even : (i : ℕ) (spot : Spot) (e : Entry) (vs : List ValueTree) (r : Registration) → Even (suspend i spot e vs r)
suspend_even i spot e vs Missing = halt_even NoMeaning
suspend_even i spot e vs Refused = leave_for_even i e vs (Throw i second_waiter)
suspend_even i spot e vs (Registered cells) = record { even = λ k c. refl; adds = λ c. (wait_line i spot.group ∷ [], refl) }

wait_by_fair : (i : ℕ) (spot : Spot) (e : Entry) (vs : List ValueTree) (b : Option (ℕ × ℕ)) → Fair (wait_by i spot e vs b)
wait_by_fair i spot e vs (Some b) = own_fair (take_branch i b.0 b.1 e vs) (λ c. thing c.cells b.1) (λ k c. refl) (take_branch_fair i b.0 b.1 e vs)
wait_by_fair i spot e vs None =
    own_fair (suspend i spot e vs) (λ c. register i 0 e.operands (Registered c.cells)) (λ k c. refl) (λ r. fair _ (suspend_even i spot e vs r))

wait_fair : (i : ℕ) (spot : Spot) (vs : List ValueTree) (e : Option Entry) → Fair (wait i spot e vs)
wait_fair i spot vs None = fair _ (halt_even NoMeaning)
wait_fair i spot vs (Some e) =
    own_fair (wait_by i spot (at_spot spot e) vs) (λ c. first_ready c.cells 0 e.operands) (λ k c. refl) (wait_by_fair i spot (at_spot spot e) vs)

pub react_fair : (s : Supply) (i : ℕ) (a : Act) → FairAsk (react s i a)
react_fair s i Goes = quiet_fair (pushed (Run i)) (fair _ (pushed_even (Run i)))
react_fair s i Pass = quiet_fair (λ c. turn c (λ d. pushed (Run i) d)) (after_turn (pushed (Run i)) (fair _ (pushed_even (Run i))))
react_fair s i (Drops vs) = quiet_fair (λ c. dropping_values vs (pushed (Run i) c)) (fair _ (then_even (pushed (Run i)) (dropping (refs_in vs)) (pushed_even (Run i)) (dropping_even (refs_in vs))))
react_fair s i (Effects g e) = effect_fair s i g e
react_fair s i (requests.Starts class args) = quiet_fair (halt NoMeaning) (fair _ (halt_even NoMeaning))
react_fair s i (Operand spot r) = quiet_fair (λ c. pushed (Keep i spot r) (pushed (Run i) c))
    (fair _ (then_even (pushed (Run i)) (pushed (Keep i spot r)) (pushed_even (Run i)) (pushed_even (Keep i spot r))))
react_fair s i (Waits spot vs) = quiet_fair (λ c. wait i spot (thing c.entries i) vs c) (own_fair (λ e. wait i spot e vs) (λ c. thing c.entries i) (λ k c. refl) (wait_fair i spot vs))
react_fair s i (Sends k o) = quiet_fair (λ c. send_in (thing c.cells k) i k o c) (own_fair (λ x. send_in x i k o) (λ c. thing c.cells k) (λ n c. refl) (send_in_fair i k o))
react_fair s i (Cancels k) =
    quiet_fair (λ c. cancel_owner (owner k c.entries) (pushed (Run i) c))
    (own_fair (λ o c. cancel_owner o (pushed (Run i) c)) (λ c. owner k c.entries) (λ n c. refl)
    (λ o. fair _ (then_even (pushed (Run i)) (cancel_owner o) (pushed_even (Run i)) (cancel_owner_even o))))
react_fair s i (Prints v) = quiet_fair (print i (print_line i v)) (fair _ (print_even i (print_line i v)))
react_fair s i (SendsTo q port text) = send_to_fair s i q port text
react_fair s i (Returns v vs) =
    quiet_fair (λ c. dropping_values vs (pushed (Close i (GoodOutcome v)) c))
    (fair _ (then_even (pushed (Close i (GoodOutcome v))) (dropping (refs_in vs)) (pushed_even (Close i (GoodOutcome v))) (dropping_even (refs_in vs))))
react_fair s i (Throws e) = throws_fair i e
react_fair s i RunsOut = quiet_fair (halt Spent) (fair _ (halt_even Spent))
react_fair s i Stuck = quiet_fair (halt NoMeaning) (fair _ (halt_even NoMeaning))
