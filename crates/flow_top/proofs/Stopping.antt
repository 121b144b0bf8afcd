-- A monitor says Stop in a trace, in an event that isn't spent, exactly where the trace, cut by it, ends with its `end stop`.
use Rattle.std.proofs.Common.{◌≡◌, ◌≢◌, ℕ, Bool, true, false, true≢false, List, [], ◌∷◌, ◌++◌, refl, sym, ap, ◌∙◌, subst, Option, None, Some}
use Rattle.std.specs.Prelude.{not, if◌then◌else◌}
use Rattle.flow_trace.specs.declared.line.Line.{Line}
use Rattle.flow_trace.specs.declared.line.Line.TheVariants as line
use Rattle.flow_monitor.specs.declared.monitor.Heard.{Heard}
use Rattle.flow_monitor.specs.declared.monitor.Heard.TheVariants.{Go, Done, Stop}
use Rattle.flow_monitor.specs.Ears.{Ear, Ears, ear_after, kept_if, is_stop, or_here}
use Rattle.flow_monitor.specs.Heard.{is_heard}
use Rattle.flow_monitor.specs.Cut.{is_boundary, closing, cut_from, Cut}
use Rattle.flow_world.specs.Ends.{LastIs}
use Rattle.flow_shrink.specs.Shrinking.{Hearing, hears, deaf, said, over, by_said, is_spent, after_line, after_lines, is_stopped}
use Rattle.flow_top.specs.Requests.{alone}

-- the last of some lines behind another
abbrev pub last_or : Line → List Line → Line
last_or d [] = d
last_or d (l ∷ ls) = last_or l ls

pub last_behind : (d : Line) (ls ms : List Line) → last_or d (ls ++ ms) ≡ last_or (last_or d ls) ms
last_behind d [] ms = refl
last_behind d (l ∷ ls) ms = last_behind l ls ms

is_last : (d l : Line) (ls : List Line) → LastIs (last_or l ls) (l ∷ ls)
is_last d l [] = ([], refl)
is_last d l (m ∷ ms) = let last = is_last d m ms in (l ∷ last.0, ap (λ xs. l ∷ xs) last.1)

last_is : (d x : Line) (ls : List Line) → LastIs x ls → last_or d ls ≡ x
last_is d x ls last = ap (last_or d) last.1 ∙ last_behind d last.0 (x ∷ [])

-- the last line of a run that was stopped
closing_is : (name : List ℕ) (l : Line) → closing name l ≡ (if is_spent l then line.EndSpent else line.EndStop name)
closing_is name line.Head = refl
closing_is name (line.Boot a b c) = refl
closing_is name (line.Kill a b c) = refl
closing_is name (line.Stop a b c) = refl
closing_is name (line.Cut a b c d) = refl
closing_is name (line.Heal a b c d) = refl
closing_is name (line.DiskFail a b c d) = refl
closing_is name (line.Timer a b c d) = refl
closing_is name (line.Arrival a b c d) = refl
closing_is name (line.Read a b c d e) = refl
closing_is name (line.Write a b c d e) = refl
closing_is name (line.Sync a b c d e) = refl
closing_is name (line.Size a b c d e) = refl
closing_is name (line.Start a b) = refl
closing_is name (line.Wait a b) = refl
closing_is name (line.Take a b c) = refl
closing_is name (line.Throw a b) = refl
closing_is name (line.Catch a b) = refl
closing_is name (line.Fail a b) = refl
closing_is name (line.Finish a) = refl
closing_is name (line.Cancel a) = refl
closing_is name (line.Broken a) = refl
closing_is name (line.PrintInt a b) = refl
closing_is name (line.PrintBool a b) = refl
closing_is name (line.PrintText a b) = refl
closing_is name (line.Send a b c d) = refl
closing_is name (line.LostCut a) = refl
closing_is name (line.LostDraw a) = refl
closing_is name (line.Discard a) = refl
closing_is name (line.Kept a b c d) = refl
closing_is name (line.Frame a b c d) = refl
closing_is name (line.Callback a b c d) = refl
closing_is name line.EndIdle = refl
closing_is name line.EndBound = refl
closing_is name line.EndSpent = refl
closing_is name (line.EndStop a) = refl

by_spent : (name : List ℕ) (spent : Bool) → not spent ≡ true → (if spent then line.EndSpent else line.EndStop name) ≡ line.EndStop name
by_spent name true e = absurd (true≢false (sym e))
by_spent name false e = refl

closed : (name : List ℕ) (l : Line) → not (is_spent l) ≡ true → closing name l ≡ line.EndStop name
closed name l e = closing_is name l ∙ by_spent name (is_spent l) e

by_stop : (name : List ℕ) (spent : Bool) → (if spent then line.EndSpent else line.EndStop name) ≡ line.EndStop name → not spent ≡ true
by_stop name true e = absurd (cc)
by_stop name false e = refl

not_spent : (name : List ℕ) (l : Line) → closing name l ≡ line.EndStop name → not (is_spent l) ≡ true
not_spent name l e = by_stop name (is_spent l) (sym (closing_is name l) ∙ e)

-- what is over stays so, and who has heard enough hears no more
pub over_stays : (ls : List Line) (stopped : Bool) → after_lines ls (over stopped) ≡ over stopped
over_stays [] stopped = refl
over_stays (l ∷ ls) stopped = over_stays ls stopped

deaf_stays : (ls : List Line) → after_lines ls deaf ≡ deaf
deaf_stays [] = refl
deaf_stays (l ∷ ls) = deaf_stays ls

pub lines_behind : (ls ms : List Line) (h : Hearing) → after_lines (ls ++ ms) h ≡ after_lines ms (after_lines ls h)
lines_behind [] ms h = refl
lines_behind (l ∷ ls) ms h = lines_behind ls ms (after_line l h)

no_stop : {A : Type 0} → false ≡ true → A
no_stop e = absurd (true≢false (sym e))

module _ (name : List ℕ) where
  abbrev one : Option Ear → Ears
  one ear = record { name = name; ear = ear } ∷ []

  abbrev Stops : Line → Option ℕ → Option Ear → List Line → Type 0
  Stops d stop ear ls = last_or d (cut_from stop (one ear) ls) ≡ line.EndStop name

  -- after a Stop
  said_more : (ear : Option Ear) (d l : Line) (ls : List Line) → (is_stopped (after_lines ls said) ≡ true → Stops l (Some 0) ear ls) → (boundary : Bool)
      → is_stopped (after_lines ls (if boundary then over (not (is_spent l)) else said)) ≡ true
      → last_or d (if boundary then closing name l ∷ [] else l ∷ cut_from (Some 0) (one ear) ls) ≡ line.EndStop name
  said_more ear d l ls more true s = closed name l (sym (ap is_stopped (over_stays ls (not (is_spent l)))) ∙ s)
  said_more ear d l ls more false s = more s

  said_cuts : (ear : Option Ear) (d : Line) (ls : List Line) → is_stopped (after_lines ls said) ≡ true → Stops d (Some 0) ear ls
  said_cuts ear d [] s = no_stop s
  said_cuts ear d (l ∷ ls) s = said_more ear d l ls (said_cuts ear l ls) (is_boundary l) s

  -- while it hears
  hears_more : (ear next : Ear) (l : Line) (ls : List Line) → ((x : Ear) → is_stopped (after_lines ls (hears x)) ≡ true → Stops l None (Some x) ls)
      → (heard : Bool) (says : Heard) → is_stopped (after_lines ls (if heard then by_said says next else hears ear)) ≡ true
      → last_or l (cut_from (if heard then or_here None (is_stop says) 0 else None)
      (if heard then record { name = name; ear = kept_if says next } ∷ [] else one (Some ear)) ls) ≡ line.EndStop name
  hears_more ear next l ls more false says s = more ear s
  hears_more ear next l ls more true Go s = more next s
  hears_more ear next l ls more true Done s = no_stop (sym (ap is_stopped (deaf_stays ls)) ∙ s)
  hears_more ear next l ls more true Stop s = said_cuts None l ls s

  hears_cuts : (d : Line) (ls : List Line) (ear : Ear) → is_stopped (after_lines ls (hears ear)) ≡ true → Stops d None (Some ear) ls
  hears_cuts d [] ear s = no_stop s
  hears_cuts d (l ∷ ls) ear s = hears_more ear (ear_after l ear) l ls (hears_cuts l ls) (is_heard l) (ear [] l) s

  -- The other way round, where the last line isn't an `end stop` by itself.
  abbrev Own : Line → List Line → Type 0
  Own d ls = last_or d ls ≢ line.EndStop name

  said_back : (ear : Option Ear) (d l : Line) (ls : List Line) → (Stops l (Some 0) ear ls → is_stopped (after_lines ls said) ≡ true) → (boundary : Bool)
      → last_or d (if boundary then closing name l ∷ [] else l ∷ cut_from (Some 0) (one ear) ls) ≡ line.EndStop name
      → is_stopped (after_lines ls (if boundary then over (not (is_spent l)) else said)) ≡ true
  said_back ear d l ls more true s = ap is_stopped (over_stays ls (not (is_spent l))) ∙ not_spent name l s
  said_back ear d l ls more false s = more s

  said_is : (ear : Option Ear) (d : Line) (ls : List Line) → Own d ls → Stops d (Some 0) ear ls → is_stopped (after_lines ls said) ≡ true
  said_is ear d [] own s = absurd (own s)
  said_is ear d (l ∷ ls) own s = said_back ear d l ls (said_is ear l ls own) (is_boundary l) s

  -- who has heard enough cuts nothing
  deaf_more : (heard : Bool) (l : Line) (ls : List Line) → cut_from None (one None) ls ≡ ls
      → cut_from (if heard then None else None) (if heard then one None else one None) ls ≡ ls
  deaf_more true l ls more = more
  deaf_more false l ls more = more

  deaf_cuts : (ls : List Line) → cut_from None (one None) ls ≡ ls
  deaf_cuts [] = refl
  deaf_cuts (l ∷ ls) = ap (λ xs. l ∷ xs) (deaf_more (is_heard l) l ls (deaf_cuts ls))

  hears_back : (ear next : Ear) (l : Line) (ls : List Line) → Own l ls → ((x : Ear) → Stops l None (Some x) ls → is_stopped (after_lines ls (hears x)) ≡ true)
      → (heard : Bool) (says : Heard)
      → last_or l (cut_from (if heard then or_here None (is_stop says) 0 else None)
      (if heard then record { name = name; ear = kept_if says next } ∷ [] else one (Some ear)) ls) ≡ line.EndStop name
      → is_stopped (after_lines ls (if heard then by_said says next else hears ear)) ≡ true
  hears_back ear next l ls own more false says s = more ear s
  hears_back ear next l ls own more true Go s = more next s
  hears_back ear next l ls own more true Done s = absurd (own (ap (last_or l) (sym (deaf_cuts ls)) ∙ s))
  hears_back ear next l ls own more true Stop s = said_is None l ls own s

  hears_is : (d : Line) (ls : List Line) → Own d ls → (ear : Ear) → Stops d None (Some ear) ls → is_stopped (after_lines ls (hears ear)) ≡ true
  hears_is d [] own ear s = absurd (own s)
  hears_is d (l ∷ ls) own ear s = hears_back ear (ear_after l ear) l ls own (hears_is l ls own) (is_heard l) (ear [] l) s

-- a trace in which it stops is cut so
pub stops_are_cut : (name : List ℕ) (ear : Ear) (ls : List Line) → is_stopped (after_lines ls (hears ear)) ≡ true
    → LastIs (line.EndStop name) (Cut (alone name ear) ls)
stops_are_cut name ear [] s = no_stop s
stops_are_cut name ear (l ∷ ls) s =
    subst (λ x. LastIs x (Cut (alone name ear) (l ∷ ls))) (hears_cuts name l (l ∷ ls) ear s) (is_last l l _)

-- and one that is cut so stops, where its own last line is no `end stop`
pub cuts_are_stops : (name : List ℕ) (ear : Ear) (d : Line) (ls : List Line) → ((x : List ℕ) → last_or d ls ≢ line.EndStop x)
    → LastIs (line.EndStop name) (Cut (alone name ear) ls) → is_stopped (after_lines ls (hears ear)) ≡ true
cuts_are_stops name ear d ls own last = hears_is name d ls (own name) ear (last_is d (line.EndStop name) (Cut (alone name ear) ls) last)
