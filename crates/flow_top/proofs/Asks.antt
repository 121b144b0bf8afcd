-- What the words ask for, and who hears it.
use Rattle.std.proofs.Common.{◌≡◌, ℕ, Bool, true, false, List, [], ◌∷◌, map, refl, sym, ap, ◌∙◌, subst, Option, Some, None, Err, inl, inr}
use Rattle.std.specs.Prelude.{is_some, option_and_then, if◌then◌else◌}
use Rattle.flow_base.specs.Seen.{FilesSeen, SinkSeen}
use Rattle.flow_monitor.specs.declared.attach.Want.{Want}
use Rattle.flow_monitor.specs.declared.attach.PanelFault.{PanelFault}
use Rattle.flow_monitor.specs.declared.attach.PanelFault.TheVariants as panel
use Rattle.flow_monitor.specs.Attaching.{Handed, want_fault, attached, AttachFails}
use Rattle.flow_monitor.specs.Ears.{Ears}
use Rattle.flow_words.specs.Asked.{Request, asked, request_of, Reads}
use Rattle.flow_words.specs.declared.asked.WordsFault.{WordsFault}
use Rattle.flow_words.specs.declared.asked.WordsFault.TheVariants as words
use Rattle.flow_top.specs.declared.outcome.Answered as told
use Rattle.flow_top.specs.declared.outcome.Answered.TheVariants.{Usage, ReadFault, OutOfMemory, Refused, NoClasses, NoWorld, LongScript, Passed, Printed, Formatted}
use Rattle.flow_top.specs.declared.outcome.Outcome.{Outcome}
use Rattle.flow_top.specs.declared.outcome.Outcome.TheVariants.{Answered}
use Rattle.flow_top.specs.Requests.{wanted_by, served, request_by, panel_for}
use Rattle.flow_top.specs.Outcomes.{words_outcome_of, panel_outcome_of}
use Rattle.flow_top.specs.Due.{usage}
use Rattle.flow_top.specs.Decided.{Decided, due, no_memory_at_once}
use Rattle.flow_top.specs.Steps.{NotAsked, NotAttached}
use Rattle.flow_top.specs.Told.{ReportedTold, Reported}
use Rattle.flow_top.specs.Answers.{AnswersTo, Answers}
use Rattle.flow_top.proofs.Reading.{untouched}

-- whether a request is served
served_by : (b : Bool) (q : Request) → b ≡ false → (if b then None else Some q) ≡ Some q
served_by true q e = absurd (cc)
served_by false q e = refl

unserved_by : (b : Bool) (q : Request) → b ≡ true → (if b then None else Some q) ≡ None
unserved_by true q e = refl
unserved_by false q e = absurd (cc)

-- where nothing is asked for, that is due, or there is no memory
pub unasked : (asks : Option Request) (o : told.Answered) (files : FilesSeen) → NotAsked asks o → Decided asks files files (Answered o)
unasked asks Usage files none =
    subst (λ x. Decided x files files (Answered Usage)) (sym none) (due (Answered Usage) [] usage (untouched files) tt refl)
unasked asks ReadFault files h = absurd h
unasked asks OutOfMemory files h = no_memory_at_once refl
unasked asks (Refused fault) files h = absurd h
unasked asks (NoClasses fault) files h = absurd h
unasked asks (NoWorld fault) files h = absurd h
unasked asks LongScript files h = absurd h
unasked asks Passed files h = absurd h
unasked asks (Printed classes) files h = absurd h
unasked asks (Formatted program) files h = absurd h

module _ (handed : List Handed) (q : Request) where
  abbrev first : Option PanelFault
  first = want_fault (map (λ (h : Handed). h.name) handed) (wanted_by q)

  is_served : first ≡ None → served handed q ≡ Some q
  is_served none = served_by (is_some first) q (ap is_some none)

  not_served : is_some first ≡ true → served handed q ≡ None
  not_served some = unserved_by (is_some first) q some

  -- nothing is done for a request that isn't served
  unserved : (a : told.Answered) → NotAttached first a → NotAsked (served handed q) a
  unserved Usage h = not_served h
  unserved ReadFault h = absurd h
  unserved OutOfMemory h = tt
  unserved (Refused fault) h = absurd h
  unserved (NoClasses fault) h = absurd h
  unserved (NoWorld fault) h = absurd h
  unserved LongScript h = absurd h
  unserved Passed h = absurd h
  unserved (Printed classes) h = absurd h
  unserved (Formatted program) h = absurd h

  pub unanswered : (a : told.Answered) (files : FilesSeen) (sink sink' : SinkSeen) (status : ℕ) → NotAttached first a → ReportedTold a sink sink' status
      → AnswersTo (served handed q) handed files files sink sink' status
  unanswered a files sink sink' status h reported = record {
    outcome = Answered a;
    decided = unasked (served handed q) a files (unserved a h);
    reported = reported;
  }

  -- one that is served is decided, and what that comes to is told
  pub answered : (ears : Ears) (o : Outcome) (files files' : FilesSeen) (sink sink' : SinkSeen) (status : ℕ) → first ≡ None → ears ≡ attached (wanted_by q) handed
      → Decided (Some q) files files' o → Reported ears o sink sink' status → AnswersTo (served handed q) handed files files' sink sink' status
  answered ears o files files' sink sink' status none are decided reported =
      let served_is : Some q ≡ served handed q = sym (is_served none) in
      record {
        outcome = o;
        decided = subst (λ x. Decided x files files' o) served_is decided;
        reported = subst (λ x. Reported x o sink sink' status) (are ∙ ap (λ x. panel_for x handed) served_is) reported;
      }

-- where one monitor is wanted alone
pub answered_alone : (handed : List Handed) (q : Request) (want : Want) (one : wanted_by q ≡ want ∷ []) (ears : Ears) (o : Outcome) (files files' : FilesSeen)
    (sink sink' : SinkSeen) (status : ℕ) → want_fault (map (λ (h : Handed). h.name) handed) (want ∷ []) ≡ None → ears ≡ attached (want ∷ []) handed
    → Decided (Some q) files files' o → Reported ears o sink sink' status → AnswersTo (served handed q) handed files files' sink sink' status
answered_alone handed q want one ears o files files' sink sink' status none are decided reported =
    answered handed q ears o files files' sink sink' status (ap (want_fault (map (λ (h : Handed). h.name) handed)) one ∙ none)
    (are ∙ sym (ap (λ w. attached w handed) one)) decided reported

pub unanswered_alone : (handed : List Handed) (q : Request) (want : Want) (one : wanted_by q ≡ want ∷ []) (a : told.Answered) (files : FilesSeen) (sink sink' : SinkSeen)
    (status : ℕ) → NotAttached (want_fault (map (λ (h : Handed). h.name) handed) (want ∷ [])) a → ReportedTold a sink sink' status
    → AnswersTo (served handed q) handed files files sink sink' status
unanswered_alone handed q want one a files sink sink' status h reported =
    unanswered handed q a files sink sink' status (subst (λ f. NotAttached f a) (sym (ap (want_fault (map (λ (h : Handed). h.name) handed)) one)) h) reported

-- by monitors as they were handed in
pub as_handed : (given handed : List Handed) (q : Request) (files files' : FilesSeen) (sink sink' : SinkSeen) (status : ℕ) → given ≡ handed
    → AnswersTo (served given q) given files files' sink sink' status → AnswersTo (served handed q) handed files files' sink sink' status
as_handed given handed q files files' sink sink' status same a = subst (λ hs. AnswersTo (served hs q) hs files files' sink sink' status) same a

-- the words ask for it
pub by_words : (given : List (List ℕ)) (handed : List Handed) (q : Request) (files files' : FilesSeen) (sink sink' : SinkSeen) (status : ℕ) → asked given ≡ Some q
    → AnswersTo (served handed q) handed files files' sink sink' status → Answers given handed files files' sink sink' status
by_words given handed q files files' sink sink' status e a =
    subst (λ x. AnswersTo x handed files files' sink sink' status) (sym (ap (option_and_then (served handed)) e)) a

-- the words ask for nothing
wordless : (asks : Option Request) (handed : List Handed) (a : told.Answered) → NotAsked asks a → NotAsked (option_and_then (served handed) asks) a
wordless asks handed Usage h = ap (option_and_then (served handed)) h
wordless asks handed ReadFault h = absurd h
wordless asks handed OutOfMemory h = tt
wordless asks handed (Refused fault) h = absurd h
wordless asks handed (NoClasses fault) h = absurd h
wordless asks handed (NoWorld fault) h = absurd h
wordless asks handed LongScript h = absurd h
wordless asks handed Passed h = absurd h
wordless asks handed (Printed classes) h = absurd h
wordless asks handed (Formatted program) h = absurd h

pub without_words : (given : List (List ℕ)) (handed : List Handed) (a : told.Answered) (files : FilesSeen) (sink sink' : SinkSeen) (status : ℕ) → NotAsked (asked given) a
    → ReportedTold a sink sink' status → Answers given handed files files sink sink' status
without_words given handed a files sink sink' status h reported = record {
  outcome = Answered a;
  decided = unasked (request_by given handed) a files (wordless (asked given) handed a h);
  reported = reported;
}

pub unread_words : (given : List (List ℕ)) (fault : WordsFault) (o : told.Answered) → o ≡ words_outcome_of fault → Reads request_of (asked given) (Err fault)
    → NotAsked (asked given) o
unread_words given words.Usage o e none = subst (NotAsked (asked given)) (sym e) none
unread_words given words.OutOfMemory o e none = subst (NotAsked (asked given)) (sym e) tt

-- a panel that isn't had
pub unattached : (first : Option PanelFault) (fault : PanelFault) (o : told.Answered) → o ≡ panel_outcome_of fault → AttachFails {T = Unit {0}} first (Err fault)
    → NotAttached first o
unattached first (panel.NoMonitor k) o e h = subst (NotAttached first) (sym e) (by_some h)
  where
    by_some : AttachFails {T = Unit {0}} first (Err (panel.NoMonitor k)) → is_some first ≡ true
    by_some (inl is) = ap is_some is
    by_some (inr (none, is)) = absurd (cc)
unattached first (panel.Twice k) o e h = subst (NotAttached first) (sym e) (by_some h)
  where
    by_some : AttachFails {T = Unit {0}} first (Err (panel.Twice k)) → is_some first ≡ true
    by_some (inl is) = ap is_some is
    by_some (inr (none, is)) = absurd (cc)
unattached first panel.OutOfMemory o e h = subst (NotAttached first) (sym e) tt
