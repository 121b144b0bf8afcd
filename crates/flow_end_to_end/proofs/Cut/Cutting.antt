-- What a panel leaves of lines, by what it heard of them as they were put.
use Rattle.std.proofs.Common.{◌≡◌, ℕ, List, [], ◌∷◌, ◌++◌, true, false, refl, sym, ap, ap₂, ◌∙◌, subst, append_assoc}
use Rattle.std.specs.Prelude.{Result, Ok, Err, if◌then◌else◌}
use Rattle.std.specs.declared.option.Option.{Option}
use Rattle.std.specs.declared.option.Option.TheVariants.{None, Some}
use Rattle.std.specs.Result.{result_err}
use Rattle.flow_base.specs.declared.fault.OutFault.{OutFault}
use Rattle.flow_trace.specs.declared.line.Line.{Line}
use Rattle.flow_trace.specs.declared.line.Line.TheVariants as line
use Rattle.flow_monitor.specs.Ears.{Ears, name_at, names}
use Rattle.flow_monitor.specs.Cut.{is_boundary, closing, ears_after, stop_in, cut_from}
use Rattle.flow_monitor.proofs.Naming.{names_stay, name_stays}
use Rattle.flow_world.specs.Around.{Puts, no_line, more_lines}
use Rattle.flow_world.specs.FaultedLines.{Telling, TellsAfter, tells, whole}
use Rattle.flow_world.specs.Watching.{Hearing, first_of, hears}
use Rattle.flow_world.proofs.Telling.{stays}
use Rattle.flow_end_to_end.proofs.Cut.InnerLines.{AllInner}
use Rattle.flow_end_to_end.proofs.Cut.EventLines.{EventLines}

-- lines that were told, none of which failed, were put
module _ {A : Type 0} (puts : A → Line → Result (Unit {0}) OutFault → A → Type 0) where
  put_all : (ls : List Line) (a b : Telling A) → a.fault ≡ None → b.fault ≡ None → Puts (tells puts) a ls b → Puts puts a.out ls b.out
  put_all [] a _ e f no_line = no_line
  put_all (l ∷ ls) a b e f (more_lines {b = m} t rest) =
      by_answer (subst (λ x. TellsAfter puts x a.out l m) e t) (λ none. put_all ls m b none f rest)
    where
      by_answer : ((answer : Result (Unit {0}) OutFault) × puts a.out l answer m.out × (m.fault ≡ result_err answer)) → (m.fault ≡ None → Puts puts m.out ls b.out)
          → Puts puts a.out (l ∷ ls) b.out
      by_answer (Ok done, p, none) later = more_lines p (later none)
      by_answer (Err fault, p, some) later =
          let same : b ≡ m = stays puts m b fault ls some rest in
          let is : None ≡ Some fault = sym f ∙ ap (λ (x : Telling A). x.fault) same ∙ some in
          absurd (cc (is))

  pub all_put : (ls : List Line) (a b : A) → Puts (tells puts) (whole a) ls (whole b) → Puts puts a ls b
  all_put ls a b t = put_all ls (whole a) (whole b) refl refl t

-- what is left depends on the names alone once somebody said Stop
cut_named : (k : ℕ) (ears others : Ears) (ls : List Line) → names others ≡ names ears → cut_from (Some k) others ls ≡ cut_from (Some k) ears ls
cut_named k ears others [] e = refl
cut_named k ears others (l ∷ ls) e =
    ap₂ (λ name rest. if is_boundary l then closing name l ∷ [] else l ∷ rest) (name_stays ears others k e) (cut_named k ears others ls e)

-- within an event a line is left
inner_left : (k : ℕ) (ears : Ears) (l : Line) (ls : List Line) → is_boundary l ≡ false → cut_from (Some k) ears (l ∷ ls) ≡ l ∷ cut_from (Some k) ears ls
inner_left k ears l ls e = ap (λ b. if b then closing (name_at ears k) l ∷ [] else l ∷ cut_from (Some k) ears ls) e

-- the last line where an event begins or the run ends
pub closed_at : (k : ℕ) (ears : Ears) (l : Line) (ls : List Line) → is_boundary l ≡ true → closing (name_at ears k) l ≡ line.EndStop (name_at ears k)
    → cut_from (Some k) ears (l ∷ ls) ≡ line.EndStop (name_at ears k) ∷ []
closed_at k ears l ls e closes = ap (λ b. if b then closing (name_at ears k) l ∷ [] else l ∷ cut_from (Some k) ears ls) e ∙ ap (λ x. x ∷ []) closes

-- a spent event ends the run, whoever said Stop in it
spent_closed : (stop : Option ℕ) (ears : Ears) → cut_from stop ears (line.EndSpent ∷ []) ≡ line.EndSpent ∷ []
spent_closed None ears = refl
spent_closed (Some k) ears = refl

-- lines within an event are left whoever said Stop, and so is the event's own line
abbrev pub Leaves : (stop : Option ℕ) → Ears → (own rest : List Line) → Type 0
Leaves stop ears own rest = (left : List Line) × (cut_from stop ears (own ++ rest) ≡ own ++ left)

inner_leaves : (stop : Option ℕ) (ears : Ears) (own rest : List Line) → AllInner own → Leaves stop ears own rest
inner_leaves stop ears [] rest h = (cut_from stop ears rest, refl)
inner_leaves None ears (l ∷ own) rest h =
    let more = inner_leaves (stop_in l ears) (ears_after l ears) own rest h.1 in
    (more.0, ap (λ x. l ∷ x) more.1)
inner_leaves (Some k) ears (l ∷ own) rest h =
    let more = inner_leaves (Some k) ears own rest h.1 in
    (more.0, inner_left k ears l (own ++ rest) h.0 ∙ ap (λ x. l ∷ x) more.1)

pub event_leaves : (ears : Ears) (own rest : List Line) → EventLines own → Leaves None ears own rest
event_leaves ears own rest e =
    let more = inner_leaves (stop_in e.first ears) (ears_after e.first ears) e.more rest e.inner in
    subst (λ x. Leaves None ears x rest) (sym e.is) (more.0, ap (λ x. e.first ∷ x) more.1)

module _ {A : Type 0} (puts : A → Line → Result (Unit {0}) OutFault → A → Type 0) where
  -- names stay
  pub names_put : (ls : List Line) (a b : Hearing A) → Puts (hears puts) a ls b → names b.ears ≡ names a.ears
  names_put [] a _ no_line = refl
  names_put (l ∷ ls) a b (more_lines {b = m} t rest) = names_put ls m b rest ∙ ap names t.1 ∙ names_stay l a.ears

  -- one line, where nobody said Stop yet
  first_left : (a m : Hearing A) (l : Line) (ls : List Line) → a.stop ≡ None → hears puts a l (Ok tt) m → cut_from a.stop a.ears (l ∷ ls) ≡ l ∷ cut_from m.stop m.ears ls
  first_left a m l ls e t =
      let stop : m.stop ≡ stop_in l a.ears = t.2 ∙ ap (λ s. first_of s (stop_in l a.ears)) e in
      ap (λ s. cut_from s a.ears (l ∷ ls)) e ∙ sym (ap₂ (λ s x. l ∷ cut_from s x ls) stop t.1)

  -- a line within an event
  line_left : (a m : Hearing A) (l : Line) (ls : List Line) (stop : Option ℕ) → a.stop ≡ stop → is_boundary l ≡ false → hears puts a l (Ok tt) m
      → cut_from a.stop a.ears (l ∷ ls) ≡ l ∷ cut_from m.stop m.ears ls
  line_left a m l ls None e inner t = first_left a m l ls e t
  line_left a m l ls (Some k) e inner t =
      let stop : m.stop ≡ Some k = t.2 ∙ ap (λ s. first_of s (stop_in l a.ears)) e in
      let same : names m.ears ≡ names a.ears = ap names t.1 ∙ names_stay l a.ears in
      ap (λ s. cut_from s a.ears (l ∷ ls)) e ∙ inner_left k a.ears l ls inner
      ∙ ap (λ x. l ∷ x) (sym (ap (λ s. cut_from s m.ears ls) stop ∙ cut_named k a.ears m.ears ls same))

  -- lines within an event
  pub inner_put : (ls rest : List Line) (a b : Hearing A) → AllInner ls → Puts (hears puts) a ls b → cut_from a.stop a.ears (ls ++ rest) ≡ ls ++ cut_from b.stop b.ears rest
  inner_put [] rest a _ h no_line = refl
  inner_put (l ∷ ls) rest a b h (more_lines {b = m} t more) =
      line_left a m l (ls ++ rest) a.stop refl h.0 t ∙ ap (λ x. l ∷ x) (inner_put ls rest m b h.1 more)

  -- an event, before which nobody said Stop
  pub event_put : (ls rest : List Line) (a b : Hearing A) → EventLines ls → a.stop ≡ None → Puts (hears puts) a ls b
      → cut_from a.stop a.ears (ls ++ rest) ≡ ls ++ cut_from b.stop b.ears rest
  event_put ls rest a b e quiet t =
      subst (λ x. cut_from a.stop a.ears (x ++ rest) ≡ x ++ cut_from b.stop b.ears rest) (sym e.is)
      (by_first (subst (λ x. Puts (hears puts) a x b) e.is t))
    where
      by_first : Puts (hears puts) a (e.first ∷ e.more) b → cut_from a.stop a.ears (e.first ∷ (e.more ++ rest)) ≡ e.first ∷ (e.more ++ cut_from b.stop b.ears rest)
      by_first (more_lines {b = m} own more) =
          first_left a m e.first (e.more ++ rest) quiet own ∙ ap (λ x. e.first ∷ x) (inner_put e.more rest m b e.inner more)

  none_first : (first later : Option ℕ) → first_of first later ≡ None → first ≡ None
  none_first None later e = refl
  none_first (Some k) later e = e

  -- where nobody has said Stop in the end nobody did before
  pub quiet_before : (ls : List Line) (a b : Hearing A) → b.stop ≡ None → Puts (hears puts) a ls b → a.stop ≡ None
  quiet_before [] a _ quiet no_line = quiet
  quiet_before (l ∷ ls) a b quiet (more_lines {b = m} t more) =
      none_first a.stop (stop_in l a.ears) (sym t.2 ∙ quiet_before ls m b quiet more)

  pub quiet_put : (ls rest : List Line) (a b : Hearing A) → b.stop ≡ None → Puts (hears puts) a ls b → cut_from a.stop a.ears (ls ++ rest) ≡ ls ++ cut_from b.stop b.ears rest
  quiet_put [] rest a _ quiet no_line = refl
  quiet_put (l ∷ ls) rest a b quiet (more_lines {b = m} t more) =
      let first = quiet_before (l ∷ ls) a b quiet (more_lines t more) in
      first_left a m l (ls ++ rest) first t ∙ ap (λ x. l ∷ x) (quiet_put ls rest m b quiet more)

  -- whoever said Stop first stays the first
  pub stop_stays : (k : ℕ) (ls : List Line) (a b : Hearing A) → a.stop ≡ Some k → Puts (hears puts) a ls b → b.stop ≡ Some k
  stop_stays k [] a _ e no_line = e
  stop_stays k (l ∷ ls) a b e (more_lines {b = m} t more) = stop_stays k ls m b (t.2 ∙ ap (λ s. first_of s (stop_in l a.ears)) e) more

  -- lines up to a boundary before which nobody said Stop
  pub left_so_far : (ears : Ears) (lines rest : List Line) (headed before : Hearing A) → headed.stop ≡ None → headed.ears ≡ ears → before.stop ≡ None
      → Puts (hears puts) headed lines before → cut_from None ears (lines ++ rest) ≡ lines ++ cut_from None before.ears rest
  left_so_far ears lines rest headed before none same quiet t =
      sym (ap₂ (λ s x. cut_from s x (lines ++ rest)) none same) ∙ quiet_put lines rest headed before quiet t ∙ ap (λ s. lines ++ cut_from s before.ears rest) quiet

  -- besides, the event in which the monitor of a number said Stop, what is seen then, and the last line
  pub left_by_stop : (ears : Ears) (k : ℕ) (lines own views rest : List Line) (headed before told b : Hearing A) → headed.stop ≡ None → headed.ears ≡ ears → before.stop ≡ None
      → told.stop ≡ Some k → EventLines own → AllInner views → Puts (hears puts) headed lines before → Puts (hears puts) before own told → Puts (hears puts) told views b
      → ((others : Ears) → cut_from (Some k) others rest ≡ line.EndStop (name_at others k) ∷ [])
      → cut_from None ears (lines ++ (own ++ (views ++ rest))) ≡ (lines ++ (own ++ views)) ++ line.EndStop (name_at ears k) ∷ []
  left_by_stop ears k lines own views rest headed before told b none same quiet said is inner put_lines put_own put_views closes =
      let stop : b.stop ≡ Some k = stop_stays k views told b said put_views in
      let names_same : names b.ears ≡ names ears =
      names_put views told b put_views ∙ names_put own before told put_own ∙ names_put lines headed before put_lines ∙ ap names same in
      let event : cut_from None before.ears (own ++ (views ++ rest)) ≡ own ++ cut_from told.stop told.ears (views ++ rest) =
      sym (ap (λ s. cut_from s before.ears (own ++ (views ++ rest))) quiet) ∙ event_put own (views ++ rest) before told is quiet put_own in
      let last : cut_from b.stop b.ears rest ≡ line.EndStop (name_at ears k) ∷ [] =
      ap (λ s. cut_from s b.ears rest) stop ∙ closes b.ears ∙ ap (λ n. line.EndStop n ∷ []) (name_stays ears b.ears k names_same) in
      let seen : cut_from told.stop told.ears (views ++ rest) ≡ views ++ line.EndStop (name_at ears k) ∷ [] =
      inner_put views rest told b inner put_views ∙ ap (λ ls. views ++ ls) last in
      left_so_far ears lines (own ++ (views ++ rest)) headed before none same quiet put_lines ∙ ap (λ ls. lines ++ ls) (event ∙ ap (λ ls. own ++ ls) seen)
      ∙ ap (λ ls. lines ++ ls) (sym (append_assoc own views (line.EndStop (name_at ears k) ∷ []))) ∙ sym (append_assoc lines (own ++ views) (line.EndStop (name_at ears k) ∷ []))

  -- or a spent event
  pub left_by_spent : (ears : Ears) (lines own : List Line) (headed before b : Hearing A) → headed.stop ≡ None → headed.ears ≡ ears → before.stop ≡ None
      → EventLines own → Puts (hears puts) headed lines before → Puts (hears puts) before own b
      → cut_from None ears (lines ++ (own ++ line.EndSpent ∷ [])) ≡ (lines ++ own) ++ line.EndSpent ∷ []
  left_by_spent ears lines own headed before b none same quiet is put_lines put_own =
      let event : cut_from None before.ears (own ++ line.EndSpent ∷ []) ≡ own ++ line.EndSpent ∷ [] =
      sym (ap (λ s. cut_from s before.ears (own ++ line.EndSpent ∷ [])) quiet) ∙ event_put own (line.EndSpent ∷ []) before b is quiet put_own
      ∙ ap (λ ls. own ++ ls) (spent_closed b.stop b.ears) in
      left_so_far ears lines (own ++ line.EndSpent ∷ []) headed before none same quiet put_lines ∙ ap (λ ls. lines ++ ls) event
      ∙ sym (append_assoc lines own (line.EndSpent ∷ []))
