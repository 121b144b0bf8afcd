-- What lines say, when one more is said.
use Rattle.std.proofs.Common.{◌≡◌, ◌+◌, length, length-append, false, List, [], ◌∷◌, ◌++◌, Option, Some, None, ap, ◌∙◌, refl}
use Rattle.std.specs.Option.{is_some}
use Rattle.std.specs.List.{filter_map, cons_option}
use Rattle.std.proofs.lemmas.List.Elements.{filter_map-append}
use Rattle.flow_worldfile.specs.declared.directive.Directive.{Directive}
use Rattle.flow_worldfile.specs.declared.directive.Directive.TheVariants.{Seed, Processes, Events, Turns, Latency, DiskDelay, Loss, Word, At}
use Rattle.flow_worldfile.specs.Worlds.{Said, said, head, first, seed_in, processes_in, events_in, turns_in, latency_in, diskdelay_in, loss_in, word_in, order_in}
use Rattle.flow_worldfile.specs.Reading.{is_repeated}
use Rattle.flow_worldfile.specs.Drafts.{added}

-- a line of another kind
pub other : {X : Type 0} (kind : Directive → Option X) (ds : List Directive) (d : Directive) → kind d ≡ None → filter_map kind (ds ++ d ∷ []) ≡ filter_map kind ds
other kind [] d none = ap (λ o. cons_option o []) none
other kind (e ∷ ds) d none = ap (cons_option (kind e)) (other kind ds d none)

-- one more line of the kind
same : {X : Type 0} (kind : Directive → Option X) (ds : List Directive) (d : Directive) (x : X) → kind d ≡ Some x → filter_map kind (ds ++ d ∷ []) ≡ filter_map kind ds ++ x ∷ []
same kind ds d x some = filter_map-append kind ds (d ∷ []) ∙ ap (λ o. filter_map kind ds ++ cons_option o []) some

-- how many of a kind there are then
pub one_longer : {X : Type 0} (kind : Directive → Option X) (ds : List Directive) (d : Directive) (x : X) → kind d ≡ Some x
    → length (filter_map kind (ds ++ d ∷ [])) ≡ length (filter_map kind ds) + 1
one_longer kind ds d x e = ap length (same kind ds d x e) ∙ length-append (filter_map kind ds) (x ∷ [])

head_of_one : {X : Type 0} (xs : List X) (x : X) → is_some (head xs) ≡ false → head (xs ++ x ∷ []) ≡ Some x
head_of_one [] x none = refl
head_of_one (y ∷ ys) x none = absurd (cc)

-- the first line of the kind
pub newly : {X : Type 0} (kind : Directive → Option X) (ds : List Directive) (d : Directive) (x : X) → is_some (first kind ds) ≡ false → kind d ≡ Some x → first kind (ds ++ d ∷ []) ≡ Some x
newly kind ds d x none some = ap head (same kind ds d x some) ∙ head_of_one (filter_map kind ds) x none

pub still : {X : Type 0} (kind : Directive → Option X) (ds : List Directive) (d : Directive) → kind d ≡ None → first kind (ds ++ d ∷ []) ≡ first kind ds
still kind ds d none = ap head (other kind ds d none)

-- the parts of what is said
whole : (s t : Said) → s.seed ≡ t.seed → s.processes ≡ t.processes → s.events ≡ t.events → s.turns ≡ t.turns → s.latency ≡ t.latency
    → s.diskdelay ≡ t.diskdelay → s.loss ≡ t.loss → s.words ≡ t.words → s.script ≡ t.script → s ≡ t
whole s t seed processes events turns latency diskdelay loss words script =
    λ i. record { seed = seed i; processes = processes i; events = events i; turns = turns i; latency = latency i; diskdelay = diskdelay i; loss = loss i; words = words i; script = script i }

-- what is said with one line more, where it may be said
pub said_more : (ds : List Directive) (d : Directive) → is_repeated (said ds) d ≡ false → said (ds ++ d ∷ []) ≡ added (said ds) d
said_more ds (Seed n) once =
    whole _ _ (newly seed_in ds _ _ once refl) (still processes_in ds _ refl) (still events_in ds _ refl) (still turns_in ds _ refl) (still latency_in ds _ refl) (still diskdelay_in ds _ refl)
    (still loss_in ds _ refl) (other word_in ds _ refl) (other order_in ds _ refl)
said_more ds (Processes n) once =
    whole _ _ (still seed_in ds _ refl) (newly processes_in ds _ _ once refl) (still events_in ds _ refl) (still turns_in ds _ refl) (still latency_in ds _ refl) (still diskdelay_in ds _ refl)
    (still loss_in ds _ refl) (other word_in ds _ refl) (other order_in ds _ refl)
said_more ds (Events n) once =
    whole _ _ (still seed_in ds _ refl) (still processes_in ds _ refl) (newly events_in ds _ _ once refl) (still turns_in ds _ refl) (still latency_in ds _ refl) (still diskdelay_in ds _ refl)
    (still loss_in ds _ refl) (other word_in ds _ refl) (other order_in ds _ refl)
said_more ds (Turns n) once =
    whole _ _ (still seed_in ds _ refl) (still processes_in ds _ refl) (still events_in ds _ refl) (newly turns_in ds _ _ once refl) (still latency_in ds _ refl) (still diskdelay_in ds _ refl)
    (still loss_in ds _ refl) (other word_in ds _ refl) (other order_in ds _ refl)
said_more ds (Latency lo hi) once =
    whole _ _ (still seed_in ds _ refl) (still processes_in ds _ refl) (still events_in ds _ refl) (still turns_in ds _ refl) (newly latency_in ds _ _ once refl) (still diskdelay_in ds _ refl)
    (still loss_in ds _ refl) (other word_in ds _ refl) (other order_in ds _ refl)
said_more ds (DiskDelay lo hi) once =
    whole _ _ (still seed_in ds _ refl) (still processes_in ds _ refl) (still events_in ds _ refl) (still turns_in ds _ refl) (still latency_in ds _ refl) (newly diskdelay_in ds _ _ once refl)
    (still loss_in ds _ refl) (other word_in ds _ refl) (other order_in ds _ refl)
said_more ds (Loss n) once =
    whole _ _ (still seed_in ds _ refl) (still processes_in ds _ refl) (still events_in ds _ refl) (still turns_in ds _ refl) (still latency_in ds _ refl) (still diskdelay_in ds _ refl)
    (newly loss_in ds _ _ once refl) (other word_in ds _ refl) (other order_in ds _ refl)
said_more ds (Word n) once =
    whole _ _ (still seed_in ds _ refl) (still processes_in ds _ refl) (still events_in ds _ refl) (still turns_in ds _ refl) (still latency_in ds _ refl) (still diskdelay_in ds _ refl)
    (still loss_in ds _ refl) (same word_in ds _ _ refl) (other order_in ds _ refl)
said_more ds (At t order) once =
    whole _ _ (still seed_in ds _ refl) (still processes_in ds _ refl) (still events_in ds _ refl) (still turns_in ds _ refl) (still latency_in ds _ refl) (still diskdelay_in ds _ refl)
    (still loss_in ds _ refl) (other word_in ds _ refl) (same order_in ds _ _ refl)
