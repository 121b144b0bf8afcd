-- The unfinished actors, as lines tell of them.
use Rattle.std.specs.Prelude.{ℕ, List, [], replicate, get_or, set, position, bytes_eq}
use Rattle.std.specs.Ordering.{nat_cmp}
use Rattle.std.specs.Map.{lookup, remove_entry}
use Rattle.std.specs.BTreeMap.{is_at, insert_entry}
use Rattle.std.specs.declared.option.Option.{Option}
use Rattle.std.specs.declared.option.Option.TheVariants.{None, Some}
use Rattle.flow_trace.specs.declared.line.Line.{Line}
use Rattle.flow_trace.specs.declared.line.Line.TheVariants.{Kill, Start, Fail, Finish}
use Rattle.flow_monitor.specs.Heard.{process_after}
use Rattle.flow_explain.specs.Texts.{ActorText}

-- the unfinished actors of a process by their numbers there, each with its place among the program's actors, from 0
abbrev pub Living : Type 0
Living = List (ℕ × ℕ)

abbrev pub text_of : Living → (actor : ℕ) → Option ℕ
text_of living a = lookup (is_at (nat_cmp a)) living

abbrev pub without : (actor : ℕ) → Living → Living
without a living = remove_entry (is_at (nat_cmp a)) living

-- an actor that starts, where the program has one of its name
abbrev pub with_started : (actor : ℕ) → (text : Option ℕ) → Living → Living
with_started a None living = without a living
with_started a (Some k) living = insert_entry nat_cmp living a k

-- the place of a name among the program's actors
abbrev pub text_named : List ActorText → (name : List ℕ) → Option ℕ
text_named texts name = position (λ t. bytes_eq t.name name) texts

-- what lines told so far: the process of the last event line that names just one, and who lives in each process
pub record Telling : Type 0 where
  pub process : ℕ
  pub living : List Living

abbrev pub told_nothing : Telling
told_nothing = record { process = 0; living = replicate 256 [] }

abbrev pub living_in : List Living → (process : ℕ) → Living
living_in all p = get_or all p []

-- An actor lives from its start until it ends, well or by an error, or until its process is killed.
abbrev pub living_after : List ActorText → Line → (process : ℕ) → List Living → List Living
living_after texts (Start a class) p all = set all p (with_started a.0 (text_named texts class) (living_in all p))
living_after texts (Finish a) p all = set all p (without a.0 (living_in all p))
living_after texts (Fail a e) p all = set all p (without a.0 (living_in all p))
living_after texts (Kill n t q) p all = set all q.0 []
living_after texts _ p all = all

abbrev pub told_after : List ActorText → Line → Telling → Telling
told_after texts l s = record { process = process_after s.process l; living = living_after texts l s.process s.living }
