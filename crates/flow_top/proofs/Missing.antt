-- Where a file is missing.
use Rattle.std.proofs.Common.{◌≡◌, ℕ, List, ◌++◌, inl, inr, refl, sym, ◌∙◌, subst, Some}
use Rattle.flow_base.specs.Seen.{Content, Missing}
use Rattle.flow_words.specs.Asked.{Request}
use Rattle.flow_top.specs.declared.outcome.Outcome.{Outcome}
use Rattle.flow_top.specs.declared.outcome.Outcome.TheVariants.{Answered}
use Rattle.flow_top.specs.Sources.{Source, of_file, generated, first_source, world_source, FileText, read_for, AreTexts}
use Rattle.flow_top.specs.Due.{DueBy, unread, formatted, refused, passed, compiled, no_classes, upgraded, IsRefusedBy, by_rule, lost_local, heavy, Due, by_text, in_world}
use Rattle.flow_top.specs.Decided.{due, read_fault, no_memory, no_memory_at_once}
use Rattle.flow_top.specs.Laws.{MissingProgram, IsWorldless, MissingWorld}

-- the texts of files, and of others behind them
pub texts_first : (content : List ℕ → Content) (s : Source) (text : List ℕ) (gs : List FileText) → AreTexts content (read_for s text ++ gs) → AreTexts content (read_for s text)
texts_first content (of_file name most) text gs t = (t.0, tt)
texts_first content (generated own) text gs t = tt

pub texts_behind : (content : List ℕ → Content) (s : Source) (text : List ℕ) (gs : List FileText) → AreTexts content (read_for s text ++ gs) → AreTexts content gs
texts_behind content (of_file name most) text gs t = t.1
texts_behind content (generated own) text gs t = t

-- nothing is read of a file that is missing
no_text : (content : List ℕ → Content) (s : Source) (name : List ℕ) (most : ℕ) (text : List ℕ) → s ≡ of_file name most → content name ≡ Missing
    → AreTexts content (read_for s text) → ⊥
no_text content s name most text is missing are =
    let there : AreTexts content (read_for (of_file name most) text) = subst (λ x. AreTexts content (read_for x text)) is are in there.0.0 missing

none_due : (q : Request) (name : List ℕ) (most : ℕ) (content : List ℕ → Content) (o : Outcome) (files : List FileText) → first_source q ≡ of_file name most
    → content name ≡ Missing → Due (Some q) o files → AreTexts content files → ⊥
none_due q name most content o _ is missing (by_text _ text _ own why) texts = no_text content (first_source q) name most text is missing texts
none_due q name most content o _ is missing (in_world _ text world_text s _ own world its why) texts =
    no_text content (first_source q) name most text is missing (texts_first content (first_source q) text (read_for s world_text) texts)

pub missing_program : MissingProgram
missing_program q name most before after outcome is missing (due o files why reads texts same) =
    absurd (none_due q name most before.content outcome files is missing why texts)
missing_program q name most before after outcome is missing (read_fault r names files asks some reads counted) = inl refl
missing_program q name most before after outcome is missing (no_memory r names files asks some reads same) = inr refl
missing_program q name most before after outcome is missing (no_memory_at_once same) = inr refl

-- without a world nothing is run
refused_worldless : (text : List ℕ) (a : _) → IsRefusedBy text a → IsWorldless (Answered a)
refused_worldless text _ (by_rule rule at why) = tt
refused_worldless text _ (lost_local p l why) = tt
refused_worldless text _ (heavy p at sound is) = tt

by_worldless : (text : List ℕ) (q : Request) (o : Outcome) → DueBy text q o → IsWorldless o
by_worldless text _ _ (unread p rule at why) = tt
by_worldless text _ _ (formatted p program is) = tt
by_worldless text _ _ (refused q a judges why) = refused_worldless text a why
by_worldless text _ _ (passed p program passing) = tt
by_worldless text _ _ (compiled p program classes passing has) = tt
by_worldless text _ _ (no_classes q fault has answer some) = tt
by_worldless text _ _ (upgraded c classes answer) = tt

worldless : (q : Request) (name : List ℕ) (most : ℕ) (content : List ℕ → Content) (o : Outcome) (files : List FileText) → world_source q ≡ Some (of_file name most)
    → content name ≡ Missing → Due (Some q) o files → AreTexts content files → IsWorldless o
worldless q name most content o _ is missing (by_text _ text _ own why) texts = by_worldless text q o why
worldless q name most content o _ is missing (in_world _ text world_text s _ own world its why) texts =
    let some : Some s ≡ Some (of_file name most) = sym world ∙ is in
    let same : s ≡ of_file name most = cc in
    absurd (no_text content s name most world_text same missing (texts_behind content (first_source q) text (read_for s world_text) texts))

pub missing_world : MissingWorld
missing_world q name most before after outcome is missing (due o files why reads texts same) = worldless q name most before.content outcome files is missing why texts
missing_world q name most before after outcome is missing (read_fault r names files asks some reads counted) = tt
missing_world q name most before after outcome is missing (no_memory r names files asks some reads same) = tt
missing_world q name most before after outcome is missing (no_memory_at_once same) = tt
