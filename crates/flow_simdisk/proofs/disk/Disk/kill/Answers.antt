use Rattle.std.proofs.Common.{◌≡◌, ℕ, ◌+◌, ◌*◌, ◌<◌, ◌^◌, ◌∷◌, [], ◌∙◌, length, ap, ap₂, sym, subst, refl, arith}
use Rattle.std.specs.declared.alloc.Global.{Global}
use Rattle.std.specs.declared.vec.Vec.{Vec}
use Rattle.std.proofs.lemmas.List.Elements.{All-tail}
use Rattle.flow_draw.specs.Words.{Drawn, word_in}
use Rattle.flow_simdisk.specs.Disk.{File, lose_next, lose_file, lose_files, power_lost}
use Rattle.flow_simdisk.specs.Stored.{HasFiles, GoesOn, files_of, most_words, losing}
use Rattle.flow_simdisk.proofs.Losses.{Comes, none_asked, files_go_on, all_come}
use Rattle.flow_simdisk.proofs.Naming.{HasFile, more_words}
use Rattle.flow_simdisk.proofs.disk.Disk.kill.Goals as goal

none_there : HasFiles []
none_there k d lt = absurd (omega (arith, lt))

pub loop-name-init : goal.loop-name-init
loop-name-init c =
    let start = c.args.draws.now in
    let no_files = c.new-files.ensures.empty in
    let no_fates = c.new-fates.ensures.items in
    let from = c.into_iter-name-iterator.ensures.into_iter_gives ∙ c.iter-name-items.ensures.rest in
    let files = ap files_of from ∙ ap (λ d. d.files) c.self.view_is in
    record {
      lost = (
        [],
        none_asked start,
        ap₂ (λ es ks. lose_files (word_in start) (losing (files_of es) [] ks) (files_of c.into_iter-name-iterator.result)) no_files no_fates
            ∙ ap (power_lost (word_in start)) files,
      );
      drawn = refl;
      room = subst (λ fs. start.used + most_words fs < 2 ^ 63) (sym files) c.requires;
      ahead = subst HasFiles (sym from) c.self.invariant;
      there = subst HasFiles (sym no_files) none_there;
    }

pub loop-name-preserved : goal.loop-name-preserved
loop-name-preserved c =
    let start = c.args.draws.now in
    let before = files_of c.loop-name.files.entries in
    let fates = c.loop-name.fates.items in
    let rest = c.next.new.self in
    let file = c.in-Some.file.now in
    let entry : Vec ℕ Global × File = (c.in-Some.name.now, file) in
    let inv = c.loop-name.invariant in
    let new = c.lose_file.new.draws in
    let all = power_lost (word_in start) c.args.self.now.files in
    let steps : c.loop-name.name-iterator ≡ entry ∷ rest = c.in-Some.ensures.steps in
    let more : most_words (files_of c.loop-name.name-iterator) ≡ 2 * length file.unsynced + most_words (files_of rest) =
    ap (λ es. most_words (files_of es)) steps ∙ more_words entry rest in
    let come = subst (λ es. Comes start before fates c.loop-name.draws (files_of es) all) steps inv.lost in
    let after = files_of c.lose_file.new.files.entries in
    let more_fates = c.lose_file.new.fates.items in
    let goes = subst (λ x. GoesOn (λ word qs. lose_next before x (lose_file word qs fates x file)) c.loop-name.draws after more_fates new)
    c.deref.ensures.value c.in_ok-lose_file.ensures.lost in
    record {
      lost = files_go_on start c.loop-name.draws new before after fates more_fates c.in-Some.name.now.items file (files_of rest) all come goes;
      drawn = c.in_ok-lose_file.ensures.drawn ∙ ap {A = Drawn} {B = Drawn} (λ d. record d { used = new.used; noted = new.noted }) inv.drawn;
      room = omega (arith, more, inv.room, c.in_ok-lose_file.ensures.few);
      ahead = All-tail HasFile entry rest (subst HasFiles steps inv.ahead);
      there = c.in_ok-lose_file.ensures.there inv.there;
    }

pub returns-clause-lost : goal.returns-clause-lost
returns-clause-lost c =
    let start = c.args.draws.now in
    let left = files_of c.loop-name.files.entries in
    let fates = c.loop-name.fates.items in
    let all = power_lost (word_in start) c.args.self.now.files in
    let come = subst (λ es. Comes start left fates c.loop-name.draws (files_of es) all) c.in-None.ensures.steps.0 c.loop-name.invariant.lost in
    all_come start c.loop-name.draws left fates all come
