use Rattle.std.proofs.Common.{◌≡◌, ℕ, ◌∷◌, [], ◌++◌, ◌∙◌, ap, ap₂, sym, subst, arith}
use Rattle.std.specs.declared.alloc.Global.{Global}
use Rattle.std.specs.declared.vec.Vec.{Vec}
use Rattle.std.specs.List.{All}
use Rattle.std.proofs.lemmas.List.{map_push, append_assoc}
use Rattle.std.proofs.lemmas.List.Elements.{All-tail, All-push}
use Rattle.flow_simdisk.specs.Disk.{File}
use Rattle.flow_simdisk.specs.Stored.{CanRestore, HasFiles, HasRisingNames, file_in, files_in, files_of}
use Rattle.flow_simdisk.proofs.Naming.{HasFile, names_sorted}
use Rattle.flow_simdisk.proofs.disk.Disk.state.Goals as goal

pub loop-name-preserved : goal.loop-name-preserved
loop-name-preserved c =
    let inv = c.loop-name.invariant in
    let rest = c.next.new.self in
    let entry : Vec ℕ Global × File = (c.in-Some.name.now, c.in-Some.file.now) in
    let steps : c.loop-name.name-iterator ≡ entry ∷ rest = c.in-Some.ensures.steps in
    let ahead : HasFiles (entry ∷ rest) = subst HasFiles steps inv.ahead in
    let files = c.loop-name.files.items in
    let one = c.in_ok-state.field-0 in
    let there = (ahead 0 entry (omega arith)).1 in
    record {
      listed =
          ap (λ fs. files_in fs ++ files_of rest) c.in_ok-push.ensures.items
          ∙ ap (λ fs. fs ++ files_of rest) (map_push (λ s. (s.name, file_in s)) files one)
          ∙ append_assoc (files_in files) ((one.name, file_in one) ∷ []) (files_of rest)
          ∙ ap₂ (λ x f. files_in files ++ (x, f) ∷ files_of rest) (c.in_ok-state.ensures.name ∙ c.deref.ensures.value) c.in_ok-state.ensures.file
          ∙ ap (λ es. files_in files ++ files_of es) (sym steps)
          ∙ inv.listed;
      fits = subst (λ fs. All CanRestore fs) (sym c.in_ok-push.ensures.items) (All-push CanRestore files one inv.fits (c.in_ok-state.ensures.fits there));
      ahead = All-tail HasFile entry rest ahead;
    }

pub returns-clause-rising : goal.returns-clause-rising
returns-clause-rising c = subst (λ d. HasRisingNames d.files) c.self.view_is (names_sorted c.self.inside.files.entries c.iter-name-items.ensures.ordered)
