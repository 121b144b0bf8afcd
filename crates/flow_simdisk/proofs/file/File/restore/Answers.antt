use Rattle.std.proofs.Common.{◌≡◌, ◌∷◌, ◌++◌, ◌∙◌, ℕ, List, map, ap, sym, subst}
use Rattle.std.specs.List.{All}
use Rattle.flow_simdisk.specs.Stored.{FitsFile, write_in}
use Rattle.flow_simdisk.proofs.Naming.{fits_at}
use Rattle.flow_simdisk.proofs.file.File.restore.Goals as goal

pub write-requires : goal.write-requires
write-requires c =
    let before = c.loop-offset.yielded in
    let after = c.next.new.self.rest.items in
    let write : ℕ × List ℕ = (c.in-Some.offset, c.in-Some.text) in
    let all : before ++ write ∷ after ≡ c.args.unsynced.items = ap (λ ws. before ++ ws) (sym c.in-Some.ensures.steps.0) ∙ c.loop-offset.invariant.0 in
    fits_at before after write (subst (λ ws. All FitsFile (map write_in ws)) (sym all) c.requires.writes)
