use Rattle.std.proofs.Common.{◌≤◌, ◌∙◌, length, ap, ap₂, sym, subst}
use Rattle.flow_simdisk.specs.Disk.{with_file}
use Rattle.flow_simdisk.specs.Stored.{HasFiles, IsThere, file_in, files_of}
use Rattle.flow_simdisk.proofs.Naming.{HasFile, by_name, insert_named, all_inserted}
use Rattle.flow_simdisk.proofs.disk.Disk.place.Goals as goal

pub invariant_of-self-2 : goal.invariant_of-self-2
invariant_of-self-2 c =
    let key = c.in_ok-to_vec.field-0 in
    let file = c.in_ok-file.file in
    let name = c.in_ok-to_vec.ensures.items_if_clones_equal (λ y same h. h) ∙ c.bytes.ensures.bytes in
    let short : length key.items ≤ 65535 = subst (λ x. length x ≤ 65535) (sym name) c.bytes.ensures.short in
    let there : IsThere file = subst IsThere (sym c.in_ok-file.ensures) c.requires.there in
    subst HasFiles (sym c.in_ok-insert.ensures.entries)
    (all_inserted HasFile by_name c.self.inside.files.entries key file c.self.invariant (short, there) (λ j v p. (p.0, there)))

pub returns : goal.returns
returns c =
    let es = c.self.inside.files.entries in
    let key = c.in_ok-to_vec.field-0 in
    let name = c.in_ok-to_vec.ensures.items_if_clones_equal (λ y same h. h) ∙ c.bytes.ensures.bytes in
    ap (λ fs. record { fails = c.self.inside.fails; files = fs })
    (ap files_of c.in_ok-insert.ensures.entries
    ∙ insert_named es key c.in_ok-file.file
    ∙ ap₂ (λ x f. with_file (files_of es) x f) name c.in_ok-file.ensures)
    ∙ ap (λ d. record { fails = d.fails; files = with_file d.files c.args.state.name (file_in c.args.state) }) c.self.view_is
