use Rattle.std.proofs.Common.{◌≡◌, ◌∙◌, ap, sym, subst, Some, None}
use Rattle.std.specs.Map.{lookup}
use Rattle.flow_simdisk.specs.Disk.{seen_bytes, file_named}
use Rattle.flow_simdisk.proofs.Naming.{at_name, found_file, no_file}
use Rattle.flow_simdisk.proofs.disk.Disk.seen.Goals as goal

pub returns-in-Some-clause-bytes : goal.returns-in-Some-clause-bytes
returns-in-Some-clause-bytes c =
    let es = c.self.inside.files.entries in
    let f = c.in-Some.file.now in
    let found : lookup (at_name c.args.name.now) es ≡ Some f = subst (λ x. lookup (at_name x) es ≡ Some f) c.bytes.ensures.bytes (sym c.in-Some.ensures.value) in
    c.seen.ensures.bytes ∙ ap seen_bytes (sym (found_file es c.args.name.now f found)) ∙ ap (λ d. seen_bytes (file_named d.files c.args.name.now)) c.self.view_is

pub returns-in-None-clause-bytes : goal.returns-in-None-clause-bytes
returns-in-None-clause-bytes c =
    let es = c.self.inside.files.entries in
    let none : lookup (at_name c.args.name.now) es ≡ None = subst (λ x. lookup (at_name x) es ≡ None) c.bytes.ensures.bytes (sym c.in-None.ensures.value) in
    ap seen_bytes (sym (no_file es c.args.name.now none)) ∙ ap (λ d. seen_bytes (file_named d.files c.args.name.now)) c.self.view_is
