use Rattle.std.proofs.Common.{◌≡◌, ◌∙◌, ap, ap₂, sym, subst, Some, None}
use Rattle.std.specs.Ordering.{nat_cmp}
use Rattle.std.specs.Cmp.Lexicographic.{slice_cmp}
use Rattle.std.specs.BTreeMap.{is_at}
use Rattle.std.specs.Map.{lookup, set_value}
use Rattle.flow_simdisk.specs.Disk.{synced, file_named}
use Rattle.flow_simdisk.specs.Stored.{HasFiles, IsThere, files_of, with_synced}
use Rattle.flow_simdisk.proofs.Naming.{HasFile, at_name, found_file, set_named, set_none, all_set, put_back, lookup_named, there_found, on_ok, on_err, in_both}
use Rattle.flow_simdisk.proofs.disk.Disk.settle.Goals as goal

pub invariant_of-self-2 : goal.invariant_of-self-2
invariant_of-self-2 c =
    let es = c.self.inside.files.entries in
    let x = c.bytes.result.now in
    let old = c.in-Some.file.now in
    let new = c.sync.new.self in
    let found : lookup (at_name x) es ≡ Some old = sym c.in-Some.ensures.value in
    let written = (c.get_mut.follows.holds new).0 in
    let was : IsThere old = there_found (at_name x) es old c.self.invariant found in
    let there : IsThere new = in_both c.sync.result
    (on_ok c.sync.result (λ e. subst IsThere (sym e) (c.sync.ensures.there was)) c.sync.ensures.synced)
    (on_err c.sync.result (λ e. subst IsThere (sym e) was) c.sync.ensures.unchanged) in
    subst HasFiles (sym written) (all_set HasFile (at_name x) es new c.self.invariant (λ k v p. (p.0, there)))

pub returns-clause-synced : goal.returns-clause-synced
returns-clause-synced c =
    let es = c.self.inside.files.entries in
    let x = c.bytes.result.now in
    let old = c.in-Some.file.now in
    let found : lookup (at_name x) es ≡ Some old = sym c.in-Some.ensures.value in
    let written = (c.get_mut.follows.holds c.sync.new.self).0 in
    on_ok c.sync.result
    (λ e. ap (λ fs. record { fails = c.self.inside.fails; files = fs })
    (ap files_of (written ∙ ap (λ f. set_value (at_name x) es f) e)
    ∙ set_named es x (synced old)
    ∙ ap (λ f. set_value (is_at (slice_cmp nat_cmp x)) (files_of es) (synced f)) (sym (found_file es x old found)))
    ∙ ap₂ with_synced c.self.view_is c.bytes.ensures.bytes)
    c.sync.ensures.synced

pub returns-clause-unchanged : goal.returns-clause-unchanged
returns-clause-unchanged c =
    let es = c.self.inside.files.entries in
    let x = c.bytes.result.now in
    let old = c.in-Some.file.now in
    let found : lookup (at_name x) es ≡ Some old = sym c.in-Some.ensures.value in
    let written = (c.get_mut.follows.holds c.sync.new.self).0 in
    on_err c.sync.result
    (λ e. ap (λ gs. record { fails = c.self.inside.fails; files = files_of gs })
    (written ∙ ap (λ f. set_value (at_name x) es f) e ∙ put_back (at_name x) es old found)
    ∙ c.self.view_is)
    c.sync.ensures.unchanged

pub returns-in_default-clause-synced : goal.returns-in_default-clause-synced
returns-in_default-clause-synced c =
    let es = c.self.inside.files.entries in
    let x = c.args.name.now in
    let same : c.get_mut.follows.lender-at-none.entries ≡ es = ap (λ m. m.entries) c.get_mut.follows.holds-at-none in
    let none : lookup (at_name x) es ≡ None = subst (λ y. lookup (at_name y) es ≡ None) c.bytes.ensures.bytes (sym c.in_default.ensures.value) in
    let left = set_none (is_at (slice_cmp nat_cmp x)) (files_of es) (synced (file_named (files_of es) x)) (lookup_named es x ∙ none) in
    ap (λ fs. record { fails = c.self.inside.fails; files = fs }) (ap files_of same ∙ sym left) ∙ ap (λ d. with_synced d x) c.self.view_is

pub invariant_of-self : goal.invariant_of-self
invariant_of-self c =
    let same : c.get_mut.follows.lender-at-none.entries ≡ c.self.inside.files.entries = ap (λ m. m.entries) c.get_mut.follows.holds-at-none in
    subst HasFiles (sym same) c.self.invariant
