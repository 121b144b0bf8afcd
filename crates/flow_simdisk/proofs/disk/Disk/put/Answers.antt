use Rattle.std.proofs.Common.{◌≡◌, ◌≤◌, ◌∙◌, length, ap, ap₂, sym, subst, Some, None, arith}
use Rattle.std.specs.Map.{lookup, set_value}
use Rattle.std.proofs.lemmas.List.{length_push}
use Rattle.flow_simdisk.specs.Disk.{joined, with_file}
use Rattle.flow_simdisk.specs.Stored.{HasFiles, IsThere, files_of, with_joined}
use Rattle.flow_simdisk.proofs.Naming.{HasFile, at_name, by_name, found_file, no_file, set_named, insert_named, names_sorted, set_is_inserted, all_set, all_inserted, put_back, lookup_named, there_found, on_ok, on_err, in_both}
use Rattle.flow_simdisk.proofs.disk.Disk.put.Goals as goal

pub invariant_of-self : goal.invariant_of-self
invariant_of-self c =
    let es = c.self.inside.files.entries in
    let x = c.bytes.result.now in
    let old = c.in-Some.file.now in
    let new = c.write.new.self in
    let found : lookup (at_name x) es ≡ Some old = sym c.in-Some.ensures.value in
    let written = (c.get_mut.follows.holds new).0 in
    let there : IsThere new = in_both c.write.result
    (on_ok c.write.result (λ e. subst IsThere (sym e) (omega (arith, length_push old.unsynced c.args.write))) c.write.ensures.joined)
    (on_err c.write.result (λ e. subst IsThere (sym e) (there_found (at_name x) es old c.self.invariant found)) c.write.ensures.unchanged) in
    subst HasFiles (sym written) (all_set HasFile (at_name x) es new c.self.invariant (λ k v p. (p.0, there)))

pub returns-in-Some-clause-joined : goal.returns-in-Some-clause-joined
returns-in-Some-clause-joined c =
    let es = c.self.inside.files.entries in
    let x = c.bytes.result.now in
    let old = c.in-Some.file.now in
    let w = c.args.write in
    let found : lookup (at_name x) es ≡ Some old = sym c.in-Some.ensures.value in
    let written = (c.get_mut.follows.holds c.write.new.self).0 in
    on_ok c.write.result
    (λ e. ap (λ fs. record { fails = c.self.inside.fails; files = fs })
    (ap files_of (written ∙ ap (λ f. set_value (at_name x) es f) e)
    ∙ set_named es x (joined old w)
    ∙ set_is_inserted (files_of es) x (joined old w) old (names_sorted es c.in-Some.ensures.ordered) (lookup_named es x ∙ found)
    ∙ ap (λ f. with_file (files_of es) x (joined f w)) (sym (found_file es x old found)))
    ∙ ap₂ (λ d y. with_joined d y w) c.self.view_is c.bytes.ensures.bytes)
    c.write.ensures.joined

pub returns-in-Some-clause-unchanged : goal.returns-in-Some-clause-unchanged
returns-in-Some-clause-unchanged c =
    let es = c.self.inside.files.entries in
    let x = c.bytes.result.now in
    let old = c.in-Some.file.now in
    let found : lookup (at_name x) es ≡ Some old = sym c.in-Some.ensures.value in
    let written = (c.get_mut.follows.holds c.write.new.self).0 in
    on_err c.write.result
    (λ e. ap (λ gs. record { fails = c.self.inside.fails; files = files_of gs })
    (written ∙ ap (λ f. set_value (at_name x) es f) e ∙ put_back (at_name x) es old found)
    ∙ c.self.view_is)
    c.write.ensures.unchanged

pub invariant_of-self-in-None : goal.invariant_of-self-in-None
invariant_of-self-in-None c =
    let es = c.self.inside.files.entries in
    let same : c.get_mut.follows.lender-at-none.entries ≡ es = ap (λ m. m.entries) c.get_mut.follows.holds-at-none in
    let key = c.in_ok-to_vec-in-None.field-0 in
    let name = c.in_ok-to_vec-in-None.ensures.items_if_clones_equal (λ y same h. h) ∙ c.bytes-in-None.ensures.bytes in
    let short : length key.items ≤ 65535 = subst (λ x. length x ≤ 65535) (sym name) c.bytes.ensures.short in
    let there : IsThere c.write-in-None.new.self = subst IsThere (sym c.in_ok-write-in-None.ensures.joined) (omega (arith, length_push c.new-file.result.unsynced c.args.write)) in
    subst HasFiles (sym c.in_ok-insert-in-None.ensures.entries)
    (all_inserted HasFile by_name _ key c.write-in-None.new.self (subst HasFiles (sym same) c.self.invariant) (short, there) (λ j v p. (p.0, there)))

pub returns-in_ok-insert-in-None-clause-joined : goal.returns-in_ok-insert-in-None-clause-joined
returns-in_ok-insert-in-None-clause-joined c =
    let es = c.self.inside.files.entries in
    let same : c.get_mut.follows.lender-at-none.entries ≡ es = ap (λ m. m.entries) c.get_mut.follows.holds-at-none in
    let key = c.in_ok-to_vec-in-None.field-0 in
    let x = c.args.name.now in
    let w = c.args.write in
    let name = c.in_ok-to_vec-in-None.ensures.items_if_clones_equal (λ y same h. h) ∙ c.bytes-in-None.ensures.bytes in
    let none : lookup (at_name x) es ≡ None = subst (λ y. lookup (at_name y) es ≡ None) c.bytes.ensures.bytes (sym c.in-None.ensures.value) in
    let file = c.in_ok-write-in-None.ensures.joined ∙ ap (λ f. joined f w) c.new-file.ensures in
    ap (λ fs. record { fails = c.self.inside.fails; files = fs })
    (ap files_of c.in_ok-insert-in-None.ensures.entries
    ∙ insert_named _ key c.write-in-None.new.self
    ∙ ap₂ (λ gs y. with_file (files_of gs) y c.write-in-None.new.self) same name
    ∙ ap (λ f. with_file (files_of es) x f) (file ∙ ap (λ f. joined f w) (sym (no_file es x none))))
    ∙ ap (λ d. with_joined d x w) c.self.view_is
