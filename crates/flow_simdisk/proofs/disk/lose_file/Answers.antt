use Rattle.std.proofs.Common.{◌≡◌, ◌≢◌, ◌≤◌, ◌∙◌, [], length, ap, ap₂, sym, subst, rules, arith}
use Rattle.flow_simdisk.specs.Disk.{with_bytes, with_file}
use Rattle.flow_simdisk.specs.Stored.{HasFiles, IsThere, files_of}
use Rattle.flow_simdisk.proofs.Naming.{HasFile, by_name, insert_named, with_bytes_some, none_left, all_inserted, some_length}
use Rattle.flow_simdisk.proofs.disk.lose_file.Goals as goal

pub returns-else-not-is_empty-clause-lost : goal.returns-else-not-is_empty-clause-lost
returns-else-not-is_empty-clause-lost c =
    let fs = files_of c.args.files.now.entries in
    let x = c.args.name.now in
    let none = none_left c.in_ok-left.left c.is_empty.result c.is_empty.ensures c.if-not-is_empty.false in
    λ start qs was.
    let (bytes, fates, draws) = c.in_ok-left.ensures.lost start qs was in
    (sym (ap (λ bs. with_bytes fs x bs) (sym bytes ∙ none)), fates, draws)

pub returns-in_ok-insert-clause-lost : goal.returns-in_ok-insert-clause-lost
returns-in_ok-insert-clause-lost c =
    let fs = files_of c.args.files.now.entries in
    let key = c.in_ok-to_vec.field-0 in
    let x = c.args.name.now in
    let left = c.in_ok-left.left.items in
    let some : left ≢ [] = search rules in
    let name : key.items ≡ x = c.in_ok-to_vec.ensures.items_if_clones_equal (λ y same h. h) in
    let is = ap files_of c.in_ok-insert.ensures.entries
    ∙ insert_named _ key c.in_ok-of.field-0
    ∙ ap₂ (λ y f. with_file fs y f) name c.in_ok-of.ensures
    ∙ sym (with_bytes_some fs x left some) in
    λ start qs was.
    let (bytes, fates, draws) = c.in_ok-left.ensures.lost start qs was in
    (is ∙ ap (λ bs. with_bytes fs x bs) bytes, fates, draws)

pub returns-in_ok-insert-clause-there : goal.returns-in_ok-insert-clause-there
returns-in_ok-insert-clause-there c =
    λ all.
    let key = c.in_ok-to_vec.field-0 in
    let file = c.in_ok-of.field-0 in
    let left = c.in_ok-left.left.items in
    let some : left ≢ [] = search rules in
    let name : key.items ≡ c.args.name.now = c.in_ok-to_vec.ensures.items_if_clones_equal (λ y same h. h) in
    let short : length key.items ≤ 65535 = subst (λ y. length y ≤ 65535) (sym name) c.requires.name in
    let there : IsThere file = subst IsThere (sym c.in_ok-of.ensures) (omega (arith, some_length left some)) in
    subst HasFiles (sym c.in_ok-insert.ensures.entries)
    (all_inserted HasFile by_name c.args.files.now.entries key file all (short, there) (λ j v p. (p.0, there)))
