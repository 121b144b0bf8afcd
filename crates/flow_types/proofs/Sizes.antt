-- Sizes of fields, one after another.
use Rattle.std.proofs.Common.{◌≡◌, ℕ, ◌+◌, ◌<◌, ◌≤◌, List, [], ◌∷◌, length, drop, get_or, max, refl, sym, ap, ap₂, ◌∙◌, arith}
use Rattle.flow_tree.specs.declared.decl.Param.{Param}
use Rattle.flow_tree.specs.View.{type_of}
use Rattle.flow_tree.specs.DeclView.{params_of}
use Rattle.std.proofs.Common.{Bool, true, false, ◌++◌, map, if◌then◌else◌, Result, Ok, Err}
use Rattle.std.specs.declared.option.Option.{Option}
use Rattle.std.specs.declared.option.Option.TheVariants.{None, Some}
use Rattle.flow_tree.specs.declared.decl.Decl.{Decl}
use Rattle.flow_tree.specs.declared.decl.RecordDecl.{RecordDecl}
use Rattle.flow_tree.specs.declared.fault.SourceFault.{SourceFault}
use Rattle.flow_tree.specs.declared.fault.SourceFault.TheVariants.{Refused, AcrossWait, OutOfMemory}
use Rattle.flow_tree.specs.Decls.{RecordTree, DeclTree, StructDecl}
use Rattle.flow_tree.specs.DeclView.{record_of, decl_of}
use Rattle.flow_ast.specs.TypingNames.{named}
use Rattle.flow_ast.specs.Typing.{is_there, or_else}
use Rattle.flow_rules.specs.Items.{Refusal}
use Rattle.flow_rules.specs.Rules.{Size, beside, type_size, fields_size, record_size, too_large, large_record, with_size, first_large}
use Rattle.flow_types.specs.SizeView.{SizeAnswer}
use Rattle.flow_types.specs.WalkView.{Says}
use Rattle.flow_types.proofs.Steps.{drop_more, drop_all}

abbrev made : ℕ → ℕ → Size
made n l = record { nesting = n; leaves = l }

beside_assoc : (a b c : Size) → beside (beside a b) c ≡ beside a (beside b c)
beside_assoc a b c =
    let n : max (max a.nesting b.nesting) c.nesting ≡ max a.nesting (max b.nesting c.nesting) = omega arith in
    let l : (a.leaves + b.leaves) + c.leaves ≡ a.leaves + (b.leaves + c.leaves) = omega arith in
    ap₂ made n l

beside_none : (a : Size) → beside a (made 0 0) ≡ a
beside_none a =
    let n : max a.nesting 0 ≡ a.nesting = omega arith in
    let l : a.leaves + 0 ≡ a.leaves = omega arith in
    ap₂ made n l

module _ (ns : List (List ℕ × Size)) where
  pub size_step : (fs : List Param) (i : ℕ) (f : Param) (acc more new total : Size) → i < length fs → f ≡ get_or fs i f
      → more ≡ type_size ns (type_of f.ty) → new ≡ beside acc more → beside acc (fields_size ns (params_of (drop i fs))) ≡ total
      → beside new (fields_size ns (params_of (drop (i + 1) fs))) ≡ total
  size_step fs i f acc more new total lt at is n h =
      let rest = fields_size ns (params_of (drop (i + 1) fs)) in
      ap (λ x. beside x rest) n ∙ beside_assoc acc more rest ∙ ap (λ x. beside acc (beside x rest)) is
      ∙ ap (λ l. beside acc (fields_size ns (params_of l))) (sym (drop_more fs i f lt at)) ∙ h

  pub size_end : (fs : List Param) (i : ℕ) (acc total : Size) → length fs ≤ i → beside acc (fields_size ns (params_of (drop i fs))) ≡ total → acc ≡ total
  size_end fs i acc total le h = sym (beside_none acc) ∙ ap (λ l. beside acc (fields_size ns (params_of l))) (sym (drop_all fs i le)) ∙ h

  pub size_over : (fs : List Param) (i limit : ℕ) (f : Param) (acc more total : Size) → i < length fs → f ≡ get_or fs i f
      → more ≡ type_size ns (type_of f.ty) → beside acc (fields_size ns (params_of (drop i fs))) ≡ total → limit < acc.leaves + more.leaves → limit < total.leaves
  size_over fs i limit f acc more total lt at is h over =
      let rest = fields_size ns (params_of (drop (i + 1) fs)) in
      let e = ap (λ (n : Size). n.leaves) (ap (λ x. beside acc (beside x rest)) is ∙ ap (λ l. beside acc (fields_size ns (params_of l))) (sym (drop_more fs i f lt at)) ∙ h) in
      omega (arith, e)

-- the sizes of records, one after another
pub size_kept : (ns : List (List ℕ × Size)) (r : RecordTree) → is_there (named ns r.name.name) ≡ true → ns ≡ with_size ns r
size_kept ns r h = sym (ap (λ b. if b then ns else ns ++ (r.name.name, record_size ns r) ∷ []) h)

pub size_put : (ns new : List (List ℕ × Size)) (r : RecordTree) → is_there (named ns r.name.name) ≡ false → new ≡ ns ++ (r.name.name, record_size ns r) ∷ [] → new ≡ with_size ns r
size_put ns new r h n = n ∙ sym (ap (λ b. if b then ns else ns ++ (r.name.name, record_size ns r) ∷ []) h)

-- one more declaration
pub large_step : (ns new : List (List ℕ × Size)) (ds : List Decl) (i : ℕ) (d : Decl) (r : RecordTree) (all : Option Refusal) → i < length ds → d ≡ get_or ds i d → decl_of d ≡ StructDecl r
    → too_large (record_size ns r) ≡ false → new ≡ with_size ns r → first_large ns (map decl_of (drop i ds)) ≡ all → first_large new (map decl_of (drop (i + 1) ds)) ≡ all
large_step ns new ds i d r all lt at is small n h =
    let rest = map decl_of (drop (i + 1) ds) in
    ap (λ m. first_large m rest) n ∙ ap (λ b. or_else (large_record b r) (first_large (with_size ns r) rest)) (sym small)
    ∙ ap (λ t. first_large ns (t ∷ rest)) (sym is) ∙ ap (λ l. first_large ns (map decl_of l)) (sym (drop_more ds i d lt at)) ∙ h

pub large_fails : (ns new : List (List ℕ × Size)) (ds : List Decl) (i : ℕ) (d : Decl) (r : RecordTree) (all : Option Refusal) (x : SourceFault) → i < length ds → d ≡ get_or ds i d
    → decl_of d ≡ StructDecl r
    → first_large ns (map decl_of (drop i ds)) ≡ all → SizeAnswer ns r new (Err x) → Says all (Err x)
large_fails ns new ds i d r all (Refused rule place) lt at is h a =
    let rest = map decl_of (drop (i + 1) ds) in
    sym h ∙ ap (λ l. first_large ns (map decl_of l)) (drop_more ds i d lt at) ∙ ap (λ t. first_large ns (t ∷ rest)) is ∙ ap (λ o. or_else o (first_large (with_size ns r) rest)) a
large_fails ns new ds i d r all (AcrossWait at declared wait) lt here is h a = a
large_fails ns new ds i d r all OutOfMemory lt at is h a = a

pub large_other : (ns : List (List ℕ × Size)) (ds : List Decl) (i : ℕ) (d : Decl) (all : Option Refusal) → i < length ds → d ≡ get_or ds i d
    → ((rest : List DeclTree) → first_large ns (decl_of d ∷ rest) ≡ first_large ns rest) → first_large ns (map decl_of (drop i ds)) ≡ all → first_large ns (map decl_of (drop (i + 1) ds)) ≡ all
large_other ns ds i d all lt at is h =
    sym (is (map decl_of (drop (i + 1) ds))) ∙ ap (λ l. first_large ns (map decl_of l)) (sym (drop_more ds i d lt at)) ∙ h

pub large_end : (ns : List (List ℕ × Size)) (ds : List Decl) (i : ℕ) (all : Option Refusal) → length ds ≤ i → first_large ns (map decl_of (drop i ds)) ≡ all → all ≡ None
large_end ns ds i all le h = sym h ∙ ap (λ l. first_large ns (map decl_of l)) (drop_all ds i le)
