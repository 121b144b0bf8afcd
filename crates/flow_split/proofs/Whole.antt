-- The class of an actor, from what its text emits.
use Rattle.std.proofs.Common.{◌≡◌, true, false, List, [], refl, ap, subst, ◌∙◌}
use Rattle.std.specs.declared.option.Option.{Option}
use Rattle.std.specs.declared.option.Option.TheVariants.{None}
use Rattle.flow_base.specs.declared.place.Place.{Place}
use Rattle.flow_tree.specs.declared.ty.Ty.{Ty}
use Rattle.flow_tree.specs.declared.ty.Ty.TheOpen.{Ty-F, Int, Bool, Str, Void, Error, Named, Future, FutureStream, Promise, PromiseStream, Vector}
use Rattle.flow_tree.specs.declared.ty.Ty.TheFolds.{fold_out-Ty}
use Rattle.flow_tree.specs.Tree.{TypeTree}
use Rattle.flow_tree.specs.View.{type_step, type_of}
use Rattle.flow_tree.specs.Body.{Body}
use Rattle.flow_tree.specs.Decls.{SlotTree}
use Rattle.flow_ast.specs.Typing.{is_nothing}
use Rattle.flow_meaning.specs.Evaluating.{Names}
use Rattle.flow_split.specs.Around.{whole}
use Rattle.flow_split.specs.Lowered.{Chunk, blocks_of, lowered}
use Rattle.flow_split.specs.Emitting.{Emitted, EmitsAll}
use Rattle.flow_split.proofs.Joins.{onto_fresh}

-- before anything is emitted
abbrev pub nothing_yet : Emitted
nothing_yet = record { scopes = []; next = 0; blocks = []; groups = []; is_open = true; acts = false; body = [] }

abbrev pub text_chunk : Names → List SlotTree → Option Place → Body → Chunk
text_chunk ns slots close b = lowered ns slots [] (whole close) (record { block = 1; local = 0; group = 1 }) b

pub text_blocks : (ns : Names) (slots : List SlotTree) (close : Option Place) (b : Body) (e new : Emitted) → e ≡ nothing_yet → EmitsAll ns slots (whole close) b e new
    → new.blocks ≡ blocks_of None (text_chunk ns slots close b)
text_blocks ns slots close b e new h a =
    let r = subst (λ x. EmitsAll ns slots (whole close) b x new) h a in
    ap (λ x. x.blocks) r.all.all ∙ ap (blocks_of None) (onto_fresh nothing_yet (text_chunk ns slots close b) (record { body = refl; acts = refl }))

pub text_groups : (ns : Names) (slots : List SlotTree) (close : Option Place) (b : Body) (e new : Emitted) → e ≡ nothing_yet → EmitsAll ns slots (whole close) b e new
    → new.groups ≡ (text_chunk ns slots close b).groups
text_groups ns slots close b e new h a =
    let r = subst (λ x. EmitsAll ns slots (whole close) b x new) h a in
    ap (λ x. x.groups) r.all.all

-- a type of a text is that of something
layer_there : (l : Ty-F TypeTree) → is_nothing (type_step l) ≡ false
layer_there Int = refl
layer_there Bool = refl
layer_there Str = refl
layer_there Void = refl
layer_there Error = refl
layer_there (Named n) = refl
layer_there (Future t) = refl
layer_there (FutureStream t) = refl
layer_there (Promise t) = refl
layer_there (PromiseStream t) = refl
layer_there (Vector t) = refl

pub close_there : (t : Ty) → is_nothing (type_of t) ≡ false
close_there t = ap is_nothing (fold_out-Ty TypeTree type_step t) ∙ layer_there _
