use Rattle.std.proofs.Common.{◌≡◌, ◌++◌, map, ap, ◌∙◌}
use Rattle.std.specs.List.{flat_map}
use Rattle.std.specs.String.{string_bytes}
use Rattle.flow_worldfile.specs.declared.directive.Directive.TheVariants.{Word}
use Rattle.flow_worldfile.specs.Directives.{line_text}
use Rattle.flow_worldfile.specs.Worlds.{timed, seen, settings, at_line}
use Rattle.flow_worldfile.proofs.TextLemmas.{three_parts}
use Rattle.flow_worldfile.proofs.printing.print_world.Goals as goal

pub returns : goal.returns
returns c =
    let w = c.args.world.now in
    let none = string_bytes c.new-out.result in
    let first : string_bytes c.push_lines.new.out ≡ flat_map line_text (settings (seen w)) =
    c.in_ok-push_lines.ensures ∙ ap (λ l. l ++ flat_map line_text c.settings.result) c.new-out.ensures.bytes ∙ ap (flat_map line_text) c.settings.ensures in
    let second : string_bytes c.push_words.new.out ≡ string_bytes c.push_lines.new.out ++ flat_map line_text (map Word w.words.items) =
    c.in_ok-push_words.ensures ∙ ap (λ ns. string_bytes c.push_lines.new.out ++ flat_map line_text (map Word ns)) c.deref.ensures.value in
    let third : string_bytes c.push_script.new.out ≡ string_bytes c.push_words.new.out ++ flat_map line_text (map at_line (map timed w.script.items)) =
    c.in_ok-push_script.ensures ∙ ap (λ ats. string_bytes c.push_words.new.out ++ flat_map line_text (map at_line (map timed ats))) c.deref-2.ensures.value in
    ap (λ v. v.items) c.into_bytes.ensures.value
    ∙ three_parts line_text (settings (seen w)) (map Word w.words.items) (map at_line (map timed w.script.items)) _ _ _ first second third
