use Rattle.std.proofs.Common.{List, [], ◌++◌, map, sym, ap, ◌∙◌, arith}
use Rattle.std.proofs.lemmas.List.{append-nil}
use Rattle.scheme_model.specs.Holes.{hole_places}
use Rattle.scheme_model.specs.Ident.{symbol_of}
use Rattle.syntax_tree.specs.declared.rules.Named.{Named}
use Rattle.program_leaves.specs.Holes.{occs_in}
use Rattle.program_leaves.proofs.HoleLaws.{fewer}
use Rattle.program_leaves.proofs.holes.outside.Goals as goal

pub depth-depth-requires : goal.depth-depth-requires
depth-depth-requires c = let h = c.requires.1 in (h.0, h.1)

pub size-size-requires : goal.size-size-requires
size-size-requires c = let h = c.requires.1 in (h.0, h.1)

pub add_outside-requires : goal.add_outside-requires
add_outside-requires c = let h = c.requires.1 in (h.0, h.1, omega (arith, c.depth-depth.ensures h.0 h.1))

pub returns : goal.returns
returns c = λ h holed.
    let small = fewer symbol_of holed.0 h holed.2 in
    let size = c.size-size.ensures holed.0 holed.1 in
    let at = holed.3 ∙ sym (append-nil (hole_places h)) in
    let r = c.in_ok-add_outside.ensures holed.0 h [] holed.1 holed.2 at tt (omega (arith, small, size)) in
    r.0 ∙ ap (λ (ns : List Named). map (λ (n : Named). n.occ) ns ++ occs_in h) c.new-names.ensures.items
