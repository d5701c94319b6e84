use Rattle.std.proofs.Common.{List, [], sym, ap, ◌∙◌, arith}
use Rattle.std.proofs.lemmas.List.{append-nil}
use Rattle.scheme_model.specs.Holes.{hole_places}
use Rattle.scheme_model.specs.Ident.{symbol_of}
use Rattle.program_leaves.proofs.HoleLaws.{fewer}
use Rattle.alpha_equal.proofs.data.datum_nodes.Goals as goal

pub depth-depth-requires : goal.depth-depth-requires
depth-depth-requires c = let h = c.requires.1 in (h.0, h.1)

pub size-size-requires : goal.size-size-requires
size-size-requires c = let h = c.requires.1 in (h.0, h.1)

pub add_datum-requires : goal.add_datum-requires
add_datum-requires c = let h = c.requires.1 in (h.0, h.1, omega (arith, c.depth-depth.ensures h.0 h.1))

pub returns : goal.returns
returns c = λ h holed.
    let small = fewer symbol_of holed.0 h holed.2 in
    let size = c.size-size.ensures holed.0 holed.1 in
    let at = holed.3 ∙ sym (append-nil (hole_places h)) in
    let r = c.in_ok-add_datum.ensures holed.0 h [] holed.1 holed.2 at tt (omega (arith, small, size)) in
    r.0
