use Rattle.std.proofs.Common.{◌+◌, List, ℕ, ap, sym, subst, ◌∙◌, arith}
use Rattle.scheme_model.specs.Program.{is_in}
use Rattle.import_sets.specs.Graphs.{add_to}
use Rattle.import_sets.proofs.ImporterLaws.{AreImportersBelow, importers_more}
use Rattle.import_sets.proofs.turns.importers.Goals as goal

pub add_to-requires : goal.add_to-requires
add_to-requires c = λ p i.
    let lt = c.requires c.loop-place.place p (sym (ap (is_in p) c.row.ensures) ∙ i) in
    let size = c.loop-place.invariant.size in
    let items = c.loop-place.rows.ok.0 in
    omega arith

pub loop-place-preserved : goal.loop-place-preserved
loop-place-preserved c =
    subst (λ (h : List (List ℕ)). AreImportersBelow c.args.graph.now h (c.loop-place.place + 1))
    (sym (c.in_ok-add_to.ensures ∙ ap (add_to c.loop-place.rows.items c.loop-place.place) c.row.ensures))
    (importers_more c.args.graph.now c.loop-place.rows.items c.loop-place.place c.requires (omega arith) c.loop-place.invariant)
