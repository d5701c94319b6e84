use Rattle.std.proofs.Common.{◌≡◌, List, ℕ, length, ap, sym, subst, ◌∙◌, arith}
use Rattle.std.proofs.lemmas.Bool.Decides.{nat_tests}
use Rattle.std.proofs.lemmas.List.{nil_from_length}
use Rattle.scheme_model.specs.Program.{is_in}
use Rattle.import_sets.specs.Graphs.{AreWithin, IsGraph, is_circular, passing}
use Rattle.unit_sources.specs.Graphs.{names_at}
use Rattle.unit_sources.specs.Orders.{with_imports}
use Rattle.unit_sources.proofs.GraphLaws.{graph_size, rows_within, are_numbered, is_graph}
use Rattle.unit_sources.proofs.OrderLaws.{in_turns, on_circle_names}
use Rattle.unit_sources.proofs.PlaceLaws.{turns_are_places}
use Rattle.unit_sources.proofs.orders.order.Goals as goal

pub on_circles-requires : goal.on_circles-requires
on_circles-requires c = subst AreWithin (sym c.as_slice-rows.ensures.value) (rows_within c.args.units.now c.in_ok-graph.graph.items c.in_ok-graph.ensures)

pub turns-requires-clause-few : goal.turns-requires-clause-few
turns-requires-clause-few c =
    let rows = ap length c.as_slice-rows.ensures.value in let size = graph_size c.args.units.now c.in_ok-graph.graph.items c.in_ok-graph.ensures in let few = c.requires in omega arith

pub turns-requires-clause-within : goal.turns-requires-clause-within
turns-requires-clause-within c = subst AreWithin (sym c.as_slice-rows.ensures.value) (rows_within c.args.units.now c.in_ok-graph.graph.items c.in_ok-graph.ensures)

pub returns-then-is_empty-clause-answers : goal.returns-then-is_empty-clause-answers
returns-then-is_empty-clause-answers c = λ spelled tells all are.
    let us = c.args.units.now in
    let g = c.in_ok-graph.graph.items in
    let e = c.as_slice-rows.ensures.value in
    let here : length c.as_slice-places.result.now ≡ 0 = grind (arith, nat_tests) in
    let none : length c.in_ok-circles.circles ≡ 0 = ap length (sym {A = List ℕ} c.as_slice-places.ensures) ∙ here in
    in_turns spelled tells us all are g c.in_ok-graph.ensures c.in_ok-circles.circles c.in_ok-turns.field-0 (nil_from_length c.in_ok-circles.circles none)
    (λ ps is. c.in_ok-circles.ensures.circular ps (subst (λ (h : List (List ℕ)). IsGraph h ps) (sym e) is) ∙ ap (λ (h : List (List ℕ)). passing (is_circular ps) (length h)) e)
    (c.in_ok-turns.ensures (with_imports all) (subst (λ (h : List (List ℕ)). IsGraph h (with_imports all)) (sym e) (is_graph spelled tells us all are g c.in_ok-graph.ensures)) (are_numbered all))

pub returns-then-is_empty-clause-places : goal.returns-then-is_empty-clause-places
returns-then-is_empty-clause-places c =
    let us = c.args.units.now in
    let g = c.in_ok-graph.graph.items in
    turns_are_places g (length us) c.in_ok-turns.field-0 (graph_size us g c.in_ok-graph.ensures)
    (λ ps is numbered. c.in_ok-turns.ensures ps (subst (λ (h : List (List ℕ)). IsGraph h ps) (sym c.as_slice-rows.ensures.value) is) numbered)

pub names_at-requires : goal.names_at-requires
names_at-requires c = λ n i.
    let lt = c.in_ok-circles.ensures.below n (sym (ap (is_in n) c.as_slice-places.ensures) ∙ i) in
    let rows = ap length c.as_slice-rows.ensures.value in
    let size = graph_size c.args.units.now c.in_ok-graph.graph.items c.in_ok-graph.ensures in
    omega arith

pub returns-clause-answers : goal.returns-clause-answers
returns-clause-answers c = λ spelled tells all are.
    let us = c.args.units.now in
    let g = c.in_ok-graph.graph.items in
    let e = c.as_slice-rows.ensures.value in
    on_circle_names spelled tells us all are g c.in_ok-graph.ensures c.in_ok-circles.circles c.in_ok-names.names
    (λ z. let none : length c.as_slice-places.result.now ≡ 0 = ap length (c.as_slice-places.ensures ∙ z) in grind (arith, nat_tests))
    (λ ps is. c.in_ok-circles.ensures.circular ps (subst (λ (h : List (List ℕ)). IsGraph h ps) (sym e) is) ∙ ap (λ (h : List (List ℕ)). passing (is_circular ps) (length h)) e)
    (c.in_ok-names.ensures ∙ ap (names_at us) c.as_slice-places.ensures)
