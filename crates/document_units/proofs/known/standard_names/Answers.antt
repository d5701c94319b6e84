use Rattle.std.proofs.Common.{ℕ, List, Bor, map, ap, ◌∙◌}
use Rattle.std.proofs.lemmas.List.{take_all}
use Rattle.document_units.proofs.known.standard_names.Goals as goal

pub returns : goal.returns
returns c =
    let ls = c.standard_library_names-name-items.result.now in
    c.loop-name.invariant ∙ ap (map (λ (s : Bor (List ℕ)). s.now)) (take_all c.loop-name.name-index ls c.loop-name-test.false) ∙ c.standard_library_names-name-items.ensures
