use Rattle.std.proofs.Common.{ℕ, List, sym, ap, ◌∙◌}
use Rattle.std.specs.BTreeMap.{get_by_text}
use Rattle.scheme_model.specs.Program.{is_in}
use Rattle.document_units.proofs.BrokenLaws.{places_below}
use Rattle.document_units.proofs.CircleNames.{circle_places, no_places}
use Rattle.document_units.proofs.breaking.on_circles.Goals as goal

pub returns-in-Ok-clause-circles : goal.returns-in-Ok-clause-circles
returns-in-Ok-clause-circles c = λ spelled tells all are n p at.
    ap (is_in n) c.new.ensures ∙ no_places all (c.in-Ok.ensures.answers spelled tells all are).no_circle n p at

pub returns-in-Err-Cycle-clause-circles : goal.returns-in-Err-Cycle-clause-circles
returns-in-Err-Cycle-clause-circles c = λ spelled tells all are n p at.
    let find = λ (s : List ℕ). get_by_text c.args.firsts.now s in
    let told = rw c.in-Err-Cycle.field-0-is at (c.in-Err-Cycle.ensures.answers spelled tells all are) in
    ap (is_in n) c.in_ok-places_named-in-Err-Cycle.ensures ∙ circle_places spelled tells c.args.sources.now all are find c.requires.named c.as_slice.result.now (c.as_slice.ensures ∙ told.all_names) n p at

pub returns-in-Err-Cycle-clause-within : goal.returns-in-Err-Cycle-clause-within
returns-in-Err-Cycle-clause-within c = λ count below n i. places_below (λ s. get_by_text c.args.firsts.now s) count below c.as_slice.result.now n (sym (ap (is_in n) c.in_ok-places_named-in-Err-Cycle.ensures) ∙ i)
