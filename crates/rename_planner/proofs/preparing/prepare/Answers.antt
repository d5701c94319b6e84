use Rattle.std.proofs.Common.{None, Some, sym, subst, ◌∙◌}
use Rattle.std.specs.FinMap.{entries}
use Rattle.program_answers.proofs.TextLists.{some_row}
use Rattle.rename_planner.proofs.PrepareLaws.{prepared_alone, prepared_exactly, IsPrepared}
use Rattle.rename_planner.proofs.preparing.prepare.Goals as goal

pub returns-in-Prepared-clause-refused : goal.returns-in-Prepared-clause-refused
returns-in-Prepared-clause-refused c = λ r new is.
    let row = some_row (entries c.args.ws.now.texts) in
    prepared_exactly r is c.args.ws.now.encoding c.args.ws.now.texts row.0 row.1 c.args.uri.now c.args.position new _ (sym c.in-Prepared.is ∙ c.in_ok-range.ensures row.0 row.1)

pub returns-in-Nothing-clause-refused : goal.returns-in-Nothing-clause-refused
returns-in-Nothing-clause-refused c = λ r new is.
    let row = some_row (entries c.args.ws.now.texts) in
    prepared_exactly r is c.args.ws.now.encoding c.args.ws.now.texts row.0 row.1 c.args.uri.now c.args.position new _ (sym c.in-Nothing.is ∙ c.in_ok-range.ensures row.0 row.1)

pub returns-in-Places-clause-refused : goal.returns-in-Places-clause-refused
returns-in-Places-clause-refused c = λ r new is.
    let row = some_row (entries c.args.ws.now.texts) in
    absurd (subst IsPrepared c.in-Places.is (prepared_alone r is c.args.ws.now.encoding c.args.ws.now.texts row.0 row.1 c.args.uri.now c.args.position new _ (c.in_ok-range.ensures row.0 row.1)))

pub returns-in-Highlights-clause-refused : goal.returns-in-Highlights-clause-refused
returns-in-Highlights-clause-refused c = λ r new is.
    let row = some_row (entries c.args.ws.now.texts) in
    absurd (subst IsPrepared c.in-Highlights.is (prepared_alone r is c.args.ws.now.encoding c.args.ws.now.texts row.0 row.1 c.args.uri.now c.args.position new _ (c.in_ok-range.ensures row.0 row.1)))

pub returns-in-Arrows-clause-refused : goal.returns-in-Arrows-clause-refused
returns-in-Arrows-clause-refused c = λ r new is.
    let row = some_row (entries c.args.ws.now.texts) in
    absurd (subst IsPrepared c.in-Arrows.is (prepared_alone r is c.args.ws.now.encoding c.args.ws.now.texts row.0 row.1 c.args.uri.now c.args.position new _ (c.in_ok-range.ensures row.0 row.1)))

pub returns-clause-refused : goal.returns-clause-refused
returns-clause-refused c = λ r new is.
    let row = some_row (entries c.args.ws.now.texts) in
    absurd (subst IsPrepared c.in-Edits.is (prepared_alone r is c.args.ws.now.encoding c.args.ws.now.texts row.0 row.1 c.args.uri.now c.args.position new _ (c.in_ok-range.ensures row.0 row.1)))
