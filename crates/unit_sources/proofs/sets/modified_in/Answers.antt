use Rattle.unit_sources.proofs.SetRows.{modified_is}
use Rattle.unit_sources.proofs.sets.modified_in.Goals as goal

pub returns-in-Parts-row_of : goal.returns-in-Parts-row_of
returns-in-Parts-row_of c =
    modified_is c.args.parts.now c.in-Parts.head.now c.in-Parts-row_of.inner.now c.in-Parts.behind.now c.in-Parts-row_of.rest.now c.symbol_in.result c.modifier_named.result c.modified_by.result c.in-Parts.ensures c.in-Parts-row_of.ensures
    c.symbol_in.ensures.word c.modifier_named.ensures c.modified_by.ensures
