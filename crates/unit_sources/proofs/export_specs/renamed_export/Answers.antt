use Rattle.datum_reader.specs.Forms.{place}
use Rattle.unit_sources.proofs.ExportRows.{by_parts}
use Rattle.unit_sources.proofs.export_specs.renamed_export.Goals as goal

pub returns-in-Parts-row_of-2 : goal.returns-in-Parts-row_of-2
returns-in-Parts-row_of-2 c =
    by_parts c.args.number c.two_names.result (place c.args.home) c.args.parts.now c.in-Parts.field-0.now c.in-Parts-row_of.inner.now c.in-Parts-row_of-2.outer.now c.in-Parts.behind.now c.in-Parts-row_of.rest.now c.in-Parts-row_of-2.field-1.now
    c.in-Parts.ensures c.in-Parts-row_of.ensures c.in-Parts-row_of-2.ensures c.two_names.ensures
