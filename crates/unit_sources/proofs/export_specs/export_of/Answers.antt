use Rattle.datum_reader.specs.Views.{datum_of}
use Rattle.datum_reader.specs.Forms.{place}
use Rattle.unit_sources.proofs.ExportRows.{by_list}
use Rattle.unit_sources.proofs.export_specs.export_of.Goals as goal

pub returns-in-List : goal.returns-in-List
returns-in-List c = by_list c.args.number c.renamed_export.result (place c.args.home) c.in-List.parts.now c.in-List.field-1 (datum_of c.args.datum.now) c.in-List.ensures c.renamed_export.ensures
