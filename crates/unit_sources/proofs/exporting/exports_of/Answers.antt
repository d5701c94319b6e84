use Rattle.std.proofs.Common.{[], ap, ◌∙◌}
use Rattle.unit_sources.specs.Exported.{no_exports, put_all}
use Rattle.unit_sources.proofs.ExportLaws.{all_exports}
use Rattle.unit_sources.proofs.exporting.exports_of.Goals as goal

pub returns : goal.returns
returns c table es are find finds xs same =
    all_exports table c.args.names.now es find are finds c.args.source.now.exports xs same c.in_ok-given_all.field-0 (c.in_ok-given_all.ensures ∙ ap (put_all c.args.names.now no_exports [] 0) c.as_slice.ensures)
