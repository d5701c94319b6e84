use Rattle.std.proofs.Common.{sym, ap, ◌∙◌}
use Rattle.std.specs.Option.{option_map}
use Rattle.import_sets.specs.Sets.{named}
use Rattle.datum_reader.specs.Forms.{place}
use Rattle.datum_reader.specs.Looks.{tree_at}
use Rattle.unit_sources.proofs.ExportRows.{two_named}
use Rattle.unit_sources.proofs.export_specs.two_names.Goals as goal

pub returns : goal.returns
returns c = λ r ts end o.
    let at = place c.args.home in
    two_named c.args.number r (tree_at at c.args.inner.now) (tree_at at c.args.outer.now) ts end o c.in-Some.inner c.in-Some-2.outer (sym (ap (option_map named) c.in-Some.is) ∙ c.in_ok-inner.ensures)
    (sym (ap (option_map named) c.in-Some-2.is) ∙ c.in_ok-outer.ensures)
