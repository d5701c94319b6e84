-- What a unit came to, put together of its forms and the rest.
use Rattle.std.specs.Prelude.{List}
use Rattle.core_tree.specs.declared.units.UnitForm.{UnitForm}
use Rattle.unit_imports.specs.declared.expanded.Expanded.{Expanded}
use Rattle.unit_imports.specs.declared.expanded.Rest.{Rest}

abbrev pub with_forms : Rest → List UnitForm → Expanded
with_forms r fs = record { entries = r.entries; forms = fs; names = r.names; seconds = r.seconds; exports = r.exports; findings = r.findings }
