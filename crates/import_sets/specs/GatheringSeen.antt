-- What is gathered, as a list of entries and a list of names.
use Rattle.import_sets.specs.declared.gather.Gathering.{Gathering}
use Rattle.import_sets.specs.Given.{Gathered}

abbrev pub seen : Gathering → Gathered
seen g = record { groups = g.groups.items; clashes = g.clashes.items }
