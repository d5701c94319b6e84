-- What an import set of a unit comes to, as the code keeps it.
use Rattle.syntax_tree.specs.Names.{Names}
use Rattle.unit_imports.specs.declared.entries.SetGives.{SetGives}
use Rattle.unit_imports.specs.declared.entries.SetGives.TheVariants as gives
use Rattle.unit_imports.specs.EntriesMeant.{HaveMeaning}

abbrev pub SetMeans : Names → SetGives → Type 0
SetMeans names (gives.Entries es) = HaveMeaning names es
SetMeans names gives.Unknown = Unit {0}
SetMeans names (gives.Faulty f) = Unit {0}
