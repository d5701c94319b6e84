-- What exports give, over the entries of the code: the exports in written order, with the external names before each.
use Rattle.std.specs.Prelude.{ℕ, suc, List, [], ◌∷◌, ◌++◌, Bool, Option, Some, None, if◌then◌else◌}
use Rattle.std.specs.List.{list_any}
use Rattle.std.specs.Str.{bytes_eq}
use Rattle.syntax_tree.specs.declared.units.Entry.{Entry}
use Rattle.import_sets.specs.Given.{same_place, renamed}
use Rattle.unit_sources.specs.declared.units.ExportSpec.{ExportSpec}
use Rattle.unit_sources.specs.declared.fault.LibraryFault.TheVariants.{NotDefined, SameExport}
use Rattle.unit_sources.specs.declared.exported.Export.{Export}
use Rattle.unit_sources.specs.declared.exported.Export.TheVariants.{Given, Refused}
use Rattle.unit_sources.specs.declared.exporting.Exports.{Exports}

-- the first entry with a name
abbrev pub entry_named : List ℕ → List Entry → Option Entry
entry_named s [] = None
entry_named s (e ∷ es) = if bytes_eq e.name s then Some e else entry_named s es

abbrev pub exported : ExportSpec → Entry → Entry
exported x e = if same_place x.inner.occ x.outer.occ then record { name = x.outer.name; meaning = e.meaning; origins = e.origins } else renamed e x.outer

abbrev pub export_one : Bool → ExportSpec → Option Entry → Export
export_one again x None = Refused (NotDefined x.inner.name)
export_one again x (Some e) = if again then Refused (SameExport x.outer.name) else Given (exported x e)

abbrev pub has_outer : List ExportSpec → List ℕ → Bool
has_outer xs s = list_any (λ (x : ExportSpec). bytes_eq x.outer.name s) xs

abbrev pub no_exports : Exports
no_exports = record { entries = []; faults = [] }

abbrev pub put_export : ℕ → Exports → Export → Exports
put_export n r (Given e) = record { entries = r.entries ++ e ∷ []; faults = r.faults }
put_export n r (Refused f) = record { entries = r.entries; faults = r.faults ++ record { place = n; fault = f } ∷ [] }

-- what the exports from a place on add to what those before gave
abbrev pub put_all : List Entry → Exports → List ExportSpec → ℕ → List ExportSpec → Exports
put_all es r before n [] = r
put_all es r before n (x ∷ xs) =
    put_all es (put_export n r (export_one (has_outer before x.outer.name) x (entry_named x.inner.name es))) (before ++ x ∷ []) (suc n) xs
