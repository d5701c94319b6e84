-- Exports that are read are those of the definition: they tell by their places whether they are renamed.
use Rattle.std.proofs.Common.{ℕ, List, [], ◌∷◌, ◌∙◌}
use Rattle.std.specs.Prelude.{not}
use Rattle.scheme_model.specs.Declarations.{UnitForm}
use Rattle.scheme_model.specs.Program.{ExportSpec, exports_from}
use Rattle.import_sets.specs.Given.{same_place}
use Rattle.unit_sources.specs.Sources.{AreExports}
use Rattle.unit_sources.specs.UnitsRead.{AreExportsRead}
use Rattle.unit_sources.specs.declared.units.ExportSpec as code
use Rattle.document_units.proofs.RenamedLaws.{TellRenamed, AreDeclaredRead, renamed_from}

exports_told : (cs : List code.ExportSpec) (xs : List ExportSpec) → AreExportsRead cs xs → TellRenamed xs → AreExports cs xs
exports_told [] [] h k = tt
exports_told [] (x ∷ xs) h k = absurd h
exports_told (c ∷ cs) [] h k = absurd h
exports_told (c ∷ cs) (x ∷ xs) h k =
    (record { form = h.0.form; inner = h.0.inner; outer = h.0.outer; renamed = (λ j. not (same_place (h.0.inner j).occ (h.0.outer j).occ)) ∙ k.0 }, exports_told cs xs h.1 k.1)

pub exports_read : (cs : List code.ExportSpec) (unit : ℕ) (fs : List UnitForm) → AreDeclaredRead fs → AreExportsRead cs (exports_from unit 0 fs) → AreExports cs (exports_from unit 0 fs)
exports_read cs unit fs w h = exports_told cs (exports_from unit 0 fs) h (renamed_from unit 0 fs w)
