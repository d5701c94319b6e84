-- Entries of the code that stand for some, and each name once (R7RS 5.2, 5.6.1).
use Rattle.std.specs.Prelude.{◌≡◌, ℕ, List, [], ◌∷◌, false, slice_get, Option, Some}
use Rattle.scheme_model.specs.Entries as model
use Rattle.syntax_tree.specs.Names.{Names}
use Rattle.syntax_tree.specs.Meant.{AreEntries}
use Rattle.syntax_tree.specs.declared.units.Entry.{Entry}
use Rattle.import_sets.specs.Given.{has_name}
use Rattle.unit_imports.specs.declared.expanded.Expanded.{Expanded}

-- entries of the code that stand for some
abbrev pub HaveMeaning : Names → List Entry → Type 0
HaveMeaning names es = (ds : List model.Entry) × AreEntries names es ds

-- each name stands once
abbrev pub EachOnce : List Entry → Type 0
EachOnce [] = Unit {0}
EachOnce (e ∷ es) = (has_name es e.name ≡ false) × EachOnce es

-- what the units export that were expanded
abbrev pub ExportsMean : Names → List (Option Expanded) → Type 0
ExportsMean names all = (n : ℕ) (e : Expanded) → slice_get all n ≡ Some (Some e) → HaveMeaning names e.exports
