-- The units that a change of some occurrences reaches: those of which a form holds one, and those that import a unit in reach. A unit
-- behind the most units has no part in this.
use Rattle.std.specs.Prelude.{ℕ, zero, suc, nat_le, nat_lt, List, [], ◌∷◌, map, filter, length, Bool, not, ◌&&◌, if◌then◌else◌}
use Rattle.std.specs.List.{list_any}
use Rattle.scheme_model.specs.declared.Occ.{Occ}
use Rattle.scheme_model.specs.Declarations.{UnitForm, unit_or, one_holds, is_part_kind}
use Rattle.scheme_model.specs.Includes.{max_units}
use Rattle.scheme_model.specs.Program.{UnitResult, is_in}
use Rattle.scheme_model.specs.Diagnostics.{document_of}

-- a part is reached through the units that include it
abbrev pub is_reachable : UnitResult → Bool
is_reachable r = not (is_part_kind r.unit.placed.source.kind) && nat_lt r.unit.number max_units

-- a form of the unit holds one of these occurrences
abbrev pub holds_one : List Occ → UnitResult → Bool
holds_one os r = is_reachable r && list_any (one_holds r.unit.number 0 r.unit.forms) os

abbrev pub imports_of : UnitResult → List ℕ
imports_of r = if nat_le max_units r.unit.number then [] else r.unit.imports

abbrev pub imports_one : List ℕ → UnitResult → Bool
imports_one ns r = list_any (λ n. is_in n ns) (imports_of r)

-- units with those that import one of them
abbrev pub with_importers : List UnitResult → List ℕ → List ℕ
with_importers [] ns = ns
with_importers (r ∷ rs) ns = with_importers rs (if not (is_in r.unit.number ns) && imports_one ns r then r.unit.number ∷ ns else ns)

-- units with those that import them, directly or not, in so many steps
abbrev pub reaching : List UnitResult → ℕ → List ℕ → List ℕ
reaching rs zero ns = ns
reaching rs (suc steps) ns = reaching rs steps (with_importers rs ns)

abbrev pub unit_numbers : List UnitResult → List ℕ
unit_numbers rs = map (λ (r : UnitResult). r.unit.number) rs

-- these units and those that import them, in the order of the list
abbrev pub reach_of : List UnitResult → List UnitResult → List ℕ
reach_of rs found = let ns = reaching rs (length rs) (unit_numbers found) in filter (λ n. is_in n ns) (unit_numbers rs)

abbrev pub in_reach : List UnitResult → List Occ → List ℕ
in_reach rs os = reach_of rs (filter (holds_one os) rs)

-- ---- documents

-- a form of the unit is written in one of these documents
abbrev pub is_written_in : List UnitResult → List ℕ → UnitResult → Bool
is_written_in rs documents r = is_reachable r && list_any (λ (f : UnitForm). is_in (document_of rs (unit_or r.unit.number f.home)) documents) r.unit.forms

-- the units in reach of texts that change
abbrev pub in_reach_of_documents : List UnitResult → List ℕ → List ℕ
in_reach_of_documents rs documents = reach_of rs (filter (is_written_in rs documents) rs)
