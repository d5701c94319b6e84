-- The open documents with their program, and what a rename of an identifier comes to in them: its class, the units in reach, the edits,
-- the edited texts, and what the program is compared by.
use Rattle.std.specs.Prelude.{ℕ, suc, List, [], ◌∷◌, map, filter, Bool, true, false, Option, Some, None, if◌then◌else◌}
use Rattle.std.specs.List.{flat_map}
use Rattle.scheme_model.specs.declared.Occ.{Occ}
use Rattle.scheme_model.specs.Diagnostics.{Bytes, Span, bytes_of}
use Rattle.scheme_model.specs.Entries.{Entry}
use Rattle.scheme_model.specs.Includes.{Document}
use Rattle.scheme_model.specs.IncludedUnits.{Placed}
use Rattle.scheme_model.specs.Program.{UnitResult, Program, program_of, units_of}
use Rattle.scheme_model.specs.Spelling.{Link, links_of, class_of, is_member}
use Rattle.rename_model.specs.Reach.{in_reach}
use Rattle.rename_model.specs.SameProgram.{ExportChange, Plan, external_occ}
use Rattle.text_edits.specs.Edits.{Edit, edited}
use Rattle.text_edits.specs.Members.{class_edits, is_part, member_of}
use Rattle.rename_conditions.specs.Readers.{Reading, Reader, data_in, spans_in}

-- the uris and the texts of documents in their order, how each reads, and their program with its links
pub record Opened : Type 0 where
  pub uris : List (List ℕ)
  pub texts : List (List ℕ)
  pub readings : List (Option Reading)
  pub units : List Placed
  pub program : Program
  pub links : List Link

-- documents from a number on, by what strings mean in each
abbrev pub documents_from : (ℕ → List ℕ → Option ℕ) → ℕ → List (Option Reading) → List Document
documents_from meant n [] = []
documents_from meant n (r ∷ rs) = record { read = data_in r; meant = meant n } ∷ documents_from meant (suc n) rs

abbrev pub documents_read : Reader → (uris : List (List ℕ)) → List (List ℕ) → List Document
documents_read r uris texts = documents_from (r.meant uris) 0 (map r.read texts)

abbrev pub program_read : Reader → (uris : List (List ℕ)) → List (List ℕ) → Program
program_read r uris texts = program_of (documents_read r uris texts)

abbrev pub opened : Reader → (uris : List (List ℕ)) → List (List ℕ) → Opened
opened r uris texts =
    let documents = documents_read r uris texts in
    let units = units_of documents in
    let program = program_of documents in record {
      uris = uris;
      texts = texts;
      readings = map r.read texts;
      units = units;
      program = program;
      links = links_of units program;
    }

-- the bytes of the tokens of each document
abbrev pub spans_read : Opened → List (List Span)
spans_read w = map spans_in w.readings

abbrev pub place_of : Opened → Occ → Bytes
place_of w o = bytes_of (spans_read w) w.program.units o

-- ---- the class of an identifier

-- its members, each of which has a prefix
abbrev pub class_in : Opened → Occ → List Occ
class_in w o = filter (is_part w.links) (class_of w.links o)

-- the units with an occurrence of the class, and those that import them, directly or not
abbrev pub reach_in : Opened → Occ → List ℕ
reach_in w o = in_reach w.program.units (class_in w o)

-- ---- its edits, by the new stem

pub record DocEdits : Type 0 where
  pub document : ℕ
  pub edits : List Edit

-- those of the documents from a number on
abbrev pub edits_from : Opened → Occ → (stem : List ℕ) → ℕ → List (List ℕ) → List (Option Reading) → List DocEdits
edits_from w o stem n [] rs = []
edits_from w o stem n (text ∷ texts) [] = []
edits_from w o stem n (text ∷ texts) (r ∷ rs) =
    record { document = n; edits = class_edits w.links w.program.units stem o n text (spans_in r) } ∷ edits_from w o stem (suc n) texts rs

abbrev pub edits_in : Opened → Occ → (stem : List ℕ) → List DocEdits
edits_in w o stem = edits_from w o stem 0 w.texts w.readings

abbrev pub all_edited : List DocEdits → List (List ℕ) → List (List ℕ)
all_edited [] texts = texts
all_edited (e ∷ es) [] = []
all_edited (e ∷ es) (text ∷ texts) = edited e.edits text ∷ all_edited es texts

abbrev pub edited_in : Opened → Occ → (stem : List ℕ) → List (List ℕ)
edited_in w o stem = all_edited (edits_in w o stem) w.texts

abbrev pub are_some : List Edit → Bool
are_some [] = false
are_some (e ∷ es) = true

-- the edits of the documents that have some
abbrev pub told_edits : List DocEdits → List DocEdits
told_edits es = filter (λ (e : DocEdits). are_some e.edits) es

-- ---- what is asked to change

-- what a unit exports under a name that is a member has its new name
abbrev pub export_change : Opened → Occ → (stem : List ℕ) → UnitResult → Entry → List ExportChange
export_change w o stem r e = by_place (external_occ r.unit.exports e.name)
  where
    by_place : Option Occ → List ExportChange
    by_place None = []
    by_place (Some p) =
        if is_member (class_in w o) p then record { unit = r.unit.number; old = e.name; new = (member_of w.links stem p).name } ∷ [] else []

abbrev pub export_changes : Opened → Occ → (stem : List ℕ) → List ExportChange
export_changes w o stem = flat_map (λ (r : UnitResult). flat_map (export_change w o stem r) r.exports) w.program.units

abbrev pub plan_in : Opened → Occ → (stem : List ℕ) → Plan
plan_in w o stem = record { members = class_in w o; exports = export_changes w o stem }
