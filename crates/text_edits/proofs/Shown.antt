-- What a rename of the identifier at an offset of a document edits, in the notation of rows.
use Rattle.std.specs.Prelude.{ℕ, suc, List, [], ◌∷◌, Option, Some, None}
use Rattle.scheme_model.specs.declared.Occ.{Occ}
use Rattle.scheme_model.specs.Diagnostics.{Span}
use Rattle.scheme_model.specs.Program.{UnitResult, program_of, units_of}
use Rattle.scheme_model.specs.Sites.{name_at}
use Rattle.scheme_model.specs.Spelling.{Link, links_of}
use Rattle.scheme_model.proofs.Shown.{Texts, alone}
use Rattle.text_edits.specs.Edits.{Edit}
use Rattle.text_edits.specs.Members.{class_edits, prefix_of, stem_of}

abbrev all_documents : List Link → List UnitResult → (stem : List ℕ) → Occ → ℕ → List (List ℕ) → List (List Span) → List (List Edit)
all_documents ls us stem o n [] spans = []
all_documents ls us stem o n (text ∷ texts) [] = []
all_documents ls us stem o n (text ∷ texts) (ss ∷ spans) = class_edits ls us stem o n text ss ∷ all_documents ls us stem o (suc n) texts spans

abbrev by_stem : List Link → List UnitResult → Occ → List (List ℕ) → List (List Span) → Option (List ℕ) → List (List Edit)
by_stem ls us o texts spans None = []
by_stem ls us o texts spans (Some stem) = all_documents ls us stem o 0 texts spans

abbrev by_occ : List Link → List UnitResult → List (List ℕ) → List (List Span) → List ℕ → Option Occ → List (List Edit)
by_occ ls us texts spans symbol None = []
by_occ ls us texts spans symbol (Some o) = by_stem ls us o texts spans (stem_of (prefix_of ls o) symbol)

-- the edits of each document; none where no identifier stands there, or the new name loses its prefix
abbrev pub edit_rows : List (List Span) → Texts → List (List ℕ) → (document offset : ℕ) → List ℕ → List (List Edit)
edit_rows spans readings texts document offset symbol =
    let ds = alone readings in let p = program_of ds in by_occ (links_of (units_of ds) p) p.units texts spans symbol (name_at spans p.units document offset)
