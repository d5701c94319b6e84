-- The new names of the parts of a class, and the identifiers and edits of documents, as the code keeps them.
use Rattle.std.specs.Prelude.{◌≡◌, ℕ, suc, ◌==◌, List, [], ◌∷◌, ◌++◌, map, Option, if◌then◌else◌}
use Rattle.scheme_model.specs.declared.Occ.{Occ}
use Rattle.scheme_model.specs.Program.{UnitResult}
use Rattle.scheme_model.specs.Spelling.{Link}
use Rattle.document_store.specs.Texts.{Document}
use Rattle.read_documents.specs.Readings.{Read, spans_in}
use Rattle.read_documents.specs.declared.heads.Head.{Head}
use Rattle.program_answers.specs.declared.classes.ClassPart.{ClassPart}
use Rattle.text_edits.specs.Edits.{Edit}
use Rattle.text_edits.specs.Members.{Identifier, Member, identifiers_of, members_of, name_at, name_of}
use Rattle.text_edits.specs.NewNames.{edits_of}
use Rattle.text_edits.specs.Views.{identifier_by}

-- each with its prefix and the new stem behind it
abbrev pub named_parts : (stem : List ℕ) → List ClassPart → List Member
named_parts stem parts = map (λ (p : ClassPart). record { occ = p.occ; name = p.prefix ++ stem }) parts

-- these are the new names of the members of a class
abbrev pub AreNamed : List Link → (stem : List ℕ) → Occ → (name : Occ → Option (List ℕ)) → Type 0
AreNamed ls stem at name = (o : Occ) → name o ≡ name_of (members_of ls stem at) o

-- those of the units of the document
abbrev pub identifiers_in : (document : ℕ) → List Head → List Identifier
identifiers_in document [] = []
identifiers_in document (h ∷ hs) = (if h.document == document then map (identifier_by h.firsts.items) h.names.items else []) ++ identifiers_in document hs

-- the edits of documents, whose numbers begin with one, by the new names of occurrences
abbrev pub edits_by : (name : Occ → Option (List ℕ)) → List UnitResult → (document : ℕ) → List (List ℕ × Document) → List Read → List (List Edit)
edits_by name us n [] rs = []
edits_by name us n (d ∷ ds) [] = []
edits_by name us n (d ∷ ds) (r ∷ rs) = edits_of (name_at name (identifiers_of n us)) d.1.1 (spans_in r) ∷ edits_by name us (suc n) ds rs
