-- What answers about open documents are taken from.
use Rattle.std.specs.Prelude.{ℕ, List, filter, map}
use Rattle.std.specs.FinMap.{entries}
use Rattle.document_store.specs.Texts.{Texts}
use Rattle.scheme_model.specs.declared.Occ.{Occ}
use Rattle.scheme_model.specs.Entries.{same_occ}
use Rattle.scheme_model.specs.Program.{units_of}
use Rattle.arrow_index.specs.declared.classes.ClassPart.{ClassPart}
use Rattle.arrow_index.specs.Index.{IsIndexOf}
use Rattle.arrow_index.specs.declared.index.Index.{Index}
use Rattle.read_documents.specs.Readings.{Read, AreReadAs, documents_in, program_in}

-- documents that are read so, and the index of their program
pub record IsSource (texts : Texts) (rs : List Read) (i : Index) : Type 0 where
  pub read : AreReadAs (entries texts) rs
  pub index : IsIndexOf (units_of (documents_in rs)) (program_in rs) i

-- the prefixes of an occurrence among parts
abbrev pub own_prefixes : List ClassPart → Occ → List (List ℕ)
own_prefixes ps o = map (λ (p : ClassPart). p.prefix) (filter (λ (p : ClassPart). same_occ p.occ o) ps)
