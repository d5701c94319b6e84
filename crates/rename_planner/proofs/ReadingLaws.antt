-- The macro uses of documents that are read so.
use Rattle.std.proofs.Common.{◌≡◌, ℕ, List, ap}
use Rattle.document_store.specs.Texts.{Document}
use Rattle.read_documents.specs.Readings.{Read, AreReadAs, uses_in}
use Rattle.macro_uses.specs.MacroUses.{program_uses}
use Rattle.rename_conditions.specs.Readers.{Reader, IsReader}
use Rattle.rename_answers.specs.ToldRenames.{texts_of, text_uses, uris_of}
use Rattle.rename_answers.proofs.ReadersAgree.{documents_are}

pub uses_one : (r : Reader) → IsReader r → (ds : List (List ℕ × Document)) (rs : List Read) → AreReadAs ds rs → text_uses r (uris_of ds) (texts_of ds) ≡ uses_in rs
uses_one r is ds rs h = ap program_uses (documents_are r is ds rs h)
