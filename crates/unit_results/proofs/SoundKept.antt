-- Units stay sound while their heads and their sources stay.
use Rattle.std.proofs.Common.{◌≡◌, ◌<◌, ℕ, zero, suc, List, [], ◌∷◌, length, slice_get, Some, refl, sym, ap, ◌∙◌, subst, arith}
use Rattle.std.proofs.lemmas.Option.{same_Some}
use Rattle.unit_sources.specs.UnitsRead.{forms_of}
use Rattle.unit_sources.specs.declared.units.UnitForm as code_form
use Rattle.unit_sources.specs.declared.units.UnitSource.{UnitSource}
use Rattle.syntax_tree.proofs.Places.{none_some}
use Rattle.read_documents.specs.declared.heads.Head.{Head}
use Rattle.document_units.specs.declared.listing.Units.{Units}
use Rattle.read_documents.specs.Places.{HeadsStay, AreHeadsIn}
use Rattle.read_documents.specs.WereRead.{WereRead, AreSourcesRead}
use Rattle.document_units.specs.Sound.{IsSound}
use Rattle.read_documents.specs.Broken.{SourcesStay}
use Rattle.document_units.proofs.BrokenLaws.{heads_in}
use Rattle.unit_imports.proofs.MeaningLaws.{there}

-- the forms of a unit that was read
pub source_read : (ss : List UnitSource) (n : ℕ) (s : UnitSource) → AreSourcesRead ss → slice_get ss n ≡ Some s → WereRead (forms_of s.forms)
source_read [] n s are at = none_some s at
source_read (r ∷ ss) zero s are at = subst (λ (x : UnitSource). WereRead (forms_of x.forms)) (same_Some r s at) are.0
source_read (r ∷ ss) (suc n) s are at = source_read ss n s are.1 at

all_read : (ss : List UnitSource) → ((n : ℕ) (s : UnitSource) → slice_get ss n ≡ Some s → WereRead (forms_of s.forms)) → AreSourcesRead ss
all_read [] h = tt
all_read (s ∷ ss) h = (h 0 s refl, all_read ss (λ n t at. h (suc n) t at))

pub sources_read : (old new : List UnitSource) → SourcesStay old new → AreSourcesRead old → AreSourcesRead new
sources_read old new stay are =
    all_read new
    (λ n t at.
    let r = stay.each n t at in
    subst (λ (fs : List code_form.UnitForm). WereRead (forms_of fs)) (sym r.1.1.forms) (source_read old n r.0 are r.1.0))

pub sound_kept : (count : ℕ) (u v : Units) → HeadsStay u.heads.items v.heads.items → SourcesStay u.sources.items v.sources.items → IsSound count u → IsSound count v
sound_kept count u v heads sources is = record {
  heads = heads_in count u.heads.items v.heads.items heads is.heads;
  sources = sources.size ∙ is.sources ∙ sym heads.size;
  few = (let same = heads.size in let few = is.few in omega arith);
  read = sources_read u.sources.items v.sources.items sources is.read;
}

-- the same, where the sources are the same
pub sound_with : (count : ℕ) (u v : Units) → HeadsStay u.heads.items v.heads.items → v.sources.items ≡ u.sources.items → IsSound count u → IsSound count v
sound_with count u v heads sources is = record {
  heads = heads_in count u.heads.items v.heads.items heads is.heads;
  sources = ap (λ (ss : List UnitSource). length ss) sources ∙ is.sources ∙ sym heads.size;
  few = (let same = heads.size in let few = is.few in omega arith);
  read = subst AreSourcesRead (sym sources) is.read;
}

-- a unit that there is stands in a document
pub some_document : (count : ℕ) (hs : List Head) (n : ℕ) → AreHeadsIn count hs → n < length hs → 0 < count
some_document count hs n are lt = let h = there hs n lt in let below = are n h.0 h.1 in omega arith
