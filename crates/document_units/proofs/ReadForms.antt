-- The forms of units were read, where the data of all documents were, also those that are declarations, and those of included texts.
use Rattle.std.proofs.Common.{◌≡◌, ℕ, zero, suc, List, [], ◌∷◌, map, Bool, true, false, Option, Some, None, Ok, refl, subst, cond, filter, arith}
use Rattle.scheme_model.specs.Data.{Place, Datum}
use Rattle.scheme_model.specs.Declarations.{UnitForm, plain_form, behind_head, UnitKind}
use Rattle.scheme_model.specs.Included.{Homed, FlatForm, Listing, Lists, BadAfter, TooLong, Texts, Sources, inside, forms_of, homed_from, included_data, all_texts}
use Rattle.scheme_model.specs.IncludedUnits.{source_by, unit_form, own, library_listing, importing}
use Rattle.scheme_model.specs.Includes.{program_data, program_number}
use Rattle.scheme_model.specs.Requirements.{LibraryName, Known}
use Rattle.datum_reader.specs.WellFormed.{IsIn, WasRead}
use Rattle.datum_reader.proofs.ReadParts.{part_was_read}
use Rattle.datum_reader.specs.declared.datum.Datum as code
use Rattle.datum_reader.specs.Views.{data_of}
use Rattle.read_documents.specs.DataRead.{AllRead, DocumentsRead, DataWereRead, data_at}
use Rattle.read_documents.specs.WereRead.{WereRead, IsInHome, FormsRead}
use Rattle.document_units.proofs.ListedForms.{AllSuch, FormsSuch, Gives, TextsGive, library_such, program_such, all_texts_such}
use Rattle.document_units.proofs.RisingParts.{part_behind}

pub were_read : (fs : List UnitForm) → FormsRead fs → WereRead fs
were_read [] h = tt
were_read (f ∷ fs) h = (λ _. h.0.0, were_read fs h.1)

-- ---- data with their homes

abbrev IsRead : Homed → Type 0
IsRead h = WasRead h.datum × IsInHome h.home h.datum

abbrev pub GivesRead : Listing → Type 0
GivesRead l = Gives IsRead l

abbrev pub TextsRead : Texts → Type 0
TextsRead t = TextsGive IsRead t

in_home : (h : Homed) (e : Datum) → IsIn e h.datum → IsRead h → IsRead (inside h e)
in_home h e i q = (part_was_read e h.datum i q.0, go h.home q.1)
  where
    go : (o : _) → IsInHome o h.datum → IsInHome o e
    go None k = tt
    go (Some k) le = omega (arith, le, part_behind e h.datum i q.0)

-- what a library lists
pub library_read : (t : Texts) → TextsRead t → (known : Known) (n : ℕ) (d : Datum) → WasRead d → GivesRead (library_listing t known (own n d) (behind_head d))
library_read t read known n d w = library_such IsRead in_home t read known n d (w, tt)

own_read : (n : ℕ) (ds : List Datum) → AllRead ds → AllSuch IsRead (map (own n) ds)
own_read n [] h = tt
own_read n (d ∷ ds) h = ((h.0, tt), own_read n ds h.1)

-- what a program lists
pub program_read : (t : Texts) → TextsRead t → (n : ℕ) (ds : List Datum) → AllRead ds → GivesRead (importing (forms_of t (map (own n) ds)))
program_read t read n ds h = program_such IsRead in_home t read n ds (own_read n ds h)

-- ---- what documents give

filter_read : (p : Datum → Bool) (ds : List Datum) → AllRead ds → AllRead (filter p ds)
filter_read p [] h = tt
filter_read p (d ∷ ds) h = elim (p d) as (λ b. AllRead (cond b (d ∷ filter p ds) (filter p ds))) [ true ↦ (h.0, filter_read p ds h.1) | false ↦ filter_read p ds h.1 ]

pub program_data_read : (ds : List Datum) → AllRead ds → AllRead (program_data ds)
program_data_read ds h = filter_read _ ds h

homed_read : (n unit form : ℕ) (ds : List Datum) → AllRead ds → AllSuch IsRead (homed_from n unit form ds)
homed_read n unit form [] h = tt
homed_read n unit form (d ∷ ds) h = ((h.0, omega arith), homed_read n unit (suc form) ds h.1)

included_read : (o : Sources) → DocumentsRead o.documents → (n : ℕ) → AllSuch IsRead (included_data o.documents n)
included_read o documents n = homed_read n (program_number o.documents n) 0 (program_data (data_at o.documents n)) (program_data_read (data_at o.documents n) (documents n))

pub all_texts_read : (o : Sources) → DocumentsRead o.documents → TextsRead (all_texts o)
all_texts_read o documents = all_texts_such IsRead in_home o (included_read o documents)

-- ---- units

flat_read : (fs : List FlatForm) → FormsSuch IsRead fs → FormsRead (map unit_form fs)
flat_read [] h = tt
flat_read (f ∷ fs) h = (h.0, flat_read fs h.1)

-- the forms of a unit by what it lists
pub source_read : (kind : UnitKind) (name : Option LibraryName) (start : Place) (l : Listing) (fs : List UnitForm) → GivesRead l → (source_by kind name start l).forms ≡ Ok fs → FormsRead fs
source_read kind name start (Lists n gs ls) fs h is = let same : map unit_form gs ≡ fs = cc in subst FormsRead same (flat_read gs h)
source_read kind name start (BadAfter n x) fs h is = absurd cc
source_read kind name start TooLong fs h is = absurd cc

-- those of a part
pub plain_read : (ds : List Datum) → AllRead ds → FormsRead (map plain_form ds)
plain_read [] h = tt
plain_read (d ∷ ds) h = ((h.0, tt), plain_read ds h.1)

pub all_read : (ds : List code.Datum) → DataWereRead ds → AllRead (data_of ds)
all_read [] h = tt
all_read (d ∷ ds) h = (h zero d refl, all_read ds (λ n e is. h (suc n) e is))
