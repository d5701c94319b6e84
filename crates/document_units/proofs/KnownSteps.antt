-- The names of libraries, one datum and one document more at a time.
use Rattle.std.proofs.Common.{◌≡◌, ℕ, ◌+◌, ◌<◌, Bool, true, false, cond, List, [], ◌∷◌, ◌++◌, map, take, length, get_or, Option, Some, None, refl, sym, ap, ◌∙◌, append_assoc, append-nil}
use Rattle.std.specs.Option.{option_map, option_to_list}
use Rattle.std.proofs.lemmas.List.{map_more, map-append, take_more}
use Rattle.scheme_model.specs.Data.{Datum}
use Rattle.scheme_model.specs.Declarations.{is_library, library_name, library_names}
use Rattle.scheme_model.specs.Includes as model
use Rattle.scheme_model.specs.Program as program
use Rattle.scheme_model.specs.Requirements.{LibraryName}
use Rattle.scheme_tokens.specs.LibraryNames.{library_text}
use Rattle.datum_reader.specs.declared.datum.Datum as code
use Rattle.datum_reader.specs.Views.{datum_of, data_of}
use Rattle.read_documents.specs.DataRead.{HaveData}
use Rattle.document_units.specs.KnownNames.{name_in}
use Rattle.read_documents.specs.declared.documents.Document.{Document}

-- ---- the names among data

named_first : (d : Datum) (ds : List Datum) (b : Bool) → is_library d ≡ b → (o : Option LibraryName) → library_name d ≡ o → library_names (d ∷ ds) ≡ option_to_list (name_in d) ++ library_names ds
named_first d ds true e None f = rw (e, f) refl
named_first d ds true e (Some n) f = rw (e, f) refl
named_first d ds false e o f = rw e refl

one_first : (d : Datum) (ds : List Datum) → library_names (d ∷ ds) ≡ option_to_list (name_in d) ++ library_names ds
one_first d ds = named_first d ds (is_library d) refl (library_name d) refl

one_last : (ds : List Datum) (d : Datum) → library_names (ds ++ d ∷ []) ≡ library_names ds ++ option_to_list (name_in d)
one_last [] d = one_first d [] ∙ append-nil (option_to_list (name_in d))
one_last (e ∷ ds) d =
    one_first e (ds ++ d ∷ []) ∙ ap (λ (ns : List LibraryName). option_to_list (name_in e) ++ ns) (one_last ds d)
    ∙ sym (append_assoc (option_to_list (name_in e)) (library_names ds) (option_to_list (name_in d)))
    ∙ ap (λ (ns : List LibraryName). ns ++ option_to_list (name_in d)) (sym (one_first e ds))

texts_listed : (o : Option LibraryName) → map library_text (option_to_list o) ≡ option_to_list (option_map library_text o)
texts_listed None = refl
texts_listed (Some n) = refl

abbrev pub names_at : List code.Datum → List (List ℕ)
names_at ds = map library_text (library_names (data_of ds))

-- one datum more
pub names_more : (ds : List code.Datum) (k : ℕ) (d : code.Datum) (old : List (List ℕ)) (o : Option (List ℕ)) → k < length ds → d ≡ get_or ds k d → o ≡ option_map library_text (name_in (datum_of d)) →
    (old ++ names_at (take k ds)) ++ option_to_list o ≡ old ++ names_at (take (k + 1) ds)
names_more ds k d old o low is name =
    let more : data_of (take (k + 1) ds) ≡ data_of (take k ds) ++ datum_of d ∷ [] =
    map_more datum_of ds k d low ∙ ap (λ (e : code.Datum). data_of (take k ds) ++ datum_of e ∷ []) (sym is) in
    append_assoc old (names_at (take k ds)) (option_to_list o)
    ∙ ap (λ (ts : List (List ℕ)). old ++ ts)
    (ap (λ (q : Option (List ℕ)). names_at (take k ds) ++ option_to_list q) name
    ∙ ap (λ (ts : List (List ℕ)). names_at (take k ds) ++ ts) (sym (texts_listed (name_in (datum_of d))))
    ∙ sym (map-append library_text (library_names (data_of (take k ds))) (option_to_list (name_in (datum_of d))))
    ∙ ap (map library_text) (sym (one_last (data_of (take k ds)) (datum_of d)) ∙ ap library_names (sym more)))

-- ---- the names of documents

abbrev pub names_of : List Document → List LibraryName
names_of [] = []
names_of (c ∷ cs) = library_names (data_of c.items) ++ names_of cs

abbrev pub texts_of : List Document → List (List ℕ)
texts_of cs = map library_text (names_of cs)

pub names_given : (ds : List model.Document) (cs : List Document) → HaveData ds cs → names_of cs ≡ program.all_names ds
names_given [] [] h = refl
names_given [] (c ∷ cs) h = absurd cc
names_given (d ∷ ds) [] h = absurd cc
names_given (d ∷ ds) (c ∷ cs) h =
    let first : model.data_of d ≡ data_of c.items = cc in
    let rest : HaveData ds cs = cc in
    (λ j. library_names (sym first j) ++ names_given ds cs rest j)

document_last : (cs : List Document) (c : Document) → names_of (cs ++ c ∷ []) ≡ names_of cs ++ library_names (data_of c.items)
document_last [] c = append-nil (library_names (data_of c.items))
document_last (b ∷ cs) c =
    ap (λ (ns : List LibraryName). library_names (data_of b.items) ++ ns) (document_last cs c)
    ∙ sym (append_assoc (library_names (data_of b.items)) (names_of cs) (library_names (data_of c.items)))

-- one document more
pub documents_more : (cs : List Document) (k : ℕ) (c : Document) (old : List (List ℕ)) → k < length cs → c ≡ get_or cs k c → (old ++ texts_of (take k cs)) ++ names_at c.items ≡ old ++ texts_of (take (k + 1) cs)
documents_more cs k c old low is =
    let more : take (k + 1) cs ≡ take k cs ++ c ∷ [] = take_more cs k c low ∙ ap (λ (b : Document). take k cs ++ b ∷ []) (sym is) in
    append_assoc old (texts_of (take k cs)) (names_at c.items)
    ∙ ap (λ (ts : List (List ℕ)). old ++ ts)
    (sym (map-append library_text (names_of (take k cs)) (library_names (data_of c.items))) ∙ ap (map library_text) (sym (document_last (take k cs) c) ∙ ap names_of (sym more)))

-- ---- one datum's name

-- a datum that is a library, or isn't
pub library_named : (d : Datum) → true ≡ is_library d → library_name d ≡ name_in d
library_named d e = ap (λ (b : Bool). cond b (library_name d) None) e

pub not_named : (d : Datum) → false ≡ is_library d → None ≡ name_in d
not_named d e = ap (λ (b : Bool). cond b (library_name d) None) e
