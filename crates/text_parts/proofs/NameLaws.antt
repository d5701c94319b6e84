-- What documents name, by the strings in their texts.
use Rattle.std.proofs.Common.{◌≡◌, ℕ, zero, suc, ◌+◌, ◌<◌, List, [], ◌∷◌, ◌++◌, map, length, take, get_or, Bool, true, false, Option, Some, None, refl, sym, ap, ◌∙◌, arith, if◌then◌else◌}
use Rattle.std.specs.Prelude.{◌||◌, option_to_list}
use Rattle.std.specs.Option.{is_some}
use Rattle.std.specs.List.{list_any, filter_map, flat_map}
use Rattle.std.specs.Borrow.{Bor}
use Rattle.std.proofs.lemmas.List.{length-map, map-append, take_more}
use Rattle.std.proofs.lemmas.List.Elements.{filter_map-append}
use Rattle.std.proofs.lemmas.List.Folds.{list_any-append}
use Rattle.scheme_model.specs.Data.{Datum}
use Rattle.scheme_model.specs.Includes.{StringAt, strings_in, Document, data_of, document_at, all_meant, names_of, Naming, naming, named_by, is_among}
use Rattle.datum_reader.specs.Views as seen
use Rattle.included_documents.specs.Meant.{meant}
use Rattle.included_strings.specs.Strings.{texts_of, texts_in_all, texts_now}
use Rattle.text_parts.specs.declared.texts.TextRead.{TextRead}
use Rattle.text_parts.specs.Documents.{document_of, documents_from, documents_in}
use Rattle.text_parts.specs.Marks.{marked}

-- ---- the strings of a document

meant_more : (f : List ℕ → Option ℕ) (ts : List (Bor (List ℕ))) (i : ℕ) (t : Bor (List ℕ)) → i < length ts → filter_map f (texts_now (take (i + 1) ts)) ≡ filter_map f (texts_now (take i ts)) ++ option_to_list (f (get_or ts i t).now)
meant_more f ts i t lt =
    ap (λ (us : List (Bor (List ℕ))). filter_map f (texts_now us)) (take_more ts i t lt)
    ∙ ap (filter_map f) (map-append (λ (s : Bor (List ℕ)). s.now) (take i ts) (get_or ts i t ∷ []))
    ∙ filter_map-append f (texts_now (take i ts)) ((get_or ts i t).now ∷ []) ∙ ap (λ q. filter_map f (texts_now (take i ts)) ++ q) (one (f (get_or ts i t).now) refl)
  where
    one : (o : Option ℕ) → f (get_or ts i t).now ≡ o → filter_map f ((get_or ts i t).now ∷ []) ≡ option_to_list o
    one None e = rw e refl
    one (Some m) e = rw e refl

or_turned : (a b c : Bool) → ((a || b) || c) ≡ (a || (b || c))
or_turned true b c = refl
or_turned false b c = refl

-- one string more
pub names_more : (f : List ℕ → Option ℕ) (ts : List (Bor (List ℕ))) (i : ℕ) (t : Bor (List ℕ)) (place : Option ℕ) (first old new : Bool) (k : ℕ) → i < length ts → place ≡ f (get_or ts i t).now →
    old ≡ (first || is_among (filter_map f (texts_now (take i ts))) k) → new ≡ (old || is_among (option_to_list place) k) → new ≡ (first || is_among (filter_map f (texts_now (take (i + 1) ts))) k)
names_more f ts i t place first old new k lt means was is =
    is ∙ (λ j. was j || is_among (option_to_list (means j)) k)
    ∙ or_turned first (is_among (filter_map f (texts_now (take i ts))) k) (is_among (option_to_list (f (get_or ts i t).now)) k)
    ∙ ap (λ b. first || b) (sym (list_any-append _ (filter_map f (texts_now (take i ts))) (option_to_list (f (get_or ts i t).now)))
    ∙ ap (λ q. is_among q k) (sym (meant_more f ts i t lt)))

meant_all : (d : Document) (ss : List StringAt) → all_meant d ss ≡ filter_map d.meant (texts_of ss)
meant_all d [] = refl
meant_all d (s ∷ ss) = go (d.meant s.characters) refl (meant_all d ss)
  where
    go : (r : Option ℕ) → d.meant s.characters ≡ r → all_meant d ss ≡ filter_map d.meant (texts_of ss) → all_meant d (s ∷ ss) ≡ filter_map d.meant (texts_of (s ∷ ss))
    go None e rest = rw e rest
    go (Some m) e rest = rw e (ap (λ q. m ∷ q) rest)

pub names_read : (uris : List (List ℕ)) (n : ℕ) (t : TextRead) → t.reads ≡ true → filter_map (meant uris n) (texts_in_all (seen.data_of t.data.now)) ≡ names_of (document_of uris n t)
names_read uris n t e =
    ap (λ (b : Bool). filter_map (meant uris n) (texts_in_all (data_of (record { read = if b then Some (seen.data_of t.data.now) else None; meant = meant uris n })))) (sym e)
    ∙ sym (meant_all (document_of uris n t) (flat_map strings_in (data_of (document_of uris n t))))

pub names_unread : (uris : List (List ℕ)) (n : ℕ) (t : TextRead) → t.reads ≡ false → filter_map (meant uris n) (texts_in_all (seen.data_of [])) ≡ names_of (document_of uris n t)
names_unread uris n t e =
    ap (λ (b : Bool). filter_map (meant uris n) (texts_in_all (data_of (record { read = if b then Some (seen.data_of t.data.now) else None; meant = meant uris n })))) (sym e)
    ∙ sym (meant_all (document_of uris n t) (flat_map strings_in (data_of (document_of uris n t))))

-- ---- documents

documents_there : (uris : List (List ℕ)) (n : ℕ) (ts : List TextRead) (k : ℕ) (t : TextRead) → k < length ts → document_at (documents_from uris n ts) k ≡ document_of uris (n + k) (get_or ts k t)
documents_there uris n [] k t lt = absurd (omega arith)
documents_there uris n (x ∷ ts) zero t lt = let none : n ≡ n + 0 = omega arith in ap (λ m. document_of uris m x) none
documents_there uris n (x ∷ ts) (suc k) t lt = let next : suc n + k ≡ n + suc k = omega arith in documents_there uris (suc n) ts k t (omega arith) ∙ ap (λ m. document_of uris m (get_or ts k t)) next

-- the document at a place
pub document_there : (uris : List (List ℕ)) (ts : List TextRead) (k : ℕ) (t : TextRead) → k < length ts → t ≡ get_or ts k t → document_at (documents_in uris ts) k ≡ document_of uris k t
document_there uris ts k t lt is = let none : 0 + k ≡ k = omega arith in documents_there uris 0 ts k t lt ∙ (λ j. document_of uris (none j) (sym is j))

pub names_at : (ds : List Document) (n : ℕ) → named_by (naming ds) n ≡ names_of (document_at ds n)
names_at [] n = refl
names_at (d ∷ ds) zero = refl
names_at (d ∷ ds) (suc n) = names_at ds n

pub named_there : (uris : List (List ℕ)) (ts : List TextRead) (k : ℕ) (t : TextRead) → k < length ts → t ≡ get_or ts k t → names_of (document_of uris k t) ≡ named_by (naming (documents_in uris ts)) k
named_there uris ts k t lt is = sym (names_at (documents_in uris ts) k ∙ ap names_of (document_there uris ts k t lt is))

length_from : (uris : List (List ℕ)) (n : ℕ) (ts : List TextRead) → length (documents_from uris n ts) ≡ length ts
length_from uris n [] = refl
length_from uris n (t ∷ ts) = ap (λ m. suc m) (length_from uris (suc n) ts)

pub length_documents : (uris : List (List ℕ)) (ts : List TextRead) → length (documents_in uris ts) ≡ length ts
length_documents uris ts = length_from uris 0 ts

pub length_naming : (ds : List Document) → length (naming ds) ≡ length ds
length_naming ds = length-map ds names_of

-- whether a text reads
pub reads_there : (uris : List (List ℕ)) (ts : List TextRead) (k : ℕ) (t : TextRead) → k < length ts → t ≡ get_or ts k t → t.reads ≡ is_some (document_at (documents_in uris ts) k).read
reads_there uris ts k t lt is = go t.reads ∙ sym (ap (λ (d : Document). is_some d.read) (document_there uris ts k t lt is))
  where
    go : (b : Bool) → b ≡ is_some (if b then Some (seen.data_of t.data.now) else None)
    go true = refl
    go false = refl

-- the data of a text
pub data_read : (uris : List (List ℕ)) (n : ℕ) (t : TextRead) → t.reads ≡ true → seen.data_of t.data.now ≡ data_of (document_of uris n t)
data_read uris n t e = ap (λ (b : Bool). data_of (record { read = if b then Some (seen.data_of t.data.now) else None; meant = meant uris n })) (sym e)

pub data_unread : (uris : List (List ℕ)) (n : ℕ) (t : TextRead) → t.reads ≡ false → seen.data_of [] ≡ data_of (document_of uris n t)
data_unread uris n t e = ap (λ (b : Bool). data_of (record { read = if b then Some (seen.data_of t.data.now) else None; meant = meant uris n })) (sym e)
