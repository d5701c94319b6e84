-- Texts have one row of lists, and aren't without.
use Rattle.std.proofs.Common.{◌≡◌, ℕ, suc, List, [], ◌∷◌, map, Bool, true, false, ◌&&◌, T, ◌⊎◌, inl, inr, None, refl, sym, ap, ◌∙◌, chars, nat_cmp}
use Rattle.std.specs.Cmp.Lexicographic.{slice_cmp}
use Rattle.std.specs.FinMap.{entries, entries_sorted, from_sorted, entries-from_sorted, same_entries_map}
use Rattle.std.specs.FinMap.Entries.{below_all, is_sorted}
use Rattle.ls_base.specs.declared.encoding.Encoding.{Encoding}
use Rattle.ls_base.specs.declared.answers.Diagnostic as told
use Rattle.datum_reader.proofs.ReadLaws.{one_reading}
use Rattle.datum_reader.proofs.TokensSeen.{text_once}
use Rattle.datum_reader.proofs.Stops.{every_text, never_reads_and_stops, one_stop}
use Rattle.document_store.specs.Texts.{Document, Texts}
use Rattle.read_documents.specs.Readings.{Read, Reads, Stops, uri_of, IsReadAs, AreReadAs, span_of}
use Rattle.read_documents.specs.Listed.{lists_from, lists_of}
use Rattle.program_answers.specs.Updates.{AreListsOfTexts, Lists}

-- ---- readings

one_read : (text : List ℕ) (r q : Read) → IsReadAs text r → IsReadAs text q → uri_of r ≡ uri_of q → r ≡ q
one_read text (Reads u ds spans) (Reads v es ss) h k uri =
    let read = one_reading (chars text) ds es h.3 k.3 in
    let tokens = text_once (chars text) h.0 k.0 None None h.1 k.1 in
    let same : spans ≡ ss = h.2 ∙ ap (map span_of) tokens.0 ∙ sym k.2 in
    λ j. Reads (uri j) (read j) (same j)
one_read text (Reads u ds spans) (Stops v g) h k uri = absurd (never_reads_and_stops (chars text) ds g h.3 k)
one_read text (Stops u f) (Reads v es ss) h k uri = absurd (never_reads_and_stops (chars text) es f k.3 h)
one_read text (Stops u f) (Stops v g) h k uri = let same = one_stop (chars text) f g h k in λ j. Stops (uri j) (same j)

pub one_row : (ds : List (List ℕ × Document)) (rs qs : List Read) → AreReadAs ds rs → AreReadAs ds qs → rs ≡ qs
one_row [] [] [] h k = refl
one_row [] [] (q ∷ qs) h k = absurd k
one_row [] (r ∷ rs) qs h k = absurd h
one_row (d ∷ ds) [] qs h k = absurd h
one_row (d ∷ ds) (r ∷ rs) [] h k = absurd k
one_row (d ∷ ds) (r ∷ rs) (q ∷ qs) h k = λ j. one_read d.1.1 r q h.0 k.0 (h.2 ∙ sym k.2) j ∷ one_row ds rs qs h.1 k.1 j

some_read : (uri text : List ℕ) → (r : Read) × IsReadAs text r × (uri_of r ≡ uri)
some_read uri text = elim (every_text (chars text)) [
  | inl h ↦ (Reads uri h.0 (map span_of h.1.tokens), (h.1.tokens, h.1.spelled, refl, h.1), refl)
  | inr h ↦ (Stops uri h.0, h.1, refl)
]

pub some_row : (ds : List (List ℕ × Document)) → (rs : List Read) × AreReadAs ds rs
some_row [] = ([], tt)
some_row (d ∷ ds) = let first = some_read d.0 d.1.1 in let rest = some_row ds in (first.0 ∷ rest.0, (first.1, rest.1, first.2))

-- ---- lists

abbrev pub told_rows : Encoding → List (List ℕ × Document) → List Read → List (List ℕ × List told.Diagnostic)
told_rows e ds rs = map (λ l. (l.uri, l.list)) (lists_of e ds rs)

pub one_lists : (e : Encoding) (texts : Texts) (one other : Lists) → AreListsOfTexts e texts one → AreListsOfTexts e texts other → one ≡ other
one_lists e texts one other h k =
    same_entries_map one other (h.2 ∙ ap (told_rows e (entries texts)) (one_row (entries texts) h.0 k.0 h.1 k.1) ∙ sym k.2)

both : (a b : Bool) → T a → T b → T (a && b)
both true b p q = q
both false b p q = p

first : (a b : Bool) → T (a && b) → T a
first true b h = tt
first false b h = h

second : (a b : Bool) → T (a && b) → T b
second true b h = h
second false b h = absurd h

abbrev pub rows_from : Encoding → List Read → ℕ → List (List ℕ × Document) → List Read → List (List ℕ × List told.Diagnostic)
rows_from e all place ds rs = map (λ l. (l.uri, l.list)) (lists_from e all place ds rs)

-- the uris of the lists are those of the documents, so they rise
below_lists : (e : Encoding) (all : List Read) (uri : List ℕ) (place : ℕ) (ds : List (List ℕ × Document)) (rs : List Read) → T (below_all (slice_cmp nat_cmp) uri ds) → T (below_all (slice_cmp nat_cmp) uri (rows_from e all place ds rs))
below_lists e all uri place [] rs h = tt
below_lists e all uri place (d ∷ ds) [] h = tt
below_lists e all uri place (d ∷ ds) (r ∷ rs) h = both _ _ (first _ _ h) (below_lists e all uri (suc place) ds rs (second _ _ h))

pub lists_rise : (e : Encoding) (all : List Read) (place : ℕ) (ds : List (List ℕ × Document)) (rs : List Read) → T (is_sorted (slice_cmp nat_cmp) ds) → T (is_sorted (slice_cmp nat_cmp) (rows_from e all place ds rs))
lists_rise e all place [] rs h = tt
lists_rise e all place (d ∷ ds) [] h = tt
lists_rise e all place (d ∷ ds) (r ∷ rs) h = both _ _ (below_lists e all d.0 (suc place) ds rs (first _ _ h)) (lists_rise e all (suc place) ds rs (second _ _ h))

pub some_lists : (e : Encoding) (texts : Texts) → (lists : Lists) × AreListsOfTexts e texts lists
some_lists e texts =
    let row = some_row (entries texts) in
    let rise = lists_rise e row.0 0 (entries texts) row.0 (entries_sorted texts) in
    (from_sorted (told_rows e (entries texts) row.0), (row.0, row.1, entries-from_sorted (slice_cmp nat_cmp) (told_rows e (entries texts) row.0) rise))
