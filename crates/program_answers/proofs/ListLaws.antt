-- The lists of documents, one document after another.
use Rattle.std.proofs.Common.{◌≡◌, ℕ, zero, suc, ◌+◌, T, List, [], ◌∷◌, ◌++◌, map, take, length, slice_get, Bool, true, false, ◌&&◌, Some, BTreeMap, String, string_bytes, string_cmp, Ordering, Less, Equal, Greater, is_lt, nat_cmp, refl, sym, ap, ◌∙◌, subst, arith}
use Rattle.std.specs.Ordering.{ordering_reverse, match_ordering}
use Rattle.std.specs.Cmp.Lexicographic.{slice_cmp, nat_list_cmp_total}
use Rattle.std.specs.BTreeMap.{insert_entry}
use Rattle.std.specs.FinMap.{entries, entries_sorted, is_sorted}
use Rattle.std.specs.FinMap.Entries.{below_all}
use Rattle.ls_base.specs.declared.encoding.Encoding.{Encoding}
use Rattle.ls_base.specs.declared.answers.Diagnostic as told
use Rattle.scheme_model.specs.Diagnostics.{Diagnostic}
use Rattle.document_store.specs.Texts.{Document, Texts, text_at}
use Rattle.read_documents.specs.declared.documents.Document as code
use Rattle.read_documents.specs.Readings.{Read, AreReadAs, AreDocuments}
use Rattle.read_documents.specs.Findings.{kept}
use Rattle.read_documents.specs.Listed.{found_told, told_in, lists_told, found_of, AreFoundOf, lists_from, lists_of}
use Rattle.program_answers.specs.Updates.{entries_shown}
use Rattle.program_answers.proofs.TextLaws.{document_at, in_store}

abbrev Map : Type 0
Map = BTreeMap (ℕ × ℕ × List ℕ) ℕ

abbrev Pair : Type 0
Pair = List ℕ × List told.Diagnostic

-- ---- an entry behind all others

abbrev AllBefore : List ℕ → List Pair → Type 0
AllBefore uri [] = Unit {0}
AllBefore uri (x ∷ xs) = (slice_cmp nat_cmp uri x.0 ≡ Greater) × AllBefore uri xs

module _ {Y : Type 0} where
  abbrev shown : String Y × List told.Diagnostic → Pair
  shown e = (string_bytes e.0, e.1)

  insert_last : (es : List (String Y × List told.Diagnostic)) (k : String Y) (v : List told.Diagnostic) → AllBefore (string_bytes k) (map shown es) →
      map shown (insert_entry string_cmp es k v) ≡ map shown es ++ (string_bytes k, v) ∷ []
  insert_last [] k v h = refl
  insert_last (e ∷ es) k v h =
      ap (λ r. map shown (match_ordering r ((k, v) ∷ e ∷ es) ((e.0, v) ∷ es) (e ∷ insert_entry string_cmp es k v))) h.0 ∙ ap (λ xs. shown e ∷ xs) (insert_last es k v h.1)

-- ---- documents in order

first : (a b : Bool) → T (a && b) → T a
first true b p = tt
first false b p = p

second : (a b : Bool) → T (a && b) → T b
second true b p = p
second false b p = absurd p

less : (r : Ordering) → T (is_lt r) → r ≡ Less
less Less p = refl
less Equal p = absurd p
less Greater p = absurd p

below_nth : (uri : List ℕ) (ds : List (List ℕ × Document)) (n : ℕ) (d : List ℕ × Document) → T (below_all (slice_cmp nat_cmp) uri ds) → slice_get ds n ≡ Some d → slice_cmp nat_cmp d.0 uri ≡ Greater
below_nth uri [] n d h at = cc
below_nth uri (f ∷ ds) zero d h at =
    let same : f ≡ d = cc in
    nat_list_cmp_total.antisymm d.0 uri ∙ ap ordering_reverse (ap (λ (x : List ℕ × Document). slice_cmp nat_cmp uri x.0) (sym same) ∙ less _ (first _ _ h))
below_nth uri (f ∷ ds) (suc n) d h at = below_nth uri ds n d (second _ _ h) at

all_before : (encoding : Encoding) (ds : List (List ℕ × Document)) (ms : List Map) (n : ℕ) (d : List ℕ × Document) → T (is_sorted (slice_cmp nat_cmp) ds) → slice_get ds n ≡ Some d →
    AllBefore d.0 (lists_told encoding (take n ds) ms)
all_before encoding [] ms n d h at = cc
all_before encoding (f ∷ ds) ms zero d h at = tt
all_before encoding (f ∷ ds) [] (suc n) d h at = tt
all_before encoding (f ∷ ds) (m ∷ ms) (suc n) d h at = (below_nth f.0 ds n d (first _ _ h) at, all_before encoding ds ms n d (second _ _ h) at)

told_more : (encoding : Encoding) (ds : List (List ℕ × Document)) (ms : List Map) (n : ℕ) (d : List ℕ × Document) (m : Map) → slice_get ds n ≡ Some d → slice_get ms n ≡ Some m →
    lists_told encoding (take (suc n) ds) ms ≡ lists_told encoding (take n ds) ms ++ (d.0, map (found_told encoding d.1.1) m.entries) ∷ []
told_more encoding [] ms n d m at there = cc
told_more encoding (f ∷ ds) [] n d m at there = cc
told_more encoding (f ∷ ds) (g ∷ ms) zero d m at there =
    let p : f ≡ d = cc in
    let q : g ≡ m = cc in
    λ i. ((p i).0, map (found_told encoding (p i).1.1) (q i).entries) ∷ []
told_more encoding (f ∷ ds) (g ∷ ms) (suc n) d m at there = ap (λ xs. (f.0, map (found_told encoding f.1.1) g.entries) ∷ xs) (told_more encoding ds ms n d m at there)

-- the list of the next document is put in
pub one_listed : {Y : Type 0} (encoding : Encoding) (texts : Texts) (cs : List code.Document) → AreDocuments (entries texts) cs → (ms : List Map) (n : ℕ) (c : code.Document) (m : Map) (text : List ℕ) →
    slice_get cs n ≡ Some c → slice_get ms n ≡ Some m → ((t : List ℕ) → text_at texts c.uri ≡ Some t → text ≡ t) →
    (old new : BTreeMap (String Y) (List told.Diagnostic)) (k : String Y) (v : List told.Diagnostic) → string_bytes k ≡ c.uri → v ≡ map (found_told encoding text) m.entries →
    new.entries ≡ insert_entry string_cmp old.entries k v → entries_shown old ≡ lists_told encoding (take n (entries texts)) ms → entries_shown new ≡ lists_told encoding (take (suc n) (entries texts)) ms
one_listed encoding texts cs are ms n c m text at there is old new k v key value put so =
    let q = document_at (entries texts) cs are n c at in
    let d : List ℕ × Document = q.0 in
    let bytes : string_bytes k ≡ d.0 = key ∙ q.2.uri in
    let same : text ≡ d.1.1 = is d.1.1 (in_store texts n d c.uri q.1 q.2.uri) in
    let before : AllBefore (string_bytes k) (entries_shown old) =
    subst (λ (u : List ℕ). AllBefore u (entries_shown old)) (sym bytes) (subst (AllBefore d.0) (sym so) (all_before encoding (entries texts) ms n d (entries_sorted texts) q.1)) in
    ap (map shown) put ∙ insert_last old.entries k v before
    ∙ (λ i. so i ++ (bytes i, (value ∙ ap (λ t. map (found_told encoding t) m.entries) same) i) ∷ [])
    ∙ sym (told_more encoding (entries texts) ms n d m q.1 there)

-- ---- documents that are read so

told_kept : (encoding : Encoding) (text : List ℕ) (ds : List Diagnostic) → map (found_told encoding text) (map kept ds) ≡ map (told_in encoding text) ds
told_kept encoding text [] = refl
told_kept encoding text (d ∷ ds) = ap (λ xs. told_in encoding text d ∷ xs) (told_kept encoding text ds)

told_from : (encoding : Encoding) (all : List Read) (place : ℕ) (ds : List (List ℕ × Document)) (rs : List Read) (ms : List Map) → AreReadAs ds rs → length ms ≡ length ds →
    ((n : ℕ) (m : Map) (r : Read) → slice_get ms n ≡ Some m → slice_get rs n ≡ Some r → m.entries ≡ map kept (found_of all (place + n) r)) →
    lists_told encoding ds ms ≡ map (λ l. (l.uri, l.list)) (lists_from encoding all place ds rs)
told_from encoding all place [] rs ms are long h = refl
told_from encoding all place (d ∷ ds) [] ms are long h = absurd are
told_from encoding all place (d ∷ ds) (r ∷ rs) [] are long h = absurd (omega arith)
told_from encoding all place (d ∷ ds) (r ∷ rs) (m ∷ ms) are long h =
    let zeroth : place + 0 ≡ place = omega arith in
    let here : m.entries ≡ map kept (found_of all place r) = h 0 m r refl refl ∙ ap (λ n. map kept (found_of all n r)) zeroth in
    let rest = told_from encoding all (suc place) ds rs ms are.1 (omega arith) (λ n e q a b. h (suc n) e q a b ∙ ap (λ k. map kept (found_of all k q)) (later n)) in
    (λ i. (d.0, (ap (map (found_told encoding d.1.1)) here ∙ told_kept encoding d.1.1 (found_of all place r)) i) ∷ rest i)
  where
    later : (n : ℕ) → place + suc n ≡ suc place + n
    later n = omega arith

pub lists_are : (encoding : Encoding) (ds : List (List ℕ × Document)) (rs : List Read) (ms : List Map) → AreReadAs ds rs → length ms ≡ length ds → AreFoundOf rs ms →
    lists_told encoding ds ms ≡ map (λ l. (l.uri, l.list)) (lists_of encoding ds rs)
lists_are encoding ds rs ms are long found = told_from encoding rs 0 ds rs ms are long (λ n m r a b. found n m r a b ∙ ap (λ k. map kept (found_of rs k r)) (zeroth n))
  where
    zeroth : (n : ℕ) → n ≡ 0 + n
    zeroth n = omega arith
