-- The diagnostics of documents are counted by what is known of each.
use Rattle.std.proofs.Common.{◌≡◌, ◌+◌, ℕ, zero, suc, T, List, [], ◌∷◌, length, slice_get, Bool, true, false, cond, ◌&&◌, Some, Ordering, Less, Equal, Greater, is_lt, is_eq, nat_cmp, refl, sym, ap, ◌∙◌, subst}
use Rattle.std.specs.Cmp.Lexicographic.{slice_cmp}
use Rattle.std.specs.FinMap.{entries, entries_sorted, find, get-entries, is_sorted}
use Rattle.std.specs.FinMap.Entries.{below_all}
use Rattle.std.specs.List.{fold, sum_by}
use Rattle.std.proofs.lemmas.List.Folds.{fold-map}
use Rattle.ls_base.specs.declared.answers.Diagnostic.{Diagnostic}
use Rattle.ls_base.specs.declared.encoding.Encoding.{Encoding}
use Rattle.document_store.specs.Texts.{Document, Texts}
use Rattle.read_documents.specs.Listed.{Listed, lists_of}
use Rattle.read_documents.specs.Readings.{AreDocuments, AreReadAs, Read}
use Rattle.read_documents.specs.declared.documents.Document as read
use Rattle.program_answers.specs.Listings.{or_none}
use Rattle.program_answers.specs.Updates.{AreListsOfTexts}
use Rattle.program_answers.proofs.PublishedMaps.{is_tied, ties_are}
use Rattle.program_answers.proofs.TextLists.{one_row, rows_from, some_lists, told_rows}
use Rattle.generated_workspace.specs.Known.{IsKnownOf, Known}

abbrev Row : Type 0
Row = List ℕ × List Diagnostic

-- ---- each row is found at its own uri

first : (a b : Bool) → T (a && b) → T a
first true b h = tt
first false b h = h

second : (a b : Bool) → T (a && b) → T b
second true b h = h
second false b h = absurd h

not_both : (r : Ordering) → T (is_lt r) → is_eq r ≡ true → ⊥
not_both Less less tie = cc
not_both Equal less tie = less
not_both Greater less tie = less

below_at : (uri : List ℕ) (rows : List Row) → T (below_all (slice_cmp nat_cmp) uri rows) → (n : ℕ) (r : Row) → slice_get rows n ≡ Some r → T (is_lt (slice_cmp nat_cmp uri r.0))
below_at uri [] h n r at = cc
below_at uri (x ∷ rows) h zero r at = let same : x ≡ r = cc in subst (λ (y : Row). T (is_lt (slice_cmp nat_cmp uri y.0))) same (first _ _ h)
below_at uri (x ∷ rows) h (suc n) r at = below_at uri rows (second _ _ h) n r at

own : (rows : List Row) → T (is_sorted (slice_cmp nat_cmp) rows) → (n : ℕ) (r : Row) → slice_get rows n ≡ Some r → find (slice_cmp nat_cmp) r.0 rows ≡ Some r.1
own [] h n r at = cc
own (x ∷ rows) h zero r at =
    let same : x ≡ r = cc in
    ap (λ b. cond b (Some x.1) (find (slice_cmp nat_cmp) r.0 rows)) (is_tied r.0 x.0 (ap (λ (y : Row). y.0) (sym same))) ∙ ap (λ (y : Row). Some y.1) same
own (x ∷ rows) h (suc n) r at = past (is_eq (slice_cmp nat_cmp r.0 x.0)) refl (own rows (second _ _ h) n r at)
  where
    past : (b : Bool) → is_eq (slice_cmp nat_cmp r.0 x.0) ≡ b → find (slice_cmp nat_cmp) r.0 rows ≡ Some r.1 → find (slice_cmp nat_cmp) r.0 (x ∷ rows) ≡ Some r.1
    past true tie rest = absurd (not_both (slice_cmp nat_cmp x.0 r.0) (below_at x.0 rows (first _ _ h) n r at) (is_tied x.0 r.0 (sym (ties_are r.0 x.0 tie))))
    past false tie rest = ap (λ b. cond b (Some x.1) (find (slice_cmp nat_cmp) r.0 rows)) tie ∙ rest

-- ---- sums over documents, as they are read, and over their lists

pub over_documents : (g : List ℕ → ℕ) (ds : List (List ℕ × Document)) (cs : List read.Document) → AreDocuments ds cs → (a : ℕ) →
    fold (λ n (c : read.Document). n + g c.uri) a cs ≡ fold (λ n (d : List ℕ × Document). n + g d.0) a ds
over_documents g [] [] h a = refl
over_documents g [] (c ∷ cs) h a = absurd h
over_documents g (d ∷ ds) [] h a = absurd h
over_documents g (d ∷ ds) (c ∷ cs) h a = ap (λ (u : List ℕ). fold (λ n (x : read.Document). n + g x.uri) (a + g u) cs) h.0.uri ∙ over_documents g ds cs h.1 (a + g d.0)

over_rows : (g : List ℕ → ℕ) (e : Encoding) (all : List Read) (place : ℕ) (ds : List (List ℕ × Document)) (rs : List Read) → AreReadAs ds rs → (a : ℕ) →
    fold (λ n (d : List ℕ × Document). n + g d.0) a ds ≡ fold (λ n (r : Row). n + g r.0) a (rows_from e all place ds rs)
over_rows g e all place [] [] h a = refl
over_rows g e all place [] (r ∷ rs) h a = absurd h
over_rows g e all place (d ∷ ds) [] h a = absurd h
over_rows g e all place (d ∷ ds) (r ∷ rs) h a = over_rows g e all (suc place) ds rs h.1 (a + g d.0)

each_alike : (f g : Row → ℕ) (rows : List Row) → ((n : ℕ) (r : Row) → slice_get rows n ≡ Some r → f r ≡ g r) → (a : ℕ) → fold (λ n (r : Row). n + f r) a rows ≡ fold (λ n (r : Row). n + g r) a rows
each_alike f g [] h a = refl
each_alike f g (r ∷ rows) h a = ap (λ (k : ℕ). fold (λ n (x : Row). n + f x) (a + k) rows) (h 0 r refl) ∙ each_alike f g rows (λ n x at. h (suc n) x at) (a + g r)

-- ---- what is known of all documents

pub all_counted : (e : Encoding) (texts : Texts) (rs : List Read) (cs : List read.Document) (known : Known) → IsKnownOf e texts known → AreReadAs (entries texts) rs → AreDocuments (entries texts) cs →
    sum_by (λ (c : read.Document). length (known c.uri)) cs ≡ sum_by (λ (l : Listed). length l.list) (lists_of e (entries texts) rs)
all_counted e texts rs cs known is are documents =
    let some = some_lists e texts in
    let lists = some.0 in
    let of_texts : AreListsOfTexts e texts lists = some.1 in
    let ds = entries texts in
    let rows = told_rows e ds rs in
    let as_rows : entries lists ≡ rows = of_texts.2 ∙ ap (told_rows e ds) (one_row ds of_texts.0 rs of_texts.1 are) in
    let sorted : T (is_sorted (slice_cmp nat_cmp) rows) = subst (λ (es : List Row). T (is_sorted (slice_cmp nat_cmp) es)) as_rows (entries_sorted lists) in
    let at : (n : ℕ) (r : Row) → slice_get rows n ≡ Some r → known r.0 ≡ r.1 = λ n r h.
    is lists of_texts r.0 ∙ ap or_none (get-entries lists r.0 ∙ ap (λ (es : List Row). find (slice_cmp nat_cmp) r.0 es) as_rows ∙ own rows sorted n r h) in
    over_documents (λ u. length (known u)) ds cs documents 0
    ∙ over_rows (λ u. length (known u)) e rs 0 ds rs are 0
    ∙ each_alike (λ r. length (known r.0)) (λ r. length r.1) rows (λ n r h. ap (λ (xs : List Diagnostic). length xs) (at n r h)) 0
    ∙ fold-map (λ n (r : Row). n + length r.1) (λ (l : Listed). (l.uri, l.list)) 0 (lists_of e ds rs)
