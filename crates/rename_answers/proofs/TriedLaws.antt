-- The edits as they are told can be tried: read again, they are the edits that they were made of.
use Rattle.std.proofs.Common.{◌≡◌, ◌≤◌, ◌<◌, ℕ, zero, suc, ◌+◌, List, [], ◌∷◌, ◌++◌, map, length, Bool, true, false, cond, Option, Some, None, refl, sym, ap, ◌∙◌, subst, slice_get, arith}
use Rattle.std.specs.Prelude.{nat_lt}
use Rattle.std.specs.FinMap.{entries}
use Rattle.std.specs.Option.{option_map}
use Rattle.std.specs.Str.{bytes_eq, IsUtf8}
use Rattle.std.proofs.lemmas.List.{length-map}
use Rattle.std.proofs.lemmas.Option.{slice_get-map}
use Rattle.class_edits.proofs.DocumentLaws.{as_many}
use Rattle.std.proofs.lemmas.Bool.{ltb-false}
use Rattle.std.proofs.lemmas.Slice.Eq.{bytes_eq-Decides}
use Rattle.ls_base.specs.Limits.{max_text}
use Rattle.ls_base.specs.declared.answers.DocEdits.{DocEdits}
use Rattle.ls_base.specs.declared.answers.TextEdit.{TextEdit}
use Rattle.ls_base.specs.declared.encoding.Encoding.{Encoding}
use Rattle.scheme_model.specs.declared.Occ.{Occ}
use Rattle.scheme_model.specs.Program.{UnitResult}
use Rattle.scheme_model.specs.Spelling.{Link}
use Rattle.document_store.specs.Texts.{Document, Texts}
use Rattle.read_documents.specs.Readings.{Read, AreReadAs, IsReadAs, program_in, spans_in}
use Rattle.program_answers.specs.ToldAnswers.{facts_in}
use Rattle.text_edits.specs.Edits.{Edit, edited}
use Rattle.text_edits.specs.Members.{class_edits, identifiers_of, members_of, name_at, name_of}
use Rattle.text_edits.specs.Views.{AreCuts, edit_of, edit_told}
use Rattle.text_edits.specs.declared.edits.Edit as code
use Rattle.class_edits.specs.DocumentEdits.{CanEditAll, all_edited, edits_from, edits_of_class, seen, told, told_of, too_long}
use Rattle.document_changes.specs.Edited.{CanEdit, edit_in, edited_documents, edits_for, edits_in}
use Rattle.rename_answers.specs.ToldRenames.{texts_of}
use Rattle.rename_answers.proofs.DistinctLaws.{uris_distinct}
use Rattle.rename_answers.proofs.ClassEnds.{class_back, told_back}

-- the edits at a place, and none where there is none
abbrev pub nth : List (List Edit) → ℕ → List Edit
nth [] n = []
nth (es ∷ all) zero = es
nth (es ∷ all) (suc n) = nth all n

-- ---- the edits for a uri

other : (s t : List ℕ) → (s ≡ t → ⊥) → bytes_eq s t ≡ false
other s t h = go (bytes_eq s t) refl
  where
    go : (b : Bool) → bytes_eq s t ≡ b → b ≡ false
    go true e = absurd (h ((bytes_eq-Decides s t).0 e))
    go false e = refl

none_for : (e : Encoding) (ds : List (List ℕ × Document)) (all : List (List Edit)) (uri : List ℕ) → ((k : ℕ) (x : List ℕ × Document) → slice_get ds k ≡ Some x → x.0 ≡ uri → ⊥) → edits_for (told e ds all) uri ≡ []
none_for e [] all uri h = refl
none_for e (d ∷ ds) [] uri h = refl
none_for e (d ∷ ds) ([] ∷ all) uri h = none_for e ds all uri (λ k x at. h (suc k) x at)
none_for e (d ∷ ds) ((y ∷ ys) ∷ all) uri h =
    ap (λ (b : Bool). cond b (map (edit_told e d.1.1) (y ∷ ys)) (edits_for (told e ds all) uri)) (other d.0 uri (h 0 d refl)) ∙ none_for e ds all uri (λ k x at. h (suc k) x at)

abbrev Apart : List (List ℕ × Document) → Type 0
Apart ds = (m n : ℕ) (x y : List ℕ × Document) → slice_get ds m ≡ Some x → slice_get ds n ≡ Some y → x.0 ≡ y.0 → m ≡ n

one_for : (e : Encoding) (ds : List (List ℕ × Document)) (all : List (List Edit)) (n : ℕ) (d : List ℕ × Document) → Apart ds → slice_get ds n ≡ Some d → edits_for (told e ds all) d.0 ≡ map (edit_told e d.1.1) (nth all n)
one_for e [] all n d apart at = absurd cc
one_for e (x ∷ ds) [] n d apart at = refl
one_for e (x ∷ ds) ([] ∷ all) zero d apart at =
    let same : x ≡ d = cc in
    none_for e ds all d.0 (λ k y there q. let z = apart 0 (suc k) x y refl there (ap (λ (t : List ℕ × Document). t.0) same ∙ sym q) in absurd cc)
one_for e (x ∷ ds) ((y ∷ ys) ∷ all) zero d apart at =
    let same : x ≡ d = cc in
    ap (λ (b : Bool). cond b (map (edit_told e x.1.1) (y ∷ ys)) (edits_for (told e ds all) d.0)) ((bytes_eq-Decides x.0 d.0).1 (ap (λ (t : List ℕ × Document). t.0) same))
    ∙ ap (λ (t : List ℕ × Document). map (edit_told e t.1.1) (y ∷ ys)) same
one_for e (x ∷ ds) ([] ∷ all) (suc n) d apart at = one_for e ds all n d (λ i j s t p q r. let z = apart (suc i) (suc j) s t p q r in cc) at
one_for e (x ∷ ds) ((y ∷ ys) ∷ all) (suc n) d apart at =
    ap (λ (b : Bool). cond b (map (edit_told e x.1.1) (y ∷ ys)) (edits_for (told e ds all) d.0)) (other x.0 d.0 (λ q. let z = apart 0 (suc n) x d refl at q in absurd cc))
    ∙ one_for e ds all n d (λ i j s t p q r. let z = apart (suc i) (suc j) s t p q r in cc) at

-- ---- the edits at a place are those of the class

read_at : (ds : List (List ℕ × Document)) (rs : List Read) (n : ℕ) (d : List ℕ × Document) → AreReadAs ds rs → slice_get ds n ≡ Some d → (r : Read) × (slice_get rs n ≡ Some r) × IsReadAs d.1.1 r
read_at [] rs n d h at = absurd cc
read_at (x ∷ ds) [] n d h at = absurd h
read_at (x ∷ ds) (r ∷ rs) zero d h at = let same : x ≡ d = cc in (r, refl, subst (λ (t : List ℕ × Document). IsReadAs t.1.1 r) same h.0)
read_at (x ∷ ds) (r ∷ rs) (suc n) d h at = read_at ds rs n d h.1 at

module _ (ls : List Link) (us : List UnitResult) (stem : List ℕ) (o : Occ) where
  nth_from : (m n k : ℕ) (ds : List (List ℕ × Document)) (rs : List Read) (d : List ℕ × Document) (r : Read) → AreReadAs ds rs → k ≡ m + n → slice_get ds n ≡ Some d → slice_get rs n ≡ Some r →
      nth (edits_from ls us stem o m ds rs) n ≡ class_edits ls us stem o k d.1.1 (spans_in r)
  nth_from m n k [] rs d r h e at there = absurd cc
  nth_from m n k (x ∷ ds) [] d r h e at there = absurd h
  nth_from m zero k (x ∷ ds) (q ∷ rs) d r h e at there =
      let document : x ≡ d = cc in
      let read : q ≡ r = cc in
      let place : m ≡ k = omega (arith, e) in
      λ j. class_edits ls us stem o (place j) (document j).1.1 (spans_in (read j))
  nth_from m (suc n) k (x ∷ ds) (q ∷ rs) d r h e at there = nth_from (suc m) n k ds rs d r h.1 (omega (arith, e)) at there

module _ (e : Encoding) (ds : List (List ℕ × Document)) (rs : List Read) (o : Occ) (stem : List ℕ) (are : AreReadAs ds rs) (apart : Apart ds)
    (short : (n : ℕ) (d : List ℕ × Document) → slice_get ds n ≡ Some d → length d.1.1 ≤ max_text) (utf8 : (n : ℕ) (d : List ℕ × Document) → slice_get ds n ≡ Some d → IsUtf8 d.1.1) where
  abbrev all : List (List Edit)
  all = edits_of_class ds rs stem o

  -- told and read again
  pub again : (n : ℕ) (d : List ℕ × Document) → slice_get ds n ≡ Some d → edits_in e (told e ds all) d ≡ nth all n
  again n d at =
      let r = read_at ds rs n d are at in
      let name : Occ → Option (List ℕ) = name_of (members_of (facts_in rs).links stem o) in
      let here : nth all n ≡ class_edits (facts_in rs).links (program_in rs).units stem o n d.1.1 (spans_in r.0) = nth_from (facts_in rs).links (program_in rs).units stem o 0 n n ds rs d r.0 are (omega arith) at r.1 in
      let back = class_back e d.1.1 n rs name r.0 (short n d at) (utf8 n d at) r.1 r.2 in
      ap (map (edit_in e d.1.1)) (one_for e ds all n d apart at ∙ ap (map (edit_told e d.1.1)) here)
      ∙ told_back e d.1.1 (name_at name (identifiers_of n (program_in rs).units)) (class_edits (facts_in rs).links (program_in rs).units stem o n d.1.1 (spans_in r.0)) back ∙ sym here

-- ---- they can be made, and what they leave isn't too long

cuts_at : (ds : List (List ℕ × Document)) (all : List (List code.Edit)) (n : ℕ) (d : List ℕ × Document) → CanEditAll ds all → slice_get ds n ≡ Some d → AreCuts d.1.1 0 (nth (seen all) n)
cuts_at [] all n d h at = absurd cc
cuts_at (x ∷ ds) [] n d h at = absurd h
cuts_at (x ∷ ds) (es ∷ all) zero d h at = let same : x ≡ d = cc in subst (λ (t : List ℕ × Document). AreCuts t.1.1 0 (map edit_of es)) same h.0.cuts
cuts_at (x ∷ ds) (es ∷ all) (suc n) d h at = cuts_at ds all n d h.1 at

fits_at : (ds : List (List ℕ × Document)) (all : List (List Edit)) (n : ℕ) (d : List ℕ × Document) → length all ≡ length ds → too_long ds all ≡ None → slice_get ds n ≡ Some d → length (edited (nth all n) d.1.1) ≤ max_text
fits_at [] all n d c h at = absurd cc
fits_at (x ∷ ds) [] n d c h at = absurd cc
fits_at (x ∷ ds) (es ∷ all) n d c h at = let same : length all ≡ length ds = cc in go (λ i k there. fits_at ds all i d same k there) (nat_lt max_text (length (edited es x.1.1))) refl n h at
  where
    go : ((i : ℕ) → too_long ds all ≡ None → slice_get ds i ≡ Some d → length (edited (nth all i) d.1.1) ≤ max_text) → (b : Bool) → nat_lt max_text (length (edited es x.1.1)) ≡ b → (n : ℕ) → cond b (Some x.0) (too_long ds all) ≡ None → slice_get (x ∷ ds) n ≡ Some d → length (edited (nth (es ∷ all) n) d.1.1) ≤ max_text
    go more true q n k there = absurd cc
    go more false q zero k there =
        let same : x ≡ d = cc in subst (λ (t : List ℕ × Document). length (edited es t.1.1) ≤ max_text) same (ltb-false max_text (length (edited es x.1.1)) q)
    go more false q (suc n) k there = more n k there

-- ---- all together

-- the edited texts are those that the edits of each document make
pub texts_made : (e : Encoding) (edits : List DocEdits) (ds : List (List ℕ × Document)) (all : List (List Edit)) → length all ≡ length ds → ((n : ℕ) (d : List ℕ × Document) → slice_get ds n ≡ Some d → edits_in e edits d ≡ nth all n) →
    texts_of (edited_documents e edits ds) ≡ all_edited ds all
texts_made e edits [] all c h = refl
texts_made e edits (d ∷ ds) [] c h = absurd cc
texts_made e edits (d ∷ ds) (es ∷ all) c h =
    let same : length all ≡ length ds = cc in
    let first = h 0 d refl in
    let rest = texts_made e edits ds all same (λ n x at. h (suc n) x at) in
    λ j. edited (first j) d.1.1 ∷ rest j

-- the edits can be tried
pub can_try : (e : Encoding) (edits : List DocEdits) (ds : List (List ℕ × Document)) (all : List (List code.Edit)) → CanEditAll ds all → too_long ds (seen all) ≡ None → length (seen all) ≡ length ds →
    ((n : ℕ) (d : List ℕ × Document) → slice_get ds n ≡ Some d → edits_in e edits d ≡ nth (seen all) n) → CanEdit e edits ds
can_try e edits ds all can fits c h = record {
  cuts = λ n d at. subst (AreCuts d.1.1 0) (sym (h n d at)) (cuts_at ds all n d can at);
  fit = λ n d at. subst (λ es. length (edited es d.1.1) ≤ max_text) (sym (h n d at)) (fits_at ds (seen all) n d c fits at);
}

-- open documents stand apart
pub stand_apart : (texts : Texts) → Apart (entries texts)
stand_apart texts m n x y a b same =
    let first : slice_get (map (λ (d : List ℕ × Document). d.0) (entries texts)) m ≡ Some x.0 = slice_get-map (λ (d : List ℕ × Document). d.0) (entries texts) m ∙ ap (option_map (λ (d : List ℕ × Document). d.0)) a in
    let second : slice_get (map (λ (d : List ℕ × Document). d.0) (entries texts)) n ≡ Some y.0 = slice_get-map (λ (d : List ℕ × Document). d.0) (entries texts) n ∙ ap (option_map (λ (d : List ℕ × Document). d.0)) b in
    uris_distinct texts m n x.0 first (second ∙ ap (λ (u : List ℕ). Some u) (sym same))

pub seen_many : (ds : List (List ℕ × Document)) (all : List (List code.Edit)) → CanEditAll ds all → length (seen all) ≡ length ds
seen_many ds all can = length-map all (map edit_of) ∙ as_many ds all can
