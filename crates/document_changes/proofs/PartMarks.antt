-- The marks of open documents that are parts, and the documents that their strings mean.
use Rattle.std.proofs.Common.{◌≡◌, ℕ, zero, suc, ◌+◌, ◌<◌, List, [], ◌∷◌, map, Bool, true, false, cond, length, slice_get, Option, Some, None, refl, sym, ap, ◌∙◌, subst, arith}
use Rattle.std.specs.Prelude.{slice_index_or, Ok, Err}
use Rattle.std.specs.Option.{option_map}
use Rattle.std.specs.Str.{bytes_eq}
use Rattle.scheme_model.specs.Includes.{Document, Naming, naming, is_part}
use Rattle.included_documents.specs.Meant.{at_text, by_base, first_place, is_at, meant, meant_in, path_from, text_of, uri_at}
use Rattle.url.specs.Parts.{Parts}
use Rattle.url.specs.Parser.{Parsed, parse_url}
use Rattle.text_parts.specs.Parts.{IsTextPart}
use Rattle.text_parts.specs.Places.{Each}
use Rattle.text_parts.specs.declared.parts.TextPart.{TextPart}
use Rattle.document_changes.specs.Parts.{is_part_at, mark_at, parts_from, parts_in}

-- ---- marks

marks_from : (all : Naming) (n : ℕ) (ps : List TextPart) (ds : List Document) → ((k : ℕ) (p : TextPart) → k < length ps → (slice_index_or ps k p).is_part ≡ is_part all (n + k)) → length ps ≡ length ds → map (λ (p : TextPart). p.is_part) ps ≡ parts_from all n ds
marks_from all n [] [] h long = refl
marks_from all n [] (d ∷ ds) h long = absurd (omega arith)
marks_from all n (p ∷ ps) [] h long = absurd (omega arith)
marks_from all n (p ∷ ps) (d ∷ ds) h long =
    let first : n + 0 ≡ n = omega arith in
    let here : p.is_part ≡ is_part all n = h 0 p (omega arith) ∙ ap (is_part all) first in
    λ j. here j ∷ marks_from all (suc n) ps ds (λ k q lt. h (suc k) q (omega arith) ∙ ap (is_part all) (moved k)) (omega arith) j
  where
    moved : (k : ℕ) → n + suc k ≡ suc n + k
    moved k = omega arith

-- the marks of texts are those of the documents that they are
pub marks_are : (ds : List Document) (ps : List TextPart) → Each (IsTextPart ds) ps → length ps ≡ length ds → map (λ (p : TextPart). p.is_part) ps ≡ parts_in ds
marks_are ds ps each long = marks_from (naming ds) 0 ps ds (λ k p lt. (each k p lt).part ∙ ap (is_part (naming ds)) (from_none k)) long
  where
    from_none : (k : ℕ) → k ≡ 0 + k
    from_none k = omega arith

mark_from : (all : Naming) (n : ℕ) (ds : List Document) (k : ℕ) → k < length ds → slice_get (parts_from all n ds) k ≡ Some (is_part all (n + k))
mark_from all n [] k lt = absurd (omega arith)
mark_from all n (d ∷ ds) zero lt = let first : n ≡ n + 0 = omega arith in ap (λ m. Some (is_part all m)) first
mark_from all n (d ∷ ds) (suc k) lt = let moved : suc n + k ≡ n + suc k = omega arith in mark_from all (suc n) ds k (omega arith) ∙ ap (λ m. Some (is_part all m)) moved

-- the mark of a document tells whether it is a part
pub mark_told : (ds : List Document) (place : Option ℕ) → ((n : ℕ) → place ≡ Some n → n < length ds) → mark_at (parts_in ds) place ≡ is_part_at ds place
mark_told ds None within = refl
mark_told ds (Some n) within = ap in_mark (mark_from (naming ds) 0 ds n (within n refl)) ∙ ap (is_part (naming ds)) (from_none n)
  where
    in_mark : Option Bool → Bool
    in_mark None = false
    in_mark (Some b) = b

    from_none : (k : ℕ) → 0 + k ≡ k
    from_none k = omega arith

-- ---- strings

first_within : (test : List ℕ → Bool) (n : ℕ) (uris : List (List ℕ)) (m : ℕ) → first_place test n uris ≡ Some m → m < n + length uris
first_within test n [] m h = absurd cc
first_within test n (uri ∷ uris) m h = go (test uri) h (λ e. first_within test (suc n) uris m e)
  where
    go : (b : Bool) → cond b (Some n) (first_place test (suc n) uris) ≡ Some m → (first_place test (suc n) uris ≡ Some m → m < suc n + length uris) → m < n + length (uri ∷ uris)
    go true e rest = let same : n ≡ m = cc in omega (arith, same)
    go false e rest = let lt = rest e in omega (arith, lt)

-- a string means one of the documents that there are
pub meant_within : (uris : List (List ℕ)) (n : ℕ) (s : List ℕ) (m : ℕ) → meant uris n s ≡ Some m → m < length uris
meant_within uris n s m h = by (parse_url None (uri_at uris n)) h
  where
    from_none : (k : ℕ) → m < 0 + k → m < k
    from_none k lt = omega arith

    at : (o : Option (List ℕ)) → at_text uris o ≡ Some m → m < length uris
    at None e = absurd cc
    at (Some text) e = from_none (length uris) (first_within (is_at text) 0 uris m e)

    by : (r : Parsed Parts) → by_base uris (uri_at uris n) s r ≡ Some m → m < length uris
    by (Ok base) e = at (text_of (parse_url (Some base) s)) e
    by (Err f) e = from_none (length uris) (first_within (bytes_eq (path_from (uri_at uris n) s)) 0 uris m e)

-- the uri at a place
pub uri_there : {X : Type 0} (f : X → List ℕ) (xs : List X) (n : ℕ) (x : X) → slice_get xs n ≡ Some x → uri_at (map f xs) n ≡ f x
uri_there f [] n x at = absurd cc
uri_there f (y ∷ xs) zero x at = let same : y ≡ x = cc in ap f same
uri_there f (y ∷ xs) (suc n) x at = uri_there f xs n x at
