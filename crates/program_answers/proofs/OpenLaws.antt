-- The open documents by their places and by their uris.
use Rattle.std.proofs.Common.{◌≡◌, ℕ, zero, suc, ◌+◌, ◌<◌, List, [], ◌∷◌, true, false, cond, length, slice_get, Some, None, ◌⊎◌, inl, inr, refl, sym, ap, ◌∙◌, subst, arith}
use Rattle.std.specs.Option.{option_map}
use Rattle.std.specs.Str.{bytes_eq}
use Rattle.document_store.specs.Texts.{Document}
use Rattle.read_documents.specs.declared.documents.Document as code
use Rattle.read_documents.specs.Readings.{AreDocuments, IsDocument}
use Rattle.program_answers.specs.ToldAnswers.{document_at, number_of}

pub document_is : (ds : List (List ℕ × Document)) (cs : List code.Document) → AreDocuments ds cs → (n : ℕ) (c : code.Document) → slice_get cs n ≡ Some c → IsDocument (document_at ds n) c
document_is [] [] are n c at = cc
document_is [] (b ∷ cs) are n c at = absurd are
document_is (d ∷ ds) [] are n c at = absurd are
document_is (d ∷ ds) (b ∷ cs) are zero c at = let same : b ≡ c = cc in subst (λ (x : code.Document). IsDocument d x) same are.0
document_is (d ∷ ds) (b ∷ cs) are (suc n) c at = document_is ds cs are.1 n c at

pub document_there : (ds : List (List ℕ × Document)) (n : ℕ) → n < length ds → slice_get ds n ≡ Some (document_at ds n)
document_there [] n lt = absurd (omega arith)
document_there (d ∷ ds) zero lt = refl
document_there (d ∷ ds) (suc n) lt = document_there ds n (omega arith)

-- ---- by uris

-- each of the first documents has another uri
pub record HaveOther (cs : List code.Document) (n : ℕ) (uri : List ℕ) : Type 0 where
  pub each : (k : ℕ) (c : code.Document) → k < n → slice_get cs k ≡ Some c → bytes_eq c.uri uri ≡ false

pub none_others : (cs : List code.Document) (uri : List ℕ) → HaveOther cs 0 uri
none_others cs uri = record { each = λ k c lt at. absurd (omega arith) }

pub one_other : (cs : List code.Document) (n : ℕ) (uri : List ℕ) (c : code.Document) → slice_get cs n ≡ Some c → bytes_eq c.uri uri ≡ false → HaveOther cs n uri → HaveOther cs (n + 1) uri
one_other cs n uri c at differs before = record { each = λ k b lt there. go k b there (last k lt) }
  where
    last : (k : ℕ) → k < n + 1 → (k < n) ⊎ (k ≡ n)
    last k lt = grind arith

    go : (k : ℕ) (b : code.Document) → slice_get cs k ≡ Some b → (k < n) ⊎ (k ≡ n) → bytes_eq b.uri uri ≡ false
    go k b there (inl h) = before.each k b h there
    go k b there (inr h) =
        let same : b ≡ c = one (sym there ∙ ap (slice_get cs) h ∙ at) in
        ap (λ (x : code.Document). bytes_eq x.uri uri) same ∙ differs
      where
        one : Some b ≡ Some c → b ≡ c
        one e = cc

rest_other : (c : code.Document) (cs : List code.Document) (n : ℕ) (uri : List ℕ) → HaveOther (c ∷ cs) (suc n) uri → HaveOther cs n uri
rest_other c cs n uri h = record { each = λ k b lt at. h.each (suc k) b (omega arith) at }

pub number_there : (ds : List (List ℕ × Document)) (cs : List code.Document) → AreDocuments ds cs → (uri : List ℕ) (n : ℕ) (c : code.Document) → slice_get cs n ≡ Some c → bytes_eq c.uri uri ≡ true → HaveOther cs n uri → Some n ≡ number_of ds uri
number_there [] [] are uri n c at same others = cc
number_there [] (b ∷ cs) are uri n c at same others = absurd are
number_there (d ∷ ds) [] are uri n c at same others = absurd are
number_there (d ∷ ds) (b ∷ cs) are uri zero c at same others =
    let is : b ≡ c = cc in
    sym (ap (λ t. cond t (Some 0) (option_map suc (number_of ds uri))) (ap (λ u. bytes_eq u uri) (sym are.0.uri ∙ ap (λ (x : code.Document). x.uri) is) ∙ same))
number_there (d ∷ ds) (b ∷ cs) are uri (suc n) c at same others =
    ap (option_map suc) (number_there ds cs are.1 uri n c at same (rest_other b cs n uri others))
    ∙ sym (ap (λ t. cond t (Some 0) (option_map suc (number_of ds uri))) (ap (λ u. bytes_eq u uri) (sym are.0.uri) ∙ others.each 0 b (omega arith) refl))

pub no_number : (ds : List (List ℕ × Document)) (cs : List code.Document) → AreDocuments ds cs → (uri : List ℕ) → HaveOther cs (length cs) uri → None ≡ number_of ds uri
no_number [] [] are uri others = refl
no_number [] (b ∷ cs) are uri others = absurd are
no_number (d ∷ ds) [] are uri others = absurd are
no_number (d ∷ ds) (b ∷ cs) are uri others =
    ap (option_map suc) (no_number ds cs are.1 uri (rest_other b cs (length cs) uri others))
    ∙ sym (ap (λ t. cond t (Some 0) (option_map suc (number_of ds uri))) (ap (λ u. bytes_eq u uri) (sym are.0.uri) ∙ others.each 0 b (omega arith) refl))
