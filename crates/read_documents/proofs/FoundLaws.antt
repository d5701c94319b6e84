-- What is found stands in the documents.
use Rattle.std.proofs.Common.{◌≡◌, ℕ, ◌<◌, ◌⊎◌, inl, inr, List, [], ◌∷◌, ◌++◌, length, slice_get, Some, None, sym, ap, ◌∙◌, subst}
use Rattle.syntax_tree.proofs.Places.{push_cases}
use Rattle.read_documents.specs.declared.findings.At.{At}
use Rattle.read_documents.specs.declared.findings.Finding.{Finding}
use Rattle.read_documents.specs.Places.{AreFoundIn, IsAtIn}

pub found_none : (count : ℕ) → AreFoundIn count []
found_none count = λ n f a at e. absurd cc

pub found_more : (count : ℕ) (fs : List Finding) (f : Finding) → AreFoundIn count fs → ((a : At) → f.at ≡ Some a → a.document < count) → AreFoundIn count (fs ++ f ∷ [])
found_more count fs f h here = λ n g a at e. go n g a e (push_cases fs f n g at)
  where
    go : (n : ℕ) (g : Finding) (a : At) → g.at ≡ Some a → (slice_get fs n ≡ Some g) ⊎ ((n ≡ length fs) × (g ≡ f)) → a.document < count
    go n g a e (inl k) = h n g a k e
    go n g a e (inr k) = here a (sym (ap (λ (x : Finding). x.at) k.1) ∙ e)

-- one more, at a place that is in a document
pub found_at : (count : ℕ) (old new : List Finding) (f : Finding) (at : At) → new ≡ old ++ f ∷ [] → f.at ≡ Some at → at.document < count → AreFoundIn count old → AreFoundIn count new
found_at count old new f at is placed below found =
    subst (λ (fs : List Finding). AreFoundIn count fs) (sym is)
    (found_more count old f found (λ a e. let one : Some at ≡ Some a = sym placed ∙ e in let same : at ≡ a = cc in subst (λ (x : At). x.document < count) same below))

pub at_in : (count : ℕ) (a : At) → a.document < count → IsAtIn count (Some a)
at_in count a lt = λ b e. subst (λ (x : At). x.document < count) (same a b e) lt
  where
    same : (x y : At) → Some x ≡ Some y → x ≡ y
    same x y k = cc

pub at_none : (count : ℕ) → IsAtIn count None
at_none count = λ a e. absurd cc
