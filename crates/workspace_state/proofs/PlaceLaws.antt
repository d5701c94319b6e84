-- The places of open documents, and of the documents that they are read as.
use Rattle.std.proofs.Common.{◌≡◌, ◌<◌, ℕ, zero, suc, List, [], ◌∷◌, length, Option, Some, None, refl, sym, ap, ◌∙◌, subst}
use Rattle.std.specs.Prelude.{IfSome}
use Rattle.std.proofs.lemmas.Option.{same_Some}
use Rattle.document_store.specs.Texts.{Document}
use Rattle.read_documents.specs.Readings.{AreReadAs, Read, documents_from, documents_in}

reads_many : (ds : List (List ℕ × Document)) (rs : List Read) → AreReadAs ds rs → length rs ≡ length ds
reads_many [] [] are = refl
reads_many [] (r ∷ rs) are = absurd are
reads_many (d ∷ ds) [] are = absurd are
reads_many (d ∷ ds) (r ∷ rs) are = ap suc (reads_many ds rs are.1)

from_many : (means : ℕ → List ℕ → Option ℕ) (n : ℕ) (rs : List Read) → length (documents_from means n rs) ≡ length rs
from_many means n [] = refl
from_many means n (r ∷ rs) = ap suc (from_many means (suc n) rs)

-- there are as many documents as texts
pub documents_many : (ds : List (List ℕ × Document)) (rs : List Read) → AreReadAs ds rs → length (documents_in rs) ≡ length ds
documents_many ds rs are = from_many _ 0 rs ∙ reads_many ds rs are

pub some_within : (place : Option ℕ) (many others : ℕ) → others ≡ many → IfSome place (λ n. n < many) → (n : ℕ) → place ≡ Some n → n < others
some_within None many others same within n is = absurd cc
some_within (Some m) many others same within n is = subst (λ (k : ℕ). n < k) (sym same) (subst (λ (i : ℕ). i < many) (same_Some m n is) within)
