-- The documents of a store by their places, and copies of a store.
use Rattle.std.proofs.Common.{◌≡◌, ◌≤◌, ℕ, ℤ, suc, slice_get, List, length, take, Option, Some, None, refl, ap, ◌∙◌}
use Rattle.std.specs.Option.{option_map}
use Rattle.std.specs.FinMap.{entries, keys, get, same_entries_map}
use Rattle.document_store.specs.Texts.{Document, Texts, version_at, text_at}
use Rattle.read_documents.specs.Stored.{CopiesTo}
use Rattle.read_documents.proofs.Nths.{nth_entry, nth_there, one_more, none_more, take_all}

absent : {A B : Type 0} (f : A → B) (o : Option A) → None ≡ option_map f o → o ≡ None
absent f None is = refl
absent f (Some x) is = cc

whole : (o : Option Document) (v : ℤ) (t : List ℕ) → Some v ≡ option_map (λ d. d.0) o → Some t ≡ option_map (λ d. d.1) o → o ≡ Some (v, t)
whole None v t a b = cc
whole (Some d) v t a b = let p : d.0 ≡ v = cc in let q : d.1 ≡ t = cc in λ i. Some (p i, q i)

-- a uri that stands in the store has a version
pub no_version : (m : Texts) (n : ℕ) (k : List ℕ) → slice_get (keys m) n ≡ Some k → None ≡ version_at m k → ⊥
no_version m n k key is = nth_there m n k key (absent (λ d. d.0) (get m k) is)

-- the document at a place, by its uri
pub nth_document : (m : Texts) (n : ℕ) (k : List ℕ) (v : ℤ) (t : List ℕ) → slice_get (keys m) n ≡ Some k → Some v ≡ version_at m k → Some t ≡ text_at m k → slice_get (entries m) n ≡ Some (k, (v, t))
nth_document m n k v t key a b = nth_entry m n k (v, t) key (whole (get m k) v t a b)

pub copied_more : (m old new : Texts) (n : ℕ) (o : Option (List ℕ × Document)) → entries old ≡ take n (entries m) → slice_get (entries m) n ≡ o → CopiesTo old new o → entries new ≡ take (suc n) (entries m)
copied_more m old new n None front is same = none_more (entries m) (entries new) n (ap (λ (x : Texts). entries x) same ∙ front) is
copied_more m old new n (Some d) front is same = ap (λ (x : Texts). entries x) same ∙ one_more m old n d.0 d.1 front is

pub copied_all : (m copy : Texts) (n : ℕ) → entries copy ≡ take n (entries m) → length (entries m) ≤ n → copy ≡ m
copied_all m copy n front few = same_entries_map copy m (front ∙ take_all (entries m) n few)
