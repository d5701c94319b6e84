-- What documents name, directly or not.
use Rattle.std.specs.Prelude.{◌≡◌, ℕ, ◌<◌, List, length, true}
use Rattle.scheme_model.specs.Includes.{Naming, is_among, named_by, names_on}

-- the documents that a document names, directly or not
abbrev pub onward : Naming → ℕ → List ℕ
onward all n = names_on all (length all) (named_by all n)

-- a document that one of these names is one of these
abbrev pub IsClosed : Naming → List ℕ → Type 0
IsClosed all ns = (n m : ℕ) → is_among ns n ≡ true → is_among (named_by all n) m ≡ true → m < length all → is_among ns m ≡ true
