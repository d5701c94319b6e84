-- Units that import one another (R7RS 5.6).
use Rattle.std.specs.Prelude.{◌≡◌, ℕ, List, true}
use Rattle.scheme_model.specs.Program.{Prepared, imports_at, is_in}

-- a unit that one of these imports is one of these
abbrev pub IsClosed : List Prepared → List ℕ → Type 0
IsClosed units ns = (n m : ℕ) → is_in n ns ≡ true → is_in m (imports_at units n) ≡ true → is_in m ns ≡ true
