-- Marks of documents: of those that are among some, and of those that each names.
use Rattle.std.specs.Prelude.{◌≡◌, ℕ, ◌<◌, List, [], length, Bool, false, Option, Some, None, Vec, slice_index_or}
use Rattle.std.specs.declared.alloc.Global.{Global}
use Rattle.scheme_model.specs.Includes.{Naming, is_among, named_by}
use Rattle.text_parts.specs.Places.{Each}

-- the mark at a place, where there is one
abbrev pub marked : List Bool → ℕ → Bool
marked bs n = slice_index_or bs n false

-- of so many documents those are marked that are among these
pub record Marks (bs : List Bool) (count : ℕ) (ns : List ℕ) : Type 0 where
  pub size : length bs ≡ count
  pub told : (k : ℕ) → k < count → marked bs k ≡ is_among ns k

-- each row marks what the document at its place names
pub record Rows (rows : List (List Bool)) (all : Naming) : Type 0 where
  pub size : length rows ≡ length all
  pub each : Each (λ n row. Marks row (length all) (named_by all n)) rows

-- the marks that are next: those themselves, or other ones
abbrev pub AreNext : List Bool → ℕ → List ℕ → Option (Vec Bool Global) → Type 0
AreNext marks count ns None = Marks marks count ns
AreNext marks count ns (Some more) = Marks more.items count ns
