-- What documents are to one another, and the order in which texts are included.
use Rattle.std.specs.Prelude.{◌≡◌, ◌⊎◌, ℕ, ◌<◌, List, [], ◌∷◌, ◌++◌, length, Bool, true, false, min}
use Rattle.scheme_model.specs.Includes.{Document, Naming, naming, is_among, named_by, is_on_circle, is_part, usable, program_number, max_units}
use Rattle.nesting_laws.specs.Onward.{onward}
use Rattle.text_parts.specs.declared.reaches.Reach.{Reach}
use Rattle.text_parts.specs.declared.parts.TextPart.{TextPart}

-- how far a document names others
pub record IsReach (all : Naming) (n : ℕ) (r : Reach) : Type 0 where
  pub circle : r.on_circle ≡ is_on_circle all n
  pub count : r.count ≡ length (onward all n)

-- a document can be included
abbrev pub is_usable_in : List Document → ℕ → Bool
is_usable_in ds n = is_among (usable (naming ds) ds) n

-- what a document is to the others: whether it is on a circle, a part, a text that can be included; and the number of its program, or
-- of the first that is too many
pub record IsTextPart (ds : List Document) (n : ℕ) (p : TextPart) : Type 0 where
  pub circle : p.on_circle ≡ is_on_circle (naming ds) n
  pub part : p.is_part ≡ is_part (naming ds) n
  pub usable : p.is_usable ≡ is_usable_in ds n
  pub program : p.program ≡ min (program_number ds n) max_units

-- each of these comes once, and after those that can be included and that it names; some have come already
abbrev pub InOrder : List Document → (come : List ℕ) → List ℕ → Type 0
InOrder ds come [] = Unit {0}
InOrder ds come (n ∷ ns) =
    (is_among come n ≡ false) × ((m : ℕ) → is_among (named_by (naming ds) n) m ≡ true → is_usable_in ds m ≡ true → is_among come m ≡ true) × InOrder ds (come ++ n ∷ []) ns

-- the texts that can be included, each once, and each after those that it includes
pub record IsOrder (ds : List Document) (order : List ℕ) : Type 0 where
  pub in_order : InOrder ds [] order
  pub whole : (n : ℕ) → is_among order n ≡ is_usable_in ds n

-- a document whose turn is before this one's: it names fewer onward, or as many and stands in front
abbrev pub IsEarlier : List Document → (count place : ℕ) → ℕ → Type 0
IsEarlier ds count place n = (length (onward (naming ds) n) < count) ⊎ ((length (onward (naming ds) n) ≡ count) × (n < place))

-- those have come that can be included and whose turn is before this one
pub record HaveCome (ds : List Document) (order : List ℕ) (count place : ℕ) : Type 0 where
  pub in_order : InOrder ds [] order
  pub come : (n : ℕ) → is_usable_in ds n ≡ true → IsEarlier ds count place n → is_among order n ≡ true
  pub from : (n : ℕ) → is_among order n ≡ true → (is_usable_in ds n ≡ true) × IsEarlier ds count place n
