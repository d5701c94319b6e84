-- The texts that documents include, by their places in a table.
use Rattle.std.specs.Prelude.{◌≡◌, ◌<◌, ℕ, List, map, length, true, false, Option, Some, None, Result, Ok, Err, slice_get}
use Rattle.ls_base.specs.declared.memory.Memory.{Memory}
use Rattle.scheme_model.specs.Includes.{StringAt, document_at, is_among}
use Rattle.scheme_model.specs.Included as model
use Rattle.scheme_model.specs.Included.{Listing, Texts, Sources, lost, given_or_lost, included_data, forms_of, declarations_of}
use Rattle.included_documents.specs.Meant.{meant}
use Rattle.included_forms.specs.declared.steps.TextString.{TextString}
use Rattle.included_forms.specs.declared.steps.Way.{Way}
use Rattle.included_forms.specs.declared.given.Given.{Given}
use Rattle.included_forms.specs.declared.given.Given.TheVariants as given
use Rattle.included_forms.specs.declared.resolving.Standing.{Standing}
use Rattle.included_forms.specs.declared.resolving.Standing.TheVariants as standing

-- texts are what the documents give that can be included, and strings that mean none of these are lost
pub record Serve (o : Sources) (t : Texts) : Type 0 where
  pub limit : t.limit ≡ o.limit
  pub forms : (n : ℕ) (s : StringAt) → t.as_forms n s ≡ given_or_lost o.usable (λ m. forms_of t (included_data o.documents m)) ((document_at o.documents n).meant s.characters) (lost n s)
  pub declarations : (n : ℕ) (s : StringAt) →
      t.as_declarations n s ≡ given_or_lost o.usable (λ m. declarations_of t o.known (included_data o.documents m)) ((document_at o.documents n).meant s.characters) (lost n s)

-- strings of the documents with these uris mean documents by these
abbrev pub Mean : Sources → List (List ℕ) → Type 0
Mean o uris = (n : ℕ) (s : List ℕ) → n < length uris → (document_at o.documents n).meant s ≡ meant uris n s

-- a document can be included, and stands at its place, where it has one
abbrev pub IsPlaced : List ℕ → List ℕ → ℕ → Option Standing → Type 0
IsPlaced us ms m None = is_among us m ≡ false
IsPlaced us ms m (Some standing.Unusable) = is_among us m ≡ false
IsPlaced us ms m (Some standing.Later) = is_among us m ≡ true
IsPlaced us ms m (Some (standing.At k)) = (is_among us m ≡ true) × (slice_get ms k ≡ Some m)

-- those of the documents that can be included stand at the places of these
abbrev pub Placed : List ℕ → List ℕ → List Standing → Type 0
Placed us ms places = (m : ℕ) → IsPlaced us ms m (slice_get places m)

-- what a document gives
abbrev pub given_of : Sources → Texts → ℕ → model.Given
given_of o t m = record { forms = forms_of t (included_data o.documents m); declarations = declarations_of t o.known (included_data o.documents m) }

abbrev pub givens : Sources → Texts → List ℕ → List model.Given
givens o t ms = map (given_of o t) ms

abbrev pub IsByStanding : Option Standing → (document : ℕ) → TextString → Way → Result Given Memory → Type 0
IsByStanding None n s w (Ok g) = g ≡ given.Lost (record { document = n; string = s })
IsByStanding (Some standing.Unusable) n s w (Ok g) = g ≡ given.Lost (record { document = n; string = s })
IsByStanding (Some standing.Later) n s w (Ok g) = ⊥
IsByStanding (Some (standing.At k)) n s w (Ok g) = g ≡ given.Text k w
IsByStanding o n s w (Err e) = Unit {0}
