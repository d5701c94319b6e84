-- What was asked before a definition (R7RS 5.3, 5.4): the notes, and for each identifier those that ask it or one that uses inserted in
-- its place.
use Rattle.std.specs.Prelude.{◌≡◌, ℕ, suc, ◌≤◌, ◌<◌, List, [], ◌∷◌, ◌++◌, length, slice_get, Bool, false, ◌||◌, Option, Some, None, Vec, if◌then◌else◌}
use Rattle.std.specs.declared.alloc.Global.{Global}
use Rattle.std.specs.BTreeMap.{get}
use Rattle.std.specs.Ordering.{nat_cmp}
use Rattle.scheme_model.specs.Ident.{Ident as Identifier, Written, Inserted, same_ident}
use Rattle.syntax_tree.specs.Names.{Names}
use Rattle.syntax_tree.specs.Macros.{IsIdent}
use Rattle.unit_scopes.specs.declared.asked.Note.{Note}
use Rattle.unit_scopes.specs.declared.asked.Note.TheVariants.{LookedUp, Compared}
use Rattle.unit_scopes.specs.declared.asked.Asked.{Asked}

-- an identifier is this one, or uses inserted this one in its place
abbrev pub is_inside : Identifier → Identifier → Bool
is_inside x (Written u s) = same_ident x (Written u s)
is_inside x (Inserted i k) = same_ident x (Inserted i k) || is_inside x i

abbrev pub is_inside_any : Identifier → Option Identifier → Bool
is_inside_any x None = false
is_inside_any x (Some i) = is_inside x i

abbrev pub is_inside_at : Names → Identifier → ℕ → Bool
is_inside_at names x n = is_inside_any x (slice_get names.idents n)

-- the numbers of the identifiers that a note asks
abbrev pub idents_of : Note → List ℕ
idents_of (LookedUp at head keyword) = at.ident ∷ []
idents_of (Compared literal at held) = literal.ident ∷ at.ident ∷ []

-- whether a note asks an identifier, as one of its own or inside one of them
abbrev pub is_inside_one : Names → Identifier → List ℕ → Bool
is_inside_one names x [] = false
is_inside_one names x (n ∷ ns) = is_inside_at names x n || is_inside_one names x ns

abbrev pub asks : Names → Identifier → Note → Bool
asks names x note = is_inside_one names x (idents_of note)

-- the number of a note, once for each of its identifiers that asks this one
abbrev pub asked_by : Names → Identifier → ℕ → List ℕ → List ℕ
asked_by names x k [] = []
asked_by names x k (n ∷ ns) = if is_inside_at names x n then k ∷ asked_by names x k ns else asked_by names x k ns

-- the numbers of the notes that ask an identifier, from one on
abbrev pub asked_from : Names → Identifier → ℕ → List Note → List ℕ
asked_from names x k [] = []
asked_from names x k (note ∷ notes) = asked_by names x k (idents_of note) ++ asked_from names x (suc k) notes

-- the numbers that the map has
abbrev pub items_of : Option (Vec ℕ Global) → List ℕ
items_of None = []
items_of (Some v) = v.items

abbrev pub numbers_in : Asked → ℕ → List ℕ
numbers_in a n = items_of (get nat_cmp a.asking n)

-- an identifier, and each that it was inserted in place of, is in the table
abbrev pub AreLayersNamed : Names → Identifier → Type 0
AreLayersNamed names (Written u s) = (n : ℕ) × IsIdent names n (Written u s)
AreLayersNamed names (Inserted i k) = ((n : ℕ) × IsIdent names n (Inserted i k)) × AreLayersNamed names i

abbrev pub IsKnown : Names → ℕ → Type 0
IsKnown names n = (i : Identifier) × IsIdent names n i × AreLayersNamed names i

abbrev pub AreKnown : Names → List ℕ → Type 0
AreKnown names [] = Unit {0}
AreKnown names (n ∷ ns) = IsKnown names n × AreKnown names ns

abbrev pub AreNotesKnown : Names → List Note → Type 0
AreNotesKnown names [] = Unit {0}
AreNotesKnown names (note ∷ notes) = AreKnown names (idents_of note) × AreNotesKnown names notes

-- all identifiers of a note have numbers in the table
abbrev pub AreWithin : Names → List ℕ → Type 0
AreWithin names [] = Unit {0}
AreWithin names (n ∷ ns) = (n < length names.idents) × AreWithin names ns

-- each identifier has the notes that ask it
pub record AskedStands (names : Names) (a : Asked) : Type 0 where
  pub numbers : (n : ℕ) (x : Identifier) → IsIdent names n x → numbers_in a n ≡ asked_from names x 0 a.notes.items
  pub others : (n : ℕ) → length names.idents ≤ n → numbers_in a n ≡ []
  pub known : AreNotesKnown names a.notes.items
