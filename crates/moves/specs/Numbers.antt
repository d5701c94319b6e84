-- The renumbering that tables of new numbers tell.
use Rattle.std.specs.Prelude.{◌≡◌, ℕ, ◌^◌, ◌≤◌, List, [], length, slice_get, slice_index_or, Vec}
use Rattle.std.specs.declared.alloc.Global.{Global}
use Rattle.std.specs.Option.{option_map_or}
use Rattle.syntax_tree.specs.declared.symbols.Ident.{Ident}
use Rattle.syntax_tree.specs.declared.symbols.Ident.TheVariants.{Written, Inserted}
use Rattle.syntax_tree.specs.declared.meaning.Meaning.{Meaning}
use Rattle.syntax_tree.specs.declared.meaning.Meaning.TheVariants as meanings
use Rattle.renumbering_laws.specs.Renumbering.{Renumbering}
use Rattle.moves.specs.declared.numbers.Moves.{Moves}

-- the new number of a number, which stands at its place; behind the end numbers stay
abbrev pub moved : List ℕ → ℕ → ℕ
moved numbers n = slice_index_or numbers n n

-- the new numbers of a unit's forms
abbrev pub forms_at : List (Vec ℕ Global) → ℕ → List ℕ
forms_at forms u = option_map_or (λ (v : Vec ℕ Global). v.items) (slice_get forms u) []

abbrev pub numbers_of : Moves → Renumbering
numbers_of m = record { unit = moved m.units.items; form = λ u f. moved (forms_at m.forms.items u) f; definition = λ u n. n }

-- an entry of the table of identifiers: the places in it stay
abbrev pub entry_as : Renumbering → Ident → Ident
entry_as r (Written u k) = Written (r.unit u) k
entry_as r (Inserted i n) = Inserted i (record { unit = r.unit n.unit; form = r.form n.unit n.form; count = n.count })

-- a meaning: the number of a local stays, since its form gave it
abbrev pub meaning_as : Renumbering → Meaning → Meaning
meaning_as r (meanings.Local n) = meanings.Local n
meaning_as r (meanings.Global u i) = meanings.Global (r.unit u) i
meaning_as r (meanings.Standard n) = meanings.Standard n
meaning_as r (meanings.Free n) = meanings.Free n

-- ---- the way back

-- no two numbers become one, and all of them have 32 bits
pub record IsPermutation (numbers : List ℕ) : Type 0 where
  pub few : length numbers ≤ 2 ^ 32
  pub apart : (m n : ℕ) → moved numbers m ≡ moved numbers n → m ≡ n

-- neither two units nor two forms of one unit; and each unit with new numbers of forms has its own
pub record ArePermutations (m : Moves) : Type 0 where
  pub units : IsPermutation m.units.items
  pub forms : (u : ℕ) → IsPermutation (forms_at m.forms.items u)
  pub within : length m.forms.items ≤ length m.units.items

-- the second takes each unit and each form back to the number that it had before the first
pub record IsBack (r s : Renumbering) : Type 0 where
  pub unit : (u : ℕ) → s.unit (r.unit u) ≡ u
  pub form : (u f : ℕ) → s.form (r.unit u) (r.form u f) ≡ f
