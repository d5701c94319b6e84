-- What the tables of the code stand for, entry by entry.
use Rattle.std.specs.Prelude.{◌≡◌, ℕ, ◌<◌, suc, List, [], ◌∷◌, ◌++◌, map, length, slice_get, slice_index_or, Option, Some, String}
use Rattle.std.specs.Global.{Global}
use Rattle.std.specs.String.{string_bytes}
use Rattle.std.specs.Option.{option_map}
use Rattle.std.specs.declared.hash.FoldHasher.{FoldHasher}
use Rattle.std.specs.declared.hash.BuildHasherDefault.{BuildHasherDefault}
use Rattle.indexmap.specs.IndexMap.{IndexMap, keys, values}
use Rattle.indexmap.specs.IndexSet.{IndexSet}
use Rattle.scheme_model.specs.Identifiers.{Number}
use Rattle.scheme_model.specs.Ident.{Ident as Identifier, Written, Inserted, symbol_of}
use Rattle.syntax_tree.specs.Names.{Names, AreToldApart}
use Rattle.syntax_tree.specs.declared.symbols.Ident.{Ident}
use Rattle.syntax_tree.specs.declared.symbols.Ident.TheVariants as code
use Rattle.syntax_tree.specs.declared.symbols.UseNo.{UseNo}

-- the number of a macro use, as the definitions see it
abbrev pub number_of : UseNo → Number
number_of n = record { unit = n.unit; form = n.form; count = n.count }

-- the identifier that an entry stands for, where the numbers in it are places of the tables
abbrev pub ident_of : Names → Ident → Option Identifier
ident_of names (code.Written u k) = option_map (Written u) (slice_get names.symbols k)
ident_of names (code.Inserted i n) = option_map (λ (j : Identifier). Inserted j (number_of n)) (slice_get names.idents i)

-- the numbers in an entry are places of tables of these lengths
abbrev pub IsBelow : ℕ → ℕ → Ident → Type 0
IsBelow symbols idents (code.Written u k) = k < symbols
IsBelow symbols idents (code.Inserted i n) = i < idents

abbrev pub IsPlaced : Names → Ident → Type 0
IsPlaced names x = IsBelow (length names.symbols) (length names.idents) x

-- one more identifier, given those before it
abbrev pub next_ident : List (List ℕ) → List Identifier → Ident → Identifier
next_ident symbols is (code.Written u k) = Written u (slice_index_or symbols k [])
next_ident symbols is (code.Inserted i n) = Inserted (slice_index_or is i (Written 0 [])) (number_of n)

-- the identifiers after more entries
abbrev pub idents_after : List (List ℕ) → List Identifier → List Ident → List Identifier
idents_after symbols is [] = is
idents_after symbols is (x ∷ xs) = idents_after symbols (is ++ next_ident symbols is x ∷ []) xs

-- the numbers in each entry are those of symbols and of entries before it
abbrev pub AreBefore : ℕ → ℕ → List Ident → Type 0
AreBefore symbols n [] = Unit {0}
AreBefore symbols n (x ∷ xs) = IsBelow symbols n x × AreBefore symbols (suc n) xs

-- what the tables of the code are
abbrev pub Strings : Type 0
Strings = IndexSet (String Global) (BuildHasherDefault FoldHasher)

abbrev pub Entries : Type 0
Entries = IndexMap Ident ℕ (BuildHasherDefault FoldHasher)

abbrev pub symbols_of : Strings → List (List ℕ)
symbols_of names = map string_bytes names.keys

abbrev pub names_of : Strings → Entries → Names
names_of names idents = record { symbols = symbols_of names; idents = idents_after (symbols_of names) [] (keys idents) }

-- the invariant of the tables: nothing stands twice, entries lead back, and the number beside an identifier is that of its symbol
pub record AreTables (names : Strings) (idents : Entries) : Type 0 where
  pub symbols_apart : AreToldApart (symbols_of names)
  pub entries_apart : AreToldApart (keys idents)
  pub before : AreBefore (length (symbols_of names)) 0 (keys idents)
  pub stripped : (i k : ℕ) → slice_get (values idents) i ≡ Some k → slice_get (symbols_of names) k ≡ option_map symbol_of (slice_get (idents_after (symbols_of names) [] (keys idents)) i)
