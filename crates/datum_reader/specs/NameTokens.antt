-- Which tokens of a text the identifiers of a form were read from (R7RS 7.1.2).
use Rattle.std.specs.Prelude.{◌≡◌, ℕ, ◌+◌, List, slice_get, Bool, Option, Some, None}
use Rattle.std.specs.Str.{encode_utf8_all}
use Rattle.scheme_model.specs.declared.Occ.{Occ}
use Rattle.scheme_model.specs.Kinds.{Atomic, Name, Token}
use Rattle.scheme_model.specs.Trees.{Tree, name, atom, list, vector, Trees, no_trees, tree, Tail, proper, dotted}
use Rattle.scheme_model.specs.Ident.{Ident as Identifier, symbol_of}

-- the token with a number spells this symbol
pub record IsNameToken (tokens : List Token) (number : ℕ) (symbol : List ℕ) : Type 0 where
  pub token : Token
  pub there : slice_get tokens number ≡ Some token
  pub name : List ℕ
  pub bars : Bool
  pub kind : token.kind ≡ Atomic (Name name bars)
  pub spells : symbol ≡ encode_utf8_all name

-- an identifier without a place is implied by a mark; one with a place was read from the token there, which is so many tokens
-- behind the first of the form
abbrev pub ReadFrom : List Token → ℕ → Identifier → Option Occ → Type 0
ReadFrom tokens first i None = Unit {0}
ReadFrom tokens first i (Some o) = IsNameToken tokens (first + o.token) (symbol_of i)

-- all identifiers of a form whose first token has this number
abbrev mutual
  pub NamesAreTokens : List Token → ℕ → Tree Identifier → Type 0
  NamesAreTokens tokens first (name i o) = ReadFrom tokens first i o
  NamesAreTokens tokens first (atom a o) = Unit {0}
  NamesAreTokens tokens first (list ts tail o) = AllAreTokens tokens first ts × TailIsTokens tokens first tail
  NamesAreTokens tokens first (vector ts o) = AllAreTokens tokens first ts

  pub AllAreTokens : List Token → ℕ → Trees Identifier → Type 0
  AllAreTokens tokens first no_trees = Unit {0}
  AllAreTokens tokens first (tree t ts) = NamesAreTokens tokens first t × AllAreTokens tokens first ts

  pub TailIsTokens : List Token → ℕ → Tail Identifier → Type 0
  TailIsTokens tokens first proper = Unit {0}
  TailIsTokens tokens first (dotted t) = NamesAreTokens tokens first t
