-- Trees whose identifiers' symbols are the bytes of their characters.
use Rattle.std.specs.Prelude.{◌≡◌, ℕ, List}
use Rattle.std.specs.Str.{chars, encode_utf8_all}
use Rattle.scheme_model.specs.Trees.{Tree, name, atom, list, vector, Trees, no_trees, tree, Tail, proper, dotted}

-- the bytes of some characters, which decoding gives
abbrev pub IsEncoded : List ℕ → Type 0
IsEncoded s = s ≡ encode_utf8_all (chars s)

-- so is each identifier's symbol
abbrev mutual
  pub HasEncoded : {A : Type 0} → (A → List ℕ) → Tree A → Type 0
  HasEncoded strip (name i o) = IsEncoded (strip i)
  HasEncoded strip (atom a o) = Unit {0}
  HasEncoded strip (list ts tail o) = HaveEncoded strip ts × TailEncoded strip tail
  HasEncoded strip (vector ts o) = HaveEncoded strip ts

  pub HaveEncoded : {A : Type 0} → (A → List ℕ) → Trees A → Type 0
  HaveEncoded strip no_trees = Unit {0}
  HaveEncoded strip (tree t ts) = HasEncoded strip t × HaveEncoded strip ts

  pub TailEncoded : {A : Type 0} → (A → List ℕ) → Tail A → Type 0
  TailEncoded strip proper = Unit {0}
  TailEncoded strip (dotted t) = HasEncoded strip t
