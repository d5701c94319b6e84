-- Data as reading gives them: what a tree can be made of.
use Rattle.std.specs.Prelude.{◌≡◌, ◌⊎◌, ℕ, ◌≤◌, Bool, true, false, List}
use Rattle.ls_base.specs.Limits.{max_text, max_tree_nodes, max_tree_depth}
use Rattle.scheme_tokens.specs.Lexical.{byte_count}
use Rattle.scheme_model.specs.Data.{Datum, atom, list, vector, bytes, Data, none, part, tail, row}
use Rattle.scheme_model.specs.Measures.{tree_size, tree_depth}
use Rattle.datum_reader.specs.Seeded.{seeded}
use Rattle.datum_reader.specs.Texts.{IsReading}

-- the datum stands in this one, or in these
abbrev mutual
  pub IsIn : Datum → Datum → Type 0
  IsIn d (atom p a) = d ≡ atom p a
  IsIn d (list p ds) = (d ≡ list p ds) ⊎ IsAmong d ds
  IsIn d (vector p ds) = (d ≡ vector p ds) ⊎ IsAmong d ds
  IsIn d (bytes p texts) = d ≡ bytes p texts

  pub IsAmong : Datum → Data → Type 0
  IsAmong d none = ⊥
  IsAmong d (part e ds) = IsIn d e ⊎ IsAmong d ds
  IsAmong d (tail e) = IsIn d e

-- a datum that is read from a text of at most 1,048,576 bytes, or a part of one
pub record WasRead (d : Datum) : Type 0 where
  pub text : List ℕ
  pub all : List Datum
  pub fits : byte_count text ≤ max_text
  pub reading : IsReading text all
  pub among : IsAmong d (row all none)

abbrev pub is_list : Datum → Bool
is_list (atom p a) = false
is_list (list p ds) = true
is_list (vector p ds) = false
is_list (bytes p texts) = false

-- no tail in it is a list
abbrev mutual
  pub IsWellFormed : Datum → Type 0
  IsWellFormed (atom p a) = Unit {0}
  IsWellFormed (list p ds) = AreWellFormed ds
  IsWellFormed (vector p ds) = AreWellFormed ds
  IsWellFormed (bytes p texts) = Unit {0}

  pub AreWellFormed : Data → Type 0
  AreWellFormed none = Unit {0}
  AreWellFormed (part d ds) = IsWellFormed d × AreWellFormed ds
  AreWellFormed (tail d) = (is_list d ≡ false) × IsWellFormed d

-- what a tree can be made of: the datum is right, and its tree as any form of any unit is small and shallow enough
pub record CanSeed (d : Datum) : Type 0 where
  pub right : IsWellFormed d
  pub small : (unit form : ℕ) → tree_size (seeded unit form d) ≤ max_tree_nodes
  pub shallow : (unit form : ℕ) → tree_depth (seeded unit form d) ≤ max_tree_depth
