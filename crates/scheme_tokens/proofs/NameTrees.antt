-- The name that a tree is has a part at least, and proper ones, where the tree's symbols are the bytes of their characters.
use Rattle.std.proofs.Common.{◌≡◌, ℕ, Bool, true, false, cond, List, [], ◌∷◌, Result, Ok, Err, IfOk, refl}
use Rattle.std.specs.List.{list_all}
use Rattle.std.specs.Char.{is_ascii_digit}
use Rattle.scheme_model.specs.declared.Occ.{Occ}
use Rattle.scheme_model.specs.Kinds.{Mark, Quote, Quasi, Unquote, Splice, Name, Numeral as NumeralLeaf, Quoted as QuotedLeaf, Character as CharacterLeaf, Truth}
use Rattle.scheme_model.specs.Data.{Atom, spelled, implied, Datum, atom as atom_datum, list as list_datum, vector as vector_datum, bytes, Data, none, part, tail}
use Rattle.scheme_model.specs.DataTrees as trees
use Rattle.scheme_model.specs.Declarations.{symbol_tree}
use Rattle.scheme_model.specs.Trees.{Numeral, Quoted, Character, Boolean, Bytes, Tree, name, atom, list, vector, Trees, no_trees, tree, proper, dotted}
use Rattle.scheme_model.specs.ExpansionFaults.{Fault, BadForm, ◌>>◌}
use Rattle.scheme_model.specs.Requirements.{LibraryPart, Digits, LibraryName, part_of, parts_of, library_name_of}
use Rattle.scheme_tokens.specs.Symbols.{IsEncoded, HasEncoded, HaveEncoded, TailEncoded}
use Rattle.scheme_tokens.specs.LibraryNames.{IsProperPart, AreProper, IsProper}
use Rattle.scheme_tokens.proofs.Decoded.{bytes_encoded, is_encoded}
use Rattle.scheme_tokens.proofs.PartChars.{small_bytes}

-- ---- names

abbrev digits_or : (A : Type 0) → List ℕ → Bool → Result LibraryPart (Fault A)
digits_or A s b = cond b (Ok (Digits s)) (Err BadForm)

digits_proper : (A : Type 0) (s : List ℕ) (b : Bool) → list_all is_ascii_digit s ≡ b → IfOk (digits_or A s b) IsProperPart
digits_proper A s true e = e
digits_proper A s false e = tt

part_proper : {A : Type 0} (strip : A → List ℕ) (t : Tree A) → HasEncoded strip t → IfOk (part_of strip t) IsProperPart
part_proper {A} strip (name i o) h = h
part_proper {A} strip (atom (Numeral s) o) h = digits_proper A s (list_all is_ascii_digit s) refl
part_proper {A} strip (atom (Quoted s) o) h = tt
part_proper {A} strip (atom (Character c) o) h = tt
part_proper {A} strip (atom (Boolean b) o) h = tt
part_proper {A} strip (atom (Bytes s) o) h = tt
part_proper {A} strip (list ts end o) h = tt
part_proper {A} strip (vector ts o) h = tt

joined_proper : {A : Type 0} (r : Result LibraryPart (Fault A)) (rest : Result LibraryName (Fault A)) → IfOk r IsProperPart → IfOk rest AreProper → IfOk (r >> λ p. rest >> λ ps. Ok (p ∷ ps)) IsProper
joined_proper (Ok p) (Ok ps) h k = (h, k)
joined_proper (Ok p) (Err e) h k = tt
joined_proper (Err e) rest h k = tt

weaker : {A : Type 0} (r : Result LibraryName (Fault A)) → IfOk r IsProper → IfOk r AreProper
weaker (Ok []) h = tt
weaker (Ok (p ∷ ps)) h = h
weaker (Err e) h = tt

parts_proper : {A : Type 0} (strip : A → List ℕ) (ts : Trees A) → HaveEncoded strip ts → IfOk (parts_of strip ts) AreProper
parts_proper strip no_trees h = tt
parts_proper strip (tree t ts) h = weaker (parts_of strip (tree t ts)) (joined_proper (part_of strip t) (parts_of strip ts) (part_proper strip t h.0) (parts_proper strip ts h.1))

row_proper : {A : Type 0} (strip : A → List ℕ) (t : Tree A) (ts : Trees A) → HasEncoded strip t → HaveEncoded strip ts → IfOk (parts_of strip (tree t ts)) IsProper
row_proper strip t ts h k = joined_proper (part_of strip t) (parts_of strip ts) (part_proper strip t h) (parts_proper strip ts k)

pub name_proper : {A : Type 0} (strip : A → List ℕ) (t : Tree A) → HasEncoded strip t → IfOk (library_name_of strip t) IsProper
name_proper strip (name i o) h = tt
name_proper strip (atom a o) h = tt
name_proper strip (list no_trees end o) h = tt
name_proper strip (list (tree t ts) proper o) h = row_proper strip t ts h.0.0 h.0.1
name_proper strip (list (tree t ts) (dotted u) o) h = tt
name_proper strip (vector ts o) h = tt

-- ---- the trees of data

mark_encoded : (m : Mark) → IsEncoded (trees.mark_symbol m)
mark_encoded Quote = is_encoded (trees.mark_symbol Quote) (trees.mark_symbol Quote) (small_bytes (trees.mark_symbol Quote) refl)
mark_encoded Quasi = is_encoded (trees.mark_symbol Quasi) (trees.mark_symbol Quasi) (small_bytes (trees.mark_symbol Quasi) refl)
mark_encoded Unquote = is_encoded (trees.mark_symbol Unquote) (trees.mark_symbol Unquote) (small_bytes (trees.mark_symbol Unquote) refl)
mark_encoded Splice = is_encoded (trees.mark_symbol Splice) (trees.mark_symbol Splice) (small_bytes (trees.mark_symbol Splice) refl)

abbrev itself : List ℕ → List ℕ
itself s = s

atom_encoded : (a : Atom) (o : Occ) → HasEncoded itself (trees.atom_tree itself a o)
atom_encoded (spelled (Name s bars)) o = bytes_encoded s
atom_encoded (spelled (NumeralLeaf s)) o = tt
atom_encoded (spelled (QuotedLeaf s)) o = tt
atom_encoded (spelled (CharacterLeaf c)) o = tt
atom_encoded (spelled (Truth b)) o = tt
atom_encoded (implied m) o = mark_encoded m

mutual
  pub tree_encoded : (place : ℕ → Occ) (d : Datum) → HasEncoded (λ s. s) (trees.tree_of (λ s. s) place d)
  tree_encoded place (atom_datum p k) = atom_encoded k (place p.first)
  tree_encoded place (list_datum p ds) = (parts_encoded place ds, end_encoded place ds)
  tree_encoded place (vector_datum p ds) = parts_encoded place ds
  tree_encoded place (bytes p texts) = tt

  parts_encoded : (place : ℕ → Occ) (ds : Data) → HaveEncoded (λ s. s) (trees.parts_of (λ s. s) place ds)
  parts_encoded place none = tt
  parts_encoded place (part d ds) = (tree_encoded place d, parts_encoded place ds)
  parts_encoded place (tail d) = tt

  end_encoded : (place : ℕ → Occ) (ds : Data) → TailEncoded (λ s. s) (trees.end_of (λ s. s) place ds)
  end_encoded place none = tt
  end_encoded place (part d ds) = end_encoded place ds
  end_encoded place (tail d) = tree_encoded place d

pub datum_encoded : (d : Datum) → HasEncoded (λ s. s) (symbol_tree d)
datum_encoded d = tree_encoded (λ n. record { unit = 0; form = 0; token = n }) d

pub datum_name_proper : (d : Datum) → IfOk (library_name_of (λ s. s) (symbol_tree d)) IsProper
datum_name_proper d = name_proper (λ s. s) (symbol_tree d) (datum_encoded d)
