-- Nodes without parts, and the trees that they are of.
use Rattle.std.proofs.Common.{◌≡◌, ℕ, Bool, List, slice_get, Option, Some, Result, Ok, Err, refl, sym, ap, ◌∙◌, subst}
use Rattle.std.specs.Prelude.{IsErr}
use Rattle.std.specs.Option.{option_map}
use Rattle.std.specs.Str.{chars, IsUtf8, encode_utf8_all}
use Rattle.std.proofs.lemmas.Str.{encodes-chars}
use Rattle.ls_base.specs.declared.memory.Memory.{Memory}
use Rattle.scheme_model.specs.declared.Occ.{Occ}
use Rattle.scheme_model.specs.Trees.{Tree, name, atom, Numeral, Quoted, Bytes}
use Rattle.scheme_model.specs.Data.{spelled}
use Rattle.datum_reader.specs.declared.datum.Atom as code_atom
use Rattle.datum_reader.specs.declared.datum.Atom.TheVariants as atoms
use Rattle.datum_reader.specs.Views.{leaf_of}
use Rattle.scheme_model.specs.Ident.{Ident as Identifier, Written}
use Rattle.syntax_tree.specs.Names.{Names, KeepsNames, with_symbol, with_ident}
use Rattle.syntax_tree.specs.Numbered.{ident_of}
use Rattle.syntax_tree.specs.Interned.{symbol_in, name_in, interned}
use Rattle.syntax_tree.specs.declared.symbols.Ident.TheVariants as entry
use Rattle.syntax_tree.specs.declared.trees.nodes.Leaf.TheVariants as leaf
use Rattle.syntax_tree.specs.declared.trees.nodes.Node.{Node}
use Rattle.syntax_tree.specs.declared.trees.nodes.Node.TheVariants as node
use Rattle.syntax_tree.proofs.InternLaws.{interned_keeps}
use Rattle.datum_reader.specs.Seeded.{atom_tree}
use Rattle.datum_reader.specs.Seeding.{Interns}
use Rattle.datum_reader.proofs.Growing.{names_itself}

-- a text is the encoding of its characters
pub encoded-same : (text bytes : List ℕ) → bytes ≡ text → IsUtf8 bytes → bytes ≡ encode_utf8_all (chars text)
encoded-same text bytes e utf8 = sym (encodes-chars bytes utf8) ∙ ap (λ (s : List ℕ). encode_utf8_all (chars s)) e

-- ---- the tree of an atom, by its token

module _ (unit : ℕ) (o : Occ) (a : code_atom.Atom) (text bytes : List ℕ) (same : bytes ≡ text) (utf8 : IsUtf8 bytes) where
  pub name_is : (bars : Bool) → a ≡ atoms.Name text bars → atom_tree unit (spelled (leaf_of a)) o ≡ name (Written unit bytes) (Some o)
  name_is bars is = ap (λ (x : code_atom.Atom). atom_tree unit (spelled (leaf_of x)) o) is ∙ ap (λ (s : List ℕ). name (Written unit s) (Some o)) (sym (encoded-same text bytes same utf8))

  pub numeral_is : a ≡ atoms.Numeral text → atom_tree unit (spelled (leaf_of a)) o ≡ atom (Numeral bytes) (Some o)
  numeral_is is = ap (λ (x : code_atom.Atom). atom_tree unit (spelled (leaf_of x)) o) is ∙ ap (λ (s : List ℕ). atom (Numeral s) (Some o)) (sym (encoded-same text bytes same utf8))

  pub quoted_is : a ≡ atoms.Quoted text → atom_tree unit (spelled (leaf_of a)) o ≡ atom (Quoted bytes) (Some o)
  quoted_is is = ap (λ (x : code_atom.Atom). atom_tree unit (spelled (leaf_of x)) o) is ∙ ap (λ (s : List ℕ). atom (Quoted s) (Some o)) (sym (encoded-same text bytes same utf8))

-- ---- making a node

-- a node of one tree is of the same tree
pub interns_as : (old new : Names) (t u : Tree Identifier) (r : Result Node Memory) → u ≡ t → Interns old new t r → Interns old new u r
interns_as old new t u r same h = subst (λ (x : Tree Identifier). Interns old new x r) (sym same) h

-- memory ran out
pub interns_err : (old new : Names) (t : Tree Identifier) (r : Result Node Memory) → IsErr r → KeepsNames old new × KeepsNames new (interned t old) → Interns old new t r
interns_err old new t (Ok n) h p = absurd cc
interns_err old new t (Err e) h p = p

-- before a name was added
pub interns_none : (old new : Names) (t : Tree Identifier) (r : Result Node Memory) → IsErr r → new ≡ old → Interns old new t r
interns_none old new t r h same =
    interns_err old new t r h (subst (λ (n : Names). KeepsNames old n × KeepsNames n (interned t old)) (sym same) (names_itself old, interned_keeps t old))

-- a leaf that is kept by a symbol
module _ (old new : Names) (o : Option Occ) (k : ℕ) (bytes : List ℕ) (there : slice_get new.symbols k ≡ Some bytes) (symbols : new.symbols ≡ with_symbol old.symbols bytes) (idents : new.idents ≡ old.idents) where
  tables : new ≡ symbol_in bytes old
  tables = λ j. record { symbols = symbols j; idents = idents j }

  pub numeral_made : (n : Node) → n ≡ node.Atom (leaf.Numeral k) o → Interns old new (atom (Numeral bytes) o) (Ok n)
  numeral_made n made =
      subst (λ (x : Node). Interns old new (atom (Numeral bytes) o) (Ok x)) (sym made)
      (record { alone = refl; tree = λ nodes. ap (option_map (λ (s : List ℕ). atom (Numeral s) o)) there }, tables)

  pub quoted_made : (n : Node) → n ≡ node.Atom (leaf.Quoted k) o → Interns old new (atom (Quoted bytes) o) (Ok n)
  quoted_made n made =
      subst (λ (x : Node). Interns old new (atom (Quoted bytes) o) (Ok x)) (sym made)
      (record { alone = refl; tree = λ nodes. ap (option_map (λ (s : List ℕ). atom (Quoted s) o)) there }, tables)

  pub bytes_made : (n : Node) → n ≡ node.Atom (leaf.Bytes k) o → Interns old new (atom (Bytes bytes) o) (Ok n)
  bytes_made n made =
      subst (λ (x : Node). Interns old new (atom (Bytes bytes) o) (Ok x)) (sym made)
      (record { alone = refl; tree = λ nodes. ap (option_map (λ (s : List ℕ). atom (Bytes s) o)) there }, tables)

-- an identifier, behind its symbol
module _ (old mid new : Names) (unit k : ℕ) (o : Option Occ) (bytes : List ℕ) (there : slice_get mid.symbols k ≡ Some bytes) (symbols : mid.symbols ≡ with_symbol old.symbols bytes) (idents : mid.idents ≡ old.idents) where
  written : ident_of mid (entry.Written unit k) ≡ Some (Written unit bytes)
  written = ap (option_map (Written unit)) there

  pub name_made : (i : ℕ) (n : Node) → slice_get new.idents i ≡ ident_of mid (entry.Written unit k) → new.symbols ≡ mid.symbols →
      ((d : Identifier) → ident_of mid (entry.Written unit k) ≡ Some d → new.idents ≡ with_ident mid.idents d) → n ≡ node.Atom (leaf.Name i) o → Interns old new (name (Written unit bytes) o) (Ok n)
  name_made i n at same grows made =
      let all : new ≡ name_in (Written unit bytes) old =
      λ j. record { symbols = (same ∙ symbols) j; idents = (grows (Written unit bytes) written ∙ ap (λ (is : List Identifier). with_ident is (Written unit bytes)) idents) j } in
      subst (λ (x : Node). Interns old new (name (Written unit bytes) o) (Ok x)) (sym made)
      (record { alone = refl; tree = λ nodes. ap (option_map (λ (j : Identifier). name j o)) (at ∙ written) }, all)

  -- memory ran out behind the symbol
  pub name_begun : KeepsNames old mid × KeepsNames mid (interned (name (Written unit bytes) o) old)
  name_begun =
      let only : mid ≡ symbol_in bytes old = λ j. record { symbols = symbols j; idents = idents j } in
      subst (λ (n : Names). KeepsNames old n × KeepsNames n (interned (name (Written unit bytes) o) old)) (sym only) (
        interned_keeps (atom (Numeral bytes) o) old,
        record { symbols = λ n s h. h; idents = (interned_keeps (name (Written unit bytes) o) old).idents },
      )
