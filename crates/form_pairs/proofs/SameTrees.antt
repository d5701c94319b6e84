-- When the trees of two data are the same, by their shapes.
use Rattle.std.proofs.Common.{◌≡◌, ◌≢◌, ℕ, suc, List, [], ◌∷◌, map, Bool, true, false, ◌&&◌, length, Option, Some, None, refl, sym, ap, ◌∙◌, arith}
use Rattle.std.specs.Prelude.{Vec}
use Rattle.std.specs.Global.{Box}
use Rattle.std.specs.Str.{bytes_eq, chars, IsUtf8, encode_utf8_all}
use Rattle.std.specs.declared.alloc.Global.{Global}
use Rattle.scheme_model.specs.declared.Occ.{Occ}
use Rattle.scheme_model.specs.Data.{spelled, Datum, row}
use Rattle.scheme_model.specs.DataTrees.{tree_of, parts_of, end_of}
use Rattle.scheme_model.specs.Entries.{same_occ}
use Rattle.scheme_model.specs.Trees.{Tree, list as list_of, vector as vector_of, Trees, tree, Tail}
use Rattle.datum_reader.specs.Views.{Shared, datum_of, data_of, end_data}
use Rattle.datum_reader.specs.declared.datum.Atom as code_atom
use Rattle.datum_reader.specs.declared.datum.Atom.TheVariants as atoms
use Rattle.datum_reader.specs.declared.datum.Datum as code
use Rattle.datum_reader.specs.declared.datum.Shape.TheVariants as shape
use Rattle.datum_reader.proofs.LeafLaws.{encoded-same}
use Rattle.datum_reader.proofs.SeedLaws.{datum-list, datum-vector}
use Rattle.carried_forms.specs.Alike.{same_tree, same_trees, same_tail}
use Rattle.form_pairs.specs.Trees.{token_at, tree_as, parts_as, end_as, atom_as}

-- ---- atoms

module _ (a b : code_atom.Atom) (x y s t : List ℕ) (left : s ≡ x) (first : IsUtf8 s) (right : t ≡ y) (second : IsUtf8 t) (r : Bool) (same : r ≡ bytes_eq s t) where
  texts_same : bytes_eq (encode_utf8_all (chars x)) (encode_utf8_all (chars y)) ≡ r
  texts_same = sym (same ∙ (λ j. bytes_eq (encoded-same x s left first j) (encoded-same y t right second j)))

  pub names_same : (bars mine : Bool) → a ≡ atoms.Name x bars → b ≡ atoms.Name y mine → (o p : Occ) → same_tree bytes_eq (atom_as o a) (atom_as p b) ≡ r && same_occ o p
  names_same bars mine is other o p = (λ j. same_tree bytes_eq (atom_as o (is j)) (atom_as p (other j))) ∙ ap (λ (c : Bool). c && same_occ o p) texts_same

  pub numerals_same : a ≡ atoms.Numeral x → b ≡ atoms.Numeral y → (o p : Occ) → same_tree bytes_eq (atom_as o a) (atom_as p b) ≡ r && same_occ o p
  numerals_same is other o p = (λ j. same_tree bytes_eq (atom_as o (is j)) (atom_as p (other j))) ∙ ap (λ (c : Bool). c && same_occ o p) texts_same

  pub quoted_same : a ≡ atoms.Quoted x → b ≡ atoms.Quoted y → (o p : Occ) → same_tree bytes_eq (atom_as o a) (atom_as p b) ≡ r && same_occ o p
  quoted_same is other o p = (λ j. same_tree bytes_eq (atom_as o (is j)) (atom_as p (other j))) ∙ ap (λ (c : Bool). c && same_occ o p) texts_same

-- ---- parts

parts_row : (first : ℕ) (ds : List code.Datum) (end : Option (Box code.Datum)) → parts_of (λ s. s) (token_at first) (row (data_of ds) (end_data end)) ≡ parts_as first ds
parts_row first [] None = refl
parts_row first [] (Some d) = refl
parts_row first (d ∷ ds) end = ap (tree (tree_as first d)) (parts_row first ds end)

end_row : (first : ℕ) (ds : List code.Datum) (end : Option (Box code.Datum)) → end_of (λ s. s) (token_at first) (row (data_of ds) (end_data end)) ≡ end_as first end
end_row first [] None = refl
end_row first [] (Some d) = refl
end_row first (d ∷ ds) end = end_row first ds end

both_false : (b c : Bool) → c ≡ false → b && c ≡ false
both_false true c h = h
both_false false c h = refl

-- rows of different lengths aren't the same
pub lengths_differ : (first other : ℕ) (ds es : List code.Datum) → length ds ≢ length es → same_trees bytes_eq (parts_as first ds) (parts_as other es) ≡ false
lengths_differ first other [] [] differ = absurd (differ refl)
lengths_differ first other [] (e ∷ es) differ = refl
lengths_differ first other (d ∷ ds) [] differ = refl
lengths_differ first other (d ∷ ds) (e ∷ es) differ =
    both_false (same_tree bytes_eq (tree_as first d) (tree_as other e)) (same_trees bytes_eq (parts_as first ds) (parts_as other es)) (lengths_differ first other ds es (λ same. differ (ap suc same)))

-- ---- vectors and lists

module _ (first other : ℕ) (a b : code.Datum) where
  vector_as : (n : ℕ) (d : code.Datum) (xs : Shared) → d.shape ≡ shape.Vector xs → tree_as n d ≡ vector_of (parts_as n xs.value.items) (Some (token_at n d.first))
  vector_as n d xs is = ap (λ (t : Datum). tree_of (λ s. s) (token_at n) t) (datum-vector d xs is) ∙ ap (λ (ts : Trees (List ℕ)). vector_of ts (Some (token_at n d.first))) (parts_row n xs.value.items None)

  list_as : (n : ℕ) (d : code.Datum) (xs : Shared) (end : Option (Box code.Datum)) → d.shape ≡ shape.List xs end →
      tree_as n d ≡ list_of (parts_as n xs.value.items) (end_as n end) (Some (token_at n d.first))
  list_as n d xs end is =
      ap (λ (t : Datum). tree_of (λ s. s) (token_at n) t) (datum-list d xs end is)
      ∙ (λ j. list_of (parts_row n xs.value.items end j) (end_row n xs.value.items end j) (Some (token_at n d.first)))

  pub vectors_same : (xs ys : Shared) → a.shape ≡ shape.Vector xs → b.shape ≡ shape.Vector ys → (parts starts : Bool) → parts ≡ same_trees bytes_eq (parts_as first xs.value.items) (parts_as other ys.value.items) →
      starts ≡ same_occ (token_at first a.first) (token_at other b.first) → parts && starts ≡ same_tree bytes_eq (tree_as first a) (tree_as other b)
  vectors_same xs ys is too parts starts p s = (λ j. p j && s j) ∙ sym (λ j. same_tree bytes_eq (vector_as first a xs is j) (vector_as other b ys too j))

  pub lists_same : (xs ys : Shared) (end tail : Option (Box code.Datum)) → a.shape ≡ shape.List xs end → b.shape ≡ shape.List ys tail → (parts ends starts : Bool) →
      parts ≡ same_trees bytes_eq (parts_as first xs.value.items) (parts_as other ys.value.items) → ends ≡ same_tail bytes_eq (end_as first end) (end_as other tail) →
      starts ≡ same_occ (token_at first a.first) (token_at other b.first) → parts && (ends && starts) ≡ same_tree bytes_eq (tree_as first a) (tree_as other b)
  lists_same xs ys end tail is too parts ends starts p e s = (λ j. p j && (e j && s j)) ∙ sym (λ j. same_tree bytes_eq (list_as first a xs end is j) (list_as other b ys tail too j))
