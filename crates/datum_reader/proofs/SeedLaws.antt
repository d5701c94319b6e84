-- The tree of a datum of the code by its shape, and what its parts are.
use Rattle.std.proofs.Common.{◌≡◌, ℕ, zero, suc, ◌+◌, ◌≤◌, List, [], ◌∷◌, map, length, slice_get, Option, Some, None, All, refl, sym, ap, ◌∙◌, subst, arith}
use Rattle.std.specs.Prelude.{Vec}
use Rattle.std.specs.Global.{Box}
use Rattle.std.specs.List.{join_with_byte}
use Rattle.std.specs.Option.{option_map}
use Rattle.std.specs.Str.{chars, IsUtf8, encode_utf8_all}
use Rattle.std.specs.declared.alloc.Global.{Global}
use Rattle.ls_base.specs.Limits.{max_text, max_tree_nodes, max_tree_depth}
use Rattle.std.proofs.lemmas.Option.{slice_get-map}
use Rattle.scheme_model.specs.declared.Home.{Home}
use Rattle.scheme_model.specs.declared.Occ.{Occ}
use Rattle.scheme_model.specs.Trees.{Bytes, Tree, atom as atom_of, list as list_of, vector as vector_of, tree, placed_by}
use Rattle.datum_reader.specs.declared.datum.Atom as code_atom
use Rattle.datum_reader.specs.declared.datum.Mark as code_mark
use Rattle.datum_reader.specs.Views.{Shared, leaf_of, mark_of, shape_step, datum_step, placed, shape_of, datum_of, data_of, end_data}
use Rattle.scheme_model.specs.Ident.{Ident as Identifier}
use Rattle.scheme_model.specs.Measures.{tree_size, trees_size, tail_size, tree_depth}
use Rattle.datum_reader.specs.declared.datum.Datum as code
use Rattle.datum_reader.specs.declared.datum.Shape.{Shape}
use Rattle.datum_reader.specs.declared.datum.Shape.TheVariants as shape
use Rattle.datum_reader.specs.declared.datum.Shape.TheOpen.{Shape-F}
use Rattle.datum_reader.specs.declared.datum.Shape.TheFolds.{fold-roll-Shape}
use Rattle.scheme_model.specs.Data.{Place, Atom, spelled, implied, Datum, atom, list, vector, bytes, Data, none, row}
use Rattle.datum_reader.specs.WellFormed.{AreWellFormed, WasRead, CanSeed}
use Rattle.datum_reader.specs.Seeded.{atom_tree, tree_of, parts_of, end_of}
use Rattle.datum_reader.specs.Seeding.{part_tree, parts_trees, tail_tree, CanBeSeeded, TailCanBeSeeded}
use Rattle.datum_reader.specs.Texts.{IsReading}
use Rattle.scheme_tokens.proofs.Fronts.{byte_count-chars}
use Rattle.datum_reader.proofs.ReadParts.{datum_was_read}
use Rattle.datum_reader.proofs.Measured.{data_size, data_depth, atom-size, vector-size, vector-depth, size_is, depth_is, seedable, is_small, is_shallow}
use Rattle.datum_reader.proofs.DatumLaws.{datum_is, list-shape}

-- ---- what data are, by their shapes

abbrev at : code.Datum → Place
at d = placed d.first d.last d.span

datum-at : (d : code.Datum) (s : Shape) → d.shape ≡ s → datum_of d ≡ shape_of s (at d)
datum-at d s e = datum_is d ∙ ap (λ (x : Shape). shape_of x (at d)) e

pub datum-atom : (d : code.Datum) (a : code_atom.Atom) → d.shape ≡ shape.Atom a → datum_of d ≡ atom (at d) (spelled (leaf_of a))
datum-atom d a e =
    datum-at d (shape.Atom a) e ∙ ap (λ (s : Shape). shape_of s (at d)) (sym (shape.rolls-Atom a))
    ∙ ap (λ (g : Place → Datum). g (at d)) (fold-roll-Shape (Place → Datum) Datum shape_step datum_step (Shape-F.Atom a))

pub datum-implied : (d : code.Datum) (mark : code_mark.Mark) → d.shape ≡ shape.Implied mark → datum_of d ≡ atom (at d) (implied (mark_of mark))
datum-implied d mark e =
    datum-at d (shape.Implied mark) e ∙ ap (λ (s : Shape). shape_of s (at d)) (sym (shape.rolls-Implied mark))
    ∙ ap (λ (g : Place → Datum). g (at d)) (fold-roll-Shape (Place → Datum) Datum shape_step datum_step (Shape-F.Implied mark))

pub datum-bytes : (d : code.Datum) (texts : Vec (List ℕ) Global) → d.shape ≡ shape.Bytes texts → datum_of d ≡ bytes (at d) (map chars texts.items)
datum-bytes d texts e =
    datum-at d (shape.Bytes texts) e ∙ ap (λ (s : Shape). shape_of s (at d)) (sym (shape.rolls-Bytes texts))
    ∙ ap (λ (g : Place → Datum). g (at d)) (fold-roll-Shape (Place → Datum) Datum shape_step datum_step (Shape-F.Bytes texts))

pub datum-vector : (d : code.Datum) (xs : Shared) → d.shape ≡ shape.Vector xs → datum_of d ≡ vector (at d) (row (data_of xs.value.items) none)
datum-vector d xs e =
    datum-at d (shape.Vector xs) e ∙ ap (λ (s : Shape). shape_of s (at d)) (sym (shape.rolls-Vector xs))
    ∙ ap (λ (g : Place → Datum). g (at d)) (fold-roll-Shape (Place → Datum) Datum shape_step datum_step (Shape-F.Vector xs))

pub datum-list : (d : code.Datum) (xs : Shared) (end : Option (Box code.Datum)) → d.shape ≡ shape.List xs end → datum_of d ≡ list (at d) (row (data_of xs.value.items) (end_data end))
datum-list d xs end e = datum-at d (shape.List xs end) e ∙ list-shape xs end (at d)

-- ---- parts of what trees can be made of

all_cons : {X : Type 0} (P : X → Type 0) (x : X) (xs : List X) → P x → All P xs → All P (x ∷ xs)
all_cons P x xs p q zero d lt = p
all_cons P x xs p q (suc k) d lt = q k d (omega arith)

-- trees can be made of these data
record CanSeedAll (ds : Data) : Type 0 where
  right : AreWellFormed ds
  small : data_size ds ≤ max_tree_nodes
  shallow : data_depth ds ≤ max_tree_depth

parts_can : (ds : List code.Datum) (end : Data) → CanSeedAll (row (data_of ds) end) → All CanBeSeeded ds
parts_can [] end h = λ k d lt. absurd (omega arith)
parts_can (d ∷ ds) end h =
    all_cons CanBeSeeded d ds
    (seedable (datum_of d) h.right.0 (omega (arith, h.small)) (omega (arith, h.shallow)))
    (parts_can ds end (record { right = h.right.1; small = omega (arith, h.small); shallow = omega (arith, h.shallow) }))

end_can : (ds : List code.Datum) (end : Data) → CanSeedAll (row (data_of ds) end) → CanSeedAll end
end_can [] end h = h
end_can (d ∷ ds) end h = end_can ds end (record { right = h.right.1; small = omega (arith, h.small); shallow = omega (arith, h.shallow) })

tail_can : (end : Option (Box code.Datum)) → CanSeedAll (end_data end) → TailCanBeSeeded end
tail_can None h = tt
tail_can (Some d) h = (h.right.0, seedable (datum_of d.value) h.right.1 (omega (arith, h.small)) (omega (arith, h.shallow)))

-- ---- the tree

module _ (into : ℕ) (home : Home) where
  abbrev tree_at : Datum → Tree Identifier
  tree_at = tree_of into (placed_by home)

  abbrev place : code.Datum → Occ
  place d = placed_by home d.first

  parts-row : (ds : List code.Datum) (end : Option (Box code.Datum)) → parts_of into (placed_by home) (row (data_of ds) (end_data end)) ≡ parts_trees into home ds
  parts-row [] None = refl
  parts-row [] (Some d) = refl
  parts-row (d ∷ ds) end = ap (tree (part_tree into home d)) (parts-row ds end)

  end-row : (ds : List code.Datum) (end : Option (Box code.Datum)) → end_of into (placed_by home) (row (data_of ds) (end_data end)) ≡ tail_tree into home end
  end-row [] None = refl
  end-row [] (Some d) = refl
  end-row (d ∷ ds) end = end-row ds end

  pub small_tree : (d : code.Datum) → CanBeSeeded d → tree_size (part_tree into home d) ≤ max_tree_nodes
  small_tree d h = omega (arith, size_is into (placed_by home) (datum_of d), is_small (datum_of d) h)

  pub shallow_tree : (d : code.Datum) → CanBeSeeded d → tree_depth (part_tree into home d) ≤ max_tree_depth
  shallow_tree d h = omega (arith, depth_is into (placed_by home) (datum_of d), is_shallow (datum_of d) h)

  -- what the parts of a list are, and its tree
  pub record ListParts (d : code.Datum) (o : Occ) (ds : List code.Datum) (end : Option (Box code.Datum)) : Type 0 where
    pub parts : All CanBeSeeded ds
    pub tail : TailCanBeSeeded end
    pub whole : part_tree into home d ≡ list_of (parts_trees into home ds) (tail_tree into home end) (Some o)
    pub size : (trees_size (parts_trees into home ds) + tail_size (tail_tree into home end)) + 1 ≡ tree_size (part_tree into home d)

  pub list_parts : (d : code.Datum) (o : Occ) (xs : Shared) (ds : List code.Datum) (end : Option (Box code.Datum)) → d.shape ≡ shape.List xs end → ds ≡ xs.value.items →
      o ≡ place d → CanBeSeeded d → ListParts d o ds end
  list_parts d o xs ds end e same here h =
      let is : datum_of d ≡ list (at d) (row (data_of ds) (end_data end)) =
      datum-list d xs end e ∙ ap (λ (l : List code.Datum). list (at d) (row (data_of l) (end_data end))) (sym same) in
      let t : part_tree into home d ≡ list_of (parts_trees into home ds) (tail_tree into home end) (Some o) =
      ap tree_at is ∙ (λ j. list_of (parts-row ds end j) (end-row ds end j) (Some (sym here j))) in
      let size : tree_size (part_tree into home d) ≡ 1 + (trees_size (parts_trees into home ds) + tail_size (tail_tree into home end)) = ap (λ (x : Tree Identifier). tree_size x) t in
      let l = list (at d) (row (data_of ds) (end_data end)) in
      let can : CanSeed l = subst CanSeed is h in
      let all : CanSeedAll (row (data_of ds) (end_data end)) = record { right = can.right; small = omega (arith, is_small l can); shallow = omega (arith, is_shallow l can) } in
      record {
        parts = parts_can ds (end_data end) all;
        tail = tail_can end (end_can ds (end_data end) all);
        whole = t;
        size = omega (arith, size);
      }

  -- the same of a vector
  pub record VectorParts (d : code.Datum) (o : Occ) (ds : List code.Datum) : Type 0 where
    pub parts : All CanBeSeeded ds
    pub whole : part_tree into home d ≡ vector_of (parts_trees into home ds) (Some o)
    pub size : trees_size (parts_trees into home ds) + 1 ≡ tree_size (part_tree into home d)

  pub vector_parts : (d : code.Datum) (o : Occ) (xs : Shared) (ds : List code.Datum) → d.shape ≡ shape.Vector xs → ds ≡ xs.value.items → o ≡ place d →
      CanBeSeeded d → VectorParts d o ds
  vector_parts d o xs ds e same here h =
      let is : datum_of d ≡ vector (at d) (row (data_of ds) none) =
      datum-vector d xs e ∙ ap (λ (l : List code.Datum). vector (at d) (row (data_of l) none)) (sym same) in
      let t : part_tree into home d ≡ vector_of (parts_trees into home ds) (Some o) =
      ap tree_at is ∙ (λ j. vector_of (parts-row ds None j) (Some (sym here j))) in
      let size : tree_size (part_tree into home d) ≡ 1 + trees_size (parts_trees into home ds) = ap (λ (x : Tree Identifier). tree_size x) t in
      let v = vector (at d) (row (data_of ds) none) in
      let can : CanSeed v = subst CanSeed is h in
      record {
        parts = parts_can ds none (record { right = can.right; small = omega (arith, vector-size (at d) (data_of ds), is_small v can); shallow = omega (arith, vector-depth (at d) (data_of ds), is_shallow v can) });
        whole = t;
        size = omega (arith, size);
      }

  -- an atom and a bytevector have one node
  pub atom_whole : (d : code.Datum) (o : Occ) (a : Atom) → datum_of d ≡ atom (at d) a → o ≡ place d → part_tree into home d ≡ atom_tree into a o
  atom_whole d o a e here = ap tree_at e ∙ ap (atom_tree into a) (sym here)

  pub atom_part-size : (d : code.Datum) (a : Atom) → datum_of d ≡ atom (at d) a → 0 + 1 ≡ tree_size (part_tree into home d)
  atom_part-size d a e = let size = ap (λ (x : Datum). tree_size (tree_at x)) e ∙ atom-size into a (place d) in omega (arith, size)

  pub bytes_whole : (d : code.Datum) (o : Occ) (xs : Vec (List ℕ) Global) (texts : List (List ℕ)) → d.shape ≡ shape.Bytes xs → texts ≡ xs.items → o ≡ place d →
      part_tree into home d ≡ atom_of (Bytes (join_with_byte 32 (map encode_utf8_all (map chars texts)))) (Some o)
  bytes_whole d o xs texts e same here =
      ap tree_at (datum-bytes d xs e) ∙ (λ j. atom_of (Bytes (join_with_byte 32 (map encode_utf8_all (map chars (sym same j))))) (Some (sym here j)))

  pub bytes-size : (d : code.Datum) (texts : Vec (List ℕ) Global) → d.shape ≡ shape.Bytes texts → 0 + 1 ≡ tree_size (part_tree into home d)
  bytes-size d texts e = let size = ap (λ (x : Datum). tree_size (tree_at x)) (datum-bytes d texts e) in omega (arith, size)

-- ---- what may be seeded

-- the data that are read from a text of at most 1,048,576 bytes
pub item_was_read : (text : List ℕ) (items : List code.Datum) (n : ℕ) (d : code.Datum) → IsUtf8 text → length text ≤ max_text → IsReading (chars text) (data_of items) → slice_get items n ≡ Some d →
    WasRead (datum_of d)
item_was_read text items n d utf8 fits reading at =
    datum_was_read (chars text) (data_of items) n (datum_of d) (omega (arith, byte_count-chars text utf8, fits)) reading (slice_get-map datum_of items n ∙ ap (option_map datum_of) at)
