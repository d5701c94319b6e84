-- What stands in a work under new numbers.
use Rattle.std.proofs.Common.{◌≡◌, ℕ, Bool, true, false, List, [], ◌∷◌, map, slice_get, Option, Some, None, refl, sym, ap, ◌∙◌, subst, arith}
use Rattle.std.specs.Prelude.{IsSome}
use Rattle.std.specs.Option.{option_map}
use Rattle.std.specs.FinMap as finite
use Rattle.std.proofs.lemmas.List.{length-map}
use Rattle.std.proofs.lemmas.Option.{slice_get-map}
use Rattle.syntax_tree.proofs.Places.{get_within}
use Rattle.scheme_model.specs.declared.Occ.{Occ}
use Rattle.scheme_model.specs.Trees.{Numeral, Quoted, Bytes, Tree, name, atom, list, vector, Trees, no_trees, tree, Tail, proper, dotted}
use Rattle.scheme_model.specs.Identifiers.{Number}
use Rattle.scheme_model.specs.Ident.{Ident as Identifier, Written, Inserted, same_ident}
use Rattle.syntax_tree.specs.Names.{Names, AreToldApart}
use Rattle.syntax_tree.specs.Nodes.{Shape, leaf_shape, list_shape, vector_shape, Lived, Nodes, shape_at, region_at}
use Rattle.syntax_tree.specs.NodePlaces.{place_in, placed_at}
use Rattle.syntax_tree.specs.Regions.{Forest, Regions, Outlives, MayName}
use Rattle.syntax_tree.specs.Standing.{is_list, leaf_tree, Stands, AllStand, TailStands}
use Rattle.syntax_tree.specs.declared.trees.Work.{Work}
use Rattle.syntax_tree.specs.declared.trees.nodes.Leaf.{Leaf}
use Rattle.syntax_tree.specs.declared.trees.nodes.Leaf.TheVariants as code
use Rattle.syntax_tree.proofs.NodeLaws.{map_some}
use Rattle.syntax_tree.proofs.SeenLaws.{same_finite}
use Rattle.syntax_tree.proofs.InternLaws.{ident_told, ident_itself}
use Rattle.renumbering_laws.specs.Moving.{move_tree, move_trees, move_tail}
use Rattle.renumbering_laws.specs.Renumbering.{Renumbering, IsOneToOne, number, place, ident, change}
use Rattle.renumbering_laws.specs.NewSurroundings.{HasOldNumbers}
use Rattle.renumbering_laws.proofs.OneToOne.{ident_moved}
use Rattle.renumbering_laws.proofs.NewSurroundings.{old_numbers_apart}
use Rattle.moves.specs.Numbers.{IsBack}
use Rattle.moves.specs.Works.{lived_as, NamesMove, TreesMove, WorkMoves}

-- ---- trees

list_there : (r : Renumbering) (t : Tree Identifier) → is_list (move_tree (change r) t) ≡ is_list t
list_there r (name i o) = refl
list_there r (atom a o) = refl
list_there r (list ts tail o) = refl
list_there r (vector ts o) = refl

module _ (r : Renumbering) (old new : Nodes) (names names' : Names) (nodes : (n : ℕ) → finite.get new n ≡ option_map (lived_as r) (finite.get old n)) (move : NamesMove r names names') where
  pub shape_there : (n : ℕ) (s : Shape) → shape_at old n ≡ Some s → shape_at new n ≡ Some (placed_at (place r (place_in s)) s)
  shape_there n s h =
      let p = map_some (λ (l : Lived). l.node) (finite.get old n) s h in
      ap (option_map (λ (l : Lived). l.node)) (nodes n ∙ ap (option_map (lived_as r)) p.1) ∙ ap (λ (x : Shape). Some (placed_at (place r (place_in x)) x)) p.2

  leaf_there : (leaf : Leaf) (o : Option Occ) (t : Tree Identifier) → leaf_tree names leaf o ≡ Some t → leaf_tree names' leaf (place r o) ≡ Some (move_tree (change r) t)
  leaf_there (code.Name i) o t h =
      let a = map_some (λ (j : Identifier). name j o) (slice_get names.idents i) t h in
      let there : slice_get names'.idents i ≡ Some (ident r a.0) = ap (λ (l : List Identifier). slice_get l i) move.idents ∙ slice_get-map (ident r) names.idents i ∙ ap (option_map (ident r)) a.1 in
      ap (option_map (λ (j : Identifier). name j (place r o))) there ∙ ap (λ (x : Tree Identifier). Some (move_tree (change r) x)) a.2
  leaf_there (code.Numeral k) o t h =
      let a = map_some (λ (s : List ℕ). atom (Numeral s) o) (slice_get names.symbols k) t h in
      ap (λ (l : List (List ℕ)). option_map (λ (s : List ℕ). atom (Numeral s) (place r o)) (slice_get l k)) move.symbols
      ∙ ap (option_map (λ (s : List ℕ). atom (Numeral s) (place r o))) a.1 ∙ ap (λ (x : Tree Identifier). Some (move_tree (change r) x)) a.2
  leaf_there (code.Quoted k) o t h =
      let a = map_some (λ (s : List ℕ). atom (Quoted s) o) (slice_get names.symbols k) t h in
      ap (λ (l : List (List ℕ)). option_map (λ (s : List ℕ). atom (Quoted s) (place r o)) (slice_get l k)) move.symbols
      ∙ ap (option_map (λ (s : List ℕ). atom (Quoted s) (place r o))) a.1 ∙ ap (λ (x : Tree Identifier). Some (move_tree (change r) x)) a.2
  leaf_there (code.Bytes k) o t h =
      let a = map_some (λ (s : List ℕ). atom (Bytes s) o) (slice_get names.symbols k) t h in
      ap (λ (l : List (List ℕ)). option_map (λ (s : List ℕ). atom (Bytes s) (place r o)) (slice_get l k)) move.symbols
      ∙ ap (option_map (λ (s : List ℕ). atom (Bytes s) (place r o))) a.1 ∙ ap (λ (x : Tree Identifier). Some (move_tree (change r) x)) a.2
  leaf_there (code.Char c) o t h = ap (option_map (move_tree (change r))) h
  leaf_there (code.Bool b) o t h = ap (option_map (move_tree (change r))) h

  mutual
    pub stands_there : (t : Tree Identifier) (n : ℕ) → Stands old names t n → Stands new names' (move_tree (change r) t) n
    stands_there (name i o) n h = (h.0, place r h.1, shape_there n (leaf_shape h.0 h.1) h.2, leaf_there h.0 h.1 (name i o) h.3)
    stands_there (atom a o) n h = (h.0, place r h.1, shape_there n (leaf_shape h.0 h.1) h.2, leaf_there h.0 h.1 (atom a o) h.3)
    stands_there (list ts tail o) n h = (h.0, h.1, shape_there n (list_shape h.0 h.1 o) h.2, all_there ts h.0 h.3, tail_there tail h.1 h.4)
    stands_there (vector ts o) n h = (h.0, shape_there n (vector_shape h.0 o) h.1, all_there ts h.0 h.2)

    pub all_there : (ts : Trees Identifier) (ns : List ℕ) → AllStand old names ts ns → AllStand new names' (move_trees (change r) ts) ns
    all_there no_trees [] h = tt
    all_there no_trees (n ∷ ns) h = absurd h
    all_there (tree t ts) [] h = absurd h
    all_there (tree t ts) (n ∷ ns) h = (stands_there t n h.0, all_there ts ns h.1)

    pub tail_there : (tail : Tail Identifier) (end : Option ℕ) → TailStands old names tail end → TailStands new names' (move_tail (change r) tail) end
    tail_there proper None h = tt
    tail_there proper (Some n) h = absurd h
    tail_there (dotted t) None h = absurd h
    tail_there (dotted t) (Some n) h = (list_there r t ∙ h.0, stands_there t n h.1)

-- ---- regions

module _ (r : Renumbering) (old new : Work) (moves : WorkMoves r old new) where
  pub lives_there : (n : ℕ) (l : Lived) → finite.get old.trees.nodes n ≡ Some l → finite.get new.trees.nodes n ≡ Some (lived_as r l)
  lives_there n l h = moves.trees.nodes n ∙ ap (option_map (lived_as r)) h

  pub lies_there : (n a : ℕ) → region_at old.trees.nodes n ≡ Some a → region_at new.trees.nodes n ≡ Some a
  lies_there n a h =
      let p = map_some (λ (l : Lived). l.region) (finite.get old.trees.nodes n) a h in
      ap (option_map (λ (l : Lived). l.region)) (lives_there n p.0 p.1) ∙ ap (λ (x : ℕ). Some x) p.2

  pub outlives_there : (a b : ℕ) → Outlives old.trees.regions a b → Outlives new.trees.regions a b
  outlives_there a b h = subst (λ (x : Regions). Outlives x a b) (sym moves.trees.regions) h

  pub open_there : (n : ℕ) → IsSome (finite.get old.trees.regions n) → IsSome (finite.get new.trees.regions n)
  open_there n h = subst (λ (x : Regions). IsSome (finite.get x n)) (sym moves.trees.regions) h

  pub named_there : (a n : ℕ) → MayName old.trees.nodes old.trees.regions a n → MayName new.trees.nodes new.trees.regions a n
  named_there a n h = (h.0, lies_there n h.0 h.1, outlives_there h.0 a h.2)

-- ---- identifiers that differ

false_true : {P : Type 0} (b : Bool) → b ≡ true → b ≡ false → P
false_true b t f = absurd cc

pub ident_apart : (r : Renumbering) → IsOneToOne r → (i j : Identifier) → ident r i ≡ ident r j → i ≡ j
ident_apart r one i j same =
    let itself : same_ident (ident r i) (ident r j) ≡ true = ap (λ (x : Identifier). same_ident (ident r i) x) (sym same) ∙ ident_itself (ident r i) in
    ident_told i j (sym (ident_moved r one i j) ∙ itself)

pub still_apart : (r : Renumbering) → IsOneToOne r → (is : List Identifier) → AreToldApart is → AreToldApart (map (ident r) is)
still_apart r one is apart i j lt same =
    let p = get_within is i (omega (arith, lt, length-map is (ident r))) in
    let q = map_some (ident r) (slice_get is j) (ident r p.0) (sym (slice_get-map (ident r) is j) ∙ sym same ∙ slice_get-map (ident r) is i ∙ ap (option_map (ident r)) p.1) in
    apart i j (omega (arith, lt, length-map is (ident r))) (p.1 ∙ ap (λ (x : Identifier). Some x) (ident_apart r one p.0 q.0 (sym q.2)) ∙ sym q.1)

-- ---- the way back

module _ (r s : Renumbering) (back : IsBack r s) where
  number_back : (k : Number) → number s (number r k) ≡ k
  number_back k = λ j. record { unit = back.unit k.unit j; form = back.form k.unit k.form j; count = k.count }

  ident_back : (i : Identifier) → ident s (ident r i) ≡ i
  ident_back (Written u t) = ap (λ (v : ℕ). Written v t) (back.unit u)
  ident_back (Inserted i k) = λ j. Inserted (ident_back i j) (number_back k j)

  place_back : (o : Option Occ) → place s (place r o) ≡ o
  place_back None = refl
  place_back (Some o) = λ j. Some (record { unit = back.unit o.unit j; form = back.form o.unit o.form j; token = o.token })

  shape_back : (h : Shape) → placed_at (place s (place_in (placed_at (place r (place_in h)) h))) (placed_at (place r (place_in h)) h) ≡ h
  shape_back (leaf_shape leaf o) = ap (leaf_shape leaf) (place_back o)
  shape_back (list_shape items end o) = ap (list_shape items end) (place_back o)
  shape_back (vector_shape items o) = ap (vector_shape items) (place_back o)

  lived_back : (l : Lived) → lived_as s (lived_as r l) ≡ l
  lived_back l = λ j. record { node = shape_back l.node j; region = l.region; rank = l.rank }

  some_back : (o : Option Lived) → option_map (lived_as s) (option_map (lived_as r) o) ≡ o
  some_back None = refl
  some_back (Some l) = ap (λ (x : Lived). Some x) (lived_back l)

  idents_back : (is : List Identifier) → map (ident s) (map (ident r) is) ≡ is
  idents_back [] = refl
  idents_back (i ∷ is) = λ j. ident_back i j ∷ idents_back is j

  pub trees_back : (old between new : Forest) → TreesMove r old between → TreesMove s between new → new ≡ old
  trees_back old between new there again =
      let nodes : new.nodes ≡ old.nodes =
      same_finite new.nodes old.nodes (λ n. again.nodes n ∙ ap (option_map (lived_as s)) (there.nodes n) ∙ some_back (finite.get old.nodes n)) in
      let identity : new.identity ≡ old.identity = again.identity ∙ there.identity in
      let regions : new.regions ≡ old.regions = again.regions ∙ there.regions in
      let counts : new.counts ≡ old.counts = again.counts ∙ there.counts in
      let spare : new.spare ≡ old.spare = again.spare ∙ there.spare in
      λ j. record { nodes = nodes j; identity = identity j; regions = regions j; counts = counts j; spare = spare j }

  pub work_back : (old between new : Work) → WorkMoves r old between → WorkMoves s between new → new ≡ old
  work_back old between new there again =
      let trees : new.trees ≡ old.trees = trees_back old.trees between.trees new.trees there.trees again.trees in
      let symbols : new.symbols.symbols ≡ old.symbols.symbols = again.names.symbols ∙ there.names.symbols in
      let idents : new.symbols.idents ≡ old.symbols.idents = again.names.idents ∙ ap (map (ident s)) there.names.idents ∙ idents_back old.symbols.idents in
      λ j. record { trees = trees j; symbols = record { symbols = symbols j; idents = idents j } }

-- the old number of each
pub old_numbers : (r s : Renumbering) → IsBack r s → ((u n : ℕ) → r.definition u n ≡ n) → HasOldNumbers r
old_numbers r s back keeps = record {
  unit_back = λ u. Some (s.unit u);
  unit_here = λ u. ap (λ (n : ℕ). Some n) (back.unit u);
  form_back = λ u f. Some (s.form (r.unit u) f);
  form_here = λ u f. ap (λ (n : ℕ). Some n) (back.form u f);
  definitions = keeps;
}

pub still_differ : (r s : Renumbering) → IsBack r s → IsOneToOne r
still_differ r s back =
    let bare : Renumbering = record { unit = r.unit; form = r.form; definition = λ u n. n } in
    let one = old_numbers_apart bare (old_numbers bare s (record { unit = back.unit; form = back.form }) (λ u n. refl)) in
    record { units = one.units; forms = one.forms }
