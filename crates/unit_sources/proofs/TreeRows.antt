-- The trees of data in a row.
use Rattle.std.proofs.Common.{◌≡◌, ℕ, ◌+◌, ◌<◌, ◌≤◌, List, [], ◌∷◌, ◌++◌, length, map, get_or, drop, Result, Ok, refl, sym, ap, ◌∙◌}
use Rattle.std.proofs.lemmas.List.{drop_more, at_drop_all, map-append}
use Rattle.scheme_model.specs.declared.Occ.{Occ}
use Rattle.scheme_model.specs.Trees.{Tree, Trees, no_trees, tree}
use Rattle.scheme_model.specs.ExpansionFaults.{Named, Fault, ◌>>◌}
use Rattle.scheme_model.specs.Shapes.{name_of, names_of}
use Rattle.scheme_model.specs.Entries.{pair_of, pairs_of}
use Rattle.datum_reader.specs.declared.datum.Datum as code
use Rattle.datum_reader.specs.declared.shape_fault.ShapeFault.{ShapeFault}
use Rattle.datum_reader.specs.Looks.{tree_at, trees_at}
use Rattle.known_libraries.specs.PartsRead.{Fails}
use Rattle.unit_sources.proofs.Chaining.{each_of, in_front, each_more, each_fails}

pub trees_more : (place : ℕ → Occ) (ds : List code.Datum) (i : ℕ) (d : code.Datum) → i < length ds → d ≡ get_or ds i d → trees_at place (drop i ds) ≡ tree (tree_at place d) (trees_at place (drop (i + 1) ds))
trees_more place ds i d lt is =
    ap (trees_at place) (drop_more ds i d lt) ∙ ap (λ (x : code.Datum). tree (tree_at place x) (trees_at place (drop (i + 1) ds))) (sym is)

pub trees_end : (place : ℕ → Occ) (ds : List code.Datum) (i : ℕ) → length ds ≤ i → trees_at place (drop i ds) ≡ no_trees
trees_end place ds i h = at_drop_all (trees_at place) ds i h

-- ---- a row that is read

-- so much of a row is read: these, and what is left
abbrev pub UpTo : {X A : Type 0} → (X → A) → (Tree (List ℕ) → Result A (Fault (List ℕ))) → (ℕ → Occ) → List code.Datum → ℕ → List X → Type 0
UpTo view f place ds i xs = each_of f (trees_at place ds) ≡ in_front (map view xs) (each_of f (trees_at place (drop i ds)))

module _ {X A : Type 0} (view : X → A) (f : Tree (List ℕ) → Result A (Fault (List ℕ))) (place : ℕ → Occ) (ds : List code.Datum) where
  pub up_more : (i : ℕ) (d : code.Datum) (xs : List X) (x : X) → i < length ds → d ≡ get_or ds i d → UpTo view f place ds i xs → f (tree_at place d) ≡ Ok (view x) → UpTo view f place ds (i + 1) (xs ++ x ∷ [])
  up_more i d xs x lt is so_far here =
      each_more f (each_of f (trees_at place ds)) (map view xs) (view x) (tree_at place d) (trees_at place (drop (i + 1) ds)) (so_far ∙ ap (λ ts. in_front (map view xs) (each_of f ts)) (trees_more place ds i d lt is)) here
      ∙ ap (λ ys. in_front ys (each_of f (trees_at place (drop (i + 1) ds)))) (sym (map-append view xs (x ∷ [])))

  pub up_fails : (i : ℕ) (d : code.Datum) (xs : List X) (e : ShapeFault) → i < length ds → d ≡ get_or ds i d → UpTo view f place ds i xs → Fails e (f (tree_at place d)) → Fails e (each_of f (trees_at place ds))
  up_fails i d xs e lt is so_far here =
      each_fails f (each_of f (trees_at place ds)) (map view xs) e (tree_at place d) (trees_at place (drop (i + 1) ds)) (so_far ∙ ap (λ ts. in_front (map view xs) (each_of f ts)) (trees_more place ds i d lt is)) here

  pub up_all : (i : ℕ) (xs : List X) → length ds ≤ i → UpTo view f place ds i xs → each_of f (trees_at place ds) ≡ Ok (map view xs)
  up_all i xs h so_far = so_far ∙ ap (λ ts. in_front (map view xs) (each_of f ts)) (trees_end place ds i h) ∙ ap Ok (append_none (map view xs))
    where
      append_none : (ys : List A) → ys ++ [] ≡ ys
      append_none [] = refl
      append_none (y ∷ ys) = ap (λ (zs : List A). y ∷ zs) (append_none ys)

-- ---- rows of names, and of pairs

pub names_each : (ts : Trees (List ℕ)) → names_of ts ≡ each_of name_of ts
names_each no_trees = refl
names_each (tree t ts) = ap (λ (x : Result (List (Named (List ℕ))) (Fault (List ℕ))). name_of t >> λ n. x >> λ ns. Ok (n ∷ ns)) (names_each ts)

pub pairs_each : (ts : Trees (List ℕ)) → pairs_of ts ≡ each_of pair_of ts
pairs_each no_trees = refl
pairs_each (tree t ts) = ap (λ (x : Result (List (Named (List ℕ) × Named (List ℕ))) (Fault (List ℕ))). pair_of t >> λ n. x >> λ ns. Ok (n ∷ ns)) (pairs_each ts)
