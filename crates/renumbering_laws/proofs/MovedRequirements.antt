-- Reading `cond-expand` commutes with a change that keeps symbols.
use Rattle.std.proofs.Common.{◌≡◌, ℕ, List, [], ◌++◌, Bool, true, false, cond, Option, Result, Ok, Err, codes, refl, ap, ◌∙◌}
use Rattle.std.specs.Str.{bytes_eq}
use Rattle.scheme_model.specs.Trees.{Atom, Numeral, Quoted, Character, Boolean, Bytes, Tree, name, atom, list, vector, Trees, no_trees, tree, Tail, proper, dotted}
use Rattle.scheme_model.specs.ExpansionFaults.{Fault}
use Rattle.scheme_model.specs.RulesShape.{option_map}
use Rattle.scheme_model.specs.Requirements.{Symbol, Known, part_in, part_of, parts_of, library_name_of, holds, all_hold, some_holds, none_holds, is_else, clause_holds, or_chosen, choices, chosen_of, LibraryName, name_asked, libraries_of, libraries_among, clause_libraries, all_libraries}
use Rattle.renumbering_laws.specs.Moving.{Change, move_tail, move_tree, move_trees}
use Rattle.renumbering_laws.proofs.MovedParts.{move_result}
use Rattle.renumbering_laws.proofs.MovingSteps.{Reads, reads, then_map, cond_reads}
use Rattle.renumbering_laws.proofs.MovedShapes.{some_of-map, one_of-map, first_of-map, list_of-map}

module _ (A B : Type 0) (f : Change A B) (strip : A → List ℕ) (strip' : B → List ℕ) (kept : (i : A) → strip' (f.on i) ≡ strip i) (known : Known) where
  abbrev is : {X : Type 0} → X → X
  is x = x

  part_in-same : (a : Atom) → Reads f is (part_in a) (part_in a)
  part_in-same (Numeral s) = cond_reads refl (reads refl) (reads refl)
  part_in-same (Quoted s) = reads refl
  part_in-same (Character c) = reads refl
  part_in-same (Boolean b) = reads refl
  part_in-same (Bytes s) = reads refl

  part_of-map : (t : Tree A) → Reads f is (part_of strip t) (part_of strip' (move_tree f t))
  part_of-map (name i o) = reads (ap (λ s. Ok (Symbol s)) (kept i))
  part_of-map (atom a o) = part_in-same a
  part_of-map (list ts tail o) = reads refl
  part_of-map (vector ts o) = reads refl

  parts_of-map : (ts : Trees A) → Reads f is (parts_of strip ts) (parts_of strip' (move_trees f ts))
  parts_of-map no_trees = reads refl
  parts_of-map (tree t ts) = then_map _ (part_of-map t) (λ p. then_map _ (parts_of-map ts) (λ ps. reads refl))

  library_name_of-map : (t : Tree A) → Reads f is (library_name_of strip t) (library_name_of strip' (move_tree f t))
  library_name_of-map t = then_map _ (list_of-map A B f t) (λ p. then_map _ (some_of-map A B f p.0 p.1) parts_of-map)

  -- a word by its symbol
  word : (i : A) (s : List ℕ) → bytes_eq (strip' (f.on i)) s ≡ bytes_eq (strip i) s
  word i s = ap (λ t. bytes_eq t s) (kept i)

  mutual
    holds-map : (t : Tree A) → Reads f is (holds strip known t) (holds strip' known (move_tree f t))
    holds-map (name i o) = reads (ap Ok (word i (codes "r7rs")))
    holds-map (atom a o) = reads refl
    holds-map (vector ts o) = reads refl
    holds-map (list no_trees tail o) = reads refl
    holds-map (list (tree (atom a p) ts) tail o) = reads refl
    holds-map (list (tree (list us end p) ts) tail o) = reads refl
    holds-map (list (tree (vector us p) ts) tail o) = reads refl
    holds-map (list (tree (name i p) ts) (dotted u) o) = reads refl
    holds-map (list (tree (name i p) ts) proper o) =
        cond_reads (word i (codes "and")) (all_hold-map ts)
        (cond_reads (word i (codes "or")) (some_holds-map ts)
        (cond_reads (word i (codes "not")) (none_holds-map ts)
        (cond_reads (word i (codes "library")) (then_map _ (then_map _ (one_of-map A B f ts proper) library_name_of-map) (λ n. reads refl)) (reads refl))))

    all_hold-map : (ts : Trees A) → Reads f is (all_hold strip known ts) (all_hold strip' known (move_trees f ts))
    all_hold-map no_trees = reads refl
    all_hold-map (tree t ts) = then_map _ (holds-map t) (λ a. then_map _ (all_hold-map ts) (λ b. reads refl))

    some_holds-map : (ts : Trees A) → Reads f is (some_holds strip known ts) (some_holds strip' known (move_trees f ts))
    some_holds-map no_trees = reads refl
    some_holds-map (tree t ts) = then_map _ (holds-map t) (λ a. then_map _ (some_holds-map ts) (λ b. reads refl))

    none_holds-map : (ts : Trees A) → Reads f is (none_holds strip known ts) (none_holds strip' known (move_trees f ts))
    none_holds-map no_trees = reads refl
    none_holds-map (tree t no_trees) = then_map _ (holds-map t) (λ a. reads refl)
    none_holds-map (tree t (tree u us)) = reads refl

  is_else-map : (t : Tree A) → is_else strip' (move_tree f t) ≡ is_else strip t
  is_else-map (name i o) = word i (codes "else")
  is_else-map (atom a o) = refl
  is_else-map (list ts tail o) = refl
  is_else-map (vector ts o) = refl

  clause_holds-map : (t : Tree A) (ts : Trees A) → Reads f is (clause_holds strip known t ts) (clause_holds strip' known (move_tree f t) (move_trees f ts))
  clause_holds-map t no_trees = cond_reads (is_else-map t) (reads refl) (holds-map t)
  clause_holds-map t (tree u us) = cond_reads (is_else-map t) (reads refl) (holds-map t)

  or_chosen-map : (b : Bool) (ts : Trees A) (o : Option (Trees A)) → or_chosen {A = B} b (move_trees f ts) (option_map (move_trees f) o) ≡ option_map (move_trees f) (or_chosen b ts o)
  or_chosen-map true ts o = refl
  or_chosen-map false ts o = refl

  choices-map : (ts : Trees A) → Reads f (option_map (move_trees f)) (choices strip known ts) (choices strip' known (move_trees f ts))
  choices-map no_trees = reads refl
  choices-map (tree t ts) =
      then_map _ (list_of-map A B f t) (λ p. then_map _ (then_map _ (some_of-map A B f p.0 p.1) (λ us. first_of-map A B f us)) (λ q.
      then_map _ (clause_holds-map q.0 ts) (λ b. then_map _ (choices-map ts) (λ later. reads (ap Ok (or_chosen-map b q.1 later))))))

  -- ---- which libraries are asked for

  name_asked-map : {q : Result LibraryName (Fault A)} {q' : Result LibraryName (Fault B)} → Reads f is q q' → name_asked q' ≡ name_asked q
  name_asked-map {q} (reads e) = ap name_asked e ∙ go q
    where
      go : (x : Result LibraryName (Fault A)) → name_asked (move_result f is x) ≡ name_asked x
      go (Ok n) = refl
      go (Err d) = refl

  mutual
    libraries_of-map : (t : Tree A) → libraries_of strip' (move_tree f t) ≡ libraries_of strip t
    libraries_of-map (name i o) = refl
    libraries_of-map (atom a o) = refl
    libraries_of-map (vector ts o) = refl
    libraries_of-map (list no_trees tail o) = refl
    libraries_of-map (list (tree (atom a p) ts) tail o) = refl
    libraries_of-map (list (tree (list us end p) ts) tail o) = refl
    libraries_of-map (list (tree (vector us p) ts) tail o) = refl
    libraries_of-map (list (tree (name i p) ts) (dotted u) o) = refl
    libraries_of-map (list (tree (name i p) ts) proper o) =
        let a = word i (codes "and") in let b = word i (codes "or") in let c = word i (codes "not") in let d = word i (codes "library") in
        let x = libraries_among-map ts in let y = name_asked-map (then_map _ (one_of-map A B f ts proper) library_name_of-map) in
        λ j. cond (a j) (x j) (cond (b j) (x j) (cond (c j) (x j) (cond (d j) (y j) [])))

    libraries_among-map : (ts : Trees A) → libraries_among strip' (move_trees f ts) ≡ libraries_among strip ts
    libraries_among-map no_trees = refl
    libraries_among-map (tree t ts) = let a = libraries_of-map t in let b = libraries_among-map ts in λ j. a j ++ b j

  abbrev with_rest : Tree A × Trees A → Tree B × Trees B
  with_rest q = (move_tree f q.0, move_trees f q.1)

  clause_libraries-map : {q : Result (Tree A × Trees A) (Fault A)} {q' : Result (Tree B × Trees B) (Fault B)} → Reads f with_rest q q' → clause_libraries strip' q' ≡ clause_libraries strip q
  clause_libraries-map {q} (reads e) = ap (clause_libraries strip') e ∙ go q
    where
      go : (x : Result (Tree A × Trees A) (Fault A)) → clause_libraries strip' (move_result f with_rest x) ≡ clause_libraries strip x
      go (Ok x) = let a = is_else-map x.0 in let b = libraries_of-map x.0 in λ j. cond (a j) [] (b j)
      go (Err d) = refl

  pub libraries_in-map : (ts : Trees A) → all_libraries strip' (move_trees f ts) ≡ all_libraries strip ts
  libraries_in-map no_trees = refl
  libraries_in-map (tree t ts) =
      let a = clause_libraries-map (then_map _ (list_of-map A B f t) (λ p. then_map _ (some_of-map A B f p.0 p.1) (λ us. first_of-map A B f us))) in
      let b = libraries_in-map ts in λ j. a j ++ b j

  -- ---- the forms of the first clause that holds

  pub chosen_of-map : (ts : Trees A) (tail : Tail A) → Reads f (option_map (move_trees f)) (chosen_of strip known ts tail) (chosen_of strip' known (move_trees f ts) (move_tail f tail))
  chosen_of-map ts tail = then_map _ (some_of-map A B f ts tail) choices-map
