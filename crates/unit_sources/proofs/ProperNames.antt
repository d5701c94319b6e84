-- Names that are read are proper: what a datum is as a library rests on which proper names there are, and on no others.
use Rattle.std.proofs.Common.{◌≡◌, ℕ, Bool, true, cond, List, [], ◌∷◌, Option, Some, None, Result, Ok, Err, IfOk, refl, ap, ◌∙◌}
use Rattle.std.specs.Prelude.{◌&&◌, ◌||◌, not, codes}
use Rattle.std.specs.Str.{bytes_eq}
use Rattle.scheme_model.specs.Data.{Datum, atom as atom_datum, list as list_datum, vector as vector_datum, bytes, Data, none, part, tail, place_of}
use Rattle.scheme_model.specs.Trees.{Tree, name, atom, list, vector, Trees, no_trees, tree, proper, dotted}
use Rattle.scheme_model.specs.ExpansionFaults.{Fault, BadForm, ◌>>◌}
use Rattle.scheme_model.specs.Shapes.{one_of}
use Rattle.scheme_model.specs.Requirements.{LibraryName, Known, library_name_of, holds, all_hold, some_holds, none_holds, is_else, clause_holds}
use Rattle.scheme_model.specs.Declarations.{symbol_in, proper_parts, Declared, Exports, Imports, Begins, Chooses, Includes, Undeclared, declared_by, IsLibrary, behind_head, library_name, library_name_in}
use Rattle.scheme_model.specs.Included.{Homed, inside, Listing, Texts, followed, Clause, later_clauses, chosen, choice, declared_as, if_proper, with_clause, clause_with, declaration, declarations, clauses, clause_of}
use Rattle.scheme_model.specs.IncludedUnits.{source_by, own, if_named, library_listing, library_of}
use Rattle.scheme_tokens.specs.LibraryNames.{IsProper}
use Rattle.scheme_tokens.specs.Symbols.{HasEncoded, HaveEncoded}
use Rattle.scheme_tokens.proofs.NameTrees.{name_proper, datum_encoded}

abbrev itself : List ℕ → List ℕ
itself s = s

abbrev F : Type 0
F = Fault (List ℕ)

abbrev told_by : Known → LibraryName → Result Bool F
told_by known n = Ok (known n)

-- ---- requirements that are data's trees

abbrev AreSpelled : List Clause → Type 0
AreSpelled [] = Unit {0}
AreSpelled (c ∷ cs) = HasEncoded itself c.requirement × AreSpelled cs

abbrev IfSpelled : Option (List Clause) → Type 0
IfSpelled None = Unit {0}
IfSpelled (Some cs) = AreSpelled cs

abbrev IfOneSpelled : Option Clause → Type 0
IfOneSpelled None = Unit {0}
IfOneSpelled (Some c) = HasEncoded itself c.requirement

with_spelled : (c : Option Clause) (cs : Option (List Clause)) → IfOneSpelled c → IfSpelled cs → IfSpelled (with_clause c cs)
with_spelled None cs h k = tt
with_spelled (Some c) None h k = tt
with_spelled (Some c) (Some cs) h k = (h, k)

headed_spelled : (o : Option (List Datum)) (d : Datum) (l : Listing) → IfOneSpelled (clause_with o d l)
headed_spelled None d l = tt
headed_spelled (Some ds) d l = datum_encoded d

module _ (t : Texts) (known : Known) where
  clause_spelled : (x : Homed) (d : Datum) → IfOneSpelled (clause_of t known x d)
  clause_spelled x (atom_datum p k) = tt
  clause_spelled x (vector_datum p ds) = tt
  clause_spelled x (bytes p texts) = tt
  clause_spelled x (list_datum p none) = tt
  clause_spelled x (list_datum p (tail d)) = tt
  clause_spelled x (list_datum p (part d ds)) = headed_spelled (proper_parts ds) d (declarations t known x (list_datum p (part d ds)) ds)

  clauses_spelled : (x : Homed) (ds : Data) → IfSpelled (clauses t known x ds)
  clauses_spelled x none = tt
  clauses_spelled x (part d ds) = with_spelled (clause_of t known x d) (clauses t known x ds) (clause_spelled x d) (clauses_spelled x ds)
  clauses_spelled x (tail d) = tt

-- ---- libraries that agree on proper names

module _ (a b : Known) (agree : (n : LibraryName) → IsProper n → a n ≡ b n) where
  -- ---- requirements

  named_same : (r : Result LibraryName F) → IfOk r IsProper → (r >> told_by a) ≡ (r >> told_by b)
  named_same (Ok n) h = ap Ok (agree n h)
  named_same (Err e) h = refl

  library_same : (ts : Trees (List ℕ)) → HaveEncoded itself ts →
      (one_of ts proper >> library_name_of itself >> told_by a) ≡ (one_of ts proper >> library_name_of itself >> told_by b)
  library_same no_trees h = refl
  library_same (tree t no_trees) h = named_same (library_name_of itself t) (name_proper itself t h.0)
  library_same (tree t (tree u us)) h = refl

  mutual
    holds_same : (t : Tree (List ℕ)) → HasEncoded itself t → holds itself a t ≡ holds itself b t
    holds_same (name i o) h = refl
    holds_same (atom x o) h = refl
    holds_same (vector ts o) h = refl
    holds_same (list no_trees end o) h = refl
    holds_same (list (tree (atom x p) ts) end o) h = refl
    holds_same (list (tree (list us e p) ts) end o) h = refl
    holds_same (list (tree (vector us p) ts) end o) h = refl
    holds_same (list (tree (name i p) ts) (dotted u) o) h = refl
    holds_same (list (tree (name i p) ts) proper o) h =
        (λ j. cond (bytes_eq i (codes "and")) (all_same ts h.0.1 j)
        (cond (bytes_eq i (codes "or")) (some_same ts h.0.1 j) (cond (bytes_eq i (codes "not")) (none_same ts h.0.1 j) (cond (bytes_eq i (codes "library")) (library_same ts h.0.1 j) (Err BadForm)))))

    all_same : (ts : Trees (List ℕ)) → HaveEncoded itself ts → all_hold itself a ts ≡ all_hold itself b ts
    all_same no_trees h = refl
    all_same (tree t ts) h = λ j. holds_same t h.0 j >> λ x. all_same ts h.1 j >> λ y. Ok (x && y)

    some_same : (ts : Trees (List ℕ)) → HaveEncoded itself ts → some_holds itself a ts ≡ some_holds itself b ts
    some_same no_trees h = refl
    some_same (tree t ts) h = λ j. holds_same t h.0 j >> λ x. some_same ts h.1 j >> λ y. Ok (x || y)

    none_same : (ts : Trees (List ℕ)) → HaveEncoded itself ts → none_holds itself a ts ≡ none_holds itself b ts
    none_same no_trees h = refl
    none_same (tree t no_trees) h = λ j. holds_same t h.0 j >> λ x. Ok (not x)
    none_same (tree t (tree u us)) h = refl

  -- ---- clauses

  clause_same : (t : Tree (List ℕ)) (ts : Trees (List ℕ)) → HasEncoded itself t → clause_holds itself a t ts ≡ clause_holds itself b t ts
  clause_same t no_trees h = ap (λ r. cond (is_else itself t) (Ok true) r) (holds_same t h)
  clause_same t (tree u us) h = ap (λ r. cond (is_else itself t) (Err BadForm) r) (holds_same t h)

  chosen_same : (cs : List Clause) → AreSpelled cs → chosen a cs ≡ chosen b cs
  chosen_same [] h = refl
  chosen_same (c ∷ cs) h = rw (clause_same c.requirement (later_clauses cs) h.0, chosen_same cs h.1) refl

  choice_same : (x : Homed) (cs : Option (List Clause)) → IfSpelled cs → choice a x cs ≡ choice b x cs
  choice_same x None h = refl
  choice_same x (Some []) h = refl
  choice_same x (Some (c ∷ cs)) h = rw (chosen_same (c ∷ cs) h) refl

  -- ---- declarations

  module _ (t : Texts) where
    declared_same : (k : Declared) (x : Homed) (ds : List Datum) (r s : Option (List Clause)) → r ≡ s → IfSpelled r → declared_as t a k x ds r ≡ declared_as t b k x ds s
    declared_same Exports x ds r s e h = refl
    declared_same Imports x ds r s e h = refl
    declared_same Begins x ds r s e h = refl
    declared_same Chooses x ds r s e h = choice_same x r h ∙ ap (choice b x) e
    declared_same Includes x ds r s e h = refl
    declared_same Undeclared x ds r s e h = refl

    mutual
      declaration_same : (x : Homed) (d : Datum) → declaration t a x d ≡ declaration t b x d
      declaration_same x (atom_datum p k) = refl
      declaration_same x (vector_datum p ds) = refl
      declaration_same x (bytes p texts) = refl
      declaration_same x (list_datum p none) = refl
      declaration_same x (list_datum p (tail d)) = refl
      declaration_same x (list_datum p (part d ds)) =
          let whole = inside x (list_datum p (part d ds)) in
          λ j. if_proper whole (proper_parts ds) (λ parts. declared_same (declared_by (symbol_in d)) whole parts (clauses t a x ds) (clauses t b x ds) (clauses_same x ds) (clauses_spelled t a x ds) j)

      declarations_same : (x : Homed) (whole : Datum) (ds : Data) → declarations t a x whole ds ≡ declarations t b x whole ds
      declarations_same x whole none = refl
      declarations_same x whole (part d ds) = λ j. followed t.limit (declaration_same x d j) (declarations_same x whole ds j)
      declarations_same x whole (tail d) = refl

      clauses_same : (x : Homed) (ds : Data) → clauses t a x ds ≡ clauses t b x ds
      clauses_same x none = refl
      clauses_same x (part d ds) = λ j. with_clause (clause_of_same x d j) (clauses_same x ds j)
      clauses_same x (tail d) = refl

      clause_of_same : (x : Homed) (d : Datum) → clause_of t a x d ≡ clause_of t b x d
      clause_of_same x (atom_datum p k) = refl
      clause_of_same x (vector_datum p ds) = refl
      clause_of_same x (bytes p texts) = refl
      clause_of_same x (list_datum p none) = refl
      clause_of_same x (list_datum p (tail d)) = refl
      clause_of_same x (list_datum p (part d ds)) = λ j. clause_with (proper_parts ds) d (declarations_same x (list_datum p (part d ds)) ds j)

    -- ---- units

    listing_same : (x : Homed) (ds : Data) → library_listing t a x ds ≡ library_listing t b x ds
    listing_same x none = refl
    listing_same x (tail e) = refl
    listing_same x (part n ds) = ap (if_named x (library_name_in (part n ds))) (declarations_same x x.datum ds)

    pub unit_same : (document : ℕ) (d : Datum) → library_of t a document d ≡ library_of t b document d
    unit_same document d = ap (source_by IsLibrary (library_name d) (place_of d)) (listing_same (own document d) (behind_head d))
