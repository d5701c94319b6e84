-- The tree of a datum as a form with another number of a unit with another number.
use Rattle.std.proofs.Common.{◌≡◌, ℕ, suc, ◌+◌, List, [], ◌∷◌, map, Bool, true, false, cond, Option, Some, None, refl, sym, ap, ◌∙◌, arith}
use Rattle.scheme_model.specs.declared.Home.{Home}
use Rattle.scheme_model.specs.declared.Occ.{Occ}
use Rattle.scheme_model.specs.Kinds.{Name, Numeral, Quoted, Character, Truth}
use Rattle.scheme_model.specs.Identifiers.{Name as Identifier, Written}
use Rattle.scheme_model.specs.Trees.{list as list_of, vector as vector_of, tree, dotted, placed_by}
use Rattle.scheme_model.specs.Data.{Atom, spelled, implied, Datum, atom, list, vector, bytes, Data, none, part, tail, place_of}
use Rattle.scheme_model.specs.DataTrees.{atom_tree, tree_of, parts_of, end_of, form_as as data_form_as}
use Rattle.scheme_model.specs.Declarations.{UnitForm, home_of, home_or}
use Rattle.scheme_model.specs.RulesShape.{option_map}
use Rattle.scheme_model.specs.Ident.{Ident, Written as IdentWritten}
use Rattle.scheme_model.specs.Program.{Prepared, form_trees, forms_at_work}
use Rattle.scheme_model.specs.ScopedProgram.{forms_over}
use Rattle.renumbering_laws.specs.Moving.{Change, move_tree, move_trees, move_tail}
use Rattle.renumbering_laws.specs.Renumbering.{Renumbering, occ_at, place, ident, named_as, with_places, numbered_as}
use Rattle.renumbering_laws.specs.Units.{FormsMove, ScopedFormsMove, home_as, form_as}

module _ (r : Renumbering) (A B : Type 0) (on : A → B) (written : List ℕ → A) (at : ℕ → Occ) where
  abbrev f : Change A B
  f = with_places r on

  abbrev written' : List ℕ → B
  written' s = on (written s)

  abbrev at' : ℕ → Occ
  at' n = occ_at r (at n)

  atom_moved : (a : Atom) (o : Occ) → move_tree f (atom_tree written a o) ≡ atom_tree written' a (occ_at r o)
  atom_moved (spelled (Name s bars)) o = refl
  atom_moved (spelled (Numeral text)) o = refl
  atom_moved (spelled (Quoted text)) o = refl
  atom_moved (spelled (Character c)) o = refl
  atom_moved (spelled (Truth b)) o = refl
  atom_moved (implied mark) o = refl

  mutual
    pub tree_moved : (d : Datum) → move_tree f (tree_of written at d) ≡ tree_of written' at' d
    tree_moved (atom p kind) = atom_moved kind (at p.first)
    tree_moved (list p ds) = let a = parts_moved ds in let b = end_moved ds in λ j. list_of (a j) (b j) (place r (Some (at p.first)))
    tree_moved (vector p ds) = ap (λ ts. vector_of ts (place r (Some (at p.first)))) (parts_moved ds)
    tree_moved (bytes p texts) = refl

    parts_moved : (ds : Data) → move_trees f (parts_of written at ds) ≡ parts_of written' at' ds
    parts_moved none = refl
    parts_moved (part d ds) = let a = tree_moved d in let b = parts_moved ds in λ j. tree (a j) (b j)
    parts_moved (tail d) = refl

    end_moved : (ds : Data) → move_tail f (end_of written at ds) ≡ end_of written' at' ds
    end_moved none = refl
    end_moved (part d ds) = end_moved ds
    end_moved (tail d) = ap dotted (tree_moved d)

-- the forms of a unit, with what their symbols stand for
module _ (r : Renumbering) (A : Type 0) (on : A → A) (written : ℕ → List ℕ → A) (written_moved : (u : ℕ) (x : List ℕ) → on (written u x) ≡ written (r.unit u) x) where
  form_moved : (u : ℕ) (h : Home) (d : Datum) → move_tree (with_places r on) (tree_of (written u) (placed_by h) d) ≡ tree_of (written (r.unit u)) (placed_by (home_as r h)) d
  form_moved u h d = tree_moved r A A on (written u) (placed_by h) d ∙ ap (λ f. tree_of f (placed_by (home_as r h)) d) (λ j x. written_moved u x j)

  -- a text that isn't included is at home in the unit
  home_moved : (u n n' : ℕ) (d : Datum) (h : Option Home) → r.form u n ≡ n' → home_or (r.unit u) n' d (option_map (home_as r) h) ≡ home_as r (home_or u n d h)
  home_moved u n n' d None here = λ j. record { unit = r.unit u; form = sym here j; first = (place_of d).first }
  home_moved u n n' d (Some h) here = refl

  -- the same forms from another number on
  pub forms_moved : (u n n' : ℕ) → ((m : ℕ) → r.form u (n + m) ≡ n' + m) → (fs : List UnitForm) → forms_over (written (r.unit u)) (r.unit u) n' (map (form_as r) fs) ≡ map (numbered_as r u on) (forms_over (written u) u n fs)
  forms_moved u n n' h [] = refl
  forms_moved u n n' h (x ∷ xs) =
      go x.declared (forms_moved u (suc n) (suc n') (λ m. (let a : suc n + m ≡ n + suc m = omega arith in ap (r.form u) a) ∙ h (suc m) ∙ (let b : n' + suc m ≡ suc n' + m = omega arith in b)) xs)
    where
      here : r.form u n ≡ n'
      here = (let a : n ≡ n + 0 = omega arith in ap (r.form u) a) ∙ h 0 ∙ (let b : n' + 0 ≡ n' = omega arith in b)

      go : (b : Bool) → forms_over (written (r.unit u)) (r.unit u) (suc n') (map (form_as r) xs) ≡ map (numbered_as r u on) (forms_over (written u) u (suc n) xs)
          → cond b (forms_over (written (r.unit u)) (r.unit u) (suc n') (map (form_as r) xs)) ((n', tree_of (written (r.unit u)) (placed_by (home_of (r.unit u) n' (form_as r x))) x.datum) ∷ forms_over (written (r.unit u)) (r.unit u) (suc n') (map (form_as r) xs))
          ≡ map (numbered_as r u on) (cond b (forms_over (written u) u (suc n) xs) ((n, tree_of (written u) (placed_by (home_of u n x)) x.datum) ∷ forms_over (written u) u (suc n) xs))
      go true ih = ih
      go false ih =
          let a = sym here in let t = ap (λ k. tree_of (written (r.unit u)) (placed_by k) x.datum) (home_moved u n n' x.datum x.home here) ∙ sym (form_moved u (home_of u n x) x.datum) in λ j. (a j, t j) ∷ ih j

-- as the definition that substitutes has them
over_names : (u n : ℕ) (fs : List UnitForm) → form_trees u n fs ≡ forms_over (Written u) u n fs
over_names u n [] = refl
over_names u n (x ∷ xs) = let e = over_names u (suc n) xs in λ j. cond x.declared (e j) ((n, data_form_as u (home_of u n x) x.datum) ∷ e j)

module _ (r : Renumbering) (p q : Prepared) (number : q.number ≡ r.unit p.number) (forms : forms_at_work q ≡ map (form_as r) (forms_at_work p)) (kept : (n : ℕ) → r.form p.number n ≡ n) where
  from_start : (m : ℕ) → r.form p.number (0 + m) ≡ 0 + m
  from_start m = let a : 0 + m ≡ m = omega arith in ap (r.form p.number) a ∙ kept m ∙ sym a

  pub named_forms_move : FormsMove r p q
  named_forms_move =
      (λ j. form_trees (number j) 0 (forms j)) ∙ over_names (r.unit p.number) 0 (map (form_as r) (forms_at_work p))
      ∙ forms_moved r Identifier (named_as r) Written (λ u x. refl) p.number 0 0 from_start (forms_at_work p)
      ∙ ap (map (numbered_as r p.number (named_as r))) (sym (over_names p.number 0 (forms_at_work p)))

  pub scoped_forms_move : ScopedFormsMove r p q
  scoped_forms_move = (λ j. forms_over (IdentWritten (number j)) (number j) 0 (forms j)) ∙ forms_moved r Ident (ident r) IdentWritten (λ u x. refl) p.number 0 0 from_start (forms_at_work p)
