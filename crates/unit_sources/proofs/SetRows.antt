-- Import sets as they are read: their modifiers, and what these make of a set.
use Rattle.std.proofs.Common.{◌≡◌, ℕ, List, [], ◌∷◌, Bool, true, false, Option, Some, None, Result, Ok, Err, refl, sym, ap, ◌∙◌, subst}
use Rattle.std.specs.Borrow.{Bor}
use Rattle.std.specs.Result.{IsErrAnd}
use Rattle.scheme_model.specs.declared.Occ.{Occ}
use Rattle.scheme_model.specs.Kinds.{Name, Numeral, Quoted, Character, Truth}
use Rattle.scheme_model.specs.Data.{Datum, atom as atom_datum, list as list_datum, vector as vector_datum, bytes as bytes_datum, spelled, implied}
use Rattle.scheme_model.specs.Trees.{Tree, name, atom, list, vector, Trees, tree, Tail}
use Rattle.scheme_model.specs.ExpansionFaults.{Fault, BadForm}
use Rattle.scheme_model.specs.Entries as model
use Rattle.scheme_model.specs.Entries.{Modifier, Bad, set_of, library_set, modified_set, by_modifier, modifier_named, or_bad}
use Rattle.import_sets.specs.declared.set.ImportSet.{ImportSet}
use Rattle.datum_reader.specs.declared.datum.Datum as code
use Rattle.datum_reader.specs.Views.{datum_of}
use Rattle.datum_reader.specs.declared.shape_fault.ShapeFault.{ShapeFault}
use Rattle.datum_reader.specs.declared.shape_fault.ShapeFault.TheVariants as fault
use Rattle.unit_sources.specs.declared.sets.Modifier as code_modifier
use Rattle.unit_sources.specs.declared.sets.Modified.{Modified}
use Rattle.datum_reader.specs.Looks.{plain, tree_at, trees_at, word_of, symbol_now, IsWord}
use Rattle.known_libraries.specs.PartsRead.{Fails}
use Rattle.unit_sources.specs.SetsRead.{modifier_as, modifier_seen, modifier_for, IsModified, IsModifiedBy, IsSetText, IsSetMade}
use Rattle.datum_reader.specs.Looks.{is_list}

-- ---- modifiers

is_list_tree : Tree (List ℕ) → Bool
is_list_tree (name i o) = false
is_list_tree (atom a o) = false
is_list_tree (list ts end o) = true
is_list_tree (vector ts o) = false

tree_list : (place : ℕ → Occ) (d : Datum) → is_list_tree (plain place d) ≡ is_list d
unfolding is_list_tree
tree_list place (atom_datum p (spelled (Name s bars))) = refl
tree_list place (atom_datum p (spelled (Numeral s))) = refl
tree_list place (atom_datum p (spelled (Quoted s))) = refl
tree_list place (atom_datum p (spelled (Character c))) = refl
tree_list place (atom_datum p (spelled (Truth b))) = refl
tree_list place (atom_datum p (implied mark)) = refl
tree_list place (list_datum p ds) = refl
tree_list place (vector_datum p ds) = refl
tree_list place (bytes_datum p bs) = refl

no_modifier : (t u : Tree (List ℕ)) (ts : Trees (List ℕ)) (end : Tail (List ℕ)) (o : Option Occ) → modifier_for (word_of t) ≡ None → set_of (list (tree t (tree u ts)) end o) ≡ library_set (list (tree t (tree u ts)) end o)
no_modifier (name i p) (name j q) ts end o h = refl
no_modifier (name i p) (atom a q) ts end o h = refl
no_modifier (name i p) (vector vs q) ts end o h = refl
no_modifier (name i p) (list vs e q) ts end o h = ap (λ m. by_modifier m (set_of (list vs e q)) ts end (library_set (list (tree (name i p) (tree (list vs e q) ts)) end o))) h
no_modifier (atom a p) u ts end o h = refl
no_modifier (list vs e p) u ts end o h = refl
no_modifier (vector vs p) u ts end o h = refl

no_list : (t u : Tree (List ℕ)) (ts : Trees (List ℕ)) (end : Tail (List ℕ)) (o : Option Occ) → is_list_tree u ≡ false → set_of (list (tree t (tree u ts)) end o) ≡ library_set (list (tree t (tree u ts)) end o)
unfolding is_list_tree
no_list (name i p) (name j q) ts end o h = refl
no_list (name i p) (atom a q) ts end o h = refl
no_list (name i p) (vector vs q) ts end o h = refl
no_list (name i p) (list vs e q) ts end o h = absurd cc
no_list (atom a p) u ts end o h = refl
no_list (list vs e p) u ts end o h = refl
no_list (vector vs p) u ts end o h = refl

some_modifier : (t u : Tree (List ℕ)) (ts : Trees (List ℕ)) (end : Tail (List ℕ)) (o : Option Occ) (m : Modifier) → modifier_for (word_of t) ≡ Some m → is_list_tree u ≡ true →
    set_of (list (tree t (tree u ts)) end o) ≡ modified_set m (set_of u) ts end
unfolding is_list_tree
some_modifier (name i p) (name j q) ts end o m h k = absurd cc
some_modifier (name i p) (atom a q) ts end o m h k = absurd cc
some_modifier (name i p) (vector vs q) ts end o m h k = absurd cc
some_modifier (name i p) (list vs e q) ts end o m h k = ap (λ n. by_modifier n (set_of (list vs e q)) ts end (library_set (list (tree (name i p) (tree (list vs e q) ts)) end o))) h
some_modifier (atom a p) u ts end o m h k = absurd cc
some_modifier (list vs e p) u ts end o m h k = absurd cc
some_modifier (vector vs p) u ts end o m h k = absurd cc

-- ---- the modifier of a list

abbrev IsPlainName : List code.Datum → Type 0
IsPlainName ds = (place : ℕ → Occ) (end : Tail (List ℕ)) (o : Option Occ) → set_of (list (trees_at place ds) end o) ≡ library_set (list (trees_at place ds) end o)

pub no_parts : (ds : List code.Datum) → ds ≡ [] → IsModified None ds
no_parts ds e = subst IsPlainName (sym e) (λ place end o. refl)

pub one_part : (ds : List code.Datum) (d : code.Datum) (es : List code.Datum) → ds ≡ d ∷ es → es ≡ [] → IsModified None ds
one_part ds d es e f = subst IsPlainName (sym (e ∙ ap (λ (xs : List code.Datum). d ∷ xs) f)) (λ place end o. refl)

pub modified_is : (ds : List code.Datum) (d inner : code.Datum) (es rest : List code.Datum) (w : Option (Bor (List ℕ))) (m : Option code_modifier.Modifier) (r : Option Modified) → ds ≡ d ∷ es → es ≡ inner ∷ rest →
    IsWord w (datum_of d) → modifier_seen m ≡ modifier_for (symbol_now w) → IsModifiedBy m inner rest r → IsModified r ds
modified_is ds d inner es rest w None None e f word seen by =
    subst IsPlainName (sym (e ∙ ap (λ (xs : List code.Datum). d ∷ xs) f)) (λ place end o. no_modifier (tree_at place d) (tree_at place inner) (trees_at place rest) end o (ap modifier_for (word place) ∙ sym seen))
modified_is ds d inner es rest w None (Some r) e f word seen by = absurd cc
modified_is ds d inner es rest w (Some m) None e f word seen by =
    subst IsPlainName (sym (e ∙ ap (λ (xs : List code.Datum). d ∷ xs) f)) (λ place end o. no_list (tree_at place d) (tree_at place inner) (trees_at place rest) end o (tree_list place (datum_of inner) ∙ by))
modified_is ds d inner es rest w (Some m) (Some r) e f word seen by =
    let same : ds ≡ d ∷ r.inner.now ∷ r.rest.now = e ∙ ap (λ (xs : List code.Datum). d ∷ xs) f ∙ (λ j. d ∷ sym by.2 j ∷ sym by.3 j) in (
      d,
      same,
      λ place end o.
          ap (λ (xs : List code.Datum). set_of (list (trees_at place xs) end o)) same
          ∙ some_modifier (tree_at place d) (tree_at place r.inner.now) (trees_at place r.rest.now) end o (modifier_as m) (ap modifier_for (word place) ∙ sym seen) (tree_list place (datum_of r.inner.now) ∙ ap (λ (x : code.Datum). is_list (datum_of x)) by.2 ∙ by.0)
          ∙ ap (λ n. modified_set (modifier_as n) (set_of (tree_at place r.inner.now)) (trees_at place r.rest.now) end) (sym by.1),
    )

-- ---- what a modifier makes

pub set_failed : {B : Type 0} (x : Result ImportSet ShapeFault) (e : ShapeFault) (r : Result B (Fault (List ℕ))) (f : B → model.ImportSet) → IsErrAnd x (λ g. g ≡ e) → Fails e r → IsSetMade x (or_bad r f)
set_failed (Ok c) e r f h k = absurd h
set_failed (Err fault.BadForm) e r f h k = let g : r ≡ Err BadForm = subst (λ (x : ShapeFault). Fails x r) (sym h) k in ap (λ y. or_bad y f) g
set_failed (Err fault.Memory) e r f h k = tt

pub made_as : (c : ImportSet) (s t : model.ImportSet) → t ≡ s → IsSetText c s → IsSetText c t
made_as c s t e h = subst (λ (x : model.ImportSet). IsSetText c x) (sym e) h
