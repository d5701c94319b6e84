-- Libraries' names in what is read, however names are told apart by texts that write each proper one as it is written.
use Rattle.std.proofs.Common.{◌≡◌, ℕ, suc, Bool, true, false, cond, List, [], ◌∷◌, ◌++◌, map, Option, Some, None, Result, Ok, Err, IfOk, refl, sym, ap, ◌∙◌, subst}
use Rattle.std.specs.Prelude.{◌&&◌, codes}
use Rattle.std.specs.Option.{option_map}
use Rattle.scheme_model.specs.Data.{Datum, Place, place_of}
use Rattle.scheme_model.specs.DataTrees.{tree_of}
use Rattle.scheme_model.specs.Declarations.{UnitForm, UnitKind, IsLibrary, home_of, is_headed, list_parts, behind_head, library_name}
use Rattle.scheme_model.specs.Entries.{ImportSet, Library, Only, Except, Prefix, Rename, Modifier, IsOnly, IsExcept, IsPrefix, IsRename, modifier_named, pairs_of, or_bad, modified_set, library_set, by_modifier, set_of, library_in}
use Rattle.scheme_model.specs.ExpansionFaults.{Fault, ◌>>◌}
use Rattle.scheme_model.specs.Included.{Texts, Listing, Lists, BadAfter, TooLong}
use Rattle.scheme_model.specs.IncludedUnits.{UnitSource, source_by, library_of, library_listing, own}
use Rattle.scheme_model.specs.Program.{ImportSpec, spec_of, behind_first, specs_in, specs_from, forms_or_none}
use Rattle.scheme_model.specs.Requirements.{LibraryName, Known, library_name_of}
use Rattle.scheme_model.specs.Shapes.{proper_of, one_of, name_of, names_of}
use Rattle.scheme_model.specs.Trees.{Tree, name, atom, list, vector, Trees, no_trees, tree, Tail, placed_in}
use Rattle.import_sets.specs.Sets.{IsSetOf}
use Rattle.import_sets.specs.declared.set.ImportSet as code_set
use Rattle.scheme_tokens.specs.LibraryNames.{library_text, IsProper}
use Rattle.scheme_tokens.specs.Symbols.{HasEncoded}
use Rattle.scheme_tokens.proofs.NameTrees.{name_proper, tree_encoded}
use Rattle.unit_sources.specs.SetsRead.{IsSetText}
use Rattle.unit_sources.specs.Sources.{AreImports}
use Rattle.unit_sources.specs.UnitsRead.{IsSource, AreSpecs, forms_of}
use Rattle.unit_sources.specs.declared.units.ImportSpec as code_import
use Rattle.unit_sources.specs.declared.units.UnitSource as code
use Rattle.unit_sources.proofs.KnownTexts.{IfProper, name_proper as library_name_proper}

abbrev itself : List ℕ → List ℕ
itself s = s

-- ---- the names in sets are proper

abbrev IsProperSet : ImportSet → Type 0
IsProperSet s = IfProper (library_in s)

library_proper : (r : Result LibraryName (Fault (List ℕ))) → IfOk r IsProper → IsProperSet (or_bad r Library)
library_proper (Ok n) h = h
library_proper (Err e) h = tt

or_bad_proper : {B : Type 0} (r : Result B (Fault (List ℕ))) (make : B → ImportSet) → ((b : B) → IsProperSet (make b)) → IsProperSet (or_bad r make)
or_bad_proper (Ok b) make h = h b
or_bad_proper (Err e) make h = tt

modified_proper : (m : Modifier) (s : ImportSet) (ts : Trees (List ℕ)) (end : Tail (List ℕ)) → IsProperSet s → IsProperSet (modified_set m s ts end)
modified_proper IsOnly s ts end h = or_bad_proper (proper_of ts end >> names_of) (Only s) (λ b. h)
modified_proper IsExcept s ts end h = or_bad_proper (proper_of ts end >> names_of) (Except s) (λ b. h)
modified_proper IsPrefix s ts end h = or_bad_proper (one_of ts end >> name_of) (λ n. Prefix s n.name) (λ b. h)
modified_proper IsRename s ts end h = or_bad_proper (proper_of ts end >> pairs_of) (Rename s) (λ b. h)

by_proper : (m : Option Modifier) (s : ImportSet) (ts : Trees (List ℕ)) (end : Tail (List ℕ)) (library : ImportSet) → IsProperSet s → IsProperSet library → IsProperSet (by_modifier m s ts end library)
by_proper None s ts end library h k = k
by_proper (Some m) s ts end library h k = modified_proper m s ts end h

named_proper : (t : Tree (List ℕ)) → HasEncoded itself t → IsProperSet (library_set t)
named_proper t h = library_proper (library_name_of (λ s. s) t) (name_proper (λ s. s) t h)

set_proper : (t : Tree (List ℕ)) → HasEncoded itself t → IsProperSet (set_of t)
set_proper (name i o) h = tt
set_proper (atom a o) h = tt
set_proper (vector ts o) h = tt
set_proper (list no_trees end o) h = tt
set_proper (list (tree t no_trees) end o) h = named_proper (list (tree t no_trees) end o) h
set_proper (list (tree (atom a p) (tree u us)) end o) h = named_proper (list (tree (atom a p) (tree u us)) end o) h
set_proper (list (tree (list vs e p) (tree u us)) end o) h = named_proper (list (tree (list vs e p) (tree u us)) end o) h
set_proper (list (tree (vector vs p) (tree u us)) end o) h = named_proper (list (tree (vector vs p) (tree u us)) end o) h
set_proper (list (tree (name i p) (tree (name j q) us)) end o) h = named_proper (list (tree (name i p) (tree (name j q) us)) end o) h
set_proper (list (tree (name i p) (tree (atom a q) us)) end o) h = named_proper (list (tree (name i p) (tree (atom a q) us)) end o) h
set_proper (list (tree (name i p) (tree (vector vs q) us)) end o) h = named_proper (list (tree (name i p) (tree (vector vs q) us)) end o) h
set_proper (list (tree (name i p) (tree (list vs e q) us)) end o) h =
    by_proper (modifier_named i) (set_of (list vs e q)) us end (library_set (list (tree (name i p) (tree (list vs e q) us)) end o))
    (set_proper (list vs e q) h.0.1.0) (named_proper (list (tree (name i p) (tree (list vs e q) us)) end o) h)

abbrev AreProperSpecs : List ImportSpec → Type 0
AreProperSpecs [] = Unit {0}
AreProperSpecs (s ∷ ss) = IsProperSet s.set × AreProperSpecs ss

specs_proper : (unit form first : ℕ) (ds : List Datum) → AreProperSpecs (map (spec_of unit form first) ds)
specs_proper unit form first [] = tt
specs_proper unit form first (d ∷ ds) =
    (set_proper (tree_of (λ s. s) (placed_in unit form first) d) (tree_encoded (placed_in unit form first) d), specs_proper unit form first ds)

if_proper : (b : Bool) (ss : List ImportSpec) → AreProperSpecs ss → AreProperSpecs (cond b ss [])
if_proper true ss h = h
if_proper false ss h = tt

both_proper : (ss ts : List ImportSpec) → AreProperSpecs ss → AreProperSpecs ts → AreProperSpecs (ss ++ ts)
both_proper [] ts h k = k
both_proper (s ∷ ss) ts h k = (h.0, both_proper ss ts h.1 k)

form_proper : (unit form : ℕ) (f : UnitForm) → AreProperSpecs (specs_in unit form f)
form_proper unit form f =
    let h = home_of unit form f in
    if_proper (f.declared && is_headed (codes "import") f.datum) (map (spec_of h.unit h.form h.first) (behind_first (list_parts f.datum)))
    (specs_proper h.unit h.form h.first (behind_first (list_parts f.datum)))

all_proper : (unit form : ℕ) (fs : List UnitForm) → AreProperSpecs (specs_from unit form fs)
all_proper unit form [] = tt
all_proper unit form (f ∷ fs) = both_proper (specs_in unit form f) (specs_from unit (suc form) fs) (form_proper unit form f) (all_proper unit (suc form) fs)

-- ---- the name of a unit

source_name : (kind : UnitKind) (n : Option LibraryName) (start : Place) (l : Listing) → (source_by kind n start l).name ≡ n
source_name kind n start (Lists m fs ls) = refl
source_name kind n start (BadAfter m h) = refl
source_name kind n start TooLong = refl

-- ---- other texts for the names

module _ (spelled : LibraryName → List ℕ) (written : (n : LibraryName) → IsProper n → spelled n ≡ library_text n) where
  set_spelled : (c : code_set.ImportSet) (s : ImportSet) → IsProperSet s → IsSetText c s → IsSetOf (λ t n. t ≡ spelled n) c s
  set_spelled (code_set.Library t) s h k = (k.0, (k.1.0, k.1.1 ∙ sym (written k.0 (subst IsProperSet k.1.0 h))))
  set_spelled (code_set.Only' p c ns) s h k = (k.0, (k.1.0, set_spelled c k.0 (subst IsProperSet k.1.0 h) k.1.1))
  set_spelled (code_set.Except' p c ns) s h k = (k.0, (k.1.0, set_spelled c k.0 (subst IsProperSet k.1.0 h) k.1.1))
  set_spelled (code_set.Prefix' p c t) s h k = (k.0, (k.1.0, set_spelled c k.0 (subst IsProperSet k.1.0 h) k.1.1))
  set_spelled (code_set.Rename' p c ps) s h k = (k.0, (k.1.0, set_spelled c k.0 (subst IsProperSet k.1.0 h) k.1.1))
  set_spelled code_set.Bad s h k = k

  sets_spelled : (cs : List code_import.ImportSpec) (ss : List ImportSpec) → AreProperSpecs ss → AreSpecs cs ss → AreImports spelled cs ss
  sets_spelled [] [] h k = tt
  sets_spelled [] (s ∷ ss) h k = absurd k
  sets_spelled (c ∷ cs) [] h k = absurd k
  sets_spelled (c ∷ cs) (s ∷ ss) h k = (set_spelled c.set s.set h.0 k.0.set, sets_spelled cs ss h.1 k.1)

  pub imports_spelled : (unit : ℕ) (c : code.UnitSource) (u : UnitSource) (d : Datum) → IsSource unit c u d → AreImports spelled c.imports (specs_from unit 0 (forms_or_none u.forms))
  imports_spelled unit c u d h =
      let forms : forms_of c.forms ≡ forms_or_none u.forms = sym (ap forms_or_none h.forms) in
      subst (λ (fs : List UnitForm). AreImports spelled c.imports (specs_from unit 0 fs)) forms
      (sets_spelled c.imports (specs_from unit 0 (forms_of c.forms)) (all_proper unit 0 (forms_of c.forms)) h.imports)

  name_spelled : (o : Option LibraryName) → IfProper o → option_map library_text o ≡ option_map spelled o
  name_spelled None h = refl
  name_spelled (Some n) h = ap Some (sym (written n h))

  -- a unit's name, where it is proper
  pub unit_spelled : (unit : ℕ) (c : code.UnitSource) (u : UnitSource) (d : Datum) → IfProper u.name → IsSource unit c u d → c.name ≡ option_map spelled u.name
  unit_spelled unit c u d proper h = h.name ∙ name_spelled u.name proper

  pub source_spelled : (t : Texts) (known : Known) (unit document : ℕ) (c : code.UnitSource) (d : Datum) → IsSource unit c (library_of t known document d) d → c.name ≡ option_map spelled (library_of t known document d).name
  source_spelled t known unit document c d h =
      let named = source_name IsLibrary (library_name d) (place_of d) (library_listing t known (own document d) (behind_head d)) in
      unit_spelled unit c (library_of t known document d) d (subst IfProper (sym named) (library_name_proper (behind_head d))) h
