-- An export that isn't renamed has one identifier.
use Rattle.std.proofs.Common.{◌≡◌, ℕ, suc, Bool, true, false, List, [], ◌∷◌, ◌++◌, refl}
use Rattle.std.specs.Prelude.{codes, ◌&&◌}
use Rattle.scheme_model.specs.declared.Home.{Home}
use Rattle.scheme_model.specs.Trees.{Tree, name, atom, list, vector, no_trees, tree, placed_by}
use Rattle.scheme_model.specs.Data.{Datum}
use Rattle.scheme_model.specs.DataTrees.{tree_of}
use Rattle.scheme_model.specs.Declarations.{UnitForm, home_of, is_headed, list_parts}
use Rattle.scheme_model.specs.Program.{ExportSpec, behind_first, export_of, exports_with, exports_in, exports_from}
use Rattle.read_documents.specs.UnitSources.{HaveOneIfSame}

both : (xs ys : List ExportSpec) → HaveOneIfSame xs → HaveOneIfSame ys → HaveOneIfSame (xs ++ ys)
both [] ys h k = k
both (x ∷ xs) ys h k = (h.0, both xs ys h.1 k)

one_export : (form : ℕ) (t : Tree (List ℕ)) → HaveOneIfSame (export_of form t)
one_export form (name i o) = (λ h. refl, tt)
one_export form (atom a o) = tt
one_export form (vector ts o) = tt
one_export form (list no_trees end o) = tt
one_export form (list (tree r no_trees) end o) = tt
one_export form (list (tree r (tree (name i p) (tree (name j q) ts))) end o) = (λ h. absurd cc, tt)
one_export form (list (tree r (tree (name i p) no_trees)) end o) = tt
one_export form (list (tree r (tree (name i p) (tree (atom b q) ts))) end o) = tt
one_export form (list (tree r (tree (name i p) (tree (list us e q) ts))) end o) = tt
one_export form (list (tree r (tree (name i p) (tree (vector us q) ts))) end o) = tt
one_export form (list (tree r (tree (atom a p) ts)) end o) = tt
one_export form (list (tree r (tree (list us e p) ts)) end o) = tt
one_export form (list (tree r (tree (vector us p) ts)) end o) = tt

all_with : (form : ℕ) (h : Home) (ds : List Datum) → HaveOneIfSame (exports_with form h ds)
all_with form h [] = tt
all_with form h (d ∷ ds) = both (export_of form (tree_of (λ s. s) (placed_by h) d)) (exports_with form h ds) (one_export form (tree_of (λ s. s) (placed_by h) d)) (all_with form h ds)

all_in : (unit form : ℕ) (f : UnitForm) (b : Bool) → (f.declared && is_headed (codes "export") f.datum) ≡ b → HaveOneIfSame (exports_in unit form f)
all_in unit form f true e = rw e (all_with form (home_of unit form f) (behind_first (list_parts f.datum)))
all_in unit form f false e = rw e tt

-- the exports of forms
pub all_from : (unit form : ℕ) (fs : List UnitForm) → HaveOneIfSame (exports_from unit form fs)
all_from unit form [] = tt
all_from unit form (f ∷ fs) = both (exports_in unit form f) (exports_from unit (suc form) fs) (all_in unit form f (f.declared && is_headed (codes "export") f.datum) refl) (all_from unit (suc form) fs)
