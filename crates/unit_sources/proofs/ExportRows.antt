-- Exports as they are read.
use Rattle.std.proofs.Common.{◌≡◌, ℕ, List, [], ◌∷◌, Bool, true, Option, Some, Result, Ok, Err, IfOk, refl, sym, ap, ◌∙◌, subst}
use Rattle.std.proofs.lemmas.Option.{same_Some}
use Rattle.ls_base.specs.declared.memory.Memory.{Memory}
use Rattle.scheme_model.specs.declared.Occ.{Occ}
use Rattle.scheme_model.specs.Data.{Datum, place_of}
use Rattle.scheme_model.specs.Trees.{Tree, name, atom, list, vector, Trees, tree, Tail}
use Rattle.scheme_model.specs.Program.{ExportSpec, export_of}
use Rattle.import_sets.specs.Sets.{named}
use Rattle.import_sets.specs.declared.set.SetName.{SetName}
use Rattle.datum_reader.specs.declared.datum.Datum as code
use Rattle.unit_sources.specs.declared.units.ExportSpec as code_export
use Rattle.datum_reader.specs.Looks.{plain, tree_at, trees_at, IsListOf}
use Rattle.unit_sources.specs.UnitsRead.{named_in, IsExportRead, IsExportOf}
use Rattle.datum_reader.proofs.LookLaws.{list_seen}

pub two_named : (form : ℕ) (r t u : Tree (List ℕ)) (ts : Trees (List ℕ)) (end : Tail (List ℕ)) (o : Option Occ) (a b : SetName) → Some (named a) ≡ named_in t → Some (named b) ≡ named_in u →
    (x : ExportSpec) × (export_of form (list (tree r (tree t (tree u ts))) end o) ≡ x ∷ []) × IsExportRead (record { form = form; inner = a; outer = b }) x
two_named form r (name i p) (name j q) ts end o a b h k =
    (record { form = form; inner = record { name = i; occ = p }; outer = record { name = j; occ = q }; renamed = true }, refl, record { form = refl; inner = same_Some _ _ h; outer = same_Some _ _ k })
two_named form r (name i p) (atom x q) ts end o a b h k = absurd cc
two_named form r (name i p) (list us e q) ts end o a b h k = absurd cc
two_named form r (name i p) (vector us q) ts end o a b h k = absurd cc
two_named form r (atom x p) u ts end o a b h k = absurd cc
two_named form r (list us e p) u ts end o a b h k = absurd cc
two_named form r (vector us p) u ts end o a b h k = absurd cc

-- an export by the parts of its list
pub by_parts : (form : ℕ) (x : Result (Option code_export.ExportSpec) Memory) (place : ℕ → Occ) (ds : List code.Datum) (d a b : code.Datum) (es fs gs : List code.Datum) → ds ≡ d ∷ es → es ≡ a ∷ fs → fs ≡ b ∷ gs →
    IfOk x (λ spec. (r : Tree (List ℕ)) (ts : Trees (List ℕ)) (end : Tail (List ℕ)) (o : Option Occ) → IsExportOf spec (export_of form (list (tree r (tree (tree_at place a) (tree (tree_at place b) ts))) end o))) →
    IfOk x (λ spec. (end : Tail (List ℕ)) (o : Option Occ) → IsExportOf spec (export_of form (list (trees_at place ds) end o)))
by_parts form (Ok spec) place ds d a b es fs gs e f g h = λ end o.
    subst (λ (xs : List code.Datum). IsExportOf spec (export_of form (list (trees_at place xs) end o))) (sym (e ∙ ap (λ (xs : List code.Datum). d ∷ xs) (f ∙ ap (λ (xs : List code.Datum). a ∷ xs) g)))
    (h (tree_at place d) (trees_at place gs) end o)
by_parts form (Err e) place ds d a b es fs gs i f g h = tt

-- an export that is a list
pub by_list : (form : ℕ) (x : Result (Option code_export.ExportSpec) Memory) (place : ℕ → Occ) (ds : List code.Datum) (b : Bool) (d : Datum) → IsListOf ds b d → IfOk x (λ spec. (end : Tail (List ℕ)) (o : Option Occ) → IsExportOf spec (export_of form (list (trees_at place ds) end o))) →
    IfOk x (λ spec. IsExportOf spec (export_of form (plain place d)))
by_list form (Ok spec) place ds b d l h = let t = list_seen place ds b d l in subst (λ (x : Tree (List ℕ)). IsExportOf spec (export_of form x)) (sym t.whole) (h t.end (Some (place (place_of d).first)))
by_list form (Err e) place ds b d l h = tt
