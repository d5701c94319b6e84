-- Units that were judged, as they are handed on to be expanded.
use Rattle.std.proofs.Common.{◌≡◌, ℕ, List, [], Bool, true, false, cond, slice_get, Option, Some, None, refl, sym, ap, ◌∙◌, subst}
use Rattle.std.specs.Option.{option_map, is_some}
use Rattle.scheme_model.specs.Requirements.{LibraryName}
use Rattle.scheme_model.specs.Program as model
use Rattle.scheme_model.specs.IncludedUnits.{Placed}
use Rattle.scheme_model.specs.Program.{Prepared, prepared, prepare, fault_before}
use Rattle.scheme_model.specs.ScopedProgram.{scoped_before}
use Rattle.unit_sources.specs.declared.units.UnitSource.{UnitSource}
use Rattle.read_documents.specs.Broken.{told, AreJudged, without_if, Forgets}
use Rattle.program_expansion.specs.UnitResults.{HeadsBy}
use Rattle.read_documents.specs.UnitSources.{IsSourceOf, AreSourcesOf, AreReadOf}
use Rattle.read_documents.specs.declared.heads.WholeFault.{WholeFault}
use Rattle.read_documents.specs.declared.heads.Head.{Head}

-- before any is expanded they are broken as they were judged
pub judged_heads : (us : List Placed) (old new : List Head) → AreJudged us old new → HeadsBy us scoped_before new
judged_heads us old new judged n u h there at = let j = judged.each n h at in (j.1.1 u there).fault

-- a source keeps all but its imports, and these where its unit isn't broken
module _ (spelled : LibraryName → List ℕ) (p : Prepared) (fault : Option model.WholeFault) (s : UnitSource) (h : IsSourceOf spelled p None s) where
  lost : IsSourceOf spelled p fault s
  lost = record { kind = h.kind; forms = h.forms; imports = λ none. h.imports refl; exports = h.exports; single = h.single; lost = h.lost }

  by_head : (f : Option WholeFault) → f ≡ option_map told fault → (b : Bool) → is_some f ≡ b → IsSourceOf spelled p fault (cond b (record s { imports = [] }) s)
  by_head f is false e = lost
  by_head f is true e = record { kind = h.kind; forms = h.forms; imports = λ none. clash (sym (ap (λ (o : Option WholeFault). is_some o) (is ∙ ap (option_map told) none)) ∙ e); exports = h.exports; single = h.single; lost = h.lost }
    where
      clash : {P : Type 0} → false ≡ true → P
      clash k = absurd cc

-- those of broken units have no imports any more
pub forgotten_sources : (spelled : LibraryName → List ℕ) (us : List Placed) (hs : List Head) (old new : List UnitSource) → AreReadOf spelled us old → HeadsBy us scoped_before hs → Forgets hs old new → AreSourcesOf spelled us new
forgotten_sources spelled us hs old new read by forgets n u c there at =
    let f = forgets.each n c at in
    subst (λ (t : UnitSource). IsSourceOf spelled (prepared us n u) (fault_before us (prepare us 0 us) (prepared us n u)) t) (sym f.1.1) (go f.0 (read n u f.0 there f.1.0) (slice_get hs n) refl)
  where
    go : (s : UnitSource) → IsSourceOf spelled (prepared us n u) None s → (o : Option Head) → slice_get hs n ≡ o → IsSourceOf spelled (prepared us n u) (fault_before us (prepare us 0 us) (prepared us n u)) (without_if o s)
    go s h None e = lost spelled (prepared us n u) (fault_before us (prepare us 0 us) (prepared us n u)) s h
    go s h (Some head) e = by_head spelled (prepared us n u) (fault_before us (prepare us 0 us) (prepared us n u)) s h head.fault (by n u head there e) (is_some head.fault) refl
