-- The heads of units that were listed are those of the program's units.
use Rattle.std.proofs.Common.{◌≡◌, ℕ, suc, ◌+◌, List, [], ◌∷◌, map, length, slice_get, Some, refl, sym, ap, ◌∙◌, subst, arith}
use Rattle.scheme_model.specs.Data.{place_of}
use Rattle.scheme_model.specs.Declarations.{UnitForm, unit_or}
use Rattle.scheme_model.specs.Diagnostics.{unit_start}
use Rattle.scheme_model.specs.IncludedUnits.{Placed}
use Rattle.scheme_model.specs.Program.{Prepared, UnitResult, known_in, units_of}
use Rattle.scheme_model.specs.ScopedProgram.{scoped_program_of}
use Rattle.core_tree.specs.Units.{ranges_from}
use Rattle.document_store.specs.Texts.{Document}
use Rattle.read_documents.specs.Places.{AreHeads, IsHead, spans_of}
use Rattle.read_documents.specs.Readings.{AreReadAs, Read, documents_in}
use Rattle.scheme_model.specs.Sites.{names_in_forms}
use Rattle.document_units.specs.UnitsListed.{IsToldBy}
use Rattle.read_documents.specs.declared.heads.Head.{Head}
use Rattle.program_expansion.proofs.ProgramOf.{unit_prepared}
use Rattle.document_units.proofs.TurnGraph.{as_many}
use Rattle.program_expansion.proofs.TurnResults.{scoped_units}
use Rattle.document_units.proofs.UnitStarts.{unit_starts}

heads_from : (rs : List Read) (k : ℕ) (hs : List Head) (us : List UnitResult) → length hs ≡ length us → ((n : ℕ) (h : Head) (r : UnitResult) → slice_get hs n ≡ Some h → slice_get us n ≡ Some r → IsHead rs (k + n) h r) → AreHeads rs k hs us
heads_from rs k [] [] many each = tt
heads_from rs k [] (r ∷ us) many each = absurd (omega arith)
heads_from rs k (h ∷ hs) [] many each = absurd (omega arith)
heads_from rs k (h ∷ hs) (r ∷ us) many each = (
  subst (λ (i : ℕ). IsHead rs i h r) (none_more k) (each 0 h r refl refl),
  heads_from rs (suc k) hs us (omega arith) (λ n g s at there. subst (λ (i : ℕ). IsHead rs i g s) (one_more k n) (each (suc n) g s at there)),
)
  where
    none_more : (k : ℕ) → k + 0 ≡ k
    none_more k = omega arith

    one_more : (k n : ℕ) → k + suc n ≡ suc k + n
    one_more k n = omega arith

module _ (ds : List (List ℕ × Document)) (rs : List Read) (read : AreReadAs ds rs) (hs : List Head) (told : (n : ℕ) (u : Placed) (h : Head) → slice_get (units_of (documents_in rs)) n ≡ Some u → slice_get hs n ≡ Some h → IsToldBy (documents_in rs) n u h) where
  head_stands : (n : ℕ) (h : Head) (r : UnitResult) → slice_get hs n ≡ Some h → slice_get (scoped_program_of (documents_in rs)).units n ≡ Some r → IsHead rs n h r
  head_stands n h r at there =
      let p = unit_prepared (units_of (documents_in rs)) (known_in (documents_in rs)) n r there in
      let t = told n p.0 h p.1.0 at in
      record {
        number = ap (λ (q : Prepared). q.number) p.1.1;
        document = t.document ∙ ap (λ (q : Prepared). q.placed.document) (sym p.1.1);
        span = unit_starts ds rs read p.0.document p.0.source h.span t.begins ∙ (ap (λ (q : Prepared). (unit_start (spans_of rs) q).span) (sym p.1.1));
        firsts = t.firsts ∙ ap (λ (q : Prepared). map (λ (f : UnitForm). (place_of f.datum).first) q.forms) (sym p.1.1);
        homes = t.homes ∙ ap (λ (q : Prepared). map (λ (f : UnitForm). unit_or n f.home) q.forms) (sym p.1.1);
        names = t.names ∙ ap (λ (q : Prepared). names_in_forms q.number 0 q.forms) (sym p.1.1);
        ranges = t.ranges ∙ ap (λ (q : Prepared). ranges_from n 0 q.forms) (sym p.1.1);
      }

  pub heads_stand : length hs ≡ length (units_of (documents_in rs)) → AreHeads rs 0 hs (scoped_program_of (documents_in rs)).units
  heads_stand many =
      let us = units_of (documents_in rs) in
      let known = known_in (documents_in rs) in
      heads_from rs 0 hs (scoped_program_of (documents_in rs)).units (many ∙ (sym (as_many us us 0) ∙ sym (scoped_units us known).0)) (λ n h r at there. subst (λ (i : ℕ). IsHead rs i h r) (from_zero n) (head_stands n h r at there))
    where
      from_zero : (n : ℕ) → n ≡ 0 + n
      from_zero n = omega arith
