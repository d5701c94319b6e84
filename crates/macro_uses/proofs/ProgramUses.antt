-- All units of a program count the same by scopes as by substitution.
use Rattle.std.proofs.Common.{◌≡◌, ℕ, zero, suc, ◌+◌, List, [], ◌∷◌, length, Bool, true, false, cond, Option, Some, None, refl, sym, ap, ◌∙◌}
use Rattle.std.specs.Prelude.{◌&&◌, not}
use Rattle.scheme_model.specs.Requirements.{Known}
use Rattle.scheme_model.specs.Includes.{Document}
use Rattle.scheme_model.specs.IncludedUnits.{Placed}
use Rattle.scheme_model.specs.Program.{Prepared, Progress, WholeFault, units_of, prepare, known_in, unit_entries, is_ready, first_ready, fault_before, worked, progress_before}
use Rattle.scheme_model.specs.ScopedProgram.{ScopedProgress, scoped_worked, scoped_before, imaged}
use Rattle.model_laws.proofs.EntryLaws.{NoLocal, unit_entries_fit}
use Rattle.model_laws.proofs.FramePrograms.{done, Between, between_before, not_done, work_gone, progress_law}
use Rattle.macro_uses.specs.MacroUses.{uses_by_fault, worked_uses, work_uses, program_uses}
use Rattle.macro_uses.specs.ScopedUses.{scoped_uses_by_fault, scoped_worked_uses, scoped_work_uses, scoped_program_uses}
use Rattle.macro_uses.proofs.UnitUses.{unit_counts}

module _ (all : List Placed) (ps : List Prepared) (known : Known) where
  by_fault : (g : ScopedProgress) → Between g → (p : Prepared) → done g.results p.number ≡ false → (f : Option WholeFault) → scoped_uses_by_fault all known p f g ≡ uses_by_fault all known p f (imaged g)
  by_fault g h p new (Some fault) = refl
  by_fault g h p new None = unit_counts known g h p new (unit_entries all g.results p) (unit_entries_fit NoLocal (λ s. tt) all g.results h.exports p)

  abbrev OrReady : (Prepared → Bool) → Option Prepared → Type 0
  OrReady f None = Unit {0}
  OrReady f (Some p) = f p ≡ true

  first_is : (f : Prepared → Bool) (qs : List Prepared) → OrReady f (first_ready f qs)
  first_is f [] = tt
  first_is f (q ∷ qs) = go (f q) refl (first_is f qs)
    where
      go : (t : Bool) → f q ≡ t → OrReady f (first_ready f qs) → OrReady f (cond t (Some q) (first_ready f qs))
      go true e r = e
      go false e r = r

  worked_counts : (g : ScopedProgress) → Between g → (o : Option Prepared) → OrReady (is_ready all ps g.results) o → scoped_worked_uses all ps known o g ≡ worked_uses all ps known o (imaged g)
  worked_counts g h None r = refl
  worked_counts g h (Some p) r = by_fault g h p (not_done all ps known (done g.results p.number) _ r) (fault_before all ps p)

  pub work_counts : (n : ℕ) (g : ScopedProgress) → Between g → scoped_work_uses all ps known n g ≡ work_uses all ps known n (imaged g)
  work_counts zero g h = refl
  work_counts (suc n) g h =
      let o = first_ready (is_ready all ps g.results) ps in
      let gone = work_gone all ps known 1 g h in
      let rest = work_counts n (scoped_worked all ps known o g) gone.between in
      let here = worked_counts g h o (first_is (is_ready all ps g.results) ps) in
      let next = gone.same in
      λ j. here j + (rest ∙ ap (work_uses all ps known n) (sym next)) j

pub program_counts : (ds : List Document) → scoped_program_uses ds ≡ program_uses ds
program_counts ds =
    let all = units_of ds in let ps = prepare all 0 all in
    work_counts all ps (known_in ds) (length ps) scoped_before between_before ∙ ap (work_uses all ps (known_in ds) (length ps)) (progress_law all ps (known_in ds) 0)
