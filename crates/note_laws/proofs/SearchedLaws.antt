-- Each unit of a program may forget what is local while its definitions go through the notes that speak of their identifiers alone.
use Rattle.std.proofs.Common.{◌≡◌, ℕ, List, [], ◌∷◌, map, true, eqb, Option, Some, None, refl, sym, ap, subst}
use Rattle.std.proofs.lemmas.Bool.{both_ways, eq-eqb}
use Rattle.scheme_model.specs.Ident.{Ident, Written}
use Rattle.scheme_model.specs.Trees.{Tree}
use Rattle.scheme_model.specs.Meaning.{Global}
use Rattle.scheme_model.specs.Requirements.{Known}
use Rattle.scheme_model.specs.UnitExpansion.{Formed}
use Rattle.scheme_model.specs.ScopedExpansion.{ScopedState}
use Rattle.scheme_model.specs.IncludedUnits.{Placed}
use Rattle.scheme_model.specs.Program.{Prepared, is_ready, unit_entries, with_entries, enough_turns, forms_at_work}
use Rattle.scheme_model.specs.ScopedProgram.{ScopedProgress, forms_over, scoped_unit_over, scoped_start_after, scoped_work, scoped_before}
use Rattle.model_laws.proofs.EntryLaws.{GivenSo}
use Rattle.form_laws.specs.Begins.{Each}
use Rattle.kept_forms.specs.KeptForms.{FormOrKept, form_of}
use Rattle.kept_forms.proofs.Programs.{between_at, placed_at, new_unit}
use Rattle.expansion_laws.proofs.BoundedNotes.{Foreign}
use Rattle.expansion_laws.proofs.SearchedPrograms.{bounded}
use Rattle.forgotten_locals.specs.Outside.{ForgetsLocals}
use Rattle.forgotten_locals.specs.Ways.{unit_by}
use Rattle.forgotten_locals.specs.Programs.{IsProgressOutside}
use Rattle.forgotten_locals.proofs.Units.{forgetting_begins, forgetting_same}
use Rattle.forgotten_locals.proofs.StaysOutside.{start_is_outside, turns_outside}
use Rattle.note_laws.specs.Told.{ImportsOthers}
use Rattle.note_laws.specs.Searching.{searching, none_kept, forms_anew}
use Rattle.note_laws.proofs.SearchedTurns.{Imports, unit_kept, unit_follows}

forms_are : (ts : List (ℕ × Tree Ident)) → map form_of (none_kept ts) ≡ ts
forms_are [] = refl
forms_are (t ∷ ts) = ap (λ zs. t ∷ zs) (forms_are ts)

none_is_kept : (ts : List (ℕ × Tree Ident)) → Each (λ (x : FormOrKept). x.kept ≡ None) (none_kept ts)
none_is_kept [] = tt
none_is_kept (t ∷ ts) = (refl, none_is_kept ts)

module _ (all : List Placed) (ps : List Prepared) (known : Known) (n : ℕ) (p : Prepared) where
  abbrev g : ScopedProgress
  g = scoped_work all ps known n scoped_before

  module _ (ready : is_ready all ps g.results p ≡ true) where
    start_imports : Imports p.number (scoped_start_after all p g)
    start_imports = let b = bounded all ps known n p ready in record { unit = refl; entries = b.entries }

    -- no unit imports a definition of the one that begins
    pub imports_others : ImportsOthers (scoped_start_after all p g)
    imports_others v x i e = apart (subst (GivenSo (Foreign p.number)) e (start_imports.entries v x))
      where
        apart : GivenSo (Foreign p.number) (Some (Global p.number i)) → ⊥
        apart f = both_ways (eqb p.number p.number) f (eq-eqb p.number p.number refl)

    module _ (h : ScopedProgress) (o : IsProgressOutside g h) where
      outside_imports : Imports p.number (scoped_start_after all p h)
      outside_imports =
          let r = sym o.results in let e = sym o.entry in
          record { unit = refl; entries = λ v x. subst (GivenSo (Foreign p.number)) (λ j. with_entries p.number (unit_entries all (r j) p).0 (e j) v x) (start_imports.entries v x) }

      pub searching_forgets : ForgetsLocals (scoped_unit_over known p (scoped_start_after all p g)) (unit_by (searching enough_turns) known (forms_anew p) (scoped_start_after all p h))
      searching_forgets =
          let xs = forms_anew p in let s = scoped_start_after all p h in
          let forms = forms_are (forms_over (Written p.number) p.number 0 (forms_at_work p)) in
          let none = none_is_kept (forms_over (Written p.number) p.number 0 (forms_at_work p)) in
          let k = unit_kept p.number enough_turns known xs s none in
          let new = new_unit all ps known g p ready in
          let begins = forgetting_begins all ps known g (between_at all ps known n) (placed_at all ps known n) p new xs forms h o k in
          let same = forgetting_same all ps known g (between_at all ps known n) (placed_at all ps known n) p new xs forms h o k in
          let out = turns_outside known enough_turns xs s (start_is_outside all p g h o) in
          subst (λ (q : Option (List Formed) × ScopedState). ForgetsLocals (scoped_unit_over known p (scoped_start_after all p g)) q) (sym (unit_follows p.number enough_turns known xs s none outside_imports begins out)) same
