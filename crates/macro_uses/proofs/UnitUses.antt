-- A unit counts the same by scopes as by substitution, since both come to one state.
use Rattle.std.proofs.Common.{◌≡◌, ℕ, suc, List, [], ◌∷◌, map, Bool, true, false, cond, Option, Some, None, refl, sym, ap, ◌∙◌, subst}
use Rattle.scheme_model.specs.Ident.{Written}
use Rattle.scheme_model.specs.Trees.{Tree}
use Rattle.scheme_model.specs.Requirements.{Known}
use Rattle.scheme_model.specs.Substitution.{Entries, State, model}
use Rattle.scheme_model.specs.ScopedExpansion.{ScopedState, scoped}
use Rattle.scheme_model.specs.UnitExpansion.{Formed, unit}
use Rattle.scheme_model.specs.Entries.{Entry}
use Rattle.scheme_model.specs.Program.{Prepared, SetResult, form_trees, start_of, enough_turns, unit_over, with_entries, forms_at_work}
use Rattle.scheme_model.specs.ScopedProgram.{ScopedProgress, forms_over, scoped_start_of, scoped_unit_over, imaged_macro}
use Rattle.model_laws.proofs.FrameStates.{names}
use Rattle.model_laws.proofs.EntryLaws.{NoLocal, Fits}
use Rattle.model_laws.proofs.FramePrograms.{done, Between, form_mapped, forms_seen, unit_same}
use Rattle.macro_uses.specs.MacroUses.{total_of, unit_uses}
use Rattle.macro_uses.specs.ScopedUses.{form_numbers, scoped_unit_uses}

-- their numbers are the same
numbers_mapped : {A B : Type 0} (f : A → B) (ts : List (ℕ × Tree A)) → map (λ t. t.0) (map (form_mapped f) ts) ≡ map (λ t. t.0) ts
numbers_mapped f [] = refl
numbers_mapped f (t ∷ ts) = ap (λ ns. t.0 ∷ ns) (numbers_mapped f ts)

-- ---- one unit

module _ (known : Known) (g : ScopedProgress) (h : Between g) (p : Prepared) (new : done g.results p.number ≡ false) (imports : List Entry × List SetResult) (fit : Fits NoLocal imports.0) where
  abbrev entry : Entries
  entry = with_entries p.number imports.0 g.entry

  abbrev start : ScopedState
  start = scoped_start_of p g entry

  abbrev by_scopes : Option (List Formed) × ScopedState
  by_scopes = scoped_unit_over known p start

  abbrev by_substitution : Option (List Formed) × State
  by_substitution = unit_over known (form_trees p.number 0 (forms_at_work p)) (start_of p g.table (map (imaged_macro g.places g.definitions) g.macros) entry)

  same_numbers : form_numbers p ≡ map (λ t. t.0) (form_trees p.number 0 (forms_at_work p))
  same_numbers = sym (numbers_mapped (names start []) (forms_over (Written p.number) p.number 0 (forms_at_work p))) ∙ ap (λ ts. map (λ t. t.0) ts) (forms_seen known g h p new imports fit)

  pub unit_counts : scoped_unit_uses known p start ≡ unit_uses known p (start_of p g.table (map (imaged_macro g.places g.definitions) g.macros) entry)
  unit_counts =
      let state = (unit_same known g h p new imports fit).state in let ns = same_numbers in
      λ j. total_of ((sym (ap (λ (s : State). s.uses) state)) j) (ns j)
