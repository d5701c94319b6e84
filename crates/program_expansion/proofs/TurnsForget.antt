-- The unit whose turn it is may forget what is local, and the bench goes on behind it with what is outside of all forms.
use Rattle.std.proofs.Common.{◌≡◌, ℕ, List, length, true, Option, refl, sym, ap, ◌∙◌, subst}
use Rattle.scheme_model.specs.Entries.{Entry}
use Rattle.scheme_model.specs.Requirements.{Known}
use Rattle.scheme_model.specs.UnitExpansion.{Formed}
use Rattle.scheme_model.specs.IncludedUnits.{Placed}
use Rattle.scheme_model.specs.Program.{Prepared, SetResult, UnitResult, prepared, prepare, is_ready, enough_turns, unit_entries, with_entries}
use Rattle.scheme_model.specs.ScopedExpansion.{ScopedState}
use Rattle.scheme_model.specs.ScopedProgram.{ScopedProgress, scoped_start_of, scoped_start_after, scoped_unit_over, scoped_work, scoped_before, after_unit}
use Rattle.scheme_model.specs.Substitution.{Entries}
use Rattle.forgotten_locals.specs.Outside.{ForgetsLocals}
use Rattle.forgotten_locals.specs.Ways.{unit_by}
use Rattle.forgotten_locals.specs.Programs.{IsProgressOutside}
use Rattle.note_laws.specs.Searching.{searching, forms_anew}
use Rattle.note_laws.proofs.SearchedLaws.{searching_forgets}
use Rattle.expansion_laws.proofs.SearchedPrograms.{unit_law}
use Rattle.form_expansion.specs.Forms.{StandsAt, MayForget}
use Rattle.form_expansion.specs.declared.forms.Bench.{Bench}
use Rattle.program_expansion.specs.UnitResults.{GoesOn, IsTurnOf, expanded_after}
use Rattle.document_units.specs.Turned.{scoped_at}
use Rattle.program_expansion.proofs.TurnCited.{TurnOf}
use Rattle.program_expansion.proofs.UnitGoes.{searched_goes}

module _ (all : List Placed) (known : Known) (p : Prepared) (h : ScopedProgress) where
  abbrev ps : List Prepared
  ps = prepare all 0 all

  abbrev began : List UnitResult → ScopedState
  began rs = scoped_start_of p h (with_entries p.number (unit_entries all rs p).0 h.entry)

  reached_forgets : (n : ℕ) → let g = scoped_work all ps known n scoped_before in is_ready all ps g.results p ≡ true → IsProgressOutside g h → MayForget known p (scoped_start_after all p g) (began g.results)
  reached_forgets n ready o =
      let g = scoped_work all ps known n scoped_before in
      let start = scoped_start_after all p g in
      subst (λ (q : Option (List Formed) × ScopedState). ForgetsLocals q (unit_by (searching enough_turns) known (forms_anew p) (began g.results))) (sym (unit_law all ps known n p ready))
      (subst (λ (rs : List UnitResult). ForgetsLocals (scoped_unit_over known p start) (unit_by (searching enough_turns) known (forms_anew p) (began rs))) o.results
      (searching_forgets all ps known n p ready h o))

  pub may_forget : (g : ScopedProgress) → IsTurnOf all known g p → IsProgressOutside g h → MayForget known p (scoped_start_after all p g) (began g.results)
  may_forget g turn o =
      subst (λ (k : ScopedProgress). is_ready all ps k.results p ≡ true → IsProgressOutside k h → MayForget known p (scoped_start_after all p k) (began k.results)) turn.reached
      (λ ready o. reached_forgets turn.count ready o) turn.ready o

pub turn_is : (all : List Placed) (known : Known) (x : List ℕ) (n : ℕ) (turn : TurnOf all known x n) → IsTurnOf all known (scoped_at all known x) (prepared all n turn.unit)
turn_is all known x n turn = record { count = length x; reached = turn.reached; ready = turn.ready }

-- ---- behind the unit

module _ (known : Known) (g : ScopedProgress) (p : Prepared) (imports : List Entry × List SetResult) where
  abbrev entry : Entries
  entry = with_entries p.number imports.0 g.entry

  abbrev gone : Option (List Formed) × ScopedState
  gone = expanded_after known g p imports.0

  pub goes_behind : (c : Bench) → StandsAt c gone.1 → GoesOn c (after_unit p imports entry g.results gone)
  goes_behind c h =
      let t = h.state in
      let k = after_unit p imports entry g.results gone in record {
        outside = record { table = t.table; macros = t.macros; places = t.places; definitions = t.definitions; entry = t.entry; results = k.results };
        is = record {
          table = ap (λ (s : ScopedState). s.table) h.is;
          macros = ap (λ (s : ScopedState). s.macros) h.is;
          places = sym (ap (λ (s : ScopedState). s.places) h.stands.outside);
          definitions = sym (ap (λ (s : ScopedState). s.definitions) h.stands.outside);
          entry = ap (λ (s : ScopedState). s.entry) h.is ∙ (searched_goes known p (scoped_start_of p g entry)).entry;
          results = refl;
        };
        layout = h.layout;
        state = t;
        notes = h.notes;
        stands = h.stands;
        continues = record { table = refl; macros = refl; places = refl; definitions = refl; entry = refl };
      }
