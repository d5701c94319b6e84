-- Each form that goes on has an entry that the program before left.
use Rattle.std.proofs.Common.{◌≡◌, ℕ, List, length, true, false, Option, Some, sym, ap, ◌∙◌, subst, arith}
use Rattle.scheme_model.specs.Ident.{Ident, Written}
use Rattle.scheme_model.specs.Trees.{Tree}
use Rattle.scheme_model.specs.Requirements.{Known}
use Rattle.scheme_model.specs.UnitExpansion.{Formed}
use Rattle.scheme_model.specs.ScopedExpansion.{ScopedState}
use Rattle.scheme_model.specs.Includes.{Document}
use Rattle.scheme_model.specs.IncludedUnits.{Placed}
use Rattle.scheme_model.specs.Program.{Prepared, UnitResult, known_in, units_of, prepare, unit_entries, is_ready, first_ready, result_at, enough_turns, forms_at_work}
use Rattle.scheme_model.specs.ScopedProgram.{ScopedProgress, forms_over, scoped_start_after, scoped_unit_over, scoped_work, scoped_before}
use Rattle.form_laws.specs.Begins.{Each}
use Rattle.kept_forms.specs.KeptForms.{FormOrKept, form_of}
use Rattle.kept_forms.specs.Carried.{Onwards}
use Rattle.kept_forms.specs.KeptPrograms.{Keeping}
use Rattle.kept_forms.proofs.Programs.{between_at, placed_at, new_unit}
use Rattle.forgotten_locals.specs.Ways.{forgetting, unit_by}
use Rattle.forgotten_locals.specs.Programs.{IsProgressOutside, forgetting_worked, forgetting_work, AtStart, AtUnit, AtUnits, UnitIsKept}
use Rattle.forgotten_locals.proofs.Units.{forgetting_same}
use Rattle.forgotten_locals.proofs.WholePrograms.{progress_outside}
use Rattle.carried_forms.specs.Paired.{UnitPair}
use Rattle.carried_forms.specs.Worked.{WorkedForm, WorkedUnit, OpenDocument, read_documents, worked_unit, units_at_work, is_broken, unit_text, unit_texts}
use Rattle.carried_forms.specs.Carried.{IsIn}
use Rattle.carried_forms.proofs.UnitLaws.{key_told}
use Rattle.carried_laws.specs.CarriedOver.{pairs_between}
use Rattle.carried_laws.specs.Entries.{HasAnswers}
use Rattle.carried_laws.proofs.Places.{mapped_at}
use Rattle.carried_laws.proofs.PairsSend.{pairs_found}
use Rattle.carried_laws.proofs.StayingPrograms.{unit_forms, worked_form, unit_begins}
use Rattle.answers_at_turns.specs.Had.{Had, HadStands}
use Rattle.answers_at_turns.proofs.ProgramsStay.{Same, programs_stay}
use Rattle.answers_at_turns.proofs.WholeUnits.{is_mapped, mapped_from, one_of}
use Rattle.answers_at_turns.proofs.LeftEntries.{entry_left}
use Rattle.carried_units.specs.Entries.{HasEntry}
use Rattle.carried_units.proofs.Results.{is_first, result_stays}
use Rattle.carried_units.proofs.CarriedUnits.{numbered_at, not_ended, given_too}
use Rattle.carried_units.proofs.CarriedPrograms.{IsWorked, worked_at_place, units_more, at_place, up_to}
use Rattle.carried_entries.specs.NewEntries.{AllHad, HasNow, LeavesEntries}
use Rattle.carried_entries.proofs.SamePrograms.{Stood, stood_in}

module _ (before after : List OpenDocument) (keep : Keeping) (now : ℕ → ℕ → Option Had) where
  abbrev ds : List Document
  ds = read_documents before

  abbrev all : List Placed
  all = units_of ds

  abbrev ps : List Prepared
  ps = prepare all 0 all

  abbrev known : Known
  known = known_in ds

  abbrev rs : List UnitResult
  rs = (scoped_work all ps known (length ps) scoped_before).results

  abbrev Leaves : Prepared → ScopedState → Type 0
  Leaves p s = LeavesEntries known keep now p s

  abbrev Plain : Prepared → ScopedState → Type 0
  Plain p s = UnitIsKept (forgetting enough_turns) known keep p s

  -- a unit that goes on isn't broken
  not_broken : (q : UnitPair) → IsIn q (pairs_between before after) → is_broken (result_at rs q.before) ≡ false
  not_broken q i =
      let found = pairs_found 0 (unit_texts before) (unit_texts after) q i in
      let z = mapped_at (unit_text before rs) ps found.place found.unit found.here in
      let number : z.0.number ≡ q.before = (let a = numbered_at all 0 all found.place z.0 z.1 in let b = found.before in omega (arith, a, b)) in
      ap (λ m. is_broken (result_at rs m)) (sym number) ∙ ap (λ x. x.broken) z.2 ∙ (key_told found.unit found.from.unit found.from.same).here

  module _ (k : AtUnits all ps Leaves (forgetting_worked all ps known keep) (length ps) scoped_before) where
    plain : AtUnits all ps Plain (forgetting_worked all ps known keep) (length ps) scoped_before
    plain = units_more all ps known Leaves Plain (λ p s a. a.kept) (forgetting_worked all ps known keep) (length ps) scoped_before k

    module _ (w : WorkedUnit) (z : IsWorked all ps known (length ps) scoped_before w) where
      abbrev n : ℕ
      n = z.place

      abbrev p : Prepared
      p = z.unit

      abbrev g : ScopedProgress
      g = scoped_work all ps known n scoped_before

      abbrev h : ScopedProgress
      h = forgetting_work all ps known keep n scoped_before

      abbrev t : ScopedState
      t = scoped_start_after all p g

      abbrev s : ScopedState
      s = scoped_start_after all p h

      abbrev xs : List FormOrKept
      xs = keep p.number

      abbrev ts : List (ℕ × Tree Ident)
      ts = forms_over (Written p.number) p.number 0 (forms_at_work p)

      out : IsProgressOutside g h
      out = progress_outside all ps known keep n (up_to all ps known keep Plain n (length ps) scoped_before z.within plain)

      here : Leaves p s
      here =
          let same : first_ready (is_ready all ps h.results) ps ≡ Some p = ap (λ rs. first_ready (is_ready all ps rs) ps) out.results ∙ z.first in
          let a : AtUnit all ps Leaves (Some p) h = subst (λ q. AtUnit all ps Leaves q h) same (at_place all ps known keep Leaves n (length ps) scoped_before z.within k) in
          subst (λ f. AtStart all Leaves p f h) z.fault a

      ready : is_ready all ps g.results p ≡ true
      ready = is_first all ps known n (length ps) z.within p z.first z.fault

      went : is_broken (result_at rs p.number) ≡ false → (fs : List Formed) × (unit_by (forgetting enough_turns) known xs s ≡ (Some fs, (unit_by (forgetting enough_turns) known xs s).1))
      went e =
          let q = scoped_unit_over known p t in
          let a = not_ended p (unit_entries all g.results p) q.1.table q.0 (ap is_broken (sym (result_stays all ps known n (length ps) z.within p z.first z.fault)) ∙ e) in
          let same = forgetting_same all ps known g (between_at all ps known n) (placed_at all ps known n) p (new_unit all ps known g p ready) xs here.kept.0 h out here.kept.1 in
          (a.0, given_too (unit_by (forgetting enough_turns) known xs s) a.0 (same.result ∙ a.1))

      entry_of : is_broken (result_at rs p.number) ≡ false → (f : WorkedForm) → IsIn f (worked_unit known p t).forms → HasEntry p.number f.around.state.program (now p.number) f
      entry_of e f i =
          let v = went e in
          let x = mapped_from form_of xs (worked_form f) (subst (IsIn (worked_form f)) (unit_forms known ts t ∙ sym here.kept.0) (is_mapped worked_form (worked_unit known p t).forms f i)) in
          let each : Each (HasNow p.number s.program (now p.number)) xs = subst (λ q. Onwards (λ fs u. Each (HasNow p.number s.program (now p.number)) xs) q) v.1 here.entries in
          let b = one_of (HasNow p.number s.program (now p.number)) xs each x.0 x.1 in
          let form : f.form ≡ x.0.form = ap (λ (y : ℕ × Tree Ident). y.0) x.2 in
          let has = entry_left all ps known n h p xs out ready here.kept.0 here.kept.1 (now p.number) v.0 (unit_by (forgetting enough_turns) known xs s).1 v.1 x.0 x.1 f i form b.entry b.there b.stands here.turns in
          let begins = unit_begins all ps known g (between_at all ps known n) (placed_at all ps known n) p (new_unit all ps known g p ready) in
          let program = (one_of (Same known p.number t) (worked_unit known p t).forms (programs_stay known p.number ts t begins) f i).0 in
          record {
            entry = b.entry;
            there = ap (now p.number) form ∙ b.there;
            stands = subst (λ c. HadStands p.number c (f.form, f.tree) b.entry) (sym program) (subst (λ (y : ℕ × Tree Ident). HadStands p.number s.program y b.entry) (sym x.2) b.stands);
            answers = subst (λ (y : ℕ × Tree Ident). HasAnswers y b.entry.kept b.entry.first b.entry.later f) (sym x.2) has;
          }

    one_had : (q : UnitPair) → IsIn q (pairs_between before after) → (f : WorkedForm) → Stood (units_at_work ds) q.before f → HasEntry q.before f.around.state.program (now q.before) f
    one_had q i f a =
        let z = worked_at_place all ps known (length ps) scoped_before a.unit a.among in
        let number : z.unit.number ≡ q.before = sym (ap (λ (w : WorkedUnit). w.number) z.is) ∙ a.number in
        subst (λ m. HasEntry m f.around.state.program (now m) f) number
        (entry_of a.unit z (ap (λ m. is_broken (result_at rs m)) number ∙ not_broken q i) f (subst (λ (w : WorkedUnit). IsIn f w.forms) z.is a.form))

    pub all_had : AllHad before after now
    all_had q n on f here = one_had q on.unit f (stood_in (units_at_work ds) q.before n.0 f here)
