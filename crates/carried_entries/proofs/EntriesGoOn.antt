-- The entry of a carried form goes on under the new numbers.
use Rattle.std.proofs.Common.{◌≡◌, ℕ, List, true, Option, Some, None, sym, ap, ◌∙◌, subst}
use Rattle.scheme_model.specs.RulesShape.{option_map}
use Rattle.scheme_model.specs.Questions.{Around}
use Rattle.form_laws.specs.Begins.{Each}
use Rattle.renumbering_laws.specs.Moving.{move_tree}
use Rattle.renumbering_laws.specs.Renumbering.{Renumbering, change}
use Rattle.renumbering_laws.specs.NewSurroundings.{HasOldNumbers, around_new}
use Rattle.kept_forms.specs.KeptForms.{KeptParts}
use Rattle.carried_forms.specs.Worked.{WorkedForm, WorkedUnit, OpenDocument, AreOpenOnce, read_documents, units_at_work, unit_texts}
use Rattle.carried_forms.specs.Paired.{UnitPair}
use Rattle.carried_forms.specs.Carried.{IsIn, IsCarried, asks_alike, worked_at, carried}
use Rattle.carried_forms.proofs.CarriedLaws.{carried_only}
use Rattle.carried_forms.proofs.OldNumbers.{pairs_tell}
use Rattle.carried_forms.proofs.ProgramUnits.{programs_told, programs_within}
use Rattle.carried_laws.specs.AtWork.{IsAtWork, AreAtWork}
use Rattle.carried_laws.specs.CarriedOver.{pairs_between, numbers_between, prepared_of, AllHomesGoOn}
use Rattle.carried_laws.specs.Homes.{HomesGoOn}
use Rattle.carried_laws.specs.Entries.{StandsFor, kept_parts_as}
use Rattle.carried_laws.proofs.CarriedOver.{both_there}
use Rattle.carried_laws.proofs.ClosedForms.{closed_new}
use Rattle.carried_laws.proofs.HomeTrees.{worked_tree}
use Rattle.carried_laws.proofs.PairsSend.{unit_sent, form_sent}
use Rattle.carried_laws.proofs.StayingPrograms.{program_begins}
use Rattle.carried_laws.proofs.StaysOn.{stays_there}
use Rattle.carried_laws.proofs.WorkedOnce.{form_by_number}
use Rattle.agreeing_numbers.specs.Following.{Follows}
use Rattle.agreeing_numbers.proofs.Following.{follow_alike}
use Rattle.answers_at_turns.specs.Had.{Had, RestStood}
use Rattle.answers_at_turns.proofs.WholeUnits.{one_of}
use Rattle.carried_units.specs.Entries.{HasEntry, AllHave}
use Rattle.carried_units.proofs.CarriedUnits.{each_in}
use Rattle.carried_entries.specs.NewEntries.{had_as, GoesOn, AllHad, EntriesGoOn}
use Rattle.carried_entries.proofs.SamePrograms.{number_found, stood_in, same_program}

module _ (before after : List OpenDocument) (r : Renumbering) (b : HasOldNumbers r) (had now : ℕ → ℕ → Option Had) (once : AreOpenOnce before) (once_after : AreOpenOnce after) (homes : AllHomesGoOn before after)
    (homes_there : HomesGoOn r (prepared_of before) (prepared_of after) (pairs_between before after)) (follows : Follows (numbers_between before after) r (read_documents after)) (goes : EntriesGoOn before after r b had now) (has : AllHad before after had) where
  abbrev us : List WorkedUnit
  us = units_at_work (read_documents before)

  abbrev vs : List WorkedUnit
  vs = units_at_work (read_documents after)

  abbrev s : Renumbering
  s = numbers_between before after

  old_numbers : HasOldNumbers s
  old_numbers = pairs_tell (unit_texts before) (unit_texts after) (programs_told before once) (programs_within after once_after)

  rest_stood : (u : Around) (c : Option KeptParts) → RestStood u c → RestStood (around_new r b u) (option_map (kept_parts_as r) c)
  rest_stood u None h = tt
  rest_stood u (Some c) h = closed_new r b u h

  -- a form that goes on, before and after
  module _ (q : UnitPair) (n : ℕ × ℕ) (on : GoesOn before after q n) (f g : WorkedForm) (here : worked_at us q.before n.0 ≡ Some f) (there : worked_at vs q.after n.1 ≡ Some g) (alike : asks_alike s f g ≡ true) where
    at : IsAtWork q.before f
    at =
        let w = stood_in us q.before n.0 f here in
        subst (λ m. IsAtWork m f) w.number (one_of (IsAtWork w.unit.number) w.unit.forms (one_of AreAtWork us (program_begins (read_documents before)) w.unit w.among) f w.form)

    sent : s.unit q.before ≡ q.after
    sent = unit_sent (unit_texts before) (unit_texts after) (programs_within before once) q on.unit

    old_tree : (s.form q.before f.form ≡ g.form) × (move_tree (change s) f.tree ≡ g.tree)
    old_tree = worked_tree before after s q on.unit n on.forms f g here there sent (form_sent (unit_texts before) (unit_texts after) (programs_within before once) q on.unit n on.forms) homes

    new_tree : (r.form q.before f.form ≡ g.form) × (move_tree (change r) f.tree ≡ g.tree)
    new_tree = worked_tree before after r q on.unit n on.forms f g here there (goes.units q n on) (goes.forms q n on) homes_there

    still : asks_alike r f g ≡ true
    still = follow_alike (read_documents after) s r old_numbers follows q.before n.1 f g at (ap (λ u. worked_at vs u n.1) sent ∙ there) old_tree.0 old_tree.1 alike

    pub entry_goes_on : (number : g.form ≡ n.1) → (f.form ≡ n.0) → HasEntry q.before f.around.state.program (had q.before) f → HasEntry q.after g.around.state.program (now q.after) g
    entry_goes_on to from e =
        let h = e.entry in
        let z = stays_there r b q.before h.kept f g at h.first h.later e.stands.stands e.answers still new_tree.0 new_tree.1 in
        let kind = same_program before after q on.unit f g (stood_in us q.before n.0 f here) (stood_in vs q.after n.1 g there) in
        record {
          entry = had_as r b h;
          there = ap (now q.after) to ∙ goes.entries q n on h (ap (had q.before) (sym from) ∙ e.there);
          stands = record {
            stands = subst (λ m. StandsFor m (g.form, g.tree) (had_as r b h).kept (around_new r b h.first) (around_new r b h.later)) (goes.units q n on) z.0;
            stood_first = closed_new r b h.first e.stands.stood_first;
            stood_later = rest_stood h.later h.kept.parts e.stands.stood_later;
            program_first = e.stands.program_first ∙ kind;
            program_later = e.stands.program_later ∙ kind;
          };
          answers = z.1;
        }

  one_has : (w : WorkedUnit) → IsIn w vs → (g : WorkedForm) → IsIn g w.forms → IsIn (w.number, g.form) (carried before after) → HasEntry w.number g.around.state.program (now w.number) g
  one_has w i g j c = go (carried_only s us vs (pairs_between before after) (w.number, g.form) c)
    where
      own : Option WorkedForm → WorkedForm
      own None = g
      own (Some x) = x

      go : IsCarried s us vs (pairs_between before after) (w.number, g.form) → HasEntry w.number g.around.state.program (now w.number) g
      go d =
          let q = d.unit in let n = d.forms in
          let a = both_there s (worked_at us q.before n.0) (worked_at vs q.after n.1) d.alike in
          let on : GoesOn before after q n = record { unit = d.goes_on; forms = d.with_it } in
          let unit : w.number ≡ q.after = ap (λ (x : ℕ × ℕ). x.0) d.is in
          let form : g.form ≡ n.1 = ap (λ (x : ℕ × ℕ). x.1) d.is in
          let found : worked_at vs q.after n.1 ≡ Some g = (λ k. worked_at vs (sym unit k) (sym form k)) ∙ form_by_number (read_documents after) w i g j in
          let same : a.other ≡ g = ap own (sym a.there ∙ found) in
          let alike : asks_alike s a.one g ≡ true = subst (λ x. asks_alike s a.one x ≡ true) same a.alike in
          subst (λ m. HasEntry m g.around.state.program (now m) g) (sym unit)
          (entry_goes_on q n on a.one g a.here found alike form (number_found us q.before n.0 a.one a.here) (has q n on a.one a.here))

  pub all_have : AllHave before after now
  all_have =
      each_in (λ (w : WorkedUnit). Each (λ (g : WorkedForm). IsIn (w.number, g.form) (carried before after) → HasEntry w.number g.around.state.program (now w.number) g) w.forms) vs
      (λ w i. each_in (λ (g : WorkedForm). IsIn (w.number, g.form) (carried before after) → HasEntry w.number g.around.state.program (now w.number) g) w.forms (λ g j c. one_has w i g j c))
