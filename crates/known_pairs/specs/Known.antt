-- Which units go on, by what is known before forms are worked on (R7RS 5.1): after an event a unit is broken as a whole where it has a fault then. That its
-- forms count too many nodes together isn't known yet.
use Rattle.std.specs.Prelude.{◌≡◌, ℕ, List, map, length, true, ◌||◌}
use Rattle.scheme_model.specs.Declarations.{UnitForm, home_of}
use Rattle.scheme_model.specs.Order.{is_some}
use Rattle.scheme_model.specs.Program.{known_in, units_of, prepare, fault_before}
use Rattle.scheme_model.specs.ScopedProgram.{scoped_work, scoped_before}
use Rattle.renumbering_laws.specs.Renumbering.{Renumbering}
use Rattle.carried_forms.specs.Paired.{UnitText, UnitPair, unit_pairs, renumbering}
use Rattle.carried_forms.specs.Worked.{OpenDocument, read_documents, units_at_work, unit_text, unit_texts}
use Rattle.carried_forms.specs.Carried.{IsIn, carried_by, work_beside}
use Rattle.carried_laws.specs.Homes.{IsForm}
use Rattle.carried_laws.specs.HomeUris.{uri_in}
use Rattle.carried_laws.specs.CarriedOver.{prepared_of}

abbrev pub known_texts : List OpenDocument → List UnitText
known_texts ds =
    let all = units_of (read_documents ds) in
    let ps = prepare all 0 all in
    let rs = (scoped_work all ps (known_in (read_documents ds)) (length ps) scoped_before).results in
    map (λ p. record (unit_text ds rs p) { broken = is_some (fault_before all ps p) }) ps

abbrev pub pairs_known : (before after : List OpenDocument) → List UnitPair
pairs_known before after = unit_pairs (unit_texts before) (known_texts after)

abbrev pub numbers_known : (before after : List OpenDocument) → Renumbering
numbers_known before after = renumbering (pairs_known before after)

-- the forms that are carried by these pairs, and the work of the event
abbrev pub carried_known : (before after : List OpenDocument) → List (ℕ × ℕ)
carried_known before after = carried_by (numbers_known before after) (units_at_work (read_documents before)) (units_at_work (read_documents after)) (pairs_known before after)

abbrev pub work_known : (before after : List OpenDocument) → ℕ
work_known before after = work_beside (carried_known before after) (units_at_work (read_documents after))

-- the numbers send the text from which a form that goes on is included to the text of that uri afterwards, and keep the form's number there
abbrev pub KnownHomes : Renumbering → (before after : List OpenDocument) → Type 0
KnownHomes r before after =
    (p : UnitPair) → IsIn p (pairs_known before after) → (n : ℕ × ℕ) → IsIn n p.forms → (f g : UnitForm) → IsForm (prepared_of before) p.before n.0 f → IsForm (prepared_of after) p.after n.1 g → (is_some f.home || is_some g.home) ≡ true →
    let h = home_of p.before n.0 f in let i = home_of p.after n.1 g in uri_in before h.unit ≡ uri_in after i.unit → (r.unit h.unit ≡ i.unit) × (r.form h.unit h.form ≡ h.form)
