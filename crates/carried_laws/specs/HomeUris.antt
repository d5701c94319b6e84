-- Homes of included forms by their uris, under numbers of an event; and forms of a kind that stand at the same places of two texts.
use Rattle.std.specs.Prelude.{◌≡◌, ℕ, List, length, Bool, true, ◌||◌}
use Rattle.scheme_model.specs.Order.{is_some}
use Rattle.scheme_model.specs.Declarations.{UnitForm, home_of}
use Rattle.scheme_model.specs.Program.{UnitResult, known_in, prepare, units_of}
use Rattle.scheme_model.specs.ScopedProgram.{scoped_work, scoped_before}
use Rattle.scheme_model.specs.Diagnostics.{document_of}
use Rattle.renumbering_laws.specs.Renumbering.{Renumbering}
use Rattle.carried_forms.specs.Paired.{FormText, is_same_form, UnitPair}
use Rattle.carried_forms.specs.Worked.{OpenDocument, read_documents, uri_at}
use Rattle.carried_forms.specs.Carried.{IsIn}
use Rattle.carried_laws.specs.Homes.{At, IsForm}
use Rattle.carried_laws.specs.CarriedOver.{pairs_between, prepared_of}

abbrev pub results_of : List OpenDocument → List UnitResult
results_of ds = let all = units_of (read_documents ds) in let ps = prepare all 0 all in (scoped_work all ps (known_in (read_documents ds)) (length ps) scoped_before).results

-- the uri of the document of a unit
abbrev pub uri_in : List OpenDocument → ℕ → List ℕ
uri_in ds u = uri_at ds (document_of (results_of ds) u)

-- the numbers send the text from which a form that goes on is included to the text of that uri afterwards, and keep the form's number there
abbrev pub HomesOfUris : Renumbering → (before after : List OpenDocument) → Type 0
HomesOfUris r before after =
    (p : UnitPair) → IsIn p (pairs_between before after) → (n : ℕ × ℕ) → IsIn n p.forms → (f g : UnitForm) → IsForm (prepared_of before) p.before n.0 f → IsForm (prepared_of after) p.after n.1 g → (is_some f.home || is_some g.home) ≡ true →
    let h = home_of p.before n.0 f in let i = home_of p.after n.1 g in uri_in before h.unit ≡ uri_in after i.unit → (r.unit h.unit ≡ i.unit) × (r.form h.unit h.form ≡ h.form)

-- ---- forms of a kind

-- it is told by a form's tree alone
abbrev pub TellsByTrees : (FormText → Bool) → Type 0
TellsByTrees kind = (f g : FormText) → is_same_form f g ≡ true → kind f ≡ kind g

-- they stand at the same places in both, with the same trees
abbrev pub StandAlike : (FormText → Bool) → List FormText → List FormText → Type 0
StandAlike kind fs gs =
    ((n : ℕ) (f : FormText) → At fs n f → kind f ≡ true → (g : FormText) × At gs n g × (is_same_form f g ≡ true))
    × ((n : ℕ) (g : FormText) → At gs n g → kind g ≡ true → (f : FormText) × At fs n f × (is_same_form f g ≡ true))
