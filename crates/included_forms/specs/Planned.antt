-- What the plans of texts give.
use Rattle.std.specs.Prelude.{◌≡◌, ℕ, List, [], ◌∷◌, ◌++◌, map, Option, Some, None, Result, Ok, Err}
use Rattle.ls_base.specs.declared.memory.Memory.{Memory}
use Rattle.scheme_model.specs.Data.{Datum}
use Rattle.scheme_model.specs.ExpansionFaults.{Fault}
use Rattle.scheme_model.specs.Requirements.{Known, LibraryName}
use Rattle.datum_reader.specs.declared.shape_fault.ShapeFault.{ShapeFault}
use Rattle.known_libraries.specs.PartsRead.{Fails}
use Rattle.scheme_model.specs.Includes.{program_data}
use Rattle.scheme_model.specs.Included.{Homed, Listing, Texts, bad, form_or_texts, forms_of, declaration, declarations_of, homed_from}
use Rattle.included_forms.specs.declared.steps.Source.{Source}
use Rattle.included_forms.specs.declared.steps.Step.{Step}
use Rattle.included_forms.specs.declared.steps.Stop.{Stop}
use Rattle.included_forms.specs.declared.steps.Stop.TheVariants as stop
use Rattle.included_forms.specs.declared.steps.Way.{Way}
use Rattle.included_forms.specs.declared.steps.Way.TheVariants as way
use Rattle.included_forms.specs.declared.plans.Plan.{Plan}
use Rattle.included_forms.specs.Steps.{homed_of, steps_then}

-- the first bad declaration, if there is one
abbrev pub bad_one : Option Source → List Listing
bad_one None = []
bad_one (Some s) = bad (homed_of s) ∷ []

-- what a plan of a document gives
abbrev pub plan_listing : Texts → (document : ℕ) → Plan → Listing
plan_listing t n p = steps_then t n p.steps.items (bad_one p.bad)

-- ---- texts that are included

-- what a datum of a text gives that is included in a way
abbrev pub included_as : Texts → Known → Way → Homed → Listing
included_as t known way.Forms h = form_or_texts t h
included_as t known way.Declarations h = declaration t known h h.datum

-- what data give one after another, their libraries left out, numbered from one on
abbrev pub included_from : Texts → Known → Way → (document unit : ℕ) → (number : ℕ) → List Datum → List Listing
included_from t known w document unit n ds = map (included_as t known w) (homed_from document unit n (program_data ds))

-- what a text gives that is included in a way
abbrev pub all_included : Texts → Known → Way → List Homed → Listing
all_included t known way.Forms hs = forms_of t hs
all_included t known way.Declarations hs = declarations_of t known hs

-- a datum was added with its number, and the next number is told
abbrev pub PlansFirst : Texts → (document : ℕ) → (old new : List Step) → Result ℕ Stop → Datum → (ℕ → List Datum → List Listing) → (number : ℕ) → Type 0
PlansFirst t n old new (Ok next) d give number = (rest : List Datum) (behind : List Listing) → steps_then t n old (give number (d ∷ rest) ++ behind) ≡ steps_then t n new (give next rest ++ behind)
PlansFirst t n old new (Err (stop.Bad s)) d give number = (rest : List Datum) (behind : List Listing) → steps_then t n old (give number (d ∷ rest) ++ behind) ≡ steps_then t n new (bad (homed_of s) ∷ [])
PlansFirst t n old new (Err stop.Memory) d give number = Unit {0}

-- ---- names

-- a library has a name; or it has none; want of memory may come with any
abbrev pub IsNamed : Result Unit ShapeFault → Result LibraryName (Fault (List ℕ)) → Type 0
IsNamed (Ok u) r = (n : LibraryName) × (r ≡ Ok n)
IsNamed (Err e) r = Fails e r

-- ---- how plans end

-- the plan that steps make, by how they ended
abbrev pub IsPlanOf : List Step → Result Unit Stop → Result Plan Memory → Type 0
IsPlanOf steps (Ok u) (Ok p) = (p.steps.items ≡ steps) × (p.bad ≡ None)
IsPlanOf steps (Err (stop.Bad s)) (Ok p) = (p.steps.items ≡ steps) × (p.bad ≡ Some s)
IsPlanOf steps (Err stop.Memory) (Ok p) = ⊥
IsPlanOf steps r (Err e) = Unit {0}
