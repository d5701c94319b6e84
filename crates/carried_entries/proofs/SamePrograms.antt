-- A form that goes on is one of a program before and after, or of none.
use Rattle.std.proofs.Common.{◌≡◌, inl, inr, ℕ, suc, ◌==◌, List, [], ◌∷◌, length, Bool, true, false, not, cond, Option, Some, None, refl, sym, ap, ◌∙◌, subst, arith, eqb-true}
use Rattle.scheme_model.specs.Ident.{Written}
use Rattle.scheme_model.specs.Requirements.{Known}
use Rattle.scheme_model.specs.ScopedExpansion.{ScopedState}
use Rattle.scheme_model.specs.Declarations.{UnitForm, UnitKind, IsLibrary, IsProgram, IsPart, is_part_kind}
use Rattle.scheme_model.specs.Includes.{Document}
use Rattle.scheme_model.specs.IncludedUnits.{Placed}
use Rattle.scheme_model.specs.Program.{Prepared, UnitResult, known_in, units_of, prepare, is_ready, first_ready, is_program, forms_at_work}
use Rattle.scheme_model.specs.ScopedProgram.{forms_over, scoped_start_after, scoped_work, scoped_before}
use Rattle.kept_forms.proofs.Programs.{between_at, placed_at, new_unit, OrReady, first_is}
use Rattle.carried_forms.specs.Paired.{UnitPair, UnitText}
use Rattle.carried_forms.specs.Worked.{WorkedForm, WorkedUnit, OpenDocument, read_documents, worked_forms, worked_unit, units_at_work, is_of_library, unit_text, unit_texts}
use Rattle.carried_forms.specs.Carried.{IsIn, form_at, worked_at}
use Rattle.carried_forms.proofs.UnitLaws.{key_told}
use Rattle.carried_laws.specs.CarriedOver.{pairs_between}
use Rattle.carried_laws.specs.Homes.{At}
use Rattle.carried_laws.proofs.Places.{mapped_at, same_at}
use Rattle.carried_laws.proofs.PairsSend.{pairs_found}
use Rattle.carried_laws.proofs.StayingPrograms.{unit_begins}
use Rattle.answers_at_turns.proofs.ProgramsStay.{Same, programs_stay}
use Rattle.answers_at_turns.proofs.WholeUnits.{one_of}
use Rattle.carried_units.proofs.CarriedUnits.{numbered_at}
use Rattle.carried_units.proofs.CarriedPrograms.{IsWorked, worked_at_place}

-- ---- found

form_in : (gs : List WorkedForm) (m : ℕ) (g : WorkedForm) → form_at gs m ≡ Some g → IsIn g gs
form_in [] m g e = let z : None ≡ Some g = e in absurd cc
form_in (x ∷ gs) m g e = go (x.form == m) e (λ d. form_in gs m g d)
  where
    own : Option WorkedForm → WorkedForm
    own None = x
    own (Some y) = y

    go : (b : Bool) → cond b (Some x) (form_at gs m) ≡ Some g → (form_at gs m ≡ Some g → IsIn g gs) → IsIn g (x ∷ gs)
    go true k rest = inl (sym (ap own k))
    go false k rest = inr (rest k)

number_in : (gs : List WorkedForm) (m : ℕ) (g : WorkedForm) → form_at gs m ≡ Some g → g.form ≡ m
number_in [] m g e = let z : None ≡ Some g = e in absurd cc
number_in (x ∷ gs) m g e = go (x.form == m) refl e (λ d. number_in gs m g d)
  where
    own : Option WorkedForm → WorkedForm
    own None = x
    own (Some y) = y

    go : (b : Bool) → (x.form == m) ≡ b → cond b (Some x) (form_at gs m) ≡ Some g → (form_at gs m ≡ Some g → g.form ≡ m) → g.form ≡ m
    go true q k rest = sym (ap (λ z. (own z).form) k) ∙ eqb-true x.form m q
    go false q k rest = rest k

pub number_found : (ws : List WorkedUnit) (u m : ℕ) (g : WorkedForm) → worked_at ws u m ≡ Some g → g.form ≡ m
number_found [] u m g e = let z : None ≡ Some g = e in absurd cc
number_found (w ∷ ws) u m g e = go (w.number == u) e (λ d. number_found ws u m g d)
  where
    go : (b : Bool) → cond b (form_at w.forms m) (worked_at ws u m) ≡ Some g → (worked_at ws u m ≡ Some g → g.form ≡ m) → g.form ≡ m
    go true k rest = number_in w.forms m g k
    go false k rest = rest k

pub record Stood (ws : List WorkedUnit) (u : ℕ) (g : WorkedForm) : Type 0 where
  pub unit : WorkedUnit
  pub among : IsIn unit ws
  pub number : unit.number ≡ u
  pub form : IsIn g unit.forms

pub stood_in : (ws : List WorkedUnit) (u m : ℕ) (g : WorkedForm) → worked_at ws u m ≡ Some g → Stood ws u g
stood_in [] u m g e = let z : None ≡ Some g = e in absurd cc
stood_in (w ∷ ws) u m g e = go (w.number == u) refl e (λ d. stood_in ws u m g d)
  where
    go : (b : Bool) → (w.number == u) ≡ b → cond b (form_at w.forms m) (worked_at ws u m) ≡ Some g → (worked_at ws u m ≡ Some g → Stood ws u g) → Stood (w ∷ ws) u g
    go true q k rest = record { unit = w; among = inl refl; number = eqb-true w.number u q; form = form_in w.forms m g k }
    go false q k rest = let z = rest k in record { unit = z.unit; among = inr z.among; number = z.number; form = z.form }

first_among : (f : Prepared → Bool) (ps : List Prepared) (p : Prepared) → first_ready f ps ≡ Some p → IsIn p ps
first_among f [] p e = let z : None ≡ Some p = e in absurd cc
first_among f (x ∷ ps) p e = go (f x) e (λ d. first_among f ps p d)
  where
    own : Option Prepared → Prepared
    own None = x
    own (Some y) = y

    go : (b : Bool) → cond b (Some x) (first_ready f ps) ≡ Some p → (first_ready f ps ≡ Some p → IsIn p ps) → IsIn p (x ∷ ps)
    go true k rest = inl (sym (ap own k))
    go false k rest = inr (rest k)

place_of : {X : Type 0} (xs : List X) (x : X) → IsIn x xs → (i : ℕ) × At xs i x
place_of [] x h = absurd h
place_of (y ∷ ys) x (inl e) = (0, sym e)
place_of (y ∷ ys) x (inr h) = let z = place_of ys x h in (suc z.0, z.1)

-- ---- kinds

kind_told : (k : UnitKind) → is_part_kind k ≡ false → is_program k ≡ not (is_of_library k)
kind_told IsLibrary e = refl
kind_told IsProgram e = refl
kind_told IsPart e = let z : true ≡ false = e in absurd cc

-- nothing is worked on of a part
not_part : (known : Known) (p : Prepared) (s : ScopedState) (g : WorkedForm) → IsIn g (worked_unit known p s).forms → is_part_kind p.placed.source.kind ≡ false
not_part known p s g i = go (is_part_kind p.placed.source.kind) refl i
  where
    go : (b : Bool) → is_part_kind p.placed.source.kind ≡ b → IsIn g (worked_forms known (forms_over (Written p.number) p.number 0 (cond {A = List UnitForm} b [] p.forms)) s) → is_part_kind p.placed.source.kind ≡ false
    go true e j = absurd j
    go false e j = e

module _ (ds : List OpenDocument) where
  abbrev docs : List Document
  docs = read_documents ds

  abbrev all : List Placed
  all = units_of docs

  abbrev ps : List Prepared
  ps = prepare all 0 all

  abbrev known : Known
  known = known_in docs

  abbrev rs : List UnitResult
  rs = (scoped_work all ps known (length ps) scoped_before).results

  text_kind : (n : ℕ) (v : UnitText) → At (unit_texts ds) n v → (p : Prepared) → IsIn p ps → p.number ≡ n → v.is_library ≡ is_of_library p.placed.source.kind
  text_kind n v at p i e =
      let z = mapped_at (unit_text ds rs) ps n v at in
      let a = place_of ps p i in
      let d : a.0 ≡ n = (let b = numbered_at all 0 all a.0 p a.1 in omega (arith, b, e)) in
      let same = same_at ps n z.0 p z.1 (subst (λ m. At ps m p) d a.1) in
      sym (ap (λ (x : UnitText). x.is_library) z.2) ∙ ap (λ (x : Prepared). is_of_library x.placed.source.kind) same

  pub program_told : (u n : ℕ) (v : UnitText) → At (unit_texts ds) n v → u ≡ n → (g : WorkedForm) → Stood (units_at_work docs) u g → g.around.state.program ≡ not v.is_library
  program_told u n v at same g h = go (worked_at_place all ps known (length ps) scoped_before h.unit h.among)
    where
      go : IsWorked all ps known (length ps) scoped_before h.unit → g.around.state.program ≡ not v.is_library
      go z =
          let p = z.unit in let a = scoped_work all ps known z.place scoped_before in let t = scoped_start_after all p a in
          let ready = subst (λ (q : Option Prepared). OrReady all ps known (is_ready all ps a.results) q) z.first (first_is all ps known (is_ready all ps a.results) ps) in
          let begins = unit_begins all ps known a (between_at all ps known z.place) (placed_at all ps known z.place) p (new_unit all ps known a p ready) in
          let i = subst (λ (w : WorkedUnit). IsIn g w.forms) z.is h.form in
          let gs = (worked_unit known p t).forms in
          let stays = one_of (Same known p.number t) gs (programs_stay known p.number (forms_over (Written p.number) p.number 0 (forms_at_work p)) t begins) g i in
          let kind = text_kind n v at p (first_among (is_ready all ps a.results) ps p z.first) (sym (ap (λ (w : WorkedUnit). w.number) z.is) ∙ h.number ∙ same) in
          stays.0 ∙ kind_told p.placed.source.kind (not_part known p t g i) ∙ ap not (sym kind)

pub same_program : (before after : List OpenDocument) (q : UnitPair) → IsIn q (pairs_between before after) → (f g : WorkedForm) → Stood (units_at_work (read_documents before)) q.before f → Stood (units_at_work (read_documents after)) q.after g
    → f.around.state.program ≡ g.around.state.program
same_program before after q i f g a b =
    let found = pairs_found 0 (unit_texts before) (unit_texts after) q i in
    let there = found.from in
    let key = key_told found.unit there.unit there.same in
    let x = found.before in let y = there.after in
    let here : q.before ≡ found.place = omega (arith, x) in
    let on : q.after ≡ there.place = omega (arith, y) in
    program_told before q.before found.place found.unit found.here here f a ∙ ap not key.kind ∙ sym (program_told after q.after there.place there.unit there.there on g b)
