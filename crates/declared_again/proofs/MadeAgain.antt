-- What a form leaves is made again by its definitions, one after another.
use Rattle.std.proofs.Common.{◌≡◌, List, [], ◌∷◌, ◌++◌, Bool, true, false, Option, Some, None, refl, sym, ap, ◌∙◌}
use Rattle.std.specs.Prelude.{if◌then◌else◌}
use Rattle.scheme_model.specs.Ident.{Ident}
use Rattle.scheme_model.specs.ExpansionFaults.{Named}
use Rattle.scheme_model.specs.Meaning.{Global}
use Rattle.scheme_model.specs.RulesShape.{Rules}
use Rattle.scheme_model.specs.Order.{is_some}
use Rattle.scheme_model.specs.Substitution.{Table}
use Rattle.scheme_model.specs.ScopedExpansion.{Frames, ScopedMacro, ScopedState, macro_added, definition_added}
use Rattle.scheme_model.specs.Questions.{Moment, Around, Question, Outcome, Stands, Redefines, StoodBefore}
use Rattle.scheme_model.specs.FormsAlike.{again}
use Rattle.forgotten_locals.specs.Outside.{is_outside, macros_outside, outside}
use Rattle.declared_again.specs.Endings.{Ending, endings, ending_in, table_if, macros_if, table_made, macros_made, made_if, made_again, Made, MadeAtEach, IsMadeAgain, AreMadeAgain}

kept_if : (b : Bool) (k : ScopedMacro) (xs ys : List ScopedMacro) → (if b then k ∷ (xs ++ ys) else (xs ++ ys)) ≡ (if b then k ∷ xs else xs) ++ ys
kept_if true k xs ys = refl
kept_if false k xs ys = refl

macros_both : (xs ys : List ScopedMacro) → macros_outside (xs ++ ys) ≡ macros_outside xs ++ macros_outside ys
macros_both [] ys = refl
macros_both (k ∷ xs) ys =
    ap (λ (zs : List ScopedMacro). if is_outside k.meaning then k ∷ zs else zs) (macros_both xs ys) ∙ kept_if (is_outside k.meaning) k (macros_outside xs) (macros_outside ys)

-- a state with this table and these macros in front of its own
abbrev with_made : Table → List ScopedMacro → ScopedState → ScopedState
with_made t ks s = record s { table = t ++ s.table; macros = ks ++ s.macros }

module _ (w : Around) (s : ScopedState) (unit : s.unit ≡ w.state.unit) (form : s.form ≡ w.state.form) where
  added : (x : Named Ident) (r : Option (Rules Ident)) (fs : Frames) (t : Table) (ks : List ScopedMacro) →
      definition_added None x r fs (with_made t ks s) ≡ with_made (record { unit = w.state.unit; form = w.state.form; ident = x.name; keyword = is_some r; occ = x.occ } ∷ t) (macro_added (Global w.state.unit x.name) fs r ks) s
  added x None fs t ks = λ j. with_made (record { unit = unit j; form = form j; ident = x.name; keyword = is_some {A = Rules Ident} None; occ = x.occ } ∷ t) ks s
  added x (Some r) fs t ks =
      λ j. with_made (record { unit = unit j; form = form j; ident = x.name; keyword = is_some (Some r); occ = x.occ } ∷ t) (record { meaning = Global (unit j) x.name; frames = fs; rules = r } ∷ ks) s

  one_more : (o : Outcome) (e : Ending) (t : Table) (ks : List ScopedMacro) → made_if o e (with_made t ks s) ≡ with_made (table_if o w e t) (macros_if o w e ks) s
  one_more Stands e t ks = added e.name e.rules e.frames t ks
  one_more Redefines e t ks = refl
  one_more StoodBefore e t ks = refl

  pub all_made : (es : List Ending) → made_again w es s ≡ with_made (table_made w es) (macros_made w es) s
  all_made [] = refl
  all_made (e ∷ es) = ap (made_if (ending_in w e) e) (all_made es) ∙ one_more (ending_in w e) e (table_made w es) (macros_made w es)

-- by a moment, put into other surroundings of the form
pub moment_is_made : (w v : Around) (n : Moment) (es : List Ending) → Made w n es → v.state.unit ≡ w.state.unit → v.state.form ≡ w.state.form → IsMadeAgain w v n es
moment_is_made w v n es told unit form =
    let s = outside (again v n) in
    let table = told.0 in
    let macros = macros_both n.macros v.state.macros ∙ ap (λ (ks : List ScopedMacro). ks ++ macros_outside v.state.macros) told.1 in
    (λ j. record s { table = table j ++ v.state.table; macros = macros j })
    ∙ sym (ap (λ (m : ScopedState). record m { locals = s.locals; uses = s.uses; nodes = s.nodes; bodies = s.bodies; keywords = s.keywords; met = s.met }) (all_made w (outside v.state) unit form es))

pub each_is_made : (w v : Around) (qs : List (Moment × Question)) → MadeAtEach w qs → v.state.unit ≡ w.state.unit → v.state.form ≡ w.state.form → AreMadeAgain w v qs
each_is_made w v [] h unit form = tt
each_is_made w v (q ∷ qs) h unit form = (moment_is_made w v q.0 (endings qs) h.0 unit form, each_is_made w v qs h.1 unit form)
