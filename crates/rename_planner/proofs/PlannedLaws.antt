-- The conditions on a class and its edits one behind another: where each of them fails, and where all hold.
use Rattle.std.proofs.Common.{◌≡◌, ℕ, List, Option, Result, Ok, Err, refl, sym, ap, ◌∙◌, subst}
use Rattle.ls_base.specs.declared.encoding.Encoding.{Encoding}
use Rattle.scheme_model.specs.declared.Occ.{Occ}
use Rattle.document_store.specs.Texts.{Document}
use Rattle.read_documents.specs.Readings.{Read}
use Rattle.program_answers.specs.Classed.{IsClassOf}
use Rattle.program_answers.specs.ToldAnswers.{facts_in}
use Rattle.rename_conditions.specs.Opened.{Opened, edited_in}
use Rattle.rename_conditions.specs.Renames.{Refusal, PrefixClash, TooLong, broken, ◌>>=◌, unless, first_of, clashes, errors_in_reach, first_too_long}
use Rattle.rename_planner.specs.Planning.{ComesTo, Holds, IsNamed, IsPlanned, fitting_in, named_in, planned_in}
use Rattle.rename_answers.specs.ReadDocuments.{read_as}
use Rattle.rename_answers.specs.declared.faults.RenameFault.{RenameFault}
use Rattle.rename_planner.specs.declared.planning.Named.{Named}
use Rattle.rename_planner.specs.declared.planning.Planned.{Planned}
use Rattle.rename_planner.proofs.BindLaws.{bind_err, bind_ok}

module _ (e : Encoding) (ds : List (List ℕ × Document)) (rs : List Read) (at : Option Occ) (spelled : Option (List ℕ)) where
  abbrev w : Opened
  w = read_as ds rs

  abbrev apart : Occ → Result (Unit {0}) Refusal
  apart o = unless (first_of (clashes w o)) PrefixClash

  abbrev whole : Occ → Result (Unit {0}) Refusal
  whole o = unless (first_of (errors_in_reach w o)) broken

  abbrev fits : Occ → List ℕ → Result (Unit {0}) Refusal
  fits o stem = unless (first_too_long 0 (edited_in w o stem)) TooLong

  abbrev Comes : Result Planned RenameFault → Type 0
  Comes r = ComesTo e ds (IsPlanned e ds w) (planned_in w at spelled) r

  pub unnamed : (fault : RenameFault) → ComesTo e ds (IsNamed ds rs) (named_in w at spelled) (Err fault) → Comes (Err fault)
  unnamed fault h = bind_err e ds (IsNamed ds rs) (IsPlanned e ds w) (named_in w at spelled) (fitting_in w) fault h

  module _ (n : Named) (h1 : ComesTo e ds (IsNamed ds rs) (named_in w at spelled) (Ok n)) where
    behind : (r : Result Planned RenameFault) → ((o : Occ) → IsClassOf ds (facts_in rs) o n.class → ComesTo e ds (IsPlanned e ds w) (fitting_in w (o, n.stem)) r) → Comes r
    behind r h = bind_ok e ds (IsNamed ds rs) (IsPlanned e ds w) (named_in w at spelled) (fitting_in w) n r h1 (λ c q is. subst (λ s. ComesTo e ds (IsPlanned e ds w) (fitting_in w (c.0, s)) r) is.stem (h c.0 is.class))

    pub clash : (fault : RenameFault) → ((o : Occ) → IsClassOf ds (facts_in rs) o n.class → ComesTo {B = Unit {0}} e ds Holds (apart o) (Err fault)) → Comes (Err fault)
    clash fault h = behind (Err fault) (λ o is. bind_err {B = Unit {0}} e ds Holds (IsPlanned e ds w) (apart o) _ fault (h o is))

    module _ (h2 : (o : Occ) → IsClassOf ds (facts_in rs) o n.class → ComesTo {B = Unit {0}} e ds Holds (apart o) (Ok tt)) where
      pub an_error : (fault : RenameFault) → ((o : Occ) → IsClassOf ds (facts_in rs) o n.class → ComesTo {B = Unit {0}} e ds Holds (whole o) (Err fault)) → Comes (Err fault)
      an_error fault h = behind (Err fault) (λ o is. bind_ok {B = Unit {0}} e ds Holds (IsPlanned e ds w) (apart o) _ tt (Err fault) (h2 o is) (λ a q k.
          bind_err {B = Unit {0}} e ds Holds (IsPlanned e ds w) (whole o) _ fault (h o is)))

      module _ (h3 : (o : Occ) → IsClassOf ds (facts_in rs) o n.class → ComesTo {B = Unit {0}} e ds Holds (whole o) (Ok tt)) where
        fitting : (B : Type 0) (r : Result Planned RenameFault) → ((o : Occ) → IsClassOf ds (facts_in rs) o n.class → ComesTo e ds (IsPlanned e ds w) (fits o n.stem >>= λ done. Ok (o, n.stem)) r) → Comes r
        fitting B r h = behind r (λ o is. bind_ok {B = Unit {0}} e ds Holds (IsPlanned e ds w) (apart o) _ tt r (h2 o is) (λ a q k.
            bind_ok {B = Unit {0}} e ds Holds (IsPlanned e ds w) (whole o) _ tt r (h3 o is) (λ b p l. h o is)))

        pub too_long : (B : Type 0) (fault : RenameFault) → ((o : Occ) → IsClassOf ds (facts_in rs) o n.class → ComesTo {B = B} e ds Holds (fits o n.stem) (Err fault)) → Comes (Err fault)
        too_long B fault h = fitting B (Err fault) (λ o is. bind_err {B = B} e ds Holds (IsPlanned e ds w) (fits o n.stem) _ fault (h o is))

        pub all_hold : (B : Type 0) (b : B) (r : Result Planned RenameFault) → ((o : Occ) → IsClassOf ds (facts_in rs) o n.class → ComesTo e ds Holds (fits o n.stem) (Ok b)) →
            ((o : Occ) → IsClassOf ds (facts_in rs) o n.class → ComesTo e ds (IsPlanned e ds w) (Ok (o, n.stem)) r) → Comes r
        all_hold B b r h told = fitting B r (λ o is. bind_ok e ds Holds (IsPlanned e ds w) (fits o n.stem) _ b r (h o is) (λ a q k. told o is))
