-- The conditions on names one behind another: where each of them fails, and where all hold.
use Rattle.std.proofs.Common.{◌≡◌, ℕ, List, Bool, true, false, cond, Option, Some, None, Result, Ok, Err, refl, sym, ap, ◌∙◌, subst}
use Rattle.std.specs.Option.{ok_or}
use Rattle.ls_base.specs.declared.encoding.Encoding.{Encoding}
use Rattle.scheme_model.specs.declared.Occ.{Occ}
use Rattle.scheme_model.specs.Spelling.{Link, is_joined}
use Rattle.document_store.specs.Texts.{Document}
use Rattle.read_documents.specs.Readings.{Read}
use Rattle.program_answers.specs.Classed.{IsClassOf}
use Rattle.program_answers.specs.ToldAnswers.{facts_in}
use Rattle.program_answers.specs.declared.classes.Class.{Class}
use Rattle.class_edits.proofs.LongestLaws.{longest_is}
use Rattle.text_edits.specs.Members.{prefix_of, stem_of}
use Rattle.rename_conditions.specs.Opened.{Opened}
use Rattle.rename_conditions.specs.Renames.{Refusal, NotBound, IsStandard, BadName, Unreadable, PrefixLost, ◌>>=◌, unless, first_of, first_unread, joined_at, new_symbol, standard_names}
use Rattle.rename_planner.specs.Planning.{ComesTo, Holds, IsNamed, Same, named_in}
use Rattle.rename_answers.specs.ReadDocuments.{read_as}
use Rattle.rename_answers.specs.declared.faults.RenameFault.{RenameFault}
use Rattle.rename_planner.specs.declared.planning.Named.{Named}
use Rattle.rename_planner.proofs.BindLaws.{bind_err, bind_ok}

module _ (e : Encoding) (ds : List (List ℕ × Document)) (rs : List Read) (at : Option Occ) (spelled : Option (List ℕ)) where
  abbrev w : Opened
  w = read_as ds rs

  abbrev ls : List Link
  ls = (facts_in rs).links

  abbrev bound : Result Occ Refusal
  bound = ok_or (joined_at ls at) NotBound

  abbrev standard : Occ → Result (Unit {0}) Refusal
  standard o = unless (first_of (standard_names w o)) IsStandard

  abbrev named : Result (List ℕ) Refusal
  named = ok_or (new_symbol spelled) BadName

  abbrev readable : Result (Unit {0}) Refusal
  readable = unless (first_unread 0 w.readings) Unreadable

  abbrev stemmed : Occ → List ℕ → Result (List ℕ) Refusal
  stemmed o name = ok_or (stem_of (prefix_of ls o) name) (PrefixLost (prefix_of ls o))

  abbrev Comes : Result Named RenameFault → Type 0
  Comes r = ComesTo e ds (IsNamed ds rs) (named_in w at spelled) r

  pub unbound : (fault : RenameFault) → ComesTo e ds (IsClassOf ds (facts_in rs)) bound (Err fault) → Comes (Err fault)
  unbound fault h = bind_err e ds (IsClassOf ds (facts_in rs)) (IsNamed ds rs) bound _ fault h

  module _ (class : Class) (h1 : ComesTo e ds (IsClassOf ds (facts_in rs)) bound (Ok class)) where
    pub is_standard : (fault : RenameFault) → ((o : Occ) → IsClassOf ds (facts_in rs) o class → ComesTo {B = Unit {0}} e ds Holds (standard o) (Err fault)) → Comes (Err fault)
    is_standard fault h = bind_ok e ds (IsClassOf ds (facts_in rs)) (IsNamed ds rs) bound _ class (Err fault) h1 (λ o q is. bind_err {B = Unit {0}} e ds Holds (IsNamed ds rs) (standard o) _ fault (h o is))

    module _ (h2 : (o : Occ) → IsClassOf ds (facts_in rs) o class → ComesTo {B = Unit {0}} e ds Holds (standard o) (Ok tt)) where
      behind : (r : Result Named RenameFault) → ((o : Occ) → IsClassOf ds (facts_in rs) o class → ComesTo e ds (IsNamed ds rs) (named >>= λ name. readable >>= λ done. stemmed o name >>= λ stem. Ok (o, stem)) r) → Comes r
      behind r h = bind_ok e ds (IsClassOf ds (facts_in rs)) (IsNamed ds rs) bound _ class r h1 (λ o q is. bind_ok {B = Unit {0}} e ds Holds (IsNamed ds rs) (standard o) _ tt r (h2 o is) (λ a p k. h o is))

      pub bad_name : (fault : RenameFault) → ComesTo e ds Same named (Err fault) → Comes (Err fault)
      bad_name fault h = behind (Err fault) (λ o is. bind_err e ds Same (IsNamed ds rs) named _ fault h)

      module _ (symbol : List ℕ) (h3 : ComesTo e ds Same named (Ok symbol)) where
        pub unread : (fault : RenameFault) → ComesTo {B = Unit {0}} e ds Holds readable (Err fault) → Comes (Err fault)
        unread fault h = behind (Err fault) (λ o is. bind_ok e ds Same (IsNamed ds rs) named _ symbol (Err fault) h3 (λ name q same. bind_err {B = Unit {0}} e ds Holds (IsNamed ds rs) readable _ fault h))

        module _ (h4 : ComesTo {B = Unit {0}} e ds Holds readable (Ok tt)) where
          last : (r : Result Named RenameFault) → ((o : Occ) → IsClassOf ds (facts_in rs) o class → ComesTo e ds (IsNamed ds rs) (stemmed o symbol >>= λ stem. Ok (o, stem)) r) → Comes r
          last r h = behind r (λ o is. bind_ok e ds Same (IsNamed ds rs) named _ symbol r h3 (λ name q same. bind_ok {B = Unit {0}} e ds Holds (IsNamed ds rs) readable _ tt r h4 (λ a p k.
              subst (λ n. ComesTo e ds (IsNamed ds rs) (stemmed o n >>= λ stem. Ok (o, stem)) r) same (h o is))))

          stem_is : (o : Occ) → IsClassOf ds (facts_in rs) o class → stemmed o symbol ≡ ok_or (stem_of class.prefix symbol) (PrefixLost class.prefix)
          stem_is o is = ap (λ p. ok_or (stem_of p symbol) (PrefixLost p)) (sym (longest_is ls o class.prefix is.prefix))

          pub lost : (fault : RenameFault) → ComesTo e ds Same (ok_or (stem_of class.prefix symbol) (PrefixLost class.prefix)) (Err fault) → Comes (Err fault)
          lost fault h = last (Err fault) (λ o is. subst (λ s. ComesTo e ds (IsNamed ds rs) (s >>= λ stem. Ok (o, stem)) (Err fault)) (sym (stem_is o is))
              (bind_err e ds Same (IsNamed ds rs) (ok_or (stem_of class.prefix symbol) (PrefixLost class.prefix)) _ fault h))

          pub all_hold : (stem : List ℕ) → ComesTo e ds Same (ok_or (stem_of class.prefix symbol) (PrefixLost class.prefix)) (Ok stem) → Comes (Ok (record { class = class; stem = stem }))
          all_hold stem h = last (Ok (record { class = class; stem = stem })) (λ o is.
              subst (λ s. ComesTo e ds (IsNamed ds rs) (s >>= λ t. Ok (o, t)) (Ok (record { class = class; stem = stem }))) (sym (stem_is o is))
              (bind_ok e ds Same (IsNamed ds rs) (ok_or (stem_of class.prefix symbol) (PrefixLost class.prefix)) _ stem (Ok (record { class = class; stem = stem })) h (λ t q same. record { class = is; stem = same })))
