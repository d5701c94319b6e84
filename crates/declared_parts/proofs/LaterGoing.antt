-- A note that is no definition's, where a form is declared again: it is asked where the form is, and nothing is made.
use Rattle.std.proofs.Common.{◌≡◌, ◌↔◌, ◌⊎◌, inl, inr, IsTrue, ℕ, zero, suc, ◌+◌, List, ◌∷◌, length, Bool, true, false, Option, Some, None, Ok, refl, sym, ap, ◌∙◌, subst, arith}
use Rattle.scheme_model.specs.Questions.{Moment, Around, Question, answer}
use Rattle.scheme_model.specs.FormsAlike.{again}
use Rattle.forgotten_locals.specs.Outside.{macros_outside, outside}
use Rattle.question_laws.proofs.NotedFirst.{IsFirstOr}
use Rattle.syntax_tree.specs.declared.trees.Work.{Work}
use Rattle.feature_requirements.specs.Judged.{Knows}
use Rattle.form_notes.specs.Noted.{Noted, Since}
use Rattle.form_notes.specs.Standing.{IsNote, IsAsked, stood}
use Rattle.form_notes.specs.declared.notes.Definition.{Definition}
use Rattle.form_notes.specs.declared.notes.Note as code_note
use Rattle.form_notes.specs.declared.notes.Outcome as code_outcome
use Rattle.form_notes.specs.declared.notes.Question as code_question
use Rattle.form_notes.specs.declared.notes.Question.TheVariants as code
use Rattle.unit_scopes.specs.declared.scope.UnitScope.{UnitScope}
use Rattle.note_answers.specs.Answered.{answer_now, CanAsk, IsAskedOutside, KeepsEdition}
use Rattle.note_laws.specs.Moments.{IsBefore}
use Rattle.note_laws.specs.Told.{bare_question, told, since_of}
use Rattle.note_laws.specs.Tested.{is_definition}
use Rattle.declared_parts.specs.Again.{moment_of, noted_of, SameLater, CanDeclare}
use Rattle.declared_parts.specs.Going.{Tells, TellsSame, TellsOther, definition_in, note_of, GoesOn, KeptFrom, HasGoneBy}
use Rattle.declared_parts.specs.Parts.{keyword_made}
use Rattle.declared_parts.specs.declared.again.Going.{Going}
use Rattle.declared_parts.specs.declared.parts.DeclaredPart.{DeclaredPart}
use Rattle.declared_parts.proofs.EachLaws.{each_contained}
use Rattle.declared_parts.proofs.FormFacts.{befores, firsts, as_many}
use Rattle.declared_parts.proofs.GoNext.{kept_past}
use Rattle.declared_parts.proofs.LaterNotes.{none_is_told, later_looks, asked_outside, keeps_edition, later_same, later_other, first_same}
use Rattle.declared_parts.proofs.StartGoing.{rests_there, tells_there}

-- ---- what the question of a note tells

pub none_stood : (q : code_question.Question) → definition_in q ≡ None → stood q ≡ 0
none_stood (code.Lookup i m k) e = refl
none_stood (code.Literal l i b) e = refl
none_stood (code.Rules m t) e = refl
none_stood (code.Assigned i b) e = refl
none_stood (code.Library l b) e = refl
none_stood (code.Definition d o) e = absurd cc

none_keyword : (q : code_question.Question) → definition_in q ≡ None → keyword_made q ≡ None
none_keyword (code.Lookup i m k) e = refl
none_keyword (code.Literal l i b) e = refl
none_keyword (code.Rules m t) e = refl
none_keyword (code.Assigned i b) e = refl
none_keyword (code.Library l b) e = refl
none_keyword (code.Definition d o) e = absurd cc

none_asked : (q : code_question.Question) (made behind : ℕ) → definition_in q ≡ None → IsAsked q made behind → (behind ≡ 0) ⊎ (behind ≡ made)
none_asked (code.Lookup i m k) made behind e h = h
none_asked (code.Literal l i b) made behind e h = h
none_asked (code.Rules m t) made behind e h = h
none_asked (code.Assigned i b) made behind e h = h
none_asked (code.Library l b) made behind e h = h
none_asked (code.Definition d o) made behind e h = absurd cc

abbrev definition_or : Definition → Option (Definition × code_outcome.Outcome) → Definition
definition_or d None = d
definition_or d (Some p) = p.0

abbrev outcome_or : code_outcome.Outcome → Option (Definition × code_outcome.Outcome) → code_outcome.Outcome
outcome_or o None = o
outcome_or o (Some p) = p.1

pub some_definition : (q : code_question.Question) (d : Definition) (o : code_outcome.Outcome) → definition_in q ≡ Some (d, o) → q ≡ code.Definition d o
some_definition (code.Lookup i m k) d o e = absurd cc
some_definition (code.Literal l i b) d o e = absurd cc
some_definition (code.Rules m t) d o e = absurd cc
some_definition (code.Assigned i b) d o e = absurd cc
some_definition (code.Library l b) d o e = absurd cc
some_definition (code.Definition c p) d o e = λ j. code.Definition (ap (definition_or c) e j) (ap (outcome_or p) e j)

-- so a note is the one of a definition
pub note_is : (x : code_note.Note) (made : ℕ) (d : Definition) (o : code_outcome.Outcome) → definition_in x.question ≡ Some (d, o) → IsAsked x.question made x.behind → x ≡ note_of d o made
note_is x made d o e asked =
    let q = some_definition x.question d o e in
    let behind : x.behind ≡ made = subst (λ (p : code_question.Question). IsAsked p made x.behind) q asked in
    λ j. record { behind = behind j; question = q j }

module _ (work : Work) (old : UnitScope) (number : ℕ) (part : DeclaredPart) (can : CanDeclare work old number part) (u : UnitScope) (g : Going) (made : ℕ) (h : GoesOn work old number part can u g made) where
  abbrev w : Around
  w = can.again.before

  abbrev v : Around
  v = can.again.now

  abbrev r : Since
  r = since_of w can.editions

  abbrev at : Moment → Around
  at n = record { state = outside (again v n); known = v.known; notes = v.notes }

  pub can_ask : (n : Moment) → n.table ≡ h.moment.table → macros_outside n.macros ≡ macros_outside h.moment.macros → CanAsk work u (at n) r
  can_ask n table macros = record {
    layout = can.layout;
    rests = rests_there work old number part can u g made h n table macros;
    places = refl;
    entries = can.comes.entries;
    knows = subst (λ libraries. Knows libraries v.known) (sym h.rest.libraries) can.knows;
    editions = tells_there work old number part can u g made h n table macros;
  }

  module _ (x : code_note.Note) (none : definition_in x.question ≡ None) (asked : IsAsked x.question made x.behind) (b : Bool)
      (later : (u2 : Around) (s : Since) (m : Noted) → (x.behind ≡ 0 → ⊥) → CanAsk work u u2 s → IsNote work.symbols s x m → IsAskedOutside m.question → KeepsEdition work u u2 s x.question → IsTrue b ↔ (answer_now u2 m.question ≡ m.answer)) where
    abbrev Told : Moment × Question → Type 0
    Told q = Tells work old number part can x q

    first : (q : Moment × Question) → Told q → IsFirstOr w q
    first q t = each_contained (IsFirstOr w) (noted_of can.again) (firsts can.again can.comes) q t.0

    no_definition : (q : Moment × Question) → Told q → is_definition q.1 ≡ false
    no_definition q t = none_is_told work.symbols r x.question w q none t.1.1

    not_first : (q : Moment × Question) → Told q → (x.behind ≡ 0 → ⊥) → length q.0.table ≡ 0 → ⊥
    not_first q t behind e = behind (t.1.0 ∙ e)

    -- where it is asked behind definitions, it has its answer here exactly where it has it there
    asked_here : (q : Moment × Question) (t : Told q) → (x.behind ≡ 0 → ⊥) → IsTrue b ↔ (answer_now (at q.0) (bare_question q.1) ≡ answer w q.0 q.1)
    asked_here q t behind = by (none_asked x.question made x.behind none asked)
      where
        by : (x.behind ≡ 0) ⊎ (x.behind ≡ made) → IsTrue b ↔ (answer_now (at q.0) (bare_question q.1) ≡ answer w q.0 q.1)
        by (inl e) = absurd (behind e)
        by (inr e) =
            let m = as_many (moment_of can.again) q.0 h.moment (each_contained (λ (p : Moment × Question). IsBefore p.0 (moment_of can.again)) (noted_of can.again) (befores can.again can.comes) q t.0) h.before (sym t.1.0 ∙ (e ∙ sym h.count)) in
            let looks = later_looks w v can.comes.entries q (first q t) (no_definition q t) (not_first q t behind) in
            later (at q.0) r (told w q) behind (can_ask q.0 m.0 m.1) t.1 (asked_outside q.1 looks) (keeps_edition work u (at q.0) r x.question w q looks t.1.1)

    nothing_asked : (q : Moment × Question) → Told q → x.behind ≡ 0 → SameLater w v q
    nothing_asked q t behind = first_same w v can.comes.entries q (first q t) (no_definition q t) (sym t.1.0 ∙ behind)

    same_by : (n : ℕ) → x.behind ≡ n → IsTrue b → TellsSame work old number part can x
    same_by zero e is q t = nothing_asked q t e
    same_by (suc n) e is q t =
        let behind : x.behind ≡ 0 → ⊥ = λ z. suc_apart n (sym e ∙ z) in
        later_same w v can.comes.entries q (first q t) (no_definition q t) (not_first q t behind) ((asked_here q t behind).0 is)
      where
        suc_apart : (k : ℕ) → suc k ≡ 0 → ⊥
        suc_apart k z = absurd (omega (arith, z))

    other_by : (n : ℕ) → x.behind ≡ n → (x.behind ≡ 0 → b ≡ true) → b ≡ false → TellsOther work old number part can x
    other_by zero e begins is q t same = let never : false ≡ true = sym is ∙ begins e in absurd cc
    other_by (suc n) e begins is q t same =
        let behind : x.behind ≡ 0 → ⊥ = λ z. suc_apart n (sym e ∙ z) in
        let yes_so : IsTrue b = (asked_here q t behind).1 (later_other w v can.comes.entries q (first q t) (no_definition q t) (not_first q t behind) same) in
        let never : false ≡ true = sym is ∙ yes_so in absurd cc
      where
        suc_apart : (k : ℕ) → suc k ≡ 0 → ⊥
        suc_apart k z = absurd (omega (arith, z))

    pub gone_later : (left : List code_note.Note) → KeptFrom work old number part can g.macros (x ∷ left) → (x.behind ≡ 0 → b ≡ true) → HasGoneBy work old number part can x left made u g (Ok b)
    gone_later left kept begins = by b refl
      where
        by : (c : Bool) → b ≡ c → HasGoneBy work old number part can x left made u g (Ok c)
        by true is =
            let count : made ≡ made + stood x.question = let zero_so = none_stood x.question none in omega (arith, zero_so) in
            (same_by x.behind refl is, subst (GoesOn work old number part can u g) count h, kept_past work old number part can x left g.macros (none_keyword x.question none) kept)
        by false is = (other_by x.behind refl begins is, h)
