-- A macro of the rules that a note tells has the note's edition, where editions go on.
use Rattle.std.proofs.Common.{◌≡◌, ◌⊎◌, inl, inr, ℕ, Bool, true, false, eqb, eqb-true, eq-eqb, Option, None, refl, sym, ap, ◌∙◌, subst}
use Rattle.scheme_model.specs.Ident.{Ident}
use Rattle.scheme_model.specs.Meaning as model
use Rattle.scheme_model.specs.Order.{Transformer}
use Rattle.scheme_model.specs.RulesShape.{option_map}
use Rattle.scheme_model.specs.ScopedExpansion.{Frames, macro_at}
use Rattle.scheme_model.specs.Questions.{Around, UsesRules, bare_macro}
use Rattle.syntax_tree.specs.Meant.{IsMeaning}
use Rattle.syntax_tree.specs.declared.meaning.Meaning.{Meaning}
use Rattle.syntax_tree.specs.declared.trees.Work.{Work}
use Rattle.form_notes.specs.Noted.{Noted, Since, is_local}
use Rattle.form_notes.specs.Standing.{IsQuestion}
use Rattle.form_notes.specs.declared.notes.Question as code_question
use Rattle.form_notes.specs.declared.notes.Question.TheVariants as code
use Rattle.unit_scopes.specs.Macros.{edition_in}
use Rattle.unit_scopes.specs.Used.{meanings_equal}
use Rattle.unit_scopes.specs.declared.macros.Macros.{Macros}
use Rattle.unit_scopes.specs.declared.scope.UnitScope.{UnitScope}
use Rattle.note_answers.specs.Answered.{IsAskedOutside, CanAsk, KeepsEdition}
use Rattle.note_answers.specs.EditionsOn.{EditionsGoOn, EachTellsRules, RulesTold}
use Rattle.note_answers.proofs.RootLaws.{any_form, once, equal_same}

module _ (work : Work) (u : UnitScope) (v : Around) (r : Since) (before : Macros) (can : CanAsk work u v r) (each : EachTellsRules r.editions) (on : EditionsGoOn before u.macros v.state.form r.editions) where
  abbrev now : Meaning → ℕ
  now c = edition_in u.macros v.state.form c

  none_now : (c : Meaning) → r.editions (now c) ≡ None → now c ≡ 0
  none_now c e = each (now c) e

  same_edition : (c : Meaning) (e : ℕ) → (e ≡ 0) ⊎ (e ≡ edition_in before v.state.form c) → r.editions (now c) ≡ r.editions e → now c ≡ e
  same_edition c e (inl zero) h = none_now c (h ∙ (ap r.editions zero ∙ can.editions.none)) ∙ sym zero
  same_edition c e (inr old) h = go (eqb (now c) 0) refl
    where
      go : (b : Bool) → eqb (now c) 0 ≡ b → now c ≡ e
      go true t = let z = eqb-true (now c) 0 t in z ∙ sym (each e (sym h ∙ (ap r.editions z ∙ can.editions.none)))
      go false t = on c (λ z. (let q : false ≡ true = sym t ∙ eq-eqb (now c) 0 z in absurd cc)) (h ∙ ap r.editions old) ∙ sym old

  rules_keep : (c : Meaning) (e : ℕ) (m : Noted) → IsQuestion work.symbols r (code.Rules c e) m.question m.answer → IsAskedOutside m.question → RulesTold before v.state.form (code.Rules c e) → KeepsEdition work u v r (code.Rules c e)
  rules_keep c e m (k, asked, answer, is) outside told l there same =
      let lasts : is_local k ≡ false = subst IsAskedOutside asked outside in
      let here = any_form work.symbols r.unit r.form v.state.unit v.state.form c k lasts is in
      let one : k ≡ l = once work.symbols v.state.unit v.state.form c k l here there in
      let rules = can.editions.tells v.state.form c k here lasts in
      same_edition c e told (rules ∙ (ap (λ x. option_map bare_macro (macro_at v.state.macros x)) one ∙ sym same))

  pub edition_kept : (q : code_question.Question) (m : Noted) → IsQuestion work.symbols r q m.question m.answer → IsAskedOutside m.question → RulesTold before v.state.form q → KeepsEdition work u v r q
  edition_kept (code.Lookup n c k) m is outside told = tt
  edition_kept (code.Literal l n h) m is outside told = tt
  edition_kept (code.Rules c e) m is outside told = rules_keep c e m is outside told
  edition_kept (code.Assigned n h) m is outside told = tt
  edition_kept (code.Library x h) m is outside told = tt
  edition_kept (code.Definition d o) m is outside told = tt

-- one more macro
pub one_made : (before old new : Macros) (form : ℕ) (editions : ℕ → Option (Transformer Frames Ident)) (d : Meaning) → EditionsGoOn before old form editions → ((c : Meaning) → (c ≡ d → ⊥) → edition_in new form c ≡ edition_in old form c)
    → (edition_in new form d ≡ edition_in before form d) ⊎ (editions (edition_in new form d) ≡ editions (edition_in before form d) → ⊥) → EditionsGoOn before new form editions
one_made before old new form editions d on others made c some same = go (meanings_equal c d) refl
  where
    there : c ≡ d → (edition_in new form d ≡ edition_in before form d) ⊎ (editions (edition_in new form d) ≡ editions (edition_in before form d) → ⊥) → edition_in new form c ≡ edition_in before form c
    there e (inl h) = ap (edition_in new form) e ∙ (h ∙ ap (edition_in before form) (sym e))
    there e (inr h) = absurd (h (ap (λ x. editions (edition_in new form x)) (sym e) ∙ (same ∙ ap (λ x. editions (edition_in before form x)) e)))

    go : (b : Bool) → meanings_equal c d ≡ b → edition_in new form c ≡ edition_in before form c
    go true t = there ((equal_same c d).0 t) made
    go false t =
        let e = others c (λ z. (let q : false ≡ true = sym t ∙ (equal_same c d).1 z in absurd cc)) in
        e ∙ on c (λ z. some (e ∙ z)) (ap editions (sym e) ∙ same)
