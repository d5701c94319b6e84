-- Editions that go on from what stood before an event to what stands now: a macro that has the rules that it had has its edition too.
use Rattle.std.specs.Prelude.{◌≡◌, ◌⊎◌, ℕ, Option, None}
use Rattle.scheme_model.specs.Ident.{Ident}
use Rattle.scheme_model.specs.Order.{Transformer}
use Rattle.scheme_model.specs.ScopedExpansion.{Frames}
use Rattle.syntax_tree.specs.declared.meaning.Meaning.{Meaning}
use Rattle.form_notes.specs.declared.notes.Question as code_question
use Rattle.form_notes.specs.declared.notes.Question.TheVariants as code
use Rattle.unit_scopes.specs.Macros.{edition_in}
use Rattle.unit_scopes.specs.declared.macros.Macros.{Macros}

-- of the macros that there are now; 0 tells that there is none
abbrev pub EditionsGoOn : (before now : Macros) (form : ℕ) → (ℕ → Option (Transformer Frames Ident)) → Type 0
EditionsGoOn before now form editions =
    (c : Meaning) → (edition_in now form c ≡ 0 → ⊥) → editions (edition_in now form c) ≡ editions (edition_in before form c) → edition_in now form c ≡ edition_in before form c

-- only 0 tells no rules
abbrev pub EachTellsRules : (ℕ → Option (Transformer Frames Ident)) → Type 0
EachTellsRules editions = (n : ℕ) → editions n ≡ None → n ≡ 0

-- the rules of a macro were noted by the edition that it had before, or that there was none
abbrev pub RulesTold : (before : Macros) (form : ℕ) → code_question.Question → Type 0
RulesTold before form (code.Lookup n c k) = Unit {0}
RulesTold before form (code.Literal l n h) = Unit {0}
RulesTold before form (code.Rules c e) = (e ≡ 0) ⊎ (e ≡ edition_in before form c)
RulesTold before form (code.Assigned n h) = Unit {0}
RulesTold before form (code.Library x h) = Unit {0}
RulesTold before form (code.Definition d o) = Unit {0}
