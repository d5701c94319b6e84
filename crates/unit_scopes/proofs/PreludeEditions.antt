-- A macro of the prelude's unit that is added has the next edition, which tells its rules.
use Rattle.std.proofs.Common.{◌≡◌, ℕ, ◌+◌, List, [], ◌∷◌, Bool, true, false, cond, Option, Some, refl, sym, ap, ◌∙◌, subst}
use Rattle.scheme_model.specs.Ident.{Ident as Identifier, Written}
use Rattle.scheme_model.specs.Meaning as model
use Rattle.scheme_model.specs.Order.{Transformer}
use Rattle.scheme_model.specs.Program.{prelude_unit, is_standard}
use Rattle.scheme_model.specs.RulesShape.{Rules}
use Rattle.scheme_model.specs.ScopedExpansion.{Frames, ScopedState}
use Rattle.syntax_tree.specs.Macros.{IsIdent}
use Rattle.syntax_tree.specs.Meant.{IsSymbol, IsMeaning}
use Rattle.syntax_tree.specs.Names.{AreToldApart, KeepsNames}
use Rattle.syntax_tree.specs.Works.{KeepsTrees}
use Rattle.syntax_tree.specs.declared.meaning.Meaning.{Meaning}
use Rattle.syntax_tree.specs.declared.meaning.Meaning.TheVariants as code
use Rattle.syntax_tree.specs.declared.trees.Work.{Work}
use Rattle.unit_scopes.specs.Editions.{EditionsTell}
use Rattle.unit_scopes.specs.Macros.{numbered, IsBound, Keeps}
use Rattle.unit_scopes.specs.Preluded.{prelude_with, IsPrelude, AddsMacro}
use Rattle.unit_scopes.specs.State.{Rests}
use Rattle.unit_scopes.specs.declared.macros.Macro.{Macro}
use Rattle.unit_scopes.specs.declared.macros.Macros.{Macros}
use Rattle.unit_scopes.specs.declared.scope.UnitScope.{UnitScope}
use Rattle.unit_scopes.proofs.EditionStands.{editions_stay, edition_more}
use Rattle.unit_scopes.proofs.GrowthStands.{growth_rests}

module _ (old new : Work) (trees : KeepsTrees old new) (names : KeepsNames old.symbols new.symbols) (apart : AreToldApart new.symbols.idents) (told : AreToldApart new.symbols.symbols) (u : UnitScope) (s : ScopedState) (x : List ℕ)
    (e : ℕ → Option (Transformer Frames Identifier)) (rests : Rests old u ([] ∷ []) s) (tells : EditionsTell old.symbols u.macros s e) (r : Rules Identifier) where
  -- once the name has its number
  still : EditionsTell new.symbols u.macros s e
  still =
      editions_stay old new names u.macros u.macros ([] ∷ []) ([] ∷ []) s s e rests.macros (growth_rests old new trees names apart told u ([] ∷ []) s rests).macros tells (λ f v i. refl) (λ f y. refl) refl

  added : (b : Bool) → is_standard x ≡ b → (prelude_with x r s).macros ≡ record { meaning = cond b (model.Standard x) (model.Global prelude_unit (Written prelude_unit x)); frames = []; rules = r } ∷ s.macros
  added b is = ap (λ (q : Bool). record { meaning = cond q (model.Standard x) (model.Global prelude_unit (Written prelude_unit x)); frames = []; rules = r } ∷ s.macros) is

  module _ (c : Meaning) (l : model.Meaning) (ms : Macros) (k : Macro) (keeps : Keeps u.macros ms 0 c (numbered k (u.macros.editions + 1))) (edition : e (u.macros.editions + 1) ≡ Some (record { env = []; rules = r })) where
    pub one_tells : (t : ScopedState) → t.unit ≡ s.unit → t.macros ≡ record { meaning = l; frames = []; rules = r } ∷ s.macros → IsBound c → IsMeaning new.symbols s.unit 0 c l → EditionsTell new.symbols ms t e
    one_tells t unit macros bound means = edition_more new.symbols apart told u.macros ms s t 0 c l bound means (numbered k (u.macros.editions + 1)) r keeps e edition still unit macros

  -- of a standard name
  pub standard_tells : (n : ℕ) (ms : Macros) (k : Macro) → IsSymbol new.symbols n x → is_standard x ≡ true → Keeps u.macros ms 0 (code.Standard n) (numbered k (u.macros.editions + 1)) → e (u.macros.editions + 1) ≡ Some (record { env = []; rules = r }) →
      EditionsTell new.symbols ms (prelude_with x r s) e
  standard_tells n ms k spelt standard keeps edition = one_tells (code.Standard n) (model.Standard x) ms k keeps edition (prelude_with x r s) refl (added true standard) tt spelt

  -- of a name of its own
  pub own_tells : (is : IsPrelude s) (ident : ℕ) (v : UnitScope) (k : Macro) → IsIdent new.symbols ident (Written prelude_unit x) → is_standard x ≡ false → AddsMacro u v ident k → e (u.macros.editions + 1) ≡ Some (record { env = []; rules = r }) →
      EditionsTell new.symbols v.macros (prelude_with x r s) e
  own_tells is ident v k at other h edition =
      subst (λ (w : UnitScope). EditionsTell new.symbols w.macros (prelude_with x r s) e) (sym h.after)
      (one_tells (code.Global u.unit ident) (model.Global prelude_unit (Written prelude_unit x)) h.macros k h.keeps edition (prelude_with x r s) refl (added false other) tt (rests.unit ∙ is.unit, at))
