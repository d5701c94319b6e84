-- The form's next definition is made: what it makes of the settled state, and that macros and their editions go on.
use Rattle.std.proofs.Common.{◌≡◌, ◌==◌, ℕ, List, [], ◌∷◌, ◌++◌, slice_get, Bool, true, false, cond, Option, Some, None, refl, sym, ap, ◌∙◌, subst}
use Rattle.std.specs.Prelude.{◌&&◌}
use Rattle.scheme_model.specs.Ident.{Ident, same_ident}
use Rattle.scheme_model.specs.ExpansionFaults.{Named}
use Rattle.scheme_model.specs.Meaning as model
use Rattle.scheme_model.specs.RulesShape.{Rules, option_map}
use Rattle.scheme_model.specs.Order.{Transformer, is_some}
use Rattle.scheme_model.specs.Questions.{Moment, Around, bare_macro}
use Rattle.scheme_model.specs.Substitution.{Defined, Table, defined_in}
use Rattle.scheme_model.specs.ScopedExpansion.{Frames, ScopedMacro, ScopedState, macro_at, macro_added, definition_added}
use Rattle.forgotten_locals.specs.Outside.{macros_outside}
use Rattle.scheme_model.specs.Leaves.{leaves_of}
use Rattle.rules_check.specs.Gathered.{AreLeaves}
use Rattle.rules_check.specs.declared.leaf.RuleLeaf.{RuleLeaf}
use Rattle.syntax_tree.specs.Names.{Names, AreToldApart}
use Rattle.syntax_tree.specs.Macros.{identifiers, RulesFor, AreChecked}
use Rattle.syntax_tree.specs.Meant.{IsMeaning}
use Rattle.syntax_tree.specs.declared.meaning.Meaning.{Meaning}
use Rattle.syntax_tree.specs.declared.rules.Rules as code_rules
use Rattle.syntax_tree.specs.declared.trees.Work.{Work}
use Rattle.form_notes.specs.Noted.{is_local}
use Rattle.unit_scopes.specs.Defining.{IsKept, KeepsAny}
use Rattle.unit_scopes.specs.Editions.{EditionsTell}
use Rattle.unit_scopes.specs.Macros.{macro_in, edition_of, edition_in, IsBound, Keeps}
use Rattle.unit_scopes.specs.declared.macros.Macro.{Macro}
use Rattle.unit_scopes.specs.declared.macros.Macros.{Macros}
use Rattle.unit_scopes.proofs.KeptStands.{by_key}
use Rattle.declared_parts.specs.Going.{settled, AreMacrosDefined, HasMacro, IsNextMacro}
use Rattle.declared_parts.specs.declared.parts.KeptMacro.{KeptMacro}

-- ---- the state

added_front : (m : model.Meaning) (r : Option (Rules Ident)) (xs ys : List ScopedMacro) → macro_added m [] r xs ++ ys ≡ macro_added m [] r (xs ++ ys)
added_front m None xs ys = refl
added_front m (Some r) xs ys = refl

module _ (v : Around) (n after : Moment) (x : Named Ident) (r : Option (Rules Ident)) where
  abbrev entry : Defined
  entry = record { unit = v.state.unit; form = v.state.form; ident = x.name; keyword = is_some r; occ = x.occ }

  -- with the definition it is that of the next moment
  pub next_settled : after.table ≡ entry ∷ n.table → macros_outside after.macros ≡ macro_added (model.Global v.state.unit x.name) [] r (macros_outside n.macros) → definition_added None x r [] (settled v n) ≡ settled v after
  next_settled table macros =
      let front = added_front (model.Global v.state.unit x.name) r (macros_outside n.macros) (macros_outside v.state.macros) in
      let all = sym front ∙ ap (λ (ks : List ScopedMacro). ks ++ macros_outside v.state.macros) (sym macros) in
      let entries = ap (λ (t : Table). t ++ v.state.table) (sym table) in
      λ j. record (settled v n) { table = entries j; macros = all j }

-- ---- each macro of the unit is defined

defined_more : (q : Bool) (d : Defined) (o : Option Defined) → is_some o ≡ true → is_some (cond q (Some d) o) ≡ true
defined_more true d o h = refl
defined_more false d o h = h

module _ (s : ScopedState) (x : Named Ident) where
  abbrev at : Ident → Bool
  at i = s.unit == s.unit && same_ident x.name i

  one_more : (d : Defined) (i : Ident) (b : Bool) (k : Transformer Frames Ident) (o : Option (Transformer Frames Ident)) (p : Option Defined) → at i ≡ b → (is_some o ≡ true → is_some p ≡ true) → is_some (cond b (Some k) o) ≡ true → is_some (cond b (Some d) p) ≡ true
  one_more d i true k o p e rest h = refl
  one_more d i false k o p e rest h = rest h

  pub closed_more : (r : Option (Rules Ident)) → AreMacrosDefined s → AreMacrosDefined (definition_added None x r [] s)
  closed_more None h i is = defined_more (at i) (record { unit = s.unit; form = s.form; ident = x.name; keyword = false; occ = x.occ }) (defined_in s.table s.unit i) (h i is)
  closed_more (Some r) h i is =
      one_more (record { unit = s.unit; form = s.form; ident = x.name; keyword = true; occ = x.occ }) i (at i) (record { env = []; rules = r }) (macro_at s.macros (model.Global s.unit i)) (defined_in s.table s.unit i) refl (h i) is

-- ---- the editions

-- what is kept has the rules' edition, or there are none
abbrev pub HasEdition : (ℕ → Option (Transformer Frames Ident)) → Option Macro → Option (Rules Ident) → Type 0
HasEdition editions None None = Unit {0}
HasEdition editions None (Some r) = ⊥
HasEdition editions (Some k) None = ⊥
HasEdition editions (Some k) (Some r) = editions k.edition ≡ Some (record { env = []; rules = r })

module _ (names : Names) (apart : AreToldApart names.idents) (told_apart : AreToldApart names.symbols) (old new : Macros) (s : ScopedState) (f : ℕ) (c : Meaning) (x : Named Ident) (bound : IsBound c) (means : IsMeaning names s.unit f c (model.Global s.unit x.name))
    (editions : ℕ → Option (Transformer Frames Ident)) (before : EditionsTell names old s editions) where
  abbrev l : model.Meaning
  l = model.Global s.unit x.name

  with_macro : (k : Macro) (r : Rules Ident) → Keeps old new f c k → editions k.edition ≡ Some (record { env = []; rules = r }) → EditionsTell names new (definition_added None x (Some r) [] s) editions
  with_macro k r keeps edition = record { none = before.none; tells = λ g d m is free. by g d m is free (model.same_meaning l m) refl }
    where
      t : Transformer Frames Ident
      t = record { env = []; rules = r }

      by : (g : ℕ) (d : Meaning) (m : model.Meaning) → IsMeaning names s.unit g d m → is_local m ≡ false → (b : Bool) → model.same_meaning l m ≡ b →
          editions (edition_in new g d) ≡ option_map bare_macro (cond (model.same_meaning l m) (Some t) (macro_at s.macros m))
      by g d m is free true e =
          let key = by_key names apart told_apart s.unit f g c l bound means d m is ∙ e in
          let there : macro_in new g d ≡ Some k = keeps g d ∙ ap (λ (b : Bool). cond b (Some k) (macro_in old g d)) key in
          ap (λ (o : Option Macro). editions (edition_of o)) there
          ∙ (edition ∙ sym (ap (λ (b : Bool). option_map bare_macro (cond b (Some t) (macro_at s.macros m))) e))
      by g d m is free false e =
          let key = by_key names apart told_apart s.unit f g c l bound means d m is ∙ e in
          let there : macro_in new g d ≡ macro_in old g d = keeps g d ∙ ap (λ (b : Bool). cond b (Some k) (macro_in old g d)) key in
          ap (λ (o : Option Macro). editions (edition_of o)) there
          ∙ (before.tells g d m is free ∙ sym (ap (λ (b : Bool). option_map bare_macro (cond b (Some t) (macro_at s.macros m))) e))

  pub editions_more : (kept : Option Macro) (r : Option (Rules Ident)) → KeepsAny old new f c kept true → HasEdition editions kept r → EditionsTell names new (definition_added None x r [] s) editions
  editions_more None None keeps h = subst (λ (ms : Macros). EditionsTell names ms (definition_added None x None [] s) editions) (sym keeps) (record { none = before.none; tells = before.tells })
  editions_more None (Some r) keeps h = absurd h
  editions_more (Some k) None keeps h = absurd h
  editions_more (Some k) (Some r) keeps h = with_macro k r keeps h

-- ---- what is kept

pub kept_of : (work : Work) (ls : List Frames) (root : ℕ) (editions : ℕ → Option (Transformer Frames Ident)) (keyword : Bool) (next : Option KeptMacro) (r : Option (Rules Ident)) (kept : Option Macro) → slice_get ls root ≡ Some [] → keyword ≡ is_some r →
    HasMacro work editions next keyword r → IsNextMacro root next keyword kept → IsKept work ls [] kept r × HasEdition editions kept r
kept_of work ls root editions false next None kept at is has h = subst (λ (o : Option Macro). IsKept work ls [] o None × HasEdition editions o None) (sym h) (tt, tt)
kept_of work ls root editions false next (Some r) kept at is has h = absurd cc
kept_of work ls root editions true next None kept at is has h = absurd cc
kept_of work ls root editions true None (Some r) kept at is has h = absurd has
kept_of work ls root editions true (Some k) (Some r) None at is has h = absurd h
kept_of work ls root editions true (Some k) (Some r) (Some m) at is has h = (
  record {
    scope = ap (slice_get ls) h.scope ∙ at;
    checked = subst (AreChecked work) (sym h.rules) has.0;
    rules = subst (λ (x : code_rules.Rules). RulesFor work x r) (sym h.rules) has.1;
    leaves = subst (λ (xs : List RuleLeaf). AreLeaves work.symbols xs (leaves_of identifiers r)) (sym h.leaves) has.2;
  },
  ap editions h.edition ∙ has.3,
)
