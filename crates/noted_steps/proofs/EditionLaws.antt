-- The editions of macros tell their rules behind a step: where the macros stay, and where one is made that is the form's own.
use Rattle.std.proofs.Common.{◌≡◌, ℕ, ◌<◌, ◌==◌, List, [], length, Bool, true, false, cond, Option, Some, None, refl, sym, ap, ◌∙◌, subst}
use Rattle.std.specs.Prelude.{◌&&◌}
use Rattle.std.proofs.lemmas.Option.{same_Some}
use Rattle.scheme_model.specs.Ident.{Ident as Identifier, same_ident}
use Rattle.scheme_model.specs.ExpansionFaults.{Named}
use Rattle.scheme_model.specs.Identifiers.{Number}
use Rattle.scheme_model.specs.Meaning.{Meaning, Local, Global, Standard, Free, same_meaning}
use Rattle.scheme_model.specs.Order.{Transformer, is_some}
use Rattle.scheme_model.specs.Questions.{bare_macro}
use Rattle.scheme_model.specs.RulesShape.{Rules, option_map}
use Rattle.scheme_model.specs.Substitution.{Defined, defined_in}
use Rattle.scheme_model.specs.ScopedExpansion.{Frames, ScopedMacro, ScopedState, macro_at, macro_added}
use Rattle.syntax_tree.specs.Names.{Names, AreToldApart, KeepsNames}
use Rattle.syntax_tree.specs.Macros.{IsIdent}
use Rattle.syntax_tree.specs.Meant.{IsSymbol, IsMeaning}
use Rattle.syntax_tree.specs.declared.meaning.Meaning as code_meaning
use Rattle.syntax_tree.specs.declared.meaning.Meaning.TheVariants as code
use Rattle.syntax_tree.specs.declared.trees.Work.{Work}
use Rattle.syntax_tree.proofs.Places.{get_within}
use Rattle.scheme_model.specs.Questions.{UsesRules, Expands}
use Rattle.form_notes.specs.Noted.{Since, is_own, at_start, rules_used, defining}
use Rattle.unit_scopes.specs.Macros.{macro_in, edition_of, edition_in, same_key, IsBound}
use Rattle.unit_scopes.specs.State.{IsMacroIfAny}
use Rattle.unit_scopes.specs.State as plain
use Rattle.unit_scopes.specs.declared.macros.Macro.{Macro}
use Rattle.unit_scopes.specs.declared.macros.Macros.{Macros}
use Rattle.unit_scopes.specs.declared.scope.UnitScope.{UnitScope}
use Rattle.unit_scopes.proofs.KeptStands.{by_key}
use Rattle.noted_steps.specs.Noting.{Noting, with_state}
use Rattle.noted_steps.specs.Standing.{EditionsStand, Stands}

-- ---- the macros stay

-- without a macro in the code there is none in the state
pub no_macro : (work : Work) (ls : List Frames) (o : Option Macro) (p : Option (Transformer Frames Identifier)) → o ≡ None → IsMacroIfAny work ls o p → p ≡ None
no_macro work ls None None none h = refl
no_macro work ls None (Some m) none h = absurd h
no_macro work ls (Some k) p none h = absurd cc

module _ (old new : Names) (keeps : KeepsNames old new) where
  ident_back : (n : ℕ) (i : Identifier) → n < length old.idents → IsIdent new n i → IsIdent old n i
  ident_back n i lt is =
      let p = get_within old.idents n lt in
      let same : p.0 ≡ i = same_Some p.0 i (sym (keeps.idents n p.0 p.1) ∙ is) in
      subst (IsIdent old n) same p.1

  symbol_back : (n : ℕ) (x : List ℕ) → n < length old.symbols → IsSymbol new n x → IsSymbol old n x
  symbol_back n x lt is =
      let p = get_within old.symbols n lt in
      let same : p.0 ≡ x = same_Some p.0 x (sym (keeps.symbols n p.0 p.1) ∙ is) in
      subst (IsSymbol old n) same p.1

  -- what means a macro had its numbers before
  meaning_back : (ms : Macros) (unit form : ℕ) → ((u n : ℕ) → is_some (macro_in ms form (code.Global u n)) ≡ true → n < length old.idents) → ((n : ℕ) → is_some (macro_in ms form (code.Standard n)) ≡ true → n < length old.symbols) →
      (c : code_meaning.Meaning) (m : Meaning) → is_some (macro_in ms form c) ≡ true → IsMeaning new unit form c m → IsMeaning old unit form c m
  meaning_back ms unit form idents symbols (code.Local n) m some h = h
  meaning_back ms unit form idents symbols (code.Global u n) (Local v) some h = absurd h
  meaning_back ms unit form idents symbols (code.Global u n) (Global w i) some h = (h.0, ident_back n i (idents u n some) h.1)
  meaning_back ms unit form idents symbols (code.Global u n) (Standard x) some h = absurd h
  meaning_back ms unit form idents symbols (code.Global u n) (Free x) some h = absurd h
  meaning_back ms unit form idents symbols (code.Standard n) (Local v) some h = absurd h
  meaning_back ms unit form idents symbols (code.Standard n) (Global w i) some h = absurd h
  meaning_back ms unit form idents symbols (code.Standard n) (Standard x) some h = symbol_back n x (symbols n some) h
  meaning_back ms unit form idents symbols (code.Standard n) (Free x) some h = absurd h
  meaning_back ms unit form idents symbols (code.Free n) m some h = absurd cc

module _ (old new : Work) (keeps : KeepsNames old.symbols new.symbols) (u v : UnitScope) (ls ms : List Frames) (n : Noting) (t : ScopedState) (e : Stands old u ls n) (p : plain.Stands new v ms t) (macros : v.macros ≡ u.macros) (rules : t.macros ≡ n.macros)
    (unit : t.unit ≡ n.unit) where
  told : EditionsStand old.symbols u.macros n → (form : ℕ) (c : code_meaning.Meaning) (m : Meaning) (o : Option Macro) → macro_in v.macros form c ≡ o → IsMeaning new.symbols t.unit form c m → is_own n.since m ≡ false →
      n.since.editions (edition_in v.macros form c) ≡ option_map bare_macro (macro_at t.macros m)
  told before form c m None none is apart =
      ap (λ (x : Option Macro). n.since.editions (edition_of x)) none
      ∙ (before.none ∙ sym (ap (option_map bare_macro) (no_macro new ms (macro_in v.macros form c) (macro_at t.macros m) none (p.macros.there form c m is))))
  told before form c m (Some k) some is apart =
      let there : macro_in u.macros form c ≡ Some k = ap (λ (x : Macros). macro_in x form c) (sym macros) ∙ some in
      let was = meaning_back old.symbols new.symbols keeps u.macros n.unit form (e.macros.known_idents form) (e.macros.known_symbols form) c m (ap is_some there) (subst (λ (x : ℕ). IsMeaning new.symbols x form c m) unit is) in
      ap (λ (x : Macros). n.since.editions (edition_in x form c)) macros
      ∙ (before.tells form c m was apart ∙ ap (λ (ks : List ScopedMacro). option_map bare_macro (macro_at ks m)) (sym rules))

  pub editions_on : n.exact ≡ true → EditionsStand new.symbols v.macros (with_state n t)
  editions_on exact =
      let before = e.editions exact in
      record { none = before.none; tells = λ form c m is apart. told before form c m (macro_in v.macros form c) refl is apart }

-- ---- one is made

module _ (names : Names) (apart : AreToldApart names.idents) (told_apart : AreToldApart names.symbols) (old new : Macros) (n t : Noting) (f : ℕ) (c : code_meaning.Meaning) (l : Meaning) where
  pub editions_beside : IsBound c → IsMeaning names n.unit f c l → t.unit ≡ n.unit → t.since.editions ≡ n.since.editions →
      ((g : ℕ) (d : code_meaning.Meaning) → same_key f c g d ≡ false → macro_in new g d ≡ macro_in old g d) →
      ((m : Meaning) → is_own t.since m ≡ false → (is_own n.since m ≡ false) × (same_meaning l m ≡ false)) →
      ((m : Meaning) → same_meaning l m ≡ false → macro_at t.macros m ≡ macro_at n.macros m) →
      EditionsStand names old n → EditionsStand names new t
  editions_beside bound means unit same others own rules before = record {
    none = ap (λ (e : ℕ → Option (Transformer Frames Identifier)). e 0) same ∙ before.none;
    tells = λ g d m is free.
        let q = own m free in
        let here : IsMeaning names n.unit g d m = subst (λ (x : ℕ). IsMeaning names x g d m) unit is in
        let key : same_key f c g d ≡ false = by_key names apart told_apart n.unit f g c l bound means d m here ∙ q.1 in
        let macro = others g d key in
        (λ j. same j (edition_of (macro j)))
        ∙ (before.tells g d m here q.0 ∙ ap (option_map bare_macro) (sym (rules m q.1)));
  }

-- a local is the form's own
pub local_apart : (r : Since) (v : Number) (m : Meaning) → is_own r m ≡ false → (is_own r m ≡ false) × (same_meaning (Local v) m ≡ false)
local_apart r v (Local w) h = absurd cc
local_apart r v (Global u i) h = (h, refl)
local_apart r v (Standard x) h = (h, refl)
local_apart r v (Free x) h = (h, refl)

-- and so is what it has defined
first_cases : (b : Bool) (d : Defined) (o : Option Defined) → is_some (cond b (Some d) o) ≡ false → (b ≡ false) × (is_some o ≡ false)
first_cases true d o h = absurd cc
first_cases false d o h = (refl, h)

pub global_apart : (r : Since) (x : Named Identifier) (keyword : Bool) (m : Meaning) → is_own (defining r x keyword) m ≡ false → (is_own r m ≡ false) × (same_meaning (Global r.unit x.name) m ≡ false)
global_apart r x keyword (Local w) h = absurd cc
global_apart r x keyword (Global u i) h =
    let p = first_cases (r.unit == u && same_ident x.name i) (record { unit = r.unit; form = r.form; ident = x.name; keyword = keyword; occ = x.occ }) (defined_in r.own u i) h in
    (p.1, p.0)
global_apart r x keyword (Standard y) h = (h, refl)
global_apart r x keyword (Free y) h = (h, refl)

-- other macros stay
pub others_stay : (l m : Meaning) (fs : Frames) (r : Option (Rules Identifier)) (ks : List ScopedMacro) → same_meaning l m ≡ false → macro_at (macro_added l fs r ks) m ≡ macro_at ks m
others_stay l m fs None ks h = refl
others_stay l m fs (Some r) ks h = ap (λ (b : Bool). cond b (Some (record { env = fs; rules = r })) (macro_at ks m)) h

-- what is noted of rules, by their edition
pub use_told : (r : Since) (m : Meaning) (t u : Option (Transformer Frames Identifier)) → (is_own r m ≡ false → t ≡ u) → rules_used r m t ≡ rules_used r m u
use_told r m t u h = by (is_own r m) refl
  where
    by : (b : Bool) → is_own r m ≡ b → rules_used r m t ≡ rules_used r m u
    by true is = ap (λ (q : Bool). cond q [] (at_start (UsesRules m) (Expands t))) is ∙ sym (ap (λ (q : Bool). cond q [] (at_start (UsesRules m) (Expands u))) is)
    by false is = ap (rules_used r m) (h is)
