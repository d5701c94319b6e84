-- The editions of macros tell their rules where names are added and another unit begins, and where one macro more is kept.
use Rattle.std.proofs.Common.{◌≡◌, ℕ, ◌<◌, List, [], ◌∷◌, length, Bool, true, false, cond, Option, Some, None, refl, sym, ap, ◌∙◌, subst}
use Rattle.std.proofs.lemmas.Option.{same_Some}
use Rattle.scheme_model.specs.Ident.{Ident as Identifier}
use Rattle.scheme_model.specs.Meaning as model
use Rattle.scheme_model.specs.Order.{Note, Transformer, is_some}
use Rattle.scheme_model.specs.Questions.{bare_macro}
use Rattle.scheme_model.specs.RulesShape.{Rules, option_map}
use Rattle.scheme_model.specs.ScopedExpansion.{Frames, FramedIdent, ScopedMacro, ScopedState, macro_at}
use Rattle.syntax_tree.specs.Macros.{IsIdent}
use Rattle.syntax_tree.specs.Meant.{IsSymbol, IsMeaning}
use Rattle.syntax_tree.specs.Names.{Names, AreToldApart, KeepsNames}
use Rattle.syntax_tree.specs.declared.meaning.Meaning.{Meaning}
use Rattle.syntax_tree.specs.declared.meaning.Meaning.TheVariants.{Local, Global, Standard, Free}
use Rattle.syntax_tree.specs.declared.trees.Work.{Work}
use Rattle.syntax_tree.proofs.Places.{get_within}
use Rattle.form_notes.specs.Noted.{is_local}
use Rattle.unit_scopes.specs.Editions.{EditionsTell}
use Rattle.unit_scopes.specs.Macros.{macro_in, edition_of, edition_in, IsBound, Keeps}
use Rattle.unit_scopes.specs.Opened.{nothing_yet}
use Rattle.unit_scopes.specs.State.{IsMacroIfAny, MacrosStand}
use Rattle.unit_scopes.specs.Units.{UnitStands}
use Rattle.unit_scopes.specs.declared.macros.Macro.{Macro}
use Rattle.unit_scopes.specs.declared.macros.Macros.{Macros}
use Rattle.unit_scopes.specs.declared.scope.UnitScope.{UnitScope}
use Rattle.unit_scopes.proofs.KeptStands.{by_key}

-- without a macro in the code there is none in the state
no_macro : (work : Work) (ls : List Frames) (o : Option Macro) (p : Option (Transformer Frames Identifier)) → o ≡ None → IsMacroIfAny work ls o p → p ≡ None
no_macro work ls None None none h = refl
no_macro work ls None (Some m) none h = absurd h
no_macro work ls (Some k) p none h = absurd cc

local_clash : {P : Type 0} (b : Bool) → b ≡ true → b ≡ false → P
local_clash b t f = absurd cc

-- ---- other names, and another unit

module _ (old new : Names) (keeps : KeepsNames old new) where
  ident_back : (n : ℕ) (i : Identifier) → n < length old.idents → IsIdent new n i → IsIdent old n i
  ident_back n i lt is =
      let p = get_within old.idents n lt in
      let same : p.0 ≡ i = same_Some p.0 i (sym (keeps.idents n p.0 p.1) ∙ is) in
      subst (IsIdent old n) same p.1

  symbol_back : (n : ℕ) (x : List ℕ) → n < length old.symbols → IsSymbol new n x → IsSymbol old n x
  symbol_back n x lt is =
      let p = get_within old.symbols n lt in
      let same : p.0 ≡ x = same_Some p.0 x (sym (keeps.symbols n p.0 p.1) ∙ is) in
      subst (IsSymbol old n) same p.1

module _ (old new : Work) (keeps : KeepsNames old.symbols new.symbols) (ms ns : Macros) (ls ks : List Frames) (s t : ScopedState) (e : ℕ → Option (Transformer Frames Identifier))
    (before : MacrosStand old ms ls s) (after : MacrosStand new ns ks t) (tells : EditionsTell old.symbols ms s e) (globals : (f u i : ℕ) → macro_in ns f (Global u i) ≡ macro_in ms f (Global u i))
    (standards : (f x : ℕ) → macro_in ns f (Standard x) ≡ macro_in ms f (Standard x)) (same : t.macros ≡ s.macros) where
  told : (f : ℕ) (c : Meaning) (m : model.Meaning) (o : Option Macro) → macro_in ns f c ≡ o → macro_in ns f c ≡ macro_in ms f c → IsMeaning new.symbols t.unit f c m → (is_some (macro_in ms f c) ≡ true → IsMeaning old.symbols s.unit f c m) → is_local m ≡ false →
      e (edition_in ns f c) ≡ option_map bare_macro (macro_at t.macros m)
  told f c m None none kept is back lasts =
      ap (λ (x : Option Macro). e (edition_of x)) none ∙ (tells.none ∙ sym (ap (option_map bare_macro) (no_macro new ks (macro_in ns f c) (macro_at t.macros m) none (after.there f c m is))))
  told f c m (Some k) some kept is back lasts =
      ap (λ (x : Option Macro). e (edition_of x)) kept
      ∙ (tells.tells f c m (back (ap is_some (sym kept ∙ some))) lasts ∙ ap (λ (xs : List ScopedMacro). option_map bare_macro (macro_at xs m)) (sym same))

  all_told : (f : ℕ) (c : Meaning) (m : model.Meaning) → IsMeaning new.symbols t.unit f c m → is_local m ≡ false → e (edition_in ns f c) ≡ option_map bare_macro (macro_at t.macros m)
  all_told f (Local n) m is lasts = local_clash (is_local m) (ap is_local is) lasts
  all_told f (Global u n) (model.Local v) is lasts = absurd is
  all_told f (Global u n) (model.Global w i) is lasts =
      told f (Global u n) (model.Global w i) (macro_in ns f (Global u n)) refl (globals f u n) is (λ some. (is.0, ident_back old.symbols new.symbols keeps n i (before.known_idents f u n some) is.1)) lasts
  all_told f (Global u n) (model.Standard x) is lasts = absurd is
  all_told f (Global u n) (model.Free x) is lasts = absurd is
  all_told f (Standard n) (model.Local v) is lasts = absurd is
  all_told f (Standard n) (model.Global w i) is lasts = absurd is
  all_told f (Standard n) (model.Standard x) is lasts =
      told f (Standard n) (model.Standard x) (macro_in ns f (Standard n)) refl (standards f n) is (λ some. symbol_back old.symbols new.symbols keeps n x (before.known_symbols f n some) is) lasts
  all_told f (Standard n) (model.Free x) is lasts = absurd is
  all_told f (Free n) (model.Local v) is lasts = absurd is
  all_told f (Free n) (model.Global w i) is lasts = absurd is
  all_told f (Free n) (model.Standard x) is lasts = absurd is
  all_told f (Free n) (model.Free x) is lasts = tells.none ∙ sym (ap (option_map bare_macro) (after.free x))

  pub editions_stay : EditionsTell new.symbols ns t e
  editions_stay = record { none = tells.none; tells = all_told }

-- ---- one macro more

module _ (names : Names) (apart : AreToldApart names.idents) (told_apart : AreToldApart names.symbols) (old new : Macros) (s t : ScopedState) (f : ℕ) (c : Meaning) (l : model.Meaning) (bound : IsBound c) (means : IsMeaning names s.unit f c l) (k : Macro)
    (r : Rules Identifier) (keeps : Keeps old new f c k) (e : ℕ → Option (Transformer Frames Identifier)) (edition : e k.edition ≡ Some (record { env = []; rules = r })) (before : EditionsTell names old s e) (unit : t.unit ≡ s.unit)
    (macros : t.macros ≡ record { meaning = l; frames = []; rules = r } ∷ s.macros) where
  rules : Transformer Frames Identifier
  rules = record { env = []; rules = r }

  in_state : (m : model.Meaning) (b : Bool) → model.same_meaning l m ≡ b → macro_at t.macros m ≡ cond b (Some (record { env = []; rules = r })) (macro_at s.macros m)
  in_state m b e = ap (λ (xs : List ScopedMacro). macro_at xs m) macros ∙ ap (λ (q : Bool). cond q (Some (record { env = []; rules = r })) (macro_at s.macros m)) e

  one_told : (g : ℕ) (d : Meaning) (m : model.Meaning) → IsMeaning names s.unit g d m → is_local m ≡ false → (b : Bool) → model.same_meaning l m ≡ b → e (edition_in new g d) ≡ option_map bare_macro (macro_at t.macros m)
  one_told g d m is lasts true same =
      let key = by_key names apart told_apart s.unit f g c l bound means d m is ∙ same in
      let there : macro_in new g d ≡ Some k = keeps g d ∙ ap (λ (b : Bool). cond b (Some k) (macro_in old g d)) key in
      ap (λ (o : Option Macro). e (edition_of o)) there ∙ (edition ∙ sym (ap (option_map bare_macro) (in_state m true same)))
  one_told g d m is lasts false same =
      let key = by_key names apart told_apart s.unit f g c l bound means d m is ∙ same in
      let there : macro_in new g d ≡ macro_in old g d = keeps g d ∙ ap (λ (b : Bool). cond b (Some k) (macro_in old g d)) key in
      ap (λ (o : Option Macro). e (edition_of o)) there ∙ (before.tells g d m is lasts ∙ sym (ap (option_map bare_macro) (in_state m false same)))

  pub edition_more : EditionsTell names new t e
  edition_more = record { none = before.none; tells = λ g d m is lasts. one_told g d m (subst (λ (u : ℕ). IsMeaning names u g d m) unit is) lasts (model.same_meaning l m) refl }

-- ---- no macros

pub editions_none : (names : Names) (ms : Macros) (e : ℕ → Option (Transformer Frames Identifier)) → ((f : ℕ) (c : Meaning) → macro_in ms f c ≡ None) → e 0 ≡ None → EditionsTell names ms nothing_yet e
editions_none names ms e none zero = record { none = zero; tells = λ f c m is lasts. ap (λ (o : Option Macro). e (edition_of o)) (none f c) ∙ zero }

-- ---- the same macros

module _ (ms ns : Macros) (same : (f : ℕ) (c : Meaning) → macro_in ns f c ≡ macro_in ms f c) where
  pub editions_same : (names : Names) (s : ScopedState) (e : ℕ → Option (Transformer Frames Identifier)) → EditionsTell names ms s e → EditionsTell names ns s e
  editions_same names s e h = record { none = h.none; tells = λ f c m is lasts. ap (λ (o : Option Macro). e (edition_of o)) (same f c) ∙ h.tells f c m is lasts }

  macros_same : (work : Work) (ls : List Frames) (s : ScopedState) → MacrosStand work ms ls s → MacrosStand work ns ls s
  macros_same work ls s h = record {
    there = λ f c m is. subst (λ (o : Option Macro). IsMacroIfAny work ls o (macro_at s.macros m)) (sym (same f c)) (h.there f c m is);
    idents = h.idents;
    symbols = h.symbols;
    free = h.free;
    known_idents = λ f u n some. h.known_idents f u n (ap is_some (sym (same f (Global u n))) ∙ some);
    known_symbols = λ f n some. h.known_symbols f n (ap is_some (sym (same f (Standard n))) ∙ some);
  }

  pub units_same : (work : Work) (u : UnitScope) (ls : List Frames) (s : ScopedState) (notes : List (Note FramedIdent)) → u.macros ≡ ms → UnitStands work u ls s notes → UnitStands work (record u { macros = ns }) ls s notes
  units_same work u ls s notes is h = let r = h.rests in record {
    rests = record {
      unit = r.unit;
      program = r.program;
      env = r.env;
      macros = macros_same work ls s (subst (λ (x : Macros). MacrosStand work x ls s) is r.macros);
      root = r.root;
      own = r.own;
      begun = r.begun;
      defined = r.defined;
      known = r.known;
      count = r.count;
    };
    notes = h.notes;
  }
