-- Trees, symbols and identifiers are added: the state stands as it did.
use Rattle.std.proofs.Common.{◌≡◌, ℕ, ◌<◌, List, [], ◌∷◌, length, reverse, slice_get, Bool, true, Option, Some, None, refl, sym, ap, ◌∙◌, subst}
use Rattle.std.specs.Option.{option_map}
use Rattle.std.specs.BTreeMap.{get}
use Rattle.std.specs.Ordering.{nat_cmp}
use Rattle.std.specs.FinMap as map
use Rattle.std.proofs.lemmas.Option.{slice_get_within, same_Some}
use Rattle.scheme_model.specs.Identifiers.{Number}
use Rattle.scheme_model.specs.Ident.{Ident as Identifier}
use Rattle.scheme_model.specs.ExpansionFaults.{Named}
use Rattle.scheme_model.specs.Meaning as model
use Rattle.scheme_model.specs.Trees.{name, list, tree}
use Rattle.scheme_model.specs.RulesShape.{Rule, Rules}
use Rattle.scheme_model.specs.Leaves.{Leaf}
use Rattle.scheme_model.specs.Cores.{Target, MacroUse}
use Rattle.scheme_model.specs.Scopes.{Chain, defined_or}
use Rattle.scheme_model.specs.Substitution.{Defined, defined_in}
use Rattle.scheme_model.specs.Order.{Transformer, is_some}
use Rattle.scheme_model.specs.ScopedExpansion.{Frames, ScopedState, around, macro_at}
use Rattle.syntax_tree.specs.Names.{AreToldApart, KeepsNames}
use Rattle.syntax_tree.specs.Macros.{IsIdent, AreIdents, IsEllipsisOf, IsRule, AreRules, RulesFor, AreChecked}
use Rattle.syntax_tree.specs.Meant.{IsSymbol, IsMeaning}
use Rattle.syntax_tree.specs.Works.{KeepsTrees}
use Rattle.syntax_tree.specs.declared.trees.Work.{Work}
use Rattle.syntax_tree.specs.declared.meaning.Meaning.{Meaning}
use Rattle.syntax_tree.specs.declared.meaning.Meaning.TheVariants.{Local, Global, Standard, Free}
use Rattle.syntax_tree.specs.declared.rules.Rule as code_rule
use Rattle.syntax_tree.specs.declared.rules.Rules as code_rules
use Rattle.syntax_tree.proofs.Places.{none_some, get_within}
use Rattle.scope_env.specs.Environment.{Environment}
use Rattle.scope_env.specs.Moved.{AreNamed}
use Rattle.scope_env.proofs.GrowthLaws.{chain_grows, meaning_grows, env_grows}
use Rattle.core_tree.specs.Names.{AllMatch, IsTarget, IsUse}
use Rattle.core_tree.specs.declared.cores.Target as code_target
use Rattle.core_tree.specs.declared.traces.MacroUse as code_use
use Rattle.unit_scopes.specs.Chains.{chain_in, uses_in, imported_in, given_in}
use Rattle.unit_scopes.specs.Macros.{macro_in}
use Rattle.unit_scopes.specs.State.{IsMacro, IsMacroIfAny, MacrosStand, EnvStands, numbered_in, IsNumbered, FormStands, Rests, Stands}
use Rattle.rules_check.specs.Gathered.{AreLeaves}
use Rattle.rules_check.specs.declared.leaf.RuleLeaf.{RuleLeaf}
use Rattle.unit_scopes.specs.declared.macros.Macro.{Macro}
use Rattle.unit_scopes.specs.declared.macros.Macros.{Macros}
use Rattle.unit_scopes.specs.declared.scope.FormAtWork.{FormAtWork}
use Rattle.unit_scopes.specs.declared.scope.UnitScope.{UnitScope}

all_on : {X Y : Type 0} (P Q : X → Y → Type 0) → ((x : X) (y : Y) → P x y → Q x y) → (xs : List X) (ys : List Y) → AllMatch P xs ys → AllMatch Q xs ys
all_on P Q on [] [] h = h
all_on P Q on [] (y ∷ ys) h = h
all_on P Q on (x ∷ xs) [] h = h
all_on P Q on (x ∷ xs) (y ∷ ys) h = (on x y h.0, all_on P Q on xs ys h.1)

longer : {A : Type 0} (xs ys : List A) → ((n : ℕ) (x : A) → slice_get xs n ≡ Some x → slice_get ys n ≡ Some x) → (n : ℕ) → n < length xs → n < length ys
longer xs ys on n lt = let x = get_within xs n lt in slice_get_within ys n x.0 (on n x.0 x.1)

not_within : {A P : Type 0} (xs : List A) (n : ℕ) → slice_get xs n ≡ None → n < length xs → P
not_within xs n none lt = let x = get_within xs n lt in none_some x.0 (sym none ∙ x.1)

-- a thing that has its place in a longer list is in the shorter one at that place or nowhere
pub not_elsewhere : {A P : Type 0} (xs ys : List A) → ((n : ℕ) (x : A) → slice_get xs n ≡ Some x → slice_get ys n ≡ Some x) → AreToldApart ys → (n m : ℕ) (x : A) → slice_get xs n ≡ None → slice_get ys n ≡ Some x → slice_get xs m ≡ Some x → P
not_elsewhere xs ys on apart n m x none there here =
    let same : n ≡ m = apart n m (slice_get_within ys n x there) (there ∙ sym (on m x here)) in
    none_some x (sym none ∙ (ap (slice_get xs) same ∙ here))

neither : (work : Work) (ls : List Frames) (o : Option Macro) (p : Option (Transformer Frames Identifier)) → (is_some o ≡ true → ⊥) → (is_some p ≡ true → ⊥) → IsMacroIfAny work ls o p
neither work ls None None f g = tt
neither work ls None (Some t) f g = absurd (g refl)
neither work ls (Some k) None f g = absurd (f refl)
neither work ls (Some k) (Some t) f g = absurd (g refl)

no_macro : (work : Work) (ls : List Frames) (o : Option (Transformer Frames Identifier)) → o ≡ None → IsMacroIfAny work ls None o
no_macro work ls None h = tt
no_macro work ls (Some t) h = none_some t (sym h)

module _ (old new : Work) (trees : KeepsTrees old new) (names : KeepsNames old.symbols new.symbols) (apart : AreToldApart new.symbols.idents) (told : AreToldApart new.symbols.symbols) where
  -- ---- macros

  idents_on : (ns : List ℕ) (is : List (Named Identifier)) → AreIdents old.symbols ns is → AreIdents new.symbols ns is
  idents_on [] [] h = h
  idents_on [] (i ∷ is) h = h
  idents_on (n ∷ ns) [] h = h
  idents_on (n ∷ ns) (i ∷ is) h = (names.idents n i.name h.0, idents_on ns is h.1)

  ellipsis_on : (o : Option ℕ) (p : Option Identifier) → IsEllipsisOf old.symbols o p → IsEllipsisOf new.symbols o p
  ellipsis_on None None h = h
  ellipsis_on None (Some i) h = h
  ellipsis_on (Some n) None h = h
  ellipsis_on (Some n) (Some i) h = names.idents n i h

  rule_on : (n : code_rule.Rule) (r : Rule Identifier) → IsRule old n r → IsRule new n r
  rule_on n r h = record { head = h.head; head_place = h.head_place; place = h.place; pattern = trees.trees n.pattern (list (tree (name h.head h.head_place) r.parts) r.tail h.place) h.pattern; template = trees.trees n.template r.template h.template }

  each_rule_on : (ns : List code_rule.Rule) (rs : List (Rule Identifier)) → AreRules old ns rs → AreRules new ns rs
  each_rule_on [] [] h = h
  each_rule_on [] (r ∷ rs) h = h
  each_rule_on (n ∷ ns) [] h = h
  each_rule_on (n ∷ ns) (r ∷ rs) h = (rule_on n r h.0, each_rule_on ns rs h.1)

  pub rules_on : (n : code_rules.Rules) (r : Rules Identifier) → RulesFor old n r → RulesFor new n r
  rules_on n r h = record { ellipsis = ellipsis_on n.ellipsis r.ellipsis h.ellipsis; literals = idents_on n.literals r.literals h.literals; rules = each_rule_on n.rules r.rules h.rules }

  checked_on : (n : code_rules.Rules) → AreChecked old n → AreChecked new n
  checked_on n h = (h.0, rules_on n h.0 h.1, h.2)

  leaves_on : (ls : List RuleLeaf) (ms : List (Leaf Identifier)) → AreLeaves old.symbols ls ms → AreLeaves new.symbols ls ms
  leaves_on [] [] h = tt
  leaves_on [] (m ∷ ms) h = absurd h
  leaves_on (l ∷ ls) [] h = absurd h
  leaves_on (l ∷ ls) (m ∷ ms) h = (((names.idents l.name.ident m.leaf.name h.0.0.0, h.0.0.1), h.0.1), leaves_on ls ms h.1)

  pub macro_on : (ls : List Frames) (k : Macro) (t : Transformer Frames Identifier) → IsMacro old ls k t → IsMacro new ls k t
  macro_on ls k t h = record { scope = h.scope; checked = checked_on k.rules h.checked; rules = rules_on k.rules t.rules h.rules; leaves = leaves_on k.leaves.items _ h.leaves }

  if_any_on : (ls : List Frames) (o : Option Macro) (p : Option (Transformer Frames Identifier)) → IsMacroIfAny old ls o p → IsMacroIfAny new ls o p
  if_any_on ls None None h = h
  if_any_on ls None (Some t) h = h
  if_any_on ls (Some k) None h = h
  if_any_on ls (Some k) (Some t) h = macro_on ls k t h

  module _ (ms : Macros) (ls : List Frames) (s : ScopedState) (e : MacrosStand old ms ls s) where
    by_ident : (form u n w : ℕ) (i : Identifier) (o : Option Identifier) → slice_get old.symbols.idents n ≡ o → u ≡ w → IsIdent new.symbols n i → IsMacroIfAny new ls (macro_in ms form (Global u n)) (macro_at s.macros (model.Global w i))
    by_ident form u n w i (Some j) here units there =
        let same = same_Some j i (sym (names.idents n j here) ∙ there) in
        if_any_on ls _ _ (e.there form (Global u n) (model.Global w i) (units, here ∙ ap Some same))
    by_ident form u n w i None none units there =
        neither new ls (macro_in ms form (Global u n)) (macro_at s.macros (model.Global w i))
        (λ h. not_within old.symbols.idents n none (e.known_idents form u n h))
        (λ h. let m = e.idents w i h in not_elsewhere old.symbols.idents new.symbols.idents names.idents apart n m.0 i none there m.1)

    by_symbol : (form n : ℕ) (x : List ℕ) (o : Option (List ℕ)) → slice_get old.symbols.symbols n ≡ o → IsSymbol new.symbols n x → IsMacroIfAny new ls (macro_in ms form (Standard n)) (macro_at s.macros (model.Standard x))
    by_symbol form n x (Some y) here there =
        let same = same_Some y x (sym (names.symbols n y here) ∙ there) in
        if_any_on ls _ _ (e.there form (Standard n) (model.Standard x) (here ∙ ap Some same))
    by_symbol form n x None none there =
        neither new ls (macro_in ms form (Standard n)) (macro_at s.macros (model.Standard x))
        (λ h. not_within old.symbols.symbols n none (e.known_symbols form n h))
        (λ h. let m = e.symbols x h in not_elsewhere old.symbols.symbols new.symbols.symbols names.symbols told n m.0 x none there m.1)

    there_on : (form : ℕ) (c : Meaning) (m : model.Meaning) → IsMeaning new.symbols s.unit form c m → IsMacroIfAny new ls (macro_in ms form c) (macro_at s.macros m)
    there_on form (Local n) m h = if_any_on ls _ _ (e.there form (Local n) m h)
    there_on form (Global u n) (model.Local v) h = absurd h
    there_on form (Global u n) (model.Global w i) h = by_ident form u n w i (slice_get old.symbols.idents n) refl h.0 h.1
    there_on form (Global u n) (model.Standard x) h = absurd h
    there_on form (Global u n) (model.Free x) h = absurd h
    there_on form (Standard n) (model.Local v) h = absurd h
    there_on form (Standard n) (model.Global w i) h = absurd h
    there_on form (Standard n) (model.Standard x) h = by_symbol form n x (slice_get old.symbols.symbols n) refl h
    there_on form (Standard n) (model.Free x) h = absurd h
    there_on form (Free n) (model.Local v) h = absurd h
    there_on form (Free n) (model.Global w i) h = absurd h
    there_on form (Free n) (model.Standard x) h = absurd h
    there_on form (Free n) (model.Free x) h = no_macro new ls (macro_at s.macros (model.Free x)) (e.free x)

    pub macros_on : MacrosStand new ms ls s
    macros_on = record {
      there = there_on;
      idents = λ u i h. let m = e.idents u i h in (m.0, names.idents m.0 i m.1);
      symbols = λ x h. let m = e.symbols x h in (m.0, names.symbols m.0 x m.1);
      free = e.free;
      known_idents = λ form u n h. longer old.symbols.idents new.symbols.idents names.idents n (e.known_idents form u n h);
      known_symbols = λ form n h. longer old.symbols.symbols new.symbols.symbols names.symbols n (e.known_symbols form n h);
    }

  -- ---- scopes

  named_on : (c : Chain) → AreNamed old.symbols c → AreNamed new.symbols c
  named_on [] h = h
  named_on (b ∷ bs) h = ((h.0.0, names.idents h.0.0 b.ident h.0.1), named_on bs h.1)

  used_named : (env : Environment) (ls : List Frames) (s : ScopedState) → EnvStands old.symbols env ls s → (k : Number) (o : Option ℕ) → map.get env.uses k ≡ o → AreNamed old.symbols (uses_in s k)
  used_named env ls s e k None none = subst (λ (fs : Frames). AreNamed old.symbols (chain_in s fs)) (sym (e.unnoted k none)) tt
  used_named env ls s e k (Some n) noted = e.named n (around s.places k) (e.noted k n noted)

  pub env_on : (env : Environment) (ls : List Frames) (s : ScopedState) → EnvStands old.symbols env ls s → EnvStands new.symbols env ls s
  env_on env ls s e = record {
    count = e.count;
    scopes = λ n fs at. chain_grows old.symbols new.symbols names apart env (Some n) (chain_in s fs) (e.named n fs at) (e.scopes n fs at);
    given = env_grows old.symbols new.symbols names apart env (given_in s) (uses_in s) e.given_named (λ k. used_named env ls s e k (map.get env.uses k) refl) e.given;
    noted = e.noted;
    unnoted = e.unnoted;
    inside = e.inside;
    entered = e.entered;
    defined = e.defined;
    named = λ n fs at. named_on (chain_in s fs) (e.named n fs at);
    given_named = λ u i m h. let n = e.given_named u i m h in (n.0, names.idents n.0 i n.1);
  }

  -- ---- the form at work

  pub target_on : (unit form : ℕ) (t : code_target.Target) (m : Target) → IsTarget old.symbols unit form t m → IsTarget new.symbols unit form t m
  target_on unit form t m h = record { meaning = meaning_grows old.symbols new.symbols names apart unit form t.meaning m.meaning h.meaning; ident = names.idents t.ident m.ident h.ident; place = h.place }

  use_on : (unit form : ℕ) (u : code_use.MacroUse) (m : MacroUse) → IsUse old.symbols unit form u m → IsUse new.symbols unit form u m
  use_on unit form u m h = record {
    keyword = target_on unit form u.keyword m.keyword h.keyword;
    literals = all_on (IsTarget old.symbols unit form) (IsTarget new.symbols unit form) (target_on unit form) u.literals.items m.literals h.literals;
  }

  form_on : (f : FormAtWork) (s : ScopedState) → FormStands old.symbols f s → FormStands new.symbols f s
  form_on f s e = record {
    number = e.number;
    locals = e.locals;
    uses = e.uses;
    nodes = e.nodes;
    few_uses = e.few_uses;
    few_nodes = e.few_nodes;
    few_locals = e.few_locals;
    definitions = all_on (IsNumbered old.symbols s.form) (IsNumbered new.symbols s.form) (λ b d h. record { form = h.form; number_is = h.number_is; ident = names.idents b.ident d.1.ident h.ident; place = h.place }) (reverse f.trace.definitions) (numbered_in s.unit s.form s.table) e.definitions;
    keywords = all_on (IsTarget old.symbols s.unit s.form) (IsTarget new.symbols s.unit s.form) (target_on s.unit s.form) f.trace.keywords _ e.keywords;
    met = all_on (IsUse old.symbols s.unit s.form) (IsUse new.symbols s.unit s.form) (use_on s.unit s.form) f.trace.uses _ e.met;
  }

  -- ---- the whole

  not_defined : (o : Option Bool) (p : Option Defined) → ((k : Bool) → o ≡ Some k → ⊥) → ((d : Defined) → p ≡ Some d → ⊥) → o ≡ option_map (λ (d : Defined). d.keyword) p
  not_defined None None f g = refl
  not_defined None (Some d) f g = absurd (g d refl)
  not_defined (Some k) p f g = absurd (f k refl)

  module _ (u : UnitScope) (ls : List Frames) (s : ScopedState) (env : EnvStands old.symbols u.env ls s) (known : (n : ℕ) (k : Bool) → get nat_cmp u.defined n ≡ Some k → n < length old.symbols.idents)
      (defined : (n : ℕ) (i : Identifier) → IsIdent old.symbols n i → get nat_cmp u.defined n ≡ option_map (λ (d : Defined). d.keyword) (defined_in s.table s.unit i)) where
    defined_by : (n : ℕ) (i : Identifier) (o : Option Identifier) → slice_get old.symbols.idents n ≡ o → IsIdent new.symbols n i → get nat_cmp u.defined n ≡ option_map (λ (d : Defined). d.keyword) (defined_in s.table s.unit i)
    defined_by n i (Some j) here there = defined n i (here ∙ ap Some (same_Some j i (sym (names.idents n j here) ∙ there)))
    defined_by n i None none there =
        not_defined (get nat_cmp u.defined n) (defined_in s.table s.unit i)
        (λ k h. not_within old.symbols.idents n none (known n k h))
        (λ d h. let m = env.given_named s.unit i (model.Global s.unit i) (ap (λ (x : Option Defined). defined_or x s.unit i (imported_in s.entry s.unit i)) h) in
        not_elsewhere old.symbols.idents new.symbols.idents names.idents apart n m.0 i none there m.1)

    defined_on : (n : ℕ) (i : Identifier) → IsIdent new.symbols n i → get nat_cmp u.defined n ≡ option_map (λ (d : Defined). d.keyword) (defined_in s.table s.unit i)
    defined_on n i there = defined_by n i (slice_get old.symbols.idents n) refl there

    known_on : (n : ℕ) (k : Bool) → get nat_cmp u.defined n ≡ Some k → n < length new.symbols.idents
    known_on n k h = longer old.symbols.idents new.symbols.idents names.idents n (known n k h)

  module _ (u : UnitScope) (ls : List Frames) (s : ScopedState) where
    pub growth_stands : Stands old u ls s → Stands new u ls s
    growth_stands e = record {
      unit = e.unit;
      program = e.program;
      env = env_on u.env ls s e.env;
      macros = macros_on u.macros ls s e.macros;
      root = e.root;
      own = e.own;
      begun = e.begun;
      form = form_on u.form s e.form;
      defined = defined_on u ls s e.env e.known e.defined;
      known = known_on u ls s e.env e.known e.defined;
      count = e.count;
    }

    -- the same between two calls
    pub growth_rests : Rests old u ls s → Rests new u ls s
    growth_rests e = record {
      unit = e.unit;
      program = e.program;
      env = env_on u.env ls s e.env;
      macros = macros_on u.macros ls s e.macros;
      root = e.root;
      own = e.own;
      begun = e.begun;
      defined = defined_on u ls s e.env e.known e.defined;
      known = known_on u ls s e.env e.known e.defined;
      count = e.count;
    }
