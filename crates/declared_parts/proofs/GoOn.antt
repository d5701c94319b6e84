-- A form's next definition is made: all that was known where it goes on is known behind it.
use Rattle.std.proofs.Common.{◌≡◌, ℕ, ◌+◌, ◌<◌, ◌≤◌, List, [], ◌∷◌, ◌++◌, length, reverse, slice_get, Bool, true, false, cond, Option, Some, None, refl, sym, ap, ◌∙◌, subst, arith}
use Rattle.std.specs.Prelude.{if◌then◌else◌, ◌&&◌, nat_eq}
use Rattle.std.proofs.Common.{eqb-true}
use Rattle.std.specs.Prelude.{is_some as is_kept}
use Rattle.std.specs.BTreeMap.{get, btree_map_len}
use Rattle.std.specs.Ordering.{nat_cmp, is_eq}
use Rattle.std.specs.Option.{option_map}
use Rattle.std.proofs.lemmas.List.{reverse-append}
use Rattle.std.proofs.lemmas.Option.{slice_get_within}
use Rattle.scheme_model.specs.Ident.{Ident}
use Rattle.scheme_model.specs.ExpansionFaults.{Named}
use Rattle.scheme_model.specs.Meaning as model
use Rattle.scheme_model.specs.RulesShape.{Rules}
use Rattle.scheme_model.specs.Order.{Transformer, is_some}
use Rattle.scheme_model.specs.Questions.{Moment, Around}
use Rattle.scheme_model.specs.Substitution.{Defined, Table, defined_in}
use Rattle.scheme_model.specs.ScopedExpansion.{Frames, ScopedState, macro_at, definition_added, is_defined}
use Rattle.syntax_tree.specs.Names.{AreToldApart}
use Rattle.syntax_tree.specs.Macros.{IsIdent}
use Rattle.syntax_tree.specs.declared.meaning.Meaning.{Meaning}
use Rattle.syntax_tree.specs.declared.meaning.Meaning.TheVariants as meanings
use Rattle.syntax_tree.specs.declared.trees.Work.{Work}
use Rattle.scope_env.specs.Environment.{Environment, bound_in, with_bound}
use Rattle.scope_env.specs.Resolved.{bound_at}
use Rattle.scope_env.proofs.Places.{length-changed_at}
use Rattle.form_notes.specs.declared.notes.Definition.{Definition}
use Rattle.unit_scopes.specs.Defining.{KeepsAny, IsPlaced}
use Rattle.unit_scopes.specs.Editions.{EditionsTell}
use Rattle.unit_scopes.specs.Macros.{macro_in, same_key}
use Rattle.unit_scopes.specs.State.{IsMacroIfAny, Stands, most_locals}
use Rattle.unit_scopes.specs.Stepped.{with_macros, with_told}
use Rattle.unit_scopes.specs.declared.asked.Asked.{Asked}
use Rattle.unit_scopes.specs.declared.macros.Macro.{Macro}
use Rattle.unit_scopes.specs.declared.macros.Macros.{Macros}
use Rattle.unit_scopes.specs.declared.scope.UnitScope.{UnitScope}
use Rattle.declared_parts.specs.Again.{Again, own_notes, CanDeclare}
use Rattle.declared_parts.specs.Going.{settled, own_spot, name_of, AreMacrosDefined, OwnSoFar, HasMacro, HasMacros, IsNext, IsNextMacro, GoesOn}
use Rattle.declared_parts.specs.Undone.{SameRest, is_it, Defines, AreDefined}
use Rattle.declared_parts.specs.declared.again.Going.{Going}
use Rattle.declared_parts.specs.declared.parts.DeclaredPart.{DeclaredPart}
use Rattle.declared_parts.specs.declared.parts.KeptMacro.{KeptMacro}
use Rattle.declared_parts.specs.declared.undoing.Made.{Made}
use Rattle.declared_parts.proofs.MadeNext.{next_settled, closed_more, editions_more, kept_of}
use Rattle.declared_parts.proofs.NumbersKept.{macros_more}
use Rattle.declared_parts.proofs.UndoneLaws.{rest_on}

no_definition : {A : Type 0} (o : Option A) → is_some o ≡ false → o ≡ None
no_definition None h = refl
no_definition (Some a) h = absurd cc

no_macro_there : (work : Work) (ls : List Frames) (o : Option Macro) (p : Option (Transformer Frames Ident)) → p ≡ None → IsMacroIfAny work ls o p → o ≡ None
no_macro_there work ls None p none h = refl
no_macro_there work ls (Some k) None none h = absurd h
no_macro_there work ls (Some k) (Some m) none h = absurd cc

not_some : {A : Type 0} (o : Option A) (p : Bool) → (is_some o ≡ true → p ≡ true) → p ≡ false → o ≡ None
not_some None p h none = refl
not_some (Some a) p h none = let never : false ≡ true = sym none ∙ h refl in absurd cc

-- what has the key of an identifier of the unit
keyed : (form u i : ℕ) (m : Meaning) → same_key form (meanings.Global u i) form m ≡ true → m ≡ meanings.Global u i
keyed form u i (meanings.Local n) h = absurd cc
keyed form u i (meanings.Global w j) h = let p = both_true (nat_eq w u) (nat_eq j i) h in λ t. meanings.Global (eqb-true w u p.0 t) (eqb-true j i p.1 t)
  where
    both_true : (a b : Bool) → (a && b) ≡ true → (a ≡ true) × (b ≡ true)
    both_true true true h = (refl, refl)
    both_true true false h = absurd cc
    both_true false b h = absurd cc
keyed form u i (meanings.Standard n) h = absurd cc
keyed form u i (meanings.Free n) h = absurd cc

-- ---- what is placed

module _ (u v : UnitScope) (d : Definition) (kept : Option Macro) (p : IsPlaced u v (own_spot u) (name_of d) kept true) where
  abbrev here : Meaning
  here = meanings.Global u.unit d.ident

  q : with_macros v u.macros ≡ record (with_told u (name_of d)) { env = with_bound u.env u.root d.ident here; defined = p.scope.0 }
  q = p.scope.1

  pub placed_rest : SameRest u v
  placed_rest = record { unit = λ j. (q j).unit; kind = λ j. (q j).kind; root = λ j. (q j).root; libraries = λ j. (q j).libraries; asked = λ j. (q j).asked }

  pub placed_env : v.env ≡ with_bound u.env u.root d.ident here
  placed_env = λ j. (q j).env

  pub placed_defined : (n : ℕ) → get nat_cmp v.defined n ≡ (if is_eq (nat_cmp d.ident n) then Some (is_kept kept) else get nat_cmp u.defined n)
  placed_defined n = (λ j. get nat_cmp (q j).defined n) ∙ p.scope.2 n

  pub placed_count : btree_map_len v.defined ≡ btree_map_len u.defined + 1
  placed_count = (λ j. btree_map_len (q j).defined) ∙ p.scope.3

  others : (k : Option Macro) → KeepsAny u.macros v.macros u.form.number here k true → (form : ℕ) (m : Meaning) → is_it u d.ident form m ≡ false → macro_in v.macros form m ≡ macro_in u.macros form m
  others None h form m apart = ap (λ (ms : Macros). macro_in ms form m) h
  others (Some k) h form m apart = h form m ∙ ap (λ (b : Bool). cond b (Some k) (macro_in u.macros form m)) (key_of form m apart)
    where
      key_of : (form : ℕ) (m : Meaning) → same_key form here form m ≡ false → same_key u.form.number here form m ≡ false
      key_of form (meanings.Local n) e = refl
      key_of form (meanings.Global w j) e = e
      key_of form (meanings.Standard n) e = refl
      key_of form (meanings.Free n) e = refl

  plain : (k : Option Macro) → KeepsAny u.macros v.macros u.form.number here k true → is_kept k ≡ false → (form : ℕ) (m : Meaning) → macro_in v.macros form m ≡ macro_in u.macros form m
  plain None h none form m = ap (λ (ms : Macros). macro_in ms form m) h
  plain (Some k) h none form m = absurd cc

  -- a definition more
  module _ (work : Work) (ls : List Frames) (s : ScopedState) (e : Stands work u ls s) (closed : AreMacrosDefined s) (x : Named Ident) (is : IsIdent work.symbols d.ident x.name) (new : is_defined s None x.name ≡ false) (keyword : d.keyword ≡ is_kept kept) where
    no_macro : (form : ℕ) (m : Meaning) → is_it u d.ident form m ≡ true → macro_in u.macros form m ≡ None
    no_macro form m key =
        let none : macro_at s.macros (model.Global s.unit x.name) ≡ None = not_some (macro_at s.macros (model.Global s.unit x.name)) (is_some (defined_in s.table s.unit x.name)) (closed x.name) new in
        ap (macro_in u.macros form) (keyed form u.unit d.ident m key)
        ∙ no_macro_there work ls (macro_in u.macros form here) (macro_at s.macros (model.Global s.unit x.name)) none (e.macros.there form here (model.Global s.unit x.name) (e.unit, is))

    pub defines : (before : Option Meaning) → before ≡ bound_at u.env u.root d.ident → Defines u v (record { ident = d.ident; before = before; keyword = d.keyword })
    defines before bound = record {
      rest = placed_rest;
      there = subst (λ (len : ℕ). u.root < len) e.env.count (slice_get_within ls u.root [] e.root);
      env = placed_env;
      before = bound;
      new = e.defined d.ident x.name is ∙ ap (option_map (λ (y : Defined). y.keyword)) (no_definition (defined_in s.table s.unit x.name) new);
      defined = λ n. placed_defined n ∙ ap (λ (b : Bool). if is_eq (nat_cmp d.ident n) then Some b else get nat_cmp u.defined n) (sym keyword);
      count = placed_count;
      none = no_macro;
      others = others kept p.macros;
      plain = λ none. plain kept p.macros (sym keyword ∙ none);
    }

-- ---- all goes on

next_macro_kept : (root : ℕ) (next : Option KeptMacro) (keyword : Bool) (kept : Option Macro) → IsNextMacro root next keyword kept → keyword ≡ is_kept kept
next_macro_kept root next false kept h = sym (ap is_kept h)
next_macro_kept root None true kept h = absurd h
next_macro_kept root (Some k) true None h = absurd h
next_macro_kept root (Some k) true (Some m) h = refl

module _ (work : Work) (apart : AreToldApart work.symbols.idents) (told : AreToldApart work.symbols.symbols) (old : UnitScope) (number : ℕ) (part : DeclaredPart) (can : CanDeclare work old number part) (u v : UnitScope) (g g2 : Going) (made : ℕ)
    (h : GoesOn work old number part can u g made) (d : Definition) (kept : Option Macro) where
  abbrev around : Around
  around = can.again.now

  pub goes_next : (next : IsNext work can.again can.editions h.moment d (slice_get part.macros g.macros)) → IsNextMacro u.root (slice_get part.macros g.macros) d.keyword kept → IsPlaced u v (own_spot u) (name_of d) kept true →
      Stands work v can.layout (definition_added None next.name next.rules [] (settled around h.moment)) → g2.own ≡ g.own → g2.asked ≡ g.asked → g2.macros ≡ (if d.keyword then g.macros + 1 else g.macros) → (before : Option Meaning) → before ≡ bound_at u.env u.root d.ident →
      g2.made.items ≡ g.made.items ++ (record { ident = d.ident; before = before; keyword = d.keyword }) ∷ [] → GoesOn work old number part can v g2 (made + 1)
  goes_next next is_macro placed stands own asked macros before bound items =
      let s = settled around h.moment in
      let same = next_settled around h.moment next.after next.name next.rules next.table next.macros in
      let rest = placed_rest u v d kept placed in
      let env = placed_env u v d kept placed in
      let k = kept_of work can.layout u.root can.editions d.keyword (slice_get part.macros g.macros) next.rules kept h.stands.root next.keyword next.macro is_macro in
      let tells = editions_more work.symbols apart told u.macros v.macros s u.form.number (meanings.Global u.unit d.ident) next.name tt (h.stands.unit, next.is.0) can.editions h.tells kept next.rules placed.macros k.1 in
      let one : Made = record { ident = d.ident; before = before; keyword = d.keyword } in
      let x = defines u v d kept placed work can.layout s h.stands h.closed next.name next.is.0 next.new (next_macro_kept u.root (slice_get part.macros g.macros) d.keyword kept is_macro) before bound in
      let more = ap (λ (t : Table). length t) next.table in
      let count = h.count in
      record {
        moment = next.after;
        before = next.before;
        count = omega (arith, more, count);
        stands = subst (Stands work v can.layout) same stands;
        closed = subst AreMacrosDefined same (closed_more s next.name next.rules h.closed);
        tells = subst (λ (t : ScopedState). EditionsTell work.symbols v.macros t can.editions) same tells;
        rest = rest_on old u v h.rest rest;
        flat = h.flat;
        roots = ap (λ (e : Environment). e.roots) env ∙ h.roots;
        scopes = ap (λ (e : Environment). length e.scopes) env ∙ (length-changed_at (bound_in d.ident (meanings.Global u.unit d.ident)) u.env.scopes u.root ∙ h.scopes);
        own = subst (λ (n : ℕ). OwnSoFar work can.layout (own_notes can.again) g2.own n) (sym asked) (subst (λ (a : Asked). OwnSoFar work can.layout (own_notes can.again) a g.asked) (sym own) h.own);
        back = subst (AreDefined old v) (sym (ap reverse items ∙ reverse-append g.made.items (one ∷ []))) (u, h.back, x);
        given = subst (HasMacros v part.macros) (sym macros) (macros_more u v one x part.macros g.macros u.root kept placed.macros h.given next.named d.keyword refl is_macro);
      }

-- ---- where it can be made

pub next_there : (work : Work) (ks : List KeptMacro) (n : ℕ) (d : Definition) (x : Again) (editions : ℕ → Option (Transformer Frames Ident)) (m : Moment) → IsNext work x editions m d (slice_get ks n) → d.keyword ≡ true → n < length ks
next_there work ks n d x editions m next keyword = by (slice_get ks n) refl d.keyword next.rules keyword next.macro
  where
    by : (o : Option KeptMacro) → slice_get ks n ≡ o → (b : Bool) (r : Option (Rules Ident)) → b ≡ true → HasMacro work editions o b r → n < length ks
    by o at false r is h = absurd cc
    by None at true None is h = absurd h
    by None at true (Some r) is h = absurd h
    by (Some k) at true None is h = absurd h
    by (Some k) at true (Some r) is h = slice_get_within ks n k at

pub few_there : (work : Work) (old : UnitScope) (number : ℕ) (part : DeclaredPart) (can : CanDeclare work old number part) (u : UnitScope) (g : Going) (made : ℕ) → GoesOn work old number part can u g made → u.form.budget.locals + 1 ≤ most_locals u.form.budget.nodes
few_there work old number part can u g made h =
    let none : u.form.budget.locals ≡ 0 = h.stands.form.locals ∙ can.comes.new.locals in
    let nodes : u.form.budget.nodes ≡ 0 = h.stands.form.nodes ∙ can.comes.new.nodes in
    subst (λ (l : ℕ). l + 1 ≤ most_locals u.form.budget.nodes) (sym none) (subst (λ (n : ℕ). 0 + 1 ≤ most_locals n) (sym nodes) (omega arith))
