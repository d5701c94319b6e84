-- Definitions that are made again leave the editions of macros that stood, and give those of the form their own.
use Rattle.std.proofs.Common.{◌≡◌, ℕ, ◌+◌, ◌<◌, ◌≤◌, List, [], ◌∷◌, length, get_or, drop, slice_get, Bool, true, false, Option, Some, None, refl, sym, ap, ◌∙◌, subst, inl, inr, arith, eqb-true, eq-eqb, length-drop}
use Rattle.std.specs.Prelude.{nat_eq, is_some, ◌&&◌, if◌then◌else◌}
use Rattle.std.specs.BTreeMap.{get}
use Rattle.std.specs.List.{Contains}
use Rattle.std.specs.Ordering.{nat_cmp, is_eq}
use Rattle.std.proofs.lemmas.Bool.{cases_lt}
use Rattle.std.proofs.lemmas.Option.{same_Some, slice_get-get_or}
use Rattle.syntax_tree.specs.declared.meaning.Meaning.{Meaning}
use Rattle.syntax_tree.specs.declared.meaning.Meaning.TheVariants as meanings
use Rattle.unit_scopes.specs.Defining.{KeepsAny}
use Rattle.unit_scopes.specs.Macros.{macro_in, edition_of, edition_in, same_key}
use Rattle.unit_scopes.specs.Outcomes.{IsSettled, KeepsNumbers}
use Rattle.unit_scopes.specs.declared.macros.Macro.{Macro}
use Rattle.unit_scopes.specs.declared.scope.UnitScope.{UnitScope}
use Rattle.unit_scopes.proofs.OutcomeLaws.{numbers_on}
use Rattle.declared_parts.specs.Again.{HasEditions}
use Rattle.declared_parts.specs.Going.{HasMacros, IsMacroIn, IsNextMacro}
use Rattle.declared_parts.specs.Undone.{SameRest, IsBack, is_it, Defines, AreDefined}
use Rattle.declared_parts.specs.declared.parts.DeclaredPart.{DeclaredPart}
use Rattle.declared_parts.specs.declared.parts.KeptMacro.{KeptMacro}
use Rattle.declared_parts.specs.declared.undoing.Made.{Made}
use Rattle.declared_parts.proofs.UndoneLaws.{rest_on}

-- ---- what stood keeps its edition

pub back_numbers : (u v : UnitScope) → IsBack u v → KeepsNumbers u v
back_numbers u v h = record { defined = λ i there. ap is_some (h.defined i) ∙ there; numbers = λ form c settled. ap edition_of (h.macros form c) }

some_more : (b k : Bool) (o : Option Bool) → is_some o ≡ true → is_some (if b then Some k else o) ≡ true
some_more true k o there = refl
some_more false k o there = there

no_true : {P : Type 0} → true ≡ false → P
no_true h = absurd cc

module _ (u v : UnitScope) (x : Made) (h : Defines u v x) where
  -- what stood isn't what is defined
  apart : (form : ℕ) (c : Meaning) → IsSettled u c → is_it u x.ident form c ≡ false
  apart form (meanings.Local n) settled = refl
  apart form (meanings.Standard s) settled = refl
  apart form (meanings.Free s) settled = refl
  apart form (meanings.Global w i) settled = by (nat_eq w u.unit) (nat_eq i x.ident) refl refl
    where
      by : (p q : Bool) → nat_eq w u.unit ≡ p → nat_eq i x.ident ≡ q → (nat_eq w u.unit && nat_eq i x.ident) ≡ false
      by true true same_unit same = no_true (sym (settled (eqb-true w u.unit same_unit)) ∙ (ap (λ (n : ℕ). is_some (get nat_cmp u.defined n)) (eqb-true i x.ident same) ∙ ap is_some h.new))
      by true false same_unit other = λ j. same_unit j && other j
      by false q other same = ap (λ (r : Bool). r && nat_eq i x.ident) other

  one_numbers : KeepsNumbers u v
  one_numbers = record {
    defined = λ i there. ap is_some (h.defined i) ∙ some_more (is_eq (nat_cmp x.ident i)) x.keyword (get nat_cmp u.defined i) there;
    numbers = λ form c settled. ap edition_of (h.others form c (apart form c settled));
  }

  -- ---- the form's macros that are made go on

  pub macros_go_on : (ks : List KeptMacro) (n : ℕ) → HasMacros u ks n → HasMacros v ks n
  macros_go_on ks n has i k form lt at =
      let m = has i k form lt at in
      (m.0, ap (λ (w : ℕ). macro_in v.macros form (meanings.Global w k.ident)) h.rest.unit ∙ (by k form m.0 m.1 (is_it u x.ident form (meanings.Global u.unit k.ident)) refl ∙ m.1), m.2)
    where
      none_some : {P : Type 0} (o : Option Macro) (m : Macro) → o ≡ None → o ≡ Some m → P
      none_some o m none some = absurd cc

      by : (k : KeptMacro) (form : ℕ) (m : Macro) → macro_in u.macros form (meanings.Global u.unit k.ident) ≡ Some m → (b : Bool) → is_it u x.ident form (meanings.Global u.unit k.ident) ≡ b →
          macro_in v.macros form (meanings.Global u.unit k.ident) ≡ macro_in u.macros form (meanings.Global u.unit k.ident)
      by k form m there true key = none_some (macro_in u.macros form (meanings.Global u.unit k.ident)) m (h.none form (meanings.Global u.unit k.ident) key) there
      by k form m there false key = h.others form (meanings.Global u.unit k.ident) key

defined_rest : (u v : UnitScope) (xs : List Made) → AreDefined u v xs → SameRest u v
defined_rest u v [] h = h.rest
defined_rest u v (x ∷ xs) h = rest_on u h.0 v (defined_rest u h.0 xs h.1) h.2.rest

pub defined_numbers : (u v : UnitScope) (xs : List Made) → AreDefined u v xs → KeepsNumbers u v
defined_numbers u v [] h = back_numbers u v h
defined_numbers u v (x ∷ xs) h = numbers_on u h.0 v (defined_rest u h.0 xs h.1).unit (defined_numbers u h.0 xs h.1) (one_numbers h.0 v x h.2)

-- ---- the next of them is made

-- what is kept is there
kept_there : (u v : UnitScope) (ident : ℕ) (m : Macro) (form : ℕ) → KeepsAny u.macros v.macros u.form.number (meanings.Global u.unit ident) (Some m) true → macro_in v.macros form (meanings.Global u.unit ident) ≡ Some m
kept_there u v ident m form keeps = keeps form (meanings.Global u.unit ident) ∙ ap (λ (b : Bool). if b then Some m else macro_in u.macros form (meanings.Global u.unit ident)) (λ j. eq-eqb u.unit u.unit refl j && eq-eqb ident ident refl j)

module _ (u v : UnitScope) (x : Made) (h : Defines u v x) (ks : List KeptMacro) (n root : ℕ) (kept : Option Macro) (keeps : KeepsAny u.macros v.macros u.form.number (meanings.Global u.unit x.ident) kept true) (has : HasMacros u ks n)
    (named : (k : KeptMacro) → slice_get ks n ≡ Some k → x.keyword ≡ true → k.ident ≡ x.ident) where
  here : (k : KeptMacro) (form : ℕ) → slice_get ks n ≡ Some k → x.keyword ≡ true → (o : Option Macro) → kept ≡ o → IsNextMacro root (Some k) true o → (m : Macro) × (macro_in v.macros form (meanings.Global v.unit k.ident) ≡ Some m) × (m.edition ≡ k.edition)
  here k form at keyword None is next = absurd next
  here k form at keyword (Some m) is next =
      let there = kept_there u v x.ident m form (subst (λ (o : Option Macro). KeepsAny u.macros v.macros u.form.number (meanings.Global u.unit x.ident) o true) is keeps) in
      (m, (λ j. macro_in v.macros form (meanings.Global (h.rest.unit j) (named k at keyword j))) ∙ there, next.edition)

  one_more : x.keyword ≡ true → IsNextMacro root (slice_get ks n) true kept → HasMacros v ks (n + 1)
  one_more keyword next i k form lt at =
      elim (cases_lt i n) [
        | inl before ↦ macros_go_on u v x h ks n has i k form before at
        | inr last ↦
            let same : i ≡ n = omega (arith, lt, last) in
            let there = subst (λ (j : ℕ). slice_get ks j ≡ Some k) same at in
            here k form there keyword kept refl (subst (λ (o : Option KeptMacro). IsNextMacro root o true kept) there next)
      ]

  pub macros_more : (b : Bool) → x.keyword ≡ b → IsNextMacro root (slice_get ks n) b kept → HasMacros v ks (if b then n + 1 else n)
  macros_more true keyword next = one_more keyword next
  macros_more false keyword next = macros_go_on u v x h ks n has

-- ---- all of them are

drop_none : {X : Type 0} (xs : List X) (n : ℕ) → drop n xs ≡ [] → length xs ≤ n
drop_none xs n none = let long = length-drop n xs in let empty = ap length none in omega (arith, long, empty)

pub all_editions : (part : DeclaredPart) (u : UnitScope) (n : ℕ) → HasMacros u part.macros n → drop n part.macros ≡ [] → HasEditions part u
all_editions part u n has none k form there =
    let few = drop_none part.macros n none in
    let lt : there.0 < n = omega (arith, there.1, few) in
    let m = has there.0 k form lt (slice_get-get_or part.macros there.0 k there.1 ∙ ap Some there.2) in
    ap edition_of m.1 ∙ m.2
