-- What the head of a form is, by what the code was told.
use Rattle.std.proofs.Common.{◌≡◌, ℕ, List, Bool, slice_get, Option, Some, None, refl, sym, ap, ◌∙◌, subst}
use Rattle.std.specs.Option.{option_map}
use Rattle.std.proofs.lemmas.Option.{same_Some}
use Rattle.scheme_model.specs.Meaning.{Meaning, Local, Global, Standard, Free, other_standard, standard_head, head_as}
use Rattle.scheme_model.specs.Keywords.{CoreKeyword, core_named, Auxiliary, auxiliary_named}
use Rattle.syntax_tree.specs.Names.{Names}
use Rattle.syntax_tree.specs.Meant.{IsMeaning}
use Rattle.syntax_tree.specs.declared.meaning.Meaning.TheVariants as meanings
use Rattle.syntax_tree.proofs.Places.{none_some}
use Rattle.core_forms.specs.Ends.{keyword_as}
use Rattle.core_forms.specs.declared.shape.CoreKeyword as code_keyword
use Rattle.form_parts.specs.Heads.{auxiliary_as, IsHead}
use Rattle.form_parts.specs.declared.heads.Auxiliary as code_auxiliary
use Rattle.form_parts.specs.declared.heads.Head.TheVariants as heads

module _ (names : Names) (unit form : ℕ) (is_macro : Meaning → Bool) where
  -- the meaning is that of the standard name
  standard_is : (n : ℕ) (x : List ℕ) (m : Meaning) → slice_get names.symbols n ≡ Some x → IsMeaning names unit form (meanings.Standard n) m → m ≡ Standard x
  standard_is n x (Local v) spelt h = absurd h
  standard_is n x (Global u i) spelt h = absurd h
  standard_is n x (Standard y) spelt h = ap Standard (same_Some y x (sym h ∙ spelt))
  standard_is n x (Free y) spelt h = absurd h

  core_by : (k : code_keyword.CoreKeyword) (o : Option CoreKeyword) (a : Option Auxiliary) (m : Meaning) → option_map keyword_as (Some k) ≡ option_map Some o → IsHead (heads.Core k) (standard_head o a (is_macro m) m)
  core_by k None a m h = none_some (keyword_as k) (sym h)
  core_by k (Some c) a m h = same_Some (keyword_as k) (Some c) h

  -- the keyword of a core form
  pub core_head : (k : code_keyword.CoreKeyword) (n : ℕ) (x : List ℕ) (m : Meaning) → slice_get names.symbols n ≡ Some x → option_map keyword_as (Some k) ≡ option_map Some (core_named x) → IsMeaning names unit form (meanings.Standard n) m →
      IsHead (heads.Core k) (head_as is_macro m)
  core_head k n x m spelt named h =
      subst (λ (e : Meaning). IsHead (heads.Core k) (head_as is_macro e)) (sym (standard_is n x m spelt h)) (core_by k (core_named x) (auxiliary_named x) (Standard x) named)

  no_core : (o : Option CoreKeyword) → option_map (λ (c : CoreKeyword). Some c) o ≡ None → o ≡ None
  no_core None h = refl
  no_core (Some c) h = none_some (Some c) (sym h)

  auxiliary_by : (x : code_auxiliary.Auxiliary) (a : Option Auxiliary) (m : Meaning) → Some (auxiliary_as x) ≡ a → IsHead (heads.Auxiliary x) (other_standard a (is_macro m) m)
  auxiliary_by x None m h = none_some (auxiliary_as x) (sym h)
  auxiliary_by x (Some a) m h = same_Some (auxiliary_as x) a h

  -- an auxiliary keyword
  pub auxiliary_head : (k : code_auxiliary.Auxiliary) (n : ℕ) (x : List ℕ) (m : Meaning) → slice_get names.symbols n ≡ Some x → None ≡ option_map (λ (c : CoreKeyword). Some c) (core_named x) → Some (auxiliary_as k) ≡ auxiliary_named x → IsMeaning names unit form (meanings.Standard n) m →
      IsHead (heads.Auxiliary k) (head_as is_macro m)
  auxiliary_head k n x m spelt not_core named h =
      subst (λ (e : Meaning). IsHead (heads.Auxiliary k) (head_as is_macro e)) (sym (standard_is n x m spelt h))
      (subst (λ (o : Option CoreKeyword). IsHead (heads.Auxiliary k) (standard_head o (auxiliary_named x) (is_macro (Standard x)) (Standard x))) (sym (no_core (core_named x) (sym not_core)))
      (auxiliary_by k (auxiliary_named x) (Standard x) named))
