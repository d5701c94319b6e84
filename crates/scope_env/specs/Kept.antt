-- How scopes are kept, and environments as numbers, by which proofs tell them apart.
use Rattle.std.specs.Prelude.{◌≡◌, ◌⊎◌, ℕ, List, map, Option, refl}
use Rattle.std.proofs.Common.{inl, inr}
use Rattle.std.specs.Coded.{Coded, code_by, coded×, coded⊎, coded_ℕ, coded_list, coded_option}
use Rattle.std.specs.Ordering.{nat_cmp}
use Rattle.std.specs.FinMap.{FinMap, from_entries}
use Rattle.std.specs.FinMap as map_of
use Rattle.scheme_model.specs.Identifiers.{Number}
use Rattle.syntax_tree.specs.Numbered.{number_of}
use Rattle.syntax_tree.specs.declared.meaning.Meaning.{Meaning}
use Rattle.syntax_tree.specs.declared.meaning.Meaning.TheVariants.{Local, Global, Standard, Free}
use Rattle.syntax_tree.specs.declared.symbols.UseNo.{UseNo}
use Rattle.scope_env.specs.declared.env.Scope as kept
use Rattle.scope_env.specs.Environment.{Environment, Scope, Bindings, number_cmp}

-- ---- what the fields stand for

abbrev pub scope_of : kept.Scope → Scope
scope_of s = record { parent = s.parent; bound = from_entries s.bound.entries }

abbrev pub uses_of : List (UseNo × ℕ) → FinMap number_cmp ℕ
uses_of entries = from_entries (map (λ e. (number_of e.0, e.1)) entries)

abbrev pub environment_of : List kept.Scope → List (UseNo × ℕ) → List (ℕ × ℕ) → Environment
environment_of scopes uses roots = record { scopes = map scope_of scopes; uses = uses_of uses; roots = from_entries roots }

-- ---- codes

abbrev Kinds : Type 0
Kinds = ℕ ⊎ ((ℕ × ℕ) ⊎ (ℕ ⊎ ℕ))

abbrev kind_of : Meaning → Kinds
kind_of (Local n) = inl n
kind_of (Global u i) = inr (inl (u, i))
kind_of (Standard s) = inr (inr (inl s))
kind_of (Free s) = inr (inr (inr s))

abbrev meaning_of : Kinds → Meaning
meaning_of (inl n) = Local n
meaning_of (inr (inl p)) = Global p.0 p.1
meaning_of (inr (inr (inl s))) = Standard s
meaning_of (inr (inr (inr s))) = Free s

pub meaning_back : (m : Meaning) → meaning_of (kind_of m) ≡ m
meaning_back (Local n) = refl
meaning_back (Global u i) = refl
meaning_back (Standard s) = refl
meaning_back (Free s) = refl

abbrev meaning_code : Coded Meaning
meaning_code = code_by Kinds (coded⊎ coded_ℕ (coded⊎ (coded× coded_ℕ coded_ℕ) (coded⊎ coded_ℕ coded_ℕ))) kind_of meaning_of meaning_back

abbrev number_code : Coded Number
number_code =
    code_by (ℕ × (ℕ × ℕ)) (coded× coded_ℕ (coded× coded_ℕ coded_ℕ)) (λ k. (k.unit, (k.form, k.count))) (λ p. record { unit = p.0; form = p.1.0; count = p.1.1 }) (λ _. refl)

abbrev scope_code : Coded Scope
scope_code =
    code_by (Option ℕ × Bindings) (coded× (coded_option coded_ℕ) (map_of.code coded_ℕ meaning_code)) (λ s. (s.parent, s.bound)) (λ p. record { parent = p.0; bound = p.1 }) (λ _. refl)

abbrev pub environment_code : Coded Environment
environment_code =
    code_by (List Scope × (FinMap number_cmp ℕ × FinMap nat_cmp ℕ)) (coded× (coded_list scope_code) (coded× (map_of.code number_code coded_ℕ) (map_of.code coded_ℕ coded_ℕ))) (λ e. (e.scopes, (e.uses, e.roots)))
    (λ p. record { scopes = p.0; uses = p.1.0; roots = p.1.1 }) (λ _. refl)
