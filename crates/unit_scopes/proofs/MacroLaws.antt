-- One macro more.
use Rattle.std.proofs.Common.{◌≡◌, ℕ, Bool, Some, None, refl, ap, ◌∙◌, sym}
use Rattle.std.specs.Prelude.{if◌then◌else◌}
use Rattle.std.specs.BTreeMap.{BTreeMap, get}
use Rattle.std.specs.Ordering.{is_eq}
use Rattle.rules_match.specs.Found.{pair_cmp}
use Rattle.rules_match.proofs.KnownLaws.{key_is}
use Rattle.syntax_tree.specs.declared.meaning.Meaning.{Meaning}
use Rattle.syntax_tree.specs.declared.meaning.Meaning.TheVariants.{Local, Global, Standard, Free}
use Rattle.unit_scopes.specs.Macros.{macro_in, same_key}
use Rattle.unit_scopes.specs.declared.macros.Macro.{Macro}
use Rattle.unit_scopes.specs.declared.macros.Macros.{Macros}
use Rattle.unit_scopes.specs.declared.unit_macros.UnitMacros.{UnitMacros}

module _ (old : Macros) (form : ℕ) (k : Macro) (last : ℕ) (meaning : Meaning) where
  pub kept_local : (new : BTreeMap (ℕ × ℕ) Macro) (n : ℕ) → meaning ≡ Local n → ((q : ℕ × ℕ) → get pair_cmp new q ≡ (if is_eq (pair_cmp (form, n) q) then Some k else get pair_cmp old.locals q)) →
      (f : ℕ) (m : Meaning) → macro_in (record old { locals = new; editions = last }) f m ≡ (if same_key form meaning f m then Some k else macro_in old f m)
  kept_local new n is h f m = by m ∙ ap (λ (x : Meaning). if same_key form x f m then Some k else macro_in old f m) (sym is)
    where
      by : (m : Meaning) → macro_in (record old { locals = new; editions = last }) f m ≡ (if same_key form (Local n) f m then Some k else macro_in old f m)
      by (Local j) = h (f, j) ∙ ap (λ (b : Bool). if b then Some k else get pair_cmp old.locals (f, j)) (key_is form n f j)
      by (Global u i) = refl
      by (Standard s) = refl
      by (Free s) = refl

  pub kept_global : (new : UnitMacros) (u i : ℕ) → meaning ≡ Global u i → ((q : ℕ × ℕ) → get pair_cmp new.all q ≡ (if is_eq (pair_cmp (u, i) q) then Some k else get pair_cmp old.globals.all q)) →
      (f : ℕ) (m : Meaning) → macro_in (record old { globals = new; editions = last }) f m ≡ (if same_key form meaning f m then Some k else macro_in old f m)
  kept_global new u i is h f m = by m ∙ ap (λ (x : Meaning). if same_key form x f m then Some k else macro_in old f m) (sym is)
    where
      by : (m : Meaning) → macro_in (record old { globals = new; editions = last }) f m ≡ (if same_key form (Global u i) f m then Some k else macro_in old f m)
      by (Local j) = refl
      by (Global v j) = h (v, j) ∙ ap (λ (b : Bool). if b then Some k else get pair_cmp old.globals.all (v, j)) (key_is u i v j)
      by (Standard s) = refl
      by (Free s) = refl

-- one macro less
pub gone_global : (old : Macros) (new : UnitMacros) (u i : ℕ) → ((q : ℕ × ℕ) → get pair_cmp new.all q ≡ (if is_eq (pair_cmp (u, i) q) then None else get pair_cmp old.globals.all q)) → (f : ℕ) (m : Meaning) →
    macro_in (record old { globals = new }) f m ≡ (if same_key f (Global u i) f m then None else macro_in old f m)
gone_global old new u i h f (Local j) = refl
gone_global old new u i h f (Global v j) = h (v, j) ∙ ap (λ (b : Bool). if b then None else get pair_cmp old.globals.all (v, j)) (key_is u i v j)
gone_global old new u i h f (Standard s) = refl
gone_global old new u i h f (Free s) = refl

-- the editions that were given are all one
pub given_same : (old : Macros) (last f : ℕ) (m : Meaning) → macro_in (record old { editions = last }) f m ≡ macro_in old f m
given_same old last f (Local n) = refl
given_same old last f (Global u i) = refl
given_same old last f (Standard s) = refl
given_same old last f (Free s) = refl
