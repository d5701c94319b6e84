-- What is told of the meaning at a point, and whether an occurrence is one of some.
use Rattle.std.proofs.Common.{◌≡◌, ℕ, ◌+◌, ◌<◌, List, drop, length, get_or, Bool, true, false, Option, refl, sym, ap, ◌∙◌, subst}
use Rattle.std.specs.Prelude.{◌||◌}
use Rattle.std.proofs.lemmas.List.{at_drop_more}
use Rattle.scheme_model.specs.declared.Occ.{Occ}
use Rattle.scheme_model.specs.Entries.{same_occ}
use Rattle.scheme_model.specs.Meaning.{Meaning}
use Rattle.scheme_model.specs.Spelling.{is_member}
use Rattle.rename_model.specs.Difference as model
use Rattle.syntax_tree.specs.Names.{Names}
use Rattle.syntax_tree.specs.Meant.{IsSymbol, IsMeaning}
use Rattle.syntax_tree.specs.declared.meaning.Meaning.TheVariants as code
use Rattle.alpha_equal.proofs.MeaningLaws.{global_is, standard_is, free_is}

module _ (names : Names) (unit form : ℕ) (binder : Meaning → Option Occ) where
  pub local_told : (n : ℕ) (m : Meaning) → IsMeaning names unit form (code.Local n) m → model.meaning_side binder m ≡ model.binder_side (binder m)
  local_told n m h = subst (λ (x : Meaning). model.meaning_side binder x ≡ model.binder_side (binder x)) (sym h) refl

  pub global_told : (u n : ℕ) (m : Meaning) → IsMeaning names unit form (code.Global u n) m → model.meaning_side binder m ≡ model.binder_side (binder m)
  global_told u n m h = let g = global_is names unit form u n m h in subst (λ (x : Meaning). model.meaning_side binder x ≡ model.binder_side (binder x)) (sym g.1) refl

  pub standard_told : (n : ℕ) (m : Meaning) → IsMeaning names unit form (code.Standard n) m → (s : List ℕ) × IsSymbol names n s × (model.meaning_side binder m ≡ model.OfStandard s)
  standard_told n m h = let g = standard_is names unit form n m h in (g.0, g.2, ap (model.meaning_side binder) g.1)

  pub free_told : (n : ℕ) (m : Meaning) → IsMeaning names unit form (code.Free n) m → (s : List ℕ) × IsSymbol names n s × (model.meaning_side binder m ≡ model.OfUnbound s)
  free_told n m h = let g = free_is names unit form n m h in (g.0, g.2, ap (model.meaning_side binder) g.1)

-- ---- occurrences

pub member_here : (os : List Occ) (k : ℕ) (d o : Occ) → k < length os → same_occ (get_or os k d) o ≡ true → is_member (drop k os) o ≡ true
member_here os k d o lt e = at_drop_more (λ (xs : List Occ). is_member xs o) os k d lt ∙ ap (λ (b : Bool). b || is_member (drop (k + 1) os) o) e

pub member_past : (os : List Occ) (k : ℕ) (d o : Occ) → k < length os → same_occ (get_or os k d) o ≡ false → is_member (drop (k + 1) os) o ≡ is_member (drop k os) o
member_past os k d o lt e = sym (at_drop_more (λ (xs : List Occ). is_member xs o) os k d lt ∙ ap (λ (b : Bool). b || is_member (drop (k + 1) os) o) e)
