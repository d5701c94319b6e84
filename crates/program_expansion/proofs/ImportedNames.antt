-- What a unit imports, by the entries that it is given.
use Rattle.std.proofs.Common.{◌≡◌, ℕ, zero, suc, ◌+◌, ◌<◌, List, [], ◌∷◌, ◌++◌, length, take, get_or, slice_get, Bool, true, false, cond, Option, Some, None, refl, sym, ap, ◌∙◌, subst}
use Rattle.std.specs.Prelude.{◌||◌, if◌then◌else◌}
use Rattle.std.specs.Str.{bytes_eq}
use Rattle.std.proofs.lemmas.List.{take_more}
use Rattle.std.proofs.lemmas.Option.{slice_get_within, same_Some}
use Rattle.scheme_model.specs.Meaning.{Meaning}
use Rattle.scheme_model.specs.Entries as model
use Rattle.syntax_tree.specs.Names.{Names, KeepsNames}
use Rattle.syntax_tree.specs.Meant.{IsSymbol, IsGivenMeaning, AreEntries}
use Rattle.syntax_tree.specs.declared.meaning.Meaning as code_meaning
use Rattle.syntax_tree.specs.declared.units.Entry.{Entry}
use Rattle.syntax_tree.proofs.InternLaws.{bytes_told, bytes_itself}
use Rattle.syntax_tree.proofs.Places.{none_some}
use Rattle.core_tree.specs.Names.{AllMatch}
use Rattle.import_sets.specs.Given.{has_name}
use Rattle.unit_scopes.specs.Opened.{AreNumbered, ImportsFor}
use Rattle.unit_scopes.specs.declared.scope.Imported.{Imported}
use Rattle.standard_scopes.specs.Begun.{IsImport}
use Rattle.unit_imports.specs.EntriesMeant.{EachOnce}
use Rattle.core_tree.proofs.Matched.{matched_at, all_append}

-- what a name means among entries
abbrev pub meaning_in : List model.Entry → List ℕ → Option Meaning
meaning_in [] s = None
meaning_in (d ∷ ds) s = if bytes_eq d.name s then Some d.meaning else meaning_in ds s

pub are_numbered : (names : Names) (xs : List Imported) (es : List Entry) → AllMatch (IsImport names) xs es → AreNumbered names xs
are_numbered names xs es all n x at = let m = matched_at (IsImport names) xs es n x all at in slice_get_within names.symbols x.symbol m.0.name m.2.symbol

or_true : (a b : Bool) → b ≡ true → (a || b) ≡ true
or_true true b h = refl
or_true false b h = h

has_at : (names : Names) (xs : List Imported) (es : List Entry) (n : ℕ) (x : Imported) (s : List ℕ) → AllMatch (IsImport names) xs es → slice_get xs n ≡ Some x → IsSymbol names x.symbol s → has_name es s ≡ true
has_at names [] es n x s all at is = none_some x at
has_at names (y ∷ xs) [] n x s all at is = absurd all
has_at names (y ∷ xs) (e ∷ es) zero x s all at is =
    let same : e.name ≡ s = same_Some e.name s (sym all.0.symbol ∙ (ap (λ (z : Imported). slice_get names.symbols z.symbol) (same_Some y x at) ∙ is)) in
    ap (λ b. b || has_name es s) (ap (λ u. bytes_eq u s) same ∙ bytes_itself s)
has_at names (y ∷ xs) (e ∷ es) (suc n) x s all at is = or_true (bytes_eq e.name s) (has_name es s) (has_at names xs es n x s all.1 at is)

module _ (names : Names) where
  given_at : (xs : List Imported) (es : List Entry) (ds : List model.Entry) → AllMatch (IsImport names) xs es → AreEntries names es ds → EachOnce es →
      (n : ℕ) (x : Imported) (s : List ℕ) → slice_get xs n ≡ Some x → IsSymbol names x.symbol s → (m : Meaning) × (meaning_in ds s ≡ Some m) × IsGivenMeaning names x.meaning m
  given_at [] es ds all are once n x s at is = none_some x at
  given_at (y ∷ xs) [] ds all are once n x s at is = absurd all
  given_at (y ∷ xs) (e ∷ es) [] all are once n x s at is = absurd are
  given_at (y ∷ xs) (e ∷ es) (d ∷ ds) all are once zero x s at is =
      let here : y ≡ x = same_Some y x at in
      let same : d.name ≡ s = sym are.0.name ∙ same_Some e.name s (sym all.0.symbol ∙ (ap (λ (z : Imported). slice_get names.symbols z.symbol) here ∙ is)) in (
        d.meaning,
        ap (λ (b : Bool). cond b (Some d.meaning) (meaning_in ds s)) (ap (λ u. bytes_eq u s) same ∙ bytes_itself s),
        subst (λ (c : code_meaning.Meaning). IsGivenMeaning names c d.meaning) (sym all.0.meaning ∙ ap (λ (z : Imported). z.meaning) here) are.0.meaning,
      )
  given_at (y ∷ xs) (e ∷ es) (d ∷ ds) all are once (suc n) x s at is = later (given_at xs es ds all.1 are.1 once.1 n x s at is) (bytes_eq d.name s) refl
    where
      clash : {P : Type 0} → true ≡ false → P
      clash h = absurd cc

      later : ((m : Meaning) × (meaning_in ds s ≡ Some m) × IsGivenMeaning names x.meaning m) → (b : Bool) → bytes_eq d.name s ≡ b → (m : Meaning) × (cond b (Some d.meaning) (meaning_in ds s) ≡ Some m) × IsGivenMeaning names x.meaning m
      later rest true told =
          clash (sym (has_at names xs es n x s all.1 at is) ∙ (ap (has_name es) (sym (bytes_told d.name s told) ∙ sym are.0.name) ∙ once.0))
      later rest false told = rest

  only_at : (xs : List Imported) (es : List Entry) (ds : List model.Entry) → AllMatch (IsImport names) xs es → AreEntries names es ds → (s : List ℕ) (m : Meaning) → meaning_in ds s ≡ Some m →
      (n : ℕ) × ((x : Imported) × (slice_get xs n ≡ Some x) × IsSymbol names x.symbol s)
  only_at xs es [] all are s m h = none_some m h
  only_at xs [] (d ∷ ds) all are s m h = absurd are
  only_at [] (e ∷ es) (d ∷ ds) all are s m h = absurd all
  only_at (y ∷ xs) (e ∷ es) (d ∷ ds) all are s m h = here (λ k. only_at xs es ds all.1 are.1 s m k) (bytes_eq d.name s) refl h
    where
      here : (meaning_in ds s ≡ Some m → (n : ℕ) × ((x : Imported) × (slice_get xs n ≡ Some x) × IsSymbol names x.symbol s)) → (b : Bool) → bytes_eq d.name s ≡ b → cond b (Some d.meaning) (meaning_in ds s) ≡ Some m → (n : ℕ) × ((x : Imported) × (slice_get (y ∷ xs) n ≡ Some x) × IsSymbol names x.symbol s)
      here rest true told h = (0, (y, refl, all.0.symbol ∙ ap Some (are.0.name ∙ bytes_told d.name s told)))
      here rest false told h = let r = rest h in (suc r.0, r.1)

  pub imports_for : (xs : List Imported) (es : List Entry) (ds : List model.Entry) → AllMatch (IsImport names) xs es → AreEntries names es ds → EachOnce es → ImportsFor names xs (meaning_in ds)
  imports_for xs es ds all are once = record { given = given_at xs es ds all are once; only = only_at xs es ds all are }

-- ---- one entry more

import_kept : (old new : Names) → KeepsNames old new → (x : Imported) (e : Entry) → IsImport old x e → IsImport new x e
import_kept old new keeps x e is = record { symbol = keeps.symbols x.symbol e.name is.symbol; meaning = is.meaning }

imports_kept : (old new : Names) → KeepsNames old new → (xs : List Imported) (es : List Entry) → AllMatch (IsImport old) xs es → AllMatch (IsImport new) xs es
imports_kept old new keeps [] [] all = tt
imports_kept old new keeps [] (e ∷ es) all = absurd all
imports_kept old new keeps (x ∷ xs) [] all = absurd all
imports_kept old new keeps (x ∷ xs) (e ∷ es) all = (import_kept old new keeps x e all.0, imports_kept old new keeps xs es all.1)

pub imports_more : (old new : Names) → KeepsNames old new → (xs more : List Imported) (es : List Entry) (i : ℕ) (e : Entry) (x : Imported) → i < length es → e ≡ get_or es i e → IsSymbol new x.symbol e.name → x.meaning ≡ e.meaning →
    more ≡ xs ++ x ∷ [] → AllMatch (IsImport old) xs (take i es) → AllMatch (IsImport new) more (take (i + 1) es)
imports_more old new keeps xs more es i e x lt is symbol meaning pushed all =
    subst (λ (ys : List Imported). AllMatch (IsImport new) ys (take (i + 1) es)) (sym pushed)
    (subst (AllMatch (IsImport new) (xs ++ x ∷ [])) (sym (take_more es i e lt ∙ ap (λ (d : Entry). take i es ++ d ∷ []) (sym is)))
    (all_append (IsImport new) xs (take i es) (x ∷ []) (e ∷ []) (imports_kept old new keeps xs (take i es) all) (record { symbol = symbol; meaning = meaning }, tt)))
