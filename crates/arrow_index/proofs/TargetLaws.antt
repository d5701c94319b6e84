-- The origins of a use, by what its meaning is.
use Rattle.std.proofs.Common.{◌≡◌, ◌<◌, ℕ, List, length, refl, sym, ap}
use Rattle.std.proofs.lemmas.Option.{slice_get_within}
use Rattle.scheme_model.specs.Cores.{Target}
use Rattle.scheme_model.specs.Entries.{place_origin}
use Rattle.scheme_model.specs.Live.{CoreLeaf}
use Rattle.scheme_model.specs.Meaning as model
use Rattle.scheme_model.specs.Meaning.{Meaning}
use Rattle.scheme_model.specs.Program.{UnitResult}
use Rattle.scheme_model.specs.ProgramArrows.{local_at}
use Rattle.scheme_model.specs.Substitution.{Table}
use Rattle.scheme_model.specs.Spelling.{ident_origins, target_origins}
use Rattle.syntax_tree.specs.Names.{Names}
use Rattle.syntax_tree.specs.Meant.{IsMeaning}
use Rattle.syntax_tree.specs.declared.meaning.Meaning.TheVariants as code
use Rattle.core_tree.specs.Names.{IsTarget}
use Rattle.core_tree.specs.declared.cores.Target as code_target

module _ (leaves : List CoreLeaf) (table : Table) (rs : List UnitResult) (names : Names) (unit form : ℕ) where
  pub local_origins : (n : ℕ) (t : Target) → IsMeaning names unit form (code.Local n) t.meaning → place_origin (local_at leaves (record { unit = unit; form = form; count = n })) ≡ target_origins leaves table rs t
  local_origins n t h = ap (λ (m : Meaning). target_origins leaves table rs (record { meaning = m; ident = t.ident; occ = t.occ })) (sym h)

  pub global_origins : (u n : ℕ) (t : Target) → IsMeaning names unit form (code.Global u n) t.meaning → ident_origins table rs t.ident ≡ target_origins leaves table rs t
  global_origins u n t h = by_meaning t.meaning h
    where
      by_meaning : (m : Meaning) → IsMeaning names unit form (code.Global u n) m → ident_origins table rs t.ident ≡ target_origins leaves table rs (record { meaning = m; ident = t.ident; occ = t.occ })
      by_meaning (model.Local v) g = absurd g
      by_meaning (model.Global w i) g = refl
      by_meaning (model.Standard s) g = absurd g
      by_meaning (model.Free s) g = absurd g

  pub standard_origins : (n : ℕ) (t : Target) → IsMeaning names unit form (code.Standard n) t.meaning → ident_origins table rs t.ident ≡ target_origins leaves table rs t
  standard_origins n t h = by_meaning t.meaning h
    where
      by_meaning : (m : Meaning) → IsMeaning names unit form (code.Standard n) m → ident_origins table rs t.ident ≡ target_origins leaves table rs (record { meaning = m; ident = t.ident; occ = t.occ })
      by_meaning (model.Local v) g = absurd g
      by_meaning (model.Global w i) g = absurd g
      by_meaning (model.Standard s) g = refl
      by_meaning (model.Free s) g = absurd g

  pub free_origins : (n : ℕ) (t : Target) → IsMeaning names unit form (code.Free n) t.meaning → ident_origins table rs t.ident ≡ target_origins leaves table rs t
  free_origins n t h = by_meaning t.meaning h
    where
      by_meaning : (m : Meaning) → IsMeaning names unit form (code.Free n) m → ident_origins table rs t.ident ≡ target_origins leaves table rs (record { meaning = m; ident = t.ident; occ = t.occ })
      by_meaning (model.Local v) g = absurd g
      by_meaning (model.Global w i) g = absurd g
      by_meaning (model.Standard s) g = absurd g
      by_meaning (model.Free s) g = refl

pub ident_within : (names : Names) (unit form : ℕ) (c : code_target.Target) (t : Target) → IsTarget names unit form c t → c.ident < length names.idents
ident_within names unit form c t h = slice_get_within names.idents c.ident t.ident h.ident
