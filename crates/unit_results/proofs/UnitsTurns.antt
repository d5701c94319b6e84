-- Units in turn: what they came to so far, one unit more.
use Rattle.std.proofs.Common.{◌≡◌, ℕ, zero, suc, ◌⊎◌, inl, inr, List, [], All, slice_get, slice_set, replicate, Option, Some, None, sym, subst}
use Rattle.std.specs.Prelude.{IfSome}
use Rattle.std.proofs.lemmas.Option.{same_Some}
use Rattle.syntax_tree.specs.Names.{Names, KeepsNames}
use Rattle.syntax_tree.specs.Works.{KeepsTrees}
use Rattle.syntax_tree.specs.declared.trees.Work.{Work}
use Rattle.syntax_tree.proofs.Places.{none_some}
use Rattle.core_tree.specs.Units.{IsBlank}
use Rattle.core_tree.specs.declared.units.UnitForm.{UnitForm}
use Rattle.expansion_laws.proofs.PartsStay.{forms_on}
use Rattle.unit_imports.specs.declared.expanded.Expanded.{Expanded}
use Rattle.program_leaves.specs.Formed.{IsFormed}
use Rattle.unit_results.specs.Formed.{CameFormed}
use Rattle.unit_imports.specs.EntriesMeant.{HaveMeaning, ExportsMean}
use Rattle.read_documents.specs.Places.{AreFoundIn}
use Rattle.unit_results.specs.UnitsExpanded.{AreAllFound}
use Rattle.read_documents.proofs.ChangedLaws.{set_cases}
use Rattle.unit_imports.proofs.Collecting.{blank_stand}
use Rattle.unit_imports.proofs.MeaningLaws.{mean_kept}

-- what holds of what there is, if there is any
pub of_some : {A : Type 0} (P : A → Type 0) (o : Option A) → IfSome o P → (a : A) → o ≡ Some a → P a
of_some P None h a is = none_some a is
of_some P (Some x) h a is = subst P (same_Some x a is) h

-- this holds of what each unit came to, by its place
abbrev Came : (ℕ → Expanded → Type 0) → List (Option Expanded) → Type 0
Came P all = (n : ℕ) (e : Expanded) → slice_get all n ≡ Some (Some e) → P n e

none_came : (P : ℕ → Expanded → Type 0) (n : ℕ) → Came P (replicate n None)
none_came P zero k e at = none_some (Some e) at
none_came P (suc n) zero e at = absurd cc
none_came P (suc n) (suc k) e at = none_came (λ m. P (suc m)) n k e at

came_on : (P Q : ℕ → Expanded → Type 0) → ((n : ℕ) (e : Expanded) → P n e → Q n e) → (all : List (Option Expanded)) (p : ℕ) (o : Option Expanded) → Came P all → ((e : Expanded) → o ≡ Some e → Q p e) → Came Q (slice_set all p o)
came_on P Q on all p o was here n e at = go (set_cases all p o n (Some e) at)
  where
    go : ((n ≡ p) × (Some e ≡ o)) ⊎ ((n ≡ p → ⊥) × (slice_get all n ≡ Some (Some e))) → Q n e
    go (inl k) = subst (λ (m : ℕ). Q m e) (sym k.0) (here e (sym k.1))
    go (inr k) = on n e (was n e k.1)

-- ---- what is found in each

pub none_found : (count n : ℕ) → AreAllFound count (replicate n None)
none_found count n = none_came (λ m e. AreFoundIn count e.findings.items) n

pub one_found : (count : ℕ) (all : List (Option Expanded)) (p : ℕ) (o : Option Expanded) → AreAllFound count all → ((e : Expanded) → o ≡ Some e → AreFoundIn count e.findings.items) → AreAllFound count (slice_set all p o)
one_found count all p o was here = came_on (λ m e. AreFoundIn count e.findings.items) (λ m e. AreFoundIn count e.findings.items) (λ m e h. h) all p o was here

-- ---- what each exports

pub none_mean : (names : Names) (n : ℕ) → ExportsMean names (replicate n None)
none_mean names n = none_came (λ m e. HaveMeaning names e.exports) n

pub one_means : (old new : Names) → KeepsNames old new → (all : List (Option Expanded)) (p : ℕ) (o : Option Expanded) → ExportsMean old all → ((e : Expanded) → o ≡ Some e → HaveMeaning new e.exports) → ExportsMean new (slice_set all p o)
one_means old new names all p o was here = came_on (λ m e. HaveMeaning old e.exports) (λ m e. HaveMeaning new e.exports) (λ m e h. mean_kept old new names e.exports h) all p o was here

pub all_mean : (old new : Names) → KeepsNames old new → (all : List (Option Expanded)) → ExportsMean old all → ExportsMean new all
all_mean old new names all was n e at = mean_kept old new names e.exports (was n e at)

-- ---- what the forms of each stand for

pub blank_formed : (work : Work) (unit : ℕ) (cs : List UnitForm) → All IsBlank cs → IsFormed work unit cs
blank_formed work unit cs h = ([], blank_stand work unit 0 cs h)

pub formed_on : (old new : Work) → KeepsTrees old new → KeepsNames old.symbols new.symbols → (unit : ℕ) (cs : List UnitForm) → IsFormed old unit cs → IsFormed new unit cs
formed_on old new trees names unit cs h = (h.0, forms_on old new trees names unit cs h.0 0 h.1)

pub none_formed : (work : Work) (n : ℕ) → CameFormed work (replicate n None)
none_formed work n = none_came (λ m e. IsFormed work m e.forms) n

pub one_formed : (old new : Work) → KeepsTrees old new → KeepsNames old.symbols new.symbols → (all : List (Option Expanded)) (p : ℕ) (o : Option Expanded) → CameFormed old all → ((e : Expanded) → o ≡ Some e → IsFormed new p e.forms) → CameFormed new (slice_set all p o)
one_formed old new trees names all p o was here = came_on (λ m e. IsFormed old m e.forms) (λ m e. IsFormed new m e.forms) (λ m e h. formed_on old new trees names m e.forms h) all p o was here
