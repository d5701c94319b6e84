-- The program of documents, one unit more.
use Rattle.std.proofs.Common.{arith, refl, zero, suc, ◌≡◌, ◌<◌, ◌⊎◌, inl, inr, ℕ, List, [], ◌∷◌, ◌++◌, length, slice_get, Option, Some, None, sym, ◌∙◌, subst}
use Rattle.std.specs.Prelude.{IfSome}
use Rattle.syntax_tree.proofs.Places.{push_cases}
use Rattle.syntax_tree.specs.declared.trees.Work.{Work}
use Rattle.core_tree.specs.declared.units.Unit as unit
use Rattle.unit_imports.specs.declared.expanded.Expanded.{Expanded}
use Rattle.read_documents.specs.declared.findings.At.{At}
use Rattle.read_documents.specs.Belongs.{AreErrorsIn}
use Rattle.program_leaves.specs.Formed.{IsFormed, AreFormedIn}
use Rattle.unit_results.specs.Formed.{CameFormed}
use Rattle.read_documents.specs.Places.{AreFoundIn}
use Rattle.unit_results.specs.UnitsExpanded.{AreAllFound}

abbrev IsErrorIn : ℕ → Option (At × ℕ) → Type 0
IsErrorIn count o = IfSome o (λ e. e.0.document < count)

pub errors_none : (count : ℕ) → AreErrorsIn count []
errors_none count n a code at = absurd cc

pub errors_more : (count : ℕ) (es new : List (Option (At × ℕ))) (o : Option (At × ℕ)) → new ≡ es ++ o ∷ [] → IsErrorIn count o → AreErrorsIn count es → AreErrorsIn count new
errors_more count es new o pushed here are = subst (λ (xs : List (Option (At × ℕ))). AreErrorsIn count xs) (sym pushed) (λ n a code at. go n a code (push_cases es o n (Some (a, code)) at))
  where
    told : (p : Option (At × ℕ)) (a : At) (code : ℕ) → Some (a, code) ≡ p → IsErrorIn count p → a.document < count
    told None a code same h = absurd cc
    told (Some e) a code same h = let eq : (a, code) ≡ e = cc in subst (λ (x : At × ℕ). x.0.document < count) (sym eq) h

    go : (n : ℕ) (a : At) (code : ℕ) → (slice_get es n ≡ Some (Some (a, code))) ⊎ ((n ≡ length es) × (Some (a, code) ≡ o)) → a.document < count
    go n a code (inl k) = are n a code k
    go n a code (inr k) = told o a code k.1 here

-- what is found in one of them
pub found_in : (count : ℕ) (all : List (Option Expanded)) (n : ℕ) (o : Option Expanded) → AreAllFound count all → slice_get all n ≡ Some o → IfSome o (λ e. AreFoundIn count e.findings.items)
found_in count all n None are at = tt
found_in count all n (Some e) are at = are n e at

-- what its forms stand for
pub formed_at : (work : Work) (all : List (Option Expanded)) (n : ℕ) (o : Option Expanded) → CameFormed work all → slice_get all n ≡ Some o → IfSome o (λ e. IsFormed work n e.forms)
formed_at work all n None are at = tt
formed_at work all n (Some e) are at = are n e at

pub formed_none : (work : Work) → AreFormedIn work []
formed_none work n u at = absurd cc

pub formed_more : (work : Work) (us new : List unit.Unit) (u : unit.Unit) (place : ℕ) → new ≡ us ++ u ∷ [] → length us ≡ place → IsFormed work place u.forms → AreFormedIn work us → AreFormedIn work new
formed_more work us new u place pushed long here are = subst (λ (xs : List unit.Unit). AreFormedIn work xs) (sym pushed) (λ n v at. go n v (push_cases us u n v at))
  where
    go : (n : ℕ) (v : unit.Unit) → (slice_get us n ≡ Some v) ⊎ ((n ≡ length us) × (v ≡ u)) → IsFormed work n v.forms
    go n v (inl k) = are n v k
    go n v (inr k) = subst (λ (m : ℕ). IsFormed work m v.forms) (sym (k.0 ∙ long)) (subst (λ (w : unit.Unit). IsFormed work place w.forms) (sym k.1) here)

-- an item of a list that is long enough
pub get : {A : Type 0} (xs : List A) (n : ℕ) → n < length xs → (x : A) × (slice_get xs n ≡ Some x)
get [] n lt = absurd (omega arith)
get (x ∷ xs) zero lt = (x, refl)
get (x ∷ xs) (suc n) lt = get xs n (omega arith)
