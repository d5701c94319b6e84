-- The turns are the order in which the definition of a program works on its units.
use Rattle.std.proofs.Common.{◌≡◌, ℕ, zero, suc, Bool, true, false, cond, List, [], ◌∷◌, ◌++◌, append-nil, append_assoc, slice_get, Option, Some, None, refl, sym, ap, ◌∙◌, arith}
use Rattle.std.specs.Prelude.{◌||◌, ◌&&◌, ◌==◌, not, reverse}
use Rattle.std.proofs.lemmas.Bool.Decides.{nat_tests}
use Rattle.std.proofs.lemmas.List.{reverse-append}
use Rattle.scheme_model.specs.Order.{is_some}
use Rattle.scheme_model.specs.Requirements.{Known}
use Rattle.scheme_model.specs.Substitution.{Table}
use Rattle.scheme_model.specs.UnitExpansion.{Formed}
use Rattle.scheme_model.specs.Entries.{Entry}
use Rattle.scheme_model.specs.IncludedUnits.{Placed}
use Rattle.scheme_model.specs.Program.{forms_at_work, Prepared, UnitResult, SetResult, Progress, WholeFault, result_at, is_in, fault_before, unit_entries, with_entries, form_trees, start_of, unit_over, unit_result, by_fault, all_done, is_ready, first_ready, worked, work}
use Rattle.import_sets.specs.InTurn.{all_in, is_open, and_then, in_turn}
use Rattle.unit_sources.specs.Orders.{numbers, HaveNoFault}
use Rattle.import_sets.proofs.ReachLaws.{in_append, or_none, or_turned}

-- ---- what is done

turned : (m n : ℕ) → (m == n) ≡ (n == m)
turned m n = grind (arith, nat_tests)

result_there : (rs : List UnitResult) (n : ℕ) → is_some (result_at rs n) ≡ is_in n (numbers rs)
result_there [] n = refl
result_there (r ∷ rs) n = go (result_there rs n) (r.unit.number == n) (turned r.unit.number n)
  where
    go : is_some (result_at rs n) ≡ is_in n (numbers rs) → (b : Bool) → b ≡ (n == r.unit.number) → is_some (cond b (Some r) (result_at rs n)) ≡ ((n == r.unit.number) || is_in n (numbers rs))
    go more true e = ap (λ b. b || is_in n (numbers rs)) e
    go more false e = more ∙ ap (λ b. b || is_in n (numbers rs)) e

in_reverse : (n : ℕ) (xs : List ℕ) → is_in n (reverse xs) ≡ is_in n xs
in_reverse n [] = refl
in_reverse n (x ∷ xs) =
    ap (is_in n) (reverse-append (x ∷ []) xs) ∙ in_append n (reverse xs) (x ∷ []) ∙ (λ j. in_reverse n xs j || or_none (n == x) j) ∙ or_turned (is_in n xs) (n == x)

done_there : (rs : List UnitResult) (n : ℕ) → is_some (result_at rs n) ≡ is_in n (reverse (numbers rs))
done_there rs n = result_there rs n ∙ sym (in_reverse n (numbers rs))

all_there : (rs : List UnitResult) (ns : List ℕ) → all_done rs ns ≡ all_in (reverse (numbers rs)) ns
all_there rs [] = refl
all_there rs (n ∷ ns) = (λ j. done_there rs n j && all_there rs ns j)

ready_same : (all : List Placed) (ps : List Prepared) (rs : List UnitResult) (p : Prepared) → fault_before all ps p ≡ None → is_ready all ps rs p ≡ is_open (reverse (numbers rs)) p
ready_same all ps rs p none =
    ap (λ (f : Option WholeFault). not (is_some (result_at rs p.number)) && (is_some f || all_done rs p.imports)) none
    ∙ (λ j. not (done_there rs p.number j) && all_there rs p.imports j)

first_same : (f h : Prepared → Bool) (ps : List Prepared) → ((n : ℕ) (p : Prepared) → slice_get ps n ≡ Some p → f p ≡ h p) → first_ready f ps ≡ first_ready h ps
first_same f h [] same = refl
first_same f h (p ∷ ps) same = (λ j. cond (same 0 p refl j) (Some p) (first_same f h ps (λ n q at. same (suc n) q at) j))

-- ---- one unit more

unit_of_result : (p : Prepared) (imports : List Entry × List SetResult) (table : Table) (forms : Option (List Formed)) → (unit_result p imports table forms).unit ≡ p
unit_of_result p imports table None = refl
unit_of_result p imports table (Some fs) = refl

fault_numbers : (all : List Placed) (ps : List Prepared) (known : Known) (p : Prepared) (f : Option WholeFault) (g : Progress) → numbers (by_fault all ps known p f g).results ≡ p.number ∷ numbers g.results
fault_numbers all ps known p (Some fault) g = refl
fault_numbers all ps known p None g =
    let imports = unit_entries all g.results p in
    let q = unit_over known (form_trees p.number 0 (forms_at_work p)) (start_of p g.table g.macros (with_entries p.number imports.0 g.entry)) in
    ap (λ (u : Prepared). u.number ∷ numbers g.results) (unit_of_result p imports q.1.table q.0)

stays : (ps : List Prepared) (done : List ℕ) → first_ready (is_open done) ps ≡ None → (t : ℕ) → in_turn ps t done ≡ []
stays ps done none zero = refl
stays ps done none (suc t) = rw none refl

reverse_more : (x : ℕ) (xs : List ℕ) → reverse (x ∷ xs) ≡ reverse xs ++ x ∷ []
reverse_more x xs = reverse-append (x ∷ []) xs

pub numbers_of_work : (all : List Placed) (ps : List Prepared) (known : Known) → HaveNoFault all ps → (t : ℕ) (g : Progress) → reverse (numbers (work all ps known t g).results) ≡ reverse (numbers g.results) ++ in_turn ps t (reverse (numbers g.results))
numbers_of_work all ps known none zero g = sym (append-nil (reverse (numbers g.results)))
numbers_of_work all ps known none (suc t) g =
    ap (λ (o : Option Prepared). reverse (numbers (work all ps known t (worked all ps known o g)).results)) same ∙ go (numbers_of_work all ps known none t) (first_ready (is_open (reverse (numbers g.results))) ps) refl
  where
    same : first_ready (is_ready all ps g.results) ps ≡ first_ready (is_open (reverse (numbers g.results))) ps
    same = first_same (is_ready all ps g.results) (is_open (reverse (numbers g.results))) ps (λ n p at. ready_same all ps g.results p (none n p at))

    go : ((g : Progress) → reverse (numbers (work all ps known t g).results) ≡ reverse (numbers g.results) ++ in_turn ps t (reverse (numbers g.results))) → (o : Option Prepared) → first_ready (is_open (reverse (numbers g.results))) ps ≡ o →
        reverse (numbers (work all ps known t (worked all ps known o g)).results) ≡ reverse (numbers g.results) ++ and_then o (λ p. p.number ∷ in_turn ps t (reverse (numbers g.results) ++ p.number ∷ []))
    go more None e = more g ∙ ap (λ (l : List ℕ). reverse (numbers g.results) ++ l) (stays ps (reverse (numbers g.results)) e t)
    go more (Some p) e =
        let next : reverse (numbers (worked all ps known (Some p) g).results) ≡ reverse (numbers g.results) ++ p.number ∷ [] =
        ap (λ (l : List ℕ). reverse l) (fault_numbers all ps known p (fault_before all ps p) g) ∙ reverse_more p.number (numbers g.results) in
        more (worked all ps known (Some p) g) ∙ ap (λ (l : List ℕ). l ++ in_turn ps t l) next
        ∙ append_assoc (reverse (numbers g.results)) (p.number ∷ []) (in_turn ps t (reverse (numbers g.results) ++ p.number ∷ []))
