-- Marks of what documents name, directly or not.
use Rattle.std.proofs.Common.{◌≡◌, ℕ, zero, suc, ◌+◌, ◌<◌, List, [], ◌∷◌, length, get_or, Bool, true, false, refl, sym, ap, ◌∙◌, subst, arith}
use Rattle.std.specs.Prelude.{◌&&◌, ◌||◌, count_by}
use Rattle.std.specs.List.{list_any}
use Rattle.scheme_model.specs.Includes.{Naming, is_among, named_by, with_named, names_on}
use Rattle.nesting_laws.specs.Onward.{onward}
use Rattle.nesting_laws.proofs.Closed as closed
use Rattle.text_parts.specs.Marks.{marked, Marks, Rows}
use Rattle.text_parts.specs.Places.{Each}
use Rattle.text_parts.proofs.EachLaws.{each_at}
use Rattle.text_parts.proofs.MarkLaws.{counted}

and_both : (a b : Bool) → a ≡ true → b ≡ true → (a && b) ≡ true
and_both true b h k = k
and_both false b h k = absurd cc

and_first : (a b : Bool) → (a && b) ≡ true → a ≡ true
and_first true b h = refl
and_first false b h = absurd cc

and_second : (a b : Bool) → (a && b) ≡ true → b ≡ true
and_second true b h = h
and_second false b h = absurd cc

-- the row of a document
pub row_there : (rows : List (List Bool)) (all : Naming) (i : ℕ) (row : List Bool) → Rows rows all → i < length rows → row ≡ get_or rows i row → Marks row (length all) (named_by all i)
row_there rows all i row h lt is = each_at (λ n r. Marks r (length all) (named_by all n)) rows i row lt is h.each

module _ (all : Naming) (ns : List ℕ) (rows : List (List Bool)) (marks : List Bool) (h : Rows rows all) (m : Marks marks (length all) ns) (place : ℕ) (lt : place < length all) where
  -- a marked document names it
  pub named_here : (i : ℕ) (row : List Bool) → i < length rows → row ≡ get_or rows i row → (marked marks i && marked row place) ≡ true → true ≡ list_any (λ m. is_among (named_by all m) place) ns
  named_here i row low is e =
      sym (closed.named_found all i place ns (sym (m.told i (omega (arith, h.size))) ∙ and_first (marked marks i) (marked row place) e)
      (sym ((row_there rows all i row h low is).told place lt) ∙ and_second (marked marks i) (marked row place) e))

  -- or doesn't
  pub not_here : (i : ℕ) (row : List Bool) → i < length rows → row ≡ get_or rows i row → (marked marks i && marked row place) ≡ false → is_among ns i ≡ true → is_among (named_by all i) place ≡ true → ⊥
  not_here i row low is e there names =
      let both = and_both (marked marks i) (marked row place) (m.told i (omega (arith, h.size)) ∙ there) ((row_there rows all i row h low is).told place lt ∙ names) in
      let no : true ≡ false = sym both ∙ e in
      absurd cc

  pub named_nowhere : ((i : ℕ) → i < length rows → is_among ns i ≡ true → is_among (named_by all i) place ≡ true → ⊥) → false ≡ list_any (λ m. is_among (named_by all m) place) ns
  named_nowhere none = go (list_any (λ m. is_among (named_by all m) place) ns) refl
    where
      go : (b : Bool) → list_any (λ m. is_among (named_by all m) place) ns ≡ b → false ≡ b
      go false e = refl
      go true e = let w = closed.found_named all place ns e in absurd (none w.0 (let low = closed.names_there all w.0 place w.2 in omega (arith, h.size)) w.1 w.2)

  pub found_marked : marked marks place ≡ true → true ≡ is_among (with_named all 0 all ns) place
  found_marked e = sym (closed.step_told all ns place lt ∙ ap (λ b. b || list_any (λ m. is_among (named_by all m) place) ns) (sym (m.told place lt) ∙ e))

  pub found_named : (r : Bool) → marked marks place ≡ false → r ≡ list_any (λ m. is_among (named_by all m) place) ns → r ≡ is_among (with_named all 0 all ns) place
  found_named r e f = f ∙ sym (closed.step_told all ns place lt ∙ ap (λ b. b || list_any (λ m. is_among (named_by all m) place) ns) (sym (m.told place lt) ∙ e))

-- where a step finds no more, none does
pub settled : (all : Naming) (bs : List Bool) (steps : ℕ) (ns : List ℕ) → Marks bs (length all) ns → Marks bs (length all) (with_named all 0 all ns) → Marks bs (length all) (names_on all steps ns)
settled all bs zero ns h k = h
settled all bs (suc steps) ns h k =
    settled all bs steps (with_named all 0 all ns) k
    (record { size = h.size; told = λ i lt. k.told i lt ∙ closed.step_alike all ns (with_named all 0 all ns) (λ j low. sym (h.told j low) ∙ k.told j low) i lt })

-- the same marks
pub same_marks : (all : Naming) (bs cs : List Bool) (ns : List ℕ) → length bs ≡ length all → ((k : ℕ) → k < length bs → marked bs k ≡ marked cs k) → Marks cs (length all) ns → Marks bs (length all) ns
same_marks all bs cs ns size same h = record { size = size; told = λ k lt. same k (omega arith) ∙ h.told k lt }

-- how many a document names onward
pub counted_onward : (all : Naming) (n : ℕ) (bs : List Bool) → 0 < length all → Marks bs (length all) (onward all n) → count_by (λ (b : Bool). b) bs ≡ length (onward all n)
counted_onward all n bs lt h = counted all (onward all n) bs h ∙ closed.counted all (length all) (named_by all n) lt
