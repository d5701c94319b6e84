-- What documents are to one another.
use Rattle.std.proofs.Common.{◌≡◌, ℕ, zero, suc, ◌<◌, List, [], ◌∷◌, length, get_or, Bool, true, false, not, refl, sym, ap, ◌∙◌, subst, arith}
use Rattle.std.specs.Prelude.{◌&&◌, ◌||◌, nat_lt, min}
use Rattle.std.specs.Option.{is_some}
use Rattle.std.specs.List.{list_any}
use Rattle.std.proofs.lemmas.Bool.Decides.{nat_tests}
use Rattle.scheme_model.specs.Includes.{Document, data_of, document_at, has_program, Naming, naming, is_among, named_by, is_on_circle, is_part, is_usable, max_units, program_number}
use Rattle.nesting_laws.proofs.Depth.{usable_told}
use Rattle.text_parts.specs.declared.parts.TextPart.{TextPart}
use Rattle.text_parts.specs.declared.reaches.Reach.{Reach}
use Rattle.text_parts.specs.declared.programs.ProgramPlace.{ProgramPlace}
use Rattle.text_parts.specs.Marks.{marked, Marks, Rows}
use Rattle.text_parts.specs.Parts.{IsReach, IsTextPart, is_usable_in}
use Rattle.text_parts.specs.Programs.{IsProgramPlace}
use Rattle.text_parts.proofs.ReachLaws.{row_there}

any_here : (all : Naming) (i place : ℕ) → is_among (named_by all i) place ≡ true → list_any (λ ns. is_among ns place) all ≡ true
any_here [] i place h = absurd cc
any_here (ns ∷ all) zero place h = ap (λ b. b || list_any (λ ns. is_among ns place) all) h
any_here (ns ∷ all) (suc i) place h = either (is_among ns place) (any_here all i place h)
  where
    either : (b : Bool) → list_any (λ ns. is_among ns place) all ≡ true → (b || list_any (λ ns. is_among ns place) all) ≡ true
    either true e = refl
    either false e = e

any_nowhere : (all : Naming) (place : ℕ) → ((i : ℕ) → i < length all → is_among (named_by all i) place ≡ false) → list_any (λ ns. is_among ns place) all ≡ false
any_nowhere [] place h = refl
any_nowhere (ns ∷ all) place h = ap (λ b. b || list_any (λ ns. is_among ns place) all) (h 0 (omega arith)) ∙ any_nowhere all place (λ i lt. h (suc i) (omega arith))

module _ (all : Naming) (rows : List (List Bool)) (h : Rows rows all) (place : ℕ) (lt : place < length all) where
  -- a document names this one
  pub named_by_row : (i : ℕ) (row : List Bool) → i < length rows → row ≡ get_or rows i row → marked row place ≡ true → true ≡ list_any (λ ns. is_among ns place) all
  named_by_row i row low is e = sym (any_here all i place (sym ((row_there rows all i row h low is).told place lt) ∙ e))

  pub not_by_row : (i : ℕ) (row : List Bool) → i < length rows → row ≡ get_or rows i row → marked row place ≡ false → is_among (named_by all i) place ≡ false
  not_by_row i row low is e = sym ((row_there rows all i row h low is).told place lt) ∙ e

  pub by_no_row : ((i : ℕ) → i < length rows → is_among (named_by all i) place ≡ false) → false ≡ list_any (λ ns. is_among ns place) all
  by_no_row none = sym (any_nowhere all place (λ i low. none i (omega (arith, h.size))))

and_false : (b : Bool) → (b && false) ≡ false
and_false true = refl
and_false false = refl

and_true : (b : Bool) → (b && true) ≡ b
and_true true = refl
and_true false = refl

-- a document on a circle is no part, any other is one where another names it
pub circle_no_part : (all : Naming) (place : ℕ) (c : Bool) → c ≡ is_on_circle all place → c ≡ true → false ≡ is_part all place
circle_no_part all place c is e = sym (ap (λ b. list_any (λ ns. is_among ns place) all && not b) (sym is ∙ e) ∙ and_false (list_any (λ ns. is_among ns place) all))

pub named_part : (all : Naming) (place : ℕ) (c r : Bool) → c ≡ is_on_circle all place → c ≡ false → r ≡ list_any (λ ns. is_among ns place) all → r ≡ is_part all place
named_part all place c r is e named = named ∙ sym (ap (λ b. list_any (λ ns. is_among ns place) all && not b) (sym is ∙ e) ∙ and_true (list_any (λ ns. is_among ns place) all))

few_units : (n : ℕ) → nat_lt (min n max_units) max_units ≡ nat_lt n max_units
few_units n = grind (arith, nat_tests)

pub part_told : (ds : List Document) (place : ℕ) (reach : Reach) (program : ProgramPlace) (reads part can : Bool) → place < length ds → reads ≡ is_some (document_at ds place).read → IsReach (naming ds) place reach → IsProgramPlace ds place program →
    part ≡ is_part (naming ds) place → can ≡ (part && (reads && (not program.there || nat_lt program.number max_units))) →
    IsTextPart ds place (record { on_circle = reach.on_circle; is_part = part; is_usable = can; program = program.number })
part_told ds place reach program reads part can lt read reached placed is_part_of is_can = record {
  circle = reached.circle;
  part = is_part_of;
  usable = is_can ∙ (λ j. is_part_of j && (read j && (not (placed.there j) || nat_lt (placed.number j) max_units)))
      ∙ ap (λ b. is_part (naming ds) place && (is_some (document_at ds place).read && (not (has_program (data_of (document_at ds place))) || b))) (few_units (program_number ds place)) ∙ sym (usable_told ds place lt);
  program = placed.number;
}
