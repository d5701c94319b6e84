-- The clauses of a `cond-expand` one after another: the first that holds is chosen.
use Rattle.std.proofs.Common.{◌≡◌, ℕ, suc, zero, ◌+◌, ◌<◌, ◌≤◌, ◌≢◌, eqb, List, [], ◌∷◌, length, get_or, drop, Bool, true, false, Option, Some, None, Result, Ok, Err, refl, sym, ap, ◌∙◌, subst, arith}
use Rattle.std.specs.Borrow.{Bor}
use Rattle.std.specs.Option.{is_some}
use Rattle.std.specs.Result.{IsErrAnd}
use Rattle.std.proofs.lemmas.List.{drop_more, at_drop_all}
use Rattle.std.proofs.lemmas.Bool.{eqb-true, eqb-false}
use Rattle.scheme_model.specs.Data.{Datum, Data, row}
use Rattle.scheme_model.specs.Trees.{Trees}
use Rattle.scheme_model.specs.Requirements.{Known, clause_holds}
use Rattle.scheme_model.specs.Declarations.{symbol_tree}
use Rattle.scheme_model.specs.Included.{Homed, Listing, nothing, Texts, choice, clauses, clause_of}
use Rattle.datum_reader.specs.declared.datum.Datum as code
use Rattle.datum_reader.specs.Views.{datum_of, data_of}
use Rattle.datum_reader.specs.declared.shape_fault.ShapeFault.{ShapeFault}
use Rattle.datum_reader.specs.declared.shape_fault.ShapeFault.TheVariants as shape
use Rattle.datum_reader.specs.Looks.{end_with}
use Rattle.known_libraries.specs.PartsRead.{Fails}
use Rattle.known_libraries.specs.Chosen.{is_empty}
use Rattle.known_libraries.specs.Weights.{row_weight}
use Rattle.known_libraries.proofs.WeightLaws.{item_lighter, first_lighter}
use Rattle.included_forms.specs.declared.choices.Clause as code_clause
use Rattle.included_forms.specs.Choices.{all_declared, clause_with, IsClause, OrFirst, Chooses}
use Rattle.included_forms.proofs.ClauseLaws.{listing_or_bad, picks, given_first, chosen_of, ChosenUpTo, IsLighter, is_nil, no_clause, bad_requirement, good_requirement, some_choice}

-- ---- the last clause

nil_some : (ds : List code.Datum) (n : ℕ) → n < length ds → is_nil (drop n ds) ≡ false
nil_some [] n h = absurd (omega arith)
nil_some (d ∷ ds) zero h = refl
nil_some (d ∷ ds) (suc n) h = nil_some ds n (omega arith)

nil_all : (ds : List code.Datum) (n : ℕ) → length ds ≤ n → is_nil (drop n ds) ≡ true
nil_all ds n h = at_drop_all is_nil ds n h

pub last_is : (ds : List code.Datum) (n : ℕ) (b : Bool) → n ≤ length ds → b ≡ eqb n (length ds) → is_nil (drop n ds) ≡ b
last_is ds n true h e = nil_all ds n (let q : n ≡ length ds = eqb-true n (length ds) (sym e) in omega arith)
last_is ds n false h e = nil_some ds n (let q : n ≢ length ds = eqb-false n (length ds) (sym e) in omega arith)

-- ---- one clause more

picks_none : (t : Texts) (known : Known) (h : Homed) (o : Option (Bor (List code.Datum))) (r : Option Listing) → r ≡ None → picks t known h o r ≡ None
picks_none t known h None r e = e
picks_none t known h (Some es) r e = ap (picks t known h (Some es)) e

picks_more : (t : Texts) (known : Known) (h : Homed) (o : Option (Bor (List code.Datum))) (b : Bool) (es : List code.Datum) (q : Option (Bor (List code.Datum))) (r : Option Listing) → OrFirst o b es q →
    picks t known h o (given_first b (all_declared t known h es) r) ≡ picks t known h q r
picks_more t known h (Some ds) b es q r e = still b r ∙ ap (λ (p : Option (Bor (List code.Datum))). picks t known h p r) (sym e)
  where
    still : (b : Bool) (r : Option Listing) → picks t known h (Some ds) (given_first b (all_declared t known h es) r) ≡ picks t known h (Some ds) r
    still b None = refl
    still true (Some l) = refl
    still false (Some l) = refl
picks_more t known h None true es None r e = absurd e
picks_more t known h None true es (Some s) None e = refl
picks_more t known h None true es (Some s) (Some l) e = ap (λ (xs : List code.Datum). Some (all_declared t known h xs)) (sym e)
picks_more t known h None false es q r e = passed r ∙ ap (λ (p : Option (Bor (List code.Datum))). picks t known h p r) (sym e)
  where
    passed : (r : Option Listing) → given_first false (all_declared t known h es) r ≡ r
    passed None = refl
    passed (Some l) = refl

module _ (t : Texts) (known : Known) (h : Homed) (ds : List code.Datum) (i : ℕ) (d : code.Datum) (o : Option (Bor (List code.Datum))) (lt : i < length ds) (is : d ≡ get_or ds i d) (so_far : ChosenUpTo t known h ds i o) where
  front : chosen_of t known h (drop i ds) ≡ chosen_of t known h (d ∷ drop (i + 1) ds)
  front = ap (chosen_of t known h) (drop_more ds i d lt ∙ ap (λ (x : code.Datum). x ∷ drop (i + 1) ds) (sym is))

  -- a clause without its shape
  pub clause_stops : clause_of t known h (datum_of d) ≡ None → chosen_of t known h ds ≡ None
  clause_stops here = so_far ∙ picks_none t known h o (chosen_of t known h (drop i ds)) (front ∙ no_clause t known h d (drop (i + 1) ds) here)

  module _ (r : code.Datum) (fs : List code.Datum) (here : clause_of t known h (datum_of d) ≡ Some (clause_with t known h r fs)) where
    -- a requirement without its shape
    pub requirement_stops : (e : ShapeFault) → ((later : Trees (List ℕ)) → is_empty later ≡ is_nil (drop (i + 1) ds) → Fails e (clause_holds (λ s. s) known (symbol_tree (datum_of r)) later)) → (all : Data) →
        ((whole : Homed) → choice known whole (clauses t known h all) ≡ listing_or_bad whole (chosen_of t known h ds)) → Chooses t known h (Err e) all
    requirement_stops shape.BadForm k all same = λ whole.
        same whole ∙ ap (listing_or_bad whole) (so_far ∙ picks_none t known h o (chosen_of t known h (drop i ds)) (front ∙ bad_requirement t known h d (drop (i + 1) ds) (clause_with t known h r fs) here k))
    requirement_stops shape.Memory k all same = tt

    pub chosen_more : (b : Bool) (q : Option (Bor (List code.Datum))) → ((later : Trees (List ℕ)) → is_empty later ≡ is_nil (drop (i + 1) ds) → clause_holds (λ s. s) known (symbol_tree (datum_of r)) later ≡ Ok b) → OrFirst o b fs q →
        ChosenUpTo t known h ds (i + 1) q
    chosen_more b q k first =
        so_far ∙ ap (picks t known h o) (front ∙ good_requirement t known h d (drop (i + 1) ds) (clause_with t known h r fs) here b k)
        ∙ picks_more t known h o b fs q (chosen_of t known h (drop (i + 1) ds)) first

-- ---- all clauses

pub all_same : (t : Texts) (known : Known) (h : Homed) (ds : List code.Datum) (end : Option Datum) → is_some end ≡ false → 0 < length ds → (whole : Homed) →
    choice known whole (clauses t known h (row (data_of ds) (end_with end))) ≡ listing_or_bad whole (chosen_of t known h ds)
all_same t known h [] end e lt whole = absurd (omega arith)
all_same t known h (d ∷ ds) None e lt whole = some_choice t known h whole d ds
all_same t known h (d ∷ ds) (Some x) e lt whole = absurd cc

pub chosen_end : (t : Texts) (known : Known) (h : Homed) (ds : List code.Datum) (i : ℕ) (o : Option (Bor (List code.Datum))) → length ds ≤ i → ChosenUpTo t known h ds i o → chosen_of t known h ds ≡ picks t known h o (Some nothing)
chosen_end t known h ds i o e so_far = so_far ∙ ap (picks t known h o) (at_drop_all (chosen_of t known h) ds i e)

pub choice_err : (t : Texts) (known : Known) (h : Homed) (x : Result (Bor (List code.Datum)) ShapeFault) (e : ShapeFault) (all : Data) → IsErrAnd x (λ f. f ≡ e) → Chooses t known h (Err e) all → Chooses t known h x all
choice_err t known h (Ok y) e all k p = absurd k
choice_err t known h (Err f) e all k p = subst (λ (g : ShapeFault). Chooses t known h (Err g) all) (sym k) p

-- ---- what is chosen is lighter

pub lighter_more : (ds : List code.Datum) (i : ℕ) (d : code.Datum) (o : Option (Bor (List code.Datum))) (b : Bool) (c : code_clause.Clause) (q : Option (Bor (List code.Datum))) → i < length ds → d ≡ get_or ds i d → IsClause (Some c) (datum_of d) →
    IsLighter ds o → OrFirst o b c.forms.now q → IsLighter ds q
lighter_more ds i d (Some es) b c q lt is k l h = subst (IsLighter ds) (sym h) l
lighter_more ds i d None true c None lt is k l h = absurd h
lighter_more ds i d None true c (Some s) lt is k l h =
    let e = ap (λ (xs : List code.Datum). row_weight (data_of xs)) h in
    let w = item_lighter ds i d lt is in
    let own = k.2 in
    omega arith
lighter_more ds i d None false c q lt is k l h = subst (IsLighter ds) (sym h) tt

pub some_weight : (ds : List code.Datum) → 0 < length ds → 0 < row_weight (data_of ds)
some_weight [] h = absurd (omega arith)
some_weight (d ∷ ds) h = let l = first_lighter (d ∷ ds) d ds refl in omega (arith, l.1)
