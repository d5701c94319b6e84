-- The clauses of `cond-expand` as they are read: the first that holds is chosen.
use Rattle.std.proofs.Common.{◌≡◌, ℕ, suc, ◌+◌, ◌<◌, List, [], ◌∷◌, drop, Bool, true, false, Option, Some, None, Result, Ok, Err, refl, sym, ap, ◌∙◌, arith}
use Rattle.std.specs.Borrow.{Bor}
use Rattle.std.specs.Option.{is_some}
use Rattle.scheme_model.specs.Data.{Place, Datum, list, none, row}
use Rattle.scheme_model.specs.Trees.{Trees}
use Rattle.scheme_model.specs.ExpansionFaults.{Fault, BadForm}
use Rattle.scheme_model.specs.Requirements.{Known, clause_holds}
use Rattle.scheme_model.specs.Declarations.{proper_parts, symbol_tree}
use Rattle.scheme_model.specs.Included.{Homed, Listing, Texts, Clause, later_clauses, chosen, choice, bad, if_proper, clauses, clause_of, clause_with as clause_by, with_clause, declarations}
use Rattle.datum_reader.specs.declared.datum.Datum as code
use Rattle.datum_reader.specs.Views.{datum_of, data_of}
use Rattle.datum_reader.specs.Looks.{end_with}
use Rattle.datum_reader.proofs.DataRows.{dotted_parts, proper_all}
use Rattle.known_libraries.specs.Chosen.{is_empty}
use Rattle.known_libraries.specs.Weights.{weight, row_weight}
use Rattle.included_forms.specs.Choices.{all_declared, clause_with}
use Rattle.included_forms.proofs.DeclaredLaws.{proper_given, dotted_given, declared_row}

-- ---- the shape of a clause

module _ (t : Texts) (known : Known) (h : Homed) (p : Place) where
  pub clause_dotted : (ds : List code.Datum) (end : Option Datum) → is_some end ≡ true → clause_of t known h (list p (row (data_of ds) (end_with end))) ≡ None
  clause_dotted [] None e = absurd cc
  clause_dotted [] (Some d) e = refl
  clause_dotted (d ∷ ds) end e =
      let whole = list p (row (data_of (d ∷ ds)) (end_with end)) in
      ap (λ o. clause_by o (datum_of d) (declarations t known h whole (row (data_of ds) (end_with end)))) (dotted_parts (data_of ds) end e)

  pub clause_proper : (r : code.Datum) (fs : List code.Datum) (end : Option Datum) → is_some end ≡ false → clause_of t known h (list p (row (data_of (r ∷ fs)) (end_with end))) ≡ Some (clause_with t known h r fs)
  clause_proper r fs None e =
      let whole = list p (row (data_of (r ∷ fs)) none) in
      ap (λ o. clause_by o (datum_of r) (declarations t known h whole (row (data_of fs) none))) (proper_all (data_of fs) None refl)
      ∙ ap (λ l. Some (record { requirement = symbol_tree (datum_of r); given = l })) (declared_row t known h whole (data_of fs))
  clause_proper r fs (Some d) e = absurd cc

pub clause_weight : (p : Place) (ds : List code.Datum) (r : code.Datum) (fs : List code.Datum) (end : Option Datum) → ds ≡ r ∷ fs → is_some end ≡ false → suc (row_weight (data_of fs) + weight (datum_of r)) ≡ weight (list p (row (data_of ds) (end_with end)))
clause_weight p ds r fs (Some d) e h = absurd cc
clause_weight p ds r fs None e h = let same = ap (λ (xs : List code.Datum). row_weight (data_of xs)) e in omega arith

-- ---- what is chosen

-- what the first clause gives that holds, where all have their shapes
abbrev pub chosen_in : Known → Option (List Clause) → Option Listing
chosen_in known None = None
chosen_in known (Some cs) = chosen known cs

abbrev pub listing_or_bad : Homed → Option Listing → Listing
listing_or_bad h None = bad h
listing_or_bad h (Some l) = l

abbrev pub chosen_of : Texts → Known → Homed → List code.Datum → Option Listing
chosen_of t known h ds = chosen_in known (clauses t known h (row (data_of ds) none))

-- what these declarations give, if they were chosen
abbrev pub picks : Texts → Known → Homed → Option (Bor (List code.Datum)) → Option Listing → Option Listing
picks t known h None r = r
picks t known h (Some es) None = None
picks t known h (Some es) (Some l) = Some (all_declared t known h es.now)

-- so many clauses were gone through
abbrev pub ChosenUpTo : Texts → Known → Homed → List code.Datum → ℕ → Option (Bor (List code.Datum)) → Type 0
ChosenUpTo t known h ds i o = chosen_of t known h ds ≡ picks t known h o (chosen_of t known h (drop i ds))

-- what was chosen is lighter than the clauses
abbrev pub IsLighter : List code.Datum → Option (Bor (List code.Datum)) → Type 0
IsLighter ds None = Unit {0}
IsLighter ds (Some es) = row_weight (data_of es.now) < row_weight (data_of ds)

abbrev pub is_nil : List code.Datum → Bool
is_nil [] = true
is_nil (d ∷ ds) = false

-- what this gives where it holds and all behind it have their shapes
abbrev pub given_first : Bool → Listing → Option Listing → Option Listing
given_first b l None = None
given_first true l (Some m) = Some l
given_first false l (Some m) = Some m

-- what a clause gives, by whether it holds, before others
abbrev by_test : Result Bool (Fault (List ℕ)) → Listing → Option Listing → Option Listing
by_test (Err e) given later = None
by_test (Ok true) given None = None
by_test (Ok true) given (Some later) = Some given
by_test (Ok false) given later = later

module _ (t : Texts) (known : Known) (h : Homed) (d : code.Datum) (ds : List code.Datum) where
  clauses_later : (cs : List Clause) → clauses t known h (row (data_of ds) none) ≡ Some cs → is_empty (later_clauses cs) ≡ is_nil ds
  clauses_later cs e = go ds cs e
    where
      one : (o : Option Clause) (r : Option (List Clause)) (cs : List Clause) → with_clause o r ≡ Some cs → is_empty (later_clauses cs) ≡ false
      one None r cs e = absurd cc
      one (Some c) None cs e = absurd cc
      one (Some c) (Some rs) [] e = absurd cc
      one (Some c) (Some rs) (x ∷ xs) e = refl

      go : (es : List code.Datum) (cs : List Clause) → clauses t known h (row (data_of es) none) ≡ Some cs → is_empty (later_clauses cs) ≡ is_nil es
      go [] [] e = refl
      go [] (c ∷ cs) e = absurd cc
      go (x ∷ es) cs e = one (clause_of t known h (datum_of x)) (clauses t known h (row (data_of es) none)) cs e

  -- a clause without its shape
  pub no_clause : clause_of t known h (datum_of d) ≡ None → chosen_of t known h (d ∷ ds) ≡ None
  no_clause e = ap (λ o. chosen_in known (with_clause o (clauses t known h (row (data_of ds) none)))) e

  module _ (k : Clause) (here : clause_of t known h (datum_of d) ≡ Some k) where
    split : chosen_of t known h (d ∷ ds) ≡ chosen_in known (with_clause (Some k) (clauses t known h (row (data_of ds) none)))
    split = ap (λ o. chosen_in known (with_clause o (clauses t known h (row (data_of ds) none)))) here

    -- a requirement without its shape
    pub bad_requirement : ((later : Trees (List ℕ)) → is_empty later ≡ is_nil ds → clause_holds (λ s. s) known k.requirement later ≡ Err BadForm) → chosen_of t known h (d ∷ ds) ≡ None
    bad_requirement e = split ∙ go (clauses t known h (row (data_of ds) none)) refl
      where
        go : (cs : Option (List Clause)) → clauses t known h (row (data_of ds) none) ≡ cs → chosen_in known (with_clause (Some k) cs) ≡ None
        go None q = refl
        go (Some cs) q = ap (λ r. by_test r k.given (chosen known cs)) (e (later_clauses cs) (clauses_later cs q))

    pub good_requirement : (b : Bool) → ((later : Trees (List ℕ)) → is_empty later ≡ is_nil ds → clause_holds (λ s. s) known k.requirement later ≡ Ok b) →
        chosen_of t known h (d ∷ ds) ≡ given_first b k.given (chosen_of t known h ds)
    good_requirement b e = split ∙ go (clauses t known h (row (data_of ds) none)) refl
      where
        by : (x : Bool) (o : Option Listing) → by_test (Ok x) k.given o ≡ given_first x k.given o
        by true None = refl
        by true (Some l) = refl
        by false None = refl
        by false (Some l) = refl

        go : (cs : Option (List Clause)) → clauses t known h (row (data_of ds) none) ≡ cs → chosen_in known (with_clause (Some k) cs) ≡ given_first b k.given (chosen_in known cs)
        go None q = refl
        go (Some cs) q = ap (λ r. by_test r k.given (chosen known cs)) (e (later_clauses cs) (clauses_later cs q)) ∙ by b (chosen known cs)

-- ---- all clauses

-- there is one at least
pub some_choice : (t : Texts) (known : Known) (h whole : Homed) (d : code.Datum) (ds : List code.Datum) → choice known whole (clauses t known h (row (data_of (d ∷ ds)) none)) ≡ listing_or_bad whole (chosen_of t known h (d ∷ ds))
some_choice t known h whole d ds = go (clause_of t known h (datum_of d)) (clauses t known h (row (data_of ds) none))
  where
    go : (c : Option Clause) (cs : Option (List Clause)) → choice known whole (with_clause c cs) ≡ listing_or_bad whole (chosen_in known (with_clause c cs))
    go None cs = refl
    go (Some c) None = refl
    go (Some c) (Some cs) = refl

clauses_dotted : (t : Texts) (known : Known) (h : Homed) (ds : List code.Datum) (end : Option Datum) → is_some end ≡ true → clauses t known h (row (data_of ds) (end_with end)) ≡ None
clauses_dotted t known h [] None e = absurd cc
clauses_dotted t known h [] (Some d) e = refl
clauses_dotted t known h (d ∷ ds) end e = ap (with_clause (clause_of t known h (datum_of d))) (clauses_dotted t known h ds end e) ∙ none_behind (clause_of t known h (datum_of d))
  where
    none_behind : (c : Option Clause) → with_clause c None ≡ None
    none_behind None = refl
    none_behind (Some c) = refl

pub choice_dotted : (t : Texts) (known : Known) (h whole : Homed) (ds : List code.Datum) (end : Option Datum) → is_some end ≡ true → choice known whole (clauses t known h (row (data_of ds) (end_with end))) ≡ bad whole
choice_dotted t known h whole ds end e = ap (choice known whole) (clauses_dotted t known h ds end e)

-- clauses that a tail ends are none
pub choice_given : (t : Texts) (known : Known) (h whole : Homed) (ds : List code.Datum) (end : Option Datum) →
    if_proper whole (proper_parts (row (data_of ds) (end_with end))) (λ parts. choice known whole (clauses t known h (row (data_of ds) (end_with end)))) ≡ choice known whole (clauses t known h (row (data_of ds) (end_with end)))
choice_given t known h whole ds None = proper_given whole (data_of ds) None (λ parts. choice known whole (clauses t known h (row (data_of ds) none))) refl
choice_given t known h whole ds (Some d) =
    let r = row (data_of ds) (end_with (Some d)) in
    dotted_given whole (data_of ds) (Some d) (λ parts. choice known whole (clauses t known h r)) refl ∙ sym (choice_dotted t known h whole ds (Some d) refl)
