-- Where the turn of a form comes (R7RS 5.1, 5.3), behind those of other forms of its unit; and what is kept of forms where more of them are
-- kept.
use Rattle.std.specs.Prelude.{◌≡◌, ℕ, zero, suc, List, [], ◌∷◌, ◌++◌, take, length, Option, Some, None, Result, Ok, Err}
use Rattle.scheme_model.specs.Ident.{Ident}
use Rattle.scheme_model.specs.Trees.{Tree}
use Rattle.scheme_model.specs.Requirements.{Known}
use Rattle.scheme_model.specs.RulesShape.{option_map}
use Rattle.scheme_model.specs.Cores.{Parts, no_parts, Part}
use Rattle.scheme_model.specs.Steps.{Broken}
use Rattle.scheme_model.specs.Order.{Note}
use Rattle.scheme_model.specs.UnitExpansion.{Work, ◌then◌, going, unless_over, with_part}
use Rattle.scheme_model.specs.ScopedExpansion.{FramedIdent, ScopedState}
use Rattle.scheme_model.specs.CountedExpansion.{counted}
use Rattle.scheme_model.specs.Questions.{Moment, Around}
use Rattle.form_laws.specs.Begins.{Each}
use Rattle.kept_forms.specs.KeptForms.{KeptAside, KeptItem, KeptParts, KeptForm, FormOrKept, LeftOrKept, around_form, numbers_of}
use Rattle.kept_forms.specs.Carried.{Onwards, RestStays, kept_parts, kept_form}
use Rattle.forgotten_locals.specs.Ways.{Way, firsts_by, seconds_by}

-- these forms are gone through: the notes behind them
abbrev pub passed : Way → Known → List ℕ → List FormOrKept → List (Note FramedIdent) → Work ScopedState (List (Note FramedIdent))
passed way known fs [] notes s = going notes s
passed way known fs (x ∷ xs) notes s = unless_over (counted known) fs (way.first (around_form known x.form notes s) x.tree x.kept) then λ q t. passed way known fs xs q.notes t

-- P holds of what is around a form where its first turn comes, behind these and before those
abbrev pub AtFirst : (Around → Type 0) → Way → Known → List FormOrKept → FormOrKept → List FormOrKept → ScopedState → Type 0
AtFirst P way known ys x zs s = Onwards (λ ns t. P (around_form known x.form ns t)) (passed way known (numbers_of (ys ++ x ∷ zs)) ys [] s)

-- and where its second turn comes
abbrev pub AtSecond : (Around → Type 0) → Way → Known → List FormOrKept → FormOrKept → List FormOrKept → ScopedState → Type 0
AtSecond P way known ys x zs s =
    let fs = numbers_of (ys ++ x ∷ zs) in
    Onwards (λ rs t. Onwards (λ ps u. P (around_form known x.form [] u)) (seconds_by way known fs (take (length ys) rs) t)) (firsts_by way known fs (ys ++ x ∷ zs) [] s)

-- ---- what is kept

-- a form of which this is kept
abbrev pub form_with : ℕ × Tree Ident → Option KeptForm → FormOrKept
form_with n k = record { form = n.0; tree = n.1; kept = k }

abbrev pub NotKept : List FormOrKept → Type 0
NotKept xs = Each (λ (x : FormOrKept). x.kept ≡ None) xs

-- of the rest of a form nothing is kept
abbrev pub NoRest : Option KeptForm → Type 0
NoRest None = Unit {0}
NoRest (Some k) = k.parts ≡ None

abbrev pub NoRests : List FormOrKept → Type 0
NoRests xs = Each (λ (x : FormOrKept). NoRest x.kept) xs

-- in a first turn nothing is read of what is kept of the rest
abbrev pub GoesByAside : Way → Type 0
GoesByAside way = (v : Around) (t : Tree Ident) (k : KeptAside) (parts : Option KeptParts) → way.first v t (Some (kept_form k parts)) ≡ way.first v t (Some (kept_form k None))

-- the rest of a form may be kept where its second turn comes, with whatever numbers of definitions
abbrev pub PartsKept : Around → ℕ → KeptParts → Type 0
PartsKept v turns c = (w : Around) × RestStays w v turns c.left × (c ≡ kept_parts w turns c.before c.left)

-- this is kept of the rest of the form at a place
abbrev pub put_rest : ℕ → Option KeptParts → List LeftOrKept → List LeftOrKept
put_rest n c [] = []
put_rest zero c (r ∷ rs) = record r { kept = c } ∷ rs
put_rest (suc n) c (r ∷ rs) = r ∷ put_rest n c rs

-- what is given, made into something else
abbrev pub given_as : {S X Y : Type 0} → (X → Y) → Option X × S → Option Y × S
given_as f q = (option_map f q.0, q.1)

-- ---- what is kept of the rest

-- the moment behind all items
abbrev pub last_of : Moment → List KeptItem → Moment
last_of m [] = m
last_of m (k ∷ ks) = last_of k.moment ks

-- what the items come to together
abbrev pub part_before : Result Part Broken → Result Parts Broken → Result Parts Broken
part_before (Ok p) r = with_part p r
part_before (Err e) r = Err e

abbrev pub result_in : List KeptItem → Result Parts Broken
result_in [] = Ok no_parts
result_in (k ∷ ks) = part_before k.part (result_in ks)
