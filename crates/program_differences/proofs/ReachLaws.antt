-- The marks of units are those of the units in reach.
use Rattle.std.proofs.Common.{◌≡◌, ℕ, zero, suc, ◌+◌, ◌<◌, ◌≤◌, Bool, true, false, List, [], ◌∷◌, filter, length, replicate, drop, set, get_or, ◌-◌, refl, sym, ap, ◌∙◌, subst, arith, add-one}
use Rattle.std.specs.Prelude.{◌==◌, ◌&&◌, ◌||◌, not, nat_lt, nat_le, if◌then◌else◌}
use Rattle.std.specs.List.{list_any}
use Rattle.std.proofs.lemmas.Bool.Decides.{nat_tests}
use Rattle.std.specs.List.Sorted.{IsPermutation}
use Rattle.std.proofs.lemmas.List.{length-replicate, at_drop_more}
use Rattle.std.proofs.lemmas.List.Sorted.{list_any-IsPermutation}
use Rattle.scheme_model.specs.declared.Occ.{Occ}
use Rattle.scheme_model.specs.Declarations.{UnitForm, home_of, is_token_of, one_holds, is_part_kind}
use Rattle.scheme_model.specs.Includes.{max_units}
use Rattle.scheme_model.specs.IncludedUnits.{Placed}
use Rattle.scheme_model.specs.Program.{UnitResult, Program, is_in}
use Rattle.scheme_model.specs.Requirements.{LibraryName}
use Rattle.rename_model.specs.Reach as reach
use Rattle.rename_model.specs.Reach.{holds_one, imports_one, unit_numbers, reaching, in_reach}
use Rattle.syntax_tree.specs.declared.trees.Work.{Work}
use Rattle.core_tree.specs.Units.{UnitsStand, ranges_from}
use Rattle.core_tree.specs.declared.units.TokenRange.{TokenRange}
use Rattle.core_tree.specs.declared.units.Unit.{Unit as CodeUnit}
use Rattle.program_differences.specs.Reached.{marked, with_mark, range_holds, unit_holds, with_holder, with_holders, one_marked, with_importers, in_rounds, marks_from, Marks, HasImports, HaveImports}

-- ---- one mark

or_true : (b : Bool) → (b || true) ≡ true
or_true true = refl
or_true false = refl

or_false : (b : Bool) → (b || false) ≡ b
or_false true = refl
or_false false = refl

and_false : (b : Bool) → (b && false) ≡ false
and_false true = refl
and_false false = refl

and_true : (b : Bool) → (b && true) ≡ b
and_true true = refl
and_true false = refl

or_both : (a b c : Bool) → ((a || b) || c) ≡ (a || (b || c))
or_both true b c = refl
or_both false b c = refl

pub length_with : (bs : List Bool) (m : ℕ) → length (with_mark bs m) ≡ length bs
length_with [] m = refl
length_with (b ∷ bs) zero = refl
length_with (b ∷ bs) (suc m) = ap suc (length_with bs m)

-- one unit is marked, where there is one
mark_told : (bs : List Bool) (m n : ℕ) → marked (with_mark bs m) n ≡ (marked bs n || ((m == n) && nat_lt n (length bs)))
mark_told [] m n = let none : nat_lt n 0 ≡ false = grind (arith, nat_tests) in sym (ap (λ (b : Bool). (m == n) && b) none ∙ and_false (m == n))
mark_told (b ∷ bs) zero zero =
    let here : nat_lt 0 (length (b ∷ bs)) ≡ true = grind (arith, nat_tests) in
    let same : (0 == 0) ≡ true = grind (arith, nat_tests) in
    sym ((λ j. b || (same j && here j)) ∙ or_true b)
mark_told (b ∷ bs) zero (suc n) =
    let other : (0 == suc n) ≡ false = grind (arith, nat_tests) in
    sym (ap (λ (x : Bool). marked bs n || (x && nat_lt (suc n) (length (b ∷ bs)))) other ∙ or_false (marked bs n))
mark_told (b ∷ bs) (suc m) zero =
    let other : (suc m == 0) ≡ false = grind (arith, nat_tests) in
    sym (ap (λ (x : Bool). b || (x && nat_lt 0 (length (b ∷ bs)))) other ∙ or_false b)
mark_told (b ∷ bs) (suc m) (suc n) =
    let same : (suc m == suc n) ≡ (m == n) = grind (arith, nat_tests) in
    let less : nat_lt (suc n) (length (b ∷ bs)) ≡ nat_lt n (length bs) = grind (arith, nat_tests) in
    mark_told bs m n ∙ sym (λ j. marked bs n || (same j && less j))

-- ---- holders

none_marked : (k n : ℕ) → marked (replicate k false) n ≡ false
none_marked zero n = refl
none_marked (suc k) zero = refl
none_marked (suc k) (suc n) = none_marked k n

either_any : {X : Type 0} (p q : X → Bool) (xs : List X) → list_any (λ x. p x || q x) xs ≡ (list_any p xs || list_any q xs)
either_any p q [] = refl
either_any p q (x ∷ xs) = ap (λ (b : Bool). (p x || q x) || b) (either_any p q xs) ∙ turn (p x) (q x) (list_any p xs) (list_any q xs)
  where
    turn : (a b c d : Bool) → ((a || b) || (c || d)) ≡ ((a || c) || (b || d))
    turn true b c d = refl
    turn false true c d = sym (or_true c)
    turn false false c d = refl

none_of : {X : Type 0} (xs : List X) → list_any (λ (x : X). false) xs ≡ false
none_of [] = refl
none_of (x ∷ xs) = none_of xs

-- the forms of a unit hold one of these where their ranges do
forms_told : (unit form : ℕ) (fs : List UnitForm) (os : List Occ) → list_any (one_holds unit form fs) os ≡ list_any (λ t. list_any (range_holds t) os) (ranges_from unit form fs)
forms_told unit form [] os = none_of os
forms_told unit form (f ∷ fs) os =
    either_any (is_token_of (home_of unit form f) f.datum) (one_holds unit (suc form) fs) os
    ∙ ap (λ (b : Bool). list_any (is_token_of (home_of unit form f) f.datum) os || b) (forms_told unit (suc form) fs os)

and_swap : (a b c : Bool) → (b && (a && c)) ≡ ((a && b) && c)
and_swap true true c = refl
and_swap true false c = refl
and_swap false true c = refl
and_swap false false c = refl

same_any : (ts : List TokenRange) (os ps : List Occ) → IsPermutation os ps → list_any (λ t. list_any (range_holds t) os) ts ≡ list_any (λ t. list_any (range_holds t) ps) ts
same_any [] os ps h = refl
same_any (t ∷ ts) os ps h = (λ j. list_any-IsPermutation (range_holds t) os ps h j || same_any ts os ps h j)

unit_told : (place : ℕ) (c : CodeUnit) (r : UnitResult) (os ps : List Occ) → HasImports place c r → IsPermutation os ps → (nat_lt place max_units && unit_holds ps c) ≡ holds_one os r
unit_told place c r os ps h same =
    let any : list_any (λ t. list_any (range_holds t) ps) c.ranges.items ≡ list_any (one_holds r.unit.number 0 r.unit.forms) os =
    sym (same_any c.ranges.items os ps same) ∙ ap (list_any (λ t. list_any (range_holds t) os)) h.ranges
    ∙ sym (ap (λ (n : ℕ). list_any (one_holds n 0 r.unit.forms) os) h.number ∙ forms_told place 0 r.unit.forms os) in
    (λ j. nat_lt (sym h.number j) max_units && (not (is_part_kind (h.kind j)) && any j))
    ∙ and_swap (not (is_part_kind r.unit.placed.source.kind)) (nat_lt r.unit.number max_units) (list_any (one_holds r.unit.number 0 r.unit.forms) os)

length_if : (bs : List Bool) (p : ℕ) (q : Bool) → length (if q then with_mark bs p else bs) ≡ length bs
length_if bs p true = length_with bs p
length_if bs p false = refl

-- the units from a place on are marked that hold one
holders_told : (p : ℕ) (cs : List CodeUnit) (rs : List UnitResult) (bs : List Bool) (os ps : List Occ) → HaveImports p cs rs → IsPermutation os ps → p + length cs ≤ length bs → (n : ℕ) →
    marked (with_holders ps p cs bs) n ≡ (marked bs n || is_in n (unit_numbers (filter (holds_one os) rs)))
holders_told p [] [] bs os ps h same le n = sym (or_false (marked bs n))
holders_told p [] (r ∷ rs) bs os ps h same le n = absurd h
holders_told p (c ∷ cs) [] bs os ps h same le n = absurd h
holders_told p (c ∷ cs) (r ∷ rs) bs os ps h same le n =
    let q = nat_lt p max_units && unit_holds ps c in
    let next : List Bool = if q then with_mark bs p else bs in
    let size = length_if bs p q in
    holders_told (suc p) cs rs next os ps h.1 same (omega (arith, le, size)) n
    ∙ by q (holds_one os r) (unit_told p c r os ps h.0 same)
  where
    rest : List ℕ
    rest = unit_numbers (filter (holds_one os) rs)

    marks : marked (with_mark bs p) n ≡ (marked bs n || (r.unit.number == n))
    marks = mark_told bs p n ∙ ap (λ (b : Bool). marked bs n || b) (here (p == n) refl) ∙ ap (λ (m : ℕ). marked bs n || (m == n)) (sym h.0.number)
      where
        here : (b : Bool) → (p == n) ≡ b → ((p == n) && nat_lt n (length bs)) ≡ (p == n)
        here true e = let less : nat_lt n (length bs) ≡ true = grind (arith, nat_tests) in ap (λ (x : Bool). (p == n) && x) less ∙ and_true (p == n)
        here false e = ap (λ (x : Bool). x && nat_lt n (length bs)) e ∙ sym e

    by : (q b : Bool) → q ≡ b → (marked (if q then with_mark bs p else bs) n || is_in n rest) ≡ (marked bs n || is_in n (unit_numbers (if b then r ∷ filter (holds_one os) rs else filter (holds_one os) rs)))
    by true true e = ap (λ (x : Bool). x || is_in n rest) marks ∙ or_both (marked bs n) (r.unit.number == n) (is_in n rest) ∙ turned
      where
        turned : (marked bs n || ((r.unit.number == n) || is_in n rest)) ≡ (marked bs n || ((n == r.unit.number) || is_in n rest))
        turned = let same : (r.unit.number == n) ≡ (n == r.unit.number) = grind (arith, nat_tests) in ap (λ (x : Bool). marked bs n || (x || is_in n rest)) same
    by true false e = absurd cc
    by false true e = absurd cc
    by false false e = refl

pub length_holders : (ps : List Occ) (p : ℕ) (cs : List CodeUnit) (bs : List Bool) → length (with_holders ps p cs bs) ≡ length bs
length_holders ps p [] bs = refl
length_holders ps p (c ∷ cs) bs = length_holders ps (suc p) cs (with_holder ps p c bs) ∙ length_if bs p (nat_lt p max_units && unit_holds ps c)

holders_are : (cs : List CodeUnit) (rs : List UnitResult) (os ps : List Occ) → HaveImports 0 cs rs → IsPermutation os ps → Marks (with_holders ps 0 cs (replicate (length cs) false)) (unit_numbers (filter (holds_one os) rs))
holders_are cs rs os ps h same n =
    let size : length (replicate (length cs) false) ≡ length cs = length-replicate (length cs) false in
    holders_told 0 cs rs (replicate (length cs) false) os ps h same (omega (arith, size)) n
    ∙ ap (λ (b : Bool). b || is_in n (unit_numbers (filter (holds_one os) rs))) (none_marked (length cs) n)

-- ---- importers

one_told : (bs : List Bool) (ns is : List ℕ) → Marks bs ns → one_marked bs is ≡ list_any (λ n. is_in n ns) is
one_told bs ns [] m = refl
one_told bs ns (i ∷ is) m = λ j. m i j || one_told bs ns is m j

one_more : (bs : List Bool) (ns : List ℕ) (p : ℕ) (q : Bool) → p < length bs → Marks bs ns → Marks (if q then with_mark bs p else bs) (if not (is_in p ns) && q then p ∷ ns else ns)
one_more bs ns p false lt m n = m n ∙ ap (λ (b : Bool). is_in n (if b then p ∷ ns else ns)) (sym (and_false (not (is_in p ns))))
one_more bs ns p true lt m n = by_there (is_in p ns) (n == p) refl refl
  where
    told : marked (with_mark bs p) n ≡ ((n == p) || is_in n ns)
    told = mark_told bs p n ∙ (λ j. m n j || ((p == n) && nat_lt n (length bs))) ∙ turn (n == p) (is_in n ns) refl
      where
        turn : (q i : Bool) → (n == p) ≡ q → (i || ((p == n) && nat_lt n (length bs))) ≡ (q || i)
        turn true i e =
            let here : (p == n) ≡ true = grind (arith, nat_tests) in
            let inside : nat_lt n (length bs) ≡ true = grind (arith, nat_tests) in
            (λ j. i || (here j && inside j)) ∙ or_true i
        turn false i e =
            let other : (p == n) ≡ false = grind (arith, nat_tests) in
            ap (λ (x : Bool). i || (x && nat_lt n (length bs))) other ∙ or_false i

    by_there : (t q : Bool) → is_in p ns ≡ t → (n == p) ≡ q → marked (with_mark bs p) n ≡ is_in n (if not t && true then p ∷ ns else ns)
    by_there false q e k = told
    by_there true true e k =
        let is : n ≡ p = grind (arith, nat_tests) in
        told ∙ ap (λ (x : Bool). x || is_in n ns) k ∙ sym (ap (λ (x : ℕ). is_in x ns) is ∙ e)
    by_there true false e k = told ∙ ap (λ (x : Bool). x || is_in n ns) k

importers_are : (p : ℕ) (cs : List CodeUnit) (rs : List UnitResult) (bs : List Bool) (ns : List ℕ) → HaveImports p cs rs → p + length cs ≤ length bs → Marks bs ns → Marks (with_importers p cs bs) (reach.with_importers rs ns)
importers_are p [] [] bs ns h le m = m
importers_are p [] (r ∷ rs) bs ns h le m = absurd h
importers_are p (c ∷ cs) [] bs ns h le m = absurd h
importers_are p (c ∷ cs) (r ∷ rs) bs ns h le m =
    let q = one_marked bs c.imports in
    let same : q ≡ imports_one ns r = one_told bs ns c.imports m ∙ ap (list_any (λ n. is_in n ns)) h.0.imports in
    let next : Marks (if q then with_mark bs p else bs) (if not (is_in p ns) && q then p ∷ ns else ns) = one_more bs ns p q (omega (arith, le)) m in
    let size = length_if bs p q in
    let model : (if not (is_in p ns) && q then p ∷ ns else ns) ≡ (if not (is_in r.unit.number ns) && imports_one ns r then r.unit.number ∷ ns else ns) =
    λ j. if not (is_in (sym h.0.number j) ns) && same j then sym h.0.number j ∷ ns else ns in
    importers_are (suc p) cs rs (if q then with_mark bs p else bs) _ h.1 (omega (arith, le, size)) (subst (Marks (if q then with_mark bs p else bs)) model next)

pub length_importers : (p : ℕ) (cs : List CodeUnit) (bs : List Bool) → length (with_importers p cs bs) ≡ length bs
length_importers p [] bs = refl
length_importers p (c ∷ cs) bs = length_importers (suc p) cs (if one_marked bs c.imports then with_mark bs p else bs) ∙ length_if bs p (one_marked bs c.imports)

rounds_are : (k : ℕ) (cs : List CodeUnit) (rs : List UnitResult) (bs : List Bool) (ns : List ℕ) → HaveImports 0 cs rs → length bs ≡ length cs → Marks bs ns → Marks (in_rounds k cs bs) (reaching rs k ns)
rounds_are zero cs rs bs ns h e m = m
rounds_are (suc k) cs rs bs ns h e m =
    rounds_are k cs rs (with_importers 0 cs bs) (reach.with_importers rs ns) h (length_importers 0 cs bs ∙ e) (importers_are 0 cs rs bs ns h (omega (arith, e)) m)

length_rounds : (k : ℕ) (cs : List CodeUnit) (bs : List Bool) → length (in_rounds k cs bs) ≡ length bs
length_rounds zero cs bs = refl
length_rounds (suc k) cs bs = length_rounds k cs (with_importers 0 cs bs) ∙ length_importers 0 cs bs

-- a round that marks nothing is the last
pub rounds_stay : (k : ℕ) (cs : List CodeUnit) (bs : List Bool) → with_importers 0 cs bs ≡ bs → in_rounds k cs bs ≡ bs
rounds_stay zero cs bs e = refl
rounds_stay (suc k) cs bs e = ap (in_rounds k cs) e ∙ rounds_stay k cs bs e

-- ---- the units in reach

numbers_count : (p : ℕ) (cs : List CodeUnit) (rs : List UnitResult) → HaveImports p cs rs → length cs ≡ length rs
numbers_count p [] [] h = refl
numbers_count p [] (r ∷ rs) h = absurd h
numbers_count p (c ∷ cs) [] h = absurd h
numbers_count p (c ∷ cs) (r ∷ rs) h = ap suc (numbers_count (suc p) cs rs h.1)

gathered : (p : ℕ) (cs : List CodeUnit) (rs : List UnitResult) (bs : List Bool) (f : ℕ → Bool) → HaveImports p cs rs → length bs ≡ length cs → ((n : ℕ) → n < length bs → marked bs n ≡ f (p + n)) → marks_from p bs ≡ filter f (unit_numbers rs)
gathered p [] [] [] f h e m = refl
gathered p [] [] (b ∷ bs) f h e m = absurd (omega (arith, e))
gathered p [] (r ∷ rs) bs f h e m = absurd h
gathered p (c ∷ cs) [] bs f h e m = absurd h
gathered p (c ∷ cs) (r ∷ rs) [] f h e m = absurd (omega (arith, e))
gathered p (c ∷ cs) (r ∷ rs) (b ∷ bs) f h e m =
    let first : p + 0 ≡ r.unit.number = omega (arith, h.0.number) in
    let here : b ≡ f r.unit.number = m 0 (omega arith) ∙ ap f first in
    let size : length bs ≡ length cs = omega (arith, e) in
    let rest = gathered (suc p) cs rs bs f h.1 size (λ n lt. let next : p + suc n ≡ suc p + n = omega arith in m (suc n) (omega (arith, lt)) ∙ ap f next) in
    (λ j. if here j then sym h.0.number j ∷ rest j else rest j)

pub reach_is : (cs : List CodeUnit) (rs : List UnitResult) (os ps : List Occ) → HaveImports 0 cs rs → IsPermutation os ps →
    marks_from 0 (in_rounds (length cs) cs (with_holders ps 0 cs (replicate (length cs) false))) ≡ in_reach rs os
reach_is cs rs os ps h same =
    let bs = with_holders ps 0 cs (replicate (length cs) false) in
    let ns = unit_numbers (filter (holds_one os) rs) in
    let size : length bs ≡ length cs = length_holders ps 0 cs (replicate (length cs) false) ∙ length-replicate (length cs) false in
    let m = rounds_are (length cs) cs rs bs ns h size (holders_are cs rs os ps h same) in
    let all : length (in_rounds (length cs) cs bs) ≡ length cs = length_rounds (length cs) cs bs ∙ size in
    gathered 0 cs rs (in_rounds (length cs) cs bs) (λ n. is_in n (reaching rs (length cs) ns)) h all (λ n lt. let plus : n ≡ 0 + n = omega arith in m n ∙ ap (λ (k : ℕ). is_in k (reaching rs (length cs) ns)) plus)
    ∙ ap (λ (k : ℕ). filter (λ n. is_in n (reaching rs k ns)) (unit_numbers rs)) (numbers_count 0 cs rs h)

-- ---- marks by places

pub marked_at : (bs : List Bool) (n : ℕ) (d : Bool) → n < length bs → marked bs n ≡ get_or bs n d
marked_at [] n d lt = absurd (omega (arith, lt))
marked_at (b ∷ bs) zero d lt = refl
marked_at (b ∷ bs) (suc n) d lt = marked_at bs n d (omega (arith, lt))

pub marked_past : (bs : List Bool) (n : ℕ) → length bs ≤ n → marked bs n ≡ false
marked_past [] n le = refl
marked_past (b ∷ bs) zero le = absurd (omega (arith, le))
marked_past (b ∷ bs) (suc n) le = marked_past bs n (omega (arith, le))

pub mark_set : (bs : List Bool) (n : ℕ) → with_mark bs n ≡ set bs n true
mark_set [] n = refl
mark_set (b ∷ bs) zero = refl
mark_set (b ∷ bs) (suc n) = ap (λ (xs : List Bool). b ∷ xs) (mark_set bs n)

pub mark_past : (bs : List Bool) (n : ℕ) → length bs ≤ n → with_mark bs n ≡ bs
mark_past [] n le = refl
mark_past (b ∷ bs) zero le = absurd (omega (arith, le))
mark_past (b ∷ bs) (suc n) le = ap (λ (xs : List Bool). b ∷ xs) (mark_past bs n (omega (arith, le)))

pub mark_again : (bs : List Bool) (n : ℕ) → marked bs n ≡ true → with_mark bs n ≡ bs
mark_again [] n e = refl
mark_again (b ∷ bs) zero e = ap (λ (x : Bool). x ∷ bs) (sym e)
mark_again (b ∷ bs) (suc n) e = ap (λ (xs : List Bool). b ∷ xs) (mark_again bs n e)

-- ---- one more

-- a unit is put in reach or isn't
pub holders_more : (os : List Occ) (us : List CodeUnit) (bs new : List Bool) (k : ℕ) (d : CodeUnit) → k < length us → with_holder os k (get_or us k d) bs ≡ new →
    with_holders os (k + 1) (drop (k + 1) us) new ≡ with_holders os k (drop k us) bs
holders_more os us bs new k d lt e =
    sym (at_drop_more (λ (xs : List CodeUnit). with_holders os k xs bs) us k d lt
    ∙ ap (with_holders os (suc k) (drop (k + 1) us)) e
    ∙ ap (λ (n : ℕ). with_holders os n (drop (k + 1) us) new) (sym (add-one k)))

pub one_here : (bs : List Bool) (ns : List ℕ) (k d : ℕ) → k < length ns → marked bs (get_or ns k d) ≡ true → one_marked bs (drop k ns) ≡ true
one_here bs ns k d lt e = at_drop_more (one_marked bs) ns k d lt ∙ ap (λ (b : Bool). b || one_marked bs (drop (k + 1) ns)) e

pub one_past : (bs : List Bool) (ns : List ℕ) (k d : ℕ) → k < length ns → marked bs (get_or ns k d) ≡ false → one_marked bs (drop (k + 1) ns) ≡ one_marked bs (drop k ns)
one_past bs ns k d lt e = sym (at_drop_more (one_marked bs) ns k d lt ∙ ap (λ (b : Bool). b || one_marked bs (drop (k + 1) ns)) e)

-- a unit is put in reach, is in reach already, or imports none in reach
pub importers_more : (us : List CodeUnit) (bs new : List Bool) (k : ℕ) (d : CodeUnit) → k < length us → (if one_marked bs (get_or us k d).imports then with_mark bs k else bs) ≡ new →
    with_importers (k + 1) (drop (k + 1) us) new ≡ with_importers k (drop k us) bs
importers_more us bs new k d lt e =
    sym (at_drop_more (λ (xs : List CodeUnit). with_importers k xs bs) us k d lt
    ∙ ap (λ (xs : List Bool). with_importers (suc k) (drop (k + 1) us) xs) e
    ∙ ap (λ (n : ℕ). with_importers n (drop (k + 1) us) new) (sym (add-one k)))

pub kept_already : (bs : List Bool) (k : ℕ) (q : Bool) → marked bs k ≡ true → (if q then with_mark bs k else bs) ≡ bs
kept_already bs k true e = mark_again bs k e
kept_already bs k false e = refl

pub last_round : (k n : ℕ) (us : List CodeUnit) (bs : List Bool) → with_importers 0 us bs ≡ bs → in_rounds (n - k) us bs ≡ bs
last_round k n us bs e = rounds_stay (n - k) us bs e

pub next_round : (k : ℕ) (us : List CodeUnit) (bs : List Bool) → k < length us → in_rounds (length us - (k + 1)) us (with_importers 0 us bs) ≡ in_rounds (length us - k) us bs
next_round k us bs lt =
    let more : length us - k ≡ suc (length us - (k + 1)) = omega arith in
    sym (ap (λ (m : ℕ). in_rounds m us bs) more)

pub places_more : (bs : List Bool) (k : ℕ) (d : Bool) → k < length bs → marks_from k (drop k bs) ≡ (if get_or bs k d then k ∷ marks_from (k + 1) (drop (k + 1) bs) else marks_from (k + 1) (drop (k + 1) bs))
places_more bs k d lt =
    at_drop_more (marks_from k) bs k d lt
    ∙ ap (λ (n : ℕ). if get_or bs k d then k ∷ marks_from n (drop (k + 1) bs) else marks_from n (drop (k + 1) bs)) (sym (add-one k))

-- none was put in reach
pub either_false : (a b : Bool) → (a || b) ≡ false → (a ≡ false) × (b ≡ false)
either_false true b h = absurd cc
either_false false b h = (refl, h)

-- ---- what units import

pub have_imports : (work : Work) (text : LibraryName → List ℕ) (uris : List (List ℕ)) (all : List Placed) (p : Program) (place : ℕ) (cs : List CodeUnit) (rs : List UnitResult) → UnitsStand work text uris all p place cs rs → HaveImports place cs rs
have_imports work text uris all p place [] [] h = tt
have_imports work text uris all p place [] (r ∷ rs) h = absurd h
have_imports work text uris all p place (c ∷ cs) [] h = absurd h
have_imports work text uris all p place (c ∷ cs) (r ∷ rs) h = (record { number = h.0.number; kind = h.0.kind; ranges = h.0.ranges; imports = h.0.imports }, have_imports work text uris all p (suc place) cs rs h.1)
