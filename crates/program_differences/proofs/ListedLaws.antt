-- Units are the same in their lists where the code says so, and the first that differ are those that it finds.
use Rattle.std.proofs.Common.{◌≡◌, ◌⊎◌, inl, inr, ℕ, zero, suc, ◌+◌, ◌<◌, ◌≤◌, List, [], ◌∷◌, ◌++◌, map, drop, get_or, length, Bool, true, false, Option, Some, None, refl, sym, ap, ◌∙◌, subst, arith, add-one}
use Rattle.std.specs.Prelude.{◌==◌, ◌&&◌, slice_get, max, nat_le, if◌then◌else◌}
use Rattle.std.specs.List.{flat_map}
use Rattle.std.specs.Str.{bytes_eq}
use Rattle.std.proofs.lemmas.Slice.Eq.{bytes_eq-Decides}
use Rattle.std.proofs.lemmas.Bool.Decides.{nat_tests}
use Rattle.std.proofs.lemmas.List.{at_drop_more, at_drop_all}
use Rattle.std.proofs.lemmas.Option.{same_Some}
use Rattle.scheme_model.specs.declared.Occ.{Occ}
use Rattle.scheme_model.specs.Requirements.{LibraryPart, LibraryName, Symbol, Digits}
use Rattle.scheme_model.specs.IncludedUnits.{Placed}
use Rattle.scheme_model.specs.Program.{UnitResult, Program, result_at}
use Rattle.rename_model.specs.Walks.{Point, AtShape, AtErrors, OfName, OfNumber, IsSymbol, IsNumeral, ShowsNothing, point, number}
use Rattle.rename_model.specs.SameProgram as model
use Rattle.rename_model.specs.SameProgram.{part_points, name_points, kind_number, listed_points, stretch, listed_stretches, least_of, error_points}
use Rattle.rename_model.specs.Difference.{first_apart}
use Rattle.syntax_tree.specs.Names.{Names}
use Rattle.syntax_tree.specs.declared.trees.Work.{Work}
use Rattle.core_tree.specs.Units.{text_of, kind_as, error_as, unit_errors, UnitStands, UnitsStand}
use Rattle.core_tree.specs.declared.units.Unit.{Unit as CodeUnit}
use Rattle.core_tree.specs.declared.units.UnitError.{UnitError}
use Rattle.program_leaves.proofs.KeyLaws.{one_number, left, right}
use Rattle.alpha_equal.specs.declared.points.Spot.TheVariants as spots
use Rattle.alpha_equal.specs.declared.points.Shown.TheVariants as shown
use Rattle.alpha_equal.specs.declared.points.Told.{Told}
use Rattle.alpha_equal.specs.declared.points.Pair.{Pair}
use Rattle.alpha_equal.specs.Points.{ArePair}
use Rattle.program_differences.specs.declared.listed.Apart.{Apart}
use Rattle.program_differences.specs.Apart.{at_form, FindsFirst}
use Rattle.program_differences.specs.Listed.{same_name, listed_alike, alike_in, first_unlike, forms_of, AreAlike, TellsApart, AreDistinct, least_among, least_or}
use Rattle.program_differences.proofs.ApartLaws.{pair_found, found_first, found_next}
use Rattle.program_differences.proofs.UnitLaws.{UnitsFrom, units_from, as_many, errors_are}

-- ---- points of the shape

abbrev pub shape : Told
shape = record { spot = spots.Shape; occ = None; shown = shown.Nothing }

abbrev pub shapes : Pair
shapes = record { old = shape; new = shape }

-- two lists of points of the shape agree, or the first two that don't are such
abbrev pub answer : Bool → Option Pair
answer true = None
answer false = Some shapes

-- ---- tests

and_true : (b : Bool) → (b && true) ≡ b
and_true true = refl
and_true false = refl

and_both : (a b c : Bool) → ((a && b) && c) ≡ (a && (b && c))
and_both true b c = refl
and_both false b c = refl

same_tests : (a b : Bool) → (a ≡ true → b ≡ true) → (b ≡ true → a ≡ true) → a ≡ b
same_tests true b f g = sym (f refl)
same_tests false true f g = g refl
same_tests false false f g = refl

module _ (names : Names) (unit form : ℕ) (live : Option Occ → Bool) where
  abbrev Answers : Bool → List Point → List Point → Type 0
  Answers b os ns = ArePair names unit form (answer b) (first_apart live [] os ns)

  -- ---- numbers and names

  number_step : (a b : ℕ) (os ns : List Point) → first_apart live [] (number a ∷ os) (number b ∷ ns) ≡ (if a == b then first_apart live [] os ns else Some (number a, number b))
  number_step a b os ns = ap (λ (t : Bool). if t then first_apart live [] os ns else Some (number a, number b)) (and_true (a == b))

  number_answer : (a b : ℕ) (os ns : List Point) (rest : Bool) → Answers rest os ns → Answers ((a == b) && rest) (number a ∷ os) (number b ∷ ns)
  number_answer a b os ns rest h = subst (ArePair names unit form (answer ((a == b) && rest))) (sym (number_step a b os ns)) (go (a == b))
    where
      go : (t : Bool) → ArePair names unit form (answer (t && rest)) (if t then first_apart live [] os ns else Some (number a, number b))
      go true = h
      go false = (record { spot = refl; place = refl; shown = refl }, record { spot = refl; place = refl; shown = refl })

  abbrev same_part : LibraryPart → LibraryPart → Bool
  same_part (Symbol s) (Symbol t) = bytes_eq s t
  same_part (Symbol s) (Digits t) = false
  same_part (Digits s) (Symbol t) = false
  same_part (Digits s) (Digits t) = bytes_eq s t

  abbrev same_parts : LibraryName → LibraryName → Bool
  same_parts [] [] = true
  same_parts [] (y ∷ ys) = false
  same_parts (x ∷ xs) [] = false
  same_parts (x ∷ xs) (y ∷ ys) = same_part x y && same_parts xs ys

  parts_answer : (xs ys : LibraryName) → Answers (same_parts xs ys) (flat_map part_points xs) (flat_map part_points ys)
  parts_answer [] [] = tt
  parts_answer [] (Symbol t ∷ ys) = (record { spot = refl; place = refl; shown = refl }, record { spot = refl; place = refl; shown = refl })
  parts_answer [] (Digits t ∷ ys) = (record { spot = refl; place = refl; shown = refl }, record { spot = refl; place = refl; shown = refl })
  parts_answer (Symbol s ∷ xs) [] = (record { spot = refl; place = refl; shown = refl }, record { spot = refl; place = refl; shown = refl })
  parts_answer (Digits s ∷ xs) [] = (record { spot = refl; place = refl; shown = refl }, record { spot = refl; place = refl; shown = refl })
  parts_answer (Symbol s ∷ xs) (Symbol t ∷ ys) = go (bytes_eq s t) (parts_answer xs ys)
    where
      go : (b : Bool) → Answers (same_parts xs ys) (flat_map part_points xs) (flat_map part_points ys) →
          ArePair names unit form (answer (b && same_parts xs ys)) (if b then first_apart live [] (flat_map part_points xs) (flat_map part_points ys) else Some (point AtShape (OfName IsSymbol s) None ShowsNothing, point AtShape (OfName IsSymbol t) None ShowsNothing))
      go true h = h
      go false h = (record { spot = refl; place = refl; shown = refl }, record { spot = refl; place = refl; shown = refl })
  parts_answer (Digits s ∷ xs) (Digits t ∷ ys) = go (bytes_eq s t) (parts_answer xs ys)
    where
      go : (b : Bool) → Answers (same_parts xs ys) (flat_map part_points xs) (flat_map part_points ys) →
          ArePair names unit form (answer (b && same_parts xs ys)) (if b then first_apart live [] (flat_map part_points xs) (flat_map part_points ys) else Some (point AtShape (OfName IsNumeral s) None ShowsNothing, point AtShape (OfName IsNumeral t) None ShowsNothing))
      go true h = h
      go false h = (record { spot = refl; place = refl; shown = refl }, record { spot = refl; place = refl; shown = refl })
  parts_answer (Symbol s ∷ xs) (Digits t ∷ ys) = (record { spot = refl; place = refl; shown = refl }, record { spot = refl; place = refl; shown = refl })
  parts_answer (Digits s ∷ xs) (Symbol t ∷ ys) = (record { spot = refl; place = refl; shown = refl }, record { spot = refl; place = refl; shown = refl })

  one_part : (x y : LibraryPart) → same_part x y ≡ true → x ≡ y
  one_part (Symbol s) (Symbol t) h = ap Symbol ((bytes_eq-Decides s t).0 h)
  one_part (Symbol s) (Digits t) h = absurd cc
  one_part (Digits s) (Symbol t) h = absurd cc
  one_part (Digits s) (Digits t) h = ap Digits ((bytes_eq-Decides s t).0 h)

  one_library : (xs ys : LibraryName) → same_parts xs ys ≡ true → xs ≡ ys
  one_library [] [] h = refl
  one_library [] (y ∷ ys) h = absurd cc
  one_library (x ∷ xs) [] h = absurd cc
  one_library (x ∷ xs) (y ∷ ys) h = (λ j. one_part x y (left (same_part x y) (same_parts xs ys) h) j ∷ one_library xs ys (right (same_part x y) (same_parts xs ys) h) j)

  part_itself : (x : LibraryPart) → same_part x x ≡ true
  part_itself (Symbol s) = (bytes_eq-Decides s s).1 refl
  part_itself (Digits s) = (bytes_eq-Decides s s).1 refl

  library_itself : (xs : LibraryName) → same_parts xs xs ≡ true
  library_itself [] = refl
  library_itself (x ∷ xs) = (λ j. part_itself x j && library_itself xs j)

  nat_itself : (a : ℕ) → (a == a) ≡ true
  nat_itself a = grind (arith, nat_tests)

  -- libraries whose names are told apart are the same where their names are written the same
  texts_told : (text : LibraryName → List ℕ) (m n : LibraryName) → (text m ≡ text n → m ≡ n) → bytes_eq (text m) (text n) ≡ ((length m == length n) && same_parts m n)
  texts_told text m n tells = same_tests (bytes_eq (text m) (text n)) ((length m == length n) && same_parts m n) there back
    where
      there : bytes_eq (text m) (text n) ≡ true → ((length m == length n) && same_parts m n) ≡ true
      there h =
          let is : m ≡ n = tells ((bytes_eq-Decides (text m) (text n)).0 h) in
          subst (λ (k : LibraryName). ((length m == length k) && same_parts m k) ≡ true) is (λ j. nat_itself (length m) j && library_itself m j)

      back : ((length m == length n) && same_parts m n) ≡ true → bytes_eq (text m) (text n) ≡ true
      back h = (bytes_eq-Decides (text m) (text n)).1 (ap text (one_library m n (right (length m == length n) (same_parts m n) h)))

  names_answer : (text : LibraryName → List ℕ) (m n : Option LibraryName) → ((a b : LibraryName) → m ≡ Some a → n ≡ Some b → text a ≡ text b → a ≡ b) →
      Answers (same_name (text_of text m) (text_of text n)) (name_points m) (name_points n)
  names_answer text None None tells = tt
  names_answer text None (Some n) tells = (record { spot = refl; place = refl; shown = refl }, record { spot = refl; place = refl; shown = refl })
  names_answer text (Some m) None tells = (record { spot = refl; place = refl; shown = refl }, record { spot = refl; place = refl; shown = refl })
  names_answer text (Some m) (Some n) tells =
      subst (λ (b : Bool). Answers b (name_points (Some m)) (name_points (Some n))) (sym (texts_told text m n (tells m n refl refl)))
      (number_answer (length m) (length n) (flat_map part_points m) (flat_map part_points n) (same_parts m n) (parts_answer m n))

  -- ---- units

  -- one document where it has one uri
  uris_told : (uris : List (List ℕ)) (a b : ℕ) (s t : List ℕ) → AreDistinct uris → slice_get uris a ≡ Some s → slice_get uris b ≡ Some t → bytes_eq s t ≡ (a == b)
  uris_told uris a b s t apart e f = same_tests (bytes_eq s t) (a == b) there back
    where
      there : bytes_eq s t ≡ true → (a == b) ≡ true
      there h =
          let same : s ≡ t = (bytes_eq-Decides s t).0 h in
          let is : a ≡ b = apart a b t (e ∙ ap Some same) f in
          ap (λ (k : ℕ). a == k) (sym is) ∙ nat_itself a

      back : (a == b) ≡ true → bytes_eq s t ≡ true
      back h = (bytes_eq-Decides s t).1 (same_Some s t (sym e ∙ ap (slice_get uris) (one_number a b h) ∙ f))

  units_answer : (work : Work) (text : LibraryName → List ℕ) (uris : List (List ℕ)) (before after : List Placed) (p q : Program) (place : ℕ) (c d : CodeUnit) (r s : UnitResult) →
      TellsApart text p q → AreDistinct uris → result_at p.units place ≡ Some r → result_at q.units place ≡ Some s →
      UnitStands work text uris before p place c r → UnitStands work text uris after q place d s → Answers (listed_alike c d) (listed_points (Some r)) (listed_points (Some s))
  units_answer work text uris before after p q place c d r s tells apart at there h g =
      subst (λ (b : Bool). Answers b (listed_points (Some r)) (listed_points (Some s))) (sym tests)
      (number_answer r.unit.placed.document s.unit.placed.document (number (kind_number r.unit.placed.source.kind) ∷ number (length r.unit.forms) ∷ name_points r.unit.placed.source.name)
      (number (kind_number s.unit.placed.source.kind) ∷ number (length s.unit.forms) ∷ name_points s.unit.placed.source.name) (kinds && (counts && named))
      (number_answer (kind_number r.unit.placed.source.kind) (kind_number s.unit.placed.source.kind) (number (length r.unit.forms) ∷ name_points r.unit.placed.source.name) (number (length s.unit.forms) ∷ name_points s.unit.placed.source.name) (counts && named)
      (number_answer (length r.unit.forms) (length s.unit.forms) (name_points r.unit.placed.source.name) (name_points s.unit.placed.source.name) named
      (names_answer text r.unit.placed.source.name s.unit.placed.source.name (λ m n e f.
      tells m n (record { place = place; unit = r; there = at; name = e }) (record { place = place; unit = s; there = there; name = f }))))))
    where
      kinds : Bool
      kinds = kind_number r.unit.placed.source.kind == kind_number s.unit.placed.source.kind

      counts : Bool
      counts = length r.unit.forms == length s.unit.forms

      named : Bool
      named = same_name (text_of text r.unit.placed.source.name) (text_of text s.unit.placed.source.name)

      documents : Bool
      documents = r.unit.placed.document == s.unit.placed.document

      tests : listed_alike c d ≡ (documents && (kinds && (counts && named)))
      tests =
          (λ j. ((uris_told uris r.unit.placed.document s.unit.placed.document c.uri d.uri apart h.uri g.uri j && (kind_number (h.kind j) == kind_number (g.kind j)))
          && (h.count j == g.count j)) && same_name (h.name j) (g.name j))
          ∙ and_both (documents && kinds) counts named ∙ and_both documents kinds (counts && named)

-- ---- lists

abbrev pub found_at : Option ℕ → Option Apart
found_at None = None
found_at (Some place) = Some (record { unit = place; form = 0; pair = shapes })

module _ (names : Names) (live : Option Occ → Bool) (work : Work) (text : LibraryName → List ℕ) (uris : List (List ℕ)) (before after : List Placed) (p q : Program) (tells : TellsApart text p q) (apart : AreDistinct uris) where
  here_with : (place : ℕ) (o n : Option UnitResult) (pair : Option Pair) → result_at p.units place ≡ o → result_at q.units place ≡ n → ArePair names place 0 pair (first_apart live [] (listed_points o) (listed_points n)) →
      FindsFirst names live (stretch place 0 (listed_points (result_at p.units place)) (listed_points (result_at q.units place)) ∷ []) (at_form place 0 pair)
  here_with place o n pair e f h =
      pair_found names live (stretch place 0 (listed_points (result_at p.units place)) (listed_points (result_at q.units place))) pair
      (subst (ArePair names place 0 pair) (λ j. first_apart live [] (listed_points (sym e j)) (listed_points (sym f j))) h)

  pub lists_found : (more place : ℕ) (cs ds : List CodeUnit) → UnitsFrom work text uris before p place cs → UnitsFrom work text uris after q place ds → more ≡ max (length cs) (length ds) →
      FindsFirst names live (listed_stretches p q place more) (found_at (first_unlike place cs ds))
  lists_found zero place [] [] h g e = tt
  lists_found zero place [] (d ∷ ds) h g e = absurd (omega (arith, e))
  lists_found zero place (c ∷ cs) [] h g e = absurd (omega (arith, e))
  lists_found zero place (c ∷ cs) (d ∷ ds) h g e = absurd (omega (arith, e))
  lists_found (suc more) place [] [] h g e = absurd (omega (arith, e))
  lists_found (suc more) place [] (d ∷ ds) h g e =
      found_first names live (first place) (listed_stretches p q (suc place) more) (record { unit = place; form = 0; pair = shapes })
      (here_with place None (Some g.0.it) (Some shapes) (h place (omega arith)) g.0.there (record { spot = refl; place = refl; shown = refl }, record { spot = refl; place = refl; shown = refl }))
    where
      first : ℕ → List model.Stretch
      first n = stretch n 0 (listed_points (result_at p.units n)) (listed_points (result_at q.units n)) ∷ []
  lists_found (suc more) place (c ∷ cs) [] h g e =
      found_first names live (first place) (listed_stretches p q (suc place) more) (record { unit = place; form = 0; pair = shapes })
      (here_with place (Some h.0.it) None (Some shapes) h.0.there (g place (omega arith)) (record { spot = refl; place = refl; shown = refl }, record { spot = refl; place = refl; shown = refl }))
    where
      first : ℕ → List model.Stretch
      first n = stretch n 0 (listed_points (result_at p.units n)) (listed_points (result_at q.units n)) ∷ []
  lists_found (suc more) place (c ∷ cs) (d ∷ ds) h g e = go (listed_alike c d) here (lists_found more (suc place) cs ds h.1 g.1 (omega (arith, e)))
    where
      first : List model.Stretch
      first = stretch place 0 (listed_points (result_at p.units place)) (listed_points (result_at q.units place)) ∷ []

      here : FindsFirst names live first (at_form place 0 (answer (listed_alike c d)))
      here =
          here_with place (Some h.0.it) (Some g.0.it) (answer (listed_alike c d)) h.0.there g.0.there
          (units_answer names place 0 live work text uris before after p q place c d h.0.it g.0.it tells apart h.0.there g.0.there h.0.stands g.0.stands)

      go : (b : Bool) → FindsFirst names live first (at_form place 0 (answer b)) → FindsFirst names live (listed_stretches p q (suc place) more) (found_at (first_unlike (suc place) cs ds)) →
          FindsFirst names live (first ++ listed_stretches p q (suc place) more) (found_at (if b then first_unlike (suc place) cs ds else Some place))
      go true one rest = found_next names live first (listed_stretches p q (suc place) more) (found_at (first_unlike (suc place) cs ds)) one rest
      go false one rest = found_first names live first (listed_stretches p q (suc place) more) (record { unit = place; form = 0; pair = shapes }) one

-- ---- lists that don't differ

forms_alike : (c d : CodeUnit) → listed_alike c d ≡ true → length c.forms ≡ length d.forms
forms_alike c d h =
    let first = bytes_eq c.uri d.uri && (kind_number (kind_as c.kind) == kind_number (kind_as d.kind)) in
    one_number (length c.forms) (length d.forms) (right first (length c.forms == length d.forms) (left (first && (length c.forms == length d.forms)) (same_name c.name d.name) h))

pub are_alike : (place : ℕ) (cs ds : List CodeUnit) → first_unlike place cs ds ≡ None → AreAlike cs ds
are_alike place [] [] h = record { count = refl; forms = λ n c d e f. absurd cc }
are_alike place [] (d ∷ ds) h = absurd cc
are_alike place (c ∷ cs) [] h = absurd cc
are_alike place (c ∷ cs) (d ∷ ds) h = go (listed_alike c d) refl h (λ e. are_alike (suc place) cs ds e)
  where
    go : (b : Bool) → listed_alike c d ≡ b → (if b then first_unlike (suc place) cs ds else Some place) ≡ None → (first_unlike (suc place) cs ds ≡ None → AreAlike cs ds) → AreAlike (c ∷ cs) (d ∷ ds)
    go false e h f = absurd cc
    go true e h f = record { count = ap suc (f h).count; forms = forms_at (f h) }
      where
        forms_at : AreAlike cs ds → (n : ℕ) (a b : CodeUnit) → slice_get (c ∷ cs) n ≡ Some a → slice_get (d ∷ ds) n ≡ Some b → length a.forms ≡ length b.forms
        forms_at rest zero a b f g =
            let one : c ≡ a = same_Some c a f in
            let other : d ≡ b = same_Some d b g in
            ap (λ (x : CodeUnit). length x.forms) (sym one) ∙ forms_alike c d e ∙ ap (λ (x : CodeUnit). length x.forms) other
        forms_at rest (suc n) a b f g = rest.forms n a b f g

-- ---- Errors

abbrev pub in_errors : Told
in_errors = record { spot = spots.Errors; occ = None; shown = shown.Nothing }

abbrev pub error_at : ℕ → Option ℕ → Option Apart
error_at unit None = None
error_at unit (Some form) = Some (record { unit = unit; form = form; pair = record { old = in_errors; new = in_errors } })

abbrev at_errors : ℕ → Point
at_errors n = point AtErrors (OfNumber n) None ShowsNothing

error_step : (live : Option Occ → Bool) (n : ℕ) → first_apart live [] (error_points 0) (error_points n) ≡ (if 0 == n then None else Some (at_errors 0, at_errors n))
error_step live n = ap (λ (b : Bool). if b then None else Some (at_errors 0, at_errors n)) (and_true (0 == n))

pub error_found : (names : Names) (live : Option Occ → Bool) (unit : ℕ) (ns : List ℕ) → FindsFirst names live (stretch unit (least_of ns) (error_points 0) (error_points (length ns)) ∷ []) (error_at unit (least_among ns))
error_found names live unit [] = tt
error_found names live unit (n ∷ ns) =
    let some : (0 == suc (length ns)) ≡ false = grind (arith, nat_tests) in
    pair_found names live (stretch unit (least_of (n ∷ ns)) (error_points 0) (error_points (suc (length ns)))) (Some (record { old = in_errors; new = in_errors }))
    (subst (ArePair names unit (least_of (n ∷ ns)) (Some (record { old = in_errors; new = in_errors }))) (sym (error_step live (suc (length ns)) ∙ ap (λ (b : Bool). if b then None else Some (at_errors 0, at_errors (suc (length ns)))) some))
    (record { spot = refl; place = refl; shown = refl }, record { spot = refl; place = refl; shown = refl }))

-- ---- the least

pub least_is : (m : ℕ) (ns : List ℕ) → least_or (Some m) ns ≡ Some (least_of (m ∷ ns))
least_is m [] = refl
least_is m (n ∷ ns) = least_is (if nat_le m n then m else n) ns

pub least_start : (ns : List ℕ) → least_or None ns ≡ least_among ns
least_start [] = refl
least_start (n ∷ ns) = least_is n ns

pub least_next : (o : Option ℕ) (n : ℕ) (ns : List ℕ) → least_or o (n ∷ ns) ≡ least_or (least_or o (n ∷ [])) ns
least_next None n ns = refl
least_next (Some m) n ns = refl

least_end : (o : Option ℕ) → least_or o [] ≡ o
least_end None = refl
least_end (Some m) = refl

pub least_more : (es : List UnitError) (k : ℕ) (d : UnitError) (old new whole : Option ℕ) → k < length es → new ≡ least_or old ((get_or es k d).form ∷ []) → least_or old (forms_of (drop k es)) ≡ whole →
    least_or new (forms_of (drop (k + 1) es)) ≡ whole
least_more es k d old new whole lt n h =
    ap (λ (o : Option ℕ). least_or o (forms_of (drop (k + 1) es))) n ∙ sym (least_next old (get_or es k d).form (forms_of (drop (k + 1) es)))
    ∙ sym (at_drop_more (λ (xs : List UnitError). least_or old (forms_of xs)) es k d lt) ∙ h

pub least_all : (es : List UnitError) (k : ℕ) (o whole : Option ℕ) → length es ≤ k → least_or o (forms_of (drop k es)) ≡ whole → o ≡ whole
least_all es k o whole le h = sym (at_drop_all (λ (xs : List UnitError). least_or o (forms_of xs)) es k le ∙ least_end o) ∙ h

-- ---- the Errors of a unit of the code

pub error_law : (names : Names) (live : Option Occ → Bool) (unit : ℕ) (es : List UnitError) (r : UnitResult) (found : Option ℕ) → map error_as es ≡ unit_errors r → found ≡ least_among (forms_of es) →
    FindsFirst names live (model.error_stretch unit (Some r) ∷ []) (error_at unit found)
error_law names live unit es r found h f =
    subst (λ (o : Option ℕ). FindsFirst names live (model.error_stretch unit (Some r) ∷ []) (error_at unit o)) (sym (f ∙ ap least_among (errors_are es r h)))
    (error_found names live unit (model.errors_of r))

-- ---- lists from a place on

record AtPlace (ds : List CodeUnit) (k : ℕ) : Type 0 where
  it : CodeUnit
  there : slice_get ds k ≡ Some it
  rest : drop k ds ≡ it ∷ drop (suc k) ds

at_place : (ds : List CodeUnit) (k : ℕ) → ((slice_get ds k ≡ None) × (drop k ds ≡ [])) ⊎ AtPlace ds k
at_place [] zero = inl (refl, refl)
at_place [] (suc k) = inl (refl, refl)
at_place (d ∷ ds) zero = inr (record { it = d; there = refl; rest = refl })
at_place (d ∷ ds) (suc k) = go (at_place ds k)
  where
    go : ((slice_get ds k ≡ None) × (drop k ds ≡ [])) ⊎ AtPlace ds k → ((slice_get (d ∷ ds) (suc k) ≡ None) × (drop (suc k) (d ∷ ds) ≡ [])) ⊎ AtPlace (d ∷ ds) (suc k)
    go (inl h) = inl h
    go (inr h) = inr (record { it = h.it; there = h.there; rest = h.rest })

pub unlike_step : (cs ds : List CodeUnit) (k : ℕ) (d : CodeUnit) → k < length cs →
    first_unlike k (drop k cs) (drop k ds) ≡ (if alike_in (get_or cs k d) (slice_get ds k) then first_unlike (k + 1) (drop (k + 1) cs) (drop (k + 1) ds) else Some k)
unlike_step cs ds k d lt = at_drop_more (λ (xs : List CodeUnit). first_unlike k xs (drop k ds)) cs k d lt ∙ go (at_place ds k)
  where
    go : ((slice_get ds k ≡ None) × (drop k ds ≡ [])) ⊎ AtPlace ds k → first_unlike k (get_or cs k d ∷ drop (k + 1) cs) (drop k ds)
        ≡ (if alike_in (get_or cs k d) (slice_get ds k) then first_unlike (k + 1) (drop (k + 1) cs) (drop (k + 1) ds) else Some k)
    go (inl h) =
        ap (λ (ys : List CodeUnit). first_unlike k (get_or cs k d ∷ drop (k + 1) cs) ys) h.1
        ∙ sym (ap (λ (o : Option CodeUnit). if alike_in (get_or cs k d) o then first_unlike (k + 1) (drop (k + 1) cs) (drop (k + 1) ds) else Some k) h.0)
    go (inr h) =
        ap (λ (ys : List CodeUnit). first_unlike k (get_or cs k d ∷ drop (k + 1) cs) ys) h.rest
        ∙ (λ j. if listed_alike (get_or cs k d) h.it then first_unlike (sym (add-one k) j) (drop (k + 1) cs) (drop (sym (add-one k) j) ds) else Some k)
        ∙ sym (ap (λ (o : Option CodeUnit). if alike_in (get_or cs k d) o then first_unlike (k + 1) (drop (k + 1) cs) (drop (k + 1) ds) else Some k) h.there)

pub unlike_here : (cs ds : List CodeUnit) (k : ℕ) (d : CodeUnit) (whole : Option ℕ) → k < length cs → alike_in (get_or cs k d) (slice_get ds k) ≡ false → first_unlike k (drop k cs) (drop k ds) ≡ whole → Some k ≡ whole
unlike_here cs ds k d whole lt e h = sym (unlike_step cs ds k d lt ∙ ap (λ (b : Bool). if b then first_unlike (k + 1) (drop (k + 1) cs) (drop (k + 1) ds) else Some k) e) ∙ h

pub unlike_past : (cs ds : List CodeUnit) (k : ℕ) (d : CodeUnit) (whole : Option ℕ) → k < length cs → alike_in (get_or cs k d) (slice_get ds k) ≡ true → first_unlike k (drop k cs) (drop k ds) ≡ whole →
    first_unlike (k + 1) (drop (k + 1) cs) (drop (k + 1) ds) ≡ whole
unlike_past cs ds k d whole lt e h = sym (unlike_step cs ds k d lt ∙ ap (λ (b : Bool). if b then first_unlike (k + 1) (drop (k + 1) cs) (drop (k + 1) ds) else Some k) e) ∙ h

pub unlike_longer : (cs ds : List CodeUnit) (k : ℕ) (whole : Option ℕ) → length cs ≤ k → k < length ds → first_unlike k (drop k cs) (drop k ds) ≡ whole → Some k ≡ whole
unlike_longer cs ds k whole le lt h = sym (at_drop_all (λ (xs : List CodeUnit). first_unlike k xs (drop k ds)) cs k le ∙ go (at_place ds k)) ∙ h
  where
    within : (xs : List CodeUnit) (n : ℕ) → slice_get xs n ≡ None → length xs ≤ n
    within [] n e = omega arith
    within (x ∷ xs) zero e = absurd cc
    within (x ∷ xs) (suc n) e = let w = within xs n e in omega (arith, w)

    go : ((slice_get ds k ≡ None) × (drop k ds ≡ [])) ⊎ AtPlace ds k → first_unlike k [] (drop k ds) ≡ Some k
    go (inl e) = let w = within ds k e.0 in absurd (omega (arith, lt, w))
    go (inr e) = ap (first_unlike k []) e.rest

pub unlike_none : (cs ds : List CodeUnit) (k : ℕ) (whole : Option ℕ) → length cs ≤ k → length ds ≤ k → first_unlike k (drop k cs) (drop k ds) ≡ whole → None ≡ whole
unlike_none cs ds k whole le more h =
    sym (at_drop_all (λ (xs : List CodeUnit). first_unlike k xs (drop k ds)) cs k le ∙ at_drop_all (λ (ys : List CodeUnit). first_unlike k [] ys) ds k more) ∙ h

-- ---- the lists of two programs

pub listed_law : (names : Names) (live : Option Occ → Bool) (work : Work) (text : LibraryName → List ℕ) (uris : List (List ℕ)) (before after : List Placed) (p q : Program) (cs ds : List CodeUnit) (found : Option ℕ) → TellsApart text p q → AreDistinct uris →
    UnitsStand work text uris before p 0 cs p.units → UnitsStand work text uris after q 0 ds q.units → found ≡ first_unlike 0 cs ds →
    FindsFirst names live (listed_stretches p q 0 (max (length p.units) (length q.units))) (found_at found)
listed_law names live work text uris before after p q cs ds found tells apart h g f =
    let one = as_many work text uris before p 0 cs p.units h in
    let other = as_many work text uris after q 0 ds q.units g in
    let many : max (length p.units) (length q.units) ≡ max (length cs) (length ds) = (λ j. max (sym one j) (sym other j)) in
    subst (λ (o : Option ℕ). FindsFirst names live (listed_stretches p q 0 (max (length p.units) (length q.units))) (found_at o)) (sym f)
    (lists_found names live work text uris before after p q tells apart (max (length p.units) (length q.units)) 0 cs ds (units_from work text uris before p cs h) (units_from work text uris after q ds g) many)
