-- Where definitions stand, by the code and by the table of the definition's program.
use Rattle.std.proofs.Common.{◌≡◌, ℕ, suc, ◌+◌, ◌<◌, ◌≤◌, List, [], ◌∷◌, ◌++◌, map, reverse, length, Bool, true, false, Option, Some, None, refl, sym, ap, ◌∙◌, subst, arith, take, drop, get_or, add-one, drop-cons}
use Rattle.std.specs.Prelude.{◌&&◌, ◌==◌, if◌then◌else◌, filter}
use Rattle.std.specs.List.{flat_map}
use Rattle.std.specs.Option.{option_map}
use Rattle.std.proofs.lemmas.Bool.Decides.{nat_tests}
use Rattle.std.proofs.lemmas.List.{map-append, reverse-append, take_more}
use Rattle.scheme_model.specs.declared.Occ.{Occ}
use Rattle.scheme_model.specs.Ident.{Ident as Identifier, same_ident}
use Rattle.scheme_model.specs.Requirements.{LibraryName}
use Rattle.scheme_model.specs.Substitution.{Table, Defined, defined_in}
use Rattle.scheme_model.specs.IncludedUnits.{Placed}
use Rattle.scheme_model.specs.Program.{Program, UnitResult, result_at}
use Rattle.scheme_model.specs.ProgramArrows.{program_table, is_whole}
use Rattle.syntax_tree.specs.Names.{AreToldApart}
use Rattle.syntax_tree.specs.Macros.{IsIdent}
use Rattle.syntax_tree.specs.declared.trees.Work.{Work}
use Rattle.syntax_tree.proofs.RoleLaws.{same_by_number}
use Rattle.core_tree.specs.Units.{IsDefinition, AreDefinitions, definitions_from, defined_by, UnitsStand}
use Rattle.core_tree.specs.declared.cores.Binder.{Binder}
use Rattle.core_tree.specs.declared.units.UnitForm.{UnitForm}
use Rattle.core_tree.specs.declared.units.Unit.{Unit as CodeUnit}
use Rattle.program_leaves.specs.declared.sight.GlobalNo.{GlobalNo}
use Rattle.program_leaves.proofs.Growing.{flat_more}
use Rattle.program_leaves.proofs.KeyLaws.{flip}
use Rattle.program_leaves.specs.Placed.{Given, same_global, given_by, forms_given, units_given, given_after}

-- ---- one after another

pub given-append : (xs ys : List Given) (k : GlobalNo) (b : Option (Option Occ)) → given_after (xs ++ ys) k b ≡ given_after ys k (given_after xs k b)
given-append [] ys k b = refl
given-append (x ∷ xs) ys k b = given-append xs ys k (if same_global (record { unit = x.unit; ident = x.binder.ident }) k then Some x.binder.occ else b)

-- the first of these, or what was before
abbrev first_given : List Binder → ℕ → Option (Option Occ) → Option (Option Occ)
first_given [] n b = b
first_given (x ∷ xs) n b = if x.ident == n then Some x.occ else first_given xs n b

-- ---- of another unit

itself : (u n : ℕ) (b : Binder) → same_global (record { unit = u; ident = b.ident }) (record { unit = u; ident = n }) ≡ (b.ident == n)
itself u n b = let same : (u == u) ≡ true = grind (arith, nat_tests) in ap (λ (q : Bool). q && b.ident == n) same

another : (w u n : ℕ) (b : Binder) → (w == u) ≡ false → same_global (record { unit = w; ident = b.ident }) (record { unit = u; ident = n }) ≡ false
another w u n b e = ap (λ (q : Bool). q && b.ident == n) e

other_form : (w u n : ℕ) (bs : List Binder) (o : Option (Option Occ)) → (w == u) ≡ false → given_after (given_by w bs) (record { unit = u; ident = n }) o ≡ o
other_form w u n [] o e = refl
other_form w u n (b ∷ bs) o e =
    ap (λ (q : Bool). given_after (given_by w bs) (record { unit = u; ident = n }) (if q then Some b.occ else o)) (another w u n b e) ∙ other_form w u n bs o e

other_unit : (w u n : ℕ) (cs : List UnitForm) (o : Option (Option Occ)) → (w == u) ≡ false → given_after (forms_given w cs) (record { unit = u; ident = n }) o ≡ o
other_unit w u n [] o e = refl
other_unit w u n (c ∷ cs) o e =
    let k : GlobalNo = record { unit = u; ident = n } in
    given-append (given_by w c.trace.definitions) (forms_given w cs) k o ∙ ap (given_after (forms_given w cs) k) (other_form w u n c.trace.definitions o e) ∙ other_unit w u n cs o e

later_units : (w u n : ℕ) (cs : List CodeUnit) (o : Option (Option Occ)) → u < w → given_after (units_given w cs) (record { unit = u; ident = n }) o ≡ o
later_units w u n [] o lt = refl
later_units w u n (c ∷ cs) o lt =
    let k : GlobalNo = record { unit = u; ident = n } in
    let apart : (w == u) ≡ false = grind (arith, nat_tests) in
    given-append (forms_given w c.forms) (units_given (suc w) cs) k o ∙ ap (given_after (units_given (suc w) cs) k) (other_unit w u n c.forms o apart) ∙ later_units (suc w) u n cs o (omega arith)

-- ---- of the unit itself

abbrev bare : List (ℕ × Binder) → List Binder
bare xs = map (λ x. x.1) xs

given_form : (u n : ℕ) (bs : List Binder) (o : Option (Option Occ)) → given_after (given_by u bs) (record { unit = u; ident = n }) o ≡ first_given (reverse bs) n o
given_form u n [] o = refl
given_form u n (b ∷ bs) o =
    ap (λ (q : Bool). given_after (given_by u bs) (record { unit = u; ident = n }) (if q then Some b.occ else o)) (itself u n b)
    ∙ given_form u n bs (if b.ident == n then Some b.occ else o) ∙ sym (ap (λ (xs : List Binder). first_given xs n o) (reverse-append (b ∷ []) bs) ∙ first-append (reverse bs) (b ∷ []))
  where
    first-append : (xs ys : List Binder) → first_given (xs ++ ys) n o ≡ first_given xs n (first_given ys n o)
    first-append [] ys = refl
    first-append (x ∷ xs) ys = ap (λ (q : Option (Option Occ)). if x.ident == n then Some x.occ else q) (first-append xs ys)

-- what the forms of a unit define
abbrev all_of : List UnitForm → List Binder
all_of cs = flat_map (λ (c : UnitForm). c.trace.definitions) cs

map_both : (u : ℕ) (xs ys : List Binder) → given_by u (xs ++ ys) ≡ given_by u xs ++ given_by u ys
map_both u xs ys = map-append (λ (b : Binder). record { unit = u; binder = b }) xs ys

forms_are_given : (u : ℕ) (cs : List UnitForm) → forms_given u cs ≡ given_by u (all_of cs)
forms_are_given u [] = refl
forms_are_given u (c ∷ cs) = ap (λ (q : List Given). given_by u c.trace.definitions ++ q) (forms_are_given u cs) ∙ sym (map_both u c.trace.definitions (all_of cs))

pub bare_form : (form : ℕ) (bs : List Binder) → bare (map (λ b. (form, b)) bs) ≡ bs
bare_form form [] = refl
bare_form form (b ∷ bs) = ap (λ (q : List Binder). b ∷ q) (bare_form form bs)

bare_all : (form : ℕ) (cs : List UnitForm) → bare (definitions_from form cs) ≡ all_of cs
bare_all form [] = refl
bare_all form (c ∷ cs) =
    map-append (λ (x : ℕ × Binder). x.1) (map (λ b. (form, b)) c.trace.definitions) (definitions_from (suc form) cs)
    ∙ (λ j. bare_form form c.trace.definitions j ++ bare_all (suc form) cs j)

bare_reverse : (xs : List (ℕ × Binder)) → bare (reverse xs) ≡ reverse (bare xs)
bare_reverse [] = refl
bare_reverse (x ∷ xs) =
    ap bare (reverse-append (x ∷ []) xs) ∙ map-append (λ (y : ℕ × Binder). y.1) (reverse xs) (x ∷ []) ∙ ap (λ (q : List Binder). q ++ x.1 ∷ []) (bare_reverse xs) ∙ sym (reverse-append (x.1 ∷ []) (bare xs))

given_unit : (u n : ℕ) (cs : List UnitForm) → given_after (forms_given u cs) (record { unit = u; ident = n }) None ≡ first_given (bare (reverse (definitions_from 0 cs))) n None
given_unit u n cs =
    ap (λ (q : List Given). given_after q (record { unit = u; ident = n }) None) (forms_are_given u cs) ∙ given_form u n (all_of cs) None
    ∙ ap (λ (q : List Binder). first_given (reverse q) n None) (sym (bare_all 0 cs)) ∙ ap (λ (q : List Binder). first_given q n None) (sym (bare_reverse (definitions_from 0 cs)))

-- ---- in the table

place_of_test : (b : Bool) (o p : Option Occ) (x : Option (Option Occ)) (d : Defined) (y : Option Defined) → o ≡ p → d.occ ≡ p → x ≡ option_map (λ (e : Defined). e.occ) y →
    (if b then Some o else x) ≡ option_map (λ (e : Defined). e.occ) (if b then Some d else y)
place_of_test true o p x d y e f h = ap Some (e ∙ sym f)
place_of_test false o p x d y e f h = h

module _ (work : Work) (apart : AreToldApart work.symbols.idents) where
  defined_unit : (u n : ℕ) (i : Identifier) (ds : Table) (bs : List (ℕ × Binder)) → IsIdent work.symbols n i → AreDefinitions work.symbols bs (defined_by u ds) →
      first_given (bare bs) n None ≡ option_map (λ (e : Defined). e.occ) (defined_in ds u i)
  defined_unit u n i [] bs at h = none bs h
    where
      none : (xs : List (ℕ × Binder)) → AreDefinitions work.symbols xs [] → first_given (bare xs) n None ≡ None
      none [] g = refl
      none (x ∷ xs) g = absurd g
  defined_unit u n i (d ∷ ds) bs at h = by_unit (defined_unit u n i ds) (d.unit == u) refl
    where
      here : ((cs : List (ℕ × Binder)) → IsIdent work.symbols n i → AreDefinitions work.symbols cs (defined_by u ds) → first_given (bare cs) n None ≡ option_map (λ (e : Defined). e.occ) (defined_in ds u i)) →
          (b : ℕ × Binder) (cs : List (ℕ × Binder)) → (d.unit == u) ≡ true → IsDefinition work.symbols (length (defined_by u ds)) b d → AreDefinitions work.symbols cs (defined_by u ds) →
          first_given (bare (b ∷ cs)) n None ≡ option_map (λ (e : Defined). e.occ) (defined_in (d ∷ ds) u i)
      here f b cs e is rest =
          let same : same_ident d.ident i ≡ (b.1.ident == n) = same_by_number work.symbols apart b.1.ident n d.ident i is.ident at ∙ flip n b.1.ident in
          ap (λ (q : Bool). if q then Some b.1.occ else first_given (bare cs) n None) (sym same)
          ∙ place_of_test (same_ident d.ident i) b.1.occ b.1.occ (first_given (bare cs) n None) d (defined_in ds u i) refl (sym is.place) (f cs at rest)
          ∙ ap (λ (q : Bool). option_map (λ (e : Defined). e.occ) (if q && same_ident d.ident i then Some d else defined_in ds u i)) (sym e)

      split : ((cs : List (ℕ × Binder)) → IsIdent work.symbols n i → AreDefinitions work.symbols cs (defined_by u ds) → first_given (bare cs) n None ≡ option_map (λ (e : Defined). e.occ) (defined_in ds u i)) →
          (cs : List (ℕ × Binder)) → (d.unit == u) ≡ true → AreDefinitions work.symbols cs (d ∷ defined_by u ds) → first_given (bare cs) n None ≡ option_map (λ (e : Defined). e.occ) (defined_in (d ∷ ds) u i)
      split f [] e g = absurd g
      split f (b ∷ cs) e g = here f b cs e g.0 g.1

      by_unit : ((cs : List (ℕ × Binder)) → IsIdent work.symbols n i → AreDefinitions work.symbols cs (defined_by u ds) → first_given (bare cs) n None ≡ option_map (λ (e : Defined). e.occ) (defined_in ds u i)) →
          (q : Bool) → (d.unit == u) ≡ q → first_given (bare bs) n None ≡ option_map (λ (e : Defined). e.occ) (defined_in (d ∷ ds) u i)
      by_unit f true e = split f bs e (subst (λ (q : Bool). AreDefinitions work.symbols bs (if q then d ∷ defined_by u ds else defined_by u ds)) e h)
      by_unit f false e =
          f bs at (subst (λ (q : Bool). AreDefinitions work.symbols bs (if q then d ∷ defined_by u ds else defined_by u ds)) e h)
          ∙ ap (λ (q : Bool). option_map (λ (e : Defined). e.occ) (if q && same_ident d.ident i then Some d else defined_in ds u i)) (sym e)

  -- a unit that isn't there defines nothing
  outside : (rs : List UnitResult) (u : ℕ) (i : Identifier) (ds : Table) → result_at rs u ≡ None → defined_in (filter (λ d. is_whole (result_at rs d.unit)) ds) u i ≡ None
  outside rs u i [] e = refl
  outside rs u i (d ∷ ds) e = by_whole (outside rs u i ds e) (is_whole (result_at rs d.unit)) refl
    where
      by_unit : defined_in (filter (λ f. is_whole (result_at rs f.unit)) ds) u i ≡ None → (q : Bool) → (d.unit == u) ≡ q → is_whole (result_at rs d.unit) ≡ true → defined_in (d ∷ filter (λ f. is_whole (result_at rs f.unit)) ds) u i ≡ None
      by_unit rest false f g = ap (λ (q : Bool). if q && same_ident d.ident i then Some d else defined_in (filter (λ x. is_whole (result_at rs x.unit)) ds) u i) f ∙ rest
      by_unit rest true f g =
          let same : d.unit ≡ u = grind (arith, nat_tests) in
          let broken : is_whole (result_at rs d.unit) ≡ false = ap (λ (x : ℕ). is_whole (result_at rs x)) same ∙ ap is_whole e in
          absurd cc

      by_whole : defined_in (filter (λ f. is_whole (result_at rs f.unit)) ds) u i ≡ None → (q : Bool) → is_whole (result_at rs d.unit) ≡ q → defined_in (filter (λ f. is_whole (result_at rs f.unit)) (d ∷ ds)) u i ≡ None
      by_whole rest true g = ap (λ (q : Bool). defined_in (if q then d ∷ filter (λ f. is_whole (result_at rs f.unit)) ds else filter (λ f. is_whole (result_at rs f.unit)) ds) u i) g ∙ by_unit rest (d.unit == u) refl g
      by_whole rest false g = ap (λ (q : Bool). defined_in (if q then d ∷ filter (λ f. is_whole (result_at rs f.unit)) ds else filter (λ f. is_whole (result_at rs f.unit)) ds) u i) g ∙ rest

  pub units_law : (text : LibraryName → List ℕ) (uris : List (List ℕ)) (all : List Placed) (p : Program) (place u n : ℕ) (i : Identifier) (cs : List CodeUnit) (rs : List UnitResult) → UnitsStand work text uris all p place cs rs → place ≤ u →
      result_at p.units u ≡ result_at rs u → IsIdent work.symbols n i →
      given_after (units_given place cs) (record { unit = u; ident = n }) None ≡ option_map (λ (e : Defined). e.occ) (defined_in (program_table p) u i)
  units_law text uris all p place u n i [] [] h le e at = ap (option_map (λ (d : Defined). d.occ)) (sym (outside p.units u i p.table e))
  units_law text uris all p place u n i [] (r ∷ rs) h le e at = absurd h
  units_law text uris all p place u n i (c ∷ cs) [] h le e at = absurd h
  units_law text uris all p place u n i (c ∷ cs) (r ∷ rs) h le e at = by_place (units_law text uris all p (suc place) u n i cs rs h.1) (place == u) refl
    where
      by_place : (suc place ≤ u → result_at p.units u ≡ result_at rs u → IsIdent work.symbols n i → given_after (units_given (suc place) cs) (record { unit = u; ident = n }) None ≡ option_map (λ (d : Defined). d.occ) (defined_in (program_table p) u i)) → (q : Bool) → (place == u) ≡ q → given_after (forms_given place c.forms ++ units_given (suc place) cs) (record { unit = u; ident = n }) None ≡ option_map (λ (d : Defined). d.occ) (defined_in (program_table p) u i)
      by_place rest true f =
          let k : GlobalNo = record { unit = u; ident = n } in
          let same : place ≡ u = grind (arith, nat_tests) in
          given-append (forms_given place c.forms) (units_given (suc place) cs) k None
          ∙ later_units (suc place) u n cs (given_after (forms_given place c.forms) k None) (omega arith)
          ∙ ap (λ (w : ℕ). given_after (forms_given w c.forms) (record { unit = u; ident = n }) None) same ∙ given_unit u n c.forms
          ∙ defined_unit u n i (program_table p) (reverse (definitions_from 0 c.forms)) at (subst (λ (w : ℕ). AreDefinitions work.symbols (reverse (definitions_from 0 c.forms)) (defined_by w (program_table p))) same h.0.definitions)
      by_place rest false f =
          let k : GlobalNo = record { unit = u; ident = n } in
          let apart_here : (r.unit.number == u) ≡ false = ap (λ (x : ℕ). x == u) h.0.number ∙ f in
          let past : result_at p.units u ≡ result_at rs u = e ∙ ap (λ (q : Bool). if q then Some r else result_at rs u) apart_here in
          let more : suc place ≤ u = grind (arith, nat_tests) in
          given-append (forms_given place c.forms) (units_given (suc place) cs) k None ∙ ap (given_after (units_given (suc place) cs) k) (other_unit place u n c.forms None f)
          ∙ rest more past at

-- ---- one more

pub given_more : (u : ℕ) (bs : List Binder) (i : ℕ) (d : Binder) (k : GlobalNo) (before old new : Option (Option Occ)) → i < length bs → old ≡ given_after (given_by u (take i bs)) k before →
    new ≡ (if same_global (record { unit = u; ident = (get_or bs i d).ident }) k then Some (get_or bs i d).occ else old) → new ≡ given_after (given_by u (take (i + 1) bs)) k before
given_more u bs i d k before old new lt h n =
    n ∙ ap (λ (o : Option (Option Occ)). if same_global (record { unit = u; ident = (get_or bs i d).ident }) k then Some (get_or bs i d).occ else o) h
    ∙ sym (given-append (given_by u (take i bs)) (given_by u (get_or bs i d ∷ [])) k before)
    ∙ ap (λ (q : List Given). given_after q k before) (sym (ap (given_by u) (take_more bs i d lt) ∙ map_both u (take i bs) (get_or bs i d ∷ [])))

pub forms_more : (u : ℕ) (cs : List UnitForm) (i : ℕ) (c : UnitForm) (k : GlobalNo) (before old new : Option (Option Occ)) → i < length cs → c ≡ get_or cs i c → old ≡ given_after (forms_given u (take i cs)) k before →
    new ≡ given_after (given_by u c.trace.definitions) k old → new ≡ given_after (forms_given u (take (i + 1) cs)) k before
forms_more u cs i c k before old new lt is h n =
    n ∙ ap (given_after (given_by u c.trace.definitions) k) h ∙ sym (given-append (forms_given u (take i cs)) (given_by u c.trace.definitions) k before)
    ∙ ap (λ (q : List Given). given_after q k before) (sym (flat_more (λ (d : UnitForm). given_by u d.trace.definitions) cs i c lt is))

pub units_more : (us : List CodeUnit) (place : ℕ) (c : CodeUnit) (k : GlobalNo) (old new whole : Option (Option Occ)) → place < length us → c ≡ get_or us place c →
    given_after (units_given place (drop place us)) k old ≡ whole → new ≡ given_after (forms_given place c.forms) k old → given_after (units_given (place + 1) (drop (place + 1) us)) k new ≡ whole
units_more us place c k old new whole lt is h n =
    ap (given_after (units_given (place + 1) (drop (place + 1) us)) k) n
    ∙ ap (λ (q : ℕ). given_after (units_given q (drop q us)) k (given_after (forms_given place c.forms) k old)) (add-one place)
    ∙ sym (given-append (forms_given place c.forms) (units_given (suc place) (drop (suc place) us)) k old)
    ∙ ap (λ (q : List CodeUnit). given_after (units_given place q) k old) (sym (drop-cons us place c lt ∙ ap (λ (d : CodeUnit). d ∷ drop (suc place) us) (sym is))) ∙ h
