-- So they do in a program, unit by unit.
use Rattle.std.proofs.Common.{◌≡◌, ℕ, zero, suc, ◌+◌, List, [], ◌∷◌, ◌++◌, map, length, Bool, true, false, cond, eqb, Option, Some, None, refl, sym, ap, ◌∙◌, subst, arith}
use Rattle.std.specs.Prelude.{◌&&◌, ◌==◌, ◌<◌, nat_le}
use Rattle.std.specs.Str.{bytes_eq}
use Rattle.std.proofs.lemmas.Bool.{eqb-true, leb-false, and_parts}
use Rattle.scheme_model.specs.declared.Home.{Home}
use Rattle.scheme_model.specs.Ident.{Ident, Written, same_ident}
use Rattle.scheme_model.specs.Trees.{placed_by, proper}
use Rattle.scheme_model.specs.DataTrees.{tree_of}
use Rattle.scheme_model.specs.Meaning.{Meaning, Global, Standard}
use Rattle.scheme_model.specs.Requirements.{Known}
use Rattle.scheme_model.specs.RulesShape.{Rules, rules_parts}
use Rattle.scheme_model.specs.Declarations.{UnitForm, home_of}
use Rattle.scheme_model.specs.Substitution.{Table, Entries, Defined, defined_in}
use Rattle.scheme_model.specs.Prelude.{PreludeMacro, prelude}
use Rattle.scheme_model.specs.UnitExpansion.{Formed}
use Rattle.scheme_model.specs.Entries.{Entry, entry_at}
use Rattle.scheme_model.specs.Includes.{Document, max_units}
use Rattle.scheme_model.specs.IncludedUnits.{Placed}
use Rattle.scheme_model.specs.Program.{known_in, units_of, ExportSpec, Prepared, prepare, SetResult, WholeFault, TooMany, fault_before, unit_entries, entry_meaning, with_entries, own_entry, names_of_unit, Exported, has_name, exported, SameExport, export_one, export_all, unit_result, is_ready, first_ready, is_standard, prelude_unit, prelude_entry, prelude_meaning, prelude_definitions, forms_at_work}
use Rattle.scheme_model.specs.ScopedProgram.{ScopedProgress, forms_over, scoped_start_after, scoped_unit_over, scoped_by_fault, scoped_worked, prelude_rules, scoped_prelude_macro, scoped_before}
use Rattle.model_laws.proofs.EntryLaws.{Fit, Fits, Exports, unit_entries_fit}
use Rattle.form_laws.specs.Begins.{Each}
use Rattle.renumbering_laws.specs.Moving.{move_tree, move_rules}
use Rattle.renumbering_laws.specs.Renumbering.{Renumbering, ident, meaning, change}
use Rattle.renumbering_laws.specs.States.{defined_as}
use Rattle.renumbering_laws.specs.Asked.{new_kept}
use Rattle.renumbering_laws.specs.NewSurroundings.{HasOldNumbers}
use Rattle.renumbering_laws.proofs.DatumLaws.{tree_moved}
use Rattle.carried_forms.specs.Worked.{WorkedUnit, unless_broken, worked_next, worked_units, units_at_work}
use Rattle.carried_laws.specs.AtWork.{AreAtWork}
use Rattle.carried_laws.specs.Homes.{At}
use Rattle.carried_laws.proofs.StayingPrograms.{each_joined, program_begins}
use Rattle.agreeing_numbers.specs.Agreeing.{AgreeOnForm, AgreeOnUnit, AgreeOn}
use Rattle.agreeing_numbers.proofs.Agreeing.{same_head, same_tail, Imported, Agrees}
use Rattle.agreeing_numbers.proofs.UnitsAgree.{TreeAgrees, FormAgrees, forms_ask, unit_leaves}

-- ---- lists

joined_front : {X : Type 0} (P : X → Type 0) (xs ys : List X) → Each P (xs ++ ys) → Each P xs
joined_front P [] ys h = tt
joined_front P (x ∷ xs) ys h = (h.0, joined_front P xs ys h.1)

joined_end : {X : Type 0} (P : X → Type 0) (xs ys : List X) → Each P (xs ++ ys) → Each P ys
joined_end P [] ys h = h
joined_end P (x ∷ xs) ys h = joined_end P xs ys h.1

some_told : (d e : Defined) → Some d ≡ Some e → d ≡ e
some_told d e p = ap (or_this d) p
  where
    or_this : Defined → Option Defined → Defined
    or_this x None = x
    or_this x (Some y) = y

module _ (r q : Renumbering) where
  -- ---- the trees of a unit's forms

  tree_agrees : (u : ℕ) (h : Home) (f : UnitForm) → r.unit u ≡ q.unit u → r.unit h.unit ≡ q.unit h.unit → r.form h.unit h.form ≡ q.form h.unit h.form →
      move_tree (change r) (tree_of (Written u) (placed_by h) f.datum) ≡ move_tree (change q) (tree_of (Written u) (placed_by h) f.datum)
  tree_agrees u h f unit home form =
      tree_moved r Ident Ident (ident r) (Written u) (placed_by h) f.datum
      ∙ ((λ j. tree_of (λ s. Written (unit j) s) (λ n. record { unit = home j; form = form j; token = (placed_by h n).token }) f.datum)
      ∙ sym (tree_moved q Ident Ident (ident q) (Written u) (placed_by h) f.datum))

  trees_agree : (u k : ℕ) → r.unit u ≡ q.unit u → (fs : List UnitForm) → ((n : ℕ) (f : UnitForm) → At fs n f → let h = home_of u (k + n) f in AgreeOnForm r q u (k + n) h.unit h.form) → Each (TreeAgrees r q u) (forms_over (Written u) u k fs)
  trees_agree u k unit [] h = tt
  trees_agree u k unit (f ∷ fs) h = go f.declared (trees_agree u (suc k) unit fs later)
    where
      later : (n : ℕ) (g : UnitForm) → At fs n g → let i = home_of u (suc k + n) g in AgreeOnForm r q u (suc k + n) i.unit i.form
      later n g at = subst (λ m. let i = home_of u m g in AgreeOnForm r q u m i.unit i.form) (let e : k + suc n ≡ suc k + n = omega arith in e) (h (suc n) g at)

      here : let i = home_of u k f in AgreeOnForm r q u k i.unit i.form
      here = subst (λ m. let i = home_of u m f in AgreeOnForm r q u m i.unit i.form) (let e : k + 0 ≡ k = omega arith in e) (h 0 f refl)

      go : (b : Bool) → Each (TreeAgrees r q u) (forms_over (Written u) u (suc k) fs) → Each (TreeAgrees r q u) (cond b (forms_over (Written u) u (suc k) fs) ((k, tree_of (Written u) (placed_by (home_of u k f)) f.datum) ∷ forms_over (Written u) u (suc k) fs))
      go true more = more
      go false more = ((here.form_same, tree_agrees u (home_of u k f) f unit here.home_unit_same here.home_form_same), more)

  unit_trees : (p : Prepared) → AgreeOnUnit r q p → Each (TreeAgrees r q p.number) (forms_over (Written p.number) p.number 0 (forms_at_work p))
  unit_trees p h = trees_agree p.number 0 h.unit (forms_at_work p) (λ n f at. subst (λ m. let i = home_of p.number m f in AgreeOnForm r q p.number m i.unit i.form) (let e : n ≡ 0 + n = omega arith in e) (h.forms n f at))

  -- ---- what units import and export

  abbrev P : Meaning → Type 0
  P m = meaning r m ≡ meaning q m

  abbrev OrFit : Option Entry → Type 0
  OrFit None = Unit {0}
  OrFit (Some e) = Fit P e

  at_fits : (es : List Entry) → Fits P es → (s : List ℕ) → OrFit (entry_at es s)
  at_fits [] h s = tt
  at_fits (e ∷ es) h s = go (bytes_eq e.name s) (at_fits es h.1 s)
    where
      go : (t : Bool) → OrFit (entry_at es s) → OrFit (cond t (Some e) (entry_at es s))
      go true k = h.0
      go false k = k

  found_agrees : (t : Table) → map (defined_as r) t ≡ map (defined_as q) t → (u : ℕ) (i : Ident) (d : Defined) → defined_in t u i ≡ Some d → defined_as r d ≡ defined_as q d
  found_agrees [] e u i d h = absurd cc
  found_agrees (x ∷ t) e u i d h = go (eqb x.unit u && same_ident x.ident i) (λ k. found_agrees t (same_tail (defined_as r) (defined_as q) x t e) u i d k) h
    where
      go : (b : Bool) → (defined_in t u i ≡ Some d → defined_as r d ≡ defined_as q d) → cond b (Some x) (defined_in t u i) ≡ Some d → defined_as r d ≡ defined_as q d
      go true law k = subst (λ (z : Defined). defined_as r z ≡ defined_as q z) (some_told x d k) (same_head (defined_as r) (defined_as q) x t e)
      go false law k = law k

  module _ (t : Table) (same : map (defined_as r) t ≡ map (defined_as q) t) (u : ℕ) (unit : r.unit u ≡ q.unit u) where
    own_fits : (s : List ℕ) (d : Option Defined) → defined_in t u (Written u s) ≡ d → (o : Option Entry) → OrFit o → OrFit (own_entry u s d o)
    own_fits s None e o h = h
    own_fits s (Some d) e o h = let i : ident r d.ident ≡ ident q d.ident = ap (λ (z : Defined). z.ident) (found_agrees t same u (Written u s) d e) in λ j. Global (unit j) (i j)

    one_fits : (seen : List (List ℕ)) (x : ExportSpec) (o : Option Entry) (rest : Exported) → OrFit o → Fits P rest.entries → Fits P (export_one seen x o rest).entries
    one_fits seen x None rest h k = k
    one_fits seen x (Some e) rest h k = go (has_name seen x.outer.name)
      where
        go : (b : Bool) → Fits P (cond {A = Exported} b (record { entries = rest.entries; faults = SameExport x ∷ rest.faults }) (record { entries = exported x e ∷ rest.entries; faults = rest.faults })).entries
        go true = k
        go false = (h, k)

    all_fit : (find : List ℕ → Option Entry) → ((s : List ℕ) → OrFit (find s)) → (seen : List (List ℕ)) (xs : List ExportSpec) → Fits P (export_all find seen xs).entries
    all_fit find h seen [] = tt
    all_fit find h seen (x ∷ xs) = one_fits seen x (find x.inner.name) (export_all find (x.outer.name ∷ seen) xs) (h x.inner.name) (all_fit find h (x.outer.name ∷ seen) xs)

    exports_fit : (es : List Entry) → Fits P es → (xs : List ExportSpec) → Fits P (export_all (names_of_unit t u es) [] xs).entries
    exports_fit es h xs = all_fit (names_of_unit t u es) (λ s. own_fits s (defined_in t u (Written u s)) refl (entry_at es s) (at_fits es h s)) [] xs

  result_fits : (p : Prepared) → r.unit p.number ≡ q.unit p.number → (t : Table) → map (defined_as r) t ≡ map (defined_as q) t → (imports : List Entry × List SetResult) → Fits P imports.0 → (fs : Option (List Formed)) → Fits P (unit_result p imports t fs).exports
  result_fits p unit t same imports h None = tt
  result_fits p unit t same imports h (Some fs) = exports_fit t same p.number unit imports.0 h p.exports

  imported : (u : ℕ) → r.unit u ≡ q.unit u → (o : Option Entry) → OrFit o → Imported r q u (entry_meaning o)
  imported u unit None h = tt
  imported u unit (Some e) h = (unit, h)

  entries_agree : (n : ℕ) → r.unit n ≡ q.unit n → (es : List Entry) → Fits P es → (before : Entries) → ((u : ℕ) (s : List ℕ) → Imported r q u (before u s)) → (u : ℕ) (s : List ℕ) → Imported r q u (with_entries n es before u s)
  entries_agree n unit es h before k u s = go (u == n) refl
    where
      go : (b : Bool) → (u == n) ≡ b → Imported r q u (cond b (entry_meaning (entry_at es s)) (before u s))
      go true e = imported u (subst (λ m. r.unit m ≡ q.unit m) (sym (eqb-true u n e)) unit) (entry_at es s) (at_fits es h s)
      go false e = k u s

  -- ---- one unit after another

  record Stand (g : ScopedProgress) : Type 0 where
    all : Agrees r q g.table g.macros g.entry
    exports : Exports P g.results

  abbrev Agreed : Prepared → Type 0
  Agreed p = p.number < max_units → AgreeOnUnit r q p

  OrAgrees : Option Prepared → Type 0
  OrAgrees None = Unit {0}
  OrAgrees (Some p) = Agreed p

  -- one that isn't broken before its forms are expanded is among the most
  worked_few : (n : ℕ) (t : Bool) (o : Option WholeFault) → nat_le max_units n ≡ t → cond t (Some TooMany) o ≡ None → n < max_units
  worked_few n true o e h = absurd cc
  worked_few n false o e h = leb-false max_units n e

  first_agrees : (ready : Prepared → Bool) (ps : List Prepared) → Each Agreed ps → OrAgrees (first_ready ready ps)
  unfolding OrAgrees
  first_agrees ready [] h = tt
  first_agrees ready (p ∷ ps) h = go (ready p) (first_agrees ready ps h.1)
    where
      go : (b : Bool) → OrAgrees (first_ready ready ps) → OrAgrees (cond b (Some p) (first_ready ready ps))
      go true k = h.0
      go false k = k

  module _ (b : HasOldNumbers r) (c : HasOldNumbers q) (all : List Placed) (ps : List Prepared) (known : Known) (agree : Each Agreed ps) where
    abbrev Asks : WorkedUnit → Type 0
    Asks w = Each (FormAgrees r q) w.forms

    module _ (g : ScopedProgress) (h : Stand g) (p : Prepared) where
      imports_fit : Fits P (unit_entries all g.results p).0
      imports_fit = unit_entries_fit P (λ s. refl) all g.results h.exports p

      entries : AgreeOnUnit r q p → (u : ℕ) (s : List ℕ) → Imported r q u (with_entries p.number (unit_entries all g.results p).0 g.entry u s)
      entries same = entries_agree p.number same.unit (unit_entries all g.results p).0 imports_fit g.entry h.all.entry

      start : AgreeOnUnit r q p → let s = scoped_start_after all p g in (s.unit ≡ p.number) × Agrees r q s.table s.macros s.entry
      start same = (refl, record { table = h.all.table; macros = h.all.macros; entry = entries same })

      fault_asks : (f : Option WholeFault) → (f ≡ None → AgreeOnUnit r q p) → Each AreAtWork (unless_broken all known p f g) → Each Asks (unless_broken all known p f g) × Stand (scoped_by_fault all known p f g)
      fault_asks (Some f) same work = (tt, record { all = h.all; exports = (tt, h.exports) })
      fault_asks None agreed work =
          let same = agreed refl in
          let s = scoped_start_after all p g in
          let ts = forms_over (Written p.number) p.number 0 (forms_at_work p) in
          let trees = unit_trees p same in
          let last = unit_leaves r q b c known p.number same.unit ts s (start same) trees work.0 in
          let x = scoped_unit_over known p s in (
            (forms_ask r q b c known p.number same.unit ts s (start same) trees work.0, tt),
            record {
              all = record { table = last.1.table; macros = last.1.macros; entry = entries same };
              exports = (result_fits p same.unit x.1.table last.1.table (unit_entries all g.results p) imports_fit x.0, h.exports);
            },
          )

    next_asks : (g : ScopedProgress) → Stand g → (o : Option Prepared) → OrAgrees o → Each AreAtWork (worked_next all ps known o g) → Each Asks (worked_next all ps known o g) × Stand (scoped_worked all ps known o g)
    unfolding OrAgrees
    next_asks g h None same work = (tt, h)
    next_asks g h (Some p) same work = fault_asks g h p (fault_before all ps p) (λ e. same (worked_few p.number (nat_le max_units p.number) _ refl e)) work

    units_ask : (n : ℕ) (g : ScopedProgress) → Stand g → Each AreAtWork (worked_units all ps known n g) → Each Asks (worked_units all ps known n g)
    units_ask zero g h work = tt
    units_ask (suc n) g h work =
        let o = first_ready (is_ready all ps g.results) ps in
        let now = worked_next all ps known o g in
        let later = worked_units all ps known n (scoped_worked all ps known o g) in
        let k = next_asks g h o (first_agrees (is_ready all ps g.results) ps agree) (joined_front AreAtWork now later work) in
        each_joined Asks now later k.0 (units_ask n (scoped_worked all ps known o g) k.1 (joined_end AreAtWork now later work))

-- ---- the prelude

-- its unit's number alone is in its rules
constant : ℕ → Renumbering
constant u = record { unit = λ n. u; form = λ n m. m; definition = λ n m. m }

abbrev rules_of : PreludeMacro → Rules Ident
rules_of m = prelude_rules (rules_parts m.parts proper)

rules_by_unit : (r : Renumbering) → map (λ m. move_rules (change r) (rules_of m)) prelude ≡ map (λ m. move_rules (change (constant (r.unit prelude_unit))) (rules_of m)) prelude
unfolding constant prelude
rules_by_unit r = refl

module _ (r q : Renumbering) (unit : r.unit prelude_unit ≡ q.unit prelude_unit) (form : r.form prelude_unit 0 ≡ q.form prelude_unit 0) where
  meaning_same : (s : List ℕ) → meaning r (prelude_meaning s) ≡ meaning q (prelude_meaning s)
  meaning_same s = go (is_standard s)
    where
      go : (t : Bool) → meaning r (cond t (Standard s) (Global prelude_unit (Written prelude_unit s))) ≡ meaning q (cond t (Standard s) (Global prelude_unit (Written prelude_unit s)))
      go true = refl
      go false = λ j. Global (unit j) (Written (unit j) s)

  macros_same : (ms : List PreludeMacro) → map (λ m. move_rules (change r) (rules_of m)) ms ≡ map (λ m. move_rules (change q) (rules_of m)) ms → map (new_kept r) (map scoped_prelude_macro ms) ≡ map (new_kept q) (map scoped_prelude_macro ms)
  macros_same [] e = refl
  macros_same (m ∷ ms) e =
      let a = meaning_same m.name in
      let k = same_head (λ m. move_rules (change r) (rules_of m)) (λ m. move_rules (change q) (rules_of m)) m ms e in
      let more = macros_same ms (same_tail (λ m. move_rules (change r) (rules_of m)) (λ m. move_rules (change q) (rules_of m)) m ms e) in
      λ j. record { meaning = a j; frames = []; rules = k j } ∷ more j

  rules_same : map (λ m. move_rules (change r) (rules_of m)) prelude ≡ map (λ m. move_rules (change q) (rules_of m)) prelude
  rules_same = rules_by_unit r ∙ ((λ j. map (λ m. move_rules (change (constant (unit j))) (rules_of m)) prelude) ∙ sym (rules_by_unit q))

  table_same : (ms : List PreludeMacro) → map (defined_as r) (prelude_definitions ms) ≡ map (defined_as q) (prelude_definitions ms)
  table_same [] = refl
  table_same (m ∷ ms) = go (is_standard m.name) (table_same ms)
    where
      d : Defined
      d = record { unit = prelude_unit; form = 0; ident = Written prelude_unit m.name; keyword = true; occ = None }

      go : (t : Bool) → map (defined_as r) (prelude_definitions ms) ≡ map (defined_as q) (prelude_definitions ms)
          → map (defined_as r) (cond t (prelude_definitions ms) (d ∷ prelude_definitions ms)) ≡ map (defined_as q) (cond t (prelude_definitions ms) (d ∷ prelude_definitions ms))
      go true more = more
      go false more = λ j. record { unit = unit j; form = form j; ident = Written (unit j) m.name; keyword = true; occ = None } ∷ more j

  prelude_imported : (u : ℕ) (s : List ℕ) → Imported r q u (prelude_entry u s)
  prelude_imported u s = go (eqb u prelude_unit && is_standard s) refl
    where
      go : (t : Bool) → (eqb u prelude_unit && is_standard s) ≡ t → Imported r q u (cond t (Some (Standard s)) None)
      go true e = (subst (λ n. r.unit n ≡ q.unit n) (sym (eqb-true u prelude_unit (and_parts (eqb u prelude_unit) (is_standard s) e).0)) unit, refl)
      go false e = tt

  before_stands : Stand r q scoped_before
  before_stands = record {
    all = record {
      table = table_same prelude;
      macros = macros_same prelude rules_same;
      entry = prelude_imported;
    };
    exports = tt;
  }

pub program_agrees : (ds : List Document) (r q : Renumbering) → HasOldNumbers r → HasOldNumbers q → AgreeOn r q ds → Each (λ (w : WorkedUnit). Each (FormAgrees r q) w.forms) (units_at_work ds)
program_agrees ds r q b c h =
    let all = units_of ds in
    let ps = prepare all 0 all in
    units_ask r q b c all ps (known_in ds) h.units (length ps) scoped_before (before_stands r q h.prelude h.prelude_form) (program_begins ds)
