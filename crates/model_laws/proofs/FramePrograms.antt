-- The law of programs: both sides work on the same units in the same order, each to the same result, since what a unit leaves is
-- what the next one needs.
use Rattle.std.proofs.Common.{◌≡◌, ℕ, zero, suc, inl, List, [], ◌∷◌, map, length, Bool, true, false, cond, Option, Some, None, Result, Ok, Err, refl, sym, ap, ◌∙◌, subst, arith, ltb, ◌<◌}
use Rattle.std.proofs.lemmas.Bool.{eq-eqb, ltb-true}
use Rattle.std.specs.Prelude.{◌&&◌, ◌||◌, ◌==◌, not}
use Rattle.std.proofs.lemmas.Bool.Decides.{nat_tests}
use Rattle.scheme_model.specs.declared.Occ.{Occ}
use Rattle.scheme_model.specs.Identifiers.{Number, Name, Written as WrittenName}
use Rattle.scheme_model.specs.Ident.{Ident, Written, Inserted}
use Rattle.scheme_model.specs.Trees.{Tree, list as list_of, vector as vector_of, Trees, tree, dotted, map_tree, map_trees, map_tail, placed_by, proper}
use Rattle.scheme_model.specs.Kinds.{Name as NameLeaf, Numeral, Quoted, Character, Truth}
use Rattle.scheme_model.specs.Data.{Atom, spelled, implied, Datum, atom, list, vector, bytes, Data, none, part, tail}
use Rattle.scheme_model.specs.DataTrees.{atom_tree, tree_of, parts_of, end_of}
use Rattle.scheme_model.specs.ExpansionFaults.{Fault}
use Rattle.scheme_model.specs.Meaning.{Meaning, Local, Global, Standard, Free}
use Rattle.scheme_model.specs.Requirements.{Known}
use Rattle.scheme_model.specs.RulesShape.{Rules, rules_map, rules_parts}
use Rattle.scheme_model.specs.UnitExpansion.{Formed, unit}
use Rattle.scheme_model.specs.Substitution.{Entries, KeptMacro, State, Defined, defined_in, is_plain, meaning, model}
use Rattle.scheme_model.specs.ScopedExpansion.{Frames, BodyDefinitions, ScopedMacro, ScopedState, means_inside, means_outside, scoped}
use Rattle.scheme_model.specs.Order.{is_some}
use Rattle.scheme_model.specs.FrameImages.{frame_image, image_outside, DefinesOutside}
use Rattle.scheme_model.specs.Prelude.{PreludeMacro, prelude}
use Rattle.scheme_model.specs.Entries.{Entry}
use Rattle.scheme_model.specs.Declarations.{UnitForm, home_of}
use Rattle.scheme_model.specs.Includes.{Document}
use Rattle.scheme_model.specs.IncludedUnits.{Placed}
use Rattle.scheme_model.specs.Program.{known_in, units_of, prepare, Prepared, WholeFault, fault_before, SetResult, UnitResult, Progress, result_at, unit_entries, with_entries, form_trees, start_of, enough_turns, broken_result, unit_result, expanded_unit, by_fault, is_ready, first_ready, worked, work, written_rules, is_standard, prelude_unit, prelude_entry, prelude_meaning, prelude_macro, prelude_definitions, progress_before, in_order, program_of, forms_at_work}
use Rattle.scheme_model.specs.ScopedProgram.{ScopedProgress, forms_over, scoped_start_of, scoped_unit_over, numbered_unit_over, scoped_start_after, scoped_expanded, scoped_by_fault, scoped_worked, scoped_work, prelude_rules, scoped_prelude_macro, scoped_before, scoped_program_of, imaged_macro, imaged}
use Rattle.scheme_model.proofs.RenamingLaws.{map_after}
use Rattle.model_laws.proofs.IdentKinds.{rules_kind, rules_fused}
use Rattle.scheme_model.proofs.Clocks.{leq_itself}
use Rattle.model_laws.proofs.FrameNames.{meaning_frame_image}
use Rattle.model_laws.proofs.FrameEras.{Era, Worked, Before, Below}
use Rattle.model_laws.proofs.FrameAsks.{AllOf, MeansCounted}
use Rattle.model_laws.proofs.FrameRoots.{RulesOver, Rooted, UnitMacro}
use Rattle.model_laws.proofs.FrameStates.{names, Old, ident_of, Made, MacroFine, Fine, FineState}
use Rattle.model_laws.proofs.FrameLeaves.{TreeAll, all_held}
use Rattle.model_laws.proofs.EntryLaws.{NoLocal, GivenNoLocal, Fits, Exports, unit_entries_fit, with_entries_fit, exports_all_fit}
use Rattle.model_laws.proofs.FrameUnit.{UnitLeaf, UnitState}
use Rattle.model_laws.proofs.FrameUnits.{form_seen, FormHeld, AllFormed, unit_law}
use Rattle.model_laws.proofs.FrameBetween.{none_yet, given_counted, left_then}
use Rattle.model_laws.proofs.CountedStates.{Formed as FormedBy, LocalKept}
use Rattle.model_laws.proofs.CountedUnits.{UnitSame, unit_same as counted_same}

-- ---- the forms

module _ {A B : Type 0} (f : A → B) (written : List ℕ → A) (place : ℕ → Occ) where
  atom_over : (a : Atom) (o : Occ) → map_tree f (atom_tree written a o) ≡ atom_tree (λ s. f (written s)) a o
  atom_over (spelled (NameLeaf s bars)) o = refl
  atom_over (spelled (Numeral text)) o = refl
  atom_over (spelled (Quoted text)) o = refl
  atom_over (spelled (Character c)) o = refl
  atom_over (spelled (Truth b)) o = refl
  atom_over (implied mark) o = refl

  mutual
    tree_over : (d : Datum) → map_tree f (tree_of written place d) ≡ tree_of (λ s. f (written s)) place d
    tree_over (atom p a) = atom_over a (place p.first)
    tree_over (list p ds) = λ j. list_of (parts_over ds j) (end_over ds j) (Some (place p.first))
    tree_over (vector p ds) = ap (λ (ts : Trees B). vector_of ts (Some (place p.first))) (parts_over ds)
    tree_over (bytes p texts) = refl

    parts_over : (ds : Data) → map_trees f (parts_of written place ds) ≡ parts_of (λ s. f (written s)) place ds
    parts_over none = refl
    parts_over (part d ds) = λ j. tree (tree_over d j) (parts_over ds j)
    parts_over (tail d) = refl

    end_over : (ds : Data) → map_tail f (end_of written place ds) ≡ end_of (λ s. f (written s)) place ds
    end_over none = refl
    end_over (part d ds) = end_over ds
    end_over (tail d) = ap (λ (t : Tree B). dotted t) (tree_over d)

abbrev pub form_mapped : {A B : Type 0} → (A → B) → ℕ × Tree A → ℕ × Tree B
form_mapped f t = (t.0, map_tree f t.1)

forms_mapped : {A B : Type 0} (f : A → B) (written : List ℕ → A) (w form : ℕ) (fs : List UnitForm) → map (form_mapped f) (forms_over written w form fs) ≡ forms_over (λ s. f (written s)) w form fs
forms_mapped f written w form [] = refl
forms_mapped {A} {B} f written w form (x ∷ fs) = go x.declared (forms_mapped f written w (suc form) fs)
  where
    go : (t : Bool) → map (form_mapped f) (forms_over written w (suc form) fs) ≡ forms_over (λ s. f (written s)) w (suc form) fs
        → map (form_mapped f) (cond t (forms_over written w (suc form) fs) ((form, tree_of written (placed_by (home_of w form x)) x.datum) ∷ forms_over written w (suc form) fs))
        ≡ cond t (forms_over (λ s. f (written s)) w (suc form) fs) ((form, tree_of (λ s. f (written s)) (placed_by (home_of w form x)) x.datum) ∷ forms_over (λ s. f (written s)) w (suc form) fs)
    go true h = h
    go false h = let e = tree_over f written (placed_by (home_of w form x)) x.datum in λ j. (form, e j) ∷ h j

forms_same : (w form : ℕ) (fs : List UnitForm) → forms_over (WrittenName w) w form fs ≡ form_trees w form fs
forms_same w form [] = refl
forms_same w form (x ∷ fs) = ap (λ (r : List (ℕ × Tree Name)). cond x.declared r ((form, tree_of (WrittenName w) (placed_by (home_of w form x)) x.datum) ∷ r)) (forms_same w (suc form) fs)

module _ (P : Ident → Type 0) (w : ℕ) (written : (s : List ℕ) → P (Written w s)) where
  forms_all : (fs : List UnitForm) (form : ℕ) → AllOf (λ (t : ℕ × Tree Ident). TreeAll P t.1) (forms_over (Written w) w form fs)
  forms_all [] form = tt
  forms_all (x ∷ fs) form = go x.declared (forms_all fs (suc form))
    where
      one : TreeAll P (tree_of (Written w) (placed_by (home_of w form x)) x.datum)
      one = subst (TreeAll P) (tree_over (λ (p : (i : Ident) × P i). p.0) (λ s. (Written w s, written s)) (placed_by (home_of w form x)) x.datum) (all_held P (tree_of (λ s. (Written w s, written s)) (placed_by (home_of w form x)) x.datum))

      go : (t : Bool) → AllOf (λ (t : ℕ × Tree Ident). TreeAll P t.1) (forms_over (Written w) w (suc form) fs)
          → AllOf (λ (t : ℕ × Tree Ident). TreeAll P t.1) (cond t (forms_over (Written w) w (suc form) fs) ((form, tree_of (Written w) (placed_by (home_of w form x)) x.datum) ∷ forms_over (Written w) w (suc form) fs))
      go true h = h
      go false h = (one, h)

-- ---- what holds between units

abbrev pub done : List UnitResult → ℕ → Bool
done rs u = is_some (result_at rs u)

abbrev pub coming : List UnitResult → ℕ → Era
coming rs z = record { unit = z; worked = done rs }

pub record Between (g : ScopedProgress) : Type 0 where
  pub fine : (z : ℕ) → done g.results z ≡ false → Fine (coming g.results z) none_yet none_yet none_yet g.table g.entry g.macros g.places g.definitions
  pub outside : DefinesOutside g.table g.places
  pub entries : (u : ℕ) (s : List ℕ) → GivenNoLocal (g.entry u s)
  pub exports : Exports NoLocal g.results
  pub formed : FormedBy g.places g.definitions

-- no number of the unit is counted yet, so no macro is a local of it
none_counted : (w : Era) (v : Number) → Before w none_yet v → v.unit ≡ w.unit → ⊥
none_counted w v h a =
    let same = ap (λ u. u == w.unit) a ∙ eq-eqb w.unit w.unit refl in
    let p : ltb v.count 0 ≡ true = sym (ap (λ t. cond t (ltb v.count 0) true) same) ∙ h.0 in
    let q : v.count < 0 = ltb-true v.count 0 p in
    omega arith

pub locals_none : (w : Era) (s : ScopedState) (ks : List ScopedMacro) → AllOf (MacroFine w none_yet none_yet none_yet) ks → AllOf (λ (k : ScopedMacro). LocalKept w s k.meaning k.frames k.rules) ks
locals_none w s [] h = tt
locals_none w s (k ∷ ks) h = (go k.meaning h.0.meaning, locals_none w s ks h.1)
  where
    go : (m : Meaning) → MeansCounted w none_yet m → LocalKept w s m k.frames k.rules
    go (Local v) c = λ a. absurd (none_counted w v c a)
    go (Global u i) c = tt
    go (Standard x) c = tt
    go (Free x) c = tt

turned : (m n : ℕ) → (m == n) ≡ (n == m)
turned m n = grind (arith, nat_tests)

-- one more is done
done_more : (rs : List UnitResult) (r : UnitResult) (n : ℕ) → r.unit.number ≡ n → (u : ℕ) → Worked (coming rs n) u → done (r ∷ rs) u ≡ true
done_more rs r n e u h = go (u == n) (ap (λ m. m == u) e ∙ turned n u) h
  where
    go : (t : Bool) → (r.unit.number == u) ≡ t → (t || done rs u) ≡ true → is_some (cond (r.unit.number == u) (Some r) (result_at rs u)) ≡ true
    go true q k = ap (λ t. is_some (cond t (Some r) (result_at rs u))) q
    go false q k = ap (λ t. is_some (cond t (Some r) (result_at rs u))) q ∙ k

-- ---- one unit

module _ (known : Known) (g : ScopedProgress) (h : Between g) (p : Prepared) (new : done g.results p.number ≡ false) where
  abbrev w : Era
  w = coming g.results p.number

  -- it is broken
  pub broken_between : (fault : WholeFault) → Between (record g { results = broken_result p fault ∷ g.results })
  broken_between fault = record {
    fine = λ z e. left_then w z (done (broken_result p fault ∷ g.results)) (done_more g.results (broken_result p fault) p.number refl) e none_yet none_yet none_yet g.table g.entry g.entry g.macros g.places g.definitions (h.fine p.number new) h.entries;
    outside = h.outside;
    entries = h.entries;
    exports = (tt, h.exports);
    formed = h.formed;
  }

  module _ (imports : List Entry × List SetResult) (fit : Fits NoLocal imports.0) where
    abbrev entry : Entries
    entry = with_entries p.number imports.0 g.entry

    abbrev start : ScopedState
    start = scoped_start_of p g entry

    abbrev by_scopes : Option (List Formed) × ScopedState
    by_scopes = scoped_unit_over known p start

    entries_fit : (u : ℕ) (s : List ℕ) → GivenNoLocal (entry u s)
    entries_fit = with_entries_fit NoLocal p.number imports.0 g.entry fit h.entries

    start_fine : FineState w start
    start_fine =
        let f = h.fine p.number new in (
          refl,
          record {
            definitions = f.definitions;
            bodies = f.bodies;
            idents = f.idents;
            entered = f.entered;
            macros = f.macros;
            stands = f.stands;
            outside = f.outside;
            binders = f.binders;
            places = f.places;
            entries = λ v s. given_counted w none_yet (entry v s) (entries_fit v s);
          },
        )

    pub start_unit : UnitState w known start
    start_unit = record { fine = start_fine; entries = entries_fit }

    pub forms_held : AllOf (FormHeld w known start) (forms_over (Written p.number) p.number 0 (forms_at_work p))
    forms_held = forms_all (UnitLeaf w known start) p.number (λ s. (tt, tt)) (forms_at_work p) 0

    pub forms_seen : map (form_seen (names start [])) (forms_over (Written p.number) p.number 0 (forms_at_work p)) ≡ form_trees p.number 0 (forms_at_work p)
    forms_seen = forms_mapped (names start []) (Written p.number) p.number 0 (forms_at_work p) ∙ forms_same p.number 0 (forms_at_work p)

    abbrev by_substitution : Option (List Formed) × State
    by_substitution = unit (model known) enough_turns tt (form_trees p.number 0 (forms_at_work p)) (start_of p g.table (map (imaged_macro g.places g.definitions) g.macros) entry)

    -- by counts and by whole numbers alike
    told_same : UnitSame w known enough_turns (forms_over (Written p.number) p.number 0 (forms_at_work p)) start
    told_same = counted_same w known enough_turns (forms_over (Written p.number) p.number 0 (forms_at_work p)) start start_unit h.formed (locals_none w start g.macros (h.fine p.number new).macros) forms_held

    abbrev by_numbers : Option (List Formed) × ScopedState
    by_numbers = unit (scoped known) enough_turns [] (forms_over (Written p.number) p.number 0 (forms_at_work p)) start

    pub unit_same : AllFormed w known by_scopes by_substitution
    unit_same =
        subst (λ (q : Option (List Formed) × ScopedState). AllFormed w known q by_substitution) (sym told_same.same)
        (subst (AllFormed w known by_numbers) (ap (λ ts. unit (model known) enough_turns tt ts (start_of p g.table (map (imaged_macro g.places g.definitions) g.macros) entry)) forms_seen)
        (unit_law w known enough_turns (forms_over (Written p.number) p.number 0 (forms_at_work p)) start false [] start_unit forms_held))

    abbrev built : Option (List Formed) → State → Progress
    built forms s = record { table = s.table; macros = s.macros; entry = entry; results = unit_result p imports s.table forms ∷ g.results }

    pub step_same : (all : List Placed) → expanded_unit all known p imports (imaged g) ≡ imaged (scoped_expanded known p imports g)
    step_same all = let forms = unit_same.forms in let state = unit_same.state in λ j. built (forms j) (state j)

    abbrev result : UnitResult
    result = unit_result p imports by_scopes.1.table by_scopes.0

    result_number : result.unit.number ≡ p.number
    result_number = go by_scopes.0
      where
        go : (forms : Option (List Formed)) → (unit_result p imports by_scopes.1.table forms).unit.number ≡ p.number
        go None = refl
        go (Some forms) = refl

    result_exports : Fits NoLocal result.exports
    result_exports = go by_scopes.0
      where
        go : (forms : Option (List Formed)) → Fits NoLocal (unit_result p imports by_scopes.1.table forms).exports
        go None = tt
        go (Some forms) = exports_all_fit NoLocal by_scopes.1.table p.number (λ i. tt) imports.0 fit p.exports

    pub step_between : Between (scoped_expanded known p imports g)
    step_between =
        let s = by_scopes.1 in
        record {
          fine = λ z e. left_then w z (done (result ∷ g.results)) (done_more g.results result p.number result_number) e s.locals s.uses s.bodies s.table s.entry entry s.macros s.places s.definitions unit_same.fine.1 entries_fit;
          outside = λ v i es e. (unit_same.fine.1.outside v i e).1 es;
          entries = entries_fit;
          exports = (result_exports, h.exports);
          formed = subst (λ (q : Option (List Formed) × ScopedState). FormedBy q.1.places q.1.definitions) (sym told_same.same) told_same.formed;
        }

-- ---- all units

pub record Gone (m : Progress) (g : ScopedProgress) : Type 0 where
  pub same : m ≡ imaged g
  pub between : Between g

module _ (all : List Placed) (ps : List Prepared) (known : Known) where
  fault_gone : (g : ScopedProgress) → Between g → (p : Prepared) → done g.results p.number ≡ false → (f : Option WholeFault) → Gone (by_fault all ps known p f (imaged g)) (scoped_by_fault all known p f g)
  fault_gone g h p new (Some fault) = record { same = refl; between = broken_between known g h p new fault }
  fault_gone g h p new None =
      let imports = unit_entries all g.results p in let fit = unit_entries_fit NoLocal (λ s. tt) all g.results h.exports p in
      record { same = step_same known g h p new imports fit all; between = step_between known g h p new imports fit }

  abbrev OrReady : (Prepared → Bool) → Option Prepared → Type 0
  OrReady f None = Unit {0}
  OrReady f (Some p) = f p ≡ true

  first_is : (f : Prepared → Bool) (qs : List Prepared) → OrReady f (first_ready f qs)
  first_is f [] = tt
  first_is f (q ∷ qs) = go (f q) refl (first_is f qs)
    where
      go : (t : Bool) → f q ≡ t → OrReady f (first_ready f qs) → OrReady f (cond t (Some q) (first_ready f qs))
      go true e r = e
      go false e r = r

  pub not_done : (a b : Bool) → (not a && b) ≡ true → a ≡ false
  not_done true b e = absurd cc
  not_done false b e = refl

  worked_gone : (g : ScopedProgress) → Between g → (o : Option Prepared) → OrReady (is_ready all ps g.results) o → Gone (worked all ps known o (imaged g)) (scoped_worked all ps known o g)
  worked_gone g h None r = record { same = refl; between = h }
  worked_gone g h (Some p) r = fault_gone g h p (not_done (done g.results p.number) _ r) (fault_before all ps p)

  pub work_gone : (n : ℕ) (g : ScopedProgress) → Between g → Gone (work all ps known n (imaged g)) (scoped_work all ps known n g)
  work_gone zero g h = record { same = refl; between = h }
  work_gone (suc n) g h =
      let o = first_ready (is_ready all ps g.results) ps in
      let q = worked_gone g h o (first_is (is_ready all ps g.results) ps) in
      let rest = work_gone n (scoped_worked all ps known o g) q.between in
      record { same = ap (work all ps known n) q.same ∙ rest.same; between = rest.between }

-- ---- the prelude

never : (b : Bool) → (b && false) ≡ false
never true = refl
never false = refl

abbrev defined_as : List ℕ → Defined
defined_as s = record { unit = prelude_unit; form = 0; ident = Written prelude_unit s; keyword = true; occ = None }

-- it defines what is written
none_inserted : (ms : List PreludeMacro) (u : ℕ) (i : Ident) (k : Number) → defined_in (prelude_definitions ms) u (Inserted i k) ≡ None
none_inserted [] u i k = refl
none_inserted (m ∷ ms) u i k = go (is_standard m.name) (none_inserted ms u i k)
  where
    go : (t : Bool) → defined_in (prelude_definitions ms) u (Inserted i k) ≡ None → defined_in (cond t (prelude_definitions ms) (defined_as m.name ∷ prelude_definitions ms)) u (Inserted i k) ≡ None
    go true h = h
    go false h = ap (λ t. cond t (Some (defined_as m.name)) (defined_in (prelude_definitions ms) u (Inserted i k))) (never (prelude_unit == u)) ∙ h

module _ (z : ℕ) where
  abbrev first : Era
  first = coming [] z

  outside : (v : ℕ) (i : Ident) → is_some (defined_in (prelude_definitions prelude) v i) ≡ true → Below first none_yet i × ((es : BodyDefinitions) → is_plain (image_outside [] i es) ≡ true)
  outside v (Written u s) h = (tt, λ es. refl)
  outside v (Inserted i k) h = let q : true ≡ false = sym h ∙ ap is_some (none_inserted prelude v i k) in absurd cc

  rules_made : (r : Result (Rules (List ℕ)) (Fault (List ℕ))) → Made rules_kind first none_yet (prelude_rules r)
  rules_made (Ok r) = record {
    clock = none_yet;
    earlier = leq_itself none_yet;
    made = rules_map (λ (s : List ℕ). (Written prelude_unit s, tt)) r;
    same = rules_fused (List ℕ) (Old first none_yet) Ident (ident_of first none_yet) (λ s. (Written prelude_unit s, tt)) r;
  }
  rules_made (Err e) = record { clock = none_yet; earlier = leq_itself none_yet; made = record { ellipsis = None; literals = []; rules = [] }; same = refl }

  rules_over : (r : Result (Rules (List ℕ)) (Fault (List ℕ))) → RulesOver (Rooted first none_yet []) (prelude_rules r)
  rules_over (Ok r) = record {
    over = rules_map (λ (s : List ℕ). (Written prelude_unit s, (tt, tt))) r;
    same = rules_fused (List ℕ) ((i : Ident) × Rooted first none_yet [] i) Ident (λ p. p.0) (λ s. (Written prelude_unit s, (tt, tt))) r;
  }
  rules_over (Err e) = record { over = record { ellipsis = None; literals = []; rules = [] }; same = refl }

  macro_fine : (m : PreludeMacro) → MacroFine first none_yet none_yet none_yet (scoped_prelude_macro m)
  macro_fine m = go (is_standard m.name)
    where
      go : (t : Bool) → MacroFine first none_yet none_yet none_yet (record { meaning = cond t (Standard m.name) (Global prelude_unit (Written prelude_unit m.name)); frames = []; rules = prelude_rules (rules_parts m.parts proper) })
      go true = record { entered = tt; rules = rules_made (rules_parts m.parts proper); binders = tt; meaning = tt }
      go false = record { entered = tt; rules = rules_made (rules_parts m.parts proper); binders = tt; meaning = tt }

  macro_stands : (m : PreludeMacro) → UnitMacro first none_yet [] (scoped_prelude_macro m)
  macro_stands m = go (is_standard m.name)
    where
      go : (t : Bool) → UnitMacro first none_yet [] (record { meaning = cond t (Standard m.name) (Global prelude_unit (Written prelude_unit m.name)); frames = []; rules = prelude_rules (rules_parts m.parts proper) })
      go true = record { outside = refl; rooted = rules_over (rules_parts m.parts proper) }
      go false = record { outside = refl; rooted = rules_over (rules_parts m.parts proper) }

  macros_fine : (ms : List PreludeMacro) → AllOf (MacroFine first none_yet none_yet none_yet) (map scoped_prelude_macro ms)
  macros_fine [] = tt
  macros_fine (m ∷ ms) = (macro_fine m, macros_fine ms)

  macros_stand : (ms : List PreludeMacro) → AllOf (UnitMacro first none_yet []) (map scoped_prelude_macro ms)
  macros_stand [] = tt
  macros_stand (m ∷ ms) = (macro_stands m, macros_stand ms)

prelude_entries : (u : ℕ) (s : List ℕ) → GivenNoLocal (prelude_entry u s)
prelude_entries u s = go ((u == prelude_unit) && is_standard s)
  where
    go : (t : Bool) → GivenNoLocal (cond t (Some (Standard s)) None)
    go true = tt
    go false = tt

pub between_before : Between scoped_before
between_before = record {
  fine = λ z e. record {
    definitions = λ b i h. inl refl;
    bodies = tt;
    idents = tt;
    entered = λ k. tt;
    macros = macros_fine z prelude;
    stands = macros_stand z prelude;
    outside = λ v i h. outside z v i h;
    binders = tt;
    places = λ k. tt;
    entries = λ v s. given_counted (first z) none_yet (prelude_entry v s) (prelude_entries v s);
  };
  outside = λ v i es e. (outside 0 v i e).1 es;
  entries = prelude_entries;
  exports = tt;
  formed = record { frames = λ k. tt; bodies = tt };
}

rules_seen : (r : Result (Rules (List ℕ)) (Fault (List ℕ))) → rules_map (frame_image [] [] []) (prelude_rules r) ≡ written_rules r
rules_seen (Ok r) = rules_fused (List ℕ) Ident Name (frame_image [] [] []) (Written prelude_unit) r
rules_seen (Err e) = refl

macros_seen : (ms : List PreludeMacro) → map (imaged_macro [] []) (map scoped_prelude_macro ms) ≡ map prelude_macro ms
macros_seen ms = map_after (imaged_macro [] []) scoped_prelude_macro prelude_macro (λ m. ap (λ (r : Rules Name). record { meaning = prelude_meaning m.name; rules = r }) (rules_seen (rules_parts m.parts proper))) ms

before_same : imaged scoped_before ≡ progress_before
before_same = ap (λ (ms : List KeptMacro). record progress_before { macros = ms }) (macros_seen prelude)

-- ---- the program

pub progress_law : (all : List Placed) (ps : List Prepared) (known : Known) (n : ℕ) → imaged (scoped_work all ps known n scoped_before) ≡ work all ps known n progress_before
progress_law all ps known n = sym (work_gone all ps known n scoped_before between_before).same ∙ ap (work all ps known n) before_same

pub means_law : (all : List Placed) (ps : List Prepared) (known : Known) (n : ℕ) (fs : Frames) (i : Ident)
    → let g = scoped_work all ps known n scoped_before in meaning g.table g.entry (frame_image g.places g.definitions fs i) ≡ means_inside g.definitions fs i (means_outside g.table g.entry g.places g.definitions i)
means_law all ps known n fs i =
    let g = scoped_work all ps known n scoped_before in meaning_frame_image g.table g.entry g.places (work_gone all ps known n scoped_before between_before).between.outside g.definitions fs i

pub program_law : (ds : List Document) → scoped_program_of ds ≡ program_of ds
program_law ds =
    let all = units_of ds in let ps = prepare all 0 all in
    ap (λ (g : Progress). record { units = in_order g.results 0 (length ps); table = g.table; entry = g.entry }) (progress_law all ps (known_in ds) (length ps))

-- a unit by counts is the unit by whole numbers
pub counts_law : (all : List Placed) (ps : List Prepared) (known : Known) (n : ℕ) (p : Prepared)
    → let g = scoped_work all ps known n scoped_before in is_ready all ps g.results p ≡ true → scoped_unit_over known p (scoped_start_after all p g) ≡ numbered_unit_over known p (scoped_start_after all p g)
counts_law all ps known n p ready =
    let g = scoped_work all ps known n scoped_before in
    let h = (work_gone all ps known n scoped_before between_before).between in
    (told_same known g h p (not_done all ps known (done g.results p.number) _ ready) (unit_entries all g.results p) (unit_entries_fit NoLocal (λ s. tt) all g.results h.exports p)).same
