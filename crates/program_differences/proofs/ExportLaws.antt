-- The names that exports are asked to have, where their external names stand, and exports compared one after another.
use Rattle.std.proofs.Common.{◌≡◌, ℕ, zero, suc, ◌+◌, ◌-◌, ◌<◌, ◌≤◌, List, [], ◌∷◌, ◌++◌, take, drop, get_or, length, Bool, true, false, cond, Option, Some, None, refl, sym, ap, ◌∙◌, subst, arith, append_assoc, add-one}
use Rattle.std.specs.Prelude.{◌==◌, ◌&&◌, ◌||◌, if◌then◌else◌}
use Rattle.std.specs.Str.{bytes_eq}
use Rattle.std.specs.Option.{is_some}
use Rattle.std.proofs.lemmas.Bool.{ne_eqb}
use Rattle.std.proofs.lemmas.Bool.Decides.{nat_tests}
use Rattle.std.proofs.lemmas.List.{take_more, length-append, get_or_at}
use Rattle.std.proofs.lemmas.Slice.Eq.{bytes_eq-Decides}
use Rattle.scheme_model.specs.declared.Occ.{Occ}
use Rattle.scheme_model.specs.Entries.{Entry}
use Rattle.scheme_model.specs.Live.{NameUse}
use Rattle.scheme_model.specs.Ident.{symbol_of}
use Rattle.scheme_model.specs.Meaning.{Meaning, Local, Global, Standard, Free}
use Rattle.scheme_model.specs.Substitution.{Table}
use Rattle.scheme_model.specs.Program.{ExportSpec, UnitResult, WholeFault, has_name, names_of_unit, prelude_unit}
use Rattle.rename_model.specs.Walks.{Point, Seen, AtExport, OfName, OfNumber, OfDefinition, IsString, IsOfPrelude, number_in, ShowsNothing, ShowsSymbol, ShowsMeaning, point, meaning_seen, meaning_at}
use Rattle.rename_model.specs.SameProgram as same
use Rattle.rename_model.specs.SameProgram.{agree, paired, external_occ, name_asked, export_points}
use Rattle.rename_model.specs.Difference.{first_apart}
use Rattle.syntax_tree.specs.Names.{Names}
use Rattle.syntax_tree.specs.Meant.{IsEntry, AreEntries}
use Rattle.syntax_tree.specs.declared.units.Entry as code_entry
use Rattle.core_tree.specs.Names.{AllMatch}
use Rattle.core_tree.specs.Units.{IsExternal, AreNames, externals, given_exports, unless_broken}
use Rattle.core_tree.specs.declared.units.NameUse as code_name
use Rattle.alpha_equal.specs.declared.points.Pair.{Pair}
use Rattle.alpha_equal.specs.declared.points.Told.{Told}
use Rattle.alpha_equal.specs.Points.{IsTold, ArePair}
use Rattle.program_differences.specs.declared.plan.ExportChange.{ExportChange}
use Rattle.program_differences.specs.Exported.{changes_as, first_given, asked_at, name_or, IsGiven, all_exports}

-- ---- names that are asked for

first_given_none : {A : Type 0} (a : Option A) → first_given a None ≡ a
first_given_none None = refl
first_given_none (Some x) = refl

one_given : (b : Bool) (t : List ℕ) (rest other : Option (List ℕ)) → cond b (Some t) (first_given rest other) ≡ first_given (cond b (Some t) rest) other
one_given true t rest other = refl
one_given false t rest other = refl

asked_push : (u : ℕ) (cs : List ExportChange) (c : ExportChange) (s : List ℕ) → asked_at u (cs ++ c ∷ []) s ≡ first_given (asked_at u cs s) (asked_at u (c ∷ []) s)
asked_push u [] c s = refl
asked_push u (d ∷ cs) c s =
    ap (λ (o : Option (List ℕ)). if (d.unit == u) && bytes_eq d.old s then Some d.new else o) (asked_push u cs c s)
    ∙ one_given ((d.unit == u) && bytes_eq d.old s) d.new (asked_at u cs s) (asked_at u (c ∷ []) s)

pub asked_more : (u : ℕ) (cs : List ExportChange) (k : ℕ) (d : ExportChange) (s : List ℕ) (old new : Option (List ℕ)) → k < length cs → old ≡ asked_at u (take k cs) s →
    new ≡ first_given old (asked_at u (get_or cs k d ∷ []) s) → new ≡ asked_at u (take (k + 1) cs) s
asked_more u cs k d s old new lt o n =
    n ∙ ap (λ (x : Option (List ℕ)). first_given x (asked_at u (get_or cs k d ∷ []) s)) o ∙ sym (asked_push u (take k cs) (get_or cs k d) s)
    ∙ ap (λ (xs : List ExportChange). asked_at u xs s) (sym (take_more cs k d lt))

-- a name that is known already, or that is new
pub known_name : (find : List ℕ → Option (List ℕ)) (t s new : List ℕ) → is_some (find t) ≡ true → find s ≡ first_given (find s) (if bytes_eq t s then Some new else None)
known_name find t s new h = go (find s) refl (bytes_eq t s) refl
  where
    go : (o : Option (List ℕ)) → find s ≡ o → (e : Bool) → bytes_eq t s ≡ e → o ≡ first_given o (if e then Some new else None)
    go (Some x) p e q = refl
    go None p false q = refl
    go None p true q = let z : true ≡ false = sym h ∙ ap is_some (ap find ((bytes_eq-Decides t s).0 q) ∙ p) in absurd cc

pub new_name : (find : List ℕ → Option (List ℕ)) (t s new : List ℕ) → is_some (find t) ≡ false → cond (bytes_eq t s) (Some new) (find s) ≡ first_given (find s) (if bytes_eq t s then Some new else None)
new_name find t s new h = go (find s) refl (bytes_eq t s) refl
  where
    go : (o : Option (List ℕ)) → find s ≡ o → (e : Bool) → bytes_eq t s ≡ e → cond e (Some new) o ≡ first_given o (if e then Some new else None)
    go o p false q = sym (first_given_none o)
    go None p true q = refl
    go (Some x) p true q = let z : false ≡ true = sym h ∙ ap is_some (ap find ((bytes_eq-Decides t s).0 q) ∙ p) in absurd cc

-- an export of a unit, and of another
pub asked_here : (u : ℕ) (c : ExportChange) (s : List ℕ) → c.unit ≡ u → (if bytes_eq c.old s then Some c.new else None) ≡ asked_at u (c ∷ []) s
asked_here u c s e =
    let same : (c.unit == u) ≡ true = grind (arith, nat_tests) in
    sym (ap (λ (b : Bool). if b && bytes_eq c.old s then Some c.new else None) same)

pub asked_elsewhere : (u : ℕ) (c : ExportChange) (s : List ℕ) (o : Option (List ℕ)) → (c.unit == u) ≡ false → o ≡ first_given o (asked_at u (c ∷ []) s)
asked_elsewhere u c s o e = sym (ap (λ (b : Bool). first_given o (if b && bytes_eq c.old s then Some c.new else None)) e ∙ first_given_none o)

pub asked_is : (u : ℕ) (cs : List ExportChange) (s : List ℕ) → name_or (asked_at u cs s) s ≡ name_asked (changes_as cs) u s
asked_is u [] s = refl
asked_is u (c ∷ cs) s = go ((c.unit == u) && bytes_eq c.old s) (asked_is u cs s)
  where
    go : (b : Bool) → name_or (asked_at u cs s) s ≡ name_asked (changes_as cs) u s → name_or (if b then Some c.new else asked_at u cs s) s ≡ (if b then c.new else name_asked (changes_as cs) u s)
    go true e = refl
    go false e = e

-- what is read so many from the end
pub name_read : (names front : List code_name.NameUse) (n : code_name.NameUse) (last : List code_name.NameUse) (behind k : ℕ) (x : code_name.NameUse) → names ≡ front ++ n ∷ last → behind ≡ suc (length last) → k ≡ length names - behind → x ≡ get_or names k x → x ≡ n
name_read names front n last behind k x e b at is =
    let size : length names ≡ length front + suc (length last) = ap length e ∙ length-append front (n ∷ last) in
    let place : length front ≡ k = omega arith in
    is ∙ ap (λ (xs : List code_name.NameUse). get_or xs k x) e ∙ get_or_at front n last x k place

pub not_behind : (names front : List code_name.NameUse) (n : code_name.NameUse) (last : List code_name.NameUse) (behind : ℕ) → names ≡ front ++ n ∷ last → behind ≡ suc (length last) → (0 < behind) × (behind ≤ length names)
not_behind names front n last behind e b =
    let size : length names ≡ length front + suc (length last) = ap length e ∙ length-append front (n ∷ last) in (omega arith, omega arith)

-- ---- external names

-- of exports of one name the first is given
abbrev Each : List (List ℕ) → List ExportSpec → List ExportSpec → Type 0
Each seen xs [] = Unit {0}
Each seen xs (z ∷ zs) = ((has_name seen z.outer.name ≡ false) × (external_occ xs z.outer.name ≡ z.outer.occ)) × Each seen xs zs

either_false : (a b : Bool) → (a || b) ≡ false → (a ≡ false) × (b ≡ false)
either_false true b h = absurd cc
either_false false b h = (refl, h)

each_behind : (seen : List (List ℕ)) (y : ExportSpec) (ys zs : List ExportSpec) → Each (y.outer.name ∷ seen) ys zs → Each seen (y ∷ ys) zs
each_behind seen y ys [] h = tt
each_behind seen y ys (z ∷ zs) h =
    let apart = either_false (bytes_eq y.outer.name z.outer.name) (has_name seen z.outer.name) h.0.0 in
    ((apart.1, ap (λ (b : Bool). if b then y.outer.occ else external_occ ys z.outer.name) apart.0 ∙ h.0.1), each_behind seen y ys zs h.1)

module _ (find : List ℕ → Option Entry) where
  given_none : (seen : List (List ℕ)) (x : ExportSpec) (xs : List ExportSpec) → find x.inner.name ≡ None → given_exports find seen (x ∷ xs) ≡ given_exports find (x.outer.name ∷ seen) xs
  given_none seen x xs q = rw q refl

  given_again : (seen : List (List ℕ)) (x : ExportSpec) (xs : List ExportSpec) (e : Entry) → find x.inner.name ≡ Some e → has_name seen x.outer.name ≡ true →
      given_exports find seen (x ∷ xs) ≡ given_exports find (x.outer.name ∷ seen) xs
  given_again seen x xs e q p = rw (q, p) refl

  given_new : (seen : List (List ℕ)) (x : ExportSpec) (xs : List ExportSpec) (e : Entry) → find x.inner.name ≡ Some e → has_name seen x.outer.name ≡ false →
      given_exports find seen (x ∷ xs) ≡ x ∷ given_exports find (x.outer.name ∷ seen) xs
  given_new seen x xs e q p = rw (q, p) refl

  given_each : (seen : List (List ℕ)) (xs : List ExportSpec) → Each seen xs (given_exports find seen xs)
  given_each seen [] = tt
  given_each seen (x ∷ xs) = go (given_each (x.outer.name ∷ seen) xs) (find x.inner.name) refl (has_name seen x.outer.name) refl
    where
      itself : bytes_eq x.outer.name x.outer.name ≡ true
      itself = (bytes_eq-Decides x.outer.name x.outer.name).1 refl

      go : Each (x.outer.name ∷ seen) xs (given_exports find (x.outer.name ∷ seen) xs) → (o : Option Entry) → find x.inner.name ≡ o → (b : Bool) → has_name seen x.outer.name ≡ b → Each seen (x ∷ xs) (given_exports find seen (x ∷ xs))
      go rest None q b p = subst (Each seen (x ∷ xs)) (sym (given_none seen x xs q)) (each_behind seen x xs (given_exports find (x.outer.name ∷ seen) xs) rest)
      go rest (Some e) q true p = subst (Each seen (x ∷ xs)) (sym (given_again seen x xs e q p)) (each_behind seen x xs (given_exports find (x.outer.name ∷ seen) xs) rest)
      go rest (Some e) q false p =
          subst (Each seen (x ∷ xs)) (sym (given_new seen x xs e q p))
          ((p, ap (λ (b : Bool). if b then x.outer.occ else external_occ xs x.outer.name) itself), each_behind seen x xs (given_exports find (x.outer.name ∷ seen) xs) rest)

externals_each : (table : Table) (r : UnitResult) → Each [] r.unit.exports (externals table r)
externals_each table r = go r.fault
  where
    go : (f : Option WholeFault) → Each [] r.unit.exports (unless_broken f (given_exports (names_of_unit table r.unit.number r.entries) [] r.unit.exports))
    go None = given_each (names_of_unit table r.unit.number r.entries) [] r.unit.exports
    go (Some f) = tt

-- the name of an export stands where it is so many from the end
pub record NamedAt (cs : List code_name.NameUse) (place : Option Occ) (behind : ℕ) : Type 0 where
  pub front : List code_name.NameUse
  pub it : code_name.NameUse
  pub last : List code_name.NameUse
  pub parted : cs ≡ front ++ it ∷ last
  pub count : behind ≡ suc (length last)
  pub stands : it.target.occ ≡ place

last_at : (names : Names) (unit : ℕ) (ys : List ExportSpec) (last : List code_name.NameUse) (xs : List ExportSpec) (es : List Entry) (k : ℕ) (d : Entry) → AllMatch (IsExternal names unit) last xs → AllMatch IsGiven es xs → Each [] ys xs → k < length es →
    NamedAt last (external_occ ys (get_or es k d).name) (length es - k)
last_at names unit ys last xs [] k d h g each lt = absurd (omega (arith, lt))
last_at names unit ys last [] (e ∷ es) k d h g each lt = absurd g
last_at names unit ys [] (x ∷ xs) (e ∷ es) k d h g each lt = absurd h
last_at names unit ys (n ∷ last) (x ∷ xs) (e ∷ es) zero d h g each lt = record {
  front = [];
  it = n;
  last = last;
  parted = refl;
  count = let same = as_many last xs es h.1 g.1 in omega (arith, same);
  stands = h.0.place ∙ sym each.0.1 ∙ ap (external_occ ys) (sym g.0);
}
  where
    as_many : (ns : List code_name.NameUse) (zs : List ExportSpec) (fs : List Entry) → AllMatch (IsExternal names unit) ns zs → AllMatch IsGiven fs zs → length fs ≡ length ns
    as_many [] [] [] h g = refl
    as_many [] [] (f ∷ fs) h g = absurd g
    as_many [] (z ∷ zs) fs h g = absurd h
    as_many (m ∷ ns) [] fs h g = absurd h
    as_many (m ∷ ns) (z ∷ zs) [] h g = absurd g
    as_many (m ∷ ns) (z ∷ zs) (f ∷ fs) h g = ap suc (as_many ns zs fs h.1 g.1)
last_at names unit ys (n ∷ last) (x ∷ xs) (e ∷ es) (suc k) d h g each lt =
    let rest = last_at names unit ys last xs es k d h.1 g.1 each.1 (omega (arith, lt)) in
    record {
      front = n ∷ rest.front;
      it = rest.it;
      last = rest.last;
      parted = ap (λ (ns : List code_name.NameUse). n ∷ ns) rest.parted;
      count = let c = rest.count in omega (arith, c);
      stands = rest.stands;
    }

pub named_at : (names : Names) (unit : ℕ) (cs : List code_name.NameUse) (ms : List NameUse) (table : Table) (r : UnitResult) (k : ℕ) (d : Entry) → AreNames names unit cs ms (externals table r) → AllMatch IsGiven r.exports (externals table r) → k < length r.exports →
    NamedAt cs (external_occ r.unit.exports (get_or r.exports k d).name) (length r.exports - k)
named_at names unit cs ms table r k d are given lt =
    let n = last_at names unit r.unit.exports are.last (externals table r) r.exports k d are.external given (externals_each table r) lt in
    record {
      front = are.front ++ n.front;
      it = n.it;
      last = n.last;
      parted = are.parted ∙ ap (λ (ns : List code_name.NameUse). are.front ++ ns) n.parted ∙ sym (append_assoc are.front n.front (n.it ∷ n.last));
      count = n.count;
      stands = n.stands;
    }

-- ---- entries

pub record EntryAt (names : Names) (cs : List code_entry.Entry) (es : List Entry) (k : ℕ) (d : code_entry.Entry) (f : Entry) : Type 0 where
  pub is : drop k es ≡ get_or es k f ∷ drop (suc k) es
  pub stands : IsEntry names (get_or cs k d) (get_or es k f)
  pub within : k < length es

pub entry_at : (names : Names) (cs : List code_entry.Entry) (es : List Entry) (k : ℕ) (d : code_entry.Entry) (f : Entry) → AreEntries names cs es → k < length cs → EntryAt names cs es k d f
entry_at names [] es k d f h lt = absurd (omega (arith, lt))
entry_at names (c ∷ cs) [] k d f h lt = absurd h
entry_at names (c ∷ cs) (e ∷ es) zero d f h lt = record { is = refl; stands = h.0; within = omega arith }
entry_at names (c ∷ cs) (e ∷ es) (suc k) d f h lt =
    let r = entry_at names cs es k d f h.1 (omega (arith, lt)) in
    let w = r.within in
    record { is = r.is; stands = r.stands; within = omega (arith, w) }

pub entries_many : (names : Names) (cs : List code_entry.Entry) (es : List Entry) → AreEntries names cs es → length cs ≡ length es
entries_many names [] [] h = refl
entries_many names [] (e ∷ es) h = absurd h
entries_many names (c ∷ cs) [] h = absurd h
entries_many names (c ∷ cs) (e ∷ es) h = ap suc (entries_many names cs es h.1)

-- ---- exports compared

and_true : (b : Bool) → (b && true) ≡ b
and_true true = refl
and_true false = refl

-- what is seen of a meaning pairs nothing
nothing_paired : (table : Table) (m : Meaning) (s : Seen) → paired (meaning_seen table m) s ≡ []
nothing_paired table (Local v) s = refl
nothing_paired table (Global u i) s = go (u == prelude_unit)
  where
    go : (b : Bool) → paired (if b then OfName IsOfPrelude (symbol_of i) else OfDefinition u (number_in table u i)) s ≡ []
    go true = refl
    go false = refl
nothing_paired table (Standard t) s = refl
nothing_paired table (Free t) s = refl

module _ (live : Option Occ → Bool) (old new : Table) (asked : List ℕ → List ℕ) (xs ys : List ExportSpec) where
  abbrev pub before : Entry → List Point
  before e = export_points old asked xs e

  abbrev pub after : Entry → List Point
  after d = export_points new (λ s. s) ys d

  abbrev name_before : Entry → Point
  name_before e = point AtExport (OfName IsString (asked e.name)) (external_occ xs e.name) (ShowsSymbol e.name)

  abbrev name_after : Entry → Point
  name_after d = point AtExport (OfName IsString d.name) (external_occ ys d.name) (ShowsSymbol d.name)

  abbrev meaning_before : Entry → Point
  meaning_before e = meaning_at old AtExport e.meaning (external_occ xs e.name)

  abbrev meaning_after : Entry → Point
  meaning_after d = meaning_at new AtExport d.meaning (external_occ ys d.name)

  -- names first, and then meanings
  pub export_step : (e d : Entry) (os ns : List Point) → first_apart live [] (before e ++ os) (after d ++ ns)
      ≡ (if bytes_eq (asked e.name) d.name then (if agree [] (meaning_seen old e.meaning) (meaning_seen new d.meaning) then first_apart live [] os ns else Some (meaning_before e, meaning_after d)) else Some (name_before e, name_after d))
  export_step e d os ns =
      ap (λ (ps : same.Partners). if bytes_eq (asked e.name) d.name then (if agree [] (meaning_seen old e.meaning) (meaning_seen new d.meaning) then first_apart live (ps ++ []) os ns else Some (meaning_before e, meaning_after d)) else Some (name_before e, name_after d))
      (nothing_paired old e.meaning (meaning_seen new d.meaning))

  abbrev Two : Type 0
  Two = Option (Point × Point)

  abbrev outcome : Bool → Bool → Entry → Entry → Two → Two
  outcome a b e d rest = if a then (if b then rest else Some (meaning_before e, meaning_after d)) else Some (name_before e, name_after d)

  -- exports that are the same are followed by the others
  pub export_past : (e d : Entry) (os ns : List Point) → first_apart live [] (before e) (after d) ≡ None → first_apart live [] (before e ++ os) (after d ++ ns) ≡ first_apart live [] os ns
  export_past e d os ns h = export_step e d os ns ∙ go (bytes_eq (asked e.name) d.name) (agree [] (meaning_seen old e.meaning) (meaning_seen new d.meaning)) (sym (export_step e d [] []) ∙ h)
    where
      go : (a b : Bool) → outcome a b e d None ≡ None → outcome a b e d (first_apart live [] os ns) ≡ first_apart live [] os ns
      go true true h = refl
      go true false h = absurd cc
      go false b h = absurd cc

  -- those that aren't the same are the first
  pub export_here : (names : Names) (unit : ℕ) (c : Pair) (e d : Entry) (os ns : List Point) → ArePair names unit 0 (Some c) (first_apart live [] (before e) (after d)) → ArePair names unit 0 (Some c) (first_apart live [] (before e ++ os) (after d ++ ns))
  export_here names unit c e d os ns h =
      subst (ArePair names unit 0 (Some c)) (sym (export_step e d os ns))
      (go (bytes_eq (asked e.name) d.name) (agree [] (meaning_seen old e.meaning) (meaning_seen new d.meaning)) (subst (ArePair names unit 0 (Some c)) (export_step e d [] []) h))
    where
      go : (a b : Bool) → ArePair names unit 0 (Some c) (outcome a b e d None) → ArePair names unit 0 (Some c) (outcome a b e d (first_apart live [] os ns))
      go true true h = absurd h
      go true false h = h
      go false b h = h

-- ---- exports one after another

module _ (names : Names) (live : Option Occ → Bool) (old new : Table) (asked : List ℕ → List ℕ) (xs ys : List ExportSpec) where
  abbrev all_before : List Entry → List Point
  all_before es = all_exports old asked xs es

  abbrev all_after : List Entry → List Point
  all_after ds = all_exports new (λ s. s) ys ds

  pub exports_past : (cs bs : List code_entry.Entry) (es ds : List Entry) (k : ℕ) (c : code_entry.Entry) (e d : Entry) → EntryAt names cs es k c e → EntryAt names bs ds k c d →
      first_apart live [] (export_points old asked xs (get_or es k e)) (export_points new (λ s. s) ys (get_or ds k d)) ≡ None →
      first_apart live [] (all_before (drop k es)) (all_after (drop k ds)) ≡ first_apart live [] (all_before (drop (k + 1) es)) (all_after (drop (k + 1) ds))
  exports_past cs bs es ds k c e d a b h =
      (λ j. first_apart live [] (all_before (a.is j)) (all_after (b.is j)))
      ∙ export_past live old new asked xs ys (get_or es k e) (get_or ds k d) (all_before (drop (suc k) es)) (all_after (drop (suc k) ds)) h
      ∙ ap (λ (n : ℕ). first_apart live [] (all_before (drop n es)) (all_after (drop n ds))) (sym (add-one k))

  pub exports_here : (unit : ℕ) (pair : Pair) (cs bs : List code_entry.Entry) (es ds : List Entry) (k : ℕ) (c : code_entry.Entry) (e d : Entry) → EntryAt names cs es k c e → EntryAt names bs ds k c d →
      ArePair names unit 0 (Some pair) (first_apart live [] (export_points old asked xs (get_or es k e)) (export_points new (λ s. s) ys (get_or ds k d))) →
      ArePair names unit 0 (Some pair) (first_apart live [] (all_before (drop k es)) (all_after (drop k ds)))
  exports_here unit pair cs bs es ds k c e d a b h =
      subst (ArePair names unit 0 (Some pair)) (λ j. first_apart live [] (all_before (sym a.is j)) (all_after (sym b.is j)))
      (export_here live old new asked xs ys names unit pair (get_or es k e) (get_or ds k d) (all_before (drop (suc k) es)) (all_after (drop (suc k) ds)) h)

pub no_pair : (names : Names) (unit form : ℕ) (pair : Option Pair) (q : Option (Point × Point)) → is_some pair ≡ false → ArePair names unit form pair q → q ≡ None
no_pair names unit form None None e h = refl
no_pair names unit form None (Some q) e h = absurd h
no_pair names unit form (Some c) q e h = absurd cc

pub a_pair : (names : Names) (unit form : ℕ) (pair : Option Pair) (q r : Option (Point × Point)) → is_some pair ≡ true → ArePair names unit form pair q → ((c : Pair) → ArePair names unit form (Some c) q → ArePair names unit form (Some c) r) → ArePair names unit form pair r
a_pair names unit form None q r e h f = absurd cc
a_pair names unit form (Some c) q r e h f = f c h

-- ---- one export of the code

module _ (names : Names) (unit : ℕ) (live : Option Occ → Bool) (old new : Table) (asked : List ℕ → List ℕ) (xs ys : List ExportSpec) (e d : Entry) where
  abbrev Outcome : Option (Point × Point)
  Outcome = first_apart live [] (export_points old asked xs e) (export_points new (λ s. s) ys d)

  step : (a b : Bool) → bytes_eq (asked e.name) d.name ≡ a → agree [] (meaning_seen old e.meaning) (meaning_seen new d.meaning) ≡ b → Outcome ≡ outcome live old new asked xs ys a b e d None
  step a b t m = export_step live old new asked xs ys e d [] [] ∙ (λ j. outcome live old new asked xs ys (t j) (m j) e d None)

  pub by_name : (before after : Told) → bytes_eq (asked e.name) d.name ≡ false → ((s : Seen) → IsTold names unit 0 before (point AtExport s (external_occ xs e.name) (ShowsSymbol e.name))) → ((s : Seen) → IsTold names unit 0 after (point AtExport s (external_occ ys d.name) (ShowsSymbol d.name))) →
      ArePair names unit 0 (Some (record { old = before; new = after })) Outcome
  by_name before after t f g =
      subst (ArePair names unit 0 (Some (record { old = before; new = after }))) (sym (step false (agree [] (meaning_seen old e.meaning) (meaning_seen new d.meaning)) t refl)) (f (OfName IsString (asked e.name)), g (OfName IsString d.name))

  pub by_meaning : (before after : Told) → bytes_eq (asked e.name) d.name ≡ true → agree [] (meaning_seen old e.meaning) (meaning_seen new d.meaning) ≡ false →
      ((s : Seen) → IsTold names unit 0 before (point AtExport s (external_occ xs e.name) (ShowsMeaning e.meaning))) → ((s : Seen) → IsTold names unit 0 after (point AtExport s (external_occ ys d.name) (ShowsMeaning d.meaning))) →
      ArePair names unit 0 (Some (record { old = before; new = after })) Outcome
  by_meaning before after t m f g =
      subst (ArePair names unit 0 (Some (record { old = before; new = after }))) (sym (step true false t m)) (f (meaning_seen old e.meaning), g (meaning_seen new d.meaning))

  pub by_none : bytes_eq (asked e.name) d.name ≡ true → agree [] (meaning_seen old e.meaning) (meaning_seen new d.meaning) ≡ true → ArePair names unit 0 None Outcome
  by_none t m = subst (ArePair names unit 0 None) (sym (step true true t m)) tt

-- ---- how many exports there are

module _ (names : Names) (unit : ℕ) (live : Option Occ → Bool) where
  abbrev counted : ℕ → Point
  counted n = point AtExport (OfNumber n) None ShowsNothing

  count_step : (a b : ℕ) (os ns : List Point) → first_apart live [] (counted a ∷ os) (counted b ∷ ns) ≡ (if a == b then first_apart live [] os ns else Some (counted a, counted b))
  count_step a b os ns = ap (λ (t : Bool). if t then first_apart live [] os ns else Some (counted a, counted b)) (and_true (a == b))

  pub as_many_exports : (a b : ℕ) (os ns : List Point) → a ≡ b → first_apart live [] (counted a ∷ os) (counted b ∷ ns) ≡ first_apart live [] os ns
  as_many_exports a b os ns e =
      let same : (a == b) ≡ true = grind (arith, nat_tests) in
      count_step a b os ns ∙ ap (λ (t : Bool). if t then first_apart live [] os ns else Some (counted a, counted b)) same

  pub other_count : (told : Told) (a b : ℕ) (os ns : List Point) → (a ≡ b → ⊥) → ((s : Seen) → IsTold names unit 0 told (point AtExport s None ShowsNothing)) →
      ArePair names unit 0 (Some (record { old = told; new = told })) (first_apart live [] (counted a ∷ os) (counted b ∷ ns))
  other_count told a b os ns apart f =
      let other : (a == b) ≡ false = ne_eqb a b apart in
      subst (ArePair names unit 0 (Some (record { old = told; new = told }))) (sym (count_step a b os ns ∙ ap (λ (t : Bool). if t then first_apart live [] os ns else Some (counted a, counted b)) other))
      (f (OfNumber a), f (OfNumber b))
