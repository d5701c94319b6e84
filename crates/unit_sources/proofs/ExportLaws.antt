-- What exports of the code give stands for what the exports give.
use Rattle.std.proofs.Common.{◌≡◌, ℕ, suc, ◌+◌, ◌<◌, Bool, true, false, cond, List, [], ◌∷◌, ◌++◌, append-nil, append_assoc, length, take, drop, get_or, slice_get, Option, Some, None, refl, sym, ap, ◌∙◌, subst, arith}
use Rattle.std.specs.Prelude.{◌||◌, not}
use Rattle.std.specs.List.{list_any}
use Rattle.std.specs.Str.{bytes_eq}
use Rattle.std.proofs.lemmas.List.Folds.{list_any-append, list_any_more}
use Rattle.std.proofs.lemmas.List.{take_more, drop_more}
use Rattle.std.proofs.lemmas.Option.{same_Some, slice_get_within}
use Rattle.scheme_model.specs.declared.Occ.{Occ}
use Rattle.scheme_model.specs.ExpansionFaults.{Named}
use Rattle.scheme_model.specs.Meaning.{Meaning}
use Rattle.scheme_model.specs.Entries.{Entry, entry_at, place_origin}
use Rattle.scheme_model.specs.Program as program
use Rattle.syntax_tree.specs.Names.{Names}
use Rattle.syntax_tree.specs.Meant.{AreOrigins, IsEntry, AreEntries}
use Rattle.syntax_tree.specs.declared.units.Entry as code_entry
use Rattle.import_sets.specs.Given as given
use Rattle.unit_sources.specs.declared.units.ExportSpec.{ExportSpec}
use Rattle.unit_sources.specs.declared.exporting.Exports.{Exports}
use Rattle.unit_sources.specs.declared.exporting.ExportFault as code_fault
use Rattle.unit_sources.specs.declared.fault.LibraryFault.TheVariants as fault
use Rattle.unit_sources.specs.Exported.{entry_named, exported, export_one, has_outer, no_exports, put_export, put_all}
use Rattle.import_sets.specs.Firsts.{place_of}
use Rattle.unit_sources.specs.Exports.{AreFaults, AreExported}
use Rattle.unit_sources.specs.Sources.{IsExport, AreExports}

-- ---- entries by their names

abbrev IsFound : Names → Option code_entry.Entry → Option Entry → Type 0
IsFound names None None = Unit {0}
IsFound names None (Some d) = ⊥
IsFound names (Some e) None = ⊥
IsFound names (Some e) (Some d) = IsEntry names e d

either_found : (names : Names) (a b : Bool) → a ≡ b → (e : code_entry.Entry) (d : Entry) (oe : Option code_entry.Entry) (od : Option Entry) → IsEntry names e d → IsFound names oe od →
    IsFound names (cond a (Some e) oe) (cond b (Some d) od)
either_found names true true p e d oe od h k = h
either_found names true false p e d oe od h k = absurd cc
either_found names false true p e d oe od h k = absurd cc
either_found names false false p e d oe od h k = k

pub name_found : (names : Names) (es : List code_entry.Entry) (ds : List Entry) (s : List ℕ) → AreEntries names es ds → IsFound names (entry_named s es) (entry_at ds s)
name_found names [] [] s h = tt
name_found names [] (d ∷ ds) s h = absurd h
name_found names (e ∷ es) [] s h = absurd h
name_found names (e ∷ es) (d ∷ ds) s h =
    either_found names (bytes_eq e.name s) (bytes_eq d.name s) (ap (λ n. bytes_eq n s) h.0.name) e d (entry_named s es) (entry_at ds s) h.0 (name_found names es ds s h.1)

-- ---- an entry that is exported

place_stands : (m : Meaning) (o : Option Occ) → AreOrigins m (given.place_origin o) (place_origin o)
place_stands m None = tt
place_stands m (Some o) = ((refl, refl), tt)

exported_stands : (names : Names) (c : ExportSpec) (x : program.ExportSpec) (e : code_entry.Entry) (d : Entry) → IsExport c x → IsEntry names e d → IsEntry names (exported c e) (program.exported x d)
exported_stands names c x e d h k = go (given.same_place c.inner.occ c.outer.occ) refl
  where
    name : c.outer.name ≡ x.outer.name
    name = ap (λ (n : Named (List ℕ)). n.name) h.outer

    occ : c.outer.occ ≡ x.outer.occ
    occ = ap (λ (n : Named (List ℕ)). n.occ) h.outer

    placed : AreOrigins d.meaning (given.place_origin c.outer.occ) (place_origin x.outer.occ)
    placed = subst (λ (o : Option Occ). AreOrigins d.meaning (given.place_origin c.outer.occ) (place_origin o)) occ (place_stands d.meaning c.outer.occ)

    go : (b : Bool) → given.same_place c.inner.occ c.outer.occ ≡ b → IsEntry names (exported c e) (program.exported x d)
    go true p = rw (p, sym h.renamed ∙ ap not p) (record { name = name; meaning = k.meaning; origins = k.origins })
    go false p = rw (p, sym h.renamed ∙ ap not p) (record { name = name; meaning = k.meaning; origins = placed })

-- ---- one export after another

entries-append : (names : Names) (es fs : List code_entry.Entry) (ds cs : List Entry) → AreEntries names es ds → AreEntries names fs cs → AreEntries names (es ++ fs) (ds ++ cs)
entries-append names [] fs [] cs h k = k
entries-append names [] fs (d ∷ ds) cs h k = absurd h
entries-append names (e ∷ es) fs [] cs h k = absurd h
entries-append names (e ∷ es) fs (d ∷ ds) cs h k = (h.0, entries-append names es fs ds cs h.1 k)

abbrev joined : program.Exported → program.Exported → program.Exported
joined a b = record { entries = a.entries ++ b.entries; faults = a.faults ++ b.faults }

-- with what one export gives
abbrev put : program.Exported → program.ExportSpec → Option Entry → Bool → program.Exported
put m x None again = record { entries = m.entries; faults = m.faults ++ program.NotDefined x ∷ [] }
put m x (Some e) true = record { entries = m.entries; faults = m.faults ++ program.SameExport x ∷ [] }
put m x (Some e) false = record { entries = m.entries ++ program.exported x e ∷ []; faults = m.faults }

put_joined : (m rest : program.Exported) (seen : List (List ℕ)) (x : program.ExportSpec) (o : Option Entry) (again : Bool) → program.has_name seen x.outer.name ≡ again →
    joined (put m x o again) rest ≡ joined m (program.export_one seen x o rest)
put_joined m rest seen x None again h = ap (λ (fs : List program.ExportFault). record { entries = m.entries ++ rest.entries; faults = fs }) (append_assoc m.faults (program.NotDefined x ∷ []) rest.faults)
put_joined m rest seen x (Some e) true h = rw h (ap (λ (fs : List program.ExportFault). record { entries = m.entries ++ rest.entries; faults = fs }) (append_assoc m.faults (program.SameExport x ∷ []) rest.faults))
put_joined m rest seen x (Some e) false h = rw h (ap (λ (es : List Entry). record { entries = es; faults = m.faults ++ rest.faults }) (append_assoc m.entries (program.exported x e ∷ []) rest.entries))

faults-append : (xs : List program.ExportSpec) (fs gs : List code_fault.ExportFault) (ms ns : List program.ExportFault) → AreFaults xs fs ms → AreFaults xs gs ns → AreFaults xs (fs ++ gs) (ms ++ ns)
faults-append xs [] gs [] ns h k = k
faults-append xs [] gs (m ∷ ms) ns h k = absurd h
faults-append xs (f ∷ fs) gs [] ns h k = absurd h
faults-append xs (f ∷ fs) gs (m ∷ ms) ns h k = (h.0, faults-append xs fs gs ms ns h.1 k)

put_stands : (names : Names) (all : List program.ExportSpec) (r : Exports) (m : program.Exported) (n : ℕ) (c : ExportSpec) (x : program.ExportSpec) (oe : Option code_entry.Entry) (od : Option Entry) (again : Bool) →
    AreExported names all r m → IsExport c x → slice_get all n ≡ Some x → IsFound names oe od → AreExported names all (put_export n r (export_one again c oe)) (put m x od again)
put_stands names all r m n c x None None again h e at k = record {
  entries = h.entries;
  faults = faults-append all r.faults (record { place = n; fault = fault.NotDefined c.inner.name } ∷ []) m.faults (program.NotDefined x ∷ []) h.faults ((at, ap (λ (i : Named (List ℕ)). fault.NotDefined i.name) e.inner), tt);
}
put_stands names all r m n c x None (Some d) again h e at k = absurd k
put_stands names all r m n c x (Some i) None again h e at k = absurd k
put_stands names all r m n c x (Some i) (Some d) true h e at k = record {
  entries = h.entries;
  faults = faults-append all r.faults (record { place = n; fault = fault.SameExport c.outer.name } ∷ []) m.faults (program.SameExport x ∷ []) h.faults ((at, ap (λ (i : Named (List ℕ)). fault.SameExport i.name) e.outer), tt);
}
put_stands names all r m n c x (Some i) (Some d) false h e at k = record {
  entries = entries-append names r.entries (exported c i ∷ []) m.entries (program.exported x d ∷ []) h.entries (exported_stands names c x i d e k, tt);
  faults = h.faults;
}

or_swap : (a b : Bool) → (a || (b || false)) ≡ (b || a)
or_swap true true = refl
or_swap true false = refl
or_swap false true = refl
or_swap false false = refl

-- one external name more
seen_more : (before : List ExportSpec) (seen : List (List ℕ)) (c : ExportSpec) (t s : List ℕ) → c.outer.name ≡ t → has_outer before s ≡ program.has_name seen s → has_outer (before ++ c ∷ []) s ≡ program.has_name (t ∷ seen) s
seen_more before seen c t s e h =
    list_any-append (λ (x : ExportSpec). bytes_eq x.outer.name s) before (c ∷ []) ∙ or_swap (has_outer before s) (bytes_eq c.outer.name s) ∙ (λ j. bytes_eq (e j) s || h j)

plus_none : (n : ℕ) → n ≡ n + 0
plus_none n = omega arith

plus_one : (n i : ℕ) → suc n + i ≡ n + suc i
plus_one n i = omega arith

pub all_stand : (names : Names) (es : List code_entry.Entry) (ds : List Entry) (find : List ℕ → Option Entry) → AreEntries names es ds → ((s : List ℕ) → find s ≡ entry_at ds s) → (all : List program.ExportSpec) →
    (cs : List ExportSpec) (xs : List program.ExportSpec) → AreExports cs xs → (r : Exports) (m : program.Exported) → AreExported names all r m →
    (before : List ExportSpec) (seen : List (List ℕ)) → ((s : List ℕ) → has_outer before s ≡ program.has_name seen s) → (n : ℕ) → ((i : ℕ) → slice_get all (n + i) ≡ slice_get xs i) →
    AreExported names all (put_all es r before n cs) (joined m (program.export_all find seen xs))
all_stand names es ds find are finds all [] [] h r m k before seen same n at =
    subst (λ (e : program.Exported). AreExported names all r e) (λ j. record { entries = sym (append-nil m.entries) j; faults = sym (append-nil m.faults) j }) k
all_stand names es ds find are finds all [] (x ∷ xs) h r m k before seen same n at = absurd h
all_stand names es ds find are finds all (c ∷ cs) [] h r m k before seen same n at = absurd h
all_stand names es ds find are finds all (c ∷ cs) (x ∷ xs) h r m k before seen same n at =
    let inner : c.inner.name ≡ x.inner.name = ap (λ (i : Named (List ℕ)). i.name) h.0.inner in
    let outer : c.outer.name ≡ x.outer.name = ap (λ (i : Named (List ℕ)). i.name) h.0.outer in
    let found = subst (IsFound names (entry_named c.inner.name es)) (ap (entry_at ds) inner ∙ sym (finds x.inner.name)) (name_found names es ds c.inner.name are) in
    let again : Bool = has_outer before c.outer.name in
    let here : slice_get all n ≡ Some x = ap (slice_get all) (plus_none n) ∙ at 0 in
    let step = put_stands names all r m n c x (entry_named c.inner.name es) (find x.inner.name) again k h.0 here found in
    let rest =
    all_stand names es ds find are finds all cs xs h.1 (put_export n r (export_one again c (entry_named c.inner.name es))) (put m x (find x.inner.name) again) step
    (before ++ c ∷ []) (x.outer.name ∷ seen) (λ s. seen_more before seen c x.outer.name s outer (same s)) (suc n) (λ i. ap (slice_get all) (plus_one n i) ∙ at (suc i)) in
    subst (AreExported names all (put_all es r before n (c ∷ cs)))
    (put_joined m (program.export_all find (x.outer.name ∷ seen) xs) seen x (find x.inner.name) again (sym (same x.outer.name) ∙ sym (ap (has_outer before) outer)))
    rest

-- all exports
pub all_exports : (names : Names) (es : List code_entry.Entry) (ds : List Entry) (find : List ℕ → Option Entry) → AreEntries names es ds → ((s : List ℕ) → find s ≡ entry_at ds s) →
    (cs : List ExportSpec) (xs : List program.ExportSpec) → AreExports cs xs → (r : Exports) → r ≡ put_all es no_exports [] 0 cs → AreExported names xs r (program.export_all find [] xs)
all_exports names es ds find are finds cs xs h r e =
    subst (λ (q : Exports). AreExported names xs q (program.export_all find [] xs)) (sym e)
    (all_stand names es ds find are finds xs cs xs h no_exports (record { entries = []; faults = [] }) (record { entries = tt; faults = tt }) [] [] (λ s. refl) 0 (λ i. ap (slice_get xs) (none_more i)))
  where
    none_more : (i : ℕ) → 0 + i ≡ i
    none_more i = omega arith

-- ---- the code's way: an entry by its place, and one export more

place_there : (s : List ℕ) (k : ℕ) (es : List code_entry.Entry) (i : ℕ) → place_of s k es ≡ Some i → (e : code_entry.Entry) × ((j : ℕ) × ((i ≡ k + j) × ((slice_get es j ≡ Some e) × (entry_named s es ≡ Some e))))
place_there s k [] i h = absurd cc
place_there s k (x ∷ es) i h = go (place_there s (suc k) es i) (bytes_eq x.name s) refl h
  where
    go : (place_of s (suc k) es ≡ Some i → (e : code_entry.Entry) × ((j : ℕ) × ((i ≡ suc k + j) × ((slice_get es j ≡ Some e) × (entry_named s es ≡ Some e))))) → (b : Bool) → bytes_eq x.name s ≡ b → cond b (Some k) (place_of s (suc k) es) ≡ Some i → (e : code_entry.Entry) × ((j : ℕ) × ((i ≡ k + j) × ((slice_get (x ∷ es) j ≡ Some e) × (entry_named s (x ∷ es) ≡ Some e))))
    go more true p q = let same : k ≡ i = same_Some k i q in (x, (0, (omega arith, (refl, ap (λ b. cond b (Some x) (entry_named s es)) p))))
    go more false p q = let r = more q in (r.0, (suc r.1.0, (let e = r.1.1.0 in omega arith, (r.1.1.1.0, ap (λ b. cond b (Some x) (entry_named s es)) p ∙ r.1.1.1.1))))

-- the entry at a name's place is the one with the name
pub entry_at_place : (s : List ℕ) (es : List code_entry.Entry) (i : ℕ) → place_of s 0 es ≡ Some i → (i < length es) × (slice_get es i ≡ entry_named s es)
entry_at_place s es i h =
    let r = place_there s 0 es i h in
    let same : i ≡ r.1.0 = let e = r.1.1.0 in omega arith in
    let at : slice_get es i ≡ Some r.0 = ap (slice_get es) same ∙ r.1.1.1.0 in
    (slice_get_within es i r.0 at, at ∙ sym r.1.1.1.1)

pub entry_read : (s : List ℕ) (es : List code_entry.Entry) (i : ℕ) → place_of s 0 es ≡ Some i → (e : code_entry.Entry) × (entry_named s es ≡ Some e)
entry_read s es i h = let r = place_there s 0 es i h in (r.0, r.1.1.1.1)

pub no_entry : (s : List ℕ) (k : ℕ) (es : List code_entry.Entry) → place_of s k es ≡ None → entry_named s es ≡ None
no_entry s k [] h = refl
no_entry s k (x ∷ es) h = go (no_entry s (suc k) es) (bytes_eq x.name s) refl h
  where
    go : (place_of s (suc k) es ≡ None → entry_named s es ≡ None) → (b : Bool) → bytes_eq x.name s ≡ b → cond b (Some k) (place_of s (suc k) es) ≡ None → entry_named s (x ∷ es) ≡ None
    go more true p q = absurd cc
    go more false p q = ap (λ b. cond b (Some x) (entry_named s es)) p ∙ more q

pub put_next : (es : List code_entry.Entry) (xs : List ExportSpec) (i : ℕ) (x : ExportSpec) (old new : Exports) (again : Bool) → i < length xs → x ≡ get_or xs i x → again ≡ has_outer (take i xs) x.outer.name →
    new ≡ put_export i old (export_one again x (entry_named x.inner.name es)) → put_all es new (take (i + 1) xs) (i + 1) (drop (i + 1) xs) ≡ put_all es old (take i xs) i (drop i xs)
put_next es xs i x old new again lt is seen n =
    (λ j. put_all es (n j) (taken j) (sym more j) (drop (i + 1) xs))
    ∙ ap (λ b. put_all es (put_export i old (export_one b x (entry_named x.inner.name es))) (take i xs ++ x ∷ []) (suc i) (drop (i + 1) xs)) seen
    ∙ sym (ap (put_all es old (take i xs) i) (drop_more xs i x lt ∙ (λ j. sym is j ∷ drop (i + 1) xs)))
  where
    more : suc i ≡ i + 1
    more = omega arith

    taken : take (i + 1) xs ≡ take i xs ++ x ∷ []
    taken = take_more xs i x lt ∙ (λ j. take i xs ++ sym is j ∷ [])

or_of : (b x : Bool) → cond b true x ≡ (x || b)
or_of true true = refl
or_of true false = refl
or_of false true = refl
or_of false false = refl

pub outer_more : (xs : List ExportSpec) (i : ℕ) (x : ExportSpec) (key s : List ℕ) (old new : Bool) → i < length xs → x ≡ get_or xs i x → key ≡ x.outer.name → old ≡ has_outer (take i xs) s →
    new ≡ cond (bytes_eq key s) true old → new ≡ has_outer (take (i + 1) xs) s
outer_more xs i x key s old new lt is k o n =
    let p : ExportSpec → Bool = λ y. bytes_eq y.outer.name s in
    n ∙ (λ j. cond (bytes_eq (k j) s) true (o j)) ∙ or_of (p x) (list_any p (take i xs)) ∙ (λ j. list_any p (take i xs) || p (is j)) ∙ sym (list_any_more p xs i x lt)
