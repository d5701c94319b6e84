-- Identifiers of imports and exports that are added one after another.
use Rattle.std.proofs.Common.{◌≡◌, ◌⊎◌, inl, inr, ℕ, zero, suc, ◌+◌, ◌<◌, Bool, true, false, cond, List, [], ◌∷◌, ◌++◌, append-nil, append_assoc, length, map, filter, take, drop, slice_get, Option, Some, None, Result, Ok, Err, refl, sym, ap, ◌∙◌, subst, arith}
use Rattle.std.specs.Prelude.{not, reverse, ◌||◌}
use Rattle.std.specs.List.{Contains}
use Rattle.std.specs.Str.{bytes_eq}
use Rattle.std.proofs.lemmas.List.{map_push}
use Rattle.std.proofs.lemmas.List.Elements.{Contains-append_left, Contains-append_right, Contains-append_cases}
use Rattle.scheme_model.specs.declared.Occ.{Occ}
use Rattle.scheme_model.specs.ExpansionFaults.{Named}
use Rattle.scheme_model.specs.Ident.{Written}
use Rattle.scheme_model.specs.Meaning as meant
use Rattle.scheme_model.specs.Entries as model
use Rattle.scheme_model.specs.Live.{NameUse, entry_use, second_use, listed_uses, pair_uses, set_uses, if_given, export_uses, all_export_uses, meaning_or, origins_or}
use Rattle.scheme_model.specs.Requirements.{LibraryName}
use Rattle.scheme_model.specs.StandardLibraries.{standard}
use Rattle.scheme_model.specs.IncludedUnits.{Placed}
use Rattle.scheme_model.specs.Program.{UnitResult, ImportSpec, ExportSpec, has_name, library_exports}
use Rattle.scheme_model.specs.ProgramArrows.{import_uses, uses_in_set, uses_given}
use Rattle.syntax_tree.specs.Names.{Names, KeepsNames}
use Rattle.syntax_tree.specs.Macros.{IsIdent}
use Rattle.syntax_tree.specs.Meant.{AreOrigins, IsEntry, AreEntries, IsGivenMeaning}
use Rattle.syntax_tree.specs.declared.meaning.Meaning as code_meaning
use Rattle.syntax_tree.specs.declared.units.Entry as code_entry
use Rattle.syntax_tree.specs.declared.units.Origin.{Origin}
use Rattle.core_tree.specs.Names.{AllMatch}
use Rattle.core_tree.specs.Units.{IsName, IsExternal, AreNames, given_exports}
use Rattle.core_tree.specs.declared.units.NameUse as code_name
use Rattle.import_sets.specs.Firsts.{place_of}
use Rattle.import_sets.specs.Given as given
use Rattle.import_sets.specs.Sets.{named, paired, IsSet, IsSetOf, TellsApart, Answers}
use Rattle.import_sets.proofs.SetLaws.{set_stands}
use Rattle.import_sets.specs.declared.set.ImportSet as code_set
use Rattle.import_sets.specs.declared.fault.ImportFault as code_fault
use Rattle.import_sets.specs.declared.fault.ImportFault.TheVariants as fault
use Rattle.import_sets.specs.declared.gather.Group.{Group}
use Rattle.import_sets.specs.declared.set.SetName.{SetName}
use Rattle.import_sets.specs.declared.set.NamePair.{NamePair}
use Rattle.unit_sources.specs.Exported.{entry_named}
use Rattle.unit_sources.specs.Sources.{AreExports, IsExport}
use Rattle.unit_sources.specs.declared.units.ExportSpec as code_export
use Rattle.unit_imports.specs.declared.names.Identifiers as code
use Rattle.unit_imports.specs.Defined.{FindsNames}
use Rattle.unit_imports.specs.NamesUsed.{AddsName, AddsNames, own_use, inner_use, external_adds, external_use, external_uses, unless_fault}
use Rattle.read_documents.specs.UnitSources.{HaveOneIfSame}
use Rattle.unit_imports.proofs.MeaningLaws.{entry_kept, entries_kept, meaning_kept}
use Rattle.unit_imports.specs.SetsGiven.{set_exports}
use Rattle.unit_imports.proofs.GivenLaws.{drop_at}
use Rattle.core_tree.proofs.Matched.{all_append}

-- ---- names are added

name_kept : (old new : Names) → KeepsNames old new → (unit : ℕ) (n : code_name.NameUse) (m : NameUse) → IsName old unit n m → IsName new unit n m
name_kept old new k unit n m h = record {
  meaning = λ u f. meaning_kept old new k u f n.target.meaning m.meaning (h.meaning u f);
  ident = k.idents n.target.ident (Written unit m.symbol) h.ident;
  place = h.place;
  origins = h.origins;
}

all_kept : (old new : Names) → KeepsNames old new → (unit : ℕ) (ns : List code_name.NameUse) (ms : List NameUse) → AllMatch (IsName old unit) ns ms → AllMatch (IsName new unit) ns ms
all_kept old new k unit [] [] h = tt
all_kept old new k unit [] (m ∷ ms) h = absurd h
all_kept old new k unit (n ∷ ns) [] h = absurd h
all_kept old new k unit (n ∷ ns) (m ∷ ms) h = (name_kept old new k unit n m h.0, all_kept old new k unit ns ms h.1)

pub meaning_on : (old new : Names) → KeepsNames old new → (m : code_meaning.Meaning) (n : meant.Meaning) → IsGivenMeaning old m n → IsGivenMeaning new m n
meaning_on old new k m n h = λ u f. meaning_kept old new k u f m n (h u f)

pub finds_kept : (old new : Names) → KeepsNames old new → (es : List code_entry.Entry) (find : List ℕ → Option model.Entry) → FindsNames old es find → FindsNames new es find
finds_kept old new k es find h = record { stand = h.stand; are = entries_kept old new k es h.stand h.are; finds = h.finds }

-- ---- identifiers are added

pub adds_none : (names : Names) (a : code.Identifiers) → AddsNames names a a []
adds_none names a = record { unit = refl; more = []; added = sym (append-nil a.uses.items); are = tt }

pub adds_then : (mid names : Names) → KeepsNames mid names → (a b c : code.Identifiers) (ms ns : List NameUse) → AddsNames mid a b ms → AddsNames names b c ns → AddsNames names a c (ms ++ ns)
adds_then mid names k a b c ms ns h g = record {
  unit = g.unit ∙ h.unit;
  more = h.more ++ g.more;
  added = g.added ∙ ap (λ (l : List code_name.NameUse). l ++ g.more) h.added ∙ append_assoc a.uses.items h.more g.more;
  are =
      all_append (IsName names a.unit) h.more ms g.more ns (all_kept mid names k a.unit h.more ms h.are)
      (subst (λ (u : ℕ). AllMatch (IsName names u) g.more ns) h.unit g.are);
}

pub adds_as : (names : Names) (a b : code.Identifiers) (ms ns : List NameUse) → ms ≡ ns → AddsNames names a b ms → AddsNames names a b ns
adds_as names a b ms ns e h = subst (AddsNames names a b) e h

pub adds_kept : (old new : Names) → KeepsNames old new → (a b : code.Identifiers) (ms : List NameUse) → AddsNames old a b ms → AddsNames new a b ms
adds_kept old new k a b ms h = record { unit = h.unit; more = h.more; added = h.added; are = all_kept old new k a.unit h.more ms h.are }

-- one that was added stands for what has its meaning and what spells it
pub adds_one : (names : Names) (a b : code.Identifiers) (name : SetName) (meaning : code_meaning.Meaning) (origins : List Origin) (m : NameUse) → AddsName names a b name meaning origins →
    IsGivenMeaning names meaning m.meaning → m.symbol ≡ name.name → m.occ ≡ name.occ → AreOrigins m.meaning origins m.origins → AddsNames names a b (m ∷ [])
adds_one names a b name meaning origins m h means symbol occ spells = record {
  unit = h.unit;
  more = record { target = record { meaning = meaning; ident = h.ident; occ = name.occ }; origins = origins } ∷ [];
  added = h.added;
  are = (record { meaning = means; ident = subst (λ (s : List ℕ). IsIdent names h.ident (Written a.unit s)) (sym symbol) h.is; place = sym occ; origins = spells }, tt);
}

pub adds_entry : (old names : Names) → KeepsNames old names → (a b : code.Identifiers) (name : SetName) (entry : code_entry.Entry) (origins : List Origin) → origins ≡ entry.origins →
    AddsName names a b name entry.meaning origins → (e : model.Entry) → IsEntry old entry e → AddsNames names a b (entry_use (Some e) (named name))
adds_entry old names k a b name entry origins same h e is =
    let f = entry_kept old names k entry e is in
    adds_one names a b name entry.meaning origins (record { meaning = e.meaning; symbol = name.name; occ = name.occ; origins = e.origins }) h f.meaning refl refl
    (subst (λ (os : List Origin). AreOrigins e.meaning os e.origins) (sym same) f.origins)

place_stands : (m : meant.Meaning) (o : Option Occ) → AreOrigins m (given.place_origin o) (model.place_origin o)
place_stands m None = tt
place_stands m (Some o) = ((refl, refl), tt)

pub adds_own : (old names : Names) → KeepsNames old names → (a b : code.Identifiers) (name : SetName) (meaning : code_meaning.Meaning) (origins : List Origin) → origins ≡ given.place_origin name.occ →
    AddsName names a b name meaning origins → (m : meant.Meaning) → IsGivenMeaning old meaning m → AddsNames names a b (own_use m (named name) ∷ [])
adds_own old names k a b name meaning origins same h m is =
    adds_one names a b name meaning origins (own_use m (named name)) h (meaning_on old names k meaning m is) refl refl
    (subst (λ (os : List Origin). AreOrigins m os (model.place_origin name.occ)) (sym same) (place_stands m name.occ))

pub adds_free : (names : Names) (a b : code.Identifiers) (name : SetName) (n : ℕ) (origins : List Origin) → origins ≡ [] → slice_get names.symbols n ≡ Some name.name →
    AddsName names a b name (code_meaning.TheVariants.Free n) origins → AddsNames names a b (inner_use None (named name) ∷ [])
adds_free names a b name n origins same at h =
    adds_one names a b name (code_meaning.TheVariants.Free n) origins (inner_use None (named name)) h (λ u f. at) refl refl
    (subst (λ (os : List Origin). AreOrigins (meant.Free name.name) os []) (sym same) tt)

-- ---- an entry that is found

pub record FindsOne (names : Names) (e : code_entry.Entry) (d : Option model.Entry) : Type 0 where
  pub entry : model.Entry
  pub is : d ≡ Some entry
  pub stands : IsEntry names e entry

abbrev FoundAs : Names → Option code_entry.Entry → Option model.Entry → Type 0
FoundAs names None d = d ≡ None
FoundAs names (Some e) d = FindsOne names e d

found_as : (names : Names) (es : List code_entry.Entry) (ds : List model.Entry) → AreEntries names es ds → (s : List ℕ) → FoundAs names (entry_named s es) (model.entry_at ds s)
found_as names [] [] h s = refl
found_as names [] (d ∷ ds) h s = absurd h
found_as names (e ∷ es) [] h s = absurd h
found_as names (e ∷ es) (d ∷ ds) h s = go (bytes_eq d.name s) refl (found_as names es ds h.1 s)
  where
    go : (b : Bool) → bytes_eq d.name s ≡ b → FoundAs names (entry_named s es) (model.entry_at ds s) → FoundAs names (entry_named s (e ∷ es)) (model.entry_at (d ∷ ds) s)
    go true q rest = rw ((λ j. bytes_eq (h.0.name j) s) ∙ q, q) (record { entry = d; is = refl; stands = h.0 })
    go false q rest = rw ((λ j. bytes_eq (h.0.name j) s) ∙ q, q) rest

found_so : (names : Names) (es : List code_entry.Entry) (find : List ℕ → Option model.Entry) → FindsNames names es find → (s : List ℕ) → FoundAs names (entry_named s es) (find s)
found_so names es find h s = subst (FoundAs names (entry_named s es)) (sym (h.finds s)) (found_as names es h.stand h.are s)

pub found_one : (names : Names) (es : List code_entry.Entry) (find : List ℕ → Option model.Entry) → FindsNames names es find → (s : List ℕ) (e : code_entry.Entry) → entry_named s es ≡ Some e → FindsOne names e (find s)
found_one names es find h s e is = subst (λ (o : Option code_entry.Entry). FoundAs names o (find s)) is (found_so names es find h s)

pub found_no : (names : Names) (es : List code_entry.Entry) (find : List ℕ → Option model.Entry) → FindsNames names es find → (s : List ℕ) → entry_named s es ≡ None → find s ≡ None
found_no names es find h s is = subst (λ (o : Option code_entry.Entry). FoundAs names o (find s)) is (found_so names es find h s)

pub finds_listed : (names : Names) (es : List code_entry.Entry) (ds : List model.Entry) → AreEntries names es ds → FindsNames names es (model.entry_at ds)
finds_listed names es ds h = record { stand = ds; are = h; finds = λ s. refl }

-- ---- one more of a list

pub uses_next : {X : Type 0} (f : X → List NameUse) (all : List X → List NameUse) → all [] ≡ [] → ((x : X) (xs : List X) → all (x ∷ xs) ≡ f x ++ all xs) → (xs : List X) (x : X) → all (xs ++ x ∷ []) ≡ all xs ++ f x
uses_next f all none one [] x = one x [] ∙ ap (λ (l : List NameUse). f x ++ l) none ∙ append-nil (f x) ∙ sym (ap (λ (l : List NameUse). l ++ f x) none)
uses_next f all none one (y ∷ xs) x =
    one y (xs ++ x ∷ []) ∙ ap (λ (l : List NameUse). f y ++ l) (uses_next f all none one xs x) ∙ sym (append_assoc (f y) (all xs) (f x)) ∙ ap (λ (l : List NameUse). l ++ f x) (sym (one y xs))

-- ---- the first entry with a name, by its place

pub record PlacedAt (k i : ℕ) (s : List ℕ) (es : List code_entry.Entry) : Type 0 where
  pub place : ℕ
  pub is : i ≡ k + place
  pub within : place < length es
  pub entry : slice_get es place ≡ entry_named s es

pub entry_placed : (s : List ℕ) (k : ℕ) (es : List code_entry.Entry) (i : ℕ) → place_of s k es ≡ Some i → PlacedAt k i s es
entry_placed s k [] i h = absurd cc
entry_placed s k (x ∷ es) i h = go (entry_placed s (suc k) es i) (bytes_eq x.name s) refl h
  where
    named : (b : Bool) → bytes_eq x.name s ≡ b → entry_named s (x ∷ es) ≡ cond b (Some x) (entry_named s es)
    named b q = ap (λ b. cond b (Some x) (entry_named s es)) q

    go : (place_of s (suc k) es ≡ Some i → PlacedAt (suc k) i s es) → (b : Bool) → bytes_eq x.name s ≡ b → cond b (Some k) (place_of s (suc k) es) ≡ Some i → PlacedAt k i s (x ∷ es)
    go more true q p = let same : k ≡ i = cc in record { place = 0; is = omega (arith, same); within = omega arith; entry = sym (named true q) }
    go more false q p =
        let r = more p in
        record { place = suc r.place; is = omega (arith, r.is); within = omega (arith, r.within); entry = r.entry ∙ sym (named false q) }

pub entry_none : (s : List ℕ) (k : ℕ) (es : List code_entry.Entry) → place_of s k es ≡ None → entry_named s es ≡ None
entry_none s k [] h = refl
entry_none s k (x ∷ es) h = go (entry_none s (suc k) es) (bytes_eq x.name s) refl h
  where
    go : (place_of s (suc k) es ≡ None → entry_named s es ≡ None) → (b : Bool) → bytes_eq x.name s ≡ b → cond b (Some k) (place_of s (suc k) es) ≡ None → entry_named s (x ∷ es) ≡ None
    go more true q p = absurd cc
    go more false q p = ap (λ b. cond b (Some x) (entry_named s es)) q ∙ more p

-- ---- what a set gives

bad_answer : (c : code_set.ImportSet) (es : List code_entry.Entry) → given.has_bad c ≡ true → given.given c es ≡ Err fault.BadSet
bad_answer (code_set.Library t) es h = absurd cc
bad_answer (code_set.Only' p c ns) es h = ap (λ (r : Result (List code_entry.Entry) code_fault.ImportFault). given.◌>>=◌ r (given.only ns)) (bad_answer c es h)
bad_answer (code_set.Except' p c ns) es h = ap (λ (r : Result (List code_entry.Entry) code_fault.ImportFault). given.◌>>=◌ r (given.except ns)) (bad_answer c es h)
bad_answer (code_set.Prefix' p c t) es h = ap (λ (r : Result (List code_entry.Entry) code_fault.ImportFault). given.◌>>=◌ r (λ ds. Ok (map (given.prefixed t) ds))) (bad_answer c es h)
bad_answer (code_set.Rename' p c ps) es h = ap (λ (r : Result (List code_entry.Entry) code_fault.ImportFault). given.◌>>=◌ r (given.rename ps)) (bad_answer c es h)
bad_answer code_set.Bad es h = refl

same_answer : (c : code_set.ImportSet) (es : List code_entry.Entry) (b : Bool) → given.has_bad c ≡ b → cond b (Err fault.BadSet) (given.given c es) ≡ given.given c es
same_answer c es true h = sym (bad_answer c es h)
same_answer c es false h = refl

bad_given : (s : model.ImportSet) (es : List model.Entry) → model.has_bad s ≡ true → model.given_by s es ≡ Err model.BadSet
bad_given (model.Library n) es h = absurd cc
bad_given (model.Only s ns) es h = rw (bad_given s es h) refl
bad_given (model.Except s ns) es h = rw (bad_given s es h) refl
bad_given (model.Prefix s p) es h = rw (bad_given s es h) refl
bad_given (model.Rename s ps) es h = rw (bad_given s es h) refl
bad_given model.Bad es h = refl

same_given : (s : model.ImportSet) (es : List model.Entry) (b : Bool) → model.has_bad s ≡ b → cond b (Err model.BadSet) (model.given_by s es) ≡ model.given_by s es
same_given s es true h = sym (bad_given s es h)
same_given s es false h = refl

given_answers : (names : Names) → TellsApart names → (c : code_set.ImportSet) (s : model.ImportSet) (es : List code_entry.Entry) (ds : List model.Entry) → IsSet c s → AreEntries names es ds →
    Answers names (given.given c es) (model.given_by s ds)
given_answers names apart c s es ds h k =
    subst (Answers names (given.given c es)) (same_given s ds (model.has_bad s) refl)
    (subst (λ (r : Result (List code_entry.Entry) code_fault.ImportFault). Answers names r (model.entries_of s ds)) (same_answer c es (given.has_bad c) refl) (set_stands names apart c s es ds h k))

-- a set doesn't want memory
abbrev NoMemory : Result (List code_entry.Entry) code_fault.ImportFault → Type 0
NoMemory r = r ≡ Err fault.Memory → ⊥

missing_no : (o : Option SetName) (es : List code_entry.Entry) → NoMemory (given.unless_missing o (Ok es))
missing_no None es h = cc
missing_no (Some n) es h = cc

told_no : (o : Option SetName) (gs : List Group) (ss : List (List ℕ)) → NoMemory (given.unless_missing o (given.told gs ss))
told_no None gs [] h = cc
told_no None gs (s ∷ ss) h = cc
told_no (Some n) gs ss h = cc

then_no : (r : Result (List code_entry.Entry) code_fault.ImportFault) (f : List code_entry.Entry → Result (List code_entry.Entry) code_fault.ImportFault) → NoMemory r → ((es : List code_entry.Entry) → NoMemory (f es)) → NoMemory (given.◌>>=◌ r f)
then_no (Ok es) f h k = k es
then_no (Err e) f h k = h

never_memory : (c : code_set.ImportSet) (es : List code_entry.Entry) → NoMemory (given.given c es)
never_memory (code_set.Library t) es = λ h. cc
never_memory (code_set.Only' p c ns) es = then_no (given.given c es) (given.only ns) (never_memory c es) (λ ds. missing_no (given.missing ns ds) (filter (λ e. given.is_listed ns e.name) ds))
never_memory (code_set.Except' p c ns) es = then_no (given.given c es) (given.except ns) (never_memory c es) (λ ds. missing_no (given.missing ns ds) (filter (λ e. not (given.is_listed ns e.name)) ds))
never_memory (code_set.Prefix' p c t) es = then_no (given.given c es) (λ ds. Ok (map (given.prefixed t) ds)) (never_memory c es) (λ ds h. cc)
never_memory (code_set.Rename' p c ps) es =
    then_no (given.given c es) (given.rename ps) (never_memory c es)
    (λ ds. let g = given.take_all given.nothing_yet (given.rename_all ps ds) in told_no (given.missing (map (λ (q : NamePair). q.from) ps) ds) g.groups (reverse g.clashes))
never_memory code_set.Bad es = λ h. cc

-- the set inside gives these, or has a fault
pub record InnerGiven (names : Names) (s : model.ImportSet) (ds : List model.Entry) (inner : List code_entry.Entry) : Type 0 where
  pub entries : List model.Entry
  pub is : model.given_by s ds ≡ Ok entries
  pub stand : AreEntries names inner entries

pub inner_is : (c : code_set.ImportSet) (es inner : List code_entry.Entry) → Some inner ≡ unless_fault (given.given c es) → given.given c es ≡ Ok inner
inner_is c es inner h = go (given.given c es) h
  where
    go : (r : Result (List code_entry.Entry) code_fault.ImportFault) → Some inner ≡ unless_fault r → r ≡ Ok inner
    go (Ok xs) k = let same : inner ≡ xs = cc in ap Ok (sym same)
    go (Err e) k = absurd cc

pub inner_given : (names : Names) → TellsApart names → (c : code_set.ImportSet) (s : model.ImportSet) (es : List code_entry.Entry) (ds : List model.Entry) → IsSet c s → AreEntries names es ds → (inner : List code_entry.Entry) →
    Some inner ≡ unless_fault (given.given c es) → InnerGiven names s ds inner
inner_given names apart c s es ds h k inner is =
    let r : Answers names (Ok inner) (model.given_by s ds) =
    subst (λ (r : Result (List code_entry.Entry) code_fault.ImportFault). Answers names r (model.given_by s ds)) (inner_is c es inner is) (given_answers names apart c s es ds h k)
    in
    record { entries = r.0; is = r.1.0; stand = r.1.1 }

pub record InnerFails (s : model.ImportSet) (ds : List model.Entry) : Type 0 where
  pub fault : model.ImportFault
  pub is : model.given_by s ds ≡ Err fault

pub inner_fails : (names : Names) → TellsApart names → (c : code_set.ImportSet) (s : model.ImportSet) (es : List code_entry.Entry) (ds : List model.Entry) → IsSet c s → AreEntries names es ds →
    None ≡ unless_fault (given.given c es) → InnerFails s ds
inner_fails names apart c s es ds h k is = go (given.given c es) (never_memory c es) (given_answers names apart c s es ds h k) is
  where
    go : (r : Result (List code_entry.Entry) code_fault.ImportFault) → NoMemory r → Answers names r (model.given_by s ds) → None ≡ unless_fault r → InnerFails s ds
    go (Ok xs) never a n = absurd cc
    go (Err fault.Memory) never a n = absurd (never refl)
    go (Err (fault.NotThere x)) never a n = record { fault = model.NotThere (named x); is = a }
    go (Err (fault.Clash t)) never a n = record { fault = model.Clash t; is = a }
    go (Err fault.BadSet) never a n = record { fault = model.BadSet; is = a }

-- what a modifier makes of it
pub modified : (c : code_set.ImportSet) (es inner : List code_entry.Entry) (f : List code_entry.Entry → Result (List code_entry.Entry) code_fault.ImportFault) → Some inner ≡ unless_fault (given.given c es) →
    (o : Option (List code_entry.Entry)) → o ≡ unless_fault (f inner) → o ≡ unless_fault (given.◌>>=◌ (given.given c es) f)
modified c es inner f h o e = e ∙ ap (λ (r : Result (List code_entry.Entry) code_fault.ImportFault). unless_fault (given.◌>>=◌ r f)) (sym (inner_is c es inner h))

pub unmodified : (c : code_set.ImportSet) (es : List code_entry.Entry) (f : List code_entry.Entry → Result (List code_entry.Entry) code_fault.ImportFault) → None ≡ unless_fault (given.given c es) →
    None ≡ unless_fault (given.◌>>=◌ (given.given c es) f)
unmodified c es f h = go (given.given c es) h
  where
    go : (r : Result (List code_entry.Entry) code_fault.ImportFault) → None ≡ unless_fault r → None ≡ unless_fault (given.◌>>=◌ r f)
    go (Ok xs) k = absurd cc
    go (Err e) k = refl

-- the identifiers of a modifier
pub uses_where_given : (r : Result (List model.Entry) model.ImportFault) (es : List model.Entry) (f : List model.Entry → List NameUse) (front : List NameUse) → r ≡ Ok es → front ++ f es ≡ front ++ if_given r f
uses_where_given r es f front h = ap (λ (q : Result (List model.Entry) model.ImportFault). front ++ if_given q f) (sym h)

pub uses_failed : (r : Result (List model.Entry) model.ImportFault) (e : model.ImportFault) (f : List model.Entry → List NameUse) (front : List NameUse) → r ≡ Err e → front ≡ front ++ if_given r f
uses_failed r e f front h = sym (append-nil front) ∙ ap (λ (q : Result (List model.Entry) model.ImportFault). front ++ if_given q f) (sym h)

-- ---- the identifiers of an import set

pub library_adds : (names : Names) (a : code.Identifiers) (t : List ℕ) (s : model.ImportSet) (ds : List model.Entry) → IsSet (code_set.Library t) s → AddsNames names a a (set_uses ds s)
library_adds names a t s ds h = subst (λ (s : model.ImportSet). AddsNames names a a (set_uses ds s)) (sym h.1.0) (adds_none names a)

pub bad_adds : (names : Names) (a : code.Identifiers) (s : model.ImportSet) (ds : List model.Entry) → IsSet code_set.Bad s → AddsNames names a a (set_uses ds s)
bad_adds names a s ds h = subst (λ (s : model.ImportSet). AddsNames names a a (set_uses ds s)) (sym h) (adds_none names a)

pub prefix_adds : (names : Names) (a b : code.Identifiers) (s inner : model.ImportSet) (t : List ℕ) (ds : List model.Entry) → s ≡ model.Prefix inner t → AddsNames names a b (set_uses ds inner) → AddsNames names a b (set_uses ds s)
prefix_adds names a b s inner t ds e h = subst (λ (s : model.ImportSet). AddsNames names a b (set_uses ds s)) (sym e) h

-- a modifier of a set that has a fault adds nothing
pub fault_adds : (old names : Names) → KeepsNames old names → TellsApart names → (c : code_set.ImportSet) (inner : model.ImportSet) (es : List code_entry.Entry) (ds : List model.Entry) → IsSet c inner → AreEntries old es ds →
    None ≡ unless_fault (given.given c es) → (a b : code.Identifiers) (f : List model.Entry → List NameUse) → AddsNames names a b (set_uses ds inner) → AddsNames names a b (set_uses ds inner ++ if_given (model.given_by inner ds) f)
fault_adds old names k apart c inner es ds h are none a b f adds =
    let r = inner_fails names apart c inner es ds h (entries_kept old names k es ds are) none in
    adds_as names a b (set_uses ds inner) (set_uses ds inner ++ if_given (model.given_by inner ds) f) (uses_failed (model.given_by inner ds) r.fault f (set_uses ds inner) r.is) adds

-- and else what it adds of what the set gives
pub modifier_adds : (old mid names : Names) → KeepsNames old mid → KeepsNames mid names → TellsApart mid → (c : code_set.ImportSet) (inner : model.ImportSet) (es gives : List code_entry.Entry) (ds : List model.Entry) → IsSet c inner →
    AreEntries old es ds → Some gives ≡ unless_fault (given.given c es) → (a b d : code.Identifiers) (f : List model.Entry → List NameUse) → AddsNames mid a b (set_uses ds inner) →
    ((xs : List model.Entry) → AreEntries mid gives xs → AddsNames names b d (f xs)) → AddsNames names a d (set_uses ds inner ++ if_given (model.given_by inner ds) f)
modifier_adds old mid names k l apart c inner es gives ds h are is a b d f adds more =
    let r = inner_given mid apart c inner es ds h (entries_kept old mid k es ds are) gives is in
    adds_as names a d (set_uses ds inner ++ f r.entries) (set_uses ds inner ++ if_given (model.given_by inner ds) f) (uses_where_given (model.given_by inner ds) r.entries f (set_uses ds inner) r.is)
    (adds_then mid names l a b d (set_uses ds inner) (f r.entries) adds (more r.entries r.stand))

-- ---- the exports that give something

pub given_none : (find : List ℕ → Option model.Entry) (seen : List (List ℕ)) (x : ExportSpec) (xs : List ExportSpec) → find x.inner.name ≡ None → given_exports find seen (x ∷ xs) ≡ given_exports find (x.outer.name ∷ seen) xs
given_none find seen x xs q = rw q refl

pub given_again : (find : List ℕ → Option model.Entry) (seen : List (List ℕ)) (x : ExportSpec) (xs : List ExportSpec) (e : model.Entry) → find x.inner.name ≡ Some e → has_name seen x.outer.name ≡ true →
    given_exports find seen (x ∷ xs) ≡ given_exports find (x.outer.name ∷ seen) xs
given_again find seen x xs e q p = rw (q, p) refl

pub given_new : (find : List ℕ → Option model.Entry) (seen : List (List ℕ)) (x : ExportSpec) (xs : List ExportSpec) (e : model.Entry) → find x.inner.name ≡ Some e → has_name seen x.outer.name ≡ false →
    given_exports find seen (x ∷ xs) ≡ x ∷ given_exports find (x.outer.name ∷ seen) xs
given_new find seen x xs e q p = rw (q, p) refl

contains_one : {X : Type 0} (y x : X) → Contains (y ∷ []) x → y ≡ x
contains_one y x g = grind (arith, g)

-- ---- the identifiers of a unit

-- the external names are among those of the exports
first_in : {X : Type 0} (x : X) (xs : List X) → Contains (x ∷ xs) x
first_in x xs = (0, omega arith, refl)

external_in : (find : List ℕ → Option model.Entry) (x : ExportSpec) → (x.renamed ≡ false → x.outer ≡ x.inner) → (e : model.Entry) → find x.inner.name ≡ Some e → (m : NameUse) → Contains (external_use (Some e) x) m → Contains (export_uses find x) m
external_in find x one e is m h = go x.renamed refl
  where
    first : NameUse
    first = record { meaning = e.meaning; symbol = x.inner.name; occ = x.inner.occ; origins = e.origins }

    other : NameUse
    other = record { meaning = e.meaning; symbol = x.outer.name; occ = x.outer.occ; origins = model.place_origin x.outer.occ }

    it : NameUse
    it = record { meaning = e.meaning; symbol = x.outer.name; occ = x.outer.occ; origins = cond x.renamed (model.place_origin x.outer.occ) e.origins }

    itself : it ≡ m
    itself = contains_one it m h

    uses : (b : Bool) → x.renamed ≡ b → export_uses find x ≡ first ∷ cond b (other ∷ []) []
    uses b q = (λ j.
        record { meaning = meaning_or (is j) x.inner.name; symbol = x.inner.name; occ = x.inner.occ; origins = origins_or (is j) } ∷
        cond (q j) (record { meaning = meaning_or (is j) x.inner.name; symbol = x.outer.name; occ = x.outer.occ; origins = model.place_origin x.outer.occ } ∷ []) [])

    go : (b : Bool) → x.renamed ≡ b → Contains (export_uses find x) m
    go true q = subst (Contains (export_uses find x)) (second ∙ itself) (subst (λ (l : List NameUse). Contains l other) (sym (uses true q)) (Contains-append_right (first ∷ []) (other ∷ []) other (first_in other [])))
      where
        second : other ≡ it
        second = ap (λ (b : Bool). record { meaning = e.meaning; symbol = x.outer.name; occ = x.outer.occ; origins = cond b (model.place_origin x.outer.occ) e.origins }) (sym q)
    go false q = subst (Contains (export_uses find x)) (same ∙ itself) (subst (λ (l : List NameUse). Contains l first) (sym (uses false q)) (first_in first []))
      where
        same : first ≡ it
        same = (λ j. record { meaning = e.meaning; symbol = (sym (one q) j).name; occ = (sym (one q) j).occ; origins = cond (sym q j) (model.place_origin x.outer.occ) e.origins })

externals_in : (find : List ℕ → Option model.Entry) (seen : List (List ℕ)) (xs : List ExportSpec) → HaveOneIfSame xs → (m : NameUse) → Contains (external_uses find (given_exports find seen xs)) m → Contains (all_export_uses find xs) m
externals_in find seen [] one m h = h
externals_in find seen (x ∷ xs) one m h = go (externals_in find (x.outer.name ∷ seen) xs one.1 m) (find x.inner.name) refl (has_name seen x.outer.name) refl
  where
    behind : (Contains (external_uses find (given_exports find (x.outer.name ∷ seen) xs)) m → Contains (all_export_uses find xs) m) → Contains (external_uses find (given_exports find (x.outer.name ∷ seen) xs)) m → Contains (all_export_uses find (x ∷ xs)) m
    behind more k = Contains-append_right (export_uses find x) (all_export_uses find xs) m (more k)

    split : (Contains (external_uses find (given_exports find (x.outer.name ∷ seen) xs)) m → Contains (all_export_uses find xs) m) → (e : model.Entry) → find x.inner.name ≡ Some e →
        Contains (external_use (find x.inner.name) x) m ⊎ Contains (external_uses find (given_exports find (x.outer.name ∷ seen) xs)) m → Contains (all_export_uses find (x ∷ xs)) m
    split more e q (inl k) = Contains-append_left (export_uses find x) (all_export_uses find xs) m (external_in find x one.0 e q m (subst (λ (o : Option model.Entry). Contains (external_use o x) m) q k))
    split more e q (inr k) = behind more k

    go : (Contains (external_uses find (given_exports find (x.outer.name ∷ seen) xs)) m → Contains (all_export_uses find xs) m) → (o : Option model.Entry) → find x.inner.name ≡ o → (b : Bool) → has_name seen x.outer.name ≡ b →
        Contains (all_export_uses find (x ∷ xs)) m
    go more None q b p = behind more (subst (λ (gs : List ExportSpec). Contains (external_uses find gs) m) (given_none find seen x xs q) h)
    go more (Some e) q true p = behind more (subst (λ (gs : List ExportSpec). Contains (external_uses find gs) m) (given_again find seen x xs e q p) h)
    go more (Some e) q false p =
        split more e q
        (Contains-append_cases (external_use (find x.inner.name) x) (external_uses find (given_exports find (x.outer.name ∷ seen) xs)) m
        (subst (λ (gs : List ExportSpec). Contains (external_uses find gs) m) (given_new find seen x xs e q p) h))

-- those behind an export match
abbrev RestMatch : Names → ℕ → (List ℕ → Option model.Entry) → List (List ℕ) → List ExportSpec → Type 0
RestMatch names unit find seen xs = (ns : List code_name.NameUse) → AllMatch (IsName names unit) ns (external_uses find (given_exports find seen xs)) → AllMatch (IsExternal names unit) ns (given_exports find seen xs)

externals_match : (names : Names) (unit : ℕ) (find : List ℕ → Option model.Entry) (seen : List (List ℕ)) (xs : List ExportSpec) (ns : List code_name.NameUse) → AllMatch (IsName names unit) ns (external_uses find (given_exports find seen xs)) →
    AllMatch (IsExternal names unit) ns (given_exports find seen xs)
externals_match names unit find seen [] [] h = tt
externals_match names unit find seen [] (n ∷ ns) h = absurd h
externals_match names unit find seen (x ∷ xs) ns h = go (λ (ns : List code_name.NameUse). externals_match names unit find (x.outer.name ∷ seen) xs ns) (find x.inner.name) refl (has_name seen x.outer.name) refl
  where
    skip : RestMatch names unit find (x.outer.name ∷ seen) xs → given_exports find seen (x ∷ xs) ≡ given_exports find (x.outer.name ∷ seen) xs → AllMatch (IsExternal names unit) ns (given_exports find seen (x ∷ xs))
    skip more e =
        subst (AllMatch (IsExternal names unit) ns) (sym e) (more ns (subst (λ (gs : List ExportSpec). AllMatch (IsName names unit) ns (external_uses find gs)) e h))

    here : RestMatch names unit find (x.outer.name ∷ seen) xs → (e : model.Entry) (ns : List code_name.NameUse) → AllMatch (IsName names unit) ns (external_use (Some e) x ++ external_uses find (given_exports find (x.outer.name ∷ seen) xs)) →
        AllMatch (IsExternal names unit) ns (x ∷ given_exports find (x.outer.name ∷ seen) xs)
    here more e [] k = absurd k
    here more e (n ∷ ns) k = (record { ident = k.0.ident; place = k.0.place }, more ns k.1)

    go : RestMatch names unit find (x.outer.name ∷ seen) xs → (o : Option model.Entry) → find x.inner.name ≡ o → (b : Bool) → has_name seen x.outer.name ≡ b → AllMatch (IsExternal names unit) ns (given_exports find seen (x ∷ xs))
    go more None q b p = skip more (given_none find seen x xs q)
    go more (Some e) q true p = skip more (given_again find seen x xs e q p)
    go more (Some e) q false p =
        subst (AllMatch (IsExternal names unit) ns) (sym (given_new find seen x xs e q p))
        (here more e ns
        (subst (λ (o : Option model.Entry). AllMatch (IsName names unit) ns (external_use o x ++ external_uses find (given_exports find (x.outer.name ∷ seen) xs))) q
        (subst (λ (gs : List ExportSpec). AllMatch (IsName names unit) ns (external_uses find gs)) (given_new find seen x xs e q p) h)))

-- all that was added to nothing, and last the external names
pub names_all : (mid names : Names) (a b c : code.Identifiers) (ms : List NameUse) (find : List ℕ → Option model.Entry) (xs : List ExportSpec) → KeepsNames mid names → a.uses.items ≡ [] → HaveOneIfSame xs →
    AddsNames mid a b (ms ++ all_export_uses find xs) → AddsNames names b c (external_uses find (given_exports find [] xs)) → AreNames names a.unit c.uses.items (ms ++ all_export_uses find xs) (given_exports find [] xs)
unfolding adds_then
names_all mid names a b c ms find xs k none one h g = record {
  told = (ms ++ all_export_uses find xs) ++ external_uses find (given_exports find [] xs);
  match = subst (λ (ns : List code_name.NameUse). AllMatch (IsName names a.unit) ns ((ms ++ all_export_uses find xs) ++ external_uses find (given_exports find [] xs))) (sym whole) (adds_then mid names k a b c (ms ++ all_export_uses find xs) (external_uses find (given_exports find [] xs)) h g).are;
  same = λ m. (into m, λ q. Contains-append_left (ms ++ all_export_uses find xs) (external_uses find (given_exports find [] xs)) m q);
  front = h.more;
  last = g.more;
  parted = whole;
  external = externals_match names a.unit find [] xs g.more (subst (λ (u : ℕ). AllMatch (IsName names u) g.more (external_uses find (given_exports find [] xs))) h.unit g.are);
}
  where
    whole : c.uses.items ≡ h.more ++ g.more
    whole = g.added ∙ ap (λ (l : List code_name.NameUse). l ++ g.more) (h.added ∙ ap (λ (l : List code_name.NameUse). l ++ h.more) none)

    either : (m : NameUse) → Contains (ms ++ all_export_uses find xs) m ⊎ Contains (external_uses find (given_exports find [] xs)) m → Contains (ms ++ all_export_uses find xs) m
    either m (inl q) = q
    either m (inr q) = Contains-append_right ms (all_export_uses find xs) m (externals_in find [] xs one m q)

    into : (m : NameUse) → Contains ((ms ++ all_export_uses find xs) ++ external_uses find (given_exports find [] xs)) m → Contains (ms ++ all_export_uses find xs) m
    into m q = either m (Contains-append_cases (ms ++ all_export_uses find xs) (external_uses find (given_exports find [] xs)) m q)

-- ---- the external names so far, and those that are left

pub record ExternalsSoFar (names : Names) (a b : code.Identifiers) (has : List ℕ → Bool) (find : List ℕ → Option model.Entry) (whole rest : List ExportSpec) : Type 0 where
  pub seen : List (List ℕ)
  pub told : (s : List ℕ) → has s ≡ has_name seen s
  pub uses : List NameUse
  pub adds : AddsNames names a b uses
  pub all : uses ++ external_uses find (given_exports find seen rest) ≡ external_uses find (given_exports find [] whole)

pub externals_begin : (names : Names) (a : code.Identifiers) (has : List ℕ → Bool) (find : List ℕ → Option model.Entry) (whole : List ExportSpec) → ((s : List ℕ) → has s ≡ false) → ExternalsSoFar names a a has find whole whole
externals_begin names a has find whole none = record { seen = []; told = none; uses = []; adds = adds_none names a; all = refl }

externals_step : (find : List ℕ → Option model.Entry) (seen : List (List ℕ)) (x : ExportSpec) (xs : List ExportSpec) → (o : Option model.Entry) → find x.inner.name ≡ o → (b : Bool) → has_name seen x.outer.name ≡ b →
    external_uses find (given_exports find seen (x ∷ xs)) ≡ external_adds b o x ++ external_uses find (given_exports find (x.outer.name ∷ seen) xs)
externals_step find seen x xs None q true p = ap (external_uses find) (given_none find seen x xs q)
externals_step find seen x xs None q false p = ap (external_uses find) (given_none find seen x xs q)
externals_step find seen x xs (Some e) q true p = ap (external_uses find) (given_again find seen x xs e q p)
externals_step find seen x xs (Some e) q false p =
    ap (external_uses find) (given_new find seen x xs e q p) ∙ ap (λ (o : Option model.Entry). external_use o x ++ external_uses find (given_exports find (x.outer.name ∷ seen) xs)) q

pub externals_next : (mid names : Names) → KeepsNames mid names → (a b c : code.Identifiers) (has more : List ℕ → Bool) (find : List ℕ → Option model.Entry) (whole : List ExportSpec) (i : ℕ) (x : ExportSpec) (t : List ℕ) → slice_get whole i ≡ Some x → t ≡ x.outer.name →
    ((s : List ℕ) → more s ≡ cond (bytes_eq t s) true (has s)) → ExternalsSoFar mid a b has find whole (drop i whole) → AddsNames names b c (external_adds (has t) (find x.inner.name) x) → ExternalsSoFar names a c more find whole (drop (i + 1) whole)
externals_next mid names k a b c has more find whole i x t at same told h adds = record {
  seen = x.outer.name ∷ h.seen;
  told = λ s. told s ∙ (λ j. cond (bytes_eq (same j) s) true (h.told s j)) ∙ or_of (bytes_eq x.outer.name s) (has_name h.seen s);
  uses = h.uses ++ external_adds (has t) (find x.inner.name) x;
  adds = adds_then mid names k a b c h.uses (external_adds (has t) (find x.inner.name) x) h.adds adds;
  all =
      append_assoc h.uses (external_adds (has t) (find x.inner.name) x) (external_uses find (given_exports find (x.outer.name ∷ h.seen) (drop (i + 1) whole)))
      ∙ ap (λ (l : List NameUse). h.uses ++ l)
      (ap (λ (b : Bool). external_adds b (find x.inner.name) x ++ external_uses find (given_exports find (x.outer.name ∷ h.seen) (drop (i + 1) whole))) (ap has same ∙ h.told x.outer.name)
      ∙ sym (externals_step find h.seen x (drop (i + 1) whole) (find x.inner.name) refl (has_name h.seen x.outer.name) refl))
      ∙ sym (ap (λ (l : List ExportSpec). h.uses ++ external_uses find (given_exports find h.seen l)) (drop_at whole i x at)) ∙ h.all;
}
  where
    or_of : (b d : Bool) → cond b true d ≡ (b || d)
    or_of true d = refl
    or_of false d = refl

pub externals_done : (names : Names) (a b : code.Identifiers) (has : List ℕ → Bool) (find : List ℕ → Option model.Entry) (whole rest : List ExportSpec) → rest ≡ [] → ExternalsSoFar names a b has find whole rest →
    AddsNames names a b (external_uses find (given_exports find [] whole))
externals_done names a b has find whole rest none h =
    adds_as names a b h.uses (external_uses find (given_exports find [] whole))
    (sym (append-nil h.uses) ∙ ap (λ (l : List ExportSpec). h.uses ++ external_uses find (given_exports find h.seen l)) (sym none) ∙ h.all) h.adds

-- ---- one more of those that are gone through

take_at : {X : Type 0} (xs : List X) (i : ℕ) (x : X) → slice_get xs i ≡ Some x → take (i + 1) xs ≡ take i xs ++ x ∷ []
take_at [] i x h = absurd cc
take_at (y ∷ xs) zero x h = let same : y ≡ x = cc in ap (λ z. z ∷ []) same
take_at (y ∷ xs) (suc i) x h = let e : suc i + 1 ≡ suc (i + 1) = omega arith in ap (λ (k : ℕ). take k (y ∷ xs)) e ∙ ap (λ l. y ∷ l) (take_at xs i x h)

uses_at : {X : Type 0} (f : X → List NameUse) (all : List X → List NameUse) → all [] ≡ [] → ((x : X) (xs : List X) → all (x ∷ xs) ≡ f x ++ all xs) → (xs : List X) (i : ℕ) (x : X) → slice_get xs i ≡ Some x →
    all (take i xs) ++ f x ≡ all (take (i + 1) xs)
uses_at f all none one xs i x at = sym (ap all (take_at xs i x at) ∙ uses_next f all none one (take i xs) x)

mapped_at : {A X : Type 0} (g : A → X) (f : X → List NameUse) (all : List X → List NameUse) → all [] ≡ [] → ((x : X) (xs : List X) → all (x ∷ xs) ≡ f x ++ all xs) → (xs : List A) (i : ℕ) (x : A) → slice_get xs i ≡ Some x →
    all (map g (take i xs)) ++ f (g x) ≡ all (map g (take (i + 1) xs))
mapped_at g f all none one xs i x at = sym (ap (λ l. all (map g l)) (take_at xs i x at) ∙ ap all (map_push g (take i xs) x) ∙ uses_next f all none one (map g (take i xs)) (g x))

pub listed_more : (es : List model.Entry) (ns : List SetName) (i : ℕ) (n : SetName) → slice_get ns i ≡ Some n →
    listed_uses es (map named (take i ns)) ++ entry_use (model.entry_at es n.name) (named n) ≡ listed_uses es (map named (take (i + 1) ns))
listed_more es ns i n at = mapped_at named (λ m. entry_use (model.entry_at es m.name) m) (listed_uses es) refl (λ m ms. refl) ns i n at

pub pairs_more : (es : List model.Entry) (ps : List NamePair) (i : ℕ) (p : NamePair) → slice_get ps i ≡ Some p →
    pair_uses es (map paired (take i ps)) ++ (entry_use (model.entry_at es p.from.name) (named p.from) ++ second_use (model.entry_at es p.from.name) (named p.to)) ≡ pair_uses es (map paired (take (i + 1) ps))
pairs_more es ps i p at =
    mapped_at paired (λ (q : Named (List ℕ) × Named (List ℕ)). entry_use (model.entry_at es q.0.name) q.0 ++ second_use (model.entry_at es q.0.name) q.1) (pair_uses es) refl
    (λ q qs. refl) ps i p at

pub exports_more : (find : List ℕ → Option model.Entry) (xs : List ExportSpec) (i : ℕ) (x : ExportSpec) → slice_get xs i ≡ Some x → all_export_uses find (take i xs) ++ export_uses find x ≡ all_export_uses find (take (i + 1) xs)
exports_more find xs i x at = uses_at (export_uses find) (all_export_uses find) refl (λ y ys. refl) xs i x at

pub imports_more : (all : List Placed) (rs : List UnitResult) (ss : List ImportSpec) (i : ℕ) (s : ImportSpec) → slice_get ss i ≡ Some s →
    import_uses all rs (take i ss) ++ uses_in_set all rs s.set (model.library_in s.set) ≡ import_uses all rs (take (i + 1) ss)
imports_more all rs ss i s at = uses_at (λ (t : ImportSpec). uses_in_set all rs t.set (model.library_in t.set)) (import_uses all rs) refl (λ t ts. refl) ss i s at

pub record ExportAt (xs : List ExportSpec) (n : ℕ) (c : code_export.ExportSpec) : Type 0 where
  pub spec : ExportSpec
  pub there : slice_get xs n ≡ Some spec
  pub is : IsExport c spec

pub export_at : (cs : List code_export.ExportSpec) (xs : List ExportSpec) → AreExports cs xs → (n : ℕ) (c : code_export.ExportSpec) → slice_get cs n ≡ Some c → ExportAt xs n c
export_at [] xs h n c at = absurd cc
export_at (b ∷ cs) [] h n c at = absurd h
export_at (b ∷ cs) (x ∷ xs) h zero c at = let same : b ≡ c = cc in record { spec = x; there = refl; is = subst (λ (d : code_export.ExportSpec). IsExport d x) same h.0 }
export_at (b ∷ cs) (x ∷ xs) h (suc n) c at = let r = export_at cs xs h.1 n c at in record { spec = r.spec; there = r.there; is = r.is }

pub as_many_exports : (cs : List code_export.ExportSpec) (xs : List ExportSpec) → AreExports cs xs → length cs ≡ length xs
as_many_exports [] [] h = refl
as_many_exports [] (x ∷ xs) h = absurd h
as_many_exports (c ∷ cs) [] h = absurd h
as_many_exports (c ∷ cs) (x ∷ xs) h = ap suc (as_many_exports cs xs h.1)

-- what a set of the unit adds: nothing where its library isn't known, and else what the set has
pub uses_unknown : (all : List Placed) (rs : List UnitResult) (s : model.ImportSet) (o : Option LibraryName) → set_exports all rs o ≡ None → [] ≡ uses_in_set all rs s o
uses_unknown all rs s None h = refl
uses_unknown all rs s (Some n) h = ap (λ (e : Option (List model.Entry)). uses_given e s) (sym h)

pub uses_known : (all : List Placed) (rs : List UnitResult) (s : model.ImportSet) (o : Option LibraryName) (es : List model.Entry) → set_exports all rs o ≡ Some es → set_uses es s ≡ uses_in_set all rs s o
uses_known all rs s None es h = absurd cc
uses_known all rs s (Some n) es h = ap (λ (e : Option (List model.Entry)). uses_given e s) (sym h)

-- where no modifier lists identifiers, none is used
nothing_used : (spelled : LibraryName → List ℕ) (c : code_set.ImportSet) (s : model.ImportSet) → IsSetOf (λ t n. t ≡ spelled n) c s → given.lists_none c ≡ true → (es : List model.Entry) → set_uses es s ≡ []
nothing_used spelled (code_set.Library t) s h k es = ap (set_uses es) h.1.0
nothing_used spelled (code_set.Only' p c ns) s h k es = absurd cc
nothing_used spelled (code_set.Except' p c ns) s h k es = absurd cc
nothing_used spelled (code_set.Prefix' p c t) s h k es = ap (set_uses es) h.1.0 ∙ nothing_used spelled c h.0 h.1.1 k es
nothing_used spelled (code_set.Rename' p c ps) s h k es = absurd cc
nothing_used spelled code_set.Bad s h k es = ap (set_uses es) h

pub uses_none : (spelled : LibraryName → List ℕ) (c : code_set.ImportSet) (s : model.ImportSet) → IsSetOf (λ t n. t ≡ spelled n) c s → given.lists_none c ≡ true → (all : List Placed) (rs : List UnitResult) → [] ≡ uses_in_set all rs s (model.library_in s)
uses_none spelled c s h k all rs = in_library (model.library_in s)
  where
    in_exports : (o : Option (List model.Entry)) → [] ≡ uses_given o s
    in_exports None = refl
    in_exports (Some es) = sym (nothing_used spelled c s h k es)

    in_library : (o : Option LibraryName) → [] ≡ uses_in_set all rs s o
    in_library None = refl
    in_library (Some n) = in_exports (library_exports all rs n (standard n))

-- ---- by what is found

pub found_adds : (old : Names) (es : List code_entry.Entry) (find : List ℕ → Option model.Entry) → FindsNames old es find → (s t : List ℕ) → t ≡ s → (e : code_entry.Entry) → Some e ≡ entry_named t es → (P : Option model.Entry → Type 0) →
    ((d : model.Entry) → IsEntry old e d → P (Some d)) → P (find s)
found_adds old es find h s t same e is P one =
    let r = found_one old es find h s e (ap (λ (u : List ℕ). entry_named u es) (sym same) ∙ sym is) in subst P (sym r.is) (one r.entry r.stands)

pub missing_adds : (old : Names) (es : List code_entry.Entry) (find : List ℕ → Option model.Entry) → FindsNames old es find → (s t : List ℕ) → t ≡ s → None ≡ entry_named t es → (P : Option model.Entry → Type 0) → P None → P (find s)
missing_adds old es find h s t same is P none = subst P (sym (found_no old es find h s (ap (λ (u : List ℕ). entry_named u es) (sym same) ∙ sym is))) none

-- ---- one export

pub export_is : (find : List ℕ → Option model.Entry) (c : code_export.ExportSpec) (x : ExportSpec) → IsExport c x → (b : Bool) → b ≡ not (given.same_place c.inner.occ c.outer.occ) →
    inner_use (find c.inner.name) (named c.inner) ∷ cond b (own_use (meaning_or (find c.inner.name) c.inner.name) (named c.outer) ∷ []) [] ≡ export_uses find x
export_is find c x is b e =
    (λ j. inner_use (find (is.inner j).name) (is.inner j) ∷ cond ((e ∙ is.renamed) j) (own_use (meaning_or (find (is.inner j).name) (is.inner j).name) (is.outer j) ∷ []) [])

pub external_is : (c : code_export.ExportSpec) (x : ExportSpec) → IsExport c x → (d : model.Entry) (b : Bool) → b ≡ not (given.same_place c.inner.occ c.outer.occ) →
    record { meaning = d.meaning; symbol = c.outer.name; occ = c.outer.occ; origins = cond b (model.place_origin c.outer.occ) d.origins } ∷ [] ≡ external_use (Some d) x
external_is c x is d b e =
    (λ j. record { meaning = d.meaning; symbol = (is.outer j).name; occ = (is.outer j).occ; origins = cond ((e ∙ is.renamed) j) (model.place_origin (is.outer j).occ) d.origins } ∷ [])
