-- What an import set of the code gives stands for what the import set gives.
use Rattle.std.proofs.Common.{◌≡◌, ℕ, Bool, true, false, cond, List, [], ◌∷◌, map, Option, Some, None, Result, Ok, Err, refl, sym, ap, ◌∙◌, subst}
use Rattle.std.specs.Prelude.{filter, not, reverse}
use Rattle.scheme_model.specs.ExpansionFaults.{Named}
use Rattle.scheme_model.specs.Entries.{Entry, ImportSet, ImportFault, Clash, ◌>>=◌, all_there, is_listed, prefixed, rename_all, gather, unless_clash, gathered, least, has_bad, given_by, entries_of}
use Rattle.syntax_tree.specs.Names.{Names}
use Rattle.syntax_tree.specs.Meant.{AreEntries}
use Rattle.syntax_tree.specs.declared.units.Entry as code_entry
use Rattle.import_sets.specs.declared.set.SetName.{SetName}
use Rattle.import_sets.specs.declared.set.NamePair.{NamePair}
use Rattle.import_sets.specs.declared.set.ImportSet as code
use Rattle.import_sets.specs.declared.fault.ImportFault as code_fault
use Rattle.import_sets.specs.declared.fault.ImportFault.TheVariants as fault
use Rattle.import_sets.specs.declared.gather.Group.{Group}
use Rattle.import_sets.specs.Sets.{named, paired, IsSet, TellsApart, FailsAs, Answers}
use Rattle.import_sets.specs.Given as given
use Rattle.import_sets.proofs.EntryLaws.{unless_some, all_are_there, listed_same, filter_stands, prefixed_stands, rename_stands, froms_named}
use Rattle.import_sets.proofs.GatherLaws.{gather_stands, least_same}

-- ---- one step after another

fails_on : (e : code_fault.ImportFault) (s : Result (List Entry) ImportFault) (k : List Entry → Result (List Entry) ImportFault) → FailsAs e s → FailsAs e (s >>= k)
fails_on fault.Memory s k h = tt
fails_on (fault.NotThere n) s k h = ap (λ (r : Result (List Entry) ImportFault). r >>= k) h
fails_on (fault.Clash t) s k h = ap (λ (r : Result (List Entry) ImportFault). r >>= k) h
fails_on fault.BadSet s k h = ap (λ (r : Result (List Entry) ImportFault). r >>= k) h

step : (names : Names) (f : List code_entry.Entry → Result (List code_entry.Entry) code_fault.ImportFault) (k : List Entry → Result (List Entry) ImportFault) →
    ((es : List code_entry.Entry) (ds : List Entry) → AreEntries names es ds → Answers names (f es) (k ds)) →
    (r : Result (List code_entry.Entry) code_fault.ImportFault) (s : Result (List Entry) ImportFault) → Answers names r s → Answers names (given.◌>>=◌ r f) (s >>= k)
step names f k next (Ok es) s h = subst (λ (s : Result (List Entry) ImportFault). Answers names (f es) (s >>= k)) (sym h.1.0) (next es h.0 h.1.1)
step names f k next (Err e) s h = fails_on e s k h

in_two : (s : Result (List Entry) ImportFault) (a b : List Entry → Result (List Entry) ImportFault) → (s >>= a >>= b) ≡ (s >>= λ x. a x >>= b)
in_two (Ok x) a b = refl
in_two (Err e) a b = refl

two_steps : (names : Names) (f : List code_entry.Entry → Result (List code_entry.Entry) code_fault.ImportFault) (a b : List Entry → Result (List Entry) ImportFault) →
    ((es : List code_entry.Entry) (ds : List Entry) → AreEntries names es ds → Answers names (f es) (a ds >>= b)) →
    (r : Result (List code_entry.Entry) code_fault.ImportFault) (s : Result (List Entry) ImportFault) → Answers names r s → Answers names (given.◌>>=◌ r f) (s >>= a >>= b)
two_steps names f a b next r s h = subst (λ (x : Result (List Entry) ImportFault). Answers names (given.◌>>=◌ r f) x) (sym (in_two s a b)) (step names f (λ x. a x >>= b) next r s h)

-- ---- modifiers

-- a name that isn't there, or what comes of the entries
checked : (names : Names) (ns : List SetName) (es : List code_entry.Entry) (ds : List Entry) (r : Result (List code_entry.Entry) code_fault.ImportFault) (k : List Entry → Result (List Entry) ImportFault) →
    AreEntries names es ds → Answers names r (k ds) → Answers names (given.unless_missing (given.missing ns es) r) (all_there (map named ns) ds >>= k)
checked names ns es ds r k h next =
    subst (λ (a : Result (List Entry) ImportFault). Answers names (given.unless_missing (given.missing ns es) r) (a >>= k)) (sym (all_are_there names ns es ds h)) (go (given.missing ns es))
  where
    go : (o : Option SetName) → Answers names (given.unless_missing o r) (unless_some o ds >>= k)
    go None = next
    go (Some n) = refl

only_stands : (names : Names) (ns : List SetName) (es : List code_entry.Entry) (ds : List Entry) → AreEntries names es ds →
    Answers names (given.only ns es) (all_there (map named ns) ds >>= λ es. Ok (filter (λ e. is_listed (map named ns) e.name) es))
only_stands names ns es ds h =
    checked names ns es ds (Ok (filter (λ e. given.is_listed ns e.name) es)) (λ es. Ok (filter (λ e. is_listed (map named ns) e.name) es)) h
    (filter (λ d. is_listed (map named ns) d.name) ds, (refl, filter_stands names (given.is_listed ns) (is_listed (map named ns)) (listed_same ns) es ds h))

except_stands : (names : Names) (ns : List SetName) (es : List code_entry.Entry) (ds : List Entry) → AreEntries names es ds →
    Answers names (given.except ns es) (all_there (map named ns) ds >>= λ es. Ok (filter (λ e. not (is_listed (map named ns) e.name)) es))
except_stands names ns es ds h =
    checked names ns es ds (Ok (filter (λ e. not (given.is_listed ns e.name)) es)) (λ es. Ok (filter (λ e. not (is_listed (map named ns) e.name)) es)) h
    (filter (λ d. not (is_listed (map named ns) d.name)) ds, (refl, filter_stands names (λ s. not (given.is_listed ns s)) (λ s. not (is_listed (map named ns) s)) (λ s. ap not (listed_same ns s)) es ds h))

told_stands : (names : Names) (gs : List Group) (cs : List Entry) (ss us : List (List ℕ)) → AreEntries names (map given.finished gs) cs → ss ≡ us → Answers names (given.told gs ss) (unless_clash (cs, us))
told_stands names gs cs [] [] h e = (cs, (refl, h))
told_stands names gs cs [] (u ∷ us) h e = absurd cc
told_stands names gs cs (s ∷ ss) [] h e = absurd cc
told_stands names gs cs (s ∷ ss) (u ∷ us) h e =
    let first : s ≡ u = cc in
    let rest : ss ≡ us = cc in
    let answer : List ℕ → Result (List Entry) ImportFault = λ t. Err (Clash t) in
    sym (ap answer (least_same s ss ∙ (λ j. least (first j) (rest j))))

gathered_stands : (names : Names) → TellsApart names → (es : List code_entry.Entry) (ds : List Entry) → AreEntries names es ds → Answers names (given.gathered es) (gathered ds)
gathered_stands names apart es ds h =
    let q = gather_stands names apart es ds h given.nothing_yet [] tt [] refl in
    told_stands names (given.take_all given.nothing_yet es).groups (gather [] ds []).0 (reverse (given.take_all given.nothing_yet es).clashes) (gather [] ds []).1 q.groups q.clashes

rename_answers : (names : Names) → TellsApart names → (ps : List NamePair) (es : List code_entry.Entry) (ds : List Entry) → AreEntries names es ds →
    Answers names (given.rename ps es) (all_there (map (λ (p : Named (List ℕ) × Named (List ℕ)). p.0) (map paired ps)) ds >>= λ es. gathered (rename_all (map paired ps) es))
rename_answers names apart ps es ds h =
    subst (λ (ns : List (Named (List ℕ))). Answers names (given.rename ps es) (all_there ns ds >>= λ es. gathered (rename_all (map paired ps) es))) (sym (froms_named ps))
    (checked names (map (λ (p : NamePair). p.from) ps) es ds (given.gathered (given.rename_all ps es)) (λ es. gathered (rename_all (map paired ps) es)) h
    (gathered_stands names apart (given.rename_all ps es) (rename_all (map paired ps) ds) (rename_stands names ps es ds h)))

-- ---- sets

pub bad_same : (c : code.ImportSet) (s : ImportSet) → IsSet c s → given.has_bad c ≡ has_bad s
bad_same (code.Library t) s h = ap has_bad (sym h.1.0)
bad_same (code.Only' p c ns) s h = bad_same c h.0 h.1.1 ∙ ap has_bad (sym h.1.0)
bad_same (code.Except' p c ns) s h = bad_same c h.0 h.1.1 ∙ ap has_bad (sym h.1.0)
bad_same (code.Prefix' p c t) s h = bad_same c h.0 h.1.1 ∙ ap has_bad (sym h.1.0)
bad_same (code.Rename' p c ps) s h = bad_same c h.0 h.1.1 ∙ ap has_bad (sym h.1.0)
bad_same code.Bad s h = ap has_bad (sym h)

given_stands : (names : Names) → TellsApart names → (c : code.ImportSet) (s : ImportSet) (es : List code_entry.Entry) (ds : List Entry) → IsSet c s → AreEntries names es ds → Answers names (given.given c es) (given_by s ds)
given_stands names apart (code.Library t) s es ds h k = subst (λ (s : ImportSet). Answers names (Ok es) (given_by s ds)) (sym h.1.0) (ds, (refl, k))
given_stands names apart (code.Only' p c ns) s es ds h k =
    subst (λ (s : ImportSet). Answers names (given.given (code.Only' p c ns) es) (given_by s ds)) (sym h.1.0)
    (two_steps names (given.only ns) (all_there (map named ns)) (λ es. Ok (filter (λ e. is_listed (map named ns) e.name) es)) (only_stands names ns)
    (given.given c es) (given_by h.0 ds) (given_stands names apart c h.0 es ds h.1.1 k))
given_stands names apart (code.Except' p c ns) s es ds h k =
    subst (λ (s : ImportSet). Answers names (given.given (code.Except' p c ns) es) (given_by s ds)) (sym h.1.0)
    (two_steps names (given.except ns) (all_there (map named ns)) (λ es. Ok (filter (λ e. not (is_listed (map named ns) e.name)) es)) (except_stands names ns)
    (given.given c es) (given_by h.0 ds) (given_stands names apart c h.0 es ds h.1.1 k))
given_stands names apart (code.Prefix' p c t) s es ds h k =
    subst (λ (s : ImportSet). Answers names (given.given (code.Prefix' p c t) es) (given_by s ds)) (sym h.1.0)
    (step names (λ es. Ok (map (given.prefixed t) es)) (λ es. Ok (map (prefixed t) es)) (λ es ds g. (map (prefixed t) ds, (refl, prefixed_stands names t es ds g)))
    (given.given c es) (given_by h.0 ds) (given_stands names apart c h.0 es ds h.1.1 k))
given_stands names apart (code.Rename' p c ps) s es ds h k =
    subst (λ (s : ImportSet). Answers names (given.given (code.Rename' p c ps) es) (given_by s ds)) (sym h.1.0)
    (two_steps names (given.rename ps) (all_there (map (λ (p : Named (List ℕ) × Named (List ℕ)). p.0) (map paired ps))) (λ es. gathered (rename_all (map paired ps) es)) (rename_answers names apart ps)
    (given.given c es) (given_by h.0 ds) (given_stands names apart c h.0 es ds h.1.1 k))
given_stands names apart code.Bad s es ds h k = ap (λ (s : ImportSet). given_by s ds) h

-- what a set is found to give
pub set_stands : (names : Names) → TellsApart names → (c : code.ImportSet) (s : ImportSet) (es : List code_entry.Entry) (ds : List Entry) → IsSet c s → AreEntries names es ds →
    Answers names (cond (given.has_bad c) (Err fault.BadSet) (given.given c es)) (entries_of s ds)
set_stands names apart c s es ds h k = go (has_bad s) refl (bad_same c s h)
  where
    go : (b : Bool) → has_bad s ≡ b → given.has_bad c ≡ has_bad s → Answers names (cond (given.has_bad c) (Err fault.BadSet) (given.given c es)) (entries_of s ds)
    go true e same = rw (same ∙ e, e) refl
    go false e same = rw (same ∙ e, e) (given_stands names apart c s es ds h k)

-- what a call answers stands for what it is to answer
pub same_answers : (names : Names) (r a : Result (List code_entry.Entry) code_fault.ImportFault) (d : Result (List Entry) ImportFault) → given.Same r a → Answers names a d → Answers names r d
same_answers names (Ok es) a d h k = subst (λ (r : Result (List code_entry.Entry) code_fault.ImportFault). Answers names r d) h k
same_answers names (Err fault.Memory) a d h k = tt
same_answers names (Err (fault.NotThere n)) a d h k = subst (λ (r : Result (List code_entry.Entry) code_fault.ImportFault). Answers names r d) h k
same_answers names (Err (fault.Clash s)) a d h k = subst (λ (r : Result (List code_entry.Entry) code_fault.ImportFault). Answers names r d) h k
same_answers names (Err fault.BadSet) a d h k = subst (λ (r : Result (List code_entry.Entry) code_fault.ImportFault). Answers names r d) h k
