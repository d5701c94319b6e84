-- The unit's head and source are there, and so is its document.
use Rattle.std.proofs.Common.{◌≡◌, ℕ, ◌+◌, List, ◌∷◌, length, slice_set, true, false, refl, sym, ap, ◌∙◌, subst, arith, Bool, Option}
use Rattle.std.specs.Prelude.{not}
use Rattle.std.specs.Option.{is_some as is_there}
use Rattle.std.proofs.lemmas.Option.{slice_get_read, same_Some}
use Rattle.scheme_model.specs.Program as model
use Rattle.scheme_model.specs.Program.{prepared, unit_entries}
use Rattle.read_documents.specs.declared.heads.WholeFault.{WholeFault}
use Rattle.read_documents.specs.declared.heads.WholeFault.TheVariants as fault
use Rattle.unit_imports.specs.declared.entries.Libraries.{Libraries}
use Rattle.unit_imports.specs.declared.expanded.Expanded.{Expanded}
use Rattle.read_documents.specs.declared.heads.Head.{Head}
use Rattle.read_documents.specs.Broken.{broken_if}
use Rattle.program_expansion.specs.UnitResults.{HaveCome}
use Rattle.read_documents.specs.UnitSources.{IsSourceOf}
use Rattle.unit_imports.specs.SetsGiven.{AreLibraries}
use Rattle.document_units.specs.Turned.{scoped_at}
use Rattle.unit_results.specs.UnitsFound.{AreSetsFound}
use Rattle.program_leaves.specs.Formed.{IsFormed}
use Rattle.unit_imports.specs.EntriesMeant.{ExportsMean, HaveMeaning}
use Rattle.read_documents.specs.Places.{SameHead, AreHeads, AreHeadsIn, AreFoundIn, ArePlaces}
use Rattle.unit_scopes.proofs.ImportLaws.{same_trees}
use Rattle.unit_scopes.proofs.OutcomeLaws.{grows_itself, grows_on, trees_on}
use Rattle.standard_scopes.proofs.Growing.{grows_named}
use Rattle.form_expansion.proofs.BenchLaws.{bench_in}
use Rattle.unit_results.proofs.CameKept.{have_kept, libraries_kept}
use Rattle.program_expansion.proofs.TurnCited.{turn_of}
use Rattle.program_expansion.proofs.TurnsForget.{turn_is}
use Rattle.program_expansion.proofs.UnitCame.{goes_in}
use Rattle.program_expansion.proofs.UpTo.{done_at}
use Rattle.program_expansion.proofs.UpToNext.{libraries_of, broken_next, broken_uses, expanded_uses, none_before, expanded_next}
use Rattle.document_units.proofs.BrokenLaws.{heads_itself, head_set, head_broken, names_broken, names_itself}
use Rattle.program_expansion.proofs.FoundNext.{broken_found, expanded_found}
use Rattle.unit_imports.proofs.MeaningLaws.{names_on}
use Rattle.unit_results.proofs.SoundKept.{source_read, some_document}
use Rattle.unit_results.proofs.UnitsTurns.{of_some, all_mean, one_found, one_means, one_formed}
use Rattle.program_expansion.proofs.expanding.expand_at.Goals as goal

-- a head that may have broken stays otherwise
head_stays : (b : Bool) (f : WholeFault) (h g : Head) → g ≡ broken_if b f h → SameHead h g
head_stays b f h g is = subst (λ (k : Head). SameHead h k) (sym is) (head_broken b f h)

pub given_to-requires-clause-documents : goal.given_to-requires-clause-documents
given_to-requires-clause-documents g c = some_document (length c.args.documents.now) c.args.units.now.heads.items c.args.place c.requires.units.heads (omega (arith, c.requires.place, c.args.units.now.heads.ok.0))

pub given_to-requires-clause-places : goal.given_to-requires-clause-places
given_to-requires-clause-places g c = subst (λ (hs : List Head). AreHeadsIn (length c.args.documents.now) hs) (sym c.as_slice-heads.ensures.value) c.requires.units.heads

pub given_to-requires-clause-libraries : goal.given_to-requires-clause-libraries
given_to-requires-clause-libraries g c = subst (λ (es : List (Option Expanded)). ExportsMean c.args.bench.now.work.symbols es) (sym c.as_slice-expanded.ensures.value) c.requires.mean

pub expand_unit-requires-clause-bench : goal.expand_unit-requires-clause-bench
expand_unit-requires-clause-bench g c =
    bench_in c.args.bench.now c.given_to.new.work c.in_ok-given.ensures.trees c.in_ok-given.ensures.names c.told_apart.ensures.idents c.told_apart.ensures.symbols c.requires.bench

pub expand_unit-requires-clause-read : goal.expand_unit-requires-clause-read
expand_unit-requires-clause-read g c =
    let ss = c.args.units.now.sources.items in
    source_read ss c.args.place c.index-source.result.now c.requires.units.read
    (slice_get_read ss (length ss) c.args.place c.index-source.result.now refl (omega (arith, c.requires.place, c.requires.units.sources, c.args.units.now.sources.ok.0, c.args.units.now.heads.ok.0)) c.index-source.ensures)

pub expand_unit-requires-clause-documents : goal.expand_unit-requires-clause-documents
expand_unit-requires-clause-documents g c = some_document (length c.args.documents.now) c.args.units.now.heads.items c.args.place c.requires.units.heads (omega (arith, c.requires.place, c.args.units.now.heads.ok.0))

pub expand_unit-requires-clause-places : goal.expand_unit-requires-clause-places
expand_unit-requires-clause-places g c = subst (λ (hs : List Head). AreHeadsIn (length c.args.documents.now) hs) (sym c.as_slice-heads.ensures.value) c.requires.units.heads

pub expand_unit-requires-clause-exports : goal.expand_unit-requires-clause-exports
expand_unit-requires-clause-exports g c =
    let old = c.args.bench.now.work.symbols in
    let now = c.given_to.new.work.symbols in
    subst (λ (es : List (Option Expanded)). ExportsMean now es) (sym c.as_slice-expanded.ensures.value) (all_mean old now c.in_ok-given.ensures.names c.args.all.now.items c.requires.mean)

pub returns-then-is_some-clause-heads : goal.returns-then-is_some-clause-heads
returns-then-is_some-clause-heads g c = heads_itself c.args.units.now.heads.items

pub returns-clause-heads : goal.returns-clause-heads
returns-clause-heads g c =
    let hs = c.args.units.now.heads.items in
    let h = c.index_mut.result.now in
    let at = slice_get_read hs (length hs) c.args.place h refl (omega (arith, c.args.units.now.heads.ok.0, c.requires.place)) c.index_mut.ensures.value in
    head_set hs hs c.args.place h c.break_if.new.head (heads_itself hs) at (head_stays c.is_none.result fault.TooLarge h c.break_if.new.head c.break_if.ensures)

pub returns-clause-found : goal.returns-clause-found
returns-clause-found g c = one_found (length c.args.documents.now) c.args.all.now.items c.args.place c.in_ok-came.came c.requires.found
    (of_some (λ (e : Expanded). AreFoundIn (length c.args.documents.now) e.findings.items) c.in_ok-came.came c.in_ok-came.ensures.findings)

pub returns-clause-mean : goal.returns-clause-mean
returns-clause-mean g c =
    let old = c.args.bench.now.work.symbols in
    let mid = c.given_to.new.work.symbols in
    let now = c.expand_unit.new.bench.work.symbols in
    one_means old now (names_on old mid now c.in_ok-given.ensures.names c.in_ok-came.ensures.names) c.args.all.now.items c.args.place c.in_ok-came.came c.requires.mean
    (of_some (λ (e : Expanded). HaveMeaning now e.exports) c.in_ok-came.came c.in_ok-came.ensures.exports)

pub returns-clause-formed : goal.returns-clause-formed
returns-clause-formed g c =
    let old = c.args.bench.now.work in
    let mid = c.given_to.new.work in
    let now = c.expand_unit.new.bench.work in
    one_formed old now (trees_on old mid now (same_trees old mid c.in_ok-given.ensures.trees c.in_ok-given.ensures.names) c.in_ok-came.ensures.trees)
    (names_on old.symbols mid.symbols now.symbols c.in_ok-given.ensures.names c.in_ok-came.ensures.names) c.args.all.now.items c.args.place c.in_ok-came.came c.requires.formed
    (of_some (λ (e : Expanded). IsFormed now c.args.place e.forms) c.in_ok-came.came c.in_ok-came.ensures.formed)

-- ---- what the definition has of the unit

flipped : (a b : Bool) → a ≡ not b → b ≡ not a
flipped a true h = sym (ap not h)
flipped a false h = sym (ap not h)

pub returns-then-is_some-clause-next : goal.returns-then-is_some-clause-next
returns-then-is_some-clause-next g c = λ spelled us known x y order finds up.
    let hs = c.args.units.now.heads.items in
    let h = c.index.result.now in
    let at = slice_get_read hs (length hs) c.args.place h refl (omega (arith, c.args.units.now.heads.ok.0, c.requires.place)) c.index.ensures in
    broken_next spelled us known x y c.args.place order c.args.bench.now c.args.units.now c.args.all.now.items up h at (sym c.is_some.ensures ∙ c.if-is_some.true)

pub returns-clause-next : goal.returns-clause-next
returns-clause-next g c = λ spelled us known x y order finds up.
    let b = c.args.bench.now in
    let mid = c.given_to.new.work in
    let now = c.expand_unit.new.bench in
    let es = c.args.all.now.items in
    let n = c.args.place in
    let hs = c.args.units.now.heads.items in
    let h = c.index_mut.result.now in
    let at = slice_get_read hs (length hs) n h refl (omega (arith, c.args.units.now.heads.ok.0, c.requires.place)) c.index_mut.ensures.value in
    let first = c.index.result.now in
    let first_at = slice_get_read hs (length hs) n first refl (omega (arith, c.args.units.now.heads.ok.0, c.requires.place)) c.index.ensures in
    let same : first ≡ h = same_Some first h (sym first_at ∙ at) in
    let whole : is_there h.fault ≡ false = ap (λ (k : Head). is_there k.fault) (sym same) ∙ (sym c.is_some.ensures ∙ c.if-is_some.false) in
    let turn = turn_of us known x y n order in
    let gp = scoped_at us known x in
    let p = prepared us n turn.unit in
    let none = none_before spelled us known x y n order b c.args.units.now es up h at whole in
    let ss = c.args.units.now.sources.items in
    let source = subst (λ (f : Option model.WholeFault). IsSourceOf spelled p f c.index-source.result.now) none
    (up.sources n turn.unit c.index-source.result.now turn.there
    (slice_get_read ss (length ss) n c.index-source.result.now refl (omega (arith, c.requires.place, c.requires.units.sources, c.args.units.now.sources.ok.0, c.args.units.now.heads.ok.0)) c.index-source.ensures)) in
    let trees = same_trees b.work mid c.in_ok-given.ensures.trees c.in_ok-given.ensures.names in
    let ls = c.as_slice-expanded.result.now in
    let come : HaveCome us gp b.work ls = subst (λ (xs : List (Option Expanded)). HaveCome us gp b.work xs) (sym c.as_slice-expanded.ensures.value) up.come in
    let long : length ls ≡ length us = ap (λ (xs : List (Option Expanded)). length xs) c.as_slice-expanded.ensures.value ∙ up.count in
    let lib : Libraries = record { firsts = c.args.firsts; expanded = c.as_slice-expanded.result } in
    let libraries : AreLibraries b.work.symbols lib spelled us gp.results = libraries_of spelled us gp b.work lib finds come long (done_at us known x (n ∷ y) order) in
    let given = c.in_ok-given.ensures.exact spelled us gp.results libraries p (record { kind = source.kind; forms = source.forms; specs = source.imports refl }) in
    let goes = goes_in b mid gp c.in_ok-given.ensures.trees c.in_ok-given.ensures.names c.told_apart.ensures.idents c.told_apart.ensures.symbols up.goes in
    let expands = c.in_ok-came.ensures.expands spelled us known gp p up.knows goes (turn_is us known x n turn) refl source (libraries_kept b.work.symbols mid.symbols c.in_ok-given.ensures.names lib spelled us gp.results libraries) given in
    expanded_next spelled us known x y n order b c.args.units.now es up h at whole now _ c.args.steps.now c.expand_unit.new.steps c.in_ok-came.came (c.in_ok-came.ensures.libraries known up.knows)
    (have_kept b.work now.work (trees_on b.work mid now.work trees c.in_ok-came.ensures.trees) (names_on b.work.symbols mid.symbols now.work.symbols c.in_ok-given.ensures.names c.in_ok-came.ensures.names) us gp es up.come)
    expands refl (ap (λ (k : Head). slice_set hs n k) (c.break_if.ensures ∙ ap (λ (q : Bool). broken_if q fault.TooLarge h) (flipped (is_there c.in_ok-came.came) c.is_none.result c.is_none.ensures)))

pub returns-then-is_some-clause-steps : goal.returns-then-is_some-clause-steps
returns-then-is_some-clause-steps g c = λ spelled us known x y order finds up.
    let hs = c.args.units.now.heads.items in
    let h = c.index.result.now in
    let at = slice_get_read hs (length hs) c.args.place h refl (omega (arith, c.args.units.now.heads.ok.0, c.requires.place)) c.index.ensures in
    ap (λ (n : ℕ). c.args.steps.now + n) (sym (broken_uses spelled us known x y c.args.place order c.args.bench.now c.args.units.now c.args.all.now.items up h at (sym c.is_some.ensures ∙ c.if-is_some.true)))

pub returns-clause-steps : goal.returns-clause-steps
returns-clause-steps g c = λ spelled us known x y order finds up.
    let b = c.args.bench.now in
    let mid = c.given_to.new.work in
    let es = c.args.all.now.items in
    let n = c.args.place in
    let hs = c.args.units.now.heads.items in
    let h = c.index_mut.result.now in
    let at = slice_get_read hs (length hs) n h refl (omega (arith, c.args.units.now.heads.ok.0, c.requires.place)) c.index_mut.ensures.value in
    let first = c.index.result.now in
    let first_at = slice_get_read hs (length hs) n first refl (omega (arith, c.args.units.now.heads.ok.0, c.requires.place)) c.index.ensures in
    let same : first ≡ h = same_Some first h (sym first_at ∙ at) in
    let whole : is_there h.fault ≡ false = ap (λ (k : Head). is_there k.fault) (sym same) ∙ (sym c.is_some.ensures ∙ c.if-is_some.false) in
    let turn = turn_of us known x y n order in
    let gp = scoped_at us known x in
    let p = prepared us n turn.unit in
    let none = none_before spelled us known x y n order b c.args.units.now es up h at whole in
    let ss = c.args.units.now.sources.items in
    let source = subst (λ (f : Option model.WholeFault). IsSourceOf spelled p f c.index-source.result.now) none
    (up.sources n turn.unit c.index-source.result.now turn.there
    (slice_get_read ss (length ss) n c.index-source.result.now refl (omega (arith, c.requires.place, c.requires.units.sources, c.args.units.now.sources.ok.0, c.args.units.now.heads.ok.0)) c.index-source.ensures)) in
    let ls = c.as_slice-expanded.result.now in
    let come : HaveCome us gp b.work ls = subst (λ (xs : List (Option Expanded)). HaveCome us gp b.work xs) (sym c.as_slice-expanded.ensures.value) up.come in
    let long : length ls ≡ length us = ap (λ (xs : List (Option Expanded)). length xs) c.as_slice-expanded.ensures.value ∙ up.count in
    let lib : Libraries = record { firsts = c.args.firsts; expanded = c.as_slice-expanded.result } in
    let libraries : AreLibraries b.work.symbols lib spelled us gp.results = libraries_of spelled us gp b.work lib finds come long (done_at us known x (n ∷ y) order) in
    let given = c.in_ok-given.ensures.exact spelled us gp.results libraries p (record { kind = source.kind; forms = source.forms; specs = source.imports refl }) in
    let goes = goes_in b mid gp c.in_ok-given.ensures.trees c.in_ok-given.ensures.names c.told_apart.ensures.idents c.told_apart.ensures.symbols up.goes in
    let expands = c.in_ok-came.ensures.expands spelled us known gp p up.knows goes (turn_is us known x n turn) refl source (libraries_kept b.work.symbols mid.symbols c.in_ok-given.ensures.names lib spelled us gp.results libraries) given in
    let more = expanded_uses spelled us known x y n order b c.args.units.now es up h at whole in let here = expands.steps in omega (arith, more, here)

pub returns-clause-finds : goal.returns-clause-finds
returns-clause-finds g c = λ spelled us known x y order finds up reads ends heads tokens results lost found.
    let b = c.args.bench.now in
    let mid = c.given_to.new.work in
    let now = c.expand_unit.new.bench in
    let es = c.args.all.now.items in
    let n = c.args.place in
    let hs = c.args.units.now.heads.items in
    let h = c.index_mut.result.now in
    let at = slice_get_read hs (length hs) n h refl (omega (arith, c.args.units.now.heads.ok.0, c.requires.place)) c.index_mut.ensures.value in
    let first = c.index.result.now in
    let first_at = slice_get_read hs (length hs) n first refl (omega (arith, c.args.units.now.heads.ok.0, c.requires.place)) c.index.ensures in
    let same : first ≡ h = same_Some first h (sym first_at ∙ at) in
    let whole : is_there h.fault ≡ false = ap (λ (k : Head). is_there k.fault) (sym same) ∙ (sym c.is_some.ensures ∙ c.if-is_some.false) in
    let turn = turn_of us known x y n order in
    let gp = scoped_at us known x in
    let p = prepared us n turn.unit in
    let none = none_before spelled us known x y n order b c.args.units.now es up h at whole in
    let ss = c.args.units.now.sources.items in
    let source = subst (λ (f : Option model.WholeFault). IsSourceOf spelled p f c.index-source.result.now) none
    (up.sources n turn.unit c.index-source.result.now turn.there
    (slice_get_read ss (length ss) n c.index-source.result.now refl (omega (arith, c.requires.place, c.requires.units.sources, c.args.units.now.sources.ok.0, c.args.units.now.heads.ok.0)) c.index-source.ensures)) in
    let trees = same_trees b.work mid c.in_ok-given.ensures.trees c.in_ok-given.ensures.names in
    let ls = c.as_slice-expanded.result.now in
    let come : HaveCome us gp b.work ls = subst (λ (xs : List (Option Expanded)). HaveCome us gp b.work xs) (sym c.as_slice-expanded.ensures.value) up.come in
    let long : length ls ≡ length us = ap (λ (xs : List (Option Expanded)). length xs) c.as_slice-expanded.ensures.value ∙ up.count in
    let lib : Libraries = record { firsts = c.args.firsts; expanded = c.as_slice-expanded.result } in
    let libraries : AreLibraries b.work.symbols lib spelled us gp.results = libraries_of spelled us gp b.work lib finds come long (done_at us known x (n ∷ y) order) in
    let given = c.in_ok-given.ensures.exact spelled us gp.results libraries p (record { kind = source.kind; forms = source.forms; specs = source.imports refl }) in
    let goes = goes_in b mid gp c.in_ok-given.ensures.trees c.in_ok-given.ensures.names c.told_apart.ensures.idents c.told_apart.ensures.symbols up.goes in
    let places : ArePlaces (record { documents = c.args.documents; heads = c.as_slice-heads.result }) reads ends =
    record { heads = subst (λ (ks : List Head). AreHeads reads 0 ks ends) (sym c.as_slice-heads.ensures.value) heads; spans = tokens } in
    let result = results n turn.unit turn.there in
    let told : AreSetsFound reads ends p (unit_entries us gp.results p).1 c.in_ok-given.given.findings.items = record {
      told = c.in_ok-given.ensures.told spelled us gp.results libraries p (record { kind = source.kind; forms = source.forms; specs = source.imports refl }) reads ends places;
      errors = c.in_ok-given.ensures.errors spelled us gp.results libraries p (record { kind = source.kind; forms = source.forms; specs = source.imports refl }) source.forms refl;
    } in
    let mine = c.in_ok-came.ensures.finds spelled us known gp p up.knows goes (turn_is us known x n turn) refl source given reads ends result.0 places result.1 result.2 told (lost n turn.unit turn.there) in
    expanded_found spelled us known x y n order b c.args.units.now es up h at reads ends found whole c.in_ok-came.came mine

pub returns-then-is_some-clause-finds : goal.returns-then-is_some-clause-finds
returns-then-is_some-clause-finds g c = λ spelled us known x y order finds up reads ends heads tokens results lost found.
    let hs = c.args.units.now.heads.items in
    let h = c.index.result.now in
    let at = slice_get_read hs (length hs) c.args.place h refl (omega (arith, c.args.units.now.heads.ok.0, c.requires.place)) c.index.ensures in
    broken_found spelled us known x y c.args.place order c.args.bench.now c.args.units.now c.args.all.now.items up h at reads ends found (sym c.is_some.ensures ∙ c.if-is_some.true)

-- ---- names

pub returns-then-is_some-clause-kept : goal.returns-then-is_some-clause-kept
returns-then-is_some-clause-kept g c = names_itself c.args.units.now.heads.items

pub returns-clause-kept : goal.returns-clause-kept
returns-clause-kept g c =
    let hs = c.args.units.now.heads.items in
    let h = c.index_mut.result.now in
    let at = slice_get_read hs (length hs) c.args.place h refl (omega (arith, c.args.units.now.heads.ok.0, c.requires.place)) c.index_mut.ensures.value in
    names_broken hs c.args.place h c.break_if.new.head c.is_none.result fault.TooLarge at c.break_if.ensures

-- ---- what the work keeps, whatever is answered

pub returns-then-is_some-clause-grows : goal.returns-then-is_some-clause-grows
returns-then-is_some-clause-grows g c = grows_itself c.args.bench.now.work c.args.bench.now.region

pub returns-in_err-given-clause-grows : goal.returns-in_err-given-clause-grows
returns-in_err-given-clause-grows g c =
    let b = c.args.bench.now in grows_named b.work c.given_to.new.work b.region c.given_to.ensures.trees c.given_to.ensures.names

pub returns-in_err-came-clause-grows : goal.returns-in_err-came-clause-grows
returns-in_err-came-clause-grows g c =
    let b = c.args.bench.now in
    grows_on b.work c.given_to.new.work c.expand_unit.new.bench.work b.region (grows_named b.work c.given_to.new.work b.region c.given_to.ensures.trees c.given_to.ensures.names) c.expand_unit.ensures.grows

pub returns-clause-grows : goal.returns-clause-grows
returns-clause-grows g c =
    let b = c.args.bench.now in
    grows_on b.work c.given_to.new.work c.expand_unit.new.bench.work b.region (grows_named b.work c.given_to.new.work b.region c.given_to.ensures.trees c.given_to.ensures.names) c.expand_unit.ensures.grows

pub returns-clause-region : goal.returns-clause-region
returns-clause-region g c = c.in_ok-came.ensures.region
