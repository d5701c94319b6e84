-- The units are those of the documents' data, and those that are expanded are new on the bench.
use Rattle.std.proofs.Common.{◌≡◌, ℕ, ◌<◌, [], ◌∷◌, List, true, length, map, take, vec_len, sym, ap, ◌∙◌, subst, arith}
use Rattle.std.specs.FinMap as finite
use Rattle.std.proofs.lemmas.List.{length-map}
use Rattle.scheme_model.specs.Prelude.{prelude}
use Rattle.scheme_model.specs.Includes.{Document as ModelDocument, data_of, max_units}
use Rattle.scheme_model.specs.Program.{Program, is_in, prelude_unit, known_in, units_of}
use Rattle.scheme_model.specs.ScopedProgram.{scoped_before, scoped_program_of}
use Rattle.model_laws.proofs.FramePrograms.{program_law}
use Rattle.base_library.proofs.StandardTexts as standard
use Rattle.datum_reader.specs.Views.{data_of as code_data}
use Rattle.unit_sources.specs.declared.units.UnitSource.{UnitSource}
use Rattle.unit_sources.specs.Named.{place_named}
use Rattle.unit_sources.specs.Orders.{ArePlaces}
use Rattle.unit_scopes.specs.Preluded.{prelude_state}
use Rattle.unit_scopes.specs.declared.scope.UnitScope.{UnitScope}
use Rattle.program_expansion.specs.UnitResults.{FindsLibraries, GoesOn, HeadsBy}
use Rattle.read_documents.specs.UnitSources.{AreSourcesOf}
use Rattle.read_documents.specs.DataRead.{HaveData}
use Rattle.read_documents.specs.Libraries.{FindsBelow}
use Rattle.read_documents.specs.Places.{AreHeads}
use Rattle.read_documents.specs.Readings.{documents_in}
use Rattle.unit_results.specs.UnitsFound.{AreLostIn, AreTold}
use Rattle.document_units.proofs.JudgedLaws.{unit_found}
use Rattle.program_expansion.proofs.KnownLaws.{known_listed}
use Rattle.program_expansion.proofs.PreludeOutside.{prelude_goes, prelude_stands}
use Rattle.read_documents.specs.declared.documents.Document.{Document}
use Rattle.program_expansion.proofs.LostStand.{units_lost}
use Rattle.program_expansion.proofs.ReadUnits.{judged_heads, forgotten_sources}
use Rattle.unit_results.proofs.SoundKept.{sound_kept, sound_with}
use Rattle.read_documents.proofs.HeadsKept.{heads_kept}
use Rattle.program_expansion.proofs.HeadsStand.{heads_stand}
use Rattle.read_documents.proofs.OpenedLaws.{documents_opened}
use Rattle.program_expansion.proofs.TokensAlike.{have_tokens}
use Rattle.program_expansion.proofs.HeadsOf.{heads_of}
use Rattle.program_expansion.proofs.ToldProgram.{results_are, told_program}
use Rattle.program_expansion.proofs.program.work_on.Goals as goal

-- strings that mean no text stand in one of the documents that have these data
lost_within : (ds : List ModelDocument) (cs : List Document) → HaveData ds cs → AreLostIn (length cs) (units_of ds)
lost_within ds cs have = subst (λ (n : ℕ). AreLostIn n (units_of ds)) (sym (length-map ds data_of) ∙ (ap length have ∙ length-map cs (λ (c : Document). code_data c.items))) (units_lost ds)

pub judge-requires-clause-same : goal.judge-requires-clause-same
judge-requires-clause-same g c =
    let u = c.in_ok-units.units in
    omega (arith, c.in_ok-units.ensures.sound.sources, u.sources.ok.0, u.heads.ok.0)

pub judge-requires-clause-within : goal.judge-requires-clause-within
judge-requires-clause-within g c =
    let u = c.in_ok-units.units in
    let same : length c.as_slice.result.now ≡ vec_len u.heads = omega (arith, c.as_slice.ensures.len, c.in_ok-units.ensures.sound.sources, u.sources.ok.0, u.heads.ok.0) in
    subst (λ (n : ℕ). FindsBelow n c.in_ok-firsts.firsts) same c.in_ok-firsts.ensures.within

pub judge-requires-clause-named : goal.judge-requires-clause-named
judge-requires-clause-named g c = λ s. c.in_ok-firsts.ensures.named s ∙ ap (λ (us : List UnitSource). place_named s 0 (take max_units us)) c.as_slice.ensures.value

pub expand_all-requires-clause-bench : goal.expand_all-requires-clause-bench
expand_all-requires-clause-bench g c = record {
  region = c.requires.region;
  layout = [] ∷ [];
  state = prelude_state prelude;
  notes = [];
  stands = prelude_stands (record c.args.bench.now { scope = c.know.new.self }) (c.know.ensures.rests c.args.bench.now.work ([] ∷ []) (prelude_state prelude) [] c.requires.stands);
}

pub expand_all-requires-clause-units : goal.expand_all-requires-clause-units
expand_all-requires-clause-units g c =
    sound_kept (length c.args.documents.now) c.in_ok-units.units c.judge.new.units c.in_ok-order.ensures.heads c.in_ok-order.ensures.sources c.in_ok-units.ensures.sound

pub expand_all-requires-clause-firsts : goal.expand_all-requires-clause-firsts
expand_all-requires-clause-firsts g c =
    let u = c.in_ok-units.units in
    let v = c.judge.new.units in
    let same : length c.as_slice.result.now ≡ vec_len v.heads =
    omega (arith, c.as_slice.ensures.len, c.in_ok-units.ensures.sound.sources, c.in_ok-order.ensures.heads.size, u.sources.ok.0, u.heads.ok.0, v.heads.ok.0) in
    subst (λ (n : ℕ). FindsBelow n c.in_ok-firsts.firsts) same c.in_ok-firsts.ensures.within

pub expand_all-requires-clause-order : goal.expand_all-requires-clause-order
expand_all-requires-clause-order g c =
    let u = c.in_ok-units.units in
    let v = c.judge.new.units in
    let same : vec_len u.heads ≡ vec_len v.heads = omega (arith, c.in_ok-order.ensures.heads.size, u.heads.ok.0, v.heads.ok.0) in
    subst (λ (n : ℕ). ArePlaces n c.as_slice-2.result.now) same (subst (λ (ps : List ℕ). ArePlaces (vec_len u.heads) ps) (sym c.as_slice-2.ensures) c.in_ok-order.ensures.places)

pub expand_all-requires-clause-new : goal.expand_all-requires-clause-new
expand_all-requires-clause-new g c = λ unit is.
    let here : is_in unit c.in_ok-order.order ≡ true = sym (ap (λ (ps : List ℕ). is_in unit ps) c.as_slice-2.ensures) ∙ is in
    let below : unit < max_units = c.in_ok-order.ensures.few.within unit here in
    ap (λ (s : UnitScope). finite.get s.env.roots unit) c.know.ensures.after ∙ c.requires.new unit (λ (same : unit ≡ prelude_unit). absurd (omega arith))

pub returns-clause-units : goal.returns-clause-units
returns-clause-units g c =
    let count = length c.args.documents.now in
    sound_with count c.judge.new.units c.expand_all.new.units c.in_ok-expanded.ensures.heads (cc (c.expand_all.ensures.sources))
    (sound_kept count c.in_ok-units.units c.judge.new.units c.in_ok-order.ensures.heads c.in_ok-order.ensures.sources c.in_ok-units.ensures.sound)

pub returns-clause-count : goal.returns-clause-count
returns-clause-count g c =
    let v = c.judge.new.units in
    let w = c.expand_all.new.units in
    omega (arith, c.in_ok-expanded.ensures.count, c.in_ok-expanded.ensures.heads.size, v.heads.ok.0, w.heads.ok.0)

pub returns-clause-up : goal.returns-clause-up
returns-clause-up g c = λ ds have spelled spells written.
    let us = units_of ds in
    let u = c.in_ok-units.units in
    let v = c.judge.new.units in
    let told = known_listed ds c.in_ok-known.known (c.in_ok-known.ensures ds have.have) in
    let listed = c.in_ok-units.ensures.listed ds have (c.in_ok-libraries.ensures.knows (known_in ds) told) spelled written in
    let knows = c.know.ensures.knows (known_in ds) (c.in_ok-of.ensures.knows (known_in ds) told) in
    let many : vec_len v.heads ≡ length us = omega (arith, listed.listed.count, c.in_ok-order.ensures.heads.size, u.heads.ok.0, v.heads.ok.0) in
    let finds : FindsLibraries spelled us c.in_ok-firsts.firsts =
    record { spells = spells; units = unit_found spelled spells us (take max_units u.sources.items) listed.units _ (λ s. c.in_ok-firsts.ensures.named s ∙ ap (λ (cs : List UnitSource). place_named s 0 (take max_units cs)) c.as_slice.ensures.value) } in
    let heads : HeadsBy us scoped_before v.heads.items = judged_heads us u.heads.items v.heads.items (c.in_ok-order.ensures.judged spelled spells us listed.units listed.listed) in
    let sources : AreSourcesOf spelled us v.sources.items = forgotten_sources spelled us v.heads.items u.sources.items v.sources.items listed.read heads c.in_ok-order.ensures.forgotten in
    let goes : GoesOn _ scoped_before = prelude_goes (record c.args.bench.now { scope = c.know.new.self }) (c.know.ensures.rests c.args.bench.now.work ([] ∷ []) (prelude_state prelude) [] c.requires.stands) in
    c.in_ok-expanded.ensures.up spelled us (known_in ds) (c.as_slice-2.ensures ∙ c.in_ok-order.ensures.turns spelled spells us listed.units listed.listed) many finds knows goes heads sources

pub returns-clause-steps : goal.returns-clause-steps
returns-clause-steps g c = λ ds have spelled spells written.
    let us = units_of ds in
    let u = c.in_ok-units.units in
    let v = c.judge.new.units in
    let told = known_listed ds c.in_ok-known.known (c.in_ok-known.ensures ds have.have) in
    let listed = c.in_ok-units.ensures.listed ds have (c.in_ok-libraries.ensures.knows (known_in ds) told) spelled written in
    let knows = c.know.ensures.knows (known_in ds) (c.in_ok-of.ensures.knows (known_in ds) told) in
    let many : vec_len v.heads ≡ length us = omega (arith, listed.listed.count, c.in_ok-order.ensures.heads.size, u.heads.ok.0, v.heads.ok.0) in
    let finds : FindsLibraries spelled us c.in_ok-firsts.firsts =
    record { spells = spells; units = unit_found spelled spells us (take max_units u.sources.items) listed.units _ (λ s. c.in_ok-firsts.ensures.named s ∙ ap (λ (cs : List UnitSource). place_named s 0 (take max_units cs)) c.as_slice.ensures.value) } in
    let heads : HeadsBy us scoped_before v.heads.items = judged_heads us u.heads.items v.heads.items (c.in_ok-order.ensures.judged spelled spells us listed.units listed.listed) in
    let sources : AreSourcesOf spelled us v.sources.items = forgotten_sources spelled us v.heads.items u.sources.items v.sources.items listed.read heads c.in_ok-order.ensures.forgotten in
    let goes : GoesOn _ scoped_before = prelude_goes (record c.args.bench.now { scope = c.know.new.self }) (c.know.ensures.rests c.args.bench.now.work ([] ∷ []) (prelude_state prelude) [] c.requires.stands) in
    c.in_ok-expanded.ensures.steps spelled us (known_in ds) (c.as_slice-2.ensures ∙ c.in_ok-order.ensures.turns spelled spells us listed.units listed.listed) many finds knows goes heads sources

pub returns-clause-told : goal.returns-clause-told
returns-clause-told g c = λ texts reads documents read.
    let ds = documents_in reads in
    let have = documents_opened texts c.args.documents.now reads documents read in
    let tokens = have_tokens texts c.args.documents.now reads documents read in
    let spelled = standard.told.0 in
    let spells = standard.told.1 in
    let written = standard.told.2 in
    let us = units_of ds in
    let u = c.in_ok-units.units in
    let v = c.judge.new.units in
    let told = known_listed ds c.in_ok-known.known (c.in_ok-known.ensures ds have.have) in
    let listed = c.in_ok-units.ensures.listed ds have (c.in_ok-libraries.ensures.knows (known_in ds) told) spelled written in
    let knows = c.know.ensures.knows (known_in ds) (c.in_ok-of.ensures.knows (known_in ds) told) in
    let many : vec_len v.heads ≡ length us = omega (arith, listed.listed.count, c.in_ok-order.ensures.heads.size, u.heads.ok.0, v.heads.ok.0) in
    let finds : FindsLibraries spelled us c.in_ok-firsts.firsts =
    record { spells = spells; units = unit_found spelled spells us (take max_units u.sources.items) listed.units _ (λ s. c.in_ok-firsts.ensures.named s ∙ ap (λ (cs : List UnitSource). place_named s 0 (take max_units cs)) c.as_slice.ensures.value) } in
    let heads : HeadsBy us scoped_before v.heads.items = judged_heads us u.heads.items v.heads.items (c.in_ok-order.ensures.judged spelled spells us listed.units listed.listed) in
    let sources : AreSourcesOf spelled us v.sources.items = forgotten_sources spelled us v.heads.items u.sources.items v.sources.items listed.read heads c.in_ok-order.ensures.forgotten in
    let goes : GoesOn _ scoped_before = prelude_goes (record c.args.bench.now { scope = c.know.new.self }) (c.know.ensures.rests c.args.bench.now.work ([] ∷ []) (prelude_state prelude) [] c.requires.stands) in
    let known = known_in ds in
    let order = c.as_slice-2.ensures ∙ c.in_ok-order.ensures.turns spelled spells us listed.units listed.listed in
    let w = c.expand_all.new.units in
    let es = c.in_ok-expanded.expanded.items in
    let law = program_law ds in
    let ends = (scoped_program_of ds).units in
    let stand : AreHeads reads 0 u.heads.items ends = heads_stand texts reads read u.heads.items listed.told listed.listed.count in
    let before : AreHeads reads 0 v.heads.items ends = heads_kept reads 0 u.heads.items v.heads.items ends c.in_ok-order.ensures.heads stand in
    let now : AreHeads reads 0 w.heads.items ends = heads_kept reads 0 v.heads.items w.heads.items ends c.in_ok-expanded.ensures.heads before in
    let up = c.in_ok-expanded.ensures.up spelled us known order many finds knows goes heads sources in
    let found = c.in_ok-expanded.ensures.finds spelled us known order many finds knows goes heads sources reads ends before tokens (results_are us known) (lost_within ds c.args.documents.now have.have) in
    subst (λ (p : Program). AreTold reads p w.heads.items es) law (told_program us known reads c.expand_all.new.bench.work w.heads.items es up.come up.heads found now up.count)

pub returns-clause-heads : goal.returns-clause-heads
returns-clause-heads g c = λ ds have spelled spells written.
    let us = units_of ds in
    let u = c.in_ok-units.units in
    let v = c.judge.new.units in
    let told = known_listed ds c.in_ok-known.known (c.in_ok-known.ensures ds have.have) in
    let listed = c.in_ok-units.ensures.listed ds have (c.in_ok-libraries.ensures.knows (known_in ds) told) spelled written in
    heads_of ds us u.heads.items v.heads.items c.expand_all.new.units.heads.items listed.told (c.in_ok-order.ensures.judged spelled spells us listed.units listed.listed) c.in_ok-order.ensures.heads c.in_ok-expanded.ensures.heads c.in_ok-expanded.ensures.kept
