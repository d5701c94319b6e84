-- What belongs to the documents, as they were worked on.
use Rattle.std.proofs.Common.{◌≡◌, ℕ, ◌+◌, List, length, map, vec_len, sym, ap, ◌∙◌, subst, arith}
use Rattle.std.specs.FinMap.{entries}
use Rattle.scheme_model.specs.Program.{Program, known_in, units_of}
use Rattle.model_laws.proofs.FramePrograms.{program_law}
use Rattle.scheme_tokens.specs.LibraryNames.{library_text}
use Rattle.syntax_tree.specs.declared.trees.Work.{Work}
use Rattle.core_tree.specs.Units.{ProgramStands}
use Rattle.base_library.proofs.StandardTexts as standard
use Rattle.read_documents.specs.Belongs.{AreErrorsIn}
use Rattle.read_documents.specs.UnitFindings.{HaveErrors}
use Rattle.read_documents.specs.DataRead.{AreOpened, AreReadIn}
use Rattle.read_documents.specs.Places.{AreHeadsIn, HaveTokens}
use Rattle.read_documents.specs.Readings.{AreDocuments, AreReadAs, Read, documents_in, program_in}
use Rattle.document_units.specs.Sound.{IsSound}
use Rattle.unit_results.specs.UnitsExpanded.{AreAllFound}
use Rattle.unit_results.specs.UnitsFound.{AreTold}
use Rattle.read_documents.specs.declared.documents.Document.{Document}
use Rattle.program_expansion.proofs.CollectLaws.{program_stands}
use Rattle.read_documents.proofs.OpenedLaws.{documents_opened}
use Rattle.read_documents.proofs.HeadsKept.{heads_kept}
use Rattle.program_expansion.proofs.TokensAlike.{have_tokens, uris_are}
use Rattle.macro_uses.proofs.ProgramUses.{program_counts}
use Rattle.program_expansion.proofs.TurnUses.{uses_by_turns}
use Rattle.syntax_tree.specs.Works.{IsOpened}
use Rattle.program_expansion.proofs.WorkKept.{trees_begun, names_begun, trees_worked, names_worked}
use Rattle.program_expansion.proofs.program.read_program.Goals as goal

pub work_on-came-requires-clause-read : goal.work_on-came-requires-clause-read
work_on-came-requires-clause-read g c = subst (λ (ds : List Document). AreReadIn ds) (sym c.as_slice.ensures.value) c.in_ok-documents.ensures.read

pub collect-requires-clause-units : goal.collect-requires-clause-units
collect-requires-clause-units g c = subst (λ (n : ℕ). IsSound n c.in_ok-worked.worked.units) c.as_slice.ensures.len c.in_ok-worked.ensures.units

pub collect-requires-clause-found : goal.collect-requires-clause-found
collect-requires-clause-found g c = subst (λ (n : ℕ). AreAllFound n c.in_ok-worked.worked.expanded.items) c.as_slice.ensures.len c.in_ok-worked.ensures.found

pub returns-clause-reading : goal.returns-clause-reading
returns-clause-reading g c =
    let r = c.in_ok-collect.field-0 in
    let ws = c.in_ok-worked.worked in
    let texts = c.args.store.now in
    let docs = c.in_ok-documents.documents.items in
    let is : r.documents.items ≡ docs = cc (c.in_ok-collect.ensures.documents) in
    let as_many : vec_len c.in_ok-documents.documents ≡ length r.documents.items = omega (arith, ap length is, c.in_ok-documents.documents.ok.0) in
    let written = standard.told in
    let have : (rs : List Read) → AreReadAs (entries texts) rs → AreOpened (documents_in rs) c.as_slice.result.now =
    λ rs are. subst (λ (ds : List Document). AreOpened (documents_in rs) ds) (sym c.as_slice.ensures.value) (documents_opened (entries texts) docs rs c.in_ok-documents.ensures.documents are) in
    let tokens : (rs : List Read) → AreReadAs (entries texts) rs → HaveTokens docs rs = λ rs are. have_tokens (entries texts) docs rs c.in_ok-documents.ensures.documents are in
    let told : (rs : List Read) → AreReadAs (entries texts) rs → AreTold rs (program_in rs) ws.units.heads.items ws.expanded.items =
    λ rs are. c.in_ok-worked.ensures.told (entries texts) rs (subst (λ (ds : List Document). AreDocuments (entries texts) ds) (sym c.as_slice.ensures.value) c.in_ok-documents.ensures.documents) are in
    record {
      belongs = record {
        documents = subst (λ (ds : List Document). AreDocuments (entries texts) ds) (sym is) c.in_ok-documents.ensures.documents;
        heads = subst (λ (n : ℕ). AreHeadsIn n r.heads.items) as_many c.in_ok-collect.ensures.heads;
        errors = subst (λ (n : ℕ). AreErrorsIn n r.errors.items) as_many c.in_ok-collect.ensures.errors;
        units = λ rs are. record {
          tokens = subst (λ (ds : List Document). HaveTokens ds rs) (sym is) (tokens rs are);
          heads = heads_kept rs 0 ws.units.heads.items r.heads.items (program_in rs).units c.in_ok-collect.ensures.stay (told rs are).heads;
          errors = c.in_ok-collect.ensures.firsts rs (program_in rs) (tokens rs are) (told rs are);
        };
      };
      findings = omega (arith, c.in_ok-collect.ensures.findings, as_many, r.findings.ok.0);
      formed = c.in_ok-collect.ensures.formed c.work_on-came.new.bench.work c.in_ok-worked.ensures.formed;
      found = λ rs are. c.in_ok-collect.ensures.found (entries texts) rs c.in_ok-documents.ensures.documents are (tokens rs are) (told rs are);
      program = λ rs are.
          let ds = documents_in rs in
          let us = units_of ds in
          let known = known_in ds in
          let up = c.in_ok-worked.ensures.up ds (have rs are) written.0 written.1 written.2 in
          let hs = c.in_ok-worked.ensures.heads ds (have rs are) written.0 written.1 written.2 in
          let law = program_law ds in
          let uris = map (λ (d : Document). d.uri) docs in
          let errors = c.in_ok-collect.ensures.told rs (program_in rs) (tokens rs are) (told rs are) in
          let sound = c.in_ok-worked.ensures.units in
          let many : length ws.units.heads.items ≡ length us = omega (arith, c.in_ok-worked.ensures.count, up.count, ws.units.heads.ok.0, ws.expanded.ok.0) in
          let stands = program_stands library_text uris us known c.work_on-came.new.bench.work written.0 ws.units.heads.items ws.units.sources.items ws.expanded.items r.program.units c.in_ok-collect.ensures.collected up.count many (sound.sources ∙ many) up.come up.sources hs
          (subst (λ (p : Program). HaveErrors r.program.units p.units) (sym law) errors) in
          subst (λ (vs : List (List ℕ)). ProgramStands c.work_on-came.new.bench.work library_text vs us r.program (program_in rs)) (uris_are (entries texts) docs c.in_ok-documents.ensures.documents)
          (subst (λ (p : Program). ProgramStands c.work_on-came.new.bench.work library_text uris us r.program p) law stands);
    }

pub returns-clause-steps : goal.returns-clause-steps
returns-clause-steps g c = λ rs are.
    let ds = documents_in rs in
    let us = units_of ds in
    let known = known_in ds in
    let written = standard.told in
    let have : AreOpened ds c.as_slice.result.now = subst (λ (xs : List Document). AreOpened ds xs) (sym c.as_slice.ensures.value) (documents_opened (entries c.args.store.now) c.in_ok-documents.documents.items rs c.in_ok-documents.ensures.documents are) in
    c.in_ok-worked.ensures.steps ds have written.0 written.1 written.2 ∙ ap (λ (n : ℕ). c.args.steps.now + n) (sym (uses_by_turns us known) ∙ program_counts ds)

pub work_on-came-requires-clause-region : goal.work_on-came-requires-clause-region
work_on-came-requires-clause-region g c =
    subst (λ (w : Work). IsOpened w c.in_ok-region.region) (sym c.replace.ensures.value) (c.in_ok-scope.ensures.grows.trees.regions c.in_ok-region.region c.in_ok-region.ensures.opened)

-- ---- what stood before

pub returns-in_err-scope-clause-trees : goal.returns-in_err-scope-clause-trees
returns-in_err-scope-clause-trees g c =
    trees_begun c.args.work.now c.open_region.new.self c.begin.new.work c.in_ok-region.region c.open_region.ensures.keeps c.open_region.ensures.symbols c.begin.ensures.grows

pub returns-in_err-scope-clause-names : goal.returns-in_err-scope-clause-names
returns-in_err-scope-clause-names g c =
    names_begun c.args.work.now c.open_region.new.self c.begin.new.work c.in_ok-region.region c.open_region.ensures.keeps c.open_region.ensures.symbols c.begin.ensures.grows

pub returns-in_err-worked-clause-trees : goal.returns-in_err-worked-clause-trees
returns-in_err-worked-clause-trees g c =
    trees_worked c.args.work.now c.open_region.new.self c.begin.new.work c.in_ok-region.region c.open_region.ensures.keeps c.open_region.ensures.symbols c.begin.ensures.grows
    c.replace.result c.work_on-came.new.bench.work c.in_ok-region.region c.replace.ensures.value c.work_on-came.ensures.grows

pub returns-in_err-worked-clause-names : goal.returns-in_err-worked-clause-names
returns-in_err-worked-clause-names g c =
    names_worked c.args.work.now c.open_region.new.self c.begin.new.work c.in_ok-region.region c.open_region.ensures.keeps c.open_region.ensures.symbols c.begin.ensures.grows
    c.replace.result c.work_on-came.new.bench.work c.in_ok-region.region c.replace.ensures.value c.work_on-came.ensures.grows

pub returns-in_err-collect-clause-trees : goal.returns-in_err-collect-clause-trees
returns-in_err-collect-clause-trees g c =
    trees_worked c.args.work.now c.open_region.new.self c.begin.new.work c.in_ok-region.region c.open_region.ensures.keeps c.open_region.ensures.symbols c.begin.ensures.grows
    c.replace.result c.work_on-came.new.bench.work c.in_ok-region.region c.replace.ensures.value c.work_on-came.ensures.grows

pub returns-in_err-collect-clause-names : goal.returns-in_err-collect-clause-names
returns-in_err-collect-clause-names g c =
    names_worked c.args.work.now c.open_region.new.self c.begin.new.work c.in_ok-region.region c.open_region.ensures.keeps c.open_region.ensures.symbols c.begin.ensures.grows
    c.replace.result c.work_on-came.new.bench.work c.in_ok-region.region c.replace.ensures.value c.work_on-came.ensures.grows

pub returns-clause-trees : goal.returns-clause-trees
returns-clause-trees g c =
    trees_worked c.args.work.now c.open_region.new.self c.begin.new.work c.in_ok-region.region c.open_region.ensures.keeps c.open_region.ensures.symbols c.begin.ensures.grows
    c.replace.result c.work_on-came.new.bench.work c.in_ok-region.region c.replace.ensures.value c.work_on-came.ensures.grows

pub returns-clause-names : goal.returns-clause-names
returns-clause-names g c =
    names_worked c.args.work.now c.open_region.new.self c.begin.new.work c.in_ok-region.region c.open_region.ensures.keeps c.open_region.ensures.symbols c.begin.ensures.grows
    c.replace.result c.work_on-came.new.bench.work c.in_ok-region.region c.replace.ensures.value c.work_on-came.ensures.grows
