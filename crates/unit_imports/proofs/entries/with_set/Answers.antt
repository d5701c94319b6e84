use Rattle.std.proofs.Common.{ℕ, List, [], ◌∷◌, ◌++◌, ◌∙◌, append-nil, length, map, sym, ap, subst}
use Rattle.scheme_model.specs.Diagnostics.{bytes_of}
use Rattle.scheme_model.specs.Entries as model
use Rattle.scheme_model.specs.Program.{SetResult, Unknown, Faulty}
use Rattle.core_tree.specs.Units.{set_errors}
use Rattle.import_sets.specs.Sets.{TellsApart}
use Rattle.unit_imports.specs.declared.entries.SetGives.{SetGives}
use Rattle.read_documents.specs.Findings.{all_told, errors_in}
use Rattle.unit_imports.specs.Imports.{SetMeans}
use Rattle.read_documents.specs.Places.{spans_of}
use Rattle.unit_imports.specs.SetsGiven.{ComesTo, with_set}
use Rattle.unit_imports.proofs.GivenLaws.{gives_told, faulty_told, groups_after, groups_on, told_after}
use Rattle.unit_imports.proofs.ImportLaws.{groups_kept}
use Rattle.unit_imports.proofs.entries.with_set.Goals as goal

pub returns-in_ok-with_entries-in-Entries-clause-means : goal.returns-in_ok-with_entries-in-Entries-clause-means
returns-in_ok-with_entries-in-Entries-clause-means c =
    let names = c.of_set.new.symbols in
    c.in_ok-with_entries-in-Entries.ensures.means names (record { symbols = c.told_apart.ensures.symbols; idents = c.told_apart.ensures.idents })
    (groups_kept c.args.symbols.now names c.in_ok-entries.ensures.names c.args.gathering.groups.items c.requires.means) (subst (SetMeans names) c.in-Entries.is c.in_ok-entries.ensures.means)

pub returns-in_ok-with_entries-in-Entries-clause-findings : goal.returns-in_ok-with_entries-in-Entries-clause-findings
returns-in_ok-with_entries-in-Entries-clause-findings c = c.in_ok-with_entries-in-Entries.ensures.findings (length c.args.places.documents.now) c.requires.document c.requires.findings

pub returns-in_ok-with_entries-in-Entries-clause-exact : goal.returns-in_ok-with_entries-in-Entries-clause-exact
returns-in_ok-with_entries-in-Entries-clause-exact c = λ spelled all rs libs s is es stand.
    let names = c.of_set.new.symbols in
    let apart : TellsApart names = record { symbols = c.told_apart.ensures.symbols; idents = c.told_apart.ensures.idents } in
    let h = subst (λ (g : SetGives). ComesTo names g (with_set all rs s.set)) c.in-Entries.is (c.in_ok-entries.ensures.exact spelled all rs libs s.set is.set) in
    groups_after names _ (with_set all rs s.set es) _ (h.2 es)
    (c.in_ok-with_entries-in-Entries.ensures.exact names apart es (groups_on c.args.symbols.now names c.in_ok-entries.ensures.names c.args.gathering.groups.items es stand) h.0 h.1)

pub returns-in_ok-with_entries-in-Entries-clause-told : goal.returns-in_ok-with_entries-in-Entries-clause-told
returns-in_ok-with_entries-in-Entries-clause-told c = λ spelled all rs libs s is es stand reads us places.
    let names = c.of_set.new.symbols in
    let apart : TellsApart names = record { symbols = c.told_apart.ensures.symbols; idents = c.told_apart.ensures.idents } in
    let h = subst (λ (g : SetGives). ComesTo names g (with_set all rs s.set)) c.in-Entries.is (c.in_ok-entries.ensures.exact spelled all rs libs s.set is.set) in
    let document = c.args.set.document in
    let old = all_told c.args.findings.now.items in
    told_after (bytes_of (spans_of reads) us) document s old _ (with_set all rs s.set es) _ (h.2 es)
    (gives_told (bytes_of (spans_of reads) us) document spelled c.args.set.spec.now s is h.0 (model.gather es h.0 []).1 old _
    (c.in_ok-with_entries-in-Entries.ensures.told names apart es (groups_on c.args.symbols.now names c.in_ok-entries.ensures.names c.args.gathering.groups.items es stand) h.0 h.1))

pub returns-in_ok-add_unknown-in-Unknown-clause-means : goal.returns-in_ok-add_unknown-in-Unknown-clause-means
returns-in_ok-add_unknown-in-Unknown-clause-means c = groups_kept c.args.symbols.now c.of_set.new.symbols c.in_ok-entries.ensures.names c.args.gathering.groups.items c.requires.means

pub returns-in_ok-add_unknown-in-Unknown-clause-findings : goal.returns-in_ok-add_unknown-in-Unknown-clause-findings
returns-in_ok-add_unknown-in-Unknown-clause-findings c = c.in_ok-add_unknown-in-Unknown.ensures.inside (length c.args.places.documents.now) c.requires.document c.requires.findings

pub returns-in_ok-add_unknown-in-Unknown-clause-exact : goal.returns-in_ok-add_unknown-in-Unknown-clause-exact
returns-in_ok-add_unknown-in-Unknown-clause-exact c = λ spelled all rs libs s is es stand.
    let names = c.of_set.new.symbols in
    let h = subst (λ (g : SetGives). ComesTo names g (with_set all rs s.set)) c.in-Unknown.is (c.in_ok-entries.ensures.exact spelled all rs libs s.set is.set) in
    groups_after names c.args.gathering.groups.items (with_set all rs s.set es) (es, Unknown) (h es) (groups_on c.args.symbols.now names c.in_ok-entries.ensures.names c.args.gathering.groups.items es stand)

pub returns-in_ok-add_unknown-in-Unknown-clause-told : goal.returns-in_ok-add_unknown-in-Unknown-clause-told
returns-in_ok-add_unknown-in-Unknown-clause-told c = λ spelled all rs libs s is es stand reads us places.
    let names = c.of_set.new.symbols in
    let h = subst (λ (g : SetGives). ComesTo names g (with_set all rs s.set)) c.in-Unknown.is (c.in_ok-entries.ensures.exact spelled all rs libs s.set is.set) in
    told_after (bytes_of (spans_of reads) us) c.args.set.document s (all_told c.args.findings.now.items) _ (with_set all rs s.set es) (es, Unknown) (h es)
    (c.in_ok-add_unknown-in-Unknown.ensures.told s spelled is (bytes_of (spans_of reads) us))

pub returns-in_ok-add_fault-in-Faulty-clause-means : goal.returns-in_ok-add_fault-in-Faulty-clause-means
returns-in_ok-add_fault-in-Faulty-clause-means c = groups_kept c.args.symbols.now c.of_set.new.symbols c.in_ok-entries.ensures.names c.args.gathering.groups.items c.requires.means

pub returns-in_ok-add_fault-in-Faulty-clause-exact : goal.returns-in_ok-add_fault-in-Faulty-clause-exact
returns-in_ok-add_fault-in-Faulty-clause-exact c = λ spelled all rs libs s is es stand.
    let names = c.of_set.new.symbols in
    let h = subst (λ (g : SetGives). ComesTo names g (with_set all rs s.set)) c.in-Faulty.is (c.in_ok-entries.ensures.exact spelled all rs libs s.set is.set) in
    groups_after names c.args.gathering.groups.items (with_set all rs s.set es) (es, Faulty h.0) (h.2 es) (groups_on c.args.symbols.now names c.in_ok-entries.ensures.names c.args.gathering.groups.items es stand)

pub returns-in_ok-add_fault-in-Faulty-clause-told : goal.returns-in_ok-add_fault-in-Faulty-clause-told
returns-in_ok-add_fault-in-Faulty-clause-told c = λ spelled all rs libs s is es stand reads us places.
    let names = c.of_set.new.symbols in
    let h = subst (λ (g : SetGives). ComesTo names g (with_set all rs s.set)) c.in-Faulty.is (c.in_ok-entries.ensures.exact spelled all rs libs s.set is.set) in
    let old = all_told c.args.findings.now.items in
    told_after (bytes_of (spans_of reads) us) c.args.set.document s old _ (with_set all rs s.set es) (es, Faulty h.0) (h.2 es)
    (faulty_told (bytes_of (spans_of reads) us) c.args.set.document spelled c.args.set.spec.now s is h.0 old _ (c.in_ok-add_fault-in-Faulty.ensures.told h.0 h.1 reads us places))

pub returns-in_ok-with_entries-in-Entries-clause-errors : goal.returns-in_ok-with_entries-in-Entries-clause-errors
returns-in_ok-with_entries-in-Entries-clause-errors c = λ spelled all rs libs s is es stand.
    let names = c.of_set.new.symbols in
    let apart : TellsApart names = record { symbols = c.told_apart.ensures.symbols; idents = c.told_apart.ensures.idents } in
    let h = subst (λ (g : SetGives). ComesTo names g (with_set all rs s.set)) c.in-Entries.is (c.in_ok-entries.ensures.exact spelled all rs libs s.set is.set) in
    let old = errors_in c.args.findings.now.items in
    let form = c.args.set.form in
    c.in_ok-with_entries-in-Entries.ensures.errors names apart es (groups_on c.args.symbols.now names c.in_ok-entries.ensures.names c.args.gathering.groups.items es stand) h.0 h.1
    ∙ (ap (λ (xs : List (ℕ × ℕ)). old ++ xs) (sym (append-nil (map (λ (t : List ℕ). (52, form)) (model.gather es h.0 []).1)))
    ∙ ap (λ (q : List model.Entry × SetResult). old ++ set_errors ((form, q.1) ∷ [])) (sym (h.2 es)))

pub returns-in_ok-add_unknown-in-Unknown-clause-errors : goal.returns-in_ok-add_unknown-in-Unknown-clause-errors
returns-in_ok-add_unknown-in-Unknown-clause-errors c = λ spelled all rs libs s is es stand.
    let names = c.of_set.new.symbols in
    let h = subst (λ (g : SetGives). ComesTo names g (with_set all rs s.set)) c.in-Unknown.is (c.in_ok-entries.ensures.exact spelled all rs libs s.set is.set) in
    let old = errors_in c.args.findings.now.items in
    c.in_ok-add_unknown-in-Unknown.ensures.errors ∙ (sym (append-nil old) ∙ ap (λ (q : List model.Entry × SetResult). old ++ set_errors ((c.args.set.form, q.1) ∷ [])) (sym (h es)))

pub returns-in_ok-add_fault-in-Faulty-clause-errors : goal.returns-in_ok-add_fault-in-Faulty-clause-errors
returns-in_ok-add_fault-in-Faulty-clause-errors c = λ spelled all rs libs s is es stand.
    let names = c.of_set.new.symbols in
    let h = subst (λ (g : SetGives). ComesTo names g (with_set all rs s.set)) c.in-Faulty.is (c.in_ok-entries.ensures.exact spelled all rs libs s.set is.set) in
    let old = errors_in c.args.findings.now.items in
    c.in_ok-add_fault-in-Faulty.ensures.errors h.0 h.1 ∙ ap (λ (q : List model.Entry × SetResult). old ++ set_errors ((c.args.set.form, q.1) ∷ [])) (sym (h.2 es))
