use Rattle.std.proofs.Common.{◌≡◌, ◌-◌, ℕ, [], List, length, get_or, refl, sym, ap, ◌∙◌, subst, arith}
use Rattle.std.specs.Prelude.{Option, Some, None}
use Rattle.std.proofs.lemmas.List.{drop_all}
use Rattle.scheme_model.specs.Entries.{Entry}
use Rattle.scheme_model.specs.Meaning.{Free}
use Rattle.scheme_model.specs.ProgramArrows.{program_table, unit_names}
use Rattle.rename_model.specs.Walks.{ShowsNothing}
use Rattle.rename_model.specs.SameProgram.{name_asked, export_points}
use Rattle.rename_model.specs.Difference.{first_apart}
use Rattle.syntax_tree.specs.Meant.{IsEntry, AreEntries}
use Rattle.syntax_tree.specs.declared.units.Entry as code_entry
use Rattle.alpha_equal.specs.Points.{ArePair}
use Rattle.program_differences.specs.Exported.{changes_as, name_or, all_exports}
use Rattle.program_differences.proofs.ExportLaws.{asked_is, named_at, entry_at, entries_many, exports_past, exports_here, no_pair, a_pair, as_many_exports, other_count}
use Rattle.program_differences.proofs.exports.exports_apart.Goals as goal

-- what stands past the end
abbrev blank : Entry
blank = record { name = []; meaning = Free []; origins = [] }

pub returns-then-old-new : goal.returns-then-old-new
returns-then-old-new c = λ text uris before after p q r s live stand numbered given others.
    let names = c.args.programs.now.work.now.symbols in
    let olds : AreEntries names c.as_slice-old.result.now r.exports = subst (λ (es : List code_entry.Entry). AreEntries names es r.exports) (sym c.as_slice-old.ensures) stand.old.exports in
    let news : AreEntries names c.as_slice-new.result.now s.exports = subst (λ (es : List code_entry.Entry). AreEntries names es s.exports) (sym c.as_slice-new.ensures) stand.new.exports in
    let a = entries_many names c.as_slice-old.result.now r.exports olds in
    let b = entries_many names c.as_slice-new.result.now s.exports news in
    let os = all_exports (program_table p) (name_asked (changes_as c.args.changes.now) c.args.both.place) r.unit.exports r.exports in
    let ns = all_exports (program_table q) (λ x. x) s.unit.exports s.exports in
    other_count names c.args.both.place live c.in_export-told.result (length r.exports) (length s.exports) os ns (λ eq. absurd (omega (arith, a, b, eq))) (λ x. c.in_export-told.ensures names c.args.both.place 0 x ShowsNothing refl)

pub export_apart-pair-requires : goal.export_apart-pair-requires
export_apart-pair-requires c =
    let names = c.args.programs.now.work.now.symbols in
    let k = c.loop-k.k in
    let old = c.requires.old in
    let new = c.requires.new in
    let olds : AreEntries names c.as_slice-old.result.now old.r.exports = subst (λ (es : List code_entry.Entry). AreEntries names es old.r.exports) (sym c.as_slice-old.ensures) old.stand.exports in
    let news : AreEntries names c.as_slice-new.result.now new.r.exports = subst (λ (es : List code_entry.Entry). AreEntries names es new.r.exports) (sym c.as_slice-new.ensures) new.stand.exports in
    let one = entry_at names c.as_slice-old.result.now old.r.exports k c.index-old-k.result blank olds (omega arith) in
    let two = entry_at names c.as_slice-new.result.now new.r.exports k c.index-new-k.result blank news (omega arith) in (
      get_or old.r.exports k blank,
      get_or new.r.exports k blank,
      subst (λ (z : code_entry.Entry). IsEntry names z (get_or old.r.exports k blank)) (sym c.index-old-k.is) one.stands,
      subst (λ (z : code_entry.Entry). IsEntry names z (get_or new.r.exports k blank)) (sym c.index-new-k.is) two.stands,
    )

pub returns-then-is_some : goal.returns-then-is_some
returns-then-is_some c = λ text uris before after p q r s live stand numbered given others.
    let names = c.args.programs.now.work.now.symbols in
    let place = c.args.both.place in
    let k = c.loop-k.k in
    let t = program_table p in
    let u = program_table q in
    let asks = name_asked (changes_as c.args.changes.now) place in
    let xs = r.unit.exports in
    let ys = s.unit.exports in
    let olds : AreEntries names c.as_slice-old.result.now r.exports = subst (λ (es : List code_entry.Entry). AreEntries names es r.exports) (sym c.as_slice-old.ensures) stand.old.exports in
    let news : AreEntries names c.as_slice-new.result.now s.exports = subst (λ (es : List code_entry.Entry). AreEntries names es s.exports) (sym c.as_slice-new.ensures) stand.new.exports in
    let a = entries_many names c.as_slice-old.result.now r.exports olds in
    let b = entries_many names c.as_slice-new.result.now s.exports news in
    let one = entry_at names c.as_slice-old.result.now r.exports k c.index-old-k.result blank olds (omega arith) in
    let two = entry_at names c.as_slice-new.result.now s.exports k c.index-new-k.result blank news (omega arith) in
    let again = entry_at names c.as_slice-new.result.now s.exports k c.index-old-k.result blank news (omega arith) in
    let e = get_or r.exports k blank in
    let d = get_or s.exports k blank in
    let m = named_at names place c.args.both.old.now.names (unit_names before p r) p.table r k blank stand.old.names given one.within in
    let n = named_at names place c.args.both.new.now.names (unit_names after q s) q.table s k blank stand.new.names others two.within in
    let first = c.external_occ-before.ensures m.front m.it m.last (c.as_slice.ensures ∙ m.parted) (ap (λ (i : ℕ). i - k) a ∙ m.count) ∙ m.stands in
    let second = c.external_occ-after.ensures n.front n.it n.last (c.as_slice-in-loop-k.ensures ∙ n.parted) (ap (λ (i : ℕ). i - k) b ∙ n.count) ∙ n.stands in
    let here = c.export_apart-pair.ensures p q live asks xs ys e d place numbered (λ x. ap (λ (o : Option (List ℕ)). name_or o x) (c.in_ok-asked.ensures x) ∙ asked_is place c.args.changes.now x)
    (subst (λ (z : code_entry.Entry). IsEntry names z e) (sym c.index-old-k.is) one.stands) (subst (λ (z : code_entry.Entry). IsEntry names z d) (sym c.index-new-k.is) two.stands) first second in
    let many : length r.exports ≡ length s.exports = omega (arith, a, b) in
    let whole = c.loop-k.invariant text uris before after p q r s live stand numbered given others
    ∙ sym (as_many_exports names place live (length r.exports) (length s.exports) (all_exports t asks xs r.exports) (all_exports u (λ x. x) ys s.exports) many) in
    a_pair names place 0 c.export_apart-pair.result (first_apart live [] (export_points t asks xs e) (export_points u (λ x. x) ys d)) _ (sym c.is_some.ensures ∙ c.if-is_some.true) here
    (λ pair h. subst (ArePair names place 0 (Some pair)) whole (exports_here names live t u asks xs ys place pair c.as_slice-old.result.now c.as_slice-new.result.now r.exports s.exports k c.index-old-k.result blank blank one again h))

pub loop-k-preserved : goal.loop-k-preserved
loop-k-preserved c = λ text uris before after p q r s live stand numbered given others.
    let names = c.args.programs.now.work.now.symbols in
    let place = c.args.both.place in
    let k = c.loop-k.k in
    let t = program_table p in
    let u = program_table q in
    let asks = name_asked (changes_as c.args.changes.now) place in
    let xs = r.unit.exports in
    let ys = s.unit.exports in
    let olds : AreEntries names c.as_slice-old.result.now r.exports = subst (λ (es : List code_entry.Entry). AreEntries names es r.exports) (sym c.as_slice-old.ensures) stand.old.exports in
    let news : AreEntries names c.as_slice-new.result.now s.exports = subst (λ (es : List code_entry.Entry). AreEntries names es s.exports) (sym c.as_slice-new.ensures) stand.new.exports in
    let a = entries_many names c.as_slice-old.result.now r.exports olds in
    let b = entries_many names c.as_slice-new.result.now s.exports news in
    let one = entry_at names c.as_slice-old.result.now r.exports k c.index-old-k.result blank olds (omega arith) in
    let two = entry_at names c.as_slice-new.result.now s.exports k c.index-new-k.result blank news (omega arith) in
    let again = entry_at names c.as_slice-new.result.now s.exports k c.index-old-k.result blank news (omega arith) in
    let e = get_or r.exports k blank in
    let d = get_or s.exports k blank in
    let m = named_at names place c.args.both.old.now.names (unit_names before p r) p.table r k blank stand.old.names given one.within in
    let n = named_at names place c.args.both.new.now.names (unit_names after q s) q.table s k blank stand.new.names others two.within in
    let first = c.external_occ-before.ensures m.front m.it m.last (c.as_slice.ensures ∙ m.parted) (ap (λ (i : ℕ). i - k) a ∙ m.count) ∙ m.stands in
    let second = c.external_occ-after.ensures n.front n.it n.last (c.as_slice-in-loop-k.ensures ∙ n.parted) (ap (λ (i : ℕ). i - k) b ∙ n.count) ∙ n.stands in
    let here = c.export_apart-pair.ensures p q live asks xs ys e d place numbered (λ x. ap (λ (o : Option (List ℕ)). name_or o x) (c.in_ok-asked.ensures x) ∙ asked_is place c.args.changes.now x)
    (subst (λ (z : code_entry.Entry). IsEntry names z e) (sym c.index-old-k.is) one.stands) (subst (λ (z : code_entry.Entry). IsEntry names z d) (sym c.index-new-k.is) two.stands) first second in
    let none = no_pair names place 0 c.export_apart-pair.result (first_apart live [] (export_points t asks xs e) (export_points u (λ x. x) ys d)) (sym c.is_some.ensures ∙ c.if-is_some.false) here in
    sym (exports_past names live t u asks xs ys c.as_slice-old.result.now c.as_slice-new.result.now r.exports s.exports k c.index-old-k.result blank blank one again none)
    ∙ c.loop-k.invariant text uris before after p q r s live stand numbered given others

pub returns : goal.returns
returns c = λ text uris before after p q r s live stand numbered given others.
    let names = c.args.programs.now.work.now.symbols in
    let place = c.args.both.place in
    let k = c.loop-k.k in
    let t = program_table p in
    let u = program_table q in
    let asks = name_asked (changes_as c.args.changes.now) place in
    let xs = r.unit.exports in
    let ys = s.unit.exports in
    let olds : AreEntries names c.as_slice-old.result.now r.exports = subst (λ (es : List code_entry.Entry). AreEntries names es r.exports) (sym c.as_slice-old.ensures) stand.old.exports in
    let news : AreEntries names c.as_slice-new.result.now s.exports = subst (λ (es : List code_entry.Entry). AreEntries names es s.exports) (sym c.as_slice-new.ensures) stand.new.exports in
    let a = entries_many names c.as_slice-old.result.now r.exports olds in
    let b = entries_many names c.as_slice-new.result.now s.exports news in
    let many : length r.exports ≡ length s.exports = omega (arith, a, b) in
    let one = drop_all k r.exports (omega (arith, a)) in
    let two = drop_all k s.exports (omega (arith, b)) in
    let whole = (λ j. first_apart live [] (all_exports t asks xs (sym one j)) (all_exports u (λ x. x) ys (sym two j))) ∙ c.loop-k.invariant text uris before after p q r s live stand numbered given others
    ∙ sym (as_many_exports names place live (length r.exports) (length s.exports) (all_exports t asks xs r.exports) (all_exports u (λ x. x) ys s.exports) many) in
    subst (ArePair names place 0 None) whole tt
