use Rattle.std.proofs.Common.{ℕ, List, sym, ap, ◌∙◌, vec_len, arith}
use Rattle.std.specs.BTreeMap.{get_by_text}
use Rattle.scheme_model.specs.Program.{is_in}
use Rattle.read_documents.specs.declared.heads.WholeFault.TheVariants as fault
use Rattle.document_units.proofs.BrokenLaws.{heads_on, breaks_stay}
use Rattle.document_units.proofs.BrokenSteps.{standard_stay, imports_stay}
use Rattle.document_units.proofs.JudgedLaws.{judged}
use Rattle.document_units.proofs.breaking.break_all.Goals as goal

pub break_at-requires-2 : goal.break_at-requires-2
break_at-requires-2 c = λ n i.
    let lt = c.in_ok-places-2.ensures.within (vec_len c.args.heads.now) c.requires.within n (sym (ap (is_in n) c.as_slice-2.ensures) ∙ i) in
    let one = c.break_at.ensures.size in
    let two = c.in_ok-break_standard.ensures.size in
    omega (arith, c.args.heads.now.ok.0, c.break_standard.new.heads.ok.0)

pub returns-clause-stay : goal.returns-clause-stay
returns-clause-stay c =
    let a = c.args.heads.now.items in
    let b = c.break_at.new.heads.items in
    let d = c.break_standard.new.heads.items in
    let e = c.break_at-2.new.heads.items in
    let f = c.find_imports.new.heads.items in
    let find = λ (s : List ℕ). get_by_text c.args.firsts.now s in
    heads_on a b f (breaks_stay fault.DefinedTwice c.as_slice.result.now a b c.break_at.ensures)
    (heads_on b d f (standard_stay b d c.in_ok-break_standard.ensures)
    (heads_on d e f (breaks_stay fault.ImportCycle c.as_slice-2.result.now d e c.break_at-2.ensures) (imports_stay find c.args.sources.now e f c.in_ok-find_imports.ensures)))

pub returns-clause-judged : goal.returns-clause-judged
returns-clause-judged c = λ spelled standard all are listed.
    let find = λ (s : List ℕ). get_by_text c.args.firsts.now s in
    judged spelled standard all c.args.sources.now are find c.requires.named c.as_slice.result.now c.as_slice-2.result.now
    (c.as_slice.ensures ∙ c.in_ok-places.ensures.repeated spelled standard.tells _ are)
    (λ n p at. ap (is_in n) c.as_slice-2.ensures ∙ c.in_ok-places-2.ensures.circles spelled standard.tells _ are n p at)
    c.args.heads.now.items c.break_at.new.heads.items c.break_standard.new.heads.items c.break_at-2.new.heads.items c.find_imports.new.heads.items listed
    c.break_at.ensures c.in_ok-break_standard.ensures c.break_at-2.ensures c.in_ok-find_imports.ensures
