use Rattle.std.proofs.Common.{None, refl, sym, subst, ◌++◌}
use Rattle.core_forms.specs.Parts.{IsName}
use Rattle.core_forms.specs.declared.shape.NamePart.{NamePart}
use Rattle.syntax_tree.specs.Meant.{IsMeaning}
use Rattle.form_notes.specs.Noted.{compared}
use Rattle.noted_steps.specs.Noting.{state_of, means_here}
use Rattle.noted_steps.proofs.NoteLaws.{plainly, notes_stand}
use Rattle.noted_steps.proofs.noted.note_comparison.Goals as goal

pub returns-clause-noted : goal.returns-clause-noted
returns-clause-noted c = λ known ls s gs fs q e there at h.
    let work = c.args.work.now in
    let names = work.symbols in
    let u = c.args.units.now in
    let p = plainly work u ls s e in
    let l = means_here s gs q.0 in
    let m = means_here s fs q.1 in
    let first = c.target-literal.ensures ls (state_of s) gs (record { name = q.0; occ = None }) p there (subst (λ (x : NamePart). IsName work x (record { name = q.0; occ = None })) (sym c.named.ensures) (h.literal, refl)) in
    let second = c.target-ident.ensures ls (state_of s) fs (record { name = q.1; occ = None }) p at (subst (λ (x : NamePart). IsName work x (record { name = q.1; occ = None })) (sym c.named-2.ensures) (h.ident, refl)) in
    let a = subst (λ n. IsMeaning names n s.since.form c.target-literal.result.meaning l) (sym e.since_unit) (subst (λ n. IsMeaning names s.unit n c.target-literal.result.meaning l) (sym e.since_form) first.meaning) in
    let b = subst (λ n. IsMeaning names n s.since.form c.target-ident.result.meaning m) (sym e.since_unit) (subst (λ n. IsMeaning names s.unit n c.target-ident.result.meaning m) (sym e.since_form) second.meaning) in
    notes_stand work u ls s c.compare.new.self (compared s.since q.0 q.1 l m ++ s.noted) c.compare.ensures.start (λ exact. c.compare.ensures.noted s.since s.noted q.0 q.1 l m (e.notes exact) h.literal h.ident a b h.held) e
