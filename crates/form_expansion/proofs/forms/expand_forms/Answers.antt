-- All forms are gone through, and what they set aside is expanded.
use Rattle.std.proofs.Common.{sym, ◌∙◌}
use Rattle.form_expansion.proofs.BenchLaws.{grows_then, stays_on}
use Rattle.form_expansion.proofs.FormsHold.{held_bench}
use Rattle.form_expansion.proofs.FormsUnfold.{passing_unfolds, passing_steps, can_finish_all, finishing_unfolds, all_unfolds, all_steps}
use Rattle.unit_sources.specs.UnitsRead.{forms_of}
use Rattle.form_expansion.proofs.forms.expand_forms.Goals as goal

pub finish_all-requires-clause-region : goal.finish_all-requires-clause-region
finish_all-requires-clause-region g c = c.in_ok-declared.ensures.stays.opened

pub finish_all-requires-clause-held : goal.finish_all-requires-clause-held
finish_all-requires-clause-held g c = c.in_ok-declared.ensures.held

pub finish_all-requires-clause-first : goal.finish_all-requires-clause-first
finish_all-requires-clause-first g c = c.in_ok-declared.ensures.stays.first c.requires.begun.first

pub returns-then-is_large-clause-bench : goal.returns-then-is_large-clause-bench
returns-then-is_large-clause-bench g c = held_bench c.declare_all.new.bench c.args.unit 0 c.in_ok-declared.declared.items c.in_ok-declared.ensures.stays.opened c.in_ok-declared.ensures.held

pub returns-then-is_large-clause-stays : goal.returns-then-is_large-clause-stays
returns-then-is_large-clause-stays g c = c.in_ok-declared.ensures.stays

pub returns-then-is_large-2-clause-bench : goal.returns-then-is_large-2-clause-bench
returns-then-is_large-2-clause-bench g c = c.in_ok-expanded.ensures.bench

pub returns-then-is_large-2-clause-stays : goal.returns-then-is_large-2-clause-stays
returns-then-is_large-2-clause-stays g c = stays_on c.args.bench.now c.declare_all.new.bench c.finish_all.new.bench c.in_ok-declared.ensures.stays c.in_ok-expanded.ensures.stays

pub returns-clause-formed : goal.returns-clause-formed
returns-clause-formed g c = c.in_ok-expanded.ensures.formed (sym c.is_large-2.ensures ∙ c.if-is_large-2.false)

pub returns-clause-bench : goal.returns-clause-bench
returns-clause-bench g c = c.in_ok-expanded.ensures.bench

pub returns-clause-stays : goal.returns-clause-stays
returns-clause-stays g c = stays_on c.args.bench.now c.declare_all.new.bench c.finish_all.new.bench c.in_ok-declared.ensures.stays c.in_ok-expanded.ensures.stays

pub returns-then-is_large-clause-unfolds : goal.returns-then-is_large-clause-unfolds
returns-then-is_large-clause-unfolds g c = λ known ls s m p knows stands may own fresh number forms.
    passing_unfolds known p s m may c.args.unit number (forms_of c.args.forms.now) forms c.declare_all.new.bench c.declare_all.new.total c.in_ok-declared.declared.items
    (c.in_ok-declared.ensures.passes known ls m knows stands own fresh) (sym c.is_large.ensures ∙ c.if-is_large.true)

pub returns-then-is_large-2-clause-unfolds : goal.returns-then-is_large-2-clause-unfolds
returns-then-is_large-2-clause-unfolds g c = λ known ls s m p knows stands may own fresh number forms.
    let h = c.in_ok-declared.ensures.passes known ls m knows stands own fresh in let few = sym c.is_large.ensures ∙ c.if-is_large.false in
    let b = c.declare_all.new.bench in let ds = c.in_ok-declared.declared.items in let fs = forms_of c.args.forms.now in
    let can = can_finish_all known p s m may c.args.unit number fs forms b c.declare_all.new.total ds h few in
    finishing_unfolds known p s m may c.args.unit number fs forms b c.declare_all.new.total ds h few c.finish_all.new.bench c.finish_all.new.total c.declare_all.new.steps c.finish_all.new.steps c.in_ok-expanded.expanded
    (c.in_ok-expanded.ensures.finishes known h.held _ (c.in_ok-declared.ensures.stays.libraries known knows) can) (sym c.is_large-2.ensures ∙ c.if-is_large-2.true)

pub returns-clause-unfolds : goal.returns-clause-unfolds
returns-clause-unfolds g c = λ known ls s m p knows stands may own fresh number forms.
    let h = c.in_ok-declared.ensures.passes known ls m knows stands own fresh in let few = sym c.is_large.ensures ∙ c.if-is_large.false in
    let b = c.declare_all.new.bench in let ds = c.in_ok-declared.declared.items in let fs = forms_of c.args.forms.now in
    let can = can_finish_all known p s m may c.args.unit number fs forms b c.declare_all.new.total ds h few in
    all_unfolds known p s m may c.args.unit number fs forms b c.declare_all.new.total ds h few c.finish_all.new.bench c.finish_all.new.total c.declare_all.new.steps c.finish_all.new.steps c.in_ok-expanded.expanded
    (c.in_ok-expanded.ensures.finishes known h.held _ (c.in_ok-declared.ensures.stays.libraries known knows) can) (sym c.is_large-2.ensures ∙ c.if-is_large-2.false)

pub returns-clause-count : goal.returns-clause-count
returns-clause-count g c =
    c.in_ok-expanded.ensures.count (sym c.is_large-2.ensures ∙ c.if-is_large-2.false) ∙ c.in_ok-declared.ensures.count (sym c.is_large.ensures ∙ c.if-is_large.false)

pub returns-then-is_large-clause-steps : goal.returns-then-is_large-clause-steps
returns-then-is_large-clause-steps g c = λ known ls s m p knows stands may own fresh number forms.
    passing_steps known p s m may c.args.unit number (forms_of c.args.forms.now) forms c.declare_all.new.bench c.declare_all.new.total c.in_ok-declared.declared.items
    (c.in_ok-declared.ensures.passes known ls m knows stands own fresh) (sym c.is_large.ensures ∙ c.if-is_large.true) c.args.steps.now c.declare_all.new.steps c.in_ok-declared.ensures.steps

pub returns-then-is_large-2-clause-steps : goal.returns-then-is_large-2-clause-steps
returns-then-is_large-2-clause-steps g c = λ known ls s m p knows stands may own fresh number forms.
    let h = c.in_ok-declared.ensures.passes known ls m knows stands own fresh in let few = sym c.is_large.ensures ∙ c.if-is_large.false in
    let b = c.declare_all.new.bench in let ds = c.in_ok-declared.declared.items in let fs = forms_of c.args.forms.now in
    let can = can_finish_all known p s m may c.args.unit number fs forms b c.declare_all.new.total ds h few in
    all_steps known p s m may c.args.unit number fs forms b c.declare_all.new.total ds h few c.finish_all.new.bench c.finish_all.new.total c.declare_all.new.steps c.finish_all.new.steps c.in_ok-expanded.expanded
    (c.in_ok-expanded.ensures.finishes known h.held _ (c.in_ok-declared.ensures.stays.libraries known knows) can) c.args.steps.now c.in_ok-declared.ensures.steps

pub returns-clause-steps : goal.returns-clause-steps
returns-clause-steps g c = λ known ls s m p knows stands may own fresh number forms.
    let h = c.in_ok-declared.ensures.passes known ls m knows stands own fresh in let few = sym c.is_large.ensures ∙ c.if-is_large.false in
    let b = c.declare_all.new.bench in let ds = c.in_ok-declared.declared.items in let fs = forms_of c.args.forms.now in
    let can = can_finish_all known p s m may c.args.unit number fs forms b c.declare_all.new.total ds h few in
    all_steps known p s m may c.args.unit number fs forms b c.declare_all.new.total ds h few c.finish_all.new.bench c.finish_all.new.total c.declare_all.new.steps c.finish_all.new.steps c.in_ok-expanded.expanded
    (c.in_ok-expanded.ensures.finishes known h.held _ (c.in_ok-declared.ensures.stays.libraries known knows) can) c.args.steps.now c.in_ok-declared.ensures.steps

pub returns-in_err-expanded-clause-grows : goal.returns-in_err-expanded-clause-grows
returns-in_err-expanded-clause-grows g c = grows_then c.args.bench.now c.declare_all.new.bench c.finish_all.new.bench.work c.in_ok-declared.ensures.stays c.finish_all.ensures.grows

pub returns-then-is_large-2-clause-grows : goal.returns-then-is_large-2-clause-grows
returns-then-is_large-2-clause-grows g c = grows_then c.args.bench.now c.declare_all.new.bench c.finish_all.new.bench.work c.in_ok-declared.ensures.stays c.finish_all.ensures.grows

pub returns-clause-grows : goal.returns-clause-grows
returns-clause-grows g c = grows_then c.args.bench.now c.declare_all.new.bench c.finish_all.new.bench.work c.in_ok-declared.ensures.stays c.finish_all.ensures.grows
