use Rattle.std.proofs.Common.{◌≡◌, true, Err, sym, ◌∙◌, subst}
use Rattle.std.proofs.lemmas.Option.{slice_get_within}
use Rattle.scheme_model.specs.Order.{head_of}
use Rattle.scheme_model.specs.Meaning.{is_keyword}
use Rattle.expander.specs.Ready.{TestsVariable}
use Rattle.feature_requirements.specs.declared.fault.ExpandFault.{ExpandFault}
use Rattle.expander.proofs.ReadLaws.{keyword_fault}
use Rattle.noted_steps.specs.Noting.{state_of, means_here, noting}
use Rattle.noted_steps.proofs.NoteLaws.{plainly, plain_noted, plain_look}
use Rattle.expander.proofs.expressions.variable.Goals as goal

pub target-target-requires-clause-look : goal.target-target-requires-clause-look
target-target-requires-clause-look c = plain_look c.args.work.now c.args.units.now c.args.at.scope c.requires.look

pub note-requires : goal.note-requires
note-requires c =
    let l = c.requires.look in
    let n = c.requires.name in
    slice_get_within c.args.work.now.symbols.idents _ _ (c.target-target.ensures l.layout (state_of l.state) l.frames n.0 (plainly c.args.work.now c.args.units.now l.layout l.state l.stands) l.at n.1).ident

pub head_by-requires : goal.head_by-requires
head_by-requires c =
    let w = c.args.work.now in
    let u = c.args.units.now in
    let l = c.requires.look in
    let n = c.requires.name in
    let e = plainly w u l.layout l.state l.stands in
    let is = c.target-target.ensures l.layout (state_of l.state) l.frames n.0 e l.at n.1 in
    (l.layout, (state_of l.state, plain_noted w u c.note.new.units l.layout (state_of l.state) c.note.ensures.rest e, (means_here l.state l.frames n.0.name, is.meaning)))

pub returns-then-is_keyword-clause-tested : goal.returns-then-is_keyword-clause-tested
returns-then-is_keyword-clause-tested c = λ known ls s fs n e at is.
    let w = c.args.work.now in
    let h = head_of (noting known) fs s n.name in
    let target = c.target-target.ensures ls (state_of s) fs n (plainly w c.args.units.now ls s e) at is in
    let there = plain_noted w c.args.units.now c.note.new.units ls (state_of s) c.note.ensures.rest (plainly w c.args.units.now ls s e) in
    let keyword : is_keyword h ≡ true = sym (c.is_keyword.ensures h (c.head_by.ensures ls (state_of s) (means_here s fs n.name) there target.meaning)) ∙ c.if-is_keyword.true in
    subst (λ (x : ExpandFault). TestsVariable w s c.args.at.here n h (Err x)) (sym c.fails_at.ensures)
    (keyword, keyword_fault w c.args.at.here c.args.name n is)

pub returns-then-is_keyword-clause-noted : goal.returns-then-is_keyword-clause-noted
returns-then-is_keyword-clause-noted c = λ known ls s fs n e at is.
    c.note.ensures.noted known ls s fs n e (c.target-target.ensures ls (state_of s) fs n (plainly c.args.work.now c.args.units.now ls s e) at is)

pub returns-clause-tested : goal.returns-clause-tested
returns-clause-tested c = λ known ls s fs n e at is.
    let w = c.args.work.now in
    let h = head_of (noting known) fs s n.name in
    let target = c.target-target.ensures ls (state_of s) fs n (plainly w c.args.units.now ls s e) at is in
    let there = plain_noted w c.args.units.now c.note.new.units ls (state_of s) c.note.ensures.rest (plainly w c.args.units.now ls s e) in
    sym (c.is_keyword.ensures h (c.head_by.ensures ls (state_of s) (means_here s fs n.name) there target.meaning)) ∙ c.if-is_keyword.false

pub returns-clause-target : goal.returns-clause-target
returns-clause-target c = λ ls s fs n e at is. c.target-target.ensures ls (state_of s) fs n (plainly c.args.work.now c.args.units.now ls s e) at is

pub returns-clause-noted : goal.returns-clause-noted
returns-clause-noted c = λ known ls s fs n e at is.
    c.note.ensures.noted known ls s fs n e (c.target-target.ensures ls (state_of s) fs n (plainly c.args.work.now c.args.units.now ls s e) at is)
