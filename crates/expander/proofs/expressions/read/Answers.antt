use Rattle.std.proofs.Common.{sym, ap, ◌∙◌, subst}
use Rattle.scheme_model.specs.Trees.{Tree}
use Rattle.scheme_model.specs.Ident.{Ident as Identifier}
use Rattle.scheme_model.specs.Cores.{Const}
use Rattle.scheme_model.specs.Steps.{done}
use Rattle.scheme_model.specs.Expression.{node, quote, reference, expression}
use Rattle.syntax_tree.specs.Works.{StandsFor}
use Rattle.core_tree.specs.Cores.{CoreStands}
use Rattle.unit_scopes.specs.Outcomes.{WorksOn}
use Rattle.form_parts.specs.FormsSeen.{head_name_of}
use Rattle.expander.specs.Ready.{head_asked, IsSettled, Reads}
use Rattle.expander.proofs.ReadLaws.{named_tree}
use Rattle.expander.proofs.FormLaws.{here_reads, here_unread}
use Rattle.expander.proofs.expressions.read.Goals as goal
use Rattle.noted_steps.specs.Noting.{state_of, noting}
use Rattle.noted_steps.specs.Standing.{Stands}

pub reference-requires-clause-name : goal.reference-requires-clause-name
reference-requires-clause-name c =
    let f = c.requires.form in
    let n = named_tree c.args.work.now f.0 c.in-Some.name (c.in-Some.ensures f.0 f.1) in
    (record { name = n.0; occ = n.1 }, n.3)

pub returns-in_err-reference-clause-read : goal.returns-in_err-reference-clause-read
returns-in_err-reference-clause-read c = λ known region ls s fs t knows e at works settled.
    let w = c.args.work.now in
    let u = c.args.units.now in
    let here = c.args.at.here in
    let depth = c.args.at.depth in
    let n = named_tree w t c.in-Some.name (c.in-Some.ensures t works.0) in
    here_unread (CoreStands w u.unit u.form.number) known depth here w region u c.reference.new.units ls fs (λ f. expression f (noting known) depth here fs t s) (reference (noting known) depth here fs (record { name = n.0; occ = n.1 }) s) c.in_err-reference.field-0.0 c.from_residual.result c.from_residual.ensures.1
    (λ f. ap (λ (x : Tree Identifier). expression f (noting known) depth here fs x s) n.2) (c.in_err-reference.ensures.referred known region ls s fs (record { name = n.0; occ = n.1 }) (subst (λ (x : Tree Identifier). Stands w u ls (head_asked known fs (head_name_of x) s)) n.2 e) at n.3)

pub returns-in-Some-clause-read : goal.returns-in-Some-clause-read
returns-in-Some-clause-read c = λ known region ls s fs t knows e at works settled.
    let w = c.args.work.now in
    let u = c.args.units.now in
    let here = c.args.at.here in
    let depth = c.args.at.depth in
    let n = named_tree w t c.in-Some.name (c.in-Some.ensures t works.0) in
    here_reads known depth here w region u c.reference.new.units ls fs (λ f. expression f (noting known) depth here fs t s) (reference (noting known) depth here fs (record { name = n.0; occ = n.1 }) s) c.in_ok-reference.field-0
    (λ f. ap (λ (x : Tree Identifier). expression f (noting known) depth here fs x s) n.2) (c.in_ok-reference.ensures.referred known region ls s fs (record { name = n.0; occ = n.1 }) (subst (λ (x : Tree Identifier). Stands w u ls (head_asked known fs (head_name_of x) s)) n.2 e) at n.3)

pub returns-in_err-constant-in-Atom-clause-read : goal.returns-in_err-constant-in-Atom-clause-read
returns-in_err-constant-in-Atom-clause-read c = λ known region ls s fs t knows e at works settled.
    let w = c.args.work.now in
    let u = c.args.units.now in
    let here = c.args.at.here in
    let depth = c.args.at.depth in
    let l = c.in-Atom.ensures.look t works.0 in
    here_unread (CoreStands w u.unit u.form.number) known depth here w region u c.constant-in-Atom.new.units ls fs (λ f. expression f (noting known) depth here fs t s) (node (noting known) here 2 depth (λ below. done (Const l.0)) s) c.in_err-constant-in-Atom.field-0.0 c.from_residual-in_err-constant-in-Atom.result c.from_residual-in_err-constant-in-Atom.ensures.1
    (λ f. ap (λ (x : Tree Identifier). expression f (noting known) depth here fs x s) l.2)
    (c.in_err-constant-in-Atom.ensures.constant known region ls s l.0 l.1 (subst (λ (x : Tree Identifier). Stands w u ls (head_asked known fs (head_name_of x) s)) l.2 e) (subst (λ (x : Tree Identifier). StandsFor w c.args.form x) l.2 works.0))

pub returns-in_ok-constant-in-Atom-clause-read : goal.returns-in_ok-constant-in-Atom-clause-read
returns-in_ok-constant-in-Atom-clause-read c = λ known region ls s fs t knows e at works settled.
    let w = c.args.work.now in
    let u = c.args.units.now in
    let here = c.args.at.here in
    let depth = c.args.at.depth in
    let l = c.in-Atom.ensures.look t works.0 in
    here_reads known depth here w region u c.constant-in-Atom.new.units ls fs (λ f. expression f (noting known) depth here fs t s) (node (noting known) here 2 depth (λ below. done (Const l.0)) s) c.in_ok-constant-in-Atom.field-0
    (λ f. ap (λ (x : Tree Identifier). expression f (noting known) depth here fs x s) l.2)
    (c.in_ok-constant-in-Atom.ensures.constant known region ls s l.0 l.1 (subst (λ (x : Tree Identifier). Stands w u ls (head_asked known fs (head_name_of x) s)) l.2 e) (subst (λ (x : Tree Identifier). StandsFor w c.args.form x) l.2 works.0))

pub returns-in_err-quote-in-Vector-clause-read : goal.returns-in_err-quote-in-Vector-clause-read
returns-in_err-quote-in-Vector-clause-read c = λ known region ls s fs t knows e at works settled.
    let w = c.args.work.now in
    let u = c.args.units.now in
    let here = c.args.at.here in
    let depth = c.args.at.depth in
    let l = c.in-Vector.ensures.look t works.0 in
    here_unread (CoreStands w u.unit u.form.number) known depth here w region u c.quote.new.units ls fs (λ f. expression f (noting known) depth here fs t s) (quote (noting known) depth here t s) c.in_err-quote-in-Vector.field-0.0 c.from_residual-in_err-quote-in-Vector.result c.from_residual-in_err-quote-in-Vector.ensures.1
    (λ f. ap (λ (x : Tree Identifier). expression f (noting known) depth here fs x s) l.2 ∙ ap (λ (x : Tree Identifier). quote (noting known) depth here x s) (sym l.2))
    (c.in_err-quote-in-Vector.ensures.quoted known region ls s t (subst (λ (x : Tree Identifier). Stands w u ls (head_asked known fs (head_name_of x) s)) l.2 e) works.0)

pub returns-in_ok-quote-in-Vector-clause-read : goal.returns-in_ok-quote-in-Vector-clause-read
returns-in_ok-quote-in-Vector-clause-read c = λ known region ls s fs t knows e at works settled.
    let w = c.args.work.now in
    let u = c.args.units.now in
    let here = c.args.at.here in
    let depth = c.args.at.depth in
    let l = c.in-Vector.ensures.look t works.0 in
    here_reads known depth here w region u c.quote.new.units ls fs (λ f. expression f (noting known) depth here fs t s) (quote (noting known) depth here t s) c.in_ok-quote-in-Vector.field-0
    (λ f. ap (λ (x : Tree Identifier). expression f (noting known) depth here fs x s) l.2 ∙ ap (λ (x : Tree Identifier). quote (noting known) depth here x s) (sym l.2))
    (c.in_ok-quote-in-Vector.ensures.quoted known region ls s t (subst (λ (x : Tree Identifier). Stands w u ls (head_asked known fs (head_name_of x) s)) l.2 e) works.0)

pub returns-in-List-clause-read : goal.returns-in-List-clause-read
returns-in-List-clause-read c = λ known region ls s fs t knows e at works settled.
    let w = c.args.work.now in
    let u = c.args.units.now in
    let here = c.args.at.here in
    let depth = c.args.at.depth in
    let l = c.in-List.ensures.look t works.0 in
    subst (λ (x : Tree Identifier). Reads known depth here w region u c.read_list.new.units ls fs c.read_list.result (λ f. expression f (noting known) depth here fs x s)) (sym l.3)
    (c.read_list.ensures.read known region ls s fs l.0 l.1 l.2 knows (subst (λ (x : Tree Identifier). Stands w c.args.units.now ls (head_asked known fs (head_name_of x) s)) l.3 e) at (subst (λ (x : Tree Identifier). WorksOn w region c.args.form x) l.3 works) l.4 l.5 (c.in-List.ensures.named region works.1).0 (subst (λ (x : Tree Identifier). IsSettled known (state_of s) fs x) l.3 settled))
