use Rattle.std.proofs.Common.{◌≡◌, sym, ap, subst}
use Rattle.std.proofs.lemmas.Option.{slice_get_within}
use Rattle.scheme_model.specs.Ident.{Ident as Identifier}
use Rattle.scheme_model.specs.Quasiquote.{first_name, mark_in}
use Rattle.scheme_model.specs.Trees.{Tree}
use Rattle.noted_steps.specs.Asked.{behind_by, mark_here, heads_asked}
use Rattle.noted_steps.specs.Standing.{Stands}
use Rattle.noted_steps.proofs.marks.note_first.Goals as goal

pub note_mark-keyword-requires-clause-ident : goal.note_mark-keyword-requires-clause-ident
note_mark-keyword-requires-clause-ident c =
    let p = c.requires.part in
    let l = c.in-Name.ensures.look p.0 p.1 in
    slice_get_within c.args.work.now.symbols.idents c.in-Name.ident l.0 l.3

pub returns-in-Name-clause-noted : goal.returns-in-Name-clause-noted
returns-in-Name-clause-noted c = λ known ls s fs t e at stands.
    let l = c.in-Name.ensures.look t stands in
    subst (λ (x : Tree Identifier). Stands c.args.work.now c.note_mark-keyword.new.units ls (heads_asked known fs (first_name x) s)) (sym l.2) (c.note_mark-keyword.ensures.noted known ls s fs l.0 e at l.3)

pub returns-in-Name-clause-behind : goal.returns-in-Name-clause-behind
returns-in-Name-clause-behind c = λ known ls s fs t e at stands.
    let l = c.in-Name.ensures.look t stands in
    subst (λ (x : Tree Identifier). c.level_behind.result ≡ behind_by (mark_in (mark_here known s fs) x) c.args.level) (sym l.2)
    (c.level_behind.ensures.behind (mark_here known s fs l.0) (c.note_mark-keyword.ensures.mark known ls s fs l.0 e at l.3))

pub returns-in-Atom-clause-noted : goal.returns-in-Atom-clause-noted
returns-in-Atom-clause-noted c = λ known ls s fs t e at stands.
    let l = c.in-Atom.ensures.look t stands in
    subst (λ (x : Tree Identifier). Stands c.args.work.now c.args.units.now ls (heads_asked known fs (first_name x) s)) (sym l.2) e

pub returns-in-Atom-clause-behind : goal.returns-in-Atom-clause-behind
returns-in-Atom-clause-behind c = λ known ls s fs t e at stands.
    let l = c.in-Atom.ensures.look t stands in
    ap (λ (x : Tree Identifier). behind_by (mark_in (mark_here known s fs) x) c.args.level) (sym l.2)

pub returns-in-List-clause-noted : goal.returns-in-List-clause-noted
returns-in-List-clause-noted c = λ known ls s fs t e at stands.
    let l = c.in-List.ensures.look t stands in
    subst (λ (x : Tree Identifier). Stands c.args.work.now c.args.units.now ls (heads_asked known fs (first_name x) s)) (sym l.3) e

pub returns-in-List-clause-behind : goal.returns-in-List-clause-behind
returns-in-List-clause-behind c = λ known ls s fs t e at stands.
    let l = c.in-List.ensures.look t stands in
    ap (λ (x : Tree Identifier). behind_by (mark_in (mark_here known s fs) x) c.args.level) (sym l.3)

pub returns-in-Vector-clause-noted : goal.returns-in-Vector-clause-noted
returns-in-Vector-clause-noted c = λ known ls s fs t e at stands.
    let l = c.in-Vector.ensures.look t stands in
    subst (λ (x : Tree Identifier). Stands c.args.work.now c.args.units.now ls (heads_asked known fs (first_name x) s)) (sym l.2) e

pub returns-in-Vector-clause-behind : goal.returns-in-Vector-clause-behind
returns-in-Vector-clause-behind c = λ known ls s fs t e at stands.
    let l = c.in-Vector.ensures.look t stands in
    ap (λ (x : Tree Identifier). behind_by (mark_in (mark_here known s fs) x) c.args.level) (sym l.2)
