use Rattle.std.proofs.Common.{List, sym, subst}
use Rattle.scheme_model.specs.Expression.{leaves_asked, meaning_of}
use Rattle.scheme_model.specs.Ident.{Ident as Identifier}
use Rattle.scheme_model.specs.Order.{Asked}
use Rattle.scheme_model.specs.ScopedExpansion.{Frames, macro_at}
use Rattle.core_tree.specs.Names.{AllMatch, IsLeaf}
use Rattle.core_tree.specs.declared.cores.RuleLeaf.{RuleLeaf}
use Rattle.noted_steps.specs.Noting.{noting}
use Rattle.noted_steps.specs.Standing.{Stands, LeafFor}
use Rattle.noted_steps.proofs.RulesLaws.{frames_of, names_of, leaves_same, leaves_match}
use Rattle.noted_steps.proofs.rules.note_macro.Goals as goal

pub note_leaves-requires : goal.note_leaves-requires
note_leaves-requires c =
    let h = c.requires in
    (h.0, h.1, h.2.leaves, subst (λ (xs : List RuleLeaf). AllMatch (IsLeaf c.args.work.now.symbols h.0 h.1) xs h.2.leaves) (sym c.deref.ensures.value) h.3.leaves)

pub returns-clause-noted : goal.returns-clause-noted
returns-clause-noted c = λ known ls s b e is means.
    let work = c.args.work.now in
    let m = meaning_of b.bound b.ident in
    let o = macro_at s.macros m in
    let leaves = leaves_match known s work b o c.args.def.now.leaves.items is.leaves in
    let all = subst (λ (xs : List RuleLeaf). AllMatch (LeafFor work s (frames_of known s o)) xs (names_of known s o)) (sym c.deref.ensures.value) leaves in
    let noted = subst (λ (qs : List (Asked Frames Identifier)). Stands work c.note_leaves.new.units ls ((noting known).ask qs s)) (leaves_same known s o) (c.note_leaves.ensures.noted known ls s (frames_of known s o) (names_of known s o) e all) in
    c.note_use.ensures.noted known work ls ((noting known).ask (leaves_asked (noting known) o) s) m noted means
