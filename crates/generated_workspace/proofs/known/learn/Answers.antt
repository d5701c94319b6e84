-- One list more is kept.
use Rattle.std.proofs.Common.{cond, bytes_eq, sym, ap, ◌∙◌}
use Rattle.std.proofs.lemmas.List.Sums.{fold_push}
use Rattle.program_answers.specs.Updates.{list_at}
use Rattle.generated_workspace.specs.Known.{Known, with_published}
use Rattle.generated_workspace.proofs.known.learn.Goals as goal

pub loop-published-preserved : goal.loop-published-preserved
loop-published-preserved c = λ uri.
    let p = c.in-Some.published in
    let start = list_at c.args.known.now in
    c.in_ok-learn_one.ensures uri
    ∙ ap (λ xs. cond (bytes_eq p.uri uri) p.list xs) (c.loop-published.invariant uri)
    ∙ ap (λ (k : Known). k uri) (sym (fold_push with_published start c.loop-published.yielded p))
