use Rattle.std.proofs.Common.{◌+◌, ◌∙◌, arith, drop, take}
use Rattle.std.proofs.lemmas.List.{take_all}
use Rattle.std.proofs.lemmas.Result.{err_from_is_err_and}
use Rattle.ls_base.specs.Limits.{max_text}
use Rattle.file_fetching.proofs.FetchLaws.{bytes_push, fetched_all, fetched_more, fetched_none, no_room, split_here, stopped, take_here}
use Rattle.file_fetching.proofs.fetching.fetch_texts.Goals as goal

pub loop-name-init : goal.loop-name-init
loop-name-init g c = rw c.new-contents.ensures (fetched_none _ max_text)

pub loop-name-preserved : goal.loop-name-preserved
loop-name-preserved g c =
    let name = c.as_str.result.now in
    let more = take_here c.args.names.now c.loop-name.name-index name c.name-item.result (omega arith) (c.as_str.ensures ∙ c.name-item.is) in
    rw (more, c.in_ok-push.ensures.ok, bytes_push) (fetched_more _ _ _ _ _ name _ max_text c.loop-name.invariant c.in_ok-content.ensures)

pub returns : goal.returns
returns g c = fetched_all _ _ _ _ _ max_text (take_all c.loop-name.name-index c.args.names.now (omega arith)) c.loop-name.invariant

pub returns-in_err-content : goal.returns-in_err-content
returns-in_err-content g c =
    let p = err_from_is_err_and c.from_residual.result c.from_residual.ensures.1 in
    let names = c.args.names.now in
    let i = c.loop-name.name-index in
    let name = c.as_str.result.now in
    let split = split_here names i name c.name-item.result (omega arith) (c.as_str.ensures ∙ c.name-item.is) in
    rw (p.1, p.2) (stopped _ _ _ names (take i names) (drop (i + 1) names) _ name max_text _ split c.loop-name.invariant c.in_err-content.ensures)

pub returns-in_err-push : goal.returns-in_err-push
returns-in_err-push g c =
    let p = err_from_is_err_and c.from_residual-in_err-push.result c.from_residual-in_err-push.ensures.1 in
    let names = c.args.names.now in
    let i = c.loop-name.name-index in
    let name = c.as_str.result.now in
    let split = split_here names i name c.name-item.result (omega arith) (c.as_str.ensures ∙ c.name-item.is) in
    rw (p.1, p.2) (no_room _ _ _ names (take i names) (drop (i + 1) names) _ name _ max_text split c.loop-name.invariant c.in_ok-content.ensures)
