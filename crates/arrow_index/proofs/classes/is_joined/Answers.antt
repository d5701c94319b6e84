use Rattle.std.proofs.Common.{◌≡◌, List, map, true, false, sym, ap, ◌∙◌, arith}
use Rattle.std.proofs.lemmas.List.{take_all}
use Rattle.arrow_index.specs.Links.{as_link}
use Rattle.scheme_model.specs.Spelling.{is_end, is_joined}
use Rattle.arrow_index.specs.declared.links.Link.{Link}
use Rattle.program_leaves.proofs.MemberLaws.{in_from, in_map}
use Rattle.arrow_index.proofs.ClassWalks.{any_from}
use Rattle.arrow_index.proofs.ClassParts.{joined_said}
use Rattle.arrow_index.proofs.classes.is_joined.Goals as goal

pub returns-then-is_end : goal.returns-then-is_end
returns-then-is_end c = λ all said.
    let ls = c.args.links.now in
    let l = c.link-item.result in
    let o = c.args.occ in
    let there = in_map as_link l ls (in_from l ls (c.loop-link.link-index, omega arith, sym c.link-item.is)) in
    let mine : is_joined (map as_link ls) o ≡ true = any_from (is_end o) (as_link l) (map as_link ls) there (sym c.is_end.ensures ∙ c.if-is_end.true) in
    sym mine ∙ joined_said ls all o said

pub returns : goal.returns
returns c = λ all said.
    let ls = c.args.links.now in
    let o = c.args.occ in
    let mine : is_joined (map as_link ls) o ≡ false = ap (λ (xs : List Link). is_joined (map as_link xs) o) (sym (take_all c.loop-link.link-index ls (omega arith))) ∙ c.loop-link.invariant in
    sym mine ∙ joined_said ls all o said
