use Rattle.std.proofs.Common.{◌≡◌, ℕ, ◌<◌, List, ap, sym, ◌∙◌, Vec, false}
use Rattle.std.specs.declared.alloc.Global.{Global}
use Rattle.std.proofs.lemmas.Result.{IfOk-weaker}
use Rattle.moves.specs.Numbers.{moved}
use Rattle.program_moves.specs.Sent.{number_in, renumbering_of, is_home, IsForm}
use Rattle.program_moves.proofs.PairLaws.{pair_there, form_found, form_none}
use Rattle.program_moves.proofs.tables.forms_of.Goals as goal

pub form_numbers-requires : goal.form_numbers-requires
form_numbers-requires c =
    let t = pair_there c.args.pairs.now c.args.unit c.in-Some.pair (sym c.pair_of.ensures ∙ c.in-Some.is) in
    c.requires.pairs.forms t.0 c.in-Some.pair t.1

pub returns-in-Some-clause-sent : goal.returns-in-Some-clause-sent
returns-in-Some-clause-sent c =
    IfOk-weaker c.form_numbers.result (λ (v : Vec ℕ Global). (f : ℕ) → f < c.in-Some.pair.forms_before → moved v.items f ≡ number_in c.in-Some.pair f)
    (λ (v : Vec ℕ Global). is_home c.args.homes.now c.args.unit ≡ false → (f : ℕ) → IsForm c.args.pairs.now c.args.unit f → moved v.items f ≡ (renumbering_of c.args.pairs.now).form c.args.unit f)
    (λ v sent none f is.
    let at = sym c.pair_of.ensures ∙ c.in-Some.is in
    sent f (is c.in-Some.pair at) ∙ sym (form_found c.args.pairs.now c.args.unit f c.in-Some.pair c.requires.unit at))
    c.form_numbers.ensures.sent

pub returns-in-None-clause-sent : goal.returns-in-None-clause-sent
returns-in-None-clause-sent c none f is = ap (λ (ns : List ℕ). moved ns f) c.new-in-None.ensures.items ∙ sym (form_none c.args.pairs.now c.args.unit f c.requires.unit (sym c.pair_of.ensures ∙ c.in-None.is))
